-- A fresh card is lawful for the empty set.
use Rattle.std.proofs.Common.{◌≡◌, ℕ, zero, suc, ◌+◌, ◌-◌, ◌<◌, ◌≤◌, cond, ◌&&◌, eqb, ltb, leb, List, [], ◌∷◌, map, length, get_or, set, None, sym, refl, ap, ◌∙◌, ⊎_elim, arith}
use Rattle.std.specs.List.{range_with_len}
use Rattle.std.proofs.lemmas.List.FromFn.{length-range_with_len, length-map-range_with_len, get_or-map-range_with_len}
use Rattle.std.proofs.lemmas.Bool.{cases_eq, cases_lt, lt-ltb, le-ltb, le-leb, eq-eqb, ne_eqb, and_from, and_right, cond-true, cond-false}
use Rattle.kinds.specs.Kind.{Kind}
use Rattle.page.specs.Form.{free_view, head_view, encode, times}
use Rattle.tree.specs.Lawful.{Card, page, front, Chained, Lawful, begun_card}

-- the page after a page of n, 0 after the last
abbrev pub after : ℕ → ℕ → ℕ
after n q = cond (ltb (q + 1) n) (q + 1) 0

module _ {P : Type 0} (k : Kind P) where
  abbrev pub free_bytes : ℕ → ℕ → List ℕ
  free_bytes n q = encode k (free_view (after n q))

  pub begun_length : (n : ℕ) → 1 ≤ n → length (begun_card k n) ≡ n
  unfolding begun_card
  begun_length n h = let a = length-map-range_with_len (free_bytes n) 1 (n - 1) in omega arith

  pub begun_page : (n q : ℕ) → 1 ≤ q → q < n → page (begun_card k n) q ≡ free_bytes n q
  unfolding begun_card
  begun_page n zero h lt = absurd (omega arith)
  begun_page n (suc q) h lt = get_or-map-range_with_len (free_bytes n) 1 (n - 1) q (suc q) [] (omega arith) (omega arith)

  pub begun_head : (n : ℕ) → page (begun_card k n) 0 ≡ encode k (head_view 1 (n - 1) None)
  unfolding begun_card
  begun_head n = refl

  -- a list that has the right page at each place is the fresh card
  by_places : (f : ℕ → List ℕ) (xs : Card) (a m : ℕ) → length xs ≡ m → ((i : ℕ) → i < m → get_or xs i [] ≡ f (a + i)) → xs ≡ map f (range_with_len a m)
  by_places f [] a zero l h = refl
  by_places f [] a (suc m) l h = absurd (omega arith)
  by_places f (x ∷ xs) a zero l h = absurd (omega arith)
  by_places f (x ∷ xs) a (suc m) l h =
      let z : a + 0 ≡ a = omega arith in
      let one : x ≡ f a = h 0 (omega arith) ∙ ap f z in
      let rest : xs ≡ map f (range_with_len (a + 1) m) = by_places f xs (a + 1) m (omega arith) (λ i lt. h (suc i) (omega arith) ∙ ap f (step i)) in
      cc
    where
      step : (i : ℕ) → a + suc i ≡ (a + 1) + i
      step i = omega arith

  pub made : (n : ℕ) (xs : Card) (head : List ℕ) → 1 ≤ n → length xs ≡ n → ((q : ℕ) → 1 ≤ q → q < n → page xs q ≡ free_bytes n q) → head ≡ encode k (head_view 1 (n - 1) None) → set xs 0 head ≡ begun_card k n
  unfolding begun_card
  made n [] head some l h e = absurd (omega arith)
  made n (x ∷ xs) head some l h e =
      let rest : xs ≡ map (free_bytes n) (range_with_len 1 (n - 1)) = by_places (free_bytes n) xs 1 (n - 1) (omega arith) (λ i lt. h (suc i) (omega arith) (omega arith) ∙ ap (free_bytes n) (step i)) in
      cc
    where
      step : (i : ℕ) → suc i ≡ 1 + i
      step i = omega arith

  -- ---- the chain 1, 2, up to the last page

  last_or_next : (n a m : ℕ) → (a + 1) + m ≡ n → after n a ≡ front (range_with_len (a + 1) m)
  last_or_next n a zero e = cond-false _ _ _ (le-ltb (a + 1) n (omega arith))
  last_or_next n a (suc m) e = cond-true _ _ _ (lt-ltb (a + 1) n (omega arith))

  chain_from : (n a m : ℕ) → 1 ≤ a → a + m ≡ n → Chained k (begun_card k n) (range_with_len a m)
  chain_from n a zero some e = tt
  chain_from n a (suc m) some e = (begun_page n a some (omega arith) ∙ ap (λ x. encode k (free_view x)) (last_or_next n a m (omega arith)), chain_from n (a + 1) m (omega arith) (omega arith))

  below_none : (q a m : ℕ) → q < a → times q (range_with_len a m) ≡ 0
  below_none q a zero lt = refl
  below_none q a (suc m) lt =
      let c : ◌≡◌ {A = ℕ} (cond (eqb q a) 1 0) 0 = cond-false _ _ _ (ne_eqb q a (λ e. omega arith)) in
      let r = below_none q (a + 1) m (omega arith) in omega arith

  inside_one : (q a m : ℕ) → a ≤ q → q < a + m → times q (range_with_len a m) ≡ 1
  inside_one q a zero le lt = absurd (omega arith)
  inside_one q a (suc m) le lt =
      ⊎_elim
      (λ e. let c : ◌≡◌ {A = ℕ} (cond (eqb q a) 1 0) 1 = cond-true _ _ _ (eq-eqb q a e) in let r = below_none q (a + 1) m (omega arith) in omega arith)
      (λ ne. let c : ◌≡◌ {A = ℕ} (cond (eqb q a) 1 0) 0 = cond-false _ _ _ (ne_eqb q a ne) in let r = inside_one q (a + 1) m (more q a le ne) (omega arith) in omega arith)
      (cases_eq q a)
    where
      more : (q a : ℕ) → a ≤ q → (q ≡ a → ⊥) → a + 1 ≤ q
      more q a le ne = ⊎_elim (λ h. omega arith) (λ h. absurd (ne (omega arith))) (cases_lt a q)

  past_none : (q a m : ℕ) → a + m ≤ q → times q (range_with_len a m) ≡ 0
  past_none q a zero le = refl
  past_none q a (suc m) le =
      let c : ◌≡◌ {A = ℕ} (cond (eqb q a) 1 0) 0 = cond-false _ _ _ (ne_eqb q a (λ e. omega arith)) in
      let r = past_none q (a + 1) m (omega arith) in omega arith

  once : (n q : ℕ) → 1 ≤ n → times q (range_with_len 1 (n - 1)) ≡ cond (leb 1 q && ltb q n) 1 0
  once n zero some = below_none 0 1 (n - 1) (omega arith)
  once n (suc q) some =
      ⊎_elim
      (λ lt. inside_one (suc q) 1 (n - 1) (omega arith) (omega arith) ∙ sym (cond-true _ _ _ (and_from _ _ (le-leb 1 (suc q) (omega arith)) (lt-ltb (suc q) n lt))))
      (λ ge. past_none (suc q) 1 (n - 1) (omega arith) ∙ sym (cond-false _ _ _ (and_right (leb 1 (suc q)) (ltb (suc q) n) (le-ltb (suc q) n ge))))
      (cases_lt (suc q) n)

  first_one : (m : ℕ) → 1 ≤ m → front (range_with_len 1 m) ≡ 1
  first_one zero h = absurd (omega arith)
  first_one (suc m) h = refl

  pub begun_lawful : (n : ℕ) → 2 ≤ n → n ≤ 65535 → Lawful k (begun_card k n) []
  begun_lawful n two most =
      let l = begun_length n (omega arith) in
      let c = length-range_with_len 1 (n - 1) in
      record {
        root = None;
        chain = range_with_len 1 (n - 1);
        size = (omega arith, omega arith);
        is_set = record { rising = tt; on = tt };
        head = begun_head n ∙ ap (λ x. encode k (head_view x (n - 1) None)) (sym (first_one (n - 1) (omega arith))) ∙ ap (λ x. encode k (head_view (front (range_with_len 1 (n - 1))) x None)) (sym c);
        is_tree = refl;
        shows = tt;
        chained = chain_from n 1 (n - 1) (omega arith) (omega arith);
        each_once = λ q. once n q (omega arith) ∙ ap (λ x. cond (leb 1 q && ltb q x) 1 0) (sym l);
      }
