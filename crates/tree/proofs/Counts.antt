-- Each page once: counts of page numbers.
use Rattle.std.proofs.Common.{◌≡◌, ℕ, zero, suc, ◌+◌, ◌<◌, ◌≤◌, cond, ◌&&◌, eqb, ltb, leb, ◌≢◌, List, [], ◌∷◌, ◌++◌, length, sym, refl, ap, ◌∙◌, ⊎_elim, arith}
use Rattle.std.specs.List.{AllByRecursion}
use Rattle.std.proofs.lemmas.Bool.{cases_eq, cases_lt, and_right, and_from, le-ltb, le-leb, lt-ltb, eq-eqb, ne_eqb, cond-true, cond-false, cond_both}
use Rattle.page.specs.Form.{times}

pub one_same : (q r : ℕ) → q ≡ r → ◌≡◌ {A = ℕ} (cond (eqb q r) 1 0) 1
one_same q r e = cond-true _ _ _ (eq-eqb q r e)

pub one_other : (q r : ℕ) → q ≢ r → ◌≡◌ {A = ℕ} (cond (eqb q r) 1 0) 0
one_other q r e = cond-false _ _ _ (ne_eqb q r e)

-- the pages of a card but the head
pub in_range : (q n : ℕ) → 1 ≤ q → q < n → ◌≡◌ {A = ℕ} (cond (leb 1 q && ltb q n) 1 0) 1
in_range q n a b = cond-true _ _ _ (and_from _ _ (le-leb 1 q a) (lt-ltb q n b))

pub past_range : (q n : ℕ) → n ≤ q → ◌≡◌ {A = ℕ} (cond (leb 1 q && ltb q n) 1 0) 0
past_range q n h = cond-false _ _ _ (and_right (leb 1 q) (ltb q n) (le-ltb q n h))

pub range_one : (q n : ℕ) → cond (leb 1 q && ltb q n) 1 0 ≤ 1
range_one q n = cond_both (leb 1 q && ltb q n) 1 0 (λ m. m ≤ 1) (λ _. omega arith) (λ _. omega arith)

pub times_append : (q : ℕ) (xs ys : List ℕ) → times q (xs ++ ys) ≡ times q xs + times q ys
times_append q [] ys = omega arith
times_append q (x ∷ xs) ys = let h = times_append q xs ys in omega arith

pub not_there : (q : ℕ) (xs : List ℕ) → times q xs ≡ 0 → AllByRecursion (λ r. q ≡ r → ⊥) xs
not_there q [] e = tt
not_there q (x ∷ xs) e = (
  (λ same. let c : ◌≡◌ {A = ℕ} (cond (eqb q x) 1 0) 1 = cond-true _ _ _ (eq-eqb _ _ same) in omega arith),
  not_there q xs (omega arith),
)

-- how often the numbers below n stand in a list, together
total : ℕ → List ℕ → ℕ
total zero xs = 0
total (suc n) xs = total n xs + times n xs

total_nil : (n : ℕ) → total n [] ≡ 0
unfolding total
total_nil zero = refl
total_nil (suc n) = let h = total_nil n in omega arith

total_past : (n x : ℕ) (xs : List ℕ) → n ≤ x → total n (x ∷ xs) ≡ total n xs
unfolding total
total_past zero x xs le = refl
total_past (suc n) x xs le =
    let h = total_past n x xs (omega arith) in
    let c : ◌≡◌ {A = ℕ} (cond (eqb n x) 1 0) 0 = cond-false _ _ _ (ne_eqb n x (λ e. omega arith)) in
    omega arith

total_more : (n x : ℕ) (xs : List ℕ) → x < n → total n (x ∷ xs) ≡ suc (total n xs)
unfolding total
total_more zero x xs lt = absurd (omega arith)
total_more (suc n) x xs lt =
    ⊎_elim
    (λ same.
    let h = total_past n x xs (omega arith) in
    let c : ◌≡◌ {A = ℕ} (cond (eqb n x) 1 0) 1 = cond-true _ _ _ (eq-eqb n x same) in
    omega arith)
    (λ ne.
    let h = total_more n x xs (below ne lt) in
    let c : ◌≡◌ {A = ℕ} (cond (eqb n x) 1 0) 0 = cond-false _ _ _ (ne_eqb n x ne) in
    omega arith)
    (cases_eq n x)
  where
    below : {n x : ℕ} → (n ≡ x → ⊥) → x < suc n → x < n
    below {n} {x} ne lt = ⊎_elim (λ h. h) (λ h. absurd (ne (omega arith))) (cases_lt x n)

total_length : (n : ℕ) (xs : List ℕ) → AllByRecursion (λ x. x < n) xs → total n xs ≡ length xs
total_length n [] all = total_nil n
total_length n (x ∷ xs) all = total_more n x xs all.0 ∙ ap suc (total_length n xs all.1)

module _ (N : ℕ) (xs : List ℕ) (once : (q : ℕ) → times q xs ≡ cond (leb 1 q && ltb q N) 1 0) where
  pub inside : (ys : List ℕ) → ((q : ℕ) → times q ys ≤ times q xs) → AllByRecursion (λ x. x < N) ys
  inside [] le = tt
  inside (y ∷ ys) le = (
    ⊎_elim (λ h. h)
        (λ h.
        let o = once y in
        let c : ◌≡◌ {A = ℕ} (cond (eqb y y) 1 0) 1 = cond-true _ _ _ (eq-eqb y y refl) in
        let z = past_range y N h in
        let l = le y in
        absurd (omega arith))
        (cases_lt y N),
    inside ys (λ q. let l = le q in omega arith),
  )

  total_once : (n : ℕ) → 1 ≤ n → n ≤ N → suc (total n xs) ≡ n
  unfolding total
  total_once zero a b = absurd (omega arith)
  total_once (suc zero) a b = let o = once 0 in omega arith
  total_once (suc (suc n)) a b =
      let h = total_once (suc n) (omega arith) (omega arith) in
      let o = once (suc n) in
      let z : ◌≡◌ {A = ℕ} (cond (leb 1 (suc n) && ltb (suc n) N) 1 0) 1 = cond-true _ _ _ (and_from _ _ (le-leb 1 (suc n) (omega arith)) (lt-ltb (suc n) N (omega arith))) in
      omega arith

  -- tree pages and free pages are all pages but the head
  pub pages_count : 1 ≤ N → suc (length xs) ≡ N
  pages_count some = ap suc (sym (total_length N xs (inside xs (λ q. omega arith)))) ∙ total_once N some (omega arith)
