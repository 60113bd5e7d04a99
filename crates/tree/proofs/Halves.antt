-- Halves of sets, and sets with and without a point.
use Rattle.std.proofs.Common.{◌≡◌, ℕ, suc, ◌+◌, ◌-◌, ◌/◌, ◌^◌, ◌<◌, ◌≤◌, Bool, true, false, cond, eqb, ltb, ◌⊎◌, List, [], ◌∷◌, ◌++◌, map, length, filter, sym, refl, ap, ◌∙◌, subst, inl, inr, ⊎_elim, mod-lt, div-one, arith, lit<, length-append}
use lib.Arith.{lt_of_le-ne}
use Rattle.std.specs.List.{AllByRecursion}
use Rattle.std.proofs.lemmas.Bool.{cases_eq, cases_lt, cases_Bool, both_ways, eq-eqb, ne_eqb, eqb-true, eqb-false, ltb-true, ltb-false, lt-ltb, le-ltb, cond-true, cond-false, cond_both, not_from_true, not_from_false}
use Rattle.std.proofs.ByRecursion.{all_kept_by, kept_by_passes, All-weaker, All-map}
use Rattle.zorder.specs.Code.{first, bit_at}
use Rattle.zorder.specs.Halves.{half, Rising}
use Rattle.zorder.proofs.Halving.{halves_join}
use Rattle.tree.specs.Sets.{live, with_point, without_point}
use Rattle.tree.specs.Tree.{Depth}

pub all_unmap : {X Y : Type 0} (A : Y → Type 0) (f : X → Y) (xs : List X) → AllByRecursion A (map f xs) → AllByRecursion (λ x. A (f x)) xs
all_unmap A f [] h = tt
all_unmap A f (x ∷ xs) h = (h.0, all_unmap A f xs h.1)

pub kept_all : {X : Type 0} (t : X → Bool) (qs : List X) → AllByRecursion (λ q. t q ≡ true) qs → filter t qs ≡ qs
kept_all t [] all = refl
kept_all t (q ∷ qs) all = cond-true _ _ _ all.0 ∙ ap (λ l. q ∷ l) (kept_all t qs all.1)

pub kept_none : {X : Type 0} (t : X → Bool) (qs : List X) → AllByRecursion (λ q. t q ≡ false) qs → filter t qs ≡ []
kept_none t [] all = refl
kept_none t (q ∷ qs) all = cond-false _ _ _ all.0 ∙ kept_none t qs all.1

pub kept_comm : {X : Type 0} (s t : X → Bool) (qs : List X) → filter s (filter t qs) ≡ filter t (filter s qs)
kept_comm s t [] = refl
kept_comm s t (q ∷ qs) =
    let ih = kept_comm s t qs in
    elim (cases_Bool (s q)) [
      | inl e ↦ elim (cases_Bool (t q)) [
        | inl d ↦ rw (e, d) (rw e (ap (λ l. q ∷ l) ih))
        | inr d ↦ rw (e, d) ih
      ]
      | inr e ↦ elim (cases_Bool (t q)) [
        | inl d ↦ rw (e, d) (rw e ih)
        | inr d ↦ rw (e, d) ih
      ]
    ]

pub not_one : (w n c : ℕ) → (bit_at w n c ≡ 0 → ⊥) → bit_at w n c ≡ 1
not_one w n c ne = let h : bit_at w n c < 2 = mod-lt (c / 2 ^ (w - suc n)) (lit< tt) in omega (arith, h, ne)

pub not_zero : (w n c : ℕ) → (bit_at w n c ≡ 1 → ⊥) → bit_at w n c ≡ 0
not_zero w n c ne = let h : bit_at w n c < 2 = mod-lt (c / 2 ^ (w - suc n)) (lit< tt) in omega (arith, h, ne)

pub bit_cases : (w n c : ℕ) → (bit_at w n c ≡ 0) ⊎ (bit_at w n c ≡ 1)
bit_cases w n c = ⊎_elim (λ e. inl e) (λ ne. inr (not_one w n c ne)) (cases_eq (bit_at w n c) 0)

pub first_whole : (w c : ℕ) → first w w c ≡ c
first_whole w c = let z : w - w ≡ 0 = omega arith in ap (λ i. c / 2 ^ i) z ∙ div-one c

module _ {P : Type 0} (code : P → ℕ) where
  pub rising_kept : (t : P → Bool) (ps : List P) → Rising code ps → Rising code (filter t ps)
  rising_kept t [] r = tt
  rising_kept t (p ∷ ps) r = cond_both (t p) _ _ (Rising code) (λ _. (all_kept_by t _ ps r.0, rising_kept t ps r.1)) (λ _. rising_kept t ps r.1)

  -- ---- a set with a point
  abbrev pub Absent : P → List P → Type 0
  Absent p ps = AllByRecursion (λ q. code p ≡ code q → ⊥) ps

  pub absent_from : (p : P) (ps : List P) → live code p ps ≡ false → Absent p ps
  absent_from p [] e = tt
  absent_from p (q ∷ qs) e =
      ⊎_elim
      (λ t. absurd (both_ways _ e (cond-true _ _ _ t)))
      (λ f. ((λ s. eqb-false (code p) (code q) f s), absent_from p qs (sym (cond-false _ _ _ f) ∙ e)))
      (cases_Bool (eqb (code p) (code q)))

  pub with_below : (p q : P) (qs : List P) → code p < code q → with_point code p (q ∷ qs) ≡ p ∷ q ∷ qs
  with_below p q qs lt = cond-true _ _ _ (lt-ltb _ _ lt)

  pub with_above : (p q : P) (qs : List P) → code q ≤ code p → with_point code p (q ∷ qs) ≡ q ∷ with_point code p qs
  with_above p q qs le = cond-false _ _ _ (le-ltb _ _ le)

  with_front : (p : P) (qs : List P) → AllByRecursion (λ q. code p < code q) qs → with_point code p qs ≡ p ∷ qs
  with_front p [] all = refl
  with_front p (q ∷ qs) all = with_below p q qs all.0

  pub all_with : (A : P → Type 0) (p : P) (qs : List P) → A p → AllByRecursion A qs → AllByRecursion A (with_point code p qs)
  all_with A p [] a all = (a, tt)
  all_with A p (q ∷ qs) a all = cond_both (ltb (code p) (code q)) _ _ (AllByRecursion A) (λ _. (a, all)) (λ _. (all.0, all_with A p qs a all.1))

  -- what holds of the set with p holds of p and of the set
  pub all_with_out : (A : P → Type 0) (p : P) (qs : List P) → AllByRecursion A (with_point code p qs) → A p × AllByRecursion A qs
  all_with_out A p [] all = all
  all_with_out A p (q ∷ qs) all =
      ⊎_elim
      (λ e. let r = subst (AllByRecursion A) (cond-true _ _ _ e) all in r)
      (λ e. let r = subst (AllByRecursion A) (cond-false (ltb (code p) (code q)) (p ∷ q ∷ qs) (q ∷ with_point code p qs) e) all in let s = all_with_out A p qs r.1 in (s.0, (r.0, s.1)))
      (cases_Bool (ltb (code p) (code q)))

  pub length_with : (p : P) (qs : List P) → length (with_point code p qs) ≡ suc (length qs)
  length_with p [] = refl
  length_with p (q ∷ qs) = cond_both (ltb (code p) (code q)) _ _ (λ l. length l ≡ suc (length (q ∷ qs))) (λ _. refl) (λ _. ap suc (length_with p qs))

  pub rising_with : (p : P) (qs : List P) → Rising code qs → Absent p qs → Rising code (with_point code p qs)
  rising_with p [] up new = (tt, tt)
  rising_with p (q ∷ qs) up new =
      cond_both (ltb (code p) (code q)) _ _ (Rising code)
      (λ e. let lt = ltb-true _ _ e in ((lt, All-weaker _ _ (λ r a. omega arith) qs up.0), up))
      (λ e. let le = ltb-false (code p) (code q) e in (all_with (λ r. code q < code r) p qs (lt_of_le-ne le (λ s. new.0 (sym s))) up.0, rising_with p qs up.1 new.1))

  pub kept_with : (t : P → Bool) (p : P) (qs : List P) → t p ≡ true → Rising code qs → filter t (with_point code p qs) ≡ with_point code p (filter t qs)
  kept_with t p [] pass up = cond-true _ _ _ pass
  kept_with t p (q ∷ qs) pass up =
      ⊎_elim
      (λ lt.
      let after : AllByRecursion (λ r. code p < code r) (q ∷ qs) = (lt, All-weaker _ _ (λ r a. omega arith) qs up.0) in
      ap (filter t) (with_below p q qs lt) ∙ cond-true (t p) _ _ pass ∙ sym (with_front p (filter t (q ∷ qs)) (all_kept_by t _ (q ∷ qs) after)))
      (λ le.
      let rest = kept_with t p qs pass up.1 in
      ap (filter t) (with_above p q qs le) ∙
      ⊎_elim
      (λ on.
      let a : filter t (q ∷ with_point code p qs) ≡ q ∷ filter t (with_point code p qs) = cond-true _ _ _ on in
      let b : filter t (q ∷ qs) ≡ q ∷ filter t qs = cond-true _ _ _ on in
      a ∙ ap (λ l. q ∷ l) rest ∙ sym (with_above p q (filter t qs) le) ∙ ap (with_point code p) (sym b))
      (λ off.
      let a : filter t (q ∷ with_point code p qs) ≡ filter t (with_point code p qs) = cond-false _ _ _ off in
      let b : filter t (q ∷ qs) ≡ filter t qs = cond-false _ _ _ off in
      a ∙ rest ∙ ap (with_point code p) (sym b))
      (cases_Bool (t q)))
      (cases_lt (code p) (code q))

  pub kept_without : (t : P → Bool) (p : P) (qs : List P) → t p ≡ false → filter t (with_point code p qs) ≡ filter t qs
  kept_without t p [] fail = cond-false _ _ _ fail
  kept_without t p (q ∷ qs) fail =
      cond_both (ltb (code p) (code q)) _ _ (λ l. filter t l ≡ filter t (q ∷ qs))
      (λ _. cond-false (t p) _ _ fail)
      (λ _. ap (λ l. cond (t q) (q ∷ l) l) (kept_without t p qs fail))

  -- ---- a set without a point
  pub without_absent : (p : P) (ps : List P) → Absent p ps → without_point code p ps ≡ ps
  without_absent p ps new = kept_all _ ps (All-weaker _ _ (λ q ne. not_from_false _ (ne_eqb _ _ ne)) ps new)

  pub length_without : (p : P) (ps : List P) → Rising code ps → live code p ps ≡ true → suc (length (without_point code p ps)) ≡ length ps
  length_without p [] up on = absurd (both_ways false refl on)
  length_without p (q ∷ qs) up on =
      ⊎_elim
      (λ e.
      let same = eqb-true (code p) (code q) e in
      let gone : without_point code p (q ∷ qs) ≡ without_point code p qs = cond-false _ _ _ (not_from_true _ e) in
      let rest : without_point code p qs ≡ qs = without_absent p qs (All-weaker _ _ (λ r lt s. omega arith) qs up.0) in
      ap (λ l. suc (length l)) (gone ∙ rest))
      (λ e.
      let kept : without_point code p (q ∷ qs) ≡ q ∷ without_point code p qs = cond-true _ _ _ (not_from_false _ e) in
      ap (λ l. suc (length l)) kept ∙ ap suc (length_without p qs up.1 (sym (cond-false _ _ _ e) ∙ on)))
      (cases_Bool (eqb (code p) (code q)))

module _ {P : Type 0} (code : P → ℕ) (w : ℕ) where
  -- ---- halves
  pub half_all : (A : P → Type 0) (n c : ℕ) (ps : List P) → AllByRecursion A ps → AllByRecursion A (half code w n c ps)
  half_all A n c ps all = all_kept_by (λ p. eqb (bit_at w n (code p)) c) A ps all

  pub half_rising : (n c : ℕ) (ps : List P) → Rising code ps → Rising code (half code w n c ps)
  half_rising n c ps up = rising_kept code (λ p. eqb (bit_at w n (code p)) c) ps up

  pub half_none : (n c : ℕ) (ps : List P) → AllByRecursion (λ q. bit_at w n (code q) ≡ c → ⊥) ps → half code w n c ps ≡ []
  half_none n c ps all = kept_none _ ps (All-weaker _ _ (λ q ne. ne_eqb _ _ ne) ps all)

  pub half_whole : (n c : ℕ) (ps : List P) → AllByRecursion (λ q. bit_at w n (code q) ≡ c) ps → half code w n c ps ≡ ps
  half_whole n c ps all = kept_all _ ps (All-weaker _ _ (λ q e. eq-eqb _ _ e) ps all)

  pub half_cases : (n c : ℕ) (ps : List P) → (1 ≤ length (half code w n c ps)) ⊎ AllByRecursion (λ q. bit_at w n (code q) ≡ c → ⊥) ps
  half_cases n c [] = inr tt
  half_cases n c (p ∷ ps) =
      ⊎_elim
      (λ e. inl (let m : half code w n c (p ∷ ps) ≡ p ∷ half code w n c ps = cond-true _ _ _ (eq-eqb _ _ e) in rw m (omega arith)))
      (λ ne. let m : half code w n c (p ∷ ps) ≡ half code w n c ps = cond-false _ _ _ (ne_eqb _ _ ne) in
      ⊎_elim (λ h. inl (rw m h)) (λ h. inr (ne, h)) (half_cases n c ps))
      (cases_eq (bit_at w n (code p)) c)

  pub half_with : (n c : ℕ) (p : P) (qs : List P) → bit_at w n (code p) ≡ c → Rising code qs → half code w n c (with_point code p qs) ≡ with_point code p (half code w n c qs)
  half_with n c p qs e up = kept_with code (λ q. eqb (bit_at w n (code q)) c) p qs (eq-eqb _ _ e) up

  pub half_past : (n c : ℕ) (p : P) (qs : List P) → (bit_at w n (code p) ≡ c → ⊥) → half code w n c (with_point code p qs) ≡ half code w n c qs
  half_past n c p qs ne = kept_without code (λ q. eqb (bit_at w n (code q)) c) p qs (ne_eqb _ _ ne)

  pub half_loses : (n c : ℕ) (p : P) (ps : List P) → half code w n c (without_point code p ps) ≡ without_point code p (half code w n c ps)
  half_loses n c p ps = kept_comm _ _ ps

  -- the other half does not have p
  pub half_absent : (n c : ℕ) (p : P) (ps : List P) → (bit_at w n (code p) ≡ c → ⊥) → Absent code p (half code w n c ps)
  half_absent n c p ps ne = All-weaker _ _ (λ q e s. ne (ap (bit_at w n) s ∙ eqb-true _ _ e)) (half code w n c ps) (kept_by_passes (λ q. eqb (bit_at w n (code q)) c) ps)

  pub half_keeps : (n c : ℕ) (p : P) (ps : List P) → (bit_at w n (code p) ≡ c → ⊥) → half code w n c (without_point code p ps) ≡ half code w n c ps
  half_keeps n c p ps ne = half_loses n c p ps ∙ without_absent code p (half code w n c ps) (half_absent n c p ps ne)

  pub half_live : (n c : ℕ) (p : P) (ps : List P) → bit_at w n (code p) ≡ c → live code p (half code w n c ps) ≡ live code p ps
  half_live n c p [] e = refl
  half_live n c p (q ∷ qs) e =
      ⊎_elim
      (λ on.
      let m : half code w n c (q ∷ qs) ≡ q ∷ half code w n c qs = cond-true _ _ _ (eq-eqb _ _ on) in
      ap (live code p) m ∙ ap (λ r. cond (eqb (code p) (code q)) true r) (half_live n c p qs e))
      (λ off.
      let m : half code w n c (q ∷ qs) ≡ half code w n c qs = cond-false _ _ _ (ne_eqb _ _ off) in
      let ne : code p ≡ code q → ⊥ = λ s. off (sym (ap (bit_at w n) s) ∙ e) in
      ap (live code p) m ∙ half_live n c p qs e ∙ sym (cond-false _ _ _ (ne_eqb _ _ ne)))
      (cases_eq (bit_at w n (code q)) c)

  -- a set that shares its first n bits, and has a point in each half
  pub record Parted (n : ℕ) (ps : List P) : Type 0 where
    pub short : n < w
    pub front : ℕ
    pub share : AllByRecursion (λ q. first w n (code q) ≡ front) ps
    pub low : 1 ≤ length (half code w n 0 ps)
    pub high : 1 ≤ length (half code w n 1 ps)

  pub depth_parted : (n : ℕ) (ps : List P) → 2 ≤ length ps → Rising code ps → Depth code w n ps → Parted n ps
  depth_parted n [] two up d = absurd d
  depth_parted n (p ∷ []) two up d = absurd (omega arith)
  depth_parted n (p ∷ q ∷ r) two up d =
      let agree = all_unmap _ code (q ∷ r) d.agree in
      let short : n < w = lt_of_le-ne d.within (λ e.
      let s : first w w (code p) ≡ first w w (code q) = subst (λ i. first w i (code p) ≡ first w i (code q)) e agree.0 in
      let m = up.0.0 in
      let z : code p ≡ code q = sym (first_whole w (code p)) ∙ s ∙ first_whole w (code q) in
      omega arith) in
      let none : (c : ℕ) → ((x : ℕ) → (bit_at w n x ≡ c → ⊥) → bit_at w n x ≡ bit_at w n (code p)) → AllByRecursion (λ x. bit_at w n (code x) ≡ c → ⊥) (q ∷ r) → ⊥ = λ c other all. d.differ short (All-map _ code (q ∷ r) (All-weaker _ _ (λ x ne. sym (other (code x) ne)) (q ∷ r) all)) in
      record {
        short = short;
        front = first w n (code p);
        share = (refl, All-weaker _ _ (λ x e. sym e) (q ∷ r) agree);
        low = ⊎_elim (λ h. h) (λ all. absurd (none 0 (λ x ne. not_one w n x ne ∙ sym (not_one w n (code p) all.0)) all.1)) (half_cases n 0 (p ∷ q ∷ r));
        high = ⊎_elim (λ h. h) (λ all. absurd (none 1 (λ x ne. not_zero w n x ne ∙ sym (not_zero w n (code p) all.0)) all.1)) (half_cases n 1 (p ∷ q ∷ r));
      }

  pub parted_depth : (n : ℕ) (ps : List P) → Parted n ps → Depth code w n ps
  parted_depth n [] d = let h = d.low in absurd (omega arith)
  parted_depth n (p ∷ r) d =
      let s = d.share in
      let lt = d.short in
      record {
        within = omega arith;
        agree = All-map _ code r (All-weaker _ _ (λ x e. s.0 ∙ sym e) r s.1);
        differ = λ _ same.
            let all = all_unmap _ code r same in
            let empty : (c : ℕ) → (bit_at w n (code p) ≡ c → ⊥) → half code w n c (p ∷ r) ≡ [] = λ c ne. half_none n c (p ∷ r) (ne, All-weaker _ _ (λ x e z. ne (e ∙ z)) r all) in
            ⊎_elim
            (λ e. let z = ap length (empty 1 (λ f. omega (arith, e, f))) in let h = d.high in omega arith)
            (λ e. let z = ap length (empty 0 (λ f. omega (arith, e, f))) in let h = d.low in omega arith)
            (bit_cases w n (code p));
      }

  pub parted_join : (n : ℕ) (ps : List P) → Rising code ps → Parted n ps → half code w n 0 ps ++ half code w n 1 ps ≡ ps
  parted_join n ps up d = halves_join code w n d.front d.short ps up d.share

  pub parted_count : (n : ℕ) (ps : List P) → Rising code ps → Parted n ps → length (half code w n 0 ps) + length (half code w n 1 ps) ≡ length ps
  parted_count n ps up d = sym (length-append (half code w n 0 ps) (half code w n 1 ps)) ∙ ap length (parted_join n ps up d)
