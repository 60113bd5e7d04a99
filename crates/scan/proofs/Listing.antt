-- What stands in the buffer of list.
use Rattle.std.proofs.Common.{◌≡◌, ℕ, ◌+◌, ◌<◌, ◌≤◌, ◌⊎◌, List, [], ◌∷◌, ◌++◌, length, take, drop, set, sym, refl, ap, ◌∙◌, subst, inl, inr, ⊎_elim, arith, length-append, length-drop, length-set, length-take, take_all}
use lib.Seq.{take-append-le}
use Rattle.std.specs.List.{AllByRecursion}
use Rattle.std.proofs.ByRecursion.{All-append}
use Rattle.std.proofs.lemmas.List.{take_more_set, drop_all, drop-append-le, drop-drop, drop-set-lt}
use Rattle.std.proofs.lemmas.Bool.{cases_lt}
use Rattle.zorder.specs.Sharing.{Inside}
use Rattle.kinds.specs.Kind.{Kind, On}
use Rattle.tree.specs.Book.{written}
use Rattle.scan.specs.Listing.{Listed, ListFair}

-- one more point at the front of a buffer
set_front : {X : Type 0} (new before : List X) (p : X) → length new < length before → set (written new before) (length new) p ≡ written (new ++ p ∷ []) before
set_front [] [] p lt = absurd (omega arith)
set_front [] (b ∷ bs) p lt = refl
set_front (x ∷ xs) [] p lt = absurd (omega arith)
set_front (x ∷ xs) (b ∷ bs) p lt = ap (λ ys. x ∷ ys) (set_front xs bs p (omega arith))

-- points that are passed over, or have no place any more
same_front : {X : Type 0} (places skip : ℕ) (xs ys : List X) → (length (xs ++ ys) ≤ skip) ⊎ (places ≤ length (take places (drop skip xs))) → take places (drop skip (xs ++ ys)) ≡ take places (drop skip xs)
same_front places skip xs ys (inl le) =
    let n = length-append xs ys in
    ap (take places) (drop_all skip (xs ++ ys) le ∙ sym (drop_all skip xs (omega arith)))
same_front places skip xs ys (inr le) =
    let a = length-take places (drop skip xs) in
    let b = length-drop skip xs in
    ⊎_elim
    (λ lt. let z : places ≡ 0 = omega arith in subst (λ n. take n (drop skip (xs ++ ys)) ≡ take n (drop skip xs)) (sym z) refl)
    (λ ge. ap (take places) (drop-append-le skip xs ys ge) ∙ take-append-le places (drop skip xs) ys (omega arith))
    (cases_lt (length xs) skip)

module _ {P : Type 0} (before buffer xs : List P) (skip seen done : ℕ) (v : Listed skip seen done before buffer xs) where
  long : length buffer ≡ length before
  long =
      let new = take (length before) (drop skip xs) in
      let a = ap length v.shown in
      let b = length-append new (drop (length new) before) in
      let c = length-drop (length new) before in
      let d = length-take (length before) (drop skip xs) in
      omega arith

  -- the points are passed over, or there is no place left
  pub listed_pass : (ys : List P) (after : ℕ) → after ≡ length (xs ++ ys) → (after ≤ skip) ⊎ (length buffer ≤ done) → Listed skip after done before buffer (xs ++ ys)
  listed_pass ys after n why =
      let l = long in
      let g = v.given in
      let e = same_front (length before) skip xs ys (⊎_elim (λ le. inl (omega arith)) (λ le. inr (omega arith)) why) in
      record { all = n; given = v.given ∙ ap length (sym e); shown = v.shown ∙ ap (λ new. written new before) (sym e) }

  -- one more point is written
  pub listed_put : (p : P) (after : ℕ) → after ≡ seen + 1 → skip ≤ seen → done < length buffer → Listed skip after (done + 1) before (set buffer done p) (xs ++ p ∷ [])
  listed_put p after n ge lt =
      let l = long in
      let g = v.given in
      let a = v.all in
      let rest = drop skip xs in
      let lr = length-drop skip xs in
      let lt' = length-take (length before) rest in
      let whole : take (length before) rest ≡ rest = take_all (length before) rest (omega arith) in
      let more = drop-append-le skip xs (p ∷ []) (omega arith) in
      let la = length-append rest (p ∷ []) in
      let new : take (length before) (drop skip (xs ++ p ∷ [])) ≡ rest ++ p ∷ [] = ap (take (length before)) more ∙ take_all (length before) (rest ++ p ∷ []) (omega arith) in
      let lx = length-append xs (p ∷ []) in
      let d : done ≡ length rest = g ∙ ap length whole in
      record {
        all = omega arith;
        given = let e = ap length new in omega arith;
        shown = ap (λ b. set b done p) (v.shown ∙ ap (λ m. written m before) whole) ∙ ap (λ i. set (written rest before) i p) d ∙ set_front rest before p (omega arith) ∙ ap (λ m. written m before) (sym new);
      }

module _ {P : Type 0} (k : Kind P) (skip seen done : ℕ) (low high : P) (before buffer : List P) (v : ListFair k skip seen done low high before buffer) where
  pub fair_pass : (after : ℕ) → seen ≤ after → (after ≤ skip) ⊎ (length buffer ≤ done) → ListFair k skip after done low high before buffer
  fair_pass after le why = let a = v.count in let b = v.long in record { count = ⊎_elim (λ h. omega arith) (λ h. omega arith) why; long = v.long; kept = v.kept; good = v.good }

  pub fair_put : (p : P) (after : ℕ) → after ≡ seen + 1 → skip ≤ seen → done < length buffer → On k p → Inside (k.coords low) (k.coords high) (k.coords p) → ListFair k skip after (done + 1) low high before (set buffer done p)
  fair_put p after n ge lt on inside =
      let a = v.count in
      let b = v.long in
      record {
        count = omega arith;
        long = length-set buffer done p ∙ v.long;
        kept = drop-set-lt (done + 1) buffer done p (omega arith) ∙ sym (drop-drop 1 done buffer) ∙ ap (drop 1) v.kept ∙ drop-drop 1 done before;
        good = subst (AllByRecursion _) (sym (take_more_set buffer done p lt)) (All-append _ (take done buffer) (p ∷ []) v.good ((on, inside), tt));
      }

-- ---- nothing met yet

none : {P : Type 0} (before : List P) (n : ℕ) → take (length before) (drop {A = P} n []) ≡ []
none before n = ap (take (length before)) (drop_all n [] (omega arith)) ∙ take_all (length before) [] (omega arith)

pub listed_none : {P : Type 0} (skip : ℕ) (before : List P) → Listed skip 0 0 before before []
listed_none skip before = record { all = refl; given = ap length (sym (none before skip)); shown = ap (λ new. written new before) (sym (none before skip)) }

pub fair_none : {P : Type 0} (k : Kind P) (skip : ℕ) (low high : P) (before : List P) → ListFair k skip 0 0 low high before before
fair_none k skip low high before = record { count = omega arith; long = refl; kept = refl; good = tt }
