-- Reading and writing one of sixteen places.
use Rattle.std.proofs.Common.{◌≡◌, ℕ, zero, suc, ◌+◌, ◌-◌, ◌*◌, ◌/◌, ◌%◌, ◌<◌, List, [], ◌∷◌, ◌++◌, length, get_or, take, set, sym, refl, ap, ◌∙◌, arith}
use Rattle.std.specs.List.{flat_map}
use Rattle.std.proofs.lemmas.List.{get_or_append_left, get_or-append_right, set-append_left, set-append_right}
use Rattle.hand.specs.declared.places.Four.{Four}
use Rattle.hand.specs.Places.{four, sixteen}

module _ {P : Type 0} where
  rows_at : (rows : List (Four P)) (row : Four P) (p : P) (q r : ℕ) → q < length rows → r < 4 → row ≡ get_or rows q row → p ≡ get_or (four row) r p → p ≡ get_or (flat_map four rows) (q * 4 + r) p
  rows_at [] row p q r a b e f = absurd (omega arith)
  rows_at (y ∷ ys) row p zero r a b e f =
      let n : zero * 4 + r ≡ r = omega arith in
      f ∙ ap (λ x. get_or (four x) r p) e ∙ sym (ap (λ j. get_or (four y ++ flat_map four ys) j p) n ∙ get_or_append_left (four y) (flat_map four ys) p r b)
  rows_at (y ∷ ys) row p (suc q) r a b e f =
      let n : suc q * 4 + r - 4 ≡ q * 4 + r = omega arith in
      rows_at ys row p q r (omega arith) b e f ∙ sym (get_or-append_right (four y) (flat_map four ys) 4 (suc q * 4 + r) p refl (omega arith) ∙ ap (λ j. get_or (flat_map four ys) j p) n)

  rows_set : (rows : List (Four P)) (row new : Four P) (p : P) (q r : ℕ) → q < length rows → r < 4 → row ≡ get_or rows q row → four new ≡ set (four row) r p → flat_map four (set rows q new) ≡ set (flat_map four rows) (q * 4 + r) p
  rows_set [] row new p q r a b e f = absurd (omega arith)
  rows_set (y ∷ ys) row new p zero r a b e f =
      let n : zero * 4 + r ≡ r = omega arith in
      ap (λ x. x ++ flat_map four ys) (f ∙ ap (λ x. set (four x) r p) e) ∙ sym (ap (λ j. set (four y ++ flat_map four ys) j p) n ∙ set-append_left (four y) (flat_map four ys) r p b)
  rows_set (y ∷ ys) row new p (suc q) r a b e f =
      let n : suc q * 4 + r - 4 ≡ q * 4 + r = omega arith in
      ap (λ x. four y ++ x) (rows_set ys row new p q r (omega arith) b e f) ∙ sym (set-append_right (four y) (flat_map four ys) 4 (suc q * 4 + r) p refl (omega arith) ∙ ap (λ j. four y ++ set (flat_map four ys) j p) n)

  pub sixteen_long : (x : Four (Four P)) → length (sixteen x) ≡ 16
  unfolding sixteen
  sixteen_long x = refl

  -- the same point in every place
  pub sixteen_first : (p : P) → take 1 (sixteen (record { a = record { a = p; b = p; c = p; d = p }; b = record { a = p; b = p; c = p; d = p }; c = record { a = p; b = p; c = p; d = p }; d = record { a = p; b = p; c = p; d = p } })) ≡ p ∷ []
  unfolding sixteen
  sixteen_first p = refl

  -- the place i is place i % 4 of row i / 4
  pub sixteen_at : (x : Four (Four P)) (row : Four P) (p : P) (i : ℕ) → i < 16 → row ≡ get_or (four x) (i / 4) row → p ≡ get_or (four row) (i % 4) p → p ≡ get_or (sixteen x) i p
  unfolding sixteen
  sixteen_at x row p i lt e f =
      let n : i / 4 * 4 + i % 4 ≡ i = omega arith in
      rows_at (four x) row p (i / 4) (i % 4) (omega arith) (omega arith) e f ∙ ap (λ j. get_or (sixteen x) j p) n

  pub sixteen_set : (x y : Four (Four P)) (row new : Four P) (p : P) (i : ℕ) → i < 16 → row ≡ get_or (four x) (i / 4) row → four new ≡ set (four row) (i % 4) p → four y ≡ set (four x) (i / 4) new → sixteen y ≡ set (sixteen x) i p
  unfolding sixteen
  sixteen_set x y row new p i lt e f g =
      let n : i / 4 * 4 + i % 4 ≡ i = omega arith in
      ap (flat_map four) g ∙ rows_set (four x) row new p (i / 4) (i % 4) (omega arith) (omega arith) e f ∙ ap (λ j. set (sixteen x) j p) n
