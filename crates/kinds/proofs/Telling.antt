-- What the generic functions on points tell.
use Rattle.std.proofs.Common.{◌≡◌, ℕ, ◌^◌, ◌<◌, Bool, true, false, List, [], ◌∷◌, map, ℤ, sym, refl, ap, subst, ap₂, arith}
use lib.Bits.{bit_xor}
use lib.Count.{count_leading_zeros}
use Rattle.std.specs.List.{AllByRecursion}
use Rattle.std.proofs.ByRecursion.{All-map}
use Rattle.zorder.specs.Code.{OnAxes, code}
use Rattle.zorder.specs.Sharing.{Under, Common}
use Rattle.zorder.proofs.Corners.{code_lt, corner_law, under_same, under_both}
use Rattle.kinds.specs.Kind.{Kind, Sound, Whether, wide, code_of, On, low_corner, high_corner}

untrue : {A : Type 0} → false ≡ true → A
untrue e = let z : ◌≡◌ {A = ℕ} 0 1 = cc in absurd (omega arith)

-- ---- the same point

pub same_then : (p q : List ℤ) (t r : Bool) → t ≡ true → Whether t (Under p q) → Whether r (Under q p) → Whether r (p ≡ q)
same_then p q true true e h k = under_both p q h k
same_then p q true false e h k = λ i. k (subst (λ z. Under z p) i (under_same p))
same_then p q false r e h k = untrue e

pub same_else : (p q : List ℤ) (t : Bool) → t ≡ false → Whether t (Under p q) → Whether t (p ≡ q)
same_else p q true e h = untrue (sym e)
same_else p q false e h = λ i. h (subst (Under p) i (under_same p))

module _ {P : Type 0} (k : Kind P) (sound : Sound k) where
  -- a point is its coordinates
  pub one_whether : (p q : P) (r : Bool) → Whether r (k.coords p ≡ k.coords q) → Whether r (p ≡ q)
  one_whether p q true h = sound.one_point p q h
  one_whether p q false h = λ i. h (ap k.coords i)

  -- ---- the depth

  pub code_of_lt : (p : P) → On k p → code_of k p < 2 ^ wide k
  code_of_lt p on = code_lt k.axes sound.narrow (k.coords p) on

  codes_of : (ps : List P) → map (code k.axes) (map k.coords ps) ≡ map (code_of k) ps
  codes_of [] = refl
  codes_of (p ∷ ps) = ap (λ cs. code_of k p ∷ cs) (codes_of ps)

  -- the leading zeros of the xor of the corners' codes: so many first bits do all codes share
  pub corner_depth : (low high : List ℤ) (p : P) (ps : List P) → AllByRecursion (On k) (p ∷ ps) → low ≡ low_corner k (p ∷ ps) → high ≡ high_corner k (p ∷ ps)
      → Common (wide k) (count_leading_zeros (wide k) (bit_xor (code k.axes low) (code k.axes high))) (code_of k p) (map (code_of k) ps)
  corner_depth low high p ps on l h =
      let A = k.axes in
      let law = corner_law A sound.narrow (k.coords p) (map k.coords ps) (All-map (OnAxes A) k.coords (p ∷ ps) on) in
      let e : count_leading_zeros (wide k) (bit_xor (code A (low_corner k (p ∷ ps))) (code A (high_corner k (p ∷ ps)))) ≡ count_leading_zeros (wide k) (bit_xor (code A low) (code A high)) =
      ap₂ (λ (x y : List ℤ). count_leading_zeros (wide k) (bit_xor (code A x) (code A y))) (sym l) (sym h) in
      subst (λ n. Common (wide k) n (code_of k p) (map (code_of k) ps)) e
      (subst (λ cs. Common (wide k) (count_leading_zeros (wide k) (bit_xor (code A (low_corner k (p ∷ ps))) (code A (high_corner k (p ∷ ps))))) (code_of k p) cs) (codes_of ps) law)
