-- Splitting points that are not all one, on any card: both halves have a point.
use Rattle.std.proofs.Common.{◌≡◌, ℕ, ◌+◌, ◌<◌, ◌≤◌, false, List, [], ◌∷◌, map, length, ℤ, sym, refl, ap, ◌∙◌, subst, ⊎_elim, arith}
use lib.Arith.{lt_of_le-ne}
use Rattle.std.specs.List.{AllByRecursion}
use Rattle.std.proofs.lemmas.Bool.{eq-eqb, ne_eqb, cond-true, cond-false}
use Rattle.std.proofs.ByRecursion.{All-weaker, All-map}
use Rattle.zorder.specs.Code.{OnAxes, first, bit_at}
use Rattle.zorder.specs.Sharing.{Common}
use Rattle.zorder.specs.Halves.{half}
use Rattle.kinds.specs.Kind.{Kind, Sound, On, wide, code_of, low_corner, high_corner}
use Rattle.tree.specs.Sets.{live, with_point}
use Rattle.tree.specs.Tree.{Depth}
use Rattle.tree.proofs.Halves.{all_unmap, absent_from, all_with_out, half_cases, bit_cases, not_one, not_zero, first_whole}
use Rattle.tree.proofs.Standings.{corners_on}
use Rattle.put.specs.Growing.{Mixed}

module _ {P : Type 0} (code : P → ℕ) (w n : ℕ) where
  -- each point stands in one half
  pub half_sum : (ps : List P) → length (half code w n 0 ps) + length (half code w n 1 ps) ≡ length ps
  half_sum [] = refl
  half_sum (p ∷ ps) =
      let r = half_sum ps in
      ⊎_elim
      (λ z.
      let a : half code w n 0 (p ∷ ps) ≡ p ∷ half code w n 0 ps = cond-true _ _ _ (eq-eqb _ _ z) in
      let b : half code w n 1 (p ∷ ps) ≡ half code w n 1 ps = cond-false _ _ _ (ne_eqb (bit_at w n (code p)) 1 (λ e. omega (arith, z, e))) in
      let c = ap length a in let d = ap length b in omega arith)
      (λ z.
      let a : half code w n 0 (p ∷ ps) ≡ half code w n 0 ps = cond-false _ _ _ (ne_eqb (bit_at w n (code p)) 0 (λ e. omega (arith, z, e))) in
      let b : half code w n 1 (p ∷ ps) ≡ p ∷ half code w n 1 ps = cond-true _ _ _ (eq-eqb _ _ z) in
      let c = ap length a in let d = ap length b in omega arith)
      (bit_cases w n (code p))

  -- points with a depth below w have one in each half
  pub both_halves : (ps : List P) → n < w → Depth code w n ps → (1 ≤ length (half code w n 0 ps)) × (1 ≤ length (half code w n 1 ps))
  both_halves [] lt d = absurd d
  both_halves (p ∷ ps) lt d = (
    ⊎_elim (λ h. h) (λ all. absurd (none (λ x ne. not_one w n x ne ∙ sym (not_one w n (code p) all.0)) 0 all.1)) (half_cases code w n 0 (p ∷ ps)),
    ⊎_elim (λ h. h) (λ all. absurd (none (λ x ne. not_zero w n x ne ∙ sym (not_zero w n (code p) all.0)) 1 all.1)) (half_cases code w n 1 (p ∷ ps)),
  )
    where
      none : {c : ℕ} → ((x : ℕ) → (bit_at w n x ≡ c → ⊥) → bit_at w n x ≡ bit_at w n (code p)) → (b : ℕ) → AllByRecursion (λ x. bit_at w n (code x) ≡ c → ⊥) ps → ⊥
      none other b all = d.differ lt (All-map _ code ps (All-weaker _ _ (λ x ne. sym (other (code x) ne)) ps all))

  -- points that are not all one have a depth below w
  pub mixed_short : (ps : List P) → ((c : ℕ) → AllByRecursion (λ q. code q ≡ c) ps → ⊥) → Depth code w n ps → n < w
  mixed_short [] mixed d = absurd d
  mixed_short (p ∷ ps) mixed d =
      lt_of_le-ne d.within (λ e. mixed (code p) (refl, All-weaker _ _ (λ x s. sym (first_whole w (code x)) ∙ sym (subst (λ i. first w i (code p) ≡ first w i (code x)) e s) ∙ first_whole w (code p)) ps (all_unmap _ code ps d.agree)))

module _ {P : Type 0} (k : Kind P) (s : Sound k) where
  -- points with one that was not among them are not all one
  pub with_mixed : (p : P) (xs : List P) → 1 ≤ length xs → live (code_of k) p xs ≡ false → Mixed k (with_point (code_of k) p xs)
  with_mixed p [] some new c all = omega arith
  with_mixed p (x ∷ xs) some new c all =
      let out = absent_from (code_of k) p (x ∷ xs) new in
      let r = all_with_out (code_of k) (λ q. code_of k q ≡ c) p (x ∷ xs) all in
      out.0 (r.0 ∙ sym r.1.0)

  -- the depth of points from their corners
  depth_of : (n : ℕ) (low high : List ℤ) (xs : List P) → 1 ≤ length xs → AllByRecursion (On k) xs → low ≡ low_corner k xs → high ≡ high_corner k xs
      → ((p : P) (ps : List P) → AllByRecursion (On k) (p ∷ ps) → low ≡ low_corner k (p ∷ ps) → high ≡ high_corner k (p ∷ ps) → Common (wide k) n (code_of k p) (map (code_of k) ps)) → Depth (code_of k) (wide k) n xs
  depth_of n low high [] some on l h f = absurd (omega arith)
  depth_of n low high (x ∷ xs) some on l h f = f x xs on l h

  -- what is known of points that are split
  pub record HalvesOf (n : ℕ) (xs : List P) : Type 0 where
    pub deep : Depth (code_of k) (wide k) n xs
    pub short : n < wide k
    pub low_some : 1 ≤ length (half (code_of k) (wide k) n 0 xs)
    pub high_some : 1 ≤ length (half (code_of k) (wide k) n 1 xs)
    pub low_few : length (half (code_of k) (wide k) n 0 xs) ≤ k.capacity
    pub high_few : length (half (code_of k) (wide k) n 1 xs) ≤ k.capacity

  halves_of : (n : ℕ) (xs : List P) → Mixed k xs → length xs ≤ k.capacity + 1 → Depth (code_of k) (wide k) n xs → HalvesOf n xs
  halves_of n xs mixed few d =
      let lt = mixed_short (code_of k) (wide k) n xs mixed d in
      let b = both_halves (code_of k) (wide k) n xs lt d in
      let l = b.0 in
      let h = b.1 in
      let sum = half_sum (code_of k) (wide k) n xs in
      record { deep = d; short = lt; low_some = l; high_some = h; low_few = omega arith; high_few = omega arith }

  -- the same, from what is told of the corners and of the depth
  pub parts_of : (n : ℕ) (low high : List ℤ) (xs : List P) → Mixed k xs → length xs ≤ k.capacity + 1 → 1 ≤ length xs → AllByRecursion (On k) xs → low ≡ low_corner k xs → high ≡ high_corner k xs
      → ((p : P) (ps : List P) → AllByRecursion (On k) (p ∷ ps) → low ≡ low_corner k (p ∷ ps) → high ≡ high_corner k (p ∷ ps) → Common (wide k) n (code_of k p) (map (code_of k) ps)) → HalvesOf n xs
  parts_of n low high xs mixed few some on l h f = halves_of n xs mixed few (depth_of n low high xs some on l h f)

  pub low_corner_on : (z : List ℤ) (xs : List P) → 1 ≤ length xs → AllByRecursion (On k) xs → z ≡ low_corner k xs → OnAxes k.axes z
  low_corner_on z xs some on e = subst (OnAxes k.axes) (sym e) (corners_on k s xs some on).0

  pub high_corner_on : (z : List ℤ) (xs : List P) → 1 ≤ length xs → AllByRecursion (On k) xs → z ≡ high_corner k xs → OnAxes k.axes z
  high_corner_on z xs some on e = subst (OnAxes k.axes) (sym e) (corners_on k s xs some on).1
