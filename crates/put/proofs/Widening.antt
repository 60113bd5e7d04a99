-- The entry of a set with one point more.
use Rattle.std.proofs.Common.{◌≡◌, ℕ, ◌≤◌, ltb, List, [], ◌∷◌, map, length, ℤ, sym, refl, ap, ◌∙◌, arith}
use Rattle.std.specs.Int.{int_min, int_max}
use Rattle.std.proofs.lemmas.Bool.{cond_both}
use Rattle.zorder.specs.Sharing.{on_each, corner}
use Rattle.zorder.proofs.Halving.{corner_first, corner_put, min_assoc, max_assoc, min_comm, max_comm}
use Rattle.kinds.specs.Kind.{Kind, code_of, low_corner, high_corner}
use Rattle.tree.specs.Sets.{with_point}
use Rattle.tree.specs.Laid.{Laid, data_at, number, below_it}
use Rattle.tree.specs.Lawful.{entry}
use Rattle.tree.proofs.Halves.{length_with}
use Rattle.hand.proofs.Entries.{same_summary}
use Rattle.put.specs.Growing.{widened}

module _ {P : Type 0} (code : P → ℕ) (coords : P → List ℤ) (f : ℤ → ℤ → ℤ) (assoc : (x y z : ℤ) → f (f x y) z ≡ f x (f y z)) (comm : (x y : ℤ) → f x y ≡ f y x) (p : P) where
  corner_with : (c : List ℤ) (qs : List P) → corner f c (map coords (with_point code p qs)) ≡ on_each f (coords p) (corner f c (map coords qs))
  corner_with c [] = corner_put f assoc comm c (coords p) [] []
  corner_with c (q ∷ qs) =
      cond_both (ltb (code p) (code q)) _ _ (λ (l : List P). corner f c (map coords l) ≡ on_each f (coords p) (corner f c (map coords (q ∷ qs))))
      (λ _. corner_put f assoc comm c (coords p) [] (map coords (q ∷ qs)))
      (λ _. corner_with (on_each f c (coords q)) qs)

module _ {P : Type 0} (k : Kind P) (p : P) where
  low_with : (q : P) (qs : List P) → low_corner k (with_point (code_of k) p (q ∷ qs)) ≡ on_each int_min (k.coords p) (low_corner k (q ∷ qs))
  low_with q qs =
      cond_both (ltb (code_of k p) (code_of k q)) _ _ (λ (l : List P). low_corner k l ≡ on_each int_min (k.coords p) (low_corner k (q ∷ qs)))
      (λ _. corner_first int_min min_assoc (k.coords p) (k.coords q) (map k.coords qs))
      (λ _. corner_with (code_of k) k.coords int_min min_assoc min_comm p (k.coords q) qs)

  high_with : (q : P) (qs : List P) → high_corner k (with_point (code_of k) p (q ∷ qs)) ≡ on_each int_max (k.coords p) (high_corner k (q ∷ qs))
  high_with q qs =
      cond_both (ltb (code_of k p) (code_of k q)) _ _ (λ (l : List P). high_corner k l ≡ on_each int_max (k.coords p) (high_corner k (q ∷ qs)))
      (λ _. corner_first int_max max_assoc (k.coords p) (k.coords q) (map k.coords qs))
      (λ _. corner_with (code_of k) k.coords int_max max_assoc max_comm p (k.coords q) qs)

  points_widened : (q r : ℕ) (ps : List P) → 1 ≤ length ps → widened k q p (entry k (data_at r ps)) ≡ entry k (data_at q (with_point (code_of k) p ps))
  points_widened q r [] some = absurd (omega arith)
  points_widened q r (x ∷ xs) some = same_summary refl (let c = length_with (code_of k) p (x ∷ xs) in omega arith) (sym (low_with x xs)) (sym (high_with x xs))

  -- the entry of a laid tree, widened by p, is that of the tree with p
  pub widened_entry : (t u : Laid P) → 1 ≤ length (below_it t) → below_it u ≡ with_point (code_of k) p (below_it t) → widened k (number u) p (entry k t) ≡ entry k u
  widened_entry t u some e = points_widened (number u) (number t) (below_it t) some ∙ ap (λ x. entry k (data_at (number u) x)) (sym e)
