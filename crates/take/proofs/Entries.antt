-- The entry of a directory page, from the entries of its halves.
use Rattle.std.proofs.Common.{◌≡◌, ℕ, ◌≤◌, List, [], ◌∷◌, ◌++◌, map, length, ℤ, sym, refl, ap, ◌∙◌, arith}
use Rattle.std.specs.Int.{int_min, int_max}
use Rattle.std.proofs.lemmas.List.{map-append}
use Rattle.zorder.specs.Sharing.{on_each, corner}
use Rattle.zorder.proofs.Halving.{corner_append, min_assoc, max_assoc}
use Rattle.kinds.specs.Kind.{Kind, low_corner, high_corner}
use Rattle.tree.specs.Laid.{Laid, directory_at, below_it}
use Rattle.tree.specs.Lawful.{entry}
use Rattle.hand.proofs.Entries.{same_summary}
use Rattle.take.specs.Shrinking.{above_both}

module _ {P : Type 0} (k : Kind P) where
  -- the corners of two parts give those of the whole
  join_corners : (f : ℤ → ℤ → ℤ) (assoc : (x y z : ℤ) → f (f x y) z ≡ f x (f y z)) (x y : P) (xs ys : List P)
      → on_each f (corner f (k.coords x) (map k.coords xs)) (corner f (k.coords y) (map k.coords ys)) ≡ corner f (k.coords x) (map k.coords (xs ++ y ∷ ys))
  join_corners f assoc x y xs ys = sym (corner_append f assoc (k.coords x) (k.coords y) (map k.coords xs) (map k.coords ys)) ∙ ap (corner f (k.coords x)) (sym (map-append k.coords xs (y ∷ ys)))

  low_join : (xs ys : List P) → 1 ≤ length xs → 1 ≤ length ys → on_each int_min (low_corner k xs) (low_corner k ys) ≡ low_corner k (xs ++ ys)
  low_join [] ys a b = absurd (omega arith)
  low_join (x ∷ xs) [] a b = absurd (omega arith)
  low_join (x ∷ xs) (y ∷ ys) a b = join_corners int_min min_assoc x y xs ys

  high_join : (xs ys : List P) → 1 ≤ length xs → 1 ≤ length ys → on_each int_max (high_corner k xs) (high_corner k ys) ≡ high_corner k (xs ++ ys)
  high_join [] ys a b = absurd (omega arith)
  high_join (x ∷ xs) [] a b = absurd (omega arith)
  high_join (x ∷ xs) (y ∷ ys) a b = join_corners int_max max_assoc x y xs ys

  -- the entry of a directory page, from those of its halves
  pub fork_entry : (q n m : ℕ) (l h : Laid P) → m ≡ length (below_it l ++ below_it h) → 1 ≤ length (below_it l) → 1 ≤ length (below_it h) → above_both q m (entry k l) (entry k h) ≡ entry k (directory_at q n l h)
  fork_entry q n m l h e a b = same_summary refl e (low_join (below_it l) (below_it h) a b) (high_join (below_it l) (below_it h) a b)
