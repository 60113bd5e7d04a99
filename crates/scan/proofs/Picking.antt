-- A point that was picked stays a point of the window.
use Rattle.std.proofs.Common.{T, List, ◌++◌, is_some, Some, None, Option}
use Rattle.std.proofs.ByRecursion.{has_append_left}
use Rattle.tree.specs.Book.{PicksFrom}

pub picked_more : {P : Type 0} (o : Option P) (xs ys : List P) → T (is_some o) → PicksFrom xs o → PicksFrom (xs ++ ys) o
picked_more None xs ys t h = absurd t
picked_more (Some p) xs ys t h = has_append_left xs ys p h
