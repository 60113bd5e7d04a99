-- Sets of points, as the lists of their points in strictly rising code. So two sets are equal exactly if their lists are.
use Rattle.std.specs.Prelude.{ℕ, Bool, true, false, cond, not, List, [], ◌∷◌, filter, ◌==◌, nat_lt}
use Rattle.std.specs.List.{AllByRecursion}
use Rattle.zorder.specs.Halves.{Rising}
use Rattle.kinds.specs.Kind.{Kind, On, code_of}

-- A set of points of a kind: its points in strictly rising code, all on their axes.
pub record IsSet {P : Type 0} (k : Kind P) (ps : List P) : Type 0 where
  pub rising : Rising (code_of k) ps
  pub on : AllByRecursion (On k) ps

module _ {P : Type 0} (code : P → ℕ) where
  -- Whether a point is live: the set has a point of its code. On the axes that is the point itself.
  abbrev pub live : P → List P → Bool
  live p [] = false
  live p (q ∷ qs) = cond (code p == code q) true (live p qs)

  -- The set with a point: it stands before the first point of a higher code.
  abbrev pub with_point : P → List P → List P
  with_point p [] = p ∷ []
  with_point p (q ∷ qs) = cond (nat_lt (code p) (code q)) (p ∷ q ∷ qs) (q ∷ with_point p qs)

  -- The set without a point.
  abbrev pub without_point : P → List P → List P
  without_point p ps = filter (λ q. not (code p == code q)) ps
