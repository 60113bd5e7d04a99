-- Placing a lay point at an origin.
use Rattle.std.specs.Prelude.{◌≡◌, ◌+◌, ◌+ℤ◌, Ok, Err, Result}
use Rattle.refusal.specs.declared.Refusal.{Refusal}
use Rattle.refusal.specs.Numbers.{number}
use Rattle.kinds.specs.declared.lay.LayPoint.{LayPoint}
use Rattle.kinds.specs.Kind.{On}
use Rattle.kinds.specs.Lay.{lay_kind}
use Rattle.origin.specs.declared.origin.Origin.{Origin}

-- The sum of an origin and a lay point, on the axes or not: course and course, shog and shog.
abbrev pub sum : Origin → LayPoint → LayPoint
sum o p = record { course = o.course + p.course; shog = o.shog +ℤ p.shog }

-- What placing a point at an origin answers: exactly the sum where the point and the sum lie on the axes, and else refusal 3.
abbrev pub PlaceSays : Origin → LayPoint → Result LayPoint Refusal → Type 0
PlaceSays o p (Ok q) = On lay_kind p × On lay_kind (sum o p) × (q.course ≡ (sum o p).course) × (q.shog ≡ (sum o p).shog)
PlaceSays o p (Err e) = (On lay_kind p → On lay_kind (sum o p) → ⊥) × (number e ≡ 3)
