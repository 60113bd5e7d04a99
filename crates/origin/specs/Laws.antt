-- Laws of placing.
use Rattle.std.specs.Prelude.{◌≡◌, pos, Ok, Result}
use Rattle.refusal.specs.declared.Refusal.{Refusal}
use Rattle.kinds.specs.declared.lay.LayPoint.{LayPoint}
use Rattle.kinds.specs.Kind.{On}
use Rattle.kinds.specs.Lay.{lay_kind}
use Rattle.origin.specs.declared.origin.Origin.{Origin}
use Rattle.origin.specs.Placing.{PlaceSays}

-- Whatever placing at course 0 and shog 0 answers to a point on its axes, it is that point.
abbrev pub StartLaw : Type 0
StartLaw = (o : Origin) (p : LayPoint) (r : Result LayPoint Refusal) → o.course ≡ 0 → o.shog ≡ pos 0 → On lay_kind p → PlaceSays o p r → r ≡ Ok p

-- Two points that are placed on one point at one origin are one point.
abbrev pub ApartLaw : Type 0
ApartLaw = (o : Origin) (p q placed : LayPoint) → PlaceSays o p (Ok placed) → PlaceSays o q (Ok placed) → p ≡ q

-- An origin and a point have no two answers.
abbrev pub OneLaw : Type 0
OneLaw = (o : Origin) (p : LayPoint) (r s : Result LayPoint Refusal) → PlaceSays o p r → PlaceSays o p s → r ≡ s
