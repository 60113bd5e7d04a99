use Rattle.std.proofs.Common.{◌≡◌}
use Rattle.std.specs.List.{AllByRecursion}
use Rattle.kinds.specs.Kind.{On, code_of}
use Rattle.tree.specs.Sets.{live}
use Rattle.hand.specs.Hands.{listed, left}
use Rattle.hand.proofs.points.Hand.holds.Given as goal

-- what is left is asked, and lies on its axes
abbrev pub invariant-loop-point : goal.invariant-loop-point
invariant-loop-point g l =
    (live (code_of g.K.PointKind.kind) l.p (left l.point-iterator) ≡ live (code_of g.K.PointKind.kind) l.p (listed l.self))
    × AllByRecursion (On g.K.PointKind.kind) (left l.point-iterator)
