use Rattle.std.proofs.Common.{◌≡◌, ◌++◌, take, drop}
use Rattle.kinds.specs.Kind.{code_of}
use Rattle.tree.specs.Sets.{with_point}
use Rattle.hand.specs.Hands.{listed}
use Rattle.hand.proofs.points.Hand.place.Given as goal

abbrev pub invariant-loop-i : goal.invariant-loop-i
invariant-loop-i g l =
    with_point (code_of g.K.PointKind.kind) l.p (listed l.self)
    ≡ take l.i (listed l.self) ++ with_point (code_of g.K.PointKind.kind) l.p (drop l.i (listed l.self))
