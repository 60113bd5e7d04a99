use Rattle.std.proofs.Common.{◌≡◌, ◌++◌, drop}
use Rattle.hand.specs.Hands.{listed, left}
use Rattle.hand.proofs.points.Hand.append.Given as goal

abbrev pub invariant-loop-point : goal.invariant-loop-point
invariant-loop-point g l = listed l.self ++ left l.point-iterator ≡ listed l.initial.self ++ drop l.from (listed l.other)
