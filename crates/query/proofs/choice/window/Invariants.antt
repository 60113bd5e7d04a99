use Rattle.std.proofs.Common.{◌≡◌, ◌≤◌, length, take}
use Rattle.query.proofs.Ends.{ends, low_of, high_of}
use Rattle.query.proofs.choice.window.Given as goal

-- so many corners of both sorts stand in their arrays
abbrev pub invariant-loop-axis : goal.invariant-loop-axis
invariant-loop-axis g l =
    (length l.low ≡ 4) × (length l.high ≡ 4) × (l.axis ≤ length g.K.PointKind.kind.axes)
    × (take l.axis l.low ≡ ends low_of g.K.PointKind.kind.axes (take l.axis l.query))
    × (take l.axis l.high ≡ ends high_of g.K.PointKind.kind.axes (take l.axis l.query))
