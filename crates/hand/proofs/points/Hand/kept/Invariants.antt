use Rattle.std.proofs.Common.{◌≡◌, ◌+◌, ◌≤◌, Bool, ◌++◌, length, filter, Bor}
use Rattle.std.specs.List.{AllByRecursion}
use Rattle.kinds.specs.Kind.{On}
use Rattle.hand.specs.Hands.{listed, left}
use Rattle.hand.proofs.points.Hand.kept.Given as goal

abbrev pub invariant-loop-point : goal.invariant-loop-point
invariant-loop-point g l =
    ((keeps : g.row.K.Denot → Bool) → ((x : Bor g.row.K.Denot) (r : Bool) → On g.K.PointKind.kind x.now → g.F.Fn.post l.test (x, tt) r → r ≡ keeps x.now)
    → listed l.hand ++ filter keeps (left l.point-iterator) ≡ filter keeps (listed l.self))
    × (length (listed l.hand) + length (left l.point-iterator) ≤ 16)
    × AllByRecursion (On g.K.PointKind.kind) (left l.point-iterator)
