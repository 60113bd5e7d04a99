use Rattle.std.proofs.Common.{◌≡◌, map}
use Rattle.zorder.specs.Sharing.{least_corner, greatest_corner}
use Rattle.kinds.specs.Kind.{low_corner, high_corner}
use Rattle.hand.specs.Hands.{listed, left}
use Rattle.hand.proofs.points.Hand.entry.Given as goal

-- the corners so far, with what is left, are the corners of all
abbrev pub invariant-loop-point : goal.invariant-loop-point
invariant-loop-point g l =
    let f = g.K.PointKind.kind.coords in
    (least_corner (f l.low) (map f (left l.point-iterator)) ≡ low_corner g.K.PointKind.kind (listed l.self))
    × (greatest_corner (f l.high) (map f (left l.point-iterator)) ≡ high_corner g.K.PointKind.kind (listed l.self))
