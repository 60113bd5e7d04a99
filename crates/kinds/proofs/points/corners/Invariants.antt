use Rattle.std.proofs.Common.{◌≡◌, map, drop}
use Rattle.zorder.specs.Sharing.{least_corner, greatest_corner}
use Rattle.kinds.proofs.points.corners.Given as goal

-- the corners so far, with what is left, are the corners of all
abbrev pub invariant-loop-p : goal.invariant-loop-p
invariant-loop-p g l =
    let f = g.K.PointKind.kind.coords in
    (least_corner (f l.low) (map f (drop l.p-index l.more)) ≡ least_corner (f l.initial.low) (map f l.more))
    × (greatest_corner (f l.high) (map f (drop l.p-index l.more)) ≡ greatest_corner (f l.initial.high) (map f l.more))
