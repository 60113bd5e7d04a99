use Rattle.std.proofs.Common.{◌≡◌, ◌+◌, ◌*◌, List, ◌∷◌, ◌++◌, length}
use Rattle.std.specs.List.{flat_map}
use Rattle.kinds.specs.Kind.{bytes_of, size_of}
use Rattle.page.specs.Form.{padded}
use Rattle.hand.specs.Hands.{listed, left}
use Rattle.hand.proofs.points.Hand.page.Given as goal

-- the points that are written, and what is left
abbrev pub invariant-loop-point : goal.invariant-loop-point
invariant-loop-point g l =
    let k = g.K.PointKind.kind in
    (done : List g.row.K.Denot) × (done ++ left l.point-iterator ≡ listed l.self) × (l.at ≡ 2 + length done * size_of k)
    × (l.page ≡ padded (k.data_kind ∷ (length (listed l.self) ∷ flat_map (bytes_of k) done)))
    × (length (flat_map (bytes_of k) done) ≡ length done * size_of k)
