use Rattle.std.proofs.Common.{◌≡◌, ◌*◌, ◌∷◌, length, take}
use Rattle.std.specs.List.{flat_map}
use Rattle.kinds.specs.Kind.{bytes_of, size_of}
use Rattle.page.specs.Form.{padded}
use Rattle.page.proofs.encode.data_page.Given as goal

abbrev pub invariant-loop-i : goal.invariant-loop-i
invariant-loop-i g l = (l.page ≡ padded (g.K.PointKind.kind.data_kind ∷ (length l.points ∷ flat_map (bytes_of g.K.PointKind.kind) (take l.i l.points))))
    × (length (flat_map (bytes_of g.K.PointKind.kind) (take l.i l.points)) ≡ l.i * size_of g.K.PointKind.kind)
