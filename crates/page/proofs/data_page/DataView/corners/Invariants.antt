use Rattle.std.proofs.Common.{◌≡◌, ℕ, ◌+◌, ◌*◌, List, length, drop}
use Rattle.kinds.specs.Kind.{size_of}
use Rattle.page.specs.Form.{Point, data_view}
use Rattle.page.specs.Fields.{Reads}
use Rattle.page.proofs.Scans.{Scan}
use Rattle.page.proofs.data_page.DataView.corners.Given as goal

abbrev pub invariant-loop-part : goal.invariant-loop-part
invariant-loop-part g l =
    (goal.iterator-loop-part g).can_next l.part-iterator
    × (goal.iterator-loop-part g).is_finite l.part-iterator
    × (l.part-iterator.iter.size ≡ size_of g.K.PointKind.kind)
    × ((ps : List Point) → Reads g.K.PointKind.kind l.self.bytes.now (data_view ps) →
    (i : ℕ) × (i + l.part-iterator.n ≡ length ps)
    × (l.part-iterator.iter.rest.now ≡ drop (i * size_of g.K.PointKind.kind) (drop 2 l.self.bytes.now))
    × Scan g.K.PointKind.kind ps i (g.K.PointKind.kind.coords l.low) (g.K.PointKind.kind.coords l.high) l.last)
