use Rattle.std.proofs.Common.{◌≡◌, ℕ, ◌+◌, ◌*◌, ◌<◌, List, take, drop}
use Rattle.std.specs.List.{AllByRecursion}
use Rattle.zorder.specs.Code.{code}
use Rattle.kinds.specs.Kind.{size_of}
use Rattle.page.specs.Form.{Point, data_view}
use Rattle.page.specs.Fields.{Reads}
use Rattle.page.proofs.data_page.DataView.holds.Given as goal

abbrev pub invariant-loop-part : goal.invariant-loop-part
invariant-loop-part g l =
    (goal.iterator-loop-part g).can_next l.part-iterator
    × (goal.iterator-loop-part g).is_finite l.part-iterator
    × (l.part-iterator.iter.size ≡ size_of g.K.PointKind.kind)
    × ((ps : List Point) → Reads g.K.PointKind.kind l.self.bytes.now (data_view ps) →
    (i : ℕ) × (i + l.part-iterator.n ≡ l.count)
    × (l.part-iterator.iter.rest.now ≡ drop (i * size_of g.K.PointKind.kind) (drop 2 l.self.bytes.now))
    × AllByRecursion (λ q. code g.K.PointKind.kind.axes q < l.sought) (take i ps))
