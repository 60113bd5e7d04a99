use Rattle.std.proofs.Common.{◌≡◌, ℕ, ◌<◌, ◌≤◌, length}
use Rattle.tree.specs.Lawful.{page}
use Rattle.begin.proofs.Fresh.{free_bytes}
use Rattle.begin.proofs.begin.Given as goal

abbrev pub invariant-loop-page : goal.invariant-loop-page
invariant-loop-page g l =
    (length (g.S.PageStore.pages l.store) ≡ l.count)
    × ((q : ℕ) → 1 ≤ q → q < l.page → page (g.S.PageStore.pages l.store) q ≡ free_bytes g.K.PointKind.kind l.count q)
