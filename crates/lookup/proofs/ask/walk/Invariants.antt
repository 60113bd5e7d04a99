use Rattle.std.proofs.Common.{◌≡◌, List}
use Rattle.tree.specs.Laid.{Laid, number}
use Rattle.tree.specs.Standing.{Standing}
use Rattle.lookup.proofs.Walks.{Turn}
use Rattle.lookup.proofs.ask.walk.Given as goal

abbrev pub invariant-loop-turn : goal.invariant-loop-turn
invariant-loop-turn g l =
    (g.S.PageStore.pages l.store ≡ g.S.PageStore.pages l.initial.store)
    × ((ps : List g.row.K.Denot) (t : Laid g.row.K.Denot) → Standing g.K.PointKind.kind (g.S.PageStore.pages l.initial.store) ps t → number t ≡ l.start
    → Turn g.K.PointKind.kind g.met.K.PointKind.sound (g.S.PageStore.pages l.initial.store) l.p ps l.page l._turn)
