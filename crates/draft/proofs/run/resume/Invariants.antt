use Rattle.std.proofs.Common.{◌≡◌, ◌+◌, ◌≤◌, List, ◌++◌, length, vec_items, vec_len, vec_capacity}
use Rattle.std.specs.Vec.Iter.{into_iter_items, into_iter_len}
use Rattle.tree.specs.Lawful.{Lawful}
use Rattle.draft.specs.Runs.{Runs}
use Rattle.draft.proofs.run.resume.Given as goal

-- the calls so far make a run from the draft as it was
abbrev pub invariant-loop-call : goal.invariant-loop-call
invariant-loop-call g l =
    (goal.iterator-loop-call g).can_next l.call-iterator
    × (goal.iterator-loop-call g).is_finite l.call-iterator
    × (vec_len l.replies + into_iter_len l.call-iterator ≤ vec_capacity l.replies)
    × (l.yielded ++ into_iter_items l.call-iterator ≡ into_iter_items l.initial.call-iterator)
    × (vec_len l.replies ≡ length l.yielded)
    × (l.draft.origin ≡ l.initial.draft.origin)
    × ((set : List g.row.K.Denot) → Lawful g.K.PointKind.kind (g.S.PageStore.pages l.initial.draft.store) set
    → Runs g.K.PointKind.kind (length (g.S.PageStore.pages l.initial.draft.store)) (g.S.PageStore.pages l.initial.draft.store) set l.yielded (vec_items l.replies) (g.S.PageStore.pages l.draft.store))
