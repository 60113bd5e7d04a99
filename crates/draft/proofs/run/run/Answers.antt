use Rattle.std.proofs.Common.{◌≡◌, [], length, vec_items, vec_len, vec_capacity, subst, rules, arith}
use Rattle.std.proofs.lemmas.Result.{err_from_is_err_and}
use Rattle.tree.specs.Lawful.{begun_card}
use Rattle.draft.specs.declared.calls.Halt.{Halt}
use Rattle.draft.specs.Runs.{Runs, Halted}
use Rattle.draft.proofs.Mapped.{mapped, both, was_ok, was_err}
use Rattle.draft.proofs.run.run.Goals as goal

-- no card of 2 to 65,535 pages
pub returns-in_err-draft : goal.returns-in_err-draft
returns-in_err-draft g c =
    let k = g.K.PointKind.kind in
    let card = g.S.PageStore.pages c.args.store in
    let exit = err_from_is_err_and c.from_residual.result c.from_residual.ensures.1 in
    let Ends = λ (y : Halt × g.row.S.Denot). Halted (length card) (vec_capacity c.args.replies) (vec_len c.args.calls) y.0 × (g.S.PageStore.pages y.1 ≡ card) in
    rw (exit.1, exit.2)
    (was_err _ _ _ (Ends c.in_err-draft.field-0.0) c.begin.result c.in_err-draft.field-0.0 c.in_err-draft.ensures.cases c.begin.ensures.card (λ e h q. search rules))

-- from the fresh card on
pub returns : goal.returns
returns g c =
    let k = g.K.PointKind.kind in
    let fresh = g.S.PageStore.pages c.in_ok-draft.draft.store in
    let total = length (g.S.PageStore.pages c.args.store) in
    let cs = vec_items c.args.calls in
    let b = was_ok _ _ _ c.begin.result c.in_ok-draft.draft c.in_ok-draft.ensures.cases c.begin.ensures.card in
    mapped _ _ _ _ c.resume.result c.map_err-2.result c.map_err-2.ensures.cases
    (both _ _ _ _ c.resume.result c.resume.ensures.lawful c.resume.ensures.always (λ x made.
    subst (λ n. Runs k n (begun_card k total) [] cs (vec_items x.1) (g.S.PageStore.pages x.0.store)) b.3 (subst (λ y. Runs k (length fresh) y [] cs (vec_items x.1) (g.S.PageStore.pages x.0.store)) b.2 (made [] b.4))))
    (λ e d h q. absurd (omega (arith, h.1, c.if-capacity-len.false, c.capacity.ensures, c.len.ensures)))
