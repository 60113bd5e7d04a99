use Rattle.std.proofs.Common.{ℕ, ◌<◌, length, sym, ap, ◌∙◌, subst, refl}
use Rattle.std.proofs.lemmas.Result.{err_from_is_err_and}
use Rattle.page.specs.Form.{free_view}
use Rattle.page.specs.Fields.{Reads}
use Rattle.tree.specs.Lawful.{page}
use Rattle.tree.proofs.Standings.{shown_there}
use Rattle.put.proofs.Chains.{never_strange}
use Rattle.put.proofs.spare.next_page.Goals as goal

-- no page of this number
pub returns-in_err-bytes-clause-gives : goal.returns-in_err-bytes-clause-gives
returns-in_err-bytes-clause-gives g c =
    let k = g.K.PointKind.kind in
    let exit = err_from_is_err_and c.from_residual.result c.from_residual.ensures.1 in
    let e = c.in_err-bytes.ensures.gives in
    rw (exit.1, exit.2) (e.0, λ next r. e.1 (subst (λ i. i < length (g.S.PageStore.pages c.args.store.now)) (sym c.from.ensures) (shown_there k g.met.K.PointKind.sound _ c.args.page (free_view next) r.bytes_are)))

-- no free page
pub returns-in_err-next_free-clause-gives : goal.returns-in_err-next_free-clause-gives
returns-in_err-next_free-clause-gives g c =
    let k = g.K.PointKind.kind in
    let bs = c.in_ok-bytes.bytes in
    let same = c.in_ok-bytes.ensures.gives.1 ∙ ap (page (g.S.PageStore.pages c.args.store.now)) c.from.ensures in
    let exit = err_from_is_err_and c.from_residual-in_err-next_free.result c.from_residual-in_err-next_free.ensures.1 in
    rw (exit.1, exit.2) (refl, λ next r. never_strange k {X = ℕ} bs c.from-2.result next (λ x. Reads k bs (free_view x)) _ (subst (λ x. Reads k x (free_view next)) (sym same) r) c.in_err-next_free.ensures)
