use Rattle.std.proofs.Common.{refl, ◌∙◌}
use Rattle.std.proofs.lemmas.Result.{err_from_is_err_and}
use Rattle.access.proofs.Heads.{rooted}
use Rattle.access.proofs.Writes.{written_as}
use Rattle.put.proofs.Insertions.{moved}
use Rattle.put.proofs.Roots.{start, refused_step, more_step, head_bytes_are}
use Rattle.put.proofs.put_more.Goals as goal

-- the chain of a lawful card is read
pub returns-in_err-spare-clause-lawful : goal.returns-in_err-spare-clause-lawful
returns-in_err-spare-clause-lawful g c set' w f n e = absurd (c.in_err-spare.ensures.lawful set' w f n)

pub returns-in_err-grown-clause-lawful : goal.returns-in_err-grown-clause-lawful
returns-in_err-grown-clause-lawful g c set' w f n e =
    let k = g.K.PointKind.kind in
    let s = g.met.K.PointKind.sound in
    let p = c.args.p.now in
    let exit = err_from_is_err_and c.from_residual-in_err-grown.result c.from_residual-in_err-grown.ensures.1 in
    let t = rooted k s _ set' w _ e in
    let sp = c.in_ok-spare.ensures.lawful set' w f n in
    let st = start k s _ set' w p c.requires.on t.tree t.is_root c.in_ok-spare.spare sp _ t.entry_is in
    rw (exit.1, exit.2)
    (refused_step k s _ set' w p c.requires.on t.tree t.is_root c.in_ok-spare.spare sp _ _ (moved k s _ _ c.spare_pages.ensures.keeps set' _ _ 0 t.tree st t.tree p _ _ refl (c.in_err-grown.ensures.lawful set' t.tree)))

pub returns-clause-lawful : goal.returns-clause-lawful
returns-clause-lawful g c set' w f n e =
    let k = g.K.PointKind.kind in
    let s = g.met.K.PointKind.sound in
    let p = c.args.p.now in
    let v = c.in_ok-grown.grown in
    let mid = g.S.PageStore.pages c.insert.new.store in
    let head = written_as c.put_page.ensures refl refl (c.head_page.ensures ∙ head_bytes_are k c.args.head.now c.head_after-head.result v c.head_after-head.ensures) in
    let t = rooted k s _ set' w _ e in
    let sp = c.in_ok-spare.ensures.lawful set' w f n in
    let st = start k s _ set' w p c.requires.on t.tree t.is_root c.in_ok-spare.spare sp _ t.entry_is in
    more_step k s _ set' w p c.requires.on t.tree t.is_root c.in_ok-spare.spare sp _ _ v mid _ f n (moved k s _ _ c.spare_pages.ensures.keeps set' _ _ 0 t.tree st t.tree p _ mid refl (c.in_ok-grown.ensures.lawful set' t.tree)) head
