use Rattle.std.proofs.Common.{◌≤◌, length, sym, subst, arith}
use Rattle.page.specs.Form.{free_view}
use Rattle.page.specs.Fields.{Reads}
use Rattle.tree.specs.Lawful.{Card, page, front}
use Rattle.put.proofs.Chains.{first_link, second_link, next_is, spare_of}
use Rattle.put.proofs.spare.spare_pages.Goals as goal

-- the first page of a lawful chain is free
pub returns-in_err-leaf-clause-lawful : goal.returns-in_err-leaf-clause-lawful
returns-in_err-leaf-clause-lawful g c set w f n =
    let l = first_link g.K.PointKind.kind g.met.K.PointKind.sound _ set w _ (omega (arith, n, c.if-head-lt-PAIR.false)) f in
    absurd (c.in_err-leaf.ensures.gives.1 _ l.reads)

-- and the second
pub returns-in_err-rest-clause-lawful : goal.returns-in_err-rest-clause-lawful
returns-in_err-rest-clause-lawful g c set w f n =
    let k = g.K.PointKind.kind in
    let s = g.met.K.PointKind.sound in
    let two : 2 ≤ length w.chain = omega (arith, n, c.if-head-lt-PAIR.false) in
    let l = first_link k s _ set w _ (omega (arith, two)) f in
    let e = next_is k s _ _ _ _ l c.in_ok-leaf.ensures.gives.1 in
    let m = second_link k s _ set w _ c.in_ok-leaf.leaf two l e in
    absurd (c.in_err-rest.ensures.gives.1 _ (subst (λ (x : Card). Reads k (page x c.in_ok-leaf.leaf) (free_view (front m.rest))) (sym c.next_page.ensures.keeps) m.reads))

pub returns-clause-lawful : goal.returns-clause-lawful
returns-clause-lawful g c set w f n =
    let k = g.K.PointKind.kind in
    let s = g.met.K.PointKind.sound in
    let leaf = c.in_ok-leaf.leaf in
    let two : 2 ≤ length w.chain = omega (arith, n, c.if-head-lt-PAIR.false) in
    let l = first_link k s _ set w _ (omega (arith, two)) f in
    let e = next_is k s _ _ _ _ l c.in_ok-leaf.ensures.gives.1 in
    let m = second_link k s _ set w _ leaf two l e in
    let o = next_is k s _ _ _ _ m (subst (λ (x : Card). Reads k (page x leaf) (free_view c.in_ok-rest.rest)) c.next_page.ensures.keeps c.in_ok-rest.ensures.gives.1) in
    spare_of k s _ set w _ _ _ _ l m n o
