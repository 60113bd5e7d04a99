use Rattle.std.proofs.Common.{map, length, sym, refl, ap, ◌∙◌, arith}
use Rattle.kinds.specs.Kind.{code_of}
use Rattle.page.specs.Form.{data_view, encode}
use Rattle.tree.specs.Sets.{live, without_point}
use Rattle.access.proofs.Writes.{written_as}
use Rattle.hand.specs.Hands.{listed}
use Rattle.hand.proofs.Entries.{entry_of}
use Rattle.take.proofs.DataPages.{few_left, leaf_gone, leaf_left}
use Rattle.take.proofs.leaf.take_here.Goals as goal

-- the last point
pub returns-then-count-eq0-clause-lawful : goal.returns-then-count-eq0-clause-lawful
returns-then-count-eq0-clause-lawful g c ps r =
    let k = g.K.PointKind.kind in
    let C = code_of k in
    let p = c.args.p.now in
    let tells = rw c.in_ok-points.ensures.ok_part at c.of_page.ensures.tells in
    let is = tells ps r in
    leaf_gone k (g.S.PageStore.pages c.args.store.now) ps p c.args.page (ap (live C p) (sym is) ∙ sym c.holds.ensures ∙ c.if-not-holds.false)
    (ap length (ap (without_point C p) (sym is) ∙ sym c.without-rest.ensures) ∙ sym c.count.ensures ∙ c.if-count-eq0.true)

pub page-requires : goal.page-requires
page-requires g c =
    let C = code_of g.K.PointKind.kind in
    let a = few_left C c.args.p.now (listed c.in_ok-points.points) in
    let b = ap length c.without-rest.ensures in
    let sane = rw c.in_ok-points.ensures.ok_part at c.of_page.ensures.sane in
    let d = sane.1 in
    omega arith

-- points are left
pub returns-clause-lawful : goal.returns-clause-lawful
returns-clause-lawful g c ps r =
    let k = g.K.PointKind.kind in
    let C = code_of k in
    let p = c.args.p.now in
    let q = c.args.page in
    let card = g.S.PageStore.pages c.args.store.now in
    let tells = rw c.in_ok-points.ensures.ok_part at c.of_page.ensures.tells in
    let is = tells ps r in
    let left = c.without-rest.ensures ∙ ap (without_point C p) is in
    let n = ap length left in
    leaf_left k card ps p q c.entry.result (g.S.PageStore.pages c.put_page.new.store) (ap (live C p) (sym is) ∙ sym c.holds.ensures ∙ c.if-not-holds.false) (omega (arith, c.if-count-eq0.false, c.count.ensures)) c.requires.there
    (entry_of k c.entry.result q (listed c.without-rest.result) (without_point C p ps) left c.entry.ensures.page c.entry.ensures.count c.entry.ensures.low c.entry.ensures.high)
    (written_as c.put_page.ensures refl c.from.ensures (c.page.ensures ∙ ap (λ xs. encode k (data_view (map k.coords xs))) left))
