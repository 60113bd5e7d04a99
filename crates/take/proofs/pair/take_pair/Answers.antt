use Rattle.std.proofs.Common.{◌≡◌, List, ◌++◌, length, sym, refl, ap, ◌∙◌, subst, ap₂, arith}
use Rattle.kinds.specs.Kind.{code_of}
use Rattle.tree.specs.Sets.{live, without_point}
use Rattle.hand.specs.Hands.{listed}
use Rattle.hand.proofs.Entries.{entry_of}
use Rattle.access.proofs.Writes.{written_as}
use Rattle.access.specs.Reached.{chosen}
use Rattle.take.specs.declared.taken.Taken.TheVariants.{Left}
use Rattle.take.specs.Shrinking.{Shrunk}
use Rattle.take.proofs.Chosen.{chosen_length}
use Rattle.take.proofs.Ups.{own_told, other_told, live_there, both_fit, pair_gone, pair_merged}
use Rattle.take.proofs.pair.take_pair.Goals as goal

-- the point's own page is a data page
pub returns-in_err-points-clause-lawful : goal.returns-in_err-points-clause-lawful
returns-in_err-points-clause-lawful g c ps above q l h d few =
    let k = g.K.PointKind.kind in
    let card = g.S.PageStore.pages c.args.store.now in
    absurd (own_told k g.met.K.PointKind.sound card ps c.args.at.now above c.args.fork.now c.args.bit c.args.p.now q l h d few c.sides-own.result.0 c.sides-own.result.1 c.sides-own.ensures.own c.sides-own.ensures.other
    (λ zs. ⊥) c.in_err-points.ensures.tells)

-- and so is the other page
pub returns-in_err-beside-clause-lawful : goal.returns-in_err-beside-clause-lawful
returns-in_err-beside-clause-lawful g c ps above q l h d few =
    let k = g.K.PointKind.kind in
    let card = g.S.PageStore.pages c.args.store.now in
    absurd (other_told k g.met.K.PointKind.sound card ps c.args.at.now above c.args.fork.now c.args.bit c.args.p.now q l h d few c.sides-own.result.0 c.sides-own.result.1 c.sides-own.ensures.own c.sides-own.ensures.other
    (λ zs. ⊥) _ c.points_at.ensures.keeps c.in_err-beside.ensures.tells)

-- the point is not there
pub returns-then-not-holds-clause-lawful : goal.returns-then-not-holds-clause-lawful
returns-then-not-holds-clause-lawful g c ps above q l h d few =
    let k = g.K.PointKind.kind in
    let s = g.met.K.PointKind.sound in
    let card = g.S.PageStore.pages c.args.store.now in
    let e = c.args.at.now in
    let x = c.args.fork.now in
    let bit = c.args.bit in
    let p = c.args.p.now in
    let own = c.sides-own.result.0 in
    let other = c.sides-own.result.1 in
    let sides = c.sides-own.ensures in
    let is = own_told k s card ps e above x bit p q l h d few own other sides.own sides.other (λ zs. listed c.in_ok-points.points ≡ zs) c.in_ok-points.ensures.tells in
    (sym (live_there k s card ps e above x bit p q l h d few own other sides.own sides.other) ∙ ap (live (code_of k) p) (sym is) ∙ sym c.holds.ensures ∙ c.if-not-holds.true, refl)

-- its page had no other point
pub returns-then-count-eq0-clause-lawful : goal.returns-then-count-eq0-clause-lawful
returns-then-count-eq0-clause-lawful g c ps above q l h d few =
    let k = g.K.PointKind.kind in
    let s = g.met.K.PointKind.sound in
    let card = g.S.PageStore.pages c.args.store.now in
    let e = c.args.at.now in
    let x = c.args.fork.now in
    let bit = c.args.bit in
    let p = c.args.p.now in
    let own = c.sides-own.result.0 in
    let other = c.sides-own.result.1 in
    let sides = c.sides-own.ensures in
    let keeps = c.points_at-2.ensures.keeps ∙ c.points_at.ensures.keeps in
    let is = own_told k s card ps e above x bit p q l h d few own other sides.own sides.other (λ zs. listed c.in_ok-points.points ≡ zs) c.in_ok-points.ensures.tells in
    subst (Shrunk k card ps p _ (Left other _)) (sym keeps)
    (pair_gone k s card ps e above x bit p q l h d few own other sides.own sides.other (ap (live (code_of k) p) (sym is) ∙ sym c.holds.ensures ∙ c.if-not-holds.false)
    (ap length (ap (without_point (code_of k) p) (sym is) ∙ sym c.without-rest.ensures) ∙ sym c.count.ensures ∙ c.if-count-eq0.true))

-- more points than one page has room for
pub returns-then-count-CAPACITY-clause-lawful : goal.returns-then-count-CAPACITY-clause-lawful
returns-then-count-CAPACITY-clause-lawful g c ps above q l h d few =
    let k = g.K.PointKind.kind in
    let s = g.met.K.PointKind.sound in
    let card = g.S.PageStore.pages c.args.store.now in
    let e = c.args.at.now in
    let x = c.args.fork.now in
    let bit = c.args.bit in
    let p = c.args.p.now in
    let own = c.sides-own.result.0 in
    let other = c.sides-own.result.1 in
    let sides = c.sides-own.ensures in
    let is = own_told k s card ps e above x bit p q l h d few own other sides.own sides.other (λ zs. listed c.in_ok-points.points ≡ zs) c.in_ok-points.ensures.tells in
    let is' = other_told k s card ps e above x bit p q l h d few own other sides.own sides.other (λ zs. listed c.in_ok-beside.beside ≡ zs) _ c.points_at.ensures.keeps c.in_ok-beside.ensures.tells in
    let fit = both_fit k s card ps e above x bit p q l h d few own other sides.own sides.other (ap (live (code_of k) p) (sym is) ∙ sym c.holds.ensures ∙ c.if-not-holds.false) in
    let a = ap length (c.without-rest.ensures ∙ ap (without_point (code_of k) p) is) in
    let b = ap length is' in
    absurd (omega (arith, c.count-2.ensures, c.count-3.ensures, c.CAPACITY.ensures, g.met.K.PointKind.constants.1, c.if-count-CAPACITY.true))

pub page-requires : goal.page-requires
page-requires g c =
    let a = ap length c.in_order-all.ensures ∙ chosen_length c.args.bit (listed c.without-rest.result) (listed c.in_ok-beside.beside) in
    omega (arith, c.count-2.ensures, c.count-3.ensures, c.CAPACITY.ensures, g.met.K.PointKind.constants.1, c.if-count-CAPACITY.false)

pub entry-requires : goal.entry-requires
entry-requires g c =
    let a = ap length c.in_order-all.ensures ∙ chosen_length c.args.bit (listed c.without-rest.result) (listed c.in_ok-beside.beside) in
    omega (arith, c.count.ensures, c.if-count-eq0.false)

-- both become one page
pub returns-clause-lawful : goal.returns-clause-lawful
returns-clause-lawful g c ps above q l h d few =
    let k = g.K.PointKind.kind in
    let s = g.met.K.PointKind.sound in
    let card = g.S.PageStore.pages c.args.store.now in
    let e = c.args.at.now in
    let x = c.args.fork.now in
    let bit = c.args.bit in
    let p = c.args.p.now in
    let own = c.sides-own.result.0 in
    let other = c.sides-own.result.1 in
    let sides = c.sides-own.ensures in
    let keeps = c.points_at-2.ensures.keeps ∙ c.points_at.ensures.keeps in
    let xs = listed c.in_order-all.result in
    let written = written_as c.put_page.ensures keeps c.from.ensures c.page.ensures in
    let is = own_told k s card ps e above x bit p q l h d few own other sides.own sides.other (λ zs. listed c.in_ok-points.points ≡ zs) c.in_ok-points.ensures.tells in
    let is' = other_told k s card ps e above x bit p q l h d few own other sides.own sides.other (λ zs. listed c.in_ok-beside.beside ≡ zs) _ c.points_at.ensures.keeps c.in_ok-beside.ensures.tells in
    let left = c.without-rest.ensures ∙ ap (without_point (code_of k) p) is in
    let n = ap length left in
    pair_merged k s card ps e above x bit p q l h d few own other sides.own sides.other c.entry.result xs (g.S.PageStore.pages c.put_page.new.store)
    (c.in_order-all.ensures ∙ ap₂ (λ (us vs : List g.row.K.Denot). chosen bit (us ++ vs) (vs ++ us)) left is')
    (ap (live (code_of k) p) (sym is) ∙ sym c.holds.ensures ∙ c.if-not-holds.false) (omega (arith, c.count.ensures, c.if-count-eq0.false))
    (entry_of k c.entry.result own.page xs xs refl c.entry.ensures.page c.entry.ensures.count c.entry.ensures.low c.entry.ensures.high) written
