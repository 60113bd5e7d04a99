use Rattle.std.proofs.Common.{◌≡◌, ◌<◌, ◌≤◌, false, map, length, sym, refl, ap, ◌∙◌, subst, arith}
use Rattle.std.specs.List.{AllByRecursion}
use Rattle.kinds.specs.Kind.{On, code_of}
use Rattle.page.specs.Form.{data_view, encode}
use Rattle.tree.specs.Sets.{live}
use Rattle.tree.proofs.Halves.{all_with, length_with}
use Rattle.std.proofs.lemmas.Result.{err_from_is_err_and}
use Rattle.refusal.specs.declared.Refusal.TheVariants.{Full}
use Rattle.access.proofs.Refusing.{given}
use Rattle.access.proofs.Writes.{written_as}
use Rattle.hand.specs.Hands.{listed}
use Rattle.put.specs.Spares.{spares}
use Rattle.put.specs.Growing.{Split, Mixed}
use Rattle.hand.proofs.Entries.{entry_of}
use Rattle.put.proofs.Splits.{with_mixed}
use Rattle.put.proofs.Here.{here_live, here_room, here_full, here_split}
use Rattle.put.proofs.insert.put_here.Goals as goal

pub returns-then-holds-clause-lawful : goal.returns-then-holds-clause-lawful
returns-then-holds-clause-lawful g c ps above q w = here_live g.K.PointKind.kind g.met.K.PointKind.sound _ ps _ c.args.spare above q _ c.args.p.now w (sym c.holds.ensures ∙ c.if-holds.true)

pub page-requires : goal.page-requires
page-requires g c =
    let l = ap length c.with-all.ensures ∙ length_with (code_of g.K.PointKind.kind) c.args.p.now (listed c.args.points.now) in
    omega (arith, l, c.count.ensures, c.CAPACITY.ensures, g.met.K.PointKind.constants.1, c.if-count-CAPACITY.true)

pub entry-requires : goal.entry-requires
entry-requires g c =
    let l = ap length c.with-all.ensures ∙ length_with (code_of g.K.PointKind.kind) c.args.p.now (listed c.args.points.now) in
    omega arith

-- a page with room
pub returns-then-count-CAPACITY-clause-lawful : goal.returns-then-count-CAPACITY-clause-lawful
returns-then-count-CAPACITY-clause-lawful g c ps above q w =
    let k = g.K.PointKind.kind in
    let s = g.met.K.PointKind.sound in
    let e = c.entry.ensures in
    let xs = listed c.args.points.now in
    let lt : length xs < k.capacity = omega (arith, c.count.ensures, c.CAPACITY.ensures, g.met.K.PointKind.constants.1, c.if-count-CAPACITY.true) in
    here_room k s _ ps _ c.args.spare above q _ c.args.p.now w (sym c.holds.ensures ∙ c.if-holds.false) _ _ lt (entry_of k c.entry.result c.args.at.now.page _ _ c.with-all.ensures e.page e.count e.low e.high) refl
    (written_as c.put_page.ensures refl c.from.ensures (c.page.ensures ∙ ap (λ ys. encode k (data_view (map k.coords ys))) c.with-all.ensures))

-- a full page, and no pages at hand
pub returns-in_err-pages-clause-lawful : goal.returns-in_err-pages-clause-lawful
returns-in_err-pages-clause-lawful g c ps above q w =
    let k = g.K.PointKind.kind in
    let is_full : k.capacity ≤ length (listed c.args.points.now) = omega (arith, c.count.ensures, c.CAPACITY.ensures, g.met.K.PointKind.constants.1, c.if-count-CAPACITY.false) in
    let exit = err_from_is_err_and c.from_residual.result c.from_residual.ensures.1 in
    rw (exit.1, exit.2, given c.args.spare c.in_err-pages.field-0.0 Full c.in_err-pages.ensures.value)
    (here_full k g.met.K.PointKind.sound _ ps _ c.args.spare above q _ c.args.p.now w (sym c.holds.ensures ∙ c.if-holds.false) is_full c.requires.on c.in_err-pages.ensures.ok_part)

pub split-requires : goal.split-requires
split-requires g c =
    let k = g.K.PointKind.kind in
    let s = g.met.K.PointKind.sound in
    let p = c.args.p.now in
    let xs = listed c.args.points.now in
    let new : live (code_of k) p xs ≡ false = sym c.holds.ensures ∙ c.if-holds.false in
    let is_full : k.capacity ≤ length xs = omega (arith, c.count.ensures, c.CAPACITY.ensures, g.met.K.PointKind.constants.1, c.if-count-CAPACITY.false) in
    let room = s.room in
    let most = c.requires.few in
    let all = c.with-all.ensures in
    let l = ap length all ∙ length_with (code_of k) p xs in
    let there = subst (λ o. AllByRecursion (λ q. q < length (g.S.PageStore.pages c.args.store.now)) (spares o)) c.in_ok-pages.ensures.ok_part c.requires.spare_there in
    record {
      on = subst (AllByRecursion (On k)) (sym all) (all_with (code_of k) (On k) p xs c.requires.on c.requires.all_on);
      few = omega (arith, l, most);
      some = omega (arith, l);
      mixed = subst (Mixed k) (sym all) (with_mixed k s p xs (omega (arith, is_full, room)) new);
      there = c.requires.there;
      fork_there = there.0;
      leaf_there = there.1.0;
    }

-- a full page is split
pub returns-clause-lawful : goal.returns-clause-lawful
returns-clause-lawful g c ps above q w =
    let k = g.K.PointKind.kind in
    let s = g.met.K.PointKind.sound in
    let p = c.args.p.now in
    let xs = listed c.args.points.now in
    let card = g.S.PageStore.pages c.args.store.now in
    let new : live (code_of k) p xs ≡ false = sym c.holds.ensures ∙ c.if-holds.false in
    let is_full : k.capacity ≤ length xs = omega (arith, c.count.ensures, c.CAPACITY.ensures, g.met.K.PointKind.constants.1, c.if-count-CAPACITY.false) in
    let there = subst (λ o. AllByRecursion (λ q. q < length card) (spares o)) c.in_ok-pages.ensures.ok_part c.requires.spare_there in
    let done = subst (λ ys. Split k card ys c.args.at.now.page c.in_ok-pages.pages c.split.result (g.S.PageStore.pages c.split.new.store)) c.with-all.ensures c.split.ensures in
    here_split k s _ ps _ c.args.spare above q xs p w new is_full c.in_ok-pages.pages c.in_ok-pages.ensures.ok_part _ _ done there.0 there.1.0
