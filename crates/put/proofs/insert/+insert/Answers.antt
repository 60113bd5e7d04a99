use Rattle.std.proofs.Common.{◌<◌, length, sym, refl, ap, ◌∙◌, subst}
use Rattle.std.specs.List.{AllByRecursion}
use Rattle.std.proofs.lemmas.Result.{err_from_is_err_and}
use Rattle.page.specs.Checks.{NodeRead, summary}
use Rattle.tree.specs.Lawful.{Card}
use Rattle.refusal.specs.declared.Refusal.TheVariants.{Full}
use Rattle.access.proofs.Refusing.{given}
use Rattle.access.proofs.Choosing.{chosen_of}
use Rattle.access.proofs.Writes.{written_as}
use Rattle.hand.specs.Hands.{listed}
use Rattle.put.specs.Spares.{spares}
use Rattle.put.proofs.Insertions.{count_fits, there, reads, moved, some_points, points_are, not_shallow, apart_full, apart_put, half_refused, half_grown}
use Rattle.put.proofs.insert.+insert.Goals as goal

-- the greatest number of points
pub returns-then-at-clause-lawful : goal.returns-then-at-clause-lawful
returns-then-at-clause-lawful g t c ps tree w = absurd (count_fits g.K.PointKind.kind g.met.K.PointKind.sound _ _ refl ps _ _ _ tree w c.if-at.true)

-- no page of the tree
pub returns-in_err-bytes-clause-lawful : goal.returns-in_err-bytes-clause-lawful
returns-in_err-bytes-clause-lawful g t c ps tree w =
    let k = g.K.PointKind.kind in
    let s = g.met.K.PointKind.sound in
    absurd (c.in_err-bytes.ensures.shown tree (there k s _ _ refl ps _ _ _ tree w) (reads k s _ _ refl ps _ _ _ tree w _ refl))

-- a data page has points
pub returns-in_err-points-clause-lawful : goal.returns-in_err-points-clause-lawful
returns-in_err-points-clause-lawful g t c ps tree w =
    let k = g.K.PointKind.kind in
    let bs = c.in_ok-bytes.bytes in
    let leaf = subst (NodeRead k bs) c.in_default.is c.in_ok-bytes.ensures.reads.2 in
    absurd (some_points k g.met.K.PointKind.sound _ _ refl ps _ _ _ tree w bs c.in_ok-bytes.ensures.reads.1 leaf (rw c.in_err-points.ensures.ok_part at c.of_page.ensures.tells))

-- a data page
pub returns-in_default-clause-lawful : goal.returns-in_default-clause-lawful
returns-in_default-clause-lawful g t c ps tree w =
    let k = g.K.PointKind.kind in
    let s = g.met.K.PointKind.sound in
    let bs = c.in_ok-bytes.bytes in
    let leaf = subst (NodeRead k bs) c.in_default.is c.in_ok-bytes.ensures.reads.2 in
    let d = points_are k s _ _ refl ps _ _ _ tree w bs c.in_ok-bytes.ensures.reads.1 leaf (listed c.in_ok-points.points) (rw c.in_ok-points.ensures.ok_part at c.of_page.ensures.tells) in
    moved k s _ _ c.load_node.ensures.keeps ps _ _ _ tree w _ c.args.p.now _ _ d.1 (c.put_here.ensures.lawful ps c.args.above d.0)

-- the depth rises
pub returns-then-fork-above-clause-lawful : goal.returns-then-fork-above-clause-lawful
returns-then-fork-above-clause-lawful g t c ps tree w =
    let k = g.K.PointKind.kind in
    let bs = c.in_ok-bytes.bytes in
    let fork = subst (NodeRead k bs) c.in-Directory.is c.in_ok-bytes.ensures.reads.2 in
    absurd (not_shallow k g.met.K.PointKind.sound _ _ refl ps _ _ _ tree w bs _ _ _ c.in_ok-bytes.ensures.reads.1 fork c.requires.short c.if-fork-above.true)

-- the first bits are not shared, and no pages are at hand
pub returns-in_err-pages-clause-lawful : goal.returns-in_err-pages-clause-lawful
returns-in_err-pages-clause-lawful g t c ps tree w =
    let k = g.K.PointKind.kind in
    let bs = c.in_ok-bytes.bytes in
    let fork = subst (NodeRead k bs) c.in-Directory.is c.in_ok-bytes.ensures.reads.2 in
    let exit = err_from_is_err_and c.from_residual-in_err-pages.result c.from_residual-in_err-pages.ensures.1 in
    rw (exit.1, exit.2, given c.args.spare c.in_err-pages.field-0.0 Full c.in_err-pages.ensures.value)
    (apart_full k g.met.K.PointKind.sound _ _ c.load_node.ensures.keeps ps _ _ _ tree w bs _ _ _ c.in_ok-bytes.ensures.reads.1 fork c.args.p.now _ c.depth-shared.ensures.shares c.if-shared-fork.true c.in_err-pages.ensures.ok_part)

-- the first bits are not shared
pub returns-then-shared-fork-clause-lawful : goal.returns-then-shared-fork-clause-lawful
returns-then-shared-fork-clause-lawful g t c ps tree w =
    let k = g.K.PointKind.kind in
    let bs = c.in_ok-bytes.bytes in
    let keep = c.load_node.ensures.keeps in
    let fork = subst (NodeRead k bs) c.in-Directory.is c.in_ok-bytes.ensures.reads.2 in
    let e = c.put_beside.ensures in
    let near = subst (λ (x : Card). AllByRecursion (λ q. q < length x) (spares c.args.spare)) (sym keep) c.requires.spare_there in
    let both = subst (λ o. AllByRecursion (λ q. q < length (g.S.PageStore.pages c.load_node.new.store)) (spares o)) c.in_ok-pages.ensures.ok_part near in
    apart_put k g.met.K.PointKind.sound _ _ keep ps _ _ _ tree w bs _ _ _ c.in_ok-bytes.ensures.reads.1 fork c.args.p.now _ c.depth-shared.ensures.shares c.in_ok-pages.pages _ _ c.if-shared-fork.true c.in_ok-pages.ensures.ok_part both.0 both.1.0 e.entry e.used e.written

-- the half is refused
pub returns-in_err-grown-clause-lawful : goal.returns-in_err-grown-clause-lawful
returns-in_err-grown-clause-lawful g t c ps tree w =
    let k = g.K.PointKind.kind in
    let bs = c.in_ok-bytes.bytes in
    let fork = subst (NodeRead k bs) c.in-Directory.is c.in_ok-bytes.ensures.reads.2 in
    let half = ap (summary k) c.sides-half.ensures.own ∙ chosen_of (summary k) c.bit-bit.result _ _ in
    let exit = err_from_is_err_and c.from_residual-in_err-grown.result c.from_residual-in_err-grown.ensures.1 in
    rw (exit.1, exit.2)
    (half_refused k g.met.K.PointKind.sound _ _ c.load_node.ensures.keeps ps _ _ _ tree w bs _ _ _ c.in_ok-bytes.ensures.reads.1 fork c.args.p.now _ c.depth-shared.ensures.shares c.if-shared-fork.false c.bit-bit.result c.bit-bit.ensures _ _ _ half c.in_err-grown.ensures.lawful)

-- the half has grown
pub returns-clause-lawful : goal.returns-clause-lawful
returns-clause-lawful g t c ps tree w =
    let k = g.K.PointKind.kind in
    let bs = c.in_ok-bytes.bytes in
    let fork = subst (NodeRead k bs) c.in-Directory.is c.in_ok-bytes.ensures.reads.2 in
    let mid = g.S.PageStore.pages c.insert.new.store in
    let half = ap (summary k) c.sides-half.ensures.own ∙ chosen_of (summary k) c.bit-bit.result _ _ in
    let other = ap (summary k) c.sides-half.ensures.other ∙ chosen_of (summary k) c.bit-bit.result _ _ in
    half_grown k g.met.K.PointKind.sound _ _ c.load_node.ensures.keeps ps _ _ _ tree w bs _ _ _ c.in_ok-bytes.ensures.reads.1 fork c.args.p.now _ c.depth-shared.ensures.shares c.if-shared-fork.false c.bit-bit.result c.bit-bit.ensures
    _ c.in_ok-grown.grown mid _ _ _ half other c.widen.ensures refl (written_as c.put_page.ensures refl c.from.ensures c.fork_page-page.ensures) c.in_ok-grown.ensures.lawful
