use Rattle.std.proofs.Common.{Some, Ok, Err, sym, refl, ap, ◌∙◌, subst, arith}
use Rattle.std.proofs.lemmas.Result.{err_from_is_err_and}
use Rattle.zorder.specs.Halves.{half}
use Rattle.kinds.specs.Kind.{wide, code_of}
use Rattle.page.specs.Form.{directory_view, encode}
use Rattle.page.specs.Checks.{NodeRead, summary}
use Rattle.tree.specs.Laid.{data_at}
use Rattle.tree.specs.Lawful.{Card}
use Rattle.access.specs.Reached.{chosen}
use Rattle.access.proofs.Choosing.{chosen_first, chosen_second}
use Rattle.access.proofs.Reaching.{reached_count}
use Rattle.access.proofs.Writes.{written_as}
use Rattle.take.specs.declared.taken.Taken.TheVariants.{Left}
use Rattle.take.specs.Shrinking.{Shrunk, TakeEnd}
use Rattle.take.proofs.Downs.{below_there, reads, below_deep, below_absent, data_case, forked_end}
use Rattle.take.proofs.Ups.{other_entry, down_own, live_own, up_gone, up_less}
use Rattle.take.proofs.below.+take_below.Goals as goal

-- the page of an entry is a page of the tree
pub returns-in_err-bytes-clause-lawful : goal.returns-in_err-bytes-clause-lawful
returns-in_err-bytes-clause-lawful g μ c ps t w =
    let k = g.K.PointKind.kind in
    let s = g.met.K.PointKind.sound in
    absurd (c.in_err-bytes.ensures.shown t (below_there k s _ ps c.args.at c.args.above t w) (reads k s _ ps c.args.at c.args.above t w _ refl))

-- a data page
pub returns-in_default-clause-lawful : goal.returns-in_default-clause-lawful
returns-in_default-clause-lawful g μ c ps t w =
    let k = g.K.PointKind.kind in
    let s = g.met.K.PointKind.sound in
    let e = c.args.at in
    let bs = c.in_ok-bytes.bytes in
    let r = c.take_here.result in
    let after = g.S.PageStore.pages c.take_here.new.store in
    data_case k s _ ps e c.args.above t w bs c.in_ok-bytes.ensures.reads.1 (λ u. TakeEnd k (g.S.PageStore.pages c.args.store.now) ps c.args.p.now u r after) (subst (NodeRead k bs) c.in_default.is c.in_ok-bytes.ensures.reads.2)
    (λ rd. subst (λ (a : Card). TakeEnd k a ps c.args.p.now (data_at e.page ps) r after) c.load_node.ensures.keeps (c.take_here.ensures.lawful ps rd))

-- the depth rises
pub returns-then-fork-above-clause-lawful : goal.returns-then-fork-above-clause-lawful
returns-then-fork-above-clause-lawful g μ c ps t w =
    let k = g.K.PointKind.kind in
    let s = g.met.K.PointKind.sound in
    let e = c.args.at in
    let bs = c.in_ok-bytes.bytes in
    let x = c.in-Directory.fork in
    let dir = subst (NodeRead k bs) c.in-Directory.is c.in_ok-bytes.ensures.reads.2 in
    absurd (below_deep k s _ ps e c.args.above t w bs c.in_ok-bytes.ensures.reads.1 x dir c.requires.short c.if-fork-above.true)

-- a point that does not share the first bits
pub returns-then-depth-fork-clause-lawful : goal.returns-then-depth-fork-clause-lawful
returns-then-depth-fork-clause-lawful g μ c ps t w =
    let k = g.K.PointKind.kind in
    let s = g.met.K.PointKind.sound in
    let e = c.args.at in
    let bs = c.in_ok-bytes.bytes in
    let x = c.in-Directory.fork in
    let dir = subst (NodeRead k bs) c.in-Directory.is c.in_ok-bytes.ensures.reads.2 in
    (below_absent k s _ ps e c.args.above t w bs c.in_ok-bytes.ensures.reads.1 x dir c.args.p.now c.requires.on c.requires.low_on c.depth.result c.depth.ensures.zeros c.if-depth-fork.true, refl)

-- both halves are data pages
pub returns-then-at-CAPACITY-clause-lawful : goal.returns-then-at-CAPACITY-clause-lawful
returns-then-at-CAPACITY-clause-lawful g μ c ps t w =
    let k = g.K.PointKind.kind in
    let s = g.met.K.PointKind.sound in
    let e = c.args.at in
    let bs = c.in_ok-bytes.bytes in
    let x = c.in-Directory.fork in
    let dir = subst (NodeRead k bs) c.in-Directory.is c.in_ok-bytes.ensures.reads.2 in
    let n = reached_count k s _ ps (summary k e) c.args.above t w.reached in
    forked_end k s _ _ c.load_node.ensures.keeps ps e c.args.above t w bs c.in_ok-bytes.ensures.reads.1 x dir c.bit-side.result c.args.p.now c.requires.on c.requires.low_on c.depth.result c.depth.ensures.zeros c.if-depth-fork.false c.bit-side.ensures c.take_pair.result (g.S.PageStore.pages c.take_pair.new.store)
    (λ q l h d. c.take_pair.ensures.lawful ps c.args.above q l h d (omega (arith, n, c.CAPACITY.ensures, g.met.K.PointKind.constants.1, c.if-at-CAPACITY.true)))

-- refused below
pub returns-in_err-leaf-clause-lawful : goal.returns-in_err-leaf-clause-lawful
returns-in_err-leaf-clause-lawful g μ c ps t w =
    let k = g.K.PointKind.kind in
    let s = g.met.K.PointKind.sound in
    let e = c.args.at in
    let bs = c.in_ok-bytes.bytes in
    let x = c.in-Directory.fork in
    let dir = subst (NodeRead k bs) c.in-Directory.is c.in_ok-bytes.ensures.reads.2 in
    let exit = err_from_is_err_and c.from_residual-in_err-leaf.result c.from_residual-in_err-leaf.ensures.1 in
    rw (exit.1, exit.2)
    (forked_end k s _ _ c.load_node.ensures.keeps ps e c.args.above t w bs c.in_ok-bytes.ensures.reads.1 x dir c.bit-side.result c.args.p.now c.requires.on c.requires.low_on c.depth.result c.depth.ensures.zeros c.if-depth-fork.false c.bit-side.ensures (Err c.in_err-leaf.field-0.0) (g.S.PageStore.pages c.take_below.new.store)
    (λ q l h d.
    let no = c.in_err-leaf.ensures.lawful _ _ (down_own k s _ ps e c.args.above x c.bit-side.result c.args.p.now q l h d _ c.sides-own.ensures.own) in
    (sym (live_own k s _ ps e c.args.above x c.bit-side.result c.args.p.now q l h d) ∙ no.0, no.1)))

-- the half is gone
pub returns-in-Gone-clause-lawful : goal.returns-in-Gone-clause-lawful
returns-in-Gone-clause-lawful g μ c ps t w =
    let k = g.K.PointKind.kind in
    let s = g.met.K.PointKind.sound in
    let e = c.args.at in
    let bs = c.in_ok-bytes.bytes in
    let x = c.in-Directory.fork in
    let dir = subst (NodeRead k bs) c.in-Directory.is c.in_ok-bytes.ensures.reads.2 in
    let b = c.bit-side.result in
    let p = c.args.p.now in
    let other = c.sides-own.result.1 in
    let mid = g.S.PageStore.pages c.take_below.new.store in
    forked_end k s _ _ c.load_node.ensures.keeps ps e c.args.above t w bs c.in_ok-bytes.ensures.reads.1 x dir c.bit-side.result c.args.p.now c.requires.on c.requires.low_on c.depth.result c.depth.ensures.zeros c.if-depth-fork.false c.bit-side.ensures (Ok (Left other (Some (record { fork = e.page; leaf = c.in-Gone.leaf })))) mid
    (λ q l h d.
    let n = half (code_of k) (wide k) x.depth b ps in
    up_gone k s _ ps e c.args.above x b p q l h d c.in-Gone.leaf mid other (other_entry k s _ ps e c.args.above x b p q l h d other c.sides-own.ensures.other)
    (subst (λ u. Shrunk k (g.S.PageStore.pages c.load_node.new.store) n p (chosen b l h) u mid) c.in-Gone.is (c.in_ok-leaf.ensures.lawful n (chosen b l h) (down_own k s _ ps e c.args.above x b p q l h d _ c.sides-own.ensures.own))))

-- both halves stay
pub returns-in-Left-clause-lawful : goal.returns-in-Left-clause-lawful
returns-in-Left-clause-lawful g μ c ps t w =
    let k = g.K.PointKind.kind in
    let s = g.met.K.PointKind.sound in
    let e = c.args.at in
    let bs = c.in_ok-bytes.bytes in
    let x = c.in-Directory.fork in
    let dir = subst (NodeRead k bs) c.in-Directory.is c.in_ok-bytes.ensures.reads.2 in
    let b = c.bit-side.result in
    let p = c.args.p.now in
    let el = c.in-Left.half in
    let mid = g.S.PageStore.pages c.take_below.new.store in
    let y = c.fork_of-next.result in
    let other = c.sides-own.ensures.other in
    let low = c.fork_of-next.ensures.low ∙ ap (chosen b el) other ∙ chosen_first b el x.high x.low in
    let high = c.fork_of-next.ensures.high ∙ ap (λ z. chosen b z el) other ∙ chosen_second b el x.high x.low in
    let written = written_as c.put_page.ensures refl c.from.ensures (c.directory_page-written.ensures ∙ ap (λ i. encode k (directory_view i (summary k y.low) (summary k y.high))) c.fork_of-next.ensures.depth) in
    forked_end k s _ _ c.load_node.ensures.keeps ps e c.args.above t w bs c.in_ok-bytes.ensures.reads.1 x dir c.bit-side.result c.args.p.now c.requires.on c.requires.low_on c.depth.result c.depth.ensures.zeros c.if-depth-fork.false c.bit-side.ensures (Ok (Left c.narrowed.result c.in-Left.freed)) (g.S.PageStore.pages c.put_page.new.store)
    (λ q l h d.
    let n = half (code_of k) (wide k) x.depth b ps in
    up_less k s _ ps e c.args.above x b p q l h d el c.narrowed.result c.in-Left.freed mid _ y low high c.narrowed.ensures (omega (arith, c.CAPACITY.ensures, g.met.K.PointKind.constants.1, c.if-at-CAPACITY.false)) written
    (subst (λ u. Shrunk k (g.S.PageStore.pages c.load_node.new.store) n p (chosen b l h) u mid) c.in-Left.is (c.in_ok-leaf.ensures.lawful n (chosen b l h) (down_own k s _ ps e c.args.above x b p q l h d _ c.sides-own.ensures.own))))
