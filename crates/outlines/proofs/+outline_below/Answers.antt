use Rattle.std.proofs.Common.{◌≤◌, ◌++◌, length, Ok, refl, ap, ◌∙◌, subst, arith, length-append}
use Rattle.page.specs.Checks.{NodeRead, summary}
use Rattle.tree.specs.Book.{outline}
use Rattle.tree.specs.Laid.{shape}
use Rattle.access.proofs.Reaching.{reached_there, reached_reads, reached_on, leafed, forked, forked_deep, forked_short, forked_low, forked_high}
use Rattle.outlines.specs.declared.record.Sort.TheVariants.{Directory}
use Rattle.outlines.specs.Records.{Wrote, record_of}
use Rattle.outlines.proofs.Parts.{outline_some, leaf_outline, fork_outline}
use Rattle.outlines.proofs.Writes.{wrote_past, wrote_then}
use Rattle.outlines.proofs.Ending.{never_err, ok_is, both_ok}
use Rattle.outlines.proofs.+outline_below.Goals as goal

-- there is room for a record
pub returns-then-next-end : goal.returns-then-next-end
returns-then-next-end g t c =
    let k = g.K.PointKind.kind in
    let s = g.met.K.PointKind.sound in
    record {
      lawful = λ ps u r short fits.
          let a = outline_some k s _ ps (summary k c.args.entry) c.args.above u r in
          absurd (omega (arith, c.if-next-end.true, c.entry_size.ensures));
      always = refl;
      keeps = refl;
    }

-- the page is a page of the tree
pub returns-in_err-_bytes-clause-lawful : goal.returns-in_err-_bytes-clause-lawful
returns-in_err-_bytes-clause-lawful g t c ps u r short fits =
    let k = g.K.PointKind.kind in
    let s = g.met.K.PointKind.sound in
    let e = summary k c.args.entry in
    absurd (c.in_err-_bytes.ensures.shown u (reached_there k s _ ps e c.args.above u r) (reached_reads k s _ ps e c.args.above u r _ refl))

-- a data page: its record
pub returns-in_default : goal.returns-in_default
returns-in_default g t c =
    let k = g.K.PointKind.kind in
    let s = g.met.K.PointKind.sound in
    let card = g.S.PageStore.pages c.args.store.now in
    let e = summary k c.args.entry in
    let bytes = c.in_ok-_bytes._bytes in
    let size = c.entry_size.ensures in
    let long = c.put_record.ensures.long in
    record {
      lawful = λ ps u r short fits.
          let rd = reached_reads k s card ps e c.args.above u r bytes c.in_ok-_bytes.ensures.reads.1 in
          let f = leafed k s card u bytes rd (subst (NodeRead k bytes) c.in_default.is c.in_ok-_bytes.ensures.reads.2) in
          let is = leaf_outline k s card ps e c.args.above u r f.q f.xs f.is in
          (ap Ok (let n = ap length is in omega arith), subst (λ x. Wrote c.args.buffer.now c.args.at x c.put_record.new.buffer) is c.put_record.ensures.wrote);
      always = (omega (arith, c.if-next-end.false), wrote_past _ _ _ c.args.at c.put_record.ensures.wrote c.args.end (omega (arith, c.if-next-end.false)));
      keeps = c.load_node.ensures.keeps;
    }

-- the depth rises
pub returns-then-fork-above : goal.returns-then-fork-above
returns-then-fork-above g t c =
    let k = g.K.PointKind.kind in
    let s = g.met.K.PointKind.sound in
    let card = g.S.PageStore.pages c.args.store.now in
    let e = summary k c.args.entry in
    let bytes = c.in_ok-_bytes._bytes in
    let x = c.in-Directory.fork in
    record {
      lawful = λ ps u r short fits.
          let rd = reached_reads k s card ps e c.args.above u r bytes c.in_ok-_bytes.ensures.reads.1 in
          let f = forked k s card u bytes x.depth (summary k x.low) (summary k x.high) rd (subst (NodeRead k bytes) c.in-Directory.is c.in_ok-_bytes.ensures.reads.2) in
          let le : c.args.above ≤ x.depth = forked_deep k s card ps e c.args.above u r x.depth (summary k x.low) (summary k x.high) f short in
          absurd (omega (arith, c.if-fork-above.true));
      always = refl;
      keeps = c.load_node.ensures.keeps;
    }

-- the low half is not refused
pub returns-in_err-middle-clause-lawful : goal.returns-in_err-middle-clause-lawful
returns-in_err-middle-clause-lawful g t c ps u r short fits =
    let k = g.K.PointKind.kind in
    let s = g.met.K.PointKind.sound in
    let card = g.S.PageStore.pages c.args.store.now in
    let e = summary k c.args.entry in
    let bytes = c.in_ok-_bytes._bytes in
    let x = c.in-Directory.fork in
    let size = c.entry_size.ensures in
    let long = c.put_record-2.ensures.long in
    let rd = reached_reads k s card ps e c.args.above u r bytes c.in_ok-_bytes.ensures.reads.1 in
    let f = forked k s card u bytes x.depth (summary k x.low) (summary k x.high) rd (subst (NodeRead k bytes) c.in-Directory.is c.in_ok-_bytes.ensures.reads.2) in
    let lo = forked_low k s card ps e c.args.above u r x.depth (summary k x.low) (summary k x.high) f in
    let sh = forked_short k s card ps e c.args.above u r x.depth (summary k x.low) (summary k x.high) f in
    let n = ap length (fork_outline k s card ps e c.args.above u r f.q x.depth f.l f.h f.is) in
    let a = length-append (record_of k Directory e) (outline k (shape f.l) ++ outline k (shape f.h)) in
    let b = length-append (outline k (shape f.l)) (outline k (shape f.h)) in
    never_err (c.in_err-middle.ensures.lawful _ f.l (reached_on k c.load_node.ensures.keeps lo) sh (omega arith)).0

-- both halves
pub returns : goal.returns
returns g t c =
    let k = g.K.PointKind.kind in
    let s = g.met.K.PointKind.sound in
    let card = g.S.PageStore.pages c.args.store.now in
    let e = summary k c.args.entry in
    let bytes = c.in_ok-_bytes._bytes in
    let x = c.in-Directory.fork in
    let size = c.entry_size.ensures in
    let long = c.put_record-2.ensures.long in
    let kept = c.outline_below.ensures.keeps ∙ c.load_node.ensures.keeps in
    record {
      lawful = λ ps u r short fits.
          let rd = reached_reads k s card ps e c.args.above u r bytes c.in_ok-_bytes.ensures.reads.1 in
          let f = forked k s card u bytes x.depth (summary k x.low) (summary k x.high) rd (subst (NodeRead k bytes) c.in-Directory.is c.in_ok-_bytes.ensures.reads.2) in
          let lo = forked_low k s card ps e c.args.above u r x.depth (summary k x.low) (summary k x.high) f in
          let hi = forked_high k s card ps e c.args.above u r x.depth (summary k x.low) (summary k x.high) f in
          let sh = forked_short k s card ps e c.args.above u r x.depth (summary k x.low) (summary k x.high) f in
          let is = fork_outline k s card ps e c.args.above u r f.q x.depth f.l f.h f.is in
          let n = ap length is in
          let a = length-append (record_of k Directory e) (outline k (shape f.l) ++ outline k (shape f.h)) in
          let b = length-append (outline k (shape f.l)) (outline k (shape f.h)) in
          let one = c.in_ok-middle.ensures.lawful _ f.l (reached_on k c.load_node.ensures.keeps lo) sh (omega arith) in
          let m = ok_is one.0 in
          let two = c.outline_below-2.ensures.lawful _ f.h (reached_on k kept hi) sh (omega arith) in
          let halves = wrote_then _ (outline k (shape f.l)) _ _ one.1 c.in_ok-middle.middle (outline k (shape f.h)) _ (omega arith) two.1 in
          let all = wrote_then _ (record_of k Directory e) _ c.args.at c.put_record-2.ensures.wrote _ (outline k (shape f.l) ++ outline k (shape f.h)) _ (omega arith) halves in
          (two.0 ∙ ap Ok (omega arith), subst (λ y. Wrote c.args.buffer.now c.args.at y c.outline_below-2.new.buffer) is all);
      always = both_ok c.outline_below-2.result c.args.end c.args.buffer.now c.outline_below.new.buffer c.outline_below-2.new.buffer (c.in_ok-middle.ensures.always.1 ∙ wrote_past _ _ _ c.args.at c.put_record-2.ensures.wrote c.args.end (omega (arith, c.if-next-end.false))) c.outline_below-2.ensures.always;
      keeps = c.outline_below-2.ensures.keeps ∙ kept;
    }
