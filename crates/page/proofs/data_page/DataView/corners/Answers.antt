use Rattle.std.proofs.Common.{◌<◌, ◌+◌, [], length, get_or, drop, sym, refl, ap, subst, ◌∙◌, arith}
use Rattle.kinds.specs.Kind.{size_of}
use Rattle.page.specs.Checks.{PointRead}
use Rattle.page.proofs.Parts.{point_read}
use Rattle.page.proofs.Scans.{read_is, some_read, scan_one, scan_stops, scan_more, scan_end}
use Rattle.page.proofs.data_page.Chunks.{part_is, some_size, all_left, all_came}
use Rattle.page.proofs.data_page.DataView.corners.Goals as goal

pub returns-then-count-CAPACITY : goal.returns-then-count-CAPACITY
returns-then-count-CAPACITY g c ps r = let q = c.count-count.ensures ps r in let m = r.fields.fit in absurd (omega (arith, q, m, c.if-count-CAPACITY.true, c.CAPACITY.ensures, g.met.K.PointKind.constants.1))

pub chunks_exact-parts-requires : goal.chunks_exact-parts-requires
chunks_exact-parts-requires g c = omega (arith, c.SIZE.ensures, g.met.K.PointKind.constants.2, some_size g.K.PointKind.kind g.met.K.PointKind.sound)

pub next-requires : goal.next-requires
next-requires g c =
    let wide = c.chunks_exact-parts.ensures.size ∙ c.SIZE.ensures ∙ g.met.K.PointKind.constants.2 in
    omega (arith, wide, some_size g.K.PointKind.kind g.met.K.PointKind.sound)

pub returns-in_err-next : goal.returns-in_err-next
returns-in_err-next g c ps r =
    let k = g.K.PointKind.kind in
    let laws = g.met.K.PointKind.sound in
    let wide = c.chunks_exact-parts.ensures.size ∙ c.SIZE.ensures ∙ g.met.K.PointKind.constants.2 in
    let at = c.chunks_exact-parts.ensures.rest ∙ all_left k laws _ ps r in
    let past = all_came k laws _ ps r 0 (length ps) c.chunks_exact-parts.result.size _ at (omega arith) wide (λ h. c.in_err-next.ensures.steps.1.0) in
    absurd (omega (arith, past, r.fields.some))

pub read-requires : goal.read-requires
read-requires g c = c.in_ok-next.ensures.steps.1.1 ∙ c.chunks_exact-parts.ensures.size ∙ c.SIZE.ensures ∙ g.met.K.PointKind.constants.2

pub returns-in_err-first : goal.returns-in_err-first
returns-in_err-first g c ps r =
    let k = g.K.PointKind.kind in
    let laws = g.met.K.PointKind.sound in
    let bs = c.args.self.now.bytes.now in
    let w = c.in_ok-next.ensures.steps in
    let wide = c.chunks_exact-parts.ensures.size ∙ c.SIZE.ensures ∙ g.met.K.PointKind.constants.2 in
    let at = c.chunks_exact-parts.ensures.rest ∙ all_left k laws _ ps r in
    let x = part_is (drop 2 bs) 0 (size_of k) _ _ _ at w.1.0 (w.1.1 ∙ wide) in
    let s = some_read k bs ps 0 _ r r.fields.some x.0 in
    absurd (subst (PointRead k c.in_ok-next.field-0.now) c.in_err-first.was (point_read k laws _ _ c.read.result refl c.read.ensures.back c.read.ensures.only) (get_or ps 0 []) s.0 s.1)

pub loop-part-init : goal.loop-part-init
loop-part-init g c =
    let k = g.K.PointKind.kind in
    let laws = g.met.K.PointKind.sound in
    let bs = c.args.self.now.bytes.now in
    let w = c.in_ok-next.ensures.steps in
    let same = c.into_iter-part-iterator.ensures.into_iter_gives in
    let source = c.take-part-items.ensures.source in
    let wide = c.chunks_exact-parts.ensures.size ∙ c.SIZE.ensures ∙ g.met.K.PointKind.constants.2 in
    let still = ap (λ t. t.iter.size) same ∙ ap (λ t. t.size) source ∙ w.0 ∙ wide in (
      omega (arith, still, some_size k laws),
      tt,
      still,
      λ ps r.
          let at = c.chunks_exact-parts.ensures.rest ∙ all_left k laws _ ps r in
          let x = part_is (drop 2 bs) 0 (size_of k) _ _ _ at w.1.0 (w.1.1 ∙ wide) in
          let o = c.in_ok-first.ensures.only in
          let p = k.coords c.in_ok-first.first in
          let some = r.fields.some in (
            1,
            omega (arith, ap (λ t. t.n) same, c.take-part-items.ensures.count, c.saturating_sub.ensures, c.count-count.ensures ps r),
            ap (λ t. t.iter.rest.now) same ∙ ap (λ t. t.rest.now) source ∙ x.1,
            scan_one k ps p c.code-last.result some (read_is k laws bs ps 0 p _ r some o.0 o.1 x.0) c.code-last.ensures,
          ),
    )

pub read-requires-in-loop-part : goal.read-requires-in-loop-part
read-requires-in-loop-part g c = c.in-Some.ensures.steps.0.1.1 ∙ c.loop-part.invariant.2

pub returns-in_err-point : goal.returns-in_err-point
returns-in_err-point g c ps r =
    let k = g.K.PointKind.kind in
    let laws = g.met.K.PointKind.sound in
    let bs = c.args.self.now.bytes.now in
    let w = c.in-Some.ensures.steps in
    let (i, e, at, scan) = c.loop-part.invariant.3 ps r in
    let lt : i < length ps = omega (arith, e, w.1) in
    let x = part_is (drop 2 bs) i (size_of k) _ _ _ at w.0.1.0 (w.0.1.1 ∙ c.loop-part.invariant.2) in
    let s = some_read k bs ps i _ r lt x.0 in
    absurd (subst (PointRead k c.in-Some.part.now) c.in_err-point.was (point_read k laws _ _ c.read-in-loop-part.result refl c.read-in-loop-part.ensures.back c.read-in-loop-part.ensures.only) (get_or ps i []) s.0 s.1)

pub returns-then-code-last : goal.returns-then-code-last
returns-then-code-last g c ps r =
    let k = g.K.PointKind.kind in
    let laws = g.met.K.PointKind.sound in
    let bs = c.args.self.now.bytes.now in
    let w = c.in-Some.ensures.steps in
    let (i, e, at, scan) = c.loop-part.invariant.3 ps r in
    let lt : i < length ps = omega (arith, e, w.1) in
    let x = part_is (drop 2 bs) i (size_of k) _ _ _ at w.0.1.0 (w.0.1.1 ∙ c.loop-part.invariant.2) in
    let o = c.in_ok-point.ensures.only in
    let p = k.coords c.in_ok-point.point in
    let here = read_is k laws bs ps i p _ r lt o.0 o.1 x.0 in
    scan_stops k ps i (k.coords c.loop-part.low) (k.coords c.loop-part.high) p c.loop-part.last c.code-code.result lt here c.code-code.ensures scan (omega (arith, c.if-code-last.true))

pub loop-part-preserved : goal.loop-part-preserved
loop-part-preserved g c =
    let k = g.K.PointKind.kind in
    let laws = g.met.K.PointKind.sound in
    let bs = c.args.self.now.bytes.now in
    let w = c.in-Some.ensures.steps in
    let wide = w.0.0 ∙ c.loop-part.invariant.2 in (
      omega (arith, wide, some_size k laws),
      tt,
      wide,
      λ ps r.
          let (i, e, at, scan) = c.loop-part.invariant.3 ps r in
          let lt : i < length ps = omega (arith, e, w.1) in
          let x = part_is (drop 2 bs) i (size_of k) _ _ _ at w.0.1.0 (w.0.1.1 ∙ c.loop-part.invariant.2) in
          let o = c.in_ok-point.ensures.only in
          let p = k.coords c.in_ok-point.point in
          let here = read_is k laws bs ps i p _ r lt o.0 o.1 x.0 in (
            i + 1,
            omega (arith, e, w.1),
            x.1,
            scan_more k ps i (k.coords c.loop-part.low) (k.coords c.loop-part.high) p c.loop-part.last c.code-code.result lt here c.code-code.ensures scan (omega (arith, c.if-code-last.false)) _ _ c.lower-low.ensures c.upper-high.ensures,
          ),
    )

pub returns : goal.returns
returns g c ps r =
    let k = g.K.PointKind.kind in
    let laws = g.met.K.PointKind.sound in
    let (i, e, at, scan) = c.loop-part.invariant.3 ps r in
    let past = all_came k laws _ ps r i c.loop-part.part-iterator.n c.loop-part.part-iterator.iter.size _ at e c.loop-part.invariant.2 (λ h. (c.in-None.ensures.steps h).1.0) in
    let s = scan_end k ps i (k.coords c.loop-part.low) (k.coords c.loop-part.high) c.loop-part.last past scan in
    (s.2, sym s.0, sym s.1)
