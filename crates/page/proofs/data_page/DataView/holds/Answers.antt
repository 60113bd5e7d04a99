use Rattle.std.proofs.Common.{◌<◌, ◌+◌, [], length, get_or, drop, refl, ap, subst, ◌∙◌, arith}
use Rattle.kinds.specs.Kind.{size_of}
use Rattle.page.specs.Checks.{PointRead}
use Rattle.page.proofs.Parts.{point_read}
use Rattle.page.proofs.Scans.{read_is, some_read}
use Rattle.page.proofs.Finds.{stops, none, goes_on}
use Rattle.page.proofs.data_page.Chunks.{part_is, some_size, all_left, all_came}
use Rattle.page.proofs.data_page.DataView.holds.Goals as goal

pub chunks_exact-requires : goal.chunks_exact-requires
chunks_exact-requires g c = omega (arith, c.SIZE.ensures, g.met.K.PointKind.constants.2, some_size g.K.PointKind.kind g.met.K.PointKind.sound)

pub loop-part-init : goal.loop-part-init
loop-part-init g c =
    let k = g.K.PointKind.kind in
    let laws = g.met.K.PointKind.sound in
    let same = c.into_iter-part-iterator.ensures.into_iter_gives in
    let source = ap (λ t. t.iter) same ∙ c.take-part-items.ensures.source in
    let wide = ap (λ t. t.size) source ∙ c.chunks_exact.ensures.size ∙ c.SIZE.ensures ∙ g.met.K.PointKind.constants.2 in
    (omega (arith, wide, some_size k laws), tt, wide, λ ps r. (0, omega (arith, ap (λ t. t.n) same, c.take-part-items.ensures.count), ap (λ t. t.rest.now) source ∙ c.chunks_exact.ensures.rest ∙ all_left k laws _ ps r, tt))

pub read-requires : goal.read-requires
read-requires g c = c.in-Some.ensures.steps.0.1.1 ∙ c.loop-part.invariant.2

pub returns-in_default : goal.returns-in_default
returns-in_default g c ps r =
    let k = g.K.PointKind.kind in
    let laws = g.met.K.PointKind.sound in
    let bs = c.args.self.now.bytes.now in
    let q = c.count-count.ensures ps r in
    let w = c.in-Some.ensures.steps in
    let (i, e, at, below) = c.loop-part.invariant.3 ps r in
    let lt : i < length ps = omega (arith, q, e, w.1) in
    let x = part_is (drop 2 bs) i (size_of k) _ _ _ at w.0.1.0 (w.0.1.1 ∙ c.loop-part.invariant.2) in
    let s = some_read k bs ps i _ r lt x.0 in
    absurd (subst (PointRead k c.in-Some.part.now) c.in_default.is (point_read k laws _ _ c.read.result refl c.read.ensures.back c.read.ensures.only) (get_or ps i []) s.0 s.1)

pub returns-then-code-sought : goal.returns-then-code-sought
returns-then-code-sought g c ps r rising =
    let k = g.K.PointKind.kind in
    let laws = g.met.K.PointKind.sound in
    let bs = c.args.self.now.bytes.now in
    let q = c.count-count.ensures ps r in
    let w = c.in-Some.ensures.steps in
    let (i, e, at, below) = c.loop-part.invariant.3 ps r in
    let lt : i < length ps = omega (arith, q, e, w.1) in
    let x = part_is (drop 2 bs) i (size_of k) _ _ _ at w.0.1.0 (w.0.1.1 ∙ c.loop-part.invariant.2) in
    let o = c.in-Some-read.ensures.only in
    let p = k.coords c.in-Some-read.point in
    let here = read_is k laws bs ps i p _ r lt o.0 o.1 x.0 in
    stops k laws ps i c.code-code.result c.code-sought.result (k.coords c.args.p.now) p lt below here c.code-code.ensures c.code-sought.ensures c.requires o.0 c.if-code-sought.true rising

pub loop-part-preserved : goal.loop-part-preserved
loop-part-preserved g c =
    let k = g.K.PointKind.kind in
    let laws = g.met.K.PointKind.sound in
    let bs = c.args.self.now.bytes.now in
    let w = c.in-Some.ensures.steps in
    let wide = w.0.0 ∙ c.loop-part.invariant.2 in (
      omega (arith, wide, some_size k laws),
      tt,
      wide,
      λ ps r.
          let q = c.count-count.ensures ps r in
          let (i, e, at, below) = c.loop-part.invariant.3 ps r in
          let lt : i < length ps = omega (arith, q, e, w.1) in
          let x = part_is (drop 2 bs) i (size_of k) _ _ _ at w.0.1.0 (w.0.1.1 ∙ c.loop-part.invariant.2) in
          let o = c.in-Some-read.ensures.only in
          let p = k.coords c.in-Some-read.point in
          let here = read_is k laws bs ps i p _ r lt o.0 o.1 x.0 in
          (i + 1, omega (arith, e, w.1), x.1, goes_on k laws ps i c.code-code.result c.code-sought.result p lt below here c.code-code.ensures c.if-code-sought.false),
    )

pub returns : goal.returns
returns g c ps r rising =
    let k = g.K.PointKind.kind in
    let laws = g.met.K.PointKind.sound in
    let q = c.count-count.ensures ps r in
    let (i, e, at, below) = c.loop-part.invariant.3 ps r in
    let past = all_came k laws _ ps r i c.loop-part.part-iterator.n c.loop-part.part-iterator.iter.size _ at (e ∙ q) c.loop-part.invariant.2 (λ h. (c.in-None.ensures.steps h).1.0) in
    none k laws ps i c.code-sought.result (k.coords c.args.p.now) past below c.code-sought.ensures
