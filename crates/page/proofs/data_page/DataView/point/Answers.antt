use Rattle.std.proofs.Common.{◌<◌, length, refl, arith}
use Rattle.page.proofs.Scans.{place_read}
use Rattle.page.proofs.data_page.DataView.point.Goals.{then-place-count-via-then-place-count, then-place-count-via-else-place-count+then-place-CAPACITY}
use Rattle.page.proofs.data_page.DataView.point.Goals as goal

pub returns-then-place-count : goal.returns-then-place-count
returns-then-place-count g c ps r =
    let f = r.fields.fit in
    let q = c.count.ensures ps r in
    elim c.then-place-count.branch [
      | then-place-count-via-then-place-count w ↦ omega (arith, q, w.if-place-count.true)
      | then-place-count-via-else-place-count+then-place-CAPACITY w ↦ omega (arith, f, w.if-place-CAPACITY.true, w.CAPACITY.ensures, g.met.K.PointKind.constants.1)
    ]

pub returns : goal.returns
returns g c ps r =
    let k = g.K.PointKind.kind in
    let bs = c.args.self.now.bytes.now in
    let q = c.count.ensures ps r in
    let lt : c.args.place < length ps = omega (arith, q, c.if-place-count.false) in
    place_read k g.met.K.PointKind.sound bs ps c.args.place _ c.point_at.result r lt refl c.point_at.ensures
