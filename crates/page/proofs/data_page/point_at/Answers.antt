use Rattle.std.proofs.Common.{◌∙◌, ◌+◌, ◌*◌, take, drop, refl, arith}
use Rattle.kinds.specs.Kind.{size_of}
use Rattle.page.proofs.Runs.{within_page, cut}
use Rattle.page.proofs.Parts.{point_read}
use Rattle.page.proofs.data_page.point_at.Goals as goal

pub slice_bounds-read-end : goal.slice_bounds-read-end
slice_bounds-read-end g c =
    let k = g.K.PointKind.kind in
    let fit = g.met.K.PointKind.sound.data_fits in
    let w = within_page c.args.place k.capacity k.capacity (size_of k) c.SIZE-size.result c.requires (omega arith) (c.SIZE-size.ensures ∙ g.met.K.PointKind.constants.2) (omega arith) in
    omega (arith, w)

pub returns : goal.returns
returns g c =
    let k = g.K.PointKind.kind in
    let bs = c.args.bytes.now in
    point_read k g.met.K.PointKind.sound _ (take (size_of k) (drop (c.args.place * size_of k) (drop 2 bs))) c.read.result
    (cut bs (2 + c.args.place * c.SIZE-size.result) c.args.place c.SIZE-size.result (size_of k) (c.SIZE-size.ensures ∙ g.met.K.PointKind.constants.2) refl) c.read.ensures.back c.read.ensures.only
