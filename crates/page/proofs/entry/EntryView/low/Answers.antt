use Rattle.std.proofs.Common.{◌∙◌, take, drop}
use Rattle.kinds.specs.Kind.{size_of}
use Rattle.page.proofs.Parts.{low_part, point_read, parts, corner_is}
use Rattle.page.proofs.entry.EntryView.low.Goals as goal

pub returns : goal.returns
returns g c =
    let k = g.K.PointKind.kind in
    let bs = c.args.self.now.bytes.now in
    let reads = point_read k g.met.K.PointKind.sound _ (take (size_of k) (drop 6 bs)) c.read.result (low_part bs c.SIZE-end.result (size_of k) (c.SIZE-end.ensures ∙ g.met.K.PointKind.constants.2)) c.read.ensures.back c.read.ensures.only in
    record { reads = reads; entry = λ e t. corner_is k g.met.K.PointKind.sound e.low (take (size_of k) (drop 6 bs)) c.read.result reads t.0.low_on (parts k bs e t.0 t.2).0 }
