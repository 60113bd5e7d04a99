use Rattle.std.proofs.Common.{◌≡◌, length, sym, ap, ◌∙◌, arith}
use Rattle.kinds.specs.Kind.{size_of, bytes_of}
use Rattle.page.proofs.Writing.{part_long}
use Rattle.outlines.proofs.Writes.{wrote_part}
use Rattle.outlines.proofs.record.put_point.Goals as goal

pub returns : goal.returns
returns g c =
    let k = g.K.PointKind.kind in
    let s = c.SIZE.ensures ∙ g.met.K.PointKind.constants.2 in
    let l : length (bytes_of k c.args.point.now) ≡ size_of k = ap length (sym c.write.ensures) ∙ c.write.auto.out ∙ part_long c.args.at c.SIZE.result c.args.buffer.now (omega (arith, c.requires)) ∙ s in
    record {
      wrote = wrote_part c.args.at _ c.args.buffer.now _ (bytes_of k c.args.point.now) (omega arith) c.write.ensures (omega (arith, c.requires));
      long = l;
    }
