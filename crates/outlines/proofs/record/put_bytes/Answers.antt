use Rattle.std.proofs.Common.{arith}
use Rattle.outlines.proofs.Writes.{wrote_part}
use Rattle.outlines.proofs.record.put_bytes.Goals as goal

pub returns : goal.returns
returns c = wrote_part c.args.at _ c.args.buffer.now _ c.args.bytes.now (omega arith) c.copy_from_slice.ensures.after (omega (arith, c.requires))
