use Rattle.std.proofs.Common.{arith}
use Rattle.page.proofs.Writing.{adds_part}
use Rattle.page.proofs.encode.put_bytes.Goals as goal

pub returns : goal.returns
returns c = adds_part c.args.at _ c.args.page.now _ c.args.bytes.now (omega arith) c.copy_from_slice.ensures.after (omega (arith, c.requires))
