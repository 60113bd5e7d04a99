use Rattle.std.proofs.Common.{arith}
use Rattle.std.proofs.lemmas.Int.{ints}
use Rattle.kinds.proofs.Byteform.{spelled, complement_16}
use Rattle.kinds.proofs.lay.LayPointPointKind.read.Goals as goal

pub returns-then-on_axes : goal.returns-then-on_axes
returns-then-on_axes c =
    let f = spelled 4 c.args.bytes.now c.requires in
    record { back = λ p on e. grind (arith, ints, complement_16); only = (c.if-on_axes.ensures, grind (arith, ints, complement_16, f)) }
