use Rattle.std.proofs.Common.{arith}
use Rattle.page.proofs.Parts.{four_at}
use Rattle.page.proofs.numbers.four_bytes.Goals as goal

pub returns : goal.returns
returns c =
    let t = c.type_inv.bytes in
    record { form = four_at c.args.at c.from_le_bytes.result c.args.bytes.now c.requires (λ i. let h = t i in omega arith) c.from_le_bytes.ensures; fits = c.from_le_bytes.type_inv }
