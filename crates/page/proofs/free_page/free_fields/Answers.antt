use Rattle.std.proofs.Common.{length, replicate, sym, refl, ap, ◌∙◌, arith}
use Rattle.page.specs.Causes.{free_cause}
use Rattle.page.proofs.Ends.{cut_rest, free_reads}
use Rattle.page.proofs.Faults.{not_zero_from, refused}
use Rattle.page.proofs.free_page.free_fields.Goals as goal

pub returns-then-not-zeros : goal.returns-then-not-zeros
returns-then-not-zeros g c =
    let bs = c.args.bytes.now in
    refused g.K.PointKind.kind g.met.K.PointKind.sound bs (free_cause c.requires (not_zero_from 64 3 3 bs c.told-bytes c.if-not-zeros.ensures refl))

pub returns : goal.returns
returns g c =
    let bs = c.args.bytes.now in
    let t = c.fits-bytes in
    (free_reads g.K.PointKind.kind bs c.from_le_bytes.result c.told-bytes (λ i. let h = t i in omega arith) c.requires c.from_le_bytes.ensures
    (sym (cut_rest bs 64 3 c.told-bytes) ∙ c.if-not-zeros.ensures ∙ ap (λ x. replicate (length x) 0) (cut_rest bs 64 3 c.told-bytes)))
