use Rattle.std.proofs.Common.{[], ◌∷◌, sym, subst}
use Rattle.page.specs.Checks.{Checked, FreeRead}
use Rattle.page.proofs.Faults.{field_or}
use Rattle.page.proofs.free_page.next_free.Goals as goal

pub returns : goal.returns
returns g c =
    let k = g.K.PointKind.kind in
    let bs = c.args.bytes.now in
    subst (Checked k c.args.page (0 ∷ []) bs _) (sym c.ok_or.ensures.value) (field_or k c.args.page 0 bs (FreeRead k bs) (c.if-bytes-ne0.false) (λ r. r) c.free_fields.result c.free_fields.ensures)
