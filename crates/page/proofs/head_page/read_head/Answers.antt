use Rattle.std.proofs.Common.{[], ◌∷◌, sym, subst, ◌∙◌}
use Rattle.page.specs.Checks.{Checked, HeadRead}
use Rattle.page.proofs.Faults.{field_or}
use Rattle.page.proofs.head_page.read_head.Goals as goal

pub returns : goal.returns
returns g c =
    let k = g.K.PointKind.kind in
    let bs = c.args.bytes.now in
    subst (Checked k c.args.page (k.head_kind ∷ []) bs _) (sym c.ok_or.ensures.value) (field_or k c.args.page k.head_kind bs (HeadRead k bs) (c.if-bytes-HEAD_PAGE.false ∙ c.HEAD_PAGE.ensures ∙ g.met.K.PointKind.constants.5) (λ r. r) c.head_fields.result c.head_fields.ensures)
