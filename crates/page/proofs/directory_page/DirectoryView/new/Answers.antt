use Rattle.std.proofs.Common.{[], ◌∷◌, rules}
use Rattle.page.proofs.Faults.{field_none}
use Rattle.page.proofs.directory_page.DirectoryView.new.Goals as goal

pub returns-in_err-_fork : goal.returns-in_err-_fork
returns-in_err-_fork g c =
    let k = g.K.PointKind.kind in
    field_none k c.args.page (k.directory_kind ∷ []) c.args.bytes.now _ (search rules) (rw c.in_err-_fork.ensures.ok_part at c.directory_fields.ensures) c.directory_fields.result c.in_err-_fork.ensures.ok_part c.in_err-_fork.field-0.0 c.in_err-_fork.ensures.value c.from_residual.result (search rules)
