use Rattle.page.proofs.Views.{one_view_law}
use Rattle.page.proofs.Forms.{long_law, byte_law, back_law, forth_law}
use Rattle.page.proofs.laws.forms_stand.Goals as goal

pub returns : goal.returns
returns g c =
    let k = g.K.PointKind.kind in
    let laws = g.met.K.PointKind.sound in
    record { one = one_view_law _; long = long_law k laws; byte = byte_law k laws; back = back_law k laws; forth = forth_law k laws }
