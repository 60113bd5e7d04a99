use Rattle.page.proofs.Faults.{causes_law, entry_wrong}
use Rattle.page.proofs.laws.causes_stand.Goals as goal

pub returns : goal.returns
returns g c =
    let k = g.K.PointKind.kind in
    let laws = g.met.K.PointKind.sound in
    record { page = causes_law k laws; entry = entry_wrong k laws }
