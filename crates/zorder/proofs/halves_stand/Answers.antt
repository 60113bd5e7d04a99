use Rattle.zorder.proofs.Corners.{apart_law}
use Rattle.zorder.proofs.Halving.{halves_law, join_law}
use Rattle.zorder.proofs.halves_stand.Goals as goal

pub returns : goal.returns
returns c = record { halves = halves_law; join = join_law; apart = apart_law }
