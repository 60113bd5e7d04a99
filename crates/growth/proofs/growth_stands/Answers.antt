use Rattle.growth.proofs.Laws.{put_law, take_law}
use Rattle.growth.proofs.growth_stands.Goals as goal

pub returns : goal.returns
returns g c = record { put = put_law g.row.P.Denot; take = take_law g.row.P.Denot }
