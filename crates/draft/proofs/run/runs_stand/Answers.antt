use Rattle.draft.proofs.Mills.{kept_law, gone_law, same_tree_law}
use Rattle.draft.proofs.run.runs_stand.Goals as goal

pub returns : goal.returns
returns g c = record { kept = kept_law g.row.P.Denot; gone = gone_law g.row.P.Denot; same = same_tree_law g.row.P.Denot }
