use Rattle.tree.proofs.Laws.{one_tree_law, points_law, page_law, count_law, depth_law, set_law}
use Rattle.tree.proofs.trees_stand.Goals as goal

pub returns : goal.returns
returns g c = record { one = one_tree_law g.row.P.Denot; points = points_law g.row.P.Denot; pages = page_law g.row.P.Denot; count = count_law g.row.P.Denot; depth = depth_law g.row.P.Denot; sets = set_law g.row.P.Denot }
