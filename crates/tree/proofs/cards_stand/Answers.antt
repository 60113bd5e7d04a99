use Rattle.tree.proofs.Laws.{way_law, short_way_law, one_set_law, whole_card_law}
use Rattle.tree.proofs.cards_stand.Goals as goal

pub returns : goal.returns
returns g c = record { way = way_law g.row.P.Denot; short = short_way_law g.row.P.Denot; one = one_set_law g.row.P.Denot; whole = whole_card_law g.row.P.Denot }
