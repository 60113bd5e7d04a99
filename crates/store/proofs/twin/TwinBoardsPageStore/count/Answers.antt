use Rattle.std.proofs.Common.{vec_items, rules}
use Rattle.store.proofs.Twins.{length_twins, whole_twins}
use Rattle.store.proofs.twin.TwinBoardsPageStore.count.Goals as goal

pub returns : goal.returns
returns c = record {
  gives = search (rules, length_twins);
  whole = whole_twins (vec_items c.args.self.now.even) (vec_items c.args.self.now.odd);
}
