use Rattle.std.proofs.Common.{vec_items, rules}
use Rattle.store.proofs.Rows.{length_rows, whole_rows}
use Rattle.store.proofs.row.RowStorePageStore.count.Goals as goal

pub returns : goal.returns
returns c = record {
  gives = search (rules, length_rows);
  whole = whole_rows (vec_items c.args.self.now.bytes);
}
