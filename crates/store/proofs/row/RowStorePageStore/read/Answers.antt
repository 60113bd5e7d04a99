use Rattle.std.proofs.Common.{rules}
use Rattle.store.proofs.Rows.{length_rows, get_d_rows}
use Rattle.store.proofs.row.RowStorePageStore.read.Goals as goal

pub overflow_mul-at : goal.overflow_mul-at
overflow_mul-at c = search (rules, length_rows)

pub overflow_add-end : goal.overflow_add-end
overflow_add-end c = search (rules, length_rows)

pub slice_bounds-copy_from_slice-end : goal.slice_bounds-copy_from_slice-end
slice_bounds-copy_from_slice-end c = search (rules, length_rows)

pub returns : goal.returns
returns c = search (rules, length_rows, get_d_rows)
