use Rattle.std.proofs.Common.{◌+◌, ◌*◌, ◌/◌, ◌<◌, ◌≤◌, ◌++◌, length, take, drop, vec_items, vec_len, sym, refl, ap, ◌∙◌, arith, rules}
use Rattle.store.specs.Rows.{row_pages, left_over}
use Rattle.store.proofs.Rows.{length_rows, rewritten, row_set, row_rest}
use Rattle.store.proofs.row.RowStorePageStore.write.Goals as goal

pub overflow_mul-at : goal.overflow_mul-at
overflow_mul-at c = search (rules, length_rows)

pub overwrite-requires : goal.overwrite-requires
overwrite-requires c = let lb = c.in_ok-admit.ensures.gives.1 in search (rules, length_rows)

pub returns : goal.returns
returns c =
    let xs = vec_items c.args.self.now.bytes in
    let its = c.args.self.now.bytes.items in
    let n = vec_len c.args.self.now.bytes in
    let b = c.args.buf.now in
    let p = c.args.page in
    let lb = c.in_ok-admit.ensures.gives.1 in
    let h : p < length xs / 64 = search (rules, length_rows) in
    let fit : p < length (row_pages xs) = search (rules, length_rows) in
    let room : 64 * p + 64 ≤ n = omega arith in
    let w = ap (λ zs. take n (zs ++ drop (length zs) its)) c.overwrite.ensures.gives
    ∙ rewritten 64 p n (length b) its xs _ b b (sym c.args.self.now.bytes.ok.0) lb c.deref_mut.ensures.value refl room lb in
    record {
      gives = (fit, lb, ap row_pages w ∙ row_set xs b p h lb);
      rest = ap left_over w ∙ row_rest xs b p h lb;
    }
