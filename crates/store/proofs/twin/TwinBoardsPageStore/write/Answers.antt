use Rattle.std.proofs.Common.{◌≡◌, ◌+◌, ◌-◌, ◌*◌, ◌/◌, ◌<◌, ◌≤◌, min, length, vec_items, vec_len, sym, refl, arith, rules}
use Rattle.store.specs.Twins.{twin_pages}
use Rattle.store.proofs.Rows.{rewritten}
use Rattle.store.proofs.Twins.{length_twins, twin_written, twin_rest_kept}
use Rattle.store.proofs.twin.TwinBoardsPageStore.write.Goals as goal

pub overflow_mul-at : goal.overflow_mul-at
overflow_mul-at c = search (rules, length_twins)

pub overflow_add-end : goal.overflow_add-end
overflow_add-end c = search (rules, length_twins)

pub slice_bounds-scatter-end : goal.slice_bounds-scatter-end
slice_bounds-scatter-end c = search (rules, length_twins)

pub slice_bounds-scatter-end-2 : goal.slice_bounds-scatter-end-2
slice_bounds-scatter-end-2 c = search (rules, length_twins)

pub returns : goal.returns
returns c =
    let es = vec_items c.args.self.now.even in
    let os = vec_items c.args.self.now.odd in
    let e = c.scatter.new.even in
    let o = c.scatter.new.odd in
    let p = c.args.page in
    let h : p < min (length es / 32) (length os / 32) = search (rules, length_twins) in
    let fit : p < length (twin_pages es os) = search (rules, length_twins) in
    let room : 32 * p + 32 ≤ vec_len c.args.self.now.even = omega arith in
    let room' : 32 * p + 32 ≤ vec_len c.args.self.now.odd = omega arith in
    let width : 32 * p + 32 - 32 * p ≡ 32 = omega arith in
    let a : length e ≡ 32 = search rules in
    let b : length o ≡ 32 = search rules in
    let x = rewritten 32 p _ _ c.args.self.now.even.items es _ _ e (sym c.args.self.now.even.ok.0) width c.deref_mut.ensures.value refl room a in
    let y = rewritten 32 p _ _ c.args.self.now.odd.items os _ _ o (sym c.args.self.now.odd.ok.0) width c.deref_mut-2.ensures.value refl room' b in
    record {
      gives = (fit, c.in_ok-admit.ensures.gives.1, twin_written es os _ _ e o c.args.buf.now p x y h a b c.scatter.ensures.gives);
      rest = twin_rest_kept es os _ _ e o p x y h a b;
    }
