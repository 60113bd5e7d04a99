use Rattle.std.proofs.Common.{◌/◌, ◌<◌, min, length, vec_items, refl, ◌∙◌, arith, rules}
use Rattle.store.proofs.Twins.{length_twins, twin_read}
use Rattle.store.proofs.twin.TwinBoardsPageStore.read.Goals as goal

pub overflow_mul-at : goal.overflow_mul-at
overflow_mul-at c = search (rules, length_twins)

pub overflow_add-end : goal.overflow_add-end
overflow_add-end c = search (rules, length_twins)

pub slice_bounds-gather-end : goal.slice_bounds-gather-end
slice_bounds-gather-end c = search (rules, length_twins)

pub slice_bounds-gather-end-2 : goal.slice_bounds-gather-end-2
slice_bounds-gather-end-2 c = search (rules, length_twins)

pub returns : goal.returns
returns c =
    let es = vec_items c.args.self.now.even in
    let os = vec_items c.args.self.now.odd in
    let h : c.args.page < min (length es / 32) (length os / 32) = search (rules, length_twins) in
    record {
      gives = (
        search (rules, length_twins),
        c.in_ok-admit.ensures.gives.1,
        c.gather.ensures.gives ∙ twin_read es os c.deref.result.now c.deref-2.result.now _ c.args.page (omega arith) c.deref.ensures.value c.deref-2.ensures.value h,
      );
      keeps = refl;
      rest = refl;
    }
