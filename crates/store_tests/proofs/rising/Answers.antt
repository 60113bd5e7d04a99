use Rattle.std.proofs.Common.{rules, ◌≡◌, ◌<◌, ◌∙◌, sym, get_or, slice_index_or, arith}
use Rattle.std.proofs.lemmas.List.{ext_get_or}
use Rattle.std.proofs.lemmas.List.FromFn.{length-range_with_len, get_or-range_with_len}
use Rattle.std.specs.List.{range_with_len}
use Rattle.store_tests.proofs.rising.Goals as goal

pub returns : goal.returns
returns c =
    let f = c.from_fn.ensures.items in
    ext_get_or 0 c.from_fn.result _ (f.long ∙ sym (length-range_with_len 0 64)) (λ k lt.
    let n : k < 64 = omega (arith, f.long) in
    let called = (f.at k 0 n).2.met in
    let same : slice_index_or c.from_fn.result k 0 ≡ k = search rules in
    let there : get_or (range_with_len 0 64) k 0 ≡ k = omega (arith, get_or-range_with_len 0 64 k 0 n) in
    same ∙ sym there)
