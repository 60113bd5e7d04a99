use Rattle.std.proofs.Common.{take, drop, sym, refl, ap, ◌∙◌}
use Rattle.kinds.specs.Kind.{entry_length}
use Rattle.page.proofs.Pairs.{cut_low, low_is}
use Rattle.page.proofs.directory_page.DirectoryView.low.Goals as goal

pub returns : goal.returns
returns g c =
    let k = g.K.PointKind.kind in
    let bs = c.args.self.now.bytes.now in
    let z = c.entry_size-end.result in
    let e = c.entry_size-end.ensures in
    let part = c.over.ensures ∙ cut_low bs z ∙ ap (λ n. take n (drop 2 bs)) e in
    record {
      part = part;
      whole = c.over.result.long;
      view = λ n l h r. part ∙ sym (low_is k bs (entry_length k) refl (record { depth = n; low_entry = l; high_entry = h; reads = r }));
    }
