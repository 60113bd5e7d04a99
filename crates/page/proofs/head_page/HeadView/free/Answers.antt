use Rattle.std.proofs.Common.{sym, ◌∙◌}
use Rattle.page.proofs.Parts.{same_number}
use Rattle.page.proofs.Ends.{IsHead, count_part}
use Rattle.page.proofs.head_page.HeadView.free.Goals as goal

pub returns : goal.returns
returns g c =
    let k = g.K.PointKind.kind in
    let bs = c.args.self.now.bytes.now in
    let r = c.two_bytes.ensures in
    record {
      form = r.form;
      fits = r.fits;
      view = λ first free root reads.
          let d : IsHead k bs = record { first = first; count = free; root = root; reads = reads } in
          same_number 2 _ free r.fits d.reads.fields.1 (r.form ∙ sym (count_part k bs d));
    }
