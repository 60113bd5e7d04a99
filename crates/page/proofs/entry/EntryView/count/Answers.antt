use Rattle.std.proofs.Common.{sym, ◌∙◌}
use Rattle.page.proofs.Parts.{same_number, count_part}
use Rattle.page.proofs.entry.EntryView.count.Goals as goal

pub returns : goal.returns
returns g c =
    let r = c.four_bytes.ensures in
    record { form = r.form; fits = r.fits; entry = λ e t. same_number 4 _ e.count r.fits t.1.count_fits (r.form ∙ sym (count_part g.K.PointKind.kind c.args.self.now.bytes.now e t.2)) }
