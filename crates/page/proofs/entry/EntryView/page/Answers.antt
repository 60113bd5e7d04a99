use Rattle.std.proofs.Common.{sym, ◌∙◌}
use Rattle.page.proofs.Parts.{same_number, page_part}
use Rattle.page.proofs.entry.EntryView.page.Goals as goal

pub returns : goal.returns
returns g c =
    let r = c.two_bytes.ensures in
    record { form = r.form; fits = r.fits; entry = λ e t. same_number 2 _ e.page r.fits t.1.page_fits (r.form ∙ sym (page_part g.K.PointKind.kind c.args.self.now.bytes.now e t.2)) }
