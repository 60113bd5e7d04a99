use Rattle.std.proofs.Common.{ℕ, refl, ◌∙◌, ap₂}
use Rattle.page.specs.Form.{Summary, directory_view, encode}
use Rattle.page.specs.Checks.{summary}
use Rattle.access.specs.Reached.{chosen}
use Rattle.access.proofs.Writes.{written_as}
use Rattle.put.proofs.insert.put_beside.Goals as goal

pub returns-clause-written : goal.returns-clause-written
returns-clause-written g c =
    let k = g.K.PointKind.kind in
    let p = c.args.p.now in
    let x = c.args.spare in
    let e = summary k c.args.at.now in
    let bytes = λ (b : ℕ) (o : Summary). encode k (directory_view c.args.shared (chosen b o e) (chosen b e o)) in
    let leaf = written_as c.put_page.ensures refl c.from.ensures c.lone_page.ensures in
    written_as c.put_page-2.ensures leaf c.from-2.ensures (c.fork_page-fork.ensures ∙ ap₂ bytes c.bit.ensures c.lone_entry-alone.ensures)
