use Rattle.std.proofs.Common.{◌∙◌}
use Rattle.page.proofs.Pairs.{depth_is}
use Rattle.page.proofs.directory_page.DirectoryView.depth.Goals as goal

pub returns : goal.returns
returns g c = record { byte = c.from.ensures; view = λ n l h r. c.from.ensures ∙ depth_is g.K.PointKind.kind c.args.self.now.bytes.now (record { depth = n; low_entry = l; high_entry = h; reads = r }) }
