use Rattle.std.proofs.Common.{◌∙◌}
use Rattle.page.proofs.Runs.{count_is}
use Rattle.page.proofs.data_page.DataView.count.Goals as goal

pub returns : goal.returns
returns g c ps r = c.from.ensures ∙ count_is g.K.PointKind.kind c.args.self.now.bytes.now ps r
