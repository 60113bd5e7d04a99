use Rattle.std.proofs.Common.{refl}
use Rattle.tree.specs.Book.{CountsFrom}
use Rattle.draft.proofs.Querying.{by_query}
use Rattle.draft.proofs.Draft.count.Goals as goal

pub returns : goal.returns
returns g c = record {
  lawful = c.count.ensures.lawful;
  query = by_query g.K.PointKind.kind _ c.args.window CountsFrom c.count.result c.count.ensures.lawful;
  always = c.count.ensures.always;
  keeps = c.count.ensures.keeps;
  origin = refl;
}
