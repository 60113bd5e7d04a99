use Rattle.std.proofs.Common.{refl}
use Rattle.tree.specs.Book.{PicksFrom}
use Rattle.draft.proofs.Querying.{by_query}
use Rattle.draft.proofs.Draft.pick.Goals as goal

pub returns : goal.returns
returns g c = record {
  lawful = c.pick.ensures.lawful;
  query = by_query g.K.PointKind.kind _ c.args.window PicksFrom c.pick.result c.pick.ensures.lawful;
  always = c.pick.ensures.always;
  keeps = c.pick.ensures.keeps;
  origin = refl;
}
