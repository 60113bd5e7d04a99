use Rattle.std.proofs.Common.{length, refl}
use Rattle.tree.specs.Book.{ListsFrom}
use Rattle.draft.proofs.Querying.{by_query}
use Rattle.draft.proofs.Draft.list.Goals as goal

pub returns : goal.returns
returns g c = record {
  lawful = c.list.ensures.lawful;
  query = by_query g.K.PointKind.kind _ c.args.window (ListsFrom c.args.skip (length c.args.buffer.now)) c.list.result (λ set w. (c.list.ensures.lawful set w).0);
  always = c.list.ensures.always;
  keeps = c.list.ensures.keeps;
  origin = refl;
}
