use Rattle.std.proofs.Common.{refl}
use Rattle.draft.proofs.Querying.{by_exact_match}
use Rattle.draft.proofs.Draft.ask.Goals as goal

pub returns : goal.returns
returns g c = record {
  lawful = c.ask.ensures.lawful;
  exact = by_exact_match g.K.PointKind.kind g.met.K.PointKind.sound c.args.p _ c.ask.result c.ask.ensures.lawful;
  always = c.ask.ensures.always;
  keeps = c.ask.ensures.keeps;
  origin = refl;
}
