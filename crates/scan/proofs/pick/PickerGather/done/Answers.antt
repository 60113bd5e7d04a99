use Rattle.std.proofs.Common.{T, subst}
use Rattle.scan.proofs.Picking.{picked_more}
use Rattle.scan.proofs.pick.PickerGather.done.Goals as goal

pub returns : goal.returns
returns g c t before buffer xs ys h = picked_more c.args.self.now.found xs ys (subst T c.is_some.ensures t) h
