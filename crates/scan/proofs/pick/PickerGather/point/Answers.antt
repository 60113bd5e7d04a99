use Rattle.std.proofs.Common.{T, [], ◌∷◌, sym, refl, subst}
use Rattle.scan.proofs.Picking.{picked_more}
use Rattle.scan.proofs.pick.PickerGather.point.Goals as goal

pub returns-else-is_none : goal.returns-else-is_none
returns-else-is_none g c = let e = c.if-is_none.ensures in record { lawful = λ before xs few h. picked_more c.args.self.now.found xs (c.args.p.now ∷ []) (subst T (sym e) tt) h; always = λ low high before on inside fair. fair; refused = tt; same = refl }
