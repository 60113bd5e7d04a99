use Rattle.std.proofs.Common.{◌≡◌, List, [], ◌∷◌, length, ℤ, pos, sym, subst, arith, w16, to_z, of_z}
use Rattle.std.proofs.lemmas.Int.{ints}
use Rattle.zorder.specs.Code.{OnAxes}
use Rattle.kinds.specs.Bar.{bar_axes}
use Rattle.query.proofs.Ends.{spelled}
use Rattle.query.proofs.coordinates.BarPointCoordinates.at.Goals as goal

-- the coordinates are those of the point that was made of them
shown : (c : goal.Else-on_axes) → ◌≡◌ {A = List ℤ} (pos c.in_ok-course.course ∷ (pos c.in_ok-bar.bar ∷ (to_z w16 (of_z w16 c.in_ok-shog.shog) ∷ []))) c.args.coordinates.now
shown c =
    let n : length c.args.coordinates.now ≡ 3 = omega arith in
    let f = spelled 3 c.args.coordinates.now n in
    grind (arith, ints, f)

pub returns-else-on_axes : goal.returns-else-on_axes
returns-else-on_axes c on = c.if-on_axes.ensures (subst (OnAxes bar_axes) (sym (shown c)) on)
