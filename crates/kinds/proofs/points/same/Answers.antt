use Rattle.kinds.proofs.Telling.{same_then, same_else, one_whether}
use Rattle.kinds.proofs.points.same.Goals as goal

pub returns-then-under : goal.returns-then-under
returns-then-under g c =
    let k = g.K.PointKind.kind in
    let a = c.args.a.now in
    let b = c.args.b.now in
    let s = same_then (k.coords a) (k.coords b) c.under.result c.under-then-under.result c.if-under.true c.under.ensures c.under-then-under.ensures in
    record { coordinates = s; points = one_whether k g.met.K.PointKind.sound a b c.under-then-under.result s }

pub returns-else-under : goal.returns-else-under
returns-else-under g c =
    let k = g.K.PointKind.kind in
    let a = c.args.a.now in
    let b = c.args.b.now in
    let s = same_else (k.coords a) (k.coords b) c.under.result c.if-under.false c.under.ensures in
    record { coordinates = s; points = one_whether k g.met.K.PointKind.sound a b c.under.result s }
