use Rattle.std.proofs.Common.{[], ◌++◌, ap}
use Rattle.kinds.proofs.Byteform.{form_split, form_length}
use Rattle.kinds.proofs.points.bytes_stand.Goals as goal

pub returns : goal.returns
returns g c =
    let k = g.K.PointKind.kind in
    let s = g.met.K.PointKind.sound in
    record {
      long = λ p on. form_length k.axes (k.coords p) on;
      apart = λ p q on other e. s.one_point p q (form_split k.axes (k.coords p) (k.coords q) [] [] s.wide_bytes on other (ap (λ x. x ++ []) e)).0;
    }
