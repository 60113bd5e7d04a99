-- Lay points: a course of 0 to 65,535 and a shog of -2,048 to 2,047.
use Rattle.std.specs.Prelude.{List, [], ◌∷◌, pos, negsuc}
use Rattle.zorder.specs.Code.{Axis}
use Rattle.kinds.specs.Kind.{Kind}
use Rattle.kinds.specs.declared.lay.LayPoint.{LayPoint}

-- The axes: course of 16 bits in 2 bytes, shog of 12 bits in 2 bytes.
abbrev pub lay_axes : List Axis
lay_axes = record { least = pos 0; bits = 16; bytes = 2 } ∷ record { least = negsuc 2047; bits = 12; bytes = 2 } ∷ []

-- The kind of lay points: 15 to a data page, page kinds 1, 3 and 5.
abbrev pub lay_kind : Kind LayPoint
lay_kind = record {
  axes = lay_axes;
  coords = λ p. pos p.course ∷ p.shog ∷ [];
  capacity = 15;
  data_kind = 1;
  directory_kind = 3;
  head_kind = 5;
}
