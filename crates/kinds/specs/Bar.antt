-- Bar points: a course of 0 to 65,535, a guide bar of 0 to 63 and a shog of -2,048 to 2,047.
use Rattle.std.specs.Prelude.{List, [], ◌∷◌, pos, negsuc}
use Rattle.zorder.specs.Code.{Axis}
use Rattle.kinds.specs.Kind.{Kind}
use Rattle.kinds.specs.declared.bar.BarPoint.{BarPoint}

-- The axes: course of 16 bits, bar of 6 bits, shog of 12 bits, each in 2 bytes.
abbrev pub bar_axes : List Axis
bar_axes = record { least = pos 0; bits = 16; bytes = 2 } ∷ record { least = pos 0; bits = 6; bytes = 2 } ∷ record { least = negsuc 2047; bits = 12; bytes = 2 } ∷ []

-- The kind of bar points: 10 to a data page, page kinds 2, 4 and 6.
abbrev pub bar_kind : Kind BarPoint
bar_kind = record {
  axes = bar_axes;
  coords = λ p. pos p.course ∷ pos p.bar ∷ p.shog ∷ [];
  capacity = 10;
  data_kind = 2;
  directory_kind = 4;
  head_kind = 6;
}
