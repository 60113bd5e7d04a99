-- The codes and splits at the edges of the axes.
use Rattle.std.specs.Prelude.{◌≡◌, ℕ, ℤ, pos, negsuc}
use Rattle.needle.specs.Shogs.{OnShogs, Splits}
use Rattle.zorder.specs.Sharing.{Shares}
use Rattle.kinds.specs.Kind.{wide, code_of}
use Rattle.kinds.specs.Lay.{lay_kind}
use Rattle.kinds.specs.Bar.{bar_kind}
use Rattle.kinds.specs.declared.lay.LayPoint.{LayPoint}
use Rattle.kinds.specs.declared.bar.BarPoint.{BarPoint}

-- The lay point of a course and a shog.
abbrev pub lay : ℕ → ℤ → LayPoint
lay course shog = record { course = course; shog = shog }

-- The bar point of a course, a bar and a shog.
abbrev pub bar : ℕ → ℕ → ℤ → BarPoint
bar course guide shog = record { course = course; bar = guide; shog = shog }

-- A shog on its axis splits into this whole and this half, and into no others.
pub record SplitsInto (shog whole : ℤ) (half : ℕ) : Type 0 where
  pub on_axis : OnShogs shog
  pub splits : Splits shog whole half
  pub only : (w : ℤ) (h : ℕ) → Splits shog w h → (w ≡ whole) × (h ≡ half)

-- One fact of the rules. In the logic `negsuc n` is the number -(n + 1).
pub record Edges : Type 0 where
  pub lowest : code_of lay_kind (lay 0 (negsuc 2047)) ≡ 0
  pub minus_one : code_of lay_kind (lay 0 (negsuc 0)) ≡ 22369616
  pub zero_shog : code_of lay_kind (lay 0 (pos 0)) ≡ 67108864
  pub plus_one : code_of lay_kind (lay 0 (pos 1)) ≡ 67108880
  pub highest : code_of lay_kind (lay 65535 (pos 2047)) ≡ 268435455
  pub bar_zero : code_of bar_kind (bar 0 0 (pos 0)) ≡ 2147483648
  pub one_shared : Shares (wide lay_kind) 1 (code_of lay_kind (lay 0 (negsuc 0))) (code_of lay_kind (lay 0 (pos 0)))
  pub split_minus_one : SplitsInto (negsuc 0) (negsuc 0) 1
  pub split_least : SplitsInto (negsuc 2047) (negsuc 1023) 0
