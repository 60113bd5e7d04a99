-- Two whole numbers as a course and a shog.
use Rattle.std.specs.Prelude.{◌≡◌, ℕ, ℤ, pos, ◌≤ℤ◌}
use Rattle.needle.specs.Shogs.{OnShogs}

-- The numbers lie on the axes: a course of 0 to 65,535 and a shog of -2,048 to 2,047.
abbrev pub OnBoth : ℤ → ℤ → Type 0
OnBoth course shog = (pos 0 ≤ℤ course) × (course ≤ℤ pos 65535) × OnShogs shog

-- A course and a shog are these two numbers.
abbrev pub Same : ℤ → ℤ → ℕ → ℤ → Type 0
Same a b course shog = (pos course ≡ a) × (shog ≡ b)
