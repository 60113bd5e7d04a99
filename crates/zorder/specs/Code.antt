-- The code of a point: the bits of its raised values, taken in turns, the highest first.
use Rattle.std.specs.Prelude.{ℕ, zero, suc, pred, ◌+◌, ◌-◌, ◌*◌, ◌/◌, ◌%◌, ◌^◌, List, [], ◌∷◌, ◌++◌, map, ℤ, pos, ◌+ℤ◌, ◌-ℤ◌, ◌≤ℤ◌, ◌<ℤ◌, unsigned_abs}

-- An axis: its smallest coordinate, its number of bits, and in how many bytes a coordinate is written.
pub record Axis : Type 0 where
  pub least : ℤ
  pub bits : ℕ
  pub bytes : ℕ

-- The raised value: a coordinate minus the smallest one of its axis. It is used of coordinates on the axis only, where the difference is not negative.
abbrev pub raised : Axis → ℤ → ℕ
raised a z = unsigned_abs (z -ℤ a.least)

-- z is one of the 2 ^ bits coordinates of the axis.
abbrev pub OnAxis : Axis → ℤ → Type 0
OnAxis a z = (a.least ≤ℤ z) × (z <ℤ (a.least +ℤ pos (2 ^ a.bits)))

-- One coordinate on each axis, and no more.
abbrev pub OnAxes : List Axis → List ℤ → Type 0
OnAxes [] [] = Unit {0}
OnAxes [] (z ∷ zs) = ⊥
OnAxes (a ∷ axs) [] = ⊥
OnAxes (a ∷ axs) (z ∷ zs) = OnAxis a z × OnAxes axs zs

-- The raised values of a point, axis by axis.
abbrev pub raise : List Axis → List ℤ → List ℕ
raise [] zs = []
raise (a ∷ axs) [] = []
raise (a ∷ axs) (z ∷ zs) = raised a z ∷ raise axs zs

-- The turn of an axis with k bits left, at the raised value v: the highest bit not taken yet; an axis with none left is skipped.
abbrev pub turn : ℕ → ℕ → List ℕ
turn zero v = []
turn (suc k) v = (v / 2 ^ k % 2) ∷ []

-- One turn of each axis, in their order; ks has the number of bits left on each axis.
abbrev pub turns : List ℕ → List ℕ → List ℕ
turns [] vs = []
turns (k ∷ ks) [] = []
turns (k ∷ ks) (v ∷ vs) = turn k v ++ turns ks vs

-- The bits of n rounds of turns; each round leaves every axis one bit fewer.
abbrev pub rounds : ℕ → List ℕ → List ℕ → List ℕ
rounds zero ks vs = []
rounds (suc n) ks vs = turns ks vs ++ rounds n (map pred ks) vs

-- The number of bits left on each axis after r rounds.
abbrev pub after : ℕ → List ℕ → List ℕ
after r ks = map (λ k. k - r) ks

-- The number with these binary digits, the highest first, behind the digits of n.
abbrev pub digits : ℕ → List ℕ → ℕ
digits n [] = n
digits n (b ∷ bs) = digits (2 * n + b) bs

-- The number of bits of each axis.
abbrev pub widths : List Axis → List ℕ
widths axs = map (λ a. a.bits) axs

-- The code of the raised values vs on axes of ks bits: a number whose highest bit is the first one taken.
-- No axis has more than 32 bits, so 32 rounds take every bit.
unfoldable pub woven : List ℕ → List ℕ → ℕ
woven ks vs = digits 0 (rounds 32 ks vs)

-- The code of a point.
abbrev pub code : List Axis → List ℤ → ℕ
code axs zs = woven (widths axs) (raise axs zs)

-- The bits of several axes together.
abbrev pub total : List ℕ → ℕ
total [] = 0
total (k ∷ ks) = k + total ks

-- W, the number of bits of a code.
abbrev pub width : List Axis → ℕ
width axs = total (widths axs)

-- The n highest bits of c, a number of w bits, as a number.
abbrev pub first : ℕ → ℕ → ℕ → ℕ
first w n c = c / 2 ^ (w - n)

-- Bit n of c, a number of w bits: the bit that follows the first n.
abbrev pub bit_at : ℕ → ℕ → ℕ → ℕ
bit_at w n c = c / 2 ^ (w - suc n) % 2
