-- The byte form of a point: its coordinates one after another, each in the bytes of its axis, the lowest byte first.
use Rattle.std.specs.Prelude.{ℕ, zero, suc, ◌+◌, ◌-◌, ◌*◌, ◌/◌, ◌%◌, ◌^◌, ◌≤◌, List, [], ◌∷◌, ◌++◌, ℤ, pos, negsuc, ◌+ℤ◌, ◌≤ℤ◌}
use Rattle.zorder.specs.Code.{Axis}

-- n bytes of a number, the lowest first.
abbrev pub bytes : ℕ → ℕ → List ℕ
bytes zero x = []
bytes (suc n) x = x % 256 ∷ bytes n (x / 256)

-- A coordinate in n bytes as a number: itself, or two's complement where it is negative.
abbrev pub complement : ℕ → ℤ → ℕ
complement n (pos x) = x
complement n (negsuc x) = 2 ^ (8 * n) - suc x

-- The coordinates one after another, each in the bytes of its axis.
abbrev pub form : List Axis → List ℤ → List ℕ
form [] zs = []
form (a ∷ axs) [] = []
form (a ∷ axs) (z ∷ zs) = bytes a.bytes (complement a.bytes z) ++ form axs zs

-- The number of bytes of a point.
abbrev pub size : List Axis → ℕ
size [] = 0
size (a ∷ axs) = a.bytes + size axs

-- The bytes of an axis are wide enough to tell its coordinates apart: there are no more coordinates than numbers in so many bytes,
-- and each coordinate lies above -2 ^ (8 * bytes) and below 2 ^ (8 * bytes).
abbrev pub Wide : Axis → Type 0
Wide a = (a.bits ≤ 8 * a.bytes) × (pos 0 ≤ℤ (a.least +ℤ pos (2 ^ (8 * a.bytes)))) × ((a.least +ℤ pos (2 ^ a.bits)) ≤ℤ pos (2 ^ (8 * a.bytes)))
