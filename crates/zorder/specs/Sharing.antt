-- How many first bits codes share, and the corners of a set of points. A point is the list of its coordinates.
use Rattle.std.specs.Prelude.{◌≡◌, ℕ, ◌<◌, ◌≤◌, List, [], ◌∷◌, ℤ, ◌≤ℤ◌, ◌≢◌}
use Rattle.std.specs.Int.{int_min, int_max}
use Rattle.std.specs.List.{AllByRecursion}
use Rattle.zorder.specs.Code.{Axis, widths, first, bit_at}

-- Two codes of w bits share n first bits: their n highest bits agree, and the next differs if there is one.
pub record Shares (w n c d : ℕ) : Type 0 where
  pub within : n ≤ w
  pub agree : first w n c ≡ first w n d
  pub differ : n < w → bit_at w n c ≢ bit_at w n d

-- n is the number of first bits that c and all the codes of cs share: on these all agree, and on the next, if there is one, not all do.
pub record Common (w n c : ℕ) (cs : List ℕ) : Type 0 where
  pub within : n ≤ w
  pub agree : AllByRecursion (λ d. first w n c ≡ first w n d) cs
  pub differ : n < w → AllByRecursion (λ d. bit_at w n c ≡ bit_at w n d) cs → ⊥

-- f of the two coordinates on each axis.
abbrev pub on_each : (ℤ → ℤ → ℤ) → List ℤ → List ℤ → List ℤ
on_each f [] ys = []
on_each f (x ∷ xs) [] = []
on_each f (x ∷ xs) (y ∷ ys) = f x y ∷ on_each f xs ys

-- f of all coordinates on each axis, of a point and more.
abbrev pub corner : (ℤ → ℤ → ℤ) → List ℤ → List (List ℤ) → List ℤ
corner f p [] = p
corner f p (q ∷ qs) = corner f (on_each f p q) qs

-- The low corner of a point and more: the smallest coordinate on each axis.
abbrev pub least_corner : List ℤ → List (List ℤ) → List ℤ
least_corner p ps = corner int_min p ps

-- The high corner of a point and more: the greatest coordinate on each axis.
abbrev pub greatest_corner : List ℤ → List (List ℤ) → List ℤ
greatest_corner p ps = corner int_max p ps

-- No axis has more than 32 bits.
abbrev pub Narrow : List Axis → Type 0
Narrow axs = AllByRecursion (λ k. k ≤ 32) (widths axs)

-- p is nowhere above q: on no axis is its coordinate greater.
abbrev pub Under : List ℤ → List ℤ → Type 0
Under [] [] = Unit {0}
Under [] (y ∷ ys) = ⊥
Under (x ∷ xs) [] = ⊥
Under (x ∷ xs) (y ∷ ys) = (x ≤ℤ y) × Under xs ys

-- p lies in the window of two corners, both ends included.
abbrev pub Inside : List ℤ → List ℤ → List ℤ → Type 0
Inside low high p = Under low p × Under p high
