-- The laws of codes, of corners and of halves, each for every list of axes, or for every one of at most 32 bits an axis (Narrow).
use Rattle.std.specs.Prelude.{◌≡◌, ℕ, ◌^◌, ◌<◌, ◌≤◌, List, ◌∷◌, ◌++◌, map, length, ℤ, ◌≢◌, bit_xor}
use Rattle.std.specs.Int.Count.{count_leading_zeros}
use Rattle.std.specs.Int.{int_min, int_max}
use Rattle.std.specs.List.{AllByRecursion}
use Rattle.zorder.specs.Code.{Axis, OnAxes, raise, rounds, digits, code, widths, width}
use Rattle.zorder.specs.Sharing.{Shares, Common, on_each, least_corner, greatest_corner, Narrow, Under, Inside}
use Rattle.zorder.specs.Halves.{half, Rising}

-- ---- codes

-- However many rounds of turns are made, from 32 on, they take exactly W bits, and the code is the number with these bits.
abbrev pub TakenLaw : Type 0
TakenLaw = (axs : List Axis) → Narrow axs → (p : List ℤ) → OnAxes axs p → (n : ℕ) → 32 ≤ n
    → (length (rounds n (widths axs) (raise axs p)) ≡ width axs)
    × (code axs p ≡ digits 0 (rounds n (widths axs) (raise axs p)))

-- A code is below 2 ^ W.
abbrev pub BelowLaw : Type 0
BelowLaw = (axs : List Axis) → Narrow axs → (p : List ℤ) → OnAxes axs p → code axs p < 2 ^ width axs

-- Every number below 2 ^ W is the code of a point on the axes; by the next law of one only.
abbrev pub EveryCodeLaw : Type 0
EveryCodeLaw = (axs : List Axis) → Narrow axs → (c : ℕ) → c < 2 ^ width axs → (p : List ℤ) × OnAxes axs p × (code axs p ≡ c)

-- Equal codes mean equal points.
abbrev pub OnePointLaw : Type 0
OnePointLaw = (axs : List Axis) → Narrow axs → (p q : List ℤ) → OnAxes axs p → OnAxes axs q → code axs p ≡ code axs q → p ≡ q

-- Lower on every axis means no higher code.
abbrev pub OrderLaw : Type 0
OrderLaw = (axs : List Axis) (p q : List ℤ) → OnAxes axs p → OnAxes axs q → Under p q → code axs p ≤ code axs q

-- The number of first bits that two codes share is the number of leading zeros, among w bits, of their xor, and no other number.
abbrev pub ZerosLaw : Type 0
ZerosLaw = (w c d : ℕ) → c < 2 ^ w → d < 2 ^ w
    → Shares w (count_leading_zeros w (bit_xor c d)) c d
    × ((n : ℕ) → Shares w n c d → n ≡ count_leading_zeros w (bit_xor c d))

-- ---- corners

-- The corners of a set lie on the axes, the set lies between them, and every window that holds the set holds them.
abbrev pub WindowLaw : Type 0
WindowLaw = (axs : List Axis) (p : List ℤ) (ps : List (List ℤ)) → AllByRecursion (OnAxes axs) (p ∷ ps)
    → (OnAxes axs (least_corner p ps) × OnAxes axs (greatest_corner p ps))
    × AllByRecursion (Inside (least_corner p ps) (greatest_corner p ps)) (p ∷ ps)
    × ((low high : List ℤ) → AllByRecursion (Inside low high) (p ∷ ps) → Under low (least_corner p ps) × Under (greatest_corner p ps) high)

-- The corners' codes bound all codes of the set.
abbrev pub BoundsLaw : Type 0
BoundsLaw = (axs : List Axis) (p : List ℤ) (ps : List (List ℤ)) → AllByRecursion (OnAxes axs) (p ∷ ps)
    → AllByRecursion (λ r. (code axs (least_corner p ps) ≤ code axs r) × (code axs r ≤ code axs (greatest_corner p ps))) (p ∷ ps)

-- The first bits that the corners' codes share are exactly those that all codes share.
abbrev pub DepthLaw : Type 0
DepthLaw = (axs : List Axis) → Narrow axs → (p : List ℤ) (ps : List (List ℤ)) → AllByRecursion (OnAxes axs) (p ∷ ps) → (n : ℕ)
    → (Shares (width axs) n (code axs (least_corner p ps)) (code axs (greatest_corner p ps)) → Common (width axs) n (code axs p) (map (code axs) ps))
    × (Common (width axs) n (code axs p) (map (code axs) ps) → Shares (width axs) n (code axs (least_corner p ps)) (code axs (greatest_corner p ps)))

-- So the depth of a set comes from its corners alone: the leading zeros, among W bits, of the xor of their codes.
abbrev pub CornerLaw : Type 0
CornerLaw = (axs : List Axis) → Narrow axs → (p : List ℤ) (ps : List (List ℤ)) → AllByRecursion (OnAxes axs) (p ∷ ps)
    → Common (width axs) (count_leading_zeros (width axs) (bit_xor (code axs (least_corner p ps)) (code axs (greatest_corner p ps)))) (code axs p) (map (code axs) ps)

-- The corners of two parts give the corners of the whole.
abbrev pub PartsLaw : Type 0
PartsLaw = (p q : List ℤ) (ps qs : List (List ℤ))
    → (least_corner p (ps ++ q ∷ qs) ≡ on_each int_min (least_corner p ps) (least_corner q qs))
    × (greatest_corner p (ps ++ q ∷ qs) ≡ on_each int_max (greatest_corner p ps) (greatest_corner q qs))

-- ---- halves

-- Of a set that shares exactly n first bits, fewer than W, both halves by bit n have a member,
-- and every code of the low half is below every code of the high half.
abbrev pub HalvesLaw : Type 0
HalvesLaw = (axs : List Axis) (n : ℕ) (p : List ℤ) (ps : List (List ℤ)) → n < width axs → Common (width axs) n (code axs p) (map (code axs) ps)
    → (0 < length (half (code axs) (width axs) n 0 (p ∷ ps)))
    × (0 < length (half (code axs) (width axs) n 1 (p ∷ ps)))
    × AllByRecursion (λ low. AllByRecursion (λ high. code axs low < code axs high) (half (code axs) (width axs) n 1 (p ∷ ps))) (half (code axs) (width axs) n 0 (p ∷ ps))

-- The low half followed by the high half is the set in rising code.
abbrev pub JoinLaw : Type 0
JoinLaw = (axs : List Axis) (n : ℕ) (p : List ℤ) (ps : List (List ℤ)) → n < width axs → Common (width axs) n (code axs p) (map (code axs) ps)
    → Rising (code axs) (p ∷ ps) → half (code axs) (width axs) n 0 (p ∷ ps) ++ half (code axs) (width axs) n 1 (p ∷ ps) ≡ p ∷ ps

-- The codes of a set with two different points share fewer than W first bits, so such a set has two halves.
abbrev pub ApartLaw : Type 0
ApartLaw = (axs : List Axis) → Narrow axs → (n : ℕ) (p q : List ℤ) (ps : List (List ℤ)) → AllByRecursion (OnAxes axs) (p ∷ q ∷ ps) → (p ≢ q)
    → Common (width axs) n (code axs p) (map (code axs) (q ∷ ps)) → n < width axs
