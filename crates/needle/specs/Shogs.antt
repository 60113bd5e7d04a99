-- Shogs in half needles, and what splitting and joining them answers.
use Rattle.std.specs.Prelude.{◌≡◌, ℕ, ◌<◌, ℤ, pos, negsuc, ◌+ℤ◌, ◌*ℤ◌, ◌≤ℤ◌, ◌<ℤ◌, Ok, Err, Result}
use Rattle.refusal.specs.declared.Refusal.{Refusal}
use Rattle.refusal.specs.Numbers.{number}
use Rattle.needle.specs.declared.Needles.{Needles}

-- the axis of shogs: -2048 to 2047 half needles
abbrev pub OnShogs : ℤ → Type 0
OnShogs z = (negsuc 2047 ≤ℤ z) × (z ≤ℤ pos 2047)

-- twice the whole plus the half
abbrev pub joined : ℤ → ℕ → ℤ
joined whole half = (pos 2 *ℤ whole) +ℤ pos half

-- A shog as whole needles and a half: twice the whole is at most the shog, and twice the next whole number is above it; what is left over is the half, 0 or 1.
pub record Splits (shog whole : ℤ) (half : ℕ) : Type 0 where
  pub not_above : (pos 2 *ℤ whole) ≤ℤ shog
  pub next_above : shog <ℤ ((pos 2 *ℤ whole) +ℤ pos 2)
  pub back : joined whole half ≡ shog
  pub is_half : half < 2

-- What a split answers: whole and half exactly on the axis, and else refusal 3.
abbrev pub SplitSays : ℤ → Result Needles Refusal → Type 0
SplitSays shog (Ok n) = OnShogs shog × Splits shog n.whole n.half
SplitSays shog (Err e) = (OnShogs shog → ⊥) × (number e ≡ 3)

-- What a join answers: exactly twice the whole plus the half where the half is 0 or 1 and that is a shog on the axis, and else refusal 3.
abbrev pub JoinSays : ℤ → ℕ → Result ℤ Refusal → Type 0
JoinSays whole half (Ok shog) = (shog ≡ joined whole half) × (half < 2) × OnShogs shog
JoinSays whole half (Err e) = (half < 2 → OnShogs (joined whole half) → ⊥) × (number e ≡ 3)

-- Whatever a join answers to the whole and half of a shog on the axis, it is that shog.
abbrev pub BackLaw : Type 0
BackLaw = (shog : ℤ) (n : Needles) → SplitSays shog (Ok n) → (r : Result ℤ Refusal) → JoinSays n.whole n.half r → r ≡ Ok shog

-- Whatever a split answers to the shog of a whole and a half, it is that whole and that half.
abbrev pub AgainLaw : Type 0
AgainLaw = (whole : ℤ) (half : ℕ) (shog : ℤ) → JoinSays whole half (Ok shog) → (r : Result Needles Refusal) → SplitSays shog r → r ≡ Ok (record { whole = whole; half = half })

-- No whole number above that of a split is at most half the shog.
abbrev pub GreatestLaw : Type 0
GreatestLaw = (shog : ℤ) (n : Needles) → SplitSays shog (Ok n) → (other : ℤ) → (pos 2 *ℤ other) ≤ℤ shog → other ≤ℤ n.whole
