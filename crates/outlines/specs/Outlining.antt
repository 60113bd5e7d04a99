-- What outline answers on any card.
use Rattle.std.specs.Prelude.{◌≡◌, ℕ, suc, ◌+◌, ◌<◌, ◌≤◌, ◌⊎◌, List, length, drop, Some, None, Ok, Err, Option, Result}
use Rattle.refusal.specs.declared.Refusal.{Refusal}
use Rattle.refusal.specs.Numbers.{number}

-- the pages of a card of `count` pages that are neither the head nor free
abbrev pub TreePages : ℕ → ℕ → Option ℕ → Type 0
TreePages free count (Some n) = (count ≡ suc (n + free)) × (count ≤ 65535)
TreePages free count None = (count ≤ free) ⊎ (65535 < count)

-- The number of bytes written, past which the buffer is kept; or 9, which leaves the buffer open; or 7, which keeps it.
abbrev pub OutlineAny : List ℕ → List ℕ → Result ℕ Refusal → Type 0
OutlineAny before after (Ok n) = (n ≤ length before) × (drop n after ≡ drop n before)
OutlineAny before after (Err e) = (number e ≡ 9) ⊎ ((number e ≡ 7) × (after ≡ before))
