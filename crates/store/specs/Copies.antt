-- What copying and clearing a page of any store answer, and what they leave.
use Rattle.std.specs.Prelude.{◌≡◌, ℕ, ◌<◌, ◌≤◌, ◌⊎◌, List, [], length, replicate, Ok, Err, Result, slice_index_or, slice_set}
use Rattle.store.specs.declared.fault.StoreFault.{StoreFault}
use Rattle.store.specs.declared.fault.StoreFault.TheVariants.{NoPage, BadBuffer}

-- The first of two pages that a store of n pages does not have is q.
abbrev pub Missing : ℕ → ℕ → ℕ → ℕ → Type 0
Missing n first second q = ((q ≡ first) × (n ≤ first)) ⊎ ((q ≡ second) × (first < n) × (n ≤ second))

-- Page `to` then has the bytes of page `from`, and every other page is kept; the page read is missed before the page written.
abbrev pub Copied : List (List ℕ) → List (List ℕ) → ℕ → ℕ → Result Unit StoreFault → Type 0
Copied ps qs from to (Ok u) = (from < length ps) × (to < length ps) × (qs ≡ slice_set ps to (slice_index_or ps from []))
Copied ps qs from to (Err (NoPage q)) = Missing (length ps) from to q × (qs ≡ ps)
Copied ps qs from to (Err (BadBuffer q)) = ⊥

-- Page p then has 64 zero bytes, and every other page is kept.
abbrev pub Cleared : List (List ℕ) → List (List ℕ) → ℕ → Result Unit StoreFault → Type 0
Cleared ps qs p (Ok u) = (p < length ps) × (qs ≡ slice_set ps p (replicate 64 0))
Cleared ps qs p (Err (NoPage q)) = (q ≡ p) × (length ps ≤ p) × (qs ≡ ps)
Cleared ps qs p (Err (BadBuffer q)) = ⊥
