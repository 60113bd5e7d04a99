-- What a read and a write of a page store answer, and what they leave.
use Rattle.std.specs.Prelude.{◌≡◌, ℕ, ◌<◌, ◌≤◌, ◌≢◌, List, [], length, Ok, Err, Result, slice_index_or, slice_set}
use Rattle.store.specs.declared.fault.StoreFault.{StoreFault}
use Rattle.store.specs.declared.fault.StoreFault.TheVariants.{NoPage, BadBuffer}

-- Each of these pages has 64 bytes.
abbrev pub Whole : List (List ℕ) → Type 0
Whole ps = (k : ℕ) → k < length ps → length (slice_index_or ps k []) ≡ 64

-- Why a call for page p with a buffer of b bytes is refused by a store of n pages: the number comes first, then the buffer.
abbrev pub Refused : ℕ → ℕ → ℕ → StoreFault → Type 0
Refused n p b (NoPage q) = (q ≡ p) × (n ≤ p)
Refused n p b (BadBuffer q) = (q ≡ p) × (p < n) × (b ≢ 64)

-- A call is admitted exactly if the page is there and the buffer has 64 bytes.
abbrev pub Admitted : ℕ → ℕ → ℕ → Result Unit StoreFault → Type 0
Admitted n p b (Ok u) = (p < n) × (b ≡ 64)
Admitted n p b (Err e) = Refused n p b e

-- A read of page p gives its bytes, or is refused and keeps the buffer.
abbrev pub Read : List (List ℕ) → ℕ → List ℕ → List ℕ → Result Unit StoreFault → Type 0
Read ps p old new (Ok u) = (p < length ps) × (length old ≡ 64) × (new ≡ slice_index_or ps p [])
Read ps p old new (Err e) = Refused (length ps) p (length old) e × (new ≡ old)

-- A write puts the bytes b in page p and keeps every other page, or is refused and keeps all.
abbrev pub Written : List (List ℕ) → List (List ℕ) → ℕ → List ℕ → Result Unit StoreFault → Type 0
Written ps qs p b (Ok u) = (p < length ps) × (length b ≡ 64) × (qs ≡ slice_set ps p b)
Written ps qs p b (Err e) = Refused (length ps) p (length b) e × (qs ≡ ps)
