-- The records of an outline, and bytes written into a buffer.
use Rattle.std.specs.Prelude.{◌≡◌, ℕ, ◌+◌, ◌≤◌, List, ◌∷◌, ◌++◌, length, take, drop, bit_xor}
use Rattle.std.specs.Int.Count.{count_leading_zeros}
use Rattle.zorder.specs.Code.{code}
use Rattle.kinds.specs.Bytes.{bytes, form}
use Rattle.kinds.specs.Kind.{Kind, wide}
use Rattle.page.specs.Form.{Summary}
use Rattle.outlines.specs.declared.record.Sort.{Sort}
use Rattle.outlines.specs.declared.record.Sort.TheVariants.{Data, Directory}

-- the number of each sort of page
abbrev pub sort_number : Sort → ℕ
sort_number Data = 1
sort_number Directory = 2

-- the record of a page, by what its entry says
abbrev pub record_of : {P : Type 0} → Kind P → Sort → Summary → List ℕ
record_of k sort e = sort_number sort ∷ (bytes 4 e.count ++ (count_leading_zeros (wide k) (bit_xor (code k.axes e.low) (code k.axes e.high)) ∷ (form k.axes e.low ++ form k.axes e.high)))

-- The bytes stand at a place of the buffer now, and all others are kept.
pub record Wrote (before : List ℕ) (at : ℕ) (new after : List ℕ) : Type 0 where
  pub room : at + length new ≤ length before
  pub is : after ≡ take at before ++ (new ++ drop (at + length new) before)
