-- The free pages that a put may use.
use Rattle.std.specs.Prelude.{◌≡◌, ℕ, ◌<◌, List, [], ◌∷◌, length, Some, None, Ok, Err, Option, Result}
use Rattle.refusal.specs.declared.Refusal.{Refusal}
use Rattle.tree.specs.Lawful.{front}
use Rattle.page.specs.declared.head_page.Head.{Head}
use Rattle.put.specs.declared.insert.Grown.{Grown}
use Rattle.put.specs.declared.spare.Spare.{Spare}

-- the two pages at hand, if any
abbrev pub spares : Option Spare → List ℕ
spares None = []
spares (Some x) = x.fork ∷ (x.leaf ∷ [])

-- From a free chain: its first two pages, where it goes on behind them and how long it is there; none exactly where it has fewer. It is never refused.
abbrev pub SpareOf : List ℕ → Result (Option Spare) Refusal → Type 0
SpareOf chain (Ok None) = length chain < 2
SpareOf chain (Ok (Some x)) = (rest : List ℕ) × (chain ≡ x.fork ∷ (x.leaf ∷ rest)) × (front rest ≡ x.rest) × (length rest ≡ x.left)
SpareOf chain (Err e) = ⊥

-- the first free page after a put that used these pages, and how many pages are free then
abbrev pub first_after : ℕ → Option Spare → ℕ
first_after first None = first
first_after first (Some x) = x.rest

abbrev pub free_after : ℕ → Option Spare → ℕ
free_after free None = free
free_after free (Some x) = x.left

-- the head after a put
pub record HeadAfter {P : Type 0} (head : Head P) (grown : Grown P) (r : Head P) : Type 0 where
  pub first : r.first ≡ first_after head.first grown.used
  pub free : r.free ≡ free_after head.free grown.used
  pub root : r.root ≡ Some grown.entry
