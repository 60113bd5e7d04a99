-- How a take from a part of the tree ends.
use Rattle.std.specs.Prelude.{◌≡◌, ℕ, ◌<◌, ◌≤◌, true, false, ◌⊎◌, List, [], ◌∷◌, length, Some, None, Ok, Err, Option, Result, slice_set}
use Rattle.std.specs.Int.{int_min, int_max}
use Rattle.std.specs.List.{AllByRecursion}
use Rattle.refusal.specs.declared.Refusal.{Refusal}
use Rattle.refusal.specs.Numbers.{number}
use Rattle.zorder.specs.Code.{bit_at}
use Rattle.zorder.specs.Sharing.{on_each}
use Rattle.kinds.specs.Kind.{Kind, wide, code_of}
use Rattle.page.specs.declared.directory_page.Fork.{Fork}
use Rattle.page.specs.declared.entry.Entry.{Entry}
use Rattle.page.specs.Form.{Summary, free_view, encode, times}
use Rattle.page.specs.Checks.{summary}
use Rattle.tree.specs.Sets.{live}
use Rattle.tree.specs.Laid.{Laid, directory_at, numbers, below_it, agrees, way}
use Rattle.tree.specs.Lawful.{Card, entry, root_parts, Holds, KeptBut}
use Rattle.growth.specs.Shrinks.{Shrinks}
use Rattle.access.specs.Reached.{Reached}
use Rattle.take.specs.declared.taken.FreedPages.{FreedPages}
use Rattle.take.specs.declared.taken.Taken.{Taken}
use Rattle.take.specs.declared.taken.Taken.TheVariants.{Gone, Left}

-- two pages, or none
abbrev pub both : Option FreedPages → List ℕ
both None = []
both (Some x) = x.fork ∷ (x.leaf ∷ [])

-- the entry of two halves, with so many points, at page q
abbrev pub above_both : ℕ → ℕ → Summary → Summary → Summary
above_both q n low high = record { page = q; count = n; low = on_each int_min low.low high.low; high = on_each int_max low.high high.high }

-- the first of some free pages with a chain behind them that begins at `first`
abbrev pub front_of : List ℕ → ℕ → ℕ
front_of [] first = first
front_of (q ∷ qs) first = q

module _ {P : Type 0} where
  -- the pages that are free now
  abbrev pub freed : Taken P → List ℕ
  freed (Gone q) = q ∷ []
  freed (Left e pages) = both pages

module _ {P : Type 0} (k : Kind P) where
  -- the card with some pages made free pages, each of which leads to the next, and the last to `first`
  abbrev pub linked : Card → List ℕ → ℕ → Card
  linked card [] first = card
  linked card (q ∷ qs) first = slice_set (linked card qs first) q (encode k (free_view (front_of qs first)))

  -- the entry of what is left
  abbrev pub left_entry : Taken P → Option Summary
  left_entry (Gone q) = None
  left_entry (Left e pages) = Some (summary k e)

  -- what is left of a laid tree
  abbrev pub Leaves : Taken P → Option (Laid P) → Type 0
  Leaves (Gone q) None = Unit {0}
  Leaves (Gone q) (Some t) = ⊥
  Leaves (Left e pages) None = ⊥
  Leaves (Left e pages) (Some t) = summary k e ≡ entry k t

  -- The point was live, the tree has shrunk, and only pages of the way differ.
  pub record Shrunk (before : Card) (ps : List P) (p : P) (t : Laid P) (taken : Taken P) (after : Card) : Type 0 where
    pub was_live : live (code_of k) p ps ≡ true
    pub left : Option (Laid P)
    pub shrinks : Shrinks (code_of k) (wide k) k.capacity p t left (freed taken)
    pub leaves : Leaves taken left
    pub shows : Holds k after (root_parts k left)
    pub kept : KeptBut (way (code_of k) (wide k) t p) before after

  -- A take from the laid tree t of ps: the tree has shrunk, or the point is not live.
  abbrev pub TakeEnd : Card → List P → P → Laid P → Result (Taken P) Refusal → Card → Type 0
  TakeEnd before ps p t (Ok taken) after = Shrunk before ps p t taken after
  TakeEnd before ps p t (Err e) after = (live (code_of k) p ps ≡ false) × (number e ≡ 5)

  -- A part of the tree is reached, and each of its pages stands in it once.
  pub record Shrinking (card : Card) (ps : List P) (e : Summary) (above : ℕ) (t : Laid P) : Type 0 where
    pub reached : Reached k card ps e above t
    pub once : (q : ℕ) → times q (numbers t) ≤ 1

  -- A directory page is reached, with its entry, what it says, and the bit of a point that shares its first bits.
  pub record Divided (card : Card) (ps : List P) (e : Entry P) (above : ℕ) (x : Fork P) (bit : ℕ) (p : P) (q : ℕ) (l h : Laid P) : Type 0 where
    pub shrinking : Shrinking card ps (summary k e) above (directory_at q x.depth l h)
    pub low_is : summary k x.low ≡ entry k l
    pub high_is : summary k x.high ≡ entry k h
    pub shares : agrees (code_of k) (wide k) x.depth (below_it (directory_at q x.depth l h)) p ≡ true
    pub bit_is : bit_at (wide k) x.depth (code_of k p) ≡ bit

-- On any card: a refusal is 9 or 5 and keeps all pages; else the number of pages is kept, and what is free now are pages of the card.
abbrev pub AnyEnd : {P : Type 0} → Card → Result (Taken P) Refusal → Card → Type 0
AnyEnd before (Ok taken) after = (length after ≡ length before) × AllByRecursion (λ q. q < length before) (freed taken)
AnyEnd before (Err e) after = (after ≡ before) × ((number e ≡ 9) ⊎ (number e ≡ 5))
