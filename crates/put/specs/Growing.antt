-- How a put into a part of the tree ends.
use Rattle.std.specs.Prelude.{◌≡◌, ℕ, suc, ◌+◌, ◌^◌, ◌<◌, ◌≤◌, true, false, ◌⊎◌, List, [], ◌∷◌, ◌++◌, map, length, Some, None, Ok, Err, Option, Result, slice_set}
use Rattle.std.specs.Int.{int_min, int_max}
use Rattle.std.specs.List.{AllByRecursion}
use Rattle.refusal.specs.declared.Refusal.{Refusal}
use Rattle.refusal.specs.declared.Refusal.TheVariants.{Live, Full}
use Rattle.refusal.specs.Numbers.{number}
use Rattle.zorder.specs.Code.{bit_at}
use Rattle.zorder.specs.Sharing.{on_each}
use Rattle.zorder.specs.Halves.{half}
use Rattle.kinds.specs.Kind.{Kind, wide, code_of}
use Rattle.page.specs.Form.{Summary, data_view, directory_view, encode, times}
use Rattle.page.specs.Checks.{summary}
use Rattle.tree.specs.Sets.{live}
use Rattle.tree.specs.Tree.{Depth}
use Rattle.tree.specs.Laid.{Laid, data_at, numbers, way}
use Rattle.tree.specs.Lawful.{Card, entry, Shows, KeptBut}
use Rattle.growth.specs.Grows.{Grows}
use Rattle.access.specs.Reached.{chosen, Reached}
use Rattle.put.specs.declared.insert.Grown.{Grown}
use Rattle.put.specs.declared.spare.Spare.{Spare}
use Rattle.put.specs.Spares.{spares}

-- which of the pages at hand are used
abbrev pub Uses : Option Spare → Option Spare → ℕ → ℕ → List ℕ → Type 0
Uses spare None f g new = new ≡ []
Uses spare (Some x) f g new = (spare ≡ Some x) × (x.fork ≡ f) × (x.leaf ≡ g) × (new ≡ f ∷ (g ∷ []))

module _ {P : Type 0} (k : Kind P) where
  -- the entry of a part with one point more, which begins at page q
  abbrev pub widened : ℕ → P → Summary → Summary
  widened q p e = record { page = q; count = e.count + 1; low = on_each int_min (k.coords p) e.low; high = on_each int_max (k.coords p) e.high }

  -- The card with p beside a tree of entry e, with which it shares m first bits: a new data page with p alone, and a new directory page above both.
  abbrev pub card_beside : Card → Spare → ℕ → P → Summary → Card
  card_beside before x m p e =
      slice_set (slice_set before x.leaf (encode k (data_view (k.coords p ∷ []))))
      x.fork (encode k (directory_view m (chosen (bit_at (wide k) m (code_of k p)) (entry k (data_at x.leaf (p ∷ []))) e) (chosen (bit_at (wide k) m (code_of k p)) e (entry k (data_at x.leaf (p ∷ []))))))

  -- not all codes are equal
  abbrev pub Mixed : List P → Type 0
  Mixed ps = (c : ℕ) → AllByRecursion (λ q. code_of k q ≡ c) ps → ⊥

  -- The points are split at their depth: the page keeps the low half, the new data page has the high half, and the new directory page leads to both.
  pub record Split (before : Card) (ps : List P) (q : ℕ) (x : Spare) (r : Grown P) (after : Card) : Type 0 where
    pub depth : ℕ
    pub deep : Depth (code_of k) (wide k) depth ps
    pub entry_is : summary k r.entry ≡ entry k (data_at x.fork ps)
    pub used : r.used ≡ Some x
    pub written : after ≡
        slice_set (slice_set (slice_set before q (encode k (data_view (map k.coords (half (code_of k) (wide k) depth 0 ps)))))
        x.leaf (encode k (data_view (map k.coords (half (code_of k) (wide k) depth 1 ps)))))
        x.fork (encode k (directory_view depth (entry k (data_at q (half (code_of k) (wide k) depth 0 ps))) (entry k (data_at x.leaf (half (code_of k) (wide k) depth 1 ps)))))

  -- A part of the tree is reached, and a point may be put into it: its number still fits, and the pages at hand are not its own.
  pub record Growing (card : Card) (ps : List P) (e : Summary) (spare : Option Spare) (above : ℕ) (t : Laid P) : Type 0 where
    pub reached : Reached k card ps e above t
    pub few : suc (length ps) < 2 ^ 32
    pub once : (q : ℕ) → times q (spares spare ++ numbers t) ≤ 1

  -- The point is live; or the tree needs two pages more and they are not at hand; or the tree has grown, and only new pages and pages of the way differ.
  pub data PutEnd (card : Card) (ps : List P) (p : P) (spare : Option Spare) (t : Laid P) : Result (Grown P) Refusal → Card → Type 0 where
    taken : live (code_of k) p ps ≡ true → PutEnd card ps p spare t (Err Live) card
    full : (f g : ℕ) {u : Laid P} → live (code_of k) p ps ≡ false → Grows (code_of k) (wide k) k.capacity p f g t u (f ∷ (g ∷ [])) → spare ≡ None → PutEnd card ps p spare t (Err Full) card
    grew : (f g : ℕ) {u : Laid P} {new : List ℕ} {r : Grown P} {after : Card} → live (code_of k) p ps ≡ false → Grows (code_of k) (wide k) k.capacity p f g t u new → Uses spare r.used f g new
        → summary k r.entry ≡ entry k u → Shows k after u → KeptBut (new ++ way (code_of k) (wide k) t p) card after → PutEnd card ps p spare t (Ok r) after

-- On any card: a refusal is 9, 4 or 6 and keeps all pages; else the number of pages is kept.
abbrev pub AnyEnd : {X : Type 0} → Card → Result X Refusal → Card → Type 0
AnyEnd before (Err e) after = (after ≡ before) × ((number e ≡ 9) ⊎ (number e ≡ 4) ⊎ (number e ≡ 6))
AnyEnd before (Ok r) after = length after ≡ length before
