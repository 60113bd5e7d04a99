-- The plain book: a set of points, the number of pages of the card, and what each call answers from these and its arguments alone. Refusals are their numbers; the book never answers 9.
use Rattle.std.specs.Prelude.{◌≡◌, ℕ, suc, ◌+◌, ◌<◌, ◌≤◌, Bool, true, ◌&&◌, List, [], ◌∷◌, ◌++◌, length, take, drop, ℤ, Some, None, Ok, Err, filter, Option, Result, bit_xor, int_le}
use Rattle.std.specs.Int.Count.{count_leading_zeros}
use Rattle.std.specs.List.{ContainsAt as Has}
use Rattle.zorder.specs.Code.{code}
use Rattle.zorder.specs.Sharing.{Under}
use Rattle.kinds.specs.Bytes.{bytes, form}
use Rattle.kinds.specs.Kind.{Kind, On, Whether, wide, code_of, low_corner, high_corner}
use Rattle.tree.specs.Sets.{with_point}
use Rattle.tree.specs.Tree.{Tree, leaf, node, points, OptionalTreeOf, count_pages, count_data, count_directories}

-- no coordinate is above that of the other point
abbrev pub no_higher : List ℤ → List ℤ → Bool
no_higher [] ys = true
no_higher (x ∷ xs) [] = true
no_higher (x ∷ xs) (y ∷ ys) = int_le x y && no_higher xs ys

-- a buffer after its first places were written
abbrev pub written : {X : Type 0} → List X → List X → List X
written new old = new ++ drop (length new) old

-- What a pick gives of the points of its window: one of them, which one is open; none exactly if there is none.
abbrev pub PicksFrom : {P : Type 0} → List P → Option P → Type 0
PicksFrom ps None = ps ≡ []
PicksFrom ps (Some p) = Has ps p

-- What a list gives of them: how many were written into a buffer of so many places after `skip` were passed over, and how many there are.
abbrev pub ListsFrom : {P : Type 0} → ℕ → ℕ → List P → ℕ × ℕ → Type 0
ListsFrom skip places ps (given, all) = (given ≡ length (take places (drop skip ps))) × (all ≡ length ps)

-- What a count gives of them: how many there are.
abbrev pub CountsFrom : {P : Type 0} → List P → ℕ → Type 0
CountsFrom ps n = n ≡ length ps

module _ {P : Type 0} (k : Kind P) where
  -- The points of a set in a window of two corners, both ends included, in rising code.
  abbrev pub windowed : P → P → List P → List P
  windowed low high set = filter (λ p. no_higher (k.coords low) (k.coords p) && no_higher (k.coords p) (k.coords high)) set

  -- One record of the outline: kind (1 data, 2 directory), number of points (4 bytes), first bits that the corners' codes share (1), low corner, high corner.
  abbrev pub outline_record : ℕ → List P → List ℕ
  outline_record sort ps =
      sort ∷ (bytes 4 (length ps) ++ (count_leading_zeros (wide k) (bit_xor (code k.axes (low_corner k ps)) (code k.axes (high_corner k ps)))
      ∷ (form k.axes (low_corner k ps) ++ form k.axes (high_corner k ps))))

  -- A record for each page of the tree: the page, its low half's pages, its high half's.
  abbrev pub outline : Tree P → List ℕ
  outline (leaf ps) = outline_record 1 ps
  outline (node n l h) = outline_record 2 (points l ++ points h) ++ (outline l ++ outline h)

  abbrev pub outline_of : Option (Tree P) → List ℕ
  outline_of None = []
  outline_of (Some t) = outline t

  module _ (total : ℕ) (set : List P) where
    -- Put: 3 off an axis, then 4 if the point is live, then 6 if the tree with the point needs more pages than follow the head.
    pub data Puts (p : P) : Result Unit ℕ → Type 0 where
      put_off : (On k p → ⊥) → Puts p (Err 3)
      put_live : On k p → Has set p → Puts p (Err 4)
      put_full : (o : Option (Tree P)) → On k p → (Has set p → ⊥) → OptionalTreeOf k (with_point (code_of k) p set) o → total ≤ count_pages o → Puts p (Err 6)
      put_done : (o : Option (Tree P)) → On k p → (Has set p → ⊥) → OptionalTreeOf k (with_point (code_of k) p set) o → count_pages o < total → Puts p (Ok tt)

    -- Take: 3 off an axis, then 5 if the point is not live.
    pub data Takes (p : P) : Result Unit ℕ → Type 0 where
      take_off : (On k p → ⊥) → Takes p (Err 3)
      take_absent : On k p → (Has set p → ⊥) → Takes p (Err 5)
      take_done : On k p → Has set p → Takes p (Ok tt)

    -- Ask: 3 off an axis, else whether the point is live.
    pub data Asks (p : P) : Result Bool ℕ → Type 0 where
      ask_off : (On k p → ⊥) → Asks p (Err 3)
      ask_done : {b : Bool} → On k p → Whether b (Has set p) → Asks p (Ok b)

    -- A call on a window: 3 if a corner is off an axis, then 2 if the low corner exceeds the high one on some axis, else what the window's points give.
    pub data InWindow {X : Type 0} (low high : P) (Gives : List P → X → Type 0) : Result X ℕ → Type 0 where
      low_off : (On k low → ⊥) → InWindow low high Gives (Err 3)
      high_off : (On k high → ⊥) → InWindow low high Gives (Err 3)
      crossed : On k low → On k high → (Under (k.coords low) (k.coords high) → ⊥) → InWindow low high Gives (Err 2)
      in_it : {x : X} → On k low → On k high → Under (k.coords low) (k.coords high) → Gives (windowed low high set) x → InWindow low high Gives (Ok x)

    -- Pick: a point of the window, which one is open; none exactly if there is none.
    abbrev pub Picks : List P → Option P → Type 0
    Picks ps None = ps ≡ []
    Picks ps (Some p) = Has ps p

    -- List: how many points were written into a buffer of so many places after `skip` were passed over, and how many are in the window.
    abbrev pub Lists : ℕ → ℕ → List P → ℕ × ℕ → Type 0
    Lists skip places ps (given, all) = (given ≡ length (take places (drop skip ps))) × (all ≡ length ps)

    -- Count: how many points are in the window.
    abbrev pub Counts : List P → ℕ → Type 0
    Counts ps n = n ≡ length ps

    -- Tally: points, data pages, directory pages and free pages; with the head these pages are all.
    pub record Tallies (points data_pages directory_pages free_pages : ℕ) : Type 0 where
      pub all_points : points ≡ length set
      pub all_data : (o : Option (Tree P)) → OptionalTreeOf k set o → data_pages ≡ count_data o
      pub all_directories : (o : Option (Tree P)) → OptionalTreeOf k set o → directory_pages ≡ count_directories o
      pub all_pages : (o : Option (Tree P)) → OptionalTreeOf k set o → suc (count_pages o + free_pages) ≡ total

    -- Outline: 7 if the buffer is too short, else the bytes of the outline at its front.
    pub data Outlines (before : List ℕ) : Result ℕ ℕ → List ℕ → Type 0 where
      too_short : (o : Option (Tree P)) → OptionalTreeOf k set o → length before < length (outline_of o) → Outlines before (Err 7) before
      outlined : (o : Option (Tree P)) → OptionalTreeOf k set o → length (outline_of o) ≤ length before → Outlines before (Ok (length (outline_of o))) (written (outline_of o) before)
