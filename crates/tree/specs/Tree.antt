-- The halving rule: the tree of a set of points, whose codes have w bits, with at most b points to a data page.
use Rattle.std.specs.Prelude.{◌≡◌, ℕ, ◌+◌, ◌<◌, ◌≤◌, List, [], ◌∷◌, ◌++◌, map, length, Some, None, Option}
use Rattle.zorder.specs.Sharing.{Common}
use Rattle.zorder.specs.Halves.{half}
use Rattle.kinds.specs.Kind.{Kind, wide, code_of}

-- A data page with its points, or a directory page with its depth, its low half and its high half.
pub data Tree (P : Type 0) : Type 0 where
  leaf : List P → Tree P
  node : ℕ → Tree P → Tree P → Tree P

module _ {P : Type 0} where
  -- the points of a tree: the low half's, then the high half's
  abbrev pub points : Tree P → List P
  points (leaf ps) = ps
  points (node n l h) = points l ++ points h

  abbrev pub data_pages : Tree P → ℕ
  data_pages (leaf ps) = 1
  data_pages (node n l h) = data_pages l + data_pages h

  abbrev pub directory_pages : Tree P → ℕ
  directory_pages (leaf ps) = 0
  directory_pages (node n l h) = 1 + (directory_pages l + directory_pages h)

module _ {P : Type 0} (code : P → ℕ) (w : ℕ) where
  -- n is the number of first bits that all the codes share
  abbrev pub Depth : ℕ → List P → Type 0
  Depth n [] = ⊥
  Depth n (p ∷ ps) = Common w n (code p) (map code ps)

module _ {P : Type 0} (code : P → ℕ) (w b : ℕ) where
  -- The tree of a set that is not empty. A set of 1 to b points is one data page with its points in rising code. A larger set is one directory page:
  -- its depth n is the number of first bits that all its codes share, its low half has the points whose bit n is 0, its high half those whose bit n is 1.
  pub data Halved : List P → Tree P → Type 0 where
    one_page : {ps : List P} → 1 ≤ length ps → length ps ≤ b → Halved ps (leaf ps)
    halves : {ps : List P} {n : ℕ} {l h : Tree P} → b < length ps → Depth code w n ps → Halved (half code w n 0 ps) l → Halved (half code w n 1 ps) h → Halved ps (node n l h)

-- The tree of a set of points of a kind.
abbrev pub TreeOf : {P : Type 0} → Kind P → List P → Tree P → Type 0
TreeOf k ps t = Halved (code_of k) (wide k) k.capacity ps t

-- The tree of a set, none for an empty set: it has no page.
abbrev pub OptionalTreeOf : {P : Type 0} → Kind P → List P → Option (Tree P) → Type 0
OptionalTreeOf k set None = set ≡ []
OptionalTreeOf k set (Some t) = TreeOf k set t

-- How many pages a tree has; no tree has none.
abbrev pub count_pages : {P : Type 0} → Option (Tree P) → ℕ
count_pages None = 0
count_pages (Some t) = data_pages t + directory_pages t

-- How many of them are data pages, and how many directory pages.
abbrev pub count_data : {P : Type 0} → Option (Tree P) → ℕ
count_data None = 0
count_data (Some t) = data_pages t

abbrev pub count_directories : {P : Type 0} → Option (Tree P) → ℕ
count_directories None = 0
count_directories (Some t) = directory_pages t
