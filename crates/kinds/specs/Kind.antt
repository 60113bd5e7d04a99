-- A point kind as a value: its axes, its capacity and its page kinds. Code, byte form and corners follow from the axes.
use Rattle.std.specs.Prelude.{◌≡◌, ℕ, ◌+◌, ◌*◌, ◌≤◌, Bool, ◌≢◌, List, [], ◌∷◌, map, length, ℤ, MatchBool}
use Rattle.std.specs.List.{AllByRecursion}
use Rattle.zorder.specs.Code.{Axis, OnAxes, code, width}
use Rattle.zorder.specs.Sharing.{Narrow, least_corner, greatest_corner}
use Rattle.kinds.specs.Bytes.{form, size, Wide}

-- What a kind with points P fixes.
pub record Kind (P : Type 0) : Type 0 where
  -- its axes, in the order of their turns
  pub axes : List Axis
  -- the coordinates of a point, one for each axis
  pub coords : P → List ℤ
  -- b, the number of points that a data page has room for
  pub capacity : ℕ
  -- the first byte of its data pages, directory pages and head page
  pub data_kind : ℕ
  pub directory_kind : ℕ
  pub head_kind : ℕ

-- r is true exactly where P holds.
abbrev pub Whether : Bool → Type 0 → Type 0
Whether r P = MatchBool r P (P → ⊥)

module _ {P : Type 0} (k : Kind P) where
  -- W, the number of bits of a code.
  abbrev pub wide : ℕ
  wide = width k.axes

  -- The code of a point.
  abbrev pub code_of : P → ℕ
  code_of p = code k.axes (k.coords p)

  -- A point whose coordinates lie on their axes.
  abbrev pub On : P → Type 0
  On p = OnAxes k.axes (k.coords p)

  -- The number of bytes of a point.
  abbrev pub size_of : ℕ
  size_of = size k.axes

  -- The bytes of a point.
  abbrev pub bytes_of : P → List ℕ
  bytes_of p = form k.axes (k.coords p)

  -- The low corner of a set, as coordinates; a set with no point has none.
  abbrev pub low_corner : List P → List ℤ
  low_corner [] = []
  low_corner (p ∷ ps) = least_corner (k.coords p) (map k.coords ps)

  -- The high corner of a set.
  abbrev pub high_corner : List P → List ℤ
  high_corner [] = []
  high_corner (p ∷ ps) = greatest_corner (k.coords p) (map k.coords ps)

  -- The length of an entry: page number (2 bytes), number of points (4), low corner, high corner.
  abbrev pub entry_length : ℕ
  entry_length = 6 + 2 * size_of

  -- The length of a data page's body: number of points (1 byte) and b places.
  abbrev pub data_body : ℕ
  data_body = 1 + k.capacity * size_of

  -- The length of a directory page's body: depth (1 byte) and two entries.
  abbrev pub directory_body : ℕ
  directory_body = 1 + 2 * entry_length

  -- The length of the head page's body: first free page (2 bytes), number of free pages (2) and one entry.
  abbrev pub head_body : ℕ
  head_body = 4 + entry_length

-- A number that can be the kind of a page: 0 is that of a free page.
abbrev pub PageKind : ℕ → Type 0
PageKind n = (1 ≤ n) × (n ≤ 255)

-- What a kind must show.
pub record Sound {P : Type 0} (k : Kind P) : Type 0 where
  -- one to four axes
  pub axes_count : (1 ≤ length k.axes) × (length k.axes ≤ 4)
  -- of 1 to 32 bits each
  pub some_bits : AllByRecursion (λ a. 1 ≤ a.bits) k.axes
  pub narrow : Narrow k.axes
  -- and at most 60 bits together
  pub few : wide k ≤ 60
  -- a data page has room for 1 to 15 points
  pub room : 1 ≤ k.capacity
  pub small : k.capacity ≤ 15
  -- three different page kinds, from 1 to 255
  pub page_kinds : PageKind k.data_kind × PageKind k.directory_kind × PageKind k.head_kind
  pub different : (k.data_kind ≢ k.directory_kind) × (k.data_kind ≢ k.head_kind) × (k.directory_kind ≢ k.head_kind)
  -- the bytes of each axis tell its coordinates apart
  pub wide_bytes : AllByRecursion Wide k.axes
  -- any coordinates on the axes make a point
  pub every_point : (zs : List ℤ) → OnAxes k.axes zs → (p : P) × (k.coords p ≡ zs)
  -- and one point only: a point is its coordinates
  pub one_point : (p q : P) → k.coords p ≡ k.coords q → p ≡ q
  -- every page, its kind byte and its body, fits 64 bytes
  pub data_fits : 1 + data_body k ≤ 64
  pub directory_fits : 1 + directory_body k ≤ 64
  pub head_fits : 1 + head_body k ≤ 64
