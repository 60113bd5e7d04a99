-- The page format. A page is one byte of kind, then a body whose length the kind fixes, then zero bytes up to 64. Numbers of several bytes stand with their lowest byte first.
use Rattle.std.specs.Prelude.{ℕ, ◌+◌, ◌-◌, ◌*◌, cond, List, [], ◌∷◌, ◌++◌, length, replicate, ℤ, Some, None, Option, ◌==◌}
use Rattle.std.specs.List.{flat_map}
use Rattle.kinds.specs.Kind.{Kind, size_of}
use Rattle.kinds.specs.Bytes.{bytes, form}

-- a point is its coordinates
abbrev pub Point : Type 0
Point = List ℤ

-- What an entry says of a part of the tree: the page at which the part begins, how many points it has, and its corners.
pub record Summary : Type 0 where
  pub page : ℕ
  pub count : ℕ
  pub low : Point
  pub high : Point

-- What a page says.
pub data View : Type 0 where
  -- a free page, with the number of the next free page, 0 for the last
  free_view : ℕ → View
  -- a data page, with its points
  data_view : List Point → View
  -- a directory page, with its depth, its low entry and its high entry
  directory_view : ℕ → Summary → Summary → View
  -- the head: first free page (0 if none), number of free pages, and the root entry, none in an empty draft
  head_view : ℕ → ℕ → Option Summary → View

-- zero bytes up to 64
abbrev pub padded : List ℕ → List ℕ
padded bs = bs ++ replicate (64 - length bs) 0

-- how often a number stands in a list
abbrev pub times : ℕ → List ℕ → ℕ
times q [] = 0
times q (r ∷ rs) = cond (q == r) 1 0 + times q rs

module _ {P : Type 0} (k : Kind P) where
  -- an entry: page number (2 bytes), number of points (4), low corner, high corner
  unfoldable pub entry_bytes : Summary → List ℕ
  entry_bytes e = bytes 2 e.page ++ (bytes 4 e.count ++ (form k.axes e.low ++ form k.axes e.high))

  -- the root entry of an empty draft: as many zero bytes as an entry has
  unfoldable pub no_entry : List ℕ
  no_entry = bytes 2 0 ++ (bytes 4 0 ++ replicate (2 * size_of k) 0)

  abbrev pub root_bytes : Option Summary → List ℕ
  root_bytes None = no_entry
  root_bytes (Some e) = entry_bytes e

  -- the byte of kind
  abbrev pub kind_byte : View → ℕ
  kind_byte (free_view next) = 0
  kind_byte (data_view ps) = k.data_kind
  kind_byte (directory_view n l h) = k.directory_kind
  kind_byte (head_view first count root) = k.head_kind

  -- the body: what stands between the byte of kind and the zero bytes at the end
  abbrev pub body : View → List ℕ
  body (free_view next) = bytes 2 next
  body (data_view ps) = length ps ∷ flat_map (form k.axes) ps
  body (directory_view n l h) = n ∷ (entry_bytes l ++ entry_bytes h)
  body (head_view first count root) = bytes 2 first ++ (bytes 2 count ++ root_bytes root)

  -- the 64 bytes of a page
  unfoldable pub encode : View → List ℕ
  encode v = padded (kind_byte v ∷ body v)
