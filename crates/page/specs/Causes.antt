-- The ways in which a page of an expected kind can be wrong.
use Rattle.std.specs.Prelude.{◌≡◌, ℕ, ◌+◌, ◌*◌, ◌<◌, ◌≤◌, ◌≢◌, List, length, take, drop, replicate, slice_index, slice_index_or}
use Rattle.zorder.specs.Code.{OnAxes}
use Rattle.zorder.specs.Sharing.{Under}
use Rattle.kinds.specs.Kind.{Kind, wide, size_of, entry_length}
use Rattle.kinds.specs.Bytes.{form}
use Rattle.page.specs.Form.{Point}

-- A byte that must be zero and is not: one at or after the place `from`.
pub record NotZero (from : ℕ) (bs : List ℕ) : Type 0 where
  pub place : ℕ
  pub after : from ≤ place
  pub within : place < length bs
  pub unlike : slice_index_or bs place 0 ≢ 0

-- All bytes are zero.
abbrev pub AllZero : List ℕ → Type 0
AllZero bs = bs ≡ replicate (length bs) 0

module _ {P : Type 0} (k : Kind P) where
  -- The bytes are those of no point whose coordinates lie on their axes.
  abbrev pub OffAxes : List ℕ → Type 0
  OffAxes bs = (p : Point) → OnAxes k.axes p → form k.axes p ≢ bs

  -- Place i of a data page.
  abbrev pub place_bytes : List ℕ → ℕ → List ℕ
  place_bytes bs i = take (size_of k) (drop (i * size_of k) (drop 2 bs))

  -- The low and the high entry of a directory page, and the root entry of the head.
  abbrev pub low_entry_bytes : List ℕ → List ℕ
  low_entry_bytes bs = take (entry_length k) (drop 2 bs)

  abbrev pub high_entry_bytes : List ℕ → List ℕ
  high_entry_bytes bs = take (entry_length k) (drop (entry_length k) (drop 2 bs))

  abbrev pub root_entry_bytes : List ℕ → List ℕ
  root_entry_bytes bs = take (entry_length k) (drop 5 bs)

  -- The low and the high corner of an entry.
  abbrev pub low_corner_bytes : List ℕ → List ℕ
  low_corner_bytes bs = take (size_of k) (drop 6 bs)

  abbrev pub high_corner_bytes : List ℕ → List ℕ
  high_corner_bytes bs = drop (size_of k) (drop 6 bs)

  -- What can be wrong with an entry.
  pub data EntryCause (bs : List ℕ) : Type 0 where
    -- the low corner is off an axis
    low_off : OffAxes (low_corner_bytes bs) → EntryCause bs
    -- the high corner is off an axis
    high_off : OffAxes (high_corner_bytes bs) → EntryCause bs
    -- both corners are on the axes, and the low one is above the high one on some axis
    crossed : (l h : Point) → OnAxes k.axes l → OnAxes k.axes h → form k.axes l ≡ low_corner_bytes bs → form k.axes h ≡ high_corner_bytes bs → (Under l h → ⊥) → EntryCause bs

  -- What can be wrong with a data page.
  pub data DataCause (bs : List ℕ) : Type 0 where
    -- it says that it has no point
    no_points : slice_index_or bs 1 0 ≡ 0 → DataCause bs
    -- it says that it has more than b points
    too_many : k.capacity < slice_index bs 1 → DataCause bs
    -- a point is off an axis
    point_off : (i : ℕ) → i < slice_index bs 1 → OffAxes (place_bytes bs i) → DataCause bs
    -- an unused place, or a byte after the body, is not zero
    data_not_zero : NotZero (2 + slice_index bs 1 * size_of k) bs → DataCause bs

  -- What can be wrong with a directory page.
  pub data DirectoryCause (bs : List ℕ) : Type 0 where
    -- the depth is W or more
    too_deep : wide k ≤ slice_index bs 1 → DirectoryCause bs
    -- the low entry is wrong
    low_wrong : EntryCause (low_entry_bytes bs) → DirectoryCause bs
    -- the high entry is wrong
    high_wrong : EntryCause (high_entry_bytes bs) → DirectoryCause bs
    -- a byte after the body is not zero
    directory_not_zero : NotZero (2 + 2 * entry_length k) bs → DirectoryCause bs

  -- What can be wrong with the head.
  pub data HeadCause (bs : List ℕ) : Type 0 where
    -- the root entry is wrong, and not that of an empty draft, which is all zero bytes
    root_wrong : (AllZero (root_entry_bytes bs) → ⊥) → EntryCause (root_entry_bytes bs) → HeadCause bs
    -- a byte after the body is not zero
    head_not_zero : NotZero (5 + entry_length k) bs → HeadCause bs

  -- What can be wrong with a page, by its kind. A free page can only have a byte after its body that is not zero.
  pub data Cause (bs : List ℕ) : Type 0 where
    free_cause : slice_index_or bs 0 0 ≡ 0 → NotZero 3 bs → Cause bs
    data_cause : slice_index_or bs 0 0 ≡ k.data_kind → DataCause bs → Cause bs
    directory_cause : slice_index_or bs 0 0 ≡ k.directory_kind → DirectoryCause bs → Cause bs
    head_cause : slice_index_or bs 0 0 ≡ k.head_kind → HeadCause bs → Cause bs
