-- What reading a page and its parts answers.
use Rattle.std.specs.Prelude.{◌≡◌, ℕ, ◌<◌, ◌≤◌, Bool, true, false, List, [], ◌∷◌, length, replicate, Some, None, Ok, Err, Option, Result, ◌≢◌, slice_index, slice_index_or}
use Rattle.std.specs.List.{ContainsAt as Has}
use Rattle.zorder.specs.Code.{code}
use Rattle.zorder.specs.Halves.{Rising}
use Rattle.zorder.specs.Sharing.{least_corner, greatest_corner}
use Rattle.kinds.specs.Kind.{Kind, On, Whether}
use Rattle.kinds.specs.Bytes.{form}
use Rattle.page.specs.declared.entry.Entry.{Entry}
use Rattle.page.specs.declared.directory_page.Fork.{Fork}
use Rattle.page.specs.declared.head_page.Head.{Head}
use Rattle.page.specs.declared.tree_page.Node.{Node}
use Rattle.page.specs.declared.tree_page.Node.TheVariants as tree_page
use Rattle.page.specs.declared.fault.PageFault.{PageFault}
use Rattle.page.specs.declared.fault.PageFault.TheVariants as fault
use Rattle.page.specs.Form.{Point, Summary, View, free_view, data_view, directory_view, head_view, entry_bytes, times}
use Rattle.page.specs.Fields.{EntryFields, Small, Reads}
use Rattle.page.specs.Causes.{EntryCause, Cause, OffAxes}

-- the corners of some points; no points have none
abbrev pub low_of : List Point → Point
low_of [] = []
low_of (p ∷ ps) = least_corner p ps

abbrev pub high_of : List Point → Point
high_of [] = []
high_of (p ∷ ps) = greatest_corner p ps

-- a part that is shown where it is not all zero bytes
abbrev pub RootShown : {X : Type 0} → List ℕ → (X → List ℕ) → Option X → Type 0
RootShown bs bytes_of (Some x) = (bytes_of x ≡ bs) × (bs ≢ replicate (length bs) 0)
RootShown bs bytes_of None = bs ≡ replicate (length bs) 0

module _ {P : Type 0} (k : Kind P) where
  -- no view has these bytes
  abbrev pub Senseless : List ℕ → Type 0
  Senseless bs = (v : View) → Reads k bs v → ⊥

  -- A page where one of some kinds is expected: what was read, or the fault. It is of another kind, or of an expected kind and senseless, for one of the causes there are.
  abbrev pub Checked : {X : Type 0} → ℕ → List ℕ → List ℕ → (X → Type 0) → Result X PageFault → Type 0
  Checked page kinds bs good (Ok x) = (1 ≤ times (slice_index bs 0) kinds) × good x
  Checked page kinds bs good (Err (fault.Store f)) = ⊥
  Checked page kinds bs good (Err (fault.Kind q)) = (q ≡ page) × (times (slice_index bs 0) kinds ≡ 0)
  Checked page kinds bs good (Err (fault.Field q)) = (q ≡ page) × (1 ≤ times (slice_index bs 0) kinds) × Senseless bs × Cause k bs

  abbrev pub IsData : List ℕ → Type 0
  IsData bs = (ps : List Point) × Reads k bs (data_view ps)

  abbrev pub IsDirectory : List ℕ → Type 0
  IsDirectory bs = (n : ℕ) × (l : Summary) × (h : Summary) × Reads k bs (directory_view n l h)

  -- the point that has these bytes; none where no point on the axes has
  abbrev pub PointRead : List ℕ → Option P → Type 0
  PointRead bs (Some p) = On k p × (form k.axes (k.coords p) ≡ bs)
  PointRead bs None = OffAxes k bs

  -- what an entry that the code has says
  abbrev pub summary : Entry P → Summary
  summary e = record { page = e.page; count = e.count; low = k.coords e.low; high = k.coords e.high }

  -- an entry with its fields in range has these bytes
  abbrev pub EntryShown : List ℕ → Summary → Type 0
  EntryShown bs e = EntryFields k e × Small k e × (entry_bytes k e ≡ bs)

  -- the entry that has these bytes, with its fields in range; none where there is none, for one of the causes there are
  abbrev pub EntryRead : List ℕ → Option (Entry P) → Type 0
  EntryRead bs (Some e) = EntryShown bs (summary e)
  EntryRead bs None = ((e : Summary) → EntryShown bs e → ⊥) × EntryCause k bs

  -- the next free page, or bytes of no page at all, with the cause
  abbrev pub FreeRead : List ℕ → Option ℕ → Type 0
  FreeRead bs (Some next) = Reads k bs (free_view next)
  FreeRead bs None = Senseless bs × Cause k bs

  -- whether the bytes are those of a data page: of one, or of no page at all, with the cause
  abbrev pub DataRead : List ℕ → Bool → Type 0
  DataRead bs true = IsData bs
  DataRead bs false = Senseless bs × Cause k bs

  -- a directory page, or bytes of no page at all, with the cause
  abbrev pub DirectoryRead : List ℕ → Option (Fork P) → Type 0
  DirectoryRead bs (Some x) = Reads k bs (directory_view x.depth (summary x.low) (summary x.high))
  DirectoryRead bs None = Senseless bs × Cause k bs

  -- the root entry that the code has
  abbrev pub root_summary : Option (Entry P) → Option Summary
  root_summary None = None
  root_summary (Some e) = Some (summary e)

  abbrev pub IsHead : List ℕ → Type 0
  IsHead bs = (first : ℕ) × (free : ℕ) × (root : Option Summary) × Reads k bs (head_view first free root)

  -- the head, or bytes of no page at all, with the cause
  abbrev pub HeadRead : List ℕ → Option (Head P) → Type 0
  HeadRead bs (Some x) = Reads k bs (head_view x.first x.free (root_summary x.root))
  HeadRead bs None = Senseless bs × Cause k bs

  -- a page of the tree
  abbrev pub NodeRead : List ℕ → Node P → Type 0
  NodeRead bs tree_page.Data = IsData bs
  NodeRead bs (tree_page.Directory x) = DirectoryRead bs (Some x)

  -- what holds of the entry that these bytes are, if they are one
  abbrev pub InEntry : List ℕ → (Summary → Type 0) → Type 0
  InEntry bs Q = (e : Summary) → EntryShown bs e → Q e

  -- what holds of the directory page that these bytes are, if they are one
  abbrev pub InDirectory : List ℕ → (ℕ → Summary → Summary → Type 0) → Type 0
  InDirectory bs Q = (n : ℕ) (l h : Summary) → Reads k bs (directory_view n l h) → Q n l h

  -- what holds of the head that these bytes are, if they are one
  abbrev pub InHead : List ℕ → (ℕ → ℕ → Option Summary → Type 0) → Type 0
  InHead bs Q = (first : ℕ) (free : ℕ) (root : Option Summary) → Reads k bs (head_view first free root) → Q first free root

  -- the corner that was asked for
  abbrev pub PointIs : Point → Option P → Type 0
  PointIs q (Some p) = k.coords p ≡ q
  PointIs q None = ⊥

  -- the entry that was asked for
  abbrev pub EntryIs : Summary → Option (Entry P) → Type 0
  EntryIs e (Some x) = summary x ≡ e
  EntryIs e None = ⊥

  -- the root entry that was asked for, shown by its bytes; none in an empty draft
  abbrev pub RootIs : {X : Type 0} → (X → List ℕ) → Option Summary → Option X → Type 0
  RootIs bytes_of None None = Unit {0}
  RootIs bytes_of None (Some x) = ⊥
  RootIs bytes_of (Some e) None = ⊥
  RootIs bytes_of (Some e) (Some x) = bytes_of x ≡ entry_bytes k e

  -- the point at a place of a data page
  abbrev pub PointAt : List Point → ℕ → Option P → Type 0
  PointAt ps i (Some p) = (i < length ps) × (k.coords p ≡ slice_index_or ps i [])
  PointAt ps i None = length ps ≤ i

  -- the corners of points whose codes strictly rise; none where they do not
  abbrev pub Cornered : List Point → Option (P × P) → Type 0
  Cornered ps (Some x) = Rising (code k.axes) ps × (k.coords x.0 ≡ low_of ps) × (k.coords x.1 ≡ high_of ps)
  Cornered ps None = Rising (code k.axes) ps → ⊥

  -- whether a point is among points whose codes strictly rise
  abbrev pub Held : List Point → P → Bool → Type 0
  Held ps p r = Rising (code k.axes) ps → Whether r (Has ps (k.coords p))
