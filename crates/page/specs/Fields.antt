-- Which fields a page may have.
use Rattle.std.specs.Prelude.{◌≡◌, ℕ, ◌^◌, ◌<◌, ◌≤◌, ◌≢◌, List, length, Some, None, Option}
use Rattle.std.specs.List.{AllByRecursion}
use Rattle.zorder.specs.Code.{OnAxes}
use Rattle.zorder.specs.Sharing.{Under}
use Rattle.kinds.specs.Kind.{Kind, Sound, wide}
use Rattle.page.specs.Form.{Point, Summary, View, free_view, data_view, directory_view, head_view, entry_bytes, no_entry, encode}

module _ {P : Type 0} (k : Kind P) where
  -- a data page has 1 to b points, on their axes
  pub record DataFields (ps : List Point) : Type 0 where
    pub some : 1 ≤ length ps
    pub fit : length ps ≤ k.capacity
    pub on_axes : AllByRecursion (OnAxes k.axes) ps

  -- an entry's corners are on their axes, and the low one is nowhere above the high one
  pub record EntryFields (e : Summary) : Type 0 where
    pub low_on : OnAxes k.axes e.low
    pub high_on : OnAxes k.axes e.high
    pub uncrossed : Under e.low e.high

  -- a directory page has a depth below W, and two entries
  pub record DirectoryFields (n : ℕ) (l h : Summary) : Type 0 where
    pub shallow : n < wide k
    pub low_entry : EntryFields l
    pub high_entry : EntryFields h

  -- the numbers of an entry fit their bytes
  pub record Small (e : Summary) : Type 0 where
    pub page_fits : e.page < 65536
    pub count_fits : e.count < 2 ^ 32

  -- a root entry that is not all zero bytes is an entry
  abbrev pub RootFields : Option Summary → Type 0
  RootFields None = Unit {0}
  RootFields (Some e) = EntryFields e × Small e × (entry_bytes k e ≢ no_entry k)

  -- every field is in its range
  abbrev pub Fields : View → Type 0
  Fields (free_view next) = next < 65536
  Fields (data_view ps) = DataFields ps
  Fields (directory_view n l h) = DirectoryFields n l h × Small l × Small h
  Fields (head_view first count root) = (first < 65536) × (count < 65536) × RootFields root

  -- the bytes are those of the view, every field of which is in its range
  pub record Reads (bs : List ℕ) (v : View) : Type 0 where
    pub fields : Fields v
    pub bytes_are : bs ≡ encode k v

-- Bytes say one thing at most.
abbrev pub OneViewLaw : Type 0 → Type 0
OneViewLaw P = (k : Kind P) → Sound k → (bs : List ℕ) (v w : View) → Reads k bs v → Reads k bs w → v ≡ w
