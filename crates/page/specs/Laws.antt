-- Laws of the page format, for a kind of points.
use Rattle.std.specs.Prelude.{◌≡◌, ℕ, ◌<◌, List, length}
use Rattle.std.specs.List.{AllByRecursion}
use Rattle.kinds.specs.Kind.{Kind}
use Rattle.page.specs.Form.{Summary, View, encode}
use Rattle.page.specs.Fields.{Fields, Reads}
use Rattle.page.specs.Causes.{EntryCause, Cause}
use Rattle.page.specs.Checks.{Senseless, EntryShown}

module _ {P : Type 0} (k : Kind P) where
  -- A page whose fields are in range is written as 64 bytes, ..
  abbrev pub LongLaw : Type 0
  LongLaw = (v : View) → Fields k v → length (encode k v) ≡ 64

  -- .. each of which is a byte.
  abbrev pub ByteLaw : Type 0
  ByteLaw = (v : View) → Fields k v → AllByRecursion (λ b. b < 256) (encode k v)

  -- What was written reads back as what was meant, and as nothing else.
  abbrev pub BackLaw : Type 0
  BackLaw = (v : View) → Fields k v → Reads k (encode k v) v × ((w : View) → Reads k (encode k v) w → w ≡ v)

  -- What was read is written as the bytes that it was read from, and as no others.
  abbrev pub ForthLaw : Type 0
  ForthLaw = (bs : List ℕ) (v : View) → Reads k bs v → (encode k v ≡ bs) × ((cs : List ℕ) → Reads k cs v → cs ≡ bs)

  -- Each cause makes the bytes senseless.
  abbrev pub CausesLaw : Type 0
  CausesLaw = (bs : List ℕ) → Cause k bs → Senseless k bs

  -- Each cause makes the bytes those of no entry.
  abbrev pub EntryCausesLaw : Type 0
  EntryCausesLaw = (bs : List ℕ) → EntryCause k bs → (e : Summary) → EntryShown k bs e → ⊥
