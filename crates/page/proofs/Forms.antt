-- The laws of the page format.
use Rattle.std.proofs.Common.{ℕ, zero, suc, ◌+◌, ◌-◌, ◌*◌, ◌/◌, ◌<◌, ◌≤◌, List, [], ◌∷◌, ◌++◌, length, replicate, ℤ, Some, None, Option, sym, refl, ◌∙◌, subst, mul-le-mul_right, arith, length-append}
use Rattle.std.specs.List.{flat_map, AllByRecursion}
use Rattle.std.proofs.ByRecursion.{All-append}
use Rattle.zorder.specs.Code.{Axis}
use Rattle.kinds.specs.Bytes.{bytes, complement, form, size}
use Rattle.kinds.specs.Kind.{Kind, Sound}
use Rattle.page.specs.Form.{Point, Summary, View, free_view, data_view, directory_view, head_view, entry_bytes, root_bytes, kind_byte, body, encode}
use Rattle.page.specs.Fields.{Fields}
use Rattle.page.specs.Laws.{LongLaw, ByteLaw, BackLaw, ForthLaw}
use Rattle.page.proofs.Views.{one_view_law}
use Rattle.page.proofs.Runs.{forms, joined_length}
use Rattle.page.proofs.Pairs.{entry_size}
use Rattle.page.proofs.Ends.{none_zeros, root_size}
use Rattle.page.proofs.Writing.{padded_long}

-- numbers that are bytes
abbrev Bytes : List ℕ → Type 0
Bytes xs = AllByRecursion (λ b. b < 256) xs

number_bytes : (n x : ℕ) → Bytes (bytes n x)
number_bytes zero x = tt
number_bytes (suc n) x = (omega arith, number_bytes n (x / 256))

zero_bytes : (n : ℕ) → Bytes (replicate n 0)
zero_bytes zero = tt
zero_bytes (suc n) = (omega arith, zero_bytes n)

point_bytes : (axs : List Axis) (p : List ℤ) → Bytes (form axs p)
point_bytes [] p = tt
point_bytes (a ∷ axs) [] = tt
point_bytes (a ∷ axs) (z ∷ p) = All-append _ (bytes a.bytes (complement a.bytes z)) (form axs p) (number_bytes a.bytes (complement a.bytes z)) (point_bytes axs p)

points_bytes : (axs : List Axis) (ps : List Point) → Bytes (flat_map (form axs) ps)
points_bytes axs [] = tt
points_bytes axs (p ∷ ps) = All-append _ (form axs p) (flat_map (form axs) ps) (point_bytes axs p) (points_bytes axs ps)

module _ {P : Type 0} (k : Kind P) (laws : Sound k) where
  -- a page and its body fit 64 bytes
  fits : (v : View) → Fields k v → length (kind_byte k v ∷ body k v) ≤ 64
  fits (free_view n) f = omega arith
  fits (data_view ps) f =
      let j = joined_length (form k.axes) (size k.axes) ps (forms k [] ps f.on_axes) in
      let m : length ps * size k.axes ≤ k.capacity * size k.axes = mul-le-mul_right (size k.axes) f.fit in
      let room = laws.data_fits in omega arith
  fits (directory_view n l h) f =
      let a = entry_size k [] l f.0.low_entry in
      let b = entry_size k [] h f.0.high_entry in
      let c = length-append (entry_bytes k l) (entry_bytes k h) in
      let room = laws.directory_fits in omega arith
  fits (head_view n c r) f = let a = root_size k [] r f.2 in let room = laws.head_fits in omega arith

  pub long_law : LongLaw k
  unfolding encode
  long_law v f = padded_long (kind_byte k v ∷ body k v) (fits v f)

  an_entry : (e : Summary) → Bytes (entry_bytes k e)
  unfolding entry_bytes
  an_entry e =
      All-append _ (bytes 2 e.page) (bytes 4 e.count ++ (form k.axes e.low ++ form k.axes e.high)) (number_bytes 2 e.page)
      (All-append _ (bytes 4 e.count) (form k.axes e.low ++ form k.axes e.high) (number_bytes 4 e.count)
      (All-append _ (form k.axes e.low) (form k.axes e.high) (point_bytes k.axes e.low) (point_bytes k.axes e.high)))

  a_root : (r : Option Summary) → Bytes (root_bytes k r)
  a_root None = subst Bytes (sym (none_zeros k [])) (zero_bytes (6 + 2 * size k.axes))
  a_root (Some e) = an_entry e

  a_page : (v : View) → Fields k v → Bytes (kind_byte k v ∷ body k v)
  a_page (free_view n) f = (omega arith, number_bytes 2 n)
  a_page (data_view ps) f = let a = laws.page_kinds.0.1 in let b = laws.small in let c = f.fit in (omega arith, (omega arith, points_bytes k.axes ps))
  a_page (directory_view n l h) f =
      let a = laws.page_kinds.1.1 in
      let b = laws.few in
      let c = f.0.shallow in
      (omega arith, (omega arith, All-append _ (entry_bytes k l) (entry_bytes k h) (an_entry l) (an_entry h)))
  a_page (head_view n c r) f =
      let a = laws.page_kinds.2.1 in
      (omega arith, All-append _ (bytes 2 n) (bytes 2 c ++ root_bytes k r) (number_bytes 2 n) (All-append _ (bytes 2 c) (root_bytes k r) (number_bytes 2 c) (a_root r)))

  pub byte_law : ByteLaw k
  unfolding encode
  byte_law v f = All-append _ (kind_byte k v ∷ body k v) (replicate (64 - length (kind_byte k v ∷ body k v)) 0) (a_page v f) (zero_bytes (64 - length (kind_byte k v ∷ body k v)))

  pub back_law : BackLaw k
  back_law v f = (record { fields = f; bytes_are = refl }, λ w r. one_view_law P k laws (encode k v) w v r (record { fields = f; bytes_are = refl }))

  pub forth_law : ForthLaw k
  forth_law bs v r = (sym r.bytes_are, λ cs s. s.bytes_are ∙ sym r.bytes_are)
