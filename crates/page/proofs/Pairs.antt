-- The parts of a directory page.
use Rattle.std.proofs.Common.{◌≡◌, ℕ, ◌+◌, ◌-◌, ◌*◌, ◌≤◌, List, ◌∷◌, ◌++◌, length, get_or, take, drop, replicate, sym, ap, ◌∙◌, append_assoc, arith, length-append, length-drop}
use Rattle.std.proofs.lemmas.List.{take_at, take_all, drop_at}
use Rattle.kinds.specs.Bytes.{form, size}
use Rattle.kinds.specs.Kind.{Kind, Sound}
use Rattle.page.specs.Form.{Summary}
use Rattle.page.specs.Fields.{EntryFields, DirectoryFields}
use Rattle.page.specs.Form.{View, free_view, data_view, directory_view, head_view, entry_bytes, encode}
use Rattle.page.specs.Fields.{Small, Reads}
use Rattle.kinds.proofs.Byteform.{form_length}
use Rattle.page.proofs.Runs.{drop_plus, take_drop, two_first}

-- the parts as the code cuts them, at a size that is the entry's
pub cut_low : (bs : List ℕ) (z : ℕ) → take ((2 + z) - 2) (drop 2 bs) ≡ take z (drop 2 bs)
cut_low bs z = let e : (2 + z) - 2 ≡ z = omega arith in ap (λ n. take n (drop 2 bs)) e

pub cut_high : (bs : List ℕ) (z : ℕ) → take ((2 + 2 * z) - (2 + z)) (drop (2 + z) bs) ≡ take z (drop z (drop 2 bs))
cut_high bs z = let e : (2 + 2 * z) - (2 + z) ≡ z = omega arith in ap (λ n. take n (drop (2 + z) bs)) e ∙ ap (take z) (drop_plus 2 z bs)

pub cut_tail : (bs : List ℕ) (n z : ℕ) → length bs ≡ n → take (n - (2 + 2 * z)) (drop (2 + 2 * z) bs) ≡ drop z (drop z (drop 2 bs))
cut_tail bs n z whole =
    let l = length-drop (2 + 2 * z) bs in
    let e : 2 + 2 * z ≡ 2 + (z + z) = omega arith in
    take_all (n - (2 + 2 * z)) (drop (2 + 2 * z) bs) (omega arith) ∙ ap (λ i. drop i bs) e ∙ drop_plus 2 (z + z) bs ∙ drop_plus z z (drop 2 bs)

module _ {P : Type 0} (k : Kind P) (bs : List ℕ) where
  pub entry_size : (e : Summary) → EntryFields k e → length (entry_bytes k e) ≡ 6 + 2 * size k.axes
  unfolding entry_bytes
  entry_size e f =
      let a = form_length k.axes e.low f.low_on in
      let b = form_length k.axes e.high f.high_on in
      let c = length-append (form k.axes e.low) (form k.axes e.high) in
      omega arith

  pub record IsDirectory : Type 0 where
    pub depth : ℕ
    pub low_entry : Summary
    pub high_entry : Summary
    pub reads : Reads k bs (directory_view depth low_entry high_entry)

  pub directory_only : Sound k → get_or bs 0 0 ≡ k.directory_kind → (v : View) → Reads k bs v → IsDirectory
  unfolding encode
  directory_only laws e (free_view n) r = let a = laws.page_kinds.1.0 in let b : get_or bs 0 0 ≡ 0 = ap (λ x. get_or x 0 0) r.bytes_are in absurd (omega arith)
  directory_only laws e (data_view qs) r = absurd (laws.different.0 (sym (ap (λ x. get_or x 0 0) r.bytes_are) ∙ e))
  directory_only laws e (directory_view n l h) r = record { depth = n; low_entry = l; high_entry = h; reads = r }
  directory_only laws e (head_view f c o) r = absurd (laws.different.2 (sym e ∙ ap (λ x. get_or x 0 0) r.bytes_are))

  pub depth_is : (d : IsDirectory) → get_or bs 1 0 ≡ d.depth
  unfolding encode
  depth_is d = ap (λ x. get_or x 1 0) d.reads.bytes_are

  body_is : (d : IsDirectory) → (m : ℕ) × (drop 2 bs ≡ entry_bytes k d.low_entry ++ (entry_bytes k d.high_entry ++ replicate m 0))
  unfolding encode
  body_is d =
      let l = d.low_entry in
      let h = d.high_entry in
      let m = 64 - length (k.directory_kind ∷ (d.depth ∷ (entry_bytes k l ++ entry_bytes k h))) in
      (m, ap (drop 2) d.reads.bytes_are ∙ append_assoc (entry_bytes k l) (entry_bytes k h) (replicate m 0))

  module _ (z : ℕ) (e : z ≡ 6 + 2 * size k.axes) (d : IsDirectory) where
    low_size : length (entry_bytes k d.low_entry) ≡ z
    low_size = entry_size d.low_entry d.reads.fields.0.low_entry ∙ sym e

    high_size : length (entry_bytes k d.high_entry) ≡ z
    high_size = entry_size d.high_entry d.reads.fields.0.high_entry ∙ sym e

    pub low_is : entry_bytes k d.low_entry ≡ take z (drop 2 bs)
    low_is = let b = body_is d in sym (ap (take z) b.1 ∙ take_at (entry_bytes k d.low_entry) (entry_bytes k d.high_entry ++ replicate b.0 0) z low_size)

    after_low : drop z (drop 2 bs) ≡ entry_bytes k d.high_entry ++ replicate (body_is d).0 0
    after_low = let b = body_is d in ap (drop z) b.1 ∙ drop_at (entry_bytes k d.low_entry) (entry_bytes k d.high_entry ++ replicate b.0 0) z low_size

    pub high_is : entry_bytes k d.high_entry ≡ take z (drop z (drop 2 bs))
    high_is = sym (ap (take z) after_low ∙ take_at (entry_bytes k d.high_entry) (replicate (body_is d).0 0) z high_size)

    pub tail_is : (m : ℕ) × (drop z (drop z (drop 2 bs)) ≡ replicate m 0)
    tail_is = ((body_is d).0, ap (drop z) after_low ∙ drop_at (entry_bytes k d.high_entry) (replicate (body_is d).0 0) z high_size)

  -- the page made of its parts
  pub directory_reads : (n z : ℕ) (l h : Summary) → length bs ≡ 64 → get_or bs 0 0 ≡ k.directory_kind → get_or bs 1 0 ≡ n → z ≡ 6 + 2 * size k.axes → 2 + 2 * z ≤ 64 → DirectoryFields k n l h → Small k l → Small k h
      → entry_bytes k l ≡ take z (drop 2 bs) → entry_bytes k h ≡ take z (drop z (drop 2 bs)) → drop z (drop z (drop 2 bs)) ≡ replicate (length (drop z (drop z (drop 2 bs)))) 0 → Reads k bs (directory_view n l h)
  unfolding encode
  directory_reads n z l h whole kind c e fit fields sl sh lo hi tail =
      let X = drop 2 bs in
      let B = entry_bytes k l ++ entry_bytes k h in
      let a = entry_size l fields.low_entry in
      let b = entry_size h fields.high_entry in
      let bl = length-append (entry_bytes k l) (entry_bytes k h) in
      let tl : length (drop z (drop z X)) ≡ 64 - length (k.directory_kind ∷ (n ∷ B)) =
      let p = length-drop z (drop z X) in let q = length-drop z X in let r = length-drop 2 bs in omega arith in
      let body : X ≡ B ++ replicate (64 - length (k.directory_kind ∷ (n ∷ B))) 0 =
      sym (take_drop z X) ∙ ap (λ x. x ++ drop z X) (sym lo) ∙ ap (λ x. entry_bytes k l ++ x) (sym (take_drop z (drop z X)) ∙ ap (λ x. x ++ drop z (drop z X)) (sym hi) ∙ ap (λ x. entry_bytes k h ++ x) (tail ∙ ap (λ i. replicate i 0) tl))
      ∙ sym (append_assoc (entry_bytes k l) (entry_bytes k h) (replicate (64 - length (k.directory_kind ∷ (n ∷ B))) 0)) in
      record {
        fields = (fields, sl, sh);
        bytes_are = two_first k bs bs (omega arith) ∙ ap (λ x. x ∷ (get_or bs 1 0 ∷ X)) kind ∙ ap (λ x. k.directory_kind ∷ (x ∷ X)) c ∙ ap (λ x. k.directory_kind ∷ (n ∷ x)) body;
      }
