-- The parts of a free page and of the head.
use Rattle.std.proofs.Common.{◌≡◌, ℕ, suc, ◌+◌, ◌-◌, ◌*◌, ◌<◌, ◌≤◌, List, [], ◌∷◌, ◌++◌, length, get_or, take, drop, replicate, Some, None, Option, sym, refl, ap, ◌∙◌, arith, length-drop, length-take}
use lib.ListN.{length-replicate}
use native.Mathlib.Nat.{min-eq_left}
use Rattle.std.proofs.lemmas.List.{take_at, take_all, drop_at}
use Rattle.kinds.specs.Bytes.{bytes, size}
use Rattle.kinds.specs.Kind.{Kind, Sound, entry_length}
use Rattle.page.specs.Checks.{RootShown, InHead, RootIs}
use Rattle.page.specs.Form.{Summary}
use Rattle.page.specs.Form.{View, free_view, data_view, directory_view, head_view, no_entry, root_bytes, encode}
use Rattle.page.specs.Fields.{RootFields, Reads}
use Rattle.page.proofs.Parts.{two_bytes}
use Rattle.page.proofs.Runs.{drop_plus, take_drop}
use Rattle.page.proofs.Pairs.{entry_size}

-- all of what is left
pub cut_rest : (bs : List ℕ) (n a : ℕ) → length bs ≡ n → take (n - a) (drop a bs) ≡ drop a bs
cut_rest bs n a whole = let l = length-drop a bs in take_all (n - a) (drop a bs) (omega arith)

-- a list of zero bytes is as long as it is
pub as_long : (xs : List ℕ) (m : ℕ) → xs ≡ replicate m 0 → xs ≡ replicate (length xs) 0
as_long xs m e = let lm : length (replicate {A = ℕ} m 0) ≡ m = length-replicate m 0 in e ∙ ap (λ n. replicate n 0) (sym lm ∙ ap length (sym e))

three_first : (xs : List ℕ) → 3 ≤ length xs → xs ≡ get_or xs 0 0 ∷ (get_or xs 1 0 ∷ (get_or xs 2 0 ∷ drop 3 xs))
three_first [] h = absurd (omega arith)
three_first (x ∷ []) h = absurd (omega arith)
three_first (x ∷ (y ∷ [])) h = absurd (omega arith)
three_first (x ∷ (y ∷ (z ∷ xs))) h = refl

five_first : (xs : List ℕ) → 5 ≤ length xs → xs ≡ get_or xs 0 0 ∷ (get_or xs 1 0 ∷ (get_or xs 2 0 ∷ (get_or xs 3 0 ∷ (get_or xs 4 0 ∷ drop 5 xs))))
five_first [] h = absurd (omega arith)
five_first (x ∷ []) h = absurd (omega arith)
five_first (x ∷ (y ∷ [])) h = absurd (omega arith)
five_first (x ∷ (y ∷ (z ∷ []))) h = absurd (omega arith)
five_first (x ∷ (y ∷ (z ∷ (u ∷ [])))) h = absurd (omega arith)
five_first (x ∷ (y ∷ (z ∷ (u ∷ (v ∷ xs))))) h = refl

module _ {P : Type 0} (k : Kind P) (bs : List ℕ) where
  pub free_tail : Sound k → get_or bs 0 0 ≡ 0 → (v : View) → Reads k bs v → drop 3 bs ≡ replicate 61 0
  unfolding encode
  free_tail laws e (free_view n) r = ap (drop 3) r.bytes_are
  free_tail laws e (data_view qs) r = let a = laws.page_kinds.0.0 in let b : get_or bs 0 0 ≡ k.data_kind = ap (λ x. get_or x 0 0) r.bytes_are in absurd (omega arith)
  free_tail laws e (directory_view n l h) r = let a = laws.page_kinds.1.0 in let b : get_or bs 0 0 ≡ k.directory_kind = ap (λ x. get_or x 0 0) r.bytes_are in absurd (omega arith)
  free_tail laws e (head_view f c o) r = let a = laws.page_kinds.2.0 in let b : get_or bs 0 0 ≡ k.head_kind = ap (λ x. get_or x 0 0) r.bytes_are in absurd (omega arith)

  pub free_reads : (n : ℕ) → length bs ≡ 64 → ((i : ℕ) → get_or bs i 0 < 256) → get_or bs 0 0 ≡ 0 → n ≡ get_or bs 1 0 + get_or bs 2 0 * 256 → drop 3 bs ≡ replicate (length (drop 3 bs)) 0 → Reads k bs (free_view n)
  unfolding encode
  free_reads n whole t z e tail =
      let l = length-drop 3 bs in
      let m : length (drop 3 bs) ≡ 61 = omega arith in
      let b = two_bytes (get_or bs 1 0) (get_or bs 2 0) n (t 1) (t 2) e in
      let t1 = t 1 in let t2 = t 2 in
      record {
        fields = omega arith;
        bytes_are = three_first bs (omega arith) ∙ ap (λ x. x ∷ (get_or bs 1 0 ∷ (get_or bs 2 0 ∷ drop 3 bs))) z ∙ ap (λ x. 0 ∷ (x ++ drop 3 bs)) (sym b) ∙ ap (λ x. 0 ∷ (bytes 2 n ++ x)) (tail ∙ ap (λ i. replicate i 0) m);
      }

  pub record IsHead : Type 0 where
    pub first : ℕ
    pub count : ℕ
    pub root : Option Summary
    pub reads : Reads k bs (head_view first count root)

  pub head_only : Sound k → get_or bs 0 0 ≡ k.head_kind → (v : View) → Reads k bs v → IsHead
  unfolding encode
  head_only laws e (free_view n) r = let a = laws.page_kinds.2.0 in let b : get_or bs 0 0 ≡ 0 = ap (λ x. get_or x 0 0) r.bytes_are in absurd (omega arith)
  head_only laws e (data_view qs) r = absurd (laws.different.1 (sym (ap (λ x. get_or x 0 0) r.bytes_are) ∙ e))
  head_only laws e (directory_view n l h) r = absurd (laws.different.2 (sym (ap (λ x. get_or x 0 0) r.bytes_are) ∙ e))
  head_only laws e (head_view f c o) r = record { first = f; count = c; root = o; reads = r }

  -- the numbers of the head
  pub first_part : (d : IsHead) → bytes 2 d.first ≡ take 2 (drop 1 bs)
  unfolding encode
  first_part d = sym (ap (λ x. take 2 (drop 1 x)) d.reads.bytes_are)

  pub count_part : (d : IsHead) → bytes 2 d.count ≡ take 2 (drop 3 bs)
  unfolding encode
  count_part d = sym (ap (λ x. take 2 (drop 3 x)) d.reads.bytes_are)

  pub none_zeros : no_entry k ≡ replicate (6 + 2 * size k.axes) 0
  unfolding no_entry
  none_zeros = let e : 6 + 2 * size k.axes ≡ suc (suc (suc (suc (suc (suc (2 * size k.axes)))))) = omega arith in sym (ap (λ n. replicate n 0) e)

  pub root_size : (o : Option Summary) → RootFields k o → length (root_bytes k o) ≡ 6 + 2 * size k.axes
  root_size None f = ap length none_zeros ∙ length-replicate (6 + 2 * size k.axes) 0
  root_size (Some e) f = entry_size k bs e f.0

  head_body : (d : IsHead) → (m : ℕ) × (drop 5 bs ≡ root_bytes k d.root ++ replicate m 0)
  unfolding encode
  head_body d = (64 - length (k.head_kind ∷ (bytes 2 d.first ++ (bytes 2 d.count ++ root_bytes k d.root))), ap (drop 5) d.reads.bytes_are)

  module _ (z : ℕ) (e : z ≡ 6 + 2 * size k.axes) (d : IsHead) where
    pub root_is : root_bytes k d.root ≡ take z (drop 5 bs)
    root_is = let b = head_body d in sym (ap (take z) b.1 ∙ take_at (root_bytes k d.root) (replicate b.0 0) z (root_size d.root d.reads.fields.2 ∙ sym e))

    pub rest_is : (m : ℕ) × (drop z (drop 5 bs) ≡ replicate m 0)
    rest_is = let b = head_body d in (b.0, ap (drop z) b.1 ∙ drop_at (root_bytes k d.root) (replicate b.0 0) z (root_size d.root d.reads.fields.2 ∙ sym e))

  pub head_reads : (f c z : ℕ) (o : Option Summary) → length bs ≡ 64 → ((i : ℕ) → get_or bs i 0 < 256) → get_or bs 0 0 ≡ k.head_kind → f ≡ get_or bs 1 0 + get_or bs 2 0 * 256 → c ≡ get_or bs 3 0 + get_or bs 4 0 * 256 → z ≡ 6 + 2 * size k.axes → 5 + z ≤ 64
      → RootFields k o → root_bytes k o ≡ take z (drop 5 bs) → drop z (drop 5 bs) ≡ replicate (length (drop z (drop 5 bs))) 0 → Reads k bs (head_view f c o)
  unfolding encode
  head_reads f c z o whole t kind fe ce e fit fields root tail =
      let X = drop 5 bs in
      let R = root_bytes k o in
      let rs = root_size o fields in
      let bf = two_bytes (get_or bs 1 0) (get_or bs 2 0) f (t 1) (t 2) fe in
      let bc = two_bytes (get_or bs 3 0) (get_or bs 4 0) c (t 3) (t 4) ce in
      let t1 = t 1 in let t2 = t 2 in let t3 = t 3 in let t4 = t 4 in
      let p = length-drop z X in let q = length-drop 5 bs in
      let tl : length (drop z X) ≡ 64 - length (k.head_kind ∷ (bytes 2 f ++ (bytes 2 c ++ R))) = omega arith in
      let body : X ≡ R ++ replicate (64 - length (k.head_kind ∷ (bytes 2 f ++ (bytes 2 c ++ R)))) 0 =
      sym (take_drop z X) ∙ ap (λ x. x ++ drop z X) (sym root) ∙ ap (λ x. R ++ x) (tail ∙ ap (λ i. replicate i 0) tl) in
      record {
        fields = (omega arith, omega arith, fields);
        bytes_are = five_first bs (omega arith) ∙ ap (λ x. x ∷ (get_or bs 1 0 ∷ (get_or bs 2 0 ∷ (get_or bs 3 0 ∷ (get_or bs 4 0 ∷ X))))) kind
            ∙ ap (λ x. k.head_kind ∷ (x ++ (get_or bs 3 0 ∷ (get_or bs 4 0 ∷ X)))) (sym bf) ∙ ap (λ x. k.head_kind ∷ (bytes 2 f ++ (x ++ X))) (sym bc) ∙ ap (λ x. k.head_kind ∷ (bytes 2 f ++ (bytes 2 c ++ x))) body;
      }

pub cut_root : (bs : List ℕ) (z : ℕ) → take ((5 + z) - 5) (drop 5 bs) ≡ take z (drop 5 bs)
cut_root bs z = let e : (5 + z) - 5 ≡ z = omega arith in ap (λ n. take n (drop 5 bs)) e

pub cut_after : (bs : List ℕ) (n z : ℕ) → length bs ≡ n → take (n - (5 + z)) (drop (5 + z) bs) ≡ drop z (drop 5 bs)
cut_after bs n z whole = cut_rest bs n (5 + z) whole ∙ drop_plus 5 z bs

-- a part of a page is as long as it is cut
pub part_size : (a z : ℕ) (bs : List ℕ) → a + z ≤ length bs → length (take z (drop a bs)) ≡ z
part_size a z bs h = let b = length-drop a bs in let c = length-take z (drop a bs) in c ∙ min-eq_left (omega arith)

-- a root of zero bytes
pub root_none : {P : Type 0} (k : Kind P) (bs : List ℕ) (z : ℕ) → z ≡ 6 + 2 * size k.axes → 5 + z ≤ length bs → take z (drop 5 bs) ≡ replicate (length (take z (drop 5 bs))) 0 → no_entry k ≡ take z (drop 5 bs)
root_none k bs z e h t = none_zeros k bs ∙ ap (λ n. replicate n 0) (sym (part_size 5 z bs h ∙ e)) ∙ sym t

pub none_root : {P : Type 0} (k : Kind P) (bs : List ℕ) (z : ℕ) → no_entry k ≡ take z (drop 5 bs) → take z (drop 5 bs) ≡ replicate (length (take z (drop 5 bs))) 0
none_root k bs z e = as_long (take z (drop 5 bs)) (6 + 2 * size k.axes) (sym e ∙ none_zeros k bs)

-- the root entry that is shown is the root entry that stands there
root_here : {P X : Type 0} (k : Kind P) (bs : List ℕ) (bytes_of : X → List ℕ) (o : Option Summary) (r : Option X) → RootFields k o → root_bytes k o ≡ take (entry_length k) (drop 5 bs)
    → RootShown (take (entry_length k) (drop 5 bs)) bytes_of r → RootIs k bytes_of o r
root_here k bs bytes_of None None f e s = tt
root_here k bs bytes_of None (Some x) f e s = s.1 (none_root k bs (entry_length k) e)
root_here k bs bytes_of (Some y) None f e s = f.2 (e ∙ s ∙ ap (λ n. replicate n 0) (ap length (sym e) ∙ entry_size k bs y f.0) ∙ sym (none_zeros k bs))
root_here k bs bytes_of (Some y) (Some x) f e s = s.0 ∙ sym e

pub root_agrees : {P X : Type 0} (k : Kind P) (bs : List ℕ) (bytes_of : X → List ℕ) (r : Option X) → RootShown (take (entry_length k) (drop 5 bs)) bytes_of r → InHead k bs (λ first free root. RootIs k bytes_of root r)
root_agrees k bs bytes_of r s first free root reads =
    root_here k bs bytes_of root r reads.fields.2 (root_is k bs (entry_length k) refl (record { first = first; count = free; root = root; reads = reads })) s
