-- The outline of a part of the tree that an entry leads to.
use Rattle.std.proofs.Common.{◌≡◌, ℕ, zero, suc, ◌+◌, ◌*◌, ◌≤◌, List, ◌∷◌, ◌++◌, length, sym, refl, ap, ◌∙◌, subst, add-mul, arith, length-append}
use lib.Bits.{bit_xor}
use lib.Count.{count_leading_zeros}
use Rattle.std.specs.List.{AllByRecursion}
use Rattle.zorder.specs.Code.{code}
use Rattle.zorder.specs.Halves.{half}
use Rattle.kinds.specs.Bytes.{bytes, form}
use Rattle.kinds.specs.Kind.{Kind, Sound, On, wide, code_of, entry_length, low_corner, high_corner}
use Rattle.kinds.proofs.Byteform.{form_length}
use Rattle.page.specs.Form.{Summary}
use Rattle.tree.specs.Book.{outline_record, outline}
use Rattle.tree.specs.Laid.{Laid, data_at, directory_at, numbers, shape, below_it}
use Rattle.tree.specs.Lawful.{Card}
use Rattle.tree.specs.Standing.{Standing}
use Rattle.tree.proofs.Standings.{corners_on, points_are, some_points, standing_low, standing_high}
use Rattle.access.specs.Reached.{Reached}
use Rattle.outlines.specs.declared.record.Sort.{Sort}
use Rattle.outlines.specs.declared.record.Sort.TheVariants.{Data, Directory}
use Rattle.outlines.specs.Records.{sort_number, record_of}

-- ---- products

times_more : (m n e : ℕ) → suc (m + n) * e ≡ e + (m * e + n * e)
times_more m n e =
    let a : suc (m + n) ≡ 1 + (m + n) = omega arith in
    let b : 1 * e ≡ e = omega arith in
    ap (λ i. i * e) a ∙ add-mul 1 (m + n) e ∙ ap (λ i. 1 * e + i) (add-mul m n e) ∙ ap (λ i. i + (m * e + n * e)) b

combine : (e one low high m n : ℕ) → one ≡ e → low ≡ m * e → high ≡ n * e → one + (low + high) ≡ suc (m + n) * e
combine e one low high m n a b c = ap (λ x. x + (low + high)) a ∙ ap (λ x. e + (x + high)) b ∙ ap (λ x. e + (m * e + x)) c ∙ sym (times_more m n e)

some_times : (n e : ℕ) → 1 ≤ n → e ≤ n * e
some_times zero e h = absurd (omega arith)
some_times (suc n) e h = let a = times_more n 0 e in let b : suc (n + 0) * e ≡ suc n * e = ap (λ i. suc i * e) (let z : n + 0 ≡ n = omega arith in z) in subst (λ x. e ≤ x) (sym a ∙ b) (omega arith)

-- a tree has a page
some_page : {P : Type 0} (t : Laid P) → 1 ≤ length (numbers t)
some_page (data_at q ps) = omega arith
some_page (directory_at q n l h) = omega arith

module _ {P : Type 0} (k : Kind P) (s : Sound k) where
  -- a record is as long as an entry
  record_long : (sort : ℕ) (ps : List P) → 1 ≤ length ps → AllByRecursion (On k) ps → length (outline_record k sort ps) ≡ entry_length k
  record_long sort ps some on =
      let c = corners_on k s ps some on in
      let a = form_length k.axes (low_corner k ps) c.0 in
      let b = form_length k.axes (high_corner k ps) c.1 in
      let d = length-append (form k.axes (low_corner k ps)) (form k.axes (high_corner k ps)) in
      omega arith

  module _ (card : Card) where
    -- as many records as pages
    pub outline_long : (ps : List P) (t : Laid P) → Standing k card ps t → length (outline k (shape t)) ≡ length (numbers t) * entry_length k
    outline_long ps (data_at q xs) st =
        let e = points_are k s card ps (data_at q xs) st in
        let some = some_points k s card ps (data_at q xs) st in
        record_long 1 xs (subst (λ ys. 1 ≤ length ys) (sym e) some) (subst (AllByRecursion (On k)) (sym e) st.is_set.on) ∙ (let z : entry_length k ≡ 1 * entry_length k = omega arith in z)
    outline_long ps (directory_at q n l h) st =
        let e = points_are k s card ps (directory_at q n l h) st in
        let some = some_points k s card ps (directory_at q n l h) st in
        let a = record_long 2 (below_it (directory_at q n l h)) (subst (λ ys. 1 ≤ length ys) (sym e) some) (subst (AllByRecursion (On k)) (sym e) st.is_set.on) in
        let low = outline_long (half (code_of k) (wide k) n 0 ps) l (standing_low k s card ps q n l h st) in
        let high = outline_long (half (code_of k) (wide k) n 1 ps) h (standing_high k s card ps q n l h st) in
        let b = length-append (outline_record k 2 (below_it (directory_at q n l h))) (outline k (shape l) ++ outline k (shape h)) in
        let c = length-append (outline k (shape l)) (outline k (shape h)) in
        let d = length-append (numbers l) (numbers h) in
        b ∙ ap (λ x. length (outline_record k 2 (below_it (directory_at q n l h))) + x) c
        ∙ combine (entry_length k) (length (outline_record k 2 (below_it (directory_at q n l h)))) (length (outline k (shape l))) (length (outline k (shape h))) (length (numbers l)) (length (numbers h)) a low high
        ∙ ap (λ i. suc i * entry_length k) (sym d)

    module _ (ps : List P) (e : Summary) (above : ℕ) (t : Laid P) (r : Reached k card ps e above t) where
      -- the record made from the entry is that of the part
      pub record_is : (sort : Sort) → record_of k sort e ≡ outline_record k (sort_number sort) (below_it t)
      record_is sort =
          let n = ap (λ x. x.count) r.at in
          let l = ap (λ x. x.low) r.at in
          let h = ap (λ x. x.high) r.at in
          ap (λ c. sort_number sort ∷ (bytes 4 c ++ (count_leading_zeros (wide k) (bit_xor (code k.axes e.low) (code k.axes e.high)) ∷ (form k.axes e.low ++ form k.axes e.high)))) n
          ∙ ap (λ x. sort_number sort ∷ (bytes 4 (length (below_it t)) ++ (count_leading_zeros (wide k) (bit_xor (code k.axes x) (code k.axes e.high)) ∷ (form k.axes x ++ form k.axes e.high)))) l
          ∙ ap (λ x. sort_number sort ∷ (bytes 4 (length (below_it t)) ++ (count_leading_zeros (wide k) (bit_xor (code k.axes (low_corner k (below_it t))) (code k.axes x)) ∷ (form k.axes (low_corner k (below_it t)) ++ form k.axes x)))) h

      -- it has at least one record
      pub outline_some : entry_length k ≤ length (outline k (shape t))
      outline_some = subst (λ x. entry_length k ≤ x) (sym (outline_long ps t r.stands)) (some_times (length (numbers t)) (entry_length k) (some_page t))

      -- a data page is one record
      pub leaf_outline : (q : ℕ) (xs : List P) → t ≡ data_at q xs → record_of k Data e ≡ outline k (shape t)
      leaf_outline q xs is = record_is Data ∙ subst (λ u. outline_record k 1 (below_it u) ≡ outline k (shape u)) (sym is) refl

      -- a directory page is its record, its low half's and its high half's
      pub fork_outline : (q n : ℕ) (l h : Laid P) → t ≡ directory_at q n l h → record_of k Directory e ++ (outline k (shape l) ++ outline k (shape h)) ≡ outline k (shape t)
      fork_outline q n l h is =
          ap (λ x. x ++ (outline k (shape l) ++ outline k (shape h))) (record_is Directory)
          ∙ subst (λ u. outline_record k 2 (below_it u) ++ (outline k (shape l) ++ outline k (shape h)) ≡ outline k (shape u)) (sym is) refl
