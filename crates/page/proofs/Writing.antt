-- Writing a page from its front on.
use Rattle.std.proofs.Common.{◌≡◌, ℕ, zero, suc, ◌+◌, ◌-◌, ◌/◌, ◌%◌, ◌<◌, ◌≤◌, List, [], ◌∷◌, ◌++◌, map, length, get_or, take, drop, set, replicate, sym, refl, ap, subst, ◌∙◌, append_assoc, arith, length-append, length-drop, length-take}
use lib.ListN.{length-replicate}
use native.Mathlib.Nat.{min-eq_left}
use borrow.Rule.Slice.PartMut.{put_mid}
use Rattle.std.proofs.lemmas.List.{take_at, drop_at, set_at, take_more, append-nil}
use Rattle.std.specs.List.{flat_map}
use Rattle.kinds.specs.Kind.{Kind, size_of, bytes_of, entry_length}
use Rattle.kinds.specs.Bytes.{bytes, form}
use Rattle.page.specs.Form.{Summary, padded, entry_bytes, data_view, encode}
use Rattle.page.proofs.Runs.{joined_append}
use Rattle.page.specs.Adds.{Adds}

drop_zeros : (k m : ℕ) → drop k (replicate m 0) ≡ replicate {A = ℕ} (m - k) 0
drop_zeros zero m = let e : m - zero ≡ m = omega arith in ap (λ n. replicate n 0) (sym e)
drop_zeros (suc k) zero = let e : zero - suc k ≡ 0 = omega arith in ap (λ n. replicate n 0) (sym e)
drop_zeros (suc k) (suc m) = let e : suc m - suc k ≡ m - k = omega arith in drop_zeros k m ∙ ap (λ n. replicate n 0) (sym e)

pub adds_part : (at k : ℕ) (xs ys new : List ℕ) → k ≡ length new → ys ≡ new → at + k ≤ 64 → Adds xs at new (put_mid at k xs ys)
adds_part at k xs ys new l e room front f p =
    let m = 64 - length front in
    let a : take at xs ≡ front = ap (take at) p ∙ take_at front (replicate m 0) at f in
    let b : drop at xs ≡ replicate m 0 = ap (drop at) p ∙ drop_at front (replicate m 0) at f in
    let c : drop k (drop at xs) ≡ replicate (m - k) 0 = ap (drop k) b ∙ drop_zeros k m in
    let n = length-append front new in
    let d : m - k ≡ 64 - length (front ++ new) = omega arith in
    ap (λ z. z ++ (ys ++ drop k (drop at xs))) a ∙ ap (λ z. front ++ (z ++ drop k (drop at xs))) e ∙ ap (λ z. front ++ (new ++ z)) (c ∙ ap (λ i. replicate i 0) d)
    ∙ sym (append_assoc front new (replicate (64 - length (front ++ new)) 0))

pub adds_byte : (at b : ℕ) (xs : List ℕ) → at + 1 ≤ 64 → Adds xs at (b ∷ []) (set xs at b)
adds_byte at b xs room front f p =
    let m = 63 - length front in
    let d : 64 - length front ≡ suc m = omega arith in
    let n = length-append front (b ∷ []) in
    let e : m ≡ 64 - length (front ++ (b ∷ [])) = omega arith in
    ap (λ z. set z at b) (p ∙ ap (λ i. front ++ replicate i 0) d) ∙ set_at front 0 (replicate m 0) b at f ∙ ap (λ i. front ++ (b ∷ replicate i 0)) e
    ∙ sym (append_assoc front (b ∷ []) (replicate (64 - length (front ++ (b ∷ []))) 0))

-- four bytes of a number, as they are written
pub four_bytes : (x : ℕ) → (x % 256) ∷ ((x / 256 % 256) ∷ ((x / 65536 % 256) ∷ ((x / 16777216 % 256) ∷ []))) ≡ bytes 4 x
four_bytes x =
    let a : x / 65536 % 256 ≡ x / 256 / 256 % 256 = omega arith in
    let b : x / 16777216 % 256 ≡ x / 256 / 256 / 256 % 256 = omega arith in
    ap (λ z. (x % 256) ∷ ((x / 256 % 256) ∷ (z ∷ ((x / 16777216 % 256) ∷ [])))) a ∙ ap (λ z. (x % 256) ∷ ((x / 256 % 256) ∷ ((x / 256 / 256 % 256) ∷ (z ∷ [])))) b

-- the bytes that are added, by another name
pub adds_as : (before : List ℕ) (at : ℕ) (after u v : List ℕ) → u ≡ v → Adds before at u after → Adds before at v after
adds_as before at after u v e a = subst (λ z. Adds before at z after) e a

-- two additions in a row are one
pub adds_more : (at n : ℕ) (xs ys zs u v : List ℕ) → n ≡ at + length u → Adds xs at u ys → Adds ys n v zs → Adds xs at (u ++ v) zs
adds_more at n xs ys zs u v e a b front f p =
    let l = length-append front u in
    b (front ++ u) (l ∙ ap (λ i. i + length u) f ∙ sym e) (a front f p) ∙ ap padded (append_assoc front u v)

pub part_long : (at s : ℕ) (xs : List ℕ) → at + s ≤ length xs → length (take ((at + s) - at) (drop at xs)) ≡ s
part_long at s xs h =
    let a = length-take ((at + s) - at) (drop at xs) in
    let b = length-drop at xs in
    a ∙ min-eq_left (omega arith) ∙ (let e : (at + s) - at ≡ s = omega arith in e)

pub padded_long : (xs : List ℕ) → length xs ≤ 64 → length (padded xs) ≡ 64
padded_long xs h =
    let m = 64 - length xs in
    let l : length (replicate {A = ℕ} m 0) ≡ m = length-replicate m 0 in
    let n = length-append xs (replicate m 0) in omega arith

replicate_plus : (m n : ℕ) → replicate {A = ℕ} (m + n) 0 ≡ replicate m 0 ++ replicate n 0
replicate_plus zero n = let e : zero + n ≡ n = omega arith in ap (λ i. replicate i 0) e
replicate_plus (suc m) n = let e : suc m + n ≡ suc (m + n) = omega arith in ap (λ i. replicate i 0) e ∙ ap (λ z. 0 ∷ z) (replicate_plus m n)

-- zero bytes at the end may be written or left
pub more_zeros : (xs : List ℕ) (m : ℕ) → length xs + m ≤ 64 → padded xs ≡ padded (xs ++ replicate m 0)
more_zeros xs m h =
    let l : length (replicate {A = ℕ} m 0) ≡ m = length-replicate m 0 in
    let n = length-append xs (replicate m 0) in
    let r = 64 - length (xs ++ replicate m 0) in
    let e : 64 - length xs ≡ m + r = omega arith in
    ap (λ i. xs ++ replicate i 0) e ∙ ap (λ z. xs ++ z) (replicate_plus m r) ∙ sym (append_assoc xs (replicate m 0) (replicate r 0))

module _ {P : Type 0} (k : Kind P) where
  -- the parts of an entry make the entry
  pub entry_adds : (e : Summary) (before : List ℕ) (at : ℕ) (after : List ℕ) → Adds before at (bytes 2 e.page ++ (bytes 4 e.count ++ (form k.axes e.low ++ form k.axes e.high))) after → Adds before at (entry_bytes k e) after
  unfolding entry_bytes
  entry_adds e before at after a = a

  pub entry_long : (e : Summary) → length (form k.axes e.low) ≡ size_of k → length (form k.axes e.high) ≡ size_of k → length (entry_bytes k e) ≡ entry_length k
  unfolding entry_bytes
  entry_long e l h = let a = length-append (form k.axes e.low) (form k.axes e.high) in omega arith

  -- the points of a data page, as coordinates and as bytes
  pub joined_coords : (ps : List P) → flat_map (form k.axes) (map k.coords ps) ≡ flat_map (bytes_of k) ps
  joined_coords [] = refl
  joined_coords (p ∷ ps) = ap (λ z. bytes_of k p ++ z) (joined_coords ps)

  pub length_coords : (ps : List P) → length (map k.coords ps) ≡ length ps
  length_coords [] = refl
  length_coords (p ∷ ps) = ap suc (length_coords ps)

  -- one point more
  pub joined_more : (ps : List P) (i : ℕ) (p : P) → i < length ps → p ≡ get_or ps i p → flat_map (bytes_of k) (take (i + 1) ps) ≡ flat_map (bytes_of k) (take i ps) ++ bytes_of k p
  joined_more ps i p lt e =
      ap (flat_map (bytes_of k)) (take_more ps i p lt) ∙ joined_append (bytes_of k) 0 (take i ps) (get_or ps i p ∷ []) ∙ ap (λ z. flat_map (bytes_of k) (take i ps) ++ z) (append-nil (bytes_of k (get_or ps i p)) ∙ ap (bytes_of k) (sym e))

  -- the whole page
  pub data_made : (ps : List P) (page : List ℕ) → page ≡ padded (k.data_kind ∷ (length ps ∷ flat_map (bytes_of k) ps)) → page ≡ encode k (data_view (map k.coords ps))
  unfolding encode
  data_made ps page e = e ∙ ap (λ n. padded (k.data_kind ∷ (n ∷ flat_map (bytes_of k) ps))) (sym (length_coords ps)) ∙ ap (λ z. padded (k.data_kind ∷ (length (map k.coords ps) ∷ z))) (sym (joined_coords ps))
