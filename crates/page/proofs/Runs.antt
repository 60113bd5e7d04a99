-- The parts of a data page.
use Rattle.std.proofs.Common.{◌≡◌, Bool, true, false, ◌≢◌, ℕ, zero, suc, ◌+◌, ◌-◌, ◌*◌, ◌<◌, ◌≤◌, List, [], ◌∷◌, ◌++◌, length, get_or, take, drop, replicate, sym, refl, ap, ◌∙◌, append_assoc, mul-le-mul_right, suc-mul, add-mul, one-mul, arith, length-append, length-drop}
use Rattle.std.specs.Prelude.{MatchBool}
use Rattle.std.specs.List.{flat_map, AllByRecursion, AllWithin, HoldsAt}
use Rattle.std.proofs.lemmas.List.{take_at, take_all, drop_at, append-nil}
use Rattle.zorder.specs.Code.{OnAxes}
use Rattle.kinds.specs.Bytes.{form, size}
use Rattle.kinds.specs.Kind.{Kind, Sound, Whether}
use Rattle.page.specs.Form.{Point}
use Rattle.page.specs.Form.{View, free_view, data_view, directory_view, head_view, encode}
use Rattle.page.specs.Fields.{Reads}
use Rattle.kinds.proofs.Byteform.{form_length}

-- ---- zero bytes

pub zeros_from : (xs : List ℕ) → ((q : ℕ) → q < length xs → get_or xs q 0 ≡ 0) → xs ≡ replicate (length xs) 0
zeros_from [] h = refl
zeros_from (x ∷ xs) h =
    let a : x ≡ 0 = h 0 (omega arith) in
    let b : xs ≡ replicate (length xs) 0 = zeros_from xs (λ q lt. h (suc q) (omega arith)) in cc

pub zero_at : (n q : ℕ) → ◌≡◌ {A = ℕ} (get_or (replicate n 0) q 0) 0
zero_at zero q = refl
zero_at (suc n) zero = refl
zero_at (suc n) (suc q) = zero_at n q

pub zeros_all : (xs : List ℕ) (q : ℕ) → xs ≡ replicate (length xs) 0 → get_or xs q 0 ≡ 0
zeros_all xs q e = ap (λ ys. get_or ys q 0) e ∙ zero_at (length xs) q

-- ---- points one after another

pub take_drop : (n : ℕ) (xs : List ℕ) → take n xs ++ drop n xs ≡ xs
take_drop zero xs = refl
take_drop (suc n) [] = refl
take_drop (suc n) (x ∷ xs) = ap (λ ys. x ∷ ys) (take_drop n xs)

pub drop_plus : (m n : ℕ) (xs : List ℕ) → drop (m + n) xs ≡ drop n (drop m xs)
drop_plus zero n xs = let e : zero + n ≡ n = omega arith in ap (λ i. drop i xs) e
drop_plus (suc m) n [] = let e : suc m + n ≡ suc (m + n) = omega arith in ap (λ i. drop i []) e ∙ nil n
  where
    nil : (n : ℕ) → ◌≡◌ {A = List ℕ} [] (drop n [])
    nil zero = refl
    nil (suc n) = refl
drop_plus (suc m) n (x ∷ xs) = let e : suc m + n ≡ suc (m + n) = omega arith in ap (λ i. drop i (x ∷ xs)) e ∙ drop_plus m n xs

pub take_plus : (m n : ℕ) (xs : List ℕ) → take (m + n) xs ≡ take m xs ++ take n (drop m xs)
take_plus zero n xs = let e : zero + n ≡ n = omega arith in ap (λ i. take i xs) e
take_plus (suc m) n [] = let e : suc m + n ≡ suc (m + n) = omega arith in ap (λ i. take i []) e ∙ nil n
  where
    nil : (n : ℕ) → ◌≡◌ {A = List ℕ} [] (take n [])
    nil zero = refl
    nil (suc n) = refl
take_plus (suc m) n (x ∷ xs) = let e : suc m + n ≡ suc (m + n) = omega arith in ap (λ i. take i (x ∷ xs)) e ∙ ap (λ ys. x ∷ ys) (take_plus m n xs)

module _ {X : Type 0} (F : X → List ℕ) (s : ℕ) where
  pub joined_append : (xs ys : List X) → flat_map F (xs ++ ys) ≡ flat_map F xs ++ flat_map F ys
  joined_append [] ys = refl
  joined_append (x ∷ xs) ys = ap (λ z. F x ++ z) (joined_append xs ys) ∙ sym (append_assoc (F x) (flat_map F xs) (flat_map F ys))

  pub joined_length : (xs : List X) → AllByRecursion (λ x. length (F x) ≡ s) xs → length (flat_map F xs) ≡ length xs * s
  joined_length [] h = omega arith
  joined_length (x ∷ xs) h = let a = length-append (F x) (flat_map F xs) in let b = joined_length xs h.1 in let c = h.0 in let d = suc-mul (length xs) s in omega arith

  -- one point after i others
  joined_part : (xs : List X) (i : ℕ) (d : X) (u : List ℕ) → AllByRecursion (λ x. length (F x) ≡ s) xs → i < length xs → take s (drop (i * s) (flat_map F xs ++ u)) ≡ F (get_or xs i d)
  joined_part [] i d u h lt = absurd (omega arith)
  joined_part (x ∷ xs) zero d u h lt = let e : zero * s ≡ 0 = omega arith in ap (λ n. take s (drop n ((F x ++ flat_map F xs) ++ u))) e ∙ ap (take s) (append_assoc (F x) (flat_map F xs) u) ∙ take_at (F x) (flat_map F xs ++ u) s h.0
  joined_part (x ∷ xs) (suc i) d u h lt =
      ap (λ n. take s (drop n ((F x ++ flat_map F xs) ++ u))) (suc-mul i s ∙ swap (i * s) s) ∙ ap (λ l. take s (drop (s + i * s) l)) (append_assoc (F x) (flat_map F xs) u)
      ∙ ap (take s) (drop_plus s (i * s) (F x ++ (flat_map F xs ++ u)) ∙ ap (drop (i * s)) (drop_at (F x) (flat_map F xs ++ u) s h.0)) ∙ joined_part xs i d u h.1 (omega arith)
    where
      swap : (a b : ℕ) → a + b ≡ b + a
      swap a b = omega arith

-- ---- a data page

module _ {P : Type 0} (k : Kind P) (bs : List ℕ) where
  F : Point → List ℕ
  F p = form k.axes p

  pub forms : (ps : List Point) → AllByRecursion (OnAxes k.axes) ps → AllByRecursion (λ p. length (form k.axes p) ≡ size k.axes) ps
  forms [] h = tt
  forms (p ∷ ps) h = (form_length k.axes p h.0, forms ps h.1)

  -- what can have these bytes is a data page
  pub data_only : Sound k → get_or bs 0 0 ≡ k.data_kind → (v : View) → Reads k bs v → (qs : List Point) × Reads k bs (data_view qs)
  unfolding encode
  data_only laws e (free_view n) r = let a = laws.page_kinds.0.0 in let b : get_or bs 0 0 ≡ 0 = ap (λ x. get_or x 0 0) r.bytes_are in absurd (omega arith)
  data_only laws e (data_view qs) r = (qs, r)
  data_only laws e (directory_view n l h) r = absurd (laws.different.0 (sym e ∙ ap (λ x. get_or x 0 0) r.bytes_are))
  data_only laws e (head_view f c o) r = absurd (laws.different.1 (sym e ∙ ap (λ x. get_or x 0 0) r.bytes_are))

  pub count_is : (qs : List Point) → Reads k bs (data_view qs) → get_or bs 1 0 ≡ length qs
  unfolding encode
  count_is qs r = ap (λ x. get_or x 1 0) r.bytes_are

  pub body_is : (qs : List Point) → Reads k bs (data_view qs) → drop 2 bs ≡ flat_map (form k.axes) qs ++ replicate (64 - length (k.data_kind ∷ (length qs ∷ flat_map (form k.axes) qs))) 0
  unfolding encode
  body_is qs r = ap (drop 2) r.bytes_are

  -- the bytes of point i
  pub point_part : (qs : List Point) (i : ℕ) → Reads k bs (data_view qs) → i < length qs → form k.axes (get_or qs i []) ≡ take (size k.axes) (drop (i * size k.axes) (drop 2 bs))
  point_part qs i r lt = sym (ap (λ x. take (size k.axes) (drop (i * size k.axes) x)) (body_is qs r) ∙ joined_part (form k.axes) (size k.axes) qs i [] _ (forms qs r.fields.on_axes) lt)

  -- the bytes after the points
  pub tail_part : (qs : List Point) → Reads k bs (data_view qs) → (n : ℕ) → n ≡ length qs → (m : ℕ) × (drop (n * size k.axes) (drop 2 bs) ≡ replicate m 0)
  tail_part qs r n e =
      let l = joined_length (form k.axes) (size k.axes) qs (forms qs r.fields.on_axes) in (
        64 - length (k.data_kind ∷ (length qs ∷ flat_map (form k.axes) qs)),
        ap (drop (n * size k.axes)) (body_is qs r) ∙ drop_at (flat_map (form k.axes) qs) _ (n * size k.axes) (l ∙ ap (λ x. x * size k.axes) (sym e)),
      )

  pub two_first : (xs : List ℕ) → 2 ≤ length xs → xs ≡ get_or xs 0 0 ∷ (get_or xs 1 0 ∷ drop 2 xs)
  two_first [] h = absurd (omega arith)
  two_first (x ∷ []) h = absurd (omega arith)
  two_first (x ∷ (y ∷ xs)) h = refl

  -- the page made of its parts
  pub data_reads : (ps : List Point) (n : ℕ) → length bs ≡ 64 → get_or bs 0 0 ≡ k.data_kind → get_or bs 1 0 ≡ n → length ps ≡ n → 1 ≤ n → n ≤ k.capacity → AllByRecursion (OnAxes k.axes) ps
      → flat_map (form k.axes) ps ≡ take (n * size k.axes) (drop 2 bs) → (m : ℕ) → drop (n * size k.axes) (drop 2 bs) ≡ replicate m 0 → m ≡ 64 - (2 + n * size k.axes) → Reads k bs (data_view ps)
  unfolding encode
  data_reads ps n whole kind c l one fit on j m z e =
      let J = flat_map (form k.axes) ps in
      let jl = joined_length (form k.axes) (size k.axes) ps (forms ps on) in
      let jn : length J ≡ n * size k.axes = jl ∙ ap (λ x. x * size k.axes) l in
      let pad : m ≡ 64 - length (k.data_kind ∷ (length ps ∷ J)) = omega arith in
      let body : drop 2 bs ≡ J ++ replicate (64 - length (k.data_kind ∷ (length ps ∷ J))) 0 =
      sym (take_drop (n * size k.axes) (drop 2 bs)) ∙ ap (λ x. x ++ drop (n * size k.axes) (drop 2 bs)) (sym j) ∙ ap (λ x. J ++ x) (z ∙ ap (λ i. replicate i 0) pad) in
      record {
        fields = record { some = omega arith; fit = omega arith; on_axes = on };
        bytes_are = two_first bs (omega arith) ∙ ap (λ x. x ∷ (get_or bs 1 0 ∷ drop 2 bs)) kind ∙ ap (λ x. k.data_kind ∷ (x ∷ drop 2 bs)) (c ∙ sym l) ∙ ap (λ x. k.data_kind ∷ (length ps ∷ x)) body;
      }

-- one point more
pub more_points : {P : Type 0} (k : Kind P) (bs : List ℕ) (ps : List Point) (p : Point) (i : ℕ) → flat_map (form k.axes) ps ≡ take (i * size k.axes) (drop 2 bs) → form k.axes p ≡ take (size k.axes) (drop (i * size k.axes) (drop 2 bs))
    → flat_map (form k.axes) (ps ++ (p ∷ [])) ≡ take ((i + 1) * size k.axes) (drop 2 bs)
more_points k bs ps p i j e =
    let F = form k.axes in
    let s = size k.axes in
    joined_append F s ps (p ∷ []) ∙ ap (λ x. flat_map F ps ++ x) (append-nil (F p)) ∙ ap (λ x. x ++ F p) j ∙ ap (λ x. take (i * s) (drop 2 bs) ++ x) e ∙ sym (take_plus (i * s) s (drop 2 bs))
    ∙ ap (λ n. take n (drop 2 bs)) (sym (add-mul i 1 s ∙ ap (λ x. i * s + x) (one-mul s)))

-- the cut that the code makes
pub cut : (bs : List ℕ) (a i r s : ℕ) → r ≡ s → a ≡ 2 + i * r → take ((a + r) - a) (drop a bs) ≡ take s (drop (i * s) (drop 2 bs))
cut bs a i r s e at =
    let f : (a + r) - a ≡ s = omega arith in
    let g : a ≡ 2 + i * s = at ∙ ap (λ x. 2 + i * x) e in
    ap (λ n. take n (drop a bs)) f ∙ ap (λ n. take s (drop n bs)) g ∙ ap (take s) (drop_plus 2 (i * s) bs)

-- the points lie within the page
pub within_page : (i n cap s r : ℕ) → i < n → n ≤ cap → r ≡ s → 2 + cap * s ≤ 64 → (2 + i * r) + r ≤ 64
within_page i n cap s r lt le e fit =
    let a : i * r ≡ i * s = ap (λ x. i * x) e in
    let b : suc i * s ≤ cap * s = mul-le-mul_right s (omega arith) in
    let c = suc-mul i s in
    omega arith

pub end_page : (n cap s r : ℕ) → n ≤ cap → r ≡ s → 2 + cap * s ≤ 64 → 2 + n * r ≤ 64
end_page n cap s r le e fit =
    let a : n * r ≡ n * s = ap (λ x. n * x) e in
    let b : n * s ≤ cap * s = mul-le-mul_right s le in
    omega arith

pub tail_cut : (bs : List ℕ) (n r s : ℕ) {long : ℕ} → length bs ≡ long → r ≡ s → take (long - (2 + n * r)) (drop (2 + n * r) bs) ≡ drop (n * s) (drop 2 bs)
tail_cut bs n r s {long} whole e =
    let l = length-drop (2 + n * r) bs in
    take_all (long - (2 + n * r)) (drop (2 + n * r) bs) (omega arith) ∙ ap (λ x. drop (2 + n * x) bs) e ∙ drop_plus 2 (n * s) bs

pub tail_length : (bs : List ℕ) (n s : ℕ) → length (drop (n * s) (drop 2 bs)) ≡ length bs - (2 + n * s)
tail_length bs n s = ap length (sym (drop_plus 2 (n * s) bs)) ∙ length-drop (2 + n * s) bs

-- a walk through the bytes that ends at the first one that is not zero
pub zeros_told : (bs : List ℕ) (r : Bool) → MatchBool r (AllWithin (λ x. x ≡ 0) bs 0 (length bs)) ((k : ℕ) × (k < length bs) × HoldsAt (λ x. x ≢ 0) bs k) → Whether r (bs ≡ replicate (length bs) 0)
zeros_told bs true h = zeros_from bs (λ q lt. h q 0 (omega arith) lt)
zeros_told bs false h = λ e. h.2 0 (zeros_all bs h.0 e)
