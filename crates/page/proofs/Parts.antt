-- The parts of an entry.
use Rattle.std.proofs.Common.{◌≡◌, ℕ, zero, suc, ◌+◌, ◌-◌, ◌*◌, ◌/◌, ◌%◌, ◌^◌, ◌<◌, ◌≤◌, List, [], ◌∷◌, ◌++◌, length, get_or, take, drop, ℤ, IfSome, Some, None, Option, sym, refl, ap, ◌∙◌, subst, arith, length-drop}
use lib.Arith.{digits_mod, digits_div}
use Rattle.std.proofs.lemmas.List.{take_at, drop_at, take_all, drop-drop}
use Rattle.zorder.specs.Code.{OnAxes}
use Rattle.kinds.specs.Bytes.{bytes, form, size}
use Rattle.kinds.specs.Kind.{Kind, Sound, On, bytes_of}
use Rattle.page.specs.Checks.{PointRead, PointIs}
use Rattle.page.specs.Form.{Point, Summary}
use Rattle.page.specs.Fields.{EntryFields}
use Rattle.page.specs.Form.{entry_bytes}
use Rattle.kinds.proofs.Byteform.{form_length, form_split, bytes_split}

-- two and four bytes of a number are the bytes that it was read from
byte_off : (n a y x : ℕ) → a < 256 → x ≡ y * 256 + a → bytes (suc n) x ≡ a ∷ bytes n y
byte_off n a y x lt e =
    let i : x % 256 ≡ a = ap (λ z. z % 256) e ∙ digits_mod y lt in
    let j : x / 256 ≡ y = ap (λ z. z / 256) e ∙ digits_div y lt in
    ap (λ z. z ∷ bytes n (x / 256)) i ∙ ap (λ z. a ∷ bytes n z) j

pub two_bytes : (a b x : ℕ) → a < 256 → b < 256 → x ≡ a + b * 256 → bytes 2 x ≡ a ∷ (b ∷ [])
two_bytes a b x p q e = byte_off 1 a b x p (omega arith) ∙ ap (λ z. a ∷ z) (byte_off 0 b 0 b q (omega arith))

four_bytes : (a b c d x : ℕ) → a < 256 → b < 256 → c < 256 → d < 256 → x ≡ a + b * 256 + c * 65536 + d * 16777216 → bytes 4 x ≡ a ∷ (b ∷ (c ∷ (d ∷ [])))
four_bytes a b c d x p q r s e =
    byte_off 3 a (b + c * 256 + d * 65536) x p (omega arith)
    ∙ ap (λ z. a ∷ z) (byte_off 2 b (c + d * 256) (b + c * 256 + d * 65536) q (omega arith)
    ∙ ap (λ z. b ∷ z) (byte_off 1 c d (c + d * 256) r (omega arith) ∙ ap (λ z. c ∷ z) (byte_off 0 d 0 d s (omega arith))))

pair_at : (n : ℕ) (bs : List ℕ) → n + 2 ≤ length bs → take 2 (drop n bs) ≡ get_or bs n 0 ∷ (get_or bs (n + 1) 0 ∷ [])
pair_at zero [] h = absurd (omega arith)
pair_at zero (a ∷ []) h = absurd (omega arith)
pair_at zero (a ∷ (b ∷ bs)) h = refl
pair_at (suc n) [] h = absurd (omega arith)
pair_at (suc n) (a ∷ bs) h = let e : suc n + 1 ≡ suc (n + 1) = omega arith in pair_at n bs (omega arith) ∙ ap (λ i. get_or bs n 0 ∷ (get_or (a ∷ bs) i 0 ∷ [])) (sym e)

quad_at : (n : ℕ) (bs : List ℕ) → n + 4 ≤ length bs → take 4 (drop n bs) ≡ get_or bs n 0 ∷ (get_or bs (n + 1) 0 ∷ (get_or bs (n + 2) 0 ∷ (get_or bs (n + 3) 0 ∷ [])))
quad_at zero [] h = absurd (omega arith)
quad_at zero (a ∷ []) h = absurd (omega arith)
quad_at zero (a ∷ (b ∷ [])) h = absurd (omega arith)
quad_at zero (a ∷ (b ∷ (c ∷ []))) h = absurd (omega arith)
quad_at zero (a ∷ (b ∷ (c ∷ (d ∷ bs)))) h = refl
quad_at (suc n) [] h = absurd (omega arith)
quad_at (suc n) (a ∷ bs) h =
    let e1 : suc n + 1 ≡ suc (n + 1) = omega arith in
    let e2 : suc n + 2 ≡ suc (n + 2) = omega arith in
    let e3 : suc n + 3 ≡ suc (n + 3) = omega arith in
    quad_at n bs (omega arith) ∙ ap (λ i. get_or bs n 0 ∷ (get_or (a ∷ bs) i 0 ∷ (get_or bs (n + 2) 0 ∷ (get_or bs (n + 3) 0 ∷ [])))) (sym e1)
    ∙ ap (λ i. get_or bs n 0 ∷ (get_or (a ∷ bs) (suc n + 1) 0 ∷ (get_or (a ∷ bs) i 0 ∷ (get_or bs (n + 3) 0 ∷ [])))) (sym e2)
    ∙ ap (λ i. get_or bs n 0 ∷ (get_or (a ∷ bs) (suc n + 1) 0 ∷ (get_or (a ∷ bs) (suc n + 2) 0 ∷ (get_or (a ∷ bs) i 0 ∷ [])))) (sym e3)

-- the bytes at a place are those of the number that they were read as
pub two_at : (n x : ℕ) (bs : List ℕ) → n + 2 ≤ length bs → ((i : ℕ) → get_or bs i 0 < 256) → x ≡ get_or bs n 0 + get_or bs (n + 1) 0 * 256 → bytes 2 x ≡ take 2 (drop n bs)
two_at n x bs h t e = two_bytes (get_or bs n 0) (get_or bs (n + 1) 0) x (t n) (t (n + 1)) e ∙ sym (pair_at n bs h)

pub four_at : (n x : ℕ) (bs : List ℕ) → n + 4 ≤ length bs → ((i : ℕ) → get_or bs i 0 < 256)
    → x ≡ get_or bs n 0 + get_or bs (n + 1) 0 * 256 + get_or bs (n + 2) 0 * 65536 + get_or bs (n + 3) 0 * 16777216 → bytes 4 x ≡ take 4 (drop n bs)
four_at n x bs h t e = four_bytes (get_or bs n 0) (get_or bs (n + 1) 0) (get_or bs (n + 2) 0) (get_or bs (n + 3) 0) x (t n) (t (n + 1)) (t (n + 2)) (t (n + 3)) e ∙ sym (quad_at n bs h)

take_drop : (n : ℕ) (xs : List ℕ) → take n xs ++ drop n xs ≡ xs
take_drop zero xs = refl
take_drop (suc n) [] = refl
take_drop (suc n) (x ∷ xs) = ap (λ ys. x ∷ ys) (take_drop n xs)

module _ {P : Type 0} (k : Kind P) (bs : List ℕ) where
  -- an entry made of its parts
  pub glued : (e : Summary) → bytes 2 e.page ≡ take 2 bs → bytes 4 e.count ≡ take 4 (drop 2 bs)
      → form k.axes e.low ≡ take (size k.axes) (drop 6 bs) → form k.axes e.high ≡ drop (size k.axes) (drop 6 bs) → entry_bytes k e ≡ bs
  unfolding entry_bytes
  glued e p c lo hi =
      let s = size k.axes in
      let F = form k.axes in
      let d : F e.low ++ F e.high ≡ drop 6 bs = ap (λ y. y ++ F e.high) lo ∙ ap (λ y. take s (drop 6 bs) ++ y) hi ∙ take_drop s (drop 6 bs) in
      let f : bytes 4 e.count ++ (F e.low ++ F e.high) ≡ drop 2 bs =
      ap (λ y. y ++ (F e.low ++ F e.high)) c ∙ ap (λ y. take 4 (drop 2 bs) ++ y) (d ∙ sym (drop-drop 4 2 bs)) ∙ take_drop 4 (drop 2 bs) in
      ap (λ y. y ++ (bytes 4 e.count ++ (F e.low ++ F e.high))) p ∙ ap (λ y. take 2 bs ++ y) f ∙ take_drop 2 bs

  -- the corners' bytes
  pub parts : (e : Summary) → EntryFields k e → entry_bytes k e ≡ bs → (form k.axes e.low ≡ take (size k.axes) (drop 6 bs)) × (form k.axes e.high ≡ drop (size k.axes) (drop 6 bs))
  unfolding entry_bytes
  parts e f i =
      let F = form k.axes in
      let n = form_length k.axes e.low f.low_on in
      let d : F e.low ++ F e.high ≡ drop 6 bs = ap (drop 6) i in (
        sym (ap (take (size k.axes)) (sym d) ∙ take_at (F e.low) (F e.high) (size k.axes) n),
        sym (ap (drop (size k.axes)) (sym d) ∙ drop_at (F e.low) (F e.high) (size k.axes) n),
      )

  -- a corner is the point that was read
  pub same_corner : Sound k → (p q : List ℤ) (x : List ℕ) → OnAxes k.axes p → OnAxes k.axes q → form k.axes p ≡ x → form k.axes q ≡ x → p ≡ q
  same_corner laws p q x g h a b = (form_split k.axes p q [] [] laws.wide_bytes g h (ap (λ y. y ++ []) (a ∙ sym b))).0

-- the parts as the code cuts them
pub low_part : (bs : List ℕ) (r s : ℕ) → r ≡ s → take ((6 + r) - 6) (drop 6 bs) ≡ take s (drop 6 bs)
low_part bs r s e = let i : (6 + r) - 6 ≡ s = omega arith in ap (λ n. take n (drop 6 bs)) i

pub high_part : (bs : List ℕ) (r s : ℕ) → r ≡ s → take (length bs - (6 + r)) (drop (6 + r) bs) ≡ drop s (drop 6 bs)
high_part bs r s e =
    let i : 6 + r ≡ 6 + s = omega arith in
    let l = length-drop (6 + r) bs in
    take_all (length bs - (6 + r)) (drop (6 + r) bs) (omega arith) ∙ ap (λ n. drop n bs) i ∙ sym (drop-drop s 6 bs)

-- What reading some bytes gives, said of coordinates: the point that has them, or none where no coordinates on the axes have.
pub point_read : {P : Type 0} (k : Kind P) → Sound k → (xs ys : List ℕ) (r : Option P) → xs ≡ ys → ((p : P) → On k p → bytes_of k p ≡ xs → r ≡ Some p) → IfSome r (λ p. On k p × (bytes_of k p ≡ xs)) → PointRead k ys r
point_read k laws xs ys (Some p) e back only = (only.0, only.1 ∙ e)
point_read k laws xs ys None e back only = λ z on f.
    let p = laws.every_point z on in
    let n = back p.0 (subst (OnAxes k.axes) (sym p.1) on) (ap (form k.axes) p.1 ∙ f ∙ sym e) in
    let w : ◌≡◌ {A = ℕ} 0 1 = cc in omega arith

-- the corner that was read is the corner that stands there
pub corner_is : {P : Type 0} (k : Kind P) → Sound k → (q : Point) (xs : List ℕ) (r : Option P) → PointRead k xs r → OnAxes k.axes q → form k.axes q ≡ xs → PointIs k q r
corner_is k laws q xs (Some p) e on f = same_corner k xs laws (k.coords p) q xs e.0 on e.1 f
corner_is k laws q xs None e on f = e q on f

-- two numbers with the same bytes are one
pub same_number : (n x y : ℕ) → x < 2 ^ (8 * n) → y < 2 ^ (8 * n) → bytes n x ≡ bytes n y → x ≡ y
same_number n x y a b e = (bytes_split n x y [] [] a b (ap (λ z. z ++ []) e)).0

-- the numbers of an entry
pub page_part : {P : Type 0} (k : Kind P) (bs : List ℕ) (e : Summary) → entry_bytes k e ≡ bs → bytes 2 e.page ≡ take 2 bs
unfolding entry_bytes
page_part k bs e i = ap (take 2) i

pub count_part : {P : Type 0} (k : Kind P) (bs : List ℕ) (e : Summary) → entry_bytes k e ≡ bs → bytes 4 e.count ≡ take 4 (drop 2 bs)
unfolding entry_bytes
count_part k bs e i = ap (λ x. take 4 (drop 2 x)) i
