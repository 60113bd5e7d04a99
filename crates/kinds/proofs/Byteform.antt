-- Byte forms: short lists by their elements, two's complement, and that bytes say one point at most.
use Rattle.std.proofs.Common.{◌≡◌, ℕ, zero, suc, ◌+◌, ◌*◌, ◌/◌, ◌%◌, ◌^◌, ◌<◌, ◌≤◌, List, [], ◌∷◌, ◌++◌, length, get_or, drop, ℤ, pos, negsuc, ◌+ℤ◌, ◌≤ℤ◌, ◌<ℤ◌, sym, refl, ap, ◌∙◌, subst, append_assoc, arith, length-append, drop-cons, pow_mono, pow-add, w16, of_z}
use Rattle.std.specs.List.{AllByRecursion}
use Rattle.std.proofs.lemmas.List.{drop_all}
use Rattle.std.proofs.lemmas.Int.{ints}
use Rattle.zorder.specs.Code.{Axis, OnAxis, OnAxes}
use Rattle.kinds.specs.Bytes.{bytes, complement, form, size, Wide}

-- in two bytes, two's complement is the machine's
pub complement_16 : (z : ℤ) → complement 2 z ≡ of_z w16 z
complement_16 (pos n) = refl
complement_16 (negsuc n) = refl

-- a list of known length by its elements
abbrev pub elements : ℕ → ℕ → List ℕ → List ℕ
elements i zero xs = []
elements i (suc n) xs = get_or xs i 0 ∷ elements (suc i) n xs

spelled_from : (i n : ℕ) (xs : List ℕ) → length xs ≡ i + n → drop i xs ≡ elements i n xs
spelled_from i zero xs h = drop_all i xs (omega arith)
spelled_from i (suc n) xs h = drop-cons xs i 0 (omega arith) ∙ ap (λ ys. get_or xs i 0 ∷ ys) (spelled_from (suc i) n xs (omega arith))

pub spelled : (n : ℕ) (xs : List ℕ) → length xs ≡ n → xs ≡ elements 0 n xs
spelled n xs h = spelled_from 0 n xs (omega arith)

byte_more : (n : ℕ) → 2 ^ (8 * suc n) ≡ 256 * 2 ^ (8 * n)
byte_more n = let e : 8 * suc n ≡ 8 + 8 * n = omega arith in ap (λ i. 2 ^ i) e ∙ pow-add 2 8 (8 * n)

head_of : {x y : ℕ} {xs ys : List ℕ} → x ∷ xs ≡ y ∷ ys → x ≡ y
head_of e = cc

tail_of : {x y : ℕ} {xs ys : List ℕ} → x ∷ xs ≡ y ∷ ys → xs ≡ ys
tail_of e = cc

digits_same : (x y : ℕ) → x % 256 ≡ y % 256 → x / 256 ≡ y / 256 → x ≡ y
digits_same x y a b = omega arith

-- a number in n bytes can be read off the front
pub bytes_split : (n x y : ℕ) (u v : List ℕ) → x < 2 ^ (8 * n) → y < 2 ^ (8 * n) → bytes n x ++ u ≡ bytes n y ++ v → (x ≡ y) × (u ≡ v)
bytes_split zero x y u v a b e = (omega arith, e)
bytes_split (suc n) x y u v a b e =
    let m = byte_more n in
    let r = bytes_split n (x / 256) (y / 256) u v (omega arith) (omega arith) (tail_of e) in
    (digits_same x y (head_of e) r.0, r.1)

complement_same : (m : ℕ) (y z : ℤ) → ((a b : ℕ) → y ≡ pos a → z ≡ negsuc b → a + suc b < m) → ((a b : ℕ) → y ≡ negsuc a → z ≡ pos b → b + suc a < m)
    → ((a : ℕ) → y ≡ negsuc a → suc a ≤ m) → ((a : ℕ) → z ≡ negsuc a → suc a ≤ m) → (n : ℕ) → m ≡ 2 ^ (8 * n) → complement n y ≡ complement n z → y ≡ z
complement_same m (pos a) (pos b) p q r s n i e = ap pos e
complement_same m (pos a) (negsuc b) p q r s n i e = let h = p a b refl refl in absurd (omega arith)
complement_same m (negsuc a) (pos b) p q r s n i e = let h = q a b refl refl in absurd (omega arith)
complement_same m (negsuc a) (negsuc b) p q r s n i e = let h = r a refl in let g = s b refl in let f : a ≡ b = omega arith in ap negsuc f

complement_lt : (n : ℕ) (z : ℤ) → (pos 0 ≤ℤ (z +ℤ pos (2 ^ (8 * n)))) → z <ℤ pos (2 ^ (8 * n)) → complement n z < 2 ^ (8 * n)
complement_lt n (pos a) l h = omega (arith, ints)
complement_lt n (negsuc a) l h = omega (arith, ints)

module _ (a : Axis) (w : Wide a) where
  axis_low : (z : ℤ) → OnAxis a z → pos 0 ≤ℤ (z +ℤ pos (2 ^ (8 * a.bytes)))
  axis_low z h = let l = h.0 in let v = w.1 in omega (arith, ints)

  axis_high : (z : ℤ) → OnAxis a z → z <ℤ pos (2 ^ (8 * a.bytes))
  axis_high z h = let l = h.1 in let v = w.2 in omega (arith, ints)

  apart : (x y : ℕ) → OnAxis a (pos x) → OnAxis a (negsuc y) → x + suc y < 2 ^ (8 * a.bytes)
  apart x y g h = let p : 2 ^ a.bits ≤ 2 ^ (8 * a.bytes) = pow_mono w.0 in let i = g.1 in let j = h.0 in omega (arith, ints)

  deep : (x : ℕ) → OnAxis a (negsuc x) → suc x ≤ 2 ^ (8 * a.bytes)
  deep x h = let l = axis_low (negsuc x) h in omega (arith, ints)

  axis_same : (y z : ℤ) → OnAxis a y → OnAxis a z → complement a.bytes y ≡ complement a.bytes z → y ≡ z
  axis_same y z g h e =
      complement_same (2 ^ (8 * a.bytes)) y z
      (λ x b i j. apart x b (subst (OnAxis a) i g) (subst (OnAxis a) j h))
      (λ x b i j. apart b x (subst (OnAxis a) j h) (subst (OnAxis a) i g))
      (λ x i. deep x (subst (OnAxis a) i g)) (λ x i. deep x (subst (OnAxis a) i h)) a.bytes refl e

-- a point can be read off the front
pub form_split : (axs : List Axis) (p q : List ℤ) (u v : List ℕ) → AllByRecursion Wide axs → OnAxes axs p → OnAxes axs q → form axs p ++ u ≡ form axs q ++ v → (p ≡ q) × (u ≡ v)
form_split [] [] [] u v w g h e = (refl, e)
form_split [] [] (y ∷ q) u v w g h e = absurd h
form_split [] (x ∷ p) q u v w g h e = absurd g
form_split (a ∷ axs) [] q u v w g h e = absurd g
form_split (a ∷ axs) (x ∷ p) [] u v w g h e = absurd h
form_split (a ∷ axs) (x ∷ p) (y ∷ q) u v w g h e =
    let n = a.bytes in
    let f = sym (append_assoc (bytes n (complement n x)) (form axs p) u) ∙ e ∙ append_assoc (bytes n (complement n y)) (form axs q) v in
    let r = bytes_split n (complement n x) (complement n y) (form axs p ++ u) (form axs q ++ v)
    (complement_lt n x (axis_low a w.0 x g.0) (axis_high a w.0 x g.0)) (complement_lt n y (axis_low a w.0 y h.0) (axis_high a w.0 y h.0)) f in
    let s = form_split axs p q u v w.1 g.1 h.1 r.1 in
    let i : x ≡ y = axis_same a w.0 x y g.0 h.0 r.0 in
    let j : p ≡ q = s.0 in
    (cc, s.1)

pub bytes_length : (n x : ℕ) → length (bytes n x) ≡ n
bytes_length zero x = refl
bytes_length (suc n) x = ap suc (bytes_length n (x / 256))

pub form_length : (axs : List Axis) (p : List ℤ) → OnAxes axs p → length (form axs p) ≡ size axs
form_length [] [] h = refl
form_length [] (x ∷ p) h = refl
form_length (a ∷ axs) [] h = absurd h
form_length (a ∷ axs) (x ∷ p) h =
    let l = length-append (bytes a.bytes (complement a.bytes x)) (form axs p) in
    let b = bytes_length a.bytes (complement a.bytes x) in
    let r = form_length axs p h.1 in omega arith
