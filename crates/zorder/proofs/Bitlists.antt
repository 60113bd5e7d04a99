-- Lists of binary digits, the highest first, and their numbers.
use Rattle.std.proofs.Common.{◌≡◌, ℕ, zero, suc, ◌+◌, ◌-◌, ◌*◌, ◌/◌, ◌^◌, ◌<◌, ◌≤◌, List, [], ◌∷◌, length, take, sym, refl, ap, ◌∙◌, div-one, add-one, arith, shr-shr}
use native.Mathlib.Nat.{sub-zero}
use Rattle.zorder.specs.Code.{digits}

-- two lists of as many bits
pub data Bin : List ℕ → List ℕ → Type 0 where
  none : Bin [] []
  one : {x y : ℕ} {xs ys : List ℕ} → x < 2 → y < 2 → Bin xs ys → Bin (x ∷ xs) (y ∷ ys)

pub bin_swap : {xs ys : List ℕ} → Bin xs ys → Bin ys xs
bin_swap none = none
bin_swap (one p q b) = one q p (bin_swap b)

pub digits_lt : {xs ys : List ℕ} → Bin xs ys → (m n : ℕ) → m < n → digits m xs < digits n ys
digits_lt none m n h = h
digits_lt (one {x} {y} p q b) m n h = digits_lt b (2 * m + x) (2 * n + y) (omega arith)

-- the order of words
pub data Lex : List ℕ → List ℕ → Type 0 where
  same : Lex [] []
  less : {x y : ℕ} {xs ys : List ℕ} → x < y → Lex (x ∷ xs) (y ∷ ys)
  next : {x y : ℕ} {xs ys : List ℕ} → x ≡ y → Lex xs ys → Lex (x ∷ xs) (y ∷ ys)

pub digits_le : {xs ys : List ℕ} → Bin xs ys → Lex xs ys → (m : ℕ) → digits m xs ≤ digits m ys
digits_le none same m = omega arith
digits_le (one {x} {y} {xs} {ys} p q b) (less h) m = let k : digits (2 * m + x) xs < digits (2 * m + y) ys = digits_lt b (2 * m + x) (2 * m + y) (omega arith) in omega arith
digits_le (one {x} {y} {xs} {ys} p q b) (next e l) m = rw e (digits_le b l (2 * m + y))

-- numbers that are equal have equal digits
pub digits_eq : {xs ys : List ℕ} → Bin xs ys → (m n : ℕ) → digits m xs ≡ digits n ys → (m ≡ n) × (xs ≡ ys)
digits_eq none m n h = (h, refl)
digits_eq (one {x} {y} {xs} {ys} p q b) m n h =
    let t : (2 * m + x ≡ 2 * n + y) × (xs ≡ ys) = digits_eq b (2 * m + x) (2 * n + y) h in
    let e : x ≡ y = omega (arith, t.0) in
    let f : xs ≡ ys = t.1 in
    (omega (arith, t.0), cc)

pub bin_length : {xs ys : List ℕ} → Bin xs ys → length xs ≡ length ys
bin_length none = refl
bin_length (one p q b) = ap suc (bin_length b)

pub bin_take : {xs ys : List ℕ} → Bin xs ys → (n : ℕ) → Bin (take n xs) (take n ys)
bin_take b zero = none
bin_take none (suc n) = none
bin_take (one p q b) (suc n) = one p q (bin_take b n)

-- the digits after those of m are below 2 ^ their number
pub digits_div : {xs ys : List ℕ} → Bin xs ys → (m : ℕ) → digits m xs / 2 ^ length xs ≡ m
digits_div none m = div-one m
digits_div (one {x} {y} {xs} {ys} p q b) m =
    let L = length xs in
    let d = digits (2 * m + x) xs in
    let ih : d / 2 ^ L ≡ 2 * m + x = digits_div b (2 * m + x) in
    let s : d / 2 ^ L / 2 ^ 1 ≡ d / 2 ^ (L + 1) = shr-shr d L 1 in
    let h : (2 * m + x) / 2 ≡ m = omega arith in
    rw (← add-one L, ← s, ih) h

-- the first n digits of the number
pub digits_take : {xs ys : List ℕ} → Bin xs ys → (n m : ℕ) → n ≤ length xs → digits m xs / 2 ^ (length xs - n) ≡ digits m (take n xs)
digits_take b zero m h = rw sub-zero (digits_div b m)
digits_take none (suc n) m h = absurd (omega arith)
digits_take (one {x} {y} {xs} {ys} p q b) (suc n) m h =
    let e : suc (length xs) - suc n ≡ length xs - n = omega arith in
    rw e (digits_take b n (2 * m + x) (omega arith))

-- so the first n digits of two numbers agree exactly where the digits do
pub agree_digits : {xs ys : List ℕ} → Bin xs ys → (n : ℕ) → n ≤ length xs → digits 0 xs / 2 ^ (length xs - n) ≡ digits 0 ys / 2 ^ (length xs - n) → take n xs ≡ take n ys
agree_digits {xs} {ys} b n h e =
    let le : n ≤ length ys = omega (arith, bin_length b) in
    let p : digits 0 (take n xs) ≡ digits 0 xs / 2 ^ (length xs - n) = sym (digits_take b n 0 h) in
    let q : digits 0 ys / 2 ^ (length ys - n) ≡ digits 0 (take n ys) = digits_take (bin_swap b) n 0 le in
    let l : length xs ≡ length ys = bin_length b in
    (digits_eq (bin_take b n) 0 0 (p ∙ e ∙ ap (λ k. digits 0 ys / 2 ^ (k - n)) l ∙ q)).1

pub digits_agree : {xs ys : List ℕ} → Bin xs ys → (n : ℕ) → n ≤ length xs → take n xs ≡ take n ys → digits 0 xs / 2 ^ (length xs - n) ≡ digits 0 ys / 2 ^ (length xs - n)
digits_agree {xs} {ys} b n h e =
    let le : n ≤ length ys = omega (arith, bin_length b) in
    let q : digits 0 ys / 2 ^ (length ys - n) ≡ digits 0 (take n ys) = digits_take (bin_swap b) n 0 le in
    digits_take b n 0 h ∙ ap (digits 0) e ∙ sym q ∙ ap (λ k. digits 0 ys / 2 ^ (k - n)) (sym (bin_length b))
