-- Every number of W bits is the code of a point.
use Rattle.std.proofs.Common.{◌≡◌, ℕ, zero, suc, pred, ◌+◌, ◌*◌, ◌/◌, ◌%◌, ◌^◌, ◌<◌, List, [], ◌∷◌, ◌++◌, map, length, take, drop, ℤ, pos, ◌+ℤ◌, sym, refl, ap, ◌∙◌, ap₂, mod-lt, mod-eq_of_lt, mul_assoc, mul_comm, add-mul, pow-suc, one-add, arith, lit<, pow_pos}
use native.Mathlib.Nat.{mod-one}
use lib.Arith.{digits_mod, digits_div}
use lib.Pow.{mod-pow-add}
use Rattle.std.specs.List.{AllByRecursion}
use Rattle.std.proofs.ByRecursion.{All-take, All-drop}
use Rattle.std.proofs.lemmas.List.{nil_from_length, length-drop, length-take-le, take-append-drop}
use Rattle.std.proofs.lemmas.Int.{ints}
use Rattle.zorder.specs.Code.{Axis, OnAxis, OnAxes, raised, raise, digits, turns, rounds, total, widths, width, woven}
use Rattle.zorder.specs.Laws.{EveryCodeLaw}
use Rattle.zorder.proofs.Order.{Each, done, each}
use Rattle.zorder.proofs.Mix.{AtMost, most, Same, lower_most, none_left}

-- ---- a number by its bits

twice_pow : (k : ℕ) → 2 ^ suc k ≡ 2 * 2 ^ k
twice_pow k = pow-suc 2 k ∙ mul_comm (2 ^ k) 2

-- the n lowest bits of c, the highest of these first
abbrev bits : ℕ → ℕ → List ℕ
bits zero c = []
bits (suc n) c = (c / 2 ^ n % 2) ∷ bits n c

bits_length : (n c : ℕ) → length (bits n c) ≡ n
bits_length zero c = refl
bits_length (suc n) c = ap suc (bits_length n c)

bits_bits : (n c : ℕ) → AllByRecursion (λ b. b < 2) (bits n c)
bits_bits zero c = tt
bits_bits (suc n) c = (mod-lt (c / 2 ^ n) (lit< tt), bits_bits n c)

shifted : (m b q r : ℕ) → (2 * m + b) * q + r ≡ m * (2 * q) + (b * q + r)
shifted m b q r =
    let e : (2 * m) * q ≡ m * (2 * q) = ap (λ x. x * q) (mul_comm 2 m) ∙ mul_assoc m 2 q in
    omega (arith, add-mul (2 * m) b q, e)

digits_bits : (n c m : ℕ) → digits m (bits n c) ≡ m * 2 ^ n + c % 2 ^ n
digits_bits zero c m = omega (arith, mod-one c)
digits_bits (suc n) c m =
    let b = c / 2 ^ n % 2 in
    let e : c % 2 ^ (1 + n) ≡ b * 2 ^ n + c % 2 ^ n = mod-pow-add c 1 n in
    let f : c % 2 ^ suc n ≡ b * 2 ^ n + c % 2 ^ n = ap (λ i. c % 2 ^ i) (sym (one-add n)) ∙ e in
    digits_bits n c (2 * m + b) ∙ shifted m b (2 ^ n) (c % 2 ^ n) ∙ ap₂ (λ (x y : ℕ). m * x + y) (sym (twice_pow n)) (sym f)

-- ---- values by their bits

-- each value has at most the bits of its axis
data Fit : List ℕ → List ℕ → Type 0 where
  fit_none : Fit [] []
  fit_more : (k v : ℕ) {ks vs : List ℕ} → v < 2 ^ k → Fit ks vs → Fit (k ∷ ks) (v ∷ vs)

nothing : (ks : List ℕ) → Fit ks (map (λ (k : ℕ). 0) ks)
nothing [] = fit_none
nothing (k ∷ ks) = fit_more k 0 (pow_pos k) (nothing ks)

-- how many bits one round takes
abbrev front : List ℕ → ℕ
front [] = 0
front (zero ∷ ks) = front ks
front (suc k ∷ ks) = suc (front ks)

front_total : (ks : List ℕ) → front ks + total (map pred ks) ≡ total ks
front_total [] = refl
front_total (zero ∷ ks) = omega (arith, front_total ks)
front_total (suc k ∷ ks) = omega (arith, front_total ks)

top_lt : (x u q : ℕ) → x < 2 → u < q → x * q + u < 2 * q
top_lt zero u q h k = omega arith
top_lt (suc zero) u q h k = omega arith
top_lt (suc (suc x)) u q h k = absurd (omega arith)

-- one more bit on top of each value that has room for it
lift : (ks xs : List ℕ) {us : List ℕ} → Fit (map pred ks) us → AllByRecursion (λ b. b < 2) xs → length xs ≡ front ks
    → (vs : List ℕ) × Fit ks vs × (turns ks vs ≡ xs) × Each Same (map pred ks) vs us
lift [] xs fit_none b e = ([], fit_none, sym (nil_from_length xs e), done)
lift (zero ∷ ks) xs (fit_more k u h f) b e =
    let r = lift ks xs f b e in
    (u ∷ r.0, fit_more zero u h r.1, r.2, each zero u u refl r.3)
lift (suc k ∷ ks) [] f b e = absurd (omega arith)
lift (suc k ∷ ks) (x ∷ xs) (fit_more j u h f) b e =
    let r = lift ks xs f b.1 (omega arith) in
    let v = x * 2 ^ k + u in
    let t : v / 2 ^ k % 2 ≡ x = ap (λ y. y % 2) (digits_div x h) ∙ mod-eq_of_lt b.0 in
    let l : v < 2 ^ suc k = rw twice_pow (top_lt x u (2 ^ k) b.0 h) in
    (v ∷ r.0, fit_more (suc k) v l r.1, ap₂ (λ (y : ℕ) (ys : List ℕ). y ∷ ys) t r.2, each k v u (digits_mod x h ∙ sym (mod-eq_of_lt h)) r.3)

-- ---- values that agree on the bits left have the same turns

same_bit : (k a b : ℕ) → Same (suc k) a b → (a / 2 ^ k % 2 ≡ b / 2 ^ k % 2) × Same k a b
same_bit k a b s =
    let e : a % 2 ^ (1 + k) ≡ (a / 2 ^ k % 2) * 2 ^ k + a % 2 ^ k = mod-pow-add a 1 k in
    let f : b % 2 ^ (1 + k) ≡ (b / 2 ^ k % 2) * 2 ^ k + b % 2 ^ k = mod-pow-add b 1 k in
    let g : (a / 2 ^ k % 2) * 2 ^ k + a % 2 ^ k ≡ (b / 2 ^ k % 2) * 2 ^ k + b % 2 ^ k = sym e ∙ ap (λ i. a % 2 ^ i) (one-add k) ∙ s ∙ ap (λ i. b % 2 ^ i) (sym (one-add k)) ∙ f in
    let l = mod-lt a (pow_pos k) in
    let m = mod-lt b (pow_pos k) in (
      sym (digits_div (a / 2 ^ k % 2) l) ∙ ap (λ x. x / 2 ^ k) g ∙ digits_div (b / 2 ^ k % 2) m,
      sym (digits_mod (a / 2 ^ k % 2) l) ∙ ap (λ x. x % 2 ^ k) g ∙ digits_mod (b / 2 ^ k % 2) m,
    )

turns_agree : {ks ps qs : List ℕ} → Each Same ks ps qs → (turns ks ps ≡ turns ks qs) × Each Same (map pred ks) ps qs
turns_agree done = (refl, done)
turns_agree (each zero a b s t) = let r = turns_agree t in (r.0, each zero a b s r.1)
turns_agree (each (suc k) a b s t) =
    let r = turns_agree t in
    let i = same_bit k a b s in
    (ap₂ (λ (y : ℕ) (ys : List ℕ). y ∷ ys) i.0 r.0, each k a b i.1 r.1)

rounds_agree : (n : ℕ) {ks ps qs : List ℕ} → Each Same ks ps qs → rounds n ks ps ≡ rounds n ks qs
rounds_agree zero t = refl
rounds_agree (suc n) t = let r = turns_agree t in ap₂ (λ (xs ys : List ℕ). xs ++ ys) r.0 (rounds_agree n r.1)

-- the values whose turns give these bits
fill : (n : ℕ) (ks xs : List ℕ) → AtMost n ks → AllByRecursion (λ b. b < 2) xs → length xs ≡ total ks → (vs : List ℕ) × Fit ks vs × (rounds n ks vs ≡ xs)
fill zero ks xs h b e = (map (λ (k : ℕ). 0) ks, nothing ks, sym (nil_from_length xs (e ∙ none_left ks h)))
fill (suc n) ks xs h b e =
    let s = front_total ks in
    let d : length (drop (front ks) xs) ≡ total (map pred ks) = length-drop (front ks) xs ∙ omega arith in
    let r = fill n (map pred ks) (drop (front ks) xs) (lower_most n ks h) (All-drop _ (front ks) xs b) d in
    let l = lift ks (take (front ks) xs) r.1 (All-take _ (front ks) xs b) (length-take-le (front ks) xs (omega arith)) in
    (l.0, l.1, ap₂ (λ (ys zs : List ℕ). ys ++ zs) l.2 (rounds_agree n l.3 ∙ r.2) ∙ take-append-drop (front ks) xs)

-- the point with these raised values
place : (axs : List Axis) {vs : List ℕ} → Fit (widths axs) vs → (p : List ℤ) × OnAxes axs p × (raise axs p ≡ vs)
place [] fit_none = ([], tt, refl)
place (a ∷ axs) (fit_more k v h f) =
    let r = place axs f in
    let z = a.least +ℤ pos v in
    let on : OnAxis a z = (omega (arith, ints), omega (arith, ints)) in
    let e : raised a z ≡ v = omega (arith, ints) in
    (z ∷ r.0, (on, r.1), ap₂ (λ (y : ℕ) (ys : List ℕ). y ∷ ys) e r.2)

pub every_code_law : EveryCodeLaw
unfolding woven
every_code_law axs m c h =
    let w = width axs in
    let r = fill 32 (widths axs) (bits w c) (most 32 (widths axs) m) (bits_bits w c) (bits_length w c) in
    let q = place axs r.1 in
    let e : digits 0 (bits w c) ≡ c = digits_bits w c 0 ∙ omega (arith, mod-eq_of_lt h) in
    (q.0, q.1, ap (λ vs. digits 0 (rounds 32 (widths axs) vs)) q.2 ∙ ap (digits 0) r.2 ∙ e)
