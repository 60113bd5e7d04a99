-- The code rises with the coordinates.
use Rattle.std.proofs.Common.{◌≡◌, ℕ, zero, suc, pred, ◌+◌, ◌*◌, ◌/◌, ◌%◌, ◌^◌, ◌<◌, ◌≤◌, ◌⊎◌, List, [], ◌∷◌, ◌++◌, map, refl, inl, inr, mod-lt, one-add, arith, lit<, pow_pos}
use lib.Pow.{mod-pow-add}
use Rattle.zorder.specs.Code.{digits, turns, rounds}
use Rattle.zorder.proofs.Bitlists.{Bin, none, one, Lex, same, less, next, digits_le}

-- two points, value by value: k bits are left on the axis, and R k a b is known of their values
pub data Each (R : ℕ → ℕ → ℕ → Type 0) : List ℕ → List ℕ → List ℕ → Type 0 where
  done : Each R [] [] []
  each : (k a b : ℕ) {ks ps qs : List ℕ} → R k a b → Each R ks ps qs → Each R (k ∷ ks) (a ∷ ps) (b ∷ qs)

abbrev pub Below : ℕ → ℕ → ℕ → Type 0
Below k a b = a % 2 ^ k ≤ b % 2 ^ k

digit_cases : (m x y r s : ℕ) → x < 2 → y < 2 → r < m → s < m → x * m + r ≤ y * m + s → (x < y) ⊎ ((x ≡ y) × (r ≤ s))
digit_cases m zero zero r s p q f g h = inr (refl, omega arith)
digit_cases m zero (suc y) r s p q f g h = inl (omega arith)
digit_cases m (suc zero) zero r s p q f g h = absurd (omega arith)
digit_cases m (suc zero) (suc zero) r s p q f g h = inr (refl, omega arith)
digit_cases m (suc zero) (suc (suc y)) r s p q f g h = absurd (omega arith)
digit_cases m (suc (suc x)) y r s p q f g h = absurd (omega arith)

pub bit_cases : (k a b : ℕ) → Below (suc k) a b → ((a / 2 ^ k % 2) < (b / 2 ^ k % 2)) ⊎ (((a / 2 ^ k % 2) ≡ (b / 2 ^ k % 2)) × Below k a b)
bit_cases k a b h =
    let e : a % 2 ^ (1 + k) ≡ (a / 2 ^ k % 2) * 2 ^ k + a % 2 ^ k = mod-pow-add a 1 k in
    let f : b % 2 ^ (1 + k) ≡ (b / 2 ^ k % 2) * 2 ^ k + b % 2 ^ k = mod-pow-add b 1 k in
    let g : a % 2 ^ (1 + k) ≤ b % 2 ^ (1 + k) = rw one-add h in
    digit_cases (2 ^ k) (a / 2 ^ k % 2) (b / 2 ^ k % 2) (a % 2 ^ k) (b % 2 ^ k) (mod-lt (a / 2 ^ k) (lit< tt)) (mod-lt (b / 2 ^ k) (lit< tt)) (mod-lt a (pow_pos k)) (mod-lt b (pow_pos k)) (omega (arith, e, f, g))

turns_lex : {ks ps qs rs ss : List ℕ} → Each Below ks ps qs → (Each Below (map pred ks) ps qs → Lex rs ss) → Lex (turns ks ps ++ rs) (turns ks qs ++ ss)
turns_lex done f = f done
turns_lex (each zero a b h t) f = turns_lex t (λ u. f (each zero a b h u))
turns_lex (each (suc k) a b h t) f = elim (bit_cases k a b h) [ inl l ↦ less l | inr e ↦ next e.0 (turns_lex t (λ u. f (each k a b e.1 u))) ]

pub rounds_lex : (n : ℕ) {ks ps qs : List ℕ} → Each Below ks ps qs → Lex (rounds n ks ps) (rounds n ks qs)
rounds_lex zero t = same
rounds_lex (suc n) t = turns_lex t (rounds_lex n)

-- the bits are bits, and as many at every point
turns_bin : {R : ℕ → ℕ → ℕ → Type 0} {ks ps qs rs ss : List ℕ} → Each R ks ps qs → Bin rs ss → Bin (turns ks ps ++ rs) (turns ks qs ++ ss)
turns_bin done f = f
turns_bin (each zero a b h t) f = turns_bin t f
turns_bin (each (suc k) a b h t) f = one (mod-lt (a / 2 ^ k) (lit< tt)) (mod-lt (b / 2 ^ k) (lit< tt)) (turns_bin t f)

-- what is known of any two points of one kind
abbrev pub Any : ℕ → ℕ → ℕ → Type 0
Any k a b = Unit {0}

pub lowered : {R : ℕ → ℕ → ℕ → Type 0} {ks ps qs : List ℕ} → Each R ks ps qs → Each Any (map pred ks) ps qs
lowered done = done
lowered (each k a b h t) = each (pred k) a b tt (lowered t)

pub rounds_bin : (n : ℕ) {ks ps qs : List ℕ} → Each Any ks ps qs → Bin (rounds n ks ps) (rounds n ks qs)
rounds_bin zero t = none
rounds_bin (suc n) t = turns_bin t (rounds_bin n (lowered t))

forget : {R : ℕ → ℕ → ℕ → Type 0} {ks ps qs : List ℕ} → Each R ks ps qs → Each Any ks ps qs
forget done = done
forget (each k a b h t) = each k a b tt (forget t)

pub code_le : (n : ℕ) {ks ps qs : List ℕ} → Each Below ks ps qs → digits 0 (rounds n ks ps) ≤ digits 0 (rounds n ks qs)
code_le n t = digits_le (rounds_bin n (forget t)) (rounds_lex n t) 0
