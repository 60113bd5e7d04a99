-- A point that has each of its values from one of two points shares the first bits that these share; how many bits there are; equal codes.
use Rattle.std.proofs.Common.{◌≡◌, ℕ, zero, suc, pred, ◌+◌, ◌*◌, ◌/◌, ◌%◌, ◌^◌, ◌≤◌, ◌⊎◌, List, [], ◌∷◌, ◌++◌, map, length, take, sym, refl, ap, ◌∙◌, inl, inr, one-add, arith, length-append}
use native.Mathlib.Nat.{mod-one}
use lib.Pow.{mod-pow-add}
use Rattle.std.specs.List.{AllByRecursion}
use Rattle.zorder.specs.Code.{turns, rounds, total}
use Rattle.zorder.proofs.Order.{Each, done, each, lowered}

pub data Mix : List ℕ → List ℕ → List ℕ → Type 0 where
  unmixed : Mix [] [] []
  mixed : (a b m : ℕ) {ps qs ms : List ℕ} → (m ≡ a) ⊎ (m ≡ b) → Mix ps qs ms → Mix (a ∷ ps) (b ∷ qs) (m ∷ ms)

-- where rs and ss share n first bits, ts begins with them
abbrev Follows : List ℕ → List ℕ → List ℕ → Type 0
Follows rs ss ts = (n : ℕ) → take n rs ≡ take n ss → take n ts ≡ take n rs

follows_cons : (x y z : ℕ) (rs ss ts : List ℕ) → (x ≡ y → z ≡ x) → Follows rs ss ts → Follows (x ∷ rs) (y ∷ ss) (z ∷ ts)
follows_cons x y z rs ss ts h f zero e = refl
follows_cons x y z rs ss ts h f (suc n) e =
    let i : x ≡ y = cc in
    let t : take n rs ≡ take n ss = cc in
    let u : z ≡ x = h i in
    let v : take n ts ≡ take n rs = f n t in
    cc

turns_mix : {ps qs ms : List ℕ} → Mix ps qs ms → (ks rs ss ts : List ℕ) → Follows rs ss ts → Follows (turns ks ps ++ rs) (turns ks qs ++ ss) (turns ks ms ++ ts)
turns_mix w [] rs ss ts f = f
turns_mix unmixed (k ∷ ks) rs ss ts f = f
turns_mix (mixed a b m h w) (zero ∷ ks) rs ss ts f = turns_mix w ks rs ss ts f
turns_mix (mixed a b m {ps} {qs} {ms} h w) (suc k ∷ ks) rs ss ts f =
    let g = λ (n : ℕ). n / 2 ^ k % 2 in
    follows_cons (g a) (g b) (g m) (turns ks ps ++ rs) (turns ks qs ++ ss) (turns ks ms ++ ts)
    (λ e. elim h [ inl i ↦ ap g i | inr i ↦ ap g i ∙ sym e ])
    (turns_mix w ks rs ss ts f)

pub rounds_mix : (n : ℕ) {ps qs ms : List ℕ} → Mix ps qs ms → (ks : List ℕ) → Follows (rounds n ks ps) (rounds n ks qs) (rounds n ks ms)
rounds_mix zero w ks = λ j e. refl
rounds_mix (suc n) {ps} {qs} {ms} w ks = turns_mix w ks (rounds n (map pred ks) ps) (rounds n (map pred ks) qs) (rounds n (map pred ks) ms) (rounds_mix n w (map pred ks))

-- ---- how many bits

abbrev pub AtMost : ℕ → List ℕ → Type 0
AtMost n [] = Unit {0}
AtMost n (k ∷ ks) = (k ≤ n) × AtMost n ks

pub most : (n : ℕ) (ks : List ℕ) → AllByRecursion (λ k. k ≤ n) ks → AtMost n ks
most n [] h = tt
most n (k ∷ ks) h = (h.0, most n ks h.1)

turns_length : {R : ℕ → ℕ → ℕ → Type 0} {ks ps qs : List ℕ} → Each R ks ps qs → length (turns ks ps) + total (map pred ks) ≡ total ks
turns_length done = refl
turns_length (each zero a b h t) = omega (arith, turns_length t)
turns_length (each (suc k) a b h t) = omega (arith, turns_length t)

pub lower_most : (n : ℕ) (ks : List ℕ) → AtMost (suc n) ks → AtMost n (map pred ks)
lower_most n [] h = tt
lower_most n (zero ∷ ks) h = (omega arith, lower_most n ks h.1)
lower_most n (suc k ∷ ks) h = (omega arith, lower_most n ks h.1)

pub none_left : (ks : List ℕ) → AtMost 0 ks → total ks ≡ 0
none_left [] h = refl
none_left (k ∷ ks) h = omega (arith, none_left ks h.1, h.0)

pub rounds_length : {R : ℕ → ℕ → ℕ → Type 0} (n : ℕ) {ks ps qs : List ℕ} → Each R ks ps qs → AtMost n ks → length (rounds n ks ps) ≡ total ks
rounds_length zero {ks} t h = sym (none_left ks h)
rounds_length (suc n) {ks} {ps} t h =
    length-append (turns ks ps) (rounds n (map pred ks) ps) ∙ ap (λ x. length (turns ks ps) + x) (rounds_length n (lowered t) (lower_most n ks h)) ∙ turns_length t

-- where no bits are left, no more are taken
turns_none : (ks vs : List ℕ) → AtMost 0 ks → turns ks vs ≡ []
turns_none [] vs h = refl
turns_none (k ∷ ks) [] h = refl
turns_none (zero ∷ ks) (v ∷ vs) h = turns_none ks vs h.1
turns_none (suc k ∷ ks) (v ∷ vs) h = absurd (omega (arith, h.0))

pred_none : (ks : List ℕ) → AtMost 0 ks → AtMost 0 (map pred ks)
pred_none [] h = tt
pred_none (zero ∷ ks) h = (omega arith, pred_none ks h.1)
pred_none (suc k ∷ ks) h = absurd (omega (arith, h.0))

rounds_none : (m : ℕ) (ks vs : List ℕ) → AtMost 0 ks → rounds m ks vs ≡ []
rounds_none zero ks vs h = refl
rounds_none (suc m) ks vs h = ap (λ xs. xs ++ rounds m (map pred ks) vs) (turns_none ks vs h) ∙ rounds_none m (map pred ks) vs (pred_none ks h)

-- so rounds beyond the bits of the widest axis change nothing
pub rounds_enough : (n m : ℕ) (ks vs : List ℕ) → AtMost n ks → n ≤ m → rounds m ks vs ≡ rounds n ks vs
rounds_enough zero m ks vs h l = rounds_none m ks vs h
rounds_enough (suc n) zero ks vs h l = absurd (omega arith)
rounds_enough (suc n) (suc m) ks vs h l = ap (λ xs. turns ks vs ++ xs) (rounds_enough n m (map pred ks) vs (lower_most n ks h) (omega arith))

-- ---- equal bits

abbrev pub Same : ℕ → ℕ → ℕ → Type 0
Same k a b = a % 2 ^ k ≡ b % 2 ^ k

bit_same : (k a b : ℕ) → (a / 2 ^ k % 2) ≡ (b / 2 ^ k % 2) → Same k a b → Same (suc k) a b
bit_same k a b h s =
    let e : a % 2 ^ (1 + k) ≡ (a / 2 ^ k % 2) * 2 ^ k + a % 2 ^ k = mod-pow-add a 1 k in
    let f : b % 2 ^ (1 + k) ≡ (b / 2 ^ k % 2) * 2 ^ k + b % 2 ^ k = mod-pow-add b 1 k in
    rw (← one-add k) (cc)

head_of : {R : ℕ → ℕ → ℕ → Type 0} {k a b : ℕ} {ks ps qs : List ℕ} → Each R (k ∷ ks) (a ∷ ps) (b ∷ qs) → R k a b
head_of (each k a b h t) = h

tail_of : {R : ℕ → ℕ → ℕ → Type 0} {k a b : ℕ} {ks ps qs : List ℕ} → Each R (k ∷ ks) (a ∷ ps) (b ∷ qs) → Each R ks ps qs
tail_of (each k a b h t) = t

-- the turns and what follows agree, and what follows tells the rest
turns_same : {R : ℕ → ℕ → ℕ → Type 0} {ks ps qs : List ℕ} → Each R ks ps qs → (rs ss : List ℕ) → turns ks ps ++ rs ≡ turns ks qs ++ ss
    → (rs ≡ ss) × (Each Same (map pred ks) ps qs → Each Same ks ps qs)
turns_same done rs ss e = (e, λ u. u)
turns_same (each zero a b h t) rs ss e =
    let r = turns_same t rs ss e in
    (r.0, λ u. each zero a b (head_of u) (r.1 (tail_of u)))
turns_same (each (suc k) a b {ks} {ps} {qs} h t) rs ss e =
    let i : (a / 2 ^ k % 2) ≡ (b / 2 ^ k % 2) = cc in
    let f : turns ks ps ++ rs ≡ turns ks qs ++ ss = cc in
    let r = turns_same t rs ss f in
    (r.0, λ u. each (suc k) a b (bit_same k a b i (head_of u)) (r.1 (tail_of u)))

all_taken : {R : ℕ → ℕ → ℕ → Type 0} {ks ps qs : List ℕ} → Each R ks ps qs → AtMost 0 ks → Each Same ks ps qs
all_taken done h = done
all_taken (each zero a b r t) h = each zero a b (mod-one a ∙ sym (mod-one b)) (all_taken t h.1)
all_taken (each (suc k) a b r t) h = absurd (omega (arith, h.0))

pub rounds_same : {R : ℕ → ℕ → ℕ → Type 0} (n : ℕ) {ks ps qs : List ℕ} → Each R ks ps qs → AtMost n ks → rounds n ks ps ≡ rounds n ks qs → Each Same ks ps qs
rounds_same zero t h e = all_taken t h
rounds_same (suc n) {ks} {ps} {qs} t h e =
    let r = turns_same t (rounds n (map pred ks) ps) (rounds n (map pred ks) qs) e in
    r.1 (rounds_same n (lowered t) (lower_most n ks h) r.0)
