-- The steps of the loops that weave a code.
use Rattle.std.proofs.Common.{◌≡◌, ℕ, suc, pred, ◌+◌, ◌-◌, ◌*◌, ◌/◌, ◌%◌, ◌^◌, ◌<◌, ◌≤◌, List, [], ◌∷◌, ◌++◌, map, length, get_or, drop, sym, refl, ap, ◌∙◌, subst, ap₂, div-lt_iff_lt-mul, one-mul, sub-one, arith, pow_pos, pow_mono}
use native.Mathlib.Nat.{sub-zero}
use lib.Bits.{bit_and, and_mask}
use lib.ListN.{length-map}
use Rattle.std.proofs.lemmas.List.{drop_more, get_or-map, drop_all}
use Rattle.std.specs.List.{AllByRecursion}
use Rattle.zorder.proofs.Bitlists.{digits_div}
use Rattle.zorder.proofs.Order.{Each, done, each, Any, rounds_bin}
use Rattle.zorder.proofs.Mix.{AtMost, most, rounds_length}
use Rattle.zorder.specs.Code.{digits, turn, turns, rounds, after, total}

pub digits_ge : (m : ℕ) (xs : List ℕ) → m ≤ digits m xs
digits_ge m [] = omega arith
digits_ge m (x ∷ xs) = omega (arith, digits_ge (2 * m + x) xs)

module _ (r : ℕ) (ks vs : List ℕ) (i : ℕ) (h : i < length ks) (same : length ks ≡ length vs) where
  opened : drop i (after r ks) ≡ (get_or ks i 0 - r) ∷ drop (i + 1) (after r ks)
  opened =
      let l : i < length (after r ks) = rw length-map h in
      drop_more (after r ks) i 0 l ∙ ap (λ x. x ∷ drop (i + 1) (after r ks)) (get_or-map (λ k. k - r) ks i 0 0 h)

  opened_values : drop i vs ≡ get_or vs i 0 ∷ drop (i + 1) vs
  opened_values = let l : i < length vs = omega arith in drop_more vs i 0 l

  stepped : turns (drop i (after r ks)) (drop i vs) ≡ turn (get_or ks i 0 - r) (get_or vs i 0) ++ turns (drop (i + 1) (after r ks)) (drop (i + 1) vs)
  stepped = ap₂ turns opened opened_values

  pub skipped : (m : ℕ) → get_or ks i 0 ≤ r → digits m (turns (drop (i + 1) (after r ks)) (drop (i + 1) vs)) ≡ digits m (turns (drop i (after r ks)) (drop i vs))
  skipped m g =
      let z : get_or ks i 0 - r ≡ 0 = omega arith in
      sym (ap (digits m) (stepped ∙ ap (λ k. turn k (get_or vs i 0) ++ turns (drop (i + 1) (after r ks)) (drop (i + 1) vs)) z))

  pub taken : (m : ℕ) → r < get_or ks i 0
      → digits (m * 2 + bit_and (get_or vs i 0 / 2 ^ (get_or ks i 0 - 1 - r)) 1) (turns (drop (i + 1) (after r ks)) (drop (i + 1) vs)) ≡ digits m (turns (drop i (after r ks)) (drop i vs))
  taken m g =
      let j = get_or ks i 0 - 1 - r in
      let z : get_or ks i 0 - r ≡ suc j = omega arith in
      let rest = turns (drop (i + 1) (after r ks)) (drop (i + 1) vs) in
      let b : bit_and (get_or vs i 0 / 2 ^ j) 1 ≡ get_or vs i 0 / 2 ^ j % 2 = and_mask (get_or vs i 0 / 2 ^ j) 1 in
      let e : m * 2 + bit_and (get_or vs i 0 / 2 ^ j) 1 ≡ 2 * m + get_or vs i 0 / 2 ^ j % 2 = omega (arith, b) in
      ap (λ n. digits n rest) e ∙ sym (ap (digits m) (stepped ∙ ap (λ k. turn k (get_or vs i 0) ++ rest) z))

  -- the code with the next bit fits, where the whole does
  pub bit_fits : (m whole : ℕ) → r < get_or ks i 0 → digits m (turns (drop i (after r ks)) (drop i vs)) ≡ whole → whole < 2 ^ 64
      → m * 2 + bit_and (get_or vs i 0 / 2 ^ (get_or ks i 0 - 1 - r)) 1 < 2 ^ 64
  bit_fits m whole g e f =
      omega (arith, digits_ge (m * 2 + bit_and (get_or vs i 0 / 2 ^ (get_or ks i 0 - 1 - r)) 1) (turns (drop (i + 1) (after r ks)) (drop (i + 1) vs)), taken m g, e, f)

pub turns_end : (r : ℕ) (ks vs : List ℕ) (i m : ℕ) → length ks ≤ i → digits m (turns (drop i (after r ks)) (drop i vs)) ≡ m
turns_end r ks vs i m h =
    let l : length (after r ks) ≤ i = rw length-map h in
    ap (λ xs. digits m (turns xs (drop i vs))) (drop_all i (after r ks) l)

-- ---- rounds

pub digits_append : (m : ℕ) (xs ys : List ℕ) → digits m (xs ++ ys) ≡ digits (digits m xs) ys
digits_append m [] ys = refl
digits_append m (x ∷ xs) ys = digits_append (2 * m + x) xs ys

pub after_none : (ks : List ℕ) → after 0 ks ≡ ks
after_none [] = refl
after_none (k ∷ ks) = ap₂ (λ (x : ℕ) (xs : List ℕ). x ∷ xs) (sub-zero k) (after_none ks)

after_more : (r : ℕ) (ks : List ℕ) → map pred (after r ks) ≡ after (r + 1) ks
after_more r [] = refl
after_more r (k ∷ ks) = ap₂ (λ (x : ℕ) (xs : List ℕ). x ∷ xs) (sym (sub-one (k - r)) ∙ omega arith) (after_more r ks)

pub round_more : (n r : ℕ) (ks vs : List ℕ) (m : ℕ) → r < n → digits (digits m (turns (after r ks) vs)) (rounds (n - (r + 1)) (after (r + 1) ks) vs) ≡ digits m (rounds (n - r) (after r ks) vs)
round_more n r ks vs m h =
    let e : n - r ≡ suc (n - (r + 1)) = omega arith in
    sym (ap (λ k. digits m (rounds k (after r ks) vs)) e ∙ digits_append m (turns (after r ks) vs) (rounds (n - (r + 1)) (map pred (after r ks)) vs)
    ∙ ap (λ xs. digits (digits m (turns (after r ks) vs)) (rounds (n - (r + 1)) xs vs)) (after_more r ks))

shape : (ks vs : List ℕ) → length ks ≡ length vs → Each Any ks vs vs
shape [] [] h = done
shape [] (v ∷ vs) h = absurd (omega arith)
shape (k ∷ ks) [] h = absurd (omega arith)
shape (k ∷ ks) (v ∷ vs) h = each k v v tt (shape ks vs (omega arith))

pub woven_lt : (n : ℕ) (ks vs : List ℕ) → length ks ≡ length vs → AllByRecursion (λ k. k ≤ n) ks → digits 0 (rounds n ks vs) < 2 ^ total ks
woven_lt n ks vs same h =
    let t = shape ks vs same in
    let xs = rounds n ks vs in
    let z : digits 0 xs / 2 ^ length xs ≡ 0 = digits_div (rounds_bin n t) 0 in
    let l : digits 0 xs / 2 ^ length xs < 1 = omega (arith, z) in
    subst (λ k. digits 0 xs < 2 ^ k) (rounds_length n t (most n ks h)) (rw one-mul at ((div-lt_iff_lt-mul (pow_pos (length xs))).0 l))

-- a round fits, where the whole code does
pub round_fits : (n r : ℕ) (ks vs : List ℕ) (m : ℕ) → r < n → length ks ≡ length vs → AllByRecursion (λ k. k ≤ n) ks → total ks ≤ 60
    → digits m (rounds (n - r) (after r ks) vs) ≡ digits 0 (rounds n ks vs) → digits m (turns (after r ks) vs) < 2 ^ 64
round_fits n r ks vs m h same narrow few e =
    let p : 2 ^ total ks ≤ 2 ^ 60 = pow_mono few in
    omega (arith, digits_ge (digits m (turns (after r ks) vs)) (rounds (n - (r + 1)) (after (r + 1) ks) vs), round_more n r ks vs m h, e, woven_lt n ks vs same narrow, p)

-- after as many rounds as the widest axis has bits, no axis has one left
pub spent : (m r : ℕ) → m ≤ r → (ks : List ℕ) → AllByRecursion (λ k. k ≤ m) ks → AtMost 0 (after r ks)
spent m r le [] all = tt
spent m r le (k ∷ ks) all = let h = all.0 in (omega arith, spent m r le ks all.1)
