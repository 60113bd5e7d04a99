-- Shared first bits of numbers, and the leading zeros of their xor.
use Rattle.std.proofs.Common.{◌≡◌, ℕ, zero, suc, ◌+◌, ◌-◌, ◌/◌, ◌%◌, ◌^◌, ◌<◌, ◌≤◌, sym, ap, ◌∙◌, div-lt_iff_lt-mul, one-mul, lt_of_not-le, arith, pow_pos, pow_mono, shr-shr}
use native.Mathlib.Nat.{div-eq_of_lt}
use lib.Pow.{shr_mono}
use lib.Bits.{bit_xor, xor_shr, xor_self, xor_assoc, xor_zero_l, xor_zero_r, xor_lt}
use lib.Count.{count_leading_zeros, leading_le, leading_top, leading_of_zero, leading_length, leading_unique}
use Rattle.zorder.specs.Code.{first, bit_at}
use Rattle.zorder.specs.Sharing.{Shares}

xor_zero_eq : (a b : ℕ) → bit_xor a b ≡ 0 → a ≡ b
xor_zero_eq a b h = sym (xor_zero_r a) ∙ ap (bit_xor a) (sym h) ∙ sym (xor_assoc a a b) ∙ ap (λ x. bit_xor x b) (xor_self a) ∙ xor_zero_l b

pub agree_xor : (k c d : ℕ) → c / 2 ^ k ≡ d / 2 ^ k → bit_xor c d < 2 ^ k
agree_xor k c d h =
    let z : bit_xor c d / 2 ^ k ≡ 0 = xor_shr c d k ∙ ap (λ x. bit_xor x (d / 2 ^ k)) h ∙ xor_self (d / 2 ^ k) in
    let l : bit_xor c d / 2 ^ k < 1 = omega (arith, z) in
    rw one-mul at ((div-lt_iff_lt-mul (pow_pos k)).0 l)

pub xor_agree : (k c d : ℕ) → bit_xor c d < 2 ^ k → c / 2 ^ k ≡ d / 2 ^ k
xor_agree k c d h = xor_zero_eq (c / 2 ^ k) (d / 2 ^ k) (sym (xor_shr c d k) ∙ div-eq_of_lt h)

pow_cancel : (i j : ℕ) → 2 ^ i < 2 ^ j → i < j
pow_cancel i j p = lt_of_not-le (λ (g : j ≤ i). let q : 2 ^ j ≤ 2 ^ i = pow_mono g in omega arith)

-- a number of w bits has n leading zeros or more exactly where it is below 2 ^ (w - n)
pub zeros_lt : (w x n : ℕ) → x < 2 ^ w → n ≤ count_leading_zeros w x → x < 2 ^ (w - n)
zeros_lt w x n h l =
    let t = leading_length w x h in
    let le : t.0 ≤ w - n = omega (arith, t.1) in
    let p : 2 ^ t.0 ≤ 2 ^ (w - n) = pow_mono le in
    omega (arith, t.2, p)

pub lt_zeros : (w x n : ℕ) → x < 2 ^ w → n ≤ w → x < 2 ^ (w - n) → n ≤ count_leading_zeros w x
lt_zeros w zero n h m l = rw leading_of_zero m
lt_zeros w (suc y) n h m l =
    let t = leading_top w (suc y) (omega arith) h in
    let q : t.0 < w - n = pow_cancel t.0 (w - n) (omega (arith, t.2)) in
    omega (arith, t.1, q)

-- the agreement of first bits, by the leading zeros of the xor
pub agree_zeros : (w c d n : ℕ) → c < 2 ^ w → d < 2 ^ w → n ≤ w → first w n c ≡ first w n d → n ≤ count_leading_zeros w (bit_xor c d)
agree_zeros w c d n hc hd m e = lt_zeros w (bit_xor c d) n (xor_lt w c d hc hd) m (agree_xor (w - n) c d e)

pub zeros_agree : (w c d n : ℕ) → c < 2 ^ w → d < 2 ^ w → n ≤ count_leading_zeros w (bit_xor c d) → first w n c ≡ first w n d
zeros_agree w c d n hc hd l = xor_agree (w - n) c d (zeros_lt w (bit_xor c d) n (xor_lt w c d hc hd) l)

-- the same count at the width of the machine
pub zeros_wide : (v w x : ℕ) → w ≤ v → x < 2 ^ w → count_leading_zeros v x ≡ (v - w) + count_leading_zeros w x
zeros_wide v w x m h =
    let t = leading_length w x h in
    sym (leading_unique v x ((v - w) + count_leading_zeros w x) t.0 (omega (arith, t.1)) t.2 t.3)

-- what lies between two numbers shares the first bits that they share
pub between : (k a b c : ℕ) → a ≤ b → b ≤ c → a / 2 ^ k ≡ c / 2 ^ k → b / 2 ^ k ≡ a / 2 ^ k
between k a b c p q e = omega (arith, shr_mono k p, shr_mono k q, e)

-- the first n bits, from the first n and one
first_half : (w n c : ℕ) → n < w → first w n c ≡ first w (suc n) c / 2
first_half w n c h =
    let e : w - n ≡ (w - suc n) + 1 = omega arith in
    ap (λ k. c / 2 ^ k) e ∙ sym (shr-shr c (w - suc n) 1)

-- one bit more
pub bit_next : (w n c d : ℕ) → n < w → first w n c ≡ first w n d → bit_at w n c ≡ bit_at w n d → first w (suc n) c ≡ first w (suc n) d
bit_next w n c d h e b = omega (arith, first_half w n c h, first_half w n d h, e, b)

-- where the first bits agree, bit n decides the order
pub bit_order : (w n c d : ℕ) → n < w → first w n c ≡ first w n d → bit_at w n c ≡ 0 → bit_at w n d ≡ 1 → c < d
bit_order w n c d h e p q =
    lt_of_not-le (λ (g : d ≤ c). let m : first w (suc n) d ≤ first w (suc n) c = shr_mono (w - suc n) g in
    omega (arith, first_half w n c h, first_half w n d h, e, p, q, m))

pub shares_zeros : (w c d : ℕ) → c < 2 ^ w → d < 2 ^ w → Shares w (count_leading_zeros w (bit_xor c d)) c d
shares_zeros w c d hc hd =
    let n = count_leading_zeros w (bit_xor c d) in
    let e : first w n c ≡ first w n d = zeros_agree w c d n hc hd (omega arith) in
    record {
      within = leading_le w (bit_xor c d);
      agree = e;
      differ = λ lt b. let too : suc n ≤ n = agree_zeros w c d (suc n) hc hd lt (bit_next w n c d lt e b) in omega arith;
    }

pub shares_one : (w n c d : ℕ) → c < 2 ^ w → d < 2 ^ w → Shares w n c d → n ≡ count_leading_zeros w (bit_xor c d)
shares_one w n c d hc hd s =
    let z = count_leading_zeros w (bit_xor c d) in
    let le : n ≤ z = agree_zeros w c d n hc hd s.within s.agree in
    let ge : z < suc n = lt_of_not-le (λ (lt : suc n ≤ z). s.differ (omega (arith, leading_le w (bit_xor c d))) (ap (λ x. x % 2) (zeros_agree w c d (suc n) hc hd lt))) in
    omega arith
