-- Whole numbers of 64 bits, in decimal digits.
use Rattle.std.specs.Prelude.{◌≡◌, ℕ, ◌^◌, ◌-◌, List, ℤ, pos, neg_ℤ, Some, IfSome, Option, cond}
use Rattle.std.specs.Int.{w64, saturate_signed}
use Rattle.std.specs.Str.Parse.{IsNumeral, signed_digits_value, without_leading_sign, starts_with_minus}

-- The ends of 64 bits.
abbrev pub least : ℤ
least = neg_ℤ (pos (2 ^ 63))

abbrev pub greatest : ℤ
greatest = pos (2 ^ 63 - 1)

-- The number that a word writes, the nearest of 64 bits to it. A word that writes none gives none, or, where its digits grow too large before the first sign that is no digit, the end of 64 bits on their side.
pub record NumberSays (word : List ℕ) (r : Option ℤ) : Type 0 where
  pub number : IsNumeral 10 (without_leading_sign word) → r ≡ Some (saturate_signed w64 (signed_digits_value 10 word))
  pub other : ¬ (IsNumeral 10 (without_leading_sign word)) → IfSome r (λ z. z ≡ cond (starts_with_minus word) least greatest)
