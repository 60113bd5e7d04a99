-- The numbers by which the outside world knows the refusals.
use Rattle.std.specs.Prelude.{◌≡◌, ℕ, Ok, Err, Result}
use Rattle.refusal.specs.declared.Refusal.{Refusal}
use Rattle.refusal.specs.declared.Refusal.TheVariants.{PageCount, Crossed, OffAxis, Live, Absent, Full, ShortBuffer, FewMarks, Damaged}

-- the number of each refusal
abbrev pub number : Refusal → ℕ
number PageCount = 1
number Crossed = 2
number OffAxis = 3
number Live = 4
number Absent = 5
number Full = 6
number ShortBuffer = 7
number FewMarks = 8
number Damaged = 9

-- two refusals with one number are one refusal
abbrev pub NumbersLaw : Type 0
NumbersLaw = (d e : Refusal) → number d ≡ number e → d ≡ e

-- an answer, with the number of a refusal in the place of its name
abbrev pub numbered : {X : Type 0} → Result X Refusal → Result X ℕ
numbered (Ok x) = Ok x
numbered (Err e) = Err (number e)
