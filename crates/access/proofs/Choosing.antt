-- Which half a bit chooses.
use Rattle.std.proofs.Common.{◌≡◌, ℕ, Bool, true, false, cond, eqb, refl}
use Rattle.access.specs.Reached.{chosen}

-- a function of the chosen one
pub chosen_of : {X Y : Type 0} (f : X → Y) (b : ℕ) (x y : X) → f (chosen b x y) ≡ chosen b (f x) (f y)
chosen_of f b x y = by (eqb b 0)
  where
    by : (t : Bool) → f (cond t x y) ≡ cond t (f x) (f y)
    by true = refl
    by false = refl

-- the other of two, chosen again
pub chosen_first : {X : Type 0} (b : ℕ) (x y z : X) → chosen b x (chosen b y z) ≡ chosen b x z
chosen_first b x y z = by (eqb b 0)
  where
    by : (t : Bool) → cond t x (cond t y z) ≡ cond t x z
    by true = refl
    by false = refl

pub chosen_second : {X : Type 0} (b : ℕ) (x y z : X) → chosen b (chosen b y z) x ≡ chosen b y x
chosen_second b x y z = by (eqb b 0)
  where
    by : (t : Bool) → cond t (cond t y z) x ≡ cond t y x
    by true = refl
    by false = refl
