-- What a put and a take make of the laid tree of a set, for every kind.
use Rattle.std.specs.Prelude.{◌≡◌, ℕ, ◌+◌, ◌≤◌, true, false, ◌⊎◌, List, [], ◌∷◌, ◌++◌, length, Option}
use Rattle.std.specs.List.{ContainsAt as Has, AllByRecursion}
use Rattle.kinds.specs.Kind.{Kind, Sound, On, wide, code_of}
use Rattle.page.specs.Form.{times}
use Rattle.tree.specs.Sets.{IsSet, live, with_point, without_point}
use Rattle.tree.specs.Tree.{Tree, TreeOf, OptionalTreeOf, data_pages, directory_pages}
use Rattle.tree.specs.Laid.{Laid, numbers, shape, way, beside, root_shape, root_numbers}
use Rattle.tree.specs.Lawful.{parts, root_parts}
use Rattle.growth.specs.Grows.{Grows}
use Rattle.growth.specs.Shrinks.{Shrinks}

-- What a put makes of the laid tree of a set, with two pages f and g at hand.
pub record PutMade {P : Type 0} (k : Kind P) (ps : List P) (p : P) (f g : ℕ) (t : Laid P) : Type 0 where
  pub made : Laid P
  pub new : List ℕ
  pub grown : Grows (code_of k) (wide k) k.capacity p f g t made new
  -- it is the tree of the set with the point
  pub is : TreeOf k (with_point (code_of k) p ps) (shape made)
  -- it has no new page, or both, beside the old ones
  pub none_or_both : (new ≡ []) ⊎ (new ≡ f ∷ (g ∷ []))
  pub each : (q : ℕ) → times q (numbers made) ≡ times q (numbers t) + times q new
  pub count : length (numbers made) ≡ length (numbers t) + length new
  -- so the tree of the set with the point has so many pages, whichever way it is laid
  pub pages : (u : Tree P) → TreeOf k (with_point (code_of k) p ps) u → data_pages u + directory_pages u ≡ length (numbers t) + length new
  -- each of its pages is new, on the way of the point, or as it was
  pub others : AllByRecursion (λ x. (1 ≤ times x.at (new ++ way (code_of k) (wide k) t p)) ⊎ Has (parts k t) x) (parts k made)

-- A point that is not live can be put into the laid tree of a set.
abbrev pub PutLaw : Type 0 → Type 0
PutLaw P = (k : Kind P) → Sound k → (ps : List P) (t : Laid P) (p : P) (f g : ℕ) → IsSet k ps → TreeOf k ps (shape t) → On k p → live (code_of k) p ps ≡ false → PutMade k ps p f g t

-- What a take makes of the laid tree of a set: nothing is left of it where the set had no other point.
pub record TakeMade {P : Type 0} (k : Kind P) (ps : List P) (p : P) (t : Laid P) : Type 0 where
  pub made : Option (Laid P)
  pub freed : List ℕ
  pub shrunk : Shrinks (code_of k) (wide k) k.capacity p t made freed
  -- it is the tree of the set without the point
  pub is : OptionalTreeOf k (without_point (code_of k) p ps) (root_shape made)
  -- at most two pages become free, and these and the pages left are the old ones
  pub few : length freed ≤ 2
  pub each : (q : ℕ) → times q (numbers t) ≡ times q (root_numbers made) + times q freed
  -- each page left is on the way of the point, beside its last page, or as it was; and each freed page is on the way or beside its last page
  pub others : AllByRecursion (λ x. (1 ≤ times x.at (way (code_of k) (wide k) t p ++ beside (code_of k) (wide k) t p)) ⊎ Has (parts k t) x) (root_parts k made)
  pub freed_there : AllByRecursion (λ q. 1 ≤ times q (way (code_of k) (wide k) t p ++ beside (code_of k) (wide k) t p)) freed

-- A live point can be taken from the laid tree of a set.
abbrev pub TakeLaw : Type 0 → Type 0
TakeLaw P = (k : Kind P) → Sound k → (ps : List P) (t : Laid P) (p : P) → IsSet k ps → TreeOf k ps (shape t) → live (code_of k) p ps ≡ true → TakeMade k ps p t
