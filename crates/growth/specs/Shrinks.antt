-- What a take makes of a laid tree.
use Rattle.std.specs.Prelude.{◌≡◌, ℕ, ◌<◌, ◌≤◌, List, [], ◌∷◌, ◌++◌, length, Some, None, Option}
use Rattle.zorder.specs.Code.{bit_at}
use Rattle.tree.specs.Sets.{without_point}
use Rattle.tree.specs.Laid.{Laid, data_at, directory_at, below_it}

module _ {P : Type 0} (code : P → ℕ) (w b : ℕ) where
  -- the laid tree, what is left of it, and which pages are free now
  pub data Shrinks (p : P) : Laid P → Option (Laid P) → List ℕ → Type 0 where
    -- a data page
    emptied : {q : ℕ} {ps : List P} → without_point code p ps ≡ [] → Shrinks p (data_at q ps) None (q ∷ [])
    fewer : {q : ℕ} {ps : List P} → 1 ≤ length (without_point code p ps) → Shrinks p (data_at q ps) (Some (data_at q (without_point code p ps))) []
    -- a half has no point left: the other one stands in its parent's place
    low_gone : {q n : ℕ} {l h : Laid P} {freed : List ℕ} → bit_at w n (code p) ≡ 0 → Shrinks p l None freed → Shrinks p (directory_at q n l h) (Some h) (q ∷ freed)
    high_gone : {q n : ℕ} {l h : Laid P} {freed : List ℕ} → bit_at w n (code p) ≡ 1 → Shrinks p h None freed → Shrinks p (directory_at q n l h) (Some l) (q ∷ freed)
    -- both halves together have room in one data page
    merged_low : {q n r s : ℕ} {ls hs : List P} → bit_at w n (code p) ≡ 0 → 1 ≤ length (without_point code p ls) → length (without_point code p ls ++ hs) ≤ b
        → Shrinks p (directory_at q n (data_at r ls) (data_at s hs)) (Some (data_at r (without_point code p ls ++ hs))) (q ∷ (s ∷ []))
    merged_high : {q n r s : ℕ} {ls hs : List P} → bit_at w n (code p) ≡ 1 → 1 ≤ length (without_point code p hs) → length (ls ++ without_point code p hs) ≤ b
        → Shrinks p (directory_at q n (data_at r ls) (data_at s hs)) (Some (data_at s (ls ++ without_point code p hs))) (q ∷ (r ∷ []))
    -- both halves stay
    less_low : {q n : ℕ} {l h m : Laid P} {freed : List ℕ} → bit_at w n (code p) ≡ 0 → Shrinks p l (Some m) freed → b < length (below_it m ++ below_it h) → Shrinks p (directory_at q n l h) (Some (directory_at q n m h)) freed
    less_high : {q n : ℕ} {l h m : Laid P} {freed : List ℕ} → bit_at w n (code p) ≡ 1 → Shrinks p h (Some m) freed → b < length (below_it l ++ below_it m) → Shrinks p (directory_at q n l h) (Some (directory_at q n l m)) freed
