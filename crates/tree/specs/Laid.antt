-- Laid trees: trees with a page number at each part. Which pages they use, and the way of a point.
use Rattle.std.specs.Prelude.{ℕ, Bool, true, cond, ◌&&◌, List, [], ◌∷◌, ◌++◌, Some, None, Option, ◌==◌}
use Rattle.zorder.specs.Code.{first, bit_at}
use Rattle.kinds.specs.Kind.{Kind, wide, code_of}
use Rattle.tree.specs.Tree.{Tree, leaf, node, points}

-- A data page at a page number with its points, or a directory page at a page number with its depth and its laid halves.
pub data Laid (P : Type 0) : Type 0 where
  data_at : ℕ → List P → Laid P
  directory_at : ℕ → ℕ → Laid P → Laid P → Laid P

module _ {P : Type 0} where
  -- the page at which a laid tree begins
  abbrev pub number : Laid P → ℕ
  number (data_at q ps) = q
  number (directory_at q n l h) = q

  -- the tree, page numbers aside
  abbrev pub shape : Laid P → Tree P
  shape (data_at q ps) = leaf ps
  shape (directory_at q n l h) = node n (shape l) (shape h)

  -- the pages: the first one, its low half's pages, its high half's
  abbrev pub numbers : Laid P → List ℕ
  numbers (data_at q ps) = q ∷ []
  numbers (directory_at q n l h) = q ∷ (numbers l ++ numbers h)

  -- the points
  abbrev pub below_it : Laid P → List P
  below_it t = points (shape t)

module _ {P : Type 0} (code : P → ℕ) (w : ℕ) where
  -- p shares the first n bits of all the points: it agrees with all n
  abbrev pub agrees : ℕ → List P → P → Bool
  agrees n [] p = true
  agrees n (q ∷ qs) p = first w n (code q) == first w n (code p) && agrees n qs p

  -- The way of a point. From a directory page whose n first bits the point shares it goes on to the half of the point's bit n;
  -- it ends at a data page, or at a directory page whose first bits the point does not share.
  abbrev pub way : Laid P → P → List ℕ
  way (data_at q ps) p = q ∷ []
  way (directory_at q n l h) p =
      cond (agrees n (below_it (directory_at q n l h)) p)
      (cond (bit_at w n (code p) == 0) (q ∷ way l p) (q ∷ way h p))
      (q ∷ [])

  -- The page beside the last one of the way: the other half's page of the last directory page on it, and `other` where there is none.
  abbrev pub beside_in : List ℕ → Laid P → P → List ℕ
  beside_in other (data_at q ps) p = other
  beside_in other (directory_at q n l h) p =
      cond (agrees n (below_it (directory_at q n l h)) p)
      (cond (bit_at w n (code p) == 0) (beside_in (number h ∷ []) l p) (beside_in (number l ∷ []) h p))
      other

  abbrev pub beside : Laid P → P → List ℕ
  beside t p = beside_in [] t p

  -- The points of the data page at which the way ends; none where it ends at a directory page.
  abbrev pub way_end : Laid P → P → List P
  way_end (data_at q ps) p = ps
  way_end (directory_at q n l h) p =
      cond (agrees n (below_it (directory_at q n l h)) p)
      (cond (bit_at w n (code p) == 0) (way_end l p) (way_end h p))
      []

-- ---- a whole draft: an empty set has no page

module _ {P : Type 0} where
  abbrev pub root_shape : Option (Laid P) → Option (Tree P)
  root_shape None = None
  root_shape (Some t) = Some (shape t)

  abbrev pub root_numbers : Option (Laid P) → List ℕ
  root_numbers None = []
  root_numbers (Some t) = numbers t

module _ {P : Type 0} (k : Kind P) where
  -- the way of a point from the root, and the page beside its last
  abbrev pub root_way : Option (Laid P) → P → List ℕ
  root_way None p = []
  root_way (Some t) p = way (code_of k) (wide k) t p

  abbrev pub root_beside : Option (Laid P) → P → List ℕ
  root_beside None p = []
  root_beside (Some t) p = beside (code_of k) (wide k) t p
