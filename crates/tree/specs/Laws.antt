-- The laws of trees and lawful cards, for every kind.
use Rattle.std.specs.Prelude.{◌≡◌, ℕ, suc, ◌+◌, ◌*◌, ◌≤◌, false, ◌⊎◌, List, length, Option, ◌≢◌, bit_xor}
use Rattle.std.specs.Int.Count.{count_leading_zeros}
use Rattle.std.specs.List.{ContainsAt as Has}
use Rattle.zorder.specs.Code.{code}
use Rattle.kinds.specs.Kind.{Kind, Sound, On, Whether, wide, code_of, low_corner, high_corner}
use Rattle.tree.specs.Sets.{IsSet, live, with_point, without_point}
use Rattle.tree.specs.Tree.{Tree, node, points, TreeOf, OptionalTreeOf, data_pages, directory_pages, count_pages}
use Rattle.tree.specs.Laid.{Laid, shape, root_shape, way, way_end}
use Rattle.tree.specs.Lawful.{Card, Lawful}

-- Every set has exactly one tree.
abbrev pub OneTreeLaw : Type 0 → Type 0
OneTreeLaw P = (k : Kind P) → Sound k → (set : List P) → IsSet k set → (o : Option (Tree P)) × OptionalTreeOf k set o × ((u : Option (Tree P)) → OptionalTreeOf k set u → u ≡ o)

-- The points of the tree are the set.
abbrev pub PointsLaw : Type 0 → Type 0
PointsLaw P = (k : Kind P) → Sound k → (set : List P) (t : Tree P) → IsSet k set → TreeOf k set t → points t ≡ set

-- A tree has one data page more than directory pages.
abbrev pub PageLaw : Type 0 → Type 0
PageLaw P = (t : Tree P) → data_pages t ≡ suc (directory_pages t)

-- A tree has at most b points for each of its data pages.
abbrev pub CountLaw : Type 0 → Type 0
CountLaw P = (k : Kind P) → Sound k → (set : List P) (t : Tree P) → TreeOf k set t → IsSet k set → length set ≤ k.capacity * data_pages t

-- The depth of a directory page is the number of first bits that the codes of the set's corners share.
abbrev pub DepthLaw : Type 0 → Type 0
DepthLaw P = (k : Kind P) → Sound k → (set : List P) (n : ℕ) (l h : Tree P) → IsSet k set → TreeOf k set (node n l h)
    → n ≡ count_leading_zeros (wide k) (bit_xor (code k.axes (low_corner k set)) (code k.axes (high_corner k set)))

-- For a set and a point on its axes: live is membership, with the point adds exactly that point, without it removes exactly that one, and both are sets again.
pub record SetWith {P : Type 0} (k : Kind P) (set : List P) (p : P) : Type 0 where
  pub live_is : Whether (live (code_of k) p set) (Has set p)
  pub with_set : live (code_of k) p set ≡ false → IsSet k (with_point (code_of k) p set)
  pub with_new : Has (with_point (code_of k) p set) p
  pub with_old : (q : P) → Has set q → Has (with_point (code_of k) p set) q
  pub with_only : (q : P) → Has (with_point (code_of k) p set) q → Has set q ⊎ (q ≡ p)
  pub without_set : IsSet k (without_point (code_of k) p set)
  pub without_old : (q : P) → Has set q → (q ≢ p) → Has (without_point (code_of k) p set) q
  pub without_only : (q : P) → Has (without_point (code_of k) p set) q → Has set q × (q ≢ p)

abbrev pub SetLaw : Type 0 → Type 0
SetLaw P = (k : Kind P) → Sound k → (set : List P) (p : P) → IsSet k set → On k p → SetWith k set p

-- A card is lawful for at most one set.
abbrev pub OneSetLaw : Type 0 → Type 0
OneSetLaw P = (k : Kind P) → Sound k → (card : Card) (a b : List P) → Lawful k card a → Lawful k card b → a ≡ b

-- Tree pages and free pages make N - 1.
abbrev pub WholeCardLaw : Type 0 → Type 0
WholeCardLaw P = (k : Kind P) → Sound k → (card : Card) (set : List P) → (w : Lawful k card set) → suc (count_pages (root_shape w.root) + length w.chain) ≡ length card

-- A point is live exactly if the data page at the end of its way has it.
abbrev pub WayLaw : Type 0 → Type 0
WayLaw P = (k : Kind P) → Sound k → (set : List P) (t : Laid P) (p : P) → IsSet k set → TreeOf k set (shape t) → live (code_of k) p set ≡ live (code_of k) p (way_end (code_of k) (wide k) t p)

-- A way has at most W directory pages and one data page.
abbrev pub ShortWayLaw : Type 0 → Type 0
ShortWayLaw P = (k : Kind P) → Sound k → (set : List P) (t : Laid P) (p : P) → IsSet k set → TreeOf k set (shape t) → length (way (code_of k) (wide k) t p) ≤ suc (wide k)
