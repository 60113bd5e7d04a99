-- Loops over the points in the hand, one step on and at the end.
use Rattle.std.proofs.Common.{◌≡◌, ℕ, ◌+◌, ◌<◌, ◌≤◌, Bool, true, false, eqb, ltb, List, [], ◌∷◌, ◌++◌, length, get_or, take, drop, filter, sym, ap, ◌∙◌, subst, arith}
use Rattle.std.specs.List.{AllByRecursion}
use Rattle.std.proofs.lemmas.List.{length-take-le, drop_more, drop_all, take_more, append-nil, append_assoc}
use Rattle.std.proofs.ByRecursion.{All-get_or}
use Rattle.std.proofs.lemmas.Bool.{eq-eqb, ne_eqb, lt-ltb, le-ltb, cond-true, cond-false}
use Rattle.tree.specs.Sets.{live, with_point}
use Rattle.hand.specs.declared.points.Hand.{Hand}
use Rattle.hand.specs.Places.{sixteen}
use Rattle.hand.specs.Hands.{listed}
use Rattle.hand.proofs.Sixteen.{sixteen_long}

module _ {P : Type 0} where
  pub count_is : (h : Hand P) → length (listed h) ≡ h.count
  count_is h = let f = h.few in let n = sixteen_long h.points in length-take-le h.count (sixteen h.points) (omega arith)

  -- what holds of all points in the hand holds of each
  pub item_has : (Q : P → Type 0) (h : Hand P) (i : ℕ) (x : P) → i < h.count → x ≡ get_or (listed h) i x → AllByRecursion Q (listed h) → Q x
  item_has Q h i x lt e all = let n = count_is h in subst Q (sym e) (All-get_or Q (listed h) i x (omega arith) all)

  -- what is left: the point at the place, and what comes behind it
  pub left_is : (h : Hand P) (i : ℕ) (x : P) → i < h.count → x ≡ get_or (listed h) i x → drop i (listed h) ≡ x ∷ drop (i + 1) (listed h)
  left_is h i x lt e = let n = count_is h in drop_more (listed h) i x (omega arith) ∙ ap (λ y. y ∷ drop (i + 1) (listed h)) (sym e)

  pub front_is : (h : Hand P) (i : ℕ) (x : P) → i < h.count → x ≡ get_or (listed h) i x → take (i + 1) (listed h) ≡ take i (listed h) ++ x ∷ []
  front_is h i x lt e = let n = count_is h in take_more (listed h) i x (omega arith) ∙ ap (λ y. take i (listed h) ++ y ∷ []) (sym e)

  pub none_left : (h : Hand P) (i : ℕ) → h.count ≤ i → drop i (listed h) ≡ []
  none_left h i le = let n = count_is h in drop_all i (listed h) (omega arith)

  -- what holds of all that is left holds of the next point, and of what is left then
  pub next_has : (Q : P → Type 0) (all rest : List P) (x : P) → all ≡ x ∷ rest → AllByRecursion Q all → Q x × AllByRecursion Q rest
  next_has Q all rest x e has = subst (AllByRecursion Q) e has

  -- one more point behind the others
  pub behind : (front new all rest : List P) (x : P) → front ++ (x ∷ rest) ≡ all → new ≡ front ++ x ∷ [] → new ++ rest ≡ all
  behind front new all rest x e n = ap (λ y. y ++ rest) n ∙ append_assoc front (x ∷ []) rest ∙ e

  -- no more points
  pub whole : (front all rest : List P) → rest ≡ [] → front ++ rest ≡ all → front ≡ all
  whole front all rest none e = sym (append-nil front) ∙ ap (λ y. front ++ y) (sym none) ∙ e

  -- a filter: a point that is kept, and one that is not
  pub kept_yes : (test : P → Bool) (x : P) (front new all rest : List P) → front ++ filter test (x ∷ rest) ≡ all → true ≡ test x → new ≡ front ++ x ∷ [] → new ++ filter test rest ≡ all
  kept_yes test x front new all rest e t is = behind front new all (filter test rest) x (ap (λ y. front ++ y) (sym (cond-true (test x) (x ∷ filter test rest) (filter test rest) (sym t))) ∙ e) is

  pub kept_no : (test : P → Bool) (x : P) (front all rest : List P) → front ++ filter test (x ∷ rest) ≡ all → false ≡ test x → front ++ filter test rest ≡ all
  kept_no test x front all rest e t = ap (λ y. front ++ y) (sym (cond-false (test x) (x ∷ filter test rest) (filter test rest) (sym t))) ∙ e

  module _ (code : P → ℕ) (p : P) where
    -- a search by code
    pub live_here : (a b : ℕ) (x : P) (rest : List P) → a ≡ code p → b ≡ code x → a ≡ b → live code p (x ∷ rest) ≡ true
    live_here a b x rest e f same = cond-true (eqb (code p) (code x)) true (live code p rest) (eq-eqb (code p) (code x) (sym e ∙ same ∙ f))

    pub live_on : (a b : ℕ) (x : P) (rest : List P) → a ≡ code p → b ≡ code x → (a ≡ b → ⊥) → live code p (x ∷ rest) ≡ live code p rest
    live_on a b x rest e f other = cond-false (eqb (code p) (code x)) true (live code p rest) (ne_eqb (code p) (code x) (λ i. other (e ∙ i ∙ sym f)))

    -- the place of a point
    pub place_here : (a b : ℕ) (x : P) (rest : List P) → a ≡ code p → b ≡ code x → a < b → with_point code p (x ∷ rest) ≡ p ∷ x ∷ rest
    place_here a b x rest e f lt = cond-true (ltb (code p) (code x)) (p ∷ x ∷ rest) (x ∷ with_point code p rest) (lt-ltb (code p) (code x) (omega arith))

    pub place_on : (a b : ℕ) (x : P) (rest : List P) → a ≡ code p → b ≡ code x → b ≤ a → with_point code p (x ∷ rest) ≡ x ∷ with_point code p rest
    place_on a b x rest e f le = cond-false (ltb (code p) (code x)) (p ∷ x ∷ rest) (x ∷ with_point code p rest) (le-ltb (code p) (code x) (omega arith))
