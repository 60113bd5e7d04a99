-- Windows over the points below an entry.
use Rattle.std.proofs.Common.{◌≡◌, ℕ, Bool, true, false, cond, ◌&&◌, T, List, [], ◌∷◌, ◌++◌, map, ℤ, filter, sym, refl, ap, ◌∙◌, subst, ⊎_elim}
use lib.Signed.{le_z, le_z_yes}
use Rattle.std.specs.List.{AllByRecursion}
use Rattle.std.proofs.lemmas.List.Elements.{filter-append}
use Rattle.std.proofs.ByRecursion.{All-map, All-weaker}
use Rattle.std.proofs.lemmas.Bool.{cases_Bool, and_parts, and_from, cond-true, cond-false}
use Rattle.zorder.specs.Code.{Axis, OnAxes}
use Rattle.zorder.specs.Sharing.{Under, Inside}
use Rattle.zorder.specs.Halves.{half}
use Rattle.zorder.proofs.Corners.{Two, no_axes, two, both, all_unmap, all_and, under_then, window_law}
use Rattle.kinds.specs.Kind.{Kind, On, wide, code_of, low_corner, high_corner}
use Rattle.page.specs.Form.{Summary}
use Rattle.tree.specs.Book.{no_higher, windowed}
use Rattle.tree.proofs.Halves.{Parted, parted_join}
use Rattle.tree.specs.Sets.{IsSet}
use Rattle.query.specs.declared.window.Window.{Window}
use Rattle.query.specs.Windows.{Whole}
use Rattle.scan.specs.Walking.{Below}

true_of : (b : Bool) → T b → b ≡ true
true_of true t = refl
true_of false t = absurd t

of_true : (b : Bool) → b ≡ true → T b
of_true true e = tt
of_true false e = let z : ◌≡◌ {A = Bool} false true = e in absurd (subst T (sym z) tt)

-- ---- the test of the book, and what it tells of points on the axes

under_test : (p q : List ℤ) → Under p q → no_higher p q ≡ true
under_test [] [] u = refl
under_test [] (y ∷ q) u = absurd u
under_test (x ∷ p) [] u = absurd u
under_test (x ∷ p) (y ∷ q) u = and_from (le_z x y) (no_higher p q) (true_of (le_z x y) u.0.le) (under_test p q u.1)

test_under : {axs : List Axis} {p q : List ℤ} → Two axs p q → no_higher p q ≡ true → Under p q
test_under no_axes e = tt
test_under (two a x y {p = p} {q = q} h k t) e = let b = and_parts (le_z x y) (no_higher p q) e in (le_z_yes (of_true (le_z x y) b.0), test_under t b.1)

kept_all : {X : Type 0} (test : X → Bool) (xs : List X) → AllByRecursion (λ x. test x ≡ true) xs → filter test xs ≡ xs
kept_all test [] h = refl
kept_all test (x ∷ xs) h = cond-true _ _ _ h.0 ∙ ap (λ ys. x ∷ ys) (kept_all test xs h.1)

kept_none : {X : Type 0} (test : X → Bool) (xs : List X) → AllByRecursion (λ x. test x ≡ true → ⊥) xs → filter test xs ≡ []
kept_none test [] h = refl
kept_none test (x ∷ xs) h = ⊎_elim (λ t. absurd (h.0 t)) (λ f. cond-false _ _ _ f ∙ kept_none test xs h.1) (cases_Bool (test x))

module _ {P : Type 0} (k : Kind P) (w : Window P) (whole : Whole k w) where
  abbrev pub in_window : P → Bool
  in_window p = no_higher (k.coords w.low) (k.coords p) && no_higher (k.coords p) (k.coords w.high)

  pub test_inside : (p : P) → On k p → in_window p ≡ true → Inside (k.coords w.low) (k.coords w.high) (k.coords p)
  test_inside p on e =
      let b = and_parts (no_higher (k.coords w.low) (k.coords p)) (no_higher (k.coords p) (k.coords w.high)) e in
      (test_under (both k.axes (k.coords w.low) (k.coords p) whole.low_on on) b.0, test_under (both k.axes (k.coords p) (k.coords w.high) on whole.high_on) b.1)

  pub inside_test : (p : P) → Inside (k.coords w.low) (k.coords w.high) (k.coords p) → in_window p ≡ true
  inside_test p i = and_from _ _ (under_test (k.coords w.low) (k.coords p) i.0) (under_test (k.coords p) (k.coords w.high) i.1)

  outside_test : (p : P) → On k p → (Inside (k.coords w.low) (k.coords w.high) (k.coords p) → ⊥) → in_window p ≡ false
  outside_test p on out = ⊎_elim (λ t. absurd (out (test_inside p on t))) (λ f. f) (cases_Bool (in_window p))

  -- one more point, in the window or not
  pub one_in : (p : P) → Inside (k.coords w.low) (k.coords w.high) (k.coords p) → cond (in_window p) (p ∷ []) [] ≡ p ∷ []
  one_in p i = cond-true _ _ _ (inside_test p i)

  pub one_out : (p : P) → On k p → (Inside (k.coords w.low) (k.coords w.high) (k.coords p) → ⊥) → cond (in_window p) (p ∷ []) [] ≡ []
  one_out p on out = cond-false _ _ _ (outside_test p on out)

  -- every point lies between the corners of its set
  between : (ps : List P) → AllByRecursion (On k) ps → AllByRecursion (λ p. Inside (low_corner k ps) (high_corner k ps) (k.coords p)) ps
  between [] on = tt
  between (p ∷ ps) on = all_unmap (Inside (low_corner k (p ∷ ps)) (high_corner k (p ∷ ps))) k.coords (p ∷ ps) (window_law k.axes (k.coords p) (map k.coords ps) (All-map (OnAxes k.axes) k.coords (p ∷ ps) on)).1

  -- an entry whose corners miss the window has no point in it
  pub missed : (ps : List P) → AllByRecursion (On k) ps → (Under (k.coords w.low) (high_corner k ps) × Under (low_corner k ps) (k.coords w.high) → ⊥) → windowed k w.low w.high ps ≡ []
  missed ps on miss =
      kept_none in_window ps (All-weaker _ _ (λ p h t.
      let i = test_inside p h.0 t in
      miss (under_then (k.coords w.low) (k.coords p) (high_corner k ps) i.0 h.1.1, under_then (low_corner k ps) (k.coords p) (k.coords w.high) h.1.0 i.1)) ps (all_and _ _ ps on (between ps on)))

  -- an entry whose corners both lie in the window has all its points in it
  pub covered : (ps : List P) → AllByRecursion (On k) ps → Under (k.coords w.low) (low_corner k ps) → Under (high_corner k ps) (k.coords w.high) → windowed k w.low w.high ps ≡ ps
  covered ps on l h =
      kept_all in_window ps (All-weaker _ _ (λ p i. inside_test p (under_then (k.coords w.low) (low_corner k ps) (k.coords p) l i.0, under_then (k.coords p) (high_corner k ps) (k.coords w.high) i.1 h)) ps (between ps on))

  -- the points of the low half, then those of the high half
  pub windowed_halves : (n : ℕ) (ps : List P) → IsSet k ps → Parted (code_of k) (wide k) n ps
      → windowed k w.low w.high (half (code_of k) (wide k) n 0 ps) ++ windowed k w.low w.high (half (code_of k) (wide k) n 1 ps) ≡ windowed k w.low w.high ps
  windowed_halves n ps i part =
      sym (filter-append in_window (half (code_of k) (wide k) n 0 ps) (half (code_of k) (wide k) n 1 ps))
      ∙ ap (windowed k w.low w.high) (parted_join (code_of k) (wide k) n ps i.rising part)

  -- the same by what the entry says
  pub missed_by : (ps : List P) (e : Summary) → Below k ps e → (Under (k.coords w.low) e.high × Under e.low (k.coords w.high) → ⊥) → windowed k w.low w.high ps ≡ []
  missed_by ps e b miss = missed ps b.on (λ u. miss (subst (λ z. Under (k.coords w.low) z) (sym b.high_is) u.0, subst (λ z. Under z (k.coords w.high)) (sym b.low_is) u.1))

  pub covered_by : (ps : List P) (e : Summary) → Below k ps e → Under (k.coords w.low) e.low × Under e.high (k.coords w.high) → windowed k w.low w.high ps ≡ ps
  covered_by ps e b u = covered ps b.on (subst (λ z. Under (k.coords w.low) z) b.low_is u.0) (subst (λ z. Under z (k.coords w.high)) b.high_is u.1)
