-- Queries answered over the live points.
use Rattle.std.proofs.Common.{◌≡◌, ℕ, suc, ◌≤◌, Bool, true, false, List, [], ◌∷◌, length, ℤ, Ok, Err, Result, sym, refl, ap, ◌∙◌, subst, ⊎_elim, arith}
use Rattle.std.specs.List.{ContainsAt as Has, AllByRecursion}
use Rattle.std.proofs.ByRecursion.{All-weaker, all-has}
use Rattle.std.proofs.lemmas.Bool.{cases_Bool, cond-true, cond-false}
use Rattle.refusal.specs.declared.Refusal.{Refusal}
use Rattle.refusal.specs.Numbers.{numbered}
use Rattle.zorder.specs.Sharing.{Under}
use Rattle.kinds.specs.Kind.{Kind, Sound, On, Whether}
use Rattle.tree.specs.Book.{InWindow, low_off, high_off, crossed, in_it, Asks, ask_off, ask_done, windowed}
use Rattle.tree.specs.Lawful.{Card, Lawful}
use Rattle.query.specs.declared.choice.Choice.{Choice}
use Rattle.query.specs.declared.window.Window.{Window}
use Rattle.query.specs.Windows.{Whole}
use Rattle.query.specs.Queries.{Selects, WindowOf, Selected, no_points, one_more, one_not, exact}
use Rattle.scan.proofs.Windows.{in_window, test_inside, inside_test}
use Rattle.draft.specs.Queried.{Answers, ByQuery, ByExactMatch}

module _ {P : Type 0} (k : Kind P) where
  -- a query selects one list of points
  module _ (w : Window P) (query : List Choice) (o : WindowOf k query w) (u : Under (k.coords w.low) (k.coords w.high)) where
    whole : Whole k w
    whole = record { low_on = o.low_on; high_on = o.high_on; uncrossed = u }

    pub selected_is : (set xs : List P) → AllByRecursion (On k) set → Selected k query set xs → xs ≡ windowed k w.low w.high set
    selected_is _ _ on no_points = refl
    selected_is _ _ on (one_more {p} {set} {xs} s r) =
        ap (λ ys. p ∷ ys) (selected_is set xs on.1 r) ∙ sym (cond-true _ _ _ (inside_test k w whole p (o.inside p on.0 s)))
    selected_is _ _ on (one_not {p} {set} {xs} n r) =
        selected_is set xs on.1 r
        ∙ sym (cond-false _ _ _ (⊎_elim (λ t. absurd (n (o.selected p on.0 (test_inside k w whole p on.0 t)))) (λ f. f) (cases_Bool (in_window k w whole p))))

  -- ---- windows

  answered : {X : Type 0} (total : ℕ) (set xs : List P) (w : Window P) (Gives : List P → X → Type 0) (r : Result X ℕ) (a : Result X Refusal) → r ≡ numbered a → Whole k w → xs ≡ windowed k w.low w.high set
      → InWindow k total set w.low w.high Gives r → Answers Gives xs a
  answered total set xs w Gives (Err m) a e v is (low_off off) = absurd (off v.low_on)
  answered total set xs w Gives (Err m) a e v is (high_off off) = absurd (off v.high_on)
  answered total set xs w Gives (Err m) a e v is (crossed l h x) = absurd (x v.uncrossed)
  answered total set xs w Gives (Ok x) (Ok y) e v is (in_it l h u g) = let s : x ≡ y = cc in subst (λ ys. Gives ys y) (sym is) (subst (Gives _) s g)
  answered total set xs w Gives (Ok x) (Err y) e v is (in_it l h u g) = let z : ◌≡◌ {A = ℕ} 0 1 = cc in absurd (omega arith)

  pub by_query : {X : Type 0} (card : Card) (w : Window P) (Gives : List P → X → Type 0) (r : Result X Refusal) → ((set : List P) → Lawful k card set → InWindow k (length card) set w.low w.high Gives (numbered r)) → ByQuery k card w Gives r
  by_query card w Gives r law set l query o u xs s = answered (length card) set xs w Gives (numbered r) r refl (whole w query o u) (selected_is w query o u set xs l.is_set.on s) (law set l)

  -- ---- exact match

  exact_same : (zs ws : List ℤ) → Selects (exact zs) ws → ws ≡ zs
  exact_same [] [] s = refl
  exact_same [] (w ∷ ws) s = absurd s
  exact_same (z ∷ zs) [] s = absurd s
  exact_same (z ∷ zs) (w ∷ ws) s = let a = s.0 in let b = exact_same zs ws s.1 in cc

  same_exact : (zs : List ℤ) → Selects (exact zs) zs
  same_exact [] = tt
  same_exact (z ∷ zs) = (refl, same_exact zs)

  module _ (sound : Sound k) (p : P) where
    none_selected : (set xs : List P) → Selected k (exact (k.coords p)) set xs → (Has set p → ⊥) → length xs ≡ 0
    none_selected _ _ no_points n = refl
    none_selected _ _ (one_more {p = q} {set = set} {xs = xs} s r) n = absurd (n (0, omega arith, λ d. sound.one_point q p (exact_same (k.coords p) (k.coords q) s)))
    none_selected _ _ (one_not {p = q} {set = set} {xs = xs} m r) n = none_selected set xs r (λ h. n (suc h.0, (let a = h.1 in omega arith), λ d. h.2 d))

    some_selected : (set xs : List P) → Selected k (exact (k.coords p)) set xs → AllByRecursion (λ q. q ≡ p → 1 ≤ length xs) set
    some_selected _ _ no_points = tt
    some_selected _ _ (one_more {p = q} {set = set} {xs = xs} s r) = ((λ e. omega arith), All-weaker _ _ (λ x f e. omega arith) set (some_selected set xs r))
    some_selected _ _ (one_not {p = q} {set = set} {xs = xs} m r) = ((λ e. absurd (m (subst (λ x. Selects (exact (k.coords p)) (k.coords x)) (sym e) (same_exact (k.coords p))))), some_selected set xs r)

    whether : (b : Bool) (set xs : List P) → Selected k (exact (k.coords p)) set xs → Whether b (Has set p) → Whether b (1 ≤ length xs)
    whether true set xs s h = all-has (λ q. q ≡ p → 1 ≤ length xs) set p (some_selected set xs s) h refl
    whether false set xs s h = λ le. let z = none_selected set xs s h in omega arith

    asked : (total : ℕ) (set xs : List P) (r : Result Bool ℕ) (a : Result Bool Refusal) → r ≡ numbered a → On k p → Selected k (exact (k.coords p)) set xs → Asks k total set p r → Answers (λ ys b. Whether b (1 ≤ length ys)) xs a
    asked total set xs (Err m) a e on s (ask_off off) = absurd (off on)
    asked total set xs (Ok b) (Ok c) e on s (ask_done o h) = let q : b ≡ c = cc in subst (λ y. Whether y (1 ≤ length xs)) q (whether b set xs s h)
    asked total set xs (Ok b) (Err c) e on s (ask_done o h) = let z : ◌≡◌ {A = ℕ} 0 1 = cc in absurd (omega arith)

    pub by_exact_match : (card : Card) (r : Result Bool Refusal) → ((set : List P) → Lawful k card set → Asks k (length card) set p (numbered r)) → ByExactMatch k card p r
    by_exact_match card r law set l on xs s = asked (length card) set xs (numbered r) r refl on s (law set l)
