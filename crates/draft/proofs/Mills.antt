-- What a mill asks of a run, proved.
use Rattle.std.proofs.Common.{◌≡◌, ℕ, suc, Bool, true, false, List, [], ◌∷◌, Ok, Err, filter, sym, refl, ap, ◌∙◌, subst, ⊎_elim, arith}
use Rattle.std.specs.List.{ContainsAt as Has, AllByRecursion}
use Rattle.std.proofs.ByRecursion.{All-weaker, all-has}
use Rattle.std.proofs.lemmas.Bool.{cond-true, cond_both}
use Rattle.zorder.specs.Sharing.{Inside}
use Rattle.zorder.proofs.Corners.{under_then}
use Rattle.kinds.specs.Kind.{Kind, Sound, On, Whether, code_of}
use Rattle.tree.specs.Sets.{with_point}
use Rattle.tree.specs.Tree.{count_pages}
use Rattle.tree.specs.Lawful.{Card, Lawful}
use Rattle.tree.specs.Book.{Puts, put_off, put_live, put_full, put_done, Takes, take_off, take_absent, take_done, windowed}
use Rattle.tree.proofs.Laws.{set_law, one_tree_law}
use Rattle.query.specs.declared.window.Window.{Window}
use Rattle.query.specs.Windows.{Whole}
use Rattle.scan.proofs.Windows.{in_window, inside_test}
use Rattle.draft.specs.declared.calls.Call.{Call}
use Rattle.draft.specs.declared.calls.Call.TheVariants as call
use Rattle.draft.specs.declared.calls.Reply.{Reply}
use Rattle.draft.specs.declared.calls.Reply.TheVariants as reply
use Rattle.draft.specs.Runs.{Agrees, put_agrees, take_agrees, Moves, put_adds, put_stays, take_removes, take_stays, ask_stays, pick_stays, list_stays, count_stays, tally_stays, outline_stays, Run, rests, goes, NeverTaken, NeverPut, KeptLaw, GoneLaw, SameTreeLaw}

has_later : {X : Type 0} (x y : X) (xs : List X) → Has xs x → Has (y ∷ xs) x
has_later x y xs h = (suc h.0, (let a = h.1 in omega arith), λ d. h.2 d)

-- what passes the test is kept
kept_has : {X : Type 0} (test : X → Bool) (xs : List X) → AllByRecursion (λ x. test x ≡ true → Has (filter test xs) x) xs
kept_has test [] = tt
kept_has test (y ∷ ys) = (
  (λ e. subst (λ zs. Has zs y) (sym (cond-true _ _ _ e)) (0, omega arith, λ d. refl)),
  All-weaker _ _ (λ x f e. cond_both (test y) (y ∷ filter test ys) (filter test ys) (λ zs. Has zs x) (λ _. has_later x y (filter test ys) (f e)) (λ _. f e)) ys (kept_has test ys),
)

module _ {P : Type 0} (k : Kind P) (s : Sound k) where
  -- ---- the book answers one thing

  puts_on : (total : ℕ) (set : List P) (p : P) → Puts k total set p (Ok tt) → On k p
  puts_on total set p (put_done o on n t l) = on

  takes_on : (total : ℕ) (set : List P) (p : P) → Takes k total set p (Ok tt) → On k p
  takes_on total set p (take_done on h) = on

  unless : (b : Bool) (H : Type 0) → Whether b H → (H → ⊥) → b ≡ false
  unless true H h n = absurd (n h)
  unless false H h n = refl

  puts_one : (total : ℕ) (set : List P) (card : Card) (w : Lawful k card set) (p : P) (n : ℕ) → Puts k total set p (Ok tt) → Puts k total set p (Err n) → ⊥
  puts_one total set card w p n (put_done o on not t l) (put_off off) = off on
  puts_one total set card w p n (put_done o on not t l) (put_live on₂ h) = not h
  puts_one total set card w p n (put_done o on not t l) (put_full o₂ on₂ not₂ t₂ l₂) =
      let v = set_law P k s set p w.is_set on in
      let u = one_tree_law P k s (with_point (code_of k) p set) (v.with_set (unless _ _ v.live_is not)) in
      let e = ap count_pages (u.2 o t ∙ sym (u.2 o₂ t₂)) in
      omega arith

  takes_one : (total : ℕ) (set : List P) (p : P) (n : ℕ) → Takes k total set p (Ok tt) → Takes k total set p (Err n) → ⊥
  takes_one total set p n (take_done on h) (take_off off) = off on
  takes_one total set p n (take_done on h) (take_absent on₂ not) = not h

  -- ---- one call, seen from one point

  module _ (total : ℕ) (card : Card) (set : List P) (w : Lawful k card set) (p : P) where
    step_kept : (c : Call P) (next : List P) → (c ≡ call.Take p → ⊥) → Moves k total set c next → Has set p → Has next p
    step_kept _ _ n (put_adds {p = q} m) h = (set_law P k s set q w.is_set (puts_on total set q m)).with_old p h
    step_kept _ _ n (put_stays m) h = h
    step_kept _ _ n (take_removes {p = q} m) h = (set_law P k s set q w.is_set (takes_on total set q m)).without_old p h (λ e. n (ap call.Take (sym e)))
    step_kept _ _ n (take_stays m) h = h
    step_kept _ _ n ask_stays h = h
    step_kept _ _ n pick_stays h = h
    step_kept _ _ n list_stays h = h
    step_kept _ _ n count_stays h = h
    step_kept _ _ n tally_stays h = h
    step_kept _ _ n outline_stays h = h

    step_gone : (c : Call P) (next : List P) → (c ≡ call.Put p → ⊥) → Moves k total set c next → Has next p → Has set p
    step_gone _ _ n (put_adds {p = q} m) h = ⊎_elim (λ i. i) (λ e. absurd (n (ap call.Put (sym e)))) ((set_law P k s set q w.is_set (puts_on total set q m)).with_only p h)
    step_gone _ _ n (put_stays m) h = h
    step_gone _ _ n (take_removes {p = q} m) h = ((set_law P k s set q w.is_set (takes_on total set q m)).without_only p h).0
    step_gone _ _ n (take_stays m) h = h
    step_gone _ _ n ask_stays h = h
    step_gone _ _ n pick_stays h = h
    step_gone _ _ n list_stays h = h
    step_gone _ _ n count_stays h = h
    step_gone _ _ n tally_stays h = h
    step_gone _ _ n outline_stays h = h

    -- an accepted put, an accepted take
    put_there : (next : List P) → Agrees k total set (call.Put p) (reply.Put (Ok tt)) → Moves k total set (call.Put p) next → Has next p
    put_there _ (put_agrees a) (put_adds m) = (set_law P k s set p w.is_set (puts_on total set p m)).with_new
    put_there _ (put_agrees a) (put_stays {n = n} m) = absurd (puts_one total set card w p n a m)

    take_gone : (next : List P) → Agrees k total set (call.Take p) (reply.Take (Ok tt)) → Moves k total set (call.Take p) next → Has next p → ⊥
    take_gone _ (take_agrees a) (take_removes m) h = ((set_law P k s set p w.is_set (takes_on total set p m)).without_only p h).1 refl
    take_gone _ (take_agrees a) (take_stays {n = n} m) h = takes_one total set p n a m

  -- ---- whole runs

  module _ (total : ℕ) (p : P) where
    run_kept : {first last : Card} {later : List Card} {set final : List P} {cs : List (Call P)} {rs : List (Reply P)} → Run k total first later set cs rs last final → NeverTaken P p cs → Has set p → Has final p
    run_kept (rests n l) never h = h
    run_kept (goes {next = next} {c = c} st r) never h = run_kept r never.1 (step_kept total _ _ st.was_lawful p c next never.0 st.moves h)

    run_gone : {first last : Card} {later : List Card} {set final : List P} {cs : List (Call P)} {rs : List (Reply P)} → Run k total first later set cs rs last final → NeverPut P p cs → Has final p → Has set p
    run_gone (rests n l) never h = h
    run_gone (goes {next = next} {c = c} st r) never h = step_gone total _ _ st.was_lawful p c next never.0 st.moves (run_gone r never.1 h)

  -- a point of the set that lies in a window is one of the window's points
  in_it : (set : List P) (p : P) → Has set p → (low high : P) → On k low → On k high → Inside (k.coords low) (k.coords high) (k.coords p) → Has (windowed k low high set) p
  in_it set p h low high l u i =
      let w : Window P = record { low = low; high = high } in
      let whole : Whole k w = record { low_on = l; high_on = u; uncrossed = under_then (k.coords low) (k.coords p) (k.coords high) i.0 i.1 } in
      all-has (λ x. in_window k w whole x ≡ true → Has (windowed k low high set) x) set p (kept_has (in_window k w whole) set) h (inside_test k w whole p i)

pub kept_law : (P : Type 0) → KeptLaw P
kept_law P k s total first last later set final cs rs p (goes st r) never =
    let h = run_kept k s total p r never (put_there k s total _ _ st.was_lawful p _ st.agrees st.moves) in
    (h, in_it k s final p h)

pub gone_law : (P : Type 0) → GoneLaw P
gone_law P k s total first last later set final cs rs p (goes st r) never h = take_gone k s total _ _ st.was_lawful p _ st.agrees st.moves (run_gone k s total p r never h)

pub same_tree_law : (P : Type 0) → SameTreeLaw P
same_tree_law P k s one two first last first' last' later later' set set' final cs cs' rs rs' r r' w v =
    let u = one_tree_law P k s final w.is_set in
    u.2 _ w.is_tree ∙ sym (u.2 _ v.is_tree)
