-- Pages that are kept.
use Rattle.std.proofs.Common.{◌≡◌, ℕ, suc, ◌≤◌, eqb, List, [], ◌∷◌, ◌++◌, set, refl, ◌∙◌, arith}
use Rattle.std.proofs.lemmas.List.{get_or-set_other, length-set}
use Rattle.std.proofs.lemmas.Bool.{cond_both}
use Rattle.std.proofs.ByRecursion.{All-append}
use Rattle.zorder.specs.Code.{bit_at}
use Rattle.kinds.specs.Kind.{Kind, code_of, wide}
use Rattle.page.specs.Form.{times}
use Rattle.tree.specs.Laid.{Laid, data_at, directory_at, numbers, below_it, agrees, way}
use Rattle.tree.specs.Lawful.{Card, page, parts, Shows, Chained, KeptBut}
use Rattle.tree.proofs.Counts.{one_same, times_append}
use Rattle.tree.proofs.Standings.{all_front, all_back}

pub times_here : (q : ℕ) (xs : List ℕ) → times q (q ∷ xs) ≡ suc (times q xs)
times_here q xs = let c = one_same q q refl in omega arith

pub times_at : (i j : ℕ) → i ≡ j → times i (j ∷ []) ≡ 1
times_at i j e = let c = one_same i j e in omega arith

pub times_off : (r q : ℕ) (xs : List ℕ) → times r (q ∷ xs) ≡ 0 → r ≡ q → ⊥
times_off r q xs e s = let c = one_same r q s in omega arith

pub set_kept : (card : Card) (q : ℕ) (bs : List ℕ) → KeptBut (q ∷ []) card (set card q bs)
set_kept card q bs = record { same_size = length-set card q bs; kept = λ r e. get_or-set_other card q r bs [] (times_off r q [] e) }

pub kept_then : {a b c : Card} (xs ys zs : List ℕ) → KeptBut xs a b → KeptBut ys b c → ((r : ℕ) → times r zs ≡ 0 → (times r xs ≡ 0) × (times r ys ≡ 0)) → KeptBut zs a c
kept_then xs ys zs h i both = record { same_size = i.same_size ∙ h.same_size; kept = λ r e. let t = both r e in i.kept r t.1 ∙ h.kept r t.0 }

module _ {P : Type 0} (k : Kind P) where
  -- a tree still stands where its pages are kept
  pub shows_kept : (before after : Card) (t : Laid P) → ((r : ℕ) → 1 ≤ times r (numbers t) → page after r ≡ page before r) → Shows k before t → Shows k after t
  shows_kept before after (data_at q ps) same shows = (same q (let h = times_here q [] in omega arith) ∙ shows.0, tt)
  shows_kept before after (directory_at q n l h) same shows = (
    same q (let h = times_here q (numbers l ++ numbers h) in omega arith) ∙ shows.0,
    All-append _ (parts k l) (parts k h)
        (shows_kept before after l (λ r e. same r (let h = times_append r (numbers l) (numbers h) in omega arith)) (all_front _ (parts k l) (parts k h) shows.1))
        (shows_kept before after h (λ r e. same r (let h = times_append r (numbers l) (numbers h) in omega arith)) (all_back _ (parts k l) (parts k h) shows.1)),
  )

  -- a chain still stands where its pages are kept
  pub chained_kept : (before after : Card) (qs : List ℕ) → ((r : ℕ) → 1 ≤ times r qs → page after r ≡ page before r) → Chained k before qs → Chained k after qs
  chained_kept before after [] same h = tt
  chained_kept before after (q ∷ qs) same h = (
    same q (let a = times_here q qs in omega arith) ∙ h.0,
    chained_kept before after qs (λ r e. same r (omega arith)) h.1,
  )

  -- the way has pages of the tree, each no more often
  pub way_times : (r : ℕ) (p : P) (t : Laid P) → times r (way (code_of k) (wide k) t p) ≤ times r (numbers t)
  way_times r p (data_at q ps) = omega arith
  way_times r p (directory_at q n l h) =
      let s = times_append r (numbers l) (numbers h) in
      let a = way_times r p l in
      let b = way_times r p h in
      cond_both (agrees (code_of k) (wide k) n (below_it (directory_at q n l h)) p) _ _ (λ (xs : List ℕ). times r xs ≤ times r (numbers (directory_at q n l h)))
      (λ _. cond_both (eqb (bit_at (wide k) n (code_of k p)) 0) _ _ (λ (xs : List ℕ). times r xs ≤ times r (numbers (directory_at q n l h))) (λ _. omega arith) (λ _. omega arith))
      (λ _. omega arith)
