-- The walk on a card that shows the tree of a set.
use Rattle.std.proofs.Common.{◌≡◌, ℕ, suc, ◌+◌, ◌^◌, ◌<◌, ◌≤◌, Bool, true, false, ◌&&◌, List, [], ◌∷◌, ◌++◌, length, Some, Ok, Err, MatchBool, filter, Result, sym, ap, ◌∙◌, subst, append_assoc, arith, length-append, MatchResult}
use Rattle.std.proofs.lemmas.Bool.{cond_both}
use Rattle.zorder.specs.Halves.{half}
use Rattle.kinds.specs.Kind.{Kind, Sound, wide, code_of}
use Rattle.page.specs.Form.{Summary}
use Rattle.tree.specs.Book.{no_higher, windowed}
use Rattle.tree.specs.Laid.{Laid, data_at, directory_at, numbers, root_shape}
use Rattle.tree.specs.Lawful.{Card, Lawful, entry}
use Rattle.tree.specs.Standing.{Standing}
use Rattle.tree.specs.Tree.{count_pages}
use Rattle.tree.proofs.Laws.{whole_card_law}
use Rattle.tree.proofs.Standings.{laid_pages}
use Rattle.query.specs.declared.window.Window.{Window}
use Rattle.query.specs.Windows.{Whole}
use Rattle.access.specs.Reached.{Reached}
use Rattle.access.proofs.Reaching.{reached_count, reached_low, reached_high, reached_parted, root_reached, Forked, forked_here, forked_short, forked_low, forked_high}
use Rattle.scan.specs.Walking.{Below, Walked}
use Rattle.scan.proofs.Windows.{windowed_halves}

-- ---- cases of answers

pub when_true : (b : Bool) (A B : Type 0) → b ≡ true → MatchBool b A B → A
when_true true A B e h = h
when_true false A B e h = let z : ◌≡◌ {A = ℕ} 0 1 = cc in absurd (omega arith)

pub when_false : (b : Bool) (A B : Type 0) → b ≡ false → MatchBool b A B → B
when_false false A B e h = h
when_false true A B e h = let z : ◌≡◌ {A = ℕ} 0 1 = cc in absurd (omega arith)

pub cases_and : {X E : Type 0} (r : Result X E) (A B : Type 0) → MatchResult r (λ _. A) (λ e. ⊥) → B → MatchResult r (λ _. A × B) (λ e. ⊥)
cases_and (Ok x) A B h b = (h, b)
cases_and (Err e) A B h b = h

pub cases_map : {X E : Type 0} (r : Result X E) (A B : Type 0) → (A → B) → MatchResult r (λ _. A) (λ e. ⊥) → MatchResult r (λ _. B) (λ e. ⊥)
cases_map (Ok x) A B f h = f h
cases_map (Err e) A B f h = h

-- a filter keeps no more than there is
kept_fewer : {X : Type 0} (test : X → Bool) (xs : List X) → length (filter test xs) ≤ length xs
kept_fewer test [] = omega arith
kept_fewer test (x ∷ xs) = let a = kept_fewer test xs in cond_both (test x) (x ∷ filter test xs) (filter test xs) (λ ys. length ys ≤ suc (length xs)) (λ e. omega arith) (λ e. omega arith)

-- a tree has a page
pub some_page : {P : Type 0} (t : Laid P) → 1 ≤ length (numbers t)
some_page (data_at q ps) = omega arith
some_page (directory_at q n l h) = omega arith

-- an equal card
pub walked_on : {P : Type 0} (k : Kind P) {card after : Card} {ps : List P} {t : Laid P} {e : Summary} {above left : ℕ} → after ≡ card → Walked k card ps t e above left → Walked k after ps t e above left
walked_on k {card} {after} {ps} {t} {e} {above} {left} same v = subst (λ x. Walked k x ps t e above left) (sym same) v

module _ {P : Type 0} (k : Kind P) (s : Sound k) (card : Card) where
  pub below_of : (ps : List P) (e : Summary) (above : ℕ) (t : Laid P) → Reached k card ps e above t → Below k ps e
  below_of ps e above t r = record { on = r.stands.is_set.on; counted = reached_count k s card ps e above t r; low_is = reached_low k s card ps e above t r; high_is = reached_high k s card ps e above t r }

  -- both halves of a directory page, one after the other
  module _ (w : Window P) (whole : Whole k w) (ps : List P) (t : Laid P) (e : Summary) (above left : ℕ) (v : Walked k card ps t e above left) (n : ℕ) (low high : Summary) (f : Forked k s card n low high t) where
    pages : length (numbers t) ≡ suc (length (numbers f.l) + length (numbers f.h))
    pages = ap (λ u. length (numbers u)) f.is ∙ ap suc (length-append (numbers f.l) (numbers f.h))

    abbrev pub of_low : List P
    of_low = windowed k w.low w.high (half (code_of k) (wide k) n 0 ps)

    abbrev pub of_high : List P
    of_high = windowed k w.low w.high (half (code_of k) (wide k) n 1 ps)

    pub halves_join : (xs : List P) → (xs ++ of_low) ++ of_high ≡ xs ++ windowed k w.low w.high ps
    halves_join xs = append_assoc xs of_low of_high ∙ ap (λ ys. xs ++ ys) (windowed_halves k w whole n ps v.reached.stands.is_set (reached_parted k s card ps e above f.q n f.l f.h (forked_here k s card ps e above t v.reached n low high f)))

    pub high_few : (xs : List P) → length (xs ++ windowed k w.low w.high ps) < 2 ^ 32 → length ((xs ++ of_low) ++ of_high) < 2 ^ 32
    high_few xs few = subst (λ ys. length ys < 2 ^ 32) (sym (halves_join xs)) few

    pub low_few : (xs : List P) → length (xs ++ windowed k w.low w.high ps) < 2 ^ 32 → length (xs ++ of_low) < 2 ^ 32
    low_few xs few = let a = high_few xs few in let b = length-append (xs ++ of_low) of_high in omega arith

    pub low_walked : (after : ℕ) → left ≡ after + 1 → Walked k card (half (code_of k) (wide k) n 0 ps) f.l low (n + 1) after
    low_walked after e' = let a = pages in let b = v.enough in record { reached = forked_low k s card ps e above t v.reached n low high f; shallow = forked_short k s card ps e above t v.reached n low high f; enough = omega arith }

    pub high_walked : (after later : ℕ) → left ≡ after + 1 → after ≤ later + length (numbers f.l) → Walked k card (half (code_of k) (wide k) n 1 ps) f.h high (n + 1) later
    high_walked after later e' le = let a = pages in let b = v.enough in record { reached = forked_high k s card ps e above t v.reached n low high f; shallow = forked_short k s card ps e above t v.reached n low high f; enough = omega arith }

    pub halves_spent : (after later last : ℕ) → left ≡ after + 1 → after ≤ later + length (numbers f.l) → later ≤ last + length (numbers f.h) → left ≤ last + length (numbers t)
    halves_spent after later last e' a b = let c = pages in omega arith

  -- ---- the root of a lawful card

  module _ (set : List P) (law : Lawful k card set) (t : Laid P) (is_root : law.root ≡ Some t) (st : Standing k card set t) where
    root_pages : suc (length (numbers t)) ≤ length card
    root_pages =
        let a = whole_card_law P k s card set law in
        let b = ap (λ r. count_pages (root_shape r)) is_root in
        let c = laid_pages t in
        omega arith

    pub root_walked : (e : Summary) (left : ℕ) → e ≡ entry k t → suc left ≡ length card → Walked k card set t e 0 left
    root_walked e left at n = let a = root_pages in record { reached = root_reached k s card set e t st at; shallow = omega arith; enough = omega arith }

    pub root_few_windowed : (low high : P) → length (windowed k low high set) < 2 ^ 32
    root_few_windowed low high =
        let a = st.few in
        let b = kept_fewer (λ p. no_higher (k.coords low) (k.coords p) && no_higher (k.coords p) (k.coords high)) set in
        omega arith
