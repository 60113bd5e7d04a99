-- A put into a data page.
use Rattle.std.proofs.Common.{◌≡◌, ℕ, ◌+◌, ◌<◌, ◌≤◌, true, false, List, [], ◌∷◌, ◌++◌, map, length, set, Some, None, Ok, Err, Option, sym, refl, ap, ◌∙◌, subst, arith}
use Rattle.std.specs.List.{AllByRecursion}
use Rattle.std.proofs.lemmas.List.{get_or-set_same, get_or-set_other, length-set}
use Rattle.refusal.specs.declared.Refusal.TheVariants.{Live, Full}
use Rattle.zorder.specs.Halves.{half, Rising}
use Rattle.kinds.specs.Kind.{Kind, Sound, On, code_of, wide}
use Rattle.page.specs.Form.{data_view, directory_view, encode, times}
use Rattle.page.specs.Checks.{summary}
use Rattle.tree.specs.Sets.{live, with_point}
use Rattle.tree.specs.Tree.{leaf, Halved}
use Rattle.tree.specs.Laid.{data_at, directory_at}
use Rattle.tree.specs.Lawful.{Card, entry}
use Rattle.tree.proofs.Halves.{absent_from, all_with, length_with, rising_with}
use Rattle.tree.proofs.Trees.{depth_some}
use Rattle.tree.proofs.Standings.{leaf_inv}
use Rattle.tree.proofs.Laws.{fits}
use Rattle.growth.specs.Grows.{Grows, fits_in, splits}
use Rattle.growth.proofs.Puts.{grows_points}
use Rattle.growth.proofs.Kept.{times_at, set_kept, kept_then}
use Rattle.access.proofs.Reaching.{reached_there}
use Rattle.put.specs.declared.insert.Grown.{Grown}
use Rattle.put.specs.declared.spare.Spare.{Spare}
use Rattle.put.specs.Spares.{spares}
use Rattle.put.specs.Growing.{Growing, Split, Uses, PutEnd, taken, full, grew}

module _ {P : Type 0} (k : Kind P) (s : Sound k) where
  abbrev C : P → ℕ
  C = code_of k

  abbrev W : ℕ
  W = wide k

  abbrev B : ℕ
  B = k.capacity

  -- the bytes of a data page
  abbrev data_bytes : List P → List ℕ
  data_bytes xs = encode k (data_view (map k.coords xs))

  module _ (card : Card) (ps : List P) (e : _) (spare : Option Spare) (above q : ℕ) (xs : List P) (p : P) (w : Growing k card ps e spare above (data_at q xs)) where
    abbrev same : ps ≡ xs
    same = (leaf_inv k w.reached.stands.halved).0

    abbrev up : Rising C xs
    up = subst (Rising C) same w.reached.stands.is_set.rising

    abbrev on_all : AllByRecursion (On k) xs
    on_all = subst (AllByRecursion (On k)) same w.reached.stands.is_set.on

    abbrev at : e.page ≡ q
    at = ap (λ x. x.page) w.reached.at

    there : q < length card
    there = subst (λ i. i < length card) at (reached_there k s card ps e above (data_at q xs) w.reached)

    pub here_live : live C p xs ≡ true → PutEnd k card ps p spare (data_at q xs) (Err Live) card
    here_live on = taken (ap (live C p) same ∙ on)

    module _ (new : live C p xs ≡ false) where
      abbrev fresh : live C p ps ≡ false
      fresh = ap (live C p) same ∙ new

      abbrev up_with : Rising C (with_point C p xs)
      up_with = rising_with C p xs up (absent_from C p xs new)

      room_at : (v : Grown P) → length xs < B → summary k v.entry ≡ entry k (data_at q (with_point C p xs)) → v.used ≡ None → PutEnd k card ps p spare (data_at q xs) (Ok v) (set card q (data_bytes (with_point C p xs)))
      room_at v lt d used =
          grew 0 0 fresh (fits_in lt) (subst (λ o. Uses spare o 0 0 []) (sym used) refl) d
          (get_or-set_same card q (data_bytes (with_point C p xs)) [] there, tt)
          (set_kept card q (data_bytes (with_point C p xs)))

      pub here_room : (v : Grown P) (after : Card) → length xs < B → summary k v.entry ≡ entry k (data_at e.page (with_point C p xs)) → v.used ≡ None → after ≡ set card e.page (data_bytes (with_point C p xs)) → PutEnd k card ps p spare (data_at q xs) (Ok v) after
      here_room v after lt d used is =
          subst (PutEnd k card ps p spare (data_at q xs) (Ok v)) (sym (is ∙ ap (λ i. set card i (data_bytes (with_point C p xs))) at))
          (room_at v lt (d ∙ ap (λ i. entry k (data_at i (with_point C p xs))) at) used)

      pub here_full : B ≤ length xs → On k p → spare ≡ None → PutEnd k card ps p spare (data_at q xs) (Err Full) card
      here_full full' on none =
          let l = length_with C p xs in
          let r = s.room in
          let d = depth_some C W (with_point C p xs) (omega arith) up_with (fits k s (with_point C p xs) (all_with C (On k) p xs on on_all)) in
          full 0 0 fresh (splits {n = d.0} full' d.1) none

      module _ (is_full : B ≤ length xs) (x : Spare) (has : spare ≡ Some x) (r : Grown P) (after : Card) (sp : Split k card (with_point C p xs) e.page x r after) (fin : x.fork < length card) (gin : x.leaf < length card) where
        abbrev n : ℕ
        n = sp.depth

        abbrev f : ℕ
        f = x.fork

        abbrev g : ℕ
        g = x.leaf

        abbrev lows : List P
        lows = half C W n 0 (with_point C p xs)

        abbrev highs : List P
        highs = half C W n 1 (with_point C p xs)

        abbrev fork_bytes : List ℕ
        fork_bytes = encode k (directory_view n (entry k (data_at q lows)) (entry k (data_at g highs)))

        abbrev c1 : Card
        c1 = set card q (data_bytes lows)

        abbrev c2 : Card
        c2 = set c1 g (data_bytes highs)

        once : (i : ℕ) → times i (f ∷ []) + (times i (g ∷ []) + times i (q ∷ [])) ≤ 1
        once i = let o = subst (λ x. times i (spares x ++ (q ∷ [])) ≤ 1) has (w.once i) in omega arith

        gf : g ≡ f → ⊥
        gf e = let a = once g in let b = times_at g f e in let c = times_at g g refl in omega arith

        qf : q ≡ f → ⊥
        qf e = let a = once q in let b = times_at q f e in let c = times_at q q refl in omega arith

        qg : q ≡ g → ⊥
        qg e = let a = once q in let b = times_at q g e in let c = times_at q q refl in omega arith

        written : after ≡ set c2 f fork_bytes
        written = sp.written ∙ ap (λ i. set (set (set card i (data_bytes lows)) g (data_bytes highs)) f (encode k (directory_view n (entry k (data_at i lows)) (entry k (data_at g highs))))) at

        gr : Grows C W B p f g (data_at q xs) (directory_at f n (data_at q lows) (data_at g highs)) (f ∷ (g ∷ []))
        gr = splits is_full sp.deep

        whole : lows ++ highs ≡ with_point C p xs
        whole = grows_points C W B s.room p f g xs gr (subst (λ a. Halved C W B a (leaf xs)) same w.reached.stands.halved) up (absent_from C p xs new)

        uses : Uses spare r.used f g (f ∷ (g ∷ []))
        uses = subst (λ o. Uses spare o f g (f ∷ (g ∷ []))) (sym sp.used) (has, refl, refl, refl)

        pub here_split : PutEnd k card ps p spare (data_at q xs) (Ok r) after
        here_split =
            let l1 = length-set card q (data_bytes lows) in
            let l2 = length-set c1 g (data_bytes highs) in
            subst (PutEnd k card ps p spare (data_at q xs) (Ok r)) (sym written)
            (grew f g fresh gr uses
            (sp.entry_is ∙ ap (λ a. entry k (data_at f a)) (sym whole)) (
              get_or-set_same c2 f fork_bytes [] (omega arith),
              (
                get_or-set_other c2 f q fork_bytes [] qf ∙ get_or-set_other c1 g q (data_bytes highs) [] qg ∙ get_or-set_same card q (data_bytes lows) [] there,
                (get_or-set_other c2 f g fork_bytes [] gf ∙ get_or-set_same c1 g (data_bytes highs) [] (omega arith), tt),
              ),
            )
            (kept_then (q ∷ (g ∷ [])) (f ∷ []) (f ∷ (g ∷ (q ∷ [])))
            (kept_then (q ∷ []) (g ∷ []) (q ∷ (g ∷ [])) (set_kept card q (data_bytes lows)) (set_kept c1 g (data_bytes highs)) (λ i e. (omega arith, omega arith)))
            (set_kept c2 f fork_bytes) (λ i e. (omega arith, omega arith))))
