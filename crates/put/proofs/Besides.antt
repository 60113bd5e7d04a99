-- A put beside a directory page whose first bits the point does not share.
use Rattle.std.proofs.Common.{◌≡◌, ℕ, zero, suc, ◌+◌, ◌%◌, ◌<◌, ◌≤◌, false, List, [], ◌∷◌, ◌++◌, length, set, Some, None, Ok, Err, Option, sym, refl, ap, ◌∙◌, subst, ⊎_elim, arith}
use Rattle.std.specs.List.{AllByRecursion}
use Rattle.std.proofs.lemmas.List.{get_or-set_same, get_or-set_other, length-set}
use Rattle.std.proofs.lemmas.Bool.{cases_eq}
use Rattle.std.proofs.ByRecursion.{All-append, All-weaker}
use Rattle.refusal.specs.declared.Refusal.TheVariants.{Full}
use Rattle.zorder.specs.Code.{code, first, bit_at}
use Rattle.zorder.specs.Sharing.{Shares}
use Rattle.zorder.specs.Halves.{half}
use Rattle.zorder.proofs.Halving.{first_fewer}
use Rattle.kinds.specs.Kind.{Kind, Sound, code_of, wide}
use Rattle.page.specs.Form.{Summary, data_view, directory_view, encode, times}
use Rattle.page.specs.Checks.{summary}
use Rattle.tree.specs.Sets.{live, with_point}
use Rattle.tree.specs.Tree.{Depth}
use Rattle.tree.specs.Laid.{Laid, data_at, directory_at, number, numbers, below_it, agrees, way}
use Rattle.tree.specs.Lawful.{Card, page, parts, entry, Shows, KeptBut}
use Rattle.tree.proofs.Halves.{Parted, parted_depth, absent_from, all_with, length_with, half_with, half_past, half_whole, bit_cases, not_one, not_zero}
use Rattle.tree.proofs.Standings.{some_points}
use Rattle.tree.proofs.Laws.{live_not}
use Rattle.growth.specs.Grows.{Grows, above_low, above_high}
use Rattle.access.specs.Reached.{chosen}
use Rattle.growth.proofs.Puts.{grows_points}
use Rattle.growth.proofs.Kept.{times_at, set_kept, kept_then, shows_kept}
use Rattle.access.proofs.Reaching.{reached_points, reached_parted, low_front}
use Rattle.put.specs.declared.insert.Grown.{Grown}
use Rattle.put.specs.declared.spare.Spare.{Spare}
use Rattle.put.specs.Spares.{spares}
use Rattle.put.specs.Growing.{widened, Growing, Uses, PutEnd, full, grew}
use Rattle.put.proofs.Widening.{widened_entry}

-- of two numbers with different bits m, the other one's is c where the one's is not
other_bit : (w m x y c : ℕ) → c < 2 → (bit_at w m x ≡ c → ⊥) → (bit_at w m x ≡ bit_at w m y → ⊥) → bit_at w m y ≡ c
other_bit w m x y zero lo nc ne = let one = not_one w m x nc in not_zero w m y (λ e. ne (one ∙ sym e))
other_bit w m x y (suc zero) lo nc ne = let z = not_zero w m x nc in not_one w m y (λ e. ne (z ∙ sym e))
other_bit w m x y (suc (suc c)) lo nc ne = absurd (omega arith)

module _ {P : Type 0} (k : Kind P) (s : Sound k) where
  abbrev C : P → ℕ
  C = code_of k

  abbrev W : ℕ
  W = wide k

  abbrev B : ℕ
  B = k.capacity

  module _ (card : Card) (ps : List P) (e : Summary) (spare : Option Spare) (above q n : ℕ) (l h : Laid P) (w : Growing k card ps e spare above (directory_at q n l h)) (p : P) (m : ℕ) (sh : Shares W m (code k.axes e.low) (C p)) (lt : m < n) where
    abbrev t : Laid P
    t = directory_at q n l h

    abbrev d : Parted C W n ps
    d = reached_parted k s card ps e above q n l h w.reached

    abbrev all_is : below_it t ≡ ps
    all_is = reached_points k s card ps e above t w.reached

    abbrev lc : ℕ
    lc = code k.axes e.low

    fr : first W n lc ≡ d.front
    fr = low_front k s card ps e above q n l h w.reached

    ne : bit_at W m lc ≡ bit_at W m (C p) → ⊥
    ne = let a = d.short in sh.differ (omega arith)

    bits : AllByRecursion (λ x. bit_at W m (C x) ≡ bit_at W m lc) ps
    bits = let a = d.short in All-weaker _ _ (λ x g. ap (λ y. y % 2) (first_fewer W n (suc m) (C x) lc lt (omega arith) (g ∙ sym fr))) ps d.share

    -- the point does not share the first bits
    pub off : agrees C W n (below_it t) p ≡ false → live C p ps ≡ false
    off apart = live_not C W n d.front ps p d.share (subst (λ a. agrees C W n a p ≡ false) all_is apart)

    some : (b : ℕ) → b < 2 → 1 ≤ length (half C W m b (with_point C p ps))
    some b two =
        ⊎_elim
        (λ g. let a = ap length (half_with C W m b p ps g w.reached.stands.is_set.rising) ∙ length_with C p (half C W m b ps) in omega arith)
        (λ g.
        let c = some_points k s card ps t w.reached.stands in
        let a = ap length (half_past C W m b p ps g ∙ half_whole C W m b ps (All-weaker _ _ (λ x t. t ∙ other_bit W m (C p) lc b two g (λ i. ne (sym i))) ps bits)) in
        omega arith)
        (cases_eq (bit_at W m (C p)) b)

    -- the depth of the points with p
    pub new_depth : Depth C W m (with_point C p (below_it t))
    new_depth =
        let a = d.short in
        let firsts : AllByRecursion (λ x. first W m (C x) ≡ first W m (C p)) ps = All-weaker _ _ (λ x g. first_fewer W n m (C x) lc (omega arith) (omega arith) (g ∙ sym fr) ∙ sh.agree) ps d.share in
        let part : Parted C W m (with_point C p ps) = record { short = omega arith; front = first W m (C p); share = all_with C _ p ps refl firsts; low = some 0 (omega arith); high = some 1 (omega arith) } in
        subst (λ a. Depth C W m (with_point C p a)) (sym all_is) (parted_depth C W m (with_point C p ps) part)

    module _ (apart : agrees C W n (below_it t) p ≡ false) where
      -- no pages at hand
      pub beside_full : spare ≡ None → PutEnd k card ps p spare t (Err Full) card
      beside_full none =
          ⊎_elim
          (λ z. full 0 0 (off apart) (above_high apart new_depth z) none)
          (λ z. full 0 0 (off apart) (above_low apart new_depth z) none)
          (bit_cases W m (C p))

      module _ (x : Spare) (has : spare ≡ Some x) (fin : x.fork < length card) (gin : x.leaf < length card) (r : Grown P) (entry_is : summary k r.entry ≡ widened k x.fork p e) (used : r.used ≡ Some x) where
        abbrev f : ℕ
        f = x.fork

        abbrev g : ℕ
        g = x.leaf

        abbrev own : Summary
        own = entry k (data_at g (p ∷ []))

        abbrev own_bytes : List ℕ
        own_bytes = encode k (data_view (k.coords p ∷ []))

        abbrev mid : Card
        mid = set card g own_bytes

        once_all : (i : ℕ) → times i (f ∷ []) + (times i (g ∷ []) + times i (numbers t)) ≤ 1
        once_all i = let o = subst (λ x. times i (spares x ++ numbers t) ≤ 1) has (w.once i) in omega arith

        g_off : g ≡ f → ⊥
        g_off e = let a = once_all g in let b = times_at g f e in let c = times_at g g refl in omega arith

        module _ (bytes : List ℕ) where
          abbrev after : Card
          after = set mid f bytes

          first_page : page after f ≡ bytes
          first_page = get_or-set_same mid f bytes [] (let a = length-set card g own_bytes in omega arith)

          own_page : page after g ≡ own_bytes
          own_page = get_or-set_other mid f g bytes [] g_off ∙ get_or-set_same card g own_bytes [] gin

          old_pages : Shows k after t
          old_pages =
              shows_kept k card after t
              (λ i le.
              let a = once_all i in
              get_or-set_other mid f i bytes [] (λ e. let b = times_at i f e in omega arith) ∙ get_or-set_other card g i own_bytes [] (λ e. let b = times_at i g e in omega arith)) w.reached.stands.shows

          kept_all : KeptBut ((f ∷ (g ∷ [])) ++ way C W t p) card after
          kept_all = kept_then (g ∷ []) (f ∷ []) ((f ∷ (g ∷ [])) ++ way C W t p) (set_kept card g own_bytes) (set_kept mid f bytes) (λ i e. (omega arith, omega arith))

        uses : Uses spare r.used f g (f ∷ (g ∷ []))
        uses = subst (λ o. Uses spare o f g (f ∷ (g ∷ []))) (sym used) (has, refl, refl, refl)

        entry_for : (u : Laid P) → Grows C W B p f g t u (f ∷ (g ∷ [])) → number u ≡ f → summary k r.entry ≡ entry k u
        entry_for u gr at =
            let whole = grows_points C W B s.room p f g ps gr w.reached.stands.halved w.reached.stands.is_set.rising (absent_from C p ps (off apart)) in
            let c = some_points k s card ps t w.reached.stands in
            let len = ap length all_is in
            entry_is ∙ ap (λ i. widened k i p e) (sym at) ∙ ap (widened k (number u) p) w.reached.at ∙ widened_entry k p t u (omega arith) whole

        abbrev fork_bytes : ℕ → List ℕ
        fork_bytes b = encode k (directory_view m (chosen b own e) (chosen b e own))

        low_side : bit_at W m (C p) ≡ 0 → PutEnd k card ps p spare t (Ok r) (set mid f (fork_bytes 0))
        low_side z =
            let gr : Grows C W B p f g t (directory_at f m (data_at g (p ∷ [])) t) (f ∷ (g ∷ [])) = above_high apart new_depth z in
            let bytes = fork_bytes 0 in
            grew f g (off apart) gr uses (entry_for _ gr refl)
            (first_page bytes ∙ ap (λ a. encode k (directory_view m own a)) w.reached.at, (own_page bytes, old_pages bytes))
            (kept_all bytes)

        high_side : bit_at W m (C p) ≡ 1 → PutEnd k card ps p spare t (Ok r) (set mid f (fork_bytes 1))
        high_side z =
            let gr : Grows C W B p f g t (directory_at f m t (data_at g (p ∷ []))) (f ∷ (g ∷ [])) = above_low apart new_depth z in
            let bytes = fork_bytes 1 in
            grew f g (off apart) gr uses (entry_for _ gr refl)
            (first_page bytes ∙ ap (λ a. encode k (directory_view m a own)) w.reached.at, All-append _ (parts k t) _ (old_pages bytes) (own_page bytes, tt))
            (kept_all bytes)

        -- a new directory page above the tree, and a new data page with p alone
        pub beside : (b : ℕ) (after : Card) → bit_at W m (C p) ≡ b → after ≡ set mid f (fork_bytes b) → PutEnd k card ps p spare t (Ok r) after
        beside b after bit is =
            subst (PutEnd k card ps p spare t (Ok r)) (sym (is ∙ ap (λ i. set mid f (fork_bytes i)) (sym bit)))
            (⊎_elim
            (λ z. subst (λ i. PutEnd k card ps p spare t (Ok r) (set mid f (fork_bytes i))) (sym z) (low_side z))
            (λ z. subst (λ i. PutEnd k card ps p spare t (Ok r) (set mid f (fork_bytes i))) (sym z) (high_side z))
            (bit_cases W m (C p)))
