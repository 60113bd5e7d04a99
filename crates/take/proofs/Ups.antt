-- A take from a directory page, once its half is done.
use Rattle.std.proofs.Common.{◌≡◌, ℕ, ◌+◌, ◌-◌, ◌<◌, ◌≤◌, true, ◌⊎◌, List, [], ◌∷◌, ◌++◌, map, length, set, Some, None, Option, sym, refl, ap, ◌∙◌, subst, ap₂, arith}
use Rattle.std.proofs.lemmas.List.{get_or-set_same, get_or-set_other}
use Rattle.zorder.specs.Halves.{half, Rising}
use Rattle.kinds.specs.Kind.{Kind, Sound, code_of, wide}
use Rattle.page.specs.declared.entry.Entry.{Entry}
use Rattle.page.specs.declared.directory_page.Fork.{Fork}
use Rattle.page.specs.Form.{Summary, data_view, directory_view, encode, times}
use Rattle.page.specs.Fields.{Reads}
use Rattle.page.specs.Checks.{summary}
use Rattle.tree.specs.Sets.{live, without_point}
use Rattle.tree.specs.Laid.{Laid, data_at, directory_at, number, numbers, below_it, way}
use Rattle.tree.specs.Lawful.{Card, page, entry, root_parts, Holds, Shows, KeptBut}
use Rattle.tree.specs.Standing.{view_of, Standing}
use Rattle.tree.proofs.Halves.{bit_cases, half_live, length_without}
use Rattle.tree.proofs.Standings.{node_inv, points_are, some_points, standing_reads, standing_there}
use Rattle.access.specs.Reached.{chosen, Reached}
use Rattle.growth.specs.Shrinks.{Shrinks}
use Rattle.growth.proofs.Kept.{times_here, set_kept, kept_then, shows_kept, way_times}
use Rattle.growth.proofs.Takes.{shrinks_times}
use Rattle.access.proofs.Reaching.{down, reached_count}
use Rattle.take.specs.declared.taken.FreedPages.{FreedPages}
use Rattle.take.specs.declared.taken.Taken.TheVariants.{Gone, Left}
use Rattle.take.specs.Shrinking.{both, above_both, Leaves, Shrunk, Shrinking, Divided}
use Rattle.take.proofs.DataPages.{leaf_gone}
use Rattle.take.proofs.Entries.{fork_entry}
use Rattle.access.proofs.Choosing.{chosen_of}
use Rattle.take.proofs.Chosen.{chosen_length, side_times, side_way, side_shows, side_changed, side_gone, side_less, side_merged, side_stands, side_count, side_left}

module _ {P : Type 0} (k : Kind P) where
  -- a part with at most b points is a data page
  small_leaf : (card : Card) (xs : List P) (t : Laid P) → Standing k card xs t → length xs ≤ k.capacity → t ≡ data_at (number t) (below_it t)
  small_leaf card xs (data_at q ys) st le = refl
  small_leaf card xs (directory_at q n l h) st le = let a = (node_inv k st.halved).0 in absurd (omega arith)

  leaf_reads : (s : Sound k) (card : Card) (xs : List P) (t : Laid P) (at : ℕ) → Standing k card xs t → t ≡ data_at (number t) (below_it t) → at ≡ number t → Reads k (page card at) (data_view (map k.coords (below_it t)))
  leaf_reads s card xs t at st leaf is = subst (λ v. Reads k (page card at) v) (ap (view_of k) leaf) (subst (λ i. Reads k (page card i) (view_of k t)) (sym is) (standing_reads k s card xs t st))

module _ {P : Type 0} (k : Kind P) (s : Sound k) (card : Card) (ps : List P) (e : Entry P) (above : ℕ) (x : Fork P) (bit : ℕ) (p : P) (q : ℕ) (l h : Laid P) (d : Divided k card ps e above x bit p q l h) where
  pub a_bit : (bit ≡ 0) ⊎ (bit ≡ 1)
  a_bit = subst (λ b. (b ≡ 0) ⊎ (b ≡ 1)) d.bit_is (bit_cases (wide k) x.depth (code_of k p))

  page_is : e.page ≡ q
  page_is = ap (λ y. y.page) d.shrinking.reached.at

  stands : Standing k card ps (directory_at q x.depth l h)
  stands = d.shrinking.reached.stands

  -- the entries of the point's own half and of the other
  pub own_entry : (own : Entry P) → own ≡ chosen bit x.low x.high → summary k own ≡ entry k (chosen bit l h)
  own_entry own is = ap (summary k) is ∙ chosen_of (summary k) bit x.low x.high ∙ ap₂ (λ (a b : Summary). chosen bit a b) d.low_is d.high_is ∙ sym (chosen_of (entry k) bit l h)

  pub other_entry : (other : Entry P) → other ≡ chosen bit x.high x.low → summary k other ≡ entry k (chosen bit h l)
  other_entry other is = ap (summary k) is ∙ chosen_of (summary k) bit x.high x.low ∙ ap₂ (λ (a b : Summary). chosen bit a b) d.high_is d.low_is ∙ sym (chosen_of (entry k) bit h l)

  -- each page stands in the page, in one half or in the other
  once_all : (i : ℕ) → times i (q ∷ []) + (times i (numbers (chosen bit l h)) + times i (numbers (chosen bit h l))) ≤ 1
  once_all i = let a = d.shrinking.once i in let c = side_times k p q x.depth l h bit a_bit i in omega arith

  -- the point's own half is reached
  pub down_own : (own : Entry P) → own ≡ chosen bit x.low x.high → Shrinking k card (half (code_of k) (wide k) x.depth bit ps) (summary k own) (x.depth + 1) (chosen bit l h)
  down_own own is = record {
    reached = subst (λ y. Reached k card (half (code_of k) (wide k) x.depth bit ps) y (x.depth + 1) (chosen bit l h)) (sym (own_entry own is ∙ chosen_of (entry k) bit l h)) (down k s card ps (summary k e) above q x.depth l h d.shrinking.reached bit a_bit);
    once = λ i. let a = once_all i in omega arith;
  }

  -- a point is live exactly if it is in its own half
  pub live_own : live (code_of k) p (half (code_of k) (wide k) x.depth bit ps) ≡ live (code_of k) p ps
  live_own = half_live (code_of k) (wide k) x.depth bit p ps d.bit_is

  -- the other half is still shown where only pages of the way differ
  other_shows : (mid : Card) → KeptBut (way (code_of k) (wide k) (chosen bit l h) p) card mid → Shows k mid (chosen bit h l)
  other_shows mid kept =
      shows_kept k card mid (chosen bit h l) (λ i le. kept.kept i (let a = once_all i in let b = way_times k i p (chosen bit l h) in omega arith))
      (side_shows k p q x.depth l h bit a_bit card stands.shows)

  way_is : way (code_of k) (wide k) (directory_at q x.depth l h) p ≡ q ∷ way (code_of k) (wide k) (chosen bit l h) p
  way_is = side_way k p q x.depth l h bit a_bit d.shares d.bit_is

  -- ---- the half is gone: the other stands in the place of both
  pub up_gone : (gone : ℕ) (mid : Card) (other : Entry P) → summary k other ≡ entry k (chosen bit h l) → Shrunk k card (half (code_of k) (wide k) x.depth bit ps) p (chosen bit l h) (Gone gone) mid
      → Shrunk k card ps p (directory_at q x.depth l h) (Left other (Some (record { fork = e.page; leaf = gone }))) mid
  up_gone gone mid other is sub = record {
    was_live = sym live_own ∙ sub.was_live;
    left = Some (chosen bit h l);
    shrinks = subst (λ r. Shrinks (code_of k) (wide k) k.capacity p (directory_at q x.depth l h) (Some (chosen bit h l)) (r ∷ (gone ∷ []))) (sym page_is)
        (side_gone k p q x.depth l h bit a_bit (gone ∷ []) d.bit_is (nothing sub.left sub.leaves sub.shrinks));
    leaves = is;
    shows = other_shows mid sub.kept;
    kept = subst (λ v. KeptBut v card mid) (sym way_is) (record { same_size = sub.kept.same_size; kept = λ i z. sub.kept.kept i (omega arith) });
  }
    where
      nothing : (o : Option (Laid P)) → Leaves k (Gone gone) o → Shrinks (code_of k) (wide k) k.capacity p (chosen bit l h) o (gone ∷ []) → Shrinks (code_of k) (wide k) k.capacity p (chosen bit l h) None (gone ∷ [])
      nothing None li sh = sh
      nothing (Some m) li sh = absurd li

  -- ---- both halves stay
  pub up_less : (el v : Entry P) (pages : Option FreedPages) (mid after : Card) (y : Fork P) → y.low ≡ chosen bit el x.low → y.high ≡ chosen bit x.high el
      → summary k v ≡ above_both e.page (e.count - 1) (summary k y.low) (summary k y.high) → k.capacity + 1 < e.count
      → after ≡ set mid e.page (encode k (directory_view x.depth (summary k y.low) (summary k y.high)))
      → Shrunk k card (half (code_of k) (wide k) x.depth bit ps) p (chosen bit l h) (Left el pages) mid
      → Shrunk k card ps p (directory_at q x.depth l h) (Left v pages) after
  up_less el v pages mid after y low high narrow many written sub = by sub.left sub.leaves sub.shrinks sub.shows
    where
      by : (o : Option (Laid P)) → Leaves k (Left el pages) o → Shrinks (code_of k) (wide k) k.capacity p (chosen bit l h) o (both pages) → Holds k mid (root_parts k o) → Shrunk k card ps p (directory_at q x.depth l h) (Left v pages) after
      by None li sh shows = absurd li
      by (Some m) li sh shows =
          let n = x.depth in
          let lo = chosen bit m l in
          let hi = chosen bit h m in
          let on = sym live_own ∙ sub.was_live in
          let all = side_left k p q n l h bit a_bit s card ps m (both pages) stands sh d.bit_is on in
          let count = reached_count k s card ps (summary k e) above (directory_at q n l h) d.shrinking.reached in
          let less = length_without (code_of k) p ps stands.is_set.rising on in
          let len = ap length all.0 in
          let low_is : summary k y.low ≡ entry k lo = ap (summary k) low ∙ chosen_of (summary k) bit el x.low ∙ ap₂ (λ (a b : Summary). chosen bit a b) li d.low_is ∙ sym (chosen_of (entry k) bit m l) in
          let high_is : summary k y.high ≡ entry k hi = ap (summary k) high ∙ chosen_of (summary k) bit x.high el ∙ ap₂ (λ (a b : Summary). chosen bit a b) d.high_is li ∙ sym (chosen_of (entry k) bit h m) in
          let bytes = encode k (directory_view n (entry k lo) (entry k hi)) in
          let now : after ≡ set mid q bytes = written ∙ ap₂ (λ (i : ℕ) (z : List ℕ). set mid i z) page_is (ap₂ (λ (a b : Summary). encode k (directory_view n a b)) low_is high_is) in
          let qin : q < length mid = let a = standing_there k s card ps (directory_at q n l h) stands in let b = sub.kept.same_size in omega arith in
          let other : (i : ℕ) → (i ≡ q → ⊥) → page (set mid q bytes) i ≡ page mid i = λ i ne. get_or-set_other mid q i bytes [] ne in
          let here : (i : ℕ) → i ≡ q → times i (q ∷ []) ≡ 1 = λ i z. subst (λ j. times i (j ∷ []) ≡ 1) z (times_here i []) in
          let shown : Shows k (set mid q bytes) (directory_at q n lo hi) = side_changed k p q n l h bit a_bit (set mid q bytes) m (get_or-set_same mid q bytes [] qin)
          (shows_kept k mid (set mid q bytes) m (λ i le. other i (λ z. let a = once_all i in let b = shrinks_times (code_of k) (wide k) k.capacity p i sh in let c = here i z in omega arith)) shows)
          (shows_kept k mid (set mid q bytes) (chosen bit h l) (λ i le. other i (λ z. let a = once_all i in let c = here i z in omega arith)) (other_shows mid sub.kept)) in
          subst (Shrunk k card ps p (directory_at q n l h) (Left v pages)) (sym now) (record {
            was_live = on;
            left = Some (directory_at q n lo hi);
            shrinks = side_less k p q n l h bit a_bit m (both pages) d.bit_is sh (omega arith);
            leaves = narrow ∙ ap₂ (λ (a b : Summary). above_both e.page (e.count - 1) a b) low_is high_is ∙ ap (λ i. above_both i (e.count - 1) (entry k lo) (entry k hi)) page_is ∙ fork_entry k q n (e.count - 1) lo hi (omega arith) all.1 all.2;
            shows = shown;
            kept = subst (λ u. KeptBut u card (set mid q bytes)) (sym way_is) (kept_then (way (code_of k) (wide k) (chosen bit l h) p) (q ∷ []) (q ∷ way (code_of k) (wide k) (chosen bit l h) p) sub.kept (set_kept mid q bytes) (λ i z. (omega arith, omega arith)));
          })

  -- ---- both halves are data pages
  module _ (few : length ps ≤ k.capacity + 1) (own other : Entry P) (own_is : own ≡ chosen bit x.low x.high) (other_same : other ≡ chosen bit x.high x.low) where
    own_stands : Standing k card (half (code_of k) (wide k) x.depth bit ps) (chosen bit l h)
    own_stands = (down_own own own_is).reached.stands

    other_stands : (ys : List P) × Standing k card ys (chosen bit h l)
    other_stands = side_stands k p q x.depth l h bit a_bit s card ps stands

    pub both_count : length (below_it (chosen bit l h)) + length (below_it (chosen bit h l)) ≡ length ps
    both_count = side_count k p q x.depth l h bit a_bit s card ps stands

    -- each half has at most b points, so it is one data page
    own_leaf : chosen bit l h ≡ data_at (number (chosen bit l h)) (below_it (chosen bit l h))
    own_leaf =
        let a = both_count in
        let b = ap length (points_are k s card _ (chosen bit h l) other_stands.1) in
        let c = some_points k s card _ (chosen bit h l) other_stands.1 in
        let f = ap length (points_are k s card _ (chosen bit l h) own_stands) in
        small_leaf k card _ (chosen bit l h) own_stands (omega arith)

    other_leaf : chosen bit h l ≡ data_at (number (chosen bit h l)) (below_it (chosen bit h l))
    other_leaf =
        let a = both_count in
        let b = ap length (points_are k s card _ (chosen bit h l) other_stands.1) in
        let c = some_points k s card _ (chosen bit l h) own_stands in
        let f = ap length (points_are k s card _ (chosen bit l h) own_stands) in
        small_leaf k card _ (chosen bit h l) other_stands.1 (omega arith)

    own_page : own.page ≡ number (chosen bit l h)
    own_page = ap (λ y. y.page) (own_entry own own_is)

    other_page : other.page ≡ number (chosen bit h l)
    other_page = ap (λ y. y.page) (other_entry other other_same)

    own_there : own.page < length card
    own_there = subst (λ i. i < length card) (sym own_page) (standing_there k s card _ (chosen bit l h) own_stands)

    -- what a read of the page tells holds of its points
    pub own_told : (F : List P → Type 0) → ((zs : List P) → Reads k (page card own.page) (data_view (map k.coords zs)) → own.page < length card → F zs) → F (below_it (chosen bit l h))
    own_told F tells = tells (below_it (chosen bit l h)) (leaf_reads k s card _ (chosen bit l h) own.page own_stands own_leaf own_page) own_there

    pub other_told : (F : List P → Type 0) (now : Card) → now ≡ card → ((zs : List P) → Reads k (page now other.page) (data_view (map k.coords zs)) → other.page < length now → F zs) → F (below_it (chosen bit h l))
    other_told F now same tells =
        let there = subst (λ i. i < length card) (sym other_page) (standing_there k s card _ (chosen bit h l) other_stands.1) in
        let reads = leaf_reads k s card _ (chosen bit h l) other.page other_stands.1 other_leaf other_page in
        tells (below_it (chosen bit h l)) (subst (λ c. Reads k (page c other.page) (data_view (map k.coords (below_it (chosen bit h l))))) (sym same) reads) (subst (λ c. other.page < length c) (sym same) there)

    -- the point is live exactly if its page has it
    pub live_there : live (code_of k) p (below_it (chosen bit l h)) ≡ live (code_of k) p ps
    live_there = ap (live (code_of k) p) (points_are k s card _ (chosen bit l h) own_stands) ∙ live_own

    -- no more points are left than one data page has room for
    pub both_fit : live (code_of k) p (below_it (chosen bit l h)) ≡ true → length (without_point (code_of k) p (below_it (chosen bit l h))) + length (below_it (chosen bit h l)) ≤ k.capacity
    both_fit on =
        let a = both_count in
        let less = length_without (code_of k) p (below_it (chosen bit l h)) (subst (Rising (code_of k)) (sym (points_are k s card _ (chosen bit l h) own_stands)) own_stands.is_set.rising) on in
        omega arith

    -- the page had no other point
    pub pair_gone : live (code_of k) p (below_it (chosen bit l h)) ≡ true → length (without_point (code_of k) p (below_it (chosen bit l h))) ≡ 0 → Shrunk k card ps p (directory_at q x.depth l h) (Left other (Some (record { fork = e.page; leaf = own.page }))) card
    pair_gone on none =
        let sub = leaf_gone k card (below_it (chosen bit l h)) p (number (chosen bit l h)) on none in
        let there = subst (λ t. Shrunk k card (below_it (chosen bit l h)) p t (Gone (number (chosen bit l h))) card) (sym own_leaf) sub in
        up_gone own.page card other (other_entry other other_same)
        (subst (λ i. Shrunk k card (half (code_of k) (wide k) x.depth bit ps) p (chosen bit l h) (Gone i) card) (sym own_page)
        (subst (λ xs. Shrunk k card xs p (chosen bit l h) (Gone (number (chosen bit l h))) card) (points_are k s card _ (chosen bit l h) own_stands) there))

    -- points are left: the page has those of both
    pub pair_merged : (v : Entry P) (xs : List P) (after : Card) → xs ≡ chosen bit (without_point (code_of k) p (below_it (chosen bit l h)) ++ below_it (chosen bit h l)) (below_it (chosen bit h l) ++ without_point (code_of k) p (below_it (chosen bit l h)))
        → live (code_of k) p (below_it (chosen bit l h)) ≡ true → 1 ≤ length (without_point (code_of k) p (below_it (chosen bit l h))) → summary k v ≡ entry k (data_at own.page xs)
        → after ≡ set card own.page (encode k (data_view (map k.coords xs)))
        → Shrunk k card ps p (directory_at q x.depth l h) (Left v (Some (record { fork = e.page; leaf = other.page }))) after
    pair_merged v xs after all on some is written =
        let n = x.depth in
        let r = number (chosen bit l h) in
        let fit = both_fit on in
        let len = ap length all ∙ chosen_length bit (without_point (code_of k) p (below_it (chosen bit l h))) (below_it (chosen bit h l)) in
        let bytes = encode k (data_view (map k.coords xs)) in
        let sh = side_merged k p q n l h bit a_bit r (number (chosen bit h l)) (below_it (chosen bit l h)) (below_it (chosen bit h l)) own_leaf other_leaf d.bit_is some (subst (λ ys. length ys ≤ k.capacity) all (omega arith)) in
        subst (Shrunk k card ps p (directory_at q n l h) (Left v (Some (record { fork = e.page; leaf = other.page })))) (sym (written ∙ ap (λ i. set card i bytes) own_page)) (record {
          was_live = sym live_there ∙ on;
          left = Some (data_at r xs);
          shrinks = subst (λ i. Shrinks (code_of k) (wide k) k.capacity p (directory_at q n l h) (Some (data_at r xs)) (i ∷ (other.page ∷ []))) (sym page_is)
              (subst (λ i. Shrinks (code_of k) (wide k) k.capacity p (directory_at q n l h) (Some (data_at r xs)) (q ∷ (i ∷ []))) (sym other_page)
              (subst (λ ys. Shrinks (code_of k) (wide k) k.capacity p (directory_at q n l h) (Some (data_at r ys)) (q ∷ (number (chosen bit h l) ∷ []))) (sym all) sh));
          leaves = is ∙ ap (λ i. entry k (data_at i xs)) own_page;
          shows = (get_or-set_same card r bytes [] (subst (λ i. i < length card) own_page own_there), tt);
          kept = subst (λ u. KeptBut u card (set card r bytes)) (sym (way_is ∙ ap (λ t. q ∷ way (code_of k) (wide k) t p) own_leaf)) (kept_then [] (r ∷ []) (q ∷ (r ∷ [])) (record { same_size = refl; kept = λ i z. refl }) (set_kept card r bytes) (λ i z. (refl, omega arith)));
        })
