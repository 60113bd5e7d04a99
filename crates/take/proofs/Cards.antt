-- The card that a take leaves.
use Rattle.std.proofs.Common.{◌≡◌, ℕ, suc, ◌+◌, ◌<◌, ◌≤◌, true, false, cond, ◌&&◌, ltb, leb, List, [], ◌∷◌, ◌++◌, length, set, Some, None, Option, sym, refl, ap, ◌∙◌, subst, ⊎_elim, arith, length-append}
use Rattle.std.specs.List.{ContainsAt as Has, AllByRecursion}
use Rattle.std.proofs.lemmas.List.{get_or-set_same, get_or-set_other, length-set}
use Rattle.std.proofs.lemmas.Bool.{cases_eq}
use Rattle.kinds.specs.Kind.{Kind, Sound, On, Whether, code_of, wide}
use Rattle.page.specs.Form.{Summary, free_view, head_view, encode, times}
use Rattle.tree.specs.Sets.{live, without_point}
use Rattle.tree.specs.Tree.{OptionalTreeOf}
use Rattle.tree.specs.Laid.{Laid, data_at, directory_at, numbers, way, beside, root_shape, root_numbers, root_way, root_beside}
use Rattle.tree.specs.Lawful.{Card, page, Part, entry, parts, root_parts, Holds, root_entry, front, Chained, Lawful, KeptBut}
use Rattle.tree.specs.Standing.{Standing}
use Rattle.tree.proofs.Counts.{one_same, one_other, range_one, times_append}
use Rattle.tree.proofs.Laws.{set_law}
use Rattle.tree.proofs.Standings.{whole, root_standing}
use Rattle.growth.proofs.Kept.{times_off, shows_kept, chained_kept, way_times}
use Rattle.growth.proofs.Laws.{there_left, there_right}
use Rattle.access.proofs.Reaching.{root_reached}
use Rattle.growth.proofs.Takes.{Left, shrinks_halved, shrinks_times, shrinks_parts}
use Rattle.take.specs.declared.taken.Taken.{Taken}
use Rattle.take.specs.declared.taken.Taken.TheVariants as part
use Rattle.take.specs.Shrinking.{freed, front_of, linked, left_entry, Leaves, Shrunk, Shrinking}
use Rattle.take.specs.Taking.{TakeChanged}

-- each of some pages stands in a list, so a page that does not stand there is none of them
none_there : (i : ℕ) (xs ys : List ℕ) → AllByRecursion (λ x. 1 ≤ times x ys) xs → times i ys ≡ 0 → times i xs ≡ 0
none_there i [] ys all z = refl
none_there i (x ∷ xs) ys all z =
    let rest = none_there i xs ys all.1 z in
    ⊎_elim
    (λ e. absurd (let a = subst (λ j. 1 ≤ times j ys) (sym e) all.0 in omega arith))
    (λ ne. let o = one_other i x ne in omega arith)
    (cases_eq i x)

-- the first page of a chain with more pages before it
front_is : (qs rest : List ℕ) (first : ℕ) → front rest ≡ first → front_of qs first ≡ front (qs ++ rest)
front_is [] rest first e = sym e
front_is (q ∷ qs) rest first e = refl

module _ {P : Type 0} (k : Kind P) (mid : Card) (first : ℕ) where
  pub linked_size : (qs : List ℕ) → length (linked k mid qs first) ≡ length mid
  linked_size [] = refl
  linked_size (q ∷ qs) = length-set (linked k mid qs first) q (encode k (free_view (front_of qs first))) ∙ linked_size qs

  linked_kept : (qs : List ℕ) (i : ℕ) → times i qs ≡ 0 → page (linked k mid qs first) i ≡ page mid i
  linked_kept [] i z = refl
  linked_kept (q ∷ qs) i z = get_or-set_other (linked k mid qs first) q i (encode k (free_view (front_of qs first))) [] (times_off i q qs z) ∙ linked_kept qs i (omega arith)

  -- the pages that are free now stand before the chain
  linked_chain : (qs rest : List ℕ) → front rest ≡ first → AllByRecursion (λ q. q < length mid) qs → ((i : ℕ) → times i (qs ++ rest) ≤ 1) → Chained k mid rest → Chained k (linked k mid qs first) (qs ++ rest)
  linked_chain [] rest e within once chained = chained
  linked_chain (q ∷ qs) rest e within once chained =
      let before = linked k mid qs first in
      let bytes = encode k (free_view (front_of qs first)) in
      let lt = within.0 in
      let n = linked_size qs in (
        get_or-set_same before q bytes [] (omega arith) ∙ ap (λ i. encode k (free_view i)) (front_is qs rest first e),
        chained_kept k before (set before q bytes) (qs ++ rest)
            (λ i le. get_or-set_other before q i bytes [] (λ z. let o = once i in let c = one_same i q z in omega arith))
            (linked_chain qs rest e within.1 (λ i. let o = once i in omega arith) chained),
      )

module _ {P : Type 0} (k : Kind P) (s : Sound k) (card : Card) (ps : List P) (w : Lawful k card ps) (p : P) where
  -- a point is live exactly if the set has it
  pub live_has : On k p → live (code_of k) p ps ≡ true → Has ps p
  live_has on e = subst (λ b. Whether b (Has ps p)) e (set_law P k s ps p w.is_set on).live_is

  pub live_has_not : On k p → live (code_of k) p ps ≡ false → Has ps p → ⊥
  live_has_not on e = subst (λ b. Whether b (Has ps p)) e (set_law P k s ps p w.is_set on).live_is

  -- the tree from the root is reached
  pub root_shrinking : (e : Summary) (t : Laid P) → w.root ≡ Some t → entry k t ≡ e → Shrinking k card ps e 0 t
  root_shrinking e t root_is at = record {
    reached = root_reached k s card ps e t (root_standing k s card ps w t root_is) (sym at);
    once = λ i.
        let a = subst (λ r. times i (root_numbers r ++ w.chain) ≡ cond (leb 1 i && ltb i (length card)) 1 0) root_is (w.each_once i) in
        let b = times_append i (numbers t) w.chain in
        let c = range_one i (length card) in
        omega arith;
  }

  -- a draft with a point has a page that is not free
  pub few_free : (t : Laid P) → w.root ≡ Some t → length w.chain ≤ 65533
  few_free t root_is =
      let a = subst (λ r. suc (length (root_numbers r ++ w.chain)) ≡ length card) root_is (whole k s card ps w) in
      let b = length-append (numbers t) w.chain in
      let c = some_page t in
      let d = w.size.1 in
      omega arith
    where
      some_page : (t : Laid P) → 1 ≤ length (numbers t)
      some_page (data_at q xs) = omega arith
      some_page (directory_at q n l h) = omega arith

  module _ (on : On k p) (t : Laid P) (root_is : w.root ≡ Some t) (taken : Taken P) (mid : Card) (sub : Shrunk k card ps p t taken mid) (within : AllByRecursion (λ q. q < length card) (freed taken))
      (first count : ℕ) (first_is : front w.chain ≡ first) (count_is : length w.chain ≡ count) where
    -- each page stands once in the tree or in the chain, and page 0 in neither
    once_all : (i : ℕ) → times i (numbers t) + times i w.chain ≡ cond (leb 1 i && ltb i (length card)) 1 0
    once_all i = sym (times_append i (numbers t) w.chain) ∙ subst (λ r. times i (root_numbers r ++ w.chain) ≡ cond (leb 1 i && ltb i (length card)) 1 0) root_is (w.each_once i)

    split : (i : ℕ) → times i (numbers t) ≡ times i (root_numbers sub.left) + times i (freed taken)
    split i = shrinks_times (code_of k) (wide k) k.capacity p i sub.shrinks

    at_most : (i : ℕ) → times i (root_numbers sub.left) + (times i (freed taken) + times i w.chain) ≤ 1
    at_most i = let a = once_all i in let b = split i in let c = range_one i (length card) in omega arith

    stands : Standing k card ps t
    stands = root_standing k s card ps w t root_is

    -- a page that is free now is on the way of the point or beside its last page
    on_way : AllByRecursion (λ q. 1 ≤ times q (way (code_of k) (wide k) t p ++ beside (code_of k) (wide k) t p)) (freed taken)
    on_way =
        let v = way (code_of k) (wide k) t p in
        let z = beside (code_of k) (wide k) t p in
        (shrinks_parts k s.room p (λ q. 1 ≤ times q (v ++ z)) (λ x. Unit {0}) ps [] sub.shrinks stands.halved stands.is_set.rising sub.was_live (there_left v z) (there_right v z) (nothing (parts k t))).1
      where
        nothing : (xs : List Part) → AllByRecursion (λ x. Unit {0}) xs
        nothing [] = tt
        nothing (x ∷ xs) = (tt, nothing xs)

    -- what is left is the tree of the set without the point
    left_tree : (u : Option (Laid P)) → Left (code_of k) (wide k) k.capacity u (without_point (code_of k) p ps) → OptionalTreeOf k (without_point (code_of k) p ps) (root_shape u)
    left_tree None h = h
    left_tree (Some v) h = h

    left_root : (r : Taken P) (u : Option (Laid P)) → Leaves k r u → left_entry k r ≡ root_entry k u
    left_root (part.Gone q) None h = refl
    left_root (part.Gone q) (Some v) h = absurd h
    left_root (part.Left e pages) None h = absurd h
    left_root (part.Left e pages) (Some v) h = ap Some h

    module _ (after : Card) (written : after ≡ set (linked k mid (freed taken) first) 0 (encode k (head_view (front_of (freed taken) first) (length (freed taken) + count) (left_entry k taken)))) where
      abbrev bytes : List ℕ
      bytes = encode k (head_view (front_of (freed taken) first) (length (freed taken) + count) (left_entry k taken))

      after_size : length after ≡ length card
      after_size = ap length written ∙ length-set (linked k mid (freed taken) first) 0 bytes ∙ linked_size k mid first (freed taken) ∙ sub.kept.same_size

      after_head : page after 0 ≡ bytes
      after_head =
          let a = w.size.0 in
          let b = linked_size k mid first (freed taken) in
          let c = sub.kept.same_size in
          ap (λ a. page a 0) written ∙ get_or-set_same (linked k mid (freed taken) first) 0 bytes [] (omega arith)

      -- every other page is as the chain with the freed pages has it
      after_other : (i : ℕ) → (i ≡ 0 → ⊥) → page after i ≡ page (linked k mid (freed taken) first) i
      after_other i ne = ap (λ a. page a i) written ∙ get_or-set_other (linked k mid (freed taken) first) 0 i bytes [] ne

      after_mid : (i : ℕ) → (i ≡ 0 → ⊥) → times i (freed taken) ≡ 0 → page after i ≡ page mid i
      after_mid i ne z = after_other i ne ∙ linked_kept k mid first (freed taken) i z

      -- the pages of the tree and of the chain are not page 0
      not_head : (i : ℕ) → 1 ≤ times i (root_numbers sub.left) + (times i (freed taken) + times i w.chain) → i ≡ 0 → ⊥
      not_head i le z = let a = split 0 in let b = once_all 0 in let c = subst (λ j. 1 ≤ times j (root_numbers sub.left) + (times j (freed taken) + times j w.chain)) z le in omega arith

      left_shows : (u : Option (Laid P)) → Holds k mid (root_parts k u) → ((i : ℕ) → times i (root_numbers u) ≤ times i (root_numbers sub.left)) → Holds k after (root_parts k u)
      left_shows None h le = tt
      left_shows (Some v) h le = shows_kept k mid after v (λ i one. let a = at_most i in let b = le i in after_mid i (not_head i (omega arith)) (omega arith)) h

      chain_mid : Chained k mid w.chain
      chain_mid = chained_kept k card mid w.chain (λ i one. sub.kept.kept i (let a = at_most i in let b = split i in let c = way_times k i p t in omega arith)) w.chained

      pub take_changed : TakeChanged k card ps w p after
      take_changed =
          let same = sub.kept.same_size in
          let fs = freed taken in
          record {
            kept = subst (λ r. KeptBut (0 ∷ (root_way k r p ++ root_beside k r p)) card after) (sym root_is) (record {
              same_size = after_size;
              kept = λ i z.
                  let v = times_append i (way (code_of k) (wide k) t p) (beside (code_of k) (wide k) t p) in
                  after_mid i (times_off i 0 (way (code_of k) (wide k) t p ++ beside (code_of k) (wide k) t p) z) (none_there i fs (way (code_of k) (wide k) t p ++ beside (code_of k) (wide k) t p) on_way (omega arith)) ∙ sub.kept.kept i (omega arith);
            });
            lawful = record {
              root = sub.left;
              chain = fs ++ w.chain;
              size = let a = w.size.0 in let b = w.size.1 in let c = after_size in (omega arith, omega arith);
              is_set = (set_law P k s ps p w.is_set on).without_set;
              head = after_head ∙ ap (λ i. encode k (head_view i (length fs + count) (left_entry k taken))) (front_is fs w.chain first first_is)
                  ∙ ap (λ i. encode k (head_view (front (fs ++ w.chain)) i (left_entry k taken))) (let a = length-append fs w.chain in omega arith)
                  ∙ ap (λ o. encode k (head_view (front (fs ++ w.chain)) (length (fs ++ w.chain)) o)) (left_root taken sub.left sub.leaves);
              is_tree = left_tree sub.left (shrinks_halved (code_of k) (wide k) k.capacity s.room p ps sub.shrinks stands.halved stands.is_set.rising sub.was_live);
              shows = left_shows sub.left sub.shows (λ i. omega arith);
              chained = chained_kept k (linked k mid fs first) after (fs ++ w.chain) (λ i one. after_other i (not_head i (let a = times_append i fs w.chain in omega arith)))
                  (linked_chain k mid first fs w.chain first_is (subst (λ n. AllByRecursion (λ q. q < n) fs) (sym same) within) (λ i. let a = at_most i in let b = times_append i fs w.chain in omega arith) chain_mid);
              each_once = λ i.
                  let a = times_append i (root_numbers sub.left) (fs ++ w.chain) in
                  let b = times_append i fs w.chain in
                  let c = split i in
                  let d = once_all i in
                  let e = ap (λ n. times i [] + cond (leb 1 i && ltb i n) 1 0) after_size in
                  omega arith;
            };
          }
