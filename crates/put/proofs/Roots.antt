-- The card after a put.
use Rattle.std.proofs.Common.{◌≡◌, ℕ, suc, ◌+◌, ◌*◌, ◌^◌, ◌<◌, ◌≤◌, true, false, cond, ◌&&◌, ltb, leb, List, [], ◌∷◌, ◌++◌, length, set, Some, None, Ok, Err, Option, Result, sym, refl, ap, ◌∙◌, subst, mul-le-mul_right, arith}
use Rattle.std.specs.List.{ContainsAt as Has}
use Rattle.std.proofs.lemmas.List.{get_or-set_same, get_or-set_other}
use Rattle.refusal.specs.declared.Refusal.{Refusal}
use Rattle.kinds.specs.Kind.{Kind, Sound, On, Whether, wide, code_of}
use Rattle.page.specs.Form.{Summary, data_view, head_view, encode, times}
use Rattle.page.specs.declared.head_page.Head.{Head}
use Rattle.page.specs.Checks.{summary, root_summary}
use Rattle.tree.specs.Sets.{live, with_point}
use Rattle.tree.specs.Tree.{one_page, TreeOf, data_pages, directory_pages, count_pages}
use Rattle.tree.specs.Laid.{Laid, data_at, numbers, shape, root_way, root_shape, root_numbers}
use Rattle.tree.specs.Lawful.{Card, page, entry, root_entry, front, Shows, Chained, Lawful, KeptBut}
use Rattle.tree.specs.Book.{put_live, put_full, put_done}
use Rattle.tree.proofs.Counts.{range_one, times_append}
use Rattle.tree.proofs.Halves.{absent_from}
use Rattle.tree.proofs.Standings.{few_points, laid_pages, root_standing}
use Rattle.tree.proofs.Laws.{set_law, whole_card_law}
use Rattle.growth.proofs.Puts.{grows_halved, grows_times, grows_count}
use Rattle.growth.proofs.Kept.{set_kept, kept_then, shows_kept, chained_kept, way_times}
use Rattle.access.proofs.Reaching.{root_reached}
use Rattle.put.specs.declared.insert.Grown.{Grown}
use Rattle.put.specs.declared.spare.Spare.{Spare}
use Rattle.put.specs.Spares.{spares, SpareOf, first_after, free_after, HeadAfter}
use Rattle.put.specs.Growing.{Growing, Uses, PutEnd, taken, full, grew}
use Rattle.put.specs.Putting.{PutStep}
use Rattle.put.proofs.Chains.{Link}

-- ---- the chain that is left

pub record ChainLeft (card : Card) (Linked : List ℕ → Type 0) (chain new : List ℕ) (first free : ℕ) : Type 0 where
  pub rest : List ℕ
  pub first_is : front rest ≡ first
  pub free_is : length rest ≡ free
  pub both : (q : ℕ) → times q new + times q rest ≡ times q chain
  pub few : length new ≤ 2
  pub linked : Linked rest

module _ {P : Type 0} (k : Kind P) (card : Card) where
  whole_left : (chain new : List ℕ) (first free : ℕ) → Chained k card chain → front chain ≡ first → length chain ≡ free → new ≡ [] → ChainLeft card (Chained k card) chain new first free
  whole_left chain new first free c f n e = record { rest = chain; first_is = f; free_is = n; both = λ q. rw e (omega arith); few = rw e (omega arith); linked = c }

  pub chain_left : (o used : Option Spare) (f g : ℕ) (chain new : List ℕ) (first free : ℕ) → Chained k card chain → SpareOf chain (Ok o) → Uses o used f g new → front chain ≡ first → length chain ≡ free
      → ChainLeft card (Chained k card) chain new (first_after first used) (free_after free used)
  chain_left o None f g chain new first free c sp u at n = whole_left chain new first free c at n u
  chain_left o (Some x) f g chain new first free c sp u at n =
      let (rest, is, first_is, free_is) = subst (λ y. SpareOf chain (Ok y)) u.0 sp in
      record {
        rest = rest;
        first_is = first_is;
        free_is = free_is;
        both = λ q. rw (u.3, ← u.1, ← u.2, is) (omega arith);
        few = rw u.3 (omega arith);
        linked = (subst (Chained k card) is c).1.1;
      }

-- the pages at hand are pages of the chain
pub spares_free : (o : Option Spare) (chain : List ℕ) → SpareOf chain (Ok o) → (q : ℕ) → times q (spares o) ≤ times q chain
spares_free None chain sp q = omega arith
spares_free (Some x) chain sp q = rw sp.1 (omega arith)

module _ {P : Type 0} (k : Kind P) (s : Sound k) (before : Card) (set' : List P) (w : Lawful k before set') (p : P) (on : On k p) where
  abbrev C : P → ℕ
  C = code_of k

  member : Whether (live C p set') (Has set' p)
  member = (set_law P k s set' p w.is_set on).live_is

  is_live : live C p set' ≡ true → Has set' p
  is_live e = subst (λ b. Whether b (Has set' p)) e member

  is_new : live C p set' ≡ false → Has set' p → ⊥
  is_new e = subst (λ b. Whether b (Has set' p)) e member

  root_way_times : (o : Option (Laid P)) (r : ℕ) → times r (root_way k o p) ≤ times r (root_numbers o)
  root_way_times None r = omega arith
  root_way_times (Some t) r = way_times k r p t

  -- no page stands twice, and page 0 in neither tree nor chain
  once : (r : ℕ) → times r (root_numbers w.root) + times r w.chain ≤ 1
  once r = let a = w.each_once r in let b = range_one r (length before) in let c = times_append r (root_numbers w.root) w.chain in omega arith

  not_head : times 0 (root_numbers w.root) + times 0 w.chain ≡ 0
  not_head = let a = w.each_once 0 in let c = times_append 0 (root_numbers w.root) w.chain in omega arith

  -- ---- the new tree stands, and the head is written
  module _ (fresh : live C p set' ≡ false) (u : Laid P) (new rest : List ℕ) (mid after : Card)
      (is : TreeOf k (with_point C p set') (shape u)) (shows : Shows k mid u) (kept : KeptBut (new ++ root_way k w.root p) before mid)
      (each : (q : ℕ) → times q (numbers u) ≡ times q (root_numbers w.root) + times q new)
      (both : (q : ℕ) → times q new + times q rest ≡ times q w.chain) (few : length new ≤ 2) (linked : Chained k before rest)
      (head : after ≡ set mid 0 (encode k (head_view (front rest) (length rest) (Some (entry k u))))) where
    abbrev head_bytes : List ℕ
    head_bytes = encode k (head_view (front rest) (length rest) (Some (entry k u)))

    size_is : length after ≡ length before
    size_is = ap length head ∙ (set_kept mid 0 head_bytes).same_size ∙ kept.same_size

    past_head : (r : ℕ) → (r ≡ 0 → ⊥) → page after r ≡ page mid r
    past_head r ne = ap (λ c. page c r) head ∙ get_or-set_other mid 0 r head_bytes [] ne

    abbrev lawful_after : Lawful k after (with_point C p set')
    lawful_after = record {
      root = Some u;
      chain = rest;
      size = subst (λ n. (2 ≤ n) × (n ≤ 65535)) (sym size_is) w.size;
      is_set = (set_law P k s set' p w.is_set on).with_set fresh;
      head = ap (λ c. page c 0) head ∙ get_or-set_same mid 0 head_bytes [] (let a = w.size.0 in let b = kept.same_size in omega arith);
      is_tree = is;
      shows = shows_kept k mid after u (λ r le. past_head r (λ e. let a = each r in let b = both r in let z = subst (λ i. times i (root_numbers w.root) + times i w.chain ≡ 0) (sym e) not_head in omega arith)) shows;
      chained = chained_kept k before after rest (λ r le. past_head r (λ e. let b = both r in let z = subst (λ i. times i (root_numbers w.root) + times i w.chain ≡ 0) (sym e) not_head in omega arith)
          ∙ kept.kept r (let a = once r in let b = both r in let c = root_way_times w.root r in let d = times_append r new (root_way k w.root p) in omega arith)) linked;
      each_once = λ q. times_append q (numbers u) rest ∙ (let a = each q in let b = both q in let c = times_append q (root_numbers w.root) w.chain in let m : times q (numbers u) + times q rest ≡ times q (root_numbers w.root ++ w.chain) = omega arith in m) ∙ w.each_once q ∙ ap (λ n. cond (leb 1 q && ltb q n) 1 0) (sym size_is);
    }

    pub put_step : PutStep k before set' w p (Ok tt) after
    put_step = record {
      answers = put_done (Some (shape u)) on (is_new fresh) is (let a = whole_card_law P k s after (with_point C p set') lawful_after in let b = size_is in omega arith);
      leaves = record {
        used = new;
        few = few;
        free = λ q. let b = both q in omega arith;
        kept = subst (KeptBut (0 ∷ (root_way k w.root p ++ new)) before) (sym head)
            (kept_then (new ++ root_way k w.root p) (0 ∷ []) (0 ∷ (root_way k w.root p ++ new)) kept (set_kept mid 0 head_bytes)
            (λ r e. let a = times_append r new (root_way k w.root p) in let b = times_append r (root_way k w.root p) new in (omega arith, omega arith)));
        lawful = lawful_after;
      };
    }

  -- ---- the first point

  -- the card has a page for it
  pub chain_some : w.root ≡ None → 1 ≤ length w.chain
  chain_some none =
      let a : suc (0 + length w.chain) ≡ length before = subst (λ r. suc (count_pages (root_shape {P = P} r) + length w.chain) ≡ length before) none (whole_card_law P k s before set' w) in
      let b = w.size.0 in
      omega arith

  pub first_step : (first next free : ℕ) (e : Summary) (mid after : Card) (l : Link k s before first w.chain) → w.root ≡ None → set' ≡ [] → front l.rest ≡ next → length l.rest ≡ free → e ≡ entry k (data_at first (p ∷ []))
      → mid ≡ set before first (encode k (data_view (k.coords p ∷ []))) → after ≡ set mid 0 (encode k (head_view next free (Some e))) → first < length before → PutStep k before set' w p (Ok tt) after
  first_step first next free e mid after l none empty at n is written head there =
      put_step (ap (live C p) empty) u (first ∷ []) l.rest mid after
      (subst (λ x. TreeOf k (with_point C p x) (shape u)) (sym empty) (one_page (omega arith) s.room))
      (ap (λ c. page c first) written ∙ get_or-set_same before first _ [] there, tt)
      (subst (λ r. KeptBut ((first ∷ []) ++ root_way k r p) before mid) (sym none) (subst (KeptBut (first ∷ []) before) (sym written) (set_kept before first _)))
      (λ q. subst (λ r. times q (first ∷ []) ≡ times q (root_numbers {P = P} r) + times q (first ∷ [])) (sym none) (omega arith))
      (λ q. rw l.is (omega arith))
      (omega arith) l.chained
      (head ∙ ap (λ x. set mid 0 (encode k (head_view x free (Some e)))) (sym at) ∙ ap (λ x. set mid 0 (encode k (head_view (front l.rest) x (Some e)))) (sym n) ∙ ap (λ x. set mid 0 (encode k (head_view (front l.rest) (length l.rest) (Some x)))) is)
    where
      u : Laid P
      u = data_at first (p ∷ [])

  -- ---- one point more
  module _ (t : Laid P) (is_root : w.root ≡ Some t) (spare : Option Spare) (sp : SpareOf w.chain (Ok spare)) where
    pages_are : suc ((data_pages (shape t) + directory_pages (shape t)) + length w.chain) ≡ length before
    pages_are = subst (λ r. suc (count_pages (root_shape r) + length w.chain) ≡ length before) is_root (whole_card_law P k s before set' w)

    few_set : suc (length set') < 2 ^ 32
    few_set =
        let st = root_standing k s before set' w t is_root in
        let a = few_points k s set' (shape t) st.halved w.is_set in
        let b : k.capacity * data_pages (shape t) ≤ 15 * data_pages (shape t) = mul-le-mul_right (data_pages (shape t)) s.small in
        let c = pages_are in
        let d = w.size.1 in
        omega arith

    once_at : (r : ℕ) → times r (numbers t) + times r w.chain ≤ 1
    once_at r = subst (λ x. times r (root_numbers x) + times r w.chain ≤ 1) is_root (once r)

    pub start : (e : Summary) → entry k t ≡ e → Growing k before set' e spare 0 t
    start e is = record {
      reached = root_reached k s before set' e t (root_standing k s before set' w t is_root) (sym is);
      few = few_set;
      once = λ q. let a = once_at q in let b = spares_free spare w.chain sp q in let c = times_append q (spares spare) (numbers t) in omega arith;
    }

    pub refused_step : (x : Refusal) (after : Card) → PutEnd k before set' p spare t (Err x) after → PutStep k before set' w p (Err x) after
    refused_step x after (taken yes') = record { answers = put_live on (is_live yes'); leaves = refl }
    refused_step x after (full f g {u} fresh gr none) = record {
      answers = put_full (Some (shape u)) on (is_new fresh)
          (grows_halved C (wide k) k.capacity s.room p f g set' gr (root_standing k s before set' w t is_root).halved w.is_set.rising (absent_from C p set' fresh))
          (let a = grows_count C (wide k) k.capacity p f g gr in
          let b = laid_pages u in
          let c = laid_pages t in
          let d = pages_are in
          let e : length w.chain < 2 = subst (λ o. SpareOf w.chain (Ok o)) none sp in
          omega arith);
      leaves = refl;
    }

    pub more_step : (first free : ℕ) (v : Grown P) (mid after : Card) → front w.chain ≡ first → length w.chain ≡ free → PutEnd k before set' p spare t (Ok v) mid
        → after ≡ set mid 0 (encode k (head_view (first_after first v.used) (free_after free v.used) (Some (summary k v.entry)))) → PutStep k before set' w p (Ok tt) after
    more_step first free v mid after at n (grew f g {u} {new} fresh gr uses is shows kept) head =
        let l = chain_left k before spare v.used f g w.chain new first free w.chained sp uses at n in
        put_step fresh u new l.rest mid after
        (grows_halved C (wide k) k.capacity s.room p f g set' gr (root_standing k s before set' w t is_root).halved w.is_set.rising (absent_from C p set' fresh))
        shows
        (subst (λ r. KeptBut (new ++ root_way k r p) before mid) (sym is_root) kept)
        (λ q. subst (λ r. times q (numbers u) ≡ times q (root_numbers r) + times q new) (sym is_root) (grows_times C (wide k) k.capacity p f g q gr))
        l.both l.few l.linked
        (head ∙ ap (λ x. set mid 0 (encode k (head_view x (free_after free v.used) (Some (summary k v.entry))))) (sym l.first_is)
        ∙ ap (λ x. set mid 0 (encode k (head_view (front l.rest) x (Some (summary k v.entry))))) (sym l.free_is)
        ∙ ap (λ x. set mid 0 (encode k (head_view (front l.rest) (length l.rest) (Some x)))) is)

-- ---- a card that was read is as it was

pub step_moved : {P : Type 0} (k : Kind P) (now before : Card) (set' : List P) (p : P) (first free : ℕ) (root : Option Summary) (r : Result Unit Refusal) (after : Card) → now ≡ before
    → ((w : Lawful k now set') → front w.chain ≡ first → length w.chain ≡ free → root_entry k w.root ≡ root → PutStep k now set' w p r after)
    → (w : Lawful k before set') → front w.chain ≡ first → length w.chain ≡ free → root_entry k w.root ≡ root → PutStep k before set' w p r after
step_moved k now before set' p first free root r after same f =
    subst (λ (x : Card). (w : Lawful k x set') → front w.chain ≡ first → length w.chain ≡ free → root_entry k w.root ≡ root → PutStep k x set' w p r after) same f

-- the head that is written
pub head_bytes_are : {P : Type 0} (k : Kind P) (head r : Head P) (v : Grown P) → HeadAfter head v r
    → encode k (head_view r.first r.free (root_summary k r.root)) ≡ encode k (head_view (first_after head.first v.used) (free_after head.free v.used) (Some (summary k v.entry)))
head_bytes_are k head r v h =
    ap (λ a. encode k (head_view a r.free (root_summary k r.root))) h.first ∙
    ap (λ a. encode k (head_view (first_after head.first v.used) a (root_summary k r.root))) h.free ∙
    ap (λ a. encode k (head_view (first_after head.first v.used) (free_after head.free v.used) (root_summary k a))) h.root
