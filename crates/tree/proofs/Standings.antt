-- What stands on a lawful card, page by page.
use Rattle.std.proofs.Common.{◌≡◌, ℕ, suc, ◌+◌, ◌*◌, ◌^◌, ◌<◌, ◌≤◌, ◌≢◌, ◌⊎◌, List, [], ◌∷◌, ◌++◌, map, length, Some, None, Option, sym, refl, ap, ◌∙◌, subst, inl, inr, ⊎_elim, mul-le-mul_right, mul-add, arith, length-append}
use Rattle.std.specs.List.{AllByRecursion}
use Rattle.std.proofs.lemmas.List.{get_or_past}
use Rattle.std.proofs.ByRecursion.{All-weaker, All-map}
use Rattle.zorder.specs.Code.{OnAxes, code, first}
use Rattle.zorder.specs.Sharing.{Under}
use Rattle.zorder.specs.Halves.{half}
use Rattle.std.specs.Int.{int_min}
use Rattle.std.proofs.lemmas.Bool.{cases_lt}
use Rattle.zorder.proofs.Corners.{window_law, under_then, corner_agrees, min_one}
use Rattle.kinds.specs.Kind.{Kind, Sound, On, wide, code_of, low_corner, high_corner}
use Rattle.kinds.proofs.Byteform.{bytes_split}
use Rattle.page.specs.Form.{Summary, View, head_view, entry_bytes, no_entry, encode}
use Rattle.page.specs.Fields.{EntryFields, Small, RootFields, Fields, Reads}
use Rattle.page.proofs.Writing.{length_coords}
use Rattle.tree.specs.Sets.{IsSet}
use Rattle.tree.specs.Tree.{Tree, leaf, node, data_pages, directory_pages, Depth, one_page, halves, TreeOf, OptionalTreeOf}
use Rattle.tree.specs.Laid.{Laid, data_at, directory_at, number, numbers, shape, below_it, root_shape, root_numbers}
use Rattle.tree.specs.Lawful.{Card, page, entry, parts, root_parts, Holds, Shows, root_entry, front, Lawful}
use Rattle.tree.specs.Standing.{view_of, Standing}
use Rattle.tree.proofs.Halves.{half_all, half_rising, Parted, depth_parted, parted_count}
use Rattle.tree.proofs.Trees.{halved_some, halved_points}
use Rattle.tree.proofs.Counts.{inside, pages_count}

pub all_front : {X : Type 0} (A : X → Type 0) (xs ys : List X) → AllByRecursion A (xs ++ ys) → AllByRecursion A xs
all_front A [] ys h = tt
all_front A (x ∷ xs) ys h = (h.0, all_front A xs ys h.1)

pub all_back : {X : Type 0} (A : X → Type 0) (xs ys : List X) → AllByRecursion A (xs ++ ys) → AllByRecursion A ys
all_back A [] ys h = h
all_back A (x ∷ xs) ys h = all_back A xs ys h.1

pub laid_pages : {P : Type 0} (t : Laid P) → data_pages (shape t) + directory_pages (shape t) ≡ length (numbers t)
laid_pages (data_at q ps) = refl
laid_pages (directory_at q n l h) = let a = laid_pages l in let b = laid_pages h in let c = length-append (numbers l) (numbers h) in omega arith

module _ {P : Type 0} (k : Kind P) where
  pub leaf_inv : {ps qs : List P} → TreeOf k ps (leaf qs) → (ps ≡ qs) × (1 ≤ length qs) × (length qs ≤ k.capacity)
  leaf_inv (one_page a b) = (refl, a, b)

  pub node_inv : {ps : List P} {n : ℕ} {l h : Tree P} → TreeOf k ps (node n l h)
      → (k.capacity < length ps) × Depth (code_of k) (wide k) n ps × TreeOf k (half (code_of k) (wide k) n 0 ps) l × TreeOf k (half (code_of k) (wide k) n 1 ps) h
  node_inv (halves m d l h) = (m, d, l, h)

  -- the first page of a laid tree
  pub face_of : (card : Card) (t : Laid P) → Shows k card t → page card (number t) ≡ encode k (view_of k t)
  face_of card (data_at q ps) s = s.0
  face_of card (directory_at q n l h) s = s.0

  -- an entry with a point is not all zero bytes
  not_none : (e : Summary) → Small k e → 1 ≤ e.count → entry_bytes k e ≢ no_entry k
  unfolding entry_bytes no_entry
  not_none e f some same =
      let a = bytes_split 2 e.page 0 _ _ f.page_fits (omega arith) same in
      let b = bytes_split 4 e.count 0 _ _ f.count_fits (omega arith) a.1 in
      let c = b.0 in omega arith

  module _ (laws : Sound k) where
    pub set_half : (n c : ℕ) (ps : List P) → IsSet k ps → IsSet k (half (code_of k) (wide k) n c ps)
    set_half n c ps s = record { rising = half_rising (code_of k) (wide k) n c ps s.rising; on = half_all (code_of k) (wide k) (On k) n c ps s.on }

    pub parted : (n : ℕ) (ps : List P) → IsSet k ps → k.capacity < length ps → Depth (code_of k) (wide k) n ps → Parted (code_of k) (wide k) n ps
    parted n ps s m d = let r = laws.room in depth_parted (code_of k) (wide k) n ps (omega arith) s.rising d

    -- ---- corners of a set that is not empty
    pub corners_on : (ps : List P) → 1 ≤ length ps → AllByRecursion (On k) ps → OnAxes k.axes (low_corner k ps) × OnAxes k.axes (high_corner k ps) × Under (low_corner k ps) (high_corner k ps)
    corners_on [] s on = absurd (omega arith)
    corners_on (p ∷ ps) s on =
        let A = k.axes in
        let all = All-map (OnAxes A) k.coords (p ∷ ps) on in
        let w = window_law A (k.coords p) (map k.coords ps) all in
        let i = w.1.0 in
        (w.0.0, w.0.1, under_then (low_corner k (p ∷ ps)) (k.coords p) (high_corner k (p ∷ ps)) i.0 i.1)

    pub entry_fields : (t : Laid P) (ps : List P) → below_it t ≡ ps → 1 ≤ length ps → AllByRecursion (On k) ps → EntryFields k (entry k t)
    entry_fields t ps e s on =
        let c = corners_on (below_it t) (subst (λ x. 1 ≤ length x) (sym e) s) (subst (AllByRecursion (On k)) (sym e) on) in
        record { low_on = c.0; high_on = c.1; uncrossed = c.2 }

    first_within : (A : ℕ → Type 0) (t : Laid P) → AllByRecursion A (numbers t) → A (number t)
    first_within A (data_at q ps) a = a.0
    first_within A (directory_at q n l h) a = a.0

    pub small_entry : (t : Laid P) (ps : List P) → below_it t ≡ ps → length ps < 2 ^ 32 → AllByRecursion (λ q. q < 65536) (numbers t) → Small k (entry k t)
    small_entry t ps e few w = record { page_fits = first_within (λ q. q < 65536) t w; count_fits = subst (λ x. length x < 2 ^ 32) (sym e) few }

    module _ (card : Card) where
      pub points_are : (ps : List P) (t : Laid P) → Standing k card ps t → below_it t ≡ ps
      points_are ps t s = halved_points (code_of k) (wide k) k.capacity laws.room ps (shape t) s.halved s.is_set.rising

      pub some_points : (ps : List P) (t : Laid P) → Standing k card ps t → 1 ≤ length ps
      some_points ps t s = halved_some (code_of k) (wide k) k.capacity s.halved

      -- ---- the halves of what stands
      half_few : (n c : ℕ) (ps : List P) → Parted (code_of k) (wide k) n ps → IsSet k ps → (c ≡ 0) ⊎ (c ≡ 1) → length (half (code_of k) (wide k) n c ps) ≤ length ps
      half_few n c ps d s (inl e) = let a = parted_count (code_of k) (wide k) n ps s.rising d in subst (λ x. length (half (code_of k) (wide k) n x ps) ≤ length ps) (sym e) (omega arith)
      half_few n c ps d s (inr e) = let a = parted_count (code_of k) (wide k) n ps s.rising d in subst (λ x. length (half (code_of k) (wide k) n x ps) ≤ length ps) (sym e) (omega arith)

      pub standing_low : (ps : List P) (q n : ℕ) (l h : Laid P) → Standing k card ps (directory_at q n l h) → Standing k card (half (code_of k) (wide k) n 0 ps) l
      standing_low ps q n l h s =
          let i = node_inv s.halved in
          let a = half_few n 0 ps (parted n ps s.is_set i.0 i.1) s.is_set (inl refl) in
          let f = s.few in
          record {
            shows = all_front _ (parts k l) (parts k h) s.shows.1;
            is_set = set_half n 0 ps s.is_set;
            halved = i.2;
            few = omega arith;
            within = all_front _ (numbers l) (numbers h) s.within.1;
          }

      pub standing_high : (ps : List P) (q n : ℕ) (l h : Laid P) → Standing k card ps (directory_at q n l h) → Standing k card (half (code_of k) (wide k) n 1 ps) h
      standing_high ps q n l h s =
          let i = node_inv s.halved in
          let a = half_few n 1 ps (parted n ps s.is_set i.0 i.1) s.is_set (inr refl) in
          let f = s.few in
          record {
            shows = all_back _ (parts k l) (parts k h) s.shows.1;
            is_set = set_half n 1 ps s.is_set;
            halved = i.3;
            few = omega arith;
            within = all_back _ (numbers l) (numbers h) s.within.1;
          }

      -- ---- the bytes of a page that stands are those of what it says, every field of which is in its range
      pub standing_fields : (ps : List P) (t : Laid P) → Standing k card ps t → Fields k (view_of k t)
      standing_fields ps (data_at q qs) s =
          let i = leaf_inv s.halved in
          let on = subst (AllByRecursion (On k)) i.0 s.is_set.on in
          let l = length_coords k qs in
          let a = i.1 in let b = i.2 in
          record { some = omega arith; fit = omega arith; on_axes = All-map (OnAxes k.axes) k.coords qs on }
      standing_fields ps (directory_at q n l h) s =
          let i = node_inv s.halved in
          let d = parted n ps s.is_set i.0 i.1 in
          let sl = standing_low ps q n l h s in
          let sh = standing_high ps q n l h s in
          let el = points_are _ l sl in
          let eh = points_are _ h sh in (
            record { shallow = d.short; low_entry = entry_fields l _ el d.low sl.is_set.on; high_entry = entry_fields h _ eh d.high sh.is_set.on },
            small_entry l _ el sl.few sl.within,
            small_entry h _ eh sh.few sh.within,
          )

      pub standing_reads : (ps : List P) (t : Laid P) → Standing k card ps t → Reads k (page card (number t)) (view_of k t)
      standing_reads ps t s = record { fields = standing_fields ps t s; bytes_are = face_of card t s.shows }

      -- a page that is shown is a page of the card
      pub shown_there : (q : ℕ) (v : View) → page card q ≡ encode k v → q < length card
      unfolding encode
      shown_there q v e = ⊎_elim (λ h. h) (λ h. let a = get_or_past card q [] h in let z : ◌≡◌ {A = ℕ} 0 1 = cc in absurd (omega arith)) (cases_lt q (length card))

      pub standing_there : (ps : List P) (t : Laid P) → Standing k card ps t → number t < length card
      standing_there ps t s = shown_there (number t) (view_of k t) (face_of card t s.shows)

    -- the low corner of points that share their first bits shares them too
    pub corner_front : (n v : ℕ) (ps : List P) → n ≤ wide k → 1 ≤ length ps → AllByRecursion (On k) ps → AllByRecursion (λ q. first (wide k) n (code_of k q) ≡ v) ps → first (wide k) n (code k.axes (low_corner k ps)) ≡ v
    corner_front n v [] le some on h = absurd (omega arith)
    corner_front n v (p ∷ ps) le some on h =
        let A = k.axes in
        let all = All-map (OnAxes A) k.coords (p ∷ ps) on in
        let to_p = All-map (λ z. first (wide k) n (code A (k.coords p)) ≡ first (wide k) n (code A z)) k.coords ps (All-weaker _ _ (λ q e. h.0 ∙ sym e) ps h.1) in
        sym (corner_agrees int_min min_one A laws.narrow (k.coords p) (map k.coords ps) all n le to_p) ∙ h.0

    -- ---- a tree has at most b points to a data page
    pub few_points : (ps : List P) (t : Tree P) → TreeOf k ps t → IsSet k ps → length ps ≤ k.capacity * data_pages t
    few_points ps (leaf qs) hv s = let i = leaf_inv hv in let a = i.2 in let b = ap length i.0 in omega arith
    few_points ps (node n l h) hv s =
        let i = node_inv hv in
        let d = parted n ps s i.0 i.1 in
        let a = few_points (half (code_of k) (wide k) n 0 ps) l i.2 (set_half n 0 ps s) in
        let b = few_points (half (code_of k) (wide k) n 1 ps) h i.3 (set_half n 1 ps s) in
        let c = parted_count (code_of k) (wide k) n ps s.rising d in
        let e = mul-add k.capacity (data_pages l) (data_pages h) in
        omega arith

    -- ---- a lawful card
    module _ (card : Card) (set : List P) (w : Lawful k card set) where
      pub all_within : AllByRecursion (λ q. q < length card) (root_numbers w.root ++ w.chain)
      all_within = inside (length card) (root_numbers w.root ++ w.chain) w.each_once (root_numbers w.root ++ w.chain) (λ q. omega arith)

      pub whole : suc (length (root_numbers w.root ++ w.chain)) ≡ length card
      whole = let s = w.size.0 in pages_count (length card) (root_numbers w.root ++ w.chain) w.each_once (omega arith)

      tree_few : (root : Option (Laid P)) → OptionalTreeOf k set (root_shape root) → length (root_numbers root) < 65536 → length set < 2 ^ 32
      tree_few None e l = let n = ap length e in omega arith
      tree_few (Some t) hv l =
          let a = few_points set (shape t) hv w.is_set in
          let b = laid_pages t in
          let c : k.capacity * data_pages (shape t) ≤ 15 * data_pages (shape t) = mul-le-mul_right (data_pages (shape t)) laws.small in
          omega arith

      pub root_few : length set < 2 ^ 32
      root_few =
          let a = length-append (root_numbers w.root) w.chain in
          let b = whole in
          let c = w.size.1 in
          tree_few w.root w.is_tree (omega arith)

      -- the root stands on the card
      pub root_standing : (t : Laid P) → w.root ≡ Some t → Standing k card set t
      root_standing t e =
          let n = w.size.1 in
          record {
            shows = subst (λ r. Holds k card (root_parts k r)) e w.shows;
            is_set = w.is_set;
            halved = subst (λ r. OptionalTreeOf k set (root_shape r)) e w.is_tree;
            few = root_few;
            within = All-weaker _ _ (λ q lt. omega arith) (numbers t) (subst (λ r. AllByRecursion (λ q. q < length card) (root_numbers r)) e (all_front _ (root_numbers w.root) w.chain all_within));
          }

      front_fits : (qs : List ℕ) → AllByRecursion (λ q. q < length card) qs → front qs < 65536
      front_fits [] h = omega arith
      front_fits (q ∷ qs) h = let a = h.0 in let b = w.size.1 in omega arith

      pub root_fields : (root : Option (Laid P)) → w.root ≡ root → RootFields k (root_entry k root)
      root_fields None e = tt
      root_fields (Some t) e =
          let s = root_standing t e in
          let p = points_are card set t s in
          let n = some_points card set t s in
          (entry_fields t set p n w.is_set.on, small_entry t set p s.few s.within, not_none (entry k t) (small_entry t set p s.few s.within) (subst (λ x. 1 ≤ length x) (sym p) n))

      -- the head says where the free chain begins, how long it is, and the root entry
      pub head_reads : Reads k (page card 0) (head_view (front w.chain) (length w.chain) (root_entry k w.root))
      head_reads =
          let a = length-append (root_numbers w.root) w.chain in
          let b = whole in
          let c = w.size.1 in
          record {
            fields = (front_fits w.chain (all_back _ (root_numbers w.root) w.chain all_within), omega arith, root_fields w.root refl);
            bytes_are = w.head;
          }
