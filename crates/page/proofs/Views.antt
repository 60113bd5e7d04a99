-- Bytes say one thing at most.
use Rattle.std.proofs.Common.{◌≡◌, ℕ, ◌-◌, ◌*◌, cond, eqb, List, [], ◌∷◌, ◌++◌, length, replicate, Some, None, Option, sym, refl, ap, ◌∙◌, append_assoc, arith, length-append}
use Rattle.std.proofs.lemmas.Bool.{eq-eqb, cond-true}
use lib.ListN.{length-replicate}
use Rattle.std.specs.List.{flat_map, AllByRecursion}
use Rattle.zorder.specs.Code.{OnAxes}
use Rattle.kinds.specs.Bytes.{bytes, form, size}
use Rattle.kinds.proofs.Byteform.{bytes_split, form_split, form_length}
use Rattle.kinds.specs.Kind.{Kind, Sound}
use Rattle.page.specs.Form.{Point, Summary}
use Rattle.page.specs.Fields.{EntryFields}
use Rattle.page.specs.Form.{View, free_view, data_view, directory_view, head_view, entry_bytes, no_entry, root_bytes, encode}
use Rattle.page.specs.Fields.{Small, RootFields, Fields, OneViewLaw}
use Rattle.page.specs.declared.entry.Entry.{Entry}
use Rattle.page.specs.Checks.{summary, EntryRead, InEntry, EntryIs}

-- a number stands once in a list of itself
pub one_same : (q r : ℕ) → q ≡ r → ◌≡◌ {A = ℕ} (cond (eqb q r) 1 0) 1
one_same q r e = cond-true _ _ _ (eq-eqb q r e)

head_of : {x y : ℕ} {xs ys : List ℕ} → x ∷ xs ≡ y ∷ ys → x ≡ y
head_of e = cc

tail_of : {x y : ℕ} {xs ys : List ℕ} → x ∷ xs ≡ y ∷ ys → xs ≡ ys
tail_of e = cc

pub fronts : (s t u v : List ℕ) → length s ≡ length t → s ++ u ≡ t ++ v → s ≡ t
fronts [] [] u v l e = refl
fronts [] (y ∷ t) u v l e = absurd (omega arith)
fronts (x ∷ s) [] u v l e = absurd (omega arith)
fronts (x ∷ s) (y ∷ t) u v l e =
    let h : x ≡ y = head_of e in
    let r : s ≡ t = fronts s t u v (omega arith) (tail_of e) in cc

module _ {P : Type 0} (k : Kind P) (laws : Sound k) where
  pub entry_length : (e : Summary) → EntryFields k e → length (entry_bytes k e) ≡ length (no_entry k)
  unfolding entry_bytes no_entry
  entry_length e f =
      let a = form_length k.axes e.low f.low_on in
      let b = form_length k.axes e.high f.high_on in
      let c = length-append (form k.axes e.low) (form k.axes e.high) in
      let d : length (replicate {A = ℕ} (2 * size k.axes) 0) ≡ 2 * size k.axes = length-replicate (2 * size k.axes) 0 in
      omega arith

  pub entry_split : (e f : Summary) (u v : List ℕ) → EntryFields k e → EntryFields k f → Small k e → Small k f → entry_bytes k e ++ u ≡ entry_bytes k f ++ v → (e ≡ f) × (u ≡ v)
  unfolding entry_bytes
  entry_split e f u v g h s t i =
      let A = k.axes in
      let regroup = λ (x : Summary) (z : List ℕ). append_assoc (bytes 2 x.page) (bytes 4 x.count ++ (form A x.low ++ form A x.high)) z
      ∙ ap (λ y. bytes 2 x.page ++ y) (append_assoc (bytes 4 x.count) (form A x.low ++ form A x.high) z
      ∙ ap (λ y. bytes 4 x.count ++ y) (append_assoc (form A x.low) (form A x.high) z)) in
      let r1 = bytes_split 2 e.page f.page (bytes 4 e.count ++ (form A e.low ++ (form A e.high ++ u))) (bytes 4 f.count ++ (form A f.low ++ (form A f.high ++ v))) s.page_fits t.page_fits (sym (regroup e u) ∙ i ∙ regroup f v) in
      let r2 = bytes_split 4 e.count f.count (form A e.low ++ (form A e.high ++ u)) (form A f.low ++ (form A f.high ++ v)) s.count_fits t.count_fits r1.1 in
      let r3 = form_split A e.low f.low (form A e.high ++ u) (form A f.high ++ v) laws.wide_bytes g.low_on h.low_on r2.1 in
      let r4 = form_split A e.high f.high u v laws.wide_bytes g.high_on h.high_on r3.1 in
      (entry_same e f r1.0 r2.0 r3.0 r4.0, r4.1)
    where
      entry_same : (e f : Summary) → e.page ≡ f.page → e.count ≡ f.count → e.low ≡ f.low → e.high ≡ f.high → e ≡ f
      entry_same e f a b c d = ap (λ x. record { page = x; count = e.count; low = e.low; high = e.high }) a
          ∙ ap (λ x. record { page = f.page; count = x; low = e.low; high = e.high }) b
          ∙ ap (λ x. record { page = f.page; count = f.count; low = x; high = e.high }) c
          ∙ ap (λ x. record { page = f.page; count = f.count; low = f.low; high = x }) d

  pub points_split : (ps qs : List Point) (u v : List ℕ) → length ps ≡ length qs → AllByRecursion (OnAxes k.axes) ps → AllByRecursion (OnAxes k.axes) qs → flat_map (form k.axes) ps ++ u ≡ flat_map (form k.axes) qs ++ v → ps ≡ qs
  points_split [] [] u v l g h e = refl
  points_split [] (q ∷ qs) u v l g h e = absurd (omega arith)
  points_split (p ∷ ps) [] u v l g h e = absurd (omega arith)
  points_split (p ∷ ps) (q ∷ qs) u v l g h e =
      let F = form k.axes in
      let f = sym (append_assoc (F p) (flat_map F ps) u) ∙ e ∙ append_assoc (F q) (flat_map F qs) v in
      let r = form_split k.axes p q (flat_map F ps ++ u) (flat_map F qs ++ v) laws.wide_bytes g.0 h.0 f in
      let i : p ≡ q = r.0 in
      let j : ps ≡ qs = points_split ps qs u v (omega arith) g.1 h.1 r.1 in cc

  root_split : (r s : Option Summary) (u v : List ℕ) → RootFields k r → RootFields k s → root_bytes k r ++ u ≡ root_bytes k s ++ v → r ≡ s
  root_split None None u v g h e = refl
  root_split None (Some f) u v g h e = absurd (h.2 (sym (fronts (no_entry k) (entry_bytes k f) u v (sym (entry_length f h.0)) e)))
  root_split (Some f) None u v g h e = absurd (g.2 (fronts (entry_bytes k f) (no_entry k) u v (entry_length f g.0) e))
  root_split (Some e) (Some f) u v g h i = ap Some (entry_split e f u v g.0 h.0 g.1 h.1 i).0

  pub one_view : (v w : View) → Fields k v → Fields k w → encode k v ≡ encode k w → v ≡ w
  unfolding encode
  one_view (free_view n) (free_view m) g h e = ap free_view (bytes_split 2 n m _ _ g h (tail_of e)).0
  one_view (free_view n) (data_view qs) g h e = let a = laws.page_kinds.0.0 in let b = head_of e in absurd (omega arith)
  one_view (free_view n) (directory_view m l' h') g h e = let a = laws.page_kinds.1.0 in let b = head_of e in absurd (omega arith)
  one_view (free_view n) (head_view f c r) g h e = let a = laws.page_kinds.2.0 in let b = head_of e in absurd (omega arith)
  one_view (data_view ps) (free_view m) g h e = let a = laws.page_kinds.0.0 in let b = head_of e in absurd (omega arith)
  one_view (data_view ps) (data_view qs) g h e = ap data_view (points_split ps qs _ _ (head_of (tail_of e)) g.on_axes h.on_axes (tail_of (tail_of e)))
  one_view (data_view ps) (directory_view m l' h') g h e = absurd (laws.different.0 (head_of e))
  one_view (data_view ps) (head_view f c r) g h e = absurd (laws.different.1 (head_of e))
  one_view (directory_view n l hi) (free_view m) g h e = let a = laws.page_kinds.1.0 in let b = head_of e in absurd (omega arith)
  one_view (directory_view n l hi) (data_view qs) g h e = absurd (laws.different.0 (sym (head_of e)))
  one_view (directory_view n l hi) (directory_view m l' h') g h e =
      let pad = replicate (64 - length (k.directory_kind ∷ (n ∷ (entry_bytes k l ++ entry_bytes k hi)))) 0 in
      let pad' = replicate (64 - length (k.directory_kind ∷ (m ∷ (entry_bytes k l' ++ entry_bytes k h')))) 0 in
      let f : (entry_bytes k l ++ entry_bytes k hi) ++ pad ≡ (entry_bytes k l' ++ entry_bytes k h') ++ pad' = tail_of (tail_of e) in
      let r = entry_split l l' (entry_bytes k hi ++ pad) (entry_bytes k h' ++ pad') g.0.low_entry h.0.low_entry g.1 h.1 (sym (append_assoc (entry_bytes k l) (entry_bytes k hi) pad) ∙ f ∙ append_assoc (entry_bytes k l') (entry_bytes k h') pad') in
      let s = entry_split hi h' pad pad' g.0.high_entry h.0.high_entry g.2 h.2 r.1 in
      let i : n ≡ m = head_of (tail_of e) in
      let a : l ≡ l' = r.0 in
      let b : hi ≡ h' = s.0 in cc
  one_view (directory_view n l hi) (head_view f c r) g h e = absurd (laws.different.2 (head_of e))
  one_view (head_view f c r) (free_view m) g h e = let a = laws.page_kinds.2.0 in let b = head_of e in absurd (omega arith)
  one_view (head_view f c r) (data_view qs) g h e = absurd (laws.different.1 (sym (head_of e)))
  one_view (head_view f c r) (directory_view m l' h') g h e = absurd (laws.different.2 (sym (head_of e)))
  one_view (head_view f c r) (head_view f' c' r') g h e =
      let B = λ (x y : ℕ) (z : Option Summary). bytes 2 x ++ (bytes 2 y ++ root_bytes k z) in
      let pad = replicate (64 - length (k.head_kind ∷ B f c r)) 0 in
      let pad' = replicate (64 - length (k.head_kind ∷ B f' c' r')) 0 in
      let regroup = λ (x y : ℕ) (z : Option Summary) (p : List ℕ). append_assoc (bytes 2 x) (bytes 2 y ++ root_bytes k z) p ∙ ap (λ w. bytes 2 x ++ w) (append_assoc (bytes 2 y) (root_bytes k z) p) in
      let r1 = bytes_split 2 f f' (bytes 2 c ++ (root_bytes k r ++ pad)) (bytes 2 c' ++ (root_bytes k r' ++ pad')) g.0 h.0 (sym (regroup f c r pad) ∙ tail_of e ∙ regroup f' c' r' pad') in
      let r2 = bytes_split 2 c c' (root_bytes k r ++ pad) (root_bytes k r' ++ pad') g.1 h.1 r1.1 in
      let i : f ≡ f' = r1.0 in
      let j : c ≡ c' = r2.0 in
      let l : r ≡ r' = root_split r r' pad pad' g.2 h.2 r2.1 in cc

pub one_view_law : (P : Type 0) → OneViewLaw P
one_view_law P k laws bs v w r s = one_view k laws v w r.fields s.fields (sym r.bytes_are ∙ s.bytes_are)

-- what was read of an entry is the entry that stands there
pub entry_agrees : {P : Type 0} (k : Kind P) → Sound k → (bs : List ℕ) (r : Option (Entry P)) → EntryRead k bs r → InEntry k bs (λ e. EntryIs k e r)
entry_agrees k laws bs (Some x) s e t = (entry_split k laws (summary k x) e [] [] s.0 t.0 s.1 t.1 (ap (λ z. z ++ []) (s.2 ∙ sym t.2))).0
entry_agrees k laws bs None s e t = s.0 e t
