-- The head of a lawful card.
use Rattle.std.proofs.Common.{◌≡◌, ℕ, ◌≤◌, List, [], ◌∷◌, length, get_or, Some, None, Err, Option, sym, refl, ap, ◌∙◌, subst, arith}
use Rattle.kinds.specs.Kind.{Kind, Sound}
use Rattle.page.specs.declared.fault.PageFault.{PageFault}
use Rattle.page.specs.declared.fault.PageFault.TheVariants as fault
use Rattle.page.specs.Form.{Summary, head_view, encode, times}
use Rattle.page.specs.Fields.{Reads}
use Rattle.page.specs.Checks.{Checked}
use Rattle.page.proofs.Views.{one_view_law, one_same}
use Rattle.tree.specs.Tree.{OptionalTreeOf}
use Rattle.tree.specs.Laid.{Laid, number, root_shape}
use Rattle.tree.specs.Lawful.{Card, page, entry, root_entry, front, Lawful}
use Rattle.tree.specs.Standing.{Standing}
use Rattle.tree.proofs.Standings.{points_are, root_standing, head_reads}

module _ {P : Type 0} (k : Kind P) (s : Sound k) (card : Card) (set : List P) (w : Lawful k card set) where
  head_there : (bs : List ℕ) (v : Option Summary) (f c : ℕ) → Reads k bs (head_view f c v) → 1 ≤ times (get_or bs 0 0) (k.head_kind ∷ [])
  unfolding encode
  head_there bs v f c r = let a = one_same (get_or bs 0 0) k.head_kind (ap (λ x. get_or x 0 0) r.bytes_are) in omega arith

  lawful_bytes : (bs : List ℕ) → bs ≡ page card 0 → Reads k bs (head_view (front w.chain) (length w.chain) (root_entry k w.root))
  lawful_bytes bs e = subst (λ x. Reads k x (head_view (front w.chain) (length w.chain) (root_entry k w.root))) (sym e) (head_reads k s card set w)

  -- the head is read
  pub never_headless : {X : Type 0} (bs : List ℕ) (good : X → Type 0) (f : PageFault) → bs ≡ page card 0 → Checked k {X = X} 0 (k.head_kind ∷ []) bs good (Err f) → ⊥
  never_headless bs good (fault.Store x) e c = c
  never_headless bs good (fault.Kind x) e c = let a = head_there bs _ _ _ (lawful_bytes bs e) in let b = c.1 in omega arith
  never_headless bs good (fault.Field x) e c = c.2 _ (lawful_bytes bs e)

  pub head_is : (bs : List ℕ) (f c : ℕ) (r : Option Summary) → bs ≡ page card 0 → Reads k bs (head_view f c r) → (front w.chain ≡ f) × (length w.chain ≡ c) × (root_entry k w.root ≡ r)
  head_is bs f c r e rd =
      let v = one_view_law P k s bs _ _ (lawful_bytes bs e) rd in
      let a : front w.chain ≡ f = cc in
      let b : length w.chain ≡ c = cc in
      let d : root_entry k w.root ≡ r = cc in
      (a, b, d)

  -- no root entry: no points
  pub no_root : root_entry k w.root ≡ None → (w.root ≡ None) × (set ≡ [])
  no_root e = by w.root refl e
    where
      by : (o : Option (Laid P)) → w.root ≡ o → root_entry k o ≡ None → (w.root ≡ None) × (set ≡ [])
      by None i e = (i, subst (λ r. OptionalTreeOf k set (root_shape r)) i w.is_tree)
      by (Some t) i e = let z : ◌≡◌ {A = ℕ} 0 1 = cc in absurd (omega arith)

  -- a root entry leads to the set's tree
  pub record Rooted (e : Summary) : Type 0 where
    pub tree : Laid P
    pub is_root : w.root ≡ Some tree
    pub stands : Standing k card set tree
    pub entry_is : entry k tree ≡ e
    pub begins : number tree ≡ e.page
    pub counts : length set ≡ e.count

  pub rooted : (e : Summary) → root_entry k w.root ≡ Some e → Rooted e
  rooted e h = by w.root refl h
    where
      by : (o : Option (Laid P)) → w.root ≡ o → root_entry k o ≡ Some e → Rooted e
      by None i h = let z : ◌≡◌ {A = ℕ} 0 1 = cc in absurd (omega arith)
      by (Some t) i h =
          let st = root_standing k s card set w t i in
          let m : entry k t ≡ e = cc in
          record { tree = t; is_root = i; stands = st; entry_is = m; begins = ap (λ x. x.page) m; counts = ap length (sym (points_are k s card set t st)) ∙ ap (λ x. x.count) m }
