-- The pages of a tree that stands on a card, as they are read.
use Rattle.std.proofs.Common.{◌≡◌, ℕ, ◌≤◌, List, [], ◌∷◌, get_or, Some, Err, ap, arith}
use Rattle.kinds.specs.Kind.{Kind, Sound}
use Rattle.page.specs.declared.directory_page.Fork.{Fork}
use Rattle.page.specs.declared.fault.PageFault.{PageFault}
use Rattle.page.specs.declared.fault.PageFault.TheVariants as fault
use Rattle.page.specs.Form.{encode, times}
use Rattle.page.specs.Fields.{Reads}
use Rattle.page.specs.Checks.{Checked, IsData, DirectoryRead, summary}
use Rattle.page.proofs.Views.{one_view_law, one_same}
use Rattle.tree.specs.Laid.{Laid, data_at, directory_at}
use Rattle.tree.specs.Lawful.{entry}
use Rattle.tree.specs.Standing.{view_of}

module _ {P : Type 0} (k : Kind P) (s : Sound k) where
  tree_kind : (t : Laid P) (bs : List ℕ) → Reads k bs (view_of k t) → 1 ≤ times (get_or bs 0 0) (k.data_kind ∷ (k.directory_kind ∷ []))
  unfolding encode
  tree_kind (data_at q xs) bs r = let a = one_same (get_or bs 0 0) k.data_kind (ap (λ x. get_or x 0 0) r.bytes_are) in omega arith
  tree_kind (directory_at q n l h) bs r = let a = one_same (get_or bs 0 0) k.directory_kind (ap (λ x. get_or x 0 0) r.bytes_are) in omega arith

  pub never_fault : {X : Type 0} (t : Laid P) (bs : List ℕ) (q : ℕ) (good : X → Type 0) (f : PageFault) → Reads k bs (view_of k t) → Checked k {X = X} q (k.data_kind ∷ (k.directory_kind ∷ [])) bs good (Err f) → ⊥
  never_fault t bs q good (fault.Store e) r c = c
  never_fault t bs q good (fault.Kind e) r c = let a = tree_kind t bs r in let b = c.1 in omega arith
  never_fault t bs q good (fault.Field e) r c = c.2 (view_of k t) r

  -- a directory page that was read as a fork is that of the laid tree
  pub record SameFork (x : Fork P) (n : ℕ) (l h : Laid P) : Type 0 where
    pub depth : x.depth ≡ n
    pub low : summary k x.low ≡ entry k l
    pub high : summary k x.high ≡ entry k h

  pub fork_is : (x : Fork P) (bs : List ℕ) (q n : ℕ) (l h : Laid P) → DirectoryRead k bs (Some x) → Reads k bs (view_of k (directory_at q n l h)) → SameFork x n l h
  fork_is x bs q n l h d r =
      let v = one_view_law P k s bs _ _ d r in
      let a : x.depth ≡ n = cc in
      let b : summary k x.low ≡ entry k l = cc in
      let c : summary k x.high ≡ entry k h = cc in
      record { depth = a; low = b; high = c }

  -- a data page is not read as a directory page, nor a directory page as a data page
  pub no_fork : {X : Type 0} (x : Fork P) (bs : List ℕ) (q : ℕ) (xs : List P) → DirectoryRead k bs (Some x) → Reads k bs (view_of k (data_at q xs)) → X
  no_fork x bs q xs d r =
      let v = one_view_law P k s bs _ _ d r in
      let z : ◌≡◌ {A = ℕ} 0 1 = cc in absurd (omega arith)

  pub no_data : {X : Type 0} (bs : List ℕ) (q n : ℕ) (l h : Laid P) → IsData k bs → Reads k bs (view_of k (directory_at q n l h)) → X
  no_data bs q n l h d r =
      let v = one_view_law P k s bs _ _ d.1 r in
      let z : ◌≡◌ {A = ℕ} 0 1 = cc in absurd (omega arith)
