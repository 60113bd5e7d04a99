-- Each cause makes the bytes senseless.
use Rattle.std.proofs.Common.{rules, ◌≡◌, ℕ, zero, suc, ◌+◌, ◌-◌, ◌*◌, ◌<◌, ◌≤◌, Bool, true, false, ◌≢◌, List, [], ◌∷◌, length, get_or, take, drop, replicate, Some, None, MatchBool, Option, Err, Result, sym, refl, ap, ◌∙◌, subst, arith, length-drop, get_or-drop}
use Rattle.std.specs.List.{flat_map, AllByRecursion}
use Rattle.std.proofs.ByRecursion.{All-get_or}
use Rattle.zorder.specs.Code.{OnAxes}
use Rattle.zorder.specs.Sharing.{Under}
use Rattle.kinds.specs.Bytes.{form, size}
use Rattle.kinds.specs.Kind.{Kind, Sound, entry_length}
use Rattle.std.specs.Option.{ok_or}
use Rattle.page.specs.Form.{Point, Summary, root_bytes, times}
use Rattle.page.specs.declared.fault.PageFault.{PageFault}
use Rattle.page.specs.declared.fault.PageFault.TheVariants as fault
use Rattle.page.specs.Fields.{RootFields}
use Rattle.page.specs.Causes.{NotZero, AllZero, EntryCause, DataCause, DirectoryCause, HeadCause, Cause, low_off, high_off, crossed, no_points, too_many, point_off, data_not_zero, too_deep, low_wrong, high_wrong, directory_not_zero, root_wrong, head_not_zero, free_cause, data_cause, directory_cause, head_cause, root_entry_bytes}
use Rattle.page.specs.Checks.{Senseless, DataRead, Checked}
use Rattle.page.specs.Laws.{CausesLaw, EntryCausesLaw}
use Rattle.page.proofs.Parts.{parts, same_corner}
use Rattle.page.proofs.Runs.{zero_at, drop_plus, data_only, count_is, point_part, tail_part, data_reads, tail_cut, tail_length}
use Rattle.page.proofs.Pairs.{cut_tail, directory_only, depth_is, low_is, high_is, tail_is}
use Rattle.page.proofs.Ends.{cut_rest, free_tail, head_only, root_is, rest_is, none_root}

-- bytes that are not all zero have one that is not
one_not_zero : (xs : List ℕ) → (AllZero xs → ⊥) → (i : ℕ) × (i < length xs) × (get_or xs i 0 ≢ 0)
one_not_zero [] h = absurd (h refl)
one_not_zero (zero ∷ xs) h = let r = one_not_zero xs (λ e. h (ap (λ ys. 0 ∷ ys) e)) in let l = r.1 in (suc r.0, omega arith, r.2)
one_not_zero (suc x ∷ xs) h = (0, omega arith, λ e. omega arith)

-- the bytes from a place on, as the code cuts them
pub not_zero_from : (n a b : ℕ) (bs : List ℕ) → length bs ≡ n → (AllZero (take (n - a) (drop a bs)) → ⊥) → a ≡ b → NotZero b bs
not_zero_from n a b bs whole h same =
    let c = cut_rest bs n a whole in
    let (i, lt, ne) = one_not_zero (drop a bs) (λ e. h (c ∙ e ∙ ap (λ x. replicate (length x) 0) (sym c))) in
    let l = length-drop a bs in
    record { place = a + i; after = omega arith; within = omega arith; unlike = λ e. ne (get_or-drop a bs i 0 ∙ e) }

-- bytes that are zero from a place on have none that is not
zero_from : (a m : ℕ) (bs : List ℕ) → drop a bs ≡ replicate m 0 → NotZero a bs → ⊥
zero_from a m bs e w =
    let i = w.place - a in
    let s : a + i ≡ w.place = let h = w.after in omega arith in
    w.unlike (ap (λ n. get_or bs n 0) (sym s) ∙ sym (get_or-drop a bs i 0) ∙ ap (λ x. get_or x i 0) e ∙ zero_at m i)

-- a wrong entry is no entry
pub entry_wrong : {P : Type 0} (k : Kind P) → Sound k → EntryCausesLaw k
entry_wrong k laws bs (low_off off) e s = off e.low s.0.low_on (parts k bs e s.0 s.2).0
entry_wrong k laws bs (high_off off) e s = off e.high s.0.high_on (parts k bs e s.0 s.2).1
entry_wrong k laws bs (crossed l h lo ho le he over) e s =
    let q = parts k bs e s.0 s.2 in
    let x = same_corner k bs laws e.low l _ s.0.low_on lo q.0 le in
    let y = same_corner k bs laws e.high h _ s.0.high_on ho q.1 he in
    over (subst (λ z. Under l z) y (subst (λ z. Under z e.high) x s.0.uncrossed))

module _ {P : Type 0} (k : Kind P) (laws : Sound k) (bs : List ℕ) where
  data_wrong : get_or bs 0 0 ≡ k.data_kind → DataCause k bs → Senseless k bs
  data_wrong kind (no_points z) v r = let o = data_only k bs laws kind v r in let q = count_is k bs o.0 o.1 in let f = o.1.fields.some in omega arith
  data_wrong kind (too_many m) v r = let o = data_only k bs laws kind v r in let q = count_is k bs o.0 o.1 in let f = o.1.fields.fit in omega arith
  data_wrong kind (point_off i l off) v r =
      let o = data_only k bs laws kind v r in
      let q = count_is k bs o.0 o.1 in
      let lt : i < length o.0 = omega arith in
      off (get_or o.0 i []) (All-get_or (OnAxes k.axes) o.0 i [] lt o.1.fields.on_axes) (point_part k bs o.0 i o.1 lt)
  data_wrong kind (data_not_zero w) v r =
      let o = data_only k bs laws kind v r in
      let n = get_or bs 1 0 in
      let t = tail_part k bs o.0 o.1 n (count_is k bs o.0 o.1) in
      zero_from (2 + n * size k.axes) t.0 bs (drop_plus 2 (n * size k.axes) bs ∙ t.1) w

  directory_wrong : get_or bs 0 0 ≡ k.directory_kind → DirectoryCause k bs → Senseless k bs
  directory_wrong kind (too_deep m) v r = let d = directory_only k bs laws kind v r in let n = depth_is k bs d in let f = d.reads.fields.0.shallow in omega arith
  directory_wrong kind (low_wrong w) v r =
      let d = directory_only k bs laws kind v r in
      let f = d.reads.fields in
      entry_wrong k laws _ w d.low_entry (f.0.low_entry, f.1, low_is k bs (entry_length k) refl d)
  directory_wrong kind (high_wrong w) v r =
      let d = directory_only k bs laws kind v r in
      let f = d.reads.fields in
      entry_wrong k laws _ w d.high_entry (f.0.high_entry, f.2, high_is k bs (entry_length k) refl d)
  directory_wrong kind (directory_not_zero w) v r =
      let t = tail_is k bs (entry_length k) refl (directory_only k bs laws kind v r) in
      zero_from (2 + 2 * entry_length k) t.0 bs (sym (cut_rest bs _ (2 + 2 * entry_length k) refl) ∙ cut_tail bs _ (entry_length k) refl ∙ t.1) w

  -- a root that is neither all zero nor an entry
  root_none : (o : Option Summary) → RootFields k o → root_bytes k o ≡ root_entry_bytes k bs → (AllZero (root_entry_bytes k bs) → ⊥) → EntryCause k (root_entry_bytes k bs) → ⊥
  root_none None f e some w = some (none_root k bs (entry_length k) e)
  root_none (Some x) f e some w = entry_wrong k laws _ w x (f.0, f.1, e)

  head_wrong : get_or bs 0 0 ≡ k.head_kind → HeadCause k bs → Senseless k bs
  head_wrong kind (root_wrong some w) v r = let d = head_only k bs laws kind v r in root_none d.root d.reads.fields.2 (root_is k bs (entry_length k) refl d) some w
  head_wrong kind (head_not_zero w) v r =
      let t = rest_is k bs (entry_length k) refl (head_only k bs laws kind v r) in
      zero_from (5 + entry_length k) t.0 bs (drop_plus 5 (entry_length k) bs ∙ t.1) w

  wrong : Cause k bs → Senseless k bs
  wrong (free_cause kind w) v r = zero_from 3 61 bs (free_tail k bs laws kind v r) w
  wrong (data_cause kind w) v r = data_wrong kind w v r
  wrong (directory_cause kind w) v r = directory_wrong kind w v r
  wrong (head_cause kind w) v r = head_wrong kind w v r

  -- what a refusal of the page owes
  pub refused : Cause k bs → Senseless k bs × Cause k bs
  refused w = (wrong w, w)

pub causes_law : {P : Type 0} (k : Kind P) → Sound k → CausesLaw k
causes_law k laws bs w = (refused k laws bs w).0

-- the end of a data page: the bytes after its points are all zero, or one of them is not
pub data_end : {P : Type 0} (k : Kind P) → Sound k → (bs : List ℕ) (ps : List Point) (r : ℕ) (t : Bool) → length bs ≡ 64 → get_or bs 0 0 ≡ k.data_kind → length ps ≡ get_or bs 1 0 → 1 ≤ get_or bs 1 0 → get_or bs 1 0 ≤ k.capacity → AllByRecursion (OnAxes k.axes) ps
    → flat_map (form k.axes) ps ≡ take (get_or bs 1 0 * size k.axes) (drop 2 bs) → r ≡ size k.axes
    → MatchBool t (AllZero (take (64 - (2 + get_or bs 1 0 * r)) (drop (2 + get_or bs 1 0 * r) bs))) (AllZero (take (64 - (2 + get_or bs 1 0 * r)) (drop (2 + get_or bs 1 0 * r) bs)) → ⊥) → DataRead k bs t
data_end k laws bs ps r true whole kind l one fit on j e z =
    let s = size k.axes in
    let n = get_or bs 1 0 in
    let tc = tail_cut bs n r s whole e in
    let tl = tail_length bs n s in
    (ps, data_reads k bs ps n whole kind refl l one fit on j (length (drop (n * s) (drop 2 bs))) (sym tc ∙ z ∙ ap (λ x. replicate (length x) 0) tc) (omega arith))
data_end k laws bs ps r false whole kind l one fit on j e z =
    refused k laws bs (data_cause kind (data_not_zero (not_zero_from 64 (2 + get_or bs 1 0 * r) _ bs whole z (ap (λ x. 2 + get_or bs 1 0 * x) e))))

-- what was read of a page whose kind is right, or the fault of a wrong field
pub field_or : {P X : Type 0} (k : Kind P) (page kind : ℕ) (bs : List ℕ) (R : Option X → Type 0) → get_or bs 0 0 ≡ kind → (R None → Senseless k bs × Cause k bs)
    → (o : Option X) → R o → Checked k page (kind ∷ []) bs (λ x. R (Some x)) (ok_or o (fault.Field page))
field_or k page kind bs R is none None r = let w = none r in (refl, search rules, w.0, w.1)
field_or k page kind bs R is none (Some x) r = (search rules, r)

-- where nothing was read, the fault of a wrong field is passed on
pub field_none : {P X Y : Type 0} (k : Kind P) (page : ℕ) (kinds bs : List ℕ) (Good : Y → Type 0) → 1 ≤ times (get_or bs 0 0) kinds → Senseless k bs × Cause k bs
    → (o : Option X) → o ≡ None → (e : PageFault) → ◌≡◌ {A = Result X PageFault} (Err e) (ok_or o (fault.Field page)) → (r : Result Y PageFault) → r ≡ Err e → Checked k page kinds bs Good r
field_none k page kinds bs Good l w o n e was r is =
    let v : ◌≡◌ {A = Result _ PageFault} (Err e) (Err (fault.Field page)) = was ∙ ap (λ z. ok_or z (fault.Field page)) n in
    let same : e ≡ fault.Field page = cc in
    subst (Checked k page kinds bs Good) (sym (is ∙ ap Err same)) (refl, l, w.0, w.1)
