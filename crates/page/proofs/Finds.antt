-- Looking for a point among points whose codes strictly rise.
use Rattle.std.proofs.Common.{◌≡◌, ℕ, zero, suc, ◌+◌, ◌<◌, ◌≤◌, eqb, ◌≢◌, ◌⊎◌, List, [], ◌∷◌, length, get_or, take, sym, ◌∙◌, subst, inl, inr, arith}
use Rattle.std.specs.List.{ContainsAt as Has, AllByRecursion}
use Rattle.std.proofs.lemmas.List.{take_all, take_more}
use Rattle.std.proofs.ByRecursion.{All-append, All-weaker, all-has, has_get_or}
use Rattle.std.proofs.lemmas.Bool.{cases_eq, eq-eqb, ne_eqb}
use Rattle.zorder.specs.Code.{OnAxes, code}
use Rattle.zorder.specs.Halves.{Rising}
use Rattle.zorder.proofs.Corners.{one_point_law}
use Rattle.kinds.specs.Kind.{Kind, Sound, Whether}
use Rattle.page.specs.Form.{Point}

module _ {P : Type 0} (k : Kind P) (laws : Sound k) where
  -- points below a code, then one above it, and codes that rise: none has the code
  passed : (ps : List Point) (i s : ℕ) → i < length ps → AllByRecursion (λ x. code k.axes x < s) (take i ps) → s < code k.axes (get_or ps i []) → Rising (code k.axes) ps → AllByRecursion (λ x. code k.axes x ≡ s → ⊥) ps
  passed [] i s lt a h r = absurd (omega arith)
  passed (x ∷ ps) zero s lt a h r = ((λ e. omega arith), All-weaker _ _ (λ y g e. omega arith) ps r.0)
  passed (x ∷ ps) (suc i) s lt a h r = let b = a.0 in ((λ e. omega arith), passed ps i s (omega arith) a.1 h r.1)

  -- at the first code that is not below: it is there exactly if the codes are equal
  pub stops : (ps : List Point) (i c s : ℕ) (p q : Point) → i < length ps → AllByRecursion (λ x. code k.axes x < s) (take i ps) → get_or ps i [] ≡ q → c ≡ code k.axes q → s ≡ code k.axes p → OnAxes k.axes p → OnAxes k.axes q
      → s ≤ c → Rising (code k.axes) ps → Whether (eqb c s) (Has ps p)
  stops ps i c s p q lt a at ce se op oq ge r = by (cases_eq c s)
    where
      by : (c ≡ s) ⊎ (c ≢ s) → Whether (eqb c s) (Has ps p)
      by (inl e) = let same : q ≡ p = one_point_law k.axes laws.narrow q p oq op (sym ce ∙ e ∙ se) in
          subst (λ b. Whether b (Has ps p)) (sym (eq-eqb c s e)) (subst (Has ps) (at ∙ same) (has_get_or ps i [] lt))
      by (inr ne) =
          let above : s < code k.axes (get_or ps i []) = subst (λ x. s < code k.axes x) (sym at) (let n : c ≡ s → ⊥ = ne in grind arith) in
          subst (λ b. Whether b (Has ps p)) (sym (ne_eqb c s ne)) (λ h. all-has (λ x. code k.axes x ≡ s → ⊥) ps p (passed ps i s lt a above r) h (sym se))

  -- all codes are below
  pub none : (ps : List Point) (i s : ℕ) (p : Point) → length ps ≤ i → AllByRecursion (λ x. code k.axes x < s) (take i ps) → s ≡ code k.axes p → Has ps p → ⊥
  none ps i s p le a se h =
      let b = subst (AllByRecursion (λ x. code k.axes x < s)) (take_all i ps le) a in
      let lt = all-has (λ x. code k.axes x < s) ps p b h in omega arith

  -- one more point below
  pub goes_on : (ps : List Point) (i c s : ℕ) (q : Point) → i < length ps → AllByRecursion (λ x. code k.axes x < s) (take i ps) → get_or ps i [] ≡ q → c ≡ code k.axes q → c < s → AllByRecursion (λ x. code k.axes x < s) (take (i + 1) ps)
  goes_on ps i c s q lt a at ce l =
      let one : code k.axes (get_or ps i []) < s = subst (λ x. code k.axes x < s) (sym at) (omega arith) in
      subst (AllByRecursion (λ x. code k.axes x < s)) (sym (take_more ps i [] lt)) (All-append _ (take i ps) (get_or ps i [] ∷ []) a (one, tt))
