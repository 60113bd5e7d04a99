use Rattle.std.proofs.Common.{ℕ, Some, None, Option, Err, Result, ◌≡◌, List, [], ◌∷◌, length, get_or, ℤ, sym, refl, ap, ◌∙◌, subst, arith, length-set, w64, SFits, rules}
use Rattle.std.proofs.lemmas.Int.{to_z-of_z}
use Rattle.std.specs.Option.{ok_or}
use Rattle.std.proofs.lemmas.Result.{err_from_is_err_and}
use Rattle.refusal.specs.declared.Refusal.{Refusal}
use Rattle.refusal.specs.declared.Refusal.TheVariants.{OffAxis}
use Rattle.kinds.specs.Kind.{Kind}
use Rattle.query.specs.declared.window.Window.{Window}
use Rattle.zorder.specs.Code.{Axis, OnAxes}
use Rattle.zorder.specs.Sharing.{Under}
use Rattle.query.specs.declared.choice.Choice.{Choice}
use Rattle.query.specs.declared.choice.Choice.TheVariants.{Any}
use Rattle.query.specs.Queries.{low_end, high_end, QueryOn, Queried}
use Rattle.query.proofs.Ends.{ends, low_of, high_of, ends_step, ends_whole, ends_on, named_all, selected_all, inside_all}
use Rattle.query.proofs.choice.window.Goals as goal

pub returns-then-count-gt4 : goal.returns-then-count-gt4
returns-then-count-gt4 g c = (
  (λ q.
      let e = (ends_on g.K.PointKind.kind.axes c.args.query.now q).2 in
      let a = g.met.K.PointKind.sound.axes_count.1 in
      omega (arith, c.if-count-gt4.true)),
  refl,
)

-- the refusal that `ok_or` gives
off_is : {X : Type 0} (o : Option X) (e d : Refusal) → ◌≡◌ {A = Result X Refusal} (Err e) (ok_or o d) → e ≡ d
off_is None e d h = cc
off_is (Some x) e d h = let z : ◌≡◌ {A = ℕ} 0 1 = cc in absurd (omega arith)

-- a query that is off an axis is refused
off_axis : {P : Type 0} (k : Kind P) (query : List Choice) (r : Result (Window P) Refusal) (e y : Refusal) → r ≡ Err y → y ≡ e → e ≡ OffAxis → (QueryOn k.axes query → ⊥) → Queried k query r
off_axis k query r e y is same off never = subst (Queried k query) (sym (is ∙ ap Err (same ∙ off))) (never, refl)

none : (f : Axis → Choice → ℤ) (axs : List Axis) → [] ≡ ends f axs []
none f [] = refl
none f (a ∷ axs) = refl

pub loop-axis-init : goal.loop-axis-init
loop-axis-init g c = (refl, refl, omega arith, none low_of _, none high_of _)

-- no such axis
pub returns-in_err-least : goal.returns-in_err-least
returns-in_err-least g c =
    let exit = err_from_is_err_and c.from_residual.result c.from_residual.ensures.1 in
    off_axis g.K.PointKind.kind c.args.query.now c.from_residual.result c.in_err-least.field-0.0 exit.0 exit.1 exit.2 (off_is c.span.result c.in_err-least.field-0.0 OffAxis c.in_err-least.ensures.value)
    (λ q.
    let e = (ends_on g.K.PointKind.kind.axes c.args.query.now q).2 in
    (let m = (rw c.in_err-least.ensures.ok_part at c.span.ensures) in omega (arith, m, c.loop-axis-test.true)))

pub loop-axis-preserved : goal.loop-axis-preserved
loop-axis-preserved g c =
    let axs = g.K.PointKind.kind.axes in
    let cs = c.args.query.now in
    let i = c.loop-axis.axis in
    let e = c.ends-first.ensures in
    let f = (rw c.in_ok-least.ensures.ok_part at c.span.ensures) in
    let v = c.loop-axis.invariant in
    let a : SFits w64 c.in_ok-least.least = search rules in
    let b : SFits w64 c.in_ok-least.greatest = search rules in
    let x : SFits w64 c.ends-first.result.0 = search rules in
    let y : SFits w64 c.ends-first.result.1 = search rules in
    let t = c.loop-axis-test.true in
    let u = c.if-count-gt4.false in
    let n = f.0 in
    let l = v.0 in
    let h = v.1 in (
      length-set c.loop-axis.low i _ ∙ v.0,
      length-set c.loop-axis.high i _ ∙ v.1,
      omega arith,
      ends_step low_of axs cs i c.loop-axis.low _ c.ends-first.result.0 n t (omega arith) v.3 (to_z-of_z w64 c.ends-first.result.0 x) (λ d. e.low ∙ ap (λ m. low_end m (get_or cs i Any)) (to_z-of_z w64 c.in_ok-least.least a ∙ (f.1 d).0)),
      ends_step high_of axs cs i c.loop-axis.high _ c.ends-first.result.1 n t (omega arith) v.4 (to_z-of_z w64 c.ends-first.result.1 y) (λ d. e.high ∙ ap (λ m. high_end m (get_or cs i Any)) (to_z-of_z w64 c.in_ok-least.greatest b ∙ (f.1 d).1)),
    )

pub returns-in_err-low : goal.returns-in_err-low
returns-in_err-low g c =
    let exit = err_from_is_err_and c.from_residual-in_err-low.result c.from_residual-in_err-low.ensures.1 in
    off_axis g.K.PointKind.kind c.args.query.now c.from_residual-in_err-low.result c.in_err-low.field-0.0 exit.0 exit.1 exit.2 (off_is c.at.result c.in_err-low.field-0.0 OffAxis c.in_err-low.ensures.value)
    (λ q.
    let axs = g.K.PointKind.kind.axes in
    let cs = c.args.query.now in
    let n : c.loop-axis.axis ≡ length cs = omega arith in
    (rw c.in_err-low.ensures.ok_part at c.at.ensures) (subst (OnAxes axs) (sym (ends_whole low_of axs cs c.loop-axis.axis c.loop-axis.low n c.loop-axis.invariant.3)) (ends_on axs cs q).0))

pub returns-in_err-high : goal.returns-in_err-high
returns-in_err-high g c =
    let exit = err_from_is_err_and c.from_residual-in_err-high.result c.from_residual-in_err-high.ensures.1 in
    off_axis g.K.PointKind.kind c.args.query.now c.from_residual-in_err-high.result c.in_err-high.field-0.0 exit.0 exit.1 exit.2 (off_is c.at-2.result c.in_err-high.field-0.0 OffAxis c.in_err-high.ensures.value)
    (λ q.
    let axs = g.K.PointKind.kind.axes in
    let cs = c.args.query.now in
    let n : c.loop-axis.axis ≡ length cs = omega arith in
    (rw c.in_err-high.ensures.ok_part at c.at-2.ensures) (subst (OnAxes axs) (sym (ends_whole high_of axs cs c.loop-axis.axis c.loop-axis.high n c.loop-axis.invariant.4)) (ends_on axs cs q).1))

pub returns : goal.returns
returns g c =
    let k = g.K.PointKind.kind in
    let cs = c.args.query.now in
    let n : c.loop-axis.axis ≡ length cs = omega arith in
    let few = c.loop-axis.invariant.2 in
    let e = (rw c.in_ok-low.ensures.ok_part at c.at.ensures) in
    let f = (rw c.in_ok-high.ensures.ok_part at c.at-2.ensures) in
    let l = e.1 ∙ ends_whole low_of k.axes cs c.loop-axis.axis c.loop-axis.low n c.loop-axis.invariant.3 in
    let h = f.1 ∙ ends_whole high_of k.axes cs c.loop-axis.axis c.loop-axis.high n c.loop-axis.invariant.4 in
    let q = named_all k.axes cs (omega arith) (subst (OnAxes k.axes) l e.0) (subst (OnAxes k.axes) h f.0) in
    record {
      named = q;
      low_on = e.0;
      high_on = f.0;
      selected = λ p on i. selected_all k.axes cs (k.coords p) (ends_on k.axes cs q).2 (subst (λ z. Under z (k.coords p)) l i.0) (subst (λ z. Under (k.coords p) z) h i.1);
      inside = λ p on s. let i = inside_all k.axes cs (k.coords p) on s in (subst (λ z. Under z (k.coords p)) (sym l) i.0, subst (λ z. Under (k.coords p) z) (sym h) i.1);
    }
