use Rattle.std.proofs.Common.{◌++◌, length, filter, sym, ap, ◌∙◌, subst, arith}
use Rattle.std.specs.List.{AllByRecursion}
use Rattle.std.proofs.lemmas.List.{length_push}
use Rattle.kinds.specs.Kind.{On}
use Rattle.hand.specs.Hands.{listed, left}
use Rattle.hand.proofs.Steps.{count_is, next_has, kept_yes, kept_no, whole}
use Rattle.hand.proofs.points.Hand.kept.Goals as goal

pub loop-point-init : goal.loop-point-init
loop-point-init g c =
    let h = c.args.self.now in
    let few = h.few in
    let n = count_is h in
    let is = ap left c.into_iter-point-iterator.ensures.into_iter_gives ∙ c.iter-point-items.ensures in
    let a = ap length is in
    let b = ap length c.first-hand.ensures in (
      λ keeps agrees. ap (λ xs. xs ++ filter keeps (left c.into_iter-point-iterator.result)) c.first-hand.ensures ∙ ap (filter keeps) is,
      omega arith,
      subst (AllByRecursion (On g.K.PointKind.kind)) (sym is) c.requires.all_on,
    )

pub push-requires : goal.push-requires
push-requires g c = let n = ap length c.in-Some.ensures.steps in omega (arith, n, c.loop-point.invariant.1)

pub loop-point-preserved-then-test : goal.loop-point-preserved-then-test
loop-point-preserved-then-test g c =
    let x = c.in-Some.point in
    let e = c.in-Some.ensures.steps in
    let rest = left c.next.new.self in
    let (on, rest_on) = next_has (On g.K.PointKind.kind) _ _ x e c.loop-point.invariant.2 in
    let n = ap length e in
    let m = ap length c.push.ensures ∙ length_push (listed c.loop-point.hand) x in (
      λ keeps agrees.
          let is = agrees _ _ on c.test.ensures in
          kept_yes keeps x (listed c.loop-point.hand) _ _ rest (ap (λ xs. listed c.loop-point.hand ++ filter keeps xs) (sym e) ∙ c.loop-point.invariant.0 keeps agrees) (sym c.if-test.true ∙ is) c.push.ensures,
      omega (arith, n, m, c.loop-point.invariant.1),
      rest_on,
    )

pub loop-point-preserved : goal.loop-point-preserved
loop-point-preserved g c =
    let x = c.in-Some.point in
    let e = c.in-Some.ensures.steps in
    let rest = left c.next.new.self in
    let (on, rest_on) = next_has (On g.K.PointKind.kind) _ _ x e c.loop-point.invariant.2 in
    let n = ap length e in (
      λ keeps agrees.
          let is = agrees _ _ on c.test.ensures in
          kept_no keeps x (listed c.loop-point.hand) _ rest (ap (λ xs. listed c.loop-point.hand ++ filter keeps xs) (sym e) ∙ c.loop-point.invariant.0 keeps agrees) (sym c.if-test.false ∙ is),
      omega (arith, n, c.loop-point.invariant.1),
      rest_on,
    )

pub returns : goal.returns
returns g c keeps agrees = whole (listed c.loop-point.hand) _ _ (ap (filter keeps) c.in-None.ensures.steps.0) (c.loop-point.invariant.0 keeps agrees)
