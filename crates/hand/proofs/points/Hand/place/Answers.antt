use Rattle.std.proofs.Common.{◌≡◌, ◌+◌, [], ◌∷◌, ◌++◌, take, drop, sym, ap, ◌∙◌, arith}
use Rattle.std.proofs.lemmas.List.{append_assoc}
use Rattle.kinds.specs.Kind.{On, code_of}
use Rattle.tree.specs.Sets.{with_point}
use Rattle.hand.specs.Hands.{listed}
use Rattle.hand.proofs.Steps.{count_is, item_has, left_is, front_is, none_left, place_here, place_on}
use Rattle.hand.proofs.points.Hand.place.Goals as goal

pub code-requires : goal.code-requires
code-requires g c = item_has (On g.K.PointKind.kind) c.args.self.now c.loop-i.i c.point-point.result c.loop-i-test.true c.point-point.ensures c.requires.all_on

pub returns-then-code : goal.returns-then-code
returns-then-code g c =
    let code = code_of g.K.PointKind.kind in
    let h = c.args.self.now in
    let i = c.loop-i.i in
    let p = c.args.p.now in
    let x = c.point-point.result in
    let l = left_is h i c.point-point.result c.loop-i-test.true c.point-point.ensures in
    let n = count_is h in
    record {
      within = omega (arith, c.loop-i-test.true);
      splits = c.loop-i.invariant ∙ ap (λ r. take i (listed h) ++ with_point code p r) l
          ∙ ap (λ r. take i (listed h) ++ r) (place_here code p c.code-code.result c.code.result x (drop (i + 1) (listed h)) c.code-code.ensures c.code.ensures c.if-code.true)
          ∙ ap (λ r. take i (listed h) ++ (p ∷ r)) (sym l);
    }

pub loop-i-preserved : goal.loop-i-preserved
loop-i-preserved g c =
    let code = code_of g.K.PointKind.kind in
    let h = c.args.self.now in
    let i = c.loop-i.i in
    let p = c.args.p.now in
    let x = c.point-point.result in
    let l = left_is h i c.point-point.result c.loop-i-test.true c.point-point.ensures in
    let rest = with_point code p (drop (i + 1) (listed h)) in
    c.loop-i.invariant ∙ ap (λ r. take i (listed h) ++ with_point code p r) l
    ∙ ap (λ r. take i (listed h) ++ r) (place_on code p c.code-code.result c.code.result x (drop (i + 1) (listed h)) c.code-code.ensures c.code.ensures c.if-code.false)
    ∙ sym (append_assoc (take i (listed h)) (x ∷ []) rest) ∙ ap (λ r. r ++ rest) (sym (front_is h i c.point-point.result c.loop-i-test.true c.point-point.ensures))

pub returns : goal.returns
returns g c =
    let code = code_of g.K.PointKind.kind in
    let h = c.args.self.now in
    let i = c.loop-i.i in
    let p = c.args.p.now in
    let n = count_is h in
    let same : i ≡ h.count = omega (arith, c.loop-i-test.false, c.loop-i.auto.i-end) in
    let none = none_left h i c.loop-i-test.false in
    record {
      within = omega arith;
      splits = c.loop-i.invariant ∙ ap (λ r. take i (listed h) ++ with_point code p r) none ∙ ap (λ r. take i (listed h) ++ (p ∷ r)) (sym none) ∙ ap (λ j. take j (listed h) ++ (p ∷ drop j (listed h))) same;
    }
