use Rattle.std.proofs.Common.{◌≡◌, [], ◌∷◌, ◌++◌, length, vec_items, sym, refl, ap, ◌∙◌, subst, append_assoc, arith, length-append, rules}
use Rattle.std.specs.Vec.Iter.{into_iter_items}
use Rattle.std.proofs.lemmas.List.{nil_from_length, append-nil}
use Rattle.draft.specs.Runs.{Runs}
use Rattle.draft.proofs.Running.{runs_start, runs_more}
use Rattle.draft.proofs.run.resume.Goals as goal

pub loop-call-init : goal.loop-call-init
loop-call-init g c =
    let k = g.K.PointKind.kind in
    let card = g.S.PageStore.pages c.args.draft.store in (
      tt,
      tt,
      search rules,
      refl,
      search rules,
      refl,
      (λ set w. subst (λ rs. Runs k (length card) card set [] rs card) (sym c.clear.ensures.items) (runs_start k (length card) card set refl w)),
    )

pub loop-call-preserved : goal.loop-call-preserved
loop-call-preserved g c =
    let k = g.K.PointKind.kind in
    let card = g.S.PageStore.pages c.args.draft.store in
    let n = length-append c.loop-call.yielded (c.in-Some.call ∷ []) in (
      tt,
      tt,
      search rules,
      simp append_assoc (ap (λ t. c.loop-call.yielded ++ t) (sym c.in-Some.ensures.steps.0) ∙ c.loop-call.invariant.3),
      (let a = c.loop-call.invariant.4 in search rules),
      c.call-reply.ensures.origin ∙ c.loop-call.invariant.5,
      (λ set w. subst (λ rs. Runs k (length card) card set (c.loop-call.yielded ++ c.in-Some.call ∷ []) rs (g.S.PageStore.pages c.call-reply.new.self.store)) (sym c.push_reserved.ensures.items) (runs_more k (length card) (c.loop-call.invariant.6 set w) c.call-reply.ensures.lawful)),
    )

pub returns : goal.returns
returns g c =
    let k = g.K.PointKind.kind in
    let card = g.S.PageStore.pages c.args.draft.store in
    let rest = into_iter_items c.loop-call.call-iterator in
    let over : rest ≡ [] = nil_from_length rest (omega (arith, c.in-None.ensures.steps.0, c.loop-call.call-iterator.rest.ok.0)) in
    let made : into_iter_items c.into_iter-call-iterator.result ≡ vec_items c.args.calls = c.into_iter-call-iterator.ensures.into_iter_gives.0 in
    let all : c.loop-call.yielded ≡ vec_items c.args.calls = sym (append-nil _) ∙ ap (λ t. c.loop-call.yielded ++ t) (sym over) ∙ c.loop-call.invariant.3 ∙ made in
    record {
      lawful = λ set w. subst (λ cs. Runs k (length card) card set cs (vec_items c.loop-call.replies) (g.S.PageStore.pages c.loop-call.draft.store)) all (c.loop-call.invariant.6 set w);
      always = c.loop-call.invariant.4 ∙ ap length all ∙ sym c.args.calls.ok.0;
      origin = c.loop-call.invariant.5;
    }
