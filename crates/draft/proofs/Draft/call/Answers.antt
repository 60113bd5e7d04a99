use Rattle.std.proofs.Common.{sym, subst}
use Rattle.std.specs.Vec.{with_items}
use Rattle.draft.specs.declared.calls.Reply.TheVariants as reply
use Rattle.draft.specs.Runs.{ask_agrees, pick_agrees, count_agrees, tally_agrees, ask_stays, pick_stays, list_stays, count_stays, tally_stays, outline_stays, Answered, put_answered, take_answered, ask_answered, pick_answered, count_answered, tally_answered}
use Rattle.draft.proofs.Steps.{Stepped, put_steps, take_steps, stays, list_agree, list_answer, outline_agree, outline_answer}
use Rattle.draft.proofs.Draft.call.Goals as goal

pub returns-in-Put : goal.returns-in-Put
returns-in-Put g c =
    let k = g.K.PointKind.kind in
    let before = g.S.PageStore.pages c.args.self.now.store in
    let after = g.S.PageStore.pages c.put.new.self.store in
    record {
      lawful = λ set w. subst (λ x. Stepped k before after set w x (reply.Put c.put.result)) (sym c.in-Put.is) (put_steps k before after set w c.in-Put.p c.put.result (λ v. c.put.ensures.lawful set v));
      always = subst (λ x. Answered k before after x (reply.Put c.put.result)) (sym c.in-Put.is) (put_answered c.put.ensures.always);
      origin = c.put.ensures.origin;
    }

pub returns-in-Take : goal.returns-in-Take
returns-in-Take g c =
    let k = g.K.PointKind.kind in
    let before = g.S.PageStore.pages c.args.self.now.store in
    let after = g.S.PageStore.pages c.take.new.self.store in
    record {
      lawful = λ set w. subst (λ x. Stepped k before after set w x (reply.Take c.take.result)) (sym c.in-Take.is) (take_steps k before after set w c.in-Take.p c.take.result (λ v. c.take.ensures.lawful set v));
      always = subst (λ x. Answered k before after x (reply.Take c.take.result)) (sym c.in-Take.is) (take_answered c.take.ensures.always);
      origin = c.take.ensures.origin;
    }

pub returns-in-Ask : goal.returns-in-Ask
returns-in-Ask g c =
    let k = g.K.PointKind.kind in
    let before = g.S.PageStore.pages c.args.self.now.store in
    let after = g.S.PageStore.pages c.ask.new.self.store in
    record {
      lawful = λ set w. subst (λ x. Stepped k before after set w x (reply.Ask c.ask.result)) (sym c.in-Ask.is) (stays k before after set w _ _ c.ask.ensures.keeps (ask_agrees (c.ask.ensures.lawful set w)) ask_stays);
      always = subst (λ x. Answered k before after x (reply.Ask c.ask.result)) (sym c.in-Ask.is) (ask_answered c.ask.ensures.always c.ask.ensures.keeps);
      origin = c.ask.ensures.origin;
    }

pub returns-in-Pick : goal.returns-in-Pick
returns-in-Pick g c =
    let k = g.K.PointKind.kind in
    let before = g.S.PageStore.pages c.args.self.now.store in
    let after = g.S.PageStore.pages c.pick.new.self.store in
    record {
      lawful = λ set w. subst (λ x. Stepped k before after set w x (reply.Pick c.pick.result)) (sym c.in-Pick.is) (stays k before after set w _ _ c.pick.ensures.keeps (pick_agrees (c.pick.ensures.lawful set w)) pick_stays);
      always = subst (λ x. Answered k before after x (reply.Pick c.pick.result)) (sym c.in-Pick.is) (pick_answered c.pick.ensures.always c.pick.ensures.keeps);
      origin = c.pick.ensures.origin;
    }

pub returns-in-Count : goal.returns-in-Count
returns-in-Count g c =
    let k = g.K.PointKind.kind in
    let before = g.S.PageStore.pages c.args.self.now.store in
    let after = g.S.PageStore.pages c.count.new.self.store in
    record {
      lawful = λ set w. subst (λ x. Stepped k before after set w x (reply.Count c.count.result)) (sym c.in-Count.is) (stays k before after set w _ _ c.count.ensures.keeps (count_agrees (c.count.ensures.lawful set w)) count_stays);
      always = subst (λ x. Answered k before after x (reply.Count c.count.result)) (sym c.in-Count.is) (count_answered c.count.ensures.always c.count.ensures.keeps);
      origin = c.count.ensures.origin;
    }

pub returns-in-Tally : goal.returns-in-Tally
returns-in-Tally g c =
    let k = g.K.PointKind.kind in
    let before = g.S.PageStore.pages c.args.self.now.store in
    let after = g.S.PageStore.pages c.tally.new.self.store in
    record {
      lawful = λ set w. subst (λ x. Stepped k before after set w x (reply.Tally c.tally.result)) (sym c.in-Tally.is) (stays k before after set w _ _ c.tally.ensures.keeps (tally_agrees (c.tally.ensures.lawful set w)) tally_stays);
      always = subst (λ x. Answered k before after x (reply.Tally c.tally.result)) (sym c.in-Tally.is) (tally_answered c.tally.ensures.always c.tally.ensures.keeps);
      origin = c.tally.ensures.origin;
    }

pub returns-in-List : goal.returns-in-List
returns-in-List g c =
    let k = g.K.PointKind.kind in
    let before = g.S.PageStore.pages c.args.self.now.store in
    let after = g.S.PageStore.pages c.list-answer.new.self.store in
    let v = c.in-List.buffer in
    let ws = c.list-answer.new.buffer in
    let r = c.list-answer.result in
    let given = c.as_mut_slice.ensures.value in
    let same = c.list-answer.auto.buffer in
    record {
      lawful = λ set w. subst (λ x. Stepped k before after set w x (reply.List r (with_items v ws))) (sym c.in-List.is) (stays k before after set w _ _ c.list-answer.ensures.keeps (list_agree k c.in-List.window c.in-List.skip v _ ws given same r _ set (c.list-answer.ensures.lawful set w)) list_stays);
      always = subst (λ x. Answered k before after x (reply.List r (with_items v ws))) (sym c.in-List.is) (list_answer k c.in-List.window c.in-List.skip v _ ws given same r before after c.list-answer.ensures.always c.list-answer.ensures.keeps);
      origin = c.list-answer.ensures.origin;
    }

pub returns-in-Outline : goal.returns-in-Outline
returns-in-Outline g c =
    let k = g.K.PointKind.kind in
    let before = g.S.PageStore.pages c.args.self.now.store in
    let after = g.S.PageStore.pages c.outline-answer.new.self.store in
    let v = c.in-Outline.buffer in
    let ws = c.outline-answer.new.buffer in
    let r = c.outline-answer.result in
    let given = c.as_mut_slice-in-Outline.ensures.value in
    let same = c.outline-answer.auto.buffer in
    record {
      lawful = λ set w. subst (λ x. Stepped k before after set w x (reply.Outline r (with_items v ws))) (sym c.in-Outline.is) (stays k before after set w _ _ c.outline-answer.ensures.keeps (outline_agree k v _ ws given same r _ set (c.outline-answer.ensures.lawful set w)) outline_stays);
      always = subst (λ x. Answered k before after x (reply.Outline r (with_items v ws))) (sym c.in-Outline.is) (outline_answer k v _ ws given same r before after c.outline-answer.ensures.always c.outline-answer.ensures.keeps);
      origin = c.outline-answer.ensures.origin;
    }
