use Rattle.std.proofs.Common.{Ok, sym, refl, ap, ◌∙◌, subst, arith}
use Rattle.page.specs.Form.{data_view}
use Rattle.page.specs.Fields.{Reads}
use Rattle.page.specs.Checks.{NodeRead}
use Rattle.lookup.proofs.Walks.{first_turn, turn_stands, turn_bytes, turn_last, data_answer, leads_none, leads_on}
use Rattle.lookup.proofs.ask.walk.Goals as goal

pub loop-turn-init : goal.loop-turn-init
loop-turn-init g c = (refl, λ ps t st e. first_turn g.K.PointKind.kind g.met.K.PointKind.sound _ c.args.p.now ps t c.args.start st e)

-- a page that is no page of the tree
pub returns-in_err-bytes-clause-lawful : goal.returns-in_err-bytes-clause-lawful
returns-in_err-bytes-clause-lawful g c ps t st e =
    let k = g.K.PointKind.kind in
    let w = c.loop-turn.invariant.1 ps t st e in
    let (there, shows) = turn_stands k g.met.K.PointKind.sound _ c.args.p.now ps c.loop-turn.page c.loop-turn._turn w _ c.loop-turn.invariant.0 in
    absurd (c.in_err-bytes.ensures.shown w.tree there shows)

-- a data page
pub returns-in_default : goal.returns-in_default
returns-in_default g c = record {
  lawful = λ ps t st e.
      let k = g.K.PointKind.kind in
      let s = g.met.K.PointKind.sound in
      let p = c.args.p.now in
      let w = c.loop-turn.invariant.1 ps t st e in
      let rd = turn_bytes k s _ p ps c.loop-turn.page c.loop-turn._turn w _ c.in_ok-bytes.bytes c.loop-turn.invariant.0 c.in_ok-bytes.ensures.reads.1 in
      ap Ok (data_answer k s _ w.qs w.tree p c.in_ok-bytes.bytes c.holds.result w.stands c.requires rd (subst (NodeRead k c.in_ok-bytes.bytes) c.in_default.is c.in_ok-bytes.ensures.reads.2) (λ xs r. c.holds.ensures xs (subst (λ x. Reads k x (data_view xs)) (sym c.over.ensures) r)) ∙ sym w.same);
  always = tt;
  keeps = c.load_node.ensures.keeps ∙ c.loop-turn.invariant.0;
}

-- a directory page whose first bits the point does not share
pub returns-in_default-onward : goal.returns-in_default-onward
returns-in_default-onward g c = record {
  lawful = λ ps t st e.
      let k = g.K.PointKind.kind in
      let s = g.met.K.PointKind.sound in
      let p = c.args.p.now in
      let w = c.loop-turn.invariant.1 ps t st e in
      let rd = turn_bytes k s _ p ps c.loop-turn.page c.loop-turn._turn w _ c.in_ok-bytes.bytes c.loop-turn.invariant.0 c.in_ok-bytes.ensures.reads.1 in
      ap Ok (sym (w.same ∙ leads_none k s _ w.qs w.tree p c.in-Directory.fork c.in_ok-bytes.bytes w.stands rd (subst (NodeRead k c.in_ok-bytes.bytes) c.in-Directory.is c.in_ok-bytes.ensures.reads.2) c.in_default-onward.ensures));
  always = tt;
  keeps = c.load_node.ensures.keeps ∙ c.loop-turn.invariant.0;
}

pub loop-turn-preserved : goal.loop-turn-preserved
loop-turn-preserved g c = (
  c.load_node.ensures.keeps ∙ c.loop-turn.invariant.0,
  λ ps t st e.
      let k = g.K.PointKind.kind in
      let s = g.met.K.PointKind.sound in
      let p = c.args.p.now in
      let w = c.loop-turn.invariant.1 ps t st e in
      let rd = turn_bytes k s _ p ps c.loop-turn.page c.loop-turn._turn w _ c.in_ok-bytes.bytes c.loop-turn.invariant.0 c.in_ok-bytes.ensures.reads.1 in
      leads_on k s _ p ps c.loop-turn.page c.loop-turn._turn c.in-Some.next c.in-Directory.fork c.in_ok-bytes.bytes w rd (subst (NodeRead k c.in_ok-bytes.bytes) c.in-Directory.is c.in_ok-bytes.ensures.reads.2) c.in-Some.ensures,
)

pub returns : goal.returns
returns g c = record {
  lawful = λ ps t st e. absurd (turn_last g.K.PointKind.kind g.met.K.PointKind.sound _ c.args.p.now ps c.loop-turn.page c.loop-turn._turn (c.loop-turn.invariant.1 ps t st e) (omega (arith, c.loop-turn-test.false, c.BITS-turn-end.ensures, g.met.K.PointKind.constants.0)));
  always = refl;
  keeps = c.loop-turn.invariant.0;
}
