use Rattle.std.proofs.Common.{◌+◌, ◌≤◌, map, length, sym, refl, ◌∙◌, subst, arith}
use Rattle.page.specs.Checks.{NodeRead, summary}
use Rattle.page.specs.Fields.{Reads}
use Rattle.page.specs.Form.{data_view}
use Rattle.tree.specs.Laid.{numbers, shape}
use Rattle.tree.specs.Standing.{view_of}
use Rattle.tree.specs.Tree.{TreeOf}
use Rattle.tree.proofs.Standings.{leaf_inv}
use Rattle.access.proofs.Reaching.{reached_there, reached_reads, leafed, forked, forked_deep}
use Rattle.scan.proofs.Wholes.{whole}
use Rattle.scan.proofs.Walking.{when_true, when_false, cases_and, cases_map, some_page, walked_on, below_of, halves_join, low_few, high_few, low_walked, high_walked, halves_spent}
use Rattle.scan.proofs.walk.+walk.Goals as goal

-- no further point is refused on a lawful card
pub returns-in_err-passed-clause-lawful : goal.returns-in_err-passed-clause-lawful
returns-in_err-passed-clause-lawful g t c ps u v before xs few met =
    let k = g.K.PointKind.kind in
    absurd (c.in_err-passed.ensures.lawful ps (below_of k g.met.K.PointKind.sound _ ps (summary k c.args.entry) c.args.above u v.reached) before c.args.buffer.now xs refl few met)

-- nothing below the entry has to be read
pub returns-then-branch : goal.returns-then-branch
returns-then-branch g t c =
    let k = g.K.PointKind.kind in
    let s = g.met.K.PointKind.sound in
    record {
      lawful = λ ps u v before xs few met. (
        when_true c.in_ok-passed.field-0 _ _ c.if-branch.true (c.in_ok-passed.ensures.lawful ps (below_of k s _ ps (summary k c.args.entry) c.args.above u v.reached) before c.args.buffer.now xs refl few met),
        omega arith,
      );
      always = λ before fair. c.in_ok-passed.ensures.always before c.args.buffer.now refl fair;
      refused = tt;
      same = c.passed.ensures.same;
      keeps = refl;
    }

-- the page is a page of the tree, and a read is left
pub returns-in_err-bytes-clause-lawful : goal.returns-in_err-bytes-clause-lawful
returns-in_err-bytes-clause-lawful g t c ps u v before xs few met =
    let k = g.K.PointKind.kind in
    let s = g.met.K.PointKind.sound in
    let e = summary k c.args.entry in
    let a = some_page u in
    let b = v.enough in
    absurd (c.in_err-bytes.ensures.shown u (reached_there k s _ ps e c.args.above u v.reached) (reached_reads k s _ ps e c.args.above u v.reached _ refl) (omega arith))

-- a data page: its points
pub returns-in_default : goal.returns-in_default
returns-in_default g t c =
    let k = g.K.PointKind.kind in
    let s = g.met.K.PointKind.sound in
    let card = g.S.PageStore.pages c.args.store.now in
    let w = c.args.window.now.corners in
    let bytes = c.in_ok-bytes.bytes in
    record {
      lawful = λ ps u v before xs few met.
          let e = summary k c.args.entry in
          let rd = reached_reads k s card ps e c.args.above u v.reached bytes c.in_ok-bytes.ensures.reads.0 in
          let f = leafed k s card u bytes rd (subst (NodeRead k bytes) c.in_default.is c.in_ok-bytes.ensures.reads.1) in
          let same = (leaf_inv k (subst (λ y. TreeOf k ps (shape y)) f.is v.reached.stands.halved)).0 in
          let m = when_false c.in_ok-passed.field-0 _ _ c.if-branch.false (c.in_ok-passed.ensures.lawful ps (below_of k s card ps e c.args.above u v.reached) before c.args.buffer.now xs refl few met) in
          let spent : c.args.left.now ≤ c.spend.new.left + length (numbers u) = let a = some_page u in let b = c.in_ok-bytes.ensures.reads.2 in omega arith in
          cases_and c.gather_page.result _ _
          (c.gather_page.ensures.lawful ps (subst (λ ys. Reads k bytes (data_view (map k.coords ys))) (sym same) (subst (λ y. Reads k bytes (view_of k y)) f.is rd)) before xs few m) spent;
      always = λ before fair. c.gather_page.ensures.always before (c.in_ok-passed.ensures.always before c.args.buffer.now refl fair);
      refused = c.gather_page.ensures.refused;
      same = c.gather_page.ensures.same ∙ c.passed.ensures.same;
      keeps = c.spend.ensures.keeps;
    }

-- the depth rises
pub returns-then-fork-above : goal.returns-then-fork-above
returns-then-fork-above g t c =
    let k = g.K.PointKind.kind in
    let s = g.met.K.PointKind.sound in
    let card = g.S.PageStore.pages c.args.store.now in
    let bytes = c.in_ok-bytes.bytes in
    let x = c.in-Directory.fork in
    record {
      lawful = λ ps u v before xs few met.
          let e = summary k c.args.entry in
          let rd = reached_reads k s card ps e c.args.above u v.reached bytes c.in_ok-bytes.ensures.reads.0 in
          let f = forked k s card u bytes x.depth (summary k x.low) (summary k x.high) rd (subst (NodeRead k bytes) c.in-Directory.is c.in_ok-bytes.ensures.reads.1) in
          let le : c.args.above ≤ x.depth = forked_deep k s card ps e c.args.above u v.reached x.depth (summary k x.low) (summary k x.high) f v.shallow in
          omega (arith, c.if-fork-above.true);
      always = λ before fair. tt;
      refused = refl;
      same = c.passed.ensures.same;
      keeps = c.spend.ensures.keeps;
    }

-- the low half is not refused
pub returns-in_err-walk-clause-lawful : goal.returns-in_err-walk-clause-lawful
returns-in_err-walk-clause-lawful g t c ps u v before xs few met =
    let k = g.K.PointKind.kind in
    let s = g.met.K.PointKind.sound in
    let card = g.S.PageStore.pages c.args.store.now in
    let w = c.args.window.now.corners in
    let bytes = c.in_ok-bytes.bytes in
    let x = c.in-Directory.fork in
    let e = summary k c.args.entry in
    let rd = reached_reads k s card ps e c.args.above u v.reached bytes c.in_ok-bytes.ensures.reads.0 in
    let f = forked k s card u bytes x.depth (summary k x.low) (summary k x.high) rd (subst (NodeRead k bytes) c.in-Directory.is c.in_ok-bytes.ensures.reads.1) in
    let m = when_false c.in_ok-passed.field-0 _ _ c.if-branch.false (c.in_ok-passed.ensures.lawful ps (below_of k s card ps e c.args.above u v.reached) before c.args.buffer.now xs refl few met) in
    let lo = low_walked k s card w (whole c.args.window.now) ps u e c.args.above c.args.left.now v x.depth (summary k x.low) (summary k x.high) f c.spend.new.left c.in_ok-bytes.ensures.reads.2 in
    absurd (c.in_err-walk.ensures.lawful _ f.l (walked_on k c.spend.ensures.keeps lo) before xs
    (low_few k s card w (whole c.args.window.now) ps u e c.args.above c.args.left.now v x.depth (summary k x.low) (summary k x.high) f xs few) m)

-- both halves
pub returns : goal.returns
returns g t c =
    let k = g.K.PointKind.kind in
    let s = g.met.K.PointKind.sound in
    let card = g.S.PageStore.pages c.args.store.now in
    let w = c.args.window.now.corners in
    let bytes = c.in_ok-bytes.bytes in
    let x = c.in-Directory.fork in
    let kept = c.walk.ensures.keeps ∙ c.spend.ensures.keeps in
    record {
      lawful = λ ps u v before xs few met.
          let e = summary k c.args.entry in
          let rd = reached_reads k s card ps e c.args.above u v.reached bytes c.in_ok-bytes.ensures.reads.0 in
          let f = forked k s card u bytes x.depth (summary k x.low) (summary k x.high) rd (subst (NodeRead k bytes) c.in-Directory.is c.in_ok-bytes.ensures.reads.1) in
          let m = when_false c.in_ok-passed.field-0 _ _ c.if-branch.false (c.in_ok-passed.ensures.lawful ps (below_of k s card ps e c.args.above u v.reached) before c.args.buffer.now xs refl few met) in
          let one = c.in_ok-bytes.ensures.reads.2 in
          let lo = low_walked k s card w (whole c.args.window.now) ps u e c.args.above c.args.left.now v x.depth (summary k x.low) (summary k x.high) f c.spend.new.left one in
          let a = c.in_ok-walk.ensures.lawful _ f.l (walked_on k c.spend.ensures.keeps lo) before xs
          (low_few k s card w (whole c.args.window.now) ps u e c.args.above c.args.left.now v x.depth (summary k x.low) (summary k x.high) f xs few) m in
          let hi = high_walked k s card w (whole c.args.window.now) ps u e c.args.above c.args.left.now v x.depth (summary k x.low) (summary k x.high) f c.spend.new.left c.walk.new.left one a.1 in
          let b = c.walk-2.ensures.lawful _ f.h (walked_on k kept hi) before _
          (high_few k s card w (whole c.args.window.now) ps u e c.args.above c.args.left.now v x.depth (summary k x.low) (summary k x.high) f xs few) a.0 in
          cases_map c.walk-2.result _ _
          (λ h. (
            subst (λ ys. g.G.Gather.met c.walk-2.new.gather before c.walk-2.new.buffer ys) (halves_join k s card w (whole c.args.window.now) ps u e c.args.above c.args.left.now v x.depth (summary k x.low) (summary k x.high) f xs) h.0,
            halves_spent k s card w (whole c.args.window.now) ps u e c.args.above c.args.left.now v x.depth (summary k x.low) (summary k x.high) f c.spend.new.left c.walk.new.left c.walk-2.new.left one a.1 h.1,
          )) b;
      always = λ before fair. c.walk-2.ensures.always before (c.in_ok-walk.ensures.always before (c.in_ok-passed.ensures.always before c.args.buffer.now refl fair));
      refused = c.walk-2.ensures.refused;
      same = c.walk-2.ensures.same ∙ c.walk.ensures.same ∙ c.passed.ensures.same;
      keeps = c.walk-2.ensures.keeps ∙ kept;
    }
