use Rattle.std.proofs.Common.{◌^◌, ◌<◌, ◌++◌, length, MatchBool, sym, refl, ap, ◌∙◌, subst, append-nil, MatchResult}
use Rattle.page.specs.Checks.{summary}
use Rattle.scan.proofs.Wholes.{whole}
use Rattle.scan.proofs.Windows.{missed_by, covered_by}
use Rattle.scan.proofs.walk.passed.Goals as goal
use Rattle.scan.proofs.walk.passed.Goals.{then-done-via-then-done, then-done-via-else-done+then-not-meets}

-- no further point is wanted, or none lies in the window
pub returns-then-done : goal.returns-then-done
returns-then-done g c =
    let k = g.K.PointKind.kind in
    record {
      lawful = λ ps b before buffer xs long few met. elim c.then-done.branch [
        | then-done-via-then-done w ↦ w.if-done.ensures tt before buffer xs _ met
        | then-done-via-else-done+then-not-meets w ↦
            let e = missed_by k c.args.window.now.corners (whole c.args.window.now) ps (summary k c.args.entry.now) b w.if-not-meets.ensures in
            subst (λ ys. g.G.Gather.met c.args.gather.now before buffer ys) (sym (append-nil xs) ∙ ap (λ ys. xs ++ ys) (sym e)) met
      ];
      always = λ before buffer long fair. fair;
      refused = tt;
      same = refl;
    }

-- all lie in the window
pub returns-then-covers : goal.returns-then-covers
returns-then-covers g c =
    let k = g.K.PointKind.kind in
    record {
      lawful = λ ps b before buffer xs long few met.
          let e = covered_by k c.args.window.now.corners (whole c.args.window.now) ps (summary k c.args.entry.now) b c.if-covers.ensures in
          subst (λ ys. MatchResult c.unread.result (λ b. MatchBool b (g.G.Gather.met c.unread.new.self before buffer (xs ++ ys)) (g.G.Gather.met c.unread.new.self before buffer xs)) (λ e. ⊥)) (sym e)
          (c.unread.ensures.lawful before buffer xs ps long (sym b.counted) (subst (λ ys. length (xs ++ ys) < 2 ^ 32) e few) met);
      always = λ before buffer long fair. c.unread.ensures.always _ _ before buffer long fair;
      refused = c.unread.ensures.refused;
      same = c.unread.ensures.same;
    }
