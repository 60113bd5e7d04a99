use Rattle.std.proofs.Common.{refl, ap, ◌∙◌}
use Rattle.page.specs.Checks.{root_summary}
use Rattle.tree.specs.Book.{put_off}
use Rattle.put.proofs.Roots.{step_moved}
use Rattle.put.proofs.put.Goals as goal

-- off an axis
pub returns-then-not-on_axes-clause-lawful : goal.returns-then-not-on_axes-clause-lawful
returns-then-not-on_axes-clause-lawful g c set w = record { answers = put_off c.if-not-on_axes.ensures; leaves = refl }

-- the head of a lawful card is read
pub returns-in_err-head-clause-lawful : goal.returns-in_err-head-clause-lawful
returns-in_err-head-clause-lawful g c set w = absurd (c.in_err-head.ensures.lawful set w)

-- a draft with points
pub returns-in-Some-clause-lawful : goal.returns-in-Some-clause-lawful
returns-in-Some-clause-lawful g c set w =
    let k = g.K.PointKind.kind in
    let p = c.args.p.now in
    let keep = c.load_head.ensures.keeps in
    let h = c.in_ok-head.ensures.lawful set w in
    step_moved k _ _ set p _ _ _ c.put_more.result _ keep (c.put_more.ensures.lawful set) w h.0 h.1 (h.2 ∙ ap (root_summary k) c.in-Some.is)

-- an empty draft
pub returns-in-None-clause-lawful : goal.returns-in-None-clause-lawful
returns-in-None-clause-lawful g c set w =
    let k = g.K.PointKind.kind in
    let p = c.args.p.now in
    let keep = c.load_head.ensures.keeps in
    let h = c.in_ok-head.ensures.lawful set w in
    step_moved k _ _ set p _ _ _ c.put_first.result _ keep (c.put_first.ensures.lawful set) w h.0 h.1 (h.2 ∙ ap (root_summary k) c.in-None.is)
