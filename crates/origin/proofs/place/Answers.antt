use Rattle.std.proofs.Common.{rules, ◌≡◌, ◌+◌, ap, ◌∙◌}
use Rattle.origin.proofs.place.Goals as goal

pub returns : goal.returns
returns c =
    let m = rw c.in_ok-course.ensures.ok_part at c.checked_add-course.ensures in
    let e : c.in_ok-course.course ≡ c.args.origin.course + c.args.point.course = m.1 ∙ ap (λ n. n + c.args.point.course) c.course.ensures in
    search rules
