use Rattle.std.proofs.Common.{Some}
use Rattle.page.specs.declared.head_page.Head.{Head}
use Rattle.page.specs.Checks.{HeadRead}
use Rattle.access.proofs.Heads.{never_headless, head_is}
use Rattle.access.proofs.load_head.Goals as goal

-- the head of a lawful card is read
pub returns-in_err-read_head-clause-lawful : goal.returns-in_err-read_head-clause-lawful
returns-in_err-read_head-clause-lawful g c set w =
    let k = g.K.PointKind.kind in
    let bs = c.in_ok-bytes.bytes in
    absurd (never_headless k g.met.K.PointKind.sound _ set w {X = Head g.row.K.Denot} bs (λ x. HeadRead k bs (Some x)) c.in_err-read_head.field-0.0 c.in_ok-bytes.ensures.gives.1 c.in_err-read_head.ensures)

pub returns-clause-lawful : goal.returns-clause-lawful
returns-clause-lawful g c set w = head_is g.K.PointKind.kind g.met.K.PointKind.sound _ set w c.in_ok-bytes.bytes _ _ _ c.in_ok-bytes.ensures.gives.1 c.in_ok-read_head.ensures.1
