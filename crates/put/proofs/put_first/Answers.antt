use Rattle.std.proofs.Common.{length, set, refl, ap, arith}
use Rattle.access.proofs.Heads.{no_root}
use Rattle.access.proofs.Writes.{written_as}
use Rattle.put.proofs.Chains.{first_link, next_is}
use Rattle.put.proofs.Roots.{chain_some, first_step}
use Rattle.put.proofs.put_first.Goals as goal

-- a lawful card with no points has free pages
pub returns-then-head-eq0-clause-lawful : goal.returns-then-head-eq0-clause-lawful
returns-then-head-eq0-clause-lawful g c set w f n e =
    let k = g.K.PointKind.kind in
    let s = g.met.K.PointKind.sound in
    let m = chain_some k s _ set w c.args.p.now c.requires.on (no_root k s _ set w e).0 in
    absurd (omega (arith, n, m, c.if-head-eq0.true))

-- the first page of its chain is free
pub returns-in_err-rest-clause-lawful : goal.returns-in_err-rest-clause-lawful
returns-in_err-rest-clause-lawful g c set w f n e =
    let k = g.K.PointKind.kind in
    let s = g.met.K.PointKind.sound in
    let m = chain_some k s _ set w c.args.p.now c.requires.on (no_root k s _ set w e).0 in
    absurd (c.in_err-rest.ensures.gives.1 _ (first_link k s _ set w _ m f).reads)

pub returns-clause-lawful : goal.returns-clause-lawful
returns-clause-lawful g c set' w f n e =
    let k = g.K.PointKind.kind in
    let s = g.met.K.PointKind.sound in
    let p = c.args.p.now in
    let first = c.args.head.now.first in
    let wrote = written_as c.put_page.ensures c.next_page.ensures.keeps c.from.ensures c.lone_page.ensures in
    let z = no_root k s _ set' w e in
    let m = chain_some k s _ set' w p c.requires.on z.0 in
    let l = first_link k s _ set' w first m f in
    let i = next_is k s _ _ _ _ l c.in_ok-rest.ensures.gives.1 in
    let j = ap length l.is in
    first_step k s _ set' w p c.requires.on first _ _ _ _ _ l z.0 z.1 i (omega (arith, n, j)) c.lone_entry.ensures wrote (written_as c.put_page-2.ensures refl refl c.head_page.ensures) c.in_ok-rest.ensures.gives.0
