use Rattle.std.proofs.Common.{length, refl, sym, subst}
use Rattle.std.proofs.lemmas.Result.{err_from_is_err_and}
use Rattle.tree.specs.Book.{ListsFrom, windowed}
use Rattle.scan.specs.Listing.{Listed, ListFair, ListBuffer}
use Rattle.scan.proofs.Wholes.{whole}
use Rattle.scan.proofs.Answering.{refused_exit, answered_window}
use Rattle.scan.proofs.Listing.{listed_none, fair_none}
use Rattle.scan.proofs.list.list.Goals as goal

-- no window: the buffer is kept
pub returns-in_err-window-clause-lawful : goal.returns-in_err-window-clause-lawful
returns-in_err-window-clause-lawful g c set w =
    let k = g.K.PointKind.kind in
    let exit = err_from_is_err_and c.from_residual.result c.from_residual.ensures.1 in (
      refused_exit k _ set c.args.window.now (ListsFrom c.args.skip (length c.args.buffer.now)) c.from_residual.result c.in_err-window.field-0.0 exit.0 exit.1 exit.2 c.in_err-window.ensures,
      subst (ListBuffer k set c.args.window.now.low c.args.window.now.high c.args.skip c.args.buffer.now c.args.buffer.now) (sym exit.1) refl,
    )

-- a damaged card
pub returns-in_err-scan-clause-lawful : goal.returns-in_err-scan-clause-lawful
returns-in_err-scan-clause-lawful g c set w = absurd (c.in_err-scan.ensures.lawful set w c.args.buffer.now (listed_none c.args.skip c.args.buffer.now))

pub returns : goal.returns
returns g c =
    let k = g.K.PointKind.kind in
    let same = sym c.in_ok-window.ensures in
    let w = c.in_ok-window.window in
    let x = c.scan.new.gather in
    let skip = c.scan.ensures.same in
    record {
      lawful = λ set l.
          let v = subst (λ n. Listed n x.seen x.written c.args.buffer.now c.scan.new.buffer (windowed k w.corners.low w.corners.high set)) skip
          (c.in_ok-scan.ensures.lawful set l c.args.buffer.now (listed_none c.args.skip c.args.buffer.now)) in
          rw same (answered_window k _ set w.corners (ListsFrom c.args.skip (length c.args.buffer.now)) _ (whole w) (v.given, v.all), v.shown);
      always = rw same (
        (whole w, tt),
        subst (λ n. ListFair k n x.seen x.written w.corners.low w.corners.high c.args.buffer.now c.scan.new.buffer) skip
            (c.in_ok-scan.ensures.always c.args.buffer.now (fair_none k c.args.skip w.corners.low w.corners.high c.args.buffer.now)),
      );
      keeps = c.scan.ensures.keeps;
    }
