use Rattle.std.proofs.Common.{[], refl, sym}
use Rattle.std.proofs.lemmas.Result.{err_from_is_err_and}
use Rattle.tree.specs.Book.{CountsFrom}
use Rattle.scan.proofs.Wholes.{whole}
use Rattle.scan.proofs.Answering.{refused_exit, answered_window}
use Rattle.scan.proofs.count.count.Goals as goal

-- no window
pub returns-in_err-window-clause-lawful : goal.returns-in_err-window-clause-lawful
returns-in_err-window-clause-lawful g c set w =
    let exit = err_from_is_err_and c.from_residual.result c.from_residual.ensures.1 in
    refused_exit g.K.PointKind.kind _ set c.args.window.now CountsFrom c.from_residual.result c.in_err-window.field-0.0 exit.0 exit.1 exit.2 c.in_err-window.ensures

-- a damaged card
pub returns-in_err-scan-clause-lawful : goal.returns-in_err-scan-clause-lawful
returns-in_err-scan-clause-lawful g c set w = absurd (c.in_err-scan.ensures.lawful set w [] refl)

pub returns : goal.returns
returns g c =
    let same = sym c.in_ok-window.ensures in
    let w = c.in_ok-window.window in
    record {
      lawful = λ set l. rw same (answered_window g.K.PointKind.kind _ set w.corners CountsFrom _ (whole w) (c.in_ok-scan.ensures.lawful set l [] refl));
      always = rw same (whole w, tt);
      keeps = c.scan.ensures.keeps;
    }
