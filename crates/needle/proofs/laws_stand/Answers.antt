use Rattle.needle.proofs.Laws.{back, again, greatest}
use Rattle.needle.proofs.laws_stand.Goals as goal

pub returns : goal.returns
returns c = record { back = back; again = again; greatest = greatest }
