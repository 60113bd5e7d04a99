use Rattle.origin.proofs.Laws.{start, apart, one}
use Rattle.origin.proofs.laws_stand.Goals as goal

pub returns : goal.returns
returns c = record { start = start; apart = apart; one = one c.numbers_stand.ensures }
