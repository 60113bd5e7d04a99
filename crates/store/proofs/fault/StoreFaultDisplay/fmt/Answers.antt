use Rattle.store.proofs.fault.StoreFaultDisplay.fmt.Goals as goal

pub returns-in-NoPage-clause-writes : goal.returns-in-NoPage-clause-writes
returns-in-NoPage-clause-writes g c = rw c.in-NoPage.is c.write.ensures.writes

pub returns-in-BadBuffer-clause-writes : goal.returns-in-BadBuffer-clause-writes
returns-in-BadBuffer-clause-writes g c = rw c.in-BadBuffer.is c.write-in-BadBuffer.ensures.writes
