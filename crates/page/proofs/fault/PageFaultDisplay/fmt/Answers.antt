use Rattle.page.proofs.fault.PageFaultDisplay.fmt.Goals as goal

pub returns-in-Store-clause-writes : goal.returns-in-Store-clause-writes
returns-in-Store-clause-writes g c = rw c.in-Store.is c.write.ensures.writes

pub returns-in-Kind-clause-writes : goal.returns-in-Kind-clause-writes
returns-in-Kind-clause-writes g c = rw c.in-Kind.is c.write-in-Kind.ensures.writes

pub returns-in-Field-clause-writes : goal.returns-in-Field-clause-writes
returns-in-Field-clause-writes g c = rw c.in-Field.is c.write-in-Field.ensures.writes
