use Rattle.tree.proofs.Examples.{example}
use Rattle.tree.proofs.example_stands.Goals as goal

pub returns : goal.returns
returns c = example
