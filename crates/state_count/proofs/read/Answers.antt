-- `state_count::read` meets its contract.
use Rattle.state_count.specs.Count.{count-read}
use Rattle.state_count.proofs.read.Goals as goal

pub returns : goal.returns
returns c = count-read c.args.state.now c.of_words.result c.of_words.ensures
