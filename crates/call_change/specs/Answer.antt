-- What a changing call promises by its contract.
use Rattle.std.specs.Prelude.{◌≡◌, List, ℕ}
use Rattle.std.specs.Prelude.{Result as Answer}
use Rattle.lists.specs.Lists.{flat, put}
use Rattle.refusal.specs.declared.Refusal.{Refusal}
use Rattle.refusal.specs.Refusal.{Refuses}
use Rattle.definition.specs.Call.{numbers}
use Rattle.definition.specs.Step.{Result}
use Rattle.call_read.specs.Answer.{answer_by, valuing}

-- of its answer r, the words w' and the event buffer, which was ev, by the result that the definition gives: r is a refusal exactly
-- where the reply is one, with the reply's numbers; the words are the result's; the rows are written at the buffer's start
pub record Answers (x : Result) (w' ev ev' : List ℕ) (r : Answer ℕ Refusal) : Type 0 where
  pub refuses : Refuses r x.reply.number
  pub says : answer_by valuing r ≡ numbers x.reply
  pub words : w' ≡ x.words
  pub events : ev' ≡ put 0 (flat x.reply.rows) ev
