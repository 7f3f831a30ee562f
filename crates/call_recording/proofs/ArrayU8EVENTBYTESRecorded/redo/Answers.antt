-- `call_recording::ArrayU8EVENTBYTESRecorded::redo` meets its contract.
use Rattle.std.proofs.Common.{arith, refl}
use Rattle.endian.specs.Laws.{words-whole}
use Rattle.call_recording.proofs.ArrayU8EVENTBYTESRecorded.redo.Goals as goal

pub returns-clause-came : goal.returns-clause-came
returns-clause-came c =
    λ l h. rw (words-whole 34 c.args.self.now _ _ (omega arith) refl c.words_of.ensures) at (c.event.ensures.came l h)
