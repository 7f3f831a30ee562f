-- `interface4::changing::give_back` meets its contract.
-- Assumes nothing.
use Rattle.interface4.specs.Changing.{state-back}
use Rattle.interface4.proofs.changing.give_back.Goals as goal

pub returns-then-kept : goal.returns-then-kept
returns-then-kept c =
    record { state_after = c.requires.state_value c.if-kept.true; below = λ i. (c.shared_slice_known-1.given i).fits }

pub returns : goal.returns
returns c =
    let back = state-back c.args.s.now c.args.state.now _ c.requires.s_len.0 c.requires.s_len.1 c.bytes_of.ensures in
    record { state_after = back; below = λ i. (c.shared_slice_known-1.given i).fits }
