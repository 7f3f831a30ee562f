-- `interface4::masks::interface4_add_v4_mask` meets its contract.
-- Assumes nothing.
use Rattle.std.proofs.Common.{rules, ap, ◌∙◌}
use Rattle.endian.specs.Endian.{words_of}
use Rattle.call_mask.specs.Masked.{add_v4_mask_call}
use Rattle.interface4.specs.Mask.{good-on, refused-on, add_v4_asking}
use Rattle.interface4.proofs.masks.interface4_add_v4_mask.Goals as goal

pub returns-in-Ok : goal.returns-in-Ok
unfolding add_v4_mask_call
returns-in-Ok c =
    good-on (add_v4_asking c.args.clock) c.args.request.now c.args.state.now c.args.events.now c.in-Ok.ensures.0 c.in-Ok.ensures.1 (ap words_of c.as_flattened.ensures.value ∙ c.in-Ok.ensures.2) (search rules) c.interface4_add_v4.ensures

pub returns-in-Err : goal.returns-in-Err
unfolding add_v4_mask_call
returns-in-Err c =
    refused-on (add_v4_asking c.args.clock) c.args.request.now c.args.state.now c.args.events.now (λ i. (c.slice_known-1.given i).fits) c.in-Err.ensures
