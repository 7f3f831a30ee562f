use Rattle.std.proofs.Common.{◌<◌, true, [], length, get_or}
use Rattle.lists.specs.At.{all-at}
use Rattle.layout.specs.Address.{fit_address}
use Rattle.step_new_address.specs.New.{routes-fit}
use Rattle.step_add_v4.proofs.install_at.Goals as goal

pub invariant_of-install : goal.invariant_of-install
invariant_of-install c =
    let there : c.args.i < length c.addresses-addresses.result.rows.now = rw (c.addresses-addresses.ensures.count, c.stored.ensures) c.requires.i_bound in
    record {
      fit = rw (c.as_slice.ensures.value, c.candidates-block.ensures)
          (routes-fit c.addresses-addresses.result.rows.now true (get_or c.addresses-addresses.result.rows.now c.args.i []) (all-at fit_address c.args.i c.addresses-addresses.result.rows.now [] there c.addresses-addresses.result.fit));
    }
