use Rattle.std.proofs.Common.{arith, ◌∙◌, ap, sym, length}
use Rattle.state.specs.Represents.{count-addresses}
use Rattle.state.specs.InUse.{laid-addresses, lays_addresses, address-end}
use Rattle.state.specs.Stored.{represented}
use Rattle.state.proofs.stored.Stored.addresses.Goals as goal

pub overflow_mul-end : goal.overflow_mul-end
overflow_mul-end c = omega (arith, c.address_count.ensures, (address-end (represented c.args.self.holds)).1)

pub overflow_add-end : goal.overflow_add-end
overflow_add-end c = omega (arith, c.address_count.ensures, (address-end (represented c.args.self.holds)).1)

pub slice_bounds-rows_of-end : goal.slice_bounds-rows_of-end
slice_bounds-rows_of-end c = omega (arith, c.address_count.ensures, (address-end (represented c.args.self.holds)).0)

pub rows_of-requires : goal.rows_of-requires
rows_of-requires c = (omega arith, (omega arith, rw c.address_count.ensures (lays_addresses (represented c.args.self.holds))))

pub returns-clause-rows : goal.returns-clause-rows
returns-clause-rows c = λ st h. c.rows_of.ensures st.addresses (rw c.address_count.ensures (laid-addresses h))

pub returns-clause-count : goal.returns-clause-count
returns-clause-count c =
    let h = represented c.args.self.holds in
    ap length (c.rows_of.ensures _ (rw c.address_count.ensures (laid-addresses h))) ∙ sym (count-addresses h)
