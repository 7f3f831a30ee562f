-- `row_route::no_host_bits` meets its contract: the shift keeps the host bits in the low word, and them alone.
-- Assumes nothing.
use Rattle.row_route.specs.Fit.{host_shifted}
use Rattle.row_route.proofs.no_host_bits.Goals as goal

pub returns : goal.returns
returns c = host_shifted c.args.ip c.args.prefix c.requires
