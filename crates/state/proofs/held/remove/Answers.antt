use Rattle.std.proofs.Common.{arith, refl}
use Rattle.state.specs.Represents.{holds-long}
use Rattle.lists.specs.At.{remove_at}
use Rattle.state.specs.Stored.{represented, carried}
use Rattle.state.specs.Held.{held-end, held-remove}
use Rattle.state.proofs.held.remove.Goals as goal

pub overflow_mul-WIDTH : goal.overflow_mul-WIDTH
overflow_mul-WIDTH g c =
    let h = represented c.args.s.now.holds in
    rw c.WIDTH.ensures (omega (arith, held-end g.met.R.Held.held h c.args.i c.requires.i_bound, holds-long h))

pub overflow_add-AT : goal.overflow_add-AT
overflow_add-AT g c =
    let h = represented c.args.s.now.holds in
    rw (c.AT.ensures, c.WIDTH.ensures) (omega (arith, held-end g.met.R.Held.held h c.args.i c.requires.i_bound, holds-long h))

pub overflow_mul-WIDTH-2 : goal.overflow_mul-WIDTH-2
overflow_mul-WIDTH-2 g c =
    let h = represented c.args.s.now.holds in
    rw (c.WIDTH-3.ensures, c.COUNT.ensures) (omega (arith, held-end g.met.R.Held.held h c.args.i c.requires.i_bound, holds-long h))

pub remove-requires : goal.remove-requires
remove-requires g c =
    rw (c.AT.ensures, c.WIDTH.ensures, c.WIDTH-2.ensures, c.WIDTH-3.ensures, c.COUNT.ensures)
    (held-end g.met.R.Held.held (represented c.args.s.now.holds) c.args.i c.requires.i_bound)

pub invariant_of-s : goal.invariant_of-s
invariant_of-s g c =
    record {
      holds = carried (λ st. g.R.Held.with (remove_at c.args.i (g.R.Held.rows st)) st) c.args.s.now.holds
          (λ st h. rw (c.remove.ensures, c.AT.ensures, c.WIDTH.ensures, c.WIDTH-2.ensures, c.WIDTH-3.ensures, c.COUNT.ensures, c.COUNT-2.ensures)
          (held-remove g.met.R.Held.held h c.args.i c.requires.i_bound));
    }

pub returns : goal.returns
returns g c =
    record {
      holds = λ st h.
          rw (c.remove.ensures, c.AT.ensures, c.WIDTH.ensures, c.WIDTH-2.ensures, c.WIDTH-3.ensures, c.COUNT.ensures, c.COUNT-2.ensures)
          (held-remove g.met.R.Held.held h c.args.i c.requires.i_bound);
      place = refl;
    }
