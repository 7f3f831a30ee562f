use Rattle.std.proofs.Common.{arith, refl}
use Rattle.std.specs.Prelude.{set}
use Rattle.state.specs.Stored.{represented, carried}
use Rattle.state.specs.Held.{held-end, held-replace}
use Rattle.state.specs.Represents.{holds-long}
use Rattle.state.proofs.held.replace.Goals as goal

pub overflow_mul-WIDTH : goal.overflow_mul-WIDTH
overflow_mul-WIDTH g c =
    rw c.WIDTH.ensures (omega (arith, held-end g.met.R.Held.held (represented c.args.s.now.holds) c.args.i c.requires.i_bound, holds-long (represented c.args.s.now.holds)))

pub overflow_add-AT : goal.overflow_add-AT
overflow_add-AT g c =
    rw (c.AT.ensures, c.WIDTH.ensures) (omega (arith, held-end g.met.R.Held.held (represented c.args.s.now.holds) c.args.i c.requires.i_bound, holds-long (represented c.args.s.now.holds)))

pub store-requires : goal.store-requires
store-requires g c =
    let k = g.met.R.Held.held in
    rw (c.AT.ensures, c.WIDTH.ensures, c.words.ensures, k.wide _ c.requires.row_value)
    (omega (arith, held-end k (represented c.args.s.now.holds) c.args.i c.requires.i_bound))

pub invariant_of-s : goal.invariant_of-s
invariant_of-s g c =
    record {
      holds = carried (λ st. g.R.Held.with (set (g.R.Held.rows st) c.args.i (g.R.Held.words c.args.row.now)) st) c.args.s.now.holds
          (λ st h. rw (c.store.ensures, c.AT.ensures, c.WIDTH.ensures, c.words.ensures)
          (held-replace g.met.R.Held.held h c.args.i _ c.requires.i_bound c.requires.row_value));
    }

pub returns : goal.returns
returns g c =
    record {
      holds = λ st h.
          rw (c.store.ensures, c.AT.ensures, c.WIDTH.ensures, c.words.ensures)
          (held-replace g.met.R.Held.held h c.args.i _ c.requires.i_bound c.requires.row_value);
      place = refl;
    }
