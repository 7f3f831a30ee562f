use Rattle.std.proofs.Common.{arith, refl}
use Rattle.lists.specs.At.{insert_at}
use Rattle.state.specs.Stored.{represented, carried}
use Rattle.state.specs.Held.{held-place, held-room, held-insert}
use Rattle.state.proofs.held.insert.Goals as goal

pub bounds-words-COUNT : goal.bounds-words-COUNT
bounds-words-COUNT g c = rw c.COUNT.ensures (held-place g.met.R.Held.held (represented c.args.s.now.holds))

pub insert-requires : goal.insert-requires
insert-requires g c =
    let k = g.met.R.Held.held in
    rw (c.AT.ensures, c.WIDTH.ensures, c.WIDTH-2.ensures, c.words.ensures, c.COUNT.ensures, k.wide _ c.requires.row_value)
    (held-room k (represented c.args.s.now.holds) c.args.i c.requires.i_bound.0 c.requires.i_bound.1)

pub overflow_add-words : goal.overflow_add-words
overflow_add-words g c = rw c.COUNT.ensures (omega (arith, g.met.R.Held.held.few, c.requires.i_bound))

pub bounds-words-COUNT-2 : goal.bounds-words-COUNT-2
bounds-words-COUNT-2 g c = rw c.COUNT-2.ensures (omega (arith, held-place g.met.R.Held.held (represented c.args.s.now.holds)))

pub invariant_of-s : goal.invariant_of-s
invariant_of-s g c =
    record {
      holds = carried (λ st. g.R.Held.with (insert_at c.args.i (g.R.Held.words c.args.row.now) (g.R.Held.rows st)) st) c.args.s.now.holds
          (λ st h. rw (c.insert.ensures, c.AT.ensures, c.WIDTH.ensures, c.WIDTH-2.ensures, c.words.ensures, c.COUNT.ensures, c.COUNT-2.ensures)
          (held-insert g.met.R.Held.held h c.args.i _ c.requires.i_bound.0 c.requires.i_bound.1 c.requires.row_value));
    }

pub returns : goal.returns
returns g c =
    record {
      holds = λ st h.
          rw (c.insert.ensures, c.AT.ensures, c.WIDTH.ensures, c.WIDTH-2.ensures, c.words.ensures, c.COUNT.ensures, c.COUNT-2.ensures)
          (held-insert g.met.R.Held.held h c.args.i _ c.requires.i_bound.0 c.requires.i_bound.1 c.requires.row_value);
      place = refl;
    }
