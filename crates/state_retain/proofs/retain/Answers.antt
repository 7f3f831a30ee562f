use Rattle.std.proofs.Common.{◌≡◌, arith, ◌∙◌, ap, refl}
use Rattle.std.proofs.lemmas.Fn.{says_at}
use Rattle.std.specs.Fn.{FnReturnsAt}
use Rattle.definition.specs.State.{with_routes}
use Rattle.definition.specs.Words.{route_count, decode}
use Rattle.state.specs.Represents.{sizes_of}
use Rattle.state.specs.Stored.{represented, representing}
use Rattle.state_retain.specs.Retain.{keeping_start, row_goes, row_stays, keeping_end, keeping_all}
use Rattle.state_retain.proofs.retain.Goals as goal
use Rattle.state_retain.proofs.retain.Goals.{then-stays, else-stays}

pub loop-i-init : goal.loop-i-init
loop-i-init g c = keeping_start (represented c.args.s.now.holds)

pub route_row-requires : goal.route_row-requires
route_row-requires g c = omega (arith, sizes_of (represented c.stored.result.holds))

pub settle-j-requires : goal.settle-j-requires
settle-j-requires g c = omega (arith, sizes_of (represented c.stored.result.holds))

pub loop-i-preserved : goal.loop-i-preserved
loop-i-preserved g c =
    let h = represented c.args.s.now.holds in
    let n = c.route_count-n.ensures ∙ ap route_count c.stored.ensures in
    let a : FnReturnsAt g.F.Fn c.args.stays c.route_row.result.now c.stays.result = says_at g.F.Fn c.stays.ensures refl in
    let here = rw c.route_row.ensures at a in
    elim c.if-stays.branch [
      | then-stays w ↦
          rw w.words-is (row_stays h c.loop-i.invariant (omega arith) (rw w.if-stays.true at here) (w.j-is ∙ w.settle-j.ensures.value) w.settle-j.auto.s w.settle-j.ensures.s_after)
      | else-stays w ↦ rw (w.words-is, w.j-is) (row_goes h c.loop-i.invariant (omega arith) (rw w.if-stays.false at here))
    ]

pub close-requires : goal.close-requires
close-requires g c = omega (arith, sizes_of (represented c.stored.result.holds))

pub invariant_of-s : goal.invariant_of-s
invariant_of-s g c =
    let all : c.loop-i.i ≡ c.route_count-n.result = omega arith in
    let k = rw all at c.loop-i.invariant in
    let n = c.route_count-n.ensures ∙ ap route_count c.stored.ensures in
    record { holds = representing {st = with_routes k.kept (decode c.args.s.now.words.now)} (keeping_end (represented c.args.s.now.holds) k n c.close.ensures) }

pub returns : goal.returns
returns g c =
    let all : c.loop-i.i ≡ c.route_count-n.result = omega arith in
    let k = rw all at c.loop-i.invariant in
    let n = c.route_count-n.ensures ∙ ap route_count c.stored.ensures in
    λ p d. record { holds = keeping_all (represented c.args.s.now.holds) k n c.close.ensures p d; place = refl {a = c.args.s.now.words.ghost_name} }
