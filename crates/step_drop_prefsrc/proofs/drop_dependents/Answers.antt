use Rattle.std.proofs.Common.{refl, rules, sym, ap, ◌∙◌, arith, ◌≡◌, not, List, [], get_or}
use Rattle.lists.specs.Lists.{Row}
use Rattle.definition.specs.Words.{route_count, decode}
use Rattle.definition.specs.Reference.Removal.{dependent_on}
use Rattle.state.specs.Stored.{represented}
use Rattle.step_events.specs.Emits.{tells-behind}
use Rattle.step_drop_prefsrc.specs.Delete.{ready_room}
use Rattle.step_drop_prefsrc.specs.Sweep.{sweeping_start, sweeping_room, sweeping_stays, sweeping_goes, sweeping_end}
use Rattle.step_drop_prefsrc.proofs.drop_dependents.Goals as goal
use Rattle.step_drop_prefsrc.proofs.drop_dependents.Goals.{then-dependents_from, else-dependents_from}

pub loop-i-init : goal.loop-i-init
loop-i-init c = sweeping_start (dependent_on c.args.ip) (decode c.args.change.now.state.words.now).routes c.args.change.now

pub del_route4-requires : goal.del_route4-requires
del_route4-requires c =
    let n : c.route_count-n.result ≡ route_count c.args.change.now.state.words.now = c.route_count-n.ensures ∙ ap route_count c.stored.ensures in
    sweeping_room (represented c.args.change.now.state.holds) c.loop-i.invariant (omega arith) (ready_room c.requires)

pub loop-i-preserved : goal.loop-i-preserved
loop-i-preserved c =
    let h = represented c.args.change.now.state.holds in
    let n : c.route_count-n.result ≡ route_count c.args.change.now.state.words.now = c.route_count-n.ensures ∙ ap route_count c.stored.ensures in
    let rows = c.routes.ensures.rows (decode c.args.change.now.state.words.now) (rw (c.stored-in-loop-i.ensures ∙ c.loop-i.invariant.same) h) in
    let row = ap (λ (l : List Row). get_or l c.loop-i.i []) rows in
    elim c.if-dependents_from.branch [
      | then-dependents_from w ↦
          rw w.change-is
          (sweeping_goes h c.loop-i.invariant (omega arith) row (sym c.dependents_from.ensures ∙ w.if-dependents_from.true) w.del_route4.ensures.tells w.del_route4.ensures.state)
      | else-dependents_from w ↦
          rw w.change-is (sweeping_stays h c.loop-i.invariant (omega arith) row (sym c.dependents_from.ensures ∙ w.if-dependents_from.false))
    ]

pub returns : goal.returns
returns c =
    let n = c.route_count-n.ensures ∙ ap route_count c.stored.ensures in
    let all : c.loop-i.i ≡ c.route_count-n.result = omega arith in
    let t = c.retain.ensures (λ r. not (dependent_on c.args.ip r)) (λ r b d. search rules) in
    λ st f. sweeping_end c.args.ip c.loop-i.invariant (all ∙ n) f t (λ rows k. tells-behind k refl refl t.place refl)
