use Rattle.std.proofs.Common.{ap, ◌∙◌, arith, ◌≡◌, ◌+◌, ◌-◌}
use Rattle.definition.specs.Words.{address_count}
use Rattle.definition.specs.Preservation.Shrinking.{potential}
use Rattle.state.specs.Represents.{sizes_of}
use Rattle.state.specs.Stored.{represented}
use Rattle.step_events.specs.Iterations.{going_ready}
use Rattle.step_remove_v4.specs.One.{gone-start, gone-facts, gone-next, gone-last}
use Rattle.step_remove_v4.proofs.remove_secondaries.Goals as goal

pub loop-j-init : goal.loop-j-init
loop-j-init c = λ st f. gone-start c.args.a.now c.address_count-n.result (c.address_count-n.ensures ∙ ap address_count c.stored.ensures) f

pub overflow_add-i : goal.overflow_add-i
overflow_add-i c =
    let n = c.address_count-n.ensures ∙ ap address_count c.stored.ensures in
    let m = c.address_count.ensures ∙ ap address_count c.stored-in-loop-j.ensures in
    let most = (sizes_of (represented c.args.change.now.state.holds)).addresses in
    record { fits = omega (arith, gone-facts c.args.a.now c.address_count-n.result c.loop-j.j (c.loop-j.invariant c.requires.state c.requires.fits), most) }

pub overflow_sub-i : goal.overflow_sub-i
overflow_sub-i c =
    let n = c.address_count.ensures ∙ ap address_count c.stored-in-loop-j.ensures in
    omega (arith, (gone-facts c.args.a.now c.address_count-n.result c.loop-j.j (c.loop-j.invariant c.requires.state c.requires.fits)))

pub gone_iteration-requires : goal.gone_iteration-requires
gone_iteration-requires c =
    let n = c.address_count.ensures ∙ ap address_count c.stored-in-loop-j.ensures in
    let g = c.loop-j.invariant c.requires.state c.requires.fits in
    record {
      some_room = going_ready potential g;
      i_bound = omega (arith, c.loop-j-test.true, gone-facts c.args.a.now c.address_count-n.result c.loop-j.j g);
    }

pub loop-j-preserved : goal.loop-j-preserved
loop-j-preserved c =
    λ st f.
    let n = c.address_count.ensures ∙ ap address_count c.stored-in-loop-j.ensures in
    let i = c.loop-j.j + c.address_count.result - c.address_count-n.result in
    let g = c.loop-j.invariant st f in
    let e : i + c.address_count-n.result ≡ c.loop-j.j + address_count c.loop-j.change.state.words.now = omega (arith, gone-facts c.args.a.now c.address_count-n.result c.loop-j.j g) in
    gone-next c.args.a.now c.address_count-n.result c.loop-j.j g c.loop-j-test.true i e c.gone_iteration.ensures

pub returns : goal.returns
returns c = λ st f. gone-last c.args.a.now c.address_count-n.result c.loop-j.j (c.loop-j.invariant st f) c.loop-j-test.false
