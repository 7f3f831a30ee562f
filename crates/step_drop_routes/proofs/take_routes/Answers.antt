use Rattle.std.proofs.Common.{ap, ◌∙◌, List}
use Rattle.lists.specs.Lists.{Row, any}
use Rattle.definition.specs.State.{also, through}
use Rattle.definition.specs.Preservation.Shrinking.{potential}
use Rattle.step_events.specs.EmitsWithin.{rest-fits, rest-room, step-also}
use Rattle.step_drop_routes.specs.One.{unless_wanted, loses, fall_from}
use Rattle.step_drop_routes.specs.Iterations.{room_left, gone_room, routes-gone}
use Rattle.step_drop_routes.proofs.take_routes.Goals as goal

pub delete_unwanted-requires : goal.delete_unwanted-requires
delete_unwanted-requires c = record { state = c.requires.state; fits = room_left c.requires.fits }

pub fall-requires : goal.fall-requires
fall-requires c = rest-room potential (c.delete_unwanted.ensures c.requires.state (room_left c.requires.fits))

pub disable-requires : goal.disable-requires
disable-requires c =
    let t = c.delete_unwanted.ensures c.requires.state (room_left c.requires.fits) in
    let u = c.fall.ensures (through unless_wanted c.args.rows.now c.requires.state).state (rest-fits potential t) in
    let v = step-also potential t (fall_from c.args.ip c.loses-lost.result) u in
    record { state = _; fits = gone_room c.args.ip c.args.rows.now c.loses-lost.result c.requires.fits v }

pub returns : goal.returns
returns c =
    λ st f.
    let t = c.delete_unwanted.ensures st (room_left f) in
    let m = (through unless_wanted c.args.rows.now st).state in
    let left = c.addresses.ensures.rows m (rw c.stored.ensures t.emits.holds) in
    let v = step-also potential t (fall_from c.args.ip c.loses-lost.result) (c.fall.ensures m (rest-fits potential t)) in
    routes-gone c.args.ip c.args.rows.now c.loses-lost.result
    (c.loses-lost.ensures ∙ ap (λ (l : List Row). any (loses l) c.args.rows.now) left) v
    (c.disable.ensures (also (through unless_wanted c.args.rows.now st) (fall_from c.args.ip c.loses-lost.result)).state (gone_room c.args.ip c.args.rows.now c.loses-lost.result f v))
