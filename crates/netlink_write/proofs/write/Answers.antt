-- The headers and the body, once the length is set, are the event's message.
use Rattle.std.proofs.Common.{rules, arith, ap, ◌∙◌, ◌≡◌, List, ℕ, length}
use Rattle.lists.specs.Lists.{put}
use Rattle.netlink_event.specs.Writer.{flags, type_of, event_message}
use Rattle.netlink_event.proofs.Fit.{flags-fit}
use Rattle.netlink_write.specs.Parts.{body}
use Rattle.netlink_write.proofs.Message.{four-kinds, framed-long, framed-put, event-framed}
use Rattle.netlink_write.proofs.write.Goals as goal

pub message_type-requires : goal.message_type-requires
message_type-requires c = four-kinds c.args.clock c.args.event.now c.requires.fit

pub overflow_cast-event : goal.overflow_cast-event
overflow_cast-event c = omega (arith, flags-fit c.args.event.now c.requires.fit)

pub returns-clause-value : goal.returns-clause-value
returns-clause-value c =
    let e = c.args.event.now in
    let header = rw c.message_type.ensures at c.header.ensures in
    framed-long (type_of e) (flags e) c.args.sequence c.args.port (body c.args.clock e) c.new-w.ensures.len header c.body.ensures.text c.set_length.ensures
    ∙ ap length (event-framed c.args.clock e c.requires.fit c.args.sequence c.args.port)

pub returns-clause-out_after : goal.returns-clause-out_after
returns-clause-out_after c =
    let e = c.args.event.now in
    let header = rw c.message_type.ensures at c.header.ensures in
    let message : c.set_length.new.self.out.now ≡ put 0 (event_message c.args.sequence c.args.port c.args.clock e) c.args.out.now =
    framed-put (type_of e) (flags e) c.args.sequence c.args.port (body c.args.clock e) c.new-w.ensures.len header c.body.ensures.text c.set_length.ensures
    ∙ ap (λ (l : List ℕ). put 0 l c.new-w.result.out.now) (event-framed c.args.clock e c.requires.fit c.args.sequence c.args.port)
    ∙ ap (put 0 (event_message c.args.sequence c.args.port c.args.clock e)) c.new-w.ensures.now
    in
    search rules
