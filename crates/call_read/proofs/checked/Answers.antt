-- `call_read::checked` meets its contract: lengths first, then the form of the words, then the request.
use Rattle.std.proofs.Common.{ap, ◌∙◌, length, Bool}
use Rattle.refusal.specs.Refusal.{unless}
use Rattle.refusal.specs.declared.Refusal.TheVariants.{WrongLength, Malformed}
use Rattle.call_read.specs.Laws.{state-long, formed-held, passing}
use Rattle.call_read.proofs.checked.Goals as goal

pub formed-requires : goal.formed-requires
formed-requires g c = state-long (length c.args.s.now) c.args.buffers WrongLength c.in_ok-unless.was c.unless.ensures

pub returns-clause-passes : goal.returns-clause-passes
returns-clause-passes g c =
    let long = state-long (length c.args.s.now) c.args.buffers WrongLength c.in_ok-unless.was c.unless.ensures in
    passing c.args.request c.args.s.now long
    (formed-held c.args.s.now Malformed long c.in_ok-unless-2.was (c.unless-2.ensures ∙ ap (λ (b : Bool). unless b Malformed) c.formed.ensures))
