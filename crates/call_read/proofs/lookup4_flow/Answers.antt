-- `call_read::lookup4_flow` meets its contract.
use Rattle.std.proofs.Common.{length, leb-true, ltb}
use Rattle.definition.specs.Words.{state_of}
use Rattle.definition.specs.Reference.Lookup.{Flow, lookup4_flow}
use Rattle.definition.specs.Step.{unless, lookup4_flow_call}
use Rattle.call_read.specs.Laws.{held, passed, looking, writes_refused, look-yes}
use Rattle.call_read.proofs.lookup4_flow.Goals as goal

pub returns-in_err-s : goal.returns-in_err-s
unfolding lookup4_flow_call lookup4_flow
returns-in_err-s c =
    let flow : Flow = record { ip = c.args.ip; tos = c.args.tos; scope = 0; oif = c.args.oif } in
    writes_refused (looking c.args.row.now (unless (ltb c.args.tos 256) 202) flow) c.args.state.now c.args.row.now (c.reading.ensures.refuses _ c.fit_flow-fit.ensures) c.in_err-s.was c.from_residual.ensures.1

pub look-requires : goal.look-requires
look-requires c =
    let flow : Flow = record { ip = c.args.ip; tos = c.args.tos; scope = 0; oif = c.args.oif } in
    let p = passed (looking c.args.row.now (unless (ltb c.args.tos 256) 202) flow).checks c.args.state.now (c.reading.ensures.refuses _ c.fit_flow-fit.ensures) c.in_ok-s.was in
    leb-true 32 (length c.args.row.now) p.room

pub returns : goal.returns
unfolding lookup4_flow_call lookup4_flow
returns c =
    let flow : Flow = record { ip = c.args.ip; tos = c.args.tos; scope = 0; oif = c.args.oif } in
    let p = passed (looking c.args.row.now (unless (ltb c.args.tos 256) 202) flow).checks c.args.state.now (c.reading.ensures.refuses _ c.fit_flow-fit.ensures) c.in_ok-s.was in
    look-yes c.args.state.now c.args.row.now (unless (ltb c.args.tos 256) 202) flow p (c.look.ensures.value (state_of c.args.state.now) (held p c.in_ok-s.ensures.passes.0)) (c.look.ensures.row_after (state_of c.args.state.now) (held p c.in_ok-s.ensures.passes.0))
