use Rattle.std.proofs.Common.{ap, ◌∙◌, List}
use Rattle.lists.specs.Lists.{Row}
use Rattle.definition.specs.Reference.Removal.{leaving}
use Rattle.step_remove_v4.specs.One.{gone_from, closing_room, one-step}
use Rattle.step_remove_v4.proofs.remove_one.Goals as goal

pub take_routes-requires : goal.take_routes-requires
take_routes-requires c =
    record {
      state = _;
      fits = closing_room c.args.a.now c.requires.there (c.take_out.ensures c.requires.state c.requires.fits c.requires.there);
    }

pub returns : goal.returns
returns c =
    λ st f q.
    let rows = c.addresses.ensures.rows st (rw c.stored.ensures f.holds) in
    let routes = c.as_slice.ensures.value ∙ c.leaving-routes.ensures ∙ ap (λ (l : List Row). leaving l c.args.a.now) rows in
    let t = c.take_out.ensures st f q in
    one-step c.args.a.now f q t (rw routes at (c.take_routes.ensures (gone_from c.args.a.now st).state (closing_room c.args.a.now q t)))
