-- The listing of the state that is read.
use Rattle.std.proofs.Common.{sym, ap, ◌∙◌}
use Rattle.definition.specs.Words.{base}
use Rattle.state.specs.Stored.{formed-represents}
use Rattle.text.specs.Wrote.{same}
use Rattle.app_show.specs.Show.{shown, shown_words}
use Rattle.app_show.specs.Laws.{shown-words, shown-well, base-read, lists-formed}
use Rattle.app_show.proofs.show_bytes.Goals as goal

pub slice_bounds-words-end : goal.slice_bounds-words-end
slice_bounds-words-end c = sym (base-read c.in-Ok.s c.args.bytes.now c.in-Ok.ensures.0 c.in-Ok.ensures.1)

pub invariant_of-show_listing : goal.invariant_of-show_listing
invariant_of-show_listing c =
    record {
      holds = formed-represents (base c.in-Ok.s) (base-read c.in-Ok.s c.args.bytes.now c.in-Ok.ensures.0 c.in-Ok.ensures.1) (lists-formed c.in-Ok.s c.in-Ok.ensures.2);
    }

pub show_listing-requires-clause-formed : goal.show_listing-requires-clause-formed
show_listing-requires-clause-formed c = lists-formed c.in-Ok.s c.in-Ok.ensures.2

pub returns-in-Ok : goal.returns-in-Ok
returns-in-Ok c =
    let is = shown-words c.args.bytes.now c.in-Ok.ensures.1 ∙ ap shown_words (sym c.in-Ok.ensures.0) ∙ shown-well c.in-Ok.s c.in-Ok.ensures.2 in
    same (shown c.args.bytes.now) (sym is) c.show_listing.ensures
