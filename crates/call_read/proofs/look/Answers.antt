-- `call_read::look` meets its contract.
use Rattle.std.proofs.Common.{sym, subst, ap, ◌∙◌}
use Rattle.definition.specs.Reference.Lookup.{lookup_in}
use Rattle.refusal.specs.Refusal.{Refuses}
use Rattle.rows_lookup.specs.Flow.{flow_of}
use Rattle.call_read.specs.Answer.{found_number}
use Rattle.call_read.specs.Laws.{found, missed, row-found, no-row, no-row-number, exit}
use Rattle.call_read.proofs.look.Goals as goal

pub returns-in_err-r : goal.returns-in_err-r
returns-in_err-r c =
    record {
      value = λ st h.
          let m = missed (lookup_in st (flow_of c.args.f)) (c.lookup4_in.ensures st h) c.in_err-r.was in
          subst (λ x. Refuses x (found_number (lookup_in st (flow_of c.args.f)))) (sym (exit c.from_residual.ensures.1)) (no-row-number st (flow_of c.args.f) c.args.row.now m);
      row_after = λ st h. no-row st (flow_of c.args.f) c.args.row.now (missed (lookup_in st (flow_of c.args.f)) (c.lookup4_in.ensures st h) c.in_err-r.was);
    }

pub returns : goal.returns
returns c =
    record {
      value = λ st h. sym (ap found_number (found (lookup_in st (flow_of c.args.f)) (c.lookup4_in.ensures st h) c.in_ok-r.was));
      row_after = λ st h. c.store.ensures ∙ row-found st (flow_of c.args.f) c.args.row.now (found (lookup_in st (flow_of c.args.f)) (c.lookup4_in.ensures st h) c.in_ok-r.was);
    }
