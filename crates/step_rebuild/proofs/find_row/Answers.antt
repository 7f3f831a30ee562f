-- `step_rebuild::find_row` meets its contract.
use Rattle.std.proofs.Common.{◌≡◌, sym, ap, ◌∙◌, rules, arith, position, take, drop, length, ◌-◌, length-drop, take_all}
use Rattle.std.proofs.lemmas.List.Sorted.{IsPartitionPoint-from_clause}
use Rattle.lists.specs.Lists.{eq_row}
use Rattle.layout.specs.Route.{before}
use Rattle.step_insert.specs.Run.{ahead-parted}
use Rattle.step_rebuild.specs.Laws.{place-behind, none-behind}
use Rattle.step_rebuild.proofs.find_row.Goals as goal

pub returns-in_err-i-clause-place : goal.returns-in_err-i-clause-place
returns-in_err-i-clause-place c =
    λ o.
    let row = c.args.row.now in
    let l = c.args.rows.now in
    let i = c.partition_point-start.result in
    let rest : take (length l - i) (drop i l) ≡ drop i l = take_all (length l - i) (drop i l) (omega (arith, length-drop i l)) in
    let cut = IsPartitionPoint-from_clause (λ r. before r row) l i c.partition_point-start.ensures.partitioned (ahead-parted row l o) (λ a r q k. search rules) in
    let found : c.find_in.result ≡ position (eq_row row) (drop i l) = c.find_in.ensures ∙ ap (position (eq_row row)) rest in
    rw c.from_residual.ensures (none-behind row l i c.partition_point-start.ensures.bound cut (sym found ∙ c.in_err-i.was))

pub returns-clause-place : goal.returns-clause-place
returns-clause-place c =
    λ o.
    let row = c.args.row.now in
    let l = c.args.rows.now in
    let i = c.partition_point-start.result in
    let rest : take (length l - i) (drop i l) ≡ drop i l = take_all (length l - i) (drop i l) (omega (arith, length-drop i l)) in
    let cut = IsPartitionPoint-from_clause (λ r. before r row) l i c.partition_point-start.ensures.partitioned (ahead-parted row l o) (λ a r q k. search rules) in
    let found : c.find_in.result ≡ position (eq_row row) (drop i l) = c.find_in.ensures ∙ ap (position (eq_row row)) rest in
    place-behind row l i c.partition_point-start.ensures.bound cut c.in_ok-i.i (sym found ∙ c.in_ok-i.was)
