use Rattle.std.proofs.Common.{arith, ap, refl, sym, ◌∙◌, ◌≡◌, Some, None, Ok, Err}
use Rattle.refusal.specs.declared.Refusal.TheVariants.{Full}
use Rattle.layout.specs.Route.{table}
use Rattle.definition.specs.Words.{address_count}
use Rattle.definition.specs.Preservation.Fit.{length-route}
use Rattle.definition.specs.Reference.Insert.{create4}
use Rattle.step_insert.specs.Plan.{Inserted, others-count}
use Rattle.step_events.specs.Emits.{tells-none, tells-behind, tells-ahead}
use Rattle.step_kernel_add.specs.Add.{created-count, created-fit, add_full_tables, add_put, add_none, add_full}
use Rattle.step_kernel_add.proofs.kernel_add4.Goals as goal

pub returns-then-tables_after-gt-TABLE_LIMIT-clause-comes : goal.returns-then-tables_after-gt-TABLE_LIMIT-clause-comes
returns-then-tables_after-gt-TABLE_LIMIT-clause-comes c =
    λ st h g. add_full_tables c.args.new.now st h (rw (← c.stored.ensures) (omega (arith, c.tables_after.ensures, c.if-tables_after-gt-TABLE_LIMIT.true)))

pub returns-in-Ok-Some-clause-comes : goal.returns-in-Ok-Some-clause-comes
returns-in-Ok-Some-clause-comes c =
    λ st h g.
    let i = c.insert4.ensures.inserted_into (create4 (table c.args.new.now) st) (c.list_table.ensures.holds st h) (created-fit (table c.args.new.now) st g) in
    let is : c.insert4.result ≡ Ok (Some c.in-Ok-Some.flags) = cc (c.in-Ok-Some.is, c.in-Ok-Some.field-0-is) in
    add_put c.args.new.now st i c.in-Ok-Some.flags is (sym c.new_route4.ensures.state) (length-route c.args.new.now c.requires.value)
    (tells-ahead c.new_route4.ensures.tells refl refl (c.insert4.ensures.place ∙ c.list_table.ensures.place) refl)

pub returns-in-Ok-None-clause-comes : goal.returns-in-Ok-None-clause-comes
returns-in-Ok-None-clause-comes c =
    λ st h g.
    let i = c.insert4.ensures.inserted_into (create4 (table c.args.new.now) st) (c.list_table.ensures.holds st h) (created-fit (table c.args.new.now) st g) in
    let is : c.insert4.result ≡ Ok None = cc (c.in-Ok-None.is, c.in-Ok-None.field-0-is) in
    add_none c.args.new.now st i
    (λ flags e. let z : ◌≡◌ {A = Inserted} (Ok None) (Ok (Some flags)) = sym is ∙ e in cc)
    (λ e. let z : ◌≡◌ {A = Inserted} (Ok None) (Err Full) = sym is ∙ e in cc)
    refl (tells-behind (tells-none c.args.change.now) refl refl (c.insert4.ensures.place ∙ c.list_table.ensures.place) refl)

pub returns-in-Full-clause-comes : goal.returns-in-Full-clause-comes
returns-in-Full-clause-comes c =
    λ st h g.
    let i = c.insert4.ensures.inserted_into (create4 (table c.args.new.now) st) (c.list_table.ensures.holds st h) (created-fit (table c.args.new.now) st g) in
    let is : c.insert4.result ≡ Err Full = cc (c.in-Err.is, c.in-Full.is) in
    add_full c.args.new.now st i is

pub returns-in_default-clause-comes : goal.returns-in_default-clause-comes
returns-in_default-clause-comes c =
    λ st h g.
    let i = c.insert4.ensures.inserted_into (create4 (table c.args.new.now) st) (c.list_table.ensures.holds st h) (created-fit (table c.args.new.now) st g) in
    add_none c.args.new.now st i
    (λ flags e. let z : ◌≡◌ {A = Inserted} (Err c.in-Err.refusal) (Ok (Some flags)) = sym c.in-Err.is ∙ e in cc)
    (λ e. let z : ◌≡◌ {A = Inserted} (Err c.in-Err.refusal) (Err Full) = sym c.in-Err.is ∙ e in c.in_default.not-Full cc)
    refl (tells-behind (tells-none c.args.change.now) refl refl (c.insert4.ensures.place ∙ c.list_table.ensures.place) refl)

pub returns-in-Ok-Some-clause-addresses : goal.returns-in-Ok-Some-clause-addresses
returns-in-Ok-Some-clause-addresses c = ap address_count c.new_route4.ensures.state ∙ others-count c.list_table.new.s c.insert4.new.s c.insert4.ensures.others ∙ created-count (table c.args.new.now) c.list_table.ensures

pub returns-in-Ok-None-clause-addresses : goal.returns-in-Ok-None-clause-addresses
returns-in-Ok-None-clause-addresses c = others-count c.list_table.new.s c.insert4.new.s c.insert4.ensures.others ∙ created-count (table c.args.new.now) c.list_table.ensures

pub returns-in-Full-clause-addresses : goal.returns-in-Full-clause-addresses
returns-in-Full-clause-addresses c = others-count c.list_table.new.s c.insert4.new.s c.insert4.ensures.others ∙ created-count (table c.args.new.now) c.list_table.ensures

pub returns-in_default-clause-addresses : goal.returns-in_default-clause-addresses
returns-in_default-clause-addresses c = others-count c.list_table.new.s c.insert4.new.s c.insert4.ensures.others ∙ created-count (table c.args.new.now) c.list_table.ensures
