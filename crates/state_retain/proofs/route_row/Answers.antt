use Rattle.std.proofs.Common.{arith, ap, ◌∙◌, length-drop, take_all, List, ℕ, get_or, length, [], ◌-◌, take, drop, ◌/◌, ◌≡◌}
use Rattle.std.specs.Simd.{first_chunks}
use Rattle.lists.specs.Lists.{Row}
use Rattle.definition.specs.Words.{routes_at}
use Rattle.state_retain.specs.Retain.{cut-row}
use Rattle.state_retain.proofs.route_row.Goals as goal

pub returns : goal.returns
returns c =
    let w = drop routes_at c.args.s.now in
    let whole : take (length c.args.s.now - routes_at) w ≡ w = take_all (length c.args.s.now - routes_at) w (omega (arith, length-drop routes_at c.args.s.now)) in
    ap (λ (l : List Row). get_or l c.args.i []) c.as_chunks.ensures.front
    ∙ ap (λ (x : List ℕ). get_or (first_chunks 32 (length x / 32) x) c.args.i []) whole
    ∙ cut-row c.args.s.now (length w / 32) c.args.i (omega (arith, length-drop routes_at c.args.s.now))
