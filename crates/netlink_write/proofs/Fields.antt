-- What a fit row says of the fields that a message has a byte for.
-- Assumes nothing.
use Rattle.std.specs.Prelude.{ℕ, ◌≤◌, ◌<◌, ◌≡◌, true, false, ltb, length}
use Rattle.std.proofs.Common.{arith, leb-true, ltb-true, ltb-false, ne_eqb}
use Rattle.lists.specs.Lists.{Row}
use Rattle.lists.specs.Bools.{and_iff, test-case, true-false}
use Rattle.kind.specs.Kind.{is_kind}
use Rattle.layout.specs.Address as Address
use Rattle.layout.specs.Address.{fit_address}
use Rattle.layout.specs.Route as Route
use Rattle.layout.specs.Route.{fit_route}
use Rattle.definition.specs.Preservation.Fit.{fields_address, length-address, length-route, route-len}

pub record AddressFields (a : Row) : Type 0 where
  pub long : length a ≡ 20
  pub short : Address.prefix a ≤ 32
  pub wide : Address.scope a < 256
  pub by : Address.proto a < 256
  pub named : Address.label_length a ≤ 15

pub address-fields : (a : Row) → fit_address a ≡ true → AddressFields a
address-fields a h =
    let f = fields_address a h in
    record {
      long = length-address a h;
      short = leb-true (Address.prefix a) 32 f.short;
      wide = ltb-true (Address.scope a) 256 f.wide;
      by = ltb-true (Address.proto a) 256 f.by;
      named = leb-true (Address.label_length a) 15 (simp and_iff at f.labelled).0;
    }

kind-below : (c : ℕ) → is_kind c ≡ true → c < 256
unfolding is_kind
kind-below c h =
    test-case (ltb c 256) (λ e. ltb-true c 256 e)
    (λ e.
    let over : 256 ≤ c = omega (arith, ltb-false c 256 e) in
    let none : is_kind c ≡ false =
    rw (
      ne_eqb c 1 (λ z. omega arith),
      ne_eqb c 2 (λ z. omega arith),
      ne_eqb c 3 (λ z. omega arith),
      ne_eqb c 6 (λ z. omega arith),
      ne_eqb c 7 (λ z. omega arith),
      ne_eqb c 8 (λ z. omega arith),
      ne_eqb c 9 (λ z. omega arith),
    )
    in
    absurd (true-false (is_kind c) h none))

pub record RouteFields (r : Row) : Type 0 where
  pub long : length r ≡ 32
  pub short : Route.len r ≤ 32
  pub served : Route.tos r < 256
  pub of : Route.kind r < 256
  pub by : Route.proto r < 256
  pub wide : Route.scope r < 256

pub route-fields : (r : Row) → fit_route r ≡ true → RouteFields r
unfolding fit_route
route-fields r h =
    let k = simp and_iff at h in
    record {
      long = length-route r h;
      short = route-len r h;
      served = ltb-true (Route.tos r) 256 k.0.0.0.0.0.0.0.0.1;
      of = kind-below (Route.kind r) k.0.0.0.0.0.0.0.1;
      by = ltb-true (Route.proto r) 256 k.0.0.0.0.0.0.1;
      wide = ltb-true (Route.scope r) 256 k.0.0.0.0.0.1;
    }
