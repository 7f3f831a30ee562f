-- The tests of words in the order of the code, part by part.
-- Assumes nothing.
use Rattle.std.specs.Prelude.{ℕ, ◌+◌, ◌-◌, ◌*◌, ◌/◌, ◌≤◌, ◌<◌, ◌≡◌, Bool, ◌&&◌, List, leb, length, get_or, take, drop}
use Rattle.std.proofs.Math.Path.{refl, sym}
use Rattle.std.proofs.Common.{ap, ◌∙◌, arith, le-leb, length-drop, length-take-le}
use Rattle.std.proofs.Math.Nat.{mul-div_cancel_left}
use Rattle.std.specs.Simd.{first_chunks}
use Rattle.state_tally.specs.Cut.{part-size, cut}
use Rattle.std.proofs.Math.Bool.{true, false}
use Rattle.std.proofs.lemmas.Bool.{lt-leb}
use Rattle.lists.specs.Lists.{Row, all, span, chop, all_zero}
use Rattle.lists.specs.Rows.{chop-part}
use Rattle.layout.specs.Address.{fit_address}
use Rattle.layout.specs.Route.{fit_route}
use Rattle.definition.specs.Words.{table_limit, decode, fit_state, unused_zero, well_formed, ordered, distinct, none_twice, addresses_size, base_size, routes_at, routes_size, tables_at}

-- ---- the tests in the code's order
pub form_tests : (w : List ℕ) {a r n u : Bool} → get_or w 0 0 ≤ 64 → get_or w 1 0 ≤ 256 → get_or w 2 0 ≤ 32
    → a ≡ all fit_address (chop 20 (get_or w 0 0) (drop 3 w))
    → r ≡ all fit_route (chop 32 (get_or w 1 0) (drop routes_at w)) && ordered (chop 32 (get_or w 1 0) (drop routes_at w)) && distinct (chop 32 (get_or w 1 0) (drop routes_at w))
    → n ≡ none_twice (span tables_at (get_or w 2 0) w) → u ≡ unused_zero w → (a && r && n && u) ≡ well_formed w
unfolding well_formed decode fit_state
form_tests w x y z ea er en eu =
    rw (ea, er, en, eu, le-leb (get_or w 0 0) 64 x, le-leb (get_or w 1 0) 256 y, le-leb (get_or w 2 0) 32 z)
    (regroup (all fit_address (chop 20 (get_or w 0 0) (drop 3 w))) (all fit_route (chop 32 (get_or w 1 0) (drop routes_at w))) (ordered (chop 32 (get_or w 1 0) (drop routes_at w)))
    (distinct (chop 32 (get_or w 1 0) (drop routes_at w))) (none_twice (span tables_at (get_or w 2 0) w)) (unused_zero w))
  where
    regroup : (a b c d e f : Bool) → a && (b && c && d) && e && f ≡ a && b && c && d && e && f
    regroup true b c d e f = refl
    regroup false b c d e f = refl

module _ (w : List ℕ) where
  pub too_many-addresses : 64 < get_or w 0 0 → false ≡ well_formed w
  unfolding well_formed
  too_many-addresses h = sym (rw (lt-leb (get_or w 0 0) 64 h))

  pub too_many-routes : 256 < get_or w 1 0 → false ≡ well_formed w
  unfolding well_formed
  too_many-routes h = sym (rw (lt-leb (get_or w 1 0) 256 h) (off (leb (get_or w 0 0) 64) (leb (get_or w 2 0) 32) (fit_state (decode w)) (unused_zero w)))
    where
      off : (a b c d : Bool) → a && false && b && c && d ≡ false
      off true b c d = refl
      off false b c d = refl

  pub too_many-tables : 32 < get_or w 2 0 → false ≡ well_formed w
  unfolding well_formed
  too_many-tables h = sym (rw (lt-leb (get_or w 2 0) 32 h) (off (leb (get_or w 0 0) 64) (leb (get_or w 1 0) 256) (fit_state (decode w)) (unused_zero w)))
    where
      off : (a b c d : Bool) → a && b && false && c && d ≡ false
      off true true c d = refl
      off true false c d = refl
      off false b c d = refl

-- ---- the parts as the code lends them
pub unused-tests : (w : List ℕ) {a r t : ℕ} {x y z : Bool} → length w ≡ base_size → a ≡ get_or w 0 0 → r ≡ get_or w 1 0 → t ≡ get_or w 2 0
    → x ≡ all_zero (take (routes_at - (3 + 20 * a)) (drop (3 + 20 * a) w)) → y ≡ all_zero (take (tables_at - (routes_at + 32 * r)) (drop (routes_at + 32 * r) w))
    → z ≡ all_zero (take (length w - (tables_at + t)) (drop (tables_at + t) w)) → (x && y && z) ≡ unused_zero w
unfolding unused_zero span
unused-tests w {a} {r} {t} l ea er et ex ey ez =
    let sa : routes_at - (3 + 20 * a) ≡ addresses_size - 20 * a = omega arith in
    let sr : tables_at - (routes_at + 32 * r) ≡ routes_size - 32 * r = omega arith in
    let st : length w - (tables_at + t) ≡ table_limit - t = omega arith in
    rw (ex, ey, ez, sa, sr, st, ea, er, et)

pub form_parts : (w : List ℕ) {na nr nt : ℕ} {la lr : List Row} {a r n u : Bool} → length w ≡ base_size → na ≡ get_or w 0 0 → nr ≡ get_or w 1 0 → nt ≡ get_or w 2 0 → na ≤ 64 → nr ≤ 256 → nt ≤ 32
    → la ≡ first_chunks 20 (length (take (3 + 20 * na - 3) (drop 3 w)) / 20) (take (3 + 20 * na - 3) (drop 3 w))
    → lr ≡ first_chunks 32 (length (take (routes_at + 32 * nr - routes_at) (drop routes_at w)) / 32) (take (routes_at + 32 * nr - routes_at) (drop routes_at w))
    → a ≡ all fit_address la → r ≡ all fit_route lr && ordered lr && distinct lr
    → n ≡ none_twice (take (tables_at + nt - tables_at) (drop tables_at w)) → u ≡ unused_zero w → (a && r && n && u) ≡ well_formed w
unfolding span
form_parts w {na} {nr} {nt} {la} {lr} l ea er et xa xr xt ca cr fa fr fn fu =
    let pa : la ≡ chop 20 na (drop 3 w) = cut 3 20 na w la (omega arith) (omega arith) ca in
    let pr : lr ≡ chop 32 nr (drop routes_at w) = cut routes_at 32 nr w lr (omega arith) (omega arith) cr in
    form_tests w (omega arith) (omega arith) (omega arith)
    (rw (pa, ea) at fa)
    (rw (pr, er) at fr)
    (rw (part-size tables_at nt, et) at fn)
    fu
