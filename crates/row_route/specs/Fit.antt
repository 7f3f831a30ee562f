-- The tests of a row whose length and prefix are known to be right.
-- Assumes nothing.
use Rattle.std.specs.Prelude.{ℕ, ◌+◌, ◌-◌, ◌*◌, ◌/◌, ◌%◌, ◌^◌, ◌≤◌, ◌≡◌, refl, Bool, true, false, ◌&&◌, eqb, leb, ltb, length}
use Rattle.std.proofs.Common.{sym, ap, ◌∙◌, add-zero, zero-mul, arith, eq-eqb, ne_eqb, le-leb, eqb-true}
use Rattle.std.proofs.Math.Nat.{zero-div, mul-mod_left}
use Rattle.std.specs.Int.Bits.{bit_and}
use Rattle.std.proofs.lemmas.Nat.{and_mask, shl-shr, mod-pow-add}
use Rattle.std.proofs.Math.Pow.{mod-mod-pow}
use Rattle.std.proofs.lemmas.Bool.{eqb-false}
use Rattle.lists.specs.Lists.{Row}
use Rattle.lists.specs.Bools.{test-case}
use Rattle.prefix.specs.Mask.{host_bits}
use Rattle.kind.specs.Kind.{is_kind}
use Rattle.layout.specs.Address.{optional}
use Rattle.layout.specs.Route.{fit_route, dst, len, tos, kind, proto, scope, prefsrc_present, prefsrc, gateway_present, gateway, device, onlink, uses_gateway}

-- what is left in the low word of an address that is shifted by its prefix
shifted : (a p : ℕ) → p ≤ 32 → bit_and (a * 2 ^ p % 2 ^ 64) (2 ^ 32 - 1) ≡ host_bits a p * 2 ^ p
unfolding host_bits
shifted a p h =
    let whole : (32 - p) + p ≡ 32 = omega arith in
    and_mask (a * 2 ^ p % 2 ^ 64) 32
    ∙ mod-mod-pow (a * 2 ^ p) 32 32
    ∙ ap (λ (k : ℕ). a * 2 ^ p % 2 ^ k) (sym whole)
    ∙ mod-pow-add (a * 2 ^ p) (32 - p) p
    ∙ rw (shl-shr a p, mul-mod_left a (2 ^ p)) (add-zero (a % 2 ^ (32 - p) * 2 ^ p))

pub host_shifted : (a p : ℕ) → p ≤ 32 → eqb (bit_and (a * 2 ^ p % 2 ^ 64) (2 ^ 32 - 1)) 0 ≡ eqb (host_bits a p) 0
host_shifted a p h =
    ap (λ (x : ℕ). eqb x 0) (shifted a p h)
    ∙ test-case (eqb (host_bits a p) 0)
    (λ e. eq-eqb (host_bits a p * 2 ^ p) 0 (ap (λ (x : ℕ). x * 2 ^ p) (eqb-true (host_bits a p) 0 e) ∙ zero-mul (2 ^ p)) ∙ sym e)
    (λ e. ne_eqb (host_bits a p * 2 ^ p) 0 (λ q. eqb-false (host_bits a p) 0 e (sym (shl-shr (host_bits a p) p) ∙ ap (λ (x : ℕ). x / 2 ^ p) q ∙ zero-div (2 ^ p))) ∙ sym e)

-- the tests in the code's order
pub fit-tests : (r : Row) {host known source via : Bool} → length r ≡ 32 → len r ≤ 32 → host ≡ eqb (host_bits (dst r) (len r)) 0 → known ≡ is_kind (kind r)
    → source ≡ optional (prefsrc_present r) (prefsrc r) → via ≡ optional (gateway_present r) (gateway r)
    → (host && ltb (tos r) 256 && ltb (proto r) 256 && ltb (scope r) 256 && known && source && via && leb (device r) 1 && leb (onlink r) 1 && leb (uses_gateway r) 1) ≡ fit_route r
unfolding fit_route
fit-tests r {host} {known} {source} {via} e l h k s v =
    rw (kind-later (host && ltb (tos r) 256) (ltb (proto r) 256) (ltb (scope r) 256) known) (rw (h, k, s, v, eq-eqb (length r) 32 e, le-leb (len r) 32 l))
  where
    kind-later : (a b c d : Bool) → a && b && c && d ≡ a && d && b && c
    kind-later true true true true = refl
    kind-later true true true false = refl
    kind-later true true false true = refl
    kind-later true true false false = refl
    kind-later true false c true = refl
    kind-later true false c false = refl
    kind-later false b c d = refl
