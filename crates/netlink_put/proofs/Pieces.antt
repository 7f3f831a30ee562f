-- What the pieces of an attribute come to, and attributes behind attributes.
-- Assumes nothing.
use Rattle.std.specs.Prelude.{ℕ, zero, suc, ◌+◌, ◌-◌, ◌%◌, ◌≤◌, ◌<◌, ◌≡◌, refl, Bool, true, false, List, [], ◌∷◌, ◌++◌, length}
use Rattle.std.specs.Prelude.{take}
use Rattle.std.proofs.Common.{sym, ap, ◌∙◌, append_assoc, append-nil, arith}
use Rattle.lists.specs.Lists.{each, zeros}
use Rattle.lists.specs.Keep.{each_append}
use Rattle.netlink.specs.Attributes.{Attribute, padded}
use Rattle.netlink_event.specs.Written.{Entry, bytes2, when, always, present, presents, written, written_all}
use Rattle.netlink_event.proofs.Back.{at-most}
use Rattle.netlink_put.specs.declared.Writer.{Writer}
use Rattle.netlink_put.specs.Wrote.{Adds, ◌and_then◌, same, nothing}

no-bytes : (k : ℕ) → k < 4 → take k (0 ∷ 0 ∷ 0 ∷ []) ≡ zeros k
unfolding zeros
no-bytes zero h = refl
no-bytes (suc zero) h = refl
no-bytes (suc (suc zero)) h = refl
no-bytes (suc (suc (suc zero))) h = refl
no-bytes (suc (suc (suc (suc k)))) h = absurd (omega arith)

-- m is the payload's length up to a multiple of four
pub attribute-pieces : (code : ℕ) (p : List ℕ) (m : ℕ) → m % 4 ≡ 0 → length p ≤ m → m < length p + 4
    → bytes2 (4 + length p) ++ bytes2 code ++ p ++ take (m - length p) (0 ∷ 0 ∷ 0 ∷ []) ≡ written_all (always code p ∷ [])
unfolding written_all written
attribute-pieces code p m four low high =
    let n : ℕ = length p in
    let padding : m - n ≡ padded n - n = omega arith in
    ap (λ (z : List ℕ). bytes2 (4 + n) ++ bytes2 code ++ p ++ z) (no-bytes (m - n) (omega arith) ∙ ap zeros padding)
    ∙ append_assoc (bytes2 (4 + n) ++ bytes2 code) p (zeros (padded n - n))
    ∙ append_assoc (bytes2 (4 + n)) (bytes2 code) (p ++ zeros (padded n - n))
    ∙ sym (append-nil _)

-- an attribute's bytes, where it is there
pub bounded : (b : Bool) (c : ℕ) (p : List ℕ) → length (written_all (when b c p ∷ [])) ≤ padded (length p + 4)
bounded b c p = omega (arith, at-most (when b c p ∷ []))

-- an attribute that is there, and one that isn't
pub present-written : (b : Bool) (c : ℕ) (p : List ℕ) → b ≡ true → written_all (always c p ∷ []) ≡ written_all (when b c p ∷ [])
present-written b c p h = ap (λ (x : Bool). written_all (when x c p ∷ [])) (sym h)

pub absent-written : (b : Bool) (c : ℕ) (p : List ℕ) → b ≡ false → [] ≡ written_all (when b c p ∷ [])
absent-written b c p h = sym none-written ∙ ap (λ (x : Bool). written_all (when x c p ∷ [])) (sym h)
  where
    none-written : written_all (when false c p ∷ []) ≡ []
    none-written = unfold written_all in refl

-- no attribute yet
pub none_yet : (t : Writer) → Adds t [] t
unfolding written_all
none_yet t = record { bytes = nothing t }

-- attributes behind attributes
pub written-behind : (t u : List Entry) → written_all t ++ written_all u ≡ written_all (t ++ u)
unfolding written_all
written-behind t u =
    sym (ap (λ (a : List Attribute). each written a) (each_append present t u) ∙ each_append written (presents t) (presents u))

infixl 10 ◌and_also◌
pub ◌and_also◌ : {t u v : Writer} {es fs : List Entry} → Adds t es u → Adds u fs v → Adds t (es ++ fs) v
◌and_also◌ {es = es} {fs = fs} a b = record { bytes = same (written_all (es ++ fs)) (written-behind es fs) (a.bytes and_then b.bytes) }

-- the same presence and the same payload in other words
pub with_presence : {t u : Writer} {b d : Bool} {c : ℕ} {p : List ℕ} → b ≡ d → Adds t (when b c p ∷ []) u
    → Adds t (when d c p ∷ []) u
with_presence e a = rw e at a

pub with_payload : {t u : Writer} {b : Bool} {c : ℕ} {p q : List ℕ} → p ≡ q → Adds t (when b c p ∷ []) u
    → Adds t (when b c q ∷ []) u
with_payload e a = rw e at a
