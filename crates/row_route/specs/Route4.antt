-- A route as a record, read from a row and turned into a row again (document 01, "The state, words of 32 bits").
-- Assumes nothing.
use Rattle.std.specs.Prelude.{ℕ, ◌-◌, ◌≡◌, refl, Bool, true, false, cond, List, [], ◌∷◌, ◌++◌, eqb, leb, length, drop, Result}
use Rattle.std.specs.Result.{result_unwrap_or}
use Rattle.std.proofs.Common.{arith, sym, ap, ◌∙◌, eqb-true, leb-true}
use Rattle.std.proofs.lemmas.Bool.{eqb-false}
use Rattle.lists.specs.Lists.{Row}
use Rattle.lists.specs.Bools.{test-case, and_iff}
use Rattle.kind.specs.declared.Kind.{Kind}
use Rattle.kind.specs.declared.Kind.TheVariants.{Unicast}
use Rattle.kind.specs.declared.UnknownKind.{UnknownKind}
use Rattle.kind.specs.Kind.{code_of, kind_of}
use Rattle.kind.specs.Laws.{kind-code, code-again}
use Rattle.layout.specs.Address.{optional}
use Rattle.layout.specs.Route as Route
use Rattle.layout.specs.Route.{fit_route}
use Rattle.definition.specs.Preservation.Fit.{length-route}
use Rattle.row_address.specs.V4.{optional_of}
use Rattle.row_address.specs.Words.{mark_of, value_of, mark-again, value-again, optional-again, spells}
use Rattle.row_route.specs.declared.Route4.{Route4}

-- the kind that was found; a code that is none of the seven reads as a unicast route's
abbrev pub kind_in : Result Kind UnknownKind → Kind
kind_in f = result_unwrap_or f Unicast

-- a mark, 0 or 1
abbrev pub bit_of : Bool → ℕ
bit_of b = cond b 1 0

abbrev pub route4_of : Row → Route4
route4_of r =
    record {
      table = Route.table r;
      dst = Route.dst r;
      len = Route.len r;
      tos = Route.tos r;
      priority = Route.priority r;
      kind = kind_in (kind_of (Route.kind r));
      proto = Route.proto r;
      scope = Route.scope r;
      prefsrc = optional_of (Route.prefsrc_present r) (Route.prefsrc r);
      gateway = optional_of (Route.gateway_present r) (Route.gateway r);
      device = eqb (Route.device r) 1;
      onlink = eqb (Route.onlink r) 1;
      uses_gateway = eqb (Route.uses_gateway r) 1;
      metrics = Route.metrics r;
    }

-- the words before the metrics, of which eight are computed
abbrev pub head_with : Route4 → ℕ → ℕ → ℕ → ℕ → ℕ → ℕ → ℕ → ℕ → Row
head_with r code sourceMark source gatewayMark gateway device onlink uses_gateway =
    r.table
    ∷ r.dst
    ∷ r.len
    ∷ r.tos
    ∷ r.priority
    ∷ code
    ∷ r.proto
    ∷ r.scope
    ∷ sourceMark
    ∷ source
    ∷ gatewayMark
    ∷ gateway
    ∷ device
    ∷ onlink
    ∷ uses_gateway
    ∷ []

abbrev pub row_of : Route4 → Row
row_of r =
    head_with r (code_of r.kind) (mark_of r.prefsrc) (value_of r.prefsrc) (mark_of r.gateway) (value_of r.gateway)
    (bit_of r.device) (bit_of r.onlink) (bit_of r.uses_gateway)
    ++ r.metrics

-- ---- a fit row is had again from its record
bit-again : (n : ℕ) → leb n 1 ≡ true → bit_of (eqb n 1) ≡ n
bit-again n h =
    test-case (eqb n 1)
    (λ e. rw e (sym (eqb-true n 1 e)))
    (λ e. rw e (omega (arith, leb-true n 1 h, eqb-false n 1 e)))

pub row-again : (r : Row) → fit_route r ≡ true → row_of (route4_of r) ≡ r
unfolding fit_route
row-again r h =
    let k = simp and_iff at h in
    let source : optional (Route.prefsrc_present r) (Route.prefsrc r) ≡ true = simp and_iff k.0.0.0.0.1 in
    let via : optional (Route.gateway_present r) (Route.gateway r) ≡ true = simp and_iff k.0.0.0.1 in
    rw (
      code-again (Route.kind r) Unicast k.0.0.0.0.0.0.0.1,
      mark-again (Route.prefsrc_present r) (Route.prefsrc r) source,
      value-again (Route.prefsrc_present r) (Route.prefsrc r) source,
      mark-again (Route.gateway_present r) (Route.gateway r) via,
      value-again (Route.gateway_present r) (Route.gateway r) via,
      bit-again (Route.device r) k.0.0.1,
      bit-again (Route.onlink r) k.0.1,
      bit-again (Route.uses_gateway r) k.1,
      spells 17 15 r (length-route r h),
    )
    (sym (spells 32 0 r (length-route r h)))

-- the metrics are the last 17 words
pub metrics-last : (r m : List ℕ) → length r ≡ 32 → m ≡ drop (length r - 17) r → m ≡ Route.metrics r
metrics-last r m h e = e ∙ ap (λ (n : ℕ). drop (n - 17) r) h

-- ---- a record is had again from its row
again-bit : (b : Bool) → eqb (bit_of b) 1 ≡ b
again-bit true = refl
again-bit false = refl

pub record_again : (r : Route4) → route4_of (row_of r) ≡ r
record_again r =
    rw (kind-code r.kind, optional-again r.prefsrc, optional-again r.gateway, again-bit r.device, again-bit r.onlink, again-bit r.uses_gateway)

-- ---- both, of words written in two parts, where those that are computed are right
pub written : (r : Route4) (k a b c d x y z : ℕ) (head metrics : List ℕ) → k ≡ code_of r.kind → a ≡ mark_of r.prefsrc → b ≡ value_of r.prefsrc → c ≡ mark_of r.gateway
    → d ≡ value_of r.gateway → x ≡ bit_of r.device → y ≡ bit_of r.onlink → z ≡ bit_of r.uses_gateway → head ≡ head_with r k a b c d x y z → metrics ≡ r.metrics
    → (head ++ metrics ≡ row_of r) × (route4_of (head ++ metrics) ≡ r)
written r k a b c d x y z head metrics ek ea eb ec ed ex ey ez e f =
    let same : head ++ metrics ≡ row_of r = rw (e, f, ek, ea, eb, ec, ed, ex, ey, ez) in
    (same, ap route4_of same ∙ record_again r)
