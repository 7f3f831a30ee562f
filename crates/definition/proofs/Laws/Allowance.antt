-- The allowance of `expire` (document 02, Paper 7): with 20,000,000 nanoseconds all is as it was, and of the clock and the allowance
-- only the sum counts.
-- Assumes nothing.
use Rattle.std.specs.Prelude.{ℕ, zero, suc, ◌+◌, ◌-◌, ◌/◌, ◌≡◌, refl, Bool, true, false, cond, not, ◌&&◌, List, ◌++◌, map, eqb, leb, length}
use Rattle.std.proofs.Common.{ap, ap₂, ◌∙◌, arith, le-leb, leb-true, leb-false}
use Rattle.std.proofs.Math.Path.{fun_ext}
use Rattle.std.proofs.Math.Option.{none, some}
use Rattle.std.proofs.lemmas.Bool.{lt-leb}
use Rattle.lists.specs.Bools.{test-case}
use Rattle.lists.specs.Lists.{Row, keep, first, until, onward}
use Rattle.life.specs.Life.{reached, forever, second}
use Rattle.layout.specs.Address.{permanent, deprecated, valid, preferred, changed}
use Rattle.layout.specs.Event.{new_addr4}
use Rattle.definition.specs.Call.{Call}
use Rattle.definition.specs.State.{State, Out, becomes, also, with_addresses}
use Rattle.definition.specs.Reference.Removal.{due, deprecates, deprecate, deprecate_due, remove_v4, passes, expire}
use Rattle.definition.specs.Step.{Semantics, unless, fit_expire, going, semantics, perform, expire_call}

-- `expire` as document 01 has it: 202 for a clock above 18,446,744,073,689,551,615, and 20 ms
abbrev pub fixed_expire : ℕ → ℕ → Semantics
fixed_expire events now = going events (unless (leb now 18446744073689551615) 202) (expire 20000000 now)

same_limit : (now : ℕ) → fit_expire now 20000000 ≡ leb now 18446744073689551615
same_limit now =
    test-case (leb now 18446744073689551615)
    (λ e. rw e (le-leb (now + 20000000) 18446744073709551615 (omega (arith, leb-true now 18446744073689551615 e))))
    (λ e. rw e (lt-leb (now + 20000000) 18446744073709551615 (omega (arith, leb-false now 18446744073689551615 e))))

-- the call that takes an allowance is document 01's at 20,000,000, whole: its description, and so its reply and words
pub same_description : (events now : ℕ) → semantics (Call.expire events now 20000000) ≡ fixed_expire events now
same_description events now = ap (λ (fit : Bool). going events (unless fit 202) (expire 20000000 now)) (same_limit now)

pub as_it_was : (events now : ℕ) (w : List ℕ) → expire_call events now 20000000 w ≡ perform (fixed_expire events now) w
unfolding expire_call
as_it_was events now w = ap (λ (s : Semantics). perform s w) (same_description events now)

-- ---- of the clock and the allowance only the sum counts: the call with an allowance is the Rust's at another clock
module _ (now allowance clock early : ℕ) (same : now + allowance ≡ clock + early) where
  same_due : due allowance now ≡ due early clock
  unfolding due reached
  same_due = ap {B = Row → Bool} (λ (t : ℕ) (a : Row). not (permanent a) && (not (eqb (valid a) forever) && leb (valid a) ((t - changed a) / second))) same

  same_deprecates : deprecates allowance now ≡ deprecates early clock
  unfolding deprecates reached
  same_deprecates = ap {B = Row → Bool} (λ (t : ℕ) (a : Row). not (permanent a) && not (deprecated a) && (not (eqb (preferred a) forever) && leb (preferred a) ((t - changed a) / second))) same

  same_marks : (st : State) → deprecate_due allowance now st ≡ deprecate_due early clock st
  unfolding deprecate_due
  same_marks st =
      ap₂ (λ (d m : Row → Bool).
      let spared = until d st.addresses in
      becomes (with_addresses (map (λ a. cond (m a) (deprecate a) a) spared ++ onward d st.addresses) st) (map (λ a. new_addr4 (deprecate a)) (keep m spared)))
      same_due same_deprecates

  same_passes : (n : ℕ) (st : State) → passes n allowance now st ≡ passes n early clock st
  unfolding passes
  same_passes zero st = same_marks st
  same_passes (suc n) st =
      let pass : (Row → Bool) → Out → (State → Out) → Out = λ d marks f. elim (first d st.addresses) [ none ↦ marks | some a ↦ also (also marks (remove_v4 a)) f ] in
      ap₂ (λ d marks. pass d marks (passes n allowance now)) same_due (same_marks st) ∙ ap (pass (due early clock) (deprecate_due early clock st)) (fun_ext (same_passes n))

  pub same_sum : (st : State) → expire allowance now st ≡ expire early clock st
  unfolding expire
  same_sum st = same_passes (length st.addresses) st

-- ---- what is refused, at the limits: an allowance of a second and none more, and a sum of 2^64 - 1 and none more
pub a_second : fit_expire 0 1000000000 ≡ true
a_second = refl

pub over_a_second : fit_expire 0 1000000001 ≡ false
over_a_second = refl

pub last_clock : fit_expire 18446744073709551615 0 ≡ true
last_clock = refl

pub last_sum : fit_expire 18446744072709551615 1000000000 ≡ true
last_sum = refl

pub past_the_sum : fit_expire 18446744072709551616 1000000000 ≡ false
past_the_sum = refl
