-- What the record's methods say is what the reference says of the row.
-- Assumes nothing.
use Rattle.std.specs.Prelude.{◌≡◌, refl, Bool, ◌||◌, ◌&&◌, ℕ, zero, suc, eqb, length, Ok}
use Rattle.std.proofs.Common.{arith, ne_eqb}
use Rattle.std.proofs.Math.Bool.{true, false}
use Rattle.std.proofs.lemmas.Bool.{lt-leb}
use Rattle.lists.specs.Lists.{Row}
use Rattle.layout.specs.Address.{optional, secondary, permanent, fit_address}
use Rattle.layout.specs.Spelled.{by-words}
use Rattle.definition.specs.Reference.Addresses.{covers, set_life}
use Rattle.definition.specs.Reference.Source.{left}
use Rattle.definition.specs.Step.{left_call}
use Rattle.life.specs.Life.{seconds}
use Rattle.life.specs.Laws.{clock-words}
use Rattle.row_address.specs.V4.{v4_of, secondary_v4, covers_v4, set_life_v4, left_v4}
use Rattle.row_address.specs.Row.{left_reply, reply_of}

-- a mark of 0 and its value are tested together
pub mark-tests : (m v : ℕ) → (eqb m 1 || (eqb m 0 && eqb v 0)) ≡ optional m v
mark-tests zero v = refl
mark-tests (suc zero) v = refl
mark-tests (suc (suc m)) v = rw (ne_eqb (suc (suc m)) 1 (λ q. omega arith), ne_eqb (suc (suc m)) 0 (λ q. omega arith), lt-leb (suc (suc m)) 1 (omega arith))

pub covers_v4_lem : (a : Row) (ip : ℕ) → covers_v4 (v4_of a) ip ≡ covers a ip
unfolding covers
covers_v4_lem a ip = refl

pub secondary_v4_lem : (a : Row) → secondary_v4 (v4_of a) ≡ secondary a
secondary_v4_lem a = refl

module _ (a : Row) (clock : ℕ) where
  preferred-by : (q : Bool) → permanent a ≡ q → (left_v4 (v4_of a) clock).preferred.0 ≡ (left a clock).preferred
  unfolding left
  preferred-by true e = rw e
  preferred-by false e = rw e

  valid-by : (q : Bool) → permanent a ≡ q → (left_v4 (v4_of a) clock).valid.0 ≡ (left a clock).valid
  unfolding left
  valid-by true e = rw e
  valid-by false e = rw e

  pub left-preferred_v4 : (left_v4 (v4_of a) clock).preferred.0 ≡ (left a clock).preferred
  left-preferred_v4 = preferred-by (permanent a) refl

  pub left-valid_v4 : (left_v4 (v4_of a) clock).valid.0 ≡ (left a clock).valid
  left-valid_v4 = valid-by (permanent a) refl

  -- the public `left`: its number and values are the reference's
  says-by : (q : Bool) → fit_address a ≡ q → reply_of (left_reply a clock) ≡ left_call a clock
  unfolding left_call
  says-by true e = rw e
  says-by false e = rw e

  pub left-says : reply_of (left_reply a clock) ≡ left_call a clock
  left-says = says-by (fit_address a) refl

  -- what the public `left` answers, from the record's own left
  answered-by : (q : Bool) → permanent a ≡ q → fit_address a ≡ true → Ok (left_v4 (v4_of a) clock) ≡ left_reply a clock
  unfolding left
  answered-by true e f = rw (f, e)
  answered-by false e f = rw (f, e)

  pub left-answered : fit_address a ≡ true → Ok (left_v4 (v4_of a) clock) ≡ left_reply a clock
  left-answered = answered-by (permanent a) refl

-- the clock's two words make the clock again
pub set_life_v4_lem : (valid preferred clock : ℕ) (a : Row) → length a ≡ 20
    → v4_of (set_life valid preferred clock a) ≡ set_life_v4 (record { valid = seconds valid; preferred = seconds preferred }) clock (v4_of a)
unfolding set_life
set_life_v4_lem valid preferred clock a h =
    by-words (λ r. v4_of (set_life valid preferred clock r) ≡ set_life_v4 (record { valid = seconds valid; preferred = seconds preferred }) clock (v4_of r)) 20 a h
    (rw (clock-words clock))
