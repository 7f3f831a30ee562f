-- The number of a refusal, and what an answer says by a number: 0 is no refusal.
use Rattle.std.specs.Prelude.{ℕ, ◌≡◌, ◌≢◌, refl, Bool, true, false, cond, Result, Ok, Err, MatchResult}
use Rattle.std.specs.Result.{IsErrAnd}
use Rattle.refusal.specs.declared.Refusal.{Refusal}
use Rattle.refusal.specs.declared.Refusal.TheVariants.{WrongLength, Malformed, Unfit, Full, BadLength, OtherType, WrongSize, BadMask, UnknownEvent, UnfitEvent, TooMany, NotRising, Errno}

abbrev pub number_of : Refusal → ℕ
number_of WrongLength = 200
number_of Malformed = 201
number_of Unfit = 202
number_of Full = 203
number_of BadLength = 204
number_of OtherType = 205
number_of WrongSize = 206
number_of BadMask = 207
number_of UnknownEvent = 208
number_of UnfitEvent = 209
number_of TooMany = 210
number_of NotRising = 211
number_of (Errno n) = n

-- an answer is a refusal exactly where the number isn't 0, and then by that number
abbrev pub Refuses : {A : Type 0} → Result A Refusal → ℕ → Type 0
Refuses r n = MatchResult r (λ a. n ≡ 0) (λ e. (number_of e ≡ n) × (n ≢ 0))

-- a check that passes, or is refused
abbrev pub unless : Bool → Refusal → Result (Unit {0}) Refusal
unless passes e = cond passes (Ok tt) (Err e)

-- what a `?` hands on is what it was given
pub passed_on : {A : Type 0} {r x : Result A Refusal} {e : Refusal} → r ≡ Err e → IsErrAnd x (λ y. y ≡ e) → x ≡ r
passed_on {x = Ok a} h f = absurd f
passed_on {x = Err y} h f = cc
