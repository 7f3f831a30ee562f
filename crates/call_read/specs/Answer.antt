-- What a call promises of its answer, by the reply that the definition gives: the numbers of what it answers, and the refusal.
use Rattle.std.specs.Prelude.{ℕ, ◌≡◌, Bool, cond, List, [], ◌∷◌, Option, Some, None, Ok, Err, eqb}
use Rattle.std.specs.Prelude.{Result as Answer}
use Rattle.lists.specs.Lists.{Row, flat, put}
use Rattle.refusal.specs.declared.Refusal.{Refusal}
use Rattle.refusal.specs.Refusal.{number_of, Refuses}
use Rattle.definition.specs.Call.{Reply}
pub use Rattle.definition.specs.Call.{Numbers, numbers}
use Rattle.definition.specs.Reference.Lookup.{Found, route, no_route}

-- ---- the numbers of a value, and of an answer
abbrev pub valuing : ℕ → Numbers
valuing v = record { number = 0; present = 0; value = v; second = 0 }

-- nothing but that it is done
abbrev pub nothing : Unit {0} → Numbers
nothing u = valuing 0

abbrev pub flag : Bool → Numbers
flag b = valuing (cond b 1 0)

abbrev pub optional : Option ℕ → Numbers
optional None = valuing 0
optional (Some v) = record { number = 0; present = 1; value = v; second = 0 }

abbrev pub refused_by : ℕ → Numbers
refused_by n = record { number = n; present = 0; value = 0; second = 0 }

-- of a reply that has one value at most
abbrev pub one_value : Reply → Numbers
one_value r = cond (eqb r.number 0) (valuing r.value) (refused_by r.number)

abbrev pub answer_by : {A : Type 0} → (A → Numbers) → Answer A Refusal → Numbers
answer_by by (Ok a) = by a
answer_by by (Err e) = refused_by (number_of e)

-- ---- by the numbers of its values, the answer r is a refusal exactly where the reply is one, and its numbers are the reply's
pub record Says {A : Type 0} (by : A → Numbers) (x : Reply) (r : Answer A Refusal) : Type 0 where
  pub refuses : Refuses r x.number
  pub says : answer_by by r ≡ numbers x

-- and of the buffer b that it is lent: the reply's rows are written at its start
pub record Writes {A : Type 0} (by : A → Numbers) (x : Reply) (b b' : List ℕ) (r : Answer A Refusal) : Type 0 where
  pub refuses : Refuses r x.number
  pub says : answer_by by r ≡ numbers x
  pub rows : b' ≡ put 0 (flat x.rows) b

-- ---- a lookup: its row stands in the buffer
abbrev pub found_number : Found → ℕ
found_number (route r) = 0
found_number (no_route n) = n

abbrev pub rows_in : Found → List Row
rows_in (route r) = r ∷ []
rows_in (no_route n) = []
