-- primary_of as a call on the words of a state and a row of words, with the refusals of document 01 ("When a call says no").
-- Assumes nothing.
use Rattle.std.specs.Prelude.{ℕ, List}
use Rattle.lists.specs.Lists.{Row}
use Rattle.layout.specs.Address.{fit_address}
use Rattle.definition.specs.Call.{valued}
use Rattle.definition.specs.Step.{Result, Semantics, query, perform}
use Rattle.definition.specs.Reference.Addresses.{primary_of}

-- 200 for words that are no state, 201 for one that is not well-formed or a row that could not stand in one
abbrev pub of_primary : Row → Semantics
of_primary row = query (fit_address row) 0 (λ st. valued (primary_of st.addresses row))

unfoldable pub primary_of_call : Row → List ℕ → Result
primary_of_call row w = perform (of_primary row) w
