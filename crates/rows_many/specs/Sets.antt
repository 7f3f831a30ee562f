-- What is weighed and answered over rows, by whether 253 is listed, as the definition has it.
-- Assumes nothing.
use Rattle.std.specs.Prelude.{ℕ, ◌+◌, ◌≡◌, refl, Bool, cond, not, List, ◌∷◌, map, Result, Ok, Err}
use Rattle.std.proofs.Common.{sym, ap}
use Rattle.std.proofs.Math.Path.{fun_ext}
use Rattle.lists.specs.Lists.{Row, keep, zeros}
use Rattle.refusal.specs.declared.Refusal.{Refusal}
use Rattle.refusal.specs.Refusal.{number_of}
use Rattle.definition.specs.State.{State}
use Rattle.definition.specs.Reference.Lookup.{Found, route, no_route, answer, flow_to, settled, together, main_table, default_table, listed, lookup4}
use Rattle.definition_many.specs.Many.{answer_words, answers, weighed, rows_weighed}
use Rattle.rows_lookup.specs.Answer.{answered, lookup_rows, lookup-rows}

-- a destination leads on to 253
abbrev pub onwards : List Row → ℕ → Bool
onwards l d = not (settled (answer (together main_table) (flow_to d) l))

abbrev pub weighed_rows : Bool → List Row → List ℕ → ℕ
weighed_rows b l ds = weighed (together main_table) l ds + cond b (weighed (together default_table) l (keep (onwards l) ds)) 0

abbrev pub answer_to : Bool → List Row → ℕ → Row
answer_to b l d = answer_words (lookup_rows b l (flow_to d))

-- the words of an answer
abbrev pub words_of : Result Row Refusal → Row
words_of (Ok r) = 0 ∷ r
words_of (Err e) = number_of e ∷ zeros 32

pub words-answered : (x : Found) → words_of (answered x) ≡ answer_words x
words-answered (route r) = refl
words-answered (no_route n) = refl

-- ---- of a state
pub many-weighed : (st : State) (ds : List ℕ) → weighed_rows (listed default_table st) st.routes ds ≡ rows_weighed st ds
unfolding rows_weighed
many-weighed st ds = refl

pub many-answers : (st : State) (ds : List ℕ) → map (answer_to (listed default_table st) st.routes) ds ≡ answers st ds
unfolding answers lookup4
many-answers st ds = ap (λ (g : ℕ → Row). map g ds) (fun_ext (λ d. ap answer_words (sym (lookup-rows st (flow_to d)))))
