-- Private tables: the reply for many destinations is that of the state without them and their rows. It isn't among the calls of the
-- two-run theorem (document 02 doesn't put it there); this is what it keeps to.
-- Assumes nothing.
use Rattle.std.specs.Prelude.{ℕ, ◌≡◌, refl, Bool, cond, not, ◌&&◌, ◌||◌, List, [], ◌∷◌, eqb, length}
use Rattle.std.proofs.Common.{sym, ap, ◌∙◌, eq-eqb}
use Rattle.std.proofs.Math.Path.{ap₂}
use Rattle.lists.specs.Lists.{Row, keep}
use Rattle.lists.specs.Bools.{and_left}
use Rattle.lists.specs.Keep.{Implies, keep_same, keep-within}
use Rattle.lists.specs.Count.{count, length-keep}
use Rattle.layout.specs.Route.{table}
use Rattle.definition.specs.State.{State}
use Rattle.definition.specs.Words.{state_size, state_of}
use Rattle.definition.specs.Call.{Reply, refusal}
use Rattle.definition.specs.Step.{checked, reading}
use Rattle.definition.specs.Reference.Lookup.{flow_to, together, main_table, default_table, lookup4}
use Rattle.definition.proofs.Preservation.Step.{Held, held-formed}
use Rattle.definition.specs.Noninterference.Statement.{Choice, outside}
use Rattle.definition.specs.Noninterference.Projection.{without}
use Rattle.definition.proofs.Noninterference.Tables.{default_open, answer-consistent, together_open, listed-consistent, lookup_in-consistent}
use Rattle.definition_many.specs.Many.{answer_words, answers, last, up_to, weighed, leads_on, rows_weighed, many_checks, many_reply, lookup4_many_call}

-- every table but 0, 253, 254 and 255
abbrev pub private : ℕ → Bool
private t = not (eqb t 0 || (eqb t 253 || (eqb t 254 || eqb t 255)))

pub private-choice : Choice private
private-choice = record { not_0 = refl; not_253 = refl; not_254 = refl; not_255 = refl }

count-within : (p q : Row → Bool) → Implies p q → (l : List Row) → count p (keep q l) ≡ count p l
count-within p q i l = sym (length-keep p (keep q l)) ∙ ap length (keep-within p q i l) ∙ length-keep p l

-- of any private tables
module _ (chosen : ℕ → Bool) (choice : Choice chosen) where
  pub answers-without : (st : State) (ds : List ℕ) → answers (without chosen st) ds ≡ answers st ds
  unfolding answers lookup4
  answers-without st [] = refl
  answers-without st (d ∷ ds) =
      ap₂ (λ (r : Row) (l : List Row). r ∷ l) (ap answer_words (lookup_in-consistent chosen choice st (flow_to d))) (answers-without st ds)

  set-weighed : (t : ℕ) (rows : List Row) (ds : List ℕ) → weighed (together t) (keep (outside chosen) rows) ds ≡ weighed (together t) rows ds
  set-weighed t rows ds =
      count-within (λ r. together t (table r) && up_to (last ds) r) (outside chosen)
      (λ r h. together_open chosen choice t (table r) (and_left (together t (table r)) (up_to (last ds) r) h)) rows

  leads-on : (st : State) (ds : List ℕ) → keep (leads_on (without chosen st)) ds ≡ keep (leads_on st) ds
  leads-on st ds =
      keep_same (leads_on (without chosen st)) (leads_on st) ds
      (λ d. rw (answer-consistent chosen choice (together main_table) (together_open chosen choice main_table) (flow_to d) st.routes))

  pub weighed-without : (st : State) (ds : List ℕ) → rows_weighed (without chosen st) ds ≡ rows_weighed st ds
  unfolding rows_weighed
  weighed-without st ds =
      rw (
        leads-on st ds,
        set-weighed main_table st.routes ds,
        set-weighed default_table st.routes (keep (leads_on st) ds),
        listed-consistent chosen choice default_table (default_open chosen choice) st,
      )

  pub reply-without : (ds : List ℕ) (st : State) → many_reply ds (without chosen st) ≡ many_reply ds st
  reply-without ds st = rw (weighed-without st ds, answers-without st ds)

  -- on words: well-formed states that differ in the chosen tables and their rows alone get the same reply
  pub call-alike : (room : ℕ) (ds w v : List ℕ) → Held w → Held v → without chosen (state_of w) ≡ without chosen (state_of v)
      → (lookup4_many_call room ds w).reply ≡ (lookup4_many_call room ds v).reply
  unfolding lookup4_many_call reading
  call-alike room ds w v g h same =
      let k = many_checks room ds in
      let number : checked k w ≡ checked k v =
      rw (eq-eqb (length w) state_size g.long, eq-eqb (length v) state_size h.long, held-formed w g, held-formed v h)
      in
      let reply : many_reply ds (state_of w) ≡ many_reply ds (state_of v) =
      sym (reply-without ds (state_of w)) ∙ ap (many_reply ds) same ∙ reply-without ds (state_of v)
      in
      ap₂ (λ (n : ℕ) (r : Reply). cond (eqb n 0) r (refusal n)) number reply

-- and of all of them
pub reply_public : (ds : List ℕ) (st : State) → many_reply ds (without private st) ≡ many_reply ds st
reply_public ds st = reply-without private private-choice ds st
