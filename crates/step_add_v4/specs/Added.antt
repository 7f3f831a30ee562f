-- add_v4 by its cases: an address that is there, changed or refused, and a new one.
-- Assumes nothing.
use Rattle.std.specs.Prelude.{ℕ, ◌≡◌, ◌≢◌, refl, true, false, [], Some, None, Ok, Err, eqb, get_or}
use Rattle.std.proofs.Common.{ap, ◌∙◌, eq-eqb, ne_eqb}
use Rattle.std.specs.List.{position}
use Rattle.std.proofs.Math.Option.{some}
use Rattle.lists.specs.Bools.{test-case, cond-true, cond-false}
use Rattle.lists.specs.Lists.{Row, first}
use Rattle.lists.specs.Place.{place_of}
use Rattle.lists.specs.Library.{found-place, found-first, missing-first}
use Rattle.layout.specs.Request.{replace_asked, up_at_add_v4}
use Rattle.definition.specs.State.{State}
use Rattle.definition.specs.Words.{within}
use Rattle.definition.specs.Step.{roomy}
use Rattle.definition.specs.Reference.Addresses.{Outcome, goes, refused, out_of, same_address, new_address, change_v4, add_v4, loopback}
use Rattle.definition.specs.Preservation.Keeps.{Keeps}
use Rattle.definition.specs.Preservation.Addresses.{add_v4_keeps, step_kept, loopback-fit}
use Rattle.rows_place.specs.Rows.{fresh_row}
use Rattle.state.specs.Represents.{Represents}
use Rattle.step_events.specs.Comes.{Answer, Comes, made, comes-full, goes-made, refused-made}
use Rattle.step_events.specs.declared.change.Change.{Change}
use Rattle.refusal.specs.declared.Refusal.TheVariants.{Full, Errno}

module _ (q : Row) (clock : ℕ) (st : State) where
  -- it is there
  module _ (i : ℕ) (found : position (same_address q) st.addresses ≡ Some i) where
    pub at_place : i ≡ place_of (same_address q) st.addresses
    at_place = (found-place (same_address q) st.addresses i found).0

    there : first (same_address q) st.addresses ≡ some (get_or st.addresses i [])
    there = found-first (same_address q) st.addresses i [] found

    pub added-change : replace_asked q ≡ 1 → {a b : Change} {r : Answer}
        → Comes (goes (change_v4 q (get_or st.addresses i []) clock st)) a b r → Comes (add_v4 q clock st) a b r
    unfolding add_v4
    added-change e c = rw (there, eq-eqb (replace_asked q) 1 e) c

    pub added-refused : replace_asked q ≢ 1 → {a : Change} → Represents a.state.words.now st → Comes (add_v4 q clock st) a a (Err (Errno 17))
    unfolding add_v4
    added-refused e h = rw (there, ne_eqb (replace_asked q) 1 e) (refused-made 17 h)

  -- it is new
  pub added_new : position (same_address q) st.addresses ≡ None → (new : Row) → new ≡ fresh_row st.addresses q clock
      → {a b : Change} {r : Answer} → Comes (goes (new_address new (eqb (up_at_add_v4 q) 1) st)) a b r → Comes (add_v4 q clock st) a b r
  unfolding add_v4
  added_new missing new e c =
      rw (missing-first (same_address q) st.addresses missing) (rw e at c)

-- ---- the loopback's
-- a refusal of the reference's is a step that does nothing
abbrev pub step_of : Answer → Answer
step_of (Err (Errno n)) = Ok tt
step_of came = came

out_roomy : (u : Outcome) → within (out_of u).peak ≡ roomy u
out_roomy (goes o) = refl
out_roomy (refused n st) = refl

pub added-step : (u : Outcome) {a b : Change} (r t : Answer) → t ≡ step_of r → Comes u a b r → Comes (goes (out_of u)) a b t
added-step u {a} {b} r t e c = test-case (roomy u) (λ h. fits u c h (c.answer ∙ cond-true (roomy u) (made u) (Err Full) h)) lacks
  where
    fits : (u : Outcome) → Comes u a b r → roomy u ≡ true → r ≡ made u → Comes (goes (out_of u)) a b t
    fits (goes o) c h m = rw (e, m) (goes-made h (c.does h))
    fits (refused n st) c h m = rw (e, m) (goes-made h (c.does h))

    lacks : roomy u ≡ false → Comes (goes (out_of u)) a b t
    lacks h = rw (e ∙ ap step_of (c.answer ∙ cond-false (roomy u) (made u) (Err Full) h)) (comes-full (out_roomy u ∙ h))

pub loopback_keeps : (clock : ℕ) → Keeps (λ st. out_of (add_v4 loopback clock st))
loopback_keeps clock = record { kept = λ st f. step_kept (add_v4 loopback clock st) ((add_v4_keeps loopback clock refl loopback-fit).kept st f) }
