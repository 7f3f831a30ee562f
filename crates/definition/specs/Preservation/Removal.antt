-- Every removal of the reference keeps a fit state fit.
-- Assumes nothing.
use Rattle.std.specs.Prelude.{ℕ, zero, suc, ◌≡◌, refl, true, cond, not, ◌&&◌, List, [], ◌∷◌, map, eqb, length}
use Rattle.std.proofs.Math.Option.{Option, none, some}
use Rattle.lists.specs.Lists.{Row, all, any, keep, first, until, onward, remove_first, eq_row}
use Rattle.lists.specs.Bools.{cond-case}
use Rattle.lists.specs.All.{all_cons, all_head, all_keep, all_first, all_append, all_map, all-until, all-onward, all-remove_first}
use Rattle.layout.specs.Address.{fit_address, local, secondary}
use Rattle.layout.specs.Route as Route
use Rattle.layout.specs.Event.{new_addr4, del_addr4}
use Rattle.definition.specs.State.{State, becomes, also, through, with_addresses}
use Rattle.definition.specs.Reference.Lookup.{local_kind, main_table, listed, local4}
use Rattle.definition.specs.Reference.Insert.{kernel_del4}
use Rattle.definition.specs.Reference.Addresses.{same_subnet}
use Rattle.definition.specs.Reference.Removal.{of_kind, unwanted, dependent_on, fall, disable, remove_one, gone_with, remove_v4, deletes, deleted_at, del_v4, due, deprecates, deprecate, deprecate_due, passes, expire}
use Rattle.definition.specs.Preservation.Fit.{Invariant}
use Rattle.definition.specs.Preservation.Keeps.{through_keeps, Kept, Keeps, KeptOutcome, KeepsOutcome, fit-addresses, becomes-kept, stays_keeps, also_kept, through-each}
use Rattle.definition.specs.Preservation.Rows.{deprecate-fit, new_addr4-emitted, del_addr4-emitted}
use Rattle.definition.specs.Preservation.Addresses.{kernel_del4_keeps, dropped_kept}

pub fall_keeps : (a : Row) (routes : List Row) → Keeps (fall a routes)
unfolding fall
fall_keeps a routes =
    record {
      kept = λ st f.
          cond-case Kept (any (λ r. of_kind local_kind r && eqb (Route.len r) 32) routes && not (local4 st (local a)))
          (λ e. (through-each kernel_del4 (cond (listed main_table st) (keep (dependent_on (local a)) st.routes) []) kernel_del4_keeps).kept st f)
          (λ e. stays_keeps.kept st f);
    }

pub disable_keeps : Keeps disable
unfolding disable
disable_keeps =
    record {
      kept = λ st f.
          cond-case Kept (eqb (length st.addresses) 0) (λ e. dropped_kept (λ r. not (eqb (Route.device r) 1)) 6 st f) (λ e. stays_keeps.kept st f);
    }

pub remove_one_keeps : (a : Row) → fit_address a ≡ true → Keeps (remove_one a)
unfolding remove_one
remove_one_keeps a h =
    record {
      kept = λ st f.
          let remaining : List Row = remove_first (eq_row a) st.addresses in
          let routes : List Row = unwanted st.addresses remaining a in
          also_kept _ disable
          (also_kept _ (fall a routes)
          (also_kept (becomes (with_addresses remaining st) (del_addr4 a ∷ [])) (through kernel_del4 routes)
          (becomes-kept (with_addresses remaining st) (del_addr4 a ∷ []) (del_addr4-emitted a h) (fit-addresses st remaining f (all-remove_first fit_address (eq_row a) st.addresses f.of_addresses)))
          (through-each kernel_del4 routes kernel_del4_keeps))
          (fall_keeps a routes))
          disable_keeps;
    }

pub gone_with-fit : (l : List Row) (a : Row) → fit_address a ≡ true → all fit_address l ≡ true → all fit_address (gone_with l a) ≡ true
unfolding gone_with
gone_with-fit l a g h =
    let one : all fit_address (a ∷ []) ≡ true = all_cons fit_address a [] g refl in
    cond-case (λ (m : List Row). all fit_address m ≡ true) (secondary a) (λ e. one)
    (λ e. all_append fit_address (keep (λ b. secondary b && same_subnet a b) l) (a ∷ []) (all_keep fit_address (λ b. secondary b && same_subnet a b) l h) one)

pub remove_v4_keeps : (a : Row) → fit_address a ≡ true → Keeps (remove_v4 a)
unfolding remove_v4
remove_v4_keeps a h =
    record {
      kept = λ st f.
          (through_keeps remove_one fit_address (gone_with st.addresses a) remove_one_keeps (gone_with-fit st.addresses a h f.of_addresses)).kept st f;
    }

-- ---- del_v4
deleted_at-kept : (o : Option Row) (st : State) → ((a : Row) → o ≡ some a → fit_address a ≡ true) → Invariant st → KeptOutcome (deleted_at o st)
deleted_at-kept none st h f = f
deleted_at-kept (some a) st h f = (remove_v4_keeps a (h a refl)).kept st f

pub del_v4_keeps : (q : Row) → KeepsOutcome (del_v4 q)
unfolding del_v4
del_v4_keeps q = record { kept = λ st f. deleted_at-kept (first (deletes q) st.addresses) st (λ a e. all_first fit_address (deletes q) st.addresses a f.of_addresses e) f }

-- ---- expire
pub deprecate_due_keeps : (allowance now : ℕ) → Keeps (deprecate_due allowance now)
unfolding deprecate_due
deprecate_due_keeps allowance now =
    record {
      kept = λ st f.
          becomes-kept _ _
          (all_map fit_address (λ r. eqb (length r) 34) (λ a. new_addr4 (deprecate a)) (keep (deprecates allowance now) (until (due allowance now) st.addresses))
          (λ a h. all_head (λ r. eqb (length r) 34) (new_addr4 (deprecate a)) [] (new_addr4-emitted (deprecate a) (deprecate-fit a h)))
          (all_keep fit_address (deprecates allowance now) (until (due allowance now) st.addresses) (all-until fit_address (due allowance now) st.addresses f.of_addresses)))
          (fit-addresses st _ f
          (all_append fit_address (map (λ a. cond (deprecates allowance now a) (deprecate a) a) (until (due allowance now) st.addresses)) (onward (due allowance now) st.addresses)
          (all_map fit_address fit_address (λ a. cond (deprecates allowance now a) (deprecate a) a) (until (due allowance now) st.addresses)
          (λ a h. cond-case (λ (b : Row). fit_address b ≡ true) (deprecates allowance now a) (λ e. deprecate-fit a h) (λ e. h))
          (all-until fit_address (due allowance now) st.addresses f.of_addresses))
          (all-onward fit_address (due allowance now) st.addresses f.of_addresses)));
    }

pub option_case : {A : Type 0} {B : Type 0} (P : B → Type 0) (o : Option A) (x : B) (y : A → B) → P x → ((a : A) → o ≡ some a → P (y a))
    → P (elim o as (λ (z : Option A). B) [ none ↦ x | some a ↦ y a ])
option_case P none x y f g = f
option_case P (some a) x y f g = g a refl

pub passes_keeps : (n allowance now : ℕ) → Keeps (passes n allowance now)
unfolding passes
passes_keeps zero allowance now = record { kept = λ st f. (deprecate_due_keeps allowance now).kept st f }
passes_keeps (suc n) allowance now =
    record {
      kept = λ st f.
          option_case Kept (first (due allowance now) st.addresses) (deprecate_due allowance now st)
          (λ a. also (also (deprecate_due allowance now st) (remove_v4 a)) (passes n allowance now))
          ((deprecate_due_keeps allowance now).kept st f)
          (λ a e. also_kept (also (deprecate_due allowance now st) (remove_v4 a)) (passes n allowance now)
          (also_kept (deprecate_due allowance now st) (remove_v4 a) ((deprecate_due_keeps allowance now).kept st f) (remove_v4_keeps a (all_first fit_address (due allowance now) st.addresses a f.of_addresses e)))
          (passes_keeps n allowance now));
    }

pub expire_keeps : (allowance now : ℕ) → Keeps (expire allowance now)
unfolding expire
expire_keeps allowance now = record { kept = λ st f. (passes_keeps (length st.addresses) allowance now).kept st f }
