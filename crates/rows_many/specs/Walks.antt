-- The two walks, after some destinations.
-- Assumes nothing.
use Rattle.std.specs.Prelude.{ℕ, ◌+◌, ◌≤◌, ◌≡◌, refl, Bool, true, false, cond, not, ◌&&◌, List, [], ◌∷◌, ◌++◌, eqb, leb, length}
use Rattle.std.proofs.Common.{arith, sym, ap, ◌∙◌, append-nil, leb-true}
use Rattle.std.proofs.Math.Path.{fun_ext}
use Rattle.std.proofs.Math.Bool.{or_self}
use Rattle.std.proofs.Math.Option as Math
use Rattle.std.proofs.Math.Option.{some}
use Rattle.lists.specs.Lists.{Row, all, keep}
use Rattle.lists.specs.All.{all_keep, all_tail}
use Rattle.lists.specs.Bools.{and_left}
use Rattle.lists.specs.Count.{count_most}
use Rattle.lists.specs.Keep.{keep_append}
use Rattle.layout.specs.Route.{table}
use Rattle.definition.specs.Reference.Lookup.{answer, flow_to, settled, together, main_table, default_table}
use Rattle.definition_many.specs.Many.{last, up_to, weighed}
use Rattle.definition_many.proofs.Laws.{weighed-nothing}
use Rattle.rows_lookup.specs.Flow.{set_of}
use Rattle.rows_lookup.specs.Answer.{upper_set}
use Rattle.rows_lookup.specs.declared.Tables.{Tables}
use Rattle.rows_walk.specs.Walked.{Walked, Onward, walk-weighed}
use Rattle.rows_many.specs.declared.Walks.{Walks}
use Rattle.rows_many.specs.Sets.{onwards, weighed_rows}

abbrev pub upper : Tables
upper = record { one = 255; other = 254 }

abbrev pub lower : Tables
lower = record { one = 253; other = 253 }

-- the destinations for which 253 is walked
abbrev pub led : Bool → List Row → List ℕ → List ℕ
led b l ds = cond b (keep (onwards l) ds) []

-- none of some destinations is above another
abbrev pub Above : ℕ → List ℕ → Type 0
Above d ds = all (λ e. leb e d) ds ≡ true

pub record Both (listed : Bool) (l : List Row) (ds : List ℕ) (w : Walks) : Type 0 where
  pub listed_is : w.default_listed ≡ listed
  pub first : Walked upper l (last ds) w.upper
  pub second : Walked lower l (last (led listed l ds)) w.lower

-- ---- the last destination
last-one : (ds : List ℕ) (d : ℕ) → last (ds ++ (d ∷ [])) ≡ some d
last-one [] d = refl
last-one (e ∷ []) d = refl
last-one (e ∷ f ∷ ds) d = last-one (f ∷ ds) d

onward-last : (ds : List ℕ) (d : ℕ) → Above d ds → Onward (last ds) d
onward-last [] d h = tt
onward-last (e ∷ []) d h = leb-true e d (and_left (leb e d) true h)
onward-last (e ∷ f ∷ ds) d h = onward-last (f ∷ ds) d (all_tail (λ x. leb x d) e (f ∷ ds) h)

-- ---- one destination more
module _ (b : Bool) (l : List Row) (ds : List ℕ) (d : ℕ) (above : Above d ds) where
  pub to-first : Onward (last ds) d
  to-first = onward-last ds d above

  pub to-second : Onward (last (led b l ds)) d
  to-second = go b
    where
      go : (b : Bool) → Onward (last (led b l ds)) d
      go true = onward-last (keep (onwards l) ds) d (all_keep (λ e. leb e d) (onwards l) ds above)
      go false = tt

  module _ (w : Walks) (h : Both b l ds w) (v : Walks) (same : v.default_listed ≡ w.default_listed) (first : Walked upper l (some d) v.upper) where
    first-more : Walked upper l (last (ds ++ (d ∷ []))) v.upper
    first-more = rw (last-one ds d) first

    -- it doesn't lead on, or not to 253
    stays : v.lower ≡ w.lower → led b l (ds ++ (d ∷ [])) ≡ led b l ds → Both b l (ds ++ (d ∷ [])) v
    stays lower_is e = record { listed_is = same ∙ h.listed_is; first = first-more; second = rw (e, lower_is) h.second }

    module _ (u : Math.Option Row) (upper_is : u ≡ answer (set_of upper) (flow_to d) l) where
      ons : onwards l d ≡ not (settled u)
      ons = ap (λ (o : Math.Option Row). not (settled o)) (sym (upper_set (flow_to d) l) ∙ sym upper_is)

      pub both_settled : settled u ≡ true → v.lower ≡ w.lower → Both b l (ds ++ (d ∷ [])) v
      both_settled s lower_is = stays lower_is (go b)
        where
          go : (b : Bool) → led b l (ds ++ (d ∷ [])) ≡ led b l ds
          go true = keep_append (onwards l) ds (d ∷ []) ∙ rw (ons, s) (append-nil (keep (onwards l) ds))
          go false = refl

      pub both-unlisted : b ≡ false → v.lower ≡ w.lower → Both b l (ds ++ (d ∷ [])) v
      both-unlisted off lower_is = stays lower_is (rw off)

      pub both_on : b ≡ true → settled u ≡ false → Walked lower l (some d) v.lower → Both b l (ds ++ (d ∷ [])) v
      both_on on past second =
          let more : led b l (ds ++ (d ∷ [])) ≡ keep (onwards l) ds ++ (d ∷ []) = rw on (keep_append (onwards l) ds (d ∷ []) ∙ rw (ons, past)) in
          record { listed_is = same ∙ h.listed_is; first = first-more; second = rw (more, last-one (keep (onwards l) ds) d) second }

-- ---- the rows weighed
upper_is : set_of upper ≡ together main_table
unfolding together
upper_is = refl

lower-is : set_of lower ≡ together default_table
unfolding together
lower-is = fun_ext (λ u. or_self (eqb u 253))

module _ (b : Bool) (l : List Row) (ds : List ℕ) (w : Walks) (h : Both b l ds w) where
  first-weighed : w.upper.weighed ≡ weighed (together main_table) l ds
  first-weighed = walk-weighed upper l w.upper (last ds) h.first ∙ ap (λ (t : ℕ → Bool). weighed t l ds) upper_is

  second-weighed : w.lower.weighed ≡ weighed (together default_table) l (led b l ds)
  second-weighed = walk-weighed lower l w.lower (last (led b l ds)) h.second ∙ ap (λ (t : ℕ → Bool). weighed t l (led b l ds)) lower-is

  pub both_weighed : w.upper.weighed + w.lower.weighed ≡ weighed_rows b l ds
  both_weighed = rw (first-weighed, second-weighed) (go b)
    where
      go : (b : Bool) → weighed (together main_table) l ds + weighed (together default_table) l (led b l ds) ≡ weighed_rows b l ds
      go true = refl
      go false = ap (λ (n : ℕ). weighed (together main_table) l ds + n) (weighed-nothing (together default_table) l)

  pub both-few : w.upper.weighed + w.lower.weighed ≤ length l + length l
  both-few =
      omega (
        arith,
        first-weighed,
        second-weighed,
        count_most (λ r. together main_table (table r) && up_to (last ds) r) l,
        count_most (λ r. together default_table (table r) && up_to (last (led b l ds)) r) l,
      )
