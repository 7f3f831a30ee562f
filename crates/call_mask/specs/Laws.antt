-- A call with a good mask is the base's call with its prefix, whole; that one with another is refused by 207, after 200 and 201, is
-- proved in proofs/Laws.antt.
-- Assumes nothing.
use Rattle.std.specs.Prelude.{ℕ, ◌≡◌, ◌≢◌, refl, Bool, true, false, cond, ◌&&◌, List, eqb, length, set, Ok, Err, IfErr}
use Rattle.std.specs.Prelude.{Result as Answer}
use Rattle.std.proofs.Common.{arith, sym, ap, subst, ◌∙◌, length-set, ne_eqb, eq-eqb}
use Rattle.std.proofs.Math.Bool.{and-false}
use Rattle.std.specs.Int.Count.{ones}
use Rattle.lists.specs.Lists.{Row}
use Rattle.refusal.specs.declared.Refusal.{Refusal}
use Rattle.refusal.specs.declared.Refusal.TheVariants.{BadMask}
use Rattle.refusal.specs.Refusal.{number_of, Refuses}
use Rattle.netmask.specs.Netmask.{good, prefix_of, bad_mask}
use Rattle.netmask.specs.Laws.{MaskOf, its_ones, good-mask}
use Rattle.definition.specs.Words.{state_size, formed}
use Rattle.definition.specs.Call as Call
use Rattle.definition.specs.Step.{Semantics, semantics, perform, checks, checked, events_fit, request_is, add_v4_call, del_v4_call}
use Rattle.call_mask.specs.Masked.{add_v4_mask, del_v4_mask, mask_at, prefixed, masked, mask_checks, add_v4_mask_call, del_v4_mask_call}

-- ---- a mask that has no prefix is refused as such, and isn't good
bad_cond : (b : Bool) (n : ℕ) {e : Refusal} → ◌≡◌ {A = Answer ℕ Refusal} (cond b (Ok n) (Err BadMask)) (Err e) → (e ≡ BadMask) × (b ≡ false)
bad_cond true n h = cc
bad_cond false n h = (cc, refl)

pub bad-prefix : (m : ℕ) {e : Refusal} → prefix_of m ≡ Err e → (e ≡ BadMask) × (good m ≡ false)
unfolding prefix_of
bad-prefix m h = bad_cond (good m) (ones m) h

-- ---- a good mask: the base's call
pub good-is : (s : Semantics) (b : Bool) (w : List ℕ) → b ≡ true → perform (masked b s) w ≡ perform s w
good-is s b w e = ap (λ (x : Bool). perform (masked x s) w) e

module _ (q : Row) (events : ℕ) (w : List ℕ) where
  pub add_v4-good : (now : ℕ) → good (mask_at add_v4_mask q) ≡ true → add_v4_mask_call q events now w ≡ add_v4_call (prefixed add_v4_mask q) events now w
  unfolding add_v4_mask_call add_v4_call
  add_v4-good now g = good-is (semantics (Call.add_v4 (prefixed add_v4_mask q) events now)) (good (mask_at add_v4_mask q)) w g

  pub del_v4-good : good (mask_at del_v4_mask q) ≡ true → del_v4_mask_call q events w ≡ del_v4_call (prefixed del_v4_mask q) events w
  unfolding del_v4_mask_call del_v4_call
  del_v4-good g = good-is (semantics (Call.del_v4 (prefixed del_v4_mask q) events)) (good (mask_at del_v4_mask q)) w g

  -- so for every prefix: with its mask it is the base's call with it
  pub add_v4-prefix : (now p : ℕ) → MaskOf (mask_at add_v4_mask q) p → add_v4_mask_call q events now w ≡ add_v4_call (set q add_v4_mask p) events now w
  add_v4-prefix now p m =
      add_v4-good now (ap good m.same ∙ good-mask p m.fits)
      ∙ ap (λ (n : ℕ). add_v4_call (set q add_v4_mask n) events now w) (its_ones (mask_at add_v4_mask q) p m)

  pub del_v4-prefix : (p : ℕ) → MaskOf (mask_at del_v4_mask q) p → del_v4_mask_call q events w ≡ del_v4_call (set q del_v4_mask p) events w
  del_v4-prefix p m =
      del_v4-good (ap good m.same ∙ good-mask p m.fits)
      ∙ ap (λ (n : ℕ). del_v4_call (set q del_v4_mask n) events w) (its_ones (mask_at del_v4_mask q) p m)

-- ---- the checks: 200 for a request of other words; 200, 201 or 207 for a mask that isn't good
module _ (size at : ℕ) (q : Row) (events request : ℕ) (w : List ℕ) where
  long : length (prefixed at q) ≡ length q
  long = length-set q at (ones (mask_at at q))

  pub unsized : length q ≢ size → 200 ≡ checked (mask_checks size at q events request) w
  unfolding long
  unsized h =
      let other : request_is size (prefixed at q) ≡ false = ne_eqb (length (prefixed at q)) size (λ e. h (sym long ∙ e)) in
      rw (other, and-false (eqb (length w) state_size)) refl

  pub bad-checked : length q ≡ size → good (mask_at at q) ≡ false → checked (record { buffers = events_fit events; row = true; request = bad_mask }) w
      ≡ checked (mask_checks size at q events request) w
  unfolding long
  bad-checked h b =
      let sized : request_is size (prefixed at q) ≡ true = eq-eqb (length (prefixed at q)) size (long ∙ h) in
      rw (sized, b) refl

pub refused-some : (a b : Bool) (m : ℕ) → m ≢ 0 → checks a b m ≢ 0
refused-some false b m h z = omega (arith, z)
refused-some true false m h z = omega (arith, z)
refused-some true true m h z = h z

-- so a bad mask is refused, as its call says whatever else is wrong with the request
module _ (size at : ℕ) {q l : Row} (same : l ≡ q) (h : length q ≡ size) (b : good (mask_at at l) ≡ false) (events : ℕ) (w : List ℕ) {bad : Refusal} (e : bad ≡ BadMask) where
  pub bad-asked : {A : Type 0} (r : Answer A Refusal)
      → ((n : ℕ) → (number_of bad ≡ n) × (n ≢ 0) → Refuses r (checked (record { buffers = events_fit events; row = true; request = n }) w))
      → IfErr r (λ x. (request : ℕ) → (number_of x ≡ checked (mask_checks size at q events request) w) × (checked (mask_checks size at q events request) w ≢ 0))
  bad-asked (Ok a) c = tt
  bad-asked (Err x) c =
      let k = c bad_mask (ap number_of e, λ z. omega (arith, z)) in
      λ request. let n = bad-checked size at q events request w h (ap (λ (y : Row). good (mask_at at y)) (sym same) ∙ b) in (k.0 ∙ n, λ z. k.1 (n ∙ z))
