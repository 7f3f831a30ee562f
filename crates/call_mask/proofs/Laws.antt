-- A call with another mask than a good one is refused by 207, after 200 and 201: the theorems that an edit of the definition refutes.
-- Assumes nothing.
use Rattle.std.specs.Prelude.{ℕ, ◌≡◌, Bool, ◌&&◌, List, eqb, length}
use Rattle.std.proofs.Common.{arith}
use Rattle.std.proofs.Math.Path.{refl}
use Rattle.std.proofs.Math.Bool.{true, false}
use Rattle.std.specs.Int.Count.{ones}
use Rattle.std.proofs.Math.ListN.{length-set}
use Rattle.lists.specs.Lists.{Row}
use Rattle.layout.specs.Request.{add_v4_size, del_v4_size}
use Rattle.netmask.specs.Netmask.{good, bad_mask}
use Rattle.definition.specs.Words.{state_size, formed}
use Rattle.definition.specs.Call as Call
use Rattle.definition.specs.Step.{Semantics, semantics, perform, checks, refuses, events_fit, request_is}
use Rattle.call_read.specs.Laws.{call-refused}
use Rattle.call_mask.specs.Masked.{add_v4_mask, del_v4_mask, mask_at, prefixed, masked, add_v4_mask_call, del_v4_mask_call}

-- ---- another mask: 207 behind 200 and 201, whatever else is wrong with the request
bad_is : (s : Semantics) (b : Bool) (w : List ℕ) → b ≡ false → (eqb (length w) state_size && s.checks.buffers) ≡ true → (formed w && s.checks.row) ≡ true
    → perform (masked b s) w ≡ refuses bad_mask w
bad_is s b w e h i = call-refused (masked b s) w (rw (h, i, e) refl) (λ z. omega arith)

module _ (q : Row) (events : ℕ) (w : List ℕ) where
  -- behind 200 and 201
  pub add_v4_bad : (now : ℕ) → good (mask_at add_v4_mask q) ≡ false → (eqb (length w) state_size && (request_is add_v4_size q && events_fit events)) ≡ true → formed w ≡ true
      → add_v4_mask_call q events now w ≡ refuses bad_mask w
  unfolding add_v4_mask_call
  add_v4_bad now b h i =
      let own = length-set q add_v4_mask (ones (mask_at add_v4_mask q)) in
      bad_is (semantics (Call.add_v4 (prefixed add_v4_mask q) events now)) (good (mask_at add_v4_mask q)) w b (rw own h) (rw i refl)

  pub del_v4_bad : good (mask_at del_v4_mask q) ≡ false → (eqb (length w) state_size && (request_is del_v4_size q && events_fit events)) ≡ true → formed w ≡ true
      → del_v4_mask_call q events w ≡ refuses bad_mask w
  unfolding del_v4_mask_call
  del_v4_bad b h i =
      let own = length-set q del_v4_mask (ones (mask_at del_v4_mask q)) in
      bad_is (semantics (Call.del_v4 (prefixed del_v4_mask q) events)) (good (mask_at del_v4_mask q)) w b (rw own h) (rw i refl)
