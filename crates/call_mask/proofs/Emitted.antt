-- What a call with a mask emits is what the base's call emits, or nothing: theorems that an edit of the definition refutes.
-- Assumes nothing.
use Rattle.std.specs.Prelude.{ℕ, Bool, ◌&&◌, List, eqb, length}
use Rattle.std.proofs.Common.{arith}
use Rattle.std.proofs.Math.Path.{refl}
use Rattle.std.proofs.Math.Bool.{true, false}
use borrow.Author.Tests.{eqb-true}
use Rattle.lists.specs.Lists.{Row}
use Rattle.lists.specs.Bools.{test-case}
use Rattle.netmask.specs.Netmask.{good, bad_mask}
use Rattle.definition.specs.Words.{state_size, formed}
use Rattle.definition.specs.Call as Call
use Rattle.definition.specs.Call.{refusal}
use Rattle.definition.specs.Step.{Result, Semantics, semantics, perform, checks, refuses, add_v4_call, del_v4_call}
use Rattle.definition.proofs.Preservation.Step.{perform-case}
use Rattle.call_change.specs.Emitted.{EmittedRows, add_v4-emitted, del_v4-emitted}
use Rattle.call_mask.specs.Masked.{add_v4_mask, del_v4_mask, mask_at, prefixed, masked, add_v4_mask_call, del_v4_mask_call}
use Rattle.call_mask.specs.Laws.{refused-some}

-- ---- a call's rows are few: they are the base's, or none
emitted-none : (n : ℕ) → EmittedRows (refusal n)
emitted-none n =
    record {
      says = test-case (eqb n 0) (λ e. rw (e, eqb-true n 0 e)) (λ e. rw e);
      counts = refl;
      few = omega arith;
      size = refl;
    }

-- a masked call is the base's, or refused
masked-case : (P : Result → Type 0) (s : Semantics) (b : Bool) (w : List ℕ) → P (perform s w) → ((n : ℕ) → P (refuses n w)) → P (perform (masked b s) w)
masked-case P s true w base refused = base
masked-case P s false w base refused =
    perform-case P w (masked false s) (λ z. absurd (refused-some (eqb (length w) state_size && s.checks.buffers) (formed w && s.checks.row) bad_mask (λ y. omega arith) z)) (λ n e z. refused n)

module _ (q : Row) (events : ℕ) (w : List ℕ) where
  pub add_v4-mask-emitted : (now : ℕ) → EmittedRows (add_v4_mask_call q events now w).reply
  unfolding add_v4_mask_call add_v4_call
  add_v4-mask-emitted now =
      masked-case (λ (r : Result). EmittedRows r.reply) (semantics (Call.add_v4 (prefixed add_v4_mask q) events now)) (good (mask_at add_v4_mask q)) w
      (add_v4-emitted w events (prefixed add_v4_mask q) now) emitted-none

  pub del_v4-mask-emitted : EmittedRows (del_v4_mask_call q events w).reply
  unfolding del_v4_mask_call del_v4_call
  del_v4-mask-emitted =
      masked-case (λ (r : Result). EmittedRows r.reply) (semantics (Call.del_v4 (prefixed del_v4_mask q) events)) (good (mask_at del_v4_mask q)) w
      (del_v4-emitted w events (prefixed del_v4_mask q)) emitted-none
