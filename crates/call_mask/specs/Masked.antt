-- Requests for an address with a netmask in place of the prefix (document 02, Paper 4): "Offer address requests with a netmask in
-- place of the prefix", and "207 for a mask that isn't good, placed where 202 checks the prefix, before its other causes". Such a call
-- is the base's, by its own description, with the prefix in the mask's place and one check more.
-- Assumes nothing.
use Rattle.std.specs.Prelude.{ℕ, Bool, true, cond, ◌&&◌, List, get_or, set}
use Rattle.std.specs.Int.Count.{ones}
use Rattle.lists.specs.Lists.{Row}
use Rattle.netmask.specs.Netmask.{good, bad_mask}
use Rattle.definition.specs.Call as Call
use Rattle.definition.specs.Step.{Result, Checks, Semantics, semantics, perform, request_is, events_fit}

-- the places of the mask: those of the prefix, in the two requests
abbrev pub add_v4_mask : ℕ
add_v4_mask = 2

abbrev pub del_v4_mask : ℕ
del_v4_mask = 4

-- the mask at a place of a request
abbrev pub mask_at : ℕ → Row → ℕ
mask_at at q = get_or q at 0

-- the request with the prefix, the count of the mask's ones, in its place
abbrev pub prefixed : ℕ → Row → Row
prefixed at q = set q at (ones (mask_at at q))

-- the call that first asks this of its request, after 200 and 201
abbrev pub masked : Bool → Semantics → Semantics
masked good s =
    record {
      checks = record { buffers = s.checks.buffers; row = s.checks.row; request = cond good s.checks.request bad_mask };
      lent = s.lent;
      names = s.names;
      action = s.action;
    }

-- its checks, by a request of so many words with its mask at a place, and the number of its other causes
abbrev pub mask_checks : (size at : ℕ) → Row → (events request : ℕ) → Checks
mask_checks size at q events request =
    record {
      buffers = request_is size (prefixed at q) && events_fit events;
      row = true;
      request = cond (good (mask_at at q)) request bad_mask;
    }

abbrev pub add_v4_masked : Row → ℕ → ℕ → Semantics
add_v4_masked q events now = masked (good (mask_at add_v4_mask q)) (semantics (Call.add_v4 (prefixed add_v4_mask q) events now))

abbrev pub del_v4_masked : Row → ℕ → Semantics
del_v4_masked q events = masked (good (mask_at del_v4_mask q)) (semantics (Call.del_v4 (prefixed del_v4_mask q) events))

-- ---- the names by which the code's contracts cite them
unfoldable pub add_v4_mask_call : Row → ℕ → ℕ → List ℕ → Result
add_v4_mask_call q events now w = perform (add_v4_masked q events now) w

unfoldable pub del_v4_mask_call : Row → ℕ → List ℕ → Result
del_v4_mask_call q events w = perform (del_v4_masked q events) w
