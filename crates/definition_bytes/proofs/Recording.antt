-- Of recordings on bytes: whole rows of bytes are whole rows of words, the rows rebuilt are at most 256, and over every run from the empty
-- state the bytes of its events rebuild its routes.
-- Assumes nothing.
use Rattle.std.specs.Prelude.{ℕ, ◌*◌, ◌%◌, ◌≤◌, ◌≡◌, true, ◌&&◌, List, cond, leb, length}
use Rattle.std.proofs.Common.{ap, ◌∙◌, arith, eqb-true, eq-eqb, le-leb}
use Rattle.lists.specs.Bools.{cond-case}
use Rattle.endian.specs.Endian.{words_of, bytes_of}
use Rattle.endian.specs.Laws.{Below, length-words_of, length-bytes_of, words-bytes}
use Rattle.definition.specs.Call.{Call, Reply, valued, written}
use Rattle.definition.specs.Step.{listing_room}
use Rattle.definition_recording.specs.Recording.{whole, rebuild_call, same_rows}
use Rattle.definition_recording.specs.Statement.{recorded, routes_after}
use Rattle.definition_recording.proofs.Laws.{rebuild_few}
use Rattle.definition_recording.proofs.Theorem.{whole_run, recordings, same-recordings}
use Rattle.definition_bytes.specs.Recording.{whole_bytes, rebuild_on_bytes, same_on_bytes}

pub whole-words : (b : List ℕ) → whole_bytes b ≡ true → whole (words_of b) ≡ true
whole-words b h = eq-eqb (length (words_of b) % 34) 0 (omega (arith, length-words_of b, eqb-true (length b % 136) 0 h))

pub whole-bytes : (w : List ℕ) → whole w ≡ true → whole_bytes (bytes_of w) ≡ true
whole-bytes w h = eq-eqb (length (bytes_of w) % 136) 0 (omega (arith, length-bytes_of w, eqb-true (length w % 34) 0 h))

pub rebuilt-few : (room : ℕ) (recording : List ℕ) → (rebuild_on_bytes room recording).value ≤ 256
unfolding rebuild_on_bytes
rebuilt-few room recording =
    cond-case (λ (r : Reply). r.value ≤ 256) (whole_bytes recording && leb (4 * listing_room) room)
    (λ e. rebuild_few listing_room (words_of recording)) (λ e. omega arith)

-- a run whose events are words of 32 bits
pub recordings-bytes : (calls : List Call) (room : ℕ) → Below 4294967296 (recorded calls) → 4 * listing_room ≤ room
    → rebuild_on_bytes room (bytes_of (recorded calls)) ≡ written (routes_after calls)
unfolding rebuild_on_bytes
recordings-bytes calls room h k =
    rw (whole-bytes (recorded calls) (whole_run calls), le-leb (4 * listing_room) room k)
    (ap (rebuild_call listing_room) (words-bytes (recorded calls) h) ∙ recordings calls listing_room (omega arith))

pub same-bytes : (cs ds : List Call) → Below 4294967296 (recorded cs) → Below 4294967296 (recorded ds)
    → same_on_bytes (bytes_of (recorded cs)) (bytes_of (recorded ds)) ≡ valued (cond (same_rows (routes_after cs) (routes_after ds)) 1 0)
unfolding same_on_bytes
same-bytes cs ds h k =
    rw (whole-bytes (recorded cs) (whole_run cs), whole-bytes (recorded ds) (whole_run ds), words-bytes (recorded cs) h, words-bytes (recorded ds) k) (same-recordings cs ds)
