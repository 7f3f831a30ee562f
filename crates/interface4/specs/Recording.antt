-- The rows that a recording rebuilds are few enough for a word.
-- Assumes nothing.
use Rattle.std.specs.Prelude.{ℕ, ◌*◌, ◌≤◌, ◌<◌, ◌≡◌, ◌&&◌, List, leb, Ok, Err, IfOk}
use Rattle.std.specs.Prelude.{Result as Answer}
use Rattle.std.proofs.Common.{arith, ap}
use Rattle.lists.specs.Bools.{cond-case}
use Rattle.endian.specs.Endian.{words_of}
use Rattle.refusal.specs.declared.Refusal.{Refusal}
use Rattle.definition.specs.Call.{Reply, Numbers, numbers}
use Rattle.definition.specs.Step.{listing_room}
use Rattle.definition_recording.proofs.Laws.{rebuild_few}
use Rattle.definition_bytes.specs.Recording.{whole_bytes, rebuild_on_bytes}
use Rattle.call_read.specs.Answer.{answer_by, valuing}

pub few-fits : (d : Answer ℕ Refusal) (x : Reply) → answer_by valuing d ≡ numbers x → x.value ≤ 256 → IfOk d (λ n. n < 4294967296)
few-fits (Ok n) x e h = omega (arith, ap (λ (m : Numbers). m.value) e, h)
few-fits (Err y) x e h = tt

pub rebuild-bytes-few : (room : ℕ) (recording : List ℕ) → (rebuild_on_bytes room recording).value ≤ 256
unfolding rebuild_on_bytes
rebuild-bytes-few room recording =
    cond-case (λ (r : Reply). r.value ≤ 256) (whole_bytes recording && leb (4 * listing_room) room)
    (λ e. rebuild_few listing_room (words_of recording)) (λ e. omega arith)
