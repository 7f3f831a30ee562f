-- Parts of a listing on words and on bytes: where there are as many bytes as there must be, the part on their words, given back as bytes.
-- Assumes nothing.
use Rattle.std.specs.Prelude.{ℕ, ◌*◌, ◌≤◌, min, ◌≡◌, refl, true, false, ◌&&◌, List, eqb, leb, length, take}
use Rattle.std.specs.Prelude.{Result as Answer}
use Rattle.std.proofs.Common.{arith, sym, ap, ◌∙◌, take_all, eqb-true, leb-true}
use Rattle.lists.specs.Lists.{flat, put}
use Rattle.lists.specs.Rows.{length-flat}
use Rattle.lists.specs.Put.{put_whole}
use Rattle.lists.specs.Bools.{and_left, and_right}
use Rattle.refusal.specs.declared.Refusal.{Refusal}
use Rattle.endian.specs.Endian.{words_of, bytes_of}
use Rattle.endian.specs.Laws.{length-words_of, length-bytes_of}
use Rattle.definition.specs.Call.{refusal}
use Rattle.definition.specs.Words.{state_size, state_of}
use Rattle.definition.specs.Step.{listing_room}
use Rattle.definition.specs.Reference.Source.{dump4}
use Rattle.definition_bytes.specs.Bytes.{state_fits}
use Rattle.definition_bytes.specs.Parts.{part_suffices, part_on_bytes}
use Rattle.definition_parts.specs.Parts.{cursor_place, PartResult, part}
use Rattle.definition_parts.specs.Laws.{PartShape, part-case, part-few, part-shaped}
use Rattle.call_read.specs.Answer.{Writes, answer_by}
use Rattle.call_parts.specs.declared.Part.{Part}
use Rattle.call_parts.specs.declared.Place.{Place}
use Rattle.call_parts.specs.Answer.{part_by, from, part_call}
use Rattle.call_reply.specs.declared.Reply.{Reply}
use Rattle.call_reply.specs.Answer.{reply_from, reply_of}
use Rattle.interface4.specs.Made.{rows-front, no_rows}

-- the call that comes to x on words, lent a listing of the words b, gave the reply r, and left the listing b' and the cursor k'
pub record PartMade (x : PartResult) (b : List ℕ) (r : Reply) (b' k' : List ℕ) : Type 0 where
  pub reply : r ≡ reply_of x.reply
  pub listing : b' ≡ put 0 (flat x.reply.rows) b
  pub cursor : k' ≡ x.cursor

-- and on bytes
pub record PartMadeOn (x : PartResult) (b : List ℕ) (r : Reply) (b' k' : List ℕ) : Type 0 where
  pub reply : r ≡ reply_of x.reply
  pub listing : b' ≡ put 0 (bytes_of (flat x.reply.rows)) b
  pub cursor : k' ≡ x.cursor

-- the first part, or the one behind the last, on bytes
abbrev pub part_call_on_bytes : Place → ℕ → List ℕ → ℕ → List ℕ → PartResult
part_call_on_bytes place room k rows s = part_on_bytes (part_suffices room k rows s) (part_call place listing_room (words_of k) rows (words_of s)) k

-- ---- on words
pub made-part : (x : PartResult) {p : Answer Part Refusal} {b b' k' : List ℕ} {r : Reply} → Writes part_by x.reply b b' p → k' ≡ x.cursor
    → r ≡ reply_from (answer_by part_by p) → PartMade x b r b' k'
made-part x t e f = record { reply = f ∙ ap reply_from t.says; listing = t.rows; cursor = e }

-- ---- on bytes
pub record PartBytes (rows : ℕ) (s b k : List ℕ) : Type 0 where
  pub state : length s ≡ 4 * state_size
  pub cursor : length k ≡ 12
  pub room : 4 * (32 * min rows 256) ≤ length b

pub part-bytes : (rows : ℕ) (s b k : List ℕ) → part_suffices (length b) k rows s ≡ true → PartBytes rows s b k
part-bytes rows s b k h =
    let three = eqb (length k) 12 in
    let roomy = leb (4 * (32 * min rows 256)) (length b) in
    let rest = and_right (state_fits s) (three && roomy) h in
    record {
      state = eqb-true (length s) (4 * state_size) (and_left (state_fits s) (three && roomy) h);
      cursor = eqb-true (length k) 12 (and_left three roomy rest);
      room = leb-true (4 * (32 * min rows 256)) (length b) (and_right three roomy rest);
    }

pub part-short : (place : Place) (rows : ℕ) (s b k : List ℕ) {r : Reply} → part_suffices (length b) k rows s ≡ false → r ≡ reply_of (refusal 200)
    → PartMadeOn (part_call_on_bytes place (length b) k rows s) b r b k
part-short place rows s b k h e = rw h (record { reply = e; listing = no_rows b; cursor = refl })

-- what the part on words writes
module _ (place : Place) (rows : ℕ) (s k : List ℕ) where
  abbrev inside : PartResult
  inside = part_call place listing_room (words_of k) rows (words_of s)

  shape : PartShape listing_room inside.reply
  shape = part-shaped (from place (words_of k) (words_of s)) listing_room (words_of k) rows (words_of s)

  asked : length inside.reply.rows ≤ rows
  unfolding part
  asked =
      let j = from place (words_of k) (words_of s) in
      part-case j listing_room (words_of k) rows (words_of s) (λ (x : PartResult). length x.reply.rows ≤ rows)
      (λ z. part-few (cursor_place j) rows (dump4 (state_of (words_of s)))) (λ n h. omega arith)

  three : length k ≡ 12 → length inside.cursor ≡ 3
  unfolding part
  three h =
      part-case (from place (words_of k) (words_of s)) listing_room (words_of k) rows (words_of s) (λ (x : PartResult). length x.cursor ≡ 3)
      (λ z. refl) (λ n e. omega (arith, length-words_of k, h))

  module _ {w j l : List ℕ} {r : Reply} {l' j' : List ℕ} (ew : w ≡ words_of s) (ej : j ≡ words_of k) (long : length l ≡ listing_room)
      (d : PartMade (part_call place (length l) j rows w) l r l' j') where
    there : PartMade inside l r l' j'
    there = rw (ew, ej, long) at d

    count : r.value ≡ length inside.reply.rows
    unfolding there shape
    count = ap (λ (z : Reply). z.value) there.reply ∙ shape.counts

    pub value-few : (r.value ≤ 256) × (r.value ≤ rows)
    unfolding count shape asked
    value-few = (omega (arith, count, shape.few), omega (arith, count, asked))

    pub cursor-long : length k ≡ 12 → length j' ≡ 3
    unfolding there three
    cursor-long h = ap length there.cursor ∙ three h

    pub part-whole : (b : List ℕ) {b' k' : List ℕ} → part_suffices (length b) k rows s ≡ true → b' ≡ put 0 (bytes_of (take (32 * r.value) l')) b
        → k' ≡ put 0 (bytes_of (take (3 * 1) j')) k → PartMadeOn (part_call_on_bytes place (length b) k rows s) b r b' k'
    unfolding there shape count
    part-whole b h g e =
        let x = inside in
        let twelve = (part-bytes rows s b k h).cursor in
        let words : 32 * r.value ≡ length (flat x.reply.rows) = ap (λ (n : ℕ). 32 * n) count ∙ sym (length-flat 32 x.reply.rows shape.size) in
        let front : take (32 * r.value) l' ≡ flat x.reply.rows = rows-front (flat x.reply.rows) l' l (32 * r.value) words there.listing in
        let all : take (3 * 1) j' ≡ j' = take_all (3 * 1) j' (omega (arith, cursor-long twelve)) in
        rw h (record {
          reply = there.reply;
          listing = g ∙ ap (λ (z : List ℕ). put 0 (bytes_of z) b) front;
          cursor =
              e ∙ ap (λ (z : List ℕ). put 0 (bytes_of z) k) all
              ∙ put_whole (bytes_of j') k (omega (arith, length-bytes_of j', cursor-long twelve, twelve)) ∙ ap bytes_of there.cursor;
        })
