-- A call on bytes is the call on their words, given back as bytes: what Made says of words (definition, Public) gives what it says of
-- bytes (definition_bytes, Bytes).
-- Assumes nothing.
use Rattle.std.specs.Prelude.{ℕ, zero, suc, ◌+◌, ◌*◌, ◌-◌, ◌≤◌, ◌≡◌, true, false, cond, List, [], ◌∷◌, ◌++◌, length, take, drop}
use Rattle.std.proofs.Common.{arith, sym, ap, subst, ◌∙◌, length-append, take_at}
use Rattle.std.specs.Prelude.{refl, Ok, Err}
use Rattle.std.specs.Prelude.{Result as Answer}
use Rattle.refusal.specs.declared.Refusal.{Refusal}
use Rattle.refusal.specs.Refusal.{Refuses}
use Rattle.call_read.specs.Answer.{answer_by, nothing}
use Rattle.call_reply.specs.Answer.{reply_from, reply_of}
use Rattle.lists.specs.Lists.{Row, flat, put}
use Rattle.lists.specs.Rows.{length-flat}
use Rattle.lists.specs.Bools.{cond-true, cond-false, cond_same, true-false}
use Rattle.endian.specs.Endian.{words_of, bytes_of}
use Rattle.endian.specs.Laws.{Below, length-words_of, bytes-none}
use Rattle.definition.specs.Call.{Call, Reply, Numbers, numbers, refusal}
use Rattle.definition.specs.Step.{Buffer, alters, semantics, step}
use Rattle.definition.proofs.Preservation.Shape.{Shaped}
use Rattle.definition.specs.Noninterference.Public as Words
use Rattle.definition.specs.Noninterference.Public.{Lent, room_of, width, many}
use Rattle.definition_bytes.specs.Bytes.{on_bytes, state_on, suffices, inner, Made}

-- ---- the rows that a call writes: how many words, and that they are of 32 bits
pub record Wrote (k : Buffer) (n : Numbers) (rows : List Row) : Type 0 where
  pub long : width k * many k n ≡ length (flat rows)
  pub room : width k * many k n ≤ room_of k

pub wrote : (k : Buffer) (r : Reply) (n : Numbers) → Shaped k r → n ≡ numbers r → Wrote k n r.rows
wrote k r n s e =
    let count : width k * many k n ≡ width k * length r.rows = ap (λ (m : ℕ). width k * m) (ap (many k) e ∙ s.counts) in
    record { long = count ∙ sym (length-flat (width k) r.rows s.size); room = subst (λ (m : ℕ). m ≤ room_of k) (sym count) s.room }

front_below : (vs rest : List ℕ) → Below 4294967296 (vs ++ rest) → Below 4294967296 vs
front_below [] rest h i = omega arith
front_below (x ∷ vs) rest h zero = h 0
front_below (x ∷ vs) rest h (suc i) = front_below vs rest (λ j. h (suc j)) i

rows-below : (vs e' e : List ℕ) → Below 4294967296 e' → e' ≡ put 0 vs e → Below 4294967296 vs
unfolding put
rows-below vs e' e g b = front_below vs (drop (0 + length vs) e) (subst (Below 4294967296) b g)

pub rows-front : (vs e' e : List ℕ) (k : ℕ) → k ≡ length vs → e' ≡ put 0 vs e → take k e' ≡ vs
unfolding put
rows-front vs e' e k long f = ap (take k) f ∙ take_at vs (drop (0 + length vs) e) k (sym long)

pub no_rows : (b : List ℕ) → b ≡ put 0 (bytes_of (flat [])) b
unfolding flat
no_rows b = bytes-none b

-- words read stand at the start of those that they were read into
pub part-words : (size : ℕ) (q l m : List ℕ) → length q ≡ 4 * size → m ≡ put 0 (words_of q) l → take (size - 0) (drop 0 m) ≡ words_of q
unfolding put
part-words size q l m h e =
    let k : size - 0 ≡ size = omega arith in
    rw (k, e) (take_at (words_of q) _ size (omega (arith, length-words_of q)))

-- the part that is lent
pub part-back : (e out out' : List ℕ) (n : ℕ) → out' ≡ put 0 (bytes_of (take (n - 0) (drop 0 e))) out → out' ≡ put 0 (bytes_of (take n e)) out
part-back e out out' n h = let z : n - 0 ≡ n = omega arith in rw z at h

-- ---- what a call on words gave, whatever the length of the buffer that it was lent
pub record Gave (c : Call) (w e : List ℕ) (n : Numbers) (w' e' : List ℕ) : Type 0 where
  pub reply : n ≡ numbers (step c w).reply
  pub words : w' ≡ (step c w).words
  pub buffer : e' ≡ put 0 (flat (step c w).reply.rows) e

pub made_gave : {c : Call} {w e : List ℕ} {n : Numbers} {w' e' : List ℕ} → Words.Made c w e n w' e' → Gave c w e n w' e'
made_gave m = record { reply = m.reply; words = m.words; buffer = m.buffer }

-- its rows stand in it
pub gave_room : (c : Call) (w e : List ℕ) {n : Numbers} {w' e' : List ℕ} → Gave c w e n w' e' → length (flat (step c w).reply.rows) ≤ length e'
unfolding put
gave_room c w e g =
    let vs = flat (step c w).reply.rows in
    omega (arith, ap length g.buffer, length-append vs (drop (0 + length vs) e))

-- ---- the call
module _ (c : Call) (s b : List ℕ) (l : Lent (semantics c).lent b) where
  pub made-no : {n : Numbers} → suffices c s ≡ false → n ≡ numbers (refusal 200) → Made c s b n s b
  made-no h e =
      let r = step (inner c) (words_of s) in
      let reply : on_bytes (suffices c s) r.reply ≡ refusal 200 = cond-false (suffices c s) r.reply (refusal 200) h in
      let state : state_on (suffices c s) s r.words ≡ s = cond-false (suffices c s) (bytes_of r.words) s h in
      let a = alters (semantics c).action in
      record {
        lent = l;
        reply = e ∙ ap numbers (sym reply);
        state = sym (ap (λ (x : List ℕ). cond a x s) state ∙ cond_same a s);
        buffer = no_rows b ∙ ap (λ (x : Reply). put 0 (bytes_of (flat x.rows)) b) (sym reply);
        narrow = λ t. absurd (true-false (suffices c s) t h);
      }

  -- made on a buffer of the words e, of which then as many as it wrote are given back
  pub made-yes : {n : Numbers} {e w' e' s' b' : List ℕ} (k : ℕ) → suffices c s ≡ true → Gave (inner c) (words_of s) e n w' e'
      → k ≡ length (flat (step (inner c) (words_of s)).reply.rows) → s' ≡ cond (alters (semantics c).action) (bytes_of w') s
      → b' ≡ put 0 (bytes_of (take k e')) b → Below 4294967296 w' → Below 4294967296 e' → Made c s b n s' b'
  made-yes {n} {e} {w'} {e'} k h m long p q f g =
      let r = step (inner c) (words_of s) in
      let reply : on_bytes (suffices c s) r.reply ≡ r.reply = cond-true (suffices c s) r.reply (refusal 200) h in
      let state : state_on (suffices c s) s r.words ≡ bytes_of r.words = cond-true (suffices c s) (bytes_of r.words) s h in
      let a = alters (semantics c).action in
      record {
        lent = l;
        reply = m.reply ∙ ap numbers (sym reply);
        state = p ∙ ap (λ (x : List ℕ). cond a x s) (ap bytes_of m.words ∙ sym state);
        buffer =
            q ∙ ap (λ (x : List ℕ). put 0 (bytes_of x) b) (rows-front (flat r.reply.rows) e' e k long m.buffer)
            ∙ ap (λ (x : Reply). put 0 (bytes_of (flat x.rows)) b) (sym reply);
        narrow = λ t. record { words = subst (Below 4294967296) m.words f; rows = rows-below (flat r.reply.rows) e' e g m.buffer };
      }

-- what a check answers, as a reply
pub check-said : (r : Answer (Unit {0}) Refusal) {n : ℕ} → Refuses r n → reply_from (answer_by nothing r) ≡ reply_of (refusal n)
check-said (Ok u) h = rw h refl
check-said (Err e) h = rw h.0 refl
