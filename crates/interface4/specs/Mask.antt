-- Requests with a netmask on bytes: where there are as many bytes as there must be, the call on their words, given back as bytes.
-- Assumes nothing.
use Rattle.std.specs.Prelude.{ℕ, zero, suc, set, ◌*◌, ◌<◌, ◌≡◌, ◌≢◌, refl, Bool, true, false, cond, ◌&&◌, List, [], ◌∷◌, eqb, leb, get_or, length, flat_map}
use Rattle.std.specs.Int.{w32, to_le_bytes}
use Rattle.std.specs.Int.Count.{ones}
use Rattle.std.proofs.lemmas.Nat.{ones-le}
use native.Mathlib.Omega.{arith}
use Rattle.std.proofs.Math.Path.{sym, ap, subst}
use Rattle.std.proofs.Common.{◌∙◌, eqb-true, eq-eqb, ne_eqb}
use Rattle.lists.specs.Lists.{Row, flat, put}
use Rattle.lists.specs.Bools.{test-case, cond-true, cond-false, true-false, and_left}
use Rattle.endian.specs.Endian.{words_of, bytes_of}
use Rattle.endian.specs.Laws.{Below, length-words_of, bytes-words, words-bytes, words-below}
use Rattle.netmask.specs.Netmask.{good, bad_mask, prefix_of}
use Rattle.definition.specs.Words.{state_size, formed}
use Rattle.definition.specs.Call.{Call, Reply, Numbers, numbers, refusal}
use Rattle.definition.specs.Step.{Result, refuses, Checks, checked, Semantics, alters, semantics, perform, step, event_room, events_fit, request_is, unless, add_v4_refusal}
use Rattle.layout.specs.Request.{add_v4_size, del_v4_size, fit_del_v4}
use Rattle.definition_bytes.specs.Bytes.{on_bytes, state_on, state_fits, with, suffices, inner, Narrow, Made}
use Rattle.call_read.specs.Laws.{call-refused}
use Rattle.call_mask.specs.Masked.{add_v4_mask, del_v4_mask, mask_at, prefixed, masked, mask_checks}
use Rattle.call_mask.specs.Laws.{good-is, bad-checked, refused-some}
use Rattle.call_reply.specs.declared.Reply as Rep
use Rattle.call_reply.specs.Answer.{reply_from, reply_of, numbers_in}
use Rattle.call_read.specs.Answer.{answer_by, valuing}
use Rattle.std.proofs.lemmas.Bool.{eqb-false}
use Rattle.interface4.specs.Answer.{prefix_reply}
use Rattle.interface4.specs.Made.{no_rows}
use Rattle.interface4.specs.Changing.{change_fits}

-- the call that comes to x on words, on a state of the bytes s, lent a buffer of the bytes b, gave the numbers n, and left the bytes s'
-- and the buffer b'; `fit` says whether there are as many bytes as there must be
pub record MadeOn (fit : Bool) (x : Result) (s b : List ℕ) (n : Numbers) (s' b' : List ℕ) : Type 0 where
  pub reply : n ≡ numbers (on_bytes fit x.reply)
  pub state : s' ≡ state_on fit s x.words
  pub buffer : b' ≡ put 0 (bytes_of (flat (on_bytes fit x.reply).rows)) b
  pub narrow : fit ≡ true → Narrow x

-- ---- the prefix of a netmask
pub prefix-said : (m : ℕ) → reply_from (answer_by valuing (prefix_of m)) ≡ reply_of (prefix_reply m)
unfolding prefix_of
prefix-said m = test-case (good m) (λ e. rw e) (λ e. rw e)

-- ---- too few or too many bytes
module _ (fit : Bool) (x : Result) (s b : List ℕ) where
  pub mask-no : {n : Numbers} → fit ≡ false → n ≡ numbers (refusal 200) → MadeOn fit x s b n s b
  mask-no h e =
      let reply : on_bytes fit x.reply ≡ refusal 200 = cond-false fit x.reply (refusal 200) h in
      record {
        reply = e ∙ ap numbers (sym reply);
        state = sym (cond-false fit (bytes_of x.words) s h);
        buffer = no_rows b ∙ ap (λ (r : Reply). put 0 (bytes_of (flat r.rows)) b) (sym reply);
        narrow = λ t. absurd (true-false fit t h);
      }

  none_below : Below 4294967296 (flat [])
  unfolding flat
  none_below i = omega arith

  -- a refusal that leaves every word leaves every byte
  mask-refused : {n : Numbers} (k : ℕ) → fit ≡ true → x ≡ refuses k (words_of s) → length s ≡ 4 * state_size → Below 256 s → n ≡ numbers (refusal k)
      → MadeOn fit x s b n s b
  unfolding none_below
  mask-refused k h e long low m =
      let reply : on_bytes fit x.reply ≡ refusal k = cond-true fit x.reply (refusal 200) h ∙ ap (λ (r : Result). r.reply) e in
      let words : x.words ≡ words_of s = ap (λ (r : Result). r.words) e in
      record {
        reply = m ∙ ap numbers (sym reply);
        state = sym (cond-true fit (bytes_of x.words) s h ∙ ap bytes_of words ∙ bytes-words state_size s long low);
        buffer = no_rows b ∙ ap (λ (r : Reply). put 0 (bytes_of (flat r.rows)) b) (sym reply);
        narrow = λ t. subst Narrow (sym e) (record { words = words-below s low; rows = none_below });
      }

-- the base's call on bytes, where it is what the call on their words comes to
pub mask-made : (c : Call) (fit : Bool) (x : Result) {s b : List ℕ} {n : Numbers} {s' b' : List ℕ} → alters (semantics c).action ≡ true → fit ≡ suffices c s
    → x ≡ step (inner c) (words_of s) → Made c s b n s' b' → MadeOn fit x s b n s' b'
mask-made c fit x {s} {b} {n} {s'} {b'} changes h e m =
    let y = step (inner c) (words_of s) in
    let same : MadeOn (suffices c s) y s b n s' b' =
    record {
      reply = m.reply;
      state = m.state ∙ cond-true (alters (semantics c).action) (state_on (suffices c s) s y.words) s changes;
      buffer = m.buffer;
      narrow = m.narrow;
    }
    in
    subst (λ (z : Result). MadeOn fit z s b n s' b') (sym e) (subst (λ (f : Bool). MadeOn f y s b n s' b') (sym h) same)

-- the bytes of the words, four by four
quads-bytes : (q : List ℕ) (b : List (List ℕ)) → length b ≡ length q → ((i : ℕ) → i < length q → get_or b i [] ≡ to_le_bytes w32 (get_or q i 0)) → flat_map (λ x. x) b ≡ bytes_of q
unfolding bytes_of
quads-bytes [] [] e h = refl
quads-bytes [] (x ∷ b) e h = absurd (omega (arith, e))
quads-bytes (w ∷ q) [] e h = absurd (omega (arith, e))
quads-bytes (w ∷ q) (x ∷ b) e h =
    let first : x ≡ to_le_bytes w32 w = h 0 (omega arith) in
    let rest : flat_map (λ x. x) b ≡ bytes_of q = quads-bytes q b (omega (arith, e)) (λ i k. h (suc i) (omega (arith, k))) in
    rw (first, rest)

-- a request's words as bytes are its words
pub quads_back : (q : List ℕ) (b : List (List ℕ)) → length b ≡ length q → ((i : ℕ) → i < length q → get_or b i [] ≡ to_le_bytes w32 (get_or q i 0)) → Below 4294967296 q
    → words_of (flat_map (λ x. x) b) ≡ q
quads_back q b e h low = ap words_of (quads-bytes q b e h) ∙ words-bytes q low

-- with the prefix in the place of the mask they are words still
set_below : (n : ℕ) (q : List ℕ) (i v : ℕ) → Below n q → v < n → Below n (set q i v)
set_below n [] i v h k j = h j
set_below n (x ∷ q) zero v h k zero = k
set_below n (x ∷ q) zero v h k (suc j) = h (suc j)
set_below n (x ∷ q) (suc i) v h k zero = h 0
set_below n (x ∷ q) (suc i) v h k (suc j) = set_below n q i v (λ l. h (suc l)) k j

pub prefixed_below : (at : ℕ) (q : List ℕ) → Below 4294967296 q → Below 4294967296 (prefixed at q)
prefixed_below at q h = set_below 4294967296 q at (ones (mask_at at q)) h (omega (arith, ones-le 32 (mask_at at q) (h at)))

pub state-long : (s : List ℕ) (room : ℕ) → with s (4 * event_room) room ≡ true → length s ≡ 4 * state_size
state-long s room h = eqb-true (length s) (4 * state_size) (and_left (state_fits s) (leb (4 * event_room) room) h)

-- ---- a request of other bytes, or with a bad mask
module _ (size : ℕ) (q s ev : List ℕ) (x : Result) where
  pub mask-unsized : {n : Numbers} → (length q ≡ 4 * size → ⊥) → n ≡ numbers (refusal 200) → MadeOn (change_fits size q s ev) x s ev n s ev
  mask-unsized h m = mask-no (change_fits size q s ev) x s ev (ap (λ (f : Bool). f && with s (4 * event_room) (length ev)) (ne_eqb (length q) (4 * size) h)) m

  sized : length q ≡ 4 * size → change_fits size q s ev ≡ with s (4 * event_room) (length ev)
  sized h = ap (λ (f : Bool). f && with s (4 * event_room) (length ev)) (eq-eqb (length q) (4 * size) h)

  -- by the number k where the bytes of state and events suffice
  mask-number : {n : Numbers} (k : ℕ) → length q ≡ 4 * size → Below 256 s → x ≡ refuses k (words_of s)
      → n ≡ numbers (on_bytes (with s (4 * event_room) (length ev)) (refusal k)) → MadeOn (change_fits size q s ev) x s ev n s ev
  unfolding sized
  mask-number {n} k h low e m =
      let rest = with s (4 * event_room) (length ev) in
      test-case rest
      (λ t.
      mask-refused (change_fits size q s ev) x s ev k (sized h ∙ t) e
      (state-long s (length ev) t) low
      (m ∙ ap numbers (cond-true rest (refusal k) (refusal 200) t)))
      (λ f. mask-no (change_fits size q s ev) x s ev (sized h ∙ f) (m ∙ ap numbers (cond-false rest (refusal k) (refusal 200) f)))

-- ---- a call by a request of so many words, with a mask at a place
pub record Asking (size at : ℕ) (f : Row → ℕ → Call) : Type 0 where
  request : Row → ℕ
  checks : (q : Row) (room : ℕ) → (semantics (f q room)).checks ≡ record { buffers = request_is size q && events_fit room; row = true; request = request q }
  changes : (q : Row) (room : ℕ) → alters (semantics (f q room)).action ≡ true
  inside : (q : Row) (room : ℕ) → inner (f q room) ≡ f (words_of q) event_room
  fits : (q s : Row) (room : ℕ) → suffices (f q room) s ≡ (eqb (length q) (4 * size) && with s (4 * event_room) room)

pub add_v4_asking : (now : ℕ) → Asking add_v4_size add_v4_mask (λ q room. Call.add_v4 q room now)
add_v4_asking now = record { request = add_v4_refusal; checks = λ q room. refl; changes = λ q room. refl; inside = λ q room. refl; fits = λ q s room. refl }

pub del_v4_asking : Asking del_v4_size del_v4_mask (λ q room. Call.del_v4 q room)
del_v4_asking =
    record { request = λ q. unless (fit_del_v4 q) 202; checks = λ q room. refl; changes = λ q room. refl; inside = λ q room. refl; fits = λ q s room. refl }

module _ {size at : ℕ} {f : Row → ℕ → Call} (k : Asking size at f) (q s ev : List ℕ) where
  abbrev call : Semantics
  call = masked (good (mask_at at (words_of q))) (semantics (f (prefixed at (words_of q)) event_room))

  -- with a bad mask
  pub bad_on : {n : Numbers} → length q ≡ 4 * size → Below 256 s → good (mask_at at (words_of q)) ≡ false
      → n ≡ numbers (on_bytes (with s (4 * event_room) (length ev)) (refusal (checked (record { buffers = true; row = true; request = bad_mask }) (words_of s))))
      → MadeOn (change_fits size q s ev) (perform call (words_of s)) s ev n s ev
  bad_on {n} h low b n-is =
      let w = words_of s in
      let number = checked (record { buffers = events_fit event_room; row = true; request = bad_mask }) w in
      let long : length (words_of q) ≡ size = omega (arith, length-words_of q, h) in
      let is : number ≡ checked (mask_checks size at (words_of q) event_room (k.request (prefixed at (words_of q)))) w =
      bad-checked size at (words_of q) event_room (k.request (prefixed at (words_of q))) w long b
      in
      let own : checked (mask_checks size at (words_of q) event_room (k.request (prefixed at (words_of q)))) w ≡ checked call.checks w =
      ap (λ (x : Checks). checked (record { buffers = x.buffers; row = x.row; request = cond (good (mask_at at (words_of q))) x.request bad_mask }) w)
      (sym (k.checks (prefixed at (words_of q)) event_room))
      in
      mask-number size q s ev (perform call w) number h low
      (call-refused call w (is ∙ own) (refused-some (eqb (length w) state_size && events_fit event_room) (formed w && true) bad_mask (λ z. omega (arith, z)))) n-is

  -- b are the bytes of the words with the prefix
  pub good-on : {b s' ev' : List ℕ} {n : Numbers} → length q ≡ 4 * size → good (mask_at at (words_of q)) ≡ true → words_of b ≡ prefixed at (words_of q) → length b ≡ 4 * size
      → Made (f b (length ev)) s ev n s' ev' → MadeOn (change_fits size q s ev) (perform call (words_of s)) s ev n s' ev'
  good-on {b} h is-good own long made =
      let w = words_of s in
      let base : perform call w ≡ step (f (prefixed at (words_of q)) event_room) w =
      good-is (semantics (f (prefixed at (words_of q)) event_room)) (good (mask_at at (words_of q))) w is-good
      in
      let inner-is : step (inner (f b (length ev))) w ≡ step (f (prefixed at (words_of q)) event_room) w =
      ap (λ (c : Call). step c w) (k.inside b (length ev) ∙ ap (λ (x : Row). f x event_room) own)
      in
      let rest = with s (4 * event_room) (length ev) in
      let fit : change_fits size q s ev ≡ suffices (f b (length ev)) s =
      ap (λ (t : Bool). t && rest) (eq-eqb (length q) (4 * size) h ∙ sym (eq-eqb (length b) (4 * size) long)) ∙ sym (k.fits b s (length ev))
      in
      mask-made (f b (length ev)) (change_fits size q s ev) (perform call w) (k.changes b (length ev)) fit (base ∙ sym inner-is) made

-- the reply r that refuses a request of N words with its mask at a place
pub record BadBytes (size at : ℕ) (q s : List ℕ) (room : ℕ) (r : Rep.Reply) : Type 0 where
  pub unsized : length q ≢ 4 * size → r ≡ reply_of (refusal 200)
  pub masked : length q ≡ 4 * size → (good (mask_at at (words_of q)) ≡ false)
      × (r ≡ reply_of (on_bytes (with s (4 * event_room) room) (refusal (checked (record { buffers = true; row = true; request = bad_mask }) (words_of s)))))

module _ {size at : ℕ} {f : Row → ℕ → Call} (k : Asking size at f) (q s ev : List ℕ) where
  pub refused-on : {r : Rep.Reply} → Below 256 s → BadBytes size at q s (length ev) r
      → MadeOn (change_fits size q s ev) (perform (masked (good (mask_at at (words_of q))) (semantics (f (prefixed at (words_of q)) event_room))) (words_of s)) s ev (numbers_in r) s ev
  refused-on {r} low b =
      test-case (eqb (length q) (4 * size))
      (λ e. let h = eqb-true (length q) (4 * size) e in let m = b.masked h in bad_on k q s ev h low m.0 (ap numbers_in m.1))
      (λ e. let h = eqb-false (length q) (4 * size) e in mask-unsized size q s ev (perform (masked (good (mask_at at (words_of q))) (semantics (f (prefixed at (words_of q)) event_room))) (words_of s)) h (ap numbers_in (b.unsized h)))
