-- The calls on bytes that change the state, by their descriptions.
-- Assumes nothing.
use Rattle.std.specs.Prelude.{ℕ, ◌*◌, ◌-◌, ◌≤◌, ◌≡◌, refl, Bool, true, false, cond, ◌&&◌, ◌≢◌, eqb, leb, length, drop}
use Rattle.std.proofs.Common.{arith, ◌∙◌, eqb-true, leb-true}
use Rattle.std.proofs.Math.Path.{sym, ap, subst}
use mathlib.Core.List.{List}
use Rattle.std.proofs.Math.ListN.{take}
use Rattle.lists.specs.Lists.{Row, put}
use Rattle.lists.specs.Put.{put_whole}
use Rattle.lists.specs.Bools.{and_left, and_right, cond-true}
use Rattle.layout.specs.Event as Event
use Rattle.layout.specs.Request.{del_route4_size}
use Rattle.endian.specs.Endian.{words_of, bytes_of}
use Rattle.endian.specs.Laws.{Below, length-bytes_of, bytes-words, words-whole}
use Rattle.definition.specs.Words.{state_size}
use Rattle.definition.specs.Call.{Call, Numbers, numbers, refusal}
use Rattle.definition.specs.Step.{Result, Buffer, for_events, alters, semantics, step, event_room}
use Rattle.definition.proofs.Laws.Refusals.{unfit-stays, others_leave}
use Rattle.definition.proofs.Preservation.Shape.{Shaped}
use Rattle.definition.specs.Noninterference.Public.{Lent}
use Rattle.definition.proofs.Noninterference.ReadBack.{shaped}
use Rattle.definition_bytes.specs.Bytes.{state_fits, with, suffices, inner, Made}
use Rattle.call_reply.specs.declared.Reply.{Reply}
use Rattle.call_reply.specs.Answer.{numbers_in}
use Rattle.call_dispatch.specs.Numbered.{Change, up_at, down_at, add_v4_at, del_v4_at, expire_at, add_route4_at, del_route4_at, Did}
use Rattle.interface4.specs.Made.{Wrote, wrote, part-words, Gave, gave_room, made-no, made-yes}
use Rattle.interface4.specs.Quiet.{expire-stays}

-- ---- what a changing call is on bytes
-- its number and value say that it left every word
abbrev Still : Change → Result → Type 0
Still x r = x.still r.reply.number r.reply.value ≡ true

pub record OnBytes (x : Change) (q : Row) (t early room : ℕ) : Type 0 where
  pub inside : inner (x.call q t early room) ≡ x.call (words_of q) t early event_room
  pub fits : (s : List ℕ) → cond (eqb x.size 0) (length q) 0 ≡ 0 → suffices (x.call q t early room) s ≡ eqb (length q) (4 * x.size) && with s (4 * event_room) room
  pub stays : (w : List ℕ) → Still x (step (x.call q t early room) w) → (step (x.call q t early room) w).words ≡ w
  pub changes : alters (semantics (x.call q t early room)).action ≡ true
  pub buffer : (semantics (x.call q t early room)).lent ≡ for_events room

-- with a request of so many words, at most those of the longest
pub record Described (x : Change) (words : ℕ) : Type 0 where
  pub size : words ≡ x.size
  pub few : words ≤ del_route4_size
  pub on : (q : Row) (t early room : ℕ) → OnBytes x q t early room

nonzero : (n : ℕ) → leb 1 n ≡ true → n ≢ 0
nonzero n h z = omega (arith, leb-true 1 n h)

up-on : (q : Row) (t early room : ℕ) → OnBytes up_at q t early room
up-on q t early room = record { inside = refl; fits = λ s h. rw h; stays = λ w h. others_leave (Call.up room t) w (λ st. refl) (nonzero _ h); changes = refl; buffer = refl }

pub up-described : Described up_at 0
up-described = record { size = refl; few = omega arith; on = up-on }

down-on : (q : Row) (t early room : ℕ) → OnBytes down_at q t early room
down-on q t early room = record { inside = refl; fits = λ s h. rw h; stays = λ w h. others_leave (Call.down room) w (λ st. refl) (nonzero _ h); changes = refl; buffer = refl }

pub down-described : Described down_at 0
down-described = record { size = refl; few = omega arith; on = down-on }

add_v4-on : (q : Row) (t early room : ℕ) → OnBytes add_v4_at q t early room
add_v4-on q t early room = record { inside = refl; fits = λ s h. refl; stays = λ w h. others_leave (Call.add_v4 q room t) w (λ st. refl) (nonzero _ h); changes = refl; buffer = refl }

pub add_v4-described : Described add_v4_at 18
add_v4-described = record { size = refl; few = omega arith; on = add_v4-on }

del_v4-on : (q : Row) (t early room : ℕ) → OnBytes del_v4_at q t early room
del_v4-on q t early room = record { inside = refl; fits = λ s h. refl; stays = λ w h. others_leave (Call.del_v4 q room) w (λ st. refl) (nonzero _ h); changes = refl; buffer = refl }

pub del_v4-described : Described del_v4_at 11
del_v4-described = record { size = refl; few = omega arith; on = del_v4-on }

expire-on : (q : Row) (t early room : ℕ) → OnBytes expire_at q t early room
expire-on q t early room = record { inside = refl; fits = λ s h. rw h; stays = expire-stays room t early; changes = refl; buffer = refl }

pub expire-described : Described expire_at 0
expire-described = record { size = refl; few = omega arith; on = expire-on }

add_route4-on : (q : Row) (t early room : ℕ) → OnBytes add_route4_at q t early room
add_route4-on q t early room = record { inside = refl; fits = λ s h. refl; stays = unfit-stays (Call.add_route4 q room); changes = refl; buffer = refl }

pub add_route4-described : Described add_route4_at 34
add_route4-described = record { size = refl; few = omega arith; on = add_route4-on }

del_route4-on : (q : Row) (t early room : ℕ) → OnBytes del_route4_at q t early room
del_route4-on q t early room = record { inside = refl; fits = λ s h. refl; stays = λ w h. others_leave (Call.del_route4 q room) w (λ st. refl) (nonzero _ h); changes = refl; buffer = refl }

pub del_route4-described : Described del_route4_at 49
del_route4-described = record { size = refl; few = omega arith; on = del_route4-on }

-- ---- as many bytes as there must be
abbrev pub change_fits : ℕ → List ℕ → List ℕ → List ℕ → Bool
change_fits size q s ev = eqb (length q) (4 * size) && with s (4 * event_room) (length ev)

pub record EnoughBytes (size : ℕ) (q s ev : List ℕ) : Type 0 where
  pub request : length q ≡ 4 * size
  pub state : length s ≡ 4 * state_size
  pub events : 4 * event_room ≤ length ev

pub fits : (size : ℕ) (q s ev : List ℕ) → change_fits size q s ev ≡ true → EnoughBytes size q s ev
fits size q s ev h =
    let asked = eqb (length q) (4 * size) in
    let rest = and_right asked (with s (4 * event_room) (length ev)) h in
    record {
      request = eqb-true (length q) (4 * size) (and_left asked (with s (4 * event_room) (length ev)) h);
      state = eqb-true (length s) (4 * state_size) (and_left (state_fits s) (leb (4 * event_room) (length ev)) rest);
      events = leb-true (4 * event_room) (length ev) (and_right (state_fits s) (leb (4 * event_room) (length ev)) rest);
    }

-- all of the state's bytes are written
pub state-back : (w b b' : List ℕ) → length w ≡ state_size → length b ≡ 4 * state_size → b' ≡ put 0 (bytes_of w) b → b' ≡ bytes_of w
state-back w b b' h k e = e ∙ put_whole (bytes_of w) b (omega (arith, length-bytes_of w))

-- ---- the call
module _ (x : Change) (size : ℕ) (d : Described x size) (q s ev : List ℕ) (t early : ℕ) (none : cond (eqb size 0) (length q) 0 ≡ 0) where
  abbrev call : Call
  call = x.call q t early (length ev)

  lent : Lent (semantics call).lent ev
  lent = subst (λ (k : Buffer). Lent k ev) (sym (d.on q t early (length ev)).buffer) refl

  suffice : suffices call s ≡ change_fits size q s ev
  suffice =
      (d.on q t early (length ev)).fits s (subst (λ (n : ℕ). cond (eqb n 0) (length q) 0 ≡ 0) d.size none)
      ∙ ap (λ (n : ℕ). change_fits n q s ev) (sym d.size)

  pub changed-no : {n : Numbers} → change_fits size q s ev ≡ false → n ≡ numbers (refusal 200) → Made call s ev n s ev
  unfolding lent
  changed-no h e = made-no call s ev lent (suffice ∙ h) e

  -- made on the words r of the request and w of the state, each read into words that were there, and on the event buffer e
  module _ (fit : change_fits size q s ev ≡ true) (u v : List ℕ) {r w e w' e' : List ℕ} {n : Numbers}
      (request : r ≡ put 0 (words_of q) u) (state : w ≡ put 0 (words_of s) v) (long : length v ≡ state_size)
      (m : Gave (x.call (take (size - 0) (drop 0 r)) t early event_room) w e n w' e') where
    there : EnoughBytes size q s ev
    there = fits size q s ev fit

    words : w ≡ words_of s
    unfolding there
    words = words-whole state_size s v w there.state long state

    made : Gave (inner call) (words_of s) e n w' e'
    unfolding there
    made =
        let asked : take (size - 0) (drop 0 r) ≡ words_of q = part-words size q u r there.request request in
        let same = ap (λ (y : Row). x.call y t early event_room) asked ∙ sym (d.on q t early (length ev)).inside in
        subst (λ (y : List ℕ). Gave (inner call) y e n w' e') words (subst (λ (z : Call). Gave z w e n w' e') same m)

    emitted : Wrote (for_events event_room) n (step (inner call) (words_of s)).reply.rows
    unfolding made
    emitted =
        let inside = (d.on q t early (length ev)).inside in
        let events = ap (λ (z : Call). (semantics z).lent) inside ∙ (d.on (words_of q) t early event_room).buffer in
        let reply = (step (inner call) (words_of s)).reply in
        wrote (for_events event_room) reply n (subst (λ (k : Buffer). Shaped k reply) events (shaped (inner call) (words_of s))) made.reply

    -- its rows have room in both buffers
    pub emitted-room : (Event.size * n.value ≤ length e') × (Event.size * n.value ≤ event_room)
    unfolding made emitted
    emitted-room = (omega (arith, emitted.long, gave_room (inner call) (words_of s) e made), emitted.room)

    -- where its numbers say so, the bytes are those of the words that it left
    pub still : Below 256 s → x.still n.number n.value ≡ true → s ≡ bytes_of w'
    unfolding there
    still f h =
        let l = take (size - 0) (drop 0 r) in
        let numbered = ap (λ (y : Numbers). x.still y.number y.value) m.reply in
        let stays = (d.on l t early event_room).stays w (sym numbered ∙ h) in
        sym (bytes-words state_size s there.state f) ∙ ap bytes_of (sym (m.words ∙ stays ∙ words))

    pub changed-yes : {s' ev' : List ℕ} → s' ≡ bytes_of w' → ev' ≡ put 0 (bytes_of (take (Event.size * n.value) e')) ev
        → Below 4294967296 w' → Below 4294967296 e' → Made call s ev n s' ev'
    unfolding lent made emitted
    changed-yes p v f g =
        let written = cond-true (alters (semantics call).action) (bytes_of w') s (d.on q t early (length ev)).changes in
        made-yes call s ev lent (Event.size * n.value) (suffice ∙ fit) made emitted.long (p ∙ sym written) v f g

-- what the call on words did, by its contract
pub did-gave : {c : Call} {w e w' e' : List ℕ} {r : Reply} → Did (step c w) e r w' e' → Gave c w e (numbers_in r) w' e'
did-gave d = record { reply = ap numbers_in d.answer; words = d.words; buffer = d.buffer }
