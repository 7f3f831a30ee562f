-- The listing of well-formed words, as the functions over rows and text have it.
-- Assumes nothing.
use Rattle.std.specs.Prelude.{ℕ, ◌+◌, ◌*◌, ◌/◌, ◌≤◌, ◌≡◌, true, false, List, [], eqb, length, take, drop, Bool, Result, Ok, Err, MatchResult}
use Rattle.std.specs.Result.{IsErr, IsErrAnd}
use Rattle.refusal.specs.declared.Refusal.{Refusal}
use Rattle.refusal.specs.Refusal.{number_of, unless}
use Rattle.refusal.specs.Laws.{failed}
use Rattle.std.proofs.Common.{sym, ap, ◌∙◌, append-nil, arith, take_at, length-take-le, eq-eqb, ne_eqb}
use Rattle.lists.specs.Lists.{Row, flat, put, chop}
use Rattle.lists.specs.Bools.{and_left, cond-true, cond-false}
use Rattle.lists.specs.Rows.{sized, length-flat, chop-flat}
use Rattle.definition.specs.Words.{base_size, state_size, base, decode, well_formed, state_of, counts_true, formed}
use Rattle.definition.proofs.Preservation.Step.{base-long}
use Rattle.definition.specs.Reference.Source.{dump4}
use Rattle.definition.specs.Preservation.Encode.{good-decode}
use Rattle.definition.proofs.Preservation.Reading.{dump4-listing}
use Rattle.endian.specs.Endian.{words_of}
use Rattle.endian.specs.Laws.{length-words_of}
use Rattle.rows.specs.Rows.{chunks-chop}
use Rattle.std.specs.Simd.{first_chunks}
use Rattle.text.specs.Print.{render, refused_line}
use Rattle.app_show.specs.Show.{shown_words, shown}

module _ (w : List ℕ) (l : length w ≡ base_size) (h : well_formed w ≡ true) where
  pub listing-few : length (dump4 (decode w)) ≤ 256
  listing-few = (dump4-listing (decode w) (good-decode w l h)).0

  pub listing-sized : sized 32 (dump4 (decode w)) ≡ true
  listing-sized = (dump4-listing (decode w) (good-decode w l h)).1

-- what is shown of words, by their form
pub shown-well : (w : List ℕ) → formed w ≡ true → shown_words w ≡ render (dump4 (state_of w))
unfolding shown_words
shown-well w h = cond-true (formed w) (render (dump4 (state_of w))) (refused_line 201) h

pub shown_ill : (w : List ℕ) → formed w ≡ false → shown_words w ≡ refused_line 201
unfolding shown_words
shown_ill w h = cond-false (formed w) (render (dump4 (state_of w))) (refused_line 201) h

pub shown-words : (b : List ℕ) → length b ≡ (4 * state_size) → shown b ≡ shown_words (words_of b)
unfolding shown
shown-words b h = cond-true (eqb (length b) (4 * state_size)) (shown_words (words_of b)) (refused_line 200) (eq-eqb (length b) (4 * state_size) h)

pub shown-other : (b : List ℕ) → (length b ≡ (4 * state_size) → ⊥) → shown b ≡ refused_line 200
unfolding shown
shown-other b h = cond-false (eqb (length b) (4 * state_size)) (shown_words (words_of b)) (refused_line 200) (ne_eqb (length b) (4 * state_size) h)

-- of words that are read from as many bytes the first ones are those of the lists
pub base-read : (w b : List ℕ) → w ≡ words_of b → length b ≡ 4 * state_size → length (base w) ≡ base_size
base-read w b e h = base-long w (omega (arith, ap length e, length-words_of b, h))

-- and of a well-formed state these are well-formed
pub lists-formed : (w : List ℕ) → formed w ≡ true → well_formed (base w) ≡ true
lists-formed w h = and_left (well_formed (base w)) (counts_true w) h

-- bytes that a check refuses
pub refused : {A : Type 0} (P : A → Type 0) (t : Result A Refusal) (e : Refusal) (b : List ℕ) (pass : Bool) (why : Refusal) → IsErr t × IsErrAnd t (λ x. x ≡ e)
    → Err e ≡ unless pass why → (pass ≡ false → shown b ≡ refused_line (number_of why)) → MatchResult t P (λ x. shown b ≡ refused_line (number_of x))
refused P (Ok a) e b pass why h f g = absurd h.1
refused P (Err x) e b pass why h f g =
    let is = failed pass why e f in
    g is.0 ∙ ap (λ (y : Refusal). refused_line (number_of y)) (sym (h.1 ∙ is.1))

-- the rows read back from the listing
pub listed-rows : (rows : List Row) (buffer l : List ℕ) (n : ℕ) → sized 32 rows ≡ true → n ≡ length rows → buffer ≡ put 0 (flat rows) l
    → chop 32 n (take (32 * n) buffer) ≡ rows
unfolding put
listed-rows rows buffer l n s e f =
    let long : length (flat rows) ≡ 32 * n = length-flat 32 rows s ∙ ap (λ (k : ℕ). 32 * k) (sym e) in
    let front : take (32 * n) buffer ≡ flat rows = ap (take (32 * n)) f ∙ take_at (flat rows) (drop (0 + length (flat rows)) l) (32 * n) long in
    rw (front, e) (rw append-nil at (chop-flat 32 rows [] s))

pub listed-chunks : (rows : List Row) (buffer l w : List ℕ) (n : ℕ) → sized 32 rows ≡ true → n ≡ length rows → buffer ≡ put 0 (flat rows) l
    → w ≡ take (32 * n) buffer → 32 * n ≤ length buffer → first_chunks 32 (length w / 32) w ≡ rows
listed-chunks rows buffer l w n s e f g h =
    let many : length w / 32 ≡ n = rw (g, length-take-le) (omega arith) in
    rw (many, g) (chunks-chop 32 n (take (32 * n) buffer) ∙ listed-rows rows buffer l n s e f)
