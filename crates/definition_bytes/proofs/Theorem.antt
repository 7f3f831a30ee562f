-- Two runs of the code on bytes side by side: the proof. What is seen, read as words, is what `step` gives of the words.
-- Assumes nothing.
use Rattle.std.specs.Prelude.{ℕ, zero, suc, ◌*◌, ◌≡◌, refl, Bool, true, false, not, ◌&&◌, eqb}
use Rattle.std.proofs.Common.{arith, mul-suc, ◌∙◌}
use Rattle.std.proofs.Math.Numerals.{add-four}
use Rattle.std.proofs.Math.Path.{sym, ap, subst}
use Rattle.std.proofs.Math.Bool.{cond}
use mathlib.Core.List.{List, [], ◌∷◌, map}
use Rattle.std.proofs.Math.ListN.{length}
use Rattle.lists.specs.Lists.{flat, put, keep, zeros}
use Rattle.lists.specs.Bools.{test-case, cond-true, cond-false, cond_same}
use Rattle.lists.specs.Rows.{length-zeros}
use Rattle.endian.specs.Endian.{words_of, bytes_of}
use Rattle.endian.specs.Laws.{Below, length-bytes_of, words-bytes, words_of-put}
use Rattle.definition.specs.Words.{state_size}
use Rattle.definition.specs.Call.{Call, Reply, Numbers, numbers, refusal}
use Rattle.definition.specs.Step.{Result, refuses, alters, semantics, step}
use Rattle.definition.proofs.Preservation.Step.{Held, held-empty, step-held, perform-reads}
use Rattle.definition.specs.Noninterference.Statement.{struck, empty_words}
use Rattle.definition.specs.Noninterference.Public.{Seen, spared}
use Rattle.definition.proofs.Noninterference.ReadBack.{whole-reply}
use Rattle.definition.proofs.Noninterference.Code.{Shows, Showed, showed_equal}
use Rattle.definition_bytes.specs.Bytes.{on_bytes, state_on, suffices, inner, Made, Ran, as_words, in_words, empty_bytes, ByteRuns}
use Rattle.definition_bytes.proofs.AsWords.{lacking, Is, is}

-- ---- one call
-- rows written as bytes, read as words
wrote : (vs b : List ℕ) → Below 4294967296 vs → words_of (put 0 (bytes_of vs) b) ≡ put 0 vs (words_of b)
wrote vs b h =
    words_of-put 0 (length vs) (bytes_of vs) b (length-bytes_of vs) (omega arith)
    ∙ ap (λ (x : List ℕ). put 0 x (words_of b)) (words-bytes vs h)

none_below : Below 4294967296 (flat [])
unfolding flat
none_below i = omega arith

-- the bytes, as long as they must be, hold well-formed words
record Represents (s : List ℕ) : Type 0 where
  long : length s ≡ 4 * state_size
  held : Held (words_of s)

record Goes (c : Call) (s : List ℕ) (x : Seen) (s' : List ℕ) : Type 0 where
  shows : Shows (as_words c) (words_of s) (in_words x) (words_of s')
  long : length s' ≡ 4 * state_size

module _ (c : Call) (s b : List ℕ) (n : Numbers) (s' b' : List ℕ) (m : Made c s b n s' b') (h : Represents s) where
  w : List ℕ
  w = words_of s

  i : Is c s
  i = is s h.long c

  goes-yes : suffices c s ≡ true → Goes c s (record { numbers = n; buffer = b' }) s'
  unfolding w i
  goes-yes e =
      let r : Result = step (inner c) w in
      let same : step (as_words c) w ≡ r = ap (λ (d : Call). step d w) (i.yes e) in
      let reply : on_bytes (suffices c s) r.reply ≡ (step (as_words c) w).reply = cond-true (suffices c s) r.reply (refusal 200) e ∙ ap (λ (x : Result). x.reply) (sym same) in
      let rows : Below 4294967296 (flat (step (as_words c) w).reply.rows) = subst (λ (x : Result). Below 4294967296 (flat x.reply.rows)) (sym same) (m.narrow e).rows in
      let buffer : words_of b' ≡ put 0 (flat (step (as_words c) w).reply.rows) (words_of b) =
      ap words_of (m.buffer ∙ ap (λ (x : Reply). put 0 (bytes_of (flat x.rows)) b) reply) ∙ wrote (flat (step (as_words c) w).reply.rows) b rows
      in
      let left : state_on (suffices c s) s r.words ≡ bytes_of r.words = cond-true (suffices c s) (bytes_of r.words) s e in
      let long : length r.words ≡ state_size = (step-held (inner c) w h.held).long in
      let answer = whole-reply (as_words c) w (words_of b) n (words_of b') (m.reply ∙ ap numbers reply) buffer in
      test-case (alters (semantics c).action)
      (λ a.
      let bytes : s' ≡ bytes_of r.words = m.state ∙ cond-true (alters (semantics c).action) _ s a ∙ left in
      record {
        shows = record { reply = answer; words = ap words_of bytes ∙ words-bytes r.words (m.narrow e).words ∙ ap (λ (x : Result). x.words) (sym same) };
        long = ap length bytes ∙ length-bytes_of r.words ∙ ap (λ (k : ℕ). 4 * k) long;
      })
      (λ a.
      let bytes : s' ≡ s = m.state ∙ cond-false (alters (semantics c).action) _ s a in
      record {
        shows = record { reply = answer; words = ap words_of bytes ∙ sym (perform-reads (semantics (as_words c)) w (i.kind ∙ a)) };
        long = ap length bytes ∙ h.long;
      })

  goes-no : suffices c s ≡ false → Goes c s (record { numbers = n; buffer = b' }) s'
  unfolding w i
  goes-no e =
      let r : Result = step (inner c) w in
      let same : step (as_words c) w ≡ refuses 200 w = lacking (as_words c) w (i.no e) in
      let reply : on_bytes (suffices c s) r.reply ≡ (step (as_words c) w).reply = cond-false (suffices c s) r.reply (refusal 200) e ∙ ap (λ (x : Result). x.reply) (sym same) in
      let rows : Below 4294967296 (flat (step (as_words c) w).reply.rows) = subst (λ (x : Result). Below 4294967296 (flat x.reply.rows)) (sym same) none_below in
      let buffer : words_of b' ≡ put 0 (flat (step (as_words c) w).reply.rows) (words_of b) =
      ap words_of (m.buffer ∙ ap (λ (x : Reply). put 0 (bytes_of (flat x.rows)) b) reply) ∙ wrote (flat (step (as_words c) w).reply.rows) b rows
      in
      let bytes : s' ≡ s =
      m.state ∙ ap (λ (x : List ℕ). cond (alters (semantics c).action) x s) (cond-false (suffices c s) (bytes_of r.words) s e) ∙ cond_same (alters (semantics c).action) s
      in
      record {
        shows = record { reply = whole-reply (as_words c) w (words_of b) n (words_of b') (m.reply ∙ ap numbers reply) buffer; words = ap words_of bytes ∙ ap (λ (x : Result). x.words) (sym same) };
        long = ap length bytes ∙ h.long;
      }

  goes : Goes c s (record { numbers = n; buffer = b' }) s'
  goes = test-case (suffices c s) goes-yes goes-no

-- ---- a run
ran_showed : (cs : List Call) (s : List ℕ) (xs : List Seen) (s' : List ℕ) → Ran cs s xs s' → Represents s → Showed (map as_words cs) (words_of s) (map in_words xs) (words_of s')
ran_showed cs s xs s' (Ran.none t) h = Showed.none (words_of t)
ran_showed cs s xs s' (Ran.next c ds t b x t' ys t'' m r) h =
    let g = goes c t b x.numbers t' x.buffer m h in
    let held : Held (words_of t') = subst Held (sym g.shows.words) (step-held (as_words c) (words_of t) h.held) in
    Showed.next (as_words c) (map as_words ds) (words_of t) (in_words x) (words_of t') (map in_words ys) (words_of t'') g.shows
    (ran_showed ds t' ys t'' r (record { long = g.long; held = held }))

words_of-zeros : (n : ℕ) → words_of (zeros (4 * n)) ≡ zeros n
unfolding words_of zeros
words_of-zeros zero = refl
words_of-zeros (suc n) = rw (mul-suc 4 n, add-four, words_of-zeros n)

empty-words : words_of empty_bytes ≡ empty_words
empty-words = words_of-zeros state_size

holds-empty : Represents empty_bytes
holds-empty = record { long = length-zeros (4 * state_size); held = subst Held (sym empty-words) held-empty }

-- ---- the claim
keep-map : (p : Call → Bool) (f : Call → Call) (l : List Call) → keep p (map f l) ≡ map f (keep (λ x. p (f x)) l)
keep-map p f [] = refl
keep-map p f (x ∷ l) =
    test-case (p (f x)) (λ e. rw (e, keep-map p f l)) (λ e. rw (e, keep-map p f l))

spared-words : (xs : List Seen) → spared (map in_words xs) ≡ spared xs
spared-words [] = refl
spared-words (x ∷ xs) = ap (λ (b : Bool). not (eqb x.numbers.number 203) && b) (spared-words xs)

pub byte-runs : ByteRuns
byte-runs chosen choice cs ds xs ys s t agree m r h k =
    let p : Call → Bool = λ c. not (struck chosen c) in
    showed_equal chosen choice (map as_words cs) (map as_words ds) (map in_words xs) (map in_words ys) (words_of s) (words_of t)
    (keep-map p as_words cs ∙ ap (map as_words) agree ∙ sym (keep-map p as_words ds))
    (subst (λ (w : List ℕ). Showed (map as_words cs) w (map in_words xs) (words_of s)) empty-words (ran_showed cs empty_bytes xs s m holds-empty))
    (subst (λ (w : List ℕ). Showed (map as_words ds) w (map in_words ys) (words_of t)) empty-words (ran_showed ds empty_bytes ys t r holds-empty))
    (spared-words xs ∙ h) (spared-words ys ∙ k)
