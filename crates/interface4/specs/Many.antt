-- Destinations looked up together on bytes: where there are as many bytes as there must be, the call on the words of the first of them,
-- given back as bytes.
-- Assumes nothing.
use Rattle.std.specs.Prelude.{ℕ, ◌*◌, ◌-◌, ◌/◌, ◌%◌, ◌≤◌, min, ◌≡◌, refl, true, false, cond, ◌&&◌, List, eqb, leb, length, take, drop}
use Rattle.std.proofs.Common.{arith, sym, ap, ap₂, ◌∙◌, length-take-le, eqb-true, leb-true, le-leb}
use Rattle.std.proofs.lemmas.List.{length-take, take_min}
use Rattle.std.proofs.Math.Nat.{min_comm, min-le_left, min-le_right}
use Rattle.lists.specs.Lists.{flat, put}
use Rattle.lists.specs.Rows.{length-flat}
use Rattle.lists.specs.Bools.{and_left, same_test}
use Rattle.endian.specs.Endian.{words_of, bytes_of}
use Rattle.endian.specs.Laws.{length-words_of, words_of-take}
use Rattle.definition.specs.Words.{state_size}
use Rattle.definition.specs.Call as Call
use Rattle.definition.specs.Call.{refusal}
use Rattle.definition_bytes.specs.Bytes.{state_fits}
use Rattle.definition_bytes.specs.Many.{many_suffices, lookup4_many_on_bytes}
use Rattle.definition_many.specs.Many.{lookup4_many_call}
use Rattle.definition_many.proofs.Laws.{ManyShape, many-shaped, many_first}
use Rattle.call_reply.specs.declared.Reply.{Reply}
use Rattle.call_reply.specs.Answer.{reply_of}
use Rattle.interface4.specs.Made.{rows-front, part-words, no_rows}

-- what comes to x on bytes, lent answers of the bytes b, gave the reply r, and left the answers b'
pub record ManyOn (x : Call.Reply) (b : List ℕ) (r : Reply) (b' : List ℕ) : Type 0 where
  pub value : r ≡ reply_of x
  pub answers_after : b' ≡ put 0 (bytes_of (flat x.rows)) b

module _ (s d b : List ℕ) where
  -- the code's test, by the destinations that it found
  pub suffices-as : state_fits s && (eqb (length d % 4) 0 && leb (33 * (length d / 4)) (length b / 4)) ≡ many_suffices (length b) d s
  suffices-as =
      let n = length d / 4 in
      let roomy : leb (33 * n) (length b / 4) ≡ leb (4 * (33 * n)) (length b) =
      same_test (leb (33 * n) (length b / 4)) (leb (4 * (33 * n)) (length b))
      (λ h. le-leb (4 * (33 * n)) (length b) (omega (arith, leb-true (33 * n) (length b / 4) h)))
      (λ h. le-leb (33 * n) (length b / 4) (omega (arith, leb-true (4 * (33 * n)) (length b) h)))
      in
      rw (length-words_of d, roomy) refl

  pub many-state : many_suffices (length b) d s ≡ true → length s ≡ 4 * state_size
  many-state h =
      eqb-true (length s) (4 * state_size) (and_left (state_fits s) (eqb (length d % 4) 0 && leb (4 * (33 * length (words_of d))) (length b)) h)

  pub many-short : {r : Reply} → many_suffices (length b) d s ≡ false → r ≡ reply_of (refusal 200) → ManyOn (lookup4_many_on_bytes (length b) d s) b r b
  unfolding lookup4_many_on_bytes
  many-short h e = rw h (record { value = e; answers_after = no_rows b })

  module _ (n : ℕ) (some : n ≡ min (length d / 4) 257) where
    first : n ≡ min 257 (length (words_of d))
    first = some ∙ min_comm (length d / 4) 257 ∙ ap (min 257) (sym (length-words_of d))

    -- the words of the first destinations stand at the start of those that they were read into
    pub first-words : (l m : List ℕ) → m ≡ put 0 (words_of (take (4 * n - 0) (drop 0 d))) l → take (n - 0) (drop 0 m) ≡ take 257 (words_of d)
    unfolding first
    first-words l m h =
        let few : n ≤ length d / 4 = omega (arith, some, min-le_left (length d / 4) 257) in
        let all : 4 * n - 0 ≡ 4 * n = omega arith in
        part-words n (take (4 * n) d) l m (length-take-le (4 * n) d (omega (arith, few))) (rw all at h)
        ∙ words_of-take n d ∙ ap (λ (k : ℕ). take k (words_of d)) first ∙ take_min 257 (words_of d)

    -- the call on words, lent room for all that are read
    module _ (most : ℕ) {w ds : List ℕ} {r : Reply} (ew : w ≡ words_of s) (ed : ds ≡ take 257 (words_of d)) (long : most ≡ 33 * 257)
        (value : r ≡ reply_of (lookup4_many_call most ds w).reply) where
      counted : length (take 257 (words_of d)) ≡ n
      unfolding first
      counted = length-take 257 (words_of d) ∙ sym first

      shape : ManyShape most ds (lookup4_many_call most ds w).reply
      shape = many-shaped most ds w

      inside : (lookup4_many_call (33 * length (words_of d)) (words_of d) (words_of s)).reply ≡ (lookup4_many_call most ds w).reply
      unfolding counted
      inside =
          let few : n ≤ 257 = omega (arith, some, min-le_right (length d / 4) 257) in
          rw (ew, ed)
          (many_first (words_of s) (33 * length (words_of d)) most (words_of d) (omega arith) (omega (arith, counted, few, long)))

      pub many-whole : (l : List ℕ) {l' b' : List ℕ} {k : ℕ} → l' ≡ put 0 (flat (lookup4_many_call most ds w).reply.rows) l → many_suffices (length b) d s ≡ true
          → k ≡ cond (eqb r.number 0) n 0 → b' ≡ put 0 (bytes_of (take (33 * k) l')) b → ManyOn (lookup4_many_on_bytes (length b) d s) b r b'
      unfolding lookup4_many_on_bytes counted shape inside
      many-whole l {l'} {k = k} after h e f =
          let x = (lookup4_many_call most ds w).reply in
          let all : n ≡ length ds = sym counted ∙ ap length (sym ed) in
          let count : k ≡ length x.rows = e ∙ ap₂ (λ (z : Reply) (i : ℕ). cond (eqb z.number 0) i 0) value all ∙ sym shape.counts in
          let words : 33 * k ≡ length (flat x.rows) = ap (λ (i : ℕ). 33 * i) count ∙ sym (length-flat 33 x.rows shape.size) in
          rw (h, inside) (record { value = value; answers_after = f ∙ ap (λ (z : List ℕ). put 0 (bytes_of z) b) (rows-front (flat x.rows) l' l (33 * k) words after) })
