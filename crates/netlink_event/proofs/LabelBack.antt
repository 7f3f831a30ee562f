-- A label's bytes are those of its four words, and the reader finds the words again; a label is cut at its first zero byte.
-- Assumes nothing.
use Rattle.std.specs.Prelude.{ℕ, zero, suc, ◌+◌, ◌*◌, ◌^◌, ◌≤◌, ◌<◌, ◌≡◌, refl, true, not, eqb, get_or, drop}
use Rattle.std.proofs.Common.{sym, ◌∙◌, add-one, take-suc, mul-suc, mul_comm, length-take, pow-add}
use Rattle.std.proofs.lemmas.List.{get_or_past}
use Rattle.std.proofs.Math.Path.{ap}
use mathlib.Core.List.{List, [], ◌∷◌, ◌++◌}
use native.Mathlib.Omega.{arith}
use Rattle.std.proofs.Math.ListN.{length, take}
use Rattle.std.proofs.Math.Seq.{length-take-le}
use Rattle.lists.specs.Lists.{Row, all}
use Rattle.lists.specs.Bools.{cond-case}
use Rattle.lists.specs.Cut.{until_none, until-before}
use Rattle.endian.specs.Endian.{bytes_of}
use Rattle.endian.specs.Laws.{Below, length-bytes_of}
use Rattle.layout.specs.Address as Address
use Rattle.netlink.specs.Reader.{label, label_words, words4, u32}
use Rattle.netlink_event.proofs.Back.{bytes-back}
use Rattle.netlink_event.specs.Writer.{label_bytes}
use Rattle.netlink_event.proofs.Fit.{AddressFits, listed, lists}

-- ---- bytes as one number, the lowest first
abbrev value : List ℕ → ℕ
value [] = 0
value (b ∷ l) = b + 256 * value l

value-zero : (l : List ℕ) → value l ≡ 0 → (i : ℕ) → get_or l i 0 ≡ 0
value-zero [] h i = refl
value-zero (b ∷ l) h zero = omega arith
value-zero (b ∷ l) h (suc i) = value-zero l (omega arith) i

pow_8 : (n : ℕ) → 2 ^ (8 * suc n) ≡ 256 * 2 ^ (8 * n)
pow_8 n = ap (λ (k : ℕ). 2 ^ k) (mul-suc 8 n) ∙ pow-add 2 (8 * n) 8 ∙ mul_comm (2 ^ (8 * n)) 256

-- bytes below 256 to the n are n bytes and zeros
cut-zeros : (n : ℕ) (l : List ℕ) → value l < 2 ^ (8 * n) → (i : ℕ) → get_or (take n l) i 0 ≡ get_or l i 0
cut-zeros zero l h i = sym (value-zero l (omega arith) i)
cut-zeros (suc n) [] h i = refl
cut-zeros (suc n) (b ∷ l) h zero = refl
cut-zeros (suc n) (b ∷ l) h (suc i) = cut-zeros n l (omega (arith, pow_8 n)) i

value-word : (w : ℕ) (l : List ℕ) → w < 4294967296 → value (bytes_of (w ∷ l)) ≡ w + 4294967296 * value (bytes_of l)
unfolding bytes_of
value-word w l h = omega (arith, bytes-back w h)

-- ---- four words
u32-same : (k l : List ℕ) → ((i : ℕ) → get_or k i 0 ≡ get_or l i 0) → (i : ℕ) → u32 k i ≡ u32 l i
u32-same k l e i = λ j. e i j + 256 * e (i + 1) j + 65536 * (e (i + 2) j + 256 * e (i + 2 + 1) j)

words4-same : (k l : List ℕ) → ((i : ℕ) → get_or k i 0 ≡ get_or l i 0) → words4 k ≡ words4 l
words4-same k l e = λ j. u32-same k l e 0 j ∷ u32-same k l e 4 j ∷ u32-same k l e 8 j ∷ u32-same k l e 12 j ∷ []

module _ (a : Row) (f : AddressFits a) (b : Below 4294967296 a) where
  bytes : List ℕ
  bytes = bytes_of (listed 4 9 a)

  label-bytes : label_bytes a ≡ take (Address.label_length a) bytes
  unfolding bytes
  label-bytes = ap (λ (l : List ℕ). take (Address.label_length a) (bytes_of l)) (lists 4 9 a (omega (arith, f.long)))

  long-bytes : length bytes ≡ 16
  unfolding bytes
  long-bytes = length-bytes_of (listed 4 9 a)

  value-is : value bytes ≡ Address.label a
  unfolding bytes bytes_of
  value-is =
      omega (
        arith,
        value-word (get_or a 9 0) (listed 3 10 a) (b 9),
        value-word (get_or a 10 0) (listed 2 11 a) (b 10),
        value-word (get_or a 11 0) (listed 1 12 a) (b 11),
        value-word (get_or a 12 0) [] (b 12),
      )

  byte-is : (i : ℕ) → get_or (label_bytes a) i 0 ≡ get_or bytes i 0
  byte-is i =
      ap (λ (l : List ℕ). get_or l i 0) label-bytes
      ∙ cut-zeros (Address.label_length a) bytes (omega (arith, value-is, f.label)) i

  words-back : words4 (label_bytes a) ≡ listed 4 9 a
  unfolding bytes bytes_of
  words-back =
      words4-same (label_bytes a) bytes byte-is
      ∙ (λ j. bytes-back (get_or a 9 0) (b 9) j ∷ bytes-back (get_or a 10 0) (b 10) j ∷ bytes-back (get_or a 11 0) (b 11) j ∷ bytes-back (get_or a 12 0) (b 12) j ∷ [])

  pub length-label : length (label_bytes a) ≡ Address.label_length a
  unfolding bytes
  length-label =
      ap length label-bytes
      ∙ length-take-le (Address.label_length a) bytes (omega (arith, length-bytes_of (listed 4 9 a), f.short))

  -- the whole label's words are the row's
  pub label-back : label_words (label_bytes a) ≡ listed 5 8 a
  label-back = λ j. length-label j ∷ words-back j

  -- the byte behind the label is 0, so the closing zero stands in the row
  pub closed : take (Address.label_length a + 1) (bytes_of (take 4 (drop 9 a))) ≡ label_bytes a ++ (0 ∷ [])
  closed =
      let n : ℕ = Address.label_length a in
      let w : List ℕ = bytes_of (take 4 (drop 9 a)) in
      let same : w ≡ bytes = unfold bytes in ap bytes_of (lists 4 9 a (omega (arith, f.long))) in
      let long : length w ≡ 16 = ap length same ∙ long-bytes in
      let zero-there : get_or w n 0 ≡ 0 =
      ap (λ (l : List ℕ). get_or l n 0) same ∙ sym (byte-is n) ∙ get_or_past (label_bytes a) n 0 (omega (arith, length-label)) in
      rw (add-one, take-suc w n 0 (omega (arith, f.short)), zero-there)

-- ---- the label as the reader has it
short-until : (l : List ℕ) → length (label l) ≤ length l
short-until [] = omega arith
short-until (x ∷ l) =
    cond-case (λ (m : List ℕ). length m ≤ suc (length l)) (eqb 0 x) (λ e. omega arith) (λ e. omega (arith, short-until l))

pub closing-zero : (l : List ℕ) → label (l ++ (0 ∷ [])) ≡ label l
closing-zero l = (until-before (eqb 0) l (0 ∷ []) refl).0

-- a label without a zero byte isn't cut
pub uncut : (l : List ℕ) → all (λ b. not (eqb 0 b)) l ≡ true → label l ≡ l
uncut l h = (until_none (eqb 0) l h).0

pub bytes-short : (a : Row) → AddressFits a → length (label_bytes a) ≤ 15
bytes-short a f = omega (arith, length-take (Address.label_length a) (bytes_of (take 4 (drop 9 a))), f.short)

pub label-short : (a : Row) → AddressFits a → length (label (label_bytes a)) ≤ 15
label-short a f = omega (arith, short-until (label_bytes a), bytes-short a f)
