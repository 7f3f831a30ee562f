-- Laws of words as bytes: lengths, each way back, and how both go with lists joined, cut and changed at multiples of four.
-- Assumes nothing.
use Rattle.std.specs.Prelude.{ℕ, zero, suc, ◌+◌, ◌*◌, ◌/◌, ◌%◌, ◌≤◌, ◌<◌, ◌≡◌, refl, List, [], ◌∷◌, ◌++◌, length, get_or, set, take, drop}
use Rattle.std.proofs.Common.{◌∙◌, append_assoc, mod-eq_of_lt, mul-suc, zero-add, add-zero, add-one, arith, length-append, take-suc, length-take-le}
use Rattle.std.proofs.Math.Nat.{div-div-eq-div-mul}
use Rattle.std.proofs.Math.Numerals.{add-four}
use Rattle.std.proofs.Math.Seq.{take-nil, drop-nil, get_or-take, get_or-drop}
use Rattle.std.proofs.Math.Path.{ap}
use Rattle.std.specs.Simd.{first_chunks}
use Rattle.std.specs.Int.{w32, from_le_bytes}
use Rattle.lists.specs.Lists.{put}
use Rattle.lists.specs.Put.{put-none, put-more, put-take, put_whole}
use Rattle.endian.specs.Endian.{word, words_of, bytes_of}

-- every number of the list is below n
abbrev pub Below : ℕ → List ℕ → Type 0
Below n l = (i : ℕ) → get_or l i 0 < n

-- ---- lengths
pub length-words_of : (b : List ℕ) → length (words_of b) ≡ length b / 4
unfolding words_of
length-words_of [] = refl
length-words_of (a ∷ []) = refl
length-words_of (a ∷ b ∷ []) = refl
length-words_of (a ∷ b ∷ c ∷ []) = refl
length-words_of (a ∷ b ∷ c ∷ d ∷ l) = omega (arith, length-words_of l)

pub length-bytes_of : (w : List ℕ) → length (bytes_of w) ≡ 4 * length w
unfolding bytes_of
length-bytes_of [] = refl
length-bytes_of (x ∷ w) = omega (arith, length-bytes_of w)

-- ---- a word and its bytes
word_bytes : (w : ℕ) → w < 4294967296 → word (w % 256) (w / 256 % 256) (w / 65536 % 256) (w / 16777216 % 256) ≡ w
word_bytes w h =
    let e : w / 256 / 256 ≡ w / 65536 = div-div-eq-div-mul w 256 256 in
    let f : w / 65536 / 256 ≡ w / 16777216 = div-div-eq-div-mul w 65536 256 in
    let top : w / 16777216 < 256 = omega arith in
    let g : w / 16777216 % 256 ≡ w / 16777216 = mod-eq_of_lt top in
    omega arith

module _ (a b c d : ℕ) (ha : a < 256) (hb : b < 256) (hc : c < 256) (hd : d < 256) where
  pub word_below : word a b c d < 4294967296
  word_below = omega arith

  byte0 : word a b c d % 256 ≡ a
  byte0 = omega arith

  byte1 : word a b c d / 256 % 256 ≡ b
  byte1 = omega arith

  byte2 : word a b c d / 65536 % 256 ≡ c
  byte2 = omega arith

  byte3 : word a b c d / 16777216 % 256 ≡ d
  byte3 = omega arith

-- ---- each way back
pub words-bytes : (w : List ℕ) → Below 4294967296 w → words_of (bytes_of w) ≡ w
unfolding words_of bytes_of
words-bytes [] h = refl
words-bytes (x ∷ w) h = rw (word_bytes x (h 0), words-bytes w (λ i. h (suc i)))

four-more : (n k : ℕ) → suc (suc (suc (suc n))) ≡ 4 * suc k → n ≡ 4 * k
four-more n k e = omega (arith, mul-suc 4 k)

pub bytes-words : (n : ℕ) (b : List ℕ) → length b ≡ 4 * n → Below 256 b → bytes_of (words_of b) ≡ b
unfolding words_of bytes_of
bytes-words n [] e h = refl
bytes-words n (a ∷ []) e h = absurd (omega arith)
bytes-words n (a ∷ b ∷ []) e h = absurd (omega arith)
bytes-words n (a ∷ b ∷ c ∷ []) e h = absurd (omega arith)
bytes-words zero (a ∷ b ∷ c ∷ d ∷ l) e h = absurd (omega arith)
bytes-words (suc n) (a ∷ b ∷ c ∷ d ∷ l) e h =
    rw (
      byte0 a b c d (h 0) (h 1) (h 2) (h 3),
      byte1 a b c d (h 0) (h 1) (h 2) (h 3),
      byte2 a b c d (h 0) (h 1) (h 2) (h 3),
      byte3 a b c d (h 0) (h 1) (h 2) (h 3),
      bytes-words n l (four-more (length l) n e) (λ i. h (suc (suc (suc (suc i))))),
    )

-- bytes are below 256, and words of such are below 2^32
pub bytes_below : (w : List ℕ) → Below 256 (bytes_of w)
unfolding bytes_of
bytes_below [] i = omega arith
bytes_below (x ∷ w) zero = omega arith
bytes_below (x ∷ w) (suc zero) = omega arith
bytes_below (x ∷ w) (suc (suc zero)) = omega arith
bytes_below (x ∷ w) (suc (suc (suc zero))) = omega arith
bytes_below (x ∷ w) (suc (suc (suc (suc i)))) = bytes_below w i

pub words-below : (b : List ℕ) → Below 256 b → Below 4294967296 (words_of b)
unfolding words_of
words-below [] h i = omega arith
words-below (a ∷ []) h i = omega arith
words-below (a ∷ b ∷ []) h i = omega arith
words-below (a ∷ b ∷ c ∷ []) h i = omega arith
words-below (a ∷ b ∷ c ∷ d ∷ l) h zero = word_below a b c d (h 0) (h 1) (h 2) (h 3)
words-below (a ∷ b ∷ c ∷ d ∷ l) h (suc i) = words-below l (λ j. h (suc (suc (suc (suc j))))) i

-- ---- joined
pub bytes_of_append : (v w : List ℕ) → bytes_of (v ++ w) ≡ bytes_of v ++ bytes_of w
unfolding bytes_of
bytes_of_append [] w = refl
bytes_of_append (x ∷ v) w = rw (bytes_of_append v w)

pub words_of_append : (n : ℕ) (a b : List ℕ) → length a ≡ 4 * n → words_of (a ++ b) ≡ words_of a ++ words_of b
unfolding words_of
words_of_append n [] m e = refl
words_of_append n (a ∷ []) m e = absurd (omega arith)
words_of_append n (a ∷ b ∷ []) m e = absurd (omega arith)
words_of_append n (a ∷ b ∷ c ∷ []) m e = absurd (omega arith)
words_of_append zero (a ∷ b ∷ c ∷ d ∷ l) m e = absurd (omega arith)
words_of_append (suc n) (a ∷ b ∷ c ∷ d ∷ l) m e = rw (words_of_append n l m (four-more (length l) n e))

-- ---- cut
pub bytes_of-take : (n : ℕ) (w : List ℕ) → bytes_of (take n w) ≡ take (4 * n) (bytes_of w)
unfolding bytes_of
bytes_of-take n [] = rw (take-nil {A = ℕ} n, take-nil {A = ℕ} (4 * n))
bytes_of-take zero (x ∷ w) = refl
bytes_of-take (suc n) (x ∷ w) = rw (mul-suc 4 n, add-four, bytes_of-take n w)

pub bytes_of-drop : (n : ℕ) (w : List ℕ) → bytes_of (drop n w) ≡ drop (4 * n) (bytes_of w)
unfolding bytes_of
bytes_of-drop n [] = rw (drop-nil {A = ℕ} n, drop-nil {A = ℕ} (4 * n))
bytes_of-drop zero (x ∷ w) = refl
bytes_of-drop (suc n) (x ∷ w) = rw (mul-suc 4 n, add-four, bytes_of-drop n w)

pub words_of-take : (n : ℕ) (b : List ℕ) → words_of (take (4 * n) b) ≡ take n (words_of b)
unfolding words_of
words_of-take zero b = refl
words_of-take (suc n) [] = rw (mul-suc 4 n, add-four)
words_of-take (suc n) (a ∷ []) = rw (mul-suc 4 n, add-four)
words_of-take (suc n) (a ∷ b ∷ []) = rw (mul-suc 4 n, add-four)
words_of-take (suc n) (a ∷ b ∷ c ∷ []) = rw (mul-suc 4 n, add-four)
words_of-take (suc n) (a ∷ b ∷ c ∷ d ∷ l) = rw (mul-suc 4 n, add-four, words_of-take n l)

pub words_of-drop : (n : ℕ) (b : List ℕ) → words_of (drop (4 * n) b) ≡ drop n (words_of b)
unfolding words_of
words_of-drop zero b = refl
words_of-drop (suc n) [] = rw (mul-suc 4 n, add-four)
words_of-drop (suc n) (a ∷ []) = rw (mul-suc 4 n, add-four)
words_of-drop (suc n) (a ∷ b ∷ []) = rw (mul-suc 4 n, add-four)
words_of-drop (suc n) (a ∷ b ∷ c ∷ []) = rw (mul-suc 4 n, add-four)
words_of-drop (suc n) (a ∷ b ∷ c ∷ d ∷ l) = rw (mul-suc 4 n, add-four, words_of-drop n l)

-- ---- changed
pub bytes_of-put : (at : ℕ) (vs w : List ℕ) → bytes_of (put at vs w) ≡ put (4 * at) (bytes_of vs) (bytes_of w)
unfolding put
bytes_of-put at vs w =
    let far : 4 * (at + length vs) ≡ 4 * at + length (bytes_of vs) = omega (arith, length-bytes_of vs) in
    bytes_of_append (take at w) (vs ++ drop (at + length vs) w)
    ∙ rw (bytes_of_append vs (drop (at + length vs) w), bytes_of-take at w, bytes_of-drop (at + length vs) w, far)

pub words_of-put : (at n : ℕ) (bs l : List ℕ) → length bs ≡ 4 * n → 4 * at ≤ length l → words_of (put (4 * at) bs l) ≡ put at (words_of bs) (words_of l)
unfolding put
words_of-put at n bs l e h =
    let many : length (words_of bs) ≡ n = omega (arith, length-words_of bs) in
    let far : 4 * at + length bs ≡ 4 * (at + length (words_of bs)) = omega arith in
    words_of_append at (take (4 * at) l) (bs ++ drop (4 * at + length bs) l) (length-take-le (4 * at) l h)
    ∙ rw (words_of_append n bs (drop (4 * at + length bs) l) e, far, words_of-take at l, words_of-drop (at + length (words_of bs)) l)

-- ---- one word more
-- the library's words of four bytes are those words, and its bytes are those bytes
pub quad-word : (q : List ℕ) → from_le_bytes w32 q ≡ word (get_or q 0 0) (get_or q 1 0) (get_or q 2 0) (get_or q 3 0)
quad-word q = refl

-- the word at a place
pub get_d_words_of : (b : List ℕ) (i : ℕ) → i < length b / 4
    → get_or (words_of b) i 0 ≡ word (get_or b (4 * i) 0) (get_or b (4 * i + 1) 0) (get_or b (4 * i + 2) 0) (get_or b (4 * i + 3) 0)
unfolding words_of
get_d_words_of [] i h = absurd (omega arith)
get_d_words_of (a ∷ []) i h = absurd (omega arith)
get_d_words_of (a ∷ b ∷ []) i h = absurd (omega arith)
get_d_words_of (a ∷ b ∷ c ∷ []) i h = absurd (omega arith)
get_d_words_of (a ∷ b ∷ c ∷ d ∷ l) zero h = refl
get_d_words_of (a ∷ b ∷ c ∷ d ∷ l) (suc i) h =
    let p : 4 * suc i ≡ suc (suc (suc (suc (4 * i)))) = omega arith in
    let p1 : 4 * suc i + 1 ≡ suc (suc (suc (suc (4 * i + 1)))) = omega arith in
    let p2 : 4 * suc i + 2 ≡ suc (suc (suc (suc (4 * i + 2)))) = omega arith in
    let p3 : 4 * suc i + 3 ≡ suc (suc (suc (suc (4 * i + 3)))) = omega arith in
    rw (p1, p2, p3, p) (get_d_words_of l i (omega arith))

-- a byte of the four that are the word at a place
quad_at : (n : ℕ) (b : List ℕ) (i j : ℕ) → i < n → j < 4 → get_or (get_or (first_chunks 4 n b) i []) j 0 ≡ get_or b (4 * i + j) 0
quad_at zero b i j h k = absurd (omega arith)
quad_at (suc n) b zero j h k = get_or-take 4 b j 0 k ∙ ap (λ m. get_or b m 0) (omega arith)
quad_at (suc n) b (suc i) j h k =
    quad_at n (drop 4 b) i j (omega arith) k ∙ get_or-drop 4 b (4 * i + j) 0 ∙ ap (λ m. get_or b m 0) (omega arith)

pub word-of-quad : (n : ℕ) (b : List ℕ) (i : ℕ) → i < n
    → from_le_bytes w32 (get_or (first_chunks 4 n b) i []) ≡ word (get_or b (4 * i) 0) (get_or b (4 * i + 1) 0) (get_or b (4 * i + 2) 0) (get_or b (4 * i + 3) 0)
word-of-quad n b i h =
    quad-word (get_or (first_chunks 4 n b) i [])
    ∙ rw (quad_at n b i 0 h (omega arith), quad_at n b i 1 h (omega arith), quad_at n b i 2 h (omega arith), quad_at n b i 3 h (omega arith), add-zero)

module _ (b l : List ℕ) (h : length b ≤ 4 * length l) where
  words-room : length (words_of b) ≤ length l
  words-room = omega (arith, length-words_of b)

  -- an iteration of the loop that reads words
  pub word_more : (i : ℕ) → i < length b / 4 → (v : ℕ)
      → v ≡ from_le_bytes w32 (get_or (first_chunks 4 (length b / 4) b) i [])
      → set (put 0 (take i (words_of b)) l) i v ≡ put 0 (take (i + 1) (words_of b)) l
  word_more i k v e =
      let far : i < length (words_of b) = omega (arith, length-words_of b) in
      let room : 0 + length (words_of b) ≤ length l = omega (arith, words-room) in
      rw (e, word-of-quad (length b / 4) b i k, ← get_d_words_of b i k)
      (rw (zero-add i) at (put-take 0 (words_of b) l i room far))

-- words as many as there is room for are all of it
pub words-whole : (n : ℕ) (b l m : List ℕ) → length b ≡ 4 * n → length l ≡ n → m ≡ put 0 (words_of b) l → m ≡ words_of b
words-whole n b l m h k e = e ∙ put_whole (words_of b) l (omega (arith, length-words_of b))

-- no word gives no byte
pub bytes-none : (l : List ℕ) → l ≡ put 0 (bytes_of []) l
unfolding bytes_of
bytes-none l = put-none 0 l

-- an iteration of the loop that writes bytes
bytes-more : (i : ℕ) (w l : List ℕ) → i < length w → bytes_of (take (i + 1) w)
    ≡ bytes_of (take i w) ++ (get_or w i 0 % 256 ∷ get_or w i 0 / 256 % 256 ∷ get_or w i 0 / 65536 % 256 ∷ get_or w i 0 / 16777216 % 256 ∷ [])
unfolding bytes_of
bytes-more i w l h = rw (add-one, take-suc w i 0, bytes_of_append (take i w) (get_or w i 0 ∷ []))

-- four bytes behind a run
four : (at n : ℕ) (vs l : List ℕ) (a b c d : ℕ) → length vs ≡ n → n + 4 ≤ length l
    → set (set (set (set (put 0 vs l) n a) (n + 1) b) (n + 2) c) (n + 3) d ≡ put 0 (vs ++ (a ∷ b ∷ c ∷ d ∷ [])) l
four at n vs l a b c d e h =
    let one : set (put 0 vs l) n a ≡ put 0 (vs ++ (a ∷ [])) l = more n vs l a e (omega arith) in
    let two : set (put 0 (vs ++ (a ∷ [])) l) (n + 1) b ≡ put 0 (vs ++ (a ∷ []) ++ (b ∷ [])) l =
    more (n + 1) (vs ++ (a ∷ [])) l b (rw length-append (omega arith)) (omega arith)
    in
    let three : set (put 0 (vs ++ (a ∷ []) ++ (b ∷ [])) l) (n + 2) c ≡ put 0 (vs ++ (a ∷ []) ++ (b ∷ []) ++ (c ∷ [])) l =
    more (n + 2) (vs ++ (a ∷ []) ++ (b ∷ [])) l c (rw (length-append, length-append vs (a ∷ [])) (omega arith)) (omega arith)
    in
    rw (one, two, three)
    (more (n + 3) (vs ++ (a ∷ []) ++ (b ∷ []) ++ (c ∷ [])) l d (simp length-append (omega arith)) (omega arith) ∙ simp append_assoc)
  where
    more : (m : ℕ) (us k : List ℕ) (v : ℕ) → length us ≡ m → m < length k → set (put 0 us k) m v ≡ put 0 (us ++ (v ∷ [])) k
    more m us k v f g = let at : 0 + length us ≡ m = omega arith in rw at at (put-more 0 us v k (omega arith))

pub four-more-bytes : (i : ℕ) (w l : List ℕ) → i < length w → 4 * length w ≤ length l
    → set (set (set (set (put 0 (bytes_of (take i w)) l) (4 * i) (get_or w i 0 % 256)) (4 * i + 1) (get_or w i 0 / 256 % 256)) (4 * i + 2) (get_or w i 0 / 65536 % 256)) (4 * i + 3) (get_or w i 0 / 16777216 % 256)
    ≡ put 0 (bytes_of (take (i + 1) w)) l
four-more-bytes i w l h k =
    let long : length (bytes_of (take i w)) ≡ 4 * i = omega (arith, length-bytes_of (take i w), length-take-le i w (omega arith)) in
    let n = get_or w i 0 in
    rw (bytes-more i w l h) (four 0 (4 * i) (bytes_of (take i w)) l (n % 256) (n / 256 % 256) (n / 65536 % 256) (n / 16777216 % 256) long (omega arith))
