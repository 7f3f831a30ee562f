-- Laws of runs of words: put in, looked at, filled up with zeros.
-- Assumes nothing.
use Rattle.std.specs.Prelude.{ℕ, zero, suc, ◌+◌, ◌-◌, ◌≤◌, ◌<◌, ◌≡◌, set}
use Rattle.std.proofs.Math.Path.{refl, sym, ap}
use Rattle.std.proofs.Common.{◌∙◌, add-zero, add_assoc, add-one, drop_of_length-le, length-take-le, take_at, drop_at, drop-cons, take-suc, take-add, take-take}
use mathlib.Core.List.{List, [], ◌∷◌, ◌++◌, append_assoc, append-nil}
use native.Mathlib.Omega.{arith}
use Rattle.std.proofs.Math.ListN.{length, get_or, take, drop, length-append, length-drop, take-append-drop, get_or-append}
use Rattle.std.proofs.lemmas.List.{set_at, set_split}
use Rattle.std.proofs.Math.Seq.{drop-append-add, drop-drop, get_or-take, get_or-drop, get_or-append-add}
use Rattle.lists.specs.Lists.{zeros, span, put, flat}
use Rattle.lists.specs.Rows.{length-zeros, length-span}

-- ---- a list cut in three: what is before, the run, what is behind
pub put-at : (p m q vs : List ℕ) (at : ℕ) → length p ≡ at → length m ≡ length vs → put at vs (p ++ (m ++ q)) ≡ p ++ (vs ++ q)
unfolding put
put-at p m q vs at e f =
    let behind : drop (at + length vs) (p ++ (m ++ q)) ≡ q =
    ap (λ (l : List ℕ). drop (at + length vs) l) (sym (append_assoc p m q))
    ∙ drop_at (p ++ m) q (at + length vs) (rw length-append (omega arith))
    in
    rw (behind, take_at p (m ++ q) at e)

pub span-at : (p m q : List ℕ) (at n : ℕ) → length p ≡ at → length m ≡ n → span at n (p ++ (m ++ q)) ≡ m
unfolding span
span-at p m q at n e f = rw (drop_at p (m ++ q) at e, take_at m q n f)

-- any list is so cut
pub cut : (at n : ℕ) (l : List ℕ) → l ≡ take at l ++ (span at n l ++ drop (at + n) l)
unfolding span
cut at n l = sym (rw (← drop-drop n at l, take-append-drop n (drop at l), take-append-drop at l))

module _ (at : ℕ) (vs l : List ℕ) (h : at + length vs ≤ length l) where
  before-put : length (take at l) ≡ at
  before-put = length-take-le at l (omega arith)

  -- a run behind a run is one run, and so is a run ahead of one
  pub put-behind : (ws : List ℕ) → at + length vs + length ws ≤ length l → put (at + length vs) ws (put at vs l) ≡ put at (vs ++ ws) l
  unfolding put
  put-behind ws k =
      let d = drop (at + length vs) l in
      let p = take at l ++ vs in
      let there : put at vs l ≡ p ++ (take (length ws) d ++ drop (length ws) d) =
      rw take-append-drop (sym (append_assoc (take at l) vs d))
      in
      ap (λ (x : List ℕ). put (at + length vs) ws x) there
      ∙ put-at p (take (length ws) d) (drop (length ws) d) ws (at + length vs)
      (rw (length-append, before-put)) (length-take-le (length ws) d (rw length-drop (omega arith)))
      ∙ rw (drop-drop, append_assoc, append_assoc, length-append, add_assoc)

  pub put-ahead : (ws : List ℕ) → at + length vs + length ws ≤ length l → put at vs (put (at + length vs) ws l) ≡ put at (vs ++ ws) l
  unfolding put
  put-ahead ws k =
      let m = take (length vs) (drop at l) in
      let q = ws ++ drop (at + length vs + length ws) l in
      let there : put (at + length vs) ws l ≡ take at l ++ (m ++ q) =
      ap (λ (x : List ℕ). x ++ q) (take-add at (length vs) l) ∙ append_assoc (take at l) m q
      in
      ap (λ (x : List ℕ). put at vs x) there
      ∙ put-at (take at l) m q vs at before-put (length-take-le (length vs) (drop at l) (rw length-drop (omega arith)))
      ∙ rw (append_assoc, length-append, add_assoc)

  -- words outside the run stay
  pub get_d_put_before : (i d : ℕ) → i < at → get_or (put at vs l) i d ≡ get_or l i d
  unfolding put
  get_d_put_before i d k =
      get_or-append (take at l) (vs ++ drop (at + length vs) l) d i (rw before-put k) ∙ get_or-take at l i d k

  pub get_d_put_behind : (i d : ℕ) → at + length vs ≤ i → get_or (put at vs l) i d ≡ get_or l i d
  unfolding put
  get_d_put_behind i d k =
      let p = take at l ++ vs in
      let q = drop (at + length vs) l in
      let long : length p ≡ at + length vs = rw (length-append, before-put) in
      let there : length p + (i - (at + length vs)) ≡ i = omega arith in
      let back : at + length vs + (i - (at + length vs)) ≡ i = omega arith in
      ap (λ (x : List ℕ). get_or x i d) (sym (append_assoc (take at l) vs q))
      ∙ ap (λ (n : ℕ). get_or (p ++ q) n d) (sym there)
      ∙ get_or-append-add p q (i - (at + length vs)) d
      ∙ get_or-drop (at + length vs) l (i - (at + length vs)) d
      ∙ ap (λ (n : ℕ). get_or l n d) back

  pub drop-put-behind : (n : ℕ) → at + length vs ≤ n → drop n (put at vs l) ≡ drop n l
  unfolding put
  drop-put-behind n k =
      let p = take at l ++ vs in
      let q = drop (at + length vs) l in
      let long : length p ≡ at + length vs = rw (length-append, before-put) in
      let there : length p + (n - (at + length vs)) ≡ n = omega arith in
      let back : at + length vs + (n - (at + length vs)) ≡ n = omega arith in
      ap (λ (x : List ℕ). drop n x) (sym (append_assoc (take at l) vs q))
      ∙ ap (λ (m : ℕ). drop m (p ++ q)) (sym there)
      ∙ drop-append-add p q (n - (at + length vs))
      ∙ drop-drop (n - (at + length vs)) (at + length vs) l
      ∙ ap (λ (m : ℕ). drop m l) back

  pub span-put-behind : (b n : ℕ) → at + length vs ≤ b → span b n (put at vs l) ≡ span b n l
  unfolding span
  span-put-behind b n k = ap (take n) (drop-put-behind b k)

-- ---- runs that grow by a word
pub put-none : (at : ℕ) (l : List ℕ) → l ≡ put at [] l
unfolding put
put-none at l = sym (rw (add-zero at, take-append-drop at l))

-- no rows
pub put-no-rows : (l : List ℕ) → l ≡ put 0 (flat []) l
unfolding flat
put-no-rows l = put-none 0 l

pub put-more : (at : ℕ) (vs : List ℕ) (v : ℕ) (l : List ℕ) → at + length vs < length l → set (put at vs l) (at + length vs) v ≡ put at (vs ++ (v ∷ [])) l
unfolding put
put-more at vs v l h =
    let k : at + length vs ≤ length l = omega arith in
    let p = take at l ++ vs in
    let y = get_or l (at + length vs) 0 in
    let ys = drop (suc (at + length vs)) l in
    let there : put at vs l ≡ p ++ (y ∷ ys) =
    ap (λ (d : List ℕ). take at l ++ (vs ++ d)) (drop-cons l (at + length vs) 0 h) ∙ sym (append_assoc (take at l) vs (y ∷ ys))
    in
    let one : at + length (vs ++ (v ∷ [])) ≡ suc (at + length vs) = rw length-append (omega arith) in
    ap (λ (x : List ℕ). set x (at + length vs) v) there
    ∙ set_at p y ys v (at + length vs) (rw (length-append, before-put at vs l k))
    ∙ append_assoc (take at l) vs (v ∷ ys)
    ∙ sym (rw (one, append_assoc vs (v ∷ []) ys))

pub put-less : (at : ℕ) (vs : List ℕ) (v : ℕ) (l : List ℕ) → at + suc (length vs) ≤ length l → set (put (suc at) vs l) at v ≡ put at (v ∷ vs) l
unfolding put
put-less at vs v l h =
    let first : at < length l = omega arith in
    let y = get_or l at 0 in
    let q = vs ++ drop (suc at + length vs) l in
    let there : put (suc at) vs l ≡ take at l ++ (y ∷ q) =
    ap (λ (x : List ℕ). x ++ q) (take-suc l at 0 first) ∙ append_assoc (take at l) (y ∷ []) q
    in
    let one : at + suc (length vs) ≡ suc at + length vs = omega arith in
    ap (λ (x : List ℕ). set x at v) there
    ∙ set_at (take at l) y q v at (length-take-le at l (omega arith))
    ∙ sym (rw one)

-- a word is a run of one
pub put_one : (at v : ℕ) (l : List ℕ) → at < length l → set l at v ≡ put at (v ∷ []) l
unfolding put
put_one at v l h = set_split l at v h ∙ ap (λ (n : ℕ). take at l ++ (v ∷ drop n l)) (sym (add-one at))

-- ---- a run laid word by word, from its front and from its end
module _ (at : ℕ) (vs l : List ℕ) (i : ℕ) (h : at + length vs ≤ length l) (k : i < length vs) where
  pub put-take : set (put at (take i vs) l) (at + i) (get_or vs i 0) ≡ put at (take (i + 1) vs) l
  put-take =
      let long : length (take i vs) ≡ i = length-take-le i vs (omega arith) in
      let room : at + length (take i vs) < length l = omega arith in
      ap (λ (n : ℕ). set (put at (take i vs) l) (at + n) (get_or vs i 0)) (sym long)
      ∙ put-more at (take i vs) (get_or vs i 0) l room
      ∙ ap (λ (x : List ℕ). put at x l) (sym (rw (add-one, take-suc vs i 0)))

  pub put-drop : set (put (at + (i + 1)) (drop (i + 1) vs) l) (at + i) (get_or vs i 0) ≡ put (at + i) (drop i vs) l
  put-drop =
      let one : at + (i + 1) ≡ suc (at + i) = omega arith in
      let room : at + i + suc (length (drop (suc i) vs)) ≤ length l = rw length-drop (omega arith) in
      rw (one, add-one)
      (put-less (at + i) (drop (suc i) vs) (get_or vs i 0) l room
      ∙ ap (λ (x : List ℕ). put (at + i) x l) (sym (drop-cons vs i 0 k)))

pub get_d_span : (at n : ℕ) (l : List ℕ) (i d : ℕ) → i < n → get_or (span at n l) i d ≡ get_or l (at + i) d
unfolding span
get_d_span at n l i d h = get_or-take n (drop at l) i d h ∙ get_or-drop at l i d

pub get_d_zeros : (n i : ℕ) → get_or (zeros n) i 0 ≡ 0
unfolding zeros
get_d_zeros zero i = refl
get_d_zeros (suc n) zero = refl
get_d_zeros (suc n) (suc i) = get_d_zeros n i

-- one word more of n words copied down or up: the words that are read still stand
module _ (from to n : ℕ) (l : List ℕ) (i : ℕ) (h : from + n ≤ length l) (t : to + n ≤ length l) (k : i < n) where
  pub put-down : to ≤ from
      → set (put to (take i (span from n l)) l) (to + i) (get_or (put to (take i (span from n l)) l) (from + i) 0) ≡ put to (take (i + 1) (span from n l)) l
  put-down below =
      let long : length (span from n l) ≡ n = length-span from n l h in
      let part : length (take i (span from n l)) ≡ i = length-take-le i (span from n l) (omega arith) in
      let read : get_or (put to (take i (span from n l)) l) (from + i) 0 ≡ get_or (span from n l) i 0 =
      get_d_put_behind to (take i (span from n l)) l (omega arith) (from + i) 0 (omega arith) ∙ sym (get_d_span from n l i 0 k)
      in
      rw read (put-take to (span from n l) l i (omega arith) (omega arith))

  pub put_up : from ≤ to
      → set (put (to + (i + 1)) (drop (i + 1) (span from n l)) l) (to + i) (get_or (put (to + (i + 1)) (drop (i + 1) (span from n l)) l) (from + i) 0)
      ≡ put (to + i) (drop i (span from n l)) l
  put_up above =
      let long : length (span from n l) ≡ n = length-span from n l h in
      let rest : length (drop (i + 1) (span from n l)) ≡ n - (i + 1) = rw (length-drop, long) in
      let read : get_or (put (to + (i + 1)) (drop (i + 1) (span from n l)) l) (from + i) 0 ≡ get_or (span from n l) i 0 =
      get_d_put_before (to + (i + 1)) (drop (i + 1) (span from n l)) l (omega arith) (from + i) 0 (omega arith) ∙ sym (get_d_span from n l i 0 k)
      in
      rw read (put-drop to (span from n l) l i (omega arith) (omega arith))

-- ---- words put in where n words behind the place are in use, and k words taken out
pub put_in : (at n : ℕ) (vs l : List ℕ) → at + length vs + n ≤ length l → put at vs (put (at + length vs) (span at n l) l) ≡ put at (vs ++ span at n l) l
put_in at n vs l h =
    let long = length-span at n l (omega arith) in
    put-ahead at vs l (omega arith) (span at n l) (omega arith)

pub put_out : (at k n : ℕ) (l : List ℕ) → at + k + n ≤ length l → put (at + n) (zeros k) (put at (span (at + k) n l) l) ≡ put at (span (at + k) n l ++ zeros k) l
put_out at k n l h =
    let long = length-span (at + k) n l (omega arith) in
    let none = length-zeros k in
    ap (λ (m : ℕ). put (at + m) (zeros k) (put at (span (at + k) n l) l)) (sym long)
    ∙ put-behind at (span (at + k) n l) l (omega arith) (zeros k) (omega arith)

-- a run put in a part of k words from a on is a run put in the whole
pub put-part : (a k at : ℕ) (vs l : List ℕ) → a + k ≤ length l → at + length vs ≤ k
    → take a l ++ (put at vs (take k (drop a l)) ++ drop k (drop a l)) ≡ put (a + at) vs l
put-part a k at vs l h g =
    let m = take k (drop a l) in
    let q = drop k (drop a l) in
    let p = take a l ++ take at m in
    let lm : length m ≡ k = length-take-le k (drop a l) (rw length-drop (omega arith)) in
    let lp : length p ≡ a + at = rw (length-append, length-take-le a l (omega arith), length-take-le at m (omega arith)) in
    let there : l ≡ p ++ (span at (length vs) m ++ (drop (at + length vs) m ++ q)) =
    sym (take-append-drop a l)
    ∙ ap (λ (x : List ℕ). take a l ++ x) (sym (take-append-drop k (drop a l)) ∙ ap (λ (x : List ℕ). x ++ q) (cut at (length vs) m))
    ∙ simp append_assoc
    in
    let part : put at vs m ≡ take at m ++ (vs ++ drop (at + length vs) m) = unfold put in refl in
    let regrouped : take a l ++ (take at m ++ (vs ++ drop (at + length vs) m) ++ q) ≡ p ++ (vs ++ (drop (at + length vs) m ++ q)) = simp append_assoc in
    ap (λ (x : List ℕ). take a l ++ (x ++ q)) part
    ∙ regrouped
    ∙ sym (put-at p (span at (length vs) m) (drop (at + length vs) m ++ q) vs (a + at) lp (length-span at (length vs) m (omega arith)))
    ∙ ap (put (a + at) vs) (sym there)

-- as many words in place of all
pub put_whole : (vs l : List ℕ) → length vs ≡ length l → put 0 vs l ≡ vs
unfolding put
put_whole vs l e = rw (drop_of_length-le l {i = 0 + length vs} (omega arith)) (append-nil vs)

-- a run of the first k words
span-front : (k from n : ℕ) (l : List ℕ) → from + n ≤ k → span from n (take k l) ≡ span from n l
unfolding span
span-front k zero n l h = take-take n k l (omega arith)
span-front zero (suc from) n l h = absurd (omega arith)
span-front (suc k) (suc from) n [] h = refl
span-front (suc k) (suc from) n (x ∷ l) h = span-front k from n l (omega arith)

-- a run of a part is a run of the whole
pub span-part : (a k from n : ℕ) (l : List ℕ) → from + n ≤ k → span from n (take k (drop a l)) ≡ span (a + from) n l
unfolding span
span-part a k from n l h = span-front k from n (drop a l) h ∙ ap (take n) (drop-drop from a l)
