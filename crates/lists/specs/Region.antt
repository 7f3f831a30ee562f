-- A region of words, base words into a list: rows of k words in use, and zeros behind them.
-- Assumes nothing.
use Prim.Native.Nat.{ℕ, suc, ◌+◌, ◌-◌, ◌*◌, ◌≤◌, ◌<◌}
use Rattle.std.specs.Prelude.{◌≡◌, refl, true, set, take}
use Rattle.std.proofs.Math.Path.{sym, ap}
use Rattle.std.proofs.Common.{◌∙◌, mul-add, add-zero}
use mathlib.Core.List.{List, [], ◌∷◌, ◌++◌, append_assoc, append-nil}
use Rattle.std.proofs.Math.Nat.{mul-suc}
use native.Mathlib.Omega.{arith}
use Rattle.std.proofs.Math.ListN.{length, get_or, drop, length-append}
use Rattle.std.proofs.lemmas.List.{set_split}
use Rattle.lists.specs.Lists.{Row, flat, zeros, pad, span, put}
use Rattle.lists.specs.Rows.{sized, length-flat, length-zeros, zeros_append}
use Rattle.lists.specs.Put.{put-at, span-at}
use Rattle.lists.specs.At.{insert_at, remove_at, flat_append, flat_cons, sized-at, length-flat-take, length-flat-drop, flat-cut, flat-cut-at}

zeros-split : (n m : ℕ) → m ≤ n → zeros n ≡ zeros m ++ zeros (n - m)
zeros-split n m h = let e : m + (n - m) ≡ n = omega arith in ap zeros (sym e) ∙ sym (zeros_append m (n - m))

-- ---- by words: a and m in use, then zeros
module _ (p a q : List ℕ) (size base : ℕ) (e : length p ≡ base) where
  ahead_of : length (p ++ a) ≡ base + length a
  ahead_of = rw (length-append, e)

  -- n of the zeros taken to m
  regroup : (m : List ℕ) (n : ℕ) → length a + length m + n ≤ size
      → p ++ (pad size (a ++ m) ++ q) ≡ p ++ a ++ (m ++ zeros n ++ (zeros (size - (length a + length m + n)) ++ q))
  unfolding pad
  regroup m n h =
      let all : size - length (a ++ m) ≡ size - (length a + length m) = rw length-append in
      let some : size - (length a + length m) - n ≡ size - (length a + length m + n) = omega arith in
      rw (all, zeros-split (size - (length a + length m)) n (omega arith), some) (simp append_assoc)

  group : (m : List ℕ) → length a + length m ≤ size
      → p ++ (pad size (a ++ m) ++ q) ≡ p ++ a ++ (m ++ (zeros (size - (length a + length m)) ++ q))
  unfolding pad
  group m h = rw (length-append a m) (simp append_assoc)

  pub region_put : (m vs : List ℕ) → length a + length vs ≤ size → length m ≤ length vs
      → put (base + length a) vs (p ++ (pad size (a ++ m) ++ q)) ≡ p ++ (pad size (a ++ vs) ++ q)
  region_put m vs h k =
      let n = length vs - length m in
      let full : length (m ++ zeros n) ≡ length vs = rw (length-append, length-zeros) (omega arith) in
      let same : length a + length m + n ≡ length a + length vs = omega arith in
      ap (λ (l : List ℕ). put (base + length a) vs l) (regroup m n (omega arith))
      ∙ put-at (p ++ a) (m ++ zeros n) (zeros (size - (length a + length m + n)) ++ q) vs (base + length a) ahead_of full
      ∙ ap (λ (x : ℕ). p ++ a ++ (vs ++ (zeros (size - x) ++ q))) same
      ∙ sym (group vs h)

  -- zeros at the end of the run are not in use
  pub region_shrink : (m vs : List ℕ) (n : ℕ) → length a + length m ≤ size → length vs + n ≡ length m
      → put (base + length a) (vs ++ zeros n) (p ++ (pad size (a ++ m) ++ q)) ≡ p ++ (pad size (a ++ vs) ++ q)
  region_shrink m vs n h k =
      let full : length m ≡ length (vs ++ zeros n) = rw (length-append, length-zeros) (omega arith) in
      let same : length a + length vs + n ≡ length a + length m = omega arith in
      ap (λ (l : List ℕ). put (base + length a) (vs ++ zeros n) l) (group m h)
      ∙ put-at (p ++ a) m (zeros (size - (length a + length m)) ++ q) (vs ++ zeros n) (base + length a) ahead_of full
      ∙ ap (λ (x : ℕ). p ++ a ++ (vs ++ zeros n ++ (zeros (size - x) ++ q))) (sym same)
      ∙ sym (regroup vs n (omega arith))

  pub region_span : (v b : List ℕ) → length a + length v + length b ≤ size
      → span (base + length a) (length v) (p ++ (pad size (a ++ (v ++ b)) ++ q)) ≡ v
  region_span v b h =
      ap (λ (l : List ℕ). span (base + length a) (length v) l) (group (v ++ b) (rw length-append (omega arith)) ∙ ap (λ (x : List ℕ). p ++ a ++ x) (append_assoc v b (zeros (size - (length a + length (v ++ b))) ++ q)))
      ∙ span-at (p ++ a) v (b ++ (zeros (size - (length a + length (v ++ b))) ++ q)) (base + length a) (length v) ahead_of refl

-- ---- by rows
module _ (p q : List ℕ) (size base k : ℕ) (rows : List Row) (e : length p ≡ base) (s : sized k rows ≡ true) (h : k * length rows ≤ size) where
  abbrev whole : List ℕ
  whole = p ++ (pad size (flat rows) ++ q)

  cut-rows : (i : ℕ) → whole ≡ p ++ (pad size (flat (take i rows) ++ flat (drop i rows)) ++ q)
  cut-rows i = ap (λ (x : List ℕ). p ++ (pad size x ++ q)) (flat-cut k rows i s)

  -- row i
  pub row_at : (i : ℕ) → i < length rows → span (base + k * i) k whole ≡ get_or rows i []
  row_at i g =
      let a = flat (take i rows) in
      let v = get_or rows i [] in
      let b = flat (drop (suc i) rows) in
      let la : length a ≡ k * i = length-flat-take k rows i s (omega arith) in
      let lv : length v ≡ k = sized-at k rows i g s in
      let lw : length (flat rows) ≡ k * length rows = length-flat k rows s in
      let there : flat rows ≡ a ++ (v ++ b) = flat-cut-at k rows i s g in
      let long : length a + (length v + length b) ≡ length (flat rows) = sym (ap length there ∙ simp length-append) in
      ap (λ (x : List ℕ). span (base + k * i) k (p ++ (pad size x ++ q))) there
      ∙ ap (λ (n : ℕ). span (base + n) k (p ++ (pad size (a ++ (v ++ b)) ++ q))) (sym la)
      ∙ ap (λ (n : ℕ). span (base + length a) n (p ++ (pad size (a ++ (v ++ b)) ++ q))) (sym lv)
      ∙ region_span p a q size base e v b (omega arith)

  -- the rows from i on
  pub rows-from : (i m : ℕ) → i + m ≡ length rows → span (base + k * i) (k * m) whole ≡ flat (drop i rows)
  rows-from i m g =
      let a = flat (take i rows) in
      let v = flat (drop i rows) in
      let la : length a ≡ k * i = length-flat-take k rows i s (omega arith) in
      let left : length rows - i ≡ m = omega arith in
      let lv : length v ≡ k * m = length-flat-drop k rows i s ∙ ap (λ (n : ℕ). k * n) left in
      let lw : length (flat rows) ≡ k * length rows = length-flat k rows s in
      let long : length a + length v ≡ length (flat rows) = sym (ap length (flat-cut k rows i s) ∙ simp length-append) in
      ap (λ (x : List ℕ). span (base + k * i) (k * m) x) (cut-rows i)
      ∙ ap (λ (x : List ℕ). span (base + k * i) (k * m) (p ++ (pad size (a ++ x) ++ q))) (sym (append-nil v))
      ∙ ap (λ (n : ℕ). span (base + n) (k * m) (p ++ (pad size (a ++ (v ++ [])) ++ q))) (sym la)
      ∙ ap (λ (n : ℕ). span (base + length a) n (p ++ (pad size (a ++ (v ++ [])) ++ q))) (sym lv)
      ∙ region_span p a q size base e v [] (omega arith)

  -- a row put in before row i, behind which m rows are in use
  pub row_insert : (i m : ℕ) (r : Row) → i + m ≡ length rows → length r ≡ k → k * length rows + k ≤ size
      → put (base + k * i) (r ++ span (base + k * i) (k * m) whole) whole ≡ p ++ (pad size (flat (insert_at i r rows)) ++ q)
  unfolding insert_at
  row_insert i m r g lr room =
      let a = flat (take i rows) in
      let v = flat (drop i rows) in
      let la : length a ≡ k * i = length-flat-take k rows i s (omega arith) in
      let lw : length (flat rows) ≡ k * length rows = length-flat k rows s in
      let long : length a + length v ≡ length (flat rows) = sym (ap length (flat-cut k rows i s) ∙ simp length-append) in
      let lrv : length (r ++ v) ≡ length r + length v = length-append r v in
      ap (λ (x : List ℕ). put (base + k * i) (r ++ x) whole) (rows-from i m g)
      ∙ ap (λ (x : List ℕ). put (base + k * i) (r ++ v) x) (cut-rows i)
      ∙ ap (λ (n : ℕ). put (base + n) (r ++ v) (p ++ (pad size (a ++ v) ++ q))) (sym la)
      ∙ region_put p a q size base e v (r ++ v) (omega arith) (omega arith)
      ∙ ap (λ (x : List ℕ). p ++ (pad size x ++ q)) (sym (flat_append (take i rows) (r ∷ drop i rows) ∙ ap (λ (x : List ℕ). a ++ x) (flat_cons r (drop i rows))))

  -- row i taken out, behind which m rows more are in use
  pub row_remove : (i m : ℕ) → i + 1 + m ≡ length rows
      → put (base + k * i) (span (base + k * i + k) (k * m) whole ++ zeros k) whole ≡ p ++ (pad size (flat (remove_at i rows)) ++ q)
  unfolding remove_at
  row_remove i m g =
      let a = flat (take i rows) in
      let v = get_or rows i [] in
      let b = flat (drop (suc i) rows) in
      let la : length a ≡ k * i = length-flat-take k rows i s (omega arith) in
      let lv : length v ≡ k = sized-at k rows i (omega arith) s in
      let lw : length (flat rows) ≡ k * length rows = length-flat k rows s in
      let there : flat rows ≡ a ++ (v ++ b) = flat-cut-at k rows i s (omega arith) in
      let long : length a + (length v + length b) ≡ length (flat rows) = sym (ap length there ∙ simp length-append) in
      let lvb : length (v ++ b) ≡ length v + length b = length-append v b in
      let next : base + k * i + k ≡ base + k * suc i = rw mul-suc (omega arith) in
      ap (λ (n : ℕ). put (base + k * i) (span n (k * m) whole ++ zeros k) whole) next
      ∙ ap (λ (x : List ℕ). put (base + k * i) (x ++ zeros k) whole) (rows-from (suc i) m (omega arith))
      ∙ ap (λ (x : List ℕ). put (base + k * i) (b ++ zeros k) (p ++ (pad size x ++ q))) there
      ∙ ap (λ (n : ℕ). put (base + n) (b ++ zeros k) (p ++ (pad size (a ++ (v ++ b)) ++ q))) (sym la)
      ∙ region_shrink p a q size base e (v ++ b) b k (omega arith) (omega arith)
      ∙ ap (λ (x : List ℕ). p ++ (pad size x ++ q)) (sym (flat_append (take i rows) (drop (suc i) rows)))

  -- another row in place of row i
  pub row_replace : (i : ℕ) (r : Row) → i < length rows → length r ≡ k → put (base + k * i) r whole ≡ p ++ (pad size (flat (set rows i r)) ++ q)
  row_replace i r g lr =
      let a = flat (take i rows) in
      let v = get_or rows i [] in
      let b = flat (drop (suc i) rows) in
      let la : length a ≡ k * i = length-flat-take k rows i s (omega arith) in
      let lv : length v ≡ k = sized-at k rows i g s in
      let lw : length (flat rows) ≡ k * length rows = length-flat k rows s in
      let there : flat rows ≡ a ++ (v ++ b) = flat-cut-at k rows i s g in
      let long : length a + (length v + length b) ≡ length (flat rows) = sym (ap length there ∙ simp length-append) in
      let after : flat (set rows i r) ≡ a ++ (r ++ b) =
      ap flat (set_split rows i r g) ∙ flat_append (take i rows) (r ∷ drop (suc i) rows) ∙ ap (λ (x : List ℕ). a ++ x) (flat_cons r (drop (suc i) rows))
      in
      let lvb : length (v ++ b) ≡ length v + length b = length-append v b in
      let lab : length a + length (v ++ b) ≤ size = omega arith in
      ap (λ (x : List ℕ). put (base + k * i) r (p ++ (pad size x ++ q))) there
      ∙ ap (λ (n : ℕ). put (base + n) r (p ++ (pad size (a ++ (v ++ b)) ++ q))) (sym la)
      ∙ ap (λ (x : List ℕ). put (base + length a) r x) (group p a q size base e (v ++ b) lab ∙ ap (λ (x : List ℕ). p ++ a ++ x) (append_assoc v b (zeros (size - (length a + length (v ++ b))) ++ q)))
      ∙ put-at (p ++ a) v (b ++ (zeros (size - (length a + length (v ++ b))) ++ q)) r (base + length a) (rw (length-append, e)) (omega arith)
      ∙ ap (λ (n : ℕ). p ++ a ++ (r ++ (b ++ (zeros (size - (length a + n)) ++ q)))) (rw (length-append, length-append) (omega arith))
      ∙ ap (λ (x : List ℕ). p ++ a ++ x) (sym (append_assoc r b (zeros (size - (length a + length (r ++ b))) ++ q)))
      ∙ sym (group p a q size base e (r ++ b) (rw length-append (omega arith)))
      ∙ ap (λ (x : List ℕ). p ++ (pad size x ++ q)) (sym after)

  -- only some rows, and zeros for the n others
  pub row_retain : (kept : List Row) (n : ℕ) → sized k kept ≡ true → length kept + n ≡ length rows
      → put base (flat kept ++ zeros (k * n)) whole ≡ p ++ (pad size (flat kept) ++ q)
  row_retain kept n t g =
      let lk : length (flat kept) ≡ k * length kept = length-flat k kept t in
      let lw : length (flat rows) ≡ k * length rows = length-flat k rows s in
      let sum : k * length kept + k * n ≡ k * length rows = sym (mul-add k (length kept) n) ∙ ap (λ (x : ℕ). k * x) g in
      ap (λ (m : ℕ). put m (flat kept ++ zeros (k * n)) whole) (sym (add-zero base))
      ∙ region_shrink p [] q size base e (flat rows) (flat kept) (k * n) (omega arith) (omega arith)
