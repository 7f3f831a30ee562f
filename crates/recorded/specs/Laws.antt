-- Laws of a record's parts.
-- Assumes nothing.
use Rattle.std.specs.Prelude.{ℕ, zero, suc, ◌+◌, ◌*◌, ◌/◌, ◌%◌, ◌≤◌, ◌<◌, ◌≡◌, refl, Bool, true, ◌&&◌, List, [], ◌∷◌, ◌++◌, eqb, leb, length, get_or, set, take, drop}
use Rattle.std.proofs.Common.{ap, ◌∙◌, arith, add-one, drop_of_length-le, drop-cons, length-take-le, leb-true, le-leb}
use Rattle.std.specs.List.{fold}
use Rattle.std.specs.Simd.{first_chunks}
use Rattle.lists.specs.Lists.{Row, flat, put, eq_row}
use Rattle.lists.specs.Bools.{and_left, and_right}
use Rattle.definition.specs.Step.{Result, event_room}
use Rattle.call_reply.specs.declared.Reply.{Reply}
use Rattle.call_reply.specs.Answer.{reply_of}
use Rattle.call_dispatch.specs.Numbered.{is_call, call_by, Did}
use Rattle.recorded.specs.Record.{held_size, check_from, fit, Bounds, set_all, before_of, lent_of, changes_of, rows_of, result_of, held_by, buffer_by, part, check_of, same_reply, agrees}

-- one word more, as the code reckons it
abbrev pub checked : ℕ → ℕ → ℕ
checked sum w = (sum * 16777619 % 4294967296 + w) % 4294967296

more : (sum w : ℕ) → checked sum w ≡ (sum * 16777619 + w) % 4294967296
more sum w = omega arith

pub fold-check : (l : List ℕ) (sum : ℕ) → fold checked sum l ≡ check_from sum l
unfolding check_from
fold-check [] sum = refl
fold-check (w ∷ l) sum = rw (more sum w) (fold-check l ((sum * 16777619 + w) % 4294967296))

-- the word of a pair put in its place
abbrev pub set_pair : List ℕ → List ℕ → List ℕ
set_pair w p = set w (get_or p 0 0) (get_or p 1 0)

pub fold-pairs : (n : ℕ) (l w : List ℕ) → n ≡ length l / 2 → fold set_pair w (first_chunks 2 n l) ≡ set_all l w
unfolding set_all
fold-pairs zero [] w h = refl
fold-pairs zero (p ∷ []) w h = refl
fold-pairs zero (p ∷ v ∷ l) w h = absurd (omega (arith, h))
fold-pairs (suc n) [] w h = absurd (omega (arith, h))
fold-pairs (suc n) (p ∷ []) w h = absurd (omega (arith, h))
fold-pairs (suc n) (p ∷ v ∷ l) w h = fold-pairs n l (set w p v) (omega (arith, h))

-- the pairs from the k-th on
pub next-pair : (l : List (List ℕ)) (w : List ℕ) (k : ℕ) → k < length l → fold set_pair w (drop k l) ≡ fold set_pair (set_pair w (get_or l k [])) (drop (k + 1) l)
next-pair l w k h = rw (add-one, drop-cons l k [])

pub no-pairs : (l : List (List ℕ)) (w : List ℕ) (k : ℕ) → length l ≤ k → w ≡ fold set_pair w (drop k l)
no-pairs l w k h = rw (drop_of_length-le l {i = k} h)

-- tests that all hold, one by one
abbrev ands : Bool → List Bool → Bool
ands a [] = a
ands a (b ∷ l) = ands (a && b) l

ands-first : (a : Bool) (l : List Bool) → ands a l ≡ true → a ≡ true
ands-first a [] h = h
ands-first a (b ∷ l) h = and_left a b (ands-first (a && b) l h)

ands-at : (a : Bool) (l : List Bool) → ands a l ≡ true → (k : ℕ) → get_or l k true ≡ true
ands-at a [] h k = refl
ands-at a (b ∷ l) h zero = and_right a b (ands-first (a && b) l h)
ands-at a (b ∷ l) h (suc k) = ands-at (a && b) l h k

pub fits : (r : Row) → fit r ≡ true → Bounds r
unfolding fit
fits r h =
    let first = leb 17 (length r) in
    let l =
    leb (length r) 4096 ∷ eqb (get_or r 0 0) (check_of (part 1 (length r) r)) ∷ eqb (get_or r 1 0) (length r) ∷ is_call (get_or r 2 0) ∷ leb (get_or r 3 0) 1 ∷ leb (get_or r 4 0) held_size
    ∷ leb (get_or r 5 0) event_room ∷ leb 17 (get_or r 10 0) ∷ leb (get_or r 10 0) (get_or r 11 0) ∷ leb (get_or r 11 0) (get_or r 12 0) ∷ leb (get_or r 12 0) (length r) ∷ []
    in
    let at = ands-at first l h in
    record {
      long = leb-true 17 (length r) (ands-first first l h);
      few = leb-true (length r) 4096 (at 0);
      call = at 3;
      state = leb-true (get_or r 4 0) held_size (at 5);
      buffer = leb-true (get_or r 5 0) event_room (at 6);
      sets = leb-true 17 (get_or r 10 0) (at 7);
      lent = leb-true (get_or r 10 0) (get_or r 11 0) (at 8);
      changes = leb-true (get_or r 11 0) (get_or r 12 0) (at 9);
      rows = leb-true (get_or r 12 0) (length r) (at 10);
    }

-- the call on the first of the held words and the first of the buffer
pub answered : (r : Row) (h b : List ℕ) (q : Row) {x : Reply} {h' b' : List ℕ} → get_or r 5 0 ≤ length b → q ≡ lent_of r
    → Did (call_by (get_or r 2 0) q (get_or r 13 0) (get_or r 14 0) (get_or r 15 0) (get_or r 16 0) (length (take (get_or r 5 0) b)) (take (get_or r 4 0) h)) (take (get_or r 5 0) b) x h' b'
    → (x ≡ reply_of (result_of r h).reply) × ((h' ++ drop (get_or r 4 0) h ≡ held_by r h) × (b' ++ drop (get_or r 5 0) b ≡ buffer_by r h b))
answered r h b q {x} {h'} {b'} few eq d =
    let n = get_or r 4 0 in
    let m = get_or r 5 0 in
    let e : call_by (get_or r 2 0) q (get_or r 13 0) (get_or r 14 0) (get_or r 15 0) (get_or r 16 0) (length (take m b)) (take n h) ≡ result_of r h = rw (eq, length-take-le m b few) refl in (
      d.answer ∙ ap (λ (z : Result). reply_of z.reply) e,
      (
        ap (λ (l : List ℕ). l ++ drop n h) (d.words ∙ ap (λ (z : Result). z.words) e),
        ap (λ (l : List ℕ). l ++ drop m b) (d.buffer ∙ ap (λ (z : Result). put 0 (flat z.reply.rows) (take m b)) e),
      ),
    )

-- what the comparison of everything says
pub agreed : (r : Row) (h b : List ℕ) (h₁ rows wanted left b' changes h₂ : List ℕ) (reply : Reply) (x y z : Bool) → h₁ ≡ before_of r h → rows ≡ rows_of r → wanted ≡ put 0 rows b
    → reply ≡ reply_of (result_of r h₁).reply → left ≡ held_by r h₁ → b' ≡ buffer_by r h₁ b → changes ≡ changes_of r → h₂ ≡ set_all changes h₁
    → x ≡ same_reply r reply → y ≡ eq_row left h₂ → z ≡ eq_row b' wanted → x && y && z ≡ agrees r h b
unfolding agrees
agreed r h b h₁ rows wanted left b' changes h₂ reply x y z begins says stores answers leaves writes changed sets ex ey ez =
    rw (ex, ey, ez, answers, leaves, sets, changed, writes, stores, says, begins)

-- the tests behind those of the length
pub tests : (r : Row) (k : ℕ) (known : Bool) → 17 ≤ length r → length r ≤ 4096 → k ≡ check_of (part 1 (length r) r) → known ≡ is_call (get_or r 2 0)
    → eqb (get_or r 0 0) k && eqb (get_or r 1 0) (length r) && known && leb (get_or r 3 0) 1 && leb (get_or r 4 0) held_size && leb (get_or r 5 0) event_room
    && leb 17 (get_or r 10 0) && leb (get_or r 10 0) (get_or r 11 0) && leb (get_or r 11 0) (get_or r 12 0) && leb (get_or r 12 0) (length r) ≡ fit r
unfolding fit
tests r k known h i e f = rw (e, f, le-leb 17 (length r) h, le-leb (length r) 4096 i)
