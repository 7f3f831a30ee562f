-- What the change count tells of a call and of a run: `count-rises`, `count-tells`.
-- Assumes nothing.
use Rattle.std.specs.Prelude.{ℕ, suc, ◌+◌, ◌*◌, ◌<◌, ◌≤◌, ◌≡◌, refl, Bool, true, false, cond, not, ◌&&◌, List, [], ◌∷◌, ◌++◌, ltb, length, get_or, drop}
use Rattle.std.proofs.Common.{sym, ap, ap₂, subst, ◌∙◌, arith, drop_at, get_or-take, lt-ltb}
use Rattle.std.proofs.Math.ListN.{get_or-append}
use Rattle.lists.specs.Lists.{eq_row, span}
use Rattle.lists.specs.Bools.{cond_map, cond-case, fails}
use Rattle.lists.specs.All.{eq_row-refl, eq_row-true}
use Rattle.definition.specs.State.{State}
use Rattle.definition.specs.Words.{base_size, count_size, encode, decode, base, state_of, row_counts, largest_count, change_count, count_words, changed, counted, leaves}
use Rattle.definition.specs.Call.{Call}
use Rattle.definition.specs.Step.{Result, Checks, Action, changes, replies, lists, checked, result, roomy, semantics, step}
use Rattle.definition.specs.Preservation.Encode.{Admissible, encodable, length-encode, decode-encode}
use Rattle.definition.proofs.Preservation.Change.{Acts, lawful}
use Rattle.definition.proofs.Preservation.Step.{Held, good-result, length-counted, base-leaves, leaves-decode, checked-held, checked-sound, acted, perform-case}
use Rattle.definition_parts.specs.Statement.{Act, words_after, CountRises, CountTells, Unchanged}

-- ---- a call: the count doesn't fall, and stands below the largest only where every word stays
pub record Tells (w v : List ℕ) : Type 0 where
  pub rises : change_count w ≤ change_count v
  pub same : change_count v ≡ change_count w → change_count w < largest_count → v ≡ w

pub stays-tells : (w : List ℕ) → Tells w w
stays-tells w = record { rises = omega arith; same = λ e h. refl }

-- the number in the words behind the lists
abbrev number_in : List ℕ → ℕ
number_in l = get_or l 0 0 + get_or l 1 0 * 4294967296

back : (n : ℕ) → number_in (count_words n) ≡ n
back n = omega arith

-- one more for a change below the largest
abbrev Rises : List ℕ → List ℕ → Type 0
Rises w v = change_count v ≡ cond (not (eq_row (base w) (base v)) && ltb (change_count w) largest_count) (suc (change_count w)) (change_count w)

stays-rises : (w : List ℕ) → Rises w w
stays-rises w = rw (eq_row-refl (base w))

-- in the words of a state
held-number : (w : List ℕ) → number_in (span base_size count_size w) ≡ change_count w
unfolding span
held-number w =
    ap₂ (λ (a b : ℕ). a + b * 4294967296) (get_or-take count_size (drop base_size w) 0 0 (omega arith)) (get_or-take count_size (drop base_size w) 1 0 (omega arith))

-- whatever stands behind them
number-front : (l m : List ℕ) → length l ≡ count_size → number_in (l ++ m) ≡ number_in l
number-front l m h =
    ap₂ (λ (a b : ℕ). a + b * 4294967296) (get_or-append l m 0 0 (omega arith)) (get_or-append l m 0 1 (omega arith))

left-number : (w : List ℕ) (st : State) → Held w → Admissible st → change_count (leaves w st) ≡ number_in (counted (changed w st) w)
left-number w st h g =
    ap number_in (drop_at (encode st) (counted (changed w st) w ++ row_counts st) base_size (length-encode st (encodable g)))
    ∙ number-front (counted (changed w st) w) (row_counts st) (length-counted (changed w st) w h.long)

counted-rises-by : (b : Bool) (w : List ℕ) → number_in (counted b w) ≡ cond (b && ltb (change_count w) largest_count) (suc (change_count w)) (change_count w)
unfolding counted
counted-rises-by b w =
    cond_map number_in (b && ltb (change_count w) largest_count) (count_words (suc (change_count w))) (span base_size count_size w)
    ∙ ap₂ (λ (m n : ℕ). cond (b && ltb (change_count w) largest_count) m n) (back (suc (change_count w))) (held-number w)

leaves-rises : (w : List ℕ) (st : State) → Held w → Admissible st → Rises w (leaves w st)
unfolding changed
leaves-rises w st h g =
    left-number w st h g
    ∙ counted-rises-by (changed w st) w
    ∙ ap (λ (v : List ℕ). cond (not (eq_row (base w) v) && ltb (change_count w) largest_count) (suc (change_count w)) (change_count w))
    (sym (base-leaves w st (encodable g)))

-- a change below the largest is one more
counted-one : (w : List ℕ) → change_count w < largest_count → number_in (counted true w) ≡ suc (change_count w)
unfolding counted
counted-one w h = rw (lt-ltb (change_count w) largest_count h) (back (suc (change_count w)))

counted-rises : (b : Bool) (w : List ℕ) → change_count w ≤ number_in (counted b w)
unfolding counted
counted-rises b w =
    cond-case (λ (l : List ℕ). change_count w ≤ number_in l) (b && ltb (change_count w) largest_count)
    (λ e. omega (arith, back (suc (change_count w)))) (λ e. omega (arith, held-number w))

unchanged : (w : List ℕ) (st : State) → changed w st ≡ false → base w ≡ encode st
unfolding changed
unchanged w st e = eq_row-true (base w) (encode st) (not-false (eq_row (base w) (encode st)) e)
  where
    not-false : (b : Bool) → not b ≡ false → b ≡ true
    not-false true e = refl
    not-false false e = sym e

-- the words that a state leaves are the old ones where those of its lists are
leaves-same : (w : List ℕ) (st : State) → Held w → Admissible st → base (leaves w st) ≡ base w → leaves w st ≡ w
leaves-same w st h g e =
    let is : state_of w ≡ st = ap decode (sym e ∙ base-leaves w st (encodable g)) ∙ decode-encode st (encodable g) in
    ap (leaves w) (sym is) ∙ leaves-decode w h

leaves-tells : (w : List ℕ) (st : State) → Held w → Admissible st → Tells w (leaves w st)
leaves-tells w st h g =
    record {
      rises = omega (arith, left-number w st h g, counted-rises (changed w st) w);
      same = λ e k.
          let idle : changed w st ≡ false =
          fails (changed w st) (λ t. omega (arith, left-number w st h g, counted-one w k, ap (λ (b : Bool). number_in (counted b w)) t))
          in
          leaves-same w st h g (base-leaves w st (encodable g) ∙ sym (unchanged w st idle));
    }

-- what holds of the words that stay, and of those that a state leaves, holds of a call, whatever the words
step-case : (P : List ℕ → Type 0) (c : Call) (w : List ℕ) → P w → ((st : State) → Held w → Admissible st → P (leaves w st)) → P (step c w).words
step-case P c w same left =
    perform-case (λ (r : Result). P r.words) w (semantics c) (λ z. go (semantics c).checks (semantics c).action (lawful c).acts z) (λ n e z. same)
  where
    go : (k : Checks) (a : Action) → Acts k a → checked k w ≡ 0 → P (acted a w).words
    go k (changes listed f) l z =
        let o = f (state_of w) in
        cond-case (λ (r : Result). P r.words) (roomy o) (λ e. left (result o) (checked-held k w z) (good-result o (checked-sound k w z l).kept e)) (λ e. same)
    go k (replies f) l z = same
    go k (lists f) l z = same

pub count-rises : CountRises
count-rises c w = step-case (Rises w) c w (stays-rises w) (leaves-rises w)

pub step-tells : (c : Call) (w : List ℕ) → Tells w (step c w).words
step-tells c w = step-case (Tells w) c w (stays-tells w) (leaves-tells w)

-- a call that leaves the words of the lists leaves them all
pub step-same : (c : Call) (w : List ℕ) → base (step c w).words ≡ base w → (step c w).words ≡ w
step-same c w = step-case (λ (v : List ℕ). base v ≡ base w → v ≡ w) c w (λ e. refl) (leaves-same w)

-- one call after the other
pub tells-through : (w v u : List ℕ) → Tells w v → Tells v u → Tells w u
tells-through w v u t s =
    record {
      rises = omega (arith, t.rises, s.rises);
      same = λ e h.
          let one : change_count v ≡ change_count w = omega (arith, t.rises, s.rises, e) in
          s.same (e ∙ sym one) (omega (arith, one, h)) ∙ t.same one h;
    }

-- ---- a run
acts-rise : (acts : List Act) (w : List ℕ) → change_count w ≤ change_count (words_after acts w)
unfolding words_after
acts-rise [] w = omega arith
acts-rise (Act.call c ∷ acts) w = omega (arith, (step-tells c w).rises, acts-rise acts (step c w).words)
acts-rise (Act.next room rows ∷ acts) w = acts-rise acts w

-- every call of a run on the words w leaves them
abbrev pub Still : List ℕ → List Act → Type 0
Still w [] = Unit {0}
Still w (Act.call c ∷ acts) = ((step c w).words ≡ w) × Still w acts
Still w (Act.next room rows ∷ acts) = Still w acts

still-run : (w : List ℕ) (acts : List Act) → Still w acts → words_after acts w ≡ w
unfolding words_after
still-run w [] s = refl
still-run w (Act.call c ∷ acts) s = ap (words_after acts) s.0 ∙ still-run w acts s.1
still-run w (Act.next room rows ∷ acts) s = still-run w acts s

pub still-unchanged : (w : List ℕ) (acts : List Act) → Unchanged acts w → Still w acts
still-unchanged w [] u = tt
still-unchanged w (Act.call c ∷ acts) u =
    let same = step-same c w u.0 in
    (same, still-unchanged w acts (subst (Unchanged acts) same u.1))
still-unchanged w (Act.next room rows ∷ acts) u = still-unchanged w acts u

-- where the count is the start's afterwards, and not the largest
pub still-counted : (w : List ℕ) → change_count w < largest_count → (acts : List Act) → change_count (words_after acts w) ≡ change_count w → Still w acts
unfolding words_after
still-counted w below [] h = tt
still-counted w below (Act.call c ∷ acts) h =
    let t = step-tells c w in
    let same = t.same (omega (arith, t.rises, acts-rise acts (step c w).words, h)) below in
    (same, still-counted w below acts (ap (λ (v : List ℕ). change_count (words_after acts v)) (sym same) ∙ h))
still-counted w below (Act.next room rows ∷ acts) h = still-counted w below acts h

pub count-tells : CountTells
count-tells acts w h below = ap base (still-run w acts (still-counted w below acts h))
