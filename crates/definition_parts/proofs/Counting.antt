-- For the code: the words that a call leaves, by the words of the lists that its step left and by the rule; and the change count's words,
-- of which what stands before them says nothing.
-- Assumes nothing.
use Rattle.std.specs.Prelude.{ℕ, ◌+◌, ◌*◌, ◌<◌, ◌≤◌, ◌≡◌, Bool, false, ◌&&◌, List, ◌++◌, cond, suc, ltb, length, get_or, take, drop}
use Rattle.std.proofs.Common.{sym, ap, ap₂, ◌∙◌, arith, drop_at, get_or-drop, take-append-drop}
use Rattle.std.proofs.lemmas.Bool.{not-false}
use Rattle.lists.specs.Lists.{eq_row, span}
use Rattle.lists.specs.All.{eq_row-true}
use Rattle.definition.specs.Words.{base_size, count_size, decode, base, row_counts, largest_count, change_count, count_words, counted}
use Rattle.definition.specs.Call.{Call}
use Rattle.definition.specs.Step.{step}
use Rattle.definition.proofs.Preservation.Step.{Held}
use Rattle.definition_parts.specs.Rule.{altered}
use Rattle.definition_parts.proofs.Changed.{step-counted}
use Rattle.definition_parts.proofs.Run.{step-same}

-- ---- the words that a call leaves: those of the lists, v, the count, which goes up as the rule says, and the row counts
pub step-words : (c : Call) (w v : List ℕ) → Held w → v ≡ base (step c w).words
    → (step c w).words ≡ v ++ (counted (altered c w (step c w).reply v) w ++ row_counts (decode v))
step-words c w v h e =
    (step-counted c w h).words
    ∙ ap (λ (lists : List ℕ). lists ++ (counted (altered c w (step c w).reply lists) w ++ row_counts (decode lists))) (sym e)

-- where the rule says that nothing changes, what is behind the lists stays
pub step-idle : (c : Call) (w v : List ℕ) → Held w → v ≡ base (step c w).words → altered c w (step c w).reply v ≡ false
    → (step c w).words ≡ v ++ drop base_size w
step-idle c w v h e idle =
    let r = step c w in
    let same : base w ≡ base r.words =
    eq_row-true (base w) (base r.words) (not-false (eq_row (base w) (base r.words)) ((step-counted c w h).changes ∙ rw e at idle))
    in
    step-same c w (sym same) ∙ sym (rw (e, ← same) (take-append-drop base_size w))

-- ---- the change count
-- as the words of a state have it
pub count-at : (w : List ℕ) → change_count w ≡ get_or w base_size 0 + get_or w (base_size + 1) 0 * 4294967296
count-at w = ap₂ (λ (low high : ℕ). low + high * 4294967296) (get_or-drop base_size w 0 0) (get_or-drop base_size w 1 0)

-- words of 32 bits hold no more than the largest
pub count-most : (w : List ℕ) → get_or w base_size 0 < 4294967296 → get_or w (base_size + 1) 0 < 4294967296 → change_count w ≤ largest_count
count-most w low high = omega (arith, count-at w)

-- it stands behind the lists, whatever these are
abbrev count_of : List ℕ → ℕ
count_of behind = get_or behind 0 0 + get_or behind 1 0 * 4294967296

pub counted-behind : (b : Bool) (v w : List ℕ) → length v ≡ base_size → counted b (v ++ drop base_size w) ≡ counted b w
unfolding counted span
counted-behind b v w l =
    ap
    (λ (behind : List ℕ).
    cond (b && ltb (count_of behind) largest_count) (count_words (suc (count_of behind))) (take count_size behind))
    (drop_at v (drop base_size w) base_size l)
