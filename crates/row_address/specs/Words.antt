-- A record as the row's words again: each is read back from the other.
-- Assumes nothing.
use Rattle.std.specs.Prelude.{ℕ, zero, suc, ◌+◌, ◌<◌, ◌^◌, ◌≡◌, refl, true, ◌||◌, List, [], ◌∷◌, eqb, leb, length, get_or, drop, Option, Some, None}
use Rattle.std.proofs.Common.{arith, sym, ap, ◌∙◌, drop_of_length-le, drop-cons, eqb-true, leb-true}
use Rattle.std.proofs.lemmas.Bool.{eqb-false}
use Rattle.lists.specs.Lists.{Row}
use Rattle.lists.specs.Bools.{test-case, and_left, and_right, or_case, true-false}
use Rattle.life.specs.Life.{low_word, high_word}
use Rattle.life.specs.Laws.{low-clock, high-clock, clock-words}
use Rattle.layout.specs.Address.{optional, broadcast_present, broadcast, fit_address}
use Rattle.definition.specs.Preservation.Fit.{fields_address, length-address}
use Rattle.row_address.specs.declared.V4.{V4}
use Rattle.row_address.specs.V4.{optional_of, v4_of}

-- a value's mark, and its word: 0 where it is absent
abbrev pub mark_of : Option ℕ → ℕ
mark_of None = 0
mark_of (Some v) = 1

abbrev pub value_of : Option ℕ → ℕ
value_of None = 0
value_of (Some v) = v

-- the row, with the words that are computed
abbrev pub row_with : V4 → ℕ → ℕ → ℕ → ℕ → ℕ → ℕ → Row
row_with v mark value createdLow createdHigh changedLow changedHigh =
    v.local
    ∷ v.address
    ∷ v.prefix
    ∷ mark
    ∷ value
    ∷ v.scope
    ∷ v.flags
    ∷ v.proto
    ∷ v.label.len
    ∷ get_or v.label.words 0 0
    ∷ get_or v.label.words 1 0
    ∷ get_or v.label.words 2 0
    ∷ get_or v.label.words 3 0
    ∷ v.priority
    ∷ v.life.valid.0
    ∷ v.life.preferred.0
    ∷ createdLow
    ∷ createdHigh
    ∷ changedLow
    ∷ changedHigh
    ∷ []

abbrev pub row_of : V4 → Row
row_of v =
    row_with v (mark_of v.broadcast) (value_of v.broadcast)
    (low_word v.life.created.0) (high_word v.life.created.0) (low_word v.life.changed.0) (high_word v.life.changed.0)

-- ---- a list of known length, spelled out
abbrev pub spelled : ℕ → ℕ → List ℕ → List ℕ
spelled zero i l = []
spelled (suc n) i l = get_or l i 0 ∷ spelled n (suc i) l

pub spells : (n i : ℕ) (l : List ℕ) → length l ≡ i + n → drop i l ≡ spelled n i l
spells zero i l h = drop_of_length-le l {i = i} (omega arith)
spells (suc n) i l h = drop-cons l i 0 (omega arith) ∙ ap (λ (k : List ℕ). get_or l i 0 ∷ k) (spells n (suc i) l (omega arith))

-- ---- a value with its mark
module _ (p v : ℕ) where
  pub mark-again : optional p v ≡ true → mark_of (optional_of p v) ≡ p
  mark-again h =
      test-case (eqb p 1)
      (λ e. rw e (sym (eqb-true p 1 e)))
      (λ e. rw e (omega (arith, leb-true p 1 (and_left (leb p 1) (eqb p 1 || eqb v 0) h), eqb-false p 1 e)))

  pub value-again : optional p v ≡ true → value_of (optional_of p v) ≡ v
  value-again h =
      test-case (eqb p 1)
      (λ e. rw e)
      (λ e. rw e (or_case (eqb p 1) (eqb v 0) (and_right (leb p 1) (eqb p 1 || eqb v 0) h) (λ t. absurd (true-false (eqb p 1) t e)) (λ t. sym (eqb-true v 0 t))))

-- ---- a fit row of words of 32 bits is read back from its record
pub row-again : (a : Row) → fit_address a ≡ true → get_or a 16 0 < 2 ^ 32 → get_or a 18 0 < 2 ^ 32 → row_of (v4_of a) ≡ a
row-again a h made changed =
    let f = fields_address a h in
    rw (
      mark-again (broadcast_present a) (broadcast a) f.announced,
      value-again (broadcast_present a) (broadcast a) f.announced,
      low-clock (get_or a 16 0) (get_or a 17 0) made,
      high-clock (get_or a 16 0) (get_or a 17 0) made,
      low-clock (get_or a 18 0) (get_or a 19 0) changed,
      high-clock (get_or a 18 0) (get_or a 19 0) changed,
    )
    (sym (spells 20 0 a (length-address a h)))

-- ---- a record is read back from its row
pub optional-again : (o : Option ℕ) → optional_of (mark_of o) (value_of o) ≡ o
optional-again None = refl
optional-again (Some v) = refl

pub record_again : (v : V4) → length v.label.words ≡ 4 → v4_of (row_of v) ≡ v
record_again v h =
    let label : spelled 4 0 v.label.words ≡ v.label.words = sym (spells 4 0 v.label.words h) in
    rw (optional-again v.broadcast, clock-words v.life.created.0, clock-words v.life.changed.0, label)

-- both, of a row whose computed words are right
pub written : (v : V4) (m x a b c d : ℕ) → length v.label.words ≡ 4 → m ≡ mark_of v.broadcast → x ≡ value_of v.broadcast
    → a ≡ low_word v.life.created.0 → b ≡ high_word v.life.created.0 → c ≡ low_word v.life.changed.0 → d ≡ high_word v.life.changed.0
    → (row_with v m x a b c d ≡ row_of v) × (v4_of (row_with v m x a b c d) ≡ v)
written v m x a b c d h em ex ea eb ec ed =
    let same : row_with v m x a b c d ≡ row_of v = rw (em, ex, ea, eb, ec, ed) in
    (same, ap v4_of same ∙ record_again v h)
