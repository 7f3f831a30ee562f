-- Lent words that hold a state, and what a change leaves in them.
-- Assumes nothing.
use Rattle.std.specs.Prelude.{ℕ, ◌≡◌, true, List, length}
use Rattle.std.proofs.Common.{ap, ◌∙◌, leb-true}
use Rattle.lists.specs.Bools.{and_iff}
use Rattle.lists.specs.All.{eq_row-true, eq_eq_row}
use Rattle.definition.specs.State.{State}
use Rattle.definition.specs.Words.{encode, decode, well_formed, base_size}
use Rattle.definition.specs.Preservation.Encode.{decode-encode}
use Rattle.state.specs.Represents.{Represents, represents, holds-decode, holds-encodable, holds-within}
use Rattle.state.specs.declared.stored.StoredMut.{StoredMut}

-- b holds what f makes of whatever state a holds, in the same words
pub record Becomes (f : State → State) (a b : StoredMut) : Type 0 where
  pub holds : (st : State) → Represents a.words.now st → Represents b.words.now (f st)
  pub place : b.words.ghost_name ≡ a.words.ghost_name

-- the state that is held is the one that the words encode
pub represented : {w : List ℕ} → represents w ≡ true → Represents w (decode w)
unfolding represents
represented {w} h =
    let k = simp and_iff at h in
    record {
      words = eq_row-true w (encode (decode w)) k.0.0.0;
      addresses_within = leb-true (length (decode w).addresses) 64 k.0.0.1.0.0;
      routes_within = leb-true (length (decode w).routes) 256 k.0.0.1.0.1;
      tables_within = leb-true (length (decode w).tables) 32 k.0.0.1.1;
      addresses_fit = k.0.1;
      routes_fit = k.1;
    }

module _ {w : List ℕ} {st : State} (h : Represents w st) where
  pub decode-held : decode w ≡ st
  decode-held = ap decode h.words ∙ decode-encode st (holds-encodable h)

  pub representing : represents w ≡ true
  unfolding represents
  representing =
      rw decode-held (simp and_iff ((((eq_eq_row w (encode st) h.words, simp and_iff at (holds-within h)), h.addresses_fit), h.routes_fit)))

-- what holds the state that was changed does
pub carried : {w v : List ℕ} (f : State → State) → represents w ≡ true → ((st : State) → Represents w st → Represents v (f st)) → represents v ≡ true
carried {w} f h k = representing (k (decode w) (represented h))

-- well-formed words do
pub formed-represents : (w : List ℕ) → length w ≡ base_size → well_formed w ≡ true → represents w ≡ true
formed-represents w l h = representing (holds-decode w l h)
