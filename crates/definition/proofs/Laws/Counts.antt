-- Row counts (document 02, Paper 8): after every call of every run they are true, a wrong one is met by 201, and what they are in literals.
-- Assumes nothing.
use Rattle.std.specs.Prelude.{ℕ, ◌+◌, ◌-◌, ◌≤◌, ◌<◌, ◌≡◌, ◌↔◌, refl, Bool, true, false, List, [], ◌∷◌, ◌++◌, map, eqb, ltb, length, get_or, drop}
use Rattle.std.proofs.Common.{sym, ap, ◌∙◌, arith, length-drop, get_or-drop, get_or-append-add, ext_get_or, eqb-true, eq-eqb}
use Rattle.std.proofs.Math.ListN.{get_or-append, length-map}
use Rattle.std.proofs.lemmas.Bool.{ltb-true, ltb-false}
use Rattle.lists.specs.Lists.{Row, keep, pad, zeros}
use Rattle.lists.specs.Bools.{fails, test-case}
use Rattle.lists.specs.Keep.{keep-within}
use Rattle.lists.specs.Mapped.{map_at}
use Rattle.lists.specs.Put.{get_d_zeros}
use Rattle.layout.specs.Route.{table}
use Rattle.definition.specs.State.{State}
use Rattle.definition.specs.Words.{table_limit, row_counts_at, state_size, encode, well_formed, base, state_of, rows_of_table, row_counts, formed}
use Rattle.definition.specs.Call.{Call}
use Rattle.definition.specs.Step.{Result, checked, refuses, event_room, semantics, step}
use Rattle.definition.specs.Computing.{computing}
use Rattle.definition.specs.Examples.{ip, up, del_v4}
use Rattle.definition.specs.Preservation.Encode.{encodable, good-decode, length-row_counts}
use Rattle.definition.proofs.Preservation.Step.{Held, base-long, formed-held, held-formed, held-empty, perform-case, step-held}
use Rattle.definition.specs.Noninterference.Statement.{Choice, Agree, empty_words, after, spacious, outside, View}
use Rattle.definition.proofs.Noninterference.Theorem.{two_runs}

-- ---- the claims
-- "the count beside each listed table" is true of the words w: the word at a table's place in the list is the number of its rows; at
-- the places not in use it is 0
pub record TrueCounts (w : List ℕ) : Type 0 where
  pub listed : (i : ℕ) → i < length (state_of w).tables → get_or w (row_counts_at + i) 0 ≡ rows_of_table (get_or (state_of w).tables i 0) (state_of w).routes
  pub unused : (i : ℕ) → length (state_of w).tables ≤ i → get_or w (row_counts_at + i) 0 ≡ 0

-- "Every call keeps it true": of every run, refused calls included, on any well-formed words; and so from empty
abbrev pub CountsKept : Type 0
CountsKept = (calls : List Call) (w : List ℕ) → length w ≡ state_size → formed w ≡ true → TrueCounts (after calls w)

abbrev pub CountsFromEmpty : Type 0
CountsFromEmpty = (calls : List Call) → TrueCounts (after calls empty_words)

-- "A wrong count makes a state not well-formed", and nothing else does that document 01 takes
abbrev pub CountsDecide : Type 0
CountsDecide = (w : List ℕ) → length w ≡ state_size → (formed w ≡ true) ↔ ((well_formed (base w) ≡ true) × TrueCounts w)

-- so every call, lent buffers that suffice, meets it by 201 and leaves every word
abbrev pub WrongCountsRefused : Type 0
WrongCountsRefused =
    (c : Call) (w : List ℕ) →
    length w ≡ state_size →
    (semantics c).checks.buffers ≡ true →
    (TrueCounts w → ⊥) →
    step c w ≡ refuses 201 w

-- of two runs side by side: beside a table that isn't chosen both have the same count, wherever it is listed
abbrev pub CountsAlike : Type 0
CountsAlike =
    (chosen : ℕ → Bool) →
    Choice chosen →
    (cs ds : List Call) →
    Agree chosen cs ds →
    spacious cs empty_words ≡ true →
    spacious ds empty_words ≡ true →
    (i j : ℕ) →
    i < length (state_of (after cs empty_words)).tables →
    j < length (state_of (after ds empty_words)).tables →
    get_or (state_of (after cs empty_words)).tables i 0 ≡ get_or (state_of (after ds empty_words)).tables j 0 →
    chosen (get_or (state_of (after cs empty_words)).tables i 0) ≡ false →
    get_or (after cs empty_words) (row_counts_at + i) 0 ≡ get_or (after ds empty_words) (row_counts_at + j) 0

-- ---- the words of the counts
module _ (n : ℕ) (l : List ℕ) (i : ℕ) where
  in_use : i < length l → get_or (pad n l) i 0 ≡ get_or l i 0
  unfolding pad
  in_use h = get_or-append l (zeros (n - length l)) 0 i h

  not_in_use : length l ≤ i → get_or (pad n l) i 0 ≡ 0
  unfolding pad
  not_in_use h =
      let on : length l + (i - length l) ≡ i = omega arith in
      ap (λ (j : ℕ). get_or (l ++ zeros (n - length l)) j 0) (sym on)
      ∙ get_or-append-add l (zeros (n - length l)) (i - length l) 0
      ∙ get_d_zeros (n - length l) (i - length l)

module _ (st : State) (i : ℕ) where
  abbrev numbers : List ℕ
  numbers = map (λ t. rows_of_table t st.routes) st.tables

  as_many : length numbers ≡ length st.tables
  as_many = length-map st.tables (λ t. rows_of_table t st.routes)

  count_listed : i < length st.tables → get_or (row_counts st) i 0 ≡ rows_of_table (get_or st.tables i 0) st.routes
  unfolding row_counts
  count_listed h = in_use table_limit numbers i (omega (arith, as_many)) ∙ map_at (λ t. rows_of_table t st.routes) st.tables i 0 h

  count_unused : length st.tables ≤ i → get_or (row_counts st) i 0 ≡ 0
  unfolding row_counts
  count_unused h = not_in_use table_limit numbers i (omega (arith, as_many))

module _ (w : List ℕ) where
  held-true : Held w → TrueCounts w
  held-true h =
      record {
        listed = λ i k. word i ∙ count_listed (state_of w) i k;
        unused = λ i k. word i ∙ count_unused (state_of w) i k;
      }
    where
      word : (i : ℕ) → get_or w (row_counts_at + i) 0 ≡ get_or (row_counts (state_of w)) i 0
      word i = sym (get_or-drop row_counts_at w i 0) ∙ ap (λ (l : List ℕ). get_or l i 0) h.counts

  true-held : length w ≡ state_size → well_formed (base w) ≡ true → TrueCounts w → Held w
  true-held long well t =
      record {
        long = long;
        well = well;
        counts = ext_get_or 0 (drop row_counts_at w) (row_counts (state_of w)) (shown ∙ sym counted) (λ i k. at i);
      }
    where
      shown : length (drop row_counts_at w) ≡ table_limit
      shown = simp length-drop (omega arith)

      counted : length (row_counts (state_of w)) ≡ table_limit
      counted = length-row_counts (state_of w) (encodable (good-decode (base w) (base-long w long) well))

      at : (i : ℕ) → get_or (drop row_counts_at w) i 0 ≡ get_or (row_counts (state_of w)) i 0
      at i =
          get_or-drop row_counts_at w i 0
          ∙ test-case (ltb i (length (state_of w).tables))
          (λ e. let k = ltb-true i (length (state_of w).tables) e in t.listed i k ∙ sym (count_listed (state_of w) i k))
          (λ e. let k = ltb-false i (length (state_of w).tables) e in t.unused i k ∙ sym (count_unused (state_of w) i k))

-- ---- proved
after-held : (calls : List Call) (w : List ℕ) → Held w → Held (after calls w)
unfolding after
after-held [] w h = h
after-held (c ∷ cs) w h = after-held cs (step c w).words (step-held c w h)

pub counts-kept : CountsKept
counts-kept calls w long well = held-true (after calls w) (after-held calls w (formed-held w long well))

pub counts-from-empty : CountsFromEmpty
counts-from-empty calls = held-true (after calls empty_words) (after-held calls empty_words held-empty)

pub counts-decide : CountsDecide
counts-decide w long = (
  (λ h. let k = formed-held w long h in (k.well, held-true w k)),
  (λ p. held-formed w (true-held w long p.0 p.1)),
)

pub wrong-counts-refused : WrongCountsRefused
wrong-counts-refused c w long room wrong =
    perform-case (λ (r : Result). r ≡ refuses 201 w) w (semantics c) (λ z. absurd (some (sym found ∙ z))) (λ n e z. ap (λ (k : ℕ). refuses k w) (e ∙ found))
  where
    bad : formed w ≡ false
    bad = fails (formed w) (λ h. wrong (held-true w (formed-held w long h)))

    found : checked (semantics c).checks w ≡ 201
    found = rw (eq-eqb (length w) state_size long, room, bad)

    some : (◌≡◌ {A = ℕ} 201 0) → ⊥
    some e = omega arith

-- the rows of a table that isn't chosen are among those that both runs have
module _ (chosen : ℕ → Bool) (t : ℕ) (unchosen : chosen t ≡ false) where
  rows-seen : (l : List Row) → keep (λ r. eqb (table r) t) (keep (outside chosen) l) ≡ keep (λ r. eqb (table r) t) l
  rows-seen = keep-within (λ r. eqb (table r) t) (outside chosen) (λ r e. rw (eqb-true (table r) t e, unchosen))

  rows-alike : (a b : List Row) → keep (outside chosen) a ≡ keep (outside chosen) b → rows_of_table t a ≡ rows_of_table t b
  rows-alike a b e = ap length (sym (rows-seen a) ∙ ap (keep (λ r. eqb (table r) t)) e ∙ rows-seen b)

pub counts-alike : CountsAlike
counts-alike chosen ch cs ds same a b i j h k e unchosen =
    let one = state_of (after cs empty_words) in
    let two = state_of (after ds empty_words) in
    let t = get_or one.tables i 0 in
    let seen = (two_runs chosen ch cs ds same a b).afterwards in
    (counts-from-empty cs).listed i h
    ∙ rows-alike chosen t unchosen one.routes two.routes (ap (λ (v : View). v.routes) seen)
    ∙ ap (λ (n : ℕ). rows_of_table n two.routes) e
    ∙ sym ((counts-from-empty ds).listed j k)

-- ---- in literals
-- from a state, calls; the last one's number, and the tables and their counts afterwards
pub record Example : Type 0 where
  pub from : List ℕ
  pub calls : List Call
  pub number : ℕ
  pub tables : List ℕ
  pub counts : List ℕ

pub record Found : Type 0 where
  pub number : ℕ
  pub tables : List ℕ
  pub counts : List ℕ

abbrev pub runs : List Call → List ℕ → ℕ → Found
runs [] w n = record { number = n; tables = (state_of w).tables; counts = drop row_counts_at w }
runs (c ∷ cs) w n = let r = step c w in runs cs r.words r.reply.number

abbrev pub given : Example → Found
given e = runs e.calls e.from 0

abbrev pub said : Example → Found
said e = record { number = e.number; tables = e.tables; counts = e.counts }

-- a route of a table to 10.0.0.0 through the device, of a length and a scope, with NLM_F_CREATE (0x400) or NLM_F_REPLACE (0x100) too
abbrev route : ℕ → ℕ → ℕ → ℕ → Call
route t len scope flags =
    Call.add_route4 (t ∷ ip 10 0 0 0 ∷ len ∷ 0 ∷ 0 ∷ 1 ∷ 4 ∷ scope ∷ 0 ∷ 0 ∷ 0 ∷ 0 ∷ 1 ∷ 0 ∷ flags ∷ 0 ∷ (zeros 17 ++ (1 ∷ []))) event_room

-- states that no run reaches: one row of table 7, and these tables
abbrev one_row : List ℕ → State
one_row tables =
    record {
      addresses = [];
      routes = (7 ∷ ip 10 0 0 0 ∷ 8 ∷ 0 ∷ 0 ∷ 1 ∷ 4 ∷ 0 ∷ 0 ∷ 0 ∷ 0 ∷ 0 ∷ 1 ∷ 0 ∷ 0 ∷ zeros 17) ∷ [];
      tables = tables;
    }

unfoldable pub examples : List Example
examples =
    -- a row more, in a table listed anew
    record { from = empty_words; calls = up ∷ route 7 8 0 0x400 ∷ []; number = 0; tables = 254 ∷ 255 ∷ 7 ∷ []; counts = 0 ∷ 3 ∷ 1 ∷ zeros 29 }
    -- a replaced row counts once
    ∷ record {
      from = empty_words;
      calls = up ∷ route 7 8 0 0x400 ∷ route 7 8 253 0x500 ∷ [];
      number = 0;
      tables = 254 ∷ 255 ∷ 7 ∷ [];
      counts = 0 ∷ 3 ∷ 1 ∷ zeros 29;
    }
    -- a refused request lists its table, which has no row
    ∷ record { from = empty_words; calls = up ∷ route 7 33 0 0x400 ∷ []; number = 22; tables = 254 ∷ 255 ∷ 7 ∷ []; counts = 0 ∷ 3 ∷ 0 ∷ zeros 29 }
    -- with `down` the rows go but for those of host scope
    ∷ record {
      from = empty_words;
      calls = up ∷ route 7 8 0 0x400 ∷ Call.down event_room ∷ [];
      number = 0;
      tables = 254 ∷ 255 ∷ 7 ∷ [];
      counts = 0 ∷ 2 ∷ 0 ∷ zeros 29;
    }
    -- with the last address all rows of the device go
    ∷ record {
      from = empty_words;
      calls = up ∷ route 7 8 0 0x400 ∷ del_v4 (ip 127 0 0 1) ∷ [];
      number = 0;
      tables = 254 ∷ 255 ∷ 7 ∷ [];
      counts = zeros 32;
    }
    -- a row of a table that isn't listed is counted nowhere; when the table is listed, if by a refused request, the row counts
    ∷ record { from = encode (one_row []) ++ zeros 34; calls = route 8 33 0 0x400 ∷ []; number = 22; tables = 8 ∷ []; counts = zeros 32 }
    ∷ record { from = encode (one_row []) ++ zeros 34; calls = route 7 33 0 0x400 ∷ []; number = 22; tables = 7 ∷ []; counts = 1 ∷ zeros 31 }
    -- wrong counts: at a place not in use, and beside a listed table
    ∷ record { from = encode (one_row []) ++ (zeros 2 ++ (1 ∷ zeros 31)); calls = up ∷ []; number = 201; tables = []; counts = 1 ∷ zeros 31 }
    ∷ record { from = encode (one_row (7 ∷ [])) ++ zeros 34; calls = up ∷ []; number = 201; tables = 7 ∷ []; counts = zeros 32 }
    ∷ []

pub as_said : map given examples ≡ map said examples
unfolding examples computing
as_said = refl
