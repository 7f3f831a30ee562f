-- The tables that words list, and how many a table more makes.
-- Assumes nothing.
use Rattle.std.specs.Prelude.{ℕ, ◌+◌, ◌≤◌, ◌≡◌, refl, Bool, true, false, List, [], ◌∷◌, ◌++◌, length, set}
use Rattle.std.proofs.Common.{sym, ap, ◌∙◌, arith, eq-eqb, ne_eqb, length-append}
use Rattle.std.proofs.Math.Bool.{or-false}
use Rattle.lists.specs.Lists.{among, span}
use Rattle.lists.specs.Split.{among-more}
use Rattle.definition.specs.State.{State, with_tables}
use Rattle.definition.specs.Words.{table_count, tables_at}
use Rattle.definition.specs.Reference.Insert.{add_table, list_table, create4}
use Rattle.state.specs.Represents.{Represents, count-tables, sizes_of}
use Rattle.state.specs.Change.{tables-at, append_table}

-- the tables that the words list
abbrev pub tables_of : List ℕ → List ℕ
tables_of w = span tables_at (table_count w) w

module _ {w : List ℕ} {st : State} (h : Represents w st) (t : ℕ) where
  -- a table that is listed already, and one that is not
  pub add_there : among t (tables_of w) ≡ true → Represents w (with_tables (add_table t st.tables) st)
  add_there e =
      let f : among t st.tables ≡ true = ap (among t) (sym (tables-at h)) ∙ e in
      rw f h

  pub add_new : among t (tables_of w) ≡ false → length (add_table t (tables_of w)) ≤ 32
      → Represents (set (set w (tables_at + table_count w) t) 2 (table_count w + 1)) (with_tables (add_table t st.tables) st)
  add_new e room =
      let f : among t st.tables ≡ false = ap (among t) (sym (tables-at h)) ∙ e in
      let long : length (st.tables ++ (t ∷ [])) ≤ 32 = rw (tables-at h, f) at room in
      rw f (append_table h t (omega (arith, length-append st.tables (t ∷ []))))

-- ---- how many tables a table more makes
pub length-there : (t : ℕ) (l : List ℕ) → among t l ≡ true → length (add_table t l) ≡ length l
length-there t l e = rw e

pub length_new : (t : ℕ) (l : List ℕ) → among t l ≡ false → length (add_table t l) ≡ length l + 1
length_new t l e = rw e (length-append l (t ∷ []))

grows : (t : ℕ) (l : List ℕ) (b : Bool) → among t l ≡ b → length l ≤ length (add_table t l)
grows t l true e = omega (arith, length-there t l e)
grows t l false e = omega (arith, length_new t l e)

pub list-other : (t : ℕ) (l : List ℕ) → (t ≡ 255 → ⊥) → list_table t l ≡ add_table t l
unfolding list_table
list-other t l h = rw (ne_eqb t 255 h)

pub list-local : (t : ℕ) (l : List ℕ) → t ≡ 255 → list_table t l ≡ add_table t (add_table 254 l)
unfolding list_table
list-local t l h = rw (eq-eqb t 255 h)

pub main_first : (t : ℕ) (l : List ℕ) → t ≡ 255 → length (list_table t l) ≤ 32 → length (add_table 254 l) ≤ 32
main_first t l h room =
    let k : length (add_table t (add_table 254 l)) ≤ 32 = rw (list-local t l h) at room in
    omega (arith, grows t (add_table 254 l) (among t (add_table 254 l)) refl)

pub length-local : (t : ℕ) (l : List ℕ) → t ≡ 255 → among 254 l ≡ false → length (list_table t l) ≡ length (add_table t l) + 1
length-local t l h e =
    rw (list-local t l h, e, h) (go (among 255 l) refl)
  where
    go : (b : Bool) → among 255 l ≡ b → length (add_table 255 (l ++ (254 ∷ []))) ≡ length (add_table 255 l) + 1
    go true f = length-there 255 (l ++ (254 ∷ [])) (among-more 255 254 l ∙ or-false (among 255 l) ∙ f) ∙ length-append l (254 ∷ []) ∙ sym (rw (length-there 255 l f))
    go false f = length_new 255 (l ++ (254 ∷ [])) (among-more 255 254 l ∙ or-false (among 255 l) ∙ f) ∙ omega (arith, length-append l (254 ∷ []), length_new 255 l f)

pub length-listed : {w : List ℕ} {st : State} → Represents w st → table_count w ≡ length (tables_of w)
length-listed h = count-tables h ∙ sym (ap length (tables-at h))

pub create_one : {w : List ℕ} (st : State) (t : ℕ) → (t ≡ 255 → ⊥) → Represents w (with_tables (add_table t st.tables) st) → Represents w (create4 t st)
unfolding create4
create_one st t e h = rw (list-other t st.tables e) h

pub create_two : {w : List ℕ} (st : State) (t : ℕ) → t ≡ 255 → Represents w (with_tables (add_table t (add_table 254 st.tables)) st) → Represents w (create4 t st)
unfolding create4
create_two st t e h = rw (list-local t st.tables e) h

pub at_most : {w : List ℕ} {st : State} (t : ℕ) → Represents w st → length (add_table t (tables_of w)) ≤ 33
at_most {w} t h = go (among t (tables_of w)) refl
  where
    within : length (tables_of w) ≤ 32
    within = omega (arith, sizes_of h, length-listed h)

    go : (b : Bool) → among t (tables_of w) ≡ b → length (add_table t (tables_of w)) ≤ 33
    go true e = omega (arith, length-there t (tables_of w) e, within)
    go false e = omega (arith, length_new t (tables_of w) e, within)

pub local-next : {w x : List ℕ} {st : State} (t : ℕ) → Represents w st → Represents x (with_tables (add_table 254 st.tables) st) → t ≡ 255
    → length (list_table t (tables_of w)) ≤ 32 → length (add_table t (tables_of x)) ≤ 32
local-next {w} {x} {st} t h k e room = rw (tables-at k) (rw (tables-at h, list-local t st.tables e) at room)
