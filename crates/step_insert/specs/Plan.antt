-- What an insertion is to do, as a place among the rows.
-- Assumes nothing.
use Rattle.std.specs.Prelude.{ℕ, ◌≤◌, ◌<◌, ◌≡◌, refl, Bool, cond, not, leb, get_or}
use Rattle.std.proofs.Common.{sym, ◌∙◌, arith, length-set}
use Rattle.std.proofs.Math.Path.{ap}
use Rattle.std.proofs.Math.Bool.{true, false, not-not}
use mathlib.Core.List.{List, []}
use Rattle.std.proofs.Math.Option.{some}
use Rattle.std.proofs.Math.ListN.{length, set, get_elem?}
use borrow.Author.Tests.{lt-ltb, le-ltb, le-leb, lt-leb}
use Rattle.lists.specs.Lists.{Row, any, first, replace_first, eq_row}
use Rattle.lists.specs.At.{insert_at, length-insert_at}
use Rattle.lists.specs.Place.{place_of, replace_at, first-at, something_at}
use Rattle.layout.specs.Route.{alike}
use Rattle.definition.specs.State.{State, with_routes}
use Rattle.definition.specs.Words.{decode, ordered, fit_state, address_count}
use Rattle.definition.specs.Preservation.Fit.{fit-state}
use Rattle.state.specs.Represents.{Represents, count-addresses}
use Rattle.state.specs.Stored.{represented}
use Rattle.state.specs.declared.stored.StoredMut.{StoredMut}
use Rattle.lists.specs.Bools.{cond-case}
use Rattle.definition.specs.Reference.Insert as Insert
use Rattle.definition.specs.Reference.Insert.{ahead, insert4, excl_flag, replace_flag, create_flag, append_flag}
use Rattle.step_insert.specs.Run.{Run, run-alike, run-within, run-ahead, run-behind, run-place}
use Rattle.step_insert.specs.declared.Placement.{Placement}
use Rattle.step_insert.specs.declared.Placement.TheVariants.{Add, Replace}
use Rattle.std.specs.Prelude.{Option, Some, None, Result, Ok, Err}
use Rattle.refusal.specs.declared.Refusal.{Refusal}
use Rattle.refusal.specs.declared.Refusal.TheVariants.{Full, Errno}
use Rattle.std.specs.Result.{IsErr, IsErrAnd}
use Rattle.std.proofs.lemmas.Result.{err_from_is_err_and}
use Rattle.refusal.specs.Refusal.{number_of, unless}
use Rattle.refusal.specs.Laws.{passed, failed}

-- where the row is put, nothing where it is there already, or a refusal
abbrev pub Plan : Type 0
Plan = Result (Option Placement) Refusal

-- what a plan comes to
abbrev pub planned : Row → List Row → Plan → Insert.Inserted
planned new l (Ok (Some (Add i emitted))) = Insert.placed (insert_at i new l) emitted
planned new l (Ok (Some (Replace i))) = Insert.placed (set l i new) 0x100
planned new l (Ok None) = Insert.nothing
planned new l (Err e) = Insert.unplaced (number_of e)

-- its place is one of the rows, or behind them for one more; a refusal is one of the reference's
abbrev pub placed : ℕ → Plan → Type 0
placed n (Ok (Some (Add i emitted))) = i ≤ n
placed n (Ok (Some (Replace i))) = i < n
placed n (Ok None) = Unit {0}
placed n (Err e) = e ≡ Errno (number_of e)

-- a row more, at a place: only with CREATE
abbrev pub created : ℕ → ℕ → ℕ → Plan
created flags place emitted = cond (create_flag flags) (Ok (Some (Add place emitted))) (Err (Errno 2))

-- in place of the first alike row
abbrev pub replacing : ℕ → Bool → Bool → Plan
replacing start there first = cond first (Ok None) (cond there (Err (Errno 17)) (Ok (Some (Replace start))))

-- where some row is alike
abbrev pub among : ℕ → ℕ → ℕ → Bool → Bool → Plan
among flags start end there first =
    cond (excl_flag flags) (Err (Errno 17))
    (cond (replace_flag flags) (replacing start there first)
    (cond there (Err (Errno 17)) (cond (append_flag flags) (created flags end 0xc00) (created flags start 0x400))))

-- ---- the plan is the definition's
module _ (new : Row) (flags : ℕ) (l : List Row) where
  abbrev refused : ℕ → Plan
  refused n = Err (Errno n)

  abbrev add : ℕ → ℕ → Plan
  add i emitted = Ok (Some (Add i emitted))

  same_create : (c : Bool) (x : Insert.Inserted) (p : Plan) → planned new l p ≡ x → planned new l (cond c p (refused 2)) ≡ cond c x (Insert.unplaced 2)
  same_create true x p e = e
  same_create false x p e = refl

  cases : (start end : ℕ) (x r b f c a : Bool)
      → planned new l (cond x (refused 17) (cond r (cond f (Ok None) (cond b (refused 17) (Ok (Some (Replace start))))) (cond b (refused 17) (cond a (cond c (add end 0xc00) (refused 2)) (cond c (add start 0x400) (refused 2))))))
      ≡ cond x (Insert.unplaced 17) (cond r (cond f Insert.nothing (cond b (Insert.unplaced 17) (Insert.placed (set l start new) 0x100))) (cond b (Insert.unplaced 17) (cond c (cond a (Insert.placed (insert_at end new l) 0xc00) (Insert.placed (insert_at start new l) 0x400)) (Insert.unplaced 2))))
  cases start end true r b f c a = refl
  cases start end false true b true c a = refl
  cases start end false true true false c a = refl
  cases start end false true false false c a = refl
  cases start end false false true f c a = refl
  cases start end false false false f true true = refl
  cases start end false false false f true false = refl
  cases start end false false false f false true = refl
  cases start end false false false f false false = refl

  module _ (start end : ℕ) (there : Bool) (s : Run new l start end there) (o : ordered l ≡ true) where
    pub none-planned : end ≤ start → planned new l (created flags start 0x600) ≡ insert4 new flags l
    unfolding insert4
    none-planned h =
        let none_alike : any (alike new) l ≡ false = run-alike new l start end there s ∙ le-ltb start end h in
        rw none_alike (same_create (create_flag flags) (Insert.placed (ahead new l) 0x600) (add start 0x600) (ap (λ (m : List Row). Insert.placed m 0x600) (run-ahead new l start end there s o)))

    pub some-planned : start < end → (f : Bool) → f ≡ eq_row new (get_or l start []) → planned new l (among flags start end there f) ≡ insert4 new flags l
    unfolding insert4
    some-planned h f e =
        let some_alike : any (alike new) l ≡ true = run-alike new l start end there s ∙ lt-ltb start end h in
        let place : place_of (alike new) l ≡ start = run-place new l start end there s o some_alike in
        let within : start < length l = omega (arith, run-within new l start end there s) in
        let first_one : first (alike new) l ≡ some (get_or l start []) =
        first-at (alike new) l ∙ ap (get_elem? l) place ∙ something_at l start [] within
        in
        let replaced : replace_first (alike new) new l ≡ set l start new = replace_at (alike new) new l ∙ ap (λ (i : ℕ). set l i new) place in
        rw (some_alike, ← s.is-there, first_one, ← e, replaced, ← (run-ahead new l start end there s o), ← (run-behind new l start end there s o))
        (cases start end (excl_flag flags) (replace_flag flags) there f (create_flag flags) (append_flag flags))

-- ---- the words
-- the flags of a row put in, none where it is there already
abbrev pub Inserted : Type 0
Inserted = Result (Option ℕ) Refusal

-- what came of it, and the rows afterwards, by how many there may be
abbrev pub answer_of : Insert.Inserted → Inserted
answer_of (Insert.placed rows emitted) = cond (leb (length rows) 256) (Ok (Some emitted)) (Err Full)
answer_of Insert.nothing = Ok None
answer_of (Insert.unplaced n) = Err (Errno n)

abbrev pub rows_after : Insert.Inserted → List Row → List Row
rows_after (Insert.placed rows emitted) old = cond (leb (length rows) 256) rows old
rows_after Insert.nothing old = old
rows_after (Insert.unplaced n) old = old

-- a flag as the code tests it
-- ---- places
pub placed-created : (n flags place emitted : ℕ) → place ≤ n → placed n (created flags place emitted)
placed-created n flags place emitted h = cond-case (placed n) (create_flag flags) (λ e. h) (λ e. refl)

pub placed-among : (n flags start end : ℕ) (there f : Bool) → start < n → end ≤ n → placed n (among flags start end there f)
placed-among n flags start end there f g h =
    cond-case (placed n) (excl_flag flags) (λ e. refl)
    (λ e. cond-case (placed n) (replace_flag flags)
    (λ r. cond-case (placed n) f (λ a. tt) (λ a. cond-case (placed n) there (λ b. refl) (λ b. g)))
    (λ r. cond-case (placed n) there (λ b. refl)
    (λ b. cond-case (placed n) (append_flag flags) (λ a. placed-created n flags end 0xc00 h) (λ a. placed-created n flags start 0x400 (omega arith)))))

-- ---- words that hold a state, with a row put in
pub record InsertedInto (new : Row) (flags : ℕ) (st : State) (w : List ℕ) (r : Inserted) : Type 0 where
  pub answer : r ≡ answer_of (insert4 new flags st.routes)
  pub holds : Represents w (with_routes (rows_after (insert4 new flags st.routes) st.routes) st)

module _ (new : Row) (flags : ℕ) (st : State) (p : Plan) (e : planned new st.routes p ≡ insert4 new flags st.routes) where
  pub into-full : {w : List ℕ} → Represents w st → (i emitted : ℕ) → p ≡ Ok (Some (Add i emitted)) → i ≤ length st.routes → length st.routes ≡ 256 → InsertedInto new flags st w (Err Full)
  into-full {w} h i emitted q b n =
      let long : leb (length (insert_at i new st.routes)) 256 ≡ false = lt-leb (length (insert_at i new st.routes)) 256 (omega (arith, length-insert_at i new st.routes b)) in
      let is : insert4 new flags st.routes ≡ Insert.placed (insert_at i new st.routes) emitted = sym e ∙ ap (planned new st.routes) q in
      record { answer = rw (is, long); holds = rw (is, long) h }

  pub into-put : {w : List ℕ} (i emitted : ℕ) → p ≡ Ok (Some (Add i emitted)) → i ≤ length st.routes → length st.routes < 256
      → Represents w (with_routes (insert_at i new st.routes) st) → InsertedInto new flags st w (Ok (Some emitted))
  into-put {w} i emitted q b n h =
      let long : leb (length (insert_at i new st.routes)) 256 ≡ true = le-leb (length (insert_at i new st.routes)) 256 (omega (arith, length-insert_at i new st.routes b)) in
      let is : insert4 new flags st.routes ≡ Insert.placed (insert_at i new st.routes) emitted = sym e ∙ ap (planned new st.routes) q in
      record { answer = rw (is, long); holds = rw (is, long) h }

  pub into_replaced : {w : List ℕ} (i : ℕ) → p ≡ Ok (Some (Replace i)) → length st.routes ≤ 256
      → Represents w (with_routes (set st.routes i new) st) → InsertedInto new flags st w (Ok (Some 0x100))
  into_replaced {w} i q n h =
      let long : leb (length (set st.routes i new)) 256 ≡ true = le-leb (length (set st.routes i new)) 256 (omega (arith, length-set st.routes i new)) in
      let is : insert4 new flags st.routes ≡ Insert.placed (set st.routes i new) 0x100 = sym e ∙ ap (planned new st.routes) q in
      record { answer = rw (is, long); holds = rw (is, long) h }

  pub into-kept : {w : List ℕ} → Represents w st → p ≡ Ok None → InsertedInto new flags st w (Ok None)
  into-kept {w} h q =
      let is : insert4 new flags st.routes ≡ Insert.nothing = sym e ∙ ap (planned new st.routes) q in
      record { answer = rw is; holds = rw is h }

  pub into-refused : {w : List ℕ} → Represents w st → (n : ℕ) → placed n p → {why : Refusal} → p ≡ Err why → InsertedInto new flags st w (Err why)
  into-refused {w} h n k {why} q =
      let known : why ≡ Errno (number_of why) = rw q at k in
      let is : insert4 new flags st.routes ≡ Insert.unplaced (number_of why) = sym e ∙ ap (planned new st.routes) q in
      record { answer = rw is (ap Err known); holds = rw is h }

-- two states that differ in their routes alone
pub others-count : (a b : StoredMut) → with_routes [] (decode b.words.now) ≡ with_routes [] (decode a.words.now) → address_count b.words.now ≡ address_count a.words.now
others-count a b e =
    count-addresses (represented b.holds) ∙ ap (λ (s : State). length s.addresses) e ∙ sym (count-addresses (represented a.holds))

-- the rows of a fit state are in order
pub in_order : (st : State) → fit_state st ≡ true → ordered st.routes ≡ true
in_order st h = (fit-state st h).of_routes.in_order

pub add_place : (n : ℕ) (p : Plan) (i emitted : ℕ) → placed n p → p ≡ Ok (Some (Add i emitted)) → i ≤ n
add_place n p i emitted h q = rw q at h

pub replace_place : (n : ℕ) (p : Plan) (i : ℕ) → placed n p → p ≡ Ok (Some (Replace i)) → i < n
replace_place n p i h q = rw q at h

-- ---- checks by `?`
-- what is handed on by one that failed
pub check-off : {A : Type 0} {b : Bool} {why e : Refusal} {r : Result (Unit {0}) Refusal} {x : Result A Refusal} → r ≡ unless b why → r ≡ Err e → IsErr x × IsErrAnd x (λ y. y ≡ e)
    → (b ≡ false) × (x ≡ Err why)
check-off {b = b} {why = why} {e = e} f g h =
    let k = failed b why e (sym g ∙ f) in
    let is = err_from_is_err_and _ h.1 in
    (k.0, is.1 ∙ ap Err (is.2 ∙ k.1))

pub check-on : {b : Bool} (why : Refusal) {r : Result (Unit {0}) Refusal} {u : Unit {0}} → r ≡ unless b why → r ≡ Ok u → b ≡ true
check-on {b = b} why f g = passed b why (sym g ∙ f)

pub turned : (b : Bool) {t : Bool} → not b ≡ t → b ≡ not t
turned b h = sym (not-not b) ∙ ap not h

-- what holds of the rows that are lent holds of the state's
pub plans : (new : Row) (flags : ℕ) (p : Plan) {l m : List Row} → l ≡ m → (ordered l ≡ true → planned new l p ≡ insert4 new flags l) → ordered m ≡ true → planned new m p ≡ insert4 new flags m
plans new flags p e f o = rw (← e) (f (rw e o))
