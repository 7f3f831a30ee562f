-- What a call comes to, by its checks and the reference, and what that makes of the answers of those that read.
-- Assumes nothing.
use Rattle.std.specs.Prelude.{Ok, Err, ◌≢◌, ℕ, ◌≡◌, refl, Bool, true, false, cond, ◌&&◌, eqb, length}
use Rattle.std.specs.Prelude.{IsErrAnd, IfOk}
use Rattle.std.specs.Prelude.{Result as Answer}
use Rattle.std.specs.Prelude.{Some, None, Option as Chosen}
use Rattle.std.specs.Option.{is_some, ok_or}
use Rattle.std.proofs.lemmas.Result.{err_from_is_err_and}
use denote.Ref.{Bor}
use Rattle.std.proofs.Common.{subst, arith, ◌∙◌, eqb-true}
use Rattle.std.proofs.Math.Path.{sym, ap}
use mathlib.Core.List.{List, append-nil}
use Rattle.std.proofs.Math.Option.{Option}
use Rattle.std.proofs.lemmas.Bool.{eqb-false}
use Rattle.lists.specs.Lists.{Row, flat, put}
use Rattle.lists.specs.Put.{put-no-rows}
use Rattle.lists.specs.Bools.{cond-case, and_left}
use Rattle.refusal.specs.declared.Refusal.{Refusal}
use Rattle.refusal.specs.declared.Refusal.TheVariants.{Malformed, Errno}
use Rattle.refusal.specs.Refusal.{number_of, Refuses, unless}
use Rattle.definition.specs.State.{State}
use Rattle.definition.specs.Words.{base_size, state_size, well_formed, base, state_of, counts_true, formed}
use Rattle.definition.specs.Call.{Reply, refusal, valued, written, optionally, found_row}
use Rattle.definition.specs.Step.{Result, refuses, Checks, Semantics, checked, reading, perform, finding}
use Rattle.definition.specs.Reference.Source.{present}
use Rattle.definition.specs.Reference.Lookup as Lookup
use Rattle.definition.specs.Reference.Lookup.{lookup_in}
use Rattle.definition.proofs.Preservation.Numbers.{OfFound, lookup-number}
use Rattle.definition.specs.Preservation.Encode.{Admissible}
use Rattle.definition.proofs.Preservation.Step.{Held, base-long, good-held, checked-held, checked-passes, acted, perform-case}
use Rattle.lists.specs.Library.{own, lent_ok}
use Rattle.rows_lookup.specs.Answer.{answered}
use Rattle.row_address.specs.V4.{optional_of}
use Rattle.state.specs.Represents.{Represents, represents, holds-decode}
use Rattle.state.specs.Stored.{formed-represents}
use Rattle.call_read.specs.Answer.{Says, Writes, Numbers, found_number, rows_in, valuing, nothing, flag, optional, refused_by}

-- ---- the answers of checks
-- a row handed over, as a request: it is refused where it doesn't fit
pub handed : {A : Type 0} (o : Chosen A) {r : Answer A Refusal} {b : Bool} → r ≡ ok_or o Malformed → is_some o ≡ b → Refuses r (cond b 0 201)
handed {A} o e f = rw (e, ← f) (go o)
  where
    go : (o : Chosen A) → Refuses (ok_or o Malformed) (cond (is_some o) 0 201)
    go (Some x) = refl
    go None = (refl, λ z. omega arith)

-- and so is the call, as of a row that was looked at with the state
pub row-request : {A : Type 0} (r : Answer A Refusal) (row : Bool) (w : List ℕ) → Refuses r (checked (record { buffers = true; row = true; request = cond row 0 201 }) w)
    → Refuses r (checked (record { buffers = true; row = row; request = 0 }) w)
row-request r row w h = subst (Refuses r) (go (eqb (length w) state_size && true) (formed w) row) h
  where
    go : (a b c : Bool) → ◌≡◌ {A = ℕ} (cond a (cond (b && true) (cond c 0 201) 201) 200) (cond a (cond (b && c) 0 201) 200)
    go true true true = refl
    go true true false = refl
    go true false c = refl
    go false b c = refl

module _ {A : Type 0} {r : Answer A Refusal} {n : ℕ} (h : Refuses r n) where
  -- one that passed has no number, one that refuses has its own
  pub passes_none : {a : A} → r ≡ Ok a → n ≡ 0
  passes_none {a} e = subst (λ (x : Answer A Refusal). Refuses x n) e h

  pub refuses_some : {e : Refusal} → r ≡ Err e → (number_of e ≡ n) × (n ≢ 0)
  refuses_some {e} f = subst (λ (x : Answer A Refusal). Refuses x n) f h

-- what the exit of a `?` returns
pub exit : {A : Type 0} {t : Answer A Refusal} {e : Refusal} → IsErrAnd t (λ x. x ≡ e) → t ≡ Err e
exit {t = t} h = let y = err_from_is_err_and t h in y.1 ∙ ap Err y.2

-- what passes a test
pub unless-went : (b : Bool) (e : Refusal) {r : Answer (Unit {0}) Refusal} {a : Unit {0}} → r ≡ Ok a → r ≡ unless b e → b ≡ true
unless-went true e f g = refl
unless-went false e {a = a} f g = let h : Ok a ≡ Err e = sym f ∙ g in cc

-- the first check: the words are as many as a state's
pub state-long : (n : ℕ) (b : Bool) (e : Refusal) {r : Answer (Unit {0}) Refusal} {a : Unit {0}} → r ≡ Ok a → r ≡ unless (eqb n state_size && b) e → n ≡ state_size
state-long n b e f g = eqb-true n state_size (and_left (eqb n state_size) b (unless-went (eqb n state_size && b) e f g))

-- the second: the first words hold a state
pub formed-held : (w : List ℕ) (e : Refusal) {r : Answer (Unit {0}) Refusal} {a : Unit {0}} → length w ≡ state_size → r ≡ Ok a → r ≡ unless (formed w) e → represents (base w) ≡ true
formed-held w e l f g = formed-represents (base w) (base-long w l) (and_left (well_formed (base w)) (counts_true w) (unless-went (formed w) e f g))

-- a request behind both
pub passing : {A : Type 0} (r : Answer A Refusal) (w : List ℕ) → length w ≡ state_size → represents (base w) ≡ true
    → IfOk r (λ a. (length w ≡ state_size) × (represents (base w) ≡ true) × (r ≡ Ok a))
passing (Ok a) w l h = (l, h, refl)
passing (Err e) w l h = tt

-- what passing them tells: the first words hold the state
pub record Passed (k : Checks) (w : List ℕ) : Type 0 where
  pub zero : checked k w ≡ 0
  pub long : length w ≡ state_size
  pub well : Held w
  pub room : k.buffers ≡ true
  pub handed : k.row ≡ true
  pub fit : k.request ≡ 0
  pub good : Admissible (state_of w)
  pub holds : Represents (base w) (state_of w)

pub passed : {A : Type 0} (k : Checks) (w : List ℕ) {r : Answer A Refusal} {a : A} → Refuses r (checked k w) → r ≡ Ok a → Passed k w
passed k w c e =
    let z = passes_none c e in
    let h = checked-held k w z in
    let p = checked-passes k w z in
    record {
      zero = z;
      long = h.long;
      well = h;
      room = p.room;
      handed = p.handed;
      fit = p.fit;
      good = good-held w h;
      holds = holds-decode (base w) (base-long w h.long) h.well;
    }

module _ {k : Checks} {w : List ℕ} (p : Passed k w) where
  -- as many as are lent
  pub lent : length (base w) ≡ base_size
  lent = base-long w p.long

  -- words that are those
  pub held : {x : List ℕ} → x ≡ base w → Represents x (state_of w)
  held e = rw e p.holds

-- ---- a call that is refused by its checks, and one that passes them
module _ (s : Semantics) (w : List ℕ) where
  pub call-refused : {n : ℕ} → n ≡ checked s.checks w → (n ≡ 0 → ⊥) → perform s w ≡ refuses n w
  call-refused {n} c h =
      perform-case (λ (r : Result). r ≡ refuses n w) w s (λ z. absurd (h (c ∙ z))) (λ m e z. ap (λ (i : ℕ). refuses i w) (e ∙ sym c))

  pub call-passed : Passed s.checks w → perform s w ≡ acted s.action w
  call-passed p =
      perform-case (λ (r : Result). r ≡ acted s.action w) w s (λ z. refl) (λ m e z. absurd (eqb-false m 0 z (e ∙ p.zero)))

-- what holds of a refusal and of an answer holds of a reading call's reply: a refusal has a number, and words that are not refused hold a good state
pub reads : (P : Reply → Type 0) (k : Checks) (f : State → Reply) (w : List ℕ) → ((n : ℕ) → (n ≡ 0 → ⊥) → P (refusal n))
    → (Admissible (state_of w) → P (f (state_of w))) → P (reading k f w).reply
unfolding reading
reads P k f w refuses answers =
    let n = checked k w in
    cond-case P (eqb n 0) (λ e. answers (good-held w (checked-held k w (eqb-true n 0 e)))) (λ e. refuses n (eqb-false n 0 e))

-- ---- the answer to a reply is the answer to an equal one
module _ {A : Type 0} {by : A → Numbers} {x y : Reply} {r : Answer A Refusal} (e : x ≡ y) where
  says_as : Says by y r → Says by x r
  says_as s = subst (λ (z : Reply). Says by z r) (sym e) s

  writes_as : {b b' : List ℕ} → Writes by y b b' r → Writes by x b b' r
  writes_as {b} {b'} s = subst (λ (z : Reply). Writes by z b b' r) (sym e) s

-- a refusal by the number of a reply
pub says-refusal : {A : Type 0} {by : A → Numbers} {e : Refusal} {n : ℕ} → (number_of e ≡ n) × (n ≢ 0) → Says {A = A} by (refusal n) (Err e)
says-refusal h = record { refuses = h; says = ap refused_by h.0 }

module _ {A : Type 0} {by : A → Numbers} (s : Semantics) (w : List ℕ) where
  -- a refusal by the checks
  pub says-refused : {B : Type 0} {r : Answer B Refusal} {t : Answer A Refusal} {e : Refusal} → Refuses r (checked s.checks w) → r ≡ Err e → IsErrAnd t (λ x. x ≡ e)
      → Says by (perform s w).reply t
  says-refused {e = e} c f x =
      let h = refuses_some c f in
      let said = says_as (ap (λ (z : Result). z.reply) (call-refused s w refl h.1)) (says-refusal {A = A} {by = by} {e = e} h) in
      subst (λ (y : Answer A Refusal). Says by (perform s w).reply y) (sym (exit x)) said

  -- it writes nothing
  pub writes_refused : {B : Type 0} {r : Answer B Refusal} {t : Answer A Refusal} {e : Refusal} (b : List ℕ) → Refuses r (checked s.checks w) → r ≡ Err e → IsErrAnd t (λ x. x ≡ e)
      → Writes by (perform s w).reply b b t
  writes_refused {e = e} b c f x =
      let h = refuses_some c f in
      let said : Says by (refusal (checked s.checks w)) (Err e) = says-refusal {A = A} {by = by} {e = e} h in
      let all = writes_as (ap (λ (z : Result). z.reply) (call-refused s w refl h.1)) (record { refuses = said.refuses; says = said.says; rows = put-no-rows b }) in
      subst (λ (y : Answer A Refusal). Writes by (perform s w).reply b b y) (sym (exit x)) all

  module _ {r : Answer A Refusal} (p : Passed s.checks w) where
    pub says-passed : Says by (acted s.action w).reply r → Says by (perform s w).reply r
    says-passed t = says_as (ap (λ (z : Result). z.reply) (call-passed s w p)) t

    pub writes_passed : {b b' : List ℕ} → Writes by (acted s.action w).reply b b' r → Writes by (perform s w).reply b b' r
    writes_passed t = writes_as (ap (λ (z : Result). z.reply) (call-passed s w p)) t

-- ---- the answers of each kind
pub flag-answer : (b c : Bool) → b ≡ c → Says flag (valued (cond c 1 0)) (Ok b)
flag-answer b c e = record { refuses = refl; says = ap flag e }

pub valuing-answer : (a v : ℕ) → a ≡ v → Says valuing (valued v) (Ok a)
valuing-answer a v e = record { refuses = refl; says = ap valuing e }

-- a value beside its mark
pub own-present : (mark v : ℕ) {o : Chosen ℕ} → o ≡ optional_of mark v → own o ≡ present mark v
own-present mark v {o} e = ap own e ∙ cond-case (λ (d : Option ℕ). own (optional_of mark v) ≡ d) (eqb mark 1) (λ t. rw t) (λ t. rw t)

pub optional-answer : (r : Chosen ℕ) {o : Option ℕ} → own r ≡ o → Says optional (optionally o) (Ok r)
optional-answer None e = rw (← e) (record { refuses = refl; says = refl })
optional-answer (Some v) e = rw (← e) (record { refuses = refl; says = refl })

pub listed_answer : (l : List Row) {n : ℕ} {b b' : List ℕ} → n ≡ length l → b' ≡ put 0 (flat l) b → Writes valuing (written l) b b' (Ok n)
listed_answer l e f = record { refuses = refl; says = ap valuing e; rows = f }

-- ---- lookups: of any flow
abbrev pub looking : List ℕ → ℕ → Lookup.Flow → Semantics
looking row request f = finding (length row) request (λ st. lookup_in st f)

look_answer : (x : Lookup.Found) (r : Answer (Unit {0}) Refusal) → Refuses r (found_number x) → Says nothing (found_row x) r
look_answer (Lookup.route row) (Ok u) h = record { refuses = h; says = refl }
look_answer (Lookup.route row) (Err e) h = absurd (h.1 refl)
look_answer (Lookup.no_route n) (Ok u) h = record { refuses = h; says = rw h }
look_answer (Lookup.no_route n) (Err e) h = says-refusal h

found_rows : (x : Lookup.Found) → rows_in x ≡ (found_row x).rows
found_rows (Lookup.route r) = refl
found_rows (Lookup.no_route n) = refl

module _ (w row : List ℕ) (request : ℕ) (f : Lookup.Flow) where
  pub look-yes : {r : Answer (Unit {0}) Refusal} {row' : List ℕ} → Passed (looking row request f).checks w → Refuses r (found_number (lookup_in (state_of w) f))
      → row' ≡ put 0 (flat (rows_in (lookup_in (state_of w) f))) row → Writes nothing (perform (looking row request f) w).reply row row' r
  look-yes {r} p h g =
      let x = lookup_in (state_of w) f in
      let t = look_answer x r h in
      writes_passed (looking row request f) w p
      (record { refuses = t.refuses; says = t.says; rows = g ∙ ap (λ (l : List Row). put 0 (flat l) row) (found_rows x) })

-- what a lookup found, by its answer
pub found : {a : Answer (Bor Row) Refusal} {r : Bor Row} (x : Lookup.Found) → lent_ok a ≡ answered x → a ≡ Ok r → Lookup.route r.now ≡ x
found {r = r} (Lookup.route p) e k = let same : ◌≡◌ {A = Answer Row Refusal} (Ok r.now) (Ok p) = rw k at e in ap Lookup.route (let is : r.now ≡ p = cc in is)
found {r = r} (Lookup.no_route n) e k = let bad : ◌≡◌ {A = Answer Row Refusal} (Ok r.now) (Err (Errno n)) = rw k at e in cc

pub missed : {a : Answer (Bor Row) Refusal} {m : Refusal} (x : Lookup.Found) → lent_ok a ≡ answered x → a ≡ Err m → Lookup.no_route (number_of m) ≡ x
missed {m = m} (Lookup.route p) e k = let bad : ◌≡◌ {A = Answer Row Refusal} (Err m) (Ok p) = rw k at e in cc
missed {m = m} (Lookup.no_route n) e k =
    let same : ◌≡◌ {A = Answer Row Refusal} (Err m) (Err (Errno n)) = rw k at e in
    let is : m ≡ Errno n = cc in
    ap (λ (y : Refusal). Lookup.no_route (number_of y)) is

-- a row that is found stands in the buffer; a refusal writes nothing
module _ (st : State) (f : Lookup.Flow) (row : List ℕ) where
  pub row-found : {r : Row} → Lookup.route r ≡ lookup_in st f → put 0 r row ≡ put 0 (flat (rows_in (lookup_in st f))) row
  unfolding flat
  row-found {r} e = ap (λ (x : List ℕ). put 0 x row) (sym (append-nil r)) ∙ ap (λ (x : Lookup.Found). put 0 (flat (rows_in x)) row) e

  pub no-row : {n : ℕ} → Lookup.no_route n ≡ lookup_in st f → row ≡ put 0 (flat (rows_in (lookup_in st f))) row
  no-row e = put-no-rows row ∙ ap (λ (x : Lookup.Found). put 0 (flat (rows_in x)) row) e

  pub no-row-number : {n : ℕ} → Lookup.no_route n ≡ lookup_in st f → (n ≡ found_number (lookup_in st f)) × (found_number (lookup_in st f) ≢ 0)
  no-row-number {n} e =
      let number : n ≡ found_number (lookup_in st f) = ap found_number e in
      (number, λ z. omega (arith, number, z, (subst OfFound (sym e) (lookup-number st f)).positive))
