-- Every call under its number: of what kind it is, what it emits, and what making it does.
-- Assumes nothing.
use Rattle.std.specs.Prelude.{ℕ, ◌<◌, ◌≡◌, refl, true, false, eqb, List, [], ◌∷◌, length, Ok, Err, IfOk}
use Rattle.std.specs.Prelude.{Result as Answer}
use Rattle.std.proofs.Common.{arith, sym, ap, subst, ◌∙◌, eqb-true}
use Rattle.lists.specs.Lists.{Row, flat, put}
use Rattle.lists.specs.Bools.{cond-case}
use Rattle.lists.specs.Put.{put-no-rows}
use Rattle.refusal.specs.declared.Refusal.{Refusal}
use Rattle.layout.specs.Address.{fit_address}
use Rattle.definition.specs.Call.{Call, Reply, Numbers, numbers}
use Rattle.definition.specs.Step.{Buffer, unlent, for_events, for_row, alters, semantics, step, dump4_call, left_call}
use Rattle.definition.proofs.Preservation.Step.{perform-reads}
use Rattle.definition.specs.Noninterference.Public.{Lent, Made, many}
use Rattle.definition.proofs.Noninterference.ReadBack.{shaped}
use Rattle.call_read.specs.Answer.{Says, Writes, answer_by, valuing}
use Rattle.call_read.specs.Listing.{dump4-lists, count-small}
use Rattle.call_change.specs.Answer.{Answers}
use Rattle.call_change.specs.Emitted.{emitted, count-fits}
use Rattle.call_reply.specs.declared.Reply as Rep
use Rattle.call_reply.specs.Answer.{reply_from, reply_of, numbers_in}
use Rattle.call_dispatch.specs.declared.numbered.Call.{Call as Named}
use Rattle.call_dispatch.specs.declared.numbered.UnknownCall.{UnknownCall}
use Rattle.call_dispatch.specs.Numbered.{code_of, call_of, Change, up_at, down_at, add_v4_at, del_v4_at, expire_at, add_route4_at, del_route4_at, change_at, find_at, ask_at, Did}

-- ---- the calls that change
-- what holds of each holds of the one with a number
pub change-case : (P : Change → Type 0) → P up_at → P down_at → P add_v4_at → P del_v4_at → P expire_at → P add_route4_at → P del_route4_at
    → (code : ℕ) → P (change_at code)
change-case P up down add_v4 del_v4 expire add_route4 del_route4 code =
    cond-case P (eqb code 1) (λ e. up) (λ e.
    cond-case P (eqb code 2) (λ e. down) (λ e.
    cond-case P (eqb code 3) (λ e. add_v4) (λ e.
    cond-case P (eqb code 4) (λ e. del_v4) (λ e.
    cond-case P (eqb code 5) (λ e. expire) (λ e.
    cond-case P (eqb code 6) (λ e. add_route4) (λ e. del_route4))))))

pub record Changes (c : Call) (room : ℕ) : Type 0 where
  pub changes : alters (semantics c).action ≡ true
  pub buffer : (semantics c).lent ≡ for_events room

pub change-is : (code : ℕ) (q : Row) (clock allowance room : ℕ) → Changes ((change_at code).call q clock allowance room) room
change-is code q clock allowance room =
    change-case (λ (x : Change). Changes (x.call q clock allowance room) room)
    (record { changes = refl; buffer = refl })
    (record { changes = refl; buffer = refl })
    (record { changes = refl; buffer = refl })
    (record { changes = refl; buffer = refl })
    (record { changes = refl; buffer = refl })
    (record { changes = refl; buffer = refl })
    (record { changes = refl; buffer = refl })
    code

-- by what its own contract says
module _ (c : Call) (w : List ℕ) {w' ev ev' : List ℕ} {d : Answer ℕ Refusal} (x : Answers (step c w) w' ev ev' d) (t : alters (semantics c).action ≡ true) where
  pub rows-fit : IfOk d (λ n. n < 4294967296)
  rows-fit = count-fits d x.says (emitted c w t)

  pub change-made : {r : Rep.Reply} → Lent (semantics c).lent ev → r ≡ reply_from (answer_by valuing d) → Made c w ev (numbers_in r) w' ev'
  change-made l a = record { lent = l; reply = ap numbers_in (a ∙ ap reply_from x.says); words = x.words; buffer = x.events }

  pub change-did : {r : Rep.Reply} → r ≡ reply_from (answer_by valuing d) → Did (step c w) ev r w' ev'
  change-did a = record { answer = a ∙ ap reply_from x.says; words = x.words; buffer = x.events }

-- ---- the calls that read
pub record Reads (c : Call) (k : Buffer) : Type 0 where
  pub reads : alters (semantics c).action ≡ false
  pub buffer : (semantics c).lent ≡ k

pub find_is : (code room a b c : ℕ) → Reads (find_at code room a b c) (for_row room)
find_is code room a b c =
    cond-case (λ (x : Call). Reads x (for_row room)) (eqb code 9) (λ e. record { reads = refl; buffer = refl }) (λ e. record { reads = refl; buffer = refl })

pub ask_is : (code : ℕ) (row : Row) (a b c : ℕ) → Reads (ask_at code row a b c) unlent
ask_is code row a b c =
    cond-case (λ (x : Call). Reads x unlent) (eqb code 11) (λ e. record { reads = refl; buffer = refl }) (λ e.
    cond-case (λ (x : Call). Reads x unlent) (eqb code 12) (λ e. record { reads = refl; buffer = refl }) (λ e.
    cond-case (λ (x : Call). Reads x unlent) (eqb code 13) (λ e. record { reads = refl; buffer = refl }) (λ e. record { reads = refl; buffer = refl })))

no_rows : (rows : List Row) → 0 ≡ length rows → rows ≡ []
no_rows [] h = refl
no_rows (x ∷ l) h = absurd (omega arith)

-- one that is lent no buffer writes no row
pub quiet : (c : Call) (w : List ℕ) → (semantics c).lent ≡ unlent → (step c w).reply.rows ≡ []
quiet c w e = no_rows (step c w).reply.rows (sym (ap (λ (k : Buffer). many k (numbers (step c w).reply)) e) ∙ (shaped c w).counts)

-- one that finds or lists, and one that asks, by what its own contract says
module _ {A : Type 0} {by : A → Numbers} (c : Call) (w : List ℕ) {d : Answer A Refusal} {r : Rep.Reply} (a : r ≡ reply_from (answer_by by d)) where
  pub find-made : {k : Buffer} {b b' : List ℕ} → Reads c k → Lent k b → Writes by (step c w).reply b b' d → Made c w b (numbers_in r) w b'
  find-made {b = b} x l v =
      record {
        lent = subst (λ (m : Buffer). Lent m b) (sym x.buffer) l;
        reply = ap numbers_in (a ∙ ap reply_from v.says);
        words = sym (perform-reads (semantics c) w x.reads);
        buffer = v.rows;
      }

  pub ask-made : Reads c unlent → Says by (step c w).reply d → Made c w [] (numbers_in r) w []
  ask-made x v =
      record {
        lent = subst (λ (m : Buffer). Lent m []) (sym x.buffer) tt;
        reply = ap numbers_in (a ∙ ap reply_from v.says);
        words = sym (perform-reads (semantics c) w x.reads);
        buffer = put-no-rows [] ∙ ap (λ (l : List Row). put 0 (flat l) []) (sym (quiet c w x.buffer));
      }

-- the rows of a listing are few
pub list-fits : (w : List ℕ) (room : ℕ) (d : Answer ℕ Refusal) → answer_by valuing d ≡ numbers (dump4_call room w).reply → IfOk d (λ n. n < 4294967296)
list-fits w room (Ok n) e = count-small e (dump4-lists w room)
list-fits w room (Err x) e = tt

left-quiet : (row : Row) (clock : ℕ) → (left_call row clock).rows ≡ []
unfolding left_call
left-quiet row clock = cond-case (λ (r : Reply). r.rows ≡ []) (fit_address row) (λ e. refl) (λ e. refl)

-- ---- a call by its number
made_did : {c : Call} {w b w' b' : List ℕ} {r : Rep.Reply} → Made c w b (numbers_in r) w' b' → Did (step c w) b r w' b'
made_did m = record { answer = ap reply_from m.reply; words = m.words; buffer = m.buffer }

-- ---- as a call by its number: one that was made, and one that is lent no buffer
pub made-did : {c : Call} {w b w' b' : List ℕ} {r : Rep.Reply} → Made c w b (numbers_in r) w' b' → Did (step c w) b r w' b'
made-did m = record { answer = ap reply_from m.reply; words = m.words; buffer = m.buffer }

pub asked-did : {c : Call} {w b : List ℕ} {r : Rep.Reply} → (semantics c).lent ≡ unlent → Made c w [] (numbers_in r) w [] → Did (step c w) b r w b
asked-did {c} {w} {b} e m =
    record {
      answer = ap reply_from m.reply;
      words = m.words;
      buffer = put-no-rows b ∙ ap (λ (l : List Row). put 0 (flat l) b) (sym (quiet c w e));
    }

pub left-did : (row : Row) (clock : ℕ) (w b : List ℕ) {x : Reply} {t : ℕ} {r : Rep.Reply} → x ≡ left_call row t → t ≡ clock → r ≡ reply_of x
    → Did (record { reply = left_call row clock; words = w }) b r w b
left-did row clock w b e f s =
    record {
      answer = s ∙ ap reply_of (e ∙ ap (left_call row) f);
      words = refl;
      buffer = put-no-rows b ∙ ap (λ (z : List Row). put 0 (flat z) b) (sym (left-quiet row clock));
    }

-- ---- the call of a number has that number
own_code : (c : ℕ) → IfOk (call_of c) (λ x. code_of x ≡ c)
unfolding call_of
own_code c =
    let P : Answer Named UnknownCall → Type 0 = λ r. IfOk r (λ x. code_of x ≡ c) in
    cond-case P (eqb c 1) (λ e. sym (eqb-true c 1 e)) (λ e.
    cond-case P (eqb c 2) (λ e. sym (eqb-true c 2 e)) (λ e.
    cond-case P (eqb c 3) (λ e. sym (eqb-true c 3 e)) (λ e.
    cond-case P (eqb c 4) (λ e. sym (eqb-true c 4 e)) (λ e.
    cond-case P (eqb c 5) (λ e. sym (eqb-true c 5 e)) (λ e.
    cond-case P (eqb c 6) (λ e. sym (eqb-true c 6 e)) (λ e.
    cond-case P (eqb c 7) (λ e. sym (eqb-true c 7 e)) (λ e.
    cond-case P (eqb c 8) (λ e. sym (eqb-true c 8 e)) (λ e.
    cond-case P (eqb c 9) (λ e. sym (eqb-true c 9 e)) (λ e.
    cond-case P (eqb c 10) (λ e. sym (eqb-true c 10 e)) (λ e.
    cond-case P (eqb c 11) (λ e. sym (eqb-true c 11 e)) (λ e.
    cond-case P (eqb c 12) (λ e. sym (eqb-true c 12 e)) (λ e.
    cond-case P (eqb c 13) (λ e. sym (eqb-true c 13 e)) (λ e.
    cond-case P (eqb c 14) (λ e. sym (eqb-true c 14 e)) (λ e.
    cond-case P (eqb c 15) (λ e. sym (eqb-true c 15 e)) (λ e.
    cond-case P (eqb c 19) (λ e. sym (eqb-true c 19 e)) (λ e.
    cond-case P (eqb c 20) (λ e. sym (eqb-true c 20 e)) (λ e. tt)))))))))))))))))

pub coded : (c : ℕ) {x : Named} → call_of c ≡ Ok x → code_of x ≡ c
coded c h = subst (λ (r : Answer Named UnknownCall). IfOk r (λ y. code_of y ≡ c)) h (own_code c)
