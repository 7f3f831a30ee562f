-- Every call by the number that the list of answers gives it (host/README.md, "The list of answers"), and what making it does.
use Rattle.std.specs.Prelude.{ℕ, ◌+◌, ◌*◌, ◌≡◌, Bool, cond, List, eqb, leb, Ok, Err, is_ok}
use Rattle.std.specs.Prelude.{Result as Answer}
use Rattle.lists.specs.Lists.{Row, flat, put}
use Rattle.layout.specs.Request.{add_v4_size, del_v4_size, add_route4_size, del_route4_size}
use Rattle.definition.specs.Call.{Call}
use Rattle.definition.specs.Step.{unfit, Result, step, left_call}
use Rattle.call_mask.specs.Masked.{add_v4_mask_call, del_v4_mask_call}
use Rattle.call_reply.specs.declared.Reply.{Reply}
use Rattle.call_dispatch.specs.declared.numbered.Call.{Call as Named}
use Rattle.call_dispatch.specs.declared.numbered.Call.TheVariants.{Up, Down, AddV4, DelV4, Expire, AddRoute4, DelRoute4, Dump4, Lookup4, Lookup4Flow, Local4, Source4, Source, Select4, Left, AddV4Mask, DelV4Mask}
use Rattle.call_dispatch.specs.declared.numbered.UnknownCall.{UnknownCall}
use Rattle.call_reply.specs.Answer.{reply_of}

-- a clock, or an allowance, of its low and its high word
abbrev pub clock_of : ℕ → ℕ → ℕ
clock_of low high = low + high * 4294967296

-- ---- 1 to 7 change the state
-- the call by its request, the clock, the allowance and the length of the event buffer; how many words its request has; and the number
-- and value with which it has left every word and emitted nothing
pub record Change : Type 0 where
  pub call : Row → ℕ → ℕ → ℕ → Call
  pub size : ℕ
  pub still : ℕ → ℕ → Bool

abbrev refused : ℕ → ℕ → Bool
refused number value = leb 1 number

abbrev pub up_at : Change
up_at = record { call = λ q clock allowance room. Call.up room clock; size = 0; still = refused }

abbrev pub down_at : Change
down_at = record { call = λ q clock allowance room. Call.down room; size = 0; still = refused }

abbrev pub add_v4_at : Change
add_v4_at = record { call = λ q clock allowance room. Call.add_v4 q room clock; size = add_v4_size; still = refused }

abbrev pub del_v4_at : Change
del_v4_at = record { call = λ q clock allowance room. Call.del_v4 q room; size = del_v4_size; still = refused }

abbrev pub expire_at : Change
expire_at = record { call = λ q clock allowance room. Call.expire room clock allowance; size = 0; still = λ number value. eqb value 0 }

-- a refusal by the reference may have listed the table
abbrev pub add_route4_at : Change
add_route4_at = record { call = λ q clock allowance room. Call.add_route4 q room; size = add_route4_size; still = λ number value. unfit number }

abbrev pub del_route4_at : Change
del_route4_at = record { call = λ q clock allowance room. Call.del_route4 q room; size = del_route4_size; still = refused }

abbrev pub change_at : ℕ → Change
change_at code =
    cond (eqb code 1) up_at
    (cond (eqb code 2) down_at
    (cond (eqb code 3) add_v4_at
    (cond (eqb code 4) del_v4_at
    (cond (eqb code 5) expire_at
    (cond (eqb code 6) add_route4_at del_route4_at)))))

-- ---- 9 and 10 find a row, 11 to 14 ask: with three numbers, and the length of the row's buffer or the row handed over
abbrev pub find_at : ℕ → ℕ → ℕ → ℕ → ℕ → Call
find_at code room a b c = cond (eqb code 9) (Call.lookup4 room a) (Call.lookup4_flow room a b c)

abbrev pub ask_at : ℕ → Row → ℕ → ℕ → ℕ → Call
ask_at code row a b c =
    cond (eqb code 11) (Call.local4 a)
    (cond (eqb code 12) (Call.source4 row a)
    (cond (eqb code 13) (Call.source a) (Call.select4 a b c)))

-- ---- 19 and 20 are 3 and 4 with a netmask in place of the prefix, which are no Call: on the state's words
abbrev pub masked_at : ℕ → Row → ℕ → ℕ → List ℕ → Result
masked_at code q clock room w = cond (eqb code 19) (add_v4_mask_call q room clock w) (del_v4_mask_call q room w)

-- ---- all, on the state's words: 8 lists the routes, 15 is left, which doesn't see them
unfoldable pub call_by : ℕ → Row → ℕ → ℕ → ℕ → ℕ → ℕ → List ℕ → Result
call_by code lent a b c d room w =
    cond (leb code 7) (step ((change_at code).call lent (clock_of a b) (clock_of c d) room) w)
    (cond (eqb code 8) (step (Call.dump4 room) w)
    (cond (leb code 10) (step (find_at code room a b c) w)
    (cond (leb code 14) (step (ask_at code lent a b c) w)
    (cond (eqb code 15) (record { reply = left_call lent (clock_of a b); words = w })
    (masked_at code lent (clock_of a b) room w)))))

-- ---- the calls that have a number
abbrev pub code_of : Named → ℕ
code_of Up = 1
code_of Down = 2
code_of AddV4 = 3
code_of DelV4 = 4
code_of Expire = 5
code_of AddRoute4 = 6
code_of DelRoute4 = 7
code_of Dump4 = 8
code_of Lookup4 = 9
code_of Lookup4Flow = 10
code_of Local4 = 11
code_of Source4 = 12
code_of Source = 13
code_of Select4 = 14
code_of Left = 15
code_of AddV4Mask = 19
code_of DelV4Mask = 20

unfoldable pub call_of : ℕ → Answer Named UnknownCall
call_of c =
    cond (eqb c 1) (Ok Up)
    (cond (eqb c 2) (Ok Down)
    (cond (eqb c 3) (Ok AddV4)
    (cond (eqb c 4) (Ok DelV4)
    (cond (eqb c 5) (Ok Expire)
    (cond (eqb c 6) (Ok AddRoute4)
    (cond (eqb c 7) (Ok DelRoute4)
    (cond (eqb c 8) (Ok Dump4)
    (cond (eqb c 9) (Ok Lookup4)
    (cond (eqb c 10) (Ok Lookup4Flow)
    (cond (eqb c 11) (Ok Local4)
    (cond (eqb c 12) (Ok Source4)
    (cond (eqb c 13) (Ok Source)
    (cond (eqb c 14) (Ok Select4)
    (cond (eqb c 15) (Ok Left)
    (cond (eqb c 19) (Ok AddV4Mask)
    (cond (eqb c 20) (Ok DelV4Mask)
    (Err (record { 0 = c }))))))))))))))))))

abbrev pub is_call : ℕ → Bool
is_call c = is_ok (call_of c)

-- a call with this result was made on the buffer b: its reply, the state's words and the buffer afterwards
pub record Did (x : Result) (b : List ℕ) (r : Reply) (w' b' : List ℕ) : Type 0 where
  pub answer : r ≡ reply_of x.reply
  pub words : w' ≡ x.words
  pub buffer : b' ≡ put 0 (flat x.reply.rows) b
