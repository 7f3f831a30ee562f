-- Every call of a run can be made by `call_dispatch::call`, and the contract of that function is then Made (definition, Public).
-- Assumes nothing.
use Rattle.std.specs.Prelude.{ℕ, ◌/◌, ◌%◌, ◌≡◌, refl, List, [], length}
use Rattle.std.proofs.Common.{arith, ap, ap₂, ◌∙◌}
use Rattle.lists.specs.Lists.{Row, flat, put}
use Rattle.definition.specs.Call.{Call, numbers}
use Rattle.definition.specs.Step.{Result, semantics, step}
use Rattle.definition.specs.Noninterference.Public.{Lent, Made}
use Rattle.call_reply.specs.declared.Reply.{Reply}
use Rattle.call_reply.specs.Answer.{numbers_in}
use Rattle.call_dispatch.specs.Numbered.{clock_of, call_by, Did}

-- the number of a call, and what it is handed besides the state and the buffer
pub record Handed : Type 0 where
  pub code : ℕ
  pub lent : Row
  pub a : ℕ
  pub b : ℕ
  pub c : ℕ
  pub d : ℕ

abbrev pub low : ℕ → ℕ
low t = t % 4294967296

abbrev pub high : ℕ → ℕ
high t = t / 4294967296

abbrev pub handed : Call → Handed
handed (Call.up events now) = record { code = 1; lent = []; a = low now; b = high now; c = 0; d = 0 }
handed (Call.down events) = record { code = 2; lent = []; a = 0; b = 0; c = 0; d = 0 }
handed (Call.add_v4 q events now) = record { code = 3; lent = q; a = low now; b = high now; c = 0; d = 0 }
handed (Call.del_v4 q events) = record { code = 4; lent = q; a = 0; b = 0; c = 0; d = 0 }
handed (Call.expire events now allowance) = record { code = 5; lent = []; a = low now; b = high now; c = low allowance; d = high allowance }
handed (Call.add_route4 q events) = record { code = 6; lent = q; a = 0; b = 0; c = 0; d = 0 }
handed (Call.del_route4 q events) = record { code = 7; lent = q; a = 0; b = 0; c = 0; d = 0 }
handed (Call.dump4 room) = record { code = 8; lent = []; a = 0; b = 0; c = 0; d = 0 }
handed (Call.lookup4 room ip) = record { code = 9; lent = []; a = ip; b = 0; c = 0; d = 0 }
handed (Call.lookup4_flow room ip tos oif) = record { code = 10; lent = []; a = ip; b = tos; c = oif; d = 0 }
handed (Call.local4 ip) = record { code = 11; lent = []; a = ip; b = 0; c = 0; d = 0 }
handed (Call.source4 row ip) = record { code = 12; lent = row; a = ip; b = 0; c = 0; d = 0 }
handed (Call.source ip) = record { code = 13; lent = []; a = ip; b = 0; c = 0; d = 0 }
handed (Call.select4 dstPresent dst scope) = record { code = 14; lent = []; a = dstPresent; b = dst; c = scope; d = 0 }

abbrev pub by : Handed → ℕ → List ℕ → Result
by h room w = call_by h.code h.lent h.a h.b h.c h.d room w

clock-back : (t : ℕ) → clock_of (low t) (high t) ≡ t
clock-back t = omega arith

pub by-step : (c : Call) (w b : List ℕ) → Lent (semantics c).lent b → by (handed c) (length b) w ≡ step c w
unfolding call_by
by-step (Call.up events now) w b h = ap₂ (λ (e t : ℕ). step (Call.up e t) w) h (clock-back now)
by-step (Call.down events) w b h = ap (λ (e : ℕ). step (Call.down e) w) h
by-step (Call.add_v4 q events now) w b h = ap₂ (λ (e t : ℕ). step (Call.add_v4 q e t) w) h (clock-back now)
by-step (Call.del_v4 q events) w b h = ap (λ (e : ℕ). step (Call.del_v4 q e) w) h
by-step (Call.expire events now allowance) w b h =
    ap₂ (λ (e t : ℕ). step (Call.expire e t (clock_of (low allowance) (high allowance))) w) h (clock-back now)
    ∙ ap (λ (t : ℕ). step (Call.expire events now t) w) (clock-back allowance)
by-step (Call.add_route4 q events) w b h = ap (λ (e : ℕ). step (Call.add_route4 q e) w) h
by-step (Call.del_route4 q events) w b h = ap (λ (e : ℕ). step (Call.del_route4 q e) w) h
by-step (Call.dump4 room) w b h = ap (λ (e : ℕ). step (Call.dump4 e) w) h
by-step (Call.lookup4 room ip) w b h = ap (λ (e : ℕ). step (Call.lookup4 e ip) w) h
by-step (Call.lookup4_flow room ip tos oif) w b h = ap (λ (e : ℕ). step (Call.lookup4_flow e ip tos oif) w) h
by-step (Call.local4 ip) w b h = refl
by-step (Call.source4 row ip) w b h = refl
by-step (Call.source ip) w b h = refl
by-step (Call.select4 dstPresent dst scope) w b h = refl

-- what `call` ensures is what Made says
pub did_made : (c : Call) (w b : List ℕ) (r : Reply) (w' b' : List ℕ) → Lent (semantics c).lent b
    → Did (by (handed c) (length b) w) b r w' b' → Made c w b (numbers_in r) w' b'
did_made c w b r w' b' h d =
    let e = by-step c w b h in
    record {
      lent = h;
      reply = ap numbers_in d.answer ∙ ap (λ (x : Result). numbers x.reply) e;
      words = d.words ∙ ap (λ (x : Result). x.words) e;
      buffer = d.buffer ∙ ap (λ (x : Result). put 0 (flat x.reply.rows) b) e;
    }
