-- What every call keeps, call by call: the one place where the laws of the reference meet the calls.
-- Assumes nothing.
use Rattle.std.specs.Prelude.{ℕ, ◌≡◌, refl, Bool, true, false, cond, ◌&&◌, ◌≢◌, ltb, length}
use Rattle.std.proofs.Math.Option.{Option, none, some}
use Rattle.std.proofs.Common.{arith, eqb-true}
use Rattle.lists.specs.Lists.{Row}
use Rattle.lists.specs.Bools.{and_left, and_right}
use Rattle.layout.specs.Address.{optional}
use Rattle.layout.specs.Route.{fit_route}
use Rattle.layout.specs.Request.{add_route4_size, fit_add_v4, valid_lifetimes, fit_del_v4, fit_add_route4, fit_del_route4}
use Rattle.definition.specs.State.{State, Out}
use Rattle.definition.specs.Call.{Call, Reply, refusal, valued, written, optionally, found_row}
use Rattle.definition.specs.Reference.Lookup.{Flow, Found, lookup4, lookup4_flow, flow_to, lookup_in}
use Rattle.definition.specs.Reference.Source.{source4, select4, present}
use Rattle.definition.specs.Reference.Addresses.{Outcome, up, down}
use Rattle.definition.specs.Reference.Removal.{expire}
use Rattle.definition.specs.Reference.Insert.{create4, Insertion, insert4}
use Rattle.definition.specs.Reference.Routes.{table_named, added_by}
use Rattle.definition.specs.Step.{Checks, Action, changes, replies, lists, Buffer, unlent, for_events, for_listing, for_row, Semantics, going, query, finding, unless, invalid, add_v4_refusal, events_fit, request_is, fit_expire, semantics, routed}
use Rattle.definition.specs.Preservation.Fit.{Invariant, fit-state}
use Rattle.definition.specs.Preservation.Routes.{insert_fit}
use Rattle.definition.specs.Preservation.Encode.{Admissible}
use Rattle.definition.specs.Preservation.Keeps.{Keeps, KeptOutcome}
use Rattle.definition.specs.Preservation.Addresses.{add_v4_keeps, up_keeps, down_keeps}
use Rattle.definition.specs.Preservation.Removal.{del_v4_keeps, expire_keeps}
use Rattle.definition.specs.Preservation.Requests.{del_route4_keeps, InsertsFit, added_keeps}
use Rattle.definition.proofs.Preservation.Numbers.{Numbered, OfFound, lookup-number, add_v4-number, del_v4-number, del_route4-number, Numbers, insert_number, added-number}
use Rattle.definition.specs.Preservation.Refused.{Leaves, add_v4-leaves, del_v4-leaves, del_route4-leaves, added-leaves}
use Rattle.definition.specs.Preservation.Emitted.{EventBound, EventBoundOutcome, up-event_bound, down-event_bound, add_v4-event_bound, del_v4-event_bound, expire-event_bound, del_route4-event_bound, added-event_bound}
use Rattle.definition.proofs.Preservation.Shape.{Shaped, listing-shaped, lookup-shaped, valued-shaped, optionally-shaped}

-- the checks are passed
pub record Passes (k : Checks) : Type 0 where
  pub room : k.buffers ≡ true
  pub handed : k.row ≡ true
  pub fit : k.request ≡ 0

-- an outcome: fit, emitted in few rows, refused with a number of the reference, and then the state is `later`
pub record Preserving (later : State) (o : Outcome) : Type 0 where
  pub kept : KeptOutcome o
  pub event_bound : EventBoundOutcome o
  pub numbered : Numbered o
  pub leaves : Leaves later o

-- a reply: with a number nothing else, and never for want of space
pub record Proper (r : Reply) : Type 0 where
  pub alone : r.number ≢ 0 → r ≡ refusal r.number
  pub spaced : r.number ≢ 203

-- ---- what all calls keep, on a good state, once the checks are passed
pub record Changes (k : Checks) (listed : State → State) (f : State → Outcome) : Type 0 where
  pub sound : (st : State) → Admissible st → Passes k → Preserving (listed st) (f st)

pub record Replies (f : State → Reply) : Type 0 where
  pub proper : (st : State) → Proper (f st)

abbrev pub Acts : Checks → Action → Type 0
Acts k (changes listed f) = Changes k listed f
Acts k (replies f) = Replies f
Acts k (lists f) = Unit {0}

-- a buffer for events that suffices
abbrev pub events_in : Buffer → Bool
events_in unlent = false
events_in (for_events room) = events_fit room
events_in (for_listing room) = false
events_in (for_row room) = false

-- what its rows need to be read back, once the checks are passed: a change has room for its events, any other reply has the buffer's
-- shape
abbrev pub Shapes : Checks → Buffer → Action → Type 0
Shapes k b (changes listed f) = k.buffers ≡ true → events_in b ≡ true
Shapes k b (replies f) = (st : State) → Admissible st → k.buffers ≡ true → Shaped b (f st)
Shapes k b (lists f) = (st : State) → Admissible st → k.buffers ≡ true → Shaped b (written (f st))

pub record Lawful (s : Semantics) : Type 0 where
  pub request : s.checks.request ≢ 203
  pub acts : Acts s.checks s.action
  pub shape : Shapes s.checks s.lent s.action

-- ---- helpers
abbrev fit : (st : State) → Admissible st → Invariant st
fit st g = fit-state st g.fits

none-asked : ◌≢◌ {A = ℕ} 0 203
none-asked e = omega arith

pub unless_202 : (b : Bool) → unless b 202 ≢ 203
unless_202 true e = omega arith
unless_202 false e = omega arith

-- a check that gives 0 is passed
pub unless-passed : (b : Bool) → unless b 202 ≡ 0 → b ≡ true
unless-passed true e = refl
unless-passed false e = absurd (omega arith)

-- of a request for an address
pub add_v4-refusal_203 : (q : Row) → add_v4_refusal q ≢ 203
add_v4-refusal_203 q = go (fit_add_v4 q) (valid_lifetimes q)
  where
    go : (fits lasts : Bool) → cond fits (unless lasts invalid) 202 ≢ 203
    go true true e = omega arith
    go true false e = omega arith
    go false lasts e = omega arith

pub add_v4-refusal-passed : (q : Row) → add_v4_refusal q ≡ 0 → fit_add_v4 q ≡ true
add_v4-refusal-passed q = go (fit_add_v4 q) (unless (valid_lifetimes q) invalid)
  where
    go : (fits : Bool) (n : ℕ) → cond fits n 202 ≡ 0 → fits ≡ true
    go true n e = refl
    go false n e = absurd (omega arith)

-- the request has its words
sized-request : (n events : ℕ) (q : Row) → request_is n q && events_fit events ≡ true → length q ≡ n
sized-request n events q h = eqb-true (length q) n (and_left (request_is n q) (events_fit events) h)

-- and the buffer its room
asked-room : (n events : ℕ) (q : Row) → request_is n q && events_fit events ≡ true → events_fit events ≡ true
asked-room n events q h = and_right (request_is n q) (events_fit events) h

-- a step that always goes on
going-lawful : (events request : ℕ) (f : State → Out) → request ≢ 203 → Keeps f → ((st : State) → Admissible st → EventBound (f st)) → Lawful (going events request f)
going-lawful events request f r k b =
    record {
      request = r;
      acts = record { sound = λ st g p. record { kept = k.kept st (fit st g); event_bound = b st g; numbered = tt; leaves = tt } };
      shape = λ h. h;
    }

-- a request to add a route, by some insertion
added-lawful : (insert : Insertion) → InsertsFit insert → Numbers insert → (q : Row) (events request : ℕ) → request ≢ 203 → (request ≡ 0 → fit_add_route4 q ≡ true)
    → Lawful (routed add_route4_size q events request (create4 (table_named q)) (added_by insert q))
added-lawful insert fits numbers q events request r passed =
    record {
      request = r;
      acts =
          record {
            sound = λ st g p.
                let fitted = passed p.fit in
                record {
                  kept = (added_keeps insert fits q (sized-request 34 events q p.room) fitted).kept st (fit st g);
                  event_bound = added-event_bound st g insert q;
                  numbered = added-number insert numbers q st fitted;
                  leaves = added-leaves insert q st;
                };
          };
      shape = asked-room 34 events q;
    }

found-proper : (f : Found) → OfFound f → Proper (found_row f)
found-proper (Found.route r) o = record { alone = λ h. absurd (h refl); spaced = none-asked }
found-proper (Found.no_route n) o = record { alone = λ h. refl; spaced = λ e. omega (arith, o.most) }

valued-proper : (v : ℕ) → Proper (valued v)
valued-proper v = record { alone = λ h. absurd (h refl); spaced = none-asked }

optionally-proper : (o : Option ℕ) → Proper (optionally o)
optionally-proper none = record { alone = λ h. absurd (h refl); spaced = none-asked }
optionally-proper (some v) = record { alone = λ h. absurd (h refl); spaced = none-asked }

-- a lookup; an answer in numbers alone
finding-lawful : (room request : ℕ) (f : Flow) → request ≢ 203 → Lawful (finding room request (λ st. lookup_in st f))
finding-lawful room request f r =
    record {
      request = r;
      acts = record { proper = λ st. found-proper (lookup_in st f) (lookup-number st f) };
      shape = λ st. lookup-shaped room st f;
    }

valued-lawful : (f : State → ℕ) → Lawful (query true 0 (λ st. valued (f st)))
valued-lawful f =
    record {
      request = none-asked;
      acts = record { proper = λ st. valued-proper (f st) };
      shape = λ st g h. valued-shaped (f st);
    }

optionally-lawful : (row : Bool) (request : ℕ) (f : State → Option ℕ) → request ≢ 203 → Lawful (query row request (λ st. optionally (f st)))
optionally-lawful row request f r =
    record {
      request = r;
      acts = record { proper = λ st. optionally-proper (f st) };
      shape = λ st g h. optionally-shaped (f st);
    }

-- ---- the calls
pub lawful : (c : Call) → Lawful (semantics c)
unfolding lookup4 lookup4_flow
lawful (Call.up events now) = going-lawful events 0 (up now) none-asked (up_keeps now) (λ st g. up-event_bound st g now)
lawful (Call.down events) = going-lawful events 0 down none-asked down_keeps (λ st g. down-event_bound st g)
lawful (Call.add_v4 q events now) =
    record {
      request = add_v4-refusal_203 q;
      acts =
          record {
            sound = λ st g p.
                let long = sized-request 18 events q p.room in
                let fitted = add_v4-refusal-passed q p.fit in
                record {
                  kept = (add_v4_keeps q now long fitted).kept st (fit st g);
                  event_bound = add_v4-event_bound st g q now long fitted;
                  numbered = add_v4-number q now st;
                  leaves = add_v4-leaves q now st;
                };
          };
      shape = asked-room 18 events q;
    }
lawful (Call.del_v4 q events) =
    record {
      request = unless_202 (fit_del_v4 q);
      acts = record { sound = λ st g p. record { kept = (del_v4_keeps q).kept st (fit st g); event_bound = del_v4-event_bound st g q; numbered = del_v4-number q st; leaves = del_v4-leaves q st } };
      shape = asked-room 11 events q;
    }
lawful (Call.expire events now allowance) =
    going-lawful events (unless (fit_expire now allowance) 202) (expire allowance now) (unless_202 (fit_expire now allowance)) (expire_keeps allowance now) (λ st g. expire-event_bound st g allowance now)
lawful (Call.add_route4 q events) =
    added-lawful insert4 insert_fit insert_number q events (unless (fit_add_route4 q) 202) (unless_202 (fit_add_route4 q)) (unless-passed (fit_add_route4 q))
lawful (Call.del_route4 q events) =
    record {
      request = unless_202 (fit_del_route4 q);
      acts = record { sound = λ st g p. record { kept = (del_route4_keeps q).kept st (fit st g); event_bound = del_route4-event_bound st g q; numbered = del_route4-number q st; leaves = del_route4-leaves q st } };
      shape = asked-room 49 events q;
    }
lawful (Call.dump4 room) = record { request = none-asked; acts = tt; shape = listing-shaped room }
lawful (Call.lookup4 rowRoom ip) = finding-lawful rowRoom 0 (flow_to ip) none-asked
lawful (Call.lookup4_flow rowRoom ip tos oif) = finding-lawful rowRoom (unless (ltb tos 256) 202) _ (unless_202 (ltb tos 256))
lawful (Call.local4 ip) = valued-lawful _
lawful (Call.source4 row ip) = optionally-lawful (fit_route row) 0 (λ st. source4 st.addresses row ip) none-asked
lawful (Call.source ip) = valued-lawful _
lawful (Call.select4 dstPresent dst scope) =
    let fits = optional dstPresent dst && ltb scope 256 in
    optionally-lawful true (unless fits 202) (λ st. select4 st.addresses (present dstPresent dst) scope) (unless_202 fits)
