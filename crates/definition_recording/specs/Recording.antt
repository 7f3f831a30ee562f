-- Route rows rebuilt from a recording of events, and two recordings held together (document 02, Paper 9), on any words.
use Rattle.std.specs.Prelude.{ℕ, ◌+◌, ◌/◌, ◌%◌, Bool, true, false, cond, not, ◌&&◌, ◌||◌, List, [], ◌∷◌, eqb, leb, length, get_or, take, drop}
use Rattle.lists.specs.Lists.{Row, any, keep, remove_first, replace_first, eq_row, all_zero, chop}
use Rattle.layout.specs.Flags.{has_bit, replace_bit, append_bit}
use Rattle.layout.specs.Address as Address
use Rattle.layout.specs.Address.{fit_address}
use Rattle.layout.specs.Event as Event
use Rattle.layout.specs.Route.{fit_route, alike, device, scope}
use Rattle.definition.specs.Words.{route_limit}
use Rattle.definition.specs.Call.{Reply, refusal, valued, written}
use Rattle.definition.specs.Step.{listing_room}
use Rattle.definition.specs.Reference.Insert.{ahead, behind}

-- what a recording comes to: the rows that it rebuilds, or the number that refuses it
pub data Rebuilt : Type 0 where
  rows : List Row → Rebuilt
  refused : ℕ → Rebuilt

-- ---- an event row: its kind, its flags, the address or route row, and the words behind an address row
abbrev pub kind : Row → ℕ
kind e = get_or e 0 0

-- 1 and 2 are of addresses, all others of routes
abbrev pub of_routes : Row → Bool
of_routes e = leb 3 (kind e)

abbrev pub flags : Row → ℕ
flags e = get_or e 1 0

abbrev pub route_row : Row → Row
route_row e = drop 2 e

abbrev pub address_row : Row → Row
address_row e = take Address.size (route_row e)

abbrev pub behind_address : Row → Row
behind_address e = drop (2 + Address.size) e

-- ---- "209 an unfit address or route row, flags over 65,535, other words that should be 0": only a new route has flags, and only zeros
-- stand behind an address row or a mark's number
abbrev pub fit_address_event : Row → Bool
fit_address_event e = eqb (flags e) 0 && fit_address (address_row e) && all_zero (behind_address e)

abbrev pub fit_new_route : Row → Bool
fit_new_route e = leb (flags e) 65535 && fit_route (route_row e)

abbrev pub fit_del_route : Row → Bool
fit_del_route e = eqb (flags e) 0 && fit_route (route_row e)

abbrev pub fit_mark : Row → Bool
fit_mark e = all_zero (drop 1 e)

-- 209 unless the test passes
abbrev pub provided : Bool → Rebuilt → Rebuilt
provided b r = cond b r (refused 209)

-- ---- what an event does to the rows
-- "flag 0x100 replaces the first row alike in dst, len, table, tos and priority, else 0x800 adds after the alike rows, otherwise before
-- them"; 209 is "a replacement with no alike row, an addition of or replacement by a row already there, or a 257th row". The row to be
-- replaced is there too. A row that none is alike has its place by the order of routes.
unfoldable pub added_row : Row → ℕ → List Row → Rebuilt
added_row r f l =
    provided (not (any (eq_row r) l))
    (cond (has_bit replace_bit f) (provided (any (alike r) l) (rows (replace_first (alike r) r l)))
    (let more = cond (has_bit append_bit f) (behind r l) (ahead r l) in provided (leb (length more) route_limit) (rows more)))

-- 209 is "a deletion of a row not there"
unfoldable pub deleted_row : Row → List Row → Rebuilt
deleted_row r l = provided (any (eq_row r) l) (rows (remove_first (eq_row r) l))

-- event 5: "device rows with scope other than 254 are gone"
abbrev pub after_down : List Row → List Row
after_down l = keep (λ r. not (eqb (device r) 1 && not (eqb (scope r) 254))) l

-- event 6: "all device rows are gone"
abbrev pub after_last : List Row → List Row
after_last l = keep (λ r. not (eqb (device r) 1)) l

-- an event of an address rebuilds nothing; "208 an unknown event kind"
unfoldable pub event : Row → List Row → Rebuilt
event e l =
    cond (eqb (kind e) 1 || eqb (kind e) 2) (provided (fit_address_event e) (rows l))
    (cond (eqb (kind e) 3) (provided (fit_new_route e) (added_row (route_row e) (flags e) l))
    (cond (eqb (kind e) 4) (provided (fit_del_route e) (deleted_row (route_row e) l))
    (cond (eqb (kind e) 5) (provided (fit_mark e) (rows (after_down l)))
    (cond (eqb (kind e) 6) (provided (fit_mark e) (rows (after_last l)))
    (refused 208)))))

-- ---- a recording
-- "the earliest event decides": what follows a refusal isn't looked at
abbrev pub next : Rebuilt → (List Row → Rebuilt) → Rebuilt
next (rows l) f = f l
next (refused n) f = refused n

-- the events in order, from rows
unfoldable pub rebuild_from : List Row → List Row → Rebuilt
rebuild_from [] l = rows l
rebuild_from (e ∷ events) l = next (event e l) (rebuild_from events)

-- "A recording that isn't whole event rows is met by 200"
abbrev pub whole : List ℕ → Bool
whole w = eqb (length w % Event.size) 0

-- the events of words, and the rows that these rebuild
abbrev pub events_of : List ℕ → List Row
events_of w = chop Event.size (length w / Event.size) w

unfoldable pub rebuilt : List ℕ → Rebuilt
rebuilt w = rebuild_from (events_of w) []

-- ---- the calls
abbrev pub rebuilt_reply : Rebuilt → Reply
rebuilt_reply (rows l) = written l
rebuilt_reply (refused n) = refusal n

-- the rows of a recording, into a buffer that has room for as many as there may be
unfoldable pub rebuild_call : ℕ → List ℕ → Reply
rebuild_call room recording = cond (whole recording && leb listing_room room) (rebuilt_reply (rebuilt recording)) (refusal 200)

-- "the same rows in the same order"
abbrev pub same_rows : List Row → List Row → Bool
same_rows [] [] = true
same_rows [] (y ∷ m) = false
same_rows (x ∷ l) [] = false
same_rows (x ∷ l) (y ∷ m) = eq_row x y && same_rows l m

-- "of two recordings the first" decides
abbrev pub compared_reply : Rebuilt → Rebuilt → Reply
compared_reply (refused n) b = refusal n
compared_reply (rows l) (refused n) = refusal n
compared_reply (rows l) (rows m) = valued (cond (same_rows l m) 1 0)

-- "after 200 for either"
unfoldable pub same_call : List ℕ → List ℕ → Reply
same_call first second = cond (whole first && whole second) (compared_reply (rebuilt first) (rebuilt second)) (refusal 200)
