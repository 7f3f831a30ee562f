-- A recording that isn't refused rebuilds at most 256 rows.
-- Assumes nothing.
use Rattle.std.specs.Prelude.{ℕ, ◌≤◌, ◌&&◌, ◌||◌, List, [], ◌∷◌, leb, length}
use Rattle.std.proofs.Math.Bool.{cond, not}
use Rattle.std.proofs.Common.{arith, leb-true}
use Rattle.std.proofs.Math.Dec.{eqb}
use Rattle.lists.specs.Lists.{Row, any, eq_row}
use Rattle.lists.specs.Bools.{cond-case}
use Rattle.lists.specs.Count.{length-keep-most, length-remove_first-most, length-replace_first}
use Rattle.layout.specs.Flags.{has_bit, replace_bit, append_bit}
use Rattle.layout.specs.Route.{alike, device, scope}
use Rattle.definition.specs.Call.{Reply}
use Rattle.definition.specs.Step.{listing_room}
use Rattle.definition.specs.Reference.Insert.{ahead, behind}
use Rattle.definition_recording.specs.Recording.{Rebuilt, rows, refused, kind, flags, route_row, fit_address_event, fit_new_route, fit_del_route, fit_mark, added_row, deleted_row, event, next, rebuild_from, whole, events_of, rebuilt, rebuilt_reply, rebuild_call}

abbrev pub Few : Rebuilt → Type 0
Few (rows l) = length l ≤ 256
Few (refused n) = Unit {0}

module _ (l : List Row) (h : length l ≤ 256) where
  few-added : (r : Row) (f : ℕ) → Few (added_row r f l)
  unfolding added_row
  few-added r f =
      let more = cond (has_bit append_bit f) (behind r l) (ahead r l) in
      cond-case Few (not (any (eq_row r) l))
      (λ a. cond-case Few (has_bit replace_bit f)
      (λ b. cond-case Few (any (alike r) l) (λ c. omega (arith, length-replace_first (alike r) r l)) (λ c. tt))
      (λ b. cond-case Few (leb (length more) 256) (λ c. leb-true (length more) 256 c) (λ c. tt)))
      (λ a. tt)

  few_deleted : (r : Row) → Few (deleted_row r l)
  unfolding deleted_row
  few_deleted r = cond-case Few (any (eq_row r) l) (λ a. omega (arith, length-remove_first-most (eq_row r) l)) (λ a. tt)

  few-event : (e : Row) → Few (event e l)
  unfolding event
  few-event e =
      cond-case Few (eqb (kind e) 1 || eqb (kind e) 2) (λ a. cond-case Few (fit_address_event e) (λ b. h) (λ b. tt))
      (λ a. cond-case Few (eqb (kind e) 3) (λ b. cond-case Few (fit_new_route e) (λ c. few-added (route_row e) (flags e)) (λ c. tt))
      (λ b. cond-case Few (eqb (kind e) 4) (λ c. cond-case Few (fit_del_route e) (λ d. few_deleted (route_row e)) (λ d. tt))
      (λ c. cond-case Few (eqb (kind e) 5) (λ d. cond-case Few (fit_mark e) (λ f. omega (arith, length-keep-most (λ r. not (eqb (device r) 1 && not (eqb (scope r) 254))) l)) (λ f. tt))
      (λ d. cond-case Few (eqb (kind e) 6) (λ f. cond-case Few (fit_mark e) (λ g. omega (arith, length-keep-most (λ r. not (eqb (device r) 1)) l)) (λ g. tt)) (λ f. tt)))))

few-from : (events l : List Row) → length l ≤ 256 → Few (rebuild_from events l)
unfolding rebuild_from
few-from [] l h = h
few-from (e ∷ events) l h = go (event e l) (few-event l h e) (few-from events)
  where
    go : (x : Rebuilt) → Few x → ((m : List Row) → length m ≤ 256 → Few (rebuild_from events m)) → Few (next x (rebuild_from events))
    go (rows m) k f = f m k
    go (refused n) k f = tt

few-reply : (x : Rebuilt) → Few x → (rebuilt_reply x).value ≤ 256
few-reply (rows l) h = h
few-reply (refused n) h = omega arith

pub rebuild_few : (room : ℕ) (recording : List ℕ) → (rebuild_call room recording).value ≤ 256
unfolding rebuild_call rebuilt
rebuild_few room recording =
    cond-case (λ (r : Reply). r.value ≤ 256) (whole recording && leb listing_room room)
    (λ e. few-reply (rebuilt recording) (few-from (events_of recording) [] (omega arith))) (λ e. omega arith)
