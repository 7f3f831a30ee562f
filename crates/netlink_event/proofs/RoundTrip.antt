-- The reader accepts the message of every event that isn't refused, and finds in it what was put in (specs/Found).
-- Words are below 2^32, as the code's are.
-- Assumes nothing.
use Rattle.std.specs.Prelude.{ℕ, suc, ◌≡◌, refl, true, List, [], ◌∷◌, ◌++◌, eqb, length, take}
use Rattle.std.proofs.Common.{sym, ap, ap₂, ◌∙◌, append-nil, arith, length-drop, take_at, eqb-true}
use Rattle.lists.specs.Lists.{Row, keep, flat, pad, chop}
use Rattle.lists.specs.Rows.{sized, chop-pad}
use Rattle.lists.specs.Bools.{or_case, test-case}
use Rattle.endian.specs.Laws.{Below}
use Rattle.layout.specs.Route as Route
use Rattle.netlink.specs.Reader.{read}
use Rattle.netlink_event.specs.Writer.{kind, flags, address_row, route_row, nonzero, event_message, writes}
use Rattle.netlink_event.proofs.Fit.{AddressFits, RouteFits, listed, lists, below-part, row-fits}
use Rattle.netlink_event.specs.Found.{AddressAdded, AddressDeleted, RouteNamed, RouteAdded, metric_pairs, RouteDeleted, Found}
use Rattle.netlink_event.specs.Found.{address_added, address_deleted, route_added, route_deleted}
use Rattle.netlink_event.proofs.AddressBack.{new_addr_of, del_addr_of, label-words, read-new-address, read-del-address}
use Rattle.netlink_event.proofs.MetricsBack.{pairs_from}
use Rattle.netlink_event.proofs.RouteBack.{new_route_of, del_route_of, read-new-route, read-del-route}

-- ---- addresses
address-added-is : (up now flags : ℕ) (a : Row) → AddressFits a → Below 4294967296 a
    → AddressAdded now flags a (new_addr_of up now flags a)
address-added-is up now flags a f b =
    record {
      local = refl;
      address = refl;
      prefix = refl;
      broadcast_present = refl;
      broadcast = refl;
      scope = refl;
      address_flags = refl;
      proto = refl;
      cut_label = refl;
      whole_label = λ z. label-words a f b z;
      priority = refl;
      valid = refl;
      preferred = refl;
      replace = refl;
    }

address-deleted-is : (a : Row) → AddressFits a → Below 4294967296 a → AddressDeleted a (del_addr_of a)
address-deleted-is a f b =
    record {
      local_present = refl;
      local = refl;
      address_present = refl;
      address = refl;
      prefix = refl;
      label_present = refl;
      cut_label = refl;
      whole_label = λ z. label-words a f b z;
    }

-- ---- routes
named-is : (r x : Row) → RouteNamed r (listed 13 0 r ++ x)
named-is r x =
    record {
      table = refl;
      dst = refl;
      len = refl;
      tos = refl;
      priority = refl;
      route_kind = refl;
      proto = refl;
      scope = refl;
      prefsrc_present = refl;
      prefsrc = refl;
      gateway_present = refl;
      gateway = refl;
      device = refl;
    }

pairs-flat : (i : ℕ) (l : List ℕ) → pairs_from i l ≡ flat (metric_pairs i l)
unfolding flat
pairs-flat i [] = refl
pairs-flat i (v ∷ l) =
    test-case (nonzero v)
    (λ e. rw e (ap (λ (k : Row). i ∷ v ∷ k) (pairs-flat (suc i) l)))
    (λ e. rw e (pairs-flat (suc i) l))

pairs-many : (i : ℕ) (l : List ℕ) → length (keep nonzero l) ≡ length (metric_pairs i l)
pairs-many i [] = refl
pairs-many i (v ∷ l) = test-case (nonzero v) (λ e. rw e (ap suc (pairs-many (suc i) l))) (λ e. rw e (pairs-many (suc i) l))

pairs-sized : (i : ℕ) (l : List ℕ) → sized 2 (metric_pairs i l) ≡ true
pairs-sized i [] = refl
pairs-sized i (v ∷ l) = test-case (nonzero v) (λ e. rw e (pairs-sized (suc i) l)) (λ e. rw e (pairs-sized (suc i) l))

module _ (r : Row) (f : RouteFits r) where
  front : take 13 r ≡ listed 13 0 r
  front = lists 13 0 r (omega (arith, f.long))

  route-added-is : (up flags : ℕ) → RouteAdded flags r (new_route_of up flags r)
  route-added-is up flags =
      rw front
      (record {
        named = named-is r _;
        onlink = refl;
        nlm_flags = refl;
        no_error = refl;
        metrics = take_at (Route.metrics r) (up ∷ []) 17 (omega (arith, length-drop 15 r, f.long));
      })

  pairs-are : chop 2 (length (keep nonzero (Route.metrics r))) (pad 34 (pairs_from 0 (Route.metrics r))) ≡ metric_pairs 0 (Route.metrics r)
  pairs-are =
      let k = Route.metrics r in
      let rows = metric_pairs 0 k in
      ap₂ (λ (n : ℕ) (x : Row). chop 2 n (pad 34 x)) (pairs-many 0 k) (pairs-flat 0 k)
      ∙ ap (chop 2 (length rows)) (sym (append-nil (pad 34 (flat rows))))
      ∙ chop-pad 34 2 rows [] (pairs-sized 0 k)

  route-deleted-is : RouteDeleted r (del_route_of r)
  route-deleted-is = rw front (record { named = named-is r _; list_present = refl; pairs = pairs-are })

-- ---- THE CLAIM, for every event that isn't refused
module _ (sequence port now : ℕ) (e : Row) (w : writes e ≡ true) (b : Below 4294967296 e) (up : ℕ) where
  pub finds : Found now e (read up (event_message sequence port now e))
  finds =
      row-fits e w
      (λ k f.
      let a = address_row e in
      let below = below-part 20 2 e b in
      or_case (eqb (kind e) 1) (eqb (kind e) 2) k
      (λ h. let new = eqb-true (kind e) 1 h in
      address_added (new_addr_of up now (flags e) a) new (read-new-address sequence port now e w b up new) (address-added-is up now (flags e) a f below))
      (λ h. let del = eqb-true (kind e) 2 h in
      address_deleted (del_addr_of a) del (read-del-address sequence port now e w b up del) (address-deleted-is a f below)))
      (λ k f.
      let r = route_row e in
      or_case (eqb (kind e) 3) (eqb (kind e) 4) k
      (λ h. let new = eqb-true (kind e) 3 h in
      route_added (new_route_of up (flags e) r) new (read-new-route sequence port now e w b up new) (route-added-is r f up (flags e)))
      (λ h. let del = eqb-true (kind e) 4 h in
      route_deleted (del_route_of r) del (read-del-route sequence port now e w b up del) (route-deleted-is r f)))
