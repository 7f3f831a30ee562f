-- The words of a route's request, from the fields and the message's headers.
use Rattle.std.specs.Prelude.{ℕ, cond, List, [], ◌∷◌, ◌++◌, unwrap_or, is_some, get_or}
use Rattle.lists.specs.Lists.{Row, zeros}
use Rattle.netlink.specs.Reader.{flag, u32, message_flags}
use Rattle.netlink_route.specs.declared.metrics.Metrics.{Metrics}
use Rattle.netlink_route.specs.declared.route.Route.{Route}
use Rattle.netlink_route.specs.MetricWords.{metric_row, pair_row}

abbrev pub route_row : List ℕ → Route → Row
route_row m s =
    s.table
    ∷ s.dst
    ∷ get_or m 17 0
    ∷ get_or m 19 0
    ∷ s.priority
    ∷ get_or m 23 0
    ∷ get_or m 21 0
    ∷ get_or m 22 0
    ∷ flag (is_some s.prefsrc)
    ∷ unwrap_or s.prefsrc 0
    ∷ flag (is_some s.gateway)
    ∷ unwrap_or s.gateway 0
    ∷ s.oif
    ∷ []

-- no list is an empty one
abbrev pub new_route_row : ℕ → List ℕ → Route → Metrics → Row
new_route_row up m s q = route_row m s ++ (u32 m 24 ∷ message_flags m ∷ (cond s.has_metrics (metric_row q) (zeros 18) ++ (up ∷ [])))

abbrev pub del_route_row : List ℕ → Route → Metrics → Row
del_route_row m s q = route_row m s ++ cond s.has_metrics (pair_row q) (1 ∷ zeros 35)
