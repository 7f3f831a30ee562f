-- What an attribute makes of a route's fields.
use Rattle.std.specs.Prelude.{ℕ, Bool, true, false, ◌&&◌, List, Option, None, Some, get_or}
use Rattle.std.specs.List.{fold}
use Rattle.netlink.specs.Codes.{rtm_new_route, rta_dst, rta_oif, rta_gateway, rta_priority, rta_prefsrc, rta_metrics, rta_table}
use Rattle.netlink.specs.Attributes.{Attribute, attributes}
use Rattle.netlink.specs.Reader.{address, number, nested_right, sized_in}
use Rattle.netlink_attributes.specs.Kept.{long, placed}
use Rattle.netlink_route.specs.declared.metrics.Metrics.{Metrics}
use Rattle.netlink_route.specs.declared.route.Route.{Route}
use Rattle.netlink_route.specs.MetricSteps.{metrics_step, fresh}

abbrev pub some_address : List ℕ → Option ℕ
some_address p = Some (address p)

-- no list of metrics has a wrong size
abbrev pub any_size : List ℕ → Bool
any_size p = true

abbrev pub list_in : List ℕ → Metrics
list_in p = fold metrics_step fresh (attributes p)

abbrev pub list_step : Metrics → Attribute → Metrics
list_step = placed rta_metrics any_size list_in

abbrev pub route_step : Route → Attribute → Route
route_step s a = record {
  table = placed rta_table (long 4) number s.table a;
  dst = placed rta_dst (long 4) address s.dst a;
  oif = placed rta_oif (long 4) number s.oif a;
  priority = placed rta_priority (long 4) number s.priority a;
  gateway = placed rta_gateway (long 4) some_address s.gateway a;
  prefsrc = placed rta_prefsrc (long 4) some_address s.prefsrc a;
  has_metrics = placed rta_metrics any_size (λ p. true) s.has_metrics a;
  is_right = s.is_right && nested_right a;
  is_sized = s.is_sized && sized_in rtm_new_route a;
}

abbrev pub route_begun : List ℕ → Route
route_begun m = record {
  table = get_or m 20 0;
  dst = 0;
  oif = 0;
  priority = 0;
  gateway = None;
  prefsrc = None;
  has_metrics = false;
  is_right = true;
  is_sized = true;
}
