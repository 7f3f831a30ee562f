-- What an attribute makes of a list of metrics.
use Rattle.std.specs.Prelude.{ℕ, ◌-◌, true, false, cond, ◌&&◌, ◌||◌, List, Option, None, Some, ltb, slice_index_or, slice_set, replicate}
use Rattle.netlink.specs.Codes.{rtax_max}
use Rattle.netlink.specs.Attributes.{Attribute}
use Rattle.netlink.specs.Reader.{number, is_metric, metric_sized}
use Rattle.netlink_attributes.specs.Kept.{long}
use Rattle.netlink_route.specs.declared.metrics.Metrics.{Metrics}

abbrev pub metrics_step : Metrics → Attribute → Metrics
metrics_step s a = record {
  values = cond (is_metric a && long 4 a.payload) (slice_set s.values (a.code - 1) (Some (number a.payload))) s.values;
  has_unknown = s.has_unknown || ltb rtax_max a.code;
  is_sized = s.is_sized && metric_sized a;
}

abbrev pub fresh : Metrics
fresh = record { values = replicate 17 None; has_unknown = false; is_sized = true }

-- the metric of a type
abbrev pub slot : List (Option ℕ) → ℕ → Option ℕ
slot v k = slice_index_or v (k - 1) None
