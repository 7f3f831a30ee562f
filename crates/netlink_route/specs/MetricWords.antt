-- The words of a list of metrics.
use Rattle.std.specs.Prelude.{ℕ, ◌-◌, cond, List, [], ◌∷◌, Option, None, Some, map, length, is_some, unwrap_or}
use Rattle.lists.specs.Lists.{Row, keep, each, zeros, pad}
use Rattle.netlink.specs.Reader.{types}
use Rattle.netlink_route.specs.declared.metrics.Metrics.{Metrics}
use Rattle.netlink_route.specs.MetricSteps.{slot}

-- a word of each type
abbrev pub value_words : List (Option ℕ) → Row
value_words v = map (λ t. unwrap_or (slot v t) 0) types

unfoldable pub metric_row : Metrics → Row
metric_row s = cond s.has_unknown (22 ∷ zeros 17) (0 ∷ value_words s.values)

-- an index and its value
abbrev pub number_pair : ℕ → Option ℕ → Row
number_pair t None = []
number_pair t (Some n) = (t - 1) ∷ n ∷ []

abbrev pub pairs_of : List (Option ℕ) → List ℕ → Row
pairs_of v ts = each (λ t. number_pair t (slot v t)) ts

unfoldable pub pair_row : Metrics → Row
pair_row s =
    cond s.has_unknown (zeros 36)
    (1 ∷ length (keep (λ t. is_some (slot s.values t)) types) ∷ pad 34 (pairs_of s.values types))
