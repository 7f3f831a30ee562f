-- What a route's fields are once all attributes are taken, and the words that they give.
-- Assumes nothing.
use Rattle.std.specs.Prelude.{ℕ, suc, ◌≡◌, refl, Bool, true, false, cond, ◌&&◌, ◌||◌, not, List, [], ◌∷◌, ◌++◌, Option, None, is_some, unwrap_or, get_or, eqb, ltb, length}
use Rattle.std.specs.List.{fold}
use Rattle.std.proofs.Common.{sym, ap, ◌∙◌}
use Rattle.std.proofs.Math.Option as Math
use Rattle.lists.specs.Lists.{Row, all, zeros}
use Rattle.lists.specs.All.{all_mono, all_always}
use Rattle.lists.specs.Rows.{length-pad}
use Rattle.lists.specs.Bools.{and_iff, cond-case}
use Rattle.netlink.specs.Codes.{rtm_new_route, rta_dst, rta_oif, rta_gateway, rta_priority, rta_prefsrc, rta_metrics, rta_table}
use Rattle.netlink.specs.Attributes.{Attribute, Parsed, parsed, attributes, right, last}
use Rattle.netlink.specs.Laws.{end}
use Rattle.netlink.specs.Reader.{address, number, u32, message_flags, sized_in, nested_right, metric_sized, given, or_else, flag, nested, types, metrics_in, metrics_asked, pairs_asked, route_words, new_route, del_route}
use Rattle.netlink_attributes.specs.Steps.{short}
use Rattle.netlink_attributes.specs.Kept.{fits, long, placed, chosen, kept, part, flagged, last-fits}
use Rattle.netlink_route.specs.declared.metrics.Metrics.{Metrics}
use Rattle.netlink_route.specs.declared.route.Route.{Route}
use Rattle.netlink_route.specs.MetricSteps.{fresh}
use Rattle.netlink_route.specs.MetricWords.{pairs_of, metric_row, pair_row}
use Rattle.netlink_route.specs.PairLaws.{pairs-short}
use Rattle.netlink_route.specs.MetricLaws.{row-is, pair_row-is, no_metrics, no_pairs}
use Rattle.netlink_route.specs.Steps.{some_address, any_size, list_in, list_step, route_step, route_begun}
use Rattle.netlink_route.specs.Words.{route_row, new_route_row, del_route_row}

-- ---- where a walk ends
module _ (l b : List ℕ) (e : parsed l ≡ end l) where
  pub ended-short : (parsed l).spare ≡ (parsed b).spare → short l ≡ right b
  ended-short s = ap (λ (p : List ℕ). ltb (length p) 4) (ap (λ (p : Parsed). p.spare) (sym e) ∙ s)

  pub ended : {S : Type 0} (step : S → Attribute → S) (s t : S) → fold step s (attributes l) ≡ t → s ≡ t
  ended step s t h = ap (λ (p : Parsed). fold step s p.attributes) (sym e) ∙ h

-- ---- an address or a number that may be there
module _ (o : Math.Option (List ℕ)) where
  address-or : unwrap_or (chosen some_address None o) 0 ≡ or_else address 0 o
  address-or = elim o as (λ o. unwrap_or (chosen some_address None o) 0 ≡ or_else address 0 o) [ Math.none ↦ refl | Math.some p ↦ refl ]

  address-given : is_some (chosen some_address None o) ≡ given o
  address-given = elim o as (λ o. is_some (chosen some_address None o) ≡ given o) [ Math.none ↦ refl | Math.some p ↦ refl ]

  number-or : (f : List ℕ → ℕ) (d : ℕ) → chosen f d o ≡ or_else f d o
  number-or f d = elim o as (λ o. chosen f d o ≡ or_else f d o) [ Math.none ↦ refl | Math.some p ↦ refl ]

-- ---- the sizes
abbrev sized_list : List ℕ → Bool
sized_list p = all metric_sized (attributes p)

record Fit (a : Attribute) : Type 0 where
  pub dst : fits rta_dst (long 4) a ≡ true
  pub oif : fits rta_oif (long 4) a ≡ true
  pub gateway : fits rta_gateway (long 4) a ≡ true
  pub priority : fits rta_priority (long 4) a ≡ true
  pub prefsrc : fits rta_prefsrc (long 4) a ≡ true
  pub table : fits rta_table (long 4) a ≡ true
  pub list : fits rta_metrics sized_list a ≡ true

fit : (a : Attribute) → sized_in rtm_new_route a ≡ true → Fit a
fit a h =
    let t = simp and_iff at h in
    record { dst = t.0.0; oif = t.0.1.0; gateway = t.0.1.1.0; priority = t.0.1.1.1.0; prefsrc = t.0.1.1.1.1.0; table = t.0.1.1.1.1.1.0; list = t.1 }

or_true : (b : Bool) → not b || true ≡ true
or_true true = refl
or_true false = refl

module _ (m : List ℕ) (l : List Attribute) where
  abbrev pub taken : Route
  taken = fold route_step (route_begun m) l

  abbrev pub list : Metrics
  list = fold list_step fresh l

  pub route-right : taken.is_right ≡ all nested_right l
  route-right = part route_step (λ s. s.is_right) (λ b a. b && nested_right a) (λ s a. refl) (route_begun m) l ∙ flagged nested_right true l

  pub route-sized : taken.is_sized ≡ all (sized_in rtm_new_route) l
  route-sized =
      part route_step (λ s. s.is_sized) (λ b a. b && sized_in rtm_new_route a) (λ s a. refl) (route_begun m) l
      ∙ flagged (sized_in rtm_new_route) true l

  always-fits : all (fits rta_metrics any_size) l ≡ true
  always-fits = all_always (fits rta_metrics any_size) l (λ a. or_true (eqb a.code rta_metrics))

  has_list : taken.has_metrics ≡ chosen (λ p. true) false (last rta_metrics l)
  has_list =
      part route_step (λ s. s.has_metrics) (placed rta_metrics any_size (λ p. true)) (λ s a. refl) (route_begun m) l
      ∙ kept rta_metrics (λ p. true) any_size false l always-fits

  list-is : list ≡ chosen list_in fresh (last rta_metrics l)
  list-is = kept rta_metrics list_in any_size fresh l always-fits

  module _ (h : all (sized_in rtm_new_route) l ≡ true) where
    fit-all : (k : ℕ) (f : List ℕ → Bool) → ((a : Attribute) → Fit a → fits k f a ≡ true) → all (fits k f) l ≡ true
    fit-all k f g = all_mono (sized_in rtm_new_route) (fits k f) l (λ a e. g a (fit a e)) h

    table-is : taken.table ≡ or_else number (get_or m 20 0) (last rta_table l)
    table-is = part route_step (λ s. s.table) (placed rta_table (long 4) number) (λ s a. refl) (route_begun m) l
        ∙ kept rta_table number (long 4) (get_or m 20 0) l (fit-all rta_table (long 4) (λ a e. e.table))
        ∙ number-or (last rta_table l) number (get_or m 20 0)

    dst-is : taken.dst ≡ or_else address 0 (last rta_dst l)
    dst-is = part route_step (λ s. s.dst) (placed rta_dst (long 4) address) (λ s a. refl) (route_begun m) l
        ∙ kept rta_dst address (long 4) 0 l (fit-all rta_dst (long 4) (λ a e. e.dst))
        ∙ number-or (last rta_dst l) address 0

    oif-is : taken.oif ≡ or_else number 0 (last rta_oif l)
    oif-is = part route_step (λ s. s.oif) (placed rta_oif (long 4) number) (λ s a. refl) (route_begun m) l
        ∙ kept rta_oif number (long 4) 0 l (fit-all rta_oif (long 4) (λ a e. e.oif))
        ∙ number-or (last rta_oif l) number 0

    priority-is : taken.priority ≡ or_else number 0 (last rta_priority l)
    priority-is = part route_step (λ s. s.priority) (placed rta_priority (long 4) number) (λ s a. refl) (route_begun m) l
        ∙ kept rta_priority number (long 4) 0 l (fit-all rta_priority (long 4) (λ a e. e.priority))
        ∙ number-or (last rta_priority l) number 0

    gateway-is : taken.gateway ≡ chosen some_address None (last rta_gateway l)
    gateway-is = part route_step (λ s. s.gateway) (placed rta_gateway (long 4) some_address) (λ s a. refl) (route_begun m) l
        ∙ kept rta_gateway some_address (long 4) None l (fit-all rta_gateway (long 4) (λ a e. e.gateway))

    prefsrc-is : taken.prefsrc ≡ chosen some_address None (last rta_prefsrc l)
    prefsrc-is = part route_step (λ s. s.prefsrc) (placed rta_prefsrc (long 4) some_address) (λ s a. refl) (route_begun m) l
        ∙ kept rta_prefsrc some_address (long 4) None l (fit-all rta_prefsrc (long 4) (λ a e. e.prefsrc))

    route-row : route_row m taken ≡ route_words m l
    route-row =
        let has-prefsrc = ap (λ (o : Option ℕ). flag (is_some o)) prefsrc-is ∙ ap flag (address-given (last rta_prefsrc l)) in
        let prefsrc-word = ap (λ (o : Option ℕ). unwrap_or o 0) prefsrc-is ∙ address-or (last rta_prefsrc l) in
        let has-gateway = ap (λ (o : Option ℕ). flag (is_some o)) gateway-is ∙ ap flag (address-given (last rta_gateway l)) in
        let gateway-word = ap (λ (o : Option ℕ). unwrap_or o 0) gateway-is ∙ address-or (last rta_gateway l) in
        λ i.
        table-is i
        ∷ dst-is i
        ∷ get_or m 17 0
        ∷ get_or m 19 0
        ∷ priority-is i
        ∷ get_or m 23 0
        ∷ get_or m 21 0
        ∷ get_or m 22 0
        ∷ has-prefsrc i
        ∷ prefsrc-word i
        ∷ has-gateway i
        ∷ gateway-word i
        ∷ oif-is i
        ∷ []

    list-fits : chosen sized_list true (last rta_metrics l) ≡ true
    list-fits = last-fits rta_metrics sized_list Math.none l refl (fit-all rta_metrics sized_list (λ a e. e.list))

    metric-words : cond taken.has_metrics (metric_row list) (zeros 18) ≡ metrics_asked (metrics_in l)
    metric-words = (λ i. cond (has_list i) (metric_row (list-is i)) (zeros 18)) ∙ by (last rta_metrics l) list-fits
      where
        by : (o : Math.Option (List ℕ)) → chosen sized_list true o ≡ true
            → cond (chosen (λ p. true) false o) (metric_row (chosen list_in fresh o)) (zeros 18) ≡ metrics_asked (nested o)
        by Math.none e = no_metrics
        by (Math.some p) e = row-is (attributes p) e

    pair-words : cond taken.has_metrics (pair_row list) (1 ∷ zeros 35) ≡ pairs_asked (metrics_in l)
    pair-words = (λ i. cond (has_list i) (pair_row (list-is i)) (1 ∷ zeros 35)) ∙ by (last rta_metrics l) list-fits
      where
        by : (o : Math.Option (List ℕ)) → chosen sized_list true o ≡ true
            → cond (chosen (λ p. true) false o) (pair_row (chosen list_in fresh o)) (1 ∷ zeros 35) ≡ pairs_asked (nested o)
        by Math.none e = no_pairs
        by (Math.some p) e = pair_row-is (attributes p) e

    pub new_route-words : (up : ℕ) → new_route_row up m taken list ≡ new_route up m l
    unfolding new_route
    new_route-words up = λ i. route-row i ++ (u32 m 24 ∷ message_flags m ∷ (metric-words i ++ (up ∷ [])))

    pub del_route-words : del_route_row m taken list ≡ del_route m l
    unfolding del_route
    del_route-words = λ i. route-row i ++ pair-words i

-- ---- how long they are
pub length-metric_row : (s : Metrics) (b : Bool) → length (cond b (metric_row s) (zeros 18)) ≡ 18
unfolding metric_row zeros
length-metric_row s b =
    cond-case (λ (w : Row). length w ≡ 18) b (λ e. cond-case (λ (w : Row). length w ≡ 18) s.has_unknown (λ e. refl) (λ e. refl)) (λ e. refl)

pub length-pair_row : (s : Metrics) (b : Bool) → length (cond b (pair_row s) (1 ∷ zeros 35)) ≡ 36
unfolding pair_row zeros
length-pair_row s b =
    cond-case (λ (w : Row). length w ≡ 36) b
    (λ e. cond-case (λ (w : Row). length w ≡ 36) s.has_unknown (λ e. refl) (λ e. ap (λ (n : ℕ). suc (suc n)) (length-pad 34 (pairs_of s.values types) (pairs-short s.values types))))
    (λ e. refl)
