use Rattle.std.proofs.Common.{sym, ap, ◌∙◌, ◌&&◌, Bool, List, ℕ}
use Rattle.std.specs.List.{fold}
use Rattle.lists.specs.Lists.{all}
use Rattle.refusal.specs.Laws.{handed-on}
use Rattle.netlink.specs.Attributes.{attributes, right}
use Rattle.netlink.specs.Reader.{family, nested_right}
use Rattle.netlink_attributes.specs.Steps.{rest, short}
use Rattle.netlink_refusal.specs.Order.{judged}
use Rattle.netlink_route.specs.declared.route.Route.{Route}
use Rattle.netlink_route.specs.Steps.{route_step}
use Rattle.netlink_route.specs.RouteLaws.{ended, ended-short, route-right, route-sized}
use Rattle.netlink_route.proofs.route.Route.read.Goals as goal

pub returns-in_err-judge-clause-refuses : goal.returns-in_err-judge-clause-refuses
returns-in_err-judge-clause-refuses c =
    let b = c.args.message.body.now in
    let m = c.args.message.bytes.now in
    let l = attributes b in
    let f = family m in
    let route = ended (rest c.loop-a.attributes) b c.in_default.ensures.steps.0 route_step c.loop-a.route (fold route_step c.begun-route.result l) c.loop-a.invariant.route
    ∙ ap (λ (s : Route). fold route_step s l) c.begun-route.ensures
    in
    let short-is = c.is_short.ensures ∙ ap (λ (x : List ℕ). short x) c.in_default.ensures.steps.1 ∙ ended-short (rest c.loop-a.attributes) b c.in_default.ensures.steps.0 c.loop-a.invariant.spare in
    let right-is = ap (λ (s : Route). s.is_right) route ∙ route-right m l in
    let sized-is = ap (λ (s : Route). s.is_sized) route ∙ route-sized m l in
    let same = ap (λ (x : Bool). judged f (x && c.loop-a.route.is_right) c.loop-a.route.is_sized) short-is
    ∙ ap (λ (x : Bool). judged f (right b && x) c.loop-a.route.is_sized) right-is
    ∙ ap (λ (x : Bool). judged f (right b && all nested_right l) x) sized-is
    in
    let why = c.in_err-judge.ensures in
    handed-on c.from_residual.result c.in_err-judge.field-0.0 _ c.from_residual.ensures (why.0 ∙ same) (λ z. why.1 (same ∙ z))

pub returns-clause-refuses : goal.returns-clause-refuses
returns-clause-refuses c =
    let b = c.args.message.body.now in
    let m = c.args.message.bytes.now in
    let l = attributes b in
    let f = family m in
    let route = ended (rest c.loop-a.attributes) b c.in_default.ensures.steps.0 route_step c.loop-a.route (fold route_step c.begun-route.result l) c.loop-a.invariant.route
    ∙ ap (λ (s : Route). fold route_step s l) c.begun-route.ensures
    in
    let short-is = c.is_short.ensures ∙ ap (λ (x : List ℕ). short x) c.in_default.ensures.steps.1 ∙ ended-short (rest c.loop-a.attributes) b c.in_default.ensures.steps.0 c.loop-a.invariant.spare in
    let right-is = ap (λ (s : Route). s.is_right) route ∙ route-right m l in
    let sized-is = ap (λ (s : Route). s.is_sized) route ∙ route-sized m l in
    let same = ap (λ (x : Bool). judged f (x && c.loop-a.route.is_right) c.loop-a.route.is_sized) short-is
    ∙ ap (λ (x : Bool). judged f (right b && x) c.loop-a.route.is_sized) right-is
    ∙ ap (λ (x : Bool). judged f (right b && all nested_right l) x) sized-is
    in
    sym same ∙ c.in_ok-judge.ensures
