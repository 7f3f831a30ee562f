use Rattle.std.proofs.Common.{ap, ◌∙◌, ◌&&◌, List, ℕ}
use Rattle.std.specs.List.{fold}
use Rattle.lists.specs.Lists.{all, put}
use Rattle.netlink.specs.Attributes.{attributes, right}
use Rattle.netlink.specs.Codes.{rtm_new_route}
use Rattle.netlink.specs.Reader.{family, nested_right, sized_in}
use Rattle.netlink_route.specs.declared.metrics.Metrics.{Metrics}
use Rattle.netlink_route.specs.declared.route.Route.{Route}
use Rattle.netlink_route.specs.Steps.{list_step}
use Rattle.netlink_route.specs.Words.{del_route_row}
use Rattle.netlink_route.specs.RouteLaws.{taken, del_route-words}
use Rattle.call_message.specs.Laws.{both-pass, filled-refused}
use Rattle.call_message.proofs.write_del_route.Goals as goal

pub returns-in_err-route : goal.returns-in_err-route
returns-in_err-route c =
    let why = c.in_err-route.ensures.refuses in
    filled-refused c.from_residual.result c.in_err-route.field-0.0 _ _ c.args.words.now c.from_residual.ensures why.0 why.1

pub returns : goal.returns
returns c =
    let m = c.args.message.bytes.now in
    let b = c.args.message.body.now in
    let l = attributes b in
    let w = c.args.words.now in
    let read = c.in_ok-route.ensures in
    let lengths = right b && all nested_right l in
    let sized = (both-pass (family m) lengths (all (sized_in rtm_new_route) l) read.refuses).1 in
    let metrics = c.read.ensures.metrics ∙ ap (λ (s : Metrics). fold list_step s l) c.new-metrics.ensures in
    let row = ap (λ (s : Route). del_route_row m s c.read.new.metrics) read.route ∙ ap (λ (x : Metrics). del_route_row m (taken m l) x) metrics ∙ del_route-words m l sized in
    (read.refuses, c.write_deleted.ensures ∙ ap (λ (x : List ℕ). put 0 x w) row)
