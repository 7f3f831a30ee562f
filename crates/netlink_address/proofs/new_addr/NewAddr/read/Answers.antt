use Rattle.std.proofs.Common.{sym, ap, ◌∙◌, ◌&&◌, Bool, is_some}
use Rattle.std.specs.List.{fold}
use Rattle.netlink.specs.Attributes.{attributes, right}
use Rattle.netlink.specs.Reader.{family}
use Rattle.netlink_refusal.specs.Order.{judged}
use Rattle.netlink_address.specs.declared.new_addr.NewAddr.{NewAddr}
use Rattle.netlink_address.specs.Steps.{new_addr_step}
use Rattle.netlink_address.specs.Laws.{new_addr-sizes}
use Rattle.netlink_address.proofs.new_addr.NewAddr.read.Goals as goal

pub returns : goal.returns
returns c =
    let l = attributes c.args.message.body.now in
    let fields = c.walk-lengths.ensures.taken ∙ ap (λ (s : NewAddr). fold new_addr_step s l) c.requires in
    let sizes-are = c.is_right.ensures ∙ ap (λ (s : NewAddr). s.extras.is_sized && is_some s.local) fields ∙ new_addr-sizes c.args.message.bytes.now l in
    let same = ap (λ (b : Bool). judged (family c.args.message.bytes.now) b c.is_right.result) c.walk-lengths.ensures.lengths
    ∙ ap (λ (b : Bool). judged (family c.args.message.bytes.now) (right c.args.message.body.now) b) sizes-are
    in
    record { refuses = rw (sym same) c.judge.ensures; fields = fields }
