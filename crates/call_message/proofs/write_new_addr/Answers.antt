use Rattle.std.proofs.Common.{ap, ◌∙◌, List, ℕ}
use Rattle.lists.specs.Lists.{put}
use Rattle.netlink.specs.Attributes.{attributes, right}
use Rattle.netlink.specs.Codes.{rtm_new_addr}
use Rattle.netlink.specs.Reader.{family, sizes}
use Rattle.netlink_address.specs.declared.new_addr.NewAddr.{NewAddr}
use Rattle.netlink_address.specs.Words.{new_addr_words}
use Rattle.netlink_address.specs.Laws.{new_addr-words}
use Rattle.call_message.specs.Laws.{both-pass, filled-refused}
use Rattle.call_message.proofs.write_new_addr.Goals as goal

pub returns-in_err-read : goal.returns-in_err-read
returns-in_err-read c =
    let why = c.in_err-read.ensures.refuses in
    filled-refused c.from_residual.result c.in_err-read.field-0.0 _ _ c.args.words.now c.from_residual.ensures why.0 why.1

pub returns : goal.returns
returns c =
    let m = c.args.message.bytes.now in
    let b = c.args.message.body.now in
    let w = c.args.words.now in
    let passed = c.in_ok-read.ensures.refuses in
    let sized = (both-pass (family m) (right b) (sizes rtm_new_addr (attributes b)) passed).1 in (
      passed,
      c.write.ensures
          ∙ ap (λ (s : NewAddr). put 0 (new_addr_words c.args.up m s) w) c.read.ensures.fields
          ∙ ap (λ (x : List ℕ). put 0 x w) (new_addr-words m (attributes b) c.args.up sized),
    )
