-- The first four bytes are a run put at the front.
use Rattle.std.proofs.Common.{refl, ap, ◌∙◌, ◌++◌, arith, List, ℕ, length, drop}
use Rattle.lists.specs.Lists.{put}
use Rattle.lists.specs.Rows.{length-put}
use Rattle.netlink_event.specs.Written.{bytes4}
use Rattle.netlink_put.proofs.Writer.set_length.Goals as goal

pub returns : goal.returns
unfolding put
returns c =
    let l = c.args.self.now.out.now in
    let set = ap (λ (x : List ℕ). x ++ drop 4 l) (c.copy_from_slice.ensures.after ∙ c.to_le_bytes.ensures) in
    record { same_bytes = refl; as_many = ap length set ∙ length-put 0 (bytes4 c.args.self.now.len) l (omega (arith, c.requires.0)); as_far = refl; front = set }
