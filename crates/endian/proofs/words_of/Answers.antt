-- The word that is put is made of the bytes from four times its place on.
use Rattle.std.proofs.Common.{ℕ, List, [], ap, ◌∙◌, arith, get_or, take_all}
use Rattle.lists.specs.Lists.{put}
use Rattle.lists.specs.Put.{put-none}
use Rattle.endian.specs.Endian.{words_of}
use Rattle.endian.specs.Laws.{length-words_of, word_more}
use Rattle.std.specs.Int.{w32, from_le_bytes}
use Rattle.endian.proofs.words_of.Goals as goal

pub loop-i-init : goal.loop-i-init
loop-i-init c = put-none 0 c.args.out.now

pub loop-i-preserved : goal.loop-i-preserved
loop-i-preserved c =
    let a = c.args in
    let i : ℕ = c.loop-i.i in
    let quad = c.from_le_bytes.ensures ∙ ap (λ (qs : List (List ℕ)). from_le_bytes w32 (get_or qs i [])) c.as_chunks.ensures.front in
    rw c.loop-i.invariant (word_more a.bytes.now a.out.now (omega arith) i (omega arith) c.from_le_bytes.result quad)

pub returns : goal.returns
returns c =
    let a = c.args in
    c.loop-i.invariant
    ∙ ap (λ (x : List ℕ). put 0 x a.out.now) (take_all c.loop-i.i (words_of a.bytes.now) (omega (arith, length-words_of a.bytes.now)))
