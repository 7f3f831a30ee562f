-- The pairs that are left, put in what is there, give the words.
use Rattle.std.proofs.Common.{sym, refl, ap, ◌∙◌, ◌+◌, drop, List, ℕ}
use Rattle.std.specs.List.{fold}
use Rattle.recorded.specs.Laws.{set_pair, next-pair, no-pairs, fold-pairs}
use Rattle.recorded.proofs.record.set_pairs.Goals as goal

pub loop-at-preserved : goal.loop-at-preserved
loop-at-preserved c =
    let pairs = c.as_chunks.result.0.now in
    ap (λ (w : List ℕ). fold set_pair w (drop (c.loop-at.at-index + 1) pairs)) c.set_word.ensures
    ∙ sym (next-pair pairs c.loop-at.s c.loop-at.at-index c.loop-at-test.true)
    ∙ c.loop-at.invariant

pub returns : goal.returns
returns c =
    no-pairs c.as_chunks.result.0.now c.loop-at.s c.loop-at.at-index c.loop-at-test.false
    ∙ c.loop-at.invariant
    ∙ ap (fold set_pair c.args.s.now) c.as_chunks.ensures.front
    ∙ fold-pairs _ c.args.pairs.now c.args.s.now refl
