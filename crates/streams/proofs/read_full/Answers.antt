-- `streams::read_full` meets its contract: a read puts its bytes behind those that are there.
-- Assumes nothing.
use Rattle.std.proofs.Common.{◌≡◌, ℕ, ◌+◌, ◌-◌, ◌≤◌, List, ◌++◌, rules, length, take, drop, sym, ap, ◌∙◌, subst, le_refl, drop_at, length-take-le}
use Rattle.std.proofs.lemmas.Slice.{take-put_mid_below}
use Rattle.std.specs.Io.KnownBytes.{Consumes}
use Rattle.std.proofs.KnownBytes.{Consumes-trans}
use borrow.Rule.Slice.PartMut.{put_mid, post_of}
use lib.Seq.{take-add, take-append-le}
use Rattle.streams.proofs.read_full.Goals as goal

-- bytes put in at a place, behind those that are in front
put_behind : (a k n : ℕ) (xs ys : List ℕ) → a ≤ length xs → n ≤ length ys → take a xs ++ take n ys ≡ take (a + n) (put_mid a k xs ys)
put_behind a k n xs ys within fits =
    let new = put_mid a k xs ys in
    let behind = ys ++ post_of a k xs in
    let front : take a new ≡ take a xs = take-put_mid_below _ _ _ _ _ (le_refl _) within in
    let back : take n (drop a new) ≡ take n ys =
    ap (take n) (drop_at (take a xs) behind a (length-take-le a xs within)) ∙ take-append-le n ys (post_of a k xs) fits in
    sym (take-add a n new ∙ ap (λ l. l ++ take n (drop a new)) front ∙ ap (λ l. take a xs ++ l) back)

pub loop-n-preserved : goal.loop-n-preserved
loop-n-preserved g c =
    let n = c.loop-n.n in
    let room = length c.loop-n.bytes - n in
    let joined = put_behind n room c.in_ok-more.more c.loop-n.bytes c.read.new.buf c.loop-n.invariant.within c.in_ok-more.ensures.bound.0 in
    record {
      kept = search rules;
      within = search rules;
      taken = subst (Consumes _ _) joined (Consumes-trans _ _ _ _ _ c.loop-n.invariant.taken c.in_ok-more.ensures.bytes.0);
    }
