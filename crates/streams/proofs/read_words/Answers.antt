-- `streams::read_words` meets its contract: the bytes that were read are those of the words.
-- Assumes nothing.
use Rattle.std.specs.Prelude.{◌≡◌, ◌*◌, length}
use Rattle.std.proofs.Common.{rules, sym, ap, ◌∙◌, subst}
use Rattle.std.specs.Io.KnownBytes.{Consumes}
use Rattle.endian.specs.Endian.{bytes_of}
use Rattle.endian.specs.Laws.{Below, words-whole, bytes-words}
use Rattle.streams.proofs.read_words.Goals as goal

pub returns : goal.returns
returns g c =
    let bytes = c.read_exact.new.buf in
    let n = length c.args.words.now in
    let low : Below 256 bytes = λ i. (c.slice_known-2-1.given i).fits in
    let long : length bytes ≡ 4 * n = search rules in
    let same : bytes ≡ bytes_of c.words_of.new.out =
    sym (ap bytes_of (words-whole n bytes _ _ long (search rules) c.words_of.ensures) ∙ bytes-words n bytes long low) in
    subst (Consumes (g.R.Read.remaining c.args.input.now) (g.R.Read.remaining c.read_exact.new.self)) same (c.in_ok-read_exact.ensures.bytes)
