-- What the printing program prints of the bytes that it reads (document 01: "prints it in `dump4` order"; "Unfit input prints `(refused 200)`
-- or `(refused 201)` alone").
use Rattle.std.specs.Prelude.{ℕ, ◌*◌, cond, List, eqb, length}
use Rattle.definition.specs.Words.{state_size, state_of, formed}
use Rattle.definition.specs.Reference.Source.{dump4}
use Rattle.endian.specs.Endian.{words_of}
use Rattle.text.specs.Print.{render, refused_line}

-- of a state's words
unfoldable pub shown_words : List ℕ → List ℕ
shown_words w = cond (formed w) (render (dump4 (state_of w))) (refused_line 201)

-- of any bytes: four for each word of a state
unfoldable pub shown : List ℕ → List ℕ
shown b = cond (eqb (length b) (4 * state_size)) (shown_words (words_of b)) (refused_line 200)
