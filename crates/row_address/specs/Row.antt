-- Reading an address row: its label word by word, and what the public `left` answers.
-- Assumes nothing.
use Rattle.std.specs.Prelude.{ℕ, ◌*◌, ◌^◌, Bool, cond, ◌||◌, [], leb, ltb, Result, Ok, Err}
use Rattle.lists.specs.Lists.{Row}
use Rattle.layout.specs.Address.{fit_address}
use Rattle.definition.specs.Call.{Reply, refusal}
use Rattle.definition.specs.Reference.Source.{left}
use Rattle.life.specs.Life.{seconds}
use Rattle.life.specs.declared.Left.{Left}
use Rattle.refusal.specs.declared.Refusal.{Refusal}
use Rattle.refusal.specs.declared.Refusal.TheVariants.{Malformed}
use Rattle.refusal.specs.Refusal.{number_of}

-- of the four bytes of a word the first n may be anything, the others are 0
abbrev pub word_ends : ℕ → ℕ → Bool
word_ends word n = leb 4 n || ltb word (2 ^ (8 * n))

-- what is left of an address's lifetimes; 201 for a row that could not stand in a well-formed state (document 01, "When a call says no")
abbrev pub left_reply : Row → ℕ → Result Left Refusal
left_reply row clock =
    cond (fit_address row)
    (Ok (record { preferred = seconds (left row clock).preferred; valid = seconds (left row clock).valid }))
    (Err Malformed)

-- the number and the values of each answer
abbrev pub reply_of : Result Left Refusal → Reply
reply_of (Err e) = refusal (number_of e)
reply_of (Ok l) = record { number = 0; present = 0; value = l.preferred.0; second = l.valid.0; rows = [] }
