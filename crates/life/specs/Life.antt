-- Lifetimes are numbers of seconds, the clock is one of nanoseconds (document 01, port order 2).
-- Assumes nothing.
use Rattle.std.specs.Prelude.{ℕ, ◌+◌, ◌-◌, ◌*◌, ◌/◌, ◌%◌, ◌^◌, min, Bool, cond, not, ◌&&◌, List, [], ◌∷◌, eqb, leb, get_or}
use Rattle.life.specs.declared.Seconds.{Seconds}
use Rattle.life.specs.declared.Nanoseconds.{Nanoseconds}
use Rattle.life.specs.declared.Life.{Life}
use Rattle.life.specs.declared.Lifetimes.{Lifetimes}
use Rattle.life.specs.declared.Left.{Left}

-- the lifetime that never ends
abbrev pub forever : ℕ
forever = 4294967295

-- the nanoseconds of a second
abbrev pub second : ℕ
second = 1000000000

-- the lifetime is not forever, and the floor of (now + the allowance - changed, at least 0) / second is at least the lifetime
unfoldable pub reached : ℕ → ℕ → ℕ → ℕ → Bool
reached early lifetime changed now = not (eqb lifetime forever) && leb lifetime ((now + early - changed) / second)

-- the whole seconds since `changed`, no more than a word holds; a clock behind `changed` counts as 0
unfoldable pub age : ℕ → ℕ → ℕ
age changed now = min ((now - changed) / second) (2 ^ 32 - 1)

-- what is left of each lifetime: a preferred one of forever keeps both as they are, and a valid one of forever stays
unfoldable pub left_preferred : ℕ → ℕ → ℕ → ℕ
left_preferred preferred changed now = cond (eqb preferred forever) forever (preferred - age changed now)

unfoldable pub left_valid : ℕ → ℕ → ℕ → ℕ → ℕ
left_valid valid preferred changed now =
    cond (eqb preferred forever) valid (cond (eqb valid forever) forever (valid - age changed now))

-- a lifetime that never ends leaves the stored seconds
abbrev pub stored_seconds : ℕ → ℕ → ℕ
stored_seconds asked stored = cond (eqb asked forever) stored asked

-- the clock stands in two words, low and high
abbrev pub clock : ℕ → ℕ → ℕ
clock low high = low + high * 2 ^ 32

abbrev pub low_word : ℕ → ℕ
low_word n = n % 2 ^ 32

abbrev pub high_word : ℕ → ℕ
high_word n = n / 2 ^ 32

-- ---- the same, of the code's structs

abbrev pub seconds : ℕ → Seconds
seconds n = record { 0 = n }

abbrev pub nanoseconds : ℕ → Nanoseconds
nanoseconds n = record { 0 = n }

abbrev pub left_of : Life → ℕ → Left
left_of l now =
    record {
      preferred = seconds (left_preferred l.preferred.0 l.changed.0 now);
      valid = seconds (left_valid l.valid.0 l.preferred.0 l.changed.0 now);
    }

-- the six words that hold a life, and the life that six words hold
abbrev pub words_of : Life → List ℕ
words_of l =
    l.valid.0 ∷ l.preferred.0 ∷ low_word l.created.0 ∷ high_word l.created.0 ∷ low_word l.changed.0 ∷ high_word l.changed.0 ∷ []

abbrev pub life_of : List ℕ → Life
life_of words =
    record {
      valid = seconds (get_or words 0 0);
      preferred = seconds (get_or words 1 0);
      created = nanoseconds (clock (get_or words 2 0) (get_or words 3 0));
      changed = nanoseconds (clock (get_or words 4 0) (get_or words 5 0));
    }

-- the lifetimes asked for at a moment
abbrev pub life_set : Lifetimes → ℕ → Life → Life
life_set asked now l =
    record {
      valid = seconds (stored_seconds asked.valid.0 l.valid.0);
      preferred = seconds (stored_seconds asked.preferred.0 l.preferred.0);
      created = l.created;
      changed = nanoseconds now;
    }
