-- An address as a record, and what its methods do (document 01, "Forms for Rattle"): the row's definitions, said of the record.
-- Assumes nothing.
use Rattle.std.specs.Prelude.{ℕ, Bool, cond, [], ◌∷◌, eqb, get_or, Option, Some, None}
use Rattle.lists.specs.Lists.{Row}
use Rattle.prefix.specs.Mask.{network}
use Rattle.life.specs.declared.Life.{Life}
use Rattle.life.specs.declared.Lifetimes.{Lifetimes}
use Rattle.life.specs.declared.Left.{Left}
use Rattle.life.specs.Life.{forever, seconds, nanoseconds, left_of, life_set}
use Rattle.layout.specs.Flags.{has_bit}
use Rattle.layout.specs.Address as Address
use Rattle.layout.specs.Request as Request
use Rattle.definition.specs.Reference.Addresses.{life_flags}
use Rattle.row_address.specs.declared.Label.{Label}
use Rattle.row_address.specs.declared.V4.{V4}

-- ---- a row's record
abbrev pub optional_of : ℕ → ℕ → Option ℕ
optional_of present value = cond (eqb present 1) (Some value) None

abbrev pub label_from : Row → Label
label_from w = record { len = get_or w 0 0; words = get_or w 1 0 ∷ get_or w 2 0 ∷ get_or w 3 0 ∷ get_or w 4 0 ∷ [] }

abbrev pub label_of : Row → Label
label_of a = record { len = Address.label_length a; words = get_or a 9 0 ∷ get_or a 10 0 ∷ get_or a 11 0 ∷ get_or a 12 0 ∷ [] }

-- of the request to delete an address
abbrev pub label_asked : Row → Label
label_asked q = record { len = Request.label_length_given q; words = get_or q 7 0 ∷ get_or q 8 0 ∷ get_or q 9 0 ∷ get_or q 10 0 ∷ [] }

abbrev pub life_of : Row → Life
life_of a =
    record {
      valid = seconds (Address.valid a);
      preferred = seconds (Address.preferred a);
      created = nanoseconds (Address.created a);
      changed = nanoseconds (Address.changed a);
    }

abbrev pub v4_of : Row → V4
v4_of a =
    record {
      local = Address.local a;
      address = Address.address a;
      prefix = Address.prefix a;
      broadcast = optional_of (Address.broadcast_present a) (Address.broadcast a);
      scope = Address.scope a;
      flags = Address.flags a;
      proto = Address.proto a;
      label = label_of a;
      priority = Address.priority a;
      life = life_of a;
    }

-- ---- its methods
abbrev pub permanent_v4 : V4 → Bool
permanent_v4 v = has_bit Address.permanent_bit v.flags

abbrev pub secondary_v4 : V4 → Bool
secondary_v4 v = has_bit Address.secondary_bit v.flags

abbrev pub covers_v4 : V4 → ℕ → Bool
covers_v4 v ip = eqb (network ip v.prefix) (network v.address v.prefix)

abbrev pub set_life_v4 : Lifetimes → ℕ → V4 → V4
set_life_v4 asked now v =
    record {
      local = v.local;
      address = v.address;
      prefix = v.prefix;
      broadcast = v.broadcast;
      scope = v.scope;
      flags = life_flags asked.valid.0 asked.preferred.0 v.flags;
      proto = v.proto;
      label = v.label;
      priority = v.priority;
      life = life_set asked now v.life;
    }

-- forever while permanent
abbrev pub left_v4 : V4 → ℕ → Left
left_v4 v now = cond (permanent_v4 v) (record { preferred = seconds forever; valid = seconds forever }) (left_of v.life now)
