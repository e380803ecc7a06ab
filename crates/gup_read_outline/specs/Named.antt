-- What a name is found to be, where a line uses it.
use Rattle.std.specs.Prelude.{ℕ, ◌==◌, Bool, true, false, List, Option, Some, None}
use Rattle.gup_read_words.specs.Text.{is_name}
use Rattle.gup_spec_grammar.specs.declared.named.Named.{Named}
use Rattle.gup_spec_grammar.specs.declared.named.Named.TheVariants as named

abbrev pub process_of : Option Named → Option ℕ
process_of (Some (named.Process p)) = Some p
process_of _ = None

abbrev pub actor_of : Option Named → Option ℕ
actor_of (Some (named.Actor a)) = Some a
actor_of _ = None

abbrev pub pin_of : Option Named → Option ℕ
pin_of (Some (named.Pin h)) = Some h
pin_of _ = None

abbrev pub got_of : Option Named → Option ℕ
got_of (Some (named.Got h)) = Some h
got_of _ = None

-- a mirror slot, of whichever device
abbrev pub mirror_of : Option Named → Option ℕ
mirror_of (Some (named.Mirror m device)) = Some m
mirror_of _ = None

-- a mirror slot of this device
abbrev pub is_mirror_of : ℕ → Option Named → Bool
is_mirror_of a (Some (named.Mirror m owner)) = owner == a
is_mirror_of a _ = false

-- the same, or a name that a mirror line may declare
abbrev pub may_mirror : ℕ → (word : List ℕ) → Option Named → Bool
may_mirror a word None = is_name word
may_mirror a word (Some n) = is_mirror_of a (Some n)
