-- The one space of names that processes, actors, handles and mirror slots share.
use Rattle.std.specs.Prelude.{ℕ, Bool, if◌then◌else◌, List, [], ◌∷◌, ◌++◌, Option, Some, None, is_none}
use Rattle.std.specs.Str.{bytes_eq}
use Rattle.gup_spec_grammar.specs.declared.named.Named.{Named}

-- a name, and what it names
pub record NamedEntry : Type 0 where
  pub name : List ℕ
  pub named : Named

-- what the name names, if it is declared; the entries stand in the order of their declarations
abbrev pub find : List NamedEntry → List ℕ → Option Named
find [] name = None
find (e ∷ es) name = if bytes_eq e.name name then Some e.named else find es name

abbrev pub is_unused : List NamedEntry → List ℕ → Bool
is_unused es name = is_none (find es name)

-- one more name after the others
abbrev pub declared : List NamedEntry → List ℕ → Named → List NamedEntry
declared es name named = es ++ record { name = name; named = named } ∷ []
