-- How the fields of a `Names` are read as its entries.
use Rattle.std.specs.Prelude.{List, map, String, string_bytes}
use Rattle.gup_spec_grammar.specs.declared.named.Named.{Named}
use Rattle.gup_read_names.specs.declared.names.Names.TheInside.{Inside}
use Rattle.gup_spec_grammar.specs.Names.{NamedEntry}

abbrev pub entry_of : {A : Type 0} → String A × Named → NamedEntry
entry_of e = record { name = string_bytes e.0; named = e.1 }

abbrev pub entries_of : Inside → List NamedEntry
entries_of names = map entry_of names.entries.entries
