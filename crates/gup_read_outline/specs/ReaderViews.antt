-- How the fields of a `Reader`, and a stage of reading, are read as their values.
use Rattle.gup_read_outline.specs.declared.reader.Reader.TheInside.{Inside}
use Rattle.gup_spec_grammar.specs.Outline.{Outline}
use Rattle.gup_script.specs.Views.{script_value}
use Rattle.gup_read_outline.specs.Room.{IsWithin}

abbrev pub outline_value : Inside → Outline
outline_value r =
    record {
      script = script_value r.contents;
      names = r.names;
      operations = r.operations;
      seeded = r.seeded;
    }

abbrev pub IsWithinLimits : Inside → Type 0
IsWithinLimits r = IsWithin (outline_value r)
