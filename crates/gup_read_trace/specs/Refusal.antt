-- When a refusal of a trace is right.
use Rattle.std.specs.Prelude.{ℕ, List}
use Rattle.gup_spec_grammar.specs.declared.fault.ReadRefusal.{ReadRefusal}
use Rattle.gup_spec_grammar.specs.declared.fault.ReadRefusal.TheVariants.{Fault, NoMemory}
use Rattle.gup_spec_trace.specs.Trace.{HasTraceFault}

-- A refusal for a fault is right where the text has the fault. Want of memory says nothing of the text.
abbrev pub IsTraceRefusal : List ℕ → ReadRefusal → Type 0
IsTraceRefusal text (Fault fault) = HasTraceFault text fault
IsTraceRefusal text NoMemory = Unit {0}
