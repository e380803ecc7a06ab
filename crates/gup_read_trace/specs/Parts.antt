-- The parts of a text, before and behind its line `journal`.
use Rattle.std.specs.Prelude.{◌≡◌, ℕ, List, length}
use Rattle.gup_spec_trace.specs.Trace.{IsParted}
use Rattle.gup_read_trace.specs.declared.lines.Parted.{Parted}

abbrev pub IsPartedAt : List ℕ → Parted → Type 0
IsPartedAt text parted =
    (lines : List (List ℕ)) × IsParted text parted.front.now parted.behind.now lines × (length lines ≡ parted.lines)
