-- The numbers that pages have, read as functions.
use Rattle.std.specs.Prelude.{ℕ}
use Rattle.std.specs.BTreeMap.{BTreeMap}
use Rattle.gup_exec_parts.specs.Tables.{at_key, at_place}
use Rattle.gup_check_pages.specs.declared.numbers.Numbers.{Numbers}

-- pages of one process: the number, and 0 where there is none
abbrev pub number_in : BTreeMap ℕ ℕ → ℕ → ℕ
number_in space = at_key (λ n. n) 0 space

-- processes and pages
abbrev pub mapped_of : Numbers → ℕ → ℕ → ℕ
mapped_of numbers = at_place number_in (λ _. 0) numbers.spaces.items
