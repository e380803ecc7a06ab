-- How many pages of a process are mapped from one on.
use Rattle.std.specs.Prelude.{ℕ, ◌&&◌, nat_le, is_some, if◌then◌else◌, Option}
use Rattle.gup_base.specs.declared.entry.Rights.{Rights}
use Rattle.gup_plain.specs.Pages.{page_numbers, sum_below}

-- how many pages are mapped from this one on
abbrev pub pages_from : (ℕ → Option Rights) → (from : ℕ) → ℕ
pages_from right from = sum_below page_numbers (λ page. if nat_le from page && is_some (right page) then 1 else 0)
