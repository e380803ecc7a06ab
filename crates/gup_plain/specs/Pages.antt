-- How many pages there are, and how many of a process's are mapped.
use Rattle.std.specs.Prelude.{ℕ, ◌+◌, ◌^◌, is_some, if◌then◌else◌, Option, zero, suc}
use Rattle.gup_base.specs.declared.entry.Rights.{Rights}

-- how many page numbers there are
unfoldable pub page_numbers : ℕ
page_numbers = 2 ^ 35

-- f at the n numbers from 0 on, added up
abbrev pub sum_below : ℕ → (ℕ → ℕ) → ℕ
sum_below zero f = 0
sum_below (suc n) f = f 0 + sum_below n (λ k. f (suc k))

-- how many pages are mapped
abbrev pub mapped_pages : (ℕ → Option Rights) → ℕ
mapped_pages right = sum_below page_numbers (λ page. if is_some (right page) then 1 else 0)
