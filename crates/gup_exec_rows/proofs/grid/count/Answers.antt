use Rattle.std.proofs.Common.{ℕ, nat_lt, length, sym, ap, ◌∙◌}
use Rattle.std.specs.BTreeMap.{keys}
use Rattle.std.specs.List.{filter}
use Rattle.gup_plain.specs.Pages.{page_numbers}
use Rattle.gup_exec_parts.proofs.CountedPages.{counted_keys}
use Rattle.gup_exec_parts.proofs.SpaceLemmas.{page_numbers-is}
use Rattle.gup_exec_rows.proofs.grid.count.Goals as goal

pub returns : goal.returns
returns g c =
    c.count_numbers.ensures.count
    ∙ ap (λ (n : ℕ). length (filter (λ page. nat_lt page n) (keys c.args.row.now))) (sym page_numbers-is)
    ∙ sym (counted_keys page_numbers c.args.row.now c.count_numbers.ensures.ordered)
