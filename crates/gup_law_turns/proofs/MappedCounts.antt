-- How many pages are mapped, and how many from a page on, when mappings change.
use Rattle.std.proofs.Common.{◌≡◌, ℕ, ◌+◌, ◌-◌, ◌<◌, ◌≤◌, ◌==◌, ◌&&◌, Bool, true, false, IsSome, is_some, nat_le, if◌then◌else◌, Option, Some, None, refl, ap, sym, subst, arith}
use Rattle.std.proofs.lemmas.Bool.Decides.{nat_tests}
use Rattle.gup_base.specs.declared.entry.Rights.{Rights}
use Rattle.gup_plain.specs.Put.{put, spread, within}
use Rattle.gup_plain.specs.Event.{page_numbers}
use Rattle.gup_spec_turns.specs.Cost.{LosesPage}
use Rattle.gup_plain.specs.Pages.{mapped_pages}
use Rattle.gup_spec_turns.specs.Pages.{pages_from}
use Rattle.gup_law_turns.proofs.Puts.{put_same, within_offset}
use Rattle.gup_law_turns.proofs.Sums.{sum_le, sum_less, sum_spread, sum_zero}

-- one where the page is mapped
abbrev pub counted : Option Rights → ℕ
counted right = if is_some right then 1 else 0

counted_most : (o : Option Rights) (m : ℕ) → counted o ≤ m + 1
counted_most None m = omega arith
counted_most (Some rights) m = omega arith

counted_some : (o : Option Rights) → IsSome o → (rights : Rights) → counted (Some rights) ≤ counted o
counted_some None named rights = absurd (cc)
counted_some (Some old) named rights = omega arith

spread_outside : (page n : ℕ) (rights : Rights) (f : ℕ → Option Rights) (k : ℕ) → within page n k ≡ false → counted (spread page n (λ _. Some rights) f k) ≡ counted (f k)
spread_outside page n rights f k outside = rw outside refl

-- a mapping adds n at most
pub mapped_spread : (page n : ℕ) (rights : Rights) (f : ℕ → Option Rights) → mapped_pages (spread page n (λ _. Some rights) f) ≤ mapped_pages f + n
mapped_spread page n rights f =
    sum_spread page_numbers page n (λ k. counted (spread page n (λ _. Some rights) f k)) (λ k. counted (f k))
    (λ k outside. omega (arith, spread_outside page n rights f k outside))
    (λ k. counted_most (spread page n (λ _. Some rights) f k) (counted (f k)))

-- other rights of mapped pages add none
pub mapped_same : (page n : ℕ) (rights : Rights) (f : ℕ → Option Rights) → ((k : ℕ) → k < n → IsSome (f (page + k))) → mapped_pages (spread page n (λ _. Some rights) f) ≤ mapped_pages f
mapped_same page n rights f named = sum_le page_numbers (λ k. counted (spread page n (λ _. Some rights) f k)) (λ k. counted (f k)) (λ k. go k (within page n k) refl)
  where
    go : (k : ℕ) (c : Bool) → within page n k ≡ c → counted (if c then Some rights else f k) ≤ counted (f k)
    go k true is =
        let at = within_offset page n k is in
        counted_some (f k) (subst (λ (g : ℕ). IsSome (f g)) at.1 (named (k - page) at.0)) rights
    go k false is = omega arith

counted_put : (page k : ℕ) (f : ℕ → Option Rights) → counted (put page None f k) ≤ counted (f k)
counted_put page k f = go (k == page)
  where
    go : (c : Bool) → counted (if c then None else f k) ≤ counted (f k)
    go true = omega arith
    go false = omega arith

counted_named : (o : Option Rights) → IsSome o → counted o ≡ 1
counted_named None named = absurd (cc)
counted_named (Some rights) named = refl

-- a page that goes takes one, if it was mapped
pub mapped_put : (page : ℕ) (f : ℕ → Option Rights) → mapped_pages (put page None f) ≤ mapped_pages f
mapped_put page f = sum_le page_numbers (λ k. counted (put page None f k)) (λ k. counted (f k)) (λ k. counted_put page k f)

pub mapped_lost : (before after : ℕ → Option Rights) → LosesPage before after → mapped_pages after < mapped_pages before
mapped_lost before after lost =
    let page : ℕ = lost.0 in
    let none : counted (put page None before page) ≡ 0 = ap counted (put_same page None before) in
    let some = counted_named (before page) lost.2 in
    let less = sum_less page_numbers (λ k. counted (put page None before k)) (λ k. counted (before k)) page lost.1 (λ k. counted_put page k before) (omega (arith, none, some)) in
    subst (λ (f : ℕ → Option Rights). mapped_pages f < mapped_pages before) (sym lost.3) less

-- where no page is mapped
pub mapped_none : (f : ℕ → Option Rights) → ((k : ℕ) → f k ≡ None) → mapped_pages f ≡ 0
mapped_none f none = sum_zero page_numbers (λ k. counted (f k)) (λ k. ap counted (none k))

-- the mapped pages from one on

counted_from : (from : ℕ) (f : ℕ → Option Rights) (k : ℕ) → (if nat_le from k && is_some (f k) then 1 else 0) ≤ counted (f k)
counted_from from f k = go (nat_le from k)
  where
    go : (c : Bool) → (if c && is_some (f k) then 1 else 0) ≤ counted (f k)
    go true = omega arith
    go false = omega arith

-- are no more than all
pub pages_few : (from : ℕ) (f : ℕ → Option Rights) → pages_from f from ≤ mapped_pages f
pages_few from f =
    sum_le page_numbers (λ k. if nat_le from k && is_some (f k) then 1 else 0) (λ k. counted (f k)) (λ k. counted_from from f k)

-- and fewer from after a mapped page on
pub pages_behind : (from page : ℕ) (f : ℕ → Option Rights) → from ≤ page → page < page_numbers → IsSome (f page) → pages_from f (page + 1) < pages_from f from
pages_behind from page f least below named =
    sum_less page_numbers (λ k. if nat_le (page + 1) k && is_some (f k) then 1 else 0) (λ k. if nat_le from k && is_some (f k) then 1 else 0) page below
    (λ k. fewer k (is_some (f k))) here
  where
    fewer : (k : ℕ) (c : Bool) → (if nat_le (page + 1) k && c then 1 else 0) ≤ (if nat_le from k && c then 1 else 0)
    fewer k c = grind (arith, nat_tests)

    here : (if nat_le (page + 1) page && is_some (f page) then 1 else 0) < (if nat_le from page && is_some (f page) then 1 else 0)
    here =
        let past : nat_le (page + 1) page ≡ false = grind (arith, nat_tests) in
        let at : nat_le from page ≡ true = grind (arith, nat_tests) in
        let one : counted (f page) ≡ 1 = counted_named (f page) named in
        rw (past, at) (omega (arith, one))
