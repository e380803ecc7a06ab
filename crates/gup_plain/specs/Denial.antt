-- The answers by which the plain state denies an operation, by what the operation asks for: each is the first that
-- applies, and none where the operation is not denied.
use Rattle.std.specs.Prelude.{ℕ, ◌+◌, ◌*◌, ◌==◌, Bool, true, false, not, ◌||◌, ◌&&◌, nat_lt, nat_le, is_some, if◌then◌else◌, List, length, Option, Some, None, zero, suc}
use Rattle.std.specs.List.{list_all}
use Rattle.gup_base.specs.Parts.{Part, words_of}
use Rattle.gup_base.specs.declared.entry.Rights.{Rights}
use Rattle.gup_base.specs.declared.entry.Rights.TheVariants.{R, RW}
use Rattle.gup_plain.specs.State.{Birth, failed, Handle, held, objects_of}
use Rattle.gup_plain.specs.Event.{most_pages, words, may_write}
use Rattle.gup_plain.specs.declared.answer.Answer.{Answer}
use Rattle.gup_plain.specs.declared.answer.Answer.TheVariants.{Missing, Forbidden, NotHeld, Range, Overlap, Full, Unborn}

-- does the test hold of a number below n?
abbrev pub any_below : ℕ → (ℕ → Bool) → Bool
any_below zero test = false
any_below (suc n) test = any_below n test || test n

-- is one of the n pages from the first on mapped, or not mapped?
abbrev pub any_mapped : (ℕ → Option Rights) → (page n : ℕ) → Bool
any_mapped right page n = any_below n (λ k. is_some (right (page + k)))

abbrev pub any_unmapped : (ℕ → Option Rights) → (page n : ℕ) → Bool
any_unmapped right page n = any_below n (λ k. not (is_some (right (page + k))))

-- Every operation that is of a process or names one, but for the child of a fork: first that the process failed to
-- come into being.
abbrev pub denial_at : Birth → Option Answer → Option Answer
denial_at failed denial = Some Unborn
denial_at birth denial = denial

-- a page with these rights, to be read (load, get, mirror, move, a read pin) or written (store, a write pin)
abbrev pub load_denial : Option Rights → Option Answer
load_denial None = Some Missing
load_denial (Some rights) = None

abbrev pub store_denial : Option Rights → Option Answer
store_denial None = Some Missing
store_denial (Some R) = Some Forbidden
store_denial (Some RW) = None

abbrev pub pin_denial : (write : Bool) → Option Rights → Option Answer
pin_denial true rights = store_denial rights
pin_denial false rights = load_denial rights

-- a mapping of n pages: first that one of them is mapped, then that there would be too many
abbrev pub map_denial : (overlaps : Bool) (pages n : ℕ) → Option Answer
map_denial true pages n = Some Overlap
map_denial false pages n = if nat_lt most_pages (pages + n) then Some Full else None

abbrev pub protect_denial : (lacks : Bool) → Option Answer
protect_denial true = Some Missing
protect_denial false = None

-- a handle (unpin, give), or a reference (put), that the actor doesn't hold
abbrev pub is_held_by : Handle → ℕ → Bool
is_held_by (held by objects write) a = by == a
is_held_by handle a = false

abbrev pub holder_denial : (holds : Bool) → Option Answer
holder_denial true = None
holder_denial false = Some NotHeld

-- A transfer of words, in parts. The words of a handle's pages are one row; the slots of the store go on from the first
-- without a gap.
abbrev pub has_words : (pages : ℕ) → List Part → Bool
has_words pages parts = list_all (λ (part : Part). nat_le (part.0 + part.1) (words * pages)) parts

abbrev pub has_slots : (slots first : ℕ) → List Part → Bool
has_slots slots first parts = nat_le (first + words_of parts) slots

abbrev pub range_denial : (fits : Bool) → Option Answer
range_denial true = None
range_denial false = Some Range

abbrev pub write_denial : (may : Bool) → Option Answer → Option Answer
write_denial true denial = denial
write_denial false denial = Some Forbidden

abbrev pub transfer_denial_by : (holds outward may fits : Bool) → Option Answer
transfer_denial_by false outward may fits = Some NotHeld
transfer_denial_by true true may fits = range_denial fits
transfer_denial_by true false may fits = write_denial may (range_denial fits)

abbrev pub transfer_denial : Handle → (actor : ℕ) → (outward : Bool) → (slots first : ℕ) → List Part → Option Answer
transfer_denial h actor outward slots first parts =
    transfer_denial_by (is_held_by h actor) outward (may_write h)
    (has_words (length (objects_of h)) parts && has_slots slots first parts)

-- is it one of the answers that the plain state decides?
abbrev pub is_denial : Answer → Bool
is_denial Missing = true
is_denial Forbidden = true
is_denial NotHeld = true
is_denial Range = true
is_denial Overlap = true
is_denial Full = true
is_denial Unborn = true
is_denial _ = false
