-- Which core events the failure of a fork is: the child fails, and the references of its entries are given back from the
-- lowest page up. The event that leaves the child no entry ends the fork.
use Rattle.std.specs.Prelude.{ℕ, ◌+◌, ◌&&◌, not, Bool, true, is_some, List, [], ◌∷◌, ◌++◌, Option, Some, None, zero, suc}
use Rattle.gup_base.specs.declared.entry.Entry.{Entry}
use Rattle.gup_plain.specs.Event.{page_numbers}
use Rattle.gup_spec_events.specs.State.{ForkStep}
use Rattle.gup_spec_events.specs.Event.{CoreEvent, fail_fork, put_child}

-- has none of the n pages from the first on an entry?
abbrev pub are_gone : (ℕ → Option Entry) → (first n : ℕ) → Bool
are_gone entry first zero = true
are_gone entry first (suc n) = not (is_some (entry first)) && are_gone entry (first + 1) n

-- the reference of a page's entry is given back; `ends`: no page after it has an entry
abbrev pub puts_entry : (a p c : ℕ) → List ℕ → (page : ℕ) → Option Entry → (ends : Bool) → List CoreEvent
puts_entry a p c done page None ends = []
puts_entry a p c done page (Some e) ends = put_child a p c done page e ends ∷ []

-- those of the n pages from the first on
abbrev pub puts_entries : (a p c : ℕ) → List ℕ → (ℕ → Option Entry) → (first n : ℕ) → List CoreEvent
puts_entries a p c done entry first zero = []
puts_entries a p c done entry first (suc n) =
    puts_entry a p c done first (entry first) (are_gone entry (first + 1) n) ++ puts_entries a p c done entry (first + 1) n

-- a failure at this step of the fork, where the child has these entries
abbrev pub fails : (a p c : ℕ) → List ℕ → ForkStep → (ℕ → Option Entry) → List CoreEvent
fails a p c done step entry =
    fail_fork a p c done step (are_gone entry 0 page_numbers) ∷ puts_entries a p c done entry 0 page_numbers
