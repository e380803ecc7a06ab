-- What a walk does that reads down a page's path: its events are a pin's, they say nothing, and what they find is the page's entry.
use Rattle.std.proofs.Common.{◌≡◌, ℕ, ◌==◌, ◌&&◌, Bool, true, false, if◌then◌else◌, List, [], ◌∷◌, length, Option, Some, None, refl, zero, suc}
use Rattle.gup_base.specs.declared.entry.Entry.{Entry}
use Rattle.gup_spec_tables.specs.Tables.{TreeValue}
use Rattle.gup_spec_tables.specs.Paths.{is_there, link_at, entry_at}
use Rattle.gup_spec_events.specs.Descent.{led_on, reads_on}
use Rattle.gup_law_events.specs.Law.{all_told}
use Rattle.gup_law_turns.proofs.CalmStates.{of_pin, AreTurnEvents, reading_link, reading_entry}

-- an entry that is read at the end of a path is the page's
pub entry_from : (v : TreeValue) (path : List ℕ) (page : ℕ) (e : Entry) → entry_at v path page ≡ Some e → v.entry page ≡ Some e
entry_from v path page e is = go (is_there v path page && (length path == 3)) is
  where
    go : (whole : Bool) → (if whole then v.entry page else None) ≡ Some e → v.entry page ≡ Some e
    go true found = found
    go false found = absurd (cc found)

-- the events are those of the turn of a pin

led_are : (v : TreeValue) (a p handle : ℕ) (write long : Bool) (sequence page n : ℕ) (path : List ℕ) (next : Option ℕ) → ((table : ℕ) → AreTurnEvents a p p (of_pin handle) (reads_on v a p write long sequence page n (table ∷ path))) → AreTurnEvents a p p (of_pin handle) (led_on (λ table. reads_on v a p write long sequence page n (table ∷ path)) next)
led_are v a p handle write long sequence page n path None are = tt
led_are v a p handle write long sequence page n path (Some table) are = are table

pub readings_are : (v : TreeValue) (a p handle : ℕ) (write long : Bool) (sequence page n : ℕ) (path : List ℕ) → AreTurnEvents a p p (of_pin handle) (reads_on v a p write long sequence page n path)
readings_are v a p handle write long sequence page zero path = (reading_entry handle refl write long sequence page path (entry_at v path page), tt)
readings_are v a p handle write long sequence page (suc n) path = (
  reading_link handle refl write long sequence page path (link_at v path page),
  led_are v a p handle write long sequence page n path (link_at v path page) (λ table. readings_are v a p handle write long sequence page n (table ∷ path)),
)

-- no plain event stands at them

led_silent : (v : TreeValue) (a p : ℕ) (write long : Bool) (sequence page n : ℕ) (path : List ℕ) (next : Option ℕ) → ((table : ℕ) → all_told (reads_on v a p write long sequence page n (table ∷ path)) ≡ []) → all_told (led_on (λ table. reads_on v a p write long sequence page n (table ∷ path)) next) ≡ []
led_silent v a p write long sequence page n path None silent = refl
led_silent v a p write long sequence page n path (Some table) silent = silent table

pub readings_silent : (v : TreeValue) (a p : ℕ) (write long : Bool) (sequence page n : ℕ) (path : List ℕ) → all_told (reads_on v a p write long sequence page n path) ≡ []
readings_silent v a p write long sequence page zero path = refl
readings_silent v a p write long sequence page (suc n) path =
    led_silent v a p write long sequence page n path (link_at v path page) (λ table. readings_silent v a p write long sequence page n (table ∷ path))
