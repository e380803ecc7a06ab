-- How many turns a run has at most still to take, those aside that wait or are idle.
use Rattle.std.specs.Prelude.{◌≡◌, ℕ, ◌+◌, ◌-◌, ◌*◌, ◌<◌, ◌⊎◌, Bool, true, false, IsSome, List, [], ◌∷◌, length, sum_by, Option, None, zero, suc}
use Rattle.gup_base.specs.Parts.{words_of}
use Rattle.gup_base.specs.declared.entry.Rights.{Rights}
use Rattle.gup_plain.specs.Event.{most_pages, page_numbers, words}
use Rattle.gup_plain.specs.Put.{put}
use Rattle.gup_script.specs.declared.op.Op.{Op}
use Rattle.gup_script.specs.declared.op.Op.TheVariants.{Map, Unmap, Discard, Pin, Unpin, Transfer, Move, Fork, Exit}
use Rattle.gup_plain.specs.State.{objects_of}
use Rattle.gup_script.specs.Limits.{most_pinned}
use Rattle.gup_script.specs.Script.{ScriptValue, Actor}
use Rattle.gup_spec_journal.specs.Place.{Place, ops_of, process_of}
use Rattle.gup_spec_events.specs.State.{CoreState, unread}
use Rattle.gup_plain.specs.Pages.{sum_below, mapped_pages}
use Rattle.gup_spec_turns.specs.Pages.{pages_from}
use Rattle.gup_spec_turns.specs.Run.{RunState, run_after}
use Rattle.gup_spec_turns.specs.JobPlace.{JobPlace, place_in, from_page, at_page, wants_frame, at_word, moving_page}

-- the turns that a fork has at most still to take: 515 a page of the child that is copied, and its end
abbrev pub fork_turns : (right : ℕ → Option Rights) → JobPlace → ℕ
fork_turns right (from_page page) = 515 * pages_from right page + 1
fork_turns right (at_page page) = 515 * pages_from right (page + 1) + 2
fork_turns right (wants_frame page) = 515 * pages_from right (page + 1) + 515
fork_turns right (at_word page word to) = 515 * pages_from right (page + 1) + (words - word) + 2
fork_turns right place = 515 * most_pages + 2

-- those, with what the child's pages may cost an exit
abbrev pub fork_left : (right : ℕ → Option Rights) → JobPlace → ℕ
fork_left right (from_page page) = fork_turns right (from_page page)
fork_left right (at_page page) = fork_turns right (at_page page)
fork_left right (wants_frame page) = fork_turns right (wants_frame page)
fork_left right (at_word page word to) = fork_turns right (at_word page word to)
fork_left right place = fork_turns right place + most_pages

-- the turns that a move still takes, if it isn't refused: it clears, counts, and places
abbrev pub move_turns : JobPlace → ℕ
move_turns (moving_page page e unread) = 2
move_turns (moving_page page e count) = 1
move_turns place = 3

-- the turns that so many pages of a pin take: one each, or three if they are kept for long, and so may have to be moved
abbrev pub pin_turns : (long : Bool) → (pages : ℕ) → ℕ
pin_turns true pages = 3 * pages
pin_turns false pages = pages

-- those of the walk of a pin of n pages, if it walks: two before the first page, four a page, one after the last, and one for each
-- page that is dropped
abbrev pub walk_turns : (fast : Bool) → (n : ℕ) → ℕ
walk_turns true n = 5 * n + 3
walk_turns false n = 0

-- those of a pin of n pages
abbrev pub pins_turns : (fast long : Bool) → (n : ℕ) → ℕ
pins_turns fast long n = walk_turns fast n + pin_turns long n

-- the turns of an operation, with those that the pages which it maps may cost an exit
abbrev pub op_cost : Op → ℕ
op_cost (Map page n rights) = n + 1
op_cost (Unmap page n) = n
op_cost (Discard page n) = n
op_cost (Pin handle page n want fast) = pins_turns fast want.long n
op_cost (Unpin handle) = most_pinned
op_cost (Transfer handle outward slot parts) = words_of parts
op_cost (Move proc page zone) = 3
op_cost (Fork child) = 516 * most_pages + 2
op_cost op = 1

-- the same of one that actor a is in the middle of, of which so many turns are over
abbrev pub op_left : CoreState → (a : ℕ) → Op → (far : ℕ) → ℕ
op_left s a (Map page n rights) far = n + 1
op_left s a (Unmap page n) far = n - far
op_left s a (Discard page n) far = n - far
op_left s a (Pin handle page n want fast) far = pins_turns fast want.long n - far
op_left s a (Unpin handle) far = most_pinned - far
op_left s a (Transfer handle outward slot parts) far = words_of parts - far
op_left s a (Move proc page zone) far = move_turns (place_in s a)
op_left s a (Fork child) far = fork_left (s.right child) (place_in s a)
op_left s a op far = 1

-- of the operations after those that are answered
abbrev pub left_cost : CoreState → (a : ℕ) → List Op → (answered far : ℕ) → ℕ
left_cost s a [] answered far = 0
left_cost s a (op ∷ ops) zero far = op_left s a op far + sum_by op_cost ops
left_cost s a (op ∷ ops) (suc answered) far = left_cost s a ops answered far

abbrev pub actor_cost : ScriptValue → RunState → (a : ℕ) → ℕ
actor_cost script r a = left_cost r.core a (ops_of script a) (r.places a).answered (r.places a).far

-- The cost of a state of the core run: that of what each actor has left, and the mapped pages of all processes.
unfoldable pub cost : ScriptValue → RunState → ℕ
cost script r =
    sum_below (length script.actors) (actor_cost script r)
    + sum_below (length script.processes) (λ p. mapped_pages (r.core.right p))

-- how many operations a script has
abbrev pub operations : ScriptValue → ℕ
operations script = sum_by (λ (a : Actor). length a.ops) script.actors

-- how many of its operations are forks
abbrev pub is_fork : Op → ℕ
is_fork (Fork child) = 1
is_fork op = 0

abbrev pub forks : ScriptValue → ℕ
forks script = sum_by (λ (a : Actor). sum_by is_fork a.ops) script.actors

-- the pages that an operation maps by itself; a fork's child has its own beside those
abbrev pub mapped_by : Op → ℕ
mapped_by (Map page n rights) = n
mapped_by op = 0

-- those of all the script's mappings
abbrev pub map_pages : ScriptValue → ℕ
map_pages script = sum_by (λ (a : Actor). sum_by mapped_by a.ops) script.actors

-- How many turns an operation has at most, whoever takes turns in between: what goes over n pages or words n, a long pin and a move
-- 3 a page, the walk of a pin 5 a page and 3 before that, a fork 515 a page and its begin and end, an exit one for each page that its process has or that other threads map meanwhile, and its
-- answer.
abbrev pub most_turns_of : ScriptValue → Op → ℕ
most_turns_of script (Unmap page n) = n
most_turns_of script (Discard page n) = n
most_turns_of script (Pin handle page n want fast) = pins_turns fast want.long n
most_turns_of script (Unpin handle) = most_pinned
most_turns_of script (Transfer handle outward slot parts) = words_of parts
most_turns_of script (Move proc page zone) = 3
most_turns_of script (Fork child) = 515 * most_pages + 2
most_turns_of script Exit = map_pages script + most_pages + 1
most_turns_of script op = 1

-- The bounds on an operation's own turns, by what one of them brings.

-- it is answered, and the actor stands at its next one
abbrev pub IsAnswered : (place next : Place) → Type 0
IsAnswered place next = next ≡ record { answered = place.answered + 1; far = 0; had = false }

-- it has one turn more after it
abbrev pub GoesOn : (place next : Place) → Type 0
GoesOn place next = (next.answered ≡ place.answered) × (next.far ≡ place.far + 1)

-- one page that was mapped is so no more
abbrev pub LosesPage : (before after : ℕ → Option Rights) → Type 0
LosesPage before after = (page : ℕ) × (page < page_numbers) × IsSome (before page) × (after ≡ put page None before)

-- A mapping, a protection, a load, a store, a give, a take, a get and a put are answered in one turn, what goes over n pages or words in
-- the n-th at the latest, of a long pin the 3n-th, of one that walks 5n + 3 turns later, and so is an unpin of n pages; each turn of an exit but the one that answers it takes a page of
-- its process; each of a fork and of a move takes of its turns.
abbrev pub IsWithinBound : Op → (a p : ℕ) → (place next : Place) → (before after : CoreState) → Type 0
IsWithinBound (Unmap page n) a p place next before after =
    IsAnswered place next ⊎ (GoesOn place next × (next.far < n))
IsWithinBound (Discard page n) a p place next before after =
    IsAnswered place next ⊎ (GoesOn place next × (next.far < n))
IsWithinBound (Pin handle page n want fast) a p place next before after =
    IsAnswered place next ⊎ (GoesOn place next × (next.far < pins_turns fast want.long n))
IsWithinBound (Unpin handle) a p place next before after =
    IsAnswered place next ⊎ (GoesOn place next × (next.far < length (objects_of (before.handle handle))))
IsWithinBound (Transfer handle outward slot parts) a p place next before after =
    IsAnswered place next ⊎ (GoesOn place next × (next.far < words_of parts))
IsWithinBound (Move proc page zone) a p place next before after =
    IsAnswered place next ⊎ (GoesOn place next × (move_turns (place_in after a) < move_turns (place_in before a)))
IsWithinBound (Fork child) a p place next before after =
    IsAnswered place next
    ⊎ (GoesOn place next
    × (fork_turns (after.right child) (place_in after a) < fork_turns (before.right child) (place_in before a)))
IsWithinBound Exit a p place next before after =
    IsAnswered place next ⊎ (GoesOn place next × LosesPage (before.right p) (after.right p))
IsWithinBound op a p place next before after = IsAnswered place next

-- the actor's next turn is within the bound of its operation
abbrev pub IsBoundedTurn : ScriptValue → RunState → ℕ → Op → Type 0
IsBoundedTurn script r a op =
    IsWithinBound op a (process_of script a) (r.places a) ((run_after script r a).places a) r.core (run_after script r a).core
