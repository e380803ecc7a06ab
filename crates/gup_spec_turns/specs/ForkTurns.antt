-- The turns of a fork: its beginning, and then page by page.
use Rattle.std.specs.Prelude.{ℕ, ◌+◌, ◌-◌, nat_lt, Bool, true, false, List, [], ◌∷◌, Option, Some, None, is_some}
use Rattle.gup_base.specs.declared.entry.Allowed.TheVariants.{Any}
use Rattle.gup_base.specs.declared.entry.Entry.{Entry}
use Rattle.gup_base.specs.declared.entry.Rights.{Rights}
use Rattle.gup_base.specs.declared.entry.Rights.TheVariants.{R}
use Rattle.gup_plain.specs.Event.{page_numbers, words}
use Rattle.gup_plain.specs.Put.{lowest}
use Rattle.gup_plain.specs.declared.answer.Answer.TheVariants as answers
use Rattle.gup_plain.specs.declared.event.PlainEvent.TheVariants as events
use Rattle.gup_plain.specs.declared.note.What.TheVariants.{Silent, Event}
use Rattle.gup_spec_events.specs.State.{CoreState, Job, idle, forking, ForkStep, between, counted, copying}
use Rattle.gup_spec_events.specs.Event.{take_frame, begin_fork, count_page, share_entry, share_mark, share_child, copy_word, place_child, pass_page, end_fork, copies_page, has_tables}
use Rattle.gup_spec_events.specs.Failure.{fails}
use Rattle.gup_spec_turns.specs.CoreTurn.{CoreTurn, frame_for, frame_in, allows_store, entry_in, ends_with}

-- fork: its beginning, and then page by page

-- where a fork of which these pages are done, the last in front, looks for the next one
abbrev pub first_behind : List ℕ → ℕ
first_behind [] = 0
first_behind (page ∷ done) = page + 1

-- the next page: the lowest mapped one after those that are done
abbrev pub next_page : (right : ℕ → Option Rights) → (done : List ℕ) → Option ℕ
next_page right done =
    lowest (first_behind done) (page_numbers - first_behind done) (λ page. is_some (right page))

-- A page without an entry is passed. The count of any other is read: it is to be copied where its frame is exclusive, the
-- process has pinned, and the frame may be pinned, and else to be shared.
abbrev pub page_turn : CoreState → (a p c : ℕ) → List ℕ → (page : ℕ) → Option Entry → CoreTurn
page_turn s a p c done page None =
    record { events = pass_page a p c done page ∷ []; whats = Event (events.ForkPage p c page) ∷ [] }
page_turn s a p c done page (Some e) =
    record { events = count_page a p c done page e (copies_page s p e.frame) ∷ []; whats = Silent ∷ [] }

-- where no page is left the fork ends
abbrev pub next_turn : CoreState → (a p c : ℕ) → List ℕ → Option ℕ → CoreTurn
next_turn s a p c done None = ends_with (end_fork a p c done ∷ []) (events.ForkEnd p c) answers.Plain
next_turn s a p c done (Some page) = page_turn s a p c done page (s.entry p page)

-- at this step the fork fails, and gives back what its child has
abbrev pub failed_at : CoreState → (a p c : ℕ) → List ℕ → ForkStep → CoreTurn
failed_at s a p c done step = ends_with (fails a p c done step (s.entry c)) (events.ForkFail c) answers.NoFrame

-- The counted page is shared: the parent's entry becomes read-only, the mark goes, the child gets its entry. Where the child
-- lacks a table for the page the fork fails.
abbrev pub share_turn : CoreState → (a p c : ℕ) → List ℕ → (page : ℕ) → Option Entry → (may : Bool) → CoreTurn
share_turn s a p c done page entry false = failed_at s a p c done (counted page)
share_turn s a p c done page entry true =
    let f = frame_in entry in
    record {
      events =
          share_entry a p c done page f (allows_store entry) ∷ share_mark a p c done page f false
          ∷ share_child a p c done page f false ∷ [];
      whats = Event (events.ForkPage p c page) ∷ [];
    }

-- The counted page is copied: first a frame is taken for it. Where none is found the fork fails.
abbrev pub frame_turn : CoreState → (a p c : ℕ) → List ℕ → (page word : ℕ) → (free : Option ℕ) → CoreTurn
frame_turn s a p c done page word None = failed_at s a p c done (copying page word)
frame_turn s a p c done page word (Some f) = record { events = take_frame a f ∷ []; whats = Silent ∷ [] }

abbrev pub rights_in : Option Rights → Rights
rights_in None = R
rights_in (Some rights) = rights

-- then it is copied word by word, as each word is now, and at last the copy goes into the child's entry
abbrev pub copy_turn : CoreState → (a p c : ℕ) → List ℕ → (page word to : ℕ) → (more : Bool) → CoreTurn
copy_turn s a p c done page word to true =
    record {
      events = copy_word a p c done page word to (entry_in (s.entry p page)) ∷ [];
      whats = Event (events.ForkWord p c page word) ∷ [];
    }
copy_turn s a p c done page word to false =
    record { events = place_child a p c done page to (rights_in (s.right c page)) ∷ []; whats = Silent ∷ [] }

-- a page of which so many words are copied, into the frame that is taken for it
abbrev pub copying_turn : CoreState → (a p c : ℕ) → List ℕ → (page word : ℕ) → (prepared : Option ℕ) → CoreTurn
copying_turn s a p c done page word None = frame_turn s a p c done page word (frame_for s c page Any)
copying_turn s a p c done page word (Some to) = copy_turn s a p c done page word to (nat_lt word words)

-- no turn ends within a share, nor within a failure
abbrev pub fork_step_turn : CoreState → (a p c : ℕ) → List ℕ → ForkStep → CoreTurn
fork_step_turn s a p c done between = next_turn s a p c done (next_page (s.right c) done)
fork_step_turn s a p c done (counted page) = share_turn s a p c done page (s.entry p page) (has_tables s c page)
fork_step_turn s a p c done (copying page word) = copying_turn s a p c done page word (s.prepared a)
fork_step_turn s a p c done step = record { events = []; whats = Silent ∷ [] }

abbrev pub fork_turn : CoreState → (a p child : ℕ) → Job → CoreTurn
fork_turn s a p child (forking q c done step) = fork_step_turn s a p child done step
fork_turn s a p child idle =
    record { events = begin_fork a p child ∷ []; whats = Event (events.ForkBegin p child) ∷ [] }
fork_turn s a p child job = record { events = []; whats = Silent ∷ [] }
