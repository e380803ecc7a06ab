-- Operations that go page by page, and transfers: whatever notes of their shapes say ends them.
use Rattle.std.proofs.Common.{◌≡◌, ℕ, ◌+◌, ◌<◌, ◌≤◌, ◌&&◌, nat_lt, nat_le, inl, inr, Bool, true, false, List, [], ◌∷◌, Some, zero, suc, refl, ◌∙◌, ap, arith}
use Rattle.std.proofs.lemmas.Bool.Decides.{nat_tests}
use Rattle.gup_base.specs.Parts.{Part, words_of, word_at}
use Rattle.gup_plain.specs.declared.answer.Answer.TheVariants as answers
use Rattle.gup_plain.specs.declared.event.PlainEvent.{PlainEvent}
use Rattle.gup_plain.specs.declared.event.PlainEvent.TheVariants as events
use Rattle.gup_plain.specs.declared.note.What.TheVariants.{Silent, Event, Done}
use Rattle.gup_script.specs.Limits.{most_words}
use Rattle.gup_script.specs.declared.op.Op.{Op}
use Rattle.gup_script.specs.declared.op.Op.TheVariants.{Unmap, Discard, Unpin, Transfer, Exit}
use Rattle.gup_spec_journal.specs.Follows.{Who, IsTurn, TakesDownAll, TakesDownWhole, Unpins, moves_word, MovesWords}
use Rattle.gup_check_course.specs.declared.course.Course.{Course}
use Rattle.gup_check_course.specs.declared.course.Course.TheVariants.{Start, Taking, Moved, Closing}
use Rattle.gup_check_course.specs.declared.course.Step.TheVariants.{On, Ended}
use Rattle.gup_check_course.specs.Arcs.{on_answer, taken, next_of, moved, has_word, takes_down}
use Rattle.gup_check_course.proofs.Finish.{event_taken}
use Rattle.gup_check_course.proofs.Passing.{Ends, then_ends, silent_passes, event_passes, answer_ends, both_end}
use Rattle.gup_check_course.proofs.Reaching.{word_there, word_moved, last_moved, more_moved, down_answered}

-- From this course the pages from `next` on may be taken down, and the operation may end.
abbrev pub TakesFrom : Who → Op → (event : ℕ → PlainEvent) → (end : ℕ) → Course → (next : ℕ) → Type 0
TakesFrom who op event end course next =
    ((page : ℕ) → next ≤ page → page < end → next_of who op course (Event (event page)) ≡ Some (On (Taking (page + 1))))
    × (next_of who op course (Done answers.Plain) ≡ Some Ended)

takes_down_ends : (who : Who) (op : Op) (event : ℕ → PlainEvent) (end : ℕ) → ((m : ℕ) → TakesFrom who op event end (Taking m) m) → (page n : ℕ) (course : Course) (next : ℕ) → next ≤ page → page + n ≡ end → TakesFrom who op event end course next → Ends who op (TakesDownAll who event page n) course
takes_down_ends who op event end later page zero course next before all from notes is = absurd is
takes_down_ends who op event end later page (suc zero) course next before all from notes (inl is) =
    both_end who op (event page) answers.Plain course (Taking (page + 1)) (from.0 page before (omega arith)) (later (page + 1)).1 notes is
takes_down_ends who op event end later page (suc zero) course next before all from notes (inr is) =
    answer_ends who op answers.Plain course from.1 notes is
takes_down_ends who op event end later page (suc (suc n)) course next before all from notes (front, rest, is, apart, inl first, second) =
    then_ends who op (IsTurn who (Event (event page) ∷ [])) (TakesDownAll who event (page + 1) (suc n)) course (Taking (page + 1))
    (event_passes who op (event page) course (Taking (page + 1)) (from.0 page before (omega arith)))
    (takes_down_ends who op event end later (page + 1) (suc n) (Taking (page + 1)) (page + 1) (omega arith) (omega arith) (later (page + 1))) notes
    (front, rest, is, apart, first, second)
takes_down_ends who op event end later page (suc (suc n)) course next before all from notes (front, rest, is, apart, inr first, second) =
    then_ends who op (IsTurn who (Silent ∷ [])) (TakesDownAll who event (page + 1) (suc n)) course course (silent_passes who op course)
    (takes_down_ends who op event end later (page + 1) (suc n) course next (omega arith) (omega arith) from) notes
    (front, rest, is, apart, first, second)

in_pages : (next page end : ℕ) → next ≤ page → page < end → (nat_le next page && nat_lt page end) ≡ true
in_pages next page end before within = grind (arith, nat_tests)

page_unmapped : (who : Who) (end next page : ℕ) → next ≤ page → page < end → taken (Event (events.Unmap who.actor who.proc page)) (takes_down (events.Unmap who.actor who.proc) next end (Event (events.Unmap who.actor who.proc page))) ≡ Some (On (Taking (page + 1)))
page_unmapped who end next page before within =
    event_taken (nat_le next page && nat_lt page end) (events.Unmap who.actor who.proc page) (Taking (page + 1)) (on_answer true answers.Plain ∷ []) (in_pages next page end before within)

page_discarded : (who : Who) (end next page : ℕ) → next ≤ page → page < end → taken (Event (events.Discard who.actor who.proc page)) (takes_down (events.Discard who.actor who.proc) next end (Event (events.Discard who.actor who.proc page))) ≡ Some (On (Taking (page + 1)))
page_discarded who end next page before within =
    event_taken (nat_le next page && nat_lt page end) (events.Discard who.actor who.proc page) (Taking (page + 1)) (on_answer true answers.Plain ∷ []) (in_pages next page end before within)

pub unmap_ends : (who : Who) (page n : ℕ) → Ends who (Unmap page n) (TakesDownAll who (events.Unmap who.actor who.proc) page n) Start
unmap_ends who page n =
    let event : ℕ → PlainEvent = events.Unmap who.actor who.proc in
    takes_down_ends who (Unmap page n) event (page + n) (λ m. (page_unmapped who (page + n) m, down_answered event m (page + n))) page n Start page (omega arith) refl
    (page_unmapped who (page + n) page, down_answered event page (page + n))

pub discard_ends : (who : Who) (page n : ℕ) → Ends who (Discard page n) (TakesDownAll who (events.Discard who.actor who.proc) page n) Start
discard_ends who page n =
    let event : ℕ → PlainEvent = events.Discard who.actor who.proc in
    takes_down_ends who (Discard page n) event (page + n) (λ m. (page_discarded who (page + n) m, down_answered event m (page + n))) page n Start page (omega arith) refl
    (page_discarded who (page + n) page, down_answered event page (page + n))

whole_ends : (who : Who) (pages : ℕ) (course : Course) → ((page : ℕ) → next_of who Exit course (Event (events.Unmap who.actor who.proc page)) ≡ Some (On (Taking 0))) → next_of who Exit course (Done answers.Plain) ≡ Some Ended → Ends who Exit (TakesDownWhole who pages) course
whole_ends who zero course from ends notes is = answer_ends who Exit answers.Plain course ends notes is
whole_ends who (suc pages) course from ends notes is =
    then_ends who Exit (IsTurn who (Event (events.Unmap who.actor who.proc is.0) ∷ [])) (TakesDownWhole who pages) course (Taking 0)
    (event_passes who Exit (events.Unmap who.actor who.proc is.0) course (Taking 0) (from is.0))
    (whole_ends who pages (Taking 0) (λ page. event_taken true (events.Unmap who.actor who.proc page) (Taking 0) (on_answer true answers.Plain ∷ []) refl) refl) notes is.1

pub exit_ends : (who : Who) (pages : ℕ) → Ends who Exit (TakesDownWhole who pages) Start
exit_ends who pages =
    whole_ends who pages Start (λ page. event_taken true (events.Unmap who.actor who.proc page) (Taking 0) (on_answer true answers.Plain ∷ []) refl) refl

pub unpin_ends : (who : Who) (handle more : ℕ) → Ends who (Unpin handle) (Unpins who handle more) Start
unpin_ends who handle zero notes is =
    both_end who (Unpin handle) (events.Unpin who.actor handle) answers.Plain Start (Closing answers.Plain) (event_taken true (events.Unpin who.actor handle) (Closing answers.Plain) [] refl) refl notes is
unpin_ends who handle (suc more) notes is =
    then_ends who (Unpin handle) (IsTurn who (Silent ∷ [])) (Unpins who handle more) Start Start (silent_passes who (Unpin handle) Start) (unpin_ends who handle more) notes is

-- the words of a transfer

words_end : (who : Who) (handle : ℕ) (outward : Bool) (slot : ℕ) (parts : List Part) (k left : ℕ) (course : Course) → k + left ≡ words_of parts → words_of parts ≤ most_words → ((value : ℕ) → next_of who (Transfer handle outward slot parts) course (Event (moves_word who.actor handle outward (word_at parts k) (slot + k) value)) ≡ Some (On (moved (k + 1) (words_of parts)))) → Ends who (Transfer handle outward slot parts) (MovesWords who handle outward slot parts k left) course
words_end who handle outward slot parts k zero course all few from notes is = absurd is
words_end who handle outward slot parts k (suc zero) course all few from notes is =
    both_end who (Transfer handle outward slot parts) (moves_word who.actor handle outward (word_at parts k) (slot + k) is.0) answers.Words course (Closing answers.Words)
    (from is.0 ∙ ap (λ (c : Course). Some (On c)) (last_moved (k + 1) (words_of parts) (omega arith))) refl notes is.1
words_end who handle outward slot parts k (suc (suc left)) course all few from notes is =
    then_ends who (Transfer handle outward slot parts) (IsTurn who (Event (moves_word who.actor handle outward (word_at parts k) (slot + k) is.0) ∷ []))
    (MovesWords who handle outward slot parts (k + 1) (suc left)) course (Moved (k + 1))
    (event_passes who (Transfer handle outward slot parts) (moves_word who.actor handle outward (word_at parts k) (slot + k) is.0) course (Moved (k + 1))
    (from is.0 ∙ ap (λ (c : Course). Some (On c)) (more_moved (k + 1) (words_of parts) (omega arith))))
    (words_end who handle outward slot parts (k + 1) (suc left) (Moved (k + 1)) (omega arith) few
    (λ value. word_moved who handle outward slot parts (k + 1) value (omega arith) few))
    notes is.1

first_word : (who : Who) (handle : ℕ) (outward : Bool) (slot : ℕ) (parts : List Part) (value : ℕ) → 0 < words_of parts → words_of parts ≤ most_words → next_of who (Transfer handle outward slot parts) Start (Event (moves_word who.actor handle outward (word_at parts 0) (slot + 0) value)) ≡ Some (On (moved (0 + 1) (words_of parts)))
first_word who handle true slot parts value some few =
    event_taken (has_word parts 0) (moves_word who.actor handle true (word_at parts 0) (slot + 0) value) (moved (0 + 1) (words_of parts)) [] (word_there parts 0 some few)
first_word who handle false slot parts value some few =
    event_taken (has_word parts 0) (moves_word who.actor handle false (word_at parts 0) (slot + 0) value) (moved (0 + 1) (words_of parts)) [] (word_there parts 0 some few)

pub transfer_ends : (who : Who) (handle : ℕ) (outward : Bool) (slot : ℕ) (parts : List Part) → 0 < words_of parts → words_of parts ≤ most_words → Ends who (Transfer handle outward slot parts) (MovesWords who handle outward slot parts 0 (words_of parts)) Start
transfer_ends who handle outward slot parts some few =
    words_end who handle outward slot parts 0 (words_of parts) Start (omega arith) few (λ value. first_word who handle outward slot parts value some few)
