-- Whatever notes of a fork's shape say ends it.
use Rattle.std.proofs.Common.{◌≡◌, ℕ, ◌+◌, ◌≤◌, nat_le, inl, inr, true, List, [], ◌∷◌, Some, zero, suc, refl, sym, ◌∙◌, subst, arith}
use Rattle.std.proofs.lemmas.Bool.Decides.{nat_tests}
use Rattle.gup_plain.specs.Event.{words}
use Rattle.gup_plain.specs.declared.answer.Answer.TheVariants as answers
use Rattle.gup_plain.specs.declared.event.PlainEvent.TheVariants as events
use Rattle.gup_plain.specs.declared.note.What.TheVariants.{Silent, Event, Done}
use Rattle.gup_script.specs.declared.op.Op.TheVariants.{Fork}
use Rattle.gup_spec_journal.specs.Follows.{Who, IsTurn, CopiesWords, CopiesFrom, CopiesPage, SharesOrCopies, ForksPage, ForksPages, Forks}
use Rattle.gup_check_course.specs.declared.course.Course.{Course}
use Rattle.gup_check_course.specs.declared.course.Course.TheVariants.{Start, Forking, Copying, Closing}
use Rattle.gup_check_course.specs.declared.course.Step.TheVariants.{On}
use Rattle.gup_check_course.specs.Arcs.{Arc, on_event, next_of, copied}
use Rattle.gup_check_course.proofs.Finish.{event_taken, passed_over}
use Rattle.gup_check_course.proofs.Passing.{Passes, Ends, then_ends, then_passes, silent_passes, event_passes, both_end}
use Rattle.gup_check_course.proofs.Reaching.{last_copied, more_copied, word_copied, fork_fails}

-- a page is shared, or its first word copied

page_forked : (who : Who) (child from page : ℕ) → from ≤ page → next_of who (Fork child) (Forking from) (Event (events.ForkPage who.proc child page)) ≡ Some (On (Forking (page + 1)))
page_forked who child from page before =
    event_taken (nat_le from page) (events.ForkPage who.proc child page) (Forking (page + 1))
    (on_event (nat_le from page) (events.ForkWord who.proc child page 0) (Copying page 1) ∷ on_event true (events.ForkEnd who.proc child) (Closing answers.Plain)
    ∷ on_event true (events.ForkFail child) (Closing answers.NoFrame) ∷ [])
    (grind (arith, nat_tests))

pub first_word_forked : (who : Who) (child from page : ℕ) → from ≤ page → next_of who (Fork child) (Forking from) (Event (events.ForkWord who.proc child page 0)) ≡ Some (On (Copying page 1))
first_word_forked who child from page before =
    let rest : List Arc =
    on_event true (events.ForkEnd who.proc child) (Closing answers.Plain) ∷ on_event true (events.ForkFail child) (Closing answers.NoFrame) ∷ [] in
    passed_over (Event (events.ForkWord who.proc child page 0)) (on_event (nat_le from page) (events.ForkPage who.proc child page) (Forking (page + 1)))
    (on_event (nat_le from page) (events.ForkWord who.proc child page 0) (Copying page 1) ∷ rest) refl
    ∙ event_taken (nat_le from page) (events.ForkWord who.proc child page 0) (Copying page 1) rest (grind (arith, nat_tests))

fork_ended : (who : Who) (child from : ℕ) → next_of who (Fork child) (Forking from) (Event (events.ForkEnd who.proc child)) ≡ Some (On (Closing answers.Plain))
fork_ended who child from =
    let ending : Arc = on_event true (events.ForkEnd who.proc child) (Closing answers.Plain) in
    let rest : List Arc = ending ∷ on_event true (events.ForkFail child) (Closing answers.NoFrame) ∷ [] in
    let word : Arc = on_event (nat_le from 0) (events.ForkWord who.proc child 0 0) (Copying 0 1) in
    let page : Arc = on_event (nat_le from 0) (events.ForkPage who.proc child 0) (Forking (0 + 1)) in
    passed_over (Event (events.ForkEnd who.proc child)) page (word ∷ rest) refl ∙ passed_over (Event (events.ForkEnd who.proc child)) word rest refl
    ∙ event_taken true (events.ForkEnd who.proc child) (Closing answers.Plain) (on_event true (events.ForkFail child) (Closing answers.NoFrame) ∷ []) refl

words_pass : (who : Who) (child page word left : ℕ) → word + left ≡ words → Passes who (Fork child) (CopiesWords who child page word left) (copied page word) (Forking (page + 1))
words_pass who child page word zero all =
    subst (λ (c : Course). Passes who (Fork child) (IsTurn who (Silent ∷ [])) c (Forking (page + 1))) (sym (last_copied page word (omega arith)))
    (silent_passes who (Fork child) (Forking (page + 1)))
words_pass who child page word (suc left) all =
    subst (λ (c : Course). Passes who (Fork child) (CopiesWords who child page word (suc left)) c (Forking (page + 1))) (sym (more_copied page word (omega arith)))
    (then_passes who (Fork child) (IsTurn who (Event (events.ForkWord who.proc child page word) ∷ [])) (CopiesWords who child page (word + 1) left)
    (Copying page word) (copied page (word + 1)) (Forking (page + 1))
    (event_passes who (Fork child) (events.ForkWord who.proc child page word) (Copying page word) (copied page (word + 1)) (word_copied who child page word (omega arith)))
    (words_pass who child page (word + 1) left (omega arith)))

first_words_pass : (who : Who) (child from page left : ℕ) → from ≤ page → 0 + left ≡ words → Passes who (Fork child) (CopiesWords who child page 0 left) (Forking from) (Forking (page + 1))
first_words_pass who child from page zero before all = absurd (omega arith)
first_words_pass who child from page (suc left) before all =
    then_passes who (Fork child) (IsTurn who (Event (events.ForkWord who.proc child page 0) ∷ [])) (CopiesWords who child page (0 + 1) left)
    (Forking from) (copied page 1) (Forking (page + 1))
    (event_passes who (Fork child) (events.ForkWord who.proc child page 0) (Forking from) (Copying page 1) (first_word_forked who child from page before))
    (words_pass who child page (0 + 1) left (omega arith))

copies_pass : (who : Who) (child from page : ℕ) → from ≤ page → Passes who (Fork child) (CopiesPage who child page) (Forking from) (Forking (page + 1))
copies_pass who child from page before =
    then_passes who (Fork child) (IsTurn who (Silent ∷ [])) (CopiesFrom who child page 0) (Forking from) (Forking from) (Forking (page + 1)) (silent_passes who (Fork child) (Forking from))
    (λ notes is. first_words_pass who child from page is.0 before is.1 notes is.2)

shares_pass : (who : Who) (child from page : ℕ) → from ≤ page → Passes who (Fork child) (IsTurn who (Event (events.ForkPage who.proc child page) ∷ [])) (Forking from) (Forking (page + 1))
shares_pass who child from page before = event_passes who (Fork child) (events.ForkPage who.proc child page) (Forking from) (Forking (page + 1)) (page_forked who child from page before)

shares_or_copies_pass : (who : Who) (child from page : ℕ) → from ≤ page → Passes who (Fork child) (SharesOrCopies who child page) (Forking from) (Forking (page + 1))
shares_or_copies_pass who child from page before notes (inl is) = shares_pass who child from page before notes is
shares_or_copies_pass who child from page before notes (inr is) = copies_pass who child from page before notes is

page_passes : (who : Who) (child from page : ℕ) → from ≤ page → Passes who (Fork child) (ForksPage who child page) (Forking from) (Forking (page + 1))
page_passes who child from page before notes (inl is) = shares_pass who child from page before notes is
page_passes who child from page before notes (inr is) =
    then_passes who (Fork child) (IsTurn who (Silent ∷ [])) (SharesOrCopies who child page) (Forking from) (Forking from) (Forking (page + 1)) (silent_passes who (Fork child) (Forking from))
    (shares_or_copies_pass who child from page before) notes is

pages_end : (who : Who) (child from pages : ℕ) → Ends who (Fork child) (ForksPages who child from pages) (Forking from)
pages_end who child from zero notes (inl is) =
    both_end who (Fork child) (events.ForkEnd who.proc child) answers.Plain (Forking from) (Closing answers.Plain) (fork_ended who child from) refl notes is
pages_end who child from zero notes (inr is) =
    then_ends who (Fork child) (IsTurn who (Silent ∷ [])) (IsTurn who (Event (events.ForkFail child) ∷ Done answers.NoFrame ∷ [])) (Forking from) (Forking from) (silent_passes who (Fork child) (Forking from))
    (both_end who (Fork child) (events.ForkFail child) answers.NoFrame (Forking from) (Closing answers.NoFrame) (fork_fails who child from) refl) notes is
pages_end who child from (suc pages) notes is =
    then_ends who (Fork child) (ForksPage who child is.0) (ForksPages who child (is.0 + 1) pages) (Forking from) (Forking (is.0 + 1)) (page_passes who child from is.0 is.1)
    (pages_end who child (is.0 + 1) pages) notes is.2

pub fork_ends : (who : Who) (child : ℕ) → Ends who (Fork child) (Forks who child) Start
fork_ends who child notes is =
    then_ends who (Fork child) (IsTurn who (Event (events.ForkBegin who.proc child) ∷ [])) (ForksPages who child 0 is.0) Start (Forking 0)
    (event_passes who (Fork child) (events.ForkBegin who.proc child) Start (Forking 0)
    (event_taken true (events.ForkBegin who.proc child) (Forking 0) (on_event true (events.ForkFail child) (Closing answers.Unborn) ∷ []) refl))
    (pages_end who child 0 is.0) notes is.1

pub unborn_ends : (who : Who) (child : ℕ) → Ends who (Fork child) (IsTurn who (Event (events.ForkFail child) ∷ Done answers.Unborn ∷ [])) Start
unborn_ends who child =
    both_end who (Fork child) (events.ForkFail child) answers.Unborn Start (Closing answers.Unborn) (event_taken true (events.ForkFail child) (Closing answers.Unborn) [] refl) refl
