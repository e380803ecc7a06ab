-- Notes of a fork that say what finishes it.
use Rattle.std.proofs.Common.{◌≡◌, ℕ, ◌+◌, ◌≤◌, nat_le, inl, inr, true, List, [], ◌∷◌, zero, suc, sym, subst, arith}
use Rattle.std.proofs.lemmas.Bool.Decides.{nat_tests}
use Rattle.gup_plain.specs.Event.{words}
use Rattle.gup_plain.specs.Note.{NoteValue}
use Rattle.gup_plain.specs.declared.answer.Answer.TheVariants as answers
use Rattle.gup_plain.specs.declared.event.PlainEvent.TheVariants as events
use Rattle.gup_plain.specs.declared.note.What.{What}
use Rattle.gup_plain.specs.declared.note.What.TheVariants.{Silent, Event, Done}
use Rattle.gup_script.specs.declared.op.Op.TheVariants.{Fork}
use Rattle.gup_spec_journal.specs.Follows.{Who, IsTurn, Then, CopiesWords, CopiesFrom, SharesOrCopies, ForksPage, FailsFork, ForksPages, Forks}
use Rattle.gup_check_course.specs.declared.course.Course.{Course}
use Rattle.gup_check_course.specs.declared.course.Course.TheVariants.{Forking, Copying}
use Rattle.gup_check_course.specs.Arcs.{copied, copies, forks_on, page_in}
use Rattle.gup_check_course.proofs.Finish.{Finishes}
use Rattle.gup_check_course.proofs.Writing.{Written, written_as, written_turn, written_on, written_silent, then_first, then_as, first_as}
use Rattle.gup_check_course.proofs.Through.{Through, through, closing_said}
use Rattle.gup_check_course.proofs.Reaching.{last_copied, more_copied, gap_between}

-- the rest of a fork, from this page on
abbrev ForksRest : Who → (child from : ℕ) → List What → Type 0
ForksRest who child from whats = (pages : ℕ) × Written who (ForksPages who child from pages) whats

-- the same in the middle of a page
abbrev CopiesRest : Who → (child page word left : ℕ) → List What → Type 0
CopiesRest who child page word left whats =
    (pages : ℕ) × Written who (Then (CopiesWords who child page word left) (ForksPages who child (page + 1) pages)) whats

abbrev CopiesOn : Who → (child : ℕ) → List What → Type 0
CopiesOn who child whats =
    (page word left : ℕ) → word + left ≡ words → Finishes who (Fork child) (copied page word) whats → CopiesRest who child page word left whats

abbrev ForksOn : Who → (child : ℕ) → List What → Type 0
ForksOn who child whats = (from : ℕ) → Finishes who (Fork child) (Forking from) whats → ForksRest who child from whats

-- a page that is shared, and those behind it
shared_written : (who : Who) (child from page : ℕ) (whats : List What) → from ≤ page → ForksRest who child (page + 1) whats → ForksRest who child from (Event (events.ForkPage who.proc child page) ∷ whats)
shared_written who child from page whats before rest =
    let event : What = Event (events.ForkPage who.proc child page) in
    let pages : ℕ = rest.0 in (
      suc pages,
      written_as who (Then (IsTurn who (event ∷ [])) (ForksPages who child (page + 1) pages)) (ForksPages who child from (suc pages)) (event ∷ whats)
          (λ notes is. (page, before, first_as (IsTurn who (event ∷ [])) (ForksPage who child page) (ForksPages who child (page + 1) pages) notes (λ front f. inl f) is))
          (written_on who (event ∷ []) (ForksPages who child (page + 1) pages) whats rest.1),
    )

-- a page that is copied, and those behind it
copied_written : (who : Who) (child from page left : ℕ) (whats : List What) → from ≤ page → 0 + suc left ≡ words → CopiesRest who child page (0 + 1) left whats → ForksRest who child from (Event (events.ForkWord who.proc child page 0) ∷ whats)
copied_written who child from page left whats before all rest =
    let event : What = Event (events.ForkWord who.proc child page 0) in
    let pages : ℕ = rest.0 in (
      suc pages,
      written_as who (Then (IsTurn who (Silent ∷ [])) (Then (IsTurn who (Silent ∷ [])) (Then (IsTurn who (event ∷ [])) (Then (CopiesWords who child page (0 + 1) left) (ForksPages who child (page + 1) pages)))))
          (ForksPages who child from (suc pages)) (event ∷ whats) (λ notes is. (page, before, together pages notes is))
          (written_silent who (Then (IsTurn who (Silent ∷ [])) (Then (IsTurn who (event ∷ [])) (Then (CopiesWords who child page (0 + 1) left) (ForksPages who child (page + 1) pages)))) (event ∷ whats)
          (written_silent who (Then (IsTurn who (event ∷ [])) (Then (CopiesWords who child page (0 + 1) left) (ForksPages who child (page + 1) pages))) (event ∷ whats)
          (written_on who (event ∷ []) (Then (CopiesWords who child page (0 + 1) left) (ForksPages who child (page + 1) pages)) whats rest.1))),
    )
  where
    Still : List NoteValue → Type 0
    Still = IsTurn who (Silent ∷ [])

    First : List NoteValue → Type 0
    First = IsTurn who (Event (events.ForkWord who.proc child page 0) ∷ [])

    Words : List NoteValue → Type 0
    Words = CopiesWords who child page (0 + 1) left

    whole_page : (front : List NoteValue) → Then Still (Then Still (Then First Words)) front → ForksPage who child page front
    whole_page front is =
        inr (then_as Still (Then Still (Then First Words)) (SharesOrCopies who child page) front
        (λ rest these. inr (then_as Still (Then First Words) (CopiesFrom who child page 0) rest (λ last copies. (suc left, all, copies)) these)) is)

    together : (pages : ℕ) (notes : List NoteValue) → Then Still (Then Still (Then First (Then Words (ForksPages who child (page + 1) pages)))) notes → Then (ForksPage who child page) (ForksPages who child (page + 1) pages) notes
    together pages notes is =
        first_as (Then Still (Then Still (Then First Words))) (ForksPage who child page) (ForksPages who child (page + 1) pages) notes whole_page
        (then_first Still (Then Still (Then First Words)) (ForksPages who child (page + 1) pages) notes
        (then_as Still (Then Still (Then First (Then Words (ForksPages who child (page + 1) pages)))) (Then (Then Still (Then First Words)) (ForksPages who child (page + 1) pages)) notes
        (λ rest these.
        then_first Still (Then First Words) (ForksPages who child (page + 1) pages) rest
        (then_as Still (Then First (Then Words (ForksPages who child (page + 1) pages))) (Then (Then First Words) (ForksPages who child (page + 1) pages)) rest
        (λ last words. then_first First Words (ForksPages who child (page + 1) pages) last words) these))
        is))

ended_written : (who : Who) (child from : ℕ) → ForksRest who child from (Event (events.ForkEnd who.proc child) ∷ Done answers.Plain ∷ [])
ended_written who child from =
    let whats : List What = Event (events.ForkEnd who.proc child) ∷ Done answers.Plain ∷ [] in
    (0, written_as who (IsTurn who whats) (ForksPages who child from 0) whats (λ notes is. inl is) (written_turn who whats))

failed_written : (who : Who) (child from : ℕ) → ForksRest who child from (Event (events.ForkFail child) ∷ Done answers.NoFrame ∷ [])
failed_written who child from =
    let whats : List What = Event (events.ForkFail child) ∷ Done answers.NoFrame ∷ [] in
    (0, written_as who (FailsFork who child) (ForksPages who child from 0) whats (λ notes is. inr is) (written_silent who (IsTurn who whats) whats (written_turn who whats)))

at_or_before : (from page : ℕ) → nat_le from page ≡ true → from ≤ page
at_or_before from page is = grind (arith, nat_tests)

forking_by : (who : Who) (child from : ℕ) (what : What) (whats : List What) → ForksOn who child whats → CopiesOn who child whats → Through who (Fork child) what whats (forks_on who child from what) → ForksRest who child from (what ∷ whats)
forking_by who child from what whats forks copies (inl is) =
    let page : ℕ = page_in what in
    subst (λ (w : What). ForksRest who child from (w ∷ whats)) (sym is.1) (shared_written who child from page whats (at_or_before from page is.0) (forks (page + 1) is.2))
forking_by who child from what whats forks copies (inr (inl is)) =
    let page : ℕ = page_in what in
    let gap = gap_between 0 words (omega arith) in
    subst (λ (w : What). ForksRest who child from (w ∷ whats)) (sym is.1)
    (copied_by gap.0 gap.1 page (at_or_before from page is.0) is.2)
  where
    copied_by : (left : ℕ) → 0 + suc left ≡ words → (page : ℕ) → from ≤ page → Finishes who (Fork child) (Copying page 1) whats → ForksRest who child from (Event (events.ForkWord who.proc child page 0) ∷ whats)
    copied_by left all page before ends = copied_written who child from page left whats before all (copies page (0 + 1) left (omega arith) ends)
forking_by who child from what whats forks copies (inr (inr (inl is))) =
    let last : whats ≡ Done answers.Plain ∷ [] = closing_said who (Fork child) answers.Plain whats is.2 in
    subst (λ (l : List What). ForksRest who child from l) (let whole : Event (events.ForkEnd who.proc child) ∷ Done answers.Plain ∷ [] ≡ what ∷ whats = cc (is.1, last) in whole) (ended_written who child from)
forking_by who child from what whats forks copies (inr (inr (inr (inl is)))) =
    let last : whats ≡ Done answers.NoFrame ∷ [] = closing_said who (Fork child) answers.NoFrame whats is.2 in
    subst (λ (l : List What). ForksRest who child from l) (let whole : Event (events.ForkFail child) ∷ Done answers.NoFrame ∷ [] ≡ what ∷ whats = cc (is.1, last) in whole) (failed_written who child from)
forking_by who child from what whats forks copies (inr (inr (inr (inr is)))) = absurd is

-- a further word of a page
word_by : (who : Who) (child page word left : ℕ) (what : What) (whats : List What) → word + suc left ≡ words → CopiesOn who child whats → Through who (Fork child) what whats (copies who child page word) → CopiesRest who child page word (suc left) (what ∷ whats)
word_by who child page word left what whats all copies (inl is) =
    let event : What = Event (events.ForkWord who.proc child page word) in
    let rest : CopiesRest who child page (word + 1) left whats = copies page (word + 1) left (omega arith) is.2 in
    let pages : ℕ = rest.0 in (
      pages,
      subst (λ (w : What). Written who (Then (CopiesWords who child page word (suc left)) (ForksPages who child (page + 1) pages)) (w ∷ whats)) (sym is.1)
          (written_as who (Then (IsTurn who (event ∷ [])) (Then (CopiesWords who child page (word + 1) left) (ForksPages who child (page + 1) pages)))
          (Then (CopiesWords who child page word (suc left)) (ForksPages who child (page + 1) pages)) (event ∷ whats)
          (then_first (IsTurn who (event ∷ [])) (CopiesWords who child page (word + 1) left) (ForksPages who child (page + 1) pages))
          (written_on who (event ∷ []) (Then (CopiesWords who child page (word + 1) left) (ForksPages who child (page + 1) pages)) whats rest.1)),
    )
word_by who child page word left what whats all copies (inr is) = absurd is

both_on : (who : Who) (child : ℕ) (whats : List What) → ForksOn who child whats × CopiesOn who child whats
both_on who child [] = (λ from ends. absurd ends, nothing)
  where
    nothing : CopiesOn who child []
    nothing page word left all ends = absurd ends
both_on who child (what ∷ whats) = (forking (both_on who child whats), copying (both_on who child whats))
  where
    forking : ForksOn who child whats × CopiesOn who child whats → ForksOn who child (what ∷ whats)
    forking later from ends = forking_by who child from what whats later.0 later.1 (through who (Fork child) (Forking from) what whats ends)

    copying : ForksOn who child whats × CopiesOn who child whats → CopiesOn who child (what ∷ whats)
    copying later page word zero all ends =
        let rest : ForksRest who child (page + 1) (what ∷ whats) =
        forking later (page + 1) (subst (λ (c : Course). Finishes who (Fork child) c (what ∷ whats)) (last_copied page word (omega arith)) ends) in
        (rest.0, written_silent who (ForksPages who child (page + 1) rest.0) (what ∷ whats) rest.1)
    copying later page word (suc left) all ends =
        word_by who child page word left what whats all later.1
        (through who (Fork child) (Copying page word) what whats (subst (λ (c : Course). Finishes who (Fork child) c (what ∷ whats)) (more_copied page word (omega arith)) ends))

pub fork_written : (who : Who) (child : ℕ) (whats : List What) → Finishes who (Fork child) (Forking 0) whats → Written who (Forks who child) (Event (events.ForkBegin who.proc child) ∷ whats)
fork_written who child whats ends =
    let event : What = Event (events.ForkBegin who.proc child) in
    let rest : ForksRest who child 0 whats = (both_on who child whats).0 0 ends in
    written_as who (Then (IsTurn who (event ∷ [])) (ForksPages who child 0 rest.0)) (Forks who child) (event ∷ whats) (λ notes is. (rest.0, is))
    (written_on who (event ∷ []) (ForksPages who child 0 rest.0) whats rest.1)
