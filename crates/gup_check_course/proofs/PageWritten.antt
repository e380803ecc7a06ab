-- Operations that go page by page, and transfers: notes that say what finishes them.
use Rattle.std.proofs.Common.{◌≡◌, ℕ, ◌+◌, ◌<◌, ◌≤◌, ◌==◌, ◌&&◌, nat_lt, nat_le, ◌⊎◌, inl, inr, Bool, true, false, List, [], ◌∷◌, zero, suc, refl, sym, subst, arith}
use Rattle.std.proofs.lemmas.Bool.Decides.{nat_tests}
use Rattle.gup_base.specs.Parts.{Part, words_of, word_at}
use Rattle.gup_plain.specs.Event.{words}
use Rattle.gup_plain.specs.Note.{NoteValue}
use Rattle.gup_plain.specs.declared.answer.Answer.TheVariants as answers
use Rattle.gup_plain.specs.declared.event.PlainEvent.{PlainEvent}
use Rattle.gup_plain.specs.declared.event.PlainEvent.TheVariants as events
use Rattle.gup_plain.specs.declared.note.What.{What}
use Rattle.gup_plain.specs.declared.note.What.TheVariants.{Silent, Event, Done}
use Rattle.gup_script.specs.declared.op.Op.{Op}
use Rattle.gup_script.specs.declared.op.Op.TheVariants.{Unmap, Discard, Transfer, Exit}
use Rattle.gup_spec_journal.specs.Follows.{Who, IsTurn, Then, TakesDown, TakesDownAll, TakesDownWhole, moves_word, MovesWords}
use Rattle.gup_check_course.specs.declared.course.Course.{Course}
use Rattle.gup_check_course.specs.declared.course.Course.TheVariants.{Taking, Moved}
use Rattle.gup_check_course.specs.Arcs.{moves, takes_down, takes_any, value_in, page_in}
use Rattle.gup_check_course.proofs.Finish.{Finishes}
use Rattle.gup_check_course.proofs.Writing.{Written, written_as, written_turn, written_on, written_silent, first_as}
use Rattle.gup_check_course.proofs.Through.{Through, through, closing_said}
use Rattle.gup_check_course.proofs.Reaching.{last_moved, more_moved, gap_between}

-- a page of those from `next` on is taken down, or the operation ends
abbrev Downs : Who → Op → (event : ℕ → PlainEvent) → (next end : ℕ) → What → List What → Type 0
Downs who op event next end what whats =
    ((page : ℕ) × (next ≤ page) × (page < end) × (what ≡ Event (event page)) × Finishes who op (Taking (page + 1)) whats)
    ⊎ ((what ≡ Done answers.Plain) × (whats ≡ []))

in_pages : (next page end : ℕ) → (nat_le next page && nat_lt page end) ≡ true → (next ≤ page) × (page < end)
in_pages next page end is = (grind (arith, nat_tests), grind (arith, nat_tests))

downs : (who : Who) (op : Op) (event : ℕ → PlainEvent) (next end : ℕ) (what : What) (whats : List What) → Through who op what whats (takes_down event next end what) → Downs who op event next end what whats
downs who op event next end what whats (inl is) =
    let within = in_pages next (page_in what) end is.0 in
    inl (page_in what, within.0, within.1, is.1, is.2)
downs who op event next end what whats (inr (inl is)) = inr (is.1, is.2)
downs who op event next end what whats (inr (inr is)) = absurd is

-- what it reads from where it has taken pages
abbrev Reads : Who → Op → (event : ℕ → PlainEvent) → (end : ℕ) → Type 0
Reads who op event end =
    (next : ℕ) (what : What) (whats : List What) → Finishes who op (Taking next) (what ∷ whats) → Downs who op event next end what whats

-- the pages that are left are passed
rest_passed : (who : Who) (event : ℕ → PlainEvent) (n page : ℕ) → Written who (TakesDownAll who event page (suc n)) (Done answers.Plain ∷ [])
rest_passed who event zero page =
    written_as who (IsTurn who (Done answers.Plain ∷ [])) (TakesDownAll who event page 1) (Done answers.Plain ∷ []) (λ notes is. inr is) (written_turn who (Done answers.Plain ∷ []))
rest_passed who event (suc n) page =
    written_as who (Then (IsTurn who (Silent ∷ [])) (TakesDownAll who event (page + 1) (suc n))) (TakesDownAll who event page (suc (suc n))) (Done answers.Plain ∷ [])
    (λ notes is. first_as (IsTurn who (Silent ∷ [])) (TakesDown who (event page)) (TakesDownAll who event (page + 1) (suc n)) notes (λ front f. inr f) is)
    (written_silent who (TakesDownAll who event (page + 1) (suc n)) (Done answers.Plain ∷ []) (rest_passed who event n (page + 1)))

same_or_later : (m n : ℕ) → m ≤ n → (n ≡ m) ⊎ (m < n)
same_or_later m n within = by_test (n == m) refl
  where
    by_test : (test : Bool) → (n == m) ≡ test → (n ≡ m) ⊎ (m < n)
    by_test true is = inl (grind (arith, nat_tests))
    by_test false is = inr (grind (arith, nat_tests))

-- the last page with the answer
last_taken : (who : Who) (op : Op) (event : ℕ → PlainEvent) (end : ℕ) → Reads who op event end → (page : ℕ) (whats : List What) → page + 1 ≡ end → Finishes who op (Taking (page + 1)) whats → whats ≡ Done answers.Plain ∷ []
last_taken who op event end reads page [] last ends = absurd ends
last_taken who op event end reads page (what ∷ whats) last ends = only (reads (page + 1) what whats ends)
  where
    only : Downs who op event (page + 1) end what whats → what ∷ whats ≡ Done answers.Plain ∷ []
    only (inl is) = (let low : page + 1 ≤ is.0 = is.1 in let high : is.0 < end = is.2 in absurd (omega arith))
    only (inr is) = cc

page_written : (who : Who) (op : Op) (event : ℕ → PlainEvent) (end : ℕ) → Reads who op event end → (n page at : ℕ) (whats : List What) → page + suc n ≡ end → page ≤ at → at < end → Finishes who op (Taking (at + 1)) whats → Written who (TakesDownAll who event page (suc n)) (Event (event at) ∷ whats)
page_written who op event end reads zero page at whats all before within ends =
    let same : page ≡ at = omega arith in
    let last : whats ≡ Done answers.Plain ∷ [] = last_taken who op event end reads at whats (omega arith) ends in
    subst (λ (p : ℕ). Written who (TakesDownAll who event page 1) (Event (event p) ∷ whats)) same
    (subst (λ (l : List What). Written who (TakesDownAll who event page 1) (Event (event page) ∷ l)) (sym last)
    (written_as who (IsTurn who (Event (event page) ∷ Done answers.Plain ∷ [])) (TakesDownAll who event page 1) (Event (event page) ∷ Done answers.Plain ∷ []) (λ notes is. inl is)
    (written_turn who (Event (event page) ∷ Done answers.Plain ∷ []))))
page_written who op event end reads (suc n) page at whats all before within ends =
    by_place (same_or_later page at before)
    (λ later. page_written who op event end reads n (page + 1) at whats (omega arith) (omega arith) within ends)
    (λ next more low high then. page_written who op event end reads n (page + 1) next more (omega arith) low high then)
  where
    Rest : List NoteValue → Type 0
    Rest = TakesDownAll who event (page + 1) (suc n)

    Further : Type 0
    Further = (next : ℕ) (more : List What) → page + 1 ≤ next → next < end → Finishes who op (Taking (next + 1)) more → Written who Rest (Event (event next) ∷ more)

    goes : (what : What) (more : List What) → Downs who op event (page + 1) end what more → Further → Written who Rest (what ∷ more)
    goes what more (inl is) further =
        subst (λ (w : What). Written who Rest (w ∷ more)) (sym is.3) (further is.0 more is.1 is.2 is.4)
    goes what more (inr is) further =
        subst (λ (w : What). Written who Rest (w ∷ more)) (sym is.0) (subst (λ (l : List What). Written who Rest (Done answers.Plain ∷ l)) (sym is.1) (rest_passed who event n (page + 1)))

    rest : (more : List What) → Finishes who op (Taking (page + 1)) more → Further → Written who Rest more
    rest [] ends further = absurd ends
    rest (what ∷ more) ends further = goes what more (reads (page + 1) what more ends) further

    by_place : (at ≡ page) ⊎ (page < at) → (page < at → Written who Rest (Event (event at) ∷ whats)) → Further → Written who (TakesDownAll who event page (suc (suc n))) (Event (event at) ∷ whats)
    by_place (inl here) skips further =
        subst (λ (p : ℕ). Written who (TakesDownAll who event page (suc (suc n))) (Event (event p) ∷ whats)) (sym here)
        (written_as who (Then (IsTurn who (Event (event page) ∷ [])) Rest) (TakesDownAll who event page (suc (suc n))) (Event (event page) ∷ whats)
        (λ notes is. first_as (IsTurn who (Event (event page) ∷ [])) (TakesDown who (event page)) Rest notes (λ front f. inl f) is)
        (written_on who (Event (event page) ∷ []) Rest whats (rest whats (subst (λ (p : ℕ). Finishes who op (Taking (p + 1)) whats) here ends) further)))
    by_place (inr later) skips further =
        written_as who (Then (IsTurn who (Silent ∷ [])) Rest) (TakesDownAll who event page (suc (suc n))) (Event (event at) ∷ whats)
        (λ notes is. first_as (IsTurn who (Silent ∷ [])) (TakesDown who (event page)) Rest notes (λ front f. inr f) is)
        (written_silent who Rest (Event (event at) ∷ whats) (skips later))

-- all of it, from its first page on
downs_written : (who : Who) (op : Op) (event : ℕ → PlainEvent) (n page : ℕ) → Reads who op event (page + n) → 0 < n → (what : What) (whats : List What) → Downs who op event page (page + n) what whats → Written who (TakesDownAll who event page n) (what ∷ whats)
downs_written who op event zero page reads some what whats is = absurd (omega arith)
downs_written who op event (suc n) page reads some what whats (inl is) =
    subst (λ (w : What). Written who (TakesDownAll who event page (suc n)) (w ∷ whats)) (sym is.3)
    (page_written who op event (page + suc n) reads n page is.0 whats refl is.1 is.2 is.4)
downs_written who op event (suc n) page reads some what whats (inr is) =
    subst (λ (w : What). Written who (TakesDownAll who event page (suc n)) (w ∷ whats)) (sym is.0)
    (subst (λ (l : List What). Written who (TakesDownAll who event page (suc n)) (Done answers.Plain ∷ l)) (sym is.1) (rest_passed who event n page))

pub unmap_written : (who : Who) (page n : ℕ) → 0 < n → (what : What) (whats : List What) → Through who (Unmap page n) what whats (takes_down (events.Unmap who.actor who.proc) page (page + n) what) → Written who (TakesDownAll who (events.Unmap who.actor who.proc) page n) (what ∷ whats)
unmap_written who page n some what whats is =
    let event : ℕ → PlainEvent = events.Unmap who.actor who.proc in
    downs_written who (Unmap page n) event n page
    (λ next w ws ends. downs who (Unmap page n) event next (page + n) w ws (through who (Unmap page n) (Taking next) w ws ends)) some what whats
    (downs who (Unmap page n) event page (page + n) what whats is)

pub discard_written : (who : Who) (page n : ℕ) → 0 < n → (what : What) (whats : List What) → Through who (Discard page n) what whats (takes_down (events.Discard who.actor who.proc) page (page + n) what) → Written who (TakesDownAll who (events.Discard who.actor who.proc) page n) (what ∷ whats)
discard_written who page n some what whats is =
    let event : ℕ → PlainEvent = events.Discard who.actor who.proc in
    downs_written who (Discard page n) event n page
    (λ next w ws ends. downs who (Discard page n) event next (page + n) w ws (through who (Discard page n) (Taking next) w ws ends)) some what whats
    (downs who (Discard page n) event page (page + n) what whats is)

-- an exit

exit_by : (who : Who) (what : What) (whats : List What) → (Finishes who Exit (Taking 0) whats → (pages : ℕ) × Written who (TakesDownWhole who pages) whats) → Through who Exit what whats (takes_any who what) → (pages : ℕ) × Written who (TakesDownWhole who pages) (what ∷ whats)
exit_by who what whats further (inl is) =
    let page : ℕ = page_in what in
    let event : What = Event (events.Unmap who.actor who.proc page) in
    let rest = further is.2 in (
      suc rest.0,
      subst (λ (w : What). Written who (TakesDownWhole who (suc rest.0)) (w ∷ whats)) (sym is.1)
          (written_as who (Then (IsTurn who (event ∷ [])) (TakesDownWhole who rest.0)) (TakesDownWhole who (suc rest.0)) (event ∷ whats) (λ notes these. (page, these))
          (written_on who (event ∷ []) (TakesDownWhole who rest.0) whats rest.1)),
    )
exit_by who what whats further (inr (inl is)) = (
  0,
  subst (λ (w : What). Written who (TakesDownWhole who 0) (w ∷ whats)) (sym is.1)
      (subst (λ (l : List What). Written who (TakesDownWhole who 0) (Done answers.Plain ∷ l)) (sym is.2) (written_turn who (Done answers.Plain ∷ []))),
)
exit_by who what whats further (inr (inr is)) = absurd is

exit_left : (who : Who) (whats : List What) → Finishes who Exit (Taking 0) whats → (pages : ℕ) × Written who (TakesDownWhole who pages) whats
exit_left who [] ends = absurd ends
exit_left who (what ∷ whats) ends = exit_by who what whats (exit_left who whats) (through who Exit (Taking 0) what whats ends)

pub exit_written : (who : Who) (what : What) (whats : List What) → Through who Exit what whats (takes_any who what) → (pages : ℕ) × Written who (TakesDownWhole who pages) (what ∷ whats)
exit_written who what whats is = exit_by who what whats (exit_left who whats) is

-- the words of a transfer

words_written : (who : Who) (handle : ℕ) (outward : Bool) (slot : ℕ) (parts : List Part) (left k : ℕ) (what : What) (whats : List What) → k + suc left ≡ words_of parts → Through who (Transfer handle outward slot parts) what whats (moves who handle outward slot parts k what) → Written who (MovesWords who handle outward slot parts k (suc left)) (what ∷ whats)
words_written who handle outward slot parts left k what whats all (inr is) = absurd is
words_written who handle outward slot parts zero k what whats all (inl is) =
    let op : Op = Transfer handle outward slot parts in
    let event : What = Event (moves_word who.actor handle outward (word_at parts k) (slot + k) (value_in what)) in
    let last : whats ≡ Done answers.Words ∷ [] =
    closing_said who op answers.Words whats (subst (λ (c : Course). Finishes who op c whats) (last_moved (k + 1) (words_of parts) (omega arith)) is.2) in
    subst (λ (w : What). Written who (MovesWords who handle outward slot parts k 1) (w ∷ whats)) (sym is.1)
    (subst (λ (l : List What). Written who (MovesWords who handle outward slot parts k 1) (event ∷ l)) (sym last)
    (written_as who (IsTurn who (event ∷ Done answers.Words ∷ [])) (MovesWords who handle outward slot parts k 1) (event ∷ Done answers.Words ∷ []) (λ notes these. (value_in what, these))
    (written_turn who (event ∷ Done answers.Words ∷ []))))
words_written who handle outward slot parts (suc left) k what whats all (inl is) =
    let op : Op = Transfer handle outward slot parts in
    let event : What = Event (moves_word who.actor handle outward (word_at parts k) (slot + k) (value_in what)) in
    subst (λ (w : What). Written who (MovesWords who handle outward slot parts k (suc (suc left))) (w ∷ whats)) (sym is.1)
    (written_as who (Then (IsTurn who (event ∷ [])) (MovesWords who handle outward slot parts (k + 1) (suc left))) (MovesWords who handle outward slot parts k (suc (suc left))) (event ∷ whats)
    (λ notes these. (value_in what, these))
    (written_on who (event ∷ []) (MovesWords who handle outward slot parts (k + 1) (suc left)) whats
    (further whats (subst (λ (c : Course). Finishes who op c whats) (more_moved (k + 1) (words_of parts) (omega arith)) is.2)
    (λ w ws these. words_written who handle outward slot parts left (k + 1) w ws (omega arith) these))))
  where
    further : (more : List What) → Finishes who (Transfer handle outward slot parts) (Moved (k + 1)) more → ((w : What) (ws : List What) → Through who (Transfer handle outward slot parts) w ws (moves who handle outward slot parts (k + 1) w) → Written who (MovesWords who handle outward slot parts (k + 1) (suc left)) (w ∷ ws)) → Written who (MovesWords who handle outward slot parts (k + 1) (suc left)) more
    further [] ends words = absurd ends
    further (w ∷ ws) ends words = words w ws (through who (Transfer handle outward slot parts) (Moved (k + 1)) w ws ends)

pub transfer_written : (who : Who) (handle : ℕ) (outward : Bool) (slot : ℕ) (parts : List Part) → 0 < words_of parts → (what : What) (whats : List What) → Through who (Transfer handle outward slot parts) what whats (moves who handle outward slot parts 0 what) → Written who (MovesWords who handle outward slot parts 0 (words_of parts)) (what ∷ whats)
transfer_written who handle outward slot parts some what whats is =
    let gap = gap_between 0 (words_of parts) some in
    let count : suc gap.0 ≡ words_of parts = (let all : 0 + suc gap.0 ≡ words_of parts = gap.1 in omega arith) in
    subst (λ (n : ℕ). Written who (MovesWords who handle outward slot parts 0 n) (what ∷ whats)) count
    (words_written who handle outward slot parts gap.0 0 what whats gap.1 is)
