-- Where the arcs lead that operations share.
use Rattle.std.proofs.Common.{◌≡◌, ℕ, ◌+◌, ◌-◌, ◌==◌, cond, Bool, true, false, List, zero, suc, refl}
use Rattle.gup_base.specs.Parts.{Part, words_of}
use Rattle.gup_base.specs.declared.entry.Want.{Want}
use Rattle.gup_plain.specs.Event.{words}
use Rattle.gup_plain.specs.declared.answer.Answer.TheVariants as answers
use Rattle.gup_plain.specs.declared.event.PlainEvent.{PlainEvent}
use Rattle.gup_plain.specs.declared.note.What.{What}
use Rattle.gup_spec_journal.specs.Follows.{Who, moves_word}
use Rattle.gup_check_course.specs.declared.course.Course.{Course}
use Rattle.gup_check_course.specs.declared.course.Course.TheVariants.{Moved, Forking, Copying, Dropping, Slow, Short, Closing}
use Rattle.gup_check_course.specs.Arcs.{moved, copied, made, dropped, stopped, first_try, takes_down, takes_any, moves, tries, makes, stops, drops}
use Rattle.gup_law_course.specs.UnderWay.{is_under_way}
use Rattle.gup_law_course.proofs.Leading.{IsOf, ArcLeads, AllLead}

-- Each course that an event leads to is under way.

abbrev IsUnderWay : Course → Type 0
IsUnderWay course = is_under_way course ≡ true

either_under_way : (b : Bool) (one other : Course) → IsUnderWay one → IsUnderWay other → IsUnderWay (cond b one other)
either_under_way true one other first second = first
either_under_way false one other first second = second

moved_under_way : (k all : ℕ) → IsUnderWay (moved k all)
moved_under_way k all = either_under_way (k == all) (Closing answers.Words) (Moved k) refl refl

pub copied_under_way : (page word : ℕ) → IsUnderWay (copied page word)
copied_under_way page word = either_under_way (word == words) (Forking (page + 1)) (Copying page word) refl refl

made_under_way : (k n : ℕ) → IsUnderWay (made k n)
made_under_way k n = either_under_way (k == n) (Closing (answers.Pinned n)) (Short k) refl refl

dropped_under_way : (j k : ℕ) → IsUnderWay (dropped j k)
dropped_under_way j k = either_under_way (j == k) (Slow 0) (Dropping j k) refl refl

stopped_under_way : (k : ℕ) → IsUnderWay (stopped k)
stopped_under_way zero = refl
stopped_under_way (suc k) = refl

pub first_under_way : (fast : Bool) (k : ℕ) → IsUnderWay (first_try fast k)
first_under_way true k = refl
first_under_way false k = refl

-- Whatever is allowed, the arcs lead on.

pub takes_down_leads : (who : Who) (event : ℕ → PlainEvent) (next end : ℕ) (what : What) → ((page : ℕ) → IsOf who (event page)) → AllLead who (takes_down event next end what)
takes_down_leads who event next end what own = ((refl, own _), (tt, tt))

pub takes_any_leads : (who : Who) (what : What) → AllLead who (takes_any who what)
takes_any_leads who what = ((refl, λ n less. less), (tt, tt))

word_own : (who : Who) (handle : ℕ) (outward : Bool) (index slot value : ℕ) → IsOf who (moves_word who.actor handle outward index slot value)
word_own who handle true index slot value n less = less
word_own who handle false index slot value n less = less

pub moves_leads : (who : Who) (handle : ℕ) (outward : Bool) (slot : ℕ) (parts : List Part) (k : ℕ) (what : What) → AllLead who (moves who handle outward slot parts k what)
moves_leads who handle outward slot parts k what = ((moved_under_way (k + 1) (words_of parts), word_own who handle outward _ _ _), tt)

-- Those of a pin one by one.

pub tries_leads : (who : Who) (page n : ℕ) (want : Want) (k : ℕ) (course : ℕ → Course) → ((m : ℕ) → IsUnderWay (course m)) → ArcLeads who (tries who page n want k course)
tries_leads who page n want k course under_way = (under_way (k + 1), λ n less. less)

pub makes_leads : (who : Who) (handle n k : ℕ) → ArcLeads who (makes who handle n k)
makes_leads who handle n k = (made_under_way k n, λ n less. less)

pub stops_leads : (who : Who) (page k : ℕ) → ArcLeads who (stops who page k)
stops_leads who page k = (stopped_under_way (k - 1), λ n less. less)

pub drops_leads : (who : Who) (page j k : ℕ) → ArcLeads who (drops who page j k)
drops_leads who page j k = (dropped_under_way (j + 1) k, λ n less. less)
