-- A mapping that an operation may come to is its own, and its pages have numbers.
use Rattle.std.proofs.Common.{◌≡◌, ℕ, ◌&&◌, cond, Bool, true, false, List, [], ◌∷◌, Some, refl, arith}
use Rattle.std.proofs.lemmas.Bool.Decides.{nat_tests}
use Rattle.gup_base.specs.Parts.{Part}
use Rattle.gup_plain.specs.declared.event.PlainEvent.{PlainEvent}
use Rattle.gup_plain.specs.declared.event.PlainEvent.TheVariants as events
use Rattle.gup_plain.specs.declared.note.What.{What}
use Rattle.gup_plain.specs.declared.note.What.TheVariants.{Event}
use Rattle.gup_script.specs.Valid.{IsOp}
use Rattle.gup_script.specs.declared.op.Op.{Op}
use Rattle.gup_script.specs.declared.op.Op.TheVariants.{Map, Unmap, Discard, Pin, Transfer, Fork, Exit}
use Rattle.gup_spec_journal.specs.Follows.{Who, moves_word}
use Rattle.gup_check_course.specs.declared.course.Course.{Course}
use Rattle.gup_check_course.specs.declared.course.Course.TheVariants.{Start, Taking, Moved, Forking, Copying, Walking, Stopped, Dropping, Slow, Short, Closing}
use Rattle.gup_check_course.specs.declared.course.Step.{Step}
use Rattle.gup_check_course.specs.Arcs.{Arc, arcs, begins, goes_on, moves, taken, next_of}
use Rattle.gup_check_course.specs.Same.{same_what, same_event}
use Rattle.gup_check_state.specs.Ranges.{MapsInRange}

abbrev AllInRange : List Arc → Type 0
AllInRange [] = Unit {0}
AllInRange (here ∷ later) = MapsInRange here.what × AllInRange later

-- what says the same maps the same pages
same_mapping : (e f : PlainEvent) → same_event e f ≡ true → MapsInRange (Event f) → MapsInRange (Event e)
same_mapping (events.Map a p page n r) (events.Map b q g m s) same is = grind (arith, nat_tests)
same_mapping (events.Map a p page n r) f same is = absurd (cc same)
same_mapping e f same is = tt

same_range : (x y : What) → same_what x y ≡ true → MapsInRange y → MapsInRange x
same_range (Event e) (Event f) same is = same_mapping e f same is
same_range (Event e) y same is = absurd (cc same)
same_range x y same is = tt

taken_range : (what : What) (step : Step) (these : List Arc) → AllInRange these → taken what these ≡ Some step → MapsInRange what
taken_range what step [] all is = absurd (cc is)
taken_range what step (here ∷ later) all is =
    chosen here.allowed (same_what what here.what) refl (taken_range what step later all.1) is
  where
    chosen : (allowed same : Bool) → same_what what here.what ≡ same → (taken what later ≡ Some step → MapsInRange what) → cond (allowed && same) (Some here.step) (taken what later) ≡ Some step → MapsInRange what
    chosen true true alike further is = same_range what here.what alike all.0
    chosen true false alike further is = further is
    chosen false same alike further is = further is

word_range : (who : Who) (handle : ℕ) (outward : Bool) (index slot value : ℕ) → MapsInRange (Event (moves_word who.actor handle outward index slot value))
word_range who handle true index slot value = tt
word_range who handle false index slot value = tt

moves_range : (who : Who) (handle : ℕ) (outward : Bool) (slot : ℕ) (parts : List Part) (k : ℕ) (what : What) → AllInRange (moves who handle outward slot parts k what)
moves_range who handle outward slot parts k what = (word_range who handle outward _ _ _, tt)

begins_range : (who : Who) (op : Op) (what : What) → IsOp op → AllInRange (begins who op what)
begins_range who (Map page n rights) what is = (is.2, tt)
begins_range who (Unmap page n) what is = (tt, (tt, tt))
begins_range who (Discard page n) what is = (tt, (tt, tt))
begins_range who (Transfer handle outward slot parts) what is = moves_range who handle outward slot parts 0 what
begins_range who (Fork child) what is = (tt, (tt, tt))
begins_range who Exit what is = (tt, (tt, tt))
begins_range who op what is = (tt, tt)

goes_range : (who : Who) (op : Op) (course : Course) (what : What) → AllInRange (goes_on who op course what)
goes_range who (Unmap page n) (Taking next) what = (tt, (tt, tt))
goes_range who (Discard page n) (Taking next) what = (tt, (tt, tt))
goes_range who Exit (Taking next) what = (tt, (tt, tt))
goes_range who (Transfer handle outward slot parts) (Moved k) what = moves_range who handle outward slot parts k what
goes_range who (Fork child) (Forking from) what = (tt, (tt, (tt, (tt, tt))))
goes_range who (Fork child) (Copying page word) what = (tt, tt)
goes_range who (Pin handle page n want fast) (Walking k) what = (tt, (tt, (tt, (tt, tt))))
goes_range who (Pin handle page n want fast) (Stopped k) what = (tt, (tt, (tt, tt)))
goes_range who (Pin handle page n want fast) (Dropping j k) what = (tt, tt)
goes_range who (Pin handle page n want fast) (Slow k) what = (tt, (tt, (tt, tt)))
goes_range who (Pin handle page n want fast) (Short k) what = (tt, tt)
goes_range who op course what = tt

arcs_range : (who : Who) (op : Op) (course : Course) (what : What) → IsOp op → AllInRange (arcs who op course what)
arcs_range who op Start what is = (tt, begins_range who op what is)
arcs_range who op (Closing answer) what is = (tt, tt)
arcs_range who op course what is = goes_range who op course what

pub next_range : (who : Who) (op : Op) (course : Course) (what : What) (step : Step) → IsOp op → next_of who op course what ≡ Some step → MapsInRange what
next_range who op course what step is may = taken_range what step (arcs who op course what) (arcs_range who op course what is) may
