-- Each of the arcs leads on with an event, and to the end with an answer.
use Rattle.std.proofs.Common.{◌≡◌, ℕ, ◌+◌, ◌<◌, Some, refl, ap}
use Rattle.gup_plain.specs.declared.answer.Answer.{Answer}
use Rattle.gup_plain.specs.declared.event.PlainEvent.{PlainEvent}
use Rattle.gup_plain.specs.declared.event.PlainEvent.TheVariants as events
use Rattle.gup_plain.specs.declared.note.What.{What}
use Rattle.gup_plain.specs.declared.note.What.TheVariants.{Event, Done}
use Rattle.gup_script.specs.declared.op.Op.{Op}
use Rattle.gup_script.specs.declared.op.Op.TheVariants.{Unmap, Discard, Pin, Get, Put, Transfer, Fork, Exit, Move}
use Rattle.gup_spec_journal.specs.Follows.{Who}
use Rattle.gup_exec_plain.specs.Parts.{HasActor}
use Rattle.gup_check_course.specs.declared.course.Course.{Course}
use Rattle.gup_check_course.specs.declared.course.Course.TheVariants.{Start, Taking, Moved, Forking, Copying, Walking, Stopped, Dropping, Slow, Short, Closing}
use Rattle.gup_check_course.specs.declared.course.Step.{Step}
use Rattle.gup_check_course.specs.declared.course.Step.TheVariants.{On, Ended}
use Rattle.gup_check_course.specs.Arcs.{arcs, begins, goes_on, next_of, first_try}
use Rattle.gup_law_course.specs.UnderWay.{is_under_way}
use Rattle.gup_law_course.proofs.Leading.{Leads, AllLead, taken_leads}
use Rattle.gup_law_course.proofs.Pieces.{copied_under_way, first_under_way, takes_down_leads, takes_any_leads, moves_leads, tries_leads, makes_leads, stops_leads, drops_leads}

begins_lead : (who : Who) (op : Op) (what : What) → AllLead who (begins who op what)
begins_lead who (Unmap page n) what = takes_down_leads who (events.Unmap who.actor who.proc) page (page + n) what (λ page n less. less)
begins_lead who (Discard page n) what = takes_down_leads who (events.Discard who.actor who.proc) page (page + n) what (λ page n less. less)
begins_lead who (Pin handle page n want fast) what = (tries_leads who page n want 0 (first_try fast) (first_under_way fast), tt)
begins_lead who (Transfer handle outward slot parts) what = moves_leads who handle outward slot parts 0 what
begins_lead who (Fork child) what = ((refl, λ n less. tt), ((refl, λ n less. tt), tt))
begins_lead who Exit what = takes_any_leads who what
begins_lead who (Get handle page) what = (tt, tt)
begins_lead who (Put handle) what = (tt, tt)
begins_lead who (Move proc page zone) what = (tt, tt)
begins_lead who op what = ((refl, λ n less. less), tt)

goes_lead : (who : Who) (op : Op) (course : Course) (what : What) → AllLead who (goes_on who op course what)
goes_lead who (Unmap page n) (Taking next) what = takes_down_leads who (events.Unmap who.actor who.proc) next (page + n) what (λ page n less. less)
goes_lead who (Discard page n) (Taking next) what = takes_down_leads who (events.Discard who.actor who.proc) next (page + n) what (λ page n less. less)
goes_lead who Exit (Taking next) what = takes_any_leads who what
goes_lead who (Transfer handle outward slot parts) (Moved k) what = moves_leads who handle outward slot parts k what
goes_lead who (Fork child) (Forking from) what = ((refl, λ n less. tt), ((refl, λ n less. tt), ((refl, λ n less. tt), ((refl, λ n less. tt), tt))))
goes_lead who (Fork child) (Copying page word) what = ((copied_under_way page (word + 1), λ n less. tt), tt)
goes_lead who (Pin handle page n want fast) (Walking k) what =
    (tries_leads who page n want k Walking (λ m. refl), (makes_leads who handle n k, (stops_leads who page k, (drops_leads who page 0 k, tt))))
goes_lead who (Pin handle page n want fast) (Stopped k) what =
    (tries_leads who page n want k Slow (λ m. refl), (makes_leads who handle n k, (drops_leads who page 0 k, tt)))
goes_lead who (Pin handle page n want fast) (Dropping j k) what = (drops_leads who page j k, tt)
goes_lead who (Pin handle page n want fast) (Slow k) what =
    (tries_leads who page n want k Slow (λ m. refl), (makes_leads who handle n k, (tt, tt)))
goes_lead who (Pin handle page n want fast) (Short k) what = (tt, tt)
goes_lead who op course what = tt

arcs_lead : (who : Who) (op : Op) (course : Course) (what : What) → AllLead who (arcs who op course what)
arcs_lead who op Start what = (tt, begins_lead who op what)
arcs_lead who op (Closing answer) what = (tt, tt)
arcs_lead who op course what = goes_lead who op course what

pub next_leads : (who : Who) (op : Op) (course : Course) (what : What) (step : Step) → next_of who op course what ≡ Some step → Leads who what step
next_leads who op course what step is = taken_leads who what step (arcs who op course what) (arcs_lead who op course what) is

pub event_goes_on : (who : Who) (op : Op) (course : Course) (event : PlainEvent) (step : Step) → next_of who op course (Event event) ≡ Some step → ((next : Course) × (step ≡ On next) × (next ≡ Start → ⊥)) × ((n : ℕ) → who.actor < n → HasActor n event)
event_goes_on who op course event (On next) is =
    let leads : Leads who (Event event) (On next) = next_leads who op course (Event event) (On next) is in
    ((next, refl, λ same. cc (ap is_under_way same, leads.0)), leads.1)
event_goes_on who op course event Ended is = absurd (next_leads who op course (Event event) Ended is)

pub answer_ends : (who : Who) (op : Op) (course : Course) (answer : Answer) (step : Step) → next_of who op course (Done answer) ≡ Some step → step ≡ Ended
answer_ends who op course answer (On next) is = absurd (next_leads who op course (Done answer) (On next) is)
answer_ends who op course answer Ended is = refl
