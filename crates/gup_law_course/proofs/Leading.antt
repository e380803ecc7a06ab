-- What is taken leads where each of the arcs leads.
use Rattle.std.proofs.Common.{◌≡◌, ℕ, ◌<◌, ◌&&◌, cond, Bool, true, false, List, [], ◌∷◌, Some, refl, subst}
use Rattle.gup_plain.specs.declared.event.PlainEvent.{PlainEvent}
use Rattle.gup_plain.specs.declared.note.What.{What}
use Rattle.gup_plain.specs.declared.note.What.TheVariants.{Event, Done}
use Rattle.gup_spec_journal.specs.Follows.{Who}
use Rattle.gup_exec_plain.specs.Parts.{HasActor}
use Rattle.gup_check_course.specs.declared.course.Step.{Step}
use Rattle.gup_check_course.specs.declared.course.Step.TheVariants.{On, Ended}
use Rattle.gup_check_course.specs.Arcs.{Arc, taken}
use Rattle.gup_check_course.specs.Same.{same_what}
use Rattle.gup_law_course.specs.UnderWay.{is_under_way}
use Rattle.gup_law_course.proofs.SameActor.{same_actor}

-- the event is one of this actor, if it names one
abbrev pub IsOf : Who → PlainEvent → Type 0
IsOf who event = (n : ℕ) → who.actor < n → HasActor n event

-- with an event the operation is under way, and with an answer it ends
abbrev pub Leads : Who → What → Step → Type 0
Leads who (Event event) (On course) = (is_under_way course ≡ true) × IsOf who event
Leads who (Done answer) Ended = Unit {0}
Leads who what step = ⊥

abbrev pub ArcLeads : Who → Arc → Type 0
ArcLeads who here = Leads who here.what here.step

abbrev pub AllLead : Who → List Arc → Type 0
AllLead who [] = Unit {0}
AllLead who (here ∷ later) = ArcLeads who here × AllLead who later

-- what says the same leads there too
same_leads : (who : Who) (x y : What) (step : Step) → same_what x y ≡ true → Leads who y step → Leads who x step
same_leads who (Event e) (Event f) (On course) same leads = (leads.0, λ n less. same_actor e f n same (leads.1 n less))
same_leads who (Done x) (Done y) Ended same leads = tt
same_leads who x (Event f) Ended same leads = absurd leads
same_leads who x (Done y) (On course) same leads = absurd leads
same_leads who x y step same leads = absurd (cc same)

pub taken_leads : (who : Who) (what : What) (step : Step) (these : List Arc) → AllLead who these → taken what these ≡ Some step → Leads who what step
taken_leads who what step [] all is = absurd (cc is)
taken_leads who what step (here ∷ later) all is =
    chosen here.allowed (same_what what here.what) refl (taken_leads who what step later all.1) is
  where
    chosen : (allowed same : Bool) → same_what what here.what ≡ same → (taken what later ≡ Some step → Leads who what step) → cond (allowed && same) (Some here.step) (taken what later) ≡ Some step → Leads who what step
    chosen true true alike further is = same_leads who what here.what step alike (subst (λ (s : Step). Leads who here.what s) (cc is) all.0)
    chosen true false alike further is = further is
    chosen false same alike further is = further is
