-- What finishes an operation begins with one of those that may come.
use Rattle.std.proofs.Common.{◌≡◌, ◌⊎◌, inl, inr, true, List, [], ◌∷◌, sym, subst}
use Rattle.gup_plain.specs.declared.answer.Answer.{Answer}
use Rattle.gup_plain.specs.declared.note.What.{What}
use Rattle.gup_plain.specs.declared.note.What.TheVariants.{Done}
use Rattle.gup_script.specs.declared.op.Op.{Op}
use Rattle.gup_spec_journal.specs.Follows.{Who}
use Rattle.gup_check_course.specs.declared.course.Course.{Course}
use Rattle.gup_check_course.specs.declared.course.Course.TheVariants.{Closing}
use Rattle.gup_check_course.specs.declared.course.Step.{Step}
use Rattle.gup_check_course.specs.declared.course.Step.TheVariants.{On, Ended}
use Rattle.gup_check_course.specs.Arcs.{Arc, arcs}
use Rattle.gup_check_course.proofs.Finish.{Finishes, Among, among}

-- the rest finishes it behind this
abbrev pub Leads : Who → Op → Step → List What → Type 0
Leads who op (On course) whats = Finishes who op course whats
Leads who op Ended whats = whats ≡ []

-- it is one of these, and the rest finishes the operation
abbrev pub Through : Who → Op → What → List What → List Arc → Type 0
Through who op what whats [] = ⊥
Through who op what whats (here ∷ later) =
    ((here.allowed ≡ true) × (what ≡ here.what) × Leads who op here.step whats) ⊎ Through who op what whats later

one_through : (who : Who) (op : Op) (what : What) (step : Step) (whats : List What) (these : List Arc) → Leads who op step whats → Among what step these → Through who op what whats these
one_through who op what step whats [] leads is = is
one_through who op what step whats (here ∷ later) leads (inl is) = inl (is.0, is.1, subst (λ (s : Step). Leads who op s whats) (sym is.2) leads)
one_through who op what step whats (here ∷ later) leads (inr is) = inr (one_through who op what step whats later leads is)

pub through : (who : Who) (op : Op) (course : Course) (what : What) (whats : List What) → Finishes who op course (what ∷ whats) → Through who op what whats (arcs who op course what)
through who op course what whats (inl is) =
    one_through who op what Ended whats (arcs who op course what) is.1 (among what Ended (arcs who op course what) is.0)
through who op course what whats (inr is) =
    one_through who op what (On is.0) whats (arcs who op course what) is.2 (among what (On is.0) (arcs who op course what) is.1)

-- of one that closes its answer is left
pub closing_said : (who : Who) (op : Op) (answer : Answer) (whats : List What) → Finishes who op (Closing answer) whats → whats ≡ Done answer ∷ []
closing_said who op answer [] ends = absurd ends
closing_said who op answer (what ∷ whats) ends = only (through who op (Closing answer) what whats ends)
  where
    only : Through who op what whats (arcs who op (Closing answer) what) → what ∷ whats ≡ Done answer ∷ []
    only (inl is) = cc
    only (inr is) = absurd is
