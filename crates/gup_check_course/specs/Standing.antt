-- Where an actor stands by what it has said.
use Rattle.std.specs.Prelude.{ℕ, ◌+◌, ◌==◌, if◌then◌else◌, List, [], ◌∷◌, Option, None, Some, slice_get}
use Rattle.gup_script.specs.declared.op.Op.{Op}
use Rattle.gup_script.specs.Script.{ScriptValue}
use Rattle.gup_spec_accepted.specs.Said.{Said}
use Rattle.gup_spec_journal.specs.Place.{process_of, ops_of}
use Rattle.gup_check_course.specs.declared.course.Course.{Course}
use Rattle.gup_check_course.specs.declared.course.Course.TheVariants.{Start}
use Rattle.gup_check_course.specs.declared.course.Step.{Step}
use Rattle.gup_check_course.specs.declared.course.Step.TheVariants.{On, Ended}
use Rattle.gup_check_course.specs.Arcs.{next_of}

-- how many operations are answered, and how far the present one has come
pub record Standing : Type 0 where
  pub answered : ℕ
  pub course : Course

abbrev pub first_standing : Standing
first_standing = record { answered = 0; course = Start }

abbrev pub stands : (answered : ℕ) → Option Step → Option Standing
stands answered None = None
stands answered (Some (On course)) = Some (record { answered = answered; course = course })
stands answered (Some Ended) = Some (record { answered = answered + 1; course = Start })

-- of the present operation, if there is one
abbrev pub steps_in : (a proc : ℕ) → Standing → Option Op → Said → Option Standing
steps_in a proc standing None said = None
steps_in a proc standing (Some op) said =
    if said.number == standing.answered + 1
    then stands standing.answered (next_of (record { actor = a; proc = proc; number = said.number }) op standing.course said.what)
    else None

abbrev pub standing_next : ScriptValue → (a : ℕ) → Standing → Said → Option Standing
standing_next script a standing said =
    steps_in a (process_of script a) standing (slice_get (ops_of script a) standing.answered) said

abbrev pub standing_from : ScriptValue → (a : ℕ) → Option Standing → List Said → Option Standing
standing_from script a None said = None
standing_from script a (Some standing) [] = Some standing
standing_from script a (Some standing) (first ∷ later) = standing_from script a (standing_next script a standing first) later

abbrev pub standing_after : ScriptValue → (a : ℕ) → List Said → Option Standing
standing_after script a said = standing_from script a (Some first_standing) said
