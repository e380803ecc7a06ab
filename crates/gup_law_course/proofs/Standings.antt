-- Where an actor stands agrees with its place, note by note.
use Rattle.std.proofs.Common.{◌≡◌, ℕ, ◌+◌, ◌==◌, cond, Bool, true, false, List, [], ◌∷◌, Option, None, Some, slice_get, refl, ap, sym, subst}
use Rattle.gup_plain.specs.Note.{NoteValue}
use Rattle.gup_plain.specs.declared.note.What.{What}
use Rattle.gup_plain.specs.declared.note.What.TheVariants.{Silent, Event, Done}
use Rattle.gup_script.specs.Script.{ScriptValue, ops_of}
use Rattle.gup_script.specs.declared.op.Op.{Op}
use Rattle.gup_spec_accepted.specs.Said.{Said}
use Rattle.gup_spec_journal.specs.Follows.{Who, note_of}
use Rattle.gup_spec_journal.specs.Place.{Place, place_after, process_of}
use Rattle.gup_check_course.specs.declared.course.Step.{Step}
use Rattle.gup_check_course.specs.declared.course.Step.TheVariants.{On, Ended}
use Rattle.gup_check_course.specs.Arcs.{next_of}
use Rattle.gup_check_course.specs.Standing.{Standing, stands, steps_in, standing_next, standing_from}
use Rattle.gup_spec_check.specs.Seen.{Seen, seen_first, seen_of, seen_after, seen_from, stood}
use Rattle.gup_law_course.specs.UnderWay.{is_under_way}
use Rattle.gup_law_course.proofs.Arcs.{next_leads}

-- if it stands anywhere, this is its place
abbrev Agrees : Option Standing → Place → Type 0
Agrees None place = Unit {0}
Agrees (Some standing) place = (standing.answered ≡ place.answered) × (place.had ≡ is_under_way standing.course)

-- behind a step that may come
step_agrees : (who : Who) (op : Op) (standing : Standing) (place : Place) (what : What) (step : Option Step) → next_of who op standing.course what ≡ step → Agrees (Some standing) place → Agrees (stands standing.answered step) (place_after place what)
step_agrees who op standing place what None is at = tt
step_agrees who op standing place (Event event) (Some (On next)) is at = (at.0, sym (next_leads who op standing.course (Event event) (On next) is).0)
step_agrees who op standing place (Done answer) (Some Ended) is at = (ap (λ (n : ℕ). n + 1) at.0, refl)
step_agrees who op standing place what (Some step) is at = absurd (next_leads who op standing.course what step is)

-- of the operation that is present
op_agrees : (a proc : ℕ) (standing : Standing) (place : Place) (op : Option Op) (said : Said) → Agrees (Some standing) place → Agrees (steps_in a proc standing op said) (place_after place said.what)
op_agrees a proc standing place None said at = tt
op_agrees a proc standing place (Some op) said at = numbered (said.number == standing.answered + 1)
  where
    who : Who
    who = record { actor = a; proc = proc; number = said.number }

    numbered : (b : Bool) → Agrees (cond b (stands standing.answered (next_of who op standing.course said.what)) None) (place_after place said.what)
    numbered true = step_agrees who op standing place said.what (next_of who op standing.course said.what) refl at
    numbered false = tt

-- behind an event or an answer
said_agrees : (script : ScriptValue) (a : ℕ) (standing : Option Standing) (place : Place) (said : Said) → Agrees standing place → Agrees (standing_from script a standing (said ∷ [])) (place_after place said.what)
said_agrees script a None place said at = tt
said_agrees script a (Some standing) place said at =
    ended (standing_next script a standing said) (op_agrees a (process_of script a) standing place (slice_get (ops_of script a) standing.answered) said at)
  where
    ended : (next : Option Standing) → Agrees next (place_after place said.what) → Agrees (standing_from script a next []) (place_after place said.what)
    ended None is = tt
    ended (Some next) is = is

-- a silent note leaves both as they are
silent_agrees : (standing : Option Standing) (place : Place) → Agrees standing place → Agrees standing (place_after place Silent)
silent_agrees None place at = tt
silent_agrees (Some standing) place at = at

-- behind any note
note_agrees : (script : ScriptValue) (turn a number : ℕ) (what : What) (standing : Option Standing) (place : Place) → Agrees standing place → Agrees (stood script (note_of turn a number what) standing) (place_after place what)
note_agrees script turn a number (Event event) standing place at = said_agrees script a standing place (record { number = number; what = Event event }) at
note_agrees script turn a number (Done answer) standing place at = said_agrees script a standing place (record { number = number; what = Done answer }) at
note_agrees script turn a number Silent standing place at = silent_agrees standing place at
note_agrees script turn a number what standing place at = at

-- So it is of each actor.
abbrev AllAgree : Seen → Type 0
AllAgree seen = (a : ℕ) → Agrees (seen.standings a) (seen.judged.places a)

after_agree : (script : ScriptValue) (seen : Seen) (note : NoteValue) → AllAgree seen → AllAgree (seen_after script seen note)
after_agree script seen note at a = own (a == note.actor)
  where
    own : (b : Bool) → Agrees (cond b (stood script note (seen.standings note.actor)) (seen.standings a)) (cond b (place_after (seen.judged.places note.actor) note.what) (seen.judged.places a))
    own true = note_agrees script note.turn note.actor note.op note.what (seen.standings note.actor) (seen.judged.places note.actor) (at note.actor)
    own false = at a

from_agree : (script : ScriptValue) (notes : List NoteValue) (seen : Seen) → AllAgree seen → AllAgree (seen_from script seen notes)
from_agree script [] seen at = at
from_agree script (note ∷ notes) seen at = from_agree script notes (seen_after script seen note) (after_agree script seen note at)

pub standing_is_place : (script : ScriptValue) (notes : List NoteValue) (a : ℕ) (standing : Standing) → (seen_of script notes).standings a ≡ Some standing → (standing.answered ≡ ((seen_of script notes).judged.places a).answered) × (((seen_of script notes).judged.places a).had ≡ is_under_way standing.course)
standing_is_place script notes a standing is =
    let seen : Seen = seen_of script notes in
    subst (λ (o : Option Standing). Agrees o (seen.judged.places a)) is (from_agree script notes (seen_first script) (λ b. (refl, refl)) a)
