-- Where an actor's job stands, as the machine keeps it.
use Rattle.gup_spec_events.specs.State.{unread, one, more, WalkStep, entered, ready, read, grabbed, rechecked, differed, refused, stopped, dropping}
use Rattle.gup_spec_turns.specs.JobPlace.{JobPlace, unbegun, from_page, at_page, wants_frame, at_word, moving_page, in_walk}
use Rattle.std.specs.Prelude.{ℕ}
use Rattle.gup_tables.specs.Path.{tables_on}
use Rattle.gup_op_base.specs.declared.jobs.WalkPlace.{WalkPlace}
use Rattle.gup_op_base.specs.declared.jobs.WalkPlace.TheVariants.{Entered, Ready, Read, Grabbed, Rechecked, Differed, Refused, Stopped, Dropping}
use Rattle.gup_op_base.specs.declared.jobs.JobPlace.{JobPlace as KeptPlace}
use Rattle.gup_op_base.specs.declared.jobs.JobPlace.TheVariants.{Unbegun, From, At, Wanting, Copying, Cleared, Single, Shared, Walking}

-- the step at which a walk stands, at this page
abbrev pub step_of : WalkPlace → (page : ℕ) → WalkStep
step_of Entered page = entered
step_of Ready page = ready
step_of (Read path entry) page = read page (tables_on path) entry
step_of (Grabbed path entry) page = grabbed page (tables_on path) entry
step_of (Rechecked entry) page = rechecked page entry
step_of (Differed frame) page = differed frame
step_of Refused page = refused
step_of Stopped page = stopped
step_of Dropping page = dropping

abbrev pub place_of : KeptPlace → JobPlace
place_of Unbegun = unbegun
place_of (From page) = from_page page
place_of (At page) = at_page page
place_of (Wanting page) = wants_frame page
place_of (Copying word to page) = at_word page word to
place_of (Cleared entry page) = moving_page page entry unread
place_of (Single entry page) = moving_page page entry one
place_of (Shared entry page count) = moving_page page entry (more count)
place_of (Walking place page sequence) = in_walk sequence (step_of place page)
