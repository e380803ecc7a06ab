-- What an image keeps of where a job stands.
use Rattle.std.proofs.Common.{◌≡◌, ℕ, List, ◌∷◌, Option, Some, None, refl, sym, ap, ◌∙◌}
use Rattle.gup_spec_events.specs.State.{unread, one, more, WalkStep, entered, ready, reading, read, grabbed, rechecked, differed, refused, stopped, dropping, over}
use Rattle.gup_spec_turns.specs.JobPlace.{JobPlace, unbegun, from_page, at_page, wants_frame, at_word, moving_page, in_walk}
use Rattle.gup_tables.specs.declared.path.Path.{Path}
use Rattle.gup_op_base.specs.declared.jobs.WalkPlace.{WalkPlace}
use Rattle.gup_op_base.specs.declared.jobs.WalkPlace.TheVariants.{Entered, Ready, Read, Grabbed, Rechecked, Differed, Refused, Stopped, Dropping}
use Rattle.gup_op_base.specs.declared.jobs.JobPlace.{JobPlace as KeptPlace}
use Rattle.gup_op_base.specs.declared.jobs.JobPlace.TheVariants.{Unbegun, From, At, Wanting, Copying, Cleared, Single, Shared, Walking}
use Rattle.gup_op_base.specs.Jobs.{step_of, place_of}
use Rattle.gup_op_pins.specs.Pins.{last_page}
use Rattle.gup_op_waits.specs.declared.seats.Seat.{Seat}
use Rattle.gup_image.specs.Image.{read_page, read_job}
use Rattle.gup_image.specs.Alike.{IsSameSeat}

-- ---- it keeps the place and the last page

step_kept : (place : WalkPlace) (page : ℕ) → step_of place (read_page place page) ≡ step_of place page
step_kept Entered page = refl
step_kept Ready page = refl
step_kept (Read path entry) page = refl
step_kept (Grabbed path entry) page = refl
step_kept (Rechecked entry) page = refl
step_kept (Differed frame) page = refl
step_kept Refused page = refl
step_kept Stopped page = refl
step_kept Dropping page = refl

place_kept : (job : KeptPlace) → place_of (read_job job) ≡ place_of job
place_kept Unbegun = refl
place_kept (From page) = refl
place_kept (At page) = refl
place_kept (Wanting page) = refl
place_kept (Copying word to page) = refl
place_kept (Cleared entry page) = refl
place_kept (Single entry page) = refl
place_kept (Shared entry page count) = refl
place_kept (Walking place page sequence) = ap (in_walk sequence) (step_kept place page)

walk_kept : (place : WalkPlace) (page sequence : ℕ) → last_page (Walking place (read_page place page) sequence) ≡ last_page (Walking place page sequence)
walk_kept Entered page sequence = refl
walk_kept Ready page sequence = refl
walk_kept (Read path entry) page sequence = refl
walk_kept (Grabbed path entry) page sequence = refl
walk_kept (Rechecked entry) page sequence = refl
walk_kept (Differed frame) page sequence = refl
walk_kept Refused page sequence = refl
walk_kept Stopped page sequence = refl
walk_kept Dropping page sequence = refl

last_kept : (job : KeptPlace) → last_page (read_job job) ≡ last_page job
last_kept Unbegun = refl
last_kept (From page) = refl
last_kept (At page) = refl
last_kept (Wanting page) = refl
last_kept (Copying word to page) = refl
last_kept (Cleared entry page) = refl
last_kept (Single entry page) = refl
last_kept (Shared entry page count) = refl
last_kept (Walking place page sequence) = walk_kept place page sequence

pub same_place : (x y : KeptPlace) → read_job x ≡ read_job y → place_of x ≡ place_of y
same_place x y same = sym (place_kept x) ∙ ap place_of same ∙ place_kept y

pub same_last : (x y : KeptPlace) → read_job x ≡ read_job y → last_page x ≡ last_page y
same_last x y same = sym (last_kept x) ∙ ap last_page same ∙ last_kept y

-- ---- and it keeps nothing else

-- the path of these tables, the last one first
abbrev path_on : List ℕ → Path
path_on (last ∷ second ∷ third ∷ rest) = record { third = third; second = second; last = last }
path_on tables = record { third = 0; second = 0; last = 0 }

-- what is kept of a walk that has read this sequence and stands at this step
abbrev pub walk_of : (sequence : ℕ) → WalkStep → Option ℕ → KeptPlace
walk_of sequence entered last = Walking Entered 0 sequence
walk_of sequence ready last = Walking Ready 0 sequence
walk_of sequence (reading page path) last = Unbegun
walk_of sequence (read page path entry) last = Walking (Read (path_on path) entry) page sequence
walk_of sequence (grabbed page path entry) last = Walking (Grabbed (path_on path) entry) page sequence
walk_of sequence (rechecked page entry) last = Walking (Rechecked entry) page sequence
walk_of sequence (differed frame) last = Walking (Differed frame) 0 sequence
walk_of sequence refused last = Walking Refused 0 sequence
walk_of sequence stopped last = Walking Stopped 0 sequence
walk_of sequence dropping (Some page) = Walking Dropping page sequence
walk_of sequence dropping None = Unbegun
walk_of sequence over last = Unbegun

-- and of a job at this place, whose last page that is left to drop is this one
abbrev pub job_of : JobPlace → Option ℕ → KeptPlace
job_of unbegun last = Unbegun
job_of (from_page page) last = From page
job_of (at_page page) last = At page
job_of (wants_frame page) last = Wanting page
job_of (at_word page word to) last = Copying word to page
job_of (moving_page page entry unread) last = Cleared entry page
job_of (moving_page page entry one) last = Single entry page
job_of (moving_page page entry (more count)) last = Shared entry page count
job_of (in_walk sequence step) last = walk_of sequence step last

walk_back : (place : WalkPlace) (page sequence : ℕ) → Walking place (read_page place page) sequence ≡ walk_of sequence (step_of place page) (last_page (Walking place page sequence))
walk_back Entered page sequence = refl
walk_back Ready page sequence = refl
walk_back (Read path entry) page sequence = refl
walk_back (Grabbed path entry) page sequence = refl
walk_back (Rechecked entry) page sequence = refl
walk_back (Differed frame) page sequence = refl
walk_back Refused page sequence = refl
walk_back Stopped page sequence = refl
walk_back Dropping page sequence = refl

job_back : (job : KeptPlace) → read_job job ≡ job_of (place_of job) (last_page job)
job_back Unbegun = refl
job_back (From page) = refl
job_back (At page) = refl
job_back (Wanting page) = refl
job_back (Copying word to page) = refl
job_back (Cleared entry page) = refl
job_back (Single entry page) = refl
job_back (Shared entry page count) = refl
job_back (Walking place page sequence) = walk_back place page sequence

pub same_read : (x y : Seat) → IsSameSeat x y → read_job x.job ≡ read_job y.job
same_read x y same = job_back x.job ∙ ap (λ (p : JobPlace). job_of p (last_page x.job)) same.place ∙ ap (job_of (place_of y.job)) same.last ∙ sym (job_back y.job)
