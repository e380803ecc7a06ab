-- What a search finds depends on its test's answers alone.
use Rattle.std.proofs.Common.{◌≡◌, ℕ, ◌+◌, ◌==◌, ◌||◌, if◌then◌else◌, Bool, cond, true, false, Option, Some, None, refl, sym, ap, ◌∙◌, zero, suc}
use Rattle.gup_base.specs.declared.entry.Allowed.{Allowed}
use Rattle.gup_base.specs.declared.entry.Allowed.TheVariants.{Any, Only}
use Rattle.gup_base.specs.declared.entry.Zone.TheVariants.{Movable, Normal}
use Rattle.gup_plain.specs.Put.{lowest}
use Rattle.gup_plain.specs.Denial.{any_below}
use Rattle.gup_frames.specs.Frames.{FramesValue, frames_in, free_from, free_frame}
use Rattle.gup_space.specs.Space.{SpaceValue, lacking}
use Rattle.gup_space.specs.Found.{found_for}
use Rattle.gup_space.specs.Shows.{ShowsFrames, ShowsSpace}
use Rattle.gup_spec_tables.specs.Tables.{lacks}
use Rattle.gup_spec_tables.specs.declared.place.Place.{Place}
use Rattle.gup_spec_events.specs.State.{CoreState}
use Rattle.gup_spec_events.specs.Event.{has_tables, tree_in}
use Rattle.gup_spec_turns.specs.CoreTurn.{free_in, frame_for, free_from as free_from_in}

pub lowest_same : (first n : ℕ) (test other : ℕ → Bool) → ((k : ℕ) → test k ≡ other k) → lowest first n test ≡ lowest first n other
lowest_same first zero test other same = refl
lowest_same first (suc n) test other same =
    ap (λ b. cond b (Some first) (lowest (first + 1) n test)) (same first)
    ∙ ap (λ rest. cond (other first) (Some first) rest) (lowest_same (first + 1) n test other same)

-- what is found passes
pub lowest_passes : (first n f : ℕ) (test : ℕ → Bool) → lowest first n test ≡ Some f → test f ≡ true
lowest_passes first zero f test found = absurd (cc)
lowest_passes first (suc n) f test found = go (test first) refl found (λ later. lowest_passes (first + 1) n f test later)
  where
    go : (b : Bool) → test first ≡ b → cond b (Some first) (lowest (first + 1) n test) ≡ Some f → (lowest (first + 1) n test ≡ Some f → test f ≡ true) → test f ≡ true
    go true is same later = let at : first ≡ f = cc in ap test (sym at) ∙ is
    go false is found later = later found

-- a free frame has no reference
pub free_passes : (frames : FramesValue) (allowed : Allowed) (f : ℕ) → free_frame frames allowed ≡ Some f → (frames.count f == 0) ≡ true
free_passes frames Any f found = lowest_passes 0 (frames_in frames) f (λ g. frames.count g == 0) found
free_passes frames (Only Movable) f found = lowest_passes 0 frames.movable f (λ g. frames.count g == 0) found
free_passes frames (Only Normal) f found = lowest_passes frames.movable frames.normal f (λ g. frames.count g == 0) found

free_from_agrees : (frames : FramesValue) (first n : ℕ) (s : CoreState) → ShowsFrames frames s → free_from_in s first n ≡ free_from frames first n
free_from_agrees frames first n s h =
    lowest_same first n (λ f. s.count f == 0) (λ f. frames.count f == 0) (λ f. ap (λ m. m == 0) (h.count f))

-- the free frame of a state is that of the frames that it shows, whichever zones are allowed
pub free_agrees : (frames : FramesValue) (allowed : Allowed) (s : CoreState) → ShowsFrames frames s → free_in s allowed ≡ free_frame frames allowed
free_agrees frames Any s h =
    free_from_agrees frames 0 (s.movable + s.normal) s h
    ∙ ap (λ n. free_from frames 0 n) (ap (λ m. m + s.normal) h.movable ∙ ap (λ m. frames.movable + m) h.normal)
free_agrees frames (Only Movable) s h =
    free_from_agrees frames 0 s.movable s h ∙ ap (λ n. free_from frames 0 n) h.movable
free_agrees frames (Only Normal) s h =
    free_from_agrees frames s.movable s.normal s h
    ∙ ap (λ m. free_from frames m s.normal) h.movable
    ∙ ap (λ n. free_from frames frames.movable n) h.normal

-- a page has its tables in the state exactly where it lacks none in the process that the state shows
pub tables_agree : (frames : FramesValue) (space : SpaceValue) (p page : ℕ) (s : CoreState) → ShowsFrames frames s → ShowsSpace p space s → has_tables s p page ≡ (lacking space page == 0)
tables_agree frames space p page s h shown =
    ap (λ (needs : Bool). if needs then lacks (tree_in s p) page == 0 else true) h.needs_tables
    ∙ ap (λ (place : ℕ → Option Place). lacks (record { entry = s.entry p; place = place; tables = 0; room = 0 }) page == 0) shown.place

-- and the frame for it is the one that is found there
pub frame_agrees : (frames : FramesValue) (space : SpaceValue) (p page : ℕ) (allowed : Allowed) (s : CoreState) → ShowsFrames frames s → ShowsSpace p space s → frame_for s p page allowed ≡ found_for frames space page allowed
frame_agrees frames space p page allowed s h shown =
    ap (λ (may : Bool). if may then free_in s allowed else None) (tables_agree frames space p page s h shown)
    ∙ ap (λ (free : Option ℕ). if lacking space page == 0 then free else None) (free_agrees frames allowed s h)

pub any_same : (n : ℕ) (test other : ℕ → Bool) → ((k : ℕ) → test k ≡ other k) → any_below n test ≡ any_below n other
any_same zero test other same = refl
any_same (suc n) test other same =
    ap (λ b. b || test n) (any_same n test other same) ∙ ap (λ b. any_below n other || b) (same n)
