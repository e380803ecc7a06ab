-- A turn of an operation is its own where its process hasn't failed, and else its refusal, which changes no more than the birth of
-- a fork's child.
use Rattle.std.proofs.Common.{◌≡◌, ℕ, ◌<◌, ◌==◌, Bool, true, false, cond, List, [], ◌∷◌, length, Option, Some, None, IfSome, refl, sym, ap, ◌∙◌, subst, eqb-true, arith}
use Rattle.std.proofs.lemmas.Bool.Decides.{nat_tests}
use Rattle.gup_base.specs.declared.entry.Rights.{Rights}
use Rattle.gup_plain.specs.State.{Birth as CoreBirth, born, failed}
use Rattle.gup_plain.specs.declared.note.What.{What}
use Rattle.gup_script.specs.declared.op.Op.{Op}
use Rattle.gup_script.specs.declared.op.Op.TheVariants.{Fork}
use Rattle.gup_spec_journal.specs.Place.{Doer, birth_by, birth_for}
use Rattle.gup_maps.specs.Table.{at}
use Rattle.gup_frames.specs.Frames.{FramesValue, frames_of}
use Rattle.gup_space.specs.Space.{SpaceParts, space_of}
use Rattle.gup_space.specs.Shows.{ShowsFrames, ShowsSpace}
use Rattle.gup_spec_events.specs.State.{CoreState, Job, idle, forking, ForkStep, between, counted, copying}
use Rattle.gup_spec_events.specs.Event.{CoreEvent, fail_unborn, run}
use Rattle.gup_law_base.specs.Sound.{IsSound, forking_of}
use Rattle.gup_spec_turns.specs.CoreTurn.{CoreTurn}
use Rattle.gup_spec_turns.specs.Turn.{op_turn, failed_turn, turn_at, own_turn}
use Rattle.gup_spec_turns.specs.Waits.{waits_born}
use Rattle.gup_spec_turns.specs.JobPlace.{StandsFork, place_in}
use Rattle.gup_op_base.specs.declared.jobs.JobPlace.{JobPlace}
use Rattle.gup_op_base.specs.Turns.{Leads, IsTurnOf, Anywhere}
use Rattle.gup_op_base.proofs.Leading.{leads_alike}
use Rattle.gup_op_waits.specs.declared.births.Birth.{Birth}
use Rattle.gup_op_waits.specs.declared.births.Birth.TheVariants.{Unborn, Growing, Born, Failed}
use Rattle.gup_op_waits.specs.declared.parts.Parts.{Parts}
use Rattle.gup_op_waits.specs.Births.{HasFailed}
use Rattle.gup_op_waits.specs.Doers.{IsProcessOf}
use Rattle.gup_spec_turns.specs.Emptying.{emptying}
use Rattle.gup_op_turns.specs.Goes.{HasSlots, EndsAt, all_view}
use Rattle.gup_op_turns.proofs.Emptied.{leads_emptied}
use Rattle.gup_op_waits.specs.Parts.{IsBirth, ShowsSpaces, ShowsBirths, ShowsParts}
use Rattle.gup_op_turns.proofs.Owning.{Pins, pins_of}
use Rattle.gup_op_turns.proofs.Scripts.{process_of_doer}
use Rattle.gup_op_turns.proofs.Turning.{IsTurnAmong, IsTurnBy, there, pins_shown, taken_shown, stores_shown}
use Rattle.gup_op_waits.proofs.Waits.{born_and_free}

-- ---- which processes have failed

kept_failed : (kept : Birth) (b : CoreBirth) → IsBirth kept b → b ≡ failed → kept ≡ Failed
kept_failed Unborn b is so = absurd (cc (sym is ∙ so))
kept_failed Growing b is so = absurd (cc (sym is.1 ∙ so))
kept_failed Born b is so = absurd (cc (sym is ∙ so))
kept_failed Failed b is so = refl

-- the machine has it so where the actor's process has failed
pub birth_failed : (births : List Birth) (proc : Option ℕ) (who : Doer) (s : CoreState) → HasFailed births proc → IsProcessOf who proc → ShowsBirths births s → birth_for s.birth who ≡ failed
birth_failed births None who s has of_who shown = absurd has
birth_failed births (Some p) who s has of_who shown =
    ap (λ (t : Bool). birth_by t (s.birth who.proc)) of_who.0 ∙ ap (λ (q : ℕ). s.birth q) of_who.1 ∙ shown p Failed has

pub birth_unfailed : (births : List Birth) (proc : Option ℕ) (who : Doer) (s : CoreState) → (HasFailed births proc → ⊥) → IfSome proc (λ p. p < length births) → IsProcessOf who proc → ShowsBirths births s → birth_for s.birth who ≡ failed → ⊥
birth_unfailed births None who s unfailed within of_who shown is =
    let other : born ≡ failed = sym (ap (λ (t : Bool). birth_by t (s.birth who.proc)) of_who) ∙ is in
    absurd (cc other)
birth_unfailed births (Some p) who s unfailed within of_who shown is =
    let kept = there births p within in
    let so : s.birth p ≡ failed = sym (ap (λ (t : Bool). birth_by t (s.birth who.proc)) of_who.0 ∙ ap (λ (q : ℕ). s.birth q) of_who.1) ∙ is in
    let has : kept.0 ≡ Failed = kept_failed kept.0 (s.birth p) (shown p kept.0 kept.1) so in
    unfailed (kept.1 ∙ ap (λ (b : Birth). Some b) has)

-- ---- no process has failed

pub of_born : (old new : Parts) (a : ℕ) (proc : Option ℕ) (far : ℕ) (op : Op) (place next : JobPlace) (whats : List What)
    → (HasFailed old.births.items proc → ⊥) → IfSome proc (λ p. p < length old.births.items)
    → ((p slots : ℕ) → IfSome proc (λ q. q ≡ p) → HasSlots old a slots → IsTurnAmong old new a p slots far op place whats next)
    → IsTurnBy old new a proc far op place whats next
of_born old new a proc far op place next whats unfailed within turn who k rest left own of_who slots far_is s shown stands =
    let refused_so : CoreTurn = failed_turn who.actor who.proc op in
    let other = birth_unfailed old.births.items proc who s unfailed within of_who shown.parts.births in
    let is_born : birth_for s.birth who ≡ born = (born_and_free (birth_for s.birth who) who.proc (waits_born s who.actor who.proc k op) other stands.free).0 in
    let is : own_turn s who k op ≡ emptying s who.actor (op_turn s a who.proc who.slots k op) =
    ap (λ (b : CoreBirth). emptying s who.actor (turn_at b refused_so (op_turn s who.actor who.proc who.slots k op))) is_born
    ∙ ap (λ (b : ℕ). emptying s who.actor (op_turn s b who.proc who.slots k op)) own in
    leads_alike is
    (leads_emptied a who.actor op (all_view new next rest left) s (op_turn s a who.proc who.slots k op) whats
    (turn who.proc who.slots (process_of_doer who proc of_who) slots k rest left far_is s shown stands.at))

-- ---- a refusal

-- no event, or that a fork's child fails too
pub data IsRefusal (a p : ℕ) (op : Op) : List CoreEvent → Type 0 where
  nothing : IsRefusal a p op []
  fails_too : (child : ℕ) → op ≡ Fork child → IsRefusal a p op (fail_unborn a p child ∷ [])

pub refusal : (a p : ℕ) (op : Op) → IsRefusal a p op (failed_turn a p op).events
refusal a p (Fork child) = fails_too child refl
refusal a p op = nothing

-- the child of a fork of a failed process has no mappings: the fork has not begun
no_maps : (s : CoreState) (a p child : ℕ) (job : Job) (prepared : Option ℕ) → IsSound s → StandsFork s a p child job prepared → s.job a ≡ job → s.birth p ≡ failed → (g : ℕ) → s.right child g ≡ None
no_maps s a p child job prepared sound stands at has g = go job prepared stands at
  where
    forks_born : (q c : ℕ) (done : List ℕ) (step : ForkStep) → q ≡ p → s.job a ≡ forking q c done step → ⊥
    forks_born q c done step same is =
        let parent : s.birth q ≡ born = sound.1.fork_parent a _ (sound.1.forks_are a ∙ ap forking_of is) in
        let other : born ≡ failed = sym parent ∙ ap s.birth same ∙ has in
        cc other

    go : (j : Job) (f : Option ℕ) → StandsFork s a p child j f → s.job a ≡ j → s.right child g ≡ None
    go idle f h is = sound.1.unborn_unmapped child g h
    go (forking q c done between) f h is = absurd (forks_born q c done between h.parent is)
    go (forking q c done (counted page)) f h is = absurd (forks_born q c done (counted page) h.0.parent is)
    go (forking q c done (copying page word)) f h is = absurd (forks_born q c done (copying page word) h.0.parent is)
    go (forking q c done step) f h is = absurd h
    go job f h is = absurd h

-- what it leaves: frames, processes, pins, and where forks stand

frames_left : (a p : ℕ) (op : Op) (F : FramesValue) (s : CoreState) {es : List CoreEvent} → IsRefusal a p op es → ShowsFrames F s → ShowsFrames F (run s es)
frames_left a p op F s nothing h = h
frames_left a p op F s (fails_too child is) h = record { movable = h.movable; normal = h.normal; count = h.count; mark = h.mark; word = h.word; needs_tables = h.needs_tables }

-- a table of which no page has a value has no row
at_first : (row : ℕ × Rights) (rows : List (ℕ × Rights)) → at (row ∷ rows) row.0 ≡ Some row.1
at_first row rows = grind (arith, nat_tests)

no_rows : (rows : List (ℕ × Rights)) → ((g : ℕ) → at rows g ≡ None) → 0 ≡ length rows
no_rows [] none = refl
no_rows (row ∷ rows) none = let other : Some row.1 ≡ None = sym (at_first row rows) ∙ none row.0 in absurd (cc other)

space_left : (a p : ℕ) (op : Op) (q : ℕ) (space : SpaceParts) (s : CoreState) {es : List CoreEvent} → IsRefusal a p op es → ((child : ℕ) → op ≡ Fork child → (g : ℕ) → s.right child g ≡ None)
    → ShowsSpace q (space_of space) s → ShowsSpace q (space_of space) (run s es)
space_left a p op q space s nothing unmapped h = h
space_left a p op q space s (fails_too child is) unmapped h =
    record {
      right = λ g. right_at g (q == child) refl;
      pages = pages_at (q == child) refl;
      entry = h.entry;
      sequence = h.sequence;
      has_pinned = h.has_pinned;
      structure = h.structure;
      table = h.table;
      walks = h.walks;
      place = h.place;
      retired = h.retired;
    }
  where
    none : q ≡ child → (g : ℕ) → at space.rights g ≡ None
    none same g = sym (h.right g) ∙ ap (λ k. s.right k g) same ∙ unmapped child is g

    right_at : (g : ℕ) (here : Bool) → (q == child) ≡ here → (cond here (λ _. None) (s.right q)) g ≡ at space.rights g
    right_at g true same = sym (none (eqb-true q child same) g)
    right_at g false other = h.right g

    pages_at : (here : Bool) → (q == child) ≡ here → cond here 0 (s.pages q) ≡ length space.rights
    pages_at true same = no_rows space.rights (none (eqb-true q child same))
    pages_at false other = h.pages

pins_left : (a p : ℕ) (op : Op) (s : CoreState) {es : List CoreEvent} → IsRefusal a p op es → pins_of (run s es) ≡ pins_of s
pins_left a p op s nothing = refl
pins_left a p op s (fails_too child is) = refl

places_left : (a p : ℕ) (op : Op) (s : CoreState) {es : List CoreEvent} → IsRefusal a p op es → (b : ℕ) → place_in (run s es) b ≡ place_in s b
places_left a p op s nothing b = refl
places_left a p op s (fails_too child is) b = refl

-- the process of whoever is a thread of a failed one
failed_process : (births : List Birth) (proc : Option ℕ) (who : Doer) (s : CoreState) → HasFailed births proc → IsProcessOf who proc → ShowsBirths births s → s.birth who.proc ≡ failed
failed_process births None who s has of_who shown = absurd has
failed_process births (Some p) who s has of_who shown = ap (λ (q : ℕ). s.birth q) of_who.1 ∙ shown p Failed has

pub refused : (old new : Parts) (a : ℕ) (proc : Option ℕ) (far : ℕ) (op : Op) (place : JobPlace) (whats : List What)
    → HasFailed old.births.items proc → new.frames ≡ old.frames → new.spaces ≡ old.spaces → new.handles ≡ old.handles → new.taken ≡ old.taken → new.stores ≡ old.stores
    → ((b p : ℕ) → IsTurnOf ShowsBirths Anywhere old.births.items new.births.items (λ s. failed_turn b p op) whats)
    → IsTurnBy old new a proc far op place whats place
refused old new a proc far op place whats has frames spaces handles taken stores turn who k rest left own of_who slots far_is s shown stands =
    let p : ℕ = who.proc in
    let t : CoreTurn = failed_turn who.actor p op in
    let made : IsRefusal who.actor p op t.events = refusal who.actor p op in
    let has_so : birth_for s.birth who ≡ failed = birth_failed old.births.items proc who s has of_who shown.parts.births in
    let is : own_turn s who k op ≡ emptying s who.actor t = ap (λ (b : CoreBirth). emptying s who.actor (turn_at b t (op_turn s who.actor p who.slots k op))) has_so in
    let unmapped : (child : ℕ) → op ≡ Fork child → (g : ℕ) → s.right child g ≡ None =
    λ child same. no_maps s a p child (s.job a) (s.prepared a) stands.sound (stands.at.fork child same) refl (failed_process old.births.items proc who s has of_who shown.parts.births) in
    let led : Leads ShowsBirths new.births.items s t whats = turn who.actor p s shown.parts.births tt in
    let stay : pins_of (run s t.events) ≡ pins_of s = pins_left who.actor p op s made in
    let parts : ShowsParts new (run s t.events) =
    record {
      frames = subst (λ fs. ShowsFrames (frames_of fs) (run s t.events)) (sym frames) (frames_left who.actor p op (frames_of old.frames) s made shown.parts.frames);
      spaces = subst (λ xs. ShowsSpaces xs.items (run s t.events)) (sym spaces) (λ q space found. space_left who.actor p op q space s made unmapped (shown.parts.spaces q space found));
      births = led.shown;
      pins = pins_shown old new s (run s t.events) handles stay shown.parts.pins;
      taken = taken_shown old new s (run s t.events) taken (ap (λ (k : Pins). k.2) stay) shown.parts.taken;
      stores = stores_shown old new s (run s t.events) stores (ap (λ (k : Pins). k.3) stay) shown.parts.stores;
    } in
    leads_alike is
    (leads_emptied a who.actor op (all_view new place rest left) s t whats
    (record {
      says = led.says;
      shown = record {
        parts = parts;
        job = shown.job ∙ sym (places_left who.actor p op s made a);
        ends = subst (EndsAt op place) (ap (λ (k : Pins). k.2 a) (sym stay)) shown.ends;
        left = λ b apart. ap (λ (k : Pins). k.2 b) stay ∙ shown.left b apart;
        others = λ b apart. places_left who.actor p op s made b ∙ shown.others b apart;
      };
    }))
