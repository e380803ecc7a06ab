-- The events that move a page are of its process and of frames. They are of no pin and of no birth, and leave other processes, and
-- where other actors stand.
use Rattle.std.proofs.Common.{◌≡◌, ℕ, List, [], ◌∷◌, Option, Some, None, refl, ap, ◌∙◌, arith}
use Rattle.std.proofs.lemmas.Bool.Decides.{nat_tests}
use Rattle.gup_base.specs.declared.entry.Allowed.{Allowed}
use Rattle.gup_base.specs.declared.entry.Allowed.TheVariants.{Only}
use Rattle.gup_base.specs.declared.entry.Entry.{Entry}
use Rattle.gup_base.specs.declared.entry.Rights.{Rights}
use Rattle.gup_base.specs.declared.entry.Zone.{Zone}
use Rattle.gup_plain.specs.Put.{put}
use Rattle.gup_spec_events.specs.State.{CoreState, Job, idle, moving, Counted, unread, one, more}
use Rattle.gup_spec_events.specs.Event.{CoreEvent, happens, take_frame, put_entry, clear_entry, count_moved, place_frame, restore_entry, run}
use Rattle.gup_spec_turns.specs.CoreTurn.{free_in}
use Rattle.gup_spec_turns.specs.JobPlace.{job_place, place_in}
use Rattle.gup_spec_turns.specs.MoveTurns.{place_turn, counted_turn, move_turn}
use Rattle.gup_spec_turns.proofs.TurnParts.{clear_turn_by}
use Rattle.gup_move.proofs.MoveAfter.{IsMoveEvent, clearing, counting, taking, placing, putting, restoring, AreOfMove}
use Rattle.gup_op_turns.proofs.Owning.{AreAll, through, pins_of}

-- an event of a turn of a move of a page of process p by actor a
pub data IsMoving (a p : ℕ) : CoreEvent → Type 0 where
  clears : (page : ℕ) (e : Entry) (allowed : Allowed) → IsMoving a p (clear_entry a p page e allowed)
  counts : (page : ℕ) (e : Entry) (allowed : Allowed) (count : ℕ) → IsMoving a p (count_moved a p page e allowed count)
  takes : (f : ℕ) → IsMoving a p (take_frame a f)
  places : (page f : ℕ) (e : Entry) (allowed : Allowed) → IsMoving a p (place_frame a p page f e allowed)
  puts : (f : ℕ) → IsMoving a p (put_entry a f)
  puts_back : (page : ℕ) (e : Entry) (allowed : Allowed) (count : Counted) → IsMoving a p (restore_entry a p page e allowed count)

abbrev pub AreMoving : (a p : ℕ) → List CoreEvent → Type 0
AreMoving a p es = AreAll (IsMoving a p) es

-- ---- the turns

first_own : (a p page : ℕ) (zone : Zone) (right : Option Rights) (entry : Option Entry) → AreMoving a p (clear_turn_by right a p page zone entry).events
first_own a p page zone None entry = tt
first_own a p page zone (Some rights) None = tt
first_own a p page zone (Some rights) (Some e) = (clears page e (Only zone), tt)

pub place_own : (a p page : ℕ) (e : Entry) (allowed : Allowed) (free : Option ℕ) → AreMoving a p (place_turn a p page e allowed free).events
place_own a p page e allowed None = (puts_back page e allowed one, tt)
place_own a p page e allowed (Some f) = (takes f, (places page f e allowed, (puts e.frame, tt)))

counted_own : (s : CoreState) (a p page : ℕ) (e : Entry) (allowed : Allowed) (count : Counted) → AreMoving a p (counted_turn s a p page e allowed count).events
counted_own s a p page e allowed unread = (counts page e allowed _, tt)
counted_own s a p page e allowed one = place_own a p page e allowed (free_in s allowed)
counted_own s a p page e allowed (more count) = (puts_back page e allowed (more count), tt)

pub move_is_own : (s : CoreState) (a p page : ℕ) (zone : Zone) (job : Job) → AreMoving a p (move_turn s a p page zone job).events
move_is_own s a p page zone idle = first_own a p page zone (s.right p page) (s.entry p page)
move_is_own s a p page zone (moving q g e allowed count) = counted_own s a p page e (Only zone) count
move_is_own s a p page zone job = tt

-- ---- what they leave

pub move_leaves_pins : (a p : ℕ) (s : CoreState) {e : CoreEvent} → IsMoving a p e → pins_of (happens s e) ≡ pins_of s
move_leaves_pins a p s (takes f) = refl
move_leaves_pins a p s event = refl

pub move_leave_pins : (a p : ℕ) (s : CoreState) (es : List CoreEvent) → AreMoving a p es → pins_of (run s es) ≡ pins_of s
move_leave_pins a p s es own = through (IsMoving a p) pins_of (λ x e is. move_leaves_pins a p x is) s es own

pub move_birth_stays : (a p : ℕ) (s : CoreState) {e : CoreEvent} → IsMoving a p e → (happens s e).birth ≡ s.birth
move_birth_stays a p s (takes f) = refl
move_birth_stays a p s event = refl

pub move_births_stay : (a p : ℕ) (s : CoreState) (es : List CoreEvent) → AreMoving a p es → (run s es).birth ≡ s.birth
move_births_stay a p s es own = through (IsMoving a p) (λ x. x.birth) (λ x e is. move_birth_stays a p x is) s es own

pub is_of_move : (a p : ℕ) {e : CoreEvent} → IsMoving a p e → IsMoveEvent p e
is_of_move a p (clears page e allowed) = clearing a page e allowed
is_of_move a p (counts page e allowed count) = counting a page e allowed count
is_of_move a p (takes f) = taking a f
is_of_move a p (places page f e allowed) = placing a page f e allowed
is_of_move a p (puts f) = putting a f
is_of_move a p (puts_back page e allowed count) = restoring a page e allowed count

pub are_of_move : (a p : ℕ) (es : List CoreEvent) → AreMoving a p es → AreOfMove p es
are_of_move a p [] own = tt
are_of_move a p (e ∷ es) own = (is_of_move a p own.0, are_of_move a p es own.1)

-- of other actors: their jobs, and the frames that they have prepared

pub put_other : {X : Type 0} (a b : ℕ) (x : X) (f : ℕ → X) → (a ≡ b → ⊥) → put a x f b ≡ f b
put_other a b x f other = grind (arith, nat_tests)

pub move_place : (a p b : ℕ) (s : CoreState) {e : CoreEvent} → (a ≡ b → ⊥) → IsMoving a p e → place_in (happens s e) b ≡ place_in s b
move_place a p b s other (clears page e allowed) = ap (λ job. job_place job (s.prepared b)) (put_other a b (moving p page e allowed unread) s.job other)
move_place a p b s other (counts page e allowed count) = ap (λ job. job_place job (s.prepared b)) (put_other a b _ s.job other)
move_place a p b s other (takes f) = ap (λ g. job_place (s.job b) g) (put_other a b (Some f) s.prepared other)
move_place a p b s other (places page f e allowed) =
    ap (λ job. job_place job (put a None s.prepared b)) (put_other a b idle s.job other) ∙ ap (λ g. job_place (s.job b) g) (put_other a b None s.prepared other)
move_place a p b s other (puts f) = refl
move_place a p b s other (puts_back page e allowed count) = ap (λ job. job_place job (s.prepared b)) (put_other a b idle s.job other)

pub move_places_stay : (a p b : ℕ) (s : CoreState) (es : List CoreEvent) → (a ≡ b → ⊥) → AreMoving a p es → place_in (run s es) b ≡ place_in s b
move_places_stay a p b s es other own = through (IsMoving a p) (λ x. place_in x b) (λ x e is. move_place a p b x other is) s es own
