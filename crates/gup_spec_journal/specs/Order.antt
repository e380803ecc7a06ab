-- A journal is in its script's order where its turns are first the written ones and then those that the pointer
-- gives, to the end.
use Rattle.std.specs.Prelude.{◌≡◌, ℕ, ◌+◌, ◌≤◌, ◌<◌, ◌⊎◌, ◌==◌, Bool, true, false, if◌then◌else◌, List, [], ◌∷◌, ◌++◌, length, Option, Some, None, slice_get, zero, suc}
use Rattle.gup_plain.specs.Note.{NoteValue}
use Rattle.gup_plain.specs.Put.{put}
use Rattle.gup_plain.specs.State.{PlainState, Birth, born, failed, Handle, given, plain_start}
use Rattle.gup_plain.specs.declared.note.What.{What}
use Rattle.gup_plain.specs.declared.note.What.TheVariants.{Idle, Wait}
use Rattle.gup_plain.specs.declared.note.Waiting.{Waiting}
use Rattle.gup_plain.specs.declared.note.Waiting.TheVariants as waitings
use Rattle.gup_script.specs.declared.op.Op.{Op}
use Rattle.gup_script.specs.declared.op.Op.TheVariants.{Map, Unmap, Protect, Discard, Load, Store, Pin, Take, Get, Mirror, Fork, Exit, Move}
use Rattle.gup_script.specs.Script.{ScriptValue}
use Rattle.gup_spec_journal.specs.Place.{Place, first_place, place_behind, doer_of, birth_for, present_op, has_finished, starts_born}
use Rattle.gup_spec_journal.specs.Plain.{plain_after}
use Rattle.gup_spec_journal.specs.Follows.{is_of_operation, notes_of_turn}

-- a turn: its actor, and what its notes say
pub record Turn : Type 0 where
  pub actor : ℕ
  pub whats : List What

abbrev pub places_behind : (ℕ → Place) → Turn → ℕ → Place
places_behind places turn = put turn.actor (place_behind (places turn.actor) turn.whats) places

-- The notes of turns that are numbered from this number on. A note has the number of the operation after those
-- that the actor has answered.
abbrev pub journal_of : ℕ → (ℕ → Place) → List Turn → List NoteValue
journal_of number places [] = []
journal_of number places (turn ∷ turns) =
    notes_of_turn number turn.actor ((places turn.actor).answered + 1) turn.whats
    ++ journal_of (number + 1) (places_behind places turn) turns

abbrev pub is_given_to : Handle → ℕ → Bool
is_given_to (given to objects write) a = to == a
is_given_to handle a = false

-- an actor that is to take a pin waits until the pin is given to it
abbrev pub taking_waits : (given : Bool) → (handle : ℕ) → Option Waiting
taking_waits true handle = None
taking_waits false handle = Some (waitings.Handle handle)

abbrev pub handle_waits : (ℕ → Handle) → (a : ℕ) → Option Op → Option Waiting
handle_waits handle a (Some (Take h)) = taking_waits (is_given_to (handle h) a) h
handle_waits handle a op = None

-- before that, an operation of a process that is yet to be born waits for it; where that failed it waits for nothing
abbrev pub waiting_at : ℕ → Birth → Option Waiting → Option Waiting
waiting_at p born waits = waits
waiting_at p failed waits = None
waiting_at p birth waits = Some (waitings.Process p)

-- what the turns so far have led to
pub record Ordered : Type 0 where
  pub plain : PlainState
  pub places : ℕ → Place
  pub pointer : ℕ
  pub turns : ℕ

abbrev pub waiting_of : ScriptValue → Ordered → ℕ → Option Waiting
waiting_of script o a =
    let op = present_op script a (o.places a) in
    let who = doer_of script a op in
    waiting_at who.proc (birth_for o.plain.birth who) (handle_waits o.plain.handle a op)

abbrev pub finished_in : ScriptValue → Ordered → ℕ → Bool
finished_in script o a = has_finished script a (o.places a)

-- the operations that keep a lock of their process between two turns, of pins those for long
abbrev pub KeepsLock : Option Op → Type 0
KeepsLock (Some (Pin handle page n want fast)) = want.long ≡ true
KeepsLock (Some (Move proc page zone)) = Unit {0}
KeepsLock (Some (Fork child)) = Unit {0}
KeepsLock op = ⊥

-- the operations of which a turn may need a lock: what is done with a pin, a reference or a mirror that is there needs none
abbrev pub MayNeedLock : Option Op → Type 0
MayNeedLock (Some (Map page n rights)) = Unit {0}
MayNeedLock (Some (Unmap page n)) = Unit {0}
MayNeedLock (Some (Protect page n rights)) = Unit {0}
MayNeedLock (Some (Discard page n)) = Unit {0}
MayNeedLock (Some (Load page word)) = Unit {0}
MayNeedLock (Some (Store page word value)) = Unit {0}
MayNeedLock (Some (Pin handle page n want fast)) = Unit {0}
MayNeedLock (Some (Get handle page)) = Unit {0}
MayNeedLock (Some (Mirror mirror proc page)) = Unit {0}
MayNeedLock (Some (Move proc page zone)) = Unit {0}
MayNeedLock (Some (Fork child)) = Unit {0}
MayNeedLock (Some Exit) = Unit {0}
MayNeedLock op = ⊥

-- Another actor b is in the middle of an operation that keeps a lock, of the same process as a's operation, which may need it:
-- so a may wait for b.
abbrev pub MayHold : ScriptValue → Ordered → (a b : ℕ) → Type 0
MayHold script o a b =
    let op = present_op script a (o.places a) in
    let other = present_op script b (o.places b) in
    (a ≡ b → ⊥) × ((doer_of script b other).proc ≡ (doer_of script a op).proc) × (0 < (o.places b).far)
    × KeepsLock other × MayNeedLock op

-- one to three notes of the present operation
abbrev pub AreOfOperation : List What → Type 0
AreOfOperation [] = Unit {0}
AreOfOperation (what ∷ whats) = (is_of_operation what ≡ true) × AreOfOperation whats

abbrev pub Moves : List What → Type 0
Moves whats = (1 ≤ length whats) × (length whats ≤ 3) × AreOfOperation whats

-- A written turn of an actor that has finished is idle, one of an actor that waits says so, and any other moves
-- the actor on.
abbrev pub IsWrittenTurn : (finished : Bool) → Option Waiting → (holder : ℕ → Type 0) → List What → Type 0
IsWrittenTurn true waiting holder whats = whats ≡ Idle ∷ []
IsWrittenTurn false (Some waiting) holder whats = whats ≡ Wait waiting ∷ []
IsWrittenTurn false None holder whats =
    Moves whats ⊎ ((b : ℕ) × holder b × (whats ≡ Wait (waitings.Holder b) ∷ []))

-- the actor after this one, in a circle
abbrev pub behind : (actors a : ℕ) → ℕ
behind actors a = if a + 1 == actors then 0 else a + 1

abbrev pub behind_by : (actors steps a : ℕ) → ℕ
behind_by actors zero a = a
behind_by actors (suc steps) a = behind_by actors steps (behind actors a)

-- the actor has finished, or waits for its process or for a pin
abbrev pub IsOverAt : (finished : Bool) → Option Waiting → Type 0
IsOverAt false None = ⊥
IsOverAt finished waiting = Unit {0}

abbrev pub IsOver : ScriptValue → Ordered → ℕ → Type 0
IsOver script o a = IsOverAt (finished_in script o a) (waiting_of script o a)

-- the actor can take no turn: so it is, or it waits for another that may hold a lock of its process
abbrev pub IsPassed : ScriptValue → Ordered → ℕ → Type 0
IsPassed script o a = IsOver script o a ⊎ ((b : ℕ) × MayHold script o a b)

-- The pointer gives the turn to this actor: it passes those before it, in a circle, and the actor neither has
-- finished nor waits.
pub record IsPointedTurn (script : ScriptValue) (o : Ordered) (turn : Turn) : Type 0 where
  pub steps : ℕ
  pub fewer : steps < length script.actors
  pub actor : turn.actor ≡ behind_by (length script.actors) steps o.pointer
  pub passed : (k : ℕ) → k < steps → IsPassed script o (behind_by (length script.actors) k o.pointer)
  pub unfinished : finished_in script o turn.actor ≡ false
  pub unwaiting : waiting_of script o turn.actor ≡ None
  pub moves : Moves turn.whats

-- the turn is the next: the written one if one is left, else the pointer's
abbrev pub IsNextTurn : ScriptValue → Ordered → Option ℕ → Turn → Type 0
IsNextTurn script o (Some written) turn =
    (turn.actor ≡ written)
    × IsWrittenTurn (finished_in script o turn.actor) (waiting_of script o turn.actor) (MayHold script o turn.actor) turn.whats
IsNextTurn script o None turn = IsPointedTurn script o turn

-- a pointed turn leaves the pointer after its actor
abbrev pub pointer_after : (actors pointer : ℕ) → Option ℕ → ℕ → ℕ
pointer_after actors pointer (Some written) a = pointer
pointer_after actors pointer None a = behind actors a

abbrev pub plain_behind : PlainState → List What → PlainState
plain_behind s [] = s
plain_behind s (what ∷ whats) = plain_behind (plain_after s what) whats

abbrev pub written_turn : ScriptValue → Ordered → Option ℕ
written_turn script o = slice_get script.turns o.turns

abbrev pub ordered_after : ScriptValue → Ordered → Turn → Ordered
ordered_after script o turn =
    record {
      plain = plain_behind o.plain turn.whats;
      places = places_behind o.places turn;
      pointer = pointer_after (length script.actors) o.pointer (written_turn script o) turn.actor;
      turns = o.turns + 1;
    }

-- The turns are the next ones, each after those before it, up to where none is left: the written turns are over,
-- and each actor has finished, or waits for its process or for a pin.
abbrev pub AreInOrder : ScriptValue → Ordered → List Turn → Type 0
AreInOrder script o [] =
    (written_turn script o ≡ None) × ((a : ℕ) → a < length script.actors → IsOver script o a)
AreInOrder script o (turn ∷ turns) =
    IsNextTurn script o (written_turn script o) turn × AreInOrder script (ordered_after script o turn) turns

abbrev pub ordered_first : ScriptValue → Ordered
ordered_first script =
    record { plain = plain_start (starts_born script); places = λ _. first_place; pointer = 0; turns = 0 }

abbrev pub InOrder : ScriptValue → List NoteValue → Type 0
InOrder script notes =
    (turns : List Turn) × (notes ≡ journal_of 1 (λ _. first_place) turns) × AreInOrder script (ordered_first script) turns
