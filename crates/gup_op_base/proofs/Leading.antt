-- Turns and notes in other words, and states of frames and a process.
use Rattle.std.proofs.Common.{◌≡◌, ℕ, true, false, List, Result, Ok, Err, is_err, OnOk, OnErr, refl, sym, subst}
use Rattle.gup_plain.specs.declared.note.What.{What}
use Rattle.gup_frames.specs.Frames.{FramesValue}
use Rattle.gup_space.specs.Space.{SpaceValue}
use Rattle.gup_space.specs.Shows.{Change, ShowsFrames, ShowsSpace}
use Rattle.gup_spec_events.specs.State.{CoreState, core_start}
use Rattle.gup_spec_turns.specs.CoreTurn.{CoreTurn}
use Rattle.gup_op_base.specs.Turns.{Leads, IsTurnOf}

abbrev pub ch : (F F' : FramesValue) (S S' : SpaceValue) → Change
ch F F' S S' = record { old_frames = F; new_frames = F'; old_space = S; new_space = S' }

-- the same turn in other words
pub leads_alike : {X : Type 0} {Shows : X → CoreState → Type 0} {new : X} {s : CoreState} {turn other : CoreTurn} {whats : List What} → other ≡ turn → Leads Shows new s turn whats → Leads Shows new s other whats
leads_alike {X} {Shows} {new} {s} {turn} {other} {whats} same h =
    subst (λ (t : CoreTurn). Leads Shows new s t whats) (sym same) h

-- and the same notes
pub notes_alike : {X : Type 0} {Shows : X → CoreState → Type 0} {Stands : CoreState → Type 0} {old new : X} {turn : CoreState → CoreTurn} {whats other : List What} → other ≡ whats → IsTurnOf Shows Stands old new turn whats → IsTurnOf Shows Stands old new turn other
notes_alike {X} {Shows} {Stands} {old} {new} {turn} {whats} {other} same h =
    subst (λ (ws : List What). IsTurnOf Shows Stands old new turn ws) (sym same) h

-- a state of these frames, in which each process is this one
abbrev pub state_of : FramesValue → SpaceValue → CoreState
state_of F S =
    record (core_start F.movable F.normal 0 true (λ _. true)) {
      count = F.count;
      mark = F.mark;
      word = F.word;
      right = λ _. S.right;
      pages = λ _. S.pages;
      entry = λ _. S.entry;
      sequence = λ _. S.sequence;
      has_pinned = λ _. S.has_pinned;
      structure = λ _. S.structure;
      table = λ _. S.table;
      walks = λ _. S.walks;
      place = λ _. S.place;
      retired = λ _. S.retired;
    }

pub has_frames : (F : FramesValue) (S : SpaceValue) → ShowsFrames F (state_of F S)
has_frames F S = record { movable = refl; normal = refl; count = λ f. refl; mark = λ f. refl; word = λ f w. refl; needs_tables = refl }

pub has_space : (F : FramesValue) (S : SpaceValue) (p : ℕ) → ShowsSpace p S (state_of F S)
has_space F S p =
    record {
      right = λ page. refl;
      pages = refl;
      entry = λ page. refl;
      sequence = refl;
      has_pinned = refl;
      structure = refl;
      table = refl;
      walks = refl;
      place = refl;
      retired = refl;
    }

-- a clause on the one side of a result, where it is on that side
pub on_err : {E : Type 0} {P : Type 0} (r : Result (Unit {0}) E) → is_err r ≡ true → OnErr r P → P
on_err (Ok ok) is h = absurd (cc)
on_err (Err e) is h = h

pub on_ok : {E : Type 0} {P : Type 0} (r : Result (Unit {0}) E) → is_err r ≡ false → OnOk r P → P
on_ok (Ok ok) is h = h
on_ok (Err e) is h = absurd (cc)
