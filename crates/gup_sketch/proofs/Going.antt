-- A trace gone over turn by turn, with the machine beside it.
use Rattle.std.proofs.Common.{◌≡◌, ℕ, ◌+◌, ◌≤◌, ◌<◌, ◌^◌, List, [], ◌∷◌, ◌++◌, Option, length, refl, sym, ap, subst, ◌∙◌, arith, length-append}
use Rattle.std.specs.List.{All}
use Rattle.std.proofs.lemmas.List.Elements.{All-tail}
use Rattle.gup_plain.specs.Note.{NoteValue}
use Rattle.gup_script.specs.Script.{ScriptValue}
use Rattle.gup_image.specs.declared.fact.Fact.{Fact}
use Rattle.gup_spec_trace.specs.Written.{CanBeWritten}
use Rattle.gup_replay.specs.Turns.{BeginWith, IsTurn, taker}
use Rattle.gup_replay.specs.Beside.{ReplayValue, IsReplay, IsShown}
use Rattle.gup_sketch.specs.Behind.{IsReplayTo, IsStateAt}

-- one turn more
begin_on : (notes : List NoteValue) (turns : List (List NoteValue)) (turn rest behind : List NoteValue) → BeginWith notes turns rest → rest ≡ turn ++ behind → IsTurn turn behind → BeginWith notes (turns ++ turn ∷ []) behind
begin_on notes [] turn rest behind begins cut is = (behind, begins ∙ cut, is, refl)
begin_on notes (t ∷ turns) turn rest behind begins cut is =
    (begins.0, begins.1, begins.2, begin_on begins.0 turns turn rest behind begins.3 cut is)

-- What is true between two turns: the machine is beside those so far, or can't be, and the notes that are left can be written.
abbrev pub IsGoing : ScriptValue → (notes rest : List NoteValue) → ReplayValue → Type 0
IsGoing script notes rest replay =
    (turns : List (List NoteValue)) × BeginWith notes turns rest × IsReplay script turns replay
    × All (CanBeWritten script) rest × (length turns + length rest ≤ length notes)

none_first : (notes : List NoteValue) → length {A = List NoteValue} [] + length notes ≤ length notes
none_first notes = omega arith

pub going_first : (script : ScriptValue) (notes : List NoteValue) (replay : ReplayValue) → IsReplay script [] replay → All (CanBeWritten script) notes → IsGoing script notes notes replay
going_first script notes replay is written = ([], refl, is, written, none_first notes)

pub is_to : (script : ScriptValue) (notes rest : List NoteValue) (replay : ReplayValue) → IsGoing script notes rest replay → IsReplayTo script notes rest replay
is_to script notes rest replay going = (going.0, going.1, going.2)

-- a turn has a note
pub has_note : (turn behind : List NoteValue) → IsTurn turn behind → 0 < length turn
has_note [] behind is = absurd is
has_note (note ∷ turn) behind is = omega arith

-- who takes the turn is an actor
taker_there : (script : ScriptValue) (turn behind : List NoteValue) → IsTurn turn behind → All (CanBeWritten script) (turn ++ behind) → taker turn < length script.actors
taker_there script [] behind is written = absurd is
taker_there script (note ∷ turn) behind is written = (written 0 note (omega arith)).1

-- the notes behind a turn can be written
written_behind : (script : ScriptValue) (turn behind : List NoteValue) → All (CanBeWritten script) (turn ++ behind) → All (CanBeWritten script) behind
written_behind script [] behind written = written
written_behind script (note ∷ turn) behind written = written_behind script turn behind (All-tail (CanBeWritten script) note (turn ++ behind) written)

pub follows_there : (script : ScriptValue) (notes rest turn behind : List NoteValue) (replay : ReplayValue) → rest ≡ turn ++ behind → IsTurn turn behind → IsGoing script notes rest replay → taker turn < length replay.machine.script.actors
follows_there script notes rest turn behind replay cut is going =
    subst (λ (s : ScriptValue). taker turn < length s.actors) (sym going.2.same)
    (taker_there script turn behind is (subst (λ (ns : List NoteValue). All (CanBeWritten script) ns) cut going.3))

few_turns : (turns rest notes turn behind : ℕ) → rest ≡ turn + behind → 0 < turn → turns + rest ≤ notes → notes + 1 < 2 ^ 32 → turns + 1 < 2 ^ 32
few_turns turns rest notes turn behind cut some fits few = omega arith

one_turn_more : (turns rest notes turn behind more : ℕ) → rest ≡ turn + behind → 0 < turn → turns + rest ≤ notes → more ≡ turns + 1 → more + behind ≤ notes
one_turn_more turns rest notes turn behind more cut some fits is = omega arith

cut_length : (rest turn behind : List NoteValue) → rest ≡ turn ++ behind → length rest ≡ length turn + length behind
cut_length rest turn behind cut = ap (λ (ns : List NoteValue). length ns) cut ∙ length-append turn behind

pub fewer_left : (rest turn behind : List NoteValue) → rest ≡ turn ++ behind → IsTurn turn behind → length behind < length rest
fewer_left rest turn behind cut is =
    let long = cut_length rest turn behind cut in
    let some = has_note turn behind is in
    omega (arith, long, some)

-- the machine follows one turn more
pub going_on : (script : ScriptValue) (notes rest turn behind : List NoteValue) (old new : ReplayValue) → rest ≡ turn ++ behind → IsTurn turn behind → length notes + 1 < 2 ^ 32 → ((s : ScriptValue) (turns : List (List NoteValue)) → length turns + 1 < 2 ^ 32 → IsReplay s turns old → IsReplay s (turns ++ turn ∷ []) new) → IsGoing script notes rest old → IsGoing script notes behind new
going_on script notes rest turn behind old new cut is few follows going =
    let turns = going.0 in
    let some = has_note turn behind is in
    let long = cut_length rest turn behind cut in
    let fits = going.4 in (
      turns ++ turn ∷ [],
      begin_on notes turns turn rest behind going.1 cut is,
      follows script turns (few_turns (length turns) (length rest) (length notes) (length turn) (length behind) long some fits few) going.2,
      written_behind script turn behind (subst (λ (ns : List NoteValue). All (CanBeWritten script) ns) cut going.3),
      one_turn_more (length turns) (length rest) (length notes) (length turn) (length behind) (length (turns ++ turn ∷ [])) long some fits (length-append turns (turn ∷ [])),
    )

-- the state that the machine beside the turns has
pub state_at : (script : ScriptValue) (notes rest : List NoteValue) (replay : ReplayValue) (state : Option (List Fact)) → ((s : ScriptValue) (turns : List (List NoteValue)) → IsReplay s turns replay → IsShown s turns state) → IsReplayTo script notes rest replay → IsStateAt script notes rest state
state_at script notes rest replay state shows to = (to.0, to.1, shows script to.0 to.2)
