-- Who has got references after a turn, by its notes, is who has got them in the core state then.
use Rattle.std.proofs.Common.{◌≡◌, ℕ, ◌==◌, Bool, true, false, if◌then◌else◌, List, [], ◌∷◌, Option, Some, None, slice_get, refl, ap, sym, subst, ◌∙◌, rules}
use Rattle.gup_base.specs.declared.entry.Allowed.TheVariants.{Any}
use Rattle.gup_base.specs.declared.entry.Entry.{Entry}
use Rattle.gup_base.specs.declared.entry.Rights.{Rights}
use Rattle.gup_plain.specs.Put.{put}
use Rattle.gup_plain.specs.State.{PlainState, Birth, failed}
use Rattle.gup_plain.specs.declared.answer.Answer.TheVariants as answers
use Rattle.gup_plain.specs.declared.note.What.{What}
use Rattle.gup_plain.specs.declared.note.What.TheVariants.{Wait, Done}
use Rattle.gup_plain.specs.declared.note.Waiting.{Waiting}
use Rattle.gup_script.specs.Script.{ScriptValue}
use Rattle.gup_script.specs.Valid.{IsScript}
use Rattle.gup_script.specs.declared.op.Op.{Op}
use Rattle.gup_script.specs.declared.op.Op.TheVariants.{Get, Put}
use Rattle.gup_spec_events.specs.State.{CoreState, WalkStep}
use Rattle.gup_spec_events.specs.Event.{take_frame, fill, run}
use Rattle.gup_spec_events.specs.Fault.{read_fault}
use Rattle.gup_spec_journal.specs.Denial.{References, has_reference}
use Rattle.gup_spec_journal.specs.Place.{Place, Doer, doer_of, place_after, ops_of, birth_for}
use Rattle.gup_spec_journal.specs.Plain.{references_after}
use Rattle.gup_spec_turns.specs.CoreTurn.{CoreTurn, answers_with, frame_for}
use Rattle.gup_spec_turns.specs.JobPlace.{JobPlace}
use Rattle.gup_spec_turns.specs.PinTurns.{gets, get_turn, got_frame, got_by, put_turn}
use Rattle.gup_spec_turns.specs.Run.{RunState, run_after, op_in, waiting_in, core_turn_by, core_turn_in}
use Rattle.gup_spec_turns.specs.Turn.{turn_at, own_turn, turn_of}
use Rattle.gup_spec_turns.proofs.TurnParts.{gets_after, put_turn_by}
use Rattle.gup_spec_turns.specs.Emptying.{emptying}
use Rattle.gup_spec_turns.proofs.Unseen.{emptying_reads}
use Rattle.gup_law_turns.proofs.CalmStates.{of_get, of_put}
use Rattle.gup_law_turns.proofs.KeptParts.{leaves_got}
use Rattle.gup_law_turns.proofs.NoteRightness.{references_stay, references_behind}
use Rattle.gup_law_turns.proofs.Puts.{by_points}
use Rattle.gup_law_turns.proofs.StandingStates.{Stands, IsTaken}
use Rattle.gup_law_turns.proofs.TurnShapes.{references_of, WalksTo, walked, TurnOf, refused, TurnAt, goes, child_of, strand_of}
use Rattle.gup_law_turns.proofs.TurnSteps.{taken}
use Rattle.gup_law_turns.proofs.TurnAsOwn.{as_own}

-- a turn says nothing after an answer

abbrev EndsAtAnswer : List What → Type 0
EndsAtAnswer [] = Unit {0}
EndsAtAnswer (Done answer ∷ whats) = whats ≡ []
EndsAtAnswer (what ∷ whats) = EndsAtAnswer whats

walk_ends : {s : PlainState} {who : Doer} {page n got sequence : ℕ} {write : Bool} {step : WalkStep} {whats : List What} {to : JobPlace} → WalksTo s who page n got write sequence step whats to → EndsAtAnswer whats
walk_ends turn = search rules

op_ends : {s : PlainState} {references : References} {who : Doer} {place : Place} {op : Op} {from to : JobPlace} {whats : List What} → TurnOf s references who place op from whats to → EndsAtAnswer whats
op_ends (refused op answer first refusal at_once slow right passes) = refl
op_ends (walked handle page n want sequence step whats to walk more free) = walk_ends walk
op_ends turn = search rules

turn_ends : {s : PlainState} {references : References} {who : Doer} {place : Place} {op : Option Op} {waiting : Option Waiting} {from to : JobPlace} {whats : List What} → TurnAt s references who place op waiting from whats to → EndsAtAnswer whats
turn_ends (goes op whats from to birth own turn) = op_ends turn
turn_ends turn = search rules

-- an operation that neither gets nor puts back changes nothing

abbrev IsNoReference : Option Op → Type 0
IsNoReference (Some (Get handle page)) = ⊥
IsNoReference (Some (Put handle)) = ⊥
IsNoReference op = Unit {0}

none_changed : (references : References) (a : ℕ) (op : Option Op) → IsNoReference op → (what : What) → references_after references a op what ≡ references
none_changed references a (Some (Get handle page)) none what = absurd none
none_changed references a (Some (Put handle)) none what = absurd none
none_changed references a op none what = refl

none_behind : (ops : List Op) (references : References) (a : ℕ) (op : Option Op) (place : Place) (whats : List What) → EndsAtAnswer whats → slice_get ops place.answered ≡ op → IsNoReference op → references_behind ops references a place whats ≡ references
none_behind ops references a op place [] ends is none = refl
none_behind ops references a op place (Done answer ∷ whats) ends is none =
    subst (λ (more : List What). references_behind ops references a place (Done answer ∷ more) ≡ references) (sym ends)
    (ap (λ (o : Option Op). references_after references a o (Done answer)) is ∙ none_changed references a op none (Done answer))
none_behind ops references a op place (what ∷ whats) ends is none =
    ap (λ (k : References). references_behind ops k a (place_after place what) whats) (references_stay references a (slice_get ops place.answered) what tt)
    ∙ none_behind ops references a op (place_after place what) whats ends is none

no_get : (op : Option Op) → IsNoReference op → (h : ℕ) → strand_of op ≡ of_get h → ⊥
no_get (Some (Get handle page)) none h is = none
no_get op none h is = cc is

no_put : (op : Option Op) → IsNoReference op → (h : ℕ) → strand_of op ≡ of_put h → ⊥
no_put (Some (Put handle)) none h is = none
no_put op none h is = cc is

-- a reference that is changed, by who has it
changed_by : (handle : ℕ) (new : Option (ℕ × ℕ)) (got : ℕ → Option (ℕ × ℕ)) → put handle (got_by new) (λ (h : ℕ). got_by (got h)) ≡ (λ (h : ℕ). got_by (put handle new got h))
changed_by handle new got = by_points (λ h. go h (h == handle))
  where
    go : (h : ℕ) (b : Bool) → (if b then got_by new else got_by (got h)) ≡ got_by (if b then new else got h)
    go h true = refl
    go h false = refl

module _ (ops : List Op) (s : CoreState) (who : Doer) (place : Place) where
  -- what a turn's notes and its events make of it is one
  abbrev AreAlike : CoreTurn → Type 0
  AreAlike turn = references_behind ops (references_of s) who.actor place turn.whats ≡ references_of (run s turn.events)

  -- of one note, by the operation
  by_note : (op : Option Op) (what : What) (behind : References) → slice_get ops place.answered ≡ op → references_after (references_of s) who.actor op what ≡ behind → references_behind ops (references_of s) who.actor place (what ∷ []) ≡ behind
  by_note op what behind is same = ap (λ (o : Option Op). references_after (references_of s) who.actor o what) is ∙ same

  -- get
  module _ (handle page : ℕ) (is : slice_get ops place.answered ≡ Some (Get handle page)) where
    get_fault : (rights : Option Rights) (free : Option ℕ) → AreAlike (gets_after s (read_fault who.actor who.proc page rights None free) who.actor who.proc handle page)
    get_fault None free = by_note (Some (Get handle page)) (Done answers.Missing) (references_of s) is refl
    get_fault (Some rights) None = by_note (Some (Get handle page)) (Done answers.NoFrame) (references_of s) is refl
    get_fault (Some rights) (Some f) =
        let turn = gets s (take_frame who.actor f ∷ fill who.actor who.proc page f ∷ []) who.actor who.proc handle page in
        by_note (Some (Get handle page)) (Done answers.Plain) (references_of (run s turn.events)) is (changed_by handle (Some (who.actor, _)) s.got)

    get_entry : (entry : Option Entry) → AreAlike (get_turn s who.actor who.proc handle page entry)
    get_entry (Some e) =
        let turn = gets s [] who.actor who.proc handle page in
        by_note (Some (Get handle page)) (Done answers.Plain) (references_of (run s turn.events)) is (changed_by handle (Some (who.actor, _)) s.got)
    get_entry None = get_fault (s.right who.proc page) (frame_for s who.proc page Any)

    get_alike : (birth : Birth) → AreAlike (turn_at birth (answers_with answers.Unborn) (get_turn s who.actor who.proc handle page (s.entry who.proc page)))
    get_alike failed = by_note (Some (Get handle page)) (Done answers.Unborn) (references_of s) is refl
    get_alike birth = get_entry (s.entry who.proc page)

  -- put
  module _ (handle : ℕ) (is : slice_get ops place.answered ≡ Some (Put handle)) where
    put_held : (has : Bool) → AreAlike (put_turn_by has who.actor handle (got_frame (s.got handle)))
    put_held false = by_note (Some (Put handle)) (Done answers.NotHeld) (references_of s) is refl
    put_held true =
        let turn = put_turn_by true who.actor handle (got_frame (s.got handle)) in
        by_note (Some (Put handle)) (Done answers.Plain) (references_of (run s turn.events)) is (changed_by handle None s.got)

    put_alike : (birth : Birth) → AreAlike (turn_at birth (answers_with answers.Unborn) (put_turn s who.actor handle))
    put_alike failed = by_note (Some (Put handle)) (Done answers.Unborn) (references_of s) is refl
    put_alike birth = put_held (has_reference (got_by (s.got handle)) who.actor)

  -- the slots that are emptied first are no references
  alike_emptied : (turn : CoreTurn) → AreAlike turn → AreAlike (emptying s who.actor turn)
  alike_emptied turn alike = alike ∙ sym (emptying_reads references_of (λ f t. refl) s who.actor turn)

  -- any other operation
  other_alike : (op : Option Op) (waiting : Option Waiting) → IsNoReference op → slice_get ops place.answered ≡ op → IsTaken s who place op waiting (core_turn_by s who place.far op waiting) → AreAlike (core_turn_by s who place.far op waiting)
  other_alike op waiting none is turns =
      let turn : CoreTurn = core_turn_by s who place.far op waiting in
      let left = leaves_got s who.actor who.proc (child_of who.proc op) (strand_of op) turn.events turns.done.kinds in
      none_behind ops (references_of s) who.actor op place turn.whats (turn_ends turns.shape) is none
      ∙ ap (λ (got : ℕ → Option (ℕ × ℕ)). λ (h : ℕ). got_by (got h)) (sym (left.kept (no_get op none) (no_put op none)))

  -- the operation's own turn, of a get and of a put
  get_own : (handle page : ℕ) → slice_get ops place.answered ≡ Some (Get handle page) → AreAlike (own_turn s who place.far (Get handle page))
  get_own handle page is =
      alike_emptied (turn_at (birth_for s.birth who) (answers_with answers.Unborn) (get_turn s who.actor who.proc handle page (s.entry who.proc page))) (get_alike handle page is (birth_for s.birth who))

  put_own : (handle : ℕ) → slice_get ops place.answered ≡ Some (Put handle) → AreAlike (own_turn s who place.far (Put handle))
  put_own handle is =
      alike_emptied (turn_at (birth_for s.birth who) (answers_with answers.Unborn) (put_turn s who.actor handle)) (put_alike handle is (birth_for s.birth who))

module _ (ops : List Op) (s : CoreState) (who : Doer) (place : Place) where
  -- page tables are no references
  with_tables : (op : Op) → ((t : CoreState) → AreAlike ops t who place (own_turn t who place.far op)) → AreAlike ops s who place (turn_of s who place.far op)
  with_tables op alike =
      let own = as_own s who place.far op in
      let t : CoreState = own.state in
      ap (λ (k : References). references_behind ops k who.actor place (turn_of s who place.far op).whats) (sym (ap references_of own.before))
      ∙ ap (references_behind ops (references_of t) who.actor place) own.whats
      ∙ alike t
      ∙ sym (ap references_of own.after)

  alike : (op : Option Op) (waiting : Option Waiting) → slice_get ops place.answered ≡ op → IsTaken s who place op waiting (core_turn_by s who place.far op waiting) → AreAlike ops s who place (core_turn_by s who place.far op waiting)
  alike (Some (Get handle page)) (Some waiting) is turns = by_note ops s who place (Some (Get handle page)) (Wait waiting) (references_of s) is refl
  alike (Some (Get handle page)) None is turns = with_tables (Get handle page) (λ t. get_own ops t who place handle page is)
  alike (Some (Put handle)) (Some waiting) is turns = by_note ops s who place (Some (Put handle)) (Wait waiting) (references_of s) is refl
  alike (Some (Put handle)) None is turns = with_tables (Put handle) (λ t. put_own ops t who place handle is)
  alike op waiting is turns = other_alike ops s who place op waiting tt is turns

pub same_references : (script : ScriptValue) → IsScript script → (r : RunState) → Stands script r → (a : ℕ) → references_behind (ops_of script a) (references_of r.core) a (r.places a) (core_turn_in script r a).whats ≡ references_of (run_after script r a).core
same_references script valid r h a =
    alike (ops_of script a) r.core (doer_of script a (op_in script r a)) (r.places a) (op_in script r a) (waiting_in script r a) refl (taken script valid r h a)
