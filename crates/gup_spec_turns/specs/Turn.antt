-- The turn table: which core events the next turn of an operation is, and what its notes say.
use Rattle.std.specs.Prelude.{ℕ, ◌+◌, ◌==◌, List, [], ◌∷◌, ◌++◌}
use Rattle.gup_plain.specs.State.{Birth, failed}
use Rattle.gup_plain.specs.declared.answer.Answer.TheVariants as answers
use Rattle.gup_plain.specs.declared.event.PlainEvent.TheVariants as events
use Rattle.gup_script.specs.declared.op.Op.{Op}
use Rattle.gup_script.specs.declared.op.Op.TheVariants.{Map, Unmap, Protect, Discard, Load, Store, Pin, Unpin, Give, Take, Get, Put, Transfer, Mirror, Look, Fork, Exit, Move}
use Rattle.gup_spec_events.specs.State.{CoreState}
use Rattle.gup_spec_events.specs.Event.{CoreEvent, fail_unborn, run}
use Rattle.gup_spec_journal.specs.Place.{Doer, birth_for}
use Rattle.gup_spec_turns.specs.CoreTurn.{CoreTurn, answers_with, ends_with}
use Rattle.gup_spec_turns.specs.Emptying.{emptying}
use Rattle.gup_spec_turns.specs.PageTurns.{load_turn, store_turn, map_turn, unmap_turn, protect_turn, discard_turn, exit_turn}
use Rattle.gup_spec_turns.specs.PinTurns.{pin_turn, unpin_turn, give_turn, take_turn, get_turn, put_turn}
use Rattle.gup_spec_turns.specs.DeviceTurns.{transfer_turn}
use Rattle.gup_spec_turns.specs.MirrorTurns.{mirror_turn, look_turn}
use Rattle.gup_spec_turns.specs.MoveTurns.{move_turn}
use Rattle.gup_spec_turns.specs.ForkTurns.{fork_turn}
use Rattle.gup_spec_turns.specs.TableTurns.{grown_by, grows_at, shrinks_by}

-- the turn of an operation of a born process, its own or the one that it names, or of a device with so many slots, of which so
-- many turns are over
abbrev pub op_turn : CoreState → (a p slots far : ℕ) → Op → CoreTurn
op_turn s a p slots far (Map page n rights) = map_turn s a p page n rights
op_turn s a p slots far (Unmap page n) = unmap_turn s a p (page + far) (far + 1 == n)
op_turn s a p slots far (Load page word) = load_turn s a p page word (s.entry p page)
op_turn s a p slots far (Store page word value) = store_turn s a p page word value (s.entry p page)
op_turn s a p slots far (Protect page n rights) = protect_turn s a p page n rights
op_turn s a p slots far (Discard page n) = discard_turn s a p (page + far) (far + 1 == n)
op_turn s a p slots far (Pin handle page n want fast) = pin_turn s a p handle page n want fast far
op_turn s a p slots far (Unpin handle) = unpin_turn s a handle
op_turn s a p slots far (Give handle to) = give_turn s a handle to
op_turn s a p slots far (Take handle) = take_turn a handle
op_turn s a p slots far (Get handle page) = get_turn s a p handle page (s.entry p page)
op_turn s a p slots far (Put handle) = put_turn s a handle
op_turn s a p slots far (Transfer handle outward slot parts) =
    transfer_turn s a slots handle outward slot parts far
op_turn s a p slots far (Mirror mirror proc page) = mirror_turn s a p mirror page (s.entry p page)
op_turn s a p slots far (Look mirror word) = look_turn s a mirror word (s.mirrored mirror)
op_turn s a p slots far (Move proc page zone) = move_turn s a p page zone (s.job a)
op_turn s a p slots far (Fork child) = fork_turn s a p child (s.job a)
op_turn s a p slots far Exit = exit_turn s a p

-- an operation of a failed process is refused; a fork makes its child failed too
abbrev pub failed_turn : (a p : ℕ) → Op → CoreTurn
failed_turn a p (Fork child) = ends_with (fail_unborn a p child ∷ []) (events.ForkFail child) answers.Unborn
failed_turn a p op = answers_with answers.Unborn

abbrev pub turn_at : Birth → (refused turn : CoreTurn) → CoreTurn
turn_at failed refused turn = refused
turn_at birth refused turn = turn

-- the turn but for page tables
abbrev pub own_turn : CoreState → Doer → (far : ℕ) → Op → CoreTurn
own_turn s who far op =
    emptying s who.actor
    (turn_at (birth_for s.birth who) (failed_turn who.actor who.proc op)
    (op_turn s who.actor who.proc who.slots far op))

-- a failed process has no tables to change
abbrev pub unless_failed : List CoreEvent → Birth → List CoreEvent
unless_failed [] birth = []
unless_failed (e ∷ es) failed = []
unless_failed (e ∷ es) birth = e ∷ es

-- what is done to tables before a turn, and after it
abbrev pub grows_for : CoreState → Doer → (far : ℕ) → Op → List CoreEvent
grows_for s who far op =
    unless_failed (grows_at s who.actor (grown_by s who.actor who.proc far op)) (birth_for s.birth who)

abbrev pub shrinks_for : (before after : CoreState) → Doer → (far : ℕ) → Op → List CoreEvent
shrinks_for s t who far op = unless_failed (shrinks_by s t who.actor who.proc far op) (birth_for s.birth who)

-- the turn in a state after these events, with them in front, and with the tables that go after it
abbrev pub behind_growth : CoreState → List CoreEvent → Doer → (far : ℕ) → Op → CoreTurn
behind_growth s growth who far op =
    let t = run s growth in
    let turn = own_turn t who far op in
    record {
      events = growth ++ (turn.events ++ shrinks_for t (run t turn.events) who far op);
      whats = turn.whats;
    }

abbrev pub turn_of : CoreState → Doer → (far : ℕ) → Op → CoreTurn
turn_of s who far op = behind_growth s (grows_for s who far op) who far op
