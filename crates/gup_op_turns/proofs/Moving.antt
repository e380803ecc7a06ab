-- The events of a turn of a move are the move's own. They are of no pin and of no birth, and leave other processes, and where other
-- actors stand.
use Rattle.std.proofs.Common.{◌≡◌, ℕ, ◌<◌, List, length, slice_get, Some, refl, sym, ap, ◌∙◌, arith}
use Rattle.gup_base.specs.declared.entry.Zone.{Zone}
use Rattle.gup_plain.specs.declared.note.What.{What}
use Rattle.gup_script.specs.declared.op.Op.TheVariants.{Move}
use Rattle.gup_space.specs.Space.{SpaceParts, space_of}
use Rattle.gup_space.specs.Shows.{ShowsSpace}
use Rattle.gup_spec_events.specs.State.{CoreState}
use Rattle.gup_spec_events.specs.Event.{CoreEvent, run}
use Rattle.gup_spec_turns.specs.CoreTurn.{CoreTurn}
use Rattle.gup_spec_turns.specs.MoveTurns.{move_turn}
use Rattle.gup_move.proofs.MoveLemmas.{leave_other}
use Rattle.gup_op_base.specs.declared.jobs.JobPlace.{JobPlace}
use Rattle.gup_op_base.specs.Jobs.{place_of}
use Rattle.gup_op_base.specs.Turns.{Leads, IsTurnOf}
use Rattle.gup_op_move.specs.Moving.{ShowsMoving, StandsAsMove, moving_view}
use Rattle.gup_op_waits.specs.declared.parts.Parts.{Parts}
use Rattle.gup_op_waits.specs.Parts.{ShowsParts, ShowsSpaces}
use Rattle.gup_op_turns.proofs.Owning.{Pins, pins_of}
use Rattle.gup_op_turns.proofs.Turning.{IsTurnAmong, there, replaced, births_shown, pins_shown, taken_shown, stores_shown}
use Rattle.gup_op_turns.proofs.Moves.{AreMoving, move_is_own, move_leave_pins, move_births_stay, are_of_move, move_places_stay}

-- ---- the turn among all parts

spaces_after : (s : CoreState) (a p : ℕ) (es : List CoreEvent) (before behind : List SpaceParts) (new : SpaceParts) → AreMoving a p es
    → ShowsSpaces before s → ShowsSpace p (space_of new) (run s es) → slice_get behind p ≡ Some new
    → ((q : ℕ) → (q ≡ p → ⊥) → slice_get behind q ≡ slice_get before q) → ShowsSpaces behind (run s es)
spaces_after s a p es before behind new own old shown now others =
    replaced (λ q space. ShowsSpace q (space_of space) (run s es)) before behind p new now others shown
    (λ q space apart found. leave_other p q (space_of space) s es (λ is. apart (sym is)) (are_of_move a p es own) (old q space found))

-- so it is from each process that stands in this place
abbrev pub IsMoveTurn : (old new : Parts) → (before behind : List SpaceParts) → (a p page : ℕ) → Zone → (place next : JobPlace) → List What → Type 0
IsMoveTurn old new before behind a p page zone place next whats =
    (was now : SpaceParts) → slice_get before p ≡ Some was → slice_get behind p ≡ Some now
    → IsTurnOf (ShowsMoving a p) (StandsAsMove a p page zone) (moving_view old.frames was (place_of place)) (moving_view new.frames now (place_of next))
    (λ s. move_turn s a p page zone (s.job a)) whats

pub moved : (old new : Parts) (a p q slots far page : ℕ) (zone : Zone) (place next : JobPlace) (whats : List What)
    → p < length old.spaces.items → length new.spaces.items ≡ length old.spaces.items
    → new.births ≡ old.births → new.handles ≡ old.handles → new.taken ≡ old.taken → new.stores ≡ old.stores
    → ((k : ℕ) → (k ≡ p → ⊥) → slice_get new.spaces.items k ≡ slice_get old.spaces.items k)
    → IsMoveTurn old new old.spaces.items new.spaces.items a p page zone place next whats
    → IsTurnAmong old new a p slots far (Move q page zone) place whats next
moved old new a p q slots far page zone place next whats within many births handles taken stores others turn k rest left far_is s shown stands =
    let was = there old.spaces.items p within in
    let now = there new.spaces.items p (omega (arith, within, many)) in
    let t : CoreTurn = move_turn s a p page zone (s.job a) in
    let own : AreMoving a p t.events = move_is_own s a p page zone (s.job a) in
    let stay : pins_of (run s t.events) ≡ pins_of s = move_leave_pins a p s t.events own in
    let led : Leads (ShowsMoving a p) (moving_view new.frames now.0 (place_of next)) s t whats =
    turn was.0 now.0 was.1 now.1 s (record { frames = shown.parts.frames; space = shown.parts.spaces p was.0 was.1; place = sym shown.job })
    (record { keeps = stands.keeps; at = stands.move q page zone refl }) in
    let parts : ShowsParts new (run s t.events) =
    record {
      frames = led.shown.frames;
      spaces = spaces_after s a p t.events old.spaces.items new.spaces.items now.0 own shown.parts.spaces led.shown.space now.1 others;
      births = births_shown old new s (run s t.events) births (move_births_stay a p s t.events own) shown.parts.births;
      pins = pins_shown old new s (run s t.events) handles stay shown.parts.pins;
      taken = taken_shown old new s (run s t.events) taken (ap (λ (k : Pins). k.2) stay) shown.parts.taken;
      stores = stores_shown old new s (run s t.events) stores (ap (λ (k : Pins). k.3) stay) shown.parts.stores;
    } in
    record {
      says = led.says;
      shown = record {
        parts = parts;
        job = sym led.shown.place;
        ends = tt;
        left = λ b other. ap (λ (k : Pins). k.2 b) stay ∙ shown.left b other;
        others = λ b other. move_places_stay a p b s t.events (λ is. other (sym is)) own ∙ shown.others b other;
      };
    }
