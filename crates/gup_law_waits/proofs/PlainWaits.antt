-- What a turn leaves of births and pins that others wait for, by its shape.
use Rattle.std.proofs.Common.{◌≡◌, ℕ, ◌==◌, Bool, true, false, if◌then◌else◌, List, [], ◌∷◌, Option, Some, refl, ap, sym, subst}
use Rattle.gup_plain.specs.Event.{IsUnbornOrGrowing, given_to}
use Rattle.gup_plain.specs.State.{PlainState, Birth, growing, Handle}
use Rattle.gup_plain.specs.declared.note.What.{What}
use Rattle.gup_plain.specs.declared.note.What.TheVariants.{Done}
use Rattle.gup_plain.specs.declared.note.Waiting.{Waiting}
use Rattle.gup_script.specs.declared.op.Op.{Op}
use Rattle.gup_spec_events.specs.State.{WalkStep}
use Rattle.gup_spec_journal.specs.Denial.{References}
use Rattle.gup_spec_journal.specs.Order.{is_given_to, plain_behind}
use Rattle.gup_spec_journal.specs.Place.{Place, Doer}
use Rattle.gup_spec_turns.specs.JobPlace.{JobPlace, unbegun}
use Rattle.gup_law_turns.proofs.KeptParts.{apart}
use Rattle.gup_law_turns.proofs.TurnShapes.{unmaps, discards, TurnOf, gave, took_over, took, took_last, cleared_page, counted_cleared, pinned_all, pinned_short, unpinned_last, moved_word, moved_last, cleared_entry, counted_frame, began, passed_page, counted_page, shared_page, ended, counted_copy, took_frame, copied_word, placed_copy, failed_fork, WalksTo, found_fork, began_walk, walked, kept_all, TurnAt, idles, waits, goes, unborn_refused, unborn_fork, failed_share}
use Rattle.gup_law_waits.specs.Woken.{one, everybody, wakes}

-- walks

-- have the notes an answer?
abbrev pub answers_it : List What → Bool
answers_it [] = false
answers_it (Done answer ∷ whats) = true
answers_it (what ∷ whats) = answers_it whats

-- the turns of a walk that goes on change no birth and no handle, and answer nothing
record IsUntold (s : PlainState) (whats : List What) : Type 0 where
  birth : (plain_behind s whats).birth ≡ s.birth
  handle : (plain_behind s whats).handle ≡ s.handle
  unanswered : answers_it whats ≡ false

walk_untold : {s : PlainState} {who : Doer} {page n got : ℕ} {write : Bool} {sequence : ℕ} {step : WalkStep} {whats : List What} {to : JobPlace} → WalksTo s who page n got write sequence step whats to → IsUntold s whats
walk_untold found_fork = record { birth = refl; handle = refl; unanswered = refl }
walk_untold turn = record { birth = refl; handle = refl; unanswered = refl }

-- births

-- a process that is yet to be born stays so in the beginning of a fork
still_coming : (same : Bool) (p : ℕ) (s : PlainState) (q : ℕ) → IsUnbornOrGrowing (s.birth q) → IsUnbornOrGrowing (if same then growing p else s.birth q)
still_coming true p s q coming = tt
still_coming false p s q coming = coming

op_coming : (q : ℕ) {s : PlainState} {references : References} {who : Doer} {place : Place} {op : Op} {from to : JobPlace} {whats : List What} → TurnOf s references who place op from whats to → (wakes (Some op) to ≡ everybody → ⊥) → IsUnbornOrGrowing (s.birth q) → IsUnbornOrGrowing ((plain_behind s whats).birth q)
op_coming q (took op page n event (unmaps first m) more) never coming = coming
op_coming q (took op page n event (discards first m) more) never coming = coming
op_coming q (took_last op page n event (unmaps first m) more) never coming = coming
op_coming q (took_last op page n event (discards first m) more) never coming = coming
op_coming q (moved_word handle true slot parts value more undenied) never coming = coming
op_coming q (moved_word handle false slot parts value more undenied) never coming = coming
op_coming q (moved_last handle true slot parts value more undenied) never coming = coming
op_coming q (moved_last handle false slot parts value more undenied) never coming = coming
op_coming q {s = s} {who = who} (began child first) never coming = still_coming (q == child) who.proc s q coming
op_coming q (ended child from begun) never coming = absurd (never refl)
op_coming q (failed_share child page begun) never coming = absurd (never refl)
op_coming q (failed_fork child page begun) never coming = absurd (never refl)
op_coming q (walked handle page n want sequence step whats to turn less free) never coming =
    subst (λ (f : ℕ → Birth). IsUnbornOrGrowing (f q)) (sym (walk_untold turn).birth) coming
op_coming q turn never coming = coming

-- a process that is yet to be born, is so after a turn that doesn't wake everybody
pub still_to_come : (q : ℕ) {s : PlainState} {references : References} {who : Doer} {place : Place} {op : Option Op} {waiting : Option Waiting} {from to : JobPlace} {whats : List What} → TurnAt s references who place op waiting from whats to → (wakes op to ≡ everybody → ⊥) → IsUnbornOrGrowing (s.birth q) → IsUnbornOrGrowing ((plain_behind s whats).birth q)
still_to_come q (idles waiting at) never coming = coming
still_to_come q (waits op waiting at) never coming = coming
still_to_come q (goes op whats from to birth own turn) never coming = op_coming q turn never coming
still_to_come q (unborn_refused op birth first refusal) never coming = coming
still_to_come q (unborn_fork child birth own first) never coming = absurd (never refl)

-- pins

-- a handle that is changed to one that isn't given to the actor
changed_ungiven : (same : Bool) (new old : Handle) (b : ℕ) → is_given_to new b ≡ false → is_given_to old b ≡ false → is_given_to (if same then new else old) b ≡ false
changed_ungiven true new old b now before = now
changed_ungiven false new old b now before = before

op_ungiven : (h b : ℕ) {s : PlainState} {references : References} {who : Doer} {place : Place} {op : Op} {from to : JobPlace} {whats : List What} → TurnOf s references who place op from whats to → (wakes (Some op) to ≡ one b → ⊥) → is_given_to (s.handle h) b ≡ false → is_given_to ((plain_behind s whats).handle h) b ≡ false
op_ungiven h b (took op page n event (unmaps first m) more) never yet = yet
op_ungiven h b (took op page n event (discards first m) more) never yet = yet
op_ungiven h b (took_last op page n event (unmaps first m) more) never yet = yet
op_ungiven h b (took_last op page n event (discards first m) more) never yet = yet
op_ungiven h b (moved_word handle true slot parts value more undenied) never yet = yet
op_ungiven h b (moved_word handle false slot parts value more undenied) never yet = yet
op_ungiven h b (moved_last handle true slot parts value more undenied) never yet = yet
op_ungiven h b (moved_last handle false slot parts value more undenied) never yet = yet
op_ungiven h b {s = s} (gave handle to first undenied) never yet =
    changed_ungiven (h == handle) (given_to (s.handle handle) to) (s.handle h) b (apart to b (λ same. never (ap one same))) yet
op_ungiven h b {s = s} (took_over handle first) never yet = changed_ungiven (h == handle) _ (s.handle h) b refl yet
op_ungiven h b {s = s} (pinned_all handle page n want fast from slow tries last undenied) never yet = changed_ungiven (h == handle) _ (s.handle h) b refl yet
op_ungiven h b {s = s} (pinned_short handle page n want fast got cause from had same some less ends refuses is) never yet = changed_ungiven (h == handle) _ (s.handle h) b refl yet
op_ungiven h b {s = s} (kept_all handle page n want sequence all had) never yet = changed_ungiven (h == handle) _ (s.handle h) b refl yet
op_ungiven h b (walked handle page n want sequence step whats to turn less free) never yet =
    subst (λ (f : ℕ → Handle). is_given_to (f h) b ≡ false) (sym (walk_untold turn).handle) yet
op_ungiven h b {s = s} (unpinned_last handle quiet undenied last) never yet = changed_ungiven (h == handle) _ (s.handle h) b refl yet
op_ungiven h b turn never yet = yet

-- a pin that isn't given to an actor, isn't after a turn that doesn't wake that one
pub still_ungiven : (h b : ℕ) {s : PlainState} {references : References} {who : Doer} {place : Place} {op : Option Op} {waiting : Option Waiting} {from to : JobPlace} {whats : List What} → TurnAt s references who place op waiting from whats to → (wakes op to ≡ one b → ⊥) → is_given_to (s.handle h) b ≡ false → is_given_to ((plain_behind s whats).handle h) b ≡ false
still_ungiven h b (idles waiting at) never yet = yet
still_ungiven h b (waits op waiting at) never yet = yet
still_ungiven h b (goes op whats from to birth own turn) never yet = op_ungiven h b turn never yet
still_ungiven h b (unborn_refused op birth first refusal) never yet = yet
still_ungiven h b (unborn_fork child birth own first) never yet = yet

-- answers

op_over : {s : PlainState} {references : References} {who : Doer} {place : Place} {op : Op} {from to : JobPlace} {whats : List What} → TurnOf s references who place op from whats to → answers_it whats ≡ true → to ≡ unbegun
op_over (cleared_entry proc page zone e first) is = absurd (cc is)
op_over (counted_frame proc page zone e count read begun) is = absurd (cc is)
op_over (cleared_page handle page n want fast g e long slow first less room) is = absurd (cc is)
op_over (counted_cleared handle page n want fast g e count read long begun less room) is = absurd (cc is)
op_over (began_walk handle page n want first room) is = absurd (cc is)
op_over (walked handle page n want sequence step whats to turn less free) is = absurd (let none = (walk_untold turn).unanswered in cc)
op_over (began child first) is = absurd (cc is)
op_over (passed_page child from page begun least) is = absurd (cc is)
op_over (counted_page child from page begun least) is = absurd (cc is)
op_over (shared_page child page begun) is = absurd (cc is)
op_over (counted_copy child from page begun least) is = absurd (cc is)
op_over (took_frame child page to begun) is = absurd (cc is)
op_over (copied_word child page word to begun more) is = absurd (cc is)
op_over (placed_copy child page to begun) is = absurd (cc is)
op_over turn is = refl

-- an operation that a turn answers is in the middle of nothing after it
pub over_unbegun : {s : PlainState} {references : References} {who : Doer} {place : Place} {op : Option Op} {waiting : Option Waiting} {from to : JobPlace} {whats : List What} → TurnAt s references who place op waiting from whats to → answers_it whats ≡ true → to ≡ unbegun
over_unbegun (idles waiting at) is = absurd (cc is)
over_unbegun (waits op waiting at) is = absurd (cc is)
over_unbegun (goes op whats from to birth own turn) is = op_over turn is
over_unbegun (unborn_refused op birth first refusal) is = refl
over_unbegun (unborn_fork child birth own first) is = refl
