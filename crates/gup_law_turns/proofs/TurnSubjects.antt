-- What a turn is about: a process, or a handle, or nothing; and how far the actor is after it.
use Rattle.std.proofs.Common.{◌≡◌, ℕ, ◌+◌, ◌<◌, ◌≤◌, ◌==◌, Bool, true, false, IsTrue, List, [], Option, Some, None, ◌⊎◌, inl, inr, refl, sym, ap, subst, arith, ◌∙◌}
use Rattle.gup_base.specs.Parts.{words_of, word_at}
use Rattle.gup_plain.specs.Denial.{is_held_by, transfer_denial}
use Rattle.gup_plain.specs.State.{PlainState, Birth, born, failed}
use Rattle.gup_plain.specs.declared.answer.Answer.{Answer}
use Rattle.gup_plain.specs.declared.answer.Answer.TheVariants as answers
use Rattle.gup_plain.specs.declared.note.What.{What}
use Rattle.gup_plain.specs.declared.note.Waiting.{Waiting}
use Rattle.gup_script.specs.declared.op.Op.{Op}
use Rattle.gup_script.specs.declared.op.Op.TheVariants.{Unpin, Give, Take, Transfer, Look, Fork}
use Rattle.gup_spec_events.specs.State.{CoreState, plain_of}
use Rattle.gup_spec_events.specs.Event.{CoreEvent, run}
use Rattle.gup_spec_journal.specs.Denial.{References}
use Rattle.gup_spec_journal.specs.Follows.{refuses}
use Rattle.gup_spec_journal.specs.Place.{Place, Doer, place_behind, birth_for}
use Rattle.gup_spec_turns.specs.JobPlace.{JobPlace}
use Rattle.gup_spec_turns.specs.Run.{core_turn_by}
use Rattle.gup_spec_turns.specs.CoreTurn.{CoreTurn}
use Rattle.gup_spec_turns.specs.Turn.{turn_at, failed_turn, op_turn, own_turn}
use Rattle.gup_spec_turns.specs.PinTurns.{last_of, but_last}
use Rattle.gup_spec_turns.proofs.TurnParts.{unpin_turn_by, give_turn_by, transfer_turn_by}
use Rattle.gup_spec_turns.specs.MirrorTurns.{look_turn}
use Rattle.gup_spec_turns.specs.DeviceTurns.{word_turn, frame_at, moves_value}
use Rattle.gup_spec_turns.specs.Emptying.{emptying}
use Rattle.gup_spec_turns.proofs.Unseen.{emptying_reads}
use Rattle.gup_law_turns.proofs.EmptiedSlots.{about_emptying}
use Rattle.gup_law_turns.proofs.CalmStates.{AreHandleEvents, unpinning, giving, taking_over, moving_out, moving_in, looking_on}
use Rattle.gup_law_turns.proofs.ActorPlaces.{IsBehind, goes_on, is_over, IsBehindTurn, stays_there, goes_by, op_behind}
use Rattle.gup_law_turns.proofs.ScriptPlaces.{fresh_place}
use Rattle.gup_law_turns.proofs.TurnShapes.{references_of, IsOfProcess, TurnAt, idles, waits, goes, unborn_refused, unborn_fork}
use Rattle.gup_law_turns.proofs.StandingStates.{IsAhead}
use Rattle.gup_law_turns.proofs.TurnAsOwn.{own_by, ChangesNoTables, idle_own, lost_own}

-- what is ahead at the first turn of the next operation, or in the middle of the present one, is after the present one
ahead_next : (n k : ℕ) → IsAhead (fresh_place (n + 1)) k → n < k
ahead_next n k (inl more) = omega arith
ahead_next n k (inr same) = let e = same.0 in omega (arith, e)

ahead_more : (n far k : ℕ) (had : Bool) → IsAhead (record { answered = n; far = far + 1; had = had }) k → n < k
ahead_more n far k had (inl less) = less
ahead_more n far k had (inr same) = absurd (let e = same.1 in omega (arith, e))

-- after a turn of its present operation an actor has begun that, and no later one
pub ahead_on : {t : CoreState} {who : Doer} {op : Option Op} {place : Place} {whats : List What} → IsBehind t who op place whats → (k : ℕ) → IsAhead (place_behind place whats) k → place.answered < k
ahead_on {place = place} (goes_on had is fits) k ahead = ahead_more place.answered place.far k had (subst (λ (q : Place). IsAhead q k) is ahead)
ahead_on {place = place} (is_over is rests) k ahead = ahead_next place.answered k (subst (λ (q : Place). IsAhead q k) is ahead)

-- so an operation that has not begun after the turn had not begun before it
pub ahead_before : {t : CoreState} {who : Doer} {op : Option Op} {place : Place} {whats : List What} → IsBehindTurn t who op place whats → (k : ℕ) → IsAhead (place_behind place whats) k → IsAhead place k
ahead_before (stays_there is fits) k ahead = subst (λ (q : Place). IsAhead q k) is ahead
ahead_before (goes_by behind) k ahead = inl (ahead_on behind k ahead)

-- a turn takes back no answer
pub answered_least : {t : CoreState} {who : Doer} {op : Option Op} {place : Place} {whats : List What} → IsBehindTurn t who op place whats → place.answered ≤ (place_behind place whats).answered
answered_least {place = place} (stays_there is fits) = subst (λ (q : Place). place.answered ≤ q.answered) (sym is) (omega arith)
answered_least {place = place} (goes_by (goes_on had is fits)) = subst (λ (q : Place). place.answered ≤ q.answered) (sym is) (omega arith)
answered_least {place = place} (goes_by (is_over is rests)) = subst (λ (q : Place). place.answered ≤ q.answered) (sym is) (omega arith)

-- The turn of an actor that goes on in a process: that is born, or it has failed, and then its entries stay; and after the
-- turn the present operation has begun. Any other turn is about a handle, or has no events.
pub record IsGoing (place : Place) (p : ℕ) (s t : CoreState) (whats : List What) : Type 0 where
  pub birth : (s.birth p ≡ born) ⊎ (s.birth p ≡ failed) × (t.entry p ≡ s.entry p)
  pub later : (k : ℕ) → IsAhead (place_behind place whats) k → place.answered < k

abbrev pub IsAboutHandle : (a : ℕ) → List CoreEvent → Type 0
IsAboutHandle a es = (h : ℕ) × AreHandleEvents a h es

pub about_unpin : (a h : ℕ) (holds : Bool) (pinned : List ℕ) → AreHandleEvents a h (unpin_turn_by holds a h pinned).events
about_unpin a h false pinned = tt
about_unpin a h true pinned = (unpinning (last_of pinned) (but_last pinned), tt)

about_give : (a h to : ℕ) (holds : Bool) → AreHandleEvents a h (give_turn_by holds a h to).events
about_give a h to false = tt
about_give a h to true = (giving to, tt)

about_word : (a h : ℕ) (outward last : Bool) (index slot f value : ℕ) → AreHandleEvents a h (word_turn a h outward last index slot f value).events
about_word a h true last index slot f value = (moving_out index slot f value, tt)
about_word a h false last index slot f value = (moving_in index slot f value, tt)

about_look : (s : CoreState) (a mirror word : ℕ) (frame : Option ℕ) → AreHandleEvents a 0 (look_turn s a mirror word frame).events
about_look s a mirror word None = tt
about_look s a mirror word (Some f) = (looking_on mirror word f (s.word f word), tt)

about_transfer : (denied : Option Answer) (s : CoreState) (a h : ℕ) (outward last : Bool) (index slot : ℕ) → AreHandleEvents a h (transfer_turn_by denied s a h outward last index slot).events
about_transfer (Some answer) s a h outward last index slot = tt
about_transfer None s a h outward last index slot =
    about_word a h outward last index slot (frame_at (s.pinned h) index) (moves_value s a outward index slot (frame_at (s.pinned h) index))

-- a process that failed refuses it without an event
about_by : (a h : ℕ) (birth : Birth) (refused turn : CoreTurn) → refused.events ≡ [] → AreHandleEvents a h turn.events → AreHandleEvents a h (turn_at birth refused turn).events
about_by a h failed refused turn none about = subst (AreHandleEvents a h) (sym none) tt
about_by a h birth refused turn none about = about

-- and the slots that it empties are none
about_at : (s : CoreState) (who : Doer) (h far : ℕ) (op : Op) → (failed_turn who.actor who.proc op).events ≡ [] → AreHandleEvents who.actor h (op_turn s who.actor who.proc who.slots far op).events → AreHandleEvents who.actor h (own_turn s who far op).events
about_at s who h far op none about =
    let refused : CoreTurn = failed_turn who.actor who.proc op in
    let turn : CoreTurn = op_turn s who.actor who.proc who.slots far op in
    about_emptying s who.actor h (turn_at (birth_for s.birth who) refused turn) (about_by who.actor h (birth_for s.birth who) refused turn none about)

abbrev IsTurnGoing : CoreState → Doer → Place → CoreTurn → List What → Type 0
IsTurnGoing s who place turn whats =
    IsAboutHandle who.actor turn.events ⊎ IsGoing place who.proc s (run s turn.events) whats

own_going_by : {place : Place} {whats : List What} (s : CoreState) (who : Doer) (far : ℕ) (op : Op) → (IsOfProcess op → s.birth who.proc ≡ born) → ((k : ℕ) → IsAhead (place_behind place whats) k → place.answered < k) → IsTurnGoing s who place (own_turn s who far op) whats
own_going_by s who far (Unpin handle) own later =
    inl (
      handle,
      about_at s who handle far (Unpin handle) refl
          (about_unpin who.actor handle (is_held_by (s.handle handle) who.actor) (s.pinned handle)),
    )
own_going_by s who far (Give handle to) own later =
    inl (
      handle,
      about_at s who handle far (Give handle to) refl
          (about_give who.actor handle to (is_held_by (s.handle handle) who.actor)),
    )
own_going_by s who far (Take handle) own later =
    inl (
      handle,
      about_at s who handle far (Take handle) refl
          (taking_over, tt),
    )
own_going_by s who far (Transfer handle outward slot parts) own later =
    inl (
      handle,
      about_at s who handle far (Transfer handle outward slot parts) refl
          (about_transfer (transfer_denial (s.handle handle) who.actor outward who.slots slot parts) s who.actor handle outward (far + 1 == words_of parts) (word_at parts far) (slot + far)),
    )
own_going_by s who far (Look mirror word) own later =
    inl (
      0,
      about_at s who 0 far (Look mirror word) refl
          (about_look s who.actor mirror word (s.mirrored mirror)),
    )
own_going_by s who far op own later = inr (record { birth = inl (own tt); later = later })

-- and so it is with the tables that the turn changes
going_idle : {place : Place} {whats : List What} (s : CoreState) (who : Doer) (far : ℕ) (op : Op) → ChangesNoTables op → (IsOfProcess op → s.birth who.proc ≡ born) → ((k : ℕ) → IsAhead (place_behind place whats) k → place.answered < k) → IsTurnGoing s who place (core_turn_by s who far (Some op) None) whats
going_idle {place = place} {whats = whats} s who far op none own later =
    subst (λ (turn : CoreTurn). IsTurnGoing s who place turn whats) (sym (idle_own s who far op none)) (own_going_by {place = place} {whats = whats} s who far op own later)

going_by : {place : Place} {whats : List What} (s : CoreState) (who : Doer) (far : ℕ) (op : Op) → (IsOfProcess op → s.birth who.proc ≡ born) → ((k : ℕ) → IsAhead (place_behind place whats) k → place.answered < k) → IsTurnGoing s who place (core_turn_by s who far (Some op) None) whats
going_by {place = place} {whats = whats} s who far (Unpin handle) own later = going_idle {place = place} {whats = whats} s who far (Unpin handle) tt own later
going_by {place = place} {whats = whats} s who far (Give handle to) own later = going_idle {place = place} {whats = whats} s who far (Give handle to) tt own later
going_by {place = place} {whats = whats} s who far (Take handle) own later = going_idle {place = place} {whats = whats} s who far (Take handle) tt own later
going_by {place = place} {whats = whats} s who far (Transfer handle outward slot parts) own later = going_idle {place = place} {whats = whats} s who far (Transfer handle outward slot parts) tt own later
going_by {place = place} {whats = whats} s who far (Look mirror word) own later = going_idle {place = place} {whats = whats} s who far (Look mirror word) tt own later
going_by s who far op own later = inr (record { birth = inl (own tt); later = later })

-- a thread of a failed process refuses its operation without an event, but a fork
unborn_silent : (a p : ℕ) (op : Op) → IsTrue (refuses op answers.Unborn) → (failed_turn a p op).events ≡ []
unborn_silent a p (Fork child) refusal = absurd (cc refusal)
unborn_silent a p op refusal = refl

failed_own : (s : CoreState) (who : Doer) (far : ℕ) (op : Op) → birth_for s.birth who ≡ failed → emptying s who.actor (failed_turn who.actor who.proc op) ≡ own_turn s who far op
failed_own s who far op birth =
    ap (λ (b : Birth). emptying s who.actor (turn_at b (failed_turn who.actor who.proc op) (op_turn s who.actor who.proc who.slots far op))) (sym birth)

failed_taken : (s : CoreState) (who : Doer) (far : ℕ) (op : Op) → birth_for s.birth who ≡ failed → emptying s who.actor (failed_turn who.actor who.proc op) ≡ core_turn_by s who far (Some op) None
failed_taken s who far op birth = failed_own s who far op birth ∙ sym (lost_own s who far op birth)

pub still_or_going : {place : Place} {from to : JobPlace} {whats : List What} {op : Option Op} {waiting : Option Waiting} (s : CoreState) (who : Doer) (far : ℕ) → TurnAt (plain_of s) (references_of s) who place op waiting from whats to → IsTurnGoing s who place (core_turn_by s who far op waiting) whats
still_or_going s who far (idles waiting at) = inl (0, tt)
still_or_going s who far (waits op waiting at) = inl (0, tt)
still_or_going s who far (goes op whats from to birth own turn) = going_by s who far op own (ahead_on (op_behind s (Some op) turn))
still_or_going s who far (unborn_refused op birth first refusal) =
    let silent : AreHandleEvents who.actor 0 (failed_turn who.actor who.proc op).events = subst (AreHandleEvents who.actor 0) (sym (unborn_silent who.actor who.proc op refusal)) tt in
    inl (0, subst (λ (turn : CoreTurn). AreHandleEvents who.actor 0 turn.events) (failed_taken s who far op birth) (about_emptying s who.actor 0 (failed_turn who.actor who.proc op) silent))
still_or_going {place = place} s who far (unborn_fork child birth own first) =
    let kept : (run s (core_turn_by s who far (Some (Fork child)) None).events).entry who.proc ≡ s.entry who.proc = subst (λ (turn : CoreTurn). (run s turn.events).entry who.proc ≡ s.entry who.proc) (failed_taken s who far (Fork child) birth) (emptying_reads (λ t. t.entry who.proc) (λ f t. refl) s who.actor (failed_turn who.actor who.proc (Fork child))) in
    inr (record { birth = inr (own, kept); later = λ k ahead. ahead_next place.answered k ahead })

-- the same of the turn but for page tables
pub still_or_going_own : {place : Place} {from to : JobPlace} {whats : List What} {op : Option Op} {waiting : Option Waiting} (s : CoreState) (who : Doer) (far : ℕ) → TurnAt (plain_of s) (references_of s) who place op waiting from whats to → IsTurnGoing s who place (own_by s who far op waiting) whats
still_or_going_own s who far (idles waiting at) = inl (0, tt)
still_or_going_own s who far (waits op waiting at) = inl (0, tt)
still_or_going_own s who far (goes op whats from to birth own turn) = own_going_by s who far op own (ahead_on (op_behind s (Some op) turn))
still_or_going_own s who far (unborn_refused op birth first refusal) =
    let silent : AreHandleEvents who.actor 0 (failed_turn who.actor who.proc op).events = subst (AreHandleEvents who.actor 0) (sym (unborn_silent who.actor who.proc op refusal)) tt in
    inl (0, subst (λ (turn : CoreTurn). AreHandleEvents who.actor 0 turn.events) (failed_own s who far op birth) (about_emptying s who.actor 0 (failed_turn who.actor who.proc op) silent))
still_or_going_own {place = place} s who far (unborn_fork child birth own first) =
    let kept : (run s (own_turn s who far (Fork child)).events).entry who.proc ≡ s.entry who.proc = subst (λ (turn : CoreTurn). (run s turn.events).entry who.proc ≡ s.entry who.proc) (failed_own s who far (Fork child) birth) (emptying_reads (λ t. t.entry who.proc) (λ f t. refl) s who.actor (failed_turn who.actor who.proc (Fork child))) in
    inr (record { birth = inr (own, kept); later = λ k ahead. ahead_next place.answered k ahead })

-- only an actor that waits for no birth comes into the middle of an operation
pub keeps_begun : {s : PlainState} {references : References} {who : Doer} {place : Place} {op : Option Op} {waiting : Option Waiting} {whats : List What} {from to : JobPlace} → TurnAt s references who place op waiting from whats to → (0 < place.far → birth_for s.birth who ≡ born) → 0 < (place_behind place whats).far → birth_for s.birth who ≡ born
keeps_begun (idles waiting at) begun = begun
keeps_begun (waits op waiting at) begun = begun
keeps_begun (goes op whats from to birth own turn) begun = λ _. birth
keeps_begun (unborn_refused op birth first refusal) begun = λ far. absurd (omega (arith, far))
keeps_begun (unborn_fork child birth own first) begun = λ far. absurd (omega (arith, far))

-- an operation that has had no turn has had no event
pub keeps_fresh : {t : CoreState} {who : Doer} {op : Option Op} {place : Place} {whats : List What} → IsBehindTurn t who op place whats → (place.far ≡ 0 → place.had ≡ false) → (place_behind place whats).far ≡ 0 → (place_behind place whats).had ≡ false
keeps_fresh (stays_there is fits) fresh = subst (λ (q : Place). q.far ≡ 0 → q.had ≡ false) (sym is) fresh
keeps_fresh {place = place} (goes_by (goes_on had is fits)) fresh = subst (λ (q : Place). q.far ≡ 0 → q.had ≡ false) (sym is) (λ none. absurd (omega (arith, none)))
keeps_fresh (goes_by (is_over is rests)) fresh = subst (λ (q : Place). q.far ≡ 0 → q.had ≡ false) (sym is) (λ none. refl)
