-- Turns in any order follow their script, by induction over them.
use Rattle.std.proofs.Common.{◌≡◌, ℕ, ◌+◌, ◌<◌, ◌==◌, ◌++◌, Bool, true, false, List, [], ◌∷◌, map, length, Option, Some, None, inl, refl, sym, ap, ◌∙◌, subst, subst₂, eqb-true, eq-eqb, is_none, if◌then◌else◌, arith}
use Rattle.std.proofs.lemmas.Bool.Decides.{nat_tests}
use Rattle.gup_script.specs.Valid.{IsScript}
use Rattle.gup_plain.specs.Note.{NoteValue}
use Rattle.gup_plain.specs.declared.note.Waiting.{Waiting}
use Rattle.gup_plain.specs.State.{PlainState, Birth, Handle}
use Rattle.gup_spec_events.specs.State.{CoreState, Taken, pending_of, plain_of}
use Rattle.gup_spec_journal.specs.Plain.{pages_got}
use Rattle.gup_law_turns.proofs.Puts.{put_same}
use Rattle.gup_script.specs.Script.{ScriptValue}
use Rattle.gup_script.specs.declared.op.Op.{Op}
use Rattle.gup_script.specs.declared.op.Op.TheVariants.{Take}
use Rattle.gup_spec_journal.specs.Follows.{own_notes, notes_of_turn, AreBehind}
use Rattle.gup_spec_journal.specs.Order.{Turn, journal_of, waiting_at, waiting_of, finished_in, handle_waits, IsOverAt}
use Rattle.gup_spec_journal.specs.Place.{Place, Doer, doer, doer_of, place_behind, process_of, ops_of}
use Rattle.gup_spec_turns.specs.JobPlace.{JobPlace, place_in}
use Rattle.gup_spec_turns.specs.Run.{RunState, AreTurns, AreBetween, run_after, op_in, core_turn_in, can_go}
use Rattle.gup_law_journal.proofs.OperationNotes.{LeftAt, Left, ops_split, ops_over, turn_left, other_left}
use Rattle.gup_law_journal.proofs.TurnOrder.{ordered_of, is_over, finished_is}
use Rattle.gup_law_journal.proofs.ActorNotes.{own_append, own_behind, journal_behind}
use Rattle.gup_law_turns.proofs.ScriptLemmas.{has_ops_declared}
use Rattle.gup_law_turns.proofs.TurnShapes.{FitsAt, child_of, strand_of}
use Rattle.gup_law_turns.proofs.KeptParts.{leaves_pins}
use Rattle.gup_law_journal.proofs.PendingPages.{first_page, first_pending}
use Rattle.gup_law_turns.proofs.StandingTurns.{stands_on, places_stay, takes_stay, same_plain}
use Rattle.gup_law_turns.proofs.StandingStates.{Stands}
use Rattle.gup_law_turns.proofs.TurnSteps.{taken, rests_at}
use Rattle.gup_law_turns.proofs.EventLists.{Law}

-- what is left of an actor of the script
abbrev pub LeftOf : ScriptValue → ℕ → Place → (got first : ℕ) → JobPlace → List NoteValue → Type 0
LeftOf script a place got first at notes = LeftAt a (process_of script a) (ops_of script a) place got first at notes

-- an actor that neither waits nor has no operation left has not finished
not_over : (finished : Bool) (seen : Option Waiting) → finished ≡ false → seen ≡ None → IsOverAt finished seen → ⊥
not_over finished seen left none over = subst₂ IsOverAt left none over

-- who is in the middle of an operation waits for no pin
untaking : (s : CoreState) (handle : ℕ → Handle) (who : Doer) (op : Option Op) (place : Place) → FitsAt s who op place → 0 < place.far → handle_waits handle who.actor op ≡ None
untaking s handle who (Some (Take h)) place fits far = absurd (let first = fits.1.0 in omega arith)
untaking s handle who op place fits far = refl

-- so where no actor can go, each stands between two operations
end_between : (script : ScriptValue) → IsScript script → (r : RunState) → Stands script r → ((a : ℕ) → a < length script.actors → can_go script r a ≡ false) → (a : ℕ) (op : Option Op) → op_in script r a ≡ op → (r.places a).far ≡ 0
end_between script valid r h stopped a None is =
    let fits : FitsAt r.core (doer script a) None (r.places a) = subst (λ (o : Option Op). FitsAt r.core (doer_of script a o) o (r.places a)) is (h.fits a) in
    fits.1.0
end_between script valid r h stopped a (Some op) is =
    let place = r.places a in
    let who : Doer = doer_of script a (op_in script r a) in
    let p = who.proc in
    let over = is_over script valid r h stopped a (stopped a (has_ops_declared script a place.answered op is)) in
    let unfinished : finished_in script (ordered_of r) a ≡ false = finished_is (ops_of script a) place.answered ∙ ap is_none is in
    let unwaiting : 0 < place.far → waiting_of script (ordered_of r) a ≡ None =
    λ far.
    ap (λ (b : Birth). waiting_at p b (handle_waits r.core.handle a (op_in script r a))) (h.begun a far)
    ∙ untaking r.core r.core.handle who (op_in script r a) place (h.fits a) far in
    let unbegun : 0 < place.far → ⊥ =
    λ far. not_over (finished_in script (ordered_of r) a) (waiting_of script (ordered_of r) a) unfinished (unwaiting far) over in
    omega arith

pub are_between : (script : ScriptValue) → IsScript script → (r : RunState) → Stands script r → ((a : ℕ) → a < length script.actors → can_go script r a ≡ false) → AreBetween script r
are_between script valid r h stopped a below = end_between script valid r h stopped a (op_in script r a) refl

-- nothing is left of an actor that stands between two operations
nothing_left : (script : ScriptValue) (r : RunState) → AreBetween script r → (a : ℕ) (op : Option Op) → op_in script r a ≡ op → (got first : ℕ) (at : JobPlace) → LeftOf script a (r.places a) got first at []
nothing_left script r between a None is got first at =
    let place = r.places a in
    subst (λ (os : List Op). Left a (process_of script a) (place.answered + 1) os place.far got first at []) (sym (ops_over (ops_of script a) place.answered is)) refl
nothing_left script r between a (Some op) is got first at =
    let place = r.places a in
    let between_two : place.far ≡ 0 = between a (has_ops_declared script a place.answered op is) in
    subst (λ (os : List Op). Left a (process_of script a) (place.answered + 1) os place.far got first at []) (sym (ops_split (ops_of script a) place.answered op is)) (inl (between_two, refl))

-- where a fork of an actor stands
abbrev stands_at : RunState → ℕ → JobPlace
stands_at r a = place_in r.core a

-- how many pages a pin of it has got
abbrev gets : RunState → ℕ → ℕ
gets r a = pages_got (plain_of r.core) a

-- and which is the first of them
abbrev starts : RunState → ℕ → ℕ
starts r a = first_pending (plain_of r.core) a

-- that of another actor stays
starts_stay : (script : ScriptValue) → IsScript script → (r : RunState) → Stands script r → (a b : ℕ) → (b ≡ a → ⊥) → starts (run_after script r a) b ≡ starts r b
starts_stay script valid r h a b other =
    let turn = taken script valid r h a in
    let op : Option Op = op_in script r a in
    let p : ℕ = (doer_of script a op).proc in
    let kept = leaves_pins r.core a p (child_of p op) (strand_of op) (core_turn_in script r a).events turn.done.kinds turn.done.can in
    ap (λ (ts : List Taken). first_page (map pending_of ts)) (kept.taken b other)

-- none, at the first turn of an operation
fresh_gets : (script : ScriptValue) (r : RunState) → Stands script r → (a : ℕ) → (r.places a).far ≡ 0 → gets r a ≡ 0
fresh_gets script r h a first = ap (λ (ts : List Taken). length (map pending_of ts)) (rests_at r.core (doer_of script a (op_in script r a)) (r.places a) first (op_in script r a) (h.fits a)).1

-- what a turn of actor b does to what is left of actor a
turn_of_any : Law → (script : ScriptValue) (valid : IsScript script) (r : RunState) (h : Stands script r) (b t a : ℕ) (later : List NoteValue) (own : Bool) → AreBehind t later → (a == b) ≡ own → LeftOf script a (if own then place_behind (r.places b) (core_turn_in script r b).whats else r.places a) (gets (run_after script r b) a) (starts (run_after script r b) a) (stands_at (run_after script r b) a) later → LeftOf script a (r.places a) (gets r a) (starts r a) (stands_at r a) (own_notes a (notes_of_turn t b ((r.places b).answered + 1) (core_turn_in script r b).whats) ++ later)
turn_of_any law script valid r h b t a later true after e left =
    let same : a ≡ b = eqb-true a b e in
    let whats = (core_turn_in script r b).whats in
    let behind = place_behind (r.places b) whats in
    let here : LeftOf script b behind (gets (run_after script r b) b) (starts (run_after script r b) b) (stands_at (run_after script r b) b) later = subst (λ (k : ℕ). LeftOf script k behind (gets (run_after script r b) k) (starts (run_after script r b) k) (stands_at (run_after script r b) k) later) same left in
    let own : (run_after script r b).places b ≡ behind = put_same b behind r.places in
    let before = turn_left (doer script b) t (r.places b) (ops_of script b) later after (gets r b) (gets (run_after script r b) b) (starts r b) (starts (run_after script r b) b) (taken script valid r h b).shape refl refl
    (ap (λ (s : PlainState). pages_got s b) (sym (same_plain law script valid r h b)))
    refl (ap (λ (s : PlainState). first_pending s b) (sym (same_plain law script valid r h b)))
    (fresh_gets script r h b)
    (λ first. fresh_gets script (run_after script r b) (stands_on law script valid r h b) b (ap (λ (q : Place). q.far) own ∙ first)) here in
    subst (λ (k : ℕ). LeftOf script k (r.places k) (gets r k) (starts r k) (stands_at r k) (own_notes k (notes_of_turn t b ((r.places b).answered + 1) whats) ++ later)) (sym same) before
turn_of_any law script valid r h b t a later false after e left =
    let apart : a ≡ b → ⊥ = λ same. let yes = eq-eqb a b same in cc in
    let here : LeftOf script a (r.places a) (gets r a) (starts r a) (stands_at r a) later = subst (λ (k : ℕ). LeftOf script a (r.places a) k (starts r a) (stands_at r a) later) (takes_stay script valid r h b a apart)
    (subst (λ (k : ℕ). LeftOf script a (r.places a) (gets (run_after script r b) a) k (stands_at r a) later) (starts_stay script valid r h b a apart)
    (subst (λ (at : JobPlace). LeftOf script a (r.places a) (gets (run_after script r b) a) (starts (run_after script r b) a) at later) (places_stay script valid r h b a apart) left)) in
    other_left a (process_of script a) b t ((r.places b).answered + 1) (r.places a) (gets r a) (starts r a) (stands_at r a) (ops_of script a) (core_turn_in script r b).whats later (grind (arith, nat_tests)) here

pub follows_turns : Law → (script : ScriptValue) → IsScript script → (turns : List Turn) (number : ℕ) (r end : RunState) → Stands script r → AreTurns script r turns end → AreBetween script end → (a : ℕ) → LeftOf script a (r.places a) (gets r a) (starts r a) (stands_at r a) (own_notes a (journal_of number r.places turns))
follows_turns law script valid [] number r end h are between a = nothing_left script r (subst (AreBetween script) (sym are) between) a (op_in script r a) refl (gets r a) (starts r a) (stands_at r a)
follows_turns law script valid (turn ∷ turns) number r end h are between a =
    let b = turn.actor in
    let next = run_after script r b in
    let rest = journal_of (number + 1) next.places turns in
    let now = notes_of_turn number b ((r.places b).answered + 1) (core_turn_in script r b).whats in
    let later = follows_turns law script valid turns (number + 1) next end (stands_on law script valid r h b) are.1 between a in
    let both = turn_of_any law script valid r h b number a (own_notes a rest) (a == b) (own_behind a number rest (journal_behind number (number + 1) next.places turns (omega arith))) refl later in
    let whole : LeftOf script a (r.places a) (gets r a) (starts r a) (stands_at r a) (own_notes a (now ++ rest)) = subst (LeftOf script a (r.places a) (gets r a) (starts r a) (stands_at r a)) (sym (own_append a now rest)) both in
    subst (λ (t : Turn). LeftOf script a (r.places a) (gets r a) (starts r a) (stands_at r a) (own_notes a (journal_of number r.places (t ∷ turns)))) (sym are.0) whole
