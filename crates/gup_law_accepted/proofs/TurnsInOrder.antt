-- The turns of a journal that is in order: they are numbered, and the first are of the written actors.
use Rattle.std.proofs.Common.{◌≡◌, ℕ, ◌+◌, ◌≤◌, inl, inr, Bool, true, false, List, [], ◌∷◌, ◌++◌, length, Option, Some, None, slice_get, refl, sym, ap, subst, arith}
use Rattle.gup_plain.specs.Note.{NoteValue}
use Rattle.gup_plain.specs.declared.note.What.{What}
use Rattle.gup_plain.specs.declared.note.Waiting.{Waiting}
use Rattle.gup_script.specs.Script.{ScriptValue}
use Rattle.gup_spec_journal.specs.Follows.{notes_of_turn}
use Rattle.gup_spec_journal.specs.Order.{Turn, Ordered, places_behind, journal_of, waiting_of, finished_in, MayHold, IsWrittenTurn, IsNextTurn, written_turn, ordered_after, AreInOrder, ordered_first, InOrder}
use Rattle.gup_spec_accepted.specs.Turns.{IsWrittenFor, AreTurnsFrom, AreTurns}

-- a turn has notes
abbrev Speaks : List What → Type 0
Speaks whats = (whats ≡ []) → ⊥

written_speaks : (finished : Bool) (waiting : Option Waiting) (Holder : ℕ → Type 0) (whats : List What) → IsWrittenTurn finished waiting Holder whats → Speaks whats
written_speaks true waiting Holder whats is none = cc (is, none)
written_speaks false (Some w) Holder whats is none = cc (is, none)
written_speaks false None Holder whats (inl moves) none = (let some : 1 ≤ length whats = moves.0 in let no : length whats ≡ 0 = ap length none in omega arith)
written_speaks false None Holder whats (inr held) none = cc (held.2, none)

next_speaks : (s : ScriptValue) (o : Ordered) (turn : Turn) (written : Option ℕ) → IsNextTurn s o written turn → Speaks turn.whats
next_speaks s o turn (Some written) is = written_speaks (finished_in s o turn.actor) (waiting_of s o turn.actor) (MayHold s o turn.actor) turn.whats is.1
next_speaks s o turn None is = λ none. (let some : 1 ≤ length turn.whats = is.moves.0 in let no : length turn.whats ≡ 0 = ap length none in omega arith)

next_written : (s : ScriptValue) (o : Ordered) (turn : Turn) (written : Option ℕ) → IsNextTurn s o written turn → IsWrittenFor written turn.actor
next_written s o turn (Some written) is = is.0
next_written s o turn None is = tt

-- the notes of one turn, and then the next ones
same_turn : (s : ScriptValue) (t a n : ℕ) (whats : List What) (rest : List NoteValue) → AreTurnsFrom s t a rest → AreTurnsFrom s t a (notes_of_turn t a n whats ++ rest)
same_turn s t a n [] rest later = later
same_turn s t a n (what ∷ whats) rest later = (inl (refl, refl), same_turn s t a n whats rest later)

begins : (s : ScriptValue) (turn b a n : ℕ) (whats : List What) (rest : List NoteValue) → Speaks whats → IsWrittenFor (slice_get s.turns turn) a → AreTurnsFrom s (turn + 1) a rest → AreTurnsFrom s turn b (notes_of_turn (turn + 1) a n whats ++ rest)
begins s turn b a n [] rest speaks written later = absurd (speaks refl)
begins s turn b a n (what ∷ whats) rest speaks written later = (inr (refl, written), same_turn s (turn + 1) a n whats rest later)

journal_turns : (s : ScriptValue) (o : Ordered) (b : ℕ) (turns : List Turn) → AreInOrder s o turns → AreTurnsFrom s o.turns b (journal_of (o.turns + 1) o.places turns)
journal_turns s o b [] are = tt
journal_turns s o b (turn ∷ turns) are =
    begins s o.turns b turn.actor ((o.places turn.actor).answered + 1) turn.whats (journal_of (o.turns + 1 + 1) (places_behind o.places turn) turns)
    (next_speaks s o turn (written_turn s o) are.0) (next_written s o turn (written_turn s o) are.0)
    (journal_turns s (ordered_after s o turn) turn.actor turns are.1)

-- the first note is of turn 1
first : (s : ScriptValue) (a n : ℕ) (whats : List What) (rest : List NoteValue) → Speaks whats → IsWrittenFor (slice_get s.turns 0) a → AreTurnsFrom s 1 a rest → AreTurns s (notes_of_turn 1 a n whats ++ rest)
first s a n [] rest speaks written later = absurd (speaks refl)
first s a n (what ∷ whats) rest speaks written later = ((refl, written), same_turn s 1 a n whats rest later)

first_turns : (s : ScriptValue) (turns : List Turn) → AreInOrder s (ordered_first s) turns → AreTurns s (journal_of 1 (ordered_first s).places turns)
first_turns s [] are = tt
first_turns s (turn ∷ turns) are =
    let o : Ordered = ordered_first s in
    first s turn.actor ((o.places turn.actor).answered + 1) turn.whats (journal_of 2 (places_behind o.places turn) turns)
    (next_speaks s o turn (written_turn s o) are.0) (next_written s o turn (written_turn s o) are.0)
    (journal_turns s (ordered_after s o turn) turn.actor turns are.1)

pub notes_turns : (s : ScriptValue) (notes : List NoteValue) → InOrder s notes → AreTurns s notes
notes_turns s notes order = subst (AreTurns s) (sym order.1) (first_turns s order.0 order.2)
