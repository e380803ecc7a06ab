-- The notes of operations that go page by page or word by word, and of an unpin: what they name is declared.
use Rattle.std.proofs.Common.{ℕ, ◌+◌, inl, inr, Bool, true, false, List, [], ◌∷◌, Option, zero, suc, refl}
use Rattle.gup_base.specs.Parts.{Part, word_at}
use Rattle.gup_plain.specs.declared.answer.Answer.TheVariants as answers
use Rattle.gup_plain.specs.declared.event.PlainEvent.{PlainEvent}
use Rattle.gup_plain.specs.declared.event.PlainEvent.TheVariants as events
use Rattle.gup_plain.specs.declared.note.What.{What}
use Rattle.gup_plain.specs.declared.note.What.TheVariants.{Silent, Event, Done}
use Rattle.gup_script.specs.Script.{ScriptValue}
use Rattle.gup_script.specs.declared.op.Op.{Op}
use Rattle.gup_spec_journal.specs.Follows.{Who, IsTurn, TakesDown, TakesDownLast, TakesDownAll, TakesDownWhole, Unpins, moves_word, MovesWords}
use Rattle.gup_spec_trace.specs.Written.{IsProcess, IsHandle}
use Rattle.gup_law_written.proofs.NamedNotes.{NamesIn}
use Rattle.gup_law_written.proofs.EachNote.{Each, IsOf, each_turn, each_then, each_silent}

takes_down : (s : ScriptValue) (who : Who) (op : Option Op) (event : PlainEvent) → NamesIn s who.actor event → Each (IsOf s who op) (TakesDown who event)
takes_down s who op event names notes (inl took) = each_turn s who op (Event event ∷ []) (names, tt) notes took
takes_down s who op event names notes (inr passed) = each_silent s who op notes passed

takes_down_last : (s : ScriptValue) (who : Who) (op : Option Op) (event : PlainEvent) → NamesIn s who.actor event → Each (IsOf s who op) (TakesDownLast who event)
takes_down_last s who op event names notes (inl took) = each_turn s who op (Event event ∷ Done answers.Plain ∷ []) (names, (tt, tt)) notes took
takes_down_last s who op event names notes (inr passed) = each_turn s who op (Done answers.Plain ∷ []) (tt, tt) notes passed

pub takes_down_all : (s : ScriptValue) (who : Who) (op : Option Op) (event : ℕ → PlainEvent) → ((page : ℕ) → NamesIn s who.actor (event page)) → (page n : ℕ) → Each (IsOf s who op) (TakesDownAll who event page n)
takes_down_all s who op event names page zero notes is = absurd is
takes_down_all s who op event names page (suc zero) notes is = takes_down_last s who op (event page) (names page) notes is
takes_down_all s who op event names page (suc (suc n)) notes is =
    each_then (IsOf s who op) (TakesDown who (event page)) (TakesDownAll who event (page + 1) (suc n)) (takes_down s who op (event page) (names page))
    (takes_down_all s who op event names (page + 1) (suc n)) notes is

pub takes_down_whole : (s : ScriptValue) (who : Who) (op : Option Op) → IsProcess s who.proc → (pages : ℕ) → Each (IsOf s who op) (TakesDownWhole who pages)
takes_down_whole s who op proc zero notes is = each_turn s who op (Done answers.Plain ∷ []) (tt, tt) notes is
takes_down_whole s who op proc (suc pages) notes is =
    each_then (IsOf s who op) (IsTurn who (Event (events.Unmap who.actor who.proc is.0) ∷ [])) (TakesDownWhole who pages)
    (each_turn s who op (Event (events.Unmap who.actor who.proc is.0) ∷ []) ((refl, proc), tt)) (takes_down_whole s who op proc pages) notes is.1

pub unpins : (s : ScriptValue) (who : Who) (op : Option Op) (handle : ℕ) → IsHandle s handle → (more : ℕ) → Each (IsOf s who op) (Unpins who handle more)
unpins s who op handle there zero notes is = each_turn s who op (Event (events.Unpin who.actor handle) ∷ Done answers.Plain ∷ []) ((refl, there), (tt, tt)) notes is
unpins s who op handle there (suc more) notes is =
    each_then (IsOf s who op) (IsTurn who (Silent ∷ [])) (Unpins who handle more) (each_silent s who op) (unpins s who op handle there more) notes is

word_named : (s : ScriptValue) (a handle : ℕ) → IsHandle s handle → (outward : Bool) (index slot value : ℕ) → NamesIn s a (moves_word a handle outward index slot value)
word_named s a handle there true index slot value = (refl, there)
word_named s a handle there false index slot value = (refl, there)

pub moves_words : (s : ScriptValue) (who : Who) (op : Option Op) (handle : ℕ) → IsHandle s handle → (outward : Bool) (slot : ℕ) (parts : List Part) (k left : ℕ) → Each (IsOf s who op) (MovesWords who handle outward slot parts k left)
moves_words s who op handle there outward slot parts k zero notes is = absurd is
moves_words s who op handle there outward slot parts k (suc zero) notes is =
    each_turn s who op (Event (moves_word who.actor handle outward (word_at parts k) (slot + k) is.0) ∷ Done answers.Words ∷ [])
    (word_named s who.actor handle there outward (word_at parts k) (slot + k) is.0, (tt, tt)) notes is.1
moves_words s who op handle there outward slot parts k (suc (suc left)) notes is =
    let word : What = Event (moves_word who.actor handle outward (word_at parts k) (slot + k) is.0) in
    each_then (IsOf s who op) (IsTurn who (word ∷ [])) (MovesWords who handle outward slot parts (k + 1) (suc left))
    (each_turn s who op (word ∷ []) (word_named s who.actor handle there outward (word_at parts k) (slot + k) is.0, tt))
    (moves_words s who op handle there outward slot parts (k + 1) (suc left)) notes is.1
