-- The notes of each operation's shape: what they name is declared where what the operation names is.
use Rattle.std.proofs.Common.{ℕ, inl, inr, IsTrue, [], ◌∷◌, Option, Some, refl}
use Rattle.gup_base.specs.Parts.{words_of}
use Rattle.gup_plain.specs.declared.answer.Answer.{Answer}
use Rattle.gup_plain.specs.declared.answer.Answer.TheVariants as answers
use Rattle.gup_plain.specs.declared.event.PlainEvent.TheVariants as events
use Rattle.gup_plain.specs.declared.note.What.TheVariants.{Event, Done}
use Rattle.gup_script.specs.Script.{ScriptValue, process_at}
use Rattle.gup_script.specs.Valid.{AreDeclared, IsOfDevice, IsOfMover}
use Rattle.gup_script.specs.declared.op.Op.{Op}
use Rattle.gup_script.specs.declared.op.Op.TheVariants.{Map, Unmap, Protect, Discard, Load, Store, Pin, Unpin, Give, Take, Get, Put, Transfer, Mirror, Look, Fork, Exit, Move}
use Rattle.gup_spec_journal.specs.Follows.{Who, refuses, RefusesMove, IsRefused, Completes, Shape}
use Rattle.gup_spec_trace.specs.Written.{IsProcess}
use Rattle.gup_law_turns.proofs.ScriptLemmas.{child_there}
use Rattle.gup_law_written.proofs.NamedNotes.{Answers}
use Rattle.gup_law_written.proofs.EachNote.{Each, IsOf, SayAll, each_turn, each_third}
use Rattle.gup_law_written.proofs.PageNotes.{takes_down_all, takes_down_whole, unpins, moves_words}
use Rattle.gup_law_written.proofs.ForkNotes.{forks}
use Rattle.gup_law_written.proofs.PinNotes.{pins, refuses_pin}

-- an operation that is a thread's is of a process that is declared
abbrev pub HasProcess : ScriptValue → Who → Op → Type 0
HasProcess s who op = (IsOfDevice op → ⊥) → (IsOfMover op → ⊥) → IsProcess s who.proc

completes : (s : ScriptValue) (who : Who) (op : Op) → HasProcess s who op → AreDeclared s op → Each (IsOf s who (Some op)) (Completes who op)
completes s who (Load page word) own names notes is =
    each_turn s who (Some (Load page word)) (Event (events.Load who.actor who.proc page word is.0) ∷ Done (answers.Value is.0) ∷ [])
    ((refl, own (λ no. no) (λ no. no)), (refl, tt)) notes is.1
completes s who (Store page word value) own names notes is =
    each_turn s who (Some (Store page word value)) (Event (events.Store who.actor who.proc page word value) ∷ Done answers.Plain ∷ [])
    ((refl, own (λ no. no) (λ no. no)), (tt, tt)) notes is
completes s who (Map page n rights) own names notes is =
    each_turn s who (Some (Map page n rights)) (Event (events.Map who.actor who.proc page n rights) ∷ Done answers.Plain ∷ [])
    ((refl, own (λ no. no) (λ no. no)), (tt, tt)) notes is
completes s who (Protect page n rights) own names notes is =
    each_turn s who (Some (Protect page n rights)) (Event (events.Protect who.actor who.proc page n rights) ∷ Done answers.Plain ∷ [])
    ((refl, own (λ no. no) (λ no. no)), (tt, tt)) notes is
completes s who (Unmap page n) own names notes is =
    takes_down_all s who (Some (Unmap page n)) (events.Unmap who.actor who.proc) (λ p. (refl, own (λ no. no) (λ no. no))) page n notes is
completes s who (Discard page n) own names notes is =
    takes_down_all s who (Some (Discard page n)) (events.Discard who.actor who.proc) (λ p. (refl, own (λ no. no) (λ no. no))) page n notes is
completes s who (Pin handle page n want fast) own names notes is =
    pins s who (Some (Pin handle page n want fast)) refl handle page n (own (λ no. no) (λ no. no)) names want fast notes is
completes s who (Unpin handle) own names notes is = unpins s who (Some (Unpin handle)) handle names is.0 notes is.1
completes s who (Give handle to) own names notes is =
    each_turn s who (Some (Give handle to)) (Event (events.Give who.actor handle to) ∷ Done answers.Plain ∷ []) ((refl, names.0, names.1), (tt, tt)) notes is
completes s who (Take handle) own names notes is =
    each_turn s who (Some (Take handle)) (Event (events.Take who.actor handle) ∷ Done answers.Plain ∷ []) ((refl, names), (tt, tt)) notes is
completes s who (Get handle page) own names notes is = each_turn s who (Some (Get handle page)) (Done answers.Plain ∷ []) (tt, tt) notes is
completes s who (Put handle) own names notes is = each_turn s who (Some (Put handle)) (Done answers.Plain ∷ []) (tt, tt) notes is
completes s who (Transfer handle outward slot parts) own names notes is =
    moves_words s who (Some (Transfer handle outward slot parts)) handle names outward slot parts 0 (words_of parts) notes is
completes s who (Mirror mirror proc page) own names notes is =
    each_turn s who (Some (Mirror mirror proc page)) (Event (events.MirrorFill who.actor mirror proc page) ∷ Done answers.Plain ∷ [])
    ((refl, names.0, names.1), (tt, tt)) notes is
completes s who (Look mirror word) own names notes is =
    each_turn s who (Some (Look mirror word)) (Event (events.Look who.actor mirror word is.0) ∷ Done (answers.Value is.0) ∷ [])
    ((refl, names), (refl, tt)) notes is.1
completes s who (Move proc page zone) own names notes is = each_third s who (Some (Move proc page zone)) (Done answers.Plain ∷ []) (tt, tt) notes is
completes s who (Fork child) own names notes (inl forked) =
    forks s who (Some (Fork child)) child (own (λ no. no) (λ no. no)) (child_there s child (process_at s child) refl names) notes forked
completes s who (Fork child) own names notes (inr failed) =
    each_turn s who (Some (Fork child)) (Event (events.ForkFail child) ∷ Done answers.Unborn ∷ [])
    (child_there s child (process_at s child) refl names, (tt, tt)) notes failed
completes s who Exit own names notes is = takes_down_whole s who (Some Exit) (own (λ no. no) (λ no. no)) is.0 notes is.1

-- what refuses an operation is neither a word nor a count of pages

never_word : (op : Op) (value : ℕ) → IsTrue (refuses op (answers.Value value)) → ⊥
never_word Exit value is = cc is
never_word op value is = cc is

never_pages : (op : Op) (pages : ℕ) → IsTrue (refuses op (answers.Pinned pages)) → ⊥
never_pages Exit pages is = cc is
never_pages op pages is = cc is

refusal_says : (op : Op) (answer : Answer) → IsTrue (refuses op answer) → Answers (Some op) answer
refusal_says op (answers.Value value) is = absurd (never_word op value is)
refusal_says op (answers.Pinned pages) is = absurd (never_pages op pages is)
refusal_says op answer is = tt

refuses_move : (s : ScriptValue) (who : Who) (op : Option Op) (answer : Answer) → SayAll s who op (Done answer ∷ []) → Each (IsOf s who op) (RefusesMove who answer)
refuses_move s who op (answers.Busy count) say notes is = each_third s who op (Done (answers.Busy count) ∷ []) say notes is
refuses_move s who op answers.NoFrame say notes is = each_third s who op (Done answers.NoFrame ∷ []) say notes is
refuses_move s who op answer say notes is = each_turn s who op (Done answer ∷ []) say notes is

refused : (s : ScriptValue) (who : Who) (op : Op) → HasProcess s who op → Each (IsOf s who (Some op)) (IsRefused who op)
refused s who (Pin handle page n want fast) own notes is =
    refuses_pin s who (Some (Pin handle page n want fast)) (own (λ no. no) (λ no. no)) page n want fast is.0
    (refusal_says (Pin handle page n want fast) is.0 is.1, tt) notes is.2
refused s who (Move proc page zone) own notes is =
    refuses_move s who (Some (Move proc page zone)) is.0 (refusal_says (Move proc page zone) is.0 is.1, tt) notes is.2
refused s who op own notes is = each_turn s who (Some op) (Done is.0 ∷ []) (refusal_says op is.0 is.1, tt) notes is.2

pub shape : (s : ScriptValue) (who : Who) (op : Op) → HasProcess s who op → AreDeclared s op → Each (IsOf s who (Some op)) (Shape who op)
shape s who op own names notes (inl completed) = completes s who op own names notes completed
shape s who op own names notes (inr not) = refused s who op own notes not
