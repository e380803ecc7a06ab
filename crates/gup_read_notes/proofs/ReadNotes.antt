-- A note that can be written is read from its words.
use Rattle.std.proofs.Common.{◌≡◌, ℕ, ◌^◌, ◌<◌, Bool, true, false, List, Option, Some, refl, ◌∙◌, ◌&&◌, ltb, arith}
use Rattle.std.proofs.lemmas.Bool.{ltb-true}
use Rattle.gup_plain.specs.Note.{NoteValue}
use Rattle.gup_plain.specs.declared.answer.Answer.{Answer}
use Rattle.gup_plain.specs.declared.answer.Answer.TheVariants as answers
use Rattle.gup_plain.specs.declared.answer.Cause.{Cause}
use Rattle.gup_plain.specs.declared.answer.Cause.TheVariants as causes
use Rattle.gup_plain.specs.declared.event.PlainEvent.{PlainEvent}
use Rattle.gup_plain.specs.declared.event.PlainEvent.TheVariants.{Map, Unmap, Discard, Protect, Load, Store, PinTry, PinDrop, PinOk, Unpin, Give, Take, MoveOut, MoveIn, MirrorFill, Look, ForkBegin, ForkPage, ForkWord, ForkEnd, ForkFail}
use Rattle.gup_plain.specs.declared.note.What.{What}
use Rattle.gup_plain.specs.declared.note.What.TheVariants as whats
use Rattle.gup_plain.specs.declared.note.Waiting.{Waiting}
use Rattle.gup_plain.specs.declared.note.Waiting.TheVariants as waitings
use Rattle.gup_script.specs.declared.op.Op.{Op}
use Rattle.gup_script.specs.Script.{ScriptValue}
use Rattle.gup_spec_grammar.specs.Said.{Word as Letters}
use Rattle.gup_spec_trace.specs.Names.{AreNames}
use Rattle.gup_spec_trace.specs.Written.{IsEventOf, IsWaiting, IsCause, IsAnswerOf, counts_pages, is_pin, op_at, IsWhatOf, CanBeWritten}
use Rattle.gup_read_words.proofs.SpelledNumbers.{decimal_read}
use Rattle.gup_read_notes.specs.Reading.{map_in, protect_in, unmap_in, discard_in, load_in, store_in, pin_try_in, pin_drop_in, pin_ok_in, unpin_in, give_in, take_in, move_out_in, move_in_in, mirror_in, look_in, fork_begin_in, fork_page_in, fork_word_in, fork_end_in, fork_fail_in, event_in, holder_in, awaited_handle_in, awaited_process_in, awaited_in, waiting_in, plain_answer_in, number_answer, counted_answer_in, plain_cause_in, counted_cause_in, cause_in, short_answer_in, answer_in, alone, wait_in, done_in, some_event_in, what_in, note_in}
use Rattle.gup_read_notes.proofs.Named.{actor_read, process_read, handle_read, slot_read}
use Rattle.gup_read_notes.proofs.ReadFields.{index_again, page_again, word_no_again, address_again, byte_again, way_again, range_again, page_of_again, access_again, handle_of_again, moved_again, fork_again}
use Rattle.gup_read_notes.proofs.Words.{waiting_fields, event_word, event_fields, cause_words, answer_words, what_word, what_fields, note_words}

-- ---- events

module _ (s : ScriptValue) (names : AreNames s) where
  event_again : (a : ℕ) (event : PlainEvent) → IsEventOf s a event → event_in s a (event_word event) (event_fields s event) ≡ Some event
  unfolding event_in map_in protect_in unmap_in discard_in load_in store_in pin_try_in pin_drop_in pin_ok_in unpin_in give_in take_in move_out_in move_in_in mirror_in look_in fork_begin_in fork_page_in fork_word_in fork_end_in fork_fail_in
  event_again a (Map b p page n rights) h = rw (h.0, range_again s names p page n rights h.1 h.2 h.3) refl
  event_again a (Unmap b p page) h = rw (h.0, page_of_again s names p page h.1 h.2) refl
  event_again a (Discard b p page) h = rw (h.0, page_of_again s names p page h.1 h.2) refl
  event_again a (Protect b p page n rights) h = rw (h.0, range_again s names p page n rights h.1 h.2 h.3) refl
  event_again a (Load b p page w value) h = rw (h.0, access_again s names p page w value h.1 h.2 h.3 h.4) refl
  event_again a (Store b p page w value) h = rw (h.0, access_again s names p page w value h.1 h.2 h.3 h.4) refl
  event_again a (PinTry b p page write) h = rw (h.0, process_read s names p h.1, page_again page h.2, way_again write) refl
  event_again a (PinDrop b page) h = rw (h.0, page_again page h.1) refl
  event_again a (PinOk b x) h = rw (h.0, handle_of_again s names x h.1) refl
  event_again a (Unpin b x) h = rw (h.0, handle_of_again s names x h.1) refl
  event_again a (Give b x to) h = rw (h.0, handle_read s names x h.1, actor_read s names to h.2) refl
  event_again a (Take b x) h = rw (h.0, handle_of_again s names x h.1) refl
  event_again a (MoveOut b x i k value) h = rw (h.0, moved_again s names x i k value h.1 h.2 h.3 h.4) refl
  event_again a (MoveIn b x i k value) h = rw (h.0, moved_again s names x i k value h.1 h.2 h.3 h.4) refl
  event_again a (MirrorFill b m p page) h = rw (h.0, slot_read s names m h.1, process_read s names p h.2, page_again page h.3) refl
  event_again a (Look b m w value) h = rw (h.0, slot_read s names m h.1, word_no_again w h.2, decimal_read value h.3) refl
  event_again a (ForkBegin p child) h = rw (fork_again s names p child h.0 h.1) refl
  event_again a (ForkPage p child page) h = rw (process_read s names p h.0, process_read s names child h.1, page_again page h.2) refl
  event_again a (ForkWord p child page w) h = rw (process_read s names p h.0, process_read s names child h.1, address_again page w h.2 h.3) refl
  event_again a (ForkEnd p child) h = rw (fork_again s names p child h.0 h.1) refl
  event_again a (ForkFail child) h = rw (process_read s names child h) refl

  -- ---- what an actor waits for

  waiting_again : (waiting : Waiting) → IsWaiting s waiting → waiting_in s (waiting_fields s waiting) ≡ Some waiting
  unfolding waiting_in awaited_in holder_in awaited_handle_in awaited_process_in
  waiting_again (waitings.Holder a) h = rw (actor_read s names a h) refl
  waiting_again (waitings.Handle x) h = rw (handle_read s names x h) refl
  waiting_again (waitings.Process p) h = rw (process_read s names p h) refl

-- ---- answers

-- pages are fewer than 256
pub few_pages : (op : Option Op) (n : ℕ) → counts_pages op n ≡ true → n < 2 ^ 64
few_pages op n h = way (is_pin op) h where
  way : (b : Bool) → (b && ltb n 256) ≡ true → n < 2 ^ 64
  way true e = let lt = ltb-true n 256 e in omega arith
  way false e = absurd cc

cause_again : (cause : Cause) → IsCause cause → cause_in (cause_words cause) ≡ Some cause
unfolding cause_in plain_cause_in counted_cause_in
cause_again causes.Missing h = refl
cause_again causes.Forbidden h = refl
cause_again causes.NoFrame h = refl
cause_again (causes.Unmovable n) h = rw (decimal_read n h) refl

answer_again : (op : Option Op) (answer : Answer) → IsAnswerOf op answer → answer_in op (answer_words answer) ≡ Some answer
unfolding answer_in plain_answer_in counted_answer_in number_answer short_answer_in
answer_again op (answers.Value n) h = rw (decimal_read n h.1, h.0) refl
answer_again op (answers.Pinned n) h = rw (decimal_read n (few_pages op n h), h) refl
answer_again op (answers.Unmovable n) h = rw (decimal_read n h) refl
answer_again op (answers.Busy n) h = rw (decimal_read n h) refl
answer_again op (answers.Short got wanted cause) h = rw (byte_again got h.0, byte_again wanted h.1, cause_again cause h.2) refl
answer_again op answer h = refl

-- ---- what happened

some_event_again : (s : ScriptValue) → AreNames s → (a : ℕ) (event : PlainEvent) → IsEventOf s a event → some_event_in s a (event_word event) (event_fields s event) ≡ Some (whats.Event event)
unfolding some_event_in
some_event_again s names a event h = rw (event_again s names a event h) refl

-- an event's word is none of the others
apart : (s : ScriptValue) (a op : ℕ) (event : PlainEvent) (fields : List Letters) → what_in s a op (event_word event) fields ≡ some_event_in s a (event_word event) fields
unfolding what_in
apart s a op (Map b p page n rights) fields = refl
apart s a op event fields = refl

what_again : (s : ScriptValue) → AreNames s → (a op : ℕ) (what : What) → IsWhatOf s a op what → what_in s a op (what_word what) (what_fields s what) ≡ Some what
unfolding what_in alone wait_in done_in
what_again s names a op whats.Silent h = refl
what_again s names a op whats.Idle h = refl
what_again s names a op (whats.Wait waiting) h = rw (waiting_again s names waiting h) refl
what_again s names a op (whats.Done answer) h = rw (answer_again (op_at s a op) answer h) refl
what_again s names a op (whats.Event event) h = apart s a op event (event_fields s event) ∙ some_event_again s names a event h

-- ---- notes

pub note_again : (s : ScriptValue) → AreNames s → (note : NoteValue) → CanBeWritten s note → note_in s (note_words s note) ≡ Some note
unfolding note_in
note_again s names note h =
    rw (index_again note.turn h.0, actor_read s names note.actor h.1, index_again note.op h.2, what_again s names note.actor note.op note.what h.3) refl
