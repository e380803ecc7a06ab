-- What is read of a line's words is spelled by them, and can be written.
use Rattle.std.specs.Prelude.{codes, decimal}
use Rattle.std.proofs.Common.{◌≡◌, ℕ, ◌^◌, ◌<◌, Bool, true, false, cond, List, [], ◌∷◌, Option, refl, ap, ◌∙◌}
use Rattle.gup_plain.specs.declared.answer.Answer.{Answer}
use Rattle.gup_plain.specs.declared.answer.Answer.TheVariants as answers
use Rattle.gup_plain.specs.declared.answer.Cause.{Cause}
use Rattle.gup_plain.specs.declared.answer.Cause.TheVariants as causes
use Rattle.gup_plain.specs.declared.event.PlainEvent.{PlainEvent}
use Rattle.gup_plain.specs.declared.event.PlainEvent.TheVariants as events
use Rattle.gup_plain.specs.declared.note.What.{What}
use Rattle.gup_plain.specs.declared.note.What.TheVariants as whats
use Rattle.gup_plain.specs.declared.note.Waiting.{Waiting}
use Rattle.gup_plain.specs.declared.note.Waiting.TheVariants as waitings
use Rattle.gup_script.specs.declared.op.Op.{Op}
use Rattle.gup_script.specs.Script.{ScriptValue}
use Rattle.gup_spec_grammar.specs.Said.{Word as Letters}
use Rattle.gup_spec_trace.specs.Note.{handle}
use Rattle.gup_spec_trace.specs.Written.{IsEventOf, IsWaiting, IsCause, IsAnswerOf, counts_pages, op_at, IsWhatOf, CanBeWritten}
use Rattle.gup_read_notes.specs.Reading.{map_in, protect_in, unmap_in, discard_in, load_in, store_in, pin_try_in, pin_drop_in, pin_ok_in, unpin_in, give_in, take_in, move_out_in, move_in_in, mirror_in, look_in, fork_begin_in, fork_page_in, fork_word_in, fork_end_in, fork_fail_in, event_in, holder_in, awaited_handle_in, awaited_process_in, awaited_in, waiting_in, plain_answer_in, number_answer, counted_answer_in, plain_cause_in, counted_cause_in, cause_in, short_answer_in, answer_in, alone, wait_in, done_in, some_event_in, what_in, note_in}
use Rattle.gup_read_notes.proofs.FoundFields.{number_gives, index_gives, page_gives, word_no_gives, address_gives, byte_gives, way_gives, actor_gives, process_gives, handle_gives, slot_gives, range_gives, page_of_gives, access_gives, handle_of_gives, moved_gives, fork_gives}
use Rattle.gup_read_notes.proofs.Steps.{Gives, nothing, last, next, choose}
use Rattle.gup_read_notes.proofs.Words.{waiting_fields, event_word, event_fields, cause_words, answer_words, what_word, what_fields, note_words}

-- ---- events

-- the words are those of the event, which is one of the actor
abbrev IsEvent : ScriptValue → (a : ℕ) → (word : Letters) → List Letters → PlainEvent → Type 0
IsEvent s a word fields event = (word ≡ event_word event) × (fields ≡ event_fields s event) × IsEventOf s a event

map_gives : (s : ScriptValue) (a : ℕ) (fields : List Letters) → Gives (map_in s a fields) (IsEvent s a (codes "map") fields)
unfolding map_in
map_gives s a fields = next (range_gives s fields) (λ x h. last (events.Map a x.0 x.1 x.2 x.3) (refl, h.0, (refl, h.1, h.2, h.3)))

unmap_gives : (s : ScriptValue) (a : ℕ) (fields : List Letters) → Gives (unmap_in s a fields) (IsEvent s a (codes "unmap") fields)
unfolding unmap_in
unmap_gives s a fields = next (page_of_gives s fields) (λ x h. last (events.Unmap a x.0 x.1) (refl, h.0, (refl, h.1, h.2)))

discard_gives : (s : ScriptValue) (a : ℕ) (fields : List Letters) → Gives (discard_in s a fields) (IsEvent s a (codes "discard") fields)
unfolding discard_in
discard_gives s a fields = next (page_of_gives s fields) (λ x h. last (events.Discard a x.0 x.1) (refl, h.0, (refl, h.1, h.2)))

protect_gives : (s : ScriptValue) (a : ℕ) (fields : List Letters) → Gives (protect_in s a fields) (IsEvent s a (codes "protect") fields)
unfolding protect_in
protect_gives s a fields = next (range_gives s fields) (λ x h. last (events.Protect a x.0 x.1 x.2 x.3) (refl, h.0, (refl, h.1, h.2, h.3)))

load_gives : (s : ScriptValue) (a : ℕ) (fields : List Letters) → Gives (load_in s a fields) (IsEvent s a (codes "load") fields)
unfolding load_in
load_gives s a fields = next (access_gives s fields) (λ x h. last (events.Load a x.0 x.1 x.2 x.3) (refl, h.0, (refl, h.1, h.2, h.3, h.4)))

store_gives : (s : ScriptValue) (a : ℕ) (fields : List Letters) → Gives (store_in s a fields) (IsEvent s a (codes "store") fields)
unfolding store_in
store_gives s a fields = next (access_gives s fields) (λ x h. last (events.Store a x.0 x.1 x.2 x.3) (refl, h.0, (refl, h.1, h.2, h.3, h.4)))

pin_ok_gives : (s : ScriptValue) (a : ℕ) (fields : List Letters) → Gives (pin_ok_in s a fields) (IsEvent s a (codes "pinok") fields)
unfolding pin_ok_in
pin_ok_gives s a fields = next (handle_of_gives s fields) (λ x h. last (events.PinOk a x) (refl, h.0, (refl, h.1)))

unpin_gives : (s : ScriptValue) (a : ℕ) (fields : List Letters) → Gives (unpin_in s a fields) (IsEvent s a (codes "unpin") fields)
unfolding unpin_in
unpin_gives s a fields = next (handle_of_gives s fields) (λ x h. last (events.Unpin a x) (refl, h.0, (refl, h.1)))

take_gives : (s : ScriptValue) (a : ℕ) (fields : List Letters) → Gives (take_in s a fields) (IsEvent s a (codes "take") fields)
unfolding take_in
take_gives s a fields = next (handle_of_gives s fields) (λ x h. last (events.Take a x) (refl, h.0, (refl, h.1)))

move_out_gives : (s : ScriptValue) (a : ℕ) (fields : List Letters) → Gives (move_out_in s a fields) (IsEvent s a (codes "out") fields)
unfolding move_out_in
move_out_gives s a fields = next (moved_gives s fields) (λ x h. last (events.MoveOut a x.0 x.1 x.2 x.3) (refl, h.0, (refl, h.1, h.2, h.3, h.4)))

move_in_gives : (s : ScriptValue) (a : ℕ) (fields : List Letters) → Gives (move_in_in s a fields) (IsEvent s a (codes "in") fields)
unfolding move_in_in
move_in_gives s a fields = next (moved_gives s fields) (λ x h. last (events.MoveIn a x.0 x.1 x.2 x.3) (refl, h.0, (refl, h.1, h.2, h.3, h.4)))

fork_begin_gives : (s : ScriptValue) (a : ℕ) (fields : List Letters) → Gives (fork_begin_in s fields) (IsEvent s a (codes "forkbegin") fields)
unfolding fork_begin_in
fork_begin_gives s a fields = next (fork_gives s fields) (λ x h. last (events.ForkBegin x.0 x.1) (refl, h.0, (h.1, h.2)))

fork_end_gives : (s : ScriptValue) (a : ℕ) (fields : List Letters) → Gives (fork_end_in s fields) (IsEvent s a (codes "forkend") fields)
unfolding fork_end_in
fork_end_gives s a fields = next (fork_gives s fields) (λ x h. last (events.ForkEnd x.0 x.1) (refl, h.0, (h.1, h.2)))

pin_try_gives : (s : ScriptValue) (a : ℕ) (fields : List Letters) → Gives (pin_try_in s a fields) (IsEvent s a (codes "pintry") fields)
unfolding pin_try_in
pin_try_gives s a (proc ∷ page ∷ way ∷ []) = next (process_gives s proc) (λ p hp. next (page_gives page) (λ g hg. next (way_gives way) (λ w hw. last (events.PinTry a p g w) (refl, cc, (refl, hp.0, hg.1)))))
pin_try_gives s a _ = nothing

pin_drop_gives : (s : ScriptValue) (a : ℕ) (fields : List Letters) → Gives (pin_drop_in a fields) (IsEvent s a (codes "pindrop") fields)
unfolding pin_drop_in
pin_drop_gives s a (page ∷ []) = next (page_gives page) (λ g hg. last (events.PinDrop a g) (refl, cc, (refl, hg.1)))
pin_drop_gives s a _ = nothing

give_gives : (s : ScriptValue) (a : ℕ) (fields : List Letters) → Gives (give_in s a fields) (IsEvent s a (codes "give") fields)
unfolding give_in
give_gives s a (handle ∷ to ∷ []) = next (handle_gives s handle) (λ h hh. next (actor_gives s to) (λ b hb. last (events.Give a h b) (refl, cc, (refl, hh.0, hb.0))))
give_gives s a _ = nothing

mirror_gives : (s : ScriptValue) (a : ℕ) (fields : List Letters) → Gives (mirror_in s a fields) (IsEvent s a (codes "mirror") fields)
unfolding mirror_in
mirror_gives s a (slot ∷ proc ∷ page ∷ []) = next (slot_gives s slot) (λ m hm. next (process_gives s proc) (λ p hp. next (page_gives page) (λ g hg. last (events.MirrorFill a m p g) (refl, cc, (refl, hm.0, hp.0, hg.1)))))
mirror_gives s a _ = nothing

look_gives : (s : ScriptValue) (a : ℕ) (fields : List Letters) → Gives (look_in s a fields) (IsEvent s a (codes "look") fields)
unfolding look_in
look_gives s a (slot ∷ word ∷ value ∷ []) = next (slot_gives s slot) (λ m hm. next (word_no_gives word) (λ w hw. next (number_gives value) (λ v hv. last (events.Look a m w v) (refl, cc, (refl, hm.0, hw.1, hv.1)))))
look_gives s a _ = nothing

fork_page_gives : (s : ScriptValue) (a : ℕ) (fields : List Letters) → Gives (fork_page_in s fields) (IsEvent s a (codes "forkpage") fields)
unfolding fork_page_in
fork_page_gives s a (parent ∷ child ∷ page ∷ []) = next (process_gives s parent) (λ p hp. next (process_gives s child) (λ c hc. next (page_gives page) (λ g hg. last (events.ForkPage p c g) (refl, cc, (hp.0, hc.0, hg.1)))))
fork_page_gives s a _ = nothing

fork_word_gives : (s : ScriptValue) (a : ℕ) (fields : List Letters) → Gives (fork_word_in s fields) (IsEvent s a (codes "forkword") fields)
unfolding fork_word_in
fork_word_gives s a (parent ∷ child ∷ at ∷ []) = next (process_gives s parent) (λ p hp. next (process_gives s child) (λ c hc. next (address_gives at) (λ x hx. last (events.ForkWord p c x.0 x.1) (refl, cc, (hp.0, hc.0, hx.1, hx.2)))))
fork_word_gives s a _ = nothing

fork_fail_gives : (s : ScriptValue) (a : ℕ) (fields : List Letters) → Gives (fork_fail_in s fields) (IsEvent s a (codes "forkfail") fields)
unfolding fork_fail_in
fork_fail_gives s a (child ∷ []) = next (process_gives s child) (λ c hc. last (events.ForkFail c) (refl, cc, hc.0))
fork_fail_gives s a _ = nothing

abbrev says : ScriptValue → ℕ → List Letters → Letters → PlainEvent → Type 0
says s a fields word event = IsEvent s a word fields event

event_gives : (s : ScriptValue) (a : ℕ) (word : Letters) (fields : List Letters) → Gives (event_in s a word fields) (IsEvent s a word fields)
unfolding event_in
event_gives s a word fields =
    choose (says s a fields) word (codes "load") (load_gives s a fields)
    (choose (says s a fields) word (codes "store") (store_gives s a fields)
    (choose (says s a fields) word (codes "forkword") (fork_word_gives s a fields)
    (choose (says s a fields) word (codes "forkpage") (fork_page_gives s a fields)
    (choose (says s a fields) word (codes "out") (move_out_gives s a fields)
    (choose (says s a fields) word (codes "in") (move_in_gives s a fields)
    (choose (says s a fields) word (codes "map") (map_gives s a fields)
    (choose (says s a fields) word (codes "unmap") (unmap_gives s a fields)
    (choose (says s a fields) word (codes "discard") (discard_gives s a fields)
    (choose (says s a fields) word (codes "protect") (protect_gives s a fields)
    (choose (says s a fields) word (codes "pintry") (pin_try_gives s a fields)
    (choose (says s a fields) word (codes "pindrop") (pin_drop_gives s a fields)
    (choose (says s a fields) word (codes "pinok") (pin_ok_gives s a fields)
    (choose (says s a fields) word (codes "unpin") (unpin_gives s a fields)
    (choose (says s a fields) word (codes "give") (give_gives s a fields)
    (choose (says s a fields) word (codes "take") (take_gives s a fields)
    (choose (says s a fields) word (codes "mirror") (mirror_gives s a fields)
    (choose (says s a fields) word (codes "look") (look_gives s a fields)
    (choose (says s a fields) word (codes "forkbegin") (fork_begin_gives s a fields)
    (choose (says s a fields) word (codes "forkend") (fork_end_gives s a fields)
    (choose (says s a fields) word (codes "forkfail") (fork_fail_gives s a fields)
    nothing))))))))))))))))))))

-- ---- what an actor waits for

abbrev Awaits : ScriptValue → (name kind : Letters) → Waiting → Type 0
Awaits s name kind waiting = (kind ∷ name ∷ [] ≡ waiting_fields s waiting) × IsWaiting s waiting

holder_gives : (s : ScriptValue) (name : Letters) → Gives (holder_in s name) (Awaits s name (codes "actor"))
unfolding holder_in
holder_gives s name = next (actor_gives s name) (λ a h. last (waitings.Holder a) (cc (h.1), h.0))

awaited_handle_gives : (s : ScriptValue) (name : Letters) → Gives (awaited_handle_in s name) (Awaits s name (codes "handle"))
unfolding awaited_handle_in
awaited_handle_gives s name = next (handle_gives s name) (λ x h. last (waitings.Handle x) (cc (h.1), h.0))

awaited_process_gives : (s : ScriptValue) (name : Letters) → Gives (awaited_process_in s name) (Awaits s name (codes "process"))
unfolding awaited_process_in
awaited_process_gives s name = next (process_gives s name) (λ p h. last (waitings.Process p) (cc (h.1), h.0))

awaited_gives : (s : ScriptValue) (kind name : Letters) → Gives (awaited_in s kind name) (Awaits s name kind)
unfolding awaited_in
awaited_gives s kind name =
    choose (Awaits s name) kind (codes "actor") (holder_gives s name)
    (choose (Awaits s name) kind (codes "handle") (awaited_handle_gives s name)
    (choose (Awaits s name) kind (codes "process") (awaited_process_gives s name) nothing))

waiting_gives : (s : ScriptValue) (fields : List Letters) → Gives (waiting_in s fields) (λ w. (fields ≡ waiting_fields s w) × IsWaiting s w)
unfolding waiting_in
waiting_gives s (kind ∷ name ∷ []) = awaited_gives s kind name
waiting_gives s _ = nothing

-- ---- answers

abbrev Answers : Option Op → (more : List Letters) → Letters → Answer → Type 0
Answers op more word answer = (word ∷ more ≡ answer_words answer) × IsAnswerOf op answer

plain_answer_gives : (op : Option Op) (word : Letters) → Gives (plain_answer_in word) (Answers op [] word)
unfolding plain_answer_in
plain_answer_gives op word =
    choose (Answers op []) word (codes "ok") (last answers.Plain (refl, tt))
    (choose (Answers op []) word (codes "words") (last answers.Words (refl, tt))
    (choose (Answers op []) word (codes "missing") (last answers.Missing (refl, tt))
    (choose (Answers op []) word (codes "forbidden") (last answers.Forbidden (refl, tt))
    (choose (Answers op []) word (codes "noframe") (last answers.NoFrame (refl, tt))
    (choose (Answers op []) word (codes "notheld") (last answers.NotHeld (refl, tt))
    (choose (Answers op []) word (codes "range") (last answers.Range (refl, tt))
    (choose (Answers op []) word (codes "overlap") (last answers.Overlap (refl, tt))
    (choose (Answers op []) word (codes "full") (last answers.Full (refl, tt))
    (choose (Answers op []) word (codes "untouched") (last answers.Untouched (refl, tt))
    (choose (Answers op []) word (codes "stale") (last answers.Stale (refl, tt))
    (choose (Answers op []) word (codes "unborn") (last answers.Unborn (refl, tt)) nothing)))))))))))

number_answers : (op : Option Op) (n : ℕ) → n < 2 ^ 64 → Answers op (decimal n ∷ []) (codes "ok") (number_answer op n)
unfolding number_answer
number_answers op n lt = way (counts_pages op n) refl where
  way : (b : Bool) → counts_pages op n ≡ b → Answers op (decimal n ∷ []) (codes "ok") (cond b (answers.Pinned n) (answers.Value n))
  way true e = (refl, e)
  way false e = (refl, (e, lt))

counted_answer_gives : (op : Option Op) (word : Letters) (n : ℕ) → n < 2 ^ 64 → Gives (counted_answer_in op word n) (Answers op (decimal n ∷ []) word)
unfolding counted_answer_in
counted_answer_gives op word n lt =
    choose (Answers op (decimal n ∷ [])) word (codes "ok") (last (number_answer op n) (number_answers op n lt))
    (choose (Answers op (decimal n ∷ [])) word (codes "unmovable") (last (answers.Unmovable n) (refl, lt))
    (choose (Answers op (decimal n ∷ [])) word (codes "busy") (last (answers.Busy n) (refl, lt)) nothing))

abbrev Causes : (more : List Letters) → Letters → Cause → Type 0
Causes more word cause = (word ∷ more ≡ cause_words cause) × IsCause cause

plain_cause_gives : (word : Letters) → Gives (plain_cause_in word) (Causes [] word)
unfolding plain_cause_in
plain_cause_gives word =
    choose (Causes []) word (codes "missing") (last causes.Missing (refl, tt))
    (choose (Causes []) word (codes "forbidden") (last causes.Forbidden (refl, tt))
    (choose (Causes []) word (codes "noframe") (last causes.NoFrame (refl, tt)) nothing))

counted_cause_gives : (word count : Letters) → Gives (counted_cause_in word count) (Causes (count ∷ []) word)
unfolding counted_cause_in
counted_cause_gives word count =
    choose (Causes (count ∷ [])) word (codes "unmovable") (next (number_gives count) (λ n h. last (causes.Unmovable n) (cc (h.0), h.1))) nothing

cause_gives : (words : List Letters) → Gives (cause_in words) (λ c. (words ≡ cause_words c) × IsCause c)
unfolding cause_in
cause_gives (word ∷ []) = plain_cause_gives word
cause_gives (word ∷ count ∷ []) = counted_cause_gives word count
cause_gives _ = nothing

abbrev Shorts : Option Op → (got wanted : Letters) → (cause : List Letters) → (of : Letters) → Answer → Type 0
Shorts op got wanted cause of answer = Answers op (got ∷ of ∷ wanted ∷ cause) (codes "ok") answer

short_answer_gives : (op : Option Op) (got of wanted : Letters) (cause : List Letters) → Gives (short_answer_in got of wanted cause) (Shorts op got wanted cause of)
unfolding short_answer_in
short_answer_gives op got of wanted cause =
    choose (Shorts op got wanted cause) of (codes "of") (next (byte_gives got) (λ g hg. next (byte_gives wanted) (λ w hw. next (cause_gives cause) (λ c hc.
    last (answers.Short g w c) (cc, (hg.1, hw.1, hc.1)))))) nothing

answer_gives : (op : Option Op) (words : List Letters) → Gives (answer_in op words) (λ answer. (words ≡ answer_words answer) × IsAnswerOf op answer)
unfolding answer_in
answer_gives op (word ∷ []) = plain_answer_gives op word
answer_gives op (word ∷ count ∷ []) =
    next (number_gives count) (λ n h. better count n h.0 (counted_answer_gives op word n h.1))
  where
    better : (count : Letters) (n : ℕ) → count ≡ decimal n → Gives (counted_answer_in op word n) (Answers op (decimal n ∷ []) word) → Gives (counted_answer_in op word n) (Answers op (count ∷ []) word)
    better count n same g = record { gives = λ answer e. let h = g.gives answer e in (ap (λ (w : Letters). word ∷ w ∷ []) same ∙ h.0, h.1) }
answer_gives op (word ∷ got ∷ of ∷ wanted ∷ cause) =
    choose (λ word answer. Answers op (got ∷ of ∷ wanted ∷ cause) word answer) word (codes "ok") (short_answer_gives op got of wanted cause) nothing
answer_gives op _ = nothing

-- ---- what happened

abbrev Tells : ScriptValue → (a op : ℕ) → List Letters → Letters → What → Type 0
Tells s a op fields word what = (word ≡ what_word what) × (fields ≡ what_fields s what) × IsWhatOf s a op what

done_gives : (s : ScriptValue) (a op : ℕ) (fields : List Letters) → Gives (done_in (op_at s a op) fields) (Tells s a op fields (codes "done"))
unfolding done_in
done_gives s a op fields = next (answer_gives (op_at s a op) fields) (λ answer h. last (whats.Done answer) (refl, h.0, h.1))

silent_gives : (s : ScriptValue) (a op : ℕ) (fields : List Letters) → Gives (alone whats.Silent fields) (Tells s a op fields (codes "silent"))
unfolding alone
silent_gives s a op [] = last whats.Silent (refl, refl, tt)
silent_gives s a op _ = nothing

idle_gives : (s : ScriptValue) (a op : ℕ) (fields : List Letters) → Gives (alone whats.Idle fields) (Tells s a op fields (codes "idle"))
unfolding alone
idle_gives s a op [] = last whats.Idle (refl, refl, tt)
idle_gives s a op _ = nothing

wait_gives : (s : ScriptValue) (a op : ℕ) (fields : List Letters) → Gives (wait_in s fields) (Tells s a op fields (codes "wait"))
unfolding wait_in
wait_gives s a op fields = next (waiting_gives s fields) (λ w h. last (whats.Wait w) (refl, h.0, h.1))

some_event_gives : (s : ScriptValue) (a op : ℕ) (word : Letters) (fields : List Letters) → Gives (some_event_in s a word fields) (Tells s a op fields word)
unfolding some_event_in
some_event_gives s a op word fields = next (event_gives s a word fields) (λ e h. last (whats.Event e) (h.0, h.1, h.2))

what_gives : (s : ScriptValue) (a op : ℕ) (word : Letters) (fields : List Letters) → Gives (what_in s a op word fields) (Tells s a op fields word)
unfolding what_in
what_gives s a op word fields =
    choose (Tells s a op fields) word (codes "done") (done_gives s a op fields)
    (choose (Tells s a op fields) word (codes "silent") (silent_gives s a op fields)
    (choose (Tells s a op fields) word (codes "idle") (idle_gives s a op fields)
    (choose (Tells s a op fields) word (codes "wait") (wait_gives s a op fields)
    (some_event_gives s a op word fields))))

-- ---- notes

pub note_gives : (s : ScriptValue) (words : List Letters) → Gives (note_in s words) (λ note. (words ≡ note_words s note) × CanBeWritten s note)
unfolding note_in
note_gives s (turn ∷ name ∷ op ∷ word ∷ fields) =
    next (index_gives turn) (λ t ht. next (actor_gives s name) (λ a ha. next (index_gives op) (λ k hk. next (what_gives s a k word fields) (λ w hw.
    last (record { turn = t; actor = a; op = k; what = w }) (cc, (ht.1, ha.0, hk.1, hw.2))))))
note_gives s _ = nothing
