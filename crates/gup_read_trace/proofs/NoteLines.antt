-- A note's line ends with its first line feed.
use Rattle.std.proofs.Common.{◌≡◌, ◌≢◌, ◌⊎◌, ℕ, ◌^◌, ◌<◌, Bool, true, false, not, ltb, List, [], ◌∷◌, ◌++◌, codes, append_assoc, refl, sym, ap, ◌∙◌, inl, inr, arith, Option}
use Rattle.std.specs.Prelude.{◌==◌, decimal}
use Rattle.std.specs.List.{AllByRecursion, list_all}
use Rattle.std.proofs.lemmas.Bool.{ltb-true}
use Rattle.std.proofs.lemmas.Bool.Decides.{nat_tests}
use Rattle.std.proofs.lemmas.List.Elements.{All-from_recursion, All-weaker, All-nil, All-cons, All-append}
use Rattle.gup_base.specs.declared.entry.Rights.{Rights}
use Rattle.gup_base.specs.declared.entry.Rights.TheVariants.{R, RW}
use Rattle.gup_plain.specs.Note.{NoteValue}
use Rattle.gup_plain.specs.declared.answer.Answer.{Answer}
use Rattle.gup_plain.specs.declared.answer.Answer.TheVariants as answers
use Rattle.gup_plain.specs.declared.answer.Cause.{Cause}
use Rattle.gup_plain.specs.declared.answer.Cause.TheVariants as causes
use Rattle.gup_plain.specs.declared.event.PlainEvent.{PlainEvent}
use Rattle.gup_plain.specs.declared.event.PlainEvent.TheVariants.{Map, Unmap, Discard, Protect, Load, Store, PinTry, PinDrop, PinOk, Unpin, Give, Take, MoveOut, MoveIn, MirrorFill, Look, ForkBegin, ForkPage, ForkWord, ForkEnd, ForkFail}
use Rattle.gup_plain.specs.declared.note.What.{What}
use Rattle.gup_plain.specs.declared.note.What.TheVariants.{Silent, Idle, Wait, Event, Done}
use Rattle.gup_plain.specs.declared.note.Waiting.{Waiting}
use Rattle.gup_plain.specs.declared.note.Waiting.TheVariants.{Holder, Handle, Process}
use Rattle.gup_script.specs.declared.op.Op.{Op}
use Rattle.gup_script.specs.Script.{ScriptValue}
use Rattle.gup_spec_grammar.specs.Said.{Word}
use Rattle.gup_spec_grammar.specs.Spelling.{Lacks, IsLetter, IsDigit, IsName, address}
use Rattle.gup_read_words.proofs.Cuts.{decimal_lacks}
use Rattle.gup_lines.specs.Text.{cause_text}
use Rattle.gup_spec_trace.specs.Note.{said, spaced, actor, process, handle, slot, right, way, waiting_text, event_text, done_text, what_text, note_line}
use Rattle.gup_spec_trace.specs.Written.{IsActor, IsProcess, IsHandle, IsSlot, IsWaiting, IsEventOf, IsCause, counts_pages, IsAnswerOf, IsWhatOf, op_at, CanBeWritten}
use Rattle.gup_spec_trace.specs.Names.{AreNames}
use Rattle.gup_spec_trace.specs.Trace.{IsNoLine, IsNoNote}
use Rattle.gup_read_trace.specs.Lines.{IsFirstLine}
use Rattle.gup_read_trace.proofs.Cuts.{same_cut, no_cut}

abbrev IsOther : ℕ → Type 0
IsOther b = b ≢ 10

-- ---- words

name_lacks : (word : Word) → IsName word → Lacks 10 word
name_lacks [] h = absurd h
name_lacks (c ∷ cs) h =
    All-cons IsOther c cs (λ same. let low = h.0.0 in absurd (omega arith))
    (All-weaker (λ b. IsLetter b ⊎ IsDigit b) IsOther other cs h.1)
  where
    other : (b : ℕ) → IsLetter b ⊎ IsDigit b → IsOther b
    other b (inl letter) same = let low = letter.0 in absurd (omega arith)
    other b (inr digit) same = let low = digit.0 in absurd (omega arith)

number_lacks : (n : ℕ) → n < 2 ^ 64 → Lacks 10 (decimal n)
number_lacks n few = decimal_lacks 10 n (λ digit. let low = digit.0 in absurd (omega arith)) few

page_lacks : (n : ℕ) → n < 2 ^ 35 → Lacks 10 (decimal n)
page_lacks n few = number_lacks n (omega arith)

count_lacks : (n : ℕ) → n < 2 ^ 32 → Lacks 10 (decimal n)
count_lacks n few = number_lacks n (omega arith)

-- fixed words
abbrev is_other : ℕ → Bool
is_other b = not (b == 10)

fixed : (word : Word) → list_all is_other word ≡ true → Lacks 10 word
fixed word e = All-from_recursion IsOther word (each word e) where
  each : (word : Word) → list_all is_other word ≡ true → AllByRecursion IsOther word
  each [] e = tt
  each (b ∷ word) e =
      let here : is_other b ≡ true = grind arith in
      let rest : list_all is_other word ≡ true = grind arith in
      (grind (arith, nat_tests), each word rest)

two : (xs ys : List ℕ) → Lacks 10 xs → Lacks 10 ys → Lacks 10 (xs ++ ys)
two xs ys p q = All-append IsOther xs ys p q

spaced_lacks : (words : List Word) → AllByRecursion (Lacks 10) words → Lacks 10 (spaced words)
spaced_lacks [] h = All-nil IsOther
spaced_lacks (word ∷ words) h =
    two (codes " " ++ word) (spaced words) (two (codes " ") word (fixed (codes " ") refl) h.0) (spaced_lacks words h.1)

said_lacks : (word : Word) (words : List Word) → Lacks 10 word → AllByRecursion (Lacks 10) words → Lacks 10 (said word words)
said_lacks word words h each = two word (spaced words) h (spaced_lacks words each)

address_lacks : (page w : ℕ) → page < 2 ^ 35 → w < 512 → Lacks 10 (address page w)
address_lacks page w few small =
    two (decimal page ++ codes ".") (decimal w) (two (decimal page) (codes ".") (page_lacks page few) (fixed (codes ".") refl)) (number_lacks w (omega arith))

right_lacks : (rights : Rights) → Lacks 10 (right rights)
right_lacks R = fixed (codes "r") refl
right_lacks RW = fixed (codes "rw") refl

way_lacks : (write : Bool) → Lacks 10 (way write)
way_lacks false = fixed (codes "read") refl
way_lacks true = fixed (codes "write") refl

-- ---- what happened

module _ (s : ScriptValue) (names : AreNames s) where
  actor_lacks : (a : ℕ) → IsActor s a → Lacks 10 (actor s a)
  actor_lacks a is = name_lacks (actor s a) (names.actors a is)

  process_lacks : (p : ℕ) → IsProcess s p → Lacks 10 (process s p)
  process_lacks p is = name_lacks (process s p) (names.processes p is)

  handle_lacks : (h : ℕ) → IsHandle s h → Lacks 10 (handle s h)
  handle_lacks h is = name_lacks (handle s h) (names.handles h is)

  slot_lacks : (m : ℕ) → IsSlot s m → Lacks 10 (slot s m)
  slot_lacks m is = name_lacks (slot s m) (names.slots m is)

  waiting_lacks : (w : Waiting) → IsWaiting s w → Lacks 10 (waiting_text s w)
  waiting_lacks (Holder a) is =
      said_lacks (codes "wait") (codes "actor" ∷ actor s a ∷ []) (fixed (codes "wait") refl) (fixed (codes "actor") refl, (actor_lacks a is, tt))
  waiting_lacks (Handle h) is =
      said_lacks (codes "wait") (codes "handle" ∷ handle s h ∷ []) (fixed (codes "wait") refl) (fixed (codes "handle") refl, (handle_lacks h is, tt))
  waiting_lacks (Process p) is =
      said_lacks (codes "wait") (codes "process" ∷ process s p ∷ []) (fixed (codes "wait") refl) (fixed (codes "process") refl, (process_lacks p is, tt))

  event_lacks : (a : ℕ) (event : PlainEvent) → IsEventOf s a event → Lacks 10 (event_text s event)
  event_lacks a (Map b p page n rights) h =
      let few = h.3 in said_lacks (codes "map") (process s p ∷ decimal page ∷ decimal n ∷ right rights ∷ []) (fixed (codes "map") refl) (process_lacks p h.1, (page_lacks page h.2, (number_lacks n (omega arith), (right_lacks rights, tt))))
  event_lacks a (Unmap b p page) h =
      said_lacks (codes "unmap") (process s p ∷ decimal page ∷ []) (fixed (codes "unmap") refl) (process_lacks p h.1, (page_lacks page h.2, tt))
  event_lacks a (Discard b p page) h =
      said_lacks (codes "discard") (process s p ∷ decimal page ∷ []) (fixed (codes "discard") refl) (process_lacks p h.1, (page_lacks page h.2, tt))
  event_lacks a (Protect b p page n rights) h =
      let few = h.3 in said_lacks (codes "protect") (process s p ∷ decimal page ∷ decimal n ∷ right rights ∷ []) (fixed (codes "protect") refl) (process_lacks p h.1, (page_lacks page h.2, (number_lacks n (omega arith), (right_lacks rights, tt))))
  event_lacks a (Load b p page word value) h =
      said_lacks (codes "load") (process s p ∷ address page word ∷ decimal value ∷ []) (fixed (codes "load") refl) (process_lacks p h.1, (address_lacks page word h.2 h.3, (number_lacks value h.4, tt)))
  event_lacks a (Store b p page word value) h =
      said_lacks (codes "store") (process s p ∷ address page word ∷ decimal value ∷ []) (fixed (codes "store") refl) (process_lacks p h.1, (address_lacks page word h.2 h.3, (number_lacks value h.4, tt)))
  event_lacks a (PinTry b p page write) h =
      said_lacks (codes "pintry") (process s p ∷ decimal page ∷ way write ∷ []) (fixed (codes "pintry") refl) (process_lacks p h.1, (page_lacks page h.2, (way_lacks write, tt)))
  event_lacks a (PinDrop b page) h =
      said_lacks (codes "pindrop") (decimal page ∷ []) (fixed (codes "pindrop") refl) (page_lacks page h.1, tt)
  event_lacks a (PinOk b g) h =
      said_lacks (codes "pinok") (handle s g ∷ []) (fixed (codes "pinok") refl) (handle_lacks g h.1, tt)
  event_lacks a (Unpin b g) h =
      said_lacks (codes "unpin") (handle s g ∷ []) (fixed (codes "unpin") refl) (handle_lacks g h.1, tt)
  event_lacks a (Give b g to) h =
      said_lacks (codes "give") (handle s g ∷ actor s to ∷ []) (fixed (codes "give") refl) (handle_lacks g h.1, (actor_lacks to h.2, tt))
  event_lacks a (Take b g) h =
      said_lacks (codes "take") (handle s g ∷ []) (fixed (codes "take") refl) (handle_lacks g h.1, tt)
  event_lacks a (MoveOut b g i k value) h =
      said_lacks (codes "out") (handle s g ∷ decimal i ∷ decimal k ∷ decimal value ∷ []) (fixed (codes "out") refl) (handle_lacks g h.1, (count_lacks i h.2, (count_lacks k h.3, (number_lacks value h.4, tt))))
  event_lacks a (MoveIn b g i k value) h =
      said_lacks (codes "in") (handle s g ∷ decimal i ∷ decimal k ∷ decimal value ∷ []) (fixed (codes "in") refl) (handle_lacks g h.1, (count_lacks i h.2, (count_lacks k h.3, (number_lacks value h.4, tt))))
  event_lacks a (MirrorFill b m p page) h =
      said_lacks (codes "mirror") (slot s m ∷ process s p ∷ decimal page ∷ []) (fixed (codes "mirror") refl) (slot_lacks m h.1, (process_lacks p h.2, (page_lacks page h.3, tt)))
  event_lacks a (Look b m word value) h =
      let few = h.2 in said_lacks (codes "look") (slot s m ∷ decimal word ∷ decimal value ∷ []) (fixed (codes "look") refl) (slot_lacks m h.1, (number_lacks word (omega arith), (number_lacks value h.3, tt)))
  event_lacks a (ForkBegin p child) h =
      said_lacks (codes "forkbegin") (process s p ∷ process s child ∷ []) (fixed (codes "forkbegin") refl) (process_lacks p h.0, (process_lacks child h.1, tt))
  event_lacks a (ForkPage p child page) h =
      said_lacks (codes "forkpage") (process s p ∷ process s child ∷ decimal page ∷ []) (fixed (codes "forkpage") refl) (process_lacks p h.0, (process_lacks child h.1, (page_lacks page h.2, tt)))
  event_lacks a (ForkWord p child page word) h =
      said_lacks (codes "forkword") (process s p ∷ process s child ∷ address page word ∷ []) (fixed (codes "forkword") refl) (process_lacks p h.0, (process_lacks child h.1, (address_lacks page word h.2 h.3, tt)))
  event_lacks a (ForkEnd p child) h =
      said_lacks (codes "forkend") (process s p ∷ process s child ∷ []) (fixed (codes "forkend") refl) (process_lacks p h.0, (process_lacks child h.1, tt))
  event_lacks a (ForkFail child) h =
      said_lacks (codes "forkfail") (process s child ∷ []) (fixed (codes "forkfail") refl) (process_lacks child h, tt)

cause_lacks : (cause : Cause) → IsCause cause → Lacks 10 (cause_text cause)
cause_lacks causes.Missing h = fixed (codes "missing") refl
cause_lacks causes.Forbidden h = fixed (codes "forbidden") refl
cause_lacks causes.NoFrame h = fixed (codes "noframe") refl
cause_lacks (causes.Unmovable count) h =
    two (codes "unmovable ") (decimal count) (fixed (codes "unmovable ") refl) (number_lacks count h)

pages_few : (op : Option Op) (n : ℕ) → counts_pages op n ≡ true → n < 2 ^ 64
pages_few op n e =
    let below : ltb n 256 ≡ true = grind arith in
    let few : n < 256 = ltb-true n 256 below in
    omega arith

done_lacks : (op : Option Op) (answer : Answer) → IsAnswerOf op answer → Lacks 10 (done_text answer)
done_lacks op answers.Words h = fixed (codes "words") refl
done_lacks op answers.Plain h = fixed (codes "ok") refl
done_lacks op (answers.Value value) h = two (codes "ok ") (decimal value) (fixed (codes "ok ") refl) (number_lacks value h.1)
done_lacks op (answers.Pinned pages) h =
    two (codes "ok ") (decimal pages) (fixed (codes "ok ") refl) (number_lacks pages (pages_few op pages h))
done_lacks op (answers.Short got wanted cause) h =
    let few = h.0 in
    let small = h.1 in
    two ((codes "ok " ++ decimal got) ++ (codes " of " ++ decimal wanted)) (codes " " ++ cause_text cause)
    (two (codes "ok " ++ decimal got) (codes " of " ++ decimal wanted)
    (two (codes "ok ") (decimal got) (fixed (codes "ok ") refl) (number_lacks got (omega arith)))
    (two (codes " of ") (decimal wanted) (fixed (codes " of ") refl) (number_lacks wanted (omega arith))))
    (two (codes " ") (cause_text cause) (fixed (codes " ") refl) (cause_lacks cause h.2))
done_lacks op answers.Missing h = fixed (codes "missing") refl
done_lacks op answers.Forbidden h = fixed (codes "forbidden") refl
done_lacks op (answers.Unmovable count) h =
    two (codes "unmovable ") (decimal count) (fixed (codes "unmovable ") refl) (number_lacks count h)
done_lacks op answers.NoFrame h = fixed (codes "noframe") refl
done_lacks op answers.NotHeld h = fixed (codes "notheld") refl
done_lacks op answers.Range h = fixed (codes "range") refl
done_lacks op answers.Overlap h = fixed (codes "overlap") refl
done_lacks op answers.Full h = fixed (codes "full") refl
done_lacks op (answers.Busy count) h = two (codes "busy ") (decimal count) (fixed (codes "busy ") refl) (number_lacks count h)
done_lacks op answers.Untouched h = fixed (codes "untouched") refl
done_lacks op answers.Stale h = fixed (codes "stale") refl
done_lacks op answers.Unborn h = fixed (codes "unborn") refl

what_lacks : (s : ScriptValue) → AreNames s → (a number : ℕ) (what : What) → IsWhatOf s a number what → Lacks 10 (what_text s what)
what_lacks s names a number Silent h = fixed (codes "silent") refl
what_lacks s names a number Idle h = fixed (codes "idle") refl
what_lacks s names a number (Wait waiting) h = waiting_lacks s names waiting h
what_lacks s names a number (Event event) h = event_lacks s names a event h
what_lacks s names a number (Done answer) h =
    two (codes "done ") (done_text answer) (fixed (codes "done ") refl) (done_lacks (op_at s a number) answer h)

-- ---- the line

-- a note's line, without its line feed
abbrev pub note_words : ScriptValue → NoteValue → List ℕ
note_words s note = said (decimal note.turn) (actor s note.actor ∷ decimal note.op ∷ what_text s note.what ∷ [])

pub note_lacks : (s : ScriptValue) (note : NoteValue) → AreNames s → CanBeWritten s note → Lacks 10 (note_words s note)
note_lacks s note names can =
    said_lacks (decimal note.turn) (actor s note.actor ∷ decimal note.op ∷ what_text s note.what ∷ []) (count_lacks note.turn can.0)
    (actor_lacks s names note.actor can.1, (count_lacks note.op can.2, (what_lacks s names note.actor note.op note.what can.3, tt)))

pub note_step : (s : ScriptValue) (note : NoteValue) (rest : List ℕ) → note_line s note ++ rest ≡ note_words s note ++ 10 ∷ rest
note_step s note rest = append_assoc (note_words s note) (codes "\n") rest

-- no note's line begins a text without a line feed, or one whose first line is none
pub no_note_uncut : (s : ScriptValue) (rest : List ℕ) → Lacks 10 rest → IsNoNote s rest
no_note_uncut s rest lacks = λ note behind can e.
    no_cut rest (note_words s note) behind lacks (e ∙ note_step s note behind)

pub no_note : (s : ScriptValue) (rest line behind : List ℕ) → AreNames s → IsFirstLine rest line behind → IsNoLine s line → IsNoNote s rest
no_note s rest line behind names is none = λ note after can e.
    let cut = same_cut line (note_words s note) behind after is.1 (note_lacks s note names can) (sym is.0 ∙ e ∙ note_step s note after) in
    none note (can, ap (λ (xs : List ℕ). xs ++ codes "\n") cut.0)
