-- The words of a note that can be written have printable bytes alone, and no space.
use Rattle.std.specs.Prelude.{codes, decimal}
use Rattle.std.proofs.Common.{◌≡◌, ℕ, ◌^◌, ◌<◌, ◌≤◌, ◌⊎◌, inl, inr, ◌&&◌, Bool, true, false, leb, List, [], ◌∷◌, ◌++◌, All, Option, refl, arith}
use Rattle.std.specs.List.{list_all, AllByRecursion}
use Rattle.std.proofs.lemmas.Bool.Decides.{nat_tests}
use Rattle.std.proofs.lemmas.List.Elements.{All-from_get_or, recursion_from_All}
use Rattle.std.proofs.lemmas.Fmt.{decimal_is_IsNumeral}
use Rattle.std.proofs.lemmas.Str.Parse.{digit_at}
use Rattle.gup_base.specs.declared.entry.Rights.{Rights}
use Rattle.gup_base.specs.declared.entry.Rights.TheVariants.{R, RW}
use Rattle.gup_plain.specs.Note.{NoteValue}
use Rattle.gup_plain.specs.declared.answer.Answer.{Answer}
use Rattle.gup_plain.specs.declared.answer.Answer.TheVariants as answers
use Rattle.gup_plain.specs.declared.answer.Cause.{Cause}
use Rattle.gup_plain.specs.declared.answer.Cause.TheVariants as causes
use Rattle.gup_plain.specs.declared.event.PlainEvent.{PlainEvent}
use Rattle.gup_plain.specs.declared.event.PlainEvent.TheVariants.{Map, Unmap, Discard, Protect, Load, Store, PinTry, PinDrop, PinOk, Unpin, Give, Take, MoveOut, MoveIn, MirrorFill, Look, ForkBegin, ForkPage, ForkWord, ForkEnd, ForkFail}
use Rattle.gup_plain.specs.declared.note.What.{What}
use Rattle.gup_plain.specs.declared.note.What.TheVariants as whats
use Rattle.gup_plain.specs.declared.note.Waiting.{Waiting}
use Rattle.gup_plain.specs.declared.note.Waiting.TheVariants as waitings
use Rattle.gup_script.specs.declared.op.Op.{Op}
use Rattle.gup_script.specs.Script.{ScriptValue}
use Rattle.gup_spec_grammar.specs.Said.{Word as Letters}
use Rattle.gup_spec_grammar.specs.Spelling.{IsLetter, IsDigit, IsName, address}
use Rattle.gup_spec_trace.specs.Names.{AreNames}
use Rattle.gup_spec_trace.specs.Note.{actor, process, handle, slot, right, way}
use Rattle.gup_spec_trace.specs.Written.{IsProcess, IsEventOf, IsWaiting, IsCause, IsAnswerOf, op_at, IsWhatOf, CanBeWritten}
use Rattle.gup_read_notes.proofs.ReadNotes.{few_pages}
use Rattle.gup_read_notes.proofs.Words.{waiting_fields, event_word, event_fields, cause_words, answer_words, what_word, what_fields, note_words}

abbrev is_plain_byte : ℕ → Bool
is_plain_byte b = leb 33 b && leb b 126

abbrev pub IsPlain : Letters → Type 0
IsPlain word = list_all is_plain_byte word ≡ true

abbrev pub ArePlain : List Letters → Type 0
ArePlain words = AllByRecursion IsPlain words

abbrev IsPlainByte : ℕ → Type 0
IsPlainByte b = (33 ≤ b) × (b ≤ 126)

pub plain_bytes : (word : Letters) → IsPlain word → AllByRecursion IsPlainByte word
plain_bytes [] e = tt
plain_bytes (b ∷ word) e =
    let here : is_plain_byte b ≡ true = grind arith in
    let rest : IsPlain word = grind arith in
    ((grind (arith, nat_tests), grind (arith, nat_tests)), plain_bytes word rest)

-- ---- numbers

digits : (n : ℕ) → n < 2 ^ 64 → All IsDigit (decimal n)
digits n lt = All-from_get_or IsDigit (decimal n) 0 (λ k h. let d = digit_at (decimal n) k (decimal_is_IsNumeral n lt).0.1 h in (omega (arith, d), omega (arith, d)))

digits_plain : (word : Letters) → AllByRecursion IsDigit word → IsPlain word
digits_plain [] h = refl
digits_plain (b ∷ word) h =
    let low = h.0.0 in
    let high = h.0.1 in
    let here : is_plain_byte b ≡ true = grind (arith, nat_tests) in
    rw here (digits_plain word h.1)

number_plain : (n : ℕ) → n < 2 ^ 64 → IsPlain (decimal n)
number_plain n lt = digits_plain (decimal n) (recursion_from_All IsDigit (decimal n) (digits n lt))

joined_plain : (word more : Letters) → IsPlain word → IsPlain more → IsPlain (word ++ more)
joined_plain [] more g h = h
joined_plain (b ∷ word) more g h =
    let here : is_plain_byte b ≡ true = grind arith in
    let rest : IsPlain word = grind arith in
    rw here (joined_plain word more rest h)

address_plain : (page w : ℕ) → page < 2 ^ 35 → w < 512 → IsPlain (address page w)
address_plain page w p v =
    joined_plain (decimal page ++ codes ".") (decimal w) (joined_plain (decimal page) (codes ".") (number_plain page (omega arith)) refl) (number_plain w (omega arith))

-- ---- names

name_bytes : (cs : Letters) → AllByRecursion (λ b. IsLetter b ⊎ IsDigit b) cs → IsPlain cs
name_bytes [] h = refl
name_bytes (c ∷ cs) h =
    let here : is_plain_byte c ≡ true = elim h.0 [ inl l ↦ grind (arith, nat_tests) | inr d ↦ grind (arith, nat_tests) ] in
    rw here (name_bytes cs h.1)

name_plain : (word : Letters) → IsName word → IsPlain word
name_plain [] h = absurd h
name_plain (c ∷ cs) h =
    let low = h.0.0 in
    let high = h.0.1 in
    let here : is_plain_byte c ≡ true = grind (arith, nat_tests) in
    rw here (name_bytes cs (recursion_from_All (λ b. IsLetter b ⊎ IsDigit b) cs h.1))

right_plain : (rights : Rights) → IsPlain (right rights)
right_plain R = refl
right_plain RW = refl

way_plain : (write : Bool) → IsPlain (way write)
way_plain true = refl
way_plain false = refl

-- ---- what happened

module _ (s : ScriptValue) (names : AreNames s) where
  process_plain : (p : ℕ) → IsProcess s p → IsPlain (process s p)
  process_plain p h = name_plain (process s p) (names.processes p h)

  event_plain : (a : ℕ) (event : PlainEvent) → IsEventOf s a event → ArePlain (event_word event ∷ event_fields s event)
  event_plain a (Map b p page n rights) h = (refl, (process_plain p h.1, (number_plain page (omega (arith, h.2)), (number_plain n (omega (arith, h.3)), (right_plain rights, tt)))))
  event_plain a (Unmap b p page) h = (refl, (process_plain p h.1, (number_plain page (omega (arith, h.2)), tt)))
  event_plain a (Discard b p page) h = (refl, (process_plain p h.1, (number_plain page (omega (arith, h.2)), tt)))
  event_plain a (Protect b p page n rights) h = (refl, (process_plain p h.1, (number_plain page (omega (arith, h.2)), (number_plain n (omega (arith, h.3)), (right_plain rights, tt)))))
  event_plain a (Load b p page w value) h = (refl, (process_plain p h.1, (address_plain page w h.2 h.3, (number_plain value h.4, tt))))
  event_plain a (Store b p page w value) h = (refl, (process_plain p h.1, (address_plain page w h.2 h.3, (number_plain value h.4, tt))))
  event_plain a (PinTry b p page write) h = (refl, (process_plain p h.1, (number_plain page (omega (arith, h.2)), (way_plain write, tt))))
  event_plain a (PinDrop b page) h = (refl, (number_plain page (omega (arith, h.1)), tt))
  event_plain a (PinOk b x) h = (refl, (name_plain (handle s x) (names.handles x h.1), tt))
  event_plain a (Unpin b x) h = (refl, (name_plain (handle s x) (names.handles x h.1), tt))
  event_plain a (Give b x to) h = (refl, (name_plain (handle s x) (names.handles x h.1), (name_plain (actor s to) (names.actors to h.2), tt)))
  event_plain a (Take b x) h = (refl, (name_plain (handle s x) (names.handles x h.1), tt))
  event_plain a (MoveOut b x i k value) h =
      (refl, (name_plain (handle s x) (names.handles x h.1), (number_plain i (omega (arith, h.2)), (number_plain k (omega (arith, h.3)), (number_plain value h.4, tt)))))
  event_plain a (MoveIn b x i k value) h =
      (refl, (name_plain (handle s x) (names.handles x h.1), (number_plain i (omega (arith, h.2)), (number_plain k (omega (arith, h.3)), (number_plain value h.4, tt)))))
  event_plain a (MirrorFill b m p page) h = (refl, (name_plain (slot s m) (names.slots m h.1), (process_plain p h.2, (number_plain page (omega (arith, h.3)), tt))))
  event_plain a (Look b m w value) h = (refl, (name_plain (slot s m) (names.slots m h.1), (number_plain w (omega (arith, h.2)), (number_plain value h.3, tt))))
  event_plain a (ForkBegin p child) h = (refl, (process_plain p h.0, (process_plain child h.1, tt)))
  event_plain a (ForkPage p child page) h = (refl, (process_plain p h.0, (process_plain child h.1, (number_plain page (omega (arith, h.2)), tt))))
  event_plain a (ForkWord p child page w) h = (refl, (process_plain p h.0, (process_plain child h.1, (address_plain page w h.2 h.3, tt))))
  event_plain a (ForkEnd p child) h = (refl, (process_plain p h.0, (process_plain child h.1, tt)))
  event_plain a (ForkFail child) h = (refl, (process_plain child h, tt))

  waiting_plain : (waiting : Waiting) → IsWaiting s waiting → ArePlain (waiting_fields s waiting)
  waiting_plain (waitings.Holder a) h = (refl, (name_plain (actor s a) (names.actors a h), tt))
  waiting_plain (waitings.Handle x) h = (refl, (name_plain (handle s x) (names.handles x h), tt))
  waiting_plain (waitings.Process p) h = (refl, (process_plain p h, tt))

cause_plain : (cause : Cause) → IsCause cause → ArePlain (cause_words cause)
cause_plain (causes.Unmovable n) h = (refl, (number_plain n h, tt))
cause_plain cause h = (refl, tt)

answer_plain : (op : Option Op) (answer : Answer) → IsAnswerOf op answer → ArePlain (answer_words answer)
answer_plain op (answers.Value n) h = (refl, (number_plain n h.1, tt))
answer_plain op (answers.Pinned n) h = (refl, (number_plain n (few_pages op n h), tt))
answer_plain op (answers.Unmovable n) h = (refl, (number_plain n h, tt))
answer_plain op (answers.Busy n) h = (refl, (number_plain n h, tt))
answer_plain op (answers.Short got wanted cause) h =
    (refl, (number_plain got (omega (arith, h.0)), (refl, (number_plain wanted (omega (arith, h.1)), cause_plain cause h.2))))
answer_plain op answer h = (refl, tt)

what_plain : (s : ScriptValue) → AreNames s → (a op : ℕ) (what : What) → IsWhatOf s a op what → ArePlain (what_word what ∷ what_fields s what)
what_plain s names a op whats.Silent h = (refl, tt)
what_plain s names a op whats.Idle h = (refl, tt)
what_plain s names a op (whats.Wait waiting) h = (refl, waiting_plain s names waiting h)
what_plain s names a op (whats.Event event) h = event_plain s names a event h
what_plain s names a op (whats.Done answer) h = (refl, answer_plain (op_at s a op) answer h)

-- ---- notes

pub note_plain : (s : ScriptValue) → AreNames s → (note : NoteValue) → CanBeWritten s note → ArePlain (note_words s note)
note_plain s names note h = (
  number_plain note.turn (omega (arith, h.0)),
  (
    name_plain (actor s note.actor) (names.actors note.actor h.1),
    (number_plain note.op (omega (arith, h.2)), what_plain s names note.actor note.op note.what h.3),
  ),
)
