-- Whether two notes say the same.
use Rattle.std.specs.Prelude.{◌==◌, ◌&&◌, Bool, true, false}
use Rattle.gup_base.specs.declared.entry.Rights.{Rights}
use Rattle.gup_base.specs.declared.entry.Rights.TheVariants.{R, RW}
use Rattle.gup_plain.specs.declared.answer.Answer.{Answer}
use Rattle.gup_plain.specs.declared.answer.Answer.TheVariants as answers
use Rattle.gup_plain.specs.declared.answer.Cause.{Cause}
use Rattle.gup_plain.specs.declared.answer.Cause.TheVariants as causes
use Rattle.gup_plain.specs.declared.event.PlainEvent.{PlainEvent}
use Rattle.gup_plain.specs.declared.event.PlainEvent.TheVariants.{Map, Unmap, Discard, Protect, Load, Store, PinTry, PinDrop, PinOk, Unpin, Give, Take, MoveOut, MoveIn, MirrorFill, Look, ForkBegin, ForkPage, ForkWord, ForkEnd, ForkFail}
use Rattle.gup_plain.specs.declared.note.What.{What}
use Rattle.gup_plain.specs.declared.note.What.TheVariants.{Event, Done}

abbrev pub same_flag : (b c : Bool) → Bool
same_flag true true = true
same_flag false false = true
same_flag b c = false

abbrev pub same_rights : (r q : Rights) → Bool
same_rights R R = true
same_rights RW RW = true
same_rights r q = false

abbrev pub same_cause : (c d : Cause) → Bool
same_cause causes.Missing causes.Missing = true
same_cause causes.Forbidden causes.Forbidden = true
same_cause causes.NoFrame causes.NoFrame = true
same_cause (causes.Unmovable m) (causes.Unmovable n) = m == n
same_cause c d = false

abbrev pub same_answer : (x y : Answer) → Bool
same_answer answers.Plain answers.Plain = true
same_answer (answers.Value m) (answers.Value n) = m == n
same_answer (answers.Pinned m) (answers.Pinned n) = m == n
same_answer (answers.Short k m c) (answers.Short l n d) = (k == l) && (m == n) && same_cause c d
same_answer answers.Words answers.Words = true
same_answer answers.Missing answers.Missing = true
same_answer answers.Forbidden answers.Forbidden = true
same_answer (answers.Unmovable m) (answers.Unmovable n) = m == n
same_answer answers.NoFrame answers.NoFrame = true
same_answer answers.NotHeld answers.NotHeld = true
same_answer answers.Range answers.Range = true
same_answer answers.Overlap answers.Overlap = true
same_answer answers.Full answers.Full = true
same_answer (answers.Busy m) (answers.Busy n) = m == n
same_answer answers.Untouched answers.Untouched = true
same_answer answers.Stale answers.Stale = true
same_answer answers.Unborn answers.Unborn = true
same_answer x y = false

abbrev pub same_event : (e f : PlainEvent) → Bool
same_event (Map a p page n r) (Map b q g m s) = (a == b) && (p == q) && (page == g) && (n == m) && same_rights r s
same_event (Unmap a p page) (Unmap b q g) = (a == b) && (p == q) && (page == g)
same_event (Discard a p page) (Discard b q g) = (a == b) && (p == q) && (page == g)
same_event (Protect a p page n r) (Protect b q g m s) = (a == b) && (p == q) && (page == g) && (n == m) && same_rights r s
same_event (Load a p page w v) (Load b q g x u) = (a == b) && (p == q) && (page == g) && (w == x) && (v == u)
same_event (Store a p page w v) (Store b q g x u) = (a == b) && (p == q) && (page == g) && (w == x) && (v == u)
same_event (PinTry a p page w) (PinTry b q g x) = (a == b) && (p == q) && (page == g) && same_flag w x
same_event (PinDrop a page) (PinDrop b g) = (a == b) && (page == g)
same_event (PinOk a h) (PinOk b i) = (a == b) && (h == i)
same_event (Unpin a h) (Unpin b i) = (a == b) && (h == i)
same_event (Give a h to) (Give b i at) = (a == b) && (h == i) && (to == at)
same_event (Take a h) (Take b i) = (a == b) && (h == i)
same_event (MoveOut a h k s v) (MoveOut b i l t u) = (a == b) && (h == i) && (k == l) && (s == t) && (v == u)
same_event (MoveIn a h k s v) (MoveIn b i l t u) = (a == b) && (h == i) && (k == l) && (s == t) && (v == u)
same_event (MirrorFill a m p page) (MirrorFill b n q g) = (a == b) && (m == n) && (p == q) && (page == g)
same_event (Look a m w v) (Look b n x u) = (a == b) && (m == n) && (w == x) && (v == u)
same_event (ForkBegin p c) (ForkBegin q d) = (p == q) && (c == d)
same_event (ForkPage p c page) (ForkPage q d g) = (p == q) && (c == d) && (page == g)
same_event (ForkWord p c page w) (ForkWord q d g x) = (p == q) && (c == d) && (page == g) && (w == x)
same_event (ForkEnd p c) (ForkEnd q d) = (p == q) && (c == d)
same_event (ForkFail c) (ForkFail d) = c == d
same_event e f = false

-- of two that say events or answers
abbrev pub same_what : (x y : What) → Bool
same_what (Event e) (Event f) = same_event e f
same_what (Done x) (Done y) = same_answer x y
same_what x y = false
