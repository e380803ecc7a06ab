-- The notes of a fork name its two processes.
use Rattle.std.proofs.Common.{ℕ, ◌+◌, inl, inr, List, [], ◌∷◌, Option, zero, suc}
use Rattle.gup_plain.specs.declared.answer.Answer.TheVariants as answers
use Rattle.gup_plain.specs.declared.event.PlainEvent.TheVariants as events
use Rattle.gup_plain.specs.declared.note.What.{What}
use Rattle.gup_plain.specs.declared.note.What.TheVariants.{Silent, Event, Done}
use Rattle.gup_script.specs.Script.{ScriptValue}
use Rattle.gup_script.specs.declared.op.Op.{Op}
use Rattle.gup_spec_journal.specs.Follows.{Who, IsTurn, CopiesWords, CopiesFrom, CopiesPage, SharesOrCopies, ForksPage, FailsFork, ForksPages, Forks}
use Rattle.gup_spec_trace.specs.Written.{IsProcess}
use Rattle.gup_law_written.proofs.EachNote.{Each, IsOf, each_turn, each_then, each_silent}

copies_words : (s : ScriptValue) (who : Who) (op : Option Op) (child : ℕ) → IsProcess s who.proc → IsProcess s child → (page word left : ℕ) → Each (IsOf s who op) (CopiesWords who child page word left)
copies_words s who op child proc there page word zero notes is = each_silent s who op notes is
copies_words s who op child proc there page word (suc left) notes is =
    let copied : What = Event (events.ForkWord who.proc child page word) in
    each_then (IsOf s who op) (IsTurn who (copied ∷ [])) (CopiesWords who child page (word + 1) left) (each_turn s who op (copied ∷ []) ((proc, there), tt))
    (copies_words s who op child proc there page (word + 1) left) notes is

copies_page : (s : ScriptValue) (who : Who) (op : Option Op) (child : ℕ) → IsProcess s who.proc → IsProcess s child → (page : ℕ) → Each (IsOf s who op) (CopiesPage who child page)
copies_page s who op child proc there page =
    each_then (IsOf s who op) (IsTurn who (Silent ∷ [])) (CopiesFrom who child page 0) (each_silent s who op) (λ notes is. copies_words s who op child proc there page 0 is.0 notes is.2)

shares_page : (s : ScriptValue) (who : Who) (op : Option Op) (child : ℕ) → IsProcess s who.proc → IsProcess s child → (page : ℕ) → Each (IsOf s who op) (IsTurn who (Event (events.ForkPage who.proc child page) ∷ []))
shares_page s who op child proc there page = each_turn s who op (Event (events.ForkPage who.proc child page) ∷ []) ((proc, there), tt)

shares_or_copies : (s : ScriptValue) (who : Who) (op : Option Op) (child : ℕ) → IsProcess s who.proc → IsProcess s child → (page : ℕ) → Each (IsOf s who op) (SharesOrCopies who child page)
shares_or_copies s who op child proc there page notes (inl shared) = shares_page s who op child proc there page notes shared
shares_or_copies s who op child proc there page notes (inr copied) = copies_page s who op child proc there page notes copied

forks_page : (s : ScriptValue) (who : Who) (op : Option Op) (child : ℕ) → IsProcess s who.proc → IsProcess s child → (page : ℕ) → Each (IsOf s who op) (ForksPage who child page)
forks_page s who op child proc there page notes (inl passed) = shares_page s who op child proc there page notes passed
forks_page s who op child proc there page notes (inr counted) =
    each_then (IsOf s who op) (IsTurn who (Silent ∷ [])) (SharesOrCopies who child page) (each_silent s who op) (shares_or_copies s who op child proc there page) notes counted

fails_fork : (s : ScriptValue) (who : Who) (op : Option Op) (child : ℕ) → IsProcess s child → Each (IsOf s who op) (FailsFork who child)
fails_fork s who op child there =
    let failed : List What = Event (events.ForkFail child) ∷ Done answers.NoFrame ∷ [] in
    each_then (IsOf s who op) (IsTurn who (Silent ∷ [])) (IsTurn who failed) (each_silent s who op) (each_turn s who op failed (there, (tt, tt)))

forks_pages : (s : ScriptValue) (who : Who) (op : Option Op) (child : ℕ) → IsProcess s who.proc → IsProcess s child → (from pages : ℕ) → Each (IsOf s who op) (ForksPages who child from pages)
forks_pages s who op child proc there from zero notes (inl ended) =
    each_turn s who op (Event (events.ForkEnd who.proc child) ∷ Done answers.Plain ∷ []) ((proc, there), (tt, tt)) notes ended
forks_pages s who op child proc there from zero notes (inr failed) = fails_fork s who op child there notes failed
forks_pages s who op child proc there from (suc pages) notes is =
    each_then (IsOf s who op) (ForksPage who child is.0) (ForksPages who child (is.0 + 1) pages) (forks_page s who op child proc there is.0)
    (forks_pages s who op child proc there (is.0 + 1) pages) notes is.2

pub forks : (s : ScriptValue) (who : Who) (op : Option Op) (child : ℕ) → IsProcess s who.proc → IsProcess s child → Each (IsOf s who op) (Forks who child)
forks s who op child proc there notes is =
    let began : What = Event (events.ForkBegin who.proc child) in
    each_then (IsOf s who op) (IsTurn who (began ∷ [])) (ForksPages who child 0 is.0) (each_turn s who op (began ∷ []) ((proc, there), tt))
    (forks_pages s who op child proc there 0 is.0) notes is.1
