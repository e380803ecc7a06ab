-- Each note of a journal that is one of an operation's is among its actor's own, and so says what its operation may.
use Rattle.std.proofs.Common.{◌≡◌, ℕ, ◌+◌, ◌==◌, ◌&&◌, inl, inr, cond, Bool, true, false, List, [], ◌∷◌, Option, Some, slice_get, suc, refl, sym, ap, ◌∙◌, subst, eq-eqb, arith}
use Rattle.std.specs.List.{AllByRecursion}
use Rattle.gup_plain.specs.Note.{NoteValue}
use Rattle.gup_script.specs.Script.{ScriptValue, actor_at, ops_of}
use Rattle.gup_script.specs.Valid.{IsScript, AreDeclared}
use Rattle.gup_script.specs.declared.op.Op.{Op}
use Rattle.gup_spec_journal.specs.Follows.{Who, Shape, Shapes, is_of_operation, own_notes, Follows}
use Rattle.gup_spec_journal.specs.Place.{process_of}
use Rattle.gup_spec_trace.specs.Written.{op_at}
use Rattle.gup_law_turns.proofs.ScriptLemmas.{ops_at, is_of_thread, has_process}
use Rattle.gup_law_written.proofs.NamedNotes.{Says}
use Rattle.gup_law_written.proofs.EachNote.{Each, IsOf, each_none, each_then}
use Rattle.gup_law_written.proofs.ShapeNotes.{HasProcess, shape}

-- the note says what its operation may
abbrev pub IsNamed : ScriptValue → NoteValue → Type 0
IsNamed s note = Says s note.actor (op_at s note.actor note.op) note.what

weaker : (P Q : NoteValue → Type 0) → ((note : NoteValue) → P note → Q note) → (notes : List NoteValue) → AllByRecursion P notes → AllByRecursion Q notes
weaker P Q so [] all = tt
weaker P Q so (note ∷ notes) all = (so note all.0, weaker P Q so notes all.1)

-- what is so of an operation by its actor and number, is so of its notes
named : (s : ScriptValue) (who : Who) (op : Option Op) → op_at s who.actor who.number ≡ op → (note : NoteValue) → IsOf s who op note → IsNamed s note
named s who op there note is =
    subst (λ (a : ℕ). Says s a (op_at s a note.op) note.what) (sym is.0)
    (subst (λ (n : ℕ). Says s who.actor (op_at s who.actor n) note.what) (sym is.1)
    (subst (λ (o : Option Op). Says s who.actor o note.what) (sym there) is.2))

-- the notes of an operation, which is the actor's at place k
of_operation : (s : ScriptValue) → IsScript s → (a number k : ℕ) (op : Op) → number ≡ suc k → slice_get (ops_of s a) k ≡ Some op → Each (IsNamed s) (Shape (record { actor = a; proc = process_of s a; number = number }) op)
of_operation s valid a number k op is there notes has =
    let who : Who = record { actor = a; proc = process_of s a; number = number } in
    let own : HasProcess s who op = λ other unmoved. has_process s valid a (is_of_thread s valid a k op there other unmoved) in
    let at : op_at s a number ≡ Some op = ap (op_at s a) is ∙ there in
    weaker (IsOf s who (Some op)) (IsNamed s) (named s who (Some op) at) notes
    (shape s who op own (ops_at (AreDeclared s) s valid.declared a k op (actor_at s a) refl there) notes has)

-- those of all its operations from that place on
of_operations : (s : ScriptValue) → IsScript s → (a number k : ℕ) (ops : List Op) → number ≡ suc k → ((j : ℕ) → slice_get ops j ≡ slice_get (ops_of s a) (k + j)) → Each (IsNamed s) (Shapes a (process_of s a) number ops)
of_operations s valid a number k [] is from notes empty = each_none (IsNamed s) notes empty
of_operations s valid a number k (op ∷ ops) is from notes (inl empty) = each_none (IsNamed s) notes empty
of_operations s valid a number k (op ∷ ops) is from notes (inr goes) =
    let here : slice_get (ops_of s a) k ≡ Some op = (let same : k ≡ k + 0 = omega arith in ap (slice_get (ops_of s a)) same ∙ sym (from 0)) in
    let next : number + 1 ≡ suc (suc k) = omega arith in
    let later : (j : ℕ) → slice_get ops j ≡ slice_get (ops_of s a) (suc k + j) =
    λ j. (let same : k + suc j ≡ suc k + j = omega arith in from (suc j) ∙ ap (slice_get (ops_of s a)) same) in
    each_then (IsNamed s) (Shape (record { actor = a; proc = process_of s a; number = number }) op) (Shapes a (process_of s a) (number + 1) ops)
    (of_operation s valid a number k op is here) (of_operations s valid a (number + 1) (suc k) ops next later) notes goes

-- it holds of the note if that is one of the actor's own
abbrev pub IfOwn : (Holds : NoteValue → Type 0) → (a : ℕ) → NoteValue → Type 0
IfOwn Holds a note = note.actor ≡ a → is_of_operation note.what ≡ true → Holds note

among_own : (Holds : NoteValue → Type 0) (a : ℕ) (notes : List NoteValue) → AllByRecursion Holds (own_notes a notes) → AllByRecursion (IfOwn Holds a) notes
among_own Holds a [] own = tt
among_own Holds a (note ∷ notes) own =
    put_on ((note.actor == a) && is_of_operation note.what) own (λ is of. rw (eq-eqb note.actor a is, of) refl) (among_own Holds a notes)
  where
    put_on : (kept : Bool) → AllByRecursion Holds (cond kept (note ∷ own_notes a notes) (own_notes a notes)) → (note.actor ≡ a → is_of_operation note.what ≡ true → kept ≡ true) → (AllByRecursion Holds (own_notes a notes) → AllByRecursion (IfOwn Holds a) notes) → AllByRecursion (IfOwn Holds a) (note ∷ notes)
    put_on true all keeps rest = ((λ is of. all.0), rest all.1)
    put_on false all keeps rest = ((λ is of. absurd (cc (keeps is of))), rest all)

pub own_named : (s : ScriptValue) → IsScript s → (notes : List NoteValue) → Follows s notes → (a : ℕ) → AllByRecursion (IfOwn (IsNamed s) a) notes
own_named s valid notes follows a =
    among_own (IsNamed s) a notes
    (of_operations s valid a 1 0 (ops_of s a) refl (λ j. (let same : j ≡ 0 + j = omega arith in ap (slice_get (ops_of s a)) same)) (own_notes a notes) (follows a))
