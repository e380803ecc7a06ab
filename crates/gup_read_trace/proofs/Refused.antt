-- The trace that the parts of a text are, or its fault.
use Rattle.std.proofs.Common.{◌≡◌, ℕ, ◌+◌, ◌≤◌, List, ◌++◌, length, count_by, refl, sym, ap, subst, ◌∙◌, inl, inr, arith}
use Rattle.std.specs.Prelude.{◌==◌}
use Rattle.std.proofs.lemmas.List.{length-append}
use Rattle.gup_plain.specs.Note.{NoteValue}
use Rattle.gup_script.specs.Script.{ScriptValue}
use Rattle.gup_spec_grammar.specs.declared.fault.Reason.TheVariants.{Short}
use Rattle.gup_spec_grammar.specs.declared.fault.ReadRefusal.{ReadRefusal}
use Rattle.gup_spec_grammar.specs.declared.fault.ReadRefusal.TheVariants.{Fault, NoMemory}
use Rattle.gup_spec_grammar.specs.Fault.{IsRefusalOf}
use Rattle.gup_spec_grammar.specs.Grammar.{Accepts}
use Rattle.gup_spec_trace.specs.Trace.{IsTrace, HasNoJournal, NoteFault, journal_line, most_bytes}
use Rattle.gup_read_trace.specs.declared.lines.Parted.{Parted}
use Rattle.gup_read_trace.specs.Parts.{IsPartedAt}
use Rattle.gup_read_trace.specs.Notes.{AreNotes, IsNoteRefusal}
use Rattle.gup_read_trace.specs.Refusal.{IsTraceRefusal}
use Rattle.gup_read_trace.proofs.Ahead.{parted_two, lines_few}
use Rattle.gup_read_trace.proofs.Scripts.{script_lines, feeds_count}

pub parted_few : (text : List ℕ) (parted : Parted) → IsPartedAt text parted → parted.lines + length parted.behind.now ≤ length text
parted_few text parted h =
    let front = parted.front.now in
    let two = parted_two text front parted.behind.now h.0 h.1 in
    let few = lines_few h.0 in
    let size = ap length two.front_is in
    let count = h.2 in
    omega (arith, ap length h.1.0, length-append (front ++ journal_line) parted.behind.now, length-append front journal_line)

pub is_trace : (text : List ℕ) (parted : Parted) (s : ScriptValue) (notes : List NoteValue) → IsPartedAt text parted → Accepts parted.front.now s → AreNotes s parted.behind.now notes → IsTrace text s notes
is_trace text parted s notes h accepted are =
    let front = parted.front.now in
    (front, h.1.0 ∙ ap (λ (xs : List ℕ). front ++ journal_line ++ xs) are.0, accepted, are.1)

pub script_refused : (text : List ℕ) (parted : Parted) (refusal : ReadRefusal) → length text ≤ most_bytes → IsPartedAt text parted → IsRefusalOf parted.front.now refusal → IsTraceRefusal text refusal
script_refused text parted (Fault fault) few h wrong =
    inr (few, inl (parted.front.now, parted.behind.now, h.0, h.1, inl wrong))
script_refused text parted NoMemory few h wrong = tt

pub notes_refused : (text : List ℕ) (parted : Parted) (s : ScriptValue) (refusal : ReadRefusal) → length text ≤ most_bytes → IsPartedAt text parted → Accepts parted.front.now s → IsNoteRefusal s parted.lines parted.behind.now refusal → IsTraceRefusal text refusal
notes_refused text parted s (Fault fault) few h accepted wrong =
    let here : NoteFault s (length h.0) parted.behind.now fault = subst (λ (n : ℕ). NoteFault s n parted.behind.now fault) (sym h.2) wrong in
    inr (few, inl (parted.front.now, parted.behind.now, h.0, h.1, inr (s, accepted, here)))
notes_refused text parted s NoMemory few h accepted wrong = tt

pub whole_refused : (text : List ℕ) (refusal : ReadRefusal) → length text ≤ most_bytes → HasNoJournal text → IsRefusalOf text refusal → IsTraceRefusal text refusal
whole_refused text (Fault fault) few none wrong = inr (few, inr (none, inl wrong))
whole_refused text NoMemory few none wrong = tt

pub ends_early : (text : List ℕ) (s : ScriptValue) (n : ℕ) → length text ≤ most_bytes → HasNoJournal text → Accepts text s → n ≡ count_by (λ b. b == 10) text → IsTraceRefusal text (Fault (record { line = n + 1; reason = Short }))
ends_early text s n few none accepted is =
    let lines = script_lines text s accepted in
    let count = feeds_count text lines.0 lines.1 in
    inr (few, inr (none, inr (s, lines.0, accepted, lines.1, omega arith, refl)))
