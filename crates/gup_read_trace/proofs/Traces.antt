-- A text is one trace at most, and a trace has no fault.
use Rattle.std.proofs.Common.{◌≡◌, ℕ, ◌≤◌, List, [], ◌∷◌, ◌++◌, length, codes, append_assoc, All, refl, sym, ap, ap₂, subst, ◌∙◌, inl, inr, arith}
use Rattle.std.specs.List.{flat_map}
use Rattle.std.proofs.lemmas.List.Elements.{All-nil, All-head, All-tail}
use Rattle.gup_plain.specs.Note.{NoteValue}
use Rattle.gup_script.specs.Script.{ScriptValue}
use Rattle.gup_spec_grammar.specs.declared.fault.ScriptFault.{ScriptFault}
use Rattle.gup_spec_grammar.specs.Fault.{HasFault}
use Rattle.gup_spec_grammar.specs.Grammar.{Accepts}
use Rattle.gup_spec_trace.specs.Note.{note_line}
use Rattle.gup_spec_trace.specs.Names.{AreNames}
use Rattle.gup_spec_trace.specs.Written.{CanBeWritten}
use Rattle.gup_spec_trace.specs.Trace.{IsLineOf, IsTrace, IsParted, IsNoNote, NoteFault, PartedFault, WholeFault, HasTraceFault, most_bytes}
use Rattle.gup_read_trace.proofs.Cuts.{same_cut, no_cut, ended}
use Rattle.gup_read_trace.proofs.Ahead.{parted_two, same_front}
use Rattle.gup_read_trace.proofs.NoteLines.{note_words, note_lacks, note_step}
use Rattle.gup_read_trace.proofs.Scripts.{script_lines}

-- what other laws say

abbrev pub OneScript : Type 0
OneScript = (text : List ℕ) (a b : ScriptValue) → Accepts text a → Accepts text b → a ≡ b

abbrev pub HaveNames : Type 0
HaveNames = (text : List ℕ) (script : ScriptValue) → Accepts text script → AreNames script

abbrev pub OneNote : Type 0
OneNote =
    (script : ScriptValue) (line : List ℕ) (m n : NoteValue) → AreNames script → IsLineOf script line m → IsLineOf script line n → m ≡ n

abbrev pub HaveNoFault : Type 0
HaveNoFault = (text : List ℕ) (script : ScriptValue) (fault : ScriptFault) → Accepts text script → HasFault text fault → ⊥

-- ---- notes

abbrev lines_of : ScriptValue → List NoteValue → List ℕ
lines_of s notes = flat_map (note_line s) notes

no_line : (s : ScriptValue) (note : NoteValue) (rest : List ℕ) → [] ≡ note_line s note ++ rest → ⊥
no_line s note rest e = no_cut [] (note_words s note) rest (All-nil (λ b. b ≡ 10 → ⊥)) (e ∙ note_step s note rest)

-- two notes at the front of one text
same_line : (s : ScriptValue) (m n : NoteValue) (x y : List ℕ) → AreNames s → CanBeWritten s m → CanBeWritten s n → note_line s m ++ x ≡ note_line s n ++ y → (note_words s m ≡ note_words s n) × (x ≡ y)
same_line s m n x y names can may e =
    same_cut (note_words s m) (note_words s n) x y (note_lacks s m names can) (note_lacks s n names may) (sym (note_step s m x) ∙ e ∙ note_step s n y)

same_notes : (s : ScriptValue) (m n : List NoteValue) → AreNames s → OneNote → All (CanBeWritten s) m → All (CanBeWritten s) n → lines_of s m ≡ lines_of s n → m ≡ n
same_notes s [] [] names one p q e = refl
same_notes s [] (note ∷ n) names one p q e = absurd (no_line s note (lines_of s n) e)
same_notes s (note ∷ m) [] names one p q e = absurd (no_line s note (lines_of s m) (sym e))
same_notes s (note ∷ m) (other ∷ n) names one p q e =
    let can = All-head (CanBeWritten s) note m p in
    let may = All-head (CanBeWritten s) other n q in
    let cut = same_line s note other (lines_of s m) (lines_of s n) names can may e in
    let first = one s (note_words s note) note other names (can, refl) (may, ap (λ (xs : List ℕ). xs ++ codes "\n") cut.0) in
    ap₂ (λ (x : NoteValue) (xs : List NoteValue). x ∷ xs) first (same_notes s m n names one (All-tail (CanBeWritten s) note m p) (All-tail (CanBeWritten s) other n q) cut.1)

-- behind right notes there is nothing that is none
all_notes : (s : ScriptValue) (good notes : List NoteValue) (rest : List ℕ) → AreNames s → All (CanBeWritten s) good → All (CanBeWritten s) notes → lines_of s notes ≡ lines_of s good ++ rest → (rest ≡ [] → ⊥) → IsNoNote s rest → ⊥
all_notes s [] [] rest names p q e some none = some (sym e)
all_notes s [] (note ∷ notes) rest names p q e some none =
    none note (lines_of s notes) (All-head (CanBeWritten s) note notes q) (sym e)
all_notes s (note ∷ good) [] rest names p q e some none =
    no_line s note (lines_of s good ++ rest) (e ∙ append_assoc (note_line s note) (lines_of s good) rest)
all_notes s (note ∷ good) (other ∷ notes) rest names p q e some none =
    let can = All-head (CanBeWritten s) note good p in
    let may = All-head (CanBeWritten s) other notes q in
    let cut = same_line s other note (lines_of s notes) (lines_of s good ++ rest) names may can (e ∙ append_assoc (note_line s note) (lines_of s good) rest) in
    all_notes s good notes rest names (All-tail (CanBeWritten s) note good p) (All-tail (CanBeWritten s) other notes q) cut.1 some none

-- ---- traces

trace_parted : (text : List ℕ) (s : ScriptValue) (notes : List NoteValue) (h : IsTrace text s notes) → (lines : List (List ℕ)) × IsParted text h.0 (lines_of s notes) lines
trace_parted text s notes h =
    let lines = script_lines h.0 s h.2 in
    (lines.0, (h.1, lines.1, lines.2))

-- the parts of a trace are its own
same_parts : (text front behind other after : List ℕ) (lines more : List (List ℕ)) → IsParted text front behind lines → IsParted text other after more → (front ≡ other) × (behind ≡ after)
same_parts text front behind other after lines more h g =
    let one = parted_two text front behind lines h in
    let two = parted_two text other after more g in
    let same = same_front lines more behind after one.before two.before (sym one.text_is ∙ two.text_is) in
    (one.front_is ∙ ap ended same.0 ∙ sym two.front_is, same.1)

pub one_trace : OneScript → HaveNames → OneNote → (text : List ℕ) (s t : ScriptValue) (m n : List NoteValue) → IsTrace text s m → IsTrace text t n → (s ≡ t) × (m ≡ n)
one_trace one names note text s t m n h g =
    let p = trace_parted text s m h in
    let q = trace_parted text t n g in
    let same = same_parts text h.0 (lines_of s m) g.0 (lines_of t n) p.0 q.0 p.1 q.1 in
    let accepted : Accepts h.0 t = subst (λ (front : List ℕ). Accepts front t) (sym same.0) g.2 in
    let scripts : s ≡ t = one h.0 s t h.2 accepted in
    let lines : lines_of s m ≡ lines_of s n = same.1 ∙ ap (λ (u : ScriptValue). lines_of u n) (sym scripts) in
    let written : All (CanBeWritten s) n = subst (λ (u : ScriptValue). All (CanBeWritten u) n) (sym scripts) g.3 in
    (scripts, same_notes s m n (names h.0 s h.2) note h.3 written lines)

module _ (one : OneScript) (names : HaveNames) (right : HaveNoFault) (text : List ℕ) (s : ScriptValue) (notes : List NoteValue) (fault : ScriptFault) (h : IsTrace text s notes) where
  no_parted_fault : PartedFault text fault → ⊥
  no_parted_fault f =
      let p = trace_parted text s notes h in
      let same = same_parts text h.0 (lines_of s notes) f.0 f.1 p.0 f.2 p.1 f.3 in
      elim f.4 [
        | inl wrong ↦ right h.0 s fault h.2 (subst (λ (front : List ℕ). HasFault front fault) (sym same.0) wrong)
        | inr behind ↦
            let accepted : Accepts h.0 behind.0 = subst (λ (front : List ℕ). Accepts front behind.0) (sym same.0) behind.1 in
            let scripts : s ≡ behind.0 = one h.0 s behind.0 h.2 accepted in
            let wrong : NoteFault s (length f.2) f.1 fault = subst (λ (u : ScriptValue). NoteFault u (length f.2) f.1 fault) (sym scripts) behind.2 in
            all_notes s wrong.0 notes wrong.1 (names h.0 s h.2) wrong.4 h.3 (same.1 ∙ wrong.2) wrong.3 wrong.5
      ]

  no_whole_fault : WholeFault text fault → ⊥
  no_whole_fault f =
      let p = trace_parted text s notes h in
      f.0 h.0 (lines_of s notes) p.0 p.1

  pub no_fault : HasTraceFault text fault → length text ≤ most_bytes → ⊥
  no_fault (inl long) few = let many = long.2 in absurd (omega arith)
  no_fault (inr (le, inl parted)) few = no_parted_fault parted
  no_fault (inr (le, inr whole)) few = no_whole_fault whole
