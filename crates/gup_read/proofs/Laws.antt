-- What is read of a text is what the grammar has in it, and the fault that is found is its first.
use Rattle.std.proofs.Common.{◌≡◌, ◌⊎◌, ℕ, ◌+◌, ◌<◌, Bool, true, false, cond, ltb, List, [], ◌∷◌, ◌++◌, length, refl, sym, ap, subst, ◌∙◌, Result, Ok, Err, inl, inr, arith}
use Rattle.std.proofs.lemmas.Bool.{ltb-true, ltb-false, lt-ltb, le-ltb}
use Rattle.std.proofs.lemmas.Bool.Decides.{not_from_Decides}
use Rattle.gup_spec_grammar.specs.Spelling.{parts, IsPrintable}
use Rattle.gup_read_words.specs.Text.{is_printable}
use Rattle.gup_read_words.proofs.SpelledNames.{printable_found, printable_read}
use Rattle.gup_spec_grammar.specs.declared.fault.Reason.{Reason}
use Rattle.gup_spec_grammar.specs.declared.fault.Reason.TheVariants as reasons
use Rattle.gup_spec_grammar.specs.declared.fault.ScriptFault.{ScriptFault}
use Rattle.gup_script.specs.Script.{ScriptValue}
use Rattle.gup_spec_grammar.specs.Outline.{Outline}
use Rattle.gup_spec_grammar.specs.Grammar.{most_bytes, Stage, before_head, before_frames, open_at, IsRightLine, AreRightLines, Accepts}
use Rattle.gup_spec_grammar.specs.Fault.{Unless, LastFault, IsShort, FaultAt, HasFault}
use Rattle.gup_read.specs.Reading.{line_in, fault_at, end_in, behind, lines_in, reading}
use Rattle.gup_read.proofs.Spaced.{AreNamedAt, stays_named}
use Rattle.gup_read.proofs.Lines.{judged_line, some_part}

abbrev pub read : Outline → Result Outline ScriptFault
read st = Ok st

abbrev pub faulty : ScriptFault → Result Outline ScriptFault
faulty fault = Err fault

pub same_read : (a b : Outline) → read a ≡ read b → a ≡ b
same_read a b e = cc

pub same_fault : (a b : ScriptFault) → faulty a ≡ faulty b → a ≡ b
same_fault a b e = cc

pub not_faulty : (a : Outline) (b : ScriptFault) → read a ≡ faulty b → ⊥
not_faulty a b e = cc

fault_is : (fault : ScriptFault) (number : ℕ) (reason : Reason) → fault.line ≡ number → fault.reason ≡ reason → fault_at number reason ≡ fault
fault_is fault number reason n r = λ i. record { line = sym n i; reason = sym r i }

-- ---- what stands after the last line feed

end_found : (number : ℕ) (stage : Stage) (line : List ℕ) (st : Outline) → end_in number stage line ≡ Ok st → (line ≡ []) × (open_at st ≡ stage)
unfolding end_in
end_found number before_head [] st e = absurd (not_faulty st _ (sym e))
end_found number before_head (c ∷ cs) st e = absurd (not_faulty st _ (sym e))
end_found number before_frames [] st e = absurd (not_faulty st _ (sym e))
end_found number before_frames (c ∷ cs) st e = absurd (not_faulty st _ (sym e))
end_found number (open_at now) [] st e = (refl, ap (λ s. open_at s) (sym (same_read now st e)))
end_found number (open_at now) (c ∷ cs) st e = absurd (not_faulty st _ (sym e))

end_read : (number : ℕ) (stage : Stage) (st : Outline) → open_at st ≡ stage → end_in number stage [] ≡ Ok st
unfolding end_in
end_read number stage st e = subst (λ (s : Stage). end_in number s [] ≡ Ok st) e refl

last_of : (c : ℕ) (cs : List ℕ) (b : Bool) → is_printable (c ∷ cs) ≡ b → Unless reasons.Byte (IsPrintable (c ∷ cs)) (cond b reasons.End reasons.Byte) (cond b reasons.End reasons.Byte ≡ reasons.End)
last_of c cs true e = inr (printable_found (c ∷ cs) e, refl)
last_of c cs false e = inl (refl, not_from_Decides (is_printable (c ∷ cs)) (printable_found (c ∷ cs), printable_read (c ∷ cs)) e)

reason_of : (c : ℕ) (cs : List ℕ) (r : Reason) (b : Bool) → is_printable (c ∷ cs) ≡ b → Unless reasons.Byte (IsPrintable (c ∷ cs)) r (r ≡ reasons.End) → cond b reasons.End reasons.Byte ≡ r
reason_of c cs r true e (inl f) = absurd (f.1 (printable_found (c ∷ cs) e))
reason_of c cs r true e (inr g) = sym g.1
reason_of c cs r false e (inl f) = sym f.0
reason_of c cs r false e (inr g) = let is = printable_read (c ∷ cs) g.0 in absurd cc

left_over : (number : ℕ) (stage : Stage) (c : ℕ) (cs : List ℕ) (fault : ScriptFault) → fault_at number (cond (is_printable (c ∷ cs)) reasons.End reasons.Byte) ≡ fault → LastFault stage (c ∷ cs) fault.reason × (fault.line ≡ number)
left_over number stage c cs fault same =
    (subst (λ (f : ScriptFault). LastFault stage (c ∷ cs) f.reason) same (last_of c cs (is_printable (c ∷ cs)) refl), ap (λ f. f.line) (sym same))

too_short : (number : ℕ) (stage : Stage) (fault : ScriptFault) → IsShort stage → fault_at number reasons.Short ≡ fault → LastFault stage [] fault.reason × (fault.line ≡ number)
too_short number stage fault short same = ((ap (λ f. f.reason) (sym same), short), ap (λ f. f.line) (sym same))

end_fault : (number : ℕ) (stage : Stage) (line : List ℕ) (fault : ScriptFault) → end_in number stage line ≡ Err fault → LastFault stage line fault.reason × (fault.line ≡ number)
unfolding end_in
end_fault number (open_at st) [] fault e = absurd (not_faulty st fault e)
end_fault number before_head [] fault e = too_short number before_head fault tt (same_fault _ fault e)
end_fault number before_frames [] fault e = too_short number before_frames fault tt (same_fault _ fault e)
end_fault number before_head (c ∷ cs) fault e = left_over number before_head c cs fault (same_fault _ fault e)
end_fault number before_frames (c ∷ cs) fault e = left_over number before_frames c cs fault (same_fault _ fault e)
end_fault number (open_at st) (c ∷ cs) fault e = left_over number (open_at st) c cs fault (same_fault _ fault e)

end_fault_read : (number : ℕ) (stage : Stage) (line : List ℕ) (fault : ScriptFault) → LastFault stage line fault.reason → fault.line ≡ number → end_in number stage line ≡ Err fault
unfolding end_in
end_fault_read number (open_at st) [] fault h n = absurd h.1
end_fault_read number before_head [] fault h n = ap (λ f. Err f) (fault_is fault number reasons.Short n h.0)
end_fault_read number before_frames [] fault h n = ap (λ f. Err f) (fault_is fault number reasons.Short n h.0)
end_fault_read number before_head (c ∷ cs) fault h n = ap (λ f. Err f) (fault_is fault number _ n (sym (reason_of c cs fault.reason (is_printable (c ∷ cs)) refl h)))
end_fault_read number before_frames (c ∷ cs) fault h n = ap (λ f. Err f) (fault_is fault number _ n (sym (reason_of c cs fault.reason (is_printable (c ∷ cs)) refl h)))
end_fault_read number (open_at st) (c ∷ cs) fault h n = ap (λ f. Err f) (fault_is fault number _ n (sym (reason_of c cs fault.reason (is_printable (c ∷ cs)) refl h)))

-- ---- lines

behind_found : (number : ℕ) (m : Result Stage Reason) (rest : Stage → Result Outline ScriptFault) (st : Outline) → behind number m rest ≡ Ok st → (after : Stage) × (m ≡ Ok after) × (rest after ≡ Ok st)
behind_found number (Ok after) rest st e = (after, refl, e)
behind_found number (Err reason) rest st e = absurd (not_faulty st _ (sym e))

behind_fault : (number : ℕ) (m : Result Stage Reason) (rest : Stage → Result Outline ScriptFault) (fault : ScriptFault) → behind number m rest ≡ Err fault → ((m ≡ Err fault.reason) × (fault.line ≡ number)) ⊎ ((after : Stage) × (m ≡ Ok after) × (rest after ≡ Err fault))
behind_fault number (Ok after) rest fault e = inr (after, refl, e)
behind_fault number (Err reason) rest fault e = let same = same_fault (fault_at number reason) fault e in inl (ap (λ f. Err f.reason) same, ap (λ f. f.line) (sym same))

-- a line with more after it
more_lines : (number : ℕ) (stage : Stage) (line : List ℕ) (rest : List (List ℕ)) → 0 < length rest → lines_in number stage (line ∷ rest) ≡ behind number (line_in stage line) (λ after. lines_in (number + 1) after rest)
more_lines number stage line [] some = absurd (omega arith)
more_lines number stage line (next ∷ more) some = refl

some_behind : (front : List (List ℕ)) (line : List ℕ) (more : List (List ℕ)) → 0 < length (front ++ line ∷ more)
some_behind [] line more = omega arith
some_behind (x ∷ front) line more = omega arith

lines_found : (number : ℕ) (stage : Stage) (line : List ℕ) (more : List (List ℕ)) (st : Outline) → AreNamedAt stage → lines_in number stage (line ∷ more) ≡ Ok st → (front : List (List ℕ)) × ((line ∷ more) ≡ front ++ [] ∷ []) × AreRightLines stage front (open_at st)
lines_found number stage line [] st named e = let h = end_found number stage line st e in ([], ap (λ l. l ∷ []) h.0, h.1)
lines_found number stage line (next ∷ more) st named e =
    let b = behind_found number (line_in stage line) _ st e in
    let right = (judged_line stage named line).found b.0 b.1 in
    let r = lines_found (number + 1) b.0 next more st (stays_named stage b.0 line named right) b.2 in
    (line ∷ r.0, ap (λ ls. line ∷ ls) r.1, (b.0, right, r.2))

lines_read : (number : ℕ) (stage : Stage) (front : List (List ℕ)) (st : Outline) → AreNamedAt stage → AreRightLines stage front (open_at st) → lines_in number stage (front ++ [] ∷ []) ≡ Ok st
lines_read number stage [] st named h = end_read number stage st h
lines_read number stage (line ∷ front) st named h =
    let is = (judged_line stage named line).read h.0 h.1 in
    more_lines number stage line (front ++ [] ∷ []) (some_behind front [] [])
    ∙ ap (λ m. behind number m (λ after. lines_in (number + 1) after (front ++ [] ∷ []))) is
    ∙ lines_read (number + 1) h.0 front st (stays_named stage h.0 line named h.1) h.2

abbrev FaultIn : ℕ → Stage → List (List ℕ) → ScriptFault → Type 0
FaultIn number stage lines fault =
    (front : List (List ℕ)) × (line : List ℕ) × (more : List (List ℕ)) × (after : Stage)
    × (lines ≡ front ++ line ∷ more) × (fault.line ≡ length front + number)
    × AreRightLines stage front after × FaultAt after line more fault.reason

lines_fault : (number : ℕ) (stage : Stage) (line : List ℕ) (more : List (List ℕ)) (fault : ScriptFault) → AreNamedAt stage → lines_in number stage (line ∷ more) ≡ Err fault → FaultIn number stage (line ∷ more) fault
lines_fault number stage line [] fault named e =
    let h = end_fault number stage line fault e in
    let n = h.1 in
    ([], line, [], stage, refl, omega arith, refl, h.0)
lines_fault number stage line (next ∷ more) fault named e =
    let k = judged_line stage named line in
    let rest = λ (after : Stage) (right : IsRightLine stage line after). lines_fault (number + 1) after next more fault (stays_named stage after line named right) in
    elim (behind_fault number (line_in stage line) (λ after. lines_in (number + 1) after (next ∷ more)) fault e) [
      | inl f ↦ let n = f.1 in ([], line, next ∷ more, stage, refl, omega arith, refl, k.fault_found fault.reason f.0)
      | inr b ↦
          let right = k.found b.0 b.1 in
          let r = rest b.0 right b.2 in
          let n = r.5 in
          (line ∷ r.0, r.1, r.2, r.3, ap (λ ls. line ∷ ls) r.4, omega arith, (b.0, right, r.6), r.7)
    ]

first_fault : (number : ℕ) (stage : Stage) (line : List ℕ) (more : List (List ℕ)) (fault : ScriptFault) → AreNamedAt stage → FaultAt stage line more fault.reason → fault.line ≡ number → lines_in number stage (line ∷ more) ≡ Err fault
first_fault number stage line [] fault named h n = end_fault_read number stage line fault h n
first_fault number stage line (next ∷ more) fault named h n =
    let is = (judged_line stage named line).fault_read fault.reason h in
    ap (λ m. behind number m (λ after. lines_in (number + 1) after (next ∷ more))) is ∙ ap (λ f. Err f) (fault_is fault number fault.reason n refl)

lines_fault_read : (number : ℕ) (stage : Stage) (front : List (List ℕ)) (line : List ℕ) (more : List (List ℕ)) (after : Stage) (fault : ScriptFault) → AreNamedAt stage → AreRightLines stage front after → FaultAt after line more fault.reason → fault.line ≡ length front + number → lines_in number stage (front ++ line ∷ more) ≡ Err fault
lines_fault_read number stage [] line more after fault named right h n =
    first_fault number stage line more fault named (subst (λ (s : Stage). FaultAt s line more fault.reason) right h) (omega arith)
lines_fault_read number stage (x ∷ front) line more after fault named right h n =
    let is = (judged_line stage named x).read right.0 right.1 in
    more_lines number stage x (front ++ line ∷ more) (some_behind front line more)
    ∙ ap (λ m. behind number m (λ between. lines_in (number + 1) between (front ++ line ∷ more))) is
    ∙ lines_fault_read (number + 1) right.0 front line more after fault (stays_named stage right.0 x named right.1) right.2 h (omega arith)

-- ---- texts

text_found : (lines : List (List ℕ)) → 0 < length lines → (st : Outline) → lines_in 1 before_head lines ≡ Ok st → (front : List (List ℕ)) × (lines ≡ front ++ [] ∷ []) × AreRightLines before_head front (open_at st)
text_found [] some st e = absurd (omega arith)
text_found (line ∷ more) some st e = lines_found 1 before_head line more st tt e

text_fault : (lines : List (List ℕ)) → 0 < length lines → (fault : ScriptFault) → lines_in 1 before_head lines ≡ Err fault → FaultIn 1 before_head lines fault
text_fault [] some fault e = absurd (omega arith)
text_fault (line ∷ more) some fault e = lines_fault 1 before_head line more fault tt e

pub found : (text : List ℕ) (st : Outline) → reading text ≡ Ok st → Accepts text st.script
unfolding reading
found text st e = way (ltb most_bytes (length text)) refl e where
  way : (b : Bool) → ltb most_bytes (length text) ≡ b → cond b (Err (fault_at 0 reasons.Long)) (lines_in 1 before_head (parts 10 text)) ≡ Ok st → Accepts text st.script
  way true long f = absurd (not_faulty st _ (sym f))
  way false short f = let r = text_found (parts 10 text) (some_part 10 text) st f in ((r.0, st, r.1, r.2, refl), ltb-false most_bytes (length text) short)

pub again : (text : List ℕ) (script : ScriptValue) → Accepts text script → (st : Outline) × (reading text ≡ Ok st) × (script ≡ st.script)
unfolding reading
again text script h =
    let s = h.0 in
    let short : ltb most_bytes (length text) ≡ false = le-ltb most_bytes (length text) h.1 in
    (s.1, rw short (ap (lines_in 1 before_head) s.2 ∙ lines_read 1 before_head s.0 s.1 tt s.3), s.4)

pub fault_found : (text : List ℕ) (fault : ScriptFault) → reading text ≡ Err fault → HasFault text fault
unfolding reading
fault_found text fault e = way (ltb most_bytes (length text)) refl e where
  way : (b : Bool) → ltb most_bytes (length text) ≡ b → cond b (Err (fault_at 0 reasons.Long)) (lines_in 1 before_head (parts 10 text)) ≡ Err fault → HasFault text fault
  way true long f =
      let same = same_fault (fault_at 0 reasons.Long) fault f in
      inl (ap (λ x. x.line) (sym same), ap (λ x. x.reason) (sym same), ltb-true most_bytes (length text) long)
  way false short f = inr (ltb-false most_bytes (length text) short, text_fault (parts 10 text) (some_part 10 text) fault f)

pub fault_again : (text : List ℕ) (fault : ScriptFault) → HasFault text fault → reading text ≡ Err fault
unfolding reading
fault_again text fault h = elim h [
  | inl l ↦
      let long : ltb most_bytes (length text) ≡ true = lt-ltb most_bytes (length text) l.2 in
      rw long (ap (λ f. Err f) (fault_is fault 0 reasons.Long l.0 l.1))
  | inr m ↦
      let short : ltb most_bytes (length text) ≡ false = le-ltb most_bytes (length text) m.0 in
      let f = m.1 in
      rw short (ap (lines_in 1 before_head) f.4 ∙ lines_fault_read 1 before_head f.0 f.1 f.2 f.3 fault tt f.6 f.7 f.5)
]
