-- A line after those before it: it is judged as the grammar and its faults have it.
use Rattle.std.proofs.Common.{◌≡◌, ℕ, ◌<◌, Bool, true, false, not, cond, eqb, List, [], ◌∷◌, length, refl, sym, ap, ◌∙◌, Result, Ok, Err, inl, inr, Decides, arith}
use Rattle.std.proofs.lemmas.Bool.Decides.{Decides-and, Decides-eqb, not_from_Decides}
use Rattle.std.proofs.lemmas.List.Splits.{length-slice_split}
use Rattle.gup_spec_grammar.specs.Spelling.{parts, IsPrintable}
use Rattle.gup_read_words.specs.Text.{is_printable, is_passed, are_spaced, is_some_word}
use Rattle.gup_read_words.proofs.SpelledNames.{printable_found, printable_read}
use Rattle.gup_spec_grammar.specs.declared.fault.Reason.{Reason}
use Rattle.gup_spec_grammar.specs.declared.fault.Reason.TheVariants as reasons
use Rattle.gup_spec_grammar.specs.Outline.{empty_outline}
use Rattle.gup_spec_grammar.specs.Said.{Word}
use Rattle.gup_spec_grammar.specs.Grammar.{Stage, before_head, before_frames, open_at, IsSaid, SaysNothing, IsRightLine}
use Rattle.gup_spec_grammar.specs.Fault.{Unless, AreSpaced, WordsFault, LineFault}
use Rattle.gup_read.specs.Reading.{◌>>=◌, is_head, words_in, said_in, line_in}
use Rattle.gup_read.proofs.Verdicts.{Judges, same_good, same_bad, not_bad, checked, ended, adjusted, refused}
use Rattle.gup_read.proofs.Following.{judged_next}
use Rattle.gup_read.proofs.Frames.{head_decides, judged_frames}
use Rattle.gup_read.proofs.Spaced.{AreNamedAt, spaced}

-- what a chain made, in another form
mapped : {A B : Type 0} {Good : A → Type 0} {Bad : Reason → Type 0} (m : Result A Reason) (f : A → B) → Judges A m Good Bad → Judges B (m >>= λ a. Ok (f a)) (λ y. (a : A) × Good a × (y ≡ f a)) Bad
mapped (Ok a) f k = record {
  found = λ y e. (a, k.found a refl, sym (same_good (f a) y e));
  read = λ y h. ap (λ z. Ok z) (ap f (same_good a h.0 (k.read h.0 h.1)) ∙ sym h.2);
  fault_found = λ r e. absurd (not_bad (f a) r e);
  fault_read = λ r h. absurd (not_bad a r (k.fault_read r h));
}
mapped {A} {B} (Err s) f k = record {
  found = λ y e. absurd (not_bad y s (sym e));
  read = λ y h. absurd (not_bad h.0 s (sym (k.read h.0 h.1)));
  fault_found = λ r e. k.fault_found r (ap (λ t. Err t) (same_bad {A = B} s r e));
  fault_read = λ r h. ap (λ t. Err t) (same_bad {A = A} s r (k.fault_read r h));
}

abbrev pub JudgesWords : Stage → List Word → Result Stage Reason → Type 0
JudgesWords stage words m = Judges Stage m (IsSaid stage words) (WordsFault stage words)

judged_words : (stage : Stage) (word : Word) (words : List Word) → JudgesWords stage (word ∷ words) (words_in stage (word ∷ words))
unfolding words_in
judged_words before_head word words = ended reasons.Head (is_head (word ∷ words)) before_frames (head_decides (word ∷ words)) (λ _. refl) (λ x _ e. e)
judged_words before_frames word words = mapped _ (λ counts. open_at (empty_outline counts)) (judged_frames (word ∷ words))
judged_words (open_at st) word words = mapped _ (λ next. open_at next) (judged_next st word words)

-- ---- spaces

some_decides : (word : Word) → Decides (is_some_word word) (word ≡ [] → ⊥)
some_decides [] = (λ e. absurd cc, λ h. absurd (h refl))
some_decides (c ∷ cs) = (λ _ e. cc, λ _. refl)

spaced_decides : (words : List Word) → Decides (are_spaced words) (AreSpaced words)
spaced_decides [] = (λ _. tt, λ _. refl)
spaced_decides (word ∷ words) = Decides-and (is_some_word word) (are_spaced words) (some_decides word) (spaced_decides words)

judged_spaced : (stage : Stage) → AreNamedAt stage → (word : Word) (words : List Word) → Judges Stage (said_in stage (word ∷ words)) (IsSaid stage (word ∷ words)) (λ r. Unless reasons.Space (AreSpaced (word ∷ words)) r (WordsFault stage (word ∷ words) r))
unfolding said_in
judged_spaced stage named word words =
    adjusted _ (λ x h. h.1) (λ x h. (spaced stage x (word ∷ words) named h, h)) (λ r h. h) (λ r h. h)
    (checked reasons.Space (are_spaced (word ∷ words)) (words_in stage (word ∷ words)) (spaced_decides (word ∷ words)) λ _. judged_words stage word words)

abbrev JudgesSaid : Stage → List Word → Type 0
JudgesSaid stage words =
    Judges Stage (said_in stage words) (IsSaid stage words) (λ r. Unless reasons.Space (AreSpaced words) r (WordsFault stage words r))

judged_said : (stage : Stage) → AreNamedAt stage → (words : List Word) → 0 < length words → JudgesSaid stage words
judged_said stage named [] some = absurd (omega arith)
judged_said stage named (word ∷ words) some = judged_spaced stage named word words

-- a text has a part at least
pub some_part : (c : ℕ) (text : List ℕ) → 0 < length (parts c text)
some_part c text = let long = length-slice_split (λ b. eqb b c) text in omega arith

-- ---- lines

passed_decides : (line : List ℕ) → Decides (is_passed line) (SaysNothing line)
passed_decides [] = (λ _. tt, λ _. refl)
passed_decides (c ∷ cs) = Decides-eqb c 35

abbrev pub JudgesLine : Stage → List ℕ → Result Stage Reason → Type 0
JudgesLine stage line m = Judges Stage m (IsRightLine stage line) (LineFault stage line)

not_printable : (stage : Stage) (line : List ℕ) → (IsPrintable line → ⊥) → JudgesLine stage line (Err reasons.Byte)
not_printable stage line none =
    refused reasons.Byte (λ x h. none h.0) (inl (refl, none)) (λ r h. elim h [ inl f ↦ f.0 | inr g ↦ absurd (none g.0) ])

passed : (stage : Stage) (line : List ℕ) → IsPrintable line → SaysNothing line → JudgesLine stage line (Ok stage)
passed stage line printable is = record {
  found = λ x e. (printable, inl (is, sym (same_good stage x e)));
  read = λ x h. elim h.1 [ inl p ↦ ap (λ s. Ok s) (sym p.1) | inr s ↦ absurd (s.0 is) ];
  fault_found = λ r e. absurd (not_bad stage r e);
  fault_read = λ r h. elim h [ inl f ↦ absurd (f.1 printable) | inr g ↦ absurd (g.1.0 is) ];
}

said : (stage : Stage) (line : List ℕ) → IsPrintable line → (SaysNothing line → ⊥) → JudgesSaid stage (parts 32 line) → JudgesLine stage line (said_in stage (parts 32 line))
said stage line printable not_passed k = record {
  found = λ x e. (printable, inr (not_passed, k.found x e));
  read = λ x h. elim h.1 [ inl p ↦ absurd (not_passed p.0) | inr s ↦ k.read x s.1 ];
  fault_found = λ r e. inr (printable, (not_passed, k.fault_found r e));
  fault_read = λ r h. elim h [ inl f ↦ absurd (f.1 printable) | inr g ↦ k.fault_read r g.1.1 ];
}

pub judged_line : (stage : Stage) → AreNamedAt stage → (line : List ℕ) → JudgesLine stage line (line_in stage line)
unfolding line_in
judged_line stage named line = printed (is_printable line) refl where
  way : IsPrintable line → (b : Bool) → is_passed line ≡ b → JudgesLine stage line (cond b (Ok stage) (said_in stage (parts 32 line)))
  way printable true e = passed stage line printable ((passed_decides line).0 e)
  way printable false e = said stage line printable (not_from_Decides (is_passed line) (passed_decides line) e) (judged_said stage named (parts 32 line) (some_part 32 line))

  printed : (b : Bool) → is_printable line ≡ b → JudgesLine stage line (cond (not b) (Err reasons.Byte) (cond (is_passed line) (Ok stage) (said_in stage (parts 32 line))))
  printed true e = way (printable_found line e) (is_passed line) refl
  printed false e = not_printable stage line (not_from_Decides (is_printable line) (printable_found line, printable_read line) e)
