-- The words of a line after the `frames` line: they are judged as the grammar and its faults have it.
use Rattle.std.proofs.Common.{◌≡◌, Bool, true, false, List, [], ◌∷◌, refl, sym, ap, subst, ◌∙◌, inl, inr, None, Result, Err, Contains, arith}
use Rattle.std.specs.Prelude.{codes, bytes_eq}
use Rattle.std.specs.List.{list_any}
use Rattle.std.proofs.lemmas.Bool.Decides.{not_from_Decides}
use Rattle.std.proofs.lemmas.Map.Made.{Contains-tail}
use Rattle.std.proofs.lemmas.Slice.Eq.{bytes_eq-Decides}
use Rattle.gup_spec_grammar.specs.declared.fault.Reason.{Reason}
use Rattle.gup_spec_grammar.specs.declared.fault.Reason.TheVariants.{Word}
use Rattle.gup_spec_grammar.specs.Outline.{Outline}
use Rattle.gup_spec_grammar.specs.Said.{Said, said_words, declaring_words, Word as Letters}
use Rattle.gup_spec_grammar.specs.Grammar.{Declares, first_word, IsNext}
use Rattle.gup_spec_grammar.specs.Fault.{Unless, DeclaringFault, NextFault}
use Rattle.gup_read.specs.Reading.{on_in, next_in}
use Rattle.gup_read.proofs.Lists.{neither}
use Rattle.gup_read.proofs.Verdicts.{Judges, adjusted, parted, refused}
use Rattle.gup_read.proofs.Places.{JudgesSaid, said_of, none_said}
use Rattle.gup_read.proofs.Declaring.{judged_process, judged_child, judged_thread, judged_device, judged_mover, judged_seed}
use Rattle.gup_read.proofs.On.{on_found, on_read, on_fault_found, on_fault_read}
use Rattle.gup_read.proofs.Turning.{judged_turns, judged_random}

abbrev pub JudgesNext : Outline → List Letters → Result Outline Reason → Type 0
JudgesNext st words m = Judges Outline m (IsNext st words) (NextFault st words)

abbrev tail : List Letters → List Letters
tail [] = []
tail (word ∷ words) = words

judged_on : (st : Outline) (fields : List Letters) → JudgesNext st (codes "on" ∷ fields) (on_in st fields)
judged_on st fields = record {
  found = λ next e. on_found st next fields e;
  read = λ next h. elim h [
    | inl s ↦ absurd (none_said (codes "on" ∷ fields) refl s.0 s.1)
    | inr o ↦ ap (on_in st) (ap tail o.3) ∙ on_read st o.0 o.1 o.2 next o.4 o.5 o.6
  ];
  fault_found = λ r e. inl (refl, on_fault_found st fields r e);
  fault_read = λ r h. elim h [ inl o ↦ on_fault_read st fields r o.1 | inr d ↦ absurd (d.0 refl) ];
}

-- ---- the words that declare

abbrev JudgesOther : Outline → Letters → List Letters → Result Outline Reason → Type 0
JudgesOther st word fields m =
    Judges Outline m (λ next. (said : Said) × ((word ∷ fields) ≡ said_words said) × Declares st said next) (λ r. Unless Word (Contains declaring_words word) r (DeclaringFault st (word ∷ fields) r))

-- the word is this one
of_word : (st : Outline) (word this : Letters) (fields : List Letters) (m : Result Outline Reason) → bytes_eq word this ≡ true → Contains declaring_words this → JudgesSaid st this fields m → JudgesOther st word fields m
of_word st word this fields m e has k = subst (λ (w : Letters). JudgesOther st w fields m) (sym ((bytes_eq-Decides word this).0 e)) (record {
  found = k.found;
  read = k.read;
  fault_found = λ r f. inr (has, k.fault_found r f);
  fault_read = λ r h. elim h [ inl f ↦ absurd (f.1 has) | inr g ↦ k.fault_read r g.1 ];
})

pub none_among : (words : List Letters) (word : Letters) → list_any (λ this. bytes_eq word this) words ≡ false → Contains words word → ⊥
none_among [] word differ h = let lt = h.1 in absurd (omega arith)
none_among (this ∷ words) word differ h =
    let parts = neither (bytes_eq word this) (list_any (λ other. bytes_eq word other) words) differ in
    let other : this ≡ word → ⊥ = λ same. not_from_Decides (bytes_eq word this) (bytes_eq-Decides word this) parts.0 (sym same) in
    none_among words word parts.1 (Contains-tail this words word other h)

-- the word is none of them
of_none : (st : Outline) (word : Letters) (fields : List Letters) → said_of (word ∷ fields) ≡ None → (Contains declaring_words word → ⊥) → JudgesOther st word fields (Err Word)
of_none st word fields none lacks =
    refused Word (λ next h. none_said (word ∷ fields) none h.0 h.1) (inl (refl, lacks)) (λ r h. elim h [ inl f ↦ f.0 | inr g ↦ absurd (lacks g.0) ])

judged_other : (st : Outline) (word : Letters) (fields : List Letters) → bytes_eq word (codes "on") ≡ false → JudgesOther st word fields (next_in st (word ∷ fields))
unfolding next_in
judged_other st word fields not_on =
    rw not_on (
    parted (bytes_eq word (codes "process")) _ _ (λ e. of_word st word (codes "process") fields _ e (0, omega arith, refl) (judged_process st fields)) λ n0.
    parted (bytes_eq word (codes "child")) _ _ (λ e. of_word st word (codes "child") fields _ e (1, omega arith, refl) (judged_child st fields)) λ n1.
    parted (bytes_eq word (codes "thread")) _ _ (λ e. of_word st word (codes "thread") fields _ e (2, omega arith, refl) (judged_thread st fields)) λ n2.
    parted (bytes_eq word (codes "device")) _ _ (λ e. of_word st word (codes "device") fields _ e (3, omega arith, refl) (judged_device st fields)) λ n3.
    parted (bytes_eq word (codes "mover")) _ _ (λ e. of_word st word (codes "mover") fields _ e (4, omega arith, refl) (judged_mover st fields)) λ n4.
    parted (bytes_eq word (codes "seed")) _ _ (λ e. of_word st word (codes "seed") fields _ e (5, omega arith, refl) (judged_seed st fields)) λ n5.
    parted (bytes_eq word (codes "turns")) _ _ (λ e. of_word st word (codes "turns") fields _ e (6, omega arith, refl) (judged_turns st fields)) λ n6.
    parted (bytes_eq word (codes "random")) _ _ (λ e. of_word st word (codes "random") fields _ e (7, omega arith, refl) (judged_random st fields)) λ n7.
    of_none st word fields (rw (n0, n1, n2, n3, n4, n5, n6, n7) refl) λ h.
    none_among declaring_words word (rw (n0, n1, n2, n3, n4, n5, n6, n7) refl) h
    )

-- ---- both

pub judged_next : (st : Outline) (word : Letters) (fields : List Letters) → JudgesNext st (word ∷ fields) (next_in st (word ∷ fields))
unfolding next_in
judged_next st word fields = way (bytes_eq word (codes "on")) refl where
  way : (b : Bool) → bytes_eq word (codes "on") ≡ b → JudgesNext st (word ∷ fields) (next_in st (word ∷ fields))
  way true e = rw e (subst (λ (w : Letters). JudgesNext st (w ∷ fields) (on_in st fields)) (sym ((bytes_eq-Decides word (codes "on")).0 e)) (judged_on st fields))
  way false e =
      let not_on : word ≡ codes "on" → ⊥ = not_from_Decides (bytes_eq word (codes "on")) (bytes_eq-Decides word (codes "on")) e in
      adjusted _
      (λ next h. inl h)
      (λ next h. elim h [ inl s ↦ s | inr o ↦ absurd (not_on (ap first_word o.3)) ])
      (λ r h. inr (not_on, h))
      (λ r h. elim h [ inl o ↦ absurd (not_on o.0) | inr d ↦ d.1 ])
      (judged_other st word fields e)
