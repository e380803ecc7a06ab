-- Which line of declarations or turns has these words: at most one, and none where they don't stand in their places.
use Rattle.std.proofs.Common.{◌≡◌, cond, List, [], ◌∷◌, Option, Some, None, Result, Err, refl, sym, ap, subst, ◌∙◌, inl, inr}
use Rattle.std.specs.Prelude.{codes, bytes_eq}
use Rattle.gup_spec_grammar.specs.declared.fault.Reason.{Reason}
use Rattle.gup_spec_grammar.specs.declared.fault.Reason.TheVariants.{Shape}
use Rattle.gup_spec_grammar.specs.Outline.{Outline}
use Rattle.gup_spec_grammar.specs.Said.{Word, Said, a_process, a_child, a_thread, a_device, a_mover, a_seed, some_turns, random_turns, said_words}
use Rattle.gup_spec_grammar.specs.Grammar.{Declares, SaidNumbers, SaidNames, SaidOnce, SaidLimits, Becomes}
use Rattle.gup_spec_grammar.specs.Fault.{SaidFault, DeclaringFault}
use Rattle.gup_read.proofs.Verdicts.{Judges, given, same_given, refused}

abbrev with_one : (Word → Said) → List Word → Option Said
with_one kind (field ∷ []) = Some (kind field)
with_one kind _ = None

abbrev with_two : (Word → Word → Said) → List Word → Option Said
with_two kind (field ∷ other ∷ []) = Some (kind field other)
with_two kind _ = None

abbrev with_some : List Word → Option Said
with_some [] = None
with_some (first ∷ more) = Some (some_turns first more)

-- what the words say, after this first one
abbrev pub said_behind : Word → List Word → Option Said
said_behind word fields =
    cond (bytes_eq word (codes "process")) (with_one a_process fields)
    (cond (bytes_eq word (codes "child")) (with_one a_child fields)
    (cond (bytes_eq word (codes "thread")) (with_two a_thread fields)
    (cond (bytes_eq word (codes "device")) (with_two a_device fields)
    (cond (bytes_eq word (codes "mover")) (with_one a_mover fields)
    (cond (bytes_eq word (codes "seed")) (with_one a_seed fields)
    (cond (bytes_eq word (codes "turns")) (with_some fields)
    (cond (bytes_eq word (codes "random")) (with_two random_turns fields) None)))))))

abbrev pub said_of : List Word → Option Said
said_of [] = None
said_of (word ∷ fields) = said_behind word fields

pub said_back : (said : Said) → said_of (said_words said) ≡ Some said
said_back (a_process name) = refl
said_back (a_child name) = refl
said_back (a_thread name process) = refl
said_back (a_device name slots) = refl
said_back (a_mover name) = refl
said_back (a_seed number) = refl
said_back (some_turns first more) = refl
said_back (random_turns start count) = refl

same_said : (a b : Said) → said_words a ≡ said_words b → a ≡ b
same_said a b e = same_given a b (sym (said_back a) ∙ ap said_of e ∙ said_back b)

pub none_said : (words : List Word) → said_of words ≡ None → (said : Said) → words ≡ said_words said → ⊥
none_said words none said e = let both : given said ≡ None = sym (said_back said) ∙ ap said_of (sym e) ∙ none in cc

-- the words after a first one are judged rightly
abbrev pub JudgesSaid : Outline → Word → List Word → Result Outline Reason → Type 0
JudgesSaid st word fields m =
    Judges Outline m (λ next. (said : Said) × ((word ∷ fields) ≡ said_words said) × Declares st said next) (DeclaringFault st (word ∷ fields))

-- what is judged in the order of the tests
abbrev pub JudgesTests : Outline → Said → Result Outline Reason → Type 0
JudgesTests st said m =
    Judges Outline m (λ next. SaidNumbers said × (SaidNames st said × (SaidOnce st said × (SaidLimits st said × Becomes st said next)))) (SaidFault st said)

pub placed : (st : Outline) (word : Word) (fields : List Word) (said : Said) (m : Result Outline Reason) → (word ∷ fields) ≡ said_words said → JudgesTests st said m → JudgesSaid st word fields m
placed st word fields said m spelled k = record {
  found = λ next e. let h = k.found next e in (said, spelled, (h.0, h.1.0, h.1.1.0, h.1.1.1.0, h.1.1.1.1));
  read = λ next h.
      let same : h.0 ≡ said = same_said h.0 said (sym h.1 ∙ spelled) in
      let d : Declares st said next = subst (λ (s : Said). Declares st s next) same h.2 in
      k.read next (d.0, (d.1, (d.2, (d.3, d.4))));
  fault_found = λ r e. inr (said, spelled, k.fault_found r e);
  fault_read = λ r h. elim h [
    | inl f ↦ absurd (f.1 said spelled)
    | inr g ↦ k.fault_read r (subst (λ (s : Said). SaidFault st s r) (same_said g.0 said (sym g.1 ∙ spelled)) g.2)
  ];
}

pub misplaced : (st : Outline) (word : Word) (fields : List Word) → said_of (word ∷ fields) ≡ None → JudgesSaid st word fields (Err Shape)
misplaced st word fields none =
    refused Shape
    (λ next h. none_said (word ∷ fields) none h.0 h.1)
    (inl (refl, none_said (word ∷ fields) none))
    (λ r h. elim h [ inl f ↦ f.0 | inr g ↦ absurd (none_said (word ∷ fields) none g.0 g.1) ])
