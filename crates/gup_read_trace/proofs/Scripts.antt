-- The lines of a script, none of which is the line `journal`.
use Rattle.std.proofs.Common.{◌≡◌, ℕ, List, [], ◌∷◌, length, count_by, codes, All, sym, ap, subst, ◌∙◌, inl, inr, arith}
use Rattle.std.specs.Prelude.{◌==◌}
use Rattle.std.specs.List.{AllByRecursion}
use Rattle.std.proofs.lemmas.List.{length_push}
use Rattle.std.proofs.lemmas.List.Elements.{All-from_recursion}
use Rattle.std.proofs.lemmas.List.Splits.{length-slice_split}
use Rattle.gup_script.specs.Script.{ScriptValue}
use Rattle.gup_spec_grammar.specs.Outline.{Outline}
use Rattle.gup_spec_grammar.specs.Said.{Word, Said, a_process, a_child, a_thread, a_device, a_mover, a_seed, some_turns, random_turns, said_words}
use Rattle.gup_spec_grammar.specs.Spelling.{parts}
use Rattle.gup_spec_grammar.specs.Grammar.{IsNext, IsSaid, SaysNothing, Stage, before_head, before_frames, open_at, IsRightLine, AreRightLines, Accepts}
use Rattle.gup_spec_trace.specs.Trace.{AreLines}
use Rattle.gup_read_trace.proofs.Ahead.{IsNoJournal}

abbrev IsOneWord : List Word → Type 0
IsOneWord words = words ≡ codes "journal" ∷ []

many_said : (said : Said) → IsOneWord (said_words said) → ⊥
many_said (a_process name) e = absurd cc
many_said (a_child name) e = absurd cc
many_said (a_thread name process) e = absurd cc
many_said (a_device name slots) e = absurd cc
many_said (a_mover name) e = absurd cc
many_said (a_seed number) e = absurd cc
many_said (some_turns first more) e = absurd cc
many_said (random_turns start count) e = absurd cc

many_next : (st next : Outline) (words : List Word) → IsNext st words next → IsOneWord words → ⊥
many_next st next words (inl s) e = many_said s.0 (sym s.1 ∙ e)
many_next st next words (inr o) e = let is = o.3 in absurd cc

many_words : (stage next : Stage) (words : List Word) → IsSaid stage words next → IsOneWord words → ⊥
many_words before_head next words s e = let is = s.0 in absurd cc
many_words before_frames next words s e = let is = s.1.0 in absurd cc
many_words (open_at st) next words s e = many_next st s.0 words s.1 e

right_other : (stage next : Stage) (line : List ℕ) → IsRightLine stage line next → IsNoJournal line
right_other stage next line r e = elim r.1 [
  | inl passed ↦ let first : SaysNothing (codes "journal") = subst SaysNothing e passed.0 in absurd (omega (arith, first))
  | inr said ↦ many_words stage next (parts 32 line) said.1 (ap (parts 32) e)
]

right_others : (stage next : Stage) (lines : List (List ℕ)) → AreRightLines stage lines next → AllByRecursion IsNoJournal lines
right_others stage next [] r = tt
right_others stage next (line ∷ lines) r = (right_other stage r.0 line r.1, right_others r.0 next lines r.2)

-- the lines of a script's text
pub script_lines : (text : List ℕ) (script : ScriptValue) → Accepts text script → (lines : List (List ℕ)) × AreLines text lines × All IsNoJournal lines
script_lines text script h =
    let lines = h.0.0 in
    (lines, h.0.2, All-from_recursion IsNoJournal lines (right_others before_head (open_at h.0.1) lines h.0.3))

-- there are as many as there are line feeds
pub feeds_count : (text : List ℕ) (lines : List (List ℕ)) → AreLines text lines → count_by (λ b. b == 10) text ≡ length lines
feeds_count text lines e =
    omega (arith, length-slice_split (λ b. b == 10) text, ap length e, length_push lines [])
