-- The words that the actors' operations have moved, from note to note, and what the notes tell with them.
use Rattle.std.proofs.Common.{◌≡◌, ◌≢◌, ℕ, ◌+◌, ◌<◌, ◌≤◌, eqb, true, false, List, [], ◌∷◌, ◌++◌, length, get_or, set, drop, replicate, refl, sym, ◌∙◌, ap, ⊎_elim, append_assoc, arith, Option, None, Some, get_or-set_same, get_or-set_other}
use Rattle.std.specs.List.{cons_option, flat_map}
use Rattle.std.proofs.Math.Path.{fun_ext}
use Rattle.std.proofs.lemmas.List.{at_drop_more, get_or-replicate, get_or_past, length-replicate}
use Rattle.std.proofs.lemmas.Bool.{cases_eq, cases_lt}
use Rattle.std.proofs.lemmas.Bool.Decides.{nat_tests}
use Rattle.gup_plain.specs.Note.{NoteValue}
use Rattle.gup_plain.specs.Put.{put}
use Rattle.gup_lines.specs.declared.outcome.Outcome.{Outcome}
use Rattle.gup_lines.specs.Moved.{words_of, moved_after}
use Rattle.gup_lines.specs.Text.{outcome_of, outcomes_from}

-- where nobody has moved any
pub none_moved : (n : ℕ) → words_of (replicate n []) ≡ (λ (actor : ℕ). [])
none_moved n = fun_ext (λ a. at a)
  where
    at : (a : ℕ) → words_of (replicate n []) a ≡ []
    at a =
        ⊎_elim
        (λ (low : a < n). get_or-replicate n a [] [] low)
        (λ (high : n ≤ a). get_or_past (replicate n []) a [] (omega (arith, length-replicate {A = List ℕ} n [])))
        (cases_lt a n)

-- one actor's words are changed
pub words_put : (moved : List (List ℕ)) (actor : ℕ) (words : List ℕ) → actor < length moved → words_of (set moved actor words) ≡ put actor words (words_of moved)
words_put moved actor words inside = fun_ext (λ a. at a)
  where
    at : (a : ℕ) → words_of (set moved actor words) a ≡ put actor words (words_of moved) a
    at a =
        ⊎_elim
        (λ (e : a ≡ actor). let test : eqb a actor ≡ true = grind (arith, nat_tests) in rw test (rw e (get_or-set_same moved actor words [] inside)))
        (λ (ne : a ≢ actor). let test : eqb a actor ≡ false = grind (arith, nat_tests) in rw test (get_or-set_other moved actor a words [] ne))
        (cases_eq a actor)

-- one actor's words stay as they are
pub put_kept : (actor : ℕ) (moved : ℕ → List ℕ) → moved ≡ put actor (moved actor) moved
put_kept actor moved = fun_ext (λ a. at a)
  where
    at : (a : ℕ) → moved a ≡ put actor (moved actor) moved a
    at a = grind (arith, nat_tests)

-- what the notes from the i-th on tell: what that one tells, and then the others
tell_more : (moved : ℕ → List ℕ) (notes : List NoteValue) (i : ℕ) (note : NoteValue) → i < length notes → note ≡ get_or notes i note → outcomes_from moved (drop i notes) ≡ cons_option (outcome_of note.actor note.op (moved note.actor) note.what) (outcomes_from (moved_after moved note) (drop (i + 1) notes))
tell_more moved notes i note within is =
    let tells : NoteValue → List Outcome = λ n. outcomes_from moved (n ∷ drop (i + 1) notes) in
    at_drop_more (outcomes_from moved) notes i note within ∙ ap tells (sym is)

append_told : (found rest : List Outcome) (told : Option Outcome) → (found ++ cons_option told []) ++ rest ≡ found ++ cons_option told rest
append_told found rest None = rw append_assoc refl
append_told found rest (Some o) = rw append_assoc refl

-- a note is told, and what it leaves of the words is what the others begin with
pub told_more : (moved after : ℕ → List ℕ) (found new all : List Outcome) (notes : List NoteValue) (i : ℕ) (note : NoteValue) → i < length notes → note ≡ get_or notes i note → after ≡ moved_after moved note → new ≡ found ++ cons_option (outcome_of note.actor note.op (moved note.actor) note.what) [] → found ++ outcomes_from moved (drop i notes) ≡ all → new ++ outcomes_from after (drop (i + 1) notes) ≡ all
told_more moved after found new all notes i note within is left grown so_far =
    let told : Option Outcome = outcome_of note.actor note.op (moved note.actor) note.what in
    let rest : List Outcome = outcomes_from (moved_after moved note) (drop (i + 1) notes) in
    ap (λ m. new ++ outcomes_from m (drop (i + 1) notes)) left
    ∙ ap (λ xs. xs ++ rest) grown ∙ append_told found rest told ∙ ap (λ xs. found ++ xs) (sym (tell_more moved notes i note within is)) ∙ so_far

append_lines : (line : Outcome → List ℕ) (text : List ℕ) (rest : List Outcome) (told : Option Outcome) → (text ++ flat_map line (cons_option told [])) ++ flat_map line rest ≡ text ++ flat_map line (cons_option told rest)
append_lines line text rest None = rw append_assoc refl
append_lines line text rest (Some o) = rw append_assoc (rw append_assoc refl)

-- the same of the lines
pub written_more : (line : Outcome → List ℕ) (moved after : ℕ → List ℕ) (text new all : List ℕ) (notes : List NoteValue) (i : ℕ) (note : NoteValue) → i < length notes → note ≡ get_or notes i note → after ≡ moved_after moved note → new ≡ text ++ flat_map line (cons_option (outcome_of note.actor note.op (moved note.actor) note.what) []) → text ++ flat_map line (outcomes_from moved (drop i notes)) ≡ all → new ++ flat_map line (outcomes_from after (drop (i + 1) notes)) ≡ all
written_more line moved after text new all notes i note within is left grown so_far =
    let told : Option Outcome = outcome_of note.actor note.op (moved note.actor) note.what in
    let rest : List Outcome = outcomes_from (moved_after moved note) (drop (i + 1) notes) in
    ap (λ m. new ++ flat_map line (outcomes_from m (drop (i + 1) notes))) left
    ∙ ap (λ xs. xs ++ flat_map line rest) grown ∙ append_lines line text rest told
    ∙ ap (λ xs. text ++ flat_map line xs) (sym (tell_more moved notes i note within is)) ∙ so_far

pub ruleset moves = (none_moved, words_put, put_kept)
