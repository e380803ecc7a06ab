-- What is counted of a journal, note by note.
use Rattle.std.proofs.Common.{◌≡◌, ℕ, ◌+◌, ◌≤◌, Bool, true, false, cond, List, [], ◌∷◌, length, refl, sym, ap₂, ◌∙◌, arith}
use Rattle.std.specs.Prelude.{codes, take, count_by, sum_by}
use Rattle.std.specs.Str.{bytes_eq}
use Rattle.std.proofs.lemmas.List.Sums.{sum_by-cons}
use Rattle.std.proofs.lemmas.List.{length-take}
use Rattle.gup_plain.specs.Note.{NoteValue}
use Rattle.gup_plain.specs.Put.{put}
use Rattle.gup_plain.specs.declared.answer.Answer.{Answer}
use Rattle.gup_plain.specs.declared.answer.Answer.TheVariants as answers
use Rattle.gup_plain.specs.declared.note.What.{What}
use Rattle.gup_plain.specs.declared.note.What.TheVariants.{Silent, Idle, Wait, Event, Done}
use Rattle.gup_lines.specs.declared.outcome.Outcome.{Outcome}
use Rattle.gup_lines.specs.Text.{answer_text, outcomes_from, outcomes_of, words_after}
use Rattle.gup_summary.specs.Counts.{is_ok, answers_in, oks_in}
use Rattle.gup_summary.specs.Summary.{says_ok}

-- whatever words were moved
ok_said : (answer : Answer) (words : List ℕ) → bytes_eq (take 2 (answer_text answer words)) (codes "ok") ≡ is_ok answer
ok_said answers.Plain words = refl
ok_said (answers.Value value) words = refl
ok_said (answers.Pinned pages) words = refl
ok_said (answers.Short got wanted cause) words = refl
ok_said answers.Words words = refl
ok_said answers.Missing words = refl
ok_said answers.Forbidden words = refl
ok_said (answers.Unmovable count) words = refl
ok_said answers.NoFrame words = refl
ok_said answers.NotHeld words = refl
ok_said answers.Range words = refl
ok_said answers.Overlap words = refl
ok_said answers.Full words = refl
ok_said (answers.Busy count) words = refl
ok_said answers.Untouched words = refl
ok_said answers.Stale words = refl
ok_said answers.Unborn words = refl

abbrev pub answers_over : List NoteValue → ℕ
answers_over notes = sum_by (λ (note : NoteValue). answers_in note.what) notes

abbrev pub oks_over : List NoteValue → ℕ
oks_over notes = sum_by (λ (note : NoteValue). oks_in note.what) notes

-- one note of each kind, and then the others

one_answer : (moved : ℕ → List ℕ) (turn actor op : ℕ) (what : What) (rest : List NoteValue) → ((words : ℕ → List ℕ) → length (outcomes_from words rest) ≡ answers_over rest)
    → length (outcomes_from moved (record { turn = turn; actor = actor; op = op; what = what } ∷ rest)) ≡ answers_in what + answers_over rest
one_answer moved turn actor op (Done answer) rest same = let more = same (put actor [] moved) in omega (arith, more)
one_answer moved turn actor op Silent rest same = let more = same (put actor (moved actor) moved) in omega (arith, more)
one_answer moved turn actor op Idle rest same = let more = same (put actor (moved actor) moved) in omega (arith, more)
one_answer moved turn actor op (Wait waiting) rest same = let more = same (put actor (moved actor) moved) in omega (arith, more)
one_answer moved turn actor op (Event event) rest same = let more = same (put actor (words_after (moved actor) (Event event)) moved) in omega (arith, more)

answers_from : (moved : ℕ → List ℕ) (notes : List NoteValue) → length (outcomes_from moved notes) ≡ answers_over notes
answers_from moved [] = refl
answers_from moved (note ∷ notes) =
    one_answer moved note.turn note.actor note.op note.what notes (λ words. answers_from words notes)
    ∙ sym (sum_by-cons (λ (n : NoteValue). answers_in n.what) note notes)

pub answers_counted : (notes : List NoteValue) → length (outcomes_of notes) ≡ answers_over notes
answers_counted notes = answers_from (λ _. []) notes

abbrev pub oks_of : (words : ℕ → List ℕ) → List NoteValue → ℕ
oks_of words notes = count_by says_ok (outcomes_from words notes)

one_ok : (moved : ℕ → List ℕ) (turn actor op : ℕ) (what : What) (rest : List NoteValue) → ((words : ℕ → List ℕ) → oks_of words rest ≡ oks_over rest)
    → oks_of moved (record { turn = turn; actor = actor; op = op; what = what } ∷ rest) ≡ oks_in what + oks_over rest
one_ok moved turn actor op (Done answer) rest same =
    sum_by-cons (λ (o : Outcome). cond (says_ok o) 1 0) (record { actor = actor; op = op; answer = answer; words = moved actor }) (outcomes_from (put actor [] moved) rest)
    ∙ ap₂ (λ b k. cond {A = ℕ} b 1 0 + k) (ok_said answer (moved actor)) (same (put actor [] moved))
one_ok moved turn actor op Silent rest same = let more = same (put actor (moved actor) moved) in omega (arith, more)
one_ok moved turn actor op Idle rest same = let more = same (put actor (moved actor) moved) in omega (arith, more)
one_ok moved turn actor op (Wait waiting) rest same = let more = same (put actor (moved actor) moved) in omega (arith, more)
one_ok moved turn actor op (Event event) rest same = let more = same (put actor (words_after (moved actor) (Event event)) moved) in omega (arith, more)

oks_from : (moved : ℕ → List ℕ) (notes : List NoteValue) → oks_of moved notes ≡ oks_over notes
oks_from moved [] = refl
oks_from moved (note ∷ notes) =
    one_ok moved note.turn note.actor note.op note.what notes (λ words. oks_from words notes)
    ∙ sym (sum_by-cons (λ (n : NoteValue). oks_in n.what) note notes)

pub oks_counted : (notes : List NoteValue) → count_by says_ok (outcomes_of notes) ≡ oks_over notes
oks_counted notes = oks_from (λ _. []) notes

-- there are no more of them than notes

few_answers : (notes : List NoteValue) → answers_over notes ≤ length notes
few_answers [] = omega arith
few_answers (note ∷ notes) = omega (arith, sum_by-cons (λ (n : NoteValue). answers_in n.what) note notes, at_most_one note.what, few_answers notes)
  where
    at_most_one : (what : What) → answers_in what ≤ 1
    at_most_one (Done answer) = omega arith
    at_most_one Silent = omega arith
    at_most_one Idle = omega arith
    at_most_one (Wait waiting) = omega arith
    at_most_one (Event event) = omega arith

few_oks : (notes : List NoteValue) → oks_over notes ≤ length notes
few_oks [] = omega arith
few_oks (note ∷ notes) = omega (arith, sum_by-cons (λ (n : NoteValue). oks_in n.what) note notes, at_most_one note.what, few_oks notes)
  where
    one_or_none : (b : Bool) → cond b 1 0 ≤ 1
    one_or_none true = omega arith
    one_or_none false = omega arith

    at_most_one : (what : What) → oks_in what ≤ 1
    at_most_one (Done answer) = one_or_none (is_ok answer)
    at_most_one Silent = omega arith
    at_most_one Idle = omega arith
    at_most_one (Wait waiting) = omega arith
    at_most_one (Event event) = omega arith

-- among the first k notes there are no more than k
pub few_of_first : (k : ℕ) (notes : List NoteValue) → (answers_over (take k notes) ≤ k) × (oks_over (take k notes) ≤ k)
few_of_first k notes =
    let front : length (take k notes) ≤ k = rw (length-take k notes) (omega arith) in
    (omega (arith, few_answers (take k notes), front), omega (arith, few_oks (take k notes), front))
