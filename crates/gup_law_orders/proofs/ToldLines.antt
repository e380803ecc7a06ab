-- What notes tell of an operation, and the lines that are of it.
use Rattle.std.proofs.Common.{◌≡◌, ℕ, ◌+◌, ◌<◌, ◌==◌, ◌&&◌, Bool, true, false, if◌then◌else◌, List, [], ◌∷◌, ◌++◌, length, filter, slice_get, ◌≤◌, suc, Option, Some, None, option_map, refl, sym, ap, ◌∙◌, subst, eqb-true, arith}
use Rattle.std.specs.List.{cons_option}
use Rattle.std.proofs.lemmas.Bool.Decides.{nat_tests}
use Rattle.gup_plain.specs.Note.{NoteValue}
use Rattle.gup_plain.specs.Put.{put}
use Rattle.gup_plain.specs.declared.answer.Answer.{Answer}
use Rattle.gup_plain.specs.declared.note.What.{What}
use Rattle.gup_plain.specs.declared.note.What.TheVariants.{Silent, Idle, Wait, Event, Done}
use Rattle.gup_spec_journal.specs.Place.{Place, place_after}
use Rattle.gup_lines.specs.Moved.{moved_after}
use Rattle.gup_lines.specs.Text.{word_in, moved_by, words_after, outcome_of, outcomes_from, outcomes_of}
use Rattle.gup_lines.specs.declared.outcome.Outcome.{Outcome as Line}
use Rattle.gup_spec_orders.specs.Orders.{is_of, told_of, told_in, tells_of}
use Rattle.gup_spec_orders.specs.Printed.{is_line_of, lines_in, lines_from, lines_told_from}
use Rattle.gup_spec_orders.specs.declared.told.Named.{Named}
use Rattle.gup_spec_orders.specs.declared.told.Tell.{Tell}
use Rattle.gup_spec_orders.specs.declared.told.Told.{Told}
use Rattle.gup_spec_orders.specs.declared.told.Told.TheVariants.{Word}

-- where each actor stands behind a note
abbrev pub places_after : (ℕ → Place) → NoteValue → ℕ → Place
places_after places note = put note.actor (place_after (places note.actor) note.what) places

-- Each note has the number of the operation behind those that its actor has answered before it.
abbrev pub AreNumbered : (places : ℕ → Place) → List NoteValue → Type 0
AreNumbered places [] = Unit {0}
AreNumbered places (note ∷ notes) =
    (note.op ≡ (places note.actor).answered + 1) × AreNumbered (places_after places note) notes

-- the words that the operation has moved: none where its actor isn't at it
abbrev pub words_at : Named → (places : ℕ → Place) → (moved : ℕ → List ℕ) → List ℕ
words_at name places moved = if (places name.actor).answered + 1 == name.op then moved name.actor else []

-- what the notes tell of the operation are the lines of theirs that are of it
abbrev pub Agrees : Named → (places : ℕ → Place) → (moved : ℕ → List ℕ) → List NoteValue → Type 0
Agrees name places moved notes =
    lines_from name (words_at name places moved) (told_in name notes) ≡ filter (is_line_of name) (outcomes_from moved notes)

-- a note of another operation

other_told : (name : Named) (note : NoteValue) (notes : List NoteValue) → is_of name note ≡ false → told_in name (note ∷ notes) ≡ told_in name notes
other_told name note notes is = rw is refl

other_lined : (name : Named) (actor op : ℕ) (words : List ℕ) (what : What) (lines : List Line) → ((actor == name.actor) && (op == name.op)) ≡ false → filter (is_line_of name) (cons_option (outcome_of actor op words what) lines) ≡ filter (is_line_of name) lines
other_lined name actor op words (Done answer) lines is = rw is refl
other_lined name actor op words what lines is = refl

-- leaves the words of this one: it is of another actor, or this actor isn't at this operation before it, and has no words behind it if it
-- is then
words_left : (name : Named) (places : ℕ → Place) (moved : ℕ → List ℕ) (actor op : ℕ) (what : What) (own right : Bool) → (actor == name.actor) ≡ own → (op == name.op) ≡ right → (own && right) ≡ false → op ≡ (places actor).answered + 1 → words_at name (put actor (place_after (places actor) what) places) (put actor (words_after (moved actor) what) moved) ≡ words_at name places moved
words_left name places moved actor op what false right of number none numbered = grind (arith, nat_tests)
words_left name places moved actor op (Done answer) true false of number none numbered = grind (arith, nat_tests)
words_left name places moved actor op what true false of number none numbered = grind (arith, nat_tests)
words_left name places moved actor op what true true of number none numbered = absurd (cc none)

other_note : (name : Named) (places : ℕ → Place) (moved : ℕ → List ℕ) (note : NoteValue) (notes : List NoteValue) → is_of name note ≡ false → words_at name (places_after places note) (moved_after moved note) ≡ words_at name places moved → Agrees name (places_after places note) (moved_after moved note) notes → Agrees name places moved (note ∷ notes)
other_note name places moved note notes other left later =
    ap (lines_from name (words_at name places moved)) (other_told name note notes other)
    ∙ ap (λ (words : List ℕ). lines_from name words (told_in name notes)) (sym left)
    ∙ later
    ∙ sym (other_lined name note.actor note.op (moved note.actor) note.what (outcomes_from (moved_after moved note) notes) other)

-- a note of this one

-- its actor's words are those of the operation as long as it has not answered
own_words : (name : Named) (places : ℕ → Place) (moved : ℕ → List ℕ) → (places name.actor).answered + 1 ≡ name.op → words_at name places moved ≡ moved name.actor
own_words name places moved present = grind (arith, nat_tests)

abbrev as_note : (turn actor op : ℕ) → What → NoteValue
as_note turn actor op what = record { turn = turn; actor = actor; op = op; what = what }

-- and they are after a note that doesn't answer
still : (name : Named) (places : ℕ → Place) (moved : ℕ → List ℕ) (turn : ℕ) (what : What) → (places name.actor).answered + 1 ≡ name.op → (place_after (places name.actor) what).answered ≡ (places name.actor).answered → words_at name (places_after places (as_note turn name.actor name.op what)) (moved_after moved (as_note turn name.actor name.op what)) ≡ words_after (moved name.actor) what
still name places moved turn what present same = grind (arith, nat_tests)

-- there are none after an answer
ended : (name : Named) (places : ℕ → Place) (moved : ℕ → List ℕ) (turn : ℕ) (answer : Answer) → words_at name (places_after places (as_note turn name.actor name.op (Done answer))) (moved_after moved (as_note turn name.actor name.op (Done answer))) ≡ []
ended name places moved turn answer = grind (arith, nat_tests)

is_own : (name : Named) → ((name.actor == name.actor) && (name.op == name.op)) ≡ true
is_own name = grind (arith, nat_tests)

own_told : (name : Named) (turn : ℕ) (what : What) (notes : List NoteValue) → told_in name (as_note turn name.actor name.op what ∷ notes) ≡ cons_option (told_of what) (told_in name notes)
own_told name turn what notes = rw (is_own name) refl

own_line : (name : Named) (answer : Answer) (words : List ℕ) (lines : List Line) → filter (is_line_of name) (cons_option (outcome_of name.actor name.op words (Done answer)) lines) ≡ cons_option (outcome_of name.actor name.op words (Done answer)) (filter (is_line_of name) lines)
own_line name answer words lines = rw (is_own name) refl

-- a word goes to the others
told_word : (name : Named) (words : List ℕ) (word : Option ℕ) (tolds : List Told) → lines_from name words (cons_option (option_map (λ (w : ℕ). Word w) word) tolds) ≡ lines_from name (moved_by words word) tolds
told_word name words None tolds = refl
told_word name words (Some word) tolds = refl

own_note : (name : Named) (places : ℕ → Place) (moved : ℕ → List ℕ) (turn : ℕ) (what : What) (notes : List NoteValue) → (places name.actor).answered + 1 ≡ name.op → Agrees name (places_after places (as_note turn name.actor name.op what)) (moved_after moved (as_note turn name.actor name.op what)) notes → Agrees name places moved (as_note turn name.actor name.op what ∷ notes)
own_note name places moved turn what notes present later =
    ap (λ (words : List ℕ). lines_from name words (told_in name (as_note turn name.actor name.op what ∷ notes))) (own_words name places moved present)
    ∙ ap (lines_from name (moved name.actor)) (own_told name turn what notes)
    ∙ behind what later
  where
    told : List Told
    told = told_in name notes

    from : What → List ℕ
    from w = words_at name (places_after places (as_note turn name.actor name.op w)) (moved_after moved (as_note turn name.actor name.op w))

    lines : What → List Line
    lines w = outcomes_from (moved_after moved (as_note turn name.actor name.op w)) notes

    goes_on : (w : What) → from w ≡ words_after (moved name.actor) w → lines_from name (from w) told ≡ filter (is_line_of name) (lines w) → lines_from name (words_after (moved name.actor) w) told ≡ filter (is_line_of name) (lines w)
    goes_on w same rest = ap (λ (words : List ℕ). lines_from name words told) (sym same) ∙ rest

    behind : (w : What) → lines_from name (from w) told ≡ filter (is_line_of name) (lines w) → lines_from name (moved name.actor) (cons_option (told_of w) told) ≡ filter (is_line_of name) (outcomes_from moved (as_note turn name.actor name.op w ∷ notes))
    behind Silent rest = goes_on Silent (still name places moved turn Silent present refl) rest
    behind Idle rest = goes_on Idle (still name places moved turn Idle present refl) rest
    behind (Wait waiting) rest = goes_on (Wait waiting) (still name places moved turn (Wait waiting) present refl) rest
    behind (Event event) rest =
        told_word name (moved name.actor) (word_in event) told ∙ goes_on (Event event) (still name places moved turn (Event event) present refl) rest
    behind (Done answer) rest =
        ap (cons_option (outcome_of name.actor name.op (moved name.actor) (Done answer))) (goes_on (Done answer) (ended name places moved turn answer) rest)
        ∙ sym (own_line name answer (moved name.actor) (lines (Done answer)))

-- Where notes are numbered so, what they tell of an operation are its lines.
pub told_lines : (name : Named) (notes : List NoteValue) (places : ℕ → Place) (moved : ℕ → List ℕ) → AreNumbered places notes → Agrees name places moved notes
told_lines name [] places moved numbered = refl
told_lines name (note ∷ notes) places moved numbered =
    go (note.actor == name.actor) (note.op == name.op) refl refl (told_lines name notes (places_after places note) (moved_after moved note) numbered.1)
  where
    Step : (actor op : ℕ) → Type 0
    Step actor op =
        (places actor).answered + 1 ≡ op
        → Agrees name (places_after places (as_note note.turn actor op note.what)) (moved_after moved (as_note note.turn actor op note.what)) notes
        → Agrees name places moved (as_note note.turn actor op note.what ∷ notes)

    go : (own right : Bool) → (note.actor == name.actor) ≡ own → (note.op == name.op) ≡ right → Agrees name (places_after places note) (moved_after moved note) notes → Agrees name places moved (note ∷ notes)
    go true true own right later =
        let actor : name.actor ≡ note.actor = sym (eqb-true note.actor name.actor own) in
        let op : name.op ≡ note.op = sym (eqb-true note.op name.op right) in
        let step : Step name.actor name.op = λ present. own_note name places moved note.turn note.what notes present in
        let here : Step note.actor note.op = subst (λ (o : ℕ). Step note.actor o) op (subst (λ (a : ℕ). Step a name.op) actor step) in
        here (sym numbered.0) later
    go own right of number later =
        let none : is_of name note ≡ false = grind (arith, nat_tests) in
        other_note name places moved note notes none (words_left name places moved note.actor note.op note.what own right of number refl numbered.0) later

-- from the start, where nobody has moved a word
either : (test : Bool) (words : List ℕ) → (if test then words else words) ≡ words
either true words = refl
either false words = refl

pub told_first : (name : Named) (notes : List NoteValue) (places : ℕ → Place) → AreNumbered places notes → lines_from name [] (told_in name notes) ≡ filter (is_line_of name) (outcomes_of notes)
told_first name notes places numbered =
    ap (λ (words : List ℕ). lines_from name words (told_in name notes)) (sym (either ((places name.actor).answered + 1 == name.op) []))
    ∙ told_lines name notes places (λ (actor : ℕ). []) numbered

-- so what is told of the operations that are named are their lines
pub told_named : (named : List Named) (k : ℕ) (tells : List Tell) (notes : List NoteValue) → ((j : ℕ) (name : Named) → slice_get named j ≡ Some name → tells_of tells (k + j) ≡ told_in name notes) → ((name : Named) → lines_from name [] (told_in name notes) ≡ filter (is_line_of name) (outcomes_of notes)) → lines_told_from k named tells ≡ lines_in named notes
told_named [] k tells notes told lines = refl
told_named (name ∷ named) k tells notes told lines =
    let first : k ≡ k + 0 = omega arith in
    let here : tells_of tells k ≡ told_in name notes = ap (tells_of tells) first ∙ told 0 name refl in
    let next : (j : ℕ) → k + 1 + j ≡ k + suc j = λ j. omega arith in
    let later = told_named named (k + 1) tells notes (λ j other is. ap (tells_of tells) (next j) ∙ told (suc j) other is) lines in
    ap (λ (tolds : List Told). lines_from name [] tolds ++ lines_told_from (k + 1) named tells) here
    ∙ ap (λ (xs : List Line). xs ++ lines_told_from (k + 1) named tells) (lines name)
    ∙ ap (λ (xs : List Line). filter (is_line_of name) (outcomes_of notes) ++ xs) later

-- ---- one line of an operation

-- a note leaves an actor no less answered than it was
no_fewer : (name : Named) (places : ℕ → Place) (actor : ℕ) (what : What) → (places name.actor).answered ≤ (put actor (place_after (places actor) what) places name.actor).answered
no_fewer name places actor (Done answer) = grind (arith, nat_tests)
no_fewer name places actor what = grind (arith, nat_tests)

-- behind its answer there is none
none_behind : (name : Named) (notes : List NoteValue) (places : ℕ → Place) (moved : ℕ → List ℕ) → AreNumbered places notes → name.op < (places name.actor).answered + 1 → filter (is_line_of name) (outcomes_from moved notes) ≡ []
none_behind name [] places moved numbered over = refl
none_behind name (note ∷ notes) places moved numbered over =
    let more = no_fewer name places note.actor note.what in
    let later = none_behind name notes (places_after places note) (moved_after moved note) numbered.1 (omega (arith, more, over)) in
    let number : note.op ≡ (places note.actor).answered + 1 = numbered.0 in
    let other : is_of name note ≡ false = grind (arith, nat_tests) in
    other_lined name note.actor note.op (moved note.actor) note.what (outcomes_from (moved_after moved note) notes) other ∙ later

-- Where notes are numbered so, each operation has one line at most.
pub one_line : (name : Named) (notes : List NoteValue) (places : ℕ → Place) (moved : ℕ → List ℕ) → AreNumbered places notes → length (filter (is_line_of name) (outcomes_from moved notes)) ≤ 1
one_line name [] places moved numbered = omega arith
one_line name (note ∷ notes) places moved numbered =
    go note.what (is_of name note) refl refl (one_line name notes (places_after places note) (moved_after moved note) numbered.1)
  where
    rest : List Line
    rest = outcomes_from (moved_after moved note) notes

    go : (what : What) (own : Bool) → note.what ≡ what → is_of name note ≡ own → length (filter (is_line_of name) rest) ≤ 1 → length (filter (is_line_of name) (cons_option (outcome_of note.actor note.op (moved note.actor) what) rest)) ≤ 1
    go (Done answer) true is own later =
        let number : note.op ≡ (places note.actor).answered + 1 = numbered.0 in
        let behind : (places_after places note name.actor).answered ≡ (places name.actor).answered + 1 = grind (arith, nat_tests) in
        let over : name.op < (places_after places note name.actor).answered + 1 = grind (arith, nat_tests) in
        let none = none_behind name notes (places_after places note) (moved_after moved note) numbered.1 over in
        rw own (let few : length (filter (is_line_of name) rest) ≡ 0 = ap length none in omega (arith, few))
    go (Done answer) false is own later = rw own later
    go what own is same later = later
