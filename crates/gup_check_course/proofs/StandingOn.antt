-- Where an actor stands behind one more note: what it has said is read note by note.
use Rattle.std.proofs.Common.{◌≡◌, ℕ, ◌==◌, ◌&&◌, true, false, List, [], ◌∷◌, ◌++◌, Option, None, Some, refl, ◌∙◌, ap}
use Rattle.gup_plain.specs.Note.{NoteValue}
use Rattle.gup_script.specs.Script.{ScriptValue}
use Rattle.gup_spec_accepted.specs.Said.{Said, says, said_of, said_by}
use Rattle.gup_check_course.specs.Standing.{Standing, first_standing, standing_next, standing_from, standing_after}
use Rattle.gup_check_course.proofs.Speaking.{said_by-append}

pub standing_from-append : (script : ScriptValue) (a : ℕ) (standing : Option Standing) (front rest : List Said) → standing_from script a standing (front ++ rest) ≡ standing_from script a (standing_from script a standing front) rest
standing_from-append script a None [] rest = refl
standing_from-append script a None (first ∷ front) rest = nowhere rest
  where
    nowhere : (said : List Said) → standing_from script a None said ≡ standing_from script a None said
    nowhere said = refl
standing_from-append script a (Some standing) [] rest = refl
standing_from-append script a (Some standing) (first ∷ front) rest = standing_from-append script a (standing_next script a standing first) front rest

-- behind an event or an answer of its own it takes a step
pub stands_after_own : (script : ScriptValue) (a : ℕ) (notes : List NoteValue) (note : NoteValue) → ((note.actor == a) && says note.what) ≡ true → standing_after script a (said_by a (notes ++ note ∷ [])) ≡ standing_from script a (standing_after script a (said_by a notes)) (said_of note ∷ [])
stands_after_own script a notes note own =
    let one : said_by a (note ∷ []) ≡ said_of note ∷ [] = rw own refl in
    ap (standing_after script a) (said_by-append a notes (note ∷ []))
    ∙ standing_from-append script a (Some first_standing) (said_by a notes) (said_by a (note ∷ []))
    ∙ ap (standing_from script a (standing_after script a (said_by a notes))) one

-- and behind any other note it stands where it stood
pub stands_after_other : (script : ScriptValue) (a : ℕ) (notes : List NoteValue) (note : NoteValue) → ((note.actor == a) && says note.what) ≡ false → standing_after script a (said_by a (notes ++ note ∷ [])) ≡ standing_after script a (said_by a notes)
stands_after_other script a notes note other =
    let none : said_by a (note ∷ []) ≡ [] = rw other refl in
    ap (standing_after script a) (said_by-append a notes (note ∷ []))
    ∙ standing_from-append script a (Some first_standing) (said_by a notes) (said_by a (note ∷ []))
    ∙ ap (standing_from script a (standing_after script a (said_by a notes))) none
    ∙ stays (standing_after script a (said_by a notes))
  where
    stays : (standing : Option Standing) → standing_from script a standing [] ≡ standing
    stays None = refl
    stays (Some standing) = refl
