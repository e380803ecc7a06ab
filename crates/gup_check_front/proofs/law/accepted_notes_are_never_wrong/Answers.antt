-- With the first wrong note the notes would still be a beginning of all, which are accepted.
use Rattle.std.proofs.Common.{List, [], ◌∷◌, ◌++◌, subst, sym, ◌∙◌}
use Rattle.std.proofs.lemmas.List.{append_assoc}
use Rattle.gup_plain.specs.Note.{NoteValue}
use Rattle.gup_spec_accepted.specs.Accepted.{Accepted}
use Rattle.gup_check_front.proofs.law.accepted_notes_are_never_wrong.Goals as goal

pub returns : goal.returns
returns c script notes n is (front, note, rest, split, numbered, right, wrong) =
    let P : List NoteValue → Type 0 = λ all. Accepted script all in
    let with = front ++ note ∷ [] in
    wrong (c.beginnings_are_accepted.ensures script with rest (subst P (split ∙ sym (append_assoc front (note ∷ []) rest)) is))
