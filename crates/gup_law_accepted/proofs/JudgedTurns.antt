-- What the notes of one turn lead to.
use Rattle.std.proofs.Common.{◌≡◌, ℕ, List, [], ◌∷◌, refl, sym, ap, ◌∙◌}
use Rattle.gup_plain.specs.Put.{put}
use Rattle.gup_plain.specs.declared.note.What.{What}
use Rattle.gup_script.specs.Script.{ScriptValue}
use Rattle.gup_spec_journal.specs.Order.{plain_behind}
use Rattle.gup_spec_journal.specs.Place.{Place, place_after, place_behind}
use Rattle.gup_spec_journal.specs.Plain.{Judged, judged_by}
use Rattle.gup_law_turns.proofs.Puts.{put_same, put_twice, put_own}

abbrev pub judged_all : ScriptValue → Judged → (a : ℕ) → List What → Judged
judged_all s j a [] = j
judged_all s j a (what ∷ whats) = judged_all s (judged_by s j a what) a whats

pub all_plain : (s : ScriptValue) (j : Judged) (a : ℕ) (whats : List What) → (judged_all s j a whats).plain ≡ plain_behind j.plain whats
all_plain s j a [] = refl
all_plain s j a (what ∷ whats) = all_plain s (judged_by s j a what) a whats

pub all_places : (s : ScriptValue) (j : Judged) (a : ℕ) (whats : List What) → (judged_all s j a whats).places ≡ put a (place_behind (j.places a) whats) j.places
all_places s j a [] = sym (put_own a j.places)
all_places s j a (what ∷ whats) =
    let next : Place = place_after (j.places a) what in
    all_places s (judged_by s j a what) a whats
    ∙ ap (λ (q : Place). put a (place_behind q whats) (put a next j.places)) (put_same a next j.places)
    ∙ put_twice a next (place_behind next whats) j.places
