-- Each actor stands by what it has said, and all stand somewhere exactly where what each has said is a beginning.
use Rattle.std.proofs.Common.{◌≡◌, ℕ, ◌==◌, ◌&&◌, ◌↔◌, cond, Bool, true, false, List, [], ◌∷◌, ◌++◌, map, filter, Option, Some, None, IsSome, refl, sym, ◌∙◌, subst, arith}
use Rattle.std.proofs.lemmas.Bool.{eq-eqb, eqb-true}
use Rattle.std.proofs.lemmas.Bool.Decides.{nat_tests}
use Rattle.gup_plain.specs.Note.{NoteValue}
use Rattle.gup_plain.specs.Put.{put}
use Rattle.gup_script.specs.Script.{ScriptValue}
use Rattle.gup_spec_accepted.specs.Said.{Said, says, said_of, said_by, BeginsOperations, BeginsFollowing}
use Rattle.gup_check_course.specs.Standing.{Standing, standing_from, standing_after}
use Rattle.gup_check_course.proofs.StandingOn.{standing_from-append}
use Rattle.gup_spec_check.specs.Seen.{Seen, seen_first, seen_after, seen_from, seen_of, stood, stood_by}
use Rattle.gup_law_check.proofs.OneMore.{seen_from-append}

-- where an actor stands behind a note of its own, whether that says something or not
stood_says : (script : ScriptValue) (note : NoteValue) (notes : List NoteValue) (standing : Option Standing) (speaks : Bool) → standing_from script note.actor (stood_by script speaks note standing) (map said_of notes) ≡ standing_from script note.actor standing (map said_of (cond speaks (note ∷ notes) notes))
stood_says script note notes standing true = sym (standing_from-append script note.actor standing (said_of note ∷ []) (map said_of notes))
stood_says script note notes standing false = refl

-- what one note more in front leads any actor to
abbrev StandsBehind : ScriptValue → (ℕ → Option Standing) → NoteValue → List NoteValue → (a : ℕ) → Type 0
StandsBehind script standings note notes a =
    standing_from script a (put note.actor (stood script note (standings note.actor)) standings a) (said_by a notes)
    ≡ standing_from script a (standings a) (said_by a (note ∷ notes))

stands_behind_own : (script : ScriptValue) (standings : ℕ → Option Standing) (note : NoteValue) (notes : List NoteValue) → StandsBehind script standings note notes note.actor
stands_behind_own script standings note notes =
    let mine : List NoteValue = filter (λ (n : NoteValue). (n.actor == note.actor) && says n.what) notes in
    rw (eq-eqb note.actor note.actor refl) (stood_says script note mine (standings note.actor) (says note.what))

stands_behind : (script : ScriptValue) (standings : ℕ → Option Standing) (note : NoteValue) (notes : List NoteValue) (a : ℕ) (own : Bool) → (a == note.actor) ≡ own → StandsBehind script standings note notes a
stands_behind script standings note notes a true is =
    subst (StandsBehind script standings note notes) (sym (eqb-true a note.actor is)) (stands_behind_own script standings note notes)
stands_behind script standings note notes a false is =
    let other : (note.actor == a) ≡ false = grind (arith, nat_tests) in
    rw (is, other) refl

stands_from : (script : ScriptValue) (a : ℕ) (seen : Seen) (notes : List NoteValue) → (seen_from script seen notes).standings a ≡ standing_from script a (seen.standings a) (said_by a notes)
stands_from script a seen [] = here (seen.standings a)
  where
    here : (standing : Option Standing) → standing ≡ standing_from script a standing []
    here None = refl
    here (Some standing) = refl
stands_from script a seen (note ∷ notes) =
    stands_from script a (seen_after script seen note) notes ∙ stands_behind script seen.standings note notes a (a == note.actor) refl

-- each actor stands somewhere
abbrev AllStand : Seen → Type 0
AllStand seen = (a : ℕ) → IsSome (seen.standings a)

-- where actors stand tells what is a beginning
abbrev pub TellsBeginnings : ScriptValue → Type 0
TellsBeginnings script = (a : ℕ) (said : List Said) → IsSome (standing_after script a said) ↔ BeginsOperations script a said

begins_stand : (script : ScriptValue) → TellsBeginnings script → (notes : List NoteValue) → BeginsFollowing script notes ↔ AllStand (seen_of script notes)
begins_stand script tells notes = (
  λ begins a. subst IsSome (sym (stands_from script a (seen_first script) notes)) ((tells a (said_by a notes)).1 (begins a)),
  λ all a. (tells a (said_by a notes)).0 (subst IsSome (stands_from script a (seen_first script) notes) (all a)),
)

-- whoever stands somewhere behind a note, stood somewhere before it
stood_before : (script : ScriptValue) (note : NoteValue) (standing : Option Standing) (speaks : Bool) → IsSome (stood_by script speaks note standing) → IsSome standing
stood_before script note None true is = is
stood_before script note (Some standing) true is = refl
stood_before script note standing false is = is

-- If x is a value only where one stood at k before, all are values with x at k exactly where all were before, and x is.
put_some : {X : Type 0} (k : ℕ) (x : Option X) (f : ℕ → Option X) → (IsSome x → IsSome (f k)) → ((a : ℕ) → IsSome (put k x f a)) ↔ (((a : ℕ) → IsSome (f a)) × IsSome x)
put_some {X = X} k x f before = (λ all. (λ a. others a (all a) (put_here all), put_here all), λ is a. grind (arith, nat_tests, is.0 a, is.1))
  where
    put_here : ((a : ℕ) → IsSome (put k x f a)) → IsSome x
    put_here all = rw (eq-eqb k k refl) at (all k)

    others : (a : ℕ) → IsSome (put k x f a) → IsSome x → IsSome (f a)
    others a is here = grind (arith, nat_tests, before here)

stand_behind : (script : ScriptValue) (seen : Seen) (note : NoteValue) → AllStand (seen_after script seen note) ↔ (AllStand seen × IsSome (stood script note (seen.standings note.actor)))
stand_behind script seen note =
    put_some note.actor (stood script note (seen.standings note.actor)) seen.standings (stood_before script note (seen.standings note.actor) (says note.what))

begins_behind : (script : ScriptValue) → TellsBeginnings script → (notes : List NoteValue) (note : NoteValue) → BeginsFollowing script (notes ++ note ∷ []) ↔ AllStand (seen_after script (seen_of script notes) note)
begins_behind script tells notes note =
    subst (λ (seen : Seen). BeginsFollowing script (notes ++ note ∷ []) ↔ AllStand seen) (seen_from-append script (seen_first script) notes note)
    (begins_stand script tells (notes ++ note ∷ []))

pub begins_with_more : (script : ScriptValue) → TellsBeginnings script → (notes : List NoteValue) (note : NoteValue) → BeginsFollowing script (notes ++ note ∷ []) ↔ (BeginsFollowing script notes × IsSome (stood script note ((seen_of script notes).standings note.actor)))
begins_with_more script tells notes note =
    let before = begins_stand script tells notes in
    let one = stand_behind script (seen_of script notes) note in
    let behind = begins_behind script tells notes note in (
      λ begins. let stand = one.0 (behind.0 begins) in (before.1 stand.0, stand.1),
      λ is. behind.1 (one.1 (before.0 is.0, is.1)),
    )
