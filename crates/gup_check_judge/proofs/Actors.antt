-- What is kept of an actor shows its place and where it stands; a stranger has no operation.
use Rattle.std.proofs.Common.{◌≡◌, ℕ, ◌<◌, ◌≤◌, List, Option, Some, None, length, get_or, slice_get, ◌⊎◌, inl, inr, ap, subst, arith}
use Rattle.std.specs.Prelude.{IfSome}
use Rattle.std.proofs.lemmas.Option.{slice_get_within, slice_get_past, slice_get_cases}
use Rattle.gup_script.specs.Script.{ScriptValue, Actor, actor_at, ops_in, ops_of}
use Rattle.gup_spec_journal.specs.Place.{Place, present_op}
use Rattle.gup_spec_check.specs.Seen.{Seen}
use Rattle.gup_spec_check.specs.Times.{Times}
use Rattle.gup_check_state.specs.declared.kept.Kept.{Kept}
use Rattle.gup_check_state.specs.declared.kept.Progress.{Progress}
use Rattle.gup_check_state.specs.Shows.{Shows, IsProgress}
use Rattle.gup_check_judge.specs.Knows.{Knows}
use Rattle.gup_check_judge.specs.Present.{standing_of}

pub progress_shown : (script : ScriptValue) (kept : Kept) (seen : Seen) (times : Times) (a : ℕ) (progress : Progress) → Shows script kept seen times → slice_get kept.actors.items a ≡ Some progress → IsProgress seen times a progress
progress_shown script kept seen times a progress shows is = subst (λ (found : Option Progress). IfSome found (IsProgress seen times a)) is (shows.progress a)

-- the operation behind those that are answered is the present one
pub present_shown : (script : ScriptValue) (kept : Kept) (seen : Seen) (times : Times) (a : ℕ) (progress : Progress) → Shows script kept seen times → Knows script seen times → slice_get kept.actors.items a ≡ Some progress → slice_get (ops_of script a) progress.answered ≡ present_op script a (seen.judged.places a)
present_shown script kept seen times a progress shows knows is =
    ap (slice_get (ops_of script a)) (knows.answered a (standing_of progress) (progress_shown script kept seen times a progress shows is).standing)

-- an actor that something is kept of is declared, and one that nothing is kept of isn't
pub declared_shown : (script : ScriptValue) (kept : Kept) (seen : Seen) (times : Times) (a : ℕ) (progress : Progress) → Shows script kept seen times → slice_get kept.actors.items a ≡ Some progress → a < length script.actors
declared_shown script kept seen times a progress shows is = omega (arith, slice_get_within kept.actors.items a progress is, shows.many, kept.actors.ok.0)

pub none_past : {X : Type 0} (xs : List X) (i : ℕ) → slice_get xs i ≡ None → length xs ≤ i
none_past {X = X} xs i is = by (slice_get_cases xs i).1
  where
    by : ((x : X) × (i < length xs) × (slice_get xs i ≡ Some x) × (get_or xs i x ≡ x)) ⊎ ((length xs ≤ i) × (slice_get xs i ≡ None)) → length xs ≤ i
    by (inl found) = absurd (cc (is, found.2))
    by (inr past) = past.0

pub stranger_shown : (script : ScriptValue) (kept : Kept) (seen : Seen) (times : Times) (a : ℕ) → Shows script kept seen times → slice_get kept.actors.items a ≡ None → actor_at script a ≡ None
stranger_shown script kept seen times a shows is = slice_get_past script.actors a (omega (arith, none_past kept.actors.items a is, shows.many, kept.actors.ok.0))

-- and has no operation
pub stranger_present : (script : ScriptValue) (a : ℕ) (place : Place) → actor_at script a ≡ None → present_op script a place ≡ None
stranger_present script a place is = ap (λ (actor : Option Actor). slice_get (ops_in actor) place.answered) is
