-- The operations of a script's actors, as the code has them.
use Rattle.std.proofs.Common.{◌≡◌, ℕ, ◌<◌, ◌≤◌, inl, inr, List, [], Option, None, Some, IfSome, slice_get, get_or, length, refl, sym, ◌∙◌, ap, arith}
use Rattle.std.proofs.lemmas.Option.{slice_get_past, slice_get-get_or, slice_get_cases}
use Rattle.gup_script.specs.declared.op.Kind.TheVariants.{Mover}
use Rattle.gup_script.specs.declared.op.Op.{Op}
use Rattle.gup_script.specs.Script.{ScriptValue, Actor, actor_at, ops_in, ops_of}
use Rattle.gup_spec_journal.specs.Place.{present_op}
use Rattle.gup_spec_check.specs.Seen.{Seen}
use Rattle.gup_spec_check.specs.Times.{Times}
use Rattle.gup_check_state.specs.declared.kept.Progress.{Progress}
use Rattle.gup_check_state.specs.Presence.{op_at}
use Rattle.gup_check_state.specs.Shows.{IsProgress, PlacesAgree}

-- an actor that is declared has these operations
pub ops_are : (script : ScriptValue) (a : ℕ) (ops : List Op) → a < length script.actors → ((actor : Actor) → actor_at script a ≡ Some actor → ops ≡ actor.ops) → ops ≡ ops_of script a
ops_are script a ops within are =
    let at : actor_at script a ≡ Some (get_or script.actors a nobody) = slice_get-get_or script.actors a nobody within in
    are (get_or script.actors a nobody) at ∙ ap ops_in (sym at)
  where
    nobody : Actor
    nobody = record { name = []; kind = Mover; ops = [] }

-- where nothing is found, the list has ended
missing : {X : Type 0} (xs : List X) (k : ℕ) → slice_get xs k ≡ None → length xs ≤ k
missing xs k is = elim (slice_get_cases xs k).1 [ inl there ↦ absurd (cc (is, there.2)) | inr past ↦ past.0 ]

-- the operation that is present by what is kept is the one that is present by places
pub op_present : (script : ScriptValue) (seen : Seen) (times : Times) (actors : List Progress) (a : ℕ) → length actors ≡ length script.actors → ((b : ℕ) → IfSome (slice_get actors b) (IsProgress seen times b)) → PlacesAgree seen → op_at script a (slice_get actors a) ≡ present_op script a (seen.judged.places a)
op_present script seen times actors a many progress agree = by_progress (slice_get actors a) refl (progress a)
  where
    by_progress : (found : Option Progress) → slice_get actors a ≡ found → IfSome found (IsProgress seen times a) → op_at script a found ≡ present_op script a (seen.judged.places a)
    by_progress None is has =
        let past : length actors ≤ a = missing actors a is in
        sym (ap (λ (actor : Option Actor). slice_get (ops_in actor) (seen.judged.places a).answered) (slice_get_past script.actors a (omega arith)))
    by_progress (Some found) is has =
        ap (slice_get (ops_of script a)) (agree a (record { answered = found.answered; course = found.course }) has.standing)
