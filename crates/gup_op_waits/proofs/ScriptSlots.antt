-- How many slots the store of a device has.
use Rattle.std.proofs.Common.{◌≡◌, ℕ, ◌<◌, ◌≤◌, Some, length, sym, ap, ◌∙◌, subst, inl, inr, arith, Option, IfSome}
use Rattle.std.proofs.lemmas.Option.{slice_get_cases}
use Rattle.gup_script.specs.declared.op.Kind.{Kind}
use Rattle.gup_script.specs.declared.op.Kind.TheVariants.{Device}
use Rattle.gup_base.specs.Counts.{most_slots}
use Rattle.gup_script.specs.Script.{ScriptValue, Actor, actor_at}
use Rattle.gup_script.specs.Valid.{IsScript, KindFits}
use Rattle.gup_spec_journal.specs.Place.{doer, slots_of_kind, slots_in}
use Rattle.gup_law_turns.proofs.ScriptLemmas.{all_at}

-- what is said of each declared actor holds of what the script has: how many slots its store has
pub slots_found : (script : ScriptValue) (a : ℕ) (kind : Kind) → a < length script.actors → ((x : Actor) → actor_at script a ≡ Some x → kind ≡ x.kind) → slots_of_kind kind ≡ (doer script a).slots
slots_found script a kind h each =
    elim (slice_get_cases script.actors a).1 [
      | inl there ↦ ap slots_of_kind (each there.0 there.2) ∙ ap slots_in (sym there.2)
      | inr past ↦ absurd (omega (arith, past.0))
    ]

-- a device's store has slots, and not too many
pub slots_fit : (script : ScriptValue) (a slots : ℕ) (kind : Kind) → IsScript script → a < length script.actors → ((x : Actor) → actor_at script a ≡ Some x → kind ≡ x.kind) → kind ≡ Device slots → (1 ≤ slots) × (slots ≤ most_slots)
slots_fit script a slots kind valid h each is =
    elim (slice_get_cases script.actors a).1 [
      | inl there ↦
          subst (λ (k : Kind). KindFits script k) (sym (each there.0 there.2) ∙ is) (all_at (λ (x : Actor). KindFits script x.kind) script.actors a there.0 valid.kinds there.2)
      | inr past ↦ absurd (omega (arith, past.0))
    ]

-- ---- the process of an operation

pub some_is : (o : Option ℕ) (q p : ℕ) → o ≡ Some q → IfSome o (λ x. x ≡ p) → q ≡ p
some_is o q p is h = subst (λ (x : Option ℕ). IfSome x (λ y. y ≡ p)) is h
