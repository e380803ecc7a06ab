-- Which pin an operation is about, and what its holder finds of it.
use Rattle.std.proofs.Common.{◌≡◌, ℕ, ◌+◌, ◌<◌, Bool, true, false, List, length, Option, Some, None, ◌⊎◌, inl, inr, refl, ap, ◌∙◌, subst, eqb-true, arith}
use Rattle.gup_plain.specs.Denial.{is_held_by, transfer_denial_by}
use Rattle.gup_plain.specs.Event.{IsHeldBy}
use Rattle.gup_plain.specs.State.{Handle, held, objects_of}
use Rattle.gup_script.specs.Script.{ScriptValue, actor_at}
use Rattle.gup_script.specs.Valid.{IsScript, AreDeclared, MakesAt}
use Rattle.gup_script.specs.declared.op.Op.{Op}
use Rattle.gup_script.specs.declared.op.Op.TheVariants.{Pin, Unpin, Give, Take, Get, Transfer}
use Rattle.gup_spec_journal.specs.Place.{present_op}
use Rattle.gup_law_turns.specs.Standing.{StandsHandle}
use Rattle.gup_law_turns.proofs.ScriptLemmas.{ops_at}
use Rattle.gup_law_turns.proofs.CalmStates.{Strand, of_pin, of_handle, of_get}
use Rattle.gup_law_turns.proofs.KeptParts.{same_or_apart}
use Rattle.gup_law_turns.proofs.PinChanges.{same_pin, same_handle}
use Rattle.gup_law_turns.proofs.ScriptPlaces.{fresh_place}
use Rattle.gup_law_turns.proofs.TurnShapes.{strand_of}

-- an operation that makes a pin, or a reference, is the actor's present one

pub pins_here : (script : ScriptValue) (a k : ℕ) (op : Option Op) → present_op script a (fresh_place k) ≡ op → (h : ℕ) → strand_of op ≡ of_pin h → MakesAt script a k h
pins_here script a k (Some (Pin handle page n want fast)) is h e = subst (MakesAt script a k) (same_pin e) (Pin handle page n want fast, is, refl)
pins_here script a k op is h e = absurd (cc e)

same_get : {h k : ℕ} → of_get h ≡ of_get k → h ≡ k
same_get e = cc

pub gets_here : (script : ScriptValue) (a k : ℕ) (op : Option Op) → present_op script a (fresh_place k) ≡ op → (h : ℕ) → strand_of op ≡ of_get h → MakesAt script a k h
gets_here script a k (Some (Get handle page)) is h e = subst (MakesAt script a k) (same_get e) (Get handle page, is, refl)
gets_here script a k op is h e = absurd (cc e)

-- whether an operation gets a reference by this handle, which is declared then

pub gets_or_not : (strand : Strand) (h : ℕ) → (strand ≡ of_get h) ⊎ (strand ≡ of_get h → ⊥)
gets_or_not (of_get k) h =
    elim (same_or_apart k h) [
      | inl same ↦ inl (ap of_get same)
      | inr other ↦ inr (λ e. other (same_get e))
    ]
gets_or_not strand h = inr (λ e. cc e)

got_declared : (script : ScriptValue) (op : Op) (h : ℕ) → AreDeclared script op → strand_of (Some op) ≡ of_get h → h < length script.handles
got_declared script (Get handle page) h there about = subst (λ (k : ℕ). k < length script.handles) (same_get about) there
got_declared script op h there about = absurd (cc about)

pub reference_declared : (script : ScriptValue) → IsScript script → (a k : ℕ) (op : Option Op) → present_op script a (fresh_place k) ≡ op → (h : ℕ) → strand_of op ≡ of_get h → h < length script.handles
reference_declared script valid a k None is h about = absurd (cc about)
reference_declared script valid a k (Some op) is h about =
    got_declared script op h (ops_at (AreDeclared script) script valid.declared a k op (actor_at script a) refl is) about

-- whether an operation is about this handle
abbrev pub IsAbout : Strand → (h : ℕ) → Type 0
IsAbout strand h = (strand ≡ of_pin h) ⊎ (strand ≡ of_handle h)

pub about_or_not : (strand : Strand) (h : ℕ) → IsAbout strand h ⊎ (strand ≡ of_pin h → ⊥) × (strand ≡ of_handle h → ⊥)
about_or_not (of_pin k) h =
    elim (same_or_apart k h) [
      | inl same ↦ inl (inl (ap of_pin same))
      | inr other ↦ inr ((λ e. other (same_pin e)), (λ e. cc e))
    ]
about_or_not (of_handle k) h =
    elim (same_or_apart k h) [
      | inl same ↦ inl (inr (ap of_handle same))
      | inr other ↦ inr ((λ e. cc e), (λ e. other (same_handle e)))
    ]
about_or_not strand h = inr ((λ e. cc e), (λ e. cc e))

-- that is declared
about_declared : (script : ScriptValue) (op : Op) (h : ℕ) → AreDeclared script op → IsAbout (strand_of (Some op)) h → h < length script.handles
about_declared script (Pin handle page n want fast) h there about = elim about [ inl e ↦ subst (λ (k : ℕ). k < length script.handles) (same_pin e) there | inr e ↦ absurd (cc e) ]
about_declared script (Unpin handle) h there about = elim about [ inl e ↦ absurd (cc e) | inr e ↦ subst (λ (k : ℕ). k < length script.handles) (same_handle e) there ]
about_declared script (Give handle to) h there about = elim about [ inl e ↦ absurd (cc e) | inr e ↦ subst (λ (k : ℕ). k < length script.handles) (same_handle e) there.0 ]
about_declared script (Take handle) h there about = elim about [ inl e ↦ absurd (cc e) | inr e ↦ subst (λ (k : ℕ). k < length script.handles) (same_handle e) there ]
about_declared script (Transfer handle outward slot parts) h there about = elim about [ inl e ↦ absurd (cc e) | inr e ↦ subst (λ (k : ℕ). k < length script.handles) (same_handle e) there ]
about_declared script op h there about = absurd (elim about [ inl e ↦ cc e | inr e ↦ cc e ])

pub handle_declared : (script : ScriptValue) → IsScript script → (a k : ℕ) (op : Option Op) → present_op script a (fresh_place k) ≡ op → (h : ℕ) → IsAbout (strand_of op) h → h < length script.handles
handle_declared script valid a k None is h about = absurd (elim about [ inl e ↦ cc e | inr e ↦ cc e ])
handle_declared script valid a k (Some op) is h about =
    about_declared script op h (ops_at (AreDeclared script) script valid.declared a k op (actor_at script a) refl is) about

-- whoever is found to hold a handle holds it
pub is_holder : (h : Handle) (a : ℕ) → is_held_by h a ≡ true → IsHeldBy h a
is_holder (held by objects write) a is = eqb-true by a is
is_holder h a is = absurd (cc is)

-- an actor that has given back nothing of a handle that it holds finds all its pages
pub all_left : (backs : ℕ → ℕ) (pinned : List ℕ) (h : Handle) (a : ℕ) → StandsHandle backs pinned h → backs a ≡ 0 → is_held_by h a ≡ true → (0 < length pinned) × (length pinned + 0 ≡ length (objects_of h))
all_left backs pinned (held by objects write) a stands none is =
    let back : backs by ≡ 0 = ap backs (eqb-true by a is) ∙ none in
    let all = stands.2 in
    (stands.0, omega (arith, back, all))
all_left backs pinned h a stands none is = absurd (cc is)

-- a transfer that isn't denied is one of its holder
pub transfer_held : (holds outward may fits : Bool) → transfer_denial_by holds outward may fits ≡ None → holds ≡ true
transfer_held true outward may fits none = refl
transfer_held false outward may fits none = absurd (cc none)
