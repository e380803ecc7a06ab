use Rattle.std.proofs.Common.{◌≡◌, ℕ, false, List, [], Option, None, ◌∙◌, ap}
use Rattle.gup_plain.specs.State.{PlainState, Handle, unmade, Pending, Noted, plain_start}
use Rattle.gup_exec_plain.specs.Parts.{with_spaces}
use Rattle.gup_exec_parts.specs.Actor.{store_of}
use Rattle.gup_exec_parts.specs.Space.{SpaceState, seen, blank}
use Rattle.gup_exec_parts.specs.Contents.{content_of}
use Rattle.gup_exec_parts.specs.Tables.{at_place}
use Rattle.gup_exec_parts.specs.declared.actor.Actor.{Actor}
use Rattle.gup_exec_plain.proofs.parts.Parts.new.Goals as goal

abbrev assembled : (ℕ → ℕ → ℕ) → ℕ → (ℕ → Handle) → (ℕ → List Pending) → (ℕ → ℕ → ℕ) → (ℕ → Option Noted) → (ℕ → SpaceState) → PlainState
assembled content made handle pending store slot spaces =
    with_spaces (record (plain_start (λ _. false)) { content = content; made = made; handle = handle; pending = pending; store = store; slot = slot }) spaces

all-blank : (c c' : ℕ → ℕ → ℕ) (m m' : ℕ) (h h' : ℕ → Handle) (p p' : ℕ → List Pending) (s s' : ℕ → ℕ → ℕ) (l l' : ℕ → Option Noted) (f f' : ℕ → SpaceState)
    → c ≡ c' → m ≡ m' → h ≡ h' → p ≡ p' → s ≡ s' → l ≡ l' → f ≡ f' → assembled c m h p s l f ≡ assembled c' m' h' p' s' l' f'
all-blank c c' m m' h h' p p' s s' l l' f f' ec em eh ep es el ef =
    ap (λ (x : ℕ → ℕ → ℕ). assembled x m h p s l f) ec
    ∙ ap (λ (x : ℕ). assembled c' x h p s l f) em
    ∙ ap (λ (x : ℕ → Handle). assembled c' m' x p s l f) eh
    ∙ ap (λ (x : ℕ → List Pending). assembled c' m' h' x s l f) ep
    ∙ ap (λ (x : ℕ → ℕ → ℕ). assembled c' m' h' p' x l f) es
    ∙ ap (λ (x : ℕ → Option Noted). assembled c' m' h' p' s' x f) el
    ∙ ap (λ (x : ℕ → SpaceState). assembled c' m' h' p' s' l' x) ef

pub returns-clause-state : goal.returns-clause-state
returns-clause-state c =
    all-blank (content_of c.new.result) (λ _ _. 0) c.new.result.made 0
    (at_place (λ (h : Handle). h) unmade c.in_ok-pins.field-0.items) (λ _. unmade)
    (at_place (λ (a : Actor). a.taken.items) [] c.in_ok-idle.field-0.items) (λ _. [])
    (at_place store_of (λ _. 0) c.in_ok-idle.field-0.items) (λ _ _. 0)
    (at_place (λ (n : Option Noted). n) None c.in_ok-mirrors.field-0.items) (λ _. None)
    (at_place seen blank c.in_ok-spaces.field-0.items) (λ _. blank)
    c.new.ensures.content c.new.ensures.made c.in_ok-pins.ensures.unmade c.in_ok-idle.ensures.taken c.in_ok-idle.ensures.store c.in_ok-mirrors.ensures.empty c.in_ok-spaces.ensures.blank
