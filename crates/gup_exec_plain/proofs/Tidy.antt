-- What holds of the plain state at any time: the objects that anything names were made, no two pages name one object,
-- and no object that was not made has a word other than 0. Each clause has a name of its own, so that a lemma on an
-- event says which it proves anew.
use Rattle.std.proofs.Common.{◌≡◌, ℕ, ◌<◌, ◌≤◌, Bool, refl}
use Rattle.std.specs.Prelude.{Some, All}
use Rattle.std.proofs.lemmas.List.Elements.{All-nil}
use Rattle.gup_base.specs.declared.entry.Rights.{Rights}
use Rattle.gup_plain.specs.State.{PlainState, Pending, objects_of, plain_start}
use Rattle.gup_plain.specs.Event.{page_numbers}

module _ (s : PlainState) where
  abbrev pub NamedMade : Type 0
  NamedMade = (p g : ℕ) (r : Rights) → s.right p g ≡ Some r → s.object p g < s.made

  abbrev pub NamedNumbered : Type 0
  NamedNumbered = (p g : ℕ) (r : Rights) → s.right p g ≡ Some r → g < page_numbers

  abbrev pub NamedAlone : Type 0
  NamedAlone = (p g q h : ℕ) (r t : Rights) → s.right p g ≡ Some r → s.right q h ≡ Some t → s.object p g ≡ s.object q h → (p ≡ q) × (g ≡ h)

  abbrev pub HandleMade : Type 0
  HandleMade = (h : ℕ) → All (λ o. o < s.made) (objects_of (s.handle h))

  abbrev pub PendingMade : Type 0
  PendingMade = (a : ℕ) → All (λ (t : Pending). t.object < s.made) (s.pending a)

  abbrev pub UnmadeZero : Type 0
  UnmadeZero = (o w : ℕ) → s.made ≤ o → s.content o w ≡ 0

pub record IsTidy (s : PlainState) : Type 0 where
  pub named_made : NamedMade s
  pub named_numbered : NamedNumbered s
  pub named_alone : NamedAlone s
  pub handle_made : HandleMade s
  pub pending_made : PendingMade s
  pub unmade_zero : UnmadeZero s

pub starts_tidy : (is_born : ℕ → Bool) → IsTidy (plain_start is_born)
starts_tidy is_born =
    record {
      named_made = λ p g r is. cc;
      named_numbered = λ p g r is. cc;
      named_alone = λ p g q h r t is that. cc;
      handle_made = λ h. All-nil _;
      pending_made = λ a. All-nil _;
      unmade_zero = λ o w is. refl;
    }
