-- What a turn of an operation that is no fork needs, and which operations those are.
use Rattle.std.proofs.Common.{◌≡◌, ℕ, true, Option, Some, None, IfSome, Bool, List, sym, refl, subst, arith}
use Rattle.gup_base.specs.Parts.{Part}
use Rattle.gup_base.specs.declared.entry.Want.{Want}
use Rattle.gup_script.specs.declared.op.Op.{Op}
use Rattle.gup_script.specs.declared.op.Op.TheVariants.{Pin, Unpin, Give, Take, Get, Put, Transfer, Mirror, Look, Fork, Move}
use Rattle.gup_space.specs.Space.{SpaceValue}
use Rattle.gup_op_pages.specs.Alone.{IsAlone}
use Rattle.gup_op_base.specs.Tidy.{needs_table}
use Rattle.gup_spec_turns.specs.JobPlace.{KeepsNoJob}
use Rattle.gup_base.specs.declared.entry.Zone.{Zone}
use Rattle.gup_op_waits.specs.Locks.{child_in}
use Rattle.gup_op_turns.specs.Goes.{IsSingle, IsNoMirror}
use Rattle.gup_op_waits.specs.Doers.{HasProcess}

pub process_is : (o : Option ℕ) (q : ℕ) → o ≡ Some q → IfSome o (λ x. x ≡ q)
process_is o q is = subst (λ (x : Option ℕ). IfSome x (λ y. y ≡ q)) (sym is) refl

-- a number that is that of the process, if there is one
pub any_process : (o : Option ℕ) → (p : ℕ) × IfSome o (λ x. x ≡ p)
any_process None = (0, tt)
any_process (Some q) = (q, refl)

-- ---- which operations are of one process alone

pub is_alone : (op : Op) → IsSingle op → IsNoMirror op
    → ((handle : ℕ) → op ≡ Unpin handle → ⊥) → ((handle to : ℕ) → op ≡ Give handle to → ⊥) → ((handle : ℕ) → op ≡ Take handle → ⊥)
    → ((handle page : ℕ) → op ≡ Get handle page → ⊥) → ((handle : ℕ) → op ≡ Put handle → ⊥) → ((handle : ℕ) (outward : Bool) (slot : ℕ) (parts : List Part) → op ≡ Transfer handle outward slot parts → ⊥) → IsAlone op
is_alone (Pin handle page n want fast) single apart unpin give take get put transfer = absurd single
is_alone (Unpin handle) single apart unpin give take get put transfer = unpin handle refl
is_alone (Give handle to) single apart unpin give take get put transfer = give handle to refl
is_alone (Take handle) single apart unpin give take get put transfer = take handle refl
is_alone (Get handle page) single apart unpin give take get put transfer = get handle page refl
is_alone (Put handle) single apart unpin give take get put transfer = put handle refl
is_alone (Transfer handle outward slot parts) single apart unpin give take get put transfer = transfer handle outward slot parts refl
is_alone (Move q page zone) single apart unpin give take get put transfer = absurd single
is_alone (Fork child) single apart unpin give take get put transfer = absurd single
is_alone (Mirror mirror proc page) single apart unpin give take get put transfer = absurd apart
is_alone (Look mirror word) single apart unpin give take get put transfer = absurd apart
is_alone op single apart unpin give take get put transfer = tt

-- they keep no job
pub single_keeps : (op : Op) → IsSingle op → KeepsNoJob (Some op)
single_keeps (Pin handle page n want fast) single = absurd single
single_keeps (Move q page zone) single = absurd single
single_keeps (Fork child) single = absurd single
single_keeps op single = tt

pub single_op : (op : Op) → child_in op ≡ None → ((q page : ℕ) (zone : Zone) → op ≡ Move q page zone → ⊥) → ((handle page n : ℕ) (want : Want) (fast : Bool) → op ≡ Pin handle page n want fast → ⊥) → IsSingle op
single_op (Pin handle page n want fast) none move pin = pin handle page n want fast refl
single_op (Move q page zone) none move pin = move q page zone refl
single_op (Fork child) none move pin = absurd (cc)
single_op op none move pin = tt

-- they are of a process
pub alone_process : (op : Op) → IsAlone op → HasProcess op
alone_process (Pin handle page n want fast) alone = tt
alone_process (Get handle page) alone = tt
alone_process (Put handle) alone = tt
alone_process (Move q page zone) alone = tt
alone_process (Mirror mirror proc page) alone = tt
alone_process (Fork child) alone = tt
alone_process op alone = alone

-- and so is each that needs the table lock
pub table_process : (S : SpaceValue) (op : Op) → needs_table S op ≡ true → HasProcess op
table_process S op needed = grind arith
