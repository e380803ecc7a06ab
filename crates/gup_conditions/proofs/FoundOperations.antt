-- The operation that a name and a number stand for.
use Rattle.std.proofs.Common.{◌≡◌, ◌⊎◌, inl, inr, ℕ, ◌+◌, ◌-◌, ◌<◌, ◌≤◌, Bool, true, false, List, [], ◌∷◌, length, Option, Some, None, IfSome, zero, suc, slice_get, refl, sym, ap, subst, ◌∙◌, arith}
use Rattle.std.specs.Bool.{Decides}
use Rattle.std.specs.Str.{bytes_eq}
use Rattle.std.proofs.lemmas.Bool.{cases_lt, cases_eq}
use Rattle.std.proofs.lemmas.Slice.Eq.{bytes_eq-Decides}
use Rattle.std.proofs.lemmas.Option.{slice_get_past}
use Rattle.gup_script.specs.declared.op.Op.{Op}
use Rattle.gup_script.specs.Script.{ScriptValue, Actor, actor_at, ops_in, ops_of}
use Rattle.gup_lines.specs.Text.{name_in}
use Rattle.gup_spec_grammar.specs.Spelling.{IsNumber}
use Rattle.gup_read_words.specs.Text.{number_in}
use Rattle.gup_read_words.proofs.SpelledNumbers.{number_read}
use Rattle.gup_conditions.specs.Reading.{HasOperation, IsNowhere}

-- a number that is taken as an actor's is that actor's
pub number_is : (r : Option ℕ) (x v : ℕ) → r ≡ Some x → IfSome r (λ n. n ≡ v) → x ≡ v
number_is None x v some is = absurd (cc)
number_is (Some y) x v some is = cc

missing : (actors : List Actor) (k : ℕ) → k < length actors → slice_get actors k ≡ None → ⊥
missing [] k within none = absurd (omega arith)
missing (actor ∷ actors) zero within none = absurd (cc)
missing (actor ∷ actors) (suc k) within none = missing actors k (omega arith) none

-- an actor of the script has the name that it is asked for
pub named_so : (script : ScriptValue) (a : ℕ) (found name : List ℕ) (same : Bool) → a < length script.actors → ((actor : Actor) → actor_at script a ≡ Some actor → found ≡ actor.name) → same ≡ bytes_eq found name → Decides same (name_in (actor_at script a) ≡ name)
named_so script a found name same within is equal = go (actor_at script a) refl where
  go : (actor : Option Actor) → actor_at script a ≡ actor → Decides same (name_in actor ≡ name)
  go None at = absurd (missing script.actors a within at)
  go (Some actor) at =
      let text : found ≡ actor.name = is actor at in
      rw (equal, text) (bytes_eq-Decides actor.name name)

-- no actor before a has an operation with the number k under this name
abbrev pub IsNoneBelow : ScriptValue → (name : List ℕ) → (k a : ℕ) → Type 0
IsNoneBelow script name k a = (actor : ℕ) (op : Op) → actor < a → name_in (actor_at script actor) ≡ name → HasOperation script actor k op → ⊥

pub none_more : (script : ScriptValue) (name : List ℕ) (k a : ℕ) → IsNoneBelow script name k a → ((op : Op) → name_in (actor_at script a) ≡ name → HasOperation script a k op → ⊥) → IsNoneBelow script name k (a + 1)
none_more script name k a below here actor op lt named has =
    elim (cases_eq actor a) [
      | inl same ↦ here op (subst (λ (x : ℕ). name_in (actor_at script x) ≡ name) same named) (subst (λ (x : ℕ). HasOperation script x k op) same has)
      | inr other ↦ below actor op (omega (arith, other)) named has
    ]

-- none has a number that is none
pub no_number_in : (script : ScriptValue) (name number : List ℕ) → number_in number ≡ None → IsNowhere script name number
no_number_in script name number none actor k op named is has =
    let some : number_in number ≡ Some k = number_read number k is in
    absurd (cc)

pub nowhere : (script : ScriptValue) (name number : List ℕ) (k n : ℕ) → number_in number ≡ Some k → length script.actors ≤ n → IsNoneBelow script name k n → IsNowhere script name number
nowhere script name number k n found all below actor j op named is has =
    let read : number_in number ≡ Some j = number_read number j is in
    let same : j ≡ k = cc in
    let here : HasOperation script actor k op = subst (λ (x : ℕ). HasOperation script actor x op) same has in
    elim (cases_lt actor n) [
      | inl lt ↦ below actor op lt named here
      | inr past ↦
          let none : actor_at script actor ≡ None = slice_get_past script.actors actor (omega arith) in
          let empty : ops_of script actor ≡ [] = ap ops_in none in
          let got : slice_get (ops_of script actor) (k - 1) ≡ Some op = here.1 in
          let no : slice_get {X = Op} [] (k - 1) ≡ Some op = rw empty at got in
          absurd (cc)
    ]
