-- What a chain of steps gives, from what each step does.
use Rattle.std.proofs.Common.{◌≡◌, Bool, true, false, cond, Option, Some, None, refl, sym, subst}
use Rattle.std.specs.Str.{bytes_eq}
use Rattle.std.proofs.lemmas.Slice.Eq.{bytes_eq-Decides}
use Rattle.gup_spec_grammar.specs.Said.{Word as Letters}
use Rattle.gup_read_words.specs.Text.{◌>>=◌}

-- all that comes of it is so
pub record Gives {A : Type 0} (o : Option A) (Good : A → Type 0) : Type 0 where
  pub gives : (x : A) → o ≡ Some x → Good x

pub nothing : {A : Type 0} {Good : A → Type 0} → Gives None Good
nothing = record { gives = λ x e. absurd cc }

abbrev some : {A : Type 0} → A → Option A
some x = Some x

same_some : {A : Type 0} (x y : A) → some x ≡ some y → x ≡ y
same_some x y e = cc

pub last : {A : Type 0} {Good : A → Type 0} (x : A) → Good x → Gives (Some x) Good
last {Good = Good} x h = record { gives = λ y e. subst Good (same_some x y e) h }

pub next : {A B : Type 0} {o : Option A} {Good : A → Type 0} {f : A → Option B} {Better : B → Type 0} → Gives o Good → ((x : A) → Good x → Gives (f x) Better) → Gives (o >>= f) Better
next {o = Some x} g rest = rest x (g.gives x refl)
next {o = None} g rest = record { gives = λ x e. absurd cc }

-- a test
pub passed : {A : Type 0} {b : Bool} {o : Option A} {Good : A → Type 0} → (b ≡ true → Gives o Good) → Gives (cond b o None) Good
passed {b = true} h = h refl
passed {b = false} h = nothing

-- one of some words
pub choose : {A : Type 0} (says : Letters → A → Type 0) (word text : Letters) {here rest : Option A} → Gives here (says text) → Gives rest (says word) → Gives (cond (bytes_eq word text) here rest) (says word)
choose says word text {here} {rest} told others = way (bytes_eq word text) refl where
  way : (b : Bool) → bytes_eq word text ≡ b → Gives (cond b here rest) (says word)
  way true e =
      let same : word ≡ text = (bytes_eq-Decides word text).0 e in
      subst (λ (w : Letters). Gives here (says w)) (sym same) told
  way false e = others
