-- What is found among names when one more is declared.
use Rattle.std.proofs.Common.{◌≡◌, ◌≢◌, Bool, true, false, cond, List, [], ◌∷◌, Option, Some, None, refl, ap, ◌∙◌}
use Rattle.std.specs.Str.{bytes_eq}
use Rattle.std.proofs.lemmas.Slice.Eq.{bytes_eq-Decides}
use Rattle.gup_spec_grammar.specs.declared.named.Named.{Named}
use Rattle.gup_spec_grammar.specs.Names.{NamedEntry, find, declared}
use Rattle.gup_spec_grammar.specs.Said.{Word}

pub same_bytes : (word : Word) → bytes_eq word word ≡ true
same_bytes word = (bytes_eq-Decides word word).1 refl

pub other_bytes : (word other : Word) → word ≢ other → bytes_eq word other ≡ false
other_bytes word other ne = told (bytes_eq word other) refl where
  told : (b : Bool) → bytes_eq word other ≡ b → b ≡ false
  told true e = absurd (ne ((bytes_eq-Decides word other).0 e))
  told false e = refl

some_kept : (b : Bool) (here rest longer : Option Named) (what : Named) → (rest ≡ Some what → longer ≡ Some what) → cond b here rest ≡ Some what → cond b here longer ≡ Some what
some_kept true here rest longer what keeps e = e
some_kept false here rest longer what keeps e = keeps e

-- a name that is found stays found
pub found_stays : (names : List NamedEntry) (name word : Word) (named what : Named) → find names word ≡ Some what → find (declared names name named) word ≡ Some what
found_stays [] name word named what e = absurd cc
found_stays (entry ∷ names) name word named what e =
    some_kept (bytes_eq entry.name word) (Some entry.named) (find names word) (find (declared names name named) word) what (found_stays names name word named what) e

none_kept : (b : Bool) (here : Named) (rest longer found : Option Named) → (rest ≡ None → longer ≡ found) → cond b (Some here) rest ≡ None → cond b (Some here) longer ≡ found
none_kept true here rest longer found keeps e = absurd cc
none_kept false here rest longer found keeps e = keeps e

-- where no name was like the word, the new name decides
pub found_new : (names : List NamedEntry) (name word : Word) (named : Named) → find names word ≡ None → find (declared names name named) word ≡ cond (bytes_eq name word) (Some named) None
found_new [] name word named e = refl
found_new (entry ∷ names) name word named e =
    none_kept (bytes_eq entry.name word) entry.named (find names word) (find (declared names name named) word) _ (found_new names name word named) e

pub found_itself : (names : List NamedEntry) (name : Word) (named : Named) → find names name ≡ None → find (declared names name named) name ≡ Some named
found_itself names name named e = found_new names name name named e ∙ ap (λ b. cond b (Some named) None) (same_bytes name)

pub unused_stays : (names : List NamedEntry) (name word : Word) (named : Named) → find names word ≡ None → bytes_eq name word ≡ false → find (declared names name named) word ≡ None
unused_stays names name word named e other = found_new names name word named e ∙ ap (λ b. cond b (Some named) None) other
