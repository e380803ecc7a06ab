-- The map's own look-up and insertion are those of the list of entries.
use Rattle.std.proofs.Common.{◌≡◌, ℕ, true, cond, List, [], ◌∷◌, map, Option, Some, None, refl, sym, ap, ap₂, ◌∙◌}
use Rattle.std.specs.Prelude.{String, string_bytes, is_none}
use Rattle.std.specs.Map.{lookup}
use Rattle.std.specs.HashMap.{get}
use Rattle.std.specs.String.{string_eq}
use Rattle.std.specs.Str.{bytes_eq}
use Rattle.std.proofs.lemmas.Cmp.{nat_list_eq_equiv}
use Rattle.std.proofs.lemmas.List.{map-append}
use Rattle.indexmap.specs.IndexMap.{IndexMap, insert_entry}
use Rattle.indexmap.proofs.CallerLemmas.{insert_entry-new}
use Rattle.gup_spec_grammar.specs.declared.named.Named.{Named}
use Rattle.gup_spec_grammar.specs.Names.{find, is_unused, declared}
use Rattle.gup_read_names.specs.Views.{entry_of}

pub find_looks_up : {A : Type 0} (es : List (String A × Named)) (name : List ℕ) → find (map entry_of es) name ≡ lookup (λ k. bytes_eq name (string_bytes k)) es
find_looks_up [] name = refl
find_looks_up (e ∷ es) name =
    ap₂ (λ b o. cond b (Some e.1) o) (nat_list_eq_equiv.symm (string_bytes e.0) name) (find_looks_up es name)

none_given : {X : Type 0} (o : Option X) → is_none o ≡ true → o ≡ None
none_given None e = refl
none_given (Some x) e = absurd cc

pub insert_declares : {A S : Type 0} (m : IndexMap (String A) Named S) (key : String A) (name : List ℕ) (named : Named) → string_bytes key ≡ name → is_unused (map entry_of m.entries) name ≡ true → map entry_of (insert_entry string_eq m.entries key named) ≡ declared (map entry_of m.entries) name named
insert_declares m key name named spelled unused =
    let es = map entry_of m.entries in
    let absent : get string_eq m key ≡ None = sym (find_looks_up m.entries (string_bytes key)) ∙ ap (find es) spelled ∙ none_given (find es name) unused in
    ap (map entry_of) (insert_entry-new string_eq m key named absent)
    ∙ map-append entry_of m.entries ((key, named) ∷ [])
    ∙ ap (λ n. declared es n named) spelled
