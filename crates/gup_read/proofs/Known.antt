-- The tests on names and words, and what each of them decides.
use Rattle.std.proofs.Common.{◌≡◌, ℕ, ◌<◌, Bool, true, false, not, List, Option, Some, None, is_none, refl, ap, ◌^◌, Decides}
use Rattle.gup_read_words.specs.Text.{number_in, count_in, is_name}
use Rattle.gup_spec_grammar.specs.Spelling.{IsNumber, IsCount, IsName}
use Rattle.gup_read_words.proofs.SpelledNumbers.{number_found, number_read, count_found, count_read}
use Rattle.gup_read_words.proofs.SpelledNames.{name_found, name_read}
use Rattle.gup_spec_grammar.specs.Names.{find, is_unused}
use Rattle.gup_spec_grammar.specs.declared.named.Named.{Named}
use Rattle.gup_spec_grammar.specs.declared.named.Named.TheVariants as named
use Rattle.gup_spec_grammar.specs.Outline.{Outline}
use Rattle.gup_spec_grammar.specs.Grammar.{IsUnused, NamesProcess, NamesActor}
use Rattle.gup_read_outline.specs.Named.{process_of, actor_of}
use Rattle.gup_read.proofs.Verdicts.{Finds}

pub none_decides : {A : Type 0} (o : Option A) → Decides (is_none o) (o ≡ None)
none_decides None = (λ _. refl, λ _. refl)
none_decides (Some a) = (λ e. absurd cc, λ e. absurd cc)

pub unused_decides : (st : Outline) (word : List ℕ) → Decides (is_unused st.names word) (IsUnused st word)
unused_decides st word = none_decides (find st.names word)

pub unset_decides : (b : Bool) → Decides (not b) (b ≡ false)
unset_decides true = (λ e. absurd cc, λ e. absurd cc)
unset_decides false = (λ _. refl, λ _. refl)

pub name_decides : (word : List ℕ) → Decides (is_name word) (IsName word)
name_decides word = (name_found word, name_read word)

pub number_finds : (word : List ℕ) → Finds (number_in word) (IsNumber word)
number_finds word = (number_found word, number_read word)

pub count_finds : (least most : ℕ) (word : List ℕ) → most < 2 ^ 64 → Finds (count_in least most word) (IsCount least most word)
count_finds least most word lt = (count_found least most word, λ n h. count_read least most word n lt h)

processes_found : (o : Option Named) (p : ℕ) → process_of o ≡ Some p → o ≡ Some (named.Process p)
processes_found None p e = absurd cc
processes_found (Some (named.Process q)) p e = cc
processes_found (Some (named.Actor a)) p e = absurd cc
processes_found (Some (named.Pin h)) p e = absurd cc
processes_found (Some (named.Got h)) p e = absurd cc
processes_found (Some (named.Mirror m a)) p e = absurd cc

pub process_finds : (st : Outline) (word : List ℕ) → Finds (process_of (find st.names word)) (NamesProcess st word)
process_finds st word = (processes_found (find st.names word), λ p h. ap process_of h)

actors_found : (o : Option Named) (a : ℕ) → actor_of o ≡ Some a → o ≡ Some (named.Actor a)
actors_found None a e = absurd cc
actors_found (Some (named.Actor b)) a e = cc
actors_found (Some (named.Process p)) a e = absurd cc
actors_found (Some (named.Pin h)) a e = absurd cc
actors_found (Some (named.Got h)) a e = absurd cc
actors_found (Some (named.Mirror m b)) a e = absurd cc

pub actor_finds : (st : Outline) (word : List ℕ) → Finds (actor_of (find st.names word)) (NamesActor st word)
actor_finds st word = (actors_found (find st.names word), λ a h. ap actor_of h)
