-- What the lines of rounds need of the outline before them.
use Rattle.std.proofs.Common.{◌≡◌, ℕ, ◌+◌, ◌*◌, ◌^◌, ◌<◌, ◌≤◌, Bool, true, false, List, [], ◌∷◌, length, slice_get, Some, None, codes, Contains, refl, sym, ap, subst, ◌∙◌, arith}
use Rattle.std.specs.Str.{bytes_eq}
use Rattle.std.proofs.lemmas.List.{length_push}
use Rattle.gup_script.specs.declared.op.Kind.{Kind}
use Rattle.gup_script.specs.declared.op.Kind.TheVariants.{Thread, Device, Mover}
use Rattle.gup_script.specs.declared.op.Op.{Op}
use Rattle.gup_script.specs.Script.{Process}
use Rattle.gup_spec_grammar.specs.declared.named.Named.{Named}
use Rattle.gup_spec_grammar.specs.declared.named.Named.TheVariants as named
use Rattle.gup_spec_grammar.specs.Names.{NamedEntry, find}
use Rattle.gup_spec_grammar.specs.Outline.{Outline, with_named, with_operation, is_forked, forks_child}
use Rattle.gup_spec_grammar.specs.Said.{Word, op_words}
use Rattle.gup_spec_grammar.specs.Grammar.{IsOpOf}
use Rattle.gup_make.specs.Made.{pin_name, reference_name}
use Rattle.gup_law_made.proofs.Entries.{found_stays, other_bytes, unused_stays}
use Rattle.gup_law_made.proofs.Numbers.{pin_name_other, reference_name_other}
use Rattle.gup_law_made.proofs.Forks.{kinds_of, same_kinds, words_of_kind, still_unforked}

-- ---- what the head declares

abbrev entry : Word → Named → NamedEntry
entry name what = record { name = name; named = what }

abbrev pub head_names : List NamedEntry
head_names =
    entry (codes "p") (named.Process 0) ∷ entry (codes "c1") (named.Process 1) ∷ entry (codes "c2") (named.Process 2)
    ∷ entry (codes "t1") (named.Actor 0) ∷ entry (codes "t2") (named.Actor 1) ∷ entry (codes "t3") (named.Actor 2)
    ∷ entry (codes "t4") (named.Actor 3) ∷ entry (codes "d1") (named.Actor 4) ∷ entry (codes "d2") (named.Actor 5)
    ∷ entry (codes "m") (named.Actor 6) ∷ entry (codes "h1") (named.Pin 0) ∷ entry (codes "h2") (named.Pin 1) ∷ []

abbrev pub head_kinds : List Kind
head_kinds = Thread 0 ∷ Thread 0 ∷ Thread 1 ∷ Thread 2 ∷ Device 64 ∷ Device 64 ∷ Mover ∷ []

abbrev process : Word → Bool → Process
process name born = record { name = name; born = born }

abbrev pub head_processes : List Process
head_processes = process (codes "p") true ∷ process (codes "c1") false ∷ process (codes "c2") false ∷ []

-- ---- what rounds keep

-- The outline has the head's names, and no handle's name with a number above the given one; its handles and operations are
-- at most so many. Child p is brought behind round 5 p at the earliest, and k rounds are past.
pub record Standing (n k handles : ℕ) (st : Outline) : Type 0 where
  pub known : (name : Word) (what : Named) → find head_names name ≡ Some what → find st.names name ≡ Some what
  pub fresh_pin : (j : ℕ) → handles < j → j < 2 ^ 64 → find st.names (pin_name j) ≡ None
  pub fresh_reference : (j : ℕ) → handles < j → j < 2 ^ 64 → find st.names (reference_name j) ≡ None
  pub kinds : kinds_of st.script.actors ≡ head_kinds
  pub processes : st.script.processes ≡ head_processes
  pub unforked : (p : ℕ) → k < 5 * p → is_forked st p ≡ false
  pub no_turns : length st.script.turns ≡ 0
  pub few_handles : length st.script.handles ≤ n
  pub few_operations : st.operations ≤ n

pub standing_later : (n m k l handles : ℕ) (st : Outline) → n ≤ m → k ≤ l → Standing n k handles st → Standing m l handles st
standing_later n m k l handles st le past h =
    record {
      known = h.known;
      fresh_pin = h.fresh_pin;
      fresh_reference = h.fresh_reference;
      kinds = h.kinds;
      processes = h.processes;
      unforked = λ p lt. h.unforked p (omega arith);
      no_turns = h.no_turns;
      few_handles = let few = h.few_handles in omega arith;
      few_operations = let few = h.few_operations in omega arith;
    }

-- one more operation
pub standing_operation : (n k l handles : ℕ) (st : Outline) (a : ℕ) (op : Op) → k ≤ l → ((p : ℕ) → l < 5 * p → forks_child p op ≡ false) → Standing n k handles st → Standing (n + 1) l handles (with_operation a op st)
standing_operation n k l handles st a op past none h =
    record {
      known = h.known;
      fresh_pin = h.fresh_pin;
      fresh_reference = h.fresh_reference;
      kinds = same_kinds a op st.script.actors ∙ h.kinds;
      processes = h.processes;
      unforked = λ p lt. still_unforked p a op st.script.actors (h.unforked p (omega arith)) (none p lt);
      no_turns = h.no_turns;
      few_handles = let few = h.few_handles in omega arith;
      few_operations = let few = h.few_operations in omega arith;
    }

-- one more handle, whose name has the next number
pub standing_named : (n k handles : ℕ) (st : Outline) (name : Word) (what : Named) → ((j : ℕ) → handles + 1 < j → j < 2 ^ 64 → (bytes_eq name (pin_name j) ≡ false) × (bytes_eq name (reference_name j) ≡ false)) → Standing n k handles st → Standing (n + 1) k (handles + 1) (with_named name what st)
standing_named n k handles st name what other h =
    record {
      known = λ word known e. found_stays st.names name word what known (h.known word known e);
      fresh_pin = λ j above lt. unused_stays st.names name (pin_name j) what (h.fresh_pin j (omega arith) lt) (other j above lt).0;
      fresh_reference = λ j above lt. unused_stays st.names name (reference_name j) what (h.fresh_reference j (omega arith) lt) (other j above lt).1;
      kinds = h.kinds;
      processes = h.processes;
      unforked = h.unforked;
      no_turns = h.no_turns;
      few_handles = let few = h.few_handles in omega (arith, length_push st.script.handles name);
      few_operations = let few = h.few_operations in omega arith;
    }

pub standing_pin : (n k handles : ℕ) (st : Outline) (what : Named) → handles < 1000 → Standing n k handles st → Standing (n + 1) k (handles + 1) (with_named (pin_name (handles + 1)) what st)
standing_pin n k handles st what few h =
    standing_named n k handles st (pin_name (handles + 1)) what (λ j above lt.
    (other_bytes (pin_name (handles + 1)) (pin_name j) (pin_name_other (handles + 1) j (omega arith) (omega arith) lt), refl)) h

pub standing_reference : (n k handles : ℕ) (st : Outline) (what : Named) → handles < 1000 → Standing n k handles st → Standing (n + 1) k (handles + 1) (with_named (reference_name (handles + 1)) what st)
standing_reference n k handles st what few h =
    standing_named n k handles st (reference_name (handles + 1)) what (λ j above lt.
    (refl, other_bytes (reference_name (handles + 1)) (reference_name j) (reference_name_other (handles + 1) j (omega arith) (omega arith) lt))) h

-- an actor of this kind may do what its kind does
pub may_do : (n k handles : ℕ) (st : Outline) (a : ℕ) (kind : Kind) (word : Word) → Standing n k handles st → slice_get head_kinds a ≡ Some kind → Contains (op_words kind) word → IsOpOf st a word
may_do n k handles st a kind word h of has =
    let same = words_of_kind st.script.actors a kind (ap (λ kinds. slice_get kinds a) h.kinds ∙ of) in
    subst (λ (words : List Word). Contains words word) (sym same) has
