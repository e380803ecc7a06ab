-- An operation that is read, of an actor that is there: the handle that it makes, or the slot of its mirror, may be declared.
use Rattle.std.proofs.Common.{◌≡◌, ℕ, ◌<◌, List, [], ◌∷◌, length, Option, Some, None, Result, Ok, refl, sym, ap, subst, arith, inl, inr, ◌∙◌}
use Rattle.std.specs.Prelude.{Contains}
use Rattle.std.proofs.lemmas.Option.{slice_get_within}
use Rattle.gup_script.specs.declared.op.Op.{Op}
use Rattle.gup_script.specs.declared.op.Op.TheVariants.{Pin, Get, Mirror}
use Rattle.gup_script.specs.Script.{Actor, actor_at}
use Rattle.gup_spec_grammar.specs.Names.{find}
use Rattle.gup_spec_grammar.specs.declared.named.Named.{Named}
use Rattle.gup_spec_grammar.specs.declared.fault.Reason.{Reason}
use Rattle.gup_spec_grammar.specs.Said.{Word, Action, maps, unmaps, protects, discards, loads, stores, exits, pins, gets, puts, forks, unpins, takes, gives, transfers, transfers_parts, mirrors, looks, write_word, action_words, op_words_of, moves, long_words}
use Rattle.gup_spec_grammar.specs.Outline.{Outline, with_slot}
use Rattle.gup_spec_grammar.specs.Grammar.{ActionOnce, DeclaredLimits, want_of, Means}
use Rattle.gup_read.specs.Reading.{with_made, op_of_actor}
use Rattle.gup_read.specs.Steps.{MayHaveSlot, IsDeclarable}
use Rattle.gup_read.proofs.Chains.{tried_ok, unused_Decides}
use Rattle.gup_read.proofs.Judged.{Ends, built, Told}
use Rattle.gup_read.proofs.OpChoices.{op_chosen}
use Rattle.gup_read.proofs.Acting.{behind_first}

-- ---- the actor is there

actor_there : (o : Option Actor) (word : Word) → Contains (op_words_of o) word → (actor : Actor) × (o ≡ Some actor)
actor_there None word h = let lt = h.1 in absurd (omega arith)
actor_there (Some actor) word h = (actor, refl)

pub actor_within : (st : Outline) (a : ℕ) (word : Word) (fields : List Word) (op : Op) → op_of_actor st a (actor_at st.script a) word fields ≡ Ok op → a < length st.script.actors
actor_within st a word fields op e =
    let t = tried_ok (op_chosen st a (actor_at st.script a) word fields) e in
    let there = actor_there (actor_at st.script a) word t.0 in
    slice_get_within st.script.actors a there.0 there.1

-- ---- what a pin, a get or a mirror declares may be declared

declarable_by : (st : Outline) (action : Action) (op : Op) (word : Word) (fields : List Word) → word ∷ fields ≡ action_words action → ActionOnce st action → DeclaredLimits st action → Means st action op → IsDeclarable op fields st
declarable_by st (maps first count rights) op word fields same once few m = subst (λ (o : Op). IsDeclarable o fields st) (sym m.3) tt
declarable_by st (unmaps first count) op word fields same once few m = subst (λ (o : Op). IsDeclarable o fields st) (sym m.3) tt
declarable_by st (protects first count rights) op word fields same once few m = subst (λ (o : Op). IsDeclarable o fields st) (sym m.3) tt
declarable_by st (discards first count) op word fields same once few m = subst (λ (o : Op). IsDeclarable o fields st) (sym m.3) tt
declarable_by st (loads address) op word fields same once few m = subst (λ (o : Op). IsDeclarable o fields st) (sym m.3) tt
declarable_by st (stores address value) op word fields same once few m = subst (λ (o : Op). IsDeclarable o fields st) (sym m.5) tt
declarable_by st exits op word fields same once few m = subst (λ (o : Op). IsDeclarable o fields st) (sym m) tt
declarable_by st (pins fast handle first count write long) op word fields same once few m =
    let behind : fields ≡ handle ∷ first ∷ count ∷ write_word write ∷ long_words long = ap behind_first same in
    let pin : Op = Pin (length st.script.handles) m.0 m.1 (want_of write long) fast in
    subst (λ (o : Op). IsDeclarable o fields st) (sym m.3)
    (subst (λ (words : List Word). IsDeclarable pin words st) (sym behind) ((unused_Decides st.names handle).1 once, few))
declarable_by st (gets handle page) op word fields same once few m =
    let behind : fields ≡ handle ∷ page ∷ [] = ap behind_first same in
    let get : Op = Get (length st.script.handles) m.0 in
    subst (λ (o : Op). IsDeclarable o fields st) (sym m.2)
    (subst (λ (words : List Word). IsDeclarable get words st) (sym behind) ((unused_Decides st.names handle).1 once, few))
declarable_by st (puts handle) op word fields same once few m = subst (λ (o : Op). IsDeclarable o fields st) (sym m.2) tt
declarable_by st (forks child) op word fields same once few m = subst (λ (o : Op). IsDeclarable o fields st) (sym m.2) tt
declarable_by st (moves process page zone) op word fields same once few m = subst (λ (o : Op). IsDeclarable o fields st) (sym m.4) tt
declarable_by st (unpins handle) op word fields same once few m = subst (λ (o : Op). IsDeclarable o fields st) (sym m.2) tt
declarable_by st (takes handle) op word fields same once few m = subst (λ (o : Op). IsDeclarable o fields st) (sym m.2) tt
declarable_by st (gives handle to) op word fields same once few m = subst (λ (o : Op). IsDeclarable o fields st) (sym m.4) tt
declarable_by st (transfers outward handle index slot count) op word fields same once few m = subst (λ (o : Op). IsDeclarable o fields st) (sym m.8) tt
declarable_by st (mirrors mirror process page) op word fields same once few m =
    let behind : fields ≡ mirror ∷ process ∷ page ∷ [] = ap behind_first same in
    let fill : Op = Mirror m.0 m.1 m.2 in
    let room : MayHaveSlot mirror st = λ unused. elim few [
      | inl slot ↦ absurd (cc ((unused_Decides st.names mirror).0 unused, slot.1.1))
      | inr lt ↦ lt
    ] in
    subst (λ (o : Op). IsDeclarable o fields st) (sym m.6) (subst (λ (words : List Word). IsDeclarable fill words st) (sym behind) room)
declarable_by st (looks mirror word) op first fields same once few m = subst (λ (o : Op). IsDeclarable o fields st) (sym m.4) tt
declarable_by st (transfers_parts outward handle slot first more) op word fields same once few m = subst (λ (o : Op). IsDeclarable o fields st) (sym m.6) tt

abbrev read_op : Op → Result Op Reason
read_op op = Ok op

same_op : (a b : Op) → read_op a ≡ read_op b → a ≡ b
same_op a b e = cc

declarable_told : (st : Outline) (a : ℕ) (word : Word) (fields : List Word) (op : Op) (result : Result Op Reason) → Told st a (word ∷ fields) result → result ≡ Ok op → IsDeclarable op fields st
declarable_told st a word fields op result (inr t) e = absurd (cc (t.0, e))
declarable_told st a word fields op result (inl t) e =
    let shaped = tried_ok t.2 e in
    let numbers = tried_ok shaped.1 e in
    let names = tried_ok numbers.1 e in
    let once = tried_ok names.1 e in
    let limits = tried_ok once.1 e in
    way once.0 limits.0 limits.1
  where
    way : ActionOnce st t.0 → DeclaredLimits st t.0 → Ends st t.0 result → IsDeclarable op fields st
    way once few (built o given means) =
        let same : o ≡ op = same_op o op (sym given ∙ e) in
        declarable_by st t.0 op word fields t.1 once few (subst (Means st t.0) same means)

pub declarable : (st : Outline) (a : ℕ) (word : Word) (fields : List Word) (op : Op) → op_of_actor st a (actor_at st.script a) word fields ≡ Ok op → IsDeclarable op fields st
declarable st a word fields op e =
    declarable_told st a word fields op _ (tried_ok (op_chosen st a (actor_at st.script a) word fields) e).1 e

-- ---- the actors stay

with_slot_within : (device : ℕ) (name : Word) (o : Option Named) (st : Outline) (a : ℕ) → a < length st.script.actors → a < length (with_slot device name o st).script.actors
with_slot_within device name None st a lt = lt
with_slot_within device name (Some what) st a lt = lt

pub still_within : (op : Op) (fields : List Word) (st : Outline) (b a : ℕ) → a < length st.script.actors → a < length (with_made b op fields st).script.actors
still_within (Pin handle page n want fast) [] st b a lt = lt
still_within (Pin handle page n want fast) (name ∷ fields) st b a lt = lt
still_within (Get handle page) [] st b a lt = lt
still_within (Get handle page) (name ∷ fields) st b a lt = lt
still_within (Mirror mirror proc page) [] st b a lt = lt
still_within (Mirror mirror proc page) (name ∷ fields) st b a lt = with_slot_within b name (find st.names name) st a lt
still_within _ fields st b a lt = lt
