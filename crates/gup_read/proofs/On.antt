-- `on` lines: what the reader makes of one is what the grammar says of it, and a line that the grammar allows, or finds
-- a fault in, is read so.
use Rattle.std.proofs.Common.{◌≡◌, ℕ, ◌⊎◌, List, [], ◌∷◌, Option, Some, None, Result, Ok, Err, refl, sym, ap, subst, inl, inr}
use Rattle.std.specs.Prelude.{codes}
use Rattle.gup_spec_grammar.specs.Names.{find}
use Rattle.gup_script.specs.declared.op.Op.{Op}
use Rattle.gup_spec_grammar.specs.declared.fault.Reason.{Reason}
use Rattle.gup_spec_grammar.specs.declared.fault.Reason.TheVariants as reasons
use Rattle.gup_script.specs.Script.{actor_at}
use Rattle.gup_spec_grammar.specs.Said.{Word, Action, action_words}
use Rattle.gup_spec_grammar.specs.Outline.{Outline}
use Rattle.gup_spec_grammar.specs.Grammar.{Does, NamesActor, IsOpOf, first_word, IsNext}
use Rattle.gup_spec_grammar.specs.Fault.{Unless, ActionFault, OpFault, OnFault}
use Rattle.gup_read.specs.Reading.{◌>>=◌, need, op_of_actor, on_in}
use Rattle.gup_read_outline.specs.Named.{actor_of}
use Rattle.gup_read.proofs.Chains.{Tried, carried, tried_ok, tried_err, tried_pass, tried_stop}
use Rattle.gup_read.proofs.ActionWords.{action_in, no_action, one_action}
use Rattle.gup_read.proofs.Judged.{Told, actor_found}
use Rattle.gup_read.proofs.OpChoices.{op_chosen}
use Rattle.gup_read.proofs.Acting.{Acts, placed, acts, acts_ok, acts_read, acts_err, acts_stop}

-- ---- the words after `on`

-- after the actor's name: the words say an action, or none
abbrev SaysOp : Outline → (actor : ℕ) → List Word → Result Outline Reason → Type 0
SaysOp st a words result =
    ((action : Action) × (words ≡ action_words action) × Acts st a action result)
    ⊎ ((result ≡ Err reasons.Shape) × (action_in words ≡ None))

says : (st : Outline) (a : ℕ) (word : Word) (fields : List Word) (result : Result Op Reason) → Told st a (word ∷ fields) result → SaysOp st a (word ∷ fields) (result >>= placed st a fields)
says st a word fields result (inl t) = inl (t.0, t.1, acts st a t.0 word fields result t.1 t.2)
says st a word fields result (inr t) = inr (ap (λ r. r >>= placed st a fields) t.0, t.1)

abbrev OnWords : Outline → (name word : Word) → (fields : List Word) → Result Outline Reason → Type 0
OnWords st name word fields result =
    ((result ≡ Err reasons.Name) × ((a : ℕ) → NamesActor st name a → ⊥))
    ⊎ ((a : ℕ) × NamesActor st name a × Tried reasons.Word (IsOpOf st a word) (SaysOp st a (word ∷ fields)) result)

on_words : (st : Outline) (name word : Word) (fields : List Word) → OnWords st name word fields (on_in st (name ∷ word ∷ fields))
unfolding on_in
on_words st name word fields = way (actor_of (find st.names name)) refl where
  way : (o : Option ℕ) → actor_of (find st.names name) ≡ o → OnWords st name word fields (need reasons.Name o >>= λ a. op_of_actor st a (actor_at st.script a) word fields >>= placed st a fields)
  way None e = inl (refl, λ a named. absurd (cc (e, ap actor_of named)))
  way (Some a) e =
      inr (
        a,
        actor_found (find st.names name) a e,
        carried (placed st a fields) (says st a word fields _) (op_chosen st a (actor_at st.script a) word fields),
      )

-- ---- what is read is right

op_ok : (st : Outline) (a : ℕ) (name word : Word) (fields : List Word) (result : Result Outline Reason) (next : Outline) → NamesActor st name a → IsOpOf st a word → SaysOp st a (word ∷ fields) result → result ≡ Ok next → IsNext st (codes "on" ∷ name ∷ word ∷ fields) next
op_ok st a name word fields result next named of_kind (inl t) e =
    let action = t.0 in
    let same = t.1 in
    inr (
      name,
      a,
      action,
      ap (λ (ws : List Word). codes "on" ∷ name ∷ ws) same,
      named,
      subst (λ (w : Word). IsOpOf st a w) (ap first_word same) of_kind,
      acts_ok st a action result next t.2 e,
    )
op_ok st a name word fields result next named of_kind (inr t) e = absurd (cc (t.0))

pub on_found : (st next : Outline) (fields : List Word) → on_in st fields ≡ Ok next → IsNext st (codes "on" ∷ fields) next
unfolding on_in
on_found st next [] e = absurd cc
on_found st next (name ∷ []) e = absurd cc
on_found st next (name ∷ word ∷ fields) e = way (on_words st name word fields) where
  way : OnWords st name word fields (on_in st (name ∷ word ∷ fields)) → IsNext st (codes "on" ∷ name ∷ word ∷ fields) next
  way (inl h) = absurd (cc (h.0, e))
  way (inr h) =
      let t = tried_ok h.2 e in
      op_ok st h.0 name word fields (on_in st (name ∷ word ∷ fields)) next h.1 t.0 t.1 e

-- ---- what is right is read

op_read : (st : Outline) (a : ℕ) (words : List Word) (action : Action) (result : Result Outline Reason) (next : Outline) → words ≡ action_words action → Does st a action next → SaysOp st a words result → result ≡ Ok next
op_read st a words action result next same does (inl t) =
    let one = one_action words t.0 action t.1 same in
    acts_read st a t.0 result next t.2 (subst (λ (x : Action). Does st a x next) (sym one) does)
op_read st a words action result next same does (inr t) = absurd (no_action words t.1 action same)

same_actor : (st : Outline) (name : Word) (a b : ℕ) → NamesActor st name a → NamesActor st name b → a ≡ b
same_actor st name a b x y = cc

words_read : (st : Outline) (a : ℕ) (name word : Word) (fields : List Word) (action : Action) (next : Outline) → word ∷ fields ≡ action_words action → NamesActor st name a → IsOpOf st a word → Does st a action next → on_in st (name ∷ word ∷ fields) ≡ Ok next
words_read st a name word fields action next same named of_kind does = way (on_words st name word fields) where
  way : OnWords st name word fields (on_in st (name ∷ word ∷ fields)) → on_in st (name ∷ word ∷ fields) ≡ Ok next
  way (inl h) = absurd (h.1 a named)
  way (inr h) =
      let one = same_actor st name a h.0 named h.1 in
      let t = tried_pass h.2 (subst (λ (x : ℕ). IsOpOf st x word) one of_kind) in
      op_read st h.0 (word ∷ fields) action _ next same (subst (λ (x : ℕ). Does st x action next) one does) t

pub on_read : (st : Outline) (name : Word) (a : ℕ) (action : Action) (next : Outline) → NamesActor st name a → IsOpOf st a (first_word (action_words action)) → Does st a action next → on_in st (name ∷ action_words action) ≡ Ok next
on_read st name a action next named of_kind does = way (action_words action) refl of_kind where
  way : (words : List Word) → words ≡ action_words action → IsOpOf st a (first_word words) → on_in st (name ∷ words) ≡ Ok next
  way [] same of_it = absurd (no_action [] refl action same)
  way (word ∷ fields) same of_it = words_read st a name word fields action next same named of_it does

-- ---- faults

op_err : (st : Outline) (a : ℕ) (words : List Word) (result : Result Outline Reason) (q : Reason) → SaysOp st a words result → result ≡ Err q → OpFault st a words q
op_err st a words result q (inl t) e = inr (t.0, t.1, acts_err st a t.0 result q t.2 e)
op_err st a words result q (inr t) e = inl (cc (t.0), no_action words t.1)

op_stop : (st : Outline) (a : ℕ) (words : List Word) (result : Result Outline Reason) (q : Reason) → SaysOp st a words result → OpFault st a words q → result ≡ Err q
op_stop st a words result q (inl t) (inl f) = absurd (f.1 t.0 t.1)
op_stop st a words result q (inl t) (inr f) =
    let one = one_action words t.0 f.0 t.1 f.1 in
    acts_stop st a t.0 result q t.2 (subst (λ (x : Action). ActionFault st a x q) (sym one) f.2)
op_stop st a words result q (inr t) (inl f) = cc (t.0, f.0)
op_stop st a words result q (inr t) (inr f) = absurd (no_action words t.1 f.0 f.1)

pub on_fault_found : (st : Outline) (fields : List Word) (reason : Reason) → on_in st fields ≡ Err reason → OnFault st fields reason
unfolding on_in
on_fault_found st [] q e = cc
on_fault_found st (name ∷ []) q e = cc
on_fault_found st (name ∷ word ∷ fields) q e = way (on_words st name word fields) where
  way : OnWords st name word fields (on_in st (name ∷ word ∷ fields)) → OnFault st (name ∷ word ∷ fields) q
  way (inl h) = inl (cc (h.0, e), h.1)
  way (inr h) = inr (h.0, h.1, tried_err h.2 e (λ t. op_err st h.0 (word ∷ fields) _ q t e))

pub on_fault_read : (st : Outline) (fields : List Word) (reason : Reason) → OnFault st fields reason → on_in st fields ≡ Err reason
unfolding on_in
on_fault_read st [] q f = ap (λ (r : Reason). Err r) (sym f)
on_fault_read st (name ∷ []) q f = ap (λ (r : Reason). Err r) (sym f)
on_fault_read st (name ∷ word ∷ fields) q f = way (on_words st name word fields) f where
  way : OnWords st name word fields (on_in st (name ∷ word ∷ fields)) → OnFault st (name ∷ word ∷ fields) q → on_in st (name ∷ word ∷ fields) ≡ Err q
  way (inl h) (inl g) = cc (h.0, g.0)
  way (inl h) (inr g) = absurd (h.1 g.0 g.1)
  way (inr h) (inl g) = absurd (g.1 h.0 h.1)
  way (inr h) (inr g) =
      let one = same_actor st name h.0 g.0 h.1 g.1 in
      let u = subst (λ (x : ℕ). Unless reasons.Word (IsOpOf st x word) q (OpFault st x (word ∷ fields) q)) (sym one) g.2 in
      tried_stop h.2 u (λ t o. op_stop st h.0 (word ∷ fields) _ q t o)
