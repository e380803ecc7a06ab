-- The operation that an action means: its numbers are in range, what it names is declared, it brings no child and makes
-- no handle that another does, and it is one of its actor's kind.
use Rattle.std.proofs.Common.{◌≡◌, ℕ, ◌^◌, ◌<◌, ◌≤◌, true, false, List, [], ◌∷◌, length, slice_get, Contains, refl, sym, ap, subst, Option, Some, None, ◌⊎◌, inl, inr, arith}
use Rattle.std.specs.Prelude.{codes}
use Rattle.std.proofs.lemmas.List.{length_push}
use Rattle.std.proofs.lemmas.List.Elements.{All-push, All-nil}
use Rattle.gup_base.specs.Parts.{Part}
use Rattle.gup_script.specs.declared.op.Kind.{Kind}
use Rattle.gup_script.specs.declared.op.Kind.TheVariants.{Thread, Device, Mover}
use Rattle.gup_script.specs.declared.op.Op.{Op}
use Rattle.gup_script.specs.declared.op.Op.TheVariants.{Pin, Get, Mirror, Fork}
use Rattle.gup_script.specs.Limits.{most_words, most_mirrors}
use Rattle.gup_script.specs.Script.{Actor, process_at}
use Rattle.gup_spec_grammar.specs.Names.{find}
use Rattle.gup_spec_grammar.specs.declared.named.Named.{Named}
use Rattle.gup_spec_grammar.specs.Outline.{Outline, with_handle, with_reference, with_slot, is_child, is_forked}
use Rattle.gup_spec_grammar.specs.Said.{Word, Action, maps, unmaps, protects, discards, loads, stores, exits, pins, gets, puts, forks, unpins, takes, gives, transfers, transfers_parts, mirrors, looks, action_words, op_words, op_words_of, moves}
use Rattle.gup_spec_grammar.specs.Grammar.{NamesProcess, NamesMirror, ActionNames, ActionOnce, DeclaredLimits, want_of, Means, with_declared, first_word}
use Rattle.gup_script.specs.Valid.{IsOp, AreParts, FitsKind, IsOfThread, IsOfDevice, AreDeclared, made_by, IsOfMover}
use Rattle.gup_read.proofs.Following.{none_among}
use Rattle.gup_read.proofs.Forking.{IsForkOf, IsMaking, IsFresh, child_is, fork_makes_none, made_below, unforked}
use Rattle.gup_read.proofs.BuiltParts.{parts_right}
use Rattle.gup_read.proofs.Judged.{IsSlot}
use Rattle.gup_read.proofs.Standing.{Stands}

-- ---- what is true of the operation

-- one part of a transfer
one_part : (i n : ℕ) → i < 2 ^ 32 → 1 ≤ n → n ≤ most_words → AreParts ((i, n) ∷ [])
one_part i n fits some few =
    (All-push (λ (part : Part). (part.0 < 2 ^ 32) × (1 ≤ part.1)) [] (i, n) (All-nil (λ (part : Part). (part.0 < 2 ^ 32) × (1 ≤ part.1))) (fits, some), omega arith, omega arith)

-- a mirror's slot
slot_below : (st : Outline) (word : Word) (m : ℕ) → Stands st → IsSlot st word m → ((n : ℕ) × NamesMirror st word n) ⊎ (length st.script.mirrors < most_mirrors) → m < most_mirrors
slot_below st word m h (inl named) few = let within = h.mirrors_in word m named in let all = h.few_mirrors in omega arith
slot_below st word m h (inr new) (inl n) = let is = n.1.1 in absurd (cc (new.0, is))
slot_below st word m h (inr new) (inr lt) = let same = new.1 in omega arith

pub is_op : (st : Outline) (action : Action) (op : Op) → Stands st → Means st action op → DeclaredLimits st action → IsOp op
is_op st (maps first count rights) op h m few = subst IsOp (sym m.3) (m.2.2, m.2.3, m.2.4)
is_op st (unmaps first count) op h m few = subst IsOp (sym m.3) (m.2.2, m.2.3, m.2.4)
is_op st (protects first count rights) op h m few = subst IsOp (sym m.3) (m.2.2, m.2.3, m.2.4)
is_op st (discards first count) op h m few = subst IsOp (sym m.3) (m.2.2, m.2.3, m.2.4)
is_op st (loads address) op h m few = subst IsOp (sym m.3) (m.2.1, m.2.2)
is_op st (stores address value) op h m few = subst IsOp (sym m.5) (m.3.1, m.3.2, m.4.1)
is_op st exits op h m few = subst IsOp (sym m) tt
is_op st (pins fast handle first count write long) op h m few = subst IsOp (sym m.3) (m.2.2, m.2.3, m.2.4)
is_op st (gets handle page) op h m few = subst IsOp (sym m.2) m.1.1
is_op st (puts handle) op h m few = subst IsOp (sym m.2) tt
is_op st (forks child) op h m few = subst IsOp (sym m.2) tt
is_op st (moves process page zone) op h m few = subst IsOp (sym m.4) m.3.1
is_op st (unpins handle) op h m few = subst IsOp (sym m.2) tt
is_op st (takes handle) op h m few = subst IsOp (sym m.2) tt
is_op st (gives handle to) op h m few = subst IsOp (sym m.4) tt
is_op st (transfers outward handle index slot count) op h m few = subst IsOp (sym m.8) (one_part m.1 m.3 m.5.1 m.7.1 m.7.2, m.6.1)
is_op st (mirrors mirror process page) op h m few = subst IsOp (sym m.6) (slot_below st mirror m.0 h m.3 few, m.5.1)
is_op st (looks mirror word) op h m few =
    let within = h.mirrors_in mirror m.0 m.2 in
    let all = h.few_mirrors in
    subst IsOp (sym m.4) (omega arith, m.3.1)
is_op st (transfers_parts outward handle slot first more) op h m few = subst IsOp (sym m.6) (parts_right first more m.2 m.5, m.4.1)

-- what it names is declared

-- the slot is, where the line declares it, too
slot_declared : (st : Outline) (a : ℕ) (word : Word) (m p page : ℕ) → Stands st → IsSlot st word m → p < length st.script.processes → AreDeclared (with_slot a word (find st.names word) st).script (Mirror m p page)
slot_declared st a word m p page h (inl named) lt = rw named.1 (h.mirrors_in word m named, lt)
slot_declared st a word m p page h (inr new) lt =
    let long = length_push st.script.mirrors word in
    let same = new.1 in
    rw new.0 (omega arith, lt)

pub declared : (st : Outline) (a : ℕ) (action : Action) (op : Op) → Stands st → Means st action op → ActionNames st a action → AreDeclared (with_declared a action st).script op
declared st a (maps first count rights) op h m names = subst (AreDeclared st.script) (sym m.3) tt
declared st a (unmaps first count) op h m names = subst (AreDeclared st.script) (sym m.3) tt
declared st a (protects first count rights) op h m names = subst (AreDeclared st.script) (sym m.3) tt
declared st a (discards first count) op h m names = subst (AreDeclared st.script) (sym m.3) tt
declared st a (loads address) op h m names = subst (AreDeclared st.script) (sym m.3) tt
declared st a (stores address value) op h m names = subst (AreDeclared st.script) (sym m.5) tt
declared st a exits op h m names = subst (AreDeclared st.script) (sym m) tt
declared st a (pins fast handle first count write long) op h m names =
    let long = length_push st.script.handles handle in
    subst (AreDeclared (with_handle handle st).script) (sym m.3) (omega arith)
declared st a (gets handle page) op h m names =
    let long = length_push st.script.handles handle in
    subst (AreDeclared (with_reference handle st).script) (sym m.2) (omega arith)
declared st a (puts handle) op h m names = subst (AreDeclared st.script) (sym m.2) (h.gots_in handle m.0 m.1)
declared st a (forks child) op h m names =
    let one : names.0 ≡ m.0 = cc (names.1, m.1) in
    let is = subst (λ (p : ℕ). is_child st p ≡ true) one names.2 in
    subst (AreDeclared st.script) (sym m.2) (child_is (process_at st.script m.0) is)
declared st a (moves process page zone) op h m names = subst (AreDeclared st.script) (sym m.4) (h.processes_in process m.0 m.2)
declared st a (unpins handle) op h m names = subst (AreDeclared st.script) (sym m.2) (h.pins_in handle m.0 m.1)
declared st a (takes handle) op h m names = subst (AreDeclared st.script) (sym m.2) (h.pins_in handle m.0 m.1)
declared st a (gives handle to) op h m names = subst (AreDeclared st.script) (sym m.4) (h.pins_in handle m.0 m.2, h.actors_in to m.1 m.3)
declared st a (transfers outward handle index slot count) op h m names = subst (AreDeclared st.script) (sym m.8) (h.pins_in handle m.0 m.4)
declared st a (mirrors mirror process page) op h m names =
    let within = h.processes_in process m.1 m.4 in
    subst (AreDeclared (with_slot a mirror (find st.names mirror) st).script) (sym m.6) (slot_declared st a mirror m.0 m.1 m.2 h m.3 within)
declared st a (looks mirror word) op h m names = subst (AreDeclared st.script) (sym m.4) (h.mirrors_in mirror m.0 m.2)
declared st a (transfers_parts outward handle slot first more) op h m names = subst (AreDeclared st.script) (sym m.6) (h.pins_in handle m.0 m.3)

-- ---- forks and pins

-- an operation that brings no child and makes no handle
abbrev IsOther : Op → Type 0
IsOther op = ((child : ℕ) → IsForkOf op child → ⊥) × ((handle : ℕ) → IsMaking op handle → ⊥)

-- the operation is fresh among the actors' others
pub record Fits (actors : List Actor) (op : Op) : Type 0 where
  pub fresh_fork : IsFresh IsForkOf actors op
  pub fresh_handle : IsFresh IsMaking actors op

other_fits : (actors : List Actor) (op : Op) → IsOther op → Fits actors op
other_fits actors op h =
    record {
      fresh_fork = λ a k child is at. h.0 child is;
      fresh_handle = λ a k handle is at. h.1 handle is;
    }

fork_fits : (st : Outline) (child : Word) (p : ℕ) → NamesProcess st child p → ActionOnce st (forks child) → Fits st.script.actors (Fork p)
fork_fits st child p named once =
    record {
      fresh_fork = λ a k number is at.
          let same : once.0 ≡ number = cc (once.1, named, is) in
          unforked st.script.actors number a k (subst (λ (q : ℕ). is_forked st q ≡ false) same once.2) (rw at.2 at at.1);
      fresh_handle = λ a k handle is at. absurd (fork_makes_none (Fork p) p handle refl is);
    }

-- one that makes the next handle
handle_fits : (st : Outline) (op : Op) → made_by op ≡ Some (length st.script.handles) → Stands st → Fits st.script.actors op
handle_fits st op makes h =
    record {
      fresh_fork = λ a k child is at. absurd (fork_makes_none op child (length st.script.handles) is makes);
      fresh_handle = λ a k handle is at.
          let same : length st.script.handles ≡ handle = cc (makes, is) in
          let lt = made_below st.script h.declared a k handle at in
          omega arith;
    }

-- a slot that is declared leaves the actors as they are
pub slot_actors : (st : Outline) (a : ℕ) (name : Word) (o : Option Named) → (with_slot a name o st).script.actors ≡ st.script.actors
slot_actors st a name None = refl
slot_actors st a name (Some what) = refl

pub fits : (st : Outline) (a : ℕ) (action : Action) (op : Op) → Stands st → Means st action op → ActionOnce st action → Fits (with_declared a action st).script.actors op
fits st a (maps first count rights) op h m once = other_fits st.script.actors op (λ child is. absurd (cc (m.3, is)), λ handle is. absurd (let none = ap made_by m.3 in cc (none, is)))
fits st a (unmaps first count) op h m once = other_fits st.script.actors op (λ child is. absurd (cc (m.3, is)), λ handle is. absurd (let none = ap made_by m.3 in cc (none, is)))
fits st a (protects first count rights) op h m once = other_fits st.script.actors op (λ child is. absurd (cc (m.3, is)), λ handle is. absurd (let none = ap made_by m.3 in cc (none, is)))
fits st a (discards first count) op h m once = other_fits st.script.actors op (λ child is. absurd (cc (m.3, is)), λ handle is. absurd (let none = ap made_by m.3 in cc (none, is)))
fits st a (loads address) op h m once = other_fits st.script.actors op (λ child is. absurd (cc (m.3, is)), λ handle is. absurd (let none = ap made_by m.3 in cc (none, is)))
fits st a (stores address value) op h m once = other_fits st.script.actors op (λ child is. absurd (cc (m.5, is)), λ handle is. absurd (let none = ap made_by m.5 in cc (none, is)))
fits st a exits op h m once = other_fits st.script.actors op (λ child is. absurd (cc (m, is)), λ handle is. absurd (let none = ap made_by m in cc (none, is)))
fits st a (pins fast handle first count write long) op h m once = subst (Fits st.script.actors) (sym m.3) (handle_fits st (Pin (length st.script.handles) m.0 m.1 (want_of write long) fast) refl h)
fits st a (gets handle page) op h m once = subst (Fits st.script.actors) (sym m.2) (handle_fits st (Get (length st.script.handles) m.0) refl h)
fits st a (puts handle) op h m once = other_fits st.script.actors op (λ child is. absurd (cc (m.2, is)), λ number is. absurd (let none = ap made_by m.2 in cc (none, is)))
fits st a (forks child) op h m once = subst (Fits st.script.actors) (sym m.2) (fork_fits st child m.0 m.1 once)
fits st a (moves process page zone) op h m once = other_fits st.script.actors op (λ child is. absurd (cc (m.4, is)), λ number is. absurd (let none = ap made_by m.4 in cc (none, is)))
fits st a (unpins handle) op h m once = other_fits st.script.actors op (λ child is. absurd (cc (m.2, is)), λ number is. absurd (let none = ap made_by m.2 in cc (none, is)))
fits st a (takes handle) op h m once = other_fits st.script.actors op (λ child is. absurd (cc (m.2, is)), λ number is. absurd (let none = ap made_by m.2 in cc (none, is)))
fits st a (gives handle to) op h m once = other_fits st.script.actors op (λ child is. absurd (cc (m.4, is)), λ number is. absurd (let none = ap made_by m.4 in cc (none, is)))
fits st a (transfers outward handle index slot count) op h m once = other_fits st.script.actors op (λ child is. absurd (cc (m.8, is)), λ number is. absurd (let none = ap made_by m.8 in cc (none, is)))
fits st a (mirrors mirror process page) op h m once =
    subst (λ (actors : List Actor). Fits actors op) (sym (slot_actors st a mirror (find st.names mirror)))
    (other_fits st.script.actors op (λ child is. absurd (cc (m.6, is)), λ number is. absurd (let none = ap made_by m.6 in cc (none, is))))
fits st a (looks mirror word) op h m once = other_fits st.script.actors op (λ child is. absurd (cc (m.4, is)), λ number is. absurd (let none = ap made_by m.4 in cc (none, is)))
fits st a (transfers_parts outward handle slot first more) op h m once = other_fits st.script.actors op (λ child is. absurd (cc (m.6, is)), λ number is. absurd (let none = ap made_by m.6 in cc (none, is)))

-- ---- the operation is one of its actor's kind

threads : (st : Outline) (action : Action) (op : Op) (p : ℕ) → Means st action op → Contains (op_words (Thread p)) (first_word (action_words action)) → IsOfThread op
threads st (maps first count rights) op p m h = subst IsOfThread (sym m.3) tt
threads st (unmaps first count) op p m h = subst IsOfThread (sym m.3) tt
threads st (protects first count rights) op p m h = subst IsOfThread (sym m.3) tt
threads st (discards first count) op p m h = subst IsOfThread (sym m.3) tt
threads st (loads address) op p m h = subst IsOfThread (sym m.3) tt
threads st (stores address value) op p m h = subst IsOfThread (sym m.5) tt
threads st exits op p m h = subst IsOfThread (sym m) tt
threads st (pins fast handle first count write long) op p m h = subst IsOfThread (sym m.3) tt
threads st (gets handle page) op p m h = subst IsOfThread (sym m.2) tt
threads st (puts handle) op p m h = subst IsOfThread (sym m.2) tt
threads st (forks child) op p m h = subst IsOfThread (sym m.2) tt
threads st (moves process page zone) op p m h = absurd (none_among (op_words (Thread p)) (codes "move") refl h)
threads st (unpins handle) op p m h = subst IsOfThread (sym m.2) tt
threads st (takes handle) op p m h = subst IsOfThread (sym m.2) tt
threads st (gives handle to) op p m h = subst IsOfThread (sym m.4) tt
threads st (transfers true handle index slot count) op p m h = absurd (none_among (op_words (Thread p)) (codes "out") refl h)
threads st (transfers false handle index slot count) op p m h = absurd (none_among (op_words (Thread p)) (codes "in") refl h)
threads st (mirrors mirror process page) op p m h = absurd (none_among (op_words (Thread p)) (codes "mirror") refl h)
threads st (looks mirror word) op p m h = absurd (none_among (op_words (Thread p)) (codes "look") refl h)
threads st (transfers_parts true handle slot first more) op p m h = absurd (none_among (op_words (Thread p)) (codes "outv") refl h)
threads st (transfers_parts false handle slot first more) op p m h = absurd (none_among (op_words (Thread p)) (codes "inv") refl h)

devices : (st : Outline) (action : Action) (op : Op) (slots : ℕ) → Means st action op → Contains (op_words (Device slots)) (first_word (action_words action)) → IsOfDevice op
devices st (maps first count rights) op slots m h = absurd (none_among (op_words (Device slots)) (codes "map") refl h)
devices st (unmaps first count) op slots m h = absurd (none_among (op_words (Device slots)) (codes "unmap") refl h)
devices st (protects first count rights) op slots m h = absurd (none_among (op_words (Device slots)) (codes "protect") refl h)
devices st (discards first count) op slots m h = absurd (none_among (op_words (Device slots)) (codes "discard") refl h)
devices st (loads address) op slots m h = absurd (none_among (op_words (Device slots)) (codes "load") refl h)
devices st (stores address value) op slots m h = absurd (none_among (op_words (Device slots)) (codes "store") refl h)
devices st exits op slots m h = absurd (none_among (op_words (Device slots)) (codes "exit") refl h)
devices st (pins false handle first count write long) op slots m h = absurd (none_among (op_words (Device slots)) (codes "pin") refl h)
devices st (pins true handle first count write long) op slots m h = absurd (none_among (op_words (Device slots)) (codes "pinfast") refl h)
devices st (gets handle page) op slots m h = absurd (none_among (op_words (Device slots)) (codes "get") refl h)
devices st (puts handle) op slots m h = absurd (none_among (op_words (Device slots)) (codes "put") refl h)
devices st (forks child) op slots m h = absurd (none_among (op_words (Device slots)) (codes "fork") refl h)
devices st (moves process page zone) op slots m h = absurd (none_among (op_words (Device slots)) (codes "move") refl h)
devices st (unpins handle) op slots m h = subst IsOfDevice (sym m.2) tt
devices st (takes handle) op slots m h = subst IsOfDevice (sym m.2) tt
devices st (gives handle to) op slots m h = subst IsOfDevice (sym m.4) tt
devices st (transfers outward handle index slot count) op slots m h = subst IsOfDevice (sym m.8) tt
devices st (mirrors mirror process page) op slots m h = subst IsOfDevice (sym m.6) tt
devices st (looks mirror word) op slots m h = subst IsOfDevice (sym m.4) tt
devices st (transfers_parts outward handle slot first more) op slots m h = subst IsOfDevice (sym m.6) tt

movers : (st : Outline) (action : Action) (op : Op) → Means st action op → Contains (op_words Mover) (first_word (action_words action)) → IsOfMover op
movers st (maps first count rights) op m h = absurd (none_among (op_words Mover) (codes "map") refl h)
movers st (unmaps first count) op m h = absurd (none_among (op_words Mover) (codes "unmap") refl h)
movers st (protects first count rights) op m h = absurd (none_among (op_words Mover) (codes "protect") refl h)
movers st (discards first count) op m h = absurd (none_among (op_words Mover) (codes "discard") refl h)
movers st (loads address) op m h = absurd (none_among (op_words Mover) (codes "load") refl h)
movers st (stores address value) op m h = absurd (none_among (op_words Mover) (codes "store") refl h)
movers st exits op m h = absurd (none_among (op_words Mover) (codes "exit") refl h)
movers st (pins false handle first count write long) op m h = absurd (none_among (op_words Mover) (codes "pin") refl h)
movers st (pins true handle first count write long) op m h = absurd (none_among (op_words Mover) (codes "pinfast") refl h)
movers st (gets handle page) op m h = absurd (none_among (op_words Mover) (codes "get") refl h)
movers st (puts handle) op m h = absurd (none_among (op_words Mover) (codes "put") refl h)
movers st (forks child) op m h = absurd (none_among (op_words Mover) (codes "fork") refl h)
movers st (moves process page zone) op m h = subst IsOfMover (sym m.4) tt
movers st (unpins handle) op m h = absurd (none_among (op_words Mover) (codes "unpin") refl h)
movers st (takes handle) op m h = absurd (none_among (op_words Mover) (codes "take") refl h)
movers st (gives handle to) op m h = absurd (none_among (op_words Mover) (codes "give") refl h)
movers st (transfers true handle index slot count) op m h = absurd (none_among (op_words Mover) (codes "out") refl h)
movers st (transfers false handle index slot count) op m h = absurd (none_among (op_words Mover) (codes "in") refl h)
movers st (mirrors mirror process page) op m h = absurd (none_among (op_words Mover) (codes "mirror") refl h)
movers st (looks mirror word) op m h = absurd (none_among (op_words Mover) (codes "look") refl h)
movers st (transfers_parts true handle slot first more) op m h = absurd (none_among (op_words Mover) (codes "outv") refl h)
movers st (transfers_parts false handle slot first more) op m h = absurd (none_among (op_words Mover) (codes "inv") refl h)

kind_fits : (st : Outline) (action : Action) (op : Op) (kind : Kind) → Means st action op → Contains (op_words kind) (first_word (action_words action)) → FitsKind kind op
kind_fits st action op (Thread p) m h = threads st action op p m h
kind_fits st action op (Device slots) m h = devices st action op slots m h
kind_fits st action op Mover m h = movers st action op m h

abbrev pub FitsAt : List Actor → ℕ → Op → Type 0
FitsAt actors k op = (actor : Actor) × (slice_get actors k ≡ Some actor) × FitsKind actor.kind op

pub fits_at : (st : Outline) (action : Action) (op : Op) (o : Option Actor) → Means st action op → Contains (op_words_of o) (first_word (action_words action)) → (actor : Actor) × (o ≡ Some actor) × FitsKind actor.kind op
fits_at st action op None m h = let lt = h.1 in absurd (omega arith)
fits_at st action op (Some actor) m h = (actor, refl, kind_fits st action op actor.kind m h)
