-- The names of a script are spelled as names and apart: carried along its lines.
use Rattle.std.proofs.Common.{◌≡◌, ◌⊎◌, ℕ, zero, suc, ◌<◌, true, false, Bool, List, [], ◌∷◌, length, slice_get, refl, sym, ap, subst, ◌∙◌, Option, Some, None, inl, inr, arith}
use Rattle.gup_script.specs.declared.op.Kind.{Kind}
use Rattle.gup_script.specs.declared.op.Kind.TheVariants.{Thread, Device, Mover}
use Rattle.gup_script.specs.declared.op.Op.{Op}
use Rattle.gup_script.specs.Script.{ScriptValue, Process, Actor, FrameCounts}
use Rattle.gup_spec_grammar.specs.Names.{find}
use Rattle.gup_spec_grammar.specs.declared.named.Named.{Named}
use Rattle.gup_spec_grammar.specs.declared.named.Named.TheVariants as named
use Rattle.gup_spec_grammar.specs.Said.{Word, Said, a_process, a_child, a_thread, a_device, a_mover, a_seed, some_turns, random_turns, Action, pins, gets, mirrors}
use Rattle.gup_spec_grammar.specs.Spelling.{IsName, parts}
use Rattle.gup_spec_grammar.specs.Outline.{Outline, empty_outline, with_process, with_actor, with_handle, with_reference, with_mirror, with_slot, with_op, with_operation}
use Rattle.gup_spec_grammar.specs.Grammar.{IsUnused, IsMirrorOf, ActionNames, ActionOnce, Declares, Does, with_declared, IsNext, IsSaid, Stage, before_head, before_frames, open_at, IsRightLine, AreRightLines, Accepts}
use Rattle.gup_lines.specs.Text.{name_in, process_name, handle_name}
use Rattle.gup_spec_trace.specs.Names.{AreNames}
use Rattle.gup_law_names.proofs.Standing.{Stand, stand_still, stand_more, stand_once}

-- what a name names, by the number

abbrev IsProcessNo : ℕ → Named → Type 0
IsProcessNo p x = x ≡ named.Process p

abbrev IsActorNo : ℕ → Named → Type 0
IsActorNo a x = x ≡ named.Actor a

abbrev IsHandleNo : ℕ → Named → Type 0
IsHandleNo h x = (x ≡ named.Pin h) ⊎ (x ≡ named.Got h)

abbrev IsSlotNo : ℕ → Named → Type 0
IsSlotNo m x = (device : ℕ) × (x ≡ named.Mirror m device)

one_process : (p q : ℕ) (x : Named) → IsProcessNo p x → IsProcessNo q x → p ≡ q
one_process p q x e f = cc

one_actor : (a b : ℕ) (x : Named) → IsActorNo a x → IsActorNo b x → a ≡ b
one_actor a b x e f = cc

one_handle : (h g : ℕ) (x : Named) → IsHandleNo h x → IsHandleNo g x → h ≡ g
one_handle h g x (inl e) (inl f) = cc
one_handle h g x (inl e) (inr f) = absurd cc
one_handle h g x (inr e) (inl f) = absurd cc
one_handle h g x (inr e) (inr f) = cc

one_slot : (m n : ℕ) (x : Named) → IsSlotNo m x → IsSlotNo n x → m ≡ n
one_slot m n x e f = let a = e.1 in let b = f.1 in cc

-- all that the lines so far have declared stands under its name
record AreNamed (st : Outline) : Type 0 where
  processes : Stand st.names IsProcessNo process_name st.script.processes
  actors : Stand st.names IsActorNo name_in st.script.actors
  handles : Stand st.names IsHandleNo handle_name st.script.handles
  slots : Stand st.names IsSlotNo handle_name st.script.mirrors

named_empty : (counts : FrameCounts) → AreNamed (empty_outline counts)
named_empty counts = record {
  processes = λ k lt. absurd (omega arith);
  actors = λ k lt. absurd (omega arith);
  handles = λ k lt. absurd (omega arith);
  slots = λ k lt. absurd (omega arith);
}

-- ---- what a line declares

named_process : (st : Outline) (name : Word) (born : Bool) → AreNamed st → IsName name → IsUnused st name → AreNamed (with_process name born st)
named_process st name born h spelled unused =
    let x : Named = named.Process (length st.script.processes) in
    let process : Process = record { name = name; born = born } in
    record {
      processes = stand_more st.names name x IsProcessNo process_name st.script.processes process h.processes spelled unused refl refl;
      actors = stand_still st.names name x IsActorNo name_in st.script.actors h.actors;
      handles = stand_still st.names name x IsHandleNo handle_name st.script.handles h.handles;
      slots = stand_still st.names name x IsSlotNo handle_name st.script.mirrors h.slots;
    }

named_actor : (st : Outline) (name : Word) (kind : Kind) → AreNamed st → IsName name → IsUnused st name → AreNamed (with_actor name kind st)
named_actor st name kind h spelled unused =
    let x : Named = named.Actor (length st.script.actors) in
    let actor : Actor = record { name = name; kind = kind; ops = [] } in
    record {
      processes = stand_still st.names name x IsProcessNo process_name st.script.processes h.processes;
      actors = stand_more st.names name x IsActorNo name_in st.script.actors actor h.actors spelled unused refl refl;
      handles = stand_still st.names name x IsHandleNo handle_name st.script.handles h.handles;
      slots = stand_still st.names name x IsSlotNo handle_name st.script.mirrors h.slots;
    }

named_handle : (st : Outline) (name : Word) → AreNamed st → IsName name → IsUnused st name → AreNamed (with_handle name st)
named_handle st name h spelled unused =
    let x : Named = named.Pin (length st.script.handles) in
    record {
      processes = stand_still st.names name x IsProcessNo process_name st.script.processes h.processes;
      actors = stand_still st.names name x IsActorNo name_in st.script.actors h.actors;
      handles = stand_more st.names name x IsHandleNo handle_name st.script.handles name h.handles spelled unused refl (inl refl);
      slots = stand_still st.names name x IsSlotNo handle_name st.script.mirrors h.slots;
    }

named_reference : (st : Outline) (name : Word) → AreNamed st → IsName name → IsUnused st name → AreNamed (with_reference name st)
named_reference st name h spelled unused =
    let x : Named = named.Got (length st.script.handles) in
    record {
      processes = stand_still st.names name x IsProcessNo process_name st.script.processes h.processes;
      actors = stand_still st.names name x IsActorNo name_in st.script.actors h.actors;
      handles = stand_more st.names name x IsHandleNo handle_name st.script.handles name h.handles spelled unused refl (inr refl);
      slots = stand_still st.names name x IsSlotNo handle_name st.script.mirrors h.slots;
    }

named_mirror : (st : Outline) (device : ℕ) (name : Word) → AreNamed st → IsName name → IsUnused st name → AreNamed (with_mirror device name st)
named_mirror st device name h spelled unused =
    let x : Named = named.Mirror (length st.script.mirrors) device in
    record {
      processes = stand_still st.names name x IsProcessNo process_name st.script.processes h.processes;
      actors = stand_still st.names name x IsActorNo name_in st.script.actors h.actors;
      handles = stand_still st.names name x IsHandleNo handle_name st.script.handles h.handles;
      slots = stand_more st.names name x IsSlotNo handle_name st.script.mirrors name h.slots spelled unused refl (device, refl);
    }

-- of a name that names one already, or nothing yet
named_slot : (st : Outline) (device : ℕ) (name : Word) (o : Option Named) → find st.names name ≡ o → AreNamed st → (IsName name × IsUnused st name) ⊎ IsMirrorOf st device name → AreNamed (with_slot device name o st)
named_slot st device name None e h (inl new) = named_mirror st device name h new.0 new.1
named_slot st device name None e h (inr old) = let is = old.1 in absurd (cc (e, is))
named_slot st device name (Some what) e h new = h

named_made : (st : Outline) (a : ℕ) (action : Action) → AreNamed st → ActionNames st a action → ActionOnce st action → AreNamed (with_declared a action st)
named_made st a (pins fast handle first count write long) h spelled unused = named_handle st handle h spelled unused
named_made st a (gets handle page) h spelled unused = named_reference st handle h spelled unused
named_made st a (mirrors mirror process page) h names once = named_slot st a mirror (find st.names mirror) refl h names.0
named_made st a _ h names once = h

-- ---- one more operation

length_with_op : (k : ℕ) (op : Op) (actors : List Actor) → length (with_op k op actors) ≡ length actors
length_with_op k op [] = refl
length_with_op zero op (a ∷ actors) = refl
length_with_op (suc k) op (a ∷ actors) = let rest = length_with_op k op actors in omega arith

name_with_op : (k : ℕ) (op : Op) (actors : List Actor) (a : ℕ) → name_in (slice_get (with_op k op actors) a) ≡ name_in (slice_get actors a)
name_with_op k op [] a = refl
name_with_op zero op (actor ∷ actors) zero = refl
name_with_op zero op (actor ∷ actors) (suc a) = refl
name_with_op (suc k) op (actor ∷ actors) zero = refl
name_with_op (suc k) op (actor ∷ actors) (suc a) = name_with_op k op actors a

named_operation : (st : Outline) (k : ℕ) (op : Op) → AreNamed st → AreNamed (with_operation k op st)
named_operation st k op h = record {
  processes = h.processes;
  actors = λ a lt.
      let few : a < length st.script.actors = subst (λ n. a < n) (length_with_op k op st.script.actors) lt in
      let old = h.actors a few in
      record {
        spelled = subst IsName (sym (name_with_op k op st.script.actors a)) old.spelled;
        named = old.named;
        found = ap (find st.names) (name_with_op k op st.script.actors a) ∙ old.found;
        is = old.is;
      };
  handles = h.handles;
  slots = h.slots;
}

-- ---- lines

named_does : (st next : Outline) (a : ℕ) (action : Action) → AreNamed st → Does st a action next → AreNamed next
named_does st next a action h d =
    let op = d.5 in
    subst AreNamed (sym op.2) (named_operation (with_declared a action st) a op.0 (named_made st a action h d.2 d.3))

named_declared : (st next : Outline) (said : Said) → AreNamed st → Declares st said next → AreNamed next
named_declared st next (a_process name) h d = subst AreNamed (sym d.4) (named_process st name true h d.1 d.2)
named_declared st next (a_child name) h d = subst AreNamed (sym d.4) (named_process st name false h d.1 d.2)
named_declared st next (a_thread name process) h d =
    let b = d.4 in subst AreNamed (sym b.2) (named_actor st name (Thread b.0) h d.1.0 d.2)
named_declared st next (a_device name slots) h d =
    let b = d.4 in subst AreNamed (sym b.2) (named_actor st name (Device b.0) h d.1 d.2)
named_declared st next (a_mover name) h d = subst AreNamed (sym d.4) (named_actor st name Mover h d.1 d.2.0)
named_declared st next (a_seed number) h d =
    subst AreNamed (sym d.4.2) (record { processes = h.processes; actors = h.actors; handles = h.handles; slots = h.slots })
named_declared st next (some_turns first more) h d =
    subst AreNamed (sym d.4.2) (record { processes = h.processes; actors = h.actors; handles = h.handles; slots = h.slots })
named_declared st next (random_turns start count) h d =
    subst AreNamed (sym d.4.4) (record { processes = h.processes; actors = h.actors; handles = h.handles; slots = h.slots })

abbrev AreNamedAt : Stage → Type 0
AreNamedAt before_head = Unit {0}
AreNamedAt before_frames = Unit {0}
AreNamedAt (open_at st) = AreNamed st

named_next : (st next : Outline) (words : List Word) → AreNamed st → IsNext st words next → AreNamed next
named_next st next words h (inl s) = named_declared st next s.0 h s.2
named_next st next words h (inr o) = named_does st next o.1 o.2 h o.6

named_said : (stage next : Stage) (words : List Word) → AreNamedAt stage → IsSaid stage words next → AreNamedAt next
named_said before_head next words h s = subst AreNamedAt (sym s.1) tt
named_said before_frames next words h s = subst AreNamedAt (sym s.2) (named_empty s.0)
named_said (open_at st) next words h s = subst AreNamedAt (sym s.2) (named_next st s.0 words h s.1)

named_line : (stage next : Stage) (line : List ℕ) → AreNamedAt stage → IsRightLine stage line next → AreNamedAt next
named_line stage next line h r = elim r.1 [
  | inl passed ↦ subst AreNamedAt (sym passed.1) h
  | inr said ↦ named_said stage next (parts 32 line) h said.1
]

named_lines : (stage next : Stage) (lines : List (List ℕ)) → AreNamedAt stage → AreRightLines stage lines next → AreNamedAt next
named_lines stage next [] h r = subst AreNamedAt (sym r) h
named_lines stage next (line ∷ lines) h r = named_lines r.0 next lines (named_line stage r.0 line h r.1) r.2

-- ---- scripts

named_script : (st : Outline) → AreNamed st → AreNames st.script
named_script st h =
    let s = st.script in
    record {
      actors = λ a is. (h.actors a is).spelled;
      processes = λ p is. (h.processes p is).spelled;
      handles = λ n is. (h.handles n is).spelled;
      slots = λ m is. (h.slots m is).spelled;
      one_actor = stand_once st.names IsActorNo name_in s.actors h.actors one_actor;
      one_process = stand_once st.names IsProcessNo process_name s.processes h.processes one_process;
      one_handle = stand_once st.names IsHandleNo handle_name s.handles h.handles one_handle;
      one_slot = stand_once st.names IsSlotNo handle_name s.mirrors h.slots one_slot;
    }

pub accepted_names : (text : List ℕ) (script : ScriptValue) → Accepts text script → AreNames script
accepted_names text script h =
    let s = h.0 in
    subst AreNames (sym s.4) (named_script s.1 (named_lines before_head (open_at s.1) s.0 tt s.3))
