-- The actors of a reader: how many there are of each kind, and what one more operation changes.
use Rattle.std.proofs.Common.{◌≡◌, ℕ, zero, suc, ◌+◌, ◌<◌, ◌≤◌, Bool, true, false, cond, ◌||◌, List, [], ◌∷◌, ◌++◌, length, map, get_or, refl, sym, ap, ◌∙◌, subst, zero-add, arith}
use Rattle.std.specs.Prelude.{count_by}
use Rattle.std.specs.List.{list_any}
use Rattle.std.proofs.Math.ListN.{set}
use Rattle.std.proofs.Math.Seq.{map-set_same}
use Rattle.std.proofs.lemmas.List.Sums.{sum_by-append, sum_by-cons}
use Rattle.gup_script.specs.declared.script.Actor.{Actor as Fields}
use Rattle.gup_script.specs.declared.op.Kind.{Kind}
use Rattle.gup_script.specs.declared.op.Kind.TheVariants.{Thread, Device, Mover}
use Rattle.gup_script.specs.declared.op.Op.{Op}
use Rattle.gup_script.specs.Script.{Actor, is_thread}
use Rattle.gup_spec_grammar.specs.Outline.{Outline, is_device, is_mover, how_many, with_op, with_actor, with_operation}
use Rattle.gup_read_outline.specs.Room.{IsWithin, HasRoomFor}
use Rattle.gup_script.specs.Views.{actor_value}

-- how many actors of a list pass a test of kinds, as fields and as values
abbrev pub count_fields : (Kind → Bool) → List Fields → ℕ
count_fields test actors = count_by (λ (a : Fields). test a.kind) actors

abbrev pub count_kinds : (Kind → Bool) → List Actor → ℕ
count_kinds test actors = count_by (λ (a : Actor). test a.kind) actors

count_cons : (test : Kind → Bool) (a : Actor) (actors : List Actor) → count_kinds test (a ∷ actors) ≡ cond (test a.kind) 1 0 + count_kinds test actors
count_cons test a actors = sum_by-cons (λ (x : Actor). cond (test x.kind) 1 0) a actors

fields_cons : (test : Kind → Bool) (a : Fields) (actors : List Fields) → count_fields test (a ∷ actors) ≡ cond (test a.kind) 1 0 + count_fields test actors
fields_cons test a actors = sum_by-cons (λ (x : Fields). cond (test x.kind) 1 0) a actors

pub counted : (test : Kind → Bool) (actors : List Fields) → count_kinds test (map actor_value actors) ≡ count_fields test actors
counted test [] = refl
counted test (a ∷ actors) =
    count_cons test (actor_value a) (map actor_value actors)
    ∙ ap (λ n. cond (test a.kind) 1 0 + n) (counted test actors)
    ∙ sym (fields_cons test a actors)

pub any_found : (test : Actor → Bool) (actors : List Fields) → list_any test (map actor_value actors) ≡ list_any (λ (a : Fields). test (actor_value a)) actors
any_found test [] = refl
any_found test (a ∷ actors) = rw (any_found test actors) refl

-- each actor is of one kind
one_kind : (k : Kind) → 1 ≡ cond (is_thread k) 1 0 + cond (is_device k) 1 0 + cond (is_mover k) 1 0
one_kind (Thread p) = refl
one_kind (Device slots) = refl
one_kind Mover = refl

all_kinds : (actors : List Actor) → length actors ≡ count_kinds is_thread actors + count_kinds is_device actors + count_kinds is_mover actors
all_kinds [] = refl
all_kinds (a ∷ actors) =
    omega (arith, all_kinds actors, one_kind a.kind, count_cons is_thread a actors, count_cons is_device a actors, count_cons is_mover a actors)

pub few_actors : (st : Outline) → IsWithin st → length st.script.actors ≤ 81
few_actors st h = omega (arith, all_kinds st.script.actors)

true_or : (b : Bool) (k : Kind) → is_mover k ≡ true → (is_mover k || b) ≡ false → ⊥
true_or b Mover here e = absurd cc
true_or b (Thread p) here e = absurd cc
true_or b (Device slots) here e = absurd cc

-- where no actor is a mover, none is counted
no_movers : (actors : List Actor) → list_any (λ (a : Actor). is_mover a.kind) actors ≡ false → count_kinds is_mover actors ≡ 0
no_movers [] e = refl
no_movers (a ∷ actors) e = first (is_mover a.kind) refl (no_movers actors) where
  first : (b : Bool) → is_mover a.kind ≡ b → (list_any (λ (x : Actor). is_mover x.kind) actors ≡ false → count_kinds is_mover actors ≡ 0) → count_kinds is_mover (a ∷ actors) ≡ 0
  first true here rest = absurd (true_or _ a.kind here e)
  first false here rest = count_cons is_mover a actors ∙ rw here (zero-add _ ∙ rest (rw here at e))

-- room for one more actor of a kind is room for its number
pub number_left : (k : Kind) (st : Outline) → IsWithin st → HasRoomFor k st → length st.script.actors < 81
number_left (Thread p) st h room = omega (arith, all_kinds st.script.actors)
number_left (Device slots) st h room = omega (arith, all_kinds st.script.actors)
number_left Mover st h room = omega (arith, all_kinds st.script.actors, no_movers st.script.actors room)

one_more : (test : Kind → Bool) (name : List ℕ) (k : Kind) (st : Outline) → how_many test (with_actor name k st) ≡ how_many test st + (0 + cond (test k) 1 0)
one_more test name k st = sum_by-append (λ (a : Actor). cond (test a.kind) 1 0) st.script.actors (record { name = name; kind = k; ops = [] } ∷ [])

pub actor_added : (name : List ℕ) (k : Kind) (st : Outline) → IsWithin st → HasRoomFor k st → IsWithin (with_actor name k st)
actor_added name (Thread p) st h room =
    record {
      threads = omega (arith, one_more is_thread name (Thread p) st);
      devices = omega (arith, one_more is_device name (Thread p) st);
      movers = omega (arith, one_more is_mover name (Thread p) st);
    }
actor_added name (Device slots) st h room =
    record {
      threads = omega (arith, one_more is_thread name (Device slots) st);
      devices = omega (arith, one_more is_device name (Device slots) st);
      movers = omega (arith, one_more is_mover name (Device slots) st);
    }
actor_added name Mover st h room =
    record {
      threads = omega (arith, one_more is_thread name Mover st);
      devices = omega (arith, one_more is_device name Mover st);
      movers = omega (arith, one_more is_mover name Mover st, no_movers st.script.actors room);
    }

-- one more operation, among fields and among values
pub op_added : (actors : List Fields) (i : ℕ) (x y : Fields) (op : Op) → i < length actors → x ≡ get_or actors i x → actor_value y ≡ record (actor_value x) { ops = x.ops.items ++ op ∷ [] } → map actor_value (set actors i y) ≡ with_op i op (map actor_value actors)
op_added [] i x y op h is e = absurd (omega arith)
op_added (a ∷ actors) zero x y op h is e =
    subst (λ (b : Fields). actor_value y ∷ map actor_value actors ≡ record (actor_value b) { ops = b.ops.items ++ op ∷ [] } ∷ map actor_value actors) is (ap (λ v. v ∷ map actor_value actors) e)
op_added (a ∷ actors) (suc i) x y op h is e = ap (λ vs. actor_value a ∷ vs) (op_added actors i x y op (omega arith) is e)

-- the actors' kinds stay
same_kinds : (test : Kind → Bool) (i : ℕ) (op : Op) (actors : List Actor) → count_kinds test (with_op i op actors) ≡ count_kinds test actors
same_kinds test i op [] = refl
same_kinds test zero op (a ∷ actors) = count_cons test (record a { ops = a.ops ++ op ∷ [] }) actors ∙ sym (count_cons test a actors)
same_kinds test (suc i) op (a ∷ actors) =
    count_cons test a (with_op i op actors)
    ∙ ap (λ n. cond (test a.kind) 1 0 + n) (same_kinds test i op actors)
    ∙ sym (count_cons test a actors)

pub operation_added : (i : ℕ) (op : Op) (st : Outline) → IsWithin st → IsWithin (with_operation i op st)
operation_added i op st h =
    record {
      threads = omega (arith, same_kinds is_thread i op st.script.actors, h.threads);
      devices = omega (arith, same_kinds is_device i op st.script.actors, h.devices);
      movers = omega (arith, same_kinds is_mover i op st.script.actors, h.movers);
    }

-- only the actors count
pub same_actors : (st next : Outline) → next.script.actors ≡ st.script.actors → IsWithin st → IsWithin next
same_actors st next e h =
    record {
      threads = rw e h.threads;
      devices = rw e h.devices;
      movers = rw e h.movers;
    }

-- an actor whose operations stayed as they were
pub op_refused : (actors : List Fields) (i : ℕ) (x y : Fields) → x ≡ get_or actors i x → actor_value y ≡ actor_value x → map actor_value (set actors i y) ≡ map actor_value actors
op_refused actors i x y is e = map-set_same actor_value actors i y x (e ∙ ap actor_value is)
