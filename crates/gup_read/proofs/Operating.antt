-- One more operation of an actor: what is true of every outline stays so.
use Rattle.std.proofs.Common.{◌≡◌, ℕ, zero, suc, ◌+◌, ◌<◌, Bool, cond, List, [], ◌∷◌, ◌++◌, length, append-nil, Option, Some, None, All, sum_by, count_by, refl, sym, ap, subst, ◌∙◌, arith}
use Rattle.std.specs.List.{AllByRecursion}
use Rattle.std.proofs.lemmas.List.{length_push}
use Rattle.std.proofs.lemmas.List.Elements.{All-push}
use Rattle.std.proofs.lemmas.List.Sums.{sum_by-cons}
use Rattle.gup_script.specs.declared.op.Kind.{Kind}
use Rattle.gup_script.specs.declared.op.Op.{Op}
use Rattle.gup_script.specs.Script.{Actor, actor_at, is_thread}
use Rattle.gup_spec_grammar.specs.Outline.{Outline, with_slot, with_op, with_operation, is_device, is_mover}
use Rattle.gup_script.specs.Limits.{most_operations}
use Rattle.gup_spec_grammar.specs.Names.{find}
use Rattle.gup_spec_grammar.specs.declared.named.Named.{Named}
use Rattle.gup_spec_grammar.specs.Said.{Word, Action, pins, gets, mirrors, action_words}
use Rattle.gup_spec_grammar.specs.Grammar.{DeclaredLimits, with_declared, IsOpOf, Does, first_word}
use Rattle.gup_script.specs.Valid.{IsOp, KindFits, FitsKind, AreDeclared}
use Rattle.gup_read.proofs.Verdicts.{same_given}
use Rattle.gup_read.proofs.Lists.{each_like}
use Rattle.gup_read.proofs.Forking.{IsForkOf, IsMaking, declared_stay, op_once}
use Rattle.gup_read.proofs.Standing.{Stands, kind_fits, stands_handle, stands_reference, stands_slot}
use Rattle.gup_read.proofs.Meant.{Fits, FitsAt, slot_actors, is_op, declared, fits, fits_at}

-- ---- the actors with one more operation

with_op_length : (k : ℕ) (op : Op) (actors : List Actor) → length (with_op k op actors) ≡ length actors
with_op_length k op [] = refl
with_op_length zero op (a ∷ actors) = refl
with_op_length (suc k) op (a ∷ actors) = let rest = with_op_length k op actors in omega arith

with_op_kinds : (P : Kind → Type 0) (k : ℕ) (op : Op) (actors : List Actor) → AllByRecursion (λ (a : Actor). P a.kind) actors → AllByRecursion (λ (a : Actor). P a.kind) (with_op k op actors)
with_op_kinds P k op [] h = tt
with_op_kinds P zero op (a ∷ actors) h = h
with_op_kinds P (suc k) op (a ∷ actors) h = (h.0, with_op_kinds P k op actors h.1)

with_op_ops : (P : Op → Type 0) (k : ℕ) (op : Op) (actors : List Actor) → P op → AllByRecursion (λ (a : Actor). All P a.ops) actors → AllByRecursion (λ (a : Actor). All P a.ops) (with_op k op actors)
with_op_ops P k op [] is h = tt
with_op_ops P zero op (a ∷ actors) is h = (All-push P a.ops op h.0 is, h.1)
with_op_ops P (suc k) op (a ∷ actors) is h = (h.0, with_op_ops P k op actors is h.1)

with_op_fit : (k : ℕ) (op : Op) (actors : List Actor) → FitsAt actors k op → AllByRecursion (λ (a : Actor). All (FitsKind a.kind) a.ops) actors → AllByRecursion (λ (a : Actor). All (FitsKind a.kind) a.ops) (with_op k op actors)
with_op_fit k op [] t h = tt
with_op_fit zero op (a ∷ actors) t h =
    let same : a ≡ t.0 = same_given a t.0 t.1 in
    let fit : FitsKind a.kind op = subst (λ (b : Actor). FitsKind b.kind op) (sym same) t.2 in
    (All-push (FitsKind a.kind) a.ops op h.0 fit, h.1)
with_op_fit (suc k) op (a ∷ actors) t h = (h.0, with_op_fit k op actors t h.1)

with_op_count : (test : Kind → Bool) (k : ℕ) (op : Op) (actors : List Actor) → count_by (λ (a : Actor). test a.kind) (with_op k op actors) ≡ count_by (λ (a : Actor). test a.kind) actors
with_op_count test k op [] = refl
with_op_count test zero op (a ∷ actors) = refl
with_op_count test (suc k) op (a ∷ actors) =
    let one = λ (b : Actor). cond (test b.kind) 1 0 in
    sum_by-cons one a (with_op k op actors) ∙ ap (λ n. one a + n) (with_op_count test k op actors) ∙ sym (sum_by-cons one a actors)

with_op_sum : (k : ℕ) (op : Op) (actors : List Actor) → FitsAt actors k op → sum_by (λ (a : Actor). length a.ops) (with_op k op actors) ≡ sum_by (λ (a : Actor). length a.ops) actors + 1
with_op_sum k op [] t = let e = t.1 in absurd cc
with_op_sum zero op (a ∷ actors) t =
    let longer : Actor = record a { ops = a.ops ++ op ∷ [] } in
    omega (arith, length_push a.ops op, sum_by-cons (λ (b : Actor). length b.ops) a actors, sum_by-cons (λ (b : Actor). length b.ops) longer actors)
with_op_sum (suc k) op (a ∷ actors) t =
    let rest = with_op_sum k op actors t in
    omega (arith, sum_by-cons (λ (b : Actor). length b.ops) a actors, sum_by-cons (λ (b : Actor). length b.ops) a (with_op k op actors))

stands_operation : (st : Outline) (k : ℕ) (op : Op) → Stands st → IsOp op → AreDeclared st.script op → Fits st.script.actors op → FitsAt st.script.actors k op → st.operations < most_operations → Stands (with_operation k op st)
stands_operation st k op h is here fit t few =
    let next = with_operation k op st in
    let actors = st.script.actors in
    let long : length next.script.actors ≡ length actors = with_op_length k op actors in
    record {
      processes_in = h.processes_in;
      actors_in = λ word a e. let lt = h.actors_in word a e in omega arith;
      pins_in = h.pins_in;
      gots_in = h.gots_in;
      mirrors_in = h.mirrors_in;
      few_frames = h.few_frames;
      few_tables = h.few_tables;
      few_processes = h.few_processes;
      few_threads = let count = with_op_count is_thread k op actors in let old = h.few_threads in omega arith;
      few_devices = let count = with_op_count is_device k op actors in let old = h.few_devices in omega arith;
      few_movers = let count = with_op_count is_mover k op actors in let old = h.few_movers in omega arith;
      few_handles = h.few_handles;
      few_mirrors = h.few_mirrors;
      kinds = with_op_kinds (KindFits next.script) k op actors (each_like (λ (a : Actor). KindFits st.script a.kind) (λ (a : Actor). KindFits next.script a.kind) actors (λ a. kind_fits st.script next.script (omega arith) a.kind) h.kinds);
      ops = with_op_ops IsOp k op actors is h.ops;
      ops_fit = with_op_fit k op actors t h.ops_fit;
      declared = declared_stay st.script next.script [] (sym (append-nil st.script.processes)) (omega arith) (omega arith) (omega arith) next.script.actors (with_op_ops (AreDeclared st.script) k op actors here h.declared);
      forks_once = op_once IsForkOf actors k op fit.fresh_fork h.forks_once;
      handles_once = op_once IsMaking actors k op fit.fresh_handle h.handles_once;
      counted = let sum = with_op_sum k op actors t in let old = h.counted in omega arith;
      few_ops = omega arith;
      turns = each_like (λ a. a < length actors) (λ a. a < length next.script.actors) st.script.turns (λ a lt. omega arith) h.turns;
      few_turns = h.few_turns;
    }

-- ---- what the action declares

made_stands : (st : Outline) (a : ℕ) (action : Action) → Stands st → DeclaredLimits st action → Stands (with_declared a action st)
made_stands st a (pins fast handle first count write long) h few = stands_handle st handle h few
made_stands st a (gets handle page) h few = stands_reference st handle h few
made_stands st a (mirrors mirror process page) h few = stands_slot st a mirror (find st.names mirror) refl h few
made_stands st a _ h few = h

same_operations_slot : (st : Outline) (a : ℕ) (name : Word) (o : Option Named) → (with_slot a name o st).operations ≡ st.operations
same_operations_slot st a name None = refl
same_operations_slot st a name (Some what) = refl

pub same_actors : (st : Outline) (a : ℕ) (action : Action) → (with_declared a action st).script.actors ≡ st.script.actors
same_actors st a (pins fast handle first count write long) = refl
same_actors st a (gets handle page) = refl
same_actors st a (mirrors mirror process page) = slot_actors st a mirror (find st.names mirror)
same_actors st a _ = refl

pub same_operations : (st : Outline) (a : ℕ) (action : Action) → (with_declared a action st).operations ≡ st.operations
same_operations st a (pins fast handle first count write long) = refl
same_operations st a (gets handle page) = refl
same_operations st a (mirrors mirror process page) = same_operations_slot st a mirror (find st.names mirror)
same_operations st a _ = refl

pub stands_does : (st next : Outline) (a : ℕ) (action : Action) → Stands st → IsOpOf st a (first_word (action_words action)) → Does st a action next → Stands next
stands_does st next a action h of d =
    let op = d.5 in
    let after = with_declared a action st in
    let t = fits_at st action op.0 (actor_at st.script a) op.1 of in
    let at : FitsAt after.script.actors a op.0 = subst (λ (actors : List Actor). FitsAt actors a op.0) (sym (same_actors st a action)) t in
    let few : after.operations < most_operations = subst (λ (n : ℕ). n < most_operations) (sym (same_operations st a action)) d.4.1 in
    let fit : Fits after.script.actors op.0 = fits st a action op.0 h op.1 d.3 in
    subst Stands (sym op.2) (stands_operation after a op.0 (made_stands st a action h d.4.0) (is_op st action op.0 h op.1 d.4.0) (declared st a action op.0 h op.1 d.2) fit at few)
