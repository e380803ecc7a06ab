-- Every script that is read is valid.
use Rattle.std.proofs.Common.{◌≡◌, ◌⊎◌, ℕ, zero, suc, ◌+◌, ◌<◌, ◌≤◌, true, false, cond, All, List, [], ◌∷◌, length, replicate, refl, sym, ap, subst, ◌∙◌, Ok, inl, inr, arith}
use Rattle.std.specs.List.{AllByRecursion}
use Rattle.std.proofs.Math.Nat.{mod-lt}
use Rattle.std.proofs.lemmas.List.Elements.{All-from_recursion}
use Rattle.gup_spec_grammar.specs.Spelling.{IsNumber, parts}
use Rattle.gup_read_words.proofs.SpelledNumbers.{number_read}
use Rattle.gup_read_words.specs.Text.{number_in}
use Rattle.gup_script.specs.declared.op.Kind.{Kind}
use Rattle.gup_script.specs.declared.op.Kind.TheVariants.{Thread, Device, Mover}
use Rattle.gup_script.specs.declared.op.Op.TheVariants.{Fork}
use Rattle.gup_script.specs.Script.{ScriptValue, Actor, is_thread}
use Rattle.gup_spec_grammar.specs.Outline.{Outline, is_device, is_mover, draws, next_state}
use Rattle.gup_spec_grammar.specs.Said.{Word, Said, a_process, a_child, a_thread, a_device, a_mover, a_seed, some_turns, random_turns}
use Rattle.gup_spec_grammar.specs.Grammar.{AreTurnWords, Declares, IsNext, IsSaid, Stage, before_head, before_frames, open_at, IsRightLine, AreRightLines, Accepts}
use Rattle.gup_read.specs.Reading.{reading}
use Rattle.gup_script.specs.Valid.{IsOp, KindFits, FitsKind, AreDeclared, IsScript}
use Rattle.gup_read.proofs.Declaring.{one_found}
use Rattle.gup_read.proofs.Turning.{turns_are}
use Rattle.gup_read.proofs.Lists.{each_append, each_replicate, counts_add, none_count}
use Rattle.gup_read.proofs.Standing.{Stands, stands_empty, stands_process, stands_actor, stands_seed, stands_turns}
use Rattle.gup_read.proofs.Operating.{stands_does}
use Rattle.gup_read.proofs.Laws.{found}

-- ---- turns

turns_in : (st : Outline) (words : List Word) (actors : List ℕ) → Stands st → AreTurnWords st words actors → AllByRecursion (λ a. a < length st.script.actors) actors
turns_in st [] actors h t = subst (AllByRecursion (λ a. a < length st.script.actors)) (sym t) tt
turns_in st (word ∷ words) actors h t =
    let below = λ (a : ℕ). a < length st.script.actors in
    let rest = turns_in st words t.3 h t.6 in
    subst (AllByRecursion below) (sym t.7) (each_append below (replicate t.1 t.2) t.3 (each_replicate below t.1 t.2 (h.actors_in t.0 t.2 t.5)) rest)

draws_below : (count below x : ℕ) → 0 < below → AllByRecursion (λ a. a < below) (draws count below x)
draws_below zero below x some = tt
draws_below (suc count) below x some = (mod-lt _ some, draws_below count below (next_state x) some)

draws_length : (count below x : ℕ) → length (draws count below x) ≡ count
draws_length zero below x = refl
draws_length (suc count) below x = ap (λ n. suc n) (draws_length count below (next_state x))

same_number : (word : Word) (m n : ℕ) → IsNumber word m → IsNumber word n → m ≡ n
same_number word m n h g = one_found (number_in word) m n (number_read word m h) (number_read word n g)

-- ---- lines

stands_declared : (st next : Outline) (said : Said) → Stands st → Declares st said next → Stands next
stands_declared st next (a_process name) h d = subst Stands (sym d.4) (stands_process st name true h d.3)
stands_declared st next (a_child name) h d = subst Stands (sym d.4) (stands_process st name false h d.3)
stands_declared st next (a_thread name process) h d =
    let b = d.4 in
    let few = d.3 in
    let devices = h.few_devices in
    let movers = h.few_movers in
    subst Stands (sym b.2) (stands_actor st name (Thread b.0) h (h.processes_in process b.0 b.1) (omega arith) (omega arith) (omega arith))
stands_declared st next (a_device name slots) h d =
    let b = d.4 in
    let few = d.3 in
    let threads = h.few_threads in
    let movers = h.few_movers in
    subst Stands (sym b.2) (stands_actor st name (Device b.0) h (b.1.1, b.1.2) (omega arith) (omega arith) (omega arith))
stands_declared st next (a_mover name) h d =
    let threads = h.few_threads in
    let devices = h.few_devices in
    let none = none_count (λ (a : Actor). is_mover a.kind) st.script.actors d.2.1 in
    subst Stands (sym d.4) (stands_actor st name Mover h tt (omega arith) (omega arith) (omega arith))
stands_declared st next (a_seed number) h d = subst Stands (sym d.4.2) (stands_seed st d.4.0 h)
stands_declared st next (some_turns first more) h d =
    let b = d.4 in
    let few = d.3 in
    let same : few.0 ≡ b.0 = turns_are st (first ∷ more) few.0 few.1 ∙ sym (turns_are st (first ∷ more) b.0 b.1) in
    let room = subst (λ (actors : List ℕ). length st.script.turns + length actors ≤ 1000000) same few.2 in
    subst Stands (sym b.2) (stands_turns st b.0 h (turns_in st (first ∷ more) b.0 h b.1) room)
stands_declared st next (random_turns start count) h d =
    let b = d.4 in
    let few = d.3 in
    let room = few.2 in
    let same : few.0 ≡ b.1 = same_number count few.0 b.1 few.1 b.3 in
    let long = draws_length b.1 (length st.script.actors) b.0 in
    subst Stands (sym b.4) (stands_turns st (draws b.1 (length st.script.actors) b.0) h (below b.1 b.3 d.1) (omega arith))
  where
    below : (n : ℕ) → IsNumber count n → (IsNumber count 0 ⊎ (1 ≤ length st.script.actors)) → AllByRecursion (λ a. a < length st.script.actors) (draws n (length st.script.actors) d.4.0)
    below n is (inl none) = subst (λ (m : ℕ). AllByRecursion (λ a. a < length st.script.actors) (draws m (length st.script.actors) d.4.0)) (same_number count 0 n none is) tt
    below n is (inr some) = draws_below n (length st.script.actors) d.4.0 some

abbrev StandsAt : Stage → Type 0
StandsAt before_head = Unit {0}
StandsAt before_frames = Unit {0}
StandsAt (open_at st) = Stands st

stands_next : (st next : Outline) (words : List Word) → Stands st → IsNext st words next → Stands next
stands_next st next words h (inl s) = stands_declared st next s.0 h s.2
stands_next st next words h (inr o) = stands_does st next o.1 o.2 h o.5 o.6

stands_said : (stage next : Stage) (words : List Word) → StandsAt stage → IsSaid stage words next → StandsAt next
stands_said before_head next words h s = subst StandsAt (sym s.1) tt
stands_said before_frames next words h s = subst StandsAt (sym s.2) (stands_empty s.0 s.1.1)
stands_said (open_at st) next words h s = subst StandsAt (sym s.2) (stands_next st s.0 words h s.1)

stands_line : (stage next : Stage) (line : List ℕ) → StandsAt stage → IsRightLine stage line next → StandsAt next
stands_line stage next line h r = elim r.1 [ inl passed ↦ subst StandsAt (sym passed.1) h | inr said ↦ stands_said stage next (parts 32 line) h said.1 ]

stands_lines : (stage next : Stage) (lines : List (List ℕ)) → StandsAt stage → AreRightLines stage lines next → StandsAt next
stands_lines stage next [] h r = subst StandsAt (sym r) h
stands_lines stage next (line ∷ lines) h r = stands_lines r.0 next lines (stands_line stage r.0 line h r.1) r.2

-- ---- scripts

one_kind : (actor : Actor) → cond (is_thread actor.kind) 1 0 + cond (is_device actor.kind) 1 0 + cond (is_mover actor.kind) 1 0 ≡ 1
one_kind actor = way actor.kind where
  way : (kind : Kind) → cond (is_thread kind) 1 0 + cond (is_device kind) 1 0 + cond (is_mover kind) 1 0 ≡ 1
  way (Thread p) = refl
  way (Device slots) = refl
  way Mover = refl

stands_script : (st : Outline) → Stands st → IsScript st.script
stands_script st h =
    let actors = st.script.actors in
    let counts = counts_add (λ (a : Actor). is_thread a.kind) (λ a. is_device a.kind) (λ a. is_mover a.kind) one_kind actors in
    let threads = h.few_threads in
    let devices = h.few_devices in
    let movers = h.few_movers in
    record {
      few_frames = h.few_frames;
      few_tables = h.few_tables;
      few_processes = h.few_processes;
      few_actors = omega arith;
      kinds = All-from_recursion (λ (a : Actor). KindFits st.script a.kind) actors h.kinds;
      ops = All-from_recursion (λ (a : Actor). All IsOp a.ops) actors h.ops;
      few_handles = h.few_handles;
      few_mirrors = h.few_mirrors;
      ops_fit = All-from_recursion (λ (a : Actor). All (FitsKind a.kind) a.ops) actors h.ops_fit;
      declared = All-from_recursion (λ (a : Actor). All (AreDeclared st.script) a.ops) actors h.declared;
      forks_once = λ a b j k child e f. h.forks_once a b j k child (Fork child, e, refl) (Fork child, f, refl);
      handles_once = h.handles_once;
      few_ops = let counted = h.counted in let few = h.few_ops in omega arith;
      turns = All-from_recursion (λ a. a < length actors) st.script.turns h.turns;
      few_turns = h.few_turns;
    }

pub accepted_valid : (text : List ℕ) (script : ScriptValue) → Accepts text script → IsScript script
accepted_valid text script h =
    let s = h.0 in
    subst IsScript (sym s.4) (stands_script s.1 (stands_lines before_head (open_at s.1) s.0 tt s.3))

pub valid : (text : List ℕ) (st : Outline) → reading text ≡ Ok st → IsScript st.script
valid text st e = accepted_valid text st.script (found text st e)
