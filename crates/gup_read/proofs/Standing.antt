-- What is true of every outline that lines make, and how a line that declares keeps it.
use Rattle.std.proofs.Common.{◌≡◌, ◌⊎◌, ℕ, ◌+◌, ◌<◌, ◌≤◌, Bool, true, false, cond, List, [], ◌∷◌, length, append-nil, All, sum_by, refl, sym, Option, Some, None, inl, inr, arith}
use Rattle.std.specs.Prelude.{bytes_eq}
use Rattle.std.specs.List.{AllByRecursion}
use Rattle.std.proofs.lemmas.List.{length_push, length-append}
use Rattle.std.proofs.lemmas.List.Elements.{All-nil}
use Rattle.std.proofs.lemmas.List.Sums.{sum_by_push}
use Rattle.gup_spec_grammar.specs.Names.{NamedEntry, find, declared}
use Rattle.gup_spec_grammar.specs.declared.named.Named.{Named}
use Rattle.gup_spec_grammar.specs.declared.named.Named.TheVariants as named
use Rattle.gup_script.specs.declared.op.Kind.{Kind}
use Rattle.gup_script.specs.declared.op.Kind.TheVariants.{Thread, Device, Mover}
use Rattle.gup_script.specs.declared.op.Op.{Op}
use Rattle.gup_script.specs.Script.{ScriptValue, Process, Actor, FrameCounts, is_thread}
use Rattle.gup_spec_grammar.specs.Outline.{Outline, empty_outline, with_process, with_actor, with_named, with_handle, with_reference, with_mirror, with_slot, with_turns, with_seed, is_device, is_mover, how_many}
use Rattle.gup_script.specs.Limits.{most_handles, most_mirrors, most_operations, most_turns}
use Rattle.gup_spec_grammar.specs.Said.{Word}
use Rattle.gup_spec_grammar.specs.Grammar.{NamesProcess, NamesActor, NamesPin, NamesGot, NamesMirror, AreFrameCounts}
use Rattle.gup_script.specs.Valid.{IsOp, KindFits, FitsKind, AreDeclared}
use Rattle.gup_read.proofs.Verdicts.{given, same_given}
use Rattle.gup_read.proofs.Lists.{each_append, each_like}
use Rattle.gup_read.proofs.Forking.{OpAt, IsForkOf, IsMaking, AreOnce, declared_stay, actor_once}

pub record Stands (st : Outline) : Type 0 where
  pub processes_in : (word : Word) (p : ℕ) → NamesProcess st word p → p < length st.script.processes
  pub actors_in : (word : Word) (a : ℕ) → NamesActor st word a → a < length st.script.actors
  pub pins_in : (word : Word) (h : ℕ) → NamesPin st word h → h < length st.script.handles
  pub gots_in : (word : Word) (h : ℕ) → NamesGot st word h → h < length st.script.handles
  pub mirrors_in : (word : Word) (m : ℕ) → NamesMirror st word m → m < length st.script.mirrors
  pub few_frames : st.script.frames.movable + st.script.frames.normal ≤ 1024
  pub few_tables : st.script.frames.tables ≤ 8192
  pub few_processes : length st.script.processes ≤ 16
  pub few_threads : how_many is_thread st ≤ 64
  pub few_devices : how_many is_device st ≤ 16
  pub few_movers : how_many is_mover st ≤ 1
  pub few_handles : length st.script.handles ≤ most_handles
  pub few_mirrors : length st.script.mirrors ≤ most_mirrors
  pub kinds : AllByRecursion (λ (a : Actor). KindFits st.script a.kind) st.script.actors
  pub ops : AllByRecursion (λ (a : Actor). All IsOp a.ops) st.script.actors
  pub ops_fit : AllByRecursion (λ (a : Actor). All (FitsKind a.kind) a.ops) st.script.actors
  pub declared : AllByRecursion (λ (a : Actor). All (AreDeclared st.script) a.ops) st.script.actors
  pub forks_once : AreOnce IsForkOf st.script.actors
  pub handles_once : AreOnce IsMaking st.script.actors
  pub counted : sum_by (λ (a : Actor). length a.ops) st.script.actors ≡ st.operations
  pub few_ops : st.operations ≤ most_operations
  pub turns : AllByRecursion (λ a. a < length st.script.actors) st.script.turns
  pub few_turns : length st.script.turns ≤ most_turns

pub stands_empty : (counts : FrameCounts) → AreFrameCounts counts.movable counts.normal counts.tables → Stands (empty_outline counts)
stands_empty counts h = record {
  processes_in = λ word p e. absurd cc;
  actors_in = λ word a e. absurd cc;
  pins_in = λ word n e. absurd cc;
  gots_in = λ word n e. absurd cc;
  mirrors_in = λ word n e. let is = e.1 in absurd cc;
  few_frames = h.0;
  few_tables = h.1;
  few_processes = omega arith;
  few_threads = omega arith;
  few_devices = omega arith;
  few_movers = omega arith;
  few_handles = omega arith;
  few_mirrors = omega arith;
  kinds = tt;
  ops = tt;
  ops_fit = tt;
  declared = tt;
  forks_once = λ a b j k child e f. absurd (nothing a j e.0 e.1);
  handles_once = λ a b j k handle e f. absurd (nothing a j e.0 e.1);
  counted = refl;
  few_ops = omega arith;
  turns = tt;
  few_turns = omega arith;
} where
  nothing : (a k : ℕ) (op : Op) → OpAt [] a k op → ⊥
  nothing a k op e = absurd cc

-- ---- names

same_named : (b : Bool) (x y : Named) → cond b (Some x) None ≡ given y → x ≡ y
same_named true x y e = same_given x y e
same_named false x y e = absurd cc

either : (b : Bool) (x y : Named) (o p : Option Named) → (p ≡ Some y → (o ≡ Some y) ⊎ (x ≡ y)) → (z : Named) → cond b (Some z) p ≡ Some y → (cond b (Some z) o ≡ Some y) ⊎ (x ≡ y)
either true x y o p rest z e = inl e
either false x y o p rest z e = rest e

-- what is found after one more declaration was found before, or is what it declared
pub found_behind : (es : List NamedEntry) (name word : List ℕ) (x y : Named) → find (declared es name x) word ≡ Some y → (find es word ≡ Some y) ⊎ (x ≡ y)
found_behind [] name word x y e = inr (same_named (bytes_eq name word) x y e)
found_behind (entry ∷ es) name word x y e =
    either (bytes_eq entry.name word) x y (find es word) (find (declared es name x) word) (found_behind es name word x y) entry.named e

same_process : (p q : ℕ) → named.Process p ≡ named.Process q → p ≡ q
same_process p q e = cc

same_actor : (a b : ℕ) → named.Actor a ≡ named.Actor b → a ≡ b
same_actor a b e = cc

same_pin : (h g : ℕ) → named.Pin h ≡ named.Pin g → h ≡ g
same_pin h g e = cc

process_no_actor : (p a : ℕ) → named.Process p ≡ named.Actor a → ⊥
process_no_actor p a e = cc

process_no_pin : (p h : ℕ) → named.Process p ≡ named.Pin h → ⊥
process_no_pin p h e = cc

actor_no_pin : (a h : ℕ) → named.Actor a ≡ named.Pin h → ⊥
actor_no_pin a h e = cc

process_no_got : (p h : ℕ) → named.Process p ≡ named.Got h → ⊥
process_no_got p h e = cc

actor_no_got : (a h : ℕ) → named.Actor a ≡ named.Got h → ⊥
actor_no_got a h e = cc

pin_no_got : (g h : ℕ) → named.Pin g ≡ named.Got h → ⊥
pin_no_got g h e = cc

process_no_mirror : (p m a : ℕ) → named.Process p ≡ named.Mirror m a → ⊥
process_no_mirror p m a e = cc

actor_no_mirror : (b m a : ℕ) → named.Actor b ≡ named.Mirror m a → ⊥
actor_no_mirror b m a e = cc

pin_no_mirror : (h m a : ℕ) → named.Pin h ≡ named.Mirror m a → ⊥
pin_no_mirror h m a e = cc

got_no_mirror : (h m a : ℕ) → named.Got h ≡ named.Mirror m a → ⊥
got_no_mirror h m a e = cc

same_mirror : (m n a b : ℕ) → named.Mirror m a ≡ named.Mirror n b → m ≡ n
same_mirror m n a b e = cc

same_got : (h g : ℕ) → named.Got h ≡ named.Got g → h ≡ g
same_got h g e = cc

-- ---- one more process

pub kind_fits : (s t : ScriptValue) → length s.processes ≤ length t.processes → (k : Kind) → KindFits s k → KindFits t k
kind_fits s t more (Thread p) h = omega arith
kind_fits s t more (Device slots) h = h
kind_fits s t more Mover h = h

pub stands_process : (st : Outline) (name : Word) (born : Bool) → Stands st → length st.script.processes < 16 → Stands (with_process name born st)
stands_process st name born h few =
    let next = with_process name born st in
    let process : Process = record { name = name; born = born } in
    let long : length next.script.processes ≡ length st.script.processes + 1 = length_push st.script.processes process in
    record {
      processes_in = λ word p e. elim (found_behind st.names name word (named.Process (length st.script.processes)) (named.Process p) e) [
        | inl old ↦ let lt = h.processes_in word p old in omega arith
        | inr new ↦ let same = same_process (length st.script.processes) p new in omega arith
      ];
      actors_in = λ word a e. elim (found_behind st.names name word (named.Process (length st.script.processes)) (named.Actor a) e) [
        | inl old ↦ h.actors_in word a old
        | inr new ↦ absurd (process_no_actor (length st.script.processes) a new)
      ];
      pins_in = λ word n e. elim (found_behind st.names name word (named.Process (length st.script.processes)) (named.Pin n) e) [
        | inl old ↦ h.pins_in word n old
        | inr new ↦ absurd (process_no_pin (length st.script.processes) n new)
      ];
      gots_in = λ word n e. elim (found_behind st.names name word (named.Process (length st.script.processes)) (named.Got n) e) [
        | inl old ↦ h.gots_in word n old
        | inr new ↦ absurd (process_no_got (length st.script.processes) n new)
      ];
      mirrors_in = λ word n e. elim (found_behind st.names name word (named.Process (length st.script.processes)) (named.Mirror n e.0) e.1) [
        | inl old ↦ h.mirrors_in word n (e.0, old)
        | inr new ↦ absurd (process_no_mirror (length st.script.processes) n e.0 new)
      ];
      few_frames = h.few_frames;
      few_tables = h.few_tables;
      few_processes = omega arith;
      few_threads = h.few_threads;
      few_devices = h.few_devices;
      few_movers = h.few_movers;
      few_handles = h.few_handles;
      few_mirrors = h.few_mirrors;
      kinds = each_like (λ (a : Actor). KindFits st.script a.kind) (λ a. KindFits next.script a.kind) st.script.actors (λ a. kind_fits st.script next.script (omega arith) a.kind) h.kinds;
      ops = h.ops;
      ops_fit = h.ops_fit;
      declared = declared_stay st.script next.script (process ∷ []) refl (omega arith) (omega arith) (omega arith) st.script.actors h.declared;
      forks_once = h.forks_once;
      handles_once = h.handles_once;
      counted = h.counted;
      few_ops = h.few_ops;
      turns = h.turns;
      few_turns = h.few_turns;
    }

-- ---- one more actor

pub stands_actor : (st : Outline) (name : Word) (kind : Kind) → Stands st → KindFits st.script kind → how_many is_thread st + cond (is_thread kind) 1 0 ≤ 64 → how_many is_device st + cond (is_device kind) 1 0 ≤ 16 → how_many is_mover st + cond (is_mover kind) 1 0 ≤ 1 → Stands (with_actor name kind st)
stands_actor st name kind h fits threads devices movers =
    let next = with_actor name kind st in
    let actors = st.script.actors in
    let actor : Actor = record { name = name; kind = kind; ops = [] } in
    let long : length next.script.actors ≡ length actors + 1 = length_push actors actor in
    record {
      processes_in = λ word p e. elim (found_behind st.names name word (named.Actor (length actors)) (named.Process p) e) [
        | inl old ↦ h.processes_in word p old
        | inr new ↦ absurd (process_no_actor p (length actors) (sym new))
      ];
      actors_in = λ word a e. elim (found_behind st.names name word (named.Actor (length actors)) (named.Actor a) e) [
        | inl old ↦ let lt = h.actors_in word a old in omega arith
        | inr new ↦ let same = same_actor (length actors) a new in omega arith
      ];
      pins_in = λ word n e. elim (found_behind st.names name word (named.Actor (length actors)) (named.Pin n) e) [
        | inl old ↦ h.pins_in word n old
        | inr new ↦ absurd (actor_no_pin (length actors) n new)
      ];
      gots_in = λ word n e. elim (found_behind st.names name word (named.Actor (length actors)) (named.Got n) e) [
        | inl old ↦ h.gots_in word n old
        | inr new ↦ absurd (actor_no_got (length actors) n new)
      ];
      mirrors_in = λ word n e. elim (found_behind st.names name word (named.Actor (length actors)) (named.Mirror n e.0) e.1) [
        | inl old ↦ h.mirrors_in word n (e.0, old)
        | inr new ↦ absurd (actor_no_mirror (length actors) n e.0 new)
      ];
      few_frames = h.few_frames;
      few_tables = h.few_tables;
      few_processes = h.few_processes;
      few_threads = let sum = sum_by_push (λ (a : Actor). cond (is_thread a.kind) 1 0) actors actor in omega arith;
      few_devices = let sum = sum_by_push (λ (a : Actor). cond (is_device a.kind) 1 0) actors actor in omega arith;
      few_movers = let sum = sum_by_push (λ (a : Actor). cond (is_mover a.kind) 1 0) actors actor in omega arith;
      few_handles = h.few_handles;
      few_mirrors = h.few_mirrors;
      kinds = each_append (λ (a : Actor). KindFits st.script a.kind) actors (actor ∷ []) h.kinds (fits, tt);
      ops = each_append (λ (a : Actor). All IsOp a.ops) actors (actor ∷ []) h.ops (All-nil IsOp, tt);
      ops_fit = each_append (λ (a : Actor). All (FitsKind a.kind) a.ops) actors (actor ∷ []) h.ops_fit (All-nil (FitsKind kind), tt);
      declared = declared_stay st.script next.script [] (sym (append-nil st.script.processes)) (omega arith) (omega arith) (omega arith) next.script.actors (each_append (λ (a : Actor). All (AreDeclared st.script) a.ops) actors (actor ∷ []) h.declared (All-nil (AreDeclared st.script), tt));
      forks_once = actor_once IsForkOf actors actor refl h.forks_once;
      handles_once = actor_once IsMaking actors actor refl h.handles_once;
      counted = let sum = sum_by_push (λ (a : Actor). length a.ops) actors actor in let old = h.counted in omega arith;
      few_ops = h.few_ops;
      turns = each_like (λ a. a < length actors) (λ a. a < length next.script.actors) st.script.turns (λ a lt. omega arith) h.turns;
      few_turns = h.few_turns;
    }

-- ---- one more handle

-- of a pin, or of a reference
record IsNextHandle (st : Outline) (what : Named) : Type 0 where
  no_process : (p : ℕ) → what ≡ named.Process p → ⊥
  no_actor : (a : ℕ) → what ≡ named.Actor a → ⊥
  no_mirror : (m a : ℕ) → what ≡ named.Mirror m a → ⊥
  pin : (h : ℕ) → what ≡ named.Pin h → length st.script.handles ≡ h
  got : (h : ℕ) → what ≡ named.Got h → length st.script.handles ≡ h

stands_named : (st : Outline) (name : Word) (what : Named) → IsNextHandle st what → Stands st → length st.script.handles < most_handles → Stands (with_named name what st)
stands_named st name what is h few =
    let next = with_named name what st in
    let handles = st.script.handles in
    let long : length next.script.handles ≡ length handles + 1 = length_push handles name in
    record {
      processes_in = λ word p e. elim (found_behind st.names name word what (named.Process p) e) [
        | inl old ↦ h.processes_in word p old
        | inr new ↦ absurd (is.no_process p new)
      ];
      actors_in = λ word a e. elim (found_behind st.names name word what (named.Actor a) e) [
        | inl old ↦ h.actors_in word a old
        | inr new ↦ absurd (is.no_actor a new)
      ];
      pins_in = λ word n e. elim (found_behind st.names name word what (named.Pin n) e) [
        | inl old ↦ let lt = h.pins_in word n old in omega arith
        | inr new ↦ let same = is.pin n new in omega arith
      ];
      gots_in = λ word n e. elim (found_behind st.names name word what (named.Got n) e) [
        | inl old ↦ let lt = h.gots_in word n old in omega arith
        | inr new ↦ let same = is.got n new in omega arith
      ];
      mirrors_in = λ word n e. elim (found_behind st.names name word what (named.Mirror n e.0) e.1) [
        | inl old ↦ h.mirrors_in word n (e.0, old)
        | inr new ↦ absurd (is.no_mirror n e.0 new)
      ];
      few_frames = h.few_frames;
      few_tables = h.few_tables;
      few_processes = h.few_processes;
      few_threads = h.few_threads;
      few_devices = h.few_devices;
      few_movers = h.few_movers;
      few_handles = omega arith;
      few_mirrors = h.few_mirrors;
      kinds = each_like (λ (a : Actor). KindFits st.script a.kind) (λ a. KindFits next.script a.kind) st.script.actors (λ a. kind_fits st.script next.script (omega arith) a.kind) h.kinds;
      ops = h.ops;
      ops_fit = h.ops_fit;
      declared = declared_stay st.script next.script [] (sym (append-nil st.script.processes)) (omega arith) (omega arith) (omega arith) st.script.actors h.declared;
      forks_once = h.forks_once;
      handles_once = h.handles_once;
      counted = h.counted;
      few_ops = h.few_ops;
      turns = h.turns;
      few_turns = h.few_turns;
    }

pub stands_handle : (st : Outline) (name : Word) → Stands st → length st.script.handles < most_handles → Stands (with_handle name st)
stands_handle st name h few =
    stands_named st name (named.Pin (length st.script.handles))
    (record {
      no_process = λ p e. process_no_pin p (length st.script.handles) (sym e);
      no_actor = λ a e. actor_no_pin a (length st.script.handles) (sym e);
      no_mirror = λ m a e. pin_no_mirror (length st.script.handles) m a e;
      pin = λ n e. same_pin (length st.script.handles) n e;
      got = λ n e. absurd (pin_no_got (length st.script.handles) n e);
    })
    h few

pub stands_reference : (st : Outline) (name : Word) → Stands st → length st.script.handles < most_handles → Stands (with_reference name st)
stands_reference st name h few =
    stands_named st name (named.Got (length st.script.handles))
    (record {
      no_process = λ p e. process_no_got p (length st.script.handles) (sym e);
      no_actor = λ a e. actor_no_got a (length st.script.handles) (sym e);
      no_mirror = λ m a e. got_no_mirror (length st.script.handles) m a e;
      pin = λ n e. absurd (pin_no_got n (length st.script.handles) (sym e));
      got = λ n e. same_got (length st.script.handles) n e;
    })
    h few

-- ---- one more mirror slot

stands_mirror : (st : Outline) (device : ℕ) (name : Word) → Stands st → length st.script.mirrors < most_mirrors → Stands (with_mirror device name st)
stands_mirror st device name h few =
    let next = with_mirror device name st in
    let mirrors = st.script.mirrors in
    let what : Named = named.Mirror (length mirrors) device in
    let long : length next.script.mirrors ≡ length mirrors + 1 = length_push mirrors name in
    record {
      processes_in = λ word p e. elim (found_behind st.names name word what (named.Process p) e) [
        | inl old ↦ h.processes_in word p old
        | inr new ↦ absurd (process_no_mirror p (length mirrors) device (sym new))
      ];
      actors_in = λ word a e. elim (found_behind st.names name word what (named.Actor a) e) [
        | inl old ↦ h.actors_in word a old
        | inr new ↦ absurd (actor_no_mirror a (length mirrors) device (sym new))
      ];
      pins_in = λ word n e. elim (found_behind st.names name word what (named.Pin n) e) [
        | inl old ↦ h.pins_in word n old
        | inr new ↦ absurd (pin_no_mirror n (length mirrors) device (sym new))
      ];
      gots_in = λ word n e. elim (found_behind st.names name word what (named.Got n) e) [
        | inl old ↦ h.gots_in word n old
        | inr new ↦ absurd (got_no_mirror n (length mirrors) device (sym new))
      ];
      mirrors_in = λ word m e. elim (found_behind st.names name word what (named.Mirror m e.0) e.1) [
        | inl old ↦ let lt = h.mirrors_in word m (e.0, old) in omega arith
        | inr new ↦ let same = same_mirror (length mirrors) m device e.0 new in omega arith
      ];
      few_frames = h.few_frames;
      few_tables = h.few_tables;
      few_processes = h.few_processes;
      few_threads = h.few_threads;
      few_devices = h.few_devices;
      few_movers = h.few_movers;
      few_handles = h.few_handles;
      few_mirrors = omega arith;
      kinds = each_like (λ (a : Actor). KindFits st.script a.kind) (λ a. KindFits next.script a.kind) st.script.actors (λ a. kind_fits st.script next.script (omega arith) a.kind) h.kinds;
      ops = h.ops;
      ops_fit = h.ops_fit;
      declared = declared_stay st.script next.script [] (sym (append-nil st.script.processes)) (omega arith) (omega arith) (omega arith) st.script.actors h.declared;
      forks_once = h.forks_once;
      handles_once = h.handles_once;
      counted = h.counted;
      few_ops = h.few_ops;
      turns = h.turns;
      few_turns = h.few_turns;
    }

-- of a name that names one already, or nothing yet
pub stands_slot : (st : Outline) (device : ℕ) (name : Word) (o : Option Named) → find st.names name ≡ o → Stands st → ((m : ℕ) × NamesMirror st name m) ⊎ (length st.script.mirrors < most_mirrors) → Stands (with_slot device name o st)
stands_slot st device name None e h (inl m) = let is = m.1.1 in absurd (cc (e, is))
stands_slot st device name None e h (inr few) = stands_mirror st device name h few
stands_slot st device name (Some what) e h few = h

-- ---- the seed, and more turns

pub stands_seed : (st : Outline) (seed : ℕ) → Stands st → Stands (with_seed seed st)
stands_seed st seed h = record {
  processes_in = h.processes_in;
  actors_in = h.actors_in;
  pins_in = h.pins_in;
  gots_in = h.gots_in;
  mirrors_in = h.mirrors_in;
  few_frames = h.few_frames;
  few_tables = h.few_tables;
  few_processes = h.few_processes;
  few_threads = h.few_threads;
  few_devices = h.few_devices;
  few_movers = h.few_movers;
  few_handles = h.few_handles;
  few_mirrors = h.few_mirrors;
  kinds = h.kinds;
  ops = h.ops;
  ops_fit = h.ops_fit;
  declared = h.declared;
  forks_once = h.forks_once;
  handles_once = h.handles_once;
  counted = h.counted;
  few_ops = h.few_ops;
  turns = h.turns;
  few_turns = h.few_turns;
}

pub stands_turns : (st : Outline) (turns : List ℕ) → Stands st → AllByRecursion (λ a. a < length st.script.actors) turns → length st.script.turns + length turns ≤ most_turns → Stands (with_turns turns st)
stands_turns st turns h of_actors few = record {
  processes_in = h.processes_in;
  actors_in = h.actors_in;
  pins_in = h.pins_in;
  gots_in = h.gots_in;
  mirrors_in = h.mirrors_in;
  few_frames = h.few_frames;
  few_tables = h.few_tables;
  few_processes = h.few_processes;
  few_threads = h.few_threads;
  few_devices = h.few_devices;
  few_movers = h.few_movers;
  few_handles = h.few_handles;
  few_mirrors = h.few_mirrors;
  kinds = h.kinds;
  ops = h.ops;
  ops_fit = h.ops_fit;
  declared = h.declared;
  forks_once = h.forks_once;
  handles_once = h.handles_once;
  counted = h.counted;
  few_ops = h.few_ops;
  turns = each_append (λ a. a < length st.script.actors) st.script.turns turns h.turns of_actors;
  few_turns = let long = length-append st.script.turns turns in omega arith;
}
