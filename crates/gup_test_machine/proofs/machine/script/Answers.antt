use Rattle.std.proofs.Common.{◌≡◌, ℕ, ◌+◌, ◌<◌, ◌≤◌, Bool, true, false, List, [], ◌∷◌, ◌++◌, length, map, slice_get, get_or, All, Some, None, zero, suc, refl, sym, ap, ◌∙◌, subst, arith}
use Rattle.gup_base.specs.declared.entry.Want.{Want}
use Rattle.gup_script.specs.declared.op.Kind.{Kind}
use Rattle.gup_script.specs.declared.op.Kind.TheVariants.{Thread}
use Rattle.gup_script.specs.declared.op.Op.{Op}
use Rattle.gup_script.specs.declared.op.Op.TheVariants.{Map, Unmap, Protect, Discard, Load, Store, Pin, Unpin, Give, Take, Get, Put, Transfer, Mirror, Look, Move, Fork, Exit}
use Rattle.std.specs.Prelude.{string_bytes}
use Rattle.gup_script.specs.Script.{ScriptValue, Process, Actor}
use Rattle.gup_script.specs.declared.script.Process.{Process as DeclaredProcess}
use Rattle.gup_script.specs.declared.script.Actor.{Actor as DeclaredActor}
use Rattle.gup_script.specs.Views.{process_value, actor_value}
use Rattle.gup_script.specs.Valid.{IsScript, IsOp, IsOfThread, AreDeclared, KindFits, FitsKind, ForksAt, MakesAt, made_by}
use Rattle.gup_law_turns.proofs.ScriptLemmas.{all_at}
use Rattle.gup_op_pages.specs.Alone.{IsAlone}
use Rattle.gup_test_machine.proofs.machine.script.Goals as goal

-- A script of three processes, six threads and two handles. The fourth thread pins a page, and then forks into the last
-- process; the fifth one gets a page and puts it back twice, and so does the sixth one once.

abbrev pub six_threads : (p0 p1 p2 : Process) (x0 x1 x2 x3 x4 x5 : Actor) (h0 h1 : List ℕ) → ScriptValue
six_threads p0 p1 p2 x0 x1 x2 x3 x4 x5 h0 h1 =
    record {
      frames = record { movable = 1; normal = 1; tables = 64 };
      processes = p0 ∷ p1 ∷ p2 ∷ [];
      actors = x0 ∷ x1 ∷ x2 ∷ x3 ∷ x4 ∷ x5 ∷ [];
      handles = h0 ∷ h1 ∷ [];
      mirrors = [];
      turns = [];
      seed = 0;
    }

all_six : (P : Actor → Type 0) (x0 x1 x2 x3 x4 x5 : Actor) → P x0 → P x1 → P x2 → P x3 → P x4 → P x5 → All P (x0 ∷ x1 ∷ x2 ∷ x3 ∷ x4 ∷ x5 ∷ [])
all_six P x0 x1 x2 x3 x4 x5 h0 h1 h2 h3 h4 h5 zero d within = h0
all_six P x0 x1 x2 x3 x4 x5 h0 h1 h2 h3 h4 h5 (suc zero) d within = h1
all_six P x0 x1 x2 x3 x4 x5 h0 h1 h2 h3 h4 h5 (suc (suc zero)) d within = h2
all_six P x0 x1 x2 x3 x4 x5 h0 h1 h2 h3 h4 h5 (suc (suc (suc zero))) d within = h3
all_six P x0 x1 x2 x3 x4 x5 h0 h1 h2 h3 h4 h5 (suc (suc (suc (suc zero)))) d within = h4
all_six P x0 x1 x2 x3 x4 x5 h0 h1 h2 h3 h4 h5 (suc (suc (suc (suc (suc zero))))) d within = h5
all_six P x0 x1 x2 x3 x4 x5 h0 h1 h2 h3 h4 h5 (suc (suc (suc (suc (suc (suc k)))))) d within = absurd (omega arith)

abbrev pub pins_page : Op
pins_page = Pin 0 7 1 (record { write = true; long = false }) false

abbrev pub fork_ops : List Op
fork_ops = pins_page ∷ Fork 2 ∷ []

abbrev pub get_ops : List Op
get_ops = Get 1 5 ∷ Put 1 ∷ Put 1 ∷ []

abbrev pub put_ops : List Op
put_ops = Put 1 ∷ []

all_forks : (P : Op → Type 0) → P pins_page → P (Fork 2) → All P fork_ops
all_forks P pin fork zero d within = pin
all_forks P pin fork (suc zero) d within = fork
all_forks P pin fork (suc (suc k)) d within = absurd (omega arith)

all_gets : (P : Op → Type 0) → P (Get 1 5) → P (Put 1) → All P get_ops
all_gets P get put zero d within = get
all_gets P get put (suc zero) d within = put
all_gets P get put (suc (suc zero)) d within = put
all_gets P get put (suc (suc (suc k))) d within = absurd (omega arith)

all_puts : (P : Op → Type 0) → P (Put 1) → All P put_ops
all_puts P put zero d within = put
all_puts P put (suc k) d within = absurd (omega arith)

-- operations of one process
abbrev pub AreSingle : List Op → Type 0
AreSingle ops = All IsAlone ops

single_declares : (s : ScriptValue) (op : Op) → IsAlone op → AreDeclared s op
single_declares s (Map page n rights) alone = tt
single_declares s (Unmap page n) alone = tt
single_declares s (Protect page n rights) alone = tt
single_declares s (Discard page n) alone = tt
single_declares s (Load page word) alone = tt
single_declares s (Store page word value) alone = tt
single_declares s (Pin handle page n want fast) alone = absurd alone
single_declares s (Unpin handle) alone = absurd alone
single_declares s (Give handle to) alone = absurd alone
single_declares s (Take handle) alone = absurd alone
single_declares s (Transfer handle outward slot parts) alone = absurd alone
single_declares s (Get handle page) alone = absurd alone
single_declares s (Put handle) alone = absurd alone
single_declares s (Mirror mirror proc page) alone = absurd alone
single_declares s (Look mirror word) alone = absurd alone
single_declares s (Move proc page zone) alone = absurd alone
single_declares s (Fork child) alone = absurd alone
single_declares s Exit alone = tt

of_thread : (op : Op) → IsAlone op → IsOfThread op
of_thread (Map page n rights) alone = tt
of_thread (Unmap page n) alone = tt
of_thread (Protect page n rights) alone = tt
of_thread (Discard page n) alone = tt
of_thread (Load page word) alone = tt
of_thread (Store page word value) alone = tt
of_thread (Pin handle page n want fast) alone = absurd alone
of_thread (Unpin handle) alone = absurd alone
of_thread (Give handle to) alone = absurd alone
of_thread (Take handle) alone = absurd alone
of_thread (Transfer handle outward slot parts) alone = absurd alone
of_thread (Get handle page) alone = absurd alone
of_thread (Put handle) alone = absurd alone
of_thread (Mirror mirror proc page) alone = absurd alone
of_thread (Look mirror word) alone = absurd alone
of_thread (Move proc page zone) alone = absurd alone
of_thread (Fork child) alone = absurd alone
of_thread Exit alone = tt

all_by : (P Q : Op → Type 0) → ((op : Op) → P op → Q op) → (ops : List Op) → All P ops → All Q ops
all_by P Q each ops all k d within = each (get_or ops k d) (all k d within)

no_fork_at : (ops : List Op) (j child : ℕ) → AreSingle ops → slice_get ops j ≡ Some (Fork child) → ⊥
no_fork_at ops j child single is = all_at IsAlone ops j (Fork child) single is

alone_makes_none : (op : Op) (handle : ℕ) → IsAlone op → made_by op ≡ Some handle → ⊥
alone_makes_none (Pin h page n want fast) handle alone makes = alone
alone_makes_none (Get h page) handle alone makes = alone
alone_makes_none op handle alone makes = absurd (cc makes)

-- the operation that stands there makes this handle, or none
makes_it : (op found : Op) (made handle : ℕ) → Some op ≡ Some found → made_by op ≡ Some made → made_by found ≡ Some handle → made ≡ handle
makes_it op found made handle here makes is =
    let same : op ≡ found = cc in
    let both : Some made ≡ Some handle = sym makes ∙ ap made_by same ∙ is in
    cc

makes_none : (op found : Op) (handle : ℕ) → Some op ≡ Some found → made_by op ≡ None → made_by found ≡ Some handle → ⊥
makes_none op found handle here makes is =
    let same : op ≡ found = cc in
    let none : None ≡ Some handle = sym makes ∙ ap made_by same ∙ is in
    absurd (cc none)

fork_ops_make : (j handle : ℕ) (op : Op) → slice_get fork_ops j ≡ Some op → made_by op ≡ Some handle → (0 ≡ handle) × (j ≡ 0)
fork_ops_make zero handle op here is = (makes_it pins_page op 0 handle here refl is, refl)
fork_ops_make (suc zero) handle op here is = absurd (makes_none (Fork 2) op handle here refl is)
fork_ops_make (suc (suc j)) handle op here is = absurd (cc here)

get_ops_make : (j handle : ℕ) (op : Op) → slice_get get_ops j ≡ Some op → made_by op ≡ Some handle → (1 ≡ handle) × (j ≡ 0)
get_ops_make zero handle op here is = (makes_it (Get 1 5) op 1 handle here refl is, refl)
get_ops_make (suc zero) handle op here is = absurd (makes_none (Put 1) op handle here refl is)
get_ops_make (suc (suc zero)) handle op here is = absurd (makes_none (Put 1) op handle here refl is)
get_ops_make (suc (suc (suc j))) handle op here is = absurd (cc here)

put_ops_make : (j handle : ℕ) (op : Op) → slice_get put_ops j ≡ Some op → made_by op ≡ Some handle → ⊥
put_ops_make zero handle op here is = absurd (makes_none (Put 1) op handle here refl is)
put_ops_make (suc j) handle op here is = absurd (cc here)

made_is_at : (p0 p1 p2 : Process) (x0 x1 x2 x3 x4 x5 : Actor) (h0 h1 : List ℕ) (a j handle : ℕ) → AreSingle x0.ops → AreSingle x1.ops → AreSingle x2.ops
    → x3.ops ≡ fork_ops → x4.ops ≡ get_ops → x5.ops ≡ put_ops
    → MakesAt (six_threads p0 p1 p2 x0 x1 x2 x3 x4 x5 h0 h1) a j handle → (a ≡ 3 + handle) × (j ≡ 0)
made_is_at p0 p1 p2 x0 x1 x2 x3 x4 x5 h0 h1 zero j handle s0 s1 s2 forks gets puts is =
    absurd (alone_makes_none is.0 handle (all_at IsAlone x0.ops j is.0 s0 is.1) is.2)
made_is_at p0 p1 p2 x0 x1 x2 x3 x4 x5 h0 h1 (suc zero) j handle s0 s1 s2 forks gets puts is =
    absurd (alone_makes_none is.0 handle (all_at IsAlone x1.ops j is.0 s1 is.1) is.2)
made_is_at p0 p1 p2 x0 x1 x2 x3 x4 x5 h0 h1 (suc (suc zero)) j handle s0 s1 s2 forks gets puts is =
    absurd (alone_makes_none is.0 handle (all_at IsAlone x2.ops j is.0 s2 is.1) is.2)
made_is_at p0 p1 p2 x0 x1 x2 x3 x4 x5 h0 h1 (suc (suc (suc zero))) j handle s0 s1 s2 forks gets puts is =
    let made = fork_ops_make j handle is.0 (ap (λ ops. slice_get ops j) (sym forks) ∙ is.1) is.2 in
    (ap (λ h. 3 + h) made.0, made.1)
made_is_at p0 p1 p2 x0 x1 x2 x3 x4 x5 h0 h1 (suc (suc (suc (suc zero)))) j handle s0 s1 s2 forks gets puts is =
    let made = get_ops_make j handle is.0 (ap (λ ops. slice_get ops j) (sym gets) ∙ is.1) is.2 in
    (ap (λ h. 3 + h) made.0, made.1)
made_is_at p0 p1 p2 x0 x1 x2 x3 x4 x5 h0 h1 (suc (suc (suc (suc (suc zero))))) j handle s0 s1 s2 forks gets puts is =
    absurd (put_ops_make j handle is.0 (ap (λ ops. slice_get ops j) (sym puts) ∙ is.1) is.2)
made_is_at p0 p1 p2 x0 x1 x2 x3 x4 x5 h0 h1 (suc (suc (suc (suc (suc (suc a)))))) j handle s0 s1 s2 forks gets puts is = absurd (cc is.1)

get_ops_fork : (j child : ℕ) → slice_get get_ops j ≡ Some (Fork child) → ⊥
get_ops_fork zero child is = absurd (cc is)
get_ops_fork (suc zero) child is = absurd (cc is)
get_ops_fork (suc (suc zero)) child is = absurd (cc is)
get_ops_fork (suc (suc (suc j))) child is = absurd (cc is)

put_ops_fork : (j child : ℕ) → slice_get put_ops j ≡ Some (Fork child) → ⊥
put_ops_fork zero child is = absurd (cc is)
put_ops_fork (suc j) child is = absurd (cc is)

fork_is_at : (p0 p1 p2 : Process) (x0 x1 x2 x3 x4 x5 : Actor) (h0 h1 : List ℕ) (a j child : ℕ) → AreSingle x0.ops → AreSingle x1.ops → AreSingle x2.ops
    → x3.ops ≡ fork_ops → x4.ops ≡ get_ops → x5.ops ≡ put_ops
    → ForksAt (six_threads p0 p1 p2 x0 x1 x2 x3 x4 x5 h0 h1) a j child → (a ≡ 3) × (j ≡ 1)
fork_is_at p0 p1 p2 x0 x1 x2 x3 x4 x5 h0 h1 zero j child s0 s1 s2 forks gets puts is = absurd (no_fork_at x0.ops j child s0 is)
fork_is_at p0 p1 p2 x0 x1 x2 x3 x4 x5 h0 h1 (suc zero) j child s0 s1 s2 forks gets puts is = absurd (no_fork_at x1.ops j child s1 is)
fork_is_at p0 p1 p2 x0 x1 x2 x3 x4 x5 h0 h1 (suc (suc zero)) j child s0 s1 s2 forks gets puts is = absurd (no_fork_at x2.ops j child s2 is)
fork_is_at p0 p1 p2 x0 x1 x2 x3 x4 x5 h0 h1 (suc (suc (suc zero))) zero child s0 s1 s2 forks gets puts is =
    let other : Some pins_page ≡ Some (Fork child) = ap (λ ops. slice_get ops 0) (sym forks) ∙ is in
    absurd (cc other)
fork_is_at p0 p1 p2 x0 x1 x2 x3 x4 x5 h0 h1 (suc (suc (suc zero))) (suc zero) child s0 s1 s2 forks gets puts is = (refl, refl)
fork_is_at p0 p1 p2 x0 x1 x2 x3 x4 x5 h0 h1 (suc (suc (suc zero))) (suc (suc j)) child s0 s1 s2 forks gets puts is =
    let past : None ≡ Some (Fork child) = ap (λ ops. slice_get ops (suc (suc j))) (sym forks) ∙ is in
    absurd (cc past)
fork_is_at p0 p1 p2 x0 x1 x2 x3 x4 x5 h0 h1 (suc (suc (suc (suc zero)))) j child s0 s1 s2 forks gets puts is =
    absurd (get_ops_fork j child (ap (λ ops. slice_get ops j) (sym gets) ∙ is))
fork_is_at p0 p1 p2 x0 x1 x2 x3 x4 x5 h0 h1 (suc (suc (suc (suc (suc zero))))) j child s0 s1 s2 forks gets puts is =
    absurd (put_ops_fork j child (ap (λ ops. slice_get ops j) (sym puts) ∙ is))
fork_is_at p0 p1 p2 x0 x1 x2 x3 x4 x5 h0 h1 (suc (suc (suc (suc (suc (suc a)))))) j child s0 s1 s2 forks gets puts is = absurd (cc is)

are_script : (p0 p1 p2 : Process) (x0 x1 x2 x3 x4 x5 : Actor) (h0 h1 : List ℕ) → p2.born ≡ false
    → x0.kind ≡ Thread 0 → x1.kind ≡ Thread 1 → x2.kind ≡ Thread 2 → x3.kind ≡ Thread 0 → x4.kind ≡ Thread 0 → x5.kind ≡ Thread 0
    → All IsOp x0.ops → All IsOp x1.ops → All IsOp x2.ops → AreSingle x0.ops → AreSingle x1.ops → AreSingle x2.ops → x3.ops ≡ fork_ops → x4.ops ≡ get_ops → x5.ops ≡ put_ops
    → length x0.ops ≤ 1000 → length x1.ops ≤ 1000 → length x2.ops ≤ 1000 → IsScript (six_threads p0 p1 p2 x0 x1 x2 x3 x4 x5 h0 h1)
are_script p0 p1 p2 x0 x1 x2 x3 x4 x5 h0 h1 unborn k0 k1 k2 k3 k4 k5 o0 o1 o2 s0 s1 s2 forks gets puts l0 l1 l2 =
    let s : ScriptValue = six_threads p0 p1 p2 x0 x1 x2 x3 x4 x5 h0 h1 in
    let fits : (k : Kind) (p : ℕ) → k ≡ Thread p → p < 3 → KindFits s k = λ k p is within. subst (λ (x : Kind). KindFits s x) (sym is) within in
    let any : (k : Kind) (p : ℕ) (ops : List Op) → k ≡ Thread p → All IsOfThread ops → All (FitsKind k) ops = λ k p ops is all. subst (λ (x : Kind). All (FitsKind x) ops) (sym is) all in
    let brings : (ops : List Op) → AreSingle ops → All (AreDeclared s) ops = λ ops single. all_by IsAlone (AreDeclared s) (single_declares s) ops single in
    let threads : (ops : List Op) → AreSingle ops → All IsOfThread ops = λ ops single. all_by IsAlone IsOfThread of_thread ops single in
    let makes : (a j handle : ℕ) → MakesAt s a j handle → (a ≡ 3 + handle) × (j ≡ 0) = λ a j handle is. made_is_at p0 p1 p2 x0 x1 x2 x3 x4 x5 h0 h1 a j handle s0 s1 s2 forks gets puts is in
    let at : (a j child : ℕ) → ForksAt s a j child → (a ≡ 3) × (j ≡ 1) = λ a j child is. fork_is_at p0 p1 p2 x0 x1 x2 x3 x4 x5 h0 h1 a j child s0 s1 s2 forks gets puts is in
    record {
      few_frames = omega arith;
      few_tables = omega arith;
      few_processes = omega arith;
      few_actors = omega arith;
      few_handles = omega arith;
      few_mirrors = omega arith;
      kinds =
          all_six (λ x. KindFits s x.kind) x0 x1 x2 x3 x4 x5 (fits x0.kind 0 k0 (omega arith)) (fits x1.kind 1 k1 (omega arith)) (fits x2.kind 2 k2 (omega arith))
          (fits x3.kind 0 k3 (omega arith)) (fits x4.kind 0 k4 (omega arith)) (fits x5.kind 0 k5 (omega arith));
      ops =
          all_six (λ x. All IsOp x.ops) x0 x1 x2 x3 x4 x5 o0 o1 o2
          (subst (λ (ops : List Op). All IsOp ops) (sym forks) (all_forks IsOp (omega arith, omega arith, omega arith) tt))
          (subst (λ (ops : List Op). All IsOp ops) (sym gets) (all_gets IsOp (omega arith) tt))
          (subst (λ (ops : List Op). All IsOp ops) (sym puts) (all_puts IsOp tt));
      ops_fit =
          all_six (λ x. All (FitsKind x.kind) x.ops) x0 x1 x2 x3 x4 x5
          (any x0.kind 0 x0.ops k0 (threads x0.ops s0)) (any x1.kind 1 x1.ops k1 (threads x1.ops s1)) (any x2.kind 2 x2.ops k2 (threads x2.ops s2))
          (any x3.kind 0 x3.ops k3 (subst (λ (ops : List Op). All IsOfThread ops) (sym forks) (all_forks IsOfThread tt tt)))
          (any x4.kind 0 x4.ops k4 (subst (λ (ops : List Op). All IsOfThread ops) (sym gets) (all_gets IsOfThread tt tt)))
          (any x5.kind 0 x5.ops k5 (subst (λ (ops : List Op). All IsOfThread ops) (sym puts) (all_puts IsOfThread tt)));
      declared =
          all_six (λ x. All (AreDeclared s) x.ops) x0 x1 x2 x3 x4 x5 (brings x0.ops s0) (brings x1.ops s1) (brings x2.ops s2)
          (subst (λ (ops : List Op). All (AreDeclared s) ops) (sym forks) (all_forks (AreDeclared s) (omega arith) unborn))
          (subst (λ (ops : List Op). All (AreDeclared s) ops) (sym gets) (all_gets (AreDeclared s) (omega arith) (omega arith)))
          (subst (λ (ops : List Op). All (AreDeclared s) ops) (sym puts) (all_puts (AreDeclared s) (omega arith)));
      forks_once = λ a b j k child first second.
          let one = at a j child first in
          let other = at b k child second in
          (one.0 ∙ sym other.0, one.1 ∙ sym other.1);
      handles_once = λ a b j k handle first second.
          let one = makes a j handle first in
          let other = makes b k handle second in
          (one.0 ∙ sym other.0, one.1 ∙ sym other.1);
      few_ops =
          let of_fork : length x3.ops ≡ 2 = ap length forks in
          let of_gets : length x4.ops ≡ 3 = ap length gets in
          let of_puts : length x5.ops ≡ 1 = ap length puts in
          omega (arith, l0, l1, l2, of_fork, of_gets, of_puts);
      turns = λ k d within. absurd (omega arith);
      few_turns = omega arith;
    }

-- lists that were pushed to
pushed : {A : Type 0} (none one two three : List A) (x y z : A) → none ≡ [] → one ≡ none ++ x ∷ [] → two ≡ one ++ y ∷ [] → three ≡ two ++ z ∷ [] → three ≡ x ∷ y ∷ z ∷ []
pushed none one two three x y z e e1 e2 e3 = e3 ∙ ap (λ l. l ++ z ∷ []) (e2 ∙ ap (λ l. l ++ y ∷ []) (e1 ∙ ap (λ l. l ++ x ∷ []) e))

abbrev pub declared : List DeclaredProcess → List DeclaredActor → (handles mirrors : List (List ℕ)) → (turns : List ℕ) → ScriptValue
declared ps xs hs ms turns =
    record {
      frames = record { movable = 1; normal = 1; tables = 64 };
      processes = map process_value ps;
      actors = map actor_value xs;
      handles = hs;
      mirrors = ms;
      turns = turns;
      seed = 0;
    }

script_is : (ps : List DeclaredProcess) (xs : List DeclaredActor) (hs ms : List (List ℕ)) (turns : List ℕ) (p0 p1 p2 : DeclaredProcess) (x0 x1 x2 x3 x4 x5 : DeclaredActor) (h0 h1 : List ℕ)
    → ps ≡ p0 ∷ p1 ∷ p2 ∷ [] → xs ≡ x0 ∷ x1 ∷ x2 ∷ x3 ∷ x4 ∷ x5 ∷ [] → hs ≡ h0 ∷ h1 ∷ [] → ms ≡ [] → turns ≡ []
    → IsScript (six_threads (process_value p0) (process_value p1) (process_value p2) (actor_value x0) (actor_value x1) (actor_value x2) (actor_value x3) (actor_value x4) (actor_value x5) h0 h1)
    → IsScript (declared ps xs hs ms turns)
script_is ps xs hs ms turns p0 p1 p2 x0 x1 x2 x3 x4 x5 h0 h1 processes actors handles no_mirrors none h =
    subst (λ (l : List DeclaredProcess). IsScript (declared l xs hs ms turns)) (sym processes)
    (subst (λ (l : List DeclaredActor). IsScript (declared (p0 ∷ p1 ∷ p2 ∷ []) l hs ms turns)) (sym actors)
    (subst (λ (l : List (List ℕ)). IsScript (declared (p0 ∷ p1 ∷ p2 ∷ []) (x0 ∷ x1 ∷ x2 ∷ x3 ∷ x4 ∷ x5 ∷ []) l ms turns)) (sym handles)
    (subst (λ (l : List (List ℕ)). IsScript (declared (p0 ∷ p1 ∷ p2 ∷ []) (x0 ∷ x1 ∷ x2 ∷ x3 ∷ x4 ∷ x5 ∷ []) (h0 ∷ h1 ∷ []) l turns)) (sym no_mirrors)
    (subst (λ (l : List ℕ). IsScript (declared (p0 ∷ p1 ∷ p2 ∷ []) (x0 ∷ x1 ∷ x2 ∷ x3 ∷ x4 ∷ x5 ∷ []) (h0 ∷ h1 ∷ []) [] l)) (sym none) h))))

pub new-requires-3 : goal.new-requires-3
new-requires-3 c =
    let P0 = c.in_ok-process.field-0 in
    let P1 = c.in_ok-process-2.field-0 in
    let P2 = c.in_ok-process-3.field-0 in
    let X0 = c.in_ok-thread.field-0 in
    let X1 = c.in_ok-thread-2.field-0 in
    let X2 = c.in_ok-thread-3.field-0 in
    let X3 = c.in_ok-thread-4.field-0 in
    let X4 = c.in_ok-thread-5.field-0 in
    let X5 = c.in_ok-thread-6.field-0 in
    let H0 = c.in_ok-to_string.field-0 in
    let H1 = c.in_ok-to_string-2.field-0 in
    let ops0 : X0.ops.items ≡ c.args.first.items = c.in_ok-thread.ensures.ops in
    let ops1 : X1.ops.items ≡ c.args.second.items = c.in_ok-thread-2.ensures.ops in
    let ops2 : X2.ops.items ≡ c.args.third.items = c.in_ok-thread-3.ensures.ops in
    script_is c.push-3.new.self.items c.push-9.new.self.items (map string_bytes c.push-11.new.self.items) (map string_bytes c.new.result.items) c.new-2.result.items P0 P1 P2 X0 X1 X2 X3 X4 X5 (string_bytes H0) (string_bytes H1)
    (pushed c.new-processes.result.items c.push.new.self.items c.push-2.new.self.items c.push-3.new.self.items P0 P1 P2 c.new-processes.ensures.items c.in_ok-push.ensures.items c.in_ok-push-2.ensures.items c.in_ok-push-3.ensures.items)
    (c.in_ok-push-9.ensures.items
    ∙ ap (λ (l : List DeclaredActor). l ++ X5 ∷ []) (c.in_ok-push-8.ensures.items
    ∙ ap (λ (l : List DeclaredActor). l ++ X4 ∷ []) (c.in_ok-push-7.ensures.items
    ∙ ap (λ (l : List DeclaredActor). l ++ X3 ∷ [])
    (pushed c.new-actors.result.items c.push-4.new.self.items c.push-5.new.self.items c.push-6.new.self.items X0 X1 X2 c.new-actors.ensures.items c.in_ok-push-4.ensures.items c.in_ok-push-5.ensures.items c.in_ok-push-6.ensures.items))))
    (ap (λ hs. map string_bytes hs) (c.in_ok-push-11.ensures.items ∙ ap (λ hs. hs ++ H1 ∷ []) (c.in_ok-push-10.ensures.items ∙ ap (λ hs. hs ++ H0 ∷ []) c.new-handles.ensures.items))) (ap (λ ms. map string_bytes ms) c.new.ensures.items) c.new-2.ensures.items
    (are_script (process_value P0) (process_value P1) (process_value P2) (actor_value X0) (actor_value X1) (actor_value X2) (actor_value X3) (actor_value X4) (actor_value X5) (string_bytes H0) (string_bytes H1)
    c.in_ok-process-3.ensures c.in_ok-thread.ensures.kind c.in_ok-thread-2.ensures.kind c.in_ok-thread-3.ensures.kind c.in_ok-thread-4.ensures.kind c.in_ok-thread-5.ensures.kind c.in_ok-thread-6.ensures.kind
    (subst (λ (ops : List Op). All IsOp ops) (c.deref.ensures.value ∙ sym ops0) (c.if-not-are_ops.ensures.range refl))
    (subst (λ (ops : List Op). All IsOp ops) (c.deref-else-not-are_ops.ensures.value ∙ sym ops1) (c.if-not-are_ops-2.ensures.range refl))
    (subst (λ (ops : List Op). All IsOp ops) (c.deref-else-not-are_ops-2.ensures.value ∙ sym ops2) (c.if-not-are_ops-3.ensures.range refl))
    (subst (λ (ops : List Op). AreSingle ops) (c.deref.ensures.value ∙ sym ops0) (c.if-not-are_ops.ensures.alone refl))
    (subst (λ (ops : List Op). AreSingle ops) (c.deref-else-not-are_ops.ensures.value ∙ sym ops1) (c.if-not-are_ops-2.ensures.alone refl))
    (subst (λ (ops : List Op). AreSingle ops) (c.deref-else-not-are_ops-2.ensures.value ∙ sym ops2) (c.if-not-are_ops-3.ensures.alone refl))
    (c.in_ok-thread-4.ensures.ops ∙ c.in_ok-fork.ensures.items ∙ ap (λ child. c.pin.result ∷ Fork child ∷ []) c.proc.ensures ∙ ap (λ pin. pin ∷ Fork 2 ∷ []) c.pin.ensures)
    (c.in_ok-thread-5.ensures.ops ∙ c.in_ok-gets.ensures.items ∙ ap (λ get. get ∷ c.put.result ∷ c.put-2.result ∷ []) c.get.ensures
    ∙ ap (λ first. Get 1 5 ∷ first ∷ c.put-2.result ∷ []) c.put.ensures ∙ ap (λ second. Get 1 5 ∷ Put 1 ∷ second ∷ []) c.put-2.ensures)
    (c.in_ok-thread-6.ensures.ops ∙ c.in_ok-puts.ensures.items ∙ ap (λ put. put ∷ []) c.put-3.ensures)
    (omega (arith, ap length ops0, ap length c.deref.ensures.value, c.if-not-are_ops.ensures.few refl))
    (omega (arith, ap length ops1, ap length c.deref-else-not-are_ops.ensures.value, c.if-not-are_ops-2.ensures.few refl))
    (omega (arith, ap length ops2, ap length c.deref-else-not-are_ops-2.ensures.value, c.if-not-are_ops-3.ensures.few refl)))
