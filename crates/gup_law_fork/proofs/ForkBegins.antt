-- A fork begins, and reads the count of a page.
use Rattle.std.proofs.Common.{◌≡◌, ℕ, ◌+◌, ◌<◌, ◌≤◌, Bool, true, false, List, [], refl, ap, sym, ◌∙◌, subst, arith}
use Rattle.std.specs.Prelude.{Option, Some, None, IsSome, Contains, slice_get, nat_lt, not}
use Rattle.std.proofs.lemmas.Bool.Decides.{nat_tests}
use Rattle.gup_base.specs.declared.entry.Entry.{Entry}
use Rattle.gup_base.specs.declared.entry.Rights.{Rights}
use Rattle.gup_plain.specs.Put.{put}
use Rattle.gup_plain.specs.State.{unborn, failed, born, growing}
use Rattle.gup_plain.specs.Event.{words}
use Rattle.gup_spec_events.specs.State.{CoreState, Taken, idle, forking, ForkStep, between, counted, cleared, copying, plain_of}
use Rattle.gup_spec_events.specs.Event.{Can, happens, bias, copies_page, is_done, is_odd, begin_fork, count_page}
use Rattle.gup_law_base.specs.Sound.{View, Forking, moving_of, forking_of, step_page, shared_page, lowered_page, is_failing, copied_words, step_words, keeps_table, birth_of_child, is_open, IsSoundBy, IsSound, Simulates, IsUncopiedBy}
use Rattle.gup_law_base.proofs.Clauses.{MarksAre, MovesAre, ForksAre, WholeFree, WholeKept, WholeOther, RightNames, WholeNames, NamesObject, MarksTable, MovesTable, ForksTable, ForksStructure, TableHeld, StructureHeld, TableBorn, ForkParent, ForkBirth, GrowingLocked, GrowingForked, GrowingRights, UnbornUnmapped, FailedUnmapped, FlagBorn, OwnMade, OwnNames, OwnEntry, OwnWords, OwnMarked, OwnMarking, MarkedOwn, EntryMapped, EntryAllowed, EntryWords, Untouched, NamesAlone, NamesMade, RightNumbered, HandleFlag, TakenNames, PreparedZero, MarkingOwn, ForkFresh, ForkCopied, ForkUncopied, ForkUndone, ForkMapped, CopyWords, CopyThere, ShareHandle, ShareTaken, ShareLowered, ShareUnowned, MirrorBorn, MirrorNames, WalksAre, ForkOdd, QuietEven, TakenMade, WalkBelow, WalkOwn, WalkUnowned, WalkKept, WalkWritable, ForkAlone, ForkLeft}
use Rattle.gup_law_base.proofs.FailedChildren.{alone_with, alone_next, left_next}
use Rattle.gup_law_base.proofs.Steps.{odd_next}
use Rattle.gup_law_fork.proofs.DisturbedWalks.{raised_below, raised_own, raised_unowned, raised_kept, raised_writable}
use Rattle.gup_law_base.proofs.Lonely.{handle_counts, taken_counts}
use Rattle.gup_law_base.proofs.NamedObjects.{by_pages, named_twice}
use Rattle.gup_law_base.proofs.DonePages.{fork_after}
use Rattle.gup_law_base.proofs.Tally.{number_here}
use Rattle.gup_law_base.proofs.Children.{birth_goes, growing_parent, uncopied_before, fork_here, copied_made}
use Rattle.gup_law_base.proofs.Holders.{no_element}

-- the object of a page of a new child
abbrev new_name : Option Rights → ℕ → Option ℕ
new_name None o = None
new_name (Some r) o = Some o

new_name_is : (r : Option Rights) (o n : ℕ) → new_name r o ≡ Some n → IsSome r × (o ≡ n)
new_name_is None o n is = absurd (cc)
new_name_is (Some r) o n is = (refl, cc)

-- an unborn process has no entries, and no fork brings it
unborn_empty : (v : View) (s : CoreState) (c g : ℕ) (e : Entry) → IsSoundBy v s → s.birth c ≡ unborn → v.whole c g ≡ Some e → ⊥
unborn_empty v s c g e h is there =
    let lost : s.birth c ≡ failed = h.entry_mapped c g e there (h.unborn_unmapped c g is) in
    cc

never_unborn : (v : View) (s : CoreState) (c b : ℕ) (k : Forking) → IsSoundBy v s → s.birth c ≡ unborn → v.forks b ≡ Some k → k.child ≡ c → ⊥
never_unborn v s c b k h is forks same = grind (arith, nat_tests, h.fork_birth b k)

-- the child's objects are new, and it has no entry yet
pub simulates-begin_fork : (s : CoreState) (a p c : ℕ) → IsSound s → Can s (begin_fork a p c) → Simulates s (begin_fork a p c)
simulates-begin_fork s a p c (v, h) can =
    let S : CoreState = happens s (begin_fork a p c) in
    let V : View = record v { forks = put a (Some (record { proc = p; child = c; done = []; step = between })) v.forks; names = put c (λ g. new_name (s.right p g) (s.made + g)) v.names } in
    let next : Forking = record { proc = p; child = c; done = []; step = between } in
    let unlocked : s.structure p ≡ None = can.2.0 in
    let idles : s.job a ≡ idle = can.3.0 in
    let none : v.forks a ≡ None = h.forks_are a ∙ ap forking_of idles in
    let odd : is_odd (s.sequence p + 1) ≡ true = odd_next (s.sequence p) ∙ ap not (h.quiet_even p unlocked) in
    let marks_are : MarksAre V S = λ b. grind (arith, nat_tests, h.marks_are b) in
    let moves_are : MovesAre V S = λ b. grind (arith, nat_tests, h.moves_are b) in
    let forks_are : ForksAre V S = λ b. grind (arith, nat_tests, h.forks_are b) in
    let walks_are : WalksAre V S = λ b. grind (arith, nat_tests, h.walks_are b) in
    let right_names : RightNames V S = λ q i r. grind (arith, nat_tests, h.right_names q i r) in
    let whole_names : WholeNames V S = λ q i d. grind (arith, nat_tests, h.whole_names q i d, unborn_empty v s c i d h can.1) in
    let names_object : NamesObject V S = λ q i o. grind (arith, nat_tests, h.names_object q i o, new_name_is (s.right p i) (s.made + i) o) in
    let forks_table : ForksTable V S = λ b i. fork_after (λ b k. step_page k.step ≡ Some i → s.table k.proc ≡ Some b) v.forks a next (λ at. absurd (cc)) (λ b k other. h.forks_table b i k) b in
    let forks_structure : ForksStructure V S = λ b fork. grind (arith, nat_tests, h.forks_structure b fork) in
    let table_held : TableHeld V S = λ q b. grind (arith, nat_tests, h.table_held q b) in
    let structure_held : StructureHeld V S = λ q b. grind (arith, nat_tests, h.structure_held q b) in
    let table_born : TableBorn V S = λ q b. grind (arith, nat_tests, h.table_born q b) in
    let fork_parent : ForkParent V S = λ b fork. grind (arith, nat_tests, h.fork_parent b fork) in
    let fork_birth : ForkBirth V S = λ b fork. grind (arith, nat_tests, h.fork_birth b fork, never_unborn v s c b fork h can.1) in
    let growing_locked : GrowingLocked V S = λ x q. grind (arith, nat_tests, h.growing_locked x q) in
    let growing_forked : GrowingForked V S = λ x q b. grind (arith, nat_tests, h.growing_forked x q b, h.growing_locked x q, h.structure_held q b) in
    let growing_rights : GrowingRights V S = λ x q i. grind (arith, nat_tests, h.growing_rights x q i, growing_parent v s x q h) in
    let unborn_unmapped : UnbornUnmapped V S = λ q i. grind (arith, nat_tests, h.unborn_unmapped q i) in
    let failed_unmapped : FailedUnmapped V S = λ q i. grind (arith, nat_tests, h.failed_unmapped q i) in
    let flag_born : FlagBorn V S = λ q. grind (arith, nat_tests, h.flag_born q) in
    let fork_odd : ForkOdd V S = λ b fork. grind (arith, nat_tests, h.fork_odd b fork, h.forks_structure b fork, odd) in
    let quiet_even : QuietEven V S = λ q. grind (arith, nat_tests, h.quiet_even q) in
    let own_made : OwnMade V S = λ u o. grind (arith, nat_tests, h.own_made u o) in
    let own_names : OwnNames V S = λ q i o d. grind (arith, nat_tests, h.own_names q i o d, unborn_empty v s c i d h can.1) in
    let own_entry : OwnEntry V S = λ u q i o. grind (arith, nat_tests, h.own_entry u q i o, h.own_made u o, new_name_is (s.right p i) (s.made + i) o) in
    let own_words : OwnWords V S = λ u o w. grind (arith, nat_tests, h.own_words u o w, h.own_made u o) in
    let marked_own : MarkedOwn V S = λ q i d. grind (arith, nat_tests, h.marked_own q i d, unborn_empty v s c i d h can.1) in
    let entry_mapped : EntryMapped V S = λ q i d. grind (arith, nat_tests, h.entry_mapped q i d, unborn_empty v s c i d h can.1) in
    let entry_allowed : EntryAllowed V S = λ q i d. grind (arith, nat_tests, h.entry_allowed q i d, unborn_empty v s c i d h can.1) in
    let entry_words : EntryWords V S = λ q i w d r. grind (arith, nat_tests, h.entry_words q i w d r, unborn_empty v s c i d h can.1, h.right_names q i r, h.names_made q i (s.object q i)) in
    let untouched : Untouched V S = λ q i w r mapped empty now. let old : IsUncopiedBy v.forks q i = uncopied_before v.forks a _ q i now (λ word k is child at. grind (arith)) in grind (arith, nat_tests, λ (r : Rights) (is : s.right q i ≡ Some r). h.untouched q i w r is empty old, h.right_names q i r, h.names_made q i (s.object q i), h.right_numbered p i r) in
    let names_alone : NamesAlone V S = λ q i x j o. grind (arith, nat_tests, h.names_alone q i x j o, new_name_is (s.right p i) (s.made + i) o, new_name_is (s.right p j) (s.made + j) o, h.names_made q i o, h.names_made x j o) in
    let names_made : NamesMade V S = λ q i o. grind (arith, nat_tests, h.names_made q i o, new_name_is (s.right p i) (s.made + i) o, λ (r : Rights). h.right_numbered p i r) in
    let right_numbered : RightNumbered V S = λ q i r. grind (arith, nat_tests, h.right_numbered q i r, h.right_numbered p i r) in
    let handle_flag : HandleFlag V S = λ j n u o q i. grind (arith, nat_tests, h.handle_flag j n u o q i, h.own_made u o, new_name_is (s.right p i) (s.made + i) o) in
    let taken_made : TakenMade V S = λ b n t. grind (arith, nat_tests, h.taken_made b n t) in
    let taken_names : TakenNames V S = λ b n q i t. grind (arith, nat_tests, h.taken_names b n q i t, h.taken_made b n t, new_name_is (s.right p i) (s.made + i) t.object) in
    let walk_below : WalkBelow V S = raised_below v s p h in
    let walk_own : WalkOwn V S = raised_own v s p h in
    let walk_unowned : WalkUnowned V S = raised_unowned v s p h in
    let walk_kept : WalkKept V S = raised_kept v s p h in
    let walk_writable : WalkWritable V S = raised_writable v s p h in
    let prepared_zero : PreparedZero V S = λ b u w. grind (arith, nat_tests, h.prepared_zero b u w) in
    let marking_own : MarkingOwn V S = λ b m. grind (arith, nat_tests, h.marking_own b m, h.marking_entry b m, λ (e : Entry). unborn_empty v s c m.page e h can.1) in
    let fork_fresh : ForkFresh V S = λ b i fork. grind (arith, nat_tests, h.fork_fresh b i fork, λ (e : Entry). unborn_empty v s c i e h can.1) in
    let fork_copied : ForkCopied V S = λ b i w fork. grind (arith, nat_tests, h.fork_copied b i w fork, never_unborn v s c b fork h can.1, no_element i) in
    let fork_uncopied : ForkUncopied V S = λ b i w fork. grind (arith, nat_tests, h.fork_uncopied b i w fork, never_unborn v s c b fork h can.1) in
    let fork_undone : ForkUndone V S = λ b i. fork_after (λ b k. step_page k.step ≡ Some i → Contains k.done i → ⊥) v.forks a next (λ at. absurd (cc)) (λ b k other. h.fork_undone b i k) b in
    let fork_mapped : ForkMapped V S = λ b i fork. grind (arith, nat_tests, h.fork_mapped b i fork, never_unborn v s c b fork h can.1) in
    let copy_words : CopyWords V S = λ b i n w u fork. grind (arith, nat_tests, h.copy_words b i n w u fork, never_unborn v s c b fork h can.1, copied_made v s b i n fork h) in
    let copy_there : CopyThere V S = λ b i n fork. grind (arith, nat_tests, h.copy_there b i n fork) in
    let share_handle : ShareHandle V S = λ b i j n k d. fork_after (λ b k. shared_page k.step ≡ Some i → v.whole k.proc i ≡ Some d → slice_get (s.pinned j) n ≡ Some d.frame → ⊥) v.forks a next (λ at. absurd (cc)) (λ b k other was. h.share_handle b i j n k d was) b k in
    let share_taken : ShareTaken V S = λ b i y n k d t. fork_after (λ b k. shared_page k.step ≡ Some i → v.whole k.proc i ≡ Some d → slice_get (s.taken y) n ≡ Some t → is_open (v.walks y) ≡ false → t.frame ≡ d.frame → ⊥) v.forks a next (λ at. absurd (cc)) (λ b k other was. h.share_taken b i y n k d t was) b k in
    let share_lowered : ShareLowered V S = λ b i k d. fork_after (λ b k. lowered_page k.step ≡ Some i → v.whole k.proc i ≡ Some d → d.writable ≡ false) v.forks a next (λ at. absurd (cc)) (λ b k other was. h.share_lowered b i k d was) b k in
    let share_unowned : ShareUnowned V S = λ b i k d. fork_after (λ b k. k.step ≡ cleared i → v.whole k.proc i ≡ Some d → s.own d.frame ≡ None) v.forks a next (λ at. absurd (cc)) (λ b k other was. h.share_unowned b i k d was) b k in
    let mirror_born : MirrorBorn V S = λ m u noted. grind (arith, nat_tests, h.mirror_born m u noted) in
    let mirror_names : MirrorNames V S = λ m u noted. grind (arith, nat_tests, h.mirror_names m u noted, h.mirror_born m u noted) in
    let fork_alone : ForkAlone V S = alone_with v.forks a next (λ b k other is same. never_unborn v s c b k h can.1 is same) h.fork_alone in
    let fork_left : ForkLeft V S = left_next v.forks a next s.entry refl h.fork_left in
    let sound : IsSoundBy V S = assumption in
    record { sound = (V, sound); can = (can.0, can.1); same = ap (λ (o : ℕ → ℕ → ℕ). record (plain_of S) { object = o }) (by_pages (λ q g. grind (arith, nat_tests, named_twice (s.right p g) (s.made + g)))) }

-- a page under a pin is to be copied
handle_copies : (v : View) (s : CoreState) (p page j n : ℕ) (e : Entry) → IsSoundBy v s → v.whole p page ≡ Some e → slice_get (s.pinned j) n ≡ Some e.frame → copies_page s p e.frame ≡ true
handle_copies v s p page j n e h there pins =
    let marked : s.mark e.frame ≡ true = h.handle_marked j n e.frame pins in
    let named : v.names p page ≡ Some (s.object p page) = h.whole_names p page e there in
    let flag : s.has_pinned p ≡ true = h.handle_flag j n e.frame (s.object p page) p page pins (h.marked_own p page e there marked ∙ named) named in
    grind (arith, nat_tests, handle_counts v s h j n e.frame, h.count_is e.frame)

taken_copies : (v : View) (s : CoreState) (p page b n : ℕ) (e : Entry) (t : Taken) → IsSoundBy v s → v.whole p page ≡ Some e → slice_get (s.taken b) n ≡ Some t → is_open (v.walks b) ≡ false → t.frame ≡ e.frame → copies_page s p e.frame ≡ true
taken_copies v s p page b n e t h there takes settled same =
    let marked : s.mark t.frame ≡ true = h.taken_marked b n t takes settled in
    let owned : s.own t.frame ≡ Some t.object = h.taken_own b n t takes settled in
    let names : v.names p page ≡ Some t.object = h.own_names p page t.object e there (subst (λ f. s.own f ≡ Some t.object) same owned) in
    let proc : p ≡ t.proc = (h.taken_names b n p page t takes names).0 in
    let flag : s.has_pinned p ≡ true = subst (λ q. s.has_pinned q ≡ true) (sym proc) (h.taken_flag b n t takes) in
    let count : bias ≤ v.references e.frame = subst (λ f. bias ≤ v.references f) same (taken_counts v s h b n t takes) in
    grind (arith, nat_tests, h.count_is e.frame)

-- a step that begins with a page: nothing is copied or made read-only yet
record IsBeginning (step : ForkStep) (page : ℕ) : Type 0 where
  at : step_page step ≡ Some page
  going : is_failing step ≡ false
  copied : (g : ℕ) → copied_words step g ≡ 0
  written : step_words step ≡ 0
  lowered : lowered_page step ≡ None
  uncleared : (g : ℕ) → step ≡ cleared g → ⊥
  uncopied : (g n : ℕ) → step ≡ copying g n → n ≡ 0
  keeps : (p c : ℕ) (done : List ℕ) → keeps_table (forking p c done step) ≡ Some p

-- it shares no page that a pin holds
record IsApart (v : View) (s : CoreState) (p : ℕ) (step : ForkStep) : Type 0 where
  handles : (g j n : ℕ) (d : Entry) → shared_page step ≡ Some g → v.whole p g ≡ Some d → slice_get (s.pinned j) n ≡ Some d.frame → ⊥
  takens : (g b n : ℕ) (d : Entry) (t : Taken) → shared_page step ≡ Some g → v.whole p g ≡ Some d → slice_get (s.taken b) n ≡ Some t → is_open (v.walks b) ≡ false → t.frame ≡ d.frame → ⊥

counted_page : (v : View) (s : CoreState) (a p c : ℕ) (done : List ℕ) (page : ℕ) (step : ForkStep) → IsSoundBy v s → s.job a ≡ forking p c done between → s.table p ≡ None → IsSome (s.right c page) → (is_done done page → ⊥) → IsBeginning step page → IsApart v s p step → IsSoundBy (record v { forks = put a (Some (record { proc = p; child = c; done = done; step = step })) v.forks }) (record s { table = put p (Some a) s.table; job = put a (forking p c done step) s.job })
counted_page v s a p c done page step h is free mapped undone begins apart =
    let S : CoreState = record s { table = put p (Some a) s.table; job = put a (forking p c done step) s.job } in
    let next : Forking = record { proc = p; child = c; done = done; step = step } in
    let V : View = record v { forks = put a (Some next) v.forks } in
    let before : Forking = record { proc = p; child = c; done = done; step = between } in
    let mine : v.forks a ≡ Some before = fork_here v s a p c done between h is in
    let still : v.moves a ≡ None = h.moves_are a ∙ ap moving_of is in
    let lives : s.birth p ≡ born = h.fork_parent a before mine in
    let grows : s.birth c ≡ growing p = h.fork_birth a before mine in
    let keeps : keeps_table (forking p c done step) ≡ Some p = begins.keeps p c done in
    let marks_are : MarksAre V S = λ b. grind (arith, nat_tests, h.marks_are b) in
    let moves_are : MovesAre V S = λ b. grind (arith, nat_tests, h.moves_are b) in
    let forks_are : ForksAre V S = λ b. grind (arith, nat_tests, h.forks_are b) in
    let walks_are : WalksAre V S = λ b. grind (arith, nat_tests, h.walks_are b) in
    let whole_free : WholeFree V S = λ q i d. grind (arith, nat_tests, h.whole_free q i d) in
    let whole_kept : WholeKept V S = λ q i b d. grind (arith, nat_tests, h.whole_kept q i b d, h.whole_free q i d) in
    let whole_other : WholeOther V S = λ q i b d m. grind (arith, nat_tests, h.whole_other q i b d m, h.whole_free q i d) in
    let marks_table : MarksTable V S = λ b m. grind (arith, nat_tests, h.marks_table b m) in
    let moves_table : MovesTable V S = λ b m. grind (arith, nat_tests, h.moves_table b m) in
    let table_here : S.table p ≡ Some a = number_here p (Some a) s.table in
    let table_there : (q b : ℕ) → s.table q ≡ Some b → S.table q ≡ Some b = λ q b held. grind (arith, nat_tests) in
    let forks_table : ForksTable V S = λ b i. fork_after (λ b k. step_page k.step ≡ Some i → S.table k.proc ≡ Some b) v.forks a next (λ at. table_here) (λ b k other was at. table_there k.proc b (h.forks_table b i k was at)) b in
    let forks_structure : ForksStructure V S = fork_after (λ b k. s.structure k.proc ≡ Some b) v.forks a next (h.forks_structure a before mine) (λ b k other. h.forks_structure b k) in
    let table_held : TableHeld V S = λ q b. grind (arith, nat_tests, h.table_held q b) in
    let structure_held : StructureHeld V S = λ q b. grind (arith, nat_tests, h.structure_held q b) in
    let table_born : TableBorn V S = λ q b. grind (arith, nat_tests, h.table_born q b) in
    let fork_parent : ForkParent V S = fork_after (λ b k. s.birth k.proc ≡ born) v.forks a next lives (λ b k other. h.fork_parent b k) in
    let birth_here : s.birth c ≡ birth_of_child next = grows ∙ sym (birth_goes next begins.going) in
    let fork_birth : ForkBirth V S = fork_after (λ b k. s.birth k.child ≡ birth_of_child k) v.forks a next birth_here (λ b k other. h.fork_birth b k) in
    let odd : is_odd (s.sequence p) ≡ not (is_failing step) = h.fork_odd a before mine ∙ sym (ap not begins.going) in
    let fork_odd : ForkOdd V S = fork_after (λ b k. is_odd (s.sequence k.proc) ≡ not (is_failing k.step)) v.forks a next odd (λ b k other. h.fork_odd b k) in
    let growing_forked : GrowingForked V S = λ x q b. grind (arith, nat_tests, h.growing_forked x q b) in
    let own_marked : OwnMarked V S = λ q i o d. grind (arith, nat_tests, h.own_marked q i o d) in
    let own_marking : OwnMarking V S = λ q i o b d. grind (arith, nat_tests, h.own_marking q i o b d, h.own_marked q i o d) in
    let untouched : Untouched V S = λ q i w r there empty now. let old : IsUncopiedBy v.forks q i = uncopied_before v.forks a _ q i now (λ word k was child at. grind (arith)) in h.untouched q i w r there empty old in
    let prepared_zero : PreparedZero V S = λ b u w. grind (arith, nat_tests, h.prepared_zero b u w, begins.written) in
    let fork_fresh : ForkFresh V S = λ b i. fork_after (λ b k. is_failing k.step ≡ false → (Contains k.done i → ⊥) → v.whole k.child i ≡ None) v.forks a next (λ going. h.fork_fresh a i before mine refl) (λ b k other. h.fork_fresh b i k) b in
    let fork_copied : ForkCopied V S = λ b i w. fork_after (λ b k. is_failing k.step ≡ false → Contains k.done i → w < words → s.copied k.child i w ≡ true) v.forks a next (λ going. h.fork_copied a i w before mine refl) (λ b k other. h.fork_copied b i w k) b in
    let uncopied_here : (i w : ℕ) → (Contains done i → ⊥) → w < words → s.copied c i w ≡ nat_lt w (copied_words step i) = λ i w un below. h.fork_uncopied a i w before mine refl un below ∙ ap (nat_lt w) (sym (begins.copied i)) in
    let fork_uncopied : ForkUncopied V S = λ b i w. fork_after (λ b k. is_failing k.step ≡ false → (Contains k.done i → ⊥) → w < words → s.copied k.child i w ≡ nat_lt w (copied_words k.step i)) v.forks a next (λ going. uncopied_here i w) (λ b k other. h.fork_uncopied b i w k) b in
    let page_is : (i : ℕ) → step_page step ≡ Some i → page ≡ i = λ i at. let same : Some page ≡ Some i = sym begins.at ∙ at in cc in
    let fork_undone : ForkUndone V S = λ b i. fork_after (λ b k. step_page k.step ≡ Some i → Contains k.done i → ⊥) v.forks a next (λ at has. undone (subst (Contains done) (sym (page_is i at)) has)) (λ b k other. h.fork_undone b i k) b in
    let fork_mapped : ForkMapped V S = λ b i. fork_after (λ b k. step_page k.step ≡ Some i → s.right k.child i ≡ None → ⊥) v.forks a next (λ at none. let some : IsSome (s.right c i) = subst (λ g. IsSome (s.right c g)) (page_is i at) mapped in absurd (cc)) (λ b k other. h.fork_mapped b i k) b in
    let copy_words : CopyWords V S = λ b i n w u. fork_after (λ b k. k.step ≡ copying i n → s.prepared b ≡ Some u → w < n → s.word u w ≡ s.content (s.object k.child i) w) v.forks a next (λ at prepares below. absurd (omega (arith, begins.uncopied i n at, below))) (λ b k other. h.copy_words b i n w u k) b in
    let copy_there : CopyThere V S = λ b i n. fork_after (λ b k. k.step ≡ copying i n → 0 < n → s.prepared b ≡ None → ⊥) v.forks a next (λ at past. absurd (omega (arith, begins.uncopied i n at, past))) (λ b k other. h.copy_there b i n k) b in
    let share_handle : ShareHandle V S = λ b i j n k d. fork_after (λ b k. shared_page k.step ≡ Some i → v.whole k.proc i ≡ Some d → slice_get (s.pinned j) n ≡ Some d.frame → ⊥) v.forks a next (apart.handles i j n d) (λ b k other was. h.share_handle b i j n k d was) b k in
    let share_taken : ShareTaken V S = λ b i y n k d t. fork_after (λ b k. shared_page k.step ≡ Some i → v.whole k.proc i ≡ Some d → slice_get (s.taken y) n ≡ Some t → is_open (v.walks y) ≡ false → t.frame ≡ d.frame → ⊥) v.forks a next (apart.takens i y n d t) (λ b k other was. h.share_taken b i y n k d t was) b k in
    let share_lowered : ShareLowered V S = λ b i k d. fork_after (λ b k. lowered_page k.step ≡ Some i → v.whole k.proc i ≡ Some d → d.writable ≡ false) v.forks a next (λ low. absurd (let none : None ≡ Some i = sym begins.lowered ∙ low in cc)) (λ b k other was. h.share_lowered b i k d was) b k in
    let share_unowned : ShareUnowned V S = λ b i k d. fork_after (λ b k. k.step ≡ cleared i → v.whole k.proc i ≡ Some d → s.own d.frame ≡ None) v.forks a next (λ at. absurd (begins.uncleared i at)) (λ b k other was. h.share_unowned b i k d was) b k in
    let fork_alone : ForkAlone V S = alone_next v.forks a before next mine refl h.fork_alone in
    let fork_left : ForkLeft V S = left_next v.forks a next s.entry begins.going h.fork_left in
    assumption

begins_copy : (page : ℕ) → IsBeginning (copying page 0) page
begins_copy page =
    record {
      at = refl;
      going = refl;
      copied = λ g. grind (arith, nat_tests);
      written = refl;
      lowered = refl;
      uncleared = λ g is. absurd (cc);
      uncopied = λ g n is. cc;
      keeps = λ p c done. refl;
    }

begins_share : (page : ℕ) → IsBeginning (counted page) page
begins_share page =
    record {
      at = refl;
      going = refl;
      copied = λ g. refl;
      written = refl;
      lowered = refl;
      uncleared = λ g is. absurd (cc);
      uncopied = λ g n is. absurd (cc);
      keeps = λ p c done. refl;
    }

-- what is to be copied is not shared, and what is shared is under no pin: else it were to be copied
apart_from_pins : (v : View) (s : CoreState) (p page : ℕ) → IsSoundBy v s → (e : Entry) → v.whole p page ≡ Some e → false ≡ copies_page s p e.frame → IsApart v s p (counted page)
apart_from_pins v s p page h e there reads =
    record {
      handles = λ g j n d at also pins.
          let same : page ≡ g = cc in
          let here : v.whole p page ≡ Some d = subst (λ i. v.whole p i ≡ Some d) (sym same) also in
          let alike : d ≡ e = cc in
          let copies : copies_page s p d.frame ≡ true = handle_copies v s p page j n d h here pins in
          let not : false ≡ copies_page s p d.frame = subst (λ (x : Entry). false ≡ copies_page s p x.frame) (sym alike) reads in
          absurd (let no : false ≡ true = not ∙ copies in cc);
      takens = λ g b n d t at also takes settled frame.
          let same : page ≡ g = cc in
          let here : v.whole p page ≡ Some d = subst (λ i. v.whole p i ≡ Some d) (sym same) also in
          let alike : d ≡ e = cc in
          let copies : copies_page s p d.frame ≡ true = taken_copies v s p page b n d t h here takes settled frame in
          let not : false ≡ copies_page s p d.frame = subst (λ (x : Entry). false ≡ copies_page s p x.frame) (sym alike) reads in
          absurd (let no : false ≡ true = not ∙ copies in cc);
    }

pub simulates-count_page : (s : CoreState) (a p c : ℕ) (done : List ℕ) (page : ℕ) (e : Entry) (copies : Bool) → IsSound s → Can s (count_page a p c done page e copies) → Simulates s (count_page a p c done page e copies)
simulates-count_page s a p c done page e true (v, h) can =
    let apart : IsApart v s p (copying page 0) = record { handles = λ g j n d at. absurd (cc); takens = λ g b n d t at. absurd (cc) } in
    record { sound = (_, counted_page v s a p c done page (copying page 0) h can.0 can.1 can.2 can.3 (begins_copy page) apart); can = tt; same = refl }
simulates-count_page s a p c done page e false (v, h) can =
    let there : v.whole p page ≡ Some e = h.whole_entry p page e can.4 in
    record { sound = (_, counted_page v s a p c done page (counted page) h can.0 can.1 can.2 can.3 (begins_share page) (apart_from_pins v s p page h e there can.5)); can = tt; same = refl }
