-- A fork shares a page: its entry becomes read-only, and its frame is exclusive no more.
use Rattle.std.proofs.Common.{◌≡◌, ℕ, Bool, true, false, List, refl, ap, sym, ◌∙◌, subst, arith, ◌<◌}
use Rattle.std.specs.Prelude.{Some, None, slice_get, not, Contains, nat_lt}
use Rattle.std.proofs.lemmas.Bool.Decides.{nat_tests}
use Rattle.gup_base.specs.declared.entry.Entry.{Entry}
use Rattle.gup_plain.specs.Put.{put, put2}
use Rattle.gup_plain.specs.State.{born}
use Rattle.gup_spec_events.specs.State.{CoreState, Taken, counted, lowered, cleared}
use Rattle.gup_spec_events.specs.Event.{Can, happens, entry_of, is_odd, share_entry, share_mark}
use Rattle.gup_spec_events.specs.Invariant.{is_inside}
use Rattle.gup_law_base.specs.Sound.{View, Forking, Walking, is_failing, marking_of, moving_of, IsSoundBy, IsSound, Simulates, IsUncopiedBy, step_page, shared_page, lowered_page, is_open, birth_of_child, copied_words}
use Rattle.gup_law_base.proofs.Clauses.{References, MarksAre, MovesAre, ForksAre, WholeEntry, WholeMoved, WholeFree, WholeKept, WholeOther, MovedGone, WholeNames, ForksTable, ForksStructure, TableHeld, StructureHeld, ForkParent, ForkBirth, GrowingForked, OwnAlone, OwnMade, OwnNames, OwnEntry, OwnWords, OwnMarked, OwnMarking, MarkedOwn, EntryMapped, EntryMarked, EntryAllowed, EntryWords, Untouched, HandleMarked, HandleOwn, HandleFlag, TakenMarked, TakenOwn, PreparedUnmarked, PreparedUnowned, PreparedZero, MarkingEntry, MarkingOwn, ForkFresh, ForkCopied, ForkUncopied, ForkUndone, ForkMapped, CopyWords, CopyThere, ShareHandle, ShareTaken, ShareLowered, ShareUnowned, MirrorEntry, WalksAre, ForkOdd, WalkOwn, WalkUnowned, WalkKept, WalkWritable, ForkAlone, ForkLeft}
use Rattle.gup_law_base.proofs.FailedChildren.{alone_next, left_born, left_next}
use Rattle.gup_law_base.proofs.DonePages.{fork_after}
use Rattle.gup_law_fork.proofs.DisturbedWalks.{rechecked_inside}
use Rattle.gup_law_base.proofs.Tally.{tally_is, tally_entry}
use Rattle.gup_law_base.proofs.Steps.{shared_is_step, lowered_is_shared, even_apart}
use Rattle.gup_law_base.proofs.Children.{uncopied_before, fork_here, no_child}
use Rattle.gup_plain.specs.Event.{words}

-- the parent's entry keeps its frame
pub simulates-share_entry : (s : CoreState) (a p c : ℕ) (done : List ℕ) (page f : ℕ) (writable : Bool) → IsSound s → Can s (share_entry a p c done page f writable) → Simulates s (share_entry a p c done page f writable)
simulates-share_entry s a p c done page f writable (v, h) can =
    let S : CoreState = happens s (share_entry a p c done page f writable) in
    let V : View = record v { whole = put2 p page (Some (entry_of f false)) v.whole; forks = put a (Some (record { proc = p; child = c; done = done; step = lowered page })) v.forks } in
    let before : Forking = record { proc = p; child = c; done = done; step = counted page } in
    let next : Forking = record { proc = p; child = c; done = done; step = lowered page } in
    let mine : v.forks a ≡ Some before = fork_here v s a p c done (counted page) h can.0 in
    let lives : s.birth p ≡ born = h.fork_parent a before mine in
    let still : v.moves a ≡ None = h.moves_are a ∙ ap moving_of can.0 in
    let locked : s.table p ≡ Some a = h.forks_table a page before mine refl in
    let e : Entry = entry_of f writable in
    let here : s.entry p page ≡ Some e = can.1 in
    let there : v.whole p page ≡ Some e = h.whole_entry p page e here in
    let references : References V S = tally_is _ _ _ (tally_entry _ _ _ _ _ _ _ _ p page (Some (entry_of f false)) h.references) (λ d. grind (arith, nat_tests)) in
    let marks_are : MarksAre V S = λ b. grind (arith, nat_tests, h.marks_are b) in
    let moves_are : MovesAre V S = λ b. grind (arith, nat_tests, h.moves_are b) in
    let forks_are : ForksAre V S = λ b. grind (arith, nat_tests, h.forks_are b) in
    let walks_are : WalksAre V S = λ b. grind (arith, nat_tests, h.walks_are b) in
    let whole_entry : WholeEntry V S = λ q i d. grind (arith, nat_tests, h.whole_entry q i d) in
    let whole_moved : WholeMoved V S = λ b m. grind (arith, nat_tests, h.whole_moved b m, h.moves_table b m) in
    let whole_free : WholeFree V S = λ q i d. grind (arith, nat_tests, h.whole_free q i d) in
    let whole_kept : WholeKept V S = λ q i b d. grind (arith, nat_tests, h.whole_kept q i b d) in
    let whole_other : WholeOther V S = λ q i b d m. grind (arith, nat_tests, h.whole_other q i b d m) in
    let moved_gone : MovedGone V S = λ b m. grind (arith, nat_tests, h.moved_gone b m, h.moves_table b m) in
    let whole_names : WholeNames V S = λ q i d. grind (arith, nat_tests, h.whole_names q i d, h.whole_names p page e) in
    let forks_table : ForksTable V S = λ b i. fork_after (λ b k. step_page k.step ≡ Some i → s.table k.proc ≡ Some b) v.forks a next (h.forks_table a i before mine) (λ b k other. h.forks_table b i k) b in
    let forks_structure : ForksStructure V S = fork_after (λ b k. s.structure k.proc ≡ Some b) v.forks a next (h.forks_structure a before mine) (λ b k other. h.forks_structure b k) in
    let table_held : TableHeld V S = λ q b. grind (arith, nat_tests, h.table_held q b) in
    let structure_held : StructureHeld V S = λ q b. grind (arith, nat_tests, h.structure_held q b) in
    let fork_parent : ForkParent V S = fork_after (λ b k. s.birth k.proc ≡ born) v.forks a next (h.fork_parent a before mine) (λ b k other. h.fork_parent b k) in
    let fork_birth : ForkBirth V S = fork_after (λ b k. s.birth k.child ≡ birth_of_child k) v.forks a next (h.fork_birth a before mine) (λ b k other. h.fork_birth b k) in
    let growing_forked : GrowingForked V S = λ x q b. grind (arith, nat_tests, h.growing_forked x q b) in
    let fork_odd : ForkOdd V S = fork_after (λ b k. is_odd (s.sequence k.proc) ≡ not (is_failing k.step)) v.forks a next (h.fork_odd a before mine) (λ b k other. h.fork_odd b k) in
    let own_names : OwnNames V S = λ q i o d. grind (arith, nat_tests, h.own_names q i o d, h.own_names p page o e) in
    let own_entry : OwnEntry V S = λ u q i o. grind (arith, nat_tests, h.own_entry u q i o) in
    let own_marked : OwnMarked V S = λ q i o d. grind (arith, nat_tests, h.own_marked q i o d, h.own_marked p page o e) in
    let own_marking : OwnMarking V S = λ q i o b d. grind (arith, nat_tests, h.own_marking q i o b d, h.own_marking p page o b e) in
    let marked_own : MarkedOwn V S = λ q i d. grind (arith, nat_tests, h.marked_own q i d, h.marked_own p page e) in
    let entry_mapped : EntryMapped V S = λ q i d. grind (arith, nat_tests, h.entry_mapped q i d, h.entry_mapped p page e) in
    let entry_marked : EntryMarked V S = λ q i d. grind (arith, nat_tests, h.entry_marked q i d) in
    let entry_allowed : EntryAllowed V S = λ q i d. grind (arith, nat_tests, h.entry_allowed q i d) in
    let entry_words : EntryWords V S = λ q i w d r. grind (arith, nat_tests, h.entry_words q i w d r, h.entry_words p page w e r) in
    let untouched : Untouched V S = λ q i w r mapped empty now. let old : IsUncopiedBy v.forks q i = uncopied_before v.forks a _ q i now (λ word k is child at. grind (arith)) in grind (arith, nat_tests, λ (is : s.right q i ≡ Some r) (bare : v.whole q i ≡ None). h.untouched q i w r is bare old) in
    let prepared_zero : PreparedZero V S = λ b u w. grind (arith, nat_tests, h.prepared_zero b u w) in
    let marking_entry : MarkingEntry V S = λ b m. grind (arith, nat_tests, h.marking_entry b m) in
    let fork_fresh : ForkFresh V S = λ b i fork. grind (arith, nat_tests, h.fork_fresh b i fork, no_child v s p b fork h lives, h.fork_fresh a i before) in
    let fork_copied : ForkCopied V S = λ b i w. fork_after (λ b k. is_failing k.step ≡ false → Contains k.done i → w < words → s.copied k.child i w ≡ true) v.forks a next (h.fork_copied a i w before mine) (λ b k other. h.fork_copied b i w k) b in
    let fork_uncopied : ForkUncopied V S = λ b i w. fork_after (λ b k. is_failing k.step ≡ false → (Contains k.done i → ⊥) → w < words → s.copied k.child i w ≡ nat_lt w (copied_words k.step i)) v.forks a next (h.fork_uncopied a i w before mine) (λ b k other. h.fork_uncopied b i w k) b in
    let fork_undone : ForkUndone V S = λ b i. fork_after (λ b k. step_page k.step ≡ Some i → Contains k.done i → ⊥) v.forks a next (h.fork_undone a i before mine) (λ b k other. h.fork_undone b i k) b in
    let fork_mapped : ForkMapped V S = λ b i. fork_after (λ b k. step_page k.step ≡ Some i → s.right k.child i ≡ None → ⊥) v.forks a next (h.fork_mapped a i before mine) (λ b k other. h.fork_mapped b i k) b in
    let copy_words : CopyWords V S = λ b i n w u fork. grind (arith, nat_tests, h.copy_words b i n w u fork) in
    let copy_there : CopyThere V S = λ b i n fork. grind (arith, nat_tests, h.copy_there b i n fork) in
    let share_handle : ShareHandle V S = λ b i j n fork d. grind (arith, nat_tests, h.share_handle b i j n fork d, h.share_handle b i j n fork e, h.share_handle a page j n before e) in
    let share_taken : ShareTaken V S = λ b i y n fork d t. grind (arith, nat_tests, h.share_taken b i y n fork d t, h.share_taken b i y n fork e t, h.share_taken a page y n before e t) in
    let share_lowered : ShareLowered V S = λ b i fork d. grind (arith, nat_tests, h.share_lowered b i fork d, h.forks_table b i fork, lowered_is_shared fork.step i, shared_is_step fork.step i) in
    let share_unowned : ShareUnowned V S = λ b i fork d. grind (arith, nat_tests, h.share_unowned b i fork d, h.share_unowned b i fork e) in
    let mirror_entry : MirrorEntry V S = λ m u noted. grind (arith, nat_tests, h.mirror_entry m u noted) in
    let fork_alone : ForkAlone V S = alone_next v.forks a before next mine refl h.fork_alone in
    let fork_left : ForkLeft V S = left_next v.forks a next S.entry refl (left_born v s p page (Some (entry_of f false)) h lives) in
    let sound : IsSoundBy V S = assumption in
    record { sound = (V, sound); can = tt; same = refl }

-- while a process forks, no undisturbed walk has taken a marked frame of its entries: the walk would be its own
no_marked_walk : (v : View) (s : CoreState) (p page : ℕ) (e : Entry) → IsSoundBy v s → v.whole p page ≡ Some e → is_odd (s.sequence p) ≡ true → (b n : ℕ) (w : Walking) (t : Taken) → v.walks b ≡ Some w → is_inside w.step ≡ true → w.sequence ≡ s.sequence w.proc → slice_get (s.taken b) n ≡ Some t → t.frame ≡ e.frame → s.mark t.frame ≡ true → ⊥
no_marked_walk v s p page e h there odd b n w t walks inside undisturbed takes frame marked =
    let named : v.names p page ≡ Some (s.object p page) = h.whole_names p page e there in
    let owned : s.own e.frame ≡ Some (s.object p page) = h.marked_own p page e there (subst (λ u. s.mark u ≡ true) frame marked) ∙ named in
    let object : s.object p page ≡ t.object = h.walk_own b n (s.object p page) w t walks inside undisturbed takes (subst (λ u. s.own u ≡ Some (s.object p page)) (sym frame) owned) in
    let proc : p ≡ t.proc = (h.taken_names b n p page t takes (named ∙ ap (λ o. Some o) object)).0 in
    let same : p ≡ w.proc = proc ∙ h.walk_proc b n w t walks takes in
    even_apart w.sequence (s.sequence w.proc) (h.walk_even b w walks inside) (subst (λ q. is_odd (s.sequence q) ≡ true) same odd) undisturbed

-- no pin has the frame, and no other page's entry, if it is exclusive
pub simulates-share_mark : (s : CoreState) (a p c : ℕ) (done : List ℕ) (page f : ℕ) (writable : Bool) → IsSound s → Can s (share_mark a p c done page f writable) → Simulates s (share_mark a p c done page f writable)
simulates-share_mark s a p c done page f writable (v, h) can =
    let S : CoreState = happens s (share_mark a p c done page f writable) in
    let V : View = record v { forks = put a (Some (record { proc = p; child = c; done = done; step = cleared page })) v.forks } in
    let before : Forking = record { proc = p; child = c; done = done; step = lowered page } in
    let next : Forking = record { proc = p; child = c; done = done; step = cleared page } in
    let mine : v.forks a ≡ Some before = fork_here v s a p c done (lowered page) h can.0 in
    let unmarking : v.marks a ≡ None = h.marks_are a ∙ ap marking_of can.0 in
    let locked : s.table p ≡ Some a = h.forks_table a page before mine refl in
    let e : Entry = entry_of f writable in
    let here : s.entry p page ≡ Some e = can.1 in
    let there : v.whole p page ≡ Some e = h.whole_entry p page e here in
    let named : v.names p page ≡ Some (s.object p page) = h.whole_names p page e there in
    let read_only : writable ≡ false = h.share_lowered a page before e mine refl there in
    let odd : is_odd (s.sequence p) ≡ true = h.fork_odd a before mine in
    let no_walk : (b n : ℕ) (w : Walking) (t : Taken) → v.walks b ≡ Some w → is_inside w.step ≡ true → w.sequence ≡ s.sequence w.proc → slice_get (s.taken b) n ≡ Some t → t.frame ≡ f → s.mark t.frame ≡ true → ⊥ = no_marked_walk v s p page e h there odd in
    let marks_are : MarksAre V S = λ b. grind (arith, nat_tests, h.marks_are b) in
    let moves_are : MovesAre V S = λ b. grind (arith, nat_tests, h.moves_are b) in
    let forks_are : ForksAre V S = λ b. grind (arith, nat_tests, h.forks_are b) in
    let walks_are : WalksAre V S = λ b. grind (arith, nat_tests, h.walks_are b) in
    let forks_table : ForksTable V S = λ b i. fork_after (λ b k. step_page k.step ≡ Some i → s.table k.proc ≡ Some b) v.forks a next (h.forks_table a i before mine) (λ b k other. h.forks_table b i k) b in
    let forks_structure : ForksStructure V S = fork_after (λ b k. s.structure k.proc ≡ Some b) v.forks a next (h.forks_structure a before mine) (λ b k other. h.forks_structure b k) in
    let table_held : TableHeld V S = λ q b. grind (arith, nat_tests, h.table_held q b) in
    let structure_held : StructureHeld V S = λ q b. grind (arith, nat_tests, h.structure_held q b) in
    let fork_parent : ForkParent V S = fork_after (λ b k. s.birth k.proc ≡ born) v.forks a next (h.fork_parent a before mine) (λ b k other. h.fork_parent b k) in
    let fork_birth : ForkBirth V S = fork_after (λ b k. s.birth k.child ≡ birth_of_child k) v.forks a next (h.fork_birth a before mine) (λ b k other. h.fork_birth b k) in
    let growing_forked : GrowingForked V S = λ x q b. grind (arith, nat_tests, h.growing_forked x q b) in
    let fork_odd : ForkOdd V S = fork_after (λ b k. is_odd (s.sequence k.proc) ≡ not (is_failing k.step)) v.forks a next (h.fork_odd a before mine) (λ b k other. h.fork_odd b k) in
    let own_alone : OwnAlone V S = λ u i o. grind (arith, nat_tests, h.own_alone u i o) in
    let own_made : OwnMade V S = λ u o. grind (arith, nat_tests, h.own_made u o) in
    let own_names : OwnNames V S = λ q i o d. grind (arith, nat_tests, h.own_names q i o d) in
    let own_entry : OwnEntry V S = λ u q i o. grind (arith, nat_tests, h.own_entry u q i o) in
    let own_words : OwnWords V S = λ u o w. grind (arith, nat_tests, h.own_words u o w) in
    let own_marked : OwnMarked V S = λ q i o d. grind (arith, nat_tests, h.own_marked q i o d) in
    let own_marking : OwnMarking V S = λ q i o b d. grind (arith, nat_tests, h.own_marking q i o b d) in
    let marked_own : MarkedOwn V S = λ q i d. grind (arith, nat_tests, h.marked_own q i d) in
    let entry_marked : EntryMarked V S = λ q i d. grind (arith, nat_tests, h.entry_marked q i d, h.marked_own q i d, h.marked_own p page e, h.whole_names q i d, h.names_alone p page q i (s.object p page)) in
    let untouched : Untouched V S = λ q i w r mapped empty now. let old : IsUncopiedBy v.forks q i = uncopied_before v.forks a _ q i now (λ word k is child at. grind (arith)) in grind (arith, nat_tests, λ (is : s.right q i ≡ Some r) (bare : v.whole q i ≡ None). h.untouched q i w r is bare old) in
    let handle_marked : HandleMarked V S = λ j n u. grind (arith, nat_tests, h.handle_marked j n u, h.share_handle a page j n before e) in
    let handle_own : HandleOwn V S = λ j n u. grind (arith, nat_tests, h.handle_own j n u, h.share_handle a page j n before e) in
    let handle_flag : HandleFlag V S = λ j n u o q i. grind (arith, nat_tests, h.handle_flag j n u o q i) in
    let taken_marked : TakenMarked V S = λ b n t. grind (arith, nat_tests, h.taken_marked b n t, h.share_taken a page b n before e t) in
    let taken_own : TakenOwn V S = λ b n t. grind (arith, nat_tests, h.taken_own b n t, h.share_taken a page b n before e t) in
    let walk_own : WalkOwn V S = λ b n o w t. grind (arith, nat_tests, h.walk_own b n o w t) in
    let walk_unowned : WalkUnowned V S = λ b n w t. grind (arith, nat_tests, h.walk_unowned b n w t) in
    let walk_kept : WalkKept V S = λ b n w t. grind (arith, nat_tests, h.walk_kept b n w t, no_walk b n w t) in
    let walk_writable : WalkWritable V S = λ b n w t d. grind (arith, nat_tests, h.walk_writable b n w t d, no_walk b n w t, rechecked_inside w.step d) in
    let prepared_unmarked : PreparedUnmarked V S = λ b u. grind (arith, nat_tests, h.prepared_unmarked b u) in
    let prepared_unowned : PreparedUnowned V S = λ b u. grind (arith, nat_tests, h.prepared_unowned b u) in
    let prepared_zero : PreparedZero V S = λ b u w. grind (arith, nat_tests, h.prepared_zero b u w) in
    let marking_own : MarkingOwn V S = λ b m. grind (arith, nat_tests, h.marking_own b m, h.marks_table b m, h.marking_entry b m, λ (d : Entry). h.whole_names m.proc m.page d, h.own_names p page (s.object m.proc m.page) e, h.names_alone p page m.proc m.page (s.object m.proc m.page)) in
    let fork_fresh : ForkFresh V S = λ b i. fork_after (λ b k. is_failing k.step ≡ false → (Contains k.done i → ⊥) → v.whole k.child i ≡ None) v.forks a next (h.fork_fresh a i before mine) (λ b k other. h.fork_fresh b i k) b in
    let fork_copied : ForkCopied V S = λ b i w. fork_after (λ b k. is_failing k.step ≡ false → Contains k.done i → w < words → s.copied k.child i w ≡ true) v.forks a next (h.fork_copied a i w before mine) (λ b k other. h.fork_copied b i w k) b in
    let fork_uncopied : ForkUncopied V S = λ b i w. fork_after (λ b k. is_failing k.step ≡ false → (Contains k.done i → ⊥) → w < words → s.copied k.child i w ≡ nat_lt w (copied_words k.step i)) v.forks a next (h.fork_uncopied a i w before mine) (λ b k other. h.fork_uncopied b i w k) b in
    let fork_undone : ForkUndone V S = λ b i. fork_after (λ b k. step_page k.step ≡ Some i → Contains k.done i → ⊥) v.forks a next (h.fork_undone a i before mine) (λ b k other. h.fork_undone b i k) b in
    let fork_mapped : ForkMapped V S = λ b i. fork_after (λ b k. step_page k.step ≡ Some i → s.right k.child i ≡ None → ⊥) v.forks a next (h.fork_mapped a i before mine) (λ b k other. h.fork_mapped b i k) b in
    let copy_words : CopyWords V S = λ b i n w u fork. grind (arith, nat_tests, h.copy_words b i n w u fork) in
    let copy_there : CopyThere V S = λ b i n fork. grind (arith, nat_tests, h.copy_there b i n fork) in
    let share_handle : ShareHandle V S = λ b i j n k d. fork_after (λ b k. shared_page k.step ≡ Some i → v.whole k.proc i ≡ Some d → slice_get (s.pinned j) n ≡ Some d.frame → ⊥) v.forks a next (h.share_handle a i j n before d mine) (λ b k other was. h.share_handle b i j n k d was) b k in
    let share_taken : ShareTaken V S = λ b i y n k d t. fork_after (λ b k. shared_page k.step ≡ Some i → v.whole k.proc i ≡ Some d → slice_get (s.taken y) n ≡ Some t → is_open (v.walks y) ≡ false → t.frame ≡ d.frame → ⊥) v.forks a next (h.share_taken a i y n before d t mine) (λ b k other was. h.share_taken b i y n k d t was) b k in
    let share_lowered : ShareLowered V S = λ b i k d. fork_after (λ b k. lowered_page k.step ≡ Some i → v.whole k.proc i ≡ Some d → d.writable ≡ false) v.forks a next (h.share_lowered a i before d mine) (λ b k other was. h.share_lowered b i k d was) b k in
    let share_unowned : ShareUnowned V S = λ b i fork d. grind (arith, nat_tests, h.share_unowned b i fork d) in
    let fork_alone : ForkAlone V S = alone_next v.forks a before next mine refl h.fork_alone in
    let fork_left : ForkLeft V S = left_next v.forks a next s.entry refl h.fork_left in
    let sound : IsSoundBy V S = assumption in
    record { sound = (V, sound); can = tt; same = refl }
