-- The events of a move: an entry is cleared, its frame counted and replaced, or the entry put back.
use Rattle.std.proofs.Common.{◌≡◌, ℕ, refl, sym, arith}
use Rattle.std.specs.Prelude.{Some, None}
use Rattle.std.proofs.lemmas.Bool.Decides.{nat_tests}
use Rattle.gup_base.specs.declared.entry.Allowed.{Allowed}
use Rattle.gup_base.specs.declared.entry.Entry.{Entry}
use Rattle.gup_plain.specs.Put.{put, put2}
use Rattle.gup_spec_events.specs.State.{CoreState, idle, Counted, unread, one}
use Rattle.gup_spec_events.specs.Event.{Can, happens, entry_of, counted_as, clear_entry, count_moved, place_frame, restore_entry}
use Rattle.gup_law_base.specs.Sound.{View, Moving, IsSoundBy, IsSound, Simulates}
use Rattle.gup_law_base.proofs.Clauses.{References, MarksAre, MovesAre, ForksAre, WalksAre, WholeEntry, WholeMoved, WholeFree, WholeKept, WholeOther, MovedGone, WholeNames, MarksTable, MovesTable, ForksTable, TableHeld, StructureHeld, TableBorn, OwnAlone, OwnMade, OwnNames, OwnEntry, OwnWords, OwnMarked, OwnMarking, MarkedOwn, EntryMapped, EntryMarked, EntryAllowed, EntryWords, Untouched, HandleMarked, HandleOwn, HandleFlag, TakenMarked, TakenOwn, WalkOwn, WalkUnowned, WalkKept, WalkWritable, PreparedOnce, PreparedUnmarked, PreparedUnowned, PreparedZero, MarkingEntry, MarkingOwn, MovingOnce, ForkFresh, CopyWords, CopyThere, ShareHandle, ShareTaken, ShareLowered, ShareUnowned, MirrorEntry, ForkLeft}
use Rattle.gup_law_base.proofs.FailedChildren.{left_born}
use Rattle.gup_law_base.proofs.Tally.{tally_is, tally_entry, tally_moves, tally_prepared, tally_owed}
use Rattle.gup_law_base.proofs.Steps.{shared_is_step}
use Rattle.gup_law_base.proofs.Lonely.{whole_alone, once_wholes, handle_counts, taken_counts, prepared_whole, prepared_alone}

-- the page's entry is the one that the mover keeps
pub simulates-clear_entry : (s : CoreState) (a p page : ℕ) (e : Entry) (allowed : Allowed) → IsSound s → Can s (clear_entry a p page e allowed) → Simulates s (clear_entry a p page e allowed)
simulates-clear_entry s a p page e allowed (v, h) c =
    let S : CoreState = happens s (clear_entry a p page e allowed) in
    let V : View = record v { moves = put a (Some (record { proc = p; page = page; entry = e; count = unread })) v.moves } in
    let free : s.table p ≡ None = c.1 in
    let idles : s.job a ≡ idle = c.2.0 in
    let here : s.entry p page ≡ Some e = c.4 in
    let there : v.whole p page ≡ Some e = h.whole_entry p page e here in
    let still : v.moves a ≡ None = grind (arith, h.moves_are a) in
    let references : References V S = tally_is _ _ _ (tally_entry _ _ _ _ _ _ _ _ p page None (tally_moves _ _ _ _ _ _ _ _ a (Some (record { proc = p; page = page; entry = e; count = unread })) h.references)) (λ d. grind (arith, nat_tests)) in
    let marks_are : MarksAre V S = λ b. grind (arith, nat_tests, h.marks_are b) in
    let moves_are : MovesAre V S = λ b. grind (arith, nat_tests, h.moves_are b) in
    let forks_are : ForksAre V S = λ b. grind (arith, nat_tests, h.forks_are b) in
    let walks_are : WalksAre V S = λ b. grind (arith, nat_tests, h.walks_are b) in
    let whole_entry : WholeEntry V S = λ q i d. grind (arith, nat_tests, h.whole_entry q i d) in
    let whole_moved : WholeMoved V S = λ b m. grind (arith, nat_tests, h.whole_moved b m) in
    let whole_free : WholeFree V S = λ q i d. grind (arith, nat_tests, h.whole_free q i d) in
    let whole_kept : WholeKept V S = λ q i b d. grind (arith, nat_tests, h.whole_kept q i b d, h.whole_free q i d, h.table_held q a) in
    let whole_other : WholeOther V S = λ q i b d m. grind (arith, nat_tests, h.whole_other q i b d m, h.whole_free q i d, h.table_held q a) in
    let moved_gone : MovedGone V S = λ b m. grind (arith, nat_tests, h.moved_gone b m) in
    let marks_table : MarksTable V S = λ b m. grind (arith, nat_tests, h.marks_table b m) in
    let moves_table : MovesTable V S = λ b m. grind (arith, nat_tests, h.moves_table b m) in
    let forks_table : ForksTable V S = λ b i fork. grind (arith, nat_tests, h.forks_table b i fork) in
    let table_held : TableHeld V S = λ q b. grind (arith, nat_tests, h.table_held q b) in
    let structure_held : StructureHeld V S = λ q b. grind (arith, nat_tests, h.structure_held q b) in
    let table_born : TableBorn V S = λ q b. grind (arith, nat_tests, h.table_born q b) in
    let own_marked : OwnMarked V S = λ q i o d. grind (arith, nat_tests, h.own_marked q i o d) in
    let own_marking : OwnMarking V S = λ q i o b d. grind (arith, nat_tests, h.own_marking q i o b d, h.own_marked q i o d) in
    let moving_once : MovingOnce V S = λ b m. grind (arith, nat_tests, h.moving_once b m) in
    let mirror_entry : MirrorEntry V S = λ m u noted. grind (arith, nat_tests, h.mirror_entry m u noted, c.5 m noted) in
    let fork_left : ForkLeft V S = left_born v s p page None h c.0 in
    let sound : IsSoundBy V S = assumption in
    record { sound = (V, sound); can = tt; same = refl }

-- a count of 1 is that of the mover's own reference
pub simulates-count_moved : (s : CoreState) (a p page : ℕ) (e : Entry) (allowed : Allowed) (count : ℕ) → IsSound s → Can s (count_moved a p page e allowed count) → Simulates s (count_moved a p page e allowed count)
simulates-count_moved s a p page e allowed count (v, h) c =
    let S : CoreState = happens s (count_moved a p page e allowed count) in
    let V : View = record v { moves = put a (Some (record { proc = p; page = page; entry = e; count = counted_as count })) v.moves } in
    let was : Moving = record { proc = p; page = page; entry = e; count = unread } in
    let mine : v.moves a ≡ Some was = grind (arith, h.moves_are a) in
    let there : v.whole p page ≡ Some e = h.whole_moved a was mine in
    let lone : s.count e.frame ≡ 1 → v.references e.frame ≡ 1 = λ once. (whole_alone v s h p page e there once).0 in
    let references : References V S = tally_is _ _ _ (tally_moves _ _ _ _ _ _ _ _ a (Some (record { proc = p; page = page; entry = e; count = counted_as count })) h.references) (λ d. grind (arith, nat_tests)) in
    let marks_are : MarksAre V S = λ b. grind (arith, nat_tests, h.marks_are b) in
    let moves_are : MovesAre V S = λ b. grind (arith, nat_tests, h.moves_are b) in
    let forks_are : ForksAre V S = λ b. grind (arith, nat_tests, h.forks_are b) in
    let walks_are : WalksAre V S = λ b. grind (arith, nat_tests, h.walks_are b) in
    let whole_moved : WholeMoved V S = λ b m. grind (arith, nat_tests, h.whole_moved b m, h.whole_moved a was) in
    let whole_kept : WholeKept V S = λ q i b d. grind (arith, nat_tests, h.whole_kept q i b d) in
    let whole_other : WholeOther V S = λ q i b d m. grind (arith, nat_tests, h.whole_other q i b d m, h.whole_other q i a d was) in
    let moved_gone : MovedGone V S = λ b m. grind (arith, nat_tests, h.moved_gone b m, h.moved_gone a was) in
    let moves_table : MovesTable V S = λ b m. grind (arith, nat_tests, h.moves_table b m, h.moves_table a was) in
    let table_held : TableHeld V S = λ q b. grind (arith, nat_tests, h.table_held q b) in
    let structure_held : StructureHeld V S = λ q b. grind (arith, nat_tests, h.structure_held q b) in
    let moving_once : MovingOnce V S = λ b m. grind (arith, nat_tests, h.moving_once b m) in
    let sound : IsSoundBy V S = assumption in
    record { sound = (V, sound); can = tt; same = refl }

-- The new frame takes over the mark, the object and the words of the old one, which by its count of 1 is in no other
-- entry and under no pin.
pub simulates-place_frame : (s : CoreState) (a p page f : ℕ) (e : Entry) (allowed : Allowed) → IsSound s → Can s (place_frame a p page f e allowed) → Simulates s (place_frame a p page f e allowed)
simulates-place_frame s a p page f e allowed (v, h) c =
    let S : CoreState = happens s (place_frame a p page f e allowed) in
    let V : View = record v { whole = put2 p page (Some (entry_of f e.writable)) v.whole; moves = put a None v.moves } in
    let was : Moving = record { proc = p; page = page; entry = e; count = one } in
    let mine : v.moves a ≡ Some was = grind (arith, h.moves_are a) in
    let unmarking : v.marks a ≡ None = grind (arith, h.marks_are a) in
    let unforking : v.forks a ≡ None = grind (arith, h.forks_are a) in
    let locked : s.table p ≡ Some a = h.moves_table a was mine in
    let absent : s.entry p page ≡ None = h.moved_gone a was mine in
    let there : v.whole p page ≡ Some e = h.whole_moved a was mine in
    let had : s.prepared a ≡ Some f = c.1 in
    let none : s.owed a ≡ None = c.2 in
    let once : v.references e.frame ≡ 1 = h.moving_once a was mine refl in
    let named : v.names p page ≡ Some (s.object p page) = h.whole_names p page e there in
    let apart : f ≡ e.frame → ⊥ = λ same. prepared_whole v s h a f p page e had there (sym same) in
    let fork_fresh : ForkFresh V S = λ b i fork. grind (arith, nat_tests, h.fork_fresh b i fork) in
    let references : References V S = tally_is _ _ _ (tally_moves _ _ _ _ _ _ _ _ a None (tally_prepared _ _ _ _ _ _ _ _ a None (tally_entry _ _ _ _ _ _ _ _ p page (Some (entry_of f e.writable)) (tally_owed _ _ _ _ _ _ _ _ a (Some e.frame) h.references)))) (λ d. grind (arith, nat_tests)) in
    let marks_are : MarksAre V S = λ b. grind (arith, nat_tests, h.marks_are b) in
    let moves_are : MovesAre V S = λ b. grind (arith, nat_tests, h.moves_are b) in
    let forks_are : ForksAre V S = λ b. grind (arith, nat_tests, h.forks_are b) in
    let walks_are : WalksAre V S = λ b. grind (arith, nat_tests, h.walks_are b) in
    let whole_entry : WholeEntry V S = λ q i d. grind (arith, nat_tests, h.whole_entry q i d) in
    let whole_moved : WholeMoved V S = λ b m. grind (arith, nat_tests, h.whole_moved b m, h.moves_table b m) in
    let whole_free : WholeFree V S = λ q i d. grind (arith, nat_tests, h.whole_free q i d, h.whole_other p i a d was) in
    let whole_kept : WholeKept V S = λ q i b d. grind (arith, nat_tests, h.whole_kept q i b d, h.table_held q a) in
    let whole_other : WholeOther V S = λ q i b d m. grind (arith, nat_tests, h.whole_other q i b d m) in
    let moved_gone : MovedGone V S = λ b m. grind (arith, nat_tests, h.moved_gone b m, h.moves_table b m) in
    let whole_names : WholeNames V S = λ q i d. grind (arith, nat_tests, h.whole_names q i d, h.whole_names p page e) in
    let marks_table : MarksTable V S = λ b m. grind (arith, nat_tests, h.marks_table b m) in
    let moves_table : MovesTable V S = λ b m. grind (arith, nat_tests, h.moves_table b m) in
    let forks_table : ForksTable V S = λ b i fork. grind (arith, nat_tests, h.forks_table b i fork) in
    let table_held : TableHeld V S = λ q b. grind (arith, nat_tests, h.table_held q b) in
    let structure_held : StructureHeld V S = λ q b. grind (arith, nat_tests, h.structure_held q b) in
    let table_born : TableBorn V S = λ q b. grind (arith, nat_tests, h.table_born q b) in
    let own_alone : OwnAlone V S = λ u i o. grind (arith, nat_tests, h.own_alone u i o, h.own_alone e.frame i o, h.own_alone u e.frame o) in
    let own_made : OwnMade V S = λ u o. grind (arith, nat_tests, h.own_made u o, h.own_made e.frame o) in
    let own_names : OwnNames V S = λ q i o d. grind (arith, nat_tests, h.own_names q i o d, h.own_names p page o e, prepared_whole v s h a f q i d) in
    let own_entry : OwnEntry V S = λ u q i o. grind (arith, nat_tests, h.own_entry u q i o, h.own_names p page o e, h.names_alone q i p page o) in
    let own_words : OwnWords V S = λ u o w. grind (arith, nat_tests, h.own_words u o w, h.own_words e.frame o w) in
    let own_marked : OwnMarked V S = λ q i o d. grind (arith, nat_tests, h.own_marked q i o d, h.own_marking p i o a d, h.own_marking p page o a e, prepared_whole v s h a f q i d) in
    let own_marking : OwnMarking V S = λ q i o b d. grind (arith, nat_tests, h.own_marking q i o b d, prepared_whole v s h a f q i d) in
    let marked_own : MarkedOwn V S = λ q i d. grind (arith, nat_tests, h.marked_own q i d, h.marked_own p page e, prepared_whole v s h a f q i d, once_wholes v s h p page q i e d) in
    let entry_mapped : EntryMapped V S = λ q i d. grind (arith, nat_tests, h.entry_mapped q i d, h.entry_mapped p page e) in
    let entry_marked : EntryMarked V S = λ q i d. grind (arith, nat_tests, h.entry_marked q i d, h.entry_marked p page e, prepared_whole v s h a f q i d) in
    let entry_allowed : EntryAllowed V S = λ q i d. grind (arith, nat_tests, h.entry_allowed q i d, h.entry_allowed p page e) in
    let entry_words : EntryWords V S = λ q i w d r. grind (arith, nat_tests, h.entry_words q i w d r, h.entry_words p page w e r, prepared_whole v s h a f q i d) in
    let untouched : Untouched V S = λ q i w r. grind (arith, nat_tests, h.untouched q i w r) in
    let handle_marked : HandleMarked V S = λ j n u. grind (arith, nat_tests, h.handle_marked j n u, handle_counts v s h j n u, h.prepared_once a f) in
    let handle_own : HandleOwn V S = λ j n u. grind (arith, nat_tests, h.handle_own j n u, handle_counts v s h j n u, h.prepared_once a f) in
    let handle_flag : HandleFlag V S = λ j n u o q i. grind (arith, nat_tests, h.handle_flag j n u o q i, handle_counts v s h j n u, h.prepared_once a f) in
    let taken_marked : TakenMarked V S = λ b n t. grind (arith, nat_tests, h.taken_marked b n t, taken_counts v s h b n t, h.prepared_once a f) in
    let taken_own : TakenOwn V S = λ b n t. grind (arith, nat_tests, h.taken_own b n t, taken_counts v s h b n t, h.prepared_once a f) in
    let prepared_once : PreparedOnce V S = λ b u. grind (arith, nat_tests, h.prepared_once b u) in
    let prepared_unmarked : PreparedUnmarked V S = λ b u. grind (arith, nat_tests, h.prepared_unmarked b u, prepared_alone v s h a b f) in
    let prepared_unowned : PreparedUnowned V S = λ b u. grind (arith, nat_tests, h.prepared_unowned b u, prepared_alone v s h a b f) in
    let prepared_zero : PreparedZero V S = λ b u w. grind (arith, nat_tests, h.prepared_zero b u w, prepared_alone v s h a b f) in
    let marking_entry : MarkingEntry V S = λ b m. grind (arith, nat_tests, h.marking_entry b m, h.marks_table b m) in
    let marking_own : MarkingOwn V S = λ b m. grind (arith, nat_tests, h.marking_own b m, h.marks_table b m, h.marking_entry b m, λ (d : Entry). prepared_whole v s h a f m.proc m.page d, λ (d : Entry). once_wholes v s h p page m.proc m.page e d) in
    let moving_once : MovingOnce V S = λ b m. grind (arith, nat_tests, h.moving_once b m) in
    let copy_words : CopyWords V S = λ b i n w u fork. grind (arith, nat_tests, h.copy_words b i n w u fork, prepared_alone v s h a b f) in
    let copy_there : CopyThere V S = λ b i n fork. grind (arith, nat_tests, h.copy_there b i n fork) in
    let share_handle : ShareHandle V S = λ b i j n fork d. grind (arith, nat_tests, h.share_handle b i j n fork d, h.forks_table b i fork, shared_is_step fork.step i) in
    let share_taken : ShareTaken V S = λ b i y n fork d t. grind (arith, nat_tests, h.share_taken b i y n fork d t, h.forks_table b i fork, shared_is_step fork.step i) in
    let share_lowered : ShareLowered V S = λ b i fork d. grind (arith, nat_tests, h.share_lowered b i fork d, h.share_lowered b i fork e) in
    let share_unowned : ShareUnowned V S = λ b i fork d. grind (arith, nat_tests, h.share_unowned b i fork d, h.share_unowned b i fork e, prepared_whole v s h a f fork.proc i d, h.forks_table b i fork) in
    let mirror_entry : MirrorEntry V S = λ m u noted. grind (arith, nat_tests, h.mirror_entry m u noted) in
    let walk_own : WalkOwn V S = λ b n o w t. grind (arith, nat_tests, h.walk_own b n o w t, taken_counts v s h b n t, h.prepared_once a f) in
    let walk_unowned : WalkUnowned V S = λ b n w t. grind (arith, nat_tests, h.walk_unowned b n w t, taken_counts v s h b n t, h.prepared_once a f) in
    let walk_kept : WalkKept V S = λ b n w t. grind (arith, nat_tests, h.walk_kept b n w t, taken_counts v s h b n t, h.prepared_once a f) in
    let walk_writable : WalkWritable V S = λ b n w t d. grind (arith, nat_tests, h.walk_writable b n w t d, taken_counts v s h b n t, h.prepared_once a f) in
    let fork_left : ForkLeft V S = left_born v s p page (Some (entry_of f e.writable)) h (h.table_born p a locked) in
    let sound : IsSoundBy V S = assumption in
    record { sound = (V, sound); can = tt; same = refl }

-- the page's entry is the same as before
pub simulates-restore_entry : (s : CoreState) (a p page : ℕ) (e : Entry) (allowed : Allowed) (count : Counted) → IsSound s → Can s (restore_entry a p page e allowed count) → Simulates s (restore_entry a p page e allowed count)
simulates-restore_entry s a p page e allowed count (v, h) c =
    let S : CoreState = happens s (restore_entry a p page e allowed count) in
    let V : View = record v { moves = put a None v.moves } in
    let was : Moving = record { proc = p; page = page; entry = e; count = count } in
    let mine : v.moves a ≡ Some was = grind (arith, h.moves_are a) in
    let unmarking : v.marks a ≡ None = grind (arith, h.marks_are a) in
    let unforking : v.forks a ≡ None = grind (arith, h.forks_are a) in
    let locked : s.table p ≡ Some a = h.moves_table a was mine in
    let absent : s.entry p page ≡ None = h.moved_gone a was mine in
    let there : v.whole p page ≡ Some e = h.whole_moved a was mine in
    let references : References V S = tally_is _ _ _ (tally_moves _ _ _ _ _ _ _ _ a None (tally_entry _ _ _ _ _ _ _ _ p page (Some e) h.references)) (λ d. grind (arith, nat_tests)) in
    let marks_are : MarksAre V S = λ b. grind (arith, nat_tests, h.marks_are b) in
    let moves_are : MovesAre V S = λ b. grind (arith, nat_tests, h.moves_are b) in
    let forks_are : ForksAre V S = λ b. grind (arith, nat_tests, h.forks_are b) in
    let walks_are : WalksAre V S = λ b. grind (arith, nat_tests, h.walks_are b) in
    let whole_entry : WholeEntry V S = λ q i d. grind (arith, nat_tests, h.whole_entry q i d) in
    let whole_moved : WholeMoved V S = λ b m. grind (arith, nat_tests, h.whole_moved b m) in
    let whole_free : WholeFree V S = λ q i d. grind (arith, nat_tests, h.whole_free q i d, h.whole_other p i a d was) in
    let whole_kept : WholeKept V S = λ q i b d. grind (arith, nat_tests, h.whole_kept q i b d, h.table_held q a) in
    let whole_other : WholeOther V S = λ q i b d m. grind (arith, nat_tests, h.whole_other q i b d m) in
    let moved_gone : MovedGone V S = λ b m. grind (arith, nat_tests, h.moved_gone b m, h.moves_table b m) in
    let marks_table : MarksTable V S = λ b m. grind (arith, nat_tests, h.marks_table b m) in
    let moves_table : MovesTable V S = λ b m. grind (arith, nat_tests, h.moves_table b m) in
    let forks_table : ForksTable V S = λ b i fork. grind (arith, nat_tests, h.forks_table b i fork) in
    let table_held : TableHeld V S = λ q b. grind (arith, nat_tests, h.table_held q b) in
    let structure_held : StructureHeld V S = λ q b. grind (arith, nat_tests, h.structure_held q b) in
    let table_born : TableBorn V S = λ q b. grind (arith, nat_tests, h.table_born q b) in
    let own_marked : OwnMarked V S = λ q i o d. grind (arith, nat_tests, h.own_marked q i o d, h.own_marking p i o a d) in
    let own_marking : OwnMarking V S = λ q i o b d. grind (arith, nat_tests, h.own_marking q i o b d) in
    let moving_once : MovingOnce V S = λ b m. grind (arith, nat_tests, h.moving_once b m) in
    let mirror_entry : MirrorEntry V S = λ m u noted. grind (arith, nat_tests, h.mirror_entry m u noted) in
    let fork_left : ForkLeft V S = left_born v s p page (Some e) h (h.table_born p a locked) in
    let sound : IsSoundBy V S = assumption in
    record { sound = (V, sound); can = tt; same = refl }
