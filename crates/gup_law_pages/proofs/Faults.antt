-- The events of a page fault: a frame is taken, filled into an entry, marked and made writable.
use Rattle.std.proofs.Common.{◌≡◌, ℕ, Bool, true, false, refl, arith}
use Rattle.std.specs.Prelude.{Some, None, IsSome}
use Rattle.std.proofs.lemmas.Bool.Decides.{nat_tests}
use Rattle.gup_base.specs.declared.entry.Entry.{Entry}
use Rattle.gup_base.specs.declared.entry.Rights.{Rights}
use Rattle.gup_plain.specs.Put.{put, put2}
use Rattle.gup_spec_events.specs.State.{CoreState, idle}
use Rattle.gup_spec_events.specs.Event.{Can, happens, MayPrepare, entry_of, take_frame, fill, count_one, set_mark, upgrade}
use Rattle.gup_spec_events.specs.Invariant.{frame_of}
use Rattle.gup_law_base.specs.Sound.{View, Marking, IsSoundBy, IsSound, Simulates}
use Rattle.gup_law_base.proofs.Clauses.{References, CountIs, MarksAre, MovesAre, ForksAre, WalksAre, WholeEntry, WholeMoved, WholeFree, WholeKept, WholeOther, MovedGone, WholeNames, MarksTable, MovesTable, ForksTable, TableHeld, StructureHeld, TableBorn, OwnAlone, OwnMade, OwnNames, OwnEntry, OwnWords, OwnMarked, OwnMarking, MarkedOwn, EntryMapped, EntryMarked, EntryAllowed, EntryWords, Untouched, HandleMarked, HandleOwn, HandleFlag, TakenMarked, TakenOwn, WalkOwn, WalkUnowned, WalkKept, WalkWritable, PreparedOnce, PreparedUnmarked, PreparedUnowned, PreparedZero, MarkingEntry, MarkingOwn, MovingOnce, ForkFresh, CopyWords, CopyThere, ShareHandle, ShareTaken, ShareLowered, ShareUnowned, MirrorEntry, ForkLeft}
use Rattle.gup_law_base.proofs.FailedChildren.{left_born}
use Rattle.gup_law_base.proofs.Tally.{tally_is, tally_entry, tally_prepared}
use Rattle.gup_law_base.proofs.Steps.{shared_is_step, lowered_is_shared, prepares_before}
use Rattle.gup_law_base.proofs.Lonely.{uncounted, whole_alone, once_wholes, whole_counts, handle_counts, taken_counts, prepared_whole, prepared_alone, prepared_counts, whole_none, mapped_names, born_mapped}

-- nobody holds a frame of count 0
pub simulates-take_frame : (s : CoreState) (a f : ℕ) → IsSound s → Can s (take_frame a f) → Simulates s (take_frame a f)
simulates-take_frame s a f (v, h) c =
    let S : CoreState = happens s (take_frame a f) in
    let V : View = record v { references = put f 1 v.references } in
    let may : MayPrepare (s.job a) = c.0 in
    let none : s.prepared a ≡ None = c.1 in
    let free : s.count f ≡ 0 = c.3 in
    let unheld : v.references f ≡ 0 = (uncounted v s h f free).0 in
    let references : References V S = tally_is _ _ _ (tally_prepared _ _ _ _ _ _ _ _ a (Some f) h.references) (λ d. grind (arith, nat_tests)) in
    let count_is : CountIs V S = λ u. grind (arith, nat_tests, h.count_is u) in
    let own_alone : OwnAlone V S = λ u i o. grind (arith, nat_tests, h.own_alone u i o) in
    let own_made : OwnMade V S = λ u o. grind (arith, nat_tests, h.own_made u o) in
    let own_names : OwnNames V S = λ q i o d. grind (arith, nat_tests, h.own_names q i o d) in
    let own_entry : OwnEntry V S = λ u q i o. grind (arith, nat_tests, h.own_entry u q i o) in
    let own_words : OwnWords V S = λ u o w. grind (arith, nat_tests, h.own_words u o w) in
    let own_marked : OwnMarked V S = λ q i o d. grind (arith, nat_tests, h.own_marked q i o d) in
    let own_marking : OwnMarking V S = λ q i o b d. grind (arith, nat_tests, h.own_marking q i o b d) in
    let marked_own : MarkedOwn V S = λ q i d. grind (arith, nat_tests, h.marked_own q i d) in
    let entry_marked : EntryMarked V S = λ q i d. grind (arith, nat_tests, h.entry_marked q i d, whole_counts v s h q i d) in
    let entry_words : EntryWords V S = λ q i w d r. grind (arith, nat_tests, h.entry_words q i w d r, whole_counts v s h q i d) in
    let handle_marked : HandleMarked V S = λ j n u. grind (arith, nat_tests, h.handle_marked j n u, handle_counts v s h j n u) in
    let handle_own : HandleOwn V S = λ j n u. grind (arith, nat_tests, h.handle_own j n u, handle_counts v s h j n u) in
    let handle_flag : HandleFlag V S = λ j n u o q i. grind (arith, nat_tests, h.handle_flag j n u o q i, handle_counts v s h j n u) in
    let taken_marked : TakenMarked V S = λ b n t. grind (arith, nat_tests, h.taken_marked b n t, taken_counts v s h b n t) in
    let taken_own : TakenOwn V S = λ b n t. grind (arith, nat_tests, h.taken_own b n t, taken_counts v s h b n t) in
    let walk_own : WalkOwn V S = λ b n o w t. grind (arith, nat_tests, h.walk_own b n o w t, taken_counts v s h b n t) in
    let walk_unowned : WalkUnowned V S = λ b n w t. grind (arith, nat_tests, h.walk_unowned b n w t, taken_counts v s h b n t) in
    let walk_kept : WalkKept V S = λ b n w t. grind (arith, nat_tests, h.walk_kept b n w t, taken_counts v s h b n t) in
    let walk_writable : WalkWritable V S = λ b n w t d. grind (arith, nat_tests, h.walk_writable b n w t d, taken_counts v s h b n t) in
    let prepared_once : PreparedOnce V S = λ b u. grind (arith, nat_tests, h.prepared_once b u) in
    let prepared_unmarked : PreparedUnmarked V S = λ b u. grind (arith, nat_tests, h.prepared_unmarked b u) in
    let prepared_unowned : PreparedUnowned V S = λ b u. grind (arith, nat_tests, h.prepared_unowned b u) in
    let prepared_zero : PreparedZero V S = λ b u w. grind (arith, nat_tests, h.prepared_zero b u w) in
    let marking_own : MarkingOwn V S = λ b m. grind (arith, nat_tests, h.marking_own b m, h.marking_entry b m, λ (e : Entry). whole_counts v s h m.proc m.page e) in
    let moving_once : MovingOnce V S = λ b m. grind (arith, nat_tests, h.moving_once b m, h.whole_moved b m, whole_counts v s h m.proc m.page m.entry) in
    let copy_words : CopyWords V S = λ b i n w u fork. grind (arith, nat_tests, h.copy_words b i n w u fork, prepared_counts v s h b u, prepares_before (s.job b) fork i n, h.forks_are b) in
    let copy_there : CopyThere V S = λ b i n fork. grind (arith, nat_tests, h.copy_there b i n fork) in
    let share_unowned : ShareUnowned V S = λ b i fork d. grind (arith, nat_tests, h.share_unowned b i fork d) in
    let sound : IsSoundBy V S = assumption in
    record { sound = (V, sound); can = tt; same = refl }

-- the prepared frame is zero, as the page's object is so far
pub simulates-fill : (s : CoreState) (a p page f : ℕ) → IsSound s → Can s (fill a p page f) → Simulates s (fill a p page f)
simulates-fill s a p page f (v, h) c =
    let S : CoreState = happens s (fill a p page f) in
    let V : View = record v { whole = put2 p page (Some (entry_of f false)) v.whole } in
    let free : s.table p ≡ None = c.1.1 in
    let absent : s.entry p page ≡ None = c.4 in
    let had : s.prepared a ≡ Some f = c.5 in
    let empty : v.whole p page ≡ None = whole_none v s h p page free absent in
    let named : v.names p page ≡ Some (s.object p page) = mapped_names v s h p page c.3 in
    let references : References V S = tally_is _ _ _ (tally_prepared _ _ _ _ _ _ _ _ a None (tally_entry _ _ _ _ _ _ _ _ p page (Some (entry_of f false)) h.references)) (λ d. grind (arith, nat_tests)) in
    let whole_entry : WholeEntry V S = λ q g e. grind (arith, nat_tests, h.whole_entry q g e) in
    let whole_moved : WholeMoved V S = λ b m. grind (arith, nat_tests, h.whole_moved b m, h.moves_table b m) in
    let whole_free : WholeFree V S = λ q g e. grind (arith, nat_tests, h.whole_free q g e) in
    let whole_kept : WholeKept V S = λ q g b e. grind (arith, nat_tests, h.whole_kept q g b e) in
    let whole_other : WholeOther V S = λ q g b e m. grind (arith, nat_tests, h.whole_other q g b e m) in
    let moved_gone : MovedGone V S = λ b m. grind (arith, nat_tests, h.moved_gone b m, h.moves_table b m) in
    let whole_names : WholeNames V S = λ q g e. grind (arith, nat_tests, h.whole_names q g e, named) in
    let own_alone : OwnAlone V S = λ d u o. grind (arith, nat_tests, h.own_alone d u o, h.own_entry d p page o, h.own_entry u p page o) in
    let own_made : OwnMade V S = λ d o. grind (arith, nat_tests, h.own_made d o, named, h.names_made p page o) in
    let own_names : OwnNames V S = λ q g o e. grind (arith, nat_tests, h.own_names q g o e, prepared_whole v s h a f q g e, named) in
    let own_entry : OwnEntry V S = λ d q g o. grind (arith, nat_tests, h.own_entry d q g o, h.prepared_unowned a f, h.names_alone p page q g o) in
    let own_words : OwnWords V S = λ d o w. grind (arith, nat_tests, h.own_words d o w, h.prepared_zero a f w) in
    let own_marked : OwnMarked V S = λ q g o e. grind (arith, nat_tests, h.own_marked q g o e) in
    let own_marking : OwnMarking V S = λ q g o b e. grind (arith, nat_tests, h.own_marking q g o b e) in
    let marked_own : MarkedOwn V S = λ q g e. grind (arith, nat_tests, h.marked_own q g e, prepared_whole v s h a f q g e, named) in
    let entry_mapped : EntryMapped V S = λ q g e. grind (arith, nat_tests, h.entry_mapped q g e) in
    let entry_marked : EntryMarked V S = λ q g e. grind (arith, nat_tests, h.entry_marked q g e) in
    let entry_allowed : EntryAllowed V S = λ q g e. grind (arith, nat_tests, h.entry_allowed q g e) in
    let entry_words : EntryWords V S = λ q g w e r. grind (arith, nat_tests, h.entry_words q g w e r, h.prepared_zero a f w) in
    let untouched : Untouched V S = λ q g w r. grind (arith, nat_tests, h.untouched q g w r) in
    let handle_marked : HandleMarked V S = λ j k d. grind (arith, nat_tests, h.handle_marked j k d) in
    let handle_own : HandleOwn V S = λ j k d. grind (arith, nat_tests, h.handle_own j k d, handle_counts v s h j k d, h.prepared_once a f) in
    let handle_flag : HandleFlag V S = λ j k d o q g. grind (arith, nat_tests, h.handle_flag j k d o q g, handle_counts v s h j k d, h.prepared_once a f) in
    let taken_marked : TakenMarked V S = λ b k t. grind (arith, nat_tests, h.taken_marked b k t) in
    let taken_own : TakenOwn V S = λ b k t. grind (arith, nat_tests, h.taken_own b k t, taken_counts v s h b k t, h.prepared_once a f) in
    let walk_own : WalkOwn V S = λ b n o w t. grind (arith, nat_tests, h.walk_own b n o w t, taken_counts v s h b n t, h.prepared_once a f) in
    let walk_unowned : WalkUnowned V S = λ b n w t. grind (arith, nat_tests, h.walk_unowned b n w t, taken_counts v s h b n t, h.prepared_once a f) in
    let walk_kept : WalkKept V S = λ b n w t. grind (arith, nat_tests, h.walk_kept b n w t) in
    let walk_writable : WalkWritable V S = λ b n w t d. grind (arith, nat_tests, h.walk_writable b n w t d) in
    let prepared_once : PreparedOnce V S = λ b d. grind (arith, nat_tests, h.prepared_once b d) in
    let prepared_unmarked : PreparedUnmarked V S = λ b d. grind (arith, nat_tests, h.prepared_unmarked b d, prepared_alone v s h a b f) in
    let prepared_unowned : PreparedUnowned V S = λ b d. grind (arith, nat_tests, h.prepared_unowned b d, prepared_alone v s h a b f) in
    let prepared_zero : PreparedZero V S = λ b d w. grind (arith, nat_tests, h.prepared_zero b d w) in
    let marking_entry : MarkingEntry V S = λ b m. grind (arith, nat_tests, h.marking_entry b m) in
    let marking_own : MarkingOwn V S = λ b m. grind (arith, nat_tests, h.marking_own b m, h.marking_entry b m, λ (e : Entry). prepared_whole v s h a f m.proc m.page e) in
    let fork_fresh : ForkFresh V S = λ b g k. grind (arith, nat_tests, h.fork_fresh b g k, h.fork_birth b k) in
    let copy_words : CopyWords V S = λ b g n w d k. grind (arith, nat_tests, h.copy_words b g n w d k) in
    let copy_there : CopyThere V S = λ b i n fork. grind (arith, nat_tests, h.copy_there b i n fork, h.forks_are b) in
    let share_handle : ShareHandle V S = λ b g j i k e. grind (arith, nat_tests, h.share_handle b g j i k e) in
    let share_taken : ShareTaken V S = λ b g j i k e t. grind (arith, nat_tests, h.share_taken b g j i k e t) in
    let share_lowered : ShareLowered V S = λ b g k e. grind (arith, nat_tests, h.share_lowered b g k e) in
    let share_unowned : ShareUnowned V S = λ b g k e. grind (arith, nat_tests, h.share_unowned b g k e) in
    let mirror_entry : MirrorEntry V S = λ m d noted. grind (arith, nat_tests, h.mirror_entry m d noted) in
    let fork_left : ForkLeft V S = left_born v s p page (Some (entry_of f false)) h c.0 in
    let sound : IsSoundBy V S = assumption in
    record { sound = (V, sound); can = tt; same = refl }

-- the only reference of the frame is this entry: so no pin has it, and no other frame has its object
pub simulates-count_one : (s : CoreState) (a p page f : ℕ) (writable : Bool) → IsSound s → Can s (count_one a p page f writable) → Simulates s (count_one a p page f writable)
simulates-count_one s a p page f writable (v, h) c =
    let S : CoreState = happens s (count_one a p page f writable) in
    let V : View = record v { marks = put a (Some (record { proc = p; page = page; frame = f })) v.marks } in
    let e : Entry = entry_of f writable in
    let free : s.table p ≡ None = c.1.1 in
    let idles : s.job a ≡ idle = c.2.0 in
    let here : s.entry p page ≡ Some e = c.3 in
    let unmarked : s.mark f ≡ false = c.4 in
    let once : s.count f ≡ 1 = c.5 in
    let there : v.whole p page ≡ Some e = h.whole_entry p page e here in
    let alone : v.references f ≡ 1 = (whole_alone v s h p page e there once).0 in
    let named : v.names p page ≡ Some (s.object p page) = h.whole_names p page e there in
    let mapped : IsSome (s.right p page) = born_mapped v s h p page e c.0 there in
    let marks_are : MarksAre V S = λ b. grind (arith, nat_tests, h.marks_are b) in
    let moves_are : MovesAre V S = λ b. grind (arith, nat_tests, h.moves_are b) in
    let forks_are : ForksAre V S = λ b. grind (arith, nat_tests, h.forks_are b) in
    let walks_are : WalksAre V S = λ b. grind (arith, nat_tests, h.walks_are b) in
    let whole_free : WholeFree V S = λ q i d. grind (arith, nat_tests, h.whole_free q i d) in
    let whole_kept : WholeKept V S = λ q i b d. grind (arith, nat_tests, h.whole_kept q i b d, h.whole_free q i d) in
    let whole_other : WholeOther V S = λ q i b d m. grind (arith, nat_tests, h.whole_other q i b d m, h.whole_free q i d, h.moves_are a) in
    let marks_table : MarksTable V S = λ b m. grind (arith, nat_tests, h.marks_table b m) in
    let moves_table : MovesTable V S = λ b m. grind (arith, nat_tests, h.moves_table b m) in
    let forks_table : ForksTable V S = λ b i fork. grind (arith, nat_tests, h.forks_table b i fork) in
    let table_held : TableHeld V S = λ q b. grind (arith, nat_tests, h.table_held q b) in
    let structure_held : StructureHeld V S = λ q b. grind (arith, nat_tests, h.structure_held q b) in
    let table_born : TableBorn V S = λ q b. grind (arith, nat_tests, h.table_born q b) in
    let own_alone : OwnAlone V S = λ u i o. grind (arith, nat_tests, h.own_alone u i o, h.own_entry u p page o, h.own_entry i p page o) in
    let own_made : OwnMade V S = λ u o. grind (arith, nat_tests, h.own_made u o, h.names_made p page o) in
    let own_names : OwnNames V S = λ q i o d. grind (arith, nat_tests, h.own_names q i o d, once_wholes v s h p page q i e d) in
    let own_entry : OwnEntry V S = λ u q i o. grind (arith, nat_tests, h.own_entry u q i o, h.names_alone p page q i o) in
    let own_words : OwnWords V S = λ u o w. grind (arith, nat_tests, h.own_words u o w, λ (r : Rights). h.entry_words p page w e r) in
    let own_marked : OwnMarked V S = λ q i o d. grind (arith, nat_tests, h.own_marked q i o d, once_wholes v s h p page q i e d) in
    let own_marking : OwnMarking V S = λ q i o b d. grind (arith, nat_tests, h.own_marking q i o b d, once_wholes v s h p page q i e d, h.own_marked q i o d, h.table_held q a) in
    let marked_own : MarkedOwn V S = λ q i d. grind (arith, nat_tests, h.marked_own q i d) in
    let handle_own : HandleOwn V S = λ j n u. grind (arith, nat_tests, h.handle_own j n u, handle_counts v s h j n u) in
    let handle_flag : HandleFlag V S = λ j n u o q i. grind (arith, nat_tests, h.handle_flag j n u o q i, handle_counts v s h j n u) in
    let taken_own : TakenOwn V S = λ b n t. grind (arith, nat_tests, h.taken_own b n t, taken_counts v s h b n t) in
    let walk_own : WalkOwn V S = λ b n o w t. grind (arith, nat_tests, h.walk_own b n o w t, taken_counts v s h b n t) in
    let walk_unowned : WalkUnowned V S = λ b n w t. grind (arith, nat_tests, h.walk_unowned b n w t, taken_counts v s h b n t) in
    let prepared_unowned : PreparedUnowned V S = λ b u. grind (arith, nat_tests, h.prepared_unowned b u, prepared_whole v s h b u p page e) in
    let marking_entry : MarkingEntry V S = λ b m. grind (arith, nat_tests, h.marking_entry b m) in
    let marking_own : MarkingOwn V S = λ b m. grind (arith, nat_tests, h.marking_own b m, h.marking_entry b m, h.marks_table b m, λ (d : Entry). once_wholes v s h p page m.proc m.page e d) in
    let share_unowned : ShareUnowned V S = λ b i fork d. grind (arith, nat_tests, h.share_unowned b i fork d, once_wholes v s h p page fork.proc i e d, h.forks_table b i fork) in
    let sound : IsSoundBy V S = assumption in
    record { sound = (V, sound); can = tt; same = refl }

-- the actor kept the table lock since it read the count
pub simulates-set_mark : (s : CoreState) (a p page f : ℕ) → IsSound s → Can s (set_mark a p page f) → Simulates s (set_mark a p page f)
simulates-set_mark s a p page f (v, h) c =
    let S : CoreState = happens s (set_mark a p page f) in
    let V : View = record v { marks = put a None v.marks } in
    let x : Marking = record { proc = p; page = page; frame = f } in
    let mine : v.marks a ≡ Some x = grind (arith, h.marks_are a) in
    let locked : s.table p ≡ Some a = h.marks_table a x mine in
    let there : frame_of (v.whole p page) ≡ Some f = h.marking_entry a x mine in
    let owns : s.own f ≡ v.names p page = h.marking_own a x mine in
    let still : v.moves a ≡ None = grind (arith, h.moves_are a) in
    let marks_are : MarksAre V S = λ b. grind (arith, nat_tests, h.marks_are b) in
    let moves_are : MovesAre V S = λ b. grind (arith, nat_tests, h.moves_are b) in
    let forks_are : ForksAre V S = λ b. grind (arith, nat_tests, h.forks_are b) in
    let walks_are : WalksAre V S = λ b. grind (arith, nat_tests, h.walks_are b) in
    let whole_free : WholeFree V S = λ q i d. grind (arith, nat_tests, h.whole_free q i d, h.whole_kept q i a d) in
    let whole_kept : WholeKept V S = λ q i b d. grind (arith, nat_tests, h.whole_kept q i b d) in
    let whole_other : WholeOther V S = λ q i b d m. grind (arith, nat_tests, h.whole_other q i b d m) in
    let marks_table : MarksTable V S = λ b m. grind (arith, nat_tests, h.marks_table b m) in
    let moves_table : MovesTable V S = λ b m. grind (arith, nat_tests, h.moves_table b m) in
    let forks_table : ForksTable V S = λ b i fork. grind (arith, nat_tests, h.forks_table b i fork, h.forks_are a) in
    let table_held : TableHeld V S = λ q b. grind (arith, nat_tests, h.table_held q b) in
    let structure_held : StructureHeld V S = λ q b. grind (arith, nat_tests, h.structure_held q b) in
    let table_born : TableBorn V S = λ q b. grind (arith, nat_tests, h.table_born q b) in
    let own_marked : OwnMarked V S = λ q i o d. grind (arith, nat_tests, h.own_marked q i o d, h.own_marking q i o a d) in
    let own_marking : OwnMarking V S = λ q i o b d. grind (arith, nat_tests, h.own_marking q i o b d, h.table_held q b) in
    let marked_own : MarkedOwn V S = λ q i d. grind (arith, nat_tests, h.marked_own q i d, λ (o : ℕ). h.own_names q i o d, λ (e : Entry). h.whole_names p page e) in
    let entry_marked : EntryMarked V S = λ q i d. grind (arith, nat_tests, h.entry_marked q i d) in
    let handle_marked : HandleMarked V S = λ j n u. grind (arith, nat_tests, h.handle_marked j n u) in
    let taken_marked : TakenMarked V S = λ b n t. grind (arith, nat_tests, h.taken_marked b n t) in
    let walk_unowned : WalkUnowned V S = λ b n w t. grind (arith, nat_tests, h.walk_unowned b n w t, λ (e : Entry). h.whole_names p page e) in
    let walk_kept : WalkKept V S = λ b n w t. grind (arith, nat_tests, h.walk_kept b n w t) in
    let walk_writable : WalkWritable V S = λ b n w t d. grind (arith, nat_tests, h.walk_writable b n w t d) in
    let prepared_unmarked : PreparedUnmarked V S = λ b u. grind (arith, nat_tests, h.prepared_unmarked b u, λ (e : Entry). prepared_whole v s h b u p page e) in
    let marking_entry : MarkingEntry V S = λ b m. grind (arith, nat_tests, h.marking_entry b m) in
    let marking_own : MarkingOwn V S = λ b m. grind (arith, nat_tests, h.marking_own b m) in
    let sound : IsSoundBy V S = assumption in
    record { sound = (V, sound); can = tt; same = refl }

-- the entry keeps its frame
pub simulates-upgrade : (s : CoreState) (a p page f : ℕ) → IsSound s → Can s (upgrade a p page f) → Simulates s (upgrade a p page f)
simulates-upgrade s a p page f (v, h) c =
    let S : CoreState = happens s (upgrade a p page f) in
    let V : View = record v { whole = put2 p page (Some (entry_of f true)) v.whole } in
    let e : Entry = entry_of f false in
    let free : s.table p ≡ None = c.1.1 in
    let here : s.entry p page ≡ Some e = c.3 in
    let marked : s.mark f ≡ true = c.4 in
    let there : v.whole p page ≡ Some e = h.whole_entry p page e here in
    let references : References V S = tally_is _ _ _ (tally_entry _ _ _ _ _ _ _ _ p page (Some (entry_of f true)) h.references) (λ d. grind (arith, nat_tests)) in
    let whole_entry : WholeEntry V S = λ q i d. grind (arith, nat_tests, h.whole_entry q i d) in
    let whole_moved : WholeMoved V S = λ b m. grind (arith, nat_tests, h.whole_moved b m, h.moves_table b m) in
    let whole_free : WholeFree V S = λ q i d. grind (arith, nat_tests, h.whole_free q i d) in
    let whole_kept : WholeKept V S = λ q i b d. grind (arith, nat_tests, h.whole_kept q i b d) in
    let whole_other : WholeOther V S = λ q i b d m. grind (arith, nat_tests, h.whole_other q i b d m) in
    let moved_gone : MovedGone V S = λ b m. grind (arith, nat_tests, h.moved_gone b m, h.moves_table b m) in
    let whole_names : WholeNames V S = λ q i d. grind (arith, nat_tests, h.whole_names q i d, h.whole_names p page e) in
    let own_names : OwnNames V S = λ q i o d. grind (arith, nat_tests, h.own_names q i o d, h.own_names p page o e) in
    let own_entry : OwnEntry V S = λ u q i o. grind (arith, nat_tests, h.own_entry u q i o) in
    let own_marked : OwnMarked V S = λ q i o d. grind (arith, nat_tests, h.own_marked q i o d, h.own_marked p page o e) in
    let own_marking : OwnMarking V S = λ q i o b d. grind (arith, nat_tests, h.own_marking q i o b d, h.own_marking p page o b e) in
    let marked_own : MarkedOwn V S = λ q i d. grind (arith, nat_tests, h.marked_own q i d, h.marked_own p page e) in
    let entry_mapped : EntryMapped V S = λ q i d. grind (arith, nat_tests, h.entry_mapped q i d, h.entry_mapped p page e) in
    let entry_marked : EntryMarked V S = λ q i d. grind (arith, nat_tests, h.entry_marked q i d) in
    let entry_allowed : EntryAllowed V S = λ q i d. grind (arith, nat_tests, h.entry_allowed q i d) in
    let entry_words : EntryWords V S = λ q i w d r. grind (arith, nat_tests, h.entry_words q i w d r, h.entry_words p page w e r) in
    let untouched : Untouched V S = λ q i w r. grind (arith, nat_tests, h.untouched q i w r) in
    let marking_entry : MarkingEntry V S = λ b m. grind (arith, nat_tests, h.marking_entry b m) in
    let fork_fresh : ForkFresh V S = λ b i fork. grind (arith, nat_tests, h.fork_fresh b i fork) in
    let share_handle : ShareHandle V S = λ b i j n fork d. grind (arith, nat_tests, h.share_handle b i j n fork d, h.share_handle b i j n fork e) in
    let share_taken : ShareTaken V S = λ b i y n fork d t. grind (arith, nat_tests, h.share_taken b i y n fork d t, h.share_taken b i y n fork e t) in
    let share_lowered : ShareLowered V S = λ b i fork d. grind (arith, nat_tests, h.share_lowered b i fork d, h.forks_table b i fork, lowered_is_shared fork.step i, shared_is_step fork.step i) in
    let share_unowned : ShareUnowned V S = λ b i fork d. grind (arith, nat_tests, h.share_unowned b i fork d, h.share_unowned b i fork e) in
    let mirror_entry : MirrorEntry V S = λ m u noted. grind (arith, nat_tests, h.mirror_entry m u noted) in
    let fork_left : ForkLeft V S = left_born v s p page (Some (entry_of f true)) h c.0 in
    let sound : IsSoundBy V S = assumption in
    record { sound = (V, sound); can = tt; same = refl }
