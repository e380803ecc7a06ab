-- The end of a page fault: an entry breaks with a shared frame, and the reference that is owed is given back.
use Rattle.std.proofs.Common.{◌≡◌, ℕ, ◌-◌, ◌≤◌, Bool, refl, sym, arith}
use Rattle.std.specs.Prelude.{Some, None, IsSome}
use Rattle.std.proofs.lemmas.Bool.Decides.{nat_tests}
use Rattle.gup_base.specs.declared.entry.Entry.{Entry}
use Rattle.gup_base.specs.declared.entry.Rights.{Rights}
use Rattle.gup_plain.specs.Put.{put, put2}
use Rattle.gup_spec_events.specs.State.{CoreState}
use Rattle.gup_spec_events.specs.Event.{Can, happens, entry_of, break_entry, put_entry}
use Rattle.gup_law_base.specs.Sound.{View, IsSoundBy, IsSound, Simulates}
use Rattle.gup_law_base.proofs.Clauses.{References, CountIs, WholeEntry, WholeMoved, WholeFree, WholeKept, WholeOther, MovedGone, WholeNames, OwnAlone, OwnMade, OwnNames, OwnEntry, OwnWords, OwnMarked, OwnMarking, MarkedOwn, EntryMapped, EntryMarked, EntryAllowed, EntryWords, Untouched, HandleMarked, HandleOwn, HandleFlag, TakenMarked, TakenOwn, WalkOwn, WalkUnowned, WalkKept, WalkWritable, PreparedOnce, PreparedUnmarked, PreparedUnowned, PreparedZero, MarkingEntry, MarkingOwn, MovingOnce, ForkFresh, CopyWords, CopyThere, ShareHandle, ShareTaken, ShareLowered, ShareUnowned, MirrorEntry, ForkLeft}
use Rattle.gup_law_base.proofs.FailedChildren.{left_born}
use Rattle.gup_law_base.proofs.Tally.{tally_is, tally_entry, tally_prepared, tally_owed}
use Rattle.gup_law_base.proofs.Steps.{shared_is_step, lowered_is_shared}
use Rattle.gup_law_base.proofs.Lonely.{handle_counts, taken_counts, prepared_whole, prepared_alone, born_mapped, unmarked_unowned, owed_counts, owed_alone, owed_whole, owed_prepared, owed_moving}

-- the old frame was no page's alone; the new one is prepared, so it was in no entry and under no pin
pub simulates-break_entry : (s : CoreState) (a p page old new : ℕ) (was writable : Bool) → IsSound s → Can s (break_entry a p page old new was writable) → Simulates s (break_entry a p page old new was writable)
simulates-break_entry s a p page old new was writable (v, h) c =
    let S : CoreState = happens s (break_entry a p page old new was writable) in
    let V : View = record v { whole = put2 p page (Some (entry_of new writable)) v.whole } in
    let e : Entry = entry_of old was in
    let free : s.table p ≡ None = c.1.1 in
    let had : s.prepared a ≡ Some new = c.3 in
    let none : s.owed a ≡ None = c.4 in
    let here : s.entry p page ≡ Some e = c.5 in
    let there : v.whole p page ≡ Some e = h.whole_entry p page e here in
    let named : v.names p page ≡ Some (s.object p page) = h.whole_names p page e there in
    let unowned : s.own old ≡ None = unmarked_unowned v s h p page e there free c.6 in
    let mapped : IsSome (s.right p page) = born_mapped v s h p page e c.0 there in
    let apart : new ≡ old → ⊥ = λ same. prepared_whole v s h a new p page e had there (sym same) in
    let references : References V S = tally_is _ _ _ (tally_prepared _ _ _ _ _ _ _ _ a None (tally_entry _ _ _ _ _ _ _ _ p page (Some (entry_of new writable)) (tally_owed _ _ _ _ _ _ _ _ a (Some old) h.references))) (λ d. grind (arith, nat_tests)) in
    let whole_entry : WholeEntry V S = λ q i d. grind (arith, nat_tests, h.whole_entry q i d) in
    let whole_moved : WholeMoved V S = λ b m. grind (arith, nat_tests, h.whole_moved b m, h.moves_table b m) in
    let whole_free : WholeFree V S = λ q i d. grind (arith, nat_tests, h.whole_free q i d) in
    let whole_kept : WholeKept V S = λ q i b d. grind (arith, nat_tests, h.whole_kept q i b d) in
    let whole_other : WholeOther V S = λ q i b d m. grind (arith, nat_tests, h.whole_other q i b d m) in
    let moved_gone : MovedGone V S = λ b m. grind (arith, nat_tests, h.moved_gone b m, h.moves_table b m) in
    let whole_names : WholeNames V S = λ q i d. grind (arith, nat_tests, h.whole_names q i d, h.whole_names p page e) in
    let own_alone : OwnAlone V S = λ u i o. grind (arith, nat_tests, h.own_alone u i o, h.own_entry u p page o, h.own_entry i p page o) in
    let own_made : OwnMade V S = λ u o. grind (arith, nat_tests, h.own_made u o, h.names_made p page o) in
    let own_names : OwnNames V S = λ q i o d. grind (arith, nat_tests, h.own_names q i o d, prepared_whole v s h a new q i d) in
    let own_entry : OwnEntry V S = λ u q i o. grind (arith, nat_tests, h.own_entry u q i o, h.names_alone p page q i o, h.prepared_unowned a new) in
    let own_words : OwnWords V S = λ u o w. grind (arith, nat_tests, h.own_words u o w, λ (r : Rights). h.entry_words p page w e r) in
    let own_marked : OwnMarked V S = λ q i o d. grind (arith, nat_tests, h.own_marked q i o d) in
    let own_marking : OwnMarking V S = λ q i o b d. grind (arith, nat_tests, h.own_marking q i o b d) in
    let marked_own : MarkedOwn V S = λ q i d. grind (arith, nat_tests, h.marked_own q i d, prepared_whole v s h a new q i d) in
    let entry_mapped : EntryMapped V S = λ q i d. grind (arith, nat_tests, h.entry_mapped q i d, h.entry_mapped p page e) in
    let entry_marked : EntryMarked V S = λ q i d. grind (arith, nat_tests, h.entry_marked q i d) in
    let entry_allowed : EntryAllowed V S = λ q i d. grind (arith, nat_tests, h.entry_allowed q i d) in
    let entry_words : EntryWords V S = λ q i w d r. grind (arith, nat_tests, h.entry_words q i w d r, h.entry_words p page w e r, prepared_whole v s h a new q i d) in
    let untouched : Untouched V S = λ q i w r. grind (arith, nat_tests, h.untouched q i w r) in
    let handle_marked : HandleMarked V S = λ j n u. grind (arith, nat_tests, h.handle_marked j n u) in
    let handle_own : HandleOwn V S = λ j n u. grind (arith, nat_tests, h.handle_own j n u, handle_counts v s h j n u, h.prepared_once a new) in
    let handle_flag : HandleFlag V S = λ j n u o q i. grind (arith, nat_tests, h.handle_flag j n u o q i, handle_counts v s h j n u, h.prepared_once a new) in
    let taken_marked : TakenMarked V S = λ b n t. grind (arith, nat_tests, h.taken_marked b n t) in
    let taken_own : TakenOwn V S = λ b n t. grind (arith, nat_tests, h.taken_own b n t, taken_counts v s h b n t, h.prepared_once a new) in
    let walk_own : WalkOwn V S = λ b n o w t. grind (arith, nat_tests, h.walk_own b n o w t, taken_counts v s h b n t, h.prepared_once a new) in
    let walk_unowned : WalkUnowned V S = λ b n w t. grind (arith, nat_tests, h.walk_unowned b n w t, taken_counts v s h b n t, h.prepared_once a new) in
    let walk_kept : WalkKept V S = λ b n w t. grind (arith, nat_tests, h.walk_kept b n w t) in
    let walk_writable : WalkWritable V S = λ b n w t d. grind (arith, nat_tests, h.walk_writable b n w t d) in
    let prepared_once : PreparedOnce V S = λ b u. grind (arith, nat_tests, h.prepared_once b u) in
    let prepared_unmarked : PreparedUnmarked V S = λ b u. grind (arith, nat_tests, h.prepared_unmarked b u, prepared_alone v s h a b new) in
    let prepared_unowned : PreparedUnowned V S = λ b u. grind (arith, nat_tests, h.prepared_unowned b u, prepared_alone v s h a b new) in
    let prepared_zero : PreparedZero V S = λ b u w. grind (arith, nat_tests, h.prepared_zero b u w, prepared_alone v s h a b new) in
    let marking_entry : MarkingEntry V S = λ b m. grind (arith, nat_tests, h.marking_entry b m, h.marks_table b m) in
    let marking_own : MarkingOwn V S = λ b m. grind (arith, nat_tests, h.marking_own b m, h.marking_entry b m, λ (d : Entry). prepared_whole v s h a new m.proc m.page d) in
    let fork_fresh : ForkFresh V S = λ b i fork. grind (arith, nat_tests, h.fork_fresh b i fork) in
    let copy_words : CopyWords V S = λ b i n w u fork. grind (arith, nat_tests, h.copy_words b i n w u fork, prepared_alone v s h a b new) in
    let copy_there : CopyThere V S = λ b i n fork. grind (arith, nat_tests, h.copy_there b i n fork, h.forks_are b) in
    let share_handle : ShareHandle V S = λ b i j n fork d. grind (arith, nat_tests, h.share_handle b i j n fork d, h.forks_table b i fork, shared_is_step fork.step i) in
    let share_taken : ShareTaken V S = λ b i y n fork d t. grind (arith, nat_tests, h.share_taken b i y n fork d t, h.forks_table b i fork, shared_is_step fork.step i) in
    let share_lowered : ShareLowered V S = λ b i fork d. grind (arith, nat_tests, h.share_lowered b i fork d, h.forks_table b i fork, lowered_is_shared fork.step i, shared_is_step fork.step i) in
    let share_unowned : ShareUnowned V S = λ b i fork d. grind (arith, nat_tests, h.share_unowned b i fork d, h.forks_table b i fork, prepared_whole v s h a new fork.proc i d) in
    let mirror_entry : MirrorEntry V S = λ m u noted. grind (arith, nat_tests, h.mirror_entry m u noted, c.8 m noted) in
    let fork_left : ForkLeft V S = left_born v s p page (Some (entry_of new writable)) h c.0 in
    let sound : IsSoundBy V S = assumption in
    record { sound = (V, sound); can = tt; same = refl }

-- at its last reference a frame is in no entry and under no pin
pub simulates-put_entry : (s : CoreState) (a f : ℕ) → IsSound s → Can s (put_entry a f) → Simulates s (put_entry a f)
simulates-put_entry s a f (v, h) c =
    let S : CoreState = happens s (put_entry a f) in
    let V : View = record v { references = put f (v.references f - 1) v.references } in
    let had : s.owed a ≡ Some f = c in
    let counts : 1 ≤ v.references f = owed_counts v s h a f had in
    let lone : s.count f ≡ 1 → v.references f ≡ 1 = λ once. (owed_alone v s h a f had once).0 in
    let references : References V S = tally_is _ _ _ (tally_owed _ _ _ _ _ _ _ _ a None h.references) (λ d. grind (arith, nat_tests)) in
    let count_is : CountIs V S = λ u. grind (arith, nat_tests, h.count_is u) in
    let own_alone : OwnAlone V S = λ u i o. grind (arith, nat_tests, h.own_alone u i o) in
    let own_made : OwnMade V S = λ u o. grind (arith, nat_tests, h.own_made u o) in
    let own_names : OwnNames V S = λ q i o d. grind (arith, nat_tests, h.own_names q i o d) in
    let own_entry : OwnEntry V S = λ u q i o. grind (arith, nat_tests, h.own_entry u q i o) in
    let own_words : OwnWords V S = λ u o w. grind (arith, nat_tests, h.own_words u o w) in
    let own_marked : OwnMarked V S = λ q i o d. grind (arith, nat_tests, h.own_marked q i o d) in
    let own_marking : OwnMarking V S = λ q i o b d. grind (arith, nat_tests, h.own_marking q i o b d) in
    let marked_own : MarkedOwn V S = λ q i d. grind (arith, nat_tests, h.marked_own q i d) in
    let entry_marked : EntryMarked V S = λ q i d. grind (arith, nat_tests, h.entry_marked q i d, owed_whole v s h a f q i d) in
    let handle_marked : HandleMarked V S = λ j n u. grind (arith, nat_tests, h.handle_marked j n u, handle_counts v s h j n u) in
    let handle_own : HandleOwn V S = λ j n u. grind (arith, nat_tests, h.handle_own j n u, handle_counts v s h j n u) in
    let handle_flag : HandleFlag V S = λ j n u o q i. grind (arith, nat_tests, h.handle_flag j n u o q i) in
    let taken_marked : TakenMarked V S = λ b n t. grind (arith, nat_tests, h.taken_marked b n t, taken_counts v s h b n t) in
    let taken_own : TakenOwn V S = λ b n t. grind (arith, nat_tests, h.taken_own b n t, taken_counts v s h b n t) in
    let walk_own : WalkOwn V S = λ b n o w t. grind (arith, nat_tests, h.walk_own b n o w t) in
    let walk_unowned : WalkUnowned V S = λ b n w t. grind (arith, nat_tests, h.walk_unowned b n w t) in
    let walk_kept : WalkKept V S = λ b n w t. grind (arith, nat_tests, h.walk_kept b n w t, taken_counts v s h b n t) in
    let walk_writable : WalkWritable V S = λ b n w t d. grind (arith, nat_tests, h.walk_writable b n w t d, taken_counts v s h b n t) in
    let prepared_once : PreparedOnce V S = λ b u. grind (arith, nat_tests, h.prepared_once b u, owed_prepared v s h a f b) in
    let prepared_unmarked : PreparedUnmarked V S = λ b u. grind (arith, nat_tests, h.prepared_unmarked b u) in
    let prepared_unowned : PreparedUnowned V S = λ b u. grind (arith, nat_tests, h.prepared_unowned b u) in
    let marking_own : MarkingOwn V S = λ b m. grind (arith, nat_tests, h.marking_own b m, h.marking_entry b m, λ (e : Entry). owed_whole v s h a f m.proc m.page e) in
    let moving_once : MovingOnce V S = λ b m. grind (arith, nat_tests, h.moving_once b m, owed_moving v s h a b m) in
    let share_unowned : ShareUnowned V S = λ b i fork d. grind (arith, nat_tests, h.share_unowned b i fork d) in
    let sound : IsSoundBy V S = assumption in
    record { sound = (V, sound); can = tt; same = refl }
