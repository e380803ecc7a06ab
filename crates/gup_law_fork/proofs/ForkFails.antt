-- The failure of a fork: its child loses its mappings at once, and its entries one by one. The event that leaves it none
-- ends the fork.
use Rattle.std.proofs.Common.{◌≡◌, ℕ, ◌+◌, ◌-◌, ◌⊎◌, inl, inr, Bool, true, false, List, refl, ap, sym, ◌∙◌, subst, arith}
use Rattle.std.specs.Prelude.{Option, Some, None, not, Contains, slice_get}
use Rattle.std.proofs.lemmas.Bool.Decides.{nat_tests}
use Rattle.gup_base.specs.declared.entry.Entry.{Entry}
use Rattle.gup_plain.specs.Put.{put, put2}
use Rattle.gup_plain.specs.State.{born, failed, growing}
use Rattle.gup_plain.specs.Event.{IsUnbornOrGrowing}
use Rattle.gup_spec_events.specs.State.{CoreState, forking, ForkStep, between, counted, lowered, cleared, copying, failing, plain_of}
use Rattle.gup_spec_events.specs.Event.{Can, happens, MayFail, is_odd, fail_fork, put_child}
use Rattle.gup_law_base.specs.Sound.{View, Forking, keeps_table, step_page, is_failing, IsSoundBy, IsSound, Simulates, IsUncopiedBy, shared_page, lowered_page, is_open}
use Rattle.gup_law_base.proofs.Clauses.{References, MarksAre, MovesAre, ForksAre, WholeEntry, WholeMoved, WholeFree, WholeKept, WholeOther, MovedGone, RightNames, WholeNames, NamesObject, MarksTable, MovesTable, ForksTable, ForksStructure, TableHeld, StructureHeld, TableBorn, ForkParent, ForkBirth, GrowingLocked, GrowingForked, GrowingRights, UnbornUnmapped, FailedUnmapped, FlagBorn, OwnAlone, OwnMade, OwnNames, OwnEntry, OwnWords, OwnMarked, OwnMarking, MarkedOwn, EntryMapped, EntryMarked, EntryAllowed, EntryWords, Untouched, NamesAlone, NamesMade, RightNumbered, HandleMarked, HandleOwn, HandleFlag, TakenMarked, TakenOwn, TakenNames, PreparedOnce, PreparedUnmarked, PreparedUnowned, PreparedZero, MarkingEntry, MarkingOwn, MovingOnce, ForkFresh, ForkCopied, ForkUncopied, ForkUndone, ForkMapped, CopyWords, CopyThere, ShareHandle, ShareTaken, ShareLowered, ShareUnowned, MirrorBorn, MirrorEntry, MirrorNames, WalksAre, CountIs, ForkOdd, QuietEven, WalkBelow, WalkOwn, WalkUnowned, WalkKept, WalkWritable, ForkAlone, ForkLeft}
use Rattle.gup_law_base.proofs.FailedChildren.{alone_next, alone_without, left_with, left_without, left_more, left_none}
use Rattle.gup_law_base.proofs.Steps.{odd_next}
use Rattle.gup_law_fork.proofs.DisturbedWalks.{raised_below, raised_own, raised_unowned, raised_kept, raised_writable}
use Rattle.gup_law_base.proofs.NamedObjects.{by_pages}
use Rattle.gup_law_base.proofs.Tally.{tally_is, tally_entry}
use Rattle.gup_law_base.proofs.Lonely.{whole_alone, whole_counts, once_wholes, handle_counts, taken_counts, prepared_whole}
use Rattle.gup_law_base.proofs.Children.{birth_goes, fork_here, growing_parent, only_fork, uncopied_before}
use Rattle.gup_law_base.proofs.DonePages.{fork_after}

-- what becomes of the parent's table lock where a fork fails
abbrev failed_table : ForkStep → Option ℕ → Option ℕ
failed_table step table =
    elim step [ between ↦ table | counted page ↦ None | lowered page ↦ None | cleared page ↦ None | copying page word ↦ None | failing ↦ None ]

may_fail : (step : ForkStep) → MayFail step → is_failing step ≡ false
may_fail between may = refl
may_fail (counted page) may = refl
may_fail (lowered page) may = refl
may_fail (cleared page) may = refl
may_fail (copying page word) may = refl
may_fail failing may = absurd may

table_kept : (step : ForkStep) (table : Option ℕ) (a : ℕ) → MayFail step → ((g : ℕ) → step_page step ≡ Some g → table ≡ Some a) → ((failed_table step table ≡ table) × (step ≡ between)) ⊎ ((failed_table step table ≡ None) × (table ≡ Some a))
table_kept between table a may locked = inl (refl, refl)
table_kept (counted page) table a may locked = inr (refl, locked page refl)
table_kept (lowered page) table a may locked = inr (refl, locked page refl)
table_kept (cleared page) table a may locked = inr (refl, locked page refl)
table_kept (copying page word) table a may locked = inr (refl, locked page refl)
table_kept failing table a may locked = absurd may

keeps_parent : (p c : ℕ) (done : List ℕ) (step : ForkStep) (q : ℕ) → keeps_table (forking p c done step) ≡ Some q → p ≡ q
keeps_parent p c done between q is = absurd (cc)
keeps_parent p c done (counted page) q is = cc
keeps_parent p c done (lowered page) q is = cc
keeps_parent p c done (cleared page) q is = cc
keeps_parent p c done (copying page word) q is = cc
keeps_parent p c done failing q is = absurd (cc)

-- the only table lock that a fork keeps is its parent's
table_forks : (v : View) (s : CoreState) → IsSoundBy v s → (q a p c : ℕ) (done : List ℕ) (step : ForkStep) → s.job a ≡ forking p c done step → s.table q ≡ Some a → p ≡ q
table_forks v s h q a p c done step is held = keeps_parent p c done step q (ap keeps_table (sym is) ∙ h.table_held q a held)

-- The child's mappings go, and with them all that is said of its pages; what its entries name stays until they are given
-- back.
failing_fork : (s : CoreState) (a p c : ℕ) (done : List ℕ) (step : ForkStep) (v : View) → IsSoundBy v s → Can s (fail_fork a p c done step false) → Simulates s (fail_fork a p c done step false)
failing_fork s a p c done step v h may =
    let S : CoreState = happens s (fail_fork a p c done step false) in
    let V : View = record v { forks = put a (Some (record { proc = p; child = c; done = done; step = failing })) v.forks } in
    let was : Forking = record { proc = p; child = c; done = done; step = step } in
    let next : Forking = record { proc = p; child = c; done = done; step = failing } in
    let mine : v.forks a ≡ Some was = fork_here v s a p c done step h may.0 in
    let unmarking : v.marks a ≡ None = grind (arith, h.marks_are a) in
    let unmoving : v.moves a ≡ None = grind (arith, h.moves_are a) in
    let left : Option ℕ = failed_table step (s.table p) in
    let goes : is_failing step ≡ false = may_fail step may.1 in
    let none : s.prepared a ≡ None = may.2 in
    let locked : s.structure p ≡ Some a = h.forks_structure a was mine in
    let grows : s.birth c ≡ growing p = h.fork_birth a was mine ∙ birth_goes was goes in
    let lives : s.birth p ≡ born = h.fork_parent a was mine in
    let odd : is_odd (s.sequence p) ≡ true = h.fork_odd a was mine ∙ ap not goes in
    let even : is_odd (s.sequence p + 1) ≡ false = odd_next (s.sequence p) ∙ ap not odd in
    let kept : ((left ≡ s.table p) × (step ≡ between)) ⊎ ((left ≡ None) × (s.table p ≡ Some a)) = table_kept step (s.table p) a may.1 (λ g at. h.forks_table a g was mine at) in
    let marks_are : MarksAre V S = λ b. grind (arith, nat_tests, h.marks_are b) in
    let moves_are : MovesAre V S = λ b. grind (arith, nat_tests, h.moves_are b) in
    let forks_are : ForksAre V S = λ b. grind (arith, nat_tests, h.forks_are b) in
    let walks_are : WalksAre V S = λ b. grind (arith, nat_tests, h.walks_are b) in
    let whole_free : WholeFree V S = λ q i d. grind (arith, nat_tests, h.whole_free q i d, h.whole_kept q i a d) in
    let whole_kept : WholeKept V S = λ q i b d. grind (arith, nat_tests, h.whole_kept q i b d) in
    let whole_other : WholeOther V S = λ q i b d m. grind (arith, nat_tests, h.whole_other q i b d m) in
    let right_names : RightNames V S = λ q i r. grind (arith, nat_tests, h.right_names q i r) in
    let marks_table : MarksTable V S = λ b m. grind (arith, nat_tests, h.marks_table b m) in
    let moves_table : MovesTable V S = λ b m. grind (arith, nat_tests, h.moves_table b m) in
    let forks_table : ForksTable V S = λ b i fork. grind (arith, nat_tests, h.forks_table b i fork) in
    let forks_structure : ForksStructure V S = fork_after (λ b k. s.structure k.proc ≡ Some b) v.forks a next (locked) (λ b k other. h.forks_structure b k) in
    let table_held : TableHeld V S = λ q b. grind (arith, nat_tests, h.table_held q b, table_forks v s h q a p c done step may.0) in
    let structure_held : StructureHeld V S = λ q b. grind (arith, nat_tests, h.structure_held q b) in
    let table_born : TableBorn V S = λ q b. grind (arith, nat_tests, h.table_born q b) in
    let fork_parent : ForkParent V S = λ b fork. grind (arith, nat_tests, h.fork_parent b fork) in
    let fork_birth : ForkBirth V S = λ b fork. grind (arith, nat_tests, h.fork_birth b fork, only_fork v s a b was fork h mine) in
    let growing_locked : GrowingLocked V S = λ x q. grind (arith, nat_tests, h.growing_locked x q) in
    let growing_forked : GrowingForked V S = λ x q b. grind (arith, nat_tests, h.growing_forked x q b) in
    let growing_rights : GrowingRights V S = λ x q i. grind (arith, nat_tests, h.growing_rights x q i, growing_parent v s x q h) in
    let unborn_unmapped : UnbornUnmapped V S = λ q i. grind (arith, nat_tests, h.unborn_unmapped q i) in
    let failed_unmapped : FailedUnmapped V S = λ q i. grind (arith, nat_tests, h.failed_unmapped q i) in
    let flag_born : FlagBorn V S = λ q. grind (arith, nat_tests, h.flag_born q) in
    let fork_odd : ForkOdd V S = λ b fork. grind (arith, nat_tests, h.fork_odd b fork, h.forks_structure b fork, even) in
    let quiet_even : QuietEven V S = λ q. grind (arith, nat_tests, h.quiet_even q) in
    let walk_below : WalkBelow V S = raised_below v s p h in
    let walk_own : WalkOwn V S = raised_own v s p h in
    let walk_unowned : WalkUnowned V S = raised_unowned v s p h in
    let walk_kept : WalkKept V S = raised_kept v s p h in
    let walk_writable : WalkWritable V S = raised_writable v s p h in
    let own_marked : OwnMarked V S = λ q i o d. grind (arith, nat_tests, h.own_marked q i o d, h.own_marking q i o a d) in
    let own_marking : OwnMarking V S = λ q i o b d. grind (arith, nat_tests, h.own_marking q i o b d) in
    let entry_mapped : EntryMapped V S = λ q i d. grind (arith, nat_tests, h.entry_mapped q i d) in
    let entry_allowed : EntryAllowed V S = λ q i d. grind (arith, nat_tests, h.entry_allowed q i d) in
    let entry_words : EntryWords V S = λ q i w d r. grind (arith, nat_tests, h.entry_words q i w d r) in
    let untouched : Untouched V S = λ q i w r mapped none free. grind (arith, nat_tests, h.untouched q i w r, uncopied_before v.forks a (Some (record { proc = p; child = c; done = done; step = failing })) q i free (λ n k is child. grind (arith, nat_tests))) in
    let right_numbered : RightNumbered V S = λ q i r. grind (arith, nat_tests, h.right_numbered q i r) in
    let prepared_zero : PreparedZero V S = λ b u w. grind (arith, nat_tests, h.prepared_zero b u w) in
    let fork_fresh : ForkFresh V S = λ b i. fork_after (λ b k. is_failing k.step ≡ false → (Contains k.done i → ⊥) → v.whole k.child i ≡ None) v.forks a next (λ at. absurd (cc)) (λ b k other. h.fork_fresh b i k) b in
    let fork_copied : ForkCopied V S = λ b i w fork. grind (arith, nat_tests, h.fork_copied b i w fork, only_fork v s a b was fork h mine) in
    let fork_uncopied : ForkUncopied V S = λ b i w fork. grind (arith, nat_tests, h.fork_uncopied b i w fork, only_fork v s a b was fork h mine) in
    let fork_undone : ForkUndone V S = λ b i. fork_after (λ b k. step_page k.step ≡ Some i → Contains k.done i → ⊥) v.forks a next (λ at. absurd (cc)) (λ b k other. h.fork_undone b i k) b in
    let fork_mapped : ForkMapped V S = λ b i fork. grind (arith, nat_tests, h.fork_mapped b i fork, only_fork v s a b was fork h mine) in
    let copy_words : CopyWords V S = λ b i n w u fork. grind (arith, nat_tests, h.copy_words b i n w u fork) in
    let copy_there : CopyThere V S = λ b i n fork. grind (arith, nat_tests, h.copy_there b i n fork) in
    let share_handle : ShareHandle V S = λ b i j n k d. fork_after (λ b k. shared_page k.step ≡ Some i → v.whole k.proc i ≡ Some d → slice_get (s.pinned j) n ≡ Some d.frame → ⊥) v.forks a next (λ at. absurd (cc)) (λ b k other was. h.share_handle b i j n k d was) b k in
    let share_taken : ShareTaken V S = λ b i y n k d t. fork_after (λ b k. shared_page k.step ≡ Some i → v.whole k.proc i ≡ Some d → slice_get (s.taken y) n ≡ Some t → is_open (v.walks y) ≡ false → t.frame ≡ d.frame → ⊥) v.forks a next (λ at. absurd (cc)) (λ b k other was. h.share_taken b i y n k d t was) b k in
    let share_lowered : ShareLowered V S = λ b i k d. fork_after (λ b k. lowered_page k.step ≡ Some i → v.whole k.proc i ≡ Some d → d.writable ≡ false) v.forks a next (λ at. absurd (cc)) (λ b k other was. h.share_lowered b i k d was) b k in
    let share_unowned : ShareUnowned V S = λ b i k d. fork_after (λ b k. k.step ≡ cleared i → v.whole k.proc i ≡ Some d → s.own d.frame ≡ None) v.forks a next (λ at. absurd (cc)) (λ b k other was. h.share_unowned b i k d was) b k in
    let mirror_born : MirrorBorn V S = λ m u noted. grind (arith, nat_tests, h.mirror_born m u noted) in
    let fork_alone : ForkAlone V S = alone_next v.forks a was next mine refl h.fork_alone in
    let fork_left : ForkLeft V S = left_with v.forks a next s.entry may.3 h.fork_left in
    let sound : IsSoundBy V S = assumption in
    record { sound = (V, sound); can = subst IsUnbornOrGrowing (sym grows) tt; same = ap (λ (o : ℕ → ℕ → ℕ). record (plain_of S) { object = o }) (by_pages (λ q g. grind (arith, nat_tests))) }

-- a child without entries has nothing to give back, and its fork is over
ended_fork : (s : CoreState) (a p c : ℕ) (done : List ℕ) (step : ForkStep) (v : View) → IsSoundBy v s → Can s (fail_fork a p c done step true) → Simulates s (fail_fork a p c done step true)
ended_fork s a p c done step v h may =
    let S : CoreState = happens s (fail_fork a p c done step true) in
    let V : View = record v { forks = put a None v.forks } in
    let was : Forking = record { proc = p; child = c; done = done; step = step } in
    let mine : v.forks a ≡ Some was = fork_here v s a p c done step h may.0 in
    let unmarking : v.marks a ≡ None = grind (arith, h.marks_are a) in
    let unmoving : v.moves a ≡ None = grind (arith, h.moves_are a) in
    let left : Option ℕ = failed_table step (s.table p) in
    let goes : is_failing step ≡ false = may_fail step may.1 in
    let none : s.prepared a ≡ None = may.2 in
    let locked : s.structure p ≡ Some a = h.forks_structure a was mine in
    let grows : s.birth c ≡ growing p = h.fork_birth a was mine ∙ birth_goes was goes in
    let lives : s.birth p ≡ born = h.fork_parent a was mine in
    let odd : is_odd (s.sequence p) ≡ true = h.fork_odd a was mine ∙ ap not goes in
    let even : is_odd (s.sequence p + 1) ≡ false = odd_next (s.sequence p) ∙ ap not odd in
    let kept : ((left ≡ s.table p) × (step ≡ between)) ⊎ ((left ≡ None) × (s.table p ≡ Some a)) = table_kept step (s.table p) a may.1 (λ g at. h.forks_table a g was mine at) in
    let marks_are : MarksAre V S = λ b. grind (arith, nat_tests, h.marks_are b) in
    let moves_are : MovesAre V S = λ b. grind (arith, nat_tests, h.moves_are b) in
    let forks_are : ForksAre V S = λ b. grind (arith, nat_tests, h.forks_are b) in
    let walks_are : WalksAre V S = λ b. grind (arith, nat_tests, h.walks_are b) in
    let whole_free : WholeFree V S = λ q i d. grind (arith, nat_tests, h.whole_free q i d, h.whole_kept q i a d) in
    let whole_kept : WholeKept V S = λ q i b d. grind (arith, nat_tests, h.whole_kept q i b d) in
    let whole_other : WholeOther V S = λ q i b d m. grind (arith, nat_tests, h.whole_other q i b d m) in
    let right_names : RightNames V S = λ q i r. grind (arith, nat_tests, h.right_names q i r) in
    let marks_table : MarksTable V S = λ b m. grind (arith, nat_tests, h.marks_table b m) in
    let moves_table : MovesTable V S = λ b m. grind (arith, nat_tests, h.moves_table b m) in
    let forks_table : ForksTable V S = λ b i fork. grind (arith, nat_tests, h.forks_table b i fork) in
    let forks_structure : ForksStructure V S = λ b fork. grind (arith, nat_tests, h.forks_structure b fork) in
    let table_held : TableHeld V S = λ q b. grind (arith, nat_tests, h.table_held q b, table_forks v s h q a p c done step may.0) in
    let structure_held : StructureHeld V S = λ q b. grind (arith, nat_tests, h.structure_held q b) in
    let table_born : TableBorn V S = λ q b. grind (arith, nat_tests, h.table_born q b) in
    let fork_parent : ForkParent V S = λ b fork. grind (arith, nat_tests, h.fork_parent b fork) in
    let fork_birth : ForkBirth V S = λ b fork. grind (arith, nat_tests, h.fork_birth b fork, only_fork v s a b was fork h mine) in
    let growing_locked : GrowingLocked V S = λ x q. grind (arith, nat_tests, h.growing_locked x q, h.growing_forked x q a) in
    let growing_forked : GrowingForked V S = λ x q b. grind (arith, nat_tests, h.growing_forked x q b, h.structure_held q a) in
    let growing_rights : GrowingRights V S = λ x q i. grind (arith, nat_tests, h.growing_rights x q i, growing_parent v s x q h) in
    let unborn_unmapped : UnbornUnmapped V S = λ q i. grind (arith, nat_tests, h.unborn_unmapped q i) in
    let failed_unmapped : FailedUnmapped V S = λ q i. grind (arith, nat_tests, h.failed_unmapped q i) in
    let flag_born : FlagBorn V S = λ q. grind (arith, nat_tests, h.flag_born q) in
    let fork_odd : ForkOdd V S = λ b fork. grind (arith, nat_tests, h.fork_odd b fork, h.forks_structure b fork) in
    let quiet_even : QuietEven V S = λ q. grind (arith, nat_tests, h.quiet_even q, even) in
    let walk_below : WalkBelow V S = raised_below v s p h in
    let walk_own : WalkOwn V S = raised_own v s p h in
    let walk_unowned : WalkUnowned V S = raised_unowned v s p h in
    let walk_kept : WalkKept V S = raised_kept v s p h in
    let walk_writable : WalkWritable V S = raised_writable v s p h in
    let own_marked : OwnMarked V S = λ q i o d. grind (arith, nat_tests, h.own_marked q i o d, h.own_marking q i o a d) in
    let own_marking : OwnMarking V S = λ q i o b d. grind (arith, nat_tests, h.own_marking q i o b d) in
    let entry_mapped : EntryMapped V S = λ q i d. grind (arith, nat_tests, h.entry_mapped q i d) in
    let entry_allowed : EntryAllowed V S = λ q i d. grind (arith, nat_tests, h.entry_allowed q i d) in
    let entry_words : EntryWords V S = λ q i w d r. grind (arith, nat_tests, h.entry_words q i w d r) in
    let untouched : Untouched V S = λ q i w r mapped none free. grind (arith, nat_tests, h.untouched q i w r, uncopied_before v.forks a None q i free (λ n k is child. grind (arith, nat_tests))) in
    let right_numbered : RightNumbered V S = λ q i r. grind (arith, nat_tests, h.right_numbered q i r) in
    let prepared_zero : PreparedZero V S = λ b u w. grind (arith, nat_tests, h.prepared_zero b u w) in
    let fork_fresh : ForkFresh V S = λ b i fork. grind (arith, nat_tests, h.fork_fresh b i fork) in
    let fork_copied : ForkCopied V S = λ b i w fork. grind (arith, nat_tests, h.fork_copied b i w fork, only_fork v s a b was fork h mine) in
    let fork_uncopied : ForkUncopied V S = λ b i w fork. grind (arith, nat_tests, h.fork_uncopied b i w fork, only_fork v s a b was fork h mine) in
    let fork_undone : ForkUndone V S = λ b i fork. grind (arith, nat_tests, h.fork_undone b i fork) in
    let fork_mapped : ForkMapped V S = λ b i fork. grind (arith, nat_tests, h.fork_mapped b i fork, only_fork v s a b was fork h mine) in
    let copy_words : CopyWords V S = λ b i n w u fork. grind (arith, nat_tests, h.copy_words b i n w u fork) in
    let copy_there : CopyThere V S = λ b i n fork. grind (arith, nat_tests, h.copy_there b i n fork) in
    let share_handle : ShareHandle V S = λ b i j n fork d. grind (arith, nat_tests, h.share_handle b i j n fork d) in
    let share_taken : ShareTaken V S = λ b i y n fork d t. grind (arith, nat_tests, h.share_taken b i y n fork d t) in
    let share_lowered : ShareLowered V S = λ b i fork d. grind (arith, nat_tests, h.share_lowered b i fork d) in
    let share_unowned : ShareUnowned V S = λ b i fork d. grind (arith, nat_tests, h.share_unowned b i fork d) in
    let mirror_born : MirrorBorn V S = λ m u noted. grind (arith, nat_tests, h.mirror_born m u noted) in
    let fork_alone : ForkAlone V S = alone_without v.forks a h.fork_alone in
    let fork_left : ForkLeft V S = left_without v.forks a s.entry h.fork_left in
    let sound : IsSoundBy V S = assumption in
    record { sound = (V, sound); can = subst IsUnbornOrGrowing (sym grows) tt; same = ap (λ (o : ℕ → ℕ → ℕ). record (plain_of S) { object = o }) (by_pages (λ q g. grind (arith, nat_tests))) }

pub simulates-fail_fork : (s : CoreState) (a p c : ℕ) (done : List ℕ) (step : ForkStep) (ends : Bool) → IsSound s → Can s (fail_fork a p c done step ends) → Simulates s (fail_fork a p c done step ends)
simulates-fail_fork s a p c done step false sound may = failing_fork s a p c done step sound.0 sound.1 may
simulates-fail_fork s a p c done step true sound may = ended_fork s a p c done step sound.0 sound.1 may

-- the page of the failed child names nothing any more
put_one : (s : CoreState) (a p c : ℕ) (done : List ℕ) (page : ℕ) (e : Entry) (v : View) → IsSoundBy v s → Can s (put_child a p c done page e false) → Simulates s (put_child a p c done page e false)
put_one s a p c done page e v h may =
    let S : CoreState = happens s (put_child a p c done page e false) in
    let V : View = record v { references = put e.frame (v.references e.frame - 1) v.references; whole = put2 c page None v.whole; names = put2 c page None v.names } in
    let was : Forking = record { proc = p; child = c; done = done; step = failing } in
    let mine : v.forks a ≡ Some was = fork_here v s a p c done failing h may.0 in
    let fails : s.birth c ≡ failed = h.fork_birth a was mine in
    let here : s.entry c page ≡ Some e = may.1 in
    let there : v.whole c page ≡ Some e = h.whole_entry c page e here in
    let unlocked : (b : ℕ) → s.table c ≡ Some b → ⊥ = λ b held. let lives = h.table_born c b held in cc in
    let alone : s.count e.frame ≡ 1 → v.references e.frame ≡ 1 = λ once. (whole_alone v s h c page e there once).0 in
    let references : References V S = tally_is _ _ _ (tally_entry _ _ _ _ _ _ _ _ c page None h.references) (λ d. grind (arith, nat_tests)) in
    let count_is : CountIs V S = λ u. grind (arith, nat_tests, h.count_is u, whole_counts v s h c page e there) in
    let whole_entry : WholeEntry V S = λ q i d. grind (arith, nat_tests, h.whole_entry q i d) in
    let whole_moved : WholeMoved V S = λ b m. grind (arith, nat_tests, h.whole_moved b m, h.moves_table b m, unlocked b) in
    let whole_free : WholeFree V S = λ q i d. grind (arith, nat_tests, h.whole_free q i d) in
    let whole_kept : WholeKept V S = λ q i b d. grind (arith, nat_tests, h.whole_kept q i b d) in
    let whole_other : WholeOther V S = λ q i b d m. grind (arith, nat_tests, h.whole_other q i b d m) in
    let moved_gone : MovedGone V S = λ b m. grind (arith, nat_tests, h.moved_gone b m) in
    let right_names : RightNames V S = λ q i r. grind (arith, nat_tests, h.right_names q i r, h.failed_unmapped c page) in
    let whole_names : WholeNames V S = λ q i d. grind (arith, nat_tests, h.whole_names q i d) in
    let names_object : NamesObject V S = λ q i o. grind (arith, nat_tests, h.names_object q i o) in
    let own_alone : OwnAlone V S = λ u i o. grind (arith, nat_tests, h.own_alone u i o) in
    let own_made : OwnMade V S = λ u o. grind (arith, nat_tests, h.own_made u o) in
    let own_names : OwnNames V S = λ q i o d. grind (arith, nat_tests, h.own_names q i o d) in
    let own_entry : OwnEntry V S = λ u q i o. grind (arith, nat_tests, h.own_entry u q i o) in
    let own_words : OwnWords V S = λ u o w. grind (arith, nat_tests, h.own_words u o w) in
    let own_marked : OwnMarked V S = λ q i o d. grind (arith, nat_tests, h.own_marked q i o d) in
    let own_marking : OwnMarking V S = λ q i o b d. grind (arith, nat_tests, h.own_marking q i o b d) in
    let marked_own : MarkedOwn V S = λ q i d. grind (arith, nat_tests, h.marked_own q i d) in
    let entry_mapped : EntryMapped V S = λ q i d. grind (arith, nat_tests, h.entry_mapped q i d) in
    let entry_marked : EntryMarked V S = λ q i d. grind (arith, nat_tests, h.entry_marked q i d, once_wholes v s h c page q i e d, alone) in
    let entry_allowed : EntryAllowed V S = λ q i d. grind (arith, nat_tests, h.entry_allowed q i d) in
    let entry_words : EntryWords V S = λ q i w d r. grind (arith, nat_tests, h.entry_words q i w d r) in
    let untouched : Untouched V S = λ q i w r. grind (arith, nat_tests, h.untouched q i w r, h.failed_unmapped c page) in
    let names_alone : NamesAlone V S = λ q i x j o. grind (arith, nat_tests, h.names_alone q i x j o) in
    let names_made : NamesMade V S = λ q i o. grind (arith, nat_tests, h.names_made q i o) in
    let handle_marked : HandleMarked V S = λ j n u. grind (arith, nat_tests, h.handle_marked j n u, handle_counts v s h j n u, alone) in
    let handle_own : HandleOwn V S = λ j n u. grind (arith, nat_tests, h.handle_own j n u, handle_counts v s h j n u, alone) in
    let handle_flag : HandleFlag V S = λ j n u o q i. grind (arith, nat_tests, h.handle_flag j n u o q i) in
    let taken_marked : TakenMarked V S = λ b n t. grind (arith, nat_tests, h.taken_marked b n t, taken_counts v s h b n t, alone) in
    let taken_own : TakenOwn V S = λ b n t. grind (arith, nat_tests, h.taken_own b n t, taken_counts v s h b n t, alone) in
    let taken_names : TakenNames V S = λ b n q i t. grind (arith, nat_tests, h.taken_names b n q i t) in
    let walk_own : WalkOwn V S = λ b n o w t. grind (arith, nat_tests, h.walk_own b n o w t) in
    let walk_unowned : WalkUnowned V S = λ b n w t. grind (arith, nat_tests, h.walk_unowned b n w t) in
    let walk_kept : WalkKept V S = λ b n w t. grind (arith, nat_tests, h.walk_kept b n w t, taken_counts v s h b n t, alone) in
    let walk_writable : WalkWritable V S = λ b n w t d. grind (arith, nat_tests, h.walk_writable b n w t d, taken_counts v s h b n t, alone) in
    let prepared_once : PreparedOnce V S = λ b u. grind (arith, nat_tests, h.prepared_once b u, prepared_whole v s h b u c page e) in
    let prepared_unmarked : PreparedUnmarked V S = λ b u. grind (arith, nat_tests, h.prepared_unmarked b u) in
    let prepared_unowned : PreparedUnowned V S = λ b u. grind (arith, nat_tests, h.prepared_unowned b u) in
    let marking_entry : MarkingEntry V S = λ b m. grind (arith, nat_tests, h.marking_entry b m, h.marks_table b m, unlocked b) in
    let marking_own : MarkingOwn V S = λ b m. grind (arith, nat_tests, h.marking_own b m, h.marks_table b m, unlocked b, h.marking_entry b m, λ (d : Entry). once_wholes v s h c page m.proc m.page e d, alone) in
    let moving_once : MovingOnce V S = λ b m. grind (arith, nat_tests, h.moving_once b m, h.whole_moved b m, h.moves_table b m, unlocked b, once_wholes v s h c page m.proc m.page e m.entry) in
    let fork_fresh : ForkFresh V S = λ b i fork. grind (arith, nat_tests, h.fork_fresh b i fork) in
    let share_handle : ShareHandle V S = λ b i j n fork d. grind (arith, nat_tests, h.share_handle b i j n fork d) in
    let share_taken : ShareTaken V S = λ b i y n fork d t. grind (arith, nat_tests, h.share_taken b i y n fork d t) in
    let share_lowered : ShareLowered V S = λ b i fork d. grind (arith, nat_tests, h.share_lowered b i fork d) in
    let share_unowned : ShareUnowned V S = λ b i fork d. grind (arith, nat_tests, h.share_unowned b i fork d) in
    let mirror_entry : MirrorEntry V S = λ m u noted. grind (arith, nat_tests, h.mirror_entry m u noted, h.mirror_born m u noted) in
    let mirror_names : MirrorNames V S = λ m u noted. grind (arith, nat_tests, h.mirror_names m u noted, h.mirror_born m u noted) in
    let fork_left : ForkLeft V S = left_more v s c page h may.2 in
    let sound : IsSoundBy V S = assumption in
    record { sound = (V, sound); can = tt; same = refl }

-- it was the last, and the fork is over
put_last : (s : CoreState) (a p c : ℕ) (done : List ℕ) (page : ℕ) (e : Entry) (v : View) → IsSoundBy v s → Can s (put_child a p c done page e true) → Simulates s (put_child a p c done page e true)
put_last s a p c done page e v h may =
    let S : CoreState = happens s (put_child a p c done page e true) in
    let V : View = record v { references = put e.frame (v.references e.frame - 1) v.references; whole = put2 c page None v.whole; names = put2 c page None v.names; forks = put a None v.forks } in
    let was : Forking = record { proc = p; child = c; done = done; step = failing } in
    let mine : v.forks a ≡ Some was = fork_here v s a p c done failing h may.0 in
    let fails : s.birth c ≡ failed = h.fork_birth a was mine in
    let locked : s.structure p ≡ Some a = h.forks_structure a was mine in
    let even : is_odd (s.sequence p) ≡ false = h.fork_odd a was mine in
    let here : s.entry c page ≡ Some e = may.1 in
    let there : v.whole c page ≡ Some e = h.whole_entry c page e here in
    let unlocked : (b : ℕ) → s.table c ≡ Some b → ⊥ = λ b held. let lives = h.table_born c b held in cc in
    let alone : s.count e.frame ≡ 1 → v.references e.frame ≡ 1 = λ once. (whole_alone v s h c page e there once).0 in
    let references : References V S = tally_is _ _ _ (tally_entry _ _ _ _ _ _ _ _ c page None h.references) (λ d. grind (arith, nat_tests)) in
    let count_is : CountIs V S = λ u. grind (arith, nat_tests, h.count_is u, whole_counts v s h c page e there) in
    let whole_entry : WholeEntry V S = λ q i d. grind (arith, nat_tests, h.whole_entry q i d) in
    let whole_moved : WholeMoved V S = λ b m. grind (arith, nat_tests, h.whole_moved b m, h.moves_table b m, unlocked b) in
    let whole_free : WholeFree V S = λ q i d. grind (arith, nat_tests, h.whole_free q i d) in
    let whole_kept : WholeKept V S = λ q i b d. grind (arith, nat_tests, h.whole_kept q i b d) in
    let whole_other : WholeOther V S = λ q i b d m. grind (arith, nat_tests, h.whole_other q i b d m) in
    let moved_gone : MovedGone V S = λ b m. grind (arith, nat_tests, h.moved_gone b m) in
    let right_names : RightNames V S = λ q i r. grind (arith, nat_tests, h.right_names q i r, h.failed_unmapped c page) in
    let whole_names : WholeNames V S = λ q i d. grind (arith, nat_tests, h.whole_names q i d) in
    let names_object : NamesObject V S = λ q i o. grind (arith, nat_tests, h.names_object q i o) in
    let own_alone : OwnAlone V S = λ u i o. grind (arith, nat_tests, h.own_alone u i o) in
    let own_made : OwnMade V S = λ u o. grind (arith, nat_tests, h.own_made u o) in
    let own_names : OwnNames V S = λ q i o d. grind (arith, nat_tests, h.own_names q i o d) in
    let own_entry : OwnEntry V S = λ u q i o. grind (arith, nat_tests, h.own_entry u q i o) in
    let own_words : OwnWords V S = λ u o w. grind (arith, nat_tests, h.own_words u o w) in
    let own_marked : OwnMarked V S = λ q i o d. grind (arith, nat_tests, h.own_marked q i o d) in
    let own_marking : OwnMarking V S = λ q i o b d. grind (arith, nat_tests, h.own_marking q i o b d) in
    let marked_own : MarkedOwn V S = λ q i d. grind (arith, nat_tests, h.marked_own q i d) in
    let entry_mapped : EntryMapped V S = λ q i d. grind (arith, nat_tests, h.entry_mapped q i d) in
    let entry_marked : EntryMarked V S = λ q i d. grind (arith, nat_tests, h.entry_marked q i d, once_wholes v s h c page q i e d, alone) in
    let entry_allowed : EntryAllowed V S = λ q i d. grind (arith, nat_tests, h.entry_allowed q i d) in
    let entry_words : EntryWords V S = λ q i w d r. grind (arith, nat_tests, h.entry_words q i w d r) in
    let untouched : Untouched V S = λ q i w r mapped none free. let old : IsUncopiedBy v.forks q i = uncopied_before v.forks a None q i free (λ n k is. grind (arith)) in grind (arith, nat_tests, h.untouched q i w r, h.failed_unmapped c page) in
    let names_alone : NamesAlone V S = λ q i x j o. grind (arith, nat_tests, h.names_alone q i x j o) in
    let names_made : NamesMade V S = λ q i o. grind (arith, nat_tests, h.names_made q i o) in
    let handle_marked : HandleMarked V S = λ j n u. grind (arith, nat_tests, h.handle_marked j n u, handle_counts v s h j n u, alone) in
    let handle_own : HandleOwn V S = λ j n u. grind (arith, nat_tests, h.handle_own j n u, handle_counts v s h j n u, alone) in
    let handle_flag : HandleFlag V S = λ j n u o q i. grind (arith, nat_tests, h.handle_flag j n u o q i) in
    let taken_marked : TakenMarked V S = λ b n t. grind (arith, nat_tests, h.taken_marked b n t, taken_counts v s h b n t, alone) in
    let taken_own : TakenOwn V S = λ b n t. grind (arith, nat_tests, h.taken_own b n t, taken_counts v s h b n t, alone) in
    let taken_names : TakenNames V S = λ b n q i t. grind (arith, nat_tests, h.taken_names b n q i t) in
    let walk_own : WalkOwn V S = λ b n o w t. grind (arith, nat_tests, h.walk_own b n o w t) in
    let walk_unowned : WalkUnowned V S = λ b n w t. grind (arith, nat_tests, h.walk_unowned b n w t) in
    let walk_kept : WalkKept V S = λ b n w t. grind (arith, nat_tests, h.walk_kept b n w t, taken_counts v s h b n t, alone) in
    let walk_writable : WalkWritable V S = λ b n w t d. grind (arith, nat_tests, h.walk_writable b n w t d, taken_counts v s h b n t, alone) in
    let prepared_once : PreparedOnce V S = λ b u. grind (arith, nat_tests, h.prepared_once b u, prepared_whole v s h b u c page e) in
    let prepared_unmarked : PreparedUnmarked V S = λ b u. grind (arith, nat_tests, h.prepared_unmarked b u) in
    let prepared_unowned : PreparedUnowned V S = λ b u. grind (arith, nat_tests, h.prepared_unowned b u) in
    let marking_entry : MarkingEntry V S = λ b m. grind (arith, nat_tests, h.marking_entry b m, h.marks_table b m, unlocked b) in
    let marking_own : MarkingOwn V S = λ b m. grind (arith, nat_tests, h.marking_own b m, h.marks_table b m, unlocked b, h.marking_entry b m, λ (d : Entry). once_wholes v s h c page m.proc m.page e d, alone) in
    let moving_once : MovingOnce V S = λ b m. grind (arith, nat_tests, h.moving_once b m, h.whole_moved b m, h.moves_table b m, unlocked b, once_wholes v s h c page m.proc m.page e m.entry) in
    let fork_fresh : ForkFresh V S = λ b i fork. grind (arith, nat_tests, h.fork_fresh b i fork) in
    let share_handle : ShareHandle V S = λ b i j n fork d. grind (arith, nat_tests, h.share_handle b i j n fork d) in
    let share_taken : ShareTaken V S = λ b i y n fork d t. grind (arith, nat_tests, h.share_taken b i y n fork d t) in
    let share_lowered : ShareLowered V S = λ b i fork d. grind (arith, nat_tests, h.share_lowered b i fork d) in
    let share_unowned : ShareUnowned V S = λ b i fork d. grind (arith, nat_tests, h.share_unowned b i fork d) in
    let mirror_entry : MirrorEntry V S = λ m u noted. grind (arith, nat_tests, h.mirror_entry m u noted, h.mirror_born m u noted) in
    let mirror_names : MirrorNames V S = λ m u noted. grind (arith, nat_tests, h.mirror_names m u noted, h.mirror_born m u noted) in
    let marks_are : MarksAre V S = λ b. grind (arith, nat_tests, h.marks_are b) in
    let moves_are : MovesAre V S = λ b. grind (arith, nat_tests, h.moves_are b) in
    let forks_are : ForksAre V S = λ b. grind (arith, nat_tests, h.forks_are b) in
    let walks_are : WalksAre V S = λ b. grind (arith, nat_tests, h.walks_are b) in
    let forks_table : ForksTable V S = λ b i fork. grind (arith, nat_tests, h.forks_table b i fork) in
    let forks_structure : ForksStructure V S = λ b fork. grind (arith, nat_tests, h.forks_structure b fork) in
    let table_held : TableHeld V S = λ q b. grind (arith, nat_tests, h.table_held q b) in
    let structure_held : StructureHeld V S = λ q b. grind (arith, nat_tests, h.structure_held q b) in
    let fork_parent : ForkParent V S = λ b fork. grind (arith, nat_tests, h.fork_parent b fork) in
    let fork_birth : ForkBirth V S = λ b fork. grind (arith, nat_tests, h.fork_birth b fork) in
    let growing_locked : GrowingLocked V S = λ x q. grind (arith, nat_tests, h.growing_locked x q, h.growing_forked x q a) in
    let growing_forked : GrowingForked V S = λ x q b. grind (arith, nat_tests, h.growing_forked x q b, h.structure_held q a) in
    let fork_odd : ForkOdd V S = λ b fork. grind (arith, nat_tests, h.fork_odd b fork) in
    let quiet_even : QuietEven V S = λ q. grind (arith, nat_tests, h.quiet_even q, even) in
    let prepared_zero : PreparedZero V S = λ b u w. grind (arith, nat_tests, h.prepared_zero b u w) in
    let fork_copied : ForkCopied V S = λ b i w fork. grind (arith, nat_tests, h.fork_copied b i w fork) in
    let fork_uncopied : ForkUncopied V S = λ b i w fork. grind (arith, nat_tests, h.fork_uncopied b i w fork) in
    let fork_undone : ForkUndone V S = λ b i fork. grind (arith, nat_tests, h.fork_undone b i fork) in
    let fork_mapped : ForkMapped V S = λ b i fork. grind (arith, nat_tests, h.fork_mapped b i fork) in
    let copy_words : CopyWords V S = λ b i n w u fork. grind (arith, nat_tests, h.copy_words b i n w u fork) in
    let copy_there : CopyThere V S = λ b i n fork. grind (arith, nat_tests, h.copy_there b i n fork) in
    let fork_alone : ForkAlone V S = alone_without v.forks a h.fork_alone in
    let fork_left : ForkLeft V S = left_none v s a c page was h mine refl in
    let sound : IsSoundBy V S = assumption in
    record { sound = (V, sound); can = tt; same = refl }

pub simulates-put_child : (s : CoreState) (a p c : ℕ) (done : List ℕ) (page : ℕ) (e : Entry) (ends : Bool) → IsSound s → Can s (put_child a p c done page e ends) → Simulates s (put_child a p c done page e ends)
simulates-put_child s a p c done page e false sound may = put_one s a p c done page e sound.0 sound.1 may
simulates-put_child s a p c done page e true sound may = put_last s a p c done page e sound.0 sound.1 may
