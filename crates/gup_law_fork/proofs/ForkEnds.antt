-- The end of a fork: the child is born; and the fork of a failed process, whose child fails at once.
use Rattle.std.proofs.Common.{◌≡◌, ℕ, ◌+◌, false, List, refl, ap, sym, ◌∙◌, subst, arith}
use Rattle.std.specs.Prelude.{Some, None, not}
use Rattle.std.proofs.lemmas.Bool.Decides.{nat_tests}
use Rattle.gup_plain.specs.Put.{put}
use Rattle.gup_plain.specs.State.{unborn, growing}
use Rattle.gup_plain.specs.Event.{IsUnbornOrGrowing}
use Rattle.gup_spec_events.specs.State.{CoreState, between, plain_of}
use Rattle.gup_spec_events.specs.Event.{Can, happens, is_odd, end_fork, fail_unborn}
use Rattle.gup_law_base.specs.Sound.{View, Forking, IsSoundBy, IsSound, Simulates}
use Rattle.gup_law_base.proofs.Clauses.{MarksAre, MovesAre, ForksAre, RightNames, ForksTable, ForksStructure, TableHeld, StructureHeld, TableBorn, ForkParent, ForkBirth, GrowingLocked, GrowingForked, GrowingRights, UnbornUnmapped, FailedUnmapped, FlagBorn, EntryMapped, EntryAllowed, EntryWords, Untouched, RightNumbered, PreparedZero, ForkFresh, ForkCopied, ForkUncopied, ForkUndone, ForkMapped, CopyWords, CopyThere, ShareHandle, ShareTaken, ShareLowered, ShareUnowned, MirrorBorn, WalksAre, ForkOdd, QuietEven, WalkBelow, WalkOwn, WalkUnowned, WalkKept, WalkWritable, ForkAlone, ForkLeft}
use Rattle.gup_law_base.proofs.FailedChildren.{alone_without, left_without}
use Rattle.gup_law_base.proofs.Steps.{odd_next}
use Rattle.gup_law_fork.proofs.DisturbedWalks.{raised_below, raised_own, raised_unowned, raised_kept, raised_writable}
use Rattle.gup_law_base.proofs.NamedObjects.{by_pages}
use Rattle.gup_law_base.proofs.Children.{fork_here, growing_parent, only_fork, uncopied_before}

-- every page of the child is done
pub simulates-end_fork : (s : CoreState) (a p c : ℕ) (done : List ℕ) → IsSound s → Can s (end_fork a p c done) → Simulates s (end_fork a p c done)
simulates-end_fork s a p c done (v, h) may =
    let S : CoreState = happens s (end_fork a p c done) in
    let V : View = record v { forks = put a None v.forks } in
    let was : Forking = record { proc = p; child = c; done = done; step = between } in
    let mine : v.forks a ≡ Some was = fork_here v s a p c done between h may.0 in
    let locked : s.structure p ≡ Some a = h.forks_structure a was mine in
    let grows : s.birth c ≡ growing p = h.fork_birth a was mine in
    let even : is_odd (s.sequence p + 1) ≡ false = odd_next (s.sequence p) ∙ ap not (h.fork_odd a was mine) in
    let marks_are : MarksAre V S = λ b. grind (arith, nat_tests, h.marks_are b) in
    let moves_are : MovesAre V S = λ b. grind (arith, nat_tests, h.moves_are b) in
    let forks_are : ForksAre V S = λ b. grind (arith, nat_tests, h.forks_are b) in
    let walks_are : WalksAre V S = λ b. grind (arith, nat_tests, h.walks_are b) in
    let forks_table : ForksTable V S = λ b i fork. grind (arith, nat_tests, h.forks_table b i fork) in
    let forks_structure : ForksStructure V S = λ b fork. grind (arith, nat_tests, h.forks_structure b fork) in
    let table_held : TableHeld V S = λ q b. grind (arith, nat_tests, h.table_held q b) in
    let structure_held : StructureHeld V S = λ q b. grind (arith, nat_tests, h.structure_held q b) in
    let table_born : TableBorn V S = λ q b. grind (arith, nat_tests, h.table_born q b) in
    let fork_parent : ForkParent V S = λ b fork. grind (arith, nat_tests, h.fork_parent b fork) in
    let fork_birth : ForkBirth V S = λ b fork. grind (arith, nat_tests, h.fork_birth b fork, only_fork v s a b was fork h mine) in
    let growing_locked : GrowingLocked V S = λ x q. grind (arith, nat_tests, h.growing_locked x q, h.growing_forked x q a) in
    let growing_forked : GrowingForked V S = λ x q b. grind (arith, nat_tests, h.growing_forked x q b, h.structure_held q a) in
    let growing_rights : GrowingRights V S = λ x q i. grind (arith, nat_tests, h.growing_rights x q i) in
    let unborn_unmapped : UnbornUnmapped V S = λ q i. grind (arith, nat_tests, h.unborn_unmapped q i) in
    let failed_unmapped : FailedUnmapped V S = λ q i. grind (arith, nat_tests, h.failed_unmapped q i) in
    let flag_born : FlagBorn V S = λ q. grind (arith, nat_tests, h.flag_born q) in
    let fork_odd : ForkOdd V S = λ b fork. grind (arith, nat_tests, h.fork_odd b fork, h.forks_structure b fork) in
    let quiet_even : QuietEven V S = λ q. grind (arith, nat_tests, h.quiet_even q, even) in
    let walk_below : WalkBelow V S = raised_below v s p h in
    let walk_own : WalkOwn V S = raised_own v s p h in
    let walk_unowned : WalkUnowned V S = raised_unowned v s p h in
    let walk_kept : WalkKept V S = raised_kept v s p h in
    let walk_writable : WalkWritable V S = raised_writable v s p h in
    let entry_mapped : EntryMapped V S = λ q i d. grind (arith, nat_tests, h.entry_mapped q i d) in
    let untouched : Untouched V S = λ q i w r mapped none free. h.untouched q i w r mapped none (uncopied_before v.forks a None q i free (λ n k is. grind (arith))) in
    let prepared_zero : PreparedZero V S = λ b u w. grind (arith, nat_tests, h.prepared_zero b u w) in
    let fork_fresh : ForkFresh V S = λ b i fork. grind (arith, nat_tests, h.fork_fresh b i fork) in
    let fork_copied : ForkCopied V S = λ b i w fork. grind (arith, nat_tests, h.fork_copied b i w fork, only_fork v s a b was fork h mine) in
    let fork_uncopied : ForkUncopied V S = λ b i w fork. grind (arith, nat_tests, h.fork_uncopied b i w fork, only_fork v s a b was fork h mine) in
    let fork_undone : ForkUndone V S = λ b i fork. grind (arith, nat_tests, h.fork_undone b i fork) in
    let fork_mapped : ForkMapped V S = λ b i fork. grind (arith, nat_tests, h.fork_mapped b i fork) in
    let copy_words : CopyWords V S = λ b i n w u fork. grind (arith, nat_tests, h.copy_words b i n w u fork) in
    let copy_there : CopyThere V S = λ b i n fork. grind (arith, nat_tests, h.copy_there b i n fork) in
    let share_handle : ShareHandle V S = λ b i j n fork d. grind (arith, nat_tests, h.share_handle b i j n fork d) in
    let share_taken : ShareTaken V S = λ b i y n fork d t. grind (arith, nat_tests, h.share_taken b i y n fork d t) in
    let share_lowered : ShareLowered V S = λ b i fork d. grind (arith, nat_tests, h.share_lowered b i fork d) in
    let share_unowned : ShareUnowned V S = λ b i fork d. grind (arith, nat_tests, h.share_unowned b i fork d) in
    let mirror_born : MirrorBorn V S = λ m u noted. grind (arith, nat_tests, h.mirror_born m u noted) in
    let fork_alone : ForkAlone V S = alone_without v.forks a h.fork_alone in
    let fork_left : ForkLeft V S = left_without v.forks a s.entry h.fork_left in
    let sound : IsSoundBy V S = assumption in
    record { sound = (V, sound); can = (grows, λ page word mapped below. h.fork_copied a page word was mine refl (may.1 page mapped) below); same = refl }

-- an unborn process has nothing
pub simulates-fail_unborn : (s : CoreState) (a p c : ℕ) → IsSound s → Can s (fail_unborn a p c) → Simulates s (fail_unborn a p c)
simulates-fail_unborn s a p c (v, h) may =
    let S : CoreState = happens s (fail_unborn a p c) in
    let bare : s.birth c ≡ unborn = may.1 in
    let right_names : RightNames v S = λ q i r. grind (arith, nat_tests, h.right_names q i r) in
    let table_born : TableBorn v S = λ q b. grind (arith, nat_tests, h.table_born q b) in
    let fork_parent : ForkParent v S = λ b fork. grind (arith, nat_tests, h.fork_parent b fork) in
    let fork_birth : ForkBirth v S = λ b fork. grind (arith, nat_tests, h.fork_birth b fork) in
    let growing_locked : GrowingLocked v S = λ x q. grind (arith, nat_tests, h.growing_locked x q) in
    let growing_forked : GrowingForked v S = λ x q b. grind (arith, nat_tests, h.growing_forked x q b) in
    let growing_rights : GrowingRights v S = λ x q i. grind (arith, nat_tests, h.growing_rights x q i, growing_parent v s x q h) in
    let unborn_unmapped : UnbornUnmapped v S = λ q i. grind (arith, nat_tests, h.unborn_unmapped q i) in
    let failed_unmapped : FailedUnmapped v S = λ q i. grind (arith, nat_tests, h.failed_unmapped q i) in
    let flag_born : FlagBorn v S = λ q. grind (arith, nat_tests, h.flag_born q) in
    let entry_mapped : EntryMapped v S = λ q i d. grind (arith, nat_tests, h.entry_mapped q i d) in
    let entry_allowed : EntryAllowed v S = λ q i d. grind (arith, nat_tests, h.entry_allowed q i d) in
    let entry_words : EntryWords v S = λ q i w d r. grind (arith, nat_tests, h.entry_words q i w d r) in
    let untouched : Untouched v S = λ q i w r. grind (arith, nat_tests, h.untouched q i w r) in
    let right_numbered : RightNumbered v S = λ q i r. grind (arith, nat_tests, h.right_numbered q i r) in
    let fork_copied : ForkCopied v S = λ b i w fork. grind (arith, nat_tests, h.fork_copied b i w fork, h.fork_birth b fork) in
    let fork_uncopied : ForkUncopied v S = λ b i w fork. grind (arith, nat_tests, h.fork_uncopied b i w fork, h.fork_birth b fork) in
    let fork_mapped : ForkMapped v S = λ b i fork. grind (arith, nat_tests, h.fork_mapped b i fork, h.fork_birth b fork) in
    let mirror_born : MirrorBorn v S = λ m u noted. grind (arith, nat_tests, h.mirror_born m u noted) in
    let sound : IsSoundBy v S = assumption in
    record { sound = (v, sound); can = subst IsUnbornOrGrowing (sym bare) tt; same = ap (λ (o : ℕ → ℕ → ℕ). record (plain_of S) { object = o }) (by_pages (λ q g. grind (arith, nat_tests))) }
