-- A fork's copy of a page that a pin may hold: word by word into a prepared frame, which then is the child's.
use Rattle.std.proofs.Common.{◌≡◌, ℕ, ◌+◌, ◌<◌, inl, inr, true, false, List, ◌∷◌, refl, ap, sym, subst, arith}
use Rattle.std.specs.Prelude.{Option, Some, None, IsSome, Contains, nat_lt, not, slice_get}
use Rattle.std.proofs.lemmas.Bool.Decides.{nat_tests}
use Rattle.gup_base.specs.declared.entry.Entry.{Entry}
use Rattle.gup_base.specs.declared.entry.Rights.{Rights}
use Rattle.gup_plain.specs.Put.{put, put2}
use Rattle.gup_plain.specs.State.{born, growing, named_or_zero}
use Rattle.gup_plain.specs.Event.{words}
use Rattle.gup_spec_events.specs.State.{CoreState, between, copying, plain_of, cleared}
use Rattle.gup_spec_events.specs.Event.{Can, happens, entry_of, is_writable, is_odd, copy_word, place_child}
use Rattle.gup_law_base.specs.Sound.{View, Forking, IsUncopiedBy, is_failing, copied_words, IsSoundBy, IsSound, Simulates, step_page, shared_page, lowered_page, is_open, birth_of_child}
use Rattle.gup_law_base.proofs.Clauses.{References, MarksAre, MovesAre, ForksAre, WholeEntry, WholeMoved, WholeFree, WholeKept, WholeOther, MovedGone, WholeNames, MarksTable, MovesTable, ForksTable, ForksStructure, TableHeld, StructureHeld, TableBorn, ForkParent, ForkBirth, GrowingForked, OwnAlone, OwnMade, OwnNames, OwnEntry, OwnWords, OwnMarked, OwnMarking, MarkedOwn, EntryMapped, EntryMarked, EntryAllowed, EntryWords, Untouched, HandleMarked, HandleOwn, HandleFlag, TakenMarked, TakenOwn, PreparedOnce, PreparedUnmarked, PreparedUnowned, PreparedZero, MarkingEntry, MarkingOwn, ForkFresh, ForkCopied, ForkUncopied, ForkUndone, ForkMapped, CopyWords, CopyThere, ShareHandle, ShareTaken, ShareLowered, ShareUnowned, MirrorEntry, WalksAre, ForkOdd, WalkOwn, WalkUnowned, WalkKept, WalkWritable, ForkAlone, ForkLeft}
use Rattle.gup_law_base.proofs.FailedChildren.{alone_next, left_growing, left_next}
use Rattle.gup_law_base.proofs.NamedObjects.{named_here}
use Rattle.gup_law_base.proofs.Tally.{tally_is, tally_entry, tally_prepared, number_here}
use Rattle.gup_law_base.proofs.Lonely.{handle_counts, taken_counts, prepared_whole, prepared_alone, born_mapped, mapped_names}
use Rattle.gup_law_base.proofs.Children.{fork_here, only_fork, uncopied_before}
use Rattle.gup_law_base.proofs.DonePages.{fork_after, changed_fork, done_either, undone_either, some_there}

-- the word of a page's entry is that of its object
entry_word : (v : View) (s : CoreState) → IsSoundBy v s → (p g w : ℕ) (e : Entry) → v.whole p g ≡ Some e → IsSome (s.right p g) → w < words → s.word e.frame w ≡ s.content (s.object p g) w
entry_word v s h p g w e there mapped below = go (s.right p g) refl mapped
  where
    go : (o : Option Rights) → s.right p g ≡ o → IsSome o → s.word e.frame w ≡ s.content (s.object p g) w
    go None none mapped = absurd (cc)
    go (Some r) some mapped = h.entry_words p g w e r there some below

-- where there is nothing, nothing is there
no_entry : (v : View) (s : CoreState) → IsSoundBy v s → (p g : ℕ) → v.whole p g ≡ None → s.entry p g ≡ None
no_entry v s h p g none = go (s.entry p g) refl
  where
    go : (o : Option Entry) → s.entry p g ≡ o → o ≡ None
    go None is = refl
    go (Some e) is = absurd (let there = h.whole_entry p g e is in cc)

told_word : (s : CoreState) (p c page word : ℕ) (m n : ℕ) → s.object p page ≡ m → s.object c page ≡ n → put2 (s.object c page) word (s.content (s.object p page) word) s.content ≡ put2 n word (s.content m word) s.content
told_word s p c page word m n from to = λ i. put2 (to i) word (s.content (from i) word) s.content

-- the prepared frame has one word more of the child's page
sound-copy_word : (s : CoreState) (a p c : ℕ) (done : List ℕ) (page word to : ℕ) (e : Entry) (v : View) → IsSoundBy v s → Can s (copy_word a p c done page word to e) → Simulates s (copy_word a p c done page word to e)
sound-copy_word s a p c done page word to e v h may =
    let S : CoreState = happens s (copy_word a p c done page word to e) in
    let V : View = record v { forks = put a (Some (record { proc = p; child = c; done = done; step = copying page (word + 1) })) v.forks } in
    let was : Forking = record { proc = p; child = c; done = done; step = copying page word } in
    let mine : v.forks a ≡ Some was = fork_here v s a p c done (copying page word) h may.0 in
    let grows : s.birth c ≡ growing p = h.fork_birth a was mine in
    let lives : s.birth p ≡ born = h.fork_parent a was mine in
    let locked : s.table p ≡ Some a = h.forks_table a page was mine refl in
    let undone : Contains done page → ⊥ = h.fork_undone a page was mine refl in
    let fresh : v.whole c page ≡ None = h.fork_fresh a page was mine refl undone in
    let mapped : IsSome (s.right c page) = some_there (s.right c page) (h.fork_mapped a page was mine refl) in
    let named : v.names c page ≡ Some (s.object c page) = mapped_names v s h c page mapped in
    let next : Forking = record { proc = p; child = c; done = done; step = copying page (word + 1) } in
    let below : word < words = may.1 in
    let had : s.prepared a ≡ Some to = may.2 in
    let here : s.entry p page ≡ Some e = may.3 in
    let there : v.whole p page ≡ Some e = h.whole_entry p page e here in
    let source : IsSome (s.right p page) = born_mapped v s h p page e lives there in
    let read : s.word e.frame word ≡ s.content (s.object p page) word = entry_word v s h p page word e there source below in
    let apart : to ≡ e.frame → ⊥ = λ same. prepared_whole v s h a to p page e had there (sym same) in
    let marks_are : MarksAre V S = λ b. grind (arith, nat_tests, h.marks_are b) in
    let moves_are : MovesAre V S = λ b. grind (arith, nat_tests, h.moves_are b) in
    let forks_are : ForksAre V S = λ b. grind (arith, nat_tests, h.forks_are b) in
    let walks_are : WalksAre V S = λ b. grind (arith, nat_tests, h.walks_are b) in
    let forks_table : ForksTable V S = λ b i. fork_after (λ b k. step_page k.step ≡ Some i → s.table k.proc ≡ Some b) v.forks a next (h.forks_table a i was mine) (λ b k other. h.forks_table b i k) b in
    let forks_structure : ForksStructure V S = fork_after (λ b k. s.structure k.proc ≡ Some b) v.forks a next (h.forks_structure a was mine) (λ b k other. h.forks_structure b k) in
    let table_held : TableHeld V S = λ q b. grind (arith, nat_tests, h.table_held q b) in
    let structure_held : StructureHeld V S = λ q b. grind (arith, nat_tests, h.structure_held q b) in
    let fork_parent : ForkParent V S = fork_after (λ b k. s.birth k.proc ≡ born) v.forks a next (lives) (λ b k other. h.fork_parent b k) in
    let fork_birth : ForkBirth V S = fork_after (λ b k. s.birth k.child ≡ birth_of_child k) v.forks a next (grows) (λ b k other. h.fork_birth b k) in
    let growing_forked : GrowingForked V S = λ x q b. grind (arith, nat_tests, h.growing_forked x q b) in
    let fork_odd : ForkOdd V S = fork_after (λ b k. is_odd (s.sequence k.proc) ≡ not (is_failing k.step)) v.forks a next (h.fork_odd a was mine) (λ b k other. h.fork_odd b k) in
    let own_words : OwnWords V S = λ u o w. grind (arith, nat_tests, h.own_words u o w, h.prepared_unowned a to, h.own_entry u c page o) in
    let entry_words : EntryWords V S = λ q i w d r. grind (arith, nat_tests, h.entry_words q i w d r, prepared_whole v s h a to q i d, h.whole_names q i d, h.names_alone q i c page (s.object c page)) in
    let untouched : Untouched V S = λ q i w r mapped none free. let other : q ≡ c → i ≡ page → ⊥ = λ x y. free a (word + 1) next (number_here a (Some next) v.forks) (sym x) (ap (λ n. copying n (word + 1)) (sym y)) in let before : IsUncopiedBy v.forks q i = uncopied_before v.forks a (Some next) q i free (λ n k is child at. grind (arith, other)) in grind (arith, nat_tests, h.untouched q i w r mapped none before, h.right_names q i r, h.names_alone q i c page (s.object c page)) in
    let prepared_zero : PreparedZero V S = λ b u w. grind (arith, nat_tests, h.prepared_zero b u w, prepared_alone v s h a b to, h.prepared_zero a to w) in
    let fork_fresh : ForkFresh V S = λ b i. fork_after (λ b k. is_failing k.step ≡ false → (Contains k.done i → ⊥) → v.whole k.child i ≡ None) v.forks a next (h.fork_fresh a i was mine) (λ b k other. h.fork_fresh b i k) b in
    let fork_copied : ForkCopied V S = λ b i w fork. grind (arith, nat_tests, h.fork_copied b i w fork, h.fork_copied a i w was) in
    let fork_uncopied : ForkUncopied V S = λ b i w fork. grind (arith, nat_tests, h.fork_uncopied b i w fork, h.fork_uncopied a i w was, only_fork v s a b was fork h mine) in
    let fork_undone : ForkUndone V S = λ b i. fork_after (λ b k. step_page k.step ≡ Some i → Contains k.done i → ⊥) v.forks a next (h.fork_undone a i was mine) (λ b k other. h.fork_undone b i k) b in
    let fork_mapped : ForkMapped V S = λ b i. fork_after (λ b k. step_page k.step ≡ Some i → s.right k.child i ≡ None → ⊥) v.forks a next (h.fork_mapped a i was mine) (λ b k other. h.fork_mapped b i k) b in
    let copy_words : CopyWords V S = λ b i n w u fork. grind (arith, nat_tests, h.copy_words b i n w u fork, h.copy_words a page word w to was, prepared_alone v s h a b to, only_fork v s a b was fork h mine, h.fork_mapped b i fork, λ (r : Rights). h.right_names fork.child i r, h.names_alone fork.child i c page (s.object c page)) in
    let copy_there : CopyThere V S = λ b i n fork. grind (arith, nat_tests, h.copy_there b i n fork) in
    let share_handle : ShareHandle V S = λ b i j n k d. fork_after (λ b k. shared_page k.step ≡ Some i → v.whole k.proc i ≡ Some d → slice_get (s.pinned j) n ≡ Some d.frame → ⊥) v.forks a next (λ at. absurd (cc)) (λ b k other was. h.share_handle b i j n k d was) b k in
    let share_taken : ShareTaken V S = λ b i y n k d t. fork_after (λ b k. shared_page k.step ≡ Some i → v.whole k.proc i ≡ Some d → slice_get (s.taken y) n ≡ Some t → is_open (v.walks y) ≡ false → t.frame ≡ d.frame → ⊥) v.forks a next (λ at. absurd (cc)) (λ b k other was. h.share_taken b i y n k d t was) b k in
    let share_lowered : ShareLowered V S = λ b i k d. fork_after (λ b k. lowered_page k.step ≡ Some i → v.whole k.proc i ≡ Some d → d.writable ≡ false) v.forks a next (λ at. absurd (cc)) (λ b k other was. h.share_lowered b i k d was) b k in
    let share_unowned : ShareUnowned V S = λ b i k d. fork_after (λ b k. k.step ≡ cleared i → v.whole k.proc i ≡ Some d → s.own d.frame ≡ None) v.forks a next (λ at. absurd (cc)) (λ b k other was. h.share_unowned b i k d was) b k in
    let fork_alone : ForkAlone V S = alone_next v.forks a was next mine refl h.fork_alone in
    let fork_left : ForkLeft V S = left_next v.forks a next s.entry refl h.fork_left in
    let sound : IsSoundBy V S = assumption in
    record { sound = (V, sound); can = ((grows, source, mapped), grind (arith, nat_tests, h.fork_uncopied a page word was mine refl undone below)); same = ap (λ (x : ℕ → ℕ → ℕ). record (plain_of S) { content = x }) (told_word s p c page word (named_or_zero (s.right p page) (s.object p page)) (named_or_zero (s.right c page) (s.object c page)) (sym (named_here (s.right p page) (s.object p page) source)) (sym (named_here (s.right c page) (s.object c page) mapped))) }

pub simulates-copy_word : (s : CoreState) (a p c : ℕ) (done : List ℕ) (page word to : ℕ) (e : Entry) → IsSound s → Can s (copy_word a p c done page word to e) → Simulates s (copy_word a p c done page word to e)
simulates-copy_word s a p c done page word to e sound may = sound-copy_word s a p c done page word to e sound.0 sound.1 may

-- the copy is the child's: prepared, it was in no entry and under no pin
sound-place_child : (s : CoreState) (a p c : ℕ) (done : List ℕ) (page to : ℕ) (rights : Rights) (v : View) → IsSoundBy v s → Can s (place_child a p c done page to rights) → Simulates s (place_child a p c done page to rights)
sound-place_child s a p c done page to rights v h may =
    let S : CoreState = happens s (place_child a p c done page to rights) in
    let V : View = record v { whole = put2 c page (Some (entry_of to (is_writable rights))) v.whole; forks = put a (Some (record { proc = p; child = c; done = page ∷ done; step = between })) v.forks } in
    let was : Forking = record { proc = p; child = c; done = done; step = copying page words } in
    let mine : v.forks a ≡ Some was = fork_here v s a p c done (copying page words) h may.0 in
    let grows : s.birth c ≡ growing p = h.fork_birth a was mine in
    let lives : s.birth p ≡ born = h.fork_parent a was mine in
    let locked : s.table p ≡ Some a = h.forks_table a page was mine refl in
    let undone : Contains done page → ⊥ = h.fork_undone a page was mine refl in
    let fresh : v.whole c page ≡ None = h.fork_fresh a page was mine refl undone in
    let mapped : IsSome (s.right c page) = some_there (s.right c page) (h.fork_mapped a page was mine refl) in
    let named : v.names c page ≡ Some (s.object c page) = mapped_names v s h c page mapped in
    let next : Forking = record { proc = p; child = c; done = page ∷ done; step = between } in
    let had : s.prepared a ≡ Some to = may.1 in
    let unmarking : v.marks a ≡ None = grind (arith, h.marks_are a) in
    let unmoving : v.moves a ≡ None = grind (arith, h.moves_are a) in
    let unlocked : (b : ℕ) → s.table c ≡ Some b → ⊥ = λ b kept. let born_child = h.table_born c b kept in cc in
    let absent : s.entry c page ≡ None = no_entry v s h c page fresh in
    let next_fresh : (i : ℕ) → (Contains (page ∷ done) i → ⊥) → V.whole c i ≡ None = λ i un. let either = undone_either page done i un in let old = h.fork_fresh a i was mine refl either.1 in grind (arith, nat_tests, either.0) in
    let other_fresh : (b i : ℕ) (k : Forking) → (b ≡ a → ⊥) → v.forks b ≡ Some k → is_failing k.step ≡ false → (Contains k.done i → ⊥) → V.whole k.child i ≡ None = λ b i k apart is going un. let old = h.fork_fresh b i k is going un in grind (arith, nat_tests, only_fork v s a b was k h mine is) in
    let next_copied : (i w : ℕ) → Contains (page ∷ done) i → w < words → s.copied c i w ≡ true = λ i w has below. elim (done_either page done i has) [ inl same ↦ (let all = h.fork_uncopied a page w was mine refl undone below in grind (arith, nat_tests)) | inr old ↦ h.fork_copied a i w was mine refl old below ] in
    let next_uncopied : (i w : ℕ) → (Contains (page ∷ done) i → ⊥) → w < words → s.copied c i w ≡ nat_lt w 0 = λ i w un below. let either = undone_either page done i un in let old = h.fork_uncopied a i w was mine refl either.1 below in grind (arith, nat_tests, either.0) in
    let references : References V S = tally_is _ _ _ (tally_prepared _ _ _ _ _ _ _ _ a None (tally_entry _ _ _ _ _ _ _ _ c page (Some (entry_of to (is_writable rights))) h.references)) (λ d. grind (arith, nat_tests)) in
    let marks_are : MarksAre V S = λ b. grind (arith, nat_tests, h.marks_are b) in
    let moves_are : MovesAre V S = λ b. grind (arith, nat_tests, h.moves_are b) in
    let forks_are : ForksAre V S = λ b. grind (arith, nat_tests, h.forks_are b) in
    let walks_are : WalksAre V S = λ b. grind (arith, nat_tests, h.walks_are b) in
    let whole_entry : WholeEntry V S = λ q i d. grind (arith, nat_tests, h.whole_entry q i d) in
    let whole_moved : WholeMoved V S = λ b m. grind (arith, nat_tests, h.whole_moved b m, h.moves_table b m, unlocked b) in
    let whole_free : WholeFree V S = λ q i d. grind (arith, nat_tests, h.whole_free q i d, h.whole_kept q i a d) in
    let whole_kept : WholeKept V S = λ q i b d. grind (arith, nat_tests, h.whole_kept q i b d) in
    let whole_other : WholeOther V S = λ q i b d m. grind (arith, nat_tests, h.whole_other q i b d m) in
    let moved_gone : MovedGone V S = λ b m. grind (arith, nat_tests, h.moved_gone b m, h.moves_table b m, unlocked b) in
    let whole_names : WholeNames V S = λ q i d. grind (arith, nat_tests, h.whole_names q i d) in
    let marks_table : MarksTable V S = λ b m. grind (arith, nat_tests, h.marks_table b m) in
    let moves_table : MovesTable V S = λ b m. grind (arith, nat_tests, h.moves_table b m) in
    let forks_table : ForksTable V S = λ b i fork. grind (arith, nat_tests, h.forks_table b i fork) in
    let forks_structure : ForksStructure V S = fork_after (λ b k. s.structure k.proc ≡ Some b) v.forks a next (h.forks_structure a was mine) (λ b k other. h.forks_structure b k) in
    let table_held : TableHeld V S = λ q b. grind (arith, nat_tests, h.table_held q b) in
    let structure_held : StructureHeld V S = λ q b. grind (arith, nat_tests, h.structure_held q b) in
    let table_born : TableBorn V S = λ q b. grind (arith, nat_tests, h.table_born q b) in
    let fork_parent : ForkParent V S = fork_after (λ b k. s.birth k.proc ≡ born) v.forks a next (lives) (λ b k other. h.fork_parent b k) in
    let fork_birth : ForkBirth V S = fork_after (λ b k. s.birth k.child ≡ birth_of_child k) v.forks a next (grows) (λ b k other. h.fork_birth b k) in
    let growing_forked : GrowingForked V S = λ x q b. grind (arith, nat_tests, h.growing_forked x q b) in
    let fork_odd : ForkOdd V S = fork_after (λ b k. is_odd (s.sequence k.proc) ≡ not (is_failing k.step)) v.forks a next (h.fork_odd a was mine) (λ b k other. h.fork_odd b k) in
    let own_alone : OwnAlone V S = λ u i o. grind (arith, nat_tests, h.own_alone u i o, h.own_entry u c page o, h.own_entry i c page o) in
    let own_made : OwnMade V S = λ u o. grind (arith, nat_tests, h.own_made u o, h.names_made c page o) in
    let own_names : OwnNames V S = λ q i o d. grind (arith, nat_tests, h.own_names q i o d, prepared_whole v s h a to q i d) in
    let own_entry : OwnEntry V S = λ u q i o. grind (arith, nat_tests, h.own_entry u q i o, h.names_alone c page q i o, h.prepared_unowned a to) in
    let own_words : OwnWords V S = λ u o w. grind (arith, nat_tests, h.own_words u o w, h.copy_words a page words w to was) in
    let own_marked : OwnMarked V S = λ q i o d. grind (arith, nat_tests, h.own_marked q i o d, h.own_marking q i o a d) in
    let own_marking : OwnMarking V S = λ q i o b d. grind (arith, nat_tests, h.own_marking q i o b d) in
    let marked_own : MarkedOwn V S = λ q i d. grind (arith, nat_tests, h.marked_own q i d, prepared_whole v s h a to q i d) in
    let entry_mapped : EntryMapped V S = λ q i d. grind (arith, nat_tests, h.entry_mapped q i d) in
    let entry_marked : EntryMarked V S = λ q i d. grind (arith, nat_tests, h.entry_marked q i d) in
    let entry_allowed : EntryAllowed V S = λ q i d. grind (arith, nat_tests, h.entry_allowed q i d) in
    let entry_words : EntryWords V S = λ q i w d r. grind (arith, nat_tests, h.entry_words q i w d r, h.copy_words a page words w to was) in
    let untouched : Untouched V S = λ q i w r mapped none free. grind (arith, nat_tests, h.untouched q i w r mapped, uncopied_before v.forks a (Some next) q i free (λ n k is child at. grind (arith, nat_tests))) in
    let handle_marked : HandleMarked V S = λ j n u. grind (arith, nat_tests, h.handle_marked j n u) in
    let handle_own : HandleOwn V S = λ j n u. grind (arith, nat_tests, h.handle_own j n u, handle_counts v s h j n u, h.prepared_once a to) in
    let handle_flag : HandleFlag V S = λ j n u o q i. grind (arith, nat_tests, h.handle_flag j n u o q i, handle_counts v s h j n u, h.prepared_once a to) in
    let taken_marked : TakenMarked V S = λ b n t. grind (arith, nat_tests, h.taken_marked b n t) in
    let taken_own : TakenOwn V S = λ b n t. grind (arith, nat_tests, h.taken_own b n t, taken_counts v s h b n t, h.prepared_once a to) in
    let walk_own : WalkOwn V S = λ b n o w t. grind (arith, nat_tests, h.walk_own b n o w t, taken_counts v s h b n t, h.prepared_once a to) in
    let walk_unowned : WalkUnowned V S = λ b n w t. grind (arith, nat_tests, h.walk_unowned b n w t, taken_counts v s h b n t, h.prepared_once a to) in
    let walk_kept : WalkKept V S = λ b n w t. grind (arith, nat_tests, h.walk_kept b n w t) in
    let walk_writable : WalkWritable V S = λ b n w t d. grind (arith, nat_tests, h.walk_writable b n w t d) in
    let prepared_once : PreparedOnce V S = λ b u. grind (arith, nat_tests, h.prepared_once b u) in
    let prepared_unmarked : PreparedUnmarked V S = λ b u. grind (arith, nat_tests, h.prepared_unmarked b u, prepared_alone v s h a b to) in
    let prepared_unowned : PreparedUnowned V S = λ b u. grind (arith, nat_tests, h.prepared_unowned b u, prepared_alone v s h a b to) in
    let prepared_zero : PreparedZero V S = λ b u w. grind (arith, nat_tests, h.prepared_zero b u w) in
    let marking_entry : MarkingEntry V S = λ b m. grind (arith, nat_tests, h.marking_entry b m, h.marks_table b m, unlocked b) in
    let marking_own : MarkingOwn V S = λ b m. grind (arith, nat_tests, h.marking_own b m, h.marking_entry b m, λ (d : Entry). prepared_whole v s h a to m.proc m.page d) in
    let fork_fresh : ForkFresh V S = λ b i k is. elim (changed_fork v.forks a next b k is) [ inl e ↦ subst (λ (l : Forking). is_failing l.step ≡ false → (Contains l.done i → ⊥) → V.whole l.child i ≡ None) e.1 (λ going un. next_fresh i un) | inr e ↦ λ going un. other_fresh b i k e.0 e.1 going un ] in
    let fork_copied : ForkCopied V S = λ b i w k is. elim (changed_fork v.forks a next b k is) [ inl e ↦ subst (λ (l : Forking). is_failing l.step ≡ false → Contains l.done i → w < words → s.copied l.child i w ≡ true) e.1 (λ going has below. next_copied i w has below) | inr e ↦ h.fork_copied b i w k e.1 ] in
    let fork_uncopied : ForkUncopied V S = λ b i w k is. elim (changed_fork v.forks a next b k is) [ inl e ↦ subst (λ (l : Forking). is_failing l.step ≡ false → (Contains l.done i → ⊥) → w < words → s.copied l.child i w ≡ nat_lt w (copied_words l.step i)) e.1 (λ going un below. next_uncopied i w un below) | inr e ↦ h.fork_uncopied b i w k e.1 ] in
    let fork_undone : ForkUndone V S = λ b i. fork_after (λ b k. step_page k.step ≡ Some i → Contains k.done i → ⊥) v.forks a next (λ at. absurd (cc)) (λ b k other. h.fork_undone b i k) b in
    let fork_mapped : ForkMapped V S = λ b i. fork_after (λ b k. step_page k.step ≡ Some i → s.right k.child i ≡ None → ⊥) v.forks a next (λ at. absurd (cc)) (λ b k other. h.fork_mapped b i k) b in
    let copy_words : CopyWords V S = λ b i n w u fork. grind (arith, nat_tests, h.copy_words b i n w u fork) in
    let copy_there : CopyThere V S = λ b i n fork. grind (arith, nat_tests, h.copy_there b i n fork) in
    let share_handle : ShareHandle V S = λ b i j n fork d. grind (arith, nat_tests, h.share_handle b i j n fork d, h.fork_parent b fork) in
    let share_taken : ShareTaken V S = λ b i y n fork d t. grind (arith, nat_tests, h.share_taken b i y n fork d t, h.fork_parent b fork) in
    let share_lowered : ShareLowered V S = λ b i fork d. grind (arith, nat_tests, h.share_lowered b i fork d, h.fork_parent b fork) in
    let share_unowned : ShareUnowned V S = λ b i fork d. grind (arith, nat_tests, h.share_unowned b i fork d, h.fork_parent b fork, prepared_whole v s h a to fork.proc i d) in
    let mirror_entry : MirrorEntry V S = λ m u noted. grind (arith, nat_tests, h.mirror_entry m u noted, h.mirror_born m u noted) in
    let fork_alone : ForkAlone V S = alone_next v.forks a was next mine refl h.fork_alone in
    let fork_left : ForkLeft V S = left_next v.forks a next S.entry refl (left_growing v s c p page (Some (entry_of to (is_writable rights))) h grows) in
    let sound : IsSoundBy V S = assumption in
    record { sound = (V, sound); can = tt; same = refl }

pub simulates-place_child : (s : CoreState) (a p c : ℕ) (done : List ℕ) (page to : ℕ) (rights : Rights) → IsSound s → Can s (place_child a p c done page to rights) → Simulates s (place_child a p c done page to rights)
simulates-place_child s a p c done page to rights sound may = sound-place_child s a p c done page to rights sound.0 sound.1 may
