-- A fork brings a page by sharing it, or passes it, where it has no entry.
use Rattle.std.proofs.Common.{◌≡◌, ℕ, ◌+◌, ◌<◌, inl, inr, subst, Bool, true, false, List, ◌∷◌, refl, ap, sym, ◌∙◌, arith}
use Rattle.std.specs.Prelude.{Some, None, IsSome, Contains, slice_get, nat_lt, not}
use Rattle.std.proofs.lemmas.Bool.Decides.{nat_tests}
use Rattle.gup_base.specs.declared.entry.Entry.{Entry}
use Rattle.gup_base.specs.declared.entry.Rights.{Rights}
use Rattle.gup_plain.specs.Put.{put, put2, spread}
use Rattle.gup_plain.specs.State.{growing, born}
use Rattle.gup_plain.specs.Event.{words}
use Rattle.gup_spec_events.specs.State.{CoreState, between, cleared, plain_of}
use Rattle.gup_spec_events.specs.Event.{Can, happens, entry_of, is_done, is_odd, share_child, pass_page}
use Rattle.gup_law_base.specs.Sound.{View, Forking, marking_of, moving_of, IsSoundBy, IsSound, Simulates, IsUncopiedBy, is_failing, copied_words, birth_of_child, step_page, shared_page, lowered_page, is_open}
use Rattle.gup_law_base.proofs.Clauses.{References, MarksAre, MovesAre, ForksAre, WholeEntry, WholeMoved, WholeFree, WholeKept, WholeOther, MovedGone, WholeNames, MarksTable, MovesTable, ForksTable, ForksStructure, TableHeld, StructureHeld, TableBorn, ForkParent, ForkBirth, GrowingForked, OwnNames, OwnEntry, OwnWords, OwnMarked, OwnMarking, MarkedOwn, EntryMapped, EntryMarked, EntryAllowed, EntryWords, Untouched, PreparedOnce, PreparedZero, MarkingEntry, MovingOnce, ForkFresh, ForkCopied, ForkUncopied, ForkUndone, ForkMapped, CopyWords, CopyThere, ShareHandle, ShareTaken, ShareLowered, ShareUnowned, MirrorEntry, WalksAre, CountIs, ForkOdd, ForkAlone, ForkLeft}
use Rattle.gup_law_base.proofs.FailedChildren.{alone_next, left_growing, left_next}
use Rattle.gup_law_base.proofs.Tally.{tally_is, tally_entry}
use Rattle.gup_law_base.proofs.Lonely.{once_wholes, prepared_whole, whole_none}
use Rattle.gup_law_base.proofs.Children.{only_fork, born_uncopied, uncopied_before, fork_here}
use Rattle.gup_law_base.proofs.DonePages.{fork_after, changed_fork, done_either, undone_either}
use Rattle.gup_law_fork.proofs.SharedPages.{child_names, shown_same, page_forks, none_before}

-- parent and child have the page's frame, and their objects have its words
pub simulates-share_child : (s : CoreState) (a p c : ℕ) (done : List ℕ) (page f : ℕ) (writable : Bool) → IsSound s → Can s (share_child a p c done page f writable) → Simulates s (share_child a p c done page f writable)
simulates-share_child s a p c done page f writable (v, h) can =
    let S : CoreState = happens s (share_child a p c done page f writable) in
    let V : View = record v { references = put f (v.references f + 1) v.references; whole = put2 c page (Some (entry_of f false)) v.whole; forks = put a (Some (record { proc = p; child = c; done = page ∷ done; step = between })) v.forks } in
    let before : Forking = record { proc = p; child = c; done = done; step = cleared page } in
    let mine : v.forks a ≡ Some before = fork_here v s a p c done (cleared page) h can.0 in
    let next : Forking = record { proc = p; child = c; done = page ∷ done; step = between } in
    let lives : s.birth p ≡ born = h.fork_parent a before mine in
    let grows : s.birth c ≡ growing p = h.fork_birth a before mine in
    let still : v.moves a ≡ None = h.moves_are a ∙ ap moving_of can.0 in
    let unmarking : v.marks a ≡ None = h.marks_are a ∙ ap marking_of can.0 in
    let locked : s.table p ≡ Some a = h.forks_table a page before mine refl in
    let e : Entry = entry_of f writable in
    let here : s.entry p page ≡ Some e = can.1 in
    let there : v.whole p page ≡ Some e = h.whole_entry p page e here in
    let named : v.names p page ≡ Some (s.object p page) = h.whole_names p page e there in
    let unowned : s.own f ≡ None = h.share_unowned a page before e mine refl there in
    let undone : is_done done page → ⊥ = h.fork_undone a page before mine refl in
    let empty : v.whole c page ≡ None = h.fork_fresh a page before mine refl undone in
    let mapped : s.right c page ≡ None → ⊥ = h.fork_mapped a page before mine refl in
    let names_to : v.names c page ≡ Some (s.object c page) = child_names v s c page h mapped in
    let rights : s.right c page ≡ s.right p page = h.growing_rights c p page grows in
    let references : References V S = tally_is _ _ _ (tally_entry _ _ _ _ _ _ _ _ c page (Some (entry_of f false)) h.references) (λ d. grind (arith, nat_tests, h.whole_entry c page)) in
    let count_is : CountIs V S = λ u. grind (arith, nat_tests, h.count_is u) in
    let marks_are : MarksAre V S = λ b. grind (arith, nat_tests, h.marks_are b) in
    let moves_are : MovesAre V S = λ b. grind (arith, nat_tests, h.moves_are b) in
    let forks_are : ForksAre V S = λ b. grind (arith, nat_tests, h.forks_are b) in
    let walks_are : WalksAre V S = λ b. grind (arith, nat_tests, h.walks_are b) in
    let whole_entry : WholeEntry V S = λ q i d. grind (arith, nat_tests, h.whole_entry q i d) in
    let whole_moved : WholeMoved V S = λ b m. grind (arith, nat_tests, h.whole_moved b m, h.moves_table b m) in
    let whole_free : WholeFree V S = λ q i d. grind (arith, nat_tests, h.whole_free q i d, h.whole_kept q i a d) in
    let whole_kept : WholeKept V S = λ q i b d. grind (arith, nat_tests, h.whole_kept q i b d, h.table_born q b) in
    let whole_other : WholeOther V S = λ q i b d m. grind (arith, nat_tests, h.whole_other q i b d m, h.table_born q b) in
    let moved_gone : MovedGone V S = λ b m. grind (arith, nat_tests, h.moved_gone b m, h.moves_table b m, h.table_born m.proc b) in
    let whole_names : WholeNames V S = λ q i d. grind (arith, nat_tests, h.whole_names q i d) in
    let marks_table : MarksTable V S = λ b m. grind (arith, nat_tests, h.marks_table b m) in
    let moves_table : MovesTable V S = λ b m. grind (arith, nat_tests, h.moves_table b m) in
    let forks_table : ForksTable V S = λ b i fork. grind (arith, nat_tests, h.forks_table b i fork) in
    let forks_structure : ForksStructure V S = fork_after (λ b k. s.structure k.proc ≡ Some b) v.forks a next (h.forks_structure a before mine) (λ b k other. h.forks_structure b k) in
    let table_held : TableHeld V S = λ q b. grind (arith, nat_tests, h.table_held q b) in
    let structure_held : StructureHeld V S = λ q b. grind (arith, nat_tests, h.structure_held q b) in
    let table_born : TableBorn V S = λ q b. grind (arith, nat_tests, h.table_born q b) in
    let fork_parent : ForkParent V S = fork_after (λ b k. s.birth k.proc ≡ born) v.forks a next lives (λ b k other. h.fork_parent b k) in
    let fork_birth : ForkBirth V S = fork_after (λ b k. s.birth k.child ≡ birth_of_child k) v.forks a next grows (λ b k other. h.fork_birth b k) in
    let growing_forked : GrowingForked V S = λ x q b. grind (arith, nat_tests, h.growing_forked x q b) in
    let fork_odd : ForkOdd V S = fork_after (λ b k. is_odd (s.sequence k.proc) ≡ not (is_failing k.step)) v.forks a next (h.fork_odd a before mine) (λ b k other. h.fork_odd b k) in
    let own_names : OwnNames V S = λ q i o d. grind (arith, nat_tests, h.own_names q i o d) in
    let own_entry : OwnEntry V S = λ u q i o. grind (arith, nat_tests, h.own_entry u q i o, h.names_alone c page q i o) in
    let own_words : OwnWords V S = λ u o w. grind (arith, nat_tests, h.own_words u o w, h.own_entry u c page (s.object c page)) in
    let own_marked : OwnMarked V S = λ q i o d. grind (arith, nat_tests, h.own_marked q i o d, h.own_marking q i o a d) in
    let own_marking : OwnMarking V S = λ q i o b d. grind (arith, nat_tests, h.own_marking q i o b d) in
    let marked_own : MarkedOwn V S = λ q i d. grind (arith, nat_tests, h.marked_own q i d, h.marked_own p page e) in
    let entry_mapped : EntryMapped V S = λ q i d. grind (arith, nat_tests, h.entry_mapped q i d) in
    let entry_marked : EntryMarked V S = λ q i d. grind (arith, nat_tests, h.entry_marked q i d) in
    let entry_allowed : EntryAllowed V S = λ q i d. grind (arith, nat_tests, h.entry_allowed q i d) in
    let entry_words : EntryWords V S = λ q i w d r. grind (arith, nat_tests, h.entry_words q i w d r, h.names_alone c page q i (s.object c page), h.right_names q i r, h.entry_words p page w e r, h.names_alone c page p page (s.object c page)) in
    let untouched : Untouched V S = λ q i w r mapped empty now. let old : IsUncopiedBy v.forks q i = uncopied_before v.forks a _ q i now (λ word k is child at. grind (arith)) in grind (arith, nat_tests, λ (is : s.right q i ≡ Some r) (bare : v.whole q i ≡ None). h.untouched q i w r is bare old, h.right_names q i r mapped, h.names_alone c page q i (s.object c page)) in
    let prepared_once : PreparedOnce V S = λ b u. grind (arith, nat_tests, h.prepared_once b u, prepared_whole v s h b f p page e) in
    let prepared_zero : PreparedZero V S = λ b u w. grind (arith, nat_tests, h.prepared_zero b u w) in
    let marking_entry : MarkingEntry V S = λ b m. grind (arith, nat_tests, h.marking_entry b m, h.marks_table b m, h.table_born m.proc b) in
    let moving_once : MovingOnce V S = λ b m. grind (arith, nat_tests, h.moving_once b m, h.whole_moved b m, once_wholes v s h p page m.proc m.page e m.entry, h.moves_table b m) in
    let next_fresh : (i : ℕ) → (Contains (page ∷ done) i → ⊥) → V.whole c i ≡ None = λ i un. let either = undone_either page done i un in let old = h.fork_fresh a i before mine refl either.1 in grind (arith, nat_tests, either.0) in
    let other_fresh : (b i : ℕ) (k : Forking) → (b ≡ a → ⊥) → v.forks b ≡ Some k → is_failing k.step ≡ false → (Contains k.done i → ⊥) → V.whole k.child i ≡ None = λ b i k apart is going un. let old = h.fork_fresh b i k is going un in grind (arith, nat_tests, only_fork v s a b before k h mine is) in
    let next_copied : (i w : ℕ) → Contains (page ∷ done) i → w < words → S.copied c i w ≡ true = λ i w has below. elim (done_either page done i has) [ inl same ↦ grind (arith, nat_tests) | inr old ↦ (let was = h.fork_copied a i w before mine refl old below in grind (arith, nat_tests)) ] in
    let next_uncopied : (i w : ℕ) → (Contains (page ∷ done) i → ⊥) → w < words → S.copied c i w ≡ nat_lt w 0 = λ i w un below. let either = undone_either page done i un in let old = h.fork_uncopied a i w before mine refl either.1 below in grind (arith, nat_tests, either.0) in
    let other_copied : (b i w : ℕ) (k : Forking) → (b ≡ a → ⊥) → v.forks b ≡ Some k → S.copied k.child i w ≡ s.copied k.child i w = λ b i w k apart is. let other = only_fork v s a b before k h mine is in grind (arith, nat_tests, other) in
    let fork_fresh : ForkFresh V S = λ b i k is. elim (changed_fork v.forks a next b k is) [ inl e ↦ subst (λ (l : Forking). is_failing l.step ≡ false → (Contains l.done i → ⊥) → V.whole l.child i ≡ None) e.1 (λ going un. next_fresh i un) | inr e ↦ λ going un. other_fresh b i k e.0 e.1 going un ] in
    let fork_copied : ForkCopied V S = λ b i w k is. elim (changed_fork v.forks a next b k is) [ inl e ↦ subst (λ (l : Forking). is_failing l.step ≡ false → Contains l.done i → w < words → S.copied l.child i w ≡ true) e.1 (λ going has below. next_copied i w has below) | inr e ↦ λ going has below. other_copied b i w k e.0 e.1 ∙ h.fork_copied b i w k e.1 going has below ] in
    let fork_uncopied : ForkUncopied V S = λ b i w k is. elim (changed_fork v.forks a next b k is) [ inl e ↦ subst (λ (l : Forking). is_failing l.step ≡ false → (Contains l.done i → ⊥) → w < words → S.copied l.child i w ≡ nat_lt w (copied_words l.step i)) e.1 (λ going un below. next_uncopied i w un below) | inr e ↦ λ going un below. other_copied b i w k e.0 e.1 ∙ h.fork_uncopied b i w k e.1 going un below ] in
    let fork_undone : ForkUndone V S = λ b i. fork_after (λ b k. step_page k.step ≡ Some i → Contains k.done i → ⊥) v.forks a next (λ at. absurd (cc)) (λ b k other. h.fork_undone b i k) b in
    let fork_mapped : ForkMapped V S = λ b i. fork_after (λ b k. step_page k.step ≡ Some i → s.right k.child i ≡ None → ⊥) v.forks a next (λ at. absurd (cc)) (λ b k other. h.fork_mapped b i k) b in
    let copy_words : CopyWords V S = λ b i n w u fork. grind (arith, nat_tests, h.copy_words b i n w u fork, only_fork v s a b before fork h mine, h.fork_mapped b i fork, λ (r : Rights). h.right_names fork.child i r, h.names_alone c page fork.child i (s.object c page)) in
    let copy_there : CopyThere V S = λ b i n fork. grind (arith, nat_tests, h.copy_there b i n fork) in
    let share_handle : ShareHandle V S = λ b i j n fork d. grind (arith, nat_tests, h.share_handle b i j n fork d, h.fork_parent b fork) in
    let share_taken : ShareTaken V S = λ b i y n fork d t. grind (arith, nat_tests, h.share_taken b i y n fork d t, h.fork_parent b fork) in
    let share_lowered : ShareLowered V S = λ b i fork d. grind (arith, nat_tests, h.share_lowered b i fork d, h.fork_parent b fork) in
    let share_unowned : ShareUnowned V S = λ b i fork d. grind (arith, nat_tests, h.share_unowned b i fork d, h.fork_parent b fork) in
    let mirror_entry : MirrorEntry V S = λ m u noted. grind (arith, nat_tests, h.mirror_entry m u noted, h.mirror_born m u noted) in
    let fork_alone : ForkAlone V S = alone_next v.forks a before next mine refl h.fork_alone in
    let fork_left : ForkLeft V S = left_next v.forks a next S.entry refl (left_growing v s c p page (Some (entry_of f false)) h grows) in
    let sound : IsSoundBy V S = assumption in
    record { sound = (V, sound); can = (page_forks v s p c page h grows mapped, λ w inside. h.fork_uncopied a page w before mine refl undone inside ∙ none_before w); same = ap (λ (x : ℕ × ℕ). record (plain_of s) { content = put x.1 (spread 0 words (s.content x.0) (s.content x.1)) s.content; copied = put2 c page (spread 0 words (λ _. true) (s.copied c page)) s.copied }) (sym (shown_same v s p c page h grows mapped)) }

-- a page without an entry has zeros, and so has its child
pub simulates-pass_page : (s : CoreState) (a p c : ℕ) (done : List ℕ) (page : ℕ) → IsSound s → Can s (pass_page a p c done page) → Simulates s (pass_page a p c done page)
simulates-pass_page s a p c done page (v, h) can =
    let S : CoreState = happens s (pass_page a p c done page) in
    let V : View = record v { forks = put a (Some (record { proc = p; child = c; done = page ∷ done; step = between })) v.forks } in
    let before : Forking = record { proc = p; child = c; done = done; step = between } in
    let mine : v.forks a ≡ Some before = fork_here v s a p c done between h can.0 in
    let next : Forking = record { proc = p; child = c; done = page ∷ done; step = between } in
    let lives : s.birth p ≡ born = h.fork_parent a before mine in
    let grows : s.birth c ≡ growing p = h.fork_birth a before mine in
    let still : v.moves a ≡ None = h.moves_are a ∙ ap moving_of can.0 in
    let unmarking : v.marks a ≡ None = h.marks_are a ∙ ap marking_of can.0 in
    let undone : is_done done page → ⊥ = can.3 in
    let empty : v.whole c page ≡ None = h.fork_fresh a page before mine refl undone in
    let bare : v.whole p page ≡ None = whole_none v s h p page can.1 can.4 in
    let some : IsSome (s.right c page) = can.2 in
    let mapped : s.right c page ≡ None → ⊥ = λ none. absurd (cc) in
    let names_to : v.names c page ≡ Some (s.object c page) = child_names v s c page h mapped in
    let rights : s.right c page ≡ s.right p page = h.growing_rights c p page grows in
    let zero_words : (w : ℕ) (r : Rights) → s.right p page ≡ Some r → w < words → s.content (s.object p page) w ≡ 0 = λ w r is inside. h.untouched p page w r is bare (born_uncopied v s p page h lives) inside in
    let named : v.names p page ≡ Some (s.object p page) = child_names v s p page h (λ none. mapped (rights ∙ none)) in
    let marks_are : MarksAre V S = λ b. grind (arith, nat_tests, h.marks_are b) in
    let moves_are : MovesAre V S = λ b. grind (arith, nat_tests, h.moves_are b) in
    let forks_are : ForksAre V S = λ b. grind (arith, nat_tests, h.forks_are b) in
    let walks_are : WalksAre V S = λ b. grind (arith, nat_tests, h.walks_are b) in
    let forks_table : ForksTable V S = λ b i. fork_after (λ b k. step_page k.step ≡ Some i → s.table k.proc ≡ Some b) v.forks a next (λ at. absurd (cc)) (λ b k other. h.forks_table b i k) b in
    let forks_structure : ForksStructure V S = fork_after (λ b k. s.structure k.proc ≡ Some b) v.forks a next (h.forks_structure a before mine) (λ b k other. h.forks_structure b k) in
    let table_held : TableHeld V S = λ q b. grind (arith, nat_tests, h.table_held q b) in
    let structure_held : StructureHeld V S = λ q b. grind (arith, nat_tests, h.structure_held q b) in
    let fork_parent : ForkParent V S = fork_after (λ b k. s.birth k.proc ≡ born) v.forks a next lives (λ b k other. h.fork_parent b k) in
    let fork_birth : ForkBirth V S = fork_after (λ b k. s.birth k.child ≡ birth_of_child k) v.forks a next grows (λ b k other. h.fork_birth b k) in
    let growing_forked : GrowingForked V S = λ x q b. grind (arith, nat_tests, h.growing_forked x q b) in
    let fork_odd : ForkOdd V S = fork_after (λ b k. is_odd (s.sequence k.proc) ≡ not (is_failing k.step)) v.forks a next (h.fork_odd a before mine) (λ b k other. h.fork_odd b k) in
    let own_words : OwnWords V S = λ u o w. grind (arith, nat_tests, h.own_words u o w, h.own_entry u c page (s.object c page)) in
    let entry_words : EntryWords V S = λ q i w d r. grind (arith, nat_tests, h.entry_words q i w d r, h.names_alone c page q i (s.object c page), h.right_names q i r) in
    let untouched : Untouched V S = λ q i w r there none now. let old : IsUncopiedBy v.forks q i = uncopied_before v.forks a _ q i now (λ word k is child at. grind (arith)) in grind (arith, nat_tests, λ (is : s.right q i ≡ Some r) (bare : v.whole q i ≡ None). h.untouched q i w r is bare old, h.right_names q i r there, h.names_alone c page q i (s.object c page), h.names_alone c page p page (s.object c page), zero_words w r) in
    let prepared_zero : PreparedZero V S = λ b u w. grind (arith, nat_tests, h.prepared_zero b u w) in
    let next_fresh : (i : ℕ) → (Contains (page ∷ done) i → ⊥) → V.whole c i ≡ None = λ i un. let either = undone_either page done i un in let old = h.fork_fresh a i before mine refl either.1 in old in
    let other_fresh : (b i : ℕ) (k : Forking) → (b ≡ a → ⊥) → v.forks b ≡ Some k → is_failing k.step ≡ false → (Contains k.done i → ⊥) → V.whole k.child i ≡ None = λ b i k apart is going un. h.fork_fresh b i k is going un in
    let next_copied : (i w : ℕ) → Contains (page ∷ done) i → w < words → S.copied c i w ≡ true = λ i w has below. elim (done_either page done i has) [ inl same ↦ grind (arith, nat_tests) | inr old ↦ (let was = h.fork_copied a i w before mine refl old below in grind (arith, nat_tests)) ] in
    let next_uncopied : (i w : ℕ) → (Contains (page ∷ done) i → ⊥) → w < words → S.copied c i w ≡ nat_lt w 0 = λ i w un below. let either = undone_either page done i un in let old = h.fork_uncopied a i w before mine refl either.1 below in grind (arith, nat_tests, either.0) in
    let other_copied : (b i w : ℕ) (k : Forking) → (b ≡ a → ⊥) → v.forks b ≡ Some k → S.copied k.child i w ≡ s.copied k.child i w = λ b i w k apart is. let other = only_fork v s a b before k h mine is in grind (arith, nat_tests, other) in
    let fork_fresh : ForkFresh V S = λ b i k is. elim (changed_fork v.forks a next b k is) [ inl e ↦ subst (λ (l : Forking). is_failing l.step ≡ false → (Contains l.done i → ⊥) → V.whole l.child i ≡ None) e.1 (λ going un. next_fresh i un) | inr e ↦ λ going un. other_fresh b i k e.0 e.1 going un ] in
    let fork_copied : ForkCopied V S = λ b i w k is. elim (changed_fork v.forks a next b k is) [ inl e ↦ subst (λ (l : Forking). is_failing l.step ≡ false → Contains l.done i → w < words → S.copied l.child i w ≡ true) e.1 (λ going has below. next_copied i w has below) | inr e ↦ λ going has below. other_copied b i w k e.0 e.1 ∙ h.fork_copied b i w k e.1 going has below ] in
    let fork_uncopied : ForkUncopied V S = λ b i w k is. elim (changed_fork v.forks a next b k is) [ inl e ↦ subst (λ (l : Forking). is_failing l.step ≡ false → (Contains l.done i → ⊥) → w < words → S.copied l.child i w ≡ nat_lt w (copied_words l.step i)) e.1 (λ going un below. next_uncopied i w un below) | inr e ↦ λ going un below. other_copied b i w k e.0 e.1 ∙ h.fork_uncopied b i w k e.1 going un below ] in
    let fork_undone : ForkUndone V S = λ b i. fork_after (λ b k. step_page k.step ≡ Some i → Contains k.done i → ⊥) v.forks a next (λ at. absurd (cc)) (λ b k other. h.fork_undone b i k) b in
    let fork_mapped : ForkMapped V S = λ b i. fork_after (λ b k. step_page k.step ≡ Some i → s.right k.child i ≡ None → ⊥) v.forks a next (λ at. absurd (cc)) (λ b k other. h.fork_mapped b i k) b in
    let copy_words : CopyWords V S = λ b i n w u fork. grind (arith, nat_tests, h.copy_words b i n w u fork, only_fork v s a b before fork h mine, h.fork_mapped b i fork, λ (r : Rights). h.right_names fork.child i r, h.names_alone c page fork.child i (s.object c page)) in
    let copy_there : CopyThere V S = λ b i n fork. grind (arith, nat_tests, h.copy_there b i n fork) in
    let share_handle : ShareHandle V S = λ b i j n k d. fork_after (λ b k. shared_page k.step ≡ Some i → v.whole k.proc i ≡ Some d → slice_get (s.pinned j) n ≡ Some d.frame → ⊥) v.forks a next (λ at. absurd (cc)) (λ b k other was. h.share_handle b i j n k d was) b k in
    let share_taken : ShareTaken V S = λ b i y n k d t. fork_after (λ b k. shared_page k.step ≡ Some i → v.whole k.proc i ≡ Some d → slice_get (s.taken y) n ≡ Some t → is_open (v.walks y) ≡ false → t.frame ≡ d.frame → ⊥) v.forks a next (λ at. absurd (cc)) (λ b k other was. h.share_taken b i y n k d t was) b k in
    let share_lowered : ShareLowered V S = λ b i k d. fork_after (λ b k. lowered_page k.step ≡ Some i → v.whole k.proc i ≡ Some d → d.writable ≡ false) v.forks a next (λ at. absurd (cc)) (λ b k other was. h.share_lowered b i k d was) b k in
    let share_unowned : ShareUnowned V S = λ b i k d. fork_after (λ b k. k.step ≡ cleared i → v.whole k.proc i ≡ Some d → s.own d.frame ≡ None) v.forks a next (λ at. absurd (cc)) (λ b k other was. h.share_unowned b i k d was) b k in
    let fork_alone : ForkAlone V S = alone_next v.forks a before next mine refl h.fork_alone in
    let fork_left : ForkLeft V S = left_next v.forks a next s.entry refl h.fork_left in
    let sound : IsSoundBy V S = assumption in
    record { sound = (V, sound); can = (page_forks v s p c page h grows mapped, λ w inside. h.fork_uncopied a page w before mine refl undone inside ∙ none_before w); same = ap (λ (x : ℕ × ℕ). record (plain_of s) { content = put x.1 (spread 0 words (s.content x.0) (s.content x.1)) s.content; copied = put2 c page (spread 0 words (λ _. true) (s.copied c page)) s.copied }) (sym (shown_same v s p c page h grows mapped)) }
