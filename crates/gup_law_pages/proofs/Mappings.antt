-- The events of mappings: pages are mapped, protected, dropped and emptied, and entries made read-only.
use Rattle.std.proofs.Common.{◌≡◌, ℕ, ◌+◌, ◌-◌, ◌<◌, true, false, refl, ap, subst, arith}
use Rattle.std.specs.Prelude.{Option, Some, None, IsSome}
use Rattle.std.specs.Option.{option_map}
use Rattle.std.proofs.lemmas.Bool.Decides.{nat_tests}
use Rattle.gup_base.specs.declared.entry.Entry.{Entry}
use Rattle.gup_base.specs.declared.entry.Rights.{Rights}
use Rattle.gup_base.specs.declared.entry.Rights.TheVariants.{RW}
use Rattle.gup_plain.specs.Put.{put, put2, spread, within}
use Rattle.gup_plain.specs.State.{born, failed}
use Rattle.gup_spec_events.specs.State.{CoreState, plain_of}
use Rattle.gup_spec_events.specs.Event.{Can, happens, entry_of, map_pages, lower_entry, protect_pages, drop_entry, discard_entry}
use Rattle.gup_spec_events.specs.Invariant.{frame_of}
use Rattle.gup_law_base.specs.Sound.{View, IsSoundBy, IsSound, Simulates}
use Rattle.gup_law_base.proofs.Clauses.{References, WholeEntry, WholeMoved, WholeFree, WholeKept, WholeOther, MovedGone, RightNames, WholeNames, NamesObject, GrowingRights, UnbornUnmapped, FailedUnmapped, OwnMade, OwnNames, OwnEntry, OwnWords, OwnMarked, OwnMarking, MarkedOwn, EntryMapped, EntryMarked, EntryAllowed, EntryWords, Untouched, NamesAlone, NamesMade, RightNumbered, HandleFlag, TakenMade, TakenNames, MarkingEntry, MarkingOwn, ForkFresh, ForkMapped, CopyWords, ShareHandle, ShareTaken, ShareLowered, ShareUnowned, MirrorEntry, MirrorNames, ForkLeft}
use Rattle.gup_law_base.proofs.FailedChildren.{left_born}
use Rattle.gup_law_base.proofs.Tally.{tally_is, tally_entry, tally_owed}
use Rattle.gup_law_base.proofs.NamedObjects.{by_pages}
use Rattle.gup_law_base.proofs.Children.{no_child, copied_made}

-- pages without rights, of a born process, have no entries
unmapped_empty : (v : View) (s : CoreState) (p page n : ℕ) → IsSoundBy v s → s.birth p ≡ born → ((k : ℕ) → k < n → s.right p (page + k) ≡ None) → (g : ℕ) (e : Entry) → v.whole p g ≡ Some e → within page n g ≡ true → ⊥
unmapped_empty v s p page n h is_born none g e there inside =
    let k : g - page < n = grind (arith, nat_tests) in
    let same : page + (g - page) ≡ g = grind (arith, nat_tests) in
    let gone : s.right p g ≡ None = subst (λ i. s.right p i ≡ None) same (none (g - page) k) in
    let lost : s.birth p ≡ failed = h.entry_mapped p g e there gone in
    cc

-- the pages had no entries, and their objects are new
pub simulates-map_pages : (s : CoreState) (a p page n : ℕ) (rights : Rights) → IsSound s → Can s (map_pages a p page n rights) → Simulates s (map_pages a p page n rights)
simulates-map_pages s a p page n rights (v, h) c =
    let S : CoreState = happens s (map_pages a p page n rights) in
    let V : View = record v { names = put p (spread page n (λ g. Some (s.made + (g - page))) (v.names p)) v.names } in
    let empty : (g : ℕ) (e : Entry) → v.whole p g ≡ Some e → within page n g ≡ true → ⊥ = unmapped_empty v s p page n h c.0 c.3 in
    let right_names : RightNames V S = λ q i r. grind (arith, nat_tests, h.right_names q i r) in
    let whole_names : WholeNames V S = λ q i d. grind (arith, nat_tests, h.whole_names q i d, empty i d) in
    let names_object : NamesObject V S = λ q i o. grind (arith, nat_tests, h.names_object q i o) in
    let growing_rights : GrowingRights V S = λ x q i. grind (arith, nat_tests, h.growing_rights x q i, h.growing_locked x q) in
    let unborn_unmapped : UnbornUnmapped V S = λ q i. grind (arith, nat_tests, h.unborn_unmapped q i) in
    let failed_unmapped : FailedUnmapped V S = λ q i. grind (arith, nat_tests, h.failed_unmapped q i) in
    let own_made : OwnMade V S = λ u o. grind (arith, nat_tests, h.own_made u o) in
    let own_names : OwnNames V S = λ q i o d. grind (arith, nat_tests, h.own_names q i o d, empty i d) in
    let own_entry : OwnEntry V S = λ u q i o. grind (arith, nat_tests, h.own_entry u q i o, h.own_made u o) in
    let own_words : OwnWords V S = λ u o w. grind (arith, nat_tests, h.own_words u o w, h.own_made u o) in
    let marked_own : MarkedOwn V S = λ q i d. grind (arith, nat_tests, h.marked_own q i d, empty i d) in
    let entry_mapped : EntryMapped V S = λ q i d. grind (arith, nat_tests, h.entry_mapped q i d) in
    let entry_allowed : EntryAllowed V S = λ q i d. grind (arith, nat_tests, h.entry_allowed q i d) in
    let entry_words : EntryWords V S = λ q i w d r. grind (arith, nat_tests, h.entry_words q i w d r, h.right_names q i r, h.names_made q i (s.object q i), empty i d) in
    let untouched : Untouched V S = λ q i w r. grind (arith, nat_tests, h.untouched q i w r, h.right_names q i r, h.names_made q i (s.object q i)) in
    let names_alone : NamesAlone V S = λ q i x j o. grind (arith, nat_tests, h.names_alone q i x j o, h.names_made q i o, h.names_made x j o) in
    let names_made : NamesMade V S = λ q i o. grind (arith, nat_tests, h.names_made q i o) in
    let right_numbered : RightNumbered V S = λ q i r. grind (arith, nat_tests, h.right_numbered q i r) in
    let handle_flag : HandleFlag V S = λ j n u o q i. grind (arith, nat_tests, h.handle_flag j n u o q i, h.own_made u o) in
    let taken_made : TakenMade V S = λ b n t. grind (arith, nat_tests, h.taken_made b n t) in
    let taken_names : TakenNames V S = λ b n q i t. grind (arith, nat_tests, h.taken_names b n q i t, h.taken_made b n t) in
    let marking_own : MarkingOwn V S = λ b m. grind (arith, nat_tests, h.marking_own b m, h.marking_entry b m, λ (e : Entry). empty m.page e) in
    let fork_mapped : ForkMapped V S = λ b i fork. grind (arith, nat_tests, h.fork_mapped b i fork) in
    let copy_words : CopyWords V S = λ b i n w u fork. grind (arith, nat_tests, h.copy_words b i n w u fork, copied_made v s b i n fork h, no_child v s p b fork h c.0) in
    let mirror_names : MirrorNames V S = λ m u noted. grind (arith, nat_tests, h.mirror_names m u noted, h.mirror_entry m u noted, h.whole_entry noted.proc noted.page, λ (e : Entry). empty noted.page e) in
    let sound : IsSoundBy V S = assumption in
    record { sound = (V, sound); can = (c.0, c.2, c.3, c.4); same = ap (λ (o : ℕ → ℕ → ℕ). record (plain_of S) { object = o }) (by_pages (λ q g. grind (arith, nat_tests))) }

-- the entry keeps its frame
pub simulates-lower_entry : (s : CoreState) (a p page f : ℕ) → IsSound s → Can s (lower_entry a p page f) → Simulates s (lower_entry a p page f)
simulates-lower_entry s a p page f (v, h) c =
    let S : CoreState = happens s (lower_entry a p page f) in
    let V : View = record v { whole = put2 p page (Some (entry_of f false)) v.whole } in
    let e : Entry = entry_of f true in
    let free : s.table p ≡ None = c.1.1 in
    let here : s.entry p page ≡ Some e = c.2 in
    let there : v.whole p page ≡ Some e = h.whole_entry p page e here in
    let references : References V S = tally_is _ _ _ (tally_entry _ _ _ _ _ _ _ _ p page (Some (entry_of f false)) h.references) (λ d. grind (arith, nat_tests)) in
    let whole_entry : WholeEntry V S = λ q i d. grind (arith, nat_tests, h.whole_entry q i d) in
    let whole_moved : WholeMoved V S = λ b m. grind (arith, nat_tests, h.whole_moved b m, h.moves_table b m) in
    let whole_free : WholeFree V S = λ q i d. grind (arith, nat_tests, h.whole_free q i d) in
    let whole_kept : WholeKept V S = λ q i b d. grind (arith, nat_tests, h.whole_kept q i b d) in
    let whole_other : WholeOther V S = λ q i b d m. grind (arith, nat_tests, h.whole_other q i b d m) in
    let moved_gone : MovedGone V S = λ b m. grind (arith, nat_tests, h.moved_gone b m, h.moves_table b m) in
    let whole_names : WholeNames V S = λ q i d. grind (arith, nat_tests, h.whole_names q i d, h.whole_names p page e) in
    let own_names : OwnNames V S = λ q i o d. grind (arith, nat_tests, h.own_names q i o d, h.own_names p page o e) in
    let own_entry : OwnEntry V S = λ u q i o. grind (arith, nat_tests, h.own_entry u q i o) in
    let own_marked : OwnMarked V S = λ q i o d. grind (arith, nat_tests, h.own_marked q i o d, h.own_marked p page o e) in
    let own_marking : OwnMarking V S = λ q i o b d. grind (arith, nat_tests, h.own_marking q i o b d, h.own_marking p page o b e) in
    let marked_own : MarkedOwn V S = λ q i d. grind (arith, nat_tests, h.marked_own q i d, h.marked_own p page e) in
    let entry_mapped : EntryMapped V S = λ q i d. grind (arith, nat_tests, h.entry_mapped q i d, h.entry_mapped p page e) in
    let entry_marked : EntryMarked V S = λ q i d. grind (arith, nat_tests, h.entry_marked q i d) in
    let entry_allowed : EntryAllowed V S = λ q i d. grind (arith, nat_tests, h.entry_allowed q i d) in
    let entry_words : EntryWords V S = λ q i w d r. grind (arith, nat_tests, h.entry_words q i w d r, h.entry_words p page w e r) in
    let untouched : Untouched V S = λ q i w r. grind (arith, nat_tests, h.untouched q i w r) in
    let marking_entry : MarkingEntry V S = λ b m. grind (arith, nat_tests, h.marking_entry b m) in
    let fork_fresh : ForkFresh V S = λ b i fork. grind (arith, nat_tests, h.fork_fresh b i fork) in
    let share_handle : ShareHandle V S = λ b i j n fork d. grind (arith, nat_tests, h.share_handle b i j n fork d, h.share_handle b i j n fork e) in
    let share_taken : ShareTaken V S = λ b i y n fork d t. grind (arith, nat_tests, h.share_taken b i y n fork d t, h.share_taken b i y n fork e t) in
    let share_lowered : ShareLowered V S = λ b i fork d. grind (arith, nat_tests, h.share_lowered b i fork d) in
    let share_unowned : ShareUnowned V S = λ b i fork d. grind (arith, nat_tests, h.share_unowned b i fork d, h.share_unowned b i fork e) in
    let mirror_entry : MirrorEntry V S = λ m u noted. grind (arith, nat_tests, h.mirror_entry m u noted) in
    let fork_left : ForkLeft V S = left_born v s p page (Some (entry_of f false)) h c.0 in
    let sound : IsSoundBy V S = assumption in
    record { sound = (V, sound); can = tt; same = refl }

protected_mapped : (s : CoreState) (p page n : ℕ) → ((k : ℕ) → k < n → IsSome (s.right p (page + k))) → (g : ℕ) → within page n g ≡ true → s.right p g ≡ None → ⊥
protected_mapped s p page n has g inside none =
    let k : g - page < n = grind (arith, nat_tests) in
    let same : page + (g - page) ≡ g = grind (arith, nat_tests) in
    let some : IsSome (s.right p g) = subst (λ i. IsSome (s.right p i)) same (has (g - page) k) in
    cc

protected_writable : (s : CoreState) (p page n : ℕ) (rights : Rights) → ((k : ℕ) (e : Entry) → k < n → s.entry p (page + k) ≡ Some e → e.writable ≡ true → rights ≡ RW) → (g : ℕ) (e : Entry) → s.entry p g ≡ Some e → within page n g ≡ true → e.writable ≡ true → rights ≡ RW
protected_writable s p page n rights has g e there inside =
    let k : g - page < n = grind (arith, nat_tests) in
    let same : g ≡ page + (g - page) = grind (arith, nat_tests) in
    has (g - page) e k (subst (λ i. s.entry p i ≡ Some e) same there)

-- where a writable entry is, the rights stay to be written
pub simulates-protect_pages : (s : CoreState) (a p page n : ℕ) (rights : Rights) → IsSound s → Can s (protect_pages a p page n rights) → Simulates s (protect_pages a p page n rights)
simulates-protect_pages s a p page n rights (v, h) c =
    let S : CoreState = happens s (protect_pages a p page n rights) in
    let free : s.table p ≡ None = c.1.1 in
    let mapped : (g : ℕ) → within page n g ≡ true → s.right p g ≡ None → ⊥ = protected_mapped s p page n c.2 in
    let allowed : (g : ℕ) (e : Entry) → s.entry p g ≡ Some e → within page n g ≡ true → e.writable ≡ true → rights ≡ RW = protected_writable s p page n rights c.3 in
    let right_names : RightNames v S = λ q i r. grind (arith, nat_tests, h.right_names q i r, mapped i, λ (t : Rights). h.right_names q i t) in
    let growing_rights : GrowingRights v S = λ x q i. grind (arith, nat_tests, h.growing_rights x q i, h.growing_locked x q) in
    let unborn_unmapped : UnbornUnmapped v S = λ q i. grind (arith, nat_tests, h.unborn_unmapped q i) in
    let failed_unmapped : FailedUnmapped v S = λ q i. grind (arith, nat_tests, h.failed_unmapped q i) in
    let entry_mapped : EntryMapped v S = λ q i d. grind (arith, nat_tests, h.entry_mapped q i d) in
    let entry_allowed : EntryAllowed v S = λ q i d. grind (arith, nat_tests, h.entry_allowed q i d, allowed i d, h.whole_free q i d) in
    let entry_words : EntryWords v S = λ q i w d r. grind (arith, nat_tests, h.entry_words q i w d r, mapped i, λ (t : Rights). h.entry_words q i w d t) in
    let untouched : Untouched v S = λ q i w r. grind (arith, nat_tests, h.untouched q i w r, mapped i, λ (t : Rights). h.untouched q i w t) in
    let right_numbered : RightNumbered v S = λ q i r. grind (arith, nat_tests, h.right_numbered q i r, mapped i, λ (t : Rights). h.right_numbered q i t) in
    let fork_mapped : ForkMapped v S = λ b i fork. grind (arith, nat_tests, h.fork_mapped b i fork) in
    let sound : IsSoundBy v S = assumption in
    record { sound = (v, sound); can = (c.0, c.2); same = ap (λ (o : ℕ → ℕ → ℕ). record (plain_of S) { object = o }) (by_pages (λ q g. grind (arith, nat_tests, mapped g))) }

was_frame : (was : Option Entry) → option_map (λ (e : Entry). e.frame) was ≡ frame_of was
was_frame None = refl
was_frame (Some e) = refl

-- a frame that pins hold stays exclusive: nothing names its object any more
pub simulates-drop_entry : (s : CoreState) (a p page : ℕ) (was : Option Entry) → IsSound s → Can s (drop_entry a p page was) → Simulates s (drop_entry a p page was)
simulates-drop_entry s a p page was (v, h) c =
    let S : CoreState = happens s (drop_entry a p page was) in
    let V : View = record v { whole = put2 p page None v.whole; names = put2 p page None v.names } in
    let free : s.table p ≡ None = c.1.1 in
    let here : s.entry p page ≡ was = c.4 in
    let none : s.owed a ≡ None = c.5 in
    let references : References V S = tally_is _ _ _ (tally_entry _ _ _ _ _ _ _ _ p page None (tally_owed _ _ _ _ _ _ _ _ a (option_map (λ (e : Entry). e.frame) was) h.references)) (λ d. grind (arith, nat_tests, was_frame was)) in
    let whole_entry : WholeEntry V S = λ q i d. grind (arith, nat_tests, h.whole_entry q i d) in
    let whole_moved : WholeMoved V S = λ b m. grind (arith, nat_tests, h.whole_moved b m, h.moves_table b m) in
    let whole_free : WholeFree V S = λ q i d. grind (arith, nat_tests, h.whole_free q i d) in
    let whole_kept : WholeKept V S = λ q i b d. grind (arith, nat_tests, h.whole_kept q i b d) in
    let whole_other : WholeOther V S = λ q i b d m. grind (arith, nat_tests, h.whole_other q i b d m) in
    let moved_gone : MovedGone V S = λ b m. grind (arith, nat_tests, h.moved_gone b m, h.moves_table b m) in
    let right_names : RightNames V S = λ q i r. grind (arith, nat_tests, h.right_names q i r) in
    let whole_names : WholeNames V S = λ q i d. grind (arith, nat_tests, h.whole_names q i d) in
    let names_object : NamesObject V S = λ q i o. grind (arith, nat_tests, h.names_object q i o) in
    let growing_rights : GrowingRights V S = λ x q i. grind (arith, nat_tests, h.growing_rights x q i, h.growing_locked x q) in
    let unborn_unmapped : UnbornUnmapped V S = λ q i. grind (arith, nat_tests, h.unborn_unmapped q i) in
    let failed_unmapped : FailedUnmapped V S = λ q i. grind (arith, nat_tests, h.failed_unmapped q i) in
    let own_names : OwnNames V S = λ q i o d. grind (arith, nat_tests, h.own_names q i o d) in
    let own_entry : OwnEntry V S = λ u q i o. grind (arith, nat_tests, h.own_entry u q i o) in
    let own_marked : OwnMarked V S = λ q i o d. grind (arith, nat_tests, h.own_marked q i o d) in
    let own_marking : OwnMarking V S = λ q i o b d. grind (arith, nat_tests, h.own_marking q i o b d) in
    let marked_own : MarkedOwn V S = λ q i d. grind (arith, nat_tests, h.marked_own q i d) in
    let entry_mapped : EntryMapped V S = λ q i d. grind (arith, nat_tests, h.entry_mapped q i d) in
    let entry_marked : EntryMarked V S = λ q i d. grind (arith, nat_tests, h.entry_marked q i d) in
    let entry_allowed : EntryAllowed V S = λ q i d. grind (arith, nat_tests, h.entry_allowed q i d) in
    let entry_words : EntryWords V S = λ q i w d r. grind (arith, nat_tests, h.entry_words q i w d r) in
    let untouched : Untouched V S = λ q i w r. grind (arith, nat_tests, h.untouched q i w r) in
    let names_alone : NamesAlone V S = λ q i x j o. grind (arith, nat_tests, h.names_alone q i x j o) in
    let names_made : NamesMade V S = λ q i o. grind (arith, nat_tests, h.names_made q i o) in
    let right_numbered : RightNumbered V S = λ q i r. grind (arith, nat_tests, h.right_numbered q i r) in
    let handle_flag : HandleFlag V S = λ j n u o q i. grind (arith, nat_tests, h.handle_flag j n u o q i) in
    let taken_names : TakenNames V S = λ b n q i t. grind (arith, nat_tests, h.taken_names b n q i t) in
    let marking_entry : MarkingEntry V S = λ b m. grind (arith, nat_tests, h.marking_entry b m, h.marks_table b m) in
    let marking_own : MarkingOwn V S = λ b m. grind (arith, nat_tests, h.marking_own b m, h.marks_table b m) in
    let fork_fresh : ForkFresh V S = λ b i fork. grind (arith, nat_tests, h.fork_fresh b i fork) in
    let fork_mapped : ForkMapped V S = λ b i fork. grind (arith, nat_tests, h.fork_mapped b i fork, no_child v s p b fork h c.0) in
    let share_handle : ShareHandle V S = λ b i j n fork d. grind (arith, nat_tests, h.share_handle b i j n fork d) in
    let share_taken : ShareTaken V S = λ b i y n fork d t. grind (arith, nat_tests, h.share_taken b i y n fork d t) in
    let share_lowered : ShareLowered V S = λ b i fork d. grind (arith, nat_tests, h.share_lowered b i fork d) in
    let share_unowned : ShareUnowned V S = λ b i fork d. grind (arith, nat_tests, h.share_unowned b i fork d) in
    let mirror_entry : MirrorEntry V S = λ m u noted. grind (arith, nat_tests, h.mirror_entry m u noted, c.6 m noted) in
    let mirror_names : MirrorNames V S = λ m u noted. grind (arith, nat_tests, h.mirror_names m u noted, c.6 m noted) in
    let fork_left : ForkLeft V S = left_born v s p page None h c.0 in
    let sound : IsSoundBy V S = assumption in
    record { sound = (V, sound); can = (c.0, c.3); same = ap (λ (o : ℕ → ℕ → ℕ). record (plain_of S) { object = o }) (by_pages (λ q g. grind (arith, nat_tests))) }

-- the page names a new object, which no frame holds
pub simulates-discard_entry : (s : CoreState) (a p page : ℕ) (was : Option Entry) → IsSound s → Can s (discard_entry a p page was) → Simulates s (discard_entry a p page was)
simulates-discard_entry s a p page was (v, h) c =
    let S : CoreState = happens s (discard_entry a p page was) in
    let V : View = record v { whole = put2 p page None v.whole; names = put2 p page (Some s.made) v.names } in
    let free : s.table p ≡ None = c.1.1 in
    let mapped : IsSome (s.right p page) = c.3 in
    let here : s.entry p page ≡ was = c.4 in
    let none : s.owed a ≡ None = c.5 in
    let references : References V S = tally_is _ _ _ (tally_entry _ _ _ _ _ _ _ _ p page None (tally_owed _ _ _ _ _ _ _ _ a (option_map (λ (e : Entry). e.frame) was) h.references)) (λ d. grind (arith, nat_tests, was_frame was)) in
    let whole_entry : WholeEntry V S = λ q i d. grind (arith, nat_tests, h.whole_entry q i d) in
    let whole_moved : WholeMoved V S = λ b m. grind (arith, nat_tests, h.whole_moved b m, h.moves_table b m) in
    let whole_free : WholeFree V S = λ q i d. grind (arith, nat_tests, h.whole_free q i d) in
    let whole_kept : WholeKept V S = λ q i b d. grind (arith, nat_tests, h.whole_kept q i b d) in
    let whole_other : WholeOther V S = λ q i b d m. grind (arith, nat_tests, h.whole_other q i b d m) in
    let moved_gone : MovedGone V S = λ b m. grind (arith, nat_tests, h.moved_gone b m, h.moves_table b m) in
    let right_names : RightNames V S = λ q i r. grind (arith, nat_tests, h.right_names q i r) in
    let whole_names : WholeNames V S = λ q i d. grind (arith, nat_tests, h.whole_names q i d) in
    let names_object : NamesObject V S = λ q i o. grind (arith, nat_tests, h.names_object q i o) in
    let own_made : OwnMade V S = λ u o. grind (arith, nat_tests, h.own_made u o) in
    let own_names : OwnNames V S = λ q i o d. grind (arith, nat_tests, h.own_names q i o d) in
    let own_entry : OwnEntry V S = λ u q i o. grind (arith, nat_tests, h.own_entry u q i o, h.own_made u o) in
    let own_words : OwnWords V S = λ u o w. grind (arith, nat_tests, h.own_words u o w, h.own_made u o) in
    let own_marked : OwnMarked V S = λ q i o d. grind (arith, nat_tests, h.own_marked q i o d) in
    let own_marking : OwnMarking V S = λ q i o b d. grind (arith, nat_tests, h.own_marking q i o b d) in
    let marked_own : MarkedOwn V S = λ q i d. grind (arith, nat_tests, h.marked_own q i d) in
    let entry_mapped : EntryMapped V S = λ q i d. grind (arith, nat_tests, h.entry_mapped q i d) in
    let entry_marked : EntryMarked V S = λ q i d. grind (arith, nat_tests, h.entry_marked q i d) in
    let entry_allowed : EntryAllowed V S = λ q i d. grind (arith, nat_tests, h.entry_allowed q i d) in
    let entry_words : EntryWords V S = λ q i w d r. grind (arith, nat_tests, h.entry_words q i w d r, h.right_names q i r, h.names_made q i (s.object q i)) in
    let untouched : Untouched V S = λ q i w r. grind (arith, nat_tests, h.untouched q i w r, h.right_names q i r, h.names_made q i (s.object q i)) in
    let names_alone : NamesAlone V S = λ q i x j o. grind (arith, nat_tests, h.names_alone q i x j o, h.names_made q i o, h.names_made x j o) in
    let names_made : NamesMade V S = λ q i o. grind (arith, nat_tests, h.names_made q i o) in
    let handle_flag : HandleFlag V S = λ j n u o q i. grind (arith, nat_tests, h.handle_flag j n u o q i, h.own_made u o) in
    let taken_made : TakenMade V S = λ b n t. grind (arith, nat_tests, h.taken_made b n t) in
    let taken_names : TakenNames V S = λ b n q i t. grind (arith, nat_tests, h.taken_names b n q i t, h.taken_made b n t) in
    let marking_entry : MarkingEntry V S = λ b m. grind (arith, nat_tests, h.marking_entry b m, h.marks_table b m) in
    let marking_own : MarkingOwn V S = λ b m. grind (arith, nat_tests, h.marking_own b m, h.marks_table b m) in
    let fork_fresh : ForkFresh V S = λ b i fork. grind (arith, nat_tests, h.fork_fresh b i fork) in
    let copy_words : CopyWords V S = λ b i n w u fork. grind (arith, nat_tests, h.copy_words b i n w u fork, copied_made v s b i n fork h, no_child v s p b fork h c.0) in
    let share_handle : ShareHandle V S = λ b i j n fork d. grind (arith, nat_tests, h.share_handle b i j n fork d) in
    let share_taken : ShareTaken V S = λ b i y n fork d t. grind (arith, nat_tests, h.share_taken b i y n fork d t) in
    let share_lowered : ShareLowered V S = λ b i fork d. grind (arith, nat_tests, h.share_lowered b i fork d) in
    let share_unowned : ShareUnowned V S = λ b i fork d. grind (arith, nat_tests, h.share_unowned b i fork d) in
    let mirror_entry : MirrorEntry V S = λ m u noted. grind (arith, nat_tests, h.mirror_entry m u noted, c.6 m noted) in
    let mirror_names : MirrorNames V S = λ m u noted. grind (arith, nat_tests, h.mirror_names m u noted, c.6 m noted) in
    let fork_left : ForkLeft V S = left_born v s p page None h c.0 in
    let sound : IsSoundBy V S = assumption in
    record { sound = (V, sound); can = (c.0, c.3); same = ap (λ (o : ℕ → ℕ → ℕ). record (plain_of S) { object = o }) (by_pages (λ q g. grind (arith, nat_tests))) }
