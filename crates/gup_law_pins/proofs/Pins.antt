-- The events of pins, of handles and of references.
use Rattle.std.proofs.Common.{◌≡◌, ℕ, ◌+◌, ◌-◌, ◌≤◌, Bool, true, false, List, [], ◌∷◌, ◌++◌, length, refl, ap, sym, ◌∙◌, subst, arith}
use Rattle.std.specs.Prelude.{Some, None, slice_get}
use Rattle.std.proofs.lemmas.Bool.Decides.{nat_tests}
use Rattle.gup_base.specs.declared.entry.Entry.{Entry}
use Rattle.gup_plain.specs.Put.{put}
use Rattle.gup_plain.specs.State.{Pending, objects_of}
use Rattle.gup_spec_events.specs.State.{CoreState, Taken, idle, plain_of}
use Rattle.gup_spec_events.specs.Event.{Can, happens, bias, entry_of, IsNormal, IsUntaken, AreAlike, raise_flag, pin_page, make_handle, unpin_page, give_handle, take_handle, get_reference, put_reference}
use Rattle.gup_spec_events.specs.Invariant.{got_frame}
use Rattle.gup_law_base.specs.Sound.{View, is_open, IsSoundBy, IsSound, Simulates}
use Rattle.gup_law_base.proofs.Clauses.{References, CountIs, FlagBorn, OwnAlone, OwnMade, OwnNames, OwnEntry, OwnWords, OwnMarked, OwnMarking, MarkedOwn, EntryMarked, HandlePages, HandleMarked, HandleOwn, HandleFlag, HandleNormal, TakenMarked, TakenOwn, TakenMade, TakenFlag, TakenNames, TakenNormal, TakenWrite, TakenLong, TakenApart, WalkFlag, WalkEmpty, WalkProc, WalkWrite, WalkLong, WalkUntaken, WalkOwn, WalkUnowned, WalkKept, WalkLast, WalkWritable, PreparedOnce, PreparedUnmarked, PreparedUnowned, MarkingOwn, MovingOnce, ShareHandle, ShareTaken, ShareUnowned}
use Rattle.gup_law_base.proofs.Rows.{at_either, at_end, at_longer, at_within, no_rows}
use Rattle.gup_law_base.proofs.Tally.{tally_is, tally_taken, tally_pinned, tally_got}
use Rattle.gup_law_base.proofs.HolderRenames.{tally_handle}
use Rattle.gup_law_base.proofs.Steps.{shared_is_step}
use Rattle.gup_law_base.proofs.Lonely.{once_wholes, handle_counts, taken_counts, prepared_whole, born_mapped, got_counts, got_alone, got_whole, got_prepared, got_moving, pin_alone, pin_whole, pin_handle, pin_taken}
use Rattle.gup_law_base.proofs.PinLists.{all_alike, all_untaken, write_more, long_more, untold, told_more, allows, no_pages, as_many, frame_at, are_taken, told_handle, left_pages, left_objects, unpin_can, unpin_same}

-- the process is born
pub simulates-raise_flag : (s : CoreState) (a p : ℕ) → IsSound s → Can s (raise_flag a p) → Simulates s (raise_flag a p)
simulates-raise_flag s a p (v, h) c =
    let S : CoreState = happens s (raise_flag a p) in
    let flag_born : FlagBorn v S = λ q. grind (arith, nat_tests, h.flag_born q) in
    let handle_flag : HandleFlag v S = λ j n u o q i. grind (arith, nat_tests, h.handle_flag j n u o q i) in
    let taken_flag : TakenFlag v S = λ b n t. grind (arith, nat_tests, h.taken_flag b n t) in
    let walk_flag : WalkFlag v S = λ b w. grind (arith, nat_tests, h.walk_flag b w) in
    let sound : IsSoundBy v S = assumption in
    record { sound = (v, sound); can = tt; same = refl }

-- the marked frame is exclusively the page's
pub simulates-pin_page : (s : CoreState) (a p page : ℕ) (e : Entry) (write long : Bool) → IsSound s → Can s (pin_page a p page e write long) → Simulates s (pin_page a p page e write long)
simulates-pin_page s a p page e write long (v, h) c =
    let S : CoreState = happens s (pin_page a p page e write long) in
    let V : View = record v { references = put e.frame (v.references e.frame + bias) v.references } in
    let free : s.table p ≡ None = c.1.1 in
    let here : s.entry p page ≡ Some e = c.4 in
    let idles : s.job a ≡ idle = c.2.0 in
    let marked : s.mark e.frame ≡ true = c.5.0 in
    let normal : long ≡ true → IsNormal s e.frame = c.5.2 in
    let untaken : IsUntaken (s.taken a) page = c.6 in
    let alike : AreAlike (s.taken a) write long = c.7 in
    let there : v.whole p page ≡ Some e = h.whole_entry p page e here in
    let named : v.names p page ≡ Some (s.object p page) = h.whole_names p page e there in
    let owns : s.own e.frame ≡ Some (s.object p page) = h.marked_own p page e there marked ∙ named in
    let unwalked : v.walks a ≡ None = grind (arith, h.walks_are a) in
    let new : Taken = record { proc = p; page = page; frame = e.frame; object = s.object p page; write = write; long = long } in
    let references : References V S = tally_is _ _ _ (tally_taken _ _ _ _ _ _ _ _ a new h.references) (λ d. grind (arith, nat_tests)) in
    let count_is : CountIs V S = λ u. grind (arith, nat_tests, h.count_is u) in
    let taken_marked : TakenMarked V S = λ b n t. grind (arith, nat_tests, h.taken_marked b n t, at_either (s.taken a) new n t) in
    let taken_own : TakenOwn V S = λ b n t. grind (arith, nat_tests, h.taken_own b n t, at_either (s.taken a) new n t) in
    let taken_made : TakenMade V S = λ b n t. grind (arith, nat_tests, h.taken_made b n t, at_either (s.taken a) new n t, h.names_made p page (s.object p page)) in
    let taken_flag : TakenFlag V S = λ b n t. grind (arith, nat_tests, h.taken_flag b n t, at_either (s.taken a) new n t) in
    let taken_names : TakenNames V S = λ b n q i t. grind (arith, nat_tests, h.taken_names b n q i t, at_either (s.taken a) new n t, h.names_alone q i p page (s.object p page)) in
    let taken_normal : TakenNormal V S = λ b n t. grind (arith, nat_tests, h.taken_normal b n t, at_either (s.taken a) new n t) in
    let taken_write : TakenWrite V S = λ b n t. grind (arith, nat_tests, h.taken_write b n t, at_either (s.taken a) new n t, all_alike (s.taken a) n t write long alike, write_more (s.taken a) new long alike) in
    let taken_long : TakenLong V S = λ b n t. grind (arith, nat_tests, h.taken_long b n t, at_either (s.taken a) new n t, all_alike (s.taken a) n t write long alike, long_more (s.taken a) new write alike) in
    let taken_apart : TakenApart V S = λ b n o t y. grind (arith, nat_tests, h.taken_apart b n o t y, at_either (s.taken a) new n t, at_either (s.taken a) new o y, all_untaken (s.taken a) n t page untaken, all_untaken (s.taken a) o y page untaken) in
    let walk_empty : WalkEmpty V S = λ b n w t. grind (arith, nat_tests, h.walk_empty b n w t) in
    let walk_proc : WalkProc V S = λ b n w t. grind (arith, nat_tests, h.walk_proc b n w t) in
    let walk_write : WalkWrite V S = λ b n w t. grind (arith, nat_tests, h.walk_write b n w t) in
    let walk_long : WalkLong V S = λ b n w t. grind (arith, nat_tests, h.walk_long b n w t) in
    let walk_untaken : WalkUntaken V S = λ b n i w t. grind (arith, nat_tests, h.walk_untaken b n i w t) in
    let walk_own : WalkOwn V S = λ b n o w t. grind (arith, nat_tests, h.walk_own b n o w t) in
    let walk_unowned : WalkUnowned V S = λ b n w t. grind (arith, nat_tests, h.walk_unowned b n w t) in
    let walk_kept : WalkKept V S = λ b n w t. grind (arith, nat_tests, h.walk_kept b n w t) in
    let walk_last : WalkLast V S = λ b n w t d. grind (arith, nat_tests, h.walk_last b n w t d) in
    let walk_writable : WalkWritable V S = λ b n w t d. grind (arith, nat_tests, h.walk_writable b n w t d) in
    let prepared_once : PreparedOnce V S = λ b u. grind (arith, nat_tests, h.prepared_once b u, prepared_whole v s h b u p page e) in
    let moving_once : MovingOnce V S = λ b m. grind (arith, nat_tests, h.moving_once b m, h.whole_moved b m, once_wholes v s h m.proc m.page p page m.entry e, h.moves_table b m) in
    let share_taken : ShareTaken V S = λ b i y n fork d t. grind (arith, nat_tests, h.share_taken b i y n fork d t, at_either (s.taken y) new n t, h.own_names fork.proc i (s.object p page) d, h.names_alone fork.proc i p page (s.object p page), h.forks_table b i fork, shared_is_step fork.step i) in
    let sound : IsSoundBy V S = assumption in
    record { sound = (V, sound); can = (c.0, allows v s h p page e write c.0 there c.5.1, untold (s.taken a) page untaken); same = ap (λ (x : ℕ → List Pending). record (plain_of s) { pending = x }) (told_more s a p page new (born_mapped v s h p page e c.0 there)) }

-- what was taken is settled as before
pub simulates-make_handle : (s : CoreState) (a k : ℕ) → IsSound s → Can s (make_handle a k) → Simulates s (make_handle a k)
simulates-make_handle s a k (v, h) c =
    let S : CoreState = happens s (make_handle a k) in
    let ts : List Taken = s.taken a in
    let idles : s.job a ≡ idle = c.0 in
    let unwalked : v.walks a ≡ None = grind (arith, h.walks_are a) in
    let closed : is_open (v.walks a) ≡ false = ap is_open unwalked in
    let none : s.pinned k ≡ [] = no_rows (s.pinned k) (no_pages v s h k c.1) in
    let references : References v S = tally_handle _ _ _ _ _ _ _ _ a k none h.references in
    let handle_pages : HandlePages v S = λ j. grind (arith, nat_tests, h.handle_pages j, as_many ts) in
    let handle_marked : HandleMarked v S = λ j n u. grind (arith, nat_tests, h.handle_marked j n u, frame_at ts n u, λ (t : Taken). h.taken_marked a n t) in
    let handle_own : HandleOwn v S = λ j n u. grind (arith, nat_tests, h.handle_own j n u, frame_at ts n u, λ (t : Taken). h.taken_own a n t) in
    let handle_flag : HandleFlag v S = λ j n u o q i. grind (arith, nat_tests, h.handle_flag j n u o q i, frame_at ts n u, λ (t : Taken). h.taken_own a n t, λ (t : Taken). h.taken_names a n q i t, λ (t : Taken). h.taken_flag a n t) in
    let handle_normal : HandleNormal v S = λ j n u. grind (arith, nat_tests, h.handle_normal j n u, frame_at ts n u, λ (t : Taken). h.taken_normal a n t, λ (t : Taken). h.taken_long a n t) in
    let taken_marked : TakenMarked v S = λ b n t. grind (arith, nat_tests, h.taken_marked b n t) in
    let taken_own : TakenOwn v S = λ b n t. grind (arith, nat_tests, h.taken_own b n t) in
    let taken_made : TakenMade v S = λ b n t. grind (arith, nat_tests, h.taken_made b n t) in
    let taken_flag : TakenFlag v S = λ b n t. grind (arith, nat_tests, h.taken_flag b n t) in
    let taken_names : TakenNames v S = λ b n q i t. grind (arith, nat_tests, h.taken_names b n q i t) in
    let taken_normal : TakenNormal v S = λ b n t. grind (arith, nat_tests, h.taken_normal b n t) in
    let taken_write : TakenWrite v S = λ b n t. grind (arith, nat_tests, h.taken_write b n t) in
    let taken_long : TakenLong v S = λ b n t. grind (arith, nat_tests, h.taken_long b n t) in
    let taken_apart : TakenApart v S = λ b n o t y. grind (arith, nat_tests, h.taken_apart b n o t y) in
    let walk_empty : WalkEmpty v S = λ b n w t. grind (arith, nat_tests, h.walk_empty b n w t) in
    let walk_proc : WalkProc v S = λ b n w t. grind (arith, nat_tests, h.walk_proc b n w t) in
    let walk_write : WalkWrite v S = λ b n w t. grind (arith, nat_tests, h.walk_write b n w t) in
    let walk_long : WalkLong v S = λ b n w t. grind (arith, nat_tests, h.walk_long b n w t) in
    let walk_untaken : WalkUntaken v S = λ b n i w t. grind (arith, nat_tests, h.walk_untaken b n i w t) in
    let walk_own : WalkOwn v S = λ b n o w t. grind (arith, nat_tests, h.walk_own b n o w t) in
    let walk_unowned : WalkUnowned v S = λ b n w t. grind (arith, nat_tests, h.walk_unowned b n w t) in
    let walk_kept : WalkKept v S = λ b n w t. grind (arith, nat_tests, h.walk_kept b n w t) in
    let walk_last : WalkLast v S = λ b n w t d. grind (arith, nat_tests, h.walk_last b n w t d) in
    let walk_writable : WalkWritable v S = λ b n w t d. grind (arith, nat_tests, h.walk_writable b n w t d) in
    let share_handle : ShareHandle v S = λ b i j n fork d. grind (arith, nat_tests, h.share_handle b i j n fork d, frame_at ts n d.frame, λ (t : Taken). h.share_taken b i a n fork d t) in
    let share_taken : ShareTaken v S = λ b i y n fork d t. grind (arith, nat_tests, h.share_taken b i y n fork d t) in
    let sound : IsSoundBy v S = assumption in
    record { sound = (v, sound); can = (c.1, are_taken ts c.2 (h.taken_write a)); same = told_handle s a k }

-- at its last reference a frame is in no entry and under no pin
pub simulates-unpin_page : (s : CoreState) (a k f : ℕ) (left : List ℕ) → IsSound s → Can s (unpin_page a k f left) → Simulates s (unpin_page a k f left)
simulates-unpin_page s a k f left (v, h) c =
    let S : CoreState = happens s (unpin_page a k f left) in
    let V : View = record v { references = put f (v.references f - bias) v.references } in
    let had : s.pinned k ≡ left ++ f ∷ [] = c.1 in
    let last : slice_get (s.pinned k) (length left) ≡ Some f = subst (λ (xs : List ℕ). slice_get xs (length left) ≡ Some f) (sym had) (at_end left f) in
    let counts : bias ≤ v.references f = handle_counts v s h k (length left) f last in
    let lone : s.count f ≡ bias → v.references f ≡ bias = λ all. (pin_alone v s h k (length left) f last all).0 in
    let fewer : length (left ++ f ∷ []) ≤ length (objects_of (s.handle k)) = subst (λ (xs : List ℕ). length xs ≤ length (objects_of (s.handle k))) had (h.handle_pages k) in
    let stay = λ (n u : ℕ) (is : slice_get left n ≡ Some u). subst (λ (xs : List ℕ). slice_get xs n ≡ Some u) (sym had) (at_longer left f n u is) in
    let references : References V S = tally_is _ _ _ (tally_pinned _ _ _ _ _ _ _ _ k f left had h.references) (λ d. grind (arith, nat_tests)) in
    let count_is : CountIs V S = λ u. grind (arith, nat_tests, h.count_is u) in
    let own_alone : OwnAlone V S = λ u i o. grind (arith, nat_tests, h.own_alone u i o) in
    let own_made : OwnMade V S = λ u o. grind (arith, nat_tests, h.own_made u o) in
    let own_names : OwnNames V S = λ q i o d. grind (arith, nat_tests, h.own_names q i o d) in
    let own_entry : OwnEntry V S = λ u q i o. grind (arith, nat_tests, h.own_entry u q i o) in
    let own_words : OwnWords V S = λ u o w. grind (arith, nat_tests, h.own_words u o w) in
    let own_marked : OwnMarked V S = λ q i o d. grind (arith, nat_tests, h.own_marked q i o d) in
    let own_marking : OwnMarking V S = λ q i o b d. grind (arith, nat_tests, h.own_marking q i o b d) in
    let marked_own : MarkedOwn V S = λ q i d. grind (arith, nat_tests, h.marked_own q i d) in
    let entry_marked : EntryMarked V S = λ q i d. grind (arith, nat_tests, h.entry_marked q i d, pin_whole v s h k (length left) f q i d last) in
    let handle_pages : HandlePages V S = λ j. grind (arith, nat_tests, h.handle_pages j, left_pages left f (s.handle k) fewer) in
    let handle_marked : HandleMarked V S = λ j n u. grind (arith, nat_tests, h.handle_marked j n u, stay n u, at_within left n u, pin_handle v s h k (length left) j n f last) in
    let handle_own : HandleOwn V S = λ j n u. grind (arith, nat_tests, h.handle_own j n u, stay n u, at_within left n u, pin_handle v s h k (length left) j n f last, left_objects left n u (s.handle k)) in
    let handle_flag : HandleFlag V S = λ j n u o q i. grind (arith, nat_tests, h.handle_flag j n u o q i, stay n u) in
    let handle_normal : HandleNormal V S = λ j n u. grind (arith, nat_tests, h.handle_normal j n u, stay n u) in
    let taken_marked : TakenMarked V S = λ b n t. grind (arith, nat_tests, h.taken_marked b n t, pin_taken v s h k (length left) b n f t last) in
    let taken_own : TakenOwn V S = λ b n t. grind (arith, nat_tests, h.taken_own b n t, pin_taken v s h k (length left) b n f t last) in
    let walk_own : WalkOwn V S = λ b n o w t. grind (arith, nat_tests, h.walk_own b n o w t) in
    let walk_unowned : WalkUnowned V S = λ b n w t. grind (arith, nat_tests, h.walk_unowned b n w t) in
    let walk_kept : WalkKept V S = λ b n w t. grind (arith, nat_tests, h.walk_kept b n w t, pin_taken v s h k (length left) b n f t last) in
    let walk_writable : WalkWritable V S = λ b n w t d. grind (arith, nat_tests, h.walk_writable b n w t d, pin_taken v s h k (length left) b n f t last) in
    let prepared_once : PreparedOnce V S = λ b u. grind (arith, nat_tests, h.prepared_once b u, handle_counts v s h k (length left) f last) in
    let prepared_unmarked : PreparedUnmarked V S = λ b u. grind (arith, nat_tests, h.prepared_unmarked b u) in
    let prepared_unowned : PreparedUnowned V S = λ b u. grind (arith, nat_tests, h.prepared_unowned b u) in
    let marking_own : MarkingOwn V S = λ b m. grind (arith, nat_tests, h.marking_own b m, h.marking_entry b m, λ (e : Entry). pin_whole v s h k (length left) f m.proc m.page e last) in
    let moving_once : MovingOnce V S = λ b m. grind (arith, nat_tests, h.moving_once b m, handle_counts v s h k (length left) f last) in
    let share_handle : ShareHandle V S = λ b i j n fork d. grind (arith, nat_tests, h.share_handle b i j n fork d, stay n d.frame) in
    let share_unowned : ShareUnowned V S = λ b i fork d. grind (arith, nat_tests, h.share_unowned b i fork d) in
    let sound : IsSoundBy V S = assumption in
    record { sound = (V, sound); can = unpin_can s a k f left c.0; same = unpin_same s a k f left }

-- the handle keeps its pages
pub simulates-give_handle : (s : CoreState) (a k to : ℕ) → IsSound s → Can s (give_handle a k to) → Simulates s (give_handle a k to)
simulates-give_handle s a k to (v, h) c =
    let S : CoreState = happens s (give_handle a k to) in
    let handle_pages : HandlePages v S = λ j. grind (arith, nat_tests, h.handle_pages j) in
    let handle_own : HandleOwn v S = λ j n u. grind (arith, nat_tests, h.handle_own j n u) in
    let sound : IsSoundBy v S = assumption in
    record { sound = (v, sound); can = c; same = refl }

-- the handle keeps its pages
pub simulates-take_handle : (s : CoreState) (a k : ℕ) → IsSound s → Can s (take_handle a k) → Simulates s (take_handle a k)
simulates-take_handle s a k (v, h) c =
    let S : CoreState = happens s (take_handle a k) in
    let handle_pages : HandlePages v S = λ j. grind (arith, nat_tests, h.handle_pages j) in
    let handle_own : HandleOwn v S = λ j n u. grind (arith, nat_tests, h.handle_own j n u) in
    let sound : IsSoundBy v S = assumption in
    record { sound = (v, sound); can = c; same = refl }

-- a frame in an entry is neither prepared nor cleared with the count 1
pub simulates-get_reference : (s : CoreState) (a p page f k : ℕ) (writable : Bool) → IsSound s → Can s (get_reference a p page f k writable) → Simulates s (get_reference a p page f k writable)
simulates-get_reference s a p page f k writable (v, h) c =
    let S : CoreState = happens s (get_reference a p page f k writable) in
    let V : View = record v { references = put f (v.references f + 1) v.references } in
    let e : Entry = entry_of f writable in
    let free : s.table p ≡ None = c.1.1 in
    let here : s.entry p page ≡ Some e = c.2 in
    let none : s.got k ≡ None = c.3 in
    let there : v.whole p page ≡ Some e = h.whole_entry p page e here in
    let references : References V S = tally_is _ _ _ (tally_got _ _ _ _ _ _ _ _ k (Some (a, f)) h.references) (λ d. grind (arith, nat_tests)) in
    let count_is : CountIs V S = λ u. grind (arith, nat_tests, h.count_is u) in
    let prepared_once : PreparedOnce V S = λ b u. grind (arith, nat_tests, h.prepared_once b u, prepared_whole v s h b u p page e) in
    let moving_once : MovingOnce V S = λ b m. grind (arith, nat_tests, h.moving_once b m, h.whole_moved b m, once_wholes v s h m.proc m.page p page m.entry e, h.moves_table b m) in
    let sound : IsSoundBy V S = assumption in
    record { sound = (V, sound); can = tt; same = refl }

-- at its last reference a frame is in no entry and under no pin
pub simulates-put_reference : (s : CoreState) (a f k : ℕ) → IsSound s → Can s (put_reference a f k) → Simulates s (put_reference a f k)
simulates-put_reference s a f k (v, h) c =
    let S : CoreState = happens s (put_reference a f k) in
    let V : View = record v { references = put f (v.references f - 1) v.references } in
    let had : got_frame (s.got k) ≡ Some f = ap got_frame c in
    let counts : 1 ≤ v.references f = got_counts v s h k f had in
    let lone : s.count f ≡ 1 → v.references f ≡ 1 = λ once. (got_alone v s h k f had once).0 in
    let references : References V S = tally_is _ _ _ (tally_got _ _ _ _ _ _ _ _ k None h.references) (λ d. grind (arith, nat_tests)) in
    let count_is : CountIs V S = λ u. grind (arith, nat_tests, h.count_is u) in
    let own_alone : OwnAlone V S = λ u i o. grind (arith, nat_tests, h.own_alone u i o) in
    let own_made : OwnMade V S = λ u o. grind (arith, nat_tests, h.own_made u o) in
    let own_names : OwnNames V S = λ q i o d. grind (arith, nat_tests, h.own_names q i o d) in
    let own_entry : OwnEntry V S = λ u q i o. grind (arith, nat_tests, h.own_entry u q i o) in
    let own_words : OwnWords V S = λ u o w. grind (arith, nat_tests, h.own_words u o w) in
    let own_marked : OwnMarked V S = λ q i o d. grind (arith, nat_tests, h.own_marked q i o d) in
    let own_marking : OwnMarking V S = λ q i o b d. grind (arith, nat_tests, h.own_marking q i o b d) in
    let marked_own : MarkedOwn V S = λ q i d. grind (arith, nat_tests, h.marked_own q i d) in
    let entry_marked : EntryMarked V S = λ q i d. grind (arith, nat_tests, h.entry_marked q i d, got_whole v s h k f q i d) in
    let handle_marked : HandleMarked V S = λ j n u. grind (arith, nat_tests, h.handle_marked j n u, handle_counts v s h j n u) in
    let handle_own : HandleOwn V S = λ j n u. grind (arith, nat_tests, h.handle_own j n u, handle_counts v s h j n u) in
    let handle_flag : HandleFlag V S = λ j n u o q i. grind (arith, nat_tests, h.handle_flag j n u o q i) in
    let taken_marked : TakenMarked V S = λ b n t. grind (arith, nat_tests, h.taken_marked b n t, taken_counts v s h b n t) in
    let taken_own : TakenOwn V S = λ b n t. grind (arith, nat_tests, h.taken_own b n t, taken_counts v s h b n t) in
    let walk_own : WalkOwn V S = λ b n o w t. grind (arith, nat_tests, h.walk_own b n o w t) in
    let walk_unowned : WalkUnowned V S = λ b n w t. grind (arith, nat_tests, h.walk_unowned b n w t) in
    let walk_kept : WalkKept V S = λ b n w t. grind (arith, nat_tests, h.walk_kept b n w t, taken_counts v s h b n t) in
    let walk_writable : WalkWritable V S = λ b n w t d. grind (arith, nat_tests, h.walk_writable b n w t d, taken_counts v s h b n t) in
    let prepared_once : PreparedOnce V S = λ b u. grind (arith, nat_tests, h.prepared_once b u, got_prepared v s h k f b) in
    let prepared_unmarked : PreparedUnmarked V S = λ b u. grind (arith, nat_tests, h.prepared_unmarked b u) in
    let prepared_unowned : PreparedUnowned V S = λ b u. grind (arith, nat_tests, h.prepared_unowned b u) in
    let marking_own : MarkingOwn V S = λ b m. grind (arith, nat_tests, h.marking_own b m, h.marking_entry b m, λ (e : Entry). got_whole v s h k f m.proc m.page e) in
    let moving_once : MovingOnce V S = λ b m. grind (arith, nat_tests, h.moving_once b m, got_moving v s h k b m) in
    let share_unowned : ShareUnowned V S = λ b i fork d. grind (arith, nat_tests, h.share_unowned b i fork d) in
    let sound : IsSoundBy V S = assumption in
    record { sound = (V, sound); can = tt; same = refl }
