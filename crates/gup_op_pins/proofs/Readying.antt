-- What the fault of a pin or of a get reads, what it leaves, and that the page is ready after it.
use Rattle.std.proofs.Common.{◌≡◌, ℕ, ◌≤◌, ◌&&◌, nat_lt, ◌<◌, ◌+◌, ◌-◌, if◌then◌else◌, ◌^◌, ◌==◌, Bool, true, false, cond, [], ◌∷◌, ◌++◌, Option, Some, None, IsSome, Result, Ok, Err, OnOk, zero, suc, refl, sym, ap, ◌∙◌, subst, eqb-true, arith}
use Rattle.std.proofs.lemmas.Bool.Decides.{nat_tests}
use Rattle.gup_base.specs.declared.entry.Allowed.{Allowed}
use Rattle.gup_base.specs.declared.entry.Allowed.TheVariants.{Any, Only}
use Rattle.gup_base.specs.declared.entry.Entry.{Entry}
use Rattle.gup_base.specs.declared.entry.Rights.{Rights}
use Rattle.gup_base.specs.declared.entry.Rights.TheVariants.{R, RW}
use Rattle.gup_base.specs.declared.entry.Want.{Want}
use Rattle.gup_base.specs.declared.entry.Zone.TheVariants.{Normal}
use Rattle.gup_plain.specs.Put.{put}
use Rattle.gup_frames.specs.Frames.{FramesValue, IsFrame, free_frame, taken, with_mark}
use Rattle.gup_bits.proofs.Lowest.{lowest_some}
use Rattle.gup_space.specs.Space.{SpaceValue, lacking}
use Rattle.gup_space.specs.Found.{found_for}
use Rattle.gup_space.specs.Shows.{Change, ShowsFrames, ShowsSpace}
use Rattle.gup_space.proofs.ShowsLemmas.{events_lead}
use Rattle.gup_spec_events.specs.State.{CoreState, Job, idle, forking, copying}
use Rattle.gup_spec_events.specs.Event.{happens, upgrade, run, entry_of}
use Rattle.gup_spec_events.specs.Fault.{Fault, events_of, refusal_of, read_fault, fills, breaks, marks, unshares, unshare_fault, makes_writable, fills_writable, write_fault}
use Rattle.gup_fault.specs.declared.denied.Denied.{Denied}
use Rattle.gup_fault.specs.Refused.{denial_of}
use Rattle.gup_fault.proofs.Puts.{put_here, put_away}
use Rattle.gup_fault.specs.Faults.{HasEntry, IsMarked, IsWritable, IsFault}
use Rattle.gup_slow.specs.Pins.{IsReady, HasFrame, IsPinnable}
use Rattle.gup_move.specs.Moves.{moved}
use Rattle.gup_spec_turns.specs.JobPlace.{job_place, place_in, unbegun}
use Rattle.gup_spec_turns.specs.PinTurns.{pin_fault}
use Rattle.gup_spec_turns.specs.CoreTurn.{frame_for, entry_in}
use Rattle.gup_op_pins.specs.Pins.{IsCleared, raised, fault_to_pin, want_of}
use Rattle.gup_op_base.specs.Tidy.{IsTidy}
use Rattle.gup_op_base.proofs.Leading.{state_of, has_frames, has_space}
use Rattle.gup_op_base.proofs.Searching.{frame_agrees, free_passes}

-- ---- which fault it is

-- what a read pin's fault reads of the frame of its entry
unshare_fault_reads : (F : FramesValue) (a p page : ℕ) (rights : Option Rights) (entry : Option Entry) (free : Option ℕ) (s : CoreState) → ShowsFrames F s
    → unshare_fault a p page rights entry s.mark s.count free ≡ unshare_fault a p page rights entry F.mark F.count free
unshare_fault_reads F a p page None entry free s frames = refl
unshare_fault_reads F a p page (Some rights) None free s frames = refl
unshare_fault_reads F a p page (Some rights) (Some e) free s frames =
    ap (λ m. unshares a p page e m (s.count e.frame) free) (frames.mark e.frame)
    ∙ ap (λ n. unshares a p page e (F.mark e.frame) n free) (frames.count e.frame)

-- and what a write pin's does
write_fault_reads : (F : FramesValue) (a p page : ℕ) (rights : Option Rights) (entry : Option Entry) (free : Option ℕ) (s : CoreState) → ShowsFrames F s
    → write_fault a p page rights entry s.mark s.count free ≡ write_fault a p page rights entry F.mark F.count free
write_fault_reads F a p page (Some RW) (Some e) free s frames =
    ap (λ m. cond e.writable (Ok []) (makes_writable a p page e m (s.count e.frame) free)) (frames.mark e.frame)
    ∙ ap (λ n. cond e.writable (Ok []) (makes_writable a p page e (F.mark e.frame) n free)) (frames.count e.frame)
write_fault_reads F a p page rights entry free s frames = refl

-- a state's fault is the one that was read of frames and a process
pub pin_fault_same : (F : FramesValue) (S : SpaceValue) (a p page : ℕ) (write : Bool) (allowed : Allowed) (s : CoreState) → ShowsFrames F s → ShowsSpace p S s
    → pin_fault s a p page write (frame_for s p page allowed) ≡ fault_to_pin F S a p page write allowed
pin_fault_same F S a p page true allowed s frames space =
    ap (λ r. write_fault a p page r (s.entry p page) s.mark s.count (frame_for s p page allowed)) (space.right page)
    ∙ ap (λ o. write_fault a p page (S.right page) o s.mark s.count (frame_for s p page allowed)) (space.entry page)
    ∙ ap (λ o. write_fault a p page (S.right page) (S.entry page) s.mark s.count o) (frame_agrees F S p page allowed s frames space)
    ∙ write_fault_reads F a p page (S.right page) (S.entry page) (found_for F S page allowed) s frames
pin_fault_same F S a p page false allowed s frames space =
    ap (λ r. unshare_fault a p page r (s.entry p page) s.mark s.count (frame_for s p page allowed)) (space.right page)
    ∙ ap (λ o. unshare_fault a p page (S.right page) o s.mark s.count (frame_for s p page allowed)) (space.entry page)
    ∙ ap (λ o. unshare_fault a p page (S.right page) (S.entry page) s.mark s.count o) (frame_agrees F S p page allowed s frames space)
    ∙ unshare_fault_reads F a p page (S.right page) (S.entry page) (found_for F S page allowed) s frames

-- the flag is not read
pub fault_raised : (F : FramesValue) (S : SpaceValue) (a p page got : ℕ) (fast write : Bool) (allowed : Allowed) → fault_to_pin F (raised got fast S) a p page write allowed ≡ fault_to_pin F S a p page write allowed
fault_raised F S a p page zero false true allowed = refl
fault_raised F S a p page zero false false allowed = refl
fault_raised F S a p page zero true write allowed = refl
fault_raised F S a p page (suc got) fast write allowed = refl

-- ---- what a fault leaves

-- pins, what was taken for one, has-pinned and references are as they were, and an actor that was in the middle of nothing is so
pub record IsLeft (a : ℕ) (s t : CoreState) : Type 0 where
  pub handle : t.handle ≡ s.handle
  pub pinned : t.pinned ≡ s.pinned
  pub taken : t.taken ≡ s.taken
  pub has_pinned : t.has_pinned ≡ s.has_pinned
  pub got : t.got ≡ s.got
  pub idles : s.job a ≡ idle → t.job a ≡ idle

left_alone : (a : ℕ) (s : CoreState) → IsLeft a s s
left_alone a s = record { handle = refl; pinned = refl; taken = refl; has_pinned = refl; got = refl; idles = λ rests. rests }

fills_leave : (a p page : ℕ) (free : Option ℕ) (s : CoreState) → IsLeft a s (run s (events_of (fills a p page free)))
fills_leave a p page None s = left_alone a s
fills_leave a p page (Some f) s = record { handle = refl; pinned = refl; taken = refl; has_pinned = refl; got = refl; idles = λ rests. rests }

fills_writable_leave : (a p page : ℕ) (free : Option ℕ) (s : CoreState) → IsLeft a s (run s (events_of (fills_writable a p page free)))
fills_writable_leave a p page None s = left_alone a s
fills_writable_leave a p page (Some f) s = record { handle = refl; pinned = refl; taken = refl; has_pinned = refl; got = refl; idles = λ rests. rests }

breaks_leave : (a p page : ℕ) (d : Entry) (writable : Bool) (free : Option ℕ) (s : CoreState) → IsLeft a s (run s (events_of (breaks a p page d writable free)))
breaks_leave a p page d writable None s = left_alone a s
breaks_leave a p page d writable (Some f) s = record { handle = refl; pinned = refl; taken = refl; has_pinned = refl; got = refl; idles = λ rests. rests }

unshares_leave : (a p page : ℕ) (d : Entry) (mark : Bool) (count : ℕ) (free : Option ℕ) (s : CoreState) → IsLeft a s (run s (events_of (unshares a p page d mark count free)))
unshares_leave a p page d true count free s = left_alone a s
unshares_leave a p page d false count free s = by_count (count == 1)
  where
    by_count : (alone : Bool) → IsLeft a s (run s (events_of (cond alone (Ok (marks a p page d)) (breaks a p page d false free))))
    by_count true = record { handle = refl; pinned = refl; taken = refl; has_pinned = refl; got = refl; idles = λ rests. grind (arith, nat_tests) }
    by_count false = breaks_leave a p page d false free s

makes_writable_leaves : (a p page : ℕ) (d : Entry) (mark : Bool) (count : ℕ) (free : Option ℕ) (s : CoreState) → IsLeft a s (run s (events_of (makes_writable a p page d mark count free)))
makes_writable_leaves a p page d true count free s = record { handle = refl; pinned = refl; taken = refl; has_pinned = refl; got = refl; idles = λ rests. rests }
makes_writable_leaves a p page d false count free s = by_count (count == 1)
  where
    by_count : (alone : Bool) → IsLeft a s (run s (events_of (cond alone (Ok (marks a p page d ++ upgrade a p page d.frame ∷ [])) (breaks a p page d true free))))
    by_count true = record { handle = refl; pinned = refl; taken = refl; has_pinned = refl; got = refl; idles = λ rests. grind (arith, nat_tests) }
    by_count false = breaks_leave a p page d true free s

unshare_fault_leaves : (a p page : ℕ) (rights : Option Rights) (entry : Option Entry) (mark : ℕ → Bool) (count : ℕ → ℕ) (free : Option ℕ) (s : CoreState)
    → IsLeft a s (run s (events_of (unshare_fault a p page rights entry mark count free)))
unshare_fault_leaves a p page None entry mark count free s = left_alone a s
unshare_fault_leaves a p page (Some rights) None mark count free s = fills_leave a p page free s
unshare_fault_leaves a p page (Some rights) (Some d) mark count free s = unshares_leave a p page d (mark d.frame) (count d.frame) free s

write_fault_leaves : (a p page : ℕ) (rights : Option Rights) (entry : Option Entry) (mark : ℕ → Bool) (count : ℕ → ℕ) (free : Option ℕ) (s : CoreState)
    → IsLeft a s (run s (events_of (write_fault a p page rights entry mark count free)))
write_fault_leaves a p page None entry mark count free s = left_alone a s
write_fault_leaves a p page (Some R) entry mark count free s = left_alone a s
write_fault_leaves a p page (Some RW) None mark count free s = fills_writable_leave a p page free s
write_fault_leaves a p page (Some RW) (Some d) mark count free s = by_entry d.writable
  where
    by_entry : (writable : Bool) → IsLeft a s (run s (events_of (cond writable (Ok []) (makes_writable a p page d (mark d.frame) (count d.frame) free))))
    by_entry true = left_alone a s
    by_entry false = makes_writable_leaves a p page d (mark d.frame) (count d.frame) free s

pub pin_fault_leaves : (F : FramesValue) (S : SpaceValue) (a p page : ℕ) (write : Bool) (allowed : Allowed) (s : CoreState) → IsLeft a s (run s (events_of (fault_to_pin F S a p page write allowed)))
pin_fault_leaves F S a p page true allowed s = write_fault_leaves a p page (S.right page) (S.entry page) F.mark F.count (found_for F S page allowed) s
pin_fault_leaves F S a p page false allowed s = unshare_fault_leaves a p page (S.right page) (S.entry page) F.mark F.count (found_for F S page allowed) s

read_fault_leaves : (a p page : ℕ) (rights : Option Rights) (entry : Option Entry) (free : Option ℕ) (s : CoreState) → IsLeft a s (run s (events_of (read_fault a p page rights entry free)))
read_fault_leaves a p page None entry free s = left_alone a s
read_fault_leaves a p page (Some rights) None free s = fills_leave a p page free s
read_fault_leaves a p page (Some rights) (Some d) free s = left_alone a s

-- the fault of a get, by what it finds
abbrev pub fault_to_get : FramesValue → SpaceValue → (a p page : ℕ) → Fault
fault_to_get F S a p page = read_fault a p page (S.right page) (S.entry page) (found_for F S page Any)

pub get_fault_leaves : (F : FramesValue) (S : SpaceValue) (a p page : ℕ) (s : CoreState) → IsLeft a s (run s (events_of (fault_to_get F S a p page)))
get_fault_leaves F S a p page s = read_fault_leaves a p page (S.right page) (S.entry page) (found_for F S page Any) s

-- an actor that keeps no place keeps none, whatever frame it has prepared
unbegun_still : (job : Job) (before after : Option ℕ) → job_place job before ≡ unbegun → job_place job after ≡ unbegun
unbegun_still (forking p c done (copying page word)) None after place = absurd (cc)
unbegun_still (forking p c done (copying page word)) (Some to) after place = absurd (cc)
unbegun_still job before after place = place

read_fault_rests : (a p page : ℕ) (rights : Option Rights) (entry : Option Entry) (free : Option ℕ) (s : CoreState) → place_in s a ≡ unbegun
    → place_in (run s (events_of (read_fault a p page rights entry free))) a ≡ unbegun
read_fault_rests a p page None entry free s rests = rests
read_fault_rests a p page (Some rights) None None s rests = rests
read_fault_rests a p page (Some rights) None (Some f) s rests = unbegun_still (s.job a) (s.prepared a) (put a None (put a (Some f) s.prepared) a) rests
read_fault_rests a p page (Some rights) (Some d) free s rests = rests

pub get_fault_rests : (F : FramesValue) (S : SpaceValue) (a p page : ℕ) (s : CoreState) → place_in s a ≡ unbegun → place_in (run s (events_of (fault_to_get F S a p page))) a ≡ unbegun
get_fault_rests F S a p page s rests = read_fault_rests a p page (S.right page) (S.entry page) (found_for F S page Any) s rests

-- ---- the count that a fault leaves

-- the frame of the page's entry has a reference, and fewer than so many
abbrev pub IsCountedAt : CoreState → (p page many : ℕ) → Type 0
IsCountedAt s p page many = (e : Entry) → s.entry p page ≡ Some e → (0 < s.count e.frame) × (s.count e.frame < many)

-- the free frame is no entry's
abbrev pub IsApart : Option ℕ → Option Entry → Type 0
IsApart free entry = (f : ℕ) (d : Entry) → free ≡ Some f → entry ≡ Some d → f ≡ d.frame → ⊥

fill_counts : (a p page many : ℕ) (free : Option ℕ) (s : CoreState) → 1 < many → refusal_of (fills a p page free) ≡ None → IsCountedAt (run s (events_of (fills a p page free))) p page many
fill_counts a p page many None s more refused e found = absurd (cc)
fill_counts a p page many (Some f) s more done e found = (grind (arith, nat_tests), grind (arith, nat_tests))

fill_writable_counts : (a p page many : ℕ) (free : Option ℕ) (s : CoreState) → 1 < many → refusal_of (fills_writable a p page free) ≡ None → IsCountedAt (run s (events_of (fills_writable a p page free))) p page many
fill_writable_counts a p page many None s more refused e found = absurd (cc)
fill_writable_counts a p page many (Some f) s more done e found = (grind (arith, nat_tests), grind (arith, nat_tests))

break_counts : (a p page many : ℕ) (d : Entry) (writable : Bool) (free : Option ℕ) (s : CoreState) → 1 < many → IsApart free (Some d) → refusal_of (breaks a p page d writable free) ≡ None
    → IsCountedAt (run s (events_of (breaks a p page d writable free))) p page many
break_counts a p page many d writable None s more other refused e found = absurd (cc)
break_counts a p page many d writable (Some f) s more other done e found =
    let apart : f ≡ d.frame → ⊥ = other f d refl refl in
    (grind (arith, nat_tests), grind (arith, nat_tests))

unshare_counts : (a p page many : ℕ) (d : Entry) (mark : Bool) (count : ℕ) (free : Option ℕ) (s : CoreState) → 1 < many → IsApart free (Some d) → IsCountedAt s p page many
    → refusal_of (unshares a p page d mark count free) ≡ None → IsCountedAt (run s (events_of (unshares a p page d mark count free))) p page many
unshare_counts a p page many d true count free s more other before done e found = before e found
unshare_counts a p page many d false count free s more other before done e found = by_count (count == 1) done e found
  where
    fault : (alone : Bool) → Fault
    fault alone = cond alone (Ok (marks a p page d)) (breaks a p page d false free)

    by_count : (alone : Bool) → refusal_of (fault alone) ≡ None → IsCountedAt (run s (events_of (fault alone))) p page many
    by_count true ok g at = before g at
    by_count false ok g at = break_counts a p page many d false free s more other ok g at

-- an entry that gets writable keeps its frame
upgrade_counts : (a p page many : ℕ) (d : Entry) (s : CoreState) → s.entry p page ≡ Some d → IsCountedAt s p page many → IsCountedAt (happens s (upgrade a p page d.frame)) p page many
upgrade_counts a p page many d s had before e found =
    let same : d.frame ≡ e.frame = grind (arith, nat_tests) in
    subst (λ f. (0 < s.count f) × (s.count f < many)) same (before d had)

writable_counts : (a p page many : ℕ) (d : Entry) (mark : Bool) (count : ℕ) (free : Option ℕ) (s : CoreState) → 1 < many → IsApart free (Some d) → s.entry p page ≡ Some d → IsCountedAt s p page many
    → refusal_of (makes_writable a p page d mark count free) ≡ None → IsCountedAt (run s (events_of (makes_writable a p page d mark count free))) p page many
writable_counts a p page many d true count free s more other had before done e found = upgrade_counts a p page many d s had before e found
writable_counts a p page many d false count free s more other had before done e found = by_count (count == 1) done e found
  where
    fault : (alone : Bool) → Fault
    fault alone = cond alone (Ok (marks a p page d ++ upgrade a p page d.frame ∷ [])) (breaks a p page d true free)

    by_count : (alone : Bool) → refusal_of (fault alone) ≡ None → IsCountedAt (run s (events_of (fault alone))) p page many
    by_count true ok g at = upgrade_counts a p page many d (run s (marks a p page d)) had before g at
    by_count false ok g at = break_counts a p page many d true free s more other ok g at

unshare_fault_counts : (a p page many : ℕ) (rights : Option Rights) (entry : Option Entry) (mark : ℕ → Bool) (count : ℕ → ℕ) (free : Option ℕ) (s : CoreState)
    → 1 < many → IsApart free entry → IsCountedAt s p page many → refusal_of (unshare_fault a p page rights entry mark count free) ≡ None
    → IsCountedAt (run s (events_of (unshare_fault a p page rights entry mark count free))) p page many
unshare_fault_counts a p page many None entry mark count free s more other before refused e found = absurd (cc)
unshare_fault_counts a p page many (Some rights) None mark count free s more other before done e found = fill_counts a p page many free s more done e found
unshare_fault_counts a p page many (Some rights) (Some d) mark count free s more other before done e found =
    unshare_counts a p page many d (mark d.frame) (count d.frame) free s more other before done e found

write_fault_counts : (a p page many : ℕ) (rights : Option Rights) (entry : Option Entry) (mark : ℕ → Bool) (count : ℕ → ℕ) (free : Option ℕ) (s : CoreState)
    → 1 < many → IsApart free entry → s.entry p page ≡ entry → IsCountedAt s p page many → refusal_of (write_fault a p page rights entry mark count free) ≡ None
    → IsCountedAt (run s (events_of (write_fault a p page rights entry mark count free))) p page many
write_fault_counts a p page many None entry mark count free s more other had before refused e found = absurd (cc)
write_fault_counts a p page many (Some R) entry mark count free s more other had before refused e found = absurd (cc)
write_fault_counts a p page many (Some RW) None mark count free s more other had before done e found = fill_writable_counts a p page many free s more done e found
write_fault_counts a p page many (Some RW) (Some d) mark count free s more other had before done e found = by_entry d.writable done e found
  where
    fault : (writable : Bool) → Fault
    fault writable = cond writable (Ok []) (makes_writable a p page d (mark d.frame) (count d.frame) free)

    by_entry : (writable : Bool) → refusal_of (fault writable) ≡ None → IsCountedAt (run s (events_of (fault writable))) p page many
    by_entry true ok g at = before g at
    by_entry false ok g at = writable_counts a p page many d (mark d.frame) (count d.frame) free s more other had before ok g at

pin_fault_counts : (F : FramesValue) (S : SpaceValue) (page many : ℕ) (write : Bool) (allowed : Allowed) → 1 < many → IsApart (found_for F S page allowed) (S.entry page) → IsCountedAt (state_of F S) 0 page many
    → refusal_of (fault_to_pin F S 0 0 page write allowed) ≡ None → IsCountedAt (run (state_of F S) (events_of (fault_to_pin F S 0 0 page write allowed))) 0 page many
pin_fault_counts F S page many true allowed more other before done =
    write_fault_counts 0 0 page many (S.right page) (S.entry page) F.mark F.count (found_for F S page allowed) (state_of F S) more other refl before done
pin_fault_counts F S page many false allowed more other before done =
    unshare_fault_counts 0 0 page many (S.right page) (S.entry page) F.mark F.count (found_for F S page allowed) (state_of F S) more other before done

read_fault_counts : (a p page many : ℕ) (rights : Option Rights) (entry : Option Entry) (free : Option ℕ) (s : CoreState) → 1 < many → IsCountedAt s p page many → refusal_of (read_fault a p page rights entry free) ≡ None
    → IsCountedAt (run s (events_of (read_fault a p page rights entry free))) p page many
read_fault_counts a p page many None entry free s more before refused e found = absurd (cc)
read_fault_counts a p page many (Some rights) None free s more before done e found = fill_counts a p page many free s more done e found
read_fault_counts a p page many (Some rights) (Some d) free s more before done e found = before e found

-- ---- a page that is ready

some_positive : (n : ℕ) → (n ≡ 0 → ⊥) → 0 < n
some_positive zero none = absurd (none refl)
some_positive (suc n) none = omega arith

not_zero : (n : ℕ) → 0 < n → n ≡ 0 → ⊥
not_zero n some none = omega arith

-- what is found for a page is the free frame
found_is_free : (F : FramesValue) (S : SpaceValue) (page : ℕ) (allowed : Allowed) (f : ℕ) → found_for F S page allowed ≡ Some f → free_frame F allowed ≡ Some f
found_is_free F S page allowed f is = go (lacking S page == 0) is
  where
    go : (none : Bool) → (if none then free_frame F allowed else None) ≡ Some f → free_frame F allowed ≡ Some f
    go true found = found
    go false found = absurd (cc)

-- the free frame is no entry's
free_apart : (F : FramesValue) (S : SpaceValue) (allowed : Allowed) (page f : ℕ) (d : Entry) → IsTidy F S → free_frame F allowed ≡ Some f → S.entry page ≡ Some d → f ≡ d.frame → ⊥
free_apart F S allowed page f d tidy free found same =
    let none : (F.count f == 0) ≡ true = free_passes F allowed f free in
    tidy.counted page d found (ap F.count (sym same) ∙ eqb-true (F.count f) 0 none)

-- by the fault's events the frame's count is right
counts_behind : (c : Change) (page many : ℕ) (write : Bool) (allowed : Allowed) → 1 < many → IsTidy c.old_frames c.old_space → ((f : ℕ) → c.old_frames.count f < many) → c.old_space.table ≡ None
    → IsFault c None (λ a p. fault_to_pin c.old_frames c.old_space a p page write allowed) → (e : Entry) → c.new_space.entry page ≡ Some e
    → (0 < c.new_frames.count e.frame) × (c.new_frames.count e.frame < many)
counts_behind c page many write allowed more tidy few unlocked fault e found =
    let F : FramesValue = c.old_frames in
    let S : SpaceValue = c.old_space in
    let t : CoreState = run (state_of F S) (events_of (fault_to_pin F S 0 0 page write allowed)) in
    let behind = events_lead fault.events (state_of F S) 0 0 (has_frames F S) (has_space F S 0) unlocked in
    let before : IsCountedAt (state_of F S) 0 page many = λ d at. (some_positive (F.count d.frame) (tidy.counted page d at), few d.frame) in
    let counted = pin_fault_counts F S page many write allowed more (λ f d free had. free_apart F S allowed page f d tidy (found_is_free F S page allowed f free) had) before (fault.refused 0 0) e (behind.1.entry page ∙ found) in
    subst (λ n. (0 < n) × (n < many)) (behind.0.count e.frame) counted

has_some : (entry : Option Entry) (P : Entry → Type 0) → HasEntry entry P → (e : Entry) → entry ≡ Some e → P e
has_some None P none e is = absurd none
has_some (Some d) P holds e is = let same : d ≡ e = cc in subst P same holds

has_one : (entry : Option Entry) (P : Entry → Type 0) → HasEntry entry P → IsSome entry
has_one None P none = absurd none
has_one (Some d) P holds = refl

-- what a pin to write needs of the entry, and a pin to read doesn't
abbrev pub IsWritableFor : (write : Bool) → Option Entry → Type 0
IsWritableFor true entry = IsWritable entry
IsWritableFor false entry = Unit {0}

writable_for : (write : Bool) (entry : Option Entry) → IsWritableFor write entry → (e : Entry) → entry ≡ Some e → write ≡ true → e.writable ≡ true
writable_for true entry holds e found wanted = has_some entry (λ d. d.writable ≡ true) holds e found
writable_for false entry holds e found wanted = absurd (cc)

pub ready_behind : (c : Change) (page : ℕ) (write : Bool) (allowed : Allowed) (r : Result (Unit {0}) Denied) → IsTidy c.old_frames c.old_space → ((f : ℕ) → c.old_frames.count f < 2 ^ 40) → c.old_space.table ≡ None
    → IsFault c (denial_of r) (λ a p. fault_to_pin c.old_frames c.old_space a p page write allowed)
    → ((f : ℕ) → (c.new_frames.count f ≡ 0 → ⊥) → IsFrame c.new_frames f)
    → OnOk r (IsMarked c.new_frames (c.new_space.entry page)) → OnOk r (IsWritableFor write (c.new_space.entry page))
    → OnOk r (IsReady c.new_frames c.new_space page (want_of write))
ready_behind c page write allowed (Err denied) tidy few unlocked fault there marked writable = tt
ready_behind c page write allowed (Ok ok) tidy few unlocked fault there marked writable =
    let counts = counts_behind c page (2 ^ 40) write allowed (omega arith) tidy few unlocked fault in
    record {
      entry = has_one (c.new_space.entry page) (λ e. c.new_frames.mark e.frame ≡ true) marked;
      pinnable = λ e found. record {
        there = there e.frame (not_zero (c.new_frames.count e.frame) (counts e found).0);
        held = (counts e found).0;
        few = (counts e found).1;
        marked = has_some (c.new_space.entry page) (λ d. c.new_frames.mark d.frame ≡ true) marked e found;
        writable = writable_for write (c.new_space.entry page) writable e found;
        normal = λ long. absurd (cc);
      };
    }

-- as the pin asks for it
pub as_wanted : (write asked : Bool) (F : FramesValue) (S : SpaceValue) (page : ℕ) (r : Result (Unit {0}) Denied) → asked ≡ write
    → OnOk r (IsReady F S page (want_of write)) → OnOk r (IsReady F S page (want_of asked))
as_wanted write asked F S page r same ready = subst (λ (w : Bool). OnOk r (IsReady F S page (want_of w))) (sym same) ready

normal_by : (long below : Bool) (movable f : ℕ) → nat_lt f movable ≡ below → (long && below) ≡ false → long ≡ true → movable ≤ f
normal_by true true movable f less none is = absurd (cc)
normal_by true false movable f less none is = grind (arith, nat_tests)
normal_by false below movable f less none is = absurd (cc)

entry_frame : (entry : Option Entry) (e : Entry) → entry ≡ Some e → (entry_in entry).frame ≡ e.frame
entry_frame None e is = absurd (cc)
entry_frame (Some d) e is = cc

-- and so for one that is for long, where the page isn't to be moved first
pub ready_long : (F : FramesValue) (S : SpaceValue) (page : ℕ) (want : Want) → IsReady F S page (want_of want.write) → (want.long && nat_lt (entry_in (S.entry page)).frame F.movable) ≡ false → IsReady F S page want
ready_long F S page want ready stays =
    record {
      entry = ready.entry;
      pinnable = λ e found.
          let at = ready.pinnable e found in
          let same = entry_frame (S.entry page) e found in
          record {
            there = at.there;
            held = at.held;
            few = at.few;
            marked = at.marked;
            writable = at.writable;
            normal = λ long. subst (λ (f : ℕ). F.movable ≤ f) same (normal_by want.long (nat_lt (entry_in (S.entry page)).frame F.movable) F.movable (entry_in (S.entry page)).frame refl stays long);
          };
    }

-- ---- a page that was moved

moved_counts : (old f : ℕ) (F : FramesValue) → (old ≡ f → ⊥) → (moved old f F).count f ≡ 1
moved_counts old f F apart =
    put_away old f ((with_mark f (F.mark old) (taken f F)).count old - 1) (put f 1 F.count) (λ same. apart (sym same)) ∙ put_here f 1 F.count

moved_marks : (old f : ℕ) (F : FramesValue) → (old ≡ f → ⊥) → (moved old f F).mark f ≡ F.mark old
moved_marks old f F apart =
    put_away old f (if (put f 1 F.count old == 1) then false else (put f (F.mark old) (put f false F.mark) old)) (put f (F.mark old) (put f false F.mark)) (λ same. apart (sym same))
    ∙ put_here f (F.mark old) (put f false F.mark)

-- the entry that it gets is right for the pin
pub ready_placed : (F F1 : FramesValue) (S S2 : SpaceValue) (page f : ℕ) (want : Want) (e : Entry) → IsCleared F page want e S → free_frame F (Only Normal) ≡ Some f
    → F1 ≡ moved e.frame f F → S2.entry page ≡ Some (entry_of f e.writable) → IsReady F1 S2 page want
ready_placed F F1 S S2 page f want e cleared free frames entry =
    subst (λ (x : FramesValue). IsReady x S2 page want) (sym frames) (record {
      entry = subst (λ (o : Option Entry). IsSome o) (sym entry) refl;
      pinnable = λ d at.
          let same : entry_of f e.writable ≡ d = some_same (sym entry ∙ at) in
          subst (λ (x : Entry). IsPinnable (moved e.frame f F) want x) same (record {
            there = found.1;
            held = subst (λ (n : ℕ). 0 < n) (sym count) (omega arith);
            few = subst (λ (n : ℕ). n < 2 ^ 40) (sym count) (omega arith);
            marked = moved_marks e.frame f F apart ∙ cleared.marked;
            writable = cleared.may;
            normal = λ long. found.0;
          });
    })
  where
    found : (F.movable ≤ f) × (f < F.movable + F.normal) × ((F.count f == 0) ≡ true)
    found = lowest_some F.movable F.normal (λ g. F.count g == 0) f free

    apart : e.frame ≡ f → ⊥
    apart same = cleared.held (ap F.count same ∙ eqb-true (F.count f) 0 found.2)

    count : (moved e.frame f F).count f ≡ 1
    count = moved_counts e.frame f F apart

    some_same : {X : Type 0} {x y : X} → Some x ≡ Some y → x ≡ y
    some_same is = cc

-- the same of a get: its page has an entry, whose frame may get a reference more
pub gettable_behind : (c : Change) (page : ℕ) (r : Result (Unit {0}) Denied) → IsTidy c.old_frames c.old_space → ((f : ℕ) → c.old_frames.count f < 2 ^ 40) → c.old_space.table ≡ None
    → IsFault c (denial_of r) (λ a p. fault_to_get c.old_frames c.old_space a p page) → ((f : ℕ) → (c.new_frames.count f ≡ 0 → ⊥) → IsFrame c.new_frames f)
    → OnOk r (IsSome (c.new_space.entry page)) → OnOk r (HasFrame c.new_frames c.new_space page)
gettable_behind c page (Err denied) tidy few unlocked fault there some = tt
gettable_behind c page (Ok ok) tidy few unlocked fault there some =
    record {
      entry = some;
      gettable = λ e found.
          let at = counts e found in
          record { there = there e.frame (not_zero (c.new_frames.count e.frame) at.0); held = at.0; few = at.1 };
    }
  where
    counts : (e : Entry) → c.new_space.entry page ≡ Some e → (0 < c.new_frames.count e.frame) × (c.new_frames.count e.frame < 2 ^ 40)
    counts e found =
        let F : FramesValue = c.old_frames in
        let S : SpaceValue = c.old_space in
        let behind = events_lead fault.events (state_of F S) 0 0 (has_frames F S) (has_space F S 0) unlocked in
        let before : IsCountedAt (state_of F S) 0 page (2 ^ 40) = λ d at. (some_positive (F.count d.frame) (tidy.counted page d at), few d.frame) in
        let counted = read_fault_counts 0 0 page (2 ^ 40) (S.right page) (S.entry page) (found_for F S page Any) (state_of F S) (omega arith) before (fault.refused 0 0) e (behind.1.entry page ∙ found) in
        subst (λ n. (0 < n) × (n < 2 ^ 40)) (behind.0.count e.frame) counted
