-- The faults of a page that has an entry, by what was read of its frame, and what the page has then.
use Rattle.std.proofs.Common.{◌≡◌, ℕ, Bool, true, false, [], ◌∷◌, ◌++◌, Option, Some, None, Result, Ok, Err, OnOk, refl, sym, ap, subst, ◌∙◌}
use Rattle.gup_base.specs.declared.entry.Entry.{Entry}
use Rattle.gup_plain.specs.declared.answer.Answer.{Answer}
use Rattle.gup_plain.specs.declared.answer.Answer.TheVariants as answers
use Rattle.gup_frames.specs.Frames.{FramesValue, with_mark}
use Rattle.gup_space.specs.Space.{SpaceValue, with_entry}
use Rattle.gup_space.specs.Shows.{Change}
use Rattle.gup_spec_events.specs.Event.{entry_of, upgrade}
use Rattle.gup_spec_events.specs.Invariant.{frame_of}
use Rattle.gup_spec_events.specs.Fault.{marks, unshares, makes_writable}
use Rattle.gup_fault.specs.declared.denied.NoFrame.{NoFrame as NoFrameError}
use Rattle.gup_fault.specs.Refused.{frame_denial}
use Rattle.gup_fault.specs.Faults.{IsFault, IsUnchanged, IsExclusiveEntry, IsMarked, IsWritable, IsReadOnly, KeepsAlone}
use Rattle.gup_fault.proofs.Puts.{put_here}
use Rattle.gup_fault.proofs.FaultSteps.{ch, faults_alike, changes_alike, marked, upgraded, marked_upgraded, has_entry, got}

-- ---- a read-only entry that gets writable

writes_marked_is : (a p page : ℕ) (e : Entry) (mark : Bool) (count : ℕ) (free : Option ℕ) → mark ≡ true → makes_writable a p page e mark count free ≡ Ok (upgrade a p page e.frame ∷ [])
writes_marked_is a p page e mark count free is = rw is refl

writes_alone_is : (a p page : ℕ) (e : Entry) (mark : Bool) (count : ℕ) (free : Option ℕ) → mark ≡ false → count ≡ 1 → makes_writable a p page e mark count free ≡ Ok (marks a p page e ++ upgrade a p page e.frame ∷ [])
writes_alone_is a p page e mark count free is one = rw (is, one) refl

pub writes_marked : (F : FramesValue) (S S' : SpaceValue) (page : ℕ) (e : Entry) (mark : Bool) (count : ℕ) (free : Option ℕ) → mark ≡ true → S.entry page ≡ Some e → S' ≡ with_entry page (Some (entry_of e.frame true)) S → IsFault (ch F F S S') None (λ a p. makes_writable a p page e mark count free)
writes_marked F S S' page e mark count free is had space =
    changes_alike F F F S (with_entry page (Some (entry_of e.frame true)) S) S' None (λ a p. makes_writable a p page e mark count free) refl space
    (faults_alike (ch F F S (with_entry page (Some (entry_of e.frame true)) S)) None (λ a p. Ok (upgrade a p page e.frame ∷ [])) (λ a p. makes_writable a p page e mark count free)
    (λ a p. writes_marked_is a p page e mark count free is) (upgraded F S page e had))

pub writes_alone : (F F' : FramesValue) (S S' : SpaceValue) (page : ℕ) (e : Entry) (mark : Bool) (count : ℕ) (free : Option ℕ) → mark ≡ false → count ≡ 1 → S.entry page ≡ Some e → F' ≡ with_mark e.frame true F → S' ≡ with_entry page (Some (entry_of e.frame true)) S → IsFault (ch F F' S S') None (λ a p. makes_writable a p page e mark count free)
writes_alone F F' S S' page e mark count free is one had frames space =
    changes_alike F (with_mark e.frame true F) F' S (with_entry page (Some (entry_of e.frame true)) S) S' None (λ a p. makes_writable a p page e mark count free) frames space
    (faults_alike (ch F (with_mark e.frame true F) S (with_entry page (Some (entry_of e.frame true)) S)) None (λ a p. Ok (marks a p page e ++ upgrade a p page e.frame ∷ [])) (λ a p. makes_writable a p page e mark count free)
    (λ a p. writes_alone_is a p page e mark count free is one) (marked_upgraded F S page e had))

-- the page's entry is writable
pub got_writable : (S S' : SpaceValue) (page f : ℕ) → S' ≡ with_entry page (Some (entry_of f true)) S → IsWritable (S'.entry page)
got_writable S S' page f is = has_entry (S'.entry page) (λ e. e.writable ≡ true) (entry_of f true) (got S S' page (entry_of f true) is) refl

-- and its frame marked
pub got_marked : (F : FramesValue) (S S' : SpaceValue) (page f : ℕ) → S' ≡ with_entry page (Some (entry_of f true)) S → F.mark f ≡ true → IsMarked F (S'.entry page)
got_marked F S S' page f is marked =
    has_entry (S'.entry page) (λ e. F.mark e.frame ≡ true) (entry_of f true) (got S S' page (entry_of f true) is) marked

pub mark_put : (F F' : FramesValue) (f : ℕ) → F' ≡ with_mark f true F → F'.mark f ≡ true
mark_put F F' f frames = ap (λ (x : FramesValue). x.mark f) frames ∙ put_here f true F.mark

-- ---- an entry whose frame gets its mark

unshares_alone_is : (a p page : ℕ) (e : Entry) (mark : Bool) (count : ℕ) (free : Option ℕ) → mark ≡ false → count ≡ 1 → unshares a p page e mark count free ≡ Ok (marks a p page e)
unshares_alone_is a p page e mark count free is one = rw (is, one) refl

pub unshares_alone : (F F' : FramesValue) (S : SpaceValue) (page : ℕ) (e : Entry) (mark : Bool) (count : ℕ) (free : Option ℕ) → mark ≡ false → count ≡ 1 → F' ≡ with_mark e.frame true F → IsFault (ch F F' S S) None (λ a p. unshares a p page e mark count free)
unshares_alone F F' S page e mark count free is one frames =
    changes_alike F (with_mark e.frame true F) F' S S S None (λ a p. unshares a p page e mark count free) frames refl
    (faults_alike (ch F (with_mark e.frame true F) S S) None (λ a p. Ok (marks a p page e)) (λ a p. unshares a p page e mark count free)
    (λ a p. unshares_alone_is a p page e mark count free is one) (marked F S page e))

pub got_mark : (F F' : FramesValue) (S : SpaceValue) (page : ℕ) (e : Entry) → S.entry page ≡ Some e → F' ≡ with_mark e.frame true F → IsMarked F' (S.entry page)
got_mark F F' S page e had frames =
    has_entry (S.entry page) (λ d. F'.mark d.frame ≡ true) e had (ap (λ (x : FramesValue). x.mark e.frame) frames ∙ put_here e.frame true F.mark)

-- ---- what stays

same_entry : (entry : Option Entry) (d e : Entry) → entry ≡ Some d → entry ≡ Some e → d ≡ e
same_entry entry d e one other = cc

counts_stay : (F F' : FramesValue) (g : ℕ) → F' ≡ with_mark g true F → (f : ℕ) → F'.count f ≡ F.count f
counts_stay F F' g frames f = ap (λ (x : FramesValue). x.count f) frames

pub alone_marked : (F F' : FramesValue) (S : SpaceValue) (page g : ℕ) → F' ≡ with_mark g true F → KeepsAlone (ch F F' S S) page
alone_marked F F' S page g frames e is unmarked one = (ap frame_of is, counts_stay F F' g frames)

pub alone_upgraded : (F F' : FramesValue) (S S' : SpaceValue) (page : ℕ) (d : Entry) → S.entry page ≡ Some d → F' ≡ with_mark d.frame true F → S' ≡ with_entry page (Some (entry_of d.frame true)) S → KeepsAlone (ch F F' S S') page
alone_upgraded F F' S S' page d had frames space e is unmarked one =
    (ap frame_of (got S S' page (entry_of d.frame true) space) ∙ ap (λ (x : Entry). Some x.frame) (same_entry (S.entry page) d e had is), counts_stay F F' d.frame frames)

-- a read-only entry stays so where the page gets another, or a refusal changes nothing
pub read_only_still : (c : Change) (page : ℕ) → IsUnchanged c → IsReadOnly (c.old_space.entry page) → IsReadOnly (c.new_space.entry page)
read_only_still c page same only = subst (λ (s : SpaceValue). IsReadOnly (s.entry page)) (sym same.1) only

read_only_entry : (frames : FramesValue) (entry : Option Entry) → IsExclusiveEntry frames false entry → IsReadOnly entry
read_only_entry frames None has = tt
read_only_entry frames (Some e) has = has.0

pub read_only_after : (c : Change) (page : ℕ) (result : Result (Unit {0}) NoFrameError) → OnOk result (IsExclusiveEntry c.new_frames false (c.new_space.entry page)) → ((answer : Answer) → frame_denial result ≡ Some answer → IsUnchanged c) → IsReadOnly (c.old_space.entry page) → IsReadOnly (c.new_space.entry page)
read_only_after c page (Ok ok) has unchanged only = read_only_entry c.new_frames (c.new_space.entry page) has
read_only_after c page (Err none) has unchanged only = read_only_still c page (unchanged answers.NoFrame refl) only
