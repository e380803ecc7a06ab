-- What each step of a fault makes of frames and a process is what its events say.
use Rattle.std.proofs.Common.{◌≡◌, ℕ, ◌≤◌, Bool, true, false, cond, eqb, List, [], ◌∷◌, ◌++◌, Option, Some, None, Ok, Err, refl, sym, ap, subst, ◌∙◌, arith}
use Rattle.std.proofs.lemmas.Bool.Decides.{nat_tests}
use Rattle.gup_base.specs.declared.entry.Entry.{Entry}
use Rattle.gup_plain.specs.declared.answer.Answer.{Answer}
use Rattle.gup_frames.specs.Frames.{FramesValue, taken, with_mark, copied, without_references}
use Rattle.gup_space.specs.Space.{SpaceValue, with_entry}
use Rattle.gup_space.specs.Shows.{Change, unlocked, AreEvents}
use Rattle.gup_space.proofs.After.{taking, filling, counting, marking_it, upgrading, breaking, putting, IsMadeBy}
use Rattle.gup_space.proofs.ShowsLemmas.{are_events, same_shown}
use Rattle.gup_spec_events.specs.Event.{CoreEvent, entry_of, take_frame, fill, upgrade, break_entry, put_entry}
use Rattle.gup_spec_events.specs.Invariant.{frame_of}
use Rattle.gup_spec_events.specs.Fault.{Fault, events_of, refusal_of, fills, fills_writable, marks, breaks}
use Rattle.gup_fault.specs.Faults.{KeepsBytes, IsFault, one_event, page_word, HasEntry, IsExclusiveEntry}
use Rattle.gup_fault.proofs.Puts.{put_here, put_away}
use Rattle.gup_fault.proofs.Bytes.{keeps_frames, keeps_replaced}

abbrev pub ch : (F F' : FramesValue) (S S' : SpaceValue) → Change
ch F F' S S' = record { old_frames = F; new_frames = F'; old_space = S; new_space = S' }

-- ---- what is the same in other words

pub faults_alike : (c : Change) (denied : Option Answer) (fault other : (a p : ℕ) → Fault) → ((a p : ℕ) → other a p ≡ fault a p) → IsFault c denied fault → IsFault c denied other
faults_alike c denied fault other same h =
    record {
      refused = λ a p. ap refusal_of (same a p) ∙ h.refused a p;
      unchanged = h.unchanged;
      events = record { table = h.events.table; lead = λ s a p frames space. rw (same a p) (h.events.lead s a p frames space) };
      bytes = h.bytes;
    }

pub changes_alike : (F F1 F' : FramesValue) (S S1 S' : SpaceValue) (denied : Option Answer) (fault : (a p : ℕ) → Fault) → F' ≡ F1 → S' ≡ S1 → IsFault (ch F F1 S S1) denied fault → IsFault (ch F F' S S') denied fault
changes_alike F F1 F' S S1 S' denied fault frames space h =
    subst (λ (x : FramesValue). IsFault (ch F x S S') denied fault) (sym frames)
    (subst (λ (y : SpaceValue). IsFault (ch F F1 S y) denied fault) (sym space) h)

-- nothing changes
pub still : (F F' : FramesValue) (S S' : SpaceValue) (denied : Option Answer) (fault : (a p : ℕ) → Fault) → F' ≡ F → S' ≡ S → ((a p : ℕ) → refusal_of (fault a p) ≡ denied) → ((a p : ℕ) → events_of (fault a p) ≡ []) → IsFault (ch F F' S S') denied fault
still F F' S S' denied fault frames space refused none =
    let same : IsFault (ch F F S S) denied fault =
    record {
      refused = refused;
      unchanged = λ answer is. (refl, refl);
      events = record { table = refl; lead = λ s a p old_frames old_space. rw (none a p) (old_frames, old_space) };
      bytes = record { frames = λ f w held. refl; pages = λ g w counted. refl };
    } in
    changes_alike F F F' S S S' denied fault frames space same

-- events happen
pub made : (c : Change) (es : (a p : ℕ) → List CoreEvent) → ((a p : ℕ) → IsMadeBy c p (es a p)) → KeepsBytes c → IsFault c None (λ a p. Ok (es a p))
made c es by bytes =
    record {
      refused = λ a p. refl;
      unchanged = λ answer is. absurd (cc);
      events = are_events c es by;
      bytes = bytes;
    }

-- the fault was refused
pub refused : (F F' : FramesValue) (S S' : SpaceValue) (answer : Answer) (fault : (a p : ℕ) → Fault) → F' ≡ F → S' ≡ S → ((a p : ℕ) → fault a p ≡ Err answer) → IsFault (ch F F' S S') (Some answer) fault
refused F F' S S' answer fault frames space is =
    still F F' S S' (Some answer) fault frames space (λ a p. ap refusal_of (is a p)) (λ a p. ap events_of (is a p))

-- the page is ready
pub passed : (F F' : FramesValue) (S S' : SpaceValue) (fault : (a p : ℕ) → Fault) → F' ≡ F → S' ≡ S → ((a p : ℕ) → fault a p ≡ Ok []) → IsFault (ch F F' S S') None fault
passed F F' S S' fault frames space is =
    still F F' S S' None fault frames space (λ a p. ap refusal_of (is a p)) (λ a p. ap events_of (is a p))

-- ---- a page without an entry gets a frame of zeros

abbrev pub filled_frames : ℕ → FramesValue → FramesValue
filled_frames f F = with_mark f true (taken f F)

zeroed : (F : FramesValue) (f w : ℕ) → (filled_frames f F).word f w ≡ 0
zeroed F f w = ap (λ (word : ℕ → ℕ). word w) (put_here f (λ _. 0) F.word)

keeps_filled : (F : FramesValue) (S : SpaceValue) (page f : ℕ) (b : Bool) → F.count f ≡ 0 → S.entry page ≡ None → KeepsBytes (ch F (filled_frames f F) S (with_entry page (Some (entry_of f b)) S))
keeps_filled F S page f b free absent =
    keeps_replaced (ch F (filled_frames f F) S (with_entry page (Some (entry_of f b)) S)) page f b free
    (λ g w apart. ap (λ (word : ℕ → ℕ). word w) (put_away f g (λ _. 0) F.word apart)) refl
    (λ w. zeroed F f w ∙ ap (λ entry. page_word F entry w) (sym absent))

pub filled : (F : FramesValue) (S : SpaceValue) (page f : ℕ) (free : Option ℕ) → free ≡ Some f → F.count f ≡ 0 → S.entry page ≡ None → IsFault (ch F (filled_frames f F) S (with_entry page (Some (entry_of f false)) S)) None (λ a p. fills a p page free)
filled F S page f free is none absent =
    let c : Change = ch F (filled_frames f F) S (with_entry page (Some (entry_of f false)) S) in
    faults_alike c None (λ a p. Ok (take_frame a f ∷ fill a p page f ∷ [])) (λ a p. fills a p page free)
    (λ a p. ap (λ o. fills a p page o) is)
    (made c (λ a p. take_frame a f ∷ fill a p page f ∷ [])
    (λ a p. record { own = (taking a f, (filling a page f, tt)); frames = refl; space = same_shown (unlocked c.new_space) (unlocked c.new_space) refl; table = refl })
    (keeps_filled F S page f false none absent))

pub filled_writable : (F : FramesValue) (S : SpaceValue) (page f : ℕ) (free : Option ℕ) → free ≡ Some f → F.count f ≡ 0 → S.entry page ≡ None → IsFault (ch F (filled_frames f F) S (with_entry page (Some (entry_of f true)) S)) None (λ a p. fills_writable a p page free)
filled_writable F S page f free is none absent =
    let c : Change = ch F (filled_frames f F) S (with_entry page (Some (entry_of f true)) S) in
    faults_alike c None (λ a p. Ok (take_frame a f ∷ fill a p page f ∷ upgrade a p page f ∷ [])) (λ a p. fills_writable a p page free)
    (λ a p. ap (λ o. fills_writable a p page o) is)
    (made c (λ a p. take_frame a f ∷ fill a p page f ∷ upgrade a p page f ∷ [])
    (λ a p. record {
      own = (taking a f, (filling a page f, (upgrading a page f, tt)));
      frames = refl;
      space = record {
        right = λ g. refl;
        pages = refl;
        entry = λ g. grind (arith, nat_tests);
        sequence = refl;
        has_pinned = refl;
        structure = refl;
        table = refl;
        walks = refl;
        place = refl;
        retired = refl;
      };
      table = refl;
    })
    (keeps_filled F S page f true none absent))

-- ---- a page gets a copy of its frame

abbrev pub broken_frames : (old new : ℕ) → FramesValue → FramesValue
broken_frames old new F = without_references old 1 (with_mark new true (copied old new (taken new F)))

keeps_broken : (F : FramesValue) (S : SpaceValue) (page f : ℕ) (e : Entry) (b : Bool) → F.count f ≡ 0 → S.entry page ≡ Some e → (F.count e.frame ≡ 0 → ⊥) → KeepsBytes (ch F (broken_frames e.frame f F) S (with_entry page (Some (entry_of f b)) S))
keeps_broken F S page f e b free had held =
    let apart : e.frame ≡ f → ⊥ = λ same. held (ap F.count same ∙ free) in
    keeps_replaced (ch F (broken_frames e.frame f F) S (with_entry page (Some (entry_of f b)) S)) page f b free
    (λ g w other.
    ap (λ (word : ℕ → ℕ). word w)
    (put_away f g ((taken f F).word e.frame) (taken f F).word other ∙ put_away f g (λ _. 0) F.word other))
    refl
    (λ w.
    ap (λ (word : ℕ → ℕ). word w)
    (put_here f ((taken f F).word e.frame) (taken f F).word ∙ put_away f e.frame (λ _. 0) F.word apart)
    ∙ ap (λ entry. page_word F entry w) (sym had))

pub broken : (F : FramesValue) (S : SpaceValue) (page f : ℕ) (e : Entry) (b : Bool) (free : Option ℕ) → free ≡ Some f → F.count f ≡ 0 → S.entry page ≡ Some e → (F.count e.frame ≡ 0 → ⊥) → IsFault (ch F (broken_frames e.frame f F) S (with_entry page (Some (entry_of f b)) S)) None (λ a p. breaks a p page e b free)
broken F S page f e b free is none had held =
    let c : Change = ch F (broken_frames e.frame f F) S (with_entry page (Some (entry_of f b)) S) in
    let es : (a p : ℕ) → List CoreEvent = λ a p. take_frame a f ∷ break_entry a p page e.frame f e.writable b ∷ put_entry a e.frame ∷ [] in
    faults_alike c None (λ a p. Ok (es a p)) (λ a p. breaks a p page e b free)
    (λ a p. ap (λ o. breaks a p page e b o) is)
    (made c es
    (λ a p. record {
      own = (taking a f, (breaking a page e.frame f e.writable b, (putting a e.frame, tt)));
      frames = refl;
      space = same_shown (unlocked c.new_space) (unlocked c.new_space) refl;
      table = refl;
    })
    (keeps_broken F S page f e b none had held))

-- ---- a page keeps its frame

pub keeps_marked : (F : FramesValue) (S : SpaceValue) (f : ℕ) → KeepsBytes (ch F (with_mark f true F) S S)
keeps_marked F S f = keeps_frames (ch F (with_mark f true F) S S) refl (λ g. refl)

pub marked_by : (F : FramesValue) (S : SpaceValue) (page : ℕ) (e : Entry) (a p : ℕ) → IsMadeBy (ch F (with_mark e.frame true F) S S) p (marks a p page e)
marked_by F S page e a p =
    record {
      own = (counting a page e.frame e.writable, (marking_it a page e.frame, tt));
      frames = refl;
      space = same_shown (unlocked S) (unlocked S) refl;
      table = refl;
    }

pub marked : (F : FramesValue) (S : SpaceValue) (page : ℕ) (e : Entry) → IsFault (ch F (with_mark e.frame true F) S S) None (λ a p. Ok (marks a p page e))
marked F S page e =
    made (ch F (with_mark e.frame true F) S S) (λ a p. marks a p page e) (λ a p. marked_by F S page e a p) (keeps_marked F S e.frame)

same_frames : (S : SpaceValue) (page : ℕ) (e : Entry) (b : Bool) → S.entry page ≡ Some e → (g : ℕ) → frame_of ((with_entry page (Some (entry_of e.frame b)) S).entry g) ≡ frame_of (S.entry g)
same_frames S page e b had g = at-page (eqb g page) refl
  where
    at-page : (same : Bool) → eqb g page ≡ same → frame_of (cond same (Some (entry_of e.frame b)) (S.entry g)) ≡ frame_of (S.entry g)
    at-page true is = let here : g ≡ page = grind (arith, nat_tests) in sym (ap (λ k. frame_of (S.entry k)) here ∙ ap frame_of had)
    at-page false is = refl

pub keeps_upgraded : (F F' : FramesValue) (S : SpaceValue) (page : ℕ) (e : Entry) → S.entry page ≡ Some e → F'.word ≡ F.word → KeepsBytes (ch F F' S (with_entry page (Some (entry_of e.frame true)) S))
keeps_upgraded F F' S page e had words =
    keeps_frames (ch F F' S (with_entry page (Some (entry_of e.frame true)) S)) words (same_frames S page e true had)

pub upgraded_by : (F : FramesValue) (S : SpaceValue) (page f a p : ℕ) → IsMadeBy (ch F F S (with_entry page (Some (entry_of f true)) S)) p (upgrade a p page f ∷ [])
upgraded_by F S page f a p =
    record {
      own = (upgrading a page f, tt);
      frames = refl;
      space = let S' : SpaceValue = unlocked (with_entry page (Some (entry_of f true)) S) in same_shown S' S' refl;
      table = refl;
    }

pub upgraded : (F : FramesValue) (S : SpaceValue) (page : ℕ) (e : Entry) → S.entry page ≡ Some e → IsFault (ch F F S (with_entry page (Some (entry_of e.frame true)) S)) None (λ a p. Ok (upgrade a p page e.frame ∷ []))
upgraded F S page e had =
    made (ch F F S (with_entry page (Some (entry_of e.frame true)) S)) (λ a p. upgrade a p page e.frame ∷ [])
    (λ a p. upgraded_by F S page e.frame a p) (keeps_upgraded F F S page e had refl)

pub marked_upgraded : (F : FramesValue) (S : SpaceValue) (page : ℕ) (e : Entry) → S.entry page ≡ Some e → IsFault (ch F (with_mark e.frame true F) S (with_entry page (Some (entry_of e.frame true)) S)) None (λ a p. Ok (marks a p page e ++ upgrade a p page e.frame ∷ []))
marked_upgraded F S page e had =
    let c : Change = ch F (with_mark e.frame true F) S (with_entry page (Some (entry_of e.frame true)) S) in
    made c (λ a p. marks a p page e ++ upgrade a p page e.frame ∷ [])
    (λ a p. record {
      own = (counting a page e.frame e.writable, (marking_it a page e.frame, (upgrading a page e.frame, tt)));
      frames = refl;
      space = record {
        right = λ g. refl;
        pages = refl;
        entry = λ g. refl;
        sequence = refl;
        has_pinned = refl;
        structure = refl;
        table = refl;
        walks = refl;
        place = refl;
        retired = refl;
      };
      table = refl;
    })
    (keeps_upgraded F (with_mark e.frame true F) S page e had refl)

-- ---- what the page has then

pub has_entry : (entry : Option Entry) (P : Entry → Type 0) (e : Entry) → entry ≡ Some e → P e → HasEntry entry P
has_entry entry P e is holds = subst (λ (o : Option Entry). HasEntry o P) (sym is) holds

-- the entry that the page got
pub got : (S S' : SpaceValue) (page : ℕ) (e : Entry) → S' ≡ with_entry page (Some e) S → S'.entry page ≡ Some e
got S S' page e is = ap (λ (s : SpaceValue). s.entry page) is ∙ put_here page (Some e) S.entry

pub exclusive : (F' : FramesValue) (S S' : SpaceValue) (page f : ℕ) (b : Bool) → S' ≡ with_entry page (Some (entry_of f b)) S → F'.mark f ≡ true → IsExclusiveEntry F' b (S'.entry page)
exclusive F' S S' page f b is mark =
    has_entry (S'.entry page) (λ e. (e.writable ≡ b) × (F'.mark e.frame ≡ true)) (entry_of f b) (got S S' page (entry_of f b) is) (refl, mark)

pub filled_mark : (F F' : FramesValue) (f : ℕ) → F' ≡ filled_frames f F → F'.mark f ≡ true
filled_mark F F' f is = ap (λ (x : FramesValue). x.mark f) is ∙ put_here f true (taken f F).mark

pub broken_mark : (F F' : FramesValue) (old new : ℕ) → F' ≡ broken_frames old new F → (new ≡ old → ⊥) → F'.mark new ≡ true
broken_mark F F' old new is apart = ap (λ (x : FramesValue). x.mark new) is ∙ grind (arith, nat_tests)

-- the frame that a page loses has its reference still
pub still_held : (F F' : FramesValue) (old new : ℕ) → (F.count old ≡ 0 → ⊥) → F.count new ≡ 0 → F' ≡ with_mark new true (copied old new (taken new F)) → 1 ≤ F'.count old
still_held F F' old new held free is =
    let apart : old ≡ new → ⊥ = λ same. held (ap F.count same ∙ free) in
    let count : F'.count old ≡ F.count old = ap (λ (x : FramesValue). x.count old) is ∙ put_away new old 1 F.count apart in
    let some : F.count old ≡ 0 → ⊥ = held in
    omega arith

-- ---- the same of an entry that was read

one_entry : (entry : Option Entry) (d e : Entry) → entry ≡ Some e → Some d ≡ entry → d ≡ e
one_entry entry d e is read = cc

pub marked_at : (F F' : FramesValue) (S : SpaceValue) (page : ℕ) (e d : Entry) → S.entry page ≡ Some e → Some d ≡ S.entry page → F' ≡ with_mark d.frame true F → AreEvents (ch F F' S S) (λ a p. marks a p page e)
marked_at F F' S page e d is read changed =
    let same : d.frame ≡ e.frame = ap (λ (x : Entry). x.frame) (one_entry (S.entry page) d e is read) in
    let frames : F' ≡ with_mark e.frame true F = changed ∙ ap (λ f. with_mark f true F) same in
    (changes_alike F (with_mark e.frame true F) F' S S S None (λ a p. Ok (marks a p page e)) frames refl (marked F S page e)).events

pub keeps_marked_at : (F F' : FramesValue) (S : SpaceValue) (f : ℕ) → F' ≡ with_mark f true F → KeepsBytes (ch F F' S S)
keeps_marked_at F F' S f is =
    subst (λ (x : FramesValue). KeepsBytes (ch F x S S)) (sym is) (keeps_marked F S f)

pub upgraded_at : (F : FramesValue) (S S' : SpaceValue) (page : ℕ) (e d : Entry) → S.entry page ≡ Some e → Some d ≡ S.entry page → S' ≡ with_entry page (Some (entry_of d.frame true)) S → AreEvents (ch F F S S') (λ a p. one_event (upgrade a p page e.frame))
upgraded_at F S S' page e d is read changed =
    let same : d.frame ≡ e.frame = ap (λ (x : Entry). x.frame) (one_entry (S.entry page) d e is read) in
    let space : S' ≡ with_entry page (Some (entry_of e.frame true)) S = changed ∙ ap (λ f. with_entry page (Some (entry_of f true)) S) same in
    (changes_alike F F F S (with_entry page (Some (entry_of e.frame true)) S) S' None (λ a p. Ok (one_event (upgrade a p page e.frame))) refl space (upgraded F S page e is)).events

pub keeps_upgraded_at : (F : FramesValue) (S S' : SpaceValue) (page : ℕ) (d : Entry) → Some d ≡ S.entry page → S' ≡ with_entry page (Some (entry_of d.frame true)) S → KeepsBytes (ch F F S S')
keeps_upgraded_at F S S' page d read is =
    subst (λ (x : SpaceValue). KeepsBytes (ch F F S x)) (sym is) (keeps_upgraded F F S page d (sym read) refl)
