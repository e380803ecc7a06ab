-- What a turn of a fork that copies a page, or fails, makes of frames, the parent and the child is the turn table's.
use Rattle.std.proofs.Common.{◌≡◌, ℕ, ◌+◌, ◌<◌, ◌≤◌, ◌&&◌, not, is_some, Bool, true, false, List, [], ◌∷◌, ◌++◌, Option, Some, None, IsSome, refl, ap, sym, subst, ◌∙◌, zero, suc, arith}
use Rattle.std.specs.Prelude.{◌==◌, nat_lt}
use Rattle.std.proofs.lemmas.Bool.Decides.{nat_tests}
use Rattle.gup_base.specs.declared.entry.Allowed.TheVariants.{Any}
use Rattle.gup_base.specs.declared.entry.Entry.{Entry}
use Rattle.gup_base.specs.declared.entry.Rights.{Rights}
use Rattle.gup_plain.specs.Event.{page_numbers, words}
use Rattle.gup_plain.specs.Put.{put}
use Rattle.gup_plain.specs.State.{growing, failed}
use Rattle.gup_plain.specs.declared.answer.Answer.TheVariants as answers
use Rattle.gup_plain.specs.declared.event.PlainEvent.TheVariants as events
use Rattle.gup_plain.specs.declared.note.What.TheVariants.{Silent, Event, Done}
use Rattle.gup_frames.specs.Frames.{FramesValue, taken}
use Rattle.gup_space.specs.Space.{SpaceValue, lacking}
use Rattle.gup_space.specs.Found.{found_for}
use Rattle.gup_space.specs.Shows.{ShowsFrames}
use Rattle.gup_space.proofs.After.{taking}
use Rattle.gup_space.proofs.ShowsLemmas.{shows_frames, shows_space}
use Rattle.gup_fork.specs.Forks.{ForkChange, AreForkEvents}
use Rattle.gup_spec_events.specs.State.{CoreState, Job, idle, marking, moving, forking, walking, ForkStep, between, counted, lowered, cleared, copying, failing}
use Rattle.gup_spec_events.specs.Event.{CoreEvent, happens, take_frame, copy_word, place_child, fail_fork, put_child, run, has_tables}
use Rattle.gup_spec_events.specs.Failure.{are_gone, fails, puts_entry, puts_entries}
use Rattle.gup_spec_events.proofs.Gone.{no_puts}
use Rattle.gup_spec_turns.specs.ForkTurns.{fork_turn, share_turn, failed_at, frame_turn, copy_turn, copying_turn, rights_in}
use Rattle.gup_spec_turns.specs.CoreTurn.{entry_in}
use Rattle.gup_spec_turns.specs.JobPlace.{JobPlace, unbegun, from_page, at_page, wants_frame, at_word, copying_place, job_place, StandsFork}
use Rattle.gup_op_base.proofs.Leading.{leads_alike}
use Rattle.gup_op_base.proofs.Searching.{tables_agree, frame_agrees}
use Rattle.gup_op_fork.proofs.Forking.{IsForking, LeadsOn, change, leads_there, put_here, not_copying, notes_alike}
use Rattle.gup_op_fork.specs.Forked.{IsHeldUp}
use Rattle.gup_spec_events.proofs.Runs.{run_behind}

-- ---- a fork that copies a page

-- so many words of it are copied, into the frame that is prepared
record IsCopying (s : CoreState) (p c page word : ℕ) (job : Job) : Type 0 where
  from : ℕ
  into : ℕ
  done : List ℕ
  is : job ≡ forking from into done (copying page word)
  birth : s.birth c ≡ growing p

-- where it wants a frame none is prepared, and no word is copied
wants_one : (s : CoreState) (a p c page : ℕ) (job : Job) (prepared : Option ℕ) → StandsFork s a p c job prepared → job_place job prepared ≡ wants_frame page → (prepared ≡ None) × IsCopying s p c page 0 job
wants_one s a p c page idle prepared stands place = absurd (cc)
wants_one s a p c page (forking q d done between) prepared stands place = absurd (cc)
wants_one s a p c page (forking q d done (counted g)) prepared stands place = absurd (cc)
wants_one s a p c page (forking q d done (lowered g)) prepared stands place = absurd stands
wants_one s a p c page (forking q d done (cleared g)) prepared stands place = absurd stands
wants_one s a p c page (forking q d done (copying g n)) None stands place =
    let same : g ≡ page = cc in (
      refl,
      record {
        from = q;
        into = d;
        done = done;
        is = ap (λ h. forking q d done (copying h n)) same ∙ ap (λ w. forking q d done (copying page w)) stands.2;
        birth = stands.0.birth;
      },
    )
wants_one s a p c page (forking q d done (copying g n)) (Some to) stands place = absurd (cc)
wants_one s a p c page (forking q d done failing) prepared stands place = absurd stands
wants_one s a p c page (marking q g f) prepared stands place = absurd stands
wants_one s a p c page (moving q g e allowed count) prepared stands place = absurd stands
wants_one s a p c page (walking q write long sequence step) prepared stands place = absurd stands

-- where it copies words the frame is prepared
copies_one : (s : CoreState) (a p c page word to : ℕ) (job : Job) (prepared : Option ℕ) → StandsFork s a p c job prepared → job_place job prepared ≡ at_word page word to → (prepared ≡ Some to) × IsCopying s p c page word job
copies_one s a p c page word to idle prepared stands place = absurd (cc)
copies_one s a p c page word to (forking q d done between) prepared stands place = absurd (cc)
copies_one s a p c page word to (forking q d done (counted g)) prepared stands place = absurd (cc)
copies_one s a p c page word to (forking q d done (lowered g)) prepared stands place = absurd stands
copies_one s a p c page word to (forking q d done (cleared g)) prepared stands place = absurd stands
copies_one s a p c page word to (forking q d done (copying g n)) None stands place = absurd (cc)
copies_one s a p c page word to (forking q d done (copying g n)) (Some f) stands place =
    let same : g ≡ page = cc in
    let many : n ≡ word = cc in
    let frame : f ≡ to = cc in (
      ap Some frame,
      record {
        from = q;
        into = d;
        done = done;
        is = ap (λ h. forking q d done (copying h n)) same ∙ ap (λ w. forking q d done (copying page w)) many;
        birth = stands.0.birth;
      },
    )
copies_one s a p c page word to (forking q d done failing) prepared stands place = absurd stands
copies_one s a p c page word to (marking q g f) prepared stands place = absurd stands
copies_one s a p c page word to (moving q g e allowed count) prepared stands place = absurd stands
copies_one s a p c page word to (walking q write long sequence step) prepared stands place = absurd stands

-- its turn, by the frame that is prepared
copies_on : (s : CoreState) (a p c page word : ℕ) (job : Job) (prepared : Option ℕ) → s.prepared a ≡ prepared → (here : IsCopying s p c page word job) → fork_turn s a p c job ≡ copying_turn s a p c here.done page word prepared
copies_on s a p c page word job prepared is here =
    ap (λ j. fork_turn s a p c j) here.is ∙ ap (λ o. copying_turn s a p c here.done page word o) is

-- ---- its frame

pub frame_taken : (F F' : FramesValue) (P C : SpaceValue) (a p c page to : ℕ) → found_for F C page Any ≡ Some to → F' ≡ taken to F → IsForking (change F F' P P C C) a p c (wants_frame page) (at_word page 0 to) (growing p) (Silent ∷ [])
frame_taken F F' P C a p c page to free is birth s shown fork =
    let both = wants_one s a p c page (s.job a) (s.prepared a) fork.at shown.place in
    let here = both.1 in
    let behind : CoreState = happens s (take_frame a to) in
    leads_alike {turn = record { events = take_frame a to ∷ []; whats = Silent ∷ [] }}
    (copies_on s a p c page 0 (s.job a) None both.0 here
    ∙ ap (λ o. frame_turn s a p c here.done page 0 o) (frame_agrees F C c page Any s shown.frames shown.child ∙ free))
    (record {
      says = refl;
      shown = record {
        frames = subst (λ (f : FramesValue). ShowsFrames f behind) (sym is) (shows_frames p F s (taking a to) shown.frames);
        parent = shows_space p P s (taking a to) shown.parent;
        child = shows_space c C s (taking a to) shown.child;
        place =
            ap (λ j. job_place j (put a (Some to) s.prepared a)) here.is
            ∙ ap (copying_place page 0) (put_here a (Some to) s.prepared);
        birth = here.birth;
      };
    })

-- ---- its words

pub word_copied : (k : ForkChange) (a p c page word to : ℕ) (e : Entry) → nat_lt word words ≡ true → k.old_parent.entry page ≡ Some e → ((done : List ℕ) → AreForkEvents k (λ q d. copy_word a q d done page word to e ∷ [])) → IsForking k a p c (at_word page word to) (at_word page (word + 1) to) (growing p) (Event (events.ForkWord p c page word) ∷ [])
word_copied k a p c page word to e more entry made birth s shown fork =
    let both = copies_one s a p c page word to (s.job a) (s.prepared a) fork.at shown.place in
    let here = both.1 in
    let behind = made here.done s p c fork.apart shown.frames shown.parent shown.child in
    leads_alike {turn = record { events = copy_word a p c here.done page word to e ∷ []; whats = Event (events.ForkWord p c page word) ∷ [] }}
    (copies_on s a p c page word (s.job a) (Some to) both.0 here
    ∙ ap (λ b. copy_turn s a p c here.done page word to b) more
    ∙ ap (λ o. record { events = copy_word a p c here.done page word to (entry_in o) ∷ []; whats = Event (events.ForkWord p c page word) ∷ [] }) (shown.parent.entry page ∙ entry))
    (leads_there k refl behind
    (ap (λ j. job_place j (s.prepared a)) (put_here a (forking p c here.done (copying page (word + 1))) s.job)
    ∙ ap (copying_place page (word + 1)) both.0)
    here.birth)

-- what the code has at hand
pub word_turned : (k : ForkChange) (a p c page word to next : ℕ) → next ≡ word → word < words → IsSome (k.old_parent.entry page) → ((done : List ℕ) (e : Entry) → k.old_parent.entry page ≡ Some e → AreForkEvents k (λ q d. copy_word a q d done page next to e ∷ [])) → IsForking k a p c (at_word page word to) (at_word page (word + 1) to) (growing p) (Event (events.ForkWord p c page next) ∷ [])
word_turned k a p c page word to next same less some made = go (k.old_parent.entry page) refl some
  where
    go : (entry : Option Entry) → k.old_parent.entry page ≡ entry → IsSome entry → IsForking k a p c (at_word page word to) (at_word page (word + 1) to) (growing p) (Event (events.ForkWord p c page next) ∷ [])
    go None entry some = absurd (cc)
    go (Some e) entry some =
        notes_alike k a p c (at_word page word to) (at_word page (word + 1) to) (growing p) _ _ (ap (λ w. Event (events.ForkWord p c page w) ∷ []) same)
        (word_copied k a p c page word to e (grind (arith, nat_tests, less)) entry
        (λ done. subst (λ (w : ℕ). AreForkEvents k (λ q d. copy_word a q d done page w to e ∷ [])) same (made done e entry)))

-- ---- its end

pub copy_placed : (k : ForkChange) (a p c page word to : ℕ) (rights : Rights) → nat_lt word words ≡ false → k.old_child.right page ≡ Some rights → ((done : List ℕ) → AreForkEvents k (λ q d. place_child a q d done page to rights ∷ [])) → IsForking k a p c (at_word page word to) (from_page (page + 1)) (growing p) (Silent ∷ [])
copy_placed k a p c page word to rights all mapped made birth s shown fork =
    let both = copies_one s a p c page word to (s.job a) (s.prepared a) fork.at shown.place in
    let here = both.1 in
    let behind = made here.done s p c fork.apart shown.frames shown.parent shown.child in
    leads_alike {turn = record { events = place_child a p c here.done page to rights ∷ []; whats = Silent ∷ [] }}
    (copies_on s a p c page word (s.job a) (Some to) both.0 here
    ∙ ap (λ b. copy_turn s a p c here.done page word to b) all
    ∙ ap (λ o. record { events = place_child a p c here.done page to (rights_in o) ∷ []; whats = Silent ∷ [] }) (shown.child.right page ∙ mapped))
    (leads_there k refl behind
    (ap (λ j. job_place j (put a None s.prepared a)) (put_here a (forking p c (page ∷ here.done) between) s.job))
    here.birth)

pub copy_turned : (k : ForkChange) (a p c page word to : ℕ) → words ≤ word → IsSome (k.old_child.right page) → ((done : List ℕ) (rights : Rights) → k.old_child.right page ≡ Some rights → AreForkEvents k (λ q d. place_child a q d done page to rights ∷ [])) → IsForking k a p c (at_word page word to) (from_page (page + 1)) (growing p) (Silent ∷ [])
copy_turned k a p c page word to all mapped made = go (k.old_child.right page) refl mapped
  where
    go : (right : Option Rights) → k.old_child.right page ≡ right → IsSome right → IsForking k a p c (at_word page word to) (from_page (page + 1)) (growing p) (Silent ∷ [])
    go None right some = absurd (cc)
    go (Some rights) right some =
        copy_placed k a p c page word to rights (grind (arith, nat_tests, all)) right (λ done. made done rights right)

-- ---- its failure

-- the events of a failure depend on what the child's entries are alone
gone_alike : (entry other : ℕ → Option Entry) (first n : ℕ) → ((page : ℕ) → entry page ≡ other page) → are_gone entry first n ≡ are_gone other first n
gone_alike entry other first zero same = refl
gone_alike entry other first (suc n) same =
    ap (λ e. not (is_some e) && are_gone entry (first + 1) n) (same first)
    ∙ ap (λ b. not (is_some (other first)) && b) (gone_alike entry other (first + 1) n same)

puts_alike : (a p c : ℕ) (done : List ℕ) (entry other : ℕ → Option Entry) (first n : ℕ) → ((page : ℕ) → entry page ≡ other page) → puts_entries a p c done entry first n ≡ puts_entries a p c done other first n
puts_alike a p c done entry other first zero same = refl
puts_alike a p c done entry other first (suc n) same =
    ap (λ e. puts_entry a p c done first e (are_gone entry (first + 1) n) ++ puts_entries a p c done entry (first + 1) n) (same first)
    ∙ ap (λ ends. puts_entry a p c done first (other first) ends ++ puts_entries a p c done entry (first + 1) n) (gone_alike entry other (first + 1) n same)
    ∙ ap (λ es. puts_entry a p c done first (other first) (are_gone other (first + 1) n) ++ es) (puts_alike a p c done entry other (first + 1) n same)

fails_alike : (a p c : ℕ) (done : List ℕ) (step : ForkStep) (entry other : ℕ → Option Entry) → ((page : ℕ) → entry page ≡ other page) → fails a p c done step entry ≡ fails a p c done step other
fails_alike a p c done step entry other same =
    ap (λ ends. fail_fork a p c done step ends ∷ puts_entries a p c done entry 0 page_numbers) (gone_alike entry other 0 page_numbers same)
    ∙ ap (λ es. fail_fork a p c done step (are_gone other 0 page_numbers) ∷ es) (puts_alike a p c done entry other 0 page_numbers same)

-- what is given back leaves each birth
put_leaves : (a p c d : ℕ) (done : List ℕ) (page : ℕ) (entry : Option Entry) (ends : Bool) (s : CoreState) → (run s (puts_entry a p c done page entry ends)).birth d ≡ s.birth d
put_leaves a p c d done page None ends s = refl
put_leaves a p c d done page (Some e) ends s = refl

puts_leave : (a p c d : ℕ) (done : List ℕ) (entry : ℕ → Option Entry) (first n : ℕ) (s : CoreState) → (run s (puts_entries a p c done entry first n)).birth d ≡ s.birth d
puts_leave a p c d done entry first zero s = refl
puts_leave a p c d done entry first (suc n) s =
    let ends : Bool = are_gone entry (first + 1) n in
    let behind : CoreState = run s (puts_entry a p c done first (entry first) ends) in
    ap (λ (t : CoreState). t.birth d) (run_behind s (puts_entry a p c done first (entry first) ends) (puts_entries a p c done entry (first + 1) n))
    ∙ puts_leave a p c d done entry (first + 1) n behind
    ∙ put_leaves a p c d done first (entry first) ends s

-- and with the last of it the actor is in the middle of nothing
puts_end : (a p c : ℕ) (done : List ℕ) (entry : ℕ → Option Entry) (first n : ℕ) (s : CoreState) → are_gone entry first n ≡ false → (run s (puts_entries a p c done entry first n)).job a ≡ idle
puts_end a p c done entry first zero s some = absurd (cc)
puts_end a p c done entry first (suc n) s some =
    at_entry (entry first) some (λ t left. puts_end a p c done entry (first + 1) n t left)
  where
    rest : List CoreEvent
    rest = puts_entries a p c done entry (first + 1) n

    Later : Type 0
    Later = (t : CoreState) → are_gone entry (first + 1) n ≡ false → (run t rest).job a ≡ idle

    by_last : (e : Entry) (ends : Bool) → are_gone entry (first + 1) n ≡ ends → Later → (run (happens s (put_child a p c done first e ends)) rest).job a ≡ idle
    by_last e true gone later =
        ap (λ (es : List CoreEvent). (run (happens s (put_child a p c done first e true)) es).job a) (no_puts a p c done entry (first + 1) n gone)
        ∙ put_here a idle s.job
    by_last e false gone later = later (happens s (put_child a p c done first e false)) gone

    at_entry : (here : Option Entry) → not (is_some here) && are_gone entry (first + 1) n ≡ false → Later → (run s (puts_entry a p c done first here (are_gone entry (first + 1) n) ++ rest)).job a ≡ idle
    at_entry None left later = later s left
    at_entry (Some e) left later = by_last e (are_gone entry (first + 1) n) refl later

-- after it the child has failed, and the actor is in the middle of nothing
failed_birth : (a p c : ℕ) (done : List ℕ) (step : ForkStep) (entry : ℕ → Option Entry) (s : CoreState) → (run s (fails a p c done step entry)).birth c ≡ failed
failed_birth a p c done step entry s =
    puts_leave a p c c done entry 0 page_numbers (happens s (fail_fork a p c done step (are_gone entry 0 page_numbers)))
    ∙ put_here c failed s.birth

failed_job : (a p c : ℕ) (done : List ℕ) (step : ForkStep) (entry : ℕ → Option Entry) (n : ℕ) (s : CoreState) (ends : Bool) → are_gone entry 0 n ≡ ends → (run (happens s (fail_fork a p c done step ends)) (puts_entries a p c done entry 0 n)).job a ≡ idle
failed_job a p c done step entry n s true gone =
    ap (λ (es : List CoreEvent). (run (happens s (fail_fork a p c done step true)) es).job a) (no_puts a p c done entry 0 n gone)
    ∙ put_here a idle s.job
failed_job a p c done step entry n s false gone =
    puts_end a p c done entry 0 n (happens s (fail_fork a p c done step false)) gone

failed_place : (a p c : ℕ) (done : List ℕ) (step : ForkStep) (entry : ℕ → Option Entry) (s : CoreState) → job_place ((run s (fails a p c done step entry)).job a) ((run s (fails a p c done step entry)).prepared a) ≡ unbegun
failed_place a p c done step entry s =
    ap (λ j. job_place j ((run s (fails a p c done step entry)).prepared a))
    (failed_job a p c done step entry page_numbers s (are_gone entry 0 page_numbers) refl)

-- the turn of a failure at this step
failed_alike : (a p c : ℕ) (done : List ℕ) (step : ForkStep) (entry : ℕ → Option Entry) (s : CoreState) → ((page : ℕ) → s.entry c page ≡ entry page) → failed_at s a p c done step ≡ record { events = fails a p c done step entry; whats = Event (events.ForkFail c) ∷ Done answers.NoFrame ∷ [] }
failed_alike a p c done step entry s same =
    ap (λ es. record { events = es; whats = Event (events.ForkFail c) ∷ Done answers.NoFrame ∷ [] }) (fails_alike a p c done step (s.entry c) entry same)

-- a page that is to be copied, for which no frame is found
copy_failed : (k : ForkChange) (a p c page : ℕ) → found_for k.old_frames k.old_child page Any ≡ None → ((done : List ℕ) → AreForkEvents k (λ q d. fails a q d done (copying page 0) k.old_child.entry)) → IsForking k a p c (wants_frame page) unbegun failed (Event (events.ForkFail c) ∷ Done answers.NoFrame ∷ [])
copy_failed k a p c page none made birth s shown fork =
    let both = wants_one s a p c page (s.job a) (s.prepared a) fork.at shown.place in
    let here = both.1 in
    let entry : ℕ → Option Entry = k.old_child.entry in
    let behind = made here.done s p c fork.apart shown.frames shown.parent shown.child in
    leads_alike {turn = record { events = fails a p c here.done (copying page 0) entry; whats = Event (events.ForkFail c) ∷ Done answers.NoFrame ∷ [] }}
    (copies_on s a p c page 0 (s.job a) None both.0 here
    ∙ ap (λ o. frame_turn s a p c here.done page 0 o) (frame_agrees k.old_frames k.old_child c page Any s shown.frames shown.child ∙ none)
    ∙ failed_alike a p c here.done (copying page 0) entry s shown.child.entry)
    (leads_there k refl behind
    (failed_place a p c here.done (copying page 0) entry s)
    (failed_birth a p c here.done (copying page 0) entry s))

lacks_some : (n : ℕ) → (n ≡ 0 → ⊥) → (n == 0) ≡ false
lacks_some n some = grind (arith, nat_tests, some)

-- a page that is to be shared, for which the child lacks a table
share_failed : (k : ForkChange) (a p c page : ℕ) → (lacking k.old_child page ≡ 0 → ⊥) → ((done : List ℕ) → AreForkEvents k (λ q d. fails a q d done (counted page) k.old_child.entry)) → IsForking k a p c (at_page page) unbegun failed (Event (events.ForkFail c) ∷ Done answers.NoFrame ∷ [])
share_failed k a p c page some made birth s shown fork = go (s.job a) fork.at shown.place
  where
    same_page : (m n : ℕ) → at_page m ≡ at_page n → m ≡ n
    same_page m n same = cc

    go : (job : Job) → StandsFork s a p c job (s.prepared a) → job_place job (s.prepared a) ≡ at_page page → LeadsOn k a p c s (fork_turn s a p c job) unbegun failed (Event (events.ForkFail c) ∷ Done answers.NoFrame ∷ [])
    go (forking q d done (counted g)) stands place =
        let entry : ℕ → Option Entry = k.old_child.entry in
        let behind = made done s p c fork.apart shown.frames shown.parent shown.child in
        leads_alike {turn = record { events = fails a p c done (counted page) entry; whats = Event (events.ForkFail c) ∷ Done answers.NoFrame ∷ [] }}
        (ap (λ h. share_turn s a p c done h (s.entry p h) (has_tables s c h)) (same_page g page place)
        ∙ ap (share_turn s a p c done page (s.entry p page)) (tables_agree k.old_frames k.old_child c page s shown.frames shown.child ∙ lacks_some (lacking k.old_child page) some)
        ∙ failed_alike a p c done (counted page) entry s shown.child.entry)
        (leads_there k refl behind (failed_place a p c done (counted page) entry s) (failed_birth a p c done (counted page) entry s))
    go idle stands place = absurd (cc)
    go (forking q d done between) stands place = absurd (cc)
    go (forking q d done (lowered g)) stands place = absurd stands
    go (forking q d done (cleared g)) stands place = absurd stands
    go (forking q d done (copying g n)) stands place = absurd (not_copying g n (s.prepared a) (at_page page) refl place)
    go (forking q d done failing) stands place = absurd stands
    go (marking q g f) stands place = absurd stands
    go (moving q g e allowed count) stands place = absurd stands
    go (walking q write long sequence step) stands place = absurd stands

-- a fork that can't go on where it stands
pub fork_failed : (k : ForkChange) (a p c : ℕ) (place : JobPlace) → IsHeldUp k.old_frames place k.old_child
    → ((page : ℕ) (done : List ℕ) → AreForkEvents k (λ q d. fails a q d done (counted page) k.old_child.entry))
    → ((page : ℕ) (done : List ℕ) → AreForkEvents k (λ q d. fails a q d done (copying page 0) k.old_child.entry))
    → IsForking k a p c place unbegun failed (Event (events.ForkFail c) ∷ Done answers.NoFrame ∷ [])
fork_failed k a p c (at_page page) held shares copies = share_failed k a p c page held (λ done. shares page done)
fork_failed k a p c (wants_frame page) held shares copies = copy_failed k a p c page held (λ done. copies page done)
fork_failed k a p c place held shares copies = absurd held
