-- What a turn of a fork makes of frames, the parent and the child is the turn table's.
use Rattle.std.proofs.Common.{◌≡◌, ℕ, ◌+◌, ◌-◌, ◌^◌, ◌<◌, ◌≤◌, ◌&&◌, Bool, true, false, if◌then◌else◌, MatchOption, List, [], ◌∷◌, Option, Some, None, IsSome, is_some, refl, ap, sym, subst, ◌∙◌, arith}
use Rattle.std.specs.Prelude.{◌==◌, nat_le}
use Rattle.std.proofs.lemmas.Bool.{false≢true}
use Rattle.std.proofs.lemmas.Bool.Decides.{nat_tests}
use Rattle.gup_base.specs.declared.entry.Entry.{Entry}
use Rattle.gup_base.specs.declared.entry.Rights.{Rights}
use Rattle.gup_plain.specs.Event.{page_numbers}
use Rattle.gup_plain.specs.Put.{put, lowest}
use Rattle.gup_plain.specs.State.{Birth, born, growing}
use Rattle.gup_plain.specs.declared.answer.Answer.TheVariants as answers
use Rattle.gup_plain.specs.declared.event.PlainEvent.TheVariants as events
use Rattle.gup_plain.specs.declared.note.What.{What}
use Rattle.gup_plain.specs.declared.note.What.TheVariants.{Silent, Event, Done}
use Rattle.gup_frames.specs.Frames.{FramesValue}
use Rattle.gup_space.specs.Space.{SpaceValue, lacking}
use Rattle.gup_space.specs.Shows.{ShowsFrames, ShowsSpace}
use Rattle.gup_fork.specs.Forks.{ForkChange, AreForkEvents, copies_frame, shares}
use Rattle.gup_fork.proofs.ForkAfter.{counting, passing}
use Rattle.gup_fork.proofs.ForkLemmas.{are_fork_events}
use Rattle.gup_spec_events.specs.State.{CoreState, Job, idle, marking, moving, forking, walking, between, counted, lowered, cleared, copying, failing}
use Rattle.gup_spec_events.specs.Event.{CoreEvent, bias, begin_fork, count_page, pass_page, end_fork, copies_page, run, has_tables}
use Rattle.gup_spec_turns.specs.CoreTurn.{CoreTurn}
use Rattle.gup_spec_turns.specs.ForkTurns.{first_behind, next_page, next_turn, page_turn, share_turn, fork_turn}
use Rattle.gup_spec_turns.specs.JobPlace.{JobPlace, copying_place, job_place, place_in, KeepsFrame, StandsFork, unbegun, from_page, at_page, wants_frame, at_word}
use Rattle.gup_op_base.specs.declared.jobs.JobPlace.{JobPlace as KeptPlace}
use Rattle.gup_op_base.specs.declared.jobs.JobPlace.TheVariants.{Unbegun, From, At, Wanting, Copying}
use Rattle.gup_op_base.specs.Jobs.{place_of}
use Rattle.gup_op_fork.specs.Forked.{ForkingView, ShowsForking, StandsAsFork, IsReadyAt}
use Rattle.gup_op_base.specs.Turns.{Leads, IsTurnOf}
use Rattle.gup_op_base.proofs.Leading.{leads_alike}
use Rattle.gup_maps.specs.Maps.{IsNextPage, IsLastPage}
use Rattle.gup_op_base.proofs.Searching.{lowest_same, tables_agree}
use Rattle.gup_op_fork.proofs.Searching.{found_at, none_found, unmapped_is, below_numbers}

abbrev pub change : (F F' : FramesValue) (P P' C C' : SpaceValue) → ForkChange
change F F' P P' C C' =
    record { old_frames = F; new_frames = F'; old_parent = P; new_parent = P'; old_child = C; new_child = C' }

pub put_here : {X : Type 0} (k : ℕ) (x : X) (f : ℕ → X) → put k x f k ≡ x
put_here k x f = grind (arith, nat_tests)

-- what there is before such a change and after it
abbrev pub before : ForkChange → JobPlace → Birth → ForkingView
before k place birth = record { frames = k.old_frames; parent = k.old_parent; child = k.old_child; place = place; birth = birth }

abbrev pub behind : ForkChange → JobPlace → Birth → ForkingView
behind k place birth = record { frames = k.new_frames; parent = k.new_parent; child = k.new_child; place = place; birth = birth }

-- a turn of a fork that makes it, from one place to the next, whatever the child was; now it is this
abbrev pub IsForking : ForkChange → (a p c : ℕ) → (old new : JobPlace) → (now : Birth) → List What → Type 0
IsForking k a p c old new now whats =
    (birth : Birth) → IsTurnOf (ShowsForking a p c) (StandsAsFork a p c) (before k old birth) (behind k new now) (λ s. fork_turn s a p c (s.job a)) whats

-- and its end from one state
abbrev pub LeadsOn : ForkChange → (a p c : ℕ) → CoreState → CoreTurn → (new : JobPlace) → (now : Birth) → List What → Type 0
LeadsOn k a p c s turn new now whats = Leads (ShowsForking a p c) (behind k new now) s turn whats

pub leads_there : (k : ForkChange) {a p c : ℕ} {s : CoreState} {turn : CoreTurn} {new : JobPlace} {now : Birth} {whats : List What} → turn.whats ≡ whats
    → ShowsFrames k.new_frames (run s turn.events) × ShowsSpace p k.new_parent (run s turn.events) × ShowsSpace c k.new_child (run s turn.events)
    → place_in (run s turn.events) a ≡ new → (run s turn.events).birth c ≡ now → LeadsOn k a p c s turn new now whats
leads_there k says led place birth =
    record { says = says; shown = record { frames = led.0; parent = led.1; child = led.2; place = place; birth = birth } }

-- a fork that copies a page stands at none of the other places
abbrev is_copying : JobPlace → Bool
is_copying unbegun = false
is_copying (from_page page) = false
is_copying (at_page page) = false
is_copying (wants_frame page) = true
is_copying (at_word page word to) = true
is_copying place = false

pub not_copying : (page word : ℕ) (prepared : Option ℕ) (place : JobPlace) → is_copying place ≡ false → copying_place page word prepared ≡ place → ⊥
not_copying page word None place other is = false≢true (sym other ∙ ap is_copying (sym is))
not_copying page word (Some to) place other is = false≢true (sym other ∙ ap is_copying (sym is))

-- ---- the beginning

-- a fork stands at no place of a move, and at the beginning where it stands at no other
pub first_place : (F : FramesValue) (a : ℕ) (P S : SpaceValue) (place : KeptPlace) → ((from : ℕ) → place ≡ From from → ⊥) → ((page : ℕ) → place ≡ At page → ⊥) → ((page : ℕ) → place ≡ Wanting page → ⊥)
    → ((word to page : ℕ) → place ≡ Copying word to page → ⊥) → IsReadyAt F a (place_of place) P S → place_of place ≡ unbegun
first_place F a P S Unbegun from at wanting copied ready = refl
first_place F a P S (From page) from at wanting copied ready = absurd (from page refl)
first_place F a P S (At page) from at wanting copied ready = absurd (at page refl)
first_place F a P S (Wanting page) from at wanting copied ready = absurd (wanting page refl)
first_place F a P S (Copying word to page) from at wanting copied ready = absurd (copied word to page refl)
first_place F a P S place from at wanting copied ready = absurd ready

pub begun : (k : ForkChange) (a p c : ℕ) → AreForkEvents k (λ q d. begin_fork a q d ∷ []) → IsForking k a p c unbegun (from_page 0) (growing p) (Event (events.ForkBegin p c) ∷ [])
begun k a p c made birth s shown fork = go (s.job a) fork.at shown.place
  where
    go : (job : Job) → StandsFork s a p c job (s.prepared a) → job_place job (s.prepared a) ≡ unbegun → LeadsOn k a p c s (fork_turn s a p c job) (from_page 0) (growing p) (Event (events.ForkBegin p c) ∷ [])
    go idle stands place =
        let behind = made s p c fork.apart shown.frames shown.parent shown.child in
        leads_there k refl behind
        (ap (λ j. job_place j (s.prepared a)) (put_here a (forking p c [] between) s.job))
        (put_here c (growing p) s.birth)
    go (forking q d done between) stands place = absurd (cc)
    go (forking q d done (counted page)) stands place = absurd (cc)
    go (forking q d done (lowered page)) stands place = absurd stands
    go (forking q d done (cleared page)) stands place = absurd stands
    go (forking q d done (copying page n)) stands place = absurd (not_copying page n (s.prepared a) unbegun refl place)
    go (forking q d done failing) stands place = absurd stands
    go (marking q page f) stands place = absurd stands
    go (moving q page e allowed count) stands place = absurd stands
    go (walking q write long sequence step) stands place = absurd stands

-- ---- the next page

-- where a fork looks for its next page, as the child that the state shows
looks_on : (C : SpaceValue) (c : ℕ) (s : CoreState) (done : List ℕ) (from : ℕ) (found : Option ℕ) → ShowsSpace c C s → from_page (first_behind done) ≡ from_page from → lowest from (page_numbers - from) (λ page. is_some (C.right page)) ≡ found → next_page (s.right c) done ≡ found
looks_on C c s done from found child place is =
    let at : first_behind done ≡ from = same_page (first_behind done) from place in
    lowest_same (first_behind done) (page_numbers - first_behind done) (λ page. is_some (s.right c page)) (λ page. is_some (C.right page)) (λ page. ap is_some (child.right page))
    ∙ ap (λ first. lowest first (page_numbers - first) (λ page. is_some (C.right page))) at
    ∙ is
  where
    same_page : (m n : ℕ) → from_page m ≡ from_page n → m ≡ n
    same_page m n same = cc

pub ended : (k : ForkChange) (a p c from : ℕ) → ((done : List ℕ) → AreForkEvents k (λ q d. end_fork a q d done ∷ [])) → lowest from (page_numbers - from) (λ page. is_some (k.old_child.right page)) ≡ None → IsForking k a p c (from_page from) unbegun born (Event (events.ForkEnd p c) ∷ Done answers.Plain ∷ [])
ended k a p c from made none birth s shown fork = go (s.job a) fork.at shown.place
  where
    go : (job : Job) → StandsFork s a p c job (s.prepared a) → job_place job (s.prepared a) ≡ from_page from → LeadsOn k a p c s (fork_turn s a p c job) unbegun born (Event (events.ForkEnd p c) ∷ Done answers.Plain ∷ [])
    go (forking q d done between) stands place =
        let behind = made done s p c fork.apart shown.frames shown.parent shown.child in
        leads_alike
        (ap (λ o. next_turn s a p c done o) (looks_on k.old_child c s done from None shown.child place none))
        (leads_there k refl behind
        (ap (λ j. job_place j (s.prepared a)) (put_here a idle s.job))
        (put_here c born s.birth))
    go idle stands place = absurd (cc)
    go (forking q d done (counted page)) stands place = absurd (cc)
    go (forking q d done (lowered page)) stands place = absurd stands
    go (forking q d done (cleared page)) stands place = absurd stands
    go (forking q d done (copying page n)) stands place = absurd (not_copying page n (s.prepared a) (from_page from) refl place)
    go (forking q d done failing) stands place = absurd stands
    go (marking q page f) stands place = absurd stands
    go (moving q page e allowed count) stands place = absurd stands
    go (walking q write long sequence step) stands place = absurd stands

-- a page without an entry changes nothing
pass_events : (F : FramesValue) (P C : SpaceValue) (a page : ℕ) (done : List ℕ) → AreForkEvents (change F F P P C C) (λ q d. pass_page a q d done page ∷ [])
pass_events F P C a page done =
    are_fork_events (change F F P P C C) a (λ q d. pass_page a q d done page ∷ [])
    (λ q d. record { own = (passing done page, tt); frames = refl; parent = refl; child = refl })

pub passed : (F : FramesValue) (P C : SpaceValue) (a p c from page : ℕ) → lowest from (page_numbers - from) (λ g. is_some (C.right g)) ≡ Some page → P.entry page ≡ None → IsForking (change F F P P C C) a p c (from_page from) (from_page (page + 1)) (growing p) (Event (events.ForkPage p c page) ∷ [])
passed F P C a p c from page found empty birth s shown fork = go (s.job a) fork.at shown.place
  where
    go : (job : Job) → StandsFork s a p c job (s.prepared a) → job_place job (s.prepared a) ≡ from_page from → LeadsOn (change F F P P C C) a p c s (fork_turn s a p c job) (from_page (page + 1)) (growing p) (Event (events.ForkPage p c page) ∷ [])
    go (forking q d done between) stands place =
        let behind = pass_events F P C a page done s p c fork.apart shown.frames shown.parent shown.child in
        leads_alike
        (ap (λ o. next_turn s a p c done o) (looks_on C c s done from (Some page) shown.child place found)
        ∙ ap (λ e. page_turn s a p c done page e) (shown.parent.entry page ∙ empty))
        (leads_there (change F F P P C C) refl behind
        (ap (λ j. job_place j (s.prepared a)) (put_here a (forking p c (page ∷ done) between) s.job))
        stands.birth)
    go idle stands place = absurd (cc)
    go (forking q d done (counted g)) stands place = absurd (cc)
    go (forking q d done (lowered g)) stands place = absurd stands
    go (forking q d done (cleared g)) stands place = absurd stands
    go (forking q d done (copying g n)) stands place = absurd (not_copying g n (s.prepared a) (from_page from) refl place)
    go (forking q d done failing) stands place = absurd stands
    go (marking q g f) stands place = absurd stands
    go (moving q g e allowed count) stands place = absurd stands
    go (walking q write long sequence step) stands place = absurd stands

-- a page that is counted keeps the table lock
count_events : (F : FramesValue) (P P' C : SpaceValue) (a page : ℕ) (e : Entry) (copied : Bool) (done : List ℕ) → P' ≡ record P { table = Some a } → AreForkEvents (change F F P P' C C) (λ q d. count_page a q d done page e copied ∷ [])
count_events F P P' C a page e copied done locked =
    are_fork_events (change F F P P' C C) a (λ q d. count_page a q d done page e copied ∷ [])
    (λ q d. record { own = (counting done page e copied, tt); frames = refl; parent = locked; child = refl })

-- the state copies what the frames and the parent that it shows do
copies_alike : (F : FramesValue) (P : SpaceValue) (p f : ℕ) (s : CoreState) → ShowsFrames F s → ShowsSpace p P s → copies_page s p f ≡ copies_frame F P f
copies_alike F P p f s frames parent =
    ap (λ (b : Bool). b && (s.has_pinned p && nat_le bias (s.count f))) (frames.mark f)
    ∙ ap (λ (b : Bool). F.mark f && (b && nat_le bias (s.count f))) parent.has_pinned
    ∙ ap (λ (n : ℕ). F.mark f && (P.has_pinned && nat_le bias n)) (frames.count f)

-- a page that was counted is to be copied, or shared
abbrev pub counted_place : (copied : Bool) → (page : ℕ) → JobPlace
counted_place true page = wants_frame page
counted_place false page = at_page page

counted_at : (p c page : ℕ) (done : List ℕ) (copied : Bool) (prepared : Option ℕ) → prepared ≡ None → job_place (forking p c done (if copied then copying page 0 else counted page)) prepared ≡ counted_place copied page
counted_at p c page done true prepared none = ap (copying_place page 0) none
counted_at p c page done false prepared none = refl

pub count_turned : (F : FramesValue) (P P' C : SpaceValue) (a p c from page : ℕ) (e : Entry) (copied : Bool) → lowest from (page_numbers - from) (λ g. is_some (C.right g)) ≡ Some page → P.entry page ≡ Some e → copied ≡ copies_frame F P e.frame → P' ≡ record P { table = Some a } → IsForking (change F F P P' C C) a p c (from_page from) (counted_place copied page) (growing p) (Silent ∷ [])
count_turned F P P' C a p c from page e copied found entry is locked birth s shown fork = go (s.job a) fork.keeps fork.at shown.place
  where
    go : (job : Job) → KeepsFrame job (s.prepared a) → StandsFork s a p c job (s.prepared a) → job_place job (s.prepared a) ≡ from_page from → LeadsOn (change F F P P' C C) a p c s (fork_turn s a p c job) (counted_place copied page) (growing p) (Silent ∷ [])
    go (forking q d done between) none stands place =
        let behind = count_events F P P' C a page e copied done locked s p c fork.apart shown.frames shown.parent shown.child in
        leads_alike {turn = record { events = count_page a p c done page e copied ∷ []; whats = Silent ∷ [] }}
        (ap (λ o. next_turn s a p c done o) (looks_on C c s done from (Some page) shown.child place found)
        ∙ ap (λ o. page_turn s a p c done page o) (shown.parent.entry page ∙ entry)
        ∙ ap (λ (b : Bool). record { events = count_page a p c done page e b ∷ []; whats = Silent ∷ [] }) (copies_alike F P p e.frame s shown.frames shown.parent ∙ sym is))
        (leads_there (change F F P P' C C) refl behind
        (ap (λ j. job_place j (s.prepared a)) (put_here a (forking p c done (if copied then copying page 0 else counted page)) s.job)
        ∙ counted_at p c page done copied (s.prepared a) none)
        stands.birth)
    go idle keeps stands place = absurd (cc)
    go (forking q d done (counted g)) keeps stands place = absurd (cc)
    go (forking q d done (lowered g)) keeps stands place = absurd stands
    go (forking q d done (cleared g)) keeps stands place = absurd stands
    go (forking q d done (copying g n)) keeps stands place = absurd (not_copying g n (s.prepared a) (from_page from) refl place)
    go (forking q d done failing) keeps stands place = absurd stands
    go (marking q g f) keeps stands place = absurd stands
    go (moving q g e allowed count) keeps stands place = absurd stands
    go (walking q write long sequence step) keeps stands place = absurd stands

-- ---- the share of a page

page_shared : (k : ForkChange) (a p c page : ℕ) (e : Entry) → lacking k.old_child page ≡ 0 → k.old_parent.entry page ≡ Some e → ((done : List ℕ) → AreForkEvents k (λ q d. shares a q d done page e)) → IsForking k a p c (at_page page) (from_page (page + 1)) (growing p) (Event (events.ForkPage p c page) ∷ [])
page_shared k a p c page e path entry made birth s shown fork = go (s.job a) fork.at shown.place
  where
    same_page : (m n : ℕ) → at_page m ≡ at_page n → m ≡ n
    same_page m n same = cc

    go : (job : Job) → StandsFork s a p c job (s.prepared a) → job_place job (s.prepared a) ≡ at_page page → LeadsOn k a p c s (fork_turn s a p c job) (from_page (page + 1)) (growing p) (Event (events.ForkPage p c page) ∷ [])
    go (forking q d done (counted g)) stands place =
        let behind = made done s p c fork.apart shown.frames shown.parent shown.child in
        leads_alike
        (ap (λ h. share_turn s a p c done h (s.entry p h) (has_tables s c h)) (same_page g page place)
        ∙ ap (λ o. share_turn s a p c done page o (has_tables s c page)) (shown.parent.entry page ∙ entry)
        ∙ ap (share_turn s a p c done page (Some e)) (tables_agree k.old_frames k.old_child c page s shown.frames shown.child ∙ ap (λ n. n == 0) path))
        (leads_there k refl behind
        (ap (λ j. job_place j (s.prepared a)) (put_here a (forking p c (page ∷ done) between) (put a (forking p c done (cleared page)) (put a (forking p c done (lowered page)) s.job))))
        stands.0.birth)
    go idle stands place = absurd (cc)
    go (forking q d done between) stands place = absurd (cc)
    go (forking q d done (lowered g)) stands place = absurd stands
    go (forking q d done (cleared g)) stands place = absurd stands
    go (forking q d done (copying g n)) stands place = absurd (not_copying g n (s.prepared a) (at_page page) refl place)
    go (forking q d done failing) stands place = absurd stands
    go (marking q g f) stands place = absurd stands
    go (moving q g e allowed count) stands place = absurd stands
    go (walking q write long sequence step) stands place = absurd stands

-- ---- the child's next page

pub next_found : (C : SpaceValue) (from : ℕ) (found : Option ℕ) → ((g : ℕ) (rights : Rights) → C.right g ≡ Some rights → g < page_numbers) → MatchOption found (IsLastPage C.right from) (IsNextPage C.right from) → found ≡ lowest from (page_numbers - from) (λ g. is_some (C.right g))
next_found C from None numbered last =
    sym (none_found from (page_numbers - from) (λ g. is_some (C.right g)) (λ g above. unmapped_is (C.right g) (last g above)))
next_found C from (Some page) numbered next =
    let below : page < page_numbers = below_numbers C page numbered next.mapped in
    let above : from ≤ page = next.above in
    sym (found_at from (page_numbers - from) page (λ g. is_some (C.right g)) above (omega arith) next.mapped (λ g least less. unmapped_is (C.right g) (next.least g least less)))

-- no page has a number from 2^35 on
pub none_past : (from : ℕ) (test : ℕ → Bool) → 2 ^ 35 ≤ from → None ≡ lowest from (page_numbers - from) test
unfolding page_numbers
none_past from test past = let none : 2 ^ 35 - from ≡ 0 = omega arith in rw none refl

-- ---- what the code has at hand

-- the same turn with other notes
pub notes_alike : (k : ForkChange) (a p c : ℕ) (old new : JobPlace) (now : Birth) (whats other : List What) → other ≡ whats → IsForking k a p c old new now whats → IsForking k a p c old new now other
notes_alike k a p c old new now whats other same h =
    subst (λ (ws : List What). IsForking k a p c old new now ws) (sym same) h

-- the same events, with the parent in other words
pub other_parent : (F F' : FramesValue) (P P' P'' C C' : SpaceValue) (events : (p c : ℕ) → List CoreEvent) → P'' ≡ P' → AreForkEvents (change F F' P P' C C') events → AreForkEvents (change F F' P P'' C C') events
other_parent F F' P P' P'' C C' events same h =
    subst (λ (x : SpaceValue). AreForkEvents (change F F' P x C C') events) (sym same) h

pub share_turned : (k : ForkChange) (a p c page : ℕ) → lacking k.old_child page ≡ 0 → IsSome (k.old_parent.entry page) → ((done : List ℕ) (e : Entry) → k.old_parent.entry page ≡ Some e → AreForkEvents k (λ q d. shares a q d done page e)) → IsForking k a p c (at_page page) (from_page (page + 1)) (growing p) (Event (events.ForkPage p c page) ∷ [])
share_turned k a p c page path some made = go (k.old_parent.entry page) refl some
  where
    go : (entry : Option Entry) → k.old_parent.entry page ≡ entry → IsSome entry → IsForking k a p c (at_page page) (from_page (page + 1)) (growing p) (Event (events.ForkPage p c page) ∷ [])
    go None entry some = absurd (cc)
    go (Some e) entry some = page_shared k a p c page e path entry (λ done. made done e entry)
