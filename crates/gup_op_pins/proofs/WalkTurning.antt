-- A step of a walk is the turn of a pin that stands at it.
use Rattle.std.proofs.Common.{nat_lt, ◌&&◌, ◌≡◌, ℕ, ◌+◌, ◌-◌, ◌≤◌, ◌^◌, ◌==◌, Bool, true, false, List, [], ◌∷◌, length, Option, Some, None, zero, suc, refl, sym, ap, ◌∙◌, subst, arith}
use Rattle.gup_base.specs.declared.entry.Entry.{Entry}
use Rattle.gup_base.specs.declared.entry.Want.{Want}
use Rattle.gup_plain.specs.declared.note.What.{What}
use Rattle.gup_frames.specs.Frames.{FramesValue}
use Rattle.gup_space.specs.Space.{SpaceValue}
use Rattle.gup_space.specs.Shows.{ShowsFrames, ShowsSpace}
use Rattle.gup_spec_events.specs.State.{CoreState, Taken, Job, idle, moving, walking, WalkStep, entered, ready, reading, read, grabbed, rechecked, differed, refused, stopped, dropping, over}
use Rattle.std.proofs.lemmas.Bool.Decides.{nat_tests}
use Rattle.gup_plain.specs.Put.{put}
use Rattle.gup_plain.specs.declared.answer.Answer.TheVariants as answers
use Rattle.gup_plain.specs.declared.event.PlainEvent.TheVariants as events
use Rattle.gup_plain.specs.declared.note.What.TheVariants.{Silent, Event, Done}
use Rattle.gup_handles.specs.Handles.{HandlesValue, unmade, held}
use Rattle.gup_spec_events.specs.Event.{raise_flag, enter_walk, happens, run, writes_taken, read_again, leave_walk, make_handle}
use Rattle.gup_fast.specs.Walks.{WalkValue, Stage, at, left, unbegun as unbegun_stage, walk_at, job_at, ShowsWalk, IsWalk, FitsStage, left_in}
use Rattle.gup_handles.specs.Shows.{ShowsHandles}
use Rattle.gup_spec_turns.specs.JobPlace.{job_place, unbegun, in_walk}
use Rattle.gup_spec_turns.specs.PinPlace.{HasTaken, HasPages, IsAtStep, StandsAtPage as IsAtPage}
use Rattle.gup_spec_turns.specs.PinTurns.{pin_turn, pin_turn_in, begins_or_pins}
use Rattle.gup_spec_turns.specs.WalkTurns.{walk_turn, ready_turn, all_turn}
use Rattle.gup_op_base.specs.Jobs.{step_of, place_of}
use Rattle.gup_op_base.specs.declared.jobs.JobPlace.{JobPlace as KeptPlace}
use Rattle.gup_op_base.specs.declared.jobs.JobPlace.TheVariants.{Unbegun, From, At, Wanting, Copying, Cleared, Single, Shared, Walking}
use Rattle.gup_op_base.specs.declared.jobs.WalkPlace.{WalkPlace}
use Rattle.gup_op_base.specs.declared.jobs.WalkPlace.TheVariants.{Entered, Ready, Read, Grabbed, Rechecked, Differed, Refused, Stopped, Dropping}
use Rattle.gup_op_base.specs.Turns.{Leads, IsTurnOf}
use Rattle.gup_op_base.proofs.Leading.{ch, leads_alike}
use Rattle.gup_op_pins.specs.Pins.{PinningView, ShowsPinning, StandsAtPage, EndAt, IsReadyToWalk, IsReadyToPin, last_page}
use Rattle.gup_op_pins.specs.Steps.{HasEnd, IsStepTurn, IsStep, stage_place, last_at}
use Rattle.gup_op_pins.proofs.Pinning.{idle_job, shows_same, IsOver, no_last, none_taken, pins_made, writes_some}

-- ---- where the pin stands

walking_job : (s : CoreState) (a p page n many : ℕ) (want : Want) (fast : Bool) (sequence : ℕ) (step : WalkStep) (job : Job) (prepared : Option ℕ) → IsAtPage s a p page n many want fast job → job_place job prepared ≡ in_walk sequence step → job ≡ walking p want.write want.long sequence step
walking_job s a p page n many want fast sequence step idle prepared at_it place = absurd (cc)
walking_job s a p page n many want fast sequence step (moving q g e allowed count) prepared at_it place = absurd (cc)
walking_job s a p page n many want fast sequence step (walking q write long r there) prepared at_it place =
    let sequences : r ≡ sequence = cc in
    let steps : there ≡ step = cc in
    ap (λ (i : ℕ). walking i write long r there) at_it.of ∙ ap (λ (b : Bool). walking p b long r there) at_it.writes
    ∙ ap (λ (b : Bool). walking p want.write b r there) at_it.keeps ∙ ap (λ (i : ℕ). walking p want.write want.long i there) sequences
    ∙ ap (walking p want.write want.long sequence) steps
walking_job s a p page n many want fast sequence step job prepared at_it place = absurd at_it

-- the first pages of a pin end at the last of them
first_pages : (p page many last : ℕ) (want : Want) (taken : List Taken) → HasTaken p page want many taken → last ≡ page + (many - 1) → EndAt (Some last) taken
first_pages p page many last want [] has is k t found = absurd (cc)
first_pages p page many last want (u ∷ taken) has is k t found =
    let here : t.page ≡ page + k = (has.each k t found).1 in
    omega (arith, here, has.many, is)

ends_here : (step : WalkStep) (p page many last q sequence : ℕ) (want : Want) (write long : Bool) (kept : Option ℕ) (taken : List Taken) → HasEnd step kept last page many → EndAt kept taken → HasPages p page want many taken (walking q write long sequence step) → EndAt (Some last) taken
ends_here dropping p page many last q sequence want write long kept taken is ends pages = subst (λ (o : Option ℕ). EndAt o taken) is ends
ends_here entered p page many last q sequence want write long kept taken is ends pages = first_pages p page many last want taken pages is
ends_here ready p page many last q sequence want write long kept taken is ends pages = first_pages p page many last want taken pages is
ends_here (reading g path) p page many last q sequence want write long kept taken is ends pages = first_pages p page many last want taken pages is
ends_here (read g path e) p page many last q sequence want write long kept taken is ends pages = first_pages p page many last want taken pages is
ends_here (grabbed g path e) p page many last q sequence want write long kept taken is ends pages = first_pages p page many last want taken pages is
ends_here (rechecked g e) p page many last q sequence want write long kept taken is ends pages = first_pages p page many last want taken pages is
ends_here (differed f) p page many last q sequence want write long kept taken is ends pages = first_pages p page many last want taken pages is
ends_here refused p page many last q sequence want write long kept taken is ends pages = first_pages p page many last want taken pages is
ends_here stopped p page many last q sequence want write long kept taken is ends pages = first_pages p page many last want taken pages is
ends_here over p page many last q sequence want write long kept taken is ends pages = first_pages p page many last want taken pages is

-- the walk that stands there is one
pub is_walk : (page n sequence : ℕ) (want : Want) (step : WalkStep) (F : FramesValue) (S : SpaceValue) (taken : List ℕ) → 1 ≤ n → n ≤ 16 → page + n ≤ 2 ^ 35 → length taken ≤ n → IsAtStep (page + length taken) n (length taken) step → IsReadyToWalk F S taken step → IsWalk (walk_at page n want sequence (at step) taken)
is_walk page n sequence want step F S taken some most range few here steps =
    record { some = some; most = most; range = range; few = few; fits = fits step here steps }
  where
    none : (frames : List ℕ) → length frames ≡ 0 → frames ≡ []
    none [] is = refl
    none (f ∷ frames) is = absurd (omega (arith, is))

    fits : (there : WalkStep) → IsAtStep (page + length taken) n (length taken) there → IsReadyToWalk F S taken there → FitsStage (walk_at page n want sequence (at step) taken) (at there)
    fits entered here steps = none taken here
    fits ready here steps = tt
    fits (reading g path) here steps = absurd here
    fits (read g path e) here steps = record { here = here.0; more = here.1 }
    fits (grabbed g path e) here steps = record { here = here.0; more = here.1 }
    fits (rechecked g e) here steps = record { here = here.1; frame = steps.1 }
    fits (differed f) here steps = tt
    fits refused here steps = here
    fits stopped here steps = tt
    fits dropping here steps = here
    fits over here steps = absurd here

-- where the job is kept as the walk stands
place_behind : (p : ℕ) (w : WalkValue) (stage : Stage) (prepared : Option ℕ) → job_place (job_at p w stage) prepared ≡ stage_place w.sequence stage
place_behind p w (at step) prepared = refl
place_behind p w unbegun_stage prepared = refl
place_behind p w left prepared = refl

-- ---- the turn

module _ (old new : PinningView) (a p handle page n far last sequence : ℕ) (want : Want) (fast : Bool) (step : WalkStep) (place : old.place ≡ in_walk sequence step) (end : HasEnd step old.last last page (length old.taken)) (s : CoreState) (shown : ShowsPinning a p old s) (stands : StandsAtPage a p handle page n want fast (length old.taken) far s) where
  abbrev w : WalkValue
  w = walk_at page n want sequence (at step) old.taken

  abbrev many : ℕ
  many = length old.taken

  job_here : s.job a ≡ walking p want.write want.long sequence step
  job_here = walking_job s a p (page + many) n many want fast sequence step (s.job a) (s.prepared a) stands.at.at (shown.place ∙ place)

  pub walk_here : ShowsWalk a p w s
  walk_here = record { job = job_here; taken = shown.taken }

  pub ends_now : EndAt (Some last) (s.taken a)
  ends_now =
      ends_here step p page many last p sequence want want.write want.long old.last (s.taken a) end shown.last
      (subst (HasPages p page want many (s.taken a)) job_here stands.at.taken)

  pub turn_here : pin_turn s a p handle page n want fast far ≡ walk_turn s a p handle page n want sequence step
  turn_here = ap (pin_turn_in s a p handle page n (length (s.taken a)) want fast far) job_here

  pub step_leads : (w' : WalkValue) (whats : List What) → IsStep (ch old.frames new.frames old.space old.space) w w' a p last whats
      → new.space ≡ left_in old.space w'.stage old.space.walks → new.pins ≡ old.pins → new.taken ≡ w'.taken → new.place ≡ stage_place w'.sequence w'.stage → new.last ≡ last_at w'.stage last
      → Leads (ShowsPinning a p) new s (pin_turn s a p handle page n want fast far) whats
  step_leads w' whats steps counted pins taken there ends =
      let turn : IsStepTurn (ch old.frames new.frames old.space old.space) w' a p last whats s (walk_turn s a p handle page n want sequence step) =
      steps s handle step refl shown.frames shown.space walk_here ends_now in
      let t : CoreState = run s (walk_turn s a p handle page n want sequence step).events in
      leads_alike turn_here
      (record {
        says = turn.says;
        shown = record {
          frames = turn.frames;
          space = subst (λ (x : SpaceValue). ShowsSpace p x t) (sym counted) turn.space;
          pins = subst (λ x. ShowsHandles x t) (sym pins) (shows_same old.pins s t turn.handle turn.pinned turn.references shown.pins);
          taken = turn.walk.taken ∙ sym taken;
          place = ap (λ (j : Job). job_place j (t.prepared a)) turn.walk.job ∙ place_behind p w' w'.stage (t.prepared a) ∙ sym there;
          last = subst (λ (o : Option ℕ). EndAt o (t.taken a)) (sym ends) turn.ends;
        };
      })

-- ---- the walk ends, and keeps all pages

put_own : {X : Type 0} (k : ℕ) (x : X) (f : ℕ → X) → put k x f k ≡ x
put_own k x f = grind (arith, nat_tests)

none_more : (n many : ℕ) → many ≡ n → nat_lt many n ≡ false
none_more n many all = grind (arith, nat_tests)

same_number : (n m : ℕ) → n ≡ m → (n == m) ≡ true
same_number n m is = grind (arith, nat_tests)

pub all_kept : (old new : PinningView) (a p handle page n far sequence : ℕ) (want : Want) (fast : Bool) → old.place ≡ in_walk sequence ready → old.last ≡ None → length old.taken ≡ n → 1 ≤ n → old.space.sequence ≡ sequence
    → new.frames ≡ old.frames → new.space ≡ record old.space { walks = old.space.walks - 1 } → old.pins handle ≡ unmade → new.pins ≡ put handle (held a old.taken want.write) old.pins → new.taken ≡ [] → IsOver new
    → IsTurnOf (ShowsPinning a p) (StandsAtPage a p handle page n want fast (length old.taken) far) old new (λ s. pin_turn s a p handle page n want fast far)
    (Event (events.PinOk a handle) ∷ Done (answers.Pinned n) ∷ [])
all_kept old new a p handle page n far sequence want fast place no_end all some same frames space yet pins taken rests s shown stands =
    leads_alike (job_turn ∙ ready_same ∙ all_same)
    (record {
      says = refl;
      shown = record {
        frames = subst (λ (x : FramesValue). ShowsFrames x t) (sym frames) (record { movable = f.movable; normal = f.normal; count = f.count; mark = f.mark; word = f.word; needs_tables = f.needs_tables });
        space = subst (λ (x : SpaceValue). ShowsSpace p x t) (sym space)
            (record { right = sp.right; pages = sp.pages; entry = sp.entry; sequence = sp.sequence; has_pinned = sp.has_pinned; structure = sp.structure; table = sp.table; walks = put_own p (s.walks p - 1) s.walks ∙ ap (λ (n : ℕ). n - 1) sp.walks; place = sp.place; retired = sp.retired });
        pins = subst (λ (x : HandlesValue). ShowsHandles x t) (sym pins) (pins_made old.pins a handle old.taken want.write u shown.taken writes yet shown.pins);
        taken = none_taken a handle u ∙ sym taken;
        place = ap (λ (j : Job). job_place j (s.prepared a)) (put_own a idle u1.job) ∙ sym rests.0;
        last = no_last new.last _ rests.1;
      };
    })
  where
    f : ShowsFrames old.frames s
    f = shown.frames

    sp : ShowsSpace p old.space s
    sp = shown.space

    u1 : CoreState
    u1 = happens s (read_again a p want.write want.long sequence ready sequence)

    u : CoreState
    u = happens (happens s (read_again a p want.write want.long sequence ready sequence)) (leave_walk a p want.write want.long sequence)

    t : CoreState
    t = happens (happens (happens s (read_again a p want.write want.long sequence ready sequence)) (leave_walk a p want.write want.long sequence)) (make_handle a handle)

    job_here : s.job a ≡ walking p want.write want.long sequence ready
    job_here = walking_job s a p (page + length old.taken) n (length old.taken) want fast sequence ready (s.job a) (s.prepared a) stands.at.at (shown.place ∙ place)

    has : HasTaken p page want (length old.taken) (s.taken a)
    has = subst (HasPages p page want (length old.taken) (s.taken a)) job_here stands.at.taken

    writes : writes_taken (s.taken a) ≡ want.write
    writes = writes_some (s.taken a) want.write (omega (arith, has.many, all, some)) (λ k x found. (has.each k x found).2)

    job_turn : pin_turn s a p handle page n want fast far ≡ ready_turn s a p handle (page + length (s.taken a)) n want sequence (nat_lt (length (s.taken a)) n)
    job_turn = ap (pin_turn_in s a p handle page n (length (s.taken a)) want fast far) job_here

    last_one : nat_lt (length (s.taken a)) n ≡ false
    last_one = none_more n (length (s.taken a)) (has.many ∙ all)

    equal : (s.sequence p == sequence) ≡ true
    equal = same_number (s.sequence p) sequence (sp.sequence ∙ same)

    ready_same : ready_turn s a p handle (page + length (s.taken a)) n want sequence (nat_lt (length (s.taken a)) n) ≡ all_turn a p handle n want sequence (s.sequence p) (s.sequence p == sequence)
    ready_same = ap (ready_turn s a p handle (page + length (s.taken a)) n want sequence) last_one

    all_same : all_turn a p handle n want sequence (s.sequence p) (s.sequence p == sequence) ≡ all_turn a p handle n want sequence sequence true
    all_same = ap (all_turn a p handle n want sequence (s.sequence p)) equal ∙ ap (λ (x : ℕ). all_turn a p handle n want sequence x true) (sp.sequence ∙ same)

-- the page that is kept where a walk drops all
pub has_end : (place : WalkPlace) (g sequence last page many : ℕ) → HasEnd (step_of place g) (Some g) last page many → HasEnd (step_of place g) (last_page (Walking place g sequence)) last page many
has_end Dropping g sequence last page many is = is
has_end Entered g sequence last page many is = is
has_end Ready g sequence last page many is = is
has_end (Read path e) g sequence last page many is = is
has_end (Grabbed path e) g sequence last page many is = is
has_end (Rechecked e) g sequence last page many is = is
has_end (Differed f) g sequence last page many is = is
has_end Refused g sequence last page many is = is
has_end Stopped g sequence last page many is = is

-- ---- the walk begins

pub walk_begins : (old new : PinningView) (a p handle page n many far : ℕ) (want : Want) (fast : Bool) → (fast && far == 0) ≡ true → old.place ≡ unbegun
    → new.frames ≡ old.frames → new.space ≡ record old.space { has_pinned = true; walks = old.space.walks + 1 } → new.pins ≡ old.pins → new.taken ≡ old.taken → new.place ≡ in_walk 0 entered → new.last ≡ None
    → IsTurnOf (ShowsPinning a p) (StandsAtPage a p handle page n want fast many far) old new (λ s. pin_turn s a p handle page n want fast far) (Silent ∷ [])
walk_begins old new a p handle page n many far want fast begins begun frames space pins taken place no_end s shown stands =
    let f = shown.frames in
    let sp = shown.space in
    let t : CoreState = happens (happens s (raise_flag a p)) (enter_walk a p want.write want.long) in
    let got : ℕ = length (s.taken a) in
    leads_alike
    (ap (pin_turn_in s a p handle page n got want fast far) (idle_job s a p (page + many) n many want fast (s.job a) (s.prepared a) stands.at.at (shown.place ∙ begun))
    ∙ ap (λ (b : Bool). begins_or_pins b s a p handle page n got want fast) begins)
    (record {
      says = refl;
      shown = record {
        frames = subst (λ (x : FramesValue). ShowsFrames x t) (sym frames) (record { movable = f.movable; normal = f.normal; count = f.count; mark = f.mark; word = f.word; needs_tables = f.needs_tables });
        space = subst (λ (x : SpaceValue). ShowsSpace p x t) (sym space)
            (record { right = sp.right; pages = sp.pages; entry = sp.entry; sequence = sp.sequence; has_pinned = put_own p true s.has_pinned; structure = sp.structure; table = sp.table; walks = put_own p (s.walks p + 1) s.walks ∙ ap (λ (n : ℕ). n + 1) sp.walks; place = sp.place; retired = sp.retired });
        pins = subst (λ (x : HandlesValue). ShowsHandles x t) (sym pins) shown.pins;
        taken = shown.taken ∙ sym taken;
        place = ap (λ (j : Job). job_place j (s.prepared a)) (put_own a (walking p want.write want.long 0 entered) s.job) ∙ sym place;
        last = no_last new.last _ no_end;
      };
    })

-- ---- which turn it is

pub begins_both : (fast : Bool) (far : ℕ) → fast ≡ true → far ≡ 0 → (fast && far == 0) ≡ true
begins_both true zero walks first = refl
begins_both true (suc far) walks first = absurd (cc)
begins_both false far walks first = absurd (cc)

-- a pin that is in the middle of nothing has not begun
pub is_unbegun : (place : KeptPlace) (F : FramesValue) (S : SpaceValue) (taken : List ℕ) (page n : ℕ) (want : Want) (begins : Bool) → IsReadyToPin F taken page n want begins (place_of place) S
    → ((there : WalkPlace) (g sequence : ℕ) → place ≡ Walking there g sequence → ⊥) → ((e : Entry) (g : ℕ) → place ≡ Cleared e g → ⊥) → ((e : Entry) (g : ℕ) → place ≡ Single e g → ⊥) → ((e : Entry) (g count : ℕ) → place ≡ Shared e g count → ⊥)
    → place ≡ Unbegun
is_unbegun Unbegun F S taken page n want begins is walks cleared single shared = refl
is_unbegun (From g) F S taken page n want begins is walks cleared single shared = absurd is
is_unbegun (At g) F S taken page n want begins is walks cleared single shared = absurd is
is_unbegun (Wanting g) F S taken page n want begins is walks cleared single shared = absurd is
is_unbegun (Copying word to g) F S taken page n want begins is walks cleared single shared = absurd is
is_unbegun (Cleared e g) F S taken page n want begins is walks cleared single shared = absurd (cleared e g refl)
is_unbegun (Single e g) F S taken page n want begins is walks cleared single shared = absurd (single e g refl)
is_unbegun (Shared e g count) F S taken page n want begins is walks cleared single shared = absurd (shared e g count refl)
is_unbegun (Walking there g sequence) F S taken page n want begins is walks cleared single shared = absurd (walks there g sequence refl)
