-- The steps of a walk are the turns of its pin.
use Rattle.std.proofs.Common.{◌≡◌, ℕ, ◌+◌, ◌-◌, ◌<◌, ◌==◌, ◌&&◌, ◌||◌, nat_lt, Bool, true, false, if◌then◌else◌, List, [], ◌∷◌, ◌++◌, length, slice_get, Option, Some, None, IfSome, is_some, zero, suc, refl, sym, ap, ◌∙◌, subst, arith}
use Rattle.std.proofs.lemmas.Bool.Decides.{nat_tests}
use Rattle.gup_base.specs.declared.entry.Entry.{Entry}
use Rattle.gup_base.specs.declared.entry.Want.{Want}
use Rattle.gup_plain.specs.Put.{put}
use Rattle.gup_plain.specs.declared.event.PlainEvent.{PlainEvent}
use Rattle.gup_plain.specs.declared.event.PlainEvent.TheVariants as events
use Rattle.gup_plain.specs.declared.note.What.{What}
use Rattle.gup_plain.specs.declared.note.What.TheVariants.{Silent, Event}
use Rattle.gup_frames.specs.Frames.{FramesValue, IsFrame}
use Rattle.gup_space.specs.Space.{SpaceValue, tables_in}
use Rattle.gup_space.specs.Shows.{Change, ShowsFrames, ShowsSpace}
use Rattle.gup_spec_tables.specs.Tables.{TreeValue}
use Rattle.gup_spec_tables.specs.Paths.{entry_at, leads_still, KeepsPath}
use Rattle.gup_spec_events.specs.State.{CoreState, Taken, WalkStep, entered, ready, reading, read, grabbed, rechecked, differed, refused, stopped, dropping, over}
use Rattle.gup_spec_events.specs.Event.{CoreEvent, is_odd, happens, run, taken_frames, tree_in, read_sequence, read_mark, read_again, drop_last, drop_first}
use Rattle.gup_spec_events.specs.Descent.{reads_down}
use Rattle.gup_fast.specs.Walks.{WalkValue, Stage, counted_in, left_in, MayReadAgain, at, left, unbegun, at_stage, next_page, is_kept, ShowsWalk, AreWalkEvents, dropped_at, after_recheck, after_drop, reads_sequence, grabs, rechecks, reads_again, drops, drops_last, drops_first}
use Rattle.gup_fast.specs.declared.walk.GiveUp.{GiveUp}
use Rattle.gup_fast.specs.Walks.{leaves_if as leaves_walk, is_same as is_same_entry, is_none_left as no_frame_left, split_last as parts_of, one_before as one_more, last_of}
use Rattle.gup_fast.proofs.Leaving.{Unwalked, unwalked_of, AreWalking, walkings_leave, sequence_walking, read_walking, grabs_walking, rechecks_walking, mark_walking, again_walking, drops_walking}
use Rattle.gup_spec_turns.specs.CoreTurn.{CoreTurn}
use Rattle.gup_spec_turns.specs.WalkTurns.{walk_turn, all_turn, silent_turn, sequence_turn, ready_turn, grab_turn, recheck_turn, again_turn, last_turn, first_turn, leaves_if, is_same, is_none_left, split_last, one_before}
use Rattle.gup_op_pins.specs.Pins.{EndAt, IsPinnedFrame, IsReadyToWalk}
use Rattle.gup_law_tables.proofs.ReadDown.{leads_down}
use Rattle.gup_fast.proofs.ShownPaths.{leads_shown, entry_shown}
use Rattle.gup_op_pins.specs.Steps.{IsStepTurn, IsStep, IsGrabbed, last_at, step_whats, dropped_event, first_of_left}

-- ---- what stays

put_own : {X : Type 0} (k : ℕ) (x : X) (f : ℕ → X) → put k x f k ≡ x
put_own k x f = grind (arith, nat_tests)

-- pages that end there do, wherever the walk stands
pub ends_kept : (stage : Stage) (last : ℕ) (taken : List Taken) → EndAt (Some last) taken → EndAt (last_at stage last) taken
ends_kept (at dropping) last taken ends = ends
ends_kept (at entered) last taken ends = tt
ends_kept (at ready) last taken ends = tt
ends_kept (at (reading g path)) last taken ends = tt
ends_kept (at (read g path e)) last taken ends = tt
ends_kept (at (grabbed g path e)) last taken ends = tt
ends_kept (at (rechecked g e)) last taken ends = tt
ends_kept (at (differed f)) last taken ends = tt
ends_kept (at refused) last taken ends = tt
ends_kept (at stopped) last taken ends = tt
ends_kept (at over) last taken ends = tt
ends_kept unbegun last taken ends = tt
ends_kept left last taken ends = tt

-- one that has no page to drop has none
no_end : (stage : Stage) (last : ℕ) (taken : List Taken) → last_at stage last ≡ None → EndAt (last_at stage last) taken
no_end stage last taken none = subst (λ (o : Option ℕ). EndAt o taken) (sym none) tt

-- the step of a walk that is known
pub same_step : (stage : Stage) (step known : WalkStep) → stage ≡ at step → stage ≡ at known → step ≡ known
same_step stage step known is be = cc

-- what a step of a walk that runs leads to, with the walks that run after it
running : (k : Change) (w w' : WalkValue) (a p : ℕ) (t : CoreState) (step : WalkStep) → w.stage ≡ at step
    → ShowsFrames k.new_frames t × ShowsSpace p (counted_in k.new_space w.stage w'.stage k.old_space.walks) t × ShowsWalk a p w' t
    → ShowsFrames k.new_frames t × ShowsSpace p (left_in k.new_space w'.stage k.old_space.walks) t × ShowsWalk a p w' t
running k w w' a p t step is =
    subst (λ (x : Stage). ShowsFrames k.new_frames t × ShowsSpace p (counted_in k.new_space x w'.stage k.old_space.walks) t × ShowsWalk a p w' t) is

-- the turn, by the events of the walk
by_events : (k : Change) (w w' : WalkValue) (a p last : ℕ) (whats : List What) (s : CoreState) (turn : CoreTurn) (es : List CoreEvent)
    → turn ≡ record { events = es; whats = whats } → AreWalking a p es
    → ShowsFrames k.new_frames (run s es) × ShowsSpace p (left_in k.new_space w'.stage k.old_space.walks) (run s es) × ShowsWalk a p w' (run s es)
    → EndAt (last_at w'.stage last) ((run s es).taken a) → IsStepTurn k w' a p last whats s turn
by_events k w w' a p last whats s turn es is walking shows ends =
    let kept : unwalked_of (run s es) ≡ unwalked_of s = walkings_leave a p s es walking in
    subst (IsStepTurn k w' a p last whats s) (sym is)
    (record {
      says = refl;
      frames = shows.0;
      space = shows.1;
      walk = shows.2;
      ends = ends;
      handle = ap (λ (u : Unwalked). u.2) kept;
      pinned = ap (λ (u : Unwalked). u.3) kept;
      references = ap (λ (u : Unwalked). u.5) kept;
    })

-- a turn without an event, that leaves what was taken
silently : (k : Change) (w w' : WalkValue) (a p last : ℕ) (s : CoreState) (turn : CoreTurn) (es : List CoreEvent)
    → turn ≡ silent_turn es → AreWalking a p es
    → ShowsFrames k.new_frames (run s es) × ShowsSpace p (left_in k.new_space w'.stage k.old_space.walks) (run s es) × ShowsWalk a p w' (run s es)
    → (run s es).taken ≡ s.taken → EndAt (Some last) (s.taken a) → IsStepTurn k w' a p last (Silent ∷ []) s turn
silently k w w' a p last s turn es is walking shows same ends =
    by_events k w w' a p last (Silent ∷ []) s turn es is walking shows
    (ends_kept w'.stage last ((run s es).taken a) (subst (λ (f : ℕ → List Taken). EndAt (Some last) (f a)) (sym same) ends))

leaves_same : (over : Bool) (a p : ℕ) (want : Want) (sequence : ℕ) → leaves_if over a p want sequence ≡ leaves_walk over a p want sequence
leaves_same true a p want sequence = refl
leaves_same false a p want sequence = refl

leaves_taken : (over : Bool) (a p : ℕ) (want : Want) (sequence : ℕ) (s : CoreState) → (run s (leaves_walk over a p want sequence)).taken ≡ s.taken
leaves_taken true a p want sequence s = refl
leaves_taken false a p want sequence s = refl

-- so many pages are taken as frames
many_taken : (taken : List Taken) (frames : List ℕ) → taken_frames taken ≡ frames → length taken ≡ length frames
many_taken taken frames is = sym (length_frames taken) ∙ ap (λ (fs : List ℕ). length fs) is
  where
    length_frames : (ts : List Taken) → length (taken_frames ts) ≡ length ts
    length_frames [] = refl
    length_frames (t ∷ ts) = ap suc (length_frames ts)

-- ---- the sequence is read

pub sequence_step : (k : Change) (w w' : WalkValue) (a p last : ℕ) → w.stage ≡ at entered
    → AreWalkEvents k w w' (λ s b q. reads_sequence b q k.old_space.sequence w) → IsStep k w w' a p last (Silent ∷ [])
sequence_step k w w' a p last at_it events s handle step is frames space walk ends =
    let now : ℕ = k.old_space.sequence in
    let es : List CoreEvent = reads_sequence a p now w in
    silently k w w' a p last s (walk_turn s a p handle w.page w.n w.want w.sequence step) es
    (ap (walk_turn s a p handle w.page w.n w.want w.sequence) (same_step w.stage step entered is at_it)
    ∙ ap (sequence_turn a p w.want) space.sequence
    ∙ ap (λ (rest : List CoreEvent). silent_turn (read_sequence a p w.want.write w.want.long now ∷ rest)) (leaves_same (is_odd now) a p w.want now))
    (sequence_walking a p now w) (running k w w' a p _ step is (events s a p frames space walk))
    (leaves_taken (is_odd now) a p w.want now (happens s (read_sequence a p w.want.write w.want.long now))) ends

-- ---- a page's path is read down to its entry

pub read_step : (k : Change) (w w' : WalkValue) (a p last : ℕ) → w.stage ≡ at ready → length w.taken < w.n
    → AreWalkEvents k w w' (λ s b q. reads_down s b q w.want.write w.want.long w.sequence (next_page w)) → IsStep k w w' a p last (Silent ∷ [])
read_step k w w' a p last at_it more events s handle step is frames space walk ends =
    let many : length (s.taken a) ≡ length w.taken = many_taken (s.taken a) w.taken walk.taken in
    let next : nat_lt (length w.taken) w.n ≡ true = grind (arith, nat_tests) in
    let g : ℕ = next_page w in
    silently k w w' a p last s (walk_turn s a p handle w.page w.n w.want w.sequence step)
    (reads_down s a p w.want.write w.want.long w.sequence g)
    (ap (walk_turn s a p handle w.page w.n w.want w.sequence) (same_step w.stage step ready is at_it)
    ∙ ap (λ (m : ℕ). ready_turn s a p handle (w.page + m) w.n w.want w.sequence (nat_lt m w.n)) many
    ∙ ap (ready_turn s a p handle g w.n w.want w.sequence) next)
    (read_walking s a p w.want.write w.want.long w.sequence g) (running k w w' a p _ step is (events s a p frames space walk))
    (ap (λ (t : CoreState). t.taken) (leads_down s a p w.sequence g w.want.write w.want.long)) ends

-- ---- a frame is grabbed

grab_same : (count : ℕ) (a p g : ℕ) (path : List ℕ) (e : Entry) (w : WalkValue) → grab_turn a p w.want w.sequence g path e count ≡ silent_turn (grabs a p g count path e w)
grab_same zero a p g path e w = refl
grab_same (suc count) a p g path e w = refl

grab_taken : (count : ℕ) (a p g : ℕ) (path : List ℕ) (e : Entry) (w : WalkValue) (s : CoreState) → (run s (grabs a p g count path e w)).taken ≡ s.taken
grab_taken zero a p g path e w s = refl
grab_taken (suc count) a p g path e w s = refl

pub grab_step : (k : Change) (w w' : WalkValue) (a p last g : ℕ) (path : List ℕ) (e : Entry) → w.stage ≡ at (read g path e)
    → AreWalkEvents k w w' (λ s b q. grabs b q g (k.old_frames.count e.frame) path e w) → IsStep k w w' a p last (Silent ∷ [])
grab_step k w w' a p last g path e at_it events s handle step is frames space walk ends =
    let count : ℕ = k.old_frames.count e.frame in
    silently k w w' a p last s (walk_turn s a p handle w.page w.n w.want w.sequence step) (grabs a p g count path e w)
    (ap (walk_turn s a p handle w.page w.n w.want w.sequence) (same_step w.stage step (read g path e) is at_it)
    ∙ ap (grab_turn a p w.want w.sequence g path e) (frames.count e.frame) ∙ grab_same count a p g path e w)
    (grabs_walking a p g count path e w) (running k w w' a p _ step is (events s a p frames space walk)) (grab_taken count a p g path e w s) ends

-- ---- the entry is read again

same_entry : (e : Entry) (now : Option Entry) → is_same e now ≡ is_same_entry e now
same_entry e None = refl
same_entry e (Some d) = refl

-- what it finds
abbrev recheck_event : (same : Bool) → (a p g : ℕ) → (write : Bool) → Option PlainEvent
recheck_event true a p g write = Some (events.PinTry a p g write)
recheck_event false a p g write = None

rechecked_as : (above same : Bool) (k : Change) (w w' : WalkValue) (a p last g : ℕ) (path : List ℕ) (e : Entry) (event : Option PlainEvent) (s : CoreState) (turn : CoreTurn)
    → w' ≡ (if above && same then record w { taken = w.taken ++ e.frame ∷ []; stage = at (rechecked g e) } else at_stage (at (differed e.frame)) w)
    → event ≡ recheck_event (above && same) a p g w.want.write → AreWalking a p (rechecks a p g path e above same w)
    → ShowsFrames k.new_frames (run s (rechecks a p g path e above same w)) × ShowsSpace p (left_in k.new_space w'.stage k.old_space.walks) (run s (rechecks a p g path e above same w)) × ShowsWalk a p w' (run s (rechecks a p g path e above same w))
    → EndAt (Some last) (s.taken a) → turn ≡ recheck_turn a p w.want w.sequence g path e above same → IsStepTurn k w' a p last (step_whats event) s turn
rechecked_as true true k w w' a p last g path e event s turn leads tells walking shows ends is =
    subst (λ (o : Option PlainEvent). IsStepTurn k w' a p last (step_whats o) s turn) (sym tells)
    (by_events k w w' a p last (Event (events.PinTry a p g w.want.write) ∷ []) s turn (rechecks a p g path e true true w) is walking shows
    (no_end w'.stage last _ (ap (λ (x : WalkValue). last_at x.stage last) leads)))
rechecked_as true false k w w' a p last g path e event s turn leads tells walking shows ends is =
    subst (λ (o : Option PlainEvent). IsStepTurn k w' a p last (step_whats o) s turn) (sym tells)
    (silently k w w' a p last s turn (rechecks a p g path e true false w) is walking shows refl ends)
rechecked_as false same k w w' a p last g path e event s turn leads tells walking shows ends is =
    subst (λ (o : Option PlainEvent). IsStepTurn k w' a p last (step_whats o) s turn) (sym tells)
    (silently k w w' a p last s turn (rechecks a p g path e false same w) is walking shows refl ends)

pub recheck_step : (k : Change) (w w' : WalkValue) (a p last g : ℕ) (path : List ℕ) (e : Entry) (event : Option PlainEvent) → w.stage ≡ at (grabbed g path e)
    → w' ≡ after_recheck (tables_in k.old_space) g path e w → event ≡ recheck_event (is_kept (tables_in k.old_space) g path e) a p g w.want.write
    → AreWalkEvents k w w' (λ s b q. rechecks b q g path e (leads_still (tables_in k.old_space) path g) (is_same_entry e (entry_at (tables_in k.old_space) path g)) w) → IsStep k w w' a p last (step_whats event)
recheck_step k w w' a p last g path e event at_it leads tells events s handle step is frames space walk ends =
    let v : TreeValue = tables_in k.old_space in
    let above : Bool = leads_still v path g in
    let now : Option Entry = entry_at v path g in
    rechecked_as above (is_same_entry e now) k w w' a p last g path e event s (walk_turn s a p handle w.page w.n w.want w.sequence step) leads tells
    (rechecks_walking a p g path e above (is_same_entry e now) w) (running k w w' a p _ step is (events s a p frames space walk)) ends
    (ap (walk_turn s a p handle w.page w.n w.want w.sequence) (same_step w.stage step (grabbed g path e) is at_it)
    ∙ ap (λ (b : Bool). recheck_turn a p w.want w.sequence g path e b (is_same e (entry_at (tree_in s p) path g))) (leads_shown (tree_in s p) v g space.place path)
    ∙ ap (λ (o : Option Entry). recheck_turn a p w.want w.sequence g path e above (is_same e o)) (entry_shown (tree_in s p) v g space.place path (space.entry g))
    ∙ ap (recheck_turn a p w.want w.sequence g path e above) (same_entry e now))

-- ---- the mark is read

pub mark_step : (k : Change) (w w' : WalkValue) (a p last g : ℕ) (e : Entry) → w.stage ≡ at (rechecked g e)
    → AreWalkEvents k w w' (λ s b q. read_mark b q w.want.write w.want.long w.sequence g e (k.old_frames.mark e.frame) ∷ []) → IsStep k w w' a p last (Silent ∷ [])
mark_step k w w' a p last g e at_it events s handle step is frames space walk ends =
    silently k w w' a p last s (walk_turn s a p handle w.page w.n w.want w.sequence step)
    (read_mark a p w.want.write w.want.long w.sequence g e (k.old_frames.mark e.frame) ∷ [])
    (ap (walk_turn s a p handle w.page w.n w.want w.sequence) (same_step w.stage step (rechecked g e) is at_it)
    ∙ ap (λ (m : Bool). silent_turn (read_mark a p w.want.write w.want.long w.sequence g e m ∷ [])) (frames.mark e.frame))
    (mark_walking a p w.want.write w.want.long w.sequence g e (k.old_frames.mark e.frame)) (running k w w' a p _ step is (events s a p frames space walk)) refl ends

-- ---- the sequence is read again, where the walk stopped

none_left : (taken : List Taken) → is_none_left taken ≡ no_frame_left (taken_frames taken)
none_left [] = refl
none_left (t ∷ taken) = refl

pub again_step : (k : Change) (w w' : WalkValue) (a p last : ℕ) → w.stage ≡ at stopped
    → AreWalkEvents k w w' (λ s b q. reads_again b q k.old_space.sequence stopped w) → IsStep k w w' a p last (Silent ∷ [])
again_step k w w' a p last at_it events s handle step is frames space walk ends =
    let now : ℕ = k.old_space.sequence in
    let none : is_none_left (s.taken a) ≡ no_frame_left w.taken = none_left (s.taken a) ∙ ap no_frame_left walk.taken in
    let e : CoreEvent = read_again a p w.want.write w.want.long w.sequence stopped now in
    silently k w w' a p last s (walk_turn s a p handle w.page w.n w.want w.sequence step) (reads_again a p now stopped w)
    (ap (walk_turn s a p handle w.page w.n w.want w.sequence) (same_step w.stage step stopped is at_it)
    ∙ ap (λ (x : ℕ). again_turn a p w.want w.sequence x (s.taken a)) space.sequence
    ∙ ap (λ (b : Bool). silent_turn (e ∷ leaves_if ((now == w.sequence) || b) a p w.want w.sequence)) none
    ∙ ap (λ (rest : List CoreEvent). silent_turn (e ∷ rest)) (leaves_same ((now == w.sequence) || no_frame_left w.taken) a p w.want w.sequence))
    (again_walking a p now stopped w) (running k w w' a p _ step is (events s a p frames space walk))
    (leaves_taken ((now == w.sequence) || no_frame_left w.taken) a p w.want w.sequence (happens s e)) ends

-- ---- a frame is dropped

-- pages of which the last stands apart
record AreSplit (taken : List Taken) : Type 0 where
  others : List Taken
  last : Taken
  split : split_last taken ≡ Some (others, last)
  parts : parts_of taken ≡ Some (others, last)
  found : slice_get taken (length taken - 1) ≡ Some last

are_split : (t : Taken) (taken : List Taken) → AreSplit (t ∷ taken)
are_split t [] = record { others = []; last = t; split = refl; parts = refl; found = refl }
are_split t (u ∷ taken) =
    let behind : AreSplit (u ∷ taken) = are_split u taken in
    let next : length (t ∷ u ∷ taken) - 1 ≡ suc (length (u ∷ taken) - 1) = omega arith in
    record {
      others = t ∷ behind.others;
      last = behind.last;
      split = ap (one_before t) behind.split;
      parts = ap (one_more t) behind.parts;
      found = ap (slice_get (t ∷ u ∷ taken)) next ∙ behind.found;
    }

none_last : (f : ℕ) (frames : List ℕ) → frames ≡ [] → last_of frames ≡ Some f → ⊥
none_last f frames is some = absurd (cc)

-- the page whose mark was missing
refused_turn : (k : Change) (w w' : WalkValue) (a p handle last f : ℕ) (s : CoreState) (taken : List Taken) → s.taken a ≡ taken → taken_frames (s.taken a) ≡ w.taken → last_of w.taken ≡ Some f → w' ≡ after_drop (at refused) w
    → AreWalking a p (drops_last a p w (parts_of (s.taken a)))
    → ShowsFrames k.new_frames (run s (drops_last a p w (parts_of (s.taken a)))) × ShowsSpace p (left_in k.new_space w'.stage k.old_space.walks) (run s (drops_last a p w (parts_of (s.taken a)))) × ShowsWalk a p w' (run s (drops_last a p w (parts_of (s.taken a))))
    → EndAt (Some last) (s.taken a) → IsStepTurn k w' a p last (Event (events.PinDrop a last) ∷ []) s (walk_turn s a p handle w.page w.n w.want w.sequence refused)
refused_turn k w w' a p handle last f s [] is shown some leads walking shows ends =
    absurd (none_last f w.taken (sym shown ∙ ap taken_frames is) some)
refused_turn k w w' a p handle last f s (t ∷ taken) is shown some leads walking shows ends =
    let split : AreSplit (s.taken a) = subst AreSplit (sym is) (are_split t taken) in
    let many : length (s.taken a) ≡ suc (length taken) = ap (λ (ts : List Taken). length ts) is in
    let here = ends (length (s.taken a) - 1) split.last split.found in
    let page : split.last.page ≡ last = omega (arith, here, many) in
    let es : List CoreEvent = drops_last a p w (parts_of (s.taken a)) in
    let same : es ≡ drop_last a p w.want.write w.want.long w.sequence split.others split.last ∷ [] = ap (drops_last a p w) split.parts in
    by_events k w w' a p last (Event (events.PinDrop a last) ∷ []) s (walk_turn s a p handle w.page w.n w.want w.sequence refused) es
    (ap (last_turn a p w.want w.sequence) split.split
    ∙ ap (λ (g : ℕ). record { events = drop_last a p w.want.write w.want.long w.sequence split.others split.last ∷ []; whats = Event (events.PinDrop a g) ∷ [] }) page
    ∙ ap (λ (xs : List CoreEvent). record { events = xs; whats = Event (events.PinDrop a last) ∷ [] }) (sym same))
    walking shows (no_end w'.stage last _ (ap (λ (x : WalkValue). last_at x.stage last) leads))

none_first : (f : ℕ) (stage : Stage) (frames : List ℕ) → frames ≡ [] → dropped_at (at dropping) frames ≡ Some f → ⊥
none_first f stage frames is some = absurd (cc)

-- the first of all that are left
dropping_turn : (k : Change) (w w' : WalkValue) (a p handle last many f : ℕ) (s : CoreState) (taken : List Taken) → s.taken a ≡ taken → taken_frames (s.taken a) ≡ w.taken → length w.taken ≡ many → dropped_at (at dropping) w.taken ≡ Some f
    → AreWalking a p (drops_first a p w (s.taken a))
    → ShowsFrames k.new_frames (run s (drops_first a p w (s.taken a))) × ShowsSpace p (left_in k.new_space w'.stage k.old_space.walks) (run s (drops_first a p w (s.taken a))) × ShowsWalk a p w' (run s (drops_first a p w (s.taken a)))
    → EndAt (Some last) (s.taken a) → IsStepTurn k w' a p last (Event (events.PinDrop a (first_of_left many last)) ∷ []) s (walk_turn s a p handle w.page w.n w.want w.sequence dropping)
dropping_turn k w w' a p handle last many f s [] is shown count some walking shows ends =
    absurd (none_first f w.stage w.taken (sym shown ∙ ap taken_frames is) some)
dropping_turn k w w' a p handle last many f s (t ∷ rest) is shown count some walking shows ends =
    let so : length (s.taken a) ≡ suc (length rest) = ap (λ (ts : List Taken). length ts) is in
    let all : length (s.taken a) ≡ many = many_taken (s.taken a) w.taken shown ∙ count in
    let here = ends 0 t (ap (λ (ts : List Taken). slice_get ts 0) is) in
    let page : t.page ≡ first_of_left many last = omega (arith, here, so, all) in
    let d : CoreEvent = drop_first a p w.want.write w.want.long w.sequence t rest in
    let es : List CoreEvent = drops_first a p w (s.taken a) in
    let same : es ≡ d ∷ leaves_walk (no_frame_left (taken_frames rest)) a p w.want w.sequence = ap (drops_first a p w) is in
    let left : (run s es).taken a ≡ rest =
    ap (λ (xs : List CoreEvent). (run s xs).taken a) same
    ∙ ap (λ (f : ℕ → List Taken). f a) (leaves_taken (no_frame_left (taken_frames rest)) a p w.want w.sequence (happens s d)) ∙ put_own a rest s.taken in
    let behind : EndAt (Some last) rest = λ i u found.
    let at_u = ends (suc i) u (ap (λ (ts : List Taken). slice_get ts (suc i)) is ∙ found) in
    omega (arith, at_u, so) in
    by_events k w w' a p last (Event (events.PinDrop a (first_of_left many last)) ∷ []) s (walk_turn s a p handle w.page w.n w.want w.sequence dropping) es
    (ap (first_turn a p w.want w.sequence) is
    ∙ ap (λ (g : ℕ). record { events = d ∷ leaves_if (is_none_left rest) a p w.want w.sequence; whats = Event (events.PinDrop a g) ∷ [] }) page
    ∙ ap (λ (xs : List CoreEvent). record { events = d ∷ xs; whats = Event (events.PinDrop a (first_of_left many last)) ∷ [] })
    (ap (λ (b : Bool). leaves_if b a p w.want w.sequence) (none_left rest) ∙ leaves_same (no_frame_left (taken_frames rest)) a p w.want w.sequence)
    ∙ ap (λ (xs : List CoreEvent). record { events = xs; whats = Event (events.PinDrop a (first_of_left many last)) ∷ [] }) (sym same))
    walking shows (ends_kept w'.stage last _ (subst (EndAt (Some last)) (sym left) behind))

dropped_as : (step : WalkStep) (k : Change) (w w' : WalkValue) (a p handle last many f : ℕ) (s : CoreState) → length w.taken ≡ many → dropped_at (at step) w.taken ≡ Some f → w' ≡ after_drop (at step) w
    → AreWalking a p (drops a p w (at step) (s.taken a))
    → ShowsFrames k.new_frames (run s (drops a p w (at step) (s.taken a))) × ShowsSpace p (left_in k.new_space w'.stage k.old_space.walks) (run s (drops a p w (at step) (s.taken a))) × ShowsWalk a p w' (run s (drops a p w (at step) (s.taken a)))
    → taken_frames (s.taken a) ≡ w.taken → EndAt (Some last) (s.taken a)
    → IsStepTurn k w' a p last (step_whats (dropped_event (at step) a many last)) s (walk_turn s a p handle w.page w.n w.want w.sequence step)
dropped_as (differed g) k w w' a p handle last many f s count some leads walking shows shown ends =
    silently k w w' a p last s (walk_turn s a p handle w.page w.n w.want w.sequence (differed g)) (drops a p w (at (differed g)) (s.taken a)) refl walking shows refl ends
dropped_as refused k w w' a p handle last many f s count some leads walking shows shown ends =
    refused_turn k w w' a p handle last f s (s.taken a) refl shown some leads walking shows ends
dropped_as dropping k w w' a p handle last many f s count some leads walking shows shown ends =
    dropping_turn k w w' a p handle last many f s (s.taken a) refl shown count some walking shows ends
dropped_as step k w w' a p handle last many f s count some leads walking shows shown ends = absurd (cc)

pub drop_step : (k : Change) (w w' : WalkValue) (a p last many f : ℕ) (event : Option PlainEvent) → length w.taken ≡ many → dropped_at w.stage w.taken ≡ Some f → w' ≡ after_drop w.stage w
    → event ≡ dropped_event w.stage a many last → AreWalkEvents k w w' (λ s b q. drops b q w w.stage (s.taken b)) → IsStep k w w' a p last (step_whats event)
drop_step k w w' a p last many f event count some leads tells events s handle step is frames space walk ends =
    subst (λ (o : Option PlainEvent). IsStepTurn k w' a p last (step_whats o) s (walk_turn s a p handle w.page w.n w.want w.sequence step))
    (sym (tells ∙ ap (λ (x : Stage). dropped_event x a many last) is))
    (dropped_as step k w w' a p handle last many f s count
    (subst (λ (x : Stage). dropped_at x w.taken ≡ Some f) is some) (subst (λ (x : Stage). w' ≡ after_drop x w) is leads)
    (subst (λ (x : Stage). AreWalking a p (drops a p w x (s.taken a))) is (drops_walking a p w w.stage (s.taken a)))
    (subst (λ (x : Stage). ShowsFrames k.new_frames (run s (drops a p w x (s.taken a))) × ShowsSpace p (left_in k.new_space w'.stage k.old_space.walks) (run s (drops a p w x (s.taken a))) × ShowsWalk a p w' (run s (drops a p w x (s.taken a)))) is
    (running k w w' a p _ step is (events s a p frames space walk)))
    walk.taken ends)

-- ---- what a step needs of frames and the process

pub read_there : (F : FramesValue) (S : SpaceValue) (taken : List ℕ) (stage : Stage) (g : ℕ) (path : List ℕ) (e : Entry) → ((step : WalkStep) → stage ≡ at step → IsReadyToWalk F S taken step) → stage ≡ at (read g path e) → IsFrame F e.frame
read_there F S taken stage g path e steps is = steps (read g path e) is

pub grabbed_there : (F : FramesValue) (S : SpaceValue) (taken : List ℕ) (stage : Stage) (g : ℕ) (path : List ℕ) (e : Entry) → ((step : WalkStep) → stage ≡ at step → IsReadyToWalk F S taken step) → stage ≡ at (grabbed g path e) → KeepsPath (tables_in S) path g
grabbed_there F S taken stage g path e steps is = steps (grabbed g path e) is

pub rechecked_there : (F : FramesValue) (S : SpaceValue) (taken : List ℕ) (stage : Stage) (g : ℕ) (e : Entry) → ((step : WalkStep) → stage ≡ at step → IsReadyToWalk F S taken step) → stage ≡ at (rechecked g e) → IsFrame F e.frame
rechecked_there F S taken stage g e steps is = (steps (rechecked g e) is).0

drop_ready : (F : FramesValue) (S : SpaceValue) (taken : List ℕ) (step : WalkStep) (f : ℕ) → IsReadyToWalk F S taken step → dropped_at (at step) taken ≡ Some f → IsPinnedFrame F f
drop_ready F S taken (reading g path) f there some = absurd (cc)
drop_ready F S taken (read g path e) f there some = absurd (cc)
drop_ready F S taken (rechecked g e) f there some = absurd (cc)
drop_ready F S taken entered f there some = absurd (cc)
drop_ready F S taken ready f there some = absurd (cc)
drop_ready F S taken (grabbed g path e) f there some = absurd (cc)
drop_ready F S taken stopped f there some = absurd (cc)
drop_ready F S taken over f there some = absurd (cc)
drop_ready F S taken (differed g) f there some = subst (λ (o : Option ℕ). IfSome o (IsPinnedFrame F)) some there
drop_ready F S taken refused f there some = subst (λ (o : Option ℕ). IfSome o (IsPinnedFrame F)) some there
drop_ready F S taken dropping f there some = subst (λ (o : Option ℕ). IfSome o (IsPinnedFrame F)) some there

-- the frame that is dropped has the weight of a pin
pub drop_there : (F : FramesValue) (S : SpaceValue) (taken : List ℕ) (stage : Stage) (f : ℕ) → ((step : WalkStep) → stage ≡ at step → IsReadyToWalk F S taken step) → dropped_at stage taken ≡ Some f → IsPinnedFrame F f
drop_there F S taken (at step) f steps some = drop_ready F S taken step f (steps step refl) some
drop_there F S taken unbegun f steps some = absurd (cc)
drop_there F S taken left f steps some = absurd (cc)

pub if_one : (P : ℕ → Type 0) (o : Option ℕ) (f : ℕ) → o ≡ Some f → P f → IfSome o P
if_one P o f is so = subst (λ (x : Option ℕ). IfSome x P) (sym is) so

-- ---- the entry that was read again

pub grabbed_entry : (stage : Stage) (page : ℕ) → IsGrabbed stage page → (path : List ℕ) × (e : Entry) × (stage ≡ at (grabbed page path e))
grabbed_entry (at (grabbed g path e)) page is = (path, e, ap (λ (h : ℕ). at (grabbed h path e)) is)
grabbed_entry (at step) page is = absurd is
grabbed_entry unbegun page is = absurd is
grabbed_entry left page is = absurd is

pub other_tells : (above same : Bool) (why one : GiveUp) (found : Option GiveUp) (a p g : ℕ) (write : Bool) → found ≡ (if above then if same then None else Some why else Some one) → is_some found ≡ true → None ≡ recheck_event (above && same) a p g write
other_tells true true why one found a p g write is some = absurd (cc)
other_tells true false why one found a p g write is some = refl
other_tells false same why one found a p g write is some = refl

pub same_tells : (above same : Bool) (why one : GiveUp) (found : Option GiveUp) (a p g : ℕ) (write : Bool) → found ≡ (if above then if same then None else Some why else Some one) → is_some found ≡ false → Some (events.PinTry a p g write) ≡ recheck_event (above && same) a p g write
same_tells true true why one found a p g write is some = refl
same_tells true false why one found a p g write is some = absurd (cc)
same_tells false same why one found a p g write is some = absurd (cc)

pub recheck_page : (v : TreeValue) (w w' : WalkValue) (g : ℕ) (path : List ℕ) (e : Entry) → w' ≡ after_recheck v g path e w → (w'.page ≡ w.page) × (w'.n ≡ w.n)
recheck_page v w w' g path e leads = go (is_kept v g path e) leads
  where
    go : (same : Bool) → w' ≡ (if same then record w { taken = w.taken ++ e.frame ∷ []; stage = at (rechecked g e) } else at_stage (at (differed e.frame)) w) → (w'.page ≡ w.page) × (w'.n ≡ w.n)
    go true is = (ap (λ (x : WalkValue). x.page) is, ap (λ (x : WalkValue). x.n) is)
    go false is = (ap (λ (x : WalkValue). x.page) is, ap (λ (x : WalkValue). x.n) is)

-- ---- the sequence is read again, after the last page

some_left : (frames : List ℕ) → 0 < length frames → no_frame_left frames ≡ false
some_left [] some = absurd (omega arith)
some_left (f ∷ frames) some = refl

-- and is another
all_step : (k : Change) (w w' : WalkValue) (a p last : ℕ) → w.stage ≡ at ready → length w.taken ≡ w.n → 0 < w.n → (k.old_space.sequence == w.sequence) ≡ false
    → AreWalkEvents k w w' (λ s b q. reads_again b q k.old_space.sequence ready w) → IsStep k w w' a p last (Silent ∷ [])
all_step k w w' a p last at_it all some other events s handle step is frames space walk ends =
    let now : ℕ = k.old_space.sequence in
    let many : length (s.taken a) ≡ length w.taken = many_taken (s.taken a) w.taken walk.taken in
    let next : nat_lt (length w.taken) w.n ≡ false = grind (arith, nat_tests) in
    let e : CoreEvent = read_again a p w.want.write w.want.long w.sequence ready now in
    let none : ((now == w.sequence) || no_frame_left w.taken) ≡ false = ap (λ (b : Bool). b || no_frame_left w.taken) other ∙ some_left w.taken (omega (arith, all, some)) in
    silently k w w' a p last s (walk_turn s a p handle w.page w.n w.want w.sequence step) (reads_again a p now ready w)
    (ap (walk_turn s a p handle w.page w.n w.want w.sequence) (same_step w.stage step ready is at_it)
    ∙ ap (λ (m : ℕ). ready_turn s a p handle (w.page + m) w.n w.want w.sequence (nat_lt m w.n)) many
    ∙ ap (ready_turn s a p handle (w.page + length w.taken) w.n w.want w.sequence) next
    ∙ ap (λ (x : ℕ). all_turn a p handle w.n w.want w.sequence x (x == w.sequence)) space.sequence
    ∙ ap (all_turn a p handle w.n w.want w.sequence now) other
    ∙ ap (λ (b : Bool). silent_turn (e ∷ leaves_walk b a p w.want w.sequence)) (sym none))
    (again_walking a p now ready w) (running k w w' a p _ step is (events s a p frames space walk))
    (leaves_taken ((now == w.sequence) || no_frame_left w.taken) a p w.want w.sequence (happens s e)) ends

pub again_steps : (k : Change) (w w' : WalkValue) (a p last : ℕ) → MayReadAgain w w.stage → 0 < w.n → (w.stage ≡ at ready → length w.taken ≡ w.n → (k.old_space.sequence == w.sequence) ≡ false)
    → ((step : WalkStep) → w.stage ≡ at step → AreWalkEvents k w w' (λ s b q. reads_again b q k.old_space.sequence step w)) → IsStep k w w' a p last (Silent ∷ [])
again_steps k w w' a p last may some other events = go w.stage refl may
  where
    go : (stage : Stage) → w.stage ≡ stage → MayReadAgain w stage → IsStep k w w' a p last (Silent ∷ [])
    go (at ready) is may = all_step k w w' a p last is may some (other is may) (events ready is)
    go (at stopped) is may = again_step k w w' a p last is (events stopped is)
    go (at step) is may = absurd may
    go unbegun is may = absurd may
    go left is may = absurd may
