-- The turns of a walk at one of its pages: it is taken and kept, or the walk stops.
use Rattle.std.proofs.Common.{◌≡◌, ℕ, ◌+◌, ◌*◌, ◌<◌, ◌≤◌, ◌||◌, Bool, true, false, if◌then◌else◌, List, [], ◌∷◌, ◌++◌, length, Option, Some, None, refl, ap, sym, subst, ◌∙◌, zero, suc, arith}
use Rattle.std.proofs.lemmas.List.{length-map, length-append}
use Rattle.gup_base.specs.declared.entry.Entry.{Entry}
use Rattle.gup_base.specs.declared.entry.Want.{Want}
use Rattle.gup_plain.specs.Denial.{pin_denial}
use Rattle.gup_plain.specs.Put.{put}
use Rattle.gup_plain.specs.State.{failed}
use Rattle.gup_plain.specs.declared.event.PlainEvent.TheVariants as events
use Rattle.gup_plain.specs.declared.note.What.TheVariants.{Silent, Event}
use Rattle.gup_script.specs.Limits.{most_pinned}
use Rattle.gup_script.specs.declared.op.Op.{Op}
use Rattle.gup_script.specs.declared.op.Op.TheVariants.{Pin}
use Rattle.gup_spec_tables.specs.Paths.{entry_at, leads_still, path_to}
use Rattle.gup_spec_events.specs.State.{CoreState, Taken, Job, walking, WalkStep, entered, ready, read, grabbed, rechecked, differed, refused, stopped, pending_of, plain_of}
use Rattle.gup_spec_events.specs.Event.{CoreEvent, Can, happens, run, tree_in, is_wrong, step_read, grab_frame, miss_frame, recheck_above, recheck_other, read_mark, drop_grab}
use Rattle.gup_spec_events.specs.Descent.{reads_down, entry_down, step_down}
use Rattle.gup_spec_events.specs.Invariant.{AllCan}
use Rattle.gup_law_base.specs.Sound.{walking_of}
use Rattle.gup_law_events.specs.Law.{all_told}
use Rattle.gup_law_tables.proofs.ReadDown.{can_down, leads_down}
use Rattle.gup_spec_journal.specs.Denial.{op_denial}
use Rattle.gup_spec_journal.specs.Place.{Place, Doer}
use Rattle.gup_spec_journal.specs.Plain.{pages_got}
use Rattle.gup_spec_turns.specs.Cost.{pins_turns}
use Rattle.gup_spec_turns.specs.CoreTurn.{CoreTurn}
use Rattle.gup_spec_turns.specs.JobPlace.{in_walk}
use Rattle.gup_spec_turns.specs.PinPlace.{HasTaken, IsAtStep, IsReadThere, StandsAtPage}
use Rattle.gup_spec_turns.specs.WalkTurns.{silent_turn, grab_turn, is_same, recheck_turn, split_last, last_turn}
use Rattle.gup_law_turns.proofs.CalmStates.{of_pin, AreTurnEvents, rechecking_above, grabbing, missing_frame, finding_same, finding_other, reading_mark, dropping_grab, dropping_last}
use Rattle.gup_law_turns.proofs.CountedFrames.{entry_there}
use Rattle.gup_law_turns.proofs.Descents.{entry_from, readings_are, readings_silent}
use Rattle.gup_law_turns.proofs.PinOps.{untaken_next, one_more}
use Rattle.gup_law_turns.proofs.Puts.{put_same}
use Rattle.gup_law_turns.proofs.ShownTurns.{IsOpen, IsTurned}
use Rattle.gup_law_turns.proofs.TurnShapes.{references_of, FitsPin, TurnOf, WalksTo, walked, found_entry, found_wrong, grabbed_frame, found_free, took_page, found_other, found_mark, found_unmarked, dropped_frame, dropped_page}
use Rattle.gup_law_turns.proofs.WalkSteps.{GoesOn, StandsOn, same_entry, other_entry, split_is, split_some, fewer_taken, last_slice, pending_from, undenied_by, silent_to, goes_to}

module _ (s : CoreState) (who : Doer) (place : Place) (h : IsOpen s who.actor who.proc) (handle page n : ℕ) (want : Want) (some_pages : 1 ≤ n) (few_pages : n ≤ most_pinned) (sequence : ℕ) where
  abbrev a : ℕ
  a = who.actor

  abbrev p : ℕ
  p = who.proc

  abbrev op : Op
  op = Pin handle page n want true

  abbrev got : ℕ
  got = length (s.taken a)

  abbrev here : ℕ
  here = page + got

  abbrev walk_at : WalkStep → Job
  walk_at step = walking p want.write want.long sequence step

  -- it stands at this step
  abbrev IsAt : WalkStep → Type 0
  IsAt step = s.job a ≡ walk_at step

  abbrev Fits : WalkStep → Type 0
  Fits step = FitsPin s a p handle page n want true place (s.taken a) (walk_at step)

  abbrev Turned : CoreTurn → Type 0
  Turned turn = IsTurned s who place op turn

  -- how many pages it has got, as the plain state has them
  pending_got : pages_got (plain_of s) a ≡ got
  pending_got = length-map (s.taken a) pending_of

  less_pending : got < n → pages_got (plain_of s) a < n
  less_pending less = subst (λ (k : ℕ). k < n) (sym pending_got) less

  some_pending : 0 < got → 0 < pages_got (plain_of s) a
  some_pending some = subst (λ (k : ℕ). 0 < k) (sym pending_got) some

  flag_set : {step : WalkStep} → Fits step → s.has_pinned p ≡ true
  flag_set fits = fits.at.flag

  -- in the state after it the walk stands at this step, with these pages taken
  walks_at : (t : CoreState) (k : ℕ) (step : WalkStep) → t.has_pinned p ≡ true → (step ≡ entered → ⊥) → IsReadThere t step → IsAtStep (page + k) n k step → StandsAtPage t a p (page + k) n k want true (walk_at step)
  walks_at t k step flag inside there at = record { walks = refl; of = refl; writes = refl; keeps = refl; flag = flag; unread = λ same. absurd (inside same); here = at; there = there }

  -- down the path of its next page: the entry there is right for the pin, or the walk stops

  pub reads_entry : IsAt ready → Fits ready → got < n → Turned (silent_turn (reads_down s a p want.write want.long sequence here))
  reads_entry job fits less = by_entry (entry_down s p here) refl
    where
      es : List CoreEvent
      es = reads_down s a p want.write want.long sequence here

      t : CoreState
      t = run s es

      -- it is the same state but for the walk's step
      leads : t ≡ record s { job = put a (walk_at (step_down s p want.write want.long here)) s.job }
      leads = leads_down s a p sequence here want.write want.long

      most : place.far ≤ 4 * got + 2
      most = fits.most

      more : place.far + 1 < pins_turns true want.long n
      more = omega (arith, most, less)

      flag_then : t.has_pinned p ≡ true
      flag_then = ap (λ (u : CoreState). u.has_pinned p) leads ∙ flag_set fits

      goes_down : (step : WalkStep) → step_down s p want.write want.long here ≡ step → GoesOn s who place h handle page n want some_pages few_pages sequence ready job fits t (s.taken a) (walk_at step)
      goes_down step same =
          record {
            prepared = ap (λ (u : CoreState). u.prepared) leads;
            owed = ap (λ (u : CoreState). u.owed) leads;
            handles = ap (λ (u : CoreState). u.handle) leads;
            pinned = ap (λ (u : CoreState). u.pinned) leads;
            flag = ap (λ (u : CoreState). u.has_pinned) leads;
            has = ap (λ (u : CoreState). u.taken a) leads;
            is = ap (λ (u : CoreState). u.job a) leads ∙ put_same a (walk_at (step_down s p want.write want.long here)) s.job ∙ ap walk_at same;
          }

      goes : (step : WalkStep) → step_down s p want.write want.long here ≡ step → StandsOn s who place h handle page n want some_pages few_pages sequence ready job fits t place.had (s.taken a) (walk_at step) → WalksTo (plain_of s) who page n (pages_got (plain_of s) a) want.write sequence ready (Silent ∷ []) (in_walk sequence step) → Turned (silent_turn es)
      goes step same stands shape =
          silent_to s who place h handle page n want some_pages few_pages sequence ready job fits es (walk_at step) (in_walk sequence step)
          (readings_are (tree_in s p) a p handle want.write want.long sequence here 3 [])
          (can_down s a p sequence here want.write want.long job (untaken_next p page got want (s.taken a) fits.has))
          (readings_silent (tree_in s p) a p want.write want.long sequence here 3 [])
          (goes_down step same) stands refl more shape

      stops : step_down s p want.write want.long here ≡ stopped → Turned (silent_turn es)
      stops same =
          goes stopped same
          (record { some = fits.had_some; least = omega (arith, fits.least); most = omega (arith, most); within = omega (arith, less); pages = fits.has; at = walks_at t got stopped flag_then (λ e. cc e) tt less })
          (found_wrong (less_pending less))

      -- what is read stands at the end of this path
      down : List ℕ
      down = path_to (tree_in s p) here

      by_wrong : (e : Entry) (wrong : Bool) → is_wrong s want.write want.long e ≡ wrong → entry_down s p here ≡ Some e → Turned (silent_turn es)
      by_wrong e true wrong found =
          stops (ap (step_read s want.write want.long here down) found ∙ ap (λ (b : Bool). if b then stopped else read here down e) wrong)
      by_wrong e false right found =
          let there : s.entry p here ≡ Some e = entry_from (tree_in s p) down here e found in
          let sized : t.movable + t.normal ≡ s.movable + s.normal = ap (λ (u : CoreState). u.movable + u.normal) leads in
          goes (read here down e) (ap (step_read s want.write want.long here down) found ∙ ap (λ (b : Bool). if b then stopped else read here down e) right)
          (record {
            some = fits.had_some;
            least = omega (arith, fits.least);
            most = omega (arith, most);
            within = omega (arith, less);
            pages = fits.has;
            at = walks_at t got (read here down e) flag_then (λ x. cc x) (subst (λ (k : ℕ). e.frame < k) (sym sized) (entry_there s h.sound h.there p here e there)) (refl, less);
          })
          (found_entry here down e (less_pending less))

      by_entry : (o : Option Entry) → entry_down s p here ≡ o → Turned (silent_turn es)
      by_entry None none = stops (ap (step_read s want.write want.long here down) none)
      by_entry (Some e) found = by_wrong e (is_wrong s want.write want.long e) refl found

  -- the frame of its entry: it is grabbed, or free

  pub grabs : (g : ℕ) (path : List ℕ) (e : Entry) → IsAt (read g path e) → Fits (read g path e) → (count : ℕ) → s.count e.frame ≡ count → Turned (grab_turn a p want sequence g path e count)
  grabs g path e job fits zero none =
      let es : List CoreEvent = miss_frame a p want.write want.long sequence g path e ∷ [] in
      let most : place.far ≤ 4 * got + 3 = fits.most in
      let less : got < n = fits.at.here.1 in
      silent_to s who place h handle page n want some_pages few_pages sequence (read g path e) job fits es (walk_at stopped) (in_walk sequence stopped)
      (missing_frame handle refl want.write want.long sequence g path e, tt) (job, tt) refl
      (record { prepared = refl; owed = refl; handles = refl; pinned = refl; flag = refl; has = refl; is = put_same a (walk_at stopped) s.job })
      (record { some = fits.had_some; least = omega (arith, fits.least); most = omega (arith, most); within = omega (arith, less); pages = fits.has; at = walks_at (run s es) got stopped (flag_set fits) (λ x. cc x) tt less })
      refl (omega (arith, most, less)) (found_free g path e (less_pending less))
  grabs g path e job fits (suc count) counted =
      let es : List CoreEvent = grab_frame a p want.write want.long sequence g path e ∷ [] in
      let most : place.far ≤ 4 * got + 3 = fits.most in
      let less : got < n = fits.at.here.1 in
      silent_to s who place h handle page n want some_pages few_pages sequence (read g path e) job fits es (walk_at (grabbed g path e)) (in_walk sequence (grabbed g path e))
      (grabbing handle refl want.write want.long sequence g path e, tt) ((job, λ none. absurd (omega (arith, none, counted))), tt) refl
      (record { prepared = refl; owed = refl; handles = refl; pinned = refl; flag = refl; has = refl; is = put_same a (walk_at (grabbed g path e)) s.job })
      (record { some = fits.had_some; least = omega (arith, fits.least); most = omega (arith, most); within = omega (arith, less); pages = fits.has; at = walks_at (run s es) got (grabbed g path e) (flag_set fits) (λ x. cc x) tt fits.at.here })
      refl (omega (arith, most, less)) (grabbed_frame g path e (less_pending less))

  -- The word above again, and its entry: where both are the same the page is taken.

  module _ (g : ℕ) (path : List ℕ) (e : Entry) (job : IsAt (grabbed g path e)) (fits : Fits (grabbed g path e)) where
    most_grabbed : place.far ≤ 4 * got + 4
    most_grabbed = fits.most

    less_grabbed : got < n
    less_grabbed = fits.at.here.1

    more_grabbed : place.far + 1 < pins_turns true want.long n
    more_grabbed = let most = most_grabbed in let less = less_grabbed in omega (arith, most, less)

    abbrev same_above : CoreEvent
    same_above = recheck_above a p want.write want.long sequence g path e true

    abbrev above : CoreState
    above = happens s same_above

    still_grabbed : above.job a ≡ walk_at (grabbed g path e)
    still_grabbed = put_same a (walk_at (grabbed g path e)) s.job

    rechecked_above : true ≡ leads_still (tree_in s p) path g → Can s same_above
    rechecked_above leads = (job, leads)

    -- it goes on to drop the frame
    finds_differing : (es : List CoreEvent) → AreTurnEvents a p p (of_pin handle) es → AllCan s es → all_told es ≡ [] → GoesOn s who place h handle page n want some_pages few_pages sequence (grabbed g path e) job fits (run s es) (s.taken a) (walk_at (differed e.frame)) → (run s es).has_pinned p ≡ true → Turned (silent_turn es)
    finds_differing es kinds can told goes flag =
        let most = most_grabbed in
        let less = less_grabbed in
        silent_to s who place h handle page n want some_pages few_pages sequence (grabbed g path e) job fits es (walk_at (differed e.frame)) (in_walk sequence (differed e.frame))
        kinds can told goes
        (record { some = fits.had_some; least = omega (arith, fits.least); most = omega (arith, most); within = omega (arith, less); pages = fits.has; at = walks_at (run s es) got (differed e.frame) flag (λ x. cc x) tt less })
        refl more_grabbed (found_other g path e (less_pending less))

    finds_away : false ≡ leads_still (tree_in s p) path g → (same : Bool) → Turned (recheck_turn a p want sequence g path e false same)
    finds_away leads same =
        finds_differing (recheck_above a p want.write want.long sequence g path e false ∷ [])
        (rechecking_above handle refl want.write want.long sequence g path e false, tt) ((job, leads), tt) refl
        (record { prepared = refl; owed = refl; handles = refl; pinned = refl; flag = refl; has = refl; is = put_same a (walk_at (differed e.frame)) s.job })
        (flag_set fits)

    finds_other : true ≡ leads_still (tree_in s p) path g → is_same e (entry_at (tree_in s p) path g) ≡ false → Turned (recheck_turn a p want sequence g path e true false)
    finds_other leads other =
        finds_differing (same_above ∷ recheck_other a p want.write want.long sequence g path e ∷ [])
        (rechecking_above handle refl want.write want.long sequence g path e true, (finding_other handle refl want.write want.long sequence g path e, tt))
        (rechecked_above leads, ((still_grabbed, other_entry e (entry_at (tree_in s p) path g) other), tt)) refl
        (record { prepared = refl; owed = refl; handles = refl; pinned = refl; flag = refl; has = refl; is = put_same a (walk_at (differed e.frame)) above.job })
        (flag_set fits)

    -- the page isn't denied, since its entry is right for the pin
    undenied_page : s.entry p g ≡ Some e → pin_denial want.write (s.right p g) ≡ None
    undenied_page there =
        let whole = h.sound.1.whole_entry p g e there in
        let walks = h.sound.1.walks_are a ∙ ap walking_of job in
        undenied_by want.write (s.right p g) e.writable
        (λ writes. h.sound.1.walk_writes a (record { proc = p; write = want.write; long = want.long; sequence = sequence; step = grabbed g path e }) e walks refl writes)
        (λ none. let lost : s.birth p ≡ failed = h.sound.1.entry_mapped p g e whole none in let lives = h.birth in cc)
        (λ writable only. h.sound.1.entry_allowed p g e whole writable only)

    finds_same : true ≡ leads_still (tree_in s p) path g → is_same e (entry_at (tree_in s p) path g) ≡ true → Turned (recheck_turn a p want sequence g path e true true)
    finds_same leads same =
        let found : entry_at (tree_in s p) path g ≡ Some e = same_entry e (entry_at (tree_in s p) path g) same in
        let there : s.entry p g ≡ Some e = entry_from (tree_in s p) path g e found in
        let new : Taken = record { proc = p; page = g; frame = e.frame; object = s.object p g; write = want.write; long = want.long } in
        let turn : CoreTurn = recheck_turn a p want sequence g path e true true in
        let taken_then : HasTaken p page want (got + 1) (s.taken a ++ new ∷ []) = one_more p page got want (s.taken a) new fits.has (refl, fits.at.here.0, refl, refl) in
        let many : length (s.taken a ++ new ∷ []) ≡ got + 1 = taken_then.many in
        let most = most_grabbed in
        let less = less_grabbed in
        let at_page : g ≡ here = fits.at.here.0 in
        let named : page + pages_got (plain_of s) a ≡ g = ap (λ (k : ℕ). page + k) pending_got ∙ sym at_page in
        let free : op_denial (plain_of s) (references_of s) who (pages_got (plain_of s) a) op ≡ None = subst (λ (k : ℕ). pin_denial want.write (s.right p k) ≡ None) (sym named) (undenied_page there) in
        goes_to s who place h handle page n want some_pages few_pages sequence (grabbed g path e) job fits turn true (s.taken a ++ new ∷ []) (walk_at (rechecked g e)) (in_walk sequence (rechecked g e))
        (λ fits_next. fits_next) (rechecking_above handle refl want.write want.long sequence g path e true, (finding_same handle refl want.write want.long sequence g path e, tt)) (rechecked_above leads, ((still_grabbed, found), tt)) refl
        (record { prepared = refl; owed = refl; handles = refl; pinned = refl; flag = refl; has = put_same a (s.taken a ++ new ∷ []) s.taken; is = put_same a (walk_at (rechecked g e)) above.job })
        (record {
          some = λ any. refl;
          least = omega (arith, fits.least, many);
          most = omega (arith, most, many);
          within = omega (arith, less, many);
          pages = subst (λ (k : ℕ). HasTaken p page want k (s.taken a ++ new ∷ [])) (sym many) taken_then;
          at = walks_at (run s turn.events) (length (s.taken a ++ new ∷ [])) (rechecked g e) (flag_set fits) (λ x. cc x) tt (omega (arith, many), omega (arith, many, at_page));
        })
        refl
        (subst (λ (k : ℕ). TurnOf (plain_of s) (references_of s) who place op (in_walk sequence (grabbed g path e)) (Event (events.PinTry a p k want.write) ∷ []) (in_walk sequence (rechecked g e))) named
        (walked handle page n want sequence (grabbed g path e) (Event (events.PinTry a p (page + pages_got (plain_of s) a) want.write) ∷ []) (in_walk sequence (rechecked g e)) (took_page g path e (less_pending less)) more_grabbed (λ event is never. free)))

    pub rechecks : (leads same : Bool) → leads_still (tree_in s p) path g ≡ leads → is_same e (entry_at (tree_in s p) path g) ≡ same → Turned (recheck_turn a p want sequence g path e leads same)
    rechecks true true leads same = finds_same (sym leads) same
    rechecks true false leads other = finds_other (sym leads) other
    rechecks false same leads is = finds_away (sym leads) same

  -- its mark

  pub marks : (g : ℕ) (e : Entry) → IsAt (rechecked g e) → Fits (rechecked g e) → (keeps : Bool) → (e.writable || s.mark e.frame) ≡ keeps → Turned (silent_turn (read_mark a p want.write want.long sequence g e (s.mark e.frame) ∷ []))
  marks g e job fits true keeps =
      let es : List CoreEvent = read_mark a p want.write want.long sequence g e (s.mark e.frame) ∷ [] in
      let most : place.far ≤ 4 * got + 1 = fits.most in
      let few : got ≤ n = fits.within in
      silent_to s who place h handle page n want some_pages few_pages sequence (rechecked g e) job fits es (walk_at ready) (in_walk sequence ready)
      (reading_mark handle refl want.write want.long sequence g e (s.mark e.frame), tt) ((job, refl), tt) refl
      (record { prepared = refl; owed = refl; handles = refl; pinned = refl; flag = refl; has = refl; is = put_same a (walk_at (if e.writable || s.mark e.frame then ready else refused)) s.job ∙ ap (λ (b : Bool). walk_at (if b then ready else refused)) keeps })
      (record { some = fits.had_some; least = omega (arith, fits.least); most = omega (arith, most); within = few; pages = fits.has; at = walks_at (run s es) got ready (flag_set fits) (λ x. cc x) tt tt })
      refl (omega (arith, most, few)) (found_mark g e (some_pending fits.at.here.0))
  marks g e job fits false lacks =
      let es : List CoreEvent = read_mark a p want.write want.long sequence g e (s.mark e.frame) ∷ [] in
      let most : place.far ≤ 4 * got + 1 = fits.most in
      let few : got ≤ n = fits.within in
      silent_to s who place h handle page n want some_pages few_pages sequence (rechecked g e) job fits es (walk_at refused) (in_walk sequence refused)
      (reading_mark handle refl want.write want.long sequence g e (s.mark e.frame), tt) ((job, refl), tt) refl
      (record { prepared = refl; owed = refl; handles = refl; pinned = refl; flag = refl; has = refl; is = put_same a (walk_at (if e.writable || s.mark e.frame then ready else refused)) s.job ∙ ap (λ (b : Bool). walk_at (if b then ready else refused)) lacks })
      (record { some = fits.had_some; least = omega (arith, fits.least); most = omega (arith, most); within = few; pages = fits.has; at = walks_at (run s es) got refused (flag_set fits) (λ x. cc x) tt fits.at.here.0 })
      refl (omega (arith, most, few)) (found_unmarked g e (some_pending fits.at.here.0))

  -- what it drops where it stops

  pub drops_grab : (f : ℕ) → IsAt (differed f) → Fits (differed f) → Turned (silent_turn (drop_grab a p want.write want.long sequence f ∷ []))
  drops_grab f job fits =
      let es : List CoreEvent = drop_grab a p want.write want.long sequence f ∷ [] in
      let most : place.far ≤ 4 * got + 5 = fits.most in
      let less : got < n = fits.at.here in
      silent_to s who place h handle page n want some_pages few_pages sequence (differed f) job fits es (walk_at stopped) (in_walk sequence stopped)
      (dropping_grab handle refl want.write want.long sequence f, tt) (job, tt) refl
      (record { prepared = refl; owed = refl; handles = refl; pinned = refl; flag = refl; has = refl; is = put_same a (walk_at stopped) s.job })
      (record { some = fits.had_some; least = omega (arith, fits.least); most = omega (arith, most); within = omega (arith, less); pages = fits.has; at = walks_at (run s es) got stopped (flag_set fits) (λ x. cc x) tt less })
      refl (omega (arith, most, less)) (dropped_frame f (less_pending less))

  pub drops_page : IsAt refused → Fits refused → Turned (last_turn a p want sequence (split_last (s.taken a)))
  drops_page job fits =
      let last = split_some (s.taken a) fits.at.here in
      subst (λ (o : Option (List Taken × Taken)). Turned (last_turn a p want sequence o)) (sym last.2) (drops last.0 last.1 (split_is (s.taken a) last.0 last.1 last.2))
    where
      drops : (rest : List Taken) (last : Taken) → s.taken a ≡ rest ++ last ∷ [] → Turned (last_turn a p want sequence (Some (rest, last)))
      drops rest last is =
          let turn : CoreTurn = last_turn a p want sequence (Some (rest, last)) in
          let has : HasTaken p page want got (rest ++ last ∷ []) = subst (HasTaken p page want got) is fits.has in
          let longer = length-append rest (last ∷ []) in
          let same : got ≡ length (rest ++ last ∷ []) = ap (λ (ts : List Taken). length ts) is in
          let page_last = (has.each (length rest) last (last_slice rest last)).1 in
          let most : place.far ≤ 4 * got + 2 = fits.most in
          let few : got ≤ n = fits.within in
          let some : 0 < got = fits.at.here in
          let counted = pending_got in
          goes_to s who place h handle page n want some_pages few_pages sequence refused job fits turn true rest (walk_at stopped) (in_walk sequence stopped)
          (λ fits_next. fits_next) (dropping_last handle refl want.write want.long sequence rest last, tt) ((job, is), tt) refl
          (record { prepared = refl; owed = refl; handles = refl; pinned = refl; flag = refl; has = put_same a rest s.taken; is = put_same a (walk_at stopped) s.job })
          (record {
            some = λ any. refl;
            least = omega (arith, fits.least, longer, same);
            most = omega (arith, most, longer, same);
            within = omega (arith, few, longer, same);
            pages = fewer_taken p page got want rest last has;
            at = walks_at (run s turn.events) (length rest) stopped (flag_set fits) (λ x. cc x) tt (omega (arith, few, longer, same));
          })
          refl
          (walked handle page n want sequence refused (Event (events.PinDrop a last.page) ∷ []) (in_walk sequence stopped)
          (dropped_page last.page (omega (arith, page_last, longer, same, counted)) (some_pending some) (omega (arith, counted, few)) (pending_from p page got want (s.taken a) fits.has))
          (omega (arith, most, few)) (λ event same never. absurd (let had = fits.had_some some in cc)))
