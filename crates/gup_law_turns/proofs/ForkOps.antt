-- The turns of a fork can be done, have their shapes, and lead where the next turn can go on.
use Rattle.std.proofs.Common.{◌≡◌, ℕ, ◌+◌, ◌-◌, ◌<◌, ◌≤◌, ◌==◌, Bool, true, false, IsSome, is_some, List, [], ◌∷◌, Contains, Option, Some, None, ◌⊎◌, inl, inr, eqb-true, nat_lt, refl, ap, sym, subst, ◌∙◌, eq-or-lt_of_le, arith}
use Rattle.gup_law_turns.proofs.CopiedPages.{no_copy, no_frame, copies_on}
use Rattle.gup_law_turns.specs.Standing.{CopyStands}
use Rattle.gup_base.specs.declared.entry.Allowed.TheVariants.{Any}
use Rattle.std.proofs.lemmas.Bool.Decides.{nat_tests}
use Rattle.std.proofs.lemmas.List.Elements.{Contains-append_right}
use Rattle.std.proofs.lemmas.Map.Made.{Contains-tail}
use Rattle.gup_base.specs.declared.entry.Entry.{Entry}
use Rattle.gup_base.specs.declared.entry.Rights.{Rights}
use Rattle.gup_plain.specs.State.{Birth, unborn, growing, born, failed}
use Rattle.gup_plain.specs.Event.{page_numbers, words}
use Rattle.gup_plain.specs.declared.answer.Answer.TheVariants as answers
use Rattle.gup_plain.specs.declared.event.PlainEvent.TheVariants as events
use Rattle.gup_plain.specs.declared.note.What.{What}
use Rattle.gup_plain.specs.declared.note.What.TheVariants.{Silent, Event, Done}
use Rattle.gup_script.specs.declared.op.Op.TheVariants.{Fork}
use Rattle.gup_spec_events.specs.State.{CoreState, Taken, Job, idle, forking, ForkStep, between, counted, lowered, cleared, copying, plain_of}
use Rattle.gup_spec_events.specs.Event.{CoreEvent, MayPrepare, MayFail, AreUnlocked, has_tables, happens, entry_of, take_frame, begin_fork, count_page, share_entry, share_mark, share_child, copy_word, place_child, pass_page, end_fork, copies_page, run}
use Rattle.gup_spec_events.specs.Failure.{fails}
use Rattle.gup_law_base.specs.Sound.{keeps_table}
use Rattle.gup_spec_journal.specs.Place.{Place, Doer}
use Rattle.gup_spec_turns.specs.JobPlace.{JobPlace, job_place, place_in, IsForking, HasCounted, HasCopied, StandsFork, KeepsFrame, unbegun, from_page, at_page, wants_frame, at_word}
use Rattle.gup_spec_turns.specs.CoreTurn.{frame_in, allows_store, entry_in, frame_for}
use Rattle.gup_spec_turns.specs.ForkTurns.{first_behind, next_page, page_turn, next_turn, failed_at, share_turn, frame_turn, copy_turn, copying_turn, rights_in, fork_turn}
use Rattle.gup_spec_turns.specs.Waits.{fork_locks, held_by_other, waits_for_lock, waits_for_locks, locks_needed}
use Rattle.gup_spec_turns.specs.Turn.{op_turn}
use Rattle.gup_law_turns.proofs.CalmStates.{beginning, counting, sharing_entry, sharing_mark, sharing_child, passing, ending, taking, copying_word, placing}
use Rattle.gup_law_turns.proofs.FaultTurns.{entry_there, no_mirror_at}
use Rattle.gup_law_turns.proofs.ForkFails.{below_or_from, unborn_empty, fork_fails}
use Rattle.gup_law_turns.proofs.KeptPages.{pages_leave}
use Rattle.gup_law_turns.proofs.Puts.{put_same, put2_same, none_of}
use Rattle.gup_law_turns.proofs.PageSearches.{frame_for_free, lowest_some, lowest_none, IsLowest}
use Rattle.gup_law_turns.proofs.TurnShapes.{references_of, AtFirst, IsBegun, FitsFork, FitsOp, TurnOf, began, passed_page, counted_page, shared_page, ended, counted_copy, took_frame, copied_word, placed_copy, failed_share, failed_fork, AtRest, unprepared, at_rest}
use Rattle.gup_law_turns.proofs.ShownTurns.{IsOpen, IsTurned, both_free, table_free}

-- a fork's shape, by the places where it stands before and after the turn
shape_from : (s t : CoreState) (who : Doer) (child : ℕ) (place : Place) (whats : List What) (from to : JobPlace) → place_in s who.actor ≡ from → place_in t who.actor ≡ to → TurnOf (plain_of s) (references_of s) who place (Fork child) from whats to → TurnOf (plain_of s) (references_of s) who place (Fork child) (place_in s who.actor) whats (place_in t who.actor)
shape_from s t who child place whats from to before behind shape =
    subst (λ (x : JobPlace). TurnOf (plain_of s) (references_of s) who place (Fork child) x whats (place_in t who.actor)) (sym before)
    (subst (λ (y : JobPlace). TurnOf (plain_of s) (references_of s) who place (Fork child) from whats y) (sym behind) shape)

-- where it stands, by its job and the frame that it has prepared
stands_at : (s : CoreState) (a : ℕ) (job : Job) (prepared : Option ℕ) → s.job a ≡ job → s.prepared a ≡ prepared → place_in s a ≡ job_place job prepared
stands_at s a job prepared is has = ap (λ (j : Job). job_place j (s.prepared a)) is ∙ ap (job_place job) has

fits_fork : (s : CoreState) (a p child : ℕ) (place : Place) (job : Job) (prepared : Option ℕ) → s.job a ≡ job → s.prepared a ≡ prepared → FitsFork s a p child place job prepared → FitsFork s a p child place (s.job a) (s.prepared a)
fits_fork s a p child place job prepared is has fits =
    subst (λ (j : Job). FitsFork s a p child place j (s.prepared a)) (sym is)
    (subst (FitsFork s a p child place job) (sym has) fits)

-- what an actor in the middle of this keeps
keeps : (s : CoreState) (a : ℕ) (job : Job) → AtRest s a → s.job a ≡ job → KeepsFrame job (s.prepared a)
keeps s a job rest is = subst (λ (j : Job). KeepsFrame j (s.prepared a)) is rest.prepared

keeps_frame : (s : CoreState) (a : ℕ) (job : Job) → s.job a ≡ job → KeepsFrame job (s.prepared a) → s.owed a ≡ None → AtRest s a
keeps_frame s a job is frame owed = record { prepared = subst (λ (j : Job). KeepsFrame j (s.prepared a)) (sym is) frame; owed = owed }

-- a page with an entry, or with rights
entry_is : (entry : Option Entry) → IsSome entry → entry ≡ Some (entry_in entry)
entry_is None is = absurd (cc is)
entry_is (Some e) is = refl

rights_are : (right : Option Rights) → IsSome right → right ≡ Some (rights_in right)
rights_are None is = absurd (cc is)
rights_are (Some r) is = refl

-- the pages that are done, with one more

no_element : (x : ℕ) → Contains [] x → ⊥
no_element x has = omega (arith, has.1)

first_element : (x : ℕ) (xs : List ℕ) → Contains (x ∷ xs) x
first_element x xs = (0, omega arith, refl)

later_element : (x : ℕ) (xs : List ℕ) (y : ℕ) → Contains xs y → Contains (x ∷ xs) y
later_element x xs y has = Contains-append_right (x ∷ []) xs y has

either_element : (x : ℕ) (xs : List ℕ) (y : ℕ) → Contains (x ∷ xs) y → (x ≡ y) ⊎ Contains xs y
either_element x xs y has = go (x == y) refl
  where
    apart : (x == y) ≡ false → x ≡ y → ⊥
    apart other same = grind (arith, nat_tests)

    go : (t : Bool) → (x == y) ≡ t → (x ≡ y) ⊎ Contains xs y
    go true is = inl (eqb-true x y is)
    go false other = inr (Contains-tail x xs y (apart other) has)

some_right : (o : Option Rights) → IsSome o → (r : Rights) × (o ≡ Some r)
some_right None is = absurd (cc is)
some_right (Some r) is = (r, refl)

-- a child that has failed has no entries
abbrev pub IsEmptied : CoreState → ℕ → Type 0
IsEmptied t child = t.birth child ≡ failed → (page : ℕ) → t.entry child page ≡ None

module _ (s : CoreState) (who : Doer) (child : ℕ) (place : Place) (h : IsOpen s who.actor who.proc) (untaken : s.taken who.actor ≡ []) where
  abbrev a : ℕ
  a = who.actor

  abbrev p : ℕ
  p = who.proc

  -- the beginning

  begins : s.job a ≡ idle → AtFirst place → s.birth child ≡ unborn → AreUnlocked s p → IsTurned s who place (Fork child) (fork_turn s a p child idle)
  begins job first birth free =
      let none : s.prepared a ≡ None = unprepared s a h.rest job in
      let t : CoreState = happens s (begin_fork a p child) in
      let behind : t.job a ≡ forking p child [] between = put_same a (forking p child [] between) s.job in
      let stands : IsForking t a p child p child [] =
      record {
        parent = refl;
        into = refl;
        birth = put_same child (growing p) s.birth;
        locked = put_same p (Some a) s.structure;
        below = λ page in_done. absurd (no_element page in_done);
        done_all = λ page less named. absurd (omega arith);
        fresh = λ page least. unborn_empty s child page h.sound birth;
      } in
      record {
        done = record {
          kinds = (beginning, tt);
          can = ((h.birth, birth, free, (job, none), h.rest.owed, untaken), tt);
          rest = at_rest t a none h.rest.owed;
          told = refl;
        };
        shape = shape_from s t who child place (Event (events.ForkBegin p child) ∷ []) unbegun (from_page 0) (stands_at s a idle None job none) (stands_at t a (forking p child [] between) None behind none) (began child first);
        next = (untaken, fits_fork t a p child (record place { far = place.far + 1; had = true }) (forking p child [] between) None behind none ((omega arith, refl), stands));
        pin = tt;
      }

  -- a fork of which these pages are done
  module _ (done : List ℕ) (at : IsForking s a p child p child done) where
    -- after the pages that are done, a page below this one is not mapped
    abbrev IsNext : (page : ℕ) → Type 0
    IsNext page = (g : ℕ) → first_behind done ≤ g → g < page → s.right child g ≡ None

    -- where this page is done too, all mapped pages below the next are
    done_on : (page : ℕ) → IsNext page → (t : CoreState) → t.right child ≡ s.right child → (g : ℕ) → g < page + 1 → IsSome (t.right child g) → Contains (page ∷ done) g
    done_on page next t rights g less named = by_order (below_or_from g (first_behind done)) (eq-or-lt_of_le near)
      where
        near : g ≤ page
        near = omega arith

        there : IsSome (s.right child g)
        there = subst (λ (f : ℕ → Option Rights). IsSome (f g)) rights named

        by_order : (g < first_behind done) ⊎ (first_behind done ≤ g) → (g ≡ page) ⊎ (g < page) → Contains (page ∷ done) g
        by_order (inl before) place = later_element page done g (at.done_all g before there)
        by_order (inr least) (inl same) = subst (Contains (page ∷ done)) (sym same) (first_element page done)
        by_order (inr least) (inr below) = absurd (let none : s.right child g ≡ None = next g least below in let is : is_some (s.right child g) ≡ false = ap is_some none in cc (sym is ∙ there))

    below_on : (page : ℕ) → first_behind done ≤ page → (g : ℕ) → Contains (page ∷ done) g → g < page + 1
    below_on page least g has = elim (either_element page done g has) [ inl same ↦ omega (arith, same) | inr there ↦ let less : g < first_behind done = at.below g there in omega arith ]

    -- the fork goes on after this page, in a state that has the same of the child but for its entry
    goes_on : (page : ℕ) → first_behind done ≤ page → IsNext page → (t : CoreState) → t.birth child ≡ s.birth child → t.structure p ≡ s.structure p → t.right child ≡ s.right child → ((g : ℕ) → page + 1 ≤ g → t.entry child g ≡ s.entry child g) → IsForking t a p child p child (page ∷ done)
    goes_on page least next t births locks rights entries =
        record {
          parent = refl;
          into = refl;
          birth = births ∙ at.birth;
          locked = locks ∙ at.locked;
          below = below_on page least;
          done_all = done_on page next t rights;
          fresh = λ g more. entries g more ∙ at.fresh g (omega arith);
        }

    -- it looks for its next page
    module _ (job : s.job a ≡ forking p child done between) (begun : IsBegun place) where
      keeps_no_frame : s.prepared a ≡ None
      keeps_no_frame = keeps s a (forking p child done between) h.rest job

      between_pages : place_in s a ≡ from_page (first_behind done)
      between_pages = stands_at s a (forking p child done between) None job keeps_no_frame

      -- the mapped pages are all done where the search finds none
      all_done : next_page (s.right child) done ≡ None → (page : ℕ) → IsSome (s.right child page) → Contains done page
      all_done missing page named = by_order (below_or_from page (first_behind done))
        where
          behind : first_behind done ≤ page → ⊥
          behind least =
              let right = some_right (s.right child page) named in
              let below : page < page_numbers = h.sound.1.right_numbered child page right.0 right.1 in
              let unmapped : is_some (s.right child page) ≡ false = lowest_none (first_behind done) (page_numbers - first_behind done) (λ g. is_some (s.right child g)) missing page least (omega arith) in
              cc (sym unmapped ∙ named)

          by_order : (page < first_behind done) ⊎ (first_behind done ≤ page) → Contains done page
          by_order (inl less) = at.done_all page less named
          by_order (inr least) = absurd (behind least)

      ends : next_page (s.right child) done ≡ None → IsTurned s who place (Fork child) (next_turn s a p child done None)
      ends missing =
          let t : CoreState = happens s (end_fork a p child done) in
          let behind : t.job a ≡ idle = put_same a idle s.job in
          record {
            done = record {
              kinds = (ending done, tt);
              can = ((job, all_done missing), tt);
              rest = at_rest t a keeps_no_frame h.rest.owed;
              told = refl;
            };
            shape = shape_from s t who child place (Event (events.ForkEnd p child) ∷ Done answers.Plain ∷ []) (from_page (first_behind done)) unbegun between_pages (stands_at t a idle None behind keeps_no_frame) (ended child (first_behind done) begun);
            next = (behind, untaken);
            pin = tt;
          }

      module _ (page : ℕ) (found : next_page (s.right child) done ≡ Some page) (free : s.table p ≡ None) where
        is_lowest : IsLowest (first_behind done) (page_numbers - first_behind done) (λ g. is_some (s.right child g)) page
        is_lowest = lowest_some (first_behind done) (page_numbers - first_behind done) page (λ g. is_some (s.right child g)) found

        is_next : IsNext page
        is_next g least less = none_of (s.right child g) (is_lowest.others g least less)

        undone : Contains done page → ⊥
        undone has = let less : page < first_behind done = at.below page has in let least : first_behind done ≤ page = is_lowest.from in omega arith

        passes : s.entry p page ≡ None → IsTurned s who place (Fork child) (page_turn s a p child done page None)
        passes empty =
            let t : CoreState = happens s (pass_page a p child done page) in
            let behind : t.job a ≡ forking p child (page ∷ done) between = put_same a (forking p child (page ∷ done) between) s.job in
            let stands : IsForking t a p child p child (page ∷ done) = goes_on page is_lowest.from is_next t refl refl refl (λ g more. refl) in
            record {
              done = record {
                kinds = (passing done page, tt);
                can = ((job, free, is_lowest.passes, undone, empty), tt);
                rest = at_rest t a keeps_no_frame h.rest.owed;
                told = refl;
              };
              shape = shape_from s t who child place (Event (events.ForkPage p child page) ∷ []) (from_page (first_behind done)) (from_page (page + 1)) between_pages (stands_at t a (forking p child (page ∷ done) between) None behind keeps_no_frame) (passed_page child (first_behind done) page begun is_lowest.from);
              next = (untaken, fits_fork t a p child (record place { far = place.far + 1; had = true }) (forking p child (page ∷ done) between) None behind keeps_no_frame ((omega arith, refl), stands));
              pin = tt;
            }

        -- after the count it is the fork of before, and keeps the page
        module _ (e : Entry) (there : s.entry p page ≡ Some e) (copies : Bool) where
          abbrev after : CoreState
          after = happens s (count_page a p child done page e copies)

          stands_still : IsForking after a p child p child done
          stands_still = record { parent = refl; into = refl; birth = at.birth; locked = at.locked; below = at.below; done_all = at.done_all; fresh = at.fresh }

          has_counted : HasCounted after a p child done page
          has_counted = record { above = is_lowest.from; lowest = is_next; locked = put_same p (Some a) s.table; entry = rw there refl; mapped = is_lowest.passes }

          -- in these steps it goes on, to share the page or to copy it
          counted_on : (step : ForkStep) (to : JobPlace) → copies ≡ copies_page s p e.frame → after.job a ≡ forking p child done step → job_place (forking p child done step) None ≡ to → StandsFork after a p child (forking p child done step) None → TurnOf (plain_of s) (references_of s) who place (Fork child) (from_page (first_behind done)) (Silent ∷ []) to → IsTurned s who place (Fork child) (record { events = count_page a p child done page e copies ∷ []; whats = Silent ∷ [] })
          counted_on step to right behind is_there stands shape =
              record {
                done = record {
                  kinds = (counting done page e copies, tt);
                  can = ((job, free, is_lowest.passes, undone, there, right), tt);
                  rest = at_rest after a keeps_no_frame h.rest.owed;
                  told = refl;
                };
                shape = shape_from s after who child place (Silent ∷ []) (from_page (first_behind done)) to between_pages (stands_at after a (forking p child done step) None behind keeps_no_frame ∙ is_there) shape;
                next = (untaken, fits_fork after a p child (record place { far = place.far + 1 }) (forking p child done step) None behind keeps_no_frame ((omega arith, begun.1), stands));
                pin = tt;
              }

        counts_by : (e : Entry) (copies : Bool) → s.entry p page ≡ Some e → copies ≡ copies_page s p e.frame → IsTurned s who place (Fork child) (record { events = count_page a p child done page e copies ∷ []; whats = Silent ∷ [] })
        counts_by e true there right =
            counted_on e there true (copying page 0) (wants_frame page) right (put_same a (forking p child done (copying page 0)) s.job) refl
            (stands_still e there true, has_counted e there true, refl) (counted_copy child (first_behind done) page begun is_lowest.from)
        counts_by e false there right =
            counted_on e there false (counted page) (at_page page) right (put_same a (forking p child done (counted page)) s.job) refl
            (stands_still e there false, has_counted e there false) (counted_page child (first_behind done) page begun is_lowest.from)

        counts : (e : Entry) → s.entry p page ≡ Some e → IsTurned s who place (Fork child) (page_turn s a p child done page (Some e))
        counts e there = counts_by e (copies_page s p e.frame) there refl

        page_by : (entry : Option Entry) → s.entry p page ≡ entry → IsTurned s who place (Fork child) (page_turn s a p child done page entry)
        page_by None is = passes is
        page_by (Some e) is = counts e is

      next_by : (found : Option ℕ) → next_page (s.right child) done ≡ found → (is_some found ≡ true → s.table p ≡ None) → IsTurned s who place (Fork child) (next_turn s a p child done found)
      next_by None is free = ends is
      next_by (Some page) is free = page_by page is (free refl) (s.entry p page) refl

    -- where it finds no frame or no table it fails
    gives_up_at : (step : ForkStep) (from : JobPlace) → s.job a ≡ forking p child done step → MayFail step → s.prepared a ≡ None → place_in s a ≡ from → TurnOf (plain_of s) (references_of s) who place (Fork child) from (Event (events.ForkFail child) ∷ Done answers.NoFrame ∷ []) unbegun → IsTurned s who place (Fork child) (failed_at s a p child done step)
    gives_up_at step from job may none stood shape =
        let es : List CoreEvent = fails a p child done step (s.entry child) in
        let t : CoreState = run s es in
        let fall = fork_fails s a p child done step h.sound at.birth job may none h.rest.owed in
        let left = pages_leave s a p child es fall.kinds in
        record {
          done = record { kinds = fall.kinds; can = fall.can; rest = at_rest t a fall.given.prepared fall.given.owed; told = fall.told };
          shape = shape_from s t who child place (Event (events.ForkFail child) ∷ Done answers.NoFrame ∷ []) from unbegun stood (stands_at t a idle None fall.given.job fall.given.prepared) shape;
          next = (fall.given.job, ap (λ (f : ℕ → List Taken). f a) left.taken ∙ untaken);
          pin = tt;
        }

    -- it has counted a page, which is shared where the child lacks no table for it
    shares : (page : ℕ) → s.job a ≡ forking p child done (counted page) → IsBegun place → HasCounted s a p child done page → has_tables s child page ≡ true → IsTurned s who place (Fork child) (share_turn s a p child done page (s.entry p page) true)
    shares page job begun kept has =
        let none : s.prepared a ≡ None = keeps s a (forking p child done (counted page)) h.rest job in
        let f : ℕ = frame_in (s.entry p page) in
        let writable : Bool = allows_store (s.entry p page) in
        let one : CoreState = happens s (share_entry a p child done page f writable) in
        let two : CoreState = happens one (share_mark a p child done page f false) in
        let t : CoreState = happens two (share_child a p child done page f false) in
        let lowers : s.entry p page ≡ Some (entry_of f writable) = entry_there (s.entry p page) kept.entry in
        let lies : one.entry p page ≡ Some (entry_of f false) = put2_same p page (Some (entry_of f false)) s.entry in
        let behind : t.job a ≡ forking p child (page ∷ done) between = put_same a (forking p child (page ∷ done) between) two.job in
        let stands : IsForking t a p child p child (page ∷ done) =
        goes_on page kept.above kept.lowest t refl refl refl (λ g more. grind (arith, nat_tests)) in
        record {
          done = record {
            kinds = (sharing_entry done page f writable, (sharing_mark done page f false, (sharing_child done page f false, tt)));
            can = (
              (job, lowers, no_mirror_at s p page h.calm),
              ((put_same a (forking p child done (lowered page)) s.job, lies), ((put_same a (forking p child done (cleared page)) one.job, lies, has), tt)),
            );
            rest = at_rest t a none h.rest.owed;
            told = refl;
          };
          shape = shape_from s t who child place (Event (events.ForkPage p child page) ∷ []) (at_page page) (from_page (page + 1)) (stands_at s a (forking p child done (counted page)) None job none) (stands_at t a (forking p child (page ∷ done) between) None behind none) (shared_page child page begun);
          next = (untaken, fits_fork t a p child (record place { far = place.far + 1; had = true }) (forking p child (page ∷ done) between) None behind none ((omega arith, refl), stands));
          pin = tt;
        }

    shares_by : (page : ℕ) (may : Bool) → has_tables s child page ≡ may → s.job a ≡ forking p child done (counted page) → IsBegun place → HasCounted s a p child done page → IsTurned s who place (Fork child) (share_turn s a p child done page (s.entry p page) may)
    shares_by page true has job begun kept = shares page job begun kept has
    shares_by page false lacks job begun kept =
        let none : s.prepared a ≡ None = keeps s a (forking p child done (counted page)) h.rest job in
        gives_up_at (counted page) (at_page page) job tt none (stands_at s a (forking p child done (counted page)) None job none) (failed_share child page begun)

    -- it copies a page that it has counted

    module _ (page : ℕ) (begun : IsBegun place) (kept : HasCounted s a p child done page) where
      -- in a state that has the same of both processes it is the fork of before
      still_forking : (t : CoreState) → t.birth ≡ s.birth → t.structure ≡ s.structure → t.right ≡ s.right → t.entry ≡ s.entry → IsForking t a p child p child done
      still_forking t births locks rights entries =
          record {
            parent = refl;
            into = refl;
            birth = ap (λ (f : ℕ → Birth). f child) births ∙ at.birth;
            locked = ap (λ (f : ℕ → Option ℕ). f p) locks ∙ at.locked;
            below = at.below;
            done_all = λ g less named. at.done_all g less (subst (λ (f : ℕ → ℕ → Option Rights). IsSome (f child g)) rights named);
            fresh = λ g least. ap (λ (f : ℕ → ℕ → Option Entry). f child g) entries ∙ at.fresh g least;
          }

      -- no frame is prepared, and no word copied
      module _ (job : s.job a ≡ forking p child done (copying page 0)) (none : s.prepared a ≡ None) where
        wants : place_in s a ≡ wants_frame page
        wants = stands_at s a (forking p child done (copying page 0)) None job none

        takes : (f : ℕ) → frame_for s child page Any ≡ Some f → IsTurned s who place (Fork child) (frame_turn s a p child done page 0 (Some f))
        takes f found =
            let t : CoreState = happens s (take_frame a f) in
            let free = frame_for_free s child page Any f found in
            let has : t.prepared a ≡ Some f = put_same a (Some f) s.prepared in
            let stands : IsForking t a p child p child done = still_forking t refl refl refl refl in
            let keeps_page : HasCounted t a p child done page =
            record { above = kept.above; lowest = kept.lowest; locked = kept.locked; entry = kept.entry; mapped = kept.mapped } in
            record {
              done = record {
                kinds = (taking f, tt);
                can = ((subst MayPrepare (sym job) tt, none, free.0, free.1), tt);
                rest = keeps_frame t a (forking p child done (copying page 0)) job tt h.rest.owed;
                told = refl;
              };
              shape = shape_from s t who child place (Silent ∷ []) (wants_frame page) (at_word page 0 f) wants (stands_at t a (forking p child done (copying page 0)) (Some f) job has) (took_frame child page f begun);
              next = (untaken, fits_fork t a p child (record place { far = place.far + 1 }) (forking p child done (copying page 0)) (Some f) job has ((omega arith, begun.1), (stands, keeps_page, omega arith)));
              pin = tt;
            }

        frame_by : (free : Option ℕ) → frame_for s child page Any ≡ free → IsTurned s who place (Fork child) (frame_turn s a p child done page 0 free)
        frame_by None is = gives_up_at (copying page 0) (wants_frame page) job tt none wants (failed_fork child page begun)
        frame_by (Some f) is = takes f is

      -- into the frame that is prepared so many words are copied
      module _ (word to : ℕ) (job : s.job a ≡ forking p child done (copying page word)) (has : s.prepared a ≡ Some to) where
        here_copying : place_in s a ≡ at_word page word to
        here_copying = stands_at s a (forking p child done (copying page word)) (Some to) job has

        copies_one : word < words → IsTurned s who place (Fork child) (copy_turn s a p child done page word to true)
        copies_one more =
            let e : Entry = entry_in (s.entry p page) in
            let t : CoreState = happens s (copy_word a p child done page word to e) in
            let behind : t.job a ≡ forking p child done (copying page (word + 1)) = put_same a (forking p child done (copying page (word + 1))) s.job in
            let stands : IsForking t a p child p child done = still_forking t refl refl refl refl in
            let keeps_page : HasCounted t a p child done page =
            record { above = kept.above; lowest = kept.lowest; locked = kept.locked; entry = kept.entry; mapped = kept.mapped } in
            record {
              done = record {
                kinds = (copying_word done page word to e, tt);
                can = ((job, more, has, entry_is (s.entry p page) kept.entry), tt);
                rest = keeps_frame t a (forking p child done (copying page (word + 1))) behind tt h.rest.owed;
                told = refl;
              };
              shape = shape_from s t who child place (Event (events.ForkWord p child page word) ∷ []) (at_word page word to) (at_word page (word + 1) to) here_copying (stands_at t a (forking p child done (copying page (word + 1))) (Some to) behind has) (copied_word child page word to begun more);
              next = (untaken, fits_fork t a p child (record place { far = place.far + 1; had = true }) (forking p child done (copying page (word + 1))) (Some to) behind has ((omega arith, refl), (stands, keeps_page, omega (arith, more))));
              pin = tt;
            }

        -- the copy goes into the child's entry
        places : word ≡ words → IsTurned s who place (Fork child) (copy_turn s a p child done page word to false)
        places all =
            let rights : Rights = rights_in (s.right child page) in
            let t : CoreState = happens s (place_child a p child done page to rights) in
            let none : t.prepared a ≡ None = put_same a None s.prepared in
            let whole : s.job a ≡ forking p child done (copying page words) = job ∙ ap (λ (n : ℕ). forking p child done (copying page n)) all in
            let behind : t.job a ≡ forking p child (page ∷ done) between = put_same a (forking p child (page ∷ done) between) s.job in
            let stands : IsForking t a p child p child (page ∷ done) = goes_on page kept.above kept.lowest t refl refl refl (λ g more. grind (arith, nat_tests)) in
            record {
              done = record {
                kinds = (placing done page to rights, tt);
                can = ((whole, has, rights_are (s.right child page) kept.mapped, h.copies p child page words to done whole has), tt);
                rest = at_rest t a none h.rest.owed;
                told = refl;
              };
              shape = shape_from s t who child place (Silent ∷ []) (at_word page words to) (from_page (page + 1)) (stands_at s a (forking p child done (copying page words)) (Some to) whole has) (stands_at t a (forking p child (page ∷ done) between) None behind none) (placed_copy child page to begun);
              next = (untaken, fits_fork t a p child (record place { far = place.far + 1 }) (forking p child (page ∷ done) between) None behind none ((omega arith, begun.1), stands));
              pin = tt;
            }

        word_by : (more : Bool) → nat_lt word words ≡ more → word ≤ words → IsTurned s who place (Fork child) (copy_turn s a p child done page word to more)
        word_by true test most = copies_one (grind (arith, nat_tests))
        word_by false test most = places (grind (arith, nat_tests))

      copies_by : (word : ℕ) (prepared : Option ℕ) → s.job a ≡ forking p child done (copying page word) → s.prepared a ≡ prepared → HasCopied word prepared → IsTurned s who place (Fork child) (copying_turn s a p child done page word prepared)
      copies_by word None job none first =
          subst (λ (n : ℕ). IsTurned s who place (Fork child) (copying_turn s a p child done page n None)) (sym first)
          (frame_by (job ∙ ap (λ (n : ℕ). forking p child done (copying page n)) first) none (frame_for s child page Any) refl)
      copies_by word (Some to) job has most = word_by word to job has (nat_lt word words) refl most

  -- by where the fork stands

  -- its process and its child are those of the operation
  own_fork : (q c : ℕ) (done : List ℕ) → IsForking s a p child q c done → IsForking s a p child p child done
  own_fork q c done at =
      record { parent = refl; into = refl; birth = at.birth; locked = at.locked; below = at.below; done_all = at.done_all; fresh = at.fresh }

  own_job : (q c : ℕ) (done : List ℕ) (step : ForkStep) → IsForking s a p child q c done → s.job a ≡ forking q c done step → s.job a ≡ forking p child done step
  own_job q c done step at job = job ∙ ap (λ (k : ℕ). forking k c done step) at.parent ∙ ap (λ (k : ℕ). forking p k done step) at.into

  -- where a page is left, the table lock is needed
  table_needed : (found : Option ℕ) → waits_for_lock (is_some found) a (s.table p) ≡ None → is_some found ≡ true → held_by_other a (s.table p) ≡ None
  table_needed None free some = absurd (cc some)
  table_needed (Some page) free some = free

  fork_by : (job : Job) → s.job a ≡ job → FitsFork s a p child place job (s.prepared a) → waits_for_locks (fork_locks (s.right child) job) a (s.structure p) (s.table p) ≡ None → IsTurned s who place (Fork child) (fork_turn s a p child job)
  fork_by idle is fits free = begins is fits.0 fits.1 (both_free s a p h.sound is free)
  fork_by (forking q c done between) is fits free =
      let at = own_fork q c done fits.1 in
      let job = own_job q c done between fits.1 is in
      next_by done at job fits.0 (next_page (s.right child) done) refl
      (λ some. table_free s a p h.sound (ap keeps_table job) (table_needed (next_page (s.right child) done) free some))
  fork_by (forking q c done (counted page)) is fits free =
      shares_by done (own_fork q c done fits.1.0) page (has_tables s child page) refl (own_job q c done (counted page) fits.1.0 is) fits.0 fits.1.1
  fork_by (forking q c done (copying page n)) is fits free =
      copies_by done (own_fork q c done fits.1.0) page fits.0 fits.1.1 n (s.prepared a) (own_job q c done (copying page n) fits.1.0 is) refl fits.1.2
  fork_by (forking q c done step) is fits free = absurd fits.1
  fork_by job is fits free = absurd fits

  -- the child after a turn: it has failed and has no entries, or it is none that failed

  unfailed : (t : CoreState) (birth : Birth) → t.birth child ≡ birth → (birth ≡ failed → ⊥) → IsEmptied t child
  unfailed t birth is lives lost = absurd (lives (sym is ∙ lost))

  grows : (t : CoreState) → t.birth child ≡ growing p → IsEmptied t child
  grows t is = unfailed t (growing p) is (λ same. cc same)

  emptied_page : (done : List ℕ) (page : ℕ) (entry : Option Entry) → s.birth child ≡ growing p → IsEmptied (run s (page_turn s a p child done page entry).events) child
  emptied_page done page None birth = grows (run s (page_turn s a p child done page None).events) birth
  emptied_page done page (Some e) birth = grows (run s (page_turn s a p child done page (Some e)).events) birth

  emptied_next : (done : List ℕ) (found : Option ℕ) → s.birth child ≡ growing p → IsEmptied (run s (next_turn s a p child done found).events) child
  emptied_next done None birth =
      unfailed (run s (next_turn s a p child done None).events) born (put_same child born s.birth) (λ same. cc same)
  emptied_next done (Some page) birth = emptied_page done page (s.entry p page) birth

  emptied_fall : (done : List ℕ) (step : ForkStep) → s.birth child ≡ growing p → s.job a ≡ forking p child done step → MayFail step → s.prepared a ≡ None → IsEmptied (run s (failed_at s a p child done step).events) child
  emptied_fall done step birth job may none =
      λ lost. (fork_fails s a p child done step h.sound birth job may none h.rest.owed).given.emptied

  emptied_share : (done : List ℕ) (page : ℕ) (entry : Option Entry) (may : Bool) → s.birth child ≡ growing p → s.job a ≡ forking p child done (counted page) → IsEmptied (run s (share_turn s a p child done page entry may).events) child
  emptied_share done page entry true birth job = grows (run s (share_turn s a p child done page entry true).events) birth
  emptied_share done page entry false birth job =
      emptied_fall done (counted page) birth job tt (keeps s a (forking p child done (counted page)) h.rest job)

  emptied_frame : (done : List ℕ) (page word : ℕ) (free : Option ℕ) → s.birth child ≡ growing p → s.job a ≡ forking p child done (copying page word) → s.prepared a ≡ None → IsEmptied (run s (frame_turn s a p child done page word free).events) child
  emptied_frame done page word None birth job none = emptied_fall done (copying page word) birth job tt none
  emptied_frame done page word (Some f) birth job none =
      grows (run s (frame_turn s a p child done page word (Some f)).events) birth

  emptied_word : (done : List ℕ) (page word to : ℕ) (more : Bool) → s.birth child ≡ growing p → IsEmptied (run s (copy_turn s a p child done page word to more).events) child
  emptied_word done page word to true birth = grows (run s (copy_turn s a p child done page word to true).events) birth
  emptied_word done page word to false birth = grows (run s (copy_turn s a p child done page word to false).events) birth

  emptied_copy : (done : List ℕ) (page word : ℕ) (prepared : Option ℕ) → s.birth child ≡ growing p → s.job a ≡ forking p child done (copying page word) → s.prepared a ≡ prepared → IsEmptied (run s (copying_turn s a p child done page word prepared).events) child
  emptied_copy done page word None birth job none = emptied_frame done page word (frame_for s child page Any) birth job none
  emptied_copy done page word (Some to) birth job has = emptied_word done page word to (nat_lt word words) birth

  emptied_by : (job : Job) → s.job a ≡ job → FitsFork s a p child place job (s.prepared a) → IsEmptied (run s (fork_turn s a p child job).events) child
  emptied_by idle is fits = grows (run s (fork_turn s a p child idle).events) (put_same child (growing p) s.birth)
  emptied_by (forking q c done between) is fits = emptied_next done (next_page (s.right child) done) fits.1.birth
  emptied_by (forking q c done (counted page)) is fits =
      emptied_share done page (s.entry p page) (has_tables s child page) fits.1.0.birth (own_job q c done (counted page) fits.1.0 is)
  emptied_by (forking q c done (copying page n)) is fits =
      emptied_copy done page n (s.prepared a) fits.1.0.birth (own_job q c done (copying page n) fits.1.0 is) refl
  emptied_by (forking q c done step) is fits = absurd fits.1
  emptied_by job is fits = absurd fits

  -- after a turn the child of a fork that copies a page lacks no table for it

  copied_page : (done : List ℕ) (page : ℕ) (entry : Option Entry) → s.prepared a ≡ None → CopyStands (run s (page_turn s a p child done page entry).events) a
  copied_page done page None none =
      no_copy (run s (page_turn s a p child done page None).events) a (forking p child (page ∷ done) between) (put_same a (forking p child (page ∷ done) between) s.job) (λ copies. copies)
  copied_page done page (Some e) none = no_frame (run s (page_turn s a p child done page (Some e)).events) a none

  copied_next : (done : List ℕ) (found : Option ℕ) → s.prepared a ≡ None → CopyStands (run s (next_turn s a p child done found).events) a
  copied_next done None none = no_copy (run s (next_turn s a p child done None).events) a idle (put_same a idle s.job) (λ copies. copies)
  copied_next done (Some page) none = copied_page done page (s.entry p page) none

  copied_fall : (done : List ℕ) (step : ForkStep) → s.birth child ≡ growing p → s.job a ≡ forking p child done step → MayFail step → s.prepared a ≡ None → CopyStands (run s (failed_at s a p child done step).events) a
  copied_fall done step birth job may none =
      let fall = fork_fails s a p child done step h.sound birth job may none h.rest.owed in
      no_frame (run s (failed_at s a p child done step).events) a fall.given.prepared

  copied_share : (done : List ℕ) (page : ℕ) (entry : Option Entry) (may : Bool) → s.birth child ≡ growing p → s.job a ≡ forking p child done (counted page) → CopyStands (run s (share_turn s a p child done page entry may).events) a
  copied_share done page entry true birth job =
      no_frame (run s (share_turn s a p child done page entry true).events) a (keeps s a (forking p child done (counted page)) h.rest job)
  copied_share done page entry false birth job =
      copied_fall done (counted page) birth job tt (keeps s a (forking p child done (counted page)) h.rest job)

  copied_frame : (done : List ℕ) (page word : ℕ) (free : Option ℕ) → frame_for s child page Any ≡ free → s.birth child ≡ growing p → s.job a ≡ forking p child done (copying page word) → s.prepared a ≡ None → CopyStands (run s (frame_turn s a p child done page word free).events) a
  copied_frame done page word None found birth job none = copied_fall done (copying page word) birth job tt none
  copied_frame done page word (Some f) found birth job none =
      copies_on (run s (frame_turn s a p child done page word (Some f)).events) a p child page word done job (frame_for_free s child page Any f found).2

  copied_words : (done : List ℕ) (page word to : ℕ) (more : Bool) → s.job a ≡ forking p child done (copying page word) → s.prepared a ≡ Some to → CopyStands (run s (copy_turn s a p child done page word to more).events) a
  copied_words done page word to true job has =
      copies_on (run s (copy_turn s a p child done page word to true).events) a p child page (word + 1) done (put_same a (forking p child done (copying page (word + 1))) s.job) (h.copies p child page word to done job has)
  copied_words done page word to false job has = no_frame (run s (copy_turn s a p child done page word to false).events) a (put_same a None s.prepared)

  copied_copy : (done : List ℕ) (page word : ℕ) (prepared : Option ℕ) → s.birth child ≡ growing p → s.job a ≡ forking p child done (copying page word) → s.prepared a ≡ prepared → CopyStands (run s (copying_turn s a p child done page word prepared).events) a
  copied_copy done page word None birth job none = copied_frame done page word (frame_for s child page Any) refl birth job none
  copied_copy done page word (Some to) birth job has = copied_words done page word to (nat_lt word words) job has

  copied_by : (job : Job) → s.job a ≡ job → FitsFork s a p child place job (s.prepared a) → CopyStands (run s (fork_turn s a p child job).events) a
  copied_by idle is fits =
      no_copy (run s (fork_turn s a p child idle).events) a (forking p child [] between) (put_same a (forking p child [] between) s.job) (λ copies. copies)
  copied_by (forking q c done between) is fits =
      copied_next done (next_page (s.right child) done) (keeps s a (forking q c done between) h.rest is)
  copied_by (forking q c done (counted page)) is fits =
      copied_share done page (s.entry p page) (has_tables s child page) fits.1.0.birth (own_job q c done (counted page) fits.1.0 is)
  copied_by (forking q c done (copying page n)) is fits =
      copied_copy done page n (s.prepared a) fits.1.0.birth (own_job q c done (copying page n) fits.1.0 is) refl
  copied_by (forking q c done step) is fits = absurd fits.1
  copied_by job is fits = absurd fits

pub fork_turned : (s : CoreState) (who : Doer) (child : ℕ) (place : Place) → IsOpen s who.actor who.proc → FitsOp s who (Fork child) place → waits_for_locks (locks_needed s who.actor who.proc place.far (Fork child)) who.actor (s.structure who.proc) (s.table who.proc) ≡ None → IsTurned s who place (Fork child) (op_turn s who.actor who.proc who.slots place.far (Fork child))
fork_turned s who child place h fits free =
    fork_by s who child place h fits.0 (s.job who.actor) refl fits.1 free

pub fork_emptied : (s : CoreState) (who : Doer) (child : ℕ) (place : Place) → IsOpen s who.actor who.proc → FitsOp s who (Fork child) place → IsEmptied (run s (op_turn s who.actor who.proc who.slots place.far (Fork child)).events) child
fork_emptied s who child place h fits = emptied_by s who child place h fits.0 (s.job who.actor) refl fits.1

pub fork_copied : (s : CoreState) (who : Doer) (child : ℕ) (place : Place) → IsOpen s who.actor who.proc → FitsOp s who (Fork child) place → CopyStands (run s (op_turn s who.actor who.proc who.slots place.far (Fork child)).events) who.actor
fork_copied s who child place h fits = copied_by s who child place h fits.0 (s.job who.actor) refl fits.1
