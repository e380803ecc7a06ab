-- What a turn of a move makes of frames and of its process is the turn table's.
use Rattle.std.proofs.Common.{◌≡◌, ℕ, List, [], ◌∷◌, Option, Some, None, IsSome, refl, sym, ap, subst, ◌∙◌, arith}
use Rattle.std.proofs.lemmas.Bool.Decides.{nat_tests}
use Rattle.gup_base.specs.declared.entry.Allowed.{Allowed}
use Rattle.gup_base.specs.declared.entry.Allowed.TheVariants.{Only}
use Rattle.gup_base.specs.declared.entry.Entry.{Entry}
use Rattle.gup_base.specs.declared.entry.Rights.{Rights}
use Rattle.gup_base.specs.declared.entry.Zone.{Zone}
use Rattle.gup_plain.specs.Put.{put}
use Rattle.gup_plain.specs.declared.answer.Answer.TheVariants as answers
use Rattle.gup_plain.specs.declared.note.What.{What}
use Rattle.gup_plain.specs.declared.note.What.TheVariants.{Silent, Done}
use Rattle.gup_frames.specs.Frames.{FramesValue, free_frame}
use Rattle.gup_space.specs.Space.{SpaceValue}
use Rattle.gup_space.specs.Shows.{Change, ShowsSpace}
use Rattle.gup_spec_events.specs.State.{CoreState, Job, idle, moving, Counted, unread, one, more}
use Rattle.gup_spec_events.specs.Event.{CoreEvent, counted_as, clear_entry, count_moved, restore_entry, run}
use Rattle.gup_spec_turns.specs.CoreTurn.{CoreTurn}
use Rattle.gup_spec_turns.specs.JobPlace.{JobPlace, job_place, place_in, StandsMove, unbegun, moving_page}
use Rattle.gup_spec_turns.specs.MoveTurns.{count_turn, place_turn, counted_turn, move_turn}
use Rattle.gup_spec_turns.proofs.TurnParts.{clear_turn_by}
use Rattle.gup_move.specs.Moves.{with_table, AreMoveEvents, places}
use Rattle.gup_op_base.specs.Turns.{IsTurnOf}
use Rattle.gup_op_base.proofs.Leading.{ch, leads_alike}
use Rattle.gup_op_base.proofs.Searching.{free_agrees}
use Rattle.gup_op_base.specs.Jobs.{place_of}
use Rattle.gup_op_base.specs.declared.jobs.JobPlace.{JobPlace as KeptPlace}
use Rattle.gup_op_base.specs.declared.jobs.JobPlace.TheVariants.{Unbegun, Cleared, Single, Shared}
use Rattle.gup_op_move.specs.Moving.{IsReadyToMove, ShowsMoving, StandsAsMove}

-- where the actor stands, by its job

idle_job : (s : CoreState) (a p page : ℕ) (zone : Zone) (job : Job) (prepared : Option ℕ) → StandsMove s a p page zone job → job_place job prepared ≡ unbegun → job ≡ idle
idle_job s a p page zone idle prepared stands place = refl
idle_job s a p page zone (moving q g e allowed count) prepared stands place = absurd (cc place)
idle_job s a p page zone job prepared stands place = absurd stands

moving_job : (s : CoreState) (a p page g : ℕ) (zone : Zone) (e : Entry) (count : Counted) (job : Job) (prepared : Option ℕ) → StandsMove s a p page zone job → job_place job prepared ≡ moving_page g e count → job ≡ moving p page e (Only zone) count
moving_job s a p page g zone e count idle prepared stands place = absurd (cc place)
moving_job s a p page g zone e count (moving q h d allowed n) prepared stands place =
    let entries : d ≡ e = cc place in
    let counts : n ≡ count = cc place in
    ap (λ (k : ℕ). moving k h d allowed n) stands.0 ∙ ap (λ (k : ℕ). moving p k d allowed n) stands.1
    ∙ ap (λ (zones : Allowed). moving p page d zones n) stands.2 ∙ ap (λ (x : Entry). moving p page x (Only zone) n) entries
    ∙ ap (λ (k : Counted). moving p page e (Only zone) k) counts
moving_job s a p page g zone e count job prepared stands place = absurd stands

put_own : {X : Type 0} (k : ℕ) (x : X) (f : ℕ → X) → put k x f k ≡ x
put_own k x f = grind (arith, nat_tests)

-- from a view to a view
abbrev pub IsMoving : (k : Change) (a page : ℕ) (zone : Zone) (before after : JobPlace) → List What → Type 0
IsMoving k a page zone before after whats =
    (p : ℕ) → IsTurnOf (ShowsMoving a p) (StandsAsMove a p page zone)
    (record { frames = k.old_frames; space = k.old_space; place = before })
    (record { frames = k.new_frames; space = k.new_space; place = after }) (λ s. move_turn s a p page zone (s.job a)) whats

module _ (F : FramesValue) (S : SpaceValue) (a page : ℕ) (zone : Zone) where
  -- the first turn, by what it finds
  first_as : (right : Option Rights) (entry : Option Entry) → S.right page ≡ right → S.entry page ≡ entry → (s : CoreState) (p : ℕ) → ShowsMoving a p (record { frames = F; space = S; place = unbegun }) s → StandsAsMove a p page zone s → move_turn s a p page zone (s.job a) ≡ clear_turn_by right a p page zone entry
  first_as right entry right_is entry_is s p shown stands =
      let job = idle_job s a p page zone (s.job a) (s.prepared a) stands.at shown.place in
      ap (move_turn s a p page zone) job
      ∙ ap (λ (x : Option Rights). clear_turn_by x a p page zone (s.entry p page)) (shown.space.right page ∙ right_is)
      ∙ ap (λ (x : Option Entry). clear_turn_by right a p page zone x) (shown.space.entry page ∙ entry_is)

  pub missing_moved : S.right page ≡ None → IsMoving (ch F F S S) a page zone unbegun unbegun (Done answers.Missing ∷ [])
  missing_moved none p s shown stands =
      leads_alike (first_as None (S.entry page) none refl s p shown stands) (record { says = refl; shown = shown })

  some_rights : (right : Option Rights) → IsSome right → (rights : Rights) × (right ≡ Some rights)
  some_rights None some = absurd (cc some)
  some_rights (Some rights) some = (rights, refl)

  pub untouched_moved : IsSome (S.right page) → S.entry page ≡ None → IsMoving (ch F F S S) a page zone unbegun unbegun (Done answers.Untouched ∷ [])
  untouched_moved some none p s shown stands =
      let right = some_rights (S.right page) some in
      leads_alike (first_as (Some right.0) None right.1 none s p shown stands) (record { says = refl; shown = shown })

  pub clear_moved : (e : Entry) (S1 S2 : SpaceValue) → IsSome (S.right page) → S.entry page ≡ Some e → AreMoveEvents (with_table (Some a) (ch F F S S1)) (λ p. clear_entry a p page e (Only zone) ∷ []) → S2 ≡ record S1 { table = Some a } → IsMoving (ch F F S S2) a page zone unbegun (moving_page page e unread) (Silent ∷ [])
  clear_moved e S1 S2 some there events same p s shown stands =
      let right = some_rights (S.right page) some in
      let led = events s p shown.frames shown.space in
      let job : Job = moving p page e (Only zone) unread in
      leads_alike (first_as (Some right.0) (Some e) right.1 there s p shown stands)
      (record {
        says = refl;
        shown = record {
          frames = led.0;
          space = subst (λ (x : SpaceValue). ShowsSpace p x (run s (clear_entry a p page e (Only zone) ∷ []))) (sym same) led.1;
          place = ap (λ (j : Job). job_place j (s.prepared a)) (put_own a job s.job);
        };
      })

  -- the turns after it
  later_as : (g : ℕ) (e : Entry) (count : Counted) (s : CoreState) (p : ℕ) → ShowsMoving a p (record { frames = F; space = S; place = moving_page g e count }) s → StandsAsMove a p page zone s → move_turn s a p page zone (s.job a) ≡ counted_turn s a p page e (Only zone) count
  later_as g e count s p shown stands =
      ap (move_turn s a p page zone) (moving_job s a p page g zone e count (s.job a) (s.prepared a) stands.at shown.place)

  pub count_moved_to : (e : Entry) (n : ℕ) → F.count e.frame ≡ n → AreMoveEvents (ch F F S S) (λ p. count_moved a p page e (Only zone) n ∷ []) → IsMoving (ch F F S S) a page zone (moving_page page e unread) (moving_page page e (counted_as n)) (Silent ∷ [])
  count_moved_to e n is events p s shown stands =
      let led = events s p shown.frames shown.space in
      let job : Job = moving p page e (Only zone) (counted_as n) in
      leads_alike
      (later_as page e unread s p shown stands ∙ ap (count_turn a p page e (Only zone)) (shown.frames.count e.frame ∙ is))
      (record {
        says = refl;
        shown = record { frames = led.0; space = led.1; place = ap (λ (j : Job). job_place j (s.prepared a)) (put_own a job s.job) };
      })

  pub restore_moved : (e : Entry) (n : ℕ) (S1 S2 : SpaceValue) → AreMoveEvents (with_table None (ch F F S S1)) (λ p. restore_entry a p page e (Only zone) (more n) ∷ []) → S2 ≡ record S1 { table = None } → IsMoving (ch F F S S2) a page zone (moving_page page e (more n)) unbegun (Done (answers.Busy n) ∷ [])
  restore_moved e n S1 S2 events same p s shown stands =
      let led = events s p shown.frames shown.space in
      leads_alike (later_as page e (more n) s p shown stands)
      (record {
        says = refl;
        shown = record {
          frames = led.0;
          space = subst (λ (x : SpaceValue). ShowsSpace p x (run s (restore_entry a p page e (Only zone) (more n) ∷ []))) (sym same) led.1;
          place = ap (λ (j : Job). job_place j (s.prepared a)) (put_own a idle s.job);
        };
      })

  -- the events of the third turn, and where it leads
  place_events : (p : ℕ) (e : Entry) (free : Option ℕ) → (place_turn a p page e (Only zone) free).events ≡ places a p page e (Only zone) free
  place_events p e None = refl
  place_events p e (Some f) = refl

  place_rests : (s : CoreState) (p : ℕ) (e : Entry) (free : Option ℕ) → place_in (run s (places a p page e (Only zone) free)) a ≡ unbegun
  place_rests s p e None = ap (λ (j : Job). job_place j (s.prepared a)) (put_own a idle s.job)
  place_rests s p e (Some f) = ap (λ (j : Job). job_place j ((run s (places a p page e (Only zone) (Some f))).prepared a)) (put_own a idle s.job)

  pub place_moved : (e : Entry) (F1 : FramesValue) (S1 S2 : SpaceValue) (free : Option ℕ) → free_frame F (Only zone) ≡ free → AreMoveEvents (with_table None (ch F F1 S S1)) (λ p. places a p page e (Only zone) free) → S2 ≡ record S1 { table = None } → (whats : List What) → ((p : ℕ) → (place_turn a p page e (Only zone) free).whats ≡ whats) → IsMoving (ch F F1 S S2) a page zone (moving_page page e one) unbegun whats
  place_moved e F1 S1 S2 free is events same whats says p s shown stands =
      let led = events s p shown.frames shown.space in
      let turn : CoreTurn = place_turn a p page e (Only zone) free in
      leads_alike
      (later_as page e one s p shown stands ∙ ap (place_turn a p page e (Only zone)) (free_agrees F (Only zone) s shown.frames ∙ is))
      (record {
        says = says p;
        shown = subst (λ (es : List CoreEvent). ShowsMoving a p (record { frames = F1; space = S2; place = unbegun }) (run s es)) (sym (place_events p e free))
            (record {
              frames = led.0;
              space = subst (λ (x : SpaceValue). ShowsSpace p x (run s (places a p page e (Only zone) free))) (sym same) led.1;
              place = place_rests s p e free;
            });
      })

-- the place of a move, as the machine keeps it

pub shared_place : (F : FramesValue) (S : SpaceValue) (page g n : ℕ) (e : Entry) (place : KeptPlace) → place ≡ Shared e g n → IsReadyToMove F page (place_of place) S → place_of place ≡ moving_page page e (more n)
shared_place F S page g n e place is ready =
    let here : IsReadyToMove F page (moving_page g e (more n)) S = subst (λ (k : KeptPlace). IsReadyToMove F page (place_of k) S) is ready in
    ap place_of is ∙ ap (λ (k : ℕ). moving_page k e (more n)) here.0

pub first_place : (F : FramesValue) (S : SpaceValue) (page : ℕ) (place : KeptPlace) → ((e : Entry) (g : ℕ) → place ≡ Cleared e g → ⊥) → ((e : Entry) (g : ℕ) → place ≡ Single e g → ⊥) → ((e : Entry) (g n : ℕ) → place ≡ Shared e g n → ⊥) → IsReadyToMove F page (place_of place) S → place_of place ≡ unbegun
first_place F S page Unbegun cleared single shared ready = refl
first_place F S page (Cleared e g) cleared single shared ready = absurd (cleared e g refl)
first_place F S page (Single e g) cleared single shared ready = absurd (single e g refl)
first_place F S page (Shared e g n) cleared single shared ready = absurd (shared e g n refl)
first_place F S page place cleared single shared ready = absurd ready
