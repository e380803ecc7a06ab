-- A walk reads down a page's path: its events can happen, and lead to the end of the path and the entry there, or stop.
use Rattle.std.proofs.Common.{◌≡◌, ℕ, ◌+◌, ◌==◌, ◌&&◌, inr, Bool, true, false, if◌then◌else◌, List, [], ◌∷◌, length, Option, Some, None, zero, suc, refl, ap, sym, ◌∙◌, arith}
use Rattle.std.proofs.lemmas.Bool.Decides.{nat_tests}
use Rattle.gup_plain.specs.Put.{put}
use Rattle.gup_spec_tables.specs.Tables.{TreeValue, table_at, on_path}
use Rattle.gup_spec_tables.specs.Paths.{link_at, entry_at, is_there, and_table, path_to, KeepsPath}
use Rattle.gup_spec_events.specs.State.{CoreState, Job, WalkStep, walking, ready, reading, stopped}
use Rattle.gup_spec_events.specs.Event.{run, tree_in, step_at, step_led, step_read, IsUntaken}
use Rattle.gup_spec_events.specs.Invariant.{AllCan}
use Rattle.gup_spec_events.specs.Descent.{led_on, reads_on, reads_down, step_down}
use Rattle.gup_tables.proofs.Places.{at_some, put_same}
use Rattle.gup_law_tables.proofs.DownPaths.{stands_there}

put_again : {X : Type 0} (a : ℕ) (x y : X) (f : ℕ → X) → put a x (put a y f) ≡ put a x f
put_again a x y f = λ i b. at b i
  where
    at : (b : ℕ) → put a x (put a y f) b ≡ put a x f b
    at b = grind (arith, nat_tests)

-- ---- whatever path it has come down

module _ (s : CoreState) (a p sequence page : ℕ) (write long : Bool) where
  abbrev v : TreeValue
  v = tree_in s p

  abbrev walk_at : WalkStep → Job
  walk_at step = walking p write long sequence step

  -- where it comes that reads n words more
  abbrev led_to : (ℕ → WalkStep) → Option ℕ → WalkStep
  led_to ends None = stopped
  led_to ends (Some table) = ends table

  abbrev end_on : (n : ℕ) (path : List ℕ) → WalkStep
  end_on zero path = step_read s write long page path (entry_at v path page)
  end_on (suc n) path = led_to (λ table. end_on n (table ∷ path)) (link_at v path page)

  can_on : IsUntaken (s.taken a) page → (n : ℕ) (path : List ℕ) (job : ℕ → Job) → job a ≡ walk_at (step_at page path) → length path + n ≡ 3 → AllCan (record s { job = job }) (reads_on v a p write long sequence page n path)
  can_on fresh zero path job is len = ((is, omega (arith, len), refl, fresh), tt)
  can_on fresh (suc n) path job is len = (
    (is, omega (arith, len), refl, fresh),
    go (link_at v path page)
        (λ table. can_on fresh n (table ∷ path) (put a (walk_at (reading page (table ∷ path))) job) (put_same a (walk_at (reading page (table ∷ path))) job) (omega (arith, len))),
  )
    where
      go : (o : Option ℕ) → ((table : ℕ) → AllCan (record s { job = put a (walk_at (reading page (table ∷ path))) job }) (reads_on v a p write long sequence page n (table ∷ path))) → AllCan (record s { job = put a (walk_at (step_led page path o)) job }) (led_on (λ table. reads_on v a p write long sequence page n (table ∷ path)) o)
      go None goes = tt
      go (Some table) goes = goes table

  leads_on : (n : ℕ) (path : List ℕ) (job : ℕ → Job) → run (record s { job = job }) (reads_on v a p write long sequence page n path) ≡ record s { job = put a (walk_at (end_on n path)) job }
  leads_on zero path job = refl
  leads_on (suc n) path job =
      go (link_at v path page)
      (λ table.
      leads_on n (table ∷ path) (put a (walk_at (reading page (table ∷ path))) job)
      ∙ ap (λ (job : ℕ → Job). record s { job = job }) (put_again a (walk_at (end_on n (table ∷ path))) (walk_at (reading page (table ∷ path))) job))
    where
      go : (o : Option ℕ) → ((table : ℕ) → run (record s { job = put a (walk_at (reading page (table ∷ path))) job }) (reads_on v a p write long sequence page n (table ∷ path)) ≡ record s { job = put a (walk_at (end_on n (table ∷ path))) job })
          → run (record s { job = put a (walk_at (step_led page path o)) job }) (led_on (λ table. reads_on v a p write long sequence page n (table ∷ path)) o) ≡ record s { job = put a (walk_at (led_to (λ table. end_on n (table ∷ path)) o)) job }
      go None goes = refl
      go (Some table) goes = goes table

  -- ---- the end of the path

  none_there : (there : Bool) → (if there && false then v.entry page else None) ≡ None
  none_there true = refl
  none_there false = refl

  -- at the end of a path that isn't whole the walk stops
  stops : (path : List ℕ) → (length path == 3) ≡ false → stopped ≡ step_read s write long page path (entry_at v path page)
  stops path short =
      sym (ap (step_read s write long page path) (ap (λ (b : Bool). if is_there v path page && b then v.entry page else None) short ∙ none_there (is_there v path page)))

  link_below : (third : ℕ) → table_at v.place (on_path 3 page) ≡ Some third → link_at v (third ∷ []) page ≡ table_at v.place (on_path 2 page)
  link_below third at =
      ap (λ (b : Bool). if b && true then table_at v.place (on_path 2 page) else None) (stands_there v page 3 third at)

  link_last : (second third : ℕ) → table_at v.place (on_path 2 page) ≡ Some second → link_at v (second ∷ third ∷ []) page ≡ table_at v.place (on_path 1 page)
  link_last second third at =
      ap (λ (b : Bool). if b && true then table_at v.place (on_path 1 page) else None) (stands_there v page 2 second at)

  down : (o1 o2 o3 : Option ℕ) → table_at v.place (on_path 1 page) ≡ o1 → table_at v.place (on_path 2 page) ≡ o2 → table_at v.place (on_path 3 page) ≡ o3
      → end_on 3 [] ≡ step_read s write long page (and_table o1 (and_table o2 (and_table o3 []))) (entry_at v (and_table o1 (and_table o2 (and_table o3 []))) page)
  down o1 o2 None at1 at2 at3 = ap (led_to (λ table. end_on 2 (table ∷ []))) at3 ∙ stops (and_table o1 (and_table o2 [])) (short o1 o2)
    where
      short : (o1 o2 : Option ℕ) → (length (and_table o1 (and_table o2 [])) == 3) ≡ false
      short None None = refl
      short None (Some second) = refl
      short (Some last) None = refl
      short (Some last) (Some second) = refl
  down o1 None (Some third) at1 at2 at3 =
      ap (led_to (λ table. end_on 2 (table ∷ []))) at3 ∙ ap (led_to (λ table. end_on 1 (table ∷ third ∷ []))) (link_below third at3 ∙ at2) ∙ stops (and_table o1 (third ∷ [])) (short o1)
    where
      short : (o1 : Option ℕ) → (length (and_table o1 (third ∷ [])) == 3) ≡ false
      short None = refl
      short (Some last) = refl
  down None (Some second) (Some third) at1 at2 at3 =
      ap (led_to (λ table. end_on 2 (table ∷ []))) at3 ∙ ap (led_to (λ table. end_on 1 (table ∷ third ∷ []))) (link_below third at3 ∙ at2)
      ∙ ap (led_to (λ table. end_on 0 (table ∷ second ∷ third ∷ []))) (link_last second third at2 ∙ at1) ∙ stops (second ∷ third ∷ []) refl
  down (Some last) (Some second) (Some third) at1 at2 at3 =
      ap (led_to (λ table. end_on 2 (table ∷ []))) at3 ∙ ap (led_to (λ table. end_on 1 (table ∷ third ∷ []))) (link_below third at3 ∙ at2)
      ∙ ap (led_to (λ table. end_on 0 (table ∷ second ∷ third ∷ []))) (link_last second third at2 ∙ at1)

  -- ---- what a walk reads

  pub can_down : s.job a ≡ walk_at ready → IsUntaken (s.taken a) page → AllCan s (reads_down s a p write long sequence page)
  can_down is fresh = can_on fresh 3 [] s.job is refl

  pub leads_down : run s (reads_down s a p write long sequence page) ≡ record s { job = put a (walk_at (step_down s p write long page)) s.job }
  leads_down =
      leads_on 3 [] s.job
      ∙ ap (λ (step : WalkStep). record s { job = put a (walk_at step) s.job })
      (down (table_at v.place (on_path 1 page)) (table_at v.place (on_path 2 page)) (table_at v.place (on_path 3 page)) refl refl refl)

-- ---- the tables of a path that was read stand there

pub path_is_kept : (v : TreeValue) (page last second third : ℕ) → path_to v page ≡ last ∷ second ∷ third ∷ [] → KeepsPath v (last ∷ second ∷ third ∷ []) page
path_is_kept v page last second third is =
    go (table_at v.place (on_path 1 page)) (table_at v.place (on_path 2 page)) (table_at v.place (on_path 3 page)) refl refl refl is
  where
    go : (o1 o2 o3 : Option ℕ) → table_at v.place (on_path 1 page) ≡ o1 → table_at v.place (on_path 2 page) ≡ o2 → table_at v.place (on_path 3 page) ≡ o3
        → and_table o1 (and_table o2 (and_table o3 [])) ≡ last ∷ second ∷ third ∷ [] → KeepsPath v (last ∷ second ∷ third ∷ []) page
    go (Some x) (Some y) (Some z) at1 at2 at3 same =
        let first : x ≡ last = cc in
        let middle : y ≡ second = cc in
        let end : z ≡ third = cc in (
          inr ((at_some v.place (on_path 1 page) last (at1 ∙ ap (λ (t : ℕ). Some t) first)).1),
          (
            inr ((at_some v.place (on_path 2 page) second (at2 ∙ ap (λ (t : ℕ). Some t) middle)).1),
            (inr ((at_some v.place (on_path 3 page) third (at3 ∙ ap (λ (t : ℕ). Some t) end)).1), tt),
          ),
        )
    go None None None at1 at2 at3 same = absurd (cc)
    go None None (Some z) at1 at2 at3 same = absurd (cc)
    go None (Some y) None at1 at2 at3 same = absurd (cc)
    go None (Some y) (Some z) at1 at2 at3 same = absurd (cc)
    go (Some x) None None at1 at2 at3 same = absurd (cc)
    go (Some x) None (Some z) at1 at2 at3 same = absurd (cc)
    go (Some x) (Some y) None at1 at2 at3 same = absurd (cc)
