-- A walk's tables are kept: they stand where they stood, or were taken out and wait.
use Rattle.std.proofs.Common.{◌≡◌, ◌≢◌, ℕ, ◌+◌, ◌-◌, ◌==◌, ◌||◌, ◌⊎◌, inl, inr, Bool, true, false, if◌then◌else◌, is_some, List, [], ◌∷◌, ◌++◌, length, nat_lt, ◌&&◌, Option, Some, None, refl, ap, sym, subst, ◌∙◌, ⊎_elim, arith}
use Rattle.std.specs.Prelude.{Contains}
use Rattle.std.proofs.lemmas.Bool.{cases_eq}
use Rattle.std.proofs.lemmas.Bool.Decides.{nat_tests}
use Rattle.gup_base.specs.declared.entry.Entry.{Entry}
use Rattle.gup_plain.specs.Put.{put, put2}
use Rattle.gup_spec_tables.specs.declared.place.Place.{Place}
use Rattle.gup_spec_tables.specs.Tables.{TreeValue, on_path, table_at, lacks, detachable, is_among}
use Rattle.gup_spec_tables.specs.Paths.{link_at, is_there, KeepsPath}
use Rattle.gup_spec_events.specs.State.{CoreState, Job, Taken, WalkStep, idle, marking, moving, forking, walking, unread, between, counted, lowered, cleared, copying, failing, entered, ready, reading, read, grabbed, rechecked, differed, refused, stopped, over, core_start}
use Rattle.gup_spec_events.specs.Event.{CoreEvent, Can, happens, tree_in, is_wrong, counted_as, is_odd, step_at, step_read, step_led, step_left, take_frame, fill, count_one, set_mark, upgrade, break_entry, put_entry, raise_flag, pin_page, make_handle, unpin_page, give_handle, take_handle, get_reference, put_reference, clear_entry, count_moved, place_frame, restore_entry, begin_fork, count_page, share_entry, share_mark, share_child, copy_word, place_child, pass_page, end_fork, fail_fork, put_child, fail_unborn, map_pages, lower_entry, protect_pages, drop_entry, discard_entry, add_table, take_out, reclaim, load, store, move_out, move_in, empty_mirror, fill_mirror, look, enter_walk, read_sequence, read_link, read_entry, grab_frame, miss_frame, recheck_above, recheck_same, recheck_other, read_mark, read_again, drop_grab, drop_last, drop_first, leave_walk}
use Rattle.gup_spec_events.specs.Invariant.{walked_process}
use Rattle.gup_law_base.specs.Sound.{IsSound, walking_of, walk_process}
use Rattle.gup_law_base.proofs.Holders.{no_element}
use Rattle.gup_tables.proofs.Places.{at_some, put_same, put_other}
use Rattle.gup_law_tables.specs.Standing.{TablesStand, has}
use Rattle.gup_law_tables.specs.Inside.{step_path, path_page, WalksStand}
use Rattle.gup_law_tables.proofs.Owners.{either, left_true, right_true, here2, away2, grown_keeps, same_had}

-- ---- one path

-- a tree of which only the places of tables are known
abbrev only : (ℕ → Option Place) → TreeValue
only place = record { entry = λ _. None; place = place; tables = 0; room = 0 }

-- a path rests on the places of its tables alone
pub keeps_same : (v w : TreeValue) (path : List ℕ) (page : ℕ) → v.place ≡ w.place → KeepsPath v path page → KeepsPath w path page
keeps_same v w [] page same kept = tt
keeps_same v w (table ∷ path) page same kept =
    (subst (λ (place : ℕ → Option Place). (place table ≡ None) ⊎ (place table ≡ Some (on_path (3 - length path) page))) same kept.0, keeps_same v w path page same kept.1)

-- the process keeps each table of the path
record IsKept (place : ℕ → Option Place) (retired : List ℕ) (path : List ℕ) (page : ℕ) : Type 0 where
  owned : (table : ℕ) → is_among path table ≡ true → has place retired table ≡ true
  kept : KeepsPath (only place) path page

none_kept : (place : ℕ → Option Place) (retired path : List ℕ) (page : ℕ) → path ≡ [] → IsKept place retired path page
none_kept place retired path page is =
    subst (λ (xs : List ℕ). IsKept place retired xs page) (sym is) (record { owned = λ table among. absurd (cc); kept = tt })

first_among : (table : ℕ) (path : List ℕ) → is_among (table ∷ path) table ≡ true
first_among table path = let own : (table == table) ≡ true = grind (arith, nat_tests) in left_true (table == table) (is_among path table) own

-- where its tables stand as they did, or nowhere, it is kept
keeps_by : (old new : ℕ → Option Place) (path : List ℕ) (page : ℕ) → ((table : ℕ) → is_among path table ≡ true → (new table ≡ old table) ⊎ (new table ≡ None)) → KeepsPath (only old) path page → KeepsPath (only new) path page
keeps_by old new [] page leaves kept = tt
keeps_by old new (table ∷ path) page leaves kept = (
  ⊎_elim (λ (same : new table ≡ old table). ⊎_elim (λ (none : old table ≡ None). inl (same ∙ none)) (λ (there : old table ≡ Some (on_path (3 - length path) page)). inr (same ∙ there)) kept.0) (λ (none : new table ≡ None). inl none) (leaves table (first_among table path)),
  keeps_by old new path page (λ other among. leaves other (right_true (other == table) (is_among path other) among)) kept.1,
)

-- ---- all walks

abbrev AreInside : (place : ℕ → ℕ → Option Place) (retired : ℕ → List ℕ) (job : ℕ → Job) → Type 0
AreInside place retired job =
    (b q sequence : ℕ) (write long : Bool) (step : WalkStep) → job b ≡ walking q write long sequence step → IsKept (place q) (retired q) (step_path step) (path_page step)

to_walks : (s : CoreState) → AreInside s.place s.retired s.job → WalksStand s
to_walks s all b q sequence write long step is =
    let h = all b q sequence write long step is in
    record { owned = h.owned; kept = keeps_same (only (s.place q)) (tree_in s q) (step_path step) (path_page step) refl h.kept }

from_walks : (s : CoreState) → WalksStand s → AreInside s.place s.retired s.job
from_walks s all b q sequence write long step is =
    let h = all b q sequence write long step is in
    record { owned = h.owned; kept = keeps_same (tree_in s q) (only (s.place q)) (step_path step) (path_page step) refl h.kept }

module _ (place : ℕ → ℕ → Option Place) (retired : ℕ → List ℕ) (job : ℕ → Job) (all : AreInside place retired job) (a : ℕ) where
  -- the actor's job becomes another
  becomes : (new : Job) → ((q sequence : ℕ) (write long : Bool) (step : WalkStep) → new ≡ walking q write long sequence step → IsKept (place q) (retired q) (step_path step) (path_page step)) → AreInside place retired (put a new job)
  becomes new own b q sequence write long step is =
      ⊎_elim
      (λ (here : b ≡ a). own q sequence write long step (sym (put_same a new job) ∙ (ap (put a new job) (sym here) ∙ is)))
      (λ (away : b ≢ a). all b q sequence write long step (sym (put_other a new job b away) ∙ is))
      (cases_eq b a)

  -- none of a walk
  rests : (new : Job) → walked_process new ≡ None → AreInside place retired (put a new job)
  rests new none =
      becomes new (λ q sequence write long step is. absurd (let no : Some q ≡ None = sym (ap walked_process is) ∙ none in cc))

  -- a walk that keeps its tables
  walks_on : (p : ℕ) (write long : Bool) (sequence : ℕ) (now : WalkStep) → IsKept (place p) (retired p) (step_path now) (path_page now) → AreInside place retired (put a (walking p write long sequence now) job)
  walks_on p write long sequence now kept =
      becomes (walking p write long sequence now) (λ q other w l step is.
      let same : p ≡ q = cc in
      let steps : now ≡ step = cc in
      subst (λ (k : WalkStep). IsKept (place q) (retired q) (step_path k) (path_page k)) steps (subst (λ (k : ℕ). IsKept (place k) (retired k) (step_path now) (path_page now)) same kept))

  -- or is inside of none
  walks_out : (p : ℕ) (write long : Bool) (sequence : ℕ) (now : WalkStep) → step_path now ≡ [] → AreInside place retired (put a (walking p write long sequence now) job)
  walks_out p write long sequence now out = walks_on p write long sequence now (none_kept (place p) (retired p) (step_path now) (path_page now) out)

-- where a walk stands that has come down this path
inside_at : (place : ℕ → Option Place) (retired path : List ℕ) (page : ℕ) → IsKept place retired (step_path (step_at page path)) (path_page (step_at page path)) → IsKept place retired path page
inside_at place retired [] page h = none_kept place retired [] page refl
inside_at place retired (table ∷ path) page h = h

-- the table to which a word leads stands where the path goes on
led_there : (v : TreeValue) (path : List ℕ) (page table : ℕ) → link_at v path page ≡ Some table → v.place table ≡ Some (on_path (3 - length path) page)
led_there v path page table is = go (is_there v path page && nat_lt (length path) 3) is
  where
    go : (b : Bool) → (if b then table_at v.place (on_path (3 - length path) page) else None) ≡ Some table → v.place table ≡ Some (on_path (3 - length path) page)
    go true found = (at_some v.place (on_path (3 - length path) page) table found).1
    go false found = absurd (cc)

step_out : (odd : Bool) → step_path (if odd then over else ready) ≡ []
step_out true = refl
step_out false = refl

mark_out : (kept : Bool) → step_path (if kept then ready else refused) ≡ []
mark_out true = refl
mark_out false = refl

left_out : (taken : List Taken) → step_path (step_left taken) ≡ []
left_out [] = refl
left_out (t ∷ taken) = refl

again_out : (same : Bool) (taken : List Taken) → step_path (if same then over else step_left taken) ≡ []
again_out true taken = refl
again_out false taken = left_out taken

fork_out : (ends : Bool) (job : Job) → walked_process job ≡ None → walked_process (if ends then idle else job) ≡ None
fork_out true job none = refl
fork_out false job none = none

fork_ended : (place : ℕ → ℕ → Option Place) (retired : ℕ → List ℕ) (job : ℕ → Job) → AreInside place retired job → (a : ℕ) (ends : Bool) → AreInside place retired (if ends then put a idle job else job)
fork_ended place retired job all a true = rests place retired job all a idle refl
fork_ended place retired job all a false = all

-- ---- a walk reads on

module _ (place : ℕ → ℕ → Option Place) (retired : ℕ → List ℕ) (job : ℕ → Job) (all : AreInside place retired job) (a p sequence page : ℕ) (write long : Bool) (path : List ℕ) where
  linked : (v : TreeValue) → v.place ≡ place p → job a ≡ walking p write long sequence (step_at page path) → (next : Option ℕ) → next ≡ link_at v path page → AreInside place retired (put a (walking p write long sequence (step_led page path next)) job)
  linked v own is None leads = walks_out place retired job all a p write long sequence stopped refl
  linked v own is (Some table) leads =
      let here : IsKept (place p) (retired p) path page = inside_at (place p) (retired p) path page (all a p sequence write long (step_at page path) is) in
      let there : place p table ≡ Some (on_path (3 - length path) page) = subst (λ (f : ℕ → Option Place). f table ≡ Some (on_path (3 - length path) page)) own (led_there v path page table (sym leads)) in
      walks_on place retired job all a p write long sequence (reading page (table ∷ path)) (record {
        owned = λ other among. ⊎_elim
            (λ (same : (other == table) ≡ true). let it : other ≡ table = grind (arith, nat_tests) in left_true (is_some (place p other)) (is_among (retired p) other) (ap is_some (ap (place p) it ∙ there)))
            (λ (rest : is_among path other ≡ true). here.owned other rest)
            (either (other == table) (is_among path other) among);
        kept = (inr there, here.kept);
      })

  entered_with : (s : CoreState) → job a ≡ walking p write long sequence (step_at page path) → (was : Option Entry) → AreInside place retired (put a (walking p write long sequence (step_read s write long page path was)) job)
  entered_with s is None = walks_out place retired job all a p write long sequence stopped refl
  entered_with s is (Some e) = go (is_wrong s write long e)
    where
      go : (wrong : Bool) → AreInside place retired (put a (walking p write long sequence (if wrong then stopped else read page path e)) job)
      go true = walks_out place retired job all a p write long sequence stopped refl
      go false = walks_on place retired job all a p write long sequence (read page path e) (inside_at (place p) (retired p) path page (all a p sequence write long (step_at page path) is))

  rechecked_above : (e : Entry) → job a ≡ walking p write long sequence (grabbed page path e) → (same : Bool) → AreInside place retired (put a (walking p write long sequence (if same then grabbed page path e else differed e.frame)) job)
  rechecked_above e is true = walks_on place retired job all a p write long sequence (grabbed page path e) (all a p sequence write long (grabbed page path e) is)
  rechecked_above e is false = walks_out place retired job all a p write long sequence (differed e.frame) refl

-- ---- tables change

-- a table that is put in was free, so it is in no walk's path
added_inside : (s : CoreState) (p table : ℕ) (at : Place) → TablesStand s → s.free_table table ≡ true → AreInside s.place s.retired s.job → AreInside (put2 p table (Some at) s.place) s.retired s.job
added_inside s p table at stand free all b q sequence write long step is =
    let h = all b q sequence write long step is in
    record {
      owned = λ other among. grown_keeps s.place s.retired p table at q other (h.owned other among);
      kept = keeps_by (s.place q) (put2 p table (Some at) s.place q) (step_path step) (path_page step) (λ other among. inl (stays other (h.owned other among))) h.kept;
    }
  where
    stays : (other : ℕ) → has (s.place q) (s.retired q) other ≡ true → put2 p table (Some at) s.place q other ≡ s.place q other
    stays other own =
        let used : s.free_table other ≡ false = stand.taken q other own in
        let apart : other ≢ table = λ same. absurd (let no : true ≡ false = sym free ∙ (ap s.free_table (sym same) ∙ used) in cc) in
        ⊎_elim
        (λ (here : q ≡ p). ap (λ (f : ℕ → Option Place). f other) (ap (put2 p table (Some at) s.place) here ∙ here2 p table (Some at) s.place) ∙ (put_other table (Some at) (s.place p) other apart ∙ ap (λ (k : ℕ). s.place k other) (sym here)))
        (λ (away : q ≢ p). ap (λ (f : ℕ → Option Place). f other) (away2 p table (Some at) s.place q away))
        (cases_eq q p)

-- one that is taken out stays with the process
removed_inside : (s : CoreState) (p page table : ℕ) → detachable (tree_in s p) page ≡ Some table → AreInside s.place s.retired s.job → AreInside (put2 p table None s.place) (put p (s.retired p ++ table ∷ []) s.retired) s.job
removed_inside s p page table out all b q sequence write long step is =
    let h = all b q sequence write long step is in
    record {
      owned = λ other among. same_had s.place s.retired (tree_in s p) p page table refl out q other ∙ h.owned other among;
      kept = keeps_by (s.place q) (put2 p table None s.place q) (step_path step) (path_page step) (λ other among. leaves other) h.kept;
    }
  where
    leaves : (other : ℕ) → (put2 p table None s.place q other ≡ s.place q other) ⊎ (put2 p table None s.place q other ≡ None)
    leaves other =
        ⊎_elim
        (λ (here : q ≡ p).
        let own : put2 p table None s.place q other ≡ put table None (s.place p) other = ap (λ (f : ℕ → Option Place). f other) (ap (put2 p table None s.place) here ∙ here2 p table None s.place) in
        ⊎_elim
        (λ (it : other ≡ table). inr (own ∙ (ap (put table None (s.place p)) it ∙ put_same table None (s.place p))))
        (λ (apart : other ≢ table). inl (own ∙ (put_other table None (s.place p) other apart ∙ ap (λ (k : ℕ). s.place k other) (sym here))))
        (cases_eq other table))
        (λ (away : q ≢ p). inl (ap (λ (f : ℕ → Option Place). f other) (away2 p table None s.place q away)))
        (cases_eq q p)

-- a process that somebody walks has a walk
none_walks : (xs : List ℕ) (b : ℕ) → length xs ≡ 0 → Contains xs b → ⊥
none_walks [] b none has = no_element b has
none_walks (x ∷ xs) b none has = absurd (omega (arith, none))

walked : (s : CoreState) (b q sequence : ℕ) (write long : Bool) (step : WalkStep) → IsSound s → s.job b ≡ walking q write long sequence step → s.walks q ≡ 0 → ⊥
walked s b q sequence write long step (v, h) is none =
    let are = h.walks_number q in
    let walks : walk_process (v.walks b) ≡ Some q = ap walk_process (h.walks_are b ∙ ap walking_of is) in
    none_walks are.0 b (are.3 ∙ none) ((are.2 b).0 walks)

-- what comes free is of a process without a walk
freed_inside : (s : CoreState) (p : ℕ) → IsSound s → s.walks p ≡ 0 → AreInside s.place s.retired s.job → AreInside s.place (put p [] s.retired) s.job
freed_inside s p sound none all b q sequence write long step is =
    let h = all b q sequence write long step is in
    let away : q ≢ p = λ here. walked s b q sequence write long step sound is (ap s.walks here ∙ none) in
    let same : put p [] s.retired q ≡ s.retired q = put_other p [] s.retired q away in
    record { owned = λ table among. ap (λ (xs : List ℕ). has (s.place q) xs table) same ∙ h.owned table among; kept = h.kept }

-- ---- every event

inside_stays : (s : CoreState) (e : CoreEvent) → IsSound s → TablesStand s → AreInside s.place s.retired s.job → Can s e → AreInside (happens s e).place (happens s e).retired (happens s e).job
inside_stays s (take_frame a f) sound stand have can = have
inside_stays s (fill a p on f) sound stand have can = have
inside_stays s (count_one a p on f writable) sound stand have can = rests s.place s.retired s.job have a (marking p on f) refl
inside_stays s (set_mark a p on f) sound stand have can = rests s.place s.retired s.job have a idle refl
inside_stays s (upgrade a p on f) sound stand have can = have
inside_stays s (break_entry a p on old new was writable) sound stand have can = have
inside_stays s (put_entry a f) sound stand have can = have
inside_stays s (raise_flag a p) sound stand have can = have
inside_stays s (pin_page a p on was write long) sound stand have can = have
inside_stays s (make_handle a h) sound stand have can = have
inside_stays s (unpin_page a h f left) sound stand have can = have
inside_stays s (give_handle a h to) sound stand have can = have
inside_stays s (take_handle a h) sound stand have can = have
inside_stays s (get_reference a p on f k writable) sound stand have can = have
inside_stays s (put_reference a f k) sound stand have can = have
inside_stays s (clear_entry a p on was allowed) sound stand have can = rests s.place s.retired s.job have a (moving p on was allowed unread) refl
inside_stays s (count_moved a p on was allowed count) sound stand have can = rests s.place s.retired s.job have a (moving p on was allowed (counted_as count)) refl
inside_stays s (place_frame a p on f was allowed) sound stand have can = rests s.place s.retired s.job have a idle refl
inside_stays s (restore_entry a p on was allowed count) sound stand have can = rests s.place s.retired s.job have a idle refl
inside_stays s (begin_fork a p c) sound stand have can = rests s.place s.retired s.job have a (forking p c [] between) refl
inside_stays s (count_page a p c done on was copies) sound stand have can = rests s.place s.retired s.job have a (forking p c done (if copies then copying on 0 else counted on)) refl
inside_stays s (share_entry a p c done on f writable) sound stand have can = rests s.place s.retired s.job have a (forking p c done (lowered on)) refl
inside_stays s (share_mark a p c done on f writable) sound stand have can = rests s.place s.retired s.job have a (forking p c done (cleared on)) refl
inside_stays s (share_child a p c done on f writable) sound stand have can = rests s.place s.retired s.job have a (forking p c (on ∷ done) between) refl
inside_stays s (copy_word a p c done on word to was) sound stand have can = rests s.place s.retired s.job have a (forking p c done (copying on (word + 1))) refl
inside_stays s (place_child a p c done on to rights) sound stand have can = rests s.place s.retired s.job have a (forking p c (on ∷ done) between) refl
inside_stays s (pass_page a p c done on) sound stand have can = rests s.place s.retired s.job have a (forking p c (on ∷ done) between) refl
inside_stays s (end_fork a p c done) sound stand have can = rests s.place s.retired s.job have a idle refl
inside_stays s (fail_fork a p c done step ends) sound stand have can = rests s.place s.retired s.job have a (if ends then idle else forking p c done failing) (fork_out ends (forking p c done failing) refl)
inside_stays s (put_child a p c done on was ends) sound stand have can = fork_ended s.place s.retired s.job have a ends
inside_stays s (fail_unborn a p c) sound stand have can = have
inside_stays s (map_pages a p on n rights) sound stand have can = have
inside_stays s (lower_entry a p on f) sound stand have can = have
inside_stays s (protect_pages a p on n rights) sound stand have can = have
inside_stays s (drop_entry a p on was) sound stand have can = have
inside_stays s (discard_entry a p on was) sound stand have can = have
inside_stays s (add_table a p on table) sound stand have can = added_inside s p table (on_path (lacks (tree_in s p) on) on) stand can.3 have
inside_stays s (take_out a p on table) sound stand have can = removed_inside s p on table can.1 have
inside_stays s (reclaim a p) sound stand have can = freed_inside s p sound can.1 have
inside_stays s (load a p on word f value) sound stand have can = have
inside_stays s (store a p on word f value) sound stand have can = have
inside_stays s (move_out a h index slot f value) sound stand have can = have
inside_stays s (move_in a h index slot f value) sound stand have can = have
inside_stays s (empty_mirror a m) sound stand have can = have
inside_stays s (fill_mirror a m p on f writable) sound stand have can = have
inside_stays s (look a m word f value) sound stand have can = have
inside_stays s (enter_walk a p write long) sound stand have can = walks_out s.place s.retired s.job have a p write long 0 entered refl
inside_stays s (read_sequence a p write long sequence) sound stand have can = walks_out s.place s.retired s.job have a p write long sequence (if is_odd sequence then over else ready) (step_out (is_odd sequence))
inside_stays s (read_link a p write long sequence on path next) sound stand have can = linked s.place s.retired s.job have a p sequence on write long path (tree_in s p) refl can.0 next can.2
inside_stays s (read_entry a p write long sequence on path was) sound stand have can = entered_with s.place s.retired s.job have a p sequence on write long path s can.0 was
inside_stays s (grab_frame a p write long sequence on path was) sound stand have can = walks_on s.place s.retired s.job have a p write long sequence (grabbed on path was) (have a p sequence write long (read on path was) can.0)
inside_stays s (miss_frame a p write long sequence on path was) sound stand have can = walks_out s.place s.retired s.job have a p write long sequence stopped refl
inside_stays s (recheck_above a p write long sequence on path was same) sound stand have can = rechecked_above s.place s.retired s.job have a p sequence on write long path was can.0 same
inside_stays s (recheck_same a p write long sequence on path was) sound stand have can = walks_out s.place s.retired s.job have a p write long sequence (rechecked on was) refl
inside_stays s (recheck_other a p write long sequence on path was) sound stand have can = walks_out s.place s.retired s.job have a p write long sequence (differed was.frame) refl
inside_stays s (read_mark a p write long sequence on was mark) sound stand have can = walks_out s.place s.retired s.job have a p write long sequence (if was.writable || mark then ready else refused) (mark_out (was.writable || mark))
inside_stays s (read_again a p write long sequence step now) sound stand have can = walks_out s.place s.retired s.job have a p write long sequence (if now == sequence then over else step_left (s.taken a)) (again_out (now == sequence) (s.taken a))
inside_stays s (drop_grab a p write long sequence f) sound stand have can = walks_out s.place s.retired s.job have a p write long sequence stopped refl
inside_stays s (drop_last a p write long sequence left last) sound stand have can = walks_out s.place s.retired s.job have a p write long sequence stopped refl
inside_stays s (drop_first a p write long sequence first left) sound stand have can = walks_out s.place s.retired s.job have a p write long sequence (step_left left) (left_out left)
inside_stays s (leave_walk a p write long sequence) sound stand have can = rests s.place s.retired s.job have a idle refl

-- ---- the law

pub first_inside : (movable normal tables : ℕ) (needs_tables : Bool) (is_born : ℕ → Bool) → WalksStand (core_start movable normal tables needs_tables is_born)
first_inside movable normal tables needs_tables is_born b q sequence write long step is = absurd (cc)

pub walks_stay : (s : CoreState) (e : CoreEvent) → IsSound s → TablesStand s → WalksStand s → Can s e → WalksStand (happens s e)
walks_stay s e sound stand walks can = to_walks (happens s e) (inside_stays s e sound stand (from_walks s walks) can)

pub still_used : (s : CoreState) (a p sequence table : ℕ) (write long : Bool) (step : WalkStep) → TablesStand s → WalksStand s → s.job a ≡ walking p write long sequence step → is_among (step_path step) table ≡ true → s.free_table table ≡ false
still_used s a p sequence table write long step stand walks is among =
    stand.taken p table ((walks a p sequence write long step is).owned table among)
