-- Where entries need tables, a page with an entry lacks none, and neither does one whose entry is cleared, after whatever event.
use Rattle.std.proofs.Common.{◌≡◌, ◌≢◌, ℕ, ◌+◌, ◌<◌, ◌==◌, ◌||◌, ◌⊎◌, Bool, true, false, if◌then◌else◌, List, [], ◌∷◌, Option, Some, None, refl, ap, sym, ◌∙◌, ⊎_elim, arith}
use Rattle.std.proofs.lemmas.Bool.{cases_eq}
use Rattle.std.proofs.lemmas.Bool.Decides.{nat_tests}
use Rattle.gup_base.specs.declared.entry.Allowed.{Allowed}
use Rattle.gup_base.specs.declared.entry.Entry.{Entry}
use Rattle.gup_plain.specs.Event.{page_numbers}
use Rattle.gup_plain.specs.State.{born, failed}
use Rattle.gup_plain.specs.Put.{put, put2}
use Rattle.gup_spec_tables.specs.declared.place.Place.{Place}
use Rattle.gup_spec_tables.specs.Tables.{on_path, lacks, detachable}
use Rattle.gup_spec_events.specs.State.{CoreState, core_start, Job, idle, marking, moving, forking, walking, Counted, unread, one, between, counted, lowered, cleared, copying, failing, entered, ready, grabbed, rechecked, differed, refused, stopped, over}
use Rattle.gup_spec_events.specs.Event.{CoreEvent, Can, happens, tree_in, has_tables, MayShape, child_of, AreUnlocked, entry_of, counted_as, is_writable, is_odd, step_read, step_led, step_left, take_frame, fill, count_one, set_mark, upgrade, break_entry, put_entry, raise_flag, pin_page, make_handle, unpin_page, give_handle, take_handle, get_reference, put_reference, clear_entry, count_moved, place_frame, restore_entry, begin_fork, count_page, share_entry, share_mark, share_child, copy_word, place_child, pass_page, end_fork, fail_fork, put_child, fail_unborn, map_pages, lower_entry, protect_pages, drop_entry, discard_entry, add_table, take_out, reclaim, load, store, move_out, move_in, empty_mirror, fill_mirror, look, enter_walk, read_sequence, read_link, read_entry, grab_frame, miss_frame, recheck_above, recheck_same, recheck_other, read_mark, read_again, drop_grab, drop_last, drop_first, leave_walk}
use Rattle.gup_tables.proofs.Places.{put_same, put_other}
use Rattle.gup_law_base.specs.Sound.{View, Moving, Forking, IsSound, IsSoundBy, moving_of, forking_of}
use Rattle.gup_law_base.proofs.Children.{no_child}
use Rattle.gup_law_tables.specs.Standing.{TablesStand, HavePaths, EntriesStand, lacking}
use Rattle.gup_law_tables.proofs.Owners.{away2}
use Rattle.gup_law_tables.proofs.KeptPaths.{added_full, removed_full}

-- 1. What is said of each page with an entry, and of each whose entry is cleared

module _ (P : ℕ → ℕ → Type 0) where
  abbrev AreEntered : (ℕ → ℕ → Option Entry) → Type 0
  AreEntered entry = (p page : ℕ) (e : Entry) → entry p page ≡ Some e → P p page

  abbrev AreCleared : (ℕ → Job) → Type 0
  AreCleared job = (a p page : ℕ) (e : Entry) (allowed : Allowed) (count : Counted) → job a ≡ moving p page e allowed count → P p page

  -- the entry of one page changes
  entered_put : (entry : ℕ → ℕ → Option Entry) (p page : ℕ) (o : Option Entry) → ((e : Entry) → o ≡ Some e → P p page) → AreEntered entry → AreEntered (put2 p page o entry)
  entered_put entry p page o new all q other e is =
      ⊎_elim
      (λ (here : q ≡ p).
      ⊎_elim
      (λ (it : other ≡ page). let own : put2 p page o entry q other ≡ o = grind (arith, nat_tests) in rw (here, it) (new e (sym own ∙ is)))
      (λ (away : other ≢ page). let same : put2 p page o entry q other ≡ entry q other = grind (arith, nat_tests) in all q other e (sym same ∙ is))
      (cases_eq other page))
      (λ (away : q ≢ p). let same : put2 p page o entry q other ≡ entry q other = grind (arith, nat_tests) in all q other e (sym same ∙ is))
      (cases_eq q p)

  -- so does the job of one actor
  cleared_put : (job : ℕ → Job) (a : ℕ) (j : Job) → ((p page : ℕ) (e : Entry) (allowed : Allowed) (count : Counted) → j ≡ moving p page e allowed count → P p page) → AreCleared job → AreCleared (put a j job)
  cleared_put job a j new all b p page e allowed count is =
      ⊎_elim
      (λ (here : b ≡ a). new p page e allowed count (sym (put_same a j job) ∙ (rw here at is)))
      (λ (away : b ≢ a). all b p page e allowed count (sym (put_other a j job b away) ∙ is))
      (cases_eq b a)

  -- to one that moves no page
  cleared_over : (job : ℕ → Job) (a : ℕ) (j : Job) → moving_of j ≡ None → AreCleared job → AreCleared (put a j job)
  cleared_over job a j none all =
      cleared_put job a j (λ p page e allowed count is. absurd (let some : moving_of j ≡ Some (record { proc = p; page = page; entry = e; count = count }) = ap moving_of is in cc)) all

  -- to one that moves a page of which it is so
  cleared_on : (job : ℕ → Job) (a p page : ℕ) (e : Entry) (allowed : Allowed) (count : Counted) → P p page → AreCleared job → AreCleared (put a (moving p page e allowed count) job)
  cleared_on job a p page e allowed count here all =
      cleared_put job a (moving p page e allowed count) (λ q other f zones read is. let proc : p ≡ q = cc in let same : page ≡ other = cc in rw (← proc, ← same) here) all

-- 2. Page tables

-- an event changes the entry of a page
mapped : {place : ℕ → ℕ → Option Place} {entry : ℕ → ℕ → Option Entry} {job : ℕ → Job} → HavePaths place entry job → (p page : ℕ) (o : Option Entry) → ((e : Entry) → o ≡ Some e → lacking (place p) page ≡ 0) → HavePaths place (put2 p page o entry) job
mapped {place = place} {entry = entry} have p page o full = record {
  entered = entered_put (λ q other. lacking (place q) other ≡ 0) entry p page o full have.entered;
  cleared = have.cleared;
}

-- or takes it away
unmapped : {place : ℕ → ℕ → Option Place} {entry : ℕ → ℕ → Option Entry} {job : ℕ → Job} → HavePaths place entry job → (p page : ℕ) → HavePaths place (put2 p page None entry) job
unmapped have p page = mapped have p page None (λ e is. absurd cc)

-- or changes what an actor is in the middle of, which moves no page, or one of these
working : {place : ℕ → ℕ → Option Place} {entry : ℕ → ℕ → Option Entry} {job : ℕ → Job} → HavePaths place entry job → (a : ℕ) (j : Job) → moving_of j ≡ None → HavePaths place entry (put a j job)
working {place = place} {job = job} have a j none = record {
  entered = have.entered;
  cleared = cleared_over (λ q other. lacking (place q) other ≡ 0) job a j none have.cleared;
}

moved : {place : ℕ → ℕ → Option Place} {entry : ℕ → ℕ → Option Entry} {job : ℕ → Job} → HavePaths place entry job → (a p page : ℕ) (e : Entry) (allowed : Allowed) (count : Counted) → lacking (place p) page ≡ 0 → HavePaths place entry (put a (moving p page e allowed count) job)
moved {place = place} {job = job} have a p page e allowed count full = record {
  entered = have.entered;
  cleared = cleared_on (λ q other. lacking (place q) other ≡ 0) job a p page e allowed count full have.cleared;
}

-- its fork may end
ended : {place : ℕ → ℕ → Option Place} {entry : ℕ → ℕ → Option Entry} {job : ℕ → Job} → HavePaths place entry job → (a : ℕ) (ends : Bool) → HavePaths place entry (if ends then put a idle job else job)
ended have a true = working have a idle refl
ended have a false = have

-- and where it fails, no page is moved
none_moved : (ends : Bool) (p c : ℕ) (done : List ℕ) → moving_of (if ends then idle else forking p c done failing) ≡ None
none_moved true p c done = refl
none_moved false p c done = refl

abbrev HasPath : CoreState → (p page : ℕ) → Type 0
HasPath s p page = lacking (s.place p) page ≡ 0

-- a page that may get an entry lacks no table, where entries need them
path_by : (needs : Bool) (n : ℕ) → (if needs then n == 0 else true) ≡ true → needs ≡ true → n ≡ 0
path_by true n test needed = grind (arith, nat_tests)
path_by false n test needed = absurd cc

path_had : (s : CoreState) (p page : ℕ) → has_tables s p page ≡ true → s.needs_tables ≡ true → HasPath s p page
path_had s p page is needs = path_by s.needs_tables (lacking (s.place p) page) is needs

-- the fork whose child a process is
child_forked : (job : Job) (c : ℕ) → child_of job ≡ Some c → (k : Forking) × (forking_of job ≡ Some k) × (k.child ≡ c)
child_forked idle c is = absurd cc
child_forked (marking p page f) c is = absurd cc
child_forked (moving p page e allowed count) c is = absurd cc
child_forked (forking p child done step) c is = (record { proc = p; child = child; done = done; step = step }, refl, cc)
child_forked (walking p write long sequence step) c is = absurd cc

-- while a page of a process is moved, its tables don't change
unshaped : (s : CoreState) (a b p page : ℕ) (e : Entry) (allowed : Allowed) (count : Counted) → IsSound s → MayShape s a p → s.job b ≡ moving p page e allowed count → ⊥
unshaped s a b p page e allowed count sound may is =
    let v : View = sound.0 in
    let h : IsSoundBy v s = sound.1 in
    let m : Moving = record { proc = p; page = page; entry = e; count = count } in
    let locked : s.table p ≡ Some b = h.moves_table b m (h.moves_are b ∙ ap moving_of is) in
    let lives : s.birth p ≡ born = h.table_born p b locked in
    ⊎_elim
    (λ (free : (s.birth p ≡ born) × AreUnlocked s p). let none = free.1.1 in cc (none, locked))
    (λ (other : (s.birth p ≡ failed) ⊎ (child_of (s.job a) ≡ Some p)).
    ⊎_elim
    (λ (lost : s.birth p ≡ failed). cc (lost, lives))
    (λ (child : child_of (s.job a) ≡ Some p).
    let k = child_forked (s.job a) p child in
    no_child v s p a k.0 h lives (h.forks_are a ∙ k.1) k.2)
    other)
    may

added_paths : (s : CoreState) (p on table : ℕ) → TablesStand s → on < page_numbers → s.free_table table ≡ true → 0 < lacks (tree_in s p) on → HavePaths s.place s.entry s.job → HavePaths (put2 p table (Some (on_path (lacks (tree_in s p) on) on)) s.place) s.entry s.job
added_paths s p on table stand within free some have = record {
  entered = λ q page e is. added_full s p on table stand within free some q page (have.entered q page e is);
  cleared = λ b q page e allowed count is. added_full s p on table stand within free some q page (have.cleared b q page e allowed count is);
}

removed_paths : (s : CoreState) (a p on table : ℕ) → IsSound s → TablesStand s → MayShape s a p → detachable (tree_in s p) on ≡ Some table → HavePaths s.place s.entry s.job → HavePaths (put2 p table None s.place) s.entry s.job
removed_paths s a p on table sound stand may out have = record {
  entered = λ q page e is. removed_full s p on table stand out q page e is (have.entered q page e is);
  cleared = λ b q page e allowed count is.
      let away : q ≢ p = λ here. unshaped s a b p page e allowed count sound may (rw here at is) in
      rw (away2 p table None s.place q away) (have.cleared b q page e allowed count is);
}

-- 3. An event for each, and the start

pub first_paths : (movable normal tables : ℕ) (needs_tables : Bool) (is_born : ℕ → Bool) → EntriesStand (core_start movable normal tables needs_tables is_born)
first_paths movable normal tables needs_tables is_born = λ needs. record {
  entered = λ p page e is. absurd cc;
  cleared = λ a p page e allowed count is. absurd cc;
}

pub paths_stand : (s : CoreState) (e : CoreEvent) → IsSound s → TablesStand s → EntriesStand s → Can s e → EntriesStand (happens s e)
paths_stand s (take_frame a f) sound stand have can = have
paths_stand s (fill a p on f) sound stand have can = λ needs. mapped (have needs) p on (Some (entry_of f false)) (λ e is. path_had s p on can.6 needs)
paths_stand s (count_one a p on f writable) sound stand have can = λ needs. working (have needs) a (marking p on f) refl
paths_stand s (set_mark a p on f) sound stand have can = λ needs. working (have needs) a idle refl
paths_stand s (upgrade a p on f) sound stand have can = λ needs. mapped (have needs) p on (Some (entry_of f true)) (λ e is. (have needs).entered p on (entry_of f false) can.3)
paths_stand s (break_entry a p on old new was writable) sound stand have can = λ needs. mapped (have needs) p on (Some (entry_of new writable)) (λ e is. (have needs).entered p on (entry_of old was) can.5)
paths_stand s (put_entry a f) sound stand have can = have
paths_stand s (raise_flag a p) sound stand have can = have
paths_stand s (pin_page a p on was write long) sound stand have can = have
paths_stand s (make_handle a h) sound stand have can = have
paths_stand s (unpin_page a h f left) sound stand have can = have
paths_stand s (give_handle a h to) sound stand have can = have
paths_stand s (take_handle a h) sound stand have can = have
paths_stand s (get_reference a p on f k writable) sound stand have can = have
paths_stand s (put_reference a f k) sound stand have can = have
paths_stand s (clear_entry a p on was allowed) sound stand have can = λ needs. moved (unmapped (have needs) p on) a p on was allowed unread ((have needs).entered p on was can.4)
paths_stand s (count_moved a p on was allowed count) sound stand have can = λ needs. moved (have needs) a p on was allowed (counted_as count) ((have needs).cleared a p on was allowed unread can.0)
paths_stand s (place_frame a p on f was allowed) sound stand have can = λ needs. working (mapped (have needs) p on (Some (entry_of f was.writable)) (λ e is. (have needs).cleared a p on was allowed one can.0)) a idle refl
paths_stand s (restore_entry a p on was allowed count) sound stand have can = λ needs. working (mapped (have needs) p on (Some was) (λ e is. (have needs).cleared a p on was allowed count can.0)) a idle refl
paths_stand s (begin_fork a p c) sound stand have can = λ needs. working (have needs) a (forking p c [] between) refl
paths_stand s (count_page a p c done on was copies) sound stand have can = λ needs. working (have needs) a (forking p c done (if copies then copying on 0 else counted on)) refl
paths_stand s (share_entry a p c done on f writable) sound stand have can = λ needs. working (mapped (have needs) p on (Some (entry_of f false)) (λ e is. (have needs).entered p on (entry_of f writable) can.1)) a (forking p c done (lowered on)) refl
paths_stand s (share_mark a p c done on f writable) sound stand have can = λ needs. working (have needs) a (forking p c done (cleared on)) refl
paths_stand s (share_child a p c done on f writable) sound stand have can = λ needs. working (mapped (have needs) c on (Some (entry_of f false)) (λ e is. path_had s c on can.2 needs)) a (forking p c (on ∷ done) between) refl
paths_stand s (copy_word a p c done on word to was) sound stand have can = λ needs. working (have needs) a (forking p c done (copying on (word + 1))) refl
paths_stand s (place_child a p c done on to rights) sound stand have can = λ needs. working (mapped (have needs) c on (Some (entry_of to (is_writable rights))) (λ e is. path_had s c on can.3 needs)) a (forking p c (on ∷ done) between) refl
paths_stand s (pass_page a p c done on) sound stand have can = λ needs. working (have needs) a (forking p c (on ∷ done) between) refl
paths_stand s (end_fork a p c done) sound stand have can = λ needs. working (have needs) a idle refl
paths_stand s (fail_fork a p c done step ends) sound stand have can = λ needs. working (have needs) a (if ends then idle else forking p c done failing) (none_moved ends p c done)
paths_stand s (put_child a p c done on was ends) sound stand have can = λ needs. ended (unmapped (have needs) c on) a ends
paths_stand s (fail_unborn a p c) sound stand have can = have
paths_stand s (map_pages a p on n rights) sound stand have can = have
paths_stand s (lower_entry a p on f) sound stand have can = λ needs. mapped (have needs) p on (Some (entry_of f false)) (λ e is. (have needs).entered p on (entry_of f true) can.2)
paths_stand s (protect_pages a p on n rights) sound stand have can = have
paths_stand s (drop_entry a p on was) sound stand have can = λ needs. unmapped (have needs) p on
paths_stand s (discard_entry a p on was) sound stand have can = λ needs. unmapped (have needs) p on
paths_stand s (add_table a p on table) sound stand have can = λ needs. added_paths s p on table stand can.2 can.3 can.4 (have needs)
paths_stand s (take_out a p on table) sound stand have can = λ needs. removed_paths s a p on table sound stand can.0 can.1 (have needs)
paths_stand s (reclaim a p) sound stand have can = have
paths_stand s (load a p on word f value) sound stand have can = have
paths_stand s (store a p on word f value) sound stand have can = have
paths_stand s (move_out a h index slot f value) sound stand have can = have
paths_stand s (move_in a h index slot f value) sound stand have can = have
paths_stand s (empty_mirror a m) sound stand have can = have
paths_stand s (fill_mirror a m p on f writable) sound stand have can = have
paths_stand s (look a m word f value) sound stand have can = have
paths_stand s (enter_walk a p write long) sound stand have can = λ needs. working (have needs) a (walking p write long 0 entered) refl
paths_stand s (read_sequence a p write long sequence) sound stand have can = λ needs. working (have needs) a (walking p write long sequence (if is_odd sequence then over else ready)) refl
paths_stand s (read_link a p write long sequence on path next) sound stand have can = λ needs. working (have needs) a (walking p write long sequence (step_led on path next)) refl
paths_stand s (read_entry a p write long sequence on path was) sound stand have can = λ needs. working (have needs) a (walking p write long sequence (step_read s write long on path was)) refl
paths_stand s (grab_frame a p write long sequence on path was) sound stand have can = λ needs. working (have needs) a (walking p write long sequence (grabbed on path was)) refl
paths_stand s (miss_frame a p write long sequence on path was) sound stand have can = λ needs. working (have needs) a (walking p write long sequence stopped) refl
paths_stand s (recheck_above a p write long sequence on path was same) sound stand have can = λ needs. working (have needs) a (walking p write long sequence (if same then grabbed on path was else differed was.frame)) refl
paths_stand s (recheck_same a p write long sequence on path was) sound stand have can = λ needs. working (have needs) a (walking p write long sequence (rechecked on was)) refl
paths_stand s (recheck_other a p write long sequence on path was) sound stand have can = λ needs. working (have needs) a (walking p write long sequence (differed was.frame)) refl
paths_stand s (read_mark a p write long sequence on was mark) sound stand have can = λ needs. working (have needs) a (walking p write long sequence (if was.writable || mark then ready else refused)) refl
paths_stand s (read_again a p write long sequence step now) sound stand have can = λ needs. working (have needs) a (walking p write long sequence (if now == sequence then over else step_left (s.taken a))) refl
paths_stand s (drop_grab a p write long sequence f) sound stand have can = λ needs. working (have needs) a (walking p write long sequence stopped) refl
paths_stand s (drop_last a p write long sequence left last) sound stand have can = λ needs. working (have needs) a (walking p write long sequence stopped) refl
paths_stand s (drop_first a p write long sequence first left) sound stand have can = λ needs. working (have needs) a (walking p write long sequence (step_left left)) refl
paths_stand s (leave_walk a p write long sequence) sound stand have can = λ needs. working (have needs) a idle refl
