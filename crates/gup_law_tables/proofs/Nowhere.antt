-- No table comes from nowhere.
use Rattle.std.proofs.Common.{◌≡◌, ◌≢◌, ℕ, ◌<◌, ◌||◌, inl, inr, Bool, true, false, is_some, nat_lt, List, [], ◌∷◌, ◌++◌, Option, Some, None, refl, ap, sym, ◌∙◌, ⊎_elim, arith}
use Rattle.std.proofs.lemmas.Bool.{cases_eq}
use Rattle.std.proofs.lemmas.Bool.Decides.{nat_tests}
use Rattle.gup_plain.specs.Put.{put, put2}
use Rattle.gup_spec_tables.specs.declared.place.Place.{Place}
use Rattle.gup_spec_tables.specs.Tables.{on_path, lacks, detachable, is_among}
use Rattle.gup_spec_events.specs.State.{CoreState, core_start}
use Rattle.gup_spec_events.specs.Event.{CoreEvent, Can, happens, run, tree_in, take_frame, fill, count_one, set_mark, upgrade, break_entry, put_entry, raise_flag, pin_page, make_handle, unpin_page, give_handle, take_handle, get_reference, put_reference, clear_entry, count_moved, place_frame, restore_entry, begin_fork, count_page, share_entry, share_mark, share_child, copy_word, place_child, pass_page, end_fork, fail_fork, put_child, fail_unborn, map_pages, lower_entry, protect_pages, drop_entry, discard_entry, add_table, take_out, reclaim, load, store, move_out, move_in, empty_mirror, fill_mirror, look, enter_walk, read_sequence, read_link, read_entry, grab_frame, miss_frame, recheck_above, recheck_same, recheck_other, read_mark, read_again, drop_grab, drop_last, drop_first, leave_walk}
use Rattle.gup_spec_events.specs.Invariant.{AllCan}
use Rattle.gup_tables.proofs.Places.{put_same, put_other}
use Rattle.gup_law_tables.specs.Standing.{has, IsSomewhere}
use Rattle.gup_law_tables.proofs.Owners.{either, left_true, right_true, here2, away2, same_had}

-- a table that a process gets was free, and another was where it is
added_from : (s : CoreState) (p table : ℕ) (at : Place) (other : ℕ) → s.free_table table ≡ true → IsSomewhere (record s { place = put2 p table (Some at) s.place; free_table = put table false s.free_table }) other → IsSomewhere s other
added_from s p table at other unused is =
    ⊎_elim
    (λ (it : other ≡ table). inl (rw it unused))
    (λ (away : other ≢ table).
    ⊎_elim
    (λ (free : put table false s.free_table other ≡ true). inl (sym (put_other table false s.free_table other away) ∙ free))
    (λ (had : (q : ℕ) × (has (put2 p table (Some at) s.place q) (s.retired q) other ≡ true)).
    let same : put2 p table (Some at) s.place had.0 other ≡ s.place had.0 other =
    ⊎_elim
    (λ (here : had.0 ≡ p). rw (here, here2 p table (Some at) s.place) (put_other table (Some at) (s.place p) other away))
    (λ (elsewhere : had.0 ≢ p). ap (λ (f : ℕ → Option Place). f other) (away2 p table (Some at) s.place had.0 elsewhere))
    (cases_eq had.0 p) in
    inr (had.0, ap (λ (o : Option Place). is_some o || is_among (s.retired had.0) other) (sym same) ∙ had.1))
    is)
    (cases_eq other table)

-- one that is taken out is the process's own, before and after
removed_from : (s : CoreState) (p page table : ℕ) → detachable (tree_in s p) page ≡ Some table → (other : ℕ) → IsSomewhere (record s { place = put2 p table None s.place; retired = put p (s.retired p ++ table ∷ []) s.retired }) other → IsSomewhere s other
removed_from s p page table out other is =
    ⊎_elim
    (λ (free : s.free_table other ≡ true). inl free)
    (λ (had : (q : ℕ) × (has (put2 p table None s.place q) (put p (s.retired p ++ table ∷ []) s.retired q) other ≡ true)). inr (had.0, sym (same_had s.place s.retired (tree_in s p) p page table refl out had.0 other) ∙ had.1))
    is

-- and one that comes free has waited
reclaimed_from : (s : CoreState) (p other : ℕ) → IsSomewhere (record s { free_table = λ table. s.free_table table || is_among (s.retired p) table; retired = put p [] s.retired }) other → IsSomewhere s other
reclaimed_from s p other is =
    ⊎_elim
    (λ (free : (s.free_table other || is_among (s.retired p) other) ≡ true).
    ⊎_elim
    (λ (before : s.free_table other ≡ true). inl before)
    (λ (waits : is_among (s.retired p) other ≡ true). inr (p, right_true (is_some (s.place p other)) (is_among (s.retired p) other) waits))
    (either (s.free_table other) (is_among (s.retired p) other) free))
    (λ (had : (q : ℕ) × (has (s.place q) (put p [] s.retired q) other ≡ true)).
    ⊎_elim
    (λ (placed : is_some (s.place had.0 other) ≡ true). inr (had.0, left_true (is_some (s.place had.0 other)) (is_among (s.retired had.0) other) placed))
    (λ (waits : is_among (put p [] s.retired had.0) other ≡ true).
    ⊎_elim
    (λ (here : had.0 ≡ p). absurd (let none : is_among (put p [] s.retired p) other ≡ false = ap (λ (list : List ℕ). is_among list other) (put_same p [] s.retired) in let some : is_among (put p [] s.retired p) other ≡ true = (rw here at waits) in cc (none, some)))
    (λ (away : had.0 ≢ p). inr (had.0, right_true (is_some (s.place had.0 other)) (is_among (s.retired had.0) other) (ap (λ (list : List ℕ). is_among list other) (sym (put_other p [] s.retired had.0 away)) ∙ waits)))
    (cases_eq had.0 p))
    (either (is_some (s.place had.0 other)) (is_among (put p [] s.retired had.0) other) had.1))
    is

pub not_made : (s : CoreState) (e : CoreEvent) (other : ℕ) → Can s e → IsSomewhere (happens s e) other → IsSomewhere s other
not_made s (take_frame a f) other can is = is
not_made s (fill a p page f) other can is = is
not_made s (count_one a p page f writable) other can is = is
not_made s (set_mark a p page f) other can is = is
not_made s (upgrade a p page f) other can is = is
not_made s (break_entry a p page old new was writable) other can is = is
not_made s (put_entry a f) other can is = is
not_made s (raise_flag a p) other can is = is
not_made s (pin_page a p page entry write long) other can is = is
not_made s (make_handle a h) other can is = is
not_made s (unpin_page a h f left) other can is = is
not_made s (give_handle a h to) other can is = is
not_made s (take_handle a h) other can is = is
not_made s (get_reference a p page f k writable) other can is = is
not_made s (put_reference a f k) other can is = is
not_made s (clear_entry a p page entry allowed) other can is = is
not_made s (count_moved a p page entry allowed count) other can is = is
not_made s (place_frame a p page f entry allowed) other can is = is
not_made s (restore_entry a p page entry allowed count) other can is = is
not_made s (begin_fork a p c) other can is = is
not_made s (count_page a p c done page entry copies) other can is = is
not_made s (share_entry a p c done page f writable) other can is = is
not_made s (share_mark a p c done page f writable) other can is = is
not_made s (share_child a p c done page f writable) other can is = is
not_made s (copy_word a p c done page word to entry) other can is = is
not_made s (place_child a p c done page to rights) other can is = is
not_made s (pass_page a p c done page) other can is = is
not_made s (end_fork a p c done) other can is = is
not_made s (fail_fork a p c done step ends) other can is = is
not_made s (put_child a p c done page entry ends) other can is = is
not_made s (fail_unborn a p c) other can is = is
not_made s (map_pages a p page n rights) other can is = is
not_made s (lower_entry a p page f) other can is = is
not_made s (protect_pages a p page n rights) other can is = is
not_made s (drop_entry a p page was) other can is = is
not_made s (discard_entry a p page was) other can is = is
not_made s (add_table a p page table) other can is = added_from s p table (on_path (lacks (tree_in s p) page) page) other can.3 is
not_made s (take_out a p page table) other can is = removed_from s p page table can.1 other is
not_made s (reclaim a p) other can is = reclaimed_from s p other is
not_made s (load a p page word f value) other can is = is
not_made s (store a p page word f value) other can is = is
not_made s (move_out a h index slot f value) other can is = is
not_made s (move_in a h index slot f value) other can is = is
not_made s (empty_mirror a m) other can is = is
not_made s (fill_mirror a m p page f writable) other can is = is
not_made s (look a m word f value) other can is = is
not_made s (enter_walk a p write long) other can is = is
not_made s (read_sequence a p write long sequence) other can is = is
not_made s (read_link a p write long sequence page path next) other can is = is
not_made s (read_entry a p write long sequence page path was) other can is = is
not_made s (grab_frame a p write long sequence page path entry) other can is = is
not_made s (miss_frame a p write long sequence page path entry) other can is = is
not_made s (recheck_above a p write long sequence page path entry same) other can is = is
not_made s (recheck_same a p write long sequence page path entry) other can is = is
not_made s (recheck_other a p write long sequence page path entry) other can is = is
not_made s (read_mark a p write long sequence page entry mark) other can is = is
not_made s (read_again a p write long sequence step now) other can is = is
not_made s (drop_grab a p write long sequence f) other can is = is
not_made s (drop_last a p write long sequence left last) other can is = is
not_made s (drop_first a p write long sequence first left) other can is = is
not_made s (leave_walk a p write long sequence) other can is = is

-- from the start on, where none is had and as many are free as there are
pub none_made : (movable normal tables : ℕ) (needs_tables : Bool) (is_born : ℕ → Bool) (table : ℕ) → IsSomewhere (core_start movable normal tables needs_tables is_born) table → table < tables
none_made movable normal tables needs_tables is_born table is =
    ⊎_elim
    (λ (free : nat_lt table tables ≡ true). grind (arith, nat_tests))
    (λ (had : (p : ℕ) × (has (λ _. None) [] table ≡ true)). absurd (let none = had.1 in cc))
    is

pub not_made_run : (s : CoreState) (es : List CoreEvent) (table : ℕ) → AllCan s es → IsSomewhere (run s es) table → IsSomewhere s table
not_made_run s [] table can is = is
not_made_run s (e ∷ es) table can is = not_made s e table can.0 (not_made_run (happens s e) es table can.1 is)
