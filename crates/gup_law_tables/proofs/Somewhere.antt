-- No table is lost.
use Rattle.std.proofs.Common.{◌≡◌, ◌≢◌, ℕ, ◌<◌, ◌||◌, inl, inr, Bool, true, false, is_some, List, [], ◌∷◌, ◌++◌, Some, None, refl, ap, ◌∙◌, ⊎_elim, arith}
use Rattle.std.proofs.lemmas.Bool.{cases_eq}
use Rattle.std.proofs.lemmas.Bool.Decides.{nat_tests}
use Rattle.gup_plain.specs.Put.{put, put2}
use Rattle.gup_spec_tables.specs.declared.place.Place.{Place}
use Rattle.gup_spec_tables.specs.Tables.{on_path, lacks, detachable, is_among}
use Rattle.gup_spec_events.specs.State.{CoreState, core_start}
use Rattle.gup_spec_events.specs.Event.{CoreEvent, Can, happens, run, tree_in, take_frame, fill, count_one, set_mark, upgrade, break_entry, put_entry, raise_flag, pin_page, make_handle, unpin_page, give_handle, take_handle, get_reference, put_reference, clear_entry, count_moved, place_frame, restore_entry, begin_fork, count_page, share_entry, share_mark, share_child, copy_word, place_child, pass_page, end_fork, fail_fork, put_child, fail_unborn, map_pages, lower_entry, protect_pages, drop_entry, discard_entry, add_table, take_out, reclaim, load, store, move_out, move_in, empty_mirror, fill_mirror, look, enter_walk, read_sequence, read_link, read_entry, grab_frame, miss_frame, recheck_above, recheck_same, recheck_other, read_mark, read_again, drop_grab, drop_last, drop_first, leave_walk}
use Rattle.gup_spec_events.specs.Invariant.{AllCan}
use Rattle.gup_tables.proofs.Places.{put_same, put_other}
use Rattle.gup_law_tables.specs.Standing.{has, has_table, IsSomewhere}
use Rattle.gup_law_tables.proofs.Owners.{either, left_true, right_true, here2, grown_keeps, same_had}

-- a table that a process gets is its own, and another is where it was
added_somewhere : (s : CoreState) (p table : ℕ) (at : Place) (other : ℕ) → IsSomewhere s other → IsSomewhere (record s { place = put2 p table (Some at) s.place; free_table = put table false s.free_table }) other
added_somewhere s p table at other is =
    ⊎_elim
    (λ (it : other ≡ table).
    let own : put2 p table (Some at) s.place p other ≡ Some at = rw (it, here2 p table (Some at) s.place) (put_same table (Some at) (s.place p)) in
    inr (p, left_true (is_some (put2 p table (Some at) s.place p other)) (is_among (s.retired p) other) (rw own refl)))
    (λ (away : other ≢ table).
    ⊎_elim
    (λ (free : s.free_table other ≡ true). inl (put_other table false s.free_table other away ∙ free))
    (λ (had : (q : ℕ) × (has_table s q other ≡ true)). inr (had.0, grown_keeps s.place s.retired p table at had.0 other had.1))
    is)
    (cases_eq other table)

-- one that is taken out waits
removed_somewhere : (s : CoreState) (p page table : ℕ) → detachable (tree_in s p) page ≡ Some table → (other : ℕ) → IsSomewhere s other → IsSomewhere (record s { place = put2 p table None s.place; retired = put p (s.retired p ++ table ∷ []) s.retired }) other
removed_somewhere s p page table out other is =
    ⊎_elim
    (λ (free : s.free_table other ≡ true). inl free)
    (λ (had : (q : ℕ) × (has_table s q other ≡ true)). inr (had.0, same_had s.place s.retired (tree_in s p) p page table refl out had.0 other ∙ had.1))
    is

-- and one that waits comes free
reclaimed_somewhere : (s : CoreState) (p other : ℕ) → IsSomewhere s other → IsSomewhere (record s { free_table = λ table. s.free_table table || is_among (s.retired p) table; retired = put p [] s.retired }) other
reclaimed_somewhere s p other is =
    ⊎_elim
    (λ (free : s.free_table other ≡ true). inl (left_true (s.free_table other) (is_among (s.retired p) other) free))
    (λ (had : (q : ℕ) × (has_table s q other ≡ true)).
    ⊎_elim
    (λ (here : had.0 ≡ p).
    ⊎_elim
    (λ (placed : is_some (s.place (had.0) other) ≡ true). inr (had.0, left_true (is_some (s.place (had.0) other)) (is_among (put p [] s.retired (had.0)) other) placed))
    (λ (waits : is_among (s.retired (had.0)) other ≡ true). inl (right_true (s.free_table other) (is_among (s.retired p) other) (rw here at waits)))
    (either (is_some (s.place (had.0) other)) (is_among (s.retired (had.0)) other) had.1))
    (λ (away : had.0 ≢ p). inr (had.0, ap (λ list. has (s.place (had.0)) list other) (put_other p [] s.retired (had.0) away) ∙ had.1))
    (cases_eq (had.0) p))
    is

pub not_lost : (s : CoreState) (e : CoreEvent) (other : ℕ) → Can s e → IsSomewhere s other → IsSomewhere (happens s e) other
not_lost s (take_frame a f) other can is = is
not_lost s (fill a p page f) other can is = is
not_lost s (count_one a p page f writable) other can is = is
not_lost s (set_mark a p page f) other can is = is
not_lost s (upgrade a p page f) other can is = is
not_lost s (break_entry a p page old new was writable) other can is = is
not_lost s (put_entry a f) other can is = is
not_lost s (raise_flag a p) other can is = is
not_lost s (pin_page a p page entry write long) other can is = is
not_lost s (make_handle a h) other can is = is
not_lost s (unpin_page a h f left) other can is = is
not_lost s (give_handle a h to) other can is = is
not_lost s (take_handle a h) other can is = is
not_lost s (get_reference a p page f k writable) other can is = is
not_lost s (put_reference a f k) other can is = is
not_lost s (clear_entry a p page entry allowed) other can is = is
not_lost s (count_moved a p page entry allowed count) other can is = is
not_lost s (place_frame a p page f entry allowed) other can is = is
not_lost s (restore_entry a p page entry allowed count) other can is = is
not_lost s (begin_fork a p c) other can is = is
not_lost s (count_page a p c done page entry copies) other can is = is
not_lost s (share_entry a p c done page f writable) other can is = is
not_lost s (share_mark a p c done page f writable) other can is = is
not_lost s (share_child a p c done page f writable) other can is = is
not_lost s (copy_word a p c done page word to entry) other can is = is
not_lost s (place_child a p c done page to rights) other can is = is
not_lost s (pass_page a p c done page) other can is = is
not_lost s (end_fork a p c done) other can is = is
not_lost s (fail_fork a p c done step ends) other can is = is
not_lost s (put_child a p c done page entry ends) other can is = is
not_lost s (fail_unborn a p c) other can is = is
not_lost s (map_pages a p page n rights) other can is = is
not_lost s (lower_entry a p page f) other can is = is
not_lost s (protect_pages a p page n rights) other can is = is
not_lost s (drop_entry a p page was) other can is = is
not_lost s (discard_entry a p page was) other can is = is
not_lost s (add_table a p page table) other can is = added_somewhere s p table (on_path (lacks (tree_in s p) page) page) other is
not_lost s (take_out a p page table) other can is = removed_somewhere s p page table can.1 other is
not_lost s (reclaim a p) other can is = reclaimed_somewhere s p other is
not_lost s (load a p page word f value) other can is = is
not_lost s (store a p page word f value) other can is = is
not_lost s (move_out a h index slot f value) other can is = is
not_lost s (move_in a h index slot f value) other can is = is
not_lost s (empty_mirror a m) other can is = is
not_lost s (fill_mirror a m p page f writable) other can is = is
not_lost s (look a m word f value) other can is = is
not_lost s (enter_walk a p write long) other can is = is
not_lost s (read_sequence a p write long sequence) other can is = is
not_lost s (read_link a p write long sequence page path next) other can is = is
not_lost s (read_entry a p write long sequence page path was) other can is = is
not_lost s (grab_frame a p write long sequence page path entry) other can is = is
not_lost s (miss_frame a p write long sequence page path entry) other can is = is
not_lost s (recheck_above a p write long sequence page path entry same) other can is = is
not_lost s (recheck_same a p write long sequence page path entry) other can is = is
not_lost s (recheck_other a p write long sequence page path entry) other can is = is
not_lost s (read_mark a p write long sequence page entry mark) other can is = is
not_lost s (read_again a p write long sequence step now) other can is = is
not_lost s (drop_grab a p write long sequence f) other can is = is
not_lost s (drop_last a p write long sequence left last) other can is = is
not_lost s (drop_first a p write long sequence first left) other can is = is
not_lost s (leave_walk a p write long sequence) other can is = is

-- from the start on, where each is free
pub first_free : (movable normal tables : ℕ) (needs_tables : Bool) (is_born : ℕ → Bool) (table : ℕ) → table < tables → IsSomewhere (core_start movable normal tables needs_tables is_born) table
first_free movable normal tables needs_tables is_born table small = inl (grind (arith, nat_tests))

pub not_lost_run : (s : CoreState) (es : List CoreEvent) (table : ℕ) → AllCan s es → IsSomewhere s table → IsSomewhere (run s es) table
not_lost_run s [] table can is = is
not_lost_run s (e ∷ es) table can is = not_lost_run (happens s e) es table can.1 (not_lost s e table can.0 is)
