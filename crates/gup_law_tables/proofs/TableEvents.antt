-- What each event does to the page tables: but for those of tables, nothing.
use Rattle.std.proofs.Common.{◌≡◌, ◌≢◌, ℕ, true, [], refl, ap, ◌∙◌}
use Rattle.gup_spec_tables.specs.Tables.{on_path, lacks}
use Rattle.gup_spec_events.specs.State.{CoreState}
use Rattle.gup_spec_events.specs.Event.{CoreEvent, Can, happens, tree_in, take_frame, fill, count_one, set_mark, upgrade, break_entry, put_entry, raise_flag, pin_page, make_handle, unpin_page, give_handle, take_handle, get_reference, put_reference, clear_entry, count_moved, place_frame, restore_entry, begin_fork, count_page, share_entry, share_mark, share_child, copy_word, place_child, pass_page, end_fork, fail_fork, put_child, fail_unborn, map_pages, lower_entry, protect_pages, drop_entry, discard_entry, add_table, take_out, reclaim, load, store, move_out, move_in, empty_mirror, fill_mirror, look, enter_walk, read_sequence, read_link, read_entry, grab_frame, miss_frame, recheck_above, recheck_same, recheck_other, read_mark, read_again, drop_grab, drop_last, drop_first, leave_walk}
use Rattle.gup_tables.proofs.Places.{put_other}
use Rattle.gup_law_tables.specs.Standing.{TablesStand, has, has_table}
use Rattle.gup_law_tables.proofs.Owners.{added_owned, removed_owned, reclaimed_owned, grown_keeps, same_had}

-- they stand after it as they must
pub stay : (s : CoreState) (e : CoreEvent) → TablesStand s → Can s e → TablesStand (happens s e)
stay s (take_frame a f) stand can = stand
stay s (fill a p page f) stand can = stand
stay s (count_one a p page f writable) stand can = stand
stay s (set_mark a p page f) stand can = stand
stay s (upgrade a p page f) stand can = stand
stay s (break_entry a p page old new was writable) stand can = stand
stay s (put_entry a f) stand can = stand
stay s (raise_flag a p) stand can = stand
stay s (pin_page a p page entry write long) stand can = stand
stay s (make_handle a h) stand can = stand
stay s (unpin_page a h f left) stand can = stand
stay s (give_handle a h to) stand can = stand
stay s (take_handle a h) stand can = stand
stay s (get_reference a p page f k writable) stand can = stand
stay s (put_reference a f k) stand can = stand
stay s (clear_entry a p page entry allowed) stand can = stand
stay s (count_moved a p page entry allowed count) stand can = stand
stay s (place_frame a p page f entry allowed) stand can = stand
stay s (restore_entry a p page entry allowed count) stand can = stand
stay s (begin_fork a p c) stand can = stand
stay s (count_page a p c done page entry copies) stand can = stand
stay s (share_entry a p c done page f writable) stand can = stand
stay s (share_mark a p c done page f writable) stand can = stand
stay s (share_child a p c done page f writable) stand can = stand
stay s (copy_word a p c done page word to entry) stand can = stand
stay s (place_child a p c done page to rights) stand can = stand
stay s (pass_page a p c done page) stand can = stand
stay s (end_fork a p c done) stand can = stand
stay s (fail_fork a p c done step ends) stand can = stand
stay s (put_child a p c done page entry ends) stand can = stand
stay s (fail_unborn a p c) stand can = stand
stay s (map_pages a p page n rights) stand can = stand
stay s (lower_entry a p page f) stand can = stand
stay s (protect_pages a p page n rights) stand can = stand
stay s (drop_entry a p page was) stand can = stand
stay s (discard_entry a p page was) stand can = stand
stay s (add_table a p page table) stand can = added_owned s.free_table s.place s.retired stand (tree_in s p) p page table refl can.3 can.2 can.4
stay s (take_out a p page table) stand can = removed_owned s.free_table s.place s.retired stand (tree_in s p) p page table refl can.1
stay s (reclaim a p) stand can = reclaimed_owned s.free_table s.place s.retired stand p
stay s (load a p page word f value) stand can = stand
stay s (store a p page word f value) stand can = stand
stay s (move_out a h index slot f value) stand can = stand
stay s (move_in a h index slot f value) stand can = stand
stay s (empty_mirror a m) stand can = stand
stay s (fill_mirror a m p page f writable) stand can = stand
stay s (look a m word f value) stand can = stand
stay s (enter_walk a p write long) stand can = stand
stay s (read_sequence a p write long sequence) stand can = stand
stay s (read_link a p write long sequence page path next) stand can = stand
stay s (read_entry a p write long sequence page path was) stand can = stand
stay s (grab_frame a p write long sequence page path entry) stand can = stand
stay s (miss_frame a p write long sequence page path entry) stand can = stand
stay s (recheck_above a p write long sequence page path entry same) stand can = stand
stay s (recheck_same a p write long sequence page path entry) stand can = stand
stay s (recheck_other a p write long sequence page path entry) stand can = stand
stay s (read_mark a p write long sequence page entry mark) stand can = stand
stay s (read_again a p write long sequence step now) stand can = stand
stay s (drop_grab a p write long sequence f) stand can = stand
stay s (drop_last a p write long sequence left last) stand can = stand
stay s (drop_first a p write long sequence first left) stand can = stand
stay s (leave_walk a p write long sequence) stand can = stand

-- a process in which a walk runs keeps its tables
pub tables_kept : (s : CoreState) (e : CoreEvent) (q other : ℕ) → Can s e → (s.walks q ≡ 0 → ⊥) → has_table s q other ≡ true → has_table (happens s e) q other ≡ true
tables_kept s (take_frame a f) q other can walked had = had
tables_kept s (fill a p page f) q other can walked had = had
tables_kept s (count_one a p page f writable) q other can walked had = had
tables_kept s (set_mark a p page f) q other can walked had = had
tables_kept s (upgrade a p page f) q other can walked had = had
tables_kept s (break_entry a p page old new was writable) q other can walked had = had
tables_kept s (put_entry a f) q other can walked had = had
tables_kept s (raise_flag a p) q other can walked had = had
tables_kept s (pin_page a p page entry write long) q other can walked had = had
tables_kept s (make_handle a h) q other can walked had = had
tables_kept s (unpin_page a h f left) q other can walked had = had
tables_kept s (give_handle a h to) q other can walked had = had
tables_kept s (take_handle a h) q other can walked had = had
tables_kept s (get_reference a p page f k writable) q other can walked had = had
tables_kept s (put_reference a f k) q other can walked had = had
tables_kept s (clear_entry a p page entry allowed) q other can walked had = had
tables_kept s (count_moved a p page entry allowed count) q other can walked had = had
tables_kept s (place_frame a p page f entry allowed) q other can walked had = had
tables_kept s (restore_entry a p page entry allowed count) q other can walked had = had
tables_kept s (begin_fork a p c) q other can walked had = had
tables_kept s (count_page a p c done page entry copies) q other can walked had = had
tables_kept s (share_entry a p c done page f writable) q other can walked had = had
tables_kept s (share_mark a p c done page f writable) q other can walked had = had
tables_kept s (share_child a p c done page f writable) q other can walked had = had
tables_kept s (copy_word a p c done page word to entry) q other can walked had = had
tables_kept s (place_child a p c done page to rights) q other can walked had = had
tables_kept s (pass_page a p c done page) q other can walked had = had
tables_kept s (end_fork a p c done) q other can walked had = had
tables_kept s (fail_fork a p c done step ends) q other can walked had = had
tables_kept s (put_child a p c done page entry ends) q other can walked had = had
tables_kept s (fail_unborn a p c) q other can walked had = had
tables_kept s (map_pages a p page n rights) q other can walked had = had
tables_kept s (lower_entry a p page f) q other can walked had = had
tables_kept s (protect_pages a p page n rights) q other can walked had = had
tables_kept s (drop_entry a p page was) q other can walked had = had
tables_kept s (discard_entry a p page was) q other can walked had = had
tables_kept s (add_table a p page table) q other can walked had = grown_keeps s.place s.retired p table (on_path (lacks (tree_in s p) page) page) q other had
tables_kept s (take_out a p page table) q other can walked had = same_had s.place s.retired (tree_in s p) p page table refl can.1 q other ∙ had
tables_kept s (reclaim a p) q other can walked had =
    let away : q ≢ p = λ here. walked (ap s.walks here ∙ can.1) in
    ap (λ list. has (s.place q) list other) (put_other p [] s.retired q away) ∙ had
tables_kept s (load a p page word f value) q other can walked had = had
tables_kept s (store a p page word f value) q other can walked had = had
tables_kept s (move_out a h index slot f value) q other can walked had = had
tables_kept s (move_in a h index slot f value) q other can walked had = had
tables_kept s (empty_mirror a m) q other can walked had = had
tables_kept s (fill_mirror a m p page f writable) q other can walked had = had
tables_kept s (look a m word f value) q other can walked had = had
tables_kept s (enter_walk a p write long) q other can walked had = had
tables_kept s (read_sequence a p write long sequence) q other can walked had = had
tables_kept s (read_link a p write long sequence page path next) q other can walked had = had
tables_kept s (read_entry a p write long sequence page path was) q other can walked had = had
tables_kept s (grab_frame a p write long sequence page path entry) q other can walked had = had
tables_kept s (miss_frame a p write long sequence page path entry) q other can walked had = had
tables_kept s (recheck_above a p write long sequence page path entry same) q other can walked had = had
tables_kept s (recheck_same a p write long sequence page path entry) q other can walked had = had
tables_kept s (recheck_other a p write long sequence page path entry) q other can walked had = had
tables_kept s (read_mark a p write long sequence page entry mark) q other can walked had = had
tables_kept s (read_again a p write long sequence step now) q other can walked had = had
tables_kept s (drop_grab a p write long sequence f) q other can walked had = had
tables_kept s (drop_last a p write long sequence left last) q other can walked had = had
tables_kept s (drop_first a p write long sequence first left) q other can walked had = had
tables_kept s (leave_walk a p write long sequence) q other can walked had = had
