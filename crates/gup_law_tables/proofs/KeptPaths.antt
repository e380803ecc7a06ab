-- A page with an entry that lacks no table lacks none after whatever event.
use Rattle.std.proofs.Common.{◌≡◌, ◌≢◌, ℕ, ◌<◌, ◌==◌, true, false, [], ◌∷◌, ◌++◌, Some, None, refl, ⊎_elim, arith}
use Rattle.std.proofs.lemmas.Bool.{cases_eq}
use Rattle.std.proofs.lemmas.Bool.Decides.{nat_tests}
use Rattle.gup_base.specs.declared.entry.Entry.{Entry}
use Rattle.gup_plain.specs.Event.{page_numbers}
use Rattle.gup_plain.specs.Put.{put, put2}
use Rattle.gup_spec_tables.specs.Tables.{on_path, lacks, detachable}
use Rattle.gup_spec_events.specs.State.{CoreState}
use Rattle.gup_spec_events.specs.Event.{CoreEvent, Can, happens, tree_in, take_frame, fill, count_one, set_mark, upgrade, break_entry, put_entry, raise_flag, pin_page, make_handle, unpin_page, give_handle, take_handle, get_reference, put_reference, clear_entry, count_moved, place_frame, restore_entry, begin_fork, count_page, share_entry, share_mark, share_child, copy_word, place_child, pass_page, end_fork, fail_fork, put_child, fail_unborn, map_pages, lower_entry, protect_pages, drop_entry, discard_entry, add_table, take_out, reclaim, load, store, move_out, move_in, empty_mirror, fill_mirror, look, enter_walk, read_sequence, read_link, read_entry, grab_frame, miss_frame, recheck_above, recheck_same, recheck_other, read_mark, read_again, drop_grab, drop_last, drop_first, leave_walk}
use Rattle.gup_law_tables.specs.Standing.{TablesStand}
use Rattle.gup_law_tables.proofs.Owners.{unplaced}
use Rattle.gup_law_tables.proofs.Entries.{full_added, full_removed}

pub added_full : (s : CoreState) (p on table : ℕ) → TablesStand s → on < page_numbers → s.free_table table ≡ true → 0 < lacks (tree_in s p) on → (q page : ℕ) → lacks (tree_in s q) page ≡ 0 → lacks (tree_in (record s { place = put2 p table (Some (on_path (lacks (tree_in s p) on) on)) s.place; free_table = put table false s.free_table }) q) page ≡ 0
added_full s p on table stand within free some q page full =
    ⊎_elim
    (λ (here : q ≡ p).
    let own : (p == p) ≡ true = grind (arith, nat_tests) in
    let new = unplaced s.free_table s.place s.retired stand (tree_in s p) p on table refl free within some p in
    rw (here, own) (full_added (tree_in s p) (stand.trees p) on table within new (stand.free_small table free) some page 0 0 (rw here at full)))
    (λ (away : q ≢ p). let test : (q == p) ≡ false = grind (arith, nat_tests) in rw test full)
    (cases_eq q p)

pub removed_full : (s : CoreState) (p on table : ℕ) → TablesStand s → detachable (tree_in s p) on ≡ Some table → (q page : ℕ) (e : Entry) → s.entry q page ≡ Some e → lacks (tree_in s q) page ≡ 0 → lacks (tree_in (record s { place = put2 p table None s.place; retired = put p (s.retired p ++ table ∷ []) s.retired }) q) page ≡ 0
removed_full s p on table stand out q page e mapped full =
    ⊎_elim
    (λ (here : q ≡ p).
    let own : (p == p) ≡ true = grind (arith, nat_tests) in
    rw (here, own) (full_removed (tree_in s p) (stand.trees p) on table out page e (rw here at full) (rw here at mapped) 0 0))
    (λ (away : q ≢ p). let test : (q == p) ≡ false = grind (arith, nat_tests) in rw test full)
    (cases_eq q p)

pub entries_kept : (s : CoreState) (e : CoreEvent) (q page : ℕ) (entry : Entry) → TablesStand s → Can s e → s.entry q page ≡ Some entry → lacks (tree_in s q) page ≡ 0 → lacks (tree_in (happens s e) q) page ≡ 0
entries_kept s (take_frame a f) q page e stand can mapped full = full
entries_kept s (fill a p on f) q page e stand can mapped full = full
entries_kept s (count_one a p on f writable) q page e stand can mapped full = full
entries_kept s (set_mark a p on f) q page e stand can mapped full = full
entries_kept s (upgrade a p on f) q page e stand can mapped full = full
entries_kept s (break_entry a p on old new was writable) q page e stand can mapped full = full
entries_kept s (put_entry a f) q page e stand can mapped full = full
entries_kept s (raise_flag a p) q page e stand can mapped full = full
entries_kept s (pin_page a p on was write long) q page e stand can mapped full = full
entries_kept s (make_handle a h) q page e stand can mapped full = full
entries_kept s (unpin_page a h f left) q page e stand can mapped full = full
entries_kept s (give_handle a h to) q page e stand can mapped full = full
entries_kept s (take_handle a h) q page e stand can mapped full = full
entries_kept s (get_reference a p on f k writable) q page e stand can mapped full = full
entries_kept s (put_reference a f k) q page e stand can mapped full = full
entries_kept s (clear_entry a p on was allowed) q page e stand can mapped full = full
entries_kept s (count_moved a p on was allowed count) q page e stand can mapped full = full
entries_kept s (place_frame a p on f was allowed) q page e stand can mapped full = full
entries_kept s (restore_entry a p on was allowed count) q page e stand can mapped full = full
entries_kept s (begin_fork a p c) q page e stand can mapped full = full
entries_kept s (count_page a p c done on was copies) q page e stand can mapped full = full
entries_kept s (share_entry a p c done on f writable) q page e stand can mapped full = full
entries_kept s (share_mark a p c done on f writable) q page e stand can mapped full = full
entries_kept s (share_child a p c done on f writable) q page e stand can mapped full = full
entries_kept s (copy_word a p c done on word to was) q page e stand can mapped full = full
entries_kept s (place_child a p c done on to rights) q page e stand can mapped full = full
entries_kept s (pass_page a p c done on) q page e stand can mapped full = full
entries_kept s (end_fork a p c done) q page e stand can mapped full = full
entries_kept s (fail_fork a p c done step ends) q page e stand can mapped full = full
entries_kept s (put_child a p c done on was ends) q page e stand can mapped full = full
entries_kept s (fail_unborn a p c) q page e stand can mapped full = full
entries_kept s (map_pages a p on n rights) q page e stand can mapped full = full
entries_kept s (lower_entry a p on f) q page e stand can mapped full = full
entries_kept s (protect_pages a p on n rights) q page e stand can mapped full = full
entries_kept s (drop_entry a p on was) q page e stand can mapped full = full
entries_kept s (discard_entry a p on was) q page e stand can mapped full = full
entries_kept s (add_table a p on table) q page e stand can mapped full = added_full s p on table stand can.2 can.3 can.4 q page full
entries_kept s (take_out a p on table) q page e stand can mapped full = removed_full s p on table stand can.1 q page e mapped full
entries_kept s (reclaim a p) q page e stand can mapped full = full
entries_kept s (load a p on word f value) q page e stand can mapped full = full
entries_kept s (store a p on word f value) q page e stand can mapped full = full
entries_kept s (move_out a h index slot f value) q page e stand can mapped full = full
entries_kept s (move_in a h index slot f value) q page e stand can mapped full = full
entries_kept s (empty_mirror a m) q page e stand can mapped full = full
entries_kept s (fill_mirror a m p on f writable) q page e stand can mapped full = full
entries_kept s (look a m word f value) q page e stand can mapped full = full
entries_kept s (enter_walk a p write long) q page e stand can mapped full = full
entries_kept s (read_sequence a p write long sequence) q page e stand can mapped full = full
entries_kept s (read_link a p write long sequence on path next) q page e stand can mapped full = full
entries_kept s (read_entry a p write long sequence on path was) q page e stand can mapped full = full
entries_kept s (grab_frame a p write long sequence on path was) q page e stand can mapped full = full
entries_kept s (miss_frame a p write long sequence on path was) q page e stand can mapped full = full
entries_kept s (recheck_above a p write long sequence on path was same) q page e stand can mapped full = full
entries_kept s (recheck_same a p write long sequence on path was) q page e stand can mapped full = full
entries_kept s (recheck_other a p write long sequence on path was) q page e stand can mapped full = full
entries_kept s (read_mark a p write long sequence on was mark) q page e stand can mapped full = full
entries_kept s (read_again a p write long sequence step now) q page e stand can mapped full = full
entries_kept s (drop_grab a p write long sequence f) q page e stand can mapped full = full
entries_kept s (drop_last a p write long sequence left last) q page e stand can mapped full = full
entries_kept s (drop_first a p write long sequence first left) q page e stand can mapped full = full
entries_kept s (leave_walk a p write long sequence) q page e stand can mapped full = full
