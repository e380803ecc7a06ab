-- A run that shows that the laws speak of something, where a page needs its tables: pages are mapped, get their tables, are
-- written, mirrored, pinned, shared, copied, moved and given back, forks end and fail, walks pin a page, miss it, and drop it,
-- disturbed by a fork, and a table is taken out and comes free.
use Rattle.std.specs.Prelude.{ℕ, ◌+◌, ◌==◌, Bool, true, false, List, [], ◌∷◌, ◌++◌, Some}
use Rattle.gup_base.specs.declared.entry.Allowed.TheVariants.{Any, Only}
use Rattle.gup_base.specs.declared.entry.Rights.TheVariants.{RW}
use Rattle.gup_base.specs.declared.entry.Zone.TheVariants.{Normal}
use Rattle.gup_spec_events.specs.State.{Taken, more, between, ready, stopped}
use Rattle.gup_spec_events.specs.Event.{CoreEvent, entry_of, map_pages, take_frame, fill, upgrade, store, load, fill_mirror, look, empty_mirror, raise_flag, pin_page, make_handle, move_in, move_out, give_handle, take_handle, unpin_page, begin_fork, count_page, share_entry, share_mark, share_child, end_fork, break_entry, put_entry, count_one, set_mark, clear_entry, count_moved, place_frame, get_reference, restore_entry, put_reference, lower_entry, protect_pages, drop_entry, discard_entry, add_table, take_out, reclaim, pass_page, fail_fork, fail_unborn, put_child, copy_word, enter_walk, read_sequence, read_link, read_entry, grab_frame, miss_frame, recheck_above, recheck_same, recheck_other, read_mark, read_again, drop_grab, drop_last, drop_first, leave_walk}

abbrev pub first_born : ℕ → Bool
first_born p = p == 0

-- what a walk of process 0 takes
abbrev pub taken_page : Bool → Taken
taken_page write = record { proc = 0; page = 7; frame = 3; object = 0; write = write; long = false }

-- process 0 maps a page
abbrev pub maps_one : List CoreEvent
maps_one = map_pages 0 0 7 1 RW ∷ []

-- page 7 of a process gets its four tables
abbrev pub adds_four : (a p first : ℕ) → List CoreEvent
adds_four a p first = add_table a p 7 first ∷ add_table a p 7 (first + 1) ∷ add_table a p 7 (first + 2) ∷ add_table a p 7 (first + 3) ∷ []

-- It is filled, pinned and walked, and a fork into process 1 lowers its entry. A walk reads down from table 0, the root, by 1 and 2
-- to 3, the last one.
abbrev pub pins_one : List CoreEvent
pins_one =
    take_frame 0 3
    ∷ fill 0 0 7 3
    ∷ upgrade 0 0 7 3
    ∷ store 0 0 7 5 3 9
    ∷ load 0 0 7 5 3 9
    ∷ fill_mirror 2 0 0 7 3 true
    ∷ look 2 0 5 3 9
    ∷ empty_mirror 2 0
    ∷ raise_flag 0 0
    ∷ pin_page 0 0 7 (entry_of 3 true) true true
    ∷ make_handle 0 0
    ∷ move_in 0 0 5 4 3 0
    ∷ move_out 0 0 5 4 3 0
    ∷ give_handle 0 0 2
    ∷ take_handle 2 0
    ∷ unpin_page 2 0 3 []
    ∷ enter_walk 0 0 true true
    ∷ read_sequence 0 0 true true 0
    ∷ read_link 0 0 true true 0 7 [] (Some 1)
    ∷ read_link 0 0 true true 0 7 (1 ∷ []) (Some 2)
    ∷ read_link 0 0 true true 0 7 (2 ∷ 1 ∷ []) (Some 3)
    ∷ read_entry 0 0 true true 0 7 (3 ∷ 2 ∷ 1 ∷ []) (Some (entry_of 3 true))
    ∷ grab_frame 0 0 true true 0 7 (3 ∷ 2 ∷ 1 ∷ []) (entry_of 3 true)
    ∷ recheck_above 0 0 true true 0 7 (3 ∷ 2 ∷ 1 ∷ []) (entry_of 3 true) true
    ∷ recheck_same 0 0 true true 0 7 (3 ∷ 2 ∷ 1 ∷ []) (entry_of 3 true)
    ∷ read_mark 0 0 true true 0 7 (entry_of 3 true) true
    ∷ read_again 0 0 true true 0 ready 0
    ∷ leave_walk 0 0 true true 0
    ∷ make_handle 0 2
    ∷ unpin_page 0 2 3 []
    ∷ enter_walk 4 0 true false
    ∷ read_sequence 4 0 true false 0
    ∷ read_link 4 0 true false 0 7 [] (Some 1)
    ∷ read_link 4 0 true false 0 7 (1 ∷ []) (Some 2)
    ∷ read_link 4 0 true false 0 7 (2 ∷ 1 ∷ []) (Some 3)
    ∷ read_entry 4 0 true false 0 7 (3 ∷ 2 ∷ 1 ∷ []) (Some (entry_of 3 true))
    ∷ miss_frame 4 0 true false 0 7 (3 ∷ 2 ∷ 1 ∷ []) (entry_of 3 true)
    ∷ read_again 4 0 true false 0 stopped 0
    ∷ leave_walk 4 0 true false 0
    ∷ enter_walk 4 0 true false
    ∷ read_sequence 4 0 true false 0
    ∷ enter_walk 5 0 true false
    ∷ read_sequence 5 0 true false 0
    ∷ enter_walk 6 0 false false
    ∷ read_sequence 6 0 false false 0
    ∷ begin_fork 0 0 1
    ∷ count_page 0 0 1 [] 7 (entry_of 3 true) false
    ∷ read_link 4 0 true false 0 7 [] (Some 1)
    ∷ read_link 4 0 true false 0 7 (1 ∷ []) (Some 2)
    ∷ read_link 4 0 true false 0 7 (2 ∷ 1 ∷ []) (Some 3)
    ∷ read_entry 4 0 true false 0 7 (3 ∷ 2 ∷ 1 ∷ []) (Some (entry_of 3 true))
    ∷ grab_frame 4 0 true false 0 7 (3 ∷ 2 ∷ 1 ∷ []) (entry_of 3 true)
    ∷ recheck_above 4 0 true false 0 7 (3 ∷ 2 ∷ 1 ∷ []) (entry_of 3 true) true
    ∷ recheck_same 4 0 true false 0 7 (3 ∷ 2 ∷ 1 ∷ []) (entry_of 3 true)
    ∷ read_mark 4 0 true false 0 7 (entry_of 3 true) true
    ∷ read_again 4 0 true false 0 ready 1
    ∷ drop_first 4 0 true false 0 (taken_page true) []
    ∷ leave_walk 4 0 true false 0
    ∷ read_link 5 0 true false 0 7 [] (Some 1)
    ∷ read_link 5 0 true false 0 7 (1 ∷ []) (Some 2)
    ∷ read_link 5 0 true false 0 7 (2 ∷ 1 ∷ []) (Some 3)
    ∷ read_entry 5 0 true false 0 7 (3 ∷ 2 ∷ 1 ∷ []) (Some (entry_of 3 true))
    ∷ grab_frame 5 0 true false 0 7 (3 ∷ 2 ∷ 1 ∷ []) (entry_of 3 true)
    ∷ share_entry 0 0 1 [] 7 3 true
    ∷ recheck_above 5 0 true false 0 7 (3 ∷ 2 ∷ 1 ∷ []) (entry_of 3 true) true
    ∷ recheck_other 5 0 true false 0 7 (3 ∷ 2 ∷ 1 ∷ []) (entry_of 3 true)
    ∷ drop_grab 5 0 true false 0 3
    ∷ read_again 5 0 true false 0 stopped 1
    ∷ leave_walk 5 0 true false 0
    ∷ share_mark 0 0 1 [] 7 3 false
    ∷ read_link 6 0 false false 0 7 [] (Some 1)
    ∷ read_link 6 0 false false 0 7 (1 ∷ []) (Some 2)
    ∷ read_link 6 0 false false 0 7 (2 ∷ 1 ∷ []) (Some 3)
    ∷ read_entry 6 0 false false 0 7 (3 ∷ 2 ∷ 1 ∷ []) (Some (entry_of 3 false))
    ∷ grab_frame 6 0 false false 0 7 (3 ∷ 2 ∷ 1 ∷ []) (entry_of 3 false)
    ∷ recheck_above 6 0 false false 0 7 (3 ∷ 2 ∷ 1 ∷ []) (entry_of 3 false) true
    ∷ recheck_same 6 0 false false 0 7 (3 ∷ 2 ∷ 1 ∷ []) (entry_of 3 false)
    ∷ read_mark 6 0 false false 0 7 (entry_of 3 false) false
    ∷ drop_last 6 0 false false 0 [] (taken_page false)
    ∷ read_again 6 0 false false 0 stopped 1
    ∷ leave_walk 6 0 false false 0
    ∷ []

-- the child shares it and has its frame moved, and forks into process 4
abbrev pub shares_one : List CoreEvent
shares_one =
    share_child 0 0 1 [] 7 3 false
    ∷ end_fork 0 0 1 (7 ∷ [])
    ∷ take_frame 0 4
    ∷ break_entry 0 0 7 3 4 false true
    ∷ put_entry 0 3
    ∷ count_one 1 1 7 3 false
    ∷ set_mark 1 1 7 3
    ∷ clear_entry 3 1 7 (entry_of 3 false) (Only Normal)
    ∷ count_moved 3 1 7 (entry_of 3 false) (Only Normal) 1
    ∷ take_frame 3 5
    ∷ place_frame 3 1 7 5 (entry_of 3 false) (Only Normal)
    ∷ put_entry 3 3
    ∷ get_reference 1 1 7 5 0 false
    ∷ clear_entry 3 1 7 (entry_of 5 false) Any
    ∷ count_moved 3 1 7 (entry_of 5 false) Any 2
    ∷ restore_entry 3 1 7 (entry_of 5 false) Any (more 2)
    ∷ put_reference 1 5 0
    ∷ lower_entry 0 0 7 4
    ∷ protect_pages 0 0 7 1 RW
    ∷ drop_entry 0 0 7 (Some (entry_of 4 false))
    ∷ put_entry 0 4
    ∷ discard_entry 1 1 7 (Some (entry_of 5 false))
    ∷ put_entry 1 5
    ∷ begin_fork 1 1 2
    ∷ pass_page 1 1 2 [] 7
    ∷ fail_fork 1 1 2 (7 ∷ []) between true
    ∷ fail_unborn 3 2 3
    ∷ take_frame 1 6
    ∷ fill 1 1 7 6
    ∷ begin_fork 1 1 4
    ∷ count_page 1 1 4 [] 7 (entry_of 6 false) false
    ∷ share_entry 1 1 4 [] 7 6 false
    ∷ share_mark 1 1 4 [] 7 6 false
    ∷ []

-- that fork fails, a last one copies a word, and of process 0, which has no page left, a table is taken out
abbrev pub fails_one : List CoreEvent
fails_one =
    share_child 1 1 4 [] 7 6 false
    ∷ fail_fork 1 1 4 (7 ∷ []) between false
    ∷ put_child 1 1 4 (7 ∷ []) 7 (entry_of 6 false) true
    ∷ count_one 1 1 7 6 false
    ∷ set_mark 1 1 7 6
    ∷ raise_flag 1 1
    ∷ pin_page 1 1 7 (entry_of 6 false) false false
    ∷ make_handle 1 1
    ∷ begin_fork 1 1 5
    ∷ count_page 1 1 5 [] 7 (entry_of 6 false) true
    ∷ take_frame 1 7
    ∷ copy_word 1 1 5 [] 7 0 7 (entry_of 6 false)
    ∷ take_out 0 0 7 3
    ∷ reclaim 0 0
    ∷ []

-- of process 0 with the children 1 to 5, over 2 movable and 8 normal frames and 12 tables
abbrev pub one_run : List CoreEvent
one_run = maps_one ++ (adds_four 0 0 0 ++ (pins_one ++ (adds_four 0 1 4 ++ (shares_one ++ (adds_four 1 4 8 ++ fails_one)))))
