-- A run that can happen is within the limits.
use Rattle.std.proofs.Common.{true, false, List, [], ◌∷◌, arith}
use Rattle.std.specs.Prelude.{Some, All}
use Rattle.std.proofs.lemmas.List.Elements.{All-nil, All-cons}
use Rattle.gup_base.specs.declared.entry.Allowed.TheVariants.{Any, Only}
use Rattle.gup_base.specs.declared.entry.Rights.TheVariants.{RW}
use Rattle.gup_base.specs.declared.entry.Zone.TheVariants.{Normal}
use Rattle.gup_spec_events.specs.State.{more, between, ready, stopped}
use Rattle.gup_spec_events.specs.Event.{CoreEvent, entry_of}
use Rattle.gup_law_events.specs.Possible.{taken_page, one_run}
use Rattle.gup_law_bounds.specs.Limits.{IsWithin}
use Rattle.gup_law_bounds.proofs.WithinLimits.{within-take_frame, within-fill, within-count_one, within-set_mark, within-upgrade, within-break_entry, within-put_entry, within-raise_flag, within-pin_page, within-make_handle, within-unpin_page, within-give_handle, within-take_handle, within-get_reference, within-put_reference, within-clear_entry, within-count_moved, within-place_frame, within-restore_entry, within-begin_fork, within-count_page, within-share_entry, within-share_mark, within-share_child, within-copy_word, within-pass_page, within-end_fork, within-fail_fork, within-put_child, within-fail_unborn, within-map_pages, within-lower_entry, within-protect_pages, within-drop_entry, within-discard_entry, within-add_table, within-take_out, within-reclaim, within-load, within-store, within-move_out, within-move_in, within-empty_mirror, within-fill_mirror, within-look, within-enter_walk, within-read_sequence, within-read_link, within-read_entry, within-grab_frame, within-miss_frame, within-recheck_above, within-recheck_same, within-recheck_other, within-read_mark, within-read_again, within-drop_grab, within-drop_last, within-drop_first, within-leave_walk}

abbrev EachWithin : List CoreEvent → Type 0
EachWithin [] = Unit {0}
EachWithin (e ∷ es) = IsWithin e × EachWithin es

all_within : (es : List CoreEvent) → EachWithin es → All IsWithin es
all_within [] each = All-nil IsWithin
all_within (e ∷ es) each = All-cons IsWithin e es each.0 (all_within es each.1)

-- the first event, and then the others
◌and_then◌ : {P Q : Type 0} → P → Q → P × Q
◌and_then◌ now rest = (now, rest)

infixr 5 ◌and_then◌
each_within : EachWithin one_run
each_within =
    within-map_pages 0 0 7 1 RW
    and_then within-add_table 0 0 7 0
    and_then within-add_table 0 0 7 1
    and_then within-add_table 0 0 7 2
    and_then within-add_table 0 0 7 3
    and_then within-take_frame 0 3 (omega arith)
    and_then within-fill 0 0 7 3 (omega arith) (omega arith)
    and_then within-upgrade 0 0 7 3 (omega arith)
    and_then within-store 0 0 7 5 3 9
    and_then within-load 0 0 7 5 3 9
    and_then within-fill_mirror 2 0 0 7 3 true
    and_then within-look 2 0 5 3 9
    and_then within-empty_mirror 2 0
    and_then within-raise_flag 0 0
    and_then within-pin_page 0 0 7 (entry_of 3 true) true true (omega arith)
    and_then within-make_handle 0 0 (omega arith) (omega arith)
    and_then within-move_in 0 0 5 4 3 0
    and_then within-move_out 0 0 5 4 3 0
    and_then within-give_handle 0 0 2
    and_then within-take_handle 2 0
    and_then within-unpin_page 2 0 3 [] (omega arith)
    and_then within-enter_walk 0 0 true true (omega arith)
    and_then within-read_sequence 0 0 true true 0 (omega arith)
    and_then within-read_link 0 0 true true 0 7 [] (Some 1) (omega arith)
    and_then within-read_link 0 0 true true 0 7 (1 ∷ []) (Some 2) (omega arith)
    and_then within-read_link 0 0 true true 0 7 (2 ∷ 1 ∷ []) (Some 3) (omega arith)
    and_then within-read_entry 0 0 true true 0 7 (3 ∷ 2 ∷ 1 ∷ []) (Some (entry_of 3 true)) (omega arith)
    and_then within-grab_frame 0 0 true true 0 7 (3 ∷ 2 ∷ 1 ∷ []) (entry_of 3 true) (omega arith)
    and_then within-recheck_above 0 0 true true 0 7 (3 ∷ 2 ∷ 1 ∷ []) (entry_of 3 true) true (omega arith)
    and_then within-recheck_same 0 0 true true 0 7 (3 ∷ 2 ∷ 1 ∷ []) (entry_of 3 true) (omega arith)
    and_then within-read_mark 0 0 true true 0 7 (entry_of 3 true) true (omega arith)
    and_then within-read_again 0 0 true true 0 ready 0 (omega arith)
    and_then within-leave_walk 0 0 true true 0 (omega arith)
    and_then within-make_handle 0 2 (omega arith) (omega arith)
    and_then within-unpin_page 0 2 3 [] (omega arith)
    and_then within-enter_walk 4 0 true false (omega arith)
    and_then within-read_sequence 4 0 true false 0 (omega arith)
    and_then within-read_link 4 0 true false 0 7 [] (Some 1) (omega arith)
    and_then within-read_link 4 0 true false 0 7 (1 ∷ []) (Some 2) (omega arith)
    and_then within-read_link 4 0 true false 0 7 (2 ∷ 1 ∷ []) (Some 3) (omega arith)
    and_then within-read_entry 4 0 true false 0 7 (3 ∷ 2 ∷ 1 ∷ []) (Some (entry_of 3 true)) (omega arith)
    and_then within-miss_frame 4 0 true false 0 7 (3 ∷ 2 ∷ 1 ∷ []) (entry_of 3 true) (omega arith)
    and_then within-read_again 4 0 true false 0 stopped 0 (omega arith)
    and_then within-leave_walk 4 0 true false 0 (omega arith)
    and_then within-enter_walk 4 0 true false (omega arith)
    and_then within-read_sequence 4 0 true false 0 (omega arith)
    and_then within-enter_walk 5 0 true false (omega arith)
    and_then within-read_sequence 5 0 true false 0 (omega arith)
    and_then within-enter_walk 6 0 false false (omega arith)
    and_then within-read_sequence 6 0 false false 0 (omega arith)
    and_then within-begin_fork 0 0 1 (omega arith) (omega arith)
    and_then within-count_page 0 0 1 [] 7 (entry_of 3 true) false (omega arith)
    and_then within-read_link 4 0 true false 0 7 [] (Some 1) (omega arith)
    and_then within-read_link 4 0 true false 0 7 (1 ∷ []) (Some 2) (omega arith)
    and_then within-read_link 4 0 true false 0 7 (2 ∷ 1 ∷ []) (Some 3) (omega arith)
    and_then within-read_entry 4 0 true false 0 7 (3 ∷ 2 ∷ 1 ∷ []) (Some (entry_of 3 true)) (omega arith)
    and_then within-grab_frame 4 0 true false 0 7 (3 ∷ 2 ∷ 1 ∷ []) (entry_of 3 true) (omega arith)
    and_then within-recheck_above 4 0 true false 0 7 (3 ∷ 2 ∷ 1 ∷ []) (entry_of 3 true) true (omega arith)
    and_then within-recheck_same 4 0 true false 0 7 (3 ∷ 2 ∷ 1 ∷ []) (entry_of 3 true) (omega arith)
    and_then within-read_mark 4 0 true false 0 7 (entry_of 3 true) true (omega arith)
    and_then within-read_again 4 0 true false 0 ready 1 (omega arith)
    and_then within-drop_first 4 0 true false 0 (taken_page true) [] (omega arith)
    and_then within-leave_walk 4 0 true false 0 (omega arith)
    and_then within-read_link 5 0 true false 0 7 [] (Some 1) (omega arith)
    and_then within-read_link 5 0 true false 0 7 (1 ∷ []) (Some 2) (omega arith)
    and_then within-read_link 5 0 true false 0 7 (2 ∷ 1 ∷ []) (Some 3) (omega arith)
    and_then within-read_entry 5 0 true false 0 7 (3 ∷ 2 ∷ 1 ∷ []) (Some (entry_of 3 true)) (omega arith)
    and_then within-grab_frame 5 0 true false 0 7 (3 ∷ 2 ∷ 1 ∷ []) (entry_of 3 true) (omega arith)
    and_then within-share_entry 0 0 1 [] 7 3 true (omega arith) (omega arith)
    and_then within-recheck_above 5 0 true false 0 7 (3 ∷ 2 ∷ 1 ∷ []) (entry_of 3 true) true (omega arith)
    and_then within-recheck_other 5 0 true false 0 7 (3 ∷ 2 ∷ 1 ∷ []) (entry_of 3 true) (omega arith)
    and_then within-drop_grab 5 0 true false 0 3 (omega arith)
    and_then within-read_again 5 0 true false 0 stopped 1 (omega arith)
    and_then within-leave_walk 5 0 true false 0 (omega arith)
    and_then within-share_mark 0 0 1 [] 7 3 false (omega arith)
    and_then within-read_link 6 0 false false 0 7 [] (Some 1) (omega arith)
    and_then within-read_link 6 0 false false 0 7 (1 ∷ []) (Some 2) (omega arith)
    and_then within-read_link 6 0 false false 0 7 (2 ∷ 1 ∷ []) (Some 3) (omega arith)
    and_then within-read_entry 6 0 false false 0 7 (3 ∷ 2 ∷ 1 ∷ []) (Some (entry_of 3 false)) (omega arith)
    and_then within-grab_frame 6 0 false false 0 7 (3 ∷ 2 ∷ 1 ∷ []) (entry_of 3 false) (omega arith)
    and_then within-recheck_above 6 0 false false 0 7 (3 ∷ 2 ∷ 1 ∷ []) (entry_of 3 false) true (omega arith)
    and_then within-recheck_same 6 0 false false 0 7 (3 ∷ 2 ∷ 1 ∷ []) (entry_of 3 false) (omega arith)
    and_then within-read_mark 6 0 false false 0 7 (entry_of 3 false) false (omega arith)
    and_then within-drop_last 6 0 false false 0 [] (taken_page false) (omega arith)
    and_then within-read_again 6 0 false false 0 stopped 1 (omega arith)
    and_then within-leave_walk 6 0 false false 0 (omega arith)
    and_then within-add_table 0 1 7 4
    and_then within-add_table 0 1 7 5
    and_then within-add_table 0 1 7 6
    and_then within-add_table 0 1 7 7
    and_then within-share_child 0 0 1 [] 7 3 false (omega arith) (omega arith)
    and_then within-end_fork 0 0 1 (7 ∷ []) (omega arith) (omega arith)
    and_then within-take_frame 0 4 (omega arith)
    and_then within-break_entry 0 0 7 3 4 false true (omega arith) (omega arith)
    and_then within-put_entry 0 3 (omega arith)
    and_then within-count_one 1 1 7 3 false (omega arith)
    and_then within-set_mark 1 1 7 3 (omega arith)
    and_then within-clear_entry 3 1 7 (entry_of 3 false) (Only Normal) (omega arith) (omega arith)
    and_then within-count_moved 3 1 7 (entry_of 3 false) (Only Normal) 1 (omega arith)
    and_then within-take_frame 3 5 (omega arith)
    and_then within-place_frame 3 1 7 5 (entry_of 3 false) (Only Normal) (omega arith) (omega arith)
    and_then within-put_entry 3 3 (omega arith)
    and_then within-get_reference 1 1 7 5 0 false (omega arith)
    and_then within-clear_entry 3 1 7 (entry_of 5 false) Any (omega arith) (omega arith)
    and_then within-count_moved 3 1 7 (entry_of 5 false) Any 2 (omega arith)
    and_then within-restore_entry 3 1 7 (entry_of 5 false) Any (more 2) (omega arith) (omega arith)
    and_then within-put_reference 1 5 0 (omega arith)
    and_then within-lower_entry 0 0 7 4 (omega arith)
    and_then within-protect_pages 0 0 7 1 RW
    and_then within-drop_entry 0 0 7 (Some (entry_of 4 false)) (omega arith) (omega arith)
    and_then within-put_entry 0 4 (omega arith)
    and_then within-discard_entry 1 1 7 (Some (entry_of 5 false)) (omega arith) (omega arith)
    and_then within-put_entry 1 5 (omega arith)
    and_then within-begin_fork 1 1 2 (omega arith) (omega arith)
    and_then within-pass_page 1 1 2 [] 7 (omega arith)
    and_then within-fail_fork 1 1 2 (7 ∷ []) between true (omega arith) (omega arith)
    and_then within-fail_unborn 3 2 3 (omega arith)
    and_then within-take_frame 1 6 (omega arith)
    and_then within-fill 1 1 7 6 (omega arith) (omega arith)
    and_then within-begin_fork 1 1 4 (omega arith) (omega arith)
    and_then within-count_page 1 1 4 [] 7 (entry_of 6 false) false (omega arith)
    and_then within-share_entry 1 1 4 [] 7 6 false (omega arith) (omega arith)
    and_then within-share_mark 1 1 4 [] 7 6 false (omega arith)
    and_then within-add_table 1 4 7 8
    and_then within-add_table 1 4 7 9
    and_then within-add_table 1 4 7 10
    and_then within-add_table 1 4 7 11
    and_then within-share_child 1 1 4 [] 7 6 false (omega arith) (omega arith)
    and_then within-fail_fork 1 1 4 (7 ∷ []) between false (omega arith) (omega arith)
    and_then within-put_child 1 1 4 (7 ∷ []) 7 (entry_of 6 false) true (omega arith) (omega arith)
    and_then within-count_one 1 1 7 6 false (omega arith)
    and_then within-set_mark 1 1 7 6 (omega arith)
    and_then within-raise_flag 1 1
    and_then within-pin_page 1 1 7 (entry_of 6 false) false false (omega arith)
    and_then within-make_handle 1 1 (omega arith) (omega arith)
    and_then within-begin_fork 1 1 5 (omega arith) (omega arith)
    and_then within-count_page 1 1 5 [] 7 (entry_of 6 false) true (omega arith)
    and_then within-take_frame 1 7 (omega arith)
    and_then within-copy_word 1 1 5 [] 7 0 7 (entry_of 6 false) (omega arith)
    and_then within-take_out 0 0 7 3
    and_then within-reclaim 0 0
    and_then tt

pub one_run_within : All IsWithin one_run
one_run_within = all_within one_run each_within
