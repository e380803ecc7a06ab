-- Of mirrors only their slots are kept: what is filled in them changes nothing else, and so does emptying them before a turn.
use Rattle.std.proofs.Common.{◌≡◌, ℕ, ◌+◌, Bool, true, false, List, [], ◌∷◌, ◌++◌, Option, refl, sym, ap, ◌∙◌, subst, zero, suc, if◌then◌else◌}
use Rattle.gup_spec_events.specs.State.{CoreState}
use Rattle.gup_spec_events.specs.Event.{CoreEvent, happens, run, take_frame, fill, count_one, set_mark, upgrade, break_entry, put_entry, raise_flag, pin_page, make_handle, unpin_page, give_handle, take_handle, get_reference, put_reference, clear_entry, count_moved, place_frame, restore_entry, begin_fork, count_page, share_entry, share_mark, share_child, copy_word, place_child, pass_page, end_fork, fail_fork, put_child, fail_unborn, map_pages, lower_entry, protect_pages, drop_entry, discard_entry, add_table, take_out, reclaim, load, store, move_out, move_in, empty_mirror, fill_mirror, look, enter_walk, read_sequence, read_link, read_entry, grab_frame, miss_frame, recheck_above, recheck_same, recheck_other, read_mark, read_again, drop_grab, drop_last, drop_first, leave_walk}
use Rattle.gup_spec_turns.specs.CoreTurn.{CoreTurn}
use Rattle.gup_spec_turns.specs.Emptying.{empties, is_stale, emptying}
use Rattle.gup_script.specs.Limits.{most_mirrors}
use Rattle.gup_spec_events.proofs.Runs.{run_behind}

-- the state with these slots filled, and no others
abbrev pub mirroring : (ℕ → Option ℕ) → CoreState → CoreState
mirroring filled s = record s { mirrored = filled }

-- the state is the other one, but for the slots that are filled
abbrev pub IsButFor : (s t : CoreState) → Type 0
IsButFor s t = t ≡ mirroring t.mirrored s

happens_unseen : (filled : ℕ → Option ℕ) (s : CoreState) (e : CoreEvent) → IsButFor (happens s e) (happens (mirroring filled s) e)
happens_unseen filled s (take_frame a f) = refl
happens_unseen filled s (fill a p page f) = refl
happens_unseen filled s (count_one a p page f writable) = refl
happens_unseen filled s (set_mark a p page f) = refl
happens_unseen filled s (upgrade a p page f) = refl
happens_unseen filled s (break_entry a p page old new was writable) = refl
happens_unseen filled s (put_entry a f) = refl
happens_unseen filled s (raise_flag a p) = refl
happens_unseen filled s (pin_page a p page entry write long) = refl
happens_unseen filled s (make_handle a h) = refl
happens_unseen filled s (unpin_page a h f left) = refl
happens_unseen filled s (give_handle a h to) = refl
happens_unseen filled s (take_handle a h) = refl
happens_unseen filled s (get_reference a p page f k writable) = refl
happens_unseen filled s (put_reference a f k) = refl
happens_unseen filled s (clear_entry a p page entry allowed) = refl
happens_unseen filled s (count_moved a p page entry allowed count) = refl
happens_unseen filled s (place_frame a p page f entry allowed) = refl
happens_unseen filled s (restore_entry a p page entry allowed count) = refl
happens_unseen filled s (begin_fork a p c) = refl
happens_unseen filled s (count_page a p c done page entry copies) = refl
happens_unseen filled s (share_entry a p c done page f writable) = refl
happens_unseen filled s (share_mark a p c done page f writable) = refl
happens_unseen filled s (share_child a p c done page f writable) = refl
happens_unseen filled s (copy_word a p c done page word to entry) = refl
happens_unseen filled s (place_child a p c done page to rights) = refl
happens_unseen filled s (pass_page a p c done page) = refl
happens_unseen filled s (end_fork a p c done) = refl
happens_unseen filled s (fail_fork a p c done step ends) = refl
happens_unseen filled s (put_child a p c done page entry ends) = refl
happens_unseen filled s (fail_unborn a p c) = refl
happens_unseen filled s (map_pages a p page n rights) = refl
happens_unseen filled s (lower_entry a p page f) = refl
happens_unseen filled s (protect_pages a p page n rights) = refl
happens_unseen filled s (drop_entry a p page was) = refl
happens_unseen filled s (discard_entry a p page was) = refl
happens_unseen filled s (add_table a p page table) = refl
happens_unseen filled s (take_out a p page table) = refl
happens_unseen filled s (reclaim a p) = refl
happens_unseen filled s (load a p page word f value) = refl
happens_unseen filled s (store a p page word f value) = refl
happens_unseen filled s (move_out a h index slot f value) = refl
happens_unseen filled s (move_in a h index slot f value) = refl
happens_unseen filled s (empty_mirror a m) = refl
happens_unseen filled s (fill_mirror a m p page f writable) = refl
happens_unseen filled s (look a m word f value) = refl
happens_unseen filled s (enter_walk a p write long) = refl
happens_unseen filled s (read_sequence a p write long sequence) = refl
happens_unseen filled s (read_link a p write long sequence page path next) = refl
happens_unseen filled s (read_entry a p write long sequence page path was) = refl
happens_unseen filled s (grab_frame a p write long sequence page path entry) = refl
happens_unseen filled s (miss_frame a p write long sequence page path entry) = refl
happens_unseen filled s (recheck_above a p write long sequence page path entry same) = refl
happens_unseen filled s (recheck_same a p write long sequence page path entry) = refl
happens_unseen filled s (recheck_other a p write long sequence page path entry) = refl
happens_unseen filled s (read_mark a p write long sequence page entry mark) = refl
happens_unseen filled s (read_again a p write long sequence step now) = refl
happens_unseen filled s (drop_grab a p write long sequence f) = refl
happens_unseen filled s (drop_last a p write long sequence left last) = refl
happens_unseen filled s (drop_first a p write long sequence first left) = refl
happens_unseen filled s (leave_walk a p write long sequence) = refl

pub run_unseen : (filled : ℕ → Option ℕ) (s : CoreState) (es : List CoreEvent) → IsButFor (run s es) (run (mirroring filled s) es)
run_unseen filled s [] = refl
run_unseen filled s (e ∷ es) =
    let next = happens (mirroring filled s) e in
    let step : next ≡ mirroring next.mirrored (happens s e) = happens_unseen filled s e in
    subst (λ (t : CoreState). IsButFor (run (happens s e) es) (run t es)) (sym step) (run_unseen next.mirrored (happens s e) es)

-- the emptying of slots changes nothing else
pub empties_unseen : (s t : CoreState) (a : ℕ) (es : List CoreEvent) (m n : ℕ) → IsButFor s (run s (empties t a es m n))
empties_unseen s t a es m zero = refl
empties_unseen s t a es m (suc n) = go (is_stale es (t.mirrored m) (t.slot m)) (empties_unseen s t a es (m + 1) n) (empties_unseen (happens s (empty_mirror a m)) t a es (m + 1) n)
  where
    go : (stale : Bool) → IsButFor s (run s (empties t a es (m + 1) n)) → IsButFor (happens s (empty_mirror a m)) (run (happens s (empty_mirror a m)) (empties t a es (m + 1) n)) → IsButFor s (run s ((if stale then empty_mirror a m ∷ [] else []) ++ empties t a es (m + 1) n))
    go false left emptied = left
    go true left emptied = emptied

-- a turn that empties slots first leads to the same state as without that, but for the slots
pub emptying_unseen : (s : CoreState) (a : ℕ) (turn : CoreTurn) → IsButFor (run s turn.events) (run s (emptying s a turn).events)
emptying_unseen s a turn =
    let before : List CoreEvent = empties s a turn.events 0 most_mirrors in
    let t : CoreState = run s before in
    let at_front : t ≡ mirroring t.mirrored s = empties_unseen s s a turn.events 0 most_mirrors in
    subst (λ (u : CoreState). IsButFor (run s turn.events) u) (sym (run_behind s before turn.events))
    (subst (λ (u : CoreState). IsButFor (run s turn.events) (run u turn.events)) (sym at_front) (run_unseen t.mirrored s turn.events))

-- so whatever doesn't read them is the same
pub emptying_reads : {X : Type 0} (read_in : CoreState → X) → ((filled : ℕ → Option ℕ) (t : CoreState) → read_in (mirroring filled t) ≡ read_in t) → (s : CoreState) (a : ℕ) (turn : CoreTurn) → read_in (run s (emptying s a turn).events) ≡ read_in (run s turn.events)
emptying_reads read_in unseen s a turn =
    let t : CoreState = run s (emptying s a turn).events in
    ap read_in (emptying_unseen s a turn) ∙ unseen t.mirrored (run s turn.events)
