-- The start is sound: nothing is mapped, and no frame has a reference.
use Rattle.std.proofs.Common.{◌≡◌, ℕ, Bool, true, false, [], refl, arith}
use Rattle.std.specs.Prelude.{Option, Some, None, if◌then◌else◌}
use Rattle.gup_plain.specs.State.{born, unborn, growing}
use Rattle.gup_spec_events.specs.State.{core_start}
use Rattle.gup_spec_events.specs.Invariant.{Holder, entry_of_page, cleared_by, prepared_by, owed_by, got_as, page_of_pin, page_taken, grabbed_by}
use Rattle.gup_law_base.specs.Sound.{View, held, held_by_walk, Tally, IsSound}
use Rattle.gup_law_base.proofs.Holders.{no_element}

abbrev nothing : View
nothing = record { whole = λ _ _. None; names = λ _ _. None; marks = λ _. None; moves = λ _. None; forks = λ _. None; walks = λ _. None; references = λ _. 0; grabs = λ _. 0 }

none_held : (x : Holder) (f : ℕ) → held (λ _ _. None) (λ _. None) (λ _. None) (λ _. None) (λ _. None) (λ _. []) (λ _. []) x ≡ Some f → ⊥
unfolding held
none_held (entry_of_page p page) f is = absurd (cc)
none_held (cleared_by a) f is = absurd (cc)
none_held (prepared_by a) f is = absurd (cc)
none_held (owed_by a) f is = absurd (cc)
none_held (got_as k) f is = absurd (cc)
none_held (page_of_pin h k) f is = absurd (cc)
none_held (page_taken a k) f is = absurd (cc)
none_held (grabbed_by a) f is = absurd (cc)

none_walks : (x : Holder) (f : ℕ) → held_by_walk (λ _. None) x ≡ Some f → ⊥
unfolding held_by_walk
none_walks (grabbed_by a) f is = absurd (cc)
none_walks (entry_of_page p page) f is = absurd (cc)
none_walks (cleared_by a) f is = absurd (cc)
none_walks (prepared_by a) f is = absurd (cc)
none_walks (owed_by a) f is = absurd (cc)
none_walks (got_as k) f is = absurd (cc)
none_walks (page_of_pin h k) f is = absurd (cc)
none_walks (page_taken a k) f is = absurd (cc)

-- nobody holds anything
none_counted : (holds : Holder → Option ℕ) → ((x : Holder) (f : ℕ) → holds x ≡ Some f → ⊥) → Tally (λ _. 0) holds
none_counted holds none f = ([], tt, (λ x. (λ is. absurd (none x f is), λ has. absurd (no_element x has))), refl)

-- a process is born or unborn
not_growing : (b : Bool) (p : ℕ) → (if b then born else unborn) ≡ growing p → ⊥
not_growing true p is = absurd (cc)
not_growing false p is = absurd (cc)

pub sound_start : (movable normal tables : ℕ) (needs_tables : Bool) (is_born : ℕ → Bool) → IsSound (core_start movable normal tables needs_tables is_born)
sound_start movable normal tables needs_tables is_born = (
  nothing,
  record {
    references = none_counted (held (λ _ _. None) (λ _. None) (λ _. None) (λ _. None) (λ _. None) (λ _. []) (λ _. [])) none_held;
    grabs = none_counted (held_by_walk (λ _. None)) none_walks;
    count_is = λ f. refl;
    walks_number = λ p. ([], tt, (λ a. (λ is. absurd (cc), λ has. absurd (no_element a has))), refl);
    marks_are = λ a. refl;
    moves_are = λ a. refl;
    forks_are = λ a. refl;
    walks_are = λ a. refl;
    whole_entry = λ q i d. grind arith;
    whole_moved = λ b m. grind arith;
    whole_free = λ q i d. grind arith;
    whole_kept = λ q i b d. grind arith;
    whole_other = λ q i b d m. grind arith;
    moved_gone = λ b m. grind arith;
    right_names = λ q i r. grind arith;
    whole_names = λ q i d. grind arith;
    names_object = λ q i o. grind arith;
    marks_table = λ b m. grind arith;
    moves_table = λ b m. grind arith;
    forks_table = λ b i fork. grind arith;
    forks_structure = λ b fork. grind arith;
    table_held = λ q b. grind arith;
    structure_held = λ q b. grind arith;
    table_born = λ q b. grind arith;
    fork_parent = λ b fork. grind arith;
    fork_birth = λ b fork. grind arith;
    fork_alone = λ b d k l. grind arith;
    flag_born = λ q. grind arith;
    fork_odd = λ b fork. grind arith;
    quiet_even = λ q free. refl;
    own_alone = λ u i o. grind arith;
    own_made = λ u o. grind arith;
    own_names = λ q i o d. grind arith;
    own_entry = λ u q i o. grind arith;
    own_words = λ u o w. grind arith;
    own_marked = λ q i o d. grind arith;
    own_marking = λ q i o b d. grind arith;
    marked_own = λ q i d. grind arith;
    entry_mapped = λ q i d. grind arith;
    entry_marked = λ q i d. grind arith;
    entry_allowed = λ q i d. grind arith;
    entry_words = λ q i w d r. grind arith;
    untouched = λ q i w r. grind arith;
    names_alone = λ q i x j o. grind arith;
    names_made = λ q i o. grind arith;
    right_numbered = λ q i r. grind arith;
    handle_marked = λ j n u. grind arith;
    handle_own = λ j n u. grind arith;
    handle_flag = λ j n u o q i. grind arith;
    handle_normal = λ j n u. grind arith;
    taken_marked = λ b n t. grind arith;
    taken_own = λ b n t. grind arith;
    taken_made = λ b n t. grind arith;
    taken_flag = λ b n t. grind arith;
    taken_names = λ b n q i t. grind arith;
    taken_normal = λ b n t. grind arith;
    taken_write = λ b n t. grind arith;
    taken_long = λ b n t. grind arith;
    taken_apart = λ b n o t y. grind arith;
    walk_flag = λ b w. grind arith;
    walk_empty = λ b n w t. grind arith;
    walk_even = λ b w. grind arith;
    walk_below = λ b w. grind arith;
    walk_proc = λ b n w t. grind arith;
    walk_write = λ b n w t. grind arith;
    walk_long = λ b n w t. grind arith;
    walk_untaken = λ b n i w t. grind arith;
    walk_writes = λ b w d. grind arith;
    walk_normal = λ b w d. grind arith;
    walk_own = λ b n o w t. grind arith;
    walk_unowned = λ b n w t. grind arith;
    walk_kept = λ b n w t. grind arith;
    walk_last = λ b n w t d. grind arith;
    walk_writable = λ b n w t d. grind arith;
    prepared_once = λ b u. grind arith;
    prepared_unmarked = λ b u. grind arith;
    prepared_unowned = λ b u. grind arith;
    prepared_zero = λ b u w. grind arith;
    marking_entry = λ b m. grind arith;
    marking_own = λ b m. grind arith;
    moving_once = λ b m. grind arith;
    fork_fresh = λ b i fork. grind arith;
    fork_copied = λ b i w fork. grind arith;
    fork_uncopied = λ b i w fork. grind arith;
    fork_undone = λ b i fork. grind arith;
    fork_mapped = λ b i fork. grind arith;
    fork_left = λ b fork is. absurd (cc);
    copy_there = λ b i n fork. grind arith;
    copy_words = λ b i n w u fork. grind arith;
    share_handle = λ b i j n fork d. grind arith;
    share_taken = λ b i y n fork d t. grind arith;
    share_lowered = λ b i fork d. grind arith;
    share_unowned = λ b i fork d. grind arith;
    mirror_noted = λ m u. grind arith;
    mirror_born = λ m u noted. grind arith;
    mirror_entry = λ m u noted. grind arith;
    mirror_names = λ m u noted. grind arith;
    growing_locked = λ x q is. absurd (not_growing (is_born x) q is);
    growing_forked = λ x q b is. absurd (not_growing (is_born x) q is);
    growing_rights = λ x q i is. absurd (not_growing (is_born x) q is);
    handle_pages = λ j. omega arith;
    unborn_unmapped = λ q i is. refl;
    failed_unmapped = λ q i is. refl;
  },
)
