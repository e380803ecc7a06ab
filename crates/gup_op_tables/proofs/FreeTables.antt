-- The turn of an operation by itself leaves all page tables: only growth takes one, and only what shrinks gives some back.
use Rattle.std.proofs.Common.{◌==◌, ◌&&◌, ◌||◌, ◌≡◌, ℕ, ◌+◌, ◌++◌, Bool, true, false, List, [], ◌∷◌, length, nat_lt, if◌then◌else◌, Option, Some, None, Ok, Err, zero, suc, refl, ap, ◌∙◌}
use Rattle.gup_base.specs.Parts.{words_of, word_at}
use Rattle.gup_base.specs.declared.entry.Allowed.{Allowed}
use Rattle.gup_base.specs.declared.entry.Allowed.TheVariants.{Only, Any}
use Rattle.gup_base.specs.declared.entry.Entry.{Entry}
use Rattle.gup_base.specs.declared.entry.Rights.{Rights}
use Rattle.gup_base.specs.declared.entry.Rights.TheVariants.{R, RW}
use Rattle.gup_base.specs.declared.entry.Want.{Want}
use Rattle.gup_base.specs.declared.entry.Zone.{Zone}
use Rattle.gup_plain.specs.Denial.{any_mapped, any_unmapped, map_denial, protect_denial, is_held_by, transfer_denial}
use Rattle.gup_plain.specs.Event.{page_numbers, words}
use Rattle.gup_plain.specs.State.{Birth, failed}
use Rattle.gup_plain.specs.declared.answer.Answer.{Answer}
use Rattle.gup_plain.specs.declared.answer.Answer.TheVariants as answers
use Rattle.gup_script.specs.declared.op.Op.{Op}
use Rattle.gup_script.specs.declared.op.Op.TheVariants.{Map, Unmap, Protect, Discard, Load, Store, Pin, Unpin, Give, Get, Put, Transfer, Fork, Exit, Move, Mirror, Look}
use Rattle.gup_spec_events.specs.State.{CoreState, Job, forking, ForkStep, between, copying, idle, moving, Counted, unread, one, more, walking, Taken, WalkStep, entered, ready, read, grabbed, refused, stopped, dropping, counted}
use Rattle.gup_spec_events.specs.Event.{CoreEvent, entry_of, take_frame, put_entry, place_frame, restore_entry, clear_entry, pin_page, make_handle, upgrade, load, store, get_reference, fill_mirror, lower_entry, protect_pages, drop_entry, run, has_tables, is_odd, read_sequence, read_link, read_again, fail_fork, tree_in}
use Rattle.gup_spec_tables.specs.declared.place.Place.{Place}
use Rattle.gup_spec_tables.specs.Tables.{TreeValue}
use Rattle.gup_spec_tables.specs.Paths.{link_at, entry_at, leads_still}
use Rattle.gup_spec_events.specs.Descent.{led_on, reads_on}
use Rattle.gup_spec_events.specs.Failure.{are_gone, puts_entry, puts_entries}
use Rattle.gup_spec_events.specs.Fault.{Fault, events_of, fills, fills_writable, breaks, marks, read_fault, unshares, unshare_fault, makes_writable, write_fault, gives_back}
use Rattle.gup_spec_events.proofs.Runs.{run_behind}
use Rattle.gup_spec_journal.specs.Denial.{has_reference}
use Rattle.gup_spec_journal.specs.Place.{Doer, birth_for}
use Rattle.gup_spec_turns.specs.Turn.{op_turn, failed_turn, turn_at, own_turn}
use Rattle.gup_spec_turns.specs.PageTurns.{load_fault, lowers_entry, lowers, lowers_for, exit_turn_by, lowest_page}
use Rattle.gup_spec_turns.specs.PinTurns.{pin_fault, ends_pin, pin_turn_by, got_by, got_frame, raises, moves_first, pins_behind, clears_or_pins, pins_moved, moved_turn, pin_turn_in, begins_or_pins}
use Rattle.gup_spec_turns.specs.WalkTurns.{leaves_if, is_none_left, all_turn, again_turn, ready_turn, grab_turn, is_same, recheck_turn, split_last, last_turn, first_turn, walk_turn}
use Rattle.gup_spec_turns.specs.MoveTurns.{place_turn, counted_turn, move_turn}
use Rattle.gup_spec_turns.specs.ForkTurns.{page_turn, next_page, next_turn, failed_at, share_turn, frame_turn, copy_turn, copying_turn, fork_step_turn, fork_turn}
use Rattle.gup_spec_turns.specs.MirrorTurns.{fills as fills_slot, look_turn}
use Rattle.gup_spec_turns.specs.CoreTurn.{free_in, frame_for, entry_in, zones_of, after_fault, allows_store}
use Rattle.gup_spec_turns.proofs.TurnParts.{loads_after, stores_after, store_fault_by, map_turn_by, unmap_turn_by, protect_turn_by, discard_turn_by, unpin_turn_by, give_turn_by, gets_after, put_turn_by, transfer_turn_by, clear_turn_by}
use Rattle.gup_spec_turns.proofs.Unseen.{emptying_reads}

-- which tables are free, where each stands, and which ones wait
pub record AllTables : Type 0 where
  pub free : ℕ → Bool
  pub place : ℕ → ℕ → Option Place
  pub retired : ℕ → List ℕ

abbrev pub all_tables : CoreState → AllTables
all_tables s = record { free = s.free_table; place = s.place; retired = s.retired }

-- these events leave all tables
abbrev Keeps : List CoreEvent → Type 0
Keeps es = (s : CoreState) → all_tables (run s es) ≡ all_tables s

keeps_both : (es fs : List CoreEvent) → Keeps es → Keeps fs → Keeps (es ++ fs)
keeps_both es fs first second s = ap all_tables (run_behind s es fs) ∙ second (run s es) ∙ first s

fault_if : (b : Bool) (x y : Fault) → Keeps (events_of x) → Keeps (events_of y) → Keeps (events_of (if b then x else y))
fault_if true x y first second = first
fault_if false x y first second = second

-- ---- faults

fill_keeps : (a p page : ℕ) (free : Option ℕ) → Keeps (events_of (fills a p page free))
fill_keeps a p page None = λ t. refl
fill_keeps a p page (Some f) = λ t. refl

fill_writable_keeps : (a p page : ℕ) (free : Option ℕ) → Keeps (events_of (fills_writable a p page free))
fill_writable_keeps a p page None = λ t. refl
fill_writable_keeps a p page (Some f) = λ t. refl

break_keeps : (a p page : ℕ) (e : Entry) (writable : Bool) (free : Option ℕ) → Keeps (events_of (breaks a p page e writable free))
break_keeps a p page e writable None = λ t. refl
break_keeps a p page e writable (Some f) = λ t. refl

unshares_keeps : (a p page : ℕ) (e : Entry) (mark : Bool) (count : ℕ) (free : Option ℕ) → Keeps (events_of (unshares a p page e mark count free))
unshares_keeps a p page e true count free = λ t. refl
unshares_keeps a p page e false count free =
    fault_if (count == 1) (Ok (marks a p page e)) (breaks a p page e false free) (λ t. refl) (break_keeps a p page e false free)

unshare_keeps : (a p page : ℕ) (right : Option Rights) (entry : Option Entry) (mark : ℕ → Bool) (count : ℕ → ℕ) (free : Option ℕ) → Keeps (events_of (unshare_fault a p page right entry mark count free))
unshare_keeps a p page None entry mark count free = λ t. refl
unshare_keeps a p page (Some rights) None mark count free = fill_keeps a p page free
unshare_keeps a p page (Some rights) (Some e) mark count free = unshares_keeps a p page e (mark e.frame) (count e.frame) free

makes_writable_keeps : (a p page : ℕ) (e : Entry) (mark : Bool) (count : ℕ) (free : Option ℕ) → Keeps (events_of (makes_writable a p page e mark count free))
makes_writable_keeps a p page e true count free = λ t. refl
makes_writable_keeps a p page e false count free =
    fault_if (count == 1) (Ok (marks a p page e ++ upgrade a p page e.frame ∷ [])) (breaks a p page e true free) (λ t. refl) (break_keeps a p page e true free)

write_keeps : (a p page : ℕ) (right : Option Rights) (entry : Option Entry) (mark : ℕ → Bool) (count : ℕ → ℕ) (free : Option ℕ) → Keeps (events_of (write_fault a p page right entry mark count free))
write_keeps a p page None entry mark count free = λ t. refl
write_keeps a p page (Some R) entry mark count free = λ t. refl
write_keeps a p page (Some RW) None mark count free = fill_writable_keeps a p page free
write_keeps a p page (Some RW) (Some e) mark count free =
    fault_if e.writable (Ok []) (makes_writable a p page e (mark e.frame) (count e.frame) free) (λ t. refl) (makes_writable_keeps a p page e (mark e.frame) (count e.frame) free)

read_keeps : (a p page : ℕ) (right : Option Rights) (free : Option ℕ) → Keeps (events_of (read_fault a p page right None free))
read_keeps a p page None free = λ t. refl
read_keeps a p page (Some rights) free = fill_keeps a p page free

load_fault_keeps : (s : CoreState) (a p page : ℕ) (entry : Option Entry) → Keeps (events_of (load_fault s a p page entry))
load_fault_keeps s a p page (Some e) = λ t. refl
load_fault_keeps s a p page None = read_keeps a p page (s.right p page) (frame_for s p page Any)

store_fault_keeps : (allowed : Bool) (s : CoreState) (a p page : ℕ) (entry : Option Entry) → Keeps (events_of (store_fault_by allowed s a p page entry))
store_fault_keeps true s a p page entry = λ t. refl
store_fault_keeps false s a p page entry = write_keeps a p page (s.right p page) entry s.mark s.count (frame_for s p page Any)

pin_fault_keeps : (s : CoreState) (a p page : ℕ) (write : Bool) (free : Option ℕ) → Keeps (events_of (pin_fault s a p page write free))
pin_fault_keeps s a p page true free = write_keeps a p page (s.right p page) (s.entry p page) s.mark s.count free
pin_fault_keeps s a p page false free = unshare_keeps a p page (s.right p page) (s.entry p page) s.mark s.count free

-- ---- pages

load_keeps : (s : CoreState) (fault : Fault) (a p page word : ℕ) → Keeps (events_of fault) → Keeps (loads_after s fault a p page word).events
load_keeps s (Err answer) a p page word keeps = λ t. refl
load_keeps s (Ok before) a p page word keeps = keeps_both before (load a p page word _ _ ∷ []) keeps (λ t. refl)

store_keeps : (s : CoreState) (fault : Fault) (a p page word value : ℕ) → Keeps (events_of fault) → Keeps (stores_after s fault a p page word value).events
store_keeps s (Err answer) a p page word value keeps = λ t. refl
store_keeps s (Ok before) a p page word value keeps = keeps_both before (store a p page word _ value ∷ []) keeps (λ t. refl)

map_keeps : (denied : Option Answer) (a p page n : ℕ) (rights : Rights) → Keeps (map_turn_by denied a p page n rights).events
map_keeps (Some denied) a p page n rights = λ t. refl
map_keeps None a p page n rights = λ t. refl

unmap_keeps : (rights : Option Rights) (a p page : ℕ) (entry : Option Entry) (last : Bool) → Keeps (unmap_turn_by rights a p page entry last).events
unmap_keeps None a p page entry last = λ t. refl
unmap_keeps (Some rights) a p page None last = λ t. refl
unmap_keeps (Some rights) a p page (Some e) last = λ t. refl

discard_keeps : (rights : Option Rights) (a p page : ℕ) (entry : Option Entry) (last : Bool) → Keeps (discard_turn_by rights a p page entry last).events
discard_keeps None a p page entry last = λ t. refl
discard_keeps (Some rights) a p page None last = λ t. refl
discard_keeps (Some rights) a p page (Some e) last = λ t. refl

lower_keeps : (a p page : ℕ) (entry : Option Entry) → Keeps (lowers_entry a p page entry)
lower_keeps a p page None = λ t. refl
lower_keeps a p page (Some e) = go e.writable
  where
    go : (writable : Bool) → Keeps (if writable then lower_entry a p page e.frame ∷ [] else [])
    go true = λ t. refl
    go false = λ t. refl

lowers_keeps : (entry : ℕ → Option Entry) (a p page n : ℕ) → Keeps (lowers entry a p page n)
lowers_keeps entry a p page zero = λ t. refl
lowers_keeps entry a p page (suc n) =
    keeps_both (lowers_entry a p page (entry page)) (lowers entry a p (page + 1) n) (lower_keeps a p page (entry page)) (lowers_keeps entry a p (page + 1) n)

lowers_for_keeps : (rights : Rights) (entry : ℕ → Option Entry) (a p page n : ℕ) → Keeps (lowers_for rights entry a p page n)
lowers_for_keeps R entry a p page n = lowers_keeps entry a p page n
lowers_for_keeps RW entry a p page n = λ t. refl

protect_keeps : (denied : Option Answer) (s : CoreState) (a p page n : ℕ) (rights : Rights) → Keeps (protect_turn_by denied s a p page n rights).events
protect_keeps (Some denied) s a p page n rights = λ t. refl
protect_keeps None s a p page n rights =
    keeps_both (lowers_for rights (s.entry p) a p page n) (protect_pages a p page n rights ∷ []) (lowers_for_keeps rights (s.entry p) a p page n) (λ t. refl)

gone_keeps : (a p page : ℕ) (entry : Option Entry) → Keeps (drop_entry a p page entry ∷ gives_back a entry)
gone_keeps a p page None = λ t. refl
gone_keeps a p page (Some e) = λ t. refl

exit_keeps : (s : CoreState) (a p : ℕ) (lowest : Option ℕ) → Keeps (exit_turn_by s a p lowest).events
exit_keeps s a p None = λ t. refl
exit_keeps s a p (Some page) = gone_keeps a p page (s.entry p page)

-- ---- pins and walks

raise_keeps : (a p got : ℕ) (fast : Bool) → Keeps (raises a p got fast)
raise_keeps a p zero false = λ t. refl
raise_keeps a p got fast = λ t. refl

ends_keeps : (before : List CoreEvent) (a handle n got : ℕ) (answer : Answer) → Keeps before → Keeps (ends_pin before a handle n got answer).events
ends_keeps before a handle n zero answer keeps = keeps
ends_keeps before a handle n (suc got) answer keeps = keeps_both before (make_handle a handle ∷ []) keeps (λ t. refl)

pinned_keeps : (last : Bool) (before : List CoreEvent) (a p handle page n : ℕ) (want : Want) (e : Entry) → Keeps before → Keeps (pins_behind before a p handle page n want last e).events
pinned_keeps true before a p handle page n want e keeps =
    keeps_both before (pin_page a p page e want.write want.long ∷ make_handle a handle ∷ []) keeps (λ t. refl)
pinned_keeps false before a p handle page n want e keeps =
    keeps_both before (pin_page a p page e want.write want.long ∷ []) keeps (λ t. refl)

clears_keeps : (moves last : Bool) (before : List CoreEvent) (a p handle page n : ℕ) (want : Want) (e : Entry) → Keeps before → Keeps (clears_or_pins moves before a p handle page n want last e).events
clears_keeps true last before a p handle page n want e keeps = keeps_both before (clear_entry a p page e (zones_of want) ∷ []) keeps (λ t. refl)
clears_keeps false last before a p handle page n want e keeps = pinned_keeps last before a p handle page n want e keeps

pin_keeps : (fault : Fault) (s : CoreState) (a p handle page n got : ℕ) (want : Want) (fast : Bool) → Keeps (events_of fault) → Keeps (pin_turn_by fault s a p handle page n got want fast).events
pin_keeps (Err answer) s a p handle page n got want fast keeps = ends_keeps (raises a p got fast) a handle n got answer (raise_keeps a p got fast)
pin_keeps (Ok before) s a p handle page n got want fast keeps =
    let es : List CoreEvent = raises a p got fast ++ before in
    let e : Entry = entry_in ((run s es).entry p page) in
    clears_keeps (moves_first (run s es) want e) (got + 1 == n) es a p handle page n want e (keeps_both (raises a p got fast) before (raise_keeps a p got fast) keeps)

placed_keeps : (a p handle page n got : ℕ) (want : Want) (e : Entry) (free : Option ℕ) → Keeps (pins_moved a p handle page n got want e free).events
placed_keeps a p handle page n got want e None =
    ends_keeps (restore_entry a p page e (zones_of want) one ∷ []) a handle n got answers.NoFrame (λ t. refl)
placed_keeps a p handle page n got want e (Some f) =
    pinned_keeps (got + 1 == n) (take_frame a f ∷ place_frame a p page f e (zones_of want) ∷ put_entry a e.frame ∷ []) a p handle page n want (entry_of f e.writable) (λ t. refl)

later_keeps : (s : CoreState) (a p handle page n got : ℕ) (want : Want) (e : Entry) (count : Counted) → Keeps (moved_turn s a p handle page n got want e count).events
later_keeps s a p handle page n got want e unread = λ t. refl
later_keeps s a p handle page n got want e one = placed_keeps a p handle page n got want e (free_in s (zones_of want))
later_keeps s a p handle page n got want e (more count) =
    ends_keeps (restore_entry a p page e (zones_of want) (more count) ∷ []) a handle n got (answers.Unmovable count) (λ t. refl)

begins_keeps : (begins : Bool) (s : CoreState) (a p handle page n got : ℕ) (want : Want) (fast : Bool) → Keeps (begins_or_pins begins s a p handle page n got want fast).events
begins_keeps true s a p handle page n got want fast = λ t. refl
begins_keeps false s a p handle page n got want fast =
    let free = frame_for s p (page + got) (zones_of want) in
    pin_keeps (pin_fault s a p (page + got) want.write free) s a p handle (page + got) n got want fast (pin_fault_keeps s a p (page + got) want.write free)

leave_keeps : (over : Bool) (a p : ℕ) (want : Want) (sequence : ℕ) → Keeps (leaves_if over a p want sequence)
leave_keeps true a p want sequence = λ t. refl
leave_keeps false a p want sequence = λ t. refl

all_keeps : (a p handle n : ℕ) (want : Want) (sequence now : ℕ) (same : Bool) → Keeps (all_turn a p handle n want sequence now same).events
all_keeps a p handle n want sequence now true = λ t. refl
all_keeps a p handle n want sequence now false = λ t. refl

reads_keep : (v : TreeValue) (a p : ℕ) (write long : Bool) (sequence page n : ℕ) (path : List ℕ) → Keeps (reads_on v a p write long sequence page n path)
reads_keep v a p write long sequence page zero path = λ t. refl
reads_keep v a p write long sequence page (suc n) path =
    keeps_both (read_link a p write long sequence page path (link_at v path page) ∷ []) (led_on (λ table. reads_on v a p write long sequence page n (table ∷ path)) (link_at v path page)) (λ t. refl)
    (go (link_at v path page) (λ table. reads_keep v a p write long sequence page n (table ∷ path)))
  where
    go : (o : Option ℕ) → ((table : ℕ) → Keeps (reads_on v a p write long sequence page n (table ∷ path))) → Keeps (led_on (λ table. reads_on v a p write long sequence page n (table ∷ path)) o)
    go None each = λ t. refl
    go (Some table) each = each table

ready_keeps : (s : CoreState) (a p handle page n : ℕ) (want : Want) (sequence : ℕ) (more : Bool) → Keeps (ready_turn s a p handle page n want sequence more).events
ready_keeps s a p handle page n want sequence true = reads_keep (tree_in s p) a p want.write want.long sequence page 3 []
ready_keeps s a p handle page n want sequence false = all_keeps a p handle n want sequence (s.sequence p) (s.sequence p == sequence)

grab_keeps : (a p : ℕ) (want : Want) (sequence page : ℕ) (path : List ℕ) (e : Entry) (count : ℕ) → Keeps (grab_turn a p want sequence page path e count).events
grab_keeps a p want sequence page path e zero = λ t. refl
grab_keeps a p want sequence page path e (suc count) = λ t. refl

recheck_keeps : (a p : ℕ) (want : Want) (sequence page : ℕ) (path : List ℕ) (e : Entry) (leads same : Bool) → Keeps (recheck_turn a p want sequence page path e leads same).events
recheck_keeps a p want sequence page path e true true = λ t. refl
recheck_keeps a p want sequence page path e true false = λ t. refl
recheck_keeps a p want sequence page path e false same = λ t. refl

again_keeps : (a p : ℕ) (want : Want) (sequence now : ℕ) (taken : List Taken) → Keeps (again_turn a p want sequence now taken).events
again_keeps a p want sequence now taken =
    let over = (now == sequence) || is_none_left taken in
    keeps_both (read_again a p want.write want.long sequence stopped now ∷ []) (leaves_if over a p want sequence) (λ t. refl) (leave_keeps over a p want sequence)

last_keeps : (a p : ℕ) (want : Want) (sequence : ℕ) (taken : Option (List Taken × Taken)) → Keeps (last_turn a p want sequence taken).events
last_keeps a p want sequence None = λ t. refl
last_keeps a p want sequence (Some (rest, last)) = λ t. refl

first_keeps : (a p : ℕ) (want : Want) (sequence : ℕ) (taken : List Taken) → Keeps (first_turn a p want sequence taken).events
first_keeps a p want sequence [] = λ t. refl
first_keeps a p want sequence (t ∷ []) = λ s. refl
first_keeps a p want sequence (t ∷ u ∷ rest) = λ s. refl

walk_keeps : (s : CoreState) (a p handle page n : ℕ) (want : Want) (sequence : ℕ) (step : WalkStep) → Keeps (walk_turn s a p handle page n want sequence step).events
walk_keeps s a p handle page n want sequence entered =
    let now = s.sequence p in
    keeps_both (read_sequence a p want.write want.long now ∷ []) (leaves_if (is_odd now) a p want now) (λ t. refl) (leave_keeps (is_odd now) a p want now)
walk_keeps s a p handle page n want sequence ready = ready_keeps s a p handle (page + length (s.taken a)) n want sequence (nat_lt (length (s.taken a)) n)
walk_keeps s a p handle page n want sequence (read g path e) = grab_keeps a p want sequence g path e (s.count e.frame)
walk_keeps s a p handle page n want sequence (grabbed g path e) =
    recheck_keeps a p want sequence g path e (leads_still (tree_in s p) path g) (is_same e (entry_at (tree_in s p) path g))
walk_keeps s a p handle page n want sequence refused = last_keeps a p want sequence (split_last (s.taken a))
walk_keeps s a p handle page n want sequence stopped = again_keeps a p want sequence (s.sequence p) (s.taken a)
walk_keeps s a p handle page n want sequence dropping = first_keeps a p want sequence (s.taken a)
walk_keeps s a p handle page n want sequence step = λ t. refl

pin_in_keeps : (s : CoreState) (a p handle page n got : ℕ) (want : Want) (fast : Bool) (far : ℕ) (job : Job) → Keeps (pin_turn_in s a p handle page n got want fast far job).events
pin_in_keeps s a p handle page n got want fast far (moving q g e allowed count) = later_keeps s a p handle (page + got) n got want e count
pin_in_keeps s a p handle page n got want fast far (walking q write long sequence step) = walk_keeps s a p handle page n want sequence step
pin_in_keeps s a p handle page n got want fast far job = begins_keeps (fast && far == 0) s a p handle page n got want fast

unpin_keeps : (held : Bool) (a handle : ℕ) (pinned : List ℕ) → Keeps (unpin_turn_by held a handle pinned).events
unpin_keeps false a handle pinned = λ t. refl
unpin_keeps true a handle pinned = λ t. refl

give_keeps : (held : Bool) (a handle to : ℕ) → Keeps (give_turn_by held a handle to).events
give_keeps false a handle to = λ t. refl
give_keeps true a handle to = λ t. refl

get_keeps : (s : CoreState) (fault : Fault) (a p handle page : ℕ) → Keeps (events_of fault) → Keeps (gets_after s fault a p handle page).events
get_keeps s (Err answer) a p handle page keeps = λ t. refl
get_keeps s (Ok before) a p handle page keeps = keeps_both before (get_reference a p page _ handle _ ∷ []) keeps (λ t. refl)

put_keeps : (held : Bool) (a handle f : ℕ) → Keeps (put_turn_by held a handle f).events
put_keeps false a handle f = λ t. refl
put_keeps true a handle f = λ t. refl

-- ---- devices and mirrors

transfer_keeps : (denied : Option Answer) (s : CoreState) (a handle : ℕ) (outward last : Bool) (index slot : ℕ) → Keeps (transfer_turn_by denied s a handle outward last index slot).events
transfer_keeps (Some denied) s a handle outward last index slot = λ t. refl
transfer_keeps None s a handle true last index slot = λ t. refl
transfer_keeps None s a handle false last index slot = λ t. refl

mirror_keeps : (s : CoreState) (fault : Fault) (a p mirror page : ℕ) → Keeps (events_of fault) → Keeps (after_fault fault (λ before. fills_slot s before a p mirror page)).events
mirror_keeps s (Err answer) a p mirror page keeps = λ t. refl
mirror_keeps s (Ok before) a p mirror page keeps = keeps_both before (fill_mirror a mirror p page _ _ ∷ []) keeps (λ t. refl)

look_keeps : (s : CoreState) (a mirror word : ℕ) (frame : Option ℕ) → Keeps (look_turn s a mirror word frame).events
look_keeps s a mirror word None = λ t. refl
look_keeps s a mirror word (Some f) = λ t. refl

-- ---- moves and forks

clear_keeps : (a p page : ℕ) (zone : Zone) (right : Option Rights) (entry : Option Entry) → Keeps (clear_turn_by right a p page zone entry).events
clear_keeps a p page zone None entry = λ t. refl
clear_keeps a p page zone (Some rights) None = λ t. refl
clear_keeps a p page zone (Some rights) (Some e) = λ t. refl

place_keeps : (a p page : ℕ) (e : Entry) (allowed : Allowed) (free : Option ℕ) → Keeps (place_turn a p page e allowed free).events
place_keeps a p page e allowed None = λ t. refl
place_keeps a p page e allowed (Some f) = λ t. refl

counted_keeps : (s : CoreState) (a p page : ℕ) (e : Entry) (allowed : Allowed) (count : Counted) → Keeps (counted_turn s a p page e allowed count).events
counted_keeps s a p page e allowed one = place_keeps a p page e allowed (free_in s allowed)
counted_keeps s a p page e allowed count = λ t. refl

move_keeps : (s : CoreState) (a p page : ℕ) (zone : Zone) (job : Job) → Keeps (move_turn s a p page zone job).events
move_keeps s a p page zone idle = clear_keeps a p page zone (s.right p page) (s.entry p page)
move_keeps s a p page zone (moving q g e allowed count) = counted_keeps s a p page e (Only zone) count
move_keeps s a p page zone job = λ t. refl

page_keeps : (s : CoreState) (a p c : ℕ) (done : List ℕ) (page : ℕ) (entry : Option Entry) → Keeps (page_turn s a p c done page entry).events
page_keeps s a p c done page None = λ t. refl
page_keeps s a p c done page (Some e) = λ t. refl

next_keeps : (s : CoreState) (a p c : ℕ) (done : List ℕ) (next : Option ℕ) → Keeps (next_turn s a p c done next).events
next_keeps s a p c done None = λ t. refl
next_keeps s a p c done (Some page) = page_keeps s a p c done page (s.entry p page)

put_child_keeps : (a p c : ℕ) (done : List ℕ) (page : ℕ) (entry : Option Entry) (ends : Bool) → Keeps (puts_entry a p c done page entry ends)
put_child_keeps a p c done page None ends = λ t. refl
put_child_keeps a p c done page (Some e) ends = λ t. refl

put_children_keeps : (a p c : ℕ) (done : List ℕ) (entry : ℕ → Option Entry) (first n : ℕ) → Keeps (puts_entries a p c done entry first n)
put_children_keeps a p c done entry first zero = λ t. refl
put_children_keeps a p c done entry first (suc n) =
    let ends = are_gone entry (first + 1) n in
    keeps_both (puts_entry a p c done first (entry first) ends) (puts_entries a p c done entry (first + 1) n) (put_child_keeps a p c done first (entry first) ends) (put_children_keeps a p c done entry (first + 1) n)

failed_keeps : (s : CoreState) (a p c : ℕ) (done : List ℕ) (step : ForkStep) → Keeps (failed_at s a p c done step).events
failed_keeps s a p c done step =
    keeps_both (fail_fork a p c done step (are_gone (s.entry c) 0 page_numbers) ∷ []) (puts_entries a p c done (s.entry c) 0 page_numbers) (λ t. refl) (put_children_keeps a p c done (s.entry c) 0 page_numbers)

share_keeps : (s : CoreState) (a p c : ℕ) (done : List ℕ) (page : ℕ) (entry : Option Entry) (may : Bool) → Keeps (share_turn s a p c done page entry may).events
share_keeps s a p c done page entry true = λ t. refl
share_keeps s a p c done page entry false = failed_keeps s a p c done (counted page)

frame_keeps : (s : CoreState) (a p c : ℕ) (done : List ℕ) (page word : ℕ) (free : Option ℕ) → Keeps (frame_turn s a p c done page word free).events
frame_keeps s a p c done page word None = failed_keeps s a p c done (copying page word)
frame_keeps s a p c done page word (Some f) = λ t. refl

copy_keeps : (s : CoreState) (a p c : ℕ) (done : List ℕ) (page word to : ℕ) (more : Bool) → Keeps (copy_turn s a p c done page word to more).events
copy_keeps s a p c done page word to true = λ t. refl
copy_keeps s a p c done page word to false = λ t. refl

copying_keeps : (s : CoreState) (a p c : ℕ) (done : List ℕ) (page word : ℕ) (prepared : Option ℕ) → Keeps (copying_turn s a p c done page word prepared).events
copying_keeps s a p c done page word None = frame_keeps s a p c done page word (frame_for s c page Any)
copying_keeps s a p c done page word (Some to) = copy_keeps s a p c done page word to (nat_lt word words)

step_keeps : (s : CoreState) (a p c : ℕ) (done : List ℕ) (step : ForkStep) → Keeps (fork_step_turn s a p c done step).events
step_keeps s a p c done between = next_keeps s a p c done (next_page (s.right c) done)
step_keeps s a p c done (counted page) = share_keeps s a p c done page (s.entry p page) (has_tables s c page)
step_keeps s a p c done (copying page word) = copying_keeps s a p c done page word (s.prepared a)
step_keeps s a p c done step = λ t. refl

fork_keeps : (s : CoreState) (a p c : ℕ) (job : Job) → Keeps (fork_turn s a p c job).events
fork_keeps s a p c (forking q d done step) = step_keeps s a p c done step
fork_keeps s a p c job = λ t. refl

-- ---- all

op_keeps : (s : CoreState) (a p slots far : ℕ) (op : Op) → Keeps (op_turn s a p slots far op).events
op_keeps s a p slots far (Map page n rights) = map_keeps (map_denial (any_mapped (s.right p) page n) (s.pages p) n) a p page n rights
op_keeps s a p slots far (Unmap page n) = unmap_keeps (s.right p (page + far)) a p (page + far) (s.entry p (page + far)) (far + 1 == n)
op_keeps s a p slots far (Protect page n rights) = protect_keeps (protect_denial (any_unmapped (s.right p) page n)) s a p page n rights
op_keeps s a p slots far (Discard page n) = discard_keeps (s.right p (page + far)) a p (page + far) (s.entry p (page + far)) (far + 1 == n)
op_keeps s a p slots far (Load page word) = load_keeps s (load_fault s a p page (s.entry p page)) a p page word (load_fault_keeps s a p page (s.entry p page))
op_keeps s a p slots far (Store page word value) =
    let allowed = allows_store (s.entry p page) in
    store_keeps s (store_fault_by allowed s a p page (s.entry p page)) a p page word value (store_fault_keeps allowed s a p page (s.entry p page))
op_keeps s a p slots far (Pin handle page n want fast) = pin_in_keeps s a p handle page n (length (s.taken a)) want fast far (s.job a)
op_keeps s a p slots far (Unpin handle) = unpin_keeps (is_held_by (s.handle handle) a) a handle (s.pinned handle)
op_keeps s a p slots far (Give handle to) = give_keeps (is_held_by (s.handle handle) a) a handle to
op_keeps s a p slots far (Get handle page) = get_keeps s (load_fault s a p page (s.entry p page)) a p handle page (load_fault_keeps s a p page (s.entry p page))
op_keeps s a p slots far (Put handle) = put_keeps (has_reference (got_by (s.got handle)) a) a handle (got_frame (s.got handle))
op_keeps s a p slots far (Transfer handle outward slot parts) =
    transfer_keeps (transfer_denial (s.handle handle) a outward slots slot parts) s a handle outward (far + 1 == words_of parts) (word_at parts far) (slot + far)
op_keeps s a p slots far (Mirror mirror proc page) = mirror_keeps s (load_fault s a p page (s.entry p page)) a p mirror page (load_fault_keeps s a p page (s.entry p page))
op_keeps s a p slots far (Look mirror word) = look_keeps s a mirror word (s.mirrored mirror)
op_keeps s a p slots far (Move proc page zone) = move_keeps s a p page zone (s.job a)
op_keeps s a p slots far (Fork child) = fork_keeps s a p child (s.job a)
op_keeps s a p slots far Exit = exit_keeps s a p (lowest_page (s.right p))
op_keeps s a p slots far op = λ t. refl

refused_keeps : (a p : ℕ) (op : Op) → Keeps (failed_turn a p op).events
refused_keeps a p (Fork child) = λ t. refl
refused_keeps a p op = λ t. refl

turn_keeps : (b : Birth) (s : CoreState) (a p slots far : ℕ) (op : Op) → Keeps (turn_at b (failed_turn a p op) (op_turn s a p slots far op)).events
turn_keeps failed s a p slots far op = refused_keeps a p op
turn_keeps b s a p slots far op = op_keeps s a p slots far op

pub own_keeps : (s : CoreState) (who : Doer) (far : ℕ) (op : Op) → all_tables (run s (own_turn s who far op).events) ≡ all_tables s
own_keeps s who far op =
    let b : Birth = birth_for s.birth who in
    emptying_reads all_tables (λ filled t. refl) s who.actor (turn_at b (failed_turn who.actor who.proc op) (op_turn s who.actor who.proc who.slots far op))
    ∙ turn_keeps b s who.actor who.proc who.slots far op s

pub own_keeps_free : (s : CoreState) (who : Doer) (far : ℕ) (op : Op) → (run s (own_turn s who far op).events).free_table ≡ s.free_table
own_keeps_free s who far op = ap (λ (t : AllTables). t.free) (own_keeps s who far op)
