-- The events of a turn of one process are of frames and of that process. They bear no process, leave forks where they are,
-- and are of no pin.
use Rattle.std.proofs.Common.{◌≡◌, ℕ, ◌+◌, ◌==◌, Bool, true, false, cond, List, [], ◌∷◌, ◌++◌, Option, Some, None, Ok, Err, zero, suc, refl, sym, ap, ◌∙◌, eqb-true, if◌then◌else◌, arith}
use Rattle.gup_base.specs.declared.entry.Allowed.TheVariants.{Any}
use Rattle.gup_base.specs.declared.entry.Entry.{Entry}
use Rattle.gup_base.specs.declared.entry.Rights.{Rights}
use Rattle.gup_base.specs.declared.entry.Rights.TheVariants.{R, RW}
use Rattle.gup_plain.specs.Denial.{any_mapped, any_unmapped, map_denial, protect_denial}
use Rattle.gup_plain.specs.Put.{put}
use Rattle.gup_plain.specs.State.{Handle}
use Rattle.gup_plain.specs.declared.answer.Answer.{Answer}
use Rattle.gup_script.specs.declared.op.Op.{Op}
use Rattle.gup_script.specs.declared.op.Op.TheVariants.{Map, Unmap, Protect, Discard, Load, Store, Exit}
use Rattle.gup_space.proofs.After.{IsOf, AreOf, taking, filling, counting, marking_it, upgrading, breaking, putting, dropping, discarding, mapping, lowering, protecting, loading, storing}
use Rattle.gup_spec_events.specs.State.{CoreState, Taken as TakenPage, Job, idle, marking}
use Rattle.gup_spec_events.specs.Event.{CoreEvent, happens, take_frame, fill, count_one, set_mark, upgrade, break_entry, put_entry, drop_entry, discard_entry, map_pages, lower_entry, protect_pages, load, store, run}
use Rattle.gup_spec_events.specs.Fault.{Fault, events_of, fills, fills_writable, breaks, marks, read_fault, makes_writable, write_fault, gives_back}
use Rattle.gup_spec_turns.specs.Turn.{op_turn}
use Rattle.gup_spec_turns.specs.PageTurns.{load_fault, lowers_entry, lowers, lowers_for, exit_turn_by, lowest_page}
use Rattle.gup_spec_turns.proofs.TurnParts.{loads_after, store_fault_by, stores_after, map_turn_by, unmap_turn_by, protect_turn_by, discard_turn_by}
use Rattle.gup_spec_turns.specs.CoreTurn.{allows_store, frame_for}
use Rattle.gup_spec_turns.specs.JobPlace.{job_place, place_in, unbegun}
use Rattle.gup_op_pages.specs.Alone.{IsAlone}

-- an event of a turn of actor a over process p
pub data IsOwn (a p : ℕ) : CoreEvent → Type 0 where
  takes : (f : ℕ) → IsOwn a p (take_frame a f)
  fills_it : (page f : ℕ) → IsOwn a p (fill a p page f)
  counts : (page f : ℕ) (writable : Bool) → IsOwn a p (count_one a p page f writable)
  marks_it : (page f : ℕ) → IsOwn a p (set_mark a p page f)
  upgrades : (page f : ℕ) → IsOwn a p (upgrade a p page f)
  breaks_it : (page old new : ℕ) (was writable : Bool) → IsOwn a p (break_entry a p page old new was writable)
  puts : (f : ℕ) → IsOwn a p (put_entry a f)
  drops : (page : ℕ) (was : Option Entry) → IsOwn a p (drop_entry a p page was)
  discards_it : (page : ℕ) (was : Option Entry) → IsOwn a p (discard_entry a p page was)
  maps : (page n : ℕ) (rights : Rights) → IsOwn a p (map_pages a p page n rights)
  lowers_it : (page f : ℕ) → IsOwn a p (lower_entry a p page f)
  protects : (page n : ℕ) (rights : Rights) → IsOwn a p (protect_pages a p page n rights)
  loads_it : (page word f value : ℕ) → IsOwn a p (load a p page word f value)
  stores_it : (page word f value : ℕ) → IsOwn a p (store a p page word f value)

-- each event is one of these
abbrev pub AreAll : (CoreEvent → Type 0) → List CoreEvent → Type 0
AreAll P [] = Unit {0}
AreAll P (e ∷ es) = P e × AreAll P es

-- what each such event leaves, a list of them leaves
pub through : {X : Type 0} (P : CoreEvent → Type 0) (read : CoreState → X) → ((s : CoreState) (e : CoreEvent) → P e → read (happens s e) ≡ read s)
    → (s : CoreState) (es : List CoreEvent) → AreAll P es → read (run s es) ≡ read s
through P read each s [] all = refl
through P read each s (e ∷ es) all = through P read each (happens s e) es all.1 ∙ each s e all.0

abbrev pub AreOwn : (a p : ℕ) → List CoreEvent → Type 0
AreOwn a p es = AreAll (IsOwn a p) es

pub is_of : (a p : ℕ) {e : CoreEvent} → IsOwn a p e → IsOf p e
is_of a p (takes f) = taking a f
is_of a p (fills_it page f) = filling a page f
is_of a p (counts page f writable) = counting a page f writable
is_of a p (marks_it page f) = marking_it a page f
is_of a p (upgrades page f) = upgrading a page f
is_of a p (breaks_it page old new was writable) = breaking a page old new was writable
is_of a p (puts f) = putting a f
is_of a p (drops page was) = dropping a page was
is_of a p (discards_it page was) = discarding a page was
is_of a p (maps page n rights) = mapping a page n rights
is_of a p (lowers_it page f) = lowering a page f
is_of a p (protects page n rights) = protecting a page n rights
is_of a p (loads_it page word f value) = loading a page word f value
is_of a p (stores_it page word f value) = storing a page word f value

pub are_of : (a p : ℕ) (es : List CoreEvent) → AreOwn a p es → AreOf p es
are_of a p [] own = tt
are_of a p (e ∷ es) own = (is_of a p own.0, are_of a p es own.1)

-- ---- the turns

pub two_lists : (P : CoreEvent → Type 0) (es fs : List CoreEvent) → AreAll P es → AreAll P fs → AreAll P (es ++ fs)
two_lists P [] fs first second = second
two_lists P (e ∷ es) fs first second = (first.0, two_lists P es fs first.1 second)

both : (a p : ℕ) (es fs : List CoreEvent) → AreOwn a p es → AreOwn a p fs → AreOwn a p (es ++ fs)
both a p es fs first second = two_lists (IsOwn a p) es fs first second

-- an entry that went, and what is given back
given_back : (a p : ℕ) (entry : Option Entry) → AreOwn a p (gives_back a entry)
given_back a p None = tt
given_back a p (Some e) = (puts e.frame, tt)

pub fills_own : (a p page : ℕ) (free : Option ℕ) → AreOwn a p (events_of (fills a p page free))
fills_own a p page None = tt
fills_own a p page (Some f) = (takes f, (fills_it page f, tt))

fills_writable_own : (a p page : ℕ) (free : Option ℕ) → AreOwn a p (events_of (fills_writable a p page free))
fills_writable_own a p page None = tt
fills_writable_own a p page (Some f) = (takes f, (fills_it page f, (upgrades page f, tt)))

pub breaks_own : (a p page : ℕ) (e : Entry) (writable : Bool) (free : Option ℕ) → AreOwn a p (events_of (breaks a p page e writable free))
breaks_own a p page e writable None = tt
breaks_own a p page e writable (Some f) = (takes f, (breaks_it page e.frame f e.writable writable, (puts e.frame, tt)))

makes_writable_own : (a p page : ℕ) (e : Entry) (mark : Bool) (count : ℕ) (free : Option ℕ) → AreOwn a p (events_of (makes_writable a p page e mark count free))
makes_writable_own a p page e true count free = (upgrades page e.frame, tt)
makes_writable_own a p page e false count free = by_count (count == 1)
  where
    by_count : (alone : Bool) → AreOwn a p (events_of (if alone then Ok (marks a p page e ++ upgrade a p page e.frame ∷ []) else breaks a p page e true free))
    by_count true = (counts page e.frame e.writable, (marks_it page e.frame, (upgrades page e.frame, tt)))
    by_count false = breaks_own a p page e true free

read_fault_own : (a p page : ℕ) (right : Option Rights) (entry : Option Entry) (free : Option ℕ) → AreOwn a p (events_of (read_fault a p page right entry free))
read_fault_own a p page None entry free = tt
read_fault_own a p page (Some rights) None free = fills_own a p page free
read_fault_own a p page (Some rights) (Some e) free = tt

pub write_fault_own : (a p page : ℕ) (right : Option Rights) (entry : Option Entry) (mark : ℕ → Bool) (count : ℕ → ℕ) (free : Option ℕ) → AreOwn a p (events_of (write_fault a p page right entry mark count free))
write_fault_own a p page None entry mark count free = tt
write_fault_own a p page (Some R) entry mark count free = tt
write_fault_own a p page (Some RW) None mark count free = fills_writable_own a p page free
write_fault_own a p page (Some RW) (Some e) mark count free = by_entry e.writable
  where
    by_entry : (writable : Bool) → AreOwn a p (events_of (if writable then Ok [] else makes_writable a p page e (mark e.frame) (count e.frame) free))
    by_entry true = tt
    by_entry false = makes_writable_own a p page e (mark e.frame) (count e.frame) free

pub load_fault_own : (s : CoreState) (a p page : ℕ) (entry : Option Entry) → AreOwn a p (events_of (load_fault s a p page entry))
load_fault_own s a p page None = read_fault_own a p page (s.right p page) None (frame_for s p page Any)
load_fault_own s a p page (Some e) = tt

store_fault_own : (allowed : Bool) (s : CoreState) (a p page : ℕ) (entry : Option Entry) → AreOwn a p (events_of (store_fault_by allowed s a p page entry))
store_fault_own true s a p page entry = tt
store_fault_own false s a p page entry = write_fault_own a p page (s.right p page) entry s.mark s.count (frame_for s p page Any)

load_own : (s : CoreState) (fault : Fault) (a p page word : ℕ) → AreOwn a p (events_of fault) → AreOwn a p (loads_after s fault a p page word).events
load_own s (Err answer) a p page word own = tt
load_own s (Ok before) a p page word own = both a p before (load a p page word _ _ ∷ []) own (loads_it page word _ _, tt)

store_own : (s : CoreState) (fault : Fault) (a p page word value : ℕ) → AreOwn a p (events_of fault) → AreOwn a p (stores_after s fault a p page word value).events
store_own s (Err answer) a p page word value own = tt
store_own s (Ok before) a p page word value own = both a p before (store a p page word _ value ∷ []) own (stores_it page word _ value, tt)

map_own : (denied : Option Answer) (a p page n : ℕ) (rights : Rights) → AreOwn a p (map_turn_by denied a p page n rights).events
map_own (Some denied) a p page n rights = tt
map_own None a p page n rights = (maps page n rights, tt)

unmap_own : (rights : Option Rights) (a p page : ℕ) (entry : Option Entry) (last : Bool) → AreOwn a p (unmap_turn_by rights a p page entry last).events
unmap_own None a p page entry last = tt
unmap_own (Some rights) a p page entry last = (drops page entry, given_back a p entry)

discard_own : (rights : Option Rights) (a p page : ℕ) (entry : Option Entry) (last : Bool) → AreOwn a p (discard_turn_by rights a p page entry last).events
discard_own None a p page entry last = tt
discard_own (Some rights) a p page entry last = (discards_it page entry, given_back a p entry)

lower_own : (a p page : ℕ) (entry : Option Entry) → AreOwn a p (lowers_entry a p page entry)
lower_own a p page None = tt
lower_own a p page (Some e) = go e.writable
  where
    go : (writable : Bool) → AreOwn a p (cond writable (lower_entry a p page e.frame ∷ []) [])
    go true = (lowers_it page e.frame, tt)
    go false = tt

lowers_own : (entry : ℕ → Option Entry) (a p page n : ℕ) → AreOwn a p (lowers entry a p page n)
lowers_own entry a p page zero = tt
lowers_own entry a p page (suc n) =
    both a p (lowers_entry a p page (entry page)) (lowers entry a p (page + 1) n) (lower_own a p page (entry page)) (lowers_own entry a p (page + 1) n)

lowers_for_own : (rights : Rights) (entry : ℕ → Option Entry) (a p page n : ℕ) → AreOwn a p (lowers_for rights entry a p page n)
lowers_for_own R entry a p page n = lowers_own entry a p page n
lowers_for_own RW entry a p page n = tt

protect_own : (denied : Option Answer) (s : CoreState) (a p page n : ℕ) (rights : Rights) → AreOwn a p (protect_turn_by denied s a p page n rights).events
protect_own (Some denied) s a p page n rights = tt
protect_own None s a p page n rights =
    both a p (lowers_for rights (s.entry p) a p page n) (protect_pages a p page n rights ∷ []) (lowers_for_own rights (s.entry p) a p page n) (protects page n rights, tt)

exit_own : (s : CoreState) (a p : ℕ) (lowest : Option ℕ) → AreOwn a p (exit_turn_by s a p lowest).events
exit_own s a p None = tt
exit_own s a p (Some page) = (drops page (s.entry p page), given_back a p (s.entry p page))

pub turn_is_own : (s : CoreState) (a p slots far : ℕ) (op : Op) → IsAlone op → AreOwn a p (op_turn s a p slots far op).events
turn_is_own s a p slots far (Map page n rights) alone = map_own (map_denial (any_mapped (s.right p) page n) (s.pages p) n) a p page n rights
turn_is_own s a p slots far (Unmap page n) alone = unmap_own (s.right p (page + far)) a p (page + far) (s.entry p (page + far)) _
turn_is_own s a p slots far (Protect page n rights) alone = protect_own (protect_denial (any_unmapped (s.right p) page n)) s a p page n rights
turn_is_own s a p slots far (Discard page n) alone = discard_own (s.right p (page + far)) a p (page + far) (s.entry p (page + far)) _
turn_is_own s a p slots far (Load page word) alone =
    load_own s (load_fault s a p page (s.entry p page)) a p page word (load_fault_own s a p page (s.entry p page))
turn_is_own s a p slots far (Store page word value) alone =
    store_own s (store_fault_by (allows_store (s.entry p page)) s a p page (s.entry p page)) a p page word value
    (store_fault_own (allows_store (s.entry p page)) s a p page (s.entry p page))
turn_is_own s a p slots far Exit alone = exit_own s a p (lowest_page (s.right p))
turn_is_own s a p slots far op alone = grind arith

-- ---- pins and stores

-- pins, what running pins have taken, the words of devices, and references
abbrev pub Pins : Type 0
Pins = (ℕ → Handle) × (ℕ → List ℕ) × (ℕ → List TakenPage) × (ℕ → ℕ → ℕ) × (ℕ → Option (ℕ × ℕ))

abbrev pub pins_of : CoreState → Pins
pins_of s = (s.handle, s.pinned, s.taken, s.store, s.got)

pub own_leaves_pins : (a p : ℕ) (s : CoreState) {e : CoreEvent} → IsOwn a p e → pins_of (happens s e) ≡ pins_of s
own_leaves_pins a p s (takes f) = refl
own_leaves_pins a p s event = refl

pub own_leave_pins : (a p : ℕ) (s : CoreState) (es : List CoreEvent) → AreOwn a p es → pins_of (run s es) ≡ pins_of s
own_leave_pins a p s es own = through (IsOwn a p) pins_of (λ x e is. own_leaves_pins a p x is) s es own

-- so do the events of a fork

-- ---- births and forks

pub birth_stays : (a p : ℕ) (s : CoreState) {e : CoreEvent} → IsOwn a p e → (happens s e).birth ≡ s.birth
birth_stays a p s (takes f) = refl
birth_stays a p s event = refl

pub births_stay : (a p : ℕ) (s : CoreState) (es : List CoreEvent) → AreOwn a p es → (run s es).birth ≡ s.birth
births_stay a p s [] own = refl
births_stay a p s (e ∷ es) own = births_stay a p (happens s e) es own.1 ∙ birth_stays a p s own.0

-- whatever frame its actor has prepared, the job is no fork
abbrev pub IsUnforked : Job → Type 0
IsUnforked job = (prepared : Option ℕ) → job_place job prepared ≡ unbegun

-- a job that is no fork, in the place of one that is none
job_put : (a b : ℕ) (job : Job) (jobs : ℕ → Job) (prepared : Option ℕ) → IsUnforked job → IsUnforked (jobs a) → job_place (put a job jobs b) prepared ≡ job_place (jobs b) prepared
job_put a b job jobs prepared new old = go (b == a) refl
  where
    go : (here : Bool) → (b == a) ≡ here → job_place (cond here job (jobs b)) prepared ≡ job_place (jobs b) prepared
    go true is = new prepared ∙ sym (old prepared) ∙ ap (λ k. job_place (jobs k) prepared) (sym (eqb-true b a is))
    go false is = refl

-- what an actor that does no fork has prepared
frame_put : (a b : ℕ) (frame : Option ℕ) (jobs : ℕ → Job) (prepared : ℕ → Option ℕ) → IsUnforked (jobs a) → job_place (jobs b) (put a frame prepared b) ≡ job_place (jobs b) (prepared b)
frame_put a b frame jobs prepared none = go (b == a) refl
  where
    at : (f : Option ℕ) → b ≡ a → job_place (jobs b) f ≡ unbegun
    at f e = ap (λ k. job_place (jobs k) f) e ∙ none f

    go : (here : Bool) → (b == a) ≡ here → job_place (jobs b) (cond here frame (prepared b)) ≡ job_place (jobs b) (prepared b)
    go true is = at frame (eqb-true b a is) ∙ sym (at (prepared b) (eqb-true b a is))
    go false is = refl

pub job_stays : (a p b : ℕ) (s : CoreState) {e : CoreEvent} (prepared : Option ℕ) → IsOwn a p e → IsUnforked (s.job a) → job_place ((happens s e).job b) prepared ≡ job_place (s.job b) prepared
job_stays a p b s prepared (counts page f writable) none = job_put a b (marking p page f) s.job prepared (λ f. refl) none
job_stays a p b s prepared (marks_it page f) none = job_put a b idle s.job prepared (λ f. refl) none
job_stays a p b s prepared event none = refl

frame_stays : (a p b : ℕ) (s : CoreState) {e : CoreEvent} → IsOwn a p e → IsUnforked (s.job a) → job_place (s.job b) ((happens s e).prepared b) ≡ place_in s b
frame_stays a p b s (takes f) none = frame_put a b (Some f) s.job s.prepared none
frame_stays a p b s (fills_it page f) none = frame_put a b None s.job s.prepared none
frame_stays a p b s (breaks_it page old new was writable) none = frame_put a b None s.job s.prepared none
frame_stays a p b s event none = refl

pub fork_stays : (a p b : ℕ) (s : CoreState) {e : CoreEvent} → IsOwn a p e → IsUnforked (s.job a) → place_in (happens s e) b ≡ place_in s b
fork_stays a p b s {e} own none = job_stays a p b s ((happens s e).prepared b) own none ∙ frame_stays a p b s own none

pub forks_stay : (a p b : ℕ) (s : CoreState) (es : List CoreEvent) → AreOwn a p es → IsUnforked (s.job a) → place_in (run s es) b ≡ place_in s b
forks_stay a p b s [] own none = refl
forks_stay a p b s (e ∷ es) own none =
    forks_stay a p b (happens s e) es own.1 (λ f. job_stays a p a s f own.0 none ∙ none f) ∙ fork_stays a p b s own.0 none
