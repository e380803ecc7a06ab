-- The tables that a turn adds before it, and those that it takes out after it: whose they are, and that these events can happen.
use Rattle.std.proofs.Common.{◌≡◌, ℕ, ◌+◌, ◌==◌, ◌&&◌, Bool, true, false, not, is_some, is_none, List, [], ◌∷◌, length, Option, Some, None, IsSome, ◌⊎◌, inl, inr, zero, suc, refl, ap, ◌∙◌}
use Rattle.gup_base.specs.declared.entry.Entry.{Entry}
use Rattle.gup_base.specs.declared.entry.Rights.{Rights}
use Rattle.gup_base.specs.declared.entry.Rights.TheVariants.{R, RW}
use Rattle.gup_base.specs.declared.entry.Want.{Want}
use Rattle.gup_plain.specs.Event.{page_numbers}
use Rattle.gup_plain.specs.State.{Birth, born, failed}
use Rattle.gup_script.specs.declared.op.Op.{Op}
use Rattle.gup_script.specs.declared.op.Op.TheVariants.{Unmap, Load, Store, Pin, Get, Mirror, Fork, Exit}
use Rattle.gup_spec_events.specs.State.{CoreState, Job, idle, moving, forking, walking, ForkStep, counted, copying}
use Rattle.gup_spec_events.specs.Event.{CoreEvent, AreUnlocked, MayShape, drop_entry, run}
use Rattle.gup_spec_events.specs.Fault.{gives_back}
use Rattle.gup_spec_events.specs.Growth.{grows, retires}
use Rattle.gup_spec_events.specs.Invariant.{AllCan}
use Rattle.gup_spec_events.proofs.Runs.{can_behind}
use Rattle.gup_law_base.specs.Sound.{IsSound}
use Rattle.gup_law_tables.specs.Standing.{TablesStand}
use Rattle.gup_law_tables.proofs.Growth.{grows_can, retires_can, shape_after}
use Rattle.gup_spec_journal.specs.Place.{Place, Doer}
use Rattle.gup_spec_turns.specs.CoreTurn.{CoreTurn, allows_store}
use Rattle.gup_spec_turns.specs.Emptying.{emptying}
use Rattle.gup_spec_turns.proofs.Unseen.{emptying_reads}
use Rattle.gup_spec_turns.specs.PageTurns.{lowest_page, unmap_turn, exit_turn, exit_turn_by}
use Rattle.gup_spec_turns.specs.PinPlace.{StandsAtPage}
use Rattle.gup_spec_turns.specs.TableTurns.{Spot, spot, unless, if_mapped, if_writable, pinned_at, pin_grows, forks_grow, grown_by, grows_at, retires_at, retires_mapped, if_failed, fork_shrinks, lowest_spot, shrinks_by}
use Rattle.gup_spec_turns.specs.Turn.{op_turn, unless_failed}
use Rattle.gup_spec_turns.specs.Waits.{both_if, pin_locks, waits_for_locks, waits_born}
use Rattle.gup_law_turns.proofs.ShownTurns.{both_free}
use Rattle.gup_law_turns.proofs.TableLists.{grows_are, retires_are, mapped_are, all_mapped_are, tables_only}
use Rattle.gup_law_turns.proofs.TabledTurns.{Shaped}
use Rattle.gup_law_turns.proofs.TurnShapes.{FitsFork, FitsOp, IsOfProcess, child_of}

-- no tables change
pub unshaped : (a p c : ℕ) → Shaped a p c []
unshaped a p c = record { proc = p; own = inl refl; are = tt }

-- the actor may change the tables of this page's process, and the page is mapped
abbrev pub MayGrow : CoreState → (a p c : ℕ) → Option Spot → Type 0
MayGrow s a p c None = Unit {0}
MayGrow s a p c (Some at) = MayShape s a at.proc × IsSome (s.right at.proc at.page) × ((at.proc ≡ p) ⊎ (at.proc ≡ c))

pub grown_shaped : (s : CoreState) (a p c : ℕ) (at : Option Spot) → MayGrow s a p c at → Shaped a p c (grows_at s a at)
grown_shaped s a p c None may = unshaped a p c
grown_shaped s a p c (Some at) may = record { proc = at.proc; own = may.2; are = grows_are s a at.proc at.page }

pub grown_can : (s : CoreState) (a p c : ℕ) (at : Option Spot) → IsSound s → TablesStand s → MayGrow s a p c at → AllCan s (grows_at s a at)
grown_can s a p c None sound stand may = tt
grown_can s a p c (Some at) sound stand may = by_right (s.right at.proc at.page) refl may.1
  where
    by_right : (right : Option Rights) → s.right at.proc at.page ≡ right → IsSome right → AllCan s (grows s a at.proc at.page)
    by_right None is some = absurd (cc some)
    by_right (Some rights) is some = (grows_can a at.proc at.page (sound.1.right_numbered at.proc at.page rights is) s stand may.0 may.1).0

module _ (s : CoreState) (who : Doer) (place : Place) (sound : IsSound s) where
  abbrev a : ℕ
  a = who.actor

  abbrev p : ℕ
  p = who.proc

  -- of the operation's own process, which is unlocked
  own_page : (c page : ℕ) (right : Option Rights) → s.birth p ≡ born → AreUnlocked s p → s.right p page ≡ right → MayGrow s a p c (if_mapped p page right)
  own_page c page None birth unlocked is = tt
  own_page c page (Some rights) birth unlocked is = (inl (birth, unlocked), rw is refl, inl refl)

  own_written : (c page : ℕ) (right : Option Rights) → s.birth p ≡ born → AreUnlocked s p → s.right p page ≡ right → MayGrow s a p c (if_writable p page right)
  own_written c page None birth unlocked is = tt
  own_written c page (Some R) birth unlocked is = tt
  own_written c page (Some RW) birth unlocked is = (inl (birth, unlocked), rw is refl, inl refl)

  load_grows : (page : ℕ) (there : Bool) → s.birth p ≡ born → s.job a ≡ idle → waits_for_locks (both_if (not there)) a (s.structure p) (s.table p) ≡ None → MayGrow s a p p (unless there (if_mapped p page (s.right p page)))
  load_grows page true birth job free = tt
  load_grows page false birth job free = own_page p page (s.right p page) birth (both_free s a p sound job free) refl

  store_grows : (page : ℕ) (allowed : Bool) → s.birth p ≡ born → s.job a ≡ idle → waits_for_locks (both_if (not allowed)) a (s.structure p) (s.table p) ≡ None → MayGrow s a p p (unless allowed (if_writable p page (s.right p page)))
  store_grows page true birth job free = tt
  store_grows page false birth job free = own_written p page (s.right p page) birth (both_free s a p sound job free) refl

  pinned_grows : (page : ℕ) (write : Bool) → s.birth p ≡ born → AreUnlocked s p → MayGrow s a p p (pinned_at p page write (s.right p page))
  pinned_grows page true birth unlocked = own_written p page (s.right p page) birth unlocked refl
  pinned_grows page false birth unlocked = own_page p page (s.right p page) birth unlocked refl

  slow_grows : (page : ℕ) (write begins : Bool) → s.birth p ≡ born → s.job a ≡ idle → waits_for_locks (both_if (not begins)) a (s.structure p) (s.table p) ≡ None → MayGrow s a p p (unless begins (pinned_at p page write (s.right p page)))
  slow_grows page write true birth job free = tt
  slow_grows page write false birth job free = pinned_grows page write birth (both_free s a p sound job free)

  pin_may : (page n got far : ℕ) (want : Want) (fast : Bool) (job : Job) → s.birth p ≡ born → s.job a ≡ job → StandsAtPage s a p page n got want fast job → waits_for_locks (pin_locks fast far job) a (s.structure p) (s.table p) ≡ None → MayGrow s a p p (pin_grows s p page far want.write fast job)
  pin_may page n got far want fast idle birth is at free = slow_grows page want.write (fast && far == 0) birth is free
  pin_may page n got far want fast (moving q g e allowed count) birth is at free = tt
  pin_may page n got far want fast (walking q write long sequence step) birth is at free = tt
  pin_may page n got far want fast job birth is at free = absurd at

  fork_may : (child : ℕ) (job : Job) (prepared : Option ℕ) → s.job a ≡ job → FitsFork s a p child place job prepared → MayGrow s a p child (forks_grow child job prepared)
  fork_may child (forking q c done (counted page)) prepared is fits =
      let into : c ≡ child = fits.1.0.into in
      (inr (inr (rw is (ap Some into))), fits.1.1.mapped, inr refl)
  fork_may child (forking q c done (copying page word)) None is fits =
      let into : c ≡ child = fits.1.0.into in
      (inr (inr (rw is (ap Some into))), fits.1.1.mapped, inr refl)
  fork_may child job prepared is fits = tt

  -- the page whose tables a turn needs
  pub may_grow : (op : Op) → (IsOfProcess op → s.birth p ≡ born) → FitsOp s who op place → waits_born s a p place.far op ≡ None → MayGrow s a p (child_of p (Some op)) (grown_by s a p place.far op)
  may_grow (Load page word) birth fits free = load_by (s.entry p page) free
    where
      load_by : (entry : Option Entry) → waits_for_locks (both_if (is_none entry)) a (s.structure p) (s.table p) ≡ None → MayGrow s a p p (unless (is_some entry) (if_mapped p page (s.right p page)))
      load_by None now = load_grows page false (birth tt) fits.0.0 now
      load_by (Some e) now = tt
  may_grow (Store page word value) birth fits free = store_grows page (allows_store (s.entry p page)) (birth tt) fits.0.0 free
  may_grow (Get handle page) birth fits free = own_page p page (s.right p page) (birth tt) (both_free s a p sound fits.0.0 free) refl
  may_grow (Mirror mirror proc page) birth fits free = own_page p page (s.right p page) (birth tt) (both_free s a p sound fits.0.0 free) refl
  may_grow (Pin handle page n want fast) birth fits free =
      pin_may (page + length (s.taken a)) n (length (s.taken a)) place.far want fast (s.job a) (birth tt) refl fits.at free
  may_grow (Fork child) birth fits free = fork_may child (s.job a) (s.prepared a) refl fits.1
  may_grow op birth fits free = tt

-- after it

-- the actor may change the tables of the process of a page whose tables go
abbrev MayRetire : CoreState → (a p : ℕ) → Option Spot → Type 0
MayRetire s a p None = Unit {0}
MayRetire s a p (Some at) = MayShape s a at.proc × (at.proc ≡ p)

retired_shaped : (s : CoreState) (a p c : ℕ) (at : Option Spot) → MayRetire s a p at → Shaped a p c (retires_at s a at)
retired_shaped s a p c None may = unshaped a p c
retired_shaped s a p c (Some at) may = record { proc = at.proc; own = inl may.1; are = retires_are s a at.proc at.page }

retired_can : (s : CoreState) (a p : ℕ) (at : Option Spot) → MayRetire s a p at → AllCan s (retires_at s a at)
retired_can s a p None may = tt
retired_can s a p (Some at) may = retires_can s a at.proc at.page may.0

mapped_can : (s : CoreState) (a c page : ℕ) (right : Option Rights) → MayShape s a c → AllCan s (retires_at s a (if_mapped c page right))
mapped_can s a c page None may = tt
mapped_can s a c page (Some rights) may = retires_can s a c page may

all_mapped_can : (s : CoreState) (a c : ℕ) (right : ℕ → Option Rights) (first n : ℕ) → MayShape s a c → AllCan s (retires_mapped s a c right first n)
all_mapped_can s a c right first zero may = tt
all_mapped_can s a c right first (suc n) may =
    let es : List CoreEvent = retires_at s a (if_mapped c first (right first)) in
    can_behind s es (retires_mapped (run s es) a c right (first + 1) n) (mapped_can s a c first (right first) may)
    (all_mapped_can (run s es) a c right (first + 1) n (shape_after s (run s es) a c (tables_only s a c es (mapped_are s a c first (right first))) may))

-- whose these tables are, and that their events can happen
pub record Shrunk (s : CoreState) (a p c : ℕ) (es : List CoreEvent) : Type 0 where
  pub shaped : Shaped a p c es
  pub can : AllCan s es

pub none_shrunk : (s : CoreState) (a p c : ℕ) → Shrunk s a p c []
none_shrunk s a p c = record { shaped = unshaped a p c; can = tt }

pub unfailed_shrunk : (s : CoreState) (a p c : ℕ) (es : List CoreEvent) (birth : Birth) → Shrunk s a p c es → Shrunk s a p c (unless_failed es birth)
unfailed_shrunk s a p c [] birth h = h
unfailed_shrunk s a p c (e ∷ es) failed h = none_shrunk s a p c
unfailed_shrunk s a p c (e ∷ es) birth h = h

fork_shrunk : (s : CoreState) (a p c : ℕ) (right : ℕ → Option Rights) (job : Job) → Shrunk s a p c (fork_shrinks s a c right job)
fork_shrunk s a p c right (forking q d done step) = by_birth (s.birth c) refl
  where
    by_birth : (birth : Birth) → s.birth c ≡ birth → Shrunk s a p c (if_failed birth (retires_mapped s a c right 0 page_numbers))
    by_birth failed is =
        record {
          shaped = record { proc = c; own = inr refl; are = all_mapped_are s a c right 0 page_numbers };
          can = all_mapped_can s a c right 0 page_numbers (inr (inl is));
        }
    by_birth birth is = none_shrunk s a p c
fork_shrunk s a p c right job = none_shrunk s a p c

-- a page that goes, and its reference, leave its process born and unlocked
module _ (t : CoreState) (a p page : ℕ) where
  abbrev down : List CoreEvent
  down = drop_entry a p page (t.entry p page) ∷ gives_back a (t.entry p page)

  down_leaves : (was entry : Option Entry) →
      let u : CoreState = run t (drop_entry a p page was ∷ gives_back a entry) in
      (u.birth p ≡ t.birth p) × (u.structure p ≡ t.structure p) × (u.table p ≡ t.table p)
  down_leaves was None = (refl, refl, refl)
  down_leaves was (Some e) = (refl, refl, refl)

pub record IsUnlockedBy (t u : CoreState) (p : ℕ) : Type 0 where
  pub birth : u.birth p ≡ t.birth p
  pub structure : u.structure p ≡ t.structure p
  pub table : u.table p ≡ t.table p

emptied_leaves : (t : CoreState) (a p : ℕ) (turn : CoreTurn) → IsUnlockedBy t (run t turn.events) p → IsUnlockedBy t (run t (emptying t a turn).events) p
emptied_leaves t a p turn h = record {
  birth = emptying_reads (λ (x : CoreState). x.birth p) (λ filled x. refl) t a turn ∙ h.birth;
  structure = emptying_reads (λ (x : CoreState). x.structure p) (λ filled x. refl) t a turn ∙ h.structure;
  table = emptying_reads (λ (x : CoreState). x.table p) (λ filled x. refl) t a turn ∙ h.table;
}

unmap_leaves : (t : CoreState) (a p page : ℕ) (last : Bool) (right : Option Rights) → t.right p page ≡ right → IsUnlockedBy t (run t (unmap_turn t a p page last).events) p
unmap_leaves t a p page last None is = rw is (record { birth = refl; structure = refl; table = refl })
unmap_leaves t a p page last (Some rights) is =
    let h = down_leaves t a p page (t.entry p page) (t.entry p page) in
    rw is (record { birth = h.0; structure = h.1; table = h.2 })

exit_leaves : (t : CoreState) (a p : ℕ) (lowest : Option ℕ) → IsUnlockedBy t (run t (exit_turn_by t a p lowest).events) p
exit_leaves t a p None = record { birth = refl; structure = refl; table = refl }
exit_leaves t a p (Some page) =
    let h = down_leaves t a p page (t.entry p page) (t.entry p page) in
    record { birth = h.0; structure = h.1; table = h.2 }

still_shaped : (t u : CoreState) (a p : ℕ) → IsUnlockedBy t u p → t.birth p ≡ born → AreUnlocked t p → MayShape u a p
still_shaped t u a p h birth unlocked = inl (h.birth ∙ birth, (h.structure ∙ unlocked.0, h.table ∙ unlocked.1))

page_retires : (t u : CoreState) (a p page : ℕ) (right : Option Rights) → MayShape u a p → MayRetire u a p (if_mapped p page right)
page_retires t u a p page None may = tt
page_retires t u a p page (Some rights) may = (may, refl)

lowest_retires : (u : CoreState) (a p : ℕ) (lowest : Option ℕ) → MayShape u a p → MayRetire u a p (lowest_spot p lowest)
lowest_retires u a p None may = tt
lowest_retires u a p (Some page) may = (may, refl)

retired_shrunk : (u : CoreState) (a p c : ℕ) (at : Option Spot) → MayRetire u a p at → Shrunk u a p c (retires_at u a at)
retired_shrunk u a p c at may = record { shaped = retired_shaped u a p c at may; can = retired_can u a p at may }

module _ (t : CoreState) (who : Doer) (place : Place) (slots : ℕ) (sound : IsSound t) where
  -- the tables that go after the turn of an operation of a born process, or of a device
  pub shrunk_by : (op : Op) → (IsOfProcess op → t.birth who.proc ≡ born) → FitsOp t who op place → waits_born t who.actor who.proc place.far op ≡ None →
      let u : CoreState = run t (emptying t who.actor (op_turn t who.actor who.proc slots place.far op)).events in
      Shrunk u who.actor who.proc (child_of who.proc (Some op)) (shrinks_by t u who.actor who.proc place.far op)
  shrunk_by (Unmap page n) birth fits free =
      let turn : CoreTurn = unmap_turn t who.actor who.proc (page + place.far) (place.far + 1 == n) in
      let u : CoreState = run t (emptying t who.actor turn).events in
      let leaves = emptied_leaves t who.actor who.proc turn (unmap_leaves t who.actor who.proc (page + place.far) (place.far + 1 == n) (t.right who.proc (page + place.far)) refl) in
      let may = still_shaped t u who.actor who.proc leaves (birth tt) (both_free t who.actor who.proc sound fits.0.0 free) in
      retired_shrunk u who.actor who.proc who.proc (if_mapped who.proc (page + place.far) (t.right who.proc (page + place.far)))
      (page_retires t u who.actor who.proc (page + place.far) (t.right who.proc (page + place.far)) may)
  shrunk_by Exit birth fits free =
      let turn : CoreTurn = exit_turn t who.actor who.proc in
      let u : CoreState = run t (emptying t who.actor turn).events in
      let leaves = emptied_leaves t who.actor who.proc turn (exit_leaves t who.actor who.proc (lowest_page (t.right who.proc))) in
      let may = still_shaped t u who.actor who.proc leaves (birth tt) (both_free t who.actor who.proc sound fits.0 free) in
      retired_shrunk u who.actor who.proc who.proc (lowest_spot who.proc (lowest_page (t.right who.proc)))
      (lowest_retires u who.actor who.proc (lowest_page (t.right who.proc)) may)
  shrunk_by (Fork child) birth fits free =
      fork_shrunk (run t (emptying t who.actor (op_turn t who.actor who.proc slots place.far (Fork child))).events) who.actor who.proc child ((run t (emptying t who.actor (op_turn t who.actor who.proc slots place.far (Fork child))).events).right who.proc) (t.job who.actor)
  shrunk_by op birth fits free =
      none_shrunk (run t (emptying t who.actor (op_turn t who.actor who.proc slots place.far op)).events) who.actor who.proc (child_of who.proc (Some op))
