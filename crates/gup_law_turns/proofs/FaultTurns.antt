-- Faults: their events can happen between two turns, and the page gets an entry that allows the access.
use Rattle.std.proofs.Common.{◌≡◌, ℕ, ◌+◌, ◌<◌, ◌==◌, Bool, true, false, if◌then◌else◌, IsSome, List, [], ◌∷◌, ◌++◌, Contains, Option, Some, None, Ok, Err, eqb-true, refl, ap, sym, subst, ◌∙◌, arith}
use Rattle.std.proofs.lemmas.Bool.Decides.{nat_tests}
use Rattle.std.proofs.lemmas.List.Sums.{get_or-le-sum_by}
use Rattle.gup_base.specs.declared.entry.Entry.{Entry}
use Rattle.gup_base.specs.declared.entry.Rights.{Rights}
use Rattle.gup_base.specs.declared.entry.Rights.TheVariants.{R, RW}
use Rattle.gup_plain.specs.Denial.{load_denial, store_denial, pin_denial}
use Rattle.gup_plain.specs.Put.{put, put2}
use Rattle.gup_plain.specs.State.{born}
use Rattle.gup_plain.specs.declared.answer.Answer.{Answer}
use Rattle.gup_plain.specs.declared.answer.Answer.TheVariants as answers
use Rattle.gup_spec_events.specs.State.{CoreState, idle, marking}
use Rattle.gup_spec_events.specs.Event.{CoreEvent, MayPrepare, AreUnlocked, IsUnmirrored, Can, happens, entry_of, take_frame, fill, upgrade, break_entry, put_entry, run, has_tables}
use Rattle.gup_spec_events.specs.Fault.{Fault, fills, breaks, marks, unshares, fills_writable, makes_writable, write_fault, unshare_fault}
use Rattle.gup_spec_events.specs.Invariant.{AllCan, entry_of_page, frame_of, weight}
use Rattle.gup_law_base.specs.Sound.{IsSound, held}
use Rattle.gup_law_events.specs.Law.{all_told}
use Rattle.gup_spec_journal.specs.Plain.{IsAnswerOf}
use Rattle.gup_spec_turns.specs.CoreTurn.{frame_in, allows_store}
use Rattle.gup_spec_turns.specs.PinTurns.{pin_fault}
use Rattle.gup_law_turns.proofs.CalmStates.{IsCalm, Strand, AreTurnEvents, taking, filling, counting_one, marking_it, upgrading, breaking, putting}
use Rattle.gup_law_turns.proofs.Puts.{put_same, put_other, put2_same}
use Rattle.gup_law_turns.proofs.TurnShapes.{AtRest, unprepared, at_rest}
use Rattle.gup_law_turns.proofs.ShownTurns.{IsOpen}

-- a page with an entry, seen as that
pub entry_there : (entry : Option Entry) → IsSome entry → entry ≡ Some (entry_of (frame_in entry) (allows_store entry))
entry_there None is = absurd (cc is)
entry_there (Some e) is = refl

pub writable_there : (entry : Option Entry) → allows_store entry ≡ true → entry ≡ Some (entry_of (frame_in entry) true)
writable_there None is = absurd (cc is)
writable_there (Some e) is = ap (λ (b : Bool). Some (entry_of e.frame b)) is

-- the frame of an entry has a reference
pub entry_counted : (s : CoreState) (p page : ℕ) (e : Entry) → IsSound s → s.entry p page ≡ Some e → s.count e.frame ≡ 0 → ⊥
unfolding held
entry_counted s p page e sound is none =
    let tally = sound.1.references e.frame in
    let at : Contains tally.0 (entry_of_page p page) = (tally.2 (entry_of_page p page)).0 (ap frame_of is) in
    let some = get_or-le-sum_by weight tally.0 at.0 (entry_of_page p page) at.1 in
    let here = ap weight at.2 in
    let sum = sound.1.count_is e.frame in
    omega (arith, some, here, sum, none, tally.3)

-- What a fault of a page needs: a state between two turns, a born process, and an actor in the middle of nothing. The
-- frame of an entry has a reference, and that of a writable one is marked.
pub record MayFault (s : CoreState) (a p : ℕ) : Type 0 where
  pub rest : AtRest s a
  pub calm : IsCalm s
  pub birth : s.birth p ≡ born
  pub job : s.job a ≡ idle
  pub counted : (page : ℕ) (e : Entry) → s.entry p page ≡ Some e → s.count e.frame ≡ 0 → ⊥
  pub marked : (page : ℕ) (e : Entry) → s.entry p page ≡ Some e → e.writable ≡ true → s.mark e.frame ≡ true

pub may_fault : (s : CoreState) (a p : ℕ) → IsOpen s a p → s.job a ≡ idle → MayFault s a p
may_fault s a p h job =
    record {
      rest = h.rest;
      calm = h.calm;
      birth = h.birth;
      job = job;
      counted = λ page e is. entry_counted s p page e h.sound is;
      marked = λ page e is. h.sound.1.entry_marked p page e (h.sound.1.whole_entry p page e is);
    }

-- events of a fault, and what they lead to, whatever the operation is about
pub record IsReady (s : CoreState) (a p : ℕ) (es : List CoreEvent) : Type 0 where
  pub kinds : (strand : Strand) → AreTurnEvents a p p strand es
  pub can : AllCan s es
  pub rest : AtRest (run s es) a
  pub job : (run s es).job a ≡ idle
  pub birth : (run s es).birth p ≡ born
  pub told : all_told es ≡ []
  pub right : (run s es).right ≡ s.right

-- The page is ready for a read, or a write: its entry is of a marked frame and allows it, and no lock is held.
pub record Allows (t : CoreState) (p page : ℕ) (write : Bool) : Type 0 where
  pub free : AreUnlocked t p
  pub entry : Entry
  pub there : t.entry p page ≡ Some entry
  pub marked : t.mark entry.frame ≡ true
  pub may : write ≡ true → entry.writable ≡ true

-- the answers by which faults refuse a page
pub data RefusesPage : Answer → Type 0 where
  missing : RefusesPage answers.Missing
  forbidden : RefusesPage answers.Forbidden
  no_frame : RefusesPage answers.NoFrame

-- What a fault comes to: the page is refused, by its denial or for want of a frame; or no denial stands, and its events
-- make the page ready.
abbrev pub LeadsTo : CoreState → (a p page : ℕ) → (write : Bool) → Option Answer → Fault → Type 0
LeadsTo s a p page write denied (Err answer) = RefusesPage answer × IsAnswerOf denied answer
LeadsTo s a p page write denied (Ok es) = (denied ≡ None) × IsReady s a p es × Allows (run s es) p page write

-- the frame that a turn takes for a page, if it takes one, is a frame, and free, and the page lacks no table
abbrev pub IsFree : CoreState → (p page : ℕ) → Option ℕ → Type 0
IsFree s p page frame =
    (f : ℕ) → frame ≡ Some f → (f < s.movable + s.normal) × (s.count f ≡ 0) × (has_tables s p page ≡ true)

-- a frame that is free isn't one that has a reference
pub differ : (count : ℕ → ℕ) (f g : ℕ) → count f ≡ 0 → (count g ≡ 0 → ⊥) → (f == g) ≡ false
differ count f g free counted = go (f == g) refl
  where
    go : (t : Bool) → (f == g) ≡ t → t ≡ false
    go true is = absurd (counted (subst (λ (k : ℕ). count k ≡ 0) (eqb-true f g is) free))
    go false is = refl

pub no_mirror_at : (s : CoreState) (p g : ℕ) → IsCalm s → IsUnmirrored s p g
no_mirror_at s p g h m noted filled slot proc page = absurd (let free = h.unmirrored m in cc)

module _ (s : CoreState) (a p : ℕ) (h : MayFault s a p) where
  may_prepare : MayPrepare (s.job a)
  may_prepare = subst MayPrepare (sym h.job) tt

  pub no_mirror : (g : ℕ) → IsUnmirrored s p g
  no_mirror g = no_mirror_at s p g h.calm

  -- it has prepared no frame
  unprepared_here : s.prepared a ≡ None
  unprepared_here = unprepared s a h.rest h.job

  -- no fault
  pub needs_none : IsReady s a p []
  needs_none = record { kinds = λ strand. tt; can = tt; rest = h.rest; job = h.job; birth = h.birth; told = refl; right = refl }

  -- with the free frame that its turn takes, if there is one
  module _ (free : AreUnlocked s p) (page : ℕ) (frame : Option ℕ) (is_free : IsFree s p page frame) where
    can_take : (f : ℕ) → frame ≡ Some f → Can s (take_frame a f)
    can_take f found = let at = is_free f found in (may_prepare, unprepared_here, at.0, at.1)

    -- the page gets a fresh frame
    pub filled : (f : ℕ) → frame ≡ Some f → IsSome (s.right p page) → s.entry p page ≡ None → IsReady s a p (take_frame a f ∷ fill a p page f ∷ [])
    filled f found named none =
        record {
          kinds = λ strand. (taking f, (filling page f, tt));
          can = (can_take f found, ((h.birth, free, h.job, named, none, put_same a (Some f) s.prepared, (is_free f found).2), tt));
          rest = at_rest (run s (take_frame a f ∷ fill a p page f ∷ [])) a (put_same a None (put a (Some f) s.prepared)) h.rest.owed;
          job = h.job;
          birth = h.birth;
          told = refl;
          right = refl;
        }

    filled_writable : (f : ℕ) → frame ≡ Some f → s.right p page ≡ Some RW → s.entry p page ≡ None → IsReady s a p (take_frame a f ∷ fill a p page f ∷ upgrade a p page f ∷ [])
    filled_writable f found right none =
        let fills = filled f found (rw right refl) none in
        record {
          kinds = λ strand. (taking f, (filling page f, (upgrading page f, tt)));
          can = (fills.can.0, (fills.can.1.0, ((h.birth, free, right, put2_same p page (Some (entry_of f false)) s.entry, put_same f true (put f false s.mark)), tt)));
          rest = at_rest (run s (take_frame a f ∷ fill a p page f ∷ upgrade a p page f ∷ [])) a (put_same a None (put a (Some f) s.prepared)) h.rest.owed;
          job = h.job;
          birth = h.birth;
          told = refl;
          right = refl;
        }

    -- the read-only entry of a marked frame becomes writable
    upgraded : (e : Entry) → s.right p page ≡ Some RW → s.entry p page ≡ Some e → e.writable ≡ false → s.mark e.frame ≡ true → IsReady s a p (upgrade a p page e.frame ∷ [])
    upgraded e right there barred marked =
        record {
          kinds = λ strand. (upgrading page e.frame, tt);
          can = ((h.birth, free, right, there ∙ ap (λ (b : Bool). Some (entry_of e.frame b)) barred, marked), tt);
          rest = record { prepared = h.rest.prepared; owed = h.rest.owed };
          job = h.job;
          birth = h.birth;
          told = refl;
          right = refl;
        }

    -- an unmarked frame that has one reference is marked first
    marked_upgraded : (e : Entry) → s.right p page ≡ Some RW → s.entry p page ≡ Some e → e.writable ≡ false → s.mark e.frame ≡ false → s.count e.frame ≡ 1 → IsReady s a p (marks a p page e ++ upgrade a p page e.frame ∷ [])
    marked_upgraded e right there barred unmarked once =
        record {
          kinds = λ strand. (counting_one page e.frame e.writable, (marking_it page e.frame, (upgrading page e.frame, tt)));
          can = (
            (h.birth, free, (h.job, unprepared_here), there, unmarked, once),
            (
              put_same a (marking p page e.frame) s.job,
              ((h.birth, (free.0, put_same p None (put p (Some a) s.table)), right, there ∙ ap (λ (b : Bool). Some (entry_of e.frame b)) barred, put_same e.frame true s.mark), tt),
            ),
          );
          rest = at_rest (run s (marks a p page e ++ upgrade a p page e.frame ∷ [])) a unprepared_here h.rest.owed;
          job = put_same a idle (put a (marking p page e.frame) s.job);
          birth = h.birth;
          told = refl;
          right = refl;
        }

    marked_once : (e : Entry) → s.entry p page ≡ Some e → s.mark e.frame ≡ false → s.count e.frame ≡ 1 → IsReady s a p (marks a p page e)
    marked_once e there unmarked once =
        record {
          kinds = λ strand. (counting_one page e.frame e.writable, (marking_it page e.frame, tt));
          can = ((h.birth, free, (h.job, unprepared_here), there, unmarked, once), (put_same a (marking p page e.frame) s.job, tt));
          rest = at_rest (run s (marks a p page e)) a unprepared_here h.rest.owed;
          job = put_same a idle (put a (marking p page e.frame) s.job);
          birth = h.birth;
          told = refl;
          right = refl;
        }

    -- one that may have others is copied, and its reference given back
    broken : (e : Entry) (new : ℕ) (write : Bool) → frame ≡ Some new → (write ≡ true → s.right p page ≡ Some RW) → s.entry p page ≡ Some e → s.mark e.frame ≡ false → IsReady s a p (take_frame a new ∷ break_entry a p page e.frame new e.writable write ∷ put_entry a e.frame ∷ [])
    broken e new write found right there unmarked =
        record {
          kinds = λ strand. (taking new, (breaking page e.frame new e.writable write, (putting e.frame, tt)));
          can = (
            can_take new found,
            (
              (h.birth, free, h.job, put_same a (Some new) s.prepared, h.rest.owed, there, grind (arith, nat_tests), right, no_mirror page),
              (put_same a (Some e.frame) s.owed, tt),
            ),
          );
          rest = at_rest (run s (take_frame a new ∷ break_entry a p page e.frame new e.writable write ∷ put_entry a e.frame ∷ [])) a
              (put_same a None (put a (Some new) s.prepared)) (put_same a None (put a (Some e.frame) s.owed));
          job = h.job;
          birth = h.birth;
          told = refl;
          right = refl;
        }

    -- what each fault comes to, of a page that is read or written

    leads_breaks : (e : Entry) (write : Bool) (found : Option ℕ) → frame ≡ found → (write ≡ true → s.right p page ≡ Some RW) → s.entry p page ≡ Some e → s.mark e.frame ≡ false → LeadsTo s a p page write None (breaks a p page e write found)
    leads_breaks e write None found right there unmarked = (no_frame, refl)
    leads_breaks e write (Some f) found right there unmarked =
        let counted = h.counted page e there in
        let unused : s.count f ≡ 0 = (is_free f found).1 in
        let one : CoreState = happens s (take_frame a f) in
        let two : CoreState = happens one (break_entry a p page e.frame f e.writable write) in
        let old : Bool = if two.count e.frame == 1 then false else two.mark e.frame in (
          refl,
          broken e f write found right there unmarked,
          record {
            free = free;
            entry = entry_of f write;
            there = put2_same p page (Some (entry_of f write)) s.entry;
            marked = put_other e.frame f old two.mark (differ s.count f e.frame unused counted) ∙ put_same f true one.mark;
            may = λ is. is;
          },
        )

    leads_writable : (e : Entry) (once : Bool) → s.right p page ≡ Some RW → s.entry p page ≡ Some e → e.writable ≡ false → s.mark e.frame ≡ false → (s.count e.frame == 1) ≡ once → LeadsTo s a p page true None (if once then Ok (marks a p page e ++ upgrade a p page e.frame ∷ []) else breaks a p page e true frame)
    leads_writable e true right there barred unmarked count = (
      refl,
      marked_upgraded e right there barred unmarked (grind (arith, nat_tests)),
      record {
        free = (free.0, put_same p None (put p (Some a) s.table));
        entry = entry_of e.frame true;
        there = put2_same p page (Some (entry_of e.frame true)) s.entry;
        marked = put_same e.frame true s.mark;
        may = λ is. refl;
      },
    )
    leads_writable e false right there barred unmarked count =
        leads_breaks e true frame refl (λ is. right) there unmarked

    leads_marked : (e : Entry) (mark : Bool) → s.right p page ≡ Some RW → s.entry p page ≡ Some e → e.writable ≡ false → s.mark e.frame ≡ mark → LeadsTo s a p page true None (makes_writable a p page e mark (s.count e.frame) frame)
    leads_marked e true right there barred is = (
      refl,
      upgraded e right there barred is,
      record {
        free = free;
        entry = entry_of e.frame true;
        there = put2_same p page (Some (entry_of e.frame true)) s.entry;
        marked = is;
        may = λ may. refl;
      },
    )
    leads_marked e false right there barred is = leads_writable e (s.count e.frame == 1) right there barred is refl

    leads_entry : (e : Entry) (writable : Bool) → s.right p page ≡ Some RW → s.entry p page ≡ Some e → e.writable ≡ writable → LeadsTo s a p page true None (if writable then Ok [] else makes_writable a p page e (s.mark e.frame) (s.count e.frame) frame)
    leads_entry e true right there may = (
      refl,
      needs_none,
      record { free = free; entry = e; there = there; marked = h.marked page e there may; may = λ is. may },
    )
    leads_entry e false right there barred = leads_marked e (s.mark e.frame) right there barred refl

    leads_fills_writable : (found : Option ℕ) → frame ≡ found → s.right p page ≡ Some RW → s.entry p page ≡ None → LeadsTo s a p page true None (fills_writable a p page found)
    leads_fills_writable None found right none = (no_frame, refl)
    leads_fills_writable (Some f) found right none = (
      refl,
      filled_writable f found right none,
      record {
        free = free;
        entry = entry_of f true;
        there = put2_same p page (Some (entry_of f true)) (put2 p page (Some (entry_of f false)) s.entry);
        marked = put_same f true (put f false s.mark);
        may = λ is. refl;
      },
    )

    pub write_leads : (rights : Option Rights) (entry : Option Entry) → s.right p page ≡ rights → s.entry p page ≡ entry → LeadsTo s a p page true (store_denial rights) (write_fault a p page rights entry s.mark s.count frame)
    write_leads None entry is there = (missing, refl)
    write_leads (Some R) entry is there = (forbidden, refl)
    write_leads (Some RW) None is there = leads_fills_writable frame refl is there
    write_leads (Some RW) (Some e) is there = leads_entry e e.writable is there refl

    leads_fills : (found : Option ℕ) → frame ≡ found → IsSome (s.right p page) → s.entry p page ≡ None → LeadsTo s a p page false None (fills a p page found)
    leads_fills None found named none = (no_frame, refl)
    leads_fills (Some f) found named none = (
      refl,
      filled f found named none,
      record {
        free = free;
        entry = entry_of f false;
        there = put2_same p page (Some (entry_of f false)) s.entry;
        marked = put_same f true (put f false s.mark);
        may = λ is. is;
      },
    )

    leads_once : (e : Entry) (once : Bool) → s.entry p page ≡ Some e → s.mark e.frame ≡ false → (s.count e.frame == 1) ≡ once → LeadsTo s a p page false None (if once then Ok (marks a p page e) else breaks a p page e false frame)
    leads_once e true there unmarked count = (
      refl,
      marked_once e there unmarked (grind (arith, nat_tests)),
      record {
        free = (free.0, put_same p None (put p (Some a) s.table));
        entry = e;
        there = there;
        marked = put_same e.frame true s.mark;
        may = λ is. absurd (cc is);
      },
    )
    leads_once e false there unmarked count =
        leads_breaks e false frame refl (λ is. absurd (cc is)) there unmarked

    leads_unshares : (e : Entry) (mark : Bool) → s.entry p page ≡ Some e → s.mark e.frame ≡ mark → LeadsTo s a p page false None (unshares a p page e mark (s.count e.frame) frame)
    leads_unshares e true there is = (
      refl,
      needs_none,
      record { free = free; entry = e; there = there; marked = is; may = λ may. absurd (cc may) },
    )
    leads_unshares e false there is = leads_once e (s.count e.frame == 1) there is refl

    read_leads : (rights : Option Rights) (entry : Option Entry) → s.right p page ≡ rights → s.entry p page ≡ entry → LeadsTo s a p page false (load_denial rights) (unshare_fault a p page rights entry s.mark s.count frame)
    read_leads None entry is there = (missing, refl)
    read_leads (Some rights) None is there = leads_fills frame refl (rw is refl) there
    read_leads (Some rights) (Some e) is there = leads_unshares e (s.mark e.frame) there refl

    -- the page of a pin
    pub pin_leads : (write : Bool) → LeadsTo s a p page write (pin_denial write (s.right p page)) (pin_fault s a p page write frame)
    pin_leads true = write_leads (s.right p page) (s.entry p page) refl refl
    pin_leads false = read_leads (s.right p page) (s.entry p page) refl refl
