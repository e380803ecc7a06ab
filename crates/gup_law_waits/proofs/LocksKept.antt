-- What a turn leaves of a process of which another actor keeps a lock: its locks and its entries.
use Rattle.std.proofs.Common.{◌≡◌, ℕ, ◌+◌, ◌<◌, ◌⊎◌, inl, inr, Bool, true, false, nat_lt, List, [], ◌∷◌, length, ◌==◌, if◌then◌else◌, zero, suc, Option, Some, None, IsSome, refl, sym, ap, ◌∙◌, subst, arith}
use Rattle.std.specs.Prelude.{◌&&◌, not}
use Rattle.std.proofs.lemmas.Bool.Decides.{nat_tests}
use Rattle.gup_base.specs.declared.entry.Allowed.TheVariants.{Only, Any}
use Rattle.gup_base.specs.declared.entry.Entry.{Entry}
use Rattle.gup_base.specs.declared.entry.Rights.{Rights}
use Rattle.gup_base.specs.declared.entry.Want.{Want}
use Rattle.gup_base.specs.declared.entry.Zone.{Zone}
use Rattle.gup_plain.specs.Event.{words}
use Rattle.gup_plain.specs.Put.{put, put2}
use Rattle.gup_plain.specs.State.{Birth, unborn, growing, born, failed}
use Rattle.gup_plain.specs.declared.answer.Answer.{Answer}
use Rattle.gup_plain.specs.declared.answer.Answer.TheVariants as answers
use Rattle.gup_plain.specs.declared.note.Waiting.{Waiting}
use Rattle.gup_script.specs.Script.{ScriptValue}
use Rattle.gup_script.specs.Valid.{IsScript}
use Rattle.gup_script.specs.declared.op.Op.{Op}
use Rattle.gup_script.specs.declared.op.Op.TheVariants.{Pin, Move, Fork, Exit}
use Rattle.gup_spec_events.specs.State.{CoreState, Job, idle, moving, Counted, unread, one as counted_one, more as counted_more, forking, between, counted, lowered, cleared, copying, walking}
use Rattle.gup_spec_events.specs.Event.{CoreEvent, entry_of, take_frame, put_entry, place_frame, run, has_tables}
use Rattle.gup_law_base.specs.Sound.{IsSound, Forking, forking_of, keeps_structure, keeps_table}
use Rattle.gup_spec_journal.specs.Place.{Place, Doer, doer, doer_of, birth_by, birth_for, process_of}
use Rattle.gup_spec_turns.specs.CoreTurn.{CoreTurn, answers_with, allows_store, frame_in, free_in, frame_for, zones_of}
use Rattle.gup_spec_turns.specs.JobPlace.{job_place, place_in, unbegun, from_page}
use Rattle.gup_spec_turns.specs.MoveTurns.{place_turn, counted_turn, move_turn}
use Rattle.gup_spec_turns.specs.ForkTurns.{next_page, page_turn, next_turn, share_turn, frame_turn, copy_turn, copying_turn, fork_turn}
use Rattle.gup_spec_turns.specs.Run.{RunState, op_in, waiting_with, waiting_in, core_turn_in}
use Rattle.gup_spec_turns.specs.Turn.{turn_at, failed_turn, op_turn}
use Rattle.gup_spec_turns.proofs.TurnParts.{clear_turn_by, waits_at}
use Rattle.gup_spec_turns.specs.Emptying.{emptying}
use Rattle.gup_spec_turns.proofs.Unseen.{emptying_reads, emptying_unseen}
use Rattle.gup_law_turns.proofs.CalmStates.{MayMove}
use Rattle.gup_spec_turns.specs.PinPlace.{StandsAtPage}
use Rattle.gup_spec_turns.specs.PinTurns.{pins_behind, ends_moved, pins_moved, moved_turn, begins_or_pins, pin_turn_in, pin_turn}
use Rattle.gup_spec_turns.specs.WalkTurns.{walk_turn}
use Rattle.gup_spec_turns.specs.Waits.{Locks, pin_locks, held_by_other, waits_for_locks, first_waiting}
use Rattle.gup_plain.specs.declared.note.Waiting.TheVariants as waitings
use Rattle.gup_law_turns.proofs.EventLists.{Law}
use Rattle.gup_law_turns.proofs.KeptParts.{OfProcess, of_process, KeepsPages, apart, same_or_apart, leaves, stays_locked, stays_out, handles_leave}
use Rattle.gup_law_turns.proofs.Puts.{put_same, some_same}
use Rattle.gup_law_turns.proofs.ShownTurns.{idle_place}
use Rattle.gup_law_turns.proofs.StandingStates.{Stands, IsTaken}
use Rattle.gup_law_turns.proofs.TurnShapes.{FitsMove, FitsFork, FitsAt, child_of, strand_of}
use Rattle.gup_law_turns.proofs.TurnSteps.{own_in, own_taken_in, Middle, middle_in, same_waiting, stands_tabled}
use Rattle.gup_law_turns.proofs.TurnSubjects.{still_or_going_own}
use Rattle.gup_law_journal.proofs.LockHolders.{fork_keeps}
use Rattle.gup_law_waits.specs.Woken.{nobody, everybody, wakes}
use Rattle.gup_law_waits.proofs.WalksKept.{KeepsEntries, begins_keep, walk_keeps, needs_both}
use Rattle.gup_law_waits.proofs.PlainWaits.{answers_it, over_unbegun}
use Rattle.gup_law_tables.specs.Standing.{IsButForTables}
use Rattle.gup_law_turns.proofs.TurnAsOwn.{own_by}

-- The structure lock of process q stays with actor c, and no page of q gets an entry, nor one that allows a store.
pub record KeepsOut (s t : CoreState) (q c : ℕ) : Type 0 where
  pub locked : t.structure q ≡ Some c
  pub absent : (page : ℕ) → s.entry q page ≡ None → t.entry q page ≡ None
  pub barred : (page : ℕ) → allows_store (s.entry q page) ≡ false → allows_store (t.entry q page) ≡ false

same_keeps : (s t : CoreState) (q c : ℕ) → t.structure q ≡ Some c → t.entry q ≡ s.entry q → KeepsOut s t q c
same_keeps s t q c locked same =
    record {
      locked = locked;
      absent = λ page none. ap (λ (f : ℕ → Option Entry). f page) same ∙ none;
      barred = λ page denied. ap (λ (f : ℕ → Option Entry). allows_store (f page)) same ∙ denied;
    }

-- the actor's own fork

-- a page with an entry becomes read-only, and the child gets an entry
shared_absent : (entry : ℕ → ℕ → Option Entry) (q c page f g : ℕ) → (q ≡ c → ⊥) → (entry q page ≡ None → ⊥) → entry q g ≡ None → put2 c page (Some (entry_of f false)) (put2 q page (Some (entry_of f false)) entry) q g ≡ None
shared_absent entry q c page f g other some none = grind (arith, nat_tests)

shared_barred : (entry : ℕ → ℕ → Option Entry) (q c page f g : ℕ) → (q ≡ c → ⊥) → allows_store (entry q g) ≡ false → allows_store (put2 c page (Some (entry_of f false)) (put2 q page (Some (entry_of f false)) entry) q g) ≡ false
shared_barred entry q c page f g other denied = grind (arith, nat_tests)

-- another process gets an entry
other_entry : (entry : ℕ → ℕ → Option Entry) (q c page : ℕ) (new : Option Entry) → (q ≡ c → ⊥) → put2 c page new entry q ≡ entry q
other_entry entry q c page new other = rw (apart q c other) refl

some_entry : (entry : Option Entry) → IsSome entry → entry ≡ None → ⊥
some_entry None is none = cc is
some_entry (Some e) is none = cc none

module _ (s : CoreState) (a p child : ℕ) (other : p ≡ child → ⊥) (locked : s.structure p ≡ Some a) where
  -- what a turn of the fork leaves, unless it answers
  abbrev Left : CoreTurn → Type 0
  Left turn = (answers_it turn.whats ≡ true → ⊥) → KeepsOut s (run s turn.events) p a

  left_page : (done : List ℕ) (page : ℕ) (entry : Option Entry) → Left (page_turn s a p child done page entry)
  left_page done page None never = same_keeps s _ p a locked refl
  left_page done page (Some e) never = same_keeps s _ p a locked refl

  left_next : (done : List ℕ) (next : Option ℕ) → Left (next_turn s a p child done next)
  left_next done None never = absurd (never refl)
  left_next done (Some page) never = left_page done page (s.entry p page) never

  left_share : (done : List ℕ) (page : ℕ) (may : Bool) → IsSome (s.entry p page) → Left (share_turn s a p child done page (s.entry p page) may)
  left_share done page false there never = absurd (never refl)
  left_share done page true there never =
      let f : ℕ = frame_in (s.entry p page) in
      record {
        locked = locked;
        absent = λ g none. shared_absent s.entry p child page f g other (some_entry (s.entry p page) there) none;
        barred = λ g denied. shared_barred s.entry p child page f g other denied;
      }

  left_frame : (done : List ℕ) (page word : ℕ) (free : Option ℕ) → Left (frame_turn s a p child done page word free)
  left_frame done page word None never = absurd (never refl)
  left_frame done page word (Some f) never = same_keeps s _ p a locked refl

  left_copy : (done : List ℕ) (page word to : ℕ) (more : Bool) → Left (copy_turn s a p child done page word to more)
  left_copy done page word to true never = same_keeps s _ p a locked refl
  left_copy done page word to false never = same_keeps s _ p a locked (other_entry s.entry p child page _ other)

  left_copying : (done : List ℕ) (page word : ℕ) (prepared : Option ℕ) → Left (copying_turn s a p child done page word prepared)
  left_copying done page word None never = left_frame done page word (frame_for s child page Any) never
  left_copying done page word (Some to) never = left_copy done page word to (nat_lt word words) never

-- the fork of a born process is into another one, of which it has the structure lock
grown_apart : (s : CoreState) (p child : ℕ) → s.birth p ≡ born → s.birth child ≡ growing p → p ≡ child → ⊥
grown_apart s p child lives grows same = let both : s.birth child ≡ born = ap s.birth (sym same) ∙ lives in cc

fork_left : (s : CoreState) (a p child : ℕ) (place : Place) (job : Job) (prepared : Option ℕ) → FitsFork s a p child place job prepared → 0 < place.far → s.birth p ≡ born → (answers_it (fork_turn s a p child job).whats ≡ true → ⊥) → KeepsOut s (run s (fork_turn s a p child job).events) p a
fork_left s a p child place idle prepared fits far lives never = absurd (let first = fits.0.0 in omega (arith, first, far))
fork_left s a p child place (forking q c done between) prepared fits far lives never =
    left_next s a p child (grown_apart s p child lives fits.1.birth) fits.1.locked done (next_page (s.right child) done) never
fork_left s a p child place (forking q c done (counted page)) prepared fits far lives never =
    left_share s a p child (grown_apart s p child lives fits.1.0.birth) fits.1.0.locked done page (has_tables s child page) fits.1.1.entry never
fork_left s a p child place (forking q c done (copying page word)) prepared fits far lives never =
    left_copying s a p child (grown_apart s p child lives fits.1.0.birth) fits.1.0.locked done page word (s.prepared a) never
fork_left s a p child place (forking q c done step) prepared fits far lives never = absurd fits.1
fork_left s a p child place job prepared fits far lives never = absurd fits

-- who keeps a lock

structure_idle : {q : ℕ} {X : Type 0} {job : Job} → job ≡ idle → keeps_structure job ≡ Some q → X
structure_idle is keeps = absurd (cc (sym (ap keeps_structure is) ∙ keeps))

table_idle : {q : ℕ} {X : Type 0} {job : Job} → job ≡ idle → keeps_table job ≡ Some q → X
table_idle is keeps = absurd (cc (sym (ap keeps_table is) ∙ keeps))

move_structure : (s : CoreState) (b p page q : ℕ) (zone : Zone) (place : Place) (job : Job) → FitsMove s b p page zone place job → keeps_structure job ≡ Some q → ⊥
move_structure s b p page q zone place idle fits keeps = cc keeps
move_structure s b p page q zone place (moving k g e allowed count) fits keeps = cc keeps
move_structure s b p page q zone place job fits keeps = fits

pin_structure : (s : CoreState) (b p page n got q : ℕ) (want : Want) (fast : Bool) (job : Job) → StandsAtPage s b p page n got want fast job → keeps_structure job ≡ Some q → ⊥
pin_structure s b p page n got q want fast idle at keeps = cc keeps
pin_structure s b p page n got q want fast (moving k g e allowed count) at keeps = cc keeps
pin_structure s b p page n got q want fast (walking k write long sequence step) at keeps = cc keeps
pin_structure s b p page n got q want fast job at keeps = at

-- an actor that keeps a structure lock is in the middle of a fork
pub forks_by : (s : CoreState) (who : Doer) (q : ℕ) (op : Option Op) (place : Place) → FitsAt s who op place → keeps_structure (s.job who.actor) ≡ Some q → (child : ℕ) × (op ≡ Some (Fork child)) × (who.proc ≡ q) × (0 < place.far)
forks_by s who q (Some (Pin handle page n want fast)) place fits keeps = absurd (pin_structure s who.actor who.proc (page + length (s.taken who.actor)) n (length (s.taken who.actor)) q want fast (s.job who.actor) fits.at keeps)
forks_by s who q (Some (Move proc page zone)) place fits keeps = absurd (move_structure s who.actor who.proc page q zone place (s.job who.actor) fits.2 keeps)
forks_by s who q (Some (Fork child)) place fits keeps =
    let forks = fork_keeps s who.actor who.proc child q place (s.job who.actor) (s.prepared who.actor) fits.1 (inl keeps) in
    (child, refl, forks.of, forks.begun.0)
forks_by s who q (Some Exit) place fits keeps = structure_idle fits.0 keeps
forks_by s who q op place fits keeps = structure_idle fits.0.0 keeps

-- and one that keeps a table lock in that of a fork, of a move, or of a page of a pin
pub data HasTable (s : CoreState) (a p : ℕ) (place : Place) : Option Op → Type 0 where
  by_fork : (child : ℕ) → FitsFork s a p child place (s.job a) (s.prepared a) → HasTable s a p place (Some (Fork child))
  by_move : (proc page : ℕ) (zone : Zone) → FitsMove s a p page zone place (s.job a) → HasTable s a p place (Some (Move proc page zone))
  by_pin : (handle page n : ℕ) (want : Want) (fast : Bool) → StandsAtPage s a p (page + length (s.taken a)) n (length (s.taken a)) want fast (s.job a) → HasTable s a p place (Some (Pin handle page n want fast))

pub has_table : (s : CoreState) (who : Doer) (q : ℕ) (op : Option Op) (place : Place) → FitsAt s who op place → keeps_table (s.job who.actor) ≡ Some q → HasTable s who.actor who.proc place op
has_table s who q (Some (Pin handle page n want fast)) place fits keeps = by_pin handle page n want fast fits.at
has_table s who q (Some (Move proc page zone)) place fits keeps = by_move proc page zone fits.2
has_table s who q (Some (Fork child)) place fits keeps = by_fork child fits.1
has_table s who q (Some Exit) place fits keeps = table_idle fits.0 keeps
has_table s who q op place fits keeps = table_idle fits.0.0 keeps

-- a process whose structure is locked is born
pub structure_born : (s : CoreState) (q d : ℕ) → IsSound s → s.structure q ≡ Some d → s.birth q ≡ born
structure_born s q d sound locked = go (s.job d) refl (sound.1.structure_held q d locked)
  where
    go : (job : Job) → s.job d ≡ job → keeps_structure (s.job d) ≡ Some q → s.birth q ≡ born
    go (forking k c done step) is keeps =
        let f : Forking = record { proc = k; child = c; done = done; step = step } in
        let same : k ≡ q = some_same (sym (ap keeps_structure is) ∙ keeps) in
        ap s.birth (sym same) ∙ sound.1.fork_parent d f (sound.1.forks_are d ∙ ap forking_of is)
    go job is keeps = absurd (let none : keeps_structure (s.job d) ≡ None = ap keeps_structure is in cc)

-- a move clears an entry, and then counts; after that its end wakes others

cleared_out : (s t : CoreState) (q d page : ℕ) → t.structure q ≡ Some d → t.entry ≡ put2 q page None s.entry → KeepsOut s t q d
cleared_out s t q d page locked same =
    record {
      locked = locked;
      absent = λ g none. ap (λ (f : ℕ → ℕ → Option Entry). f q g) same ∙ absent s.entry g none;
      barred = λ g denied. ap (λ (f : ℕ → ℕ → Option Entry). allows_store (f q g)) same ∙ barred s.entry g denied;
    }
  where
    absent : (entry : ℕ → ℕ → Option Entry) (g : ℕ) → entry q g ≡ None → put2 q page None entry q g ≡ None
    absent entry g none = grind (arith, nat_tests)

    barred : (entry : ℕ → ℕ → Option Entry) (g : ℕ) → allows_store (entry q g) ≡ false → allows_store (put2 q page None entry q g) ≡ false
    barred entry g denied = grind (arith, nat_tests)

module _ (s : CoreState) (a p page d : ℕ) (zone : Zone) (locked : s.structure p ≡ Some d) where
  abbrev Out : CoreTurn → Type 0
  Out turn = (place_in (run s turn.events) a ≡ unbegun → ⊥) → KeepsOut s (run s turn.events) p d

  ends_here : (turn : CoreTurn) → (run s turn.events).job a ≡ idle → Out turn
  ends_here turn rests never = absurd (never (idle_place (run s turn.events) a rests))

  out_clear : (right : Option Rights) (entry : Option Entry) → Out (clear_turn_by right a p page zone entry)
  out_clear None entry never = same_keeps s s p d locked refl
  out_clear (Some rights) None never = same_keeps s s p d locked refl
  out_clear (Some rights) (Some e) never = cleared_out s _ p d page locked refl

  out_place : (e : Entry) (free : Option ℕ) → Out (place_turn a p page e (Only zone) free)
  out_place e None never = ends_here (place_turn a p page e (Only zone) None) (put_same a idle s.job) never
  out_place e (Some f) never = ends_here (place_turn a p page e (Only zone) (Some f)) (put_same a idle s.job) never

  out_counted : (e : Entry) (count : Counted) → Out (counted_turn s a p page e (Only zone) count)
  out_counted e unread never = same_keeps s _ p d locked refl
  out_counted e counted_one never = out_place e (free_in s (Only zone)) never
  out_counted e (counted_more count) never = ends_here (counted_turn s a p page e (Only zone) (counted_more count)) (put_same a idle s.job) never

  out_move : (job : Job) → Out (move_turn s a p page zone job)
  out_move idle never = out_clear (s.right p page) (s.entry p page) never
  out_move (moving k g e allowed count) never = out_counted e count never
  out_move job never = same_keeps s s p d locked refl

-- a turn of a walk leaves the structure lock and the entries of every process
walks_out : (s t : CoreState) (p d : ℕ) → s.structure p ≡ Some d → KeepsEntries s t → KeepsOut s t p d
walks_out s t p d locked kept = same_keeps s t p d (ap (λ (f : ℕ → Option ℕ). f p) kept.0 ∙ locked) (ap (λ (f : ℕ → ℕ → Option Entry). f p) kept.1)

-- so does the turn that begins one
begins_out : (s : CoreState) (a p d : ℕ) → s.structure p ≡ Some d → (handle page n : ℕ) (want : Want) (fast begins : Bool) → not begins ≡ false → KeepsOut s (run s (begins_or_pins begins s a p handle page n (length (s.taken a)) want fast).events) p d
begins_out s a p d locked handle page n want fast true free = walks_out s _ p d locked (begins_keep s a p want)
begins_out s a p d locked handle page n want fast false free = absurd (cc free)

-- and so the turn of any pin that needs no lock: it walks, or is about to
out_walk : (s : CoreState) (a p d : ℕ) → s.structure p ≡ Some d → (handle page n : ℕ) (want : Want) (fast : Bool) (far : ℕ) (job : Job) → StandsAtPage s a p (page + length (s.taken a)) n (length (s.taken a)) want fast job → (pin_locks fast far job).structure ≡ false → KeepsOut s (run s (pin_turn_in s a p handle page n (length (s.taken a)) want fast far job).events) p d
out_walk s a p d locked handle page n want fast far idle at free = begins_out s a p d locked handle page n want fast (fast && far == 0) free
out_walk s a p d locked handle page n want fast far (moving q g e allowed count) at free = absurd (let none : s.structure p ≡ None = at.4.unforked in cc)
out_walk s a p d locked handle page n want fast far (walking q write long sequence step) at free =
    walks_out s (run s (walk_turn s a p handle page n want sequence step).events) p d locked (walk_keeps s a p want handle page n sequence step)
out_walk s a p d locked handle page n want fast far job at free = absurd at

-- an operation that may move a page is a move or a pin
move_or_not : (o : Option Op) → (MayMove (strand_of o) → ⊥) ⊎ ((proc page : ℕ) × (zone : Zone) × (o ≡ Some (Move proc page zone))) ⊎ ((handle page n : ℕ) × (want : Want) × (fast : Bool) × (o ≡ Some (Pin handle page n want fast)))
move_or_not (Some (Move proc page zone)) = inr (inl (proc, page, zone, refl))
move_or_not (Some (Pin handle page n want fast)) = inr (inr (handle, page, n, want, fast, refl))
move_or_not o = inl (λ e. e)

-- whoever is of a born process waits for no birth
born_for : (who : Doer) (births : ℕ → Birth) → births who.proc ≡ born → birth_for births who ≡ born
born_for who births is = go who.of_process
  where
    go : (t : Bool) → birth_by t (births who.proc) ≡ born
    go true = is
    go false = refl

-- the child of a fork, begun or not, is not born
fork_unborn : (s : CoreState) (a p child : ℕ) (place : Place) (job : Job) (prepared : Option ℕ) → FitsFork s a p child place job prepared → s.birth child ≡ born → ⊥
fork_unborn s a p child place idle prepared fits is = let yet : s.birth child ≡ unborn = fits.1 in cc
fork_unborn s a p child place (forking q c done between) prepared fits is = let grows : s.birth child ≡ growing p = fits.1.birth in cc
fork_unborn s a p child place (forking q c done (counted page)) prepared fits is = let grows : s.birth child ≡ growing p = fits.1.0.birth in cc
fork_unborn s a p child place (forking q c done (copying page n)) prepared fits is = let grows : s.birth child ≡ growing p = fits.1.0.birth in cc
fork_unborn s a p child place (forking q c done step) prepared fits is = fits.1
fork_unborn s a p child place job prepared fits is = fits

-- a born process is none that an operation of another brings
born_apart : (s : CoreState) (who : Doer) (q : ℕ) (op : Option Op) (place : Place) → FitsAt s who op place → s.birth q ≡ born → (q ≡ who.proc → ⊥) → q ≡ child_of who.proc op → ⊥
born_apart s who q (Some (Fork child)) place fits is other same = fork_unborn s who.actor who.proc child place (s.job who.actor) (s.prepared who.actor) fits.1 (ap s.birth (sym same) ∙ is)
born_apart s who q op place fits is other same = other same

module _ (law : Law) (script : ScriptValue) (valid : IsScript script) (r : RunState) (h : Stands script r) (a : ℕ) where
  abbrev s : CoreState
  s = r.core

  abbrev place : Place
  place = r.places a

  abbrev op : Option Op
  op = op_in script r a

  abbrev who : Doer
  who = doer_of script a op

  abbrev p : ℕ
  p = who.proc

  abbrev c : ℕ
  c = child_of p op

  -- the turn but for page tables
  abbrev turn : CoreTurn
  turn = own_in script r a

  abbrev t : CoreState
  t = run s turn.events

  turns : IsTaken s who place op (waiting_in script r a) turn
  turns = own_taken_in script valid r h a

  -- the turn wakes nobody who waits for a lock
  abbrev IsStill : Type 0
  IsStill = wakes op (place_in t a) ≡ everybody → ⊥

  -- The slots that a turn empties first change nothing of all this.
  place_emptied : (u : CoreTurn) → place_in (run s (emptying s a u).events) a ≡ place_in (run s u.events) a
  place_emptied u = emptying_reads (λ v. place_in v a) (λ f v. refl) s a u

  out_emptied : (q d : ℕ) (u : CoreTurn) → KeepsOut s (run s u.events) q d → KeepsOut s (run s (emptying s a u).events) q d
  out_emptied q d u kept =
      subst (λ (v : CoreState). KeepsOut s v q d) (sym (emptying_unseen s a u)) (record { locked = kept.locked; absent = kept.absent; barred = kept.barred })

  pages_emptied : (q : ℕ) (u : CoreTurn) → KeepsPages q s (run s u.events) → KeepsPages q s (run s (emptying s a u).events)
  pages_emptied q u kept =
      subst (λ (v : CoreState). KeepsPages q s v) (sym (emptying_unseen s a u)) (record { right = kept.right; entry = kept.entry; table = kept.table; unforked = kept.unforked })

  -- What is so of a turn without events, and of the operation's own, by the birth of its process, is so of the actor's turn.
  turn_is : (P : CoreTurn → Type 0) (o : Op) → op ≡ Some o → ((u : CoreTurn) → P u → P (emptying s a u)) → ((u : CoreTurn) → u.events ≡ [] → P u) → ((b : Birth) → birth_for s.birth (doer_of script a (Some o)) ≡ b → P (turn_at b (failed_turn a (doer_of script a (Some o)).proc o) (op_turn s a (doer_of script a (Some o)).proc (doer_of script a (Some o)).slots place.far o))) → P turn
  turn_is P o is unseen none by_birth = go (waiting_in script r a) refl
    where
      same : (w : Option Waiting) → waiting_in script r a ≡ w → P (own_by s (doer_of script a (Some o)) place.far (Some o) w) → P turn
      same w waits there =
          subst (λ (v : Option Waiting). P (own_by s who place.far op v)) (sym waits)
          (subst (λ (x : Option Op). P (own_by s (doer_of script a x) place.far x w)) (sym is) there)

      go : (w : Option Waiting) → waiting_in script r a ≡ w → P turn
      go (Some w) waits = same (Some w) waits (none (own_by s (doer_of script a (Some o)) place.far (Some o) (Some w)) refl)
      go None waits =
          let who : Doer = doer_of script a (Some o) in
          let b : Birth = birth_for s.birth who in
          same None waits (unseen (turn_at b (failed_turn a who.proc o) (op_turn s a who.proc who.slots place.far o)) (by_birth b refl))

  -- A fork of actor d keeps the structure lock of process q: the turn of another actor gives no page of it an entry, nor one that
  -- allows a store, unless it wakes whoever waits.
  others_keep_own : IsStill → (d q : ℕ) → (d ≡ a → ⊥) → s.structure q ≡ Some d → KeepsOut s t q d
  others_keep_own still d q other locked =
      elim (still_or_going_own s who place.far turns.shape) [
        | inl about ↦ unchanged ((handles_leave s a about.0 turn.events about.1).process q)
        | inr moves ↦ by_process (same_or_apart q p)
      ]
    where
      unchanged : of_process t q ≡ of_process s q → KeepsOut s t q d
      unchanged same = same_keeps s t q d (ap (λ (o : OfProcess). o.structure) same ∙ locked) (ap (λ (o : OfProcess). o.entry) same)

      locked_then : t.structure q ≡ Some d
      locked_then = stays_locked law s a p c (strand_of op) turn.events turns.done.kinds h.sound turns.done.can d q other locked

      -- a move of it
      moved : (proc page : ℕ) (zone : Zone) → op ≡ Some (Move proc page zone) → q ≡ p → KeepsOut s t q d
      moved proc page zone is same =
          let own : q ≡ proc = same ∙ ap (λ (o : Option Op). (doer_of script a o).proc) is in
          let here : s.structure proc ≡ Some d = ap s.structure (sym own) ∙ locked in
          subst (λ (k : ℕ). KeepsOut s t k d) (sym own)
          (turn_is (λ (u : CoreTurn). (place_in (run s u.events) a ≡ unbegun → ⊥) → KeepsOut s (run s u.events) proc d) (Move proc page zone) is
          (λ u kept never. out_emptied proc d u (kept (λ there. never (place_emptied u ∙ there))))
          (λ u none never. subst (λ (es : List CoreEvent). KeepsOut s (run s es) proc d) (sym none) (same_keeps s s proc d here refl))
          (by_birth here) (λ over. still (ap (λ (o : Option Op). wakes o (place_in t a)) is ∙ ap (wakes (Some (Move proc page zone))) over)))
        where
          by_birth : s.structure proc ≡ Some d → (b : Birth) → birth_for s.birth (doer_of script a (Some (Move proc page zone))) ≡ b → (place_in (run s (turn_at b (answers_with answers.Unborn) (move_turn s a proc page zone (s.job a))).events) a ≡ unbegun → ⊥) → KeepsOut s (run s (turn_at b (answers_with answers.Unborn) (move_turn s a proc page zone (s.job a))).events) proc d
          by_birth here failed lost never = same_keeps s s proc d here refl
          by_birth here b birth never = out_move s a proc page d zone here (s.job a) never

      -- a pin of it waits, unless it walks
      pinned : (handle page n : ℕ) (want : Want) (fast : Bool) → op ≡ Some (Pin handle page n want fast) → q ≡ p → KeepsOut s t q d
      pinned handle page n want fast is same =
          subst (λ (x : ℕ). KeepsOut s t x d) (sym own) (by_lock (pin_locks fast place.far (s.job a)).structure refl)
        where
          k : ℕ
          k = process_of script a

          own : q ≡ k
          own = same ∙ ap (λ (o : Option Op). (doer_of script a o).proc) is

          here : s.structure k ≡ Some d
          here = ap s.structure (sym own) ∙ locked

          at : StandsAtPage s a k (page + length (s.taken a)) n (length (s.taken a)) want fast (s.job a)
          at = (subst (λ (o : Option Op). FitsAt s (doer_of script a o) o place) is (h.fits a)).at

          waits : (pin_locks fast place.far (s.job a)).structure ≡ true → waiting_in script r a ≡ Some (waitings.Holder d)
          waits needed =
              ap (λ (o : Option Op). waiting_with s (doer_of script a o) place.far o) is
              ∙ ap (λ (b : Birth). waits_at b k (waits_for_locks (pin_locks fast place.far (s.job a)) a (s.structure k) (s.table k))) (born_for (doer script a) s.birth (structure_born s k d h.sound here))
              ∙ ap (λ (locks : Locks). waits_for_locks locks a (s.structure k) (s.table k)) (needs_both fast place.far (s.job a) needed)
              ∙ ap (λ (x : Option ℕ). first_waiting (held_by_other a x) (held_by_other a (s.table k))) here
              ∙ ap (λ (c : Bool). first_waiting (if c then None else Some (waitings.Holder d)) (held_by_other a (s.table k))) (apart a d (λ e. other (sym e)))

          by_lock : (needed : Bool) → (pin_locks fast place.far (s.job a)).structure ≡ needed → KeepsOut s t k d
          by_lock true needed =
              let none : turn.events ≡ [] =
              ap (λ (w : Option Waiting). (own_by s who place.far op w).events) (waits needed)
              ∙ ap (λ (o : Option Op). (own_by s (doer_of script a o) place.far o (Some (waitings.Holder d))).events) is in
              subst (λ (es : List CoreEvent). KeepsOut s (run s es) k d) (sym none) (same_keeps s s k d here refl)
          by_lock false needed =
              turn_is (λ (u : CoreTurn). KeepsOut s (run s u.events) k d) (Pin handle page n want fast) is (out_emptied k d)
              (λ u none. subst (λ (es : List CoreEvent). KeepsOut s (run s es) k d) (sym none) (same_keeps s s k d here refl)) by_birth
            where
              by_birth : (b : Birth) → birth_for s.birth (doer script a) ≡ b → KeepsOut s (run s (turn_at b (answers_with answers.Unborn) (pin_turn s a k handle page n want fast place.far)).events) k d
              by_birth failed lost = same_keeps s s k d here refl
              by_birth b birth = out_walk s a k d here handle page n want fast place.far (s.job a) at needed

      by_process : (q ≡ p) ⊎ (q ≡ p → ⊥) → KeepsOut s t q d
      by_process (inl same) =
          elim (move_or_not op) [
            | inl unmoved ↦ same_keeps s t q d locked_then (subst (λ (k : ℕ). t.entry k ≡ s.entry k) (sym same) (stays_out law s a p c (strand_of op) turn.events unmoved turns.done.kinds h.sound turns.done.can d other (ap s.structure (sym same) ∙ locked)))
            | inr (inl is) ↦ moved is.0 is.1 is.2 is.3 same
            | inr (inr is) ↦ pinned is.0 is.1 is.2 is.3 is.4 is.5 same
          ]
      by_process (inr away) =
          unchanged ((leaves s a p c (strand_of op) turn.events turns.done.kinds).process q (apart q p away) (apart q c (born_apart s who q op place (h.fits a) (structure_born s q d h.sound locked) away)))

  -- An actor in the middle of a fork keeps the structure lock of its process, and lets in nobody, unless its turn answers.
  module _ (child : ℕ) (forks : op_in script r a ≡ Some (Fork child)) (far : 0 < (r.places a).far) where
    abbrev mine : ℕ
    mine = process_of script a

    born_now : birth_for s.birth (doer script a) ≡ born
    born_now = subst (λ (o : Option Op). birth_for s.birth (doer_of script a o) ≡ born) forks (h.begun a far)

    fits_now : FitsFork s a mine child place (s.job a) (s.prepared a)
    fits_now = (subst (λ (o : Option Op). FitsAt s (doer_of script a o) o place) forks (h.fits a)).1

    -- what is so of a turn without events, and of the fork's, is so of its actor's
    fork_now : (P : CoreTurn → Type 0) → ((u : CoreTurn) → P u → P (emptying s a u)) → ((u : CoreTurn) → u.events ≡ [] → P u) → P (fork_turn s a mine child (s.job a)) → P turn
    fork_now P unseen none goes =
        turn_is P (Fork child) forks unseen none
        (λ b is. subst (λ (x : Birth). P (turn_at x (failed_turn a mine (Fork child)) (fork_turn s a mine child (s.job a)))) (sym born_now ∙ is) goes)

    own_keeps_own : s.birth mine ≡ born → s.structure mine ≡ Some a → (answers_it turn.whats ≡ true → ⊥) → KeepsOut s t mine a
    own_keeps_own lives locked never =
        fork_now (λ (u : CoreTurn). (answers_it u.whats ≡ true → ⊥) → KeepsOut s (run s u.events) mine a)
        (λ u kept over. out_emptied mine a u (kept over)) (λ u none over. subst (λ (es : List CoreEvent). KeepsOut s (run s es) mine a) (sym none) (same_keeps s s mine a locked refl))
        (λ over. fork_left s a mine child place (s.job a) (s.prepared a) fits_now far lives over) never

  -- An actor that keeps a table lock has it after its turn too, and the process has its entries, unless the turn wakes others.
  same_pages : (u : CoreTurn) (k : ℕ) → u.events ≡ [] → KeepsPages k s (run s u.events)
  same_pages u k none = subst (λ (es : List CoreEvent). KeepsPages k s (run s es)) (sym none) (record { right = refl; entry = refl; table = refl; unforked = λ free. free })

  abbrev Stays : Op → (q : ℕ) → CoreTurn → Type 0
  Stays o q u = (answers_it u.whats ≡ true → ⊥) → (wakes (Some o) (place_in (run s u.events) a) ≡ everybody → ⊥) → KeepsPages q s (run s u.events)

  stays_emptied : (o : Op) (q : ℕ) (u : CoreTurn) → Stays o q u → Stays o q (emptying s a u)
  stays_emptied o q u kept over still =
      pages_emptied q u (kept over (λ all. still (ap (wakes (Some o)) (place_emptied u) ∙ all)))

  module _ (q : ℕ) where
    moved_pages : (proc page : ℕ) (zone : Zone) (e : Entry) (count : Counted) → Stays (Move proc page zone) q (counted_turn s a proc page e (Only zone) count)
    moved_pages proc page zone e unread over still = record { right = refl; entry = refl; table = refl; unforked = λ free. free }
    moved_pages proc page zone e counted_one over still = go (free_in s (Only zone)) over
      where
        go : (free : Option ℕ) → (answers_it (place_turn a proc page e (Only zone) free).whats ≡ true → ⊥) → KeepsPages q s (run s (place_turn a proc page e (Only zone) free).events)
        go None never = absurd (never refl)
        go (Some f) never = absurd (never refl)
    moved_pages proc page zone e (counted_more count) over still = absurd (over refl)

    move_pages : (proc page : ℕ) (zone : Zone) (job : Job) → keeps_table job ≡ Some q → Stays (Move proc page zone) q (move_turn s a proc page zone job)
    move_pages proc page zone (moving k g e allowed count) keeps over still = moved_pages proc page zone e count over still
    move_pages proc page zone idle keeps over still = absurd (cc keeps)
    move_pages proc page zone job keeps over still = record { right = refl; entry = refl; table = refl; unforked = λ free. free }

    from_there : (child page : ℕ) (u : CoreTurn) → place_in (run s u.events) a ≡ from_page page → (wakes (Some (Fork child)) (place_in (run s u.events) a) ≡ everybody → ⊥) → ⊥
    from_there child page u there still = still (ap (wakes (Some (Fork child))) there)

    fork_pages : (child k : ℕ) (job : Job) → keeps_table job ≡ Some q → FitsFork s a k child place job (s.prepared a) → s.job a ≡ job → Stays (Fork child) q (fork_turn s a k child job)
    fork_pages child k (forking u v done (counted page)) keeps fits is over still = share (has_tables s child page) over still
      where
        share : (may : Bool) → Stays (Fork child) q (share_turn s a k child done page (s.entry k page) may)
        share false over still = absurd (over refl)
        share true over still = absurd (from_there child (page + 1) (share_turn s a k child done page (s.entry k page) true) (ap (λ (j : Job). job_place j (s.prepared a)) (put_same a (forking k child (page ∷ done) between) (put a (forking k child done (cleared page)) (put a (forking k child done (lowered page)) s.job)))) still)
    fork_pages child k (forking u v done (copying page word)) keeps fits is over still = go (s.prepared a) over still
      where
        frame : (free : Option ℕ) → Stays (Fork child) q (frame_turn s a k child done page word free)
        frame None over still = absurd (over refl)
        frame (Some f) over still = record { right = refl; entry = refl; table = refl; unforked = λ free. free }

        copy : (to : ℕ) (more : Bool) → Stays (Fork child) q (copy_turn s a k child done page word to more)
        copy to true over still = record { right = refl; entry = refl; table = refl; unforked = λ free. free }
        copy to false over still = absurd (from_there child (page + 1) (copy_turn s a k child done page word to false) (ap (λ (j : Job). job_place j ((run s (copy_turn s a k child done page word to false).events).prepared a)) (put_same a (forking k child (page ∷ done) between) s.job)) still)

        go : (prepared : Option ℕ) → Stays (Fork child) q (copying_turn s a k child done page word prepared)
        go None over still = frame (frame_for s child page Any) over still
        go (Some to) over still = copy to (nat_lt word words) over still
    fork_pages child k idle keeps fits is over still = absurd (cc keeps)
    fork_pages child k (forking u v done between) keeps fits is over still = absurd (cc keeps)
    fork_pages child k (forking u v done step) keeps fits is over still = absurd fits.1
    fork_pages child k job keeps fits is over still = absurd fits

    abbrev StaysPin : Op → CoreTurn → Type 0
    StaysPin o u = (wakes (Some o) (place_in (run s u.events) a) ≡ everybody → ⊥) → KeepsPages q s (run s u.events)

    -- the third turn of a page of a pin is its last, and wakes others

    pin_idle : (handle page n : ℕ) (want : Want) (fast : Bool) (u : CoreTurn) → want.long ≡ true → (run s u.events).job a ≡ idle → (wakes (Some (Pin handle page n want fast)) (place_in (run s u.events) a) ≡ everybody → ⊥) → ⊥
    pin_idle handle page n want fast u long rests still =
        still (ap (wakes (Some (Pin handle page n want fast))) (idle_place (run s u.events) a rests) ∙ ap (λ (c : Bool). if c then everybody else nobody) long)

    ends_idle : (k handle g n got : ℕ) (want : Want) (e : Entry) (count : Counted) (answer : Answer) → (run s (ends_moved a k handle g n got want e count answer).events).job a ≡ idle
    ends_idle k handle g n zero want e count answer = put_same a idle s.job
    ends_idle k handle g n (suc got) want e count answer = put_same a idle s.job

    places_idle : (k handle g n : ℕ) (want : Want) (e d : Entry) (f : ℕ) (last : Bool) → (run s (pins_behind (take_frame a f ∷ place_frame a k g f e (zones_of want) ∷ put_entry a e.frame ∷ []) a k handle g n want last d).events).job a ≡ idle
    places_idle k handle g n want e d f true = put_same a idle s.job
    places_idle k handle g n want e d f false = put_same a idle s.job

    pinned_pages : (handle page n : ℕ) (want : Want) (fast : Bool) (k g got : ℕ) (e : Entry) (count : Counted) → want.long ≡ true → StaysPin (Pin handle page n want fast) (moved_turn s a k handle g n got want e count)
    pinned_pages handle page n want fast k g got e unread long still = record { right = refl; entry = refl; table = refl; unforked = λ free. free }
    pinned_pages handle page n want fast k g got e counted_one long still = go (free_in s (zones_of want)) still
      where
        go : (free : Option ℕ) → (wakes (Some (Pin handle page n want fast)) (place_in (run s (pins_moved a k handle g n got want e free).events) a) ≡ everybody → ⊥) → KeepsPages q s (run s (pins_moved a k handle g n got want e free).events)
        go None never = absurd (pin_idle handle page n want fast (pins_moved a k handle g n got want e None) long (ends_idle k handle g n got want e counted_one answers.NoFrame) never)
        go (Some f) never = absurd (pin_idle handle page n want fast (pins_moved a k handle g n got want e (Some f)) long (places_idle k handle g n want e (entry_of f e.writable) f (got + 1 == n)) never)
    pinned_pages handle page n want fast k g got e (counted_more count) long still =
        absurd (pin_idle handle page n want fast (moved_turn s a k handle g n got want e (counted_more count)) long (ends_idle k handle g n got want e (counted_more count) (answers.Unmovable count)) still)

    pin_pages : (handle page n : ℕ) (want : Want) (fast : Bool) (k got : ℕ) (job : Job) → keeps_table job ≡ Some q → StandsAtPage s a k (page + got) n got want fast job → StaysPin (Pin handle page n want fast) (pin_turn_in s a k handle page n got want fast place.far job)
    pin_pages handle page n want fast k got (moving u g e allowed count) keeps at still = pinned_pages handle page n want fast k (page + got) got e count at.4.long still
    pin_pages handle page n want fast k got idle keeps at still = absurd (cc keeps)
    pin_pages handle page n want fast k got (walking u write long sequence step) keeps at still = absurd (cc keeps)
    pin_pages handle page n want fast k got job keeps at still = absurd at

  table_keeps_own : IsStill → (q : ℕ) → s.table q ≡ Some a → KeepsPages q s t
  table_keeps_own still q locked = go op refl (has_here op refl)
    where
      keeps : keeps_table (s.job a) ≡ Some q
      keeps = h.sound.1.table_held q a locked

      has_here : (o : Option Op) → op ≡ o → HasTable s a (doer_of script a o).proc place o
      has_here o is = has_table s (doer_of script a o) q o place (subst (λ (x : Option Op). FitsAt s (doer_of script a x) x place) is (h.fits a)) keeps

      over : (o : Op) → op ≡ Some o → (wakes (Some o) unbegun ≡ everybody) → answers_it turn.whats ≡ true → ⊥
      over o is all answers = still (ap (λ (x : Option Op). wakes x (place_in t a)) is ∙ ap (wakes (Some o)) (over_unbegun turns.shape answers) ∙ all)

      still_of : (o : Op) → op ≡ Some o → wakes (Some o) (place_in t a) ≡ everybody → ⊥
      still_of o is all = still (ap (λ (x : Option Op). wakes x (place_in t a)) is ∙ all)

      go : (o : Option Op) → op ≡ o → HasTable s a (doer_of script a o).proc place o → KeepsPages q s t
      go o is (by_fork child fits) =
          let begun = fork_keeps s a (process_of script a) child q place (s.job a) (s.prepared a) fits (inr keeps) in
          fork_now child is begun.begun.0 (Stays (Fork child) q) (stays_emptied (Fork child) q) (λ u none over still. same_pages u q none)
          (fork_pages q child (process_of script a) (s.job a) keeps fits refl) (over (Fork child) is refl) (still_of (Fork child) is)
      go o is (by_pin handle page n want fast at) =
          let o : Op = Pin handle page n want fast in
          turn_is (λ (u : CoreTurn). (wakes (Some o) (place_in (run s u.events) a) ≡ everybody → ⊥) → KeepsPages q s (run s u.events)) o is
          (λ u kept still. pages_emptied q u (kept (λ all. still (ap (wakes (Some o)) (place_emptied u) ∙ all)))) (λ u none still. same_pages u q none) by_birth (still_of o is)
        where
          by_birth : (b : Birth) → birth_for s.birth (doer script a) ≡ b → (wakes (Some (Pin handle page n want fast)) (place_in (run s (turn_at b (answers_with answers.Unborn) (pin_turn s a (process_of script a) handle page n want fast place.far)).events) a) ≡ everybody → ⊥) → KeepsPages q s (run s (turn_at b (answers_with answers.Unborn) (pin_turn s a (process_of script a) handle page n want fast place.far)).events)
          by_birth failed lost = λ still. same_pages (answers_with answers.Unborn) q refl
          by_birth b birth = pin_pages q handle page n want fast (process_of script a) (length (s.taken a)) (s.job a) keeps at
      go o is (by_move proc page zone fits) =
          turn_is (Stays (Move proc page zone) q) (Move proc page zone) is (stays_emptied (Move proc page zone) q) (λ u none over still. same_pages u q none) by_birth (over (Move proc page zone) is refl) (still_of (Move proc page zone) is)
        where
          by_birth : (b : Birth) → birth_for s.birth (doer_of script a (Some (Move proc page zone))) ≡ b → Stays (Move proc page zone) q (turn_at b (answers_with answers.Unborn) (move_turn s a proc page zone (s.job a)))
          by_birth failed lost = λ over still. same_pages (answers_with answers.Unborn) q refl
          by_birth b birth = move_pages q proc page zone (s.job a) keeps

-- ---- with page tables

-- what is kept is kept whatever tables there are before and after

out_tabled : (s t u v : CoreState) (q d : ℕ) → IsButForTables s t → IsButForTables u v → KeepsOut t u q d → KeepsOut s v q d
out_tabled s t u v q d before after kept =
    let first = subst (λ (x : CoreState). KeepsOut x u q d) before kept in
    let now : KeepsOut s u q d = record { locked = first.locked; absent = first.absent; barred = first.barred } in
    subst (λ (y : CoreState). KeepsOut s y q d) (sym after) (record { locked = now.locked; absent = now.absent; barred = now.barred })

pages_tabled : (s t u v : CoreState) (q : ℕ) → IsButForTables s t → IsButForTables u v → KeepsPages q t u → KeepsPages q s v
pages_tabled s t u v q before after kept =
    let first = subst (λ (x : CoreState). KeepsPages q x u) before kept in
    let now : KeepsPages q s u = record { right = first.right; entry = first.entry; table = first.table; unforked = first.unforked } in
    subst (λ (y : CoreState). KeepsPages q s y) (sym after) (record { right = now.right; entry = now.entry; table = now.table; unforked = now.unforked })

module _ (law : Law) (script : ScriptValue) (valid : IsScript script) (r : RunState) (h : Stands script r) (a : ℕ) where
  middle : Middle r.core (doer_of script a (op_in script r a)) (r.places a).far (op_in script r a) (waiting_in script r a)
  middle = middle_in script valid r h a

  abbrev state : CoreState
  state = middle.state

  -- the run with the tables of the turn
  abbrev with_tables : RunState
  with_tables = record r { core = state }

  stands : Stands script with_tables
  stands = stands_tabled script r state middle.is.before middle.is.stand (λ b. middle.is.copies b (h.copies b)) h

  abbrev own_end : CoreState
  own_end = run state (own_in script with_tables a).events

  abbrev end : CoreState
  end = run r.core (core_turn_in script r a).events

  same_turn : own_in script with_tables a ≡ own_by state (doer_of script a (op_in script r a)) (r.places a).far (op_in script r a) (waiting_in script r a)
  same_turn = ap (own_by state (doer_of script a (op_in script r a)) (r.places a).far (op_in script r a)) (same_waiting script r state a middle.is.before)

  after : IsButForTables own_end end
  after = subst (λ (turn : CoreTurn). IsButForTables (run state turn.events) end) (sym same_turn) middle.is.after

  whats : (core_turn_in script r a).whats ≡ (own_in script with_tables a).whats
  whats = middle.is.whats ∙ sym (ap (λ (turn : CoreTurn). turn.whats) same_turn)

  -- the turn wakes nobody who waits for a lock
  abbrev pub WakesNone : Type 0
  WakesNone = wakes (op_in script r a) (place_in end a) ≡ everybody → ⊥

  own_still : WakesNone → wakes (op_in script r a) (place_in own_end a) ≡ everybody → ⊥
  own_still still all = still (ap (λ (x : CoreState). wakes (op_in script r a) (place_in x a)) after ∙ all)

  pub others_keep : WakesNone → (d q : ℕ) → (d ≡ a → ⊥) → r.core.structure q ≡ Some d → KeepsOut r.core end q d
  others_keep still d q other locked =
      out_tabled r.core state own_end end q d middle.is.before after
      (others_keep_own law script valid with_tables stands a (own_still still) d q other (ap (λ (x : CoreState). x.structure q) middle.is.before ∙ locked))

  pub own_keeps : (child : ℕ) → op_in script r a ≡ Some (Fork child) → 0 < (r.places a).far → r.core.birth (process_of script a) ≡ born → r.core.structure (process_of script a) ≡ Some a → (answers_it (core_turn_in script r a).whats ≡ true → ⊥) → KeepsOut r.core end (process_of script a) a
  own_keeps child forks far lives locked never =
      out_tabled r.core state own_end end (process_of script a) a middle.is.before after
      (own_keeps_own law script valid with_tables stands a child forks far
      (ap (λ (x : CoreState). x.birth (process_of script a)) middle.is.before ∙ lives)
      (ap (λ (x : CoreState). x.structure (process_of script a)) middle.is.before ∙ locked)
      (λ answers. never (ap answers_it whats ∙ answers)))

  pub table_keeps : WakesNone → (q : ℕ) → r.core.table q ≡ Some a → KeepsPages q r.core end
  table_keeps still q locked =
      pages_tabled r.core state own_end end q middle.is.before after
      (table_keeps_own law script valid with_tables stands a (own_still still) q (ap (λ (x : CoreState). x.table q) middle.is.before ∙ locked))
