-- The events of a turn of a pin's walk are a walk's, and at its end the handle is made.
use Rattle.std.proofs.Common.{ℕ, ◌+◌, ◌==◌, ◌||◌, nat_lt, Bool, true, false, List, [], ◌∷◌, length, Option, Some, None, zero, suc}
use Rattle.gup_base.specs.declared.entry.Entry.{Entry}
use Rattle.gup_base.specs.declared.entry.Want.{Want}
use Rattle.gup_spec_events.specs.State.{CoreState, Taken, WalkStep, entered, ready, reading, read, grabbed, rechecked, differed, refused, stopped, dropping, over}
use Rattle.gup_spec_events.specs.Event.{CoreEvent, is_odd, make_handle, tree_in}
use Rattle.gup_spec_events.specs.Descent.{reads_down}
use Rattle.gup_spec_tables.specs.Paths.{leads_still, entry_at}
use Rattle.gup_spec_turns.specs.WalkTurns.{begin_turn, leaves_if, grab_turn, is_same, recheck_turn, is_none_left, all_turn, ready_turn, split_last, last_turn, first_turn, walk_turn}
use Rattle.gup_fast.proofs.Leaving.{IsWalking, AreWalking, read_walking}
use Rattle.gup_fast.proofs.Leaving as walkings

-- an event of a walk of process p by actor a, or that makes the handle
pub data IsOfWalk (a p : ℕ) : CoreEvent → Type 0 where
  walks : (e : CoreEvent) → IsWalking a p e → IsOfWalk a p e
  makes_it : (h : ℕ) → IsOfWalk a p (make_handle a h)

abbrev pub AreOfWalk : (a p : ℕ) → List CoreEvent → Type 0
AreOfWalk a p [] = Unit {0}
AreOfWalk a p (e ∷ es) = IsOfWalk a p e × AreOfWalk a p es

leaves_walks : (gone : Bool) (a p : ℕ) (want : Want) (sequence : ℕ) → AreOfWalk a p (leaves_if gone a p want sequence)
leaves_walks true a p want sequence = (walks _ (walkings.leaving _ _ sequence), tt)
leaves_walks false a p want sequence = tt

pub begins_walk : (a p : ℕ) (want : Want) → AreOfWalk a p (begin_turn a p want).events
begins_walk a p want = (walks _ walkings.flagging, (walks _ (walkings.entering _ _), tt))

grab_walks : (a p : ℕ) (want : Want) (sequence page : ℕ) (path : List ℕ) (e : Entry) (count : ℕ) → AreOfWalk a p (grab_turn a p want sequence page path e count).events
grab_walks a p want sequence page path e zero = (walks _ (walkings.missing _ _ _ page path e), tt)
grab_walks a p want sequence page path e (suc count) = (walks _ (walkings.grabbing_it _ _ _ page path e), tt)

recheck_walks : (a p : ℕ) (want : Want) (sequence page : ℕ) (path : List ℕ) (e : Entry) (leads same : Bool) → AreOfWalk a p (recheck_turn a p want sequence page path e leads same).events
recheck_walks a p want sequence page path e true true =
    (walks _ (walkings.rechecking_above _ _ _ page path e true), (walks _ (walkings.finding_same _ _ _ page path e), tt))
recheck_walks a p want sequence page path e true false =
    (walks _ (walkings.rechecking_above _ _ _ page path e true), (walks _ (walkings.finding_other _ _ _ page path e), tt))
recheck_walks a p want sequence page path e false same = (walks _ (walkings.rechecking_above _ _ _ page path e false), tt)

-- each event of a walk is of it
are_walks : (a p : ℕ) (es : List CoreEvent) → AreWalking a p es → AreOfWalk a p es
are_walks a p [] all = tt
are_walks a p (e ∷ es) all = (walks e all.0, are_walks a p es all.1)

all_walks : (a p handle n : ℕ) (want : Want) (sequence now : ℕ) (same : Bool) → AreOfWalk a p (all_turn a p handle n want sequence now same).events
all_walks a p handle n want sequence now true =
    (walks _ (walkings.reading_again _ _ _ ready now), (walks _ (walkings.leaving _ _ sequence), (makes_it handle, tt)))
all_walks a p handle n want sequence now false = (walks _ (walkings.reading_again _ _ _ ready now), tt)

ready_walks : (s : CoreState) (a p handle page n : ℕ) (want : Want) (sequence : ℕ) (more : Bool) → AreOfWalk a p (ready_turn s a p handle page n want sequence more).events
ready_walks s a p handle page n want sequence true =
    are_walks a p (reads_down s a p want.write want.long sequence page) (read_walking s a p want.write want.long sequence page)
ready_walks s a p handle page n want sequence false = all_walks a p handle n want sequence (s.sequence p) (s.sequence p == sequence)

last_walks : (a p : ℕ) (want : Want) (sequence : ℕ) (parts : Option (List Taken × Taken)) → AreOfWalk a p (last_turn a p want sequence parts).events
last_walks a p want sequence None = tt
last_walks a p want sequence (Some (rest, last)) = (walks _ (walkings.dropping_last _ _ _ rest last), tt)

first_walks : (a p : ℕ) (want : Want) (sequence : ℕ) (taken : List Taken) → AreOfWalk a p (first_turn a p want sequence taken).events
first_walks a p want sequence [] = tt
first_walks a p want sequence (t ∷ rest) = (walks _ (walkings.dropping_first _ _ _ t rest), leaves_walks (is_none_left rest) a p want sequence)

pub walk_walks : (s : CoreState) (a p handle page n : ℕ) (want : Want) (sequence : ℕ) (step : WalkStep) → AreOfWalk a p (walk_turn s a p handle page n want sequence step).events
walk_walks s a p handle page n want sequence entered = (walks _ (walkings.reading_sequence _ _ (s.sequence p)), leaves_walks (is_odd (s.sequence p)) a p want (s.sequence p))
walk_walks s a p handle page n want sequence ready = ready_walks s a p handle (page + length (s.taken a)) n want sequence (nat_lt (length (s.taken a)) n)
walk_walks s a p handle page n want sequence (reading g path) = tt
walk_walks s a p handle page n want sequence (read g path e) = grab_walks a p want sequence g path e (s.count e.frame)
walk_walks s a p handle page n want sequence (grabbed g path e) =
    recheck_walks a p want sequence g path e (leads_still (tree_in s p) path g) (is_same e (entry_at (tree_in s p) path g))
walk_walks s a p handle page n want sequence (rechecked g e) = (walks _ (walkings.reading_mark _ _ _ g e (s.mark e.frame)), tt)
walk_walks s a p handle page n want sequence (differed f) = (walks _ (walkings.dropping_grab _ _ _ f), tt)
walk_walks s a p handle page n want sequence refused = last_walks a p want sequence (split_last (s.taken a))
walk_walks s a p handle page n want sequence stopped =
    (walks _ (walkings.reading_again _ _ _ stopped (s.sequence p)), leaves_walks ((s.sequence p == sequence) || is_none_left (s.taken a)) a p want sequence)
walk_walks s a p handle page n want sequence dropping = first_walks a p want sequence (s.taken a)
walk_walks s a p handle page n want sequence over = tt
