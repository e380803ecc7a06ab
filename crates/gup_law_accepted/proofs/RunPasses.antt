-- The journal of turns passes no page that was named all the time, by induction over them.
use Rattle.std.proofs.Common.{◌≡◌, ℕ, ◌+◌, ◌==◌, Bool, true, false, List, [], ◌∷◌, ◌++◌, Option, Some, slice_get, refl, sym, ap, ◌∙◌, subst, eqb-true, arith}
use Rattle.std.proofs.lemmas.Bool.Decides.{nat_tests}
use Rattle.gup_plain.specs.Note.{NoteValue}
use Rattle.gup_plain.specs.Put.{put}
use Rattle.gup_plain.specs.State.{PlainState}
use Rattle.gup_plain.specs.declared.note.What.{What}
use Rattle.gup_plain.specs.declared.note.What.TheVariants.{Event, Done}
use Rattle.gup_script.specs.declared.op.Op.{Op}
use Rattle.gup_script.specs.declared.op.Op.TheVariants.{Fork}
use Rattle.gup_script.specs.Script.{ScriptValue}
use Rattle.gup_script.specs.Valid.{IsScript}
use Rattle.gup_spec_events.specs.State.{Job, plain_of}
use Rattle.gup_spec_journal.specs.Follows.{notes_of_turn, note_of}
use Rattle.gup_spec_journal.specs.Order.{Turn, journal_of, plain_behind}
use Rattle.gup_spec_journal.specs.Place.{Place, doer_of, place_after, place_behind, ops_of, process_of, present_op}
use Rattle.gup_spec_journal.specs.Plain.{Judged, judged_by, judged_first}
use Rattle.gup_spec_accepted.specs.Passing.{is_unnamed, Going, first_page, added, own_after, goings_first, goings_after, ArePassedFrom, PassPages}
use Rattle.gup_spec_turns.specs.Run.{RunState, AreTurns, run_start, run_after, op_in, core_turn_in}
use Rattle.gup_law_turns.proofs.EventLists.{Law}
use Rattle.gup_law_turns.proofs.Puts.{put_same, put_other}
use Rattle.gup_law_turns.proofs.StandingStates.{Stands}
use Rattle.gup_law_turns.proofs.StandingTurns.{at_others, stands_on, same_plain}
use Rattle.gup_law_turns.proofs.KeptParts.{leaves}
use Rattle.gup_law_turns.proofs.TurnShapes.{references_of, child_of, strand_of}
use Rattle.gup_law_turns.proofs.TurnSteps.{taken}
use Rattle.gup_law_accepted.proofs.JudgedTurns.{judged_all, all_plain, all_places}
use Rattle.gup_law_accepted.proofs.TurnPasses.{PassOwn, own_behind, Over, Goes, over_first, over_grows, or_left, or_right, Knows, turn_goes}
use Rattle.gup_law_accepted.proofs.ForkGoings.{ForkGoes, fork_comes_next}
use Rattle.gup_law_accepted.proofs.ForkSteps.{AtStart, own_start, fork_goes_on}

abbrev goings_by : ScriptValue → (k : Judged) → (ℕ → Going) → (a : ℕ) → What → ℕ → Going
goings_by script k goings a what = goings_after script k goings (note_of 0 a 0 what)

-- how far each actor has come behind one turn's notes
abbrev goings_behind : ScriptValue → Judged → (ℕ → Going) → (a : ℕ) → List What → ℕ → Going
goings_behind script j goings a [] = goings
goings_behind script j goings a (what ∷ whats) =
    goings_behind script (judged_by script j a what) (goings_by script (judged_by script j a what) goings a what) a whats

-- the actor whose turn it is

own_is : (script : ScriptValue) (j : Judged) (goings : ℕ → Going) (a : ℕ) (whats : List What) → goings_behind script j goings a whats a ≡ own_behind (ops_of script a) (process_of script a) j.plain (j.places a) (goings a) whats
own_is script j goings a [] = refl
own_is script j goings a (what ∷ whats) =
    let k : Judged = judged_by script j a what in
    let p : ℕ = process_of script a in
    let ops : List Op = ops_of script a in
    let next : Place = place_after (j.places a) what in
    own_is script k (goings_by script k goings a what) a whats
    ∙ ap (λ (g : Going). own_behind ops p k.plain (k.places a) g whats)
    (put_same a (own_after k.plain p (goings a) (slice_get ops (k.places a).answered) what) (λ b. added k.plain (process_of script b) (goings b)))
    ∙ ap (λ (q : Place). own_behind ops p k.plain q (own_after k.plain p (goings a) (slice_get ops q.answered) what) whats) (put_same a next j.places)

pass_append : (script : ScriptValue) (j : Judged) (goings : ℕ → Going) (t a n : ℕ) (whats : List What) (rest : List NoteValue) → PassOwn (ops_of script a) (process_of script a) j.plain (j.places a) (goings a) whats → ArePassedFrom script (judged_all script j a whats) (goings_behind script j goings a whats) rest → ArePassedFrom script j goings (notes_of_turn t a n whats ++ rest)
pass_append script j goings t a n [] rest here later = later
pass_append script j goings t a n (what ∷ whats) rest here later =
    let k : Judged = judged_by script j a what in
    let p : ℕ = process_of script a in
    let ops : List Op = ops_of script a in
    let next : Place = place_after (j.places a) what in
    let more : PassOwn ops p k.plain (k.places a) (own_after k.plain p (goings a) (slice_get ops (k.places a).answered) what) whats =
    subst (λ (q : Place). PassOwn ops p k.plain q (own_after k.plain p (goings a) (slice_get ops q.answered) what) whats) (sym (put_same a next j.places)) here.1 in
    let own : PassOwn ops p k.plain (k.places a) (goings_by script k goings a what a) whats =
    subst (λ (g : Going). PassOwn ops p k.plain (k.places a) g whats)
    (sym (put_same a (own_after k.plain p (goings a) (slice_get ops (k.places a).answered) what) (λ b. added k.plain (process_of script b) (goings b)))) more in
    (here.0, pass_append script k (goings_by script k goings a what) t a n whats rest own later)

-- any other

record Grows (g h : Going) : Type 0 where
  next : h.next ≡ g.next
  more : (page : ℕ) → g.unnamed page ≡ true → h.unnamed page ≡ true

others_grow : (script : ScriptValue) (j : Judged) (goings : ℕ → Going) (a b : ℕ) (whats : List What) → (b == a) ≡ false → Grows (goings b) (goings_behind script j goings a whats b)
others_grow script j goings a b [] other = record { next = refl; more = λ page was. was }
others_grow script j goings a b (what ∷ whats) other =
    let k : Judged = judged_by script j a what in
    let now : goings_by script k goings a what b ≡ added k.plain (process_of script b) (goings b) =
    put_other a b (own_after k.plain (process_of script a) (goings a) (present_op script a (k.places a)) what) (λ c. added k.plain (process_of script c) (goings c)) other in
    let later : Grows (goings_by script k goings a what b) (goings_behind script k (goings_by script k goings a what) a whats b) = others_grow script k (goings_by script k goings a what) a b whats other in
    let then : Grows (added k.plain (process_of script b) (goings b)) (goings_behind script k (goings_by script k goings a what) a whats b) =
    subst (λ (g : Going). Grows g (goings_behind script k (goings_by script k goings a what) a whats b)) now later in
    record {
      next = then.next;
      more = λ page was. then.more page (or_left ((goings b).unnamed page) (is_unnamed k.plain (process_of script b) page) was);
    }

-- all know what is unnamed now

own_knows : (s : PlainState) (p : ℕ) (g : Going) (op : Option Op) (what : What) → Knows s p (own_after s p g op what)
own_knows s p g op (Event e) = λ page is. is
own_knows s p g op (Done answer) = λ page is. is
own_knows s p g op what = λ page is. or_right (g.unnamed page) (is_unnamed s p page) is

note_knows : (script : ScriptValue) (k : Judged) (goings : ℕ → Going) (a : ℕ) (what : What) (b : ℕ) → Knows k.plain (process_of script b) (goings_by script k goings a what b)
note_knows script k goings a what b = go (b == a) refl
  where
    own : Going
    own = own_after k.plain (process_of script a) (goings a) (present_op script a (k.places a)) what

    go : (c : Bool) → (b == a) ≡ c → Knows k.plain (process_of script b) (goings_by script k goings a what b)
    go true e =
        subst (λ (d : ℕ). Knows k.plain (process_of script d) (goings_by script k goings a what d)) (sym (eqb-true b a e))
        (subst (Knows k.plain (process_of script a)) (sym (put_same a own (λ c. added k.plain (process_of script c) (goings c))))
        (own_knows k.plain (process_of script a) (goings a) (present_op script a (k.places a)) what))
    go false e =
        subst (Knows k.plain (process_of script b)) (sym (put_other a b own (λ c. added k.plain (process_of script c) (goings c)) e))
        (λ page is. or_right ((goings b).unnamed page) (is_unnamed k.plain (process_of script b) page) is)

turn_knows : (script : ScriptValue) (j : Judged) (goings : ℕ → Going) (a : ℕ) (whats : List What) → ((b : ℕ) → Knows j.plain (process_of script b) (goings b)) → (b : ℕ) → Knows (judged_all script j a whats).plain (process_of script b) (goings_behind script j goings a whats b)
turn_knows script j goings a [] knows = knows
turn_knows script j goings a (what ∷ whats) knows =
    let k : Judged = judged_by script j a what in
    turn_knows script k (goings_by script k goings a what) a whats (note_knows script k goings a what)

apart : (b a : ℕ) → (b ≡ a → ⊥) → (b == a) ≡ false
apart b a other = grind (arith, nat_tests)

-- the job of another actor stays
job_stays : (script : ScriptValue) → IsScript script → (r : RunState) → Stands script r → (a b : ℕ) → (b ≡ a → ⊥) → (run_after script r a).core.job b ≡ r.core.job b
job_stays script valid r h a b other =
    let op : Option Op = op_in script r a in
    let q : ℕ = (doer_of script a op).proc in
    (leaves r.core a q (child_of q op) (strand_of op) (core_turn_in script r a).events (taken script valid r h a).done.kinds).job b (apart b a other)

-- The judge stands as the run does, and has seen how far each actor has come.
record Stays (script : ScriptValue) (r : RunState) (j : Judged) (goings : ℕ → Going) : Type 0 where
  plain : j.plain ≡ plain_of r.core
  places : j.places ≡ r.places
  over : (b : ℕ) → Over (op_in script r b) (r.places b).far (goings b)
  knows : (b : ℕ) → Knows (plain_of r.core) (process_of script b) (goings b)
  starts : (b : ℕ) → AtStart (ops_of script b) (r.places b) (goings b)
  forks : (b child : ℕ) → op_in script r b ≡ Some (Fork child) → ForkGoes (r.core.job b) (goings b).next

module _ (law : Law) (script : ScriptValue) (valid : IsScript script) (r : RunState) (h : Stands script r) (j : Judged) (goings : ℕ → Going) (at : Stays script r j goings) (a : ℕ) where
  abbrev whats : List What
  whats = (core_turn_in script r a).whats

  abbrev next : RunState
  next = run_after script r a

  abbrev ops : List Op
  ops = ops_of script a

  abbrev p : ℕ
  p = process_of script a

  here : Goes ops p (plain_of r.core) (r.places a) (goings a) whats
  here =
      turn_goes ops p (goings a) (references_of r.core) (taken script valid r h a).shape refl refl
      (λ o is child page e forks tells comes. fork_comes_next script valid r h a child page e (goings a).next (is ∙ ap (λ (x : Op). Some x) forks) (at.forks a child (is ∙ ap (λ (x : Op). Some x) forks)) tells comes)
      (at.knows a) (at.over a)

  passes : PassOwn ops p j.plain (j.places a) (goings a) whats
  passes =
      subst (λ (s : PlainState). PassOwn ops p s (j.places a) (goings a) whats) (sym at.plain)
      (subst (λ (q : ℕ → Place). PassOwn ops p (plain_of r.core) (q a) (goings a) whats) (sym at.places) here.0)

  abbrev behind : ℕ → Going
  behind = goings_behind script j goings a whats

  own : behind a ≡ own_behind ops p (plain_of r.core) (r.places a) (goings a) whats
  own =
      own_is script j goings a whats
      ∙ ap (λ (s : PlainState). own_behind ops p s (j.places a) (goings a) whats) at.plain
      ∙ ap (λ (q : ℕ → Place). own_behind ops p (plain_of r.core) (q a) (goings a) whats) at.places

  other_grows : (b : ℕ) → (b ≡ a → ⊥) → Grows (goings b) (behind b)
  other_grows b other = others_grow script j goings a b whats (apart b a other)

  over_next : (b : ℕ) → Over (op_in script next b) (next.places b).far (behind b)
  over_next =
      at_others (λ (c : ℕ) (q : Place). Over (present_op script c q) q.far (behind c)) a (place_behind (r.places a) whats) r.places
      (subst (Over (present_op script a (place_behind (r.places a) whats)) (place_behind (r.places a) whats).far) (sym own) here.1)
      (λ c other. let grows : Grows (goings c) (behind c) = other_grows c other in over_grows (op_in script r c) (r.places c).far (goings c) (behind c) grows.next grows.more (at.over c))

  starts_next : (b : ℕ) → AtStart (ops_of script b) (next.places b) (behind b)
  starts_next =
      at_others (λ (c : ℕ) (q : Place). AtStart (ops_of script c) q (behind c)) a (place_behind (r.places a) whats) r.places
      (subst (AtStart ops (place_behind (r.places a) whats)) (sym own) (own_start ops p (plain_of r.core) (r.places a) (goings a) whats (at.starts a)))
      (λ c other first. let grows : Grows (goings c) (behind c) = other_grows c other in grows.next ∙ at.starts c first)

  plain_next : (judged_all script j a whats).plain ≡ plain_of next.core
  plain_next = all_plain script j a whats ∙ ap (λ (s : PlainState). plain_behind s whats) at.plain ∙ sym (same_plain law script valid r h a)

  forks_next : (b child : ℕ) → op_in script next b ≡ Some (Fork child) → ForkGoes (next.core.job b) (behind b).next
  forks_next b child is =
      at_others (λ (c : ℕ) (q : Place). present_op script c q ≡ Some (Fork child) → ForkGoes (next.core.job c) (behind c).next) a (place_behind (r.places a) whats) r.places
      (λ forks. subst (λ (g : Going). ForkGoes (next.core.job a) g.next) (sym own) (fork_goes_on law script valid r h a child (goings a) forks (at.starts a) (at.forks a child)))
      (λ c other forks. let grows : Grows (goings c) (behind c) = other_grows c other in
      subst (λ (job : Job). ForkGoes job (behind c).next) (sym (job_stays script valid r h a c other)) (subst (ForkGoes (r.core.job c)) (sym grows.next) (at.forks c child forks)))
      b is

  stays_on : Stays script next (judged_all script j a whats) behind
  stays_on =
      record {
        plain = plain_next;
        places = all_places script j a whats ∙ ap (λ (q : ℕ → Place). put a (place_behind (q a) whats) q) at.places;
        over = over_next;
        knows = λ b. subst (λ (s : PlainState). Knows s (process_of script b) (behind b)) plain_next (turn_knows script j goings a whats (λ c. subst (λ (s : PlainState). Knows s (process_of script c) (goings c)) (sym at.plain) (at.knows c)) b);
        starts = starts_next;
        forks = forks_next;
      }

pass_turns : Law → (script : ScriptValue) → IsScript script → (turns : List Turn) (number : ℕ) (r end : RunState) → Stands script r → (j : Judged) (goings : ℕ → Going) → Stays script r j goings → AreTurns script r turns end → ArePassedFrom script j goings (journal_of number r.places turns)
pass_turns law script valid [] number r end h j goings at are = tt
pass_turns law script valid (turn ∷ turns) number r end h j goings at are =
    let a : ℕ = turn.actor in
    let next : RunState = run_after script r a in
    let says : List What = (core_turn_in script r a).whats in
    let both : ArePassedFrom script j goings (notes_of_turn number a ((r.places a).answered + 1) says ++ journal_of (number + 1) next.places turns) =
    pass_append script j goings number a ((r.places a).answered + 1) says (journal_of (number + 1) next.places turns) (passes law script valid r h j goings at a)
    (pass_turns law script valid turns (number + 1) next end (stands_on law script valid r h a) (judged_all script j a says) (goings_behind script j goings a says) (stays_on law script valid r h j goings at a) are.1) in
    subst (λ (t : Turn). ArePassedFrom script j goings (journal_of number r.places (t ∷ turns))) (sym are.0) both

pub run_passes : Law → (script : ScriptValue) → IsScript script → (turns : List Turn) (end : RunState) → Stands script (run_start script) → AreTurns script (run_start script) turns end → PassPages script (journal_of 1 (run_start script).places turns)
run_passes law script valid turns end h are =
    pass_turns law script valid turns 1 (run_start script) end h (judged_first script) (goings_first script)
    (record {
      plain = refl;
      places = refl;
      over = λ b. over_first (plain_of (run_start script).core) (process_of script b) (op_in script (run_start script) b);
      knows = λ b page is. is;
      starts = λ b first. refl;
      forks = λ b child is. ap first_page is;
    })
    are
