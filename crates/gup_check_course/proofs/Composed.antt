-- What an actor has said stands somewhere exactly if it is the beginning of what notes of its operations say.
use Rattle.std.proofs.Common.{◌≡◌, ℕ, ◌+◌, ◌==◌, ◌⊎◌, inl, inr, cond, Bool, true, false, List, [], ◌∷◌, ◌++◌, Option, None, Some, IsSome, slice_get, suc, refl, sym, ◌∙◌, ap, subst, arith, eqb-true, append-nil}
use Rattle.std.specs.List.{AllByRecursion}
use Rattle.gup_plain.specs.Note.{NoteValue}
use Rattle.gup_plain.specs.declared.note.What.{What}
use Rattle.gup_script.specs.Script.{ScriptValue, ops_of}
use Rattle.gup_script.specs.Valid.{IsOp}
use Rattle.gup_script.specs.declared.op.Op.{Op}
use Rattle.gup_spec_accepted.specs.Said.{Said, said_by, BeginsOperations}
use Rattle.gup_spec_journal.specs.Follows.{Who, AreBehind, Shapes}
use Rattle.gup_spec_journal.specs.Place.{process_of}
use Rattle.gup_check_course.specs.declared.course.Course.{Course}
use Rattle.gup_check_course.specs.declared.course.Course.TheVariants.{Start}
use Rattle.gup_check_course.specs.declared.course.Step.{Step}
use Rattle.gup_check_course.specs.declared.course.Step.TheVariants.{On, Ended}
use Rattle.gup_check_course.specs.Arcs.{next_of}
use Rattle.gup_check_course.specs.Standing.{Standing, first_standing, stands, steps_in, standing_next, standing_from, standing_after}
use Rattle.gup_check_course.proofs.SameLemmas.{eqb_self}
use Rattle.gup_check_course.proofs.Finish.{Finishes}
use Rattle.gup_check_course.proofs.Speaking.{tagged, said_by-append}
use Rattle.gup_check_course.proofs.Writing.{latest, behind_earlier, before_later, both_behind}
use Rattle.gup_check_course.proofs.Reaching.{Fits, fits_on, finishable}
use Rattle.gup_check_course.proofs.ShapeWritten.{shape_written}
use Rattle.gup_check_course.proofs.ShapeEnds.{shape_ends}

abbrev who_is : (a proc number : ℕ) → Who
who_is a proc number = record { actor = a; proc = proc; number = number }

-- what is said of these operations, from this number on: of the first few of them, and of each of those until it ends
abbrev SaysOf : (a proc number : ℕ) → List Op → List Said → Type 0
SaysOf a proc number [] said = said ≡ []
SaysOf a proc number (op ∷ ops) said =
    (said ≡ [])
    ⊎ ((whats : List What) × (rest : List Said) × (said ≡ tagged number whats ++ rest) × Finishes (who_is a proc number) op Start whats × SaysOf a proc (number + 1) ops rest)

-- the same where the first has come so far
abbrev SaysFrom : (a proc number : ℕ) → Course → List Op → List Said → Type 0
SaysFrom a proc number course [] said = said ≡ []
SaysFrom a proc number course (op ∷ ops) said =
    (whats : List What) × (rest : List Said) × (said ≡ tagged number whats ++ rest) × Finishes (who_is a proc number) op course whats × SaysOf a proc (number + 1) ops rest

nothing_said : (a proc number : ℕ) (ops : List Op) → SaysOf a proc number ops []
nothing_said a proc number [] = refl
nothing_said a proc number (op ∷ ops) = inl refl

from_start : (a proc number : ℕ) (ops : List Op) (said : List Said) → SaysFrom a proc number Start ops said → SaysOf a proc number ops said
from_start a proc number [] said is = is
from_start a proc number (op ∷ ops) said is = inr is

-- these are the operations from so many on
abbrev AreFrom : ScriptValue → (a answered : ℕ) → List Op → Type 0
AreFrom script a answered ops = (j : ℕ) → slice_get ops j ≡ slice_get (ops_of script a) (answered + j)

present : (script : ScriptValue) (a answered : ℕ) (ops : List Op) → AreFrom script a answered ops → slice_get (ops_of script a) answered ≡ slice_get ops 0
present script a answered ops from = (let same : answered ≡ answered + 0 = omega arith in ap (slice_get (ops_of script a)) same ∙ sym (from 0))

one_less : (script : ScriptValue) (a answered : ℕ) (op : Op) (ops : List Op) → AreFrom script a answered (op ∷ ops) → AreFrom script a (answered + 1) ops
one_less script a answered op ops from j =
    (let same : answered + suc j ≡ answered + 1 + j = omega arith in from (suc j) ∙ ap (slice_get (ops_of script a)) same)

-- From left to right.

abbrev HeadFits : List Op → Course → Type 0
HeadFits [] course = Unit {0}
HeadFits (op ∷ ops) course = AllByRecursion IsOp (op ∷ ops) × Fits op course

start_fits : (ops : List Op) → AllByRecursion IsOp ops → HeadFits ops Start
start_fits [] valid = tt
start_fits (op ∷ ops) valid = (valid, tt)

abbrev Extends : (a proc number : ℕ) → Course → List Op → List Said → Type 0
Extends a proc number course ops said = (rest : List Said) × SaysFrom a proc number course ops (said ++ rest)

extends : (script : ScriptValue) (a : ℕ) (said : List Said) (answered : ℕ) (course : Course) (ops : List Op) → AreFrom script a answered ops → HeadFits ops course → IsSome (standing_from script a (Some (record { answered = answered; course = course })) said) → Extends a (process_of script a) (answered + 1) course ops said
extends script a [] answered course [] from fits is = ([], refl)
extends script a [] answered course (op ∷ ops) from fits is =
    let proc : ℕ = process_of script a in
    let ending = finishable (who_is a proc (answered + 1)) op course fits.0.0 fits.1 in
    (tagged (answered + 1) ending.0, (ending.0, [], sym (append-nil (tagged (answered + 1) ending.0)), ending.1, nothing_said a proc (answered + 1 + 1) ops))
extends script a (first ∷ later) answered course [] from fits is =
    absurd (none_left (slice_get (ops_of script a) answered) (present script a answered [] from) is)
  where
    nowhere : (said : List Said) → IsSome (standing_from script a None said) → ⊥
    nowhere said is = cc is

    none_left : (op : Option Op) → op ≡ None → IsSome (standing_from script a (steps_in a (process_of script a) (record { answered = answered; course = course }) op first) later) → ⊥
    none_left None none is = nowhere later is
    none_left (Some op) none is = cc none
extends script a (first ∷ later) answered course (op ∷ ops) from fits is =
    goes (first.number == answered + 1) refl
    (subst (λ (o : Option Op). IsSome (standing_from script a (steps_in a proc standing o first) later)) (present script a answered (op ∷ ops) from) is)
    (λ on suits. extends script a later answered on (op ∷ ops) from (fits.0, suits))
    (extends script a later (answered + 1) Start ops (one_less script a answered op ops from) (start_fits ops fits.0.1))
  where
    proc : ℕ
    proc = process_of script a

    standing : Standing
    standing = record { answered = answered; course = course }

    here : Who
    here = who_is a proc (answered + 1)

    OnFrom : Type 0
    OnFrom =
        (on : Course) → Fits op on → IsSome (standing_from script a (Some (record { answered = answered; course = on })) later)
        → Extends a proc (answered + 1) on (op ∷ ops) later

    NextFrom : Type 0
    NextFrom =
        IsSome (standing_from script a (Some (record { answered = answered + 1; course = Start })) later)
        → Extends a proc (answered + 1 + 1) Start ops later

    put_on : (number : ℕ) → number ≡ answered + 1 → (on : Course) → next_of here op course first.what ≡ Some (On on) → Extends a proc (answered + 1) on (op ∷ ops) later → first.number ≡ number → Extends a proc (answered + 1) course (op ∷ ops) (first ∷ later)
    put_on number counts on goes ext numbered =
        (ext.0, (first.what ∷ ext.1.0, ext.1.1, whole, inr (on, goes, ext.1.3), ext.1.4))
      where
        head_is : first ≡ record { number = answered + 1; what = first.what }
        head_is = ap (λ (n : ℕ). record { number = n; what = first.what }) (numbered ∙ counts)

        whole : (first ∷ later) ++ ext.0 ≡ tagged (answered + 1) (first.what ∷ ext.1.0) ++ ext.1.1
        whole =
            ap (λ (s : Said). s ∷ (later ++ ext.0)) head_is
            ∙ ap (λ (l : List Said). record { number = answered + 1; what = first.what } ∷ l) ext.1.2

    ends_here : first.number ≡ answered + 1 → next_of here op course first.what ≡ Some Ended → Extends a proc (answered + 1 + 1) Start ops later → Extends a proc (answered + 1) course (op ∷ ops) (first ∷ later)
    ends_here numbered ends ext = (
      ext.0,
      (
        first.what ∷ [],
        later ++ ext.0,
        ap (λ (n : ℕ). record { number = n; what = first.what } ∷ (later ++ ext.0)) numbered,
        inl (ends, refl),
        from_start a proc (answered + 1 + 1) ops (later ++ ext.0) ext.1,
      ),
    )

    by_step : first.number ≡ answered + 1 → (step : Option Step) → next_of here op course first.what ≡ step → IsSome (standing_from script a (stands answered step) later) → OnFrom → NextFrom → Extends a proc (answered + 1) course (op ∷ ops) (first ∷ later)
    by_step numbered None is there on next = absurd (cc there)
    by_step numbered (Some (On after)) is there on next =
        put_on (answered + 1) refl after is (on after (fits_on here op course after first.what fits.1 is) there) numbered
    by_step numbered (Some Ended) is there on next = ends_here numbered is (next there)

    goes : (test : Bool) → (first.number == answered + 1) ≡ test → IsSome (standing_from script a (cond test (stands answered (next_of (who_is a proc first.number) op course first.what)) None) later) → OnFrom → NextFrom → Extends a proc (answered + 1) course (op ∷ ops) (first ∷ later)
    goes false is there on next = absurd (cc there)
    goes true is there on next =
        let numbered : first.number ≡ answered + 1 = eqb-true first.number (answered + 1) is in
        by_step numbered (next_of here op course first.what) refl
        (subst (λ (n : ℕ). IsSome (standing_from script a (stands answered (next_of (who_is a proc n) op course first.what)) later)) numbered there) on next

-- notes that say it

notes_of : (a proc number : ℕ) (ops : List Op) (said : List Said) → AllByRecursion IsOp ops → SaysOf a proc number ops said → (turn : ℕ) → (notes : List NoteValue) × Shapes a proc number ops notes × AreBehind turn notes × (said_by a notes ≡ said)
notes_of a proc number [] said valid is turn = ([], refl, tt, sym is)
notes_of a proc number (op ∷ ops) said valid (inl is) turn = ([], inl refl, tt, sym is)
notes_of a proc number (op ∷ ops) said valid (inr is) turn =
    let who : Who = who_is a proc number in
    let f = shape_written who op is.0 valid.0 is.3 turn in
    let s = notes_of a proc (number + 1) ops is.1 valid.1 is.4 (turn + latest f.0) in (
      f.0 ++ s.0,
      inr (f.0, s.0, refl, before_later turn f.0 s.0 s.2, f.1, s.1),
      both_behind turn f.0 s.0 f.2 (behind_earlier turn (turn + latest f.0) s.0 (omega arith) s.2),
      said_by-append a f.0 s.0 ∙ ap (λ (l : List Said). l ++ said_by a s.0) f.3 ∙ ap (λ (l : List Said). tagged number is.0 ++ l) s.3 ∙ sym is.2,
    )

pub begins_if : (script : ScriptValue) (a : ℕ) (said : List Said) → AllByRecursion IsOp (ops_of script a) → IsSome (standing_after script a said) → BeginsOperations script a said
begins_if script a said valid there =
    let ops : List Op = ops_of script a in
    let ext = extends script a said 0 Start ops (λ j. (let same : j ≡ 0 + j = omega arith in ap (slice_get ops) same)) (start_fits ops valid) there in
    let notes = notes_of a (process_of script a) 1 ops (said ++ ext.0) valid (from_start a (process_of script a) 1 ops (said ++ ext.0) ext.1) 0 in
    (notes.0, ext.0, notes.1, notes.3)

-- From right to left.

said_of_shapes : (a proc number : ℕ) (ops : List Op) (notes : List NoteValue) → AllByRecursion IsOp ops → Shapes a proc number ops notes → SaysOf a proc number ops (said_by a notes)
said_of_shapes a proc number [] notes valid is = ap (said_by a) is
said_of_shapes a proc number (op ∷ ops) notes valid (inl is) = inl (ap (said_by a) is)
said_of_shapes a proc number (op ∷ ops) notes valid (inr is) =
    let f = shape_ends (who_is a proc number) op valid.0 is.0 is.4 in
    inr (
      f.0,
      said_by a is.1,
      ap (said_by a) is.2 ∙ said_by-append a is.0 is.1 ∙ ap (λ (l : List Said). l ++ said_by a is.1) f.1,
      f.2,
      said_of_shapes a proc (number + 1) ops is.1 valid.1 is.5,
    )

one_step : (script : ScriptValue) (a answered : ℕ) (op : Op) (course : Course) (what : What) (step : Option Step) → slice_get (ops_of script a) answered ≡ Some op → next_of (who_is a (process_of script a) (answered + 1)) op course what ≡ step → standing_next script a (record { answered = answered; course = course }) (record { number = answered + 1; what = what }) ≡ stands answered step
one_step script a answered op course what step there is =
    let standing : Standing = record { answered = answered; course = course } in
    let first : Said = record { number = answered + 1; what = what } in
    let next : Option Step = next_of (who_is a (process_of script a) (answered + 1)) op course what in
    ap (λ (o : Option Op). steps_in a (process_of script a) standing o first) there
    ∙ ap (λ (test : Bool). cond test (stands answered next) None) (eqb_self (answered + 1)) ∙ ap (stands answered) is

-- behind what ends an operation the next one stands at its beginning
ends_standing : (script : ScriptValue) (a answered : ℕ) (op : Op) (course : Course) (whats : List What) (rest : List Said) → slice_get (ops_of script a) answered ≡ Some op → Finishes (who_is a (process_of script a) (answered + 1)) op course whats → standing_from script a (Some (record { answered = answered; course = course })) (tagged (answered + 1) whats ++ rest) ≡ standing_from script a (Some (record { answered = answered + 1; course = Start })) rest
ends_standing script a answered op course [] rest there is = absurd is
ends_standing script a answered op course (what ∷ whats) rest there (inl is) =
    ap (λ (s : Option Standing). standing_from script a s (tagged (answered + 1) whats ++ rest)) (one_step script a answered op course what (Some Ended) there is.0)
    ∙ ap (λ (l : List What). standing_from script a (Some (record { answered = answered + 1; course = Start })) (tagged (answered + 1) l ++ rest)) is.1
ends_standing script a answered op course (what ∷ whats) rest there (inr is) =
    ap (λ (s : Option Standing). standing_from script a s (tagged (answered + 1) whats ++ rest)) (one_step script a answered op course what (Some (On is.0)) there is.1)
    ∙ ends_standing script a answered op is.0 whats rest there is.2

says_stands : (script : ScriptValue) (a answered : ℕ) (ops : List Op) (said : List Said) → AreFrom script a answered ops → SaysOf a (process_of script a) (answered + 1) ops said → IsSome (standing_from script a (Some (record { answered = answered; course = Start })) said)
says_stands script a answered [] said from is = rw is refl
says_stands script a answered (op ∷ ops) said from (inl is) = rw is refl
says_stands script a answered (op ∷ ops) said from (inr is) =
    rw (is.2, ends_standing script a answered op Start is.0 is.1 (present script a answered (op ∷ ops) from) is.3)
    (says_stands script a (answered + 1) ops is.1 (one_less script a answered op ops from) is.4)

front_stands : (script : ScriptValue) (a : ℕ) (standing : Option Standing) (said rest : List Said) → IsSome (standing_from script a standing (said ++ rest)) → IsSome (standing_from script a standing said)
front_stands script a None said rest there = absurd (cc there)
front_stands script a (Some standing) [] rest there = refl
front_stands script a (Some standing) (first ∷ said) rest there = front_stands script a (standing_next script a standing first) said rest there

pub stands_if : (script : ScriptValue) (a : ℕ) (said : List Said) → AllByRecursion IsOp (ops_of script a) → BeginsOperations script a said → IsSome (standing_after script a said)
stands_if script a said valid is =
    let ops : List Op = ops_of script a in
    front_stands script a (Some first_standing) said is.1
    (subst (λ (l : List Said). IsSome (standing_from script a (Some first_standing) l)) is.3
    (says_stands script a 0 ops (said_by a is.0) (λ j. (let same : j ≡ 0 + j = omega arith in ap (slice_get ops) same))
    (said_of_shapes a (process_of script a) 1 ops is.0 valid is.2)))
