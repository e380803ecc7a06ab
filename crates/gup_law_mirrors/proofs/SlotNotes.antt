-- What the notes of a turn tell of mirror slots.
use Rattle.std.proofs.Common.{◌≡◌, ℕ, Bool, true, false, List, [], ◌∷◌, ◌++◌, Option, Some, None, refl, sym, ap, ◌∙◌, subst, if◌then◌else◌, rules}
use Rattle.gup_plain.specs.Note.{NoteValue}
use Rattle.gup_plain.specs.Put.{put}
use Rattle.gup_plain.specs.State.{PlainState}
use Rattle.gup_plain.specs.declared.event.PlainEvent.TheVariants as events
use Rattle.gup_plain.specs.declared.note.Waiting.{Waiting}
use Rattle.gup_plain.specs.declared.note.What.{What}
use Rattle.gup_plain.specs.declared.note.What.TheVariants.{Idle, Wait, Event, Done}
use Rattle.gup_script.specs.Script.{ScriptValue}
use Rattle.gup_script.specs.declared.op.Op.{Op}
use Rattle.gup_script.specs.declared.op.Op.TheVariants.{Mirror, Look}
use Rattle.gup_spec_events.specs.State.{WalkStep}
use Rattle.gup_spec_journal.specs.Denial.{References}
use Rattle.gup_spec_journal.specs.Follows.{note_of, notes_of_turn}
use Rattle.gup_spec_journal.specs.Place.{Place, Doer, place_after, place_behind, doer_of, present_op}
use Rattle.gup_spec_journal.specs.Stale.{PageOf, Slots, left_by, slots_after, slots_behind, IsStaleAt, AreStaleIn}
use Rattle.gup_spec_turns.specs.JobPlace.{JobPlace}
use Rattle.gup_law_turns.proofs.Puts.{put_same, put_twice, put_own, some_same}
use Rattle.gup_law_turns.proofs.TurnShapes.{TurnOf, filled_slot, took, took_last, walked, moved_word, moved_last, unmaps, discards, WalksTo, found_fork, TurnAt, goes, unborn_refused, unborn_fork}
use Rattle.gup_law_mirrors.proofs.EmptiedPages.{empties_of}

-- ---- the notes of a turn, one after another

-- what they leave in slots, all of one operation of process p
abbrev pub slots_of_turn : (p : ℕ) → Option Op → List What → Slots → Slots
slots_of_turn p op [] slots = slots
slots_of_turn p op (what ∷ whats) slots = slots_of_turn p op whats (slots_behind p op what slots)

abbrev pub AreStaleNotes : (p : ℕ) → Option Op → List What → Slots → Type 0
AreStaleNotes p op [] slots = Unit {0}
AreStaleNotes p op (what ∷ whats) slots = IsStaleAt slots op what × AreStaleNotes p op whats (slots_behind p op what slots)

-- none but the last one answers
abbrev pub IsAnswerLast : List What → Type 0
IsAnswerLast [] = Unit {0}
IsAnswerLast (Done answer ∷ whats) = whats ≡ []
IsAnswerLast (what ∷ whats) = IsAnswerLast whats

module _ (script : ScriptValue) (t a n : ℕ) (op : Option Op) where
  abbrev p : ℕ
  p = (doer_of script a op).proc

  -- one of them, and then the rest
  stale_note : (what : What) (more : List NoteValue) (places : ℕ → Place) (slots : Slots) → present_op script a (places a) ≡ op → IsStaleAt slots op what → AreStaleIn script (put a (place_after (places a) what) places) (slots_behind p op what slots) more → AreStaleIn script places slots (note_of t a n what ∷ more)
  stale_note what more places slots is stale later =
      subst (λ (o : Option Op). IsStaleAt slots o what × AreStaleIn script (put a (place_after (places a) what) places) (slots_behind (doer_of script a o).proc o what slots) more) (sym is) (stale, later)

  -- the last one
  stale_last : (what : What) (whats : List What) (rest : List NoteValue) (places : ℕ → Place) (slots : Slots) → present_op script a (places a) ≡ op → whats ≡ [] → AreStaleNotes p op (what ∷ whats) slots → AreStaleIn script (put a (place_behind (places a) (what ∷ whats)) places) (slots_of_turn p op (what ∷ whats) slots) rest → AreStaleIn script places slots (notes_of_turn t a n (what ∷ whats) ++ rest)
  stale_last what [] rest places slots is none stale later = stale_note what rest places slots is stale.0 later
  stale_last what (other ∷ whats) rest places slots is none stale later = absurd (cc none)

  -- the places after one of them and then the others
  places_on : (what : What) (whats : List What) (places : ℕ → Place) → put a (place_behind (place_after (places a) what) whats) places ≡ put a (place_behind (put a (place_after (places a) what) places a) whats) (put a (place_after (places a) what) places)
  places_on what whats places =
      let next : Place = place_after (places a) what in
      sym (ap (λ (q : Place). put a (place_behind q whats) (put a next places)) (put_same a next places) ∙ put_twice a next (place_behind next whats) places)

  -- a turn's notes, and then the rest
  pub stale_append : (whats : List What) (rest : List NoteValue) (places : ℕ → Place) (slots : Slots) → present_op script a (places a) ≡ op → IsAnswerLast whats → AreStaleNotes p op whats slots → AreStaleIn script (put a (place_behind (places a) whats) places) (slots_of_turn p op whats slots) rest → AreStaleIn script places slots (notes_of_turn t a n whats ++ rest)
  stale_append [] rest places slots is last stale later = subst (λ (q : ℕ → Place). AreStaleIn script q slots rest) (put_own a places) later
  stale_append (Done answer ∷ whats) rest places slots is last stale later = stale_last (Done answer) whats rest places slots is last stale later
  stale_append (what ∷ whats) rest places slots is last stale later =
      let next : ℕ → Place = put a (place_after (places a) what) places in
      stale_note what (notes_of_turn t a n whats ++ rest) places slots is stale.0
      (stale_append whats rest next (slots_behind p op what slots) (ap (present_op script a) (put_same a (place_after (places a) what) places) ∙ is) last stale.1
      (subst (λ (q : ℕ → Place). AreStaleIn script q (slots_of_turn p op (what ∷ whats) slots) rest) (places_on what whats places) later))

-- ---- the notes of an operation that is neither a mirror nor a look

abbrev pub IsNoMirror : Op → Type 0
IsNoMirror (Mirror mirror proc page) = ⊥
IsNoMirror (Look mirror word) = ⊥
IsNoMirror op = Unit {0}

-- one that isn't of waiting and fills no slot
abbrev IsOwn : What → Type 0
IsOwn Idle = ⊥
IsOwn (Wait waiting) = ⊥
IsOwn (Event (events.MirrorFill a m q page)) = ⊥
IsOwn what = Unit {0}

-- at least one, of which only the last answers
abbrev pub AreOwn : List What → Type 0
AreOwn [] = ⊥
AreOwn (Done answer ∷ whats) = whats ≡ []
AreOwn (what ∷ []) = IsOwn what
AreOwn (what ∷ whats) = IsOwn what × AreOwn whats

first_own : (what : What) (whats : List What) → AreOwn (what ∷ whats) → IsOwn what
first_own (Done answer) whats own = tt
first_own what [] own = own
first_own what (other ∷ whats) own = own.0

later_own : (what other : What) (whats : List What) → AreOwn (what ∷ other ∷ whats) → AreOwn (other ∷ whats)
later_own (Done answer) other whats own = absurd (cc own)
later_own what other whats own = own.1

pub own_last : (whats : List What) → AreOwn whats → IsAnswerLast whats
own_last [] own = tt
own_last (Done answer ∷ whats) own = own
own_last (what ∷ []) own = tt
own_last (what ∷ other ∷ whats) own = own_last (other ∷ whats) own.1

-- none is of a stale look
no_look : (slots : Slots) (op : Op) (what : What) → IsNoMirror op → IsStaleAt slots (Some op) what
no_look slots (Look mirror word) what apart = absurd apart
no_look slots op what apart = tt

pub own_stale : (p : ℕ) (op : Op) (whats : List What) (slots : Slots) → IsNoMirror op → AreStaleNotes p (Some op) whats slots
own_stale p op [] slots apart = tt
own_stale p op (what ∷ whats) slots apart = (no_look slots op what apart, own_stale p op whats (slots_after p op what slots) apart)

-- A slot that is filled after them was filled before them, with a page of which the operation empties none.
abbrev pub IsSpared : (p : ℕ) → Op → Option PageOf → PageOf → Type 0
IsSpared p op before filled = (before ≡ Some filled) × (empties_of p op filled.proc filled.page ≡ false)

pub left_spared : (p : ℕ) (op : Op) (before : Option PageOf) (filled : PageOf) → left_by p op before ≡ Some filled → IsSpared p op before filled
left_spared p op None filled is = absurd (cc is)
left_spared p op (Some was) filled is = go (empties_of p op was.proc was.page) refl is
  where
    go : (b : Bool) → empties_of p op was.proc was.page ≡ b → (if b then None else Some was) ≡ Some filled → IsSpared p op (Some was) filled
    go true same left = absurd (cc left)
    go false same left = (left, ap (λ (x : PageOf). empties_of p op x.proc x.page) (sym (some_same left)) ∙ same)

note_spared : (p : ℕ) (op : Op) (what : What) (slots : Slots) (m : ℕ) (filled : PageOf) → IsOwn what → slots_after p op what slots m ≡ Some filled → IsSpared p op (slots m) filled
note_spared p op Idle slots m filled own is = absurd own
note_spared p op (Wait waiting) slots m filled own is = absurd own
note_spared p op (Event (events.MirrorFill a k q page)) slots m filled own is = absurd own
note_spared p op what slots m filled own is = left_spared p op (slots m) filled is

pub own_spared : (p : ℕ) (op : Op) (whats : List What) (slots : Slots) (m : ℕ) (filled : PageOf) → AreOwn whats → slots_of_turn p (Some op) whats slots m ≡ Some filled → IsSpared p op (slots m) filled
own_spared p op [] slots m filled own is = absurd own
own_spared p op (what ∷ []) slots m filled own is = note_spared p op what slots m filled (first_own what [] own) is
own_spared p op (what ∷ other ∷ whats) slots m filled own is =
    let later = own_spared p op (other ∷ whats) (slots_after p op what slots) m filled (later_own what other whats own) is in
    note_spared p op what slots m filled (first_own what (other ∷ whats) own) later.0

-- so are those of each turn
walk_own : {s : PlainState} {who : Doer} {page n got : ℕ} {write : Bool} {sequence : ℕ} {step : WalkStep} {whats : List What} {to : JobPlace} → WalksTo s who page n got write sequence step whats to → AreOwn whats
walk_own found_fork = tt
walk_own turn = search rules

shape_own : {s : PlainState} {references : References} {who : Doer} {place : Place} {op : Op} {from to : JobPlace} {whats : List What} → TurnOf s references who place op from whats to → IsNoMirror op → AreOwn whats
shape_own (filled_slot mirror proc page named first undenied) apart = absurd apart
shape_own (took op page n event (unmaps first many) less) apart = tt
shape_own (took op page n event (discards first many) less) apart = tt
shape_own (took_last op page n event (unmaps first many) is) apart = (tt, refl)
shape_own (took_last op page n event (discards first many) is) apart = (tt, refl)
shape_own (walked handle page n want sequence step whats to walks room free) apart = walk_own walks
shape_own (moved_word handle true slot parts value less undenied) apart = tt
shape_own (moved_word handle false slot parts value less undenied) apart = tt
shape_own (moved_last handle true slot parts value is undenied) apart = (tt, refl)
shape_own (moved_last handle false slot parts value is undenied) apart = (tt, refl)
shape_own turn apart = search rules

abbrev pub Own : Option Op → Option Waiting → List What → Type 0
Own (Some op) None whats = IsNoMirror op → AreOwn whats
Own op waiting whats = Unit {0}

pub turn_own : {s : PlainState} {references : References} {who : Doer} {place : Place} {op : Option Op} {waiting : Option Waiting} {from to : JobPlace} {whats : List What} → TurnAt s references who place op waiting from whats to → Own op waiting whats
turn_own (goes op whats from to birth own turn) = shape_own turn
turn_own (unborn_refused op lost first refusal) = λ apart. refl
turn_own (unborn_fork child lost proc first) = λ apart. (tt, refl)
turn_own turn = tt
