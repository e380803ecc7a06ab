-- The notes of a pin name its process and its handle.
use Rattle.std.proofs.Common.{◌≡◌, ℕ, ◌+◌, ◌⊎◌, inl, inr, Bool, true, false, List, [], ◌∷◌, Option, zero, suc, refl}
use Rattle.std.specs.List.{AllByRecursion}
use Rattle.gup_base.specs.declared.entry.Want.{Want}
use Rattle.gup_plain.specs.Note.{NoteValue}
use Rattle.gup_plain.specs.declared.answer.Answer.{Answer}
use Rattle.gup_plain.specs.declared.answer.Answer.TheVariants as answers
use Rattle.gup_plain.specs.declared.event.PlainEvent.TheVariants as events
use Rattle.gup_plain.specs.declared.note.What.{What}
use Rattle.gup_plain.specs.declared.note.What.TheVariants.{Silent, Event, Done}
use Rattle.gup_script.specs.Script.{ScriptValue}
use Rattle.gup_script.specs.declared.op.Op.{Op}
use Rattle.gup_spec_journal.specs.Follows.{Who, TriesIn, RefusesPage, takes_page, Stop, at_entry, at_frame, at_entry_again, at_mark, stops_at, drops_pages, DropsAll, StopsWalk, WalksOn, Walks, RefusesFirst, RefusesFast, RefusesPin, EndsShort, PinsPages, PinsAll, Pins}
use Rattle.gup_spec_journal.specs.Plain.{refusal_by_cause}
use Rattle.gup_spec_trace.specs.Written.{IsProcess, IsHandle, is_pin}
use Rattle.gup_law_written.proofs.EachNote.{Each, IsOf, SayAll, each_turn, each_turns, each_then, each_third}

-- one page

tries_in : (s : ScriptValue) (who : Who) (op : Option Op) (want : Want) (whats : List What) → SayAll s who op whats → Each (IsOf s who op) (TriesIn who want whats)
tries_in s who op want whats say notes (inl first) = each_turn s who op whats say notes first
tries_in s who op want whats say notes (inr long) = each_third s who op whats say notes long.1

pub refuses_page : (s : ScriptValue) (who : Who) (op : Option Op) (want : Want) (answer : Answer) (whats : List What) → SayAll s who op whats → Each (IsOf s who op) (RefusesPage who want answer whats)
refuses_page s who op want (answers.Unmovable count) whats say notes is = each_third s who op whats say notes is.1
refuses_page s who op want answers.NoFrame whats say notes is = tries_in s who op want whats say notes is
refuses_page s who op want answer whats say notes is = each_turn s who op whats say notes is

-- the walk

drops_named : (s : ScriptValue) (who : Who) (op : Option Op) (page pages : ℕ) → AllByRecursion (SayAll s who op) (drops_pages who.actor page pages)
drops_named s who op page zero = tt
drops_named s who op page (suc pages) = ((refl, tt), drops_named s who op (page + 1) pages)

takes_named : (s : ScriptValue) (who : Who) (op : Option Op) → IsProcess s who.proc → (page : ℕ) (write : Bool) → AllByRecursion (SayAll s who op) (takes_page who page write)
takes_named s who op proc page write = ((tt, tt), ((tt, tt), (((refl, proc), tt), ((tt, tt), tt))))

stops_named : (s : ScriptValue) (who : Who) (op : Option Op) → IsProcess s who.proc → (page : ℕ) (write : Bool) (stop : Stop) → AllByRecursion (SayAll s who op) (stops_at who page write stop)
stops_named s who op proc page write at_entry = ((tt, tt), tt)
stops_named s who op proc page write at_frame = ((tt, tt), ((tt, tt), tt))
stops_named s who op proc page write at_entry_again = ((tt, tt), ((tt, tt), ((tt, tt), ((tt, tt), tt))))
stops_named s who op proc page write at_mark = ((tt, tt), ((tt, tt), (((refl, proc), tt), ((tt, tt), ((refl, tt), tt)))))

-- what is left to slow turns
abbrev pub EachSlowly : ScriptValue → Who → Option Op → (Slowly : (got left : ℕ) → List NoteValue → Type 0) → Type 0
EachSlowly s who op Slowly = (got left : ℕ) → Each (IsOf s who op) (Slowly got left)

drops_all : (s : ScriptValue) (who : Who) (op : Option Op) (page n kept : ℕ) (Slowly : (got left : ℕ) → List NoteValue → Type 0) → EachSlowly s who op Slowly → Each (IsOf s who op) (DropsAll who page n kept Slowly)
drops_all s who op page n kept Slowly slowly =
    each_turns s who op ((Silent ∷ []) ∷ drops_pages who.actor page kept) (Slowly 0 n) ((tt, tt), drops_named s who op page kept) (slowly 0 n)

stops_walk : (s : ScriptValue) (who : Who) (op : Option Op) (page n : ℕ) (Slowly : (got left : ℕ) → List NoteValue → Type 0) → EachSlowly s who op Slowly → (kept left : ℕ) → Each (IsOf s who op) (StopsWalk who page n Slowly kept left)
stops_walk s who op page n Slowly slowly kept left notes (inl same) = each_turns s who op ((Silent ∷ []) ∷ []) (Slowly kept left) ((tt, tt), tt) (slowly kept left) notes same
stops_walk s who op page n Slowly slowly kept left notes (inr other) = drops_all s who op page n kept Slowly slowly notes other

walks_on : (s : ScriptValue) (who : Who) (op : Option Op) → IsProcess s who.proc → (page n : ℕ) (write : Bool) (All : List NoteValue → Type 0) → Each (IsOf s who op) All → (Slowly : (got left : ℕ) → List NoteValue → Type 0) → EachSlowly s who op Slowly → (kept left : ℕ) → Each (IsOf s who op) (WalksOn who page n write All Slowly kept left)
walks_on s who op proc page n write All all Slowly slowly kept zero notes (inl last) = all notes last
walks_on s who op proc page n write All all Slowly slowly kept zero notes (inr other) = drops_all s who op page n kept Slowly slowly notes other
walks_on s who op proc page n write All all Slowly slowly kept (suc left) notes (inl took) =
    each_turns s who op (takes_page who (page + kept) write) (WalksOn who page n write All Slowly (kept + 1) left) (takes_named s who op proc (page + kept) write)
    (walks_on s who op proc page n write All all Slowly slowly (kept + 1) left) notes took
walks_on s who op proc page n write All all Slowly slowly kept (suc left) notes (inr stopped) =
    each_turns s who op (stops_at who (page + kept) write stopped.0) (StopsWalk who page n Slowly kept (suc left)) (stops_named s who op proc (page + kept) write stopped.0)
    (stops_walk s who op page n Slowly slowly kept (suc left)) notes stopped.1

walks : (s : ScriptValue) (who : Who) (op : Option Op) → IsProcess s who.proc → (page n : ℕ) (write : Bool) (All : List NoteValue → Type 0) → Each (IsOf s who op) All → (Slowly : (got left : ℕ) → List NoteValue → Type 0) → EachSlowly s who op Slowly → Each (IsOf s who op) (Walks who page n write All Slowly)
walks s who op proc page n write All all Slowly slowly =
    each_turns s who op ((Silent ∷ []) ∷ (Silent ∷ []) ∷ []) Begun ((tt, tt), ((tt, tt), tt)) begun
  where
    Begun : List NoteValue → Type 0
    Begun rest = Slowly 0 n rest ⊎ WalksOn who page n write All Slowly 0 n rest

    begun : Each (IsOf s who op) Begun
    begun notes (inl odd) = slowly 0 n notes odd
    begun notes (inr even) = walks_on s who op proc page n write All all Slowly slowly 0 n notes even

-- all of it

ends_short : (s : ScriptValue) (who : Who) (op : Option Op) (handle n : ℕ) → IsHandle s handle → (want : Want) (got : ℕ) → Each (IsOf s who op) (EndsShort who handle n want got)
ends_short s who op handle n there want got notes is =
    refuses_page s who op want (refusal_by_cause is.1) (Event (events.PinOk who.actor handle) ∷ Done (answers.Short got n is.1) ∷ []) ((refl, there), (tt, tt)) notes is.3

pins_pages : (s : ScriptValue) (who : Who) (op : Option Op) → is_pin op ≡ true → (handle page n : ℕ) → IsProcess s who.proc → IsHandle s handle → (want : Want) (got left : ℕ) → Each (IsOf s who op) (PinsPages who handle page n want got left)
pins_pages s who op pin handle page n proc there want got zero notes is = absurd is
pins_pages s who op pin handle page n proc there want got (suc zero) notes (inl last) =
    tries_in s who op want (Event (events.PinTry who.actor who.proc (page + got) want.write) ∷ Event (events.PinOk who.actor handle) ∷ Done (answers.Pinned n) ∷ [])
    ((refl, proc), ((refl, there), (pin, tt))) notes last
pins_pages s who op pin handle page n proc there want got (suc zero) notes (inr short) = ends_short s who op handle n there want got notes short
pins_pages s who op pin handle page n proc there want got (suc (suc left)) notes (inl took) =
    let tried : What = Event (events.PinTry who.actor who.proc (page + got) want.write) in
    each_then (IsOf s who op) (TriesIn who want (tried ∷ [])) (PinsPages who handle page n want (got + 1) (suc left))
    (tries_in s who op want (tried ∷ []) ((refl, proc), tt)) (pins_pages s who op pin handle page n proc there want (got + 1) (suc left)) notes took
pins_pages s who op pin handle page n proc there want got (suc (suc left)) notes (inr short) = ends_short s who op handle n there want got notes short

pub pins : (s : ScriptValue) (who : Who) (op : Option Op) → is_pin op ≡ true → (handle page n : ℕ) → IsProcess s who.proc → IsHandle s handle → (want : Want) (fast : Bool) → Each (IsOf s who op) (Pins who handle page n want fast)
pins s who op pin handle page n proc there want false notes is = pins_pages s who op pin handle page n proc there want 0 n notes is
pins s who op pin handle page n proc there want true notes is =
    walks s who op proc page n want.write (PinsAll who handle n)
    (each_turn s who op (Event (events.PinOk who.actor handle) ∷ Done (answers.Pinned n) ∷ []) ((refl, there), (pin, tt)))
    (PinsPages who handle page n want) (pins_pages s who op pin handle page n proc there want) notes is

-- a pin that is refused

refuses_fast : (s : ScriptValue) (who : Who) (op : Option Op) → IsProcess s who.proc → (page n : ℕ) (want : Want) (answer : Answer) → SayAll s who op (Done answer ∷ []) → Each (IsOf s who op) (RefusesFast who page n want answer)
refuses_fast s who op proc page n want answers.Unborn say notes is = each_turn s who op (Done answers.Unborn ∷ []) (tt, tt) notes is
refuses_fast s who op proc page n want answer say notes is =
    walks s who op proc page n want.write (λ rest. ⊥) (λ rest never. absurd never) (RefusesFirst who want answer)
    (λ got left rest first. refuses_page s who op want answer (Done answer ∷ []) say rest first.1) notes is

pub refuses_pin : (s : ScriptValue) (who : Who) (op : Option Op) → IsProcess s who.proc → (page n : ℕ) (want : Want) (fast : Bool) (answer : Answer) → SayAll s who op (Done answer ∷ []) → Each (IsOf s who op) (RefusesPin who page n want fast answer)
refuses_pin s who op proc page n want false answer say notes is = refuses_page s who op want answer (Done answer ∷ []) say notes is
refuses_pin s who op proc page n want true answer say notes is = refuses_fast s who op proc page n want answer say notes is
