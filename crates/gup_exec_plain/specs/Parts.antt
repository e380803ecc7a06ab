-- The plain model's state as the program keeps it, in parts.
use Rattle.std.specs.Prelude.{◌≡◌, ℕ, ◌<◌, ◌≤◌, false, List, [], Option, None, IsSome, All, vec_len, Result, MatchResult}
use Rattle.gup_plain.specs.State.{PlainState, Handle, unmade, Pending, Noted, plain_start, objects_of}
use Rattle.gup_plain.specs.Event.{CanHappen, happened, page_numbers}
use Rattle.gup_plain.specs.declared.event.PlainEvent.{PlainEvent}
use Rattle.gup_plain.specs.declared.event.PlainEvent.TheVariants as events
use Rattle.gup_exec_plain.specs.declared.refusal.PlainRefusal.{PlainRefusal}
use Rattle.gup_exec_plain.specs.declared.refusal.PlainRefusal.TheVariants.{Broken, NoMemory}
use Rattle.gup_exec_parts.specs.declared.actor.Actor.{Actor}
use Rattle.gup_exec_plain.specs.declared.parts.Parts.{Parts}
use Rattle.gup_exec_parts.specs.Actor.{store_of}
use Rattle.gup_exec_parts.specs.Contents.{content_of}
use Rattle.gup_exec_parts.specs.Pages.{right_in, object_in}
use Rattle.gup_exec_parts.specs.Space.{SpaceState, seen, blank}
use Rattle.gup_exec_parts.specs.Tables.{at_place}

-- the processes
abbrev pub spaces_of : Parts → ℕ → SpaceState
spaces_of v = at_place seen blank v.spaces.items

abbrev pub handles_of : Parts → ℕ → Handle
handles_of v = at_place (λ (h : Handle). h) unmade v.pins.items

abbrev pub slots_of : Parts → ℕ → Option Noted
slots_of v = at_place (λ (n : Option Noted). n) None v.mirrors.items

abbrev pub pending_of : Parts → ℕ → List Pending
pending_of v = at_place (λ (a : Actor). a.taken.items) [] v.actors.items

abbrev pub stores_of : Parts → ℕ → ℕ → ℕ
stores_of v = at_place store_of (λ _. 0) v.actors.items

-- the plain state with these processes
abbrev pub with_spaces : PlainState → (ℕ → SpaceState) → PlainState
with_spaces s spaces =
    record s {
      birth = λ p. (spaces p).birth;
      right = λ p page. right_in ((spaces p).page page);
      object = λ p page. object_in ((spaces p).page page);
      pages = λ p. (spaces p).pages;
      copied = λ p. (spaces p).copied;
    }

-- the plain state without any
abbrev pub other_state : Parts → PlainState
other_state v =
    record (plain_start (λ _. false)) {
      content = content_of v.contents;
      made = v.contents.made;
      handle = handles_of v;
      pending = pending_of v;
      store = stores_of v;
      slot = slots_of v;
    }

abbrev pub state_of : Parts → PlainState
state_of v = with_spaces (other_state v) (spaces_of v)

-- Each object that something names is made, and those that aren't have zeros; and each page that is named has a
-- number that a page may have.
pub record IsMade (s : PlainState) : Type 0 where
  pub pages : (p page : ℕ) → IsSome (s.right p page) → s.object p page < s.made
  pub numbers : (p page : ℕ) → IsSome (s.right p page) → page < page_numbers
  pub handles : (h : ℕ) → All (λ o. o < s.made) (objects_of (s.handle h))
  pub pending : (a : ℕ) → All (λ (t : Pending). t.object < s.made) (s.pending a)
  pub content : (o w : ℕ) → s.made ≤ o → s.content o w ≡ 0

-- each page that is named has a number that a page may have
abbrev pub AreNumbered : PlainState → Type 0
AreNumbered s = (p page : ℕ) → IsSome (s.right p page) → page < page_numbers

-- there is each process, each handle and each mirror slot that a number can name
pub record HasAll (v : Parts) : Type 0 where
  pub spaces : vec_len v.spaces ≡ 16
  pub pins : vec_len v.pins ≡ 1024
  pub mirrors : vec_len v.mirrors ≡ 64

-- what stands between two events
pub record IsSound (v : Parts) : Type 0 where
  pub all : HasAll v
  pub made : IsMade (state_of v)

-- how many processes and actors there are
abbrev pub processes_of : Parts → ℕ
processes_of v = v.processes

abbrev pub actors_of : Parts → ℕ
actors_of v = vec_len v.actors

-- the event's actor, where it has one, is one of n
abbrev pub HasActor : (n : ℕ) → PlainEvent → Type 0
HasActor n (events.Map actor p page k rights) = actor < n
HasActor n (events.Unmap actor p page) = actor < n
HasActor n (events.Discard actor p page) = actor < n
HasActor n (events.Protect actor p page k rights) = actor < n
HasActor n (events.Load actor p page word value) = actor < n
HasActor n (events.Store actor p page word value) = actor < n
HasActor n (events.PinTry actor p page write) = actor < n
HasActor n (events.PinDrop actor page) = actor < n
HasActor n (events.PinOk actor h) = actor < n
HasActor n (events.Unpin actor h) = actor < n
HasActor n (events.Give actor h to) = actor < n
HasActor n (events.Take actor h) = actor < n
HasActor n (events.MoveOut actor h index slot value) = actor < n
HasActor n (events.MoveIn actor h index slot value) = actor < n
HasActor n (events.MirrorFill actor m p page) = actor < n
HasActor n (events.Look actor m word value) = actor < n
HasActor n (events.ForkBegin parent child) = Unit {0}
HasActor n (events.ForkPage parent child page) = Unit {0}
HasActor n (events.ForkWord parent child page word) = Unit {0}
HasActor n (events.ForkEnd parent child) = Unit {0}
HasActor n (events.ForkFail child) = Unit {0}

-- the same numbers of processes, of actors and of the rest
pub record IsAsMany (old new : Parts) : Type 0 where
  pub processes : new.processes ≡ old.processes
  pub actors : vec_len new.actors ≡ vec_len old.actors
  pub spaces : vec_len new.spaces ≡ vec_len old.spaces
  pub pins : vec_len new.pins ≡ vec_len old.pins
  pub mirrors : vec_len new.mirrors ≡ vec_len old.mirrors

-- letting the event happen may take memory of the program's own, or numbers of objects
abbrev pub WantsMemory : PlainEvent → Type 0
WantsMemory (events.Map actor p page k rights) = Unit {0}
WantsMemory (events.Unmap actor p page) = ⊥
WantsMemory (events.Discard actor p page) = Unit {0}
WantsMemory (events.Protect actor p page k rights) = ⊥
WantsMemory (events.Load actor p page word value) = ⊥
WantsMemory (events.Store actor p page word value) = Unit {0}
WantsMemory (events.PinTry actor p page write) = Unit {0}
WantsMemory (events.PinDrop actor page) = ⊥
WantsMemory (events.PinOk actor h) = Unit {0}
WantsMemory (events.Unpin actor h) = ⊥
WantsMemory (events.Give actor h to) = ⊥
WantsMemory (events.Take actor h) = ⊥
WantsMemory (events.MoveOut actor h index slot value) = Unit {0}
WantsMemory (events.MoveIn actor h index slot value) = Unit {0}
WantsMemory (events.MirrorFill actor m p page) = ⊥
WantsMemory (events.Look actor m word value) = ⊥
WantsMemory (events.ForkBegin parent child) = Unit {0}
WantsMemory (events.ForkPage parent child page) = Unit {0}
WantsMemory (events.ForkWord parent child page word) = Unit {0}
WantsMemory (events.ForkEnd parent child) = ⊥
WantsMemory (events.ForkFail child) = ⊥

-- where the event is refused as broken, it cannot happen, and where allocation failed, it wants memory
abbrev pub IsRight : PlainRefusal → PlainState → PlainEvent → Type 0
IsRight Broken s e = CanHappen s e → ⊥
IsRight NoMemory s e = WantsMemory e

-- The event has happened, or it is refused and nothing has changed.
abbrev pub Applies : PlainState → PlainState → PlainEvent → Result (Unit {0}) PlainRefusal → Type 0
Applies old new e result =
    MatchResult result (λ _. CanHappen old e × (new ≡ happened old e)) (λ refusal. IsRight refusal old e × (new ≡ old))
