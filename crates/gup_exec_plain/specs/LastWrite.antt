-- The law of the last write: in a list of plain events, whatever reads a word finds what was last written to it; and
-- what a page names is written by its owner's stores, by devices through a pin of it, and by the fork that made it.
use Rattle.std.specs.Prelude.{◌≡◌, ℕ, ◌%◌, ◌<◌, ◌==◌, ◌&&◌, nat_lt, Bool, if◌then◌else◌, List, [], ◌∷◌, ◌++◌, length, Contains, Option, Some, None, IsSome}
use Rattle.gup_base.specs.declared.entry.Rights.{Rights}
use Rattle.gup_plain.specs.declared.event.PlainEvent.{PlainEvent}
use Rattle.gup_plain.specs.declared.event.PlainEvent.TheVariants.{Store, Load, MoveOut, MoveIn, Look, ForkPage, ForkWord}
use Rattle.gup_plain.specs.Event.{CanHappen, happened, words, object_at}
use Rattle.gup_plain.specs.State.{PlainState, Noted, objects_of, plain_start}

-- each event can happen in the state that those before it lead to
abbrev pub ArePossible : PlainState → List PlainEvent → Type 0
ArePossible s [] = Unit {0}
ArePossible s (e ∷ es) = CanHappen s e × ArePossible (happened s e) es

abbrev pub after : PlainState → List PlainEvent → PlainState
after s [] = s
after s (e ∷ es) = after (happened s e) es

-- the value where the event is of this object and word
abbrev pub at_word : (object word o w value : ℕ) → Option ℕ
at_word object word o w value = if object == o && word == w then Some value else None

-- What an event writes to a word of an object, if it does. (That the words of a fresh object are 0 is no write.)
abbrev pub written_by : PlainState → PlainEvent → (o w : ℕ) → Option ℕ
written_by s (Store actor p page word value) o w = at_word (s.object p page) word o w value
written_by s (MoveIn actor h index slot value) o w =
    at_word (object_at (s.handle h) index) (index % words) o w value
written_by s (ForkWord parent child page word) o w =
    at_word (s.object child page) word o w (s.content (s.object parent page) word)
written_by s (ForkPage parent child page) o w =
    if s.object child page == o && nat_lt w words then Some (s.content (s.object parent page) w) else None
written_by s e o w = None

-- the value, if there is one, else the one from before
abbrev pub or_else : Option ℕ → ℕ → ℕ
or_else None before = before
or_else (Some value) before = value

-- the value last written to the word, or else the one from before
abbrev pub last_written : PlainState → List PlainEvent → (o w before : ℕ) → ℕ
last_written s [] o w before = before
last_written s (e ∷ es) o w before = last_written (happened s e) es o w (or_else (written_by s e o w) before)

-- The event reads this word of this object and finds this value: a load, a device's read, a look, or a word of a fork.
abbrev pub Reads : PlainState → PlainEvent → (o w value : ℕ) → Type 0
Reads s (Load actor p page word found) o w value = (s.object p page ≡ o) × (word ≡ w) × (found ≡ value)
Reads s (MoveOut actor h index slot found) o w value =
    (object_at (s.handle h) index ≡ o) × (index % words ≡ w) × (found ≡ value)
Reads s (Look actor m word found) o w value =
    (noted : Noted) × (s.slot m ≡ Some noted) × (noted.object ≡ o) × (word ≡ w) × (found ≡ value)
-- what the child's word becomes
Reads s (ForkWord parent child page word) o w value =
    (s.object parent page ≡ o) × (word ≡ w)
    × ((happened s (ForkWord parent child page word)).content (s.object child page) word ≡ value)
Reads s (ForkPage parent child page) o w value =
    (s.object parent page ≡ o) × (w < words)
    × ((happened s (ForkPage parent child page)).content (s.object child page) w ≡ value)
Reads s e o w value = ⊥

-- the page of the process, be it growing or born, names the object
abbrev pub Names : PlainState → (p page o : ℕ) → Type 0
Names s p page o = IsSome (s.right p page) × (s.object p page ≡ o)

-- The event is a store of the process to the page, a device's write through a handle that has the object, or the fork
-- that makes the page.
abbrev pub IsByOwner : PlainState → (p page o : ℕ) → PlainEvent → Type 0
IsByOwner s p page o (Store actor q g word value) = (q ≡ p) × (g ≡ page)
IsByOwner s p page o (MoveIn actor h index slot value) = Contains (objects_of (s.handle h)) o
IsByOwner s p page o (ForkPage parent child g) = (child ≡ p) × (g ≡ page)
IsByOwner s p page o (ForkWord parent child g word) = (child ≡ p) × (g ≡ page)
IsByOwner s p page o e = ⊥

-- Over every list of events that can happen from a start on.
pub record LastWrite (is_born : ℕ → Bool) : Type 0 where
  -- what an event reads was last written, or is 0
  pub reads : (front : List PlainEvent) (e : PlainEvent) (o w value : ℕ) → ArePossible (plain_start is_born) (front ++ e ∷ []) → Reads (after (plain_start is_born) front) e o w value → value ≡ last_written (plain_start is_born) front o w 0
  -- what a page names in the end was written, whenever that was, by its owner
  pub writes : (front back : List PlainEvent) (e : PlainEvent) (p page o w value : ℕ) → ArePossible (plain_start is_born) (front ++ e ∷ back) → written_by (after (plain_start is_born) front) e o w ≡ Some value → Names (after (plain_start is_born) (front ++ e ∷ back)) p page o → IsByOwner (after (plain_start is_born) front) p page o e

-- The number of a process's pages is that of its named pages: they are the elements of a list without repetition that
-- is so long.
abbrev pub Lists : List ℕ → (ℕ → Option Rights) → Type 0
Lists pages right = (page : ℕ) → (Contains pages page → IsSome (right page)) × (IsSome (right page) → Contains pages page)

abbrev pub HasNoRepetition : List ℕ → Type 0
HasNoRepetition [] = Unit {0}
HasNoRepetition (x ∷ xs) = (Contains xs x → ⊥) × HasNoRepetition xs

abbrev pub CountsPages : PlainState → Type 0
CountsPages s =
    (p : ℕ) → (pages : List ℕ) × HasNoRepetition pages × Lists pages (s.right p) × (length pages ≡ s.pages p)
