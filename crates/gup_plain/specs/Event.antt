-- The plain events: when each can happen, and what it changes.
use Rattle.std.specs.Prelude.{◌≡◌, ℕ, ◌+◌, ◌-◌, ◌*◌, ◌/◌, ◌%◌, ◌<◌, ◌≤◌, ◌==◌, not, Bool, true, false, List, [], ◌∷◌, ◌++◌, map, length, slice_index, All, Contains, Some, None, IsSome}
use Rattle.std.specs.List.{filter}
use Rattle.gup_base.specs.declared.entry.Rights.TheVariants.{RW}
use Rattle.gup_plain.specs.declared.event.PlainEvent.{PlainEvent}
use Rattle.gup_plain.specs.declared.event.PlainEvent.TheVariants.{Map, Unmap, Discard, Protect, Load, Store, PinTry, PinDrop, PinOk, Unpin, Give, Take, MoveOut, MoveIn, MirrorFill, Look, ForkBegin, ForkPage, ForkWord, ForkEnd, ForkFail}
use Rattle.gup_plain.specs.Put.{put, put2, spread}
use Rattle.gup_plain.specs.State.{PlainState, Birth, unborn, growing, born, failed, Handle, unmade, held, given, gone, Pending, Noted, IsNamed, objects_of, named_or_zero}
use Rattle.gup_base.specs.Counts.{most_slots}
use Rattle.gup_plain.specs.Pages.{mapped_pages}
unfoldable pub use Rattle.gup_plain.specs.Pages.{page_numbers}

-- the most pages that a process may have mapped
abbrev pub most_pages : ℕ
most_pages = 1024

-- the words of a page, and the words of a store
abbrev pub words : ℕ
words = 512

-- a born process has the page mapped to be written, or this is not asked
abbrev pub MayPin : PlainState → (p page : ℕ) → (write : Bool) → Type 0
MayPin s p page true = s.right p page ≡ Some RW
MayPin s p page false = IsSome (s.right p page)

-- the pages that a running pin has taken
abbrev pub pending_pages : List Pending → List ℕ
pending_pages taken = map (λ t. t.page) taken

abbrev pub pending_objects : List Pending → List ℕ
pending_objects taken = map (λ t. t.object) taken

-- there is a page taken, and all are to be written or none: as this says
abbrev pub AreTaken : List Pending → Bool → Type 0
AreTaken [] write = ⊥
AreTaken (t ∷ ts) write = All (λ (u : Pending). u.write ≡ write) (t ∷ ts)

-- the flag of the pages taken
abbrev pub write_flag : List Pending → Bool
write_flag [] = false
write_flag (t ∷ ts) = t.write

-- who holds a handle, and whether its pin is one to write
abbrev pub IsHeldBy : Handle → ℕ → Type 0
IsHeldBy (held by objects write) a = by ≡ a
IsHeldBy handle a = ⊥

abbrev pub IsGivenTo : Handle → ℕ → Type 0
IsGivenTo (given to objects write) a = to ≡ a
IsGivenTo handle a = ⊥

abbrev pub may_write : Handle → Bool
may_write (held by objects write) = write
may_write (given to objects write) = write
may_write unmade = false
may_write gone = false

abbrev pub given_to : Handle → ℕ → Handle
given_to h to = given to (objects_of h) (may_write h)

abbrev pub held_by : Handle → ℕ → Handle
held_by h by = held by (objects_of h) (may_write h)

-- a handle's pages as one row of words: the object of the word with this index
abbrev pub object_at : Handle → (index : ℕ) → ℕ
object_at h index = slice_index (objects_of h) (index / words)

-- the actor holds the handle, and it has a word with this index; the actor's store has this slot
abbrev pub CanTransfer : PlainState → (a h index slot : ℕ) → Type 0
CanTransfer s a h index slot =
    IsHeldBy (s.handle h) a × (index < words * length (objects_of (s.handle h))) × (slot < most_slots)

-- the noted page still names the noted object
abbrev pub StillNames : PlainState → Noted → Type 0
StillNames s noted = IsNamed s noted.proc noted.page × (s.object noted.proc noted.page ≡ noted.object)

-- parent and growing child both have the page
abbrev pub AreForking : PlainState → (parent child page : ℕ) → Type 0
AreForking s parent child page =
    (s.birth child ≡ growing parent) × IsSome (s.right parent page) × IsSome (s.right child page)

abbrev pub IsUnbornOrGrowing : Birth → Type 0
IsUnbornOrGrowing unborn = Unit {0}
IsUnbornOrGrowing (growing parent) = Unit {0}
IsUnbornOrGrowing born = ⊥
IsUnbornOrGrowing failed = ⊥

abbrev pub CanHappen : PlainState → PlainEvent → Type 0
-- none of the pages is named, and there are not too many afterwards
CanHappen s (Map actor p page n rights) =
    (s.birth p ≡ born) × (page + n ≤ page_numbers) × ((k : ℕ) → k < n → s.right p (page + k) ≡ None)
    × (s.pages p + n ≤ most_pages)
CanHappen s (Unmap actor p page) = IsNamed s p page
CanHappen s (Discard actor p page) = IsNamed s p page
CanHappen s (Protect actor p page n rights) =
    (s.birth p ≡ born) × ((k : ℕ) → k < n → IsSome (s.right p (page + k)))
-- the value is the word of the object that the page names
CanHappen s (Load actor p page word value) = IsNamed s p page × (value ≡ s.content (s.object p page) word)
CanHappen s (Store actor p page word value) = (s.birth p ≡ born) × (s.right p page ≡ Some RW)
CanHappen s (PinTry actor p page write) =
    (s.birth p ≡ born) × MayPin s p page write × (Contains (pending_pages (s.pending actor)) page → ⊥)
CanHappen s (PinDrop actor page) = Contains (pending_pages (s.pending actor)) page
CanHappen s (PinOk actor h) =
    (s.handle h ≡ unmade) × AreTaken (s.pending actor) (write_flag (s.pending actor))
CanHappen s (Unpin actor h) = IsHeldBy (s.handle h) actor
CanHappen s (Give actor h to) = IsHeldBy (s.handle h) actor
CanHappen s (Take actor h) = IsGivenTo (s.handle h) actor
CanHappen s (MoveOut actor h index slot value) =
    CanTransfer s actor h index slot × (value ≡ s.content (object_at (s.handle h) index) (index % words))
CanHappen s (MoveIn actor h index slot value) =
    CanTransfer s actor h index slot × (may_write (s.handle h) ≡ true) × (value ≡ s.store actor slot)
CanHappen s (MirrorFill actor m p page) = IsNamed s p page
CanHappen s (Look actor m word value) =
    (noted : Noted) × (s.slot m ≡ Some noted) × StillNames s noted × (value ≡ s.content noted.object word)
CanHappen s (ForkBegin parent child) = (s.birth parent ≡ born) × (s.birth child ≡ unborn)
CanHappen s (ForkPage parent child page) =
    AreForking s parent child page × ((word : ℕ) → word < words → s.copied child page word ≡ false)
CanHappen s (ForkWord parent child page word) =
    AreForking s parent child page × (s.copied child page word ≡ false)
CanHappen s (ForkEnd parent child) =
    (s.birth child ≡ growing parent)
    × ((page word : ℕ) → IsSome (s.right child page) → word < words → s.copied child page word ≡ true)
CanHappen s (ForkFail child) = IsUnbornOrGrowing (s.birth child)

-- A fresh object for each page from this one on, and for each page that is mapped: objects are names, and are given
-- out with gaps.
abbrev pub happened : PlainState → PlainEvent → PlainState
-- each page names a fresh object of zeros
happened s (Map actor p page n rights) =
    record s {
      content = spread s.made n (λ _ _. 0) s.content;
      made = s.made + n;
      right = put p (spread page n (λ _. Some rights) (s.right p)) s.right;
      object = put p (spread page n (λ g. s.made + (g - page)) (s.object p)) s.object;
      pages = put p (s.pages p + n) s.pages;
    }
-- the name goes, the object stays
happened s (Unmap actor p page) =
    record s {
      right = put2 p page None s.right;
      object = put2 p page 0 s.object;
      pages = put p (s.pages p - 1) s.pages;
    }
-- the page names a fresh object of zeros
happened s (Discard actor p page) =
    record s {
      content = put s.made (λ _. 0) s.content;
      made = s.made + 1;
      object = put2 p page s.made s.object;
    }
happened s (Protect actor p page n rights) =
    record s { right = put p (spread page n (λ _. Some rights) (s.right p)) s.right }
happened s (Load actor p page word value) = s
happened s (Store actor p page word value) = record s { content = put2 (s.object p page) word value s.content }
-- the page is the last that the running pin has taken
happened s (PinTry actor p page write) =
    record s {
      pending = put actor (s.pending actor ++ record { page = page; object = s.object p page; write = write } ∷ []) s.pending;
    }
happened s (PinDrop actor page) =
    record s { pending = put actor (filter (λ (t : Pending). not (t.page == page)) (s.pending actor)) s.pending }
-- what the running pin has taken is the handle's
happened s (PinOk actor h) =
    record s {
      handle = put h (held actor (pending_objects (s.pending actor)) (write_flag (s.pending actor))) s.handle;
      pending = put actor [] s.pending;
    }
happened s (Unpin actor h) = record s { handle = put h gone s.handle }
happened s (Give actor h to) = record s { handle = put h (given_to (s.handle h) to) s.handle }
happened s (Take actor h) = record s { handle = put h (held_by (s.handle h) actor) s.handle }
happened s (MoveOut actor h index slot value) = record s { store = put2 actor slot value s.store }
happened s (MoveIn actor h index slot value) =
    record s { content = put2 (object_at (s.handle h) index) (index % words) value s.content }
happened s (MirrorFill actor m p page) =
    record s { slot = put m (Some (record { proc = p; page = page; object = s.object p page })) s.slot }
happened s (Look actor m word value) = s
-- the child has its parent's pages and rights, each with a fresh object of zeros
happened s (ForkBegin parent child) =
    record s {
      content = spread s.made page_numbers (λ _ _. 0) s.content;
      made = s.made + page_numbers;
      birth = put child (growing parent) s.birth;
      right = put child (s.right parent) s.right;
      object = put child (λ page. named_or_zero (s.right parent page) (s.made + page)) s.object;
      pages = put child (mapped_pages (s.right parent)) s.pages;
      copied = put child (λ _ _. false) s.copied;
    }
-- all words of the page at once
happened s (ForkPage parent child page) =
    let from = s.object parent page in
    let to = s.object child page in
    record s {
      content = put to (spread 0 words (s.content from) (s.content to)) s.content;
      copied = put2 child page (spread 0 words (λ _. true) (s.copied child page)) s.copied;
    }
happened s (ForkWord parent child page word) =
    record s {
      content = put2 (s.object child page) word (s.content (s.object parent page) word) s.content;
      copied = put2 child page (put word true (s.copied child page)) s.copied;
    }
happened s (ForkEnd parent child) =
    record s { birth = put child born s.birth; copied = put child (λ _ _. false) s.copied }
happened s (ForkFail child) =
    record s {
      birth = put child failed s.birth;
      right = put child (λ _. None) s.right;
      object = put child (λ _. 0) s.object;
      pages = put child 0 s.pages;
      copied = put child (λ _ _. false) s.copied;
    }
