-- Which core events a fault is, by what it finds, or the answer that refuses it.
use Rattle.std.specs.Prelude.{ℕ, ◌==◌, Bool, true, false, if◌then◌else◌, List, [], ◌∷◌, ◌++◌, Option, Some, None, Result, Ok, Err}
use Rattle.gup_base.specs.declared.entry.Entry.{Entry}
use Rattle.gup_base.specs.declared.entry.Rights.{Rights}
use Rattle.gup_base.specs.declared.entry.Rights.TheVariants.{R, RW}
use Rattle.gup_plain.specs.declared.answer.Answer.{Answer}
use Rattle.gup_plain.specs.declared.answer.Answer.TheVariants as answers
use Rattle.gup_spec_events.specs.Event.{CoreEvent, take_frame, fill, count_one, set_mark, upgrade, break_entry, put_entry, drop_entry, discard_entry}

-- What a fault comes to: its events, or a refusal that changes nothing.
abbrev pub Fault : Type 0
Fault = Result (List CoreEvent) Answer

abbrev pub events_of : Fault → List CoreEvent
events_of (Ok events) = events
events_of (Err answer) = []

abbrev pub refusal_of : Fault → Option Answer
refusal_of (Ok events) = None
refusal_of (Err answer) = Some answer

-- The page has no entry: it gets a frame of zeros, marked and read-only.
abbrev pub fills : (a p page : ℕ) → (free : Option ℕ) → Fault
fills a p page None = Err answers.NoFrame
fills a p page (Some f) = Ok (take_frame a f ∷ fill a p page f ∷ [])

-- The page's frame may have other references: it gets a copy, and the old reference is given back.
abbrev pub breaks : (a p page : ℕ) → Entry → (writable : Bool) → (free : Option ℕ) → Fault
breaks a p page e writable None = Err answers.NoFrame
breaks a p page e writable (Some f) =
    Ok (take_frame a f ∷ break_entry a p page e.frame f e.writable writable ∷ put_entry a e.frame ∷ [])

-- Nothing else refers to the page's unmarked frame: it is marked.
abbrev pub marks : (a p page : ℕ) → Entry → List CoreEvent
marks a p page e = count_one a p page e.frame e.writable ∷ set_mark a p page e.frame ∷ []

-- the page of a load: any entry is enough
abbrev pub read_fault : (a p page : ℕ) → Option Rights → Option Entry → (free : Option ℕ) → Fault
read_fault a p page None entry free = Err answers.Missing
read_fault a p page (Some rights) None free = fills a p page free
read_fault a p page (Some rights) (Some e) free = Ok []

-- a page with an entry, whose frame must be exclusive for a read pin
abbrev pub unshares : (a p page : ℕ) → Entry → (mark : Bool) → (count : ℕ) → (free : Option ℕ) → Fault
unshares a p page e true count free = Ok []
unshares a p page e false count free = if count == 1 then Ok (marks a p page e) else breaks a p page e false free

-- the page of a read pin
abbrev pub unshare_fault : (a p page : ℕ) → Option Rights → Option Entry → (mark : ℕ → Bool) → (count : ℕ → ℕ) → (free : Option ℕ) → Fault
unshare_fault a p page None entry mark count free = Err answers.Missing
unshare_fault a p page (Some rights) None mark count free = fills a p page free
unshare_fault a p page (Some rights) (Some e) mark count free =
    unshares a p page e (mark e.frame) (count e.frame) free

-- a page with a read-only entry, which must be writable
abbrev pub makes_writable : (a p page : ℕ) → Entry → (mark : Bool) → (count : ℕ) → (free : Option ℕ) → Fault
makes_writable a p page e true count free = Ok (upgrade a p page e.frame ∷ [])
makes_writable a p page e false count free =
    if count == 1 then Ok (marks a p page e ++ upgrade a p page e.frame ∷ []) else breaks a p page e true free

-- a page without an entry, which gets a writable one
abbrev pub fills_writable : (a p page : ℕ) → (free : Option ℕ) → Fault
fills_writable a p page None = Err answers.NoFrame
fills_writable a p page (Some f) = Ok (take_frame a f ∷ fill a p page f ∷ upgrade a p page f ∷ [])

-- the page of a store or a write pin
abbrev pub write_fault : (a p page : ℕ) → Option Rights → Option Entry → (mark : ℕ → Bool) → (count : ℕ → ℕ) → (free : Option ℕ) → Fault
write_fault a p page None entry mark count free = Err answers.Missing
write_fault a p page (Some R) entry mark count free = Err answers.Forbidden
write_fault a p page (Some RW) None mark count free = fills_writable a p page free
write_fault a p page (Some RW) (Some e) mark count free =
    if e.writable then Ok [] else makes_writable a p page e (mark e.frame) (count e.frame) free

-- the reference of an entry that went is given back
abbrev pub gives_back : (a : ℕ) → Option Entry → List CoreEvent
gives_back a None = []
gives_back a (Some e) = put_entry a e.frame ∷ []

-- a page of an unmap, or of a discard: nothing where it has no mapping
abbrev pub takes_down : (a p page : ℕ) → Option Rights → Option Entry → List CoreEvent
takes_down a p page None entry = []
takes_down a p page (Some rights) entry = drop_entry a p page entry ∷ gives_back a entry

abbrev pub discards : (a p page : ℕ) → Option Rights → Option Entry → List CoreEvent
discards a p page None entry = []
discards a p page (Some rights) entry = discard_entry a p page entry ∷ gives_back a entry
