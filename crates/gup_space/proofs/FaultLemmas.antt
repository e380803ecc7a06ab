-- The events of a fault, of an unmap and of a discard are of their process alone, so they leave every other process as it
-- is (ShowsLemmas).
use Rattle.std.specs.Prelude.{ℕ, ◌==◌, Bool, true, false, if◌then◌else◌, [], ◌∷◌, ◌++◌, Option, Some, None, Ok}
use Rattle.gup_base.specs.declared.entry.Entry.{Entry}
use Rattle.gup_base.specs.declared.entry.Rights.{Rights}
use Rattle.gup_base.specs.declared.entry.Rights.TheVariants.{R, RW}
use Rattle.gup_space.proofs.After.{AreOf, taking, filling, counting, marking_it, upgrading, breaking, putting}
use Rattle.gup_spec_events.specs.Event.{upgrade}
use Rattle.gup_spec_events.specs.Fault.{events_of, fills, breaks, marks, read_fault, unshares, makes_writable, fills_writable, write_fault}

fills_own : (a p page : ℕ) (free : Option ℕ) → AreOf p (events_of (fills a p page free))
fills_own a p page None = tt
fills_own a p page (Some f) = (taking a f, (filling a page f, tt))

fills_writable_own : (a p page : ℕ) (free : Option ℕ) → AreOf p (events_of (fills_writable a p page free))
fills_writable_own a p page None = tt
fills_writable_own a p page (Some f) = (taking a f, (filling a page f, (upgrading a page f, tt)))

breaks_own : (a p page : ℕ) (e : Entry) (writable : Bool) (free : Option ℕ) → AreOf p (events_of (breaks a p page e writable free))
breaks_own a p page e writable None = tt
breaks_own a p page e writable (Some f) =
    (taking a f, (breaking a page e.frame f e.writable writable, (putting a e.frame, tt)))

unshares_own : (a p page : ℕ) (e : Entry) (mark : Bool) (count : ℕ) (free : Option ℕ) → AreOf p (events_of (unshares a p page e mark count free))
unshares_own a p page e true count free = tt
unshares_own a p page e false count free = by_count (count == 1)
  where
    by_count : (alone : Bool) → AreOf p (events_of (if alone then Ok (marks a p page e) else breaks a p page e false free))
    by_count true = (counting a page e.frame e.writable, (marking_it a page e.frame, tt))
    by_count false = breaks_own a p page e false free

makes_writable_own : (a p page : ℕ) (e : Entry) (mark : Bool) (count : ℕ) (free : Option ℕ) → AreOf p (events_of (makes_writable a p page e mark count free))
makes_writable_own a p page e true count free = (upgrading a page e.frame, tt)
makes_writable_own a p page e false count free = by_count (count == 1)
  where
    by_count : (alone : Bool) → AreOf p (events_of (if alone then Ok (marks a p page e ++ upgrade a p page e.frame ∷ []) else breaks a p page e true free))
    by_count true = (counting a page e.frame e.writable, (marking_it a page e.frame, (upgrading a page e.frame, tt)))
    by_count false = breaks_own a p page e true free

pub read_fault_own : (a p page : ℕ) (right : Option Rights) (entry : Option Entry) (free : Option ℕ) → AreOf p (events_of (read_fault a p page right entry free))
read_fault_own a p page None entry free = tt
read_fault_own a p page (Some rights) None free = fills_own a p page free
read_fault_own a p page (Some rights) (Some e) free = tt

pub write_fault_own : (a p page : ℕ) (right : Option Rights) (entry : Option Entry) (mark : ℕ → Bool) (count : ℕ → ℕ) (free : Option ℕ) → AreOf p (events_of (write_fault a p page right entry mark count free))
write_fault_own a p page None entry mark count free = tt
write_fault_own a p page (Some R) entry mark count free = tt
write_fault_own a p page (Some RW) None mark count free = fills_writable_own a p page free
write_fault_own a p page (Some RW) (Some e) mark count free = by_entry e.writable
  where
    by_entry : (writable : Bool) → AreOf p (events_of (if writable then Ok [] else makes_writable a p page e (mark e.frame) (count e.frame) free))
    by_entry true = tt
    by_entry false = makes_writable_own a p page e (mark e.frame) (count e.frame) free
