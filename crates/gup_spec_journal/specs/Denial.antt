-- The answer by which the plain state denies an operation, by the operation.
use Rattle.std.specs.Prelude.{ℕ, ◌+◌, ◌==◌, Bool, false, Option, Some, None}
use Rattle.gup_plain.specs.State.{PlainState}
use Rattle.gup_plain.specs.Denial.{denial_at, any_mapped, any_unmapped, load_denial, store_denial, map_denial, protect_denial, pin_denial, holder_denial, is_held_by, transfer_denial}
use Rattle.gup_plain.specs.declared.answer.Answer.{Answer}
use Rattle.gup_script.specs.declared.op.Op.{Op}
use Rattle.gup_script.specs.declared.op.Op.TheVariants.{Map, Protect, Load, Store, Pin, Unpin, Give, Get, Put, Transfer, Mirror, Move}
use Rattle.gup_spec_journal.specs.Place.{Doer, birth_for}

-- Who has got a reference under each handle, and not put it back. References change nothing of the plain state.
abbrev pub References : Type 0
References = ℕ → Option ℕ

abbrev pub no_references : References
no_references _ = None

abbrev pub has_reference : Option ℕ → (a : ℕ) → Bool
has_reference None a = false
has_reference (Some by) a = by == a

-- What denies an operation of a born process. A pin is denied page by page: at the one after those that it has got.
abbrev pub op_denial : PlainState → References → Doer → (got : ℕ) → Op → Option Answer
op_denial s references who got (Map page n rights) = map_denial (any_mapped (s.right who.proc) page n) (s.pages who.proc) n
op_denial s references who got (Protect page n rights) = protect_denial (any_unmapped (s.right who.proc) page n)
op_denial s references who got (Load page word) = load_denial (s.right who.proc page)
op_denial s references who got (Store page word value) = store_denial (s.right who.proc page)
op_denial s references who got (Pin handle page n want fast) = pin_denial want.write (s.right who.proc (page + got))
op_denial s references who got (Unpin handle) = holder_denial (is_held_by (s.handle handle) who.actor)
op_denial s references who got (Give handle to) = holder_denial (is_held_by (s.handle handle) who.actor)
op_denial s references who got (Get handle page) = load_denial (s.right who.proc page)
op_denial s references who got (Put handle) = holder_denial (has_reference (references handle) who.actor)
op_denial s references who got (Transfer handle outward slot parts) =
    transfer_denial (s.handle handle) who.actor outward who.slots slot parts
op_denial s references who got (Mirror mirror proc page) = load_denial (s.right who.proc page)
op_denial s references who got (Move proc page zone) = load_denial (s.right who.proc page)
op_denial s references who got op = None

-- what denies an operation, if something does: first, of a thread's, that its process failed to come into being
abbrev pub denial : PlainState → References → Doer → (got : ℕ) → Op → Option Answer
denial s references who got op = denial_at (birth_for s.birth who) (op_denial s references who got op)
