-- Which operations are of a process.
use Rattle.gup_script.specs.declared.op.Op.{Op}
use Rattle.gup_script.specs.declared.op.Op.TheVariants.{Map, Unmap, Protect, Discard, Load, Store, Pin, Unpin, Give, Take, Get, Put, Transfer, Mirror, Look, Move, Fork, Exit}

-- whether the operation is denied depends on pages, which are those of a process
abbrev pub NeedsProcess : Op → Type 0
NeedsProcess (Map page n rights) = Unit {0}
NeedsProcess (Unmap page n) = ⊥
NeedsProcess (Protect page n rights) = Unit {0}
NeedsProcess (Discard page n) = ⊥
NeedsProcess (Load page word) = Unit {0}
NeedsProcess (Store page word value) = Unit {0}
NeedsProcess (Pin handle page n want fast) = Unit {0}
NeedsProcess (Unpin handle) = ⊥
NeedsProcess (Give handle to) = ⊥
NeedsProcess (Take handle) = ⊥
NeedsProcess (Get handle page) = Unit {0}
NeedsProcess (Put handle) = ⊥
NeedsProcess (Transfer handle outward slot parts) = ⊥
NeedsProcess (Mirror mirror proc page) = Unit {0}
NeedsProcess (Look mirror word) = ⊥
NeedsProcess (Move proc page zone) = Unit {0}
NeedsProcess (Fork child) = ⊥
NeedsProcess Exit = ⊥
