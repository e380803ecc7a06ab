use Rattle.gup_op_pins.proofs.pins.moves_first.Goals as goal

pub needs_move-requires-clause-there : goal.needs_move-requires-clause-there
needs_move-requires-clause-there c = λ e found. (c.requires.ready.pinnable e found).there
