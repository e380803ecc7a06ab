-- The turns of mirrors: a slot is filled with the frame of a page, which is made present as for a load, and a word is read through
-- a slot.
use Rattle.std.specs.Prelude.{ℕ, List, [], ◌∷◌, ◌++◌, Option, Some, None}
use Rattle.gup_base.specs.declared.entry.Entry.{Entry}
use Rattle.gup_plain.specs.declared.answer.Answer.TheVariants as answers
use Rattle.gup_plain.specs.declared.event.PlainEvent.TheVariants as events
use Rattle.gup_spec_events.specs.State.{CoreState}
use Rattle.gup_spec_events.specs.Event.{CoreEvent, fill_mirror, look, run}
use Rattle.gup_spec_turns.specs.CoreTurn.{CoreTurn, answers_with, ends_with, after_fault, entry_in}
use Rattle.gup_spec_turns.specs.PageTurns.{load_fault}

-- a slot is filled after these events, through the entry that the page has then
abbrev pub fills_by : List CoreEvent → (a p mirror page : ℕ) → Entry → CoreTurn
fills_by before a p mirror page e =
    ends_with (before ++ fill_mirror a mirror p page e.frame e.writable ∷ []) (events.MirrorFill a mirror p page) answers.Plain

abbrev pub fills : CoreState → List CoreEvent → (a p mirror page : ℕ) → CoreTurn
fills s before a p mirror page = fills_by before a p mirror page (entry_in ((run s before).entry p page))

abbrev pub mirror_turn : CoreState → (a p mirror page : ℕ) → Option Entry → CoreTurn
mirror_turn s a p mirror page entry =
    after_fault (load_fault s a p page entry) (λ before. fills s before a p mirror page)

-- a look through a slot with this frame, or through an empty one
abbrev pub look_turn : CoreState → (a mirror word : ℕ) → (frame : Option ℕ) → CoreTurn
look_turn s a mirror word None = answers_with answers.Stale
look_turn s a mirror word (Some f) =
    ends_with (look a mirror word f (s.word f word) ∷ []) (events.Look a mirror word (s.word f word)) (answers.Value (s.word f word))
