-- An order as the words of a `turns` line.
use Rattle.std.specs.Prelude.{ℕ, ◌+◌, ◌==◌, if◌then◌else◌, List, [], ◌∷◌, ◌++◌, codes, decimal, replicate}
use Rattle.std.specs.List.{flat_map}
use Rattle.gup_script.specs.Script.{ScriptValue, actor_at}
use Rattle.gup_lines.specs.Text.{name_in}
use Rattle.gup_orders.specs.declared.turns.Repeat.{Repeat}

-- one turn of the actor, and then these
abbrev pub before_all : (actor : ℕ) → List Repeat → List Repeat
before_all actor [] = record { actor = actor; times = 1 } ∷ []
before_all actor (first ∷ more) =
    if first.actor == actor then record { actor = actor; times = first.times + 1 } ∷ more
    else record { actor = actor; times = 1 } ∷ first ∷ more

-- the turns of an order, those of one actor one after another taken together
abbrev pub repeats : (order : List ℕ) → List Repeat
repeats [] = []
repeats (actor ∷ order) = before_all actor (repeats order)

-- the turns that are meant
abbrev pub turns_of : List Repeat → List ℕ
turns_of these = flat_map (λ (r : Repeat). replicate r.times r.actor) these

abbrev pub times_text : ℕ → List ℕ
times_text times = if times == 1 then [] else codes "*" ++ decimal times

-- a word of a `turns` line, behind a space: the actor's name, and how often, if more than once
abbrev pub repeat_text : ScriptValue → Repeat → List ℕ
repeat_text script r = codes " " ++ (name_in (actor_at script r.actor) ++ times_text r.times)

-- the line, without its line feed
abbrev pub turns_text : ScriptValue → (order : List ℕ) → List ℕ
turns_text script order = codes "turns" ++ flat_map (repeat_text script) (repeats order)
