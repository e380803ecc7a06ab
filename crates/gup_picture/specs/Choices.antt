-- The options and wishes that a reader of words has, and how words begin.
use Rattle.std.specs.Prelude.{◌≡◌, ℕ, List, [], ◌∷◌, ◌++◌}
use Rattle.std.specs.Option.{option_map}
use Rattle.gup_picture.specs.Asking.{PageOf, Choice, as_svg, with_frames, from_turn, to_turn, page_alone, words_of, CanBeSaid, Wish}
use Rattle.gup_picture.specs.declared.command.NamedPage.{NamedPage}
use Rattle.gup_picture.specs.declared.command.Choice.{Choice as ReadChoice}
use Rattle.gup_picture.specs.declared.command.Choice.TheVariants.{Svg, Frames, From, To, Page}
use Rattle.gup_picture.specs.declared.command.Wanted.{Wanted}

abbrev pub page_of : NamedPage → PageOf
page_of named = record { process = named.process.now; page = named.page }

abbrev pub choice_of : ReadChoice → Choice
choice_of Svg = as_svg
choice_of Frames = with_frames
choice_of (From turn) = from_turn turn
choice_of (To turn) = to_turn turn
choice_of (Page named) = page_alone (page_of named)

abbrev pub wish_of : Wanted → Wish
wish_of wanted =
    record { svg = wanted.svg; frames = wanted.frames; from = wanted.from; to = wanted.to; page = option_map page_of wanted.page }

-- the words begin with those of this option, and these stand behind it
abbrev pub IsFirst : (words : List (List ℕ)) → Choice → (behind : List (List ℕ)) → Type 0
IsFirst words choice behind = (words ≡ words_of choice ++ behind) × CanBeSaid choice

abbrev pub BeginsWithNone : (words : List (List ℕ)) → Type 0
BeginsWithNone words = (choice : Choice) (behind : List (List ℕ)) → IsFirst words choice behind → ⊥

-- two words are those of this option
abbrev pub IsValued : (option value : List ℕ) → Choice → Type 0
IsValued option value choice = (words_of choice ≡ option ∷ value ∷ []) × CanBeSaid choice

abbrev pub IsNoneValued : (option value : List ℕ) → Type 0
IsNoneValued option value = (choice : Choice) → IsValued option value choice → ⊥
