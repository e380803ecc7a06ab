-- Which words ask what. The words are those of options, one behind the other, in any order, and each says what isn't said before.
use Rattle.std.specs.Prelude.{◌≡◌, ℕ, ◌≤◌, ◌<◌, ◌^◌, Bool, true, false, List, [], ◌∷◌, ◌++◌, codes, decimal, string_bytes, Option, None, Some, unwrap_or}
use Rattle.std.specs.List.{flat_map}
use Rattle.gup_spec_grammar.specs.Spelling.{IsName}
use Rattle.gup_scene.specs.declared.Asked.{Asked}
use Rattle.gup_scene.specs.declared.AskedPage.{AskedPage}

-- a page, by its process's name
pub record PageOf : Type 0 where
  pub process : List ℕ
  pub page : ℕ

-- a page's word: a name, a dot, and a number below 2^35
abbrev pub page_word : (process : List ℕ) → (page : ℕ) → List ℕ
page_word process page = process ++ codes "." ++ decimal page

abbrev pub IsPageWord : (word process : List ℕ) → (page : ℕ) → Type 0
IsPageWord word process page = (word ≡ page_word process page) × IsName process × (page < 2 ^ 35)

-- ---- options

pub data Choice : Type 0 where
  as_svg : Choice
  with_frames : Choice
  from_turn : (turn : ℕ) → Choice
  to_turn : (turn : ℕ) → Choice
  page_alone : (asked : PageOf) → Choice

-- the words of an option
abbrev pub words_of : Choice → List (List ℕ)
words_of as_svg = codes "--svg" ∷ []
words_of with_frames = codes "--frames" ∷ []
words_of (from_turn turn) = codes "--from" ∷ decimal turn ∷ []
words_of (to_turn turn) = codes "--to" ∷ decimal turn ∷ []
words_of (page_alone asked) = codes "--page" ∷ page_word asked.process asked.page ∷ []

-- the number of the last turn that a run can have
abbrev pub last_turn : ℕ
last_turn = 4294967295

-- what stands behind an option is in range
abbrev pub CanBeSaid : Choice → Type 0
CanBeSaid as_svg = Unit {0}
CanBeSaid with_frames = Unit {0}
CanBeSaid (from_turn turn) = (1 ≤ turn) × (turn ≤ last_turn)
CanBeSaid (to_turn turn) = (1 ≤ turn) × (turn ≤ last_turn)
CanBeSaid (page_alone asked) = IsName asked.process × (asked.page < 2 ^ 35)

-- ---- what they ask

-- A picture as SVG or as text; with each frame or without; from a turn on; to a turn; of one page alone.
pub record Wish : Type 0 where
  pub svg : Bool
  pub frames : Bool
  pub from : Option ℕ
  pub to : Option ℕ
  pub page : Option PageOf

abbrev pub nothing : Wish
nothing = record { svg = false; frames = false; from = None; to = None; page = None }

-- the option isn't said yet
abbrev pub IsNew : Choice → Wish → Type 0
IsNew as_svg wish = wish.svg ≡ false
IsNew with_frames wish = wish.frames ≡ false
IsNew (from_turn turn) wish = wish.from ≡ None
IsNew (to_turn turn) wish = wish.to ≡ None
IsNew (page_alone asked) wish = wish.page ≡ None

abbrev pub with_choice : Choice → Wish → Wish
with_choice as_svg wish = record wish { svg = true }
with_choice with_frames wish = record wish { frames = true }
with_choice (from_turn turn) wish = record wish { from = Some turn }
with_choice (to_turn turn) wish = record wish { to = Some turn }
with_choice (page_alone asked) wish = record wish { page = Some asked }

-- the options, one behind the other, make one wish of another
abbrev pub Ask : List Choice → (before after : Wish) → Type 0
Ask [] before after = after ≡ before
Ask (choice ∷ choices) before after = CanBeSaid choice × IsNew choice before × Ask choices (with_choice choice before) after

abbrev pub IsAskedFrom : (words : List (List ℕ)) → (before after : Wish) → Type 0
IsAskedFrom words before after = (choices : List Choice) × (words ≡ flat_map words_of choices) × Ask choices before after

-- the first and the last turn: as said, or 1, and the last that a run can have
abbrev pub first_shown : Wish → ℕ
first_shown wish = unwrap_or wish.from 1

abbrev pub last_shown : Wish → ℕ
last_shown wish = unwrap_or wish.to last_turn

-- the words ask this
abbrev pub IsAsked : List (List ℕ) → Wish → Type 0
IsAsked words wish = IsAskedFrom words nothing wish × (first_shown wish ≤ last_shown wish)

abbrev pub IsCommand : List (List ℕ) → Type 0
IsCommand words = (wish : Wish) × IsAsked words wish

-- ---- the same for who makes the picture

abbrev pub IsPageAskedAs : Option PageOf → Option AskedPage → Type 0
IsPageAskedAs None None = Unit {0}
IsPageAskedAs None (Some page) = ⊥
IsPageAskedAs (Some wanted) None = ⊥
IsPageAskedAs (Some wanted) (Some page) = (string_bytes page.process ≡ wanted.process) × (page.page ≡ wanted.page)

pub record IsAskedAs (wish : Wish) (asked : Asked) : Type 0 where
  pub from : asked.from ≡ first_shown wish
  pub to : asked.to ≡ last_shown wish
  pub page : IsPageAskedAs wish.page asked.page
  pub frames : asked.frames ≡ wish.frames
