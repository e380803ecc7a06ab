-- The first fault of a text: its line, and there the first of the tests that the line fails, in their order.
use Rattle.std.specs.Prelude.{◌≡◌, ℕ, ◌+◌, ◌≤◌, ◌<◌, ◌⊎◌, List, [], ◌∷◌, ◌++◌, length, codes, Contains}
use Rattle.std.specs.List.{AllByRecursion}
use Rattle.gup_spec_grammar.specs.Spelling.{IsPrintable, parts}
use Rattle.gup_spec_grammar.specs.declared.fault.Reason.{Reason}
use Rattle.gup_spec_grammar.specs.declared.fault.Reason.TheVariants.{Long, Byte, End, Space, Head, Frames, Word, Shape, Number, Name, Twice, Limit, Short}
use Rattle.gup_spec_grammar.specs.declared.fault.ScriptFault.{ScriptFault}
use Rattle.gup_spec_grammar.specs.declared.fault.ReadRefusal.{ReadRefusal}
use Rattle.gup_spec_grammar.specs.declared.fault.ReadRefusal.TheVariants.{Fault, NoMemory}
use Rattle.gup_script.specs.Script.{FrameCounts}
use Rattle.gup_spec_grammar.specs.Said.{Said, said_words, declaring_words, Action, action_words, IsShaped, Word as Letters}
use Rattle.gup_spec_grammar.specs.Outline.{Outline}
use Rattle.gup_spec_grammar.specs.Grammar.{most_bytes, SaidNumbers, ActionNumbers, SaidNames, ActionNames, NamesActor, SaidOnce, ActionOnce, SaidLimits, ActionLimits, IsOpOf, Stage, before_head, before_frames, open_at, head_words, AreFrames, SaysNothing, AreRightLines}

-- The reason is this one where the test fails, and else one of the tests after it.
abbrev pub Unless : (this : Reason) → (test : Type 0) → (reason : Reason) → (behind : Type 0) → Type 0
Unless this test reason behind = ((reason ≡ this) × (test → ⊥)) ⊎ (test × behind)

-- the last of the tests
abbrev pub Fails : (this : Reason) → (test : Type 0) → (reason : Reason) → Type 0
Fails this test reason = (reason ≡ this) × (test → ⊥)

-- a line of declarations or turns, whose words stand in their places
abbrev pub SaidFault : Outline → Said → Reason → Type 0
SaidFault st said reason =
    Unless Number (SaidNumbers said) reason
    (Unless Name (SaidNames st said) reason
    (Unless Twice (SaidOnce st said) reason
    (Fails Limit (SaidLimits st said) reason)))

abbrev pub DeclaringFault : Outline → List Letters → Reason → Type 0
DeclaringFault st words reason =
    ((reason ≡ Shape) × ((said : Said) → words ≡ said_words said → ⊥))
    ⊎ ((said : Said) × (words ≡ said_words said) × SaidFault st said reason)

-- an action of this actor, whose words stand in their places
abbrev pub ActionFault : Outline → (actor : ℕ) → Action → Reason → Type 0
ActionFault st a action reason =
    Unless Shape (IsShaped action) reason
    (Unless Number (ActionNumbers action) reason
    (Unless Name (ActionNames st a action) reason
    (Unless Twice (ActionOnce st action) reason
    (Fails Limit (ActionLimits st action) reason))))

abbrev pub OpFault : Outline → (actor : ℕ) → List Letters → Reason → Type 0
OpFault st a words reason =
    ((reason ≡ Shape) × ((action : Action) → words ≡ action_words action → ⊥))
    ⊎ ((action : Action) × (words ≡ action_words action) × ActionFault st a action reason)

-- Of the words after `on`: there are two at least, the first names an actor, and the second is the word of one of
-- its operations.
abbrev pub OnFault : Outline → List Letters → Reason → Type 0
OnFault st [] reason = reason ≡ Shape
OnFault st (name ∷ []) reason = reason ≡ Shape
OnFault st (name ∷ word ∷ fields) reason =
    ((reason ≡ Name) × ((a : ℕ) → NamesActor st name a → ⊥))
    ⊎ ((a : ℕ) × NamesActor st name a × Unless Word (IsOpOf st a word) reason (OpFault st a (word ∷ fields) reason))

abbrev pub NextFault : Outline → List Letters → Reason → Type 0
NextFault st [] reason = ⊥
NextFault st (word ∷ fields) reason =
    ((word ≡ codes "on") × OnFault st fields reason)
    ⊎ ((word ≡ codes "on" → ⊥) × Unless Word (Contains declaring_words word) reason (DeclaringFault st (word ∷ fields) reason))

abbrev pub WordsFault : Stage → List Letters → Reason → Type 0
WordsFault before_head words reason = Fails Head (words ≡ head_words) reason
WordsFault before_frames words reason = Fails Frames ((counts : FrameCounts) × AreFrames words counts) reason
WordsFault (open_at st) words reason = NextFault st words reason

-- no space is at the front, at the end, or next to another
abbrev pub AreSpaced : List Letters → Type 0
AreSpaced words = AllByRecursion (λ word. word ≡ [] → ⊥) words

-- a line that ends with a line feed
abbrev pub LineFault : Stage → (line : List ℕ) → Reason → Type 0
LineFault stage line reason =
    Unless Byte (IsPrintable line) reason
    ((SaysNothing line → ⊥) × Unless Space (AreSpaced (parts 32 line)) reason (WordsFault stage (parts 32 line) reason))

-- the text ends before its `frames` line
abbrev pub IsShort : Stage → Type 0
IsShort before_head = Unit {0}
IsShort before_frames = Unit {0}
IsShort (open_at st) = ⊥

-- what stands after the last line feed: nothing, or else a line without an end
abbrev pub LastFault : Stage → (line : List ℕ) → Reason → Type 0
LastFault stage [] reason = (reason ≡ Short) × IsShort stage
LastFault stage (c ∷ cs) reason = Unless Byte (IsPrintable (c ∷ cs)) reason (reason ≡ End)

abbrev pub FaultAt : Stage → (line : List ℕ) → (behind : List (List ℕ)) → Reason → Type 0
FaultAt stage line [] reason = LastFault stage line reason
FaultAt stage line (next ∷ more) reason = LineFault stage line reason

-- The bytes have this first fault: they are too many, or the lines before the fault's are right and it isn't.
abbrev pub HasFault : List ℕ → ScriptFault → Type 0
HasFault text fault =
    ((fault.line ≡ 0) × (fault.reason ≡ Long) × (most_bytes < length text))
    ⊎ ((length text ≤ most_bytes)
    × ((front : List (List ℕ)) × (line : List ℕ) × (behind : List (List ℕ)) × (stage : Stage)
    × (parts 10 text ≡ front ++ line ∷ behind) × (fault.line ≡ length front + 1)
    × AreRightLines before_head front stage × FaultAt stage line behind fault.reason))

-- A refusal for a fault is right where the text has the fault. Want of memory says nothing of the text.
abbrev pub IsRefusalOf : List ℕ → ReadRefusal → Type 0
IsRefusalOf text (Fault fault) = HasFault text fault
IsRefusalOf text NoMemory = Unit {0}
