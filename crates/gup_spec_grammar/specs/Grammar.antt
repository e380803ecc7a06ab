-- The grammar of scripts: which bytes spell which script. A text's lines are its parts before the line feeds, and a
-- line's words are its parts between the spaces. Each line that is not passed over says something that is right
-- after the lines before it.
use Rattle.std.specs.Prelude.{◌≡◌, ℕ, ◌+◌, ◌≤◌, ◌<◌, ◌⊎◌, true, false, Bool, List, [], ◌∷◌, ◌++◌, length, replicate, codes, decimal, Contains, Some, None}
use Rattle.std.specs.List.{AllByRecursion}
use Rattle.gup_spec_grammar.specs.Spelling.{IsNumber, IsCount, IsIndex, IsPage, IsWordNo, IsAddress, IsRange, IsSegment, IsTurnWord, IsName, IsPrintable, parts}
use Rattle.gup_spec_grammar.specs.Names.{find}
use Rattle.gup_spec_grammar.specs.declared.named.Named.TheVariants as named
use Rattle.gup_base.specs.declared.entry.Want.{Want}
use Rattle.gup_script.specs.declared.op.Kind.TheVariants.{Thread, Device, Mover}
use Rattle.gup_script.specs.declared.op.Op.{Op}
use Rattle.gup_script.specs.declared.op.Op.TheVariants as ops
use Rattle.gup_script.specs.Script.{ScriptValue, FrameCounts, actor_at, is_thread}
use Rattle.gup_spec_grammar.specs.Said.{Word, Said, a_process, a_child, a_thread, a_device, a_mover, a_seed, some_turns, random_turns, said_words, Action, maps, unmaps, protects, discards, loads, stores, exits, pins, gets, puts, forks, unpins, takes, gives, transfers, transfers_parts, mirrors, looks, moves, action_words, IsShaped, op_words_of}
use Rattle.gup_spec_grammar.specs.Outline.{Outline, empty_outline, with_process, with_actor, with_handle, with_reference, with_slot, with_operation, with_turns, with_seed, is_device, how_many, has_mover, is_child, is_forked, is_receiver, draws}
use Rattle.gup_script.specs.Limits.{most_processes, most_threads, most_devices, most_handles, most_mirrors, most_pinned, most_words, most_operations, most_turns, most_frames, most_tables}
use Rattle.gup_base.specs.Counts.{most_slots}
use Rattle.gup_base.specs.Parts.{Part, words_of}

-- 1. Numbers: those that a line has are spelled right and in range

-- a word of written turns: a name, or a name, a star and how often
abbrev pub HasTimes : Word → Type 0
HasTimes word = (name : Word) × (times : ℕ) × IsTurnWord word name times

abbrev pub SaidNumbers : Said → Type 0
SaidNumbers (a_device name slots) = (n : ℕ) × IsCount 1 most_slots slots n
SaidNumbers (a_seed number) = (n : ℕ) × IsNumber number n
SaidNumbers (some_turns first more) = AllByRecursion HasTimes (first ∷ more)
SaidNumbers (random_turns start count) = (x n : ℕ) × IsNumber start x × IsNumber count n
SaidNumbers said = Unit {0}

-- the words spell these parts of a transfer, each by where it begins and how many words it has
abbrev pub AreSegments : List Word → List Part → Type 0
AreSegments [] moved = moved ≡ []
AreSegments (word ∷ words) moved =
    (index n : ℕ) × (rest : List Part) × IsSegment word index n × AreSegments words rest × (moved ≡ (index, n) ∷ rest)

-- and these have no more words than a transfer may have
abbrev pub SpellParts : List Word → List Part → Type 0
SpellParts words moved = AreSegments words moved × (words_of moved ≤ most_words)

abbrev pub ActionNumbers : Action → Type 0
ActionNumbers (maps first count rights) = (page n : ℕ) × IsRange 1024 first count page n
ActionNumbers (unmaps first count) = (page n : ℕ) × IsRange 1024 first count page n
ActionNumbers (protects first count rights) = (page n : ℕ) × IsRange 1024 first count page n
ActionNumbers (discards first count) = (page n : ℕ) × IsRange 1024 first count page n
ActionNumbers (loads address) = (page w : ℕ) × IsAddress address page w
ActionNumbers (stores address value) = ((page w : ℕ) × IsAddress address page w) × ((v : ℕ) × IsNumber value v)
ActionNumbers (pins fast handle first count write long) = (page n : ℕ) × IsRange most_pinned first count page n
ActionNumbers (gets handle page) = (p : ℕ) × IsPage page p
ActionNumbers (transfers outward handle index slot count) =
    ((i : ℕ) × IsIndex index i) × ((s : ℕ) × IsIndex slot s) × ((n : ℕ) × IsCount 1 most_words count n)
ActionNumbers (transfers_parts outward handle slot first more) =
    ((s : ℕ) × IsIndex slot s) × ((moved : List Part) × SpellParts (first ∷ more) moved)
ActionNumbers (mirrors mirror process page) = (p : ℕ) × IsPage page p
ActionNumbers (looks mirror word) = (w : ℕ) × IsWordNo word w
ActionNumbers (moves process page zone) = (p : ℕ) × IsPage page p
ActionNumbers action = Unit {0}

-- 2. Names: those that a line has are spelled right, and those that it uses are declared, and of the kind that the
-- place needs

abbrev pub NamesProcess : Outline → Word → ℕ → Type 0
NamesProcess st word p = find st.names word ≡ Some (named.Process p)

abbrev pub NamesActor : Outline → Word → ℕ → Type 0
NamesActor st word a = find st.names word ≡ Some (named.Actor a)

abbrev pub NamesPin : Outline → Word → ℕ → Type 0
NamesPin st word h = find st.names word ≡ Some (named.Pin h)

abbrev pub IsPinName : Outline → Word → Type 0
IsPinName st word = (h : ℕ) × NamesPin st word h

abbrev pub NamesGot : Outline → Word → ℕ → Type 0
NamesGot st word h = find st.names word ≡ Some (named.Got h)

abbrev pub IsGotName : Outline → Word → Type 0
IsGotName st word = (h : ℕ) × NamesGot st word h

-- a mirror slot of this device
abbrev pub IsMirrorOf : Outline → ℕ → Word → Type 0
IsMirrorOf st a word = (m : ℕ) × (find st.names word ≡ Some (named.Mirror m a))

-- a mirror slot, of whichever device
abbrev pub NamesMirror : Outline → Word → ℕ → Type 0
NamesMirror st word m = (a : ℕ) × (find st.names word ≡ Some (named.Mirror m a))

abbrev pub IsUnused : Outline → Word → Type 0
IsUnused st word = find st.names word ≡ None

abbrev pub TurnsAnActor : Outline → Word → Type 0
TurnsAnActor st word = (name : Word) × (times a : ℕ) × IsTurnWord word name times × NamesActor st name a

abbrev pub SaidNames : Outline → Said → Type 0
SaidNames st (a_process name) = IsName name
SaidNames st (a_child name) = IsName name
SaidNames st (a_thread name process) = IsName name × ((p : ℕ) × NamesProcess st process p)
SaidNames st (a_device name slots) = IsName name
SaidNames st (a_mover name) = IsName name
SaidNames st (a_seed number) = Unit {0}
SaidNames st (some_turns first more) = AllByRecursion (TurnsAnActor st) (first ∷ more)
-- turns are drawn only where there is an actor
SaidNames st (random_turns start count) = IsNumber count 0 ⊎ (1 ≤ length st.script.actors)

abbrev pub ActionNames : Outline → (actor : ℕ) → Action → Type 0
ActionNames st a (pins fast handle first count write long) = IsName handle
ActionNames st a (gets handle page) = IsName handle
ActionNames st a (puts handle) = IsGotName st handle
ActionNames st a (forks child) = (p : ℕ) × NamesProcess st child p × (is_child st p ≡ true)
ActionNames st a (unpins handle) = IsPinName st handle
ActionNames st a (takes handle) = IsPinName st handle
ActionNames st a (gives handle to) = IsPinName st handle × ((b : ℕ) × NamesActor st to b × (is_receiver st b ≡ true))
ActionNames st a (transfers outward handle index slot count) = IsPinName st handle
ActionNames st a (transfers_parts outward handle slot first more) = IsPinName st handle
-- a mirror line declares its slot, or uses one of this device
ActionNames st a (mirrors mirror process page) =
    ((IsName mirror × IsUnused st mirror) ⊎ IsMirrorOf st a mirror) × ((p : ℕ) × NamesProcess st process p)
ActionNames st a (looks mirror word) = IsMirrorOf st a mirror
ActionNames st a (moves process page zone) = (p : ℕ) × NamesProcess st process p
ActionNames st a action = Unit {0}

-- 3. Once: what a line declares is not declared yet, and a child is brought by one fork

abbrev pub SaidOnce : Outline → Said → Type 0
SaidOnce st (a_process name) = IsUnused st name
SaidOnce st (a_child name) = IsUnused st name
SaidOnce st (a_thread name process) = IsUnused st name
SaidOnce st (a_device name slots) = IsUnused st name
SaidOnce st (a_mover name) = IsUnused st name × (has_mover st ≡ false)
SaidOnce st (a_seed number) = st.seeded ≡ false
SaidOnce st said = Unit {0}

abbrev pub ActionOnce : Outline → Action → Type 0
ActionOnce st (pins fast handle first count write long) = IsUnused st handle
ActionOnce st (gets handle page) = IsUnused st handle
ActionOnce st (forks child) = (p : ℕ) × NamesProcess st child p × (is_forked st p ≡ false)
ActionOnce st action = Unit {0}

-- 4. Limits: there are not too many of what the line adds

-- the actors of written turns, in order
abbrev pub AreTurnWords : Outline → List Word → List ℕ → Type 0
AreTurnWords st [] actors = actors ≡ []
AreTurnWords st (word ∷ words) actors =
    (name : Word) × (times a : ℕ) × (rest : List ℕ)
    × IsTurnWord word name times × NamesActor st name a × AreTurnWords st words rest × (actors ≡ replicate times a ++ rest)

abbrev pub SaidLimits : Outline → Said → Type 0
SaidLimits st (a_process name) = length st.script.processes < most_processes
SaidLimits st (a_child name) = length st.script.processes < most_processes
SaidLimits st (a_thread name process) = how_many is_thread st < most_threads
SaidLimits st (a_device name slots) = how_many is_device st < most_devices
SaidLimits st (some_turns first more) =
    (actors : List ℕ) × AreTurnWords st (first ∷ more) actors × (length st.script.turns + length actors ≤ most_turns)
SaidLimits st (random_turns start count) = (n : ℕ) × IsNumber count n × (length st.script.turns + n ≤ most_turns)
SaidLimits st said = Unit {0}

-- there may be what the action declares
abbrev pub DeclaredLimits : Outline → Action → Type 0
DeclaredLimits st (pins fast handle first count write long) = length st.script.handles < most_handles
DeclaredLimits st (gets handle page) = length st.script.handles < most_handles
DeclaredLimits st (mirrors mirror process page) =
    ((m : ℕ) × NamesMirror st mirror m) ⊎ (length st.script.mirrors < most_mirrors)
DeclaredLimits st action = Unit {0}

abbrev pub ActionLimits : Outline → Action → Type 0
ActionLimits st action = DeclaredLimits st action × (st.operations < most_operations)

-- 5. What a right line makes

-- what a pin asks for
abbrev pub want_of : (write long : Bool) → Want
want_of write long = record { write = write; long = long }

-- The operation that an action is. A pin makes the next handle, and a mirror whose slot isn't declared yet the next slot.
abbrev pub Means : Outline → Action → Op → Type 0
Means st (maps first count rights) op = (page n : ℕ) × IsRange 1024 first count page n × (op ≡ ops.Map page n rights)
Means st (unmaps first count) op = (page n : ℕ) × IsRange 1024 first count page n × (op ≡ ops.Unmap page n)
Means st (protects first count rights) op =
    (page n : ℕ) × IsRange 1024 first count page n × (op ≡ ops.Protect page n rights)
Means st (discards first count) op = (page n : ℕ) × IsRange 1024 first count page n × (op ≡ ops.Discard page n)
Means st (loads address) op = (page w : ℕ) × IsAddress address page w × (op ≡ ops.Load page w)
Means st (stores address value) op =
    (page w v : ℕ) × IsAddress address page w × IsNumber value v × (op ≡ ops.Store page w v)
Means st exits op = op ≡ ops.Exit
Means st (pins fast handle first count write long) op =
    (page n : ℕ) × IsRange most_pinned first count page n
    × (op ≡ ops.Pin (length st.script.handles) page n (want_of write long) fast)
Means st (gets handle page) op =
    (p : ℕ) × IsPage page p × (op ≡ ops.Get (length st.script.handles) p)
Means st (puts handle) op = (h : ℕ) × NamesGot st handle h × (op ≡ ops.Put h)
Means st (forks child) op = (p : ℕ) × NamesProcess st child p × (op ≡ ops.Fork p)
Means st (mirrors mirror process page) op =
    (m p g : ℕ) × (NamesMirror st mirror m ⊎ (IsUnused st mirror × (m ≡ length st.script.mirrors)))
    × NamesProcess st process p × IsPage page g × (op ≡ ops.Mirror m p g)
Means st (looks mirror word) op = (m w : ℕ) × NamesMirror st mirror m × IsWordNo word w × (op ≡ ops.Look m w)
Means st (moves process page zone) op =
    (p g : ℕ) × NamesProcess st process p × IsPage page g × (op ≡ ops.Move p g zone)
Means st (unpins handle) op = (h : ℕ) × NamesPin st handle h × (op ≡ ops.Unpin h)
Means st (takes handle) op = (h : ℕ) × NamesPin st handle h × (op ≡ ops.Take h)
Means st (gives handle to) op = (h b : ℕ) × NamesPin st handle h × NamesActor st to b × (op ≡ ops.Give h b)
Means st (transfers outward handle index slot count) op =
    (h i s n : ℕ) × NamesPin st handle h × IsIndex index i × IsIndex slot s × IsCount 1 most_words count n
    × (op ≡ ops.Transfer h outward s ((i, n) ∷ []))
Means st (transfers_parts outward handle slot first more) op =
    (h s : ℕ) × (moved : List Part) × NamesPin st handle h × IsIndex slot s × SpellParts (first ∷ more) moved
    × (op ≡ ops.Transfer h outward s moved)

-- the outline with what this actor's action declares: the handle of a pin or of a reference, or the slot of a mirror
abbrev pub with_declared : (actor : ℕ) → Action → Outline → Outline
with_declared a (pins fast handle first count write long) st = with_handle handle st
with_declared a (gets handle page) st = with_reference handle st
with_declared a (mirrors mirror process page) st = with_slot a mirror (find st.names mirror) st
with_declared a action st = st

abbrev pub Becomes : Outline → Said → Outline → Type 0
Becomes st (a_process name) next = next ≡ with_process name true st
Becomes st (a_child name) next = next ≡ with_process name false st
Becomes st (a_thread name process) next = (p : ℕ) × NamesProcess st process p × (next ≡ with_actor name (Thread p) st)
Becomes st (a_device name slots) next = (n : ℕ) × IsCount 1 most_slots slots n × (next ≡ with_actor name (Device n) st)
Becomes st (a_mover name) next = next ≡ with_actor name Mover st
Becomes st (a_seed number) next = (n : ℕ) × IsNumber number n × (next ≡ with_seed n st)
Becomes st (some_turns first more) next =
    (actors : List ℕ) × AreTurnWords st (first ∷ more) actors × (next ≡ with_turns actors st)
Becomes st (random_turns start count) next =
    (x n : ℕ) × IsNumber start x × IsNumber count n × (next ≡ with_turns (draws n (length st.script.actors) x) st)

-- what a line of declarations or turns leads to
abbrev pub Declares : Outline → Said → Outline → Type 0
Declares st said next =
    SaidNumbers said × SaidNames st said × SaidOnce st said × SaidLimits st said × Becomes st said next

-- the action is one of this actor's kind, and right
abbrev pub Does : Outline → (actor : ℕ) → Action → Outline → Type 0
Does st a action next =
    IsShaped action × ActionNumbers action × ActionNames st a action × ActionOnce st action × ActionLimits st action
    × ((op : Op) × Means st action op × (next ≡ with_operation a op (with_declared a action st)))

-- is the operation with this word one of the actor's kind?
abbrev pub IsOpOf : Outline → (actor : ℕ) → Word → Type 0
IsOpOf st a word = Contains (op_words_of (actor_at st.script a)) word

abbrev pub first_word : List Word → Word
first_word [] = []
first_word (word ∷ words) = word

-- the words are those of a line that may stand after the lines that make st, and it leads to next
abbrev pub IsNext : Outline → List Word → Outline → Type 0
IsNext st words next =
    ((said : Said) × (words ≡ said_words said) × Declares st said next)
    ⊎ ((name : Word) × (a : ℕ) × (action : Action)
    × (words ≡ codes "on" ∷ name ∷ action_words action) × NamesActor st name a
    × IsOpOf st a (first_word (action_words action)) × Does st a action next)

-- 6. Texts

-- What the lines so far have brought: nothing, the head, or the frames and all that stands after them.
pub data Stage : Type 0 where
  before_head : Stage
  before_frames : Stage
  open_at : (outline : Outline) → Stage

abbrev pub AreFrameCounts : (movable normal tables : ℕ) → Type 0
AreFrameCounts m n t = (m + n ≤ most_frames) × (t ≤ most_tables)

-- the head, and the `frames` line
abbrev pub head_words : List Word
head_words = codes "gup" ∷ codes "1" ∷ []

abbrev pub frames_words : (movable normal tables : ℕ) → List Word
frames_words m n t = codes "frames" ∷ decimal m ∷ decimal n ∷ decimal t ∷ []

-- the words are those of a `frames` line
abbrev pub AreFrames : List Word → FrameCounts → Type 0
AreFrames words counts =
    (words ≡ frames_words counts.movable counts.normal counts.tables)
    × AreFrameCounts counts.movable counts.normal counts.tables

abbrev pub IsSaid : Stage → List Word → Stage → Type 0
IsSaid before_head words next = (words ≡ head_words) × (next ≡ before_frames)
IsSaid before_frames words next = (counts : FrameCounts) × AreFrames words counts × (next ≡ open_at (empty_outline counts))
IsSaid (open_at st) words next = (outline : Outline) × IsNext st words outline × (next ≡ open_at outline)

-- a line that says nothing: it is empty, or a comment
abbrev pub SaysNothing : List ℕ → Type 0
SaysNothing [] = Unit {0}
SaysNothing (c ∷ cs) = c ≡ 35

abbrev pub IsRightLine : Stage → (line : List ℕ) → Stage → Type 0
IsRightLine stage line next =
    IsPrintable line
    × ((SaysNothing line × (next ≡ stage)) ⊎ ((SaysNothing line → ⊥) × IsSaid stage (parts 32 line) next))

abbrev pub AreRightLines : Stage → List (List ℕ) → Stage → Type 0
AreRightLines stage [] next = next ≡ stage
AreRightLines stage (line ∷ lines) next = (between : Stage) × IsRightLine stage line between × AreRightLines between lines next

-- the bytes are this script, and nothing else stands among them
abbrev pub Spells : List ℕ → ScriptValue → Type 0
Spells text script =
    (lines : List (List ℕ)) × (st : Outline)
    × (parts 10 text ≡ lines ++ [] ∷ []) × AreRightLines before_head lines (open_at st) × (script ≡ st.script)

-- a script's text has at most this many bytes
abbrev pub most_bytes : ℕ
most_bytes = 1048576

-- the bytes are this script, and are not too many
abbrev pub Accepts : List ℕ → ScriptValue → Type 0
Accepts text script = Spells text script × (length text ≤ most_bytes)
