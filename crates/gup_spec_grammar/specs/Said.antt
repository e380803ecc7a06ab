-- What a line says, before it is judged: its words, each in its place. Words that are fixed, as `rw` or `long`, are
-- read already; numbers and names are words still.
use Rattle.std.specs.Prelude.{ℕ, ◌≤◌, Bool, true, false, List, [], ◌∷◌, length, codes, Option, Some, None}
use Rattle.gup_base.specs.declared.entry.Rights.{Rights}
use Rattle.gup_base.specs.declared.entry.Rights.TheVariants.{R, RW}
use Rattle.gup_base.specs.declared.entry.Zone.{Zone}
use Rattle.gup_base.specs.declared.entry.Zone.TheVariants.{Movable, Normal}
use Rattle.gup_script.specs.declared.op.Kind.{Kind}
use Rattle.gup_script.specs.declared.op.Kind.TheVariants.{Thread, Device, Mover}
use Rattle.gup_script.specs.Script.{Actor}

abbrev pub Word : Type 0
Word = List ℕ

-- a line that declares something, or writes turns
pub data Said : Type 0 where
  a_process : (name : Word) → Said
  a_child : (name : Word) → Said
  a_thread : (name process : Word) → Said
  a_device : (name slots : Word) → Said
  a_mover : (name : Word) → Said
  a_seed : (number : Word) → Said
  some_turns : (first : Word) (more : List Word) → Said
  random_turns : (start count : Word) → Said

abbrev pub said_words : Said → List Word
said_words (a_process name) = codes "process" ∷ name ∷ []
said_words (a_child name) = codes "child" ∷ name ∷ []
said_words (a_thread name process) = codes "thread" ∷ name ∷ process ∷ []
said_words (a_device name slots) = codes "device" ∷ name ∷ slots ∷ []
said_words (a_mover name) = codes "mover" ∷ name ∷ []
said_words (a_seed number) = codes "seed" ∷ number ∷ []
said_words (some_turns first more) = codes "turns" ∷ first ∷ more
said_words (random_turns start count) = codes "random" ∷ start ∷ count ∷ []

-- the first words of such lines
abbrev pub declaring_words : List Word
declaring_words =
    codes "process" ∷ codes "child" ∷ codes "thread" ∷ codes "device" ∷ codes "mover" ∷ codes "seed" ∷ codes "turns"
    ∷ codes "random" ∷ []

-- what an `on` line gives its actor to do
pub data Action : Type 0 where
  -- of a thread
  maps : (first count : Word) (rights : Rights) → Action
  unmaps : (first count : Word) → Action
  protects : (first count : Word) (rights : Rights) → Action
  discards : (first count : Word) → Action
  loads : (address : Word) → Action
  stores : (address value : Word) → Action
  exits : Action
  pins : (fast : Bool) (handle first count : Word) (write long : Bool) → Action
  gets : (handle page : Word) → Action
  puts : (handle : Word) → Action
  forks : (child : Word) → Action
  -- of a thread or a device
  unpins : (handle : Word) → Action
  takes : (handle : Word) → Action
  gives : (handle to : Word) → Action
  -- of a device
  transfers : (outward : Bool) (handle index slot count : Word) → Action
  transfers_parts : (outward : Bool) (handle slot first : Word) (more : List Word) → Action
  mirrors : (mirror process page : Word) → Action
  looks : (mirror word : Word) → Action
  -- of the mover
  moves : (process page : Word) (zone : Zone) → Action

abbrev pub rights_word : Rights → Word
rights_word R = codes "r"
rights_word RW = codes "rw"

abbrev pub zone_word : Zone → Word
zone_word Movable = codes "movable"
zone_word Normal = codes "normal"

abbrev pub pin_word : (fast : Bool) → Word
pin_word true = codes "pinfast"
pin_word false = codes "pin"

abbrev pub write_word : (write : Bool) → Word
write_word true = codes "write"
write_word false = codes "read"

abbrev pub long_words : (long : Bool) → List Word
long_words true = codes "long" ∷ []
long_words false = []

abbrev pub transfer_word : (outward : Bool) → Word
transfer_word true = codes "out"
transfer_word false = codes "in"

abbrev pub parts_word : (outward : Bool) → Word
parts_word true = codes "outv"
parts_word false = codes "inv"

abbrev pub action_words : Action → List Word
action_words (maps first count rights) = codes "map" ∷ first ∷ count ∷ rights_word rights ∷ []
action_words (unmaps first count) = codes "unmap" ∷ first ∷ count ∷ []
action_words (protects first count rights) = codes "protect" ∷ first ∷ count ∷ rights_word rights ∷ []
action_words (discards first count) = codes "discard" ∷ first ∷ count ∷ []
action_words (loads address) = codes "load" ∷ address ∷ []
action_words (stores address value) = codes "store" ∷ address ∷ value ∷ []
action_words exits = codes "exit" ∷ []
action_words (pins fast handle first count write long) =
    pin_word fast ∷ handle ∷ first ∷ count ∷ write_word write ∷ long_words long
action_words (gets handle page) = codes "get" ∷ handle ∷ page ∷ []
action_words (puts handle) = codes "put" ∷ handle ∷ []
action_words (forks child) = codes "fork" ∷ child ∷ []
action_words (unpins handle) = codes "unpin" ∷ handle ∷ []
action_words (takes handle) = codes "take" ∷ handle ∷ []
action_words (gives handle to) = codes "give" ∷ handle ∷ to ∷ []
action_words (transfers outward handle index slot count) =
    transfer_word outward ∷ handle ∷ index ∷ slot ∷ count ∷ []
action_words (transfers_parts outward handle slot first more) = parts_word outward ∷ handle ∷ slot ∷ first ∷ more
action_words (mirrors mirror process page) = codes "mirror" ∷ mirror ∷ process ∷ page ∷ []
action_words (looks mirror word) = codes "look" ∷ mirror ∷ word ∷ []
action_words (moves process page zone) = codes "move" ∷ process ∷ page ∷ zone_word zone ∷ []

-- A transfer has at most 8 parts. The number of words of the other actions is theirs already.
abbrev pub IsShaped : Action → Type 0
IsShaped (transfers_parts outward handle slot first more) = length more ≤ 7
IsShaped action = Unit {0}

-- the operations of each kind of actor, by their words
abbrev pub op_words : Kind → List Word
op_words (Thread p) =
    codes "map" ∷ codes "unmap" ∷ codes "protect" ∷ codes "discard" ∷ codes "load" ∷ codes "store" ∷ codes "exit"
    ∷ codes "pin" ∷ codes "pinfast" ∷ codes "get" ∷ codes "put" ∷ codes "fork" ∷ codes "unpin" ∷ codes "take"
    ∷ codes "give" ∷ []
op_words (Device slots) =
    codes "unpin" ∷ codes "take" ∷ codes "give" ∷ codes "out" ∷ codes "in" ∷ codes "outv" ∷ codes "inv"
    ∷ codes "mirror" ∷ codes "look" ∷ []
op_words Mover = codes "move" ∷ []

abbrev pub op_words_of : Option Actor → List Word
op_words_of None = []
op_words_of (Some actor) = op_words actor.kind
