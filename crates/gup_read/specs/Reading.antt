-- The reader as functions on lists: the script in a text, or its first fault. Each is a chain of tests in the order of
-- the reasons.
use Rattle.gup_base.specs.declared.entry.Zone.{Zone}
use Rattle.gup_base.specs.declared.entry.Zone.TheVariants.{Movable, Normal}
use Rattle.std.specs.Prelude.{ℕ, ◌+◌, ◌==◌, ◌&&◌, ◌||◌, not, nat_lt, nat_le, Bool, true, false, if◌then◌else◌, List, [], ◌∷◌, ◌++◌, length, replicate, codes, Option, Some, None, is_some, Result, Ok, Err}
use Rattle.std.specs.List.{list_all}
use Rattle.std.specs.Str.{bytes_eq}
use Rattle.gup_base.specs.Parts.{Part, words_of}
use Rattle.gup_base.specs.declared.entry.Rights.{Rights}
use Rattle.gup_base.specs.declared.entry.Rights.TheVariants.{R, RW}
use Rattle.gup_spec_grammar.specs.Spelling.{parts}
use Rattle.gup_read_words.specs.Text.{is_printable, is_passed, are_spaced, number_in, count_in, index_in, page_in, word_no_in, address_in, range_in, segment_in, turn_name, turn_times, is_name}
use Rattle.gup_spec_grammar.specs.Names.{find, is_unused}
use Rattle.gup_script.specs.declared.op.Kind.{Kind}
use Rattle.gup_script.specs.declared.op.Kind.TheVariants.{Thread, Device, Mover}
use Rattle.gup_script.specs.declared.op.Op.{Op}
use Rattle.gup_script.specs.declared.op.Op.TheVariants as ops
use Rattle.gup_spec_grammar.specs.declared.fault.Reason.{Reason}
use Rattle.gup_spec_grammar.specs.declared.fault.Reason.TheVariants as reasons
use Rattle.gup_spec_grammar.specs.declared.fault.ScriptFault.{ScriptFault}
use Rattle.gup_script.specs.Script.{Actor, FrameCounts, actor_at, is_thread}
use Rattle.gup_spec_grammar.specs.Grammar.{Stage, before_head, before_frames, open_at, most_bytes, want_of}
use Rattle.gup_spec_grammar.specs.Outline.{Outline, frame_counts, empty_outline, with_process, with_actor, with_handle, with_reference, with_slot, with_operation, with_turns, with_seed, is_device, how_many, has_mover, is_child, is_forked, next_handle, slot_of, is_receiver, draws}
use Rattle.gup_read_outline.specs.Named.{process_of, actor_of, pin_of, got_of, mirror_of, is_mirror_of, may_mirror}
use Rattle.gup_script.specs.Limits.{most_processes, most_threads, most_devices, most_pinned, most_words, most_operations, most_turns, most_frames, most_tables}
use Rattle.gup_base.specs.Counts.{most_slots}

-- one test after another, up to the first that fails
infixl 10 ◌>>=◌
abbrev pub ◌>>=◌ : {A B : Type 0} → Result A Reason → (A → Result B Reason) → Result B Reason
Ok a >>= f = f a
Err reason >>= f = Err reason

abbrev pub check : Reason → Bool → Result Unit Reason
check reason true = Ok tt
check reason false = Err reason

abbrev pub need : {A : Type 0} → Reason → Option A → Result A Reason
need reason (Some a) = Ok a
need reason None = Err reason

-- fixed words

unfoldable pub rights_in : List ℕ → Option Rights
rights_in word =
    if bytes_eq word (codes "r") then Some R
    else if bytes_eq word (codes "rw") then Some RW
    else None

-- does a pin write?
unfoldable pub way_in : List ℕ → Option Bool
way_in word =
    if bytes_eq word (codes "read") then Some false
    else if bytes_eq word (codes "write") then Some true
    else None

abbrev pub zone_in : List ℕ → Option Zone
zone_in word =
    if bytes_eq word (codes "normal") then Some Normal
    else if bytes_eq word (codes "movable") then Some Movable
    else None

-- What an action's words say. They stand after the operation's own.

unfoldable pub map_in : List (List ℕ) → Result Op Reason
map_in (first ∷ count ∷ allowed ∷ []) = do
  rights ← need reasons.Shape (rights_in allowed)
  range ← need reasons.Number (range_in 1024 first count)
  Ok (ops.Map range.0 range.1 rights)
map_in _ = Err reasons.Shape

unfoldable pub unmap_in : List (List ℕ) → Result Op Reason
unmap_in (first ∷ count ∷ []) = do
  range ← need reasons.Number (range_in 1024 first count)
  Ok (ops.Unmap range.0 range.1)
unmap_in _ = Err reasons.Shape

unfoldable pub protect_in : List (List ℕ) → Result Op Reason
protect_in (first ∷ count ∷ allowed ∷ []) = do
  rights ← need reasons.Shape (rights_in allowed)
  range ← need reasons.Number (range_in 1024 first count)
  Ok (ops.Protect range.0 range.1 rights)
protect_in _ = Err reasons.Shape

unfoldable pub discard_in : List (List ℕ) → Result Op Reason
discard_in (first ∷ count ∷ []) = do
  range ← need reasons.Number (range_in 1024 first count)
  Ok (ops.Discard range.0 range.1)
discard_in _ = Err reasons.Shape

unfoldable pub load_in : List (List ℕ) → Result Op Reason
load_in (address ∷ []) = do
  at ← need reasons.Number (address_in address)
  Ok (ops.Load at.0 at.1)
load_in _ = Err reasons.Shape

unfoldable pub store_in : List (List ℕ) → Result Op Reason
store_in (address ∷ value ∷ []) = do
  at ← need reasons.Number (address_in address)
  v ← need reasons.Number (number_in value)
  Ok (ops.Store at.0 at.1 v)
store_in _ = Err reasons.Shape

unfoldable pub exit_in : List (List ℕ) → Result Op Reason
exit_in [] = Ok ops.Exit
exit_in _ = Err reasons.Shape

-- a pin
unfoldable pub pinned_in : (fast long : Bool) → Outline → (handle first count way : List ℕ) → Result Op Reason
pinned_in fast long st handle first count way = do
  write ← need reasons.Shape (way_in way)
  range ← need reasons.Number (range_in most_pinned first count)
  _ ← check reasons.Name (is_name handle)
  _ ← check reasons.Twice (is_unused st.names handle)
  h ← need reasons.Limit (next_handle st)
  Ok (ops.Pin h range.0 range.1 (want_of write long) fast)

unfoldable pub pin_in : (fast : Bool) → Outline → List (List ℕ) → Result Op Reason
pin_in fast st (handle ∷ first ∷ count ∷ way ∷ []) = pinned_in fast false st handle first count way
pin_in fast st (handle ∷ first ∷ count ∷ way ∷ long ∷ []) = do
  _ ← check reasons.Shape (bytes_eq long (codes "long"))
  pinned_in fast true st handle first count way
pin_in fast st _ = Err reasons.Shape

unfoldable pub get_in : Outline → List (List ℕ) → Result Op Reason
get_in st (handle ∷ page ∷ []) = do
  p ← need reasons.Number (page_in page)
  _ ← check reasons.Name (is_name handle)
  _ ← check reasons.Twice (is_unused st.names handle)
  h ← need reasons.Limit (next_handle st)
  Ok (ops.Get h p)
get_in st _ = Err reasons.Shape

unfoldable pub put_in : Outline → List (List ℕ) → Result Op Reason
put_in st (handle ∷ []) = do
  h ← need reasons.Name (got_of (find st.names handle))
  Ok (ops.Put h)
put_in st _ = Err reasons.Shape

unfoldable pub fork_in : Outline → List (List ℕ) → Result Op Reason
fork_in st (child ∷ []) = do
  p ← need reasons.Name (process_of (find st.names child))
  _ ← check reasons.Name (is_child st p)
  _ ← check reasons.Twice (not (is_forked st p))
  Ok (ops.Fork p)
fork_in st _ = Err reasons.Shape

unfoldable pub unpin_in : Outline → List (List ℕ) → Result Op Reason
unpin_in st (handle ∷ []) = do
  h ← need reasons.Name (pin_of (find st.names handle))
  Ok (ops.Unpin h)
unpin_in st _ = Err reasons.Shape

unfoldable pub take_in : Outline → List (List ℕ) → Result Op Reason
take_in st (handle ∷ []) = do
  h ← need reasons.Name (pin_of (find st.names handle))
  Ok (ops.Take h)
take_in st _ = Err reasons.Shape

unfoldable pub give_in : Outline → List (List ℕ) → Result Op Reason
give_in st (handle ∷ to ∷ []) = do
  h ← need reasons.Name (pin_of (find st.names handle))
  b ← need reasons.Name (actor_of (find st.names to))
  _ ← check reasons.Name (is_receiver st b)
  Ok (ops.Give h b)
give_in st _ = Err reasons.Shape

-- `out` and `in`
unfoldable pub transfer_in : (outward : Bool) → Outline → List (List ℕ) → Result Op Reason
transfer_in outward st (handle ∷ index ∷ slot ∷ count ∷ []) = do
  i ← need reasons.Number (index_in index)
  s ← need reasons.Number (index_in slot)
  n ← need reasons.Number (count_in 1 most_words count)
  h ← need reasons.Name (pin_of (find st.names handle))
  Ok (ops.Transfer h outward s ((i, n) ∷ []))
transfer_in outward st _ = Err reasons.Shape

-- the parts that these words spell
abbrev pub segments_in : List (List ℕ) → Option (List Part)
segments_in [] = Some []
segments_in (word ∷ words) = more_segments (segment_in word) (segments_in words)
  where
    more_segments : Option Part → Option (List Part) → Option (List Part)
    more_segments (Some part) (Some rest) = Some (part ∷ rest)
    more_segments _ _ = None

-- and behind these, if there is room for so many words in them
abbrev pub behind_parts : List Part → (room : ℕ) → Option (List Part) → Option (List Part)
behind_parts before room None = None
behind_parts before room (Some more) = if nat_le (words_of more) room then Some (before ++ more) else None

-- `outv` and `inv`
unfoldable pub parts_in : (outward : Bool) → Outline → List (List ℕ) → Result Op Reason
parts_in outward st (handle ∷ slot ∷ first ∷ more) = do
  _ ← check reasons.Shape (nat_le (length more) 7)
  s ← need reasons.Number (index_in slot)
  moved ← need reasons.Number (behind_parts [] most_words (segments_in (first ∷ more)))
  h ← need reasons.Name (pin_of (find st.names handle))
  Ok (ops.Transfer h outward s moved)
parts_in outward st _ = Err reasons.Shape

unfoldable pub mirror_in : Outline → (actor : ℕ) → List (List ℕ) → Result Op Reason
mirror_in st a (mirror ∷ process ∷ page ∷ []) = do
  g ← need reasons.Number (page_in page)
  _ ← check reasons.Name (may_mirror a mirror (find st.names mirror))
  p ← need reasons.Name (process_of (find st.names process))
  m ← need reasons.Limit (slot_of st (find st.names mirror))
  Ok (ops.Mirror m p g)
mirror_in st a _ = Err reasons.Shape

unfoldable pub look_in : Outline → (actor : ℕ) → List (List ℕ) → Result Op Reason
look_in st a (mirror ∷ word ∷ []) = do
  w ← need reasons.Number (word_no_in word)
  _ ← check reasons.Name (is_mirror_of a (find st.names mirror))
  m ← need reasons.Name (mirror_of (find st.names mirror))
  Ok (ops.Look m w)
look_in st a _ = Err reasons.Shape

unfoldable pub move_in : Outline → List (List ℕ) → Result Op Reason
move_in st (process ∷ page ∷ zone ∷ []) = do
  z ← need reasons.Shape (zone_in zone)
  g ← need reasons.Number (page_in page)
  p ← need reasons.Name (process_of (find st.names process))
  Ok (ops.Move p g z)
move_in st _ = Err reasons.Shape

-- the operation with this word, by the kind of its actor

unfoldable pub thread_op_in : Outline → (word : List ℕ) → List (List ℕ) → Result Op Reason
thread_op_in st word fields =
    if bytes_eq word (codes "map") then map_in fields
    else if bytes_eq word (codes "unmap") then unmap_in fields
    else if bytes_eq word (codes "protect") then protect_in fields
    else if bytes_eq word (codes "discard") then discard_in fields
    else if bytes_eq word (codes "load") then load_in fields
    else if bytes_eq word (codes "store") then store_in fields
    else if bytes_eq word (codes "exit") then exit_in fields
    else if bytes_eq word (codes "pin") then pin_in false st fields
    else if bytes_eq word (codes "pinfast") then pin_in true st fields
    else if bytes_eq word (codes "get") then get_in st fields
    else if bytes_eq word (codes "put") then put_in st fields
    else if bytes_eq word (codes "fork") then fork_in st fields
    else if bytes_eq word (codes "unpin") then unpin_in st fields
    else if bytes_eq word (codes "take") then take_in st fields
    else if bytes_eq word (codes "give") then give_in st fields
    else Err reasons.Word

unfoldable pub device_op_in : Outline → (actor : ℕ) → (word : List ℕ) → List (List ℕ) → Result Op Reason
device_op_in st a word fields =
    if bytes_eq word (codes "unpin") then unpin_in st fields
    else if bytes_eq word (codes "take") then take_in st fields
    else if bytes_eq word (codes "give") then give_in st fields
    else if bytes_eq word (codes "out") then transfer_in true st fields
    else if bytes_eq word (codes "in") then transfer_in false st fields
    else if bytes_eq word (codes "outv") then parts_in true st fields
    else if bytes_eq word (codes "inv") then parts_in false st fields
    else if bytes_eq word (codes "mirror") then mirror_in st a fields
    else if bytes_eq word (codes "look") then look_in st a fields
    else Err reasons.Word

unfoldable pub mover_op_in : Outline → (word : List ℕ) → List (List ℕ) → Result Op Reason
mover_op_in st word fields = if bytes_eq word (codes "move") then move_in st fields else Err reasons.Word

abbrev pub op_of_kind : Outline → (actor : ℕ) → Kind → (word : List ℕ) → List (List ℕ) → Result Op Reason
op_of_kind st a (Thread p) word fields = thread_op_in st word fields
op_of_kind st a (Device slots) word fields = device_op_in st a word fields
op_of_kind st a Mover word fields = mover_op_in st word fields

abbrev pub op_of_actor : Outline → (actor : ℕ) → Option Actor → (word : List ℕ) → List (List ℕ) → Result Op Reason
op_of_actor st a None word fields = Err reasons.Word
op_of_actor st a (Some actor) word fields = op_of_kind st a actor.kind word fields

-- the outline with the handle of a pin or of a reference, or the slot of a mirror, which this actor's operation declares; its
-- name is the first word after the operation's own
abbrev pub with_made : (actor : ℕ) → Op → List (List ℕ) → Outline → Outline
with_made a (ops.Pin handle page n want fast) (name ∷ fields) st = with_handle name st
with_made a (ops.Get handle page) (name ∷ fields) st = with_reference name st
with_made a (ops.Mirror mirror proc page) (name ∷ fields) st = with_slot a name (find st.names name) st
with_made a op fields st = st

-- the words after `on`
unfoldable pub on_in : Outline → List (List ℕ) → Result Outline Reason
on_in st (name ∷ word ∷ fields) = do
  a ← need reasons.Name (actor_of (find st.names name))
  op ← op_of_actor st a (actor_at st.script a) word fields
  _ ← check reasons.Limit (nat_lt st.operations most_operations)
  Ok (with_operation a op (with_made a op fields st))
on_in st _ = Err reasons.Shape

-- declarations: the words after the first

unfoldable pub process_in : (born : Bool) → Outline → List (List ℕ) → Result Outline Reason
process_in born st (name ∷ []) = do
  _ ← check reasons.Name (is_name name)
  _ ← check reasons.Twice (is_unused st.names name)
  _ ← check reasons.Limit (nat_lt (length st.script.processes) most_processes)
  Ok (with_process name born st)
process_in born st _ = Err reasons.Shape

unfoldable pub thread_in : Outline → List (List ℕ) → Result Outline Reason
thread_in st (name ∷ process ∷ []) = do
  _ ← check reasons.Name (is_name name)
  p ← need reasons.Name (process_of (find st.names process))
  _ ← check reasons.Twice (is_unused st.names name)
  _ ← check reasons.Limit (nat_lt (how_many is_thread st) most_threads)
  Ok (with_actor name (Thread p) st)
thread_in st _ = Err reasons.Shape

unfoldable pub device_in : Outline → List (List ℕ) → Result Outline Reason
device_in st (name ∷ slots ∷ []) = do
  n ← need reasons.Number (count_in 1 most_slots slots)
  _ ← check reasons.Name (is_name name)
  _ ← check reasons.Twice (is_unused st.names name)
  _ ← check reasons.Limit (nat_lt (how_many is_device st) most_devices)
  Ok (with_actor name (Device n) st)
device_in st _ = Err reasons.Shape

unfoldable pub mover_in : Outline → List (List ℕ) → Result Outline Reason
mover_in st (name ∷ []) = do
  _ ← check reasons.Name (is_name name)
  _ ← check reasons.Twice (is_unused st.names name && not (has_mover st))
  Ok (with_actor name Mover st)
mover_in st _ = Err reasons.Shape

unfoldable pub seed_in : Outline → List (List ℕ) → Result Outline Reason
seed_in st (number ∷ []) = do
  n ← need reasons.Number (number_in number)
  _ ← check reasons.Twice (not st.seeded)
  Ok (with_seed n st)
seed_in st _ = Err reasons.Shape

-- the words of written turns: how many turns they are, and whose

abbrev pub are_times : List (List ℕ) → Bool
are_times words = list_all (λ word. is_some (turn_times word)) words

abbrev pub turner : Outline → List ℕ → Option ℕ
turner st word = actor_of (find st.names (turn_name word))

abbrev pub are_turners : Outline → List (List ℕ) → Bool
are_turners st words = list_all (λ word. is_some (turner st word)) words

abbrev pub or_zero : Option ℕ → ℕ
or_zero None = 0
or_zero (Some n) = n

abbrev pub turns_of : Outline → List (List ℕ) → List ℕ
turns_of st [] = []
turns_of st (word ∷ words) = replicate (or_zero (turn_times word)) (or_zero (turner st word)) ++ turns_of st words

unfoldable pub turns_in : Outline → List (List ℕ) → Result Outline Reason
turns_in st [] = Err reasons.Shape
turns_in st (first ∷ more) = do
  _ ← check reasons.Number (are_times (first ∷ more))
  _ ← check reasons.Name (are_turners st (first ∷ more))
  _ ← check reasons.Limit (nat_le (length st.script.turns + length (turns_of st (first ∷ more))) most_turns)
  Ok (with_turns (turns_of st (first ∷ more)) st)

unfoldable pub random_in : Outline → List (List ℕ) → Result Outline Reason
random_in st (start ∷ count ∷ []) = do
  x ← need reasons.Number (number_in start)
  n ← need reasons.Number (number_in count)
  _ ← check reasons.Name (n == 0 || nat_lt 0 (length st.script.actors))
  _ ← check reasons.Limit (nat_le (length st.script.turns + n) most_turns)
  Ok (with_turns (draws n (length st.script.actors) x) st)
random_in st _ = Err reasons.Shape

-- the words of a line after the `frames` line
unfoldable pub next_in : Outline → List (List ℕ) → Result Outline Reason
next_in st [] = Err reasons.Word
next_in st (word ∷ fields) =
    if bytes_eq word (codes "on") then on_in st fields
    else if bytes_eq word (codes "process") then process_in true st fields
    else if bytes_eq word (codes "child") then process_in false st fields
    else if bytes_eq word (codes "thread") then thread_in st fields
    else if bytes_eq word (codes "device") then device_in st fields
    else if bytes_eq word (codes "mover") then mover_in st fields
    else if bytes_eq word (codes "seed") then seed_in st fields
    else if bytes_eq word (codes "turns") then turns_in st fields
    else if bytes_eq word (codes "random") then random_in st fields
    else Err reasons.Word

unfoldable pub counts_in : (m n t : List ℕ) → Result FrameCounts Reason
counts_in m n t = do
  movable ← need reasons.Frames (number_in m)
  normal ← need reasons.Frames (number_in n)
  tables ← need reasons.Frames (number_in t)
  _ ← check reasons.Frames (nat_le (movable + normal) most_frames && nat_le tables most_tables)
  Ok (frame_counts (movable, normal, tables))

unfoldable pub frames_in : List (List ℕ) → Result FrameCounts Reason
frames_in (word ∷ m ∷ n ∷ t ∷ []) =
    if bytes_eq word (codes "frames") then counts_in m n t else Err reasons.Frames
frames_in _ = Err reasons.Frames

unfoldable pub is_head : List (List ℕ) → Bool
is_head (word ∷ version ∷ []) = bytes_eq word (codes "gup") && bytes_eq version (codes "1")
is_head _ = false

unfoldable pub words_in : Stage → List (List ℕ) → Result Stage Reason
words_in before_head words = do
  _ ← check reasons.Head (is_head words)
  Ok before_frames
words_in before_frames words = do
  counts ← frames_in words
  Ok (open_at (empty_outline counts))
words_in (open_at st) words = do
  next ← next_in st words
  Ok (open_at next)

-- a line that ends with a line feed
unfoldable pub said_in : Stage → List (List ℕ) → Result Stage Reason
said_in stage words = do
  _ ← check reasons.Space (are_spaced words)
  words_in stage words

unfoldable pub line_in : Stage → List ℕ → Result Stage Reason
line_in stage line =
    if not (is_printable line) then Err reasons.Byte
    else if is_passed line then Ok stage
    else said_in stage (parts 32 line)

abbrev pub fault_at : ℕ → Reason → ScriptFault
fault_at number reason = record { line = number; reason = reason }

-- what stands after the last line feed
unfoldable pub end_in : (number : ℕ) → Stage → List ℕ → Result Outline ScriptFault
end_in number (open_at st) [] = Ok st
end_in number before_head [] = Err (fault_at number reasons.Short)
end_in number before_frames [] = Err (fault_at number reasons.Short)
end_in number stage (c ∷ cs) =
    Err (fault_at number (if is_printable (c ∷ cs) then reasons.End else reasons.Byte))

-- what follows a line that is right, or else its fault
abbrev pub behind : (number : ℕ) → Result Stage Reason → (Stage → Result Outline ScriptFault) → Result Outline ScriptFault
behind number (Err reason) rest = Err (fault_at number reason)
behind number (Ok stage) rest = rest stage

-- the lines from this number on; the last is what stands after the last line feed
abbrev pub lines_in : (number : ℕ) → Stage → List (List ℕ) → Result Outline ScriptFault
lines_in number stage [] = end_in number stage []
lines_in number stage (line ∷ []) = end_in number stage line
lines_in number stage (line ∷ next ∷ more) =
    behind number (line_in stage line) (λ after. lines_in (number + 1) after (next ∷ more))

unfoldable pub reading : List ℕ → Result Outline ScriptFault
reading text =
    if nat_lt most_bytes (length text) then Err (fault_at 0 reasons.Long) else lines_in 1 before_head (parts 10 text)
