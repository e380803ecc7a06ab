-- The limits that a script is held to.
use Rattle.std.specs.Prelude.{ℕ}

abbrev pub most_processes : ℕ
most_processes = 16

abbrev pub most_threads : ℕ
most_threads = 64

abbrev pub most_devices : ℕ
most_devices = 16

abbrev pub most_handles : ℕ
most_handles = 1024

abbrev pub most_mirrors : ℕ
most_mirrors = 64

-- the pages of a pin, and the words of a transfer
abbrev pub most_pinned : ℕ
most_pinned = 16

abbrev pub most_words : ℕ
most_words = 64

abbrev pub most_operations : ℕ
most_operations = 16384

abbrev pub most_turns : ℕ
most_turns = 1000000

abbrev pub most_frames : ℕ
most_frames = 1024

abbrev pub most_tables : ℕ
most_tables = 8192
