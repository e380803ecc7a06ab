-- How an entry of a page table is packed into a word.
use Rattle.std.specs.Prelude.{ℕ, ◌+◌, ◌*◌, ◌/◌, ◌%◌, ◌==◌, if◌then◌else◌, Option, Some, None}
use Rattle.gup_base.specs.declared.entry.Entry.{Entry}

-- 1 says present, 2 writable, and the frame's number counts 4,096 each
abbrev pub pack_of : Option Entry → ℕ
pack_of None = 0
pack_of (Some e) = 1 + (if e.writable then 2 else 0) + e.frame * 4096

-- the entry in a word: an even word has none
abbrev pub unpack_of : ℕ → Option Entry
unpack_of word =
    if word % 2 == 0 then None else Some (record { frame = word / 4096 % 16384; writable = (word / 2 % 2) == 1 })
