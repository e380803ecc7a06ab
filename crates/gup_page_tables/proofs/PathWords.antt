-- What is read again in the last table of a path.
use Rattle.std.proofs.Common.{◌≡◌, ◌⊎◌, ℕ, ◌/◌, ◌%◌, ◌<◌, ◌==◌, Bool, true, false, if◌then◌else◌, [], ◌∷◌, Option, Some, None, refl, ap, ◌∙◌, ⊎_elim, arith}
use Rattle.std.specs.Option.{ForSome}
use Rattle.gup_base.specs.Packing.{pack_of, unpack_of}
use Rattle.gup_base.specs.declared.entry.Entry.{Entry}
use Rattle.gup_spec_tables.specs.declared.place.Place.{Place}
use Rattle.gup_spec_tables.specs.Paths.{entry_at}
use Rattle.gup_spec_tables.specs.Tables.{table_at, on_path, word_of}
use Rattle.gup_tables.specs.Tree.{tree_by, entry_at as entry_in}
use Rattle.gup_tables.proofs.Places.{is_at_own}
use Rattle.gup_tables.proofs.TreeSet.{unpack-pack}

-- an entry that was read in a word is packed and read back
small : (word : ℕ) → ForSome (unpack_of word) (λ e. e.frame < 16384)
small word = go (word % 2 == 0)
  where
    go : (even : Bool) → ForSome {T = Entry} (if even then None else Some (record { frame = word / 4096 % 16384; writable = (word / 2 % 2) == 1 })) (λ e. e.frame < 16384)
    go true e is = absurd cc
    go false e is =
        let frame : word / 4096 % 16384 ≡ e.frame = cc in
        rw (← frame) (omega arith)

read_back : (word : ℕ → ℕ → ℕ) (o : Option ℕ) (page : ℕ) → unpack_of (pack_of (entry_in word o page)) ≡ entry_in word o page
read_back word None page = refl
read_back word (Some table) page = unpack-pack (unpack_of (word table (page % 512))) (small (word table (page % 512)))

-- it is the entry that is read there
pub entry_read : (place : ℕ → Option Place) (word : ℕ → ℕ → ℕ) (tables room last second third page : ℕ) → (place last ≡ None) ⊎ (place last ≡ Some (on_path 1 page)) → unpack_of (word_of (tree_by place word tables room) last (page % 512)) ≡ entry_at (tree_by place word tables room) (last ∷ second ∷ third ∷ []) page
entry_read place word tables room last second third page =
    ⊎_elim
    (λ (gone : place last ≡ None). rw gone refl)
    (λ (there : place last ≡ Some (on_path 1 page)).
    let own = is_at_own (on_path 1 page) in
    rw (there, own)
    (ap (λ g. unpack_of (pack_of (entry_in word (table_at place (on_path 1 g)) g))) (omega arith)
    ∙ read_back word (table_at place (on_path 1 page)) page))
