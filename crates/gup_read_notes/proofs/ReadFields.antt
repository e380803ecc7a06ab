-- The fields of notes: a word that spells something is read as it.
use Rattle.std.specs.Prelude.{decimal}
use Rattle.std.proofs.Common.{◌≡◌, ℕ, ◌^◌, ◌<◌, Bool, true, false, [], ◌∷◌, Some, refl, arith}
use Rattle.std.proofs.lemmas.Bool.{lt-ltb}
use Rattle.gup_base.specs.declared.entry.Rights.{Rights}
use Rattle.gup_base.specs.declared.entry.Rights.TheVariants.{R, RW}
use Rattle.gup_script.specs.Script.{ScriptValue}
use Rattle.gup_spec_grammar.specs.Spelling.{address}
use Rattle.gup_spec_trace.specs.Names.{AreNames}
use Rattle.gup_spec_trace.specs.Note.{process, handle, right, way}
use Rattle.gup_spec_trace.specs.Written.{IsProcess, IsHandle}
use Rattle.gup_read_words.specs.Text.{index_in, page_in, word_no_in, address_in}
use Rattle.gup_read_words.proofs.SpelledNumbers.{decimal_read, index_read, page_read, word_no_read}
use Rattle.gup_read_words.proofs.SpelledPlaces.{address_read}
use Rattle.gup_read_notes.specs.Reading.{short_in, byte_in, rights_in, way_in, range_fields, page_fields, access_fields, handle_field, moved_fields, fork_fields}
use Rattle.gup_read_notes.proofs.Named.{process_read, handle_read}

-- ---- words

pub index_again : (n : ℕ) → n < 2 ^ 32 → index_in (decimal n) ≡ Some n
index_again n lt = index_read (decimal n) n (refl, lt)

pub page_again : (page : ℕ) → page < 2 ^ 35 → page_in (decimal page) ≡ Some page
page_again page lt = page_read (decimal page) page (refl, lt)

pub word_no_again : (w : ℕ) → w < 512 → word_no_in (decimal w) ≡ Some w
word_no_again w lt = word_no_read (decimal w) w (refl, lt)

pub address_again : (page w : ℕ) → page < 2 ^ 35 → w < 512 → address_in (address page w) ≡ Some (page, w)
address_again page w p v = address_read (address page w) page w (refl, p, v)

pub short_again : (n : ℕ) → n < 2 ^ 16 → short_in (decimal n) ≡ Some n
unfolding short_in
short_again n lt = rw (decimal_read n (omega arith), lt-ltb n (2 ^ 16) lt) refl

pub byte_again : (n : ℕ) → n < 256 → byte_in (decimal n) ≡ Some n
unfolding byte_in
byte_again n lt = rw (decimal_read n (omega arith), lt-ltb n 256 lt) refl

pub rights_again : (rights : Rights) → rights_in (right rights) ≡ Some rights
unfolding rights_in
rights_again R = refl
rights_again RW = refl

pub way_again : (write : Bool) → way_in (way write) ≡ Some write
unfolding way_in
way_again true = refl
way_again false = refl

-- ---- the fields of several kinds of events

module _ (s : ScriptValue) (names : AreNames s) where
  pub range_again : (p page n : ℕ) (rights : Rights) → IsProcess s p → page < 2 ^ 35 → n < 2 ^ 16 → range_fields s (process s p ∷ decimal page ∷ decimal n ∷ right rights ∷ []) ≡ Some (p, page, n, rights)
  unfolding range_fields
  range_again p page n rights hp hg hn = rw (process_read s names p hp, page_again page hg, short_again n hn, rights_again rights) refl

  pub page_of_again : (p page : ℕ) → IsProcess s p → page < 2 ^ 35 → page_fields s (process s p ∷ decimal page ∷ []) ≡ Some (p, page)
  unfolding page_fields
  page_of_again p page hp hg = rw (process_read s names p hp, page_again page hg) refl

  pub access_again : (p page w value : ℕ) → IsProcess s p → page < 2 ^ 35 → w < 512 → value < 2 ^ 64 → access_fields s (process s p ∷ address page w ∷ decimal value ∷ []) ≡ Some (p, page, w, value)
  unfolding access_fields
  access_again p page w value hp hg hw hv = rw (process_read s names p hp, address_again page w hg hw, decimal_read value hv) refl

  pub handle_of_again : (h : ℕ) → IsHandle s h → handle_field s (handle s h ∷ []) ≡ Some h
  unfolding handle_field
  handle_of_again h hh = handle_read s names h hh

  pub moved_again : (h i k value : ℕ) → IsHandle s h → i < 2 ^ 32 → k < 2 ^ 32 → value < 2 ^ 64 → moved_fields s (handle s h ∷ decimal i ∷ decimal k ∷ decimal value ∷ []) ≡ Some (h, i, k, value)
  unfolding moved_fields
  moved_again h i k value hh hi hk hv = rw (handle_read s names h hh, index_again i hi, index_again k hk, decimal_read value hv) refl

  pub fork_again : (p child : ℕ) → IsProcess s p → IsProcess s child → fork_fields s (process s p ∷ process s child ∷ []) ≡ Some (p, child)
  unfolding fork_fields
  fork_again p child hp hc = rw (process_read s names p hp, process_read s names child hc) refl
