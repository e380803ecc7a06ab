-- The fields of notes: what is read of a word is spelled by it.
use Rattle.std.specs.Prelude.{codes, decimal}
use Rattle.std.proofs.Common.{◌≡◌, ℕ, ◌^◌, ◌<◌, Bool, true, false, List, [], ◌∷◌, refl}
use Rattle.std.proofs.lemmas.Bool.{ltb-true}
use Rattle.gup_base.specs.declared.entry.Rights.{Rights}
use Rattle.gup_base.specs.declared.entry.Rights.TheVariants.{R, RW}
use Rattle.gup_script.specs.Script.{ScriptValue}
use Rattle.gup_spec_grammar.specs.Said.{Word as Letters}
use Rattle.gup_spec_grammar.specs.Spelling.{IsNumber, IsIndex, IsPage, IsWordNo, IsAddress, address}
use Rattle.gup_spec_trace.specs.Note.{actor, process, handle, slot, right, way}
use Rattle.gup_spec_trace.specs.Written.{IsActor, IsProcess, IsHandle, IsSlot}
use Rattle.gup_read_words.specs.Text.{number_in, index_in, page_in, word_no_in, address_in}
use Rattle.gup_read_words.proofs.SpelledNumbers.{number_found, index_found, page_found, word_no_found}
use Rattle.gup_read_words.proofs.SpelledPlaces.{address_found}
use Rattle.gup_read_notes.specs.Names.{actor_in, process_in, handle_in, slot_in}
use Rattle.gup_read_notes.specs.Reading.{short_in, byte_in, rights_in, way_in, range_fields, page_fields, access_fields, handle_field, moved_fields, fork_fields}
use Rattle.gup_read_notes.proofs.Named.{actor_found, process_found, handle_found, slot_found}
use Rattle.gup_read_notes.proofs.Steps.{Gives, nothing, last, next, passed, choose}

-- ---- words

pub number_gives : (word : Letters) → Gives (number_in word) (IsNumber word)
number_gives word = record { gives = number_found word }

pub index_gives : (word : Letters) → Gives (index_in word) (IsIndex word)
index_gives word = record { gives = index_found word }

pub page_gives : (word : Letters) → Gives (page_in word) (IsPage word)
page_gives word = record { gives = page_found word }

pub word_no_gives : (word : Letters) → Gives (word_no_in word) (IsWordNo word)
word_no_gives word = record { gives = word_no_found word }

pub address_gives : (word : Letters) → Gives (address_in word) (λ (at : ℕ × ℕ). IsAddress word at.0 at.1)
address_gives word = record { gives = λ at e. address_found word at.0 at.1 e }

abbrev pub IsShort : Letters → ℕ → Type 0
IsShort word n = (word ≡ decimal n) × (n < 2 ^ 16)

pub short_gives : (word : Letters) → Gives (short_in word) (IsShort word)
unfolding short_in
short_gives word = next (number_gives word) (λ n h. passed (λ t. last n (h.0, ltb-true n (2 ^ 16) t)))

abbrev pub IsByte : Letters → ℕ → Type 0
IsByte word n = (word ≡ decimal n) × (n < 256)

pub byte_gives : (word : Letters) → Gives (byte_in word) (IsByte word)
unfolding byte_in
byte_gives word = next (number_gives word) (λ n h. passed (λ t. last n (h.0, ltb-true n 256 t)))

abbrev are_rights : Letters → Rights → Type 0
are_rights word rights = word ≡ right rights

pub rights_gives : (word : Letters) → Gives (rights_in word) (are_rights word)
unfolding rights_in
rights_gives word = choose are_rights word (codes "r") (last R refl) (choose are_rights word (codes "rw") (last RW refl) nothing)

abbrev is_way : Letters → Bool → Type 0
is_way word write = word ≡ way write

pub way_gives : (word : Letters) → Gives (way_in word) (is_way word)
unfolding way_in
way_gives word = choose is_way word (codes "read") (last false refl) (choose is_way word (codes "write") (last true refl) nothing)

pub actor_gives : (s : ScriptValue) (word : Letters) → Gives (actor_in s word) (λ a. IsActor s a × (word ≡ actor s a))
actor_gives s word = record { gives = actor_found s word }

pub process_gives : (s : ScriptValue) (word : Letters) → Gives (process_in s word) (λ p. IsProcess s p × (word ≡ process s p))
process_gives s word = record { gives = process_found s word }

pub handle_gives : (s : ScriptValue) (word : Letters) → Gives (handle_in s word) (λ h. IsHandle s h × (word ≡ handle s h))
handle_gives s word = record { gives = handle_found s word }

pub slot_gives : (s : ScriptValue) (word : Letters) → Gives (slot_in s word) (λ m. IsSlot s m × (word ≡ slot s m))
slot_gives s word = record { gives = slot_found s word }

-- ---- the fields of several kinds of events

pub range_gives : (s : ScriptValue) (fields : List Letters) → Gives (range_fields s fields) (λ (x : ℕ × ℕ × ℕ × Rights). (fields ≡ process s x.0 ∷ decimal x.1 ∷ decimal x.2 ∷ right x.3 ∷ []) × IsProcess s x.0 × (x.1 < 2 ^ 35) × (x.2 < 2 ^ 16))
unfolding range_fields
range_gives s (proc ∷ page ∷ count ∷ allowed ∷ []) =
    next (process_gives s proc) (λ p hp. next (page_gives page) (λ g hg. next (short_gives count) (λ n hn. next (rights_gives allowed) (λ r hr.
    last (p, g, n, r) (cc, hp.0, hg.1, hn.1)))))
range_gives s _ = nothing

pub page_of_gives : (s : ScriptValue) (fields : List Letters) → Gives (page_fields s fields) (λ (x : ℕ × ℕ). (fields ≡ process s x.0 ∷ decimal x.1 ∷ []) × IsProcess s x.0 × (x.1 < 2 ^ 35))
unfolding page_fields
page_of_gives s (proc ∷ page ∷ []) = next (process_gives s proc) (λ p hp. next (page_gives page) (λ g hg. last (p, g) (cc, hp.0, hg.1)))
page_of_gives s _ = nothing

pub access_gives : (s : ScriptValue) (fields : List Letters) → Gives (access_fields s fields) (λ (x : ℕ × ℕ × ℕ × ℕ). (fields ≡ process s x.0 ∷ address x.1 x.2 ∷ decimal x.3 ∷ []) × IsProcess s x.0 × (x.1 < 2 ^ 35) × (x.2 < 512) × (x.3 < 2 ^ 64))
unfolding access_fields
access_gives s (proc ∷ at ∷ value ∷ []) =
    next (process_gives s proc) (λ p hp. next (address_gives at) (λ x hx. next (number_gives value) (λ v hv.
    last (p, x.0, x.1, v) (cc, hp.0, hx.1, hx.2, hv.1))))
access_gives s _ = nothing

pub handle_of_gives : (s : ScriptValue) (fields : List Letters) → Gives (handle_field s fields) (λ h. (fields ≡ handle s h ∷ []) × IsHandle s h)
unfolding handle_field
handle_of_gives s (handle ∷ []) = record { gives = λ h e. let f = handle_found s handle h e in (cc, f.0) }
handle_of_gives s _ = nothing

pub moved_gives : (s : ScriptValue) (fields : List Letters) → Gives (moved_fields s fields) (λ (x : ℕ × ℕ × ℕ × ℕ). (fields ≡ handle s x.0 ∷ decimal x.1 ∷ decimal x.2 ∷ decimal x.3 ∷ []) × IsHandle s x.0 × (x.1 < 2 ^ 32) × (x.2 < 2 ^ 32) × (x.3 < 2 ^ 64))
unfolding moved_fields
moved_gives s (handle ∷ index ∷ slot ∷ value ∷ []) =
    next (handle_gives s handle) (λ h hh. next (index_gives index) (λ i hi. next (index_gives slot) (λ k hk. next (number_gives value) (λ v hv.
    last (h, i, k, v) (cc, hh.0, hi.1, hk.1, hv.1)))))
moved_gives s _ = nothing

pub fork_gives : (s : ScriptValue) (fields : List Letters) → Gives (fork_fields s fields) (λ (x : ℕ × ℕ). (fields ≡ process s x.0 ∷ process s x.1 ∷ []) × IsProcess s x.0 × IsProcess s x.1)
unfolding fork_fields
fork_gives s (parent ∷ child ∷ []) = next (process_gives s parent) (λ p hp. next (process_gives s child) (λ c hc. last (p, c) (cc, hp.0, hc.0)))
fork_gives s _ = nothing
