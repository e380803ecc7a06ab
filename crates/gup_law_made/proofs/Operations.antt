-- The lines of rounds that declare nothing keep texts good.
use Rattle.std.proofs.Common.{◌≡◌, ℕ, ◌+◌, ◌<◌, Bool, true, false, [], ◌∷◌, codes, decimal, Some, Contains, if◌then◌else◌, refl, sym, lit<, arith}
use Rattle.std.specs.Prelude.{◌==◌}
use Rattle.std.proofs.lemmas.Fmt.{decimal_digit}
use Rattle.gup_base.specs.declared.entry.Zone.{Zone}
use Rattle.gup_base.specs.declared.entry.Zone.TheVariants.{Movable, Normal}
use Rattle.gup_script.specs.declared.op.Kind.TheVariants.{Thread, Device, Mover}
use Rattle.gup_script.specs.declared.op.Op.TheVariants as ops
use Rattle.gup_spec_grammar.specs.declared.named.Named.TheVariants as named
use Rattle.gup_spec_grammar.specs.Names.{find}
use Rattle.gup_spec_grammar.specs.Said.{Word, op_words, unmaps, discards, loads, stores, transfers, moves, transfer_word, zone_word}
use Rattle.gup_spec_grammar.specs.Spelling.{address}
use Rattle.gup_make.specs.Made.{Made, on, drawing, load_line, store_line, discard_line, unmap_line, transfer_line, first_device, second_device, move_line}
use Rattle.gup_law_made.proofs.Texts.{IsPlain}
use Rattle.gup_law_made.proofs.Numbers.{decimal_plain, address_plain}
use Rattle.gup_law_made.proofs.Standing.{head_names}
use Rattle.gup_law_made.proofs.Good.{IsActor, Keeps, keeps_drawing, keeps_on}

-- ---- of a thread

one : codes "1" ≡ decimal 1
one = sym (decimal_digit 1 (omega arith))

abbrev loading : (thread : Word) → (page w : ℕ) → Made → Made
loading thread page w = on thread (loads (address page w))

loads_keep : (k p page w : ℕ) (thread : Word) → IsActor thread (Thread p) → page < 64 → w < 512 → Keeps 1 k (loading thread page w)
loads_keep k p page w thread actor first second =
    keeps_on k thread (Thread p) (loads (address page w)) (ops.Load page w) actor (4, lit< tt, refl) (refl, (address_plain page w (omega arith) (omega arith), tt)) (omega arith) (λ st. refl) (λ child. refl) (λ n handles st h.
    record {
      shaped = tt;
      numbers = (page, w, (refl, omega arith, second));
      names = tt;
      once = tt;
      limits = tt;
      means = (page, w, (refl, omega arith, second), refl);
    })

pub load_keeps : (k p : ℕ) (thread : Word) → IsActor thread (Thread p) → Keeps 1 k (load_line thread)
load_keeps k p thread actor =
    keeps_drawing 1 k 64 (λ page. drawing 512 (loading thread page)) (omega arith) (λ page first. keeps_drawing 1 k 512 (loading thread page) (omega arith) (λ w second. loads_keep k p page w thread actor first second))

abbrev storing : (thread : Word) → (page w value : ℕ) → Made → Made
storing thread page w value = on thread (stores (address page w) (decimal value))

stores_keep : (k p page w value : ℕ) (thread : Word) → IsActor thread (Thread p) → page < 64 → w < 512 → value < 1000 → Keeps 1 k (storing thread page w value)
stores_keep k p page w value thread actor first second third =
    keeps_on k thread (Thread p) (stores (address page w) (decimal value)) (ops.Store page w value) actor (5, lit< tt, refl) (refl, (address_plain page w (omega arith) (omega arith), (decimal_plain value (omega arith), tt))) (omega arith) (λ st. refl) (λ child. refl) (λ n handles st h.
    record {
      shaped = tt;
      numbers = ((page, w, (refl, omega arith, second)), (value, (refl, omega arith)));
      names = tt;
      once = tt;
      limits = tt;
      means = (page, w, value, (refl, omega arith, second), (refl, omega arith), refl);
    })

pub store_keeps : (k p : ℕ) (thread : Word) → IsActor thread (Thread p) → Keeps 1 k (store_line thread)
store_keeps k p thread actor =
    keeps_drawing 1 k 64 (λ page. drawing 512 (λ w. drawing 1000 (storing thread page w))) (omega arith) (λ page first. keeps_drawing 1 k 512 (λ w. drawing 1000 (storing thread page w)) (omega arith) (λ w second. keeps_drawing 1 k 1000 (storing thread page w) (omega arith) (λ value third.
    stores_keep k p page w value thread actor first second third)))

discards_keep : (k p page : ℕ) (thread : Word) → IsActor thread (Thread p) → page < 64 → Keeps 1 k (on thread (discards (decimal page) (codes "1")))
discards_keep k p page thread actor first =
    keeps_on k thread (Thread p) (discards (decimal page) (codes "1")) (ops.Discard page 1) actor (3, lit< tt, refl) (refl, (decimal_plain page (omega arith), (refl, tt))) (omega arith) (λ st. refl) (λ child. refl) (λ n handles st h.
    record {
      shaped = tt;
      numbers = (page, 1, (refl, one, omega arith, omega arith, omega arith));
      names = tt;
      once = tt;
      limits = tt;
      means = (page, 1, (refl, one, omega arith, omega arith, omega arith), refl);
    })

pub discard_keeps : (k p : ℕ) (thread : Word) → IsActor thread (Thread p) → Keeps 1 k (discard_line thread)
discard_keeps k p thread actor = keeps_drawing 1 k 56 (λ page. on thread (discards (decimal (8 + page)) (codes "1"))) (omega arith) (λ page first. discards_keep k p (8 + page) thread actor (omega arith))

unmaps_keep : (k p page : ℕ) (thread : Word) → IsActor thread (Thread p) → page < 64 → Keeps 1 k (on thread (unmaps (decimal page) (codes "1")))
unmaps_keep k p page thread actor first =
    keeps_on k thread (Thread p) (unmaps (decimal page) (codes "1")) (ops.Unmap page 1) actor (1, lit< tt, refl) (refl, (decimal_plain page (omega arith), (refl, tt))) (omega arith) (λ st. refl) (λ child. refl) (λ n handles st h.
    record {
      shaped = tt;
      numbers = (page, 1, (refl, one, omega arith, omega arith, omega arith));
      names = tt;
      once = tt;
      limits = tt;
      means = (page, 1, (refl, one, omega arith, omega arith, omega arith), refl);
    })

pub unmap_keeps : (k p : ℕ) (thread : Word) → IsActor thread (Thread p) → Keeps 1 k (unmap_line thread)
unmap_keeps k p thread actor = keeps_drawing 1 k 56 (λ page. on thread (unmaps (decimal (8 + page)) (codes "1"))) (omega arith) (λ page first. unmaps_keep k p (8 + page) thread actor (omega arith))

-- ---- of the devices

way_plain : (outward : Bool) → IsPlain (transfer_word outward)
way_plain true = refl
way_plain false = refl

-- the words `out` and `in` are among a device's
way_there : (outward : Bool) → Contains (op_words (Device 64)) (transfer_word outward)
way_there true = (3, lit< tt, refl)
way_there false = (4, lit< tt, refl)

abbrev transferring : (device : Word) → (outward : Bool) → (handle : Word) → (index slot count : ℕ) → Made → Made
transferring device outward handle index slot count = on device (transfers outward handle (decimal index) (decimal slot) (decimal (1 + count)))

transfers_keep : (k index slot count pin : ℕ) (outward : Bool) (device handle : Word) → IsActor device (Device 64) → find head_names handle ≡ Some (named.Pin pin) → IsPlain handle → index < 2040 → slot < 56 → count < 8 → Keeps 1 k (transferring device outward handle index slot count)
transfers_keep k index slot count pin outward device handle actor pins plain first second third =
    keeps_on k device (Device 64) (transfers outward handle (decimal index) (decimal slot) (decimal (1 + count))) (ops.Transfer pin outward slot ((index, 1 + count) ∷ [])) actor (way_there outward)
    (way_plain outward, (plain, (decimal_plain index (omega arith), (decimal_plain slot (omega arith), (decimal_plain (1 + count) (omega arith), tt))))) (omega arith) (λ st. refl) (λ child. refl) (λ n handles st h.
    record {
      shaped = tt;
      numbers = ((index, (refl, omega arith)), (slot, (refl, omega arith)), (1 + count, (refl, omega arith, omega arith)));
      names = (pin, h.known handle (named.Pin pin) pins);
      once = tt;
      limits = tt;
      means = (pin, index, slot, 1 + count, h.known handle (named.Pin pin) pins, (refl, omega arith), (refl, omega arith), (refl, omega arith, omega arith), refl);
    })

transfer_keeps : (k pin : ℕ) (outward : Bool) (device handle : Word) → IsActor device (Device 64) → find head_names handle ≡ Some (named.Pin pin) → IsPlain handle → Keeps 1 k (transfer_line device outward handle)
transfer_keeps k pin outward device handle actor pins plain =
    keeps_drawing 1 k 2040 (λ index. drawing 56 (λ slot. drawing 8 (transferring device outward handle index slot))) (omega arith) (λ index first. keeps_drawing 1 k 56 (λ slot. drawing 8 (transferring device outward handle index slot)) (omega arith) (λ slot second. keeps_drawing 1 k 8 (transferring device outward handle index slot) (omega arith) (λ count third.
    transfers_keep k index slot count pin outward device handle actor pins plain first second third)))

first_is_actor : IsActor (codes "d1") (Device 64)
first_is_actor = record { number = 4; named = refl; is_kind = refl; plain = refl }

second_is_actor : IsActor (codes "d2") (Device 64)
second_is_actor = record { number = 5; named = refl; is_kind = refl; plain = refl }

pub first_device_keeps : (k : ℕ) → Keeps 1 k first_device
first_device_keeps k = keeps_drawing 1 k 2 (λ way. transfer_line (codes "d1") (way == 0) (codes "h1")) (omega arith) (λ way lt. transfer_keeps k 0 (way == 0) (codes "d1") (codes "h1") first_is_actor refl refl)

pub second_device_keeps : (k : ℕ) → Keeps 1 k second_device
second_device_keeps k = transfer_keeps k 1 true (codes "d2") (codes "h2") second_is_actor refl refl

-- ---- of the mover

zone_plain : (zone : Zone) → IsPlain (zone_word zone)
zone_plain Movable = refl
zone_plain Normal = refl

mover_is_actor : IsActor (codes "m") Mover
mover_is_actor = record { number = 6; named = refl; is_kind = refl; plain = refl }

moves_keep : (k page : ℕ) (zone : Zone) → page < 64 → Keeps 1 k (on (codes "m") (moves (codes "p") (decimal page) zone))
moves_keep k page zone first =
    keeps_on k (codes "m") Mover (moves (codes "p") (decimal page) zone) (ops.Move 0 page zone) mover_is_actor (0, lit< tt, refl) (refl, (refl, (decimal_plain page (omega arith), (zone_plain zone, tt)))) (omega arith) (λ st. refl) (λ child. refl) (λ n handles st h.
    record {
      shaped = tt;
      numbers = (page, (refl, omega arith));
      names = (0, h.known (codes "p") (named.Process 0) refl);
      once = tt;
      limits = tt;
      means = (0, page, h.known (codes "p") (named.Process 0) refl, (refl, omega arith), refl);
    })

abbrev moving : (page zone : ℕ) → Made → Made
moving page zone = on (codes "m") (moves (codes "p") (decimal page) (if zone == 0 then Normal else Movable))

pub move_keeps : (k : ℕ) → Keeps 1 k move_line
move_keeps k = keeps_drawing 1 k 64 (λ page. drawing 2 (moving page)) (omega arith) (λ page first. keeps_drawing 1 k 2 (moving page) (omega arith) (λ zone lt. moves_keep k page (if zone == 0 then Normal else Movable) first))
