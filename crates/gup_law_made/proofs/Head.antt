-- The head, line by line.
use Rattle.std.proofs.Common.{◌≡◌, ℕ, ◌⊎◌, true, false, List, [], ◌∷◌, ◌++◌, codes, decimal, refl, lit<, inl, inr, arith}
use Rattle.std.specs.List.{join_with_byte}
use Rattle.std.specs.Fmt.{digits}
use Rattle.std.proofs.lemmas.List.Elements.{All-nil, All-cons}
use Rattle.gup_base.specs.Counts.{most_slots}
use Rattle.gup_script.specs.declared.op.Kind.TheVariants.{Thread, Device, Mover}
use Rattle.gup_script.specs.Script.{FrameCounts}
use Rattle.gup_spec_grammar.specs.Outline.{Outline, empty_outline, with_process, with_actor}
use Rattle.gup_spec_grammar.specs.Said.{Word, a_process, a_child, a_thread, a_device, a_mover, Said, said_words}
use Rattle.gup_spec_grammar.specs.Grammar.{before_head, before_frames, open_at, Declares, head_words}
use Rattle.gup_spec_grammar.specs.Spelling.{IsLetter, IsDigit, IsName, IsCount}
use Rattle.gup_law_made.proofs.Texts.{ArePlain, IsText, no_text, text_more}

-- ---- the outlines that the head's lines lead to

abbrev counts : FrameCounts
counts = record { movable = 256; normal = 256; tables = 2048 }

abbrev begun : Outline
begun = empty_outline counts

abbrev one_process : Outline
one_process = with_process (codes "p") true begun

abbrev one_child : Outline
one_child = with_process (codes "c1") false one_process

abbrev two_children : Outline
two_children = with_process (codes "c2") false one_child

abbrev one_thread : Outline
one_thread = with_actor (codes "t1") (Thread 0) two_children

abbrev two_threads : Outline
two_threads = with_actor (codes "t2") (Thread 0) one_thread

abbrev three_threads : Outline
three_threads = with_actor (codes "t3") (Thread 1) two_threads

abbrev four_threads : Outline
four_threads = with_actor (codes "t4") (Thread 2) three_threads

abbrev one_device : Outline
one_device = with_actor (codes "d1") (Device 64) four_threads

abbrev two_devices : Outline
two_devices = with_actor (codes "d2") (Device 64) one_device

abbrev pub declared : Outline
declared = with_actor (codes "m") Mover two_devices

-- ---- lines

-- the text with one line more
abbrev more : List ℕ → List Word → List ℕ
more text words = text ++ (join_with_byte 32 words ++ codes "\n")

declares_text : (text : List ℕ) (st : Outline) (said : Said) (next : Outline) → IsText text (open_at st) → ArePlain (said_words said) → Declares st said next → IsText (more text (said_words said)) (open_at next)
declares_text text st said next h plain right = text_more text (open_at st) (open_at next) (said_words said) h plain (next, inl (said, refl, right), refl)

abbrev framed_text : List ℕ
framed_text = more (more [] head_words) (codes "frames" ∷ codes "256" ∷ codes "256" ∷ codes "2048" ∷ [])

framed : IsText framed_text (open_at begun)
unfolding digits
framed =
    text_more (more [] head_words) before_frames (open_at begun) (codes "frames" ∷ codes "256" ∷ codes "256" ∷ codes "2048" ∷ [])
    (text_more [] before_head before_frames head_words no_text ((refl, (refl, tt)), refl) (refl, refl))
    ((refl, (refl, (refl, (refl, tt)))), refl) (counts, (refl, (omega arith, omega arith)), refl)

-- ---- names

letter : (c : ℕ) → IsLetter c → IsName (c ∷ [])
letter c is = (is, All-nil (λ b. IsLetter b ⊎ IsDigit b), lit< tt)

letter_and_digit : (c d : ℕ) → IsLetter c → IsDigit d → IsName (c ∷ d ∷ [])
letter_and_digit c d is also = (is, All-cons (λ b. IsLetter b ⊎ IsDigit b) d [] (inr also) (All-nil (λ b. IsLetter b ⊎ IsDigit b)), lit< tt)

-- ---- what is declared

processes : (text : List ℕ) → IsText text (open_at begun) → IsText (more (more (more text (codes "process" ∷ codes "p" ∷ [])) (codes "child" ∷ codes "c1" ∷ [])) (codes "child" ∷ codes "c2" ∷ [])) (open_at two_children)
processes text h =
    let first = declares_text text begun (a_process (codes "p")) one_process h ((refl, (refl, tt)), refl) (tt, letter 112 (omega arith, omega arith), refl, lit< tt, refl) in
    let second = declares_text _ one_process (a_child (codes "c1")) one_child first ((refl, (refl, tt)), refl) (tt, letter_and_digit 99 49 (omega arith, omega arith) (omega arith, omega arith), refl, lit< tt, refl) in
    declares_text _ one_child (a_child (codes "c2")) two_children second ((refl, (refl, tt)), refl) (tt, letter_and_digit 99 50 (omega arith, omega arith) (omega arith, omega arith), refl, lit< tt, refl)

threads : (text : List ℕ) → IsText text (open_at two_children) → IsText (more (more (more (more text (codes "thread" ∷ codes "t1" ∷ codes "p" ∷ [])) (codes "thread" ∷ codes "t2" ∷ codes "p" ∷ [])) (codes "thread" ∷ codes "t3" ∷ codes "c1" ∷ [])) (codes "thread" ∷ codes "t4" ∷ codes "c2" ∷ [])) (open_at four_threads)
threads text h =
    let name : (d : ℕ) → IsDigit d → IsName (116 ∷ d ∷ []) = λ d is. letter_and_digit 116 d (omega arith, omega arith) is in
    let first = declares_text text two_children (a_thread (codes "t1") (codes "p")) one_thread h ((refl, (refl, (refl, tt))), refl) (tt, (name 49 (omega arith, omega arith), (0, refl)), refl, lit< tt, (0, refl, refl)) in
    let second = declares_text _ one_thread (a_thread (codes "t2") (codes "p")) two_threads first ((refl, (refl, (refl, tt))), refl) (tt, (name 50 (omega arith, omega arith), (0, refl)), refl, lit< tt, (0, refl, refl)) in
    let third = declares_text _ two_threads (a_thread (codes "t3") (codes "c1")) three_threads second ((refl, (refl, (refl, tt))), refl) (tt, (name 51 (omega arith, omega arith), (1, refl)), refl, lit< tt, (1, refl, refl)) in
    declares_text _ three_threads (a_thread (codes "t4") (codes "c2")) four_threads third ((refl, (refl, (refl, tt))), refl) (tt, (name 52 (omega arith, omega arith), (2, refl)), refl, lit< tt, (2, refl, refl))

slots : codes "64" ≡ decimal 64
unfolding digits
slots = refl

devices : (text : List ℕ) → IsText text (open_at four_threads) → IsText (more (more (more text (codes "device" ∷ codes "d1" ∷ codes "64" ∷ [])) (codes "device" ∷ codes "d2" ∷ codes "64" ∷ [])) (codes "mover" ∷ codes "m" ∷ [])) (open_at declared)
devices text h =
    let count : IsCount 1 most_slots (codes "64") 64 = (slots, omega arith, omega arith) in
    let first = declares_text text four_threads (a_device (codes "d1") (codes "64")) one_device h ((refl, (refl, (refl, tt))), refl) ((64, count), letter_and_digit 100 49 (omega arith, omega arith) (omega arith, omega arith), refl, lit< tt, (64, count, refl)) in
    let second = declares_text _ one_device (a_device (codes "d2") (codes "64")) two_devices first ((refl, (refl, (refl, tt))), refl) ((64, count), letter_and_digit 100 50 (omega arith, omega arith) (omega arith, omega arith), refl, lit< tt, (64, count, refl)) in
    declares_text _ two_devices (a_mover (codes "m")) declared second ((refl, (refl, tt)), refl) (tt, letter 109 (omega arith, omega arith), (refl, refl), tt, refl)

abbrev pub declared_text : List ℕ
declared_text = codes "gup 1\nframes 256 256 2048\nprocess p\nchild c1\nchild c2\nthread t1 p\nthread t2 p\nthread t3 c1\nthread t4 c2\ndevice d1 64\ndevice d2 64\nmover m\n"

pub declared_right : IsText declared_text (open_at declared)
declared_right = devices _ (threads _ (processes framed_text framed))
