-- The script that is made from a number, as text: a fixed head, twenty rounds of drawn operations with two forks behind them, and
-- drawn turns.
use Rattle.std.specs.Prelude.{ℕ, ◌+◌, ◌==◌, nat_lt, Bool, true, false, if◌then◌else◌, List, ◌∷◌, ◌++◌, codes, decimal, zero, suc}
use Rattle.std.specs.List.{join_with_byte}
use Rattle.gup_base.specs.declared.entry.Zone.TheVariants.{Movable, Normal}
use Rattle.gup_spec_grammar.specs.Outline.{next_state, drawn}
use Rattle.gup_spec_grammar.specs.Said.{Word, said_words, random_turns, Action, action_words, unmaps, discards, loads, stores, pins, gets, puts, forks, unpins, transfers, moves}
use Rattle.gup_spec_grammar.specs.Spelling.{address}

-- what is made so far: its text, where the generator stands, and how many handles rounds have made
pub record Made : Type 0 where
  pub text : List ℕ
  pub state : ℕ
  pub handles : ℕ

-- a line more, whose words have a space between each two
abbrev pub line : List Word → Made → Made
line words made = record made { text = made.text ++ (join_with_byte 32 words ++ codes "\n") }

-- a line more, which gives this actor this to do
abbrev pub on : (actor : Word) → Action → Made → Made
on actor action = line (codes "on" ∷ actor ∷ action_words action)

-- a number below this is drawn for what follows
abbrev pub drawing : (below : ℕ) → (ℕ → Made → Made) → Made → Made
drawing below next made = next (drawn below (next_state made.state)) (record made { state = next_state made.state })

-- a handle more for what follows, by its number, from 1
abbrev pub numbering : (ℕ → Made → Made) → Made → Made
numbering next made = next (made.handles + 1) (record made { handles = made.handles + 1 })

abbrev pub pin_name : (k : ℕ) → Word
pin_name k = codes "f" ++ decimal k

abbrev pub reference_name : (k : ℕ) → Word
reference_name k = codes "g" ++ decimal k

-- ---- the operations of a thread

abbrev pub load_line : (thread : Word) → Made → Made
load_line thread = drawing 64 (λ page. drawing 512 (λ word. on thread (loads (address page word))))

abbrev pub store_line : (thread : Word) → Made → Made
store_line thread =
    drawing 64 (λ page. drawing 512 (λ word. drawing 1000 (λ value. on thread (stores (address page word) (decimal value)))))

-- a page past the first eight, which the devices' pins have
abbrev pub discard_line : (thread : Word) → Made → Made
discard_line thread = drawing 56 (λ page. on thread (discards (decimal (8 + page)) (codes "1")))

abbrev pub unmap_line : (thread : Word) → Made → Made
unmap_line thread = drawing 56 (λ page. on thread (unmaps (decimal (8 + page)) (codes "1")))

-- a pin to write by a fast walk, and its unpin
abbrev pub pin_lines : (thread : Word) → Made → Made
pin_lines thread = numbering (λ k. drawing 60 (λ page. drawing 4 (λ n made.
    on thread (unpins (pin_name k))
    (on thread (pins true (pin_name k) (decimal page) (decimal (1 + n)) true false) made))))

-- a reference that is got, and put back
abbrev pub get_lines : (thread : Word) → Made → Made
get_lines thread = numbering (λ k. drawing 64 (λ page made.
    on thread (puts (reference_name k)) (on thread (gets (reference_name k) (decimal page)) made)))

abbrev pub chosen : (thread : Word) → (choice : ℕ) → Made → Made
chosen thread choice =
    if nat_lt choice 2 then load_line thread else if nat_lt choice 4 then store_line thread
    else if choice == 4 then discard_line thread else if choice == 5 then pin_lines thread
    else if choice == 6 then get_lines thread else unmap_line thread

abbrev pub thread_lines : (thread : Word) → Made → Made
thread_lines thread = drawing 8 (chosen thread)

-- ---- those of the devices and the mover

abbrev pub transfer_line : (device : Word) → (outward : Bool) → (handle : Word) → Made → Made
transfer_line device outward handle = drawing 2040 (λ index. drawing 56 (λ slot. drawing 8 (λ n.
    on device (transfers outward handle (decimal index) (decimal slot) (decimal (1 + n))))))

abbrev pub first_device : Made → Made
first_device = drawing 2 (λ way. transfer_line (codes "d1") (way == 0) (codes "h1"))

abbrev pub second_device : Made → Made
second_device = transfer_line (codes "d2") true (codes "h2")

abbrev pub move_line : Made → Made
move_line = drawing 64 (λ page. drawing 2 (λ zone.
    on (codes "m") (moves (codes "p") (decimal page) (if zone == 0 then Normal else Movable))))

-- ---- the whole

unfoldable pub round : Made → Made
round made =
    move_line (second_device (first_device
    (thread_lines (codes "t4") (thread_lines (codes "t3") (thread_lines (codes "t2") (thread_lines (codes "t1") made))))))

-- behind the fifth round the first thread forks, and behind the tenth the second
abbrev pub forks_behind : (round : ℕ) → Made → Made
forks_behind k =
    if k == 5 then on (codes "t1") (forks (codes "c1")) else if k == 10 then on (codes "t2") (forks (codes "c2")) else λ made. made

unfoldable pub rounds : ℕ → Made → Made
rounds zero made = made
rounds (suc k) made = forks_behind (suc k) (round (rounds k made))

abbrev pub head : List ℕ
head = codes "gup 1\nframes 256 256 2048\nprocess p\nchild c1\nchild c2\nthread t1 p\nthread t2 p\nthread t3 c1\nthread t4 c2\ndevice d1 64\ndevice d2 64\nmover m\non t1 map 0 64 rw\non t1 pin h1 0 4 write\non t1 give h1 d1\non t1 pin h2 4 4 read\non t1 give h2 d2\non d1 take h1\non d2 take h2\n"

abbrev pub made_text : (n : ℕ) → List ℕ
made_text n = (line (said_words (random_turns (decimal n) (codes "2000"))) (rounds 20 (record { text = head; state = n; handles = 0 }))).text
