-- Which pages the turns of a pin invalidate, of those that have an entry.
use Rattle.std.proofs.Common.{◌≡◌, ℕ, ◌+◌, ◌==◌, ◌&&◌, ◌||◌, not, nat_lt, Bool, true, false, cond, List, [], ◌∷◌, ◌++◌, length, Option, Some, None, is_some, Ok, Err, refl, ap, ◌∙◌, subst, zero, suc, if◌then◌else◌, arith}
use Rattle.std.proofs.Math.Bool.{or-false}
use Rattle.std.proofs.lemmas.Bool.Decides.{nat_tests}
use Rattle.gup_base.specs.declared.entry.Entry.{Entry}
use Rattle.gup_base.specs.declared.entry.Rights.{Rights}
use Rattle.gup_base.specs.declared.entry.Rights.TheVariants.{R, RW}
use Rattle.gup_base.specs.declared.entry.Want.{Want}
use Rattle.gup_plain.specs.Denial.{pin_denial}
use Rattle.gup_plain.specs.Put.{put2}
use Rattle.gup_plain.specs.declared.answer.Answer.{Answer}
use Rattle.gup_plain.specs.declared.answer.Answer.TheVariants as answers
use Rattle.gup_spec_tables.specs.Paths.{link_at, entry_at, leads_still}
use Rattle.gup_spec_events.specs.State.{CoreState, Taken, Job, moving, walking, Counted, unread, one, more, WalkStep, entered, ready, read, grabbed, refused, stopped, dropping}
use Rattle.gup_spec_events.specs.Event.{CoreEvent, is_odd, run, entry_of, take_frame, fill, upgrade, put_entry, break_entry, clear_entry, pin_page, make_handle, raise_flag, restore_entry, tree_in}
use Rattle.gup_spec_events.specs.Descent.{led_on, reads_on}
use Rattle.gup_spec_events.specs.Fault.{Fault, breaks, marks, makes_writable, write_fault, unshares, unshare_fault}
use Rattle.gup_spec_turns.specs.CoreTurn.{entry_in, free_in, frame_for, zones_of}
use Rattle.gup_spec_turns.specs.Emptying.{PageRange, one_page, has_page}
use Rattle.gup_spec_turns.specs.PinTurns.{raises, pin_fault, makes_if, pins_behind, moves_first, clears_or_pins, pins, ends_pin, pin_turn_by, begins_or_pins, ends_moved, pins_moved, moved_turn, pin_turn_in}
use Rattle.gup_spec_turns.specs.WalkTurns.{leaves_if, grab_turn, is_same, recheck_turn, is_none_left, all_turn, ready_turn, split_last, last_turn, first_turn, walk_turn}
use Rattle.gup_law_mirrors.specs.Invalidated.{page_if, copies, changes_in, changes_page, pinned_in, range_from}
use Rattle.gup_law_mirrors.proofs.Invalidates.{Invalidates, behind, absent, tailed, headed}

twice : (b : Bool) → (b || (b || false)) ≡ b
twice true = refl
twice false = refl

put_here : {X : Type 0} (p g : ℕ) (x : X) (f : ℕ → ℕ → X) → put2 p g x f p g ≡ x
put_here p g x f = grind (arith, nat_tests)

module _ (s : CoreState) (a p : ℕ) where
  -- the end of a turn of a pin
  made : (last : Bool) (handle : ℕ) → Invalidates s (makes_if last a handle) None
  made true handle q g some = refl
  made false handle q g some = refl

  pinned : (es : List CoreEvent) (handle page n : ℕ) (want : Want) (last : Bool) (e : Entry) (range : Option PageRange) → Invalidates s es range → Invalidates s (pins_behind es a p handle page n want last e).events range
  pinned es handle page n want last e range is =
      tailed s es (pin_page a p page e want.write want.long ∷ makes_if last a handle) range is (made last handle)

  ended : (es : List CoreEvent) (handle n got : ℕ) (answer : Answer) (range : Option PageRange) → Invalidates s es range → Invalidates s (ends_pin es a handle n got answer).events range
  ended es handle n zero answer range is = is
  ended es handle n (suc got) answer range is = tailed s es (make_handle a handle ∷ []) range is (λ q g some. refl)

  raised : (got : ℕ) (fast : Bool) → Invalidates s (raises a p got fast) None
  raised zero false q g some = refl
  raised zero true q g some = refl
  raised (suc got) fast q g some = refl

  -- ---- a page that is made ready

  module _ (handle page n got : ℕ) (want : Want) (fast : Bool) where
    abbrev of_page : (changes : Bool) → Option PageRange
    of_page changes = range_from p 1 (page_if changes page)

    refused_so : (answer : Answer) → Invalidates s (pin_turn_by (Err answer) s a p handle page n got want fast).events None
    refused_so answer = ended (raises a p got fast) handle n got answer None (raised got fast)

    -- behind events that don't invalidate it the page is cleared or pinned
    then_clears : (moves : Bool) (es : List CoreEvent) (e : Entry) → Invalidates s es None → Invalidates s (clears_or_pins moves es a p handle page n want (got + 1 == n) e).events (of_page moves)
    then_clears true es e none =
        headed s es (clear_entry a p page e (zones_of want) ∷ []) (one_page p page) none (λ q g some. or-false (has_page (one_page p page) q g))
    then_clears false es e none = pinned es handle page n want (got + 1 == n) e None none

    -- and behind others that do
    then_either : (moves : Bool) (es : List CoreEvent) (e : Entry) → Invalidates s es (one_page p page) → Invalidates s (clears_or_pins moves es a p handle page n want (got + 1 == n) e).events (one_page p page)
    then_either true es e is q g some =
        behind es (clear_entry a p page e (zones_of want) ∷ []) q g
        ∙ ap (λ b. b || (has_page (one_page p page) q g || false)) (is q g some)
        ∙ twice (has_page (one_page p page) q g)
    then_either false es e is q g some = pinned es handle page n want (got + 1 == n) e (one_page p page) is q g some

    -- by what the fault does with the entry
    filled_so : (before : List CoreEvent) → s.entry p page ≡ None → Invalidates s before None → Invalidates s (pin_turn_by (Ok before) s a p handle page n got want fast).events None
    filled_so before none is q g some =
        let es : List CoreEvent = raises a p got fast ++ before in
        let e : Entry = entry_in ((run s es).entry p page) in
        let moves : Bool = moves_first (run s es) want e in
        then_clears moves es e (headed s (raises a p got fast) before None (raised got fast) is) q g some ∙ no_page moves
      where
        no_page : (moves : Bool) → has_page (of_page moves) q g ≡ false
        no_page true = absent s p page none q g some
        no_page false = refl

    copied_so : (before : List CoreEvent) → Invalidates s before (one_page p page) → Invalidates s (pin_turn_by (Ok before) s a p handle page n got want fast).events (one_page p page)
    copied_so before is =
        let es : List CoreEvent = raises a p got fast ++ before in
        let e : Entry = entry_in ((run s es).entry p page) in
        then_either (moves_first (run s es) want e) es e (headed s (raises a p got fast) before (one_page p page) (raised got fast) is)

    -- the page has the frame of this entry still
    abbrev HasFrame : CoreState → Entry → Type 0
    HasFrame t e = (t.movable ≡ s.movable) × ((entry_in (t.entry p page)).frame ≡ e.frame)

    kept_by : (first before : List CoreEvent) (e : Entry) → HasFrame (run s (first ++ before)) e → Invalidates s first None → Invalidates s before None → Invalidates s (pins s (first ++ before) a p handle page n want (got + 1 == n)).events (of_page (moves_first s want e))
    kept_by first before e same none is =
        let es : List CoreEvent = first ++ before in
        let t : CoreState = run s es in
        let d : Entry = entry_in (t.entry p page) in
        let moves : moves_first t want d ≡ moves_first s want e =
        ap (λ (m : ℕ). want.long && nat_lt d.frame m) same.0 ∙ ap (λ (f : ℕ). want.long && nat_lt f s.movable) same.1 in
        subst (λ (b : Bool). Invalidates s (pins s es a p handle page n want (got + 1 == n)).events (of_page b)) moves
        (then_clears (moves_first t want d) es d (headed s first before None none is))

    kept_so : (before : List CoreEvent) (e : Entry) → HasFrame (run s before) e → HasFrame (run s (raise_flag a p ∷ before)) e → Invalidates s before None → Invalidates s (pin_turn_by (Ok before) s a p handle page n got want fast).events (of_page (moves_first s want e))
    kept_so before e same later is = by_raise got fast
      where
        by_raise : (m : ℕ) (quick : Bool) → Invalidates s (pins s (raises a p m quick ++ before) a p handle page n want (got + 1 == n)).events (of_page (moves_first s want e))
        by_raise zero false = kept_by (raise_flag a p ∷ []) before e later (λ q g some. refl) is
        by_raise zero true = kept_by [] before e same (λ q g some. refl) is
        by_raise (suc m) quick = kept_by [] before e same (λ q g some. refl) is

    -- the entry changes where it is copied, and a frame is found for that, and where it isn't, but moves
    abbrev changes_by : (write : Bool) → (free : Option ℕ) → Entry → Bool
    changes_by write free e = cond (copies write e (s.mark e.frame) (s.count e.frame)) (is_some free) (moves_first s want e)

    -- a page with this entry, before a write pin
    module _ (e : Entry) (is : s.entry p page ≡ Some e) where
      same_frame : (entry_in (s.entry p page)).frame ≡ e.frame
      same_frame = ap (λ (o : Option Entry). (entry_in o).frame) is

      upgraded_frame : (entry_in (put2 p page (Some (entry_of e.frame true)) s.entry p page)).frame ≡ e.frame
      upgraded_frame = ap (λ (o : Option Entry). (entry_in o).frame) (put_here p page (Some (entry_of e.frame true)) s.entry)

      abbrev IsTurnBy : Fault → (changes : Bool) → Type 0
      IsTurnBy fault changes = Invalidates s (pin_turn_by fault s a p handle page n got want fast).events (of_page changes)

      abbrev moves : Bool
      moves = moves_first s want e

      broken_so : (writable : Bool) (free : Option ℕ) → IsTurnBy (breaks a p page e writable free) (is_some free)
      broken_so writable None = refused_so answers.NoFrame
      broken_so writable (Some f) =
          copied_so (take_frame a f ∷ break_entry a p page e.frame f e.writable writable ∷ put_entry a e.frame ∷ []) (λ q g some. or-false (has_page (one_page p page) q g))

      write_pinned : (mark : Bool) (count : ℕ) (free : Option ℕ) → IsTurnBy (makes_writable a p page e mark count free) (cond (not mark && not (count == 1)) (is_some free) moves)
      write_pinned true count free = kept_so (upgrade a p page e.frame ∷ []) e (refl, upgraded_frame) (refl, upgraded_frame) (λ q g some. refl)
      write_pinned false count free = by_count (count == 1)
        where
          by_count : (alone : Bool) → IsTurnBy (if alone then Ok (marks a p page e ++ upgrade a p page e.frame ∷ []) else breaks a p page e true free) (cond (not alone) (is_some free) moves)
          by_count true = kept_so (marks a p page e ++ upgrade a p page e.frame ∷ []) e (refl, upgraded_frame) (refl, upgraded_frame) (λ q g some. refl)
          by_count false = broken_so true free

      read_pinned : (mark : Bool) (count : ℕ) (free : Option ℕ) → IsTurnBy (unshares a p page e mark count free) (cond (not mark && not (count == 1)) (is_some free) moves)
      read_pinned true count free = kept_so [] e (refl, same_frame) (refl, same_frame) (λ q g some. refl)
      read_pinned false count free = by_count (count == 1)
        where
          by_count : (alone : Bool) → IsTurnBy (if alone then Ok (marks a p page e) else breaks a p page e false free) (cond (not alone) (is_some free) moves)
          by_count true = kept_so (marks a p page e) e (refl, same_frame) (refl, same_frame) (λ q g some. refl)
          by_count false = broken_so false free

      write_pinned_by : (writable : Bool) (free : Option ℕ) → IsTurnBy (if writable then Ok [] else makes_writable a p page e (s.mark e.frame) (s.count e.frame) free) (cond (not writable && (not (s.mark e.frame) && not (s.count e.frame == 1))) (is_some free) moves)
      write_pinned_by true free = kept_so [] e (refl, same_frame) (refl, same_frame) (λ q g some. refl)
      write_pinned_by false free = write_pinned (s.mark e.frame) (s.count e.frame) free

    abbrev IsTurn : (write : Bool) → Fault → Option Rights → Option Entry → (free : Option ℕ) → Type 0
    IsTurn write fault right entry free =
        Invalidates s (pin_turn_by fault s a p handle page n got want fast).events (of_page (changes_in (pin_denial write right) entry (changes_by write free)))

    write_turn : (right : Option Rights) (entry : Option Entry) (free : Option ℕ) → s.entry p page ≡ entry → IsTurn true (write_fault a p page right entry s.mark s.count free) right entry free
    write_turn None entry free is = refused_so answers.Missing
    write_turn (Some R) entry free is = refused_so answers.Forbidden
    write_turn (Some RW) None None is = refused_so answers.NoFrame
    write_turn (Some RW) None (Some f) is = filled_so (take_frame a f ∷ fill a p page f ∷ upgrade a p page f ∷ []) is (λ q g some. refl)
    write_turn (Some RW) (Some e) free is = write_pinned_by e is e.writable free

    read_turn : (right : Option Rights) (entry : Option Entry) (free : Option ℕ) → s.entry p page ≡ entry → IsTurn false (unshare_fault a p page right entry s.mark s.count free) right entry free
    read_turn None entry free is = refused_so answers.Missing
    read_turn (Some rights) None None is = refused_so answers.NoFrame
    read_turn (Some rights) None (Some f) is = filled_so (take_frame a f ∷ fill a p page f ∷ []) is (λ q g some. refl)
    read_turn (Some rights) (Some e) free is = read_pinned e is (s.mark e.frame) (s.count e.frame) free

    page_turn : (write : Bool) (free : Option ℕ) → IsTurn write (pin_fault s a p page write free) (s.right p page) (s.entry p page) free
    page_turn true free = write_turn (s.right p page) (s.entry p page) free refl
    page_turn false free = read_turn (s.right p page) (s.entry p page) free refl

  begun : (begins : Bool) (handle page n got : ℕ) (want : Want) (fast : Bool) → Invalidates s (begins_or_pins begins s a p handle page n got want fast).events (range_from p 1 (page_if (not begins && changes_page s p (page + got) want) (page + got)))
  begun true handle page n got want fast q g some = refl
  begun false handle page n got want fast q g some = page_turn handle (page + got) n got want fast want.write (frame_for s p (page + got) (zones_of want)) q g some

  -- ---- a page that is moved first

  restored : (handle page n got : ℕ) (want : Want) (e : Entry) (count : Counted) (answer : Answer) → Invalidates s (ends_moved a p handle page n got want e count answer).events None
  restored handle page n got want e count answer =
      ended (restore_entry a p page e (zones_of want) count ∷ []) handle n got answer None (λ q g some. refl)

  placed : (handle page n got : ℕ) (want : Want) (e : Entry) (free : Option ℕ) → Invalidates s (pins_moved a p handle page n got want e free).events None
  placed handle page n got want e None = restored handle page n got want e one answers.NoFrame
  placed handle page n got want e (Some f) = made (got + 1 == n) handle

  moved_none : (handle page n got : ℕ) (want : Want) (e : Entry) (count : Counted) → Invalidates s (moved_turn s a p handle page n got want e count).events None
  moved_none handle page n got want e unread = λ q g some. refl
  moved_none handle page n got want e one = placed handle page n got want e (free_in s (zones_of want))
  moved_none handle page n got want e (more count) = restored handle page n got want e (more count) (answers.Unmovable count)

  -- ---- a walk

  left_if : (over : Bool) (want : Want) (sequence : ℕ) → Invalidates s (leaves_if over a p want sequence) None
  left_if true want sequence q g some = refl
  left_if false want sequence q g some = refl

  -- what a walk reads down a path invalidates nothing

  led_down : (want : Want) (sequence page n : ℕ) (path : List ℕ) (next : Option ℕ) → ((table : ℕ) → Invalidates s (reads_on (tree_in s p) a p want.write want.long sequence page n (table ∷ path)) None) → Invalidates s (led_on (λ table. reads_on (tree_in s p) a p want.write want.long sequence page n (table ∷ path)) next) None
  led_down want sequence page n path None reads = λ q g some. refl
  led_down want sequence page n path (Some table) reads = reads table

  read_down : (want : Want) (sequence page n : ℕ) (path : List ℕ) → Invalidates s (reads_on (tree_in s p) a p want.write want.long sequence page n path) None
  read_down want sequence page zero path = λ q g some. refl
  read_down want sequence page (suc n) path =
      led_down want sequence page n path (link_at (tree_in s p) path page) (λ table. read_down want sequence page n (table ∷ path))

  walked : (handle page n : ℕ) (want : Want) (sequence : ℕ) (step : WalkStep) → Invalidates s (walk_turn s a p handle page n want sequence step).events None
  walked handle page n want sequence entered = left_if (is_odd (s.sequence p)) want (s.sequence p)
  walked handle page n want sequence ready = by_left (nat_lt (length (s.taken a)) n)
    where
      all_taken : (same : Bool) → Invalidates s (all_turn a p handle n want sequence (s.sequence p) same).events None
      all_taken true q g some = refl
      all_taken false q g some = refl

      by_left : (more : Bool) → Invalidates s (ready_turn s a p handle (page + length (s.taken a)) n want sequence more).events None
      by_left true = read_down want sequence (page + length (s.taken a)) 3 []
      by_left false = all_taken (s.sequence p == sequence)
  walked handle page n want sequence (read h path e) = by_count (s.count e.frame)
    where
      by_count : (count : ℕ) → Invalidates s (grab_turn a p want sequence h path e count).events None
      by_count zero q g some = refl
      by_count (suc count) q g some = refl
  walked handle page n want sequence (grabbed h path e) =
      by_entry (leads_still (tree_in s p) path h) (is_same e (entry_at (tree_in s p) path h))
    where
      by_entry : (leads same : Bool) → Invalidates s (recheck_turn a p want sequence h path e leads same).events None
      by_entry true true q g some = refl
      by_entry true false q g some = refl
      by_entry false same q g some = refl
  walked handle page n want sequence refused = by_last (split_last (s.taken a))
    where
      by_last : (last : Option (List Taken × Taken)) → Invalidates s (last_turn a p want sequence last).events None
      by_last None q g some = refl
      by_last (Some (rest, last)) q g some = refl
  walked handle page n want sequence stopped = left_if ((s.sequence p == sequence) || is_none_left (s.taken a)) want sequence
  walked handle page n want sequence dropping = by_first (s.taken a)
    where
      by_first : (taken : List Taken) → Invalidates s (first_turn a p want sequence taken).events None
      by_first [] q g some = refl
      by_first (t ∷ rest) q g some = left_if (is_none_left rest) want sequence q g some
  walked handle page n want sequence step = λ q g some. refl

  pub pin_invalidates : (handle page n got : ℕ) (want : Want) (fast : Bool) (far : ℕ) (job : Job) → Invalidates s (pin_turn_in s a p handle page n got want fast far job).events (range_from p 1 (pinned_in s p (page + got) want (fast && far == 0) job))
  pin_invalidates handle page n got want fast far (moving q g e allowed count) = moved_none handle (page + got) n got want e count
  pin_invalidates handle page n got want fast far (walking q write long sequence step) = walked handle page n want sequence step
  pin_invalidates handle page n got want fast far job = begun (fast && far == 0) handle page n got want fast
