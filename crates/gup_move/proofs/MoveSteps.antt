-- What a step of a move makes of frames and of the process is what its events say.
use Rattle.std.proofs.Common.{◌≡◌, ℕ, ◌≤◌, Bool, true, false, [], ◌∷◌, Option, Some, None, refl, ap, sym, ◌∙◌, arith}
use Rattle.std.specs.Prelude.{◌==◌, nat_lt, if◌then◌else◌}
use Rattle.std.proofs.lemmas.Bool.Decides.{nat_tests}
use Rattle.gup_base.specs.declared.entry.Allowed.{Allowed}
use Rattle.gup_base.specs.declared.entry.Entry.{Entry}
use Rattle.gup_base.specs.declared.entry.Allowed.TheVariants.{Any, Only}
use Rattle.gup_base.specs.declared.entry.Zone.TheVariants.{Movable, Normal}
use Rattle.gup_frames.specs.Frames.{FramesValue, free_frame, taken, copied, with_mark, without_references}
use Rattle.gup_bits.proofs.Lowest.{lowest_some}
use Rattle.gup_fault.proofs.Puts.{put_here, put_away}
use Rattle.gup_space.specs.Shows.{Change}
use Rattle.gup_space.specs.Space.{SpaceValue, with_entry}
use Rattle.gup_spec_events.specs.State.{Counted}
use Rattle.gup_spec_events.specs.Event.{clear_entry, count_moved, restore_entry, entry_of}
use Rattle.gup_move.specs.Moves.{with_table, AreMoveEvents, moved, IsOfZones, places}
use Rattle.gup_move.proofs.MoveAfter.{clearing, counting, restoring}
use Rattle.gup_move.proofs.MoveLemmas.{places_own, are_move_events}

abbrev pub change : (F F' : FramesValue) (S S' : SpaceValue) → Change
change F F' S S' = record { old_frames = F; new_frames = F'; old_space = S; new_space = S' }

pub cleared : (F : FramesValue) (S S' : SpaceValue) (a page : ℕ) (e : Entry) (allowed : Allowed) → S' ≡ with_entry page None S → AreMoveEvents (with_table (Some a) (change F F S S')) (λ p. clear_entry a p page e allowed ∷ [])
cleared F S S' a page e allowed space =
    are_move_events (with_table (Some a) (change F F S S')) (λ p. clear_entry a p page e allowed ∷ [])
    (λ p. record {
      own = (clearing a page e allowed, tt);
      frames = refl;
      space = ap (λ (x : SpaceValue). record x { table = Some a }) space;
    })

pub counted : (F : FramesValue) (S : SpaceValue) (a page : ℕ) (e : Entry) (allowed : Allowed) (count : ℕ) → AreMoveEvents (change F F S S) (λ p. count_moved a p page e allowed count ∷ [])
counted F S a page e allowed count =
    are_move_events (change F F S S) (λ p. count_moved a p page e allowed count ∷ [])
    (λ p. record { own = (counting a page e allowed count, tt); frames = refl; space = refl })

pub restored : (F : FramesValue) (S S' : SpaceValue) (a page : ℕ) (e : Entry) (allowed : Allowed) (count : Counted) → S' ≡ with_entry page (Some e) S → AreMoveEvents (with_table None (change F F S S')) (λ p. restore_entry a p page e allowed count ∷ [])
restored F S S' a page e allowed count space =
    are_move_events (with_table None (change F F S S')) (λ p. restore_entry a p page e allowed count ∷ [])
    (λ p. record {
      own = (restoring a page e allowed count, tt);
      frames = refl;
      space = ap (λ (x : SpaceValue). record x { table = None }) space;
    })

-- ---- the page is placed

-- a call that takes, copies, marks and gives back moves the frame
pub moved_frames : (F F1 F2 F' : FramesValue) (old f : ℕ) (marked : Bool) → (old ≡ f → ⊥) → F1 ≡ copied old f (taken f F) → marked ≡ F1.mark old → F2 ≡ with_mark f marked F1 → F' ≡ without_references old 1 F2 → F' ≡ moved old f F
moved_frames F F1 F2 F' old f marked apart took read set gave =
    gave
    ∙ ap (λ (x : FramesValue). without_references old 1 x)
    (set
    ∙ ap (λ (x : FramesValue). with_mark f marked x) took
    ∙ ap (λ (b : Bool). with_mark f b (copied old f (taken f F))) (read ∙ ap (λ (x : FramesValue). x.mark old) took ∙ put_away f old false F.mark apart))

-- the old frame still has its reference before it is given back, whatever was marked
pub still_held : (F F1 F2 : FramesValue) (old f : ℕ) → (old ≡ f → ⊥) → (F.count old ≡ 0 → ⊥) → F1 ≡ copied old f (taken f F) → F2.count ≡ F1.count → 1 ≤ F2.count old
still_held F F1 F2 old f apart held took set =
    let same : F2.count old ≡ F.count old =
    ap (λ (count : ℕ → ℕ). count old) (set ∙ ap (λ (x : FramesValue). x.count) took) ∙ put_away f old 1 F.count apart in
    grind (arith, held, same)

-- every word of the page stays
pub words_stay : (F F' : FramesValue) (old f w : ℕ) → (old ≡ f → ⊥) → F' ≡ moved old f F → F'.word f w ≡ F.word old w
words_stay F F' old f w apart frames =
    ap (λ (x : FramesValue). x.word f w) frames
    ∙ ap (λ (word : ℕ → ℕ). word w) (put_here f ((taken f F).word old) (taken f F).word ∙ put_away f old (λ _. 0) F.word apart)

-- the lowest free frame of the zones allowed is of these zones
pub is_of_zones : (F : FramesValue) (allowed : Allowed) (f : ℕ) → free_frame F allowed ≡ Some f → IsOfZones F allowed f
is_of_zones F Any f is = tt
is_of_zones F (Only Movable) f is =
    let found = lowest_some 0 F.movable (λ g. F.count g == 0) f is in
    let low : nat_lt f F.movable ≡ true = grind (arith, nat_tests, found.1) in
    ap (λ b. if b then Movable else Normal) low
is_of_zones F (Only Normal) f is =
    let found = lowest_some F.movable F.normal (λ g. F.count g == 0) f is in
    let high : nat_lt f F.movable ≡ false = grind (arith, nat_tests, found.0) in
    ap (λ b. if b then Movable else Normal) high

-- no frame is free
pub put_back : (F F' : FramesValue) (S S' : SpaceValue) (a page : ℕ) (e : Entry) (allowed : Allowed) (free : Option ℕ) → free ≡ None → F' ≡ F → S' ≡ with_entry page (Some e) S → AreMoveEvents (with_table None (change F F' S S')) (λ p. places a p page e allowed free)
put_back F F' S S' a page e allowed free none frames space =
    are_move_events (with_table None (change F F' S S')) (λ p. places a p page e allowed free)
    (λ p. record {
      own = places_own a p page e allowed free;
      frames = rw none frames;
      space = rw none (ap (λ (x : SpaceValue). record x { table = None }) space);
    })

-- the page is moved to frame f
pub placed : (F F' : FramesValue) (S S' : SpaceValue) (a page f : ℕ) (e : Entry) (allowed : Allowed) (free : Option ℕ) → free ≡ Some f → (e.frame ≡ f → ⊥) → F' ≡ moved e.frame f F → S' ≡ with_entry page (Some (entry_of f e.writable)) S → AreMoveEvents (with_table None (change F F' S S')) (λ p. places a p page e allowed free)
placed F F' S S' a page f e allowed free is apart frames space =
    are_move_events (with_table None (change F F' S S')) (λ p. places a p page e allowed free)
    (λ p. record {
      own = places_own a p page e allowed free;
      frames =
          rw is
          (frames
          ∙ ap (λ (b : Bool). without_references e.frame 1 (copied e.frame f (with_mark f b (taken f F))))
          (sym (put_away f e.frame false F.mark apart)));
      space = rw is (ap (λ (x : SpaceValue). record x { table = None }) space);
    })
