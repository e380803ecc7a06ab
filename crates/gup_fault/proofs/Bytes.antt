-- No byte changes where a page gets a frame of zeros, a copy, or keeps its frame.
use Rattle.std.proofs.Common.{◌≡◌, ℕ, Bool, Option, Some, None, refl, sym, ap, ◌∙◌, ⊎_elim}
use Rattle.std.proofs.lemmas.Bool.{cases_eq}
use Rattle.gup_base.specs.declared.entry.Entry.{Entry}
use Rattle.gup_plain.specs.Put.{put}
use Rattle.gup_frames.specs.Frames.{FramesValue}
use Rattle.gup_space.specs.Shows.{Change}
use Rattle.gup_spec_events.specs.Event.{entry_of}
use Rattle.gup_spec_events.specs.Invariant.{frame_of}
use Rattle.gup_fault.specs.Faults.{page_word, KeepsBytes}
use Rattle.gup_fault.proofs.Puts.{put_here, put_away}

-- the words of the frames that entries name stay
same_word : (frames other : FramesValue) (entry : Option Entry) (w : ℕ) → ((e : Entry) → entry ≡ Some e → other.word e.frame w ≡ frames.word e.frame w) → page_word other entry w ≡ page_word frames entry w
same_word frames other None w same = refl
same_word frames other (Some e) w same = same e refl

-- a word of two frames that are entries' of one page
word_by_frame : (frames : FramesValue) (entry other : Option Entry) (w : ℕ) → frame_of other ≡ frame_of entry → page_word frames other w ≡ page_word frames entry w
word_by_frame frames None None w same = refl
word_by_frame frames None (Some e) w same = absurd (cc)
word_by_frame frames (Some d) None w same = absurd (cc)
word_by_frame frames (Some d) (Some e) w same = let is : e.frame ≡ d.frame = cc in ap (λ f. frames.word f w) is

-- each entry keeps its frame, and words stay
pub keeps_frames : (c : Change) → c.new_frames.word ≡ c.old_frames.word → ((g : ℕ) → frame_of (c.new_space.entry g) ≡ frame_of (c.old_space.entry g)) → KeepsBytes c
keeps_frames c words same =
    record {
      frames = λ f w held. ap (λ word. word f w) words;
      pages = λ g w counted.
          same_word c.old_frames c.new_frames (c.new_space.entry g) w (λ e is. ap (λ word. word e.frame w) words)
          ∙ word_by_frame c.old_frames (c.old_space.entry g) (c.new_space.entry g) w (same g);
    }

-- One page gets another frame, which was free, and that has the words that the page had.
pub keeps_replaced : (c : Change) (page f : ℕ) (b : Bool) → c.old_frames.count f ≡ 0 → ((g w : ℕ) → (g ≡ f → ⊥) → c.new_frames.word g w ≡ c.old_frames.word g w) → c.new_space.entry ≡ put page (Some (entry_of f b)) c.old_space.entry → ((w : ℕ) → c.new_frames.word f w ≡ page_word c.old_frames (c.old_space.entry page) w) → KeepsBytes c
keeps_replaced c page f b free others entries words =
    let held_stays : (g w : ℕ) → (c.old_frames.count g ≡ 0 → ⊥) → c.new_frames.word g w ≡ c.old_frames.word g w =
    λ g w held. others g w (λ e. held (ap c.old_frames.count e ∙ free)) in
    record {
      frames = held_stays;
      pages = λ g w counted.
          ⊎_elim
          (λ (e : g ≡ page).
          let now : c.new_space.entry g ≡ Some (entry_of f b) = ap c.new_space.entry e ∙ ap (λ entry. entry page) entries ∙ put_here page (Some (entry_of f b)) c.old_space.entry in
          ap (λ entry. page_word c.new_frames entry w) now ∙ words w ∙ ap (λ h. page_word c.old_frames (c.old_space.entry h) w) (sym e))
          (λ (e : g ≡ page → ⊥).
          let now : c.new_space.entry g ≡ c.old_space.entry g = ap (λ entry. entry g) entries ∙ put_away page g (Some (entry_of f b)) c.old_space.entry e in
          ap (λ entry. page_word c.new_frames entry w) now
          ∙ same_word c.old_frames c.new_frames (c.old_space.entry g) w (λ d is. held_stays d.frame w (counted g d is)))
          (cases_eq g page);
    }
