-- What a copy makes of frames and of the child is what its events say.
use Rattle.std.proofs.Common.{◌≡◌, ℕ, true, List, [], ◌∷◌, Option, Some, None, refl, ap, sym, ◌∙◌}
use Rattle.gup_base.specs.declared.entry.Entry.{Entry}
use Rattle.gup_base.specs.declared.entry.Rights.{Rights}
use Rattle.gup_frames.specs.Frames.{FramesValue, with_mark, with_word}
use Rattle.gup_space.specs.Space.{SpaceValue, with_entry}
use Rattle.gup_space.proofs.ShowsLemmas.{same_shown}
use Rattle.gup_spec_events.specs.Event.{copy_word, place_child, entry_of, is_writable}
use Rattle.gup_fork.specs.Forks.{with_table, AreForkEvents}
use Rattle.gup_fork.proofs.ForkAfter.{writing, placing}
use Rattle.gup_fork.proofs.ForkLemmas.{are_shown_fork_events}
use Rattle.gup_fork.proofs.Steps.{change, same_frame}

-- the word read is the one of the page's frame
pub of_its_frame : (F F' : FramesValue) (entry : Option Entry) (e d : Entry) (word to value : ℕ) → entry ≡ Some e → entry ≡ Some d → value ≡ F.word e.frame word → F' ≡ with_word to word value F → F' ≡ with_word to word (F.word d.frame word) F
of_its_frame F F' entry e d word to value one other read frames =
    frames ∙ ap (λ v. with_word to word v F) (read ∙ ap (λ f. F.word f word) (sym (same_frame entry e d one other)))

pub word_copied : (F F' : FramesValue) (P C : SpaceValue) (a : ℕ) (done : List ℕ) (page word to : ℕ) (e : Entry) → F' ≡ with_word to word (F.word e.frame word) F → AreForkEvents (change F F' P P C C) (λ p c. copy_word a p c done page word to e ∷ [])
word_copied F F' P C a done page word to e frames =
    are_shown_fork_events (change F F' P P C C) a (λ p c. copy_word a p c done page word to e ∷ [])
    (λ p c. record {
      own = (writing done page word to e, tt);
      frames = frames;
      parent = refl;
      child = same_shown C C refl;
    })

pub copy_placed : (F F' : FramesValue) (P C C' : SpaceValue) (a : ℕ) (done : List ℕ) (page copy : ℕ) (rights : Rights) → F' ≡ with_mark copy true F → C' ≡ with_entry page (Some (entry_of copy (is_writable rights))) C → AreForkEvents (with_table None (change F F' P P C C')) (λ p c. place_child a p c done page copy rights ∷ [])
copy_placed F F' P C C' a done page copy rights frames child =
    are_shown_fork_events (with_table None (change F F' P P C C')) a (λ p c. place_child a p c done page copy rights ∷ [])
    (λ p c. record {
      own = (placing done page copy rights, tt);
      frames = frames;
      parent = refl;
      child = same_shown (with_entry page (Some (entry_of copy (is_writable rights))) C) C' (sym child);
    })
