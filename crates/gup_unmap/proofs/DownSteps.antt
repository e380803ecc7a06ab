-- What taking a page down makes of frames and a process is what its events say.
use Rattle.std.proofs.Common.{◌≡◌, ℕ, ◌-◌, true, false, [], ◌∷◌, Option, Some, None, is_some, ◌≤◌, refl, sym, ap, subst, ◌∙◌, arith}
use Rattle.std.proofs.lemmas.Bool.Decides.{nat_tests}
use Rattle.gup_base.specs.declared.entry.Entry.{Entry}
use Rattle.gup_base.specs.declared.entry.Rights.{Rights}
use Rattle.gup_plain.specs.Put.{put}
use Rattle.gup_frames.specs.Frames.{FramesValue, without_references}
use Rattle.gup_space.specs.Space.{SpaceValue, with_entry, without_page}
use Rattle.gup_space.specs.Shows.{Change, unlocked, AreEvents}
use Rattle.gup_space.proofs.After.{dropping, discarding, putting, IsShownAs}
use Rattle.gup_space.proofs.ShowsLemmas.{are_events, same_shown}
use Rattle.gup_spec_events.specs.Event.{drop_entry, discard_entry, put_entry}
use Rattle.gup_spec_events.specs.Fault.{takes_down, discards}

abbrev pub ch : (F F' : FramesValue) (S S' : SpaceValue) → Change
ch F F' S S' = record { old_frames = F; new_frames = F'; old_space = S; new_space = S' }

-- a place that has nothing loses nothing
lose_nothing : {X : Type 0} (k : ℕ) (f : ℕ → Option X) (g : ℕ) → f k ≡ None → put k None f g ≡ f g
lose_nothing k f g none = grind (arith, nat_tests)

-- ---- unmap

pub unmapped : (F : FramesValue) (S S' : SpaceValue) (page : ℕ) (right : Option Rights) (entry : Option Entry) → S.right page ≡ right → is_some right ≡ false → S' ≡ without_page page S → AreEvents (ch F F S S') (λ a p. takes_down a p page right entry)
unmapped F S S' page (Some rights) entry had none space = absurd (cc)
unmapped F S S' page None entry had none space =
    are_events (ch F F S S') (λ a p. [])
    (λ a p. record {
      own = tt;
      frames = refl;
      space =
          subst (λ (x : SpaceValue). IsShownAs (unlocked S) (unlocked x)) (sym space)
          (record {
            right = λ g. sym (lose_nothing page S.right g had);
            pages = let gone : is_some (S.right page) ≡ false = ap is_some had in rw gone (omega arith);
            entry = λ g. refl;
            sequence = refl;
            has_pinned = refl;
            structure = refl;
            table = refl;
            walks = refl;
            place = refl;
            retired = refl;
          });
      table = ap (λ (x : SpaceValue). x.table) space;
    })

pub unmapped_empty : (F : FramesValue) (S S' : SpaceValue) (page : ℕ) (right : Option Rights) (entry : Option Entry) → S.right page ≡ right → is_some right ≡ true → S.entry page ≡ entry → entry ≡ None → S' ≡ without_page page S → AreEvents (ch F F S S') (λ a p. takes_down a p page right entry)
unmapped_empty F S S' page None entry had some found none space = absurd (cc)
unmapped_empty F S S' page (Some rights) (Some e) had some found none space = absurd (cc)
unmapped_empty F S S' page (Some rights) None had some found none space =
    are_events (ch F F S S') (λ a p. drop_entry a p page None ∷ [])
    (λ a p. record {
      own = (dropping a page None, tt);
      frames = refl;
      space =
          subst (λ (x : SpaceValue). IsShownAs (record (with_entry page None (unlocked S)) { right = put page None S.right; pages = S.pages - 1 }) (unlocked x)) (sym space)
          (record {
            right = λ g. refl;
            pages = let here : is_some (S.right page) ≡ true = ap is_some had in rw here refl;
            entry = λ g. lose_nothing page S.entry g found;
            sequence = refl;
            has_pinned = refl;
            structure = refl;
            table = refl;
            walks = refl;
            place = refl;
            retired = refl;
          });
      table = ap (λ (x : SpaceValue). x.table) space;
    })

pub unmapped_entry : (F F' : FramesValue) (S S1 S' : SpaceValue) (page : ℕ) (right : Option Rights) (entry : Option Entry) (e : Entry) → S.right page ≡ right → is_some right ≡ true → entry ≡ Some e → S1 ≡ without_page page S → S' ≡ with_entry page None S1 → F' ≡ without_references e.frame 1 F → AreEvents (ch F F' S S') (λ a p. takes_down a p page right entry)
unmapped_entry F F' S S1 S' page None entry e had some found first space frames = absurd (cc)
unmapped_entry F F' S S1 S' page (Some rights) None e had some found first space frames = absurd (cc)
unmapped_entry F F' S S1 S' page (Some rights) (Some d) e had some found first space frames =
    let same : d.frame ≡ e.frame = cc in
    are_events (ch F F' S S') (λ a p. drop_entry a p page (Some d) ∷ put_entry a d.frame ∷ [])
    (λ a p. record {
      own = (dropping a page (Some d), (putting a d.frame, tt));
      frames = frames ∙ ap (λ f. without_references f 1 F) (sym same);
      space =
          subst (λ (x : SpaceValue). IsShownAs (record (with_entry page None (unlocked S)) { right = put page None S.right; pages = S.pages - 1 }) (unlocked x)) (sym (space ∙ ap (λ (x : SpaceValue). with_entry page None x) first))
          (record {
            right = λ g. refl;
            pages = let here : is_some (S.right page) ≡ true = ap is_some had in rw here refl;
            entry = λ g. refl;
            sequence = refl;
            has_pinned = refl;
            structure = refl;
            table = refl;
            walks = refl;
            place = refl;
            retired = refl;
          });
      table = ap (λ (x : SpaceValue). x.table) (space ∙ ap (λ (x : SpaceValue). with_entry page None x) first);
    })

-- ---- discard

pub discarded_entry : (F F' : FramesValue) (S S' : SpaceValue) (page : ℕ) (right : Option Rights) (entry : Option Entry) (e : Entry) → is_some right ≡ true → entry ≡ Some e → S' ≡ with_entry page None S → F' ≡ without_references e.frame 1 F → AreEvents (ch F F' S S') (λ a p. discards a p page right entry)
discarded_entry F F' S S' page None entry e some found space frames = absurd (cc)
discarded_entry F F' S S' page (Some rights) None e some found space frames = absurd (cc)
discarded_entry F F' S S' page (Some rights) (Some d) e some found space frames =
    let same : d.frame ≡ e.frame = cc in
    are_events (ch F F' S S') (λ a p. discard_entry a p page (Some d) ∷ put_entry a d.frame ∷ [])
    (λ a p. record {
      own = (discarding a page (Some d), (putting a d.frame, tt));
      frames = frames ∙ ap (λ f. without_references f 1 F) (sym same);
      space = same_shown (unlocked (with_entry page None S)) (unlocked S') (ap unlocked (sym space));
      table = ap (λ (x : SpaceValue). x.table) space;
    })

-- words stay
pub words_stay : (F F' : FramesValue) (g : ℕ) → F' ≡ without_references g 1 F → (f w : ℕ) → F'.word f w ≡ F.word f w
words_stay F F' g frames f w = ap (λ (x : FramesValue). x.word f w) frames

pub some_held : (count : ℕ) → (count ≡ 0 → ⊥) → 1 ≤ count
some_held count held = omega arith
