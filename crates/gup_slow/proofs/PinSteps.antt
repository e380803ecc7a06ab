-- What a slow pin, or a reference that is got, makes of frames and a process is what its events say.
use Rattle.std.proofs.Common.{◌≡◌, ℕ, true, Option, Some, None, refl, sym, ap, subst, Bool, ◌∙◌, arith}
use Rattle.std.proofs.lemmas.Bool.Decides.{nat_tests}
use Rattle.gup_base.specs.declared.entry.Entry.{Entry}
use Rattle.gup_base.specs.declared.entry.Want.{Want}
use Rattle.gup_frames.specs.Frames.{FramesValue, with_references}
use Rattle.gup_space.specs.Space.{SpaceValue}
use Rattle.gup_space.specs.Shows.{Change, ShowsFrames, ShowsSpace, unlocked, AreEvents}
use Rattle.gup_spec_events.specs.State.{CoreState}
use Rattle.gup_spec_events.specs.Event.{happens, raise_flag, pin_page, get_reference}
use Rattle.gup_space.proofs.After.{getting}
use Rattle.gup_space.proofs.ShowsLemmas as spaces
use Rattle.gup_slow.specs.Pins.{pins, gets}

abbrev ch : (F F' : FramesValue) (S S' : SpaceValue) → Change
ch F F' S S' = record { old_frames = F; new_frames = F'; old_space = S; new_space = S' }

shows_frames : (F : FramesValue) (s : CoreState) (a p page : ℕ) (e : Entry) (write long : Bool) → ShowsFrames F s → ShowsFrames (with_references e.frame 1024 F) (happens (happens s (raise_flag a p)) (pin_page a p page e write long))
shows_frames F s a p page e write long h =
    record { movable = h.movable; normal = h.normal; count = λ g. grind (arith, nat_tests, h.count g, h.count e.frame); mark = h.mark; word = h.word; needs_tables = h.needs_tables }

shows_space : (S : SpaceValue) (s : CoreState) (a p page : ℕ) (e : Entry) (write long : Bool) → ShowsSpace p (unlocked S) s → ShowsSpace p (unlocked (record S { has_pinned = true })) (happens (happens s (raise_flag a p)) (pin_page a p page e write long))
shows_space S s a p page e write long h =
    record { right = h.right; pages = h.pages; entry = h.entry; sequence = h.sequence; has_pinned = grind (arith, nat_tests); structure = h.structure; table = h.table; walks = h.walks; place = h.place; retired = h.retired }

pub pinned : (F F' : FramesValue) (S S' : SpaceValue) (page : ℕ) (want : Want) (entry : Option Entry) (e : Entry) → entry ≡ Some e → S' ≡ record S { has_pinned = true } → F' ≡ with_references e.frame 1024 F → AreEvents (ch F F' S S') (λ a p. pins a p page entry want)
pinned F F' S S' page want None e is space frames = absurd (cc)
pinned F F' S S' page want (Some d) e is space frames =
    let same : d.frame ≡ e.frame = cc in
    record {
      table = ap (λ (x : SpaceValue). x.table) space;
      lead = λ s a p old_frames old_space.
          let after : CoreState = happens (happens s (raise_flag a p)) (pin_page a p page d want.write want.long) in (
            subst (λ (f : FramesValue). ShowsFrames f after) (sym (frames ∙ ap (λ f. with_references f 1024 F) (sym same)))
                (shows_frames F s a p page d want.write want.long old_frames),
            subst (λ (x : SpaceValue). ShowsSpace p (unlocked x) after) (sym space)
                (shows_space S s a p page d want.write want.long old_space),
          );
    }

pub referred : (F F' : FramesValue) (S : SpaceValue) (page k : ℕ) (entry : Option Entry) (e : Entry) → entry ≡ Some e → F' ≡ with_references e.frame 1 F → AreEvents (ch F F' S S) (λ a p. gets a p page entry k)
referred F F' S page k None e is frames = absurd (cc)
referred F F' S page k (Some d) e is frames =
    let same : d.frame ≡ e.frame = cc in
    record {
      table = refl;
      lead = λ s a p old_frames old_space.
          let after : CoreState = happens s (get_reference a p page d.frame k d.writable) in (
            subst (λ (f : FramesValue). ShowsFrames f after) (sym (frames ∙ ap (λ f. with_references f 1 F) (sym same)))
                (spaces.shows_frames p F s (getting a page d.frame k d.writable) old_frames),
            spaces.shows_space p (unlocked S) s (getting a page d.frame k d.writable) old_space,
          );
    }
