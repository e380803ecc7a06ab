-- The free frames of a machine are those of each state that it shows.
use Rattle.std.proofs.Common.{◌≡◌, ℕ, zero, suc, ◌+◌, ◌==◌, if◌then◌else◌, refl, sym, ap, ◌∙◌}
use Rattle.gup_base.specs.declared.entry.Zone.{Zone}
use Rattle.gup_base.specs.declared.entry.Zone.TheVariants.{Movable, Normal}
use Rattle.gup_frames.specs.Frames.{FramesValue, free_in, free_of}
use Rattle.gup_space.specs.Shows.{ShowsFrames}
use Rattle.gup_spec_events.specs.State.{CoreState}
use Rattle.gup_core.specs.Machine.{free_frames_in}

same_free : (F G : FramesValue) (first n : ℕ) → ((f : ℕ) → F.count f ≡ G.count f) → free_in F first n ≡ free_in G first n
same_free F G first zero same = refl
same_free F G first (suc n) same =
    ap (λ k. (if k == 0 then 1 else 0) + free_in F (first + 1) n) (same first)
    ∙ ap (λ k. (if G.count first == 0 then 1 else 0) + k) (same_free F G (first + 1) n same)

pub free_shown : (F : FramesValue) (s : CoreState) (zone : Zone) → ShowsFrames F s → free_of F zone ≡ free_frames_in s zone
free_shown F s Movable h =
    let G : FramesValue = record { movable = s.movable; normal = s.normal; count = s.count; mark = s.mark; word = s.word } in
    same_free F G 0 F.movable (λ f. sym (h.count f)) ∙ ap (λ n. free_in G 0 n) (sym h.movable)
free_shown F s Normal h =
    let G : FramesValue = record { movable = s.movable; normal = s.normal; count = s.count; mark = s.mark; word = s.word } in
    same_free F G F.movable F.normal (λ f. sym (h.count f))
    ∙ ap (λ first. free_in G first F.normal) (sym h.movable) ∙ ap (λ n. free_in G s.movable n) (sym h.normal)
