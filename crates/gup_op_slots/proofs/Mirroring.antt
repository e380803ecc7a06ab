-- What a mirror makes of frames, a process and mirror slots is the turn's.
use Rattle.std.proofs.Common.{◌≡◌, ℕ, List, [], ◌∷◌, ◌++◌, Option, Some, None, IsSome, Ok, Err, refl, sym, ap, ◌∙◌, subst}
use Rattle.gup_base.specs.declared.entry.Allowed.TheVariants.{Any}
use Rattle.gup_base.specs.declared.entry.Entry.{Entry}
use Rattle.gup_base.specs.declared.entry.Rights.{Rights}
use Rattle.gup_plain.specs.declared.answer.Answer.{Answer}
use Rattle.gup_plain.specs.declared.answer.Answer.TheVariants as answers
use Rattle.gup_plain.specs.declared.event.PlainEvent.TheVariants as events
use Rattle.gup_plain.specs.declared.note.What.TheVariants.{Event, Done}
use Rattle.gup_plain.specs.State.{Noted}
use Rattle.gup_frames.specs.Frames.{FramesValue}
use Rattle.gup_space.specs.Found.{found_for}
use Rattle.gup_space.specs.Space.{SpaceValue}
use Rattle.gup_space.specs.Shows.{Change, ShowsFrames, ShowsSpace}
use Rattle.gup_space.proofs.ShowsLemmas.{events_lead}
use Rattle.gup_notify.specs.Mirrors.{MirrorsValue}
use Rattle.gup_notify.specs.Shows.{IsMirror, ShowsMirrors, IsEvent}
use Rattle.gup_spec_events.specs.State.{CoreState}
use Rattle.gup_spec_events.specs.Event.{CoreEvent, happens, run, fill_mirror}
use Rattle.gup_spec_events.specs.Fault.{Fault, events_of, refusal_of, read_fault}
use Rattle.gup_spec_turns.specs.CoreTurn.{CoreTurn, entry_in, after_fault}
use Rattle.gup_spec_turns.specs.PageTurns.{load_fault}
use Rattle.gup_spec_turns.specs.MirrorTurns.{fills, mirror_turn}
use Rattle.gup_op_base.specs.Tidy.{IsTidy}
use Rattle.gup_op_base.specs.Turns.{Leads, IsTurnOf, Anywhere}
use Rattle.gup_op_base.proofs.Leading.{leads_alike}
use Rattle.gup_op_pages.proofs.Loading.{LoadFault, read_fault_same}
use Rattle.gup_op_slots.specs.Mirroring.{MirroringView, ShowsMirroring}
use Rattle.gup_spec_events.proofs.Runs.{run_behind}

abbrev pub view : FramesValue → SpaceValue → MirrorsValue → MirroringView
view F S M = record { frames = F; space = S; mirrors = M }

-- ---- the fault of a mirror

-- what is read of frames and a process, which is a load's, whether the page has an entry or not
abbrev pub fault_to_mirror : Change → (a p page : ℕ) → Fault
fault_to_mirror c a p page = read_fault a p page (c.old_space.right page) (c.old_space.entry page) (found_for c.old_frames c.old_space page Any)

-- a state's fault is that one
mirror_fault_same : (c : Change) (a p page : ℕ) (s : CoreState) → IsTidy c.old_frames c.old_space → ShowsFrames c.old_frames s → ShowsSpace p c.old_space s
    → load_fault s a p page (s.entry p page) ≡ fault_to_mirror c a p page
mirror_fault_same c a p page s tidy frames space = go (c.old_space.entry page) refl
  where
    present : (e : Entry) (rights : Option Rights) → IsSome rights → Ok [] ≡ read_fault a p page rights (Some e) (found_for c.old_frames c.old_space page Any)
    present e None none = absurd (cc)
    present e (Some rights) some = refl

    go : (o : Option Entry) → c.old_space.entry page ≡ o → load_fault s a p page (s.entry p page) ≡ fault_to_mirror c a p page
    go None is = read_fault_same c.old_frames c.old_space a p page s is frames space
    go (Some e) is =
        ap (λ o. load_fault s a p page o) (space.entry page ∙ is)
        ∙ present e (c.old_space.right page) (tidy.mapped page e is)
        ∙ ap (λ o. read_fault a p page (c.old_space.right page) o (found_for c.old_frames c.old_space page Any)) (sym is)

-- and its events leave all slots
abbrev pub KeepsSlots : (s t : CoreState) → Type 0
KeepsSlots s t = (t.mirrored ≡ s.mirrored) × (t.slot ≡ s.slot)

fault_keeps : (a p page : ℕ) (rights : Option Rights) (entry : Option Entry) (free : Option ℕ) (s : CoreState) → KeepsSlots s (run s (events_of (read_fault a p page rights entry free)))
fault_keeps a p page None entry free s = (refl, refl)
fault_keeps a p page (Some rights) None None s = (refl, refl)
fault_keeps a p page (Some rights) None (Some f) s = (refl, refl)
fault_keeps a p page (Some rights) (Some e) free s = (refl, refl)

slots_shown : (M : MirrorsValue) (s t : CoreState) → KeepsSlots s t → ShowsMirrors M s → ShowsMirrors M t
slots_shown M s t kept shown m =
    subst (λ (frames : ℕ → Option ℕ). IsMirror (M m) (frames m) (t.slot m)) (sym kept.0)
    (subst (λ (noted : ℕ → Option Noted). IsMirror (M m) (s.mirrored m) (noted m)) (sym kept.1) (shown m))

-- ---- mirror

entry_some : (o : Option Entry) → IsSome o → o ≡ Some (entry_in o)
entry_some None none = absurd (cc)
entry_some (Some e) some = refl

-- the call fills the slot with the entry that the page has
abbrev pub IsFilled : (old new : MirrorsValue) → Option Entry → (a p mirror page : ℕ) → Type 0
IsFilled old new entry a p mirror page =
    (e : Entry) → entry ≡ Some e → IsEvent old new (fill_mirror a mirror p page e.frame e.writable)

-- the slot after events that lead there
fill_behind : (new : MirroringView) (M : MirrorsValue) (a p mirror page : ℕ) (es : List CoreEvent) (s : CoreState) → IsSome (new.space.entry page) → IsFilled M new.mirrors (new.space.entry page) a p mirror page
    → ShowsFrames new.frames (run s es) → ShowsSpace p new.space (run s es) → ShowsMirrors M (run s es)
    → Leads (ShowsMirroring p) new s (fills s es a p mirror page) (Event (events.MirrorFill a mirror p page) ∷ Done answers.Plain ∷ [])
fill_behind new M a p mirror page es s some filled frames space mirrors =
    let t : CoreState = run s es in
    let e : Entry = entry_in (t.entry p page) in
    let found : new.space.entry page ≡ Some e = entry_some (new.space.entry page) some ∙ ap (λ o. Some (entry_in o)) (sym (space.entry page)) in
    let u : CoreState = happens t (fill_mirror a mirror p page e.frame e.writable) in
    let after : run s (es ++ fill_mirror a mirror p page e.frame e.writable ∷ []) ≡ u = run_behind s es (fill_mirror a mirror p page e.frame e.writable ∷ []) in
    record {
      says = refl;
      shown =
          subst (λ (x : CoreState). ShowsMirroring p new x) (sym after)
          (record {
            frames = record { movable = frames.movable; normal = frames.normal; count = frames.count; mark = frames.mark; word = frames.word; needs_tables = frames.needs_tables };
            space = record { right = space.right; pages = space.pages; entry = space.entry; sequence = space.sequence; has_pinned = space.has_pinned; structure = space.structure; table = space.table; walks = space.walks; place = space.place; retired = space.retired };
            mirrors = filled e found t mirrors;
          });
    }

-- what a fault comes to
abbrev pub fills_after : CoreState → Fault → (a p mirror page : ℕ) → CoreTurn
fills_after s fault a p mirror page = after_fault fault (λ before. fills s before a p mirror page)

fill_after : (new : MirroringView) (M : MirrorsValue) (fault : Fault) (a p mirror page : ℕ) (s : CoreState) → refusal_of fault ≡ None → IsSome (new.space.entry page) → IsFilled M new.mirrors (new.space.entry page) a p mirror page
    → ShowsFrames new.frames (run s (events_of fault)) → ShowsSpace p new.space (run s (events_of fault)) → ShowsMirrors M (run s (events_of fault))
    → Leads (ShowsMirroring p) new s (fills_after s fault a p mirror page) (Event (events.MirrorFill a mirror p page) ∷ Done answers.Plain ∷ [])
fill_after new M (Ok es) a p mirror page s unrefused some filled frames space mirrors = fill_behind new M a p mirror page es s some filled frames space mirrors
fill_after new M (Err answer) a p mirror page s refused some filled frames space mirrors = absurd (cc)

pub slot_filled : (c : Change) (M M' : MirrorsValue) (a p mirror page : ℕ) → IsTidy c.old_frames c.old_space → c.old_space.table ≡ None → LoadFault c page None → IsSome (c.new_space.entry page)
    → IsFilled M M' (c.new_space.entry page) a p mirror page
    → IsTurnOf (ShowsMirroring p) Anywhere (view c.old_frames c.old_space M) (view c.new_frames c.new_space M') (λ s. mirror_turn s a p mirror page (s.entry p page))
    (Event (events.MirrorFill a mirror p page) ∷ Done answers.Plain ∷ [])
slot_filled c M M' a p mirror page tidy unlocked fault some filled s shown stands =
    let led = events_lead fault.events s a p shown.frames shown.space (shown.space.table ∙ unlocked) in
    let kept = fault_keeps a p page (c.old_space.right page) (c.old_space.entry page) (found_for c.old_frames c.old_space page Any) s in
    leads_alike (ap (λ (x : Fault). fills_after s x a p mirror page) (mirror_fault_same c a p page s tidy shown.frames shown.space))
    (fill_after (view c.new_frames c.new_space M') M (fault_to_mirror c a p page) a p mirror page s (fault.refused a p) some filled led.0 led.1
    (slots_shown M s (run s (events_of (fault_to_mirror c a p page))) kept shown.mirrors))

-- the page is refused
fill_denied : (new : MirroringView) (fault : Fault) (answer : Answer) (a p mirror page : ℕ) (s : CoreState) → refusal_of fault ≡ Some answer → ShowsMirroring p new s
    → Leads (ShowsMirroring p) new s (fills_after s fault a p mirror page) (Done answer ∷ [])
fill_denied new (Ok es) answer a p mirror page s unrefused shown = absurd (cc)
fill_denied new (Err denied) answer a p mirror page s refused shown =
    let same : denied ≡ answer = cc in
    record { says = ap (λ (x : Answer). Done x ∷ []) same; shown = shown }

pub mirror_refused : (c : Change) (M : MirrorsValue) (a p mirror page : ℕ) (answer : Answer) → IsTidy c.old_frames c.old_space → LoadFault c page (Some answer)
    → IsTurnOf (ShowsMirroring p) Anywhere (view c.old_frames c.old_space M) (view c.new_frames c.new_space M) (λ s. mirror_turn s a p mirror page (s.entry p page)) (Done answer ∷ [])
mirror_refused c M a p mirror page answer tidy fault s shown stands =
    let same = fault.unchanged answer refl in
    leads_alike (ap (λ (x : Fault). fills_after s x a p mirror page) (mirror_fault_same c a p page s tidy shown.frames shown.space))
    (fill_denied (view c.new_frames c.new_space M) (fault_to_mirror c a p page) answer a p mirror page s (fault.refused a p)
    (record {
      frames = subst (λ (x : FramesValue). ShowsFrames x s) (sym same.0) shown.frames;
      space = subst (λ (x : SpaceValue). ShowsSpace p x s) (sym same.1) shown.space;
      mirrors = shown.mirrors;
    }))
