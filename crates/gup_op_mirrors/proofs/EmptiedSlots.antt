-- Which slots are left where those of the pages are emptied that a turn invalidates.
use Rattle.std.proofs.Common.{◌≡◌, ℕ, ◌+◌, ◌<◌, ◌==◌, ◌&&◌, Bool, true, false, if◌then◌else◌, List, [], ◌∷◌, suc, Option, Some, None, IsSome, refl, sym, ap, ◌∙◌, subst, nat_le, nat_lt, length, slice_get, inl, inr, arith}
use Rattle.std.proofs.lemmas.Option.{slice_get_cases}
use Rattle.gup_base.specs.Parts.{words_of, word_at}
use Rattle.gup_base.specs.declared.entry.Entry.{Entry}
use Rattle.gup_plain.specs.Denial.{is_held_by, transfer_denial}
use Rattle.gup_plain.specs.Put.{within}
use Rattle.gup_script.specs.declared.op.Op.{Op}
use Rattle.gup_script.specs.declared.op.Op.TheVariants.{Unpin, Give, Take, Transfer, Look}
use Rattle.gup_spec_events.specs.State.{CoreState, Taken}
use Rattle.gup_spec_events.specs.Event.{CoreEvent, taken_frames}
use Rattle.gup_spec_events.specs.Invariant.{frame_of}
use Rattle.gup_law_base.specs.Sound.{IsSound}
use Rattle.gup_spec_turns.specs.Emptying.{has_page, invalidate, left_in}
use Rattle.gup_spec_turns.specs.Turn.{op_turn}
use Rattle.gup_notify.specs.Mirrors.{Filled, MirrorsValue, is_of, without}
use Rattle.gup_notify.specs.Shows.{IsMirror, ShowsMirrors}
use Rattle.gup_law_turns.proofs.MirrorOps.{look_none}
use Rattle.gup_law_mirrors.proofs.InvalidatingTurns.{unpinned_none, given_none, transferred}
use Rattle.gup_op_waits.specs.Doers.{HasProcess}

-- each page that is taken has a frame
pub length_frames : (taken : List Taken) → length (taken_frames taken) ≡ length taken
length_frames [] = refl
length_frames (t ∷ taken) = ap (λ n. suc n) (length_frames taken)

-- a filled slot's page has an entry
pub has_entry : (s : CoreState) (mirrors : MirrorsValue) → IsSound s → ShowsMirrors mirrors s → (m : ℕ) (filled : Filled) → mirrors m ≡ Some filled → IsSome (s.entry filled.proc filled.page)
has_entry s mirrors sound shown m filled is = go (subst (λ (o : Option Filled). IsMirror o (s.mirrored m) (s.slot m)) is (shown m))
  where
    some : (o : Option Entry) → frame_of o ≡ Some filled.frame → IsSome o
    some None none = absurd (cc none)
    some (Some e) found = refl

    go : IsMirror (Some filled) (s.mirrored m) (s.slot m) → IsSome (s.entry filled.proc filled.page)
    go (frame, (it, noted, proc, page)) =
        some (s.entry filled.proc filled.page)
        (ap (λ (p : ℕ). frame_of (s.entry p filled.page)) (sym proc) ∙ ap (λ (g : ℕ). frame_of (s.entry it.proc g)) (sym page)
        ∙ sound.1.mirror_entry m filled.frame it frame noted)

-- what is left of slots, by the pages of those that are filled
pub left_shown : (old new : MirrorsValue) (s t : CoreState) (es : List CoreEvent) → ShowsMirrors old s
    → ((m : ℕ) → t.mirrored m ≡ left_in es (s.mirrored m) (s.slot m)) → ((m : ℕ) → t.slot m ≡ s.slot m)
    → ((m : ℕ) (filled : Filled) → old m ≡ Some filled → new m ≡ (if invalidate es filled.proc filled.page then None else Some filled))
    → ((m : ℕ) → old m ≡ None → new m ≡ None) → ShowsMirrors new t
left_shown old new s t es shown left notes some none m = go (old m) refl (shown m)
  where
    go : (o : Option Filled) → old m ≡ o → IsMirror o (s.mirrored m) (s.slot m) → IsMirror (new m) (t.mirrored m) (t.slot m)
    go None is empty =
        subst (λ (n : Option Filled). IsMirror n (t.mirrored m) (t.slot m)) (sym (none m is))
        (left m ∙ ap (λ (frame : Option ℕ). left_in es frame (s.slot m)) empty)
    go (Some filled) is (frame, (it, noted, proc, page)) = by_stale (invalidate es filled.proc filled.page) refl
      where
        frame_left : t.mirrored m ≡ (if invalidate es filled.proc filled.page then None else Some filled.frame)
        frame_left =
            left m ∙ ap (λ (f : Option ℕ). left_in es f (s.slot m)) frame ∙ ap (left_in es (Some filled.frame)) noted
            ∙ ap (λ (p : ℕ). if invalidate es p it.page then None else Some filled.frame) proc
            ∙ ap (λ (g : ℕ). if invalidate es filled.proc g then None else Some filled.frame) page

        by_stale : (stale : Bool) → invalidate es filled.proc filled.page ≡ stale → IsMirror (new m) (t.mirrored m) (t.slot m)
        by_stale true stale =
            subst (λ (n : Option Filled). IsMirror n (t.mirrored m) (t.slot m)) (sym (some m filled is ∙ ap (λ (b : Bool). if b then None else Some filled) stale))
            (frame_left ∙ ap (λ (b : Bool). if b then None else Some filled.frame) stale)
        by_stale false fresh =
            subst (λ (n : Option Filled). IsMirror n (t.mirrored m) (t.slot m)) (sym (some m filled is ∙ ap (λ (b : Bool). if b then None else Some filled) fresh))
            (frame_left ∙ ap (λ (b : Bool). if b then None else Some filled.frame) fresh, (it, notes m ∙ noted, proc, page))

-- a turn that invalidates none of their pages leaves them
pub none_left : (old : MirrorsValue) (s t : CoreState) (es : List CoreEvent) → ShowsMirrors old s
    → ((m : ℕ) → t.mirrored m ≡ left_in es (s.mirrored m) (s.slot m)) → ((m : ℕ) → t.slot m ≡ s.slot m)
    → ((m : ℕ) (filled : Filled) → old m ≡ Some filled → invalidate es filled.proc filled.page ≡ false) → ShowsMirrors old t
none_left old s t es shown left notes none =
    left_shown old old s t es shown left notes
    (λ m filled is. is ∙ sym (ap (λ (b : Bool). if b then None else Some filled) (none m filled is))) (λ m is. is)

and_row : (x y z : Bool) → ((x && y) && z) ≡ (x && (y && z))
and_row true y z = refl
and_row false y z = refl

-- emptying the slots of a range of pages
pub without_left : (p page n m : ℕ) (mirrors : MirrorsValue) (filled : Filled) → mirrors m ≡ Some filled → without p page n mirrors m ≡ (if has_page (Some (record { proc = p; page = page; n = n })) filled.proc filled.page then None else Some filled)
without_left p page n m mirrors filled is =
    ap (λ (o : Option Filled). if is_of p page n o then None else o) is
    ∙ ap (λ (b : Bool). if b then None else Some filled) (sym (and_row (p == filled.proc) (nat_le page filled.page) (nat_lt filled.page (page + n))))

pub without_none : (p page n m : ℕ) (mirrors : MirrorsValue) → mirrors m ≡ None → without p page n mirrors m ≡ None
without_none p page n m mirrors is = ap (λ (o : Option Filled). if is_of p page n o then None else o) is

-- what a device does by itself invalidates no page that has an entry
pub device_none : (s : CoreState) (a p slots far : ℕ) (op : Op) → (HasProcess op → ⊥) → (q g : ℕ) → IsSome (s.entry q g) → invalidate (op_turn s a p slots far op).events q g ≡ false
device_none s a p slots far (Unpin handle) none q g some = unpinned_none s a p (is_held_by (s.handle handle) a) handle q g some
device_none s a p slots far (Give handle to) none q g some = given_none s a p (is_held_by (s.handle handle) a) handle to q g some
device_none s a p slots far (Take handle) none q g some = refl
device_none s a p slots far (Transfer handle outward slot parts) none q g some =
    transferred s a p (transfer_denial (s.handle handle) a outward slots slot parts) handle outward (far + 1 == words_of parts) (word_at parts far) (slot + far) q g some
device_none s a p slots far (Look mirror word) none q g some = look_none s a mirror word q g (s.mirrored mirror)
device_none s a p slots far op none q g some = absurd (none tt)

-- a list has an element at each of its places
pub element_there : {X : Type 0} (xs : List X) (i : ℕ) → i < length xs → (x : X) × (slice_get xs i ≡ Some x)
element_there xs i within =
    elim (slice_get_cases xs i).1 [
      | inl found ↦ (found.0, found.2)
      | inr past ↦ absurd (omega (arith, past.0))
    ]
