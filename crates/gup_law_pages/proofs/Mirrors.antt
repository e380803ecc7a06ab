-- The slots of mirrors: emptied, filled and looked into.
use Rattle.std.proofs.Common.{◌≡◌, ℕ, Bool, refl, ap, sym, ◌∙◌, arith}
use Rattle.std.specs.Prelude.{Option, Some, None, IsSome}
use Rattle.std.proofs.lemmas.Bool.Decides.{nat_tests}
use Rattle.gup_base.specs.declared.entry.Entry.{Entry}
use Rattle.gup_plain.specs.Put.{put}
use Rattle.gup_plain.specs.State.{born, Noted, named_or_zero}
use Rattle.gup_plain.specs.Event.{CanHappen}
use Rattle.gup_spec_events.specs.State.{CoreState, plain_of}
use Rattle.gup_spec_events.specs.Event.{Can, happens, entry_of, empty_mirror, fill_mirror, look}
use Rattle.gup_spec_events.specs.Invariant.{frame_of}
use Rattle.gup_law_base.specs.Sound.{IsSoundBy, IsSound, Simulates}
use Rattle.gup_law_base.proofs.Clauses.{MirrorNoted, MirrorBorn, MirrorEntry, MirrorNames}
use Rattle.gup_law_base.proofs.Lonely.{born_mapped}
use Rattle.gup_law_base.proofs.NamedObjects.{named_here}
use Rattle.gup_law_pages.proofs.Data.{reads}
use Rattle.gup_plain.specs.declared.event.PlainEvent.TheVariants.{Look}

pub simulates-empty_mirror : (s : CoreState) (a m : ℕ) → IsSound s → Can s (empty_mirror a m) → Simulates s (empty_mirror a m)
simulates-empty_mirror s a m (v, h) c =
    let S : CoreState = happens s (empty_mirror a m) in
    let mirror_noted : MirrorNoted v S = λ i u. grind (arith, nat_tests, h.mirror_noted i u) in
    let mirror_born : MirrorBorn v S = λ i u noted. grind (arith, nat_tests, h.mirror_born i u noted) in
    let mirror_entry : MirrorEntry v S = λ i u noted. grind (arith, nat_tests, h.mirror_entry i u noted) in
    let mirror_names : MirrorNames v S = λ i u noted. grind (arith, nat_tests, h.mirror_names i u noted) in
    let sound : IsSoundBy v S = assumption in
    record { sound = (v, sound); can = tt; same = refl }

-- the slot notes the object that the page names
pub simulates-fill_mirror : (s : CoreState) (a m p page f : ℕ) (writable : Bool) → IsSound s → Can s (fill_mirror a m p page f writable) → Simulates s (fill_mirror a m p page f writable)
simulates-fill_mirror s a m p page f writable (v, h) c =
    let S : CoreState = happens s (fill_mirror a m p page f writable) in
    let e : Entry = entry_of f writable in
    let there : v.whole p page ≡ Some e = h.whole_entry p page e c.2 in
    let named : v.names p page ≡ Some (s.object p page) = h.whole_names p page e there in
    let mapped : IsSome (s.right p page) = born_mapped v s h p page e c.0 there in
    let shown = named_here (s.right p page) (s.object p page) mapped in
    let mirror_noted : MirrorNoted v S = λ i u. grind (arith, nat_tests, h.mirror_noted i u) in
    let mirror_born : MirrorBorn v S = λ i u noted. grind (arith, nat_tests, h.mirror_born i u noted) in
    let mirror_entry : MirrorEntry v S = λ i u noted. grind (arith, nat_tests, h.mirror_entry i u noted) in
    let mirror_names : MirrorNames v S = λ i u noted. grind (arith, nat_tests, h.mirror_names i u noted) in
    let sound : IsSoundBy v S = assumption in
    record { sound = (v, sound); can = (c.0, mapped); same = ap (λ o. record (plain_of s) { slot = put m (Some (record { proc = p; page = page; object = o })) s.slot }) (sym shown) }

-- a filled slot has the words of the page that it notes
pub simulates-look : (s : CoreState) (a m word f value : ℕ) → IsSound s → Can s (look a m word f value) → Simulates s (look a m word f value)
simulates-look s a m word f value (v, h) c = record { sound = (v, h); can = by_slot (s.slot m) refl; same = refl }
  where
    by_slot : (x : Option Noted) → s.slot m ≡ x → CanHappen (plain_of s) (Look a m word value)
    by_slot None is = absurd (h.mirror_noted m f c.0 is)
    by_slot (Some noted) is =
        by_entry (s.entry noted.proc noted.page) refl
      where
        by_entry : (x : Option Entry) → s.entry noted.proc noted.page ≡ x → CanHappen (plain_of s) (Look a m word value)
        by_entry None none = absurd (let has = h.mirror_entry m f noted c.0 is in cc)
        by_entry (Some e) some =
            let has : frame_of (s.entry noted.proc noted.page) ≡ Some f = h.mirror_entry m f noted c.0 is in
            let names : v.names noted.proc noted.page ≡ Some noted.object = h.mirror_names m f noted c.0 is in
            let lives : s.birth noted.proc ≡ born = h.mirror_born m f noted c.0 is in
            let there : v.whole noted.proc noted.page ≡ Some e = h.whole_entry noted.proc noted.page e some in
            let read = reads v s noted.proc noted.page word e h lives there c.1 in
            let shown = named_here (s.right noted.proc noted.page) (s.object noted.proc noted.page) read.0 in
            let object : named_or_zero (s.right noted.proc noted.page) (s.object noted.proc noted.page) ≡ noted.object = shown ∙ h.names_object noted.proc noted.page noted.object names in
            let frame : e.frame ≡ f = cc in
            (noted, is, ((lives, read.0), object), cc)
