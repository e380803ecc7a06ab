-- What a mapping or a protection makes of a process is the turn's.
use Rattle.std.proofs.Common.{◌≡◌, ℕ, ◌+◌, ◌<◌, ◌≤◌, ◌↔◌, nat_lt, not, Bool, true, false, cond, List, [], ◌∷◌, ◌++◌, Option, Some, None, IsSome, is_some, Result, Ok, Err, zero, suc, refl, sym, ap, ◌∙◌, subst, arith}
use Rattle.std.proofs.lemmas.Bool.Decides.{nat_tests}
use Rattle.gup_base.specs.declared.entry.Entry.{Entry}
use Rattle.gup_base.specs.declared.entry.Rights.{Rights}
use Rattle.gup_base.specs.declared.entry.Rights.TheVariants.{R, RW}
use Rattle.gup_maps.specs.declared.maps.MapRefusal.{MapRefusal}
use Rattle.gup_maps.specs.declared.maps.MapRefusal.TheVariants.{Overlap, Full}
use Rattle.gup_plain.specs.Denial.{any_mapped, any_unmapped, map_denial, protect_denial}
use Rattle.gup_plain.specs.Put.{within, spread}
use Rattle.gup_plain.specs.declared.answer.Answer.{Answer}
use Rattle.gup_plain.specs.declared.answer.Answer.TheVariants as answers
use Rattle.gup_plain.specs.declared.event.PlainEvent.TheVariants as events
use Rattle.gup_plain.specs.declared.note.What.{What}
use Rattle.gup_plain.specs.declared.note.What.TheVariants.{Event, Done}
use Rattle.gup_frames.specs.Frames.{FramesValue}
use Rattle.gup_space.specs.Space.{SpaceValue, with_pages, with_rights, with_entry}
use Rattle.gup_space.proofs.After.{mapping, lowering, protecting, IsShownAs}
use Rattle.gup_space.specs.Shows.{ShowsFrames, ShowsSpace}
use Rattle.gup_space.proofs.ShowsLemmas.{shows_frames, shows_space, shown_as}
use Rattle.gup_spec_events.specs.State.{CoreState}
use Rattle.gup_spec_events.specs.Event.{CoreEvent, happens, entry_of, map_pages, lower_entry, protect_pages, run}
use Rattle.gup_spec_turns.specs.PageTurns.{map_turn, lowers_entry, lowers, protect_turn}
use Rattle.gup_spec_turns.proofs.TurnParts.{map_turn_by, protect_turn_by}
use Rattle.gup_op_pages.specs.Lowered.{read_only, lowered, IsLowered, IsLoweredFor}
use Rattle.gup_op_base.specs.Turns.{Leads, IsTurnOf, Anywhere}
use Rattle.gup_op_base.proofs.Leading.{leads_alike}
use Rattle.gup_op_base.proofs.Searching.{any_same}
use Rattle.gup_op_pages.specs.Alone.{ShowsAlone}
use Rattle.gup_op_pages.proofs.Viewing.{view}
use Rattle.gup_spec_events.proofs.Runs.{run_behind}

-- a process that is as it was
as_it_is : (F : FramesValue) (S S' : SpaceValue) (p : ℕ) (s : CoreState) → S' ≡ S → ShowsAlone p (view F S) s → ShowsAlone p (view F S') s
as_it_is F S S' p s same shown =
    record { frames = shown.frames; space = subst (λ (x : SpaceValue). ShowsSpace p x s) (sym same) shown.space }

-- ---- map

-- what a mapping was refused with
abbrev pub refused_with : Result (Unit {0}) MapRefusal → Option Answer
refused_with (Ok ok) = None
refused_with (Err Overlap) = Some answers.Overlap
refused_with (Err Full) = Some answers.Full

pub map_denied : (r : Result (Unit {0}) MapRefusal) (overlaps : Bool) (pages n : ℕ)
    → ((r ≡ Err Overlap) ↔ (overlaps ≡ true)) → ((r ≡ Err Full) ↔ ((overlaps ≡ false) × (1024 < pages + n)))
    → map_denial overlaps pages n ≡ refused_with r
map_denied (Ok ok) true pages n overlap full = let e : Ok ok ≡ Err Overlap = overlap.1 refl in absurd (cc)
map_denied (Ok ok) false pages n overlap full = go (nat_lt 1024 (pages + n)) refl
  where
    go : (b : Bool) → nat_lt 1024 (pages + n) ≡ b → cond b (Some answers.Full) None ≡ None
    go true is = let e : Ok ok ≡ Err Full = full.1 (refl, grind (arith, nat_tests)) in absurd (cc)
    go false is = refl
map_denied (Err Overlap) overlaps pages n overlap full = ap (λ b. map_denial b pages n) (overlap.0 refl)
map_denied (Err Full) overlaps pages n overlap full =
    let both = full.0 refl in
    ap (λ b. map_denial b pages n) both.0 ∙ ap (λ b. cond b (Some answers.Full) None) (more both.1)
  where
    more : 1024 < pages + n → nat_lt 1024 (pages + n) ≡ true
    more is = grind (arith, nat_tests)

abbrev pub mapped_whats : (a p page n : ℕ) → Rights → Option Answer → List What
mapped_whats a p page n rights None = Event (events.Map a p page n rights) ∷ Done answers.Plain ∷ []
mapped_whats a p page n rights (Some answer) = Done answer ∷ []

mapped_same : (S : SpaceValue) (p page n : ℕ) (s : CoreState) → ShowsSpace p S s → any_mapped (s.right p) page n ≡ any_mapped S.right page n
mapped_same S p page n s space = any_same n (λ k. is_some (s.right p (page + k))) (λ k. is_some (S.right (page + k))) (λ k. ap is_some (space.right (page + k)))

map_taken : (S : SpaceValue) (a p page n : ℕ) (rights : Rights) (s : CoreState) (denied : Option Answer) → map_denial (any_mapped S.right page n) S.pages n ≡ denied → ShowsSpace p S s
    → map_turn s a p page n rights ≡ map_turn_by denied a p page n rights
map_taken S a p page n rights s denied is space =
    ap (λ b. map_turn_by (map_denial b (s.pages p) n) a p page n rights) (mapped_same S p page n s space)
    ∙ ap (λ k. map_turn_by (map_denial (any_mapped S.right page n) k n) a p page n rights) space.pages
    ∙ ap (λ o. map_turn_by o a p page n rights) is

pub map_refused : (F : FramesValue) (S S' : SpaceValue) (a p page n : ℕ) (rights : Rights) (answer : Answer) → map_denial (any_mapped S.right page n) S.pages n ≡ Some answer → S' ≡ S
    → IsTurnOf (ShowsAlone p) Anywhere (view F S) (view F S') (λ s. map_turn s a p page n rights) (Done answer ∷ [])
map_refused F S S' a p page n rights answer denied same s shown stands =
    leads_alike (map_taken S a p page n rights s (Some answer) denied shown.space) (record { says = refl; shown = as_it_is F S S' p s same shown })

pub map_done : (F : FramesValue) (S S' : SpaceValue) (a p page n : ℕ) (rights : Rights) → map_denial (any_mapped S.right page n) S.pages n ≡ None → S' ≡ with_pages page n rights S
    → IsTurnOf (ShowsAlone p) Anywhere (view F S) (view F S') (λ s. map_turn s a p page n rights) (mapped_whats a p page n rights None)
map_done F S S' a p page n rights undenied same s shown stands =
    leads_alike (map_taken S a p page n rights s None undenied shown.space)
    (record {
      says = refl;
      shown = record {
        frames = shows_frames p F s (mapping a page n rights) shown.frames;
        space =
            subst (λ (x : SpaceValue). ShowsSpace p x (happens s (map_pages a p page n rights))) (sym same)
            (shows_space p S s (mapping a page n rights) shown.space);
      };
    })

-- ---- lowering

-- a place is in a range of one, or in the rest, or in neither
lowered_next : (page n g : ℕ) (entry : ℕ → Option Entry) → lowered page (suc n) entry g ≡ lowered (page + 1) n (lowered page 1 entry) g
lowered_next page n g entry = grind (arith, nat_tests)

lowered_last : (page n g : ℕ) (entry : ℕ → Option Entry) → lowered (page + n) 1 (lowered page n entry) g ≡ lowered page (n + 1) entry g
lowered_last page n g entry = grind (arith, nat_tests)

pub lowered_none : (page : ℕ) (space : SpaceValue) → IsLowered page 0 space space
lowered_none page space =
    record {
      right = refl;
      pages = refl;
      entry = λ g. grind (arith, nat_tests);
      sequence = refl;
      has_pinned = refl;
      structure = refl;
      table = refl;
      walks = refl;
      place = refl;
      retired = refl;
    }

lowered_at : (page n g : ℕ) (entry other : ℕ → Option Entry) → entry g ≡ other g → lowered page n entry g ≡ lowered page n other g
lowered_at page n g entry other same = ap (λ o. cond (within page n g) (read_only o) o) same

pub lowered_more : (page n : ℕ) (old mid new : SpaceValue) → IsLowered page n old mid → IsLowered (page + n) 1 mid new → IsLowered page (n + 1) old new
lowered_more page n old mid new first last =
    record {
      right = last.right ∙ first.right;
      pages = last.pages ∙ first.pages;
      entry = λ g. last.entry g ∙ lowered_at (page + n) 1 g mid.entry (lowered page n old.entry) (first.entry g) ∙ lowered_last page n g old.entry;
      sequence = last.sequence ∙ first.sequence;
      has_pinned = last.has_pinned ∙ first.has_pinned;
      structure = last.structure ∙ first.structure;
      table = last.table ∙ first.table;
      walks = last.walks ∙ first.walks;
      place = last.place ∙ first.place;
      retired = last.retired ∙ first.retired;
    }

-- one page's event, if it has one
lower_one : (F : FramesValue) (S : SpaceValue) (a p page : ℕ) (entry : Option Entry) (s : CoreState) → S.entry page ≡ entry → ShowsFrames F s → ShowsSpace p S s
    → ShowsFrames F (run s (lowers_entry a p page entry)) × ShowsSpace p (record S { entry = lowered page 1 S.entry }) (run s (lowers_entry a p page entry))
lower_one F S a p page None s found frames space = (
  frames,
  record {
    right = space.right;
    pages = space.pages;
    entry = λ g. space.entry g ∙ sym (absent g);
    sequence = space.sequence;
    has_pinned = space.has_pinned;
    structure = space.structure;
    table = space.table;
    walks = space.walks;
    place = space.place;
    retired = space.retired;
  },
)
  where
    absent : (g : ℕ) → lowered page 1 S.entry g ≡ S.entry g
    absent g = grind (arith, nat_tests)
lower_one F S a p page (Some e) s found frames space = go e.writable refl
  where
    read_only_already : (g : ℕ) → e.writable ≡ false → lowered page 1 S.entry g ≡ S.entry g
    read_only_already g is = grind (arith, nat_tests)

    go : (writable : Bool) → e.writable ≡ writable → ShowsFrames F (run s (cond writable (lower_entry a p page e.frame ∷ []) [])) × ShowsSpace p (record S { entry = lowered page 1 S.entry }) (run s (cond writable (lower_entry a p page e.frame ∷ []) []))
    go true is = (
      shows_frames p F s (lowering a page e.frame) frames,
      record {
        right = space.right;
        pages = space.pages;
        entry = λ g. grind (arith, nat_tests, space.entry g);
        sequence = space.sequence;
        has_pinned = space.has_pinned;
        structure = space.structure;
        table = space.table;
        walks = space.walks;
        place = space.place;
        retired = space.retired;
      },
    )
    go false is = (
      frames,
      record {
        right = space.right;
        pages = space.pages;
        entry = λ g. space.entry g ∙ sym (read_only_already g is);
        sequence = space.sequence;
        has_pinned = space.has_pinned;
        structure = space.structure;
        table = space.table;
        walks = space.walks;
        place = space.place;
        retired = space.retired;
      },
    )

-- the pages after the first are lowered from where that one is
lowered_rest : (page n : ℕ) (S S' : SpaceValue) → IsLowered page (suc n) S S' → IsLowered (page + 1) n (record S { entry = lowered page 1 S.entry }) S'
lowered_rest page n S S' h =
    record {
      right = h.right;
      pages = h.pages;
      entry = λ g. h.entry g ∙ lowered_next page n g S.entry;
      sequence = h.sequence;
      has_pinned = h.has_pinned;
      structure = h.structure;
      table = h.table;
      walks = h.walks;
      place = h.place;
      retired = h.retired;
    }

lowered_shown : (page : ℕ) (S S' : SpaceValue) → IsLowered page 0 S S' → IsShownAs S S'
lowered_shown page S S' h =
    record {
      right = λ g. ap (λ (f : ℕ → Option Rights). f g) (sym h.right);
      pages = sym h.pages;
      entry = λ g. sym (h.entry g ∙ nothing g);
      sequence = sym h.sequence;
      has_pinned = sym h.has_pinned;
      structure = sym h.structure;
      table = sym h.table;
      walks = sym h.walks;
      place = sym h.place;
      retired = sym h.retired;
    }
  where
    nothing : (g : ℕ) → lowered page 0 S.entry g ≡ S.entry g
    nothing g = grind (arith, nat_tests)

behind_first : (page g : ℕ) (S : SpaceValue) → page + 1 ≤ g → lowered page 1 S.entry g ≡ S.entry g
behind_first page g S above = grind (arith, nat_tests)

-- the events that lower n pages, by the entries that there were before them
lower_all : (F : FramesValue) (S S' : SpaceValue) (a p page n : ℕ) (entry : ℕ → Option Entry) (s : CoreState)
    → ((g : ℕ) → page ≤ g → entry g ≡ S.entry g) → IsLowered page n S S' → ShowsFrames F s → ShowsSpace p S s
    → ShowsFrames F (run s (lowers entry a p page n)) × ShowsSpace p S' (run s (lowers entry a p page n))
lower_all F S S' a p page zero entry s same h frames space = (frames, shown_as p S S' s (lowered_shown page S S' h) space)
lower_all F S S' a p page (suc n) entry s same h frames space =
    let S1 : SpaceValue = record S { entry = lowered page 1 S.entry } in
    let es : List CoreEvent = lowers_entry a p page (entry page) in
    let one = lower_one F S a p page (entry page) s (sym (same page (omega arith))) frames space in
    let more : (g : ℕ) → page + 1 ≤ g → entry g ≡ S1.entry g = λ g above. same g (omega arith) ∙ sym (behind_first page g S above) in
    let rest = lower_all F S1 S' a p (page + 1) n entry (run s es) more (lowered_rest page n S S' h) one.0 one.1 in
    let P : CoreState → Type 0 = λ t. ShowsFrames F t × ShowsSpace p S' t in
    subst P (sym (run_behind s es (lowers entry a p (page + 1) n))) rest

-- ---- protect

unmapped_same : (S : SpaceValue) (p page n : ℕ) (s : CoreState) → ShowsSpace p S s → any_unmapped (s.right p) page n ≡ any_unmapped S.right page n
unmapped_same S p page n s space =
    any_same n (λ k. not (is_some (s.right p (page + k)))) (λ k. not (is_some (S.right (page + k)))) (λ k. ap (λ o. not (is_some o)) (space.right (page + k)))

protect_taken : (S : SpaceValue) (a p page n : ℕ) (rights : Rights) (s : CoreState) (lacks : Bool) → any_unmapped S.right page n ≡ lacks → ShowsSpace p S s
    → protect_turn s a p page n rights ≡ protect_turn_by (protect_denial lacks) s a p page n rights
protect_taken S a p page n rights s lacks is space =
    ap (λ b. protect_turn_by (protect_denial b) s a p page n rights) (unmapped_same S p page n s space ∙ is)

pub protect_refused : (F : FramesValue) (S S' : SpaceValue) (a p page n : ℕ) (rights : Rights) → any_unmapped S.right page n ≡ true → S' ≡ S
    → IsTurnOf (ShowsAlone p) Anywhere (view F S) (view F S') (λ s. protect_turn s a p page n rights) (Done answers.Missing ∷ [])
protect_refused F S S' a p page n rights lacks same s shown stands =
    leads_alike (protect_taken S a p page n rights s true lacks shown.space) (record { says = refl; shown = as_it_is F S S' p s same shown })

abbrev pub protected_whats : (a p page n : ℕ) → Rights → List What
protected_whats a p page n rights = Event (events.Protect a p page n rights) ∷ Done answers.Plain ∷ []

-- the process with its entries lowered, and then with the rights
rights_behind : (page n : ℕ) (rights : Rights) (S S1 S' : SpaceValue) → IsLowered page n S S1 → IsLowered page n (with_rights page n rights S) S' → IsShownAs (with_rights page n rights S1) S'
rights_behind page n rights S S1 S' low h =
    record {
      right = λ g. ap (λ (f : ℕ → Option Rights). spread page n (λ _. Some rights) f g) low.right ∙ ap (λ (f : ℕ → Option Rights). f g) (sym h.right);
      pages = low.pages ∙ sym h.pages;
      entry = λ g. low.entry g ∙ sym (h.entry g);
      sequence = low.sequence ∙ sym h.sequence;
      has_pinned = low.has_pinned ∙ sym h.has_pinned;
      structure = low.structure ∙ sym h.structure;
      table = low.table ∙ sym h.table;
      walks = low.walks ∙ sym h.walks;
      place = low.place ∙ sym h.place;
      retired = low.retired ∙ sym h.retired;
    }

protect_by : (rights : Rights) (F : FramesValue) (S S' : SpaceValue) (a p page n : ℕ) (s : CoreState) → IsLoweredFor rights page n (with_rights page n rights S) S'
    → ShowsAlone p (view F S) s
    → Leads (ShowsAlone p) (view F S') s (protect_turn_by None s a p page n rights) (protected_whats a p page n rights)
protect_by R F S S' a p page n s h shown =
    let S1 : SpaceValue = record S { entry = lowered page n S.entry } in
    let low : IsLowered page n S S1 = record { right = refl; pages = refl; entry = λ g. refl; sequence = refl; has_pinned = refl; structure = refl; table = refl; walks = refl; place = refl; retired = refl } in
    let es : List CoreEvent = lowers (s.entry p) a p page n in
    let all = lower_all F S S1 a p page n (s.entry p) s (λ g above. shown.space.entry g) low shown.frames shown.space in
    let same : run s (es ++ protect_pages a p page n R ∷ []) ≡ happens (run s es) (protect_pages a p page n R) = run_behind s es (protect_pages a p page n R ∷ []) in
    record {
      says = refl;
      shown =
          subst (λ (t : CoreState). ShowsAlone p (view F S') t) (sym same)
          (record {
            frames = shows_frames p F (run s es) (protecting a page n R) all.0;
            space =
                shown_as p (with_rights page n R S1) S' (happens (run s es) (protect_pages a p page n R)) (rights_behind page n R S S1 S' low h)
                (shows_space p S1 (run s es) (protecting a page n R) all.1);
          });
    }
protect_by RW F S S' a p page n s same shown =
    record {
      says = refl;
      shown = record {
        frames = shows_frames p F s (protecting a page n RW) shown.frames;
        space =
            subst (λ (x : SpaceValue). ShowsSpace p x (happens s (protect_pages a p page n RW))) (sym same)
            (shows_space p S s (protecting a page n RW) shown.space);
      };
    }

pub protect_done : (F : FramesValue) (S S1 S' : SpaceValue) (a p page n : ℕ) (rights : Rights) → any_unmapped S.right page n ≡ false → S1 ≡ with_rights page n rights S → IsLoweredFor rights page n S1 S'
    → IsTurnOf (ShowsAlone p) Anywhere (view F S) (view F S') (λ s. protect_turn s a p page n rights) (protected_whats a p page n rights)
protect_done F S S1 S' a p page n rights all same low s shown stands =
    leads_alike (protect_taken S a p page n rights s false all shown.space)
    (protect_by rights F S S' a p page n s (subst (λ (x : SpaceValue). IsLoweredFor rights page n x S') same low) shown)

-- each page with an entry is still mapped
pub still_mapped : (page n : ℕ) (old new : SpaceValue) → IsLowered page n old new → ((g : ℕ) (e : Entry) → old.entry g ≡ Some e → IsSome (old.right g)) → (g : ℕ) (e : Entry) → new.entry g ≡ Some e → IsSome (new.right g)
still_mapped page n old new h mapped g e found = go (old.entry g) refl (within page n g) (sym (h.entry g) ∙ found)
  where
    here : (d : Entry) → old.entry g ≡ Some d → IsSome (new.right g)
    here d is = subst (λ (f : ℕ → Option Rights). IsSome (f g)) (sym h.right) (mapped g d is)

    go : (entry : Option Entry) → old.entry g ≡ entry → (b : Bool) → cond b (read_only (old.entry g)) (old.entry g) ≡ Some e → IsSome (new.right g)
    go (Some d) is b lowered_is = here d is
    go None is true lowered_is = let none : read_only (old.entry g) ≡ None = ap read_only is in absurd (cc)
    go None is false lowered_is = absurd (cc)

-- pages that get rights are mapped
pub rights_mapped : (page n : ℕ) (rights : Rights) (old new : SpaceValue) → new ≡ with_rights page n rights old → ((g : ℕ) (e : Entry) → old.entry g ≡ Some e → IsSome (old.right g)) → (g : ℕ) (e : Entry) → new.entry g ≡ Some e → IsSome (new.right g)
rights_mapped page n rights old new same mapped g e found =
    subst (λ (x : SpaceValue). IsSome (x.right g)) (sym same) (go (within page n g) (mapped g e (ap (λ (x : SpaceValue). x.entry g) (sym same) ∙ found)))
  where
    go : (b : Bool) → IsSome (old.right g) → IsSome (cond b (Some rights) (old.right g))
    go true is = refl
    go false is = is

pub lowered_entry : (page : ℕ) (e : Entry) (old new : SpaceValue) → old.entry page ≡ Some e → new ≡ with_entry page (Some (entry_of e.frame false)) old → IsLowered page 1 old new
lowered_entry page e old new found same =
    subst (λ (x : SpaceValue). IsLowered page 1 old x) (sym same)
    (record {
      right = refl;
      pages = refl;
      entry = λ g. grind (arith, nat_tests);
      sequence = refl;
      has_pinned = refl;
      structure = refl;
      table = refl;
      walks = refl;
      place = refl;
      retired = refl;
    })
