-- A child that is emptied page by page, from the lowest mapped one up.
use Rattle.std.proofs.Common.{◌≡◌, ℕ, zero, suc, ◌+◌, ◌^◌, ◌<◌, ◌≤◌, ◌⊎◌, inl, inr, true, false, is_some, List, [], ◌∷◌, length, Option, Some, None, IsSome, refl, sym, ap, subst, ◌∙◌, arith, eq-or-lt_of_le}
use Rattle.std.proofs.Math.Path.{fun_ext}
use Rattle.std.proofs.lemmas.Bool.Decides.{nat_tests}
use Rattle.gup_base.specs.declared.entry.Entry.{Entry}
use Rattle.gup_base.specs.declared.entry.Rights.{Rights}
use Rattle.gup_plain.specs.Event.{page_numbers}
use Rattle.gup_plain.specs.Put.{put}
use Rattle.gup_frames.specs.Frames.{FramesValue, IsFrame}
use Rattle.gup_maps.specs.Table.{at}
use Rattle.gup_maps.specs.Maps.{IsNextPage, IsLastPage}
use Rattle.gup_space.specs.Space.{SpaceValue, SpaceParts, space_of, with_entry, without_page, AreMapped}
use Rattle.gup_fork.specs.Forks.{without_entry, without_entries, emptied}

-- ---- frames that lose the references of entries

put_here : {X : Type 0} (k : ℕ) (x : X) (f : ℕ → X) → put k x f k ≡ x
put_here k x f = grind (arith, nat_tests)

put_below : {X : Type 0} (k j : ℕ) (x : X) (f : ℕ → X) → k < j → put k x f j ≡ f j
put_below k j x f below = grind (arith, nat_tests)

put_above : {X : Type 0} (k j : ℕ) (x : X) (f : ℕ → X) → j < k → put k x f j ≡ f j
put_above k j x f above = grind (arith, nat_tests)

-- pages below the first one don't count
same_above : (entry : ℕ → Option Entry) (page first n : ℕ) (F : FramesValue) → page < first → without_entries (put page None entry) first n F ≡ without_entries entry first n F
same_above entry page first zero F below = refl
same_above entry page first (suc n) F below =
    same_above entry page (first + 1) n (without_entry (put page None entry first) F) (omega arith)
    ∙ ap (λ (o : Option Entry). without_entries entry (first + 1) n (without_entry o F)) (put_below page first None entry below)

-- where there are no entries nothing changes
none_left : (entry : ℕ → Option Entry) (first n : ℕ) (F : FramesValue) → ((g : ℕ) → entry g ≡ None) → without_entries entry first n F ≡ F
none_left entry first zero F none = refl
none_left entry first (suc n) F none =
    none_left entry (first + 1) n (without_entry (entry first) F) none ∙ ap (λ (o : Option Entry). without_entry o F) (none first)

-- the lowest entry may go before the others
lowest_goes : (entry : ℕ → Option Entry) (page first n : ℕ) (F : FramesValue) → first ≤ page → page < first + n → ((g : ℕ) → first ≤ g → g < page → entry g ≡ None) → without_entries (put page None entry) first n (without_entry (entry page) F) ≡ without_entries entry first n F
lowest_goes entry page first zero F from below others = absurd (omega arith)
lowest_goes entry page first (suc n) F from below others =
    go (eq-or-lt_of_le from) (λ more. lowest_goes entry page (first + 1) n F more (omega arith) (λ g least under. others g (omega arith) under))
  where
    here : (k : ℕ) → k ≡ page → without_entries (put page None entry) (k + 1) n (without_entry (put page None entry k) (without_entry (entry page) F)) ≡ without_entries entry (k + 1) n (without_entry (entry k) F)
    here k same =
        subst (λ (j : ℕ). without_entries (put page None entry) (j + 1) n (without_entry (put page None entry j) (without_entry (entry page) F)) ≡ without_entries entry (j + 1) n (without_entry (entry j) F)) (sym same)
        (same_above entry page (page + 1) n (without_entry (put page None entry page) (without_entry (entry page) F)) (omega arith)
        ∙ ap (λ (o : Option Entry). without_entries entry (page + 1) n (without_entry o (without_entry (entry page) F))) (put_here page None entry))

    go : (first ≡ page) ⊎ (first < page) → (first + 1 ≤ page → without_entries (put page None entry) (first + 1) n (without_entry (entry page) F) ≡ without_entries entry (first + 1) n F) → without_entries (put page None entry) (first + 1) n (without_entry (put page None entry first) (without_entry (entry page) F)) ≡ without_entries entry (first + 1) n (without_entry (entry first) F)
    go (inl same) later = here first same
    go (inr less) later =
        let none : entry first ≡ None = others first (omega arith) less in
        ap (λ (o : Option Entry). without_entries (put page None entry) (first + 1) n (without_entry o (without_entry (entry page) F))) (put_above page first None entry less ∙ none)
        ∙ later (omega arith)
        ∙ ap (λ (o : Option Entry). without_entries entry (first + 1) n (without_entry o F)) (sym none)

-- ---- the loop

-- a page's number is below all numbers of pages
pub is_page : (page : ℕ) → page < 2 ^ 35 → page < page_numbers
unfolding page_numbers
is_page page below = below

pub next_from : (right : ℕ → Option Rights) (first page : ℕ) → first ≡ 0 → IsNextPage right first page → IsNextPage right 0 page
next_from right first page lowest next = subst (λ (from : ℕ). IsNextPage right from page) lowest next

pub last_from : (right : ℕ → Option Rights) (first : ℕ) → first ≡ 0 → IsLastPage right first → IsLastPage right 0
last_from right first lowest last = subst (λ (from : ℕ). IsLastPage right from) lowest last

-- what is so of the child and the frames on the way, from these on
pub record IsEmptying (C0 C : SpaceValue) (F0 F : FramesValue) : Type 0 where
  pub mapped : AreMapped C
  pub there : (page : ℕ) (e : Entry) → C.entry page ≡ Some e → IsFrame F e.frame
  pub frames : without_entries C.entry 0 page_numbers F ≡ without_entries C0.entry 0 page_numbers F0
  pub child : emptied C ≡ emptied C0
  pub rights : (page : ℕ) → page_numbers ≤ page → C.right page ≡ C0.right page
  pub entries : (page : ℕ) → page_numbers ≤ page → C.entry page ≡ C0.entry page

pub begins : (C : SpaceValue) (F : FramesValue) → AreMapped C → ((f : ℕ) → (F.count f ≡ 0 → ⊥) → IsFrame F f) → ((page : ℕ) (e : Entry) → C.entry page ≡ Some e → F.count e.frame ≡ 0 → ⊥) → IsEmptying C C F F
begins C F mapped there counted =
    record {
      mapped = mapped;
      there = λ page e is. there e.frame (counted page e is);
      frames = refl;
      child = refl;
      rights = λ page high. refl;
      entries = λ page high. refl;
    }

none_below : (C : SpaceValue) (page g : ℕ) → AreMapped C → C.right g ≡ None → C.entry g ≡ None
none_below C page g mapped none = go (C.entry g) refl
  where
    go : (o : Option Entry) → C.entry g ≡ o → C.entry g ≡ None
    go None is = is
    go (Some e) is = let no : false ≡ true = subst (λ (r : Option Rights). is_some r ≡ true) none (mapped g e is) in absurd (cc)

still_there : (F : FramesValue) (o : Option Entry) (f : ℕ) → IsFrame F f → IsFrame (without_entry o F) f
still_there F None f there = there
still_there F (Some e) f there = there

pub goes_on : (C0 C C1 C' : SpaceValue) (F0 F F' : FramesValue) (page : ℕ) → IsNextPage C.right 0 page → page < page_numbers → C1 ≡ with_entry page None C → F' ≡ without_entry (C.entry page) F → C' ≡ without_page page C1 → IsEmptying C0 C F0 F → IsEmptying C0 C' F0 F'
goes_on C0 C C1 C' F0 F F' page next below cleared frames unmapped h =
    subst (λ (x : SpaceValue). IsEmptying C0 x F0 F') (sym (unmapped ∙ ap (λ (x : SpaceValue). without_page page x) cleared))
    (subst (λ (x : FramesValue). IsEmptying C0 (without_page page (with_entry page None C)) F0 x) (sym frames)
    (record {
      mapped = λ g e. grind (arith, nat_tests, h.mapped g e);
      there = λ g e is. still_there F (C.entry page) e.frame (h.there g e (grind (arith, nat_tests)));
      frames = lowest_goes C.entry page 0 page_numbers F (omega arith) (omega arith) (λ g least less. none_below C page g h.mapped (next.least g least less)) ∙ h.frames;
      child = h.child;
      rights = λ g high. put_below page g None C.right (omega arith) ∙ h.rights g high;
      entries = λ g high. put_below page g None C.entry (omega arith) ∙ h.entries g high;
    }))

-- ---- the end

no_rows : {X : Type 0} (rows : List (ℕ × X)) → ((g : ℕ) → at rows g ≡ None) → rows ≡ []
no_rows [] none = refl
no_rows (row ∷ rows) none = let here : at (row ∷ rows) row.0 ≡ None = none row.0 in absurd (grind (arith, nat_tests, here))

nothing_at : {X : Type 0} (rows : List (ℕ × X)) → rows ≡ [] → at rows ≡ (λ _. None)
nothing_at {X = X} rows none = fun_ext (λ g. ap (λ (x : List (ℕ × X)). at x g) none)

same_fields : (space : SpaceValue) (right : ℕ → Option Rights) (pages : ℕ) (entry : ℕ → Option Entry) → space.right ≡ right → space.pages ≡ pages → space.entry ≡ entry → space ≡ record space { right = right; pages = pages; entry = entry }
same_fields space right pages entry one two three = rw (sym one, sym two, sym three) refl

is_empty : (s : SpaceParts) → s.rights ≡ [] → ((g : ℕ) → (space_of s).entry g ≡ None) → space_of s ≡ emptied (space_of s)
is_empty s rights none =
    same_fields (space_of s) (λ _. None) 0 (λ _. None) (nothing_at s.rights rights) (ap length rights) (fun_ext (λ g. none g))

no_entries : (C0 C : SpaceValue) (F0 F : FramesValue) → IsLastPage C.right 0 → IsEmptying C0 C F0 F → (g : ℕ) → C.entry g ≡ None
no_entries C0 C F0 F last h g = none_below C 0 g h.mapped (last g (omega arith))

pub ends_child : (C0 : SpaceValue) (s : SpaceParts) (F0 F : FramesValue) → IsLastPage (space_of s).right 0 → IsEmptying C0 (space_of s) F0 F → space_of s ≡ emptied C0
ends_child C0 s F0 F last h =
    is_empty s (no_rows s.rights (λ g. last g (omega arith))) (no_entries C0 (space_of s) F0 F last h) ∙ h.child

pub ends_frames : (C0 C : SpaceValue) (F0 F : FramesValue) → IsLastPage C.right 0 → IsEmptying C0 C F0 F → F ≡ without_entries C0.entry 0 page_numbers F0
ends_frames C0 C F0 F last h = sym (none_left C.entry 0 page_numbers F (no_entries C0 C F0 F last h)) ∙ h.frames

pub ends_below : (C0 C : SpaceValue) (F0 F : FramesValue) → IsLastPage C.right 0 → IsEmptying C0 C F0 F → (page : ℕ) → page_numbers ≤ page → C0.entry page ≡ None
ends_below C0 C F0 F last h page high = sym (h.entries page high) ∙ no_entries C0 C F0 F last h page

-- ---- the measure

pub fewer : (s : SpaceParts) (C1 C' : SpaceValue) (page : ℕ) → IsSome ((space_of s).right page) → C1 ≡ with_entry page None (space_of s) → C' ≡ without_page page C1 → C'.pages < (space_of s).pages
fewer s C1 C' page mapped cleared unmapped =
    subst (λ (x : SpaceValue). x.pages < length s.rights) (sym (unmapped ∙ ap (λ (x : SpaceValue). without_page page x) cleared)) (less s.rights mapped)
  where
    go : (rows : List (ℕ × Rights)) (o : Option Rights) → at rows page ≡ o → IsSome o → (without_page page (record (space_of s) { right = at rows; pages = length rows })).pages < length rows
    go rows None is some = let no : is_some {T = Rights} None ≡ true = some in absurd (cc)
    go [] (Some r) is some = absurd (cc)
    go (row ∷ rows) (Some r) is some = rw is (omega arith)

    less : (rows : List (ℕ × Rights)) → IsSome (at rows page) → (without_page page (record (space_of s) { right = at rows; pages = length rows })).pages < length rows
    less rows some = go rows (at rows page) refl some
