-- What a changed process in the parts is to the plain state.
use Rattle.std.proofs.Common.{◌≡◌, ℕ, ◌+◌, ◌-◌, ◌<◌, Bool, true, false, Option, None, IsSome, vec_len, length, get_or, slice_set, refl, sym, subst, ◌∙◌, ap, arith}
use Rattle.std.specs.BTreeMap.{BTreeMap, get, btree_map_len}
use Rattle.std.specs.Ordering.{nat_cmp}
use Rattle.std.specs.Vec.{with_item}
use Rattle.gup_base.specs.declared.entry.Rights.{Rights}
use Rattle.gup_plain.specs.Pages.{mapped_pages}
use Rattle.gup_plain.specs.Put.{put, put2, spread}
use Rattle.gup_plain.specs.State.{PlainState, Birth, growing, born, failed}
use Rattle.gup_plain.specs.Event.{happened, page_numbers}
use Rattle.gup_plain.specs.declared.event.PlainEvent.TheVariants as events
use Rattle.gup_exec_parts.specs.declared.contents.Contents.{Contents}
use Rattle.gup_exec_parts.specs.declared.pages.Page.{Page}
use Rattle.gup_exec_plain.specs.declared.parts.Parts.{Parts}
use Rattle.gup_exec_parts.specs.declared.space.Birth.{Birth as Stage}
use Rattle.gup_exec_parts.specs.declared.space.Space.{Space}
use Rattle.gup_exec_parts.specs.Contents.{content_of}
use Rattle.gup_exec_parts.specs.Pages.{right_in, with_object, with_rights, own_objects, pages_from, AreNumbered}
use Rattle.gup_exec_plain.specs.Parts.{state_of, spaces_of, other_state, with_spaces, IsMade}
use Rattle.gup_exec_parts.specs.Space.{SpaceState, seen, blank, birth_of, copied_of}
use Rattle.gup_exec_parts.specs.Tables.{at_place}
use Rattle.gup_exec_parts.proofs.TableLemmas.{place_put, place_is, put_same}
use Rattle.gup_exec_plain.proofs.Changes.{after_birth, after_unmap, after_discard, after_map, after_protect, after_grow, after_page, after_word, after_end, after_fail}
use Rattle.gup_exec_parts.proofs.SpaceLemmas.{page_numbers-is}

-- the process with this number is at this index, and is so
pub record At (v : Parts) (p i : ℕ) (was : Space) : Type 0 where
  pub index : i ≡ p
  pub below : i < 16
  pub spaces : vec_len v.spaces ≡ 16
  pub is : was ≡ get_or v.spaces.items i was

within : (v : Parts) (p i : ℕ) (was : Space) → At v p i was → p < length v.spaces.items
within v p i was at = let small = at.below in let same = at.index in let len = at.spaces in omega (arith, v.spaces.ok.0)

pub found : (v : Parts) (p i : ℕ) (was : Space) → At v p i was → spaces_of v p ≡ seen was
found v p i was at = place_is seen blank v.spaces.items p i was at.index (within v p i was at) at.is

pub replaced : (v : Parts) (p i : ℕ) (was space : Space) → At v p i was → at_place seen blank (slice_set v.spaces.items i space) ≡ put p (seen space) (spaces_of v)
replaced v p i was space at = place_put seen blank v.spaces.items p i space at.index (within v p i was at)

birth-at : (x y : SpaceState) → x ≡ y → y.birth ≡ x.birth
birth-at x y same = ap (λ (z : SpaceState). z.birth) (sym same)

copied-at : (x y : SpaceState) → x ≡ y → y.copied ≡ x.copied
copied-at x y same = ap (λ (z : SpaceState). z.copied) (sym same)

len-at : (x y : SpaceState) → x ≡ y → y.pages ≡ x.pages
len-at x y same = ap (λ (z : SpaceState). z.pages) (sym same)

page-at : (x y : SpaceState) → x ≡ y → y.page ≡ x.page
page-at x y same = ap (λ (z : SpaceState). z.page) (sym same)

pub unmapped : (v : Parts) (p i page : ℕ) (was : Space) (pages : BTreeMap ℕ Page) → At v p i was
    → get nat_cmp pages ≡ put page None (get nat_cmp was.pages) → btree_map_len pages + 1 ≡ btree_map_len was.pages
    → state_of (record v { spaces = with_item v.spaces i (record was { pages = pages }) }) ≡ happened (state_of v) (events.Unmap 0 p page)
unmapped v p i page was pages at out less =
    let space : Space = record was { pages = pages } in
    let same = found v p i was at in
    let out_is : get nat_cmp pages ≡ put page None (spaces_of v p).page = rw same out in
    let len : btree_map_len pages ≡ (spaces_of v p).pages - 1 = rw same (omega arith) in
    ap (with_spaces (other_state v)) (replaced v p i was space at)
    ∙ after_unmap (other_state v) (spaces_of v) p page (seen space) (birth-at _ _ same) out_is len (copied-at _ _ same)

pub discarded : (v : Parts) (p i page made : ℕ) (was : Space) (pages : BTreeMap ℕ Page) → At v p i was → IsMade (state_of v)
    → made ≡ v.contents.made + 1 → IsSome (get nat_cmp was.pages page)
    → get nat_cmp pages ≡ put page (with_object v.contents.made (get nat_cmp was.pages page)) (get nat_cmp was.pages) → btree_map_len pages ≡ btree_map_len was.pages
    → state_of (record v { contents = record v.contents { made = made }; spaces = with_item v.spaces i (record was { pages = pages }) }) ≡ happened (state_of v) (events.Discard 0 p page)
discarded v p i page made was pages at sound more there out kept =
    let space : Space = record was { pages = pages } in
    let same = found v p i was at in
    let named : IsSome ((spaces_of v p).page page) = rw same there in
    let out_is : get nat_cmp pages ≡ put page (with_object v.contents.made ((spaces_of v p).page page)) (spaces_of v p).page = rw same out in
    let len : btree_map_len pages ≡ (spaces_of v p).pages = rw same kept in
    ap (λ (n : ℕ). with_spaces (record (other_state v) { made = n }) (at_place seen blank (slice_set v.spaces.items i space))) more
    ∙ ap (with_spaces (record (other_state v) { made = v.contents.made + 1 })) (replaced v p i was space at)
    ∙ after_discard (other_state v) (spaces_of v) p page (seen space) sound.content named (birth-at _ _ same) out_is len (copied-at _ _ same)

pub mapped : (v : Parts) (p i page n made : ℕ) (r : Rights) (was : Space) (pages : BTreeMap ℕ Page) → At v p i was → IsMade (state_of v)
    → made ≡ v.contents.made + n
    → get nat_cmp pages ≡ spread page n (pages_from page r v.contents.made) (get nat_cmp was.pages) → btree_map_len pages ≡ btree_map_len was.pages + n
    → state_of (record v { contents = record v.contents { made = made }; spaces = with_item v.spaces i (record was { pages = pages }) }) ≡ happened (state_of v) (events.Map 0 p page n r)
mapped v p i page n made r was pages at sound more out longer =
    let space : Space = record was { pages = pages } in
    let same = found v p i was at in
    let out_is : get nat_cmp pages ≡ spread page n (pages_from page r v.contents.made) (spaces_of v p).page = rw same out in
    let len : btree_map_len pages ≡ (spaces_of v p).pages + n = rw same longer in
    ap (λ (k : ℕ). with_spaces (record (other_state v) { made = k }) (at_place seen blank (slice_set v.spaces.items i space))) more
    ∙ ap (with_spaces (record (other_state v) { made = v.contents.made + n })) (replaced v p i was space at)
    ∙ after_map (other_state v) (spaces_of v) p page n r (seen space) sound.content (birth-at _ _ same) out_is len (copied-at _ _ same)

pub protected : (v : Parts) (p i page n : ℕ) (r : Rights) (was : Space) (pages : BTreeMap ℕ Page) → At v p i was
    → ((k : ℕ) → k < n → IsSome (get nat_cmp was.pages (page + k)))
    → get nat_cmp pages ≡ spread page n (λ q. with_rights r (get nat_cmp was.pages q)) (get nat_cmp was.pages) → btree_map_len pages ≡ btree_map_len was.pages
    → state_of (record v { spaces = with_item v.spaces i (record was { pages = pages }) }) ≡ happened (state_of v) (events.Protect 0 p page n r)
protected v p i page n r was pages at there out kept =
    let space : Space = record was { pages = pages } in
    let same = found v p i was at in
    let there_is : (k : ℕ) → k < n → IsSome ((spaces_of v p).page (page + k)) = rw same there in
    let out_is : get nat_cmp pages ≡ spread page n (λ q. with_rights r ((spaces_of v p).page q)) (spaces_of v p).page = rw same out in
    let len : btree_map_len pages ≡ (spaces_of v p).pages = rw same kept in
    ap (with_spaces (other_state v)) (replaced v p i was space at)
    ∙ after_protect (other_state v) (spaces_of v) p page n r (seen space) there_is (birth-at _ _ same) out_is len (copied-at _ _ same)

-- a process that is as it was, to the plain state
pub unchanged : (v : Parts) (p i : ℕ) (was space : Space) → At v p i was → seen space ≡ seen was
    → state_of (record v { spaces = with_item v.spaces i space }) ≡ state_of v
unchanged v p i was space at same =
    ap (with_spaces (other_state v)) (replaced v p i was space at ∙ put_same p (spaces_of v) (seen space) (same ∙ sym (found v p i was at)))

-- the pages may be another map, as long as they are the same to a look-up
pub same_pages : (v : Parts) (p i : ℕ) (was : Space) (pages : BTreeMap ℕ Page) → At v p i was
    → get nat_cmp pages ≡ get nat_cmp was.pages → btree_map_len pages ≡ btree_map_len was.pages
    → state_of (record v { spaces = with_item v.spaces i (record was { pages = pages }) }) ≡ state_of v
same_pages v p i was pages at kept len =
    unchanged v p i was (record was { pages = pages }) at
    (ap (λ (m : ℕ → Option Page). record (seen was) { page = m; pages = btree_map_len pages }) kept
    ∙ ap (λ (n : ℕ). record (seen was) { pages = n }) len)

pub birthed : (v : Parts) (p i : ℕ) (was space : Space) → At v p i was → seen space ≡ record (seen was) { birth = born }
    → state_of (record v { spaces = with_item v.spaces i space }) ≡ record (state_of v) { birth = put p born (state_of v).birth }
birthed v p i was space at is =
    let same = found v p i was at in
    let x : SpaceState = record (seen was) { birth = born } in
    ap (with_spaces (other_state v)) (replaced v p i was space at ∙ ap (λ (y : SpaceState). put p y (spaces_of v)) is)
    ∙ after_birth (other_state v) (spaces_of v) p x refl (page-at _ _ same) (len-at _ _ same) (copied-at _ _ same)

pub ended : (v : Parts) (parent p i : ℕ) (was space : Space) → At v p i was → seen space ≡ record (seen was) { birth = born; copied = λ _ _. false }
    → state_of (record v { spaces = with_item v.spaces i space }) ≡ happened (state_of v) (events.ForkEnd parent p)
ended v parent p i was space at is =
    let same = found v p i was at in
    let x : SpaceState = record (seen was) { birth = born; copied = λ _ _. false } in
    ap (with_spaces (other_state v)) (replaced v p i was space at ∙ ap (λ (y : SpaceState). put p y (spaces_of v)) is)
    ∙ after_end (other_state v) (spaces_of v) parent p x refl (page-at _ _ same) (len-at _ _ same) refl

pub ended_badly : (v : Parts) (p i : ℕ) (was space : Space) → At v p i was → seen space ≡ record blank { birth = failed }
    → state_of (record v { spaces = with_item v.spaces i space }) ≡ happened (state_of v) (events.ForkFail p)
ended_badly v p i was space at is =
    ap (with_spaces (other_state v)) (replaced v p i was space at ∙ ap (λ (y : SpaceState). put p y (spaces_of v)) is)
    ∙ after_fail (other_state v) (spaces_of v) p

-- the pages of a process have numbers that pages may have
pub numbered : (v : Parts) (p : ℕ) (from : Space) → IsMade (state_of v) → seen from ≡ spaces_of v p → AreNumbered (get nat_cmp from.pages)
numbered v p from sound is = subst (λ (x : SpaceState). AreNumbered x.page) (sym is) (λ page. sound.numbers p page)

abbrev sprout : (parent : ℕ) → BTreeMap ℕ Page → SpaceState
sprout parent pages = record { birth = growing parent; page = get nat_cmp pages; pages = btree_map_len pages; copied = λ _ _. false }

pub begun : (v : Parts) (parent p i made : ℕ) (was space from : Space) (pages : BTreeMap ℕ Page) → At v p i was → IsMade (state_of v)
    → made ≡ v.contents.made + 34359738368 → seen from ≡ spaces_of v parent
    → get nat_cmp pages ≡ own_objects v.contents.made (get nat_cmp from.pages) → btree_map_len pages ≡ mapped_pages (λ page. right_in (get nat_cmp from.pages page))
    → seen space ≡ sprout parent pages
    → state_of (record v { contents = record v.contents { made = made }; spaces = with_item v.spaces i space }) ≡ happened (state_of v) (events.ForkBegin parent p)
begun v parent p i made was space from pages at sound more from_is own kept is =
    let x = sprout parent pages in
    let more_is : made ≡ v.contents.made + page_numbers = more ∙ ap (λ (n : ℕ). v.contents.made + n) (sym page_numbers-is) in
    let own_is : get nat_cmp pages ≡ own_objects v.contents.made (spaces_of v parent).page = rw (← from_is) own in
    let len : btree_map_len pages ≡ mapped_pages (λ page. right_in ((spaces_of v parent).page page)) = rw (← from_is) kept in
    ap (λ (k : ℕ). with_spaces (record (other_state v) { made = k }) (at_place seen blank (slice_set v.spaces.items i space))) more_is
    ∙ ap (with_spaces (record (other_state v) { made = v.contents.made + page_numbers })) (replaced v p i was space at ∙ ap (λ (y : SpaceState). put p y (spaces_of v)) is)
    ∙ after_grow (other_state v) (spaces_of v) parent p x sound.content refl own_is len refl

abbrev same_contents : Parts → Contents → (ℕ → SpaceState) → ℕ → PlainState
same_contents v contents spaces made = with_spaces (record (other_state v) { content = content_of contents; made = made }) spaces

pages-seen : (space was : Space) → space.pages ≡ was.pages → (seen space).page ≡ (seen was).page
pages-seen space was same = ap (λ (m : BTreeMap ℕ Page). get nat_cmp m) same

len-seen : (space was : Space) → space.pages ≡ was.pages → (seen space).pages ≡ (seen was).pages
len-seen space was same = ap (λ (m : BTreeMap ℕ Page). btree_map_len m) same

birth-seen : (space was : Space) → space.birth ≡ was.birth → (seen space).birth ≡ (seen was).birth
birth-seen space was same = ap (λ (b : Stage). birth_of b) same

pub page_copied : (v : Parts) (parent p i page from to : ℕ) (was space : Space) (contents : Contents) → At v p i was
    → (state_of v).object parent page ≡ from → (state_of v).object p page ≡ to
    → contents.made ≡ v.contents.made → content_of contents ≡ put to (spread 0 512 (content_of v.contents from) (content_of v.contents to)) (content_of v.contents)
    → space.birth ≡ was.birth → space.pages ≡ was.pages → copied_of space ≡ put page (spread 0 512 (λ _. true) (copied_of was page)) (copied_of was)
    → state_of (record v { contents = contents; spaces = with_item v.spaces i space }) ≡ happened (state_of v) (events.ForkPage parent p page)
page_copied v parent p i page from to was space contents at is_from is_to made content birth pages copied =
    let same = found v p i was at in
    let flags : copied_of space ≡ put page (spread 0 512 (λ _. true) ((spaces_of v p).copied page)) (spaces_of v p).copied = rw same copied in
    ap (same_contents v contents (at_place seen blank (slice_set v.spaces.items i space))) made
    ∙ ap (λ (f : ℕ → SpaceState). same_contents v contents f v.contents.made) (replaced v p i was space at)
    ∙ after_page (other_state v) (spaces_of v) parent p page from to (seen space) (content_of contents) is_from is_to content
    (birth-seen space was birth ∙ birth-at _ _ same) (pages-seen space was pages ∙ page-at _ _ same) (len-seen space was pages ∙ len-at _ _ same) flags

pub word_copied : (v : Parts) (parent p i page word from to value : ℕ) (was space : Space) (contents : Contents) → At v p i was
    → (state_of v).object parent page ≡ from → (state_of v).object p page ≡ to → value ≡ content_of v.contents from word
    → contents.made ≡ v.contents.made → content_of contents ≡ put2 to word value (content_of v.contents)
    → space.birth ≡ was.birth → space.pages ≡ was.pages → copied_of space ≡ put page (put word true (copied_of was page)) (copied_of was)
    → state_of (record v { contents = contents; spaces = with_item v.spaces i space }) ≡ happened (state_of v) (events.ForkWord parent p page word)
word_copied v parent p i page word from to value was space contents at is_from is_to is made content birth pages copied =
    let same = found v p i was at in
    let flags : copied_of space ≡ put page (put word true ((spaces_of v p).copied page)) (spaces_of v p).copied = rw same copied in
    ap (same_contents v contents (at_place seen blank (slice_set v.spaces.items i space))) made
    ∙ ap (λ (f : ℕ → SpaceState). same_contents v contents f v.contents.made) (replaced v p i was space at)
    ∙ after_word (other_state v) (spaces_of v) parent p page word from to value (seen space) (content_of contents) is_from is_to is content
    (birth-seen space was birth ∙ birth-at _ _ same) (pages-seen space was pages ∙ page-at _ _ same) (len-seen space was pages ∙ len-at _ _ same) flags

-- only what is copied may be another map, as long as it is the same to a look-up, and so for the contents
pub untouched : (v : Parts) (p i : ℕ) (was space : Space) (contents : Contents) → At v p i was
    → contents.made ≡ v.contents.made → content_of contents ≡ content_of v.contents
    → space.birth ≡ was.birth → space.pages ≡ was.pages → copied_of space ≡ copied_of was
    → state_of (record v { contents = contents; spaces = with_item v.spaces i space }) ≡ state_of v
untouched v p i was space contents at made content birth pages copied =
    let alike : seen space ≡ seen was =
    ap (λ (b : Birth). record (seen space) { birth = b }) (birth-seen space was birth)
    ∙ ap (λ (m : BTreeMap ℕ Page). record { birth = birth_of was.birth; page = get nat_cmp m; pages = btree_map_len m; copied = copied_of space }) pages
    ∙ ap (λ (c : ℕ → ℕ → Bool). record (seen was) { copied = c }) copied in
    ap (same_contents v contents (at_place seen blank (slice_set v.spaces.items i space))) made
    ∙ ap (λ (c : ℕ → ℕ → ℕ). with_spaces (record (other_state v) { content = c }) (at_place seen blank (slice_set v.spaces.items i space))) content
    ∙ unchanged v p i was space at alike
