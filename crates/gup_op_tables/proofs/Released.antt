-- The tables of a failed child go page by page.
use Rattle.std.proofs.Common.{add-zero, length, get_or, slice_get, inl, inr, ◌≡◌, ℕ, ◌+◌, ◌-◌, ◌<◌, ◌≤◌, ◌^◌, ◌↔◌, nat_lt, Bool, true, false, is_some, List, [], ◌++◌, Option, Some, None, MatchOption, refl, sym, ap, subst, ◌∙◌, zero, suc, arith}
use Rattle.std.proofs.lemmas.Bool.Decides.{nat_tests}
use Rattle.std.proofs.lemmas.Option.{slice_get_within, slice_get_cases}
use Rattle.gup_base.specs.declared.entry.Rights.{Rights}
use Rattle.gup_plain.specs.Event.{page_numbers}
use Rattle.gup_maps.specs.Maps.{IsNextPage, IsLastPage}
use Rattle.gup_tables.specs.Pool.{PoolValue}
use Rattle.gup_space.specs.Space.{SpaceValue, SpaceParts, space_of}
use Rattle.gup_space.specs.Shows.{ShowsPool}
use Rattle.gup_spec_events.specs.State.{CoreState}
use Rattle.gup_spec_events.specs.Event.{CoreEvent, run}
use Rattle.gup_spec_events.specs.Growth.{retires}
use Rattle.gup_spec_events.proofs.Runs.{run_behind}
use Rattle.gup_spec_turns.specs.TableTurns.{if_mapped, retires_at, retires_mapped}
use Rattle.gup_op_tables.proofs.Replaced.{index_any}
use Rattle.gup_op_tables.specs.Alike.{IsAlike, EachPair, ShowsEach}
use Rattle.gup_op_tables.specs.Released.{HasNone, OwnsAt, right_at, rights_of, IsBehind, IsReleased}

module _ (a c : ℕ) (right : ℕ → Option Rights) where
  -- pages that aren't mapped are passed
  skips : (k n m total : ℕ) (t : CoreState) → total ≡ n + m → ((g : ℕ) → k ≤ g → g < k + n → right g ≡ None) → retires_mapped t a c right k total ≡ retires_mapped t a c right (k + n) m
  skips k zero m total t is none =
      let same : total ≡ m = omega (arith, is) in
      ap (λ j. retires_mapped t a c right k j) same ∙ ap (λ j. retires_mapped t a c right j m) (sym (add-zero k))
  skips k (suc n) m zero t is none = absurd (omega (arith, is))
  skips k (suc n) m (suc total) t is none =
      let nil : retires_at t a (if_mapped c k (right k)) ≡ [] = ap (λ (r : Option Rights). retires_at t a (if_mapped c k r)) (none k (omega arith) (omega arith)) in
      ap (λ (es : List CoreEvent). es ++ retires_mapped (run t es) a c right (k + 1) total) nil
      ∙ skips (k + 1) n m total t (omega (arith, is)) (λ g low high. none g (omega (arith, low)) (omega (arith, high)))
      ∙ ap (λ j. retires_mapped t a c right j m) (omega arith)

  pub none_left : (k n : ℕ) (t : CoreState) → ((g : ℕ) → k ≤ g → g < k + n → right g ≡ None) → retires_mapped t a c right k n ≡ []
  none_left k n t none = skips k n 0 n t (omega arith) none

  -- and the tables of a mapped one go
  takes_one : (page m : ℕ) (o : Option Rights) (t : CoreState) → right page ≡ o → is_some o ≡ true → run t (retires_mapped t a c right page (suc m)) ≡ run (run t (retires t a c page)) (retires_mapped (run t (retires t a c page)) a c right (page + 1) m)
  takes_one page m None t is some = absurd cc
  takes_one page m (Some rights) t is some =
      ap (λ (r : Option Rights). run t (retires_at t a (if_mapped c page r) ++ retires_mapped (run t (retires_at t a (if_mapped c page r))) a c right (page + 1) m)) is
      ∙ run_behind t (retires t a c page) (retires_mapped (run t (retires t a c page)) a c right (page + 1) m)

  pub next_page : (from page end : ℕ) (t : CoreState) → from ≤ page → page < end → is_some (right page) ≡ true → ((g : ℕ) → from ≤ g → g < page → right g ≡ None)
      → run t (retires_mapped t a c right from (end - from)) ≡ run (run t (retires t a c page)) (retires_mapped (run t (retires t a c page)) a c right (page + 1) (end - (page + 1)))
  next_page from page end t above below mapped none =
      let there : from + (page - from) ≡ page = omega (arith, above) in
      let all : end - from ≡ page - from + suc (end - (page + 1)) = omega (arith, above, below) in
      ap (run t) (skips from (page - from) (suc (end - (page + 1))) (end - from) t all (λ g low high. none g low (omega (arith, high, there))))
      ∙ ap (λ j. run t (retires_mapped t a c right j (suc (end - (page + 1))))) there
      ∙ takes_one page (end - (page + 1)) (right page) t refl mapped

none_off : (n : ℕ) → n ≡ n - 0
none_off n = omega arith

-- a list has an element at each of its places
pub there : {X : Type 0} (xs : List X) (q : ℕ) → q < length xs → (x : X) × (slice_get xs q ≡ Some x)
there xs q within =
    elim (slice_get_cases xs q).1 [
      | inl found ↦ (found.0, found.2)
      | inr past ↦ absurd (omega (arith, past.0, within))
    ]

-- a process of the list before has one behind, at the same place
pub alike_each : (old mid new : List SpaceParts) → length mid ≡ length old → EachPair IsAlike old mid → EachPair IsAlike mid new → EachPair IsAlike old new
alike_each old mid new many first then p was now was_there now_there =
    let between = there mid p (omega (arith, many, slice_get_within old p was was_there)) in
    let one = first p was between.0 was_there between.1 in
    let two = then p between.0 now between.1 now_there in
    two ∙ ap (λ (x : SpaceValue). record x { place = (space_of now).place; retired = (space_of now).retired }) one

module _ (c : ℕ) (right : ℕ → Option Rights) (old_pool : PoolValue) (old : List SpaceParts) where
  pub begins : OwnsAt old c old_pool → IsReleased c right old_pool old_pool old old 0
  begins own =
      record {
        few = omega arith;
        many = refl;
        own = own;
        tables = refl;
        alike = λ p was now here there. same_alike was now (cc (sym here ∙ there));
        leads = λ s a pool each. (s, (pool, each, ap (λ (n : ℕ). run s (retires_mapped s a c right 0 n)) (none_off page_numbers)));
      }
    where
      same_alike : (was now : SpaceParts) → was ≡ now → IsAlike (space_of was) (space_of now)
      same_alike was now same = subst (λ (x : SpaceParts). IsAlike (space_of was) (space_of x)) same refl

  pub goes_on : (pool new_pool : PoolValue) (spaces new : List SpaceParts) (from page next : ℕ) → next ≡ page + 1 → page < page_numbers → from ≤ page → is_some (right page) ≡ true
      → ((g : ℕ) → from ≤ g → g < page → right g ≡ None) → length new ≡ length spaces → OwnsAt new c new_pool → new_pool.tables ≡ pool.tables → EachPair IsAlike spaces new
      → ((s : CoreState) (a : ℕ) → ShowsPool pool s → ShowsEach spaces s → ShowsPool new_pool (run s (retires s a c page)) × ShowsEach new (run s (retires s a c page)))
      → IsReleased c right old_pool pool old spaces from → IsReleased c right old_pool new_pool old new next
  goes_on pool new_pool spaces new from page next is below above mapped none many own tables alike led h =
      record {
        few = omega (arith, is, below);
        many = many ∙ h.many;
        own = own;
        tables = tables ∙ h.tables;
        alike = alike_each old spaces new h.many h.alike alike;
        leads = λ s a free shown.
            let b = h.leads s a free shown in
            let t : CoreState = b.0 in
            let now = led t a b.1.0 b.1.1 in (
              run t (retires t a c page),
              (
                now.0,
                now.1,
                b.1.2 ∙ next_page a c right from page page_numbers t above below mapped none
                    ∙ ap (λ j. run (run t (retires t a c page)) (retires_mapped (run t (retires t a c page)) a c right j (page_numbers - j))) (sym is),
              ),
            );
      }

  pub ends : (pool : PoolValue) (spaces : List SpaceParts) (from : ℕ) → HasNone right from → IsReleased c right old_pool pool old spaces from
      → (s : CoreState) (a : ℕ) → ShowsPool old_pool s → ShowsEach old s
      → ShowsPool pool (run s (retires_mapped s a c right 0 page_numbers)) × ShowsEach spaces (run s (retires_mapped s a c right 0 page_numbers))
  ends pool spaces from none h s a free shown = over (h.leads s a free shown)
    where
      over : ((t : CoreState) × IsBehind right pool spaces from s t a c) → ShowsPool pool (run s (retires_mapped s a c right 0 page_numbers)) × ShowsEach spaces (run s (retires_mapped s a c right 0 page_numbers))
      over b =
          let t : CoreState = b.0 in
          let nil : retires_mapped t a c right from (page_numbers - from) ≡ [] = none_left a c right from (page_numbers - from) t (λ g low high. none g low (omega (arith, high, h.few))) in
          let same : run s (retires_mapped s a c right 0 page_numbers) ≡ t = b.1.2 ∙ ap (run t) nil in
          (subst (λ (u : CoreState). ShowsPool pool u) (sym same) b.1.0, subst (λ (u : CoreState). ShowsEach spaces u) (sym same) b.1.1)

-- the pages that the parent has mapped are the same all along
pub same_rights : (c p : ℕ) (old_pool pool : PoolValue) (old spaces : List SpaceParts) (from : ℕ) (now : SpaceParts) → p < length old → IsReleased c (right_at old p) old_pool pool old spaces from → slice_get spaces p ≡ Some now → (space_of now).right ≡ right_at old p
same_rights c p old_pool pool old spaces from now within h is =
    let was = there old p within in
    ap (λ (x : SpaceValue). x.right) (h.alike p was.0 now was.1 is) ∙ sym (ap rights_of was.1)

pub now_rights : (c p : ℕ) (old_pool pool : PoolValue) (old spaces : List SpaceParts) (from index : ℕ) (d : SpaceParts) → index ≡ p → p < length old → IsReleased c (right_at old p) old_pool pool old spaces from → (space_of (get_or spaces index d)).right ≡ right_at old p
now_rights c p old_pool pool old spaces from index d is within h =
    let many = h.many in
    same_rights c p old_pool pool old spaces from (get_or spaces index d) within h (index_any spaces index p d is (omega (arith, many, within)))

-- they are those of the state
pub state_rights : (s : CoreState) (p : ℕ) (spaces : List SpaceParts) (space : SpaceParts) → slice_get spaces p ≡ Some space → ShowsEach spaces s → s.right p ≡ right_at spaces p
state_rights s p spaces space here shown = (λ i page. (shown p space here).right page i) ∙ sym (ap rights_of here)

-- what is found from a number on
pub found_from : (right : ℕ → Option Rights) (from : ℕ) (found : Option ℕ) → MatchOption found (IsLastPage right from) (IsNextPage right from) → MatchOption found (HasNone right from) (IsNextPage right from)
found_from right from None last = λ g low high. last g low
found_from right from (Some page) next = next

-- nothing is past the last page
pub none_past : (right : ℕ → Option Rights) (from : ℕ) → page_numbers ≤ from → HasNone right from
none_past right from past = λ g low high. absurd (omega (arith, past, low, high))

-- numbers of pages
pub below_page : (number page : ℕ) → number ≡ page → number < 2 ^ 35 → page < page_numbers
unfolding page_numbers
below_page number page is below = omega (arith, is, below)

-- fewer pages are left behind the one that was found
pub fewer_left : (from page number : ℕ) → from ≤ page → number ≡ page → number < 2 ^ 35 → page_numbers - (number + 1) < page_numbers - from
unfolding page_numbers
fewer_left from page number above is below = omega (arith, above, is, below)

pub past_numbers : (from : ℕ) (found : Option ℕ) → found ≡ None → ((is_some found ≡ true) ↔ (from < 2 ^ 35)) → page_numbers ≤ from
unfolding page_numbers
past_numbers from found none both = go (nat_lt from (2 ^ 35)) refl
  where
    go : (b : Bool) → nat_lt from (2 ^ 35) ≡ b → page_numbers ≤ from
    go true is =
        let some : is_some found ≡ true = both.1 (grind (arith, nat_tests, is)) in
        let gone : is_some found ≡ false = rw none refl in
        absurd cc
    go false is = grind (arith, nat_tests, is)
