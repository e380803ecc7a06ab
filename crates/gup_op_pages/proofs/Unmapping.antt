-- What an unmap, a discard or an exit makes of frames and a process is the turn's.
use Rattle.std.proofs.Common.{◌≡◌, ℕ, ◌+◌, ◌<◌, ◌≤◌, ◌⊎◌, inl, inr, eq-or-lt_of_le, Bool, true, false, cond, [], ◌∷◌, Option, Some, None, IsSome, is_some, zero, suc, refl, ap, ◌∙◌, arith}
use Rattle.gup_base.specs.declared.entry.Entry.{Entry}
use Rattle.gup_base.specs.declared.entry.Rights.{Rights}
use Rattle.gup_plain.specs.Event.{page_numbers}
use Rattle.gup_plain.specs.Put.{lowest}
use Rattle.gup_plain.specs.declared.answer.Answer.TheVariants as answers
use Rattle.gup_plain.specs.declared.event.PlainEvent.TheVariants as events
use Rattle.gup_plain.specs.declared.note.What.TheVariants.{Done}
use Rattle.gup_maps.specs.Maps.{IsNextPage, IsLastPage}
use Rattle.gup_space.specs.Space.{SpaceValue}
use Rattle.gup_space.specs.Shows.{Change, ShowsSpace, AreEvents}
use Rattle.gup_spec_events.specs.State.{CoreState}
use Rattle.gup_spec_events.specs.Event.{run}
use Rattle.gup_spec_events.specs.Fault.{takes_down, discards}
use Rattle.gup_spec_turns.specs.PageTurns.{unmap_turn, discard_turn, exit_turn, exit_turn_by, lowest_page}
use Rattle.gup_spec_turns.proofs.TurnParts.{unmap_turn_by, discard_turn_by}
use Rattle.gup_op_base.specs.Said.{whats_of, passed_said}
use Rattle.gup_op_base.specs.Turns.{Leads, IsTurnOf, Anywhere}
use Rattle.gup_op_base.proofs.Leading.{leads_alike}
use Rattle.gup_op_base.proofs.Searching.{lowest_same}
use Rattle.gup_op_pages.specs.Alone.{AloneView, ShowsAlone}
use Rattle.gup_op_pages.proofs.Viewing.{before, behind, events_show}

-- the answer comes at the last page
pub ends_last : (last : Bool) → last ≡ is_some (cond last (Some answers.Plain) None)
ends_last true = refl
ends_last false = refl

-- ---- unmap

-- Two turns have the same events, and the one leads.
down_by : (new : AloneView) (a p page : ℕ) (rights : Option Rights) (entry : Option Entry) (last : Bool) (s : CoreState)
    → ShowsAlone p new (run s (takes_down a p page rights entry))
    → Leads (ShowsAlone p) new s (unmap_turn_by rights a p page entry last) (whats_of (passed_said (is_some rights) (events.Unmap a p page) last))
down_by new a p page None entry true s shown = record { says = refl; shown = shown }
down_by new a p page None entry false s shown = record { says = refl; shown = shown }
down_by new a p page (Some rights) None true s shown = record { says = refl; shown = shown }
down_by new a p page (Some rights) None false s shown = record { says = refl; shown = shown }
down_by new a p page (Some rights) (Some e) true s shown = record { says = refl; shown = shown }
down_by new a p page (Some rights) (Some e) false s shown = record { says = refl; shown = shown }

pub unmapped : (c : Change) (a p page : ℕ) (last : Bool) → c.old_space.table ≡ None
    → AreEvents c (λ b q. takes_down b q page (c.old_space.right page) (c.old_space.entry page))
    → IsTurnOf (ShowsAlone p) Anywhere (before c) (behind c) (λ s. unmap_turn s a p page last) (whats_of (passed_said (is_some (c.old_space.right page)) (events.Unmap a p page) last))
unmapped c a p page last unlocked made s shown stands =
    leads_alike
    (ap (λ r. unmap_turn_by r a p page (s.entry p page) last) (shown.space.right page) ∙ ap (λ e. unmap_turn_by (c.old_space.right page) a p page e last) (shown.space.entry page))
    (down_by (behind c) a p page (c.old_space.right page) (c.old_space.entry page) last s (events_show made s a p unlocked shown))

-- ---- discard

discarded_by : (new : AloneView) (a p page : ℕ) (rights : Option Rights) (entry : Option Entry) (last : Bool) (s : CoreState)
    → ShowsAlone p new (run s (discards a p page rights entry))
    → Leads (ShowsAlone p) new s (discard_turn_by rights a p page entry last) (whats_of (passed_said (is_some rights) (events.Discard a p page) last))
discarded_by new a p page None entry true s shown = record { says = refl; shown = shown }
discarded_by new a p page None entry false s shown = record { says = refl; shown = shown }
discarded_by new a p page (Some rights) None true s shown = record { says = refl; shown = shown }
discarded_by new a p page (Some rights) None false s shown = record { says = refl; shown = shown }
discarded_by new a p page (Some rights) (Some e) true s shown = record { says = refl; shown = shown }
discarded_by new a p page (Some rights) (Some e) false s shown = record { says = refl; shown = shown }

pub discarded : (c : Change) (a p page : ℕ) (last : Bool) → c.old_space.table ≡ None
    → AreEvents c (λ b q. discards b q page (c.old_space.right page) (c.old_space.entry page))
    → IsTurnOf (ShowsAlone p) Anywhere (before c) (behind c) (λ s. discard_turn s a p page last) (whats_of (passed_said (is_some (c.old_space.right page)) (events.Discard a p page) last))
discarded c a p page last unlocked made s shown stands =
    leads_alike
    (ap (λ r. discard_turn_by r a p page (s.entry p page) last) (shown.space.right page) ∙ ap (λ e. discard_turn_by (c.old_space.right page) a p page e last) (shown.space.entry page))
    (discarded_by (behind c) a p page (c.old_space.right page) (c.old_space.entry page) last s (events_show made s a p unlocked shown))

-- ---- exit

-- the lowest of n numbers from the first on that passes, where those before it don't
pub found_at : (first n f : ℕ) (test : ℕ → Bool) → first ≤ f → f < first + n → test f ≡ true → ((k : ℕ) → first ≤ k → k < f → test k ≡ false) → lowest first n test ≡ Some f
found_at first zero f test from below passes others = absurd (omega arith)
found_at first (suc n) f test from below passes others =
    go (test first) refl (λ more. found_at (first + 1) n f test more (omega arith) passes (λ k least less. others k (omega arith) less))
  where
    here : (first ≡ f) ⊎ (first < f) → test first ≡ true → first ≡ f
    here (inl same) is = same
    here (inr less) is = let failed : test first ≡ false = others first (omega arith) less in absurd (cc)

    further : (first ≡ f) ⊎ (first < f) → test first ≡ false → first + 1 ≤ f
    further (inl same) is = let passed : test first ≡ true = ap test same ∙ passes in absurd (cc)
    further (inr less) is = omega arith

    go : (b : Bool) → test first ≡ b → (first + 1 ≤ f → lowest (first + 1) n test ≡ Some f) → cond b (Some first) (lowest (first + 1) n test) ≡ Some f
    go true is later = ap (λ (k : ℕ). Some k) (here (eq-or-lt_of_le from) is)
    go false is later = later (further (eq-or-lt_of_le from) is)

pub none_found : (first n : ℕ) (test : ℕ → Bool) → ((k : ℕ) → first ≤ k → test k ≡ false) → lowest first n test ≡ None
none_found first zero test others = refl
none_found first (suc n) test others =
    ap (λ b. cond b (Some first) (lowest (first + 1) n test)) (others first (omega arith)) ∙ none_found (first + 1) n test (λ k least. others k (omega arith))

pub unmapped_is : (rights : Option Rights) → rights ≡ None → is_some rights ≡ false
unmapped_is rights none = ap is_some none

lowest_is : (right : ℕ → Option Rights) (page : ℕ) → page < page_numbers → IsNextPage right 0 page → lowest_page right ≡ Some page
lowest_is right page below h = found_at 0 page_numbers page (λ g. is_some (right g)) (omega arith) (omega arith) h.mapped (λ k least less. unmapped_is (right k) (h.least k least less))

state_lowest : (S : SpaceValue) (p : ℕ) (s : CoreState) → ShowsSpace p S s → lowest_page (s.right p) ≡ lowest_page S.right
state_lowest S p s space = lowest_same 0 page_numbers (λ g. is_some (s.right p g)) (λ g. is_some (S.right g)) (λ g. ap is_some (space.right g))

pub exited_none : (old : AloneView) (a p : ℕ) → IsLastPage old.space.right 0 → IsTurnOf (ShowsAlone p) Anywhere old old (λ s. exit_turn s a p) (Done answers.Plain ∷ [])
exited_none old a p last s shown stands =
    leads_alike
    (ap (λ o. exit_turn_by s a p o) (state_lowest old.space p s shown.space ∙ none_found 0 page_numbers (λ g. is_some (old.space.right g)) (λ k least. unmapped_is (old.space.right k) (last k least))))
    (record { says = refl; shown = shown })

exit_by : (new : AloneView) (a p page : ℕ) (rights : Option Rights) (entry : Option Entry) (s : CoreState) → IsSome rights → s.entry p page ≡ entry
    → ShowsAlone p new (run s (takes_down a p page rights entry))
    → Leads (ShowsAlone p) new s (exit_turn_by s a p (Some page)) (whats_of (record { event = Some (events.Unmap a p page); next = None; answer = None }))
exit_by new a p page None entry s some found shown = absurd (cc)
exit_by new a p page (Some rights) None s some found shown =
    rw found (record { says = refl; shown = shown })
exit_by new a p page (Some rights) (Some e) s some found shown =
    rw found (record { says = refl; shown = shown })

pub exited : (c : Change) (a p page : ℕ) → c.old_space.table ≡ None → page < page_numbers → IsNextPage c.old_space.right 0 page
    → AreEvents c (λ b q. takes_down b q page (c.old_space.right page) (c.old_space.entry page))
    → IsTurnOf (ShowsAlone p) Anywhere (before c) (behind c) (λ s. exit_turn s a p) (whats_of (record { event = Some (events.Unmap a p page); next = None; answer = None }))
exited c a p page unlocked below next made s shown stands =
    leads_alike
    (ap (λ o. exit_turn_by s a p o) (state_lowest c.old_space p s shown.space ∙ lowest_is c.old_space.right page below next))
    (exit_by (behind c) a p page (c.old_space.right page) (c.old_space.entry page) s next.mapped (shown.space.entry page) (events_show made s a p unlocked shown))

pub below_numbers : (S : SpaceValue) (page : ℕ) → ((g : ℕ) (rights : Rights) → S.right g ≡ Some rights → g < page_numbers) → IsSome (S.right page) → page < page_numbers
below_numbers S page numbered mapped = go (S.right page) refl mapped
  where
    go : (rights : Option Rights) → S.right page ≡ rights → IsSome rights → page < page_numbers
    go None is some = absurd (cc)
    go (Some rights) is some = numbered page rights is
