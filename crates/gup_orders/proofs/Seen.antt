-- The places that verdicts name.
use Rattle.std.proofs.Common.{◌≡◌, ℕ, ◌<◌, ◌^◌, Bool, true, false, not, List, [], ◌∷◌, Option, Some, None, length, nat_lt, if◌then◌else◌, refl, arith}
use Rattle.std.specs.List.{position_or_len}
use Rattle.std.proofs.lemmas.Bool.{ltb-true}
use Rattle.gup_conditions.specs.Line.{LineValue}
use Rattle.gup_conditions.specs.Condition.{ConditionValue}
use Rattle.gup_conditions.specs.Verdict.{first_place, shown_or, shows_all, judged}
use Rattle.gup_conditions.specs.declared.condition.Often.{Often}
use Rattle.gup_conditions.specs.declared.condition.Often.TheVariants.{Never, Sometimes, Always}
use Rattle.gup_conditions.specs.declared.shown.Shown.{Shown}
use Rattle.gup_conditions.specs.declared.verdict.Verdict.{Verdict}
use Rattle.gup_conditions.specs.declared.verdict.Verdict.TheVariants.{Yes, No}
use Rattle.gup_orders.specs.Found.{Findings, verdicts_on}
use Rattle.gup_orders.specs.Written.{IsPlace, IsSeen, AreSeen}

place_found : (test : Shown → Bool) (xs : List Shown) → length xs < 2 ^ 63 → IsPlace (first_place test xs)
place_found test xs few = by_test (nat_lt (position_or_len test xs) (length xs)) refl
  where
    by_test : (b : Bool) → nat_lt (position_or_len test xs) (length xs) ≡ b → IsPlace (if b then Some (position_or_len test xs) else None)
    by_test true within = let less = ltb-true (position_or_len test xs) (length xs) within in omega (arith, few, less)
    by_test false past = tt

seen_or : (seen : Option ℕ) (shows : Option ℕ → Verdict) (is_open : Bool) (other : Verdict) → ((o : Option ℕ) → IsPlace o → IsSeen (shows o)) → IsSeen other → IsPlace seen → IsSeen (shown_or seen shows is_open other)
seen_or (Some k) shows is_open other tells else_so place = tells (Some k) place
seen_or None shows true other tells else_so place = tt
seen_or None shows false other tells else_so place = else_so

judged_seen : (often : Often) (wanted : List LineValue) (outcomes : List Shown) (is_open : Bool) → length outcomes < 2 ^ 63 → IsSeen (judged often wanted outcomes is_open)
judged_seen Never wanted outcomes is_open few = seen_or (first_place (shows_all wanted) outcomes) No is_open (Yes None) (λ o p. p) tt (place_found (shows_all wanted) outcomes few)
judged_seen Sometimes wanted outcomes is_open few = seen_or (first_place (shows_all wanted) outcomes) Yes is_open (No None) (λ o p. p) tt (place_found (shows_all wanted) outcomes few)
judged_seen Always wanted outcomes is_open few =
    seen_or (first_place (λ (shown : Shown). not (shows_all wanted shown)) outcomes) No is_open (Yes None) (λ o p. p) tt (place_found (λ (shown : Shown). not (shows_all wanted shown)) outcomes few)

pub all_seen : (found : Findings) (conditions : List ConditionValue) → length found.outcomes < 2 ^ 63 → AreSeen (verdicts_on found conditions)
all_seen found [] few = tt
all_seen found (condition ∷ conditions) few = (judged_seen condition.often condition.lines found.outcomes found.is_open few, all_seen found conditions few)
