-- Verdicts on what was found are right, and who waits there waits for something of the script.
use Rattle.std.proofs.Common.{◌≡◌, ℕ, ◌<◌, ◌≤◌, Bool, true, false, not, List, [], ◌∷◌, ◌++◌, Option, Some, None, length, slice_get, get_or, zero, suc, refl, sym, ap, subst, ◌∙◌, inl, inr, arith}
use Rattle.std.proofs.lemmas.Option.{slice_get_within, get_or_from_slice_get}
use Rattle.gup_plain.specs.declared.note.Waiting.{Waiting}
use Rattle.gup_script.specs.Script.{ScriptValue}
use Rattle.gup_lines.specs.Text.{NamesWaiting}
use Rattle.gup_spec_turns.specs.Cause.{WaitsForBirthOrPin}
use Rattle.gup_spec_turns.specs.Run.{run_start, turned, waiting_in}
use Rattle.gup_spec_orders.specs.Orders.{IsOrder, setup}
use Rattle.gup_spec_orders.specs.declared.told.Named.{Named}
use Rattle.gup_conditions.specs.Line.{LineValue}
use Rattle.gup_conditions.specs.Condition.{ConditionValue}
use Rattle.gup_conditions.specs.Named.{AreNamed, named_of}
use Rattle.gup_conditions.specs.Reading.{AllPrint, AreConditions}
use Rattle.gup_conditions.specs.Shown.{AreShown, AreAllShown}
use Rattle.gup_conditions.specs.Verdict.{first_place, shown_or, shows_all, judged, IsRight}
use Rattle.gup_conditions.specs.declared.condition.Often.{Often}
use Rattle.gup_conditions.specs.declared.condition.Often.TheVariants.{Never, Sometimes, Always}
use Rattle.gup_conditions.specs.declared.shown.Shown.{Shown}
use Rattle.gup_conditions.specs.declared.verdict.Verdict.{Verdict}
use Rattle.gup_conditions.specs.declared.verdict.Verdict.TheVariants.{Yes, No}
use Rattle.gup_conditions.proofs.Verdicts.{some_prints, none_prints, some_lacks, each_prints}
use Rattle.gup_conditions.proofs.NamedOperations.{all_named}
use Rattle.gup_orders.specs.Found.{Findings, AreFindings, AreRight}
use Rattle.gup_orders.specs.Written.{AreNamedWaits}

-- ---- verdicts

unless : (script : ScriptValue) (behind : Bool) (condition : ConditionValue) (shows : Option ℕ → Verdict) (is_open : Bool) (verdict : Verdict) → (is_open ≡ false → IsRight script behind condition verdict) → IsRight script behind condition (shown_or None shows is_open verdict)
unless script behind condition shows true verdict right = tt
unless script behind condition shows false verdict right = right refl

never_right : (script : ScriptValue) (behind : Bool) (named : List Named) (outcomes : List Shown) (is_open : Bool) (wanted : List LineValue) → AreNamed named wanted → AreShown script behind named outcomes → (is_open ≡ false → AreAllShown script behind named outcomes)
    → (o : Option ℕ) → first_place (shows_all wanted) outcomes ≡ o → IsRight script behind (record { often = Never; lines = wanted }) (shown_or o No is_open (Yes None))
never_right script behind named outcomes is_open wanted are shown all (Some k) first = some_prints script behind named outcomes wanted k are shown first
never_right script behind named outcomes is_open wanted are shown all None none =
    unless script behind (record { often = Never; lines = wanted }) No is_open (Yes None) (λ closed. none_prints script behind named outcomes wanted are (all closed) none)

sometimes_right : (script : ScriptValue) (behind : Bool) (named : List Named) (outcomes : List Shown) (is_open : Bool) (wanted : List LineValue) → AreNamed named wanted → AreShown script behind named outcomes → (is_open ≡ false → AreAllShown script behind named outcomes)
    → (o : Option ℕ) → first_place (shows_all wanted) outcomes ≡ o → IsRight script behind (record { often = Sometimes; lines = wanted }) (shown_or o Yes is_open (No None))
sometimes_right script behind named outcomes is_open wanted are shown all (Some k) first = some_prints script behind named outcomes wanted k are shown first
sometimes_right script behind named outcomes is_open wanted are shown all None none =
    unless script behind (record { often = Sometimes; lines = wanted }) Yes is_open (No None) (λ closed. none_prints script behind named outcomes wanted are (all closed) none)

always_right : (script : ScriptValue) (behind : Bool) (named : List Named) (outcomes : List Shown) (is_open : Bool) (wanted : List LineValue) → AreNamed named wanted → AreShown script behind named outcomes → (is_open ≡ false → AreAllShown script behind named outcomes)
    → (o : Option ℕ) → first_place (λ (shown : Shown). not (shows_all wanted shown)) outcomes ≡ o → IsRight script behind (record { often = Always; lines = wanted }) (shown_or o No is_open (Yes None))
always_right script behind named outcomes is_open wanted are shown all (Some k) first = some_lacks script behind named outcomes wanted k are shown first
always_right script behind named outcomes is_open wanted are shown all None none =
    unless script behind (record { often = Always; lines = wanted }) No is_open (Yes None) (λ closed. each_prints script behind named outcomes wanted are (all closed) none)

judged_right : (script : ScriptValue) (behind : Bool) (named : List Named) (outcomes : List Shown) (is_open : Bool) (often : Often) (wanted : List LineValue) → AreNamed named wanted → AreShown script behind named outcomes → (is_open ≡ false → AreAllShown script behind named outcomes)
    → IsRight script behind (record { often = often; lines = wanted }) (judged often wanted outcomes is_open)
judged_right script behind named outcomes is_open Never wanted are shown all = never_right script behind named outcomes is_open wanted are shown all (first_place (shows_all wanted) outcomes) refl
judged_right script behind named outcomes is_open Sometimes wanted are shown all = sometimes_right script behind named outcomes is_open wanted are shown all (first_place (shows_all wanted) outcomes) refl
judged_right script behind named outcomes is_open Always wanted are shown all =
    always_right script behind named outcomes is_open wanted are shown all (first_place (λ (shown : Shown). not (shows_all wanted shown)) outcomes) refl

-- ---- conditions that were read

some_first : {X : Type 0} (x y : X) → Some x ≡ Some y → x ≡ y
some_first x y is = cc

-- the lines of a condition that was read can be printed
pub lines_print : (script : ScriptValue) (lines : List (List ℕ)) (conditions : List ConditionValue) → AreConditions script lines conditions → (k : ℕ) (condition : ConditionValue) → slice_get conditions k ≡ Some condition → AllPrint script condition.lines
lines_print script [] conditions are k condition there = let e : slice_get {X = ConditionValue} [] k ≡ Some condition = ap (λ (cs : List ConditionValue). slice_get cs k) (sym are) ∙ there in absurd (cc)
lines_print script (line ∷ lines) conditions (inl passed) k condition there = lines_print script lines conditions passed.1 k condition there
lines_print script (line ∷ lines) conditions (inr read) zero condition there =
    let first : read.0 ≡ condition = some_first read.0 condition (ap (λ (cs : List ConditionValue). slice_get cs zero) (sym read.4) ∙ there) in
    subst (λ (c : ConditionValue). AllPrint script c.lines) first read.2.can
lines_print script (line ∷ lines) conditions (inr read) (suc k) condition there =
    lines_print script lines read.1 read.3 k condition (ap (λ (cs : List ConditionValue). slice_get cs (suc k)) (sym read.4) ∙ there)

pub are_right : (script : ScriptValue) (behind : Bool) (limit : ℕ) (lines : List (List ℕ)) (conditions : List ConditionValue) (found : Findings) → AreConditions script lines conditions → AreFindings script behind limit conditions found → AreRight script behind conditions found
are_right script behind limit lines conditions found are is k condition there =
    let read : get_or conditions k condition ≡ condition = get_or_from_slice_get conditions k condition condition there in
    let named : AreNamed (named_of script conditions) condition.lines =
    subst (λ (c : ConditionValue). AllPrint script c.lines → AreNamed (named_of script conditions) c.lines) read (all_named script conditions k condition (slice_get_within conditions k condition there))
    (lines_print script lines conditions are k condition there) in
    judged_right script behind (named_of script conditions) found.outcomes found.is_open condition.often condition.lines named is.happen is.all

-- ---- who waits

pub names_waiting : (script : ScriptValue) (waiting : Waiting) → WaitsForBirthOrPin script waiting → NamesWaiting script waiting
names_waiting script waiting (inl process) = subst (λ (w : Waiting). NamesWaiting script w) (sym process.2) process.1
names_waiting script waiting (inr pin) = subst (λ (w : Waiting). NamesWaiting script w) (sym pin.2) pin.1

abbrev pub AreWaits : ScriptValue → (behind : Bool) → Type 0
AreWaits script behind =
    (order : List ℕ) → IsOrder script behind order
    → (a : ℕ) (waiting : Waiting) → waiting_in script (turned script (run_start script) (setup script behind ++ order)) a ≡ Some waiting → WaitsForBirthOrPin script waiting

enough : (n : ℕ) (xs : List (Option Waiting)) (f : ℕ → Option Waiting) → ((a : ℕ) → a < n → slice_get xs a ≡ Some (f a)) → n ≤ length xs
enough zero xs f all = omega arith
enough (suc n) xs f all = let within = slice_get_within xs n (f n) (all n (omega arith)) in omega (arith, within)

pub named_waits : (script : ScriptValue) (behind : Bool) (limit : ℕ) (conditions : List ConditionValue) (found : Findings) → AreWaits script behind → AreFindings script behind limit conditions found → AreNamedWaits script found.outcomes
named_waits script behind limit conditions found law is k shown there =
    let here = is.happen k shown there in
    let order : List ℕ = shown.path.items in
    record {
      all = enough (length script.actors) shown.waits.items (λ (a : ℕ). waiting_in script (turned script (run_start script) (setup script behind ++ order)) a) here.1.waits;
      named = λ a waiting below at. names_waiting script waiting (law order here.0 a waiting (some_first _ (Some waiting) (sym (here.1.waits a below) ∙ at)));
    }
