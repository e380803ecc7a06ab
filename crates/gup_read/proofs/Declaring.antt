-- Lines that declare: each function answers as the grammar and its faults have it.
use Rattle.std.proofs.Common.{◌≡◌, ◌<◌, ◌&&◌, Bool, true, false, not, ltb, List, [], ◌∷◌, length, refl, sym, ap, ◌∙◌, Option, Some, lit<}
use Rattle.std.specs.Prelude.{codes}
use Rattle.std.proofs.lemmas.Bool.Decides.{Decides-ltb, Decides-and}
use Rattle.gup_read_words.specs.Text.{number_in, count_in, is_name}
use Rattle.gup_spec_grammar.specs.Spelling.{IsCount, IsName}
use Rattle.gup_spec_grammar.specs.Names.{find, is_unused}
use Rattle.gup_script.specs.declared.op.Kind.TheVariants.{Thread, Device, Mover}
use Rattle.gup_spec_grammar.specs.declared.fault.Reason.TheVariants.{Number, Name, Twice, Limit}
use Rattle.gup_spec_grammar.specs.Outline.{Outline, with_process, with_actor, with_seed, is_device, how_many, has_mover}
use Rattle.gup_script.specs.Script.{is_thread}
use Rattle.gup_script.specs.Limits.{most_processes, most_threads, most_devices}
use Rattle.gup_base.specs.Counts.{most_slots}
use Rattle.gup_spec_grammar.specs.Said.{Word, a_process, a_child, a_thread, a_device, a_mover, a_seed}
use Rattle.gup_spec_grammar.specs.Grammar.{IsUnused}
use Rattle.gup_spec_grammar.specs.Fault.{Unless, Fails}
use Rattle.gup_read_outline.specs.Named.{process_of}
use Rattle.gup_read.specs.Reading.{process_in, thread_in, device_in, mover_in, seed_in}
use Rattle.gup_read.proofs.Verdicts.{Judges, Finds, same_given, checked, skipped, needed, ended, done, merged}
use Rattle.gup_read.proofs.Known.{unused_decides, unset_decides, name_decides, number_finds, count_finds, process_finds}
use Rattle.gup_read.proofs.Places.{JudgesSaid, JudgesTests, placed, misplaced}

-- what is found is found once
pub one_found : {A : Type 0} (o : Option A) (a b : A) → o ≡ Some a → o ≡ Some b → a ≡ b
one_found o a b e f = same_given a b (sym e ∙ f)

-- ---- processes

process_tests : (born : Bool) (st : Outline) (name : Word) → Judges Outline (process_in born st (name ∷ [])) (λ next. Unit {0} × (IsName name × (IsUnused st name × ((length st.script.processes < most_processes) × (next ≡ with_process name born st)))))
    (λ r. Unless Number (Unit {0}) r (Unless Name (IsName name) r (Unless Twice (IsUnused st name) r (Fails Limit (length st.script.processes < most_processes) r))))
unfolding process_in
process_tests born st name =
    skipped Number _ (checked Name (is_name name) _ (name_decides name) λ _.
    checked Twice (is_unused st.names name) _ (unused_decides st name) λ _.
    ended Limit (ltb (length st.script.processes) most_processes) (with_process name born st) (Decides-ltb _ _) (λ _. refl) (λ x _ e. e))

pub judged_process : (st : Outline) (fields : List Word) → JudgesSaid st (codes "process") fields (process_in true st fields)
unfolding process_in
judged_process st [] = misplaced st (codes "process") [] refl
judged_process st (name ∷ []) = placed st (codes "process") (name ∷ []) (a_process name) _ refl (process_tests true st name)
judged_process st (name ∷ other ∷ more) = misplaced st (codes "process") (name ∷ other ∷ more) refl

pub judged_child : (st : Outline) (fields : List Word) → JudgesSaid st (codes "child") fields (process_in false st fields)
unfolding process_in
judged_child st [] = misplaced st (codes "child") [] refl
judged_child st (name ∷ []) = placed st (codes "child") (name ∷ []) (a_child name) _ refl (process_tests false st name)
judged_child st (name ∷ other ∷ more) = misplaced st (codes "child") (name ∷ other ∷ more) refl

-- ---- actors

thread_tests : (st : Outline) (name process : Word) → JudgesTests st (a_thread name process) (thread_in st (name ∷ process ∷ []))
unfolding thread_in
thread_tests st name process =
    skipped Number _ (merged Name _ (λ p q. (p, q)) (λ h. h.0) (λ h. h.1)
    (checked Name (is_name name) _ (name_decides name) λ _.
    needed Name (process_of (find st.names process)) _ (process_finds st process) λ p is.
    checked Twice (is_unused st.names name) _ (unused_decides st name) λ _.
    ended Limit (ltb (how_many is_thread st) most_threads) (with_actor name (Thread p) st) (Decides-ltb _ _)
    (λ _. (p, (process_finds st process).0 p is, refl))
    (λ x _ h. h.2 ∙ ap (λ q. with_actor name (Thread q) st) (one_found _ h.0 p ((process_finds st process).1 h.0 h.1) is))))

pub judged_thread : (st : Outline) (fields : List Word) → JudgesSaid st (codes "thread") fields (thread_in st fields)
unfolding thread_in
judged_thread st [] = misplaced st (codes "thread") [] refl
judged_thread st (name ∷ []) = misplaced st (codes "thread") (name ∷ []) refl
judged_thread st (name ∷ process ∷ []) = placed st (codes "thread") (name ∷ process ∷ []) (a_thread name process) _ refl (thread_tests st name process)
judged_thread st (name ∷ process ∷ other ∷ more) = misplaced st (codes "thread") (name ∷ process ∷ other ∷ more) refl

device_tests : (st : Outline) (name slots : Word) → JudgesTests st (a_device name slots) (device_in st (name ∷ slots ∷ []))
unfolding device_in
device_tests st name slots =
    let finds : Finds (count_in 1 most_slots slots) (IsCount 1 most_slots slots) = count_finds 1 most_slots slots (lit< tt) in
    needed Number (count_in 1 most_slots slots) _ finds λ n is.
    checked Name (is_name name) _ (name_decides name) λ _.
    checked Twice (is_unused st.names name) _ (unused_decides st name) λ _.
    ended Limit (ltb (how_many is_device st) most_devices) (with_actor name (Device n) st) (Decides-ltb _ _)
    (λ _. (n, finds.0 n is, refl))
    (λ x _ h. h.2 ∙ ap (λ m. with_actor name (Device m) st) (one_found _ h.0 n (finds.1 h.0 h.1) is))

pub judged_device : (st : Outline) (fields : List Word) → JudgesSaid st (codes "device") fields (device_in st fields)
unfolding device_in
judged_device st [] = misplaced st (codes "device") [] refl
judged_device st (name ∷ []) = misplaced st (codes "device") (name ∷ []) refl
judged_device st (name ∷ slots ∷ []) = placed st (codes "device") (name ∷ slots ∷ []) (a_device name slots) _ refl (device_tests st name slots)
judged_device st (name ∷ slots ∷ other ∷ more) = misplaced st (codes "device") (name ∷ slots ∷ other ∷ more) refl

mover_tests : (st : Outline) (name : Word) → JudgesTests st (a_mover name) (mover_in st (name ∷ []))
unfolding mover_in
mover_tests st name =
    skipped Number _ (checked Name (is_name name) _ (name_decides name) λ _.
    checked Twice (is_unused st.names name && not (has_mover st)) _ (Decides-and _ _ (unused_decides st name) (unset_decides (has_mover st))) λ _.
    done Limit (with_actor name Mover st) refl (λ x e. e))

pub judged_mover : (st : Outline) (fields : List Word) → JudgesSaid st (codes "mover") fields (mover_in st fields)
unfolding mover_in
judged_mover st [] = misplaced st (codes "mover") [] refl
judged_mover st (name ∷ []) = placed st (codes "mover") (name ∷ []) (a_mover name) _ refl (mover_tests st name)
judged_mover st (name ∷ other ∷ more) = misplaced st (codes "mover") (name ∷ other ∷ more) refl

-- ---- the seed

seed_tests : (st : Outline) (number : Word) → JudgesTests st (a_seed number) (seed_in st (number ∷ []))
unfolding seed_in
seed_tests st number =
    needed Number (number_in number) _ (number_finds number) λ n is.
    skipped Name _ (checked Twice (not st.seeded) _ (unset_decides st.seeded) λ _.
    done Limit (with_seed n st) (n, (number_finds number).0 n is, refl)
    (λ x h. h.2 ∙ ap (λ m. with_seed m st) (one_found _ h.0 n ((number_finds number).1 h.0 h.1) is)))

pub judged_seed : (st : Outline) (fields : List Word) → JudgesSaid st (codes "seed") fields (seed_in st fields)
unfolding seed_in
judged_seed st [] = misplaced st (codes "seed") [] refl
judged_seed st (number ∷ []) = placed st (codes "seed") (number ∷ []) (a_seed number) _ refl (seed_tests st number)
judged_seed st (number ∷ other ∷ more) = misplaced st (codes "seed") (number ∷ other ∷ more) refl
