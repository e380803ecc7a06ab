-- What is true of the actors of a script.
use Rattle.std.proofs.Common.{◌≡◌, ℕ, true, false, ◌<◌, ◌≤◌, Option, Some, None, IsSome, IfSome, List, [], ◌∷◌, length, slice_get, sum_by, zero, suc, refl, sym, ap, ◌∙◌, arith}
use Rattle.std.proofs.lemmas.List.Sums.{sum_by-cons}
use Rattle.gup_script.specs.declared.op.Op.{Op}
use Rattle.gup_script.specs.declared.op.Op.TheVariants.{Unpin, Give, Take, Transfer, Mirror, Look}
use Rattle.gup_script.specs.Script.{ScriptValue, Actor, actor_at}
use Rattle.gup_script.specs.Valid.{IsScript}
use Rattle.gup_spec_journal.specs.Place.{Doer, doer_of, ops_in, ops_of}
use Rattle.gup_law_turns.proofs.ScriptLemmas.{IsOfNoDevice, has_own_process, op_has_process}
use Rattle.gup_op_waits.specs.Doers.{HasProcess, IsProcessOf}

-- the process of an operation is a declared one

-- an operation of a process is none that a device does by itself
no_device : (op : Op) → HasProcess op → IsOfNoDevice op
no_device (Unpin handle) has = λ device. has
no_device (Give handle to) has = λ device. has
no_device (Take handle) has = λ device. has
no_device (Transfer handle outward slot parts) has = λ device. has
no_device (Look mirror word) has = λ device. has
no_device (Mirror mirror proc page) has = tt
no_device op has = λ device. device

-- so its actor is a thread, or it names the process
pub thread_there : (script : ScriptValue) → IsScript script → (a k : ℕ) (op : Op) → slice_get (ops_of script a) k ≡ Some op → HasProcess op → (doer_of script a (Some op)).of_process ≡ true
thread_there script valid a k op is has = has_own_process script valid a k op is (no_device op has)

-- its process is the one that the machine finds
pub own_process : (who : Doer) (proc : Option ℕ) (p : ℕ) → IsProcessOf who proc → who.of_process ≡ true → IfSome proc (λ q. q ≡ p) → who.proc ≡ p
own_process who None p of_who thread same = absurd (let no : true ≡ false = sym thread ∙ of_who in cc no)
own_process who (Some q) p of_who thread same = of_who.1 ∙ same

pub has_process : (who : Doer) (proc : Option ℕ) → IsProcessOf who proc → who.of_process ≡ true → IsSome proc
has_process who None of_who thread = absurd (let no : true ≡ false = sym thread ∙ of_who in cc no)
has_process who (Some q) of_who thread = refl

pub process_of_doer : (who : Doer) (proc : Option ℕ) → IsProcessOf who proc → IfSome proc (λ q. q ≡ who.proc)
process_of_doer who None of_who = tt
process_of_doer who (Some q) of_who = sym of_who.1

-- where it is found, it is declared
pub found_there : (script : ScriptValue) → IsScript script → (a n k : ℕ) (op : Op) (proc : Option ℕ) → n ≡ length script.processes → slice_get (ops_of script a) k ≡ Some op → IsProcessOf (doer_of script a (Some op)) proc → IfSome proc (λ p. p < n)
found_there script valid a n k op None many is of_who = tt
found_there script valid a n k op (Some p) many is of_who = let within = op_has_process script valid a k op is of_who.0 in omega (arith, within, of_who.1, many)

-- no actor has more operations than all have together
one_of_sum : (xs : List Actor) (k : ℕ) (x : Actor) → slice_get xs k ≡ Some x → length x.ops ≤ sum_by (λ (a : Actor). length a.ops) xs
one_of_sum [] k x is = absurd (cc)
one_of_sum (y ∷ xs) zero x is =
    let same : y ≡ x = cc in
    let len : length y.ops ≡ length x.ops = ap (λ (a : Actor). length a.ops) same in
    omega (arith, sum_by-cons (λ (a : Actor). length a.ops) y xs)
one_of_sum (y ∷ xs) (suc k) x is =
    let rest = one_of_sum xs k x is in
    omega (arith, sum_by-cons (λ (a : Actor). length a.ops) y xs)

pub few_ops : (script : ScriptValue) → IsScript script → (a : ℕ) → length (ops_of script a) ≤ 16384
few_ops script valid a = go (actor_at script a) refl
  where
    go : (actor : Option Actor) → actor_at script a ≡ actor → length (ops_in actor) ≤ 16384
    go None at = omega arith
    go (Some actor) at = let one = one_of_sum script.actors a actor at in let all = valid.few_ops in omega arith

-- so the number of an operation fits
pub few_answered : (script : ScriptValue) → IsScript script → (a answered : ℕ) → answered ≤ length (ops_of script a) → answered ≤ 16384
few_answered script valid a answered within = let few = few_ops script valid a in omega arith
