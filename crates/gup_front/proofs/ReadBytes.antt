-- What was read of a source, and the script that its told bytes are.
use Rattle.std.proofs.Common.{◌≡◌, ℕ, ◌<◌, List, length, take, drop, Option, Some, None, refl, sym, subst, ◌∙◌, ap, arith, leb, inl, inr}
use Rattle.std.specs.Prelude.{IfSome, Bool, true, false}
use Rattle.std.proofs.lemmas.Bool.{leb-true, leb-false}
use Rattle.std.proofs.lemmas.Bool.Decides.{nat_tests}
use Rattle.std.proofs.lemmas.List.{take_all, length-take, length-take-le, drop_all}
use Rattle.gup_script.specs.Script.{ScriptValue}
use Rattle.gup_spec_grammar.specs.Grammar.{Accepts}
use Rattle.gup_spec_grammar.specs.Fault.{HasFault}
use Rattle.gup_spec_grammar.specs.declared.fault.ScriptFault.{ScriptFault}
use Rattle.gup_io.specs.Faults.{HasCause, EndsInFault}
use Rattle.gup_io.specs.Transfers.{Loses}
use Rattle.gup_front.specs.Reading.{OfScript, AreScript, IsScriptOf, IsRefusedFor}

-- a fault that ended the calls was counted
pub has_cause : (old new : ℕ) (faulted : Bool) → EndsInFault old new faulted → HasCause old new
has_cause old new faulted ends less = omega (arith, ends.0, less)

-- a front that is shorter than what was asked for is all
whole : (n : ℕ) (v bytes : List ℕ) → length v < n → v ≡ take n bytes → v ≡ bytes
whole n v bytes short is = by_test (leb n (length bytes)) refl
  where
    by_test : (b : Bool) → leb n (length bytes) ≡ b → v ≡ bytes
    by_test true long = absurd (omega (arith, ap (λ (xs : List ℕ). length xs) is, length-take-le n bytes (leb-true _ _ long)))
    by_test false few = let less = leb-false n (length bytes) few in is ∙ take_all n bytes (omega arith)

-- bytes read that are a script are all that are told
pub told_text : (told : Option (List ℕ)) (v : List ℕ) (s : ScriptValue) → IfSome told (λ bytes. v ≡ take 1048577 bytes) → Accepts v s → IfSome told (λ bytes. v ≡ bytes)
told_text None v s read h = tt
told_text (Some bytes) v s read h = whole 1048577 v bytes (omega (arith, h.1)) read

-- the script that the bytes read are is the one that the told bytes are
pub told_script : (told : Option (List ℕ)) (v : List ℕ) (s : ScriptValue) → IfSome told (λ bytes. v ≡ take 1048577 bytes) → Accepts v s → IsScriptOf told s
told_script None v s read h = tt
told_script (Some bytes) v s read h =
    subst (λ (b : List ℕ). Accepts b s) (told_text (Some bytes) v s read h) h

-- bytes that are too many are so however far they are read
told_fault : (bytes v : List ℕ) (fault : ScriptFault) → v ≡ take 1048577 bytes → HasFault v fault → HasFault bytes fault
told_fault bytes v fault read (inl long) =
    let same = ap (λ (xs : List ℕ). length xs) read ∙ length-take 1048577 bytes in
    inl (long.0, long.1, grind (arith, nat_tests))
told_fault bytes v fault read (inr h) =
    let P : List ℕ → Type 0 = λ b. HasFault b fault in
    subst P (whole 1048577 v bytes (omega (arith, h.0)) read) (inr h)

-- what the bytes read are refused for the told ones are
pub told_refused : (told : Option (List ℕ)) (v : List ℕ) (fault : ScriptFault) → IfSome told (λ bytes. v ≡ take 1048577 bytes) → HasFault v fault → IsRefusedFor told fault
told_refused None v fault read refused = tt
told_refused (Some bytes) v fault read has = told_fault bytes v fault read has

-- what holds of the script that was read holds of the one that the told bytes are
pub of_script : (told : Option (List ℕ)) (s : ScriptValue) (P : ScriptValue → Type 0) → ((text : List ℕ) (a b : ScriptValue) → Accepts text a → Accepts text b → a ≡ b) → IsScriptOf told s → P s → OfScript told P
of_script None s P one read p = tt
of_script (Some bytes) s P one read p = λ t h. subst P (one bytes s t read h) p

pub are_script : (told : Option (List ℕ)) (s : ScriptValue) → IsScriptOf told s → AreScript told
are_script None s read = tt
are_script (Some bytes) s read = (s, read)

-- what is refused is no script
pub refused_none : (told : Option (List ℕ)) (fault : ScriptFault) → ((text : List ℕ) (script : ScriptValue) (f : ScriptFault) → Accepts text script → HasFault text f → ⊥) → IsRefusedFor told fault → OfScript told (λ script. ⊥)
refused_none None fault apart refused = tt
refused_none (Some bytes) fault apart has = λ s spelt. apart bytes s fault spelt has

-- told bytes lost their first ones, or all
pub loses_first : (most : ℕ) (old new : Option (List ℕ)) → IfSome old (λ bytes. new ≡ Some (drop most bytes)) → Loses 0 most old new
loses_first most None new rest = tt
loses_first most (Some bytes) new rest = by_test (leb most (length bytes)) refl
  where
    by_test : (b : Bool) → leb most (length bytes) ≡ b → Loses 0 most (Some bytes) new
    by_test true enough = (most, omega arith, omega arith, leb-true _ _ enough, rest)
    by_test false few =
        let less = leb-false _ _ few in
        (length bytes, omega arith, omega arith, omega arith, rest ∙ ap (λ (xs : List ℕ). Some xs) (drop_all most bytes (omega arith) ∙ sym (drop_all (length bytes) bytes (omega arith))))

-- where no script can be run, anything holds of the script
pub of_none : (told : Option (List ℕ)) (P : ScriptValue → Type 0) → OfScript told (λ script. ⊥) → OfScript told P
of_none None P none = tt
of_none (Some bytes) P none = λ script runs. absurd (none script runs)
