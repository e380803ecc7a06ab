-- What was read of a source, against the bytes that it tells.
use Rattle.std.proofs.Common.{◌≡◌, ℕ, ◌<◌, ◌≤◌, List, length, take, Option, Some, None, refl, subst, ◌∙◌, ap, arith, leb, inl, inr}
use Rattle.std.specs.Prelude.{IfSome, Bool, true, false}
use Rattle.std.proofs.lemmas.Bool.{leb-true, leb-false}
use Rattle.std.proofs.lemmas.List.{take_all, length-take-le}
use Rattle.gup_plain.specs.Note.{NoteValue}
use Rattle.gup_script.specs.Script.{ScriptValue}
use Rattle.gup_spec_grammar.specs.declared.fault.ScriptFault.{ScriptFault}
use Rattle.gup_spec_trace.specs.Trace.{IsTrace, HasTraceFault, most_bytes}
use Rattle.gup_front.specs.Reading.{AreBytes}
use Rattle.gup_front.specs.declared.reading.Unread.{Unread}
use Rattle.gup_front.specs.declared.reading.Unread.TheVariants.{Fault}
use Rattle.gup_check_front.specs.Reading.{IsReadAs, IsNoTraceFor, IsTraceUnreadFor, OfTrace}

-- a front that is shorter than what was asked for is all
whole : (n : ℕ) (v bytes : List ℕ) → length v < n → v ≡ take n bytes → v ≡ bytes
whole n v bytes short is = by_test (leb n (length bytes)) refl
  where
    by_test : (b : Bool) → leb n (length bytes) ≡ b → v ≡ bytes
    by_test true long = absurd (omega (arith, ap (λ (xs : List ℕ). length xs) is, length-take-le n bytes (leb-true _ _ long)))
    by_test false few = let less = leb-false n (length bytes) few in is ∙ take_all n bytes (omega arith)

-- where a front is longer than a trace, all is
enough : (n : ℕ) (v bytes : List ℕ) → most_bytes < n → most_bytes < length v → v ≡ take n bytes → most_bytes < length bytes
enough n v bytes more long is = by_test (leb n (length bytes)) refl
  where
    by_test : (b : Bool) → leb n (length bytes) ≡ b → most_bytes < length bytes
    by_test true full = let there = leb-true _ _ full in omega (arith, there, more)
    by_test false few =
        let less = leb-false n (length bytes) few in
        omega (arith, long, ap (λ (xs : List ℕ). length xs) (is ∙ take_all n bytes (omega arith)))

-- fewer bytes than were asked for are all that are told
told_bytes : (n : ℕ) (told : Option (List ℕ)) (v : List ℕ) → length v < n → IfSome told (λ bytes. v ≡ take n bytes) → AreBytes told v
told_bytes n None v short read = tt
told_bytes n (Some bytes) v short read = whole n v bytes short read

-- what was read as a trace is one, and all that is told
pub read_as : (told : Option (List ℕ)) (v : List ℕ) (script : ScriptValue) (notes : List NoteValue) → IfSome told (λ bytes. v ≡ take 67108865 bytes) → IsTrace v script notes → length v ≤ most_bytes → IsReadAs told script notes
read_as told v script notes read is fits = (v, told_bytes 67108865 told v (omega (arith, fits)) read, (is, fits))

-- a fault of what was read is one of all bytes
fault_of_all : (v bytes : List ℕ) (fault : ScriptFault) → v ≡ take 67108865 bytes → HasTraceFault v fault → HasTraceFault bytes fault
fault_of_all v bytes fault read (inl (line, reason, long)) =
    inl (line, reason, enough 67108865 v bytes (omega arith) long read)
fault_of_all v bytes fault read (inr has) =
    let P : List ℕ → Type 0 = λ b. HasTraceFault b fault in
    subst P (whole 67108865 v bytes (omega (arith, has.0)) read) (inr has)

-- what the bytes read are refused for the told ones are
pub refused_for : (told : Option (List ℕ)) (v : List ℕ) (fault : ScriptFault) → IfSome told (λ bytes. v ≡ take 67108865 bytes) → HasTraceFault v fault → IsNoTraceFor told fault
refused_for None v fault read has = tt
refused_for (Some bytes) v fault read has = fault_of_all v bytes fault read has

-- what holds of the trace that was read holds of the one that the told bytes are
pub of_trace : (told : Option (List ℕ)) (script : ScriptValue) (notes : List NoteValue) (P : ScriptValue → List NoteValue → Type 0) → ((text : List ℕ) (s t : ScriptValue) (m n : List NoteValue) → IsTrace text s m → IsTrace text t n → (s ≡ t) × (m ≡ n)) → IsReadAs told script notes → P script notes → OfTrace told P
of_trace None script notes P one read p = tt
of_trace (Some bytes) script notes P one (text, same, (is, fits)) p = λ s ns h.
    let all : IsTrace bytes script notes = subst (λ (b : List ℕ). IsTrace b script notes) same is in
    let equal = one bytes script s notes ns all h.0 in
    subst (λ (t : ScriptValue). P t ns) equal.0 (subst (λ (m : List NoteValue). P script m) equal.1 p)

-- what is refused for a fault is no trace
refused_none : (told : Option (List ℕ)) (fault : ScriptFault) → ((text : List ℕ) (s : ScriptValue) (notes : List NoteValue) (f : ScriptFault) → IsTrace text s notes → HasTraceFault text f → length text ≤ most_bytes → ⊥) → IsNoTraceFor told fault → OfTrace told (λ script notes. ⊥)
refused_none None fault apart has = tt
refused_none (Some bytes) fault apart has = λ s notes is. apart bytes s notes fault is.0 has is.1

pub unread_none : (told : Option (List ℕ)) (faults faults_after : ℕ) (faulted_after : Bool) (why : Unread) (fault : ScriptFault) → ((text : List ℕ) (s : ScriptValue) (notes : List NoteValue) (f : ScriptFault) → IsTrace text s notes → HasTraceFault text f → length text ≤ most_bytes → ⊥) → why ≡ Fault fault → IsTraceUnreadFor told faults faults_after faulted_after why → OfTrace told (λ script notes. ⊥)
unread_none told faults faults_after faulted_after why fault apart is unread =
    refused_none told fault apart (subst (λ (w : Unread). IsTraceUnreadFor told faults faults_after faulted_after w) is unread)

-- where no trace can be judged, anything holds of the trace
pub of_none : (told : Option (List ℕ)) (P : ScriptValue → List NoteValue → Type 0) → OfTrace told (λ script notes. ⊥) → OfTrace told P
of_none None P none = tt
of_none (Some bytes) P none = λ s notes is. absurd (none s notes is)
