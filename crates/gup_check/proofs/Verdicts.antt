-- Verdicts: there is one, and whether all operations have ended is what no actor's having one left says.
use Rattle.std.proofs.Common.{rules, ◌≡◌, ℕ, ◌+◌, ◌<◌, ◌≤◌, nat_lt, Bool, true, false, List, [], ◌∷◌, ◌++◌, None, length, slice_get, get_or, take, zero, suc, refl, sym, ◌∙◌, ap, subst, append_assoc, inl, inr, arith}
use Rattle.std.proofs.lemmas.Bool.Decides.{nat_tests}
use Rattle.std.proofs.lemmas.List.{take_all, take_more, length-take-le}
use Rattle.std.proofs.lemmas.Option.{slice_get_cases, slice_get_past}
use Rattle.gup_plain.specs.Note.{NoteValue}
use Rattle.gup_script.specs.Script.{ScriptValue, ops_in, ops_of}
use Rattle.gup_spec_accepted.specs.Accepted.{Accepted}
use Rattle.gup_spec_check.specs.Seen.{seen_of}
use Rattle.gup_spec_check.specs.Times.{Times, times_first, times_after, times_from, times_of}
use Rattle.gup_spec_check.specs.Verdicts.{answers_by, AllAnswered, IsFirstWrong, IsVerdict}
use Rattle.gup_spec_check.specs.declared.Verdict.{Verdict}
use Rattle.gup_spec_check.specs.declared.Verdict.TheVariants.{Yes, Open, No}
use Rattle.gup_check_state.specs.declared.kept.Kept.{Kept}
use Rattle.gup_check_state.specs.Shows.{Shows, PlacesAgree}
use Rattle.gup_check_state.specs.Presence.{op_at}
use Rattle.gup_check_state.proofs.Operations.{op_present}
use Rattle.gup_check.specs.Takes.{Takes, HaveEnded}

-- no operation is there exactly where all are answered
none_left : {X : Type 0} (ops : List X) (k : ℕ) → slice_get ops k ≡ None → length ops ≤ k
none_left ops k none = elim (slice_get_cases ops k).1 [ inl there ↦ absurd (cc (none, there.2)) | inr past ↦ past.0 ]

module _ (script : ScriptValue) (kept : Kept) (notes : List NoteValue) (takes : Takes script kept notes) (agree : PlacesAgree (seen_of script notes)) (counted : (a : ℕ) → ((seen_of script notes).judged.places a).answered ≡ length (answers_by a notes)) where
  left : (a : ℕ) → op_at script a (slice_get kept.actors.items a) ≡ slice_get (ops_of script a) (length (answers_by a notes))
  left a =
      op_present script (seen_of script notes) (times_of notes) kept.actors.items a (search rules) takes.1.progress agree
      ∙ ap (slice_get (ops_of script a)) (counted a)

  undeclared : (a : ℕ) → length script.actors ≤ a → length (ops_of script a) ≤ length (answers_by a notes)
  undeclared a past =
      let none : ops_of script a ≡ [] = ap ops_in (slice_get_past script.actors a past) in
      rw none (omega arith)

  pub answered : HaveEnded script kept → AllAnswered script notes
  answered ended a =
      elim (slice_get_cases script.actors a).1 [
        | inl within ↦ none_left (ops_of script a) (length (answers_by a notes)) (sym (left a) ∙ ended a within.1)
        | inr past ↦ undeclared a past.0
      ]

  pub ended : AllAnswered script notes → HaveEnded script kept
  ended all a within = left a ∙ slice_get_past (ops_of script a) (length (answers_by a notes)) (all a)

-- of two beginnings of one list the shorter one, with the element behind it, begins the longer one
earlier : {X : Type 0} (front : List X) (x : X) (rest behind left : List X) → front ++ x ∷ rest ≡ behind ++ left → length front < length behind → (more : List X) × (behind ≡ (front ++ x ∷ []) ++ more)
earlier front x rest [] left same less = absurd (omega (arith, less))
earlier [] x rest (y ∷ behind) left same less = (behind, let e : x ≡ y = cc in ap (λ z. z ∷ behind) (sym e))
earlier (z ∷ front) x rest (y ∷ behind) left same less =
    let tails : front ++ x ∷ rest ≡ behind ++ left = cc in
    let heads : z ≡ y = cc in
    let found = earlier front x rest behind left tails (omega (arith, less)) in
    (found.0, ap (λ (ys : List _). y ∷ ys) found.1 ∙ ap (λ w. w ∷ (front ++ x ∷ []) ++ found.0) (sym heads))

module _ (script : ScriptValue) (notes : List NoteValue) (beginnings : (front more : List NoteValue) → Accepted script (front ++ more) → Accepted script front) where
  -- accepted notes have no first that isn't
  no_first : (n : ℕ) → Accepted script notes → IsFirstWrong script notes n → ⊥
  no_first n all wrong =
      let parted = wrong.3 ∙ sym (append_assoc wrong.0 (wrong.1 ∷ []) wrong.2) in
      wrong.6 (beginnings (wrong.0 ++ wrong.1 ∷ []) wrong.2 (subst (Accepted script) parted all))

  -- and others have one
  not_before : (n m : ℕ) (wrong : IsFirstWrong script notes n) (other : IsFirstWrong script notes m) → length wrong.0 < length other.0 → ⊥
  not_before n m wrong other less =
      let found = earlier wrong.0 wrong.1 wrong.2 other.0 (other.1 ∷ other.2) (sym wrong.3 ∙ other.3) less in
      wrong.6 (beginnings (wrong.0 ++ wrong.1 ∷ []) found.0 (subst (Accepted script) found.1 other.5))

  one_first : (n m : ℕ) → IsFirstWrong script notes n → IsFirstWrong script notes m → n ≡ m
  one_first n m wrong other = by (nat_lt (length wrong.0) (length other.0)) refl (nat_lt (length other.0) (length wrong.0)) refl
    where
      by : (b : Bool) → nat_lt (length wrong.0) (length other.0) ≡ b → (c : Bool) → nat_lt (length other.0) (length wrong.0) ≡ c → n ≡ m
      by true before c after = absurd (not_before n m wrong other (grind (arith, nat_tests)))
      by false before true after = absurd (not_before m n other wrong (grind (arith, nat_tests)))
      by false before false after =
          let first : n ≡ length wrong.0 + 1 = wrong.4 in
          let second : m ≡ length other.0 + 1 = other.4 in
          grind (arith, nat_tests)

  pub same_verdict : (v w : Verdict) → IsVerdict script notes v → IsVerdict script notes w → v ≡ w
  same_verdict Yes Yes is also = refl
  same_verdict Yes Open is also = absurd (also.1 is.1)
  same_verdict Yes (No n) is also = absurd (no_first n is.0 also)
  same_verdict Open Yes is also = absurd (is.1 also.1)
  same_verdict Open Open is also = refl
  same_verdict Open (No n) is also = absurd (no_first n is.0 also)
  same_verdict (No n) Yes is also = absurd (no_first n also.0 is)
  same_verdict (No n) Open is also = absurd (no_first n also.0 is)
  same_verdict (No n) (No m) is also = ap No (one_first n m is also)

-- a list before one of its elements, and behind it
pub parted : {X : Type 0} (xs : List X) (k : ℕ) (x : X) → k < length xs → x ≡ get_or xs k x → (rest : List X) × (xs ≡ take k xs ++ x ∷ rest)
parted [] k x within at = absurd (omega (arith, within))
parted (y ∷ ys) zero x within at = (ys, ap (λ z. z ∷ ys) (sym at))
parted (y ∷ ys) (suc k) x within at =
    let found = parted ys k x (omega (arith, within)) at in
    (found.0, ap (λ zs. y ∷ zs) found.1)

pub one_more : {X : Type 0} (xs : List X) (k : ℕ) (x : X) → k < length xs → x ≡ get_or xs k x → take (k + 1) xs ≡ take k xs ++ x ∷ []
one_more xs k x within at = take_more xs k x within ∙ ap (λ z. take k xs ++ z ∷ []) (sym at)

-- all that was taken, where nothing is left
pub all_taken : (script : ScriptValue) (kept : Kept) (notes items : List NoteValue) (k : ℕ) → length items ≤ k → items ≡ notes → Takes script kept (take k items) → Takes script kept notes
all_taken script kept notes items k past same takes = subst (Takes script kept) (take_all k items past ∙ same) takes

-- as many notes as there are times
times_counted : (times : Times) (notes : List NoteValue) → (times_from times notes).count ≡ times.count + length notes
times_counted times [] = omega arith
times_counted times (note ∷ notes) = times_counted (times_after times note) notes ∙ omega arith

pub counted_behind : (script : ScriptValue) (kept : Kept) (notes : List NoteValue) (k : ℕ) → k < length notes → Shows script kept (seen_of script (take (k + 1) notes)) (times_of (take (k + 1) notes)) → kept.count ≡ k + 1
counted_behind script kept notes k within shows =
    let long : length (take (k + 1) notes) ≡ k + 1 = length-take-le (k + 1) notes (omega (arith, within)) in
    let counted : (times_of (take (k + 1) notes)).count ≡ 0 + length (take (k + 1) notes) = times_counted times_first (take (k + 1) notes) in
    omega (arith, shows.count, counted, long)
