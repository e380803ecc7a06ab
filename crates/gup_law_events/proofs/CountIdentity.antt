-- The count identity as it is published, from its two parts: the holders of references, and the grabs of walks, which no
-- holder has both of.
use Rattle.std.proofs.Common.{◌≡◌, ℕ, ◌⊎◌, inl, inr, List, [], ◌∷◌, ◌++◌, refl, ap, sym, ◌∙◌, arith}
use Rattle.std.specs.Prelude.{Option, Some, Contains, sum_by}
use Rattle.std.proofs.lemmas.List.Elements.{Contains-append_left, Contains-append_right, Contains-append_cases}
use Rattle.std.proofs.lemmas.List.Sums.{sum_by-append}
use Rattle.gup_spec_events.specs.State.{CoreState, Job, idle, marking, moving, forking, walking}
use Rattle.gup_spec_events.specs.Invariant.{Holder, entry_of_page, cleared_by, prepared_by, owed_by, got_as, page_of_pin, page_taken, grabbed_by, weight, HasNoRepetition, CountsReferences, holds, cleared_frame, grabbed_frame}
use Rattle.gup_law_base.specs.Sound.{View, moving_of, walking_of, moved_frame, walk_frame, held, held_by_walk, IsSoundBy}
use Rattle.gup_law_base.proofs.Holders.{first_element, later_element}

-- two lists without repetition that have no element in common
none_twice : (xs ys : List Holder) → HasNoRepetition xs → HasNoRepetition ys → ((x : Holder) → Contains xs x → Contains ys x → ⊥) → HasNoRepetition (xs ++ ys)
none_twice [] ys one two apart = two
none_twice (x ∷ xs) ys one two apart =
    let later = λ (y : Holder) (has : Contains xs y) (also : Contains ys y). apart y (later_element x xs y has) also in
    let again : Contains (xs ++ ys) x → ⊥ = λ has. elim (Contains-append_cases xs ys x has) [ inl e ↦ one.0 e | inr e ↦ apart x (first_element x xs) e ] in
    (again, none_twice xs ys one.1 two later)

moved_is : (job : Job) → cleared_frame job ≡ moved_frame (moving_of job)
moved_is (moving p page e allowed count) = refl
moved_is idle = refl
moved_is (marking p page f) = refl
moved_is (forking p c done step) = refl
moved_is (walking p write long sequence step) = refl

grabbed_is : (job : Job) → grabbed_frame job ≡ walk_frame (walking_of job)
grabbed_is (walking p write long sequence step) = refl
grabbed_is idle = refl
grabbed_is (marking p page f) = refl
grabbed_is (moving p page e allowed count) = refl
grabbed_is (forking p c done step) = refl

module _ (v : View) (s : CoreState) (h : IsSoundBy v s) where
  abbrev refers : Holder → Option ℕ
  refers = held s.entry v.moves s.prepared s.owed s.got s.pinned s.taken

  cleared_is : (a : ℕ) → holds s (cleared_by a) ≡ moved_frame (v.moves a)
  cleared_is a = moved_is (s.job a) ∙ ap moved_frame (sym (h.moves_are a))

  pub walked_is : (a : ℕ) → grabbed_frame (s.job a) ≡ walk_frame (v.walks a)
  walked_is a = grabbed_is (s.job a) ∙ ap walk_frame (sym (h.walks_are a))

  -- what a holder holds, it holds as a reference or as a walk's grab, and not as both
  is_either : (x : Holder) (f : ℕ) → holds s x ≡ Some f → (refers x ≡ Some f) ⊎ (held_by_walk v.walks x ≡ Some f)
  unfolding held held_by_walk
  is_either (entry_of_page p page) f is = inl is
  is_either (cleared_by a) f is = inl (sym (cleared_is a) ∙ is)
  is_either (prepared_by a) f is = inl is
  is_either (owed_by a) f is = inl is
  is_either (got_as k) f is = inl is
  is_either (page_of_pin i k) f is = inl is
  is_either (page_taken a k) f is = inl is
  is_either (grabbed_by a) f is = inr (sym (walked_is a) ∙ is)

  is_reference : (x : Holder) (f : ℕ) → refers x ≡ Some f → holds s x ≡ Some f
  unfolding held
  is_reference (entry_of_page p page) f is = is
  is_reference (cleared_by a) f is = cleared_is a ∙ is
  is_reference (prepared_by a) f is = is
  is_reference (owed_by a) f is = is
  is_reference (got_as k) f is = is
  is_reference (page_of_pin i k) f is = is
  is_reference (page_taken a k) f is = is
  is_reference (grabbed_by a) f is = absurd (cc)

  is_grab : (x : Holder) (f : ℕ) → held_by_walk v.walks x ≡ Some f → holds s x ≡ Some f
  unfolding held_by_walk
  is_grab (grabbed_by a) f is = walked_is a ∙ is
  is_grab (entry_of_page p page) f is = absurd (cc)
  is_grab (cleared_by a) f is = absurd (cc)
  is_grab (prepared_by a) f is = absurd (cc)
  is_grab (owed_by a) f is = absurd (cc)
  is_grab (got_as k) f is = absurd (cc)
  is_grab (page_of_pin i k) f is = absurd (cc)
  is_grab (page_taken a k) f is = absurd (cc)

  not_both : (x : Holder) (f g : ℕ) → refers x ≡ Some f → held_by_walk v.walks x ≡ Some g → ⊥
  unfolding held held_by_walk
  not_both (grabbed_by a) f g is that = cc
  not_both (entry_of_page p page) f g is that = cc
  not_both (cleared_by a) f g is that = cc
  not_both (prepared_by a) f g is that = cc
  not_both (owed_by a) f g is that = cc
  not_both (got_as k) f g is that = cc
  not_both (page_of_pin i k) f g is that = cc
  not_both (page_taken a k) f g is that = cc

  pub counts : CountsReferences s
  counts f =
      let t = h.references f in
      let w = h.grabs f in
      let into : (x : Holder) → holds s x ≡ Some f → Contains (t.0 ++ w.0) x = λ x is. elim (is_either x f is) [
        | inl e ↦ Contains-append_left t.0 w.0 x ((t.2 x).0 e)
        | inr e ↦ Contains-append_right t.0 w.0 x ((w.2 x).0 e)
      ] in
      let out : (x : Holder) → Contains (t.0 ++ w.0) x → holds s x ≡ Some f = λ x has. elim (Contains-append_cases t.0 w.0 x has) [
        | inl e ↦ is_reference x f ((t.2 x).1 e)
        | inr e ↦ is_grab x f ((w.2 x).1 e)
      ] in
      let alone = none_twice t.0 w.0 t.1 w.1 (λ x has also. not_both x f f ((t.2 x).1 has) ((w.2 x).1 also)) in
      let total : sum_by weight (t.0 ++ w.0) ≡ s.count f = omega (arith, sum_by-append weight t.0 w.0, t.3, w.3, h.count_is f) in
      (t.0 ++ w.0, alone, (λ x. (into x, out x)), total)
