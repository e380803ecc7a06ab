-- One process whose tables change, among all.
use Rattle.std.proofs.Common.{◌≡◌, ℕ, ◌<◌, ◌==◌, Bool, true, false, List, length, slice_get, slice_set, Some, refl, sym, ap, subst, ◌∙◌, eqb-true, arith}
use Rattle.std.proofs.lemmas.Bool.Decides.{nat_tests}
use Rattle.gup_space.specs.Space.{SpaceValue, SpaceParts, space_of}
use Rattle.gup_space.specs.Shows.{ShowsSpace}
use Rattle.gup_space.proofs.Tabled.{grows_rest, retires_rest, other_shown}
use Rattle.gup_space.specs.ShownTables.{KeepsOthers}
use Rattle.gup_spec_events.specs.State.{CoreState}
use Rattle.gup_spec_events.specs.Event.{run}
use Rattle.gup_spec_events.specs.Growth.{grows, retires}
use Rattle.gup_op_tables.specs.Alike.{IsGrown, ShowsEach}
use Rattle.gup_op_tables.proofs.Replaced.{now_there, other_there}

pub same_grown : (x : SpaceParts) → IsGrown (space_of x) (space_of x)
same_grown x = record { alike = refl; full = λ page full. full }

-- the state shows the new process, and the others as they were
pub each_shown : (spaces : List SpaceParts) (i p : ℕ) (new : SpaceParts) (s t : CoreState) → i ≡ p → p < length spaces → ShowsEach spaces s → ShowsSpace p (space_of new) t
    → ((q : ℕ) (space : SpaceValue) → (q == p) ≡ false → ShowsSpace q space s → ShowsSpace q space t) → ShowsEach (slice_set spaces i new) t
each_shown spaces i p new s t same within shown here others q space found = go (q == p) refl
  where
    at_own : q ≡ p → ShowsSpace q (space_of space) t
    at_own e =
        let both : Some new ≡ Some space = sym (now_there spaces i p new same within) ∙ ap (λ k. slice_get (slice_set spaces i new) k) (sym e) ∙ found in
        let one : new ≡ space = cc in
        subst (λ (k : ℕ). ShowsSpace k (space_of space) t) (sym e) (subst (λ (x : SpaceParts). ShowsSpace p (space_of x) t) one here)

    go : (b : Bool) → (q == p) ≡ b → ShowsSpace q (space_of space) t
    go true is = at_own (eqb-true q p is)
    go false is =
        let apart : q ≡ i → ⊥ = λ e. grind (arith, nat_tests, is, e, same) in
        others q (space_of space) is (shown q space (sym (other_there spaces i q new apart) ∙ found))

pub grown_others : (s : CoreState) (a p page : ℕ) → KeepsOthers p s (run s (grows s a p page)) → (q : ℕ) (space : SpaceValue) → (q == p) ≡ false → ShowsSpace q space s → ShowsSpace q space (run s (grows s a p page))
grown_others s a p page keeps q space apart h =
    other_shown q space s (run s (grows s a p page)) (grows_rest s a p page q) (keeps.place q apart) (keeps.retired q apart) h

pub shrunk_others : (s : CoreState) (a p page : ℕ) → KeepsOthers p s (run s (retires s a p page)) → (q : ℕ) (space : SpaceValue) → (q == p) ≡ false → ShowsSpace q space s → ShowsSpace q space (run s (retires s a p page))
shrunk_others s a p page keeps q space apart h =
    other_shown q space s (run s (retires s a p page)) (retires_rest s a p page q) (keeps.place q apart) (keeps.retired q apart) h
