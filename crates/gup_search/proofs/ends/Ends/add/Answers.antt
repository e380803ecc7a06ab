use Rattle.std.proofs.Common.{◌≡◌, ℕ, ◌⊎◌, List, [], ◌∷◌, ◌++◌, Some, slice_get, length, inl, inr, refl, sym, subst, ◌∙◌}
use Rattle.std.proofs.lemmas.List.Elements.{same_from_all_zip}
use Rattle.gup_search.specs.Ends.{HasEnd}
use Rattle.gup_spec_orders.specs.declared.told.Outcome.{Outcome}
use Rattle.gup_search.specs.declared.ends.End.{End}
use Rattle.gup_search.proofs.Lists.{kept_keys, pushed_keys, at_end, at_longer, at_either}
use Rattle.gup_search.proofs.Same.{end_same}
use Rattle.gup_search.proofs.ends.Ends.add.Goals as goal

-- the outcome that was pushed is the one that is known last
known_pushed : (keys : List End) (outcomes : List Outcome) (key : End) (outcome : Outcome) → ((k : ℕ) (end : End) → slice_get keys k ≡ Some end → HasEnd outcomes end.tells.items end.waits.items) → key.tells.items ≡ outcome.tells.items → key.waits.items ≡ outcome.waits.items → (k : ℕ) (end : End) → slice_get (keys ++ key ∷ []) k ≡ Some end → HasEnd (outcomes ++ outcome ∷ []) end.tells.items end.waits.items
known_pushed keys outcomes key outcome known tells waits k end there = by (at_either keys key k end there)
  where
    by : (slice_get keys k ≡ Some end) ⊎ ((k ≡ length keys) × (end ≡ key)) → HasEnd (outcomes ++ outcome ∷ []) end.tells.items end.waits.items
    by (inl before) = let w = known k end before in (w.0, w.1, at_longer outcomes outcome w.0 w.1 w.2, w.3, w.4)
    by (inr last) =
        subst (λ (e : End). HasEnd (outcomes ++ outcome ∷ []) e.tells.items e.waits.items) (sym last.1)
        (length outcomes, outcome, at_end outcomes outcome, sym tells, sym waits)

pub returns-in_ok-push-clause-known : goal.returns-in_ok-push-clause-known
returns-in_ok-push-clause-known c =
    let pushed = pushed_keys _ _ _ _ _ c.in_ok-is_new.ensures.added c.if-is_new.true c.in_ok-is_new.ensures.keys in
    let told = same_from_all_zip _ c.args.outcome.tells.items c.in_ok-clone.field-0.items c.in_ok-clone.ensures.cases.0 (λ x y h. h) in
    λ k end there.
    subst (λ (os : List Outcome). HasEnd os end.tells.items end.waits.items) (sym c.in_ok-push.ensures.items)
    (
    known_pushed c.args.self.now.known.keys c.args.self.now.outcomes.items (record { tells = c.in_ok-clone.field-0; waits = c.in_ok-copy_of.field-0 }) c.args.outcome c.requires told (c.in_ok-copy_of.ensures ∙ c.as_slice.ensures.value) k end
    (subst (λ (ks : List End). slice_get ks k ≡ Some end) pushed there)
    )

pub returns-in_ok-push-clause-adds : goal.returns-in_ok-push-clause-adds
returns-in_ok-push-clause-adds c =
    record {
      items = inr c.in_ok-push.ensures.items;
      found = (length c.args.self.now.outcomes.items, c.args.outcome, subst (λ (os : List Outcome). slice_get os (length c.args.self.now.outcomes.items) ≡ Some c.args.outcome) (sym c.in_ok-push.ensures.items) (at_end c.args.self.now.outcomes.items c.args.outcome), refl, refl);
    }

pub returns-else-is_new-clause-known : goal.returns-else-is_new-clause-known
returns-else-is_new-clause-known c =
    let kept = kept_keys _ _ _ _ _ c.in_ok-is_new.ensures.added c.if-is_new.false c.in_ok-is_new.ensures.keys in
    λ k end there. c.requires k end (subst (λ (ks : List End). slice_get ks k ≡ Some end) kept there)

pub returns-else-is_new-clause-adds : goal.returns-else-is_new-clause-adds
returns-else-is_new-clause-adds c =
    let kept = kept_keys _ _ _ _ _ c.in_ok-is_new.ensures.added c.if-is_new.false c.in_ok-is_new.ensures.keys in
    let h = c.in_ok-is_new.ensures.stored in
    let told = same_from_all_zip _ c.args.outcome.tells.items c.in_ok-clone.field-0.items c.in_ok-clone.ensures.cases.0 (λ x y h. h) in
    let same = end_same c.in_ok-clone.field-0.items h.0.tells.items c.in_ok-copy_of.field-0.items h.0.waits.items h.2 in
    let w = c.requires c.in_ok-is_new.field-0-0 h.0 (subst (λ (ks : List End). slice_get ks c.in_ok-is_new.field-0-0 ≡ Some h.0) kept h.1) in
    record {
      items = inl refl;
      found = (w.0, w.1, w.2, w.3 ∙ same.0 ∙ told, w.4 ∙ same.1 ∙ c.in_ok-copy_of.ensures ∙ c.as_slice.ensures.value);
    }
