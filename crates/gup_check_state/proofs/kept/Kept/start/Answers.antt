use Rattle.std.proofs.Common.{◌≡◌, ℕ, [], ◌∷◌, ◌++◌, List, IfSome, slice_get, length, rules, sym, subst}
use Rattle.gup_check_state.specs.declared.kept.Progress.{Progress}
use Rattle.gup_check_state.specs.Shows.{IsFirst}
use Rattle.gup_check_state.proofs.OneMore.{each_and}
use Rattle.gup_check_state.proofs.kept.Kept.start.Goals as goal

pub loop-a-preserved : goal.loop-a-preserved
loop-a-preserved c =
    let number : c.unwrap-actor.result ≡ length c.loop-a.actors.items = search rules in
    let items : c.push.new.self.items ≡ c.loop-a.actors.items ++ c.first_progress.result ∷ [] = search rules in
    record {
      many = search rules;
      first = subst (λ (actors : List Progress). (k : ℕ) → IfSome (slice_get actors k) (IsFirst c.args.script.now k)) (sym items)
          (each_and (IsFirst c.args.script.now) c.loop-a.actors.items c.first_progress.result c.loop-a.invariant.first
          (subst (λ (a : ℕ). IsFirst c.args.script.now a c.first_progress.result) number c.first_progress.ensures));
    }
