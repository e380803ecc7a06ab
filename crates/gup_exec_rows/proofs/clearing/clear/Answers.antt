use Rattle.std.proofs.Common.{rules}
use Rattle.std.proofs.lemmas.Map.Made.{filter_same_pairs}
use Rattle.gup_exec_rows.proofs.ClearingLemmas.{is_kept, cleared}
use Rattle.gup_exec_rows.proofs.clearing.clear.Goals as goal

pub returns-clause-content : goal.returns-clause-content
returns-clause-content c =
    cleared c.args.contents.now.words c.retain.new.self c.args.first c.args.n
    (filter_same_pairs _ (is_kept c.args.first c.args.n) _ (λ k v b w f t. search rules) c.args.contents.now.words.entries c.retain.new.self.entries c.retain.ensures.filtered)
