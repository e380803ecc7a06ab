use Rattle.std.proofs.Common.{ℕ, ◌+◌, Bool, false, List, Option, Some, rules, sym, ◌∙◌, ap}
use Rattle.gup_base.specs.declared.entry.Rights.{Rights}
use Rattle.gup_spec_events.specs.State.{CoreState, Job, forking, between}
use Rattle.gup_exec_parts.specs.Contents.{content_of}
use Rattle.gup_exec_parts.proofs.SpaceLemmas.{page_numbers-is}
use Rattle.gup_plain.specs.Event.{page_numbers}
use Rattle.gup_plain.specs.Pages.{mapped_pages}
use Rattle.gup_plain.specs.Put.{put, spread}
use Rattle.gup_plain.specs.State.{Birth, growing, named_or_zero}
use Rattle.gup_exec_rows.specs.Grid.{found}
use Rattle.gup_exec_rows.specs.Objects.{objects_in}
use Rattle.gup_exec_rows.specs.Procs.{births, copies}
use Rattle.gup_exec_rows.specs.Row.{at}
use Rattle.gup_exec_core.specs.State.{state_of}
use Rattle.gup_exec_core.proofs.trial.Trial.begin_fork.Goals as goal

pub returns : goal.returns
returns c =
    let old = c.args.self.now in
    let made = old.contents.made in
    let K = content_of old.contents in
    let O = objects_in old.object in
    let R = found old.right in
    let J = at old.job in
    let N : CoreState = state_of (record old { procs = c.grow.new.self; sequence = c.put-4.new.self; structure = c.put-5.new.self; pages = c.put-3.new.self; right = c.put.new.self; object = c.put-2.new.self; contents = record c.clear.new.contents { made = c.in_ok-made.made }; job = c.put-6.new.self }) in (
      search rules,
      ap (λ (x : ℕ → Birth). record N { birth = x }) (c.grow.ensures.births)
          ∙ ap (λ (x : ℕ → ℕ → ℕ → Bool). record N { birth = put c.args.c (growing c.args.p) (births old.procs); copied = x }) (c.grow.ensures.copies)
          ∙ ap (λ (x : ℕ → ℕ → ℕ). record N { birth = put c.args.c (growing c.args.p) (births old.procs); copied = put c.args.c (λ _ _. false) (copies old.procs); content = x }) (c.clear.ensures.content ∙ ap (λ (n : ℕ). spread made n (λ _ _. 0) K) (sym page_numbers-is))
          ∙ ap (λ (x : ℕ). record N { birth = put c.args.c (growing c.args.p) (births old.procs); copied = put c.args.c (λ _ _. false) (copies old.procs); content = spread made page_numbers (λ _ _. 0) K; made = x }) (c.in_ok-made.ensures ∙ ap (λ (n : ℕ). made + n) (sym page_numbers-is))
          ∙ ap (λ (x : ℕ → ℕ → Option Rights). record N { birth = put c.args.c (growing c.args.p) (births old.procs); copied = put c.args.c (λ _ _. false) (copies old.procs); content = spread made page_numbers (λ _ _. 0) K; made = made + page_numbers; right = x }) (c.put.ensures ∙ ap (λ (f : ℕ → Option Rights). put c.args.c f R) c.in_ok-rights.ensures)
          ∙ ap (λ (x : ℕ → ℕ → ℕ). record N { birth = put c.args.c (growing c.args.p) (births old.procs); copied = put c.args.c (λ _ _. false) (copies old.procs); content = spread made page_numbers (λ _ _. 0) K; made = made + page_numbers; right = put c.args.c (R c.args.p) R; object = x }) (c.put-2.ensures ∙ ap (λ (f : ℕ → ℕ). put c.args.c f O) c.in_ok-names.ensures)
          ∙ ap (λ (x : ℕ → ℕ). record N { birth = put c.args.c (growing c.args.p) (births old.procs); copied = put c.args.c (λ _ _. false) (copies old.procs); content = spread made page_numbers (λ _ _. 0) K; made = made + page_numbers; right = put c.args.c (R c.args.p) R; object = put c.args.c (λ page. named_or_zero (R c.args.p page) (made + page)) O; pages = x }) (c.put-3.ensures ∙ ap (λ (n : ℕ). put c.args.c n (at old.pages)) c.count-pages.ensures)
          ∙ ap (λ (x : ℕ → ℕ). record N { birth = put c.args.c (growing c.args.p) (births old.procs); copied = put c.args.c (λ _ _. false) (copies old.procs); content = spread made page_numbers (λ _ _. 0) K; made = made + page_numbers; right = put c.args.c (R c.args.p) R; object = put c.args.c (λ page. named_or_zero (R c.args.p page) (made + page)) O; pages = put c.args.c (mapped_pages (R c.args.p)) (at old.pages); sequence = x }) (c.put-4.ensures ∙ ap (λ (n : ℕ). put c.args.p n (at old.sequence)) (c.in_ok-sequence.ensures ∙ ap (λ (n : ℕ). n + 1) c.get-3.ensures))
          ∙ ap (λ (x : ℕ → Option ℕ). record N { birth = put c.args.c (growing c.args.p) (births old.procs); copied = put c.args.c (λ _ _. false) (copies old.procs); content = spread made page_numbers (λ _ _. 0) K; made = made + page_numbers; right = put c.args.c (R c.args.p) R; object = put c.args.c (λ page. named_or_zero (R c.args.p page) (made + page)) O; pages = put c.args.c (mapped_pages (R c.args.p)) (at old.pages); sequence = put c.args.p (at old.sequence c.args.p + 1) (at old.sequence); structure = x }) (c.put-5.ensures)
          ∙ ap (λ (x : ℕ → Job). record N { birth = put c.args.c (growing c.args.p) (births old.procs); copied = put c.args.c (λ _ _. false) (copies old.procs); content = spread made page_numbers (λ _ _. 0) K; made = made + page_numbers; right = put c.args.c (R c.args.p) R; object = put c.args.c (λ page. named_or_zero (R c.args.p page) (made + page)) O; pages = put c.args.c (mapped_pages (R c.args.p)) (at old.pages); sequence = put c.args.p (at old.sequence c.args.p + 1) (at old.sequence); structure = put c.args.p (Some c.args.a) (at old.structure); job = x }) (c.put-6.ensures ∙ ap (λ (x : Job). put c.args.a x J) (c.forking.ensures ∙ ap (λ (ds : List ℕ). forking c.args.p c.args.c ds between) c.new-done.ensures.items)),
    )
