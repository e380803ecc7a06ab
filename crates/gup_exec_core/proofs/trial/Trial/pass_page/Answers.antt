use Rattle.std.proofs.Common.{ℕ, Bool, true, List, rules, ◌∙◌, ap}
use Rattle.gup_spec_events.specs.State.{CoreState, Job, forking, between}
use Rattle.gup_exec_parts.specs.Contents.{content_of}
use Rattle.gup_plain.specs.Put.{put, put2, spread}
use Rattle.gup_plain.specs.State.{Birth}
use Rattle.gup_exec_rows.specs.Lists.{IsOneOf}
use Rattle.gup_exec_rows.specs.Objects.{objects_in}
use Rattle.gup_exec_rows.specs.Procs.{births, copies}
use Rattle.gup_exec_rows.specs.Row.{at}
use Rattle.gup_exec_core.proofs.ForkLemmas.{content_copied, page_copied}
use Rattle.gup_exec_core.specs.State.{state_of}
use Rattle.gup_exec_core.proofs.trial.Trial.pass_page.Goals as goal

pub returns : goal.returns
unfolding IsOneOf
returns c =
    let old = c.args.self.now in
    let K = content_of old.contents in
    let from = objects_in old.object c.args.p c.args.page in
    let to = objects_in old.object c.args.c c.args.page in
    let Q = copies old.procs in
    let J = at old.job in
    let N : CoreState = state_of (record old { procs = c.copy_page.new.self; contents = c.copy.new.self; job = c.put.new.self }) in (
      search rules,
      ap (λ (x : ℕ → Birth). record N { birth = x }) (c.copy_page.ensures.births ∙ c.in_ok-touch.ensures.births)
          ∙ ap (λ (x : ℕ → ℕ → ℕ). record N { birth = births old.procs; content = x }) (c.in_ok-copy.ensures.ok ∙ content_copied K c.get-from.result from c.get-to.result to c.get-from.ensures c.get-to.ensures)
          ∙ ap (λ (x : ℕ). record N { birth = births old.procs; content = put to (spread 0 512 (K from) (K to)) K; made = x }) (c.in_ok-copy.ensures.made)
          ∙ ap (λ (x : ℕ → ℕ → ℕ → Bool). record N { birth = births old.procs; content = put to (spread 0 512 (K from) (K to)) K; made = old.contents.made; copied = x }) (c.copy_page.ensures.copies ∙ page_copied c.args.c c.args.page (copies c.touch.new.self) Q c.in_ok-touch.ensures.copies)
          ∙ ap (λ (x : ℕ → Job). record N { birth = births old.procs; content = put to (spread 0 512 (K from) (K to)) K; made = old.contents.made; copied = put2 c.args.c c.args.page (spread 0 512 (λ _. true) (Q c.args.c c.args.page)) Q; job = x }) (c.put.ensures ∙ ap (λ (x : Job). put c.args.a x J) (c.forking.ensures ∙ ap (λ (ds : List ℕ). forking c.args.p c.args.c ds between) c.in_ok-done.ensures)),
    )
