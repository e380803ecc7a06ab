use Rattle.std.proofs.Common.{ℕ, ◌+◌, Bool, true, List, rules, ◌∙◌, ap}
use Rattle.gup_spec_events.specs.State.{CoreState, Job, forking, copying}
use Rattle.gup_exec_parts.specs.Contents.{content_of}
use Rattle.gup_plain.specs.Put.{put, put2}
use Rattle.gup_plain.specs.State.{Birth}
use Rattle.gup_exec_rows.specs.Objects.{objects_in}
use Rattle.gup_exec_rows.specs.Procs.{births, copies}
use Rattle.gup_exec_rows.specs.Row.{at}
use Rattle.gup_exec_rows.specs.Sheets.{words_in}
use Rattle.gup_exec_core.proofs.ForkLemmas.{word_content, word_copied}
use Rattle.gup_exec_core.specs.State.{state_of}
use Rattle.gup_exec_core.proofs.trial.Trial.copy_word.Goals as goal

pub returns : goal.returns
returns c =
    let old = c.args.self.now in
    let K = content_of old.contents in
    let from = objects_in old.object c.args.p c.args.page in
    let to = objects_in old.object c.args.c c.args.page in
    let Q = copies old.procs in
    let J = at old.job in
    let W = words_in old.word in
    let N : CoreState = state_of (record old { word = c.put_at.new.self; procs = c.copy_word.new.self; contents = c.write.new.self; job = c.put.new.self }) in (
      search rules,
      ap (λ (x : ℕ → Birth). record N { birth = x }) (c.copy_word.ensures.births ∙ c.in_ok-touch.ensures.births)
          ∙ ap (λ (x : ℕ → ℕ → ℕ). record N { birth = births old.procs; content = x }) (c.in_ok-write.ensures.ok ∙ word_content K c.args.word c.get-from.result from c.get-object.result to c.read-value.result c.read-value.ensures c.get-from.ensures c.get-object.ensures)
          ∙ ap (λ (x : ℕ). record N { birth = births old.procs; content = put2 to c.args.word (K from c.args.word) K; made = x }) (c.in_ok-write.ensures.made)
          ∙ ap (λ (x : ℕ → ℕ → ℕ → Bool). record N { birth = births old.procs; content = put2 to c.args.word (K from c.args.word) K; made = old.contents.made; copied = x }) (c.copy_word.ensures.copies ∙ word_copied c.args.c c.args.page c.args.word (copies c.touch.new.self) Q c.in_ok-touch.ensures.copies)
          ∙ ap (λ (x : ℕ → ℕ → ℕ). record N { birth = births old.procs; content = put2 to c.args.word (K from c.args.word) K; made = old.contents.made; copied = put2 c.args.c c.args.page (put c.args.word true (Q c.args.c c.args.page)) Q; word = x }) (c.put_at.ensures ∙ ap (λ (v : ℕ). put2 c.args.to c.args.word v W) c.get-read.ensures)
          ∙ ap (λ (x : ℕ → Job). record N { birth = births old.procs; content = put2 to c.args.word (K from c.args.word) K; made = old.contents.made; copied = put2 c.args.c c.args.page (put c.args.word true (Q c.args.c c.args.page)) Q; word = put2 c.args.to c.args.word (W c.args.entry.frame c.args.word) W; job = x }) (c.put.ensures ∙ ap (λ (x : Job). put c.args.a x J) (c.forking.ensures ∙ ap (λ (ds : List ℕ). forking c.args.p c.args.c ds (copying c.args.page (c.get-n.result + 1))) c.in_ok-done.ensures ∙ ap (λ (k : ℕ). forking c.args.p c.args.c c.args.done.now (copying c.args.page (k + 1))) c.get-n.ensures.value)),
    )
