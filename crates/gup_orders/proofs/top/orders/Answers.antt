use Rattle.std.proofs.Common.{◌≡◌, ◌⊎◌, ℕ, Bool, List, inl, inr, subst}
use Rattle.std.specs.Io.KnownBytes.{Appends}
use Rattle.gup_io.specs.Transfers.{AppendsPart}
use Rattle.gup_script.specs.Script.{ScriptValue}
use Rattle.gup_front.specs.Reading.{IsUnreadFor}
use Rattle.gup_front.specs.declared.reading.Unread.{Unread}
use Rattle.gup_front.proofs.ReadBytes.{has_cause, are_script, refused_none}
use Rattle.gup_orders.specs.Report.{HasFound, IsTold, IsOfCondition}
use Rattle.gup_orders.proofs.Asking.{one_asking}
use Rattle.gup_orders.proofs.Reports.{of_text, of_any, of_no_script, is_of_condition, refused_by}
use Rattle.gup_orders.proofs.top.orders.Goals as goal

pub returns-in_default-clause-read_through : goal.returns-in_default-clause-read_through
returns-in_default-clause-read_through g c command five seven = absurd (c.asked_in.ensures.none c.in_default.is command)

pub returns-in-Ok-clause-script : goal.returns-in-Ok-clause-script
returns-in-Ok-clause-script g c command has = are_script (g.S.Source.remaining c.args.source.now) c.in-Ok.read.script c.in-Ok.ensures.script

pub returns-in-Ok-clause-told : goal.returns-in-Ok-clause-told
returns-in-Ok-clause-told g c behind limit asks has =
    let same = one_asking _ c.in-Some.asked.behind behind c.in-Some.asked.limit limit c.in-Some.ensures.found asks in
    let status = c.tell_and_write.result.status in
    let P : Bool → ℕ → List ℕ → ScriptValue → Type 0 =
    λ b n bytes script. (text : List ℕ) × IsTold b n bytes script status text × Appends (g.K.Sink.taken c.args.sink.now) (g.K.Sink.taken c.tell_and_write.new.sink) text in
    let told : P c.in-Some.asked.behind c.in-Some.asked.limit c.in-Ok.read.text.items c.in-Ok.read.script = c.tell_and_write.ensures.told has in
    of_text (g.S.Source.remaining c.args.source.now) c.in-Ok.read.text.items c.in-Ok.read.script (P behind limit) c.one_script.ensures c.in-Ok.ensures.text c.in-Ok.ensures.script
    (subst (λ (n : ℕ). P behind n c.in-Ok.read.text.items c.in-Ok.read.script) same.1 (subst (λ (b : Bool). P b c.in-Some.asked.limit c.in-Ok.read.text.items c.in-Ok.read.script) same.0 told))

pub returns-in-Ok-clause-complete : goal.returns-in-Ok-clause-complete
returns-in-Ok-clause-complete g c command read_well wrote_well =
    let report = c.tell_and_write.result in
    let X : Type 0 = HasFound report.status ⊎ ((report.status ≡ 3) × IsOfCondition report.refusal) ⊎ (report.status ≡ 7) in
    of_any (g.S.Source.remaining c.args.source.now) X
    (
    elim c.tell_and_write.ensures.statuses [
      | inl has ↦ inl has
      | inr rest ↦ elim rest [
        | inl three ↦ inr (inl (three, is_of_condition c.in-Ok.read.text.items c.in-Ok.read.script report.refusal (c.tell_and_write.ensures.refusal_there three) c.tell_and_write.ensures.refusal))
        | inr more ↦ elim more [
          | inl five ↦ absurd (c.tell_and_write.ensures.read five)
          | inr last ↦ elim last [ inl six ↦ absurd (wrote_well (has_cause _ _ _ (c.tell_and_write.ensures.write_fault six))) | inr seven ↦ inr (inr seven) ]
        ]
      ]
    ]
    )

pub returns-in-Ok-clause-refusal : goal.returns-in-Ok-clause-refusal
returns-in-Ok-clause-refusal g c =
    refused_by (g.S.Source.remaining c.args.source.now) c.in-Ok.read.text.items c.in-Ok.read.script c.tell_and_write.result.refusal c.one_script.ensures c.in-Ok.ensures.text c.in-Ok.ensures.script c.tell_and_write.ensures.refusal

pub returns-in-Ok-clause-text_part : goal.returns-in-Ok-clause-text_part
returns-in-Ok-clause-text_part g c behind limit asks six none =
    let same = one_asking _ c.in-Some.asked.behind behind c.in-Some.asked.limit limit c.in-Some.ensures.found asks in
    let P : Bool → ℕ → List ℕ → ScriptValue → Type 0 =
    λ b n bytes script. (status : ℕ) × (text : List ℕ) × IsTold b n bytes script status text × AppendsPart (g.K.Sink.taken c.args.sink.now) (g.K.Sink.taken c.tell_and_write.new.sink) text in
    let told : P c.in-Some.asked.behind c.in-Some.asked.limit c.in-Ok.read.text.items c.in-Ok.read.script = c.tell_and_write.ensures.text_part six none in
    of_text (g.S.Source.remaining c.args.source.now) c.in-Ok.read.text.items c.in-Ok.read.script (P behind limit) c.one_script.ensures c.in-Ok.ensures.text c.in-Ok.ensures.script
    (subst (λ (n : ℕ). P behind n c.in-Ok.read.text.items c.in-Ok.read.script) same.1 (subst (λ (b : Bool). P b c.in-Some.asked.limit c.in-Ok.read.text.items c.in-Ok.read.script) same.0 told))

pub returns-in-Err-Fault-clause-complete : goal.returns-in-Err-Fault-clause-complete
returns-in-Err-Fault-clause-complete g c command read_well wrote_well =
    let P : Unread → Type 0 = λ why. IsUnreadFor (g.S.Source.remaining c.args.source.now) (g.S.Source.faults c.args.source.now) (g.S.Source.faults c.read.new.source) (g.S.Source.faulted c.read.new.source) why in
    let report = c.refuse.result in
    of_no_script (g.S.Source.remaining c.args.source.now) (λ bytes script. HasFound report.status ⊎ ((report.status ≡ 3) × IsOfCondition report.refusal) ⊎ (report.status ≡ 7))
    (refused_none (g.S.Source.remaining c.args.source.now) c.in-Err-Fault.fault c.scripts_have_no_fault.ensures (subst P c.in-Err-Fault.field-0-is c.in-Err-Fault.ensures.unread))
