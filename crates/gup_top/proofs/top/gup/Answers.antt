use Rattle.std.proofs.Common.{refl, sym, subst}
use Rattle.gup_front.specs.Reading.{IsUnreadFor, IsRefusedFor, IsReadThrough, IfFault}
use Rattle.gup_front.specs.declared.reading.Unread.{Unread}
use Rattle.gup_front.proofs.ReadBytes.{refused_none}
use Rattle.gup_top.proofs.Commands.{lives_in, live_reads}
use Rattle.gup_top.proofs.LiveReports.{failed_live, memory_live, refused_live, run_live_report}
use Rattle.gup_top.proofs.top.gup.Goals as goal

pub returns-in-Ok-clause-report : goal.returns-in-Ok-clause-report
returns-in-Ok-clause-report g c =
    let told = c.live_and_write.ensures in
    let read = c.in-Ok.ensures in
    run_live_report _ _ _ _ told.machine c.in-Some.format c.in-Ok.found.text.items c.in-Ok.found.script c.in-Some.ensures.found c.one_script.ensures read.accepted read.text read.script
    read.reading read.ended (read.uncounted (λ failed. absurd (cc failed))) told.statuses told.refusal told.journal told.finished told.part told.none told.write_fault told.uncounted

pub returns-in-Err-Failed-clause-report : goal.returns-in-Err-Failed-clause-report
returns-in-Err-Failed-clause-report g c =
    let P : Unread → Type 0 = λ why. IsUnreadFor (g.S.Source.remaining c.args.source.now) (g.S.Source.faults c.args.source.now) (g.S.Source.faults c.read.new.source) (g.S.Source.faulted c.read.new.source) why in
    let told = c.unrun.ensures in
    failed_live _ _ _ _ told.machine (lives_in _ c.in-Some.format c.in-Some.ensures.found) told.status told.refusal told.journal told.live c.in-Err-Failed.ensures.reading (subst P c.in-Err-Failed.field-0-is c.in-Err-Failed.ensures.unread) refl

pub returns-in-Err-NoMemory-clause-report : goal.returns-in-Err-NoMemory-clause-report
returns-in-Err-NoMemory-clause-report g c =
    let told = c.unrun-in-Err-NoMemory.ensures in
    memory_live _ _ _ _ told.machine (lives_in _ c.in-Some.format c.in-Some.ensures.found) told.status told.refusal told.journal told.live c.in-Err-NoMemory.ensures.reading (c.in-Err-NoMemory.ensures.uncounted (λ failed. absurd (cc failed))) refl

pub returns-in-Err-Fault-clause-report : goal.returns-in-Err-Fault-clause-report
returns-in-Err-Fault-clause-report g c =
    let told = c.refuse.ensures in
    let remaining = g.S.Source.remaining c.args.source.now in
    let P : Unread → Type 0 = λ why. IsUnreadFor remaining (g.S.Source.faults c.args.source.now) (g.S.Source.faults c.read.new.source) (g.S.Source.faulted c.read.new.source) why in
    let Q : Unread → Type 0 = λ why. IfFault why (IsReadThrough remaining (g.S.Source.remaining c.read.new.source)) in
    let why = subst P c.in-Err-Fault.field-0-is c.in-Err-Fault.ensures.unread in
    refused_live _ _ _ _ told.machine _ told.refusal told.live (lives_in _ c.in-Some.format c.in-Some.ensures.found) (refused_none remaining c.in-Err-Fault.fault c.scripts_have_no_fault.ensures why) (subst (IsRefusedFor remaining) (sym c.in-Err-Fault.fault-is) why)
    c.in-Err-Fault.ensures.reading (subst Q c.in-Err-Fault.field-0-is c.in-Err-Fault.ensures.refused) (c.in-Err-Fault.ensures.uncounted (λ failed. absurd (cc failed)))
    told.statuses told.journal told.text told.part told.write_fault told.uncounted
