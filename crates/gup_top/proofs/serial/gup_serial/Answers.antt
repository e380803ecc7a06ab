use Rattle.std.proofs.Common.{refl, sym, subst, inl, inr}
use Rattle.gup_front.specs.Reading.{IsUnreadFor, IsRefusedFor, IsReadThrough, IfFault}
use Rattle.gup_front.specs.declared.reading.Unread.{Unread}
use Rattle.gup_front.proofs.ReadBytes.{refused_none}
use Rattle.gup_top.proofs.Commands.{asked_told, asked_check, asked_make, runs_told, reads_source, none_at_all}
use Rattle.gup_top.proofs.Reports.{usage_report, make_report, check_report, failed_report, memory_report, refused_report, run_report}
use Rattle.gup_top.proofs.serial.gup_serial.Goals as goal

pub returns-in_default-clause-report : goal.returns-in_default-clause-report
returns-in_default-clause-report g c =
    let told = c.show_usage.ensures in
    usage_report _ _ _ _ told.live told.machine (none_at_all _ (c.command_of.ensures.none c.in_default.is) c.requires) told.statuses told.refusal told.journal told.text told.part refl told.write_fault told.uncounted

pub returns-in-Make-clause-report : goal.returns-in-Make-clause-report
returns-in-Make-clause-report g c =
    let told = c.make_and_write.ensures in
    let asked = asked_make _ c.in-Some.command c.in-Make.n c.in-Make.is c.in-Some.ensures.found in
    make_report _ _ _ _ told.live told.machine c.in-Make.n asked told.statuses told.refusal told.journal told.finished told.stuck told.part refl told.write_fault told.uncounted

pub returns-in-Check-clause-report : goal.returns-in-Check-clause-report
returns-in-Check-clause-report g c =
    let told = c.check_source-checked.ensures in
    let checked = c.check_source-checked.result in
    let asked = asked_check _ c.in-Some.command c.in-Check.is c.in-Some.ensures.found in
    check_report _ _ _ _ c.unrun.ensures.live c.unrun.ensures.machine checked.status checked.refusal c.unrun.ensures.status c.unrun.ensures.refusal asked
    (
    record {
      statuses = told.statuses;
      trace = told.trace;
      verdict = told.verdict;
      complete = λ well. told.complete well.0 well.1;
      refused = told.refused;
      refusal = told.refusal;
      reading = told.reading;
      read_through = told.read_through;
      verdict_part = told.verdict_part;
      refused_or_judged = told.refused_or_judged;
      no_refusal = λ judged. told.no_refusal (inl judged);
      unrun = c.unrun.ensures.journal;
    }
    )
    (record { read = told.read_fault; no_read = told.no_read_fault; write = told.write_fault; no_write = told.no_write_fault })
    told.refusal_there told.refusal_text told.refusal_part told.no_refusal

pub returns-in-Check-clause-unread : goal.returns-in-Check-clause-unread
returns-in-Check-clause-unread g c asked =
    absurd (reads_source _ (inr (asked_check _ c.in-Some.command c.in-Check.is c.in-Some.ensures.found)) asked)

pub returns-in-Ok-clause-report : goal.returns-in-Ok-clause-report
returns-in-Ok-clause-report g c =
    let told = c.run_and_write.ensures in
    let read = c.in-Ok.ensures in
    let asked = asked_told _ c.in-Some.command c.in-Run.format c.in-Run.is c.in-Some.ensures.found in
    run_report _ _ _ _ told.live c.in-Run.format c.in-Ok.found.text.items c.in-Ok.found.script asked c.one_script.ensures read.accepted read.text read.script told.finished told.stuck
    c.accepted_notes_are_never_wrong.ensures read.reading read.ended (read.uncounted (λ failed. absurd (cc failed))) told.statuses told.refusal told.machine told.unmade told.unrun told.written told.part told.write_fault told.uncounted

pub returns-in-Ok-clause-unread : goal.returns-in-Ok-clause-unread
returns-in-Ok-clause-unread g c asked =
    absurd (reads_source _ (inl (runs_told _ c.in-Run.format (asked_told _ c.in-Some.command c.in-Run.format c.in-Run.is c.in-Some.ensures.found))) asked)

pub returns-in-Err-Failed-clause-report : goal.returns-in-Err-Failed-clause-report
returns-in-Err-Failed-clause-report g c =
    let P : Unread → Type 0 = λ why. IsUnreadFor (g.S.Source.remaining c.args.source.now) (g.S.Source.faults c.args.source.now) (g.S.Source.faults c.read.new.source) (g.S.Source.faulted c.read.new.source) why in
    let asked = runs_told _ c.in-Run.format (asked_told _ c.in-Some.command c.in-Run.format c.in-Run.is c.in-Some.ensures.found) in
    let told = c.unrun-in-Err-Failed.ensures in
    failed_report _ _ _ _ told.live told.machine asked told.status told.refusal told.journal c.in-Err-Failed.ensures.reading (subst P c.in-Err-Failed.field-0-is c.in-Err-Failed.ensures.unread) refl

pub returns-in-Err-NoMemory-clause-report : goal.returns-in-Err-NoMemory-clause-report
returns-in-Err-NoMemory-clause-report g c =
    let asked = runs_told _ c.in-Run.format (asked_told _ c.in-Some.command c.in-Run.format c.in-Run.is c.in-Some.ensures.found) in
    let told = c.unrun-in-Err-NoMemory.ensures in
    memory_report _ _ _ _ told.live told.machine asked told.status told.refusal told.journal c.in-Err-NoMemory.ensures.reading (c.in-Err-NoMemory.ensures.uncounted (λ failed. absurd (cc failed))) refl

pub returns-in-Err-Fault-clause-report : goal.returns-in-Err-Fault-clause-report
returns-in-Err-Fault-clause-report g c =
    let told = c.refuse.ensures in
    let remaining = g.S.Source.remaining c.args.source.now in
    let P : Unread → Type 0 = λ why. IsUnreadFor remaining (g.S.Source.faults c.args.source.now) (g.S.Source.faults c.read.new.source) (g.S.Source.faulted c.read.new.source) why in
    let Q : Unread → Type 0 = λ why. IfFault why (IsReadThrough remaining (g.S.Source.remaining c.read.new.source)) in
    let asked = runs_told _ c.in-Run.format (asked_told _ c.in-Some.command c.in-Run.format c.in-Run.is c.in-Some.ensures.found) in
    let why = subst P c.in-Err-Fault.field-0-is c.in-Err-Fault.ensures.unread in
    refused_report _ _ _ _ told.live told.machine _ told.refusal asked (refused_none remaining c.in-Err-Fault.fault c.scripts_have_no_fault.ensures why) (subst (IsRefusedFor remaining) (sym c.in-Err-Fault.fault-is) why)
    c.in-Err-Fault.ensures.reading (subst Q c.in-Err-Fault.field-0-is c.in-Err-Fault.ensures.refused) (c.in-Err-Fault.ensures.uncounted (λ failed. absurd (cc failed)))
    told.statuses told.journal told.text told.part told.write_fault told.uncounted
