use Rattle.std.proofs.Common.{◌≡◌, ◌∙◌, ap, subst, arith}
use Rattle.std.specs.Prelude.{codes, OnOk}
use Rattle.gup_make.specs.Made.{Made, thread_lines, first_device, second_device, move_line, round}
use Rattle.gup_make.proofs.Handles.{thread_few}
use Rattle.gup_make.proofs.maker.Maker.round.Goals as goal

pub thread-requires-4 : goal.thread-requires-4
thread-requires-4 c =
    let one : c.thread.new.self ≡ thread_lines (codes "t1") c.args.self.now = c.in_ok-thread.ensures in
    let two : c.thread-2.new.self ≡ thread_lines (codes "t2") c.thread.new.self = c.in_ok-thread-2.ensures in
    let three : c.thread-3.new.self ≡ thread_lines (codes "t3") c.thread-2.new.self = c.in_ok-thread-3.ensures in
    let handles : Made → _ = λ made. made.handles in
    omega (arith, c.requires, ap handles one, ap handles two, ap handles three, thread_few (codes "t1") c.args.self.now, thread_few (codes "t2") c.thread.new.self, thread_few (codes "t3") c.thread-2.new.self)

pub returns : goal.returns
unfolding round
returns c =
    let one : c.thread.new.self ≡ thread_lines (codes "t1") c.args.self.now = c.in_ok-thread.ensures in
    let two : c.thread-2.new.self ≡ thread_lines (codes "t2") c.thread.new.self = c.in_ok-thread-2.ensures in
    let three : c.thread-3.new.self ≡ thread_lines (codes "t3") c.thread-2.new.self = c.in_ok-thread-3.ensures in
    let four : c.thread-4.new.self ≡ thread_lines (codes "t4") c.thread-3.new.self = c.in_ok-thread-4.ensures in
    let first : c.first_device.new.self ≡ first_device c.thread-4.new.self = c.in_ok-first_device.ensures in
    let second : c.transfer.new.self ≡ second_device c.first_device.new.self = c.in_ok-transfer.ensures in
    let all = second ∙ ap second_device (first ∙ ap first_device (four ∙ ap (thread_lines (codes "t4")) (three ∙ ap (thread_lines (codes "t3")) (two ∙ ap (thread_lines (codes "t2")) one)))) in
    subst (λ (made : Made). OnOk c.move_page.result (c.move_page.new.self ≡ move_line made)) all c.move_page.ensures
