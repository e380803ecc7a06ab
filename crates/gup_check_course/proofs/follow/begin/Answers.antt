-- What a single step makes of an operation is what may come at its beginning.
use Rattle.gup_check_course.proofs.follow.begin.Goals as goal

pub returns-in-Unmap : goal.returns-in-Unmap
returns-in-Unmap c number = rw c.in-Unmap.is (rw c.get.ensures.value at c.unmap_page.ensures)

pub returns-in-Discard : goal.returns-in-Discard
returns-in-Discard c number = rw c.in-Discard.is (rw c.get-in-Discard.ensures.value at c.discard_page.ensures)

pub returns-in-Pin : goal.returns-in-Pin
returns-in-Pin c number = rw c.in-Pin.is (c.begin_pin.ensures number)

pub returns-in-Transfer : goal.returns-in-Transfer
returns-in-Transfer c number = rw c.in-Transfer.is (c.move_word.ensures c.args.proc number)

pub returns-in-Fork : goal.returns-in-Fork
returns-in-Fork c number = rw c.in-Fork.is (c.begin_fork.ensures c.args.actor number)

pub returns-in-Exit : goal.returns-in-Exit
returns-in-Exit c number = rw c.in-Exit.is (c.take_any.ensures number)
