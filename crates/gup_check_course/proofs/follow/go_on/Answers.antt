-- What a single step makes of an operation is what may come behind its first event.
use Rattle.gup_check_course.proofs.follow.go_on.Goals as goal

pub returns-in-Taking : goal.returns-in-Taking
returns-in-Taking c number = rw (c.in-Unmap.is, c.in-Taking.is) c.unmap_page.ensures

pub returns-in-Taking-course : goal.returns-in-Taking-course
returns-in-Taking-course c number = rw (c.in-Discard.is, c.in-Taking-course.is) c.discard_page.ensures

pub returns-in-Taking-course-2 : goal.returns-in-Taking-course-2
returns-in-Taking-course-2 c number = rw (c.in-Exit.is, c.in-Taking-course-2.is) (c.take_any.ensures number)

pub returns-in-Moved : goal.returns-in-Moved
returns-in-Moved c number = rw (c.in-Transfer.is, c.in-Moved.is) (c.move_word.ensures c.args.proc number)

pub returns-in-Forking : goal.returns-in-Forking
returns-in-Forking c number = rw (c.in-Fork.is, c.in-Forking.is) (c.fork_on.ensures c.args.actor number)

pub returns-in-Copying : goal.returns-in-Copying
returns-in-Copying c number = rw (c.in-Fork.is, c.in-Copying.is) (c.copy_word.ensures c.args.actor number)

pub returns-in-Walking : goal.returns-in-Walking
returns-in-Walking c number = rw (c.in-Pin.is, c.in-Walking.is) (c.walk.ensures number)

pub returns-in-Stopped : goal.returns-in-Stopped
returns-in-Stopped c number = rw (c.in-Pin.is, c.in-Stopped.is) (c.go_from_mark.ensures number)

pub returns-in-Dropping : goal.returns-in-Dropping
returns-in-Dropping c number = rw (c.in-Pin.is, c.in-Dropping.is) (c.drop_page.ensures c.args.proc number)

pub returns-in-Slow : goal.returns-in-Slow
returns-in-Slow c number = rw (c.in-Pin.is, c.in-Slow.is) (rw c.in-Pin.is at (c.go_slowly.ensures number))
