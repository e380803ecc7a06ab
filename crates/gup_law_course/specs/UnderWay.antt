-- Whether an operation has begun, by how far it has come.
use Rattle.std.specs.Prelude.{Bool, true, false}
use Rattle.gup_check_course.specs.declared.course.Course.{Course}
use Rattle.gup_check_course.specs.declared.course.Course.TheVariants.{Start}

-- it has had an event
abbrev pub is_under_way : Course → Bool
is_under_way Start = false
is_under_way course = true
