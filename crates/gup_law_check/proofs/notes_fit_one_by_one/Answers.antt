-- Each part of what accepted notes are is so with one more note exactly where it is so before it, and this note fits in that part.
use Rattle.std.proofs.Common.{[], refl}
use Rattle.gup_spec_journal.specs.Plain.{IsRightAt}
use Rattle.gup_spec_check.specs.Seen.{Seen, seen_first}
use Rattle.gup_law_check.proofs.OneMore.{so_of_more, pass_with_more, stand_with_more, turns_of_more}
use Rattle.gup_law_check.proofs.Standings.{TellsBeginnings, begins_with_more}
use Rattle.gup_law_check.proofs.notes_fit_one_by_one.Goals as goal

pub returns-clause-none : goal.returns-clause-none
returns-clause-none c script valid =
    record {
      turns = tt;
      begins = λ a. (c.courses_are_beginnings.ensures script a [] valid).0 refl;
      plain = tt;
      passing = tt;
      standing = tt;
    }

pub returns-clause-more : goal.returns-clause-more
returns-clause-more c script notes note valid =
    let first : Seen = seen_first script in
    let tells : TellsBeginnings script = λ a said. c.courses_are_beginnings.ensures script a said valid in
    let turns = turns_of_more script first notes note in
    let begins = begins_with_more script tells notes note in
    let plain = so_of_more IsRightAt script first notes note in
    let passing = pass_with_more script first notes note in
    let standing = stand_with_more script first notes note in (
      λ is. (
        record {
          turns = (turns.0 is.turns).0;
          begins = (begins.0 is.begins).0;
          plain = (plain.0 is.plain).0;
          passing = (passing.0 is.passing).0;
          standing = (standing.0 is.standing).0;
        },
        record {
          turn = (turns.0 is.turns).1;
          course = (begins.0 is.begins).1;
          plain = (plain.0 is.plain).1;
          passing = (passing.0 is.passing).1;
          standing = (standing.0 is.standing).1;
        },
      ),
      λ is. record {
        turns = turns.1 (is.0.turns, is.1.turn);
        begins = begins.1 (is.0.begins, is.1.course);
        plain = plain.1 (is.0.plain, is.1.plain);
        passing = passing.1 (is.0.passing, is.1.passing);
        standing = standing.1 (is.0.standing, is.1.standing);
      },
    )
