use Rattle.gup_spec_check.specs.Seen.{seen_of}
use Rattle.gup_spec_check.specs.Times.{times_of}
use Rattle.gup_check.proofs.Taking.{known, of_actor, could, cannot, happens_kept, happens_seen, happened_shown, taken_behind}
use Rattle.gup_check.proofs.take.take.Goals as goal

pub judge-requires : goal.judge-requires
judge-requires c =
    let script = c.args.script.now in
    let notes = c.requires.taken.0 in
    let takes = c.requires.taken.1 in
    (seen_of script notes, times_of notes, takes.1, known script notes takes.0 (λ a. c.standings_are_places.ensures script notes a) (λ a page. c.pages_are_timed.ensures script notes a page))

pub returns-in_default : goal.returns-in_default
returns-in_default c notes takes accepted =
    let script = c.args.script.now in
    let knows = known script notes takes.0 (λ a. c.standings_are_places.ensures script notes a) (λ a page. c.pages_are_timed.ensures script notes a page) in
    c.in_default.ensures (seen_of script notes) (times_of notes) takes.1 knows ((c.notes_fit_one_by_one.ensures.more script notes c.args.note.now c.actors-actors.ensures.valid).0 accepted).1

pub happen-requires : goal.happen-requires
happen-requires c =
    let script = c.args.script.now in
    let notes = c.requires.taken.0 in
    let takes = c.requires.taken.1 in
    let knows = known script notes takes.0 (λ a. c.standings_are_places.ensures script notes a) (λ a page. c.pages_are_timed.ensures script notes a page) in
    let judged = c.in-Some.ensures (seen_of script notes) (times_of notes) takes.1 knows in
    let of = of_actor script (seen_of script notes) c.args.note.now c.in-Some.fit c.events_go_on.ensures judged.0 in
    rw (c.what.ensures, takes.1.actors) of

-- src/take.rt:37:9
pub returns-then-not-branch : goal.returns-then-not-branch
returns-then-not-branch c notes takes accepted =
    let script = c.args.script.now in
    let fits = ((c.notes_fit_one_by_one.ensures.more script notes c.args.note.now c.actors-actors.ensures.valid).0 accepted).1 in
    cannot c.in_ok-happen.field-0 _ _ c.in_ok-happen.ensures.happened c.if-not-branch.true
    (happens_kept script (seen_of script notes) c.args.note.now _ c.what.result takes.1.plain c.what.ensures fits)

-- src/take.rt:39:5
pub follow-requires-clause-fits : goal.follow-requires-clause-fits
follow-requires-clause-fits c =
    let script = c.args.script.now in
    let notes = c.requires.taken.0 in
    let takes = c.requires.taken.1 in
    let knows = known script notes takes.0 (λ a. c.standings_are_places.ensures script notes a) (λ a page. c.pages_are_timed.ensures script notes a page) in
    let judged = c.in-Some.ensures (seen_of script notes) (times_of notes) takes.1 knows in
    let happened = could c.in_ok-happen.field-0 _ _ c.in_ok-happen.ensures.happened c.if-not-branch.false in (
      seen_of script notes,
      times_of notes,
      happened_shown script c.args.note.now c.args.kept.now c.happen.new.plain (seen_of script notes) (times_of notes) c.what.result takes.1 happened.1 c.in_ok-happen.ensures.actors c.what.ensures,
      judged.0,
      knows.answered,
    )

-- src/take.rt:21:1
pub returns : goal.returns
returns c notes takes =
    let script = c.args.script.now in
    let note = c.args.note.now in
    let knows = known script notes takes.0 (λ a. c.standings_are_places.ensures script notes a) (λ a page. c.pages_are_timed.ensures script notes a page) in
    let judged = c.in-Some.ensures (seen_of script notes) (times_of notes) takes.1 knows in
    let happened = could c.in_ok-happen.field-0 _ _ c.in_ok-happen.ensures.happened c.if-not-branch.false in
    let fits = judged.1 (happens_seen (seen_of script notes) note _ c.what.result takes.1.plain c.what.ensures happened.0) in
    let before = happened_shown script note c.args.kept.now c.happen.new.plain (seen_of script notes) (times_of notes) c.what.result takes.1 happened.1 c.in_ok-happen.ensures.actors c.what.ensures in (
      (c.notes_fit_one_by_one.ensures.more script notes note c.actors-actors.ensures.valid).1 (takes.0, fits),
      taken_behind script c.follow.new.self notes note (c.seen_grows.ensures script notes note) (c.in_ok-follow.ensures (seen_of script notes) (times_of notes) before judged.0 knows.answered),
    )
