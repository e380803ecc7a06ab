use Rattle.std.proofs.Common.{◌≡◌, Some, None, refl, sym, ap, ◌∙◌}
use Rattle.gup_frames.specs.Frames.{frames_of}
use Rattle.gup_space.specs.Space.{SpaceValue, space_of}
use Rattle.gup_unmap.proofs.DownSteps.{unmapped, unmapped_empty, unmapped_entry, words_stay, some_held}
use Rattle.gup_unmap.proofs.take_down.Goals as goal

pub returns-then-not-unmap_page-clause-events : goal.returns-then-not-unmap_page-clause-events
returns-then-not-unmap_page-clause-events c =
    let S = space_of c.args.space.now in
    unmapped (frames_of c.args.frames.now) S (space_of c.unmap_page.new.self) c.args.page (S.right c.args.page) (S.entry c.args.page)
    refl (sym c.if-not-unmap_page.ensures.was) c.unmap_page.ensures.unmapped

pub returns-in_default-clause-events : goal.returns-in_default-clause-events
returns-in_default-clause-events c =
    let S = space_of c.args.space.now in
    let none : S.entry c.args.page ≡ None = sym (c.in_default.ensures.entry ∙ ap (λ (x : SpaceValue). x.entry c.args.page) c.unmap_page.ensures.unmapped) in
    unmapped_empty (frames_of c.args.frames.now) S (space_of c.take_entry.new.self) c.args.page (S.right c.args.page) (S.entry c.args.page)
    refl (sym c.if-not-unmap_page.ensures.was) refl none (ap space_of c.in_default.ensures.kept ∙ c.unmap_page.ensures.unmapped)

pub put-requires-clause-there : goal.put-requires-clause-there
put-requires-clause-there c =
    c.requires.there c.in-Some.entry (sym (c.in-Some.ensures.entry ∙ ap (λ (x : SpaceValue). x.entry c.args.page) c.unmap_page.ensures.unmapped))

pub put-requires-clause-held : goal.put-requires-clause-held
put-requires-clause-held c =
    some_held ((frames_of c.args.frames.now).count c.in-Some.entry.frame)
    (c.requires.counted c.in-Some.entry (sym (c.in-Some.ensures.entry ∙ ap (λ (x : SpaceValue). x.entry c.args.page) c.unmap_page.ensures.unmapped)))

pub returns-clause-events : goal.returns-clause-events
returns-clause-events c =
    let S = space_of c.args.space.now in
    let found : S.entry c.args.page ≡ Some c.in-Some.entry = sym (c.in-Some.ensures.entry ∙ ap (λ (x : SpaceValue). x.entry c.args.page) c.unmap_page.ensures.unmapped) in
    unmapped_entry (frames_of c.args.frames.now) (frames_of c.put.new.self) S (space_of c.unmap_page.new.self) (space_of c.take_entry.new.self) c.args.page (S.right c.args.page) (S.entry c.args.page) c.in-Some.entry
    refl (sym c.if-not-unmap_page.ensures.was) found c.unmap_page.ensures.unmapped c.in-Some.ensures.taken c.put.ensures

pub returns-clause-words : goal.returns-clause-words
returns-clause-words c = words_stay (frames_of c.args.frames.now) (frames_of c.put.new.self) c.in-Some.entry.frame c.put.ensures
