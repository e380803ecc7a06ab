use Rattle.std.proofs.Common.{◌∙◌, ap, rules}
use Rattle.gup_notify.specs.Mirrors.{mirrors_of}
use Rattle.gup_notify.proofs.Slots.{none_filled}
use Rattle.gup_notify.proofs.mirrors.Mirrors.new.Goals as goal

pub returns : goal.returns
returns c = ap mirrors_of (c.in_ok-slots.ensures.items_if_clones_equal (λ y clone. search rules)) ∙ none_filled 64
