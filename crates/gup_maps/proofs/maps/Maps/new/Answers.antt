use Rattle.std.proofs.Common.{refl}
use Rattle.std.proofs.lemmas.List.{nil_from_length}
use Rattle.gup_maps.proofs.maps.Maps.new.Goals as goal

pub returns : goal.returns
returns c = rw (nil_from_length c.in_ok-rights.rights c.in_ok-rights.ensures.len) refl
