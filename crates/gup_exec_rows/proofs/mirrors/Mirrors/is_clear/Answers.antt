use Rattle.gup_exec_parts.proofs.SpaceLemmas.{all_keys}
use Rattle.gup_exec_rows.specs.Mirrors.{frames_in, notes_in, IsElsewhere}
use Rattle.gup_exec_rows.proofs.mirrors.Mirrors.is_clear.Goals as goal

pub returns : goal.returns
unfolding frames_in IsElsewhere
returns c =
    let all = all_keys (λ m. IsElsewhere (notes_in c.args.self.now) c.args.p c.args.page m) c.args.self.now.frames in (
      λ h m noted there. all.0 (c.are_elsewhere.ensures.0 h) m there noted,
      λ h. c.are_elsewhere.ensures.1 (all.1 (λ m there noted. h m noted there)),
    )
