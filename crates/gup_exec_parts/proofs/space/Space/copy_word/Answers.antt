use Rattle.std.proofs.Common.{◌≡◌, ℕ, Bool, true, false, List, sym, ap, ◌∙◌}
use Rattle.gup_plain.specs.Put.{put}
use Rattle.gup_exec_parts.specs.Flags.{flag_of}
use Rattle.gup_exec_parts.specs.Space.{copied_of}
use Rattle.gup_exec_parts.proofs.TableLemmas.{at_found, key_updated}
use Rattle.gup_exec_parts.proofs.space.Space.copy_word.Goals as goal

pub returns-in-Some-clause-copied : goal.returns-in-Some-clause-copied
returns-in-Some-clause-copied c =
    let before : ℕ → ℕ → Bool = copied_of c.args.self.now in
    let flags : List Bool = c.set.new.self in
    let found = at_found flag_of (λ _. false) c.args.self.now.copied c.args.page c.in-Some.flags.now c.in-Some.ensures.value in
    let set : flag_of flags ≡ put c.args.word true (before c.args.page) = c.set.ensures ∙ ap (λ (f : ℕ → Bool). put c.args.word true f) (sym found) in
    key_updated flag_of (λ _. false) c.args.self.now.copied (c.get_mut.follows.lender flags) c.args.page flags ((c.get_mut.follows.holds flags).3 c.requires).0
    ∙ ap (λ (f : ℕ → Bool). put c.args.page f before) set
