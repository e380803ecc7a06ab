use Rattle.std.proofs.Common.{◌≡◌, ℕ, ◌<◌, true, IsSome, refl, subst, sym}
use Rattle.gup_plain.specs.State.{growing}
use Rattle.gup_exec_plain.proofs.Processes.{At, ended}
use Rattle.gup_exec_parts.proofs.SpaceLemmas.{absurd_truth, all_keys, right_some, some_right}
use Rattle.gup_exec_parts.specs.Pages.{right_in}
use Rattle.gup_exec_parts.specs.Space.{SpaceState, copied_of}
use Rattle.gup_exec_parts.specs.declared.space.Space.{Space}
use Rattle.gup_exec_plain.proofs.parts.Parts.fork_end.Goals as goal

abbrev AreCopied : SpaceState → Type 0
AreCopied x = (page word : ℕ) → IsSome (right_in (x.page page)) → word < 512 → x.copied page word ≡ true

pub returns-then-not-has_copied_all-clause-event : goal.returns-then-not-has_copied_all-clause-event
returns-then-not-has_copied_all-clause-event c =
    let P : ℕ → Type 0 = λ page. (word : ℕ) → word < 512 → copied_of c.space-space.result.now page word ≡ true in (
      λ can.
          let all = subst AreCopied (sym c.space-space.ensures) can.1 in
          absurd_truth (c.if-not-has_copied_all.ensures.1 ((all_keys P c.space-space.result.now.pages).1 (λ page there word small. all page word (some_right _ there) small))),
      refl,
    )

pub returns-clause-event : goal.returns-clause-event
returns-clause-event c =
    let was : Space = c.index_mut-space.result.now in
    let at : At c.args.self.now c.args.child c.get.result was = record { index = c.get.ensures.value; below = c.get.ensures.below; spaces = c.requires.all.spaces; is = c.index_mut-space.ensures.value } in
    let G : SpaceState → Type 0 = λ x. x.birth ≡ growing c.args.parent in
    let P : ℕ → Type 0 = λ page. (word : ℕ) → word < 512 → copied_of c.space-space.result.now page word ≡ true in
    let all = (all_keys P c.space-space.result.now.pages).0 (c.if-not-has_copied_all.ensures.0 refl) in (
      (
        subst G c.space-space.ensures (c.if-not-grows_from.ensures.0 refl),
        subst AreCopied c.space-space.ensures (λ page word there small. all page (right_some _ there) word small),
      ),
      ended c.args.self.now c.args.parent c.args.child c.get.result was c.be_born.new.self at c.be_born.ensures,
    )
