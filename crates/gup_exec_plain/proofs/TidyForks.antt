-- The events of a fork leave a tidy state.
use Rattle.std.proofs.Common.{ℕ, arith}
use Rattle.std.specs.Prelude.{IsSome}
use Rattle.std.proofs.lemmas.Bool.Decides.{nat_tests}
use Rattle.gup_plain.specs.declared.event.PlainEvent.TheVariants.{ForkBegin, ForkPage, ForkWord, ForkEnd, ForkFail}
use Rattle.gup_plain.specs.State.{PlainState}
use Rattle.gup_plain.specs.Event.{CanHappen, happened, page_numbers}
use Rattle.gup_exec_plain.proofs.Tidy.{IsTidy, NamedMade, NamedNumbered, NamedAlone, HandleMade, PendingMade, UnmadeZero}
use Rattle.gup_exec_plain.proofs.Mappings.{handles_stay, pendings_stay}

-- each page of the child has an object of its own that was not made before, since page numbers are bounded
pub tidy-ForkBegin : (s : PlainState) (parent child : ℕ) → IsTidy s → CanHappen s (ForkBegin parent child) → IsTidy (happened s (ForkBegin parent child))
tidy-ForkBegin s parent child h c =
    let S : PlainState = happened s (ForkBegin parent child) in
    let named_made : NamedMade S = λ q g r. grind (arith, nat_tests, h.named_made q g r, h.named_numbered parent g r) in
    let named_numbered : NamedNumbered S = λ q g r. grind (arith, nat_tests, h.named_numbered q g r, h.named_numbered parent g r) in
    let named_alone : NamedAlone S = λ q g u k r t. grind (arith, nat_tests, h.named_alone q g u k r t, h.named_made q g r, h.named_made u k t) in
    let handle_made : HandleMade S = handles_stay s page_numbers h.handle_made in
    let pending_made : PendingMade S = pendings_stay s page_numbers h.pending_made in
    let unmade_zero : UnmadeZero S = λ o w. grind (arith, nat_tests, h.unmade_zero o w) in
    assumption

pub tidy-ForkPage : (s : PlainState) (parent child page : ℕ) → IsTidy s → CanHappen s (ForkPage parent child page) → IsTidy (happened s (ForkPage parent child page))
tidy-ForkPage s parent child page h c =
    let S : PlainState = happened s (ForkPage parent child page) in
    let named : IsSome (s.right child page) = c.0.2 in
    let unmade_zero : UnmadeZero S = λ o w. grind (arith, nat_tests, h.unmade_zero o w, h.named_made child page) in
    assumption

pub tidy-ForkWord : (s : PlainState) (parent child page word : ℕ) → IsTidy s → CanHappen s (ForkWord parent child page word) → IsTidy (happened s (ForkWord parent child page word))
tidy-ForkWord s parent child page word h c =
    let S : PlainState = happened s (ForkWord parent child page word) in
    let named : IsSome (s.right child page) = c.0.2 in
    let unmade_zero : UnmadeZero S = λ o w. grind (arith, nat_tests, h.unmade_zero o w, h.named_made child page) in
    assumption

pub tidy-ForkEnd : (s : PlainState) (parent child : ℕ) → IsTidy s → IsTidy (happened s (ForkEnd parent child))
tidy-ForkEnd s parent child h = assumption

pub tidy-ForkFail : (s : PlainState) (child : ℕ) → IsTidy s → IsTidy (happened s (ForkFail child))
tidy-ForkFail s child h =
    let S : PlainState = happened s (ForkFail child) in
    let named_made : NamedMade S = λ q g r. grind (arith, nat_tests, h.named_made q g r) in
    let named_numbered : NamedNumbered S = λ q g r. grind (arith, nat_tests, h.named_numbered q g r) in
    let named_alone : NamedAlone S = λ q g u k r t. grind (arith, nat_tests, h.named_alone q g u k r t) in
    assumption
