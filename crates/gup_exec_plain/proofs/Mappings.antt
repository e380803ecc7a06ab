-- The events that give pages their rights and objects and take them away leave a tidy state.
use Rattle.std.proofs.Common.{◌≡◌, ℕ, ◌+◌, ◌≤◌, true, arith}
use Rattle.std.specs.Prelude.{Some, IsSome}
use Rattle.gup_plain.specs.Put.{within}
use Rattle.std.proofs.lemmas.Bool.Decides.{nat_tests}
use Rattle.gup_base.specs.declared.entry.Rights.{Rights}
use Rattle.gup_plain.specs.declared.event.PlainEvent.TheVariants.{Map, Unmap, Discard, Protect}
use Rattle.gup_plain.specs.State.{PlainState}
use Rattle.gup_plain.specs.Event.{CanHappen, happened, page_numbers}
use Rattle.gup_exec_plain.proofs.Puts.{within_has, some_value}
use Rattle.gup_exec_plain.proofs.Tidy.{IsTidy, NamedMade, NamedNumbered, NamedAlone, HandleMade, PendingMade, UnmadeZero}

-- what was made is made once more objects are
pub handles_stay : (s : PlainState) (n : ℕ) → HandleMade s → HandleMade (record s { made = s.made + n })
handles_stay s n made h k d is = omega (arith, made h k d is)

pub pendings_stay : (s : PlainState) (n : ℕ) → PendingMade s → PendingMade (record s { made = s.made + n })
pendings_stay s n made a k d is = omega (arith, made a k d is)

pub tidy-Map : (s : PlainState) (a p page n : ℕ) (rights : Rights) → IsTidy s → CanHappen s (Map a p page n rights) → IsTidy (happened s (Map a p page n rights))
tidy-Map s a p page n rights h c =
    let S : PlainState = happened s (Map a p page n rights) in
    let room : page + n ≤ page_numbers = c.1 in
    let named_made : NamedMade S = λ q g r. grind (arith, nat_tests, h.named_made q g r) in
    let named_numbered : NamedNumbered S = λ q g r. grind (arith, nat_tests, h.named_numbered q g r) in
    let named_alone : NamedAlone S = λ q g u k r t. grind (arith, nat_tests, h.named_alone q g u k r t, h.named_made q g r, h.named_made u k t) in
    let handle_made : HandleMade S = handles_stay s n h.handle_made in
    let pending_made : PendingMade S = pendings_stay s n h.pending_made in
    let unmade_zero : UnmadeZero S = λ o w. grind (arith, nat_tests, h.unmade_zero o w) in
    assumption

pub tidy-Unmap : (s : PlainState) (a p page : ℕ) → IsTidy s → CanHappen s (Unmap a p page) → IsTidy (happened s (Unmap a p page))
tidy-Unmap s a p page h c =
    let S : PlainState = happened s (Unmap a p page) in
    let named_made : NamedMade S = λ q g r. grind (arith, nat_tests, h.named_made q g r) in
    let named_numbered : NamedNumbered S = λ q g r. grind (arith, nat_tests, h.named_numbered q g r) in
    let named_alone : NamedAlone S = λ q g u k r t. grind (arith, nat_tests, h.named_alone q g u k r t) in
    assumption

pub tidy-Discard : (s : PlainState) (a p page : ℕ) → IsTidy s → CanHappen s (Discard a p page) → IsTidy (happened s (Discard a p page))
tidy-Discard s a p page h c =
    let S : PlainState = happened s (Discard a p page) in
    let named_made : NamedMade S = λ q g r. grind (arith, nat_tests, h.named_made q g r) in
    let named_alone : NamedAlone S = λ q g u k r t. grind (arith, nat_tests, h.named_alone q g u k r t, h.named_made q g r, h.named_made u k t) in
    let handle_made : HandleMade S = handles_stay s 1 h.handle_made in
    let pending_made : PendingMade S = pendings_stay s 1 h.pending_made in
    let unmade_zero : UnmadeZero S = λ o w. grind (arith, nat_tests, h.unmade_zero o w) in
    assumption

pub tidy-Protect : (s : PlainState) (a p page n : ℕ) (rights : Rights) → IsTidy s → CanHappen s (Protect a p page n rights) → IsTidy (happened s (Protect a p page n rights))
tidy-Protect s a p page n rights h c =
    let S : PlainState = happened s (Protect a p page n rights) in
    let inside : (g : ℕ) → within page n g ≡ true → IsSome (s.right p g) = within_has (s.right p) page n c.1 in
    let named : (q g : ℕ) (r : Rights) → S.right q g ≡ Some r → IsSome (s.right q g) = λ q g r. grind (arith, nat_tests, inside g) in
    let had : (q g : ℕ) (r : Rights) → S.right q g ≡ Some r → (t : Rights) × (s.right q g ≡ Some t) = λ q g r is. some_value (s.right q g) (named q g r is) in
    let named_made : NamedMade S = λ q g r is. let old = had q g r is in h.named_made q g old.0 old.1 in
    let named_numbered : NamedNumbered S = λ q g r is. let old = had q g r is in h.named_numbered q g old.0 old.1 in
    let named_alone : NamedAlone S = λ q g u k r t is that. let one = had q g r is in let other = had u k t that in h.named_alone q g u k one.0 other.0 one.1 other.1 in
    assumption
