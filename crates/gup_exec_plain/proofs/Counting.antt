-- The number of a process's pages is kept by every event: that of its named pages.
use Rattle.std.proofs.Common.{◌≡◌, ℕ, Bool, is_some, zero, suc, ◌+◌, ◌-◌, ◌<◌, ◌==◌, true, false, List, [], ◌∷◌, length, sym, refl, subst, arith}
use Rattle.std.specs.Prelude.{Option, Some, None, IsSome, Contains, if◌then◌else◌}
use Rattle.std.proofs.lemmas.Bool.Decides.{nat_tests}
use Rattle.std.proofs.lemmas.Map.Made.{Contains-tail}
use Rattle.gup_base.specs.declared.entry.Rights.{Rights}
use Rattle.gup_plain.specs.Put.{put, put2, within, spread}
use Rattle.gup_plain.specs.declared.event.PlainEvent.{PlainEvent}
use Rattle.gup_plain.specs.declared.event.PlainEvent.TheVariants.{Map, Unmap, Discard, Protect, Load, Store, PinTry, PinDrop, PinOk, Unpin, Give, Take, MoveOut, MoveIn, MirrorFill, Look, ForkBegin, ForkPage, ForkWord, ForkEnd, ForkFail}
use Rattle.gup_plain.specs.State.{PlainState}
use Rattle.gup_plain.specs.Event.{CanHappen, happened}
use Rattle.gup_plain.specs.Pages.{page_numbers, mapped_pages}
use Rattle.gup_plain.proofs.Sums.{passing, none_passing, one_more_passing}
use Rattle.gup_exec_plain.specs.LastWrite.{ArePossible, after, HasNoRepetition, Lists, CountsPages}
use Rattle.gup_exec_plain.proofs.Puts.{within_has}
use Rattle.gup_exec_plain.proofs.Tidy.{IsTidy}
use Rattle.gup_exec_plain.proofs.TidyEvents.{tidy_after_event}
use Rattle.gup_exec_plain.proofs.Lists.{no_element, first_element, later_element, by_test, IsWithout, taken_out}

-- so many pages have rights
abbrev Counted : (ℕ → Option Rights) → ℕ → Type 0
Counted right n = (pages : List ℕ) × HasNoRepetition pages × Lists pages right × (length pages ≡ n)

pub none_counted : Counted (λ _. None) 0
none_counted = ([], tt, λ k. (λ has. absurd (no_element k has), λ is. absurd (cc)), refl)

-- the same pages are named
counted_same : (f g : ℕ → Option Rights) (n : ℕ) → ((k : ℕ) → IsSome (f k) → IsSome (g k)) → ((k : ℕ) → IsSome (g k) → IsSome (f k)) → Counted f n → Counted g n
counted_same f g n to from c = (c.0, c.1, λ k. (λ has. to k ((c.2 k).0 has), λ is. (c.2 k).1 (from k is)), c.3)

-- one page more
counted_more : (f : ℕ → Option Rights) (n page : ℕ) (rights : Rights) → f page ≡ None → Counted f n → Counted (put page (Some rights) f) (n + 1)
counted_more f n page rights none c =
    let pages : List ℕ = c.0 in
    let fresh : Contains pages page → ⊥ = λ has. let named : IsSome (f page) = (c.2 page).0 has in grind arith in
    let g : ℕ → Option Rights = put page (Some rights) f in
    let here : IsSome (g page) = grind (arith, nat_tests) in
    let kept : (k : ℕ) → (page ≡ k → ⊥) → IsSome (f k) → IsSome (g k) = λ k apart is. grind (arith, nat_tests) in
    let was : (k : ℕ) → (page ≡ k → ⊥) → IsSome (g k) → IsSome (f k) = λ k apart is. grind (arith, nat_tests) in
    let other = λ (k : ℕ) (apart : page ≡ k → ⊥) (has : Contains (page ∷ pages) k). kept k apart ((c.2 k).0 (Contains-tail page pages k apart has)) in
    let later = λ (k : ℕ) (apart : page ≡ k → ⊥) (is : IsSome (g k)). later_element page pages k ((c.2 k).1 (was k apart is)) in
    let named : (k : ℕ) → Contains (page ∷ pages) k → IsSome (g k) = λ k has. by_test page k (λ same. subst (λ x. IsSome (g x)) same here) (λ apart. other k apart has) in
    let listed : (k : ℕ) → IsSome (g k) → Contains (page ∷ pages) k = λ k is. by_test page k (λ same. subst (Contains (page ∷ pages)) same (first_element page pages)) (λ apart. later k apart is) in
    (page ∷ pages, (fresh, c.1), λ k. (named k, listed k), omega (arith, c.3))

-- one page less
counted_less : (f : ℕ → Option Rights) (n page : ℕ) → IsSome (f page) → Counted f n → Counted (put page None f) (n - 1)
counted_less f n page is c =
    let pages : List ℕ = c.0 in
    let out = taken_out page pages c.1 ((c.2 page).1 is) in
    let rest : List ℕ = out.0 in
    let without : IsWithout page pages rest = out.1 in
    let g : ℕ → Option Rights = put page None f in
    let apart : (k : ℕ) → Contains rest k → page ≡ k → ⊥ = λ k has same. without.gone (subst (Contains rest) (sym same) has) in
    let kept : (k : ℕ) → (page ≡ k → ⊥) → IsSome (f k) → IsSome (g k) = λ k apart is. grind (arith, nat_tests) in
    let was : (k : ℕ) → IsSome (g k) → IsSome (f k) = λ k is. grind (arith, nat_tests) in
    let differs : (k : ℕ) → IsSome (g k) → page ≡ k → ⊥ = λ k is same. grind (arith, nat_tests) in
    let named : (k : ℕ) → Contains rest k → IsSome (g k) = λ k has. kept k (apart k has) ((c.2 k).0 (without.less k has)) in
    let listed : (k : ℕ) → IsSome (g k) → Contains rest k = λ k is. without.rest k (differs k is) ((c.2 k).1 (was k is)) in
    (rest, without.alone, λ k. (named k, listed k), omega (arith, c.3, without.shorter))

-- so many pages more, from the first on
counted_range : (f : ℕ → Option Rights) (m first n : ℕ) (rights : Rights) → ((k : ℕ) → k < n → f (first + k) ≡ None) → Counted f m → Counted (spread first n (λ _. Some rights) f) (m + n)
counted_range f m first zero rights none c =
    let none_more : ℕ → Option Rights = spread first 0 (λ _. Some rights) f in
    let count : m ≡ m + 0 = omega arith in
    subst (Counted none_more) count (counted_same f none_more m (λ k is. grind (arith, nat_tests)) (λ k is. grind (arith, nat_tests)) c)
counted_range f m first (suc n) rights none c =
    let g : ℕ → Option Rights = spread first n (λ _. Some rights) f in
    let before : Counted g (m + n) = counted_range f m first n rights (λ k is. none k (omega arith)) c in
    let new : g (first + n) ≡ None = grind (arith, nat_tests, none n) in
    let more : Counted (put (first + n) (Some rights) g) (m + n + 1) = counted_more g (m + n) (first + n) rights new before in
    let count : m + n + 1 ≡ m + suc n = omega arith in
    let one_more : ℕ → Option Rights = spread first (suc n) (λ _. Some rights) f in
    subst (Counted one_more) count (counted_same (put (first + n) (Some rights) g) one_more (m + n + 1) (λ k is. grind (arith, nat_tests)) (λ k is. grind (arith, nat_tests)) more)

-- a listed page aside, the others are listed
others_listed : (page : ℕ) (pages : List ℕ) (f : ℕ → Bool) → (Contains pages page → ⊥) → ((k : ℕ) → (Contains (page ∷ pages) k → f k ≡ true) × (f k ≡ true → Contains (page ∷ pages) k)) → (k : ℕ) → (Contains pages k → put page false f k ≡ true) × (put page false f k ≡ true → Contains pages k)
others_listed page pages f fresh listed k =
    let kept : (page ≡ k → ⊥) → f k ≡ true → put page false f k ≡ true = λ apart is. grind (arith, nat_tests) in
    let was : put page false f k ≡ true → f k ≡ true = λ is. grind (arith, nat_tests) in
    let differs : put page false f k ≡ true → page ≡ k → ⊥ = λ is same. grind (arith, nat_tests) in (
      λ has. kept (λ same. fresh (subst (Contains pages) (sym same) has)) ((listed k).0 (later_element page pages k has)),
      λ is. Contains-tail page pages k (differs is) ((listed k).1 (was is)),
    )

-- as many numbers pass a test as a list of them without repetition has
listed_passing : (n : ℕ) (pages : List ℕ) (f : ℕ → Bool) → HasNoRepetition pages → ((k : ℕ) → (Contains pages k → f k ≡ true) × (f k ≡ true → Contains pages k)) → ((k : ℕ) → f k ≡ true → k < n) → passing n f ≡ length pages
listed_passing n [] f alone listed below = none_passing n f (λ k. none (f k) (λ is. no_element k ((listed k).1 is)))
  where
    none : (b : Bool) → (b ≡ true → ⊥) → b ≡ false
    none true not = absurd (not refl)
    none false not = refl
listed_passing n (page ∷ pages) f alone listed below =
    let before : ℕ → Bool = put page false f in
    let here : f page ≡ true = (listed page).0 (first_element page pages) in
    let gone : before page ≡ false = grind (arith, nat_tests) in
    let same : (k : ℕ) → (k == page) ≡ false → f k ≡ before k = λ k other. grind (arith, nat_tests) in
    let was : (k : ℕ) → before k ≡ true → f k ≡ true = λ k is. grind (arith, nat_tests) in
    let more = one_more_passing n before f page (below page here) gone here same in
    let rest = listed_passing n pages before alone.1 (others_listed page pages f alone.0 listed) (λ k is. below k (was k is)) in
    omega (arith, more, rest)

-- a process has as many pages as there are numbers of mapped ones
counted_mapped : (right : ℕ → Option Rights) (n : ℕ) → ((page : ℕ) → IsSome (right page) → page < page_numbers) → Counted right n → Counted right (mapped_pages right)
counted_mapped right n numbered c =
    let count : length c.0 ≡ mapped_pages right = sym (listed_passing page_numbers c.0 (λ page. is_some (right page)) c.1 c.2 numbered) in
    (c.0, c.1, c.2, count)

-- the pages of tidy states have numbers that pages may have
tidy_numbered : (s : PlainState) (p : ℕ) → IsTidy s → (page : ℕ) → IsSome (s.right p page) → page < page_numbers
tidy_numbered s p tidy page is = go (s.right p page) refl is
  where
    go : (o : Option Rights) → s.right p page ≡ o → IsSome o → page < page_numbers
    go None found some = absurd (cc)
    go (Some rights) found some = tidy.named_numbered p page rights found

-- a process's pages are those of this function, and the other processes' stay
counts_put : (s : PlainState) (p : ℕ) (f : ℕ → Option Rights) (n : ℕ) → Counted f n → CountsPages s → (q : ℕ) → Counted (put p f s.right q) (put p n s.pages q)
counts_put s p f n here there q =
    elim (q == p) as (λ b. Counted (if b then f else s.right q) (if b then n else s.pages q)) [ true ↦ here | false ↦ there q ]

counts_after_event : (s : PlainState) (e : PlainEvent) → IsTidy s → CanHappen s e → CountsPages s → CountsPages (happened s e)
counts_after_event s (Map a p page n rights) tidy c counts =
    counts_put s p (spread page n (λ _. Some rights) (s.right p)) (s.pages p + n) (counted_range (s.right p) (s.pages p) page n rights c.2 (counts p)) counts
counts_after_event s (Unmap a p page) tidy c counts =
    let less : Counted (put page None (s.right p)) (s.pages p - 1) = counted_less (s.right p) (s.pages p) page c.1 (counts p) in
    λ q. counted_same (put p (put page None (s.right p)) s.right q) (put2 p page None s.right q) (put p (s.pages p - 1) s.pages q) (λ k is. grind (arith, nat_tests)) (λ k is. grind (arith, nat_tests)) (counts_put s p (put page None (s.right p)) (s.pages p - 1) less counts q)
counts_after_event s (Protect a p page n rights) tidy c counts = λ q.
    let inside : (g : ℕ) → within page n g ≡ true → IsSome (s.right p g) = within_has (s.right p) page n c.1 in
    let after_it : ℕ → Option Rights = put p (spread page n (λ _. Some rights) (s.right p)) s.right q in
    counted_same (s.right q) after_it (s.pages q) (λ k is. grind (arith, nat_tests)) (λ k is. grind (arith, nat_tests, inside k)) (counts q)
counts_after_event s (ForkBegin parent child) tidy c counts =
    counts_put s child (s.right parent) (mapped_pages (s.right parent)) (counted_mapped (s.right parent) (s.pages parent) (tidy_numbered s parent tidy) (counts parent)) counts
counts_after_event s (ForkFail child) tidy c counts =
    counts_put s child (λ _. None) 0 none_counted counts
counts_after_event s (Discard a p page) tidy c counts = counts
counts_after_event s (Load a p page word value) tidy c counts = counts
counts_after_event s (Store a p page word value) tidy c counts = counts
counts_after_event s (PinTry a p page write) tidy c counts = counts
counts_after_event s (PinDrop a page) tidy c counts = counts
counts_after_event s (PinOk a handle) tidy c counts = counts
counts_after_event s (Unpin a handle) tidy c counts = counts
counts_after_event s (Give a handle to) tidy c counts = counts
counts_after_event s (Take a handle) tidy c counts = counts
counts_after_event s (MoveOut a handle index slot value) tidy c counts = counts
counts_after_event s (MoveIn a handle index slot value) tidy c counts = counts
counts_after_event s (MirrorFill a m p page) tidy c counts = counts
counts_after_event s (Look a m word value) tidy c counts = counts
counts_after_event s (ForkPage parent child page) tidy c counts = counts
counts_after_event s (ForkWord parent child page word) tidy c counts = counts
counts_after_event s (ForkEnd parent child) tidy c counts = counts

pub counts_after : (s : PlainState) (es : List PlainEvent) → IsTidy s → ArePossible s es → CountsPages s → CountsPages (after s es)
counts_after s [] tidy possible counts = counts
counts_after s (e ∷ es) tidy possible counts =
    counts_after (happened s e) es (tidy_after_event s e tidy possible.0) possible.1 (counts_after_event s e tidy possible.0 counts)
