-- What each event keeps: what is named is made, and what isn't made has zeros.
use Rattle.std.proofs.Common.{◌≡◌, ℕ, ◌+◌, ◌-◌, ◌*◌, ◌/◌, ◌%◌, ◌<◌, ◌≤◌, ◌==◌, not, Bool, true, false, if◌then◌else◌, List, [], ◌∷◌, ◌++◌, filter, All, Option, Some, None, IsSome, length, get_or, Result, Ok, Err, OnOk, refl, sym, ◌∙◌, subst, arith}
use Rattle.std.proofs.Math.Nat.{div-lt_iff_lt-mul}
use Rattle.std.proofs.lemmas.Bool.Decides.{nat_tests}
use Rattle.std.proofs.lemmas.List.Elements.{All-append, All-filter, All-map, All-cons, All-weaker, All-get_or}
use Rattle.gup_base.specs.declared.entry.Rights.{Rights}
use Rattle.gup_plain.specs.Event.{CanHappen, happened, page_numbers, words, object_at, pending_objects, write_flag, MayPin, given_to, held_by}
use Rattle.gup_plain.specs.Put.{put, put2, within, spread}
use Rattle.gup_plain.specs.State.{PlainState, Birth, plain_start, objects_of, Handle, held, gone, Pending, named_or_zero}
use Rattle.gup_plain.specs.declared.event.PlainEvent.{PlainEvent}
use Rattle.gup_plain.specs.declared.event.PlainEvent.TheVariants as events
use Rattle.gup_exec_plain.specs.Parts.{IsMade, Applies, HasAll, IsAsMany}
use Rattle.gup_exec_plain.specs.declared.parts.Parts.{Parts}
use Rattle.gup_exec_plain.specs.declared.refusal.PlainRefusal.{PlainRefusal}

abbrev AreBelow : ℕ → List ℕ → Type 0
AreBelow made objects = All (λ o. o < made) objects

abbrev AreTakenBelow : ℕ → List Pending → Type 0
AreTakenBelow made taken = All (λ (t : Pending). t.object < made) taken

-- ---- the four clauses, as functions of fields

abbrev PagesAre : (right : ℕ → ℕ → Option Rights) (object : ℕ → ℕ → ℕ) (made : ℕ) → Type 0
PagesAre right object made = (p page : ℕ) → IsSome (right p page) → object p page < made

abbrev NumbersAre : (right : ℕ → ℕ → Option Rights) → Type 0
NumbersAre right = (p page : ℕ) → IsSome (right p page) → page < page_numbers

abbrev HandlesAre : (handle : ℕ → Handle) (made : ℕ) → Type 0
HandlesAre handle made = (h : ℕ) → AreBelow made (objects_of (handle h))

abbrev PendingIs : (pending : ℕ → List Pending) (made : ℕ) → Type 0
PendingIs pending made = (a : ℕ) → AreTakenBelow made (pending a)

abbrev ContentIs : (content : ℕ → ℕ → ℕ) (made : ℕ) → Type 0
ContentIs content made = (o w : ℕ) → made ≤ o → content o w ≡ 0

-- ---- more objects are made

handles-more : (handle : ℕ → Handle) (made more : ℕ) → made ≤ more → HandlesAre handle made → HandlesAre handle more
handles-more handle made more le h k = All-weaker (λ o. o < made) (λ o. o < more) (λ o small. omega arith) (objects_of (handle k)) (h k)

pending-more : (pending : ℕ → List Pending) (made more : ℕ) → made ≤ more → PendingIs pending made → PendingIs pending more
pending-more pending made more le h a = All-weaker (λ (t : Pending). t.object < made) (λ (t : Pending). t.object < more) (λ t small. omega arith) (pending a) (h a)

-- ---- one place of a function is changed

one-place : {X : Type 0} (P : X → Type 0) (k q : ℕ) (x : X) (f : ℕ → X) → P x → P (f q) → P (put k x f q)
one-place P k q x f here there = chosen P (q == k) x (f q) here there
  where
    chosen : {X : Type 0} (P : X → Type 0) (b : Bool) (x y : X) → P x → P y → P (if b then x else y)
    chosen P true x y here there = here
    chosen P false x y here there = there

handle-put : (handle : ℕ → Handle) (made h : ℕ) (x : Handle) → AreBelow made (objects_of x) → HandlesAre handle made → HandlesAre (put h x handle) made
handle-put handle made h x new old k = one-place (λ (y : Handle). AreBelow made (objects_of y)) h k x handle new (old k)

pending-put : (pending : ℕ → List Pending) (made a : ℕ) (x : List Pending) → AreTakenBelow made x → PendingIs pending made → PendingIs (put a x pending) made
pending-put pending made a x new old k = one-place (λ (y : List Pending). AreTakenBelow made y) a k x pending new (old k)

content-put2 : (content : ℕ → ℕ → ℕ) (made k l x : ℕ) → k < made → ContentIs content made → ContentIs (put2 k l x content) made
content-put2 content made k l x small old o w past = let there = old o w past in grind (arith, nat_tests)

content-put : (content : ℕ → ℕ → ℕ) (made k : ℕ) (x : ℕ → ℕ) → k < made → ContentIs content made → ContentIs (put k x content) made
content-put content made k x small old o w past = let there = old o w past in grind (arith, nat_tests)

content-spread : (content : ℕ → ℕ → ℕ) (made n : ℕ) → ContentIs content made → ContentIs (spread made n (λ _ _. 0) content) (made + n)
content-spread content made n old o w past = let there = old o w (omega arith) in grind (arith, nat_tests)

content-fresh : (content : ℕ → ℕ → ℕ) (made : ℕ) → ContentIs content made → ContentIs (put made (λ _. 0) content) (made + 1)
content-fresh content made old o w past = let there = old o w (omega arith) in grind (arith, nat_tests)

-- ---- pages

-- ---- pages: what is there after a change, pointwise

pages-unmap : (right : ℕ → ℕ → Option Rights) (object : ℕ → ℕ → ℕ) (made p page : ℕ) → PagesAre right object made → PagesAre (put2 p page None right) (put2 p page 0 object) made
pages-unmap right object made p page old q g there = let before = old q g in grind (arith, nat_tests)

numbers-unmap : (right : ℕ → ℕ → Option Rights) (p page : ℕ) → NumbersAre right → NumbersAre (put2 p page None right)
numbers-unmap right p page old q g there = let before = old q g in grind (arith, nat_tests)

pages-discard : (right : ℕ → ℕ → Option Rights) (object : ℕ → ℕ → ℕ) (made p page : ℕ) → PagesAre right object made → PagesAre right (put2 p page made object) (made + 1)
pages-discard right object made p page old q g there = let before = old q g there in grind (arith, nat_tests)

pages-map : (right : ℕ → ℕ → Option Rights) (object : ℕ → ℕ → ℕ) (made p page n : ℕ) (r : Rights) → PagesAre right object made
    → PagesAre (put p (spread page n (λ _. Some r) (right p)) right) (put p (spread page n (λ g. made + (g - page)) (object p)) object) (made + n)
pages-map right object made p page n r old q g there = let here = old p g in let before = old q g in grind (arith, nat_tests)

numbers-map : (right : ℕ → ℕ → Option Rights) (p page n : ℕ) (r : Rights) → page + n ≤ page_numbers → NumbersAre right → NumbersAre (put p (spread page n (λ _. Some r) (right p)) right)
numbers-map right p page n r fits old q g there = let here = old p g in let before = old q g in grind (arith, nat_tests)

in-range : (first n q : ℕ) → within first n q ≡ true → (q - first < n) × (first + (q - first) ≡ q)
in-range first n q h = grind (arith, nat_tests)

same-number : (q p : ℕ) → (q == p) ≡ true → q ≡ p
same-number q p h = grind (arith, nat_tests)

protected-within : (right : ℕ → Option Rights) (page n g : ℕ) (r : Rights) → ((k : ℕ) → k < n → IsSome (right (page + k)))
    → (b : Bool) → within page n g ≡ b → IsSome (if b then Some r else right g) → IsSome (right g)
protected-within right page n g r had true inside there =
    let at = in-range page n g inside in
    let P : ℕ → Type 0 = λ k. IsSome (right k) in
    subst P at.1 (had (g - page) at.0)
protected-within right page n g r had false outside there = there

protected-at : (right : ℕ → ℕ → Option Rights) (p page n q g : ℕ) (r : Rights) → ((k : ℕ) → k < n → IsSome (right p (page + k)))
    → (b : Bool) → (q == p) ≡ b → IsSome ((if b then spread page n (λ _. Some r) (right p) else right q) g) → IsSome (right q g)
protected-at right p page n q g r had true here there =
    let P : ℕ → Type 0 = λ k. IsSome (right k g) in
    subst P (sym (same-number q p here)) (protected-within (right p) page n g r had (within page n g) refl there)
protected-at right p page n q g r had false other there = there

-- what has rights after a protect had some before
protected-before : (right : ℕ → ℕ → Option Rights) (p page n q g : ℕ) (r : Rights) → ((k : ℕ) → k < n → IsSome (right p (page + k)))
    → IsSome (put p (spread page n (λ _. Some r) (right p)) right q g) → IsSome (right q g)
protected-before right p page n q g r had there = protected-at right p page n q g r had (q == p) refl there

named-below : (o : Option Rights) (object most : ℕ) → IsSome o → (IsSome o → object < most) → named_or_zero o object < most
named-below None object most there fits = absurd (cc)
named-below (Some r) object most there fits = fits there

grow-at : (b : Bool) (right right' : ℕ → Option Rights) (object : ℕ → ℕ) (made more g : ℕ) → made ≤ more → (IsSome (right g) → made + g < more) → (IsSome (right' g) → object g < made)
    → IsSome ((if b then right else right') g) → (if b then (λ page. named_or_zero (right page) (made + page)) else object) g < more
grow-at true right right' object made more g le fits before there = named-below (right g) (made + g) more there fits
grow-at false right right' object made more g le fits before there = let small = before there in omega arith

pages-grow : (right : ℕ → ℕ → Option Rights) (object : ℕ → ℕ → ℕ) (made more parent child : ℕ) → made ≤ more → ((page : ℕ) → IsSome (right parent page) → made + page < more) → PagesAre right object made
    → PagesAre (put child (right parent) right) (put child (λ page. named_or_zero (right parent page) (made + page)) object) more
pages-grow right object made more parent child le fits old q g there = grow-at (q == child) (right parent) (right q) (object q) made more g le (fits g) (old q g) there

numbers-grow : (right : ℕ → ℕ → Option Rights) (parent child : ℕ) → NumbersAre right → NumbersAre (put child (right parent) right)
numbers-grow right parent child old q g there = one-place (λ (r : ℕ → Option Rights). IsSome (r g) → g < page_numbers) child q (right parent) right (old parent g) (old q g) there

pages-fail : (right : ℕ → ℕ → Option Rights) (object : ℕ → ℕ → ℕ) (made child : ℕ) → PagesAre right object made → PagesAre (put child (λ _. None) right) (put child (λ _. 0) object) made
pages-fail right object made child old q g there = let before = old q g in grind (arith, nat_tests)

numbers-fail : (right : ℕ → ℕ → Option Rights) (child : ℕ) → NumbersAre right → NumbersAre (put child (λ _. None) right)
numbers-fail right child old q g there = let before = old q g in grind (arith, nat_tests)

-- ---- handles

object-below : (objects : List ℕ) (made index : ℕ) → index < 512 * length objects → AreBelow made objects → get_or objects (index / 512) 0 < made
object-below objects made index small h =
    let place : index / 512 < length objects = (div-lt_iff_lt-mul {k = 512} {x = index} {y = length objects} (omega arith)).1 (omega arith) in
    All-get_or (λ o. o < made) objects (index / 512) 0 place h

nothing-below : (made : ℕ) → AreBelow made []
nothing-below made = λ i d small. absurd (omega arith)

one-taken : (made : ℕ) (t : Pending) → t.object < made → AreTakenBelow made (t ∷ [])
one-taken made t small = All-cons (λ (u : Pending). u.object < made) t [] small (λ i d none. absurd (omega arith))

allowed : (s : PlainState) (p page : ℕ) (write : Bool) → MayPin s p page write → IsSome (s.right p page)
allowed s p page true is = rw is refl
allowed s p page false is = is

-- ---- the events

pub made_stays : (s : PlainState) (e : PlainEvent) → IsMade s → CanHappen s e → IsMade (happened s e)
made_stays s (events.Map actor p page n r) h can =
    record {
      pages = pages-map s.right s.object s.made p page n r h.pages;
      numbers = numbers-map s.right p page n r can.1 h.numbers;
      handles = handles-more s.handle s.made (s.made + n) (omega arith) h.handles;
      pending = pending-more s.pending s.made (s.made + n) (omega arith) h.pending;
      content = content-spread s.content s.made n h.content;
    }
made_stays s (events.Unmap actor p page) h can =
    record { pages = pages-unmap s.right s.object s.made p page h.pages; numbers = numbers-unmap s.right p page h.numbers; handles = h.handles; pending = h.pending; content = h.content }
made_stays s (events.Discard actor p page) h can =
    record {
      pages = pages-discard s.right s.object s.made p page h.pages;
      numbers = h.numbers;
      handles = handles-more s.handle s.made (s.made + 1) (omega arith) h.handles;
      pending = pending-more s.pending s.made (s.made + 1) (omega arith) h.pending;
      content = content-fresh s.content s.made h.content;
    }
made_stays s (events.Protect actor p page n r) h can =
    record {
      pages = λ q g there. h.pages q g (protected-before s.right p page n q g r can.1 there);
      numbers = λ q g there. h.numbers q g (protected-before s.right p page n q g r can.1 there);
      handles = h.handles;
      pending = h.pending;
      content = h.content;
    }
made_stays s (events.Load actor p page word value) h can = h
made_stays s (events.Store actor p page word value) h can =
    let there : IsSome (s.right p page) = rw can.1 refl in
    record { pages = h.pages; numbers = h.numbers; handles = h.handles; pending = h.pending; content = content-put2 s.content s.made (s.object p page) word value (h.pages p page there) h.content }
made_stays s (events.PinTry actor p page write) h can =
    let t : Pending = record { page = page; object = s.object p page; write = write } in
    let more = All-append (λ (u : Pending). u.object < s.made) (s.pending actor) (t ∷ []) (h.pending actor) (one-taken s.made t (h.pages p page (allowed s p page write can.1))) in
    record { pages = h.pages; numbers = h.numbers; handles = h.handles; pending = pending-put s.pending s.made actor (s.pending actor ++ t ∷ []) more h.pending; content = h.content }
made_stays s (events.PinDrop actor page) h can =
    let kept = All-filter (λ (t : Pending). not (t.page == page)) (λ (t : Pending). t.object < s.made) (s.pending actor) (h.pending actor) in
    record { pages = h.pages; numbers = h.numbers; handles = h.handles; pending = pending-put s.pending s.made actor (filter (λ (t : Pending). not (t.page == page)) (s.pending actor)) kept h.pending; content = h.content }
made_stays s (events.PinOk actor k) h can =
    let objects : List ℕ = pending_objects (s.pending actor) in
    let below : AreBelow s.made objects = All-map (λ o. o < s.made) (λ (t : Pending). t.object) (s.pending actor) (h.pending actor) in
    record {
      pages = h.pages;
      numbers = h.numbers;
      handles = handle-put s.handle s.made k (held actor objects (write_flag (s.pending actor))) below h.handles;
      pending = pending-put s.pending s.made actor [] (λ i d none. absurd (omega arith)) h.pending;
      content = h.content;
    }
made_stays s (events.Unpin actor k) h can =
    record { pages = h.pages; numbers = h.numbers; handles = handle-put s.handle s.made k gone (nothing-below s.made) h.handles; pending = h.pending; content = h.content }
made_stays s (events.Give actor k to) h can =
    record { pages = h.pages; numbers = h.numbers; handles = handle-put s.handle s.made k (given_to (s.handle k) to) (h.handles k) h.handles; pending = h.pending; content = h.content }
made_stays s (events.Take actor k) h can =
    record { pages = h.pages; numbers = h.numbers; handles = handle-put s.handle s.made k (held_by (s.handle k) actor) (h.handles k) h.handles; pending = h.pending; content = h.content }
made_stays s (events.MoveOut actor k index slot value) h can =
    record { pages = h.pages; numbers = h.numbers; handles = h.handles; pending = h.pending; content = h.content }
made_stays s (events.MoveIn actor k index slot value) h can =
    let below = object-below (objects_of (s.handle k)) s.made index can.0.1 (h.handles k) in
    record { pages = h.pages; numbers = h.numbers; handles = h.handles; pending = h.pending; content = content-put2 s.content s.made (object_at (s.handle k) index) (index % words) value below h.content }
made_stays s (events.MirrorFill actor m p page) h can =
    record { pages = h.pages; numbers = h.numbers; handles = h.handles; pending = h.pending; content = h.content }
made_stays s (events.Look actor m word value) h can = h
made_stays s (events.ForkBegin parent child) h can =
    record {
      pages = pages-grow s.right s.object s.made (s.made + page_numbers) parent child (omega arith) (λ page there. let small = h.numbers parent page there in omega arith) h.pages;
      numbers = numbers-grow s.right parent child h.numbers;
      handles = handles-more s.handle s.made (s.made + page_numbers) (omega arith) h.handles;
      pending = pending-more s.pending s.made (s.made + page_numbers) (omega arith) h.pending;
      content = content-spread s.content s.made page_numbers h.content;
    }
made_stays s (events.ForkPage parent child page) h can =
    let small = h.pages child page can.0.2 in
    record { pages = h.pages; numbers = h.numbers; handles = h.handles; pending = h.pending; content = content-put s.content s.made (s.object child page) (spread 0 words (s.content (s.object parent page)) (s.content (s.object child page))) small h.content }
made_stays s (events.ForkWord parent child page word) h can =
    let small = h.pages child page can.0.2 in
    record { pages = h.pages; numbers = h.numbers; handles = h.handles; pending = h.pending; content = content-put2 s.content s.made (s.object child page) word (s.content (s.object parent page) word) small h.content }
made_stays s (events.ForkEnd parent child) h can =
    record { pages = h.pages; numbers = h.numbers; handles = h.handles; pending = h.pending; content = h.content }
made_stays s (events.ForkFail child) h can =
    record { pages = pages-fail s.right s.object s.made child h.pages; numbers = numbers-fail s.right child h.numbers; handles = h.handles; pending = h.pending; content = h.content }

-- the same, whatever the event's answer is
pub applied_stays : (old new : PlainState) (e : PlainEvent) (r : Result (Unit {0}) PlainRefusal) → IsMade old → Applies old new e r → IsMade new
applied_stays old new e (Ok x) h done = let P : PlainState → Type 0 = λ s. IsMade s in subst P (sym done.1) (made_stays old e h done.0)
applied_stays old new e (Err x) h done = let P : PlainState → Type 0 = λ s. IsMade s in subst P (sym done.1) h

pub applied_can : (old new : PlainState) (e : PlainEvent) (r : Result (Unit {0}) PlainRefusal) → Applies old new e r → OnOk r (CanHappen old e)
applied_can old new e (Ok x) done = done.0
applied_can old new e (Err x) done = tt

pub born_stays : (s : PlainState) (birth : ℕ → Birth) → IsMade s → IsMade (record s { birth = birth })
born_stays s birth h = record { pages = h.pages; numbers = h.numbers; handles = h.handles; pending = h.pending; content = h.content }

pub start_is_made : (is_born : ℕ → Bool) → IsMade (plain_start is_born)
start_is_made is_born =
    record {
      pages = λ p page there. absurd (cc);
      numbers = λ p page there. absurd (cc);
      handles = λ h i d small. absurd (omega arith);
      pending = λ a i d small. absurd (omega arith);
      content = λ o w past. refl;
    }

pub as_many : (old new : Parts) → HasAll old → IsAsMany old new → HasAll new
as_many old new h many = record { spaces = many.spaces ∙ h.spaces; pins = many.pins ∙ h.pins; mirrors = many.mirrors ∙ h.mirrors }
