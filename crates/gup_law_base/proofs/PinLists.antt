-- What the events of pins do to lists: the pages that a pin has taken, those of a handle, and what the plain state
-- says of both.
use Rattle.std.proofs.Common.{◌≡◌, ℕ, ◌+◌, ◌≤◌, ◌==◌, Bool, true, false, List, [], ◌∷◌, ◌++◌, map, length, refl, ap, sym, ◌∙◌, arith}
use Rattle.std.specs.Prelude.{Option, Some, None, IsSome, slice_get, Contains, if◌then◌else◌}
use Rattle.std.proofs.lemmas.Bool.Decides.{nat_tests}
use Rattle.std.proofs.lemmas.List.{map-append}
use Rattle.gup_base.specs.declared.entry.Entry.{Entry}
use Rattle.gup_base.specs.declared.entry.Rights.{Rights}
use Rattle.gup_base.specs.declared.entry.Rights.TheVariants.{R, RW}
use Rattle.gup_plain.specs.Put.{put}
use Rattle.gup_plain.specs.State.{born, Pending, Handle, unmade, held, gone, objects_of, named_or_zero}
use Rattle.gup_plain.specs.Event.{MayPin, AreTaken, IsHeldBy, pending_pages, pending_objects, write_flag}
use Rattle.gup_spec_events.specs.State.{CoreState, Taken, plain_of, pending_of}
use Rattle.gup_spec_events.specs.Event.{happens, told, after_told, IsUntaken, AreAlike, taken_frames, objects_taken, writes_taken, long_taken, make_handle, unpin_page}
use Rattle.gup_spec_events.specs.Invariant.{CanTell}
use Rattle.gup_law_base.specs.Sound.{View, IsSoundBy}
use Rattle.gup_law_base.proofs.Rows.{all_at, all_from, contains_at, at_mapped, mapped_at}
use Rattle.gup_law_base.proofs.Lonely.{born_mapped}

-- 1. A page more

pub all_alike : (ts : List Taken) (k : ℕ) (t : Taken) (write long : Bool) → AreAlike ts write long → slice_get ts k ≡ Some t → (t.write ≡ write) × (t.long ≡ long)
all_alike ts k t write long alike is = all_at (λ (u : Taken). (u.write ≡ write) × (u.long ≡ long)) ts k t alike is

pub all_untaken : (ts : List Taken) (k : ℕ) (t : Taken) (page : ℕ) → IsUntaken ts page → slice_get ts k ≡ Some t → t.page ≡ page → ⊥
all_untaken ts k t page untaken is = all_at (λ (u : Taken). u.page ≡ page → ⊥) ts k t untaken is

pub write_more : (ts : List Taken) (t : Taken) (long : Bool) → AreAlike ts t.write long → writes_taken (ts ++ t ∷ []) ≡ t.write
write_more [] t long alike = refl
write_more (x ∷ ts) t long alike = (all_alike (x ∷ ts) 0 x t.write long alike refl).0

pub long_more : (ts : List Taken) (t : Taken) (write : Bool) → AreAlike ts write t.long → long_taken (ts ++ t ∷ []) ≡ t.long
long_more [] t write alike = refl
long_more (x ∷ ts) t write alike = (all_alike (x ∷ ts) 0 x write t.long alike refl).1

pub untold : (ts : List Taken) (page : ℕ) → IsUntaken ts page → Contains (pending_pages (map pending_of ts)) page → ⊥
untold ts page untaken has =
    let at = contains_at (pending_pages (map pending_of ts)) page has in
    let told = at_mapped (λ (u : Pending). u.page) (map pending_of ts) at.0 page at.1 in
    let from = at_mapped pending_of ts at.0 told.0 told.1 in
    all_untaken ts at.0 from.0 page untaken from.1 (ap (λ (u : Pending). u.page) from.2 ∙ told.2)

pub put_mapped : {X Y : Type 0} (f : X → Y) (a : ℕ) (x : X) (g : ℕ → X) (b : ℕ) → f (put a x g b) ≡ put a (f x) (λ c. f (g c)) b
put_mapped {X} {Y} f a x g b = go (b == a)
  where
    go : (c : Bool) → f (if c then x else g b) ≡ (if c then f x else f (g b))
    go true = refl
    go false = refl

named_is : (o : Option Rights) (object : ℕ) → IsSome o → named_or_zero o object ≡ object
named_is None object is = absurd (cc)
named_is (Some r) object is = refl

pub told_more : (s : CoreState) (a p page : ℕ) (t : Taken) → IsSome (s.right p page) → (λ b. map pending_of (put a (s.taken a ++ record t { proc = p; page = page; object = s.object p page } ∷ []) s.taken b)) ≡ put a (map pending_of (s.taken a) ++ record { page = page; object = named_or_zero (s.right p page) (s.object p page); write = t.write } ∷ []) (λ b. map pending_of (s.taken b))
told_more s a p page t mapped =
    let u : Taken = record t { proc = p; page = page; object = s.object p page } in
    let object : ℕ → Pending = λ o. record { page = page; object = o; write = t.write } in
    let more : map pending_of (s.taken a ++ u ∷ []) ≡ map pending_of (s.taken a) ++ object (s.object p page) ∷ [] = map-append pending_of (s.taken a) (u ∷ []) in
    let named : s.object p page ≡ named_or_zero (s.right p page) (s.object p page) = sym (named_is (s.right p page) (s.object p page) mapped) in
    let all : map pending_of (s.taken a ++ u ∷ []) ≡ map pending_of (s.taken a) ++ object (named_or_zero (s.right p page) (s.object p page)) ∷ [] = more ∙ ap (λ o. map pending_of (s.taken a) ++ object o ∷ []) named in
    let at = λ (b : ℕ). put_mapped (map pending_of) a (s.taken a ++ u ∷ []) s.taken b ∙ ap (λ (x : List Pending). put a x (λ c. map pending_of (s.taken c)) b) all in
    λ i b. at b i

module _ (v : View) (s : CoreState) (h : IsSoundBy v s) where
  -- an entry of a born process that is right for a pin
  pub allows : (p page : ℕ) (e : Entry) (write : Bool) → s.birth p ≡ born → v.whole p page ≡ Some e → (write ≡ true → e.writable ≡ true) → MayPin (plain_of s) p page write
  allows p page e false is there writable = born_mapped v s h p page e is there
  allows p page e true is there writable = go (s.right p page) refl
    where
      go : (o : Option Rights) → s.right p page ≡ o → o ≡ Some RW
      go None none = absurd (let some = born_mapped v s h p page e is there in cc)
      go (Some RW) some = refl
      go (Some R) some = absurd (h.entry_allowed p page e there (writable refl) some)

  pub no_pages : (k : ℕ) → s.handle k ≡ unmade → length (s.pinned k) ≤ 0
  no_pages k is = let all : length (objects_of (s.handle k)) ≡ 0 = ap (λ x. length (objects_of x)) is in omega (arith, all, h.handle_pages k)

-- 2. A handle

pub as_many : (ts : List Taken) → length (taken_frames ts) ≤ length (objects_taken ts)
as_many [] = omega arith
as_many (t ∷ ts) = omega (arith, as_many ts)

pub frame_at : (ts : List Taken) (k f : ℕ) → slice_get (taken_frames ts) k ≡ Some f → (t : Taken) × (slice_get ts k ≡ Some t) × (t.frame ≡ f) × (slice_get (objects_taken ts) k ≡ Some t.object)
frame_at ts k f is =
    let from = at_mapped (λ (t : Taken). t.frame) ts k f is in
    (from.0, from.1, from.2, mapped_at (λ (t : Taken). t.object) ts k from.0 from.1)

pub are_taken : (ts : List Taken) → (ts ≡ [] → ⊥) → ((k : ℕ) (t : Taken) → slice_get ts k ≡ Some t → t.write ≡ writes_taken ts) → AreTaken (map pending_of ts) (write_flag (map pending_of ts))
are_taken [] some alike = absurd (some refl)
are_taken (x ∷ ts) some alike =
    all_from (λ (u : Pending). u.write ≡ x.write) (map pending_of (x ∷ ts)) (λ k u is.
    let from = at_mapped pending_of (x ∷ ts) k u is in
    sym (ap (λ (y : Pending). y.write) from.2) ∙ alike k from.0 from.1)

objects_told : (ts : List Taken) → objects_taken ts ≡ pending_objects (map pending_of ts)
objects_told [] = refl
objects_told (t ∷ ts) = ap (λ os. t.object ∷ os) (objects_told ts)

write_told : (ts : List Taken) → writes_taken ts ≡ write_flag (map pending_of ts)
write_told [] = refl
write_told (t ∷ ts) = refl

pub told_handle : (s : CoreState) (a k : ℕ) → plain_of (happens s (make_handle a k)) ≡ after_told (plain_of s) (told (make_handle a k))
told_handle s a k =
    let handle = λ (i : ℕ). ap (λ (os : List ℕ). put k (held a os (writes_taken (s.taken a))) s.handle i) (objects_told (s.taken a)) ∙ ap (λ w. put k (held a (pending_objects (map pending_of (s.taken a))) w) s.handle i) (write_told (s.taken a)) in
    let handles : put k (held a (objects_taken (s.taken a)) (writes_taken (s.taken a))) s.handle ≡ put k (held a (pending_objects (map pending_of (s.taken a))) (write_flag (map pending_of (s.taken a)))) s.handle = λ i n. handle n i in
    let pending : (λ b. map pending_of (put a [] s.taken b)) ≡ put a [] (λ b. map pending_of (s.taken b)) = λ i b. put_mapped (map pending_of) a [] s.taken b i in
    λ i. record (plain_of s) { handle = handles i; pending = pending i }

-- 3. A page less

abbrev less : List ℕ → Handle → Handle
less left x = elim left [ [] ↦ gone | g ∷ gs ↦ x ]

pub left_pages : (left : List ℕ) (f : ℕ) (x : Handle) → length (left ++ f ∷ []) ≤ length (objects_of x) → length left ≤ length (objects_of (less left x))
left_pages [] f x fits = omega arith
left_pages (g ∷ gs) f x fits = let longer : length (gs ++ f ∷ []) ≡ length gs + 1 = one_longer gs f in omega (arith, fits, longer)
  where
    one_longer : (gs : List ℕ) (f : ℕ) → length (gs ++ f ∷ []) ≡ length gs + 1
    one_longer [] f = refl
    one_longer (g ∷ gs) f = omega (arith, one_longer gs f)

pub left_objects : (left : List ℕ) (k f : ℕ) (x : Handle) → slice_get left k ≡ Some f → less left x ≡ x
left_objects [] k f x is = absurd (cc)
left_objects (g ∷ gs) k f x is = refl

pub unpin_can : (s : CoreState) (a k f : ℕ) (left : List ℕ) → IsHeldBy (s.handle k) a → CanTell (plain_of s) (told (unpin_page a k f left))
unpin_can s a k f [] holds = holds
unpin_can s a k f (g ∷ gs) holds = tt

put_itself : {X : Type 0} (k : ℕ) (f : ℕ → X) (n : ℕ) → put k (f k) f n ≡ f n
put_itself k f n = grind (arith, nat_tests)

pub unpin_same : (s : CoreState) (a k f : ℕ) (left : List ℕ) → plain_of (happens s (unpin_page a k f left)) ≡ after_told (plain_of s) (told (unpin_page a k f left))
unpin_same s a k f [] = refl
unpin_same s a k f (g ∷ gs) = λ i. record (plain_of s) { handle = λ n. put_itself k s.handle n i }
