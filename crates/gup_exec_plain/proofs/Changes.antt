-- What a change of one process, and of the contents, is to the plain state.
use Rattle.std.proofs.Common.{◌≡◌, ℕ, ◌+◌, ◌-◌, ◌<◌, ◌≤◌, ◌==◌, Bool, true, false, if◌then◌else◌, Option, Some, None, IsSome, refl, sym, ◌∙◌, ap, arith}
use Rattle.std.proofs.Math.Path.{fun_ext}
use Rattle.std.proofs.lemmas.Bool.Decides.{nat_tests}
use Rattle.gup_base.specs.declared.entry.Rights.{Rights}
use Rattle.gup_plain.specs.Pages.{mapped_pages}
use Rattle.gup_plain.specs.Put.{put, put2, within, spread}
use Rattle.gup_plain.specs.State.{PlainState, Birth, growing, born, failed, named_or_zero}
use Rattle.gup_plain.specs.Event.{happened, page_numbers}
use Rattle.gup_plain.specs.declared.event.PlainEvent.TheVariants as events
use Rattle.gup_exec_parts.specs.declared.pages.Page.{Page}
use Rattle.gup_exec_parts.specs.Pages.{right_in, object_in, with_object, with_rights, own_objects, pages_from}
use Rattle.gup_exec_plain.specs.Parts.{with_spaces}
use Rattle.gup_exec_parts.specs.Space.{SpaceState, blank}
use Rattle.gup_exec_parts.proofs.TableLemmas.{put_same}

-- ---- a function after a change

chosen : {X Y : Type 0} (g : X → Y) (b : Bool) (x x' : X) (y y' : Y) → (b ≡ true → g x ≡ y) → (b ≡ false → g x' ≡ y') → g (if b then x else x') ≡ (if b then y else y')
chosen g true x x' y y' whole part = whole refl
chosen g false x x' y y' whole part = part refl

pub through_put : {X Y : Type 0} (g : X → Y) (p : ℕ) (x : X) (f : ℕ → X) (y : Y) → g x ≡ y → (λ q. g (put p x f q)) ≡ put p y (λ q. g (f q))
through_put g p x f y is = fun_ext (λ q. chosen g (q == p) x (f q) y (g (f q)) (λ _. is) (λ _. refl))

pub through_kept : {X Y : Type 0} (g : X → Y) (p : ℕ) (x : X) (f : ℕ → X) → g x ≡ g (f p) → ◌≡◌ {A = ℕ → Y} (λ q. g (put p x f q)) (λ q. g (f q))
through_kept g p x f is = through_put g p x f (g (f p)) is ∙ put_same p (λ q. g (f q)) (g (f p)) refl

same-number : (q p : ℕ) → (q == p) ≡ true → q ≡ p
same-number q p h = grind (arith, nat_tests)

pub through_put2 : {X Y : Type 0} (g : X → ℕ → Y) (p : ℕ) (x : X) (f : ℕ → X) (l : ℕ) (w : Y) → g x ≡ put l w (g (f p)) → (λ q. g (put p x f q)) ≡ put2 p l w (λ q. g (f q))
through_put2 g p x f l w is =
    fun_ext
    (λ q. chosen g (q == p) x (f q) (put l w (g (f q))) (g (f q)) (λ here. is ∙ ap (λ n. put l w (g (f n))) (sym (same-number q p here))) (λ _. refl))

pub through_spread : {X Y : Type 0} (g : X → Y) (first n : ℕ) (h f : ℕ → X) → (λ q. g (spread first n h f q)) ≡ spread first n (λ q. g (h q)) (λ q. g (f q))
through_spread g first n h f = fun_ext (λ q. chosen g (within first n q) (h q) (f q) (g (h q)) (g (f q)) (λ _. refl) (λ _. refl))

-- ---- fresh objects

-- an object that isn't made yet has zeros
abbrev pub IsFresh : (made : ℕ) → (ℕ → ℕ → ℕ) → Type 0
IsFresh made content = (object word : ℕ) → made ≤ object → content object word ≡ 0

pub fresh_one : (made : ℕ) (content : ℕ → ℕ → ℕ) → IsFresh made content → content ≡ put made (λ _. 0) content
fresh_one made content fresh = sym (put_same made content (λ _. 0) (fun_ext (λ w. sym (fresh made w (omega arith)))))

fresh-at : (made n o w : ℕ) (content : ℕ → ℕ → ℕ) → IsFresh made content → content o w ≡ spread made n (λ _ _. 0) content o w
fresh-at made n o w content fresh = let here = fresh o w in grind (arith, nat_tests)

pub fresh_range : (made n : ℕ) (content : ℕ → ℕ → ℕ) → IsFresh made content → content ≡ spread made n (λ _ _. 0) content
fresh_range made n content fresh = fun_ext (λ o. fun_ext (λ w. fresh-at made n o w content fresh))

-- ---- the state with one process changed

abbrev processes : PlainState → (ℕ → Birth) → (ℕ → ℕ → Option Rights) → (ℕ → ℕ → ℕ) → (ℕ → ℕ) → (ℕ → ℕ → ℕ → Bool) → PlainState
processes s b r o n c = record s { birth = b; right = r; object = o; pages = n; copied = c }

same_processes : (s : PlainState) (b b' : ℕ → Birth) (r r' : ℕ → ℕ → Option Rights) (o o' : ℕ → ℕ → ℕ) (n n' : ℕ → ℕ) (c c' : ℕ → ℕ → ℕ → Bool)
    → b ≡ b' → r ≡ r' → o ≡ o' → n ≡ n' → c ≡ c' → processes s b r o n c ≡ processes s b' r' o' n' c'
same_processes s b b' r r' o o' n n' c c' eb er eo en ec =
    ap (λ (x : ℕ → Birth). processes s x r o n c) eb
    ∙ ap (λ (x : ℕ → ℕ → Option Rights). processes s b' x o n c) er
    ∙ ap (λ (x : ℕ → ℕ → ℕ). processes s b' r' x n c) eo
    ∙ ap (λ (x : ℕ → ℕ). processes s b' r' o' x c) en
    ∙ ap (λ (x : ℕ → ℕ → ℕ → Bool). processes s b' r' o' n' x) ec

-- what each event needs of the changed process x, where f are the processes before

abbrev rights : SpaceState → ℕ → Option Rights
rights x page = right_in (x.page page)

abbrev objects : SpaceState → ℕ → ℕ
objects x page = object_in (x.page page)

abbrev birth_in : SpaceState → Birth
birth_in x = x.birth

abbrev pages_in : SpaceState → ℕ
pages_in x = x.pages

abbrev copied_in : SpaceState → ℕ → ℕ → Bool
copied_in x = x.copied

-- any state is changed in one process so
one_space : (s : PlainState) (f : ℕ → SpaceState) (p : ℕ) (x : SpaceState) (b : ℕ → Birth) (r : ℕ → ℕ → Option Rights) (o : ℕ → ℕ → ℕ) (n : ℕ → ℕ) (c : ℕ → ℕ → ℕ → Bool)
    → (λ q. birth_in (put p x f q)) ≡ b → (λ q. rights (put p x f q)) ≡ r → (λ q. objects (put p x f q)) ≡ o → (λ q. pages_in (put p x f q)) ≡ n → (λ q. copied_in (put p x f q)) ≡ c
    → with_spaces s (put p x f) ≡ processes s b r o n c
one_space s f p x b r o n c eb er eo en ec =
    same_processes s (λ q. birth_in (put p x f q)) b (λ q. rights (put p x f q)) r (λ q. objects (put p x f q)) o (λ q. pages_in (put p x f q)) n (λ q. copied_in (put p x f q)) c eb er eo en ec

page-out : (page : ℕ) (x y : SpaceState) → x.page ≡ put page None y.page → (rights x ≡ put page None (rights y)) × (objects x ≡ put page 0 (objects y))
page-out page x y is = (
  ap (λ (t : ℕ → Option Page). λ q. right_in (t q)) is ∙ through_put (λ o. right_in o) page None y.page None refl,
  ap (λ (t : ℕ → Option Page). λ q. object_in (t q)) is ∙ through_put (λ o. object_in o) page None y.page 0 refl,
)

same-rights : (x y : SpaceState) → x.page ≡ y.page → rights x ≡ rights y
same-rights x y is = ap (λ (m : ℕ → Option Page). λ q. right_in (m q)) is

same-objects : (x y : SpaceState) → x.page ≡ y.page → objects x ≡ objects y
same-objects x y is = ap (λ (m : ℕ → Option Page). λ q. object_in (m q)) is

pub after_unmap : (s : PlainState) (f : ℕ → SpaceState) (p page : ℕ) (x : SpaceState)
    → x.birth ≡ (f p).birth → x.page ≡ put page None (f p).page → x.pages ≡ (f p).pages - 1 → x.copied ≡ (f p).copied
    → with_spaces s (put p x f) ≡ happened (with_spaces s f) (events.Unmap 0 p page)
after_unmap s f p page x birth pages len copied =
    let out = page-out page x (f p) pages in
    let t = with_spaces s f in
    one_space s f p x t.birth (put2 p page None t.right) (put2 p page 0 t.object) (put p (t.pages p - 1) t.pages) t.copied
    (through_kept birth_in p x f birth) (through_put2 rights p x f page None out.0) (through_put2 objects p x f page 0 out.1)
    (through_put pages_in p x f (t.pages p - 1) len) (through_kept copied_in p x f copied)

kept-rights : (o : Option Page) (object : ℕ) → right_in (with_object object o) ≡ right_in o
kept-rights None object = refl
kept-rights (Some found) object = refl

set-object : (o : Option Page) (object : ℕ) → IsSome o → object_in (with_object object o) ≡ object
set-object None object there = absurd (cc)
set-object (Some found) object there = refl

page-renamed : (page object : ℕ) (x y : SpaceState) → IsSome (y.page page) → x.page ≡ put page (with_object object (y.page page)) y.page → (rights x ≡ rights y) × (objects x ≡ put page object (objects y))
page-renamed page object x y there is =
    let w = with_object object (y.page page) in (
      ap (λ (t : ℕ → Option Page). λ q. right_in (t q)) is ∙ through_kept (λ o. right_in o) page w y.page (kept-rights (y.page page) object),
      ap (λ (t : ℕ → Option Page). λ q. object_in (t q)) is ∙ through_put (λ o. object_in o) page w y.page object (set-object (y.page page) object there),
    )

pub after_discard : (s : PlainState) (f : ℕ → SpaceState) (p page : ℕ) (x : SpaceState) → IsFresh s.made s.content → IsSome ((f p).page page)
    → x.birth ≡ (f p).birth → x.page ≡ put page (with_object s.made ((f p).page page)) (f p).page → x.pages ≡ (f p).pages → x.copied ≡ (f p).copied
    → with_spaces (record s { made = s.made + 1 }) (put p x f) ≡ happened (with_spaces s f) (events.Discard 0 p page)
after_discard s f p page x fresh there birth pages len copied =
    let named = page-renamed page s.made x (f p) there pages in
    let t = with_spaces s f in
    one_space (record s { made = s.made + 1 }) f p x t.birth t.right (put2 p page s.made t.object) t.pages t.copied
    (through_kept birth_in p x f birth) (through_kept rights p x f named.0) (through_put2 objects p x f page s.made named.1)
    (through_kept pages_in p x f len) (through_kept copied_in p x f copied)
    ∙ ap (λ (c : ℕ → ℕ → ℕ). record t { content = c; made = s.made + 1; object = put2 p page s.made t.object }) (fresh_one s.made s.content fresh)

pub after_map : (s : PlainState) (f : ℕ → SpaceState) (p page n : ℕ) (r : Rights) (x : SpaceState) → IsFresh s.made s.content
    → x.birth ≡ (f p).birth → x.page ≡ spread page n (pages_from page r s.made) (f p).page → x.pages ≡ (f p).pages + n → x.copied ≡ (f p).copied
    → with_spaces (record s { made = s.made + n }) (put p x f) ≡ happened (with_spaces s f) (events.Map 0 p page n r)
after_map s f p page n r x fresh birth pages len copied =
    let t = with_spaces s f in
    let is_right = ap (λ (m : ℕ → Option Page). λ q. right_in (m q)) pages ∙ through_spread (λ o. right_in o) page n (pages_from page r s.made) (f p).page in
    let is_object = ap (λ (m : ℕ → Option Page). λ q. object_in (m q)) pages ∙ through_spread (λ o. object_in o) page n (pages_from page r s.made) (f p).page in
    let right : ℕ → Option Rights = spread page n (λ _. Some r) (t.right p) in
    let object : ℕ → ℕ = spread page n (λ g. s.made + (g - page)) (t.object p) in
    one_space (record s { made = s.made + n }) f p x t.birth (put p right t.right) (put p object t.object) (put p (t.pages p + n) t.pages) t.copied
    (through_kept birth_in p x f birth) (through_put rights p x f right is_right) (through_put objects p x f object is_object)
    (through_put pages_in p x f (t.pages p + n) len) (through_kept copied_in p x f copied)
    ∙ ap (λ (c : ℕ → ℕ → ℕ). record t { content = c; made = s.made + n; right = put p right t.right; object = put p object t.object; pages = put p (t.pages p + n) t.pages })
    (fresh_range s.made n s.content fresh)

right-set-at : (o : Option Page) (r : Rights) → IsSome o → right_in (with_rights r o) ≡ Some r
right-set-at None r there = absurd (cc)
right-set-at (Some found) r there = refl

in-range : (first n q : ℕ) → within first n q ≡ true → (q - first < n) × (first + (q - first) ≡ q)
in-range first n q h = grind (arith, nat_tests)

chosen-alike : {Y : Type 0} (b : Bool) (y z w : Y) → (b ≡ true → y ≡ z) → (if b then y else w) ≡ (if b then z else w)
chosen-alike true y z w same = same refl
chosen-alike false y z w same = refl

spread-alike : {Y : Type 0} (first n : ℕ) (g h f : ℕ → Y) → ((k : ℕ) → k < n → g (first + k) ≡ h (first + k)) → spread first n g f ≡ spread first n h f
spread-alike first n g h f same =
    fun_ext
    (λ q. chosen-alike (within first n q) (g q) (h q) (f q)
    (λ here.
    let at = in-range first n q here in
    let there = same (q - first) at.0 in
    rw at.1 at there))

right-kept-object : (o : Option Page) (r : Rights) → object_in (with_rights r o) ≡ object_in o
right-kept-object None r = refl
right-kept-object (Some found) r = refl

spread-same : {Y : Type 0} (first n : ℕ) (f : ℕ → Y) → spread first n f f ≡ f
spread-same first n f = fun_ext (λ q. same-both (within first n q) (f q))
  where
    same-both : {Y : Type 0} (b : Bool) (y : Y) → (if b then y else y) ≡ y
    same-both true y = refl
    same-both false y = refl

pub after_protect : (s : PlainState) (f : ℕ → SpaceState) (p page n : ℕ) (r : Rights) (x : SpaceState) → ((k : ℕ) → k < n → IsSome ((f p).page (page + k)))
    → x.birth ≡ (f p).birth → x.page ≡ spread page n (λ q. with_rights r ((f p).page q)) (f p).page → x.pages ≡ (f p).pages → x.copied ≡ (f p).copied
    → with_spaces s (put p x f) ≡ happened (with_spaces s f) (events.Protect 0 p page n r)
after_protect s f p page n r x there birth pages len copied =
    let t = with_spaces s f in
    let g : ℕ → Option Page = λ q. with_rights r ((f p).page q) in
    let is_right = ap (λ (m : ℕ → Option Page). λ q. right_in (m q)) pages ∙ through_spread (λ o. right_in o) page n g (f p).page
    ∙ spread-alike page n (λ q. right_in (g q)) (λ _. Some r) (t.right p) (λ k small. right-set-at ((f p).page (page + k)) r (there k small)) in
    let is_object = ap (λ (m : ℕ → Option Page). λ q. object_in (m q)) pages ∙ through_spread (λ o. object_in o) page n g (f p).page
    ∙ spread-alike page n (λ q. object_in (g q)) (t.object p) (t.object p) (λ k small. right-kept-object ((f p).page (page + k)) r) ∙ spread-same page n (t.object p) in
    let right : ℕ → Option Rights = spread page n (λ _. Some r) (t.right p) in
    one_space s f p x t.birth (put p right t.right) t.object t.pages t.copied
    (through_kept birth_in p x f birth) (through_put rights p x f right is_right) (through_kept objects p x f is_object)
    (through_kept pages_in p x f len) (through_kept copied_in p x f copied)

pub after_birth : (s : PlainState) (f : ℕ → SpaceState) (p : ℕ) (x : SpaceState) → x.birth ≡ born → x.page ≡ (f p).page → x.pages ≡ (f p).pages → x.copied ≡ (f p).copied
    → with_spaces s (put p x f) ≡ record (with_spaces s f) { birth = put p born (with_spaces s f).birth }
after_birth s f p x birth pages len copied =
    let t = with_spaces s f in
    one_space s f p x (put p born t.birth) t.right t.object t.pages t.copied
    (through_put birth_in p x f born birth) (through_kept rights p x f (same-rights x (f p) pages)) (through_kept objects p x f (same-objects x (f p) pages))
    (through_kept pages_in p x f len) (through_kept copied_in p x f copied)

own-rights : (x y : SpaceState) (made : ℕ) → x.page ≡ own_objects made y.page → rights x ≡ rights y
own-rights x y made is = ap (λ (m : ℕ → Option Page). λ q. right_in (m q)) is ∙ fun_ext (λ q. kept-rights (y.page q) (made + q))

own-object : (o : Option Page) (object : ℕ) → object_in (with_object object o) ≡ named_or_zero (right_in o) object
own-object None object = refl
own-object (Some found) object = refl

own-objects : (x y : SpaceState) (made : ℕ) → x.page ≡ own_objects made y.page → objects x ≡ (λ q. named_or_zero (rights y q) (made + q))
own-objects x y made is = ap (λ (m : ℕ → Option Page). λ q. object_in (m q)) is ∙ fun_ext (λ q. own-object (y.page q) (made + q))

pub after_grow : (s : PlainState) (f : ℕ → SpaceState) (parent child : ℕ) (x : SpaceState) → IsFresh s.made s.content
    → x.birth ≡ growing parent → x.page ≡ own_objects s.made (f parent).page → x.pages ≡ mapped_pages (λ page. right_in ((f parent).page page)) → x.copied ≡ (λ _ _. false)
    → with_spaces (record s { made = s.made + page_numbers }) (put child x f) ≡ happened (with_spaces s f) (events.ForkBegin parent child)
after_grow s f parent child x fresh birth pages len copied =
    let t = with_spaces s f in
    let none : ℕ → ℕ → Bool = λ _ _. false in
    let object : ℕ → ℕ = λ page. named_or_zero (t.right parent page) (s.made + page) in
    one_space (record s { made = s.made + page_numbers }) f child x (put child (growing parent) t.birth) (put child (t.right parent) t.right) (put child object t.object) (put child (mapped_pages (t.right parent)) t.pages) (put child none t.copied)
    (through_put birth_in child x f (growing parent) birth) (through_put rights child x f (t.right parent) (own-rights x (f parent) s.made pages))
    (through_put objects child x f object (own-objects x (f parent) s.made pages)) (through_put pages_in child x f (mapped_pages (t.right parent)) len) (through_put copied_in child x f none copied)
    ∙ ap
    (λ (c : ℕ → ℕ → ℕ).
    record t {
      content = c;
      made = s.made + page_numbers;
      birth = put child (growing parent) t.birth;
      right = put child (t.right parent) t.right;
      object = put child object t.object;
      pages = put child (mapped_pages (t.right parent)) t.pages;
      copied = put child none t.copied;
    })
    (fresh_range s.made page_numbers s.content fresh)

-- the contents are changed, and of a process only what is copied
copied-only : (s : PlainState) (f : ℕ → SpaceState) (p : ℕ) (x : SpaceState) (page : ℕ) (flags : ℕ → Bool) (c : ℕ → ℕ → ℕ)
    → x.birth ≡ (f p).birth → x.page ≡ (f p).page → x.pages ≡ (f p).pages → x.copied ≡ put page flags (f p).copied
    → with_spaces (record s { content = c }) (put p x f) ≡ record (with_spaces s f) { content = c; copied = put2 p page flags (with_spaces s f).copied }
copied-only s f p x page flags c birth pages len copied =
    let t = with_spaces s f in
    one_space (record s { content = c }) f p x t.birth t.right t.object t.pages (put2 p page flags t.copied)
    (through_kept birth_in p x f birth) (through_kept rights p x f (same-rights x (f p) pages)) (through_kept objects p x f (same-objects x (f p) pages))
    (through_kept pages_in p x f len) (through_put2 copied_in p x f page flags copied)

pub after_page : (s : PlainState) (f : ℕ → SpaceState) (parent child page from to : ℕ) (x : SpaceState) (c : ℕ → ℕ → ℕ)
    → (with_spaces s f).object parent page ≡ from → (with_spaces s f).object child page ≡ to
    → c ≡ put to (spread 0 512 (s.content from) (s.content to)) s.content
    → x.birth ≡ (f child).birth → x.page ≡ (f child).page → x.pages ≡ (f child).pages → x.copied ≡ put page (spread 0 512 (λ _. true) ((f child).copied page)) (f child).copied
    → with_spaces (record s { content = c }) (put child x f) ≡ happened (with_spaces s f) (events.ForkPage parent child page)
after_page s f parent child page from to x c is_from is_to content birth pages len copied =
    let t = with_spaces s f in
    let flags : ℕ → Bool = spread 0 512 (λ _. true) (t.copied child page) in
    let there : c ≡ put (t.object child page) (spread 0 512 (s.content (t.object parent page)) (s.content (t.object child page))) s.content = rw (is_from, is_to) content in
    copied-only s f child x page flags c birth pages len copied
    ∙ ap (λ (k : ℕ → ℕ → ℕ). record t { content = k; copied = put2 child page flags t.copied }) there

pub after_word : (s : PlainState) (f : ℕ → SpaceState) (parent child page word from to value : ℕ) (x : SpaceState) (c : ℕ → ℕ → ℕ)
    → (with_spaces s f).object parent page ≡ from → (with_spaces s f).object child page ≡ to → value ≡ s.content from word
    → c ≡ put2 to word value s.content
    → x.birth ≡ (f child).birth → x.page ≡ (f child).page → x.pages ≡ (f child).pages → x.copied ≡ put page (put word true ((f child).copied page)) (f child).copied
    → with_spaces (record s { content = c }) (put child x f) ≡ happened (with_spaces s f) (events.ForkWord parent child page word)
after_word s f parent child page word from to value x c is_from is_to is content birth pages len copied =
    let t = with_spaces s f in
    let flags : ℕ → Bool = put word true (t.copied child page) in
    let read : value ≡ s.content (t.object parent page) word = rw is_from is in
    let there : c ≡ put2 (t.object child page) word (s.content (t.object parent page) word) s.content =
    content ∙ ap (λ (n : ℕ). put2 to word n s.content) read ∙ ap (λ (n : ℕ). put2 n word (s.content (t.object parent page) word) s.content) (sym is_to) in
    copied-only s f child x page flags c birth pages len copied
    ∙ ap (λ (k : ℕ → ℕ → ℕ). record t { content = k; copied = put2 child page flags t.copied }) there

pub after_end : (s : PlainState) (f : ℕ → SpaceState) (parent child : ℕ) (x : SpaceState)
    → x.birth ≡ born → x.page ≡ (f child).page → x.pages ≡ (f child).pages → x.copied ≡ (λ _ _. false)
    → with_spaces s (put child x f) ≡ happened (with_spaces s f) (events.ForkEnd parent child)
after_end s f parent child x birth pages len copied =
    let t = with_spaces s f in
    one_space s f child x (put child born t.birth) t.right t.object t.pages (put child (λ _ _. false) t.copied)
    (through_put birth_in child x f born birth) (through_kept rights child x f (same-rights x (f child) pages)) (through_kept objects child x f (same-objects x (f child) pages))
    (through_kept pages_in child x f len) (through_put copied_in child x f (λ _ _. false) copied)

pub after_fail : (s : PlainState) (f : ℕ → SpaceState) (child : ℕ) → with_spaces s (put child (record blank { birth = failed }) f) ≡ happened (with_spaces s f) (events.ForkFail child)
after_fail s f child =
    let t = with_spaces s f in
    let x : SpaceState = record blank { birth = failed } in
    one_space s f child x (put child failed t.birth) (put child (λ _. None) t.right) (put child (λ _. 0) t.object) (put child 0 t.pages) (put child (λ _ _. false) t.copied)
    (through_put birth_in child x f failed refl) (through_put rights child x f (λ _. None) refl) (through_put objects child x f (λ _. 0) refl)
    (through_put pages_in child x f 0 refl) (through_put copied_in child x f (λ _ _. false) refl)
