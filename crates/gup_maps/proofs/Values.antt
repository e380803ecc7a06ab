-- What a table has at a page, by its rows.
use Rattle.std.proofs.Common.{◌≡◌, ℕ, zero, suc, ◌+◌, ◌<◌, ◌≤◌, ◌==◌, true, cond, List, [], ◌∷◌, ◌++◌, take, drop, set, length, get_or, Some, None, is_some, refl, ap, sym, ◌∙◌, ⊎_elim, arith, length-append, length-take, length-drop, ◌-◌}
use Rattle.std.proofs.Math.Path.{fun_ext}
use Rattle.std.specs.List.{remove}
use borrow.Rule.Slice.PartMut.{post_of}
use Rattle.std.proofs.lemmas.List.{get_or-map, append_assoc, map-append, map-set, set-get_or, take-map, drop-map, map_push, length_push, length-map, get_or_push, get_or_append_left, drop-append-le, take-append-le, take_all, drop_all, drop_at, take_at, append-nil}
use Rattle.std.proofs.lemmas.Bool.{cases_lt, cases_eq}
use Rattle.std.proofs.lemmas.Bool.Decides.{nat_tests}
use Rattle.gup_plain.specs.Put.{put, spread, within}
use Rattle.gup_maps.specs.Table.{at, pages_of, run, IsOrdered, IsPlace, IsThere, IsRun}
use Rattle.gup_maps.proofs.Places.{rises}

-- the page of a row
pub page_of : {V : Type 0} (rows : List (ℕ × V)) (i : ℕ) (row : ℕ × V) → i < length rows → get_or (pages_of rows) i 0 ≡ (get_or rows i row).0
page_of {V} rows i row inside = get_or-map (λ (r : ℕ × V). r.0) rows i row 0 inside

pub length-pages : {V : Type 0} (rows : List (ℕ × V)) → length (pages_of rows) ≡ length rows
length-pages {V} rows = length-map rows (λ (r : ℕ × V). r.0)

at-other : {V : Type 0} (row : ℕ × V) (rows : List (ℕ × V)) (page : ℕ) → (row.0 ≡ page → ⊥) → at (row ∷ rows) page ≡ at rows page
at-other row rows page other = grind (arith, nat_tests)

-- no row has the page
pub at_none : {V : Type 0} (rows : List (ℕ × V)) (page : ℕ) → ((i : ℕ) → i < length rows → get_or (pages_of rows) i 0 ≡ page → ⊥) → at rows page ≡ None
at_none [] page none = refl
at_none (row ∷ rows) page none =
    at-other row rows page (none zero (omega arith)) ∙ at_none rows page (λ i inside. none (suc i) (omega arith))

-- the first row with the page has its value
pub at_row : {V : Type 0} (rows : List (ℕ × V)) (page i : ℕ) (row : ℕ × V) → i < length rows → ((j : ℕ) → j < i → get_or (pages_of rows) j 0 < page) → get_or (pages_of rows) i 0 ≡ page → at rows page ≡ Some (get_or rows i row).1
at_row [] page i row inside before is = absurd (omega arith)
at_row (r ∷ rows) page zero row inside before is = at-here r rows page is
  where
    at-here : {V : Type 0} (row : ℕ × V) (rows : List (ℕ × V)) (page : ℕ) → row.0 ≡ page → at (row ∷ rows) page ≡ Some row.1
    at-here row rows page is = grind (arith, nat_tests)
at_row (r ∷ rows) page (suc i) row inside before is =
    let below : r.0 < page = before zero (omega arith) in
    at-other r rows page (λ e. omega arith) ∙ at_row rows page i row (omega arith) (λ j h. before (suc j) (omega arith)) is

-- ---- one row changes

-- a change of a table's rest, after a row of another page
put-past : {X : Type 0} (k q page : ℕ) (x y a b : X) → (q ≡ page → ⊥) → a ≡ cond (k == page) y b → cond (k == q) x a ≡ cond (k == page) y (cond (k == q) x b)
put-past k q page x y a b other is = grind (arith, nat_tests)

put-here : {X : Type 0} (k q page : ℕ) (x y b : X) → q ≡ page → cond (k == page) y b ≡ cond (k == page) y (cond (k == q) x b)
put-here k q page x y b same = grind (arith, nat_tests)

put-away : {X : Type 0} (k q page : ℕ) (f : ℕ → X) (x y : X) → q ≡ page → f page ≡ y → f k ≡ cond (k == page) y (cond (k == q) x (f k))
put-away k q page f x y same none =
    ⊎_elim (λ (e : k ≡ page). let here : f k ≡ y = rw e none in grind (arith, nat_tests)) (λ (e : k ≡ page → ⊥). grind (arith, nat_tests)) (cases_eq k page)

set_at_page : {V : Type 0} (rows : List (ℕ × V)) (page i : ℕ) (value : V) (k : ℕ) → i < length rows → ((j : ℕ) → j < i → get_or (pages_of rows) j 0 < page) → get_or (pages_of rows) i 0 ≡ page → at (set rows i (page, value)) k ≡ put page (Some value) (at rows) k
set_at_page [] page i value k inside before is = absurd (omega arith)
set_at_page (r ∷ rows) page zero value k inside before is = put-here k r.0 page (Some r.1) (Some value) (at rows k) is
set_at_page (r ∷ rows) page (suc i) value k inside before is =
    let below : r.0 < page = before zero (omega arith) in
    put-past k r.0 page (Some r.1) (Some value) (at (set rows i (page, value)) k) (at rows k) (λ e. omega arith)
    (set_at_page rows page i value k (omega arith) (λ j h. before (suc j) (omega arith)) is)

pub at-set : {V : Type 0} (rows : List (ℕ × V)) (page i : ℕ) (value : V) → i < length rows → ((j : ℕ) → j < i → get_or (pages_of rows) j 0 < page) → get_or (pages_of rows) i 0 ≡ page → at (set rows i (page, value)) ≡ put page (Some value) (at rows)
at-set rows page i value inside before is = fun_ext (λ k. set_at_page rows page i value k inside before is)

pub pages-set : {V : Type 0} (rows : List (ℕ × V)) (page i : ℕ) (value : V) → get_or (pages_of rows) i 0 ≡ page → pages_of (set rows i (page, value)) ≡ pages_of rows
pages-set {V} rows page i value is =
    map-set (λ (r : ℕ × V). r.0) rows i (page, value) ∙ rw (← is) (set-get_or (pages_of rows) i 0)

remove_at_page : {V : Type 0} (rows : List (ℕ × V)) (page i k : ℕ) → i < length rows → ((j : ℕ) → j < i → get_or (pages_of rows) j 0 < page) → ((j : ℕ) → i < j → j < length rows → page < get_or (pages_of rows) j 0) → get_or (pages_of rows) i 0 ≡ page → at (remove rows i) k ≡ put page None (at rows) k
remove_at_page [] page i k inside before behind is = absurd (omega arith)
remove_at_page (r ∷ rows) page zero k inside before behind is =
    let none : at rows page ≡ None =
    at_none rows page (λ j h e. let above : page < get_or (pages_of rows) j 0 = behind (suc j) (omega arith) (omega arith) in omega arith) in
    put-away k r.0 page (at rows) (Some r.1) None is none
remove_at_page (r ∷ rows) page (suc i) k inside before behind is =
    let below : r.0 < page = before zero (omega arith) in
    put-past k r.0 page (Some r.1) None (at (remove rows i) k) (at rows k) (λ e. omega arith)
    (remove_at_page rows page i k (omega arith) (λ j h. before (suc j) (omega arith)) (λ j h w. behind (suc j) (omega arith) (omega arith)) is)

pub at-remove : {V : Type 0} (rows : List (ℕ × V)) (page i : ℕ) → IsOrdered (pages_of rows) → IsPlace (pages_of rows) page i → IsThere (pages_of rows) page i → at (remove rows i) ≡ put page None (at rows)
at-remove rows page i ordered place there =
    let len : length (pages_of rows) ≡ length rows = length-pages rows in
    fun_ext (λ k. remove_at_page rows page i k (omega (arith, there.0)) place.before (λ j h w. let more : get_or (pages_of rows) i 0 < get_or (pages_of rows) j 0 = ordered i j h (omega arith) in omega (arith, there.1)) there.1)

pub pages-remove : {V : Type 0} (rows : List (ℕ × V)) (i : ℕ) → pages_of (remove rows i) ≡ remove (pages_of rows) i
pages-remove {V} rows i =
    let f = λ (r : ℕ × V). r.0 in
    map-append f (take i rows) (drop (suc i) rows) ∙ rw (take-map f i rows, drop-map f (suc i) rows) refl

-- a step over the rows of pages next to each other
spread-more : {X : Type 0} (page k : ℕ) (x : X) (f : ℕ → X) → put (page + k) x (spread page k (λ _. x) f) ≡ spread page (k + 1) (λ _. x) f
spread-more page k x f = fun_ext (λ q. spread-more_at page k q x f)
  where
    spread-more_at : {X : Type 0} (page k q : ℕ) (x : X) (f : ℕ → X) → put (page + k) x (spread page k (λ _. x) f) q ≡ spread page (k + 1) (λ _. x) f q
    spread-more_at page k q x f = grind (arith, nat_tests)

module _ {V : Type 0} (was rows : List (ℕ × V)) (ordered : IsOrdered (pages_of was)) (same : pages_of rows ≡ pages_of was) (i : ℕ) (row : ℕ × V) (inside : i < length rows) (read : row ≡ get_or rows i row) where
  read-page : get_or (pages_of was) i 0 ≡ row.0
  read-page = rw (← same) (page_of rows i row inside ∙ ap (λ (r : ℕ × V). r.0) (sym read))

  pub pages-filled : (value : V) → pages_of (set rows i (row.0, value)) ≡ pages_of was
  pages-filled value = pages-set rows row.0 i value (rw same read-page) ∙ same

  pub at-filled : (page n place k : ℕ) (value : V) → i ≡ place + k → k < n → IsRun (pages_of was) page n place → at rows ≡ spread page k (λ _. Some value) (at was) → at (set rows i (row.0, value)) ≡ spread page (k + 1) (λ _. Some value) (at was)
  at-filled page n place k value there less run done =
      let len : length (pages_of rows) ≡ length rows = length-pages rows in
      let row_page : row.0 ≡ page + k = sym read-page ∙ rw there (run.each k less) in
      at-set rows row.0 i value inside
      (λ j h. rw same (let more : get_or (pages_of was) j 0 < get_or (pages_of was) i 0 = ordered j i h (rw (← same) (omega arith)) in omega (arith, read-page)))
      (rw same read-page)
      ∙ rw (done, row_page) (spread-more page k (Some value) (at was))

pub spread-one : {X : Type 0} (page : ℕ) (x : X) (f : ℕ → X) → spread page 1 (λ _. x) f ≡ put page x f
spread-one page x f = fun_ext (λ q. spread-one_at page q x f)
  where
    spread-one_at : {X : Type 0} (page q : ℕ) (x : X) (f : ℕ → X) → spread page 1 (λ _. x) f q ≡ put page x f q
    spread-one_at page q x f = grind (arith, nat_tests)

-- ---- rows are put in

-- what stands after a place, turned about the rows that were put on at the end
pub turned : {X : Type 0} (rows new xs turn items : List X) (place n len : ℕ) → xs ≡ rows ++ new → length new ≡ n → place ≤ length rows → len ≡ length xs → turn ≡ drop (length (take (length xs - place) (drop place xs)) - n) (take (length xs - place) (drop place xs)) ++ take (length (take (length xs - place) (drop place xs)) - n) (take (length xs - place) (drop place xs)) → take len ((take place xs ++ (turn ++ post_of place (length xs - place) xs)) ++ drop (length (take place xs ++ (turn ++ post_of place (length xs - place) xs))) items) ≡ take place rows ++ (new ++ drop place rows)
turned {X} rows new xs turn items place n len is count inside all turn_is =
    let len_xs : length xs ≡ length rows + n = rw is (simp length-append (omega arith)) in
    let len_tail : length (drop place rows) ≡ length rows - place = length-drop place rows in
    let tail : drop place xs ≡ drop place rows ++ new = rw is (drop-append-le place rows new inside) in
    let whole : take (length xs - place) (drop place xs) ≡ drop place xs = take_all (length xs - place) (drop place xs) (simp length-drop (omega arith)) in
    let len_whole : length (drop place rows ++ new) - n ≡ length (drop place rows) = simp length-append (omega arith) in
    let turn_is' : turn ≡ new ++ drop place rows =
    turn_is ∙ rw (whole, tail, len_whole) (rw (drop_at (drop place rows) new (length (drop place rows)) refl, take_at (drop place rows) new (length (drop place rows)) refl) refl) in
    let past : post_of place (length xs - place) xs ≡ [] = drop_all (length xs - place) (drop place xs) (simp length-drop (omega arith)) in
    let front : take place xs ≡ take place rows = rw is (take-append-le place rows new inside) in
    let made : take place xs ++ (turn ++ post_of place (length xs - place) xs) ≡ take place rows ++ (new ++ drop place rows) =
    rw (front, turn_is', past) (ap (λ ys. take place rows ++ ys) (append-nil (new ++ drop place rows))) in
    let len_made : length (take place rows ++ (new ++ drop place rows)) ≡ len = simp (length-append, length-take, length-drop) (omega arith) in
    rw made (take_at (take place rows ++ (new ++ drop place rows)) (drop (length (take place rows ++ (new ++ drop place rows))) items) len len_made)

spread-past : {X : Type 0} (k q page n : ℕ) (x y a b : X) → q < page → a ≡ cond (within page n k) y b → cond (k == q) x a ≡ cond (within page n k) y (cond (k == q) x b)
spread-past k q page n x y a b below is = grind (arith, nat_tests)

spread-none : {X : Type 0} (page k : ℕ) (f g : ℕ → X) → f k ≡ spread page 0 g f k
spread-none page k f g = grind (arith, nat_tests)

spread-step : {X : Type 0} (page n k : ℕ) (y b : X) → cond (within page n k) y (cond (k == page + n) y b) ≡ cond (within page (suc n) k) y b
spread-step page n k y b = grind (arith, nat_tests)

run_at_page : {V : Type 0} (rows : List (ℕ × V)) (page n : ℕ) (value : V) (k : ℕ) → at (run page n value ++ rows) k ≡ spread page n (λ _. Some value) (at rows) k
run_at_page rows page zero value k = spread-none page k (at rows) (λ _. Some value)
run_at_page rows page (suc n) value k =
    ap (λ r. at r k) (append_assoc (run page n value) ((page + n, value) ∷ []) rows)
    ∙ run_at_page ((page + n, value) ∷ rows) page n value k
    ∙ spread-step page n k (Some value) (at rows k)

insert_at_page : {V : Type 0} (rows : List (ℕ × V)) (page n i : ℕ) (value : V) (k : ℕ) → i ≤ length rows → ((j : ℕ) → j < i → get_or (pages_of rows) j 0 < page) → at (take i rows ++ (run page n value ++ drop i rows)) k ≡ spread page n (λ _. Some value) (at rows) k
insert_at_page rows page n zero value k inside before = run_at_page rows page n value k
insert_at_page [] page n (suc i) value k inside before = absurd (omega arith)
insert_at_page (r ∷ rows) page n (suc i) value k inside before =
    spread-past k r.0 page n (Some r.1) (Some value) (at (take i rows ++ (run page n value ++ drop i rows)) k) (at rows k) (before zero (omega arith))
    (insert_at_page rows page n i value k (omega arith) (λ j h. before (suc j) (omega arith)))

pub at-insert : {V : Type 0} (rows : List (ℕ × V)) (page n i : ℕ) (value : V) → IsPlace (pages_of rows) page i → at (take i rows ++ (run page n value ++ drop i rows)) ≡ spread page n (λ _. Some value) (at rows)
at-insert rows page n i value place =
    let len : length (pages_of rows) ≡ length rows = length-pages rows in
    fun_ext (λ k. insert_at_page rows page n i value k (omega arith) place.before)

pub length-run : {V : Type 0} (page n : ℕ) (value : V) → length (run page n value) ≡ n
length-run page zero value = refl
length-run page (suc n) value = length_push (run page n value) (page + n, value) ∙ omega (arith, length-run page n value)

pub page-run : {V : Type 0} (page n : ℕ) (value : V) (k : ℕ) → k < n → get_or (pages_of (run page n value)) k 0 ≡ page + k
page-run page zero value k less = absurd (omega arith)
page-run {V} page (suc n) value k less =
    let f = λ (r : ℕ × V). r.0 in
    let len : length (pages_of (run page n value)) ≡ n = length-pages (run page n value) ∙ length-run page n value in
    rw (map_push f (run page n value) (page + n, value))
    (⊎_elim
    (λ (h : k < n). get_or_append_left (pages_of (run page n value)) ((page + n) ∷ []) 0 k (omega arith) ∙ page-run page n value k h)
    (λ (h : n ≤ k). let e : k ≡ n = omega arith in rw e (get_or_push (pages_of (run page n value)) (page + n) 0 n len))
    (cases_lt k n))

pub pages-insert : {V : Type 0} (rows new : List (ℕ × V)) (i : ℕ) → pages_of (take i rows ++ (new ++ drop i rows)) ≡ take i (pages_of rows) ++ (pages_of new ++ drop i (pages_of rows))
pages-insert {V} rows new i =
    let f = λ (r : ℕ × V). r.0 in
    map-append f (take i rows) (new ++ drop i rows) ∙ rw (map-append f new (drop i rows), take-map f i rows, drop-map f i rows) refl

-- some row of a table that has one
a_row : {V : Type 0} (rows : List (ℕ × V)) → 0 < length rows → ℕ × V
a_row [] some = absurd (omega arith)
a_row (row ∷ rows) some = row

-- ---- pages by their place

module _ {V : Type 0} (rows : List (ℕ × V)) (ordered : IsOrdered (pages_of rows)) where
  -- the page isn't at its place, so it is nowhere
  pub nowhere : (page i : ℕ) → IsPlace (pages_of rows) page i → (IsThere (pages_of rows) page i → ⊥) → at rows page ≡ None
  nowhere page i place missing =
      let len : length (pages_of rows) ≡ length rows = length-pages rows in
      at_none rows page
      (λ j inside is.
      ⊎_elim
      (λ (h : j < i). let below : get_or (pages_of rows) j 0 < page = place.before j h in omega arith)
      (λ (h : i ≤ j).
      let le : get_or (pages_of rows) i 0 ≤ get_or (pages_of rows) j 0 = rises (pages_of rows) ordered i j h (omega arith) in
      let ge : page ≤ get_or (pages_of rows) i 0 = place.behind i (omega arith) (omega arith) in
      missing (omega arith, omega arith))
      (cases_lt j i))

  -- a page that is somewhere has a value
  pub somewhere : (i page : ℕ) → i < length rows → get_or (pages_of rows) i 0 ≡ page → (row : ℕ × V) → at rows page ≡ Some (get_or rows i row).1
  somewhere i page inside is row =
      let len : length (pages_of rows) ≡ length rows = length-pages rows in
      at_row rows page i row inside (λ j h. let less : get_or (pages_of rows) j 0 < get_or (pages_of rows) i 0 = ordered j i h (omega arith) in omega arith) is

  pub is_somewhere : (i page : ℕ) → i < length rows → get_or (pages_of rows) i 0 ≡ page → is_some (at rows page) ≡ true
  is_somewhere i page inside is = ap is_some (somewhere i page inside is (a_row rows (omega arith)))
