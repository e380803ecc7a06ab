-- What is told, and where it is put in.
use Rattle.std.proofs.Common.{◌≡◌, ℕ, ◌-◌, ◌<◌, ◌≤◌, ◌==◌, length, get_or, zero, suc, slice_get, Bool, true, false, if◌then◌else◌, List, [], ◌∷◌, ◌++◌, Option, Some, None, take, drop, map, filter, refl, sym, ap, subst, ◌∙◌, arith, append_assoc, append-nil}
use Rattle.std.proofs.lemmas.Bool.Decides.{nat_tests}
use Rattle.std.proofs.lemmas.List.{map-append, take-append-drop}
use Rattle.std.proofs.lemmas.List.Elements.{filter-append, All-nil, All-cons, All-head, All-tail}
use Rattle.std.specs.List.{All, cons_option}
use Rattle.gup_plain.specs.Note.{NoteValue}
use Rattle.gup_plain.specs.declared.note.What.{What}
use Rattle.gup_spec_journal.specs.Follows.{note_of, notes_of_turn}
use Rattle.gup_spec_orders.specs.Orders.{told_of, is_of, told_in, tells_of}
use Rattle.gup_search.specs.Search.{GoUp, Puts, Tells}
use Rattle.gup_spec_orders.specs.declared.told.Named.{Named}
use Rattle.gup_spec_orders.specs.declared.told.Tell.{Tell}
use Rattle.gup_spec_orders.specs.declared.told.Told.{Told}
use Rattle.gup_search.proofs.Lists.{nothing_at, same_some, get_at}

-- what a list tells and then another
pub tells_of-append : (xs ys : List Tell) (k : ℕ) → tells_of (xs ++ ys) k ≡ tells_of xs k ++ tells_of ys k
tells_of-append xs ys k =
    ap (λ (ts : List Tell). map (λ (tell : Tell). tell.told) ts) (filter-append (λ (tell : Tell). tell.name == k) xs ys)
    ∙ map-append (λ (tell : Tell). tell.told) (filter (λ (tell : Tell). tell.name == k) xs) (filter (λ (tell : Tell). tell.name == k) ys)

first_told : (b : Bool) (tell : Tell) (ys : List Tell) → map (λ (t : Tell). t.told) (if b then tell ∷ ys else ys) ≡ (if b then tell.told ∷ [] else []) ++ map (λ (t : Tell). t.told) ys
first_told true tell ys = refl
first_told false tell ys = refl

pub tells_of-cons : (tell : Tell) (ys : List Tell) (k : ℕ) → tells_of (tell ∷ ys) k ≡ (if tell.name == k then tell.told ∷ [] else []) ++ tells_of ys k
tells_of-cons tell ys k = first_told (tell.name == k) tell (filter (λ (t : Tell). t.name == k) ys)

differs : (k n : ℕ) → k < n → (n == k) ≡ false
differs k n less = grind (arith, nat_tests)

alike : (n k : ℕ) → (n == k) ≡ true → n ≡ k
alike n k same = grind (arith, nat_tests)

-- what is behind the place tells nothing of the operation
pub none_of : (name : ℕ) (ys : List Tell) → All (λ (tell : Tell). name < tell.name) ys → tells_of ys name ≡ []
none_of name [] all = refl
none_of name (tell ∷ ys) all =
    let here : name < tell.name = All-head (λ (t : Tell). name < t.name) tell ys all in
    let other : (tell.name == name) ≡ false = differs name tell.name here in
    tells_of-cons tell ys name
    ∙ ap (λ (b : Bool). (if b then tell.told ∷ [] else []) ++ tells_of ys name) other
    ∙ none_of name ys (All-tail (λ (t : Tell). name < t.name) tell ys all)

put_between : (b : Bool) (x : Told) (front back : List Told) → (b ≡ true → back ≡ []) → front ++ ((if b then x ∷ [] else []) ++ back) ≡ (front ++ back) ++ (if b then x ∷ [] else [])
put_between true x front back none =
    ap (λ (ts : List Told). front ++ (x ∷ ts)) (none refl)
    ∙ ap (λ (ts : List Told). ts ++ x ∷ []) (sym (append-nil front) ∙ ap (λ (ts : List Told). front ++ ts) (sym (none refl)))
put_between false x front back none = sym (append-nil (front ++ back))

-- put in there it comes last of its operation's
pub puts_at : (tells : List Tell) (at : ℕ) (tell : Tell) → All (λ (t : Tell). tell.name < t.name) (drop at tells) → Puts tells (take at tells ++ tell ∷ drop at tells) tell
puts_at tells at tell all k =
    let front = tells_of (take at tells) k in
    let back = tells_of (drop at tells) k in
    let none : (tell.name == k) ≡ true → back ≡ [] =
    λ same. subst (λ (n : ℕ). tells_of (drop at tells) n ≡ []) (alike tell.name k same) (none_of tell.name (drop at tells) all) in
    tells_of-append (take at tells) (tell ∷ drop at tells) k
    ∙ ap (λ (ts : List Told). front ++ ts) (tells_of-cons tell (drop at tells) k)
    ∙ put_between (tell.name == k) tell.told front back none
    ∙ ap (λ (ts : List Told). ts ++ (if tell.name == k then tell.told ∷ [] else [])) (sym (tells_of-append (take at tells) (drop at tells) k) ∙ ap (λ (ts : List Tell). tells_of ts k) (take-append-drop at tells))

-- ---- their order

raised : (from name end : ℕ) (tells : List Tell) → GoUp from end tells → All (λ (tell : Tell). name < tell.name) tells → GoUp name end tells
raised from name end [] h all = tt
raised from name end (tell ∷ tells) h all =
    let above : name < tell.name = All-head (λ (t : Tell). name < t.name) tell tells all in
    (omega arith, h.1, h.2)

-- put in there, the places go up as before
pub up_with : (from end at : ℕ) (tells : List Tell) (tell : Tell) → from ≤ tell.name → tell.name < end → All (λ (t : Tell). t.name ≤ tell.name) (take at tells) → All (λ (t : Tell). tell.name < t.name) (drop at tells) → GoUp from end tells → GoUp from end (take at tells ++ tell ∷ drop at tells)
up_with from end zero tells tell least below before behind h = (least, below, raised from tell.name end tells h behind)
up_with from end (suc at) [] tell least below before behind h = (least, below, tt)
up_with from end (suc at) (t ∷ tells) tell least below before behind h = (
  h.0,
  h.1,
  up_with t.name end at tells tell (All-head (λ (u : Tell). u.name ≤ tell.name) t (take at tells) before) below (All-tail (λ (u : Tell). u.name ≤ tell.name) t (take at tells) before) behind h.2,
)

from_on : (from end k : ℕ) (tells : List Tell) (t : Tell) → GoUp from end tells → slice_get tells k ≡ Some t → from ≤ t.name
from_on from end k [] t h at = absurd (nothing_at k t at)
from_on from end zero (u ∷ tells) t h at = subst (λ (v : Tell). from ≤ v.name) (same_some u t at) h.0
from_on from end (suc k) (u ∷ tells) t h at =
    let first : from ≤ u.name = h.0 in
    let rest : u.name ≤ t.name = from_on u.name end k tells t h.2 at in
    omega arith

-- up to a tell of an operation up to this one there are none of later ones
pub all_before : (from end k name : ℕ) (tells : List Tell) (t : Tell) → GoUp from end tells → slice_get tells k ≡ Some t → t.name ≤ name → All (λ (u : Tell). u.name ≤ name) (take (suc k) tells)
all_before from end k name [] t h at most = absurd (nothing_at k t at)
all_before from end zero name (u ∷ tells) t h at most =
    All-cons (λ (v : Tell). v.name ≤ name) u [] (subst (λ (v : Tell). v.name ≤ name) (sym (same_some u t at)) most) (All-nil (λ (v : Tell). v.name ≤ name))
all_before from end (suc k) name (u ∷ tells) t h at most =
    let first : u.name ≤ t.name = from_on u.name end k tells t h.2 at in
    All-cons (λ (v : Tell). v.name ≤ name) u (take (suc k) tells) (omega arith) (all_before u.name end k name tells t h.2 at most)

-- so it is at the last of these places
pub before_last : (from end at name : ℕ) (tells : List Tell) (d : Tell) → 0 < at → at ≤ length tells → (get_or tells (at - 1) d).name ≤ name → GoUp from end tells → All (λ (u : Tell). u.name ≤ name) (take at tells)
before_last from end at name tells d some within most h =
    subst (λ (n : ℕ). All (λ (u : Tell). u.name ≤ name) (take n tells)) (one_less at some)
    (all_before from end (at - 1) name tells (get_or tells (at - 1) d) h (get_at tells (at - 1) d (omega arith)) most)
  where
    one_less : (n : ℕ) → 0 < n → suc (n - 1) ≡ n
    one_less n some = omega arith

-- ---- notes

cons_option-append : (o : Option Told) (xs ys : List Told) → cons_option o (xs ++ ys) ≡ cons_option o xs ++ ys
cons_option-append None xs ys = refl
cons_option-append (Some x) xs ys = refl

pub told_in-append : (name : Named) (xs ys : List NoteValue) → told_in name (xs ++ ys) ≡ told_in name xs ++ told_in name ys
told_in-append name [] ys = refl
told_in-append name (note ∷ xs) ys =
    let told : Option Told = if is_of name note then told_of note.what else None in
    ap (λ (ts : List Told). cons_option told ts) (told_in-append name xs ys)
    ∙ cons_option-append told (told_in name xs) (told_in name ys)

-- the number of the turn is not told
pub told_in-number : (name : Named) (s t a op : ℕ) (whats : List What) → told_in name (notes_of_turn s a op whats) ≡ told_in name (notes_of_turn t a op whats)
told_in-number name s t a op [] = refl
told_in-number name s t a op (what ∷ whats) =
    ap (λ (ts : List Told). cons_option (if is_of name (note_of t a op what) then told_of what else None) ts) (told_in-number name s t a op whats)

-- ---- one after another

pub tells_none : (named : List Named) (tells : List Tell) → Tells named tells tells []
tells_none named tells k name there = sym (append-nil (tells_of tells k))

pub tells_more : (named : List Named) (old mid new : List Tell) (xs ys : List NoteValue) → Tells named old mid xs → Tells named mid new ys → Tells named old new (xs ++ ys)
tells_more named old mid new xs ys one two k name there =
    two k name there
    ∙ ap (λ (ts : List Told). ts ++ told_in name ys) (one k name there)
    ∙ append_assoc (tells_of old k) (told_in name xs) (told_in name ys)
    ∙ ap (λ (ts : List Told). tells_of old k ++ ts) (sym (told_in-append name xs ys))
