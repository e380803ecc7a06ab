-- What one more operation leaves as it is: the actors' kinds, and which children are not brought by a fork.
use Rattle.std.proofs.Common.{◌≡◌, ◌||◌, Bool, true, false, List, [], ◌∷◌, ◌++◌, ℕ, zero, suc, ◌≤◌, length, map, slice_get, Some, refl, ap, arith}
use Rattle.std.specs.List.{list_any}
use Rattle.gup_script.specs.declared.op.Kind.{Kind}
use Rattle.gup_script.specs.declared.op.Op.{Op}
use Rattle.gup_script.specs.Script.{Actor}
use Rattle.gup_spec_grammar.specs.Outline.{with_op, forks_child}
use Rattle.gup_spec_grammar.specs.Said.{op_words, op_words_of}

abbrev pub kinds_of : List Actor → List Kind
kinds_of actors = map (λ (a : Actor). a.kind) actors

pub same_kinds : (k : ℕ) (op : Op) (actors : List Actor) → kinds_of (with_op k op actors) ≡ kinds_of actors
same_kinds k op [] = refl
same_kinds zero op (a ∷ actors) = refl
same_kinds (suc k) op (a ∷ actors) = ap (λ (kinds : List Kind). a.kind ∷ kinds) (same_kinds k op actors)

-- the words of an actor's operations, by its kind
pub words_of_kind : (actors : List Actor) (k : ℕ) (kind : Kind) → slice_get (kinds_of actors) k ≡ Some kind → op_words_of (slice_get actors k) ≡ op_words kind
words_of_kind [] k kind e = absurd cc
words_of_kind (a ∷ actors) zero kind e = let same : a.kind ≡ kind = cc in ap op_words same
words_of_kind (a ∷ actors) (suc k) kind e = words_of_kind actors k kind e

pub some_actors : (actors : List Actor) (kind : Kind) → slice_get (kinds_of actors) 0 ≡ Some kind → 1 ≤ length actors
some_actors [] kind e = absurd cc
some_actors (a ∷ actors) kind e = omega arith

abbrev pub forks_in : ℕ → List Actor → Bool
forks_in p actors = list_any (λ (a : Actor). list_any (forks_child p) a.ops) actors

neither : (a b : Bool) → (a || b) ≡ false → (a ≡ false) × (b ≡ false)
neither true b e = absurd cc
neither false b e = (refl, e)

none_pushed : (p : ℕ) (ops : List Op) (op : Op) → list_any (forks_child p) ops ≡ false → forks_child p op ≡ false → list_any (forks_child p) (ops ++ op ∷ []) ≡ false
none_pushed p [] op none last = rw last refl
none_pushed p (first ∷ ops) op none last =
    let h = neither (forks_child p first) (list_any (forks_child p) ops) none in
    rw h.0 (none_pushed p ops op h.1 last)

-- an operation that brings no such child leaves it to be brought
pub still_unforked : (p k : ℕ) (op : Op) (actors : List Actor) → forks_in p actors ≡ false → forks_child p op ≡ false → forks_in p (with_op k op actors) ≡ false
still_unforked p k op [] none last = refl
still_unforked p zero op (a ∷ actors) none last =
    let h = neither (list_any (forks_child p) a.ops) (forks_in p actors) none in
    rw (none_pushed p a.ops op h.0 last) h.1
still_unforked p (suc k) op (a ∷ actors) none last =
    let h = neither (list_any (forks_child p) a.ops) (forks_in p actors) none in
    rw h.0 (still_unforked p k op actors h.1 last)
