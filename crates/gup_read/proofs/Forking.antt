-- The forks, pins and gets of a script: what they name is declared, no two forks bring one child, and no two pins or gets make
-- one handle. This stays so while lines add processes, actors, handles, mirror slots and operations.
use Rattle.std.proofs.Common.{◌≡◌, ◌⊎◌, ◌==◌, ℕ, ◌<◌, ◌≤◌, zero, suc, true, false, List, [], ◌∷◌, ◌++◌, length, slice_get, All, Option, Some, None, refl, sym, ap, subst, ◌∙◌, inl, inr, arith}
use Rattle.std.specs.List.{AllByRecursion, list_any}
use Rattle.std.proofs.lemmas.Bool.{not-true}
use Rattle.std.proofs.lemmas.List.{length-append}
use Rattle.std.proofs.lemmas.Bool.Decides.{Decides-eqb}
use Rattle.gup_script.specs.declared.op.Op.{Op}
use Rattle.gup_script.specs.declared.op.Op.TheVariants.{Map, Unmap, Protect, Discard, Load, Store, Pin, Unpin, Give, Take, Get, Put, Transfer, Mirror, Look, Move, Fork, Exit}
use Rattle.gup_script.specs.Script.{ScriptValue, Process, Actor, ops_in}
use Rattle.gup_script.specs.Valid.{IsChild, AreDeclared, made_by}
use Rattle.gup_spec_grammar.specs.Outline.{with_op, is_child_at, forks_child}
use Rattle.gup_read.proofs.Lists.{each_like, all_at, none_passes}

-- ---- children that are declared

pub child_is : (o : Option Process) → is_child_at o ≡ true → IsChild o
child_is None e = absurd cc
child_is (Some process) e = not-true process.born e

-- processes keep their numbers when more are declared
child_stays : (xs ys : List Process) (p : ℕ) → IsChild (slice_get xs p) → IsChild (slice_get (xs ++ ys) p)
child_stays [] ys p h = absurd h
child_stays (x ∷ xs) ys zero h = h
child_stays (x ∷ xs) ys (suc p) h = child_stays xs ys p h

-- what an operation names stays declared when more is
still_declared : (s t : ScriptValue) (more : List Process) → t.processes ≡ s.processes ++ more → length s.handles ≤ length t.handles → length s.mirrors ≤ length t.mirrors → length s.actors ≤ length t.actors → (op : Op) → AreDeclared s op → AreDeclared t op
still_declared s t more e handles mirrors actors (Fork child) h = rw e (child_stays s.processes more child h)
still_declared s t more e handles mirrors actors (Pin handle page n want fast) h = omega arith
still_declared s t more e handles mirrors actors (Unpin handle) h = omega arith
still_declared s t more e handles mirrors actors (Give handle to) h = (omega (arith, h.0), omega (arith, h.1))
still_declared s t more e handles mirrors actors (Take handle) h = omega arith
still_declared s t more e handles mirrors actors (Transfer handle outward slot parts) h = omega arith
still_declared s t more e handles mirrors actors (Map page n rights) h = tt
still_declared s t more e handles mirrors actors (Unmap page n) h = tt
still_declared s t more e handles mirrors actors (Protect page n rights) h = tt
still_declared s t more e handles mirrors actors (Discard page n) h = tt
still_declared s t more e handles mirrors actors (Load page word) h = tt
still_declared s t more e handles mirrors actors (Store page word value) h = tt
still_declared s t more e handles mirrors actors Exit h = tt
still_declared s t more e handles mirrors actors (Get handle page) h = omega arith
still_declared s t more e handles mirrors actors (Put handle) h = omega arith
still_declared s t more e handles mirrors actors (Mirror mirror proc page) h = (omega (arith, h.0), rw e (omega (arith, h.1, length-append s.processes more)))
still_declared s t more e handles mirrors actors (Look mirror word) h = omega arith
still_declared s t more e handles mirrors actors (Move proc page zone) h = rw e (omega (arith, h, length-append s.processes more))

pub declared_stay : (s t : ScriptValue) (more : List Process) → t.processes ≡ s.processes ++ more → length s.handles ≤ length t.handles → length s.mirrors ≤ length t.mirrors → length s.actors ≤ length t.actors → (all : List Actor) → AllByRecursion (λ (a : Actor). All (AreDeclared s) a.ops) all → AllByRecursion (λ (a : Actor). All (AreDeclared t) a.ops) all
declared_stay s t more e handles mirrors actors all h =
    each_like (λ (a : Actor). All (AreDeclared s) a.ops) (λ (a : Actor). All (AreDeclared t) a.ops) all (λ a each k d lt. still_declared s t more e handles mirrors actors _ (each k d lt)) h

-- ---- operations by their places

-- the actor's operation at this place is this one
abbrev pub OpAt : List Actor → (a k : ℕ) → Op → Type 0
OpAt actors a k op = slice_get (ops_in (slice_get actors a)) k ≡ Some op

-- the operation is a fork that brings this child, or makes this handle
abbrev pub IsForkOf : Op → (child : ℕ) → Type 0
IsForkOf op child = op ≡ Fork child

abbrev pub IsMaking : Op → (handle : ℕ) → Type 0
IsMaking op handle = made_by op ≡ Some handle

-- the actor's operation at this place brings, or makes, what has this number
abbrev pub At : (Op → ℕ → Type 0) → List Actor → (a k number : ℕ) → Type 0
At Brings actors a k number = (op : Op) × OpAt actors a k op × Brings op number

-- no two operations bring one thing
abbrev pub AreOnce : (Op → ℕ → Type 0) → List Actor → Type 0
AreOnce Brings actors = (a b j k number : ℕ) → At Brings actors a j number → At Brings actors b k number → (a ≡ b) × (j ≡ k)

-- the operation doesn't bring what another does
abbrev pub IsFresh : (Op → ℕ → Type 0) → List Actor → Op → Type 0
IsFresh Brings actors op = (a k number : ℕ) → Brings op number → At Brings actors a k number → ⊥

-- an operation after one more actor, which has none, was there before
before_actor : (actors : List Actor) (actor : Actor) → actor.ops ≡ [] → (a k : ℕ) (op : Op) → OpAt (actors ++ actor ∷ []) a k op → OpAt actors a k op
before_actor [] actor none zero k op e =
    let gone : slice_get [] k ≡ Some op = subst (λ (ops : List Op). slice_get ops k ≡ Some op) none e in
    absurd cc
before_actor [] actor none (suc a) k op e = e
before_actor (x ∷ actors) actor none zero k op e = e
before_actor (x ∷ actors) actor none (suc a) k op e = before_actor actors actor none a k op e

before_actor_at : (Brings : Op → ℕ → Type 0) (actors : List Actor) (actor : Actor) → actor.ops ≡ [] → (a k number : ℕ) → At Brings (actors ++ actor ∷ []) a k number → At Brings actors a k number
before_actor_at Brings actors actor none a k number e = (e.0, before_actor actors actor none a k e.0 e.1, e.2)

pub actor_once : (Brings : Op → ℕ → Type 0) (actors : List Actor) (actor : Actor) → actor.ops ≡ [] → AreOnce Brings actors → AreOnce Brings (actors ++ actor ∷ [])
actor_once Brings actors actor none h a b j k number e f =
    h a b j k number (before_actor_at Brings actors actor none a j number e) (before_actor_at Brings actors actor none b k number f)

-- an operation after one more of an actor was there before, or is this one, at the end of the actor's
at_end : (ops : List Op) (new : Op) (k : ℕ) (op : Op) → slice_get (ops ++ new ∷ []) k ≡ Some op → (slice_get ops k ≡ Some op) ⊎ ((k ≡ length ops) × (op ≡ new))
at_end [] new zero op e = inr (refl, cc)
at_end [] new (suc k) op e = absurd cc
at_end (x ∷ ops) new zero op e = inl e
at_end (x ∷ ops) new (suc k) op e =
    elim (at_end ops new k op e) [ inl old ↦ inl old | inr here ↦ inr (ap (λ n. suc n) here.0, here.1) ]

before_op : (actors : List Actor) (b : ℕ) (new : Op) (a k : ℕ) (op : Op) → OpAt (with_op b new actors) a k op → OpAt actors a k op ⊎ ((a ≡ b) × (k ≡ length (ops_in (slice_get actors b))) × (op ≡ new))
before_op [] b new a k op e = inl e
before_op (x ∷ actors) zero new zero k op e =
    elim (at_end x.ops new k op e) [ inl old ↦ inl old | inr here ↦ inr (refl, here.0, here.1) ]
before_op (x ∷ actors) zero new (suc a) k op e = inl e
before_op (x ∷ actors) (suc b) new zero k op e = inl e
before_op (x ∷ actors) (suc b) new (suc a) k op e =
    elim (before_op actors b new a k op e) [ inl old ↦ inl old | inr here ↦ inr (ap (λ n. suc n) here.0, here.1, here.2) ]

-- and so did what it brings
abbrev IsNew : (Op → ℕ → Type 0) → List Actor → (c : ℕ) → Op → (a k number : ℕ) → Type 0
IsNew Brings actors c new a k number = (a ≡ c) × (k ≡ length (ops_in (slice_get actors c))) × Brings new number

before_op_at : (Brings : Op → ℕ → Type 0) (actors : List Actor) (c : ℕ) (new : Op) (a k number : ℕ) → At Brings (with_op c new actors) a k number → At Brings actors a k number ⊎ IsNew Brings actors c new a k number
before_op_at Brings actors c new a k number e =
    elim (before_op actors c new a k e.0 e.1) [
      | inl old ↦ inl (e.0, old, e.2)
      | inr here ↦ inr (here.0, here.1, subst (λ (op : Op). Brings op number) here.2 e.2)
    ]

pub op_once : (Brings : Op → ℕ → Type 0) (actors : List Actor) (c : ℕ) (new : Op) → IsFresh Brings actors new → AreOnce Brings actors → AreOnce Brings (with_op c new actors)
op_once Brings actors c new fresh h a b j k number e f =
    way (before_op_at Brings actors c new a j number e) (before_op_at Brings actors c new b k number f)
  where
    way : At Brings actors a j number ⊎ IsNew Brings actors c new a j number → At Brings actors b k number ⊎ IsNew Brings actors c new b k number → (a ≡ b) × (j ≡ k)
    way (inl x) (inl y) = h a b j k number x y
    way (inl x) (inr y) = absurd (fresh a j number y.2 x)
    way (inr x) (inl y) = absurd (fresh b k number x.2 y)
    way (inr x) (inr y) = (x.0 ∙ sym y.0, x.1 ∙ sym y.1)

pub fork_makes_none : (op : Op) (child handle : ℕ) → IsForkOf op child → IsMaking op handle → ⊥
fork_makes_none op child handle f made = let none = ap made_by f in cc (none, made)

-- what is true of each operation is true of one at its place
op_is : (P : Op → Type 0) (actors : List Actor) → AllByRecursion (λ (a : Actor). All P a.ops) actors → (a k : ℕ) (op : Op) → OpAt actors a k op → P op
op_is P [] h a k op e = absurd cc
op_is P (actor ∷ actors) h zero k op e = all_at P actor.ops k op e h.0
op_is P (actor ∷ actors) h (suc a) k op e = op_is P actors h.1 a k op e

-- the handle of a pin or a reference is declared

op_declared : (s : ScriptValue) (handle : ℕ) (op : Op) → made_by op ≡ Some handle → AreDeclared s op → handle < length s.handles
op_declared s handle (Pin h page n want fast) is there = let same : h ≡ handle = cc in subst (λ (k : ℕ). k < length s.handles) same there
op_declared s handle (Get h page) is there = let same : h ≡ handle = cc in subst (λ (k : ℕ). k < length s.handles) same there
op_declared s handle op is there = absurd (cc is)

pub made_below : (s : ScriptValue) → AllByRecursion (λ (a : Actor). All (AreDeclared s) a.ops) s.actors → (a k handle : ℕ) → At IsMaking s.actors a k handle → handle < length s.handles
made_below s h a k handle p = op_declared s handle p.0 p.2 (op_is (AreDeclared s) s.actors h a k p.0 p.1)

-- ---- a child that no fork brings so far

pub unforked : (actors : List Actor) (p a k : ℕ) → list_any (λ (x : Actor). list_any (forks_child p) x.ops) actors ≡ false → OpAt actors a k (Fork p) → ⊥
unforked actors p a k none e = way (slice_get actors a) refl e where
  way : (o : Option Actor) → slice_get actors a ≡ o → slice_get (ops_in o) k ≡ Some (Fork p) → ⊥
  way None is at = absurd cc
  way (Some actor) is at =
      let here = none_passes (λ (x : Actor). list_any (forks_child p) x.ops) actors a actor none is in
      let differs : (p == p) ≡ false = none_passes (forks_child p) actor.ops k (Fork p) here at in
      absurd (cc (differs, (Decides-eqb p p).1 refl))
