-- Which pages lists of events invalidate, of those that have an entry; and faults, whose events do.
use Rattle.std.proofs.Common.{◌≡◌, ℕ, ◌==◌, ◌&&◌, ◌||◌, not, Bool, true, false, cond, List, [], ◌∷◌, ◌++◌, Option, Some, None, IsSome, is_some, Ok, Err, refl, sym, ap, ◌∙◌, if◌then◌else◌, arith}
use Rattle.std.proofs.Math.Bool.{or-false}
use Rattle.std.proofs.lemmas.Bool.Decides.{nat_tests}
use Rattle.gup_base.specs.declared.entry.Allowed.TheVariants.{Any}
use Rattle.gup_base.specs.declared.entry.Entry.{Entry}
use Rattle.gup_base.specs.declared.entry.Rights.{Rights}
use Rattle.gup_base.specs.declared.entry.Rights.TheVariants.{R, RW}
use Rattle.gup_plain.specs.Denial.{store_denial}
use Rattle.gup_spec_events.specs.State.{CoreState}
use Rattle.gup_spec_events.specs.Event.{CoreEvent, upgrade}
use Rattle.gup_spec_events.specs.Fault.{Fault, events_of, fills, fills_writable, breaks, marks, read_fault, makes_writable, write_fault, gives_back}
use Rattle.gup_spec_turns.specs.CoreTurn.{CoreTurn, after_fault, allows_store, frame_for}
use Rattle.gup_spec_turns.specs.PageTurns.{load_fault, store_fault}
use Rattle.gup_spec_turns.specs.Emptying.{PageRange, one_page, has_page, invalidated_by, invalidate}
use Rattle.gup_law_mirrors.specs.Invalidated.{page_if, copies, changes_in, range_from}

-- the events invalidate these pages, and no others that have an entry
abbrev pub Invalidates : CoreState → List CoreEvent → Option PageRange → Type 0
Invalidates s es range = (q g : ℕ) → IsSome (s.entry q g) → invalidate es q g ≡ has_page range q g

or_row : (x y z : Bool) → (x || (y || z)) ≡ ((x || y) || z)
or_row true y z = refl
or_row false y z = refl

-- events after others
pub behind : (es fs : List CoreEvent) (q g : ℕ) → invalidate (es ++ fs) q g ≡ (invalidate es q g || invalidate fs q g)
behind [] fs q g = refl
behind (e ∷ es) fs q g =
    ap (λ b. has_page (invalidated_by e) q g || b) (behind es fs q g) ∙ or_row (has_page (invalidated_by e) q g) (invalidate es q g) (invalidate fs q g)

-- a page without an entry isn't one that has one
pub absent : (s : CoreState) (p page : ℕ) → s.entry p page ≡ None → (q g : ℕ) → IsSome (s.entry q g) → has_page (one_page p page) q g ≡ false
absent s p page none q g some = go (has_page (one_page p page) q g) refl
  where
    go : (has : Bool) → has_page (one_page p page) q g ≡ has → has ≡ false
    go false is = refl
    go true is =
        let proc : p ≡ q = grind (arith, nat_tests, is) in
        let here : page ≡ g = grind (arith, nat_tests, is) in
        let missing : s.entry q g ≡ None = ap (λ (k : ℕ). s.entry k g) (sym proc) ∙ ap (s.entry p) (sym here) ∙ none in
        absurd (let never : false ≡ true = sym (ap is_some missing) ∙ some in cc)

module _ (s : CoreState) where
  -- with events behind that invalidate none
  pub tailed : (es fs : List CoreEvent) (range : Option PageRange) → Invalidates s es range → Invalidates s fs None → Invalidates s (es ++ fs) range
  tailed es fs range is none q g some =
      behind es fs q g
      ∙ ap (λ b. b || invalidate fs q g) (is q g some)
      ∙ ap (λ b. has_page range q g || b) (none q g some)
      ∙ or-false (has_page range q g)

  -- before them
  pub headed : (es fs : List CoreEvent) (range : Option PageRange) → Invalidates s es None → Invalidates s fs range → Invalidates s (es ++ fs) range
  headed es fs range none is q g some = behind es fs q g ∙ ap (λ b. b || invalidate fs q g) (none q g some) ∙ is q g some

  -- ---- faults

  -- the turn after a fault invalidates what the fault does
  pub faulted : (fault : Fault) (turn : List CoreEvent → CoreTurn) (range : Option PageRange) → ((before : List CoreEvent) → Invalidates s before range → Invalidates s (turn before).events range) → Invalidates s (events_of fault) range → Invalidates s (after_fault fault turn).events range
  faulted (Ok before) turn range more is = more before is
  faulted (Err answer) turn range more is = is

  given_back : (a : ℕ) (entry : Option Entry) → Invalidates s (gives_back a entry) None
  given_back a None q g some = refl
  given_back a (Some e) q g some = refl

  -- an event of one page, and the reference of its entry is given back
  pub goes : (a p page : ℕ) (entry : Option Entry) (event : CoreEvent) → invalidated_by event ≡ one_page p page → Invalidates s (event ∷ gives_back a entry) (one_page p page)
  goes a p page entry event is q g some =
      ap (λ (range : Option PageRange). has_page range q g || invalidate (gives_back a entry) q g) is
      ∙ ap (λ b. has_page (one_page p page) q g || b) (given_back a entry q g some)
      ∙ or-false (has_page (one_page p page) q g)

  module _ (a p page : ℕ) where
    filled : (free : Option ℕ) → Invalidates s (events_of (fills a p page free)) None
    filled None q g some = refl
    filled (Some f) q g some = refl

    filled_writable : (free : Option ℕ) → Invalidates s (events_of (fills_writable a p page free)) None
    filled_writable None q g some = refl
    filled_writable (Some f) q g some = refl

    read_none : (right : Option Rights) (free : Option ℕ) → Invalidates s (events_of (read_fault a p page right None free)) None
    read_none None free q g some = refl
    read_none (Some rights) free q g some = filled free q g some

    pub load_none : (entry : Option Entry) → Invalidates s (events_of (load_fault s a p page entry)) None
    load_none None q g some = read_none (s.right p page) (frame_for s p page Any) q g some
    load_none (Some e) q g some = refl

    broken : (e : Entry) (writable : Bool) (free : Option ℕ) → Invalidates s (events_of (breaks a p page e writable free)) (range_from p 1 (page_if (is_some free) page))
    broken e writable None q g some = refl
    broken e writable (Some f) q g some = or-false (has_page (one_page p page) q g)

    -- a page of a store, whose entry is copied where that is so
    makes : (e : Entry) (mark : Bool) (count : ℕ) (free : Option ℕ) → Invalidates s (events_of (makes_writable a p page e mark count free)) (range_from p 1 (page_if (cond (not mark && not (count == 1)) (is_some free) false) page))
    makes e true count free = λ q g some. refl
    makes e false count free = by_count (count == 1)
      where
        by_count : (alone : Bool) → Invalidates s (events_of (if alone then Ok (marks a p page e ++ upgrade a p page e.frame ∷ []) else breaks a p page e true free)) (range_from p 1 (page_if (cond (not alone) (is_some free) false) page))
        by_count true q g some = refl
        by_count false q g some = broken e true free q g some

    write_changes : (right : Option Rights) (entry : Option Entry) (free : Option ℕ) → Invalidates s (events_of (write_fault a p page right entry s.mark s.count free)) (range_from p 1 (page_if (changes_in (store_denial right) entry (λ e. cond (copies true e (s.mark e.frame) (s.count e.frame)) (is_some free) false)) page))
    write_changes None entry free = λ q g some. refl
    write_changes (Some R) entry free = λ q g some. refl
    write_changes (Some RW) None free = filled_writable free
    write_changes (Some RW) (Some e) free = by_entry e.writable
      where
        by_entry : (writable : Bool) → Invalidates s (events_of (if writable then Ok [] else makes_writable a p page e (s.mark e.frame) (s.count e.frame) free)) (range_from p 1 (page_if (cond (not writable && (not (s.mark e.frame) && not (s.count e.frame == 1))) (is_some free) false) page))
        by_entry true q g some = refl
        by_entry false q g some = makes e (s.mark e.frame) (s.count e.frame) free q g some

    -- an entry that allows the store needs no fault
    no_fault : (writable : Bool) (fault : Fault) → events_of fault ≡ [] → events_of (if writable then Ok [] else fault) ≡ events_of fault
    no_fault true fault none = sym none
    no_fault false fault none = refl

    same_events : (right : Option Rights) (entry : Option Entry) (free : Option ℕ) → events_of (if allows_store entry then Ok [] else write_fault a p page right entry s.mark s.count free) ≡ events_of (write_fault a p page right entry s.mark s.count free)
    same_events right None free = refl
    same_events None (Some e) free = no_fault e.writable (write_fault a p page None (Some e) s.mark s.count free) refl
    same_events (Some R) (Some e) free = no_fault e.writable (write_fault a p page (Some R) (Some e) s.mark s.count free) refl
    same_events (Some RW) (Some e) free = by_entry e.writable (makes_writable a p page e (s.mark e.frame) (s.count e.frame) free)
      where
        by_entry : (writable : Bool) (fault : Fault) → events_of (if writable then Ok [] else (if writable then Ok [] else fault)) ≡ events_of (if writable then Ok [] else fault)
        by_entry true fault = refl
        by_entry false fault = refl

    pub store_changes : (entry : Option Entry) → Invalidates s (events_of (store_fault s a p page entry)) (range_from p 1 (page_if (changes_in (store_denial (s.right p page)) entry (λ e. cond (copies true e (s.mark e.frame) (s.count e.frame)) (is_some (frame_for s p page Any)) false)) page))
    store_changes entry q g some =
        ap (λ (es : List CoreEvent). invalidate es q g) (same_events (s.right p page) entry (frame_for s p page Any)) ∙ write_changes (s.right p page) entry (frame_for s p page Any) q g some
