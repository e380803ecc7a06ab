-- A turn invalidates pages of its process alone, of which its operation may empty slots.
use Rattle.std.proofs.Common.{◌≡◌, ℕ, ◌+◌, ◌==◌, ◌<◌, ◌&&◌, not, Bool, true, false, length, Option, Some, None, IsSome, refl, sym, subst, ap, ◌∙◌, if◌then◌else◌, arith}
use Rattle.std.proofs.lemmas.Bool.Decides.{nat_tests}
use Rattle.gup_base.specs.declared.entry.Entry.{Entry}
use Rattle.gup_base.specs.declared.entry.Want.{Want}
use Rattle.gup_plain.specs.Denial.{any_unmapped}
use Rattle.gup_plain.specs.State.{Noted, Birth, failed}
use Rattle.gup_script.specs.Valid.{IsOp}
use Rattle.gup_script.specs.declared.op.Op.{Op}
use Rattle.gup_script.specs.declared.op.Op.TheVariants.{Unmap, Protect, Discard, Store, Pin, Move, Fork, Exit}
use Rattle.gup_spec_events.specs.State.{CoreState, Job, idle, moving, walking}
use Rattle.gup_spec_journal.specs.Place.{Place, Doer, birth_for}
use Rattle.gup_spec_journal.specs.Stale.{is_among, may_empty}
use Rattle.gup_spec_turns.specs.CoreTurn.{CoreTurn}
use Rattle.gup_spec_turns.specs.Emptying.{one_page, has_page, invalidate, left_in}
use Rattle.gup_spec_turns.specs.PageTurns.{lowest_page}
use Rattle.gup_spec_turns.specs.PinPlace.{IsWithin}
use Rattle.gup_spec_turns.specs.Turn.{op_turn, failed_turn, turn_at, turn_of, own_turn}
use Rattle.gup_law_turns.proofs.EmptiedSlots.{emptying_stale}
use Rattle.gup_law_turns.proofs.TurnShapes.{FitsOp}
use Rattle.gup_law_mirrors.specs.Invalidated.{page_if, changes_page, for_store, pinned_in, moved_in, shared_in, range_from, invalidated_in}
use Rattle.gup_law_mirrors.proofs.InvalidatingTurns.{invalidated_is}
use Rattle.gup_law_turns.proofs.TabledTurns.{fits_tabled}
use Rattle.gup_law_turns.proofs.TurnAsOwn.{as_own}

-- Does an operation of process p that may empty slots of a page?
abbrev pub empties_of : (p : ℕ) → Op → (q g : ℕ) → Bool
empties_of p op q g = (q == p) && may_empty op g

-- one of the pages from the first on
among : (p first n k q g : ℕ) → k < n → has_page (one_page p (first + k)) q g ≡ true → ((q == p) && is_among first n g) ≡ true
among p first n k q g less has = grind (arith, nat_tests, less, has)

-- a page of the process
of_process : (p n q g : ℕ) (page : Option ℕ) → has_page (range_from p n page) q g ≡ true → ((q == p) && true) ≡ true
of_process p n q g None has = absurd (cc has)
of_process p n q g (Some page) has = grind (arith, nat_tests, has)

-- the page itself, where it is so
where_so : (p page q g : ℕ) (is_so : Bool) → has_page (range_from p 1 (page_if is_so page)) q g ≡ true → has_page (one_page p page) q g ≡ true
where_so p page q g true has = has
where_so p page q g false has = absurd (cc has)

this_page : (p page q g : ℕ) → has_page (one_page p page) q g ≡ true → ((q == p) && (page == g)) ≡ true
this_page p page q g has = grind (arith, nat_tests, has)

these_pages : (p page n q g : ℕ) (lacks : Bool) → has_page (range_from p n (page_if (not lacks) page)) q g ≡ true → ((q == p) && is_among page n g) ≡ true
these_pages p page n q g true has = absurd (cc has)
these_pages p page n q g false has = grind (arith, nat_tests, has)

pinned_among : (s : CoreState) (p page n got q g : ℕ) (want : Want) (begins : Bool) (job : Job) → IsWithin n got job → has_page (range_from p 1 (pinned_in s p (page + got) want begins job)) q g ≡ true → ((q == p) && is_among page n g) ≡ true
pinned_among s p page n got q g want begins (moving r h e allowed count) within has = absurd (cc has)
pinned_among s p page n got q g want begins (walking r write long sequence step) within has = absurd (cc has)
pinned_among s p page n got q g want begins job within has =
    among p page n got q g within (where_so p (page + got) q g (not begins && changes_page s p (page + got) want) has)

moved_page : (p page q g : ℕ) (job : Job) → has_page (range_from p 1 (moved_in page job)) q g ≡ true → ((q == p) && (page == g)) ≡ true
moved_page p page q g idle has = this_page p page q g has
moved_page p page q g job has = absurd (cc has)

-- the pages of a turn are such ones
are_emptied : (s : CoreState) (who : Doer) (place : Place) (op : Op) (q g : ℕ) → FitsOp s who op place → has_page (invalidated_in s who.actor who.proc place.far op) q g ≡ true → empties_of who.proc op q g ≡ true
are_emptied s who place (Unmap page n) q g fits has = among who.proc page n place.far q g fits.1 has
are_emptied s who place (Discard page n) q g fits has = among who.proc page n place.far q g fits.1 has
are_emptied s who place (Protect page n rights) q g fits has = these_pages who.proc page n q g (any_unmapped (s.right who.proc) page n) has
are_emptied s who place (Store page word value) q g fits has =
    this_page who.proc page q g (where_so who.proc page q g (changes_page s who.proc page for_store) has)
are_emptied s who place (Pin handle page n want fast) q g fits has =
    pinned_among s who.proc page n (length (s.taken who.actor)) q g want (fast && place.far == 0) (s.job who.actor) fits.within has
are_emptied s who place (Move proc page zone) q g fits has = moved_page who.proc page q g (s.job who.actor) has
are_emptied s who place (Fork child) q g fits has = of_process who.proc 1 q g (shared_in s child (s.job who.actor)) has
are_emptied s who place Exit q g fits has = of_process who.proc 1 q g (lowest_page (s.right who.proc)) has
are_emptied s who place op q g fits has = absurd (cc has)

module _ (s : CoreState) (who : Doer) (place : Place) (op : Op) (valid : IsOp op) (fits : FitsOp s who op place) (maps : (page : ℕ) (e : Entry) → s.entry who.proc page ≡ Some e → IsSome (s.right who.proc page)) where
  -- so it invalidates no other page that has an entry
  born_spares : (q g : ℕ) → IsSome (s.entry q g) → empties_of who.proc op q g ≡ false → invalidate (op_turn s who.actor who.proc who.slots place.far op).events q g ≡ false
  born_spares q g some spared =
      invalidated_is s who.actor who.proc who.slots place.far op valid maps q g some
      ∙ go (has_page (invalidated_in s who.actor who.proc place.far op) q g) refl
    where
      go : (has : Bool) → has_page (invalidated_in s who.actor who.proc place.far op) q g ≡ has → has ≡ false
      go true is = absurd (let emptied = are_emptied s who place op q g fits is in cc)
      go false is = refl

  -- and that of a failed process none
  failed_spares : (o : Op) (q g : ℕ) → invalidate (failed_turn who.actor who.proc o).events q g ≡ false
  failed_spares (Fork child) q g = refl
  failed_spares o q g = refl

  either_spares : (birth : Birth) (q g : ℕ) → IsSome (s.entry q g) → empties_of who.proc op q g ≡ false → invalidate (turn_at birth (failed_turn who.actor who.proc op) (op_turn s who.actor who.proc who.slots place.far op)).events q g ≡ false
  either_spares failed q g some spared = failed_spares op q g
  either_spares birth q g some spared = born_spares q g some spared

  -- so a slot of another page stays filled
  own_spares : (f : ℕ) (noted : Noted) → IsSome (s.entry noted.proc noted.page) → empties_of who.proc op noted.proc noted.page ≡ false → left_in (own_turn s who place.far op).events (Some f) (Some noted) ≡ Some f
  own_spares f noted some spared =
      let birth : Birth = birth_for s.birth who in
      let turn : CoreTurn = turn_at birth (failed_turn who.actor who.proc op) (op_turn s who.actor who.proc who.slots place.far op) in
      emptying_stale s who.actor turn (Some f) (Some noted)
      ∙ ap (λ (stale : Bool). if stale then None else Some f) (either_spares birth noted.proc noted.page some spared)

-- whatever page tables there are
pub spares : (s : CoreState) (who : Doer) (place : Place) (op : Op) → IsOp op → FitsOp s who op place → ((page : ℕ) (e : Entry) → s.entry who.proc page ≡ Some e → IsSome (s.right who.proc page)) → (f : ℕ) (noted : Noted) → IsSome (s.entry noted.proc noted.page) → empties_of who.proc op noted.proc noted.page ≡ false → left_in (turn_of s who place.far op).events (Some f) (Some noted) ≡ Some f
spares s who place op valid fits maps f noted some spared =
    let own = as_own s who place.far op in
    let t : CoreState = own.state in
    own.left (Some f) (Some noted)
    ∙ own_spares t who place op valid (fits_tabled s t own.before who (Some op) place fits)
    (subst (λ (x : CoreState). (page : ℕ) (e : Entry) → x.entry who.proc page ≡ Some e → IsSome (x.right who.proc page)) (sym own.before) maps)
    f noted (subst (λ (x : CoreState). IsSome (x.entry noted.proc noted.page)) (sym own.before) some) spared
