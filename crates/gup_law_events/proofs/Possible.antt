-- A run of core events that can happen, so that the laws speak of something. Its parts are shown to happen whatever tables there
-- are, if the page has four: so no part has to say where each table stands.
use Rattle.std.proofs.Common.{◌≡◌, ℕ, ◌+◌, ◌<◌, ◌≤◌, nat_lt, Bool, true, false, [], ◌∷◌, ◌++◌, inl, inr, refl, ap, sym, subst, ◌∙◌, arith}
use Rattle.std.specs.Prelude.{Option, Some, None, IsSome, Contains}
use Rattle.std.proofs.lemmas.Bool.Decides.{nat_tests}
use Rattle.gup_base.specs.declared.entry.Entry.{Entry}
use Rattle.gup_base.specs.declared.entry.Rights.TheVariants.{RW}
use Rattle.gup_plain.specs.Put.{put, spread}
use Rattle.gup_plain.specs.Event.{page_numbers}
use Rattle.gup_spec_tables.specs.declared.place.Place.{Place}
use Rattle.gup_spec_tables.specs.Tables.{table_numbers, detachable}
use Rattle.gup_spec_events.specs.Event.{entry_of, run, tree_in}
use Rattle.std.proofs.lemmas.List.Elements.{All-nil}
use Rattle.gup_law_base.proofs.Holders.{no_element, first_element}
use Rattle.gup_spec_events.specs.State.{CoreState, core_start}
use Rattle.gup_spec_events.specs.Invariant.{AllCan}
use Rattle.gup_spec_events.proofs.Runs.{can_behind}
use Rattle.gup_law_tables.proofs.TableRuns.{first_stand}
use Rattle.gup_law_tables.proofs.FourTables.{with_tables, bare_lacks, same_lacks, tables_there, HasFour, four_can, lowest_detachable}
use Rattle.gup_law_events.proofs.FullPaths.{ReadsDown, reads}
use Rattle.gup_law_events.specs.Possible.{first_born, maps_one, adds_four, pins_one, shares_one, fails_one, one_run}

few_pages : 7 + 1 ≤ page_numbers
unfolding page_numbers
few_pages = omega arith

few_tables : 12 ≤ table_numbers
unfolding table_numbers
few_tables = omega arith

free_first : (table : ℕ) → table < 12 → nat_lt table 12 ≡ true
free_first table few = grind (arith, nat_tests)

-- the state when the page is mapped, and, with whatever tables, those after the next two parts
abbrev start : CoreState
start = core_start 2 8 12 true first_born

abbrev mapped : CoreState
mapped = run start maps_one

abbrev pinned : (place : ℕ → ℕ → Option Place) (free : ℕ → Bool) → CoreState
pinned place free = run (with_tables mapped place free) pins_one

abbrev shared : (place1 place2 : ℕ → ℕ → Option Place) (free1 free2 : ℕ → Bool) → CoreState
shared place1 place2 free1 free2 = run (with_tables (pinned place1 free1) place2 free2) shares_one

-- the slot that was filled is empty
emptied : (m : ℕ) → IsSome {T = ℕ} (put 0 None (put 0 (Some 3) (λ _. None)) m) → ⊥
emptied m is = grind (arith, nat_tests)

-- the one page is mapped, and done
one_page : (k : ℕ) → k < 1 → IsSome (spread 7 1 (λ _. Some RW) (λ _. None) (7 + k))
one_page k inside = grind (arith, nat_tests)

all_done : (page : ℕ) → IsSome (spread 7 1 (λ _. Some RW) (λ _. None) page) → Contains (7 ∷ []) page
all_done page is =
    let same : 7 ≡ page = grind (arith, nat_tests) in
    subst (Contains (7 ∷ [])) same (first_element 7 [])

-- the failed child's entry is given back
given_back : (page : ℕ) → ◌≡◌ {A = Option Entry} (put 7 None (put 7 (Some (entry_of 6 false)) (λ _. None)) page) None
given_back page = grind (arith, nat_tests)

-- the entry that a fork has made read-only is another
entries_apart : Some (entry_of 3 false) ≡ Some (entry_of 3 true) → ⊥
entries_apart same = let e : entry_of 3 false ≡ entry_of 3 true = cc in let writable : false ≡ true = ap (λ (d : Entry). d.writable) e in cc

-- the first event can happen, and then the others
◌and_then◌ : {P Q : Type 0} → P → Q → P × Q
◌and_then◌ can rest = (can, rest)

infixr 5 ◌and_then◌
maps_can : AllCan start maps_one
maps_can = ((refl, (refl, refl), few_pages, (λ k inside. refl), omega arith), tt)

-- the parts, whatever tables there are after process 0 has got four, then its child, and then that one's
pins_by : (place : ℕ → ℕ → Option Place) (free : ℕ → Bool) → HasFour mapped place free 0 7 0 → ReadsDown (place 0) 7 0 → AllCan (with_tables mapped place free) pins_one
pins_by place free four down =
    (tt, refl, omega arith, refl)
    and_then (refl, (refl, refl), refl, refl, refl, refl, tables_there (with_tables mapped place free) 0 7 refl four.full)
    and_then (refl, (refl, refl), refl, refl, refl)
    and_then (refl, refl, omega arith)
    and_then (refl, (true, refl), omega arith, refl)
    and_then (refl, (refl, refl), refl)
    and_then (refl, omega arith, refl)
    and_then refl
    and_then refl
    and_then (refl, (refl, refl), (refl, refl), refl, refl, (refl, (λ is. refl), λ is. omega arith), All-nil _, All-nil _)
    and_then (refl, refl, λ no. absurd (cc))
    and_then ((refl, refl, omega arith), refl, refl)
    and_then ((refl, refl, omega arith), refl)
    and_then refl
    and_then refl
    and_then (refl, refl)
    and_then (refl, (refl, refl), refl, refl)
    and_then (refl, refl)
    and_then (refl, omega arith, down.root, All-nil _)
    and_then (refl, omega arith, down.third, All-nil _)
    and_then (refl, omega arith, down.second, All-nil _)
    and_then (refl, refl, down.entry (Some (entry_of 3 true)), All-nil _)
    and_then (refl, λ none. omega (arith, none))
    and_then (refl, down.above)
    and_then (refl, sym (down.entry (Some (entry_of 3 true))))
    and_then (refl, refl)
    and_then (refl, tt, refl)
    and_then refl
    and_then (refl, refl, λ no. absurd (cc))
    and_then (refl, refl)
    and_then (refl, (refl, refl), refl, refl)
    and_then (refl, refl)
    and_then (refl, omega arith, down.root, All-nil _)
    and_then (refl, omega arith, down.third, All-nil _)
    and_then (refl, omega arith, down.second, All-nil _)
    and_then (refl, refl, down.entry (Some (entry_of 3 true)), All-nil _)
    and_then refl
    and_then (refl, tt, refl)
    and_then refl
    and_then (refl, (refl, refl), refl, refl)
    and_then (refl, refl)
    and_then (refl, (refl, refl), refl, refl)
    and_then (refl, refl)
    and_then (refl, (refl, refl), refl, refl)
    and_then (refl, refl)
    and_then (refl, refl, (refl, refl), (refl, refl), refl, refl)
    and_then (refl, refl, refl, no_element 7, refl, refl)
    and_then (refl, omega arith, down.root, All-nil _)
    and_then (refl, omega arith, down.third, All-nil _)
    and_then (refl, omega arith, down.second, All-nil _)
    and_then (refl, refl, down.entry (Some (entry_of 3 true)), All-nil _)
    and_then (refl, λ none. omega (arith, none))
    and_then (refl, down.above)
    and_then (refl, sym (down.entry (Some (entry_of 3 true))))
    and_then (refl, refl)
    and_then (refl, tt, refl)
    and_then (refl, refl)
    and_then refl
    and_then (refl, omega arith, down.root, All-nil _)
    and_then (refl, omega arith, down.third, All-nil _)
    and_then (refl, omega arith, down.second, All-nil _)
    and_then (refl, refl, down.entry (Some (entry_of 3 true)), All-nil _)
    and_then (refl, λ none. omega (arith, none))
    and_then (refl, refl, (λ m noted is at proc page. emptied m is))
    and_then (refl, down.above)
    and_then (refl, λ same. entries_apart (down.entry (Some (entry_of 3 false)) ∙ same))
    and_then refl
    and_then (refl, tt, refl)
    and_then refl
    and_then (refl, refl)
    and_then (refl, omega arith, down.root, All-nil _)
    and_then (refl, omega arith, down.third, All-nil _)
    and_then (refl, omega arith, down.second, All-nil _)
    and_then (refl, refl, down.entry (Some (entry_of 3 false)), All-nil _)
    and_then (refl, λ none. omega (arith, none))
    and_then (refl, down.above)
    and_then (refl, sym (down.entry (Some (entry_of 3 false))))
    and_then (refl, refl)
    and_then (refl, refl)
    and_then (refl, tt, refl)
    and_then refl
    and_then tt

pins_can : (place : ℕ → ℕ → Option Place) (free : ℕ → Bool) → HasFour mapped place free 0 7 0 → AllCan (with_tables mapped place free) pins_one
pins_can place free four = pins_by place free four (reads mapped place free 0 7 0 four)

shares_can : (place1 place2 : ℕ → ℕ → Option Place) (free1 free2 : ℕ → Bool) → HasFour (pinned place1 free1) place2 free2 1 7 4 → AllCan (with_tables (pinned place1 free1) place2 free2) shares_one
shares_can place1 place2 free1 free2 four =
    (refl, refl, tables_there (with_tables (pinned place1 free1) place2 free2) 1 7 refl four.full)
    and_then (refl, all_done)
    and_then (tt, refl, omega arith, refl)
    and_then (refl, (refl, refl), refl, refl, refl, refl, refl, (λ is. refl), (λ m noted is at proc page. emptied m is))
    and_then refl
    and_then (refl, (refl, refl), (refl, refl), refl, refl, refl)
    and_then refl
    and_then (refl, refl, (refl, refl), refl, refl, (λ m noted is at proc page. emptied m is))
    and_then (refl, refl)
    and_then (tt, refl, omega arith, refl)
    and_then (refl, refl, refl, omega arith)
    and_then refl
    and_then (refl, (refl, refl), refl, refl)
    and_then (refl, refl, (refl, refl), refl, refl, (λ m noted is at proc page. emptied m is))
    and_then (refl, refl)
    and_then (refl, (λ no. absurd (cc)), refl)
    and_then refl
    and_then (refl, (refl, refl), refl, (λ m noted is at proc page. emptied m is))
    and_then (refl, (refl, refl), one_page, (λ k e inside is writes. refl), λ k inside m noted is at proc page. emptied m is)
    and_then (refl, (refl, refl), refl, refl, refl, refl, (λ m noted is at proc page. emptied m is))
    and_then refl
    and_then (refl, (refl, refl), refl, refl, refl, refl, (λ m noted is at proc page. emptied m is))
    and_then refl
    and_then (refl, refl, (refl, refl), (refl, refl), refl, refl)
    and_then (refl, refl, refl, no_element 7, refl)
    and_then (refl, tt, refl, λ page. refl)
    and_then (refl, refl)
    and_then (tt, refl, omega arith, refl)
    and_then (refl, (refl, refl), refl, refl, refl, refl, tables_there (with_tables (pinned place1 free1) place2 free2) 1 7 refl four.full)
    and_then (refl, refl, (refl, refl), (refl, refl), refl, refl)
    and_then (refl, refl, refl, no_element 7, refl, refl)
    and_then (refl, refl, λ m noted is at proc page. emptied m is)
    and_then (refl, refl)
    and_then tt

-- what is known when all three have got theirs
record HaveTables (place1 place2 place3 : ℕ → ℕ → Option Place) (free1 free2 free3 : ℕ → Bool) : Type 0 where
  first : HasFour mapped place1 free1 0 7 0
  child : HasFour (pinned place1 free1) place2 free2 1 7 4
  last : HasFour (shared place1 place2 free1 free2) place3 free3 4 7 8

module _ (place1 place2 place3 : ℕ → ℕ → Option Place) (free1 free2 free3 : ℕ → Bool) (have : HaveTables place1 place2 place3 free1 free2 free3) where
  abbrev state : CoreState
  state = with_tables (shared place1 place2 free1 free2) place3 free3

  -- process 0 has the tables that it had first, and no entry
  kept : place3 0 ≡ place1 0
  kept = have.last.others 0 (λ same. omega (arith, same)) ∙ have.child.others 0 (λ same. omega (arith, same))

  bare : (page : ℕ) → state.entry 0 page ≡ None
  bare page = grind (arith, nat_tests)

  lowest_out : detachable (tree_in state 0) 7 ≡ Some 3
  lowest_out =
      lowest_detachable (tree_in state 0) 7 3 (have.last.standing.trees 0) (same_lacks (with_tables mapped place1 free1) state 0 7 kept ∙ have.first.full)
      (ap (λ (tables : ℕ → Option Place). tables 3) kept ∙ have.first.lowest) bare

  fails_can : AllCan state fails_one
  fails_can =
      (refl, refl, tables_there state 4 7 refl have.last.full)
      and_then (refl, tt, refl, (7, refl))
      and_then (refl, refl, given_back)
      and_then (refl, (refl, refl), (refl, refl), refl, refl, refl)
      and_then refl
      and_then refl
      and_then (refl, (refl, refl), (refl, refl), refl, refl, (refl, (λ is. absurd (cc)), λ is. absurd (cc)), All-nil _, All-nil _)
      and_then (refl, refl, λ no. absurd (cc))
      and_then (refl, refl, (refl, refl), (refl, refl), refl, refl)
      and_then (refl, refl, refl, no_element 7, refl, refl)
      and_then (tt, refl, omega arith, refl)
      and_then (refl, omega arith, refl, refl)
      and_then (inl (refl, (refl, refl)), lowest_out)
      and_then (inl (refl, (refl, refl)), refl)
      and_then tt

-- one part behind another, with the four tables before each that gives an entry
pub they_can_happen : AllCan start one_run
they_can_happen =
    can_behind start maps_one (adds_four 0 0 0 ++ (pins_one ++ (adds_four 0 1 4 ++ (shares_one ++ (adds_four 1 4 8 ++ fails_one))))) maps_can
    (four_can 0 0 7 few_pages mapped 0 (pins_one ++ (adds_four 0 1 4 ++ (shares_one ++ (adds_four 1 4 8 ++ fails_one))))
    (first_stand 2 8 12 true first_born few_tables)
    (inl (refl, (refl, refl)))
    refl
    (bare_lacks mapped 0 7 (λ table. refl))
    (λ k less. free_first (0 + k) (omega (arith, less)))
    (λ place1 free1 four1.
    can_behind (with_tables mapped place1 free1) pins_one (adds_four 0 1 4 ++ (shares_one ++ (adds_four 1 4 8 ++ fails_one))) (pins_can place1 free1 four1)
    (four_can 0 1 7 few_pages (pinned place1 free1) 4 (shares_one ++ (adds_four 1 4 8 ++ fails_one)) four1.standing (inr (inr refl)) refl
    (bare_lacks (pinned place1 free1) 1 7 (λ table. ap (λ (tables : ℕ → Option Place). tables table) (four1.others 1 (λ same. omega (arith, same)))))
    (λ k less. four1.others_free (4 + k) (omega arith) ∙ free_first (4 + k) (omega (arith, less)))
    (λ place2 free2 four2.
    can_behind (with_tables (pinned place1 free1) place2 free2) shares_one (adds_four 1 4 8 ++ fails_one) (shares_can place1 place2 free1 free2 four2)
    (four_can 1 4 7 few_pages (shared place1 place2 free1 free2) 8 fails_one four2.standing (inr (inr refl)) refl
    (bare_lacks (shared place1 place2 free1 free2) 4 7
    (λ table. ap (λ (tables : ℕ → Option Place). tables table) (four2.others 4 (λ same. omega (arith, same)) ∙ four1.others 4 (λ same. omega (arith, same)))))
    (λ k less. four2.others_free (8 + k) (omega arith) ∙ four1.others_free (8 + k) (omega arith) ∙ free_first (8 + k) (omega (arith, less)))
    (λ place3 free3 four3. fails_can place1 place2 place3 free1 free2 free3 (record { first = four1; child = four2; last = four3 })))))))
