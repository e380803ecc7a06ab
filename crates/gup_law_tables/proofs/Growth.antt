-- A page gets the tables that it lacks, and its empty tables go.
use Rattle.std.proofs.Common.{◌≡◌, ℕ, zero, suc, ◌+◌, ◌<◌, ◌≤◌, ◌==◌, nat_lt, Bool, true, false, if◌then◌else◌, List, [], ◌∷◌, ◌++◌, Option, Some, None, IsSome, refl, ap, subst, sym, ◌∙◌, arith}
use Rattle.std.proofs.lemmas.Bool.Decides.{nat_tests}
use Rattle.gup_plain.specs.Event.{page_numbers}
use Rattle.gup_plain.specs.Put.{put}
use Rattle.gup_plain.proofs.Sums.{one_more_passing}
use Rattle.gup_bits.proofs.Lowest.{lowest_some}
use Rattle.gup_tables.proofs.FreeTables.{none_lowest}
use Rattle.gup_tables.proofs.Places.{put_same}
use Rattle.gup_spec_tables.specs.declared.place.Place.{Place}
use Rattle.gup_spec_tables.specs.Tables.{table_numbers, lacks, detachable}
use Rattle.gup_spec_events.specs.State.{CoreState}
use Rattle.gup_spec_events.specs.Event.{CoreEvent, happens, run, tree_in, MayShape, add_table, take_out, reclaim}
use Rattle.gup_spec_events.specs.Growth.{reclaims, lowest_table, free_tables, adds_one, adds, has_enough, adds_all, grows, takes_one, takes_out, retires}
use Rattle.gup_spec_events.specs.Invariant.{AllCan}
use Rattle.gup_spec_events.proofs.Runs.{run_behind, can_behind}
use Rattle.gup_law_tables.specs.Standing.{TablesStand, IsButForTables}
use Rattle.gup_law_tables.proofs.Trees.{lacks_added, lacks_removed}
use Rattle.gup_law_tables.proofs.Owners.{unplaced}
use Rattle.gup_law_tables.proofs.TableEvents.{stay}

-- What only changes tables, one list of events behind another.
behind : (s : CoreState) (before es : List CoreEvent) → IsButForTables s (run s before) → IsButForTables (run s before) (run (run s before) es) → IsButForTables s (run s (before ++ es))
behind s before es first next =
    let t : CoreState = run s before in
    let u : CoreState = run t es in
    let both : u ≡ record s { free_table = u.free_table; place = u.place; retired = u.retired } =
    next ∙ ap (λ (x : CoreState). record x { free_table = u.free_table; place = u.place; retired = u.retired }) first in
    subst (λ (x : CoreState). IsButForTables s x) (sym (run_behind s before es)) both

-- so what else the state is, is as before
same_in : {X : Type 0} (read_in : CoreState → X) → ((s : CoreState) (free : ℕ → Bool) (place : ℕ → ℕ → Option Place) (retired : ℕ → List ℕ) → read_in (record s { free_table = free; place = place; retired = retired }) ≡ read_in s) → (s t : CoreState) → IsButForTables s t → read_in t ≡ read_in s
same_in read_in unseen s t same = ap read_in same ∙ unseen s t.free_table t.place t.retired

-- and who might change tables, still may
pub shape_after : (s t : CoreState) (a p : ℕ) → IsButForTables s t → MayShape s a p → MayShape t a p
shape_after s t a p same may = subst (λ (x : CoreState). MayShape x a p) (sym same) may

pub reclaims_kept : (s : CoreState) (a p : ℕ) → IsButForTables s (run s (reclaims s a p))
reclaims_kept s a p = go (s.walks p == 0)
  where
    go : (b : Bool) → IsButForTables s (run s (if b then reclaim a p ∷ [] else []))
    go true = refl
    go false = refl

pub reclaims_can : (s : CoreState) (a p : ℕ) → MayShape s a p → AllCan s (reclaims s a p)
reclaims_can s a p may = go (s.walks p == 0) refl
  where
    go : (b : Bool) → (s.walks p == 0) ≡ b → AllCan s (if b then reclaim a p ∷ [] else [])
    go true is = ((may, grind (arith, nat_tests)), tt)
    go false is = tt

all_stay : (s : CoreState) (es : List CoreEvent) → TablesStand s → AllCan s es → TablesStand (run s es)
all_stay s [] stand can = stand
all_stay s (e ∷ es) stand can = all_stay (happens s e) es (stay s e stand can.0) can.1

-- one table more
one_kept : (s : CoreState) (a p page : ℕ) (o : Option ℕ) → IsButForTables s (run s (adds_one a p page o))
one_kept s a p page None = refl
one_kept s a p page (Some table) = refl

pub adds_kept : (s : CoreState) (a p page n : ℕ) → IsButForTables s (run s (adds s a p page n))
adds_kept s a p page zero = refl
adds_kept s a p page (suc n) =
    let one : List CoreEvent = adds_one a p page (lowest_table s) in
    behind s one (adds (run s one) a p page n) (one_kept s a p page (lowest_table s)) (adds_kept (run s one) a p page n)

-- what is known after some tables were added
pub record Added (s t : CoreState) (p page n : ℕ) : Type 0 where
  pub lacking : lacks (tree_in t p) page + n ≡ lacks (tree_in s p) page
  pub standing : TablesStand t

module _ (a p page : ℕ) (within : page < page_numbers) where
  one_free : (s : CoreState) → 0 < free_tables s → (o : Option ℕ) → lowest_table s ≡ o → (table : ℕ) × (o ≡ Some table) × (table < table_numbers) × (s.free_table table ≡ true)
  one_free s some None is = absurd (let none = none_lowest table_numbers s.free_table is in omega (arith, none, some))
  one_free s some (Some table) is =
      let h = lowest_some 0 table_numbers s.free_table table is in
      (table, refl, omega (arith, h.1), h.2)

  one_can : (s : CoreState) → MayShape s a p → IsSome (s.right p page) → 0 < lacks (tree_in s p) page → (table : ℕ) → s.free_table table ≡ true → AllCan s (adds_one a p page (Some table))
  one_can s may mapped some table free = ((may, mapped, within, free, some), tt)

  pub one_fewer : (s : CoreState) → TablesStand s → 0 < lacks (tree_in s p) page → (table : ℕ) → table < table_numbers → s.free_table table ≡ true
      → lacks (tree_in (happens s (add_table a p page table)) p) page + 1 ≡ lacks (tree_in s p) page
  one_fewer s stand some table small free =
      let own : (p == p) ≡ true = grind (arith, nat_tests) in
      let new = unplaced s.free_table s.place s.retired stand (tree_in s p) p page table refl free within some p in
      rw own (sym (lacks_added (tree_in s p) (stand.trees p) page table within new small some 0 0))

  free_fewer : (s : CoreState) (table : ℕ) → table < table_numbers → s.free_table table ≡ true → free_tables s ≡ free_tables (happens s (add_table a p page table)) + 1
  free_fewer s table small free =
      one_more_passing table_numbers (put table false s.free_table) s.free_table table small (put_same table false s.free_table) free (λ t test. rw test refl)

  pub adds_can : (s : CoreState) (n : ℕ) → TablesStand s → MayShape s a p → IsSome (s.right p page) → n ≤ lacks (tree_in s p) page → n ≤ free_tables s → AllCan s (adds s a p page n) × Added s (run s (adds s a p page n)) p page n
  adds_can s zero stand may mapped few enough = (tt, record { lacking = omega arith; standing = stand })
  adds_can s (suc n) stand may mapped few enough =
      by_lowest (lowest_table s) refl (one_free s (omega (arith, enough)) (lowest_table s) refl) (λ t. adds_can t n)
    where
      by_lowest : (o : Option ℕ) → lowest_table s ≡ o → (table : ℕ) × (o ≡ Some table) × (table < table_numbers) × (s.free_table table ≡ true) → ((t : CoreState) → TablesStand t → MayShape t a p → IsSome (t.right p page) → n ≤ lacks (tree_in t p) page → n ≤ free_tables t → AllCan t (adds t a p page n) × Added t (run t (adds t a p page n)) p page n) → AllCan s (adds_one a p page o ++ adds (run s (adds_one a p page o)) a p page n) × Added s (run s (adds_one a p page o ++ adds (run s (adds_one a p page o)) a p page n)) p page (suc n)
      by_lowest None is found later = absurd (let some = found.1 in cc)
      by_lowest (Some table) is found later =
          let same : table ≡ found.0 = cc (found.1) in
          let free : s.free_table table ≡ true = rw same (found.3) in
          let small : table < table_numbers = rw same (found.2) in
          let t : CoreState = happens s (add_table a p page table) in
          let lacking = one_fewer s stand (omega (arith, few)) table small free in
          let freed = free_fewer s table small free in
          let can = one_can s may mapped (omega (arith, few)) table free in
          let more = later t (stay s (add_table a p page table) stand can.0) may mapped (omega (arith, few, lacking)) (omega (arith, enough, freed)) in
          ((can.0, more.0), record { lacking = omega (arith, more.1.lacking, lacking); standing = more.1.standing })

  -- the page gets all that it lacks, or none
  pub adds_all_can : (s : CoreState) → TablesStand s → MayShape s a p → IsSome (s.right p page) → AllCan s (adds_all s a p page) × ((lacks (tree_in (run s (adds_all s a p page)) p) page == 0) ≡ has_enough s p page)
  adds_all_can s stand may mapped =
      go (has_enough s p page) refl
    where
      go : (b : Bool) → has_enough s p page ≡ b → AllCan s (if b then adds s a p page (lacks (tree_in s p) page) else []) × ((lacks (tree_in (run s (if b then adds s a p page (lacks (tree_in s p) page) else [])) p) page == 0) ≡ b)
      go true is =
          let enough : lacks (tree_in s p) page ≤ free_tables s = grind (arith, nat_tests) in
          let more = adds_can s (lacks (tree_in s p) page) stand may mapped (omega arith) enough in
          let none : lacks (tree_in (run s (adds s a p page (lacks (tree_in s p) page))) p) page ≡ 0 = omega (arith, more.1.lacking) in
          (more.0, rw none refl)
      go false is =
          let some : 0 < lacks (tree_in s p) page = grind (arith, nat_tests) in
          (tt, grind (arith, nat_tests))

  -- after what may come free has
  pub grows_can : (s : CoreState) → TablesStand s → MayShape s a p → IsSome (s.right p page) → AllCan s (grows s a p page) × ((lacks (tree_in (run s (grows s a p page)) p) page == 0) ≡ has_enough (run s (reclaims s a p)) p page)
  grows_can s stand may mapped =
      let t : CoreState = run s (reclaims s a p) in
      let kept = reclaims_kept s a p in
      let first = reclaims_can s a p may in
      let mapped_still : IsSome (t.right p page) = subst (λ (x : CoreState). IsSome (x.right p page)) (sym kept) mapped in
      let more = adds_all_can t (all_stay s (reclaims s a p) stand first) (shape_after s t a p kept may) mapped_still in (
        can_behind s (reclaims s a p) (adds_all t a p page) first more.0,
        subst (λ (x : CoreState). (lacks (tree_in x p) page == 0) ≡ has_enough t p page) (sym (run_behind s (reclaims s a p) (adds_all t a p page))) more.1,
      )

adds_all_kept : (s : CoreState) (a p page : ℕ) → IsButForTables s (run s (adds_all s a p page))
adds_all_kept s a p page = go (has_enough s p page)
  where
    go : (b : Bool) → IsButForTables s (run s (if b then adds s a p page (lacks (tree_in s p) page) else []))
    go true = adds_kept s a p page (lacks (tree_in s p) page)
    go false = refl

pub grows_kept : (s : CoreState) (a p page : ℕ) → IsButForTables s (run s (grows s a p page))
grows_kept s a p page =
    behind s (reclaims s a p) (adds_all (run s (reclaims s a p)) a p page) (reclaims_kept s a p) (adds_all_kept (run s (reclaims s a p)) a p page)

-- tables that are taken out

took_kept : (s : CoreState) (a p page : ℕ) (o : Option ℕ) → IsButForTables s (run s (takes_one a p page o))
took_kept s a p page None = refl
took_kept s a p page (Some table) = refl

pub takes_kept : (s : CoreState) (a p page n : ℕ) → IsButForTables s (run s (takes_out s a p page n))
takes_kept s a p page zero = refl
takes_kept s a p page (suc n) =
    let one : List CoreEvent = takes_one a p page (detachable (tree_in s p) page) in
    behind s one (takes_out (run s one) a p page n) (took_kept s a p page (detachable (tree_in s p) page)) (takes_kept (run s one) a p page n)

took_can : (s : CoreState) (a p page : ℕ) → MayShape s a p → AllCan s (takes_one a p page (detachable (tree_in s p) page))
took_can s a p page may = go (detachable (tree_in s p) page) refl
  where
    go : (o : Option ℕ) → detachable (tree_in s p) page ≡ o → AllCan s (takes_one a p page o)
    go None is = tt
    go (Some table) is = ((may, is), tt)

pub takes_can : (s : CoreState) (a p page n : ℕ) → MayShape s a p → AllCan s (takes_out s a p page n)
takes_can s a p page zero may = tt
takes_can s a p page (suc n) may =
    let one : List CoreEvent = takes_one a p page (detachable (tree_in s p) page) in
    let kept = took_kept s a p page (detachable (tree_in s p) page) in
    can_behind s one (takes_out (run s one) a p page n) (took_can s a p page may) (takes_can (run s one) a p page n (shape_after s (run s one) a p kept may))

-- where none can be taken out, none is
none_taken : (s : CoreState) (a p page n : ℕ) → detachable (tree_in s p) page ≡ None → takes_out s a p page n ≡ []
none_taken s a p page zero none = refl
none_taken s a p page (suc n) none = rw none (none_taken s a p page n none)

-- with each that is, one more is missing, and of four the root stays
pub all_taken : (s : CoreState) (a p page n : ℕ) → TablesStand s → MayShape s a p → 3 ≤ lacks (tree_in s p) page + n → detachable (tree_in (run s (takes_out s a p page n)) p) page ≡ None
all_taken s a p page zero stand may most =
    let test : nat_lt (lacks (tree_in s p) page) 3 ≡ false = grind (arith, nat_tests) in
    rw test refl
all_taken s a p page (suc n) stand may most = go (detachable (tree_in s p) page) refl (λ t. all_taken t a p page n)
  where
    go : (o : Option ℕ) → detachable (tree_in s p) page ≡ o → ((t : CoreState) → TablesStand t → MayShape t a p → 3 ≤ lacks (tree_in t p) page + n → detachable (tree_in (run t (takes_out t a p page n)) p) page ≡ None) → detachable (tree_in (run s (takes_one a p page o ++ takes_out (run s (takes_one a p page o)) a p page n)) p) page ≡ None
    go None is later = rw (none_taken s a p page n is) is
    go (Some table) is later =
        let t : CoreState = happens s (take_out a p page table) in
        let own : (p == p) ≡ true = grind (arith, nat_tests) in
        let lacking : lacks (tree_in t p) page ≡ lacks (tree_in s p) page + 1 = rw own (lacks_removed (tree_in s p) (stand.trees p) page table is 0 0) in
        later t (stay s (take_out a p page table) stand (may, is)) may (omega (arith, lacking, most))

reclaimed_tree : (s : CoreState) (a p page : ℕ) → detachable (tree_in (run s (reclaims s a p)) p) page ≡ detachable (tree_in s p) page
reclaimed_tree s a p page = go (s.walks p == 0)
  where
    go : (b : Bool) → detachable (tree_in (run s (if b then reclaim a p ∷ [] else [])) p) page ≡ detachable (tree_in s p) page
    go true = refl
    go false = refl

pub retires_can : (s : CoreState) (a p page : ℕ) → MayShape s a p → AllCan s (retires s a p page)
retires_can s a p page may =
    let t : CoreState = run s (takes_out s a p page 3) in
    can_behind s (takes_out s a p page 3) (reclaims t a p) (takes_can s a p page 3 may) (reclaims_can t a p (shape_after s t a p (takes_kept s a p page 3) may))

pub retires_kept : (s : CoreState) (a p page : ℕ) → IsButForTables s (run s (retires s a p page))
retires_kept s a p page =
    let t : CoreState = run s (takes_out s a p page 3) in
    behind s (takes_out s a p page 3) (reclaims t a p) (takes_kept s a p page 3) (reclaims_kept t a p)

pub retires_all : (s : CoreState) (a p page : ℕ) → TablesStand s → MayShape s a p → detachable (tree_in (run s (retires s a p page)) p) page ≡ None
retires_all s a p page stand may =
    let t : CoreState = run s (takes_out s a p page 3) in
    subst (λ (x : CoreState). detachable (tree_in x p) page ≡ None) (sym (run_behind s (takes_out s a p page 3) (reclaims t a p)))
    (reclaimed_tree t a p page ∙ all_taken s a p page 3 stand may (omega arith))

-- where no walk of the process runs, none of its tables waits

reclaims_freed : (s : CoreState) (a p : ℕ) → s.walks p ≡ 0 → (run s (reclaims s a p)).retired p ≡ []
reclaims_freed s a p still = go (s.walks p == 0) (rw still refl)
  where
    go : (b : Bool) → b ≡ true → (run s (if b then reclaim a p ∷ [] else [])).retired p ≡ []
    go true is = put_same p [] s.retired
    go false is = absurd cc

one_waits : (s : CoreState) (a p page : ℕ) (o : Option ℕ) → (run s (adds_one a p page o)).retired ≡ s.retired
one_waits s a p page None = refl
one_waits s a p page (Some table) = refl

-- tables that are added leave those that wait
adds_wait : (s : CoreState) (a p page n : ℕ) → (run s (adds s a p page n)).retired ≡ s.retired
adds_wait s a p page zero = refl
adds_wait s a p page (suc n) =
    let one : List CoreEvent = adds_one a p page (lowest_table s) in
    ap (λ (t : CoreState). t.retired) (run_behind s one (adds (run s one) a p page n))
    ∙ adds_wait (run s one) a p page n ∙ one_waits s a p page (lowest_table s)

adds_all_wait : (s : CoreState) (a p page : ℕ) → (run s (adds_all s a p page)).retired ≡ s.retired
adds_all_wait s a p page = go (has_enough s p page)
  where
    go : (b : Bool) → (run s (if b then adds s a p page (lacks (tree_in s p) page) else [])).retired ≡ s.retired
    go true = adds_wait s a p page (lacks (tree_in s p) page)
    go false = refl

pub grows_freed : (s : CoreState) (a p page : ℕ) → s.walks p ≡ 0 → (run s (grows s a p page)).retired p ≡ []
grows_freed s a p page still =
    let t : CoreState = run s (reclaims s a p) in
    ap (λ (u : CoreState). u.retired p) (run_behind s (reclaims s a p) (adds_all t a p page))
    ∙ ap (λ (f : ℕ → List ℕ). f p) (adds_all_wait t a p page) ∙ reclaims_freed s a p still

pub retires_freed : (s : CoreState) (a p page : ℕ) → s.walks p ≡ 0 → (run s (retires s a p page)).retired p ≡ []
retires_freed s a p page still =
    let t : CoreState = run s (takes_out s a p page 3) in
    let walks : t.walks p ≡ s.walks p = same_in (λ u. u.walks p) (λ u free place retired. refl) s t (takes_kept s a p page 3) in
    ap (λ (u : CoreState). u.retired p) (run_behind s (takes_out s a p page 3) (reclaims t a p))
    ∙ reclaims_freed t a p (walks ∙ still)
