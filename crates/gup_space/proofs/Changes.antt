-- What the events of growth and of shrinking make of the tables of a process is what growing and shrinking make of them, event by event.
use Rattle.std.proofs.Common.{◌≡◌, ℕ, ◌≤◌, ◌==◌, ◌||◌, nat_lt, nat_le, not, is_some, Bool, true, false, if◌then◌else◌, List, [], ◌∷◌, ◌++◌, Option, Some, None, refl, sym, ap, subst, ◌∙◌, zero, suc, arith}
use Rattle.std.proofs.lemmas.Bool.Decides.{nat_tests}
use Rattle.gup_plain.specs.Pages.{sum_below}
use Rattle.gup_plain.specs.Put.{put, put2, lowest}
use Rattle.gup_spec_tables.specs.declared.place.Place.{Place}
use Rattle.gup_spec_tables.specs.Tables.{table_numbers, on_path, lacks, detachable, is_among}
use Rattle.gup_tables.specs.Pool.{PoolValue, free_tables}
use Rattle.gup_page_tables.specs.PageTables.{TablesValue, Both, IsOf, has_table, freed, reclaims, takes, grows, retires, shrinks}
use Rattle.gup_spec_events.specs.State.{CoreState}
use Rattle.gup_spec_events.specs.Event.{CoreEvent, run, tree_in, reclaim}
use Rattle.gup_spec_events.specs.Growth.{reclaims as reclaims_all, lowest_table, free_tables as free_in, adds_one, adds, has_enough, adds_all, grows as grows_all, takes_one, takes_out, retires as retires_all}
use Rattle.gup_spec_events.proofs.Runs.{run_behind}
use Rattle.gup_space.specs.ShownTables.{ShowsTables, IsPool, KeepsOthers, wants_tables, grown, shrunk}
use Rattle.gup_space.proofs.Pools.{lowest_among, count_among}

-- what is put at the process's own number
own_put : {X : Type 0} (p : ℕ) (x : X) (f : ℕ → X) → put p x f p ≡ x
own_put p x f = let own : (p == p) ≡ true = grind (arith, nat_tests) in ap (λ (b : Bool). if b then x else f p) own

own_put2 : {X : Type 0} (p k : ℕ) (x : X) (f : ℕ → ℕ → X) → put2 p k x f p ≡ put k x (f p)
own_put2 p k x f = let own : (p == p) ≡ true = grind (arith, nat_tests) in ap (λ (b : Bool). if b then put k x (f p) else f p) own

-- and at another's
other_put : {X : Type 0} (p q : ℕ) (x : X) (f : ℕ → X) → (q == p) ≡ false → put p x f q ≡ f q
other_put p q x f other = ap (λ (b : Bool). if b then x else f q) other

other_put2 : {X : Type 0} (p q k : ℕ) (x : X) (f : ℕ → ℕ → X) → (q == p) ≡ false → put2 p k x f q ≡ f q
other_put2 p q k x f other = ap (λ (b : Bool). if b then put k x (f q) else f q) other

-- ---- what is read of the tables

-- a page lacks what it lacks in the state
pub lacks_shown : (p : ℕ) (b : Both) (s : CoreState) (page : ℕ) → ShowsTables p b s → lacks (tree_in s p) page ≡ lacks b.tables.tree page
lacks_shown p b s page h =
    ap (λ (place : ℕ → Option Place). lacks (record { entry = s.entry p; place = place; tables = 0; room = 0 }) page) h.place

-- and the same table can be taken out
detachable_shown : (p : ℕ) (b : Both) (s : CoreState) (page : ℕ) → ShowsTables p b s → detachable (tree_in s p) page ≡ detachable b.tables.tree page
detachable_shown p b s page h = λ i. detachable (record { entry = h.entry i; place = h.place i; tables = 0; room = 0 }) page

-- the lowest free table is the pool's
lowest_shown : (p : ℕ) (b : Both) (s : CoreState) → IsPool b.pool → ShowsTables p b s → lowest_table s ≡ lowest 0 b.pool.tables b.pool.free
lowest_shown p b s pool h =
    ap (λ (free : ℕ → Bool). lowest 0 table_numbers free) h.free
    ∙ lowest_among b.pool.tables table_numbers b.pool.free pool.few pool.no_others

-- and as many are free
free_shown : (p : ℕ) (b : Both) (s : CoreState) → IsPool b.pool → ShowsTables p b s → free_in s ≡ free_tables b.pool
free_shown p b s pool h =
    ap (λ (free : ℕ → Bool). sum_below table_numbers (λ table. if free table then 1 else 0)) h.free
    ∙ count_among b.pool.tables table_numbers (λ table. if b.pool.free table then 1 else 0) pool.few
    (λ table least. ap (λ (free : Bool). if free then 1 else 0) (pool.no_others table least))

-- ---- what was taken out comes free

module _ (p a : ℕ) (b : Both) (s : CoreState) (h : ShowsTables p b s) where
  reclaimed : ShowsTables p (reclaims b) (run s (reclaims_all s a p))
  reclaimed =
      subst (λ (none : Bool). ShowsTables p (reclaims b) (run s (if none then reclaim a p ∷ [] else []))) (sym (ap (λ (n : ℕ). n == 0) h.walks))
      (go (b.tables.limbo.walks == 0))
    where
      go : (none : Bool) → ShowsTables p (record { tables = record (b.tables) { limbo = if none then record (b.tables.limbo) { retired = [] } else b.tables.limbo }; pool = if none then freed b.tables.limbo.retired b.pool else b.pool }) (run s (if none then reclaim a p ∷ [] else []))
      go true =
          record {
            entry = h.entry;
            place = h.place;
            retired = own_put p [] s.retired;
            walks = h.walks;
            free = λ i table. h.free i table || is_among (h.retired i) table;
          }
      go false = h

-- no table but the pool's comes free
pool_reclaimed : (b : Both) → IsPool b.pool → IsOf b → IsPool (reclaims b).pool
pool_reclaimed b pool own = go (b.tables.limbo.walks == 0)
  where
    beyond : (table : ℕ) → b.pool.tables ≤ table → is_among b.tables.limbo.retired table ≡ false
    beyond table least = by_among (is_among b.tables.limbo.retired table) refl
      where
        or_true : (c : Bool) → (c || true) ≡ true
        or_true true = refl
        or_true false = refl

        by_among : (among : Bool) → is_among b.tables.limbo.retired table ≡ among → among ≡ false
        by_among true is =
            let has : has_table b.tables table ≡ true = ap (λ (c : Bool). is_some (b.tables.tree.place table) || c) is ∙ or_true (is_some (b.tables.tree.place table)) in
            let below = (own.own table has).0 in
            absurd (omega (arith, below, least))
        by_among false is = refl

    go : (none : Bool) → IsPool (if none then freed b.tables.limbo.retired b.pool else b.pool)
    go true =
        record {
          few = pool.few;
          no_others = λ table least.
              ap (λ (c : Bool). c || is_among b.tables.limbo.retired table) (pool.no_others table least) ∙ beyond table least;
        }
    go false = pool

-- ---- tables are added

module _ (p a page : ℕ) where
  added_one : (b : Both) (s : CoreState) (o : Option ℕ) → ShowsTables p b s → ShowsTables p (takes page o b) (run s (adds_one a p page o))
  added_one b s None h = h
  added_one b s (Some table) h =
      let lacking = lacks_shown p b s page h in
      record {
        entry = h.entry;
        place = own_put2 p table (Some (on_path (lacks (tree_in s p) page) page)) s.place
            ∙ (λ i. put table (Some (on_path (lacking i) page)) (h.place i));
        retired = h.retired;
        walks = h.walks;
        free = λ i. put table false (h.free i);
      }

  pool_taken : (b : Both) (o : Option ℕ) → IsPool b.pool → IsPool (takes page o b).pool
  pool_taken b None pool = pool
  pool_taken b (Some table) pool = record { few = pool.few; no_others = λ t least. go t (t == table) (pool.no_others t least) }
    where
      go : (t : ℕ) (same : Bool) → b.pool.free t ≡ false → (if same then false else b.pool.free t) ≡ false
      go t true none = refl
      go t false none = none

  added : (n : ℕ) (b : Both) (s : CoreState) → IsPool b.pool → ShowsTables p b s → ShowsTables p (grows page n b) (run s (adds s a p page n))
  added zero b s pool h = h
  added (suc n) b s pool h =
      let o : Option ℕ = lowest_table s in
      let es : List CoreEvent = adds_one a p page o in
      let c : Both = takes page o b in
      let later = added n c (run s es) (pool_taken b o pool) (added_one b s o h) in
      subst (λ (x : Option ℕ). ShowsTables p (grows page n (takes page x b)) (run s (es ++ adds (run s es) a p page n))) (lowest_shown p b s pool h)
      (subst (ShowsTables p (grows page n c)) (sym (run_behind s es (adds (run s es) a p page n))) later)

  not_less : (m n : ℕ) → nat_le m n ≡ not (nat_lt n m)
  not_less m n = go (nat_lt n m) refl
    where
      go : (less : Bool) → nat_lt n m ≡ less → nat_le m n ≡ not less
      go true is = grind (arith, nat_tests, is)
      go false is = grind (arith, nat_tests, is)

  module _ (b : Both) (s : CoreState) (pool : IsPool b.pool) (own : IsOf b) (h : ShowsTables p b s) where
    abbrev t : CoreState
    t = run s (reclaims_all s a p)

    shown : ShowsTables p (reclaims b) t
    shown = reclaimed p a b s h

    still : IsPool (reclaims b).pool
    still = pool_reclaimed b pool own

    pub enough_shown : has_enough t p page ≡ not (wants_tables page b)
    enough_shown =
        ap (λ (m : ℕ). nat_le m (free_in t)) (lacks_shown p (reclaims b) t page shown)
        ∙ ap (nat_le (lacks b.tables.tree page)) (free_shown p (reclaims b) t still shown)
        ∙ not_less (lacks b.tables.tree page) (free_tables (reclaims b).pool)

    all_added : (wants enough : Bool) → enough ≡ not wants → ShowsTables p (if wants then reclaims b else grows page (lacks b.tables.tree page) (reclaims b)) (run t (if enough then adds t a p page (lacks (tree_in t p) page) else []))
    all_added true true is = absurd (cc is)
    all_added true false is = shown
    all_added false true is =
        subst (λ (n : ℕ). ShowsTables p (grows page n (reclaims b)) (run t (adds t a p page (lacks (tree_in t p) page)))) (lacks_shown p (reclaims b) t page shown)
        (added (lacks (tree_in t p) page) (reclaims b) t still shown)
    all_added false false is = absurd (cc is)

    pub grown_shown : ShowsTables p (grown page b) (run s (grows_all s a p page))
    grown_shown =
        subst (ShowsTables p (grown page b)) (sym (run_behind s (reclaims_all s a p) (adds_all t a p page)))
        (all_added (wants_tables page b) (has_enough t p page) enough_shown)

-- ---- tables are taken out

module _ (p a page : ℕ) where
  took_one : (v : TablesValue) (pool : PoolValue) (s : CoreState) (o : Option ℕ) → ShowsTables p (record { tables = v; pool = pool }) s → ShowsTables p (record { tables = retires o v; pool = pool }) (run s (takes_one a p page o))
  took_one v pool s None h = h
  took_one v pool s (Some table) h =
      record {
        entry = h.entry;
        place = own_put2 p table None s.place ∙ (λ i. put table None (h.place i));
        retired = own_put p (s.retired p ++ table ∷ []) s.retired ∙ (λ i. h.retired i ++ table ∷ []);
        walks = h.walks;
        free = h.free;
      }

  took : (n : ℕ) (v : TablesValue) (pool : PoolValue) (s : CoreState) → ShowsTables p (record { tables = v; pool = pool }) s → ShowsTables p (record { tables = shrinks page n v; pool = pool }) (run s (takes_out s a p page n))
  took zero v pool s h = h
  took (suc n) v pool s h =
      let o : Option ℕ = detachable (tree_in s p) page in
      let es : List CoreEvent = takes_one a p page o in
      let later = took n (retires o v) pool (run s es) (took_one v pool s o h) in
      subst (λ (x : Option ℕ). ShowsTables p (record { tables = shrinks page n (retires x v); pool = pool }) (run s (es ++ takes_out (run s es) a p page n))) (detachable_shown p (record { tables = v; pool = pool }) s page h)
      (subst (ShowsTables p (record { tables = shrinks page n (retires o v); pool = pool })) (sym (run_behind s es (takes_out (run s es) a p page n))) later)

  pub shrunk_shown : (b : Both) (s : CoreState) → ShowsTables p b s → ShowsTables p (shrunk page b) (run s (retires_all s a p page))
  shrunk_shown b s h =
      let es : List CoreEvent = takes_out s a p page 3 in
      let c : Both = record { tables = shrinks page 3 b.tables; pool = b.pool } in
      subst (ShowsTables p (reclaims c)) (sym (run_behind s es (reclaims_all (run s es) a p)))
      (reclaimed p a c (run s es) (took 3 b.tables b.pool s h))

-- ---- other processes

module _ (p a page : ℕ) where
  kept : (s : CoreState) → KeepsOthers p s s
  kept s = record { place = λ q other. refl; retired = λ q other. refl }

  kept_behind : (s : CoreState) (before es : List CoreEvent) → KeepsOthers p s (run s before) → KeepsOthers p (run s before) (run (run s before) es) → KeepsOthers p s (run s (before ++ es))
  kept_behind s before es first later =
      subst (KeepsOthers p s) (sym (run_behind s before es))
      (record {
        place = λ q other. later.place q other ∙ first.place q other;
        retired = λ q other. later.retired q other ∙ first.retired q other;
      })

  kept_reclaimed : (s : CoreState) → KeepsOthers p s (run s (reclaims_all s a p))
  kept_reclaimed s = go (s.walks p == 0)
    where
      go : (none : Bool) → KeepsOthers p s (run s (if none then reclaim a p ∷ [] else []))
      go true = record { place = λ q other. refl; retired = λ q other. other_put p q [] s.retired other }
      go false = kept s

  kept_added : (n : ℕ) (s : CoreState) → KeepsOthers p s (run s (adds s a p page n))
  kept_added zero s = kept s
  kept_added (suc n) s =
      let es : List CoreEvent = adds_one a p page (lowest_table s) in
      kept_behind s es (adds (run s es) a p page n) (one (lowest_table s)) (kept_added n (run s es))
    where
      one : (o : Option ℕ) → KeepsOthers p s (run s (adds_one a p page o))
      one None = kept s
      one (Some table) =
          record { place = λ q other. other_put2 p q table (Some (on_path (lacks (tree_in s p) page) page)) s.place other; retired = λ q other. refl }

  kept_all : (s : CoreState) → KeepsOthers p s (run s (adds_all s a p page))
  kept_all s = go (has_enough s p page)
    where
      go : (enough : Bool) → KeepsOthers p s (run s (if enough then adds s a p page (lacks (tree_in s p) page) else []))
      go true = kept_added (lacks (tree_in s p) page) s
      go false = kept s

  pub kept_grown : (s : CoreState) → KeepsOthers p s (run s (grows_all s a p page))
  kept_grown s =
      kept_behind s (reclaims_all s a p) (adds_all (run s (reclaims_all s a p)) a p page) (kept_reclaimed s) (kept_all (run s (reclaims_all s a p)))

  kept_taken : (n : ℕ) (s : CoreState) → KeepsOthers p s (run s (takes_out s a p page n))
  kept_taken zero s = kept s
  kept_taken (suc n) s =
      let es : List CoreEvent = takes_one a p page (detachable (tree_in s p) page) in
      kept_behind s es (takes_out (run s es) a p page n) (one (detachable (tree_in s p) page)) (kept_taken n (run s es))
    where
      one : (o : Option ℕ) → KeepsOthers p s (run s (takes_one a p page o))
      one None = kept s
      one (Some table) =
          record {
            place = λ q other. other_put2 p q table None s.place other;
            retired = λ q other. other_put p q (s.retired p ++ table ∷ []) s.retired other;
          }

  pub kept_shrunk : (s : CoreState) → KeepsOthers p s (run s (retires_all s a p page))
  kept_shrunk s =
      let es : List CoreEvent = takes_out s a p page 3 in
      kept_behind s es (reclaims_all (run s es) a p) (kept_taken 3 s) (kept_reclaimed (run s es))
