-- A process whose page tables grow or shrink: what becomes of it is what the events of that make of it, which change tables alone.
use Rattle.std.proofs.Common.{◌≡◌, ℕ, ◌==◌, not, Bool, true, false, if◌then◌else◌, is_err, List, [], ◌∷◌, Option, Some, None, Result, Ok, Err, OnOk, OnErr, refl, ap, ◌∙◌, zero, suc}
use Rattle.gup_base.specs.declared.entry.Entry.{Entry}
use Rattle.gup_base.specs.declared.entry.Rights.{Rights}
use Rattle.gup_tables.specs.Pool.{PoolValue}
use Rattle.gup_spec_tables.specs.Tables.{lacks, detachable}
use Rattle.gup_limbo.specs.Limbo.{LimboValue}
use Rattle.gup_page_tables.specs.PageTables.{TablesValue, Both, freed, cleared, reclaims, takes, grows, retires, shrinks}
use Rattle.gup_spec_events.specs.State.{CoreState}
use Rattle.gup_spec_events.specs.Event.{CoreEvent, run, tree_in, reclaim}
use Rattle.gup_spec_events.specs.Growth.{reclaims as reclaims_all, lowest_table, adds_one, adds, has_enough, adds_all, grows as grows_all, takes_one, takes_out, retires as retires_all}
use Rattle.gup_spec_events.proofs.Runs.{run_behind}
use Rattle.gup_space.specs.ShownTables.{ShowsTables, wants_tables, grown, shrunk}
use Rattle.gup_space.specs.Space.{SpaceValue}
use Rattle.gup_space.specs.Shows.{ShowsSpace, ShowsPool}

-- ---- what any process has beside its tables

abbrev pub Rest : Type 0
Rest = (ℕ → Option Rights) × ℕ × ℕ × Bool × Option ℕ × Option ℕ × (ℕ → Option Entry) × ℕ

abbrev pub rest : (q : ℕ) → CoreState → Rest
rest q s = (s.right q, s.pages q, s.sequence q, s.has_pinned q, s.structure q, s.table q, s.entry q, s.walks q)

reclaims_rest : (s : CoreState) (a p q : ℕ) → rest q (run s (reclaims_all s a p)) ≡ rest q s
reclaims_rest s a p q = go (s.walks p == 0)
  where
    go : (none : Bool) → rest q (run s (if none then reclaim a p ∷ [] else [])) ≡ rest q s
    go true = refl
    go false = refl

added_rest : (s : CoreState) (a p page q : ℕ) (o : Option ℕ) → rest q (run s (adds_one a p page o)) ≡ rest q s
added_rest s a p page q None = refl
added_rest s a p page q (Some table) = refl

adds_rest : (s : CoreState) (a p page q n : ℕ) → rest q (run s (adds s a p page n)) ≡ rest q s
adds_rest s a p page q zero = refl
adds_rest s a p page q (suc n) =
    let one : List CoreEvent = adds_one a p page (lowest_table s) in
    ap (rest q) (run_behind s one (adds (run s one) a p page n)) ∙ adds_rest (run s one) a p page q n ∙ added_rest s a p page q (lowest_table s)

all_rest : (s : CoreState) (a p page q : ℕ) → rest q (run s (adds_all s a p page)) ≡ rest q s
all_rest s a p page q = go (has_enough s p page)
  where
    go : (enough : Bool) → rest q (run s (if enough then adds s a p page (lacks (tree_in s p) page) else [])) ≡ rest q s
    go true = adds_rest s a p page q (lacks (tree_in s p) page)
    go false = refl

pub grows_rest : (s : CoreState) (a p page q : ℕ) → rest q (run s (grows_all s a p page)) ≡ rest q s
grows_rest s a p page q =
    let first : List CoreEvent = reclaims_all s a p in
    ap (rest q) (run_behind s first (adds_all (run s first) a p page)) ∙ all_rest (run s first) a p page q ∙ reclaims_rest s a p q

taken_rest : (s : CoreState) (a p page q : ℕ) (o : Option ℕ) → rest q (run s (takes_one a p page o)) ≡ rest q s
taken_rest s a p page q None = refl
taken_rest s a p page q (Some table) = refl

takes_rest : (s : CoreState) (a p page q n : ℕ) → rest q (run s (takes_out s a p page n)) ≡ rest q s
takes_rest s a p page q zero = refl
takes_rest s a p page q (suc n) =
    let one : List CoreEvent = takes_one a p page (detachable (tree_in s p) page) in
    ap (rest q) (run_behind s one (takes_out (run s one) a p page n)) ∙ takes_rest (run s one) a p page q n ∙ taken_rest s a p page q (detachable (tree_in s p) page)

pub retires_rest : (s : CoreState) (a p page q : ℕ) → rest q (run s (retires_all s a p page)) ≡ rest q s
retires_rest s a p page q =
    let first : List CoreEvent = takes_out s a p page 3 in
    ap (rest q) (run_behind s first (reclaims_all (run s first) a p)) ∙ reclaims_rest (run s first) a p q ∙ takes_rest s a p page q 3

-- ---- a process and its tables

-- the process with these tables
abbrev pub tabled : SpaceValue → TablesValue → SpaceValue
tabled space v =
    record space { entry = v.tree.entry; place = v.tree.place; retired = v.limbo.retired; walks = v.limbo.walks }

pub tables_shown : (p : ℕ) (space : SpaceValue) (v : TablesValue) (pool : PoolValue) (s : CoreState) → ShowsPool pool s → ShowsSpace p (tabled space v) s → ShowsTables p (record { tables = v; pool = pool }) s
tables_shown p space v pool s free h =
    record { entry = λ i page. h.entry page i; place = h.place; retired = h.retired; walks = h.walks; free = free }

shown_tabled : (p : ℕ) (space : SpaceValue) (v : TablesValue) (b : Both) (s t : CoreState) → rest p t ≡ rest p s → ShowsSpace p (tabled space v) s → ShowsTables p b t → ShowsPool b.pool t × ShowsSpace p (tabled space b.tables) t
shown_tabled p space v b s t same h tables = (
  tables.free,
  record {
    right = λ page. ap (λ (r : Rest). r.0 page) same ∙ h.right page;
    pages = ap (λ (r : Rest). r.1) same ∙ h.pages;
    entry = λ page. ap (λ (entry : ℕ → _). entry page) tables.entry;
    sequence = ap (λ (r : Rest). r.2) same ∙ h.sequence;
    has_pinned = ap (λ (r : Rest). r.3) same ∙ h.has_pinned;
    structure = ap (λ (r : Rest). r.4) same ∙ h.structure;
    table = ap (λ (r : Rest). r.5) same ∙ h.table;
    walks = tables.walks;
    place = tables.place;
    retired = tables.retired;
  },
)

-- what shows the tables after events of growth shows the process then, and so it is after events of shrinking
pub grown_leads : (p a page : ℕ) (space : SpaceValue) (v : TablesValue) (b : Both) (s : CoreState) → ShowsSpace p (tabled space v) s → ShowsTables p b (run s (grows_all s a p page)) → ShowsPool b.pool (run s (grows_all s a p page)) × ShowsSpace p (tabled space b.tables) (run s (grows_all s a p page))
grown_leads p a page space v b s h tables = shown_tabled p space v b s (run s (grows_all s a p page)) (grows_rest s a p page p) h tables

pub shrunk_leads : (p a page : ℕ) (space : SpaceValue) (v : TablesValue) (b : Both) (s : CoreState) → ShowsSpace p (tabled space v) s → ShowsTables p b (run s (retires_all s a p page)) → ShowsPool b.pool (run s (retires_all s a p page)) × ShowsSpace p (tabled space b.tables) (run s (retires_all s a p page))
shrunk_leads p a page space v b s h tables = shown_tabled p space v b s (run s (retires_all s a p page)) (retires_rest s a p page p) h tables

-- another process is shown as it was, where its tables are
pub other_shown : (q : ℕ) (space : SpaceValue) (s t : CoreState) → rest q t ≡ rest q s → t.place q ≡ s.place q → t.retired q ≡ s.retired q → ShowsSpace q space s → ShowsSpace q space t
other_shown q space s t same place retired h =
    record {
      right = λ page. ap (λ (r : Rest). r.0 page) same ∙ h.right page;
      pages = ap (λ (r : Rest). r.1) same ∙ h.pages;
      entry = λ page. ap (λ (r : Rest). r.6 page) same ∙ h.entry page;
      sequence = ap (λ (r : Rest). r.2) same ∙ h.sequence;
      has_pinned = ap (λ (r : Rest). r.3) same ∙ h.has_pinned;
      structure = ap (λ (r : Rest). r.4) same ∙ h.structure;
      table = ap (λ (r : Rest). r.5) same ∙ h.table;
      walks = ap (λ (r : Rest). r.7) same ∙ h.walks;
      place = place ∙ h.place;
      retired = retired ∙ h.retired;
    }

-- ---- what growing comes to, in one equation

pub grown_by : {T E : Type 0} (r : Result T E) (b new : Both) (page : ℕ) → is_err r ≡ wants_tables page b → OnOk r (new ≡ grows page (lacks b.tables.tree page) (reclaims b)) → OnErr r (new ≡ reclaims b) → new ≡ grown page b
grown_by (Ok v) b new page refused ok err = ok ∙ ap (λ (wants : Bool). if wants then reclaims b else grows page (lacks b.tables.tree page) (reclaims b)) refused
grown_by (Err e) b new page refused ok err = err ∙ ap (λ (wants : Bool). if wants then reclaims b else grows page (lacks b.tables.tree page) (reclaims b)) refused

-- the pool is of as many tables as before

pub reclaims_pool : (b : Both) → (reclaims b).pool.tables ≡ b.pool.tables
reclaims_pool b = go (b.tables.limbo.walks == 0)
  where
    go : (none : Bool) → (if none then freed b.tables.limbo.retired b.pool else b.pool).tables ≡ b.pool.tables
    go true = refl
    go false = refl

takes_pool : (page : ℕ) (o : Option ℕ) (b : Both) → (takes page o b).pool.tables ≡ b.pool.tables
takes_pool page None b = refl
takes_pool page (Some table) b = refl

grows_pool : (page n : ℕ) (b : Both) → (grows page n b).pool.tables ≡ b.pool.tables
grows_pool page zero b = refl
grows_pool page (suc n) b = grows_pool page n _ ∙ takes_pool page _ b

pub grown_pool : (page : ℕ) (b : Both) → (grown page b).pool.tables ≡ b.pool.tables
grown_pool page b = go (wants_tables page b)
  where
    go : (wants : Bool) → (if wants then reclaims b else grows page (lacks b.tables.tree page) (reclaims b)).pool.tables ≡ b.pool.tables
    go true = reclaims_pool b
    go false = grows_pool page (lacks b.tables.tree page) (reclaims b) ∙ reclaims_pool b

-- and as many walks run

cleared_walks : (v : LimboValue ℕ) → (cleared v).walks ≡ v.walks
cleared_walks v = go (v.walks == 0)
  where
    go : (none : Bool) → (if none then record v { retired = [] } else v).walks ≡ v.walks
    go true = refl
    go false = refl

takes_walks : (page : ℕ) (o : Option ℕ) (b : Both) → (takes page o b).tables.limbo.walks ≡ b.tables.limbo.walks
takes_walks page None b = refl
takes_walks page (Some table) b = refl

grows_walks : (page n : ℕ) (b : Both) → (grows page n b).tables.limbo.walks ≡ b.tables.limbo.walks
grows_walks page zero b = refl
grows_walks page (suc n) b = grows_walks page n _ ∙ takes_walks page _ b

pub grown_walks : (page : ℕ) (b : Both) → (grown page b).tables.limbo.walks ≡ b.tables.limbo.walks
grown_walks page b = go (wants_tables page b)
  where
    go : (wants : Bool) → (if wants then reclaims b else grows page (lacks b.tables.tree page) (reclaims b)).tables.limbo.walks ≡ b.tables.limbo.walks
    go true = cleared_walks b.tables.limbo
    go false = grows_walks page (lacks b.tables.tree page) (reclaims b) ∙ cleared_walks b.tables.limbo

retires_walks : (o : Option ℕ) (v : TablesValue) → (retires o v).limbo.walks ≡ v.limbo.walks
retires_walks None v = refl
retires_walks (Some table) v = refl

shrinks_walks : (page n : ℕ) (v : TablesValue) → (shrinks page n v).limbo.walks ≡ v.limbo.walks
shrinks_walks page zero v = refl
shrinks_walks page (suc n) v = shrinks_walks page n _ ∙ retires_walks _ v

pub shrunk_walks : (page : ℕ) (b : Both) → (shrunk page b).tables.limbo.walks ≡ b.tables.limbo.walks
shrunk_walks page b = cleared_walks (shrinks page 3 b.tables).limbo ∙ shrinks_walks page 3 b.tables

-- so only where tables stand, and which are taken out, is another
pub same_but_tables : (space : SpaceValue) (v w : TablesValue) → w.tree.entry ≡ v.tree.entry → w.limbo.walks ≡ v.limbo.walks → tabled space w ≡ record (tabled space v) { place = w.tree.place; retired = w.limbo.retired }
same_but_tables space v w entry walks = λ i. record space { entry = entry i; place = w.tree.place; retired = w.limbo.retired; walks = walks i }

pub not_not : (b : Bool) → not (not b) ≡ b
not_not true = refl
not_not false = refl
