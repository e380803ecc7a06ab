-- The events of page tables in a turn: they change tables and nothing else, tell nothing, and invalidate no page.
use Rattle.std.proofs.Common.{◌≡◌, ℕ, ◌==◌, ◌+◌, ◌||◌, not, is_some, Bool, true, false, if◌then◌else◌, List, [], ◌∷◌, ◌++◌, Option, Some, None, ◌⊎◌, zero, suc, refl, ap, ◌∙◌}
use Rattle.gup_base.specs.declared.entry.Rights.{Rights}
use Rattle.gup_spec_tables.specs.Tables.{lacks, detachable}
use Rattle.gup_spec_events.specs.State.{CoreState}
use Rattle.gup_spec_events.specs.Event.{CoreEvent, happens, run, tree_in, add_table, take_out, reclaim}
use Rattle.gup_spec_events.specs.Growth.{reclaims, lowest_table, adds_one, adds, has_enough, adds_all, grows, takes_one, takes_out, retires}
use Rattle.gup_law_events.specs.Law.{all_told}
use Rattle.gup_law_tables.specs.Standing.{IsButForTables}
use Rattle.gup_spec_turns.specs.Emptying.{invalidate, invalidated_by, has_page}
use Rattle.gup_spec_turns.specs.TableTurns.{if_mapped, retires_at, retires_mapped}
use Rattle.gup_law_turns.proofs.CalmStates.{Strand, AreTurnEvents, IsTurnEvent, adding, taking_table, reclaiming}

-- of actor a, and of the tables of process q
pub data IsTableEvent (a q : ℕ) : CoreEvent → Type 0 where
  adds_it : (page table : ℕ) → IsTableEvent a q (add_table a q page table)
  takes_it : (page table : ℕ) → IsTableEvent a q (take_out a q page table)
  reclaims_all : IsTableEvent a q (reclaim a q)

abbrev pub AreTableEvents : (a q : ℕ) → List CoreEvent → Type 0
AreTableEvents a q [] = Unit {0}
AreTableEvents a q (e ∷ es) = IsTableEvent a q e × AreTableEvents a q es

-- which lists are such

are_behind : (a q : ℕ) (before es : List CoreEvent) → AreTableEvents a q before → AreTableEvents a q es → AreTableEvents a q (before ++ es)
are_behind a q [] es first more = more
are_behind a q (e ∷ before) es first more = (first.0, are_behind a q before es first.1 more)

-- growth takes no table out
pub data AddsTables (a q : ℕ) : CoreEvent → Type 0 where
  adds_one_to : (page table : ℕ) → AddsTables a q (add_table a q page table)
  frees_all : AddsTables a q (reclaim a q)

abbrev pub OnlyAdds : (a q : ℕ) → List CoreEvent → Type 0
OnlyAdds a q [] = Unit {0}
OnlyAdds a q (e ∷ es) = AddsTables a q e × OnlyAdds a q es

adds_behind : (a q : ℕ) (before es : List CoreEvent) → OnlyAdds a q before → OnlyAdds a q es → OnlyAdds a q (before ++ es)
adds_behind a q [] es first more = more
adds_behind a q (e ∷ before) es first more = (first.0, adds_behind a q before es first.1 more)

reclaims_add : (s : CoreState) (a q : ℕ) → OnlyAdds a q (reclaims s a q)
reclaims_add s a q = go (s.walks q == 0)
  where
    go : (b : Bool) → OnlyAdds a q (if b then reclaim a q ∷ [] else [])
    go true = (frees_all, tt)
    go false = tt

one_adds : (a q page : ℕ) (o : Option ℕ) → OnlyAdds a q (adds_one a q page o)
one_adds a q page None = tt
one_adds a q page (Some table) = (adds_one_to page table, tt)

adds_add : (s : CoreState) (a q page n : ℕ) → OnlyAdds a q (adds s a q page n)
adds_add s a q page zero = tt
adds_add s a q page (suc n) =
    let one : List CoreEvent = adds_one a q page (lowest_table s) in
    adds_behind a q one (adds (run s one) a q page n) (one_adds a q page (lowest_table s)) (adds_add (run s one) a q page n)

adds_all_add : (s : CoreState) (a q page : ℕ) → OnlyAdds a q (adds_all s a q page)
adds_all_add s a q page = go (has_enough s q page)
  where
    go : (b : Bool) → OnlyAdds a q (if b then adds s a q page (lacks (tree_in s q) page) else [])
    go true = adds_add s a q page (lacks (tree_in s q) page)
    go false = tt

pub grows_add : (s : CoreState) (a q page : ℕ) → OnlyAdds a q (grows s a q page)
grows_add s a q page =
    adds_behind a q (reclaims s a q) (adds_all (run s (reclaims s a q)) a q page) (reclaims_add s a q) (adds_all_add (run s (reclaims s a q)) a q page)

adding_are : (a q : ℕ) (es : List CoreEvent) → OnlyAdds a q es → AreTableEvents a q es
adding_are a q [] adds = tt
adding_are a q (e ∷ es) adds = (go adds.0, adding_are a q es adds.1)
  where
    go : {e : CoreEvent} → AddsTables a q e → IsTableEvent a q e
    go (adds_one_to page table) = adds_it page table
    go frees_all = reclaims_all

pub grows_are : (s : CoreState) (a q page : ℕ) → AreTableEvents a q (grows s a q page)
grows_are s a q page = adding_are a q (grows s a q page) (grows_add s a q page)

took_is : (a q page : ℕ) (o : Option ℕ) → AreTableEvents a q (takes_one a q page o)
took_is a q page None = tt
took_is a q page (Some table) = (takes_it page table, tt)

takes_are : (s : CoreState) (a q page n : ℕ) → AreTableEvents a q (takes_out s a q page n)
takes_are s a q page zero = tt
takes_are s a q page (suc n) =
    let one : List CoreEvent = takes_one a q page (detachable (tree_in s q) page) in
    are_behind a q one (takes_out (run s one) a q page n) (took_is a q page (detachable (tree_in s q) page)) (takes_are (run s one) a q page n)

pub retires_are : (s : CoreState) (a q page : ℕ) → AreTableEvents a q (retires s a q page)
retires_are s a q page =
    let t : CoreState = run s (takes_out s a q page 3) in
    are_behind a q (takes_out s a q page 3) (reclaims t a q) (takes_are s a q page 3) (adding_are a q (reclaims t a q) (reclaims_add t a q))

pub mapped_are : (s : CoreState) (a q page : ℕ) (right : Option Rights) → AreTableEvents a q (retires_at s a (if_mapped q page right))
mapped_are s a q page None = tt
mapped_are s a q page (Some rights) = retires_are s a q page

-- what is true of the events at each mapped page is true of them all
pub all_mapped_are : (s : CoreState) (a c : ℕ) (right : ℕ → Option Rights) (first n : ℕ) → AreTableEvents a c (retires_mapped s a c right first n)
all_mapped_are s a c right first zero = tt
all_mapped_are s a c right first (suc n) =
    let es : List CoreEvent = retires_at s a (if_mapped c first (right first)) in
    are_behind a c es (retires_mapped (run s es) a c right (first + 1) n) (mapped_are s a c first (right first)) (all_mapped_are (run s es) a c right (first + 1) n)

-- what they do

pub tables_only : (s : CoreState) (a q : ℕ) (es : List CoreEvent) → AreTableEvents a q es → IsButForTables s (run s es)
tables_only s a q [] are = refl
tables_only s a q (e ∷ es) are = go are.0 (tables_only (happens s e) a q es are.1)
  where
    go : {e : CoreEvent} → IsTableEvent a q e → IsButForTables (happens s e) (run (happens s e) es) → IsButForTables s (run (happens s e) es)
    go (adds_it page table) rest = rest
    go (takes_it page table) rest = rest
    go reclaims_all rest = rest

pub untold : (a q : ℕ) (es : List CoreEvent) → AreTableEvents a q es → all_told es ≡ []
untold a q [] are = refl
untold a q (e ∷ es) are = go are.0 (untold a q es are.1)
  where
    go : {e : CoreEvent} → IsTableEvent a q e → all_told es ≡ [] → all_told (e ∷ es) ≡ []
    go (adds_it page table) rest = rest
    go (takes_it page table) rest = rest
    go reclaims_all rest = rest

pub kinds_are : (a p c q : ℕ) (strand : Strand) (es : List CoreEvent) → (q ≡ p) ⊎ (q ≡ c) → AreTableEvents a q es → AreTurnEvents a p c strand es
kinds_are a p c q strand [] own are = tt
kinds_are a p c q strand (e ∷ es) own are = (go are.0, kinds_are a p c q strand es own are.1)
  where
    go : {e : CoreEvent} → IsTableEvent a q e → IsTurnEvent a p c strand e
    go (adds_it page table) = adding q page table own
    go (takes_it page table) = taking_table q page table own
    go reclaims_all = reclaiming q own

pub invalidates_none : (a q : ℕ) (es : List CoreEvent) → AreTableEvents a q es → (p page : ℕ) → invalidate es p page ≡ false
invalidates_none a q [] are p page = refl
invalidates_none a q (e ∷ es) are p page = go are.0 (invalidates_none a q es are.1 p page)
  where
    go : {e : CoreEvent} → IsTableEvent a q e → invalidate es p page ≡ false → invalidate (e ∷ es) p page ≡ false
    go (adds_it page table) rest = rest
    go (takes_it page table) rest = rest
    go reclaims_all rest = rest

pub invalidate_behind : (before es : List CoreEvent) (p page : ℕ) → invalidate (before ++ es) p page ≡ (invalidate before p page || invalidate es p page)
invalidate_behind [] es p page = refl
invalidate_behind (e ∷ before) es p page = ap (λ (b : Bool). has_page (invalidated_by e) p page || b) (invalidate_behind before es p page) ∙ assoc (has_page (invalidated_by e) p page) (invalidate before p page) (invalidate es p page)
  where
    assoc : (x y z : Bool) → (x || (y || z)) ≡ ((x || y) || z)
    assoc true y z = refl
    assoc false y z = refl
