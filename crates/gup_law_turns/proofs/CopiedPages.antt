-- The child of a fork that copies a page lacks no table for it, however long that takes: whoever has a frame for the copy has found
-- that so, growth takes no table out, and what goes is of none that grows.
use Rattle.std.proofs.Common.{◌≡◌, ℕ, ◌==◌, Bool, true, false, if◌then◌else◌, List, [], ◌∷◌, Option, Some, None, refl, sym, ap, subst, ◌∙◌, ◌+◌, length, arith}
use Rattle.gup_base.specs.declared.entry.Zone.{Zone}
use Rattle.gup_base.specs.declared.entry.Want.{Want}
use Rattle.std.proofs.lemmas.Bool.Decides.{nat_tests}
use Rattle.gup_base.specs.declared.entry.Entry.{Entry}
use Rattle.gup_base.specs.declared.entry.Rights.{Rights}
use Rattle.gup_plain.specs.Event.{page_numbers}
use Rattle.gup_plain.specs.State.{growing, Birth}
use Rattle.gup_plain.specs.declared.note.What.{What}
use Rattle.gup_plain.specs.declared.note.What.TheVariants.{Done}
use Rattle.gup_script.specs.declared.op.Op.{Op}
use Rattle.gup_script.specs.declared.op.Op.TheVariants.{Unmap, Pin, Fork, Exit, Move}
use Rattle.gup_spec_tables.specs.Tables.{lacks}
use Rattle.gup_spec_events.specs.State.{CoreState, Job, idle, forking, copying}
use Rattle.gup_spec_events.specs.Event.{CoreEvent, Can, has_tables, tree_in, happens, run}
use Rattle.gup_spec_events.specs.Growth.{grows}
use Rattle.gup_spec_events.specs.Invariant.{AllCan}
use Rattle.gup_law_tables.specs.Standing.{TablesStand, IsButForTables}
use Rattle.gup_law_tables.proofs.KeptPaths.{added_full}
use Rattle.gup_law_tables.proofs.TableRuns.{stand_run}
use Rattle.gup_spec_journal.specs.Place.{Place, Doer, place_after}
use Rattle.gup_spec_turns.specs.PinPlace.{StandsAtPage}
use Rattle.gup_spec_turns.specs.TableTurns.{Spot, grows_at, fork_shrinks, shrinks_by, if_failed, retires_mapped}
use Rattle.gup_law_turns.specs.Standing.{CopyStands}
use Rattle.gup_law_turns.proofs.TableLists.{AddsTables, adds_one_to, frees_all, OnlyAdds, grows_add, grows_are, tables_only}
use Rattle.gup_law_turns.proofs.TurnShapes.{FitsFork, FitsMove, FitsOp}
use Rattle.gup_law_turns.proofs.ShownTurns.{FitsNext}

-- the actor copies a page
abbrev pub IsCopyJob : Job → Type 0
IsCopyJob (forking p c done (copying page word)) = Unit {0}
IsCopyJob job = ⊥

abbrev pub IsCopying : CoreState → (a : ℕ) → Type 0
IsCopying s a = IsCopyJob (s.job a)

-- ---- after a turn of its own

-- whoever copies no page, or has no frame for that, keeps nothing
pub not_copying : (s : CoreState) (a : ℕ) → (IsCopying s a → ⊥) → CopyStands s a
not_copying s a none p c page word to done job has = absurd (none (subst IsCopyJob (sym job) tt))

pub no_copy : (s : CoreState) (a : ℕ) (job : Job) → s.job a ≡ job → (IsCopyJob job → ⊥) → CopyStands s a
no_copy s a job is none = not_copying s a (λ copies. none (subst IsCopyJob is copies))

pub no_frame : (s : CoreState) (a : ℕ) → s.prepared a ≡ None → CopyStands s a
no_frame s a none p c page word to done job has = absurd (cc (sym none ∙ has))

pub copies_on : (s : CoreState) (a p c page word : ℕ) (done : List ℕ) → s.job a ≡ forking p c done (copying page word) → has_tables s c page ≡ true → CopyStands s a
copies_on s a p c page word done is has q d g n to pages job prepared =
    let same : forking p c done (copying page word) ≡ forking q d pages (copying g n) = sym is ∙ job in
    let child : c ≡ d = cc same in
    let here : page ≡ g = cc same in
    subst (λ (k : ℕ). has_tables s k g ≡ true) child (subst (λ (k : ℕ). has_tables s c k ≡ true) here has)

-- ---- an operation that is no fork

abbrev pub IsNoFork : Op → Type 0
IsNoFork (Fork child) = ⊥
IsNoFork op = Unit {0}

pub other_op : (op : Op) → ((child : ℕ) → op ≡ Fork child → ⊥) → IsNoFork op
other_op (Fork child) none = none child refl
other_op op none = tt

rests_copy_none : (s : CoreState) (a : ℕ) → s.job a ≡ idle → IsCopying s a → ⊥
rests_copy_none s a is copies = subst IsCopyJob is copies

pin_copies_none : (s : CoreState) (a p page n got : ℕ) (want : Want) (fast : Bool) (job : Job) → StandsAtPage s a p page n got want fast job → IsCopyJob job → ⊥
pin_copies_none s a p page n got want fast (forking q c done step) at copies = at
pin_copies_none s a p page n got want fast job at copies = copies

move_copies_none : (s : CoreState) (a p page : ℕ) (zone : Zone) (place : Place) (job : Job) → FitsMove s a p page zone place job → IsCopyJob job → ⊥
move_copies_none s a p page zone place (forking q c done step) fits copies = fits
move_copies_none s a p page zone place job fits copies = copies

pub fits_copy_none : (s : CoreState) (who : Doer) (op : Op) (place : Place) → IsNoFork op → FitsOp s who op place → IsCopying s who.actor → ⊥
fits_copy_none s who (Pin handle page n want fast) place other fits =
    pin_copies_none s who.actor who.proc (page + length (s.taken who.actor)) n (length (s.taken who.actor)) want fast (s.job who.actor) fits.at
fits_copy_none s who (Move proc page zone) place other fits = move_copies_none s who.actor who.proc page zone place (s.job who.actor) fits.2
fits_copy_none s who (Fork child) place other fits = λ copies. other
fits_copy_none s who Exit place other fits = rests_copy_none s who.actor fits.0
fits_copy_none s who op place other fits = rests_copy_none s who.actor fits.0.0

pub next_copies_none : (t : CoreState) (who : Doer) (op : Op) (place : Place) (whats : List What) → IsNoFork op → FitsNext t who (Some op) place whats → IsCopying t who.actor → ⊥
next_copies_none t who op place [] other fits = fits_copy_none t who op place other fits
next_copies_none t who op place (Done answer ∷ whats) other rests = rests_copy_none t who.actor rests.0
next_copies_none t who op place (what ∷ whats) other fits = next_copies_none t who op (place_after place what) whats other fits

-- ---- no table goes while a page is copied

growing_child : (u : CoreState) (a p child : ℕ) (place : Place) (job : Job) (prepared : Option ℕ) → FitsFork u a p child place job prepared → IsCopyJob job → u.birth child ≡ growing p
growing_child u a p child place (forking q c done (copying page word)) prepared fits copies = fits.1.0.birth
growing_child u a p child place job prepared fits copies = absurd copies

growing_keeps : (u : CoreState) (a p child : ℕ) (right : ℕ → Option Rights) (job : Job) → u.birth child ≡ growing p → fork_shrinks u a child right job ≡ []
growing_keeps u a p child right (forking q d done step) grows = ap (λ (b : Birth). if_failed b (retires_mapped u a child right 0 page_numbers)) grows
growing_keeps u a p child right job grows = refl

fits_none_goes : (t u : CoreState) (who : Doer) (op : Op) (far : ℕ) (place : Place) → FitsOp u who op place → IsCopying u who.actor → shrinks_by t u who.actor who.proc far op ≡ []
fits_none_goes t u who (Unmap page n) far place fits copies = absurd (rests_copy_none u who.actor fits.0.0 copies)
fits_none_goes t u who Exit far place fits copies = absurd (rests_copy_none u who.actor fits.0 copies)
fits_none_goes t u who (Fork child) far place fits copies =
    growing_keeps u who.actor who.proc child (u.right who.proc) (t.job who.actor) (growing_child u who.actor who.proc child place (u.job who.actor) (u.prepared who.actor) fits.1 copies)
fits_none_goes t u who op far place fits copies = refl

pub none_goes : (t u : CoreState) (who : Doer) (op : Op) (far : ℕ) (place : Place) (whats : List What) → FitsNext u who (Some op) place whats → IsCopying u who.actor → shrinks_by t u who.actor who.proc far op ≡ []
none_goes t u who op far place [] fits copies = fits_none_goes t u who op far place fits copies
none_goes t u who op far place (Done answer ∷ whats) rests copies = absurd (rests_copy_none u who.actor rests.0 copies)
none_goes t u who op far place (what ∷ whats) fits copies = none_goes t u who op far (place_after place what) whats fits copies

-- ---- growth leaves each page its tables

one_full : (s : CoreState) (a q : ℕ) {e : CoreEvent} → AddsTables a q e → TablesStand s → Can s e → (p page : ℕ) → lacks (tree_in s p) page ≡ 0 → lacks (tree_in (happens s e) p) page ≡ 0
one_full s a q (adds_one_to on table) stand can p page full = added_full s q on table stand can.2 can.3 can.4 p page full
one_full s a q frees_all stand can p page full = full

grown_full : (s : CoreState) (a q : ℕ) (es : List CoreEvent) → OnlyAdds a q es → TablesStand s → AllCan s es → (p page : ℕ) → lacks (tree_in s p) page ≡ 0 → lacks (tree_in (run s es) p) page ≡ 0
grown_full s a q [] adds stand can p page full = full
grown_full s a q (e ∷ es) adds stand can p page full =
    grown_full (happens s e) a q es adds.1 (stand_run s (e ∷ []) stand (can.0, tt)) can.1 p page (one_full s a q adds.0 stand can.0 p page full)

has_kept : (s t : CoreState) (p page : ℕ) → t.needs_tables ≡ s.needs_tables → (lacks (tree_in s p) page ≡ 0 → lacks (tree_in t p) page ≡ 0) → has_tables s p page ≡ true → has_tables t p page ≡ true
has_kept s t p page same kept = go s.needs_tables t.needs_tables same
  where
    go : (needs now : Bool) → now ≡ needs → (if needs then lacks (tree_in s p) page == 0 else true) ≡ true → (if now then lacks (tree_in t p) page == 0 else true) ≡ true
    go true true is has = let full : lacks (tree_in s p) page ≡ 0 = grind (arith, nat_tests, has) in grind (arith, nat_tests, kept full)
    go false false is has = refl
    go true false is has = refl
    go false true is has = absurd (cc is)

pub copy_grown : (s : CoreState) (a : ℕ) (at : Option Spot) → TablesStand s → AllCan s (grows_at s a at) → (b : ℕ) → CopyStands s b → CopyStands (run s (grows_at s a at)) b
copy_grown s a None stand can b copies = copies
copy_grown s a (Some at) stand can b copies =
    let es : List CoreEvent = grows s a at.proc at.page in
    let t : CoreState = run s es in
    let same : IsButForTables s t = tables_only s a at.proc es (grows_are s a at.proc at.page) in
    λ p c page word to done job has.
    has_kept s t c page (ap (λ (x : CoreState). x.needs_tables) same) (grown_full s a at.proc es (grows_add s a at.proc at.page) stand can c page)
    (copies p c page word to done (sym (ap (λ (x : CoreState). x.job b) same) ∙ job) (sym (ap (λ (x : CoreState). x.prepared b) same) ∙ has))
