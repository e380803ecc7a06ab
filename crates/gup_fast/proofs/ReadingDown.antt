-- A walk reads down a page's path: what it reads in a state is what it reads in the process that the state shows.
use Rattle.std.specs.Prelude.{◌≡◌, ℕ, ◌<◌, ◌==◌, ◌&&◌, ◌||◌, not, nat_lt, Bool, true, false, if◌then◌else◌, List, [], ◌∷◌, length, Option, Some, None, IfSome, IsSome, is_some}
use Rattle.std.proofs.Common.{refl, sym, ap, subst, ◌∙◌, arith}
use Rattle.gup_base.specs.declared.entry.Entry.{Entry}
use Rattle.gup_base.specs.declared.entry.Want.{Want}
use Rattle.gup_frames.specs.Frames.{FramesValue, IsFrame}
use Rattle.gup_space.specs.Shows.{ShowsFrames, ShowsSpace}
use Rattle.gup_space.specs.Space.{SpaceValue, tables_in}
use Rattle.gup_spec_tables.specs.Tables.{TreeValue, table_at, on_path, lacks}
use Rattle.gup_spec_tables.specs.Paths.{entry_at, is_there, and_table, path_to}
use Rattle.gup_spec_events.specs.State.{CoreState, Job, WalkStep, walking, ready, read, stopped}
use Rattle.gup_spec_events.specs.Event.{run, tree_in, step_read}
use Rattle.gup_spec_events.specs.Descent.{reads_down, step_down}
use Rattle.gup_law_tables.proofs.DownPaths.{stands_there}
use Rattle.gup_law_tables.proofs.ReadDown.{leads_down}
use Rattle.gup_plain.specs.Put.{put}
use Rattle.gup_fast.specs.declared.walk.GiveUp.TheVariants.{Rights, MovableFrame}
use Rattle.gup_fast.specs.Walks.{WalkValue, AreWalkEvents, ShowsWalk, at, at_stage, stopped_if, step_after_read, entry_down_in, walks_after}
use Rattle.gup_fast.proofs.Begins.{change, own}
use Rattle.gup_fast.proofs.ShownPaths.{entry_shown, path_shown}

-- the entry is wrong for the pin in the state exactly where it is so by the frames
stops_same : (page : ℕ) (path : List ℕ) (e : Entry) (m : ℕ) (wrong movable : Bool) → (if wrong || movable then stopped else read page path e) ≡ stopped_if (if wrong then Some Rights else if movable then Some (MovableFrame m) else None) (read page path e)
stops_same page path e m true movable = refl
stops_same page path e m false true = refl
stops_same page path e m false false = refl

step_same : (F : FramesValue) (s : CoreState) (want : Want) (page : ℕ) (path : List ℕ) (o : Option Entry) → s.movable ≡ F.movable → step_read s want.write want.long page path o ≡ step_after_read F want page path o
step_same F s want page path None movable = refl
step_same F s want page path (Some e) movable =
    ap (λ (m : ℕ). if (want.write && not e.writable) || (want.long && nat_lt e.frame m) then stopped else read page path e) movable
    ∙ stops_same page path e e.frame (want.write && not e.writable) (want.long && nat_lt e.frame F.movable)

down_same : (F : FramesValue) (S : SpaceValue) (s : CoreState) (p page : ℕ) (want : Want) → ShowsFrames F s → ShowsSpace p S s → step_down s p want.write want.long page ≡ step_after_read F want page (path_to (tables_in S) page) (entry_down_in (tables_in S) page)
down_same F S s p page want frames space =
    let t : TreeValue = tree_in s p in
    let v : TreeValue = tables_in S in
    ap (λ (path : List ℕ). step_read s want.write want.long page path (entry_at t path page)) (path_shown t v page space.place)
    ∙ ap (step_read s want.write want.long page (path_to v page)) (entry_shown t v page space.place (path_to v page) (space.entry page))
    ∙ step_same F s want page (path_to v page) (entry_down_in v page) frames.movable

-- a walk that runs goes on, and as many run
goes_on : (w w' : WalkValue) (step : WalkStep) (walks : ℕ) → w.stage ≡ at ready → w' ≡ at_stage (at step) w → walks_after w.stage w'.stage walks ≡ walks
goes_on w w' step walks is walk = rw walk (rw is refl)

pub reading_down : (F : FramesValue) (S : SpaceValue) (w w' : WalkValue) (page : ℕ) → w.stage ≡ at ready → w' ≡ at_stage (at (step_after_read F w.want page (path_to (tables_in S) page) (entry_down_in (tables_in S) page))) w
    → AreWalkEvents (change F F S S) w w' (λ s a p. reads_down s a p w.want.write w.want.long w.sequence page)
reading_down F S w w' page is walk s a p frames space shown =
    let step : WalkStep = step_after_read F w.want page (path_to (tables_in S) page) (entry_down_in (tables_in S) page) in
    let new : Job = walking p w.want.write w.want.long w.sequence (step_down s p w.want.write w.want.long page) in
    let t : CoreState = record s { job = put a new s.job } in
    let led : run s (reads_down s a p w.want.write w.want.long w.sequence page) ≡ t = leads_down s a p w.sequence page w.want.write w.want.long in
    let counted = goes_on w w' step S.walks is walk in
    subst (λ (x : CoreState). ShowsFrames F x × ShowsSpace p (record S { walks = walks_after w.stage w'.stage S.walks }) x × ShowsWalk a p w' x) (sym led) (
      record { movable = frames.movable; normal = frames.normal; count = frames.count; mark = frames.mark; word = frames.word; needs_tables = frames.needs_tables },
      record { right = space.right; pages = space.pages; entry = space.entry; sequence = space.sequence; has_pinned = space.has_pinned; structure = space.structure; table = space.table; walks = space.walks ∙ sym counted; place = space.place; retired = space.retired },
      subst (λ (x : WalkValue). ShowsWalk a p x t) (sym walk)
          (record { job = own a new s.job ∙ ap (λ (k : WalkStep). walking p w.want.write w.want.long w.sequence k) (down_same F S s p page w.want frames space); taken = shown.taken }),
    )

-- an entry that is read is the page's
entry_there : (v : TreeValue) (path : List ℕ) (page : ℕ) (F : FramesValue) → IfSome (v.entry page) (λ e. IsFrame F e.frame) → IfSome (entry_at v path page) (λ e. IsFrame F e.frame)
entry_there v path page F there = go (is_there v path page && (length path == 3))
  where
    go : (b : Bool) → IfSome (if b then v.entry page else None) (λ e. IsFrame F e.frame)
    go true = there
    go false = tt

pub read_there : (v : TreeValue) (page : ℕ) (F : FramesValue) (e : Entry) → IfSome (v.entry page) (λ e. IsFrame F e.frame) → entry_down_in v page ≡ Some e → IsFrame F e.frame
read_there v page F e there is = subst (λ (o : Option Entry). IfSome o (λ e. IsFrame F e.frame)) is (entry_there v (path_to v page) page F there)

-- where a table is missing there is no entry
pub none_down : (v : TreeValue) (page : ℕ) → 0 < lacks v page → (IsSome (v.entry page) → lacks v page ≡ 0) → entry_down_in v page ≡ None
none_down v page missing full = go (is_there v (path_to v page) page && (length (path_to v page) == 3)) (v.entry page) refl
  where
    go : (b : Bool) (o : Option Entry) → v.entry page ≡ o → (if b then v.entry page else None) ≡ None
    go false o is = refl
    go true None is = is
    go true (Some e) is = let none : lacks v page ≡ 0 = full (ap is_some is) in absurd (omega (arith, none, missing))

-- where all are there, what is read at the end is the page's entry
pub whole_down : (v : TreeValue) (page last second third : ℕ) → path_to v page ≡ last ∷ second ∷ third ∷ [] → entry_down_in v page ≡ v.entry page
whole_down v page last second third is =
    let at = first (table_at v.place (on_path 1 page)) (table_at v.place (on_path 2 page)) (table_at v.place (on_path 3 page)) is in
    ap (λ (path : List ℕ). entry_at v path page) is ∙ ap (λ (b : Bool). if b && true then v.entry page else None) (stands_there v page 1 last at)
  where
    first : (o1 o2 o3 : Option ℕ) → and_table o1 (and_table o2 (and_table o3 [])) ≡ last ∷ second ∷ third ∷ [] → o1 ≡ Some last
    first (Some l) (Some s) (Some t) is = cc
    first (Some l) (Some s) None is = absurd (cc)
    first (Some l) None (Some t) is = absurd (cc)
    first (Some l) None None is = absurd (cc)
    first None (Some s) (Some t) is = absurd (cc)
    first None (Some s) None is = absurd (cc)
    first None None (Some t) is = absurd (cc)
    first None None None is = absurd (cc)

-- and where one is missing, there is none
pub none_same : (v : TreeValue) (page : ℕ) → 0 < lacks v page → (IsSome (v.entry page) → lacks v page ≡ 0) → entry_down_in v page ≡ v.entry page
none_same v page missing full = none_down v page missing full ∙ sym (go (v.entry page) refl)
  where
    go : (o : Option Entry) → v.entry page ≡ o → v.entry page ≡ None
    go None is = is
    go (Some e) is = let none : lacks v page ≡ 0 = full (ap is_some is) in absurd (omega (arith, none, missing))
