-- Which page tables a lockless walk may be inside of, and what is true of them while it runs.
use Rattle.std.specs.Prelude.{◌≡◌, ℕ, Bool, true, List, []}
use Rattle.gup_spec_tables.specs.Tables.{is_among}
use Rattle.gup_spec_tables.specs.Paths.{KeepsPath}
use Rattle.gup_spec_events.specs.State.{CoreState, WalkStep, reading, read, grabbed, walking}
use Rattle.gup_spec_events.specs.Event.{tree_in}
use Rattle.gup_law_tables.specs.Standing.{has_table}

-- the path down which it has come, and the page whose path that is
abbrev pub step_path : WalkStep → List ℕ
step_path (reading page path) = path
step_path (read page path e) = path
step_path (grabbed page path e) = path
step_path step = []

abbrev pub path_page : WalkStep → ℕ
path_page (reading page path) = page
path_page (read page path e) = page
path_page (grabbed page path e) = page
path_page step = 0

-- The process has kept each table of the path: it stands where it stood, or was taken out.
pub record IsInside (s : CoreState) (p : ℕ) (step : WalkStep) : Type 0 where
  pub owned : (table : ℕ) → is_among (step_path step) table ≡ true → has_table s p table ≡ true
  pub kept : KeepsPath (tree_in s p) (step_path step) (path_page step)

-- so it is with each walk
abbrev pub WalksStand : CoreState → Type 0
WalksStand s =
    (a p sequence : ℕ) (write long : Bool) (step : WalkStep) → s.job a ≡ walking p write long sequence step → IsInside s p step
