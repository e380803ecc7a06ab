-- Whether processes have come into being, and which words of which pages are copied while they grow.
use Rattle.std.specs.Prelude.{ℕ, Bool, None, IsSome}
use Rattle.std.specs.BTreeMap.{get}
use Rattle.std.specs.Ordering.{nat_cmp}
use Rattle.gup_plain.specs.State.{Birth}
use Rattle.gup_exec_parts.specs.Space.{SpaceState, seen, blank}
use Rattle.gup_exec_parts.specs.Tables.{at_place}
use Rattle.gup_exec_parts.specs.declared.space.Space.{Space}
use Rattle.gup_exec_rows.specs.declared.procs.Procs.{Procs}

-- one process
unfoldable pub space_at : Procs → ℕ → SpaceState
space_at procs = at_place seen blank procs.spaces.items

unfoldable pub births : Procs → ℕ → Birth
births procs p = (space_at procs p).birth

-- processes, pages and words
unfoldable pub copies : Procs → ℕ → ℕ → ℕ → Bool
copies procs p = (space_at procs p).copied

-- whether there is room to say which words of the page are copied
unfoldable pub HasRoom : Procs → (p page : ℕ) → Type 0
HasRoom procs p page = IsSome (at_place (λ (s : Space). get nat_cmp s.copied page) None procs.spaces.items p)
