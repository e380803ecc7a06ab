-- Events behind others.
use Rattle.std.proofs.Common.{◌≡◌, List, [], ◌∷◌, ◌++◌, refl, ◌∙◌}
use Rattle.gup_spec_events.specs.State.{CoreState}
use Rattle.gup_spec_events.specs.Event.{CoreEvent, happens, run, take_frame}
use Rattle.gup_spec_events.specs.Invariant.{AllCan}

pub run_behind : (s : CoreState) (before es : List CoreEvent) → run s (before ++ es) ≡ run (run s before) es
run_behind s [] es = refl
run_behind s (e ∷ before) es = run_behind (happens s e) before es

pub can_behind : (s : CoreState) (before es : List CoreEvent) → AllCan s before → AllCan (run s before) es → AllCan s (before ++ es)
can_behind s [] es can more = more
can_behind s (e ∷ before) es can more = (can.0, can_behind (happens s e) before es can.1 more)

-- whether entries need tables is said once for all
flag_stays : (s : CoreState) (e : CoreEvent) → (happens s e).needs_tables ≡ s.needs_tables
flag_stays s (take_frame a f) = refl
flag_stays s e = refl

pub flag_after : (s : CoreState) (es : List CoreEvent) → (run s es).needs_tables ≡ s.needs_tables
flag_after s [] = refl
flag_after s (e ∷ es) = flag_after (happens s e) es ∙ flag_stays s e
