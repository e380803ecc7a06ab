-- A machine has as many frames as its script says.
use Rattle.std.proofs.Common.{◌≡◌, ℕ, ◌≤◌, List, [], ◌∷◌, refl, sym, subst, ◌∙◌, arith}
use Rattle.gup_script.specs.Script.{ScriptValue}
use Rattle.gup_script.specs.Valid.{IsScript}
use Rattle.gup_frames.specs.Frames.{frames_of, frames_in}
use Rattle.gup_spec_events.specs.State.{CoreState}
use Rattle.gup_spec_events.specs.Event.{CoreEvent, load, happens, run}
use Rattle.gup_spec_turns.specs.Run.{RunState, run_start, run_after, core_turn_in, turned}
use Rattle.gup_core.specs.Machine.{MachineValue, Shows}

-- no event changes how many frames there are
abbrev pub IsSized : (s t : CoreState) → Type 0
IsSized s t = (t.movable ≡ s.movable) × (t.normal ≡ s.normal)

sized : (s : CoreState) (e : CoreEvent) → IsSized s (happens s e)
sized s (load a p page word f value) = (refl, refl)
sized s e = (refl, refl)

sized_run : (s : CoreState) (es : List CoreEvent) → IsSized s (run s es)
sized_run s [] = (refl, refl)
sized_run s (e ∷ es) =
    let one = sized s e in let rest = sized_run (happens s e) es in
    (rest.0 ∙ one.0, rest.1 ∙ one.1)

sized_turned : (script : ScriptValue) (r : RunState) (actors : List ℕ) → IsSized r.core (turned script r actors).core
sized_turned script r [] = (refl, refl)
sized_turned script r (a ∷ actors) =
    let one = sized_run r.core (core_turn_in script r a).events in let rest = sized_turned script (run_after script r a) actors in
    (rest.0 ∙ one.0, rest.1 ∙ one.1)

pub few_frames : (m : MachineValue) (r : RunState) → IsScript m.script → Shows m r → frames_in (frames_of m.parts.frames) ≤ 1024
few_frames m r valid h =
    let sizes : IsSized (run_start m.script).core r.core = subst (λ (x : RunState). IsSized (run_start m.script).core x.core) (sym h.reached.1) (sized_turned m.script (run_start m.script) h.reached.0) in
    let movable = h.parts.frames.movable in
    let normal = h.parts.frames.normal in
    let few = valid.few_frames in
    omega (arith, sizes.0, sizes.1, movable, normal, few)
