-- What an actor waits for is what it waits for in the state that the machine shows.
use Rattle.std.proofs.Common.{◌≡◌, ◌+◌, ◌++◌, ℕ, List, Option, Some, suc, sym, ap, ◌∙◌, subst, append_assoc, arith}
use Rattle.std.specs.Option.{IfSome}
use Rattle.gup_plain.specs.declared.note.Waiting.{Waiting}
use Rattle.gup_script.specs.Script.{ScriptValue}
use Rattle.gup_spec_turns.specs.Cause.{WaitsForBirthOrPin}
use Rattle.gup_spec_turns.specs.Run.{RunState, waiting_in}
use Rattle.gup_lines.specs.Text.{NamesWaiting}
use Rattle.gup_front.specs.Lines.{stuck_of}
use Rattle.gup_top.specs.Stuck.{stuck_lines}
use Rattle.gup_top.proofs.RunEnd.{names_process}
use Rattle.gup_top.proofs.text.push_stuck_lines.Goals as goal

names_it : (script seen : ScriptValue) → seen ≡ script → (r : RunState)
    → ((a : ℕ) (waiting : Waiting) → waiting_in script r a ≡ Some waiting → WaitsForBirthOrPin script waiting)
    → (a : ℕ) (waits : Option Waiting) → waits ≡ waiting_in seen r a → (w : Waiting) → waits ≡ Some w → NamesWaiting script w
names_it script seen same r named a waits shown w is =
    let here : waiting_in script r a ≡ Some w = ap (λ (s : ScriptValue). waiting_in s r a) (sym same) ∙ sym shown ∙ is in
    names_process script w (named a w here)

one_line_more : (script seen : ScriptValue) → seen ≡ script → (r : RunState) (before now after : List ℕ) (k a : ℕ) (waits : Option Waiting)
    → a ≡ k → waits ≡ waiting_in seen r a → now ≡ before ++ stuck_lines script r k → after ≡ now ++ stuck_of script a waits
    → after ≡ before ++ stuck_lines script r (k + 1)
one_line_more script seen same r before now after k a waits number shown so_far more =
    let here : waits ≡ waiting_in script r k =
    shown ∙ ap (λ (s : ScriptValue). waiting_in s r a) same ∙ ap (λ (b : ℕ). waiting_in script r b) number in
    let behind : suc k ≡ k + 1 = omega arith in
    let lines : after ≡ before ++ stuck_lines script r (suc k) =
    more
    ∙ ap (λ (ns : List ℕ). ns ++ stuck_of script a waits) so_far
    ∙ append_assoc before (stuck_lines script r k) (stuck_of script a waits)
    ∙ ap (λ (b : ℕ). before ++ (stuck_lines script r k ++ stuck_of script b waits)) number
    ∙ ap (λ (o : Option Waiting). before ++ (stuck_lines script r k ++ stuck_of script k o)) here in
    subst (λ (n : ℕ). after ≡ before ++ stuck_lines script r n) behind lines

pub push_stuck_line-requires : goal.push_stuck_line-requires
push_stuck_line-requires c w is =
    names_it c.args.script.now _ c.requires.same c.requires.named.0 c.requires.named.2 _ c.waits.result (c.waits.ensures c.requires.named.0 c.requires.named.1) w is

pub loop-k-preserved : goal.loop-k-preserved
loop-k-preserved c r shows =
    one_line_more c.args.script.now _ c.requires.same r c.args.text.now.items c.loop-k.text.items c.push_stuck_line.new.text.items c.loop-k.k _ c.waits.result
    (subst (λ (o : Option ℕ). IfSome o (λ n. n ≡ c.from.result)) c.unwrap-actor.ensures c.new.ensures.value ∙ c.from.ensures) (c.waits.ensures r shows) (c.loop-k.invariant r shows) c.in_ok-push_stuck_line.ensures
