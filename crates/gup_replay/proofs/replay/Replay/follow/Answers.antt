use Rattle.std.proofs.Common.{◌≡◌, Bool, List, sym, subst, ◌∙◌, MatchBool, IsTrue, ◌++◌, ◌∷◌, []}
use Rattle.gup_plain.specs.Note.{NoteValue}
use Rattle.gup_replay.specs.Beside.{AreOfCore, HasTaken, IsReplay, ReplayValue}
use Rattle.gup_replay.proofs.Following.{followed, never_again, taker_is}
use Rattle.gup_replay.proofs.replay.Replay.follow.Goals as goal

pub returns-then-self : goal.returns-then-self
returns-then-self c script turns few replay =
    let m = c.self.inside.machine in
    let notes = c.args.notes.now in
    let here = subst (λ (v : ReplayValue). IsReplay script turns v) (sym c.self.view_is) replay in
    let taken = subst (λ (b : Bool). MatchBool b (HasTaken script turns m) (AreOfCore script turns → ⊥)) c.if-self.true here.beside in
    followed script turns notes c.turn-turn.result m c.turn-turn.new.self c.actor.result c.are_same-self-inside.result
    (taker_is notes c.index-notes-0.result c.requires.some c.index-notes-0.is ∙ sym c.actor.ensures) here.same c.turn-turn.ensures.script taken few c.turn-turn.ensures.turn
    (subst (λ (told : List NoteValue). (IsTrue c.are_same-self-inside.result → told ≡ notes) × (told ≡ notes → IsTrue c.are_same-self-inside.result)) c.notes.ensures.notes c.are_same-self-inside.ensures)

pub returns-else-self : goal.returns-else-self
returns-else-self c script turns few replay =
    let notes = c.args.notes.now in
    let here = subst (λ (v : ReplayValue). IsReplay script turns v) (sym c.self.view_is) replay in
    let parted = subst (λ (b : Bool). MatchBool b (HasTaken script turns c.self.inside.machine) (AreOfCore script turns → ⊥)) c.if-self.false here.beside in
    subst (λ (v : ReplayValue). IsReplay script (turns ++ notes ∷ []) v) c.self.view_is
    (record { same = here.same; beside = subst (λ (b : Bool). MatchBool b (HasTaken script (turns ++ notes ∷ []) c.self.inside.machine) (AreOfCore script (turns ++ notes ∷ []) → ⊥)) (sym c.if-self.false) (never_again script turns notes parted) })
