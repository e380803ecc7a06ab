-- A machine that is dropped has so many facts that no search finds the few that are needed.
use Rattle.std.proofs.Common.{◌≡◌, ℕ, Bool, true, false, List, Result, Ok, Err, subst, ◌∙◌, arith}
use Rattle.std.specs.Prelude.{OnOk, OnErr, is_ok, if◌then◌else◌}
use Rattle.std.specs.Io.KnownBytes.{Appends}
use Rattle.gup_io.specs.Transfers.{AppendsPart}
use Rattle.gup_top.specs.Report.{IsMadeRun}
use Rattle.gup_top.proofs.serial.make_and_write.Goals as goal

-- by the status the text was taken whole, of a run that is stuck or has finished
whole : {X E : Type 0} (r : Result X E) (P : Type 0) (IsSo : Bool → Type 0) (written stuck : Bool) (status : ℕ) → written ≡ is_ok r
    → status ≡ (if written then if stuck then 4 else 0 else 6) → OnOk r P → IsSo stuck
    → (ends : Bool) → status ≡ (if ends then 4 else 0) → IsSo ends × P
whole (Ok x) P IsSo true true status says is p so true said = (so, p)
whole (Ok x) P IsSo true true status says is p so false said = absurd (omega arith)
whole (Ok x) P IsSo true false status says is p so true said = absurd (omega arith)
whole (Ok x) P IsSo true false status says is p so false said = (so, p)
whole (Ok x) P IsSo false stuck status says is p so ends said = absurd (cc says)
whole (Err e) P IsSo true stuck status says is p so ends said = absurd (cc says)
whole (Err e) P IsSo false stuck status says is p so true said = absurd (omega arith)
whole (Err e) P IsSo false stuck status says is p so false said = absurd (omega arith)

-- and at status 6 it was broken off
broken_off : {X E : Type 0} (r : Result X E) (P : Type 0) (written stuck : Bool) (status : ℕ) → written ≡ is_ok r
    → status ≡ (if written then if stuck then 4 else 0 else 6) → OnErr r P → status ≡ 6 → P
broken_off (Ok x) P true true status says is p six = absurd (omega arith)
broken_off (Ok x) P true false status says is p six = absurd (omega arith)
broken_off (Ok x) P false stuck status says is p six = absurd (cc says)
broken_off (Err e) P written stuck status says is p six = p

pub returns-clause-finished : goal.returns-clause-finished
returns-clause-finished g c zero_is =
    let Taken : List ℕ → Type 0 = Appends (g.K.Sink.taken c.args.sink.now) (g.K.Sink.taken c.write_all.new.sink) in
    let told = c.in-Ok.told in
    let all = whole c.write_all.result (Taken c.as_slice.result.now) (λ (stuck : Bool). IsMadeRun c.args.n stuck told.text.items) c.is_ok-written.result told.stuck c.unrun-2.result.status
    c.is_ok-written.ensures.value (c.unrun-2.ensures.status ∙ c.status_of.ensures) c.write_all.ensures.whole c.in-Ok.ensures false zero_is in
    (told.text.items, all.0, subst Taken c.as_slice.ensures.value all.1)

pub returns-clause-stuck : goal.returns-clause-stuck
returns-clause-stuck g c four_is =
    let Taken : List ℕ → Type 0 = Appends (g.K.Sink.taken c.args.sink.now) (g.K.Sink.taken c.write_all.new.sink) in
    let told = c.in-Ok.told in
    let all = whole c.write_all.result (Taken c.as_slice.result.now) (λ (stuck : Bool). IsMadeRun c.args.n stuck told.text.items) c.is_ok-written.result told.stuck c.unrun-2.result.status
    c.is_ok-written.ensures.value (c.unrun-2.ensures.status ∙ c.status_of.ensures) c.write_all.ensures.whole c.in-Ok.ensures true four_is in
    (told.text.items, all.0, subst Taken c.as_slice.ensures.value all.1)

pub returns-clause-part : goal.returns-clause-part
returns-clause-part g c six =
    let Taken : List ℕ → Type 0 = AppendsPart (g.K.Sink.taken c.args.sink.now) (g.K.Sink.taken c.write_all.new.sink) in
    let told = c.in-Ok.told in
    let part = broken_off c.write_all.result (Taken c.as_slice.result.now) c.is_ok-written.result told.stuck c.unrun-2.result.status
    c.is_ok-written.ensures.value (c.unrun-2.ensures.status ∙ c.status_of.ensures) c.write_all.ensures.broken_off six in
    (told.stuck, told.text.items, c.in-Ok.ensures, subst Taken c.as_slice.ensures.value part)
