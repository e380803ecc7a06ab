use Rattle.std.proofs.Common.{◌++◌, ◌∙◌, ◌∷◌, [], ap, ℕ, slice_get, List}
use Rattle.arrayvec.specs.ArrayVec.{ArrayVec}
use Rattle.gup_script.specs.Limits.{most_handles, most_mirrors}
use Rattle.gup_frames.specs.Frames.{frames_of, frames_in}
use Rattle.gup_space.specs.Space.{SpaceParts}
use Rattle.gup_handles.specs.Handles.{handles_of}
use Rattle.gup_notify.specs.Mirrors.{mirrors_of}
use Rattle.gup_tables.specs.Pool.{pool_of}
use Rattle.gup_image.specs.declared.fact.Fact.{Fact}
use Rattle.gup_image.specs.declared.fact.Fact.TheVariants.{Zones, Taken}
use Rattle.gup_image.specs.Gathered.{gathered, along}
use Rattle.gup_image.specs.Image.{zones_fact, frame_facts, born_facts, used, handle_facts, slot_fact, store_facts, seat_fact}
use Rattle.gup_image.proofs.Gathered.{nine-put}
use Rattle.gup_image.proofs.all.image.Goals as goal

pub returns : goal.returns
returns c =
    let parts = c.args.parts.now in
    let frames = frames_of parts.frames in
    let pool = pool_of c.args.pool.now in
    let of : (tables : ℕ) → List Fact = λ tables. along (λ p (space : SpaceParts). born_facts tables p (slice_get parts.births.items p) space) parts.spaces.items in
    nine-put (zones_fact frames) (gathered (frame_facts frames) (frames_in frames)) (of pool.tables) (gathered (used pool) pool.tables)
    (gathered (λ h. handle_facts h (handles_of parts.handles h)) most_handles) (gathered (λ m. slot_fact m (mirrors_of c.args.mirrors.now m)) most_mirrors)
    (along (λ a (pages : ArrayVec ℕ). along (λ k frame. Taken a k frame ∷ []) pages.items) parts.taken.items) (along store_facts parts.stores.items) (along seat_fact c.args.seats.now.items)
    c.new-facts.result.items c.put.new.facts.items c.push_frames.new.facts.items c.push_processes.new.facts.items c.push_used.new.facts.items c.push_handles.new.facts.items
    c.push_slots.new.facts.items c.push_taken.new.facts.items c.push_stores.new.facts.items c.push_seats.new.facts.items
    c.new-facts.ensures.items
    (c.in_ok-put.ensures ∙ ap (λ (m : ℕ). c.new-facts.result.items ++ Zones m c.normal.result ∷ []) c.movable.ensures
    ∙ ap (λ (n : ℕ). c.new-facts.result.items ++ Zones frames.movable n ∷ []) c.normal.ensures)
    c.in_ok-push_frames.ensures
    (c.in_ok-push_processes.ensures ∙ ap (λ (tables : ℕ). c.push_frames.new.facts.items ++ of tables) c.tables.ensures)
    c.in_ok-push_used.ensures c.in_ok-push_handles.ensures c.in_ok-push_slots.ensures c.in_ok-push_taken.ensures c.in_ok-push_stores.ensures c.in_ok-push_seats.ensures
