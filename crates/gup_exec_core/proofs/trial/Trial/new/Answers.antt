use Rattle.std.proofs.Common.{ℕ, ◌==◌, nat_lt, if◌then◌else◌, Bool, false, List, [], Option, None, ◌∙◌, ap}
use Rattle.gup_base.specs.declared.entry.Entry.{Entry}
use Rattle.gup_base.specs.declared.entry.Rights.{Rights}
use Rattle.gup_spec_tables.specs.declared.place.Place.{Place}
use Rattle.gup_spec_events.specs.State.{CoreState, Job, idle, Taken}
use Rattle.gup_plain.specs.State.{Birth, born, unborn, Handle, unmade, Noted}
use Rattle.gup_exec_core.specs.State.{state_of}
use Rattle.gup_exec_core.specs.declared.trial.Trial.{Trial}
use Rattle.gup_exec_core.proofs.trial.Trial.new.Goals as goal

pub returns : goal.returns
returns c =
    let T : Trial = record { movable = c.args.movable; normal = c.args.normal; count = c.in_ok-count.count; mark = c.in_ok-mark.mark; word = c.in_ok-word.word; own = c.in_ok-own.own; procs = c.in_ok-procs.procs; sequence = c.in_ok-sequence.sequence; has_pinned = c.in_ok-has_pinned.has_pinned; structure = c.in_ok-structure.structure; table = c.in_ok-table.table; walks = c.in_ok-walks.walks; pages = c.in_ok-pages.pages; right = c.in_ok-right.right; entry = c.in_ok-entry.entry; object = c.in_ok-object.object; handle = c.in_ok-handle.handle; pinned = c.in_ok-pinned.pinned; for_long = c.in_ok-for_long.for_long; got = c.in_ok-got.got; mirrors = c.in_ok-mirrors.mirrors; job = c.in_ok-job.job; prepared = c.in_ok-prepared.prepared; owed = c.in_ok-owed.owed; taken = c.in_ok-taken.taken; store = c.in_ok-store.store; contents = c.new-contents.result; free_table = c.in_ok-free_table.free_table; place = c.in_ok-place.place; retired = c.in_ok-retired.retired; alloc = c.args.alloc } in
    let N : CoreState = state_of T in
    ap (λ (x : ℕ → ℕ). record N { count = x }) (c.in_ok-count.ensures)
    ∙ ap (λ (x : ℕ → Bool). record N { count = λ _. 0; mark = x }) (c.in_ok-mark.ensures)
    ∙ ap (λ (x : ℕ → ℕ → ℕ). record N { count = λ _. 0; mark = λ _. false; word = x }) (c.in_ok-word.ensures)
    ∙ ap (λ (x : ℕ → Option ℕ). record N { count = λ _. 0; mark = λ _. false; word = λ _ _. 0; own = x }) (c.in_ok-own.ensures)
    ∙ ap (λ (x : ℕ → Birth). record N { count = λ _. 0; mark = λ _. false; word = λ _ _. 0; own = λ _. None; birth = x }) (c.in_ok-procs.ensures.births)
    ∙ ap (λ (x : ℕ → ℕ → ℕ → Bool). record N { count = λ _. 0; mark = λ _. false; word = λ _ _. 0; own = λ _. None; birth = λ p. if p == c.args.first then born else unborn; copied = x }) (c.in_ok-procs.ensures.copies)
    ∙ ap (λ (x : ℕ → ℕ). record N { count = λ _. 0; mark = λ _. false; word = λ _ _. 0; own = λ _. None; birth = λ p. if p == c.args.first then born else unborn; copied = λ _ _ _. false; sequence = x }) (c.in_ok-sequence.ensures)
    ∙ ap (λ (x : ℕ → Bool). record N { count = λ _. 0; mark = λ _. false; word = λ _ _. 0; own = λ _. None; birth = λ p. if p == c.args.first then born else unborn; copied = λ _ _ _. false; sequence = λ _. 0; has_pinned = x }) (c.in_ok-has_pinned.ensures)
    ∙ ap (λ (x : ℕ → Option ℕ). record N { count = λ _. 0; mark = λ _. false; word = λ _ _. 0; own = λ _. None; birth = λ p. if p == c.args.first then born else unborn; copied = λ _ _ _. false; sequence = λ _. 0; has_pinned = λ _. false; structure = x }) (c.in_ok-structure.ensures)
    ∙ ap (λ (x : ℕ → Option ℕ). record N { count = λ _. 0; mark = λ _. false; word = λ _ _. 0; own = λ _. None; birth = λ p. if p == c.args.first then born else unborn; copied = λ _ _ _. false; sequence = λ _. 0; has_pinned = λ _. false; structure = λ _. None; table = x }) (c.in_ok-table.ensures)
    ∙ ap (λ (x : ℕ → ℕ). record N { count = λ _. 0; mark = λ _. false; word = λ _ _. 0; own = λ _. None; birth = λ p. if p == c.args.first then born else unborn; copied = λ _ _ _. false; sequence = λ _. 0; has_pinned = λ _. false; structure = λ _. None; table = λ _. None; walks = x }) (c.in_ok-walks.ensures)
    ∙ ap (λ (x : ℕ → ℕ). record N { count = λ _. 0; mark = λ _. false; word = λ _ _. 0; own = λ _. None; birth = λ p. if p == c.args.first then born else unborn; copied = λ _ _ _. false; sequence = λ _. 0; has_pinned = λ _. false; structure = λ _. None; table = λ _. None; walks = λ _. 0; pages = x }) (c.in_ok-pages.ensures)
    ∙ ap (λ (x : ℕ → ℕ → Option Rights). record N { count = λ _. 0; mark = λ _. false; word = λ _ _. 0; own = λ _. None; birth = λ p. if p == c.args.first then born else unborn; copied = λ _ _ _. false; sequence = λ _. 0; has_pinned = λ _. false; structure = λ _. None; table = λ _. None; walks = λ _. 0; pages = λ _. 0; right = x }) (c.in_ok-right.ensures)
    ∙ ap (λ (x : ℕ → ℕ → Option Entry). record N { count = λ _. 0; mark = λ _. false; word = λ _ _. 0; own = λ _. None; birth = λ p. if p == c.args.first then born else unborn; copied = λ _ _ _. false; sequence = λ _. 0; has_pinned = λ _. false; structure = λ _. None; table = λ _. None; walks = λ _. 0; pages = λ _. 0; right = λ _ _. None; entry = x }) (c.in_ok-entry.ensures)
    ∙ ap (λ (x : ℕ → ℕ → ℕ). record N { count = λ _. 0; mark = λ _. false; word = λ _ _. 0; own = λ _. None; birth = λ p. if p == c.args.first then born else unborn; copied = λ _ _ _. false; sequence = λ _. 0; has_pinned = λ _. false; structure = λ _. None; table = λ _. None; walks = λ _. 0; pages = λ _. 0; right = λ _ _. None; entry = λ _ _. None; object = x }) (c.in_ok-object.ensures)
    ∙ ap (λ (x : ℕ → Handle). record N { count = λ _. 0; mark = λ _. false; word = λ _ _. 0; own = λ _. None; birth = λ p. if p == c.args.first then born else unborn; copied = λ _ _ _. false; sequence = λ _. 0; has_pinned = λ _. false; structure = λ _. None; table = λ _. None; walks = λ _. 0; pages = λ _. 0; right = λ _ _. None; entry = λ _ _. None; object = λ _ _. 0; handle = x }) (c.in_ok-handle.ensures)
    ∙ ap (λ (x : ℕ → List ℕ). record N { count = λ _. 0; mark = λ _. false; word = λ _ _. 0; own = λ _. None; birth = λ p. if p == c.args.first then born else unborn; copied = λ _ _ _. false; sequence = λ _. 0; has_pinned = λ _. false; structure = λ _. None; table = λ _. None; walks = λ _. 0; pages = λ _. 0; right = λ _ _. None; entry = λ _ _. None; object = λ _ _. 0; handle = λ _. unmade; pinned = x }) (c.in_ok-pinned.ensures ∙ ap (λ (x : List ℕ). λ (_ : ℕ). x) (c.new-no_frames.ensures ∙ c.new-frames.ensures.items))
    ∙ ap (λ (x : ℕ → Bool). record N { count = λ _. 0; mark = λ _. false; word = λ _ _. 0; own = λ _. None; birth = λ p. if p == c.args.first then born else unborn; copied = λ _ _ _. false; sequence = λ _. 0; has_pinned = λ _. false; structure = λ _. None; table = λ _. None; walks = λ _. 0; pages = λ _. 0; right = λ _ _. None; entry = λ _ _. None; object = λ _ _. 0; handle = λ _. unmade; pinned = λ _. []; for_long = x }) (c.in_ok-for_long.ensures)
    ∙ ap (λ (x : ℕ → Option (ℕ × ℕ)). record N { count = λ _. 0; mark = λ _. false; word = λ _ _. 0; own = λ _. None; birth = λ p. if p == c.args.first then born else unborn; copied = λ _ _ _. false; sequence = λ _. 0; has_pinned = λ _. false; structure = λ _. None; table = λ _. None; walks = λ _. 0; pages = λ _. 0; right = λ _ _. None; entry = λ _ _. None; object = λ _ _. 0; handle = λ _. unmade; pinned = λ _. []; for_long = λ _. false; got = x }) (c.in_ok-got.ensures)
    ∙ ap (λ (x : ℕ → Option ℕ). record N { count = λ _. 0; mark = λ _. false; word = λ _ _. 0; own = λ _. None; birth = λ p. if p == c.args.first then born else unborn; copied = λ _ _ _. false; sequence = λ _. 0; has_pinned = λ _. false; structure = λ _. None; table = λ _. None; walks = λ _. 0; pages = λ _. 0; right = λ _ _. None; entry = λ _ _. None; object = λ _ _. 0; handle = λ _. unmade; pinned = λ _. []; for_long = λ _. false; got = λ _. None; mirrored = x }) (c.in_ok-mirrors.ensures.frames)
    ∙ ap (λ (x : ℕ → Option Noted). record N { count = λ _. 0; mark = λ _. false; word = λ _ _. 0; own = λ _. None; birth = λ p. if p == c.args.first then born else unborn; copied = λ _ _ _. false; sequence = λ _. 0; has_pinned = λ _. false; structure = λ _. None; table = λ _. None; walks = λ _. 0; pages = λ _. 0; right = λ _ _. None; entry = λ _ _. None; object = λ _ _. 0; handle = λ _. unmade; pinned = λ _. []; for_long = λ _. false; got = λ _. None; mirrored = λ _. None; slot = x }) (c.in_ok-mirrors.ensures.notes)
    ∙ ap (λ (x : ℕ → Job). record N { count = λ _. 0; mark = λ _. false; word = λ _ _. 0; own = λ _. None; birth = λ p. if p == c.args.first then born else unborn; copied = λ _ _ _. false; sequence = λ _. 0; has_pinned = λ _. false; structure = λ _. None; table = λ _. None; walks = λ _. 0; pages = λ _. 0; right = λ _ _. None; entry = λ _ _. None; object = λ _ _. 0; handle = λ _. unmade; pinned = λ _. []; for_long = λ _. false; got = λ _. None; mirrored = λ _. None; slot = λ _. None; job = x }) (c.in_ok-job.ensures ∙ ap (λ (x : Job). λ (_ : ℕ). x) c.idle-no_job.ensures)
    ∙ ap (λ (x : ℕ → Option ℕ). record N { count = λ _. 0; mark = λ _. false; word = λ _ _. 0; own = λ _. None; birth = λ p. if p == c.args.first then born else unborn; copied = λ _ _ _. false; sequence = λ _. 0; has_pinned = λ _. false; structure = λ _. None; table = λ _. None; walks = λ _. 0; pages = λ _. 0; right = λ _ _. None; entry = λ _ _. None; object = λ _ _. 0; handle = λ _. unmade; pinned = λ _. []; for_long = λ _. false; got = λ _. None; mirrored = λ _. None; slot = λ _. None; job = λ _. idle; prepared = x }) (c.in_ok-prepared.ensures)
    ∙ ap (λ (x : ℕ → Option ℕ). record N { count = λ _. 0; mark = λ _. false; word = λ _ _. 0; own = λ _. None; birth = λ p. if p == c.args.first then born else unborn; copied = λ _ _ _. false; sequence = λ _. 0; has_pinned = λ _. false; structure = λ _. None; table = λ _. None; walks = λ _. 0; pages = λ _. 0; right = λ _ _. None; entry = λ _ _. None; object = λ _ _. 0; handle = λ _. unmade; pinned = λ _. []; for_long = λ _. false; got = λ _. None; mirrored = λ _. None; slot = λ _. None; job = λ _. idle; prepared = λ _. None; owed = x }) (c.in_ok-owed.ensures)
    ∙ ap (λ (x : ℕ → List Taken). record N { count = λ _. 0; mark = λ _. false; word = λ _ _. 0; own = λ _. None; birth = λ p. if p == c.args.first then born else unborn; copied = λ _ _ _. false; sequence = λ _. 0; has_pinned = λ _. false; structure = λ _. None; table = λ _. None; walks = λ _. 0; pages = λ _. 0; right = λ _ _. None; entry = λ _ _. None; object = λ _ _. 0; handle = λ _. unmade; pinned = λ _. []; for_long = λ _. false; got = λ _. None; mirrored = λ _. None; slot = λ _. None; job = λ _. idle; prepared = λ _. None; owed = λ _. None; taken = x }) (c.in_ok-taken.ensures ∙ ap (λ (x : List Taken). λ (_ : ℕ). x) (c.new-no_pages.ensures ∙ c.new-pages_taken.ensures.items))
    ∙ ap (λ (x : ℕ → ℕ → ℕ). record N { count = λ _. 0; mark = λ _. false; word = λ _ _. 0; own = λ _. None; birth = λ p. if p == c.args.first then born else unborn; copied = λ _ _ _. false; sequence = λ _. 0; has_pinned = λ _. false; structure = λ _. None; table = λ _. None; walks = λ _. 0; pages = λ _. 0; right = λ _ _. None; entry = λ _ _. None; object = λ _ _. 0; handle = λ _. unmade; pinned = λ _. []; for_long = λ _. false; got = λ _. None; mirrored = λ _. None; slot = λ _. None; job = λ _. idle; prepared = λ _. None; owed = λ _. None; taken = λ _. []; store = x }) (c.in_ok-store.ensures)
    ∙ ap (λ (x : ℕ → ℕ → ℕ). record N { count = λ _. 0; mark = λ _. false; word = λ _ _. 0; own = λ _. None; birth = λ p. if p == c.args.first then born else unborn; copied = λ _ _ _. false; sequence = λ _. 0; has_pinned = λ _. false; structure = λ _. None; table = λ _. None; walks = λ _. 0; pages = λ _. 0; right = λ _ _. None; entry = λ _ _. None; object = λ _ _. 0; handle = λ _. unmade; pinned = λ _. []; for_long = λ _. false; got = λ _. None; mirrored = λ _. None; slot = λ _. None; job = λ _. idle; prepared = λ _. None; owed = λ _. None; taken = λ _. []; store = λ _ _. 0; content = x }) (c.new-contents.ensures.content)
    ∙ ap (λ (x : ℕ). record N { count = λ _. 0; mark = λ _. false; word = λ _ _. 0; own = λ _. None; birth = λ p. if p == c.args.first then born else unborn; copied = λ _ _ _. false; sequence = λ _. 0; has_pinned = λ _. false; structure = λ _. None; table = λ _. None; walks = λ _. 0; pages = λ _. 0; right = λ _ _. None; entry = λ _ _. None; object = λ _ _. 0; handle = λ _. unmade; pinned = λ _. []; for_long = λ _. false; got = λ _. None; mirrored = λ _. None; slot = λ _. None; job = λ _. idle; prepared = λ _. None; owed = λ _. None; taken = λ _. []; store = λ _ _. 0; content = λ _ _. 0; made = x }) (c.new-contents.ensures.made)
    ∙ ap (λ (x : ℕ → Bool). record N { count = λ _. 0; mark = λ _. false; word = λ _ _. 0; own = λ _. None; birth = λ p. if p == c.args.first then born else unborn; copied = λ _ _ _. false; sequence = λ _. 0; has_pinned = λ _. false; structure = λ _. None; table = λ _. None; walks = λ _. 0; pages = λ _. 0; right = λ _ _. None; entry = λ _ _. None; object = λ _ _. 0; handle = λ _. unmade; pinned = λ _. []; for_long = λ _. false; got = λ _. None; mirrored = λ _. None; slot = λ _. None; job = λ _. idle; prepared = λ _. None; owed = λ _. None; taken = λ _. []; store = λ _ _. 0; content = λ _ _. 0; made = 0; free_table = x }) (c.in_ok-free_table.ensures)
    ∙ ap (λ (x : ℕ → ℕ → Option Place). record N { count = λ _. 0; mark = λ _. false; word = λ _ _. 0; own = λ _. None; birth = λ p. if p == c.args.first then born else unborn; copied = λ _ _ _. false; sequence = λ _. 0; has_pinned = λ _. false; structure = λ _. None; table = λ _. None; walks = λ _. 0; pages = λ _. 0; right = λ _ _. None; entry = λ _ _. None; object = λ _ _. 0; handle = λ _. unmade; pinned = λ _. []; for_long = λ _. false; got = λ _. None; mirrored = λ _. None; slot = λ _. None; job = λ _. idle; prepared = λ _. None; owed = λ _. None; taken = λ _. []; store = λ _ _. 0; content = λ _ _. 0; made = 0; free_table = λ table. nat_lt table c.args.tables; place = x }) (c.in_ok-place.ensures)
    ∙ ap (λ (x : ℕ → List ℕ). record N { count = λ _. 0; mark = λ _. false; word = λ _ _. 0; own = λ _. None; birth = λ p. if p == c.args.first then born else unborn; copied = λ _ _ _. false; sequence = λ _. 0; has_pinned = λ _. false; structure = λ _. None; table = λ _. None; walks = λ _. 0; pages = λ _. 0; right = λ _ _. None; entry = λ _ _. None; object = λ _ _. 0; handle = λ _. unmade; pinned = λ _. []; for_long = λ _. false; got = λ _. None; mirrored = λ _. None; slot = λ _. None; job = λ _. idle; prepared = λ _. None; owed = λ _. None; taken = λ _. []; store = λ _ _. 0; content = λ _ _. 0; made = 0; free_table = λ table. nat_lt table c.args.tables; place = λ _ _. None; retired = x }) (c.in_ok-retired.ensures ∙ ap (λ (x : List ℕ). λ (_ : ℕ). x) (c.new-no_tables.ensures ∙ c.new-tables_out.ensures.items))
