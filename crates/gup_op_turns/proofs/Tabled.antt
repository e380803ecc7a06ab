-- What a state shows it shows with other page tables, but for those of processes; and where an actor stands it stands.
use Rattle.std.proofs.Common.{ℕ, ◌+◌, Bool, List, Option, Some, None, sym, subst, ap, ◌∙◌}
use Rattle.gup_base.specs.declared.entry.Want.{Want}
use Rattle.gup_base.specs.declared.entry.Zone.{Zone}
use Rattle.gup_script.specs.declared.op.Op.{Op}
use Rattle.gup_notify.specs.Mirrors.{MirrorsValue}
use Rattle.gup_notify.specs.Shows.{ShowsMirrors}
use Rattle.gup_spec_events.specs.State.{CoreState, Taken}
use Rattle.gup_law_tables.specs.Standing.{IsButForTables}
use Rattle.gup_spec_journal.specs.Place.{Doer}
use Rattle.gup_spec_turns.specs.JobPlace.{JobPlace as Place, StandsFork, StandsMove}
use Rattle.gup_spec_turns.specs.PinPlace.{StandsPin}
use Rattle.gup_spec_turns.specs.Waits.{waiting_for}
use Rattle.gup_law_turns.proofs.EmptiedTurns.{stands_at, stands_move, stands_fork}
use Rattle.gup_law_turns.proofs.TabledTurns.{sound_tabled}
use Rattle.gup_op_base.specs.declared.jobs.JobPlace.{JobPlace}
use Rattle.gup_op_pins.specs.Held.{ShowsStore}
use Rattle.gup_op_tables.specs.Alike.{ShowsEach}
use Rattle.gup_op_tables.specs.Turns.{AreParted}
use Rattle.gup_op_waits.specs.Parts.{ShowsParts}
use Rattle.gup_op_waits.specs.Stands.{StandsAt}
use Rattle.gup_op_waits.specs.declared.parts.Parts.{Parts}
use Rattle.gup_op_turns.specs.Goes.{ShowsAll, all_view, StandsFree, StandsWith}

module _ (s t : CoreState) (same : IsButForTables s t) where
  -- the first state with the tables of the second
  abbrev retabled : CoreState
  retabled = record s { free_table = t.free_table; place = t.place; retired = t.retired }

  store_beside : (a : ℕ) (store : Option (List ℕ)) → ShowsStore a store s → ShowsStore a store retabled
  store_beside a None h = h
  store_beside a (Some words) h = h

  parts_beside : (old new : Parts) → ShowsParts old s → ShowsEach new.spaces.items retabled → ShowsParts (record old { spaces = new.spaces }) retabled
  parts_beside old new h each =
      let f = h.frames in
      record {
        frames = record { movable = f.movable; normal = f.normal; count = f.count; mark = f.mark; word = f.word; needs_tables = f.needs_tables };
        spaces = each;
        births = h.births;
        pins = h.pins;
        taken = h.taken;
        stores = λ a store here. store_beside a store (h.stores a store here);
      }

  -- where processes are shown with their new tables
  pub all_tabled : (a : ℕ) (op : Op) (old new : Parts) (job : JobPlace) (others : ℕ → Place) (left : ℕ → List Taken) → AreParted old new → ShowsEach new.spaces.items t
      → ShowsAll a op (all_view old job others left) s → ShowsAll a op (all_view new job others left) t
  all_tabled a op old new job others left rest each h =
      let here : ShowsParts (record old { spaces = new.spaces }) retabled = parts_beside old new h.parts (subst (λ (x : CoreState). ShowsEach new.spaces.items x) same each) in
      subst (ShowsAll a op (all_view new job others left)) (sym same)
      (record { parts = subst (λ (parts : Parts). ShowsParts parts retabled) (sym rest) here; job = h.job; ends = h.ends; others = h.others; left = h.left })

  pub mirrors_tabled : (mirrors : MirrorsValue) → ShowsMirrors mirrors s → ShowsMirrors mirrors t
  mirrors_tabled mirrors h = subst (ShowsMirrors mirrors) (sym same) h

  fork_beside : (a p child : ℕ) → StandsFork s a p child (s.job a) (s.prepared a) → StandsFork retabled a p child (s.job a) (s.prepared a)
  fork_beside a p child h = stands_fork s.mirrored t.free_table t.place t.retired s a p child (s.job a) (s.prepared a) h

  move_beside : (a p page : ℕ) (zone : Zone) → StandsMove s a p page zone (s.job a) → StandsMove retabled a p page zone (s.job a)
  move_beside a p page zone h = stands_move s.mirrored t.free_table t.place t.retired s a p page zone (s.job a) h

  pin_beside : (a p handle page n got : ℕ) (want : Want) (fast : Bool) → StandsPin s a p handle page n want fast got → StandsPin retabled a p handle page n want fast got
  pin_beside a p handle page n got want fast h =
      record {
        within = h.within;
        yet = h.yet;
        taken = h.taken;
        at = stands_at s.mirrored t.free_table t.place t.retired s a p (page + got) n got want fast (s.job a) h.at;
      }

  at_beside : (a p far : ℕ) (op : Op) → StandsAt s a p far op → StandsAt retabled a p far op
  at_beside a p far op h =
      record {
        idle_job = h.idle_job;
        keeps = h.keeps;
        fork = λ child is. fork_beside a p child (h.fork child is);
        move = λ q page zone is. move_beside a p page zone (h.move q page zone is);
        pin = λ handle page n want fast is. pin_beside a p handle page n _ want fast (h.pin handle page n want fast is);
        pinned = h.pinned;
        whole = h.whole;
      }

  pub free_tabled : (a : ℕ) (who : Doer) (far : ℕ) (op : Op) → StandsFree a who far op s → StandsFree a who far op t
  free_tabled a who far op h =
      record {
        sound = sound_tabled s t same h.sound;
        at = subst (λ (x : CoreState). StandsAt x a who.proc far op) (sym same) (at_beside a who.proc far op h.at);
        free = ap (λ (x : CoreState). waiting_for x who far op) same ∙ h.free;
      }

  pub with_tabled : (mirrors : MirrorsValue) (a : ℕ) (who : Doer) (far : ℕ) (op : Op) → StandsWith mirrors a who far op s → StandsWith mirrors a who far op t
  with_tabled mirrors a who far op h = record { free = free_tabled a who far op h.free; slots = mirrors_tabled mirrors h.slots }
