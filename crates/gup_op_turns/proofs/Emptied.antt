-- The slots that a turn empties first are none of the machine's parts: what a state shows it shows whatever slots are filled.
use Rattle.std.proofs.Common.{ℕ, List, Option, Some, None, sym, subst}
use Rattle.gup_plain.specs.declared.note.What.{What}
use Rattle.gup_script.specs.declared.op.Op.{Op}
use Rattle.gup_spec_events.specs.State.{CoreState}
use Rattle.gup_spec_events.specs.Event.{run}
use Rattle.gup_spec_turns.specs.CoreTurn.{CoreTurn}
use Rattle.gup_spec_turns.specs.Emptying.{emptying}
use Rattle.gup_spec_turns.proofs.Unseen.{mirroring, emptying_unseen}
use Rattle.gup_op_base.specs.Turns.{Leads}
use Rattle.gup_op_pins.specs.Held.{ShowsStore}
use Rattle.gup_op_waits.specs.Parts.{ShowsParts}
use Rattle.gup_op_waits.specs.declared.parts.Parts.{Parts}
use Rattle.gup_op_turns.specs.Goes.{AllView, ShowsAll}

module _ (filled : ℕ → Option ℕ) (s : CoreState) where
  abbrev with_slots : CoreState
  with_slots = mirroring filled s

  store_with : (a : ℕ) (store : Option (List ℕ)) → ShowsStore a store s → ShowsStore a store with_slots
  store_with a None h = h
  store_with a (Some words) h = h

  parts_with : (parts : Parts) → ShowsParts parts s → ShowsParts parts with_slots
  parts_with parts h =
      let f = h.frames in
      record {
        frames = record { movable = f.movable; normal = f.normal; count = f.count; mark = f.mark; word = f.word; needs_tables = f.needs_tables };
        spaces = λ p space here.
            let x = h.spaces p space here in
            record { right = x.right; pages = x.pages; entry = x.entry; sequence = x.sequence; has_pinned = x.has_pinned; structure = x.structure; table = x.table; walks = x.walks; place = x.place; retired = x.retired };
        births = h.births;
        pins = h.pins;
        taken = h.taken;
        stores = λ a store here. store_with a store (h.stores a store here);
      }

  all_with : (a : ℕ) (op : Op) (view : AllView) → ShowsAll a op view s → ShowsAll a op view with_slots
  all_with a op view h = record { parts = parts_with view.parts h.parts; job = h.job; ends = h.ends; others = h.others; left = h.left }

-- so what a turn leads to it leads to with the slots that it empties first
pub leads_emptied : (a b : ℕ) (op : Op) (view : AllView) (s : CoreState) (turn : CoreTurn) (whats : List What) → Leads (ShowsAll a op) view s turn whats → Leads (ShowsAll a op) view s (emptying s b turn) whats
leads_emptied a b op view s turn whats led =
    let t : CoreState = run s (emptying s b turn).events in
    record {
      says = led.says;
      shown = subst (ShowsAll a op view) (sym (emptying_unseen s b turn)) (all_with t.mirrored (run s turn.events) a op view led.shown);
    }
