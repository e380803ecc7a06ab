-- The state of the core machine as the program keeps it.
use Rattle.std.specs.Prelude.{false}
use Rattle.gup_spec_events.specs.State.{CoreState}
use Rattle.gup_exec_parts.specs.Contents.{content_of}
use Rattle.gup_exec_rows.specs.Grid.{found}
use Rattle.gup_exec_rows.specs.Handles.{handles_in}
use Rattle.gup_exec_rows.specs.Mirrors.{frames_in, notes_in}
use Rattle.gup_exec_rows.specs.Objects.{objects_in}
use Rattle.gup_exec_rows.specs.Procs.{births, copies}
use Rattle.gup_exec_rows.specs.Row.{at}
use Rattle.gup_exec_rows.specs.Sheets.{words_in}
use Rattle.gup_exec_rows.specs.Stores.{slots_of}
use Rattle.gup_exec_core.specs.declared.trial.Trial.{Trial}

-- each field, read as a function of numbers; entries need no page tables
abbrev pub state_of : Trial → CoreState
state_of t =
    record {
      movable = t.movable;
      normal = t.normal;
      count = at t.count;
      mark = at t.mark;
      word = words_in t.word;
      own = at t.own;
      birth = births t.procs;
      sequence = at t.sequence;
      has_pinned = at t.has_pinned;
      structure = at t.structure;
      table = at t.table;
      walks = at t.walks;
      pages = at t.pages;
      right = found t.right;
      entry = found t.entry;
      object = objects_in t.object;
      copied = copies t.procs;
      free_table = at t.free_table;
      place = found t.place;
      retired = at t.retired;
      needs_tables = false;
      content = content_of t.contents;
      made = t.contents.made;
      handle = handles_in t.handle;
      pinned = at t.pinned;
      for_long = at t.for_long;
      got = at t.got;
      mirrored = frames_in t.mirrors;
      slot = notes_in t.mirrors;
      job = at t.job;
      prepared = at t.prepared;
      owed = at t.owed;
      taken = at t.taken;
      store = slots_of t.store;
    }
