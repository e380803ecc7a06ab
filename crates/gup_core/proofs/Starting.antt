-- A machine that has taken no turn shows the start.
use Rattle.std.proofs.Common.{◌≡◌, ℕ, List, [], replicate, slice_get, Option, Some, None, zero, suc, refl, sym, ap, ◌∙◌, subst}
use Rattle.gup_script.specs.Script.{ScriptValue}
use Rattle.gup_spec_journal.specs.Place.{present_op, first_place}
use Rattle.gup_spec_turns.specs.Run.{run_start}
use Rattle.gup_op_base.specs.declared.jobs.JobPlace.TheVariants.{Unbegun}
use Rattle.gup_op_pins.specs.Pins.{EndAt, last_page}
use Rattle.gup_op_base.specs.Jobs.{place_of}
use Rattle.gup_op_waits.specs.declared.seats.Seat.{Seat}
use Rattle.gup_op_waits.specs.declared.parts.Parts.{Parts}
use Rattle.gup_tables.specs.Pool.{PoolValue, PoolParts, pool_of, all_free}
use Rattle.gup_core.specs.Machine.{machine_of, Shows}
use Rattle.gup_op_waits.specs.Parts.{ShowsParts}
use Rattle.gup_notify.specs.Mirrors.{Filled, mirrors_of, no_mirrors}
use Rattle.gup_notify.specs.Shows.{IsMirror}
use Rattle.gup_op_waits.specs.Seats.{IsSeat, first_seats}
use Rattle.gup_core.proofs.Taking.{first_far}

abbrev pub no_turn : Seat
no_turn = record { answered = 0; far = 0; job = Unbegun }

same_seat : (n : ℕ) (seat : Seat) (a : ℕ) (found : Seat) → slice_get (replicate n seat) a ≡ Some found → found ≡ seat
same_seat zero seat a found is = absurd (cc)
same_seat (suc n) seat zero found is = cc
same_seat (suc n) seat (suc a) found is = same_seat n seat a found is

one_of_first : (n : ℕ) (seats : List Seat) (a : ℕ) (seat : Seat) → seats ≡ first_seats n → slice_get seats a ≡ Some seat → seat ≡ no_turn
one_of_first n seats a seat first here = same_seat n no_turn a seat (ap (λ xs. slice_get xs a) (sym first) ∙ here)

first_seat : (script : ScriptValue) (a : ℕ) (seat : Seat) → seat ≡ no_turn → IsSeat (present_op script a first_place) first_place seat
first_seat script a seat is = subst (λ (s : Seat). IsSeat (present_op script a first_place) first_place s) (sym is) (refl, first_far (present_op script a first_place))

pub shows_start : (script : ScriptValue) (parts : Parts) (mirrors : List (Option Filled)) (seats : List Seat) (pool : PoolParts) (n : ℕ) → ShowsParts parts (run_start script).core → mirrors_of mirrors ≡ no_mirrors → seats ≡ first_seats n → pool_of pool ≡ all_free script.frames.tables
    → Shows (machine_of script parts mirrors seats pool 0) (run_start script)
shows_start script parts mirrors seats pool n shown empty first free =
    record {
      reached = ([], refl);
      parts = shown;
      mirrors = λ m. subst (λ (f : ℕ → Option Filled). IsMirror (f m) None None) (sym empty) refl;
      pool = sym (ap (λ (v : PoolValue). v.free) free);
      seats = λ a seat here. first_seat script a seat (one_of_first n seats a seat first here);
      jobs = λ a seat here. ap (λ (s : Seat). place_of s.job) (one_of_first n seats a seat first here);
      ends = λ a handle page k want fast seat here is. subst (λ (s : Seat). EndAt (last_page s.job) []) (sym (one_of_first n seats a seat first here)) tt;
    }
