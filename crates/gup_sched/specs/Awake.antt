-- Which actors are awake, and the search among them.
use Rattle.std.specs.Prelude.{◌≡◌, ℕ, ◌<◌, ◌≤◌, ◌==◌, nat_lt, Bool, true, false, if◌then◌else◌, Option, None, Some, zero, suc}
use Rattle.std.specs.Int.{bit_at}
use Rattle.gup_plain.specs.Put.{put}
use Rattle.gup_script.specs.Script.{ScriptValue}
use Rattle.gup_spec_journal.specs.Order.{behind}
use Rattle.gup_spec_turns.specs.Run.{RunState, run_after, can_go}
use Rattle.gup_law_waits.specs.Woken.{Woken, nobody, one, everybody}

-- how many actors there are, and a bit for each of them
pub record AwakeValue : Type 0 where
  pub actors : ℕ
  pub bits : ℕ

abbrev pub has : (bits : ℕ) → ℕ → Bool
has bits k = bit_at bits k == 1

-- is the actor awake?
abbrev pub is_awake : AwakeValue → ℕ → Bool
is_awake v = has v.bits

-- there are at most 81 actors, and only these are awake
pub record AreActors (actors bits : ℕ) : Type 0 where
  pub few : actors ≤ 81
  pub only : (k : ℕ) → has bits k ≡ true → k < actors

-- the first awake one from a on, of n in a circle of so many actors
abbrev pub awake_from : (awake : ℕ → Bool) → (actors n a : ℕ) → Option ℕ
awake_from awake actors zero a = None
awake_from awake actors (suc n) a = if awake a then Some a else awake_from awake actors n (behind actors a)

-- of so many actors those that are not awake can't go
abbrev pub AreAsleep : ScriptValue → RunState → (n : ℕ) → (ℕ → Bool) → Type 0
AreAsleep script r n awake = (k : ℕ) → k < n → awake k ≡ false → can_go script r k ≡ false

-- after the turn of the actor that was found those that are not awake then can't go
abbrev pub AreAsleepAfter : ScriptValue → RunState → (n : ℕ) → (ℕ → Bool) → (found : Option ℕ) → Type 0
AreAsleepAfter script r n awake None = AreAsleep script r n awake
AreAsleepAfter script r n awake (Some a) = AreAsleep script (run_after script r a) n awake

-- who is awake after these are woken
abbrev pub awake_behind : Woken → (n : ℕ) → (ℕ → Bool) → ℕ → Bool
awake_behind nobody n awake = awake
awake_behind (one b) n awake = put b true awake
awake_behind everybody n awake = λ k. nat_lt k n
