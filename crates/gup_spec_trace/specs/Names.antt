-- The names of a script: each is spelled as a name, and no two of one kind are the same.
use Rattle.std.specs.Prelude.{◌≡◌, ℕ}
use Rattle.gup_script.specs.Script.{ScriptValue}
use Rattle.gup_spec_grammar.specs.Spelling.{IsName}
use Rattle.gup_spec_trace.specs.Note.{actor, process, handle, slot}
use Rattle.gup_spec_trace.specs.Written.{IsActor, IsProcess, IsHandle, IsSlot}

pub record AreNames (s : ScriptValue) : Type 0 where
  pub actors : (a : ℕ) → IsActor s a → IsName (actor s a)
  pub processes : (p : ℕ) → IsProcess s p → IsName (process s p)
  pub handles : (h : ℕ) → IsHandle s h → IsName (handle s h)
  pub slots : (m : ℕ) → IsSlot s m → IsName (slot s m)
  pub one_actor : (a b : ℕ) → IsActor s a → IsActor s b → actor s a ≡ actor s b → a ≡ b
  pub one_process : (p q : ℕ) → IsProcess s p → IsProcess s q → process s p ≡ process s q → p ≡ q
  pub one_handle : (h i : ℕ) → IsHandle s h → IsHandle s i → handle s h ≡ handle s i → h ≡ i
  pub one_slot : (m n : ℕ) → IsSlot s m → IsSlot s n → slot s m ≡ slot s n → m ≡ n
