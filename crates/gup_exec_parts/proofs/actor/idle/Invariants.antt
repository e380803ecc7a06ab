use Rattle.std.proofs.Common.{◌≡◌, [], vec_len}
use Rattle.gup_exec_parts.specs.Actor.{store_of}
use Rattle.gup_exec_parts.specs.Tables.{at_place}
use Rattle.gup_exec_parts.specs.declared.actor.Actor.{Actor}
use Rattle.gup_exec_parts.proofs.actor.idle.Given as goal

-- so many actors so far
abbrev pub invariant-loop-a : goal.invariant-loop-a
invariant-loop-a l = record {
  len : vec_len l.actors ≡ l._a;
  taken : at_place (λ (a : Actor). a.taken.items) [] l.actors.items ≡ (λ _. []);
  store : at_place store_of (λ _. 0) l.actors.items ≡ (λ _ _. 0);
}
