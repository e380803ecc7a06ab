-- A machine beside turns that are told, one turn more.
use Rattle.std.proofs.Common.{◌≡◌, ℕ, ◌+◌, ◌<◌, ◌^◌, Bool, true, false, List, [], ◌∷◌, ◌++◌, length, get_or, IsTrue, refl, sym, ap, subst, ◌∙◌, suc, arith, length-append}
use Rattle.std.proofs.lemmas.List.{map-append, length-map}
use Rattle.gup_plain.specs.Note.{NoteValue}
use Rattle.gup_script.specs.Script.{ScriptValue}
use Rattle.gup_spec_journal.specs.Follows.{notes_of_turn}
use Rattle.gup_spec_turns.specs.Run.{RunState, run_start, run_after, turned, core_turn_in}
use Rattle.gup_core.specs.Machine.{MachineValue, Shows, TakesTurn, TakesTurns, counted}
use Rattle.gup_replay.specs.Turns.{taker}
use Rattle.gup_replay.specs.Beside.{told_from, takers, AreOfCore, state_behind, HasTaken, IsReplay}

-- ---- lists that end in one more

no_end : {X : Type 0} (xs : List X) (x : X) → [] ≡ xs ++ x ∷ [] → ⊥
no_end [] x same = absurd (grind arith)
no_end (a ∷ xs) x same = absurd (grind arith)

pub same_ends : {X : Type 0} (xs ys : List X) (x y : X) → xs ++ x ∷ [] ≡ ys ++ y ∷ [] → (xs ≡ ys) × (x ≡ y)
same_ends [] [] x y same = (refl, cc)
same_ends [] (b ∷ ys) x y same = absurd (no_end ys y (let tail : [] ≡ ys ++ y ∷ [] = cc in tail))
same_ends (a ∷ xs) [] x y same = absurd (no_end xs x (let tail : [] ≡ xs ++ x ∷ [] = cc in tail))
same_ends (a ∷ xs) (b ∷ ys) x y same =
    let tail : xs ++ x ∷ [] ≡ ys ++ y ∷ [] = cc in
    let head : a ≡ b = cc in
    let rest = same_ends xs ys x y tail in
    (let first = rest.0 in cc, rest.1)

-- ---- one turn more

pub takers_on : (turns : List (List NoteValue)) (turn : List NoteValue) → takers (turns ++ turn ∷ []) ≡ takers turns ++ taker turn ∷ []
takers_on turns turn = map-append taker turns (turn ∷ [])

pub turned_on : (script : ScriptValue) (r : RunState) (actors : List ℕ) (a : ℕ) → turned script r (actors ++ a ∷ []) ≡ run_after script (turned script r actors) a
turned_on script r [] a = refl
turned_on script r (b ∷ actors) a = turned_on script (run_after script r b) actors a

-- what the actor's turn tells, which has this number
abbrev pub told_at : ScriptValue → RunState → (number a : ℕ) → List NoteValue
told_at script r number a = notes_of_turn number a ((r.places a).answered + 1) (core_turn_in script r a).whats

none_later : (n : ℕ) → n ≡ n + length {A = ℕ} []
none_later n = omega arith

one_later : (n k : ℕ) → (n + 1) + k ≡ n + suc k
one_later n k = omega arith

told_on : (script : ScriptValue) (r : RunState) (number : ℕ) (actors : List ℕ) (a : ℕ) → told_from script r number (actors ++ a ∷ []) ≡ told_from script r number actors ++ told_at script (turned script r actors) (number + length actors) a ∷ []
told_on script r number [] a = ap (λ (n : ℕ). told_at script r n a ∷ []) (none_later number)
told_on script r number (b ∷ actors) a =
    ap (λ (turns : List (List NoteValue)). told_at script r number b ∷ turns)
    (
    told_on script (run_after script r b) (number + 1) actors a
    ∙ ap (λ (n : ℕ). told_from script (run_after script r b) (number + 1) actors ++ told_at script (turned script (run_after script r b) actors) n a ∷ []) (one_later number (length actors))
    )

-- what comes behind these turns of the core machine, with the number of a turn that is the next
told_behind : (script : ScriptValue) (turns : List (List NoteValue)) (turn : List NoteValue) → told_from script (run_start script) 1 (takers (turns ++ turn ∷ [])) ≡ told_from script (run_start script) 1 (takers turns) ++ told_at script (state_behind script turns) (1 + length turns) (taker turn) ∷ []
told_behind script turns turn =
    ap (λ (actors : List ℕ). told_from script (run_start script) 1 actors) (takers_on turns turn)
    ∙ told_on script (run_start script) 1 (takers turns) (taker turn)
    ∙ ap (λ (n : ℕ). told_from script (run_start script) 1 (takers turns) ++ told_at script (state_behind script turns) (1 + n) (taker turn) ∷ []) (length-map turns taker)

-- turns that aren't of the core machine are followed by none that are
pub never_again : (script : ScriptValue) (turns : List (List NoteValue)) (turn : List NoteValue) → (AreOfCore script turns → ⊥) → AreOfCore script (turns ++ turn ∷ []) → ⊥
never_again script turns turn not_core core =
    not_core
    (same_ends turns (told_from script (run_start script) 1 (takers turns)) turn (told_at script (state_behind script turns) (1 + length turns) (taker turn)) (core ∙ told_behind script turns turn)).0

counted_so : (m turns : ℕ) → m ≡ turns → turns + 1 < 2 ^ 32 → counted m ≡ 1 + turns
counted_so m turns are few = grind arith

-- what the machine tells of the turn
told_so : (script : ScriptValue) (turns : List (List NoteValue)) (turn told : List NoteValue) (m n : MachineValue) → m.script ≡ script → HasTaken script turns m → length turns + 1 < 2 ^ 32 → TakesTurn m n (taker turn) (state_behind script turns) told → told ≡ told_at script (state_behind script turns) (1 + length turns) (taker turn)
told_so script turns turn told m n same taken few taking =
    taking.said
    ∙ ap (λ (k : ℕ). told_at m.script (state_behind script turns) k (taker turn)) (counted_so m.turns (length turns) taken.count few)
    ∙ ap (λ (s : ScriptValue). told_at s (state_behind script turns) (1 + length turns) (taker turn)) same

one_longer : (turns : List (List NoteValue)) (turn : List NoteValue) → 1 + length turns ≡ length (turns ++ turn ∷ [])
one_longer turns turn = let l = length-append turns (turn ∷ []) in omega (arith, l)

count_on : (was is : ℕ) (turns : List (List NoteValue)) (turn : List NoteValue) → was ≡ length turns → length turns + 1 < 2 ^ 32 → is ≡ counted was → is ≡ length (turns ++ turn ∷ [])
count_on was is turns turn same few counts = counts ∙ counted_so was (length turns) same few ∙ one_longer turns turn

-- a machine that tells the same is beside one turn more
pub beside_on : (script : ScriptValue) (turns : List (List NoteValue)) (turn told : List NoteValue) (m n : MachineValue) → m.script ≡ script → HasTaken script turns m → length turns + 1 < 2 ^ 32 → TakesTurn m n (taker turn) (state_behind script turns) told → told ≡ turn → HasTaken script (turns ++ turn ∷ []) n
beside_on script turns turn told m n same taken few taking is =
    record {
      core =
          ap (λ (ts : List (List NoteValue)). ts ++ turn ∷ []) taken.core
          ∙ ap (λ (t : List NoteValue). told_from script (run_start script) 1 (takers turns) ++ t ∷ []) (sym is ∙ told_so script turns turn told m n same taken few taking)
          ∙ sym (told_behind script turns turn);
      shown =
          subst (λ (r : RunState). Shows n r)
          (sym (ap (λ (actors : List ℕ). turned script (run_start script) actors) (takers_on turns turn) ∙ turned_on script (run_start script) (takers turns) (taker turn)))
          (subst (λ (s : ScriptValue). Shows n (run_after s (state_behind script turns) (taker turn))) same taking.shown);
      count = count_on m.turns n.turns turns turn taken.count few taking.counts;
    }

-- one that tells something else is beside no turns any more
pub parts_here : (script : ScriptValue) (turns : List (List NoteValue)) (turn told : List NoteValue) (m n : MachineValue) → m.script ≡ script → HasTaken script turns m → length turns + 1 < 2 ^ 32 → TakesTurn m n (taker turn) (state_behind script turns) told → (told ≡ turn → ⊥) → AreOfCore script (turns ++ turn ∷ []) → ⊥
parts_here script turns turn told m n same taken few taking other core =
    other
    (
    told_so script turns turn told m n same taken few taking
    ∙ sym (same_ends turns (told_from script (run_start script) 1 (takers turns)) turn (told_at script (state_behind script turns) (1 + length turns) (taker turn)) (core ∙ told_behind script turns turn)).1
    )

pub taker_is : (notes : List NoteValue) (first : NoteValue) → 0 < length notes → first ≡ get_or notes 0 first → taker notes ≡ first.actor
taker_is [] first some is = absurd (omega (arith, some))
taker_is (n ∷ notes) first some is = ap (λ (m : NoteValue). m.actor) (sym is)

taking_of : (script : ScriptValue) (turns : List (List NoteValue)) (turn told : List NoteValue) (m n : MachineValue) (a : ℕ) → taker turn ≡ a → HasTaken script turns m → TakesTurns m n a told → TakesTurn m n (taker turn) (state_behind script turns) told
taking_of script turns turn told m n a who taken takes =
    subst (λ (k : ℕ). TakesTurn m n k (state_behind script turns) told) (sym who) (takes (state_behind script turns) taken.shown)

pub followed : (script : ScriptValue) (turns : List (List NoteValue)) (turn told : List NoteValue) (m n : MachineValue) (a : ℕ) (is : Bool) → taker turn ≡ a → m.script ≡ script → n.script ≡ m.script → HasTaken script turns m → length turns + 1 < 2 ^ 32 → TakesTurns m n a told → (IsTrue is → told ≡ turn) × (told ≡ turn → IsTrue is) → IsReplay script (turns ++ turn ∷ []) (record { machine = n; is_beside = is })
followed script turns turn told m n a true who same kept taken few takes by =
    record {
      same = kept ∙ same;
      beside = beside_on script turns turn told m n same taken few (taking_of script turns turn told m n a who taken takes) (by.0 refl);
    }
followed script turns turn told m n a false who same kept taken few takes by =
    record {
      same = kept ∙ same;
      beside =
          parts_here script turns turn told m n same taken few (taking_of script turns turn told m n a who taken takes)
          (λ is. absurd (let wrong = by.1 is in cc));
    }
