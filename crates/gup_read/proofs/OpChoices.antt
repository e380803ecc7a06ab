-- The operation that a word chooses, by the kind of its actor: one of the kind's, or none.
use Rattle.std.proofs.Common.{ℕ, true, false, List, ◌∷◌, Option, Some, None, Result}
use Rattle.std.specs.Prelude.{codes, Contains}
use Rattle.gup_script.specs.declared.op.Kind.{Kind}
use Rattle.gup_script.specs.declared.op.Kind.TheVariants.{Thread, Device, Mover}
use Rattle.gup_script.specs.declared.op.Op.{Op}
use Rattle.gup_spec_grammar.specs.declared.fault.Reason.{Reason}
use Rattle.gup_spec_grammar.specs.declared.fault.Reason.TheVariants as reasons
use Rattle.gup_script.specs.Script.{Actor}
use Rattle.gup_spec_grammar.specs.Said.{Word, op_words, op_words_of}
use Rattle.gup_spec_grammar.specs.Outline.{Outline}
use Rattle.gup_read.specs.Reading.{thread_op_in, device_op_in, mover_op_in, op_of_kind, op_of_actor}
use Rattle.gup_read.proofs.Chains.{Tried}
use Rattle.gup_read.proofs.Choices.{Chosen, choose, none_left, tried_choice}
use Rattle.gup_read.proofs.Judged.{Told}
use Rattle.gup_read.proofs.BuiltActions.{map_told, unmap_told, protect_told, discard_told, load_told, store_told, fork_told, exit_told, move_told}
use Rattle.gup_read.proofs.BuiltHandles.{pin_told, get_told, put_told, unpin_told, take_told, give_told, transfer_told}
use Rattle.gup_read.proofs.BuiltMirrors.{mirror_told, look_told}
use Rattle.gup_read.proofs.BuiltParts.{parts_told}

abbrev says : Outline → (actor : ℕ) → List Word → Word → Result Op Reason → Type 0
says st a fields word result = Told st a (word ∷ fields) result

thread_chosen : (st : Outline) (a p : ℕ) (word : Word) (fields : List Word) → Chosen (says st a fields) word (op_words (Thread p)) (thread_op_in st word fields)
unfolding thread_op_in
thread_chosen st a p word fields =
    choose (says st a fields) word (codes "map") _ _ _ (map_told st a fields)
    (choose (says st a fields) word (codes "unmap") _ _ _ (unmap_told st a fields)
    (choose (says st a fields) word (codes "protect") _ _ _ (protect_told st a fields)
    (choose (says st a fields) word (codes "discard") _ _ _ (discard_told st a fields)
    (choose (says st a fields) word (codes "load") _ _ _ (load_told st a fields)
    (choose (says st a fields) word (codes "store") _ _ _ (store_told st a fields)
    (choose (says st a fields) word (codes "exit") _ _ _ (exit_told st a fields)
    (choose (says st a fields) word (codes "pin") _ _ _ (pin_told st a false fields)
    (choose (says st a fields) word (codes "pinfast") _ _ _ (pin_told st a true fields)
    (choose (says st a fields) word (codes "get") _ _ _ (get_told st a fields)
    (choose (says st a fields) word (codes "put") _ _ _ (put_told st a fields)
    (choose (says st a fields) word (codes "fork") _ _ _ (fork_told st a fields)
    (choose (says st a fields) word (codes "unpin") _ _ _ (unpin_told st a fields)
    (choose (says st a fields) word (codes "take") _ _ _ (take_told st a fields)
    (choose (says st a fields) word (codes "give") _ _ _ (give_told st a fields)
    (none_left (says st a fields) word)))))))))))))))

device_chosen : (st : Outline) (a slots : ℕ) (word : Word) (fields : List Word) → Chosen (says st a fields) word (op_words (Device slots)) (device_op_in st a word fields)
unfolding device_op_in
device_chosen st a slots word fields =
    choose (says st a fields) word (codes "unpin") _ _ _ (unpin_told st a fields)
    (choose (says st a fields) word (codes "take") _ _ _ (take_told st a fields)
    (choose (says st a fields) word (codes "give") _ _ _ (give_told st a fields)
    (choose (says st a fields) word (codes "out") _ _ _ (transfer_told st a true fields)
    (choose (says st a fields) word (codes "in") _ _ _ (transfer_told st a false fields)
    (choose (says st a fields) word (codes "outv") _ _ _ (parts_told st a true fields)
    (choose (says st a fields) word (codes "inv") _ _ _ (parts_told st a false fields)
    (choose (says st a fields) word (codes "mirror") _ _ _ (mirror_told st a fields)
    (choose (says st a fields) word (codes "look") _ _ _ (look_told st a fields)
    (none_left (says st a fields) word)))))))))

mover_chosen : (st : Outline) (a : ℕ) (word : Word) (fields : List Word) → Chosen (says st a fields) word (op_words Mover) (mover_op_in st word fields)
unfolding mover_op_in
mover_chosen st a word fields =
    choose (says st a fields) word (codes "move") _ _ _ (move_told st a fields) (none_left (says st a fields) word)

kind_chosen : (st : Outline) (a : ℕ) (kind : Kind) (word : Word) (fields : List Word) → Chosen (says st a fields) word (op_words kind) (op_of_kind st a kind word fields)
kind_chosen st a (Thread p) word fields = thread_chosen st a p word fields
kind_chosen st a (Device slots) word fields = device_chosen st a slots word fields
kind_chosen st a Mover word fields = mover_chosen st a word fields

by_actor : (st : Outline) (a : ℕ) (actor : Option Actor) (word : Word) (fields : List Word) → Chosen (says st a fields) word (op_words_of actor) (op_of_actor st a actor word fields)
by_actor st a None word fields = none_left (says st a fields) word
by_actor st a (Some actor) word fields = kind_chosen st a actor.kind word fields

-- the operation of an actor
pub op_chosen : (st : Outline) (a : ℕ) (actor : Option Actor) (word : Word) (fields : List Word) → Tried reasons.Word (Contains (op_words_of actor) word) (Told st a (word ∷ fields)) (op_of_actor st a actor word fields)
op_chosen st a actor word fields = tried_choice (says st a fields) word (op_words_of actor) _ (by_actor st a actor word fields)
