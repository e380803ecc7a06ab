-- The action that words say, as a function. So words say at most one.
use Rattle.std.proofs.Common.{◌≡◌, Bool, true, false, cond, List, [], ◌∷◌, Option, Some, None, refl, ap}
use Rattle.std.specs.Prelude.{codes}
use Rattle.std.specs.Str.{bytes_eq}
use Rattle.gup_base.specs.declared.entry.Rights.{Rights}
use Rattle.gup_base.specs.declared.entry.Rights.TheVariants.{R, RW}
use Rattle.gup_base.specs.declared.entry.Zone.TheVariants.{Movable, Normal}
use Rattle.gup_spec_grammar.specs.Said.{Word, Action, maps, unmaps, protects, discards, loads, stores, exits, pins, gets, puts, forks, unpins, takes, gives, transfers, transfers_parts, mirrors, looks, moves, action_words}
use Rattle.gup_read.specs.Reading.{zone_in, rights_in, way_in}

-- ---- the words after the operation's own, by how many there are

abbrev pub said_none : Action → List Word → Option Action
said_none say [] = Some say
said_none say _ = None

abbrev pub said_one : (Word → Action) → List Word → Option Action
said_one say (x ∷ []) = Some (say x)
said_one say _ = None

abbrev pub said_two : (Word → Word → Action) → List Word → Option Action
said_two say (x ∷ y ∷ []) = Some (say x y)
said_two say _ = None

abbrev pub said_three : (Word → Word → Word → Action) → List Word → Option Action
said_three say (x ∷ y ∷ z ∷ []) = Some (say x y z)
said_three say _ = None

abbrev pub said_four : (Word → Word → Word → Word → Action) → List Word → Option Action
said_four say (x ∷ y ∷ z ∷ v ∷ []) = Some (say x y z v)
said_four say _ = None

abbrev pub said_parts : (outward : Bool) → List Word → Option Action
said_parts outward (handle ∷ slot ∷ first ∷ more) = Some (transfers_parts outward handle slot first more)
said_parts outward _ = None

-- an action whose last word is fixed
abbrev pub said_with : {A : Type 0} → (A → Action) → Option A → Option Action
said_with say None = None
said_with say (Some x) = Some (say x)

abbrev pub said_range : (Word → Word → Rights → Action) → List Word → Option Action
said_range say (first ∷ count ∷ allowed ∷ []) = said_with (say first count) (rights_in allowed)
said_range say _ = None

abbrev pub said_move : List Word → Option Action
said_move (process ∷ page ∷ zone ∷ []) = said_with (moves process page) (zone_in zone)
said_move _ = None

abbrev pub said_pin : (fast : Bool) → List Word → Option Action
said_pin fast (handle ∷ first ∷ count ∷ way ∷ []) = said_with (λ write. pins fast handle first count write false) (way_in way)
said_pin fast (handle ∷ first ∷ count ∷ way ∷ long ∷ []) =
    cond (bytes_eq long (codes "long")) (said_with (λ write. pins fast handle first count write true) (way_in way)) None
said_pin fast _ = None

-- ---- the action of a line

abbrev pub said_by : Word → List Word → Option Action
said_by word fields =
    cond (bytes_eq word (codes "map")) (said_range maps fields)
    (cond (bytes_eq word (codes "unmap")) (said_two unmaps fields)
    (cond (bytes_eq word (codes "protect")) (said_range protects fields)
    (cond (bytes_eq word (codes "discard")) (said_two discards fields)
    (cond (bytes_eq word (codes "load")) (said_one loads fields)
    (cond (bytes_eq word (codes "store")) (said_two stores fields)
    (cond (bytes_eq word (codes "exit")) (said_none exits fields)
    (cond (bytes_eq word (codes "pin")) (said_pin false fields)
    (cond (bytes_eq word (codes "pinfast")) (said_pin true fields)
    (cond (bytes_eq word (codes "get")) (said_two gets fields)
    (cond (bytes_eq word (codes "put")) (said_one puts fields)
    (cond (bytes_eq word (codes "fork")) (said_one forks fields)
    (cond (bytes_eq word (codes "unpin")) (said_one unpins fields)
    (cond (bytes_eq word (codes "take")) (said_one takes fields)
    (cond (bytes_eq word (codes "give")) (said_two gives fields)
    (cond (bytes_eq word (codes "out")) (said_four (transfers true) fields)
    (cond (bytes_eq word (codes "in")) (said_four (transfers false) fields)
    (cond (bytes_eq word (codes "outv")) (said_parts true fields)
    (cond (bytes_eq word (codes "inv")) (said_parts false fields)
    (cond (bytes_eq word (codes "mirror")) (said_three mirrors fields)
    (cond (bytes_eq word (codes "look")) (said_two looks fields)
    (cond (bytes_eq word (codes "move")) (said_move fields) None)))))))))))))))))))))

abbrev pub action_in : List Word → Option Action
action_in [] = None
action_in (word ∷ fields) = said_by word fields

pub action_read : (action : Action) → action_in (action_words action) ≡ Some action
unfolding rights_in way_in
action_read (maps first count R) = refl
action_read (maps first count RW) = refl
action_read (unmaps first count) = refl
action_read (protects first count R) = refl
action_read (protects first count RW) = refl
action_read (discards first count) = refl
action_read (loads address) = refl
action_read (stores address value) = refl
action_read exits = refl
action_read (pins true handle first count true true) = refl
action_read (pins true handle first count true false) = refl
action_read (pins true handle first count false true) = refl
action_read (pins true handle first count false false) = refl
action_read (pins false handle first count true true) = refl
action_read (pins false handle first count true false) = refl
action_read (pins false handle first count false true) = refl
action_read (pins false handle first count false false) = refl
action_read (gets handle page) = refl
action_read (puts handle) = refl
action_read (forks child) = refl
action_read (unpins handle) = refl
action_read (takes handle) = refl
action_read (gives handle to) = refl
action_read (transfers true handle index slot count) = refl
action_read (transfers false handle index slot count) = refl
action_read (transfers_parts true handle slot first more) = refl
action_read (transfers_parts false handle slot first more) = refl
action_read (mirrors mirror process page) = refl
action_read (looks mirror word) = refl
action_read (moves process page Movable) = refl
action_read (moves process page Normal) = refl

-- words that say no action, or one
pub no_action : (words : List Word) → action_in words ≡ None → (action : Action) → words ≡ action_words action → ⊥
no_action words none action same = absurd (cc (action_read action, ap action_in same, none))

pub one_action : (words : List Word) (a b : Action) → words ≡ action_words a → words ≡ action_words b → a ≡ b
one_action words a b x y = cc (action_read a, action_read b, ap action_in x, ap action_in y)
