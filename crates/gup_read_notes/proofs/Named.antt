-- The names of a script by their kinds: what is found is the number of its name, and what has a number is found by its name.
use Rattle.std.proofs.Common.{◌≡◌, ℕ, ◌<◌, List, length, map, slice_get, Option, Some, None, refl, sym, ap, subst, ◌∙◌, inl, inr, [], ◌∷◌, ◌++◌, ◌+◌, take, arith}
use Rattle.std.specs.Option.{option_map}
use Rattle.std.proofs.lemmas.List.{length-map}
use Rattle.std.proofs.lemmas.Option.{slice_get_within, slice_get-map, slice_get_cases}
use Rattle.gup_script.specs.Script.{ScriptValue, Actor, Process, actor_at, process_at}
use Rattle.gup_lines.specs.Text.{name_in, process_name, handle_name}
use Rattle.gup_spec_grammar.specs.Said.{Word as Letters}
use Rattle.gup_spec_trace.specs.Names.{AreNames}
use Rattle.gup_spec_trace.specs.Note.{actor, process, handle, slot}
use Rattle.gup_spec_trace.specs.Written.{IsActor, IsProcess, IsHandle, IsSlot}
use Rattle.gup_read_notes.specs.Names.{actor_names, process_names, place_of, actor_in, process_in, handle_in, slot_in}
use Rattle.gup_read_notes.proofs.Places.{AreApart, place_found, apart_read, new_name, name_more}

some_at : {X : Type 0} (xs : List X) (k : ℕ) → k < length xs → (x : X) × (slice_get xs k ≡ Some x)
some_at xs k lt = elim (slice_get_cases xs k).1 [ inl h ↦ (h.0, h.2) | inr h ↦ absurd (omega (arith, h.0)) ]

-- A list of names, and what reads the name with a number below its length.
module _ {X : Type 0} (name : X → Letters) (read : Option X → Letters) (reads : (x : X) → read (Some x) ≡ name x) (xs : List X) where
  abbrev names : List Letters
  names = map name xs

  found_in : (o : Option X) (w : Letters) → option_map name o ≡ Some w → w ≡ read o
  found_in None w e = absurd cc
  found_in (Some x) w e = let same : name x ≡ w = cc in sym same ∙ sym (reads x)

  pub at_found : (k : ℕ) (w : Letters) → slice_get names k ≡ Some w → (k < length xs) × (w ≡ read (slice_get xs k))
  at_found k w e =
      let within = slice_get_within names k w e in
      (omega (arith, length-map xs name), found_in (slice_get xs k) w (sym (slice_get-map name xs k) ∙ e))

  given_in : (o : Option X) (x : X) → o ≡ Some x → option_map name o ≡ Some (read o)
  given_in None x e = absurd cc
  given_in (Some y) x e = ap (λ (w : Letters). Some w) (sym (reads y))

  pub at_read : (k : ℕ) → k < length xs → slice_get names k ≡ Some (read (slice_get xs k))
  at_read k lt =
      let some = some_at xs k lt in
      slice_get-map name xs k ∙ given_in (slice_get xs k) some.0 some.1

  pub apart : ((j k : ℕ) → j < length xs → k < length xs → read (slice_get xs j) ≡ read (slice_get xs k) → j ≡ k) → AreApart names
  apart one = record {
    one = λ j k w e f.
        let a = at_found j w e in
        let b = at_found k w f in
        one j k a.0 b.0 (sym a.1 ∙ b.1);
  }

  -- the next name of a list of those so far
  pub next_name : AreApart names → (k : ℕ) → k < length xs → (table : List Letters) (w : Letters) → table ≡ take k names → ((x : X) → slice_get xs k ≡ Some x → w ≡ name x) → (place_of table w ≡ None) × (table ++ w ∷ [] ≡ take (k + 1) names)
  next_name apart k lt table w so_far is =
      let some = some_at xs k lt in
      let here : slice_get names k ≡ Some w =
      slice_get-map name xs k ∙ ap (option_map name) some.1 ∙ ap (λ (v : Letters). Some v) (sym (is some.0 some.1)) in
      (ap (λ names. place_of names w) so_far ∙ new_name names w k apart here, ap (λ names. names ++ w ∷ []) so_far ∙ name_more names w k here)

map_same : (names : List Letters) → map (λ (w : Letters). w) names ≡ names
map_same [] = refl
map_same (w ∷ names) = ap (λ (ws : List Letters). w ∷ ws) (map_same names)

-- the list of the names itself, where a name stands for itself

abbrev itself : Letters → Letters
itself w = w

pub next_text : (names : List Letters) → AreApart names → (k : ℕ) → k < length names → (table : List Letters) (w : Letters) → table ≡ take k names → ((x : Letters) → slice_get names k ≡ Some x → w ≡ x) → (place_of table w ≡ None) × (table ++ w ∷ [] ≡ take (k + 1) names)
next_text names apart k lt table w so_far is =
    let same = map_same names in
    let next = next_name itself handle_name (λ w. refl) names (subst AreApart (sym same) apart) k lt table w (so_far ∙ ap (take k) (sym same)) is in
    (next.0, next.1 ∙ ap (take (k + 1)) same)

-- ---- actors

pub actors_apart : (s : ScriptValue) → AreNames s → AreApart (actor_names s)
actors_apart s h = apart (λ (a : Actor). a.name) name_in (λ a. refl) s.actors h.one_actor

pub actor_found : (s : ScriptValue) (w : Letters) (a : ℕ) → actor_in s w ≡ Some a → IsActor s a × (w ≡ actor s a)
actor_found s w a e = at_found (λ (a : Actor). a.name) name_in (λ a. refl) s.actors a w (place_found (actor_names s) w a e)

pub actor_read : (s : ScriptValue) → AreNames s → (a : ℕ) → IsActor s a → actor_in s (actor s a) ≡ Some a
actor_read s h a is = apart_read (actor_names s) (actor s a) a (actors_apart s h) (at_read (λ (a : Actor). a.name) name_in (λ a. refl) s.actors a is)

pub next_actor : (s : ScriptValue) → AreNames s → (a : ℕ) → IsActor s a → (table : List Letters) (w : Letters) → table ≡ take a (actor_names s) → ((x : Actor) → actor_at s a ≡ Some x → w ≡ x.name) → (place_of table w ≡ None) × (table ++ w ∷ [] ≡ take (a + 1) (actor_names s))
next_actor s h a is table w so_far named = next_name (λ (a : Actor). a.name) name_in (λ a. refl) s.actors (actors_apart s h) a is table w so_far named

-- ---- processes

pub processes_apart : (s : ScriptValue) → AreNames s → AreApart (process_names s)
processes_apart s h = apart (λ (p : Process). p.name) process_name (λ p. refl) s.processes h.one_process

pub process_found : (s : ScriptValue) (w : Letters) (p : ℕ) → process_in s w ≡ Some p → IsProcess s p × (w ≡ process s p)
process_found s w p e = at_found (λ (p : Process). p.name) process_name (λ p. refl) s.processes p w (place_found (process_names s) w p e)

pub process_read : (s : ScriptValue) → AreNames s → (p : ℕ) → IsProcess s p → process_in s (process s p) ≡ Some p
process_read s h p is = apart_read (process_names s) (process s p) p (processes_apart s h) (at_read (λ (p : Process). p.name) process_name (λ p. refl) s.processes p is)

pub next_process : (s : ScriptValue) → AreNames s → (p : ℕ) → IsProcess s p → (table : List Letters) (w : Letters) → table ≡ take p (process_names s) → ((x : Process) → process_at s p ≡ Some x → w ≡ x.name) → (place_of table w ≡ None) × (table ++ w ∷ [] ≡ take (p + 1) (process_names s))
next_process s h p is table w so_far named = next_name (λ (p : Process). p.name) process_name (λ p. refl) s.processes (processes_apart s h) p is table w so_far named

-- ---- handles

pub handles_apart : (s : ScriptValue) → AreNames s → AreApart s.handles
handles_apart s h = subst AreApart (map_same s.handles) (apart itself handle_name (λ w. refl) s.handles h.one_handle)

pub handle_found : (s : ScriptValue) (w : Letters) (h : ℕ) → handle_in s w ≡ Some h → IsHandle s h × (w ≡ handle s h)
handle_found s w h e =
    at_found itself handle_name (λ w. refl) s.handles h w (ap (λ (ws : List Letters). slice_get ws h) (map_same s.handles) ∙ place_found s.handles w h e)

pub handle_read : (s : ScriptValue) → AreNames s → (h : ℕ) → IsHandle s h → handle_in s (handle s h) ≡ Some h
handle_read s names h is =
    apart_read s.handles (handle s h) h (handles_apart s names) (ap (λ (ws : List Letters). slice_get ws h) (sym (map_same s.handles)) ∙ at_read itself handle_name (λ w. refl) s.handles h is)

-- ---- slots

pub slots_apart : (s : ScriptValue) → AreNames s → AreApart s.mirrors
slots_apart s h = subst AreApart (map_same s.mirrors) (apart itself handle_name (λ w. refl) s.mirrors h.one_slot)

pub slot_found : (s : ScriptValue) (w : Letters) (m : ℕ) → slot_in s w ≡ Some m → IsSlot s m × (w ≡ slot s m)
slot_found s w m e =
    at_found itself handle_name (λ w. refl) s.mirrors m w (ap (λ (ws : List Letters). slice_get ws m) (map_same s.mirrors) ∙ place_found s.mirrors w m e)

pub slot_read : (s : ScriptValue) → AreNames s → (m : ℕ) → IsSlot s m → slot_in s (slot s m) ≡ Some m
slot_read s names m is =
    apart_read s.mirrors (slot s m) m (slots_apart s names) (ap (λ (ws : List Letters). slice_get ws m) (sym (map_same s.mirrors)) ∙ at_read itself handle_name (λ w. refl) s.mirrors m is)
