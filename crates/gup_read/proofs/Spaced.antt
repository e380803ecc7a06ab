-- No word of a line that is right is empty, since no name is.
use Rattle.gup_base.specs.declared.entry.Zone.{Zone}
use Rattle.gup_base.specs.declared.entry.Zone.TheVariants.{Movable, Normal}
use Rattle.std.proofs.Common.{◌≡◌, ℕ, ◌^◌, ◌<◌, Bool, true, false, cond, List, [], ◌∷◌, ◌++◌, length, refl, sym, ap, subst, ◌∙◌, Option, Some, None, ◌⊎◌, inl, inr, arith}
use Rattle.std.specs.Prelude.{codes, bytes_eq, decimal}
use Rattle.std.specs.List.{AllByRecursion}
use Rattle.std.proofs.lemmas.Fmt.{decimal_nonempty}
use Rattle.gup_base.specs.declared.entry.Rights.{Rights}
use Rattle.gup_base.specs.declared.entry.Rights.TheVariants.{R, RW}
use Rattle.gup_base.specs.Parts.{Part}
use Rattle.gup_spec_grammar.specs.Spelling.{parts, IsName, turn_word, address, segment}
use Rattle.gup_spec_grammar.specs.Names.{NamedEntry, find, declared}
use Rattle.gup_spec_grammar.specs.declared.named.Named.{Named}
use Rattle.gup_spec_grammar.specs.Outline.{Outline, with_slot}
use Rattle.gup_spec_grammar.specs.Said.{Word, Said, a_process, a_child, a_thread, a_device, a_mover, a_seed, some_turns, random_turns, said_words, Action, maps, unmaps, protects, discards, loads, stores, exits, pins, gets, puts, forks, unpins, takes, gives, transfers, transfers_parts, mirrors, looks, action_words, rights_word, write_word, transfer_word, parts_word, moves, zone_word}
use Rattle.gup_spec_grammar.specs.Grammar.{IsUnused, IsMirrorOf, AreSegments, TurnsAnActor, Declares, ActionNames, with_declared, Does, IsNext, IsSaid, IsRightLine, Stage, before_head, before_frames, open_at}
use Rattle.gup_spec_grammar.specs.Fault.{AreSpaced}
use Rattle.gup_read.proofs.Verdicts.{given}

-- the empty word names nothing
abbrev pub AreNamed : Outline → Type 0
AreNamed st = find st.names [] ≡ None

abbrev pub AreNamedAt : Stage → Type 0
AreNamedAt before_head = Unit {0}
AreNamedAt before_frames = Unit {0}
AreNamedAt (open_at st) = AreNamed st

-- ---- what stays

past : (b : Bool) (x : Named) (o : Option Named) → cond b (Some x) o ≡ None → (b ≡ false) × (o ≡ None)
past true x o e = absurd cc
past false x o e = (refl, e)

unnamed_declared : (es : List NamedEntry) (name : List ℕ) (named : Named) → (name ≡ [] → ⊥) → find es [] ≡ None → find (declared es name named) [] ≡ None
unnamed_declared [] [] named some none = absurd (some refl)
unnamed_declared [] (c ∷ cs) named some none = refl
unnamed_declared (e ∷ es) name named some none =
    let front = past (bytes_eq e.name []) e.named (find es []) none in
    ap (λ b. cond b (Some e.named) (find (declared es name named) [])) front.0 ∙ unnamed_declared es name named some front.1

some_name : (name : Word) → IsName name → name ≡ [] → ⊥
some_name [] h e = h
some_name (c ∷ cs) h e = cc

stays_declared : (st next : Outline) (said : Said) → AreNamed st → Declares st said next → AreNamed next
stays_declared st next (a_process name) h d = subst AreNamed (sym d.4) (unnamed_declared st.names name _ (some_name name d.1) h)
stays_declared st next (a_child name) h d = subst AreNamed (sym d.4) (unnamed_declared st.names name _ (some_name name d.1) h)
stays_declared st next (a_thread name process) h d = subst AreNamed (sym d.4.2) (unnamed_declared st.names name _ (some_name name d.1.0) h)
stays_declared st next (a_device name slots) h d = subst AreNamed (sym d.4.2) (unnamed_declared st.names name _ (some_name name d.1) h)
stays_declared st next (a_mover name) h d = subst AreNamed (sym d.4) (unnamed_declared st.names name _ (some_name name d.1) h)
stays_declared st next (a_seed number) h d = subst AreNamed (sym d.4.2) h
stays_declared st next (some_turns first more) h d = subst AreNamed (sym d.4.2) h
stays_declared st next (random_turns start count) h d = subst AreNamed (sym d.4.4) h

stays_slot : (st : Outline) (a : ℕ) (mirror : Word) → AreNamed st → (IsName mirror × IsUnused st mirror) ⊎ IsMirrorOf st a mirror → AreNamed (with_slot a mirror (find st.names mirror) st)
stays_slot st a mirror h (inl new) = rw new.1 (unnamed_declared st.names mirror _ (some_name mirror new.0) h)
stays_slot st a mirror h (inr own) = rw own.1 h

stays_made : (st : Outline) (a : ℕ) (action : Action) → AreNamed st → ActionNames st a action → AreNamed (with_declared a action st)
stays_made st a (pins fast handle first count write long) h names = unnamed_declared st.names handle _ (some_name handle names) h
stays_made st a (gets handle page) h names = unnamed_declared st.names handle _ (some_name handle names) h
stays_made st a (mirrors mirror process page) h names = stays_slot st a mirror h names.0
stays_made st a _ h names = h

stays_next : (st next : Outline) (words : List Word) → AreNamed st → IsNext st words next → AreNamed next
stays_next st next words h (inl s) = stays_declared st next s.0 h s.2
stays_next st next words h (inr o) = let d = o.6 in subst AreNamed (sym d.5.2) (stays_made st o.1 o.2 h d.2)

stays_said : (stage next : Stage) (words : List Word) → AreNamedAt stage → IsSaid stage words next → AreNamedAt next
stays_said before_head next words h s = subst AreNamedAt (sym s.1) tt
stays_said before_frames next words h s = subst AreNamedAt (sym s.2) refl
stays_said (open_at st) next words h s = subst AreNamedAt (sym s.2) (stays_next st s.0 words h s.1)

pub stays_named : (stage next : Stage) (line : List ℕ) → AreNamedAt stage → IsRightLine stage line next → AreNamedAt next
stays_named stage next line h r = elim r.1 [ inl passed ↦ subst AreNamedAt (sym passed.1) h | inr said ↦ stays_said stage next (parts 32 line) h said.1 ]

-- ---- words that aren't empty

some_decimal : (word : Word) (n : ℕ) → word ≡ decimal n → n < 2 ^ 64 → word ≡ [] → ⊥
some_decimal word n e lt none =
    let long = decimal_nonempty n lt in
    let empty : length (decimal n) ≡ 0 = ap (λ (w : Word). length w) (sym e ∙ none) in
    omega arith

found_name : (st : Outline) (word : Word) (named : Named) → AreNamed st → find st.names word ≡ Some named → word ≡ [] → ⊥
found_name st word named h is e = let both : given named ≡ None = sym is ∙ ap (find st.names) e ∙ h in cc

some_turn_word : (name : Word) (times : ℕ) → turn_word name times ≡ [] → ⊥
some_turn_word [] times e = cc
some_turn_word (c ∷ cs) times e = cc

some_turn : (st : Outline) (word : Word) → AreNamed st → TurnsAnActor st word → word ≡ [] → ⊥
some_turn st word h t e =
    elim t.3.1 [ inl once ↦ found_name st t.0 _ h t.4 (sym once.0 ∙ e) | inr more ↦ some_turn_word t.0 t.1 (sym more.0 ∙ e) ]

some_turns_spaced : (st : Outline) (words : List Word) → AreNamed st → AllByRecursion (TurnsAnActor st) words → AreSpaced words
some_turns_spaced st [] h t = tt
some_turns_spaced st (word ∷ words) h t = (some_turn st word h t.0, some_turns_spaced st words h t.1)

spaced_said : (st next : Outline) (said : Said) → AreNamed st → Declares st said next → AreSpaced (said_words said)
spaced_said st next (a_process name) h d = (λ e. cc, (some_name name d.1, tt))
spaced_said st next (a_child name) h d = (λ e. cc, (some_name name d.1, tt))
spaced_said st next (a_thread name process) h d = (λ e. cc, (some_name name d.1.0, (found_name st process _ h d.1.1.1, tt)))
spaced_said st next (a_device name slots) h d = let n = d.0 in (λ e. cc, (some_name name d.1, (some_decimal slots n.0 n.1.0 (omega (arith, n.1.2)), tt)))
spaced_said st next (a_mover name) h d = (λ e. cc, (some_name name d.1, tt))
spaced_said st next (a_seed number) h d = let n = d.0 in (λ e. cc, (some_decimal number n.0 n.1.0 n.1.1, tt))
spaced_said st next (some_turns first more) h d = (λ e. cc, some_turns_spaced st (first ∷ more) h d.1)
spaced_said st next (random_turns start count) h d = let n = d.0 in (λ e. cc, (some_decimal start n.0 n.2.0 n.2.1, (some_decimal count n.1 n.3.0 n.3.1, tt)))

some_rights : (rights : Rights) → rights_word rights ≡ [] → ⊥
some_rights R e = cc
some_rights RW e = cc

some_way : (write : Bool) → write_word write ≡ [] → ⊥
some_way true e = cc
some_way false e = cc

some_zone : (zone : Zone) → zone_word zone ≡ [] → ⊥
some_zone Normal e = cc
some_zone Movable e = cc

some_transfer : (outward : Bool) → transfer_word outward ≡ [] → ⊥
some_transfer true e = cc
some_transfer false e = cc

some_parts : (outward : Bool) → parts_word outward ≡ [] → ⊥
some_parts true e = cc
some_parts false e = cc

some_segment : (index n : ℕ) → segment index n ≡ [] → ⊥
some_segment index n e = way (decimal index) e where
  way : (front : List ℕ) → front ++ codes ":" ++ decimal n ≡ [] → ⊥
  way [] f = cc
  way (c ∷ cs) f = cc

some_segments : (words : List Word) (moved : List Part) → AreSegments words moved → AreSpaced words
some_segments [] moved h = tt
some_segments (word ∷ words) moved h = (λ e. some_segment h.0 h.1 (sym h.3.0 ∙ e), some_segments words h.2 h.4)

some_address : (page w : ℕ) → address page w ≡ [] → ⊥
some_address page w e = way (decimal page) e where
  way : (front : List ℕ) → front ++ codes "." ++ decimal w ≡ [] → ⊥
  way [] f = cc
  way (c ∷ cs) f = cc

some_mirror : (st : Outline) (a : ℕ) (word : Word) → AreNamed st → (IsName word × IsUnused st word) ⊎ IsMirrorOf st a word → word ≡ [] → ⊥
some_mirror st a word h (inl new) = some_name word new.0
some_mirror st a word h (inr own) = found_name st word _ h own.1

spaced_action : (st next : Outline) (a : ℕ) (action : Action) → AreNamed st → Does st a action next → AreSpaced (action_words action)
spaced_action st next a (maps first count rights) h d = let n = d.1 in (λ e. cc, (some_decimal first n.0 n.2.0 (omega (arith, n.2.4)), (some_decimal count n.1 n.2.1 (omega (arith, n.2.3)), (some_rights rights, tt))))
spaced_action st next a (unmaps first count) h d = let n = d.1 in (λ e. cc, (some_decimal first n.0 n.2.0 (omega (arith, n.2.4)), (some_decimal count n.1 n.2.1 (omega (arith, n.2.3)), tt)))
spaced_action st next a (protects first count rights) h d = let n = d.1 in (λ e. cc, (some_decimal first n.0 n.2.0 (omega (arith, n.2.4)), (some_decimal count n.1 n.2.1 (omega (arith, n.2.3)), (some_rights rights, tt))))
spaced_action st next a (discards first count) h d = let n = d.1 in (λ e. cc, (some_decimal first n.0 n.2.0 (omega (arith, n.2.4)), (some_decimal count n.1 n.2.1 (omega (arith, n.2.3)), tt)))
spaced_action st next a (loads at) h d = let n = d.1 in (λ e. cc, (λ e. some_address n.0 n.1 (sym n.2.0 ∙ e), tt))
spaced_action st next a (stores at value) h d = let n = d.1.0 in let v = d.1.1 in (λ e. cc, (λ e. some_address n.0 n.1 (sym n.2.0 ∙ e), (some_decimal value v.0 v.1.0 v.1.1, tt)))
spaced_action st next a exits h d = (λ e. cc, tt)
spaced_action st next a (pins false handle first count write true) h d = let n = d.1 in (λ e. cc, (some_name handle d.2, (some_decimal first n.0 n.2.0 (omega (arith, n.2.4)), (some_decimal count n.1 n.2.1 (omega (arith, n.2.3)), (some_way write, (λ e. cc, tt))))))
spaced_action st next a (pins true handle first count write true) h d = let n = d.1 in (λ e. cc, (some_name handle d.2, (some_decimal first n.0 n.2.0 (omega (arith, n.2.4)), (some_decimal count n.1 n.2.1 (omega (arith, n.2.3)), (some_way write, (λ e. cc, tt))))))
spaced_action st next a (pins false handle first count write false) h d = let n = d.1 in (λ e. cc, (some_name handle d.2, (some_decimal first n.0 n.2.0 (omega (arith, n.2.4)), (some_decimal count n.1 n.2.1 (omega (arith, n.2.3)), (some_way write, tt)))))
spaced_action st next a (pins true handle first count write false) h d = let n = d.1 in (λ e. cc, (some_name handle d.2, (some_decimal first n.0 n.2.0 (omega (arith, n.2.4)), (some_decimal count n.1 n.2.1 (omega (arith, n.2.3)), (some_way write, tt)))))
spaced_action st next a (gets handle page) h d = let n = d.1 in (λ e. cc, (some_name handle d.2, (some_decimal page n.0 n.1.0 (omega (arith, n.1.1)), tt)))
spaced_action st next a (puts handle) h d = (λ e. cc, (found_name st handle _ h d.2.1, tt))
spaced_action st next a (forks child) h d = (λ e. cc, (found_name st child _ h d.2.1, tt))
spaced_action st next a (moves process page zone) h d = let n = d.1 in (λ e. cc, (found_name st process _ h d.2.1, (some_decimal page n.0 n.1.0 (omega (arith, n.1.1)), (some_zone zone, tt))))
spaced_action st next a (unpins handle) h d = (λ e. cc, (found_name st handle _ h d.2.1, tt))
spaced_action st next a (takes handle) h d = (λ e. cc, (found_name st handle _ h d.2.1, tt))
spaced_action st next a (gives handle to) h d = let n = d.2 in (λ e. cc, (found_name st handle _ h n.0.1, (found_name st to _ h n.1.1, tt)))
spaced_action st next a (transfers outward handle index slot count) h d =
    let n = d.1 in
    let i = n.0 in
    let s = n.1 in
    let k = n.2 in
    (some_transfer outward, (found_name st handle _ h d.2.1, (some_decimal index i.0 i.1.0 (omega (arith, i.1.1)), (some_decimal slot s.0 s.1.0 (omega (arith, s.1.1)), (some_decimal count k.0 k.1.0 (omega (arith, k.1.2)), tt)))))
spaced_action st next a (mirrors mirror process page) h d =
    let n = d.1 in
    (λ e. cc, (some_mirror st a mirror h d.2.0, (found_name st process _ h d.2.1.1, (some_decimal page n.0 n.1.0 (omega (arith, n.1.1)), tt))))
spaced_action st next a (looks mirror word) h d =
    let n = d.1 in (λ e. cc, (found_name st mirror _ h d.2.1, (some_decimal word n.0 n.1.0 (omega (arith, n.1.1)), tt)))
spaced_action st next a (transfers_parts outward handle slot first more) h d =
    let n = d.1 in
    let s = n.0 in
    (some_parts outward, (found_name st handle _ h d.2.1, (some_decimal slot s.0 s.1.0 (omega (arith, s.1.1)), some_segments (first ∷ more) n.1.0 n.1.1.0)))

spaced_next : (st next : Outline) (words : List Word) → AreNamed st → IsNext st words next → AreSpaced words
spaced_next st next words h (inl s) = subst AreSpaced (sym s.1) (spaced_said st next s.0 h s.2)
spaced_next st next words h (inr o) = subst AreSpaced (sym o.3) (λ e. cc, (found_name st o.0 _ h o.4, spaced_action st next o.1 o.2 h o.6))

pub spaced : (stage next : Stage) (words : List Word) → AreNamedAt stage → IsSaid stage words next → AreSpaced words
spaced before_head next words h s = subst AreSpaced (sym s.0) (λ e. cc, (λ e. cc, tt))
spaced before_frames next words h s =
    let k = s.0 in
    let fit = s.1.1 in
    subst AreSpaced (sym s.1.0) (λ e. cc, (some_decimal _ k.movable refl (omega (arith, fit.0)), (some_decimal _ k.normal refl (omega (arith, fit.0)), (some_decimal _ k.tables refl (omega (arith, fit.1)), tt))))
spaced (open_at st) next words h s = spaced_next st s.0 words h s.1
