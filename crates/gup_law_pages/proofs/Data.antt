-- Loads and stores, and the words that a device moves: what is read and written in a frame is so in an object.
use Rattle.std.proofs.Common.{◌≡◌, ℕ, ◌*◌, ◌/◌, ◌%◌, ◌<◌, ◌≤◌, true, false, List, [], ◌∷◌, zero, suc, refl, ap, sym, ◌∙◌, arith}
use Rattle.std.specs.Prelude.{Some, None, IsSome, slice_get, slice_index, length}
use Rattle.std.proofs.lemmas.Bool.Decides.{nat_tests}
use Rattle.std.proofs.lemmas.Option.{slice_get_within}
use Rattle.gup_base.specs.declared.entry.Entry.{Entry}
use Rattle.gup_base.specs.declared.entry.Rights.{Rights}
use Rattle.gup_plain.specs.Put.{put2}
use Rattle.gup_plain.specs.State.{born, objects_of, named_or_zero}
use Rattle.gup_plain.specs.Event.{words, object_at}
use Rattle.gup_spec_events.specs.State.{CoreState, copying, plain_of}
use Rattle.gup_spec_events.specs.Event.{Can, happens, entry_of, load, store, move_out, move_in}
use Rattle.gup_law_base.specs.Sound.{View, Forking, IsSoundBy, IsSound, Simulates, step_page, is_failing}
use Rattle.gup_law_base.proofs.Clauses.{OwnWords, EntryWords, Untouched, PreparedZero, CopyWords}
use Rattle.gup_law_base.proofs.Lonely.{born_mapped}
use Rattle.gup_law_base.proofs.NamedObjects.{named_here, is_to_write}

-- the page that a fork is copying names no exclusive object yet
copied_unowned : (v : View) (s : CoreState) (f o b i n : ℕ) (k : Forking) → IsSoundBy v s → s.own f ≡ Some o → v.forks b ≡ Some k → k.step ≡ copying i n → s.object k.child i ≡ o → ⊥
copied_unowned v s f o b i n k h owned forks at same =
    let copies : step_page k.step ≡ Some i = ap step_page at in
    let goes : is_failing k.step ≡ false = ap is_failing at in
    let empty : v.whole k.child i ≡ None = h.fork_fresh b i k forks goes (h.fork_undone b i k forks copies) in
    let mapped : s.right k.child i ≡ None → ⊥ = h.fork_mapped b i k forks copies in
    grind (arith, λ (r : Rights). h.right_names k.child i r, h.own_entry f k.child i o)

-- a word of an exclusive frame and of its object is written
pub writes : (v : View) (s : CoreState) (f o word value : ℕ) → IsSoundBy v s → s.own f ≡ Some o → s.mark f ≡ true → IsSoundBy v (record s { word = put2 f word value s.word; content = put2 o word value s.content })
writes v s f o word value h owned marked =
    let S : CoreState = record s { word = put2 f word value s.word; content = put2 o word value s.content } in
    let own_words : OwnWords v S = λ u x w. grind (arith, nat_tests, h.own_words u x w, h.own_alone f u o) in
    let entry_words : EntryWords v S = λ q i w d r. grind (arith, nat_tests, h.entry_words q i w d r, h.right_names q i r, h.own_names q i o d, h.own_entry f q i o) in
    let untouched : Untouched v S = λ q i w r. grind (arith, nat_tests, h.untouched q i w r, h.right_names q i r, h.own_entry f q i o) in
    let prepared_zero : PreparedZero v S = λ b u w. grind (arith, nat_tests, h.prepared_zero b u w, h.prepared_unmarked b u) in
    let copy_words : CopyWords v S = λ b i n w u fork. grind (arith, nat_tests, h.copy_words b i n w u fork, h.prepared_unmarked b u, copied_unowned v s f o b i n fork h owned) in
    assumption

index_is : (xs : List ℕ) (k : ℕ) → k < length xs → slice_get xs k ≡ Some (slice_index xs k)
index_is [] k inside = absurd (omega (arith, inside))
index_is (x ∷ xs) zero inside = refl
index_is (x ∷ xs) (suc k) inside = index_is xs k (omega (arith, inside))

-- a word of a page that a handle still has: the handle has an object with it, which the page's frame holds
pinned_word : (v : View) (s : CoreState) (j index f : ℕ) → IsSoundBy v s → slice_get (s.pinned j) (index / words) ≡ Some f → (index < words * length (objects_of (s.handle j))) × (s.own f ≡ Some (object_at (s.handle j) index))
pinned_word v s j index f h has =
    let has_it : index / words < length (s.pinned j) = slice_get_within (s.pinned j) (index / words) f has in
    let enough : length (s.pinned j) ≤ length (objects_of (s.handle j)) = h.handle_pages j in
    let inside : index / words < length (objects_of (s.handle j)) = omega arith in
    (omega arith, h.handle_own j (index / words) f has ∙ index_is (objects_of (s.handle j)) (index / words) inside)

-- a word of a page that is present is the word of its object
pub reads : (v : View) (s : CoreState) (p page word : ℕ) (e : Entry) → IsSoundBy v s → s.birth p ≡ born → v.whole p page ≡ Some e → word < words → IsSome (s.right p page) × (s.word e.frame word ≡ s.content (named_or_zero (s.right p page) (s.object p page)) word)
reads v s p page word e h is_born there inside =
    let mapped : IsSome (s.right p page) = born_mapped v s h p page e is_born there in
    let shown = named_here (s.right p page) (s.object p page) mapped in
    (mapped, grind (arith, λ (r : Rights). h.entry_words p page word e r))

pub simulates-load : (s : CoreState) (a p page word f value : ℕ) → IsSound s → Can s (load a p page word f value) → Simulates s (load a p page word f value)
simulates-load s a p page word f value (v, h) c =
    let e : Entry = entry_of f c.1.0 in
    let read = reads v s p page word e h c.0 (h.whole_entry p page e c.1.1) c.2 in
    record { sound = (v, h); can = ((c.0, read.0), c.3 ∙ read.1); same = refl }

-- a writable entry has an exclusive frame
pub simulates-store : (s : CoreState) (a p page word f value : ℕ) → IsSound s → Can s (store a p page word f value) → Simulates s (store a p page word f value)
simulates-store s a p page word f value (v, h) c =
    let e : Entry = entry_of f true in
    let there : v.whole p page ≡ Some e = h.whole_entry p page e c.1 in
    let marked : s.mark f ≡ true = h.entry_marked p page e there refl in
    let owned : s.own f ≡ Some (s.object p page) = h.marked_own p page e there marked ∙ h.whole_names p page e there in
    let mapped : IsSome (s.right p page) = born_mapped v s h p page e c.0 there in
    let shown = named_here (s.right p page) (s.object p page) mapped in
    let sound = writes v s f (s.object p page) word value h owned marked in
    record {
      sound = (v, sound);
      can = (c.0, is_to_write (s.right p page) mapped (h.entry_allowed p page e there refl));
      same = ap (λ o. record (plain_of s) { content = put2 o word value s.content }) (sym shown);
    }

-- a device's word is in a pinned frame, and the handle has its object
pub simulates-move_out : (s : CoreState) (a j index slot f value : ℕ) → IsSound s → Can s (move_out a j index slot f value) → Simulates s (move_out a j index slot f value)
simulates-move_out s a j index slot f value (v, h) c =
    let S : CoreState = happens s (move_out a j index slot f value) in
    let has = pinned_word v s j index f h c.0.1 in
    let sound : IsSoundBy v S = assumption in
    let inside : index % words < words = omega arith in
    record {
      sound = (v, sound);
      can = ((c.0.0, has.0, c.0.2), c.1 ∙ h.own_words f (object_at (s.handle j) index) (index % words) has.1 inside);
      same = refl;
    }

pub simulates-move_in : (s : CoreState) (a j index slot f value : ℕ) → IsSound s → Can s (move_in a j index slot f value) → Simulates s (move_in a j index slot f value)
simulates-move_in s a j index slot f value (v, h) c =
    let has = pinned_word v s j index f h c.0.1 in
    let sound = writes v s f (object_at (s.handle j) index) (index % words) value h has.1 (h.handle_marked j (index / words) f c.0.1) in
    record { sound = (v, sound); can = ((c.0.0, has.0, c.0.2), c.1, c.2); same = refl }
