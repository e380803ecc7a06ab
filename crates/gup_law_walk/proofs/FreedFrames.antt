-- A frame that nothing refers to loses its mark and its object: it is in no entry, and under no pin.
use Rattle.std.proofs.Common.{◌≡◌, ℕ, Bool, true, false, refl, sym, subst, arith}
use Rattle.std.specs.Prelude.{Option, None, if◌then◌else◌}
use Rattle.std.proofs.lemmas.Bool.Decides.{nat_tests}
use Rattle.gup_base.specs.declared.entry.Entry.{Entry}
use Rattle.gup_plain.specs.Put.{put}
use Rattle.gup_spec_events.specs.State.{CoreState}
use Rattle.gup_law_base.specs.Sound.{View, IsSoundBy}
use Rattle.gup_law_base.proofs.Clauses.{OwnAlone, OwnMade, OwnNames, OwnEntry, OwnWords, OwnMarked, OwnMarking, MarkedOwn, EntryMarked, HandleMarked, HandleOwn, HandleFlag, TakenMarked, TakenOwn, WalkOwn, WalkUnowned, WalkKept, WalkWritable, PreparedUnmarked, PreparedUnowned, MarkingOwn, ShareUnowned}
use Rattle.gup_law_base.proofs.NamedObjects.{by_points}
use Rattle.gup_law_base.proofs.Lonely.{whole_counts, handle_counts, taken_counts}

put_itself : {X : Type 0} (k : ℕ) (f : ℕ → X) (n : ℕ) → put k (f k) f n ≡ f n
put_itself k f n = grind (arith, nat_tests)

module _ (v : View) (s : CoreState) (h : IsSoundBy v s) (f : ℕ) where
  -- the frame is nobody's
  frees : v.references f ≡ 0 → IsSoundBy v (record s { mark = put f false s.mark; own = put f None s.own })
  frees none =
      let S : CoreState = record s { mark = put f false s.mark; own = put f None s.own } in
      let own_alone : OwnAlone v S = λ u i o. grind (arith, nat_tests, h.own_alone u i o) in
      let own_made : OwnMade v S = λ u o. grind (arith, nat_tests, h.own_made u o) in
      let own_names : OwnNames v S = λ q i o d. grind (arith, nat_tests, h.own_names q i o d) in
      let own_entry : OwnEntry v S = λ u q i o. grind (arith, nat_tests, h.own_entry u q i o) in
      let own_words : OwnWords v S = λ u o w. grind (arith, nat_tests, h.own_words u o w) in
      let own_marked : OwnMarked v S = λ q i o d. grind (arith, nat_tests, h.own_marked q i o d) in
      let own_marking : OwnMarking v S = λ q i o b d. grind (arith, nat_tests, h.own_marking q i o b d) in
      let marked_own : MarkedOwn v S = λ q i d. grind (arith, nat_tests, h.marked_own q i d) in
      let entry_marked : EntryMarked v S = λ q i d. grind (arith, nat_tests, h.entry_marked q i d, whole_counts v s h q i d) in
      let handle_marked : HandleMarked v S = λ j n u. grind (arith, nat_tests, h.handle_marked j n u, handle_counts v s h j n u) in
      let handle_own : HandleOwn v S = λ j n u. grind (arith, nat_tests, h.handle_own j n u, handle_counts v s h j n u) in
      let handle_flag : HandleFlag v S = λ j n u o q i. grind (arith, nat_tests, h.handle_flag j n u o q i) in
      let taken_marked : TakenMarked v S = λ b n t. grind (arith, nat_tests, h.taken_marked b n t, taken_counts v s h b n t) in
      let taken_own : TakenOwn v S = λ b n t. grind (arith, nat_tests, h.taken_own b n t, taken_counts v s h b n t) in
      let walk_own : WalkOwn v S = λ b n o w t. grind (arith, nat_tests, h.walk_own b n o w t) in
      let walk_unowned : WalkUnowned v S = λ b n w t. grind (arith, nat_tests, h.walk_unowned b n w t) in
      let walk_kept : WalkKept v S = λ b n w t. grind (arith, nat_tests, h.walk_kept b n w t, taken_counts v s h b n t) in
      let walk_writable : WalkWritable v S = λ b n w t d. grind (arith, nat_tests, h.walk_writable b n w t d, taken_counts v s h b n t) in
      let prepared_unmarked : PreparedUnmarked v S = λ b u. grind (arith, nat_tests, h.prepared_unmarked b u) in
      let prepared_unowned : PreparedUnowned v S = λ b u. grind (arith, nat_tests, h.prepared_unowned b u) in
      let marking_own : MarkingOwn v S = λ b m. grind (arith, nat_tests, h.marking_own b m, h.marking_entry b m, λ (e : Entry). whole_counts v s h m.proc m.page e) in
      let share_unowned : ShareUnowned v S = λ b i fork d. grind (arith, nat_tests, h.share_unowned b i fork d) in
      let sound : IsSoundBy v S = assumption in
      sound

  keeps : IsSoundBy v (record s { mark = put f (s.mark f) s.mark; own = put f (s.own f) s.own })
  keeps =
      subst (λ (mark : ℕ → Bool). IsSoundBy v (record s { mark = mark; own = put f (s.own f) s.own })) (sym (by_points (put_itself f s.mark))) (subst (λ (own : ℕ → Option ℕ). IsSoundBy v (record s { own = own })) (sym (by_points (put_itself f s.own))) h)

  -- the frame is nobody's, where it is freed
  pub freed : (free : Bool) → (free ≡ true → v.references f ≡ 0) → IsSoundBy v (record s { mark = put f (if free then false else s.mark f) s.mark; own = put f (if free then None else s.own f) s.own })
  freed true none = frees (none refl)
  freed false none = keeps
