-- A walk reads the same entry again, and takes the page: its grab becomes a page taken.
use Rattle.std.proofs.Common.{◌≡◌, ℕ, ◌+◌, ◌-◌, ◌<◌, ◌≤◌, inl, inr, Bool, true, false, List, [], ◌∷◌, ◌++◌, length, refl, ap, sym, ◌∙◌, subst, arith}
use Rattle.std.specs.Prelude.{Some, None, slice_get, ◌==◌, ◌&&◌, if◌then◌else◌}
use Rattle.std.proofs.lemmas.Bool.Decides.{nat_tests}
use Rattle.gup_base.specs.declared.entry.Entry.{Entry}
use Rattle.gup_plain.specs.Put.{put}
use Rattle.gup_plain.specs.State.{Pending, born}
use Rattle.gup_spec_tables.specs.Tables.{TreeValue}
use Rattle.gup_spec_tables.specs.Paths.{is_there, entry_at}
use Rattle.gup_spec_events.specs.State.{CoreState, Taken, Job, walking, grabbed, rechecked, plain_of}
use Rattle.gup_spec_events.specs.Event.{Can, bias, IsUntaken, AreAlike, writes_taken, long_taken, tree_in, recheck_same}
use Rattle.gup_law_base.specs.Sound.{View, Walking, walk_frame, IsSoundBy, IsSound, Simulates}
use Rattle.gup_law_base.proofs.Clauses.{References, Grabs, CountIs, PreparedOnce, MovingOnce}
use Rattle.gup_law_base.proofs.Rows.{at_either, at_within, all_from}
use Rattle.gup_law_base.proofs.Tally.{tally_is, tally_taken, tally_drop, number_here}
use Rattle.gup_law_base.proofs.Lonely.{once_wholes, prepared_whole, born_mapped, grab_counts}
use Rattle.gup_law_base.proofs.PinLists.{all_alike, all_untaken, write_more, long_more, untold, told_more, allows}
use Rattle.gup_law_walk.proofs.Switches.{ArePages, IsWalk, IsActor, actor_is, switched, switched_view, switches, put_there}
use Rattle.gup_law_walk.proofs.Steps.{walking_light, walk_of, in_walk, walk_seen, walk_known, walk_light, number_stays}

longer_by_one : (ts : List Taken) (t : Taken) → length (ts ++ t ∷ []) ≡ length ts + 1
longer_by_one [] t = refl
longer_by_one (u ∷ ts) t = omega (arith, longer_by_one ts t)

-- what holds of the pages taken and of one more, holds of each
each_more : (P : ℕ → Taken → Type 0) (ts : List Taken) (t : Taken) → ((k : ℕ) (u : Taken) → slice_get ts k ≡ Some u → P k u) → P (length ts) t → (k : ℕ) (u : Taken) → slice_get (ts ++ t ∷ []) k ≡ Some u → P k u
each_more P ts t old new k u is =
    elim (at_either ts t k u is) [
      | inl at ↦ old k u at
      | inr e ↦ subst (λ (n : ℕ). P n u) (sym e.0) (subst (P (length ts)) (sym e.1) new)
    ]

module _ (v : View) (s : CoreState) (ts : List Taken) (t : Taken) where
  -- a page more, alike and none of those that were taken
  pages_more : ArePages v s ts → t.object < s.made → s.has_pinned t.proc ≡ true → ((p g : ℕ) → v.names p g ≡ Some t.object → (p ≡ t.proc) × (g ≡ t.page)) → (t.long ≡ true → s.movable ≤ t.frame) → AreAlike ts t.write t.long → IsUntaken ts t.page → ArePages v s (ts ++ t ∷ [])
  pages_more old made flag names normal alike untaken =
      let us : List Taken = ts ++ t ∷ [] in
      let write : writes_taken us ≡ t.write = write_more ts t t.long alike in
      let long : long_taken us ≡ t.long = long_more ts t t.write alike in
      record {
        made = each_more (λ k u. u.object < s.made) ts t old.made made;
        flag = each_more (λ k u. s.has_pinned u.proc ≡ true) ts t old.flag flag;
        names = λ k p g u is named. each_more (λ k u. v.names p g ≡ Some u.object → (p ≡ u.proc) × (g ≡ u.page)) ts t (λ k u. old.names k p g u) (names p g) k u is named;
        normal = each_more (λ k u. u.long ≡ true → s.movable ≤ u.frame) ts t old.normal normal;
        write = each_more (λ k u. u.write ≡ writes_taken us) ts t (λ k u is. (all_alike ts k u t.write t.long alike is).0 ∙ sym write) (sym write);
        long = each_more (λ k u. u.long ≡ long_taken us) ts t (λ k u is. (all_alike ts k u t.write t.long alike is).1 ∙ sym long) (sym long);
        apart = λ j k u x. grind (arith, nat_tests, old.apart j k u x, at_either ts t j u, at_either ts t k x, all_untaken ts j u t.page untaken, all_untaken ts k x t.page untaken);
      }

-- what is read at the end of a path is the page's entry
pub entry_there : (v : TreeValue) (path : List ℕ) (page : ℕ) (e : Entry) → entry_at v path page ≡ Some e → v.entry page ≡ Some e
entry_there v path page e is = go (is_there v path page && (length path == 3)) is
  where
    go : (whole : Bool) → (if whole then v.entry page else None) ≡ Some e → v.entry page ≡ Some e
    go true is = is
    go false is = absurd (cc)

-- the entry is there, so that its frame is neither prepared nor cleared with the count 1; where it is exclusive, it is the
-- page's
pub simulates-recheck_same : (s : CoreState) (a p : ℕ) (write long : Bool) (sequence page : ℕ) (path : List ℕ) (entry : Entry) → IsSound s → Can s (recheck_same a p write long sequence page path entry) → Simulates s (recheck_same a p write long sequence page path entry)
simulates-recheck_same s a p write long sequence page path e (v, h) c =
    let f : ℕ = e.frame in
    let ts : List Taken = s.taken a in
    let old : Walking = walk_of p write long sequence (grabbed page path e) in
    let now : Walking = walk_of p write long sequence (rechecked page e) in
    let was : IsWalk v s ts old = walk_known v s h a p write long sequence (grabbed page path e) c.0 in
    let seen : walk_frame (v.walks a) ≡ Some f = ap walk_frame (walk_seen v s h a p write long sequence (grabbed page path e) c.0) in
    let new : Taken = record { proc = p; page = page; frame = e.frame; object = s.object p page; write = write; long = long } in
    let us : List Taken = ts ++ new ∷ [] in
    let job : Job = walking p write long sequence (rechecked page e) in
    let more : ℕ → ℕ = put f (v.references f + bias) v.references in
    let fewer : ℕ → ℕ = put f (v.grabs f - bias) v.grabs in
    let taken : ℕ → List Taken = put a us s.taken in
    let S : CoreState = switched v s h a job s.walks s.count more fewer taken in
    let V : View = switched_view v s h a job s.walks s.count more fewer taken in
    let there : v.whole p page ≡ Some e = h.whole_entry p page e (entry_there (tree_in s p) path page e c.1) in
    let named : v.names p page ≡ Some (s.object p page) = h.whole_names p page e there in
    let is_born : s.birth p ≡ born = h.flag_born p was.flag in
    let weighs : bias ≤ v.grabs f = grab_counts v s h a f seen in
    let alike : AreAlike ts write long = all_from (λ (t : Taken). (t.write ≡ write) × (t.long ≡ long)) ts (λ k t is. (was.write k t is, was.long k t is)) in
    let untaken : IsUntaken ts page = all_from (λ (t : Taken). t.page ≡ page → ⊥) ts (λ k t. was.untaken k page t refl) in
    let longer : length us ≡ length ts + 1 = longer_by_one ts new in
    let references : References V S = tally_is _ _ _ (tally_taken _ _ _ _ _ _ _ _ a new h.references) (λ d. grind (arith, nat_tests)) in
    let grabs : Grabs V S = tally_drop v.grabs v.walks a f (Some now) seen refl h.grabs in
    let count_is : CountIs V S = λ u. grind (arith, nat_tests, h.count_is u) in
    let prepared_once : PreparedOnce V S = λ b u. grind (arith, nat_tests, h.prepared_once b u, prepared_whole v s h b u p page e) in
    let moving_once : MovingOnce V S = λ b m. grind (arith, nat_tests, h.moving_once b m, h.whole_moved b m, once_wholes v s h m.proc m.page p page m.entry e, h.moved_gone b m) in
    let pages : ArePages v s us = pages_more v s ts new (actor_is v s h a).pages (h.names_made p page (s.object p page) named) was.flag (λ q g is. h.names_alone q g p page (s.object p page) is named) (was.normal e refl) alike untaken in
    let own_new = λ (o : ℕ) (is : s.own e.frame ≡ Some o). let owned : v.names p page ≡ Some o = h.own_names p page o e there is in let r : o ≡ s.object p page = cc in r in
    let unowned_new : s.own e.frame ≡ None → s.mark e.frame ≡ false = grind (arith, nat_tests, h.marked_own p page e, named) in
    let walk : IsWalk v s us now =
    record {
      flag = was.flag;
      empty = λ k t first. absurd (cc);
      even = λ inside. was.even refl;
      below = λ inside. was.below refl;
      proc = each_more (λ k t. t.proc ≡ p) ts new was.proc refl;
      write = each_more (λ k t. t.write ≡ write) ts new was.write refl;
      long = each_more (λ k t. t.long ≡ long) ts new was.long refl;
      untaken = λ k g t tried. absurd (cc);
      writes = λ d tried. absurd (cc);
      normal = λ d tried. absurd (cc);
      own = λ k o t inside same. each_more (λ k t. s.own t.frame ≡ Some o → o ≡ t.object) ts new (λ k t at. was.own k o t refl same at) (own_new o) k t;
      unowned = λ k t inside same. each_more (λ k t. s.own t.frame ≡ None → s.mark t.frame ≡ false) ts new (λ k t at. was.unowned k t refl same at) unowned_new k t;
      kept = λ k t inside same. each_more (λ k t. k + 1 < length us → s.mark t.frame ≡ true) ts new (λ k t at within. was.kept k t refl same at (omega (arith, at_within ts k t at))) (λ within. absurd (omega (arith, longer, within))) k t;
      last = λ k t d checked. each_more (λ k t. k + 1 ≡ length us → t.frame ≡ d.frame) ts new (λ k t at end. absurd (omega (arith, longer, end, at_within ts k t at))) (λ end. let same : e ≡ d = cc in ap (λ (x : Entry). x.frame) same) k t;
      writable = λ k t d checked writable same. each_more (λ k t. k + 1 ≡ length us → s.mark t.frame ≡ true) ts new (λ k t at end. absurd (omega (arith, longer, end, at_within ts k t at))) (λ end. h.entry_marked p page e there (let is : e ≡ d = cc in ap (λ (x : Entry). x.writable) is ∙ writable)) k t;
    } in
    let actor : IsActor v s (taken a) (Some now) = subst (λ xs. IsActor v s xs (Some now)) (sym (number_here a us s.taken)) (in_walk v s us now pages (λ closed. absurd (cc)) walk) in
    let sound : IsSoundBy V S = switches v s h a job s.walks s.count more fewer taken (walk_light v s h a p write long sequence (grabbed page path e) c.0) (walking_light p write long sequence (rechecked page e)) (λ b apart. put_there a us s.taken b apart) references grabs count_is prepared_once moving_once (number_stays v s h a p write long sequence (grabbed page path e) c.0 sequence (rechecked page e)) actor in
    record { sound = (V, sound); can = (is_born, allows v s h p page e write is_born there (was.writes e refl), untold ts page untaken); same = ap (λ (x : ℕ → List Pending). record (plain_of s) { pending = x }) (told_more s a p page new (born_mapped v s h p page e is_born there)) }
