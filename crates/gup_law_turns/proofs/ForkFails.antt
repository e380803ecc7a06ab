-- The events of a fork that fails can happen, tell that it fails and nothing else, and leave its child without entries.
use Rattle.std.proofs.Common.{◌≡◌, ℕ, ◌+◌, ◌<◌, ◌≤◌, nat_lt, Bool, true, false, is_some, not, ◌&&◌, subst, List, [], ◌∷◌, ◌++◌, Option, Some, None, ◌⊎◌, inl, inr, refl, ap, sym, ◌∙◌, eq-or-lt_of_le, zero, suc, arith}
use Rattle.std.proofs.lemmas.Bool.Decides.{nat_tests}
use Rattle.gup_base.specs.declared.entry.Entry.{Entry}
use Rattle.gup_base.specs.declared.entry.Rights.{Rights}
use Rattle.gup_plain.specs.Event.{page_numbers}
use Rattle.gup_plain.specs.Put.{put}
use Rattle.gup_plain.specs.State.{unborn, growing, failed}
use Rattle.gup_plain.specs.declared.event.PlainEvent.{PlainEvent}
use Rattle.gup_plain.specs.declared.event.PlainEvent.TheVariants as events
use Rattle.gup_spec_events.specs.State.{CoreState, ForkStep, idle, forking, failing}
use Rattle.gup_spec_events.specs.Event.{CoreEvent, happens, fail_fork, put_child, AreGone, MayFail, run}
use Rattle.gup_spec_events.specs.Failure.{are_gone, puts_entry, puts_entries, fails}
use Rattle.gup_spec_events.proofs.Gone.{no_puts, are_said}
use Rattle.gup_spec_events.specs.Invariant.{AllCan}
use Rattle.gup_law_base.specs.Sound.{IsSound}
use Rattle.gup_law_events.specs.Law.{all_told}
use Rattle.gup_law_turns.proofs.CalmStates.{of_pages, AreTurnEvents, failing_at, putting_child}
use Rattle.gup_law_turns.proofs.Puts.{put_same}

-- what these events lead to: the actor is in the middle of nothing, and the child has no entry
pub record IsGivenUp (t : CoreState) (a c : ℕ) : Type 0 where
  pub job : t.job a ≡ idle
  pub prepared : t.prepared a ≡ None
  pub owed : t.owed a ≡ None
  pub birth : t.birth c ≡ failed
  pub emptied : (g : ℕ) → t.entry c g ≡ None

-- a number below n, or not
pub below_or_from : (g n : ℕ) → (g < n) ⊎ (n ≤ g)
below_or_from g n = go (nat_lt g n) refl
  where
    go : (b : Bool) → nat_lt g n ≡ b → (g < n) ⊎ (n ≤ g)
    go true is = inl (grind (arith, nat_tests))
    go false is = inr (grind (arith, nat_tests))

module _ (a p c : ℕ) (done : List ℕ) (entry : ℕ → Option Entry) where
  -- the failed child on the way: its entries below the next page are gone, the others are still there
  record IsPutTo (t : CoreState) (next : ℕ) : Type 0 where
    job : t.job a ≡ forking p c done failing
    prepared : t.prepared a ≡ None
    owed : t.owed a ≡ None
    birth : t.birth c ≡ failed
    gone : (g : ℕ) → g < next → t.entry c g ≡ None
    left : (g : ℕ) → next ≤ g → t.entry c g ≡ entry g

  -- events that give up what is left, and tell nothing
  record GivesUp (t : CoreState) (es : List CoreEvent) : Type 0 where
    kinds : AreTurnEvents a p c of_pages es
    can : AllCan t es
    told : all_told es ≡ []
    given : IsGivenUp (run t es) a c

  put_under : (k j : ℕ) (x : Option Entry) (f : ℕ → Option Entry) → j < k → put k x f j ≡ f j
  put_under k j x f less = grind (arith, nat_tests)

  put_apart : (k j : ℕ) (x : Option Entry) (f : ℕ → Option Entry) → k < j → put k x f j ≡ f j
  put_apart k j x f more = grind (arith, nat_tests)

  -- a page without an entry is passed
  passed_on : (t : CoreState) (next : ℕ) → entry next ≡ None → IsPutTo t next → IsPutTo t (next + 1)
  passed_on t next none h =
      record {
        job = h.job;
        prepared = h.prepared;
        owed = h.owed;
        birth = h.birth;
        gone = λ g less. let near : g ≤ next = omega arith in elim (eq-or-lt_of_le near) [ inl same ↦ ap (t.entry c) same ∙ h.left next (omega arith) ∙ none | inr below ↦ h.gone g below ];
        left = λ g least. h.left g (omega arith);
      }

  -- the reference of an entry is given back, and others are left
  put_on : (t : CoreState) (next : ℕ) (e : Entry) → IsPutTo t next → IsPutTo (happens t (put_child a p c done next e false)) (next + 1)
  put_on t next e h =
      record {
        job = h.job;
        prepared = h.prepared;
        owed = h.owed;
        birth = h.birth;
        gone = λ g less. grind (arith, nat_tests, h.gone g);
        left = λ g least. grind (arith, nat_tests, h.left g);
      }

  -- a page with an entry, and those after it
  puts_page : (next n : ℕ) (t : CoreState) (e : Entry) → entry next ≡ Some e → ((g : ℕ) → next + 1 + n ≤ g → entry g ≡ None) → IsPutTo t next → ((u : CoreState) → IsPutTo u (next + 1) → are_gone entry (next + 1) n ≡ false → GivesUp u (puts_entries a p c done entry (next + 1) n)) → GivesUp t (put_child a p c done next e (are_gone entry (next + 1) n) ∷ puts_entries a p c done entry (next + 1) n)
  puts_page next n t e is none h later = go (are_gone entry (next + 1) n) refl
    where
      but : ℕ → Option Entry
      but = put next None (t.entry c)

      alike : (g : ℕ) → next + 1 ≤ g → g < next + 1 + n → put next None (t.entry c) g ≡ entry g
      alike g least below = put_apart next g None (t.entry c) (omega arith) ∙ h.left g (omega arith)

      others : (g : ℕ) → (g < next + 1) ⊎ (next + 1 + n ≤ g) → put next None (t.entry c) g ≡ None
      others g (inl less) =
          let near : g ≤ next = omega arith in
          elim (eq-or-lt_of_le near) [ inl same ↦ ap (put next None (t.entry c)) same ∙ put_same next None (t.entry c) | inr below ↦ put_under next g None (t.entry c) below ∙ h.gone g below ]
      others g (inr high) = put_apart next g None (t.entry c) (omega arith) ∙ h.left g (omega arith) ∙ none g high

      said : AreGone (put next None (t.entry c)) (are_gone entry (next + 1) n)
      said = are_said (put next None (t.entry c)) entry (next + 1) n alike others

      go : (ends : Bool) → are_gone entry (next + 1) n ≡ ends → GivesUp t (put_child a p c done next e ends ∷ puts_entries a p c done entry (next + 1) n)
      go true gone =
          let over : AreGone (put next None (t.entry c)) true = subst (AreGone (put next None (t.entry c))) gone said in
          subst (λ (es : List CoreEvent). GivesUp t (put_child a p c done next e true ∷ es)) (sym (no_puts a p c done entry (next + 1) n gone))
          (record {
            kinds = (putting_child done next e true, tt);
            can = ((h.job, h.left next (omega arith) ∙ is, over), tt);
            told = refl;
            given = record {
              job = put_same a idle t.job;
              prepared = h.prepared;
              owed = h.owed;
              birth = h.birth;
              emptied = λ g. ap (λ (f : ℕ → Option Entry). f g) (put_same c (put next None (t.entry c)) t.entry) ∙ over g;
            };
          })
      go false gone =
          let behind = later (happens t (put_child a p c done next e false)) (put_on t next e h) gone in
          record {
            kinds = (putting_child done next e false, behind.kinds);
            can = ((h.job, h.left next (omega arith) ∙ is, subst (AreGone (put next None (t.entry c))) gone said), behind.can);
            told = behind.told;
            given = behind.given;
          }

  -- the n pages from the first on, of which one has an entry, and after which there are none
  puts_pages : (first n : ℕ) (t : CoreState) → ((g : ℕ) → first + n ≤ g → entry g ≡ None) → IsPutTo t first → are_gone entry first n ≡ false → GivesUp t (puts_entries a p c done entry first n)
  puts_pages first zero t none h some = absurd (cc)
  puts_pages first (suc n) t none h some =
      at_page (entry first) refl some (λ u behind left. puts_pages (first + 1) n u (λ g least. none g (omega arith)) behind left)
    where
      at_page : (here : Option Entry) → entry first ≡ here → not (is_some here) && are_gone entry (first + 1) n ≡ false → ((u : CoreState) → IsPutTo u (first + 1) → are_gone entry (first + 1) n ≡ false → GivesUp u (puts_entries a p c done entry (first + 1) n)) → GivesUp t (puts_entry a p c done first here (are_gone entry (first + 1) n) ++ puts_entries a p c done entry (first + 1) n)
      at_page None is left later = later t (passed_on t first is h) left
      at_page (Some e) is left later = puts_page first n t e is (λ g least. none g (omega arith)) h later

-- an unborn child has no entry
pub unborn_empty : (s : CoreState) (c page : ℕ) → IsSound s → s.birth c ≡ unborn → s.entry c page ≡ None
unborn_empty s c page sound birth = by_entry (s.entry c page) refl
  where
    by_entry : (entry : Option Entry) → s.entry c page ≡ entry → s.entry c page ≡ None
    by_entry None is = is
    by_entry (Some e) is =
        let lost : s.birth c ≡ failed = sound.1.entry_mapped c page e (sound.1.whole_entry c page e is) (sound.1.unborn_unmapped c page birth) in
        absurd (cc)

-- no page of a growing child beyond the last number has an entry
pub numbered_entry : (s : CoreState) (p c page : ℕ) → IsSound s → s.birth c ≡ growing p → page_numbers ≤ page → s.entry c page ≡ None
numbered_entry s p c page sound birth high = by_entry (s.entry c page) refl
  where
    by_right : (e : Entry) (right : Option Rights) → s.entry c page ≡ Some e → s.right c page ≡ right → ⊥
    by_right e None is unmapped =
        let lost : s.birth c ≡ failed = sound.1.entry_mapped c page e (sound.1.whole_entry c page e is) unmapped in
        cc (sym birth ∙ lost)
    by_right e (Some rights) is mapped =
        let below : page < page_numbers = sound.1.right_numbered c page rights mapped in
        omega arith

    by_entry : (entry : Option Entry) → s.entry c page ≡ entry → s.entry c page ≡ None
    by_entry None is = is
    by_entry (Some e) is = absurd (by_right e (s.right c page) is refl)

-- what a whole failure is
pub record FailsFork (s : CoreState) (a p c : ℕ) (es : List CoreEvent) : Type 0 where
  pub kinds : AreTurnEvents a p c of_pages es
  pub can : AllCan s es
  pub told : all_told es ≡ events.ForkFail c ∷ []
  pub given : IsGivenUp (run s es) a c

-- a fork may fail at each step at which it is between two turns
pub fork_fails : (s : CoreState) (a p c : ℕ) (done : List ℕ) (step : ForkStep) → IsSound s → s.birth c ≡ growing p → s.job a ≡ forking p c done step → MayFail step → s.prepared a ≡ None → s.owed a ≡ None → FailsFork s a p c (fails a p c done step (s.entry c))
fork_fails s a p c done step sound birth job may none owed = go (are_gone (s.entry c) 0 page_numbers) refl
  where
    high : (g : ℕ) → page_numbers ≤ g → s.entry c g ≡ None
    high g least = numbered_entry s p c g sound birth least

    others : (g : ℕ) → (g < 0) ⊎ (0 + page_numbers ≤ g) → s.entry c g ≡ None
    others g (inl less) = absurd (omega arith)
    others g (inr least) = high g (omega (arith, least))

    said : AreGone (s.entry c) (are_gone (s.entry c) 0 page_numbers)
    said = are_said (s.entry c) (s.entry c) 0 page_numbers (λ g least below. refl) others

    go : (ends : Bool) → are_gone (s.entry c) 0 page_numbers ≡ ends → FailsFork s a p c (fail_fork a p c done step ends ∷ puts_entries a p c done (s.entry c) 0 page_numbers)
    go true gone =
        let over : AreGone (s.entry c) true = subst (AreGone (s.entry c)) gone said in
        subst (λ (es : List CoreEvent). FailsFork s a p c (fail_fork a p c done step true ∷ es)) (sym (no_puts a p c done (s.entry c) 0 page_numbers gone))
        (record {
          kinds = (failing_at done step true, tt);
          can = ((job, may, none, over), tt);
          told = refl;
          given = record { job = put_same a idle s.job; prepared = none; owed = owed; birth = put_same c failed s.birth; emptied = over };
        })
    go false gone =
        let one : CoreState = happens s (fail_fork a p c done step false) in
        let begun : IsPutTo a p c done (s.entry c) one 0 =
        record {
          job = put_same a (forking p c done failing) s.job;
          prepared = none;
          owed = owed;
          birth = put_same c failed s.birth;
          gone = λ g less. absurd (omega arith);
          left = λ g least. refl;
        } in
        let puts = puts_pages a p c done (s.entry c) 0 page_numbers one (λ g least. high g (omega (arith, least))) begun gone in
        record {
          kinds = (failing_at done step false, puts.kinds);
          can = ((job, may, none, subst (AreGone (s.entry c)) gone said), puts.can);
          told = ap (λ (es : List PlainEvent). events.ForkFail c ∷ es) puts.told;
          given = puts.given;
        }
