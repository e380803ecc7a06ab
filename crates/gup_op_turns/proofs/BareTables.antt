-- Where a process has no page table, none of it goes.
use Rattle.std.proofs.Common.{◌≡◌, ℕ, ◌+◌, ◌==◌, ◌||◌, Bool, true, false, nat_lt, if◌then◌else◌, List, [], ◌∷◌, ◌++◌, Option, Some, None, zero, suc, refl, ap, sym, ◌∙◌}
use Rattle.std.proofs.Math.Path.{fun_ext}
use Rattle.gup_base.specs.declared.entry.Rights.{Rights}
use Rattle.gup_plain.specs.Put.{put}
use Rattle.gup_spec_tables.specs.Tables.{table_at, on_path, is_among, if_empty, detachable}
use Rattle.gup_page_tables.specs.PageTables.{IsBare}
use Rattle.gup_spec_events.specs.State.{CoreState}
use Rattle.gup_spec_events.specs.Event.{CoreEvent, run, reclaim, tree_in}
use Rattle.gup_spec_events.specs.Growth.{takes_one, takes_out, reclaims, retires}
use Rattle.gup_spec_turns.specs.TableTurns.{if_mapped, lowest_spot, retires_at}
use Rattle.gup_law_tables.proofs.FourTables.{bare_lacks}
use Rattle.gup_law_turns.proofs.Puts.{put_own}

-- no table of a page's path can be taken out
none_detachable : (s : CoreState) (p page : ℕ) → ((table : ℕ) → s.place p table ≡ None) → detachable (tree_in s p) page ≡ None
none_detachable s p page bare =
    ap (λ n. if nat_lt n 3 then if_empty (tree_in s p) (table_at (s.place p) (on_path (n + 1) page)) else None) (bare_lacks s p page bare)

or_false : (b : Bool) → (b || false) ≡ b
or_false true = refl
or_false false = refl

-- what waits comes free, of which there is nothing
abbrev reclaimed : CoreState → (free : ℕ → Bool) → (retired : ℕ → List ℕ) → CoreState
reclaimed u free retired = record u { free_table = free; retired = retired }

module _ (u : CoreState) (a p : ℕ) (bare : IsBare (u.place p) (u.retired p)) where
  none_out : (page n : ℕ) → takes_out u a p page n ≡ []
  none_out page zero = refl
  none_out page (suc n) =
      ap (λ (o : Option ℕ). takes_one a p page o ++ takes_out (run u (takes_one a p page o)) a p page n) (none_detachable u p page bare.0) ∙ none_out page n

  same_free : (λ (table : ℕ). u.free_table table || is_among (u.retired p) table) ≡ u.free_table
  same_free = fun_ext (λ table. ap (λ (waits : List ℕ). u.free_table table || is_among waits table) bare.1 ∙ or_false (u.free_table table))

  same_retired : put p [] u.retired ≡ u.retired
  same_retired = ap (λ (waits : List ℕ). put p waits u.retired) (sym bare.1) ∙ put_own p u.retired

  none_free : (b : Bool) → run u (if b then reclaim a p ∷ [] else []) ≡ u
  none_free false = refl
  none_free true = ap (λ (free : ℕ → Bool). reclaimed u free (put p [] u.retired)) same_free ∙ ap (reclaimed u u.free_table) same_retired

  pub retires_none : (page : ℕ) → run u (retires u a p page) ≡ u
  retires_none page = ap (λ (es : List CoreEvent). run u (es ++ reclaims (run u es) a p)) (none_out page 3) ∙ none_free (u.walks p == 0)

  -- so it is behind an unmapping, and behind an exit
  pub unmapping_none : (page : ℕ) (right : Option Rights) → run u (retires_at u a (if_mapped p page right)) ≡ u
  unmapping_none page None = refl
  unmapping_none page (Some rights) = retires_none page

  pub exit_none : (lowest : Option ℕ) → run u (retires_at u a (lowest_spot p lowest)) ≡ u
  exit_none None = refl
  exit_none (Some page) = retires_none page
