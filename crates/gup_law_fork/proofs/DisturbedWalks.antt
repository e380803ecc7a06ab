-- The sequence of a process is raised: its walks are disturbed from then on, and those of others stay as they were.
use Rattle.std.proofs.Common.{◌≡◌, ℕ, ◌+◌, true, refl, arith}
use Rattle.std.specs.Prelude.{Some}
use Rattle.std.proofs.lemmas.Bool.Decides.{nat_tests}
use Rattle.gup_base.specs.declared.entry.Entry.{Entry}
use Rattle.gup_plain.specs.Put.{put}
use Rattle.gup_spec_events.specs.State.{CoreState, WalkStep, entered, ready, reading, read, grabbed, rechecked, differed, refused, stopped, dropping, over}
use Rattle.gup_spec_events.specs.Invariant.{is_inside}
use Rattle.gup_law_base.specs.Sound.{View, rechecked_entry, IsSoundBy}
use Rattle.gup_law_base.proofs.Clauses.{WalkBelow, WalkOwn, WalkUnowned, WalkKept, WalkWritable}

-- a walk that has yet to read a mark is between its two readings of the sequence
pub rechecked_inside : (step : WalkStep) (e : Entry) → rechecked_entry step ≡ Some e → is_inside step ≡ true
rechecked_inside (rechecked page d) e is = refl
rechecked_inside entered e is = absurd (cc)
rechecked_inside ready e is = absurd (cc)
rechecked_inside (reading page path) e is = absurd (cc)
rechecked_inside (read page path d) e is = absurd (cc)
rechecked_inside (grabbed page path d) e is = absurd (cc)
rechecked_inside (differed f) e is = absurd (cc)
rechecked_inside refused e is = absurd (cc)
rechecked_inside stopped e is = absurd (cc)
rechecked_inside dropping e is = absurd (cc)
rechecked_inside over e is = absurd (cc)

abbrev raised : CoreState → ℕ → CoreState
raised s p = record s { sequence = put p (s.sequence p + 1) s.sequence }

pub raised_below : (v : View) (s : CoreState) (p : ℕ) → IsSoundBy v s → WalkBelow v (raised s p)
raised_below v s p h b w = grind (arith, nat_tests, h.walk_below b w)

pub raised_own : (v : View) (s : CoreState) (p : ℕ) → IsSoundBy v s → WalkOwn v (raised s p)
raised_own v s p h b n o w t = grind (arith, nat_tests, h.walk_own b n o w t, h.walk_below b w)

pub raised_unowned : (v : View) (s : CoreState) (p : ℕ) → IsSoundBy v s → WalkUnowned v (raised s p)
raised_unowned v s p h b n w t = grind (arith, nat_tests, h.walk_unowned b n w t, h.walk_below b w)

pub raised_kept : (v : View) (s : CoreState) (p : ℕ) → IsSoundBy v s → WalkKept v (raised s p)
raised_kept v s p h b n w t = grind (arith, nat_tests, h.walk_kept b n w t, h.walk_below b w)

pub raised_writable : (v : View) (s : CoreState) (p : ℕ) → IsSoundBy v s → WalkWritable v (raised s p)
raised_writable v s p h b n w t e =
    grind (arith, nat_tests, h.walk_writable b n w t e, h.walk_below b w, rechecked_inside w.step e)
