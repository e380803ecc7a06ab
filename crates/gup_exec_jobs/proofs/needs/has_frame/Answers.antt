use Rattle.std.proofs.Common.{◌≡◌, ℕ, Some, sym, ◌∙◌, ap, rules}
use Rattle.std.proofs.lemmas.Bool.Decides.{nat_tests}
use Rattle.gup_base.specs.declared.entry.Entry.{Entry}
use Rattle.gup_spec_events.specs.Event.{entry_of}
use Rattle.gup_exec_jobs.proofs.needs.has_frame.Goals as goal

pub returns-in-Some : goal.returns-in-Some
returns-in-Some c =
    let e : Entry = c.in-Some.entry in
    let is : c.args.found ≡ Some e = c.in-Some.is in (
      λ h. let same : e.frame ≡ c.args.f = search (rules, nat_tests) in (e.writable, is ∙ ap (λ (n : ℕ). Some (entry_of n e.writable)) same),
      λ p. let same : Some e ≡ Some (entry_of c.args.f p.0) = sym is ∙ p.1 in let frame : e.frame ≡ c.args.f = (cc) in search (rules, nat_tests),
    )
