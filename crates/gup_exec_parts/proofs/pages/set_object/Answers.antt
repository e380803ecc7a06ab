use Rattle.std.proofs.Common.{◌≡◌, Some, sym}
use Rattle.std.specs.BTreeMap.{get}
use Rattle.std.specs.Ordering.{nat_cmp}
use Rattle.gup_exec_parts.specs.declared.pages.Page.{Page}
use Rattle.gup_exec_parts.proofs.TableLemmas.{updated}
use Rattle.gup_exec_parts.proofs.pages.set_object.Goals as goal

pub returns-in-Some-clause-pages : goal.returns-in-Some-clause-pages
returns-in-Some-clause-pages c =
    let entry : Page = record { rights = c.in-Some.entry.now.rights; object = c.args.object } in
    let found : get nat_cmp c.args.pages.now c.args.page ≡ Some c.in-Some.entry.now = sym c.in-Some.ensures.value in
    rw found
    (updated (get nat_cmp c.args.pages.now) (get nat_cmp (c.get_mut.follows.lender entry)) c.args.page (Some entry)
    ((c.get_mut.follows.holds entry).3 c.requires).0)
