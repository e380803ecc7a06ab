use Rattle.std.proofs.Common.{◌≡◌, ℕ, sym, subst, Result, Ok, Err, OnOk, OnErr}
use Rattle.gup_base.specs.declared.entry.Rights.{Rights}
use Rattle.gup_maps.specs.declared.maps.MapRefusal.{MapRefusal}
use Rattle.gup_tables.specs.Pool.{PoolValue}
use Rattle.gup_space.specs.Space.{SpaceValue, space_of, with_pages, OwnsTables}
use Rattle.gup_test_pages.proofs.tables.map_page.Goals as goal

kept : (result : Result (Unit {0}) MapRefusal) (old new : SpaceValue) (page n : ℕ) (rights : Rights)
    → OnOk result (new ≡ with_pages page n rights old) → OnErr result (new ≡ old)
    → (pool : PoolValue) → OwnsTables old pool → OwnsTables new pool
kept (Ok done) old new page n rights mapped err pool owns = subst (λ (s : SpaceValue). OwnsTables s pool) (sym mapped) owns
kept (Err refusal) old new page n rights mapped err pool owns = subst (λ (s : SpaceValue). OwnsTables s pool) (sym err) owns

pub returns : goal.returns
returns g c =
    kept c.map.result (space_of c.args.space.now) (space_of c.map.new.self) c.args.page 1 c.args.rights c.map.ensures.mapped
    c.map.ensures.err
