-- What the events of a turn's growth are, and of what goes after it.
use Rattle.std.proofs.Common.{◌≡◌, ℕ, ◌+◌, ◌<◌, ◌≤◌, ◌^◌, true, List, [], ◌∷◌, length, Option, Some, None, IfSome, refl, sym, ap, ◌∙◌, arith}
use Rattle.std.proofs.lemmas.List.{length-map}
use Rattle.gup_plain.specs.State.{Birth, born}
use Rattle.gup_script.specs.Valid.{IsOp}
use Rattle.gup_script.specs.declared.op.Op.{Op}
use Rattle.gup_script.specs.declared.op.Op.TheVariants.{Unpin, Give, Take, Transfer, Look, Pin}
use Rattle.gup_tables.specs.Pool.{PoolValue}
use Rattle.gup_space.specs.Space.{SpaceParts, OwnsTables}
use Rattle.gup_spec_events.specs.State.{CoreState, Job, walking, Taken}
use Rattle.gup_spec_events.specs.Event.{CoreEvent, taken_frames}
use Rattle.gup_spec_journal.specs.Place.{Doer, birth_for}
use Rattle.gup_spec_turns.specs.JobPlace.{JobPlace, job_place, place_in}
use Rattle.gup_spec_turns.specs.PinPlace.{IsWithin, StandsPin}
use Rattle.gup_spec_turns.specs.TableTurns.{Spot, grown_by, grows_at, if_failed}
use Rattle.gup_spec_turns.specs.Turn.{unless_failed, grows_for}
use Rattle.gup_op_waits.specs.Doers.{HasProcess}
use Rattle.gup_op_waits.specs.Parts.{EachSpace, IsBirth}
use Rattle.gup_op_waits.specs.Stands.{StandsAt}
use Rattle.gup_op_waits.specs.declared.births.Birth.{Birth as KeptBirth}
use Rattle.gup_op_waits.specs.declared.births.Birth.TheVariants.{Unborn, Growing, Born, Failed}
use Rattle.gup_op_tables.specs.declared.pages.Spot.{Spot as KeptSpot}
use Rattle.gup_op_tables.specs.Released.{OwnsAt}
use Rattle.gup_op_tables.specs.Spots.{is_slow, HasPage}

-- what a device does by itself makes no page ready
pub no_growth : (s : CoreState) (a p far : ℕ) (op : Op) → (HasProcess op → ⊥) → grown_by s a p far op ≡ None
no_growth s a p far (Unpin handle) none = refl
no_growth s a p far (Give handle to) none = refl
no_growth s a p far (Take handle) none = refl
no_growth s a p far (Transfer handle outward slot parts) none = refl
no_growth s a p far (Look mirror word) none = refl
no_growth s a p far op none = absurd (none tt)

unless_born : (es : List CoreEvent) → unless_failed es born ≡ es
unless_born [] = refl
unless_born (e ∷ es) = refl

-- where the actor's process is born, the growth is that of this page
pub growth_is : (s : CoreState) (who : Doer) (a p k : ℕ) (op : Op) (at : Option Spot) → birth_for s.birth who ≡ born → who.actor ≡ a → who.proc ≡ p → at ≡ grown_by s a p k op → grows_for s who k op ≡ grows_at s a at
growth_is s who a p k op at is_born actor proc is =
    ap (unless_failed (grows_at s who.actor (grown_by s who.actor who.proc k op))) is_born
    ∙ unless_born (grows_at s who.actor (grown_by s who.actor who.proc k op))
    ∙ ap (λ (b : ℕ). grows_at s b (grown_by s b who.proc k op)) actor
    ∙ ap (λ (q : ℕ). grows_at s a (grown_by s a q k op)) proc
    ∙ sym (ap (grows_at s a) is)

-- a pin before a slow turn has a page left
slow_less : (n got : ℕ) (job : Job) (prepared : Option ℕ) → IsWithin n got job → is_slow (job_place job prepared) ≡ true → got < n
slow_less n got (walking q write long sequence step) prepared within slow = absurd (cc slow)
slow_less n got job prepared within slow = within

pub has_page : (s : CoreState) (a p k got : ℕ) (place : JobPlace) (op : Op) → IsOp op → got ≡ length (s.taken a) → place ≡ place_in s a → StandsAt s a p k op → HasPage op got place
has_page s a p k got place (Pin handle page n want fast) valid many at stands = λ slow.
    let here : StandsPin s a p handle page n want fast (length (s.taken a)) = stands.pin handle page n want fast refl in
    let less : length (s.taken a) < n = slow_less n (length (s.taken a)) (s.job a) (s.prepared a) here.within (ap is_slow (sym at) ∙ slow) in
    let ends : page + n ≤ 2 ^ 35 = valid.2 in
    omega (arith, many, less, ends)
has_page s a p k got place op valid many at stands = tt

-- what a pin has taken, by its frames
pub taken_length : (xs : List Taken) → length (taken_frames xs) ≡ length xs
taken_length xs = length-map xs (λ (t : Taken). t.frame)

-- each process has tables of the pool, and so has that of a page
pub all_owned : (spaces : List SpaceParts) (pool : PoolValue) → EachSpace (λ space. OwnsTables space pool) spaces → (o : Option KeptSpot) → IfSome o (λ at. OwnsAt spaces at.proc pool)
all_owned spaces pool each None = tt
all_owned spaces pool each (Some at) = λ space here. each at.proc space here

-- a child that hasn't failed keeps its tables
pub kept_child : (kept : KeptBirth) (birth : Birth) (es : List CoreEvent) → IsBirth kept birth → (kept ≡ Failed → ⊥) → if_failed birth es ≡ []
kept_child Unborn birth es is other = ap (λ (b : Birth). if_failed b es) is
kept_child Growing birth es is other = ap (λ (b : Birth). if_failed b es) is.1
kept_child Born birth es is other = ap (λ (b : Birth). if_failed b es) is
kept_child Failed birth es is other = absurd (other refl)

-- and one that has failed loses them
pub failed_child : (kept : KeptBirth) (birth : Birth) (es : List CoreEvent) → IsBirth kept birth → kept ≡ Failed → if_failed birth es ≡ es
failed_child Failed birth es is same = ap (λ (b : Birth). if_failed b es) is
failed_child Unborn birth es is same = absurd (cc same)
failed_child Growing birth es is same = absurd (cc same)
failed_child Born birth es is same = absurd (cc same)
