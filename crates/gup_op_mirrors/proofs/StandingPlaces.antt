-- The page of a turn, by where its actor stands, is that of the state.
use Rattle.std.proofs.Common.{◌≡◌, ℕ, ◌+◌, ◌<◌, ◌≤◌, ◌^◌, ◌==◌, ◌&&◌, not, Bool, length, Option, Some, None, IsSome, is_some, refl, sym, ap, ◌∙◌, subst, arith}
use Rattle.gup_base.specs.declared.entry.Entry.{Entry}
use Rattle.gup_base.specs.declared.entry.Rights.{Rights}
use Rattle.gup_base.specs.declared.entry.Want.{Want}
use Rattle.gup_frames.specs.Frames.{FramesValue}
use Rattle.gup_plain.specs.Denial.{any_unmapped}
use Rattle.gup_script.specs.Valid.{IsOp}
use Rattle.gup_script.specs.declared.op.Op.{Op}
use Rattle.gup_script.specs.declared.op.Op.TheVariants.{Protect, Pin, Fork}
use Rattle.gup_space.specs.Shows.{ShowsFrames, ShowsSpace}
use Rattle.gup_space.specs.Space.{SpaceValue, SpaceParts, space_of}
use Rattle.gup_spec_events.specs.State.{CoreState, Job, idle, forking, counted, copying, moving, walking}
use Rattle.gup_spec_turns.specs.JobPlace.{JobPlace, unbegun, job_place, place_in}
use Rattle.gup_spec_turns.specs.PinPlace.{IsWithin, StandsPin, StandsAtPage}
use Rattle.gup_op_base.specs.Far.{far_in}
use Rattle.gup_op_base.specs.Tidy.{IsTidy}
use Rattle.gup_op_base.proofs.Searching.{any_same, tables_agree}
use Rattle.gup_op_waits.specs.Locks.{child_in}
use Rattle.gup_op_waits.specs.Stands.{StandsAt}
use Rattle.gup_law_mirrors.specs.Invalidated.{page_if, changes_page, pinned_in, shared_in, page_in}
use Rattle.gup_op_mirrors.specs.Places.{at_beginning, shared_at, ShowsChild}

-- each page with an entry is mapped
pub maps_each : (F : FramesValue) (S : SpaceValue) (s : CoreState) (p : ℕ) → IsTidy F S → ShowsSpace p S s → (page : ℕ) (e : Entry) → s.entry p page ≡ Some e → IsSome (s.right p page)
maps_each F S s p tidy space page e is = ap is_some (space.right page) ∙ tidy.mapped page e (sym (space.entry page) ∙ is)

-- a protect finds the pages that aren't mapped
pub protect_page : (S : SpaceValue) (s : CoreState) (a p far page n : ℕ) (rights : Rights) (op : Op) → op ≡ Protect page n rights → ShowsSpace p S s → page_if (not (any_unmapped S.right page n)) page ≡ page_in s a p far op
protect_page S s a p far page n rights op same space =
    ap (λ (b : Bool). page_if (not b) page) (any_same n (λ k. not (is_some (S.right (page + k)))) (λ k. not (is_some (s.right p (page + k)))) (λ k. ap (λ (o : Option Rights). not (is_some o)) (sym (space.right (page + k)))))
    ∙ ap (page_in s a p far) (sym same)

-- a pin in the middle of nothing has a next page
less_by : (n got : ℕ) (job : Job) (prepared : Option ℕ) → IsWithin n got job → job_place job prepared ≡ unbegun → got < n
less_by n got (walking q write long sequence step) prepared within is = absurd (cc)
less_by n got job prepared within is = within

pub pin_less : (s : CoreState) (a p far got handle page n : ℕ) (want : Want) (fast : Bool) (place : JobPlace) (op : Op) → op ≡ Pin handle page n want fast → IsOp op → got ≡ length (s.taken a) → place ≡ place_in s a → StandsAt s a p far op → place ≡ unbegun → page + got < 2 ^ 35
pin_less s a p far got handle page n want fast place op same valid many is at begins =
    let range : IsOp (Pin handle page n want fast) = subst IsOp same valid in
    let ends : page + n ≤ 2 ^ 35 = range.2 in
    let here : StandsPin s a p handle page n want fast (length (s.taken a)) = at.pin handle page n want fast same in
    let less : length (s.taken a) < n = less_by n (length (s.taken a)) (s.job a) (s.prepared a) here.within (sym is ∙ begins) in
    omega arith

pin_page_by : (s : CoreState) (a p page got n : ℕ) (want : Want) (fast begins : Bool) (job : Job) (prepared : Option ℕ) → StandsAtPage s a p (page + got) n got want fast job → at_beginning (job_place job prepared) (page_if (not begins && changes_page s p (page + got) want) (page + got)) ≡ pinned_in s p (page + got) want begins job
pin_page_by s a p page got n want fast begins idle prepared h = refl
pin_page_by s a p page got n want fast begins (moving q g e allowed count) prepared h = refl
pin_page_by s a p page got n want fast begins (walking q write long sequence step) prepared h = refl
pin_page_by s a p page got n want fast begins job prepared h = absurd h

pub pin_page : (s : CoreState) (a p far gone got handle page n : ℕ) (want : Want) (fast : Bool) (place : JobPlace) (op : Op) → op ≡ Pin handle page n want fast → gone ≡ far_in (Some op) far → got ≡ length (s.taken a) → place ≡ place_in s a → StandsAt s a p far op
    → at_beginning place (page_if (not (fast && gone == 0) && changes_page s p (page + got) want) (page + got)) ≡ page_in s a p far op
pin_page s a p far gone got handle page n want fast place op same fits many is at =
    let here : StandsPin s a p handle page n want fast (length (s.taken a)) = at.pin handle page n want fast same in
    let over : gone ≡ far = fits ∙ ap (λ (x : Op). far_in (Some x) far) same in
    let taken = length (s.taken a) in
    let next = λ (begins : Bool) (k : ℕ). page_if (not begins && changes_page s p (page + k) want) (page + k) in
    ap (λ (stands : JobPlace). at_beginning stands (next (fast && gone == 0) got)) is
    ∙ ap (λ (k : ℕ). at_beginning (place_in s a) (next (fast && k == 0) got)) over
    ∙ ap (λ (k : ℕ). at_beginning (place_in s a) (next (fast && far == 0) k)) many
    ∙ pin_page_by s a p page taken n want fast (fast && far == 0) (s.job a) (s.prepared a) here.at
    ∙ ap (page_in s a p far) (sym same)

-- a fork shares the page that it has counted, unless its child lacks a table for it

shared_by : (F : FramesValue) (space : SpaceParts) (s : CoreState) (child : ℕ) (job : Job) (prepared : Option ℕ) → ShowsFrames F s → ShowsSpace child (space_of space) s → shared_at (Some space) (job_place job prepared) ≡ shared_in s child job
shared_by F space s child (forking q c done (counted page)) prepared frames shown = ap (λ (may : Bool). page_if may page) (sym (tables_agree F (space_of space) child page s frames shown))
shared_by F space s child (forking q c done (copying page word)) None frames shown = refl
shared_by F space s child (forking q c done (copying page word)) (Some to) frames shown = refl
shared_by F space s child (forking q c done step) prepared frames shown = refl
shared_by F space s child job prepared frames shown = refl

pub shared_page : (F : FramesValue) (space : Option SpaceParts) (s : CoreState) (a p far child : ℕ) (place : JobPlace) (op : Op) → op ≡ Fork child → ShowsFrames F s → ShowsChild (child_in op) space s → place ≡ place_in s a → shared_at space place ≡ page_in s a p far op
shared_page F space s a p far child place op same frames kid is = go space (subst (λ (x : Op). ShowsChild (child_in x) space s) same kid)
  where
    go : (o : Option SpaceParts) → ShowsChild (Some child) o s → shared_at o place ≡ page_in s a p far op
    go None none = absurd none
    go (Some parts) shown =
        ap (shared_at (Some parts)) is ∙ shared_by F parts s child (s.job a) (s.prepared a) frames shown ∙ ap (page_in s a p far) (sym same)
