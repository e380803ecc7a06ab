-- How many turns of a pin are over, and that it has more.
use Rattle.std.proofs.Common.{◌≡◌, ℕ, ◌+◌, ◌<◌, ◌≤◌, Bool, true, false, refl, sym, subst, arith}
use Rattle.gup_base.specs.declared.entry.Want.{Want}
use Rattle.gup_spec_events.specs.State.{CoreState, Job, idle, moving, walking, unread, one, more, WalkStep, entered, ready, reading, read, grabbed, rechecked, differed, refused, stopped, dropping, over as walk_over}
use Rattle.gup_spec_turns.specs.Cost.{pin_turns, walk_turns, pins_turns}
use Rattle.gup_spec_turns.specs.PinPlace.{StandsAtPage, IsAtStep, IsWithin, turns_over, steps_over, most_over}

-- one that has no page, and is in the middle of none, has had none
pub none_over : (fast long : Bool) (n got far : ℕ) → fast ≡ false → got ≡ 0 → far ≤ walk_turns fast n + pin_turns long got + 0 → far ≡ 0
none_over true long n got far slow none most = absurd (cc slow)
none_over false true n got far slow none most = omega (arith, none, most)
none_over false false n got far slow none most = omega (arith, none, most)

-- each page takes a turn at least
pub pin_some : (long : Bool) (n : ℕ) → n ≤ pin_turns long n
pin_some true n = omega arith
pin_some false n = omega arith

-- short pins are in the middle of none
abbrev pub FewOver : (long : Bool) → ℕ → Type 0
FewOver true over = over ≤ 2
FewOver false over = over ≡ 0

pub room_page : (walk : ℕ) (long : Bool) (got n far over : ℕ) → FewOver long over → far ≤ walk + pin_turns long got + over → got + 1 < n → far + 1 < walk + pin_turns long n
room_page walk true got n far over few most less = omega (arith, few, most, less)
room_page walk false got n far over few most less = omega (arith, few, most, less)

pub room_behind : (walk : ℕ) (long : Bool) (got far over : ℕ) → FewOver long over → far ≤ walk + pin_turns long got + over → far + 1 ≤ walk + pin_turns long (got + 1) + 0
room_behind walk true got far over few most = omega (arith, few, most)
room_behind walk false got far over few most = omega (arith, few, most)

pub room_move : (walk : ℕ) (long : Bool) (got n far over : ℕ) → long ≡ true → over ≤ 1 → far ≤ walk + pin_turns long got + over → got < n → far + 1 < walk + pin_turns long n
room_move walk true got n far over is few most less = omega (arith, few, most, less)
room_move walk false got n far over is few most less = absurd (cc is)

pub few_idle : (long : Bool) → FewOver long 0
few_idle true = omega arith
few_idle false = refl

pub few_moved : (long : Bool) → long ≡ true → FewOver long 2
few_moved true is = omega arith
few_moved false is = absurd (cc is)

-- a pin is in no walk
abbrev pub IsSlow : Job → Type 0
IsSlow (walking q write long sequence step) = ⊥
IsSlow job = Unit {0}

-- so one that stands at a page has more
pub room_left : (walk : ℕ) (long : Bool) (got n far over : ℕ) → FewOver long over → far ≤ walk + pin_turns long got + over → got < n → far < walk + pin_turns long n
room_left walk true got n far over few most less = omega (arith, few, most, less)
room_left walk false got n far over few most less = omega (arith, few, most, less)

pub few_over : (s : CoreState) (a p page n got : ℕ) (want : Want) (fast : Bool) (job : Job) → IsSlow job → StandsAtPage s a p page n got want fast job → FewOver want.long (turns_over job)
few_over s a p page n got want fast idle slow at = few_idle want.long
few_over s a p page n got want fast (moving q g e allowed unread) slow at = subst (λ (l : Bool). FewOver l 1) (sym at.4.long) (omega arith)
few_over s a p page n got want fast (moving q g e allowed one) slow at = few_moved want.long at.4.long
few_over s a p page n got want fast (moving q g e allowed (more count)) slow at = few_moved want.long at.4.long
few_over s a p page n got want fast (walking q write long sequence step) slow at = absurd slow
few_over s a p page n got want fast job slow at = absurd at

-- also one in its walk
walk_left : (page n got far : ℕ) (step : WalkStep) → IsAtStep page n got step → got ≤ n → far ≤ steps_over n got step → far < walk_turns true n
walk_left page n got far entered at within most = omega (arith, most)
walk_left page n got far ready at within most = omega (arith, most, within)
walk_left page n got far (reading g path) at within most = absurd at
walk_left page n got far (read g path e) at within most = omega (arith, most, within)
walk_left page n got far (grabbed g path e) at within most = omega (arith, most, within, at.1)
walk_left page n got far (rechecked g e) at within most = omega (arith, most, within)
walk_left page n got far (differed f) at within most = omega (arith, most, within, at)
walk_left page n got far refused at within most = omega (arith, most, within)
walk_left page n got far stopped at within most = omega (arith, most, within, at)
walk_left page n got far dropping at within most = omega (arith, most, within, at)
walk_left page n got far walk_over at within most = absurd at

-- so a pin has more wherever it stands
pub pin_left : (s : CoreState) (a p page n got far : ℕ) (want : Want) (fast : Bool) (job : Job) → StandsAtPage s a p page n got want fast job → IsWithin n got job → far ≤ most_over fast want.long n got job → far < pins_turns fast want.long n
pin_left s a p page n got far want fast (walking q write long sequence step) at within most =
    let walks = walk_left page n got far step at.here within most in
    subst (λ (b : Bool). far < pins_turns b want.long n) (sym at.walks) (omega (arith, walks))
pin_left s a p page n got far want fast idle at within most = room_left (walk_turns fast n) want.long got n far 0 (few_idle want.long) most within
pin_left s a p page n got far want fast (moving q g e allowed count) at within most =
    room_left (walk_turns fast n) want.long got n far (turns_over (moving q g e allowed count)) (few_over s a p page n got want fast (moving q g e allowed count) tt at) most within
pin_left s a p page n got far want fast job at within most = absurd at
