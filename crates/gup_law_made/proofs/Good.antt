-- A text that more lines of rounds may follow, and how one line more keeps it so.
use Rattle.std.proofs.Common.{◌≡◌, ℕ, ◌+◌, ◌*◌, ◌<◌, ◌≤◌, Bool, true, false, List, ◌∷◌, ◌++◌, length, slice_get, Some, codes, Contains, if◌then◌else◌, refl, sym, subst, inr, mod-lt, arith}
use Rattle.std.specs.List.{AllByRecursion, join_with_byte}
use Rattle.std.proofs.lemmas.List.{length-append}
use Rattle.gup_script.specs.declared.op.Kind.{Kind}
use Rattle.gup_script.specs.declared.op.Op.{Op}
use Rattle.gup_spec_grammar.specs.declared.named.Named.TheVariants as named
use Rattle.gup_spec_grammar.specs.Names.{find}
use Rattle.gup_spec_grammar.specs.Outline.{Outline, with_operation, next_state, drawn, forks_child}
use Rattle.gup_spec_grammar.specs.Said.{Word, Action, action_words, op_words, IsShaped}
use Rattle.gup_spec_grammar.specs.Grammar.{open_at, first_word, Does, ActionNumbers, ActionNames, ActionOnce, DeclaredLimits, Means, with_declared}
use Rattle.gup_make.specs.Made.{Made, on, drawing}
use Rattle.gup_law_made.proofs.Texts.{IsPlain, IsText, text_more, line_short}
use Rattle.gup_law_made.proofs.Standing.{head_names, head_kinds, Standing, standing_later, standing_operation, may_do}

-- The text's lines are right, and lead to this outline, which stands behind k rounds. At most n handles, n operations and
-- 400 + 256 n bytes are made.
pub record Good (n k handles : ℕ) (text : List ℕ) (st : Outline) : Type 0 where
  pub is_text : IsText text (open_at st)
  pub standing : Standing n k handles st
  pub short : length text ≤ 400 + 256 * n
  pub few : handles ≤ n

pub good_later : (n m k l handles : ℕ) (text : List ℕ) (st : Outline) → n ≤ m → k ≤ l → Good n k handles text st → Good m l handles text st
good_later n m k l handles text st le past g =
    record {
      is_text = g.is_text;
      standing = standing_later n m k l handles st le past g.standing;
      short = let short = g.short in omega arith;
      few = let few = g.few in omega arith;
    }

-- an actor of the head
pub record IsActor (name : Word) (kind : Kind) : Type 0 where
  pub number : ℕ
  pub named : find head_names name ≡ Some (named.Actor number)
  pub is_kind : slice_get head_kinds number ≡ Some kind
  pub plain : IsPlain name

-- what the grammar asks of an action and of the operation that it means
pub record IsRight (st : Outline) (a : ℕ) (action : Action) (op : Op) : Type 0 where
  pub shaped : IsShaped action
  pub numbers : ActionNumbers action
  pub names : ActionNames st a action
  pub once : ActionOnce st action
  pub limits : DeclaredLimits st action
  pub means : Means st action op

-- An action of an actor that may do it, with plain words: the text stays good, if the outline then stands.
pub acted : (n k l handles next : ℕ) (text : List ℕ) (st : Outline) (name : Word) (kind : Kind) (action : Action) (op : Op) → (actor : IsActor name kind) → Good n k handles text st → n < 1000 → Contains (op_words kind) (first_word (action_words action)) → AllByRecursion IsPlain (action_words action) → length (action_words action) ≤ 5
    → IsRight st actor.number action op → (m : ℕ) → n < m → next ≤ m → Standing m l next (with_operation actor.number op (with_declared actor.number action st))
    → Good m l next (text ++ (join_with_byte 32 (codes "on" ∷ name ∷ action_words action) ++ codes "\n")) (with_operation actor.number op (with_declared actor.number action st))
acted n k l handles next text st name kind action op actor g few has plain brief right m more fewer standing =
    let a = actor.number in
    let words = codes "on" ∷ name ∷ action_words action in
    let plain_words : AllByRecursion IsPlain words = (refl, (actor.plain, plain)) in
    let does : Does st a action (with_operation a op (with_declared a action st)) =
    (right.shaped, right.numbers, right.names, right.once, (right.limits, let few_operations = g.standing.few_operations in omega arith), (op, right.means, refl)) in
    record {
      is_text = text_more text (open_at st) (open_at (with_operation a op (with_declared a action st))) words g.is_text (plain_words, refl)
          (_, inr (name, a, action, refl, g.standing.known name (named.Actor a) actor.named, may_do n k handles st a kind (first_word (action_words action)) g.standing actor.is_kind has, does), refl);
      standing = standing;
      short =
          let short = g.short in
          let line = join_with_byte 32 words in
          let line_is_short : length line ≤ 31 * length words = line_short words plain_words in
          omega (arith, length-append text (line ++ codes "\n"), length-append line (codes "\n"));
      few = fewer;
    }

-- ---- what keeps texts good

abbrev pub IsGood : (n k handles : ℕ) (text : List ℕ) → Type 0
IsGood n k handles text = (st : Outline) × Good n k handles text st

pub is_good_later : (n m k l handles : ℕ) (text : List ℕ) → n ≤ m → k ≤ l → IsGood n k handles text → IsGood m l handles text
is_good_later n m k l handles text le past g = (g.0, good_later n m k l handles text g.0 le past g.1)

-- what adds so much at most, and no round
abbrev pub Keeps : (d k : ℕ) → (Made → Made) → Type 0
Keeps d k f = (n : ℕ) (made : Made) → n + d ≤ 900 → IsGood n k made.handles made.text → IsGood (n + d) k (f made).handles (f made).text

pub keeps_more : (d e k : ℕ) (f : Made → Made) → d ≤ e → Keeps d k f → Keeps e k f
keeps_more d e k f le keeps n made few g = is_good_later (n + d) (n + e) k k (f made).handles (f made).text (omega arith) (omega arith) (keeps n made (omega arith) g)

pub keeps_both : (d e k : ℕ) (f g : Made → Made) → Keeps d k f → Keeps e k g → Keeps (d + e) k (λ made. g (f made))
keeps_both d e k f g keeps also n made few good =
    let last : Made = g (f made) in
    is_good_later (n + d + e) (n + (d + e)) k k last.handles last.text (omega arith) (omega arith) (also (n + d) (f made) (omega arith) (keeps n made (omega arith) good))

pub keeps_either : (d k : ℕ) (b : Bool) (f g : Made → Made) → Keeps d k f → Keeps d k g → Keeps d k (if b then f else g)
keeps_either d k true f g keeps also = keeps
keeps_either d k false f g keeps also = also

-- a number is drawn below a bound that isn't 0
pub keeps_drawing : (d k below : ℕ) (next : ℕ → Made → Made) → 0 < below → ((x : ℕ) → x < below → Keeps d k (next x)) → Keeps d k (drawing below next)
keeps_drawing d k below next some keeps n made few g =
    keeps (drawn below (next_state made.state)) (mod-lt _ some) n (record made { state = next_state made.state }) few g

-- An action that declares nothing and brings no child.
pub keeps_on : (k : ℕ) (name : Word) (kind : Kind) (action : Action) (op : Op) → (actor : IsActor name kind) → Contains (op_words kind) (first_word (action_words action)) → AllByRecursion IsPlain (action_words action) → length (action_words action) ≤ 5
    → ((st : Outline) → with_declared actor.number action st ≡ st) → ((p : ℕ) → forks_child p op ≡ false) → ((n handles : ℕ) (st : Outline) → Standing n k handles st → IsRight st actor.number action op)
    → Keeps 1 k (on name action)
keeps_on k name kind action op actor has plain brief same none right n made few g =
    let st = g.0 in
    let a = actor.number in
    let standing : Standing (n + 1) k made.handles (with_operation a op (with_declared a action st)) =
    subst (λ (s : Outline). Standing (n + 1) k made.handles (with_operation a op s)) (sym (same st)) (standing_operation n k k made.handles st a op (omega arith) (λ p lt. none p) g.1.standing) in
    let handles = g.1.few in
    (with_operation a op (with_declared a action st), acted n k k made.handles made.handles made.text st name kind action op actor g.1 (omega arith) has plain brief (right n made.handles st g.1.standing) (n + 1) (omega arith) (omega arith) standing)
