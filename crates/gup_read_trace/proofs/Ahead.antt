-- A text of which so many lines are read, none of them `journal`.
use Rattle.std.proofs.Common.{◌≡◌, ◌≢◌, ℕ, ◌+◌, ◌≤◌, List, [], ◌∷◌, ◌++◌, length, take, codes, append_assoc, refl, sym, ap, ap₂, ◌∙◌, arith}
use Rattle.std.specs.List.{AllByRecursion}
use Rattle.std.proofs.lemmas.List.{length_push, length-append, take_at}
use Rattle.std.proofs.lemmas.List.Elements.{All-from_recursion, recursion_from_All}
use Rattle.gup_spec_grammar.specs.Spelling.{Lacks, parts}
use Rattle.gup_spec_trace.specs.Trace.{IsParted, HasNoJournal, journal_line}
use Rattle.gup_read_trace.specs.Lines.{IsFirstLine}
use Rattle.gup_read_trace.proofs.Cuts.{same_cut, no_cut, ended, ended_step, ended_more, lines_parted, lines_found}

abbrev pub IsNoJournal : List ℕ → Type 0
IsNoJournal line = line ≡ codes "journal" → ⊥

-- a line in front of the line `journal`
abbrev pub IsFront : List ℕ → Type 0
IsFront line = Lacks 10 line × IsNoJournal line

abbrev pub AreFront : List (List ℕ) → Type 0
AreFront lines = AllByRecursion IsFront lines

front_whole : (lines : List (List ℕ)) → AreFront lines → AllByRecursion (Lacks 10) lines
front_whole [] h = tt
front_whole (line ∷ lines) h = (h.0.0, front_whole lines h.1)

front_others : (lines : List (List ℕ)) → AreFront lines → AllByRecursion IsNoJournal lines
front_others [] h = tt
front_others (line ∷ lines) h = (h.0.1, front_others lines h.1)

front_from : (lines : List (List ℕ)) → AllByRecursion (Lacks 10) lines → AllByRecursion IsNoJournal lines → AreFront lines
front_from [] h g = tt
front_from (line ∷ lines) h g = ((h.0, g.0), front_from lines h.1 g.1)

front_more : (lines : List (List ℕ)) (line : List ℕ) → AreFront lines → IsFront line → AreFront (lines ++ line ∷ [])
front_more [] line h is = (is, tt)
front_more (first ∷ lines) line h is = (h.0, front_more lines line h.1 is)

-- the parts, by their lines
pub record IsTwo (text front behind : List ℕ) (lines : List (List ℕ)) : Type 0 where
  pub text_is : text ≡ ended lines ++ (codes "journal" ++ 10 ∷ behind)
  pub front_is : front ≡ ended lines
  pub before : AreFront lines

pub parted_two : (text front behind : List ℕ) (lines : List (List ℕ)) → IsParted text front behind lines → IsTwo text front behind lines
parted_two text front behind lines h =
    let found = lines_found front lines h.1 in
    let all : text ≡ front ++ (codes "journal" ++ 10 ∷ behind) = h.0 ∙ append_assoc front journal_line behind in
    record {
      text_is = all ∙ ap (λ (xs : List ℕ). xs ++ (codes "journal" ++ 10 ∷ behind)) found.0;
      front_is = found.0;
      before = front_from lines found.1 (recursion_from_All IsNoJournal lines h.2);
    }

-- ---- the parts are one pair

journal_lacks : Lacks 10 (codes "journal")
journal_lacks = All-from_recursion (λ b. b ≢ 10) (codes "journal") (omega arith, (omega arith, (omega arith, (omega arith, (omega arith, (omega arith, (omega arith, tt)))))))

-- where both texts end with a line `journal` and what stands behind it
pub same_front : (lines more : List (List ℕ)) (x y : List ℕ) → AreFront lines → AreFront more → ended lines ++ (codes "journal" ++ 10 ∷ x) ≡ ended more ++ (codes "journal" ++ 10 ∷ y) → (lines ≡ more) × (x ≡ y)
same_front [] [] x y h g e = (refl, (same_cut (codes "journal") (codes "journal") x y journal_lacks journal_lacks e).1)
same_front [] (line ∷ more) x y h g e =
    let step = e ∙ ended_step line more (codes "journal" ++ 10 ∷ y) in
    absurd (g.0.1 (sym (same_cut (codes "journal") line x (ended more ++ (codes "journal" ++ 10 ∷ y)) journal_lacks g.0.0 step).0))
same_front (line ∷ lines) [] x y h g e =
    let step = sym (ended_step line lines (codes "journal" ++ 10 ∷ x)) ∙ e in
    absurd (h.0.1 (same_cut line (codes "journal") (ended lines ++ (codes "journal" ++ 10 ∷ x)) y h.0.0 journal_lacks step).0)
same_front (line ∷ lines) (other ∷ more) x y h g e =
    let step = sym (ended_step line lines (codes "journal" ++ 10 ∷ x)) ∙ e ∙ ended_step other more (codes "journal" ++ 10 ∷ y) in
    let cut = same_cut line other (ended lines ++ (codes "journal" ++ 10 ∷ x)) (ended more ++ (codes "journal" ++ 10 ∷ y)) h.0.0 g.0.0 step in
    let rest = same_front lines more x y h.1 g.1 cut.1 in
    (ap₂ (λ (l : List ℕ) (ls : List (List ℕ)). l ∷ ls) cut.0 rest.0, rest.1)

-- where nothing behind the lines has an end
no_front : (lines more : List (List ℕ)) (rest y : List ℕ) → AreFront lines → Lacks 10 rest → AreFront more → ended lines ++ rest ≡ ended more ++ (codes "journal" ++ 10 ∷ y) → ⊥
no_front [] [] rest y h lacks g e = no_cut rest (codes "journal") y lacks e
no_front [] (line ∷ more) rest y h lacks g e =
    no_cut rest line (ended more ++ (codes "journal" ++ 10 ∷ y)) lacks (e ∙ ended_step line more (codes "journal" ++ 10 ∷ y))
no_front (line ∷ lines) [] rest y h lacks g e =
    let step = sym (ended_step line lines rest) ∙ e in
    h.0.1 (same_cut line (codes "journal") (ended lines ++ rest) y h.0.0 journal_lacks step).0
no_front (line ∷ lines) (other ∷ more) rest y h lacks g e =
    let step = sym (ended_step line lines rest) ∙ e ∙ ended_step other more (codes "journal" ++ 10 ∷ y) in
    let cut = same_cut line other (ended lines ++ rest) (ended more ++ (codes "journal" ++ 10 ∷ y)) h.0.0 g.0.0 step in
    no_front lines more rest y h.1 lacks g.1 cut.1

-- ---- what is read so far

pub record IsAhead (text : List ℕ) (front lines : ℕ) (rest : List ℕ) : Type 0 where
  pub before : List (List ℕ)
  pub text_is : text ≡ ended before ++ rest
  pub are : AreFront before
  pub count : length before ≡ lines
  pub size : length (ended before) ≡ front

pub nothing_read : (text : List ℕ) → IsAhead text 0 0 text
nothing_read text = record { before = []; text_is = refl; are = tt; count = refl; size = refl }

pub size_left : (text : List ℕ) (front lines : ℕ) (rest : List ℕ) → IsAhead text front lines rest → length text ≡ front + length rest
size_left text front lines rest h =
    let size = h.size in
    omega (arith, ap length h.text_is, length-append (ended h.before) rest)

pub lines_few : (lines : List (List ℕ)) → length lines ≤ length (ended lines)
lines_few [] = omega arith
lines_few (line ∷ lines) = let rest = lines_few lines in omega (arith, length-append line (10 ∷ ended lines))

pub lines_below : (text : List ℕ) (front lines : ℕ) (rest : List ℕ) → IsAhead text front lines rest → lines ≤ front
lines_below text front lines rest h = let few = lines_few h.before in let size = h.size in let count = h.count in omega arith

pub cut_shorter : (rest line behind : List ℕ) → IsFirstLine rest line behind → length rest ≡ length line + 1 + length behind
cut_shorter rest line behind is = omega (arith, ap length is.0, length-append line (10 ∷ behind))

pub one_more : (text : List ℕ) (front lines : ℕ) (rest line behind : List ℕ) → IsAhead text front lines rest → IsFirstLine rest line behind → IsNoJournal line → IsAhead text (front + (length line + 1)) (lines + 1) behind
one_more text front lines rest line behind h is other = record {
  before = h.before ++ line ∷ [];
  text_is = h.text_is ∙ ap (λ (xs : List ℕ). ended h.before ++ xs) is.0 ∙ sym (ended_more h.before line behind);
  are = front_more h.before line h.are (is.1, other);
  count = let count = h.count in length_push h.before line ∙ omega arith;
  size =
      let size = h.size in
      let more = ended_more h.before line [] in
      omega (arith, ap length more, length-append (ended (h.before ++ line ∷ [])) [], length-append (ended h.before) (line ++ 10 ∷ []), length-append line (10 ∷ []));
}

pub no_journal : (text : List ℕ) (front lines : ℕ) (rest : List ℕ) → IsAhead text front lines rest → Lacks 10 rest → HasNoJournal text
no_journal text front lines rest h lacks = λ first behind more parted.
    let two = parted_two text first behind more parted in
    no_front h.before more rest behind h.are lacks two.before (sym h.text_is ∙ two.text_is)

pub journal_here : (text : List ℕ) (front lines : ℕ) (rest line behind : List ℕ) → IsAhead text front lines rest → IsFirstLine rest line behind → line ≡ codes "journal" → (ls : List (List ℕ)) × IsParted text (take front text) behind ls × (length ls ≡ lines)
journal_here text front lines rest line behind h is journal =
    let all : text ≡ ended h.before ++ rest = h.text_is in
    let ahead : take front text ≡ ended h.before = ap (take front) all ∙ take_at (ended h.before) rest front h.size in
    let here : rest ≡ codes "journal" ++ 10 ∷ behind = is.0 ∙ ap (λ (xs : List ℕ). xs ++ 10 ∷ behind) journal in (
      h.before,
      (
        all ∙ ap₂ (λ (xs ys : List ℕ). xs ++ ys) (sym ahead) here ∙ sym (append_assoc (take front text) journal_line behind),
        ap (parts 10) ahead ∙ lines_parted h.before (front_whole h.before h.are),
        All-from_recursion IsNoJournal h.before (front_others h.before h.are),
      ),
      h.count,
    )
