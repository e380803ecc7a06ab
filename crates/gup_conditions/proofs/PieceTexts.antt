-- Texts that are cut at spaces, and pieces that spell a line.
use Rattle.std.proofs.Common.{◌≡◌, ◌≢◌, ℕ, suc, ◌<◌, List, [], ◌∷◌, ◌++◌, length, get_or, codes, Option, Some, None, MatchOption, refl, sym, ap, subst, ◌∙◌, append_assoc, arith}
use Rattle.std.specs.Prelude.{decimal}
use Rattle.std.specs.Borrow.{Bor}
use Rattle.std.proofs.lemmas.List.{get_or_at}
use Rattle.std.proofs.lemmas.List.Elements.{All-from_get_or, All-get_or}
use Rattle.gup_script.specs.Script.{ScriptValue, actor_at}
use Rattle.gup_script.specs.declared.op.Op.{Op}
use Rattle.gup_lines.specs.Text.{name_in}
use Rattle.gup_spec_grammar.specs.Spelling.{Lacks}
use Rattle.gup_conditions.specs.Line.{line_text}
use Rattle.gup_conditions.specs.Reading.{IsSplit, IsFound}

-- where a text may be cut
pub one_cut : (c : ℕ) (a b x y : List ℕ) → Lacks c a → Lacks c x → a ++ (c ∷ b) ≡ x ++ (c ∷ y) → (a ≡ x) × (b ≡ y)
one_cut c [] b [] y la lx e = (refl, cc)
one_cut c [] b (d ∷ x) y la lx e = absurd (All-get_or (λ (n : ℕ). n ≢ c) (d ∷ x) 0 0 (omega arith) lx (cc))
one_cut c (d ∷ a) b [] y la lx e = absurd (All-get_or (λ (n : ℕ). n ≢ c) (d ∷ a) 0 0 (omega arith) la (cc))
one_cut c (d ∷ a) b (f ∷ x) y la lx e =
    let rest = one_cut c a b x y (λ k z h. la (suc k) z (omega arith)) (λ k z h. lx (suc k) z (omega arith)) (cc) in
    let same : d ≡ f = cc in
    (rw (same, rest.0) refl, rest.1)

pub no_cut : (c : ℕ) (text x y : List ℕ) → Lacks c text → text ≡ x ++ (c ∷ y) → ⊥
no_cut c [] [] y lacks e = cc
no_cut c [] (d ∷ x) y lacks e = cc
no_cut c (d ∷ text) [] y lacks e = All-get_or (λ (n : ℕ). n ≢ c) (d ∷ text) 0 0 (omega arith) lacks (cc)
no_cut c (d ∷ text) (f ∷ x) y lacks e = no_cut c text x y (λ k z h. lacks (suc k) z (omega arith)) (cc)

-- what is found, in the words of the definitions
pub lacking : (text : List ℕ) (r : Option (Bor (List ℕ) × Bor (List ℕ))) → MatchOption r ((i : ℕ) → i < length text → get_or text i 0 ≢ 32) (λ x. (text ≡ x.0.now ++ (32 ∷ x.1.now)) × ((i : ℕ) → i < length x.0.now → get_or x.0.now i 0 ≢ 32)) → MatchOption r (Lacks 32 text) (λ x. (text ≡ x.0.now ++ (32 ∷ x.1.now)) × Lacks 32 x.0.now)
lacking text None h = All-from_get_or (λ (b : ℕ). b ≢ 32) text 0 h
lacking text (Some x) h = (h.0, All-from_get_or (λ (b : ℕ). b ≢ 32) x.0.now 0 h.1)

-- ---- a piece

-- it has no such shape
pub no_space : (piece : List ℕ) → ((rest : List ℕ) → piece ≢ 32 ∷ rest) → (name number text : List ℕ) → IsSplit piece name number text → ⊥
no_space piece none name number text h = none (name ++ (32 ∷ (number ++ (32 ∷ text)))) h.pieces

pub no_name : (piece behind : List ℕ) → piece ≡ 32 ∷ behind → Lacks 32 behind → (name number text : List ℕ) → IsSplit piece name number text → ⊥
no_name piece behind is lacks name number text h =
    let e : 32 ∷ behind ≡ 32 ∷ (name ++ (32 ∷ (number ++ (32 ∷ text)))) = sym is ∙ h.pieces in
    no_cut 32 behind name (number ++ (32 ∷ text)) lacks (cc)

pub no_number : (piece behind first rest : List ℕ) → piece ≡ 32 ∷ behind → behind ≡ first ++ (32 ∷ rest) → Lacks 32 first → Lacks 32 rest → (name number text : List ℕ) → IsSplit piece name number text → ⊥
no_number piece behind first rest is cut first_lacks lacks name number text h =
    let e : 32 ∷ behind ≡ 32 ∷ (name ++ (32 ∷ (number ++ (32 ∷ text)))) = sym is ∙ h.pieces in
    let same : behind ≡ name ++ (32 ∷ (number ++ (32 ∷ text))) = cc in
    let parts = one_cut 32 first rest name (number ++ (32 ∷ text)) first_lacks h.name_lacks (sym cut ∙ same) in
    no_cut 32 rest number text lacks parts.1

pub is_split : (piece behind name rest number text : List ℕ) → piece ≡ 32 ∷ behind → behind ≡ name ++ (32 ∷ rest) → rest ≡ number ++ (32 ∷ text) → Lacks 32 name → Lacks 32 number → IsSplit piece name number text
is_split piece behind name rest number text is first second name_lacks number_lacks =
    record {
      pieces = is ∙ ap (λ (more : List ℕ). 32 ∷ more) (first ∙ ap (λ (more : List ℕ). name ++ (32 ∷ more)) second);
      name_lacks = name_lacks;
      number_lacks = number_lacks;
    }

-- the line that it spells
pub spelled : (script : ScriptValue) (piece name number text : List ℕ) (actor k : ℕ) (op : Op) → IsSplit piece name number text → IsFound script name number actor k op → piece ≡ 32 ∷ line_text script (record { actor = actor; op = k; text = text })
spelled script piece name number text actor k op split found =
    let whole : piece ≡ 32 ∷ (name ++ (32 ∷ (number ++ (32 ∷ text)))) = split.pieces in
    rw (whole, found.name_is, found.number_is) (simp append_assoc)
