-- What the words of transfers of several parts come to.
use Rattle.std.proofs.Common.{◌≡◌, ℕ, ◌≤◌, ◌<◌, ◌^◌, Bool, true, false, All, List, [], ◌∷◌, length, Option, Some, None, unwrap_or, Result, refl, sym, ap, subst, ◌∙◌, leb, inl, inr, arith}
use Rattle.std.proofs.lemmas.Bool.{leb-true, le-leb}
use Rattle.std.proofs.lemmas.List.Elements.{All-cons, All-nil}
use Rattle.std.proofs.lemmas.List.Sums.{sum_by-cons}
use Rattle.gup_base.specs.Parts.{Part, words_of}
use Rattle.gup_read_words.specs.Text.{segment_in}
use Rattle.gup_read_words.proofs.SpelledPlaces.{segment_found, segment_read}
use Rattle.gup_script.specs.declared.op.Op.TheVariants as ops
use Rattle.gup_script.specs.Valid.{AreParts}
use Rattle.gup_spec_grammar.specs.declared.fault.Reason.{Reason}
use Rattle.gup_spec_grammar.specs.declared.fault.Reason.TheVariants as reasons
use Rattle.gup_spec_grammar.specs.Said.{Word, transfers_parts, parts_word}
use Rattle.gup_spec_grammar.specs.Outline.{Outline}
use Rattle.gup_spec_grammar.specs.Grammar.{AreSegments, SpellParts}
use Rattle.gup_read.specs.Reading.{◌>>=◌, need, segments_in, behind_parts, parts_in}
use Rattle.gup_read.proofs.Chains.{Tried, goes, checked, both, needed}
use Rattle.gup_read.proofs.Judged.{built, Told, index_step, pin_step}

-- ---- the parts of a transfer

segments_found : (words : List Word) (moved : List Part) → segments_in words ≡ Some moved → AreSegments words moved
segments_found [] moved e = cc
segments_found (word ∷ words) moved e = way (segment_in word) refl (segments_in words) refl (λ rest. segments_found words rest) where
  way : (o : Option Part) → segment_in word ≡ o → (r : Option (List Part)) → segments_in words ≡ r → ((rest : List Part) → segments_in words ≡ Some rest → AreSegments words rest) → AreSegments (word ∷ words) moved
  way (Some part) o (Some rest) r found =
      let all : Some (part ∷ rest) ≡ Some moved = rw (o, r) at e in
      (part.0, part.1, rest, segment_found word part.0 part.1 o, found rest r, cc)
  way (Some part) o None r found =
      let none = rw (o, r) at e in
      absurd cc
  way None o r s found =
      let none = rw o at e in
      absurd cc

segments_read : (words : List Word) (moved : List Part) → AreSegments words moved → segments_in words ≡ Some moved
segments_read [] moved h = ap (λ (l : List Part). Some l) (sym h)
segments_read (word ∷ words) moved h = rw (segment_read word h.0 h.1 h.3, segments_read words h.2 h.4) (ap (λ (l : List Part). Some l) (sym h.5))

pub segments_one : (words : List Word) (p q : List Part) → AreSegments words p → AreSegments words q → p ≡ q
segments_one words p q h g =
    let same : Some p ≡ Some q = sym (segments_read words p h) ∙ segments_read words q g in
    ap (λ (v : Option (List Part)). unwrap_or v p) same

parts_found : (words : List Word) (moved : List Part) → behind_parts [] 64 (segments_in words) ≡ Some moved → SpellParts words moved
parts_found words moved e = way (segments_in words) refl where
  within : (more : List Part) → segments_in words ≡ Some more → (b : Bool) → leb (words_of more) 64 ≡ b → SpellParts words moved
  within more s true b =
      let all : Some more ≡ Some moved = rw (s, b) at e in
      let same : more ≡ moved = ap (λ (v : Option (List Part)). unwrap_or v more) all in
      subst (SpellParts words) same (segments_found words more s, leb-true (words_of more) 64 b)
  within more s false b =
      let none = rw (s, b) at e in
      absurd cc

  way : (o : Option (List Part)) → segments_in words ≡ o → SpellParts words moved
  way (Some more) s = within more s (leb (words_of more) 64) refl
  way None s =
      let none = rw s at e in
      absurd cc

parts_read : (words : List Word) (moved : List Part) → SpellParts words moved → behind_parts [] 64 (segments_in words) ≡ Some moved
parts_read words moved h = rw (segments_read words moved h.0, le-leb (words_of moved) 64 h.1) refl

parts_step : {B : Type 0} (words : List Word) (f : List Part → Result B Reason) {behind : Result B Reason → Type 0} → ((moved : List Part) → SpellParts words moved → behind (f moved)) → Tried reasons.Number ((moved : List Part) × SpellParts words moved) behind (need reasons.Number (behind_parts [] 64 (segments_in words)) >>= f)
parts_step words f next =
    needed f
    (λ moved e.
    let h = parts_found words moved e in
    ((moved, h), next moved h))
    (λ t none. absurd (cc (parts_read words t.0 t.1)))

-- ---- they are right

abbrev IsPart : Part → Type 0
IsPart part = (part.0 < 2 ^ 32) × (1 ≤ part.1)

segments_right : (words : List Word) (moved : List Part) → AreSegments words moved → All IsPart moved
segments_right [] moved h = subst (λ (l : List Part). All IsPart l) (sym h) (All-nil IsPart)
segments_right (word ∷ words) moved h =
    subst (λ (l : List Part). All IsPart l) (sym h.5) (All-cons IsPart (h.0, h.1) h.2 (h.3.1, h.3.2) (segments_right words h.2 h.4))

pub parts_right : (first : Word) (more : List Word) (moved : List Part) → SpellParts (first ∷ more) moved → AreParts moved
parts_right first more moved h =
    let n = h.0.1 in
    let some = h.0.3.2 in
    let sum = sum_by-cons (λ (part : Part). part.1) (h.0.0, n) h.0.2 in
    (segments_right (first ∷ more) moved h.0, subst (λ (l : List Part). 1 ≤ words_of l) (sym h.0.5) (omega (arith, some, sum)), h.1)

-- ---- what the words say

pub parts_told : (st : Outline) (a : ℕ) (outward : Bool) (fields : List Word) → Told st a (parts_word outward ∷ fields) (parts_in outward st fields)
unfolding parts_in
parts_told st a outward (handle ∷ slot ∷ first ∷ more) =
    inl (
      transfers_parts outward handle slot first more,
      refl,
      checked _ (leb-true (length more) 7, le-leb (length more) 7) (λ l.
          both (index_step slot _ (λ s g. parts_step (first ∷ more) _ (λ moved p.
          pin_step st handle _ (λ h is. goes tt (goes tt (built (ops.Transfer h outward s moved) refl (h, s, moved, is, g, p, refl)))))))),
    )
parts_told st a true _ = inr (refl, refl)
parts_told st a false _ = inr (refl, refl)
