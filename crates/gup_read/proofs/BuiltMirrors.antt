-- What the words of the operations of mirrors come to: mirror, look.
use Rattle.std.proofs.Common.{ℕ, List, [], ◌∷◌, refl, inl, inr}
use Rattle.std.specs.Prelude.{codes}
use Rattle.gup_script.specs.declared.op.Op.TheVariants as ops
use Rattle.gup_spec_grammar.specs.Names.{find}
use Rattle.gup_spec_grammar.specs.Said.{Word, mirrors, looks}
use Rattle.gup_spec_grammar.specs.Outline.{Outline}
use Rattle.gup_read.specs.Reading.{mirror_in, look_in}
use Rattle.gup_read.proofs.Chains.{goes, checked, both}
use Rattle.gup_read.proofs.Judged.{built, Told, page_step, word_no_step, process_step, slot_Decides, slot_step, own_step}

pub mirror_told : (st : Outline) (a : ℕ) (fields : List Word) → Told st a (codes "mirror" ∷ fields) (mirror_in st a fields)
unfolding mirror_in
mirror_told st a (mirror ∷ process ∷ page ∷ []) =
    inl (
      mirrors mirror process page,
      refl,
      goes tt (page_step page _ (λ g h.
          both (checked _ (slot_Decides a mirror (find st.names mirror)) (λ own. process_step st process _ (λ p is.
          goes tt (slot_step st a mirror _ own (λ m at. built (ops.Mirror m p g) refl (m, p, g, at, is, h, refl)))))))),
    )
mirror_told st a _ = inr (refl, refl)

pub look_told : (st : Outline) (a : ℕ) (fields : List Word) → Told st a (codes "look" ∷ fields) (look_in st a fields)
unfolding look_in
look_told st a (mirror ∷ word ∷ []) =
    inl (
      looks mirror word,
      refl,
      goes tt (word_no_step word _ (λ w h. own_step st a mirror _ (λ m is. goes tt (goes tt (built (ops.Look m w) refl (m, w, is, h, refl)))))),
    )
look_told st a _ = inr (refl, refl)
