-- What the words of the operations of pins and references come to: pin, unpin, take, give, get, put, and a device's
-- transfers.
use Rattle.std.proofs.Common.{◌≡◌, ℕ, Bool, true, false, cond, List, [], ◌∷◌, length, Option, Some, None, Ok, Err, refl, sym, ap, subst, ◌∙◌, inl, inr, lit<}
use Rattle.std.specs.Prelude.{codes}
use Rattle.std.specs.Str.{bytes_eq}
use Rattle.gup_spec_grammar.specs.Spelling.{IsRange}
use Rattle.gup_script.specs.declared.op.Op.TheVariants as ops
use Rattle.gup_script.specs.Limits.{most_pinned, most_words}
use Rattle.gup_spec_grammar.specs.declared.fault.Reason.TheVariants as reasons
use Rattle.gup_spec_grammar.specs.Said.{Word, pins, unpins, takes, gives, gets, puts, transfers, pin_word, write_word, transfer_word}
use Rattle.gup_spec_grammar.specs.Outline.{Outline}
use Rattle.gup_spec_grammar.specs.Grammar.{want_of}
use Rattle.gup_read.specs.Reading.{◌>>=◌, check, way_in, pinned_in, pin_in, unpin_in, take_in, give_in, get_in, put_in, transfer_in}
use Rattle.gup_read.proofs.Chains.{goes, checked, both, all_three, same_word, unused_Decides}
use Rattle.gup_read.proofs.ActionWords.{said_with, action_in}
use Rattle.gup_read.proofs.Judged.{Ends, built, Judged, Told, range_step, page_step, index_step, count_step, name_Decides, pin_step, got_step, receiver_step, handle_step}

-- ---- pins

way_found : (word : Word) (write : Bool) → way_in word ≡ Some write → word ≡ write_word write
unfolding way_in
way_found word write e = way (bytes_eq word (codes "read")) refl (bytes_eq word (codes "write")) refl e where
  way : (b : Bool) → bytes_eq word (codes "read") ≡ b → (c : Bool) → bytes_eq word (codes "write") ≡ c → cond b (Some false) (cond c (Some true) None) ≡ Some write → word ≡ write_word write
  way true r c w e = let same : false ≡ write = cc in same_word word (codes "read") r ∙ ap write_word same
  way false r true w e = let same : true ≡ write = cc in same_word word (codes "write") w ∙ ap write_word same
  way false r false w e = absurd cc

way_again : (write : Bool) → way_in (write_word write) ≡ Some write
unfolding way_in
way_again true = refl
way_again false = refl

-- a pin is built
pin_ends : (st : Outline) (fast long write : Bool) (handle first count : Word) (page n : ℕ) → IsRange most_pinned first count page n → Ends st (pins fast handle first count write long) (Ok (ops.Pin (length st.script.handles) page n (want_of write long) fast))
pin_ends st fast long write handle first count page n h = built (ops.Pin (length st.script.handles) page n (want_of write long) fast) refl (page, n, h, refl)

pin_judged : (st : Outline) (a : ℕ) (fast long write : Bool) (handle first count : Word) → Judged st a (pins fast handle first count write long) (pinned_in fast long st handle first count (write_word write))
unfolding pinned_in
pin_judged st a fast long write handle first count = rw (way_again write) (goes tt (range_step most_pinned first count _ (λ page n h.
    checked _ (name_Decides handle) (λ g. checked _ (unused_Decides st.names handle) (λ u. handle_step st _ (pin_ends st fast long write handle first count page n h))))))

way_stops : (now long : Bool) (st : Outline) (handle first count way : Word) → way_in way ≡ None → pinned_in now long st handle first count way ≡ Err reasons.Shape
unfolding pinned_in
way_stops now long st handle first count way e = rw e refl

pub pin_told : (st : Outline) (a : ℕ) (fast : Bool) (fields : List Word) → Told st a (pin_word fast ∷ fields) (pin_in fast st fields)
unfolding pin_in
pin_told st a fast (handle ∷ first ∷ count ∷ way ∷ []) = short (way_in way) refl where
  short : (o : Option Bool) → way_in way ≡ o → Told st a (pin_word fast ∷ handle ∷ first ∷ count ∷ way ∷ []) (pinned_in fast false st handle first count way)
  short None e = inr (way_stops fast false st handle first count way e, said fast) where
    said : (b : Bool) → action_in (pin_word b ∷ handle ∷ first ∷ count ∷ way ∷ []) ≡ None
    said true = ap (said_with (λ write. pins true handle first count write false)) e
    said false = ap (said_with (λ write. pins false handle first count write false)) e
  short (Some write) e =
      let is = way_found way write e in
      inl (
        pins fast handle first count write false,
        ap (λ (w : Word). pin_word fast ∷ handle ∷ first ∷ count ∷ w ∷ []) is,
        subst (λ (w : Word). Judged st a (pins fast handle first count write false) (pinned_in fast false st handle first count w)) (sym is) (pin_judged st a fast false write handle first count),
      )
pin_told st a fast (handle ∷ first ∷ count ∷ way ∷ word ∷ []) = tested (bytes_eq word (codes "long")) refl (way_in way) refl where
  said : (b c : Bool) (o : Option Bool) → bytes_eq word (codes "long") ≡ c → way_in way ≡ o → action_in (pin_word b ∷ handle ∷ first ∷ count ∷ way ∷ word ∷ []) ≡ cond c (said_with (λ write. pins b handle first count write true) o) None
  said true c o l e = rw (l, e) refl
  said false c o l e = rw (l, e) refl

  tested : (b : Bool) → bytes_eq word (codes "long") ≡ b → (o : Option Bool) → way_in way ≡ o → Told st a (pin_word fast ∷ handle ∷ first ∷ count ∷ way ∷ word ∷ []) (check reasons.Shape b >>= λ _. pinned_in fast true st handle first count way)
  tested false l o e = inr (refl, said fast false o l e)
  tested true l None e = inr (way_stops fast true st handle first count way e, said fast true None l e)
  tested true l (Some write) e =
      let is = way_found way write e in
      let long = same_word word (codes "long") l in
      inl (
        pins fast handle first count write true,
        cc (is, long),
        subst (λ (w : Word). Judged st a (pins fast handle first count write true) (pinned_in fast true st handle first count w)) (sym is) (pin_judged st a fast true write handle first count),
      )
pin_told st a true _ = inr (refl, refl)
pin_told st a false _ = inr (refl, refl)

-- ---- unpin, take, give

pub unpin_told : (st : Outline) (a : ℕ) (fields : List Word) → Told st a (codes "unpin" ∷ fields) (unpin_in st fields)
unfolding unpin_in
unpin_told st a (handle ∷ []) =
    inl (unpins handle, refl, goes tt (goes tt (pin_step st handle _ (λ h is. goes tt (goes tt (built (ops.Unpin h) refl (h, is, refl)))))))
unpin_told st a _ = inr (refl, refl)

pub take_told : (st : Outline) (a : ℕ) (fields : List Word) → Told st a (codes "take" ∷ fields) (take_in st fields)
unfolding take_in
take_told st a (handle ∷ []) =
    inl (takes handle, refl, goes tt (goes tt (pin_step st handle _ (λ h is. goes tt (goes tt (built (ops.Take h) refl (h, is, refl)))))))
take_told st a _ = inr (refl, refl)

pub give_told : (st : Outline) (a : ℕ) (fields : List Word) → Told st a (codes "give" ∷ fields) (give_in st fields)
unfolding give_in
give_told st a (handle ∷ to ∷ []) =
    inl (
      gives handle to,
      refl,
      goes tt (goes tt (both (pin_step st handle _ (λ h is. receiver_step st to _ (λ b at.
          goes tt (goes tt (built (ops.Give h b) refl (h, b, is, at, refl)))))))),
    )
give_told st a _ = inr (refl, refl)

-- ---- get, put

pub get_told : (st : Outline) (a : ℕ) (fields : List Word) → Told st a (codes "get" ∷ fields) (get_in st fields)
unfolding get_in
get_told st a (handle ∷ page ∷ []) =
    inl (
      gets handle page,
      refl,
      goes tt (page_step page _ (λ p h.
          checked _ (name_Decides handle) (λ g. checked _ (unused_Decides st.names handle) (λ u.
          handle_step st _ (built (ops.Get (length st.script.handles) p) refl (p, h, refl)))))),
    )
get_told st a _ = inr (refl, refl)

pub put_told : (st : Outline) (a : ℕ) (fields : List Word) → Told st a (codes "put" ∷ fields) (put_in st fields)
unfolding put_in
put_told st a (handle ∷ []) =
    inl (puts handle, refl, goes tt (goes tt (got_step st handle _ (λ h is. goes tt (goes tt (built (ops.Put h) refl (h, is, refl)))))))
put_told st a _ = inr (refl, refl)

-- ---- transfers

pub transfer_told : (st : Outline) (a : ℕ) (outward : Bool) (fields : List Word) → Told st a (transfer_word outward ∷ fields) (transfer_in outward st fields)
unfolding transfer_in
transfer_told st a outward (handle ∷ index ∷ slot ∷ count ∷ []) =
    inl (
      transfers outward handle index slot count,
      refl,
      goes tt (all_three (index_step index _ (λ i hi. index_step slot _ (λ s hs. count_step 1 most_words count _ (lit< tt) (λ n hn.
          pin_step st handle _ (λ h is. goes tt (goes tt (built (ops.Transfer h outward s ((i, n) ∷ [])) refl (h, i, s, n, is, hi, hs, hn, refl))))))))),
    )
transfer_told st a true _ = inr (refl, refl)
transfer_told st a false _ = inr (refl, refl)
