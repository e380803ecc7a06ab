-- What the words of the operations that are built come to, but for those of handles.
use Rattle.gup_base.specs.declared.entry.Zone.{Zone}
use Rattle.gup_base.specs.declared.entry.Zone.TheVariants.{Movable, Normal}
use Rattle.std.proofs.Common.{◌≡◌, ℕ, Bool, true, false, cond, List, [], ◌∷◌, Option, Some, None, Ok, refl, ap, ◌∙◌, inl, inr}
use Rattle.std.specs.Prelude.{codes}
use Rattle.std.specs.Str.{bytes_eq}
use Rattle.gup_base.specs.declared.entry.Rights.{Rights}
use Rattle.gup_base.specs.declared.entry.Rights.TheVariants.{R, RW}
use Rattle.gup_read_words.specs.Text.{range_in, page_in}
use Rattle.gup_script.specs.declared.op.Op.TheVariants as ops
use Rattle.gup_spec_grammar.specs.declared.fault.Reason.TheVariants as reasons
use Rattle.gup_spec_grammar.specs.Said.{Word, maps, unmaps, protects, discards, loads, stores, forks, exits, rights_word, moves, zone_word}
use Rattle.gup_spec_grammar.specs.Outline.{Outline}
use Rattle.gup_spec_grammar.specs.Names.{find}
use Rattle.gup_read_outline.specs.Named.{process_of}
use Rattle.gup_read.specs.Reading.{◌>>=◌, need, rights_in, map_in, unmap_in, protect_in, discard_in, load_in, store_in, fork_in, exit_in, zone_in, move_in}
use Rattle.gup_read.proofs.Chains.{goes, checked, both, same_word}
use Rattle.gup_read.proofs.ActionWords.{said_with}
use Rattle.gup_read.proofs.Judged.{built, Told, number_step, address_step, range_step, child_step, unforked_Decides, page_step, process_step}

-- ---- rights

rights_found : (word : Word) (rights : Rights) → rights_in word ≡ Some rights → word ≡ rights_word rights
unfolding rights_in
rights_found word rights e = way (bytes_eq word (codes "r")) refl (bytes_eq word (codes "rw")) refl e where
  way : (b : Bool) → bytes_eq word (codes "r") ≡ b → (c : Bool) → bytes_eq word (codes "rw") ≡ c → cond b (Some R) (cond c (Some RW) None) ≡ Some rights → word ≡ rights_word rights
  way true r c w e = let same : R ≡ rights = cc in same_word word (codes "r") r ∙ ap rights_word same
  way false r true w e = let same : RW ≡ rights = cc in same_word word (codes "rw") w ∙ ap rights_word same
  way false r false w e = absurd cc

-- ---- map, unmap, protect, discard

pub map_told : (st : Outline) (a : ℕ) (fields : List Word) → Told st a (codes "map" ∷ fields) (map_in fields)
unfolding map_in
map_told st a (first ∷ count ∷ allowed ∷ []) = way (rights_in allowed) refl where
  way : (o : Option Rights) → rights_in allowed ≡ o → Told st a (codes "map" ∷ first ∷ count ∷ allowed ∷ []) (need reasons.Shape o >>= λ rights. need reasons.Number (range_in 1024 first count) >>= λ range. Ok (ops.Map range.0 range.1 rights))
  way None e = inr (refl, ap (said_with (maps first count)) e)
  way (Some rights) e =
      inl (
        maps first count rights,
        ap (λ (w : Word). codes "map" ∷ first ∷ count ∷ w ∷ []) (rights_found allowed rights e),
        goes tt (range_step 1024 first count _ (λ page n h. goes tt (goes tt (goes tt (built (ops.Map page n rights) refl (page, n, h, refl)))))),
      )
map_told st a _ = inr (refl, refl)

pub protect_told : (st : Outline) (a : ℕ) (fields : List Word) → Told st a (codes "protect" ∷ fields) (protect_in fields)
unfolding protect_in
protect_told st a (first ∷ count ∷ allowed ∷ []) = way (rights_in allowed) refl where
  way : (o : Option Rights) → rights_in allowed ≡ o → Told st a (codes "protect" ∷ first ∷ count ∷ allowed ∷ []) (need reasons.Shape o >>= λ rights. need reasons.Number (range_in 1024 first count) >>= λ range. Ok (ops.Protect range.0 range.1 rights))
  way None e = inr (refl, ap (said_with (protects first count)) e)
  way (Some rights) e =
      inl (
        protects first count rights,
        ap (λ (w : Word). codes "protect" ∷ first ∷ count ∷ w ∷ []) (rights_found allowed rights e),
        goes tt (range_step 1024 first count _ (λ page n h. goes tt (goes tt (goes tt (built (ops.Protect page n rights) refl (page, n, h, refl)))))),
      )
protect_told st a _ = inr (refl, refl)

pub unmap_told : (st : Outline) (a : ℕ) (fields : List Word) → Told st a (codes "unmap" ∷ fields) (unmap_in fields)
unfolding unmap_in
unmap_told st a (first ∷ count ∷ []) =
    inl (unmaps first count, refl, goes tt (range_step 1024 first count _ (λ page n h. goes tt (goes tt (goes tt (built (ops.Unmap page n) refl (page, n, h, refl)))))))
unmap_told st a _ = inr (refl, refl)

pub discard_told : (st : Outline) (a : ℕ) (fields : List Word) → Told st a (codes "discard" ∷ fields) (discard_in fields)
unfolding discard_in
discard_told st a (first ∷ count ∷ []) =
    inl (discards first count, refl, goes tt (range_step 1024 first count _ (λ page n h. goes tt (goes tt (goes tt (built (ops.Discard page n) refl (page, n, h, refl)))))))
discard_told st a _ = inr (refl, refl)

-- ---- load, store, fork, exit

pub load_told : (st : Outline) (a : ℕ) (fields : List Word) → Told st a (codes "load" ∷ fields) (load_in fields)
unfolding load_in
load_told st a (address ∷ []) =
    inl (loads address, refl, goes tt (address_step address _ (λ page w h. goes tt (goes tt (goes tt (built (ops.Load page w) refl (page, w, h, refl)))))))
load_told st a _ = inr (refl, refl)

pub store_told : (st : Outline) (a : ℕ) (fields : List Word) → Told st a (codes "store" ∷ fields) (store_in fields)
unfolding store_in
store_told st a (address ∷ value ∷ []) =
    inl (
      stores address value,
      refl,
      goes tt (both (address_step address _ (λ page w h. number_step value _ (λ v g. goes tt (goes tt (goes tt (built (ops.Store page w v) refl (page, w, v, h, g, refl)))))))),
    )
store_told st a _ = inr (refl, refl)

pub fork_told : (st : Outline) (a : ℕ) (fields : List Word) → Told st a (codes "fork" ∷ fields) (fork_in st fields)
unfolding fork_in
fork_told st a (child ∷ []) =
    inl (
      forks child,
      refl,
      goes tt (goes tt (child_step st child _ (λ p h. checked _ (unforked_Decides st child p h) (λ u. goes tt (built (ops.Fork p) refl (p, h, refl)))))),
    )
fork_told st a _ = inr (refl, refl)

pub exit_told : (st : Outline) (a : ℕ) (fields : List Word) → Told st a (codes "exit" ∷ fields) (exit_in fields)
unfolding exit_in
exit_told st a [] = inl (exits, refl, goes tt (goes tt (goes tt (goes tt (goes tt (built ops.Exit refl refl))))))
exit_told st a _ = inr (refl, refl)

-- ---- moves

zone_found : (word : Word) (zone : Zone) → zone_in word ≡ Some zone → word ≡ zone_word zone
zone_found word zone e = way (bytes_eq word (codes "normal")) refl (bytes_eq word (codes "movable")) refl e where
  way : (b : Bool) → bytes_eq word (codes "normal") ≡ b → (c : Bool) → bytes_eq word (codes "movable") ≡ c → cond b (Some Normal) (cond c (Some Movable) None) ≡ Some zone → word ≡ zone_word zone
  way true n c m e = let same : Normal ≡ zone = cc in same_word word (codes "normal") n ∙ ap zone_word same
  way false n true m e = let same : Movable ≡ zone = cc in same_word word (codes "movable") m ∙ ap zone_word same
  way false n false m e = absurd cc

pub move_told : (st : Outline) (a : ℕ) (fields : List Word) → Told st a (codes "move" ∷ fields) (move_in st fields)
unfolding move_in
move_told st a (process ∷ page ∷ word ∷ []) = way (zone_in word) refl where
  way : (o : Option Zone) → zone_in word ≡ o → Told st a (codes "move" ∷ process ∷ page ∷ word ∷ []) (need reasons.Shape o >>= λ z. need reasons.Number (page_in page) >>= λ g. need reasons.Name (process_of (find st.names process)) >>= λ p. Ok (ops.Move p g z))
  way None e = inr (refl, ap (said_with (moves process page)) e)
  way (Some zone) e =
      inl (
        moves process page zone,
        ap (λ (w : Word). codes "move" ∷ process ∷ page ∷ w ∷ []) (zone_found word zone e),
        goes tt (page_step page _ (λ g h. process_step st process _ (λ p is. goes tt (goes tt (built (ops.Move p g zone) refl (p, g, is, h, refl)))))),
      )
move_told st a _ = inr (refl, refl)
