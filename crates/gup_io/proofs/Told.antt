-- Steps on told bytes: one piece more is taken or given, and some more are lost.
use Rattle.std.proofs.Common.{◌≡◌, ℕ, ◌+◌, ◌≤◌, List, Option, Some, None, ◌++◌, length, take, drop, sym, ap, subst, refl, ◌∙◌, arith}
use Rattle.std.proofs.lemmas.List.{take-append-drop, drop-drop, drop_at, length-append}
use Rattle.std.proofs.Math.Seq.{take-add}
use Rattle.std.proofs.KnownBytes.{Appends-trans}
use Rattle.std.specs.Io.KnownBytes.{Appends, Consumes}
use Rattle.gup_io.specs.Transfers.{Loses}

-- what a buffer holds of the bytes from a place on, and then those after it
pub drop_split : (bytes : List ℕ) (at n : ℕ) (buf : List ℕ) → take n buf ≡ take n (drop at bytes) → drop at bytes ≡ take n buf ++ drop (at + n) bytes
drop_split bytes at n buf e =
    sym (take-append-drop n (drop at bytes)) ∙ ap (λ l. l ++ drop n (drop at bytes)) (sym e) ∙ ap (λ l. take n buf ++ l) (drop-drop n at bytes)

-- a prefix of a text and a piece more
pub Appends-more : (a b c : Option (List ℕ)) (text : List ℕ) (at n : ℕ) → Appends a b (take at text) → Appends b c (take n (drop at text)) → Appends a c (take (at + n) text)
Appends-more a b c text at n p q = subst (Appends a c) (sym (take-add at n text)) (Appends-trans a b c _ _ p q)

-- what was given is lost, and some more
pub Loses-more : (a b c : Option (List ℕ)) (given : List ℕ) (least left most : ℕ) → Consumes a b given → Loses least left b c → length given + left ≤ most → Loses least most a c
Loses-more None b c given least left most p q h = tt
Loses-more (Some x) None c given least left most p q h = absurd p
Loses-more (Some x) (Some y) c given least left most p (n, enough, within, there, rest) h =
    let same : drop n y ≡ drop (length given + n) x = ap (drop n) (sym (drop_at given y (length given) refl) ∙ ap (drop (length given)) (sym p)) ∙ drop-drop n (length given) x in
    let fits : length given + n ≤ length x = omega (arith, ap length p, length-append given y) in
    (length given + n, omega arith, omega arith, fits, rest ∙ ap Some same)
