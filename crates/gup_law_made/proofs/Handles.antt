-- The lines of rounds that make a handle and give it up again keep texts good.
use Rattle.std.proofs.Common.{◌≡◌, ℕ, ◌+◌, ◌<◌, ◌≤◌, true, false, List, ◌∷◌, ◌++◌, length, codes, decimal, Some, refl, lit<, mod-lt, arith}
use Rattle.std.specs.List.{join_with_byte}
use Rattle.gup_script.specs.declared.op.Kind.TheVariants.{Thread}
use Rattle.gup_script.specs.declared.op.Op.TheVariants as ops
use Rattle.gup_spec_grammar.specs.declared.named.Named.TheVariants as named
use Rattle.gup_spec_grammar.specs.Names.{find}
use Rattle.gup_spec_grammar.specs.Outline.{Outline, with_handle, with_reference, with_operation, next_state, drawn}
use Rattle.gup_spec_grammar.specs.Said.{Word, Action, action_words, pins, gets, puts, unpins}
use Rattle.gup_spec_grammar.specs.Grammar.{want_of}
use Rattle.gup_make.specs.Made.{pin_name, reference_name, pin_lines, get_lines}
use Rattle.gup_law_made.proofs.Texts.{IsPlain}
use Rattle.gup_law_made.proofs.Numbers.{decimal_plain, pin_name_plain, pin_name_right, reference_name_plain, reference_name_right}
use Rattle.gup_law_made.proofs.Entries.{found_itself}
use Rattle.gup_law_made.proofs.Standing.{Standing, standing_operation, standing_pin, standing_reference}
use Rattle.gup_law_made.proofs.Good.{Good, IsGood, IsActor, good_later, acted, Keeps}

-- the text with one line more, by which an actor does this
abbrev acting : List ℕ → Word → Action → List ℕ
acting text name action = text ++ (join_with_byte 32 (codes "on" ∷ name ∷ action_words action) ++ codes "\n")

-- ---- a pin

-- the outline behind a pin
abbrev pinned : (a page count : ℕ) (name : Word) → Outline → Outline
pinned a page count name st = with_operation a (ops.Pin (length st.script.handles) page count (want_of true false) true) (with_handle name st)

pinned_good : (n k handles p page count : ℕ) (text : List ℕ) (st : Outline) (thread : Word) → (actor : IsActor thread (Thread p)) → Good n k handles text st → n < 900 → page < 60 → 1 ≤ count → count ≤ 4 → Good (n + 1 + 1) k (handles + 1) (acting text thread (pins true (pin_name (handles + 1)) (decimal page) (decimal count) true false)) (pinned actor.number page count (pin_name (handles + 1)) st)
pinned_good n k handles p page count text st thread actor g few first least most =
    let name = pin_name (handles + 1) in
    let few_names = g.few in
    let few_handles = g.standing.few_handles in
    let standing : Standing (n + 1 + 1) k (handles + 1) (pinned actor.number page count name st) =
    standing_operation (n + 1) k k (handles + 1) (with_handle name st) actor.number (ops.Pin (length st.script.handles) page count (want_of true false) true) (omega arith) (λ child lt. refl) (standing_pin n k handles st (named.Pin (length st.script.handles)) (omega arith) g.standing) in
    acted n k k handles (handles + 1) text st thread (Thread p) (pins true name (decimal page) (decimal count) true false) (ops.Pin (length st.script.handles) page count (want_of true false) true) actor g (omega arith) (8, lit< tt, refl)
    (refl, (pin_name_plain (handles + 1) (omega arith), (decimal_plain page (omega arith), (decimal_plain count (omega arith), (refl, tt))))) (omega arith) (record {
      shaped = tt;
      numbers = (page, count, (refl, refl, least, omega arith, omega arith));
      names = pin_name_right (handles + 1) (omega arith);
      once = g.standing.fresh_pin (handles + 1) (omega arith) (omega arith);
      limits = omega arith;
      means = (page, count, (refl, refl, least, omega arith, omega arith), refl);
    }) (n + 1 + 1) (omega arith) (omega arith) standing

-- an unpin of what the name names
unpinned_good : (n k handles p pin : ℕ) (text : List ℕ) (st : Outline) (thread name : Word) → (actor : IsActor thread (Thread p)) → Good n k handles text st → n < 1000 → IsPlain name → find st.names name ≡ Some (named.Pin pin) → Good (n + 1) k handles (acting text thread (unpins name)) (with_operation actor.number (ops.Unpin pin) st)
unpinned_good n k handles p pin text st thread name actor g few plain names =
    let few_names = g.few in
    acted n k k handles handles text st thread (Thread p) (unpins name) (ops.Unpin pin) actor g few (12, lit< tt, refl) (refl, (plain, tt)) (omega arith) (record {
      shaped = tt;
      numbers = tt;
      names = (pin, names);
      once = tt;
      limits = tt;
      means = (pin, names, refl);
    }) (n + 1) (omega arith) (omega arith) (standing_operation n k k handles st actor.number (ops.Unpin pin) (omega arith) (λ child lt. refl) g.standing)

pins_good : (n k handles p page count : ℕ) (text : List ℕ) (thread : Word) → IsActor thread (Thread p) → n + 3 ≤ 900 → page < 60 → 1 ≤ count → count ≤ 4 → IsGood n k handles text
    → IsGood (n + 3) k (handles + 1) (acting (acting text thread (pins true (pin_name (handles + 1)) (decimal page) (decimal count) true false)) thread (unpins (pin_name (handles + 1))))
pins_good n k handles p page count text thread actor few first least most g =
    let st = g.0 in
    let name = pin_name (handles + 1) in
    let few_names = g.1.few in
    let pin = length st.script.handles in
    let before : Outline = pinned actor.number page count name st in
    let names : find before.names name ≡ Some (named.Pin pin) = found_itself st.names name (named.Pin pin) (g.1.standing.fresh_pin (handles + 1) (omega arith) (omega arith)) in
    let good = pinned_good n k handles p page count text st thread actor g.1 (omega arith) first least most in
    let last = unpinned_good (n + 1 + 1) k (handles + 1) p pin (acting text thread (pins true name (decimal page) (decimal count) true false)) before thread name actor good (omega arith) (pin_name_plain (handles + 1) (omega arith)) names in
    (with_operation actor.number (ops.Unpin pin) before, good_later (n + 1 + 1 + 1) (n + 3) k k (handles + 1) _ _ (omega arith) (omega arith) last)

pub pin_keeps : (k p : ℕ) (thread : Word) → IsActor thread (Thread p) → Keeps 3 k (pin_lines thread)
pin_keeps k p thread actor n made few g =
    let page = drawn 60 (next_state made.state) in
    let count = drawn 4 (next_state (next_state made.state)) in
    let within : count < 4 = mod-lt _ (omega arith) in
    pins_good n k made.handles p page (1 + count) made.text thread actor few (mod-lt _ (omega arith)) (omega arith) (omega arith) g

-- ---- a reference

-- the outline behind a reference that is got
abbrev got : (a page : ℕ) (name : Word) → Outline → Outline
got a page name st = with_operation a (ops.Get (length st.script.handles) page) (with_reference name st)

got_good : (n k handles p page : ℕ) (text : List ℕ) (st : Outline) (thread : Word) → (actor : IsActor thread (Thread p)) → Good n k handles text st → n < 900 → page < 64 → Good (n + 1 + 1) k (handles + 1) (acting text thread (gets (reference_name (handles + 1)) (decimal page))) (got actor.number page (reference_name (handles + 1)) st)
got_good n k handles p page text st thread actor g few first =
    let name = reference_name (handles + 1) in
    let few_names = g.few in
    let few_handles = g.standing.few_handles in
    let standing : Standing (n + 1 + 1) k (handles + 1) (got actor.number page name st) =
    standing_operation (n + 1) k k (handles + 1) (with_reference name st) actor.number (ops.Get (length st.script.handles) page) (omega arith) (λ child lt. refl) (standing_reference n k handles st (named.Got (length st.script.handles)) (omega arith) g.standing) in
    acted n k k handles (handles + 1) text st thread (Thread p) (gets name (decimal page)) (ops.Get (length st.script.handles) page) actor g (omega arith) (9, lit< tt, refl)
    (refl, (reference_name_plain (handles + 1) (omega arith), (decimal_plain page (omega arith), tt))) (omega arith) (record {
      shaped = tt;
      numbers = (page, (refl, omega arith));
      names = reference_name_right (handles + 1) (omega arith);
      once = g.standing.fresh_reference (handles + 1) (omega arith) (omega arith);
      limits = omega arith;
      means = (page, (refl, omega arith), refl);
    }) (n + 1 + 1) (omega arith) (omega arith) standing

-- a put of what the name names
put_good : (n k handles p reference : ℕ) (text : List ℕ) (st : Outline) (thread name : Word) → (actor : IsActor thread (Thread p)) → Good n k handles text st → n < 1000 → IsPlain name → find st.names name ≡ Some (named.Got reference) → Good (n + 1) k handles (acting text thread (puts name)) (with_operation actor.number (ops.Put reference) st)
put_good n k handles p reference text st thread name actor g few plain names =
    let few_names = g.few in
    acted n k k handles handles text st thread (Thread p) (puts name) (ops.Put reference) actor g few (10, lit< tt, refl) (refl, (plain, tt)) (omega arith) (record {
      shaped = tt;
      numbers = tt;
      names = (reference, names);
      once = tt;
      limits = tt;
      means = (reference, names, refl);
    }) (n + 1) (omega arith) (omega arith) (standing_operation n k k handles st actor.number (ops.Put reference) (omega arith) (λ child lt. refl) g.standing)

gets_good : (n k handles p page : ℕ) (text : List ℕ) (thread : Word) → IsActor thread (Thread p) → n + 3 ≤ 900 → page < 64 → IsGood n k handles text
    → IsGood (n + 3) k (handles + 1) (acting (acting text thread (gets (reference_name (handles + 1)) (decimal page))) thread (puts (reference_name (handles + 1))))
gets_good n k handles p page text thread actor few first g =
    let st = g.0 in
    let name = reference_name (handles + 1) in
    let few_names = g.1.few in
    let reference = length st.script.handles in
    let before : Outline = got actor.number page name st in
    let names : find before.names name ≡ Some (named.Got reference) = found_itself st.names name (named.Got reference) (g.1.standing.fresh_reference (handles + 1) (omega arith) (omega arith)) in
    let good = got_good n k handles p page text st thread actor g.1 (omega arith) first in
    let last = put_good (n + 1 + 1) k (handles + 1) p reference (acting text thread (gets name (decimal page))) before thread name actor good (omega arith) (reference_name_plain (handles + 1) (omega arith)) names in
    (with_operation actor.number (ops.Put reference) before, good_later (n + 1 + 1 + 1) (n + 3) k k (handles + 1) _ _ (omega arith) (omega arith) last)

pub get_keeps : (k p : ℕ) (thread : Word) → IsActor thread (Thread p) → Keeps 3 k (get_lines thread)
get_keeps k p thread actor n made few g = gets_good n k made.handles p (drawn 64 (next_state made.state)) made.text thread actor few (mod-lt _ (omega arith)) g
