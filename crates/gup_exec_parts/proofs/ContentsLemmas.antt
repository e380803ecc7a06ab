-- The words of an object end where a page does.
use Rattle.std.proofs.Common.{◌≡◌, ℕ, ◌≤◌, List, Option, None, Some, refl, arith}
use Rattle.std.proofs.Math.Path.{fun_ext}
use Rattle.std.proofs.lemmas.Bool.Decides.{nat_tests}
use Rattle.std.specs.Option.{option_map_or}
use Rattle.std.specs.Ordering.{nat_cmp}
use Rattle.std.specs.BTreeMap.{get}
use Rattle.gup_plain.specs.Put.{spread}
use Rattle.gup_exec_parts.specs.Words.{word_of}
use Rattle.gup_exec_parts.specs.declared.contents.Contents.{Contents}
use Rattle.gup_exec_parts.specs.Contents.{content_of}

past-end : (found : Option (List ℕ)) (word : ℕ) → 512 ≤ word → option_map_or word_of found (λ _. 0) word ≡ 0
past-end None word past = refl
past-end (Some items) word past = grind (arith, nat_tests)

-- the first 512 words are all of them
pub copied-whole : (c : Contents) (from to : ℕ) → spread 0 512 (content_of c from) (content_of c to) ≡ content_of c from
copied-whole c from to =
    fun_ext
    (λ word.
    let here = past-end (get nat_cmp c.words from) word in
    let there = past-end (get nat_cmp c.words to) word in
    grind (arith, nat_tests, here, there))
